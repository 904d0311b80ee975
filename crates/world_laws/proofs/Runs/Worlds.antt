-- The worlds of timed runs are lawful.
use Rattle.std.proofs.Common.{◌≡◌, List, [], ◌∷◌, Some, None, refl, sym, ◌∙◌, ap, subst}
use Rattle.pump_frame.specs.declared.row.SessionRow.{SessionRow}
use Rattle.pump_core.specs.World.{World}
use Rattle.pump_core.specs.declared.event.Event.{Event}
use Rattle.pump_core.specs.declared.event.Event.TheVariants.{StoreBegin, StoreEnd, Forward, TakeUp, Send, CarryData, TakeBegin, TakeEnd, ReturnTaken, RemoveBegin, RemoveEnd, Acknowledge, Crash}
use Rattle.pump_core.specs.Lawful.{IsLawful}
use Rattle.pump_core.proofs.Laws.{begins_lawful, stays_lawful}
use Rattle.pump_core.specs.Timed.{Step, Arrives, LowLook, HighLook, Offer, Read, Publish, Occurs, Point, after_event, LeadsTo, StepsTo}

-- the world after an event is that to which it leads
pub world_after : (t : Point) (e : Event) (v : World) → (after_event t e v).world ≡ v
world_after t (StoreBegin p) v = refl
world_after t StoreEnd v = refl
world_after t Forward v = refl
world_after t TakeUp v = refl
world_after t Send v = refl
world_after t (CarryData k) v = refl
world_after t TakeBegin v = refl
world_after t TakeEnd v = refl
world_after t (ReturnTaken k) v = refl
world_after t RemoveBegin v = refl
world_after t RemoveEnd v = refl
world_after t (Acknowledge n) v = refl
world_after t (Crash None r) v = refl
world_after t (Crash (Some p) r) v = refl

abbrev onto : (u t : Point) → u.world ≡ t.world → IsLawful t.world → IsLawful u.world
onto u t e l = subst IsLawful (sym e) l

abbrev world : Point → World
world t = t.world

moves_lawfully : (row : SessionRow) (t : Point) (s : Step) (u : Point) → IsLawful t.world
    → StepsTo row t s u → IsLawful u.world
moves_lawfully row t (Arrives c) u l m = onto u t (ap world m) l
moves_lawfully row t (LowLook a b c d) u l m = onto u t (ap world m.1) l
moves_lawfully row t (HighLook a) u l m = onto u t (ap world m.2) l
moves_lawfully row t Offer u l m = onto u t (ap world m) l
moves_lawfully row t Read u l m = onto u t (ap world m) l
moves_lawfully row t Publish u l m = onto u t (ap world m.2) l
moves_lawfully row t (Occurs e) u l (v, h, waits, m) =
    subst IsLawful (sym (ap world m ∙ world_after t e v)) (stays_lawful t.world e v l h)

pub leads_lawfully : (row : SessionRow) (steps : List Step) (t : Point) → LeadsTo row steps t
    → IsLawful t.world
leads_lawfully row [] t (w, b, c, e) = subst IsLawful (sym (ap world e)) (begins_lawful w b)
leads_lawfully row (s ∷ past) u (t, before, m) =
    moves_lawfully row t s u (leads_lawfully row past t before) m
