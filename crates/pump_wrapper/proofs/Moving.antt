-- A line of the receiver's side leaves the accepted list as it was.
use Rattle.std.proofs.Common.{◌≡◌, ⊎_elim, ℕ, Bool, true, false, cond, List, [], ◌∷◌, length, Option, Some, None, refl, ◌∙◌, sym, subst}
use Rattle.std.specs.Prelude.{◌==◌, ◌&&◌, nat_lt}
use Rattle.disk_model.specs.declared.name.Role.{Role}
use Rattle.disk_model.specs.declared.name.Role.TheVariants as roles
use Rattle.pump_frame.specs.declared.row.SessionRow.{SessionRow}
use Rattle.pump_core.specs.declared.event.Event.{Event}
use Rattle.pump_core.specs.declared.event.Event.TheVariants.{TakeUp, CarryData, TakeBegin, TakeEnd, RemoveBegin, RemoveEnd}
use Rattle.pump_core.specs.World.{World}
use Rattle.pump_core.specs.Events.{Happens, Run, holds}
use Rattle.pump_core.specs.HighLooks.{Perhaps, Returns, IsSent}
use Rattle.script_reader.specs.declared.event.Event.{Event as Printed}
use Rattle.script_reader.specs.Past.{Past}
use Rattle.script_reader.specs.Breaks.{IsUnremoved, IsUntaken, BreaksOff}
use Rattle.script_reader.specs.Highs.{IsWholeLook, IsCarried, place}

-- nothing is accepted or begins to be
pub record Keeps (w v : World) : Type 0 where
  pub accepted : v.accepted ≡ w.accepted
  pub storing : v.storing ≡ w.storing

keeps : (w : World) → Keeps w w
keeps w = record { accepted = refl; storing = refl }

by_same : (w v x : World) → v ≡ x → Keeps w x → Keeps w v
by_same w v x e a = subst (Keeps w) (sym e) a

pub keeps_same : (w v : World) → v ≡ w → Keeps w v
keeps_same w v e = by_same w v w e (keeps w)

pub twice : (w u v : World) → Keeps w u → Keeps u v → Keeps w v
twice w u v a b = record { accepted = b.accepted ∙ a.accepted; storing = b.storing ∙ a.storing }

-- a world with other hands, marks and packets
pub aside : (w v x : World) → x.accepted ≡ w.accepted → x.storing ≡ w.storing → v ≡ x → Keeps w v
aside w v x accepted storing e = by_same w v x e (record { accepted = accepted; storing = storing })

either : (b : Bool) (w v u : World) → Keeps w v → Keeps w u → Keeps w (cond b v u)
either true w v u h k = h
either false w v u h k = k

returns_keep : (w : World) (back : Option ℕ) (v : World) → Returns w back v → Keeps w v
returns_keep w None v e = keeps_same w v e
returns_keep w (Some k) v h = by_same w v _ h.3 (either (h.0 == w.removed && holds w.high_hand h.0) w _ w (record { accepted = refl; storing = refl }) (keeps w))

perhaps_keep : (w : World) (e : Event) (es : List Event) (v : World) → (Run w (e ∷ es) v → Keeps w v) → Perhaps w e es v → Keeps w v
perhaps_keep w e es v run h = ⊎_elim run (λ (o : ((x : World) → Happens w e x → ⊥) × (v ≡ w)). keeps_same w v o.1) h

removes_keep : (w v : World) → Perhaps w RemoveBegin (RemoveEnd ∷ []) v → Keeps w v
removes_keep w v h = perhaps_keep w RemoveBegin (RemoveEnd ∷ []) v by h
  where
    by : Run w (RemoveBegin ∷ RemoveEnd ∷ []) v → Keeps w v
    by (a, b, (c, d, e)) = twice w a v (aside w a _ refl refl b.2) (by_same a v c e (aside a c _ refl refl d.1))

takes_up_keep : (w v : World) → Perhaps w TakeUp [] v → Keeps w v
takes_up_keep w v h = perhaps_keep w TakeUp [] v (λ (r : Run w (TakeUp ∷ []) v). by_same w v r.0 r.2 (aside w r.0 _ refl refl r.1.4)) h

sends_keep : (b : Bool) (w v : World) → IsSent b w v → Keeps w v
sends_keep true w v h = aside w v _ refl refl h.5
sends_keep false w v e = keeps_same w v e

carries_keep : (w : World) (k : ℕ) (v : World) → Happens w (CarryData k) v → Keeps w v
carries_keep w k v h = by_same w v _ h.4 (either (nat_lt h.0.number (length w.received)) w _ _ (record { accepted = refl; storing = refl }) (record { accepted = refl; storing = refl }))

begins_keep : (w v : World) → Happens w TakeBegin v → Keeps w v
begins_keep w v h = aside w v _ refl refl h.3

takes_keep : (w v : World) → Perhaps w TakeBegin (TakeEnd ∷ []) v → Keeps w v
takes_keep w v h = perhaps_keep w TakeBegin (TakeEnd ∷ []) v by h
  where
    by : Run w (TakeBegin ∷ TakeEnd ∷ []) v → Keeps w v
    by (a, b, (c, d, e)) = twice w a v (begins_keep w a b) (by_same a v c e (by_same a c _ d.3 (record { accepted = refl; storing = refl })))

-- ---- sessions ----

pub look_keeps : (row : SessionRow) (attaches : Bool) (p : Past) (m : ℕ) (back : Option ℕ) (q : Past) (printed : List Printed) → IsWholeLook row attaches p m back q printed → Keeps p.world q.world
look_keeps row attaches p m back q printed (mid, first, second, r, t, e) =
    twice p.world mid.world q.world
    (twice p.world r.look.answered mid.world (returns_keep p.world back r.look.answered r.look.returns) (removes_keep r.look.answered mid.world r.look.removes))
    (twice mid.world t.look.taken q.world (takes_up_keep mid.world t.look.taken t.look.takes_up) (sends_keep t.look.is_sent t.look.taken q.world t.look.sent))

pub carry_keeps : (row : SessionRow) (p : Past) (back : ℕ) (q : Past) (printed : List Printed) → IsCarried row p back q printed → Keeps p.world q.world
carry_keeps row p back q printed c = twice p.world c.carried q.world (carries_keep p.world (place p.world.sent back) c.carried c.carries) (takes_keep c.carried q.world c.takes)

-- ---- a line that a disk cuts short ----

pub unremoved_keeps : (p : Past) (m : ℕ) (back : Option ℕ) (q : Past) → IsUnremoved p m back q → Keeps p.world q.world
unremoved_keeps p m back q u = twice p.world u.answered q.world (returns_keep p.world back u.answered u.returns) (aside u.answered q.world _ refl refl u.begins.2)

pub untaken_keeps : (p : Past) (back : ℕ) (q : Past) → IsUntaken p back q → Keeps p.world q.world
untaken_keeps p back q u = by u.begins
  where
    by : Run p.world (CarryData (place p.world.sent back) ∷ TakeBegin ∷ []) q.world → Keeps p.world q.world
    by (a, b, (c, d, e)) = twice p.world a q.world (carries_keep p.world (place p.world.sent back) a b) (by_same a q.world c e (begins_keep a c d))

pub breaks_off_keeps : (row : SessionRow) (p mid : Past) (m : ℕ) (role : Role) (q : Past) (printed : List Printed) → Keeps p.world mid.world → BreaksOff row mid m role q printed → Keeps p.world q.world
breaks_off_keeps row p mid m roles.Low q printed a h = absurd h
breaks_off_keeps row p mid m roles.Recv q printed a (h, e) = twice p.world mid.world q.world a (untaken_keeps mid 0 q h)
breaks_off_keeps row p mid m roles.High q printed a (carried, c, u) =
    twice p.world mid.world q.world a (twice mid.world carried.world q.world (carry_keeps row mid 0 carried printed c) (unremoved_keeps carried m (Some (place carried.world.returned 0)) q u))
