-- A high look in which a TAKEN comes back, or a receiver attaches, goes on with a timed run of its session.
use Rattle.std.proofs.Common.{ℕ, zero, suc, ◌≤◌, Bool, true, false, List, [], ◌∷◌, Some, None, refl, sym, subst, arith}
use Rattle.std.specs.Prelude.{if◌then◌else◌}
use Rattle.pump_frame.specs.declared.row.SessionRow.{SessionRow}
use Rattle.pump_core.specs.Timed.{Step, HighLook, Point, high_looking}
use Rattle.script_reader.specs.declared.event.Event.{Event}
use Rattle.script_reader.specs.Past.{Past}
use Rattle.script_reader.specs.Highs.{IsReturn, IsReturnBy, IsAttach, is_ahead}
use Rattle.world_laws.specs.Timelines.{IsTimeline, high_steps, return_steps, AreAttachSteps}
use Rattle.world_laws.proofs.Timeline.Looks.{HasMore}
use Rattle.world_laws.proofs.Timeline.Highs.{high_look}

-- the session's timed run goes on by steps that are these
abbrev pub HasSome : SessionRow → Past → List Step → (List Step → Type 0) → Type 0
HasSome row q steps Are = (more : List Step) × HasMore row q steps more × Are more

-- a high look that refuses what comes back
refused_look : (row : SessionRow) (p : Past) (steps : List Step) (t : Point) (m : ℕ) → IsTimeline row p steps t → p.moment ≤ m
    → HasMore row (record p { moment = m }) steps (HighLook m ∷ [])
refused_look row p steps t m i le =
    let low = i.low_moment in
    let high = i.high_moment in (
      record t { high = high_looking t.high m },
      record {
        run = record { leads = (t, i.run.leads, (omega (arith, high, le), i.high.nothing_left, refl)); low = i.run.low; feedback = i.run.feedback; places = i.run.places };
        world = i.world;
        rest = i.rest;
        high = record { times = i.high.times; sends = i.high.sends; nothing_left = i.high.nothing_left };
        waits = i.waits;
        low_moment = omega (arith, low, le);
        high_moment = omega arith;
      },
    )

return_by : (ahead : Bool) (row : SessionRow) (attaches : Bool) (p : Past) (steps : List Step) (t : Point) (m k : ℕ) (q : Past) (printed : List Event)
    → IsTimeline row p steps t → p.moment ≤ m → IsReturnBy ahead row attaches p m k q printed → HasMore row q steps (if ahead then HighLook m ∷ [] else high_steps m (Some k) p q)
return_by true row attaches p steps t m k q printed i le (e, none) =
    subst (λ (x : Past). HasMore row x steps (HighLook m ∷ [])) (sym e) (refused_look row p steps t m i le)
return_by false row attaches p steps t m k q printed i le h = high_look row p steps t m i le attaches (Some k) q printed h

-- a TAKEN that comes back
pub return_look : (row : SessionRow) (p : Past) (steps : List Step) (t : Point) (m k : ℕ) (q : Past) (printed : List Event)
    → IsTimeline row p steps t → p.moment ≤ m → IsReturn row p m k q printed → HasMore row q steps (return_steps m k p q)
return_look row p steps t m k q printed i le h = return_by (is_ahead p.world k) row false p steps t m k q printed i le h

-- a receiver that attaches
pub attach_look : (row : SessionRow) (p : Past) (steps : List Step) (t : Point) (m count : ℕ) (q : Past) (printed : List Event)
    → IsTimeline row p steps t → p.moment ≤ m → IsAttach row p m count q printed → HasSome row q steps (AreAttachSteps m count p q)
attach_look row p steps t m zero q printed i le h = (high_steps m None p q, high_look row p steps t m i le true None q printed h, refl)
attach_look row p steps t m (suc n) q printed i le (k, at, h) =
    (return_steps m k p q, return_by (is_ahead p.world k) row true p steps t m k q printed i le h, (k, at, refl))
