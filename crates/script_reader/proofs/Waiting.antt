-- At most 64 arrivals wait.
use Rattle.std.proofs.Common.{◌≡◌, ℕ, ◌+◌, zero, suc, ◌≤◌, Bool, true, false, List, [], ◌∷◌, length, drop, Option, Some, None, ap, ◌∙◌, arith}
use Rattle.std.specs.Prelude.{if◌then◌else◌}
use Rattle.pump_frame.specs.declared.row.SessionRow.{SessionRow}
use Rattle.pump_core.specs.History.{Arrival}
use Rattle.pump_core.specs.Replies.{takes}
use Rattle.script_reader.specs.declared.line.Line.{Line}
use Rattle.script_reader.specs.declared.line.Line.TheVariants as lines
use Rattle.script_reader.specs.declared.event.Event.{Event}
use Rattle.script_reader.specs.Past.{Past}
use Rattle.script_reader.specs.Highs.{IsWholeLook, is_ahead, IsReturnBy, IsReturn, IsAttach, place}
use Rattle.script_reader.specs.Restarts.{IsReceiverRestart}
use Rattle.script_reader.specs.Alone.{PastAlone, joined_alone, StepAlone}
use Rattle.script_reader.specs.Steps.{joined, IsCarriedBack, LineStep}

abbrev waits_in : Past → List Arrival
waits_in p = p.waits

pub high_waits : (s : SessionRow) (attaches : Bool) (p : Past) (m : ℕ) (back : Option ℕ) (q : Past) (printed : List Event) → IsWholeLook s attaches p m back q printed → q.waits ≡ p.waits
high_waits s attaches p m back q printed (mid, a, b, h, t, e) = ap waits_in t.rest ∙ ap waits_in h.rest

return_by_waits : (b : Bool) (s : SessionRow) (attaches : Bool) (p : Past) (m n : ℕ) (q : Past) (printed : List Event) → IsReturnBy b s attaches p m n q printed → q.waits ≡ p.waits
return_by_waits true s attaches p m n q printed h = ap waits_in h.0
return_by_waits false s attaches p m n q printed h = high_waits s attaches p m (Some n) q printed h

return_waits : (s : SessionRow) (p : Past) (m n : ℕ) (q : Past) (printed : List Event) → IsReturn s p m n q printed → q.waits ≡ p.waits
return_waits s p m n q printed h = return_by_waits (is_ahead p.world n) s false p m n q printed h

attach_waits : (s : SessionRow) (p : Past) (m count : ℕ) (q : Past) (printed : List Event) → IsAttach s p m count q printed → q.waits ≡ p.waits
attach_waits s p m zero q printed h = high_waits s true p m None q printed h
attach_waits s p m (suc n) q printed (k, at, h) = return_by_waits (is_ahead p.world k) s true p m k q printed h

receiver_waits : (s : SessionRow) (p : Past) (m : ℕ) (q : Past) (printed : List Event) → IsReceiverRestart s p m q printed → q.waits ≡ p.waits
receiver_waits s p m q printed (mid, h, (more, t, e)) = attach_waits s mid m (length mid.world.received) q more t ∙ ap waits_in h.1

goes_waits : (s : SessionRow) (hand : Option ℕ) (p : Past) (m : ℕ) (q : Past) (printed : List Event) → IsCarriedBack s hand p m q printed → q.waits ≡ p.waits
goes_waits s None p m q printed h = ap waits_in h.0
goes_waits s (Some n) p m q printed (mid, a, b, c, h, e) = return_waits s mid m (place mid.world.returned 0) q b h ∙ ap waits_in c.rest

dropped : (b : Bool) (xs : List Arrival) → length xs ≤ 64 → length (if b then drop 1 xs else xs) ≤ 64
dropped false xs h = h
dropped true [] h = h
dropped true (x ∷ xs) h = omega arith

pub step_waits : (s : SessionRow) (p : Past) (line : Line) (q : Past) (printed : List Event) → length p.waits ≤ 64 → LineStep s p line q printed → length q.waits ≤ 64
step_waits s p lines.Skip q printed h t = absurd t
step_waits s p (lines.Session row) q printed h t = absurd t
step_waits s p (lines.LowSession row next held) q printed h t = absurd t
step_waits s p (lines.Coarse session) q printed h t = absurd t
step_waits s p (lines.Told session m w fault told a) q printed h t = absurd t
step_waits s p (lines.Step session m w) q printed h t = absurd t
step_waits s p (lines.Look session m w a) q printed h (c, comes, (few, (f, i))) = rw i.waits (dropped (takes i.after) (joined p c).waits few)
step_waits s p (lines.Gone session m) q printed h (f, i) = rw i.waits (dropped (takes i.after) [] (omega arith))
step_waits s p (lines.High session m) q printed h t = rw (high_waits s false p m None q printed t) h
step_waits s p (lines.Carry session back) q printed h t = rw t.rest h
step_waits s p (lines.Return session m back) q printed h t = rw (return_waits s p m (place p.world.returned back) q printed t) h
step_waits s p (lines.Done session m t) q printed h (mid, a, b, k, g, e) = rw (goes_waits s mid.world.high_hand mid (m + t) q b g ∙ high_waits s false p m None mid a k) h
step_waits s p (lines.Restart session m) q printed h t = rw t.1 (omega arith)
step_waits s p (lines.ReceiverRestart session m) q printed h t = rw (receiver_waits s p m q printed t) h

pub step_low_waits : (s : SessionRow) (p : PastAlone) (line : Line) (is_fault : Bool) (q : PastAlone) (printed : List Event) → StepAlone s p line is_fault q printed → length q.waits ≤ 64
step_low_waits s p (lines.Told session m w fault told a) is_fault q printed (c, comes, (few, (f, i))) = rw i.waits (dropped (takes i.after) (joined_alone p fault c).waits few)
step_low_waits s p (lines.Gone session m) is_fault q printed (f, i) = rw i.waits (dropped (takes i.after) [] (omega arith))
step_low_waits s p lines.Skip is_fault q printed h = absurd h
step_low_waits s p (lines.Session row) is_fault q printed h = absurd h
step_low_waits s p (lines.LowSession row next held) is_fault q printed h = absurd h
step_low_waits s p (lines.Coarse session) is_fault q printed h = absurd h
step_low_waits s p (lines.Look session m w z) is_fault q printed h = absurd h
step_low_waits s p (lines.High session m) is_fault q printed h = absurd h
step_low_waits s p (lines.Carry session back) is_fault q printed h = absurd h
step_low_waits s p (lines.Return session m back) is_fault q printed h = absurd h
step_low_waits s p (lines.Done session m t) is_fault q printed h = absurd h
step_low_waits s p (lines.Restart session m) is_fault q printed h = absurd h
step_low_waits s p (lines.ReceiverRestart session m) is_fault q printed h = absurd h
step_low_waits s p (lines.Step session m w) is_fault q printed h = absurd h
