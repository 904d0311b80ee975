-- The lines of an exercise, one after another.
use Rattle.std.proofs.Common.{◌≡◌, inl, inr, ℕ, ◌^◌, ◌≤◌, true, List, [], ◌∷◌, ◌++◌, length, drop, Option, Some, None, refl, sym, ap, ◌∙◌, subst, arith, append_assoc, length-append}
use Rattle.std.proofs.lemmas.List.{append-nil}
use Rattle.disk_model.specs.Plain.{Plain, plain_meaning}
use Rattle.disk_model.specs.declared.disk.Disk.{Ghosts}
use Rattle.disk_model.specs.declared.name.Role.TheVariants as roles
use Rattle.script_reader.specs.declared.event.Event.{Event}
use Rattle.script_reader.specs.declared.line.Line.{Line}
use Rattle.script_reader.specs.declared.line.Line.TheVariants as lines
use Rattle.script_reader.specs.Generated.{generated_row, generated, first_mark}
use Rattle.script_reader.specs.Openings.{Openings, new_disks, nothing_found, first_past}
use Rattle.script_reader.specs.Past.{Past}
use Rattle.script_reader.specs.Scripts.{Begun, Whole, Leads, LeadTo, end_of}
use Rattle.script_reader.specs.Steps.{is_timely, IsRefusedWhole, LineStep, Overfills}
use Rattle.script_reader.specs.Highs.{receiver_size}
use Rattle.stable_buffer.specs.Stands.{low_size}
use Rattle.script_reader.proofs.Generating.{generated_apply}
use Rattle.script_reader.proofs.Opened.{new_disks_can}
use Rattle.two_worlds.specs.declared.applied.Stop.{Stop}
use Rattle.two_worlds.specs.declared.applied.Stop.TheVariants as stops
use Rattle.two_worlds.specs.declared.pump.Pump.{Pump}
use Rattle.two_worlds.specs.Pumps.{row_of, disk_at, Applies}
use Rattle.two_worlds.specs.Rooms.{IsFree, Serves, DisksGo}
use Rattle.exercises.specs.declared.exercising.Tally.{Tally}
use Rattle.exercises.specs.Exercises.{LeadEach, in_all, IsSummary}
use Rattle.exercises.specs.Exercising.{Counts, IsAtMost, HasCounted, HasApplied, CannotFail, CanGo, LeadsPump, HasRun, tally_line}
use Rattle.script_replay.proofs.Going.{leads_from}
use Rattle.exercises.proofs.Tallies.{counted_more, script_length}

-- ---- one more line ----

each_more : (o : Openings) (running mid after : Option Begun) (script : List Line) (printed : List (List Event)) (line : Line) (events : List Event)
    → LeadEach o running script printed mid → Leads o mid line after events → LeadEach o running (script ++ line ∷ []) (printed ++ events ∷ []) after
each_more o running mid after [] [] line events e h = (after, subst (λ r. Leads o r line after events) e h, refl)
each_more o running mid after [] (p ∷ printed) line events e h = absurd e
each_more o running mid after (x ∷ script) [] line events e h = absurd e
each_more o running mid after (x ∷ script) (p ∷ printed) line events (next, first, later) h =
    (next, first, each_more o next mid after script printed line events later h)

same_length : (o : Openings) (running after : Option Begun) (script : List Line) (printed : List (List Event)) → LeadEach o running script printed after → length script ≡ length printed
same_length o running after [] [] e = refl
same_length o running after [] (p ∷ printed) e = absurd e
same_length o running after (x ∷ script) [] e = absurd e
same_length o running after (x ∷ script) (p ∷ printed) (mid, first, later) = omega (arith, same_length o mid after script printed later)

lead_to : (o : Openings) (running after : Option Begun) (script : List Line) (printed : List (List Event)) → LeadEach o running script printed after → LeadTo o running script after (in_all printed)
lead_to o running after [] [] e = (e, refl)
lead_to o running after [] (p ∷ printed) e = absurd e
lead_to o running after (x ∷ script) [] e = absurd e
lead_to o running after (x ∷ script) (p ∷ printed) (mid, first, later) = (mid, p, in_all printed, first, lead_to o mid after script printed later, refl)

unskipped : (p : Past) (line : Line) → is_timely generated_row p line ≡ true → line ≡ lines.Skip → ⊥
unskipped p line timely e = absurd (cc (sym timely ∙ ap (is_timely generated_row p) e))

pub goes_on : (seed count : ℕ) (p q : Past) (old new : Tally) (line : Line) (later : List Line) (events : List Event) → HasApplied seed count p old (line ∷ later)
    → LineStep generated_row p line q events → Counts old new line events → HasApplied seed count q new later
goes_on seed count p q old new line later events h step counts =
    let after : Option Begun = Some (Whole (record { row = generated_row; past = q })) in
    let leads : Leads new_disks (Some (Whole (record { row = generated_row; past = p }))) line after events =
    leads_from new_disks (Whole (record { row = generated_row; past = p })) line after events (unskipped p line h.applies.0) (h.applies.0, (q, step, refl)) in
    record {
      applies = h.applies.3 q events step;
      lines = h.lines ++ line ∷ [];
      printed = h.printed ++ events ∷ [];
      each = each_more new_disks None _ after h.lines h.printed line events h.each leads;
      script = h.script ∙ sym (append_assoc h.lines (line ∷ []) later);
      counted = counted_more old new h.lines h.printed line events (same_length new_disks None _ h.lines h.printed h.each) h.counted counts;
    }

-- ---- the first line ----

pub begins : (seed count : ℕ) (tally : Tally) → count ≤ 100000 → tally ≡ record { looks = 0; acks = 0; full = 0; removed = 0; delay = 0 }
    → HasApplied seed count (first_past generated_row nothing_found) tally (drop 1 (generated seed count))
begins seed count tally few e = subst (λ t. HasApplied seed count (first_past generated_row nothing_found) t (drop 1 (generated seed count))) (sym e) (record {
  applies = generated_apply seed count few;
  lines = lines.Session generated_row ∷ [];
  printed = [] ∷ [];
  each = (Some (Whole (record { row = generated_row; past = first_past generated_row nothing_found })), ((refl, new_disks_can generated_row, refl), refl), refl);
  script = refl;
  counted = record {
    looks = refl;
    acks = refl;
    full = refl;
    removed = refl;
    delay = refl;
    within = record { looks = omega arith; acks = omega arith; full = omega arith; removed = omega arith; delay = omega arith };
  };
})

-- the numbers stay small
pub small : (seed count : ℕ) (p : Past) (tally : Tally) (left : List Line) → count ≤ 100000 → HasApplied seed count p tally left → IsAtMost (2 ^ 60) tally
small seed count p tally left few h =
    let all = ap length h.script in
    let parts = length-append h.lines left in
    let most = script_length count 0 (first_mark seed) in
    let w = h.counted.within in
    record {
      looks = omega (arith, all, parts, most, few, w.looks);
      acks = omega (arith, all, parts, most, few, w.acks);
      full = omega (arith, all, parts, most, few, w.full);
      removed = omega (arith, all, parts, most, few, w.removed);
      delay = omega (arith, all, parts, most, few, w.delay);
    }

-- ---- the end ----

pub has_run : (seed count : ℕ) (p : Past) (tally : Tally) → HasApplied seed count p tally [] → HasRun seed count tally
has_run seed count p tally h =
    let e : generated seed count ≡ h.lines = h.script ∙ append-nil h.lines in
    record {
      past = p;
      printed = h.printed;
      each = subst (λ l. LeadEach new_disks None l h.printed (Some (Whole (record { row = generated_row; past = p })))) (sym e) h.each;
      counted = subst (λ l. HasCounted tally l h.printed) (sym e) h.counted;
    }

pub sums_up : (seed count : ℕ) (tally : Tally) (bytes : List ℕ) → HasRun seed count tally → bytes ≡ tally_line seed count tally → IsSummary seed count bytes
sums_up seed count tally bytes h e =
    let after : Option Begun = Some (Whole (record { row = generated_row; past = h.past })) in
    let last : List Event = end_of generated_row h.past ∷ [] in
    record {
      printed = h.printed;
      after = after;
      each = h.each;
      last = last;
      ends = refl;
      transcript = (after, in_all h.printed, last, lead_to new_disks None after (generated seed count) h.printed h.each, refl, refl);
      bytes_are = e ∙ (λ i. tally_line seed count (record {
        looks = h.counted.looks i;
        acks = h.counted.acks i;
        full = h.counted.full i;
        removed = h.counted.removed i;
        delay = h.counted.delay i;
      }));
    }

-- ---- the disks ----

never_fails : (size : ℕ) (old new : Plain) → IsFree plain_meaning size old → Serves plain_meaning size old new true → ⊥
never_fails size old new free (inl kept) = absurd (cc kept.1)
never_fails size old new free (inr answers) = absurd (cc (answers.never tt free.unarmed free.room))

-- no disk fails, no line is refused, and no message overfills the receiver's disk
pub never_stops : {g : Ghosts Plain} (s t : Pump Plain g) (line : Line) (p : Past) (printed : List Event) (stop : Stop) → CannotFail s → CanGo p line
    → Applies plain_meaning s t line p printed (Some stop)
    → DisksGo plain_meaning (row_of s) (disk_at roles.Low s) (disk_at roles.High s) (disk_at roles.Recv s) (disk_at roles.Low t) (disk_at roles.High t) (disk_at roles.Recv t) (Some stop) → ⊥
never_stops s t line p printed stops.Line ready can (refused, none, same) go =
    elim (subst (λ r. IsRefusedWhole r p line) ready.1 refused) [
      | inl late ↦ absurd (cc (sym can.timely ∙ late))
      | inr crowded ↦ can.room crowded
    ]
never_stops s t line p printed (stops.Device roles.Low faults) ready can h go =
    never_fails (low_size generated_row) (disk_at roles.Low s) (disk_at roles.Low t) ready.2.low_free
    (subst (λ r. Serves plain_meaning (low_size r) (disk_at roles.Low s) (disk_at roles.Low t) true) ready.1 go.low_goes)
never_stops s t line p printed (stops.Device roles.High faults) ready can h go =
    never_fails 80 (disk_at roles.High s) (disk_at roles.High t) ready.2.high_free go.high_goes
never_stops s t line p printed (stops.Device roles.Recv faults) ready can h go =
    never_fails receiver_size (disk_at roles.Recv s) (disk_at roles.Recv t) ready.2.recv_free go.recv_goes
never_stops s t line p printed (stops.Full end length size) ready can (timely, (q, over, stands, fit)) go =
    can.fits q printed end length size (subst (λ r. Overfills r p line q printed end length size) ready.1 over)
never_stops s t line p printed (stops.Disk role why) ready can h go = absurd h

pub leads_pump : {g : Ghosts Plain} (s t : Pump Plain g) (line : Line) (p : Past) (printed : List Event) → CannotFail s → Applies plain_meaning s t line p printed None → LeadsPump p line printed t
leads_pump s t line p printed ready (timely, (q, step, stands, fit, run)) =
    (q, subst (λ r. LineStep r p line q printed) ready.1 step, stands)
