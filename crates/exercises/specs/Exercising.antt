-- An exercise between two lines. It serves the private functions and the proofs.
use Rattle.std.specs.Prelude.{◌≡◌, ℕ, ◌+◌, ◌*◌, ◌≤◌, true, false, List, [], ◌∷◌, ◌++◌, length, codes, decimal, None}
use Rattle.std.specs.Prelude.{Some}
use Rattle.std.specs.List.{sum_by}
use Rattle.disk_model.specs.Plain.{Plain, plain_meaning}
use Rattle.disk_model.specs.declared.name.Role.TheVariants as roles
use Rattle.script_reader.specs.declared.event.Event.{Event}
use Rattle.script_reader.specs.declared.line.Line.{Line}
use Rattle.script_reader.specs.Applying.{AllApply}
use Rattle.script_reader.specs.Generated.{generated_row, generated}
use Rattle.script_reader.specs.Openings.{new_disks}
use Rattle.script_reader.specs.Past.{Past}
use Rattle.script_reader.specs.Scripts.{Whole}
use Rattle.script_reader.specs.Steps.{is_timely, IsCrowded, LineStep, Overfills}
use Rattle.script_reader.specs.Transcript.{line_with_end}
use Rattle.two_worlds.specs.declared.pump.Pump.{Pump}
use Rattle.two_worlds.specs.Pumps.{row_of, StandsFor, is_down, disk_at}
use Rattle.two_worlds.specs.Rooms.{HasRoom}
use Rattle.exercises.specs.declared.exercising.Tally.{Tally}
use Rattle.exercises.specs.Exercises.{LeadEach, in_all, look_word, look_count, ack_count, full_count, removal_count}
use Rattle.exercises.specs.Exercises.{delay_in, delays_in}

-- the tally after a line's events: they add what they count
pub record AddsEvents (old new : Tally) (word : ℕ) (events : List Event) : Type 0 where
  pub looks : new.looks ≡ old.looks
  pub acks : new.acks ≡ old.acks + sum_by ack_count events
  pub full : new.full ≡ old.full + sum_by full_count events
  pub removed : new.removed ≡ old.removed + sum_by removal_count events
  pub delay : new.delay ≡ old.delay + sum_by (delay_in word) events

-- .. and after the line itself
pub record Counts (old new : Tally) (line : Line) (events : List Event) : Type 0 where
  pub looks : new.looks ≡ old.looks + look_count line
  pub acks : new.acks ≡ old.acks + sum_by ack_count events
  pub full : new.full ≡ old.full + sum_by full_count events
  pub removed : new.removed ≡ old.removed + sum_by removal_count events
  pub delay : new.delay ≡ old.delay + sum_by (delay_in (look_word line)) events
  pub few : length events ≤ 4

-- no number of the tally is greater than this
pub record IsAtMost (most : ℕ) (tally : Tally) : Type 0 where
  pub looks : tally.looks ≤ most
  pub acks : tally.acks ≤ most
  pub full : tally.full ≤ most
  pub removed : tally.removed ≤ most
  pub delay : tally.delay ≤ most

-- the tally has counted these lines and what they printed
pub record HasCounted (tally : Tally) (lines : List Line) (printed : List (List Event)) : Type 0 where
  pub looks : tally.looks ≡ sum_by look_count lines
  pub acks : tally.acks ≡ sum_by ack_count (in_all printed)
  pub full : tally.full ≡ sum_by full_count (in_all printed)
  pub removed : tally.removed ≡ sum_by removal_count (in_all printed)
  pub delay : tally.delay ≡ delays_in lines printed
  pub within : IsAtMost (400000 * length lines) tally

-- the lines so far led to this past, and each of those that are left can be applied
pub record HasApplied (seed count : ℕ) (past : Past) (tally : Tally) (left : List Line) : Type 0 where
  pub applies : AllApply generated_row past left
  pub lines : List Line
  pub printed : List (List Event)
  pub each : LeadEach new_disks None lines printed (Some (Whole (record { row = generated_row; past = past })))
  pub script : generated seed count ≡ lines ++ left
  pub counted : HasCounted tally lines printed

-- the pump is the generated row's, and no call of its disks can fail
abbrev pub CannotFail : {g : _} → Pump Plain g → Type 0
CannotFail pump = (is_down pump ≡ false) × (row_of pump ≡ generated_row)
    × HasRoom plain_meaning generated_row (disk_at roles.Low pump) (disk_at roles.High pump) (disk_at roles.Recv pump)

abbrev pub IsUnderWay : {g : _} → ℕ → ℕ → Pump Plain g → Tally → List Line → Type 0
IsUnderWay seed count pump tally left = CannotFail pump × ((past : Past) × StandsFor plain_meaning pump past
    × HasApplied seed count past tally left)

-- the line can be applied, and its message does not overfill the receiver's disk
pub record CanGo (past : Past) (line : Line) : Type 0 where
  pub timely : is_timely generated_row past line ≡ true
  pub room : IsCrowded past line → ⊥
  pub fits : (q : Past) (printed : List Event) (end length size : ℕ)
      → Overfills generated_row past line q printed end length size → ⊥

abbrev pub CanGoOn : {g : _} → Pump Plain g → Line → Type 0
CanGoOn pump line = (past : Past) × StandsFor plain_meaning pump past × CanGo past line

-- the line led from a past to what the pump stands for, and printed this
abbrev pub LeadsPump : {g : _} → Past → Line → List Event → Pump Plain g → Type 0
LeadsPump past line printed pump = (q : Past) × LineStep generated_row past line q printed
    × StandsFor plain_meaning pump q

-- the generated script was run over new disks, and the tally has counted it
pub record HasRun (seed count : ℕ) (tally : Tally) : Type 0 where
  pub past : Past
  pub printed : List (List Event)
  pub each : LeadEach new_disks None (generated seed count) printed
      (Some (Whole (record { row = generated_row; past = past })))
  pub counted : HasCounted tally (generated seed count) printed

-- the summary line with the tally's numbers
abbrev pub tally_line : ℕ → ℕ → Tally → List ℕ
tally_line seed count tally = line_with_end (codes "exercise" ∷ decimal seed ∷ decimal count
    ∷ codes "looks" ∷ decimal tally.looks ∷ codes "acks" ∷ decimal tally.acks ∷ codes "full" ∷ decimal tally.full
    ∷ codes "removed" ∷ decimal tally.removed ∷ codes "delay" ∷ decimal tally.delay ∷ [])
