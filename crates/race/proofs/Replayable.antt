-- A reader of scripts reads the record of plain looks.
use Rattle.std.proofs.Common.{◌≡◌, ℕ, ◌<◌, Bool, true, false, List, [], ◌∷◌, ◌++◌, length, refl, sym, ◌∙◌, arith}
use Rattle.std.specs.Prelude.{if◌then◌else◌}
use Rattle.std.specs.List.{AllByRecursion}
use Rattle.pump_frame.specs.Averages.{down}
use Rattle.pump_frame.specs.Spellings.{spelling, header_of}
use Rattle.pump_frame.specs.declared.frame.Frame.{Frame}
use Rattle.pump_core.specs.declared.feedback.Feedback.{Feedback}
use Rattle.pump_core.specs.declared.feedback.Feedback.TheVariants.{Quiet, Full, Passed, Released, Repeat}
use Rattle.pump_core.specs.History.{Arrival}
use Rattle.pump_core.specs.History.{Nothing, Came, Bad, Gone}
use Rattle.pump_core.specs.Exchanges.{is_gone}
use Rattle.low_process.specs.Looks.{IsInBounds}
use Rattle.relay_threads.specs.Records.{Made, is_recorded, recorded, record_of, made_of}
use Rattle.relay_threads.specs.RecordLines.{record_text, tells_fault, taken_by, told_of, arriving_of, line_of, HasLawfulFrame}
use Rattle.relay_threads.specs.Replays.{breaks, is_broken, AreConnected, TakeLawful, TellLevels, is_lost, IsReadable, AreReadable}
use Rattle.script_reader.specs.Alone.{tells_level}
use Rattle.script_reader.specs.Generated.{generated_row}
use Rattle.script_reader.specs.declared.line.Line.TheVariants as lines
use Rattle.script_reader.specs.Lawful.{IsLawfulLine, IsLawfulFeedback, IsLawfulArriving}
use Rattle.race.specs.MadeLooks.{IsPlainArrival, IsPlain, OnlyFrames}
use Rattle.script_reader.specs.Openings.{Openings}
use Rattle.relay_threads.proofs.Replaying.{replays}
use Rattle.relay_threads.proofs.Scripting.{record_reads}
use Rattle.race.specs.Messages.{race_opening}
use Rattle.race.specs.Race.{AreRaceLooks, ReadsBack}
use Rattle.race.specs.Replayed.{ReplaysToItself}

-- ---- one look ----

lawful_taken : (a : Arrival) (taken : Bool) → IsPlainArrival a → HasLawfulFrame (if taken then a else Nothing)
lawful_taken a false p = tt
lawful_taken Nothing true p = tt
lawful_taken (Came f) true p = p
lawful_taken Bad true p = absurd p
lawful_taken Gone true p = absurd p

still : (a : Arrival) (taken was : Bool) → IsPlainArrival a → breaks (if taken then a else Nothing) was ≡ was
still a false was p = refl
still Nothing true was p = refl
still (Came f) true was p = refl
still Bad true was p = absurd p
still Gone true was p = absurd p

feedback_lawful : (f : Feedback) → IsInBounds f → IsLawfulFeedback (told_of generated_row f)
unfolding down
feedback_lawful Quiet b = tt
feedback_lawful Full b = tt
feedback_lawful (Passed seen) b = b
feedback_lawful Released b = omega arith
feedback_lawful (Repeat seen) b = b

some_bytes : (f : Frame) → 0 < length (spelling f)
unfolding spelling header_of
some_bytes f = omega arith

arriving_lawful : (a : Arrival) (taken : Bool) → IsPlainArrival a → IsLawfulArriving (arriving_of (if taken then a else Nothing))
arriving_lawful a false p = tt
arriving_lawful Nothing true p = tt
arriving_lawful (Came f) true p = some_bytes f
arriving_lawful Bad true p = absurd p
arriving_lawful Gone true p = absurd p

not_gone : (a : Arrival) → IsPlainArrival a → is_gone a ≡ false
not_gone Nothing p = refl
not_gone (Came f) p = refl
not_gone Bad p = absurd p
not_gone Gone p = absurd p

lawful_by : (gone : Bool) (m : Made) → gone ≡ false → IsPlain m
    → IsLawfulLine (if gone then lines.Gone generated_row.id m.look.moment else lines.Told generated_row.id m.look.moment m.look.word (tells_fault m.reply) (told_of generated_row m.look.feedback) (arriving_of (taken_by m)))
lawful_by true m e p = absurd (cc)
lawful_by false m e p = (p.moment, feedback_lawful m.look.feedback p.bounds, arriving_lawful m.look.arrival m.taken p.arrival)

-- its line is one that a reader can have given
pub line_lawful : (m : Made) → IsPlain m → IsLawfulLine (line_of generated_row m)
line_lawful m p = lawful_by (is_gone m.look.arrival) m (not_gone m.look.arrival p.arrival) p

-- ---- all looks ----

pub only_frames : (made : List Made) → AllByRecursion IsPlain made → OnlyFrames made
only_frames [] p = tt
only_frames (m ∷ before) (p, ps) = (p.arrival, only_frames before ps)

pub take_lawful : (made : List Made) → OnlyFrames made → TakeLawful made
take_lawful [] p = tt
take_lawful (m ∷ before) (p, ps) = (lawful_taken m.look.arrival m.taken p, take_lawful before ps)

unbroken : (made : List Made) → OnlyFrames made → is_broken made ≡ false
unbroken [] p = refl
unbroken (m ∷ before) (p, ps) = still m.look.arrival m.taken (is_broken before) p ∙ unbroken before ps

are_connected : (made : List Made) → OnlyFrames made → AreConnected made
are_connected [] p = tt
are_connected (m ∷ before) (p, ps) = ((λ e. let no = sym e ∙ unbroken before ps in absurd (cc)), are_connected before ps)

kept_by : (b : Bool) (m : Made) (before : List Made) → tells_fault m.reply ≡ false → is_lost (record_of before) ≡ false
    → is_lost (made_of (if b then record { number = length before; made = m } ∷ recorded before else recorded before)) ≡ false
kept_by true m before fine kept = fine
kept_by false m before fine kept = kept

pub not_lost : (made : List Made) → AllByRecursion IsPlain made → is_lost (record_of made) ≡ false
not_lost [] p = refl
not_lost (m ∷ before) (p, ps) = kept_by (is_recorded before m) m before p.fine (not_lost before ps)

-- ---- what reads back ----

more_by : (b : Bool) (m : Made) (before : List Made) → (b ≡ true → IsReadable generated_row m) → AllByRecursion (IsReadable generated_row) (record_of before)
    → AllByRecursion (IsReadable generated_row) (made_of (if b then record { number = length before; made = m } ∷ recorded before else recorded before))
more_by true m before reads all = (reads refl, all)
more_by false m before reads all = all

-- one look more
pub readable_more : (before : List Made) (m : Made) → ReadsBack before m → AllByRecursion (IsReadable generated_row) (record_of before) → AllByRecursion (IsReadable generated_row) (record_of (m ∷ before))
readable_more before m reads all = more_by (is_recorded before m) m before reads all

-- ---- the record ----

plain_levels : (f : Feedback) → tells_level generated_row (told_of generated_row f) ≡ true
plain_levels Quiet = refl
plain_levels Full = refl
plain_levels Released = refl
plain_levels (Passed seen) = refl
plain_levels (Repeat seen) = refl

-- a race is not coarse
tell_levels : (made : List Made) → TellLevels generated_row made
tell_levels [] = tt
tell_levels (m ∷ before) = (plain_levels m.look.feedback, tell_levels before)

pub replays_to_itself : (opens : Openings) (seed : ℕ) (made : List Made) (bytes comments : List ℕ) → AreRaceLooks seed made → AreReadable generated_row race_opening made
    → bytes ≡ record_text generated_row race_opening made ++ comments → ReplaysToItself opens bytes
replays_to_itself opens seed made bytes comments looks readable is = record {
  made = made;
  comments = comments;
  bytes_are = is;
  lines = record_reads generated_row race_opening made readable;
  replays = replays opens generated_row race_opening refl made looks.are_made (tell_levels made) looks.lawful (are_connected made looks.plain) looks.kept;
}
