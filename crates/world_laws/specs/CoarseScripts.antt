-- Two scripts of coarse sessions that agree in the low sides, and in one of 31 classes in place of each average.
use Rattle.std.specs.Prelude.{◌≡◌, ℕ, Bool, true, false, List, map, Option}
use Rattle.std.specs.List.{list_any}
use Rattle.script_reader.specs.declared.line.Line.{Line}
use Rattle.script_reader.specs.declared.line.Line.TheVariants as lines
use Rattle.script_reader.specs.declared.event.Event.{Event}
use Rattle.script_reader.specs.Openings.{Openings}
use Rattle.script_reader.specs.Scripts.{Begun, IsTranscript, ComesTo}
use Rattle.script_reader.specs.Sessions.{Sessions, lines_of, events_of, IsScriptTranscript, ScriptComesTo}
use Rattle.script_reader.specs.Sides.{low_side_of, OpenAlike, HaveOwnMoments, full_moments, restarts_in, averages}
use Rattle.script_reader.specs.Readouts.{low_lines}
use Rattle.world_laws.specs.Classes.{class_of}

-- a line makes its session coarse
abbrev pub makes_coarse : Line → Bool
makes_coarse (lines.Coarse session) = true
makes_coarse _ = false

-- some line of a script does
abbrev pub IsMadeCoarse : List Line → Type 0
IsMadeCoarse script = list_any makes_coarse script ≡ true

-- the class of each average in a transcript, one for each exchange that read one
abbrev pub classes : List Event → List ℕ
classes printed = map class_of (averages printed)

-- the scripts have one low side, of a coarse session, in which no two low looks have one moment; and what they
-- printed agrees in the moments of a full buffer, in what each restart finds of it, and in the classes
pub record AgreeForCoarse (script other : List Line) (xs ys : List Event) : Type 0 where
  pub low_side : low_side_of script ≡ low_side_of other
  pub coarse : IsMadeCoarse script
  pub moments : HaveOwnMoments (low_side_of script)
  pub full : full_moments xs ≡ full_moments ys
  pub restarts : restarts_in xs ≡ restarts_in ys
  pub classes : classes xs ≡ classes ys

-- ---- the laws ----

-- two scripts of one session that agree so, in their whole transcripts, have the same `low` lines
abbrev pub CoarseTranscriptsAgree : Type 0
CoarseTranscriptsAgree = (o p : Openings) (script other : List Line) (xs ys : List Event)
    → IsTranscript o script xs → IsTranscript p other ys → OpenAlike o p script
    → AgreeForCoarse script other xs ys → low_lines xs ≡ low_lines ys

-- .. in what they have printed so far, where a line may have stopped them
abbrev pub CoarseScriptsAgree : Type 0
CoarseScriptsAgree = (o p : Openings) (script other : List Line) (running after : Option Begun) (xs ys : List Event)
    → ComesTo o script running xs → ComesTo p other after ys → OpenAlike o p script
    → AgreeForCoarse script other xs ys → low_lines xs ≡ low_lines ys

-- in scripts of several sessions it is so of each session, by its own lines and what is printed of it
abbrev pub CoarseTranscriptsAgreeInEachSession : Type 0
CoarseTranscriptsAgreeInEachSession = (o p : Openings) (script other : List Line) (xs ys : List Event) (number : ℕ)
    → IsScriptTranscript o script xs → IsScriptTranscript p other ys → OpenAlike o p (lines_of number script)
    → AgreeForCoarse (lines_of number script) (lines_of number other) (events_of number xs) (events_of number ys)
    → low_lines (events_of number xs) ≡ low_lines (events_of number ys)

abbrev pub CoarseScriptsAgreeInEachSession : Type 0
CoarseScriptsAgreeInEachSession = (o p : Openings) (script other : List Line) (t u : Sessions) (xs ys : List Event)
    (number : ℕ)
    → ScriptComesTo o script t xs → ScriptComesTo p other u ys → OpenAlike o p (lines_of number script)
    → AgreeForCoarse (lines_of number script) (lines_of number other) (events_of number xs) (events_of number ys)
    → low_lines (events_of number xs) ≡ low_lines (events_of number ys)
