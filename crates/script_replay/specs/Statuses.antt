-- The status of a script by its bytes alone, where it can be read and answered and memory is not wanting.
use Rattle.std.specs.Prelude.{◌≡◌, ◌⊎◌, ℕ, ◌^◌, ◌<◌, List, [], length, Option, None, Some}
use Rattle.std.specs.List.{AllByRecursion}
use Rattle.script_reader.specs.declared.line.Line.{Line}
use Rattle.script_reader.specs.declared.line.Line.TheVariants.{Session}
use Rattle.script_reader.specs.declared.event.Event.{Event}
use Rattle.script_reader.specs.declared.fault.Fault.{Fault}
use Rattle.script_reader.specs.declared.fault.Fault.TheVariants.{Words, Read, Script, Device, Disk, Full}
use Rattle.script_reader.specs.Openings.{Openings}
use Rattle.script_reader.specs.Sessions.{Sessions}
use Rattle.script_replay.specs.Shelves.{Places, HasFound}
use Rattle.script_replay.specs.Replays.{Replayed, IsSoFar, IsFaultyAt, fault_after, Stopping}

-- after so many lines, with no fault nothing is left; with one the next line is faulty, or it stops the script
abbrev pub IsEnd : List ℕ → ℕ → Sessions → Option Fault → Type 0
IsEnd rest number sessions None = rest ≡ []
IsEnd rest number sessions (Some fault) = (IsFaultyAt number (Some rest) sessions × (fault ≡ fault_after number))
    ⊎ Stopping (Some rest) number sessions fault

-- the bytes begin with lines that can all be applied on disks that were found so, fewer than 2^32, and end so after
-- them
pub record EndsWith (o : Openings) (bytes : List ℕ) (end : Option Fault) : Type 0 where
  pub lines : List Line
  pub events : List Event
  pub sessions : Sessions
  pub rest : List ℕ
  pub so_far : IsSoFar o (Some bytes) (Some rest) lines events sessions
  pub few : length lines < 2 ^ 32
  pub is_end : IsEnd rest (length lines) sessions end

-- the status of a script that ends so
abbrev pub status_of : Option Fault → ℕ
status_of None = 0
status_of (Some Words) = 2
status_of (Some Read) = 3
status_of (Some (Script number)) = 5
status_of (Some (Device session role)) = 7
status_of (Some (Disk session role number first second)) = 8
status_of (Some (Full session end size_of_message size)) = 10

-- the disks of a session that the line begins are found to hold what the openings say
abbrev pub IsFoundFor : Places → Openings → Line → Type 0
IsFoundFor before o (Session row) = HasFound before row (o row.id)
IsFoundFor before o line = Unit {0}

-- all lines of the bytes can be applied, none of them stops the script, and the disks of each session are found to
-- hold what it begins on
pub record CanFinish (before : Places) (bytes : List ℕ) : Type 0 where
  pub openings : Openings
  pub ends : EndsWith openings bytes None
  pub found : AllByRecursion (IsFoundFor before openings) ends.lines

-- whatever the bytes of the script end with, on the disks that were found, this is its status
abbrev pub HasStatus : ℕ → {all : Option (List ℕ)} → Replayed all → List ℕ → Type 0
HasStatus status {all} r output = (bytes : List ℕ) (end : Option Fault) → all ≡ Some bytes
    → EndsWith r.openings bytes end → status ≡ status_of end
