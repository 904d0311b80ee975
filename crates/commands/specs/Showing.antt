-- What showing the disks of a session writes, by how it ends. `before` and `after` say where each disk is.
use Rattle.std.specs.Prelude.{◌≡◌, ℕ, ◌+◌, List, [], ◌∷◌, length, drop, Option, Some, None, Result, Ok, Err}
use Rattle.disk_model.specs.declared.name.Role.{Role}
use Rattle.pump_frame.specs.declared.payload.Payload.{Payload}
use Rattle.pump_frame.specs.declared.row.SessionRow.{SessionRow}
use Rattle.recovery.specs.declared.why.Why.{Why}
use Rattle.recovery.specs.declared.why.Why.TheVariants as whys
use Rattle.script_reader.specs.Openings.{Found, accepted_in}
use Rattle.script_reader.specs.Transcript.{text}
use Rattle.script_reader.specs.declared.event.Event.{Event}
use Rattle.script_reader.specs.declared.event.Event.TheVariants.{Show, Live}
use Rattle.two_worlds.specs.Openings.{StandForFound, IsRefused}
use Rattle.command_ends.specs.CommandEnds.{end_line}
use Rattle.script_replay.specs.Shelves.{Places, OfDisks, LeavesOtherSessions, ReadsAlike}
use Rattle.command_ends.specs.Tables.{HasRow, HasNoRow}
use Rattle.command_ends.specs.declared.command_end.CommandEnd.{CommandEnd}
use Rattle.command_ends.specs.declared.command_end.CommandEnd.TheVariants.{Done, Memory, Unread, NoRow, Failed, Refused}

-- ---- the lines ----

-- these messages with the numbers from this one on
abbrev pub live_messages : ℕ → ℕ → List Payload → List Event
live_messages session number [] = []
live_messages session number (message ∷ messages) = Live session number message ∷ live_messages session (number + 1)
    messages

-- how many messages were accepted, removed and taken by the receiver, and the live ones
abbrev pub shown_counts : ℕ → ℕ → ℕ → ℕ → List Payload → List ℕ
shown_counts session accepted removed received live = text (Show session accepted removed received ∷ live_messages
    session removed live)

-- the counts that were found, and the accepted messages that are not removed
abbrev pub shown : ℕ → Found → List ℕ
shown session f = shown_counts session (length (accepted_in f)) f.removed (length f.received)
    (drop f.removed (accepted_in f))

-- ---- the disks ----

-- they stand for what was found, which is shown, and read as they did
pub record IsShown (before after : Places) (row : SessionRow) (output : List ℕ) : Type 0 where
  pub found : Found
  pub stand : OfDisks before row.id (StandForFound row found)
  pub still : OfDisks after row.id (StandForFound row found)
  pub alike : ReadsAlike before after
  pub others : LeavesOtherSessions before after row.id
  pub output_is : output ≡ shown row.id found

-- .. they are not shown
abbrev pub ShowStops : Places → Places → SessionRow → CommandEnd → Type 0
ShowStops before after row Memory = ReadsAlike before after
ShowStops before after row (Failed role) = ReadsAlike before after
ShowStops before after row (Refused role why) = OfDisks before row.id (λ low high recv. IsRefused row low high recv role
    why) × ReadsAlike before after
ShowStops before after row end = ⊥

-- what showing the disks of a session is to write, and what it leaves, by how it ends. `file` is the table's, and
-- `fails` says which disk failed
abbrev pub Shows : Option (List ℕ) → Places → Places → (ℕ → Role → Type 0) → ℕ → CommandEnd → List ℕ → Type 0
Shows file before after fails session Done output = (row : SessionRow) × HasRow file session row × (row.id ≡ session)
    × IsShown before after row output
Shows file before after fails session Memory output = ReadsAlike before after × (output ≡ [])
Shows file before after fails session Unread output = (after ≡ before) × (output ≡ end_line session Unread)
Shows file before after fails session (NoRow why) output = HasNoRow file session why × (after ≡ before)
    × (output ≡ end_line session (NoRow why))
Shows file before after fails session (Failed role) output = (row : SessionRow) × HasRow file session row
    × fails session role × ShowStops before after row (Failed role) × (output ≡ end_line session (Failed role))
Shows file before after fails session (Refused role why) output = (row : SessionRow) × HasRow file session row
    × ShowStops before after row (Refused role why) × (output ≡ end_line session (Refused role why))
Shows file before after fails session end output = ⊥

-- before anything is written
abbrev pub ShowsSo : {T : Type 0} → (T → List ℕ) → Option (List ℕ) → Places → Places → (ℕ → Role → Type 0) → ℕ
    → Result T CommandEnd → Type 0
ShowsSo bytes file before after fails session (Ok text) = Shows file before after fails session Done (bytes text)
ShowsSo bytes file before after fails session (Err end) = Shows file before after fails session end
    (end_line session end)

-- the end where the disks are not opened
abbrev pub end_at : Role → Option Why → CommandEnd
end_at role None = Memory
end_at role (Some (whys.Device count)) = Failed role
end_at role (Some why) = Refused role why
