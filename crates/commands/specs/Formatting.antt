-- What formatting the disks of a session leaves, by how it ends. `before` and `after` say where each disk is.
use Rattle.std.specs.Prelude.{◌≡◌, ℕ, List, [], ◌∷◌, length, Option, Some, None, Result, Ok, Err, codes, decimal}
use Rattle.disk_model.specs.declared.name.Role.{Role}
use Rattle.disk_model.specs.declared.name.Role.TheVariants as roles
use Rattle.pump_frame.specs.declared.row.SessionRow.{SessionRow}
use Rattle.recovery.specs.declared.why.Why.{Why}
use Rattle.recovery.specs.declared.why.Why.TheVariants.{NotEmpty}
use Rattle.script_reader.specs.Openings.{nothing_found}
use Rattle.script_reader.specs.Transcript.{line_with_end}
use Rattle.stable_buffer.specs.Format.{new_bytes}
use Rattle.two_worlds.specs.Openings.{StandForFound}
use Rattle.command_ends.specs.CommandEnds.{end_line}
use Rattle.script_replay.specs.Shelves.{Places, OfDisks, reading_at, LeavesOtherSessions, ReadsAlike, Spares}
use Rattle.command_ends.specs.Tables.{HasRow, HasNoRow}
use Rattle.command_ends.specs.declared.command_end.CommandEnd.{CommandEnd}
use Rattle.command_ends.specs.declared.command_end.CommandEnd.TheVariants.{Done, Memory, Unread, NoRow, Failed, Refused}

-- every disk that was not empty reads as it did, and disks of other sessions are where they were
pub record IsSpared (before after : Places) (session : ℕ) : Type 0 where
  pub spares : Spares before after
  pub others : LeavesOtherSessions before after session

-- the first of three readings that is not empty, low's first, then high's and the receiver's
abbrev pub first_full : List ℕ → List ℕ → List ℕ → Option (Role × Why)
first_full [] [] [] = None
first_full [] [] (b ∷ recv) = Some (roles.Recv, NotEmpty (length (b ∷ recv)))
first_full [] (b ∷ high) recv = Some (roles.High, NotEmpty (length (b ∷ high)))
first_full (b ∷ low) high recv = Some (roles.Low, NotEmpty (length (b ∷ low)))

-- the three disks of the session were empty; each is a new disk of the row now, and together they stand for the
-- counts 0 and no message. Disks of other sessions are where they were
pub record IsFormatted (before after : Places) (row : SessionRow) : Type 0 where
  pub empty : OfDisks before row.id (λ low high recv. first_full low high recv ≡ None)
  pub new : (role : Role) → reading_at after row.id role ≡ new_bytes row role 0
  pub stand : OfDisks after row.id (StandForFound row nothing_found)
  pub others : LeavesOtherSessions before after row.id

-- what is said of the disks of a row where they were not formatted
abbrev pub FormatStops : Places → Places → SessionRow → CommandEnd → Type 0
FormatStops before after row Memory = IsSpared before after row.id
FormatStops before after row (Failed role) = IsSpared before after row.id
FormatStops before after row (Refused role why) = OfDisks before row.id (λ low high recv. first_full low high recv
    ≡ Some (role, why)) × ReadsAlike before after
FormatStops before after row end = ⊥

abbrev pub formatted_line : ℕ → List ℕ
formatted_line session = line_with_end (codes "formatted" ∷ decimal session ∷ [])

-- what formatting the disks of a session is to write, and what it leaves, by how it ends. `file` is the table's, and
-- `fails` says which disk failed
abbrev pub Formats : Option (List ℕ) → Places → Places → (ℕ → Role → Type 0) → ℕ → CommandEnd → List ℕ → Type 0
Formats file before after fails session Done output = (row : SessionRow) × HasRow file session row
    × IsFormatted before after row × (output ≡ formatted_line session)
Formats file before after fails session Memory output = IsSpared before after session × (output ≡ [])
Formats file before after fails session Unread output = (after ≡ before) × (output ≡ end_line session Unread)
Formats file before after fails session (NoRow why) output = HasNoRow file session why × (after ≡ before)
    × (output ≡ end_line session (NoRow why))
Formats file before after fails session (Failed role) output = (row : SessionRow) × HasRow file session row
    × fails session role × FormatStops before after row (Failed role) × (output ≡ end_line session (Failed role))
Formats file before after fails session (Refused role why) output = (row : SessionRow) × HasRow file session row
    × FormatStops before after row (Refused role why) × (output ≡ end_line session (Refused role why))
Formats file before after fails session end output = ⊥

-- before anything is written
abbrev pub FormatsSo : Option (List ℕ) → Places → Places → (ℕ → Role → Type 0) → ℕ → Result (Unit {0}) CommandEnd
    → Type 0
FormatsSo file before after fails session (Ok done) = Formats file before after fails session Done
    (formatted_line session)
FormatsSo file before after fails session (Err end) = Formats file before after fails session end (end_line session end)

-- why disks are not formatted
abbrev pub IsDiskEnd : CommandEnd → Type 0
IsDiskEnd Memory = Unit {0}
IsDiskEnd (Failed role) = Unit {0}
IsDiskEnd (Refused role why) = Unit {0}
IsDiskEnd end = ⊥
