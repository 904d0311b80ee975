-- What is read of a shelf's disks before a replay and after it. `before` and `after` say where each disk is.
use Rattle.std.specs.Prelude.{◌≡◌, ◌⊎◌, ℕ, List, [], Option, None, Some}
use Rattle.std.specs.List.{AllByRecursion}
use Rattle.disk_model.specs.declared.name.DiskName.{DiskName}
use Rattle.disk_model.specs.declared.name.Role.{Role}
use Rattle.disk_model.specs.declared.name.Role.TheVariants as roles
use Rattle.disk_model.specs.Shelf.{Whereabouts, OnShelf, Out, Nowhere, IsOut}
use Rattle.pump_frame.specs.declared.payload.Payload.{Payload}
use Rattle.pump_frame.specs.declared.row.SessionRow.{SessionRow}
use Rattle.stable_buffer.specs.Format.{new_bytes}
use Rattle.stable_buffer.specs.Log.{RecvStands}
use Rattle.pump_core.specs.Lawful.{IsLawful, IsPrefixOf}
use Rattle.pump_core.specs.Replies.{Sent}
use Rattle.pump_core.specs.World.{World}
use Rattle.recovery.specs.declared.why.Why.{Why}
use Rattle.script_reader.specs.declared.event.Event.{Event}
use Rattle.script_reader.specs.Openings.{Found, Openings}
use Rattle.script_reader.specs.Readouts.{low_lines}
use Rattle.script_reader.specs.Scripts.{Running, Begun, Whole, Alone}
use Rattle.script_reader.specs.Sessions.{session_at, events_of}
use Rattle.world_laws.specs.Disks.{StandFor, StandForLeft}
use Rattle.world_laws.specs.Laws.{KeepMessages, AckOutlives}
use Rattle.two_worlds.specs.Openings.{readied, StandForFound, IsRefused}

-- ---- the disks of a shelf ----

-- where each disk is
abbrev pub Places : Type 0
Places = DiskName → Whereabouts

abbrev pub disk_name : ℕ → Role → DiskName
disk_name session role = record { session = session; role = role }

-- what a disk reads: one that was never on the shelf reads nothing
abbrev pub reading_in : Whereabouts → List ℕ
reading_in (OnShelf reading) = reading
reading_in (Out given) = []
reading_in Nowhere = []

abbrev pub reading_at : Places → ℕ → Role → List ℕ
reading_at places session role = reading_in (places (disk_name session role))

-- what is said of three readings holds of the session's disks
abbrev pub OfDisks : Places → ℕ → (List ℕ → List ℕ → List ℕ → Type 0) → Type 0
OfDisks places session Holds = Holds (reading_at places session roles.Low) (reading_at places session roles.High)
    (reading_at places session roles.Recv)

-- .. once each that is empty is formatted
abbrev pub OfReadied : SessionRow → (List ℕ → List ℕ → List ℕ → Type 0) → List ℕ → List ℕ → List ℕ → Type 0
OfReadied row Holds low high recv = Holds (readied row roles.Low low) (readied row roles.High high)
    (readied row roles.Recv recv)

-- ---- the disks of a session ----

-- they are found to hold f
abbrev pub HasFound : Places → SessionRow → Found → Type 0
HasFound places row f = OfDisks places row.id (OfReadied row (StandForFound row f))

-- they can't be opened: the first cause is this disk's
abbrev pub IsRefusedFor : Places → SessionRow → Role → Why → Type 0
IsRefusedFor places row role why = OfDisks places row.id
    (OfReadied row (λ low high recv. IsRefused row low high recv role why))

-- they stand for this world; or for it with each call that is unfinished kept or lost
abbrev pub HoldsWorld : Places → SessionRow → World → Type 0
HoldsWorld places row w = OfDisks places row.id (StandFor row w)

abbrev pub HoldsLeft : Places → SessionRow → World → Type 0
HoldsLeft places row w = OfDisks places row.id (StandForLeft row w)

-- ---- before and after ----

-- every disk of another session is where it was
abbrev pub LeavesOtherSessions : Places → Places → ℕ → Type 0
LeavesOtherSessions before after session = (name : DiskName) → (name.session ≡ session → ⊥) → after name ≡ before name

-- no disk is off the shelf that was not before
abbrev pub AllAreBack : Places → Places → Type 0
AllAreBack before after = (name : DiskName) → IsOut (after name) → IsOut (before name)

-- every disk reads as it did
abbrev pub ReadsAlike : Places → Places → Type 0
ReadsAlike before after = (name : DiskName) → reading_in (after name) ≡ reading_in (before name)

-- every disk that was not empty does
abbrev pub Spares : Places → Places → Type 0
Spares before after = (name : DiskName) → (reading_in (before name) ≡ [] → ⊥) → reading_in (after name)
    ≡ reading_in (before name)

-- every disk of this session is where it was
abbrev pub LeavesSession : Places → Places → ℕ → Type 0
LeavesSession before after session = (role : Role) → after (disk_name session role) ≡ before (disk_name session role)

-- every disk of it that was not empty reads as it did
abbrev pub SparesSession : Places → Places → ℕ → Type 0
SparesSession before after session = (role : Role) → (reading_at before session role ≡ [] → ⊥)
    → reading_at after session role ≡ reading_at before session role

-- .. and one that was is so still, or is a new disk of the row
abbrev pub ReadiesSession : Places → Places → SessionRow → Type 0
ReadiesSession before after row = (role : Role) → (reading_at after row.id role ≡ reading_at before row.id role)
    ⊎ ((reading_at before row.id role ≡ []) × (reading_at after row.id role ≡ new_bytes row role 0))

-- every disk of the session of this number reads as it did
abbrev pub ReadsSessionAlike : Places → Places → ℕ → Type 0
ReadsSessionAlike before after session = (role : Role) → reading_at after session role ≡ reading_at before session role

-- Of a session that began on what its disks were found to hold: they stand for the world that it came to; the
-- receiver's list is a prefix of the accepted one, and every accepted message is in it or in the live slots of the
-- low disk; so is, with the payload that was accepted, every message whose acknowledgement was printed
pub record KeepsSession (before after : Places) (s : Running) (f : Found) (printed : List Event) : Type 0 where
  pub found : HasFound before s.row f
  pub holds : HoldsWorld after s.row s.past.world
  pub prefix : OfDisks after s.row.id (KeepMessages s.row s.past.world)
  pub outlives : AllByRecursion (λ (x : Sent). AckOutlives s.row s.past.world.accepted prefix.received
      (reading_at after s.row.id roles.Low) (reading_at after s.row.id roles.High) x.reply) (low_lines printed)

-- ---- what the headline says of the disks ----

-- each message whose acknowledgement was printed outlives the call: the receiver's disk has it, or its slot of the
-- low disk
abbrev pub AcknowledgedOutlive : Places → Option Begun → List Event → Type 0
AcknowledgedOutlive after (Some (Whole s)) printed =
    (received : List Payload) × RecvStands s.row received (reading_at after s.row.id roles.Recv)
    × AllByRecursion (λ (x : Sent). AckOutlives s.row s.past.world.accepted received
    (reading_at after s.row.id roles.Low) (reading_at after s.row.id roles.High) x.reply) (low_lines printed)
AcknowledgedOutlive after (Some (Alone s)) printed = Unit {0}
AcknowledgedOutlive after None printed = Unit {0}

-- the receiver's list is a prefix of the accepted one
abbrev pub ReceiverHasPrefix : Places → Option Begun → Type 0
ReceiverHasPrefix after (Some (Whole s)) =
    (received : List Payload) × RecvStands s.row received (reading_at after s.row.id roles.Recv)
    × IsPrefixOf received s.past.world.accepted
ReceiverHasPrefix after (Some (Alone s)) = Unit {0}
ReceiverHasPrefix after None = Unit {0}

-- ---- the sessions of a script ----

-- so of the session of this number, where the script has begun it and it has disks of the shelf; else those of this
-- number are where they were
abbrev pub IsKept : Places → Places → ℕ → Openings → Option Begun → List Event → Type 0
IsKept before after number o (Some (Whole s)) printed = KeepsSession before after s (o s.row.id) printed
IsKept before after number o (Some (Alone s)) printed = LeavesSession before after number
IsKept before after number o None printed = LeavesSession before after number

-- .. of each number, of all these sessions
abbrev pub AreKept : Places → Places → Openings → List Begun → List Event → Type 0
AreKept before after o begun printed = (number : ℕ)
    → IsKept before after number o (session_at number begun) (events_of number printed)

-- .. of each number but this one
abbrev pub AreOthersKept : Places → Places → ℕ → Openings → List Begun → List Event → Type 0
AreOthersKept before after one o begun printed =
    (number : ℕ) → (number ≡ one → ⊥)
    → IsKept before after number o (session_at number begun) (events_of number printed)

-- where the session of this number has begun and has disks of the shelf, each reads as it did, or it was empty, and
-- is a new disk of the session's row; else each reads as it did
abbrev pub IsReadied : Places → Places → ℕ → Option Begun → Type 0
IsReadied before after number (Some (Whole s)) = (number ≡ s.row.id) × ReadiesSession before after s.row
IsReadied before after number (Some (Alone s)) = ReadsSessionAlike before after number
IsReadied before after number None = ReadsSessionAlike before after number

-- .. of each number, of all these sessions
abbrev pub AreReadied : Places → Places → List Begun → Type 0
AreReadied before after begun = (number : ℕ) → IsReadied before after number (session_at number begun)

-- of a session whose last line was cut short by the device of a disk: its world keeps all bounds, the unfinished call
-- was kept or lost, and no message that was accepted or acknowledged is lost
pub record BreaksSession (before after : Places) (s : Running) (f : Found) : Type 0 where
  pub found : HasFound before s.row f
  pub lawful : IsLawful s.past.world
  pub holds : HoldsLeft after s.row s.past.world
  pub prefix : OfDisks after s.row.id (KeepMessages s.row s.past.world)

-- ---- all that is said of a shelf, by how a replay ends ----

-- `begun` are the sessions that the script has begun, and `printed` is what was printed
pub record Shelved : Type 1 where
  -- each has come to this
  pub keeps : Openings → List Begun → List Event → Type 0
  -- no line has come yet that needs not stand first, and memory was wanting for the next one
  pub waits : List Begun → Type 0
  -- the last line of this one was cut short by the device of a disk
  pub breaks : Openings → List Begun → Running → List Event → Type 0
  -- a disk of the session of this number could not be taken off the shelf, or failed when it was to be opened
  pub spares : Openings → List Begun → ℕ → List Event → Type 0
  -- the disks of this row were refused
  pub refuses : Openings → List Begun → SessionRow → Role → Why → List Event → Type 0

abbrev pub shelved : Places → Places → Shelved
shelved before after = record {
  keeps = AreKept before after;
  waits = AreReadied before after;
  breaks = λ o begun s printed. BreaksSession before after s (o s.row.id)
      × AreOthersKept before after s.row.id o begun printed;
  spares = λ o begun number printed. SparesSession before after number
      × AreOthersKept before after number o begun printed;
  refuses = λ o begun row role why printed. IsRefusedFor before row role why × ReadiesSession before after row
      × AreOthersKept before after row.id o begun printed;
}
