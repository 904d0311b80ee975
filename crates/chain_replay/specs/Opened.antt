-- What is read of the disks of a shelf when two pumps are joined over them, and afterwards.
use Rattle.std.specs.Prelude.{◌≡◌, ◌⊎◌, ℕ, ◌≤◌, false, List, length, Some}
use Rattle.disk_model.specs.declared.name.DiskName.{DiskName}
use Rattle.disk_model.specs.declared.name.Role.{Role}
use Rattle.disk_model.specs.declared.name.Role.TheVariants as roles
use Rattle.pump_chain.specs.Chained.{Chained}
use Rattle.pump_chain.specs.Comparing.{IsUnlinked}
use Rattle.pump_chain.specs.Opening.{is_by_device}
use Rattle.pump_chain.specs.Standing.{TellPrefixes}
use Rattle.pump_chain.specs.declared.not_chained.ChainWhy.{ChainWhy}
use Rattle.pump_chain.specs.declared.not_chained.ChainWhy.TheVariants as reasons
use Rattle.pump_frame.specs.declared.row.SessionRow.{SessionRow}
use Rattle.script_reader.specs.declared.event.Event.{Event}
use Rattle.script_reader.specs.declared.fault.Fault.{Fault}
use Rattle.script_reader.specs.declared.fault.Fault.TheVariants as faults
use Rattle.script_reader.specs.Openings.{Found, Openings, accepted_in}
use Rattle.script_reader.specs.Scripts.{Whole}
use Rattle.script_reader.specs.Sessions.{events_of}
use Rattle.script_replay.specs.Shelves.{AcknowledgedOutlive, Places, reading_at, OfDisks, HasFound, HoldsLeft}
use Rattle.script_replay.specs.Shelves.{IsRefusedFor, SparesSession, ReadiesSession}
use Rattle.world_laws.specs.Laws.{KeepMessages}
use Rattle.chain_replay.specs.Faults.{chain_fault}

-- every disk of another session than these two is where it was
abbrev pub LeavesOthers : Places → Places → ℕ → ℕ → Type 0
LeavesOthers before after one two = (name : DiskName) → (name.session ≡ one → ⊥) → (name.session ≡ two → ⊥)
    → after name ≡ before name

-- every disk is
abbrev pub LeavesAll : Places → Places → Type 0
LeavesAll before after = (name : DiskName) → after name ≡ before name

-- ---- they make no chain ----

-- the first cause, by what was read of the six disks: the first pump is refused, else the second one, else they are not
-- linked
abbrev pub IsUnchained : Places → SessionRow → SessionRow → ChainWhy → Type 0
IsUnchained before one two reasons.Memory = ⊥
IsUnchained before one two (reasons.Pump session role why) =
    ((session ≡ one.id) × IsRefusedFor before one role why)
    ⊎ ((session ≡ two.id) × ((f : Found) × HasFound before one f) × IsRefusedFor before two role why)
IsUnchained before one two why = (f h : Found) × HasFound before one f × HasFound before two h
    × IsUnlinked (accepted_in h) f.received why

-- memory was wanting: each of their disks is under its name, and reads as it did, or was empty and is a new one of
-- its row
pub record AreReadied (before after : Places) (one two : SessionRow) : Type 0 where
  pub first : ReadiesSession before after one
  pub second : ReadiesSession before after two
  pub others : LeavesOthers before after one.id two.id

-- the fault names a disk of one of two sessions, which fails so
abbrev pub NamesFailed : (ℕ → Role → Type 0) → ℕ → ℕ → Fault → Type 0
NamesFailed fails one two fault =
    (role : Role) × (((fault ≡ faults.Device one role) × fails one role) ⊎ ((fault ≡ faults.Device two role)
    × fails two role))

-- a disk of one of the two can't be taken off the shelf, or fails when it is opened or read, and is named: each that
-- was not empty reads as it did
pub record IsUnopened (before after : Places) (fails : ℕ → Role → Type 0) (one two : SessionRow) (fault : Fault) : Type
    0 where
  pub first : SparesSession before after one.id
  pub second : SparesSession before after two.id
  pub named : NamesFailed fails one.id two.id fault

-- or the two make no chain for this cause: each disk reads as it did, or it was empty, and is a new one
pub record IsBarred (before after : Places) (one two : SessionRow) (fault : Fault) : Type 0 where
  pub first : ReadiesSession before after one
  pub second : ReadiesSession before after two
  pub why : ChainWhy
  pub refused : is_by_device why ≡ false
  pub cause : IsUnchained before one two why
  pub fault_is : chain_fault two.id why ≡ Some fault

abbrev pub NotChained : Places → Places → (ℕ → Role → Type 0) → SessionRow → SessionRow → Fault → Type 0
NotChained before after fails one two fault = LeavesOthers before after one.id two.id
    × (IsUnopened before after fails one two fault ⊎ IsBarred before after one two fault)

-- ---- they are a chain ----

-- four lists that what is read of the disks tells, of which each is a prefix of the next; and each receiver has every
-- message that is removed
abbrev pub ReadPrefixes : Places → SessionRow → SessionRow → Type 0
ReadPrefixes after one two = (f : TellPrefixes one two (reading_at after one.id roles.Low)
    (reading_at after one.id roles.High) (reading_at after one.id roles.Recv)
    (reading_at after two.id roles.Low) (reading_at after two.id roles.High) (reading_at after two.id roles.Recv))
    × (f.tell.removed ≤ length f.received) × (f.next_tell.removed ≤ length f.next_received)

-- The six disks were found to hold what the chain began on, and hold what it has come to, in which each call that is
-- unfinished was kept or lost. In each session every message that was accepted or acknowledged outlives, and the
-- receiver has a prefix of them. No other disk is touched
pub record KeepsChain (before after : Places) (o : Openings) (one two : SessionRow) (c : Chained) : Type 0 where
  pub first_found : HasFound before one (o one.id)
  pub second_found : HasFound before two (o two.id)
  pub first_holds : HoldsLeft after c.first.row c.first.past.world
  pub second_holds : HoldsLeft after c.second.row c.second.past.world
  pub first_keeps : OfDisks after c.first.row.id (KeepMessages c.first.row c.first.past.world)
  pub second_keeps : OfDisks after c.second.row.id (KeepMessages c.second.row c.second.past.world)
  pub prefixes : ReadPrefixes after c.first.row c.second.row
  pub others : LeavesOthers before after one.id two.id

-- in each session every message whose acknowledgement was printed outlives
abbrev pub AcknowledgedOutliveBoth : Places → Chained → List Event → Type 0
AcknowledgedOutliveBoth after c printed = AcknowledgedOutlive after (Some (Whole c.first))
    (events_of c.first.row.id printed)
    × AcknowledgedOutlive after (Some (Whole c.second)) (events_of c.second.row.id printed)

-- ---- all that is said of the disks, by how a replay ends ----

pub record Shelved : Type 1 where
  -- no chain has begun
  pub waits : Type 0
  -- the chain of these two has come to this
  pub keeps : Openings → SessionRow → SessionRow → Chained → Type 0
  -- .. and has printed this, by lines that could all be applied
  pub outlives : SessionRow → SessionRow → Chained → List Event → Type 0
  -- memory was wanting when these two were to be joined
  pub readies : SessionRow → SessionRow → Type 0
  -- the two make no chain, with this fault
  pub refuses : SessionRow → SessionRow → Fault → Type 0
  -- the disk of this role of this session failed
  pub fails : ℕ → Role → Type 0

abbrev pub shelved : Places → Places → (ℕ → Role → Type 0) → Shelved
shelved before after fails = record {
  waits = LeavesAll before after;
  keeps = KeepsChain before after;
  outlives = λ one
      two. AcknowledgedOutliveBoth after;
  readies = AreReadied before after;
  refuses = NotChained before after fails;
  fails = fails;
}
