-- How a call of `serve` comes to its end.
use Rattle.std.specs.Prelude.{◌≡◌, ◌⊎◌, ℕ, ◌<◌, false, List, [], length, Option, Some, IfSome}
use Rattle.std.specs.Io.KnownBytes.{Consumes}
use Rattle.disk_model.specs.Disk.{Meaning}
use Rattle.disk_model.specs.Shelf.{Holdings}
use Rattle.disk_model.specs.declared.name.Role.{Role}
use Rattle.disk_model.specs.declared.name.Role.TheVariants as roles
use Rattle.pump_frame.specs.Counts.{Rose}
use Rattle.pump_frame.specs.Rows.{IsLawfulRow}
use Rattle.pump_frame.specs.declared.row.SessionRow.{SessionRow}
use Rattle.pump_link.specs.Tells.{Draws}
use Rattle.relay_side.specs.Sides.{SideTells, IsUnused}
use Rattle.relay_threads.specs.declared.rounds_end.RoundsEnd.{RoundsEnd}
use Rattle.relay_threads.specs.declared.rounds_end.RoundsEnd.TheVariants.{Rounds, Device, RecordFailed}
use Rattle.script_replay.specs.Shelves.{Places, reading_at, ReadsAlike}
use Rattle.serving.specs.Doors.{DoorsTell, WantDoor, OpensAndShuts}
use Rattle.serving.specs.Joined.{BothServed}
use Rattle.serving.specs.Sessions.{IfEnded, OpensBy, has_run, is_opened}
use Rattle.serving.specs.declared.session.SessionEnd.{SessionEnd}
use Rattle.serving.specs.declared.session.SessionEnd.TheVariants as session_ends
use Rattle.command_ends.specs.CommandEnds.{NamesFailed}
use Rattle.commands.specs.LentDisks.{LeavesBut}
use Rattle.command_ends.specs.Tables.{IsTableEnd, StopsAtTable, HasRow}
use Rattle.commands.specs.Showing.{end_at}
use Rattle.command_ends.specs.declared.command_end.CommandEnd.{CommandEnd}
use Rattle.command_ends.specs.declared.command_end.CommandEnd.TheVariants.{Done, Memory, Unread, Failed, Unwritten}
use Rattle.command_ends.specs.declared.command_end.CommandEnd.TheVariants.{Unconnected}

-- how the call ends where the workers ended so: the record comes first, then the low disk, then the high one
abbrev pub end_of_workers : RoundsEnd → RoundsEnd → CommandEnd
end_of_workers RecordFailed high = Unwritten
end_of_workers (Device faults) high = Failed roles.Low
end_of_workers Rounds (Device faults) = Failed roles.High
end_of_workers Rounds _ = Done

-- .. and where the session did
abbrev pub end_of_session : SessionEnd → CommandEnd
end_of_session session_ends.Memory = Memory
end_of_session (session_ends.Refused role why) = end_at role (Some why)
end_of_session session_ends.NoDoor = Unconnected
end_of_session session_ends.NoThread = Memory
end_of_session (session_ends.Ended low high) = end_of_workers low high

-- a disk of the session could not be taken off the shelf
abbrev pub StopsAtShelf : CommandEnd → Type 0
StopsAtShelf Memory = Unit {0}
StopsAtShelf (Failed roles.Low) = Unit {0}
StopsAtShelf (Failed roles.High) = Unit {0}
StopsAtShelf end = ⊥

-- ---- what is told of a call ----

-- Where each disk of a shelf is, before the call and now, and what its disks do. Where `tells` has no proof the shelf
-- tells no reading.
pub record DisksTell (S : Type 0) : Type 1 where
  pub tells : Type 0
  pub meaning : Meaning S
  pub before : Places
  pub after : Places

-- The bytes of a file of the shelf, where it tells, and how often a read of a file failed.
pub record FileTells : Type 1 where
  pub tells : Type 0
  pub bytes : Option (List ℕ)
  pub faults : ℕ
  pub now_faults : ℕ

-- what a source has still to give, and how often it failed
pub record SourceTells : Type 0 where
  pub left : Option (List ℕ)
  pub now_left : Option (List ℕ)
  pub faults : ℕ
  pub now_faults : ℕ

abbrev pub disks : {H S : Type 0} → Holdings H → Meaning S → H → H → DisksTell S
disks m meaning old new = record { tells = m.tells; meaning = meaning; before = m.disk old; after = m.disk new }

abbrev pub file : {H : Type 0} → Holdings H → H → H → List ℕ → FileTells
file m old new name = record {
  tells = m.tells;
  bytes = m.file old name;
  faults = m.faults old;
  now_faults = m.faults
      new;
}

abbrev pub source : {Q : Type 0} → (Q → Option (List ℕ)) → (Q → ℕ) → Q → Q → SourceTells
source left faults old new = record {
  left = left old;
  now_left = left new;
  faults = faults old;
  now_faults = faults
      new;
}

-- ---- the row of the table ----

-- the row is a lawful one of this session, and where the shelf tells, it is the file's
abbrev pub GivesRow : FileTells → ℕ → SessionRow → Type 0
GivesRow f session row = IsLawfulRow row × (row.id ≡ session) × (f.tells → HasRow f.bytes session row)

-- there was no row: a read failed, or there was no memory, or, where the shelf tells, the file has none
abbrev pub GivesNoRow : FileTells → ℕ → CommandEnd → Type 0
GivesNoRow f session end = IsTableEnd end × (end ≡ Unread → Rose f.faults f.now_faults)
    × (f.tells → StopsAtTable f.bytes session end)

-- ---- the call ----

-- `low_side` and `high_side` have what each side of the relay tells of the call. Of the sink the second value is that
-- at the end. Ports, clocks, sink and row are spoken of over any shelf, and readings and files over one that tells
-- them.
module _ {D L S : Type 0} (t : DoorsTell D L) (rounds : ℕ) (low_side high_side : SideTells D L) (d : DisksTell S)
    (written : Option (List ℕ)) (out_faults : ℕ) where
  -- nothing was opened, read off a clock, written or changed
  pub record IsIdle (now_written : Option (List ℕ)) : Type 0 where
    pub low_unused : IsUnused low_side
    pub high_unused : IsUnused high_side
    pub unwritten : now_written ≡ written
    pub unchanged : d.tells → ReadsAlike d.before d.after

  -- The session was opened over its two disks, and where both doors were too, both workers served, at the two ends
  -- of one passage: the low one with the words of the key.
  pub record HasServed (row : SessionRow) (key : List ℕ) (end : SessionEnd) (now_written : Option (List ℕ))
      (now_out_faults : ℕ) : Type 0 where
    pub low : S
    pub now_low : S
    pub high : S
    pub now_high : S
    -- they were on the shelf, and are back on it
    pub low_found : d.tells → d.meaning.reading low ≡ reading_at d.before row.id roles.Low
    pub low_left : d.tells → d.meaning.reading now_low ≡ reading_at d.after row.id roles.Low
    pub high_found : d.tells → d.meaning.reading high ≡ reading_at d.before row.id roles.High
    pub high_left : d.tells → d.meaning.reading now_high ≡ reading_at d.after row.id roles.High
    -- the two workers
    pub workers : IfEnded end (λ how_low how_high. BothServed t d.meaning row rounds key low_side high_side written
        now_written out_faults now_out_faults low high now_low now_high how_low how_high)
    -- the other ends, by their causes, and what they leave
    pub opens : OpensBy d.meaning row low high now_low now_high end
    pub wanting : end ≡ session_ends.NoDoor → WantDoor low_side.ports high_side.ports row.low_port row.high_port
    pub unstarted : end ≡ session_ends.NoThread → OpensAndShuts low_side.ports row.low_port
        × OpensAndShuts high_side.ports row.high_port
    pub closed : is_opened end ≡ false → IsUnused low_side × IsUnused high_side
    pub idle : has_run end ≡ false → (now_written ≡ written) × Draws low_side.reads low_side.now_reads []
        × Draws high_side.reads high_side.now_reads []
    pub still : has_run end ≡ false → d.meaning.tells → (d.meaning.reading now_low ≡ d.meaning.reading low)
        × (d.meaning.reading now_high ≡ d.meaning.reading high)

  -- with this key: a disk could not be taken, or the session was served
  abbrev pub ServesWith : SessionRow → List ℕ → CommandEnd → Option (List ℕ) → ℕ → Type 0
  ServesWith row key end mid mid_faults =
      (StopsAtShelf end × IsIdle mid)
      ⊎ ((served : SessionEnd) × (end ≡ end_of_session served) × HasServed row key served mid mid_faults)

  -- .. with the next 32 bytes of the keys; or there are no 32, or a read failed
  abbrev pub ServesFor : SourceTells → SessionRow → CommandEnd → Option (List ℕ) → ℕ → Type 0
  ServesFor keys row end mid mid_faults =
      ((end ≡ Unread) × (Rose keys.faults keys.now_faults ⊎ IfSome keys.left (λ bytes. length bytes < 32)) × IsIdle mid)
      ⊎ ((key : List ℕ) × (length key ≡ 32) × Consumes keys.left keys.now_left key
      × ServesWith row key end mid mid_faults)

  -- .. with the row of the session, if the table has one; `fails` says which disk failed, where the end names one
  abbrev pub ServeComes : SourceTells → FileTells → (ℕ → Role → Type 0) → ℕ → CommandEnd → Option (List ℕ) → ℕ → Type 0
  ServeComes keys f fails session end mid mid_faults =
      NamesFailed fails session end
      × ((GivesNoRow f session end × IsIdle mid)
      ⊎ ((row : SessionRow) × GivesRow f session row × LeavesBut d.before d.after row.id
      × ServesFor keys row end mid mid_faults))
