-- What sending a file over a session leaves on the shelf.
use Rattle.std.proofs.Common.{◌≡◌, ◌⊎◌, inl, inr, ℕ, false, List, [], Option, Some, None, refl, sym, ◌∙◌, subst, arith}
use Rattle.std.proofs.KnownBytes.{Consumes-nil}
use Rattle.disk_model.specs.Disk.{Meaning}
use Rattle.disk_model.specs.declared.name.Role.{Role}
use Rattle.disk_model.specs.declared.name.Role.TheVariants as roles
use Rattle.disk_model.specs.declared.shelf.ShelfFault.{ShelfFault}
use Rattle.disk_model.specs.declared.shelf.ShelfFault.TheVariants as shelf_faults
use Rattle.pump_frame.specs.declared.row.SessionRow.{SessionRow}
use Rattle.pump_wrapper.specs.Cutting.{Gave}
use Rattle.pump_wrapper.specs.Wraps.{HoldAll, IsWhole, is_too_long}
use Rattle.pump_wrapper.specs.Wrapped.{wrapped}
use Rattle.pump_wrapper.specs.WrapEnds.{Ends, HasDiskCause, HasFailed, IsNotOpened, RefusesDisks, Stand}
use Rattle.pump_wrapper.specs.declared.file_sender.WrapEnd.{WrapEnd}
use Rattle.pump_wrapper.specs.declared.file_sender.WrapEnd.TheVariants as answers
use Rattle.recovery.specs.declared.trio.Trio.{Trio}
use Rattle.recovery.specs.Moves.{disk_of}
use Rattle.recovery.specs.declared.why.Why.{Why}
use Rattle.recovery.specs.declared.why.Why.TheVariants as whys
use Rattle.script_reader.specs.Openings.{Found, accepted_in}
use Rattle.script_replay.specs.Lending.{ReadAt, AreOnShelf}
use Rattle.script_replay.specs.Shelves.{Places, LeavesOtherSessions, reading_at}
use Rattle.script_replay.proofs.Shelving.{others_so}
use Rattle.stable_buffer.specs.Format.{new_bytes}
use Rattle.two_worlds.specs.Openings.{IsLeft, IsRefused, StandForFound, readied}
use Rattle.two_worlds.specs.declared.applied.Stop.TheVariants as stops
use Rattle.command_ends.specs.CommandEnds.{IsWrapEnd}
use Rattle.commands.specs.Formatting.{IsDiskEnd}
use Rattle.commands.specs.LentDisks.{StopsAtShelf}
use Rattle.commands.specs.Showing.{end_at}
use Rattle.commands.specs.TakenDisks.{RoseAt}
use Rattle.command_ends.specs.Tables.{HasRow, IsTableEnd}
use Rattle.commands.specs.Wrapping.{FailsAtFormat, HoldsFile, HoldsOn, Leaves, RefusesSession, Wraps, WrapsFrom, end_of_wrap, is_long}
use Rattle.command_ends.specs.declared.command_end.CommandEnd.{CommandEnd}
use Rattle.command_ends.specs.declared.command_end.CommandEnd.TheVariants.{Memory, Unread, NoRow, Failed, Refused, Unwritten}
use Rattle.commands.proofs.Caused.{at_disk}
use Rattle.commands.proofs.Formatted.{was, is}

-- ---- ends ----

pub untaken_stops : (fault : ShelfFault) (role : Role) (end : CommandEnd) → (fault ≡ shelf_faults.Memory → end ≡ Memory) → (fault ≡ shelf_faults.Failed → end ≡ Failed role) → StopsAtShelf end
untaken_stops shelf_faults.Memory role end memory failed = subst StopsAtShelf (sym (memory refl)) tt
untaken_stops shelf_faults.Failed role end memory failed = subst StopsAtShelf (sym (failed refl)) tt

-- a disk that is not opened is neither too long, nor that nothing could be written
disk_short : (end : CommandEnd) → IsDiskEnd end → is_long end ≡ false
disk_short Memory only = refl
disk_short (Failed role) only = refl
disk_short (Refused role why) only = refl
disk_short end only = absurd only

pub wrap_disk_only : (end : CommandEnd) → IsDiskEnd end → IsWrapEnd end
wrap_disk_only Memory only = tt
wrap_disk_only (Failed role) only = tt
wrap_disk_only (Refused role why) only = tt
wrap_disk_only end only = absurd only

pub same_length : (answer : WrapEnd) → is_long (end_of_wrap answer) ≡ is_too_long answer
same_length (answers.Done bytes messages) = refl
same_length answers.Memory = refl
same_length answers.Read = refl
same_length answers.TooLong = refl
same_length (answers.Differs number) = refl
same_length (answers.Refused role why) = disk_short (end_at role (Some why)) (at_disk role why)
same_length (answers.Stopped stops.Line) = refl
same_length (answers.Stopped (stops.Device role faults)) = refl
same_length (answers.Stopped (stops.Full end length size)) = refl
same_length (answers.Stopped (stops.Disk role why)) = refl

pub never_unwritten : (answer : WrapEnd) → end_of_wrap answer ≡ Unwritten → ⊥
never_unwritten (answers.Done bytes messages) e = cc
never_unwritten answers.Memory e = cc
never_unwritten answers.Read e = cc
never_unwritten answers.TooLong e = cc
never_unwritten (answers.Differs number) e = cc
never_unwritten (answers.Refused role why) e = subst IsDiskEnd e (at_disk role why)
never_unwritten (answers.Stopped stops.Line) e = cc
never_unwritten (answers.Stopped (stops.Device role faults)) e = cc
never_unwritten (answers.Stopped (stops.Full end length size)) e = cc
never_unwritten (answers.Stopped (stops.Disk role why)) e = cc

-- .. nor that the file could not be read
pub reads_alone : (answer : WrapEnd) → end_of_wrap answer ≡ Unread → answer ≡ answers.Read
reads_alone (answers.Done bytes messages) e = absurd (cc)
reads_alone answers.Memory e = absurd (cc)
reads_alone answers.Read e = refl
reads_alone answers.TooLong e = absurd (cc)
reads_alone (answers.Differs number) e = absurd (cc)
reads_alone (answers.Refused role why) e = absurd (subst IsDiskEnd e (at_disk role why))
reads_alone (answers.Stopped stops.Line) e = absurd (cc)
reads_alone (answers.Stopped (stops.Device role faults)) e = absurd (cc)
reads_alone (answers.Stopped (stops.Full end length size)) e = absurd (cc)
reads_alone (answers.Stopped (stops.Disk role why)) e = absurd (cc)

pub wrap_only : (answer : WrapEnd) → IsWrapEnd (end_of_wrap answer)
wrap_only (answers.Done bytes messages) = tt
wrap_only answers.Memory = tt
wrap_only answers.Read = tt
wrap_only answers.TooLong = tt
wrap_only (answers.Differs number) = tt
wrap_only (answers.Refused role why) = wrap_disk_only (end_at role (Some why)) (at_disk role why)
wrap_only (answers.Stopped stops.Line) = tt
wrap_only (answers.Stopped (stops.Device role faults)) = tt
wrap_only (answers.Stopped (stops.Full end length size)) = tt
wrap_only (answers.Stopped (stops.Disk role why)) = tt

pub wrap_table_only : (end : CommandEnd) → IsTableEnd end → IsWrapEnd end
wrap_table_only Memory h = tt
wrap_table_only Unread h = tt
wrap_table_only (NoRow why) h = tt
wrap_table_only end h = absurd h

-- ---- a disk that failed ----

module _ {D : Type 0} (m : Meaning D) (old new : Trio D) where
  rose_at : (role : Role) (faults : ℕ) → HasFailed m role faults old new → RoseAt m role old new
  rose_at roles.Low faults h = h.1
  rose_at roles.High faults h = h.1
  rose_at roles.Recv faults h = h.1

  failed_role : (a b : Role) → Failed a ≡ Failed b → a ≡ b
  failed_role a b e = cc

  refused_rose : (at role : Role) (why : Why) → HasDiskCause m old new (answers.Refused at why) → end_at at (Some why) ≡ Failed role → RoseAt m role old new
  refused_rose at role (whys.Device faults) h e = subst (λ (r : Role). RoseAt m r old new) (failed_role at role e) (rose_at at faults h)
  refused_rose at role (whys.NotABuffer size bytes) h e = absurd (cc)
  refused_rose at role (whys.WrongShape field found wanted) h e = absurd (cc)
  refused_rose at role (whys.BadRegister first second) h e = absurd (cc)
  refused_rose at role (whys.Mismatch removed accepted) h e = absurd (cc)
  refused_rose at role (whys.BadSlot number length) h e = absurd (cc)
  refused_rose at role (whys.Apart count bound) h e = absurd (cc)
  refused_rose at role (whys.Differs number) h e = absurd (cc)
  refused_rose at role (whys.NotEmpty size) h e = absurd (cc)
  refused_rose at role (whys.Small held capacity) h e = absurd (cc)
  refused_rose at role (whys.TooLong number size) h e = absurd (cc)

  pub device_rose : (answer : WrapEnd) (role : Role) → HasDiskCause m old new answer → end_of_wrap answer ≡ Failed role → RoseAt m role old new
  device_rose (answers.Done bytes messages) role h e = absurd (cc)
  device_rose answers.Memory role h e = absurd (cc)
  device_rose answers.Read role h e = absurd (cc)
  device_rose answers.TooLong role h e = absurd (cc)
  device_rose (answers.Differs number) role h e = absurd (cc)
  device_rose (answers.Refused at why) role h e = refused_rose at role why h e
  device_rose (answers.Stopped stops.Line) role h e = absurd (cc)
  device_rose (answers.Stopped (stops.Device at faults)) role h e = subst (λ (r : Role). RoseAt m r old new) (failed_role at role e) (rose_at at faults h)
  device_rose (answers.Stopped (stops.Full end length size)) role h e = absurd (cc)
  device_rose (answers.Stopped (stops.Disk at why)) role h e = absurd (cc)

-- ---- the disks of the session ----

module _ {D : Type 0} (m : Meaning D) (tells : m.tells) (before mid now : Places) (row : SessionRow) (old new : Trio D)
    (lent : LeavesOtherSessions before mid row.id) (returned : LeavesOtherSessions mid now row.id)
    (low_read : ReadAt before row.id roles.Low (m.reading old.low)) (high_read : ReadAt before row.id roles.High (m.reading old.high)) (recv_read : ReadAt before row.id roles.Recv (m.reading old.recv))
    (on : AreOnShelf now row.id (m.reading new.low) (m.reading new.high) (m.reading new.recv)) where
  was_at : (role : Role) → reading_at before row.id role ≡ m.reading (disk_of old role)
  was_at roles.Low = was m tells before mid now row.id old new lent returned low_read high_read recv_read on roles.Low
  was_at roles.High = was m tells before mid now row.id old new lent returned low_read high_read recv_read on roles.High
  was_at roles.Recv = was m tells before mid now row.id old new lent returned low_read high_read recv_read on roles.Recv

  is_at : (role : Role) → reading_at now row.id role ≡ m.reading (disk_of new role)
  is_at roles.Low = is m tells before mid now row.id old new lent returned low_read high_read recv_read on roles.Low
  is_at roles.High = is m tells before mid now row.id old new lent returned low_read high_read recv_read on roles.High
  is_at roles.Recv = is m tells before mid now row.id old new lent returned low_read high_read recv_read on roles.Recv

  abbrev Three : Type 0
  Three = List ℕ × List ℕ × List ℕ

  -- what is said of the three readings before, and after
  of_old : (P : Three → Type 0) → P (m.reading old.low, m.reading old.high, m.reading old.recv) → P (reading_at before row.id roles.Low, reading_at before row.id roles.High, reading_at before row.id roles.Recv)
  of_old P h = subst P (λ i. (sym (was_at roles.Low) i, sym (was_at roles.High) i, sym (was_at roles.Recv) i)) h

  to_old : (P : Three → Type 0) → P (reading_at before row.id roles.Low, reading_at before row.id roles.High, reading_at before row.id roles.Recv) → P (m.reading old.low, m.reading old.high, m.reading old.recv)
  to_old P h = subst P (λ i. (was_at roles.Low i, was_at roles.High i, was_at roles.Recv i)) h

  of_new : (P : Three → Type 0) → P (m.reading new.low, m.reading new.high, m.reading new.recv) → P (reading_at now row.id roles.Low, reading_at now row.id roles.High, reading_at now row.id roles.Recv)
  of_new P h = subst P (λ i. (sym (is_at roles.Low) i, sym (is_at roles.High) i, sym (is_at roles.Recv) i)) h

  abbrev FindsIn : Found → Three → Type 0
  FindsIn f t = StandForFound row f (readied row roles.Low t.0) (readied row roles.High t.1) (readied row roles.Recv t.2)

  -- a disk that is as it was, or was empty and is new
  kept : (at : Role) → IsLeft m row at (disk_of old at) (disk_of new at) false
      → (reading_at now row.id at ≡ reading_at before row.id at) ⊎ ((reading_at before row.id at ≡ []) × (reading_at now row.id at ≡ new_bytes row at 0))
  kept at (inl moves) = inl (is_at at ∙ moves.reads tells ∙ sym (was_at at))
  kept at (inr made) = inr (was_at at ∙ (made tells).0, is_at at ∙ (made tells).1 refl)

  holds : (left now_left : Option (List ℕ)) (answer : WrapEnd) (f : Found) → Ends m row left now_left (accepted_in f) old answer new
      → FailsAtFormat before now row left now_left answer ⊎ HoldsOn now row left (accepted_in f) answer
  holds left now_left answer f (inl fails) = inl (record {
    role = fails.role;
    faults = fails.faults;
    answer_is = fails.end_is;
    empty = was_at fails.role ∙ fails.empty;
    unread = fails.unread;
    others = λ other differ. kept other (fails.others other differ);
  })
  holds left now_left answer f (inr e) = inr (record { now = e.now; found = of_new (FindsIn e.now) e.stand; grows = e.grows; sent = e.sent; ends = e.ends })

  file_held : (left : Option (List ℕ)) (answer : WrapEnd) → ((bytes : List ℕ) → left ≡ Some bytes → IsWhole m row bytes answer new) → HoldsFile now row left answer
  file_held None answer h = tt
  file_held (Some file) (answers.Done bytes messages) h =
      let w = h file refl in
      (w.0, w.1, of_new (λ t. HoldAll row (wrapped row.message file) t.0 t.1 t.2) w.2)
  file_held (Some file) answers.Memory h = tt
  file_held (Some file) answers.Read h = tt
  file_held (Some file) answers.TooLong h = tt
  file_held (Some file) (answers.Differs number) h = tt
  file_held (Some file) (answers.Refused role why) h = tt
  file_held (Some file) (answers.Stopped stop) h = tt

  refuses : (answer : WrapEnd) → RefusesDisks m row old answer new → RefusesSession before now row answer
  refuses (answers.Refused role why) h = λ other.
      let r = h tells other in (
        of_old (λ t. IsRefused row (readied row roles.Low t.0) (readied row roles.High t.1) (readied row roles.Recv t.2) role why) r.first,
        λ at. kept at (r.left at),
      )
  refuses (answers.Done bytes messages) h = tt
  refuses answers.Memory h = tt
  refuses answers.Read h = tt
  refuses answers.TooLong h = tt
  refuses (answers.Differs number) h = tt
  refuses (answers.Stopped stop) h = tt

  pub leaves : (left now_left : Option (List ℕ)) (answer : WrapEnd) → ((bytes : List ℕ) → left ≡ Some bytes → IsWhole m row bytes answer new) → ((f : Found) → Stand m row old f → Ends m row left now_left (accepted_in f) old answer new)
      → IsNotOpened answer ⊎ ((f : Found) × Stand m row old f) → RefusesDisks m row old answer new → Leaves before now row left now_left answer
  leaves left now_left answer whole ends opened refused = record {
    others = others_so before mid now row.id lent returned;
    opened = elim opened [ inl e ↦ inl e | inr some ↦ inr (some.0, of_old (FindsIn some.0) some.1) ];
    holds = λ f found. holds left now_left answer f (ends f (to_old (FindsIn f) found));
    file = file_held left answer whole;
    refused = refuses answer refused;
  }

-- ---- the command ----

pub wraps_row : (faults now_faults : ℕ) (file : Option (List ℕ)) (before between after : Places) (session : ℕ) (row : SessionRow) (left now_left : Option (List ℕ)) (end : CommandEnd) → HasRow file session row → between ≡ before
    → WrapsFrom between after row left now_left end → Wraps faults now_faults file before after session left now_left end
wraps_row faults now_faults file before between after session row left now_left end has same h = inr (row, has, subst (λ (places : Places). WrapsFrom places after row left now_left end) same h)

-- the source was not read
pub nothing_given : (left : Option (List ℕ)) → Gave 0 left left false
nothing_given left = ([], Consumes-nil left, (λ e. absurd (cc)), λ e. omega arith)
