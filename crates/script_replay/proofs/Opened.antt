-- A whole session is opened over its disks, or it is not, and they are back on the shelf.
use Rattle.std.proofs.Common.{◌≡◌, ℕ, Bool, true, false, List, [], Option, None, Some, Result, Ok, Err, IfErr, inl, inr, refl, sym, ap, ◌∙◌, subst}
use Rattle.std.specs.Prelude.{◌⊎◌, ◌&&◌, IfSome}
use Rattle.disk_model.specs.Disk.{Meaning}
use Rattle.disk_model.specs.Shelf.{Holdings}
use Rattle.disk_model.specs.declared.shelf.ShelfFault.{ShelfFault}
use Rattle.disk_model.specs.declared.shelf.ShelfFault.TheVariants as shelf
use Rattle.disk_model.specs.declared.disk.Disk.{Ghosts}
use Rattle.disk_model.specs.declared.name.Role.{Role}
use Rattle.disk_model.specs.declared.name.Role.TheVariants as roles
use Rattle.pump_frame.specs.Counts.{Rose}
use Rattle.pump_frame.specs.Rows.{IsLawfulRow}
use Rattle.pump_frame.specs.declared.row.SessionRow.{SessionRow}
use Rattle.recovery.specs.Calls.{is_device}
use Rattle.recovery.specs.Faults.{why_number, why_values}
use Rattle.recovery.specs.declared.why.Why.{Why}
use Rattle.recovery.specs.declared.why.Why.TheVariants as whys
use Rattle.stable_buffer.specs.Format.{new_bytes}
use Rattle.script_reader.specs.declared.fault.Fault.{Fault}
use Rattle.script_reader.specs.declared.fault.Fault.TheVariants as faults
use Rattle.script_reader.specs.declared.line.Line.TheVariants as lines
use Rattle.script_reader.specs.Openings.{Found, first_past}
use Rattle.script_reader.specs.Scripts.{Whole}
use Rattle.two_worlds.specs.Openings.{readied, DisksStandFor, IsRefused, LeavesDisk, ComeBack, is_for_device, failed_at}
use Rattle.two_worlds.specs.Rooms.{is_role}
use Rattle.two_worlds.specs.Pumps as pump
use Rattle.two_worlds.specs.declared.not_open.NotOpen.{NotOpen}
use Rattle.two_worlds.specs.declared.pump.Pump.{Pump}
use Rattle.script_replay.specs.Failing.{IsNotGiven, CameBackFailed, FailsAt}
use Rattle.script_replay.specs.Lending.{ReadAt, IsOutAt, RisesAt, AreOnShelf, Readies}
use Rattle.script_replay.specs.Shelves.{Places, disk_name, reading_in, reading_at, HasFound, IsRefusedFor, LeavesOtherSessions, AllAreBack, SparesSession, ReadiesSession, Spares}
use Rattle.script_replay.specs.Sessions.{LendsNew}
use Rattle.script_replay.specs.Runners.{fault_of, outcome_at, Begins, IsDeviceOutcomeOf, IsOfBeginning}
use Rattle.script_replay.specs.declared.session.Session.{Session}
use Rattle.script_replay.specs.declared.session.Session.TheVariants as sessions
use Rattle.script_replay.specs.declared.outcome.LineOutcome.{LineOutcome}
use Rattle.script_replay.specs.declared.outcome.LineOutcome.TheVariants as outcomes
use Rattle.script_replay.proofs.Shelving.{read_in, rose_more, all_back, spares_so, readies_so, spared_by, left_by, counts_more, rises_more, out_still}

-- ---- the session begins ----

module _ {D : Type 0} (g : Ghosts D) (d : Meaning D) (before now : Places) (row : SessionRow) (low high recv : D) (p : Pump D g) where
  abbrev begun : Session D g
  begun = sessions.Whole row.id p

  module _ (low_out : IsOutAt now row.id roles.Low (d.count low)) (high_out : IsOutAt now row.id roles.High (d.count high)) (recv_out : IsOutAt now row.id roles.Recv (d.count recv))
      (others : LeavesOtherSessions before now row.id)
      (low_goes : LeavesDisk d row roles.Low low (pump.disk_at roles.Low p) false) (high_goes : LeavesDisk d row roles.High high (pump.disk_at roles.High p) false) (recv_goes : LeavesDisk d row roles.Recv recv (pump.disk_at roles.Recv p) false) where
    out_so : (role : Role) → IsOutAt now row.id role (d.count (pump.disk_at role p))
    out_so roles.Low = out_still now row.id roles.Low _ _ (counts_more d _ _ _ _ low_goes.serves) low_out
    out_so roles.High = out_still now row.id roles.High _ _ (counts_more d _ _ _ _ high_goes.serves) high_out
    out_so roles.Recv = out_still now row.id roles.Recv _ _ (counts_more d _ _ _ _ recv_goes.serves) recv_out

    pub lends_so : LendsNew d before now begun
    lends_so = record { out = out_so; others = others }

  module _ (lawful : IsLawfulRow row) (low_read : ReadAt before row.id roles.Low (d.reading low)) (high_read : ReadAt before row.id roles.High (d.reading high)) (recv_read : ReadAt before row.id roles.Recv (d.reading recv))
      (found : (f : Found) × DisksStandFor d row low high recv f)
      (stands : (f : Found) → DisksStandFor d row low high recv f → pump.StandsFor d p (first_past row f)) (same : pump.row_of p ≡ row) (up : pump.is_down p ≡ false) where
    abbrev f : Found
    f = found.0

    has_found : HasFound before row f
    has_found =
        rw (read_in _ _ low_read, read_in _ _ high_read, read_in _ _ recv_read) found.1

    pub begins_so : Begins d before now (lines.Session row) (Ok begun)
    begins_so = (
      Whole (record { row = row; past = first_past row f }),
      (λ session. f, ((lawful, found.1.can_open, refl), refl), has_found),
      record { up = up; is_of = (refl, same, stands f found.1) },
    )

-- ---- it does not ----

device_fault : (id : ℕ) (role : Role) (why : Why) → is_device why ≡ true → fault_of id role why ≡ faults.Device id role
device_fault id role (whys.Device n) e = refl
device_fault id role (whys.NotABuffer size bytes) e = cc
device_fault id role (whys.WrongShape field found wanted) e = cc
device_fault id role (whys.BadRegister first second) e = cc
device_fault id role (whys.Mismatch removed accepted) e = cc
device_fault id role (whys.BadSlot number length) e = cc
device_fault id role (whys.Apart count bound) e = cc
device_fault id role (whys.Differs number) e = cc
device_fault id role (whys.NotEmpty size) e = cc
device_fault id role (whys.Small held capacity) e = cc
device_fault id role (whys.TooLong number size) e = cc

disk_fault : (id : ℕ) (role : Role) (why : Why) → is_device why ≡ false → fault_of id role why ≡ faults.Disk id role (why_number why) (why_values why).0 (why_values why).1
disk_fault id role (whys.Device n) e = cc
disk_fault id role (whys.NotABuffer size bytes) e = refl
disk_fault id role (whys.WrongShape field found wanted) e = refl
disk_fault id role (whys.BadRegister first second) e = refl
disk_fault id role (whys.Mismatch removed accepted) e = refl
disk_fault id role (whys.BadSlot number length) e = refl
disk_fault id role (whys.Apart count bound) e = refl
disk_fault id role (whys.Differs number) e = refl
disk_fault id role (whys.NotEmpty size) e = refl
disk_fault id role (whys.Small held capacity) e = refl
disk_fault id role (whys.TooLong number size) e = refl

is_device_fault : (id number : ℕ) (at role : Role) (why : Why) → IsDeviceOutcomeOf number role (outcomes.Stopped (fault_of id at why)) → (is_device why ≡ true) × (id ≡ number) × (at ≡ role)
is_device_fault id number at role (whys.Device n) h = (refl, h.0, h.1)
is_device_fault id number at role (whys.NotABuffer size bytes) h = absurd h
is_device_fault id number at role (whys.WrongShape field found wanted) h = absurd h
is_device_fault id number at role (whys.BadRegister first second) h = absurd h
is_device_fault id number at role (whys.Mismatch removed accepted) h = absurd h
is_device_fault id number at role (whys.BadSlot number_of length) h = absurd h
is_device_fault id number at role (whys.Apart count bound) h = absurd h
is_device_fault id number at role (whys.Differs number_of) h = absurd h
is_device_fault id number at role (whys.NotEmpty size) h = absurd h
is_device_fault id number at role (whys.Small held capacity) h = absurd h
is_device_fault id number at role (whys.TooLong number_of size) h = absurd h

none_failed : {D : Type 0} (role : Role) (e : NotOpen D) (why : Why) → e.why ≡ Some why → is_device why ≡ false → failed_at role e ≡ false
none_failed role e why is fine = ap (λ (w : Option Why). is_for_device w && is_role role e.role) is ∙ ap (λ (b : Bool). b && is_role role e.role) fine

same_role : (role : Role) → is_role role role ≡ true
same_role roles.Low = refl
same_role roles.High = refl
same_role roles.Recv = refl

some_failed : {D : Type 0} (e : NotOpen D) (why : Why) → e.why ≡ Some why → is_device why ≡ true → failed_at e.role e ≡ true
some_failed e why is failed = ap (λ (w : Option Why). is_for_device w && is_role e.role e.role) is ∙ ap (λ (b : Bool). b && is_role e.role e.role) failed ∙ same_role e.role

turned : (old new a b fresh : List ℕ) → (new ≡ old) ⊎ ((old ≡ []) × (new ≡ fresh)) → a ≡ old → b ≡ new → (b ≡ a) ⊎ ((a ≡ []) × (b ≡ fresh))
turned old new a b fresh (inl same) at on = inl (on ∙ same ∙ sym at)
turned old new a b fresh (inr made) at on = inr (at ∙ made.0, on ∙ made.1)

-- so of the disks of one session
session_spared : (before now : Places) (id : ℕ) → Spares before now → SparesSession before now id
session_spared before now id spares role some = spares (disk_name id role) some

session_readied : (before now : Places) (row : SessionRow) → Readies before now row → ReadiesSession before now row
session_readied before now row readies role = elim (readies (disk_name row.id role)) [ inl same ↦ inl same | inr fresh ↦ inr (fresh.1, fresh.2) ]

-- a disk can't be taken off the shelf
pub untaken_goes : {D : Type 0} (g : Ghosts D) (d : Meaning D) (before now : Places) (row : SessionRow) (role : Role) → IsLawfulRow row → Spares before now
    → Begins {g = g} d before now (lines.Session row) (Err (outcomes.Stopped (faults.Device row.id role)))
untaken_goes g d before now row role lawful spares = (row, refl, lawful, inl (role, refl, session_spared before now row.id spares))

pub returns_all : (before mid now : Places) (id : ℕ) → LeavesOtherSessions before mid id → LeavesOtherSessions mid now id → (low high recv : List ℕ) → AreOnShelf now id low high recv → AllAreBack before now
returns_all before mid now id taken returned low high recv on = all_back before mid now id taken returned low high recv on

module _ {D : Type 0} (g : Ghosts D) (d : Meaning D) (before mid now : Places) (row : SessionRow) (low high recv : D) (e : NotOpen D) (back : ComeBack d row low high recv e)
    (taken : LeavesOtherSessions before mid row.id) (returned : LeavesOtherSessions mid now row.id) where
  module _ (tells : d.tells) (low_read : ReadAt before row.id roles.Low (d.reading low)) (high_read : ReadAt before row.id roles.High (d.reading high)) (recv_read : ReadAt before row.id roles.Recv (d.reading recv))
      (on : AreOnShelf now row.id (d.reading e.low) (d.reading e.high) (d.reading e.recv)) where
    at_low : reading_at before row.id roles.Low ≡ d.reading low
    at_low = read_in _ _ low_read

    at_high : reading_at before row.id roles.High ≡ d.reading high
    at_high = read_in _ _ high_read

    at_recv : reading_at before row.id roles.Recv ≡ d.reading recv
    at_recv = read_in _ _ recv_read

    spared : (role : Role) → (reading_at before row.id role ≡ [] → ⊥) → reading_at now row.id role ≡ reading_at before row.id role
    spared roles.Low some = ap reading_in on.low_on ∙ spared_by d tells row roles.Low low e.low _ back.low_disk (λ none. some (at_low ∙ none)) ∙ sym at_low
    spared roles.High some = ap reading_in on.high_on ∙ spared_by d tells row roles.High high e.high _ back.high_disk (λ none. some (at_high ∙ none)) ∙ sym at_high
    spared roles.Recv some = ap reading_in on.recv_on ∙ spared_by d tells row roles.Recv recv e.recv _ back.recv_disk (λ none. some (at_recv ∙ none)) ∙ sym at_recv

    spares : Spares before now
    spares = spares_so before mid now row.id taken returned _ _ _ on spared

    module _ (fine : (role : Role) → failed_at role e ≡ false) where
      left : (role : Role) → (reading_at now row.id role ≡ reading_at before row.id role) ⊎ ((reading_at before row.id role ≡ []) × (reading_at now row.id role ≡ new_bytes row role 0))
      left roles.Low = turned _ _ _ _ _ (left_by d tells row roles.Low low e.low _ (fine roles.Low) back.low_disk) at_low (ap reading_in on.low_on)
      left roles.High = turned _ _ _ _ _ (left_by d tells row roles.High high e.high _ (fine roles.High) back.high_disk) at_high (ap reading_in on.high_on)
      left roles.Recv = turned _ _ _ _ _ (left_by d tells row roles.Recv recv e.recv _ (fine roles.Recv) back.recv_disk) at_recv (ap reading_in on.recv_on)

      readies : Readies before now row
      readies = readies_so before mid now row.id taken returned _ _ _ on row refl left

    refused_at : (why : Why) → IsRefused row (readied row roles.Low (d.reading low)) (readied row roles.High (d.reading high)) (readied row roles.Recv (d.reading recv)) e.role why → IsRefusedFor before row e.role why
    refused_at why h = rw (at_low, at_high, at_recv) h

    barred_goes : (why : Why) → IsLawfulRow row → e.why ≡ Some why → is_device why ≡ false
        → Begins {g = g} d before now (lines.Session row) (Err (outcomes.Stopped (faults.Disk row.id e.role (why_number why) (why_values why).0 (why_values why).1)))
    barred_goes why lawful is fine =
        let refused = subst (λ (w : Option Why). IfSome w (λ x. is_device x ≡ false → d.tells → IsRefused row (readied row roles.Low (d.reading low)) (readied row roles.High (d.reading high)) (readied row roles.Recv (d.reading recv)) e.role x)) is back.refused in
        (row, refl, lawful, inr (e.role, why, refl, refused_at why (refused fine tells), session_readied before now row (readies (λ role. none_failed role e why is fine))))

    unopened_some : (why : Why) → IsLawfulRow row → e.why ≡ Some why → (b : Bool) → is_device why ≡ b
        → Begins {g = g} d before now (lines.Session row) (Err (outcomes.Stopped (fault_of row.id e.role why)))
    unopened_some why lawful is true b =
        subst (λ (x : Fault). Begins {g = g} d before now (lines.Session row) (Err (outcomes.Stopped x))) (sym (device_fault row.id e.role why b)) (untaken_goes g d before now row e.role lawful spares)
    unopened_some why lawful is false b =
        subst (λ (x : Fault). Begins {g = g} d before now (lines.Session row) (Err (outcomes.Stopped x))) (sym (disk_fault row.id e.role why b)) (barred_goes why lawful is b)

    pub unopened_goes : (why : Option Why) → IsLawfulRow row → e.why ≡ why → Begins {g = g} d before now (lines.Session row) (Err (outcome_at row.id e.role why))
    unopened_goes None lawful is = tt
    unopened_goes (Some why) lawful is = unopened_some why lawful is (is_device why) refl

-- the disk whose call failed came back, and the shelf's count rose
module _ {S D : Type 0} (m : Holdings S) (d : Meaning D) (lent : S) (now : Places) (row : SessionRow) (low high recv : D) (e : NotOpen D) (back : ComeBack d row low high recv e)
    (low_out : IsOutAt (m.disk lent) row.id roles.Low (d.count low)) (high_out : IsOutAt (m.disk lent) row.id roles.High (d.count high)) (recv_out : IsOutAt (m.disk lent) row.id roles.Recv (d.count recv)) where
  low_rose : failed_at roles.Low e ≡ true → Rose low_out.0 (d.count e.low)
  low_rose failed = rose_more low_out.0 _ _ low_out.2 (rises_more d _ _ _ _ failed back.low_disk.serves)

  high_rose : failed_at roles.High e ≡ true → Rose high_out.0 (d.count e.high)
  high_rose failed = rose_more high_out.0 _ _ high_out.2 (rises_more d _ _ _ _ failed back.high_disk.serves)

  recv_rose : failed_at roles.Recv e ≡ true → Rose recv_out.0 (d.count e.recv)
  recv_rose failed = rose_more recv_out.0 _ _ recv_out.2 (rises_more d _ _ _ _ failed back.recv_disk.serves)

  module _ (on : m.tells → AreOnShelf now row.id (d.reading e.low) (d.reading e.high) (d.reading e.recv)) (first last : ℕ)
      (low_rises : RisesAt (m.disk lent) row.id roles.Low (d.count e.low) first last) (high_rises : RisesAt (m.disk lent) row.id roles.High (d.count e.high) first last)
      (recv_rises : RisesAt (m.disk lent) row.id roles.Recv (d.count e.recv) first last) where
    fails_at : (role : Role) → failed_at role e ≡ true → Rose first last × CameBackFailed m d now row.id role
    fails_at roles.Low failed = (
      low_rises low_out.0 low_out.1 (low_rose failed),
      record { lent = lent; given = low_out.0; disk = e.low; out = low_out.1; rose = low_rose failed; back = λ told. (on told).low_on },
    )
    fails_at roles.High failed = (
      high_rises high_out.0 high_out.1 (high_rose failed),
      record { lent = lent; given = high_out.0; disk = e.high; out = high_out.1; rose = high_rose failed; back = λ told. (on told).high_on },
    )
    fails_at roles.Recv failed = (
      recv_rises recv_out.0 recv_out.1 (recv_rose failed),
      record { lent = lent; given = recv_out.0; disk = e.recv; out = recv_out.1; rose = recv_rose failed; back = λ told. (on told).recv_on },
    )

    pub unopened_fails : (why : Option Why) → e.why ≡ why → (number : ℕ) (role : Role) → IsDeviceOutcomeOf number role (outcome_at row.id e.role why)
        → (number ≡ row.id) × Rose first last × CameBackFailed m d now number role
    unopened_fails None is number role h = absurd h
    unopened_fails (Some why) is number role h =
        let f = is_device_fault row.id number e.role role why h in
        let fails = fails_at e.role (some_failed e why is f.0) in
        (sym f.1, fails.0, subst (λ (r : Role). CameBackFailed m d now number r) f.2 (subst (λ (n : ℕ). CameBackFailed m d now n e.role) f.1 fails.1))

pub if_err : {T E : Type 0} (r : Result T E) (P Q : E → Type 0) → IfErr r P → ((e : E) → P e → Q e) → IfErr r Q
if_err (Ok x) P Q h f = tt
if_err (Err e) P Q h f = f e h

-- a disk could not be taken off the shelf
pub untaken_fails : {S D : Type 0} (m : Holdings S) (d : Meaning D) (old new : S) (id : ℕ) (role : Role) (fault : ShelfFault) (outcome : LineOutcome)
    → (fault ≡ shelf.Memory → outcome ≡ outcomes.Memory) → (fault ≡ shelf.Failed → outcome ≡ outcomes.Stopped (faults.Device id role))
    → (fault ≡ shelf.Failed → Rose (m.disk_faults old) (m.disk_faults new)) → (fault ≡ shelf.Failed → IsNotGiven m (m.disk old) id role)
    → (number : ℕ) (other : Role) → IsDeviceOutcomeOf number other outcome → (number ≡ id) × FailsAt m d old new number other
untaken_fails m d old new id role shelf.Memory outcome memory failed rose asked number other h = absurd (subst (IsDeviceOutcomeOf number other) (memory refl) h)
untaken_fails m d old new id role shelf.Failed outcome memory failed rose asked number other h =
    let same = subst (IsDeviceOutcomeOf number other) (failed refl) h in (
      sym same.0,
      (rose refl, inl (subst (λ (r : Role). IsNotGiven m (m.disk old) number r) same.1 (subst (λ (n : ℕ). IsNotGiven m (m.disk old) n role) same.0 (asked refl)))),
    )

pub untaken_unprinted : (id : ℕ) (role : Role) (fault : ShelfFault) (outcome : LineOutcome) → (fault ≡ shelf.Memory → outcome ≡ outcomes.Memory) → (fault ≡ shelf.Failed → outcome ≡ outcomes.Stopped (faults.Device id role)) → IsOfBeginning outcome
untaken_unprinted id role shelf.Memory outcome memory failed = subst IsOfBeginning (sym (memory refl)) tt
untaken_unprinted id role shelf.Failed outcome memory failed = subst IsOfBeginning (sym (failed refl)) tt

pub untaken_unrefused : (id : ℕ) (role : Role) (fault : ShelfFault) (outcome : LineOutcome) → (fault ≡ shelf.Memory → outcome ≡ outcomes.Memory) → (fault ≡ shelf.Failed → outcome ≡ outcomes.Stopped (faults.Device id role))
    → outcome ≡ outcomes.Refused → ⊥
untaken_unrefused id role shelf.Memory outcome memory failed e = let is = memory refl in cc
untaken_unrefused id role shelf.Failed outcome memory failed e = let is = failed refl in cc

pub never_refused : (id : ℕ) (role : Role) (why : Option Why) (outcome : LineOutcome) → outcome ≡ outcome_at id role why → outcome ≡ outcomes.Refused → ⊥
never_refused id role None outcome is e = cc
never_refused id role (Some why) outcome is e = cc

pub of_beginning : (id : ℕ) (role : Role) (why : Option Why) (outcome : LineOutcome) → outcome ≡ outcome_at id role why → IsOfBeginning outcome
of_beginning id role None outcome is = subst IsOfBeginning (sym is) tt
of_beginning id role (Some why) outcome is = subst IsOfBeginning (sym is) tt
