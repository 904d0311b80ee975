-- A disk is told to fail only where its count rose.
use Rattle.std.proofs.Common.{◌≡◌, ◌≤◌, ℕ, Bool, true, List, Option, None, Some, inl, inr, refl, sym, ap, ◌∙◌, subst, arith}
use Rattle.std.specs.Prelude.{◌⊎◌, ◌&&◌}
use Rattle.disk_model.specs.Disk.{Meaning}
use Rattle.disk_model.specs.Shelf.{Holdings}
use Rattle.disk_model.specs.declared.disk.Disk.{Ghosts}
use Rattle.disk_model.specs.declared.name.Role.{Role}
use Rattle.disk_model.specs.declared.name.Role.TheVariants as roles
use Rattle.pump_chain.specs.Failing.{FailNoLess}
use Rattle.pump_chain.specs.Opening.{disk_in, trio_of, AreLeft, IsUnopened, IsApart, ComeBackFor}
use Rattle.pump_chain.specs.Chained.{Share, Skipped, OfFirst, OfSecond, MakesFirst, MakesSecond, OfNone, share_by}
use Rattle.pump_chain.specs.Standing.{FailsBy, IsCounted}
use Rattle.pump_chain.specs.declared.chain.Chain.{Chain}
use Rattle.pump_chain.specs.declared.not_chained.ChainWhy.{ChainWhy}
use Rattle.pump_chain.specs.declared.not_chained.ChainWhy.TheVariants as reasons
use Rattle.pump_chain.specs.declared.six.Six.{Six}
use Rattle.pump_frame.specs.Counts.{Rose}
use Rattle.pump_frame.specs.declared.row.SessionRow.{SessionRow}
use Rattle.recovery.specs.Calls.{is_device}
use Rattle.recovery.specs.declared.trio.Trio.{Trio}
use Rattle.recovery.specs.declared.why.Why.{Why}
use Rattle.recovery.specs.declared.why.Why.TheVariants as whys
use Rattle.script_reader.specs.declared.fault.Fault.{Fault}
use Rattle.script_reader.specs.declared.fault.Fault.TheVariants as faults
use Rattle.script_reader.specs.declared.line.Arriving.TheVariants.{Nothing}
use Rattle.script_reader.specs.declared.line.Line.{Line}
use Rattle.script_replay.specs.Failing.{CameBackFailed, FailsAt}
use Rattle.script_replay.specs.Runners.{Closes, fault_of}
use Rattle.script_replay.specs.Shelves.{Places, disk_name, LeavesOtherSessions}
use Rattle.script_replay.specs.declared.ended.Ended.{Ended}
use Rattle.script_replay.specs.declared.ended.Ended.TheVariants as ended
use Rattle.script_replay.proofs.Shelving.{rises_more, rose_more}
use Rattle.two_worlds.specs.declared.applied.Stop.{Stop}
use Rattle.two_worlds.specs.declared.applied.Stop.TheVariants as stops
use Rattle.two_worlds.specs.declared.pump.Pump.{Pump}
use Rattle.two_worlds.specs.Openings.{LeavesDisk, ComeBack}
use Rattle.two_worlds.specs.Pumps.{disk_at, row_of}
use Rattle.chain_replay.specs.Faults.{chain_fault, IsHalted, NamesWhatFailed}
use Rattle.chain_replay.specs.Private.{outcome_by, AllRiseAt, AreOutAt, AreBackAt, HasFailedAt, HasFailed, FailsIn, IsDevice, IsDeviceEnd}
use Rattle.chain_replay.specs.Scripts.{Begun}
use Rattle.chain_replay.specs.declared.applying.ChainOutcome.{ChainOutcome}
use Rattle.chain_replay.specs.declared.applying.ChainOutcome.TheVariants as outcomes

-- ---- the disks come back ----

-- the disks of the first session, behind which others came back
pub rise_then : {D : Type 0} (m : Meaning D) (places : Places) (session : ℕ) (t : Trio D) (first mid last : ℕ) → mid ≤ last → AllRiseAt m places session t first mid → AllRiseAt m places session t first last
rise_then m places session t first mid last low rises role given out rose = (let r = rises role given out rose in omega (arith, r, low))

-- .. and those of the second one
pub rise_there : {D : Type 0} (m : Meaning D) (before now : Places) (one two : ℕ) (apart : one ≡ two → ⊥) (t : Trio D) (first mid last : ℕ) → LeavesOtherSessions before now one → first ≤ mid → AllRiseAt m now two t mid last
    → AllRiseAt m before two t first last
rise_there m before now one two apart t first mid last others low rises role given out rose =
    (let r = rises role given (others (disk_name two role) (λ e. apart (sym e)) ∙ out) rose in omega (arith, r, low))

-- one failed since it was off the shelf
pub rose_back : {D : Type 0} (m : Meaning D) (places : Places) (session : ℕ) (old new : Trio D) (first mid last : ℕ) → first ≤ mid → AreOutAt m places session old → AllRiseAt m places session new mid last → HasFailedAt m old new → Rose first last
rose_back m places session old new first mid last low out rises (role, rose) =
    let h = out role in
    let r = rises role h.0 h.1 (rose_more h.0 (m.count (disk_in role old)) (m.count (disk_in role new)) h.2 rose) in
    omega (arith, r, low)

-- ---- no chain is opened ----

module _ {D : Type 0} (m : Meaning D) (row : SessionRow) (old new : Trio D) where
  abbrev pub RoseIn : Role → Type 0
  RoseIn role = Rose (m.count (disk_in role old)) (m.count (disk_in role new))

  rose_at : (role : Role) (failed : Bool) → failed ≡ true → LeavesDisk m row role (disk_in role old) (disk_in role new) failed → RoseIn role
  rose_at role failed e l = rises_more m _ _ _ failed e l.serves

  pub left_failed : (role : Role) → AreLeft m row old new (Some role) → RoseIn role
  left_failed roles.Low l = rose_at roles.Low true refl l.low
  left_failed roles.High l = rose_at roles.High true refl l.high
  left_failed roles.Recv l = rose_at roles.Recv true refl l.recv

  pub come_failed : (at : Role) (why : Why) → ComeBack m row old.low old.high old.recv (record { role = at; why = Some why; low = new.low; high = new.high; recv = new.recv }) → is_device why ≡ true → RoseIn at
  come_failed roles.Low why e d = rose_at roles.Low (is_device why && true) (ap (λ (b : Bool). b && true) d) e.low_disk
  come_failed roles.High why e d = rose_at roles.High (is_device why && true) (ap (λ (b : Bool). b && true) d) e.high_disk
  come_failed roles.Recv why e d = rose_at roles.Recv (is_device why && true) (ap (λ (b : Bool). b && true) d) e.recv_disk

is_device_of : (session : ℕ) (role : Role) (why : Why) → IsDevice (fault_of session role why) → is_device why ≡ true
is_device_of session role (whys.Device n) h = refl
is_device_of session role (whys.NotABuffer size bytes) h = absurd h
is_device_of session role (whys.WrongShape field found wanted) h = absurd h
is_device_of session role (whys.BadRegister first second) h = absurd h
is_device_of session role (whys.Mismatch removed accepted) h = absurd h
is_device_of session role (whys.BadSlot number length) h = absurd h
is_device_of session role (whys.Apart count bound) h = absurd h
is_device_of session role (whys.Differs number) h = absurd h
is_device_of session role (whys.NotEmpty size) h = absurd h
is_device_of session role (whys.Small held capacity) h = absurd h
is_device_of session role (whys.TooLong number size) h = absurd h

some_is : (x y : Fault) → Some x ≡ Some y → y ≡ x
some_is x y e = cc e

module _ {D : Type 0} (m : Meaning D) (one two : SessionRow) (old new : Six D) (fault : Fault) (device : IsDevice fault) where
  abbrev Failed : Type 0
  Failed = HasFailedAt m old.first new.first ⊎ HasFailedAt m old.second new.second

  of_why : (x : Fault) → Some x ≡ Some fault → IsDevice x
  of_why x is = subst IsDevice (some_is x fault is) device

  by_first : (why : ChainWhy) → IsUnopened m one old.first new.first why → chain_fault two.id why ≡ Some fault → Failed
  by_first reasons.Memory h is = absurd (cc is)
  by_first (reasons.Link count bound) h is = absurd h
  by_first (reasons.Unlike number) h is = absurd h
  by_first (reasons.Pump session role why) (id, e) is = inl (role, come_failed m one old.first new.first role why e (is_device_of session role why (of_why _ is)))

  by_second : (why : ChainWhy) → IsUnopened m two old.second new.second why → chain_fault two.id why ≡ Some fault → Failed
  by_second reasons.Memory h is = absurd (cc is)
  by_second (reasons.Link count bound) h is = absurd h
  by_second (reasons.Unlike number) h is = absurd h
  by_second (reasons.Pump session role why) (id, e) is = inr (role, come_failed m two old.second new.second role why e (is_device_of session role why (of_why _ is)))

  by_apart : (why : ChainWhy) → IsApart m one two old new why → chain_fault two.id why ≡ Some fault → Failed
  by_apart reasons.Memory h is = absurd h
  by_apart (reasons.Pump session role why) (inl (id, at, h, failed)) is = inl (role, left_failed m one old.first new.first role h.0.left)
  by_apart (reasons.Pump session role why) (inr (id, at, h, failed)) is = inr (role, left_failed m two old.second new.second role h.1.left)
  by_apart (reasons.Link count bound) h is = absurd (of_why (faults.Disk two.id roles.Low 12 count bound) is)
  by_apart (reasons.Unlike number) h is = absurd (of_why (faults.Disk two.id roles.Low 13 number 0) is)

  pub device_rose : (why : ChainWhy) → ComeBackFor m one two old new why → chain_fault two.id why ≡ Some fault → Failed
  device_rose why (inl h) is = by_first why h.0 is
  device_rose why (inr (inl h)) is = by_second why h.1 is
  device_rose why (inr (inr h)) is = by_apart why h is

-- a disk of the session came back so
pub came_back : {S D : Type 0} (h : Holdings S) (m : Meaning D) (lent : S) (last : Places) (session : ℕ) (old new : Trio D) → AreOutAt m (h.disk lent) session old → (h.tells → AreBackAt m last session new) → (role : Role) → Rose (m.count (disk_in role old)) (m.count (disk_in role new))
    → CameBackFailed h m last session role
came_back h m lent last session old new out back role rose =
    let o = out role in
    record {
      lent = lent;
      given = o.0;
      disk = disk_in role new;
      out = o.1;
      rose = rose_more o.0 (m.count (disk_in role old)) (m.count (disk_in role new)) o.2 rose;
      back = λ told. back told role;
    }

-- ---- a line stops the chain ----

stopped_is : (x y : Fault) → outcomes.Stopped x ≡ outcomes.Stopped y → y ≡ x
stopped_is x y e = cc e

since : {D : Type 0} (m : Meaning D) (s t u : Trio D) → ((role : Role) → m.count (disk_in role s) ≤ m.count (disk_in role t)) → HasFailedAt m t u → HasFailedAt m s u
since m s t u low (role, rose) = (role, (let least = low role in omega (arith, least, rose)))

module _ {D : Type 0} {g : Ghosts D} (m : Meaning D) where
  trio_failed : (p q : Pump D g) (role : Role) → Rose (m.count (disk_at role p)) (m.count (disk_at role q)) → HasFailedAt m (trio_of p) (trio_of q)
  trio_failed p q roles.Low rose = (roles.Low, rose)
  trio_failed p q roles.High rose = (roles.High, rose)
  trio_failed p q roles.Recv rose = (roles.Recv, rose)

  counted : (s t : Chain D g) (share : Share) (role : Role) (faults : ℕ) → FailsBy m share role faults s.first t.first s.second t.second → HasFailed m s t
  counted s t Skipped role faults h = absurd h
  counted s t OfNone role faults h = absurd h
  counted s t MakesFirst role faults h = absurd h
  counted s t MakesSecond role faults h = absurd h
  counted s t (OfFirst line) role faults h = inl (trio_failed s.first t.first role h.0)
  counted s t (OfSecond line) role faults (inl h) = inr (trio_failed s.second t.second role h.0)
  counted s t (OfSecond line) role faults (inr (look, is, h)) = inl (trio_failed s.first t.first role h.0)

  by_stop : (s t : Chain D g) (first : ℕ) (line : Line) (stop : Option Stop) (fault : Fault) → IsCounted m s t line stop → outcome_by first line stop ≡ outcomes.Stopped fault → IsDevice fault → HasFailed m s t
  by_stop s t first line None fault counts is device = absurd (cc is)
  by_stop s t first line (Some stops.Line) fault counts is device = absurd (cc is)
  by_stop s t first line (Some (stops.Device role n)) fault counts is device = counted s t (share_by (row_of s.first).id (row_of s.second).id Nothing line) role n counts
  by_stop s t first line (Some (stops.Full end length size)) fault counts is device = absurd (subst IsDevice (stopped_is _ fault is) device)
  by_stop s t first line (Some (stops.Disk role why)) fault counts is device = absurd (subst IsDevice (stopped_is _ fault is) device)

  pub line_failed : (s t : Chain D g) (first : ℕ) (line : Line) (stop : Option Stop) (outcome : ChainOutcome) → outcome ≡ outcome_by first line stop → IsCounted m s t line stop → (fault : Fault) → outcome ≡ outcomes.Stopped fault → IsDevice fault → HasFailed m s t
  line_failed s t first line stop outcome is counts fault e device = by_stop s t first line stop fault counts (sym is ∙ e) device

  by_trio : (p q : Pump D g) → ((role : Role) → m.count (disk_at role p) ≤ m.count (disk_at role q)) → (role : Role) → m.count (disk_in role (trio_of p)) ≤ m.count (disk_in role (trio_of q))
  by_trio p q low roles.Low = low roles.Low
  by_trio p q low roles.High = low roles.High
  by_trio p q low roles.Recv = low roles.Recv

  pub none_failed : (s : Chain D g) → FailNoLess m s s
  none_failed s = (λ role. omega arith, λ role. omega arith)

  pub no_less : (s t u : Chain D g) → FailNoLess m s t → FailNoLess m t u → FailNoLess m s u
  no_less s t u a b = ((λ role. let x = a.0 role in let y = b.0 role in omega (arith, x, y)), (λ role. let x = a.1 role in let y = b.1 role in omega (arith, x, y)))

  -- .. since earlier on
  pub failed_since : (s t u : Chain D g) → FailNoLess m s t → HasFailed m t u → HasFailed m s u
  failed_since s t u low (inl h) = inl (since m (trio_of s.first) (trio_of t.first) (trio_of u.first) (by_trio s.first t.first low.0) h)
  failed_since s t u low (inr h) = inr (since m (trio_of s.second) (trio_of t.second) (trio_of u.second) (by_trio s.second t.second low.1) h)

  fails_since : (s t u : Chain D g) (one two session : ℕ) (role : Role) → FailNoLess m s t → FailsIn m one two t u session role → FailsIn m one two s u session role
  fails_since s t u one two session role low (inl (is, rose)) = inl (is, (let least = by_trio s.first t.first low.0 role in omega (arith, least, rose)))
  fails_since s t u one two session role low (inr (is, rose)) = inr (is, (let least = by_trio s.second t.second low.1 role in omega (arith, least, rose)))

  -- .. and the one that is named
  pub named_since : (s t u : Chain D g) (one two : ℕ) (fault : Fault) → FailNoLess m s t → NamesWhatFailed (FailsIn m one two t u) fault → NamesWhatFailed (FailsIn m one two s u) fault
  named_since s t u one two (faults.Device session role) low h = fails_since s t u one two session role low h
  named_since s t u one two fault low h = tt

-- .. came back so, at which the shelf's count rose
pub fails_at : {S D : Type 0} {g : Ghosts D} (h : Holdings S) (m : Meaning D) (old lent last : S) (one two : ℕ) (s t : Chain D g) → AreOutAt m (h.disk lent) one (trio_of s.first) → AreOutAt m (h.disk lent) two (trio_of s.second)
    → h.disk_faults old ≤ h.disk_faults lent → AllRiseAt m (h.disk lent) one (trio_of t.first) (h.disk_faults lent) (h.disk_faults last) → AllRiseAt m (h.disk lent) two (trio_of t.second) (h.disk_faults lent) (h.disk_faults last)
    → (h.tells → AreBackAt m (h.disk last) one (trio_of t.first)) → (h.tells → AreBackAt m (h.disk last) two (trio_of t.second)) → (session : ℕ) (role : Role) → FailsIn m one two s t session role → FailsAt h m old last session role
fails_at h m old lent last one two s t out next_out low rises next_rises back next_back session role (inl (is, rose)) =
    subst (λ (i : ℕ). FailsAt h m old last i role) (sym is) (
      rose_back m (h.disk lent) one (trio_of s.first) (trio_of t.first) (h.disk_faults old) (h.disk_faults lent) (h.disk_faults last) low out rises (role, rose),
      inr (came_back h m lent (h.disk last) one (trio_of s.first) (trio_of t.first) out back role rose),
    )
fails_at h m old lent last one two s t out next_out low rises next_rises back next_back session role (inr (is, rose)) =
    subst (λ (i : ℕ). FailsAt h m old last i role) (sym is) (
      rose_back m (h.disk lent) two (trio_of s.second) (trio_of t.second) (h.disk_faults old) (h.disk_faults lent) (h.disk_faults last) low next_out next_rises (role, rose),
      inr (came_back h m lent (h.disk last) two (trio_of s.second) (trio_of t.second) next_out next_back role rose),
    )

-- ---- the ends ----

-- such an end has such a fault
pub closed_device : (old new : Option (List ℕ)) (before now : ℕ) (bytes : List ℕ) (fault : Fault) (result : Ended) → Closes old new before now bytes (ended.Stopped fault) result → IsDeviceEnd result → IsDevice fault
closed_device old new before now bytes fault result c h = elim c [
  | inl is ↦ subst IsDeviceEnd is.0 h
  | inr is ↦ absurd (subst IsDeviceEnd is.0 h)
]

pub device_end : (result : Ended) → IsDeviceEnd result → (fault : Fault) × (result ≡ ended.Stopped fault)
device_end ended.Done h = absurd h
device_end ended.Memory h = absurd h
device_end ended.Write h = absurd h
device_end (ended.Stopped fault) h = (fault, refl)

-- the first lines have none
pub not_device : (rest left : Option (List ℕ)) (number was now : ℕ) (begun : Begun) (fault : Fault) → IsHalted rest left number was now begun fault → IsDevice fault → ⊥
not_device rest left number was now begun faults.Words h d = d
not_device rest left number was now begun faults.Read h d = d
not_device rest left number was now begun (faults.Script line) h d = d
not_device rest left number was now begun (faults.Device session role) h d = h
not_device rest left number was now begun (faults.Disk session role n x y) h d = d
not_device rest left number was now begun (faults.Full session end n size) h d = d
