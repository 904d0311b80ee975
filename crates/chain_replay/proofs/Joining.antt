-- Two pumps are joined over the disks of a shelf, or they make no chain.
use Rattle.std.proofs.Common.{◌≡◌, ℕ, ◌==◌, Bool, true, false, List, [], Option, None, Some, inl, inr, refl, sym, ap, ◌∙◌, subst}
use Rattle.std.specs.Prelude.{◌⊎◌, ◌&&◌, if◌then◌else◌}
use Rattle.std.proofs.lemmas.Bool.{cases_eq, eq-eqb, ne_eqb}
use Rattle.disk_model.specs.Disk.{Meaning}
use Rattle.disk_model.specs.declared.disk.Disk.{Ghosts}
use Rattle.disk_model.specs.declared.name.Role.{Role}
use Rattle.disk_model.specs.declared.name.Role.TheVariants as roles
use Rattle.disk_model.specs.Shelf.{IsOut}
use Rattle.pump_chain.specs.Opening.{disk_in, first_chained, StandFor, HandsBack, HandBoth, IsUnopened as IsNotOpened, IsApart, ComeBackFor, AreLeft, is_failed, is_by_device}
use Rattle.pump_chain.specs.Standing.{ChainStands}
use Rattle.pump_chain.specs.declared.chain.Chain.{Chain}
use Rattle.pump_chain.specs.declared.not_chained.ChainWhy.{ChainWhy}
use Rattle.pump_chain.specs.declared.not_chained.ChainWhy.TheVariants as reasons
use Rattle.pump_chain.specs.declared.six.Six.{Six}
use Rattle.pump_frame.specs.Counts.{Rose}
use Rattle.pump_frame.specs.Rows.{IsLawfulRow}
use Rattle.pump_frame.specs.declared.row.SessionRow.{SessionRow}
use Rattle.recovery.specs.Calls.{is_device}
use Rattle.recovery.specs.declared.trio.Trio.{Trio}
use Rattle.recovery.specs.declared.why.Why.{Why}
use Rattle.recovery.specs.declared.why.Why.TheVariants as whys
use Rattle.script_reader.specs.declared.fault.Fault.{Fault}
use Rattle.script_reader.specs.declared.fault.Fault.TheVariants as faults
use Rattle.script_reader.specs.Openings.{Found, Openings}
use Rattle.script_replay.specs.Lending.{IsOutAt}
use Rattle.script_replay.specs.Runners.{fault_of, IsLineFault}
use Rattle.script_replay.specs.Shelves.{Places, disk_name, reading_in, reading_at, HasFound, IsRefusedFor, AllAreBack, SparesSession, ReadiesSession, ReadsAlike}
use Rattle.script_replay.proofs.Shelving.{read_in, name_is, spared_by, left_by, counts_more, out_still}
use Rattle.stable_buffer.specs.Format.{new_bytes}
use Rattle.two_worlds.specs.Openings.{LeavesDisk, ComeBack, failed_at}
use Rattle.two_worlds.specs.Rooms.{is_role}
use Rattle.chain_replay.specs.Faults.{chain_fault}
use Rattle.chain_replay.specs.Opened.{LeavesOthers, AreReadied, NamesFailed, IsUnopened, IsBarred, IsUnchained, NotChained}
use Rattle.chain_replay.specs.Private.{AreReadAt, AreOutAt, AreBackAt, AreHome, IsUntaken, IsOfLine, Joins}
use Rattle.chain_replay.specs.Scripts.{MayFollow}
use Rattle.chain_replay.proofs.Failed.{come_failed, left_failed}
use Rattle.chain_replay.proofs.Taking.{by_role}

-- ---- they begin ----

module _ {D : Type 0} (m : Meaning D) (before : Places) (row : SessionRow) (t : Trio D) (read : AreReadAt m before row.id t) where
  pub has_found : (f : Found) → StandFor m row t f → HasFound before row f
  has_found f s = rw (
    read_in (before (disk_name row.id roles.Low)) (m.reading t.low) (read roles.Low),
    read_in (before (disk_name row.id roles.High)) (m.reading t.high) (read roles.High),
    read_in (before (disk_name row.id roles.Recv)) (m.reading t.recv) (read roles.Recv),
  ) s

-- what each of two sessions was found to hold
abbrev found_both : ℕ → Found → Found → Openings
found_both one f h = λ number. if number == one then f else h

at_first : (one : ℕ) (f h : Found) → found_both one f h one ≡ f
at_first one f h = ap (λ (b : Bool). if b then f else h) (eq-eqb one one refl)

at_second : (one two : ℕ) (f h : Found) → (one ≡ two → ⊥) → found_both one f h two ≡ h
at_second one two f h apart = ap (λ (b : Bool). if b then f else h) (ne_eqb two one (λ e. apart (sym e)))

module _ {D : Type 0} {g : Ghosts D} (m : Meaning D) (before : Places) (one two : SessionRow) (chain : Chain D g) (first second : Trio D) (lawful : IsLawfulRow one) (follows : MayFollow one two)
    (first_read : AreReadAt m before one.id first) (second_read : AreReadAt m before two.id second) (found : (f : Found) × StandFor m one first f) (next : (h : Found) × StandFor m two second h)
    (stands : (f h : Found) → StandFor m one first f → StandFor m two second h → ChainStands m chain (first_chained one f two h)) where
  abbrev f : Found
  f = found.0

  abbrev h : Found
  h = next.0

  abbrev o : Openings
  o = found_both one.id f h

  abbrev is_first : o one.id ≡ f
  is_first = at_first one.id f h

  abbrev is_second : o two.id ≡ h
  is_second = at_second one.id two.id f h follows.apart

  pub joins : Joins m before one two chain
  joins =
      let s = stands f h found.1 next.1 in
      record {
        openings = o;
        first_found = subst (HasFound before one) (sym is_first) (has_found m before one first first_read f found.1);
        second_found = subst (HasFound before two) (sym is_second) (has_found m before two second second_read h next.1);
        linked = record {
          can = record {
            first = lawful;
            second = follows.lawful;
            apart = follows.apart;
            first_opens = rw is_first found.1.can_open;
            second_opens = rw is_second next.1.can_open;
          };
          prefix = rw (is_first, is_second) s.linked;
        };
        stands = rw (is_first, is_second) s;
      }

-- the disks of a session are off the shelf with its pump
pub out_left : {D : Type 0} (m : Meaning D) (places : Places) (row : SessionRow) (old new : Trio D) → AreLeft m row old new None → AreOutAt m places row.id old → AreOutAt m places row.id new
out_left m places row old new l out = by_role (λ role. IsOutAt places row.id role (m.count (disk_in role new)))
    (out_still places row.id roles.Low _ _ (counts_more m _ _ _ _ l.low.serves) (out roles.Low))
    (out_still places row.id roles.High _ _ (counts_more m _ _ _ _ l.high.serves) (out roles.High))
    (out_still places row.id roles.Recv _ _ (counts_more m _ _ _ _ l.recv.serves) (out roles.Recv))

-- ---- they make no chain ----

turned : (old new a b fresh : List ℕ) → (new ≡ old) ⊎ ((old ≡ []) × (new ≡ fresh)) → a ≡ old → b ≡ new → (b ≡ a) ⊎ ((a ≡ []) × (b ≡ fresh))
turned old new a b fresh (inl same) at on = inl (on ∙ same ∙ sym at)
turned old new a b fresh (inr made) at on = inr (at ∙ made.0, on ∙ made.1)

-- the disks of one session
module _ {D : Type 0} (m : Meaning D) (tells : m.tells) (before after : Places) (row : SessionRow) (old new : Trio D) (read : AreReadAt m before row.id old) (back : AreBackAt m after row.id new) where
  was : (role : Role) → reading_at before row.id role ≡ m.reading (disk_in role old)
  was role = read_in _ _ (read role)

  is : (role : Role) → reading_at after row.id role ≡ m.reading (disk_in role new)
  is role = ap reading_in (back role)

  pub spares : ((role : Role) → (failed : Bool) × LeavesDisk m row role (disk_in role old) (disk_in role new) failed) → SparesSession before after row.id
  spares left role some = is role ∙ spared_by m tells row role (disk_in role old) (disk_in role new) (left role).0 (left role).1 (λ none. some (was role ∙ none)) ∙ sym (was role)

  pub readies : ((role : Role) → (failed : Bool) × (failed ≡ false) × LeavesDisk m row role (disk_in role old) (disk_in role new) failed) → ReadiesSession before after row
  readies left role =
      turned (m.reading (disk_in role old)) (m.reading (disk_in role new)) (reading_at before row.id role) (reading_at after row.id role) (new_bytes row role 0)
      (left_by m tells row role (disk_in role old) (disk_in role new) (left role).0 (left role).1 (left role).2) (was role) (is role)

  same_disk : new ≡ old → (role : Role) → reading_at after row.id role ≡ reading_at before row.id role
  same_disk e role = is role ∙ ap (λ (t : Trio D). m.reading (disk_in role t)) e ∙ sym (was role)

  pub spares_same : new ≡ old → SparesSession before after row.id
  spares_same e role some = same_disk e role

  pub readies_same : new ≡ old → ReadiesSession before after row
  readies_same e role = inl (same_disk e role)

  left_at : (failed : Option Role) → AreLeft m row old new failed → (role : Role) → LeavesDisk m row role (disk_in role old) (disk_in role new) (is_failed role failed)
  left_at failed l = by_role (λ role. LeavesDisk m row role (disk_in role old) (disk_in role new) (is_failed role failed)) l.low l.high l.recv

  pub spares_left : (failed : Option Role) → AreLeft m row old new failed → SparesSession before after row.id
  spares_left failed l = spares (λ role. (is_failed role failed, left_at failed l role))

  pub readies_left : AreLeft m row old new None → ReadiesSession before after row
  readies_left l = readies (λ role. (false, refl, left_at None l role))

  module _ (at : Role) (why : Why) (e : ComeBack m row old.low old.high old.recv (record { role = at; why = Some why; low = new.low; high = new.high; recv = new.recv })) where
    abbrev failed_by : Role → Bool
    failed_by role = failed_at {D = D} role (record { role = at; why = Some why; low = new.low; high = new.high; recv = new.recv })

    come_at : (role : Role) → LeavesDisk m row role (disk_in role old) (disk_in role new) (failed_by role)
    come_at = by_role (λ role. LeavesDisk m row role (disk_in role old) (disk_in role new) (failed_by role)) e.low_disk e.high_disk e.recv_disk

    pub spares_come : SparesSession before after row.id
    spares_come = spares (λ role. (failed_by role, come_at role))

    pub readies_come : is_device why ≡ false → ReadiesSession before after row
    readies_come fine = readies (λ role. (failed_by role, ap (λ (b : Bool). b && is_role role at) fine, come_at role))

    pub refused_come : is_device why ≡ false → IsRefusedFor before row at why
    refused_come fine = rw (was roles.Low, was roles.High, was roles.Recv) (e.refused fine tells)

device_fault : (session : ℕ) (role : Role) (why : Why) → is_device why ≡ true → fault_of session role why ≡ faults.Device session role
device_fault session role (whys.Device n) e = refl
device_fault session role (whys.NotABuffer size bytes) e = cc
device_fault session role (whys.WrongShape field found wanted) e = cc
device_fault session role (whys.BadRegister first second) e = cc
device_fault session role (whys.Mismatch removed accepted) e = cc
device_fault session role (whys.BadSlot number length) e = cc
device_fault session role (whys.Apart count bound) e = cc
device_fault session role (whys.Differs number) e = cc
device_fault session role (whys.NotEmpty size) e = cc
device_fault session role (whys.Small held capacity) e = cc
device_fault session role (whys.TooLong number size) e = cc

some_same : (x y : Fault) → Some x ≡ Some y → y ≡ x
some_same x y e = cc e

module _ {D : Type 0} (m : Meaning D) (tells : m.tells) (before after : Places) (fails : ℕ → Role → Type 0) (one two : SessionRow) (old new : Six D) (fault : Fault)
    (first_fails : (role : Role) → Rose (m.count (disk_in role old.first)) (m.count (disk_in role new.first)) → fails one.id role) (second_fails : (role : Role) → Rose (m.count (disk_in role old.second)) (m.count (disk_in role new.second)) → fails two.id role)
    (first_read : AreReadAt m before one.id old.first) (second_read : AreReadAt m before two.id old.second) (first_back : AreBackAt m after one.id new.first) (second_back : AreBackAt m after two.id new.second) where
  abbrev Not : Type 0
  Not = IsUnopened before after fails one two fault ⊎ IsBarred before after one two fault

  unopened : SparesSession before after one.id → SparesSession before after two.id → NamesFailed fails one.id two.id fault → Not
  unopened first second named = inl (record { first = first; second = second; named = named })

  barred : (why : ChainWhy) → ReadiesSession before after one → ReadiesSession before after two → is_by_device why ≡ false → IsUnchained before one two why → chain_fault two.id why ≡ Some fault → Not
  barred why first second fine cause is = inr (record { first = first; second = second; why = why; refused = fine; cause = cause; fault_is = is })

  -- the fault of a device
  of_device : (session id : ℕ) (role : Role) (why : Why) → is_device why ≡ true → session ≡ id → Some (fault_of session role why) ≡ Some fault → fault ≡ faults.Device id role
  of_device session id role why failed same is = some_same _ fault is ∙ device_fault session role why failed ∙ ap (λ (n : ℕ). faults.Device n role) same

  found_first : HandsBack m one old.first new.first None → (f : Found) × HasFound before one f
  found_first h = let f = h.found tells in (f.0, has_found m before one old.first first_read f.0 f.1)

  by_first : (why : ChainWhy) → IsNotOpened m one old.first new.first why → new.second ≡ old.second → chain_fault two.id why ≡ Some fault → Not
  by_first reasons.Memory h same is = absurd (cc is)
  by_first (reasons.Link count bound) h same is = absurd h
  by_first (reasons.Unlike number) h same is = absurd h
  by_first (reasons.Pump session role why) (id, e) same is = elim (is_device why) as (λ b. is_device why ≡ b → Not) [
    | true ↦ λ failed. unopened (spares_come m tells before after one old.first new.first first_read first_back role why e) (spares_same m tells before after two old.second new.second second_read second_back same)
        (role, inl (of_device session one.id role why failed id is, first_fails role (come_failed m one old.first new.first role why e failed)))
    | false ↦ λ fine. barred (reasons.Pump session role why) (readies_come m tells before after one old.first new.first first_read first_back role why e fine)
        (readies_same m tells before after two old.second new.second second_read second_back same) fine
        (inl (id, refused_come m tells before after one old.first new.first first_read first_back role why e fine)) is
  ] refl

  by_second : (why : ChainWhy) → HandsBack m one old.first new.first None → IsNotOpened m two old.second new.second why → chain_fault two.id why ≡ Some fault → Not
  by_second reasons.Memory h e is = absurd (cc is)
  by_second (reasons.Link count bound) h e is = absurd e
  by_second (reasons.Unlike number) h e is = absurd e
  by_second (reasons.Pump session role why) h (id, e) is = elim (is_device why) as (λ b. is_device why ≡ b → Not) [
    | true ↦ λ failed. unopened (spares_left m tells before after one old.first new.first first_read first_back None h.left) (spares_come m tells before after two old.second new.second second_read second_back role why e)
        (role, inr (of_device session two.id role why failed id is, second_fails role (come_failed m two old.second new.second role why e failed)))
    | false ↦ λ fine. barred (reasons.Pump session role why) (readies_left m tells before after one old.first new.first first_read first_back h.left)
        (readies_come m tells before after two old.second new.second second_read second_back role why e fine) fine
        (inr (id, found_first h, refused_come m tells before after two old.second new.second second_read second_back role why e fine)) is
  ] refl

  both_left : (first second : Option Role) → HandBoth m one two old new first second → SparesSession before after one.id × SparesSession before after two.id
  both_left first second h = (
    spares_left m tells before after one old.first new.first first_read first_back first h.0.left,
    spares_left m tells before after two old.second new.second second_read second_back second h.1.left,
  )

  unlinked : (why : ChainWhy) → HandBoth m one two old new None None → is_by_device why ≡ false → ((f h : Found) → StandFor m one old.first f → StandFor m two old.second h → HasFound before one f → HasFound before two h → IsUnchained before one two why)
      → chain_fault two.id why ≡ Some fault → Not
  unlinked why h fine cause is =
      let f = h.0.found tells in
      let k = h.1.found tells in
      barred why (readies_left m tells before after one old.first new.first first_read first_back h.0.left) (readies_left m tells before after two old.second new.second second_read second_back h.1.left) fine
      (cause f.0 k.0 f.1 k.1 (has_found m before one old.first first_read f.0 f.1) (has_found m before two old.second second_read k.0 k.1)) is

  by_apart : (why : ChainWhy) → IsApart m one two old new why → chain_fault two.id why ≡ Some fault → Not
  by_apart reasons.Memory h is = absurd h
  by_apart (reasons.Pump session role why) (inl (id, at, h, failed)) is =
      let both = both_left (Some role) None h in
      unopened both.0 both.1 (role, inl (of_device session one.id role why (ap is_device failed) id is, first_fails role (left_failed m one old.first new.first role h.0.left)))
  by_apart (reasons.Pump session role why) (inr (id, at, h, failed)) is =
      let both = both_left None (Some role) h in
      unopened both.0 both.1 (role, inr (of_device session two.id role why (ap is_device failed) id is, second_fails role (left_failed m two old.second new.second role h.1.left)))
  by_apart (reasons.Link count bound) (h, cause) is = unlinked (reasons.Link count bound) h refl (λ f k stand next found other. (f, k, found, other, cause tells f k stand next)) is
  by_apart (reasons.Unlike number) (h, cause) is = unlinked (reasons.Unlike number) h refl (λ f k stand next found other. (f, k, found, other, cause tells f k stand next)) is

  pub not_chained : (why : ChainWhy) → ComeBackFor m one two old new why → chain_fault two.id why ≡ Some fault → LeavesOthers before after one.id two.id → NotChained before after fails one two fault
  not_chained why (inl h) is others = (others, by_first why h.0 h.1 is)
  not_chained why (inr (inl h)) is others = (others, by_second why h.0 h.1 is)
  not_chained why (inr (inr h)) is others = (others, by_apart why h is)

-- ---- the disks are back ----

pub all_back : (before after : Places) (one two : ℕ) → LeavesOthers before after one two → AreHome after one → AreHome after two → AllAreBack before after
all_back before after one two others first second name out = elim (cases_eq name.session one) [
  | inl same ↦ absurd (first name.role (subst IsOut (ap after (name_is name one same)) out))
  | inr not ↦ elim (cases_eq name.session two) [
    | inl same ↦ absurd (second name.role (subst IsOut (ap after (name_is name two same)) out))
    | inr neither ↦ subst IsOut (others name not neither) out
  ]
]

pub of_line : (fails : ℕ → Role → Type 0) (one two : ℕ) (fault : Option Fault) → IsUntaken fails one two fault → IsOfLine fault
of_line fails one two None h = tt
of_line fails one two (Some fault) (role, inl is) = subst IsLineFault (sym is.0) tt
of_line fails one two (Some fault) (role, inr is) = subst IsLineFault (sym is.0) tt

-- a disk that fails so fails otherwise
pub named_more : (fails more : ℕ → Role → Type 0) (one two : ℕ) (fault : Fault) → ((role : Role) → fails one role → more one role) → ((role : Role) → fails two role → more two role) → NamesFailed fails one two fault → NamesFailed more one two fault
named_more fails more one two fault first second (role, inl (is, failed)) = (role, inl (is, first role failed))
named_more fails more one two fault first second (role, inr (is, failed)) = (role, inr (is, second role failed))

pub not_taken : (before after : Places) (fails : ℕ → Role → Type 0) (one two : SessionRow) (fault : Fault) → NamesFailed fails one.id two.id fault → ReadsAlike before after → LeavesOthers before after one.id two.id → NotChained before after fails one two fault
not_taken before after fails one two fault named alike others = (
  others,
  inl (record { first = λ r some. alike (disk_name one.id r); second = λ r some. alike (disk_name two.id r); named = named }),
)

-- ---- memory was wanting ----

pub alike_readied : (before after : Places) (one two : SessionRow) → ReadsAlike before after → LeavesOthers before after one.id two.id → AreReadied before after one two
alike_readied before after one two alike others = record { first = λ r. inl (alike (disk_name one.id r)); second = λ r. inl (alike (disk_name two.id r)); others = others }

module _ {D : Type 0} (m : Meaning D) (tells : m.tells) (before after : Places) (one two : SessionRow) (old new : Six D)
    (first_read : AreReadAt m before one.id old.first) (second_read : AreReadAt m before two.id old.second) (first_back : AreBackAt m after one.id new.first) (second_back : AreBackAt m after two.id new.second) where
  readied_by : (why : ChainWhy) → chain_fault two.id why ≡ None → ComeBackFor m one two old new why → ReadiesSession before after one × ReadiesSession before after two
  readied_by reasons.Memory none (inl h) = (
    readies_same m tells before after one old.first new.first first_read first_back h.0,
    readies_same m tells before after two old.second new.second second_read second_back h.1,
  )
  readied_by reasons.Memory none (inr (inl h)) = (
    readies_left m tells before after one old.first new.first first_read first_back h.0.left,
    readies_same m tells before after two old.second new.second second_read second_back h.1,
  )
  readied_by reasons.Memory none (inr (inr h)) = absurd h
  readied_by (reasons.Pump session role why) none h = absurd (cc none)
  readied_by (reasons.Link count bound) none h = absurd (cc none)
  readied_by (reasons.Unlike number) none h = absurd (cc none)

  pub readied : (why : ChainWhy) → ComeBackFor m one two old new why → chain_fault two.id why ≡ None → LeavesOthers before after one.id two.id → AreReadied before after one two
  readied why back none others = let r = readied_by why none back in record { first = r.0; second = r.1; others = others }
