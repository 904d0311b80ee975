-- What the three disks of a session say, each by itself.
use Rattle.std.proofs.Common.{◌≡◌, ◌⊎◌, ◌≤◌, ℕ, zero, suc, ◌+◌, ◌-◌, ◌^◌, Bool, true, false, List, [], ◌∷◌, length, take, Option, None, Some, IfSome, inl, inr, refl, sym, ap, ◌∙◌, subst, arith}
use Rattle.std.specs.Prelude.{if◌then◌else◌, ◌&&◌, ◌==◌, nat_le, nat_lt}
use Rattle.std.proofs.lemmas.Bool.{and_parts, leb-true, false≢true}
use Rattle.disk_model.specs.Plain.{Plain, plain_meaning}
use Rattle.disk_model.specs.declared.name.Role.{Role}
use Rattle.disk_model.specs.declared.name.Role.TheVariants.{Low, High, Recv}
use Rattle.pump_frame.specs.declared.row.SessionRow.{SessionRow}
use Rattle.recovery.specs.Calls.{Calls, CallsHigh, is_device, is_low, is_high}
use Rattle.recovery.specs.Refusals.{or_else, told_of, word_at, mark, fields, wanted, other_field, other_size, refused_prefix, refused_shape, refused_count, refused_disk, bad_slot, refused_pair, refused_pump}
use Rattle.recovery.specs.declared.why.Why.{Why}
use Rattle.recovery.specs.declared.why.Why.TheVariants as whys
use Rattle.stable_buffer.specs.Numbers.{length_at}
use Rattle.stable_buffer.specs.Register.{value_of}
use Rattle.stable_buffer.specs.Stands.{low_size, slot_of}
use Rattle.command_ends.specs.CommandEnds.{end_line}
use Rattle.commands.specs.ReadDisks.{Holds, IsReadOrNot, AreRead, refused_recv}
use Rattle.commands.specs.Showing.{end_at}
use Rattle.command_ends.specs.Tables.{HasRow}
use Rattle.commands.specs.Telling.{kind, RefusesPump, RefusesEach, StopsTelling, TellsStatus}
use Rattle.command_ends.specs.declared.command_end.CommandEnd.{CommandEnd}
use Rattle.command_ends.specs.declared.command_end.CommandEnd.TheVariants as ends

-- ---- a cause of one disk alone, or of the two together ----

abbrev Alone : Option Why → Type 0
Alone o = IfSome o (λ why. kind why ≡ 0)

abbrev Together : Option (Role × Why) → Type 0
Together o = IfSome o (λ told. kind told.1 ≡ 1)

alone_if : (b : Bool) (x y : Option Why) → Alone x → Alone y → Alone (if b then x else y)
alone_if true x y h k = h
alone_if false x y h k = k

alone_or : (x y : Option Why) → Alone x → Alone y → Alone (or_else x y)
alone_or None y h k = k
alone_or (Some why) y h k = h

alone_field : (n : ℕ) (xs ys : List ℕ) → Alone (other_field n xs ys)
alone_field n [] ys = tt
alone_field n (x ∷ xs) [] = tt
alone_field n (x ∷ xs) (y ∷ ys) = alone_if (x == y) (other_field (n + 1) xs ys) (Some (whys.WrongShape n x y)) (alone_field (n + 1) xs ys) refl

alone_size : (row : SessionRow) (role : Role) (size : ℕ) → Alone (other_size row role size)
alone_size row Low size = alone_if (size == low_size row) None (Some (whys.WrongShape 6 size (low_size row))) tt refl
alone_size row High size = alone_if (size == 80) None (Some (whys.WrongShape 6 size 80)) tt refl
alone_size row Recv size = tt

alone_prefix : (row : SessionRow) (role : Role) (size : ℕ) (prefix : List ℕ) → Alone (refused_prefix row role size prefix)
alone_prefix row role size prefix =
    let field = other_field 1 (fields row prefix) (wanted row role) in
    alone_if (nat_le 80 size && (word_at prefix 0 == mark)) (or_else field (other_size row role size)) (Some (whys.NotABuffer size (if nat_lt size 4 then 0 else word_at prefix 0)))
    (alone_or field (other_size row role size) (alone_field 1 (fields row prefix) (wanted row role)) (alone_size row role size)) refl

alone_count : (value : ℕ × ℕ) → Alone (refused_count value)
alone_count value = alone_if (nat_le value.0 (2 ^ 48) && (value.1 == 0)) None (Some (whys.BadRegister value.0 value.1)) tt refl

pub alone_disk : (row : SessionRow) (role : Role) (disk : List ℕ) → Alone (refused_disk row role disk)
alone_disk row role disk = alone_or (refused_shape row role disk) (refused_count (value_of disk)) (alone_prefix row role (length disk) (take 80 disk)) (alone_count (value_of disk))

slot_if : (b : Bool) (why : Why) (later : Option Why) → kind why ≡ 1 → IfSome later (λ w. kind w ≡ 1) → IfSome (if b then Some why else later) (λ w. kind w ≡ 1)
slot_if true why later h k = h
slot_if false why later h k = k

slot_kind : (row : SessionRow) (disk : List ℕ) (n k : ℕ) → IfSome (bad_slot row disk n k) (λ why. kind why ≡ 1)
slot_kind row disk n zero = tt
slot_kind row disk n (suc k) =
    let long = length_at disk (slot_of row n) in
    slot_if (nat_lt row.message long) (whys.BadSlot n long) (bad_slot row disk (n + 1) k) refl (slot_kind row disk (n + 1) k)

told_kind : (role : Role) (o : Option Why) → IfSome o (λ why. kind why ≡ 1) → Together (told_of role o)
told_kind role None h = tt
told_kind role (Some why) h = h

pair_if : (b : Bool) (x y : Option (Role × Why)) → Together x → Together y → Together (if b then x else y)
pair_if true x y h k = h
pair_if false x y h k = k

pair_kind : (row : SessionRow) (removed accepted : ℕ) (low : List ℕ) → Together (refused_pair row removed accepted low)
pair_kind row removed accepted low =
    let slots = bad_slot row low removed (accepted - removed) in
    pair_if (nat_le removed accepted && nat_le accepted (removed + row.capacity)) (told_of Low slots) (Some (High, whys.Mismatch removed accepted)) (told_kind Low slots (slot_kind row low removed (accepted - removed))) refl

-- ---- the cause that is found for two disks ----

pub fine_first : (x : Option (Role × Why)) (y : Option (Role × Why)) → or_else x y ≡ None → (x ≡ None) × (y ≡ None)
fine_first None y h = (refl, h)
fine_first (Some told) y h = cc

told_none : (role : Role) (o : Option Why) → told_of role o ≡ None → o ≡ None
told_none role None h = refl
told_none role (Some why) h = cc

pub pump_fine : (row : SessionRow) (low high : List ℕ) → refused_pump row low high ≡ None → (refused_disk row Low low ≡ None) × (refused_disk row High high ≡ None)
pump_fine row low high h =
    let one = fine_first _ _ h in
    let two = fine_first _ _ one.1 in (
      told_none Low (refused_disk row Low low) one.0,
      told_none High (refused_disk row High high) two.0,
    )

-- one disk's, and so it is found without the two's, or the two's together
abbrev pub IsFound : Option Why → Option Why → Role → Why → Type 0
IsFound a b role why = ((kind why ≡ 0) × (or_else (told_of Low a) (told_of High b) ≡ Some (role, why))) ⊎ ((kind why ≡ 1) × (a ≡ None) × (b ≡ None))

abbrev why_in : Option (Role × Why) → Why → Why
why_in None other = other
why_in (Some told) other = told.1

why_of : (a b : Role) (x y : Why) → ◌≡◌ {A = Option (Role × Why)} (Some (a, x)) (Some (b, y)) → x ≡ y
why_of a b x y e = ap (λ (o : Option (Role × Why)). why_in o x) e

found_in : (a b : Option Why) (c : Option (Role × Why)) (role : Role) (why : Why) → Alone a → Alone b → Together c → or_else (told_of Low a) (or_else (told_of High b) c) ≡ Some (role, why) → IsFound a b role why
found_in (Some w) b c role why h k t is = inl (ap kind (sym (why_of Low role w why is)) ∙ h, is)
found_in None (Some w) c role why h k t is = inl (ap kind (sym (why_of High role w why is)) ∙ k, is)
found_in None None None role why h k t is = cc
found_in None None (Some told) role why h k t is = inr (ap kind (sym (why_of told.0 role told.1 why is)) ∙ t, refl, refl)

pub pump_found : (row : SessionRow) (low high : List ℕ) (role : Role) (why : Why) → refused_pump row low high ≡ Some (role, why) → IsFound (refused_disk row Low low) (refused_disk row High high) role why
pump_found row low high role why is = found_in _ _ _ role why (alone_disk row Low low) (alone_disk row High high) (pair_kind row (value_of high).0 (value_of low).0 low) is

-- the two are refused
one_found : (a b : Option Why) (role : Role) (why : Why) → IsFound a b role why → kind why ≡ 0 → or_else (told_of Low a) (told_of High b) ≡ Some (role, why)
one_found a b role why (inl h) is = h.1
one_found a b role why (inr h) is = absurd (omega (arith, is, h.0))

other_found : (a b : Option Why) (role : Role) (why : Why) → IsFound a b role why → kind why ≡ 2 → ⊥
other_found a b role why (inl h) is = omega (arith, is, h.0)
other_found a b role why (inr h) is = omega (arith, is, h.0)

pub pump_refused : (row : SessionRow) (low high : List ℕ) (role : Role) (why : Why) → (kind why ≡ 1 → ⊥) → is_device why ≡ false → refused_pump row low high ≡ Some (role, why)
    → RefusesPump row low high (end_at role (Some why))
pump_refused row low high role (whys.Device faults) apart calm is = absurd (false≢true (sym calm))
pump_refused row low high role (whys.NotABuffer size bytes) apart calm is = one_found _ _ role _ (pump_found row low high role _ is) refl
pump_refused row low high role (whys.WrongShape field found wanted) apart calm is = one_found _ _ role _ (pump_found row low high role _ is) refl
pump_refused row low high role (whys.BadRegister first second) apart calm is = one_found _ _ role _ (pump_found row low high role _ is) refl
pump_refused row low high role (whys.Mismatch removed accepted) apart calm is = absurd (apart refl)
pump_refused row low high role (whys.BadSlot number size) apart calm is = absurd (apart refl)
pump_refused row low high role (whys.Apart count bound) apart calm is = absurd (other_found _ _ role _ (pump_found row low high role _ is) refl)
pump_refused row low high role (whys.Differs number) apart calm is = absurd (other_found _ _ role _ (pump_found row low high role _ is) refl)
pump_refused row low high role (whys.NotEmpty size) apart calm is = absurd (other_found _ _ role _ (pump_found row low high role _ is) refl)
pump_refused row low high role (whys.Small held capacity) apart calm is = absurd (other_found _ _ role _ (pump_found row low high role _ is) refl)
pump_refused row low high role (whys.TooLong number size) apart calm is = absurd (other_found _ _ role _ (pump_found row low high role _ is) refl)

-- .. together alone
pub pump_apart : (row : SessionRow) (low high : List ℕ) (role : Role) (why : Why) → kind why ≡ 1 → refused_pump row low high ≡ Some (role, why)
    → (refused_disk row Low low ≡ None) × (refused_disk row High high ≡ None)
pump_apart row low high role why one is = elim (pump_found row low high role why is) [
  | inl h ↦ absurd (omega (arith, one, h.0))
  | inr h ↦ (h.1, h.2)
]

-- ---- no call of the two disks failed ----

pub high_works : (row : SessionRow) (low old new : Plain) (failed : Bool) → CallsHigh plain_meaning row low old new failed → old.armed ≡ false → (new.armed ≡ false) × (failed ≡ false)
high_works row low old new failed (inl h) calm = (h.0.disarmed tt, h.0.never tt calm)
high_works row low old new failed (inr h) calm = (ap (λ (d : Plain). d.armed) h.0 ∙ calm, h.1)

pub no_device : (role : Role) (why : Why) → (role ≡ Low) ⊎ (role ≡ High) → (is_low role && is_device why) ≡ false → (is_high role && is_device why) ≡ false → is_device why ≡ false
no_device Low why two low high = low
no_device High why two low high = high
no_device Recv why (inl e) low high = cc
no_device Recv why (inr e) low high = cc

-- ---- a disk that is not refused has a register ----

first_none : (x y : Option Why) → or_else x y ≡ None → x ≡ None
first_none None y h = refl
first_none (Some why) y h = cc

if_none : (b : Bool) (x : Option Why) (why : Why) → (if b then x else Some why) ≡ None → b ≡ true
if_none true x why h = refl
if_none false x why h = cc

pub has_register : (row : SessionRow) (role : Role) (disk : List ℕ) → refused_disk row role disk ≡ None → 80 ≤ length disk
has_register row role disk fine = leb-true _ _ (and_parts _ _ (if_none _ _ _ (first_none _ _ fine))).0

pub holds_register : (row : SessionRow) (role : Role) (bytes : List ℕ) (disk : Plain) → refused_disk row role bytes ≡ None → Holds bytes disk → 80 ≤ length disk.bytes
holds_register row role bytes disk fine holds = subst (λ (b : List ℕ). 80 ≤ length b) (sym holds.same) (has_register row role bytes fine)

-- ---- all three ----

each_first : (x y z : Option (Role × Why)) (told : Role × Why) → or_else x y ≡ Some told → or_else x (or_else y z) ≡ Some told
each_first None (Some w) z told h = h
each_first None None z told h = cc
each_first (Some w) y z told h = h

pub each_pump : (row : SessionRow) (low high : List ℕ) (recv : Option (List ℕ)) (end : CommandEnd) → RefusesPump row low high end → RefusesEach row low high recv end
each_pump row low high recv ends.Memory h = tt
each_pump row low high recv (ends.Refused role why) h = each_first _ _ (refused_recv row recv) (role, why) h
each_pump row low high recv end h = absurd h

-- ---- how a session's counts are not told ----

read_or_not : (unread later : Type 0) → (unread → later) → (file read : Option (List ℕ)) → IsReadOrNot unread file read → IsReadOrNot later file read
read_or_not unread later so file None h = so h
read_or_not unread later so file (Some read) h = h

-- a read that failed by then has failed later
are_read : (files : Role → Option (List ℕ)) (unread later : Type 0) → (unread → later) → (low high : List ℕ) (recv : Option (List ℕ)) → AreRead files unread low high recv → AreRead files later low high recv
are_read files unread later so low high recv r = record { low_read = r.low_read; high_read = r.high_read; recv_read = read_or_not unread later so (files Recv) recv r.recv_read }

pub stops_told : (table : Option (List ℕ)) (files : Role → Option (List ℕ)) (unread later : Type 0) → (unread → later) → (session : ℕ) (row : SessionRow) → HasRow table session row
    → (end : CommandEnd) → StopsTelling files unread row end → TellsStatus table files later session end (end_line session end)
stops_told table files unread later so session row has ends.Memory h = refl
stops_told table files unread later so session row has (ends.Failed role) h = (row, has, h, refl)
stops_told table files unread later so session row has (ends.Refused role why) (low, high, recv, read, is) = (row, has, (low, high, recv, are_read files unread later so low high recv read, is), refl)
stops_told table files unread later so session row has end h = absurd h
