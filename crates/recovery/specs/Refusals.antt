-- The order of refusals: the first cause for which the disks of a session are refused, by what a read of them gives.
use Rattle.std.specs.Prelude.{◌≡◌, ℕ, zero, suc, ◌+◌, ◌-◌, ◌^◌, ◌==◌, ◌&&◌, nat_le, nat_lt, if◌then◌else◌, true, List}
use Rattle.std.specs.Prelude.{[], ◌∷◌, length, take, drop, slice_index, Option, Some, None}
use Rattle.byteorder.specs.Endian.{big_number, big_bytes}
use Rattle.pump_frame.specs.declared.row.SessionRow.{SessionRow}
use Rattle.disk_model.specs.declared.name.Role.{Role}
use Rattle.disk_model.specs.declared.name.Role.TheVariants.{Low, High, Recv}
use Rattle.stable_buffer.specs.Numbers.{length_at}
use Rattle.stable_buffer.specs.Register.{value_of}
use Rattle.stable_buffer.specs.Stands.{slot_of, low_size, newest_version, is_version}
use Rattle.stable_buffer.specs.Format.{role_byte}
use Rattle.stable_buffer.specs.Log.{is_log, log_of}
use Rattle.recovery.specs.declared.why.Why.{Why}
use Rattle.recovery.specs.declared.why.Why.TheVariants.{NotABuffer, WrongShape, BadRegister, Mismatch, BadSlot}

-- the first of two causes
abbrev pub or_else : {A : Type 0} → Option A → Option A → Option A
or_else None later = later
or_else (Some cause) later = Some cause

-- a number of four bytes at an offset
unfoldable pub word_at : List ℕ → ℕ → ℕ
word_at disk at = big_number 4 (drop at disk)

-- ---- the first 80 bytes and the size ----

-- the number of the bytes N P D 1
abbrev pub mark : ℕ
mark = 1313883185

-- a version that the row's disks may have counts as the newest
abbrev pub version_of : SessionRow → ℕ → ℕ
version_of row version = if is_version row version then newest_version else version

-- what the first 80 bytes say of the disk: role, version, session, capacity, message
abbrev pub fields : SessionRow → List ℕ → List ℕ
fields row prefix = slice_index prefix 4 ∷ version_of row (slice_index prefix 5) ∷ word_at prefix 8 ∷ word_at prefix
    12 ∷ word_at prefix 16 ∷ []

-- what they have to say
abbrev pub wanted : SessionRow → Role → List ℕ
wanted row role = role_byte role ∷ newest_version ∷ row.id ∷ row.capacity ∷ row.message ∷ []

-- the first field, numbered from n on, that differs from what is wanted
abbrev pub other_field : ℕ → List ℕ → List ℕ → Option Why
other_field n [] ys = None
other_field n (x ∷ xs) [] = None
other_field n (x ∷ xs) (y ∷ ys) = if x == y then other_field (n + 1) xs ys else Some (WrongShape n x y)

-- low's disk and high's have one size; a receiver's may have any
abbrev pub other_size : SessionRow → Role → ℕ → Option Why
other_size row Low size = if size == low_size row then None else Some (WrongShape 6 size (low_size row))
other_size row High size = if size == 80 then None else Some (WrongShape 6 size 80)
other_size row Recv size = None

-- the cause that a size and the first 80 bytes give
abbrev pub refused_prefix : SessionRow → Role → ℕ → List ℕ → Option Why
refused_prefix row role size prefix =
    if nat_le 80 size && (word_at prefix 0 == mark)
    then or_else (other_field 1 (fields row prefix) (wanted row role)) (other_size row role size)
    else Some (NotABuffer size (if nat_lt size 4 then 0 else word_at prefix 0))

abbrev pub refused_shape : SessionRow → Role → List ℕ → Option Why
refused_shape row role disk = refused_prefix row role (length disk) (take 80 disk)

-- the fields are spelled as they have to be; only clauses of private functions name this
pub record HasFields (row : SessionRow) (role : ℕ) (prefix : List ℕ) : Type 0 where
  pub role_is : slice_index prefix 4 ≡ role
  pub version : is_version row (slice_index prefix 5) ≡ true
  pub session : big_bytes 4 row.id ≡ take 4 (drop 8 prefix)
  pub capacity : big_bytes 4 row.capacity ≡ take 4 (drop 12 prefix)
  pub message : big_bytes 4 row.message ≡ take 4 (drop 16 prefix)

-- ---- one disk ----

-- a count is at most 2^48, and nothing stands beside it
abbrev pub refused_count : ℕ × ℕ → Option Why
refused_count value = if nat_le value.0 (2 ^ 48) && (value.1 == 0) then None else Some (BadRegister value.0 value.1)

-- low's disk or high's alone
abbrev pub refused_disk : SessionRow → Role → List ℕ → Option Why
refused_disk row role disk = or_else (refused_shape row role disk) (refused_count (value_of disk))

-- a receiver's records end where its register says, within the disk and the given size
abbrev pub refused_log : SessionRow → ℕ → List ℕ → ℕ × ℕ → Option Why
refused_log row size disk value =
    if nat_le value.0 (2 ^ 48) && (nat_le 80 value.1 && (nat_le value.1 (length disk) &&
    (nat_le value.1 size && is_log row.message value.0 (log_of value.1 disk))))
    then None
    else Some (BadRegister value.0 value.1)

-- a receiver's disk, which may be filled to the given size
abbrev pub refused_receiver : SessionRow → ℕ → List ℕ → Option Why
refused_receiver row size disk = or_else (refused_shape row Recv disk) (refused_log row size disk (value_of disk))

-- ---- low's disk and high's together ----

-- the first of the next k slots from number n on that is too long
abbrev pub bad_slot : SessionRow → List ℕ → ℕ → ℕ → Option Why
bad_slot row disk n zero = None
bad_slot row disk n (suc k) =
    if nat_lt row.message (length_at disk (slot_of row n))
    then Some (BadSlot n (length_at disk (slot_of row n)))
    else bad_slot row disk (n + 1) k

-- a cause with the disk that has it
abbrev pub told_of : Role → Option Why → Option (Role × Why)
told_of role None = None
told_of role (Some why) = Some (role, why)

-- the counts don't fit one another, or one of the messages from `removed` on is too long
abbrev pub refused_pair : SessionRow → ℕ → ℕ → List ℕ → Option (Role × Why)
refused_pair row removed accepted low =
    if nat_le removed accepted && nat_le accepted (removed + row.capacity)
    then told_of Low (bad_slot row low removed (accepted - removed))
    else Some (High, Mismatch removed accepted)

-- low's disk alone, then high's alone, then the two together
abbrev pub refused_pump : SessionRow → List ℕ → List ℕ → Option (Role × Why)
refused_pump row low high =
    or_else (told_of Low (refused_disk row Low low))
    (or_else (told_of High (refused_disk row High high)) (refused_pair row (value_of high).0 (value_of low).0 low))
