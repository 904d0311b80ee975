-- A new disk.
use Rattle.std.specs.Prelude.{ℕ, ◌-◌, List, [], ◌∷◌, ◌++◌, replicate}
use Rattle.byteorder.specs.Endian.{big_bytes}
use Rattle.pump_frame.specs.declared.row.SessionRow.{SessionRow}
use Rattle.disk_model.specs.declared.name.Role.{Role}
use Rattle.disk_model.specs.declared.name.Role.TheVariants.{Low, High, Recv}
use Rattle.stable_buffer.specs.Log.{RecvStands}
use Rattle.stable_buffer.specs.Stands.{LowStands, HighStands, low_size, newest_version}

-- L, H or R
abbrev pub role_byte : Role → ℕ
role_byte Low = 76
role_byte High = 72
role_byte Recv = 82

-- the second number of a new register: a receiver's is the end of its records
abbrev pub second_of : Role → ℕ
second_of Low = 0
second_of High = 0
second_of Recv = 80

-- how many bytes a new disk has
abbrev pub size_of : SessionRow → Role → ℕ
size_of row Low = low_size row
size_of row High = 80
size_of row Recv = 80

-- the first 80 bytes of a new disk, with these numbers in its selected cell
unfoldable pub header_of : SessionRow → ℕ → ℕ → ℕ → List ℕ
header_of row role first second =
    (78 ∷ 80 ∷ 68 ∷ 49 ∷ role ∷ newest_version ∷ 0 ∷ 0 ∷ [])
    ++ big_bytes 4 row.id
    ++ big_bytes 4 row.capacity
    ++ big_bytes 4 row.message
    ++ replicate 28 0
    ++ big_bytes 8 first
    ++ big_bytes 8 second
    ++ replicate 16 0

-- all bytes of a disk with these numbers, and nothing behind them
abbrev pub bare_bytes : SessionRow → Role → ℕ → ℕ → List ℕ
bare_bytes row role first second = header_of row (role_byte role) first second ++ replicate (size_of row role - 80) 0

-- all bytes of a new disk
abbrev pub new_bytes : SessionRow → Role → ℕ → List ℕ
new_bytes row role count = header_of row (role_byte role) count (second_of role) ++ replicate (size_of row role - 80) 0

-- how many bytes a receiver's disk may fill
abbrev pub receiver_size : ℕ
receiver_size = 16777216

-- what a new disk stands for: a count without messages, a count, or no message
abbrev pub FormatStands : SessionRow → Role → ℕ → List ℕ → Type 0
FormatStands row Low count disk = LowStands row count count [] disk
FormatStands row High count disk = HighStands row count disk
FormatStands row Recv count disk = RecvStands row [] disk
