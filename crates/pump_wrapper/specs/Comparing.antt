-- A receiver's messages and those that a cutter has to give.
use Rattle.std.specs.Prelude.{◌≡◌, ◌≢◌, ℕ, ◌+◌, ◌^◌, ◌<◌, List, ◌++◌, length, take, Option, None, Some, Result, Ok, Err}
use Rattle.std.specs.Io.KnownBytes.{Consumes}
use Rattle.pump_frame.specs.Counts.{Rose}
use Rattle.pump_wrapper.specs.Cutting.{to_come, bytes_in_all, cut_bytes}
use Rattle.pump_wrapper.specs.declared.cutter.Cutter.{Cutter}
use Rattle.pump_wrapper.specs.declared.compare.CompareFault.{CompareFault}
use Rattle.pump_wrapper.specs.declared.compare.CompareFault.TheVariants.{Device, Differs, Read, TooLong}

-- messages begin others
abbrev pub Begins : List (List ℕ) → List (List ℕ) → Type 0
Begins messages all = (rest : List (List ℕ)) × (all ≡ messages ++ rest)

-- Of messages that were to come: the receiver's are the first, and those behind them are to come still; or its first
-- n are, and not its first n + 1.
abbrev pub ComparesIn : List (List ℕ) → List (List ℕ) → List (List ℕ) → Result (Unit {0}) CompareFault → Type 0
ComparesIn messages before after (Ok done) = before ≡ messages ++ after
ComparesIn messages before after (Err (Differs n)) = (n < length messages) × Begins (take n messages) before
    × (Begins (take (n + 1) messages) before → ⊥)
ComparesIn messages before after (Err (Device faults)) = Unit {0}
ComparesIn messages before after (Err Read) = Unit {0}
ComparesIn messages before after (Err TooLong) = Unit {0}

-- .. of a cutter, over a source with these bytes left before and after, where they are told
abbrev pub Compares : List (List ℕ) → Cutter → Cutter → Option (List ℕ) → Option (List ℕ)
    → Result (Unit {0}) CompareFault → Type 0
Compares messages old new None rest result = Unit {0}
Compares messages old new (Some left) None result = Unit {0}
Compares messages old new (Some left) (Some rest) result = ComparesIn messages (to_come old left) (to_come new rest)
    result

-- the bytes that the source gave: it is too long exactly at 2^48 in all
abbrev pub TakesInAll : Cutter → Cutter → Option (List ℕ) → Option (List ℕ) → Result (Unit {0}) CompareFault → Type 0
TakesInAll old new left rest result =
    (bytes : List ℕ) × Consumes left rest bytes × (result ≡ Err TooLong → cut_bytes old + length bytes ≡ 2 ^ 48)
    × (result ≢ Err TooLong → cut_bytes old + length bytes < 2 ^ 48)
    × (result ≡ Ok tt → cut_bytes new ≡ cut_bytes old + length bytes)

abbrev pub IsDeviceStop : Result (Unit {0}) CompareFault → Type 0
IsDeviceStop (Ok done) = ⊥
IsDeviceStop (Err (Device faults)) = Unit {0}
IsDeviceStop (Err (Differs n)) = ⊥
IsDeviceStop (Err Read) = ⊥
IsDeviceStop (Err TooLong) = ⊥

-- the disk's count and the source's, before and after: that of what failed rose
abbrev pub CompareCause : ℕ → ℕ → ℕ → ℕ → Result (Unit {0}) CompareFault → Type 0
CompareCause disk disk' file file' (Ok done) = Unit {0}
CompareCause disk disk' file file' (Err (Device faults)) = (faults ≡ disk') × Rose disk disk'
CompareCause disk disk' file file' (Err (Differs n)) = Unit {0}
CompareCause disk disk' file file' (Err Read) = Rose file file'
CompareCause disk disk' file file' (Err TooLong) = Unit {0}

-- the file has as many bytes as before, where the source tells them
abbrev pub SameBytes : Cutter → Cutter → Option (List ℕ) → Option (List ℕ) → Type 0
SameBytes old new None rest = Unit {0}
SameBytes old new (Some left) None = Unit {0}
SameBytes old new (Some left) (Some rest) = bytes_in_all new rest ≡ bytes_in_all old left

-- the first n messages are the first that a cutter had to give, and the first n + 1 are not, where its source tells
-- its bytes
abbrev pub FirstDiffer : List (List ℕ) → Cutter → Option (List ℕ) → ℕ → Type 0
FirstDiffer messages cutter None n = Unit {0}
FirstDiffer messages cutter (Some left) n =
    (n < length messages) × Begins (take n messages) (to_come cutter left)
    × (Begins (take (n + 1) messages) (to_come cutter left) → ⊥)
