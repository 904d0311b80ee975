-- What a receiver's messages come to as a file.
use Rattle.std.specs.Prelude.{◌≡◌, ℕ, ◌+◌, ◌<◌, ◌≤◌, ◌↔◌, IsTrue, List, length, take, Option, Result, Ok, Err}
use Rattle.std.specs.Io.KnownBytes.{Appends}
use Rattle.pump_frame.specs.Counts.{Rose}
use Rattle.pump_link.specs.Causes.{AppendsPrefix}
use Rattle.pump_wrapper.specs.Wrapped.{unwrapped, IsFile, BeginsFile}
use Rattle.pump_wrapper.specs.declared.gathered.Gathered.{Gathered}
use Rattle.pump_wrapper.specs.declared.gathered.GatherFault.{GatherFault}
use Rattle.pump_wrapper.specs.declared.gathered.GatherFault.TheVariants.{Device, NotWrapped, Write}

-- What was put of these messages, by the answer: the bytes of the pieces of all of them; or of those before the least
-- with which they begin no file; or of the first n, or a prefix of them.
abbrev pub GathersBy : (Puts PutsPrefix : List ℕ → Type 0) → ℕ → List (List ℕ) → Result Gathered GatherFault → Type 0
GathersBy Puts PutsPrefix message messages (Ok gathered) =
    BeginsFile message messages × Puts (unwrapped messages)
    × (gathered.bytes ≡ length (unwrapped messages)) × (IsTrue gathered.whole ↔ IsFile message messages)
GathersBy Puts PutsPrefix message messages (Err (NotWrapped n)) =
    (n < length messages) × BeginsFile message (take n messages) × (BeginsFile message (take (n + 1) messages) → ⊥)
    × Puts (unwrapped (take n messages))
GathersBy Puts PutsPrefix message messages (Err (Device faults)) =
    (n : ℕ) × (n < length messages) × BeginsFile message (take n messages) × Puts (unwrapped (take n messages))
GathersBy Puts PutsPrefix message messages (Err Write) =
    (n : ℕ) × (n ≤ length messages) × BeginsFile message (take n messages) × PutsPrefix (unwrapped (take n messages))

-- .. where what is put is written
abbrev pub Gathers : ℕ → List (List ℕ) → Option (List ℕ) → Option (List ℕ) → Result Gathered GatherFault → Type 0
Gathers message messages old new result = GathersBy (Appends old new) (AppendsPrefix old new) message messages result

-- the answer is that the disk failed
abbrev pub IsDeviceFault : Result Gathered GatherFault → Type 0
IsDeviceFault (Ok gathered) = ⊥
IsDeviceFault (Err (Device faults)) = Unit {0}
IsDeviceFault (Err (NotWrapped n)) = ⊥
IsDeviceFault (Err Write) = ⊥

-- neither the disk failed nor the sink
abbrev pub IsUnbroken : Result Gathered GatherFault → Type 0
IsUnbroken (Ok gathered) = Unit {0}
IsUnbroken (Err (NotWrapped n)) = Unit {0}
IsUnbroken (Err (Device faults)) = ⊥
IsUnbroken (Err Write) = ⊥

-- the disk's count and the sink's, before and after: that of what failed rose
abbrev pub GatherCause : ℕ → ℕ → ℕ → ℕ → Result Gathered GatherFault → Type 0
GatherCause disk disk' out out' (Ok gathered) = Unit {0}
GatherCause disk disk' out out' (Err (Device faults)) = (faults ≡ disk') × Rose disk disk'
GatherCause disk disk' out out' (Err (NotWrapped n)) = Unit {0}
GatherCause disk disk' out out' (Err Write) = Rose out out'
