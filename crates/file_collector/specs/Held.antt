-- What a register is to hold, by how far a file is. It serves private clauses and proofs alone.
use Rattle.std.specs.Prelude.{ℕ, suc, ◌^◌, ◌<◌, ◌≤◌, Option, None, Some}
use Rattle.file_messages.specs.declared.assembly.Progress.{Progress}

-- a file has no more bytes than it is to have, and that are less than 2^48
abbrev pub IsWithin : Option Progress → Type 0
IsWithin None = Unit {0}
IsWithin (Some progress) = (progress.size < 2 ^ 48) × (progress.bytes ≤ progress.size)

abbrev pub held_by : Option Progress → ℕ
held_by None = 0
held_by (Some progress) = suc progress.bytes
