-- What happened to a disk in memory, the newest first, and what a crash makes of it.
use Rattle.std.specs.Prelude.{◌≡◌, ◌⊎◌, ℕ, ◌≤◌, List, [], ◌∷◌, length, replicate}
use Rattle.disk_model.specs.Contents.{Held}
use Rattle.disk_model.specs.Disk.{Torn}
use Rattle.disk_model.specs.Written.{written}
use Rattle.disk_model.specs.declared.record.Entry.{Entry}
use Rattle.disk_model.specs.declared.record.Entry.TheVariants.{Write, Missed, Sync}
use Rattle.disk_model.specs.declared.record.Outcome.{Outcome}
use Rattle.disk_model.specs.declared.record.Outcome.TheVariants.{Old, New, Fill}

-- what a read gives
abbrev pub replay : Held → List Entry → List ℕ
replay start [] = start.bytes
replay start (Write at bytes ∷ older) = written start.room (replay start older) at bytes
replay start (Missed at bytes ∷ older) = replay start older
replay start (Sync ∷ older) = replay start older

-- what a crash may leave
abbrev pub IsImage : Held → List Entry → List ℕ → Type 0
IsImage start [] c = c ≡ start.bytes
IsImage start (Write at bytes ∷ older) c = (d : List ℕ) × IsImage start older d × Torn at (length bytes) d c
IsImage start (Missed at bytes ∷ older) c = (d : List ℕ) × IsImage start older d × Torn at (length bytes) d c
IsImage start (Sync ∷ older) c = c ≡ replay start older

-- what a crash may have left since the record had t entries
abbrev pub WasImage : Held → List Entry → ℕ → List ℕ → Type 0
WasImage start [] t c = IsImage start [] c
WasImage start (e ∷ older) t c = IsImage start (e ∷ older) c ⊎ ((t ≤ length older) × WasImage start older t c)

-- the bytes that an outcome puts in the place of those that were written
abbrev pub put_as : Outcome → ℕ → List ℕ → List ℕ → ℕ → List ℕ
put_as Old room bytes old at = old
put_as New room bytes old at = written room old at bytes
put_as (Fill b) room bytes old at = written room old at (replicate (length bytes) b)

-- what a crash of this outcome leaves
abbrev pub crashed : Outcome → Held → List Entry → List ℕ
crashed outcome start [] = start.bytes
crashed outcome start (Write at bytes ∷ older) = put_as outcome start.room bytes (crashed outcome start older) at
crashed outcome start (Missed at bytes ∷ older) = put_as outcome start.room bytes (crashed outcome start older) at
crashed outcome start (Sync ∷ older) = replay start older
