-- Numbers as bytes on a disk, the greatest byte first.
use Rattle.std.specs.Prelude.{ℕ, ◌+◌, List, take, drop}
use Rattle.byteorder.specs.Endian.{big_number}

-- a number of eight bytes at an offset
unfoldable pub number_at : List ℕ → ℕ → ℕ
number_at disk at = big_number 8 (drop at disk)

-- a number of two bytes at an offset
unfoldable pub length_at : List ℕ → ℕ → ℕ
length_at disk at = big_number 2 (drop at disk)

-- the message whose length stands at an offset
abbrev pub message_at : List ℕ → ℕ → List ℕ
message_at disk at = take (length_at disk at) (drop (at + 2) disk)
