-- The words of a stream of ChaCha20.
use Rattle.std.specs.Prelude.{◌≡◌, ℕ, ◌+◌, ◌%◌, ◌^◌, ◌<◌, List, length, slice_index}
use Rattle.rand_chacha.specs.ChaCha.{word_at}

-- the k-th of these is ChaCha20's word of the key, the stream and the place k after this one; a stream repeats after
-- 2^68 words
abbrev pub AreWords : List ℕ → ℕ → ℕ → List ℕ → Type 0
AreWords key stream place words = (k : ℕ) → k < length words
    → slice_index words k ≡ word_at 10 key stream ((place + k) % 2 ^ 68)
