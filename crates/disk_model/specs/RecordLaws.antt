-- The laws of a record of writes and syncs.
use Rattle.std.specs.Prelude.{ℕ, List, [], ◌∷◌, length, replicate, refl}
use Rattle.std.proofs.Common.{inl, inr, arith, subst}
use Rattle.std.proofs.lemmas.List.{length-replicate}
use Rattle.disk_model.specs.Contents.{Held}
use Rattle.disk_model.specs.Disk.{Torn}
use Rattle.disk_model.specs.Record.{replay, IsImage, WasImage, put_as, crashed}
use Rattle.disk_model.specs.Ranges.{written_torn, torn_same}
use Rattle.disk_model.specs.Written.{written}
use Rattle.disk_model.specs.declared.record.Outcome.{Outcome}
use Rattle.disk_model.specs.declared.record.Outcome.TheVariants.{Old, New, Fill}
use Rattle.disk_model.specs.declared.record.Entry.{Entry}
use Rattle.disk_model.specs.declared.record.Entry.TheVariants.{Write, Missed, Sync}

-- what a read gives is an image
pub replay_image : (start : Held) (log : List Entry) → IsImage start log (replay start log)
replay_image start [] = refl
replay_image start (Write at bytes ∷ older) = (
  replay start older,
  replay_image start older,
  written_torn start.room
      (replay start older) at bytes,
)
replay_image start (Missed at bytes ∷ older) = (
  replay start older,
  replay_image start older,
  torn_same at (length bytes) (replay start older),
)
replay_image start (Sync ∷ older) = refl

pub counts_now : (start : Held) (log : List Entry) (t : ℕ) (c : List ℕ) → IsImage start log c → WasImage start log t c
counts_now start [] t c is = is
counts_now start (e ∷ older) t c is = inl is

pub only_now : (start : Held) (log : List Entry) (c : List ℕ) → WasImage start log (length log) c → IsImage start log c
only_now start [] c was = was
only_now start (e ∷ older) c (inl is) = is
only_now start (e ∷ older) c (inr earlier) = absurd (omega (arith, earlier.0))

put_as_torn : (outcome : Outcome) (room : ℕ) (bytes old : List ℕ) (at : ℕ)
    → Torn at (length bytes) old (put_as outcome room bytes old at)
put_as_torn Old room bytes old at = torn_same at (length bytes) old
put_as_torn New room bytes old at = written_torn room old at bytes
put_as_torn (Fill b) room bytes old at =
    subst (λ (n : ℕ). Torn at n old (written room old at (replicate (length bytes) b))) (length-replicate (length bytes)
    b) (written_torn room old at (replicate (length bytes) b))

-- what a crash of any outcome leaves is an image
pub crashed_image : (outcome : Outcome) (start : Held) (log : List Entry)
    → IsImage start log (crashed outcome start log)
crashed_image outcome start [] = refl
crashed_image outcome start (Write at bytes ∷ older) = (
  crashed outcome start older,
  crashed_image outcome start older,
  put_as_torn outcome start.room bytes
      (crashed outcome start older) at,
)
crashed_image outcome start (Missed at bytes ∷ older) = (
  crashed outcome start older,
  crashed_image outcome start older,
  put_as_torn outcome start.room bytes
      (crashed outcome start older) at,
)
crashed_image outcome start (Sync ∷ older) = refl
