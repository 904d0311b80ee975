-- The laws of what happened to an outbox in memory.
use Rattle.std.specs.Prelude.{ℕ, List, [], ◌∷◌, length, refl}
use Rattle.std.proofs.Common.{inl, inr, arith}
use Rattle.folders.specs.Outboxes.{Standing}
use Rattle.folders.specs.OutboxLog.{IsImage, WasImage, standing, outcomes}
use Rattle.folders.specs.declared.outbox_log.Entry.{Entry}
use Rattle.folders.specs.declared.outbox_log.Entry.TheVariants.{Done, Missed, Opened, Crashed}

-- what stands is an image
pub standing_image : (log : List Entry) → IsImage log (standing log)
standing_image [] = refl
standing_image (Done change ∷ older) = refl
standing_image (Missed change ∷ older) = (standing older, standing_image older, inl refl)
standing_image (Opened bytes ∷ older) = (standing older, standing_image older, refl)
standing_image (Crashed kept ∷ older) = refl

-- so is what stands where the changes of failed calls were made
pub kept_image : (log : List Entry) → IsImage log (outcomes log).kept
kept_image [] = refl
kept_image (Done change ∷ older) = refl
kept_image (Missed change ∷ older) = ((outcomes older).kept, kept_image older, inr refl)
kept_image (Opened bytes ∷ older) = ((outcomes older).kept, kept_image older, refl)
kept_image (Crashed kept ∷ older) = refl

pub counts_now : (log : List Entry) (t : ℕ) (s : Standing) → IsImage log s → WasImage log t s
counts_now [] t s is = is
counts_now (e ∷ older) t s is = inl is

pub only_now : (log : List Entry) (s : Standing) → WasImage log (length log) s → IsImage log s
only_now [] s was = was
only_now (e ∷ older) s (inl is) = is
only_now (e ∷ older) s (inr earlier) = absurd (omega (arith, earlier.0))
