-- What folders over the machine's files tell: how often they failed, and nothing of what they hold.
use Rattle.std.specs.Prelude.{ℕ, false, [], None}
use Rattle.folders.specs.Placing.{Placing, Missing}
use Rattle.folders.specs.Outboxes.{Dropping}

-- a folder that files come into, which tells its count alone
abbrev pub inbox_counts_alone : {I : Type 0} → (I → ℕ) → Placing I
inbox_counts_alone count = record {
  tells = ⊥;
  shown = λ i. [];
  part = λ i. Missing;
  free = λ i name. false;
  register = λ i. None;
  tells_images = ⊥;
  images = λ i x. ⊥;
  moment = λ i. 0;
  since = λ i t x. ⊥;
  count = count;
  images_tell = λ no. no;
  names_are_image = λ no i. absurd no;
  counts_now = λ no i t x le now. absurd no;
  only_now = λ no i x left. absurd no;
}

-- .. that files go out of; any of its files may be marked
abbrev pub outbox_counts_alone : {O : Type 0} → (O → ℕ) → Dropping O
outbox_counts_alone count = record {
  tells = ⊥;
  stands = λ o. record { marked = None; removed = [] };
  images = λ o s. ⊥;
  moment = λ o. 0;
  since = λ o t s. ⊥;
  several = λ o. Unit {0};
  count = count;
  stands_image = λ no o. absurd no;
  counts_now = λ no o t s le now. absurd no;
  only_now = λ no o s left. absurd no;
}
