-- What crashes at any moment from an earlier one on leave of a disk.
use Rattle.std.proofs.Common.{◌≡◌, inl, inr, ⊎_elim, ℕ, List, sym, subst, arith}
use Rattle.disk_model.specs.Disk.{Meaning, Moves, Each, Leaves}
use Rattle.two_worlds.specs.Doing.{LeavesOn}

module _ {D : Type 0} (m : Meaning D) where
  -- no call was made
  pub leaves_alone : (P : List ℕ → Type 0) (old new : D) → new ≡ old → LeavesOn m old new P
  leaves_alone P old new same = subst (λ (d : D). LeavesOn m old d P) (sym same) (record { later = omega arith; each = λ told t c le since. inl since })

  -- the calls change what has P by a step, after which it has Q
  pub leaves_by_step : (P Q : List ℕ → Type 0) (step : List ℕ → List ℕ → Type 0) (old new : D) → Each m P old → ((c d : List ℕ) → P c → step c d → Q d) → Moves m step old new → LeavesOn m old new Q
  leaves_by_step P Q step old new at_start next moved = record {
    later = moved.later;
    each = λ told t c le since. ⊎_elim (λ was. inl was) (λ from. inr (next from.0 c (at_start.images told from.0 from.1) from.2)) (moved.each told t c le since);
  }

  -- what has P has Q
  pub leaves_weaker : (P Q : List ℕ → Type 0) (old new : D) → (m.tells_images → (c : List ℕ) → P c → Q c) → LeavesOn m old new P → LeavesOn m old new Q
  leaves_weaker P Q old new next on = record {
    later = on.later;
    each = λ told t c le since. ⊎_elim (λ was. inl was) (λ has. inr (next told c has)) (on.each told t c le since);
  }

  -- one part, and then another
  pub leaves_then : (P : List ℕ → Type 0) (old mid new : D) → LeavesOn m old mid P → LeavesOn m mid new P → LeavesOn m old new P
  leaves_then P old mid new first second = record {
    later = omega (arith, first.later, second.later);
    each = λ told t c le since. ⊎_elim (λ was. first.each told t c le was) (λ has. inr has) (second.each told t c (omega (arith, le, first.later)) since);
  }

  -- what crashes leave since the first moment
  pub leaves_since : (P : List ℕ → Type 0) (old new : D) → (m.tells_images → (c : List ℕ) → m.images old c → P c) → LeavesOn m old new P → Leaves m old new P
  leaves_since P old new at_start on told c since = ⊎_elim (λ was. at_start told c (m.only_now told old c was)) (λ has. has) (on.each told (m.moment old) c (omega arith) since)
