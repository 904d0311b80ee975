-- What a disk stands for is settled by its bytes, its version too.
use Rattle.std.proofs.Common.{◌≡◌, ℕ, true, List, [], ◌∷◌, get_or, take, sym, ap, ◌∙◌, subst}
use Rattle.std.proofs.Math.Logic.{∥∥₁_elim, ∥∥₁_map}
use Rattle.std.proofs.Props.{props}
use Rattle.std.specs.Coded.{le_prop}
use Rattle.pump_frame.specs.declared.row.SessionRow.{SessionRow}
use Rattle.stable_buffer.specs.Stands.{is_version, HasHeader, LowStands, HighStands}

version_at : (row : SessionRow) (role : ℕ) (prefix : List ℕ) (h : HasHeader row role prefix) → get_or (take 6 prefix) 5 0 ≡ h.version
version_at row role prefix h = ap (λ (l : List ℕ). get_or l 5 0) h.mark

pub header_is : (row : SessionRow) (role : ℕ) (prefix : List ℕ) → ∥ HasHeader row role prefix ∥₁ → HasHeader row role prefix
header_is row role prefix some = record {
  version = get_or (take 6 prefix) 5 0;
  known = ∥∥₁_elim some (hlevel props) (λ h. subst (λ (v : ℕ). is_version row v ≡ true) (sym (version_at row role prefix h)) h.known);
  mark = ∥∥₁_elim some (hlevel props) (λ h. h.mark ∙ ap (λ (v : ℕ). 78 ∷ 80 ∷ 68 ∷ 49 ∷ role ∷ v ∷ []) (sym (version_at row role prefix h)));
  numbers = ∥∥₁_elim some (hlevel props) (λ h. h.numbers);
}

pub low_stands_is : (row : SessionRow) (E b : ℕ) (messages : List (List ℕ)) (disk : List ℕ) → ∥ LowStands row E b messages disk ∥₁ → LowStands row E b messages disk
low_stands_is row E b messages disk some = record {
  header = header_is row 76 (take 32 disk) (∥∥₁_map some (λ s. s.header));
  size = ∥∥₁_elim some (hlevel props) (λ s. s.size);
  value = ∥∥₁_elim some (hlevel props) (λ s. s.value);
  kept = ∥∥₁_elim some le_prop (λ s. s.kept);
  count = ∥∥₁_elim some (hlevel props) (λ s. s.count);
  slots = ∥∥₁_elim some (hlevel props) (λ s. s.slots);
}

pub high_stands_is : (row : SessionRow) (B : ℕ) (disk : List ℕ) → ∥ HighStands row B disk ∥₁ → HighStands row B disk
high_stands_is row B disk some = record {
  header = header_is row 72 (take 32 disk) (∥∥₁_map some (λ s. s.header));
  size = ∥∥₁_elim some (hlevel props) (λ s. s.size);
  value = ∥∥₁_elim some (hlevel props) (λ s. s.value);
}
