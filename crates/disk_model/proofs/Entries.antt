-- Entries that have names, by their names.
use Rattle.std.proofs.Common.{◌≡◌, ◌∙◌, sym, refl, ap, inl, inr, ℕ, zero, suc, ◌+◌, ◌<◌, ◌≤◌, Bool, true, false, List, [], ◌∷◌, ◌++◌, length, take, drop, Option, None, Some, get_or, arith, nat_lt}
use Rattle.std.specs.List.{position, position_or_len}
use Rattle.std.proofs.lemmas.Bool.{cases_lt}
use Rattle.std.proofs.lemmas.Bool.Decides.{nat_tests}
use Rattle.disk_model.specs.MemShelf.{has_name, under, without_first, without}
use Rattle.disk_model.specs.declared.name.DiskName.{DiskName}
use Rattle.disk_model.proofs.DiskNames.{same_name_is, same_name_refl, not_same_name}

module _ {T : Type 0} (name other : DiskName) (apart : other ≡ name → ⊥) where
  -- an entry of the one name is none of the other
  not_both : (entry : DiskName × T) → has_name name entry ≡ true → has_name other entry ≡ false
  not_both entry hit = not_same_name entry.0 other (λ same. apart (sym same ∙ same_name_is entry.0 name hit))

  pub under_without_first : (entries : List (DiskName × T)) → under other (without_first name entries) ≡ under other entries
  under_without_first [] = refl
  under_without_first (entry ∷ rest) = go (has_name name entry) refl (under_without_first rest)
    where
      go : (t : Bool) → has_name name entry ≡ t → under other (without_first name rest) ≡ under other rest → under other (without_first name (entry ∷ rest)) ≡ under other (entry ∷ rest)
      go true hit rec = let miss = not_both entry hit in grind (hit, miss, arith)
      go false miss rec = grind (miss, rec, arith)

  pub under_without : (entries : List (DiskName × T)) → under other (without name entries) ≡ under other entries
  under_without [] = refl
  under_without (entry ∷ rest) = go (has_name name entry) refl (under_without rest)
    where
      go : (t : Bool) → has_name name entry ≡ t → under other (without name rest) ≡ under other rest → under other (without name (entry ∷ rest)) ≡ under other (entry ∷ rest)
      go true hit rec = let miss = not_both entry hit in grind (hit, miss, rec, arith)
      go false miss rec = grind (miss, rec, arith)

  pub under_pushed : (entries : List (DiskName × T)) (x : T) → under other (entries ++ (name, x) ∷ []) ≡ under other entries
  under_pushed [] x = let miss = not_both (name, x) (same_name_refl name) in grind (miss, arith)
  under_pushed (entry ∷ rest) x = let rec = under_pushed rest x in grind (rec, arith)

  pub under_before : (entries : List (DiskName × T)) (x : T) → under other ((name, x) ∷ entries) ≡ under other entries
  under_before entries x = let miss = not_both (name, x) (same_name_refl name) in grind (miss, arith)

module _ {T : Type 0} (name : DiskName) where
  pub none_without : (entries : List (DiskName × T)) → under name (without name entries) ≡ None
  none_without [] = refl
  none_without (entry ∷ rest) = go (has_name name entry) refl (none_without rest)
    where
      go : (t : Bool) → has_name name entry ≡ t → under name (without name rest) ≡ None → under name (without name (entry ∷ rest)) ≡ None
      go true hit rec = grind (hit, rec, arith)
      go false miss rec = grind (miss, rec, arith)

  pub no_longer_without : (entries : List (DiskName × T)) → length (without name entries) ≤ length entries
  no_longer_without [] = omega arith
  no_longer_without (entry ∷ rest) = go (has_name name entry) refl (no_longer_without rest)
    where
      go : (t : Bool) → has_name name entry ≡ t → length (without name rest) ≤ length rest → length (without name (entry ∷ rest)) ≤ length (entry ∷ rest)
      go true hit rec = grind (hit, arith)
      go false miss rec = grind (miss, arith)

  pub shorter_without : (entries : List (DiskName × T)) (x : T) → under name entries ≡ Some x → length (without name entries) < length entries
  shorter_without [] x found = cc
  shorter_without (entry ∷ rest) x found = go (has_name name entry) refl (λ h. shorter_without rest x h)
    where
      go : (t : Bool) → has_name name entry ≡ t → (under name rest ≡ Some x → length (without name rest) < length rest) → length (without name (entry ∷ rest)) < length (entry ∷ rest)
      go true hit rec = let shorter = no_longer_without rest in grind (hit, arith)
      go false miss rec =
          let there : under name rest ≡ Some x = grind (miss, found, arith) in
          let shorter = rec there in grind (miss, arith)

  pub found_pushed : (entries : List (DiskName × T)) (x : T) → under name entries ≡ None → under name (entries ++ (name, x) ∷ []) ≡ Some x
  found_pushed [] x none = let hit = same_name_refl name in grind (hit, arith)
  found_pushed (entry ∷ rest) x none = go (has_name name entry) refl (λ h. found_pushed rest x h)
    where
      go : (t : Bool) → has_name name entry ≡ t → (under name rest ≡ None → under name (rest ++ (name, x) ∷ []) ≡ Some x) → under name (entry ∷ rest ++ (name, x) ∷ []) ≡ Some x
      go true hit rec = let bad : under name (entry ∷ rest) ≡ Some entry.1 = grind (hit, arith) in cc
      go false miss rec =
          let there : under name rest ≡ None = grind (miss, none, arith) in
          let pushed = rec there in grind (miss, pushed, arith)

  pub found_before : (entries : List (DiskName × T)) (x : T) → under name ((name, x) ∷ entries) ≡ Some x
  found_before entries x = let hit = same_name_refl name in grind (hit, arith)

  pub none_at : (entries : List (DiskName × T)) → position (has_name name) entries ≡ None → (under name entries ≡ None) × (without_first name entries ≡ entries)
  none_at [] none = (refl, refl)
  none_at (entry ∷ rest) none = go (has_name name entry) refl (λ h. none_at rest h)
    where
      go : (t : Bool) → has_name name entry ≡ t → (position (has_name name) rest ≡ None → (under name rest ≡ None) × (without_first name rest ≡ rest))
          → (under name (entry ∷ rest) ≡ None) × (without_first name (entry ∷ rest) ≡ entry ∷ rest)
      go true hit rec =
          let t : nat_lt 0 (suc (length rest)) ≡ true = grind (arith, nat_tests) in
          let shown : position (has_name name) (entry ∷ rest) ≡ Some 0 = rw hit (rw t refl) in
          let bad : ◌≡◌ {A = Option ℕ} (Some 0) None = sym shown ∙ none in
          cc
      go false miss rec =
          let n = position_or_len (has_name name) rest in
          elim (cases_lt n (length rest)) [
            | inl inside ↦
                let t : nat_lt (1 + n) (suc (length rest)) ≡ true = grind (arith, nat_tests) in
                let shown : position (has_name name) (entry ∷ rest) ≡ Some (1 + n) = rw miss (rw t refl) in
                let bad : ◌≡◌ {A = Option ℕ} (Some (1 + n)) None = sym shown ∙ none in
                cc
            | inr over ↦
                let t : nat_lt n (length rest) ≡ false = grind (arith, nat_tests) in
                let later : position (has_name name) rest ≡ None = rw t refl in
                let both = rec later in
                (rw miss both.0, rw miss (ap (λ l. entry ∷ l) both.1))
          ]

  pub some_at : (entries : List (DiskName × T)) (i : ℕ) (d : DiskName × T) → i < length entries → has_name name (get_or entries i d) ≡ true
      → ((k : ℕ) → k < i → has_name name (get_or entries k d) ≡ false)
      → (under name entries ≡ Some (get_or entries i d).1) × (without_first name entries ≡ take i entries ++ drop (i + 1) entries)
  some_at [] i d lt hit before = absurd (omega arith)
  some_at (entry ∷ rest) zero d lt hit before = (rw hit refl, rw hit refl)
  some_at (entry ∷ rest) (suc i) d lt hit before =
      let miss : has_name name entry ≡ false = before 0 (omega arith) in
      let both = some_at rest i d (omega arith) hit (λ k low. before (suc k) (omega arith)) in
      let next : suc i + 1 ≡ suc (i + 1) = omega arith in
      (rw miss both.0, rw miss (rw next (ap (λ l. entry ∷ l) both.1)))
