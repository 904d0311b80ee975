-- What a crash leaves of a disk while it is made a register's.
use Rattle.std.proofs.Common.{◌≡◌, ◌⊎◌, inl, inr, ⊎_elim, Bool, true, false, ℕ, ◌<◌, ◌≤◌, List, [], ◌∷◌, ◌++◌, length, take, drop, refl, ◌∙◌, ap, subst, arith}
use Rattle.std.proofs.lemmas.List.{drop_all}
use Rattle.std.proofs.lemmas.Bool.{cases_lt}
use Rattle.std.proofs.lemmas.Slice.Eq.{bytes_eq-Decides}
use Rattle.std.specs.Bool.{Decides}
use Rattle.std.specs.Str.{bytes_eq}
use Rattle.disk_model.specs.Disk.{Meaning, Moves, Same, Torn, IsWritten, Settled, Each}
use Rattle.disk_model.proofs.Run.{weaker, goes_on, each_settled}
use Rattle.file_collector.specs.Registers.{header, register_size}
use Rattle.file_collector.specs.Making.{new_register, IsUnmade, MayBeMade, MayClear}

-- a disk with the first four bytes of a new register, and with what stands behind them
same_parts : (e : List ℕ) → length e ≡ 220 → take 32 e ≡ header → drop 4 e ≡ drop 4 new_register → e ≡ new_register
same_parts [] size begins behind = absurd (omega (arith, size))
same_parts (a ∷ []) size begins behind = absurd (omega (arith, size))
same_parts (a ∷ b ∷ []) size begins behind = absurd (omega (arith, size))
same_parts (a ∷ b ∷ c ∷ []) size begins behind = absurd (omega (arith, size))
same_parts (a ∷ b ∷ c ∷ d ∷ rest) size begins behind =
    let mark : a ∷ b ∷ c ∷ d ∷ [] ≡ 78 ∷ 80 ∷ 68 ∷ 49 ∷ [] = ap (λ (l : List ℕ). take 4 l) begins in
    (λ i. mark i ++ behind i)

by_test : (b : Bool) (e : List ℕ) → Decides b (take 32 e ≡ header) → length e ≡ 220 → drop 4 e ≡ drop 4 new_register → IsUnmade e ⊎ (e ≡ new_register)
by_test true e decides size behind = inr (same_parts e size (decides.0 refl) behind)
by_test false e decides size behind = inl (inr (size, inr ((λ is. let no : false ≡ true = decides.1 is in cc no), behind)))

-- whatever its mark, what has all behind it is none yet, or a new register
unmade_or_new : (e : List ℕ) → length e ≡ 220 → drop 4 e ≡ drop 4 new_register → IsUnmade e ⊎ (e ≡ new_register)
unmade_or_new e size behind = by_test (bytes_eq (take 32 e) header) e (bytes_eq-Decides (take 32 e) header) size behind

-- a mark that is torn
mark_torn : (c d : List ℕ) → length c ≡ 220 → drop 4 c ≡ drop 4 new_register → Torn 0 4 c d → IsUnmade d ⊎ (d ≡ new_register)
mark_torn c d size behind torn = unmade_or_new d (omega (arith, torn.no_shorter, torn.no_longer, size)) (torn.after ∙ behind)

-- what has no mark is none yet
zeros_unmade : (d : List ℕ) → take 4 d ≡ 0 ∷ 0 ∷ 0 ∷ 0 ∷ [] → length d ≤ 220 → IsUnmade d
zeros_unmade d zeros few = ⊎_elim (λ (lt : length d < 220). inl lt) (λ (ge : 220 ≤ length d). inr (omega (arith, few, ge), inl zeros)) (cases_lt (length d) 220)

pub cleared_made : (c d : List ℕ) → IsUnmade c → MayClear c d → MayBeMade c d
cleared_made c d unmade (inl same) = inl same
cleared_made c d unmade (inr wrote) = inr (
  unmade,
  ⊎_elim
      (λ (short : length c < 220). inl (inl (omega (arith, wrote.1.no_longer, short))))
      (λ whole. ⊎_elim (λ (zeros : take 4 c ≡ 0 ∷ 0 ∷ 0 ∷ 0 ∷ []). absurd (wrote.0 zeros)) (λ other. mark_torn c d whole.0 other.1 wrote.1) whole.1)
      unmade,
)

behind_torn : (c d : List ℕ) → take 4 c ≡ 0 ∷ 0 ∷ 0 ∷ 0 ∷ [] → length c ≤ 220 → Torn 4 216 c d → IsUnmade d
behind_torn c d zeros few torn = zeros_unmade d (torn.before ∙ zeros) (omega (arith, torn.no_longer, few))

-- what stands there before the mark is written
pub before_mark : (first second : List ℕ) → length first ≤ register_size → take 4 first ≡ 0 ∷ 0 ∷ 0 ∷ 0 ∷ [] → IsWritten first 4 (drop 4 new_register) second → second ≡ 0 ∷ 0 ∷ 0 ∷ 0 ∷ drop 4 new_register
before_mark first second size start two =
    let none : drop 220 first ≡ [] = drop_all 220 first size in
    two ∙ (λ i. start i ++ drop 4 new_register ++ none i)

module _ {D : Type 0} (m : Meaning D) where
  anything : (d : D) → Each m (λ c. Unit {0}) d
  anything d = record { reading = λ told. tt; images = λ told c is. tt }

  pub made_after_same : (old mid new : D) → Moves m Same old mid → Moves m MayBeMade mid new → Moves m MayBeMade old new
  made_after_same old mid new first second =
      goes_on m (λ c. Unit {0}) Same MayBeMade MayBeMade old mid new (anything old) (λ c d _ same. inl same)
      (λ c d e _ same made. subst (λ (l : List ℕ). MayBeMade l e) same made) first second

  pub unmade_each : (d : D) → Settled m d → (m.tells → IsUnmade (m.reading d)) → Each m IsUnmade d
  unmade_each d settled is = each_settled m IsUnmade d settled is

  pub clear_made : (old new : D) → Each m IsUnmade old → Moves m MayClear old new → Moves m MayBeMade old new
  clear_made old new unmade moved = weaker m IsUnmade MayClear MayBeMade old new unmade cleared_made moved

  -- one write more, that leaves what is none yet or a new register
  write_on : (P : List ℕ → Type 0) (step : List ℕ → List ℕ → Type 0) (old mid new : D) → Each m IsUnmade old → Each m P mid → ((c d : List ℕ) → P c → step c d → IsUnmade d ⊎ (d ≡ new_register))
      → Moves m MayBeMade old mid → Moves m step mid new → Moves m MayBeMade old new
  write_on P step old mid new unmade has leaves first second =
      goes_on m IsUnmade MayBeMade (λ c d. IsUnmade d ⊎ (d ≡ new_register)) MayBeMade old mid new unmade (λ c d _ made. made)
      (λ c d e is _ left. inr (is, left)) first
      (weaker m P step (λ c d. IsUnmade d ⊎ (d ≡ new_register)) mid new has leaves second)

  pub behind_made : (old mid new : D) → Each m IsUnmade old → Settled m mid → (m.tells → take 4 (m.reading mid) ≡ 0 ∷ 0 ∷ 0 ∷ 0 ∷ []) → (m.tells → length (m.reading mid) ≤ register_size)
      → Moves m MayBeMade old mid → Moves m (Torn 4 216) mid new → Moves m MayBeMade old new
  behind_made old mid new unmade settled zeros few first second =
      write_on (λ c. (take 4 c ≡ 0 ∷ 0 ∷ 0 ∷ 0 ∷ []) × (length c ≤ 220)) (Torn 4 216) old mid new unmade
      (each_settled m (λ c. (take 4 c ≡ 0 ∷ 0 ∷ 0 ∷ 0 ∷ []) × (length c ≤ 220)) mid settled (λ told. (zeros told, few told)))
      (λ c d is torn. inl (behind_torn c d is.0 is.1 torn)) first second

  pub mark_made : (old mid new : D) → Each m IsUnmade old → Settled m mid → (m.tells → m.reading mid ≡ 0 ∷ 0 ∷ 0 ∷ 0 ∷ drop 4 new_register) → Moves m MayBeMade old mid → Moves m (Torn 0 4) mid new → Moves m MayBeMade old new
  mark_made old mid new unmade settled is first second =
      write_on (λ c. c ≡ 0 ∷ 0 ∷ 0 ∷ 0 ∷ drop 4 new_register) (Torn 0 4) old mid new unmade (each_settled m (λ c. c ≡ 0 ∷ 0 ∷ 0 ∷ 0 ∷ drop 4 new_register) mid settled is)
      (λ c d is torn. mark_torn c d (ap length is) (ap (λ (l : List ℕ). drop 4 l) is) torn) first second
