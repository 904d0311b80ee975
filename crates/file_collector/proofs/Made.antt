-- The bytes of a new register, as they are written, and what they stand for.
use Rattle.std.proofs.Common.{◌≡◌, ⊎_elim, ℕ, ◌<◌, ◌≤◌, List, [], ◌∷◌, ◌++◌, length, take, drop, refl, sym, ◌∙◌, ap, arith}
use Rattle.std.proofs.lemmas.List.{drop_all}
use Rattle.disk_model.specs.Disk.{IsWritten}
use Rattle.stable_buffer.specs.Numbers.{number_at}
use Rattle.stable_buffer.specs.Register.{value_of}
use Rattle.file_messages.specs.Files.{Between}
use Rattle.file_collector.specs.Registers.{RegisterStands, register_size}
use Rattle.file_collector.specs.Making.{new_register, IsRegister, IsUnmade}

pub is_made : (first second third : List ℕ) → length first ≤ register_size → take 4 first ≡ 0 ∷ 0 ∷ 0 ∷ 0 ∷ [] → IsWritten first 4 (drop 4 new_register) second → IsWritten second 0 (78 ∷ 80 ∷ 68 ∷ 49 ∷ []) third → third ≡ new_register
is_made first second third size start two three =
    let none : drop 220 first ≡ [] = drop_all 220 first size in
    three ∙ ap (λ (l : List ℕ). 78 ∷ 80 ∷ 68 ∷ 49 ∷ drop 4 l) (two ∙ (λ i. start i ++ drop 4 new_register ++ none i))

new_value : value_of new_register ≡ (0, 0)
unfolding number_at
new_value = refl

pub new_stands : RegisterStands 0 Between new_register
new_stands = record { size = refl; header = refl; value = new_value; start = tt }

take_take : (disk : List ℕ) → take 4 (take 32 disk) ≡ take 4 disk
take_take [] = refl
take_take (a ∷ []) = refl
take_take (a ∷ b ∷ []) = refl
take_take (a ∷ b ∷ c ∷ []) = refl
take_take (a ∷ b ∷ c ∷ d ∷ rest) = refl

begins_two : (disk : List ℕ) → take 4 (take 32 disk) ≡ 78 ∷ 80 ∷ 68 ∷ 49 ∷ [] → take 4 disk ≡ 0 ∷ 0 ∷ 0 ∷ 0 ∷ [] → ⊥
begins_two disk one two = let same : take 4 (take 32 disk) ≡ take 4 disk = take_take disk in let no : 78 ∷ 80 ∷ 68 ∷ 49 ∷ [] ≡ 0 ∷ 0 ∷ 0 ∷ 0 ∷ [] = sym one ∙ same ∙ two in cc no

pub unmade_not : (disk : List ℕ) → IsUnmade disk → IsRegister disk → ⊥
unmade_not disk unmade is = ⊎_elim (λ (h : length disk < 220). absurd (omega (arith, h, is.size))) (λ h. ⊎_elim (λ (zeros : take 4 disk ≡ 0 ∷ 0 ∷ 0 ∷ 0 ∷ []). begins_two disk (ap (λ (l : List ℕ). take 4 l) is.begins) zeros) (λ other. other.0 is.begins) h.1) unmade
