-- How the bytes of a part are added to a file that has begun.
use Rattle.std.proofs.Common.{◌≡◌, ℕ, zero, suc, ◌+◌, ◌≤◌, true, nat_le, if◌then◌else◌, List, [], ◌∷◌, ◌++◌, length, take, drop, refl, sym, ◌∙◌, ap, subst, arith, length-append}
use Rattle.std.proofs.lemmas.Bool.Decides.{nat_tests}
use Rattle.disk_model.specs.Disk.{Meaning}
use Rattle.file_messages.specs.Messages.{Piece}
use Rattle.file_messages.specs.Files.{State, Between, Inside}
use Rattle.file_messages.specs.Assemblies.{StandsFor, TakesMessage}
use Rattle.file_messages.specs.declared.assembly.Assembly.{Assembly}
use Rattle.file_messages.specs.declared.assembly.Step.{Step}

-- the first bytes are added
pub record Feeds {D : Type 0} (m : Meaning D) (part : D) (count at : ℕ) (old new : Assembly) : Type 0 where
  pub bytes : List ℕ
  pub number : length bytes ≡ at
  pub of_part : m.tells → take at (m.reading part) ≡ bytes
  pub fed : (name : List ℕ) (size : ℕ) → count ≤ size → StandsFor old (Inside name size []) → StandsFor new (Inside name size bytes)

module _ {D : Type 0} (m : Meaning D) (part : D) (count : ℕ) where
  pub nothing_fed : (a : Assembly) → Feeds m part count 0 a a
  nothing_fed a = record { bytes = []; number = refl; of_part = λ told. refl; fed = λ name size le stands. stands }

  fits : (a b : ℕ) → a ≤ b → nat_le a b ≡ true
  fits a b h = grind (arith, nat_tests)

  take_both : (a b : ℕ) (l : List ℕ) → take (a + b) l ≡ take a l ++ take b (drop a l)
  take_both zero b l = let on : zero + b ≡ b = omega arith in ap (λ n. take n l) on
  take_both (suc a) zero [] = let on : suc a + zero ≡ suc a = omega arith in ap (λ n. take n []) on
  take_both (suc a) (suc b) [] = let on : suc a + suc b ≡ suc (a + suc b) = omega arith in ap (λ n. take n []) on
  take_both (suc a) b (x ∷ l) = let on : suc a + b ≡ suc (a + b) = omega arith in ap (λ n. take n (x ∷ l)) on ∙ ap (λ t. x ∷ t) (take_both a b l)

  -- one piece more
  pub piece_fed : (at n : ℕ) (old mid new : Assembly) (piece : List ℕ) (step : Step) → Feeds m part count at old mid → TakesMessage mid new (Piece piece) step → length piece ≡ n → at + n ≤ count
      → (m.tells → piece ≡ take n (drop at (m.reading part))) → Feeds m part count (at + n) old new
  piece_fed at n old mid new piece step was takes size le from = record {
    bytes = was.bytes ++ piece;
    number = length-append was.bytes piece ∙ (λ i. was.number i + size i);
    of_part = λ told. take_both at n (m.reading part) ∙ (λ i. was.of_part told i ++ sym (from told) i);
    fed = λ name total le' stands.
        let next = takes (Inside name total was.bytes) (was.fed name total le' stands) in
        let room : nat_le (length was.bytes + length piece) total ≡ true = fits (length was.bytes + length piece) total (omega (arith, was.number, size, le, le')) in
        subst (λ (s : State). StandsFor new s) (ap (λ b. if b then Inside name total (was.bytes ++ piece) else Between) room) next.0;
  }
