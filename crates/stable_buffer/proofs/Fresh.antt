-- What the first bytes of a new disk stand for.
use Rattle.std.proofs.Common.{◌≡◌, ℕ, ◌+◌, ◌%◌, ◌^◌, ◌<◌, ◌≤◌, List, [], ◌++◌, length, get_or, take, replicate, refl, sym, ◌∙◌, ap, subst, arith}
use Rattle.std.proofs.lemmas.List.{take-take, get_or-take, drop_all, append-nil}
use Rattle.disk_model.specs.Disk.{IsWritten}
use Rattle.byteorder.specs.Endian.{big_bytes}
use Rattle.byteorder.specs.Numbers.{big_number-reads_back}
use Rattle.stable_buffer.specs.Numbers.{number_at}
use Rattle.stable_buffer.specs.Register.{cell_at, place_of, selected, value_of}
use Rattle.stable_buffer.specs.Stands.{HasHeader, newest_version}
use Rattle.stable_buffer.specs.Format.{header_of, FormatStands, role_byte, second_of, size_of}
use Rattle.pump_frame.specs.declared.row.SessionRow.{SessionRow}
use Rattle.disk_model.specs.declared.name.Role.{Role}
use Rattle.disk_model.specs.declared.name.Role.TheVariants.{Low, High, Recv}
use Rattle.stable_buffer.proofs.Numbers.{number_at-agree}

number_first : (row : SessionRow) (role first second : ℕ) → first < 2 ^ 64 → number_at (header_of row role first second) 48 ≡ first
unfolding header_of number_at
number_first row role first second fits = big_number-reads_back 8 first (big_bytes 8 second ++ replicate 16 0) (omega arith)

number_second : (row : SessionRow) (role first second : ℕ) → second < 2 ^ 64 → number_at (header_of row role first second) 56 ≡ second
unfolding header_of number_at
number_second row role first second fits = big_number-reads_back 8 second (replicate 16 0) (omega arith)

selector_zero : (row : SessionRow) (role first second : ℕ) → selected (header_of row role first second) ≡ 0
unfolding header_of
selector_zero row role first second = refl

header_has : (row : SessionRow) (role first second : ℕ) → HasHeader row role (take 32 (header_of row role first second))
unfolding header_of
header_has row role first second = record { version = newest_version; known = refl; mark = refl; numbers = refl }

pub header_length : (row : SessionRow) (role first second : ℕ) → length (header_of row role first second) ≡ 80
unfolding header_of
header_length row role first second = refl

module _ (row : SessionRow) (role first second : ℕ) (disk : List ℕ) (is : take 80 disk ≡ header_of row role first second) where
  byte : (k : ℕ) → k < 80 → get_or disk k 0 ≡ get_or (header_of row role first second) k 0
  byte k lt = sym (get_or-take 80 disk k 0 lt) ∙ ap (λ (l : List ℕ). get_or l k 0) is

  pub has_header : HasHeader row role (take 32 disk)
  has_header = subst (HasHeader row role) (sym (sym (take-take 32 80 disk (omega arith)) ∙ ap (λ (l : List ℕ). take 32 l) is)) (header_has row role first second)

  pub has_value : first < 2 ^ 64 → second < 2 ^ 64 → value_of disk ≡ (first, second)
  has_value one two =
      let selector : selected disk ≡ 0 = ap (λ b. b % 2) (byte 32 (omega arith)) ∙ selector_zero row role first second in
      let a : number_at disk 48 ≡ first = number_at-agree disk 48 (header_of row role first second) 48 (λ i lt. byte (48 + i) (omega arith)) ∙ number_first row role first second one in
      let b : number_at disk 56 ≡ second = number_at-agree disk 56 (header_of row role first second) 56 (λ i lt. byte (56 + i) (omega arith)) ∙ number_second row role first second two in
      ap (λ p. cell_at disk (place_of p)) selector ∙ (λ i. (a i, b i))

-- the whole disk stands for its count
pub fresh_stands : (row : SessionRow) (role : Role) (count : ℕ) (disk : List ℕ) → count ≤ 2 ^ 48 → (role ≡ Recv → count ≡ 0)
    → take 80 disk ≡ header_of row (role_byte role) count (second_of role) → length disk ≡ size_of row role → FormatStands row role count disk
fresh_stands row Low count disk le none is size = record {
  header = has_header row 76 count 0 disk is;
  size = size;
  value = has_value row 76 count 0 disk is (omega arith) (omega arith);
  kept = omega arith;
  count = omega arith;
  slots = λ i lt. absurd (omega arith);
}
fresh_stands row High count disk le none is size =
    record { header = has_header row 72 count 0 disk is; size = size; value = has_value row 72 count 0 disk is (omega arith) (omega arith) }
fresh_stands row Recv count disk le none is size = record {
  header = has_header row 82 count 80 disk is;
  end = 80;
  from = omega arith;
  within = omega (arith, size);
  value = has_value row 82 count 80 disk is (omega arith) (omega arith) ∙ (λ i. (none refl i, 80));
  records = refl;
}

-- what is written to an empty disk is all that it has
pub holds_empty : (old bytes new : List ℕ) → old ≡ [] → IsWritten old 0 bytes new → new ≡ bytes
holds_empty old bytes new empty holds =
    holds ∙ ap (λ (l : List ℕ). bytes ++ l) (drop_all (0 + length bytes) old (omega (arith, ap length empty))) ∙ append-nil bytes
