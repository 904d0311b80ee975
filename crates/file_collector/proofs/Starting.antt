-- What is read of the start of a file behind the register.
use Rattle.std.proofs.Common.{◌≡◌, ℕ, zero, suc, ◌+◌, ◌<◌, ◌≤◌, ◌^◌, List, [], ◌∷◌, ◌++◌, length, take, drop, refl, sym, ◌∙◌, ap, subst, arith, append_assoc, length-append}
use Rattle.std.proofs.lemmas.List.{drop-drop}
use Rattle.byteorder.specs.Endian.{big_bytes, big_number}
use Rattle.byteorder.specs.Numbers.{big_number-reads_back}
use Rattle.stable_buffer.specs.Numbers.{length_at}
use Rattle.stable_buffer.specs.Stands.{spelled}
use Rattle.file_messages.specs.FileNames.{IsFileName}
use Rattle.file_messages.specs.Messages.{Start, message_of, start_message}
use Rattle.file_messages.specs.Files.{State, Between, Inside, after}
use Rattle.file_messages.specs.Assemblies.{StandsFor, answer}
use Rattle.file_messages.specs.declared.assembly.Assembly.{Assembly}
use Rattle.file_messages.proofs.Starts.{is_start}
use Rattle.file_messages.proofs.FirstBytes.{a_start}
use Rattle.file_messages.proofs.Names.{short_name}
use Rattle.file_messages.specs.declared.assembly.Step.TheVariants.{Started}
use Rattle.file_collector.specs.Registers.{HasStart}
use Rattle.file_collector.specs.Closed.{HasNoStart}

start_is : (name : List ℕ) (size : ℕ) → IsFileName name → size < 2 ^ 48 → message_of (start_message name size) ≡ Start name size
unfolding start_message
start_is name size lawful few =
    let rest = 1 ∷ big_bytes 8 size ++ name in
    let back = big_number-reads_back 8 size name (omega (arith, few)) in
    a_start 2 rest refl ∙ is_start rest refl (subst (λ k. k < 2 ^ 48) (sym back) few) lawful ∙ ap (λ k. Start name k) back

start_length : (name : List ℕ) (size : ℕ) → IsFileName name → length (start_message name size) ≤ 138
unfolding start_message
start_length name size lawful = let short = short_name name lawful in omega (arith, short, length-append (big_bytes 8 size) name)

take_drop : {X : Type 0} (n : ℕ) (l : List X) → take n l ++ drop n l ≡ l
take_drop zero l = refl
take_drop (suc n) [] = refl
take_drop {X = X} (suc n) (x ∷ l) = ap (λ (t : List X). x ∷ t) (take_drop n l)

pub take_front : (a b : List ℕ) → take (length a) (a ++ b) ≡ a
take_front [] b = refl
take_front (x ∷ a) b = ap (λ (l : List ℕ). x ∷ l) (take_front a b)

-- the length and the message that stand there
spelled_length : (message rest : List ℕ) → length message < 2 ^ 16 → big_number 2 (spelled message ++ rest) ≡ length message
spelled_length message rest small = ap (big_number 2) (append_assoc (big_bytes 2 (length message)) message rest) ∙ big_number-reads_back 2 (length message) (message ++ rest) (omega (arith, small))

module _ (message disk : List ℕ) (stands : take (2 + length message) (drop 80 disk) ≡ spelled message) where
  split : drop 80 disk ≡ spelled message ++ drop (2 + length message) (drop 80 disk)
  split = sym (take_drop (2 + length message) (drop 80 disk)) ∙ ap (λ (l : List ℕ). l ++ drop (2 + length message) (drop 80 disk)) stands

  pub length_there : length message < 2 ^ 16 → length_at disk 80 ≡ length message
  unfolding length_at
  length_there small = ap (big_number 2) split ∙ spelled_length message (drop (2 + length message) (drop 80 disk)) small

  pub message_there : take (length message) (drop 82 disk) ≡ message
  message_there =
      ap (λ (l : List ℕ). take (length message) l) (sym (drop-drop 2 80 disk) ∙ ap (λ (l : List ℕ). drop 2 l) split)
      ∙ take_front message (drop (2 + length message) (drop 80 disk))

-- the assembly that was made of it
pub start_found : (name : List ℕ) (size : ℕ) (bytes disk start : List ℕ) (l : ℕ) (assembly : Assembly) → IsFileName name → size < 2 ^ 48 → HasStart (Inside name size bytes) disk
    → l ≡ length_at disk 80 → start ≡ take l (drop 82 disk) → StandsFor assembly (after Between (message_of start)) → StandsFor assembly (Inside name size [])
start_found name size bytes disk start l assembly lawful few stands long from is =
    let message = start_message name size in
    let short = start_length name size lawful in
    let count : l ≡ length message = long ∙ length_there message disk stands (omega (arith, short)) in
    let same : start ≡ message = from ∙ ap (λ k. take k (drop 82 disk)) count ∙ message_there message disk stands in
    subst (λ (s : State). StandsFor assembly s) (ap (λ (m : List ℕ). after Between (message_of m)) same ∙ ap (after Between) (start_is name size lawful few)) is

-- where too long a message stands, or one that begins no file, there is no start of a file
pub no_start_long : (disk : List ℕ) (l : ℕ) → l ≡ length_at disk 80 → 138 < l → HasNoStart disk
no_start_long disk l is long name size begun start =
    let short = start_length name size begun.0 in
    absurd (omega (arith, is, long, short, length_there (start_message name size) disk start (omega (arith, short))))

pub no_start_other : (disk start : List ℕ) (l : ℕ) → l ≡ length_at disk 80 → start ≡ take l (drop 82 disk) → (answer Between (message_of start) ≡ Started → ⊥) → HasNoStart disk
no_start_other disk start l long from other name size begun stands =
    let message = start_message name size in
    let short = start_length name size begun.0 in
    let count : l ≡ length message = long ∙ length_there message disk stands (omega (arith, short)) in
    let same : start ≡ message = from ∙ ap (λ k. take k (drop 82 disk)) count ∙ message_there message disk stands in
    other (ap (λ (m : List ℕ). answer Between (message_of m)) same ∙ ap (answer Between) (start_is name size begun.0 begun.1))
