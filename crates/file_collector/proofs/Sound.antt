-- What was opened is sound: what was read as the start of a file is that start, byte by byte.
use Rattle.std.proofs.Common.{◌≡◌, ℕ, suc, ◌+◌, ◌-◌, ◌<◌, ◌≤◌, ◌^◌, Bool, true, false, ◌&&◌, ◌==◌, nat_lt, if◌then◌else◌, List, [], ◌∷◌, ◌++◌, length, slice_index, take, drop, replicate, Option, None, Some, IfSome, IsSome, refl, sym, ◌∙◌, ap, subst, arith}
use Rattle.std.proofs.Math.Seq.{take-add}
use Rattle.std.proofs.lemmas.Bool.{eqb-true}
use Rattle.std.proofs.lemmas.List.{drop-drop, length-replicate}
use Rattle.std.proofs.lemmas.Nat.{be_bytes_8}
use Rattle.byteorder.specs.Endian.{big_bytes, big_number}
use Rattle.pump_frame.specs.Places.{AreBytes}
use Rattle.pump_frame.proofs.Reading.{take_bytes, drop_bytes}
use Rattle.stable_buffer.specs.Register.{value_of}
use Rattle.file_messages.specs.FileNames.{is_file_name, IsFileName}
use Rattle.file_messages.specs.Messages.{Message, Start, Piece, End, Abandon, Other, start_of, message_of, start_message}
use Rattle.file_messages.specs.Files.{State, Between, Inside, after}
use Rattle.file_messages.specs.Assemblies.{StandsFor, answer, progress_of}
use Rattle.file_messages.specs.declared.assembly.Assembly.{Assembly}
use Rattle.file_messages.specs.declared.assembly.Progress.{Progress}
use Rattle.file_messages.specs.declared.assembly.Step.TheVariants.{Started}
use Rattle.file_messages.proofs.Names.{no_name}
use Rattle.file_messages.proofs.Starts.{IsLawfulMessage}
use Rattle.file_messages.proofs.FirstBytes.{lawful_message}
use Rattle.file_collector.specs.Registers.{HasStart}
use Rattle.file_collector.specs.Making.{IsRegister}
use Rattle.file_collector.specs.Opening.{IsBegunWith, IsBegunBy}
use Rattle.file_collector.specs.Closed.{IsSound}
use Rattle.file_collector.proofs.Found.{progress_size}

pub if_some : {T : Type 0} (o : Option T) (A : Type 0) (P Q : T → Type 0) → ((t : T) → A → P t → Q t) → (IsSome o → A) → IfSome o P → IfSome o Q
if_some None A P Q f a p = tt
if_some (Some t) A P Q f a p = f t (a refl) p

module _ (kind : ℕ) (rest : List ℕ) where
  by_tests : Bool → Bool → Bool → Bool → Message
  by_tests piece start «end» abandon =
      if piece then Piece rest else if start then start_of rest else if «end» then End rest else if abandon then Abandon else Other

  tested : (piece start «end» abandon : Bool) → ((kind == 0) && nat_lt 0 (length rest)) ≡ piece → (kind == 2) ≡ start → (kind == 3) ≡ «end» → ((kind == 4) && (length rest == 0)) ≡ abandon
      → message_of (kind ∷ rest) ≡ by_tests piece start «end» abandon
  unfolding message_of by_tests
  tested piece start «end» abandon e f g h = λ i. by_tests (e i) (f i) (g i) (h i)

  two_by : (piece start «end» abandon : Bool) (name : List ℕ) (size : ℕ) → (kind == 2) ≡ start → by_tests piece start «end» abandon ≡ Start name size → (kind ≡ 2) × (start_of rest ≡ Start name size)
  unfolding by_tests
  two_by true start «end» abandon name size e is = absurd (cc is)
  two_by false true «end» abandon name size e is = (eqb-true kind 2 e, is)
  two_by false false true abandon name size e is = absurd (cc is)
  two_by false false false true name size e is = absurd (cc is)
  two_by false false false false name size e is = absurd (cc is)

  two : (name : List ℕ) (size : ℕ) → message_of (kind ∷ rest) ≡ Start name size → (kind ≡ 2) × (start_of rest ≡ Start name size)
  two name size is = two_by _ _ _ _ name size refl (sym (tested _ _ _ _ refl refl refl refl) ∙ is)

record Parts (rest name : List ℕ) (size : ℕ) : Type 0 where
  version : slice_index rest 0 ≡ 1
  lawful : IsFileName (drop 9 rest)
  named : drop 9 rest ≡ name
  sized : big_number 8 (drop 1 rest) ≡ size

module _ (rest : List ℕ) where
  start_by : Bool → Bool → Bool → Message
  start_by version size name = if version && (size && name) then Start (drop 9 rest) (big_number 8 (drop 1 rest)) else Other

  started : (version size name : Bool) → (slice_index rest 0 == 1) ≡ version → nat_lt (big_number 8 (drop 1 rest)) (2 ^ 48) ≡ size → is_file_name (drop 9 rest) ≡ name
      → start_of rest ≡ start_by version size name
  unfolding start_of start_by
  started version size name e f g = λ i. start_by (e i) (f i) (g i)

  parts_by : (version size name : Bool) (n : List ℕ) (k : ℕ) → (slice_index rest 0 == 1) ≡ version → is_file_name (drop 9 rest) ≡ name → start_by version size name ≡ Start n k → Parts rest n k
  unfolding start_by
  parts_by true true true n k e f is = record { version = eqb-true (slice_index rest 0) 1 e; lawful = f; named = cc is; sized = cc is }
  parts_by true true false n k e f is = absurd (cc is)
  parts_by true false name n k e f is = absurd (cc is)
  parts_by false size name n k e f is = absurd (cc is)

  parts : (n : List ℕ) (k : ℕ) → start_of rest ≡ Start n k → Parts rest n k
  parts n k is = parts_by _ _ _ n k refl refl (sym (started _ _ _ refl refl refl) ∙ is)

behind_kind : (rest name : List ℕ) (size : ℕ) → AreBytes (2 ∷ rest) → Parts rest name size → rest ≡ 1 ∷ big_bytes 8 size ++ name
behind_kind (v ∷ a ∷ b ∷ c ∷ d ∷ e ∷ f ∷ g ∷ h ∷ n) name size bytes p =
    let number : big_number 8 (a ∷ b ∷ c ∷ d ∷ e ∷ f ∷ g ∷ h ∷ n) ≡ size = p.sized in
    let eight : big_bytes 8 size ≡ a ∷ b ∷ c ∷ d ∷ e ∷ f ∷ g ∷ h ∷ [] =
    be_bytes_8 (a ∷ b ∷ c ∷ d ∷ e ∷ f ∷ g ∷ h ∷ []) size refl (take_bytes 8 (drop 2 (2 ∷ v ∷ a ∷ b ∷ c ∷ d ∷ e ∷ f ∷ g ∷ h ∷ n)) (drop_bytes 2 (2 ∷ v ∷ a ∷ b ∷ c ∷ d ∷ e ∷ f ∷ g ∷ h ∷ n) bytes)) (omega (arith, number)) in
    let one : v ≡ 1 = p.version in
    let named : n ≡ name = p.named in
    λ i. one i ∷ (sym eight i ++ named i)
behind_kind rest name size bytes p = let no = no_name in let yes : is_file_name [] ≡ true = p.lawful in absurd (cc)

starts_back : (start name : List ℕ) (size : ℕ) → AreBytes start → message_of start ≡ Start name size → start ≡ start_message name size
unfolding message_of start_message
starts_back [] name size bytes is = absurd (cc is)
starts_back (kind ∷ rest) name size bytes is =
    let t = two kind rest name size is in
    let first : kind ≡ 2 = t.0 in
    let behind = behind_kind rest name size (subst (λ k. AreBytes (k ∷ rest)) first bytes) (parts rest name size t.1) in
    λ i. first i ∷ behind i

started_is : (m : Message) → answer Between m ≡ Started → (name : List ℕ) × (size : ℕ) × (m ≡ Start name size)
started_is (Start n k) is = (n, k, refl)
started_is (Piece bytes) is = absurd (cc is)
started_is (End digest) is = absurd (cc is)
started_is Abandon is = absurd (cc is)
started_is Other is = absurd (cc is)

has_start : (disk start name : List ℕ) (size : ℕ) → big_bytes 2 (length start) ≡ take 2 (drop 80 disk) → start ≡ take (length start) (drop 82 disk) → start ≡ start_message name size → HasStart (Inside name size []) disk
has_start disk start name size two_bytes from is =
    subst (λ (m : List ℕ). take (2 + length m) (drop 80 disk) ≡ big_bytes 2 (length m) ++ m) is
    (take-add 2 (length start) (drop 80 disk)
    ∙ (λ i. sym two_bytes i ++ take (length start) (drop-drop 2 80 disk i))
    ∙ ap (λ (l : List ℕ). big_bytes 2 (length start) ++ l) (sym from))

pub begun_with : (start : List ℕ) (assembly : Assembly) → AreBytes start → answer Between (message_of start) ≡ Started → StandsFor assembly (after Between (message_of start)) → IsBegunWith assembly start
begun_with start assembly bytes is stands =
    let s = started_is (message_of start) is in
    let name = s.0 in
    let size = s.1 in
    let said : message_of start ≡ Start name size = s.2 in
    let lawful : IsLawfulMessage (Start name size) = subst IsLawfulMessage said (lawful_message start) in
    record {
      name = name;
      size = size;
      stands = subst (λ (m : Message). StandsFor assembly (after Between m)) said stands;
      lawful = (lawful.0, lawful.1, omega arith);
      spelled = starts_back start name size bytes said;
    }

pub begun_by : (disk start : List ℕ) (l : ℕ) (assembly : Assembly) → length start ≡ l → big_bytes 2 l ≡ take 2 (drop 80 disk) → start ≡ take l (drop 82 disk) → IsBegunWith assembly start → IsBegunBy assembly disk
begun_by disk start l assembly long spells reads b =
    let two_bytes : big_bytes 2 (length start) ≡ take 2 (drop 80 disk) = ap (big_bytes 2) long ∙ spells in
    let from : start ≡ take (length start) (drop 82 disk) = reads ∙ ap (λ k. take k (drop 82 disk)) (sym long) in
    record { name = b.name; size = b.size; stands = b.stands; lawful = b.lawful; start = has_start disk start b.name b.size two_bytes from b.spelled }

-- a register's disk that tells of no file
pub sound_between : (disk : List ℕ) (v : ℕ × ℕ) → value_of disk ≡ v → v.0 ≤ 2 ^ 48 → v.1 ≡ 0 → IsRegister disk → IsSound disk
sound_between disk v is le none register = record {
  count = v.0;
  state = Between;
  may = le;
  stands = record { size = register.size; header = register.begins; value = is ∙ (λ i. (v.0, none i)); start = tt };
}

-- .. and one that tells of a file whose start stands there
pub sound_begun : (disk : List ℕ) (v : ℕ × ℕ) (assembly : Assembly) (progress : Progress) (of : Option Progress) → of ≡ Some progress → ((state : State) → StandsFor assembly state → of ≡ progress_of state) → value_of disk ≡ v → v.0 < 2 ^ 48
    → 0 < v.1 → v.1 - 1 ≤ progress.size → IsBegunBy assembly disk → IsRegister disk → IsSound disk
sound_begun disk v assembly progress of found tells is lt some le b register =
    let bytes = replicate (v.1 - 1) 0 in
    let count : length bytes ≡ v.1 - 1 = length-replicate (v.1 - 1) 0 in
    let sized : progress.size ≡ b.size = progress_size progress b.name b.size [] of found (tells (Inside b.name b.size []) b.stands) in
    let held : v.1 ≡ suc (length bytes) = omega (arith, count, some) in
    record {
      count = v.0;
      state = Inside b.name b.size bytes;
      may = (lt, (b.lawful.0, b.lawful.1, omega (arith, count, le, sized)));
      stands = record { size = register.size; header = register.begins; value = is ∙ (λ i. (v.0, held i)); start = b.start };
    }
