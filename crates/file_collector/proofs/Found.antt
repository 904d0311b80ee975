-- What a collector finds where a file has begun.
use Rattle.std.proofs.Common.{◌≡◌, ◌^◌, ℕ, zero, suc, ◌≤◌, true, nat_le, if◌then◌else◌, List, [], ◌∷◌, length, take, Option, None, Some, option_map, Result, Ok, Err, IfOk, OnOk, refl, sym, ◌∙◌, ap, subst, arith}
use Rattle.std.proofs.lemmas.Bool.Decides.{nat_tests}
use Rattle.disk_model.specs.Disk.{Meaning, Moves, Same, Settled}
use Rattle.disk_model.proofs.Run.{settled_same}
use Rattle.stable_buffer.specs.Register.{IsReady, register_disk, register_value}
use Rattle.stable_buffer.specs.declared.register.Register.{Register}
use Rattle.file_messages.specs.Files.{State, Between, Inside}
use Rattle.file_messages.specs.Assemblies.{StandsFor, progress_of}
use Rattle.file_messages.specs.declared.assembly.Assembly.{Assembly}
use Rattle.file_messages.specs.declared.assembly.Progress.{Progress}
use Rattle.folders.specs.Placing.{Placing, Part, Missing, Lying, Given, IsDurable, first_of}
use Rattle.file_collector.specs.Registers.{RegisterStands, IsKept, held}
use Rattle.file_collector.specs.Collecting.{HasRegister}
use Rattle.file_collector.specs.Gathering.{PartStands}
use Rattle.file_collector.specs.Opening.{HasFed, IsBegun, IsFound, IsFoundWith, lying_part}
use Rattle.file_collector.specs.declared.opening.Found.{Found}

pub if_ok : {T E : Type 0} (r : Result T E) (P Q : T → Type 0) → ((t : T) → P t → Q t) → IfOk r P → IfOk r Q
if_ok (Ok t) P Q f p = f t p
if_ok (Err e) P Q f p = tt

pub on_ok : {T E : Type 0} (r : Result T E) (A : Type 0) → A → OnOk r A
on_ok (Ok t) A a = a
on_ok (Err e) A a = tt

pub on_ok_by : {T E : Type 0} (r : Result T E) (A B : Type 0) → (A → B) → OnOk r A → OnOk r B
on_ok_by (Ok t) A B f a = f a
on_ok_by (Err e) A B f a = tt

pub both_ok : {T E : Type 0} (r : Result T E) (P Q : T → Type 0) → IfOk r P → IfOk r Q → IfOk r (λ t. P t × Q t)
both_ok (Ok t) P Q p q = (p, q)
both_ok (Err e) P Q p q = tt

some_is : {X : Type 0} (a b : X) → Some a ≡ Some b → a ≡ b
some_is a b e = cc e

pub progress_name : (progress : Progress) (name : List ℕ) (size : ℕ) (bytes : List ℕ) (found : Option Progress) → found ≡ Some progress → found ≡ progress_of (Inside name size bytes) → progress.name ≡ name
progress_name progress name size bytes found is of = ap (λ (p : Progress). p.name) (some_is progress (record { name = name; size = size; bytes = length bytes }) (sym is ∙ of))

pub progress_size : (progress : Progress) (name : List ℕ) (size : ℕ) (bytes : List ℕ) (found : Option Progress) → found ≡ Some progress → found ≡ progress_of (Inside name size bytes) → progress.size ≡ size
progress_size progress name size bytes found is of = ap (λ (p : Progress). p.size) (some_is progress (record { name = name; size = size; bytes = length bytes }) (sym is ∙ of))

-- a part that has the bytes is found
enough : (n k : ℕ) → n ≤ k → nat_le n k ≡ true
enough n k h = grind (arith, nat_tests)

take_short : (n : ℕ) (l : List ℕ) → length (take n l) ≤ length l
take_short zero l = omega arith
take_short (suc n) [] = omega arith
take_short (suc n) (x ∷ l) = let le = take_short n l in omega (arith, le)

pub part_found : (part : Part) (name : List ℕ) (size : ℕ) (bytes : List ℕ) → PartStands (Inside name size bytes) (lying_part part) → first_of (length bytes) part ≡ Some bytes
part_found Missing name size bytes stands = absurd stands
part_found Given name size bytes stands = absurd stands
part_found (Lying q) name size bytes stands =
    let le : length bytes ≤ length q = subst (λ (l : List ℕ). length l ≤ length q) stands (take_short (length bytes) q) in
    ap (λ b. if b then Some (take (length bytes) q) else None) (enough (length bytes) (length q) le) ∙ ap (λ (l : List ℕ). Some l) stands

module _ {D : Type 0} (m : Meaning D) where
  pub kept_same : (old new : Register D) (count : ℕ) (state : State) → IsKept m old count state → IsReady m new → register_value new ≡ register_value old → Moves m Same (register_disk old) (register_disk new) → IsKept m new count state
  kept_same old new count state kept ready value same = record {
    ready = ready;
    value = value ∙ kept.value;
    settled = settled_same m (register_disk old) (register_disk new) kept.settled same;
    stands = λ told. subst (λ (l : List ℕ). RegisterStands count state l) (sym (same.reads told)) (kept.stands told);
  }

  pub register_same : (old new : Register D) → HasRegister m old → IsReady m new → register_value new ≡ register_value old → Moves m Same (register_disk old) (register_disk new) → HasRegister m new
  register_same old new has ready value same = record {
    ready = ready;
    settled = settled_same m (register_disk old) (register_disk new) has.settled same;
    size = λ told. ap length (same.reads told) ∙ has.size told;
    count = subst (λ (n : ℕ). n ≤ 2 ^ 48) (sym (ap (λ (v : ℕ × ℕ). v.0) value)) has.count;
  }

  -- a part that was found has as many bytes
  pub found_some : (part : Option D) (one : D) (n k : ℕ) (p : Part) → part ≡ Some one → option_map m.reading part ≡ first_of n p → n ≡ k → first_of k p ≡ None → ⊥
  found_some part one n k p is found same none =
      let no : Some (m.reading one) ≡ None = ap (option_map m.reading) (sym is) ∙ found ∙ ap (λ j. first_of j p) same ∙ none in absurd (cc no)

  pub none_not : {X : Type 0} (reading : D → X) (x : X) → option_map reading None ≡ Some x → ⊥
  none_not reading x e = absurd (cc e)

module _ {I D : Type 0} (mi : Placing I) (md : Meaning D) where
  pub found_begun : (inbox : I) (register : Register D) (part : D) (old new : Assembly) (count : ℕ) (progress : Progress) (of : Option Progress) → of ≡ Some progress → ((state : State) → StandsFor old state → of ≡ progress_of state)
      → IsBegun old → HasFed md part count old new → count ≤ progress.size → Settled md part → (mi.tells → mi.part inbox ≡ Given) → IsDurable mi inbox → HasRegister md register
      → (state : State) × IsFound mi md inbox (record { register = register; part = Some part; assembly = new; lost = None }) state
  found_begun inbox register part old new count progress of is tells begun fed le settled given durable has =
      let sized : progress.size ≡ begun.size = progress_size progress begun.name begun.size [] of is (tells (Inside begun.name begun.size []) begun.stands) in
      let few : count ≤ begun.size = omega (arith, le, sized) in (
        Inside begun.name begun.size fed.bytes,
        record {
          gathering = record {
            assembly = fed.fed begun.name begun.size few begun.stands;
            come = record { part = (settled, fed.of_part); given = given; durable = durable };
            clear = tt;
            begun = (begun.lawful.0, begun.lawful.1, omega (arith, few, fed.number));
          };
          register = has;
        },
      )

  pub found_between : (inbox : I) (found : Found D) (count : ℕ) (file : Option (List ℕ)) → found.part ≡ None → StandsFor found.assembly Between → IsDurable mi inbox → IsKept md found.register count Between → found.lost ≡ file
      → IsFoundWith mi md inbox found count Between file
  found_between inbox found count file part assembly durable kept lost = record {
    gathering = record {
      assembly = assembly;
      come = record { part = tt; given = λ told. tt; durable = durable };
      clear = part;
      begun = tt;
    };
    kept = kept;
    lost = lost;
  }

-- the register tells whether a file has begun
pub none_held : (state : State) → held state ≡ 0 → state ≡ Between
none_held Between e = refl
none_held (Inside n z b) e = absurd (omega (arith, e))

pub some_held : (state : State) → (held state ≡ 0 → ⊥) → (name : List ℕ) × (size : ℕ) × (bytes : List ℕ) × (state ≡ Inside name size bytes)
some_held Between e = absurd (e refl)
some_held (Inside n z b) e = (n, z, b, refl)
