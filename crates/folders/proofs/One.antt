-- The name of a mark is that of no other one.
use Rattle.std.proofs.Common.{◌≡◌, ℕ, ◌^◌, ◌<◌, ◌==◌, false, nat_le, ◌&&◌, length, List, [], ◌∷◌, ◌++◌, slice_index, decimal, refl, sym, ap, ◌∙◌, arith}
use Rattle.std.proofs.lemmas.List.Elements.{All-head, All-tail}
use Rattle.std.proofs.lemmas.Bool.{and_parts, both_ways, eq-eqb}
use Rattle.std.specs.List.{All, list_all}
use Rattle.file_messages.specs.FileNames.{IsFileName, is_file_name, is_name_byte, begins_plainly, ends_plainly}
use Rattle.std.proofs.lemmas.Fmt.{decimal_injective}
use Rattle.hex.specs.Hex.{IsBytes, encode_lower, decode_of}
use Rattle.hex.proofs.HexLemmas.{decode_of-encode_lower, decode_of-same}
use Rattle.folders.specs.Marks.{HasNumbers, HasDigest, IsMark, dashed, stage_fields, hidden_name}
use Rattle.folders.specs.declared.mark.Mark.{Mark}
use Rattle.folders.specs.declared.mark.Stage.{Stage}
use Rattle.folders.specs.declared.mark.Stage.TheVariants.{Fresh, Sending, Stopped}
use Rattle.folders.proofs.Dashes.{free_decimal, free_digits, untrue}

-- no such byte stands in a field
abbrev pub Lacks : ℕ → List ℕ → Type 0
Lacks mark field = All (λ x. (x == mark) ≡ false) field

in_prefix : (mark b : ℕ) (prefix : List ℕ) → Lacks mark (b ∷ prefix) → mark ≡ b → ⊥
in_prefix mark b prefix free e =
    both_ways (b == mark) (All-head (λ x. (x == mark) ≡ false) b prefix free) (eq-eqb b mark (sym e))

-- what stands before the first such byte is one field
pub fields_one : (mark : ℕ) (a b x y : List ℕ) → Lacks mark a → Lacks mark b → a ++ mark ∷ x ≡ b ++ mark ∷ y → (a ≡ b) × (x ≡ y)
fields_one mark [] [] x y fa fb e = (refl, cc)
fields_one mark [] (c ∷ b) x y fa fb e = let same : mark ≡ c = cc in absurd (in_prefix mark c b fb same)
fields_one mark (c ∷ a) [] x y fa fb e = let same : mark ≡ c = cc in absurd (in_prefix mark c a fa same)
fields_one mark (c ∷ a) (d ∷ b) x y fa fb e =
    let tails : a ++ mark ∷ x ≡ b ++ mark ∷ y = cc in
    let rest = fields_one mark a b x y (All-tail (λ z. (z == mark) ≡ false) c a fa) (All-tail (λ z. (z == mark) ≡ false) d b fb) tails in
    let first : c ≡ d = cc in
    let prefix = rest.0 in
    (cc, rest.1)

numbers_one : (m n : ℕ) (x y : List ℕ) → m < 2 ^ 64 → n < 2 ^ 64 → decimal m ++ 45 ∷ x ≡ decimal n ++ 45 ∷ y → (m ≡ n) × (x ≡ y)
numbers_one m n x y hm hn e =
    let parts = fields_one 45 (decimal m) (decimal n) x y (free_decimal m hm) (free_decimal n hn) e in
    (decimal_injective m n hm hn parts.0, parts.1)

digests_one : (d e x y : List ℕ) → IsBytes d → IsBytes e → encode_lower d ++ 45 ∷ x ≡ encode_lower e ++ 45 ∷ y → (d ≡ e) × (x ≡ y)
digests_one d e x y hd he same =
    let parts = fields_one 45 (encode_lower d) (encode_lower e) x y (free_digits d hd) (free_digits e he) same in
    (decode_of-same (encode_lower e) d e (ap decode_of (sym parts.0) ∙ decode_of-encode_lower d hd) (decode_of-encode_lower e he), parts.1)

apart : (k l : ℕ) (x y : List ℕ) → (k ≡ l → ⊥) → k ∷ x ≡ l ∷ y → ⊥
apart k l x y differ e = differ (ap (λ (bytes : List ℕ). slice_index bytes 0) e)

stages_one : (a b : Stage) (x y : List ℕ) → HasNumbers a → HasNumbers b → HasDigest a → HasDigest b
    → dashed (stage_fields a) x ≡ dashed (stage_fields b) y → (a ≡ b) × (x ≡ y)
stages_one Fresh Fresh x y na nb da db e = (refl, cc)
stages_one (Stopped m) (Stopped n) x y na nb da db e =
    let tails : decimal m ++ 45 ∷ x ≡ decimal n ++ 45 ∷ y = cc in
    let parts = numbers_one m n x y (omega (arith, na)) (omega (arith, nb)) tails in
    (ap Stopped parts.0, parts.1)
stages_one (Sending a1 a2 a3 a4) (Sending b1 b2 b3 b4) x y na nb da db e =
    let tails : dashed (decimal a1 ∷ decimal a2 ∷ decimal a3 ∷ encode_lower a4 ∷ []) x ≡ dashed (decimal b1 ∷ decimal b2 ∷ decimal b3 ∷ encode_lower b4 ∷ []) y = cc in
    let p1 = numbers_one a1 b1 _ _ (omega (arith, na.0)) (omega (arith, nb.0)) tails in
    let p2 = numbers_one a2 b2 _ _ (omega (arith, na.1)) (omega (arith, nb.1)) p1.1 in
    let p3 = numbers_one a3 b3 _ _ (omega (arith, na.2)) (omega (arith, nb.2)) p2.1 in
    let p4 = digests_one a4 b4 x y da.1 db.1 p3.1 in
    let e1 = p1.0 in let e2 = p2.0 in let e3 = p3.0 in let e4 = p4.0 in
    (cc, p4.1)
stages_one Fresh (Sending b1 b2 b3 b4) x y na nb da db e = absurd (apart 102 115 _ _ (omega arith) e)
stages_one Fresh (Stopped n) x y na nb da db e = absurd (apart 102 97 _ _ (omega arith) e)
stages_one (Sending a1 a2 a3 a4) Fresh x y na nb da db e = absurd (apart 115 102 _ _ (omega arith) e)
stages_one (Sending a1 a2 a3 a4) (Stopped n) x y na nb da db e = absurd (apart 115 97 _ _ (omega arith) e)
stages_one (Stopped m) Fresh x y na nb da db e = absurd (apart 97 102 _ _ (omega arith) e)
stages_one (Stopped m) (Sending b1 b2 b3 b4) x y na nb da db e = absurd (apart 97 115 _ _ (omega arith) e)

-- no name of a file begins with a dot
pub dotted : (name : List ℕ) → IsFileName (46 ∷ name) → ⊥
unfolding is_file_name
dotted name h =
    let plainly = and_parts (nat_le (length (46 ∷ name)) 128) (begins_plainly (46 ∷ name) && (ends_plainly (46 ∷ name) && list_all is_name_byte (46 ∷ name))) h in
    untrue (and_parts (begins_plainly (46 ∷ name)) (ends_plainly (46 ∷ name) && list_all is_name_byte (46 ∷ name)) plainly.1).0

-- a mark, by its two parts
abbrev pub built : Stage → List ℕ → Mark
built stage name = record { stage = stage; name = name }

pub marks_one : (session other : ℕ) (mark another : Mark) → session < 2 ^ 32 → other < 2 ^ 32 → IsMark mark → IsMark another
    → hidden_name session mark ≡ hidden_name other another → (session ≡ other) × (mark ≡ another)
marks_one session other mark another fs fo is ia e =
    let tails : decimal session ++ 45 ∷ dashed (stage_fields mark.stage) mark.name ≡ decimal other ++ 45 ∷ dashed (stage_fields another.stage) another.name = cc in
    let first = numbers_one session other _ _ (omega arith) (omega arith) tails in
    let rest = stages_one mark.stage another.stage mark.name another.name is.numbers ia.numbers is.digest ia.digest first.1 in
    (first.0, ap (λ stage. built stage mark.name) rest.0 ∙ ap (built another.stage) rest.1)
