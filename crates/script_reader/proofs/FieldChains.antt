-- One field of a line after another.
use Rattle.std.proofs.Common.{◌≡◌, ℕ, ◌^◌, ◌<◌, ◌≤◌, ◌⊎◌, inl, inr, Bool, true, false, cond, List, [], ◌∷◌, Option, None, Some, decimal, refl, sym, ap, ◌∙◌}
use Rattle.std.proofs.lemmas.Option.{same_Some}
use Rattle.pump_frame.specs.Names.{IsName}
use Rattle.script_reader.specs.Grammar.{IsWord, IsHex}
use Rattle.script_reader.specs.Parsing.{◌>>=◌, field_at, with_rest, number, word, name, hex, at_end}
use Rattle.script_reader.proofs.FieldLaws.{field_takes, number_takes, number_again, word_takes, word_again, name_takes, name_again, hex_takes, hex_again}

pub bind_some : {A B : Type 0} (o : Option A) (f : A → Option B) (y : B) → (o >>= f) ≡ Some y → (x : A) × (o ≡ Some x) × (f x ≡ Some y)
bind_some None f y e = cc
bind_some (Some x) f y e = (x, refl, e)

pub chosen : {A : Type 0} (b : Bool) (x y : Option A) (z : A) → cond b x y ≡ Some z → ((b ≡ true) × (x ≡ Some z)) ⊎ ((b ≡ false) × (y ≡ Some z))
chosen true x y z e = inl (refl, e)
chosen false x y z e = inr (refl, e)

-- one field
number_at : (bound : ℕ) (fields : List (List ℕ)) (x : ℕ × List (List ℕ)) → field_at (number bound) fields ≡ Some x → (x.0 < bound) × (fields ≡ decimal x.0 ∷ x.1)
number_at bound fields x e =
    let p = field_takes (number bound) fields x e in
    let q = number_takes bound p.0 x.0 p.2 in
    (q.0, p.1 ∙ ap (λ f. f ∷ x.1) q.1)

name_at : (fields : List (List ℕ)) (x : List ℕ × List (List ℕ)) → field_at name fields ≡ Some x → IsName x.0 × (fields ≡ x.0 ∷ x.1)
name_at fields x e =
    let p = field_takes name fields x e in
    let q = name_takes p.0 x.0 p.2 in
    (rw q.1 q.0, p.1 ∙ ap (λ f. f ∷ x.1) (sym q.1))

word_at : (fields : List (List ℕ)) (x : ℕ × List (List ℕ)) → field_at word fields ≡ Some x → (field : List ℕ) × IsWord x.0 field × (fields ≡ field ∷ x.1)
word_at fields x e =
    let p = field_takes word fields x e in
    (p.0, word_takes p.0 x.0 p.2, p.1)

hex_at : (fields : List (List ℕ)) (x : List ℕ × List (List ℕ)) → field_at hex fields ≡ Some x → (field : List ℕ) × IsHex x.0 field × (fields ≡ field ∷ x.1)
hex_at fields x e =
    let p = field_takes hex fields x e in
    (p.0, hex_takes p.0 x.0 p.2, p.1)

pub end_at : {A : Type 0} (x : A) (fields : List (List ℕ)) (y : A) → at_end x fields ≡ Some y → (fields ≡ []) × (x ≡ y)
end_at x [] y e = (refl, same_Some x y e)
end_at x (f ∷ fields) y e = cc

pub number_put : (bound n : ℕ) (rest : List (List ℕ)) → n < bound → bound ≤ 2 ^ 64 → field_at (number bound) (decimal n ∷ rest) ≡ Some (n, rest)
number_put bound n rest below fits = ap (λ o. with_rest o rest) (number_again bound n below fits)

pub name_put : (field : List ℕ) (rest : List (List ℕ)) → IsName field → field_at name (field ∷ rest) ≡ Some (field, rest)
name_put field rest h = ap (λ o. with_rest o rest) (name_again field h)

pub hex_put : (payload field : List ℕ) (rest : List (List ℕ)) → IsHex payload field → field_at hex (field ∷ rest) ≡ Some (payload, rest)
hex_put payload field rest h = ap (λ o. with_rest o rest) (hex_again field payload h)

pub word_put : (n : ℕ) (field : List ℕ) (rest : List (List ℕ)) → IsWord n field → field_at word (field ∷ rest) ≡ Some (n, rest)
word_put n field rest h = ap (λ o. with_rest o rest) (word_again field n h)

-- the same in a chain: what comes after holds for the value and the rest as variables
pub take_number : {B P : Type 0} (bound : ℕ) (fields : List (List ℕ)) (f : ℕ × List (List ℕ) → Option B) (y : B) → (field_at (number bound) fields >>= f) ≡ Some y
    → ((n : ℕ) (rest : List (List ℕ)) → n < bound → fields ≡ decimal n ∷ rest → f (n, rest) ≡ Some y → P) → P
take_number bound fields f y e next =
    let p = bind_some (field_at (number bound) fields) f y e in
    let q = number_at bound fields p.0 p.1 in
    next p.0.0 p.0.1 q.0 q.1 p.2

pub take_name : {B P : Type 0} (fields : List (List ℕ)) (f : List ℕ × List (List ℕ) → Option B) (y : B) → (field_at name fields >>= f) ≡ Some y
    → ((n : List ℕ) (rest : List (List ℕ)) → IsName n → fields ≡ n ∷ rest → f (n, rest) ≡ Some y → P) → P
take_name fields f y e next =
    let p = bind_some (field_at name fields) f y e in
    let q = name_at fields p.0 p.1 in
    next p.0.0 p.0.1 q.0 q.1 p.2

pub take_word : {B P : Type 0} (fields : List (List ℕ)) (f : ℕ × List (List ℕ) → Option B) (y : B) → (field_at word fields >>= f) ≡ Some y
    → ((n : ℕ) (field : List ℕ) (rest : List (List ℕ)) → IsWord n field → fields ≡ field ∷ rest → f (n, rest) ≡ Some y → P) → P
take_word fields f y e next =
    let p = bind_some (field_at word fields) f y e in
    let q = word_at fields p.0 p.1 in
    next p.0.0 q.0 p.0.1 q.1 q.2 p.2

pub take_hex : {B P : Type 0} (fields : List (List ℕ)) (f : List ℕ × List (List ℕ) → Option B) (y : B) → (field_at hex fields >>= f) ≡ Some y
    → ((n : List ℕ) (field : List ℕ) (rest : List (List ℕ)) → IsHex n field → fields ≡ field ∷ rest → f (n, rest) ≡ Some y → P) → P
take_hex fields f y e next =
    let p = bind_some (field_at hex fields) f y e in
    let q = hex_at fields p.0 p.1 in
    next p.0.0 q.0 p.0.1 q.1 q.2 p.2

-- any field
pub take_field : {A B P : Type 0} (read : List ℕ → Option A) (fields : List (List ℕ)) (f : A × List (List ℕ) → Option B) (y : B) → (field_at read fields >>= f) ≡ Some y
    → ((x : A) (field : List ℕ) (rest : List (List ℕ)) → read field ≡ Some x → fields ≡ field ∷ rest → f (x, rest) ≡ Some y → P) → P
take_field read fields f y e next =
    let p = bind_some (field_at read fields) f y e in
    let q = field_takes read fields p.0 p.1 in
    next p.0.0 q.0 p.0.1 q.2 q.1 p.2

pub field_put : {A : Type 0} (read : List ℕ → Option A) (field : List ℕ) (x : A) (rest : List (List ℕ)) → read field ≡ Some x → field_at read (field ∷ rest) ≡ Some (x, rest)
field_put read field x rest e = ap (λ o. with_rest o rest) e
