-- Sessions beside one another: which is found by a number, that the numbers rise, and how many there are.
use Rattle.std.proofs.Common.{◌≡◌, ℕ, ◌<◌, ◌≤◌, suc, Bool, true, false, nat_lt, List, [], ◌∷◌, length, Option, Some, None, refl, sym, ap, ◌∙◌, arith}
use Rattle.std.specs.Prelude.{◌==◌, if◌then◌else◌, option_to_list}
use Rattle.std.specs.List.{AllByRecursion}
use Rattle.std.proofs.lemmas.Bool.{ltb-true, ltb-false, eqb-true, eqb-false, eq-eqb, ne_eqb, le-ltb}
use Rattle.std.proofs.lemmas.Option.{same_Some}
use Rattle.script_reader.specs.Scripts.{Begun}
use Rattle.script_reader.specs.Sessions.{session_number, session_at, with_session, AreRising}

-- ---- what is found by a number ----

-- two tests that never both succeed can be asked in either order
either_first : {X : Type 0} (a b : Bool) (x y z : X) → (a ≡ true → b ≡ true → ⊥)
    → (if b then y else (if a then x else z)) ≡ (if a then x else (if b then y else z))
either_first true true x y z apart = absurd (apart refl refl)
either_first true false x y z apart = refl
either_first false true x y z apart = refl
either_first false false x y z apart = refl

-- the later of two sessions with one number is never found
first_hides : {X : Type 0} (a b : Bool) (x y z : X) → b ≡ a → (if a then x else z) ≡ (if a then x else (if b then y else z))
first_hides true b x y z e = refl
first_hides false true x y z e = cc
first_hides false false x y z e = refl

placed_at : (number : ℕ) (s t : Begun) (later : List Begun)
    → session_at number (with_session s later) ≡ (if session_number s == number then Some s else session_at number later)
    → (less same : Bool) → (same ≡ true → session_number s ≡ session_number t) → (same ≡ false → session_number s ≡ session_number t → ⊥)
    → session_at number (if less then s ∷ t ∷ later else (if same then s ∷ later else t ∷ with_session s later))
    ≡ (if session_number s == number then Some s else session_at number (t ∷ later))
placed_at number s t later ih true same equal differ = refl
placed_at number s t later ih false true equal differ =
    first_hides (session_number s == number) (session_number t == number) (Some s) (Some t) (session_at number later) (ap (λ (n : ℕ). n == number) (sym (equal refl)))
placed_at number s t later ih false false equal differ =
    ap (λ (found : Option Begun). if session_number t == number then Some t else found) ih
    ∙ either_first (session_number s == number) (session_number t == number) (Some s) (Some t) (session_at number later)
    (λ a b. differ refl (eqb-true _ _ a ∙ sym (eqb-true _ _ b)))

-- a session that is put among others is found by its number, and the others are by theirs
pub session_at-with : (number : ℕ) (s : Begun) (sessions : List Begun)
    → session_at number (with_session s sessions) ≡ (if session_number s == number then Some s else session_at number sessions)
session_at-with number s [] = refl
session_at-with number s (t ∷ later) =
    placed_at number s t later (session_at-with number s later) (nat_lt (session_number s) (session_number t)) (session_number s == session_number t)
    (eqb-true _ _) (eqb-false _ _)

pub session_at-own : (number : ℕ) (s : Begun) (sessions : List Begun) → session_number s ≡ number → session_at number (with_session s sessions) ≡ Some s
session_at-own number s sessions e =
    session_at-with number s sessions ∙ ap (λ (b : Bool). if b then Some s else session_at number sessions) (eq-eqb _ _ e)

pub session_at-other : (number : ℕ) (s : Begun) (sessions : List Begun) → (session_number s ≡ number → ⊥)
    → session_at number (with_session s sessions) ≡ session_at number sessions
session_at-other number s sessions differs =
    session_at-with number s sessions ∙ ap (λ (b : Bool). if b then Some s else session_at number sessions) (ne_eqb _ _ differs)

found_by : (b : Bool) (s r : Begun) (number : ℕ) (rest : Option Begun) → (b ≡ true → session_number s ≡ number) → (rest ≡ Some r → session_number r ≡ number)
    → (if b then Some s else rest) ≡ Some r → session_number r ≡ number
found_by true s r number rest equal later e = ap session_number (sym (same_Some s r e)) ∙ equal refl
found_by false s r number rest equal later e = later e

-- the session that is found has the number
pub found_number : (number : ℕ) (sessions : List Begun) (r : Begun) → session_at number sessions ≡ Some r → session_number r ≡ number
found_number number [] r e = absurd (cc)
found_number number (s ∷ later) r e = found_by (session_number s == number) s r number (session_at number later) (eqb-true _ _) (found_number number later r) e

-- ---- rising numbers ----

-- all of them have a number above this one
abbrev pub AreAbove : ℕ → List Begun → Type 0
AreAbove number sessions = AllByRecursion (λ t. number < session_number t) sessions

pub above_less : (a b : ℕ) (sessions : List Begun) → a ≤ b → AreAbove b sessions → AreAbove a sessions
above_less a b [] less h = tt
above_less a b (t ∷ later) less h = (let first = h.0 in omega (arith, less, first), above_less a b later less h.1)

above_by : (number : ℕ) (s t : Begun) (later : List Begun) → number < session_number s → number < session_number t → AreAbove number later → AreAbove number (with_session s later)
    → (less same : Bool) → AreAbove number (if less then s ∷ t ∷ later else (if same then s ∷ later else t ∷ with_session s later))
above_by number s t later own first rest ih true same = (own, (first, rest))
above_by number s t later own first rest ih false true = (own, rest)
above_by number s t later own first rest ih false false = (first, ih)

above_with : (number : ℕ) (s : Begun) (sessions : List Begun) → number < session_number s → AreAbove number sessions → AreAbove number (with_session s sessions)
above_with number s [] own h = (own, tt)
above_with number s (t ∷ later) own h =
    above_by number s t later own h.0 h.1 (above_with number s later own h.1) (nat_lt (session_number s) (session_number t)) (session_number s == session_number t)

rising_by : (s t : Begun) (later : List Begun) → AreAbove (session_number t) later → AreRising later → AreRising (with_session s later)
    → (less same : Bool) → (less ≡ true → session_number s < session_number t) → (less ≡ false → session_number t ≤ session_number s)
    → (same ≡ true → session_number s ≡ session_number t) → (same ≡ false → session_number s ≡ session_number t → ⊥)
    → AreRising (if less then s ∷ t ∷ later else (if same then s ∷ later else t ∷ with_session s later))
rising_by s t later above rest ih true same below far equal differ =
    let first = below refl in
    ((first, above_less (session_number s) (session_number t) later (omega (arith, first)) above), (above, rest))
rising_by s t later above rest ih false true below far equal differ =
    let e = equal refl in
    (above_less (session_number s) (session_number t) later (omega (arith, e)) above, rest)
rising_by s t later above rest ih false false below far equal differ =
    let least = far refl in
    let apart = differ refl in
    (above_with (session_number t) s later (omega (arith, least, apart)) above, ih)

pub rising_with : (s : Begun) (sessions : List Begun) → AreRising sessions → AreRising (with_session s sessions)
rising_with s [] h = (tt, tt)
rising_with s (t ∷ later) h =
    rising_by s t later h.0 h.1 (rising_with s later h.1) (nat_lt (session_number s) (session_number t)) (session_number s == session_number t)
    (ltb-true _ _) (ltb-false _ _) (eqb-true _ _) (eqb-false _ _)

-- none of a greater number has this one
pub none_above : (number : ℕ) (sessions : List Begun) → AreAbove number sessions → session_at number sessions ≡ None
none_above number [] h = refl
none_above number (t ∷ later) h =
    let first = h.0 in
    ap (λ (b : Bool). if b then Some t else session_at number later) (ne_eqb (session_number t) number (λ e. omega (arith, first, e)))
    ∙ none_above number later h.1

-- ---- how many there are ----

count_by : (s t : Begun) (later : List Begun) → length (with_session s later) ≤ suc (length later)
    → (less same : Bool) → length (if less then s ∷ t ∷ later else (if same then s ∷ later else t ∷ with_session s later)) ≤ suc (suc (length later))
count_by s t later ih true same = omega arith
count_by s t later ih false true = omega arith
count_by s t later ih false false = omega (arith, ih)

-- one more at most
pub one_more : (s : Begun) (sessions : List Begun) → length (with_session s sessions) ≤ suc (length sessions)
one_more s [] = omega arith
one_more s (t ∷ later) = count_by s t later (one_more s later) (nat_lt (session_number s) (session_number t)) (session_number s == session_number t)

same_by : (s t r : Begun) (later : List Begun) → AreAbove (session_number t) later → (session_at (session_number s) later ≡ Some r → length (with_session s later) ≡ length later)
    → (less same : Bool) → (less ≡ true → session_number s < session_number t) → (same ≡ false → session_number s ≡ session_number t → ⊥)
    → session_at (session_number s) (t ∷ later) ≡ Some r
    → length (if less then s ∷ t ∷ later else (if same then s ∷ later else t ∷ with_session s later)) ≡ suc (length later)
same_by s t r later above ih true same below differ found =
    let first = below refl in
    let none = none_above (session_number s) (t ∷ later) (first, above_less (session_number s) (session_number t) later (omega (arith, first)) above) in
    absurd (cc)
same_by s t r later above ih false true below differ found = refl
same_by s t r later above ih false false below differ found =
    let other : (session_number t == session_number s) ≡ false = ne_eqb _ _ (λ e. differ refl (sym e)) in
    ap suc (ih (sym (ap (λ (b : Bool). if b then Some t else session_at (session_number s) later) other) ∙ found))

-- none more where there was one of this number
pub as_many : (s r : Begun) (sessions : List Begun) → AreRising sessions → session_at (session_number s) sessions ≡ Some r → length (with_session s sessions) ≡ length sessions
as_many s r [] h found = absurd (cc)
as_many s r (t ∷ later) h found =
    same_by s t r later h.0 (as_many s r later h.1) (nat_lt (session_number s) (session_number t)) (session_number s == session_number t)
    (ltb-true _ _) (eqb-false _ _) found

-- ---- one session alone ----

-- it is found among itself
pub session_at-alone : (number : ℕ) (found : Option Begun) → ((r : Begun) → found ≡ Some r → session_number r ≡ number) → session_at number (option_to_list found) ≡ found
session_at-alone number None own = refl
session_at-alone number (Some r) own = ap (λ (b : Bool). if b then Some r else None) (eq-eqb _ _ (own r refl))

-- and what it is led to stands in its place
pub with_alone : (s : Begun) (found : Option Begun) → ((r : Begun) → found ≡ Some r → session_number r ≡ session_number s) → with_session s (option_to_list found) ≡ s ∷ []
with_alone s None own = refl
with_alone s (Some r) own =
    let same = own r refl in
    ap (λ (t : Bool × Bool). if t.0 then s ∷ r ∷ [] else (if t.1 then s ∷ [] else r ∷ s ∷ []))
    (λ i. (le-ltb (session_number s) (session_number r) (omega (arith, same)) i, eq-eqb (session_number s) (session_number r) (sym same) i))
