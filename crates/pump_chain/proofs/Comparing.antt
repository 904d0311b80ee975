-- What two lists have the same of.
use Rattle.std.proofs.Common.{◌≡◌, ◌⊎◌, inl, inr, ⊎_elim, ℕ, zero, suc, ◌+◌, ◌<◌, ◌≤◌, List, [], ◌∷◌, ◌++◌, length, get_or, refl, sym, ap, ◌∙◌, arith, length-append}
use Rattle.pump_frame.specs.declared.payload.Payload.{Payload}
use Rattle.pump_core.specs.Lawful.{IsPrefixOf}
use Rattle.pump_chain.specs.Comparing.{Agree, DifferAt}

split : (k n : ℕ) → k < n + 1 → (k < n) ⊎ (k ≡ n)
split zero zero h = inr refl
split zero (suc n) h = inl (omega arith)
split (suc k) zero h = absurd (omega (arith, h))
split (suc k) (suc n) h = ⊎_elim (λ (l : k < n). inl (omega (arith, l))) (λ (e : k ≡ n). inr (ap suc e)) (split k n (omega (arith, h)))

halves : (k n : ℕ) → (k < n) ⊎ (n ≤ k)
halves k zero = inr (omega arith)
halves zero (suc n) = inl (omega arith)
halves (suc k) (suc n) = ⊎_elim (λ (l : k < n). inl (omega (arith, l))) (λ (l : n ≤ k). inr (omega (arith, l))) (halves k n)

-- one message more
pub agree_more : (from n : ℕ) (xs ys : List Payload) → Agree from n xs ys → get_or xs n [] ≡ get_or ys n [] → Agree from (n + 1) xs ys
agree_more from n xs ys agree same k least small = ⊎_elim
    (λ (l : k < n). agree k least l)
    (λ (e : k ≡ n). ap (λ (x : ℕ). get_or xs x []) e ∙ same ∙ ap (λ (x : ℕ). get_or ys x []) (sym e))
    (split k n small)

agree_prefix : (xs ys : List Payload) → length xs ≤ length ys → ((k : ℕ) → k < length xs → get_or xs k [] ≡ get_or ys k []) → IsPrefixOf xs ys
agree_prefix [] ys few same = (ys, refl)
agree_prefix (x ∷ xs) [] few same = absurd (omega (arith, few))
agree_prefix (x ∷ xs) (y ∷ ys) few same =
    let (more, e) = agree_prefix xs ys (omega (arith, few)) (λ k h. same (suc k) (omega (arith, h))) in
    (more, λ i. same zero (omega arith) i ∷ e i)

in_prefix : (xs more : List Payload) (k : ℕ) → k < length xs → get_or (xs ++ more) k [] ≡ get_or xs k []
in_prefix [] more k h = absurd (omega (arith, h))
in_prefix (x ∷ xs) more zero h = refl
in_prefix (x ∷ xs) more (suc k) h = in_prefix xs more k (omega (arith, h))

-- a list of which the prefix and all behind what is removed are as in another is a prefix of that one
pub both_prefix : (taken accepted ys : List Payload) (removed : ℕ) → IsPrefixOf taken accepted → removed ≤ length taken → length accepted ≤ length ys → Agree 0 (length taken) taken ys → Agree removed (length accepted) accepted ys → IsPrefixOf accepted ys
both_prefix taken accepted ys removed (more, e) behind few prefix live = agree_prefix accepted ys few (λ k small. ⊎_elim
    (λ (l : k < length taken). ap (λ (zs : List Payload). get_or zs k []) (sym e) ∙ in_prefix taken more k l ∙ prefix k (omega arith) l)
    (λ (l : length taken ≤ k). live k (omega (arith, behind, l)) small)
    (halves k (length taken)))

-- what stands in a prefix stands in the list
pub prefix_at : (xs ys : List Payload) (n : ℕ) → IsPrefixOf xs ys → n < length xs → (n < length ys) × (get_or ys n [] ≡ get_or xs n [])
prefix_at xs ys n (more, e) small = ((let l = length-append xs more in let f = ap length e in omega (arith, l, f, small)), ap (λ (zs : List Payload). get_or zs n []) (sym e) ∙ in_prefix xs more n small)

pub prefix_short : (xs ys : List Payload) → IsPrefixOf xs ys → length xs ≤ length ys
prefix_short xs ys (more, e) = (let l = length-append xs more in let f = ap length e in omega (arith, l, f))

-- so many messages of a prefix are those of the list
pub agree_longer : (taken accepted ys : List Payload) (n : ℕ) → IsPrefixOf taken accepted → n ≤ length taken → Agree 0 n taken ys → Agree 0 n accepted ys
agree_longer taken accepted ys n (more, e) few agree k least small =
    ap (λ (zs : List Payload). get_or zs k []) (sym e) ∙ in_prefix taken more k (omega (arith, few, small)) ∙ agree k least small

-- the first one that differs from a number on, where those before it are alike, is the first of all
pub differ_first : (from number : ℕ) (accepted received : List Payload) → Agree 0 from accepted received → DifferAt from number accepted received → DifferAt 0 number accepted received
differ_first from number accepted received agree d = record {
  least = omega arith;
  within = d.within;
  before = λ k least small. ⊎_elim (λ (l : k < from). agree k least l) (λ (l : from ≤ k). d.before k l small) (halves k from);
  unlike = d.unlike;
}

-- one that differs in a prefix differs in the list
pub differ_longer : (number : ℕ) (taken accepted ys : List Payload) → IsPrefixOf taken accepted → DifferAt 0 number taken ys → DifferAt 0 number accepted ys
differ_longer number taken accepted ys prefix d =
    let at = prefix_at taken accepted number prefix d.within in
    record {
      least = d.least;
      within = at.0;
      before = agree_longer taken accepted ys number prefix (let w = d.within in omega (arith, w)) d.before;
      unlike = λ same. d.unlike (sym at.1 ∙ same);
    }

-- a prefix has none that differs
pub prefix_alike : (accepted received : List Payload) (number : ℕ) → IsPrefixOf accepted received → DifferAt 0 number accepted received → ⊥
prefix_alike accepted received number prefix d = d.unlike (sym (prefix_at accepted received number prefix d.within).1)
