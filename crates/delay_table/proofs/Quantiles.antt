-- The table's entries are the quantiles, and what follows for sums of delays.
use Rattle.std.proofs.Common.{◌≡◌, ℕ, ◌+◌, ◌-◌, ◌*◌, ◌/◌, ◌^◌, ◌<◌, ◌≤◌, List, [], ◌∷◌, length, map, sum, min, slice_index, arith, refl, ap, ◌∙◌}
use Rattle.std.specs.List.{All, range_with_len, sum_by}
use Rattle.std.proofs.Math.Nat.{min-eq_right, le-div_iff_mul-le}
use Rattle.std.proofs.lemmas.List.Elements.{All-head, All-tail}
use Rattle.std.proofs.lemmas.List.FromFn.{get_or-map-range_with_len, sum_by-map-range_with_len_more}
use Rattle.std.proofs.lemmas.List.Sums.{sum-map, sum_by-cons}
use Rattle.pump_frame.specs.Delays.{quantile, class_of, delay_of}
use Rattle.delay_table.specs.Delays.{IsOfEachClass, AreUncut}
use Rattle.delay_table.specs.declared.table.TheConstants.{TABLE}

-- a test that computes over the whole table
table_is : TABLE ≡ map quantile (range_with_len 0 256)
table_is = refl

pub entry : (i : ℕ) → i < 256 → slice_index TABLE i ≡ quantile i
entry i low = ap (λ table. slice_index table i) table_is ∙ get_or-map-range_with_len quantile 0 256 i i 0 low (omega arith)

-- each term of a quantile is at least one
step : (i : ℕ) → i + 1 < 256 → quantile i < quantile (i + 1)
step i low =
    let e : quantile (i + 1) ≡ quantile i + 2 ^ 24 / (256 - (i + 1)) = sum_by-map-range_with_len_more (λ n. n) (λ j. 2 ^ 24 / (256 - j)) 0 (i + 1) (i + 1) (omega arith) in
    let some : 0 < 2 ^ 24 / (256 - (i + 1)) = (le-div_iff_mul-le {k = 256 - (i + 1)} {x = 1} {y = 2 ^ 24} (omega arith)).1 (omega arith) in
    omega arith

pub rises : (i : ℕ) → i + 1 < 256 → slice_index TABLE i < slice_index TABLE (i + 1)
rises i low = rw (entry i (omega arith), entry (i + 1) low) (step i low)

-- a sum of quotients is at most the quotient of the sum, and less by less than one for each
most_of : (a : ℕ) (q : ℕ → ℕ) (cs : List ℕ) → 2 ^ 24 * sum_by (λ c. a * q c / 2 ^ 24) cs ≤ a * sum_by q cs
most_of a q [] = omega arith
most_of a q (c ∷ cs) =
    let h = most_of a q cs in
    rw (sum_by-cons (λ c. a * q c / 2 ^ 24) c cs, sum_by-cons q c cs) (omega arith)

least_of : (a : ℕ) (q : ℕ → ℕ) (cs : List ℕ) → a * sum_by q cs ≤ 2 ^ 24 * (sum_by (λ c. a * q c / 2 ^ 24) cs + length cs)
least_of a q [] = omega arith
least_of a q (c ∷ cs) =
    let h = least_of a q cs in
    rw (sum_by-cons (λ c. a * q c / 2 ^ 24) c cs, sum_by-cons q c cs) (omega arith)

most_at : (a : ℕ) (q : ℕ → ℕ) (cs : List ℕ) → sum_by q cs ≡ 4294954032 → sum_by (λ c. a * q c / 2 ^ 24) cs ≤ 256 * a
most_at a q cs e = let h : 2 ^ 24 * sum_by (λ c. a * q c / 2 ^ 24) cs ≤ a * 4294954032 = rw e at (most_of a q cs) in omega arith

least_at : (a : ℕ) (q : ℕ → ℕ) (cs : List ℕ) → sum_by q cs ≡ 4294954032 → length cs ≡ 256 → 512 * 256 * a ≤ 512 * sum_by (λ c. a * q c / 2 ^ 24) cs + a + 512 * 256
least_at a q cs e n = let h : a * 4294954032 ≤ 2 ^ 24 * (sum_by (λ c. a * q c / 2 ^ 24) cs + 256) = rw (e, n) at (least_of a q cs) in omega arith

-- delays that are not cut, by their classes
uncut : (g : ℕ → ℕ) (longest : ℕ) (words : List ℕ) → All (λ word. g (class_of word) ≤ longest) words → sum_by (λ word. min longest (g (class_of word))) words ≡ sum_by g (map class_of words)
uncut g longest [] h = refl
uncut g longest (w ∷ ws) h =
    let m : min longest (g (class_of w)) ≡ g (class_of w) = min-eq_right (All-head (λ word. g (class_of word) ≤ longest) w ws h) in
    rw (sum_by-cons (λ word. min longest (g (class_of word))) w ws, sum_by-cons g (class_of w) (map class_of ws), m) (ap (λ n. g (class_of w) + n) (uncut g longest ws (All-tail (λ word. g (class_of word) ≤ longest) w ws h)))

by_class : (average longest : ℕ) (words : List ℕ) → IsOfEachClass words → AreUncut average longest words → sum (map (λ word. delay_of average word longest) words) ≡ sum_by (λ class. average * quantile class / 2 ^ 24) (range_with_len 0 256)
by_class average longest words each high =
    sum-map (λ word. delay_of average word longest) words ∙ uncut (λ class. average * quantile class / 2 ^ 24) longest words high ∙ ap (sum_by (λ class. average * quantile class / 2 ^ 24)) each

total : sum_by quantile (range_with_len 0 256) ≡ 4294954032
total = refl

pub delays_most : (average longest : ℕ) (words : List ℕ) → IsOfEachClass words → AreUncut average longest words → sum (map (λ word. delay_of average word longest) words) ≤ 256 * average
delays_most average longest words each high =
    rw (by_class average longest words each high) (most_at average quantile (range_with_len 0 256) total)

pub delays_least : (average longest : ℕ) (words : List ℕ) → IsOfEachClass words → AreUncut average longest words → 512 * 256 * average ≤ 512 * sum (map (λ word. delay_of average word longest) words) + average + 512 * 256
delays_least average longest words each high =
    rw (by_class average longest words each high) (least_at average quantile (range_with_len 0 256) total refl)
