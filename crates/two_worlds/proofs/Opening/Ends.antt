-- The ends of the passage of parts that work: they may have done just what is still seen
-- of it.
use Rattle.std.proofs.Common.{◌≡◌, ℕ, ◌+◌, ◌-◌, ◌≤◌, Bool, true, false, List, [], ◌∷◌, ◌++◌, length, drop, replicate, refl, sym, ap, ◌∙◌, subst, arith}
use Rattle.std.specs.Prelude.{◌==◌, ◌&&◌}
use Rattle.std.specs.List.{All}
use Rattle.std.proofs.Math.Logic.{∥∥₁_elim}
use Rattle.std.proofs.Math.Seq.{drop-append_seam}
use Rattle.std.proofs.Props.{props}
use Rattle.std.specs.Coded.{le_prop}
use Rattle.std.proofs.lemmas.Bool.{and_parts, eqb-true, eq-eqb}
use Rattle.std.proofs.lemmas.List.{length-append, length-drop, length-replicate}
use Rattle.std.proofs.lemmas.List.Elements.{All-nil, All-replicate}
use Rattle.disk_model.specs.Disk.{Meaning}
use Rattle.pump_frame.specs.Averages.{latest}
use Rattle.pump_frame.specs.declared.frame.Item.{Item}
use Rattle.pump_core.specs.Passage.{Low, High, Numbered, ComesNext, IsAverage}
use Rattle.passage.specs.Plain.{held_in, shape_of, above, StandsFor as EndsStand}
use Rattle.low_process.specs.declared.values.Asking.{Asking}
use Rattle.low_process.specs.declared.values.Asking.TheVariants.{Nothing, Forward, Average}
use Rattle.low_process.specs.Looks.{IsBetweenLooks, is_down, last_of, next_of, hand_of}
use Rattle.low_process.specs.Ends.{number_offered, FitsEnd as LowFits}
use Rattle.high_process.specs.Ends.{FitsEnd as HighFits}
use Rattle.two_worlds.specs.declared.pump.parts.Parts.{Parts}
use Rattle.two_worlds.specs.Working.{IsAble}

-- ---- numbers that rise ----

abbrev are_numbered : ℕ → List Item → Bool
are_numbered first [] = true
are_numbered first (x ∷ xs) = x.number == first && are_numbered (first + 1) xs

numbered_tests : (first : ℕ) (xs : List Item) → Numbered first xs → are_numbered first xs ≡ true
numbered_tests first [] h = refl
numbered_tests first (x ∷ xs) h = rw (eq-eqb x.number first h.0, numbered_tests (first + 1) xs h.1) refl

tests_numbered : (first : ℕ) (xs : List Item) → are_numbered first xs ≡ true → Numbered first xs
tests_numbered first [] e = tt
tests_numbered first (x ∷ xs) e =
    let both = and_parts (x.number == first) (are_numbered (first + 1) xs) e in
    (eqb-true x.number first both.0, tests_numbered (first + 1) xs both.1)

abbrev first_number : List Item → ℕ
first_number [] = 0
first_number (x ∷ xs) = x.number

from_first : (n : ℕ) (xs : List Item) → Numbered n xs → Numbered (first_number xs) xs
from_first n [] h = tt
from_first n (x ∷ xs) h = subst (λ (k : ℕ). Numbered k (x ∷ xs)) (sym h.0) h

rest_numbered : (n : ℕ) (taken rest : List Item) → Numbered n (taken ++ rest) → Numbered (first_number rest) rest
rest_numbered n [] rest h = from_first n rest h
rest_numbered n (x ∷ taken) rest h = rest_numbered (n + 1) taken rest h.1

-- ---- the number that comes next ----

abbrev may_come : List Item → ℕ → Bool
may_come [] n = true
may_come (x ∷ []) n = n == x.number + 1
may_come (x ∷ y ∷ ys) n = may_come (y ∷ ys) n

next_tests : (xs : List Item) (n : ℕ) → ComesNext xs n → may_come xs n ≡ true
next_tests [] n h = refl
next_tests (x ∷ []) n h = eq-eqb n (x.number + 1) h
next_tests (x ∷ y ∷ ys) n h = next_tests (y ∷ ys) n h

tests_next : (xs : List Item) (n : ℕ) → may_come xs n ≡ true → ComesNext xs n
tests_next [] n e = tt
tests_next (x ∷ []) n e = eqb-true n (x.number + 1) e
tests_next (x ∷ y ∷ ys) n e = tests_next (y ∷ ys) n e

rest_next : (taken rest : List Item) (n : ℕ) → ComesNext (taken ++ rest) n → ComesNext rest n
rest_next [] rest n h = h
rest_next (x ∷ taken) [] n h = tt
rest_next (x ∷ []) (y ∷ rest) n h = h
rest_next (x ∷ z ∷ taken) (y ∷ rest) n h = rest_next (z ∷ taken) (y ∷ rest) n h

-- ---- times ----

-- a window counts these times, and holds the last of them
abbrev Counts : ℕ → ℕ → List ℕ → List ℕ → Type 0
Counts count most last times = (count ≡ length times) × (last ≡ latest most times)

-- so many times, of which these are the last
abbrev pub padded : ℕ → List ℕ → List ℕ
padded count last = replicate (count - length last) 0 ++ last

counts_padded : (count most : ℕ) (last times : List ℕ) → Counts count most last times → Counts count most last (padded count last)
counts_padded count most last times h =
    let n = length times in
    let k = n - most in
    let zeros : List ℕ = replicate (count - length last) 0 in
    let held : length last ≡ n - k = ap length h.1 ∙ length-drop k times in
    let pad : length zeros ≡ k = length-replicate (count - length last) 0 ∙ omega (arith, h.0, held) in
    let all : length (padded count last) ≡ n = length-append zeros last ∙ omega (arith, pad, held) in
    let skipped : length (padded count last) - most ≡ length zeros = omega (arith, all, pad) in
    (h.0 ∙ sym all, sym (ap (λ (j : ℕ). drop j (padded count last)) skipped ∙ drop-append_seam zeros last))

-- ---- the open question ----

abbrev asks_nothing : Asking → Bool
asks_nothing Nothing = true
asks_nothing _ = false

nothing_is : (k : Asking) → asks_nothing k ≡ true → k ≡ Nothing
nothing_is Nothing e = refl
nothing_is Forward e = absurd (cc)
nothing_is (Average n) e = absurd (cc)

-- ---- the ends ----

-- nothing was taken up when these were published
all_none : (n : ℕ) → All (λ (k : ℕ). k ≤ 0) (replicate n 0)
all_none n = All-replicate (λ (k : ℕ). k ≤ 0) n 0 (omega arith)

module _ {D : Type 0} (m : Meaning D) (c : Parts D) (able : IsAble m c) where
  abbrev pub low_seen : Low
  low_seen = record { forwarded = held_in c.ends; tries = []; pairs = [] }

  abbrev pub high_seen : High
  high_seen =
      let times = padded c.ends.window.count c.ends.window.ring.items in
      record { taken = []; floor = above c.ends.last_removed; times = times; taken_before = replicate (length times) 0; tries = [] }

  times_seen : Counts c.ends.window.count c.ends.window.ring.capacity c.ends.window.ring.items (padded c.ends.window.count c.ends.window.ring.items)
  times_seen = ∥∥₁_elim able.works (hlevel props) (λ s. counts_padded c.ends.window.count c.ends.window.ring.capacity c.ends.window.ring.items s.ends.high.times s.ends.stand.times)

  numbers_seen : Numbered (first_number (held_in c.ends)) (held_in c.ends)
  numbers_seen = tests_numbered (first_number (held_in c.ends)) (held_in c.ends) (∥∥₁_elim able.works (hlevel props) (λ s.
      let e = s.ends in
      let rises = e.stand.lawful.agrees.rises in
      numbered_tests (first_number (held_in c.ends)) (held_in c.ends)
      (rest_numbered rises.0 e.high.taken (held_in c.ends) (subst (Numbered rises.0) e.stand.between rises.1))))

  pub ends_seen : EndsStand c.ends low_seen high_seen
  ends_seen = record {
    lawful = record {
      agrees = record {
        held = (held_in c.ends, refl);
        rises = (first_number (held_in c.ends), numbers_seen);
        averages = All-nil (IsAverage (shape_of c.ends) (padded c.ends.window.count c.ends.window.ring.items));
        never_fall = tt;
        low_tries = All-nil (λ t. t.1 ≤ 0);
        high_tries = All-nil (λ t. t.0 ≤ length (held_in c.ends));
        each_time = length-replicate (length (padded c.ends.window.count c.ends.window.ring.items)) 0;
        before = all_none (length (padded c.ends.window.count c.ends.window.ring.items));
      };
      room = let le = c.ends.fits in omega (arith, le);
    };
    between = refl;
    floor = refl;
    times = times_seen;
  }

  pub low_fits_seen : LowFits c.low low_seen
  low_fits_seen up =
      let n = number_offered (next_of c.low) (hand_of c.low) in
      tests_next (held_in c.ends) n (∥∥₁_elim able.works (hlevel props) (λ s.
      let e = s.ends in
      next_tests (held_in c.ends) n (rest_next e.high.taken (held_in c.ends) n (subst (λ l. ComesNext l n) e.stand.between (e.low_fits up)))))

  pub high_fits_seen : HighFits c.high high_seen
  high_fits_seen = record {
    count = sym times_seen.0 ∙ ∥∥₁_elim able.works (hlevel props) (λ s. s.ends.stand.times.0 ∙ s.ends.high_fits.count);
    floor = ∥∥₁_elim able.works le_prop (λ s. let fits = s.ends.high_fits.floor in omega (arith, fits, s.ends.stand.floor));
  }

  -- ---- the low process ----

  pub low_between : IsBetweenLooks c.low
  low_between = nothing_is c.low.asking (∥∥₁_elim able.works (hlevel props) (λ s. ap asks_nothing s.low_ready.between))

  pub low_order : (moment : ℕ) → c.moment ≤ moment → last_of c.low ≤ moment
  low_order moment le = ∥∥₁_elim able.works le_prop (λ s. let last = s.low_ready.last in omega (arith, last, le))

  pub low_is_up : is_down c.low ≡ false
  low_is_up = ∥∥₁_elim able.works (hlevel props) (λ s. s.low_ready.up)
