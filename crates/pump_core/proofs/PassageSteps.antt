-- Each step of an end keeps the law of the passage.
use Rattle.std.proofs.Common.{◌^◌, ◌≡◌, ℕ, ◌+◌, ◌≤◌, ◌<◌, suc, List, [], ◌∷◌, ◌++◌, length, sym, refl, ap, ◌∙◌, append_assoc, le_refl, le_trans, arith}
use Rattle.std.specs.List.{All}
use Rattle.std.proofs.lemmas.List.{length-append, take-append-le, take_all}
use Rattle.std.proofs.lemmas.List.Elements.{All-append, All-cons, All-nil}
use Rattle.pump_frame.specs.Averages.{average_of}
use Rattle.pump_core.specs.Passage.{Shape, Low, High, Numbered, Rises, ComesNext, NeverFall, IsAverage, Agrees, forwards, tried, read_pair, takes, sought, publishes}
use Rattle.pump_frame.specs.declared.frame.Item.{Item}

module _ {X : Type 0} where
  pub all_snoc : (P : X → Type 0) (xs : List X) (x : X) → All P xs → P x → All P (xs ++ x ∷ [])
  all_snoc P xs x h p = All-append P xs (x ∷ []) h (All-cons P x [] p (All-nil P))

  pub all_weaken : (P Q : X → Type 0) (xs : List X) → ((x : X) → P x → Q x) → All P xs → All Q xs
  all_weaken P Q xs f h = λ k d lt. f _ (h k d lt)

  pub all_head : (P : X → Type 0) (x : X) (xs : List X) → All P (x ∷ xs) → P x
  all_head P x xs h = h 0 x (omega arith)

  pub all_tail : (P : X → Type 0) (x : X) (xs : List X) → All P (x ∷ xs) → All P xs
  all_tail P x xs h = λ k d lt. h (suc k) d (omega arith)

  pub longer : (xs : List X) (x : X) → length xs ≤ length (xs ++ x ∷ [])
  longer xs x = omega (arith, length-append xs (x ∷ []))

pub numbered_snoc : (first : ℕ) (xs : List Item) (x : Item) → Numbered first xs → x.number ≡ first + length xs → Numbered first (xs ++ x ∷ [])
numbered_snoc first [] x h e = (omega (arith, e), tt)
numbered_snoc first (y ∷ ys) x h e = (h.0, numbered_snoc (first + 1) ys x h.1 (omega (arith, e)))

pub follows_at : (first n : ℕ) (y : Item) (ys : List Item) → Numbered first (y ∷ ys) → ComesNext (y ∷ ys) n → n ≡ first + length (y ∷ ys)
follows_at first n y [] h f = omega (arith, h.0, f)
follows_at first n y (z ∷ zs) h f = let t = follows_at (first + 1) n z zs h.1 f in omega (arith, t)

pub rises_snoc : (xs : List Item) (x : Item) → Rises xs → ComesNext xs x.number → Rises (xs ++ x ∷ [])
rises_snoc [] x h f = (x.number, (refl, tt))
rises_snoc (y ∷ ys) x h f = (h.0, numbered_snoc h.0 (y ∷ ys) x h.1 (follows_at h.0 x.number y ys h.1 f))

-- behind an item the next number may come
pub comes_after : (xs : List Item) (x : Item) (n : ℕ) → x.number ≡ n → ComesNext (xs ++ x ∷ []) (n + 1)
comes_after [] x n e = omega (arith, e)
comes_after (y ∷ []) x n e = omega (arith, e)
comes_after (y ∷ z ∷ zs) x n e = comes_after (z ∷ zs) x n e

-- the numbers go on from one more item
pub goes_on : (n : ℕ) (xs : List Item) (x : Item) → Numbered n xs → n + length xs ≤ 2 ^ 48 → ComesNext xs x.number → x.number < 2 ^ 48
    → (m : ℕ) × Numbered m (xs ++ x ∷ []) × (m + length (xs ++ x ∷ []) ≤ 2 ^ 48)
goes_on n [] x h le f lt = (x.number, (refl, tt), omega (arith, lt))
goes_on n (y ∷ ys) x h le f lt = let is = follows_at n x.number y ys h f in (n, numbered_snoc n (y ∷ ys) x h is, omega (arith, is, lt, length-append (y ∷ ys) (x ∷ [])))

pub never_fall_snoc : (ps : List (ℕ × ℕ)) (p : ℕ × ℕ) → NeverFall ps → All (λ q. q.0 ≤ p.0) ps → NeverFall (ps ++ p ∷ [])
never_fall_snoc [] p h le = (All-nil (λ q. p.0 ≤ q.0), tt)
never_fall_snoc (q ∷ qs) p h le = (all_snoc (λ r. q.0 ≤ r.0) qs p h.0 (all_head (λ r. r.0 ≤ p.0) q qs le), never_fall_snoc qs p h.1 (all_tail (λ r. r.0 ≤ p.0) q qs le))

-- a pair stays an average of a beginning where times are added
pub average_stays : (s : Shape) (times : List ℕ) (t : ℕ) (p : ℕ × ℕ) → IsAverage s times p → IsAverage s (times ++ t ∷ []) p
average_stays s times t p h = (le_trans h.0 (longer times t), h.1 ∙ ap (average_of s.averaging) (sym (take-append-le p.0 times (t ∷ []) h.0)))

-- what is published is the average of all times
pub average_now : (s : Shape) (times : List ℕ) (k a : ℕ) → k ≡ length times → a ≡ average_of s.averaging times → IsAverage s times (k, a)
average_now s times k a e h = (omega (arith, e), h ∙ ap (average_of s.averaging) (sym (take_all k times (omega (arith, e)))))

module _ (s : Shape) (l : Low) (h : High) (a : Agrees s l h) where
  pub forwards_agrees : (x : Item) → ComesNext l.forwarded x.number → Agrees s (forwards l x) h
  forwards_agrees x f = record {
    held = (a.held.0 ++ x ∷ [], ap (λ z. z ++ x ∷ []) a.held.1 ∙ append_assoc h.taken a.held.0 (x ∷ []));
    rises = rises_snoc l.forwarded x a.rises f;
    averages = a.averages;
    never_fall = a.never_fall;
    low_tries = a.low_tries;
    high_tries = all_weaken (λ t. t.0 ≤ length l.forwarded) (λ t. t.0 ≤ length (l.forwarded ++ x ∷ [])) h.tries (λ t le. le_trans le (longer l.forwarded x)) a.high_tries;
    each_time = a.each_time;
    before = a.before;
  }

  pub tried_agrees : (taken : ℕ) → taken ≤ length h.taken → Agrees s (tried l taken) h
  tried_agrees taken le = record {
    held = a.held;
    rises = a.rises;
    averages = a.averages;
    never_fall = a.never_fall;
    low_tries = all_snoc (λ t. t.1 ≤ length h.taken) l.tries (length l.forwarded, taken) a.low_tries le;
    high_tries = a.high_tries;
    each_time = a.each_time;
    before = a.before;
  }

  pub reads_agrees : (k v : ℕ) → IsAverage s h.times (k, v) → All (λ p. p.0 ≤ k) l.pairs → Agrees s (read_pair l k v) h
  reads_agrees k v is up = record {
    held = a.held;
    rises = a.rises;
    averages = all_snoc (IsAverage s h.times) l.pairs (k, v) a.averages is;
    never_fall = never_fall_snoc l.pairs (k, v) a.never_fall up;
    low_tries = a.low_tries;
    high_tries = a.high_tries;
    each_time = a.each_time;
    before = a.before;
  }

  pub takes_agrees : (x : Item) (removed : ℕ) (rest : List Item) → l.forwarded ≡ (h.taken ++ x ∷ []) ++ rest → Agrees s l (takes h x removed)
  takes_agrees x removed rest e = record {
    held = (rest, e);
    rises = a.rises;
    averages = a.averages;
    never_fall = a.never_fall;
    low_tries = all_weaken (λ t. t.1 ≤ length h.taken) (λ t. t.1 ≤ length (h.taken ++ x ∷ [])) l.tries (λ t le. le_trans le (longer h.taken x)) a.low_tries;
    high_tries = a.high_tries;
    each_time = a.each_time;
    before = all_weaken (λ n. n ≤ length h.taken) (λ n. n ≤ length (h.taken ++ x ∷ [])) h.taken_before (λ n le. le_trans le (longer h.taken x)) a.before;
  }

  pub sought_agrees : (n : ℕ) → n ≤ length l.forwarded → Agrees s l (sought h n)
  sought_agrees n le = record {
    held = a.held;
    rises = a.rises;
    averages = a.averages;
    never_fall = a.never_fall;
    low_tries = a.low_tries;
    high_tries = all_snoc (λ t. t.0 ≤ length l.forwarded) h.tries (n, length h.taken) a.high_tries le;
    each_time = a.each_time;
    before = a.before;
  }

  pub publishes_agrees : (t : ℕ) → Agrees s l (publishes h t)
  publishes_agrees t = record {
    held = a.held;
    rises = a.rises;
    averages = all_weaken (IsAverage s h.times) (IsAverage s (h.times ++ t ∷ [])) l.pairs (average_stays s h.times t) a.averages;
    never_fall = a.never_fall;
    low_tries = a.low_tries;
    high_tries = a.high_tries;
    each_time = omega (arith, a.each_time, length-append h.taken_before (length h.taken ∷ []), length-append h.times (t ∷ []));
    before = all_snoc (λ n. n ≤ length h.taken) h.taken_before (length h.taken) a.before (le_refl _);
  }
