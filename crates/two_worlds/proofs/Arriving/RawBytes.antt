-- What raw bytes bring, read one after the other.
use Rattle.std.proofs.Common.{◌≡◌, ℕ, zero, suc, ◌+◌, ◌≤◌, ◌<◌, true, false, List, [], ◌∷◌, ◌++◌, length, take, refl, sym, ap, ◌∙◌, subst, arith, append_assoc, append-nil, length-append}
use Rattle.std.proofs.lemmas.List.{map-append, length-map, take_more, take-append-le}
use Rattle.std.specs.Prelude.{get_or}
use Rattle.pump_frame.specs.declared.frame.Frame.{Frame}
use Rattle.pump_frame.specs.declared.reader.Fed.{Fed}
use Rattle.pump_frame.specs.declared.reader.Fed.TheVariants.{More, Whole, Bad as FedBad}
use Rattle.pump_frame.specs.Readings.{Reading, Within, Stopped, HasBegun, is_stopped}
use Rattle.pump_frame.specs.Streams.{Feeds, frames_of, Reads}
use Rattle.pump_frame.proofs.Streams.{reads_both, reads_stream}
use Rattle.pump_core.specs.History.{Arrival}
use Rattle.pump_core.specs.History.{Came, Bad}
use Rattle.script_reader.specs.Steps.{coming, bad_of, came, IsRead}
use Rattle.two_worlds.specs.declared.connection.Waiting.{Waiting}
use Rattle.two_worlds.specs.Private.Arrivals.{arrival_of, arrivals_of, newly_bad, IsFed, Gathers}

stopped_reads : (at : ℕ) (bytes : List ℕ) (fs : List Frame) (s : Reading) → Reads (Stopped at) bytes fs s → (fs ≡ []) × (s ≡ Stopped at)
stopped_reads at [] fs s h = h
stopped_reads at (b ∷ bytes) fs s (fed, mid, later, f, r, e) =
    let k = stopped_reads at bytes later s (subst (λ (x : Reading). Reads x bytes later s) f.1 r) in
    (e ∙ ap (λ (t : Fed). frames_of t ++ later) f.0 ∙ k.0, k.1)

came_both : (fs gs : List Frame) → came (fs ++ gs) ≡ came fs ++ came gs
came_both fs gs = map-append (λ (f : Frame). Came f) fs gs

added_then : (r m s : Reading) (xs ys : List ℕ) (fs gs : List Frame) → Reads r xs fs m → Reads m ys gs s → (came fs ++ newly_bad r m) ++ (came gs ++ newly_bad m s) ≡ came (fs ++ gs) ++ newly_bad r s
added_then (Within h) (Within i) s xs ys fs gs p q =
    ap (λ l. l ++ (came gs ++ bad_of s)) (append-nil (came fs)) ∙ sym (append_assoc (came fs) (came gs) (bad_of s)) ∙ ap (λ l. l ++ bad_of s) (sym (came_both fs gs))
added_then (Within h) (Stopped at) s xs ys fs gs p q =
    let k = stopped_reads at ys gs s q in
    subst (λ (t : List Frame × Reading). (came fs ++ Bad ∷ []) ++ (came t.0 ++ []) ≡ came (fs ++ t.0) ++ bad_of t.1) (λ i. (sym k.0 i, sym k.1 i))
    (append-nil (came fs ++ Bad ∷ []) ∙ ap (λ (l : List Frame). came l ++ Bad ∷ []) (sym (append-nil fs)))
added_then (Stopped at) m s xs ys fs gs p q =
    let k = stopped_reads at xs fs m p in
    let j = stopped_reads at ys gs s (subst (λ (x : Reading). Reads x ys gs s) k.1 q) in
    subst (λ (t : List Frame × List Frame × Reading). (came t.0 ++ []) ++ (came t.1 ++ newly_bad t.2 s) ≡ came (t.0 ++ t.1) ++ []) (λ i. (sym k.0 i, sym j.0 i, sym k.1 i)) refl

pub fed_nothing : (r : Reading) → IsFed r [] (coming [] r)
fed_nothing (Within held) = ([], (refl, refl), refl)
fed_nothing (Stopped at) = ([], (refl, refl), refl)

pub fed_then : (r m s : Reading) (xs ys : List ℕ) (a b : List Arrival) → IsFed r xs (coming a m) → IsFed m ys (coming b s) → IsFed r (xs ++ ys) (coming (a ++ b) s)
fed_then r m s xs ys a b (fs, h, e) (gs, k, f) =
    (fs ++ gs, reads_both xs ys r m s fs gs h k, (λ i. e i ++ f i) ∙ added_then r m s xs ys fs gs h k)

pub fed_is_read : (r : Reading) (bytes : List ℕ) (a : List Arrival) (s : Reading) → HasBegun r → IsFed r bytes (coming a s) → IsRead r bytes (coming a s)
fed_is_read (Within held) bytes a s begun (fs, h, e) = (fs, reads_stream bytes held fs s begun h, e)
fed_is_read (Stopped at) bytes a s begun (fs, h, e) =
    let k = stopped_reads at bytes fs s h in
    let none : a ≡ [] = e ∙ ap (λ (l : List Frame). came l ++ []) k.0 in
    λ i. record { added = none i; reading = k.1 i }

-- one byte
one_fed : (r : Reading) (byte : ℕ) (fed : Fed) (s : Reading) → Feeds r byte fed s → Reads r (byte ∷ []) (frames_of fed ++ []) s
one_fed r byte fed s h = (fed, s, [], h, (refl, refl), refl)

pub feeds_more : (r : Reading) (byte : ℕ) (s : Reading) (fed : Fed) → fed ≡ More → Feeds r byte fed s → IsFed r (byte ∷ []) (coming [] s)
feeds_more (Within held) byte s fed is h =
    let k = subst (λ (t : Fed). Feeds (Within held) byte t s) is h in
    ([], one_fed (Within held) byte More s k, ap bad_of (sym k.1))
feeds_more (Stopped at) byte s fed is h = (let e = h.0 in absurd (cc))

pub feeds_whole : (r : Reading) (byte : ℕ) (s : Reading) (fed : Fed) (f : Frame) → fed ≡ Whole f → Feeds r byte fed s → IsFed r (byte ∷ []) (coming (Came f ∷ []) s)
feeds_whole (Within held) byte s fed f is h =
    let k = subst (λ (t : Fed). Feeds (Within held) byte t s) is h in
    (f ∷ [], one_fed (Within held) byte (Whole f) s k, ap (λ (x : Reading). Came f ∷ bad_of x) (sym k.2))
feeds_whole (Stopped at) byte s fed f is h = (let e = h.0 in absurd (cc))

pub feeds_bad : (r : Reading) (byte : ℕ) (s : Reading) (fed : Fed) (at : ℕ) → fed ≡ FedBad at → is_stopped r ≡ false → Feeds r byte fed s → IsFed r (byte ∷ []) (coming (Bad ∷ []) s)
feeds_bad (Within held) byte s fed at is off h =
    let k = subst (λ (t : Fed). Feeds (Within held) byte t s) is h in
    ([], one_fed (Within held) byte (FedBad at) s k, ap bad_of (sym k.2))
feeds_bad (Stopped n) byte s fed at is off h = absurd (cc)

pub feeds_still : (r : Reading) (byte : ℕ) (s : Reading) (fed : Fed) (at : ℕ) → fed ≡ FedBad at → is_stopped r ≡ true → Feeds r byte fed s → IsFed r (byte ∷ []) (coming [] s)
feeds_still (Within held) byte s fed at is on h = absurd (cc)
feeds_still (Stopped n) byte s fed at is on h =
    let k = subst (λ (t : Fed). Feeds (Stopped n) byte t s) is h in
    ([], one_fed (Stopped n) byte (FedBad at) s k, refl)

pub fed_one_more : (r m s : Reading) (bytes : List ℕ) (i d : ℕ) (a b : List Arrival) → i < length bytes
    → IsFed r (take i bytes) (coming a m) → IsFed m (get_or bytes i d ∷ []) (coming b s) → IsFed r (take (i + 1) bytes) (coming (a ++ b) s)
fed_one_more r m s bytes i d a b low p q =
    subst (λ (l : List ℕ). IsFed r l (coming (a ++ b) s)) (sym (take_more bytes i d low)) (fed_then r m s (take i bytes) (get_or bytes i d ∷ []) a b p q)

-- ---- the first 64 ----

pub take_take : {X : Type 0} (n : ℕ) (xs ys : List X) → take n (take n xs ++ ys) ≡ take n (xs ++ ys)
take_take zero xs ys = refl
take_take (suc n) [] ys = refl
take_take (suc n) (x ∷ xs) ys = ap (λ l. x ∷ l) (take_take n xs ys)

pub take_fits : {X : Type 0} (n : ℕ) (xs : List X) → length xs ≤ n → take n xs ≡ xs
take_fits zero [] le = refl
take_fits (suc n) [] le = refl
take_fits zero (x ∷ xs) le = absurd (omega (arith, le))
take_fits (suc n) (x ∷ xs) le = ap (λ l. x ∷ l) (take_fits n xs (omega (arith, le)))

take_prefix : {X : Type 0} (n : ℕ) (xs ys : List X) → length xs ≤ n → take (length xs) (take n (xs ++ ys)) ≡ xs
take_prefix n [] ys le = refl
take_prefix zero (x ∷ xs) ys le = absurd (omega (arith, le))
take_prefix (suc n) (x ∷ xs) ys le = ap (λ l. x ∷ l) (take_prefix n xs ys (omega (arith, le)))

module _ (before : List Waiting) where
  pub gathers_none : length before ≤ 64 → Gathers before [] before (length before)
  gathers_none few = record {
    all = [];
    are = refl;
    held_are = sym (ap (λ l. take 64 l) (append-nil before) ∙ take_fits 64 before few);
    counted = sym (ap length (append-nil before));
  }

  pub gathers_more : (added : List Arrival) (held later : List Waiting) (count : ℕ) (w : Waiting)
      → Gathers before added held count → later ≡ take 64 (held ++ w ∷ []) → Gathers before (added ++ arrival_of w ∷ []) later (count + 1)
  gathers_more added held later count w g e =
      let behind : (before ++ g.all) ++ w ∷ [] ≡ before ++ (g.all ++ w ∷ []) = append_assoc before g.all (w ∷ []) in
      record {
        all = g.all ++ w ∷ [];
        are = map-append arrival_of g.all (w ∷ []) ∙ ap (λ l. l ++ arrival_of w ∷ []) g.are;
        held_are = e ∙ ap (λ l. take 64 (l ++ w ∷ [])) g.held_are ∙ take_take 64 (before ++ g.all) (w ∷ []) ∙ ap (λ l. take 64 l) behind;
        counted = ap (λ n. n + 1) g.counted ∙ sym (length-append (before ++ g.all) (w ∷ [])) ∙ ap length behind;
      }

  module _ (added : List Arrival) (held : List Waiting) (count : ℕ) (g : Gathers before added held count) where
    -- where all fit, all are held
    pub gathered : count ≤ 64 → arrivals_of held ≡ arrivals_of before ++ added
    gathered few =
        let le : length (before ++ g.all) ≤ 64 = (let n = g.counted in omega (arith, n, few)) in
        ap arrivals_of (g.held_are ∙ take_fits 64 (before ++ g.all) le) ∙ map-append arrival_of before g.all ∙ ap (λ (l : List Arrival). arrivals_of before ++ l) g.are

    pub gathered_length : length (arrivals_of before ++ added) ≡ count
    gathered_length =
        ap (λ (l : List Arrival). length (arrivals_of before ++ l)) (sym g.are)
        ∙ ap length (sym (map-append arrival_of before g.all)) ∙ length-map (before ++ g.all) arrival_of ∙ sym g.counted

    -- cut back to what waited before
    pub cut_back : length before ≤ 64 → take (length before) held ≡ before
    cut_back few =
        ap (λ l. take (length before) l) g.held_are ∙ take_prefix 64 before g.all few

pub push_fits : (xs : List Waiting) (x : Waiting) (n : ℕ) → n ≡ length xs → n < 64 → take 64 (xs ++ x ∷ []) ≡ xs ++ x ∷ []
push_fits xs x n e less = take_fits 64 (xs ++ x ∷ []) (omega (arith, e, less, length-append xs (x ∷ [])))

pub push_full : (xs : List Waiting) (x : Waiting) (n : ℕ) → n ≡ length xs → 64 ≤ n → n ≤ 64 → take 64 (xs ++ x ∷ []) ≡ xs
push_full xs x n e most least =
    let many : 64 ≤ length xs = omega (arith, e, most) in
    let few : length xs ≤ 64 = omega (arith, e, least) in
    take-append-le 64 xs (x ∷ []) many ∙ take_fits 64 xs few
