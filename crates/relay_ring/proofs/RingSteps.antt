-- Each step on the ring's words keeps its rule.
use Rattle.std.proofs.Common.{◌≡◌, ◌≢◌, ℕ, ◌+◌, ◌%◌, ◌^◌, ◌≤◌, ◌<◌, ◌==◌, Bool, true, false, true≢false, List, [], ◌∷◌, ◌++◌, length, set, slice_get, slice_index, Option, Some, sym, refl, ap, ◌∙◌, subst, ⊎_elim, le_refl, le_of_eq, append_assoc, append-nil, arith, length-append}
use Rattle.std.proofs.lemmas.List.{length-set}
use Rattle.std.proofs.lemmas.Bool.Decides.{nat_tests}
use Rattle.std.proofs.Math.Nat.{mod-lt}
use mathlib.Core.Option.{some, none}
use lib.ListN.{get_elem?}
use Rattle.atomic_table.specs.Table.{State, Act, Allows, Splits, Joins, Valid, stepped, carried_after}
use Rattle.atomic_table.specs.Table.Act.{keeps, takes, gives, chain}
use Rattle.passage.proofs.Views.{Each, each_set, each_snoc, was}
use Rattle.pump_core.specs.Passage.{Numbered, ComesNext}
use Rattle.pump_core.proofs.PassageSteps.{all_snoc, all_weaken, goes_on}
use Rattle.pump_frame.specs.declared.frame.Item.{Item}
use Rattle.relay_ring.specs.declared.ring.RingView.{RingView}
use Rattle.relay_ring.specs.RingRule.{forwarded_word, taken_word, word_count, RingFits, IsHome, AreHome, RingKept, with_refusal, with_room, with_forwarded, with_seek, with_ahead, with_taken, SeesRoom, Stored, SeesItems, TookUp, ring_low, ring_high, ring_both, ring_spent, RingTies}
use Rattle.relay_ring.proofs.Places.{word_set, word_else, word_kept, same_or_not, around, get_last, get_other, other_home, this_home, match_bool}

abbrev S : Type 0
S = State (Option Item) RingView

abbrev Homes : Type 0
Homes = List (mathlib.Core.Option.Option (Option Item))

-- the two words and the width of the table
abbrev Words : List ℕ → ℕ → ℕ → Type 0
Words ws f t = (slice_index ws forwarded_word ≡ f) × (slice_index ws taken_word ≡ t) × (length ws ≡ word_count)

loaded : (ws : List ℕ) (i f t : ℕ) → Words ws f t → Words (set ws i (slice_index ws i)) f t
loaded ws i f t w = subst (λ z. Words z f t) (sym (word_kept ws i)) w

forwarded_stored : (ws : List ℕ) (n f t : ℕ) → Words ws f t → Words (set ws forwarded_word n) n t
forwarded_stored ws n f t w = (word_set ws forwarded_word n (omega (arith, w.2)), word_else ws forwarded_word taken_word n (omega arith) ∙ w.1, length-set ws forwarded_word n ∙ w.2)

taken_stored : (ws : List ℕ) (n f t : ℕ) → Words ws f t → Words (set ws taken_word n) f n
taken_stored ws n f t w = (word_else ws taken_word forwarded_word n (omega arith) ∙ w.0, word_set ws taken_word n (omega (arith, w.2)), length-set ws taken_word n ∙ w.2)

-- what was taken up is no longer than what was forwarded
in_order : (s : S) (h : RingKept s) → length h.forwarded ≡ length h.taken + (length h.ahead + length h.rest)
in_order s h = omega (arith, ap length h.whole, length-append h.taken (h.ahead ++ h.rest), length-append h.ahead h.rest)

module _ (slots id : ℕ) (v : RingView) (low : v.is_low ≡ true) (idle : v.is_high ≡ false) where
  not_high : {X : Type 0} → v.is_high ≡ true → X
  not_high x = absurd (true≢false (sym x ∙ idle))

  -- the low end finds all places full
  refused : (s : S) (h : RingKept s) → get_elem? s.views id ≡ some v → RingKept (stepped s taken_word (slice_index s.words taken_word) id [] (with_refusal v (slice_index s.words taken_word)) keeps)
  refused s h at =
      let t = slice_index s.words taken_word in
      let mine = (h.each id v at).0 low in
      record {
        low = h.low;
        high = h.high;
        forwarded = h.forwarded;
        taken = h.taken;
        ahead = h.ahead;
        rest = h.rest;
        limit = h.limit;
        words = loaded s.words taken_word (length h.forwarded) (length h.taken) h.words;
        whole = h.whole;
        some_slots = h.some_slots;
        below = h.below;
        room = h.room;
        number = h.number;
        numbered = h.numbered;
        small = h.small;
        homes = h.homes;
        each = each_set (RingFits h.low h.high h.forwarded h.taken h.ahead h.limit) s.views id (with_refusal v t)
            ((λ _. record { one = mine.one; forwarded = mine.forwarded; limit = mine.limit; tries = all_snoc (λ (p : ℕ × ℕ). p.1 ≤ length h.taken) v.low_tries (length v.forwarded, t) mine.tries (le_of_eq h.words.1) }), λ x. not_high x) (λ j u _ e. h.each j u e);
      }

  -- the low end finds room, and gets the slot behind the last item
  found_room : v.limit ≡ length v.forwarded → (s : S) (h : RingKept s) → length s.homes ≡ slots → get_elem? s.views id ≡ some v → (t : ℕ) → t ≡ slice_index s.words taken_word → length v.forwarded ≢ t + slots
      → (y : Option Item) × Valid s.homes [] (takes (length v.forwarded % slots) y) × RingKept (stepped s taken_word (slice_index s.words taken_word) id [] (with_room v (t + slots)) (takes (length v.forwarded % slots) y))
  found_room spent s h sl at t is ne =
      let mine = (h.each id v at).0 low in
      let n = length s.homes in
      let F = length h.forwarded in
      let T = length h.taken in
      let most = t + slots in
      let len : length v.forwarded ≡ F = ap length mine.forwarded in
      let full : F ≡ h.limit = sym len ∙ sym spent ∙ mine.limit in
      let ne' : F ≢ most = λ e. ne (len ∙ e) in
      let same : most ≡ T + n = omega (arith, is, h.words.1, sl) in
      let lt : F < T + n = omega (arith, h.below, h.room, full, ne', same) in
      let le : T ≤ F = omega (arith, in_order s h) in
      let first : 0 < length h.ahead → F ≢ T = λ some e. omega (arith, some, e, in_order s h) in
      let here : IsHome s.homes n h.forwarded F = h.homes F le lt (λ x. absurd (x full)) first in
      let y = here.0 in
      let k : length v.forwarded % slots ≡ F % n = ap (λ z. z % slots) len ∙ ap (λ z. F % z) (sym sl) in
      let homes : Homes = set s.homes (length v.forwarded % slots) none in
      let m : length homes ≡ n = length-set s.homes (length v.forwarded % slots) none in
      let there : AreHome homes n h.forwarded T h.ahead most = λ p lp up a b. other_home s.homes n T p F (length v.forwarded % slots) none h.forwarded k lp up le lt (a ne') (h.homes p lp up (λ x. absurd (x full)) b) in (
        y,
        subst (λ (z : ℕ). get_elem? s.homes z ≡ some (some y)) (sym k) here.1,
        record {
          low = h.low;
          high = h.high;
          forwarded = h.forwarded;
          taken = h.taken;
          ahead = h.ahead;
          rest = h.rest;
          limit = most;
          words = loaded s.words taken_word F T h.words;
          whole = h.whole;
          some_slots = omega (arith, h.some_slots, m);
          below = omega (arith, lt, same);
          room = omega (arith, same, m);
          number = h.number;
          numbered = h.numbered;
          small = h.small;
          homes = subst (λ (z : ℕ). AreHome homes z h.forwarded T h.ahead most) (sym m) there;
          each = each_set (RingFits h.low h.high h.forwarded h.taken h.ahead most) s.views id (with_room v most)
              ((λ _. record { one = mine.one; forwarded = mine.forwarded; limit = refl; tries = mine.tries }), λ x. not_high x)
              (λ j u other e. ((λ x. absurd (other (((h.each j u e).0 x).one ∙ sym mine.one))), (h.each j u e).1));
        },
      )

  pub looks_for_room : v.limit ≡ length v.forwarded → Allows RingKept slots id (v, []) taken_word (λ n. n) (SeesRoom slots (v, []))
  looks_for_room spent s h sl at fits =
      let t = slice_index s.words taken_word in
      let mine = (h.each id v at).0 low in
      let small : t ≤ 2 ^ 48 = omega (arith, h.words.1, in_order s h, h.small) in
      let below : length v.forwarded ≤ t + slots = omega (arith, h.words.1, h.below, h.room, sl, ap length mine.forwarded) in
      let go : (b : Bool) → (length v.forwarded == t + slots) ≡ b
      → (w : RingView) × (a : Act (Option Item)) × Valid s.homes [] a × RingKept (stepped s taken_word t id [] w a) × SeesRoom slots (v, []) t (w, carried_after [] a) = elim [
        | true ↦ λ e. (with_refusal v t, keeps, tt, refused s h at, (small, below, match_bool _ true _ _ e refl))
        | false ↦ λ e.
            let r = found_room spent s h sl at t refl (grind (arith, nat_tests)) in
            (with_room v (t + slots), takes (length v.forwarded % slots) r.0, r.1, r.2, (small, below, match_bool _ false _ _ e (refl, match_bool _ false _ _ e (r.0, refl))))
      ] in
      go (length v.forwarded == t + slots) refl

  -- the low end stores the number forwarded, and gives the slot back with the item; it gets the next slot
  -- where it knows of room
  pub stores_forwarded : length v.forwarded ≢ v.limit → (k new : ℕ) (x : Item) → k ≡ length v.forwarded % slots → new ≡ length v.forwarded + 1 → ComesNext v.forwarded x.number → x.number < 2 ^ 48
      → Allows RingKept slots id (v, (k, Some x) ∷ []) forwarded_word (λ _. new) (λ _. Stored slots (v, (k, Some x) ∷ []))
  stores_forwarded opened k new x is more f small s h sl at fits =
      let mine = (h.each id v at).0 low in
      let n = length s.homes in
      let F = length h.forwarded in
      let T = length h.taken in
      let all = h.forwarded ++ x ∷ [] in
      let w = with_forwarded v x in
      let len : length v.forwarded ≡ F = ap length mine.forwarded in
      let opened' : F ≢ h.limit = λ e. opened (len ∙ e ∙ sym mine.limit) in
      let lt : F < T + n = omega (arith, h.below, h.room, opened') in
      let le : T ≤ F = omega (arith, in_order s h) in
      let on = goes_on h.number h.forwarded x h.numbered h.small (subst (λ z. ComesNext z x.number) mine.forwarded f) small in
      let grown : length all ≡ F + 1 = length-append h.forwarded (x ∷ []) in
      let same : w.forwarded ≡ all = ap (λ z. z ++ x ∷ []) mine.forwarded in
      let k' : k ≡ F % n = is ∙ ap (λ z. z % slots) len ∙ ap (λ z. F % z) (sym sl) in
      let homes : Homes = set s.homes k (some (Some x)) in
      let m : length homes ≡ n = length-set s.homes k (some (Some x)) in
      let back : (p : ℕ) → T ≤ p → p < T + n → (0 < length h.ahead → p ≢ T) → IsHome homes n all p = λ p lp up b. ⊎_elim
      (λ (e : p ≡ F). subst (IsHome homes n all) (sym e) (Some x, this_home s.homes n F k (Some x) k' (mod-lt F h.some_slots), λ _. sym (get_last h.forwarded x [])))
      (λ (ne : p ≢ F). let o = other_home s.homes n T p F k (some (Some x)) h.forwarded k' lp up le lt ne (h.homes p lp up (λ _. ne) b) in
      (o.0, o.1, λ up'. o.2 (omega (arith, up', grown, ne)) ∙ sym (get_other h.forwarded x p ne)))
      (same_or_not p F) in
      let kept : (hs : Homes) → length hs ≡ n → AreHome hs n all T h.ahead h.limit → RingKept (record { words = set s.words forwarded_word new; homes = hs; views = set s.views id w }) = λ hs hm there. record {
        low = h.low;
        high = h.high;
        forwarded = all;
        taken = h.taken;
        ahead = h.ahead;
        rest = h.rest ++ x ∷ [];
        limit = h.limit;
        words = (let e = forwarded_stored s.words new F T h.words in (e.0 ∙ omega (arith, more, len, grown), e.1, e.2));
        whole = ap (λ z. z ++ x ∷ []) h.whole ∙ append_assoc h.taken (h.ahead ++ h.rest) (x ∷ []) ∙ ap (λ z. h.taken ++ z) (append_assoc h.ahead h.rest (x ∷ []));
        some_slots = omega (arith, h.some_slots, hm);
        below = omega (arith, grown, h.below, opened');
        room = omega (arith, h.room, hm);
        number = on.0;
        numbered = on.1;
        small = on.2;
        homes = subst (λ (z : ℕ). AreHome hs z all T h.ahead h.limit) (sym hm) there;
        each = each_set (RingFits h.low h.high all h.taken h.ahead h.limit) s.views id w
            ((λ _. record { one = mine.one; forwarded = same; limit = mine.limit; tries = mine.tries }), λ y. not_high y)
            (λ j u other e. (
              (λ y. absurd (other (((h.each j u e).0 y).one ∙ sym mine.one))),
              (λ y. let r = (h.each j u e).1 y in record { one = r.one; taken = r.taken; ahead = r.ahead; tries = all_weaken (λ (t : ℕ × ℕ). t.0 ≤ F) (λ t. t.0 ≤ length all) u.high_tries (λ t l. omega (arith, l, grown)) r.tries }),
            ));
      } in
      let c : List (ℕ × Option Item) = (k, Some x) ∷ [] in
      let go : (b : Bool) → (length w.forwarded == w.limit) ≡ b
      → (u : RingView) × (a : Act (Option Item)) × Valid s.homes c a × RingKept (stepped s forwarded_word new id c u a) × Stored slots (v, c) (u, carried_after c a) = elim [
        | true ↦ λ e. (w, gives, tt, kept homes m (λ p lp up _ b. back p lp up b), (refl, match_bool _ true _ _ e refl))
        | false ↦ λ e.
            let k2 = length w.forwarded % slots in
            let ne : length w.forwarded ≢ w.limit = grind (arith, nat_tests) in
            let len2 : length w.forwarded ≡ F + 1 = ap length same ∙ grown in
            let lt2 : F + 1 < T + n = omega (arith, h.below, h.room, opened', ne, len2, mine.limit) in
            let is2 : k2 ≡ (F + 1) % n = ap (λ z. z % slots) len2 ∙ ap (λ z. (F + 1) % z) (sym sl) in
            let next : IsHome homes n all (F + 1) = back (F + 1) (omega (arith, le)) lt2 (λ _ z. omega (arith, z, le)) in
            let y = next.0 in
            let m2 : length (set homes k2 none) ≡ n = length-set homes k2 none ∙ m in
            let there : AreHome (set homes k2 none) n all T h.ahead h.limit = λ p lp up a b.
            other_home homes n T p (F + 1) k2 none all is2 lp up (omega (arith, le)) lt2 (λ z. a (λ q. ne (ap length same ∙ q ∙ sym mine.limit)) (z ∙ sym grown)) (back p lp up b) in
            (w, chain gives (takes k2 y), (tt, subst (λ (z : ℕ). get_elem? homes z ≡ some (some y)) (sym is2) next.1), kept (set homes k2 none) m2 there, (refl, match_bool _ false _ _ e (y, refl)))
      ] in
      go (length w.forwarded == w.limit) refl

module _ (slots id : ℕ) (v : RingView) (high : v.is_high ≡ true) (idle : v.is_low ≡ false) where
  not_low : {X : Type 0} → v.is_low ≡ true → X
  not_low x = absurd (true≢false (sym x ∙ idle))

  -- the high end finds no item
  missed : (s : S) (h : RingKept s) → get_elem? s.views id ≡ some v → RingKept (stepped s forwarded_word (slice_index s.words forwarded_word) id [] (with_seek v (slice_index s.words forwarded_word)) keeps)
  missed s h at =
      let f = slice_index s.words forwarded_word in
      let mine = (h.each id v at).1 high in
      record {
        low = h.low;
        high = h.high;
        forwarded = h.forwarded;
        taken = h.taken;
        ahead = h.ahead;
        rest = h.rest;
        limit = h.limit;
        words = loaded s.words forwarded_word (length h.forwarded) (length h.taken) h.words;
        whole = h.whole;
        some_slots = h.some_slots;
        below = h.below;
        room = h.room;
        number = h.number;
        numbered = h.numbered;
        small = h.small;
        homes = h.homes;
        each = each_set (RingFits h.low h.high h.forwarded h.taken h.ahead h.limit) s.views id (with_seek v f)
            ((λ x. not_low x), λ _. record { one = mine.one; taken = mine.taken; ahead = mine.ahead; tries = all_snoc (λ (p : ℕ × ℕ). p.0 ≤ length h.forwarded) v.high_tries (f, length v.taken) mine.tries (le_of_eq h.words.0) }) (λ j u _ e. h.each j u e);
      }

  -- the high end finds items, and gets the slot of the first
  found_items : (s : S) (h : RingKept s) → length s.homes ≡ slots → get_elem? s.views id ≡ some v → (x : Item) (xs : List Item) → h.ahead ≡ [] → h.rest ≡ x ∷ xs
      → Valid s.homes [] (takes (length v.taken % slots) (Some x)) × RingKept (stepped s forwarded_word (slice_index s.words forwarded_word) id [] (with_ahead v (x ∷ xs)) (takes (length v.taken % slots) (Some x)))
  found_items s h sl at x xs bare are =
      let mine = (h.each id v at).1 high in
      let n = length s.homes in
      let F = length h.forwarded in
      let T = length h.taken in
      let len : length v.taken ≡ T = ap length mine.taken in
      let whole : h.forwarded ≡ h.taken ++ (x ∷ xs) = h.whole ∙ ap (λ z. h.taken ++ (z ++ h.rest)) bare ∙ ap (λ z. h.taken ++ z) are in
      let far : T + 1 ≤ F = omega (arith, ap length whole, length-append h.taken (x ∷ xs)) in
      let no_hand : (0 < length h.ahead) → ⊥ = λ some. omega (arith, some, ap length bare) in
      let item : slice_get h.forwarded T ≡ Some x = ap (λ z. slice_get z T) whole ∙ get_last h.taken x xs in
      let near : T < T + n = omega (arith, h.some_slots) in
      let here : IsHome s.homes n h.forwarded T = h.homes T (le_refl T) near (λ _ e. omega (arith, far, e)) (λ some. absurd (no_hand some)) in
      let k : length v.taken % slots ≡ T % n = ap (λ z. z % slots) len ∙ ap (λ z. T % z) (sym sl) in
      let homes : Homes = set s.homes (length v.taken % slots) none in
      let m : length homes ≡ n = length-set s.homes (length v.taken % slots) none in
      let there : AreHome homes n h.forwarded T (x ∷ xs) h.limit = λ p lp up a b.
      other_home s.homes n T p T (length v.taken % slots) none h.forwarded k lp up (le_refl T) near (b (omega arith)) (h.homes p lp up a (λ some. absurd (no_hand some))) in (
        subst (λ (z : ℕ). get_elem? s.homes z ≡ some (some (Some x))) (sym k) (here.1 ∙ ap (λ z. some (some z)) (here.2 (omega (arith, far)) ∙ item)),
        record {
          low = h.low;
          high = h.high;
          forwarded = h.forwarded;
          taken = h.taken;
          ahead = x ∷ xs;
          rest = [];
          limit = h.limit;
          words = loaded s.words forwarded_word F T h.words;
          whole = whole ∙ ap (λ z. h.taken ++ (x ∷ z)) (sym (append-nil xs));
          some_slots = omega (arith, h.some_slots, m);
          below = h.below;
          room = omega (arith, h.room, m);
          number = h.number;
          numbered = h.numbered;
          small = h.small;
          homes = subst (λ (z : ℕ). AreHome homes z h.forwarded T (x ∷ xs) h.limit) (sym m) there;
          each = each_set (RingFits h.low h.high h.forwarded h.taken (x ∷ xs) h.limit) s.views id (with_ahead v (x ∷ xs))
              ((λ y. not_low y), λ _. record { one = mine.one; taken = mine.taken; ahead = refl; tries = mine.tries })
              (λ j u other e. ((h.each j u e).0, λ y. absurd (other (((h.each j u e).1 y).one ∙ sym mine.one))));
        },
      )

  some_rest : (s : S) (h : RingKept s) → v.ahead ≡ [] → get_elem? s.views id ≡ some v → slice_index s.words forwarded_word ≢ length v.taken → (rest : List Item) → h.rest ≡ rest
      → (x : Item) × (xs : List Item) × (h.rest ≡ x ∷ xs) × (h.ahead ≡ [])
  some_rest s h free at ne [] e = let mine = (h.each id v at).1 high in
      absurd (ne (omega (arith, h.words.0, in_order s h, ap length e, ap length (sym mine.ahead ∙ free), ap length mine.taken)))
  some_rest s h free at ne (x ∷ xs) e = let mine = (h.each id v at).1 high in (x, xs, e, sym mine.ahead ∙ free)

  pub looks_for_items : v.ahead ≡ [] → Allows RingKept slots id (v, []) forwarded_word (λ n. n) (SeesItems slots (v, []))
  looks_for_items free s h sl at fits =
      let f = slice_index s.words forwarded_word in
      let mine = (h.each id v at).1 high in
      let small : f ≤ 2 ^ 48 = omega (arith, h.words.0, h.small) in
      let below : length v.taken ≤ f = omega (arith, h.words.0, in_order s h, ap length mine.taken) in
      let go : (b : Bool) → (f == length v.taken) ≡ b
      → (w : RingView) × (a : Act (Option Item)) × Valid s.homes [] a × RingKept (stepped s forwarded_word f id [] w a) × SeesItems slots (v, []) f (w, carried_after [] a) = elim [
        | true ↦ λ e. (with_seek v f, keeps, tt, missed s h at, (small, below, match_bool _ true _ _ e refl))
        | false ↦ λ e.
            let r = some_rest s h free at (grind (arith, nat_tests)) h.rest refl in
            let t = found_items s h sl at r.0 r.1 r.3 r.2 in
            let count : f ≡ length v.taken + length (r.0 ∷ r.1) = omega (arith, h.words.0, in_order s h, ap length r.2, ap length r.3, ap length mine.taken) in
            (with_ahead v (r.0 ∷ r.1), takes (length v.taken % slots) (Some r.0), t.0, t.1, (small, below, match_bool _ false _ _ e (r.0 ∷ r.1, refl, count, refl)))
      ] in
      go (f == length v.taken) refl

  -- the high end stores the number taken up, and gives the slot back; it gets that of the next item it
  -- knows of
  module _ (k new removed : ℕ) (x : Item) (xs : List Item) (held : v.ahead ≡ x ∷ xs) (is : k ≡ length v.taken % slots) (more : new ≡ length v.taken + 1) (s : S) (h : RingKept s) (sl : length s.homes ≡ slots) (at : get_elem? s.views id ≡ some v) where
    after : (hs : Homes) → length hs ≡ length s.homes → AreHome hs (length s.homes) h.forwarded (length h.taken + 1) xs h.limit
        → RingKept (record { words = set s.words taken_word new; homes = hs; views = set s.views id (with_taken v x removed xs) })
    after hs hm there =
        let mine = (h.each id v at).1 high in
        let F = length h.forwarded in
        let T = length h.taken in
        let all = h.taken ++ x ∷ [] in
        let grown : length all ≡ T + 1 = length-append h.taken (x ∷ []) in
        let len : length v.taken ≡ T = ap length mine.taken in
        let hand : h.ahead ≡ x ∷ xs = sym mine.ahead ∙ held in
        record {
          low = h.low;
          high = h.high;
          forwarded = h.forwarded;
          taken = all;
          ahead = xs;
          rest = h.rest;
          limit = h.limit;
          words = (let e = taken_stored s.words new F T h.words in (e.0, e.1 ∙ omega (arith, more, len, grown), e.2));
          whole = h.whole ∙ ap (λ z. h.taken ++ (z ++ h.rest)) hand ∙ sym (append_assoc h.taken (x ∷ []) (xs ++ h.rest));
          some_slots = omega (arith, h.some_slots, hm);
          below = h.below;
          room = omega (arith, h.room, hm, grown);
          number = h.number;
          numbered = h.numbered;
          small = h.small;
          homes = subst (λ (z : ℕ × ℕ). AreHome hs z.0 h.forwarded z.1 xs h.limit) (λ i. (sym hm i, sym grown i)) there;
          each = each_set (RingFits h.low h.high h.forwarded all xs h.limit) s.views id (with_taken v x removed xs)
              ((λ y. not_low y), λ _. record { one = mine.one; taken = ap (λ z. z ++ x ∷ []) mine.taken; ahead = refl; tries = mine.tries })
              (λ j u other e. (
                (λ y. let r = (h.each j u e).0 y in record { one = r.one; forwarded = r.forwarded; limit = r.limit; tries = all_weaken (λ (t : ℕ × ℕ). t.1 ≤ T) (λ t. t.1 ≤ length all) u.low_tries (λ t l. omega (arith, l, grown)) r.tries }),
                (λ y. absurd (other (((h.each j u e).1 y).one ∙ sym mine.one))),
              ));
        }

    back : (p : ℕ) → length h.taken + 1 ≤ p → p < length h.taken + 1 + length s.homes → (length h.forwarded ≢ h.limit → p ≢ length h.forwarded) → IsHome (set s.homes k (some (Some x))) (length s.homes) h.forwarded p
    back p lp up a =
        let mine = (h.each id v at).1 high in
        let n = length s.homes in
        let F = length h.forwarded in
        let T = length h.taken in
        let homes : Homes = set s.homes k (some (Some x)) in
        let k' : k ≡ T % n = is ∙ ap (λ z. length z % slots) mine.taken ∙ ap (λ z. T % z) (sym sl) in
        let k'' : k ≡ (T + n) % n = k' ∙ sym (around T n) in
        ⊎_elim (λ (e : p ≡ T + n). subst (IsHome homes n h.forwarded) (sym e) (Some x, this_home s.homes n (T + n) k (Some x) k'' (mod-lt (T + n) h.some_slots), λ up'. absurd (omega (arith, up', h.below, h.room))))
        (λ (ne : p ≢ T + n). let lp' : T ≤ p = omega (arith, lp) in let up' : p < T + n = omega (arith, up, ne) in let far : p ≢ T = λ e. omega (arith, e, lp) in
        other_home s.homes n T p T k (some (Some x)) h.forwarded k' lp' up' (le_refl T) (omega (arith, h.some_slots)) far (h.homes p lp' up' a (λ _. far)))
        (same_or_not p (T + n))

  pub stores_taken : (k new removed : ℕ) (x : Item) (xs : List Item) → v.ahead ≡ x ∷ xs → k ≡ length v.taken % slots → new ≡ length v.taken + 1
      → Allows RingKept slots id (v, (k, Some x) ∷ []) taken_word (λ _. new) (λ _. TookUp slots (v, (k, Some x) ∷ []) removed v.ahead)
  stores_taken k new removed x [] held is more s h sl at fits =
      let homes : Homes = set s.homes k (some (Some x)) in (
        with_taken v x removed [],
        gives,
        tt,
        after k new removed x [] held is more s h sl at homes (length-set s.homes k (some (Some x))) (λ p lp up a _. back k new removed x [] held is more s h sl at p lp up a),
        subst (λ (z : List Item). TookUp slots (v, (k, Some x) ∷ []) removed z (with_taken v x removed [], [])) (sym held) (refl, refl),
      )
  stores_taken k new removed x (y ∷ ys) held is more s h sl at fits =
      let mine = (h.each id v at).1 high in
      let n = length s.homes in
      let T = length h.taken in
      let w = with_taken v x removed (y ∷ ys) in
      let k2 = length w.taken % slots in
      let homes : Homes = set s.homes k (some (Some x)) in
      let m : length homes ≡ n = length-set s.homes k (some (Some x)) in
      let grown : length (h.taken ++ x ∷ []) ≡ T + 1 = length-append h.taken (x ∷ []) in
      let hand : h.ahead ≡ x ∷ y ∷ ys = sym mine.ahead ∙ held in
      let whole : h.forwarded ≡ (h.taken ++ x ∷ []) ++ (y ∷ (ys ++ h.rest)) = h.whole ∙ ap (λ z. h.taken ++ (z ++ h.rest)) hand ∙ sym (append_assoc h.taken (x ∷ []) (y ∷ (ys ++ h.rest))) in
      let far : T + 2 ≤ length h.forwarded = omega (arith, in_order s h, ap length hand) in
      let item : slice_get h.forwarded (T + 1) ≡ Some y = subst (λ (z : ℕ). slice_get h.forwarded z ≡ Some y) grown (ap (λ z. slice_get z (length (h.taken ++ x ∷ []))) whole ∙ get_last (h.taken ++ x ∷ []) y (ys ++ h.rest)) in
      let near : T + 1 < T + 1 + n = omega (arith, h.some_slots) in
      let next = back k new removed x (y ∷ ys) held is more s h sl at (T + 1) (le_refl (T + 1)) near (λ _ e. omega (arith, far, e)) in
      let is2 : k2 ≡ (T + 1) % n = ap (λ z. length (z ++ x ∷ []) % slots) mine.taken ∙ ap (λ z. z % slots) grown ∙ ap (λ z. (T + 1) % z) (sym sl) in
      let full : get_elem? homes k2 ≡ some (some (Some y)) = subst (λ (z : ℕ). get_elem? homes z ≡ some (some (Some y))) (sym is2) (next.1 ∙ ap (λ z. some (some z)) (next.2 (omega (arith, far)) ∙ item)) in
      let there : AreHome (set homes k2 none) n h.forwarded (T + 1) (y ∷ ys) h.limit = λ p lp up a b.
      other_home homes n (T + 1) p (T + 1) k2 none h.forwarded is2 lp up (le_refl (T + 1)) near (b (omega arith)) (back k new removed x (y ∷ ys) held is more s h sl at p lp up a) in (
        w,
        chain gives (takes k2 (Some y)),
        (tt, full),
        after k new removed x (y ∷ ys) held is more s h sl at (set homes k2 none) (length-set homes k2 none ∙ m) there,
        subst (λ (z : List Item). TookUp slots (v, (k, Some x) ∷ []) removed z (w, (k2, Some y) ∷ [])) (sym held) (refl, refl),
      )

-- the high end's part of a view goes to a new seat
pub forks : (id : ℕ) (v : RingView) → v.is_high ≡ true → Splits RingKept id v (ring_low v) (ring_high v)
forks id v may s h at =
    let l = ring_low v in let r = ring_high v in let vs = set s.views id l in
    let mine = h.each id v at in
    let theirs = mine.1 may in
    let high = length vs in
    record {
      low = h.low;
      high = high;
      forwarded = h.forwarded;
      taken = h.taken;
      ahead = h.ahead;
      rest = h.rest;
      limit = h.limit;
      words = h.words;
      whole = h.whole;
      some_slots = h.some_slots;
      below = h.below;
      room = h.room;
      number = h.number;
      numbered = h.numbered;
      small = h.small;
      homes = h.homes;
      each = each_snoc (RingFits h.low high h.forwarded h.taken h.ahead h.limit) vs r
          (each_set (RingFits h.low high h.forwarded h.taken h.ahead h.limit) s.views id l ((λ t. let m = mine.0 t in record { one = m.one; forwarded = m.forwarded; limit = m.limit; tries = m.tries }), λ t. absurd (true≢false (sym t)))
          (λ j u apart e. ((h.each j u e).0, λ t. absurd (apart (((h.each j u e).1 t).one ∙ sym theirs.one)))))
          ((λ t. absurd (true≢false (sym t))), λ _. record { one = refl; taken = theirs.taken; ahead = theirs.ahead; tries = theirs.tries });
    }

-- the low end takes in what the high end knows
pub merges : (id : ℕ) (v : RingView) (other : ℕ) (u : RingView) → v.is_low ≡ true → u.is_high ≡ true → Joins RingKept id v other u (ring_both v u) ring_spent
merges id v other u a b s h at two at' =
    let w = ring_both v u in let vs = set s.views id w in
    let mine = (h.each id v at).0 a in
    let theirs = (h.each other u (was s.views id other w u two at')).1 b in
    let Now : ℕ → RingView → Type 0 = λ j y. j ≢ other → RingFits h.low id h.forwarded h.taken h.ahead h.limit j y in
    let now : Each Now vs = each_set Now s.views id w
    (λ _. (
      (λ _. record { one = mine.one; forwarded = mine.forwarded; limit = mine.limit; tries = mine.tries }),
      λ _. record { one = refl; taken = theirs.taken; ahead = theirs.ahead; tries = theirs.tries },
    ))
    (λ j y _ e apart. ((h.each j y e).0, λ t. absurd (apart (((h.each j y e).1 t).one ∙ sym theirs.one)))) in
    record {
      low = h.low;
      high = id;
      forwarded = h.forwarded;
      taken = h.taken;
      ahead = h.ahead;
      rest = h.rest;
      limit = h.limit;
      words = h.words;
      whole = h.whole;
      some_slots = h.some_slots;
      below = h.below;
      room = h.room;
      number = h.number;
      numbered = h.numbered;
      small = h.small;
      homes = h.homes;
      each = each_set (RingFits h.low id h.forwarded h.taken h.ahead h.limit) vs other ring_spent ((λ t. absurd (true≢false (sym t))), λ t. absurd (true≢false (sym t))) (λ j y apart e. now j y e apart);
    }

-- a load by who has both roles tells what ties the two; the slots that the seat has do not matter
pub learns : (slots id : ℕ) (v : RingView) (c : List (ℕ × Option Item)) → v.is_low ≡ true → v.is_high ≡ true → Allows RingKept slots id (v, c) forwarded_word (λ n. n) (λ r m'. RingTies slots v)
learns slots id v c a b s h sl at fits =
    let mine = (h.each id v at).0 a in
    let theirs = (h.each id v at).1 b in
    let ties : RingTies slots v = record {
      held = (h.ahead ++ h.rest, mine.forwarded ∙ h.whole ∙ ap (λ z. z ++ (h.ahead ++ h.rest)) (sym theirs.taken));
      rises = (h.number, subst (Numbered h.number) (sym mine.forwarded) h.numbered);
      low_tries = all_weaken (λ (t : ℕ × ℕ). t.1 ≤ length h.taken) (λ t. t.1 ≤ length v.taken) v.low_tries (λ t le. omega (arith, le, ap length theirs.taken)) mine.tries;
      high_tries = all_weaken (λ (t : ℕ × ℕ). t.0 ≤ length h.forwarded) (λ t. t.0 ≤ length v.forwarded) v.high_tries (λ t le. omega (arith, le, ap length mine.forwarded)) theirs.tries;
      room = omega (arith, h.below, h.room, sl, ap length mine.forwarded, ap length theirs.taken);
    } in (
      v,
      keeps,
      tt,
      record {
        low = h.low;
        high = h.high;
        forwarded = h.forwarded;
        taken = h.taken;
        ahead = h.ahead;
        rest = h.rest;
        limit = h.limit;
        words = loaded s.words forwarded_word (length h.forwarded) (length h.taken) h.words;
        whole = h.whole;
        some_slots = h.some_slots;
        below = h.below;
        room = h.room;
        number = h.number;
        numbered = h.numbered;
        small = h.small;
        homes = h.homes;
        each = each_set (RingFits h.low h.high h.forwarded h.taken h.ahead h.limit) s.views id v (h.each id v at) (λ j u _ e. h.each j u e);
      },
      ties,
    )
