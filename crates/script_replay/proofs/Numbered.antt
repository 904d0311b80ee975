-- Sessions by rising number: what one that begins, or goes on, changes.
use Rattle.std.proofs.Common.{◌≡◌, ◌<◌, ◌≤◌, ℕ, ◌+◌, suc, Bool, true, false, cond, ◌==◌, nat_lt, nat_le, not, if◌then◌else◌, List, [], ◌∷◌, ◌++◌, length, set, slice_get, Option, None, Some, inl, inr, refl, sym, ap, ◌∙◌, subst, arith}
use Rattle.std.specs.List.{AllByRecursion, position, insert}
use Rattle.std.proofs.lemmas.Bool.{le-ltb, lt-ltb, ltb-false}
use Rattle.std.proofs.lemmas.Bool.Decides.{eqb_tells, leb_tells}
use Rattle.disk_model.specs.Disk.{Meaning}
use Rattle.disk_model.specs.declared.disk.Disk.{Ghosts}
use Rattle.script_reader.specs.Scripts.{Begun, Whole, Alone}
use Rattle.script_reader.specs.Sessions.{session_number, session_at, with_session}
use Rattle.script_replay.specs.declared.session.Session.{Session}
use Rattle.script_replay.specs.declared.session.Session.TheVariants as sessions
use Rattle.script_replay.specs.Sessions.{id_of, StandsFor, StandsForRunning, found_at, with_begun, place_in, is_of_number, Rise, EachStandsFor}

-- ---- numbers ----

by_order : {P : Type 0} (a b : ℕ) → (nat_lt a b ≡ true → a < b → P) → (nat_lt a b ≡ false → (a == b) ≡ true → a ≡ b → P) → (nat_lt a b ≡ false → (a == b) ≡ false → b < a → P) → P
by_order a b less same more =
    elim (leb_tells b a) [
      | inl l ↦
          let not_less = le-ltb a b l.1 in
          elim (eqb_tells a b) [
            | inl e ↦ same not_less e.0 e.1
            | inr n ↦ let other = n.1 in let low = l.1 in more not_less n.0 (omega (arith, low, other))
          ]
      | inr r ↦ less (lt-ltb a b r.1) r.1
    ]

unequal : (a b : ℕ) → (a ≡ b → ⊥) → (a == b) ≡ false
unequal a b other = elim (eqb_tells a b) [ inl e ↦ absurd (other e.1) | inr n ↦ n.0 ]

equal : (a b : ℕ) → a ≡ b → (a == b) ≡ true
equal a b same = elim (eqb_tells a b) [ inl e ↦ e.0 | inr n ↦ absurd (n.1 same) ]

equal_so : (a b : ℕ) → (a == b) ≡ true → a ≡ b
equal_so a b e = elim (eqb_tells a b) [ inl t ↦ t.1 | inr n ↦ cc (sym e ∙ n.0) ]

unequal_so : (a b : ℕ) → (a == b) ≡ false → a ≡ b → ⊥
unequal_so a b e same = cc (sym e ∙ equal a b same)

module _ {D : Type 0} {g : Ghosts D} where
  -- ---- one is found ----

  pub found_here : (number : ℕ) (x : Session D g) (xs : List (Session D g)) → id_of x ≡ number → found_at number (x ∷ xs) ≡ Some x
  found_here number x xs same = ap (λ (b : Bool). cond b (Some x) (found_at number xs)) (equal (id_of x) number same)

  pub found_later : (number : ℕ) (x : Session D g) (xs : List (Session D g)) → (id_of x ≡ number → ⊥) → found_at number (x ∷ xs) ≡ found_at number xs
  found_later number x xs other = ap (λ (b : Bool). cond b (Some x) (found_at number xs)) (unequal (id_of x) number other)

  -- what is found has the number
  pub found_id : (number : ℕ) (xs : List (Session D g)) (x : Session D g) → found_at number xs ≡ Some x → id_of x ≡ number
  found_id number [] x e = cc
  found_id number (y ∷ ys) x e = elim (eqb_tells (id_of y) number) [
    | inl t ↦ let same : Some y ≡ Some x = sym (found_here number y ys t.1) ∙ e in let is : y ≡ x = cc in subst (λ (z : Session D g). id_of z ≡ number) is t.1
    | inr n ↦ found_id number ys x (sym (found_later number y ys n.1) ∙ e)
  ]

  pub none_above : (number bound : ℕ) (xs : List (Session D g)) → number ≤ bound → AllByRecursion (λ (t : Session D g). bound < id_of t) xs → found_at number xs ≡ None
  none_above number bound [] low all = refl
  none_above number bound (x ∷ xs) low all =
      let above = all.0 in
      found_later number x xs (λ same. absurd (omega (arith, above, low, same))) ∙ none_above number bound xs low all.1

  -- ---- one is put ----

  put_less : (x y : Session D g) (ys : List (Session D g)) → nat_lt (id_of x) (id_of y) ≡ true → with_begun x (y ∷ ys) ≡ x ∷ y ∷ ys
  put_less x y ys e = ap (λ (b : Bool). if b then x ∷ y ∷ ys else (if id_of x == id_of y then x ∷ ys else y ∷ with_begun x ys)) e

  put_not_less : (x y : Session D g) (ys : List (Session D g)) → nat_lt (id_of x) (id_of y) ≡ false → with_begun x (y ∷ ys) ≡ (if id_of x == id_of y then x ∷ ys else y ∷ with_begun x ys)
  put_not_less x y ys e = ap (λ (b : Bool). if b then x ∷ y ∷ ys else (if id_of x == id_of y then x ∷ ys else y ∷ with_begun x ys)) e

  put_same : (x y : Session D g) (ys : List (Session D g)) → nat_lt (id_of x) (id_of y) ≡ false → (id_of x == id_of y) ≡ true → with_begun x (y ∷ ys) ≡ x ∷ ys
  put_same x y ys e f = put_not_less x y ys e ∙ ap (λ (b : Bool). if b then x ∷ ys else y ∷ with_begun x ys) f

  put_later : (x y : Session D g) (ys : List (Session D g)) → nat_lt (id_of x) (id_of y) ≡ false → (id_of x == id_of y) ≡ false → with_begun x (y ∷ ys) ≡ y ∷ with_begun x ys
  put_later x y ys e f = put_not_less x y ys e ∙ ap (λ (b : Bool). if b then x ∷ ys else y ∷ with_begun x ys) f

  pub found_put : (x : Session D g) (xs : List (Session D g)) → found_at (id_of x) (with_begun x xs) ≡ Some x
  found_put x [] = found_here (id_of x) x [] refl
  found_put x (y ∷ ys) = by_order (id_of x) (id_of y)
      (λ e low. ap (λ (l : List (Session D g)). found_at (id_of x) l) (put_less x y ys e) ∙ found_here (id_of x) x (y ∷ ys) refl)
      (λ e f same. ap (λ (l : List (Session D g)). found_at (id_of x) l) (put_same x y ys e f) ∙ found_here (id_of x) x ys refl)
      (λ e f low. ap (λ (l : List (Session D g)). found_at (id_of x) l) (put_later x y ys e f)
      ∙ found_later (id_of x) y (with_begun x ys) (λ same. absurd (omega (arith, low, same))) ∙ found_put x ys)

  found_both : (number : ℕ) (y : Session D g) (xs ys : List (Session D g)) → found_at number xs ≡ found_at number ys → found_at number (y ∷ xs) ≡ found_at number (y ∷ ys)
  found_both number y xs ys e = ap (λ (o : Option (Session D g)). cond (id_of y == number) (Some y) o) e

  pub others_put : (number : ℕ) (x : Session D g) (xs : List (Session D g)) → (number ≡ id_of x → ⊥) → found_at number (with_begun x xs) ≡ found_at number xs
  others_put number x [] other = found_later number x [] (λ e. other (sym e))
  others_put number x (y ∷ ys) other = by_order (id_of x) (id_of y)
      (λ e low. ap (λ (l : List (Session D g)). found_at number l) (put_less x y ys e) ∙ found_later number x (y ∷ ys) (λ e. other (sym e)))
      (λ e f same. ap (λ (l : List (Session D g)). found_at number l) (put_same x y ys e f)
      ∙ found_later number x ys (λ e. other (sym e)) ∙ sym (found_later number y ys (λ e. other (sym e ∙ sym same))))
      (λ e f low. ap (λ (l : List (Session D g)). found_at number l) (put_later x y ys e f) ∙ found_both number y (with_begun x ys) ys (others_put number x ys other))

  -- they rise still
  all_put : (P : Session D g → Type 0) (x : Session D g) (xs : List (Session D g)) → AllByRecursion P xs → P x → AllByRecursion P (with_begun x xs)
  all_put P x [] all p = (p, tt)
  all_put P x (y ∷ ys) all p = by_order (id_of x) (id_of y)
      (λ e low. subst (λ (l : List (Session D g)). AllByRecursion P l) (sym (put_less x y ys e)) (p, all))
      (λ e f same. subst (λ (l : List (Session D g)). AllByRecursion P l) (sym (put_same x y ys e f)) (p, all.1))
      (λ e f low. subst (λ (l : List (Session D g)). AllByRecursion P l) (sym (put_later x y ys e f)) (all.0, all_put P x ys all.1 p))

  all_above : (a b : ℕ) (xs : List (Session D g)) → a ≤ b → AllByRecursion (λ (t : Session D g). b < id_of t) xs → AllByRecursion (λ (t : Session D g). a < id_of t) xs
  all_above a b [] low all = tt
  all_above a b (x ∷ xs) low all = let above = all.0 in (omega (arith, above, low), all_above a b xs low all.1)

  pub rise_put : (x : Session D g) (xs : List (Session D g)) → Rise xs → Rise (with_begun x xs)
  rise_put x [] rise = (tt, tt)
  rise_put x (y ∷ ys) rise = by_order (id_of x) (id_of y)
      (λ e low. subst (λ (l : List (Session D g)). Rise l) (sym (put_less x y ys e)) ((low, all_above (id_of x) (id_of y) ys (omega (arith, low)) rise.0), rise))
      (λ e f same. subst (λ (l : List (Session D g)). Rise l) (sym (put_same x y ys e f)) (all_above (id_of x) (id_of y) ys (omega (arith, same)) rise.0, rise.1))
      (λ e f low. subst (λ (l : List (Session D g)). Rise l) (sym (put_later x y ys e f)) (all_put (λ (t : Session D g). id_of y < id_of t) x ys rise.0 low, rise_put x ys rise.1))

  -- ---- its place ----

  place_first : (number : ℕ) (y : Session D g) (ys : List (Session D g)) → number ≤ id_of y → place_in number (y ∷ ys) ≡ 0
  place_first number y ys low = elim (leb_tells number (id_of y)) [
    | inl l ↦ ap (λ (b : Bool). cond (not b) (1 + place_in number ys) 0) l.0
    | inr r ↦ let high = r.1 in absurd (omega (arith, low, high))
  ]

  place_later : (number : ℕ) (y : Session D g) (ys : List (Session D g)) → id_of y < number → place_in number (y ∷ ys) ≡ suc (place_in number ys)
  place_later number y ys high = elim (leb_tells number (id_of y)) [
    | inl l ↦ let low = l.1 in absurd (omega (arith, low, high))
    | inr r ↦ ap (λ (b : Bool). cond (not b) (1 + place_in number ys) 0) r.0 ∙ omega arith
  ]

  at_place : (number : ℕ) (y : Session D g) (ys : List (Session D g)) (i : ℕ) (b : Bool) → place_in number (y ∷ ys) ≡ i → is_of_number number (slice_get (y ∷ ys) (place_in number (y ∷ ys))) ≡ b → is_of_number number (slice_get (y ∷ ys) i) ≡ b
  at_place number y ys i b e h = subst (λ (k : ℕ). is_of_number number (slice_get (y ∷ ys) k) ≡ b) e h

  -- the session that is there
  pub found_there : (number : ℕ) (xs : List (Session D g)) → is_of_number number (slice_get xs (place_in number xs)) ≡ true → found_at number xs ≡ slice_get xs (place_in number xs)
  found_there number [] h = cc
  found_there number (y ∷ ys) h = by_order number (id_of y)
      (λ e low.
      let first = place_first number y ys (omega (arith, low)) in
      let same = equal_so (id_of y) number (at_place number y ys 0 true first h) in
      absurd (omega (arith, low, same)))
      (λ e f same. found_here number y ys (sym same) ∙ ap (λ (k : ℕ). slice_get (y ∷ ys) k) (sym (place_first number y ys (omega (arith, same)))))
      (λ e f low.
      let later = place_later number y ys low in
      found_later number y ys (λ same. absurd (omega (arith, low, same)))
      ∙ found_there number ys (at_place number y ys (suc (place_in number ys)) true later h)
      ∙ ap (λ (k : ℕ). slice_get (y ∷ ys) k) (sym later))

  -- .. or isn't
  pub none_there : (number : ℕ) (xs : List (Session D g)) → Rise xs → is_of_number number (slice_get xs (place_in number xs)) ≡ false → found_at number xs ≡ None
  none_there number [] rise h = refl
  none_there number (y ∷ ys) rise h = by_order number (id_of y)
      (λ e low. found_later number y ys (λ same. absurd (omega (arith, low, same))) ∙ none_above number (id_of y) ys (omega (arith, low)) rise.0)
      (λ e f same.
      let first = place_first number y ys (omega (arith, same)) in
      absurd (unequal_so (id_of y) number (at_place number y ys 0 false first h) (sym same)))
      (λ e f low.
      let later = place_later number y ys low in
      found_later number y ys (λ same. absurd (omega (arith, low, same))) ∙ none_there number ys rise.1 (at_place number y ys (suc (place_in number ys)) false later h))

  -- in the place of the one that is there it stands as it should
  pub set_there : (x : Session D g) (xs : List (Session D g)) → is_of_number (id_of x) (slice_get xs (place_in (id_of x) xs)) ≡ true → set xs (place_in (id_of x) xs) x ≡ with_begun x xs
  set_there x [] h = cc
  set_there x (y ∷ ys) h = by_order (id_of x) (id_of y)
      (λ e low.
      let first = place_first (id_of x) y ys (omega (arith, low)) in
      let same = equal_so (id_of y) (id_of x) (at_place (id_of x) y ys 0 true first h) in
      absurd (omega (arith, low, same)))
      (λ e f same. ap (λ (k : ℕ). set (y ∷ ys) k x) (place_first (id_of x) y ys (omega (arith, same))) ∙ sym (put_same x y ys e f))
      (λ e f low.
      let later = place_later (id_of x) y ys low in
      ap (λ (k : ℕ). set (y ∷ ys) k x) later ∙ ap (λ (l : List (Session D g)). y ∷ l) (set_there x ys (at_place (id_of x) y ys (suc (place_in (id_of x) ys)) true later h))
      ∙ sym (put_later x y ys e f))

  -- .. and so where it is put between those that are
  pub insert_there : (x : Session D g) (xs : List (Session D g)) → is_of_number (id_of x) (slice_get xs (place_in (id_of x) xs)) ≡ false → insert xs (place_in (id_of x) xs) x ≡ with_begun x xs
  insert_there x [] h = refl
  insert_there x (y ∷ ys) h = by_order (id_of x) (id_of y)
      (λ e low. ap (λ (k : ℕ). insert (y ∷ ys) k x) (place_first (id_of x) y ys (omega (arith, low))) ∙ sym (put_less x y ys e))
      (λ e f same.
      let first = place_first (id_of x) y ys (omega (arith, same)) in
      absurd (unequal_so (id_of y) (id_of x) (at_place (id_of x) y ys 0 false first h) (sym same)))
      (λ e f low.
      let later = place_later (id_of x) y ys low in
      ap (λ (k : ℕ). insert (y ∷ ys) k x) later ∙ ap (λ (l : List (Session D g)). y ∷ l) (insert_there x ys (at_place (id_of x) y ys (suc (place_in (id_of x) ys)) false later h))
      ∙ sym (put_later x y ys e f))

  pub place_least : (number : ℕ) (xs : List (Session D g)) → place_in number xs ≤ length xs
  place_least number [] = omega arith
  place_least number (y ∷ ys) = elim (leb_tells number (id_of y)) [
    | inl l ↦ let first = place_first number y ys l.1 in omega (arith, first)
    | inr r ↦ let later = place_later number y ys r.1 in let less = place_least number ys in omega (arith, later, less)
  ]

  -- the place, by where the first stands that has at least the number
  pub place_some : (number : ℕ) (xs : List (Session D g)) (i : ℕ) → Some i ≡ position (λ (s : Session D g). nat_le number (id_of s)) xs → i ≡ place_in number xs
  place_some number xs i e = of (nat_lt (place_in number xs) (length xs)) e
    where
      of : (b : Bool) → Some i ≡ cond b (Some (place_in number xs)) None → i ≡ place_in number xs
      of true e = cc
      of false e = cc

  pub place_none : (number : ℕ) (xs : List (Session D g)) → None ≡ position (λ (s : Session D g). nat_le number (id_of s)) xs → length xs ≡ place_in number xs
  place_none number xs e = of (nat_lt (place_in number xs) (length xs)) refl e
    where
      of : (b : Bool) → nat_lt (place_in number xs) (length xs) ≡ b → None ≡ cond b (Some (place_in number xs)) None → length xs ≡ place_in number xs
      of true is e = cc
      of false is e = let least = place_least number xs in let most = ltb-false (place_in number xs) (length xs) is in omega (arith, least, most)

  -- ---- the last one ----

  found_end : (number : ℕ) (xs : List (Session D g)) (x : Session D g) → (id_of x ≡ number → ⊥) → found_at number (xs ++ x ∷ []) ≡ found_at number xs
  found_end number [] x other = found_later number x [] other
  found_end number (y ∷ ys) x other = found_both number y (ys ++ x ∷ []) ys (found_end number ys x other)

  pub without_last : (number : ℕ) (xs : List (Session D g)) (x : Session D g) → (number ≡ id_of x → ⊥) → found_at number (xs ++ x ∷ []) ≡ found_at number xs
  without_last number xs x other = found_end number xs x (λ e. other (sym e))

  last_above : (bound : ℕ) (xs : List (Session D g)) (x : Session D g) → AllByRecursion (λ (t : Session D g). bound < id_of t) (xs ++ x ∷ []) → AllByRecursion (λ (t : Session D g). bound < id_of t) xs × (bound < id_of x)
  last_above bound [] x all = (tt, all.0)
  last_above bound (y ∷ ys) x all = let more = last_above bound ys x all.1 in ((all.0, more.0), more.1)

  pub rise_without : (xs : List (Session D g)) (x : Session D g) → Rise (xs ++ x ∷ []) → Rise xs
  rise_without [] x rise = tt
  rise_without (y ∷ ys) x rise = ((last_above (id_of y) ys x rise.0).0, rise_without ys x rise.1)

  -- no other one has its number
  pub last_alone : (xs : List (Session D g)) (x : Session D g) → Rise (xs ++ x ∷ []) → found_at (id_of x) xs ≡ None
  last_alone [] x rise = refl
  last_alone (y ∷ ys) x rise =
      let above = (last_above (id_of y) ys x rise.0).1 in
      found_later (id_of x) y ys (λ same. absurd (omega (arith, above, same))) ∙ last_alone ys x rise.1

  pub found_last : (xs : List (Session D g)) (x : Session D g) → Rise (xs ++ x ∷ []) → found_at (id_of x) (xs ++ x ∷ []) ≡ Some x
  found_last [] x rise = found_here (id_of x) x [] refl
  found_last (y ∷ ys) x rise =
      let above = (last_above (id_of y) ys x rise.0).1 in
      found_later (id_of x) y (ys ++ x ∷ []) (λ same. absurd (omega (arith, above, same))) ∙ found_last ys x rise.1

-- ---- what they stand for ----

module _ {D : Type 0} {g : Ghosts D} (d : Meaning D) where
  pub same_number : (x : Session D g) (s : Begun) → StandsFor d x s → id_of x ≡ session_number s
  same_number (sessions.Whole id p) (Whole s) h = h.is_of.0
  same_number (sessions.Alone id p) (Alone s) h = h.is_of.0
  same_number (sessions.Whole id p) (Alone s) h = absurd h.is_of
  same_number (sessions.Alone id p) (Whole s) h = absurd h.is_of

  pub same_length : (xs : List (Session D g)) (ys : List Begun) → EachStandsFor d xs ys → length xs ≡ length ys
  same_length [] [] h = refl
  same_length (x ∷ xs) (y ∷ ys) h = let more = same_length xs ys h.1 in omega (arith, more)
  same_length [] (y ∷ ys) h = absurd h
  same_length (x ∷ xs) [] h = absurd h

  at_bool : (b : Bool) (x : Session D g) (y : Begun) (r : Option (Session D g)) (s : Option Begun) → StandsFor d x y → StandsForRunning d r s → StandsForRunning d (cond b (Some x) r) (cond b (Some y) s)
  at_bool true x y r s h k = h
  at_bool false x y r s h k = k

  pub stands_at : (number : ℕ) (xs : List (Session D g)) (ys : List Begun) → EachStandsFor d xs ys → StandsForRunning d (found_at number xs) (session_at number ys)
  stands_at number [] [] h = tt
  stands_at number (x ∷ xs) (y ∷ ys) h =
      subst (λ (n : ℕ). StandsForRunning d (found_at number (x ∷ xs)) (cond (n == number) (Some y) (session_at number ys))) (same_number x y h.0)
      (at_bool (id_of x == number) x y (found_at number xs) (session_at number ys) h.0 (stands_at number xs ys h.1))
  stands_at number [] (y ∷ ys) h = absurd h
  stands_at number (x ∷ xs) [] h = absurd h

  put_bools : (b c : Bool) (x1 x2 x3 : List (Session D g)) (y1 y2 y3 : List Begun) → EachStandsFor d x1 y1 → EachStandsFor d x2 y2 → EachStandsFor d x3 y3
      → EachStandsFor d (if b then x1 else (if c then x2 else x3)) (if b then y1 else (if c then y2 else y3))
  put_bools true c x1 x2 x3 y1 y2 y3 one two three = one
  put_bools false true x1 x2 x3 y1 y2 y3 one two three = two
  put_bools false false x1 x2 x3 y1 y2 y3 one two three = three

  pub each_put : (x : Session D g) (s : Begun) (xs : List (Session D g)) (ys : List Begun) → StandsFor d x s → EachStandsFor d xs ys → EachStandsFor d (with_begun x xs) (with_session s ys)
  each_put x s [] [] h each = (h, tt)
  each_put x s (a ∷ xs) (b ∷ ys) h each =
      subst (λ (n : ℕ × ℕ). EachStandsFor d (with_begun x (a ∷ xs)) (if nat_lt n.0 n.1 then s ∷ b ∷ ys else (if n.0 == n.1 then s ∷ ys else b ∷ with_session s ys)))
      (λ i. (same_number x s h i, same_number a b each.0 i))
      (put_bools (nat_lt (id_of x) (id_of a)) (id_of x == id_of a) (x ∷ a ∷ xs) (x ∷ xs) (a ∷ with_begun x xs) (s ∷ b ∷ ys) (s ∷ ys) (b ∷ with_session s ys)
      (h, each) (h, each.1) (each.0, each_put x s xs ys h each.1))
  each_put x s [] (b ∷ ys) h each = absurd each
  each_put x s (a ∷ xs) [] h each = absurd each

  -- the sessions as they were, where the one that is there stands for the same as before
  pub each_same : (t : Session D g) (r : Begun) (xs : List (Session D g)) (ys : List Begun) (x : Session D g) → Rise xs → found_at (id_of t) xs ≡ Some x → session_at (id_of t) ys ≡ Some r → StandsFor d t r → EachStandsFor d xs ys
      → EachStandsFor d (with_begun t xs) ys
  each_same t r [] [] x rise there at h each = cc
  each_same t r (a ∷ xs) (b ∷ ys) x rise there at h each = by_order (id_of t) (id_of a)
      (λ e low.
      let none = found_later (id_of t) a xs (λ same. absurd (omega (arith, low, same))) ∙ none_above (id_of t) (id_of a) xs (omega (arith, low)) rise.0 in
      cc (sym there ∙ none))
      (λ e f same.
      let mine : (session_number b == id_of t) ≡ true = equal (session_number b) (id_of t) (sym (same_number a b each.0) ∙ sym same) in
      let found : Some b ≡ Some r = sym (ap (λ (c : Bool). cond c (Some b) (session_at (id_of t) ys)) mine) ∙ at in
      let is : b ≡ r = cc in
      subst (λ (l : List (Session D g)). EachStandsFor d l (b ∷ ys)) (sym (put_same t a xs e f)) (subst (λ (y : Begun). StandsFor d t y) (sym is) h, each.1))
      (λ e f low.
      let other : (session_number b == id_of t) ≡ false = unequal (session_number b) (id_of t) (λ same. absurd (let id = same_number a b each.0 in omega (arith, low, same, id))) in
      subst (λ (l : List (Session D g)). EachStandsFor d l (b ∷ ys)) (sym (put_later t a xs e f)) (
        each.0,
        each_same t r xs ys x rise.1 (sym (found_later (id_of t) a xs (λ same. absurd (omega (arith, low, same)))) ∙ there)
            (sym (ap (λ (c : Bool). cond c (Some b) (session_at (id_of t) ys)) other) ∙ at) h each.1,
      ))
  each_same t r [] (b ∷ ys) x rise there at h each = absurd each
  each_same t r (a ∷ xs) [] x rise there at h each = absurd each
