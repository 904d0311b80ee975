-- Each call on one thread keeps what the ends stand for.
use Rattle.std.proofs.Common.{◌≡◌, ℕ, ◌-◌, ◌≤◌, ◌<◌, true, List, [], ◌∷◌, ◌++◌, length, drop, slice_get, Some, None, sym, refl, ap, ◌∙◌, subst, append_assoc, le_refl, arith}
use Rattle.std.specs.List.{All}
use Rattle.std.proofs.lemmas.List.{length-append}
use Rattle.std.proofs.lemmas.Option.{slice_get_within, get_or_from_slice_get}
use Rattle.circular_buffer.specs.Buffer.{buffer, keep_last}
use Rattle.pump_frame.specs.Averages.{average_of}
use Rattle.pump_frame.specs.declared.frame.Item.{Item}
use Rattle.moving_avg.specs.Windows.{HoldsTimes, averaging_in}
use Rattle.pump_core.specs.Passage.{Shape, Low, High, ComesNext, IsAverage, Agrees, Fits, forwards, tried, takes, sought, publishes, Passes, Refuses, Reads, Gives, GivesNone}
use Rattle.pump_core.proofs.PassageSteps.{all_weaken, average_now, forwards_agrees, tried_agrees, reads_agrees, takes_agrees, sought_agrees, publishes_agrees}
use Rattle.passage.specs.declared.plain.PlainEnds.{PlainEnds}
use Rattle.passage.specs.Plain.{StandsFor, shape_of, above}

the_first : (x y : Item) (ys : List Item) → slice_get (y ∷ ys) 0 ≡ Some x → y ≡ x
the_first x y ys at = get_or_from_slice_get (y ∷ ys) 0 x x at

-- all but the first item are kept
pub all_but_first : (xs : List Item) (x : Item) (n : ℕ) → slice_get xs 0 ≡ Some x → n ≡ length xs → keep_last (n - 1) xs ≡ drop 1 xs
all_but_first xs x n at is =
    let some = slice_get_within xs 0 x at in
    let one : length xs - (n - 1) ≡ 1 = omega (arith, is, some) in
    ap (λ (k : ℕ). drop k xs) one

-- what fits between the ends, of a list that is in between
fits_in : (s : Shape) (l : Low) (h : High) (held : List Item) → Agrees s l h → l.forwarded ≡ h.taken ++ held → length held ≤ s.places → Fits s l h
fits_in s l h held a is le = record { agrees = a; room = omega (arith, ap length is, length-append h.taken held) }

module _ (e e' : PlainEnds) (l : Low) (h : High) (same : e'.window ≡ e.window) (s : StandsFor e l h) where
  same_shape : e'.items.capacity ≡ e.items.capacity → shape_of e' ≡ shape_of e
  same_shape c = λ i. record { places = c i; averaging = averaging_in (same i) }

  same_times : HoldsTimes e'.window h.times
  same_times = subst (λ w. HoldsTimes w h.times) (sym same) s.times

  -- of the shape before, which stays
  fits_still : (l' : Low) (h' : High) → e'.items.capacity ≡ e.items.capacity → Agrees (shape_of e) l' h' → l'.forwarded ≡ h'.taken ++ e'.items.items → Fits (shape_of e') l' h'
  fits_still l' h' c a is = fits_in (shape_of e') l' h' e'.items.items (subst (λ z. Agrees z l' h') (sym (same_shape c)) a) is e'.fits

  pub passes : (x : Item) → e'.last_removed ≡ e.last_removed → e'.items ≡ buffer (e.items.items ++ x ∷ []) e.items.capacity → ComesNext l.forwarded x.number → Passes (shape_of e) true (StandsFor e') l h x
  passes x last is f =
      let whole : l.forwarded ++ x ∷ [] ≡ h.taken ++ e'.items.items = ap (λ z. z ++ x ∷ []) s.between ∙ append_assoc h.taken e.items.items (x ∷ []) ∙ ap (λ b. h.taken ++ b.items) (sym is) in
      let capacity : e'.items.capacity ≡ e.items.capacity = ap (λ b. b.capacity) is in
      let items : e'.items.items ≡ e.items.items ++ x ∷ [] = ap (λ b. b.items) is in (
        (λ _. omega (arith, ap length s.between, length-append h.taken e.items.items, ap length items, length-append e.items.items (x ∷ []), capacity, e'.fits)),
        record {
          lawful = fits_still (forwards l x) h capacity (forwards_agrees (shape_of e) l h s.lawful.agrees x f) whole;
          between = whole;
          floor = s.floor ∙ ap above (sym last);
          times = same_times;
        },
      )

  pub refuses : e'.last_removed ≡ e.last_removed → e'.items ≡ e.items → ¬ (length e.items.items < e.items.capacity) → Refuses (shape_of e) true (StandsFor e') l h
  refuses last is full =
      let whole : l.forwarded ≡ h.taken ++ e'.items.items = s.between ∙ ap (λ b. h.taken ++ b.items) (sym is) in (
        length h.taken,
        omega (arith, ap length s.between, length-append h.taken e.items.items, e.fits),
        (λ _. refl),
        record {
          lawful = fits_still (tried l (length h.taken)) h (ap (λ b. b.capacity) is) (tried_agrees (shape_of e) l h s.lawful.agrees (length h.taken) (le_refl _)) whole;
          between = whole;
          floor = s.floor ∙ ap above (sym last);
          times = same_times;
        },
      )

  pub gives_from : (xs : List Item) → e.items.items ≡ xs → (x : Item) (removed : ℕ) → e'.last_removed ≡ Some removed → slice_get xs 0 ≡ Some x → e'.items ≡ buffer (drop 1 xs) e.items.capacity → Gives (shape_of e) true (StandsFor e') l h x removed
  gives_from [] was x removed last at is = absurd (let t = slice_get_within [] 0 x at in omega (arith, t))
  gives_from (y ∷ ys) was x removed last at is =
      let whole : l.forwarded ≡ (h.taken ++ x ∷ []) ++ ys = s.between ∙ ap (λ z. h.taken ++ z) (was ∙ ap (λ z. z ∷ ys) (the_first x y ys at)) ∙ sym (append_assoc h.taken (x ∷ []) ys) in
      let left : l.forwarded ≡ (h.taken ++ x ∷ []) ++ e'.items.items = whole ∙ ap (λ b. (h.taken ++ x ∷ []) ++ b.items) (sym is) in (
        (λ _. (ys, whole)),
        record {
          lawful = fits_still l (takes h x removed) (ap (λ b. b.capacity) is) (takes_agrees (shape_of e) l h s.lawful.agrees x removed ys whole) left;
          between = left;
          floor = ap above (sym last);
          times = same_times;
        },
      )

  -- a copy of the first item is given
  pub gives_copy : (x y : Item) (removed n : ℕ) → e'.last_removed ≡ Some removed → x ≡ y → slice_get e.items.items 0 ≡ Some x → n ≡ length e.items.items → e'.items ≡ buffer (keep_last (n - 1) e.items.items) e.items.capacity → Gives (shape_of e) true (StandsFor e') l h y removed
  gives_copy x y removed n last same_item at is left =
      subst (λ (z : Item). Gives (shape_of e) true (StandsFor e') l h z removed) same_item
      (gives_from e.items.items refl x removed last at (left ∙ ap (λ (xs : List Item). buffer xs e.items.capacity) (all_but_first e.items.items x n at is)))

  pub none_from : (xs : List Item) → e'.last_removed ≡ e.last_removed → e.items.items ≡ xs → slice_get xs 0 ≡ None → e'.items ≡ buffer (drop 1 xs) e.items.capacity → GivesNone (shape_of e) true (StandsFor e') l h
  none_from (y ∷ ys) last was at is = absurd (grind (arith, at))
  none_from [] last was at is =
      let all : length h.taken ≡ length l.forwarded = omega (arith, ap length s.between, length-append h.taken e.items.items, ap length was) in
      let whole : l.forwarded ≡ h.taken ++ e'.items.items = s.between ∙ ap (λ z. h.taken ++ z) was ∙ ap (λ b. h.taken ++ b.items) (sym is) in (
        (λ _. all),
        record {
          lawful = fits_still l (sought h (length h.taken)) (ap (λ b. b.capacity) is) (sought_agrees (shape_of e) l h s.lawful.agrees (length h.taken) (omega (arith, all))) whole;
          between = whole;
          floor = s.floor ∙ ap above (sym last);
          times = same_times;
        },
      )

-- what is read is the average of all times, and no pair before had more of them
pub reads : (e : PlainEnds) (l : Low) (h : High) (k v : ℕ) → StandsFor e l h → k ≡ length h.times → v ≡ average_of (averaging_in e.window) h.times → Reads (shape_of e) true (StandsFor e) l h k v
reads e l h k v s all is =
    let up : All (λ p. p.0 ≤ k) l.pairs = all_weaken (IsAverage (shape_of e) h.times) (λ p. p.0 ≤ k) l.pairs (λ p a. omega (arith, a.0, all)) s.lawful.agrees.averages in (
      up,
      (λ _. (all, is)),
      record {
        lawful = record { agrees = reads_agrees (shape_of e) l h s.lawful.agrees k v (average_now (shape_of e) h.times k v all is) up; room = s.lawful.room };
        between = s.between;
        floor = s.floor;
        times = s.times;
      },
    )

-- a time is published
pub published : (e e' : PlainEnds) (l : Low) (h : High) (micros : ℕ) → StandsFor e l h → e'.last_removed ≡ e.last_removed → e'.items ≡ e.items → averaging_in e'.window ≡ averaging_in e.window → HoldsTimes e'.window (h.times ++ micros ∷ []) → StandsFor e' l (publishes h micros)
published e e' l h micros s last is same times =
    let shape : shape_of e' ≡ shape_of e = λ i. record { places = (is i).capacity; averaging = same i } in
    record {
      lawful = subst (λ z. Fits z l (publishes h micros)) (sym shape) (record { agrees = publishes_agrees (shape_of e) l h s.lawful.agrees micros; room = s.lawful.room });
      between = s.between ∙ ap (λ b. h.taken ++ b.items) (sym is);
      floor = s.floor ∙ ap above (sym last);
      times = times;
    }
