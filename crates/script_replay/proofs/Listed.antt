-- The sessions, one after another.
use Rattle.std.proofs.Common.{◌≡◌, ◌<◌, ◌≤◌, ℕ, ◌+◌, zero, suc, ◌==◌, Bool, true, false, nat_lt, arith, length, List, [], ◌∷◌, ◌++◌, take, set, get_or, slice_get, vec_capacity, length-set, Option, Some, refl, sym, ap, ◌∙◌, subst, append_assoc, append-nil}
use Rattle.std.specs.Prelude.{◌&&◌, ◌||◌, not, if◌then◌else◌}
use Rattle.std.specs.List.{insert}
use Rattle.std.specs.Vec.{with_item}
use Rattle.std.proofs.lemmas.Bool.{le-ltb}
use Rattle.std.proofs.lemmas.Option.{slice_get-get_or, slice_get_past}
use Rattle.std.proofs.lemmas.List.{map-append, take_more, take_all}
use Rattle.disk_model.specs.Disk.{Meaning}
use Rattle.disk_model.specs.declared.disk.Disk.{Ghosts}
use Rattle.script_reader.specs.declared.event.Event.{Event}
use Rattle.script_reader.specs.declared.event.EventHead.{EventHead}
use Rattle.script_reader.specs.declared.line.Line.{Line}
use Rattle.script_reader.specs.EventHeads.{event_of}
use Rattle.script_reader.specs.Alone.{PastAlone}
use Rattle.script_reader.specs.Scripts.{Begun, Whole, Alone, Ends}
use Rattle.script_reader.specs.Sessions.{Sessions as Script, begins_session, stands_first, moment_in, moment_of, is_from, is_in_turn, AllEnd}
use Rattle.two_worlds.specs.LowPumps as low_pump
use Rattle.two_worlds.specs.declared.low_pump.LowPump.{LowPump}
use Rattle.two_worlds.specs.Printing.{lines_in}
use Rattle.script_replay.specs.declared.session.Session.{Session}
use Rattle.script_replay.specs.declared.session.Session.TheVariants as sessions
use Rattle.script_replay.specs.declared.sessions.Sessions.{Sessions}
use Rattle.script_replay.specs.Sessions.{id_of, StandsFor, is_of_number, Rise, AreInOrder, EachStandsFor, AllStandFor}
use Rattle.script_replay.proofs.Numbered.{same_length}

-- ---- a line may come ----

pub in_turn_first : {D : Type 0} {g : Ghosts D} (d : Meaning D) (s : Sessions D g) (t : Script) (line : Line) → AllStandFor d s t → stands_first line ≡ true → s.is_under_way ≡ false
    → is_in_turn t line ≡ (not (begins_session line) || nat_lt (length s.begun.items) 16)
in_turn_first d s t line stand first way =
    ap (λ b. if b then (not t.is_under_way && (not (begins_session line) || nat_lt (length t.begun) 16)) else is_from t.moment (moment_in line)) first
    ∙ ap (λ b. not b && (not (begins_session line) || nat_lt (length t.begun) 16)) (sym stand.under_way ∙ way)
    ∙ ap (λ n. not (begins_session line) || nat_lt n 16) (sym (same_length d s.begun.items t.begun stand.each))

-- ---- one of them ----

module _ {D : Type 0} {g : Ghosts D} where
  pub at_slice : (xs : List (Session D g)) (i : ℕ) (x : Session D g) → i < length xs → x ≡ get_or xs i x → slice_get xs i ≡ Some x
  at_slice xs i x low is = slice_get-get_or xs i x low ∙ ap (λ (y : Session D g). Some y) (sym is)

  pub is_at_so : (number place id : ℕ) (xs ys : List (Session D g)) (x : Session D g) → xs ≡ ys → place < length xs → x ≡ get_or xs place x → id ≡ id_of x → (id == number) ≡ is_of_number number (slice_get ys place)
  is_at_so number place id xs ys x same low is e =
      ap (λ (n : ℕ). n == number) e ∙ sym (ap (λ (o : Option (Session D g)). is_of_number number o) (ap (λ (l : List (Session D g)). slice_get l place) (sym same) ∙ at_slice xs place x low is))

  pub is_at_not : (number place : ℕ) (xs ys : List (Session D g)) → xs ≡ ys → length xs ≤ place → nat_lt place (length xs) ≡ is_of_number number (slice_get ys place)
  is_at_not number place xs ys same high =
      le-ltb place (length xs) high ∙ sym (ap (λ (o : Option (Session D g)). is_of_number number o) (ap (λ (l : List (Session D g)). slice_get l place) (sym same) ∙ slice_get_past xs place high))

  -- a place where one of some number stands
  pub within_so : (number i : ℕ) (xs : List (Session D g)) → is_of_number number (slice_get xs i) ≡ true → i < length xs
  within_so number zero [] is = cc
  within_so number (suc i) [] is = cc
  within_so number zero (y ∷ ys) is = omega arith
  within_so number (suc i) (y ∷ ys) is = let low = within_so number i ys is in omega (arith, low)

  pub set_here : (xs : List (Session D g)) (i : ℕ) (x : Session D g) → i < length xs → slice_get (set xs i x) i ≡ Some x
  set_here [] i x low = absurd (omega (arith, low))
  set_here (y ∷ ys) zero x low = refl
  set_here (y ∷ ys) (suc i) x low = set_here ys i x (omega (arith, low))

  pub insert_here : (xs : List (Session D g)) (i : ℕ) (x : Session D g) → i ≤ length xs → slice_get (insert xs i x) i ≡ Some x
  insert_here xs zero x low = refl
  insert_here [] (suc i) x low = absurd (omega (arith, low))
  insert_here (y ∷ ys) (suc i) x low = insert_here ys i x (omega (arith, low))

  pub nothing_left : (xs : List (Session D g)) → length xs ≡ 0 → xs ≡ []
  nothing_left [] e = refl
  nothing_left (x ∷ xs) e = absurd (omega (arith, e))

  pub order_item : (first last : Sessions D g) (place : ℕ) (x : Session D g) → last.begun ≡ with_item first.begun place x → AreInOrder first → Rise last.begun.items → AreInOrder last
  order_item first last place x is order rise =
      let same : length last.begun.items ≡ length first.begun.items = ap (λ v. length v.items) is ∙ length-set first.begun.items place x in
      let few = order.few in
      record { rise = rise; few = omega (arith, same, few); room = subst (λ v. 16 ≤ vec_capacity v) (sym is) order.room }

pub under_way_so : (was begins is : Bool) → is ≡ (was || not begins) → begins ≡ false → is ≡ true
under_way_so true begins is e f = e
under_way_so false begins is e f = e ∙ ap not f

-- ---- the end of each ----

all_end_more : (ys : List Begun) (y : Begun) (first second : List Event) → AllEnd ys first → Ends (Some y) second → AllEnd (ys ++ y ∷ []) (first ++ second)
all_end_more [] y first second h k = (second, [], k, refl, ap (λ (l : List Event). l ++ second) h ∙ sym (append-nil second))
all_end_more (z ∷ ys) y first second (a, b, ends, rest, e) k = (a, b ++ second, ends, all_end_more ys y b second rest k, ap (λ (l : List Event). l ++ second) e ∙ append_assoc a b second)

pub none_end : {D : Type 0} (g : Ghosts D) (d : Meaning D) (running : List Begun) → EachStandsFor {g = g} d [] running → AllEnd running []
none_end g d [] h = refl
none_end g d (y ∷ ys) h = absurd h

module _ {D : Type 0} {g : Ghosts D} (d : Meaning D) where
  split_last : (xs : List (Session D g)) (x : Session D g) (running : List Begun) → EachStandsFor d (xs ++ x ∷ []) running → (ys : List Begun) × (y : Begun) × (running ≡ ys ++ y ∷ []) × EachStandsFor d xs ys × StandsFor d x y
  split_last [] x [] h = absurd h
  split_last [] x (y ∷ []) h = ([], y, refl, tt, h.0)
  split_last [] x (y ∷ z ∷ zs) h = absurd h.1
  split_last (a ∷ xs) x [] h = absurd h
  split_last (a ∷ xs) x (b ∷ running) h =
      let r = split_last xs x running h.1 in (b ∷ r.0, r.1, ap (λ (l : List Begun). b ∷ l) r.2, (h.0, r.3), r.4)

  pub ends_more : (xs : List (Session D g)) (i : ℕ) (x : Session D g) (heads : List EventHead) (head : EventHead) → i < length xs → x ≡ get_or xs i x
      → ((running : List Begun) → EachStandsFor d (take i xs) running → AllEnd running (lines_in heads)) → ((running : Begun) → StandsFor d x running → Ends (Some running) (event_of head ∷ []))
      → (running : List Begun) → EachStandsFor d (take (i + 1) xs) running → AllEnd running (lines_in (heads ++ head ∷ []))
  ends_more xs i x heads head low is each one running h =
      let more : take (i + 1) xs ≡ take i xs ++ x ∷ [] = take_more xs i x low ∙ ap (λ (y : Session D g). take i xs ++ y ∷ []) (sym is) in
      let r = split_last (take i xs) x running (subst (λ (l : List (Session D g)). EachStandsFor d l running) more h) in
      subst (λ (l : List Event). AllEnd running l) (sym (map-append event_of heads (head ∷ [])))
      (subst (λ (l : List Begun). AllEnd l (lines_in heads ++ event_of head ∷ [])) (sym r.2) (all_end_more r.0 r.1 (lines_in heads) (event_of head ∷ []) (each r.0 r.3) (one r.1 r.4)))

  pub ends_all : (xs : List (Session D g)) (i : ℕ) (heads : List EventHead) → length xs ≤ i → ((running : List Begun) → EachStandsFor d (take i xs) running → AllEnd running (lines_in heads))
      → (running : List Begun) → EachStandsFor d xs running → AllEnd running (lines_in heads)
  ends_all xs i heads all each running h = each running (subst (λ (l : List (Session D g)). EachStandsFor d l running) (sym (take_all i xs all)) h)

  pub alone_moment : (before : Session D g) (id : ℕ) (p : LowPump) (moment : ℕ) → before ≡ sessions.Alone id p → ((q : PastAlone) → low_pump.LowStandsFor p q → moment ≡ q.moment)
      → (running : Begun) → StandsFor d before running → moment ≡ moment_of running
  alone_moment before id p moment is stands running h = at running (subst (λ (s : Session D g). StandsFor d s running) is h)
    where
      at : (running : Begun) → StandsFor {g = g} d (sessions.Alone id p) running → moment ≡ moment_of running
      at (Whole s) h = absurd h.is_of
      at (Alone s) h = stands s.past h.is_of.2
