-- Low's sides of two records, and where they differ.
use Rattle.std.proofs.Common.{◌≡◌, inl, inr, ℕ, zero, suc, ◌+◌, ◌<◌, ◌≤◌, Bool, true, false, List, [], ◌∷◌, ◌++◌, length, get_or, length-append, append_assoc, map, Option, None, Some, refl, sym, ap, ◌∙◌, subst, arith}
use Rattle.std.specs.Prelude.{◌&&◌, ◌==◌, is_some, slice_get}
use Rattle.std.specs.Str.{bytes_eq}
use Rattle.std.proofs.lemmas.Bool.{and_parts, eqb-true, eq-eqb}
use Rattle.std.proofs.lemmas.Slice.Eq.{bytes_eq-Decides}
use Rattle.pump_frame.specs.declared.row.SessionRow.{SessionRow}
use Rattle.pump_core.specs.History.{Opening}
use Rattle.pump_audit.specs.declared.compared.What.{What}
use Rattle.pump_audit.specs.declared.compared.What.TheVariants as what
use Rattle.pump_audit.specs.declared.compared.Compared.TheVariants.{Agree, Differ}
use Rattle.pump_audit.specs.declared.entry.Entry.{Entry}
use Rattle.pump_audit.specs.declared.entry.Entry.TheVariants as entries
use Rattle.pump_audit.specs.declared.form.Form.{Form}
use Rattle.pump_audit.specs.declared.form.RecordPlace.{RecordPlace}
use Rattle.pump_audit.specs.declared.side.Item.{Item}
use Rattle.pump_audit.specs.declared.side.Opened.{Opened}
use Rattle.pump_audit.specs.declared.side.Side.{Side}
use Rattle.pump_audit.specs.Comparing.{ItemTold, SideTold, form_of, with_entry, same_bool, unlike, AreAlike, DifferAt, SameOpening, SidesAre}
use Rattle.pump_audit.specs.Entries.{IsEntry}
use Rattle.pump_audit.specs.Places.{behind_line}
use Rattle.pump_audit.specs.Siding.{tells, AlikeSoFar, MatchesTo, SideOpens, Stands, form_of_side, GoesOnBy, has_same_row, has_same_opening}

-- ---- one more line ----

lines_more : (s : SideTold) (e : Entry) (place : RecordPlace) → (with_entry s e place).lines ≡ s.lines + 1
lines_more s (entries.Opening row next is_held) place = refl
lines_more s (entries.Coarse session) place = refl
lines_more s (entries.Look line) place = refl
lines_more s (entries.Comment note) place = refl

pub goes_by : (first : Option (List ItemTold)) (v : Side) (s : SideTold) → Stands first v s → (e : Entry) (text : List ℕ) → IsEntry e text → (f : Form) → behind_line (form_of_side v) e ≡ Some f → (new : Side) → Stands first new (with_entry s e f.place) → GoesOnBy first s text new true
goes_by first v s was e text is f h new stands =
    let same : form_of_side v ≡ form_of s = λ i. record { session = (was.opens.row i).id; place = was.place i } in
    (e, is, with_entry s e f.place, (f, sym (ap (λ (x : Form). behind_line x e) same) ∙ h, refl), stands, lines_more s e f.place)

-- ---- two lists ----

own_of : (items : List Item) (n : ℕ) (own : Item) → n < length items → own ≡ get_or items n own → slice_get (map tells items) n ≡ Some (tells own)
own_of [] n own low is = absurd (omega (arith, low))
own_of (x ∷ items) zero own low is = ap (λ (y : Item). Some (tells y)) (sym is)
own_of (x ∷ items) (suc n) own low is = own_of items n own (omega (arith, low)) is

none_of : (items : List Item) (n : ℕ) → length items ≤ n → slice_get (map tells items) n ≡ None
none_of [] n past = refl
none_of (x ∷ items) zero past = absurd (omega (arith, past))
none_of (x ∷ items) (suc n) past = none_of items n (omega (arith, past))

pub nothing_met : (us : List ItemTold) → AlikeSoFar us []
nothing_met [] = tt
nothing_met (u ∷ us) = tt

alike_more : (us xs : List ItemTold) (u x : ItemTold) → AlikeSoFar us xs → slice_get us (length xs) ≡ Some u → unlike u x ≡ None → AlikeSoFar us (xs ++ x ∷ [])
alike_more [] [] u x h is alike = absurd (cc)
alike_more (v ∷ us) [] u x h is alike = (let same : v ≡ u = cc in subst (λ z. unlike z x ≡ None) (sym same) alike, nothing_met us)
alike_more [] (y ∷ xs) u x h is alike = absurd h
alike_more (v ∷ us) (y ∷ xs) u x h is alike = (h.0, alike_more us xs u x h.1 is alike)

differ_here : (us xs : List ItemTold) (u x : ItemTold) (w : What) → AlikeSoFar us xs → slice_get us (length xs) ≡ Some u → unlike u x ≡ Some w
    → (rest : List ItemTold) → DifferAt us (xs ++ x ∷ rest) (length xs) w
differ_here [] [] u x w h is other rest = absurd (cc)
differ_here (v ∷ us) [] u x w h is other rest = inl (refl, let same : v ≡ u = cc in subst (λ z. unlike z x ≡ Some w) (sym same) other)
differ_here [] (y ∷ xs) u x w h is other rest = absurd h
differ_here (v ∷ us) (y ∷ xs) u x w h is other rest = inr (h.0, length xs, omega arith, differ_here us xs u x w h.1 is other rest)

longer_here : (us xs : List ItemTold) (x : ItemTold) → AlikeSoFar us xs → slice_get us (length xs) ≡ None
    → (rest : List ItemTold) → DifferAt us (xs ++ x ∷ rest) (length xs) what.Length
longer_here [] [] x h is rest = (refl, refl)
longer_here (v ∷ us) [] x h is rest = absurd (cc)
longer_here [] (y ∷ xs) x h is rest = absurd h
longer_here (v ∷ us) (y ∷ xs) x h is rest = inr (h.0, length xs, omega arith, longer_here us xs x h.1 is rest)

pub all_alike : (us xs : List ItemTold) → AlikeSoFar us xs → length us ≤ length xs → AreAlike us xs × (length xs ≡ length us)
all_alike [] [] h few = (tt, refl)
all_alike (u ∷ us) [] h few = absurd (omega (arith, few))
all_alike [] (x ∷ xs) h few = absurd h
all_alike (u ∷ us) (x ∷ xs) h few = let r = all_alike us xs h.1 (omega (arith, few)) in ((h.0, r.0), ap suc r.1)

pub ends_before : (us xs : List ItemTold) → AlikeSoFar us xs → length xs < length us → DifferAt us xs (length xs) what.Length
ends_before [] [] h few = absurd (omega (arith, few))
ends_before (u ∷ us) [] h few = (refl, refl)
ends_before [] (x ∷ xs) h few = absurd h
ends_before (u ∷ us) (x ∷ xs) h few = inr (h.0, length xs, omega arith, ends_before us xs h.1 (omega (arith, few)))

pub not_yet : (difference : Option What) → is_some difference ≡ false → difference ≡ None
not_yet None e = refl
not_yet (Some w) e = absurd (cc)

-- a look more
module _ (us xs : List ItemTold) (x : ItemTold) (alike : ℕ) where
  module _ (items : List Item) (told : map tells items ≡ us) (was : MatchesTo us alike None xs) where
    abbrev IsNext : Item → Type 0
    IsNext own = (alike < length items) × (own ≡ get_or items alike own)

    at_own : (own : Item) → IsNext own → slice_get us (length xs) ≡ Some (tells own)
    at_own own is = subst (λ (p : List ItemTold × ℕ). slice_get p.0 p.1 ≡ Some (tells own)) (λ i. (told i, was.1 i)) (own_of items alike own is.0 is.1)

    pub alike_on : (own : Item) → IsNext own → unlike (tells own) x ≡ None → (n : ℕ) → n ≡ alike + 1 → MatchesTo us n None (xs ++ x ∷ [])
    alike_on own is same n next = (alike_more us xs (tells own) x was.0 (at_own own is) same, omega (arith, next, was.1, length-append xs (x ∷ [])))

    pub differs_now : (own : Item) → IsNext own → (w : What) → unlike (tells own) x ≡ Some w → MatchesTo us alike (Some w) (xs ++ x ∷ [])
    differs_now own is w other rest =
        subst (λ (p : List ItemTold × ℕ). DifferAt us p.0 p.1 w) (λ i. (sym (append_assoc xs (x ∷ []) rest) i, sym was.1 i)) (differ_here us xs (tells own) x w was.0 (at_own own is) other rest)

    pub longer_now : length items ≤ alike → MatchesTo us alike (Some what.Length) (xs ++ x ∷ [])
    longer_now is rest =
        let none = subst (λ (p : List ItemTold × ℕ). slice_get p.0 p.1 ≡ None) (λ i. (told i, was.1 i)) (none_of items alike is) in
        subst (λ (p : List ItemTold × ℕ). DifferAt us p.0 p.1 what.Length) (λ i. (sym (append_assoc xs (x ∷ []) rest) i, sym was.1 i)) (longer_here us xs x was.0 none rest)

-- no further look comes
pub told_length : (items : List Item) → length (map tells items) ≡ length items
told_length [] = refl
told_length (x ∷ items) = ap suc (told_length items)

-- ---- openings ----

bool_same : (a b : Bool) → same_bool a b ≡ true → a ≡ b
bool_same true b e = sym e
bool_same false false e = refl
bool_same false true e = absurd (cc)

bool_again : (a : Bool) → same_bool a a ≡ true
bool_again true = refl
bool_again false = refl

row_same : (a b : SessionRow) → has_same_row a b ≡ true → a ≡ b
row_same a b h =
    let n1 = a.id == b.id in let n2 = n1 && a.capacity == b.capacity in let n3 = n2 && a.message == b.message in let n4 = n3 && a.window == b.window in
    let n5 = n4 && a.start == b.start in let n6 = n5 && a.longest == b.longest in let n7 = n6 && a.resend == b.resend in let n8 = n7 && a.low_port == b.low_port in
    let n9 = n8 && a.high_port == b.high_port in let r1 = n9 && bytes_eq a.low b.low in let r2 = r1 && bytes_eq a.high b.high in
    let p3 = and_parts r2 (same_bool a.coarse b.coarse) h in
    let p2 = and_parts r1 (bytes_eq a.high b.high) p3.0 in
    let p1 = and_parts n9 (bytes_eq a.low b.low) p2.0 in
    let q9 = and_parts n8 (a.high_port == b.high_port) p1.0 in
    let q8 = and_parts n7 (a.low_port == b.low_port) q9.0 in
    let q7 = and_parts n6 (a.resend == b.resend) q8.0 in
    let q6 = and_parts n5 (a.longest == b.longest) q7.0 in
    let q5 = and_parts n4 (a.start == b.start) q6.0 in
    let q4 = and_parts n3 (a.window == b.window) q5.0 in
    let q3 = and_parts n2 (a.message == b.message) q4.0 in
    let q2 = and_parts n1 (a.capacity == b.capacity) q3.0 in
    λ i. record {
      id = eqb-true a.id b.id q2.0 i;
      low = (bytes_eq-Decides a.low b.low).0 p1.1 i;
      high = (bytes_eq-Decides a.high b.high).0 p2.1 i;
      capacity = eqb-true a.capacity b.capacity q2.1 i;
      message = eqb-true a.message b.message q3.1 i;
      window = eqb-true a.window b.window q4.1 i;
      start = eqb-true a.start b.start q5.1 i;
      longest = eqb-true a.longest b.longest q6.1 i;
      resend = eqb-true a.resend b.resend q7.1 i;
      low_port = eqb-true a.low_port b.low_port q8.1 i;
      high_port = eqb-true a.high_port b.high_port q9.1 i;
      coarse = bool_same a.coarse b.coarse p3.1 i;
    }

row_again : (a : SessionRow) → has_same_row a a ≡ true
row_again a =
    rw (
      eq-eqb a.id a.id refl,
      eq-eqb a.capacity a.capacity refl,
      eq-eqb a.message a.message refl,
      eq-eqb a.window a.window refl,
      eq-eqb a.start a.start refl,
      eq-eqb a.longest a.longest refl,
      eq-eqb a.resend a.resend refl,
      eq-eqb a.low_port a.low_port refl,
      eq-eqb a.high_port a.high_port refl,
      (bytes_eq-Decides a.low a.low).1 refl,
      (bytes_eq-Decides a.high a.high).1 refl,
      bool_again a.coarse,
    ) refl

module _ (v w : Opened) (a b : SideTold) (sv : SideOpens v a) (sw : SideOpens w b) where
  opening_same : has_same_opening v w ≡ true → SameOpening a b
  opening_same h =
      let p = and_parts (has_same_row v.row w.row && v.next == w.next) (same_bool v.is_held w.is_held) h in
      let q = and_parts (has_same_row v.row w.row) (v.next == w.next) p.0 in
      let next : a.opening.count ≡ b.opening.count = sym sv.next ∙ eqb-true v.next w.next q.1 ∙ sw.next in
      let held : a.opening.is_held ≡ b.opening.is_held = sym sv.is_held ∙ bool_same v.is_held w.is_held p.1 ∙ sw.is_held in
      record {
        row = sym sv.row ∙ row_same v.row w.row q.0 ∙ sw.row;
        opening = λ i. record { count = next i; is_held = held i };
      }

  opening_other : has_same_opening v w ≡ false → SameOpening a b → ⊥
  opening_other other same =
      let row : v.row ≡ w.row = sv.row ∙ same.row ∙ sym sw.row in
      let next : v.next ≡ w.next = sv.next ∙ ap (λ (o : Opening). o.count) same.opening ∙ sym sw.next in
      let held : v.is_held ≡ w.is_held = sv.is_held ∙ ap (λ (o : Opening). o.is_held) same.opening ∙ sym sw.is_held in
      let one : has_same_row v.row w.row ≡ true = subst (λ (r : SessionRow). has_same_row v.row r ≡ true) row (row_again v.row) in
      let two : (v.next == w.next) ≡ true = eq-eqb v.next w.next next in
      let three : same_bool v.is_held w.is_held ≡ true = subst (λ (t : Bool). same_bool v.is_held t ≡ true) held (bool_again v.is_held) in
      let all : has_same_opening v w ≡ true = rw (one, two, three) refl in
      absurd (cc)

  pub apart : has_same_opening v w ≡ false → SidesAre a b (Differ 0 what.Opening)
  apart other = inl (opening_other other, refl, refl)

  pub differs : has_same_opening v w ≡ true → (at n : ℕ) (x : What) → n ≡ at + 1 → DifferAt a.items b.items at x → SidesAre a b (Differ n x)
  differs same at n x is d = inr (opening_same same, at, is, d)

  pub agrees : has_same_opening v w ≡ true → (at n : ℕ) → n ≡ at + 1 → AreAlike a.items b.items → at ≡ length a.items → SidesAre a b (Agree n)
  agrees same at n is alike all = (opening_same same, alike, is ∙ ap (λ k. k + 1) all)
