-- Two records compare in one way.
use Rattle.std.proofs.Common.{◌≡◌, inl, inr, ℕ, ◌+◌, ◌^◌, ◌<◌, Bool, true, false, List, [], ◌∷◌, ◌++◌, Option, Some, None, refl, sym, ap, ◌∙◌, subst, arith}
use Rattle.std.proofs.lemmas.Option.{same_Some}
use Rattle.pump_audit.specs.declared.compared.What.{What}
use Rattle.pump_audit.specs.declared.compared.Compared.{Compared}
use Rattle.pump_audit.specs.declared.compared.Compared.TheVariants.{Agree, Differ, NotRecord}
use Rattle.pump_audit.specs.declared.entry.Entry.{Entry}
use Rattle.pump_audit.specs.declared.entry.Entry.TheVariants as entries
use Rattle.pump_audit.specs.declared.form.RecordPlace.{RecordPlace}
use Rattle.pump_audit.specs.Comparing.{ItemTold, SideTold, form_in, lines_in, with_entry, Lists, SideOf, joined, BeginsSide, separator, EndsSide, BreaksSide, AreSide, BreaksAt, ArePair, AreAlike, DifferAt, SidesAre, IsCompared}
use Rattle.pump_audit.specs.Entries.{IsEntry}
use Rattle.pump_audit.specs.Places.{behind}
use Rattle.pump_audit.specs.Texts.{IsText, line_ends}
use Rattle.pump_audit.proofs.OnceLaws.{entry_once, turned, ahead, split_once, nothing_left, lists_once, ends_there, separator_unended, side_once}
use Rattle.pump_audit.proofs.Writing.{ends_append, one_more}

-- ---- lines ----

entry_lines : (s : SideTold) (e : Entry) (p : RecordPlace) → (with_entry s e p).lines ≡ s.lines + 1
entry_lines s (entries.Opening row next is_held) p = refl
entry_lines s (entries.Coarse session) p = refl
entry_lines s (entries.Look l) p = refl
entry_lines s (entries.Comment note) p = refl

one_line_more : (s : Option SideTold) (e : Entry) (q : SideTold) → Lists s e q → q.lines ≡ lines_in s + 1
one_line_more None (entries.Opening row next is_held) q h = let k = ap (λ (p : SideTold). p.lines) h in omega (arith, k)
one_line_more None (entries.Coarse session) q h = absurd h
one_line_more None (entries.Look l) q h = absurd h
one_line_more None (entries.Comment note) q h = absurd h
one_line_more (Some s) e q (f, at, same) = ap (λ (p : SideTold). p.lines) same ∙ entry_lines s e f.place

text_has : (text rest : List ℕ) → IsText text → line_ends (text ++ 10 ∷ rest) ≡ 1 + line_ends rest
text_has text rest is =
    let a = ends_append text (10 ∷ rest) in
    let b = ends_append (10 ∷ []) rest in
    let c = ends_append text (10 ∷ []) in
    let d = one_more text is in
    omega (arith, a, b, c, d)

side_has : (texts : List (List ℕ)) (s : Option SideTold) (rest : List ℕ) → SideOf texts s → line_ends (joined texts rest) ≡ lines_in s + line_ends rest
side_has [] s rest h = let k = ap lines_in h in omega (arith, k)
side_has (text ∷ before) s rest (was, of_was, is_text, e, is, q, lists, same) =
    let a = side_has before was (text ++ 10 ∷ rest) of_was in
    let b = text_has text rest is_text in
    let c = one_line_more was e q lists in
    let d = ap lines_in same in
    omega (arith, a, b, c, d)

begins_has : (bytes : List ℕ) (s : Option SideTold) (rest : List ℕ) → BeginsSide bytes s rest → line_ends bytes ≡ lines_in s + line_ends rest
begins_has bytes s rest h = ap line_ends h.whole ∙ side_has h.texts s rest h.side_of

-- ---- where a side stops ----

abbrev Stops : Option SideTold → List ℕ → Type 0
Stops s rest = (text more : List ℕ) (e : Entry) (q : SideTold) → IsText text → rest ≡ text ++ 10 ∷ more → IsEntry e text → Lists s e q → ⊥

out_of_place : (s : Option SideTold) (e : Entry) (q : SideTold) → behind (form_in s) e ≡ None → Lists s e q → ⊥
out_of_place None (entries.Opening row next is_held) q none h = cc
out_of_place None (entries.Coarse session) q none h = h
out_of_place None (entries.Look l) q none h = h
out_of_place None (entries.Comment note) q none h = h
out_of_place (Some s) e q none (f, at, same) = let k = sym none ∙ at in cc

module _ (is_first : Bool) (before : ℕ) (bytes : List ℕ) (few : before + line_ends bytes < 2 ^ 32) where
  stops_break : (s : Option SideTold) (rest : List ℕ) → BeginsSide bytes s rest → BreaksSide is_first before s rest → Stops s rest
  stops_break s rest begins (inl (text', more', is', same', outside)) text more e q is same entry h =
      let p = split_once text text' more more' is.unended is'.unended (sym same ∙ same') in
      out_of_place s e q (outside.none e (subst (IsEntry e) p.0 entry)) h
  stops_break s rest begins (inr (inl cut)) text more e q is same entry h = cut.none text more is same
  stops_break s rest begins (inr (inr (inl (some, last)))) text more e q is same entry h =
      let a = begins_has bytes s rest begins in
      let b = ap line_ends same ∙ text_has text more is in
      omega (arith, a, b, last, few)
  stops_break s rest begins (inr (inr (inr (nil, ends)))) text more e q is same entry h = nothing_left text more (sym nil ∙ same)

  -- no record ends where its line breaks
  ends_not : (s : SideTold) (rest left : List ℕ) → BeginsSide bytes (Some s) rest → EndsSide is_first s rest left → BreaksSide is_first before (Some s) rest → ⊥
  ends_not s rest left begins ends breaks = by_first is_first ends breaks
    where
      separated : IsText separator
      separated = record { unended = separator_unended; short = omega arith }

      by_first : (f : Bool) → EndsSide f s rest left → BreaksSide f before (Some s) rest → ⊥
      by_first true ends (inl (text, more, is, same, outside)) =
          let p = split_once text separator more left is.unended separator_unended (sym same ∙ ends.1) in
          outside.other refl ends.0 p.0
      by_first true ends (inr (inl cut)) = cut.none separator left separated ends.1
      by_first true ends (inr (inr (inl (some, last)))) =
          let a = begins_has bytes (Some s) rest begins in
          let b = ap line_ends ends.1 ∙ text_has separator left separated in
          omega (arith, a, b, last, few)
      by_first true ends (inr (inr (inr (nil, over)))) = nothing_left separator left (sym nil ∙ ends.1)
      by_first false ends (inl (text, more, is, same, outside)) = nothing_left text more (sym ends.1 ∙ same)
      by_first false ends (inr (inl cut)) = cut.some ends.1
      by_first false ends (inr (inr (inl (some, last)))) = some ends.1
      by_first false ends (inr (inr (inr (nil, inl over)))) = let k : false ≡ true = over in cc
      by_first false ends (inr (inr (inr (nil, inr short)))) = let k : true ≡ false = sym ends.0 ∙ short in cc

-- ---- texts from the first one on ----

abbrev Goes : Option SideTold → List (List ℕ) → Option SideTold → Type 0
Goes s [] t = s ≡ t
Goes s (text ∷ later) t = IsText text × (e : Entry) × IsEntry e text × (q : SideTold) × Lists s e q × Goes (Some q) later t

forward : (texts : List (List ℕ)) (s : Option SideTold) (later : List (List ℕ)) (t : Option SideTold) → SideOf texts s → Goes s later t → Goes None (turned texts later) t
forward [] s later t h g = subst (λ (z : Option SideTold). Goes z later t) h g
forward (text ∷ before) s later t (was, of_was, is_text, e, is, q, lists, same) g =
    forward before was (text ∷ later) t of_was (is_text, e, is, q, lists, subst (λ (z : Option SideTold). Goes z later t) same g)

spread : (texts later : List (List ℕ)) (rest : List ℕ) → joined texts (ahead later rest) ≡ ahead (turned texts later) rest
spread [] later rest = refl
spread (text ∷ before) later rest = spread before (text ∷ later) rest

once : (s : Option SideTold) (xs ys : List (List ℕ)) (t u : Option SideTold) (rest rest' : List ℕ) → Goes s xs t → Goes s ys u → Stops t rest → Stops u rest' → ahead xs rest ≡ ahead ys rest' → (t ≡ u) × (rest ≡ rest')
once s [] [] t u rest rest' g h a b e = (sym g ∙ h, e)
once s [] (y ∷ ys) t u rest rest' g (is, d, entry, q, lists, h) a b e = absurd (a y (ahead ys rest') d q is e entry (subst (λ (z : Option SideTold). Lists z d q) g lists))
once s (x ∷ xs) [] t u rest rest' (is, d, entry, q, lists, g) h a b e = absurd (b x (ahead xs rest) d q is (sym e) entry (subst (λ (z : Option SideTold). Lists z d q) h lists))
once s (x ∷ xs) (y ∷ ys) t u rest rest' (gt, ge, gi, gq, gl, gs) (ht, he, hi, hq, hl, hs) a b e =
    let p = split_once x y (ahead xs rest) (ahead ys rest') gt.unended ht.unended e in
    let same : he ≡ ge = entry_once x he ge (subst (IsEntry he) (sym p.0) hi) gi in
    let next : hq ≡ gq = lists_once s ge hq gq (subst (λ (z : Entry). Lists s z hq) same hl) gl in
    once (Some gq) xs ys t u rest rest' gs (subst (λ (z : SideTold). Goes (Some z) ys u) next hs) a b p.1

begins_once : (bytes : List ℕ) (t u : Option SideTold) (rest rest' : List ℕ) → BeginsSide bytes t rest → BeginsSide bytes u rest' → Stops t rest → Stops u rest' → (t ≡ u) × (rest ≡ rest')
begins_once bytes t u rest rest' h k a b =
    once None (turned h.texts []) (turned k.texts []) t u rest rest' (forward h.texts t [] t h.side_of refl) (forward k.texts u [] u k.side_of refl) a b
    (sym (spread h.texts [] rest) ∙ sym h.whole ∙ k.whole ∙ spread k.texts [] rest')

stops_end : (is_first : Bool) (s : SideTold) (rest left : List ℕ) → EndsSide is_first s rest left → Stops (Some s) rest
stops_end is_first s rest left ends text more e q is same entry h = ends_there is_first s rest left text more e ends is entry same

module _ (is_first : Bool) (before : ℕ) (bytes : List ℕ) (few : before + line_ends bytes < 2 ^ 32) where
  not_both : (s : SideTold) (left : List ℕ) (line : ℕ) → AreSide is_first bytes s left → BreaksAt is_first before bytes line → ⊥
  not_both s left line h k =
      let p = begins_once bytes (Some s) k.so_far h.rest k.rest h.begins k.begins (stops_end is_first s h.rest left h.ends) (stops_break is_first before bytes few k.so_far k.rest k.begins k.breaks) in
      ends_not is_first before bytes few s h.rest left h.begins h.ends (subst (λ (z : Option SideTold × List ℕ). BreaksSide is_first before z.0 z.1) (λ i. (sym p.0 i, sym p.1 i)) k.breaks)

  line_once : (line line' : ℕ) → BreaksAt is_first before bytes line → BreaksAt is_first before bytes line' → line ≡ line'
  line_once line line' h k =
      let p = begins_once bytes h.so_far k.so_far h.rest k.rest h.begins k.begins (stops_break is_first before bytes few h.so_far h.rest h.begins h.breaks) (stops_break is_first before bytes few k.so_far k.rest k.begins k.breaks) in
      h.number ∙ ap (λ (z : Option SideTold). before + lines_in z + 1) p.0 ∙ sym k.number

-- ---- two sides ----

differ_not : (xs ys : List ItemTold) (at : ℕ) (w : What) → AreAlike xs ys → DifferAt xs ys at w → ⊥
differ_not [] [] at w h k = k
differ_not [] (y ∷ ys) at w h k = h
differ_not (x ∷ xs) [] at w h k = h
differ_not (x ∷ xs) (y ∷ ys) at w h (inl (e, is)) = let k : None ≡ Some w = sym h.0 ∙ is in cc
differ_not (x ∷ xs) (y ∷ ys) at w h (inr (e, next, is, k)) = differ_not xs ys next w h.1 k

differ_once : (xs ys : List ItemTold) (at at' : ℕ) (w w' : What) → DifferAt xs ys at w → DifferAt xs ys at' w' → (at ≡ at') × (w ≡ w')
differ_once [] [] at at' w w' h k = absurd h
differ_once [] (y ∷ ys) at at' w w' h k = (h.0 ∙ sym k.0, h.1 ∙ sym k.1)
differ_once (x ∷ xs) [] at at' w w' h k = (h.0 ∙ sym k.0, h.1 ∙ sym k.1)
differ_once (x ∷ xs) (y ∷ ys) at at' w w' (inl (e, is)) (inl (f, is')) = (e ∙ sym f, same_Some w w' (sym is ∙ is'))
differ_once (x ∷ xs) (y ∷ ys) at at' w w' (inl (e, is)) (inr (f, next, n, k)) = absurd (let z : Some w ≡ None = sym is ∙ f in cc)
differ_once (x ∷ xs) (y ∷ ys) at at' w w' (inr (f, next, n, k)) (inl (e, is)) = absurd (let z : Some w' ≡ None = sym is ∙ f in cc)
differ_once (x ∷ xs) (y ∷ ys) at at' w w' (inr (e, next, n, h)) (inr (f, next', n', k)) =
    let p = differ_once xs ys next next' w w' h k in
    (n ∙ ap (λ m. m + 1) p.0 ∙ sym n', p.1)

agree_not : (a b : SideTold) (items item : ℕ) (w : What) → SidesAre a b (Agree items) → SidesAre a b (Differ item w) → ⊥
agree_not a b items item w (same, alike, n) (inl (other, e, is)) = other same
agree_not a b items item w (same, alike, n) (inr (same', at, e, k)) = differ_not a.items b.items at w alike k

differs_once : (a b : SideTold) (item item' : ℕ) (w w' : What) → SidesAre a b (Differ item w) → SidesAre a b (Differ item' w') → Differ item w ≡ Differ item' w'
differs_once a b item item' w w' (inl (other, e, is)) (inl (other', f, is')) = λ i. Differ ((e ∙ sym f) i) ((is ∙ sym is') i)
differs_once a b item item' w w' (inl (other, e, is)) (inr (same, at, f, k)) = absurd (other same)
differs_once a b item item' w w' (inr (same, at, f, k)) (inl (other, e, is)) = absurd (other same)
differs_once a b item item' w w' (inr (same, at, e, h)) (inr (same', at', f, k)) =
    let p = differ_once a.items b.items at at' w w' h k in
    λ i. Differ ((e ∙ ap (λ n. n + 1) p.0 ∙ sym f) i) (p.1 i)

-- the first side, with what is left behind it
left_few : (bytes : List ℕ) (a : SideTold) (left : List ℕ) → AreSide true bytes a left → line_ends bytes < 2 ^ 32 → (a.lines + 1) + line_ends left < 2 ^ 32
left_few bytes a left h few =
    let k = begins_has bytes (Some a) h.rest h.begins in
    let l = ap line_ends h.ends.1 ∙ text_has separator left (record { unended = separator_unended; short = omega arith }) in
    omega (arith, k, l, few)

record_not : (bytes : List ℕ) (a b : SideTold) (line : ℕ) → line_ends bytes < 2 ^ 32 → ArePair bytes a b → IsCompared bytes (NotRecord line) → ⊥
record_not bytes a b line few h (inl k) = not_both true 0 bytes (omega (arith, few)) a h.left line h.first k
record_not bytes a b line few h (inr (c, left, first, k)) =
    let p = side_once true bytes a c h.left left h.first first in
    let breaks : BreaksAt false (a.lines + 1) h.left line = subst (λ (z : SideTold × List ℕ). BreaksAt false (z.0.lines + 1) z.1 line) (λ i. (sym p.0 i, sym p.1 i)) k in
    not_both false (a.lines + 1) h.left (left_few bytes a h.left h.first few) b [] line h.second breaks

breaks_once : (bytes : List ℕ) (line line' : ℕ) → line_ends bytes < 2 ^ 32 → IsCompared bytes (NotRecord line) → IsCompared bytes (NotRecord line') → line ≡ line'
breaks_once bytes line line' few (inl h) (inl k) = line_once true 0 bytes (omega (arith, few)) line line' h k
breaks_once bytes line line' few (inl h) (inr (a, left, first, k)) = absurd (not_both true 0 bytes (omega (arith, few)) a left line first h)
breaks_once bytes line line' few (inr (a, left, first, h)) (inl k) = absurd (not_both true 0 bytes (omega (arith, few)) a left line' first k)
breaks_once bytes line line' few (inr (a, left, first, h)) (inr (b, left', first', k)) =
    let p = side_once true bytes a b left left' first first' in
    line_once false (b.lines + 1) left' (left_few bytes b left' first' few) line line'
    (subst (λ (z : SideTold × List ℕ). BreaksAt false (z.0.lines + 1) z.1 line) (λ i. (p.0 i, p.1 i)) h) k

module _ (bytes : List ℕ) (few : line_ends bytes < 2 ^ 32) where
  -- two pairs are one
  moved : (a b c d : SideTold) (v : Compared) → ArePair bytes a b → ArePair bytes c d → SidesAre a b v → SidesAre c d v
  moved a b c d v h k said =
      let p = side_once true bytes a c h.left k.left h.first k.first in
      let q = side_once false h.left b d [] [] h.second (subst (λ (l : List ℕ). AreSide false l d []) (sym p.1) k.second) in
      subst (λ (z : SideTold × SideTold). SidesAre z.0 z.1 v) (λ i. (p.0 i, q.0 i)) said

  pub compared_once : (v w : Compared) → IsCompared bytes v → IsCompared bytes w → v ≡ w
  compared_once (NotRecord line) (NotRecord line') h k = ap NotRecord (breaks_once bytes line line' few h k)
  compared_once (NotRecord line) (Agree items) h (a, b, pair, said) = absurd (record_not bytes a b line few pair h)
  compared_once (NotRecord line) (Differ item w) h (a, b, pair, said) = absurd (record_not bytes a b line few pair h)
  compared_once (Agree items) (NotRecord line) (a, b, pair, said) k = absurd (record_not bytes a b line few pair k)
  compared_once (Differ item w) (NotRecord line) (a, b, pair, said) k = absurd (record_not bytes a b line few pair k)
  compared_once (Agree items) (Agree items') (a, b, pair, said) (c, d, pair', said') =
      let here = moved a b c d (Agree items) pair pair' said in
      ap Agree (here.2 ∙ sym said'.2)
  compared_once (Agree items) (Differ item w) (a, b, pair, said) (c, d, pair', said') = absurd (agree_not c d items item w (moved a b c d (Agree items) pair pair' said) said')
  compared_once (Differ item w) (Agree items) (a, b, pair, said) (c, d, pair', said') = absurd (agree_not c d items item w said' (moved a b c d (Differ item w) pair pair' said))
  compared_once (Differ item w) (Differ item' w') (a, b, pair, said) (c, d, pair', said') = differs_once c d item item' w w' (moved a b c d (Differ item w) pair pair' said) said'
