-- Bytes have one verdict.
use Rattle.std.proofs.Common.{◌≡◌, ◌≢◌, inl, inr, ℕ, ◌+◌, ◌^◌, ◌<◌, ◌≤◌, Bool, true, false, List, [], ◌∷◌, ◌++◌, length, Option, Some, None, refl, sym, ap, ◌∙◌, subst, arith}
use Rattle.std.specs.Prelude.{is_some}
use Rattle.std.proofs.lemmas.Option.{same_Some}
use Rattle.pump_frame.specs.declared.row.SessionRow.{SessionRow}
use Rattle.pump_core.specs.declared.feedback.Feedback.{Feedback}
use Rattle.pump_core.specs.Exchanges.{Part, IsCut}
use Rattle.pump_core.specs.Phases.{Phase}
use Rattle.pump_core.specs.Phases.{Idle, Passing, Waiting, Down}
use Rattle.pump_core.specs.Standing.{State, end_of}
use Rattle.pump_core.specs.Step.{fits_in}
use Rattle.pump_core.proofs.CutsFit.{cuts_fit}
use Rattle.script_reader.proofs.Hearing.{quiet_is}
use Rattle.pump_audit.specs.declared.claims.Claim.{Claim}
use Rattle.pump_audit.specs.declared.entry.LookLine.{LookLine}
use Rattle.pump_audit.specs.declared.entry.Note.{Note}
use Rattle.pump_audit.specs.declared.entry.Note.TheVariants as notes
use Rattle.pump_audit.specs.declared.entry.Entry.{Entry}
use Rattle.pump_audit.specs.declared.entry.Entry.TheVariants as entries
use Rattle.pump_audit.specs.declared.verdict.Verdict.{Verdict}
use Rattle.pump_audit.specs.declared.verdict.Verdict.TheVariants.{Yes, No}
use Rattle.pump_audit.specs.Claims.{IsRight, AreRight, IsFirstWrong}
use Rattle.pump_audit.specs.Entries.{IsEntry}
use Rattle.pump_audit.specs.Places.{behind, may_end}
use Rattle.pump_audit.specs.Records.{Record, form_in, lines_in, history_of, Means, look_of, GoesOn, with_look, with_note, Follows}
use Rattle.pump_audit.specs.Texts.{IsText}
use Rattle.pump_audit.specs.Verdicts.{RecordOf, joined, Begins, IsBroken, IsMistold, HasCause, EndHasCause, RestHasCause, IsWhole, IsRightEnd, IsClean, IsVerdict}
use Rattle.pump_audit.proofs.Lives.{means_look}
use Rattle.pump_audit.proofs.OnceLaws.{entry_once, turned, ahead, split_once, nothing_left}

-- ---- a line has one meaning ----

one_feedback : (row : SessionRow) (s : State) (l : LookLine) (ph : Phase) (f g : Feedback) → Means row l.told f → Means row l.told g → fits_in row s (look_of l f) ph ≡ true → fits_in row s (look_of l g) ph ≡ true → f ≡ g
one_feedback row s l Down f g m n p q = quiet_is f p ∙ sym (quiet_is g q)
one_feedback row s l Idle f g m n p q = same_Some f g (sym (means_look row s l Idle f refl m p) ∙ means_look row s l Idle g refl n q)
one_feedback row s l (Passing owed) f g m n p q = same_Some f g (sym (means_look row s l (Passing owed) f refl m p) ∙ means_look row s l (Passing owed) g refl n q)
one_feedback row s l (Waiting k at) f g m n p q = same_Some f g (sym (means_look row s l (Waiting k at) f refl m p) ∙ means_look row s l (Waiting k at) g refl n q)

module _ (r : Record) (l : LookLine) (parts : List Part) (cut : IsCut r.row (history_of r).life parts) where
  fits : (f : Feedback) → GoesOn r l f → fits_in r.row (end_of r.row r.opening parts) (look_of l f) (end_of r.row r.opening parts).phase ≡ true
  fits f g =
      cuts_fit r.row r.opening (look_of l f) parts g.1.parts cut.are_parts g.1.cut.are_parts (sym g.1.cut.looks ∙ ap (λ xs. look_of l f ∷ xs) cut.looks)

  feedback_once : (f g : Feedback) → GoesOn r l f → GoesOn r l g → f ≡ g
  feedback_once f g a b = one_feedback r.row (end_of r.row r.opening parts) l (end_of r.row r.opening parts).phase f g a.0 b.0 (fits f a) (fits g b)

follows_once : (r : Option Record) (e : Entry) (p q : Record) → Follows r e p → Follows r e q → p ≡ q
follows_once None (entries.Opening row next is_held) p q h k = h ∙ sym k
follows_once None (entries.Coarse session) p q h k = absurd h
follows_once None (entries.Look l) p q h k = absurd h
follows_once None (entries.Comment note) p q h k = absurd h
follows_once (Some r) (entries.Opening row next is_held) p q h k = absurd h.2
follows_once (Some r) (entries.Coarse session) p q h k = h.2 ∙ sym k.2
follows_once (Some r) (entries.Comment note) p q h k = h.2 ∙ sym k.2
follows_once (Some r) (entries.Look l) p q (at, (older, newer, lives, (parts, cut, is), whole), (f, goes, same)) (at', told', (g, goes', same')) =
    same ∙ ap (λ x. with_look r (look_of l x)) (feedback_once r l parts cut f g goes goes') ∙ sym same'

note_lines : (r : Record) (note : Note) → (with_note r note).lines ≡ r.lines + 1
note_lines r (notes.Low session moment reply) = refl
note_lines r (notes.Time micros) = refl
note_lines r (notes.Took count) = refl
note_lines r (notes.End accepted removed) = refl

one_line_more : (r : Option Record) (e : Entry) (q : Record) → Follows r e q → q.lines ≡ lines_in r + 1
one_line_more None (entries.Opening row next is_held) q h = let k = ap (λ (p : Record). p.lines) h in omega (arith, k)
one_line_more None (entries.Coarse session) q h = absurd h
one_line_more None (entries.Look l) q h = absurd h
one_line_more None (entries.Comment note) q h = absurd h
one_line_more (Some r) (entries.Opening row next is_held) q h = absurd h.2
one_line_more (Some r) (entries.Coarse session) q h = ap (λ (p : Record). p.lines) h.2
one_line_more (Some r) (entries.Comment note) q h = ap (λ (p : Record). p.lines) h.2 ∙ note_lines r note
one_line_more (Some r) (entries.Look l) q (at, told, (f, goes, same)) = ap (λ (p : Record). p.lines) same

is_placed : (r : Option Record) (e : Entry) (q : Record) → Follows r e q → is_some (behind (form_in r) e) ≡ true
is_placed None (entries.Opening row next is_held) q h = refl
is_placed None (entries.Coarse session) q h = absurd h
is_placed None (entries.Look l) q h = absurd h
is_placed None (entries.Comment note) q h = absurd h
is_placed (Some r) e q h = h.0

not_broken : (r : Option Record) (e : Entry) (q : Record) → Follows r e q → IsBroken r e → ⊥
not_broken None (entries.Opening row next is_held) q h b = b
not_broken None (entries.Coarse session) q h b = h
not_broken None (entries.Look l) q h b = h
not_broken None (entries.Comment note) q h b = h
not_broken (Some r) (entries.Opening row next is_held) q h b = b
not_broken (Some r) (entries.Coarse session) q h b = b
not_broken (Some r) (entries.Comment note) q h b = b
not_broken (Some r) (entries.Look l) q (at, told, (f, goes, same)) b = b f goes

not_mistold : (r : Option Record) (e : Entry) (q : Record) → Follows r e q → IsMistold r e → ⊥
not_mistold None e q h b = b
not_mistold (Some r) e q h b = b h.1

none_some : {A : Type 0} (o : Option A) → o ≡ None → is_some o ≡ true → ⊥
none_some o e f = let k : false ≡ true = sym (ap is_some e) ∙ f in cc

-- ---- a line that is right has no cause ----

right_line : (r : Option Record) (text : List ℕ) (e : Entry) (q : Record) (cause : ℕ) → IsEntry e text → Follows r e q → HasCause r text cause → ⊥
right_line r text e q cause is h (inl (c, placed)) = none_some (behind (form_in r) e) (placed e is) (is_placed r e q h)
right_line r text e q cause is h (inr (inl (c, d, placed, broken))) = not_broken r e q h (subst (IsBroken r) (entry_once text d e placed.is_entry is) broken)
right_line r text e q cause is h (inr (inr (c, d, placed, fine, mistold))) = not_mistold r e q h (subst (IsMistold r) (entry_once text d e placed.is_entry is) mistold)

-- no line that is right stands there
abbrev Stops : Option Record → List ℕ → Type 0
Stops r rest = (text more : List ℕ) (e : Entry) (q : Record) → IsText text → rest ≡ text ++ 10 ∷ more → IsEntry e text → Follows r e q → q.lines < 2 ^ 32 → ⊥

stops_end : (r : Option Record) (rest : List ℕ) → rest ≡ [] → Stops r rest
stops_end r rest e text more d q is same entry h few = nothing_left text more (sym e ∙ same)

stops_cause : (r : Option Record) (rest : List ℕ) (cause : ℕ) → RestHasCause r rest cause → Stops r rest
stops_cause r rest cause (inl (text', more', is', same', room, has)) text more e q is same entry h few =
    let p = split_once text text' more more' is.unended is'.unended (sym same ∙ same') in
    right_line r text' e q cause (subst (IsEntry e) p.0 entry) h has
stops_cause r rest cause (inr (inl (c, cut))) text more e q is same entry h few = cut.none text more is same
stops_cause r rest cause (inr (inr (inl (c, some, last)))) text more e q is same entry h few =
    let k = one_line_more r e q h in
    omega (arith, k, last, few)
stops_cause r rest cause (inr (inr (inr (nil, ends)))) text more e q is same entry h few = nothing_left text more (sym nil ∙ same)

-- ---- texts from the first one on ----

abbrev Goes : Option Record → List (List ℕ) → Option Record → Type 0
Goes r [] t = r ≡ t
Goes r (text ∷ later) t = IsText text × (e : Entry) × IsEntry e text × (q : Record) × Follows r e q × Goes (Some q) later t

forward : (texts : List (List ℕ)) (r : Option Record) (later : List (List ℕ)) (t : Option Record) → RecordOf texts r → Goes r later t → Goes None (turned texts later) t
forward [] r later t h g = subst (λ (z : Option Record). Goes z later t) h g
forward (text ∷ before) r later t (was, of_was, is_text, e, is, q, follows, same) g =
    forward before was (text ∷ later) t of_was (is_text, e, is, q, follows, subst (λ (z : Option Record). Goes z later t) same g)

spread : (texts later : List (List ℕ)) (rest : List ℕ) → joined texts (ahead later rest) ≡ ahead (turned texts later) rest
spread [] later rest = refl
spread (text ∷ before) later rest = spread before (text ∷ later) rest

lines_grow : (r : Option Record) (later : List (List ℕ)) (t : Option Record) → Goes r later t → lines_in r ≤ lines_in t
lines_grow r [] t g = let k = ap lines_in g in omega (arith, k)
lines_grow r (text ∷ later) t (is, e, entry, q, follows, g) =
    let k = one_line_more r e q follows in
    let l = lines_grow (Some q) later t g in
    omega (arith, k, l)

once : (r : Option Record) (xs ys : List (List ℕ)) (t u : Option Record) (rest rest' : List ℕ) → Goes r xs t → Goes r ys u → lines_in t < 2 ^ 32 → lines_in u < 2 ^ 32 → Stops t rest → Stops u rest'
    → ahead xs rest ≡ ahead ys rest' → (t ≡ u) × (rest ≡ rest')
once r [] [] t u rest rest' g h few few' s s' e = (sym g ∙ h, e)
once r [] (y ∷ ys) t u rest rest' g (is, d, entry, q, follows, h) few few' s s' e =
    let k = lines_grow (Some q) ys u h in
    absurd (s y (ahead ys rest') d q is e entry (subst (λ (z : Option Record). Follows z d q) g follows) (omega (arith, k, few')))
once r (x ∷ xs) [] t u rest rest' (is, d, entry, q, follows, g) h few few' s s' e =
    let k = lines_grow (Some q) xs t g in
    absurd (s' x (ahead xs rest) d q is (sym e) entry (subst (λ (z : Option Record). Follows z d q) h follows) (omega (arith, k, few)))
once r (x ∷ xs) (y ∷ ys) t u rest rest' (gt, ge, gi, gq, gf, gs) (ht, he, hi, hq, hf, hs) few few' s s' e =
    let p = split_once x y (ahead xs rest) (ahead ys rest') gt.unended ht.unended e in
    let same : he ≡ ge = entry_once x he ge (subst (IsEntry he) (sym p.0) hi) gi in
    let next : hq ≡ gq = follows_once r ge hq gq (subst (λ (z : Entry). Follows r z hq) same hf) gf in
    once (Some gq) xs ys t u rest rest' gs (subst (λ (z : Record). Goes (Some z) ys u) next hs) few few' s s' p.1

begins_once : (bytes : List ℕ) (t u : Option Record) (rest rest' : List ℕ) → Begins bytes t rest → Begins bytes u rest' → Stops t rest → Stops u rest' → (t ≡ u) × (rest ≡ rest')
begins_once bytes t u rest rest' h k s s' =
    once None (turned h.texts []) (turned k.texts []) t u rest rest' (forward h.texts t [] t h.record_of refl) (forward k.texts u [] u k.record_of refl) h.few k.few s s'
    (sym (spread h.texts [] rest) ∙ sym h.whole ∙ k.whole ∙ spread k.texts [] rest')

whole_once : (bytes : List ℕ) (r q : Record) → IsWhole bytes r → IsWhole bytes q → r ≡ q
whole_once bytes r q h k = same_Some r q (begins_once bytes (Some r) (Some q) [] [] h.begins k.begins (stops_end (Some r) [] refl) (stops_end (Some q) [] refl)).0

-- ---- the causes are one ----

text_once : (r : Option Record) (text : List ℕ) (c d : ℕ) → HasCause r text c → HasCause r text d → c ≡ d
text_once r text c d (inl (e, misplaced)) (inl (f, misplaced')) = e ∙ sym f
text_once r text c d (inl (e, misplaced)) (inr (inl (f, b, placed, broken))) = absurd (none_some (behind (form_in r) b) (misplaced b placed.is_entry) placed.place)
text_once r text c d (inl (e, misplaced)) (inr (inr (f, b, placed, fine, mistold))) = absurd (none_some (behind (form_in r) b) (misplaced b placed.is_entry) placed.place)
text_once r text c d (inr (inl (e, a, placed, broken))) (inl (f, misplaced)) = absurd (none_some (behind (form_in r) a) (misplaced a placed.is_entry) placed.place)
text_once r text c d (inr (inl (e, a, placed, broken))) (inr (inl (f, b, placed', broken'))) = e ∙ sym f
text_once r text c d (inr (inl (e, a, placed, broken))) (inr (inr (f, b, placed', fine, mistold))) = absurd (fine (subst (IsBroken r) (entry_once text a b placed.is_entry placed'.is_entry) broken))
text_once r text c d (inr (inr (e, a, placed, fine, mistold))) (inl (f, misplaced)) = absurd (none_some (behind (form_in r) a) (misplaced a placed.is_entry) placed.place)
text_once r text c d (inr (inr (e, a, placed, fine, mistold))) (inr (inl (f, b, placed', broken))) = absurd (fine (subst (IsBroken r) (entry_once text b a placed'.is_entry placed.is_entry) broken))
text_once r text c d (inr (inr (e, a, placed, fine, mistold))) (inr (inr (f, b, placed', fine', mistold'))) = e ∙ sym f

true_false : (b : Bool) → b ≡ true → b ≡ false → ⊥
true_false b e f = let k : true ≡ false = sym e ∙ f in cc

end_once : (r : Option Record) (c d : ℕ) → EndHasCause r c → EndHasCause r d → c ≡ d
end_once r c d (inl (e, short)) (inl (f, short')) = e ∙ sym f
end_once r c d (inl (e, short)) (inr (f, ends, untold)) = absurd (true_false (may_end (form_in r)) ends short)
end_once r c d (inr (e, ends, untold)) (inl (f, short)) = absurd (true_false (may_end (form_in r)) ends short)
end_once r c d (inr (e, ends, untold)) (inr (f, ends', untold')) = e ∙ sym f

-- the first case of what is left: a line with this cause
abbrev Lined : Option Record → List ℕ → ℕ → Type 0
Lined r rest c = (text more : List ℕ) × IsText text × (rest ≡ text ++ 10 ∷ more) × (lines_in r + 1 < 2 ^ 32) × HasCause r text c

lined_other : (r : Option Record) (rest : List ℕ) (c d : ℕ) → Lined r rest c → RestHasCause r rest d → c ≡ d
lined_other r rest c d (text, more, is, same, room, has) (inl (text', more', is', same', room', has')) =
    let p = split_once text text' more more' is.unended is'.unended (sym same ∙ same') in
    text_once r text' c d (subst (λ (t : List ℕ). HasCause r t c) p.0 has) has'
lined_other r rest c d (text, more, is, same, room, has) (inr (inl (f, cut))) = absurd (cut.none text more is same)
lined_other r rest c d (text, more, is, same, room, has) (inr (inr (inl (f, some, last)))) = absurd (omega (arith, room, last))
lined_other r rest c d (text, more, is, same, room, has) (inr (inr (inr (nil, ends)))) = absurd (nothing_left text more (sym nil ∙ same))

-- the two that have the first cause
abbrev Firsts : Option Record → List ℕ → ℕ → Type 0
Firsts r rest c = (c ≡ 1) × (rest ≢ [])

firsts_other : (r : Option Record) (rest : List ℕ) (c d : ℕ) → Firsts r rest c → RestHasCause r rest d → RestHasCause r rest c → c ≡ d
firsts_other r rest c d first (inl lined) k = sym (lined_other r rest d c lined k)
firsts_other r rest c d first (inr (inl (f, cut))) k = first.0 ∙ sym f
firsts_other r rest c d first (inr (inr (inl (f, some, last)))) k = first.0 ∙ sym f
firsts_other r rest c d first (inr (inr (inr (nil, ends)))) k = absurd (first.1 nil)

cause_once : (r : Option Record) (rest : List ℕ) (c d : ℕ) → RestHasCause r rest c → RestHasCause r rest d → c ≡ d
cause_once r rest c d (inl lined) k = lined_other r rest c d lined k
cause_once r rest c d (inr (inl (e, cut))) k = firsts_other r rest c d (e, cut.some) k (inr (inl (e, cut)))
cause_once r rest c d (inr (inr (inl (e, some, last)))) k = firsts_other r rest c d (e, some) k (inr (inr (inl (e, some, last))))
cause_once r rest c d (inr (inr (inr (nil, ends)))) (inl lined) = sym (lined_other r rest d c lined (inr (inr (inr (nil, ends)))))
cause_once r rest c d (inr (inr (inr (nil, ends)))) (inr (inl (f, cut))) = absurd (cut.some nil)
cause_once r rest c d (inr (inr (inr (nil, ends)))) (inr (inr (inl (f, some, last)))) = absurd (some nil)
cause_once r rest c d (inr (inr (inr (nil, ends)))) (inr (inr (inr (nil', ends')))) = end_once r c d ends ends'

-- a whole record has none of the causes 1 to 3
whole_fine : (bytes : List ℕ) (r : Record) (q : Option Record) (rest : List ℕ) (cause : ℕ) → IsWhole bytes r → Begins bytes q rest → RestHasCause q rest cause → ⊥
whole_fine bytes r q rest cause h k has =
    let p = begins_once bytes (Some r) q [] rest h.begins k (stops_end (Some r) [] refl) (stops_cause q rest cause has) in
    at_end (subst (λ (z : Option Record × List ℕ). RestHasCause z.0 z.1 cause) (λ i. (sym p.0 i, sym p.1 i)) has)
  where
    at_end : RestHasCause (Some r) [] cause → ⊥
    at_end (inl (text, more, is, same, room, line)) = nothing_left text more same
    at_end (inr (inl (c, cut))) = cut.some refl
    at_end (inr (inr (inl (c, some, last)))) = some refl
    at_end (inr (inr (inr (nil, inl (c, short))))) = true_false (may_end (form_in (Some r))) h.ends short
    at_end (inr (inr (inr (nil, inr (c, ends, untold))))) = untold h.told

-- ---- the first claim that is wrong ----

tail_of : List Claim → List Claim
tail_of [] = []
tail_of (c ∷ cs) = cs

module _ (r : Record) where
  right_within : (newer : List Claim) (c : Claim) (before : List Claim) → AreRight r (newer ++ c ∷ before) → IsRight r c before
  right_within [] c before h = h.0
  right_within (d ∷ newer) c before h = right_within newer c before h.1

  wrong_once : (newer newer' : List Claim) (c c' : Claim) (before before' : List Claim) → newer ++ c ∷ before ≡ newer' ++ c' ∷ before' → AreRight r before → (IsRight r c before → ⊥) → AreRight r before' → (IsRight r c' before' → ⊥) → c ≡ c'
  unfolding tail_of
  wrong_once [] [] c c' before before' e h w h' w' = cc
  wrong_once [] (d ∷ newer') c c' before before' e h w h' w' = absurd (w' (right_within newer' c' before' (subst (AreRight r) (ap tail_of e) h)))
  wrong_once (d ∷ newer) [] c c' before before' e h w h' w' = absurd (w (right_within newer c before (subst (AreRight r) (sym (ap tail_of e)) h')))
  wrong_once (d ∷ newer) (d' ∷ newer') c c' before before' e h w h' w' = wrong_once newer newer' c c' before before' (ap tail_of e) h w h' w'

  first_once : (claims : List Claim) (line line' : ℕ) → IsFirstWrong r claims line → IsFirstWrong r claims line' → line ≡ line'
  first_once claims line line' (newer, c, before, is, right, wrong, at) (newer', c', before', is', right', wrong', at') =
      at ∙ ap (λ (x : Claim). x.line) (wrong_once newer newer' c c' before before' (sym is ∙ is') right wrong right' wrong') ∙ sym at'

  wrong_not_right : (claims : List Claim) (line : ℕ) → IsFirstWrong r claims line → AreRight r claims → ⊥
  wrong_not_right claims line (newer, c, before, is, right, wrong, at) all = wrong (right_within newer c before (subst (AreRight r) is all))

-- ---- the verdict ----

yes_not : (bytes : List ℕ) (r : Record) (line cause : ℕ) → IsClean bytes r → IsVerdict bytes (No line cause) → ⊥
yes_not bytes r line cause h (inl (q, rest, begins, has, at)) = whole_fine bytes r q rest cause h.whole begins has
yes_not bytes r line cause h (inr (inl (q, whole, c, wrong))) =
    let same = whole_once bytes q r whole h.whole in
    wrong_not_right r r.claims line (subst (λ (z : Record). IsFirstWrong z z.claims line) same wrong) h.claims
yes_not bytes r line cause h (inr (inr (q, whole, right, c, ended, wrong, at))) =
    let same = whole_once bytes q r whole h.whole in
    wrong (subst IsRightEnd (sym same) (h.end (subst (λ (z : Record). Rattle.pump_audit.specs.Claims.has_end z ≡ true) same ended)))

two : (line line' cause cause' : ℕ) → line ≡ line' → cause ≡ cause' → No line cause ≡ No line' cause'
two line line' cause cause' e f = λ i. No (e i) (f i)

no_once : (bytes : List ℕ) (line line' cause cause' : ℕ) → IsVerdict bytes (No line cause) → IsVerdict bytes (No line' cause') → No line cause ≡ No line' cause'
no_once bytes line line' cause cause' (inl (q, rest, begins, has, at)) (inl (q', rest', begins', has', at')) =
    let p = begins_once bytes q q' rest rest' begins begins' (stops_cause q rest cause has) (stops_cause q' rest' cause' has') in
    two line line' cause cause' (at ∙ ap (λ (z : Option Record). lines_in z + 1) p.0 ∙ sym at')
    (cause_once q' rest' cause cause' (subst (λ (z : Option Record × List ℕ). RestHasCause z.0 z.1 cause) (λ i. (p.0 i, p.1 i)) has) has')
no_once bytes line line' cause cause' (inl (q, rest, begins, has, at)) (inr (inl (r, whole, c, wrong))) = absurd (whole_fine bytes r q rest cause whole begins has)
no_once bytes line line' cause cause' (inl (q, rest, begins, has, at)) (inr (inr (r, whole, right, c, ended, wrong, at'))) = absurd (whole_fine bytes r q rest cause whole begins has)
no_once bytes line line' cause cause' (inr (inl (r, whole, c, wrong))) (inl (q, rest, begins, has, at)) = absurd (whole_fine bytes r q rest cause' whole begins has)
no_once bytes line line' cause cause' (inr (inl (r, whole, c, wrong))) (inr (inl (r', whole', c', wrong'))) =
    let same = whole_once bytes r r' whole whole' in
    two line line' cause cause' (first_once r' r'.claims line line' (subst (λ (z : Record). IsFirstWrong z z.claims line) same wrong) wrong') (c ∙ sym c')
no_once bytes line line' cause cause' (inr (inl (r, whole, c, wrong))) (inr (inr (r', whole', right, c', ended, wrong', at))) =
    let same = whole_once bytes r r' whole whole' in
    absurd (wrong_not_right r' r'.claims line (subst (λ (z : Record). IsFirstWrong z z.claims line) same wrong) right)
no_once bytes line line' cause cause' (inr (inr (r, whole, right, c, ended, wrong, at))) (inl (q, rest, begins, has, at')) = absurd (whole_fine bytes r q rest cause' whole begins has)
no_once bytes line line' cause cause' (inr (inr (r, whole, right, c, ended, wrong, at))) (inr (inl (r', whole', c', wrong'))) =
    let same = whole_once bytes r r' whole whole' in
    absurd (wrong_not_right r' r'.claims line' wrong' (subst (λ (z : Record). AreRight z z.claims) same right))
no_once bytes line line' cause cause' (inr (inr (r, whole, right, c, ended, wrong, at))) (inr (inr (r', whole', right', c', ended', wrong', at'))) =
    let same = whole_once bytes r r' whole whole' in
    two line line' cause cause' (at ∙ ap (λ (z : Record). z.lines) same ∙ sym at') (c ∙ sym c')

pub verdict_once : (bytes : List ℕ) (v w : Verdict) → IsVerdict bytes v → IsVerdict bytes w → v ≡ w
verdict_once bytes (Yes looks acks times) (Yes looks' acks' times') (r, clean, a, b, c) (q, clean', a', b', c') =
    let same = whole_once bytes r q clean.whole clean'.whole in
    λ i. Yes ((a ∙ ap (λ (z : Record). length z.looks) same ∙ sym a') i) ((b ∙ ap (λ (z : Record). Rattle.pump_audit.specs.Verdicts.acknowledgements z.comments) same ∙ sym b') i) ((c ∙ ap (λ (z : Record). length z.times) same ∙ sym c') i)
verdict_once bytes (Yes looks acks times) (No line cause) (r, clean, a, b, c) k = absurd (yes_not bytes r line cause clean k)
verdict_once bytes (No line cause) (Yes looks acks times) h (r, clean, a, b, c) = absurd (yes_not bytes r line cause clean h)
verdict_once bytes (No line cause) (No line' cause') h k = no_once bytes line line' cause cause' h k
