-- A text is one line of a record at most, and bytes are one pair of sides at most.
use Rattle.std.proofs.Common.{◌≡◌, ℕ, Bool, true, false, List, [], ◌∷◌, ◌++◌, get_or, Option, Some, None, inl, refl, sym, ap, ◌∙◌, subst, arith}
use Rattle.std.specs.Prelude.{◌==◌, not}
use Rattle.std.proofs.lemmas.Bool.{both_ways, eq-eqb}
use Rattle.std.proofs.lemmas.List.Elements.{All-head, All-tail, All-weaker}
use Rattle.std.proofs.lemmas.List.Sums.{AllPass-from_list_all}
use Rattle.std.proofs.lemmas.Option.{same_Some}
use Rattle.pump_frame.specs.Spellings.{spelling, header_of}
use Rattle.pump_frame.specs.declared.frame.Frame.{Frame}
use Rattle.pump_frame.specs.declared.row.SessionRow.{SessionRow}
use Rattle.pump_frame.proofs.Exact.{same_frame}
use Rattle.script_reader.specs.declared.line.Arriving.{Arriving}
use Rattle.script_reader.specs.declared.line.Arriving.TheVariants as arriving
use Rattle.script_reader.specs.declared.line.Line.{Line}
use Rattle.script_reader.specs.declared.line.Line.TheVariants as lines
use Rattle.script_reader.specs.declared.line.ToldFeedback.TheVariants as told
use Rattle.script_reader.specs.Grammar.{IsLine}
use Rattle.script_reader.specs.Lines.{is_end, IsUnended}
use Rattle.script_reader.proofs.LineLaws.{one_line}
use Rattle.pump_audit.specs.declared.entry.Coming.{Coming}
use Rattle.pump_audit.specs.declared.entry.Coming.TheVariants as coming
use Rattle.pump_audit.specs.declared.entry.LookLine.{LookLine}
use Rattle.pump_audit.specs.declared.entry.Note.{Note}
use Rattle.pump_audit.specs.declared.entry.Note.TheVariants as notes
use Rattle.pump_audit.specs.declared.entry.Entry.{Entry}
use Rattle.pump_audit.specs.declared.entry.Entry.TheVariants as entries
use Rattle.pump_audit.specs.declared.form.Form.{Form}
use Rattle.pump_audit.specs.Comparing.{SideTold, with_entry, Lists, SideOf, AreSide, ArePair, EndsSide, separator, joined}
use Rattle.pump_audit.specs.Entries.{IsEntry, IsPlainIn, line_in, line_of, note_text}
use Rattle.pump_audit.specs.Noting.{IsScript}
use Rattle.pump_audit.specs.Texts.{IsText}
use Rattle.pump_audit.proofs.EntryLaws.{only_script, only_comment, is_skipped}
use Rattle.pump_audit.proofs.NoteLaws.{only_note}

-- ---- a line of a look ----

abbrev bytes_in : Arriving → List ℕ
bytes_in (arriving.Raw bytes) = bytes.items
bytes_in _ = []

abbrev arriving_in : Line → Arriving
arriving_in (lines.Told session moment word is_fault t a) = a
arriving_in _ = arriving.Nothing

abbrev look_in : Line → Coming → LookLine
look_in (lines.Told session moment word is_fault t a) c = record { session = session; moment = moment; word = word; is_fault = is_fault; told = t; coming = c }
look_in (lines.Gone session moment) c = record { session = session; moment = moment; word = 0; is_fault = false; told = told.Quiet; coming = c }
look_in _ c = record { session = 0; moment = 0; word = 0; is_fault = false; told = told.Quiet; coming = c }

not_spelled : (f : Frame) → spelling f ≡ 0 ∷ [] → ⊥
unfolding spelling header_of
not_spelled f e = absurd (cc)

spellings_in : (l m : LookLine) (f g : Frame) → line_in l (coming.Frame f) ≡ line_in m (coming.Frame g) → spelling f ≡ spelling g
spellings_in l m f g e = ap (λ k. bytes_in (arriving_in k)) e

bad_in : (l m : LookLine) (f : Frame) → line_in l (coming.Frame f) ≡ line_in m coming.Bad → spelling f ≡ 0 ∷ []
bad_in l m f e = ap (λ k. bytes_in (arriving_in k)) e

module _ (l m : LookLine) where
  with_coming : (c : Coming) → l.coming ≡ c → m.coming ≡ c → look_in (line_in l c) c ≡ record l { coming = c } → look_in (line_in m c) c ≡ record m { coming = c } → line_in l c ≡ line_in m c → l ≡ m
  with_coming c is is' h h' e =
      ap (λ (x : Coming). record l { coming = x }) is ∙ sym h ∙ ap (λ (k : Line). look_in k c) e ∙ h' ∙ ap (λ (x : Coming). record m { coming = x }) (sym is')

  plain_gone : (x : LookLine) → IsPlainIn x coming.Gone → look_in (line_in x coming.Gone) coming.Gone ≡ record x { coming = coming.Gone }
  plain_gone x p = λ i. record { session = x.session; moment = x.moment; word = sym p.0 i; is_fault = sym p.1 i; told = sym p.2 i; coming = coming.Gone }

  look_once : (c d : Coming) → l.coming ≡ c → m.coming ≡ d → IsPlainIn l c → IsPlainIn m d → line_in l c ≡ line_in m d → l ≡ m
  look_once coming.Nothing coming.Nothing is is' p q e = with_coming coming.Nothing is is' refl refl e
  look_once (coming.Frame f) (coming.Frame g) is is' p q e =
      let same : g ≡ f = same_frame g f q p (sym (spellings_in l m f g e)) in
      with_coming (coming.Frame f) is (is' ∙ ap coming.Frame same) refl refl (e ∙ ap (λ (h : Frame). line_in m (coming.Frame h)) same)
  look_once coming.Bad coming.Bad is is' p q e = with_coming coming.Bad is is' refl refl e
  look_once coming.Gone coming.Gone is is' p q e = with_coming coming.Gone is is' (plain_gone l p) (plain_gone m q) e
  look_once (coming.Frame f) coming.Bad is is' p q e = absurd (not_spelled f (bad_in l m f e))
  look_once coming.Bad (coming.Frame f) is is' p q e = absurd (not_spelled f (bad_in m l f (sym e)))
  look_once coming.Nothing (coming.Frame g) is is' p q e = absurd (cc)
  look_once coming.Nothing coming.Bad is is' p q e = absurd (cc)
  look_once coming.Nothing coming.Gone is is' p q e = absurd (cc)
  look_once (coming.Frame f) coming.Nothing is is' p q e = absurd (cc)
  look_once (coming.Frame f) coming.Gone is is' p q e = absurd (cc)
  look_once coming.Bad coming.Nothing is is' p q e = absurd (cc)
  look_once coming.Bad coming.Gone is is' p q e = absurd (cc)
  look_once coming.Gone coming.Nothing is is' p q e = absurd (cc)
  look_once coming.Gone (coming.Frame g) is is' p q e = absurd (cc)
  look_once coming.Gone coming.Bad is is' p q e = absurd (cc)

-- ---- a text ----

abbrev opening_in : SessionRow × ℕ × Bool → Line → SessionRow × ℕ × Bool
opening_in o (lines.LowSession row next is_held) = (row, next, is_held)
opening_in o _ = o

abbrev session_in : Line → ℕ
session_in (lines.Coarse session) = session
session_in _ = 0

opens_as : (row : SessionRow) (next : ℕ) (is_held : Bool) (l : LookLine) (c : Coming) → lines.LowSession row next is_held ≡ line_in l c → ⊥
opens_as row next is_held l coming.Nothing e = absurd (cc)
opens_as row next is_held l (coming.Frame f) e = absurd (cc)
opens_as row next is_held l coming.Bad e = absurd (cc)
opens_as row next is_held l coming.Gone e = absurd (cc)

coarse_as : (session : ℕ) (l : LookLine) (c : Coming) → lines.Coarse session ≡ line_in l c → ⊥
coarse_as session l coming.Nothing e = absurd (cc)
coarse_as session l (coming.Frame f) e = absurd (cc)
coarse_as session l coming.Bad e = absurd (cc)
coarse_as session l coming.Gone e = absurd (cc)

skip_as : (l : LookLine) (c : Coming) → line_in l c ≡ lines.Skip → ⊥
skip_as l coming.Nothing e = absurd (cc)
skip_as l (coming.Frame f) e = absurd (cc)
skip_as l coming.Bad e = absurd (cc)
skip_as l coming.Gone e = absurd (cc)

opening_once : (row : SessionRow) (next : ℕ) (is_held : Bool) (d : Entry) → IsScript d (lines.LowSession row next is_held) → Some (entries.Opening row next is_held) ≡ Some d
opening_once row next is_held (entries.Opening row' next' is_held') h =
    ap (λ (o : SessionRow × ℕ × Bool). Some (entries.Opening o.0 o.1 o.2)) (ap (opening_in (row, next, is_held)) h.0)
opening_once row next is_held (entries.Coarse s) h = absurd (cc)
opening_once row next is_held (entries.Look l) h = absurd (opens_as row next is_held l l.coming h.0)
opening_once row next is_held (entries.Comment note) h = absurd h

coarse_once : (session : ℕ) (d : Entry) → IsScript d (lines.Coarse session) → Some (entries.Coarse session) ≡ Some d
coarse_once session (entries.Opening row next is_held) h = absurd (let k = h.0 in cc)
coarse_once session (entries.Coarse s) h = ap (λ (n : ℕ). Some (entries.Coarse n)) (ap session_in h)
coarse_once session (entries.Look l) h = absurd (coarse_as session l l.coming h.0)
coarse_once session (entries.Comment note) h = absurd h

line_once : (l : LookLine) → IsPlainIn l l.coming → (d : Entry) → IsScript d (line_of l) → Some (entries.Look l) ≡ Some d
line_once l plain (entries.Opening row next is_held) h = absurd (opens_as row next is_held l l.coming (sym h.0))
line_once l plain (entries.Coarse s) h = absurd (coarse_as s l l.coming (sym h))
line_once l plain (entries.Look m) h = ap (λ (x : LookLine). Some (entries.Look x)) (look_once l m l.coming m.coming refl refl plain h.1 h.0)
line_once l plain (entries.Comment note) h = absurd h

pub entry_once : (text : List ℕ) (e d : Entry) → IsEntry e text → IsEntry d text → e ≡ d
entry_once text (entries.Opening row next is_held) d h k =
    same_Some _ d (only_script (lines.LowSession row next is_held) text (Some (entries.Opening row next is_held)) (λ l is. one_line text _ l h.0 is) (λ e. absurd (cc)) (opening_once row next is_held) d k)
entry_once text (entries.Coarse s) d h k =
    same_Some _ d (only_script (lines.Coarse s) text (Some (entries.Coarse s)) (λ l is. one_line text _ l h is) (λ e. absurd (cc)) (coarse_once s) d k)
entry_once text (entries.Look l) d h k =
    same_Some _ d (only_script (line_of l) text (Some (entries.Look l)) (λ m is. one_line text _ m h.0 is) (λ e. skip_as l l.coming e) (line_once l h.1) d k)
entry_once text (entries.Comment note) d h k =
    same_Some _ d (only_comment text (Some note) (λ l is. one_line text lines.Skip l (is_skipped note text h.1 h.2) is) (λ n r e. sym (only_note text note h.0 h.1) ∙ only_note text n r e) d k)

-- ---- the line between two records ----

skips : IsLine lines.Skip separator
skips = (omega arith, inl (refl, refl))

apart_marks : (n : ℕ) → (99 == n) ≡ false → 99 ≡ n → ⊥
apart_marks n h e = both_ways (99 == n) h (eq-eqb 99 n e)

between : (n : Note) → separator ≡ note_text n → ⊥
between (notes.Low session moment reply) e = let k : 99 ≡ 108 = ap (λ (l : List ℕ). get_or l 2 0) e in apart_marks 108 refl k
between (notes.Time micros) e = let k : 99 ≡ 116 = ap (λ (l : List ℕ). get_or l 2 0) e in apart_marks 116 refl k
between (notes.Took count) e = let k : 99 ≡ 116 = ap (λ (l : List ℕ). get_or l 2 0) e in apart_marks 116 refl k
between (notes.End accepted removed) e = let k : 99 ≡ 101 = ap (λ (l : List ℕ). get_or l 2 0) e in apart_marks 101 refl k

no_separator : (e : Entry) → IsEntry e separator → ⊥
no_separator (entries.Opening row next is_held) h = absurd (let k = one_line separator _ _ h.0 skips in cc)
no_separator (entries.Coarse s) h = absurd (let k = one_line separator _ _ h skips in cc)
no_separator (entries.Look l) h = skip_as l l.coming (one_line separator _ _ h.0 skips)
no_separator (entries.Comment note) h = between note h.1

flipped : (b : Bool) → not b ≡ true → b ≡ false
flipped false e = refl
flipped true e = absurd (cc)

not_end : (b : ℕ) → not (is_end b) ≡ true → is_end b ≡ false
not_end b e = flipped (is_end b) e

pub separator_unended : IsUnended separator
separator_unended = All-weaker (λ x. not (is_end x) ≡ true) (λ b. is_end b ≡ false) not_end separator (AllPass-from_list_all (λ b. not (is_end b)) separator refl)

-- ---- texts from the first one on ----

abbrev Goes : Option SideTold → List (List ℕ) → Option SideTold → Type 0
Goes s [] t = s ≡ t
Goes s (text ∷ later) t = IsText text × (e : Entry) × IsEntry e text × (q : SideTold) × Lists s e q × Goes (Some q) later t

abbrev pub turned : List (List ℕ) → List (List ℕ) → List (List ℕ)
turned [] later = later
turned (text ∷ before) later = turned before (text ∷ later)

abbrev pub ahead : List (List ℕ) → List ℕ → List ℕ
ahead [] rest = rest
ahead (text ∷ later) rest = text ++ 10 ∷ ahead later rest

forward : (texts : List (List ℕ)) (s : Option SideTold) (later : List (List ℕ)) (t : Option SideTold) → SideOf texts s → Goes s later t → Goes None (turned texts later) t
forward [] s later t h g = subst (λ (z : Option SideTold). Goes z later t) h g
forward (text ∷ before) s later t (was, of_was, is_text, e, is, q, lists, same) g =
    forward before was (text ∷ later) t of_was (is_text, e, is, q, lists, subst (λ (z : Option SideTold). Goes z later t) same g)

spread : (texts later : List (List ℕ)) (rest : List ℕ) → joined texts (ahead later rest) ≡ ahead (turned texts later) rest
spread [] later rest = refl
spread (text ∷ before) later rest = spread before (text ∷ later) rest

ten : (b : ℕ) → is_end b ≡ false → b ≡ 10 → ⊥
ten b h e = both_ways (is_end b) h (ap is_end e)

tail_of : List ℕ → List ℕ
tail_of [] = []
tail_of (b ∷ bytes) = bytes

pub split_once : (x y a b : List ℕ) → IsUnended x → IsUnended y → x ++ 10 ∷ a ≡ y ++ 10 ∷ b → (x ≡ y) × (a ≡ b)
unfolding tail_of
split_once [] [] a b u v e = (refl, ap tail_of e)
split_once [] (c ∷ y) a b u v e = absurd (ten c (All-head (λ z. is_end z ≡ false) c y v) cc)
split_once (c ∷ x) [] a b u v e = absurd (ten c (All-head (λ z. is_end z ≡ false) c x u) cc)
split_once (c ∷ x) (d ∷ y) a b u v e =
    let p = split_once x y a b (All-tail (λ z. is_end z ≡ false) c x u) (All-tail (λ z. is_end z ≡ false) d y v) (ap tail_of e) in
    let h : c ≡ d = cc in
    (λ i. h i ∷ p.0 i, p.1)

lists_first : (e : Entry) (p q : SideTold) → Lists None e p → Lists None e q → p ≡ q
lists_first (entries.Opening row next is_held) p q h k = h ∙ sym k
lists_first (entries.Coarse s) p q h k = absurd h
lists_first (entries.Look l) p q h k = absurd h
lists_first (entries.Comment note) p q h k = absurd h

pub lists_once : (s : Option SideTold) (e : Entry) (p q : SideTold) → Lists s e p → Lists s e q → p ≡ q
lists_once None e p q h k = lists_first e p q h k
lists_once (Some s) e p q h k = h.2 ∙ ap (λ (f : Form). with_entry s e f.place) (same_Some _ _ (sym h.1 ∙ k.1)) ∙ sym k.2

pub nothing_left : (y b : List ℕ) → [] ≡ y ++ 10 ∷ b → ⊥
nothing_left [] b e = absurd (cc)
nothing_left (c ∷ y) b e = absurd (cc)

-- where one record ends no line of another one stands
pub ends_there : (is_first : Bool) (t : SideTold) (rest left y b : List ℕ) (e : Entry) → EndsSide is_first t rest left → IsText y → IsEntry e y → rest ≡ y ++ 10 ∷ b → ⊥
ends_there true t rest left y b e ends is_text is same =
    let p = split_once separator y left b separator_unended is_text.unended (sym ends.1 ∙ same) in
    no_separator e (subst (IsEntry e) (sym p.0) is)
ends_there false t rest left y b e ends is_text is same = nothing_left y b (sym ends.1 ∙ same)

pub left_once : (is_first : Bool) (t u : SideTold) (rest rest' left left' : List ℕ) → EndsSide is_first t rest left → EndsSide is_first u rest' left' → rest ≡ rest' → left ≡ left'
left_once true t u rest rest' left left' h k e = (split_once separator separator left left' separator_unended separator_unended (sym h.1 ∙ e ∙ k.1)).1
left_once false t u rest rest' left left' h k e = h.2 ∙ sym k.2

once : (is_first : Bool) (s : Option SideTold) (xs ys : List (List ℕ)) (t u : SideTold) (rest rest' left left' : List ℕ) → Goes s xs (Some t) → Goes s ys (Some u)
    → EndsSide is_first t rest left → EndsSide is_first u rest' left' → ahead xs rest ≡ ahead ys rest' → (t ≡ u) × (left ≡ left')
once is_first s [] [] t u rest rest' left left' g h ends ends' e = (same_Some t u (sym g ∙ h), left_once is_first t u rest rest' left left' ends ends' e)
once is_first s [] (y ∷ ys) t u rest rest' left left' g h ends ends' e = absurd (ends_there is_first t rest left y (ahead ys rest') h.1 ends h.0 h.2 e)
once is_first s (x ∷ xs) [] t u rest rest' left left' g h ends ends' e = absurd (ends_there is_first u rest' left' x (ahead xs rest) g.1 ends' g.0 g.2 (sym e))
once is_first s (x ∷ xs) (y ∷ ys) t u rest rest' left left' (gt, ge, gi, gq, gl, gs) (ht, he, hi, hq, hl, hs) ends ends' e =
    let p = split_once x y (ahead xs rest) (ahead ys rest') gt.unended ht.unended e in
    let same : he ≡ ge = entry_once x he ge (subst (IsEntry he) (sym p.0) hi) gi in
    let side : hq ≡ gq = lists_once s ge hq gq (subst (λ (z : Entry). Lists s z hq) same hl) gl in
    once is_first (Some gq) xs ys t u rest rest' left left' gs (subst (λ (z : SideTold). Goes (Some z) ys (Some u)) side hs) ends ends' p.1

pub side_once : (is_first : Bool) (bytes : List ℕ) (t u : SideTold) (left left' : List ℕ) → AreSide is_first bytes t left → AreSide is_first bytes u left' → (t ≡ u) × (left ≡ left')
side_once is_first bytes t u left left' h k =
    once is_first None (turned h.begins.texts []) (turned k.begins.texts []) t u h.rest k.rest left left'
    (forward h.begins.texts (Some t) [] (Some t) h.begins.side_of refl) (forward k.begins.texts (Some u) [] (Some u) k.begins.side_of refl)
    h.ends k.ends
    (sym (spread h.begins.texts [] h.rest) ∙ sym h.begins.whole ∙ k.begins.whole ∙ spread k.begins.texts [] k.rest)

pub pair_once : (bytes : List ℕ) (a b c d : SideTold) → ArePair bytes a b → ArePair bytes c d → (a ≡ c) × (b ≡ d)
pair_once bytes a b c d h k =
    let p = side_once true bytes a c h.left k.left h.first k.first in
    let q = side_once false h.left b d [] [] h.second (subst (λ (l : List ℕ). AreSide false l d []) (sym p.1) k.second) in
    (p.0, q.0)
