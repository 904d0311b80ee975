-- Records whose sides agree have the same replies, and the lines of a record are those of its side.
use Rattle.std.proofs.Common.{◌≡◌, ℕ, Bool, true, false, List, [], ◌∷◌, ◌++◌, Option, Some, None, refl, sym, ap, ◌∙◌, subst, append_assoc, append-nil}
use Rattle.std.specs.Prelude.{if◌then◌else◌, ◌&&◌, ◌==◌, not, option_map, is_some, ◌+◌}
use Rattle.std.specs.Str.{bytes_eq}
use Rattle.std.proofs.lemmas.Bool.{and_parts, eqb-true}
use Rattle.std.proofs.lemmas.List.{same_from_push}
use Rattle.std.proofs.lemmas.Slice.Eq.{bytes_eq-Decides}
use Rattle.pump_frame.specs.Frames.{IsLawful}
use Rattle.pump_frame.specs.Spellings.{spelling, header_of}
use Rattle.pump_frame.specs.declared.frame.Frame.{Frame}
use Rattle.pump_frame.specs.declared.row.SessionRow.{SessionRow}
use Rattle.pump_frame.proofs.Exact.{same_frame}
use Rattle.pump_core.specs.declared.feedback.Feedback.{Feedback}
use Rattle.pump_core.specs.declared.feedback.Feedback.TheVariants as feedbacks
use Rattle.pump_core.specs.History.{Arrival, Look, Opening}
use Rattle.pump_core.specs.History.{Nothing, Came, Bad, Gone}
use Rattle.pump_core.specs.Exchanges.{is_gone, is_repeat, has_average, looks_of}
use Rattle.pump_core.specs.Pairs.{uncounted as forget, SameLook, SameLooks}
use Rattle.pump_core.specs.Phases.{Phase}
use Rattle.pump_core.specs.Phases.{Idle, Passing, Waiting, Down}
use Rattle.pump_core.specs.Replies.{Sent, LowReplies}
use Rattle.pump_core.specs.Standing.{State, HasCut}
use Rattle.pump_core.specs.Step.{after, FeedbackFits, fits_in, fits_passing, fits_idle, is_quiet}
use Rattle.pump_core.proofs.Agreement.{same_step, same_lives}
use Rattle.pump_core.proofs.CutsFit.{cuts_fit}
use Rattle.pump_core.proofs.Runs.{run, ran}
use Rattle.script_reader.specs.declared.line.ToldFeedback.{ToldFeedback}
use Rattle.script_reader.specs.declared.line.ToldFeedback.TheVariants as told
use Rattle.pump_audit.specs.declared.compared.What.{What}
use Rattle.pump_audit.specs.declared.entry.Coming.{Coming}
use Rattle.pump_audit.specs.declared.entry.Coming.TheVariants as coming
use Rattle.pump_audit.specs.declared.entry.LookLine.{LookLine}
use Rattle.pump_audit.specs.declared.entry.Note.{Note}
use Rattle.pump_audit.specs.declared.entry.Note.TheVariants as notes
use Rattle.pump_audit.specs.declared.entry.Entry.{Entry}
use Rattle.pump_audit.specs.declared.entry.Entry.TheVariants as entries
use Rattle.pump_audit.specs.declared.form.Form.{Form}
use Rattle.pump_audit.specs.declared.form.RecordPlace.{RecordPlace}
use Rattle.pump_audit.specs.declared.form.RecordPlace.TheVariants as places
use Rattle.pump_audit.specs.Agreeing.{offered_by, told_of, item_in, items_in, side_of}
use Rattle.pump_audit.specs.Auditing.{history_in}
use Rattle.pump_audit.specs.Comparing.{ItemTold, offered_bytes, uncounted, item_of, Lists, SideOf, BeginsSide, ArePair, separator, same_told, same_bool, unlike, AreAlike, SameOpening, joined as side_joined}
use Rattle.pump_audit.specs.Entries.{IsEntry, IsPlainIn, arrival_of}
use Rattle.pump_audit.specs.Places.{at_place, behind_line, is_opening, takes_looks, takes_times, is_taken}
use Rattle.pump_audit.specs.Records.{Record, form_of, history_of, Means, look_of, IsNextLook, Follows, Continues, with_note}
use Rattle.pump_audit.specs.Verdicts.{RecordOf, LinesOf, joined, IsWhole, IsLife}

-- ---- items that are alike are the same ----

bool_same : (a b : Bool) → same_bool a b ≡ true → a ≡ b
bool_same true b e = sym e
bool_same false false e = refl
bool_same false true e = absurd (cc)

told_same : (t u : ToldFeedback) → same_told t u ≡ true → t ≡ u
told_same told.Quiet told.Quiet e = refl
told_same told.Full told.Full e = refl
told_same (told.Pair c a) (told.Pair d b) e =
    let p = and_parts (c == d) (a == b) e in
    λ i. told.Pair (eqb-true c d p.0 i) (eqb-true a b p.1 i)
told_same told.Quiet told.Full e = absurd (cc)
told_same told.Quiet (told.Pair d b) e = absurd (cc)
told_same told.Full told.Quiet e = absurd (cc)
told_same told.Full (told.Pair d b) e = absurd (cc)
told_same (told.Pair c a) told.Quiet e = absurd (cc)
told_same (told.Pair c a) told.Full e = absurd (cc)

passes : (b : Bool) (w : What) (o : Option What) → (if not b then Some w else o) ≡ None → (b ≡ true) × (o ≡ None)
passes true w o e = (refl, e)
passes false w o e = absurd (cc)

item_same : (x y : ItemTold) → unlike x y ≡ None → x ≡ y
item_same x y e =
    let m = passes (x.moment == y.moment) _ _ e in
    let w = passes (x.word == y.word) _ _ m.1 in
    let o = passes (bytes_eq x.offered y.offered) _ _ w.1 in
    let f = passes (same_bool x.is_fault y.is_fault) _ _ o.1 in
    let t = passes (same_told x.told y.told) _ _ f.1 in
    λ i. record {
      moment = eqb-true x.moment y.moment m.0 i;
      word = eqb-true x.word y.word w.0 i;
      offered = (bytes_eq-Decides x.offered y.offered).0 o.0 i;
      is_fault = bool_same x.is_fault y.is_fault f.0 i;
      told = told_same x.told y.told t.0 i;
    }

items_same : (xs ys : List ItemTold) → AreAlike xs ys → xs ≡ ys
items_same [] [] e = refl
items_same (x ∷ xs) (y ∷ ys) e = λ i. item_same x y e.0 i ∷ items_same xs ys e.1 i
items_same [] (y ∷ ys) e = absurd e
items_same (x ∷ xs) [] e = absurd e

-- ---- looks that are told alike in one state ----

abbrev HasLawful : Arrival → Type 0
HasLawful (Came f) = IsLawful f
HasLawful Nothing = Unit {0}
HasLawful Bad = Unit {0}
HasLawful Gone = Unit {0}

-- no frame has no byte, or is one of these two
no_frame : (f : Frame) → ([] ≡ spelling f → ⊥) × (0 ∷ [] ≡ spelling f → ⊥) × (1 ∷ [] ≡ spelling f → ⊥)
unfolding spelling header_of
no_frame f = (λ e. absurd (cc), λ e. absurd (cc), λ e. absurd (cc))

offered_same : (a b : Arrival) → HasLawful a → HasLawful b → offered_by a ≡ offered_by b → a ≡ b
offered_same (Came f) (Came g) l m e = ap Came (same_frame f g l m e)
offered_same Nothing Nothing l m e = refl
offered_same Bad Bad l m e = refl
offered_same Gone Gone l m e = refl
offered_same Nothing (Came g) l m e = absurd ((no_frame g).0 e)
offered_same Nothing Bad l m e = absurd (cc)
offered_same Nothing Gone l m e = absurd (cc)
offered_same Bad Nothing l m e = absurd (cc)
offered_same Bad (Came g) l m e = absurd ((no_frame g).1 e)
offered_same Bad Gone l m e = absurd (cc)
offered_same Gone Nothing l m e = absurd (cc)
offered_same Gone Bad l m e = absurd (cc)
offered_same Gone (Came g) l m e = absurd ((no_frame g).2 e)
offered_same (Came f) Nothing l m e = absurd ((no_frame f).0 (sym e))
offered_same (Came f) Bad l m e = absurd ((no_frame f).1 (sym e))
offered_same (Came f) Gone l m e = absurd ((no_frame f).2 (sym e))

abbrev average_in : ToldFeedback → ℕ
average_in (told.Pair c a) = a
average_in told.Quiet = 0
average_in told.Full = 0

module _ (row : SessionRow) where
  quiet_same : (f g : Feedback) → is_quiet f ≡ true → is_quiet g ≡ true → forget f ≡ forget g
  quiet_same feedbacks.Quiet feedbacks.Quiet p q = refl
  quiet_same feedbacks.Quiet feedbacks.Full p q = absurd (cc)
  quiet_same feedbacks.Quiet (feedbacks.Passed t) p q = absurd (cc)
  quiet_same feedbacks.Quiet feedbacks.Released p q = absurd (cc)
  quiet_same feedbacks.Quiet (feedbacks.Repeat t) p q = absurd (cc)
  quiet_same feedbacks.Full g p q = absurd (cc)
  quiet_same (feedbacks.Passed s) g p q = absurd (cc)
  quiet_same feedbacks.Released g p q = absurd (cc)
  quiet_same (feedbacks.Repeat s) g p q = absurd (cc)

  repeat_same : (f g : Feedback) → has_average f ≡ true → has_average g ≡ true → told_of row f ≡ told_of row g → forget f ≡ forget g
  repeat_same (feedbacks.Repeat s) (feedbacks.Repeat t) p q e = ap (λ (a : ℕ). feedbacks.Repeat (record { count = 0; average = a })) (ap average_in e)
  repeat_same (feedbacks.Repeat s) feedbacks.Quiet p q e = absurd (cc)
  repeat_same (feedbacks.Repeat s) feedbacks.Full p q e = absurd (cc)
  repeat_same (feedbacks.Repeat s) (feedbacks.Passed t) p q e = absurd (cc)
  repeat_same (feedbacks.Repeat s) feedbacks.Released p q e = absurd (cc)
  repeat_same feedbacks.Quiet g p q e = absurd (cc)
  repeat_same feedbacks.Full g p q e = absurd (cc)
  repeat_same (feedbacks.Passed s) g p q e = absurd (cc)
  repeat_same feedbacks.Released g p q e = absurd (cc)

  owed_same : (n : ℕ) (f g : Feedback) → fits_passing (Some n) f ≡ true → fits_passing (Some n) g ≡ true → told_of row f ≡ told_of row g → forget f ≡ forget g
  owed_same n feedbacks.Full feedbacks.Full p q e = refl
  owed_same n (feedbacks.Passed s) (feedbacks.Passed t) p q e = ap (λ (a : ℕ). feedbacks.Passed (record { count = 0; average = a })) (ap average_in e)
  owed_same n feedbacks.Full (feedbacks.Passed t) p q e = absurd (cc)
  owed_same n (feedbacks.Passed s) feedbacks.Full p q e = absurd (cc)
  owed_same n feedbacks.Full feedbacks.Quiet p q e = absurd (cc)
  owed_same n feedbacks.Full feedbacks.Released p q e = absurd (cc)
  owed_same n feedbacks.Full (feedbacks.Repeat t) p q e = absurd (cc)
  owed_same n (feedbacks.Passed s) feedbacks.Quiet p q e = absurd (cc)
  owed_same n (feedbacks.Passed s) feedbacks.Released p q e = absurd (cc)
  owed_same n (feedbacks.Passed s) (feedbacks.Repeat t) p q e = absurd (cc)
  owed_same n feedbacks.Quiet g p q e = absurd (cc)
  owed_same n feedbacks.Released g p q e = absurd (cc)
  owed_same n (feedbacks.Repeat s) g p q e = absurd (cc)

  left_same : (f g : Feedback) → fits_passing None f ≡ true → fits_passing None g ≡ true → told_of row f ≡ told_of row g → forget f ≡ forget g
  left_same feedbacks.Full feedbacks.Full p q e = refl
  left_same feedbacks.Released feedbacks.Released p q e = refl
  left_same feedbacks.Full feedbacks.Released p q e = absurd (cc)
  left_same feedbacks.Released feedbacks.Full p q e = absurd (cc)
  left_same feedbacks.Full feedbacks.Quiet p q e = absurd (cc)
  left_same feedbacks.Full (feedbacks.Passed t) p q e = absurd (cc)
  left_same feedbacks.Full (feedbacks.Repeat t) p q e = absurd (cc)
  left_same feedbacks.Released feedbacks.Quiet p q e = absurd (cc)
  left_same feedbacks.Released (feedbacks.Passed t) p q e = absurd (cc)
  left_same feedbacks.Released (feedbacks.Repeat t) p q e = absurd (cc)
  left_same feedbacks.Quiet g p q e = absurd (cc)
  left_same (feedbacks.Passed s) g p q e = absurd (cc)
  left_same (feedbacks.Repeat s) g p q e = absurd (cc)

  passing_same : (owed : Option ℕ) (f g : Feedback) → fits_passing owed f ≡ true → fits_passing owed g ≡ true → told_of row f ≡ told_of row g → forget f ≡ forget g
  passing_same (Some n) f g p q e = owed_same n f g p q e
  passing_same None f g p q e = left_same f g p q e

  gone_same : (b : Bool) (owed : Option ℕ) (f g : Feedback) → (if b then is_quiet f else fits_passing owed f) ≡ true → (if b then is_quiet g else fits_passing owed g) ≡ true → told_of row f ≡ told_of row g → forget f ≡ forget g
  gone_same true owed f g p q e = quiet_same f g p q
  gone_same false owed f g p q e = passing_same owed f g p q e

  fit_same : (b : Bool) (f g : Feedback) → (if b then has_average f else is_quiet f) ≡ true → (if b then has_average g else is_quiet g) ≡ true → told_of row f ≡ told_of row g → forget f ≡ forget g
  fit_same true f g p q e = repeat_same f g p q e
  fit_same false f g p q e = quiet_same f g p q

  idle_same : (s : State) (a : Arrival) (f g : Feedback) → fits_idle row s a f ≡ true → fits_idle row s a g ≡ true → told_of row f ≡ told_of row g → forget f ≡ forget g
  idle_same s (Came frame) f g p q e = fit_same (is_repeat row s.next s.greeted frame) f g p q e
  idle_same s Nothing f g p q e = quiet_same f g p q
  idle_same s Bad f g p q e = quiet_same f g p q
  idle_same s Gone f g p q e = quiet_same f g p q

  feedback_same : (s : State) (x y : Look) (ph : Phase) → x.arrival ≡ y.arrival → fits_in row s x ph ≡ true → fits_in row s y ph ≡ true → told_of row x.feedback ≡ told_of row y.feedback → forget x.feedback ≡ forget y.feedback
  feedback_same s x y Down a p q e = quiet_same x.feedback y.feedback p q
  feedback_same s x y (Waiting n at) a p q e = quiet_same x.feedback y.feedback p q
  feedback_same s x y (Passing owed) a p q e =
      gone_same (is_gone x.arrival) owed x.feedback y.feedback p
      (subst (λ (c : Arrival). (if is_gone c then is_quiet y.feedback else fits_passing owed y.feedback) ≡ true) (sym a) q) e
  feedback_same s x y Idle a p q e =
      idle_same s x.arrival x.feedback y.feedback p (subst (λ (c : Arrival). fits_idle row s c y.feedback ≡ true) (sym a) q) e

-- ---- two lives ----

abbrev AreNext : SessionRow → Opening → List Look → Type 0
AreNext row o [] = Unit {0}
AreNext row o (x ∷ past) = HasLawful x.arrival × IsNextLook row (history_in o past) x × AreNext row o past

module _ (row : SessionRow) (o : Opening) where
  cut_of : (xs : List Look) → AreNext row o xs → HasCut row (record { opening = o; looks = xs })
  cut_of [] h = ([], record { are_parts = tt; looks = refl })
  cut_of (x ∷ past) h = (h.1.parts, h.1.cut)

  fits_of : (x : Look) (past : List Look) → AreNext row o (x ∷ past) → FeedbackFits row (run row o past) x
  fits_of x past h =
      let c = cut_of past h.2 in
      let e : looks_of h.1.parts ≡ x ∷ looks_of c.0 = sym h.1.cut.looks ∙ ap (λ r. x ∷ r) c.1.looks in
      let s = ap (run row o) c.1.looks ∙ (ran row o c.0 c.1.are_parts).state in
      subst (λ (t : State). FeedbackFits row t x) (sym s) (cuts_fit row o x c.0 h.1.parts c.1.are_parts h.1.cut.are_parts e)

  run_same : (xs ys : List Look) → SameLooks xs ys → run row o xs ≡ run row o ys
  run_same [] [] e = refl
  run_same [] (y ∷ ys) e = absurd e
  run_same (x ∷ xs) [] e = absurd e
  run_same (x ∷ xs) (y ∷ ys) e = ap (λ t. after row t x) (run_same xs ys e.1) ∙ (same_step row (run row o ys) x y e.0).0

  not_empty : (xs : List ItemTold) (x : ItemTold) → [] ≡ xs ++ x ∷ [] → ⊥
  not_empty [] x e = absurd (cc)
  not_empty (z ∷ xs) x e = absurd (cc)

  look_same : (x y : Look) (s : State) → HasLawful x.arrival → HasLawful y.arrival → FeedbackFits row s x → FeedbackFits row s y → item_in row x ≡ item_in row y → SameLook x y
  look_same x y s l m p q e =
      let a = offered_same x.arrival y.arrival l m (ap (λ (i : ItemTold). i.offered) e) in
      record {
        moment = ap (λ (i : ItemTold). i.moment) e;
        word = ap (λ (i : ItemTold). i.word) e;
        arrival = a;
        outcome = ap (λ (i : ItemTold). i.is_fault) e;
        feedback = feedback_same row s x y s.phase a p q (ap (λ (i : ItemTold). i.told) e);
      }

  looks_same : (xs ys : List Look) → AreNext row o xs → AreNext row o ys → items_in row xs ≡ items_in row ys → SameLooks xs ys
  looks_same [] [] h k e = tt
  looks_same [] (y ∷ ys) h k e = absurd (not_empty (items_in row ys) (item_in row y) e)
  looks_same (x ∷ xs) [] h k e = absurd (not_empty (items_in row xs) (item_in row x) (sym e))
  looks_same (x ∷ xs) (y ∷ ys) h k e =
      let p = same_from_push (items_in row xs) (items_in row ys) (item_in row x) (item_in row y) e in
      let older = looks_same xs ys h.2 k.2 p.0 in
      let fits = subst (λ (t : State). FeedbackFits row t y) (sym (run_same xs ys older)) (fits_of y ys k) in
      (look_same x y (run row o xs) h.0 k.0 (fits_of x xs h) fits p.1, older)

-- ---- whole records are lives ----

continues : (was : Option Record) (e : Entry) (q : Record) → Follows was e q → Continues was e q
continues None (entries.Opening row next is_held) q follows = follows
continues None (entries.Coarse session) q follows = absurd follows
continues None (entries.Look line) q follows = absurd follows
continues None (entries.Comment note) q follows = absurd follows
continues (Some r) e q follows = (follows.0, follows.2)

lines_of : (texts : List (List ℕ)) (r : Option Record) → RecordOf texts r → LinesOf texts r
lines_of [] r h = h
lines_of (text ∷ before) r (was, of_was, is_text, e, is, q, follows, same) = (was, lines_of before was of_was, is_text, e, is, q, continues was e q follows, same)

pub is_life : (bytes : List ℕ) (r : Record) → IsWhole bytes r → IsLife bytes r
is_life bytes r h = record { texts = h.begins.texts; lines_of = lines_of h.begins.texts (Some r) h.begins.record_of; bytes_are = h.begins.whole; ends = h.ends }

-- ---- the lines of a record ----

-- the looks go on with one another, and none came yet where only the opening stands
record Lived (r : Record) : Type 0 where
  next : AreNext r.row r.opening r.looks
  none : is_opening r.place ≡ true → r.looks ≡ []

came_lawful : (l : LookLine) (c : Coming) → IsPlainIn l c → HasLawful (arrival_of c)
came_lawful l coming.Nothing p = tt
came_lawful l (coming.Frame f) p = p
came_lawful l coming.Bad p = tt
came_lawful l coming.Gone p = tt

is_placed : (f : Form) (b : Bool) (p : RecordPlace) → is_some (at_place f b p) ≡ true → (b ≡ true) × (at_place f b p ≡ Some (record { session = f.session; place = p }))
is_placed f true p e = (refl, refl)
is_placed f false p e = absurd (cc)

noted : (r : Record) (note : Note) → Lived r → Lived (with_note r note)
noted r (notes.Low session moment reply) h = record { next = h.next; none = λ e. absurd (cc) }
noted r (notes.Time micros) h = record { next = h.next; none = λ e. absurd (cc) }
noted r (notes.Took count) h = record { next = h.next; none = λ e. absurd (cc) }
noted r (notes.End accepted removed) h = record { next = h.next; none = λ e. absurd (cc) }

lived_on : (r : Record) (e : Entry) (text : List ℕ) (q : Record) → IsEntry e text → Lived r → Continues (Some r) e q → Lived q
lived_on r (entries.Opening row next is_held) text q is h follows = absurd follows.1
lived_on r (entries.Coarse session) text q is h follows =
    let p = is_placed (form_of r) (session == r.row.id && is_opening r.place) places.Looks follows.0 in
    let none = h.none (and_parts (session == r.row.id) (is_opening r.place) p.0).1 in
    subst Lived (sym follows.1)
    (record {
      next = subst (λ (xs : List Look). AreNext (record r.row { coarse = true }) r.opening xs) (sym none) tt;
      none = λ e. absurd (cc);
    })
lived_on r (entries.Look line) text q is h follows =
    subst Lived (sym follows.1.2)
    (record {
      next = (came_lawful line line.coming is.1, follows.1.1.1, h.next);
      none = λ e. absurd (cc);
    })
lived_on r (entries.Comment note) text q is h follows = subst Lived (sym follows.1) (noted r note h)

lived_first : (e : Entry) (q : Record) → Continues None e q → Lived q
lived_first (entries.Opening row next is_held) q follows = subst Lived (sym follows) (record { next = tt; none = λ e. refl })
lived_first (entries.Coarse session) q follows = absurd follows
lived_first (entries.Look line) q follows = absurd follows
lived_first (entries.Comment note) q follows = absurd follows

abbrev LivedIn : Option Record → Type 0
LivedIn None = Unit {0}
LivedIn (Some r) = Lived r

lived_next : (was : Option Record) (e : Entry) (text : List ℕ) (q : Record) → IsEntry e text → LivedIn was → Continues was e q → Lived q
lived_next None e text q is h follows = lived_first e q follows
lived_next (Some r) e text q is h follows = lived_on r e text q is h follows

lived : (texts : List (List ℕ)) (r : Option Record) → LinesOf texts r → LivedIn r
lived [] r h = subst LivedIn (sym h) tt
lived (text ∷ before) r (was, of_was, is_text, e, is, q, follows, same) =
    subst LivedIn (sym same) (lived_next was e text q is (lived before was of_was) follows)

-- ---- the sides ----

told_line : (row : SessionRow) (t : ToldFeedback) (f : Feedback) → Means row t f → told_of row f ≡ uncounted t
told_line row t feedbacks.Quiet m = ap uncounted (sym m)
told_line row t feedbacks.Full m = ap uncounted (sym m)
told_line row t (feedbacks.Passed seen) m = ap uncounted (sym m.0)
told_line row t feedbacks.Released m = ap uncounted (sym m)
told_line row t (feedbacks.Repeat seen) m = ap uncounted (sym m.0)

offered_line : (c : Coming) → offered_by (arrival_of c) ≡ offered_bytes c
offered_line coming.Nothing = refl
offered_line (coming.Frame f) = refl
offered_line coming.Bad = refl
offered_line coming.Gone = refl

item_line : (row : SessionRow) (l : LookLine) (f : Feedback) → Means row l.told f → item_in row (look_of l f) ≡ item_of l
item_line row l f m = λ i. record {
  moment = l.moment;
  word = l.word;
  offered = offered_line l.coming i;
  is_fault = l.is_fault;
  told = told_line row l.told f m i;
}

listed_note : (r : Record) (note : Note) → is_some (behind_line (form_of r) (entries.Comment note)) ≡ true → Lists (Some (side_of r)) (entries.Comment note) (side_of (with_note r note))
listed_note r (notes.Low session moment reply) e = (_, (is_placed (form_of r) (takes_looks r.place) places.Looks e).1, refl)
listed_note r (notes.Time micros) e = (_, (is_placed (form_of r) (takes_times r.place) places.Times e).1, refl)
listed_note r (notes.Took count) e = (_, (is_placed (form_of r) (takes_times r.place) places.Taken e).1, refl)
listed_note r (notes.End accepted removed) e = (_, (is_placed (form_of r) (is_taken r.place) places.End e).1, refl)

listed_on : (r : Record) (e : Entry) (q : Record) → Lived r → Continues (Some r) e q → Lists (Some (side_of r)) e (side_of q)
listed_on r (entries.Opening row next is_held) q h follows = absurd follows.1
listed_on r (entries.Coarse session) q h follows =
    let p = is_placed (form_of r) (session == r.row.id && is_opening r.place) places.Looks follows.0 in
    let none = h.none (and_parts (session == r.row.id) (is_opening r.place) p.0).1 in
    let row : SessionRow = record r.row { coarse = true } in
    let items : items_in row r.looks ≡ items_in r.row r.looks = ap (items_in row) none ∙ sym (ap (items_in r.row) none) in (
      _,
      p.1,
      ap side_of follows.1
          ∙ ap (λ (is : List ItemTold). record { row = row; opening = r.opening; place = places.Looks; lines = r.lines + 1; items = is }) items,
    )
listed_on r (entries.Look line) q h follows =
    let p = is_placed (form_of r) (line.session == r.row.id && takes_looks r.place) places.Looks follows.0 in (
      _,
      p.1,
      ap side_of follows.1.2
          ∙ ap (λ (i : ItemTold). record { row = r.row; opening = r.opening; place = places.Looks; lines = r.lines + 1; items = items_in r.row r.looks ++ i ∷ [] })
          (item_line r.row line follows.1.0 follows.1.1.0),
    )
listed_on r (entries.Comment note) q h follows = subst (λ (t : Record). Lists (Some (side_of r)) (entries.Comment note) (side_of t)) (sym follows.1) (listed_note r note follows.0)

listed_first : (e : Entry) (q : Record) → Continues None e q → Lists None e (side_of q)
listed_first (entries.Opening row next is_held) q follows = ap side_of follows
listed_first (entries.Coarse session) q follows = absurd follows
listed_first (entries.Look line) q follows = absurd follows
listed_first (entries.Comment note) q follows = absurd follows

listed_next : (was : Option Record) (e : Entry) (q : Record) → LivedIn was → Continues was e q → Lists (option_map side_of was) e (side_of q)
listed_next None e q h follows = listed_first e q follows
listed_next (Some r) e q h follows = listed_on r e q h follows

listed : (texts : List (List ℕ)) (r : Option Record) → LinesOf texts r → SideOf texts (option_map side_of r)
listed [] r h = ap (option_map side_of) h
listed (text ∷ before) r (was, of_was, is_text, e, is, q, follows, same) =
    (option_map side_of was, listed before was of_was, is_text, e, is, side_of q, listed_next was e q (lived before was of_was) follows, ap (option_map side_of) same)

joins : (texts : List (List ℕ)) (a b : List ℕ) → joined texts a ++ b ≡ side_joined texts (a ++ b)
joins [] a b = refl
joins (text ∷ before) a b = joins before (text ++ 10 ∷ a) b ∙ ap (side_joined before) (append_assoc text (10 ∷ a) b)

begins_side : (bytes rest : List ℕ) (r : Record) → IsLife bytes r → BeginsSide (bytes ++ rest) (Some (side_of r)) rest
begins_side bytes rest r h = record {
  texts = h.texts;
  side_of = listed h.texts (Some r) h.lines_of;
  whole = ap (λ (l : List ℕ). l ++ rest) h.bytes_are ∙ joins h.texts [] rest;
}

pub are_pair : (xs ys : List ℕ) (r q : Record) → IsLife xs r → IsLife ys q → ArePair (xs ++ (separator ++ 10 ∷ ys)) (side_of r) (side_of q)
are_pair xs ys r q h k = record {
  left = ys;
  first = record { rest = separator ++ 10 ∷ ys; begins = begins_side xs (separator ++ 10 ∷ ys) r h; ends = (h.ends, refl) };
  second = record {
    rest = [];
    begins = subst (λ (bytes : List ℕ). BeginsSide bytes (Some (side_of q)) []) (append-nil ys) (begins_side ys [] q k);
    ends = (k.ends, refl, refl);
  };
}

-- ---- the same replies ----

same_lists : (row : SessionRow) (o : Opening) (xs ys : List Look) (ts us : List Sent) → AreNext row o xs → AreNext row o ys → items_in row xs ≡ items_in row ys
    → LowReplies row (history_in o xs) ts → LowReplies row (history_in o ys) us → ts ≡ us
same_lists row o xs ys ts us h k e a b =
    same_lives row (record { opening = o; looks = xs } ∷ []) (record { opening = o; looks = ys } ∷ []) ts us
    (record { opening = refl; looks = looks_same row o xs ys h k e }, tt) a b

pub same_replies : (xs ys : List ℕ) (r q : Record) → IsLife xs r → IsLife ys q → SameOpening (side_of r) (side_of q) → AreAlike (side_of r).items (side_of q).items
    → (ts us : List Sent) → LowReplies r.row (history_of r) ts → LowReplies q.row (history_of q) us → ts ≡ us
same_replies xs ys r q h k same alike ts us a b =
    let other = lived k.texts (Some q) k.lines_of in
    let row : q.row ≡ r.row = sym same.row in
    let o : q.opening ≡ r.opening = sym same.opening in
    let moved = subst (λ (p : SessionRow × Opening). AreNext p.0 p.1 q.looks × (items_in r.row r.looks ≡ items_in p.0 q.looks) × LowReplies p.0 (history_in p.1 q.looks) us)
    (λ i. (row i, o i)) (other.next, items_same _ _ alike, b) in
    same_lists r.row r.opening r.looks q.looks ts us (lived h.texts (Some r) h.lines_of).next moved.0 moved.1 a moved.2
