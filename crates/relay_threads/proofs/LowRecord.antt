-- What is recorded link by link is the record of all looks.
use Rattle.std.proofs.Common.{◌≡◌, ℕ, Bool, true, false, List, [], ◌∷◌, ◌++◌, Option, Some, None, refl, sym, ap, ◌∙◌, subst, append-nil, append_assoc}
use Rattle.std.specs.Prelude.{if◌then◌else◌, not, ◌&&◌, ◌||◌, is_some}
use Rattle.std.specs.List.{AllByRecursion}
use Rattle.pump_frame.specs.declared.row.SessionRow.{SessionRow}
use Rattle.pump_core.specs.declared.feedback.Feedback.{Feedback}
use Rattle.pump_core.specs.declared.feedback.Feedback.TheVariants.{Quiet, Full, Passed, Released, Repeat}
use Rattle.pump_core.specs.Phases.{Phase}
use Rattle.pump_core.specs.Phases.{Idle, Passing, Waiting as Waits, Down}
use Rattle.pump_core.specs.History.{Arrival, Look, Opening}
use Rattle.pump_core.specs.History.{Gone as CameGone}
use Rattle.pump_core.specs.Exchanges.{Part, IsCut}
use Rattle.pump_core.specs.Step.{fits_in, is_quiet, is_full, after}
use Rattle.pump_core.specs.Standing.{State, end_of}
use Rattle.relay_threads.specs.declared.low_served.LowWhy.{LowWhy}
use Rattle.relay_threads.specs.declared.low_served.LowWhy.TheVariants.{Gone, Bad, LinkFailed, Device, RecordFailed, Looks, Stopped}
use Rattle.relay_threads.specs.Hearings.{Ending, AtFrame, AtBad, AtNotYet, AtEnded, AtFailed, AtMost, Hearing}
use Rattle.relay_threads.specs.Records.{Made, looks_made, life_made, AreMade, was_full, record_of, passes_on}
use Rattle.relay_threads.specs.RecordLines.{look_text, looks_text}
use Rattle.relay_threads.specs.LowRounds.{Round, with_look, made_after, made_in, AreRounds, IsRound, MakesLook, offered, cause, cause_at, cause_heard, is_lost_in, newest_cause}
use Rattle.relay_threads.specs.LowServes.{text_after, text_made}
use Rattle.relay_threads.specs.LowStays.{Stay, Alone, With, GoneAfter, IsStay, stay_after, stayed, AreStays, IsOver, visited, text_at, text_in, end_at}
use Rattle.relay_threads.proofs.Machine.{led}
use Rattle.relay_threads.proofs.LowServing.{text_more, full_more, round_cause, is_cause}

-- ---- looks that were made ----

pub made_before : (row : SessionRow) (o : Opening) (m : Option Made) (before : List Made) → AreMade row o (with_look m before) → AreMade row o before
made_before row o None before are = are
made_before row o (Some m) before are = are.1

pub made_before_rounds : (row : SessionRow) (o : Opening) (before : List Made) (rounds : List Round) → AreMade row o (made_after before rounds) → AreMade row o before
made_before_rounds row o before [] are = are
made_before_rounds row o before (r ∷ past) are = made_before_rounds row o before past (made_before row o r.made (made_after before past) are)

pub cut_of : (row : SessionRow) (o : Opening) (made : List Made) → AreMade row o made → (parts : List Part) × IsCut row (life_made o made) parts
cut_of row o [] are = ([], record { are_parts = tt; looks = refl })
cut_of row o (m ∷ before) are = (are.0.parts, are.0.cut)

-- ---- a look with Gone finds nothing full ----

quiet_full : (f : Feedback) → is_quiet f ≡ true → is_full f ≡ false
quiet_full Quiet e = refl
quiet_full Full e = absurd (cc)
quiet_full (Passed s) e = refl
quiet_full Released e = refl
quiet_full (Repeat s) e = refl

gone_in : (row : SessionRow) (s : State) (m w : ℕ) (d : Bool) (f : Feedback) (p : Phase) → fits_in row s (record { moment = m; word = w; arrival = CameGone; is_fault = d; feedback = f }) p ≡ true → is_quiet f ≡ true
gone_in row s m w d f Down e = e
gone_in row s m w d f (Waits n at) e = e
gone_in row s m w d f (Passing owed) e = e
gone_in row s m w d f Idle e = e

gone_at : (row : SessionRow) (s : State) (x : Look) (a : Arrival) (p : Phase) → x.arrival ≡ a → a ≡ CameGone → fits_in row s x p ≡ true → is_quiet x.feedback ≡ true
gone_at row s x a p is gone fits =
    let e : x.arrival ≡ CameGone = is ∙ gone in
    gone_in row s x.moment x.word x.is_fault x.feedback p
    (subst (λ (z : Arrival). fits_in row s (record { moment = x.moment; word = x.word; arrival = z; is_fault = x.is_fault; feedback = x.feedback }) p ≡ true) e fits)

pub gone_quiet : (row : SessionRow) (o : Opening) (m : Made) (before : List Made) → AreMade row o (m ∷ before) → m.look.arrival ≡ CameGone → is_full m.look.feedback ≡ false
gone_quiet row o m before are gone =
    let c = cut_of row o before are.1 in
    let step = led row o (looks_made before) m.look c.0 are.0.parts c.1 are.0.cut in
    quiet_full m.look.feedback (gone_at row (end_of row o c.0) m.look m.look.arrival (end_of row o c.0).phase refl gone step.fits)

-- ---- after a link that is over, the newest look did not find the passage full ----

-- a round that left because the other side was gone
gone_heard : (e : Ending) → cause_at e ≡ Some Gone → e ≡ AtEnded
gone_heard (AtFrame f) is = absurd (cc)
gone_heard AtBad is = absurd (cc)
gone_heard AtNotYet is = absurd (cc)
gone_heard AtEnded is = refl
gone_heard AtFailed is = absurd (cc)
gone_heard AtMost is = absurd (cc)

gone_offered : (h : Option Hearing) → cause_heard h ≡ Some Gone → offered h ≡ Some CameGone
gone_offered None e = absurd (cc)
gone_offered (Some h) e = ap (λ z. Rattle.relay_threads.specs.LowRounds.offered_at z) (gone_heard h.ending e)

gone_by : (k d s : Bool) (n : ℕ) (x : Option LowWhy) → (if not k then Some RecordFailed else if d then Some (Device n) else if not s then Some LinkFailed else x) ≡ Some Gone → x ≡ Some Gone
gone_by false d s n x e = absurd (cc)
gone_by true true s n x e = absurd (cc)
gone_by true false false n x e = absurd (cc)
gone_by true false true n x e = e

pub gone_round : (row : SessionRow) (o : Opening) (before : List Made) (held : List ℕ) (r : Round) → IsRound row o before held r → cause r ≡ Some Gone → (m : Made) × (r.made ≡ Some m) × (m.look.arrival ≡ CameGone)
gone_round row o before held r is e =
    let heard = gone_offered r.heard (gone_by r.is_kept (is_lost_in r.made) r.is_sent r.faults (cause_heard r.heard) e) in
    let makes : MakesLook r (Some CameGone) = subst (MakesLook r) heard is.makes in
    (makes.0, makes.1, makes.4)

full_gone : (row : SessionRow) (o : Opening) (before : List Made) (x : Option Made) (m : Made) → x ≡ Some m → AreMade row o (with_look x before) → m.look.arrival ≡ CameGone → was_full (with_look x before) ≡ false
full_gone row o before None m e are gone = absurd (cc)
full_gone row o before (Some x) m e are gone =
    let same : x ≡ m = cc in
    gone_quiet row o x before are (ap (λ (z : Made). z.look.arrival) same ∙ gone)

ended_full : (row : SessionRow) (o : Opening) (before : List Made) (rounds : List Round) → AreRounds row o before rounds → AreMade row o (made_after before rounds) → newest_cause rounds ≡ Some Gone → was_full (made_after before rounds) ≡ false
ended_full row o before [] are made e = absurd (cc)
ended_full row o before (r ∷ past) are made e =
    let g = gone_round row o (made_after before past) _ r are.0 e in
    full_gone row o (made_after before past) r.made g.0 g.1 made g.2

none_look : (before : List Made) (m : Option Made) → m ≡ None → with_look m before ≡ before
none_look before m e = ap (λ z. with_look z before) e

pub no_cause : (rounds : List Round) (why : LowWhy) → is_cause (Some why) ≡ false → newest_cause rounds ≡ Some why → ⊥
no_cause [] why c e = cc
no_cause (r ∷ past) why c e = let x : is_cause (Some why) ≡ true = ap is_cause (sym e) ∙ round_cause r in let y : false ≡ true = sym c ∙ x in cc

module _ (row : SessionRow) (o : Opening) (before : List Made) (rounds : List Round) (gone : Option Made) (k : Bool) (are : AreRounds row o before rounds) (made : AreMade row o (visited before rounds gone)) where
  left_full : (why : LowWhy) → newest_cause rounds ≡ Some why → GoneAfter (Some why) gone → end_at (Some why) k ≡ None → was_full (visited before rounds gone) ≡ false
  left_full Gone e after none =
      let same = none_look (made_after before rounds) gone after in
      ap was_full same ∙ ended_full row o before rounds are (subst (AreMade row o) same made) e
  left_full Bad e (m, is, g) none = full_gone row o (made_after before rounds) gone m is made g.0
  left_full LinkFailed e (m, is, g) none = full_gone row o (made_after before rounds) gone m is made g.0
  left_full (Device n) e after none = absurd (cc)
  left_full RecordFailed e after none = absurd (cc)
  left_full Looks e after none = absurd (no_cause rounds Looks refl e)
  left_full Stopped e after none = absurd (no_cause rounds Stopped refl e)

over_full : {L : Type 0} (row : SessionRow) (o : Opening) (before : List Made) (x : Stay L) → IsStay row o before x → AreMade row o (stay_after before x) → IsOver x → was_full before ≡ false → was_full (stay_after before x) ≡ false
over_full row o before (Alone m answer) is made over was = was
over_full row o before (With m v) is made over was =
    let why = over.0.0 in
    let e = over.0.1 in
    left_full row o before v.rounds v.gone v.is_kept is.0 made why e (subst (λ (c : Option LowWhy). GoneAfter c v.gone) e is.1) (ap (λ c. end_at c v.is_kept) (sym e) ∙ over.1)

pub made_before_stay : {L : Type 0} (row : SessionRow) (o : Opening) (before : List Made) (x : Stay L) → AreMade row o (stay_after before x) → AreMade row o before
made_before_stay row o before (Alone m answer) are = are
made_before_stay row o before (With m v) are = made_before_rounds row o before v.rounds (made_before row o v.gone (made_after before v.rounds) are)

stays_full : {L : Type 0} (row : SessionRow) (o : Opening) (stays : List (Stay L)) → AreStays row o [] stays → AreMade row o (stayed [] stays) → AllByRecursion IsOver stays → was_full (stayed [] stays) ≡ false
stays_full row o [] are made over = refl
stays_full row o (x ∷ past) are made over =
    over_full row o (stayed [] past) x are.0 made over.0 (stays_full row o past are.2 (made_before_stay row o (stayed [] past) x made) over.1)

-- ---- the record of all looks ----

text_by_full : (row : SessionRow) (m : Made) (a b : List Made) → was_full a ≡ was_full b → text_after row a m ≡ text_after row b m
text_by_full row m a b e = ap (λ (w : Bool). if m.taken || (is_some m.reply || (passes_on m.look.feedback || (is_full m.look.feedback && not w))) then look_text row m else []) e

text_made_by : (row : SessionRow) (m : Option Made) (a b : List Made) → was_full a ≡ was_full b → text_made row a m ≡ text_made row b m
text_made_by row None a b e = refl
text_made_by row (Some m) a b e = text_by_full row m a b e

same_full : (before : List Made) (rounds : List Round) → was_full before ≡ false → was_full (made_after before rounds) ≡ was_full (made_in rounds)
same_full before [] e = e
same_full before (r ∷ past) e =
    sym (full_more r.made (made_after before past)) ∙ ap (λ (b : Bool). Rattle.relay_threads.specs.LowServes.full_after b r.made) (same_full before past e) ∙ full_more r.made (made_in past)

pub text_split : (row : SessionRow) (before : List Made) (rounds : List Round) → was_full before ≡ false → looks_text row (record_of before) ++ looks_text row (record_of (made_in rounds)) ≡ looks_text row (record_of (made_after before rounds))
text_split row before [] e = append-nil (looks_text row (record_of before))
text_split row before (r ∷ past) e =
    let first = looks_text row (record_of before) in
    ap (λ (z : List ℕ). first ++ z) (sym (text_more row r.made (made_in past)))
    ∙ sym (append_assoc first (looks_text row (record_of (made_in past))) (text_made row (made_in past) r.made))
    ∙ ap (λ (z : List ℕ). z ++ text_made row (made_in past) r.made) (text_split row before past e)
    ∙ ap (λ (z : List ℕ). looks_text row (record_of (made_after before past)) ++ z) (text_made_by row r.made (made_in past) (made_after before past) (sym (same_full before past e)))
    ∙ text_more row r.made (made_after before past)

never_full : (row : SessionRow) (m : Made) (a b : List Made) → is_full m.look.feedback ≡ false → text_after row a m ≡ text_after row b m
never_full row m a b e =
    ap (λ (f : Bool). if m.taken || (is_some m.reply || (passes_on m.look.feedback || (f && not (was_full a)))) then look_text row m else []) e
    ∙ sym (ap (λ (f : Bool). if m.taken || (is_some m.reply || (passes_on m.look.feedback || (f && not (was_full b)))) then look_text row m else []) e)

gone_text : (row : SessionRow) (o : Opening) (before : List Made) (c : Option LowWhy) (gone : Option Made) → GoneAfter c gone → AreMade row o (with_look gone before) → text_made row [] gone ≡ text_made row before gone
gone_text row o before c None after made = refl
gone_text row o before None (Some m) after made = absurd (cc)
gone_text row o before (Some Gone) (Some m) after made = absurd (cc)
gone_text row o before (Some Bad) (Some m) (m', is, g) made = never_full row m [] before (gone_quiet row o m before made (let same : m ≡ m' = cc in ap (λ (z : Made). z.look.arrival) same ∙ g.0))
gone_text row o before (Some LinkFailed) (Some m) (m', is, g) made = never_full row m [] before (gone_quiet row o m before made (let same : m ≡ m' = cc in ap (λ (z : Made). z.look.arrival) same ∙ g.0))
gone_text row o before (Some (Device n)) (Some m) after made = absurd (cc)
gone_text row o before (Some RecordFailed) (Some m) after made = absurd (cc)
gone_text row o before (Some Looks) (Some m) after made = absurd (cc)
gone_text row o before (Some Stopped) (Some m) after made = absurd (cc)

stay_text : {L : Type 0} (row : SessionRow) (o : Opening) (before : List Made) (x : Stay L) → IsStay row o before x → AreMade row o (stay_after before x) → was_full before ≡ false → looks_text row (record_of before) ++ text_at row x ≡ looks_text row (record_of (stay_after before x))
stay_text row o before (Alone m answer) is made e = append-nil (looks_text row (record_of before))
stay_text row o before (With m v) is made e =
    sym (append_assoc (looks_text row (record_of before)) (looks_text row (record_of (made_in v.rounds))) (text_made row [] v.gone))
    ∙ ap (λ (z : List ℕ). z ++ text_made row [] v.gone) (text_split row before v.rounds e)
    ∙ ap (λ (z : List ℕ). looks_text row (record_of (made_after before v.rounds)) ++ z) (gone_text row o (made_after before v.rounds) (newest_cause v.rounds) v.gone is.1 made)
    ∙ text_more row v.gone (made_after before v.rounds)

pub one_record : {L : Type 0} (row : SessionRow) (o : Opening) (stays : List (Stay L)) → AreStays row o [] stays → AreMade row o (stayed [] stays) → text_in row stays ≡ looks_text row (record_of (stayed [] stays))
one_record row o [] are made = refl
one_record row o (x ∷ past) are made =
    let was = made_before_stay row o (stayed [] past) x made in
    ap (λ (z : List ℕ). z ++ text_at row x) (one_record row o past are.2 was)
    ∙ stay_text row o (stayed [] past) x are.0 made (stays_full row o past are.2 was are.1)
