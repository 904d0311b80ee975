-- Two sessions that are alike for Low stay so in a look that is told the same.
use Rattle.std.proofs.Common.{◌≡◌, ℕ, ◌+◌, Bool, List, [], ◌∷◌, length, drop, refl, sym, ap, ◌∙◌, subst}
use Rattle.std.specs.Prelude.{if◌then◌else◌, ◌&&◌, ◌||◌}
use Rattle.pump_frame.specs.Readings.{Reading}
use Rattle.pump_frame.specs.declared.row.SessionRow.{SessionRow}
use Rattle.pump_core.specs.declared.feedback.Feedback.{Feedback}
use Rattle.pump_core.specs.History.{Arrival, Look, Opening, History, looked}
use Rattle.pump_core.specs.Exchanges.{Part, IsCut}
use Rattle.pump_core.specs.Replies.{takes, stores}
use Rattle.pump_core.specs.Step.{after, takes_at, stores_at, FeedbackFits}
use Rattle.pump_core.specs.Standing.{State, end_of}
use Rattle.pump_core.specs.Pairs.{uncounted, SameLook, SameLooks, SameUpToCounts}
use Rattle.pump_core.proofs.Runs.{run, ran}
use Rattle.pump_core.proofs.Agreement.{same_step}
use Rattle.pump_core.proofs.Cuts.{newest_of_cut}
use Rattle.script_reader.specs.declared.event.Event.{Event}
use Rattle.script_reader.specs.Past.{Past}
use Rattle.script_reader.specs.Lows.{is_bad, IsLook}
use Rattle.script_reader.specs.Steps.{look_of, IsLowLook}
use Rattle.pump_core.proofs.CutsFit.{cuts_fit}
use Rattle.script_reader.proofs.Telling.{said_to_low, said_by, said_of_look, said_uncounted, OneKind, looks_one_kind, looks_take, looks_store}
use Rattle.script_reader.proofs.Accepting.{stored_in, look_accepts}

-- low's half of what a session has been through
pub record Half : Type 0 where
  pub history : History
  pub waits : List Arrival
  pub is_broken : Bool
  pub reading : Reading
  pub accepted : ℕ

abbrev pub half : Past → Half
half p = record { history = p.history; waits = p.waits; is_broken = p.is_broken; reading = p.reading; accepted = length p.world.accepted }

-- the halves are alike up to the counts that were told
pub record Alike (p q : Half) : Type 0 where
  pub history : SameUpToCounts p.history q.history
  pub waits : p.waits ≡ q.waits
  pub broken : p.is_broken ≡ q.is_broken
  pub reading : p.reading ≡ q.reading
  pub accepted : p.accepted ≡ q.accepted

same_run : (row : SessionRow) (o : Opening) (xs ys : List Look) → SameLooks xs ys → run row o xs ≡ run row o ys
same_run row o [] [] e = refl
same_run row o [] (y ∷ ys) e = absurd e
same_run row o (x ∷ xs) [] e = absurd e
same_run row o (x ∷ xs) (y ∷ ys) e =
    ap (λ t. after row t x) (same_run row o xs ys e.1) ∙ (same_step row (run row o ys) x y e.0).0

-- cuts of two histories that are alike end in one state
same_state : (row : SessionRow) (h k : History) (parts others : List Part) → SameUpToCounts h k
    → IsCut row h.life parts → IsCut row k.life others
    → end_of row h.life.opening parts ≡ end_of row k.life.opening others
same_state row h k parts others same cut cut' =
    sym (ran row h.life.opening parts cut.are_parts).state
    ∙ ap (run row h.life.opening) (sym cut.looks)
    ∙ same_run row h.life.opening h.life.looks k.life.looks same.0.looks
    ∙ ap (λ o. run row o k.life.looks) same.0.opening
    ∙ ap (run row k.life.opening) cut'.looks
    ∙ (ran row k.life.opening others cut'.are_parts).state

-- what a look says of the state before it
record Stands (row : SessionRow) (p : Past) (x : Look) (s : State) (after : List Part) : Type 0 where
  fits : FeedbackFits row s x
  taken : takes after ≡ takes_at s x
  stored : stores after ≡ stores_at row s x

stands : (row : SessionRow) (p : Past) (x : Look) (q : Past) (printed : List Event) (i : IsLook row p x q printed)
    → Stands row p x (end_of row p.history.life.opening i.before) i.after
stands row p x q printed i =
    let o = p.history.life.opening in
    let e = sym i.cut_with.looks ∙ ap (λ l. x ∷ l) i.cut.looks in
    let fits = cuts_fit row o x i.before i.after i.cut.are_parts i.cut_with.are_parts e in
    let newest = newest_of_cut row o x i.before i.after i.cut.are_parts i.cut_with.are_parts e fits in
    record { fits = fits; taken = newest.taken; stored = newest.stored }

-- after two looks that were told the same
pub record Looked (p q : Past) (xs ys : List Event) : Type 0 where
  pub alike : Alike (half p) (half q)
  pub said : said_to_low xs ≡ said_to_low ys

after_looks : (row : SessionRow) (p q : Past) (m w : ℕ) (a : Arrival) (f g : Feedback) (p' q' : Past) (xs ys : List Event)
    → Alike (half p) (half q) → IsLook row p (look_of m w a f) p' xs → IsLook row q (look_of m w a g) q' ys
    → (OneKind f g → said_to_low xs ≡ said_by m f → said_to_low ys ≡ said_by m g → uncounted f ≡ uncounted g) → Looked p' q' xs ys
after_looks row p q m w a f g p' q' xs ys alike i k decide =
    let x = look_of m w a f in
    let y = look_of m w a g in
    let s = end_of row p.history.life.opening i.before in
    let t = end_of row q.history.life.opening k.before in
    let si = stands row p x p' xs i in
    let sk = stands row q y q' ys k in
    let one : s ≡ t = same_state row p.history q.history i.before k.before alike.history i.cut k.cut in
    let px : said_to_low xs ≡ said_by m f = ap said_to_low i.printed_is ∙ said_of_look row.id m _ f i.new in
    let py : said_to_low ys ≡ said_by m g = ap said_to_low k.printed_is ∙ said_of_look row.id m _ g k.new in
    let told = decide (looks_one_kind row s m w a f g si.fits (subst (λ (u : State). FeedbackFits row u y) (sym one) sk.fits)) px py in
    let taken : takes i.after ≡ takes k.after = si.taken ∙ looks_take s m w a f g ∙ ap (λ (u : State). takes_at u y) one ∙ sym sk.taken in
    let kept : stores i.after ≡ stores k.after = si.stored ∙ looks_store row s m w a f g ∙ ap (λ (u : State). stores_at row u y) one ∙ sym sk.stored in
    let look : SameLook x y = record { moment = refl; word = refl; arrival = refl; outcome = refl; feedback = told } in
    let history : SameUpToCounts (looked p.history x) (looked q.history y) =
    (record { opening = alike.history.0.opening; looks = (look, alike.history.0.looks) }, alike.history.1) in
    record {
      alike = record {
        history = subst (λ (u : History × History). SameUpToCounts u.0 u.1) (λ j. (sym i.history j, sym k.history j)) history;
        waits = i.waits ∙ (λ j. if taken j then drop 1 (alike.waits j) else alike.waits j) ∙ sym k.waits;
        broken = i.broken ∙ (λ j. alike.broken j || (taken j && is_bad a)) ∙ sym k.broken;
        reading = i.reading ∙ alike.reading ∙ sym k.reading;
        accepted = look_accepts f (stores i.after) a i.new p.world p'.world i.world
            ∙ (λ j. alike.accepted j + stored_in (kept j) a)
            ∙ sym (look_accepts g (stores k.after) a k.new q.world q'.world k.world);
      };
      said = px ∙ said_uncounted m f ∙ ap (said_by m) told ∙ sym (said_uncounted m g) ∙ sym py;
    }

-- what two looks at m are told is the same up to the count
abbrev pub Decided : ℕ → List Event → List Event → Type 0
Decided m xs ys = (f g : Feedback) → OneKind f g → said_to_low xs ≡ said_by m f → said_to_low ys ≡ said_by m g → uncounted f ≡ uncounted g

-- two looks at one moment, with one word and one arrival
pub looks_alike : (row : SessionRow) (p q : Past) (m w : ℕ) (a b : Arrival) (p' q' : Past) (xs ys : List Event)
    → Alike (half p) (half q) → a ≡ b → IsLowLook row p m w a p' xs → IsLowLook row q m w b q' ys
    → Decided m xs ys → Looked p' q' xs ys
looks_alike row p q m w a b p' q' xs ys alike same (f, i) h decide = by (subst (λ (c : Arrival). IsLowLook row q m w c q' ys) (sym same) h)
  where
    by : IsLowLook row q m w a q' ys → Looked p' q' xs ys
    by (g, k) = after_looks row p q m w a f g p' q' xs ys alike i k (decide f g)
