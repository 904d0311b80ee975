-- A high worker sends each message with the payload that came to it with this number.
use Rattle.std.proofs.Common.{◌≡◌, ℕ, ◌+◌, ◌-◌, Bool, true, false, List, [], ◌∷◌, ◌++◌, length, Option, Some, None, Result, Ok, Err, refl, sym, ap, ◌∙◌, subst, arith, append_assoc, append-nil, length-append}
use Rattle.std.specs.Prelude.{is_some, if◌then◌else◌, slice_get, option_to_list}
use Rattle.std.specs.List.{AllByRecursion}
use Rattle.pump_frame.specs.declared.frame.Frame.{Frame}
use Rattle.pump_frame.specs.declared.frame.Item.{Item}
use Rattle.pump_frame.specs.declared.row.SessionRow.{SessionRow}
use Rattle.pump_core.proofs.Lists.{slice_get-append, slice_get-past}
use Rattle.high_process.specs.declared.values.HighFault.{HighFault}
use Rattle.high_process.specs.declared.values.HighLook.{HighLook}
use Rattle.high_process.specs.declared.values.Task.{Task}
use Rattle.high_process.specs.declared.values.Task.TheVariants.{Refuse, Remove, Keep}
use Rattle.high_process.specs.Tasks.{task_of, attaches_in}
use Rattle.high_process.specs.Past.{ProcessPast, begun, wants, is_sent, fresh}
use Rattle.high_process.proofs.Looking.{removal}
use Rattle.relay_threads.specs.declared.high_round.Plan.{Plan}
use Rattle.relay_threads.specs.declared.high_round.Plan.TheVariants.{End, Pass, Look}
use Rattle.relay_threads.specs.Hearings.{heard_as}
use Rattle.relay_threads.specs.HighRounds.{Made, Round, IsDone, LooksBy, MakesLook, AreRounds, past_by, past_after, served, with_hand, data_of, data_by, data_made, data_sent, plan_of, frame_heard, is_attached}
use Rattle.relay_threads.specs.HighStays.{Stay, Alone, With, IsStay, AreStays, stayed, stay_after}
use Rattle.relay_threads.specs.StoredMessages.{payloads}
use Rattle.relay_threads.specs.HighEnds.{answer_if, answer_by, answer_made, answers_in, answers_at_stay, answers_over, given, HasMessage, data_at, data_over, messages_of}
use Rattle.relay_threads.proofs.HighEnding.{given_more, wanted_none}

-- the messages are those that are removed, and the one in the hand
record Accounts (first : ℕ) (messages : List (List ℕ)) (removed : ℕ) (hand : Option Item) : Type 0 where
  pub before : List (List ℕ)
  pub count : first + length before ≡ removed
  pub are : messages ≡ before ++ payloads (option_to_list hand)

-- .. and these frames carry some of them
abbrev Carries : ℕ → List (List ℕ) → List Frame → Type 0
Carries first messages frames = AllByRecursion (HasMessage first messages) frames

-- both, after these answers
abbrev Sends : ℕ → List (List ℕ) → List (Option (List ℕ)) → ProcessPast → List Frame → Type 0
Sends first messages answers u frames = Accounts first (messages ++ given answers) u.removed u.hand × Carries first (messages ++ given answers) frames

all_append : {X : Type 0} (P : X → Type 0) (xs ys : List X) → AllByRecursion P xs → AllByRecursion P ys → AllByRecursion P (xs ++ ys)
all_append P [] ys hx hy = hy
all_append P (x ∷ xs) ys hx hy = (hx.0, all_append P xs ys hx.1 hy)

carries_more : (first : ℕ) (messages more : List (List ℕ)) (frames : List Frame) → Carries first messages frames → Carries first (messages ++ more) frames
carries_more first messages more [] h = tt
carries_more first messages more (f ∷ frames) h = ((h.0.0, slice_get-append messages more (f.number - first) f.payload h.0.1), carries_more first messages more frames h.1)

sends_nothing : (first : ℕ) (messages : List (List ℕ)) (u : ProcessPast) → Accounts first messages u.removed u.hand → Sends first messages [] u []
sends_nothing first messages u a = (subst (λ xs. Accounts first xs u.removed u.hand) (sym (append-nil messages)) a, tt)

sends_then : (first : ℕ) (messages : List (List ℕ)) (xs ys : List (Option (List ℕ))) (u v : ProcessPast) (c d : List Frame) → Sends first messages xs u c → Sends first (messages ++ given xs) ys v d → Sends first messages (xs ++ ys) v (c ++ d)
sends_then first messages xs ys u v c d one two =
    let e : (messages ++ given xs) ++ given ys ≡ messages ++ given (xs ++ ys) = append_assoc messages (given xs) (given ys) ∙ ap (λ zs. messages ++ zs) (sym (given_more xs ys)) in
    subst (λ zs. Accounts first zs v.removed v.hand × Carries first zs (c ++ d)) e
    (two.0, all_append (HasMessage first ((messages ++ given xs) ++ given ys)) c d (carries_more first (messages ++ given xs) (given ys) c one.1) two.1)

-- ---- one look ----

module _ (first : ℕ) (messages : List (List ℕ)) where
  -- what comes is the next message
  asks : (b : Bool) (hand : Option Item) (u : ProcessPast) → wants u ≡ b → (wants u ≡ false → hand ≡ u.hand) → Accounts first messages u.removed u.hand → Accounts first (messages ++ given (answer_if b hand)) u.removed hand
  asks true hand u is same a =
      let empty : u.hand ≡ None = wanted_none u.hand _ is in
      let all : messages ≡ a.before = a.are ∙ ap (λ (o : Option Item). a.before ++ payloads (option_to_list o)) empty ∙ append-nil a.before in
      record { before = a.before; count = a.count; are = ap (λ xs. xs ++ given (answer_if true hand)) all ∙ came hand a.before } where
        came : (hand : Option Item) (before : List (List ℕ)) → before ++ given (answer_if true hand) ≡ before ++ payloads (option_to_list hand)
        came None before = refl
        came (Some x) before = refl
  asks false hand u is same a = record { before = a.before; count = a.count; are = append-nil messages ∙ a.are ∙ ap (λ (o : Option Item). a.before ++ payloads (option_to_list o)) (sym (same is)) }

  -- the message in the hand is removed
  removes : (removed : ℕ) (hand : Option Item) → is_some hand ≡ true → Accounts first messages removed hand → Accounts first messages (removed + 1) None
  removes removed None full a = absurd (cc)
  removes removed (Some x) full a = record {
    before = a.before ++ x.payload ∷ [];
    count = omega (arith, a.count, length-append a.before (x.payload ∷ []));
    are = a.are ∙ sym (append-nil (a.before ++ x.payload ∷ []));
  }

  -- what a look sends is the message in the hand
  data_has : (session n : ℕ) (b : Bool) (hand : Option Item) → Accounts first messages n hand → Carries first messages (data_of session (if b then Some n else None) hand)
  data_has session n true None a = tt
  data_has session n false None a = tt
  data_has session n false (Some x) a = tt
  data_has session n true (Some x) a =
      let at : n - first ≡ length a.before = omega (arith, a.count) in
      ((omega (arith, a.count), ap (λ (z : List (List ℕ) × ℕ). slice_get z.0 z.1) (λ i. (a.are i, at i)) ∙ slice_get-past a.before x.payload []), tt)

module _ (row : SessionRow) (first : ℕ) (messages : List (List ℕ)) (t : ProcessPast) (m : ℕ) where
  done : (hand : Option Item) (look : HighLook) (task : Task) (attaches : Bool) → IsDone row t m hand task attaches look → Accounts first messages (begun task t m).removed (begun task t m).hand
      → Sends first messages (answer_if (wants (begun task t m)) hand) (past_by row t m hand (Ok look) task attaches) (data_by row.id (Ok look) hand)
  done hand look task attaches d a =
      let u : ProcessPast = begun task t m in
      let now = asks first messages (wants u) hand u refl d.stays a in (
        now,
        subst (λ (l : HighLook). Carries first (messages ++ given (answer_if (wants u) hand)) (data_of row.id l.sent hand)) (sym d.is)
            (data_has first (messages ++ given (answer_if (wants u) hand)) row.id u.removed (is_sent row.resend attaches (with_hand u hand) m) hand now),
      )

  looks : (hand : Option Item) (frame : Option Frame) (result : Result HighLook HighFault) (task : Task) (attaches : Bool) → task_of row.id t.removed t.hand frame ≡ task → LooksBy row t m hand result task attaches → Accounts first messages t.removed t.hand
      → Sends first messages (answer_by t m hand result task) (past_by row t m hand result task attaches) (data_by row.id result hand)
  looks hand frame (Err e) task attaches is l a = sends_nothing first messages t a
  looks hand frame (Ok look) (Refuse e) attaches is l a = absurd (cc)
  looks hand frame (Ok look) Keep attaches is l a = done hand look Keep attaches l a
  looks hand frame (Ok look) Remove attaches is l a = done hand look Remove attaches l (removes first messages t.removed t.hand (removal row.id t.removed t.hand frame is).full a)

  makes : (plan : Plan) (frame : Option Frame) (made : Option Made) → MakesLook row t m plan frame made → Accounts first messages t.removed t.hand
      → Sends first messages (answer_made row t m made) (past_after row t m made) (data_made row.id made)
  makes (End why) frame made h a = none_made made h a where
    none_made : (made : Option Made) → made ≡ None → Accounts first messages t.removed t.hand → Sends first messages (answer_made row t m made) (past_after row t m made) (data_made row.id made)
    none_made made e a = subst (λ (o : Option Made). Sends first messages (answer_made row t m o) (past_after row t m o) (data_made row.id o)) (sym e) (sends_nothing first messages t a)
  makes Pass frame made h a = subst (λ (o : Option Made). Sends first messages (answer_made row t m o) (past_after row t m o) (data_made row.id o)) (sym h) (sends_nothing first messages t a)
  makes Look frame made (x, some, given_is, look) a = subst (λ (o : Option Made). Sends first messages (answer_made row t m o) (past_after row t m o) (data_made row.id o)) (sym some)
      (looks x.hand x.frame x.result (task_of row.id t.removed t.hand x.frame) (attaches_in row.id x.frame) refl look.looks a)

-- ---- rounds and stays ----

module _ (row : SessionRow) (first : ℕ) (messages : List (List ℕ)) (t : ProcessPast) (start : Accounts first messages t.removed t.hand) where
  rounds_send : (rounds : List Round) → AreRounds row t rounds → Sends first messages (answers_in row t rounds) (served row t rounds) (data_sent row.id rounds)
  rounds_send [] are = sends_nothing first messages t start
  rounds_send (r ∷ past) are =
      let was = rounds_send past are.2 in
      sends_then first messages (answers_in row t past) (answer_made row (served row t past) r.moment r.made) (served row t past) (past_after row (served row t past) r.moment r.made) (data_sent row.id past) (data_made row.id r.made) was
      (makes row first (messages ++ given (answers_in row t past)) (served row t past) r.moment (plan_of (is_attached past) (heard_as r.heard.ending)) (frame_heard (heard_as r.heard.ending)) r.made are.0.makes was.0)

stay_sends : {L : Type 0} (row : SessionRow) (first : ℕ) (messages : List (List ℕ)) (t : ProcessPast) (x : Stay L) → IsStay row t x → Accounts first messages t.removed t.hand → Sends first messages (answers_at_stay row t x) (stay_after row t x) (data_at row.id x)
stay_sends row first messages t (Alone m answer) is a = sends_nothing first messages t a
stay_sends row first messages t (With m v) is a = rounds_send row first messages t a v.rounds is

stays_send : {L : Type 0} (row : SessionRow) (first : ℕ) (messages : List (List ℕ)) (t : ProcessPast) → Accounts first messages t.removed t.hand → (stays : List (Stay L)) → AreStays row t stays → Sends first messages (answers_over row t stays) (stayed row t stays) (data_over row.id stays)
stays_send row first messages t start [] are = sends_nothing first messages t start
stays_send row first messages t start (x ∷ past) are =
    let was = stays_send row first messages t start past are.2 in
    sends_then first messages (answers_over row t past) (answers_at_stay row (stayed row t past) x) (stayed row t past) (stay_after row (stayed row t past) x) (data_over row.id past) (data_at row.id x) was
    (stay_sends row first (messages ++ given (answers_over row t past)) (stayed row t past) x are.0 was.0)

opened : (first : ℕ) (hand : Option Item) → Accounts first (payloads (option_to_list hand)) first hand
opened first hand = record { before = []; count = omega arith; are = refl }

pub sends_rounds : (row : SessionRow) (first : ℕ) (hand : Option Item) (rounds : List Round) → AreRounds row (fresh first hand) rounds
    → AllByRecursion (HasMessage first (messages_of hand (answers_in row (fresh first hand) rounds))) (data_sent row.id rounds)
sends_rounds row first hand rounds are = (rounds_send row first (payloads (option_to_list hand)) (fresh first hand) (opened first hand) rounds are).1

pub sends_stays : {L : Type 0} (row : SessionRow) (first : ℕ) (hand : Option Item) (stays : List (Stay L)) → AreStays row (fresh first hand) stays
    → AllByRecursion (HasMessage first (messages_of hand (answers_over row (fresh first hand) stays))) (data_over row.id stays)
sends_stays row first hand stays are = (stays_send row first (payloads (option_to_list hand)) (fresh first hand) (opened first hand) stays are).1
