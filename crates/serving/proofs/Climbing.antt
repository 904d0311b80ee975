-- The numbers that a high worker sends climb, and what it removed is what came, but for the message in its hand.
use Rattle.std.proofs.Common.{◌≡◌, ◌⊎◌, inl, inr, ℕ, ◌+◌, ◌≤◌, Bool, true, false, List, [], ◌∷◌, ◌++◌, length, Option, Some, None, Result, Ok, Err, refl, sym, ap, subst, arith, length-append}
use Rattle.std.specs.Prelude.{◌||◌, is_some, if◌then◌else◌, option_to_list}
use Rattle.pump_frame.specs.declared.frame.Frame.{Frame}
use Rattle.pump_frame.specs.declared.frame.Item.{Item}
use Rattle.pump_frame.specs.declared.row.SessionRow.{SessionRow}
use Rattle.pump_core.specs.Sendings.{last_sending, is_due}
use Rattle.script_reader.proofs.DoneSteps.{AllBelow, never_sent, below_more}
use Rattle.high_process.specs.declared.values.HighFault.{HighFault}
use Rattle.high_process.specs.declared.values.HighLook.{HighLook}
use Rattle.high_process.specs.declared.values.Task.{Task}
use Rattle.high_process.specs.declared.values.Task.TheVariants.{Refuse, Remove, Keep}
use Rattle.high_process.specs.Tasks.{task_of, attaches_in}
use Rattle.high_process.specs.Past.{ProcessPast, begun, wants, is_sent, fresh}
use Rattle.high_process.proofs.Looking.{removal}
use Rattle.relay_threads.specs.declared.high_round.Plan.{Plan}
use Rattle.relay_threads.specs.declared.high_round.Plan.TheVariants.{End, Pass, Look}
use Rattle.relay_threads.specs.Hearings.{heard_as}
use Rattle.relay_threads.specs.HighRounds.{Made, Round, IsDone, LooksBy, MakesLook, AreRounds, past_by, past_after, served, with_hand, data_of, data_by, data_made, data_sent, plan_of, frame_heard, is_attached}
use Rattle.relay_threads.specs.HighStays.{Stay, Alone, With, IsStay, AreStays, stayed, stay_after}
use Rattle.relay_threads.specs.StoredMessages.{payloads}
use Rattle.relay_threads.specs.HighEnds.{answer_if, answer_by, answer_made, answers_in, answers_at_stay, answers_over, given, data_at, data_over, messages_of}
use Rattle.relay_threads.proofs.HighEnding.{given_more, wanted_none}
use Rattle.serving.specs.SentStored.{Climbs}

-- the frames climb from n to k
abbrev ClimbsTo : ℕ → List Frame → ℕ → Type 0
ClimbsTo n [] k = n ≡ k
ClimbsTo n (f ∷ frames) k = ((f.number ≡ n) ⊎ (f.number ≡ n + 1)) × ClimbsTo f.number frames k

climbs : (n k : ℕ) (frames : List Frame) → ClimbsTo n frames k → Climbs n frames
climbs n k [] h = tt
climbs n k (f ∷ frames) h = (h.0, climbs f.number k frames h.1)

climbs_on : (n m k : ℕ) (c d : List Frame) → ClimbsTo n c m → ClimbsTo m d k → ClimbsTo n (c ++ d) k
climbs_on n m k [] d one two = subst (λ (z : ℕ). ClimbsTo z d k) (sym one) two
climbs_on n m k (f ∷ c) d one two = (one.0, climbs_on f.number m k c d one.1 two)

-- With n as the last number that was sent: so many messages came. None above n was sent; the next one to be removed is
-- n, or the one behind it, and that one is not there yet.
pub record IsAt (first size n : ℕ) (t : ProcessPast) : Type 0 where
  pub from : first ≤ t.removed
  pub came : first + size ≡ t.removed + length (option_to_list t.hand)
  pub below : AllBelow (n + 1) t.sends
  pub at : (n ≡ t.removed) ⊎ ((t.hand ≡ None) × (t.removed ≡ n + 1))

abbrev Moves : ℕ → ℕ → ℕ → List (Option (List ℕ)) → ProcessPast → List Frame → Type 0
Moves first size n answers u frames = (k : ℕ) × IsAt first (size + length (given answers)) k u × ClimbsTo n frames k

module _ (first : ℕ) where
  moves_nothing : (size n : ℕ) (u : ProcessPast) → IsAt first size n u → Moves first size n [] u []
  moves_nothing size n u a = (n, record { from = a.from; came = omega (arith, a.came); below = a.below; at = a.at }, refl)

  moves_then : (size n : ℕ) (xs ys : List (Option (List ℕ))) (u v : ProcessPast) (c d : List Frame) → (one : Moves first size n xs u c) → Moves first (size + length (given xs)) one.0 ys v d → Moves first size n (xs ++ ys) v (c ++ d)
  moves_then size n xs ys u v c d one two =
      let e : (size + length (given xs)) + length (given ys) ≡ size + length (given (xs ++ ys)) = omega (arith, ap length (given_more xs ys), length-append (given xs) (given ys)) in
      (two.0, subst (λ (z : ℕ). IsAt first z two.0 v) e two.1, climbs_on n one.0 two.0 c d one.2 two.2)

-- ---- one look ----

-- what is in the hand when the message was asked for
came_in : (b : Bool) (hand : Option Item) (u : ProcessPast) → wants u ≡ b → (wants u ≡ false → hand ≡ u.hand) → length (given (answer_if b hand)) + length (option_to_list u.hand) ≡ length (option_to_list hand)
came_in true None u is stays = let e : length (option_to_list u.hand) ≡ 0 = ap (λ (o : Option Item). length (option_to_list o)) (wanted_none u.hand _ is) in omega (arith, e)
came_in true (Some x) u is stays = let e : length (option_to_list u.hand) ≡ 0 = ap (λ (o : Option Item). length (option_to_list o)) (wanted_none u.hand _ is) in omega (arith, e)
came_in false hand u is stays = let e : length (option_to_list hand) ≡ length (option_to_list u.hand) = ap (λ (o : Option Item). length (option_to_list o)) (stays is) in omega (arith, e)

-- nothing is in the hand where nothing came
none_in : (b : Bool) (u : ProcessPast) → wants u ≡ b → (wants u ≡ false → None ≡ u.hand) → u.hand ≡ None
none_in true u is stays = wanted_none u.hand _ is
none_in false u is stays = sym (stays is)

module _ (session resend first size n m : ℕ) (attaches : Bool) (u : ProcessPast) (a : IsAt first size n u) where
  -- the past after it, where the message in the hand is sent or not
  abbrev after : Option Item → Bool → ProcessPast
  after hand b = record u { hand = hand; sends = if b then record { number = u.removed; moment = m } ∷ u.sends else u.sends; moment = m }

  abbrev Finishes : ℕ → Option Item → Bool → Type 0
  Finishes more hand b = (k : ℕ) × IsAt first (size + more) k (after hand b) × ClimbsTo n (data_of session (if b then Some u.removed else None) hand) k

  idle : (more : ℕ) → first + (size + more) ≡ u.removed + 0 → Finishes more None false
  idle more came = (n, record { from = a.from; came = came; below = a.below; at = elim a.at [ inl e ↦ inl e | inr e ↦ inr (refl, e.1) ] }, refl)

  sends : (more : ℕ) (x : Item) (b : Bool) → first + (size + more) ≡ u.removed + 1 → (n ≡ u.removed) ⊎ ((u.removed ≡ n + 1) × (b ≡ true)) → Finishes more (Some x) b
  sends more x true came (inl e) = (u.removed, record { from = a.from; came = came; below = (omega arith, below_more (n + 1) (u.removed + 1) u.sends (omega (arith, e)) a.below); at = inl refl }, (inl (sym e), refl))
  sends more x true came (inr e) = (u.removed, record { from = a.from; came = came; below = (omega arith, below_more (n + 1) (u.removed + 1) u.sends (omega (arith, e.0)) a.below); at = inl refl }, (inr e.0, refl))
  sends more x false came (inl e) = (n, record { from = a.from; came = came; below = a.below; at = inl e }, refl)
  sends more x false came (inr e) = (let no = e.1 in absurd (cc))

  -- what was never sent is due
  due : u.removed ≡ n + 1 → is_due resend (last_sending u.removed u.sends) m ≡ true
  due e = ap (λ (o : Option ℕ). is_due resend o m) (never_sent u.removed u.sends (below_more (n + 1) u.removed u.sends (omega (arith, e)) a.below))

  any_or : (x y : Bool) → y ≡ true → (x || y) ≡ true
  any_or true y e = refl
  any_or false y e = e

  finishes : (hand : Option Item) → (wants u ≡ false → hand ≡ u.hand) → Finishes (length (given (answer_if (wants u) hand))) hand (is_sent resend attaches (with_hand u hand) m)
  finishes None stays =
      idle (length (given (answer_if (wants u) None)))
      (let none : length (option_to_list u.hand) ≡ 0 = ap (λ (o : Option Item). length (option_to_list o)) (none_in (wants u) u refl stays) in omega (arith, a.came, came_in (wants u) None u refl stays, none))
  finishes (Some x) stays =
      sends (length (given (answer_if (wants u) (Some x)))) x (attaches || is_due resend (last_sending u.removed u.sends) m)
      (omega (arith, a.came, came_in (wants u) (Some x) u refl stays))
      (elim a.at [ inl e ↦ inl e | inr e ↦ inr (e.1, any_or attaches _ (due e.1)) ])

module _ (row : SessionRow) (first size n : ℕ) (t : ProcessPast) (m : ℕ) where
  -- the message in the hand is removed
  removes : is_some t.hand ≡ true → IsAt first size n t → IsAt first size n (begun Remove t m)
  removes full a = record {
    from = omega (arith, a.from);
    came = full_one t.hand full a.came;
    below = a.below;
    at = elim a.at [ inl e ↦ inr (refl, omega (arith, e)) | inr e ↦ absurd (empty t.hand e.0 full) ];
  } where
    full_one : (hand : Option Item) → is_some hand ≡ true → first + size ≡ t.removed + length (option_to_list hand) → first + size ≡ (t.removed + 1) + 0
    full_one None full came = absurd (cc)
    full_one (Some x) full came = omega (arith, came)

    empty : (hand : Option Item) → hand ≡ None → is_some hand ≡ true → ⊥
    empty None e full = cc
    empty (Some x) e full = cc

  done : (hand : Option Item) (look : HighLook) (task : Task) (attaches : Bool) → IsDone row t m hand task attaches look → IsAt first size n (begun task t m)
      → Moves first size n (answer_if (wants (begun task t m)) hand) (past_by row t m hand (Ok look) task attaches) (data_by row.id (Ok look) hand)
  done hand look task attaches d a =
      let (k, now, to) = finishes row.id row.resend first size n m attaches (begun task t m) a hand d.stays in
      (k, now, subst (λ (l : HighLook). ClimbsTo n (data_of row.id l.sent hand) k) (sym d.is) to)

  looks : (hand : Option Item) (frame : Option Frame) (result : Result HighLook HighFault) (task : Task) (attaches : Bool) → task_of row.id t.removed t.hand frame ≡ task → LooksBy row t m hand result task attaches → IsAt first size n t
      → Moves first size n (answer_by t m hand result task) (past_by row t m hand result task attaches) (data_by row.id result hand)
  looks hand frame (Err e) task attaches is l a = moves_nothing first size n t a
  looks hand frame (Ok look) (Refuse e) attaches is l a = absurd (cc)
  looks hand frame (Ok look) Keep attaches is l a = done hand look Keep attaches l a
  looks hand frame (Ok look) Remove attaches is l a = done hand look Remove attaches l (removes (removal row.id t.removed t.hand frame is).full a)

  abbrev MadeMoves : Option Made → Type 0
  MadeMoves made = Moves first size n (answer_made row t m made) (past_after row t m made) (data_made row.id made)

  makes : (plan : Plan) (frame : Option Frame) (made : Option Made) → MakesLook row t m plan frame made → IsAt first size n t → MadeMoves made
  makes (End why) frame made h a = subst MadeMoves (sym h) (moves_nothing first size n t a)
  makes Pass frame made h a = subst MadeMoves (sym h) (moves_nothing first size n t a)
  makes Look frame made (x, some, given_is, look) a = subst MadeMoves (sym some) (looks x.hand x.frame x.result (task_of row.id t.removed t.hand x.frame) (attaches_in row.id x.frame) refl look.looks a)

-- ---- rounds and stays ----

rounds_move : (row : SessionRow) (first size n : ℕ) (t : ProcessPast) → IsAt first size n t → (rounds : List Round) → AreRounds row t rounds → Moves first size n (answers_in row t rounds) (served row t rounds) (data_sent row.id rounds)
rounds_move row first size n t start [] are = moves_nothing first size n t start
rounds_move row first size n t start (r ∷ past) are =
    let was = rounds_move row first size n t start past are.2 in
    moves_then first size n (answers_in row t past) (answer_made row (served row t past) r.moment r.made) (served row t past) (past_after row (served row t past) r.moment r.made) (data_sent row.id past) (data_made row.id r.made) was
    (makes row first (size + length (given (answers_in row t past))) was.0 (served row t past) r.moment (plan_of (is_attached past) (heard_as r.heard.ending)) (frame_heard (heard_as r.heard.ending)) r.made are.0.makes was.1)

stay_moves : {L : Type 0} (row : SessionRow) (first size n : ℕ) (t : ProcessPast) (x : Stay L) → IsStay row t x → IsAt first size n t → Moves first size n (answers_at_stay row t x) (stay_after row t x) (data_at row.id x)
stay_moves row first size n t (Alone m answer) is a = moves_nothing first size n t a
stay_moves row first size n t (With m v) is a = rounds_move row first size n t a v.rounds is

stays_move : {L : Type 0} (row : SessionRow) (first size n : ℕ) (t : ProcessPast) → IsAt first size n t → (stays : List (Stay L)) → AreStays row t stays → Moves first size n (answers_over row t stays) (stayed row t stays) (data_over row.id stays)
stays_move row first size n t start [] are = moves_nothing first size n t start
stays_move row first size n t start (x ∷ past) are =
    let was = stays_move row first size n t start past are.2 in
    moves_then first size n (answers_over row t past) (answers_at_stay row (stayed row t past) x) (stayed row t past) (stay_after row (stayed row t past) x) (data_over row.id past) (data_at row.id x) was
    (stay_moves row first (size + length (given (answers_over row t past))) was.0 (stayed row t past) x are.0 was.1)

-- From an opening on, what is sent climbs, and so many are removed.
pub record IsSent (first : ℕ) (messages : List (List ℕ)) (u : ProcessPast) (frames : List Frame) : Type 0 where
  pub climbs : Climbs first frames
  pub from : first ≤ u.removed
  pub came : first + length messages ≡ u.removed + length (option_to_list u.hand)

pub stays_climb : {L : Type 0} (row : SessionRow) (first : ℕ) (hand : Option Item) (stays : List (Stay L)) → AreStays row (fresh first hand) stays
    → IsSent first (messages_of hand (answers_over row (fresh first hand) stays)) (stayed row (fresh first hand) stays) (data_over row.id stays)
stays_climb row first hand stays are =
    let opened : IsAt first (length (payloads (option_to_list hand))) first (fresh first hand) = record { from = omega arith; came = ap (λ (k : ℕ). first + k) (length_payloads hand); below = tt; at = inl refl } in
    let (k, now, to) = stays_move row first (length (payloads (option_to_list hand))) first (fresh first hand) opened stays are in
    record {
      climbs = climbs first k (data_over row.id stays) to;
      from = now.from;
      came = omega (arith, now.came, length-append (payloads (option_to_list hand)) (given (answers_over row (fresh first hand) stays)));
    } where
      length_payloads : (hand : Option Item) → length (payloads (option_to_list hand)) ≡ length (option_to_list hand)
      length_payloads None = refl
      length_payloads (Some x) = refl
