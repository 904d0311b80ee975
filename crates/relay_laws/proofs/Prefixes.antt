-- A receiver that takes only what was sent has a prefix of what was accepted, and so have files that come.
use Rattle.std.proofs.Common.{◌≡◌, ℕ, zero, suc, ◌-◌, ◌<◌, ◌≤◌, List, [], ◌∷◌, ◌++◌, length, slice_get, get_or, Contains, Some, sym, ap, ◌∙◌, subst, arith, append_assoc, append-nil, length-append, inl, inr}
use Rattle.std.specs.List.{AllByRecursion}
use Rattle.pump_frame.specs.declared.frame.Frame.{Frame}
use Rattle.pump_frame.specs.declared.row.SessionRow.{SessionRow}
use Rattle.pump_core.specs.Lawful.{IsPrefixOf}
use Rattle.pump_core.proofs.Lists.{rest_begins}
use Rattle.peers.specs.Receiving.{AreTurns, Place, Turn, Passed, Took, Again, IsTurn, message_in, messages, place_after, place_by}
use Rattle.relay_threads.specs.HighEnds.{HasMessage}
use Rattle.file_messages.specs.Files.{File, Between, files as files_of, files_from, state_after}
use Rattle.file_messages.proofs.Runs.{files_on}
use Rattle.folders.specs.Outboxes.{Standing, files_in}
use Rattle.file_dropper.specs.Leaving.{Fits}
use Rattle.file_dropper.proofs.Whole.{fitting_gives}
use Rattle.file_peers.specs.Collecting as files
use Rattle.relay_laws.specs.Heard.{HearsOnly, CollectsOnly}

-- what holds of all holds of each
of_each : {X : Type 0} (P : X → Type 0) (xs : List X) (x : X) (k : ℕ) → k < length xs → get_or xs k x ≡ x → AllByRecursion P xs → P x
of_each P [] x k lt is all = absurd (omega (arith, lt))
of_each P (y ∷ xs) x zero lt is all = subst P is all.0
of_each P (y ∷ xs) x (suc k) lt is all = of_each P xs x k (omega (arith, lt)) is all.1

-- what stands behind the first list
stands_behind : (xs ys : List (List ℕ)) (n : ℕ) → length xs ≤ n → slice_get (xs ++ ys) n ≡ slice_get ys (n - length xs)
stands_behind [] ys n le = let e : n ≡ n - 0 = omega arith in ap (slice_get ys) e
stands_behind (x ∷ xs) ys zero le = absurd (omega (arith, le))
stands_behind (x ∷ xs) ys (suc n) le = let e : n - length xs ≡ suc n - suc (length xs) = omega arith in stands_behind xs ys n (omega (arith, le)) ∙ ap (slice_get ys) e

-- a prefix and the message that comes next
next_of_prefix : (had accepted : List (List ℕ)) (message : List ℕ) → IsPrefixOf had accepted → slice_get accepted (length had) ≡ Some message → IsPrefixOf (had ++ message ∷ []) accepted
next_of_prefix had accepted message (rest, is) next =
    let (after, begins) = rest_begins had rest message (ap (λ (xs : List (List ℕ)). slice_get xs (length had)) is ∙ next) in
    (after, append_assoc had (message ∷ []) after ∙ ap (λ (xs : List (List ℕ)). had ++ xs) (sym begins) ∙ is)

-- a message that was sent, and has the next number, is the next one that was accepted
sent_next : (earlier stored : List (List ℕ)) (sent : List Frame) → AllByRecursion (HasMessage (length earlier) stored) sent → (f : Frame) (n : ℕ) → Contains sent f → f.number ≡ n
    → slice_get (earlier ++ stored) n ≡ Some f.payload
sent_next earlier stored sent are f n (k, lt, is) number =
    let message = of_each (HasMessage (length earlier) stored) sent f k lt is are in
    ap (slice_get (earlier ++ stored)) (sym number) ∙ stands_behind earlier stored f.number message.0 ∙ message.1

module _ (row : SessionRow) (size : ℕ) (earlier stored : List (List ℕ)) (sent : List Frame) (are : AllByRecursion (HasMessage (length earlier) stored) sent) (start : Place) (had : List (List ℕ)) where
  abbrev accepted : List (List ℕ)
  accepted = earlier ++ stored

  -- a receiver at this place has so many messages, and they are a prefix
  abbrev Holds : Place → List (List ℕ) → Type 0
  Holds p has = (length has ≡ p.count) × IsPrefixOf has accepted

  takes : (p : Place) (t : Turn) (has : List (List ℕ)) → IsTurn row size p t → HearsOnly row sent (t ∷ []) → Holds p has → Holds (place_by p t) (has ++ message_in t)
  takes p (Passed f) has is heard holds = subst (Holds p) (sym (append-nil has)) holds
  takes p (Again f) has is heard holds = subst (Holds p) (sym (append-nil has)) holds
  takes p (Took f) has is heard holds = (
    omega (arith, holds.0, length-append has (f.payload ∷ [])),
    next_of_prefix has accepted f.payload holds.1 (sent_next earlier stored sent are f (length has) (heard.0 is.0) (is.1.0 ∙ sym holds.0)),
  )

  pub holds_prefix : (turns : List Turn) → AreTurns row size start turns → HearsOnly row sent turns → Holds start had → Holds (place_after start turns) (had ++ messages turns)
  holds_prefix [] are_turns heard holds = subst (Holds start) (sym (append-nil had)) holds
  holds_prefix (t ∷ past) are_turns heard holds =
      subst (Holds (place_after start (t ∷ past))) (append_assoc had (messages past) (message_in t))
      (takes (place_after start past) t (had ++ messages past) are_turns.0 (heard.0, tt) (holds_prefix past are_turns.1 heard.1 holds))

-- ---- High's party of files ----

module _ (row : SessionRow) (earlier stored : List (List ℕ)) (sent : List Frame) (are : AllByRecursion (HasMessage (length earlier) stored) sent) (start : List (List ℕ)) where
  takes_file : (t : files.Turn) (before : List (List ℕ)) → files.IsTurn row before t → CollectsOnly row sent (t ∷ []) → IsPrefixOf before (earlier ++ stored) → IsPrefixOf (before ++ files.message_in t) (earlier ++ stored)
  takes_file (files.Passed f) before is heard holds = subst (λ (xs : List (List ℕ)). IsPrefixOf xs (earlier ++ stored)) (sym (append-nil before)) holds
  takes_file (files.Again f) before is heard holds = subst (λ (xs : List (List ℕ)). IsPrefixOf xs (earlier ++ stored)) (sym (append-nil before)) holds
  takes_file (files.Took f placed) before is heard holds = next_of_prefix before (earlier ++ stored) f.payload holds (sent_next earlier stored sent are f (length before) (heard.0 is.0) is.1)

  pub collects_prefix : (turns : List files.Turn) → files.AreTurns row start turns → CollectsOnly row sent turns → IsPrefixOf start (earlier ++ stored) → IsPrefixOf (start ++ files.messages turns) (earlier ++ stored)
  collects_prefix [] are_turns heard holds = subst (λ (xs : List (List ℕ)). IsPrefixOf xs (earlier ++ stored)) (sym (append-nil start)) holds
  collects_prefix (t ∷ past) are_turns heard holds =
      subst (λ (xs : List (List ℕ)). IsPrefixOf xs (earlier ++ stored)) (append_assoc start (files.messages past) (files.message_in t))
      (takes_file t (start ++ files.messages past) are_turns.0 (heard.0, tt) (collects_prefix past are_turns.1 heard.1 holds))

-- the files of a prefix of what was accepted are a prefix of those that were taken whole
pub carried : (messages accepted : List (List ℕ)) (s : Standing) → IsPrefixOf messages accepted → Fits accepted s
    → (rest : List File) × (s.removed ++ files_in s.marked ≡ files_of messages ++ rest)
carried messages accepted s (more, is) fits =
    let later = files_from (state_after Between messages) more in
    let all : files_of accepted ≡ files_of messages ++ later = sym (ap files_of is) ∙ files_on Between messages more in
    elim (fitting_gives accepted s fits) [
      | inl removed ↦ (later ++ files_in s.marked, ap (λ (xs : List File). xs ++ files_in s.marked) (sym removed ∙ all) ∙ append_assoc (files_of messages) later (files_in s.marked))
      | inr whole ↦ (later, sym whole ∙ all)
    ]
