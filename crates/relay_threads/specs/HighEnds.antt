-- What a high worker does at its end of the passage. Rounds and stays have their newest first, all other
-- lists their oldest.
use Rattle.std.specs.Prelude.{◌≡◌, ℕ, ◌+◌, ◌-◌, ◌≤◌, Bool, true, false, List, [], ◌∷◌, ◌++◌, length, slice_get}
use Rattle.std.specs.Prelude.{flat_map, count_by, Option, Some, None, is_none, option_map, option_to_list, Result, Ok}
use Rattle.std.specs.Prelude.{Err}
use Rattle.pump_frame.specs.declared.frame.Frame.{Frame}
use Rattle.pump_frame.specs.declared.frame.Item.{Item}
use Rattle.pump_frame.specs.declared.row.SessionRow.{SessionRow}
use Rattle.pump_core.specs.Passage.{Low, High}
use Rattle.high_process.specs.declared.process.HighProcess.{HighProcess}
use Rattle.high_process.specs.declared.values.HighFault.{HighFault}
use Rattle.high_process.specs.declared.values.HighLook.{HighLook}
use Rattle.high_process.specs.declared.values.Task.{Task}
use Rattle.high_process.specs.Tasks.{task_of}
use Rattle.high_process.specs.Past.{ProcessPast, begun, wants}
use Rattle.high_process.specs.States.{row_of}
use Rattle.high_process.specs.Ends.{StandsFitting}
use Rattle.high_process.specs.Looks.{StandsFor}
use Rattle.relay_threads.specs.HighRounds.{Made, Round, past_after, served, data_sent}
use Rattle.relay_threads.specs.HighStays.{Stay, Alone, With, stayed, stay_after}
use Rattle.relay_threads.specs.StoredMessages.{payloads}

-- ---- what the end answers ----

-- An end that is asked for a message answers with its payload, or with None for Empty. What came is in the
-- hand; a look that wants no message does not ask.
abbrev pub answer_if : Bool → Option Item → List (Option (List ℕ))
answer_if true hand = option_map (λ x. x.payload) hand ∷ []
answer_if false hand = []

-- a look asks once what its frame asks for is done, and not where that fails
abbrev pub answer_by : ProcessPast → ℕ → Option Item → Result HighLook HighFault → Task → List (Option (List ℕ))
answer_by t m hand (Ok look) task = answer_if (wants (begun task t m)) hand
answer_by t m hand (Err e) task = []

abbrev pub answer_made : SessionRow → ProcessPast → ℕ → Option Made → List (Option (List ℕ))
answer_made row t m None = []
answer_made row t m (Some x) = answer_by t m x.hand x.result (task_of row.id t.removed t.hand x.frame)

-- all that it answers in these rounds
abbrev pub answers_in : SessionRow → ProcessPast → List Round → List (Option (List ℕ))
answers_in row t [] = []
answers_in row t (r ∷ past) = answers_in row t past ++ answer_made row (served row t past) r.moment r.made

-- .. and in these stays
abbrev pub answers_at_stay : {L : Type 0} → SessionRow → ProcessPast → Stay L → List (Option (List ℕ))
answers_at_stay row t (Alone m answer) = []
answers_at_stay row t (With m v) = answers_in row t v.rounds

abbrev pub answers_over : {L : Type 0} → SessionRow → ProcessPast → List (Stay L) → List (Option (List ℕ))
answers_over row t [] = []
answers_over row t (x ∷ past) = answers_over row t past ++ answers_at_stay row (stayed row t past) x

-- the payloads among the answers, and how often there was nothing
abbrev pub given : List (Option (List ℕ)) → List (List ℕ)
given answers = flat_map option_to_list answers

abbrev pub misses : List (Option (List ℕ)) → ℕ
misses answers = count_by (λ x. is_none x) answers

-- ---- what the worker did there ----

-- The end, which stood for h, stands now for one that has taken up the payloads of these answers and tried
-- in vain for each other answer, and has published just the times by which the past grew from t to u.
pub record HasTaken (now : Low → High → Type 0) (l : Low) (h : High) (t u : ProcessPast)
    (answers : List (Option (List ℕ))) : Type 0 where
  pub high : High
  pub stands : now l high
  pub taken : payloads high.taken ≡ payloads h.taken ++ given answers
  pub tries : length high.tries ≡ length h.tries + misses answers
  pub published : List ℕ
  pub times : high.times ≡ h.times ++ published
  pub past_times : u.times ≡ t.times ++ published

-- .. whatever the end stood for, beside any low end, with a process that fits it and stood for any past,
-- which became `past` of it
abbrev pub TakesBy : {E : Type 0} → (E → Low → High → Type 0) → E → E → HighProcess → HighProcess
    → (ProcessPast → ProcessPast) → (ProcessPast → List (Option (List ℕ))) → Type 0
TakesBy stands old new p q past answers = (l : Low) (h : High) (t : ProcessPast) → StandsFitting (stands old) p l h
    → StandsFor p t
    → HasTaken (StandsFitting (stands new) q) l h t (past t) (answers t)

-- one look, or none
abbrev pub LookTakes : {E : Type 0} → (E → Low → High → Type 0) → E → E → HighProcess → HighProcess → ℕ → Option Made
    → Type 0
LookTakes stands old new p q m made = TakesBy stands old new p q (λ t. past_after (row_of p) t m made)
    (λ t. answer_made (row_of p) t m made)

-- these rounds
abbrev pub TakesSo : {E : Type 0} → (E → Low → High → Type 0) → E → E → HighProcess → HighProcess → List Round → Type 0
TakesSo stands old new p q rounds = TakesBy stands old new p q (λ t. served (row_of p) t rounds)
    (λ t. answers_in (row_of p) t rounds)

-- one stay, and these
abbrev pub StayTakes : {E L : Type 0} → (E → Low → High → Type 0) → E → E → HighProcess → HighProcess → Stay L → Type 0
StayTakes stands old new p q x = TakesBy stands old new p q (λ t. stay_after (row_of p) t x)
    (λ t. answers_at_stay (row_of p) t x)

abbrev pub StaysTake : {E L : Type 0} → (E → Low → High → Type 0) → E → E → HighProcess → HighProcess → List (Stay L)
    → Type 0
StaysTake stands old new p q stays = TakesBy stands old new p q (λ t. stayed (row_of p) t stays)
    (λ t. answers_over (row_of p) t stays)

-- ---- what is sent ----

-- the frame carries the message of its number: the messages have the numbers from `first` on
abbrev pub HasMessage : ℕ → List (List ℕ) → Frame → Type 0
HasMessage first messages f = (first ≤ f.number) × (slice_get messages (f.number - first) ≡ Some f.payload)

-- the DATA that the looks of a stay send, and those of these stays
abbrev pub data_at : {L : Type 0} → ℕ → Stay L → List Frame
data_at session (Alone m answer) = []
data_at session (With m v) = data_sent session v.rounds

abbrev pub data_over : {L : Type 0} → ℕ → List (Stay L) → List Frame
data_over session [] = []
data_over session (x ∷ past) = data_over session past ++ data_at session x

-- the messages of a worker from its opening on: the one in the hand, if there was one, and those that came
abbrev pub messages_of : Option Item → List (Option (List ℕ)) → List (List ℕ)
messages_of hand answers = payloads (option_to_list hand) ++ given answers
