-- The rounds of a high worker on one connection, the newest first, and the rule that they keep.
use Rattle.std.specs.Prelude.{◌≡◌, ℕ, ◌+◌, Bool, true, false, ◌||◌, if◌then◌else◌, List, [], ◌∷◌, ◌++◌, length, Option}
use Rattle.std.specs.Prelude.{Some, None, IfSome, is_some, Result, Ok, Err}
use Rattle.std.specs.Result.{MatchResult}
use Rattle.pump_frame.specs.declared.frame.Frame.{Frame}
use Rattle.pump_frame.specs.declared.frame.Item.{Item}
use Rattle.pump_frame.specs.declared.frame.Kind.TheVariants.{Data}
use Rattle.pump_frame.specs.declared.row.SessionRow.{SessionRow}
use Rattle.pump_link.specs.declared.link.Looked.{Looked}
use Rattle.high_process.specs.declared.values.HighFault.{HighFault}
use Rattle.high_process.specs.declared.values.HighFault.TheVariants.{Device, Ahead, Behind}
use Rattle.high_process.specs.declared.values.HighLook.{HighLook}
use Rattle.high_process.specs.declared.values.Task.{Task}
use Rattle.high_process.specs.declared.values.Task.TheVariants.{Refuse, Remove, Keep}
use Rattle.high_process.specs.Tasks.{task_of, attaches_in, is_attach}
use Rattle.high_process.specs.Past.{ProcessPast, begun, removed_in, published_in, sent_in, finished, wants}
use Rattle.high_process.specs.Storing.{GivenBack}
use Rattle.relay_threads.specs.Heards.{Heard, Nothing as HeardNothing, Frame as HeardFrame, Bad as HeardBad}
use Rattle.relay_threads.specs.Heards.{Ended as HeardEnded, Failed as HeardFailed}
use Rattle.relay_threads.specs.declared.high_served.HighWhy.{HighWhy}
use Rattle.relay_threads.specs.declared.high_served.HighWhy.TheVariants.{Gone, Bad, NotAttach, LinkFailed, Stopped}
use Rattle.relay_threads.specs.declared.high_served.HighWhy.TheVariants.{Device as DeviceFailed, Ahead as IsAhead}
use Rattle.relay_threads.specs.declared.high_served.HighWhy.TheVariants.{Behind as IsBehind}
use Rattle.relay_threads.specs.declared.high_round.Plan.{Plan}
use Rattle.relay_threads.specs.declared.high_round.Plan.TheVariants.{End, Pass, Look}
use Rattle.relay_threads.specs.Hearings.{Hearing, IsHearing, looks_in, heard_as, held_by}

-- what follows a reading: the first frame of a connection is to be an ATTACH, and no look is made before it
abbrev pub plan_of : Bool → Heard → Plan
plan_of is_attached (HeardFrame f) = if is_attached || is_attach f.kind then Look else End NotAttach
plan_of is_attached HeardNothing = if is_attached then Look else Pass
plan_of is_attached HeardBad = End Bad
plan_of is_attached HeardEnded = End Gone
plan_of is_attached HeardFailed = End LinkFailed

-- the frame that came, if one did
abbrev pub frame_heard : Heard → Option Frame
frame_heard (HeardFrame f) = Some f
frame_heard _ = None

abbrev pub is_frame : Heard → Bool
is_frame heard = is_some (frame_heard heard)

-- a look's refusal ends the connection
abbrev pub why_of : HighFault → HighWhy
why_of (Device faults) = DeviceFailed faults
why_of (Ahead number expected) = IsAhead number expected
why_of (Behind count removed) = IsBehind count removed

-- a look that was made: the frame that it was given, what is in the hand after it, and what it answered
pub record Made : Type 0 where
  pub frame : Option Frame
  pub hand : Option Item
  pub result : Result HighLook HighFault

-- one round: its moment, what it read, its look if it made one, and whether what that sends was sent whole
pub record Round : Type 0 where
  pub moment : ℕ
  pub heard : Hearing
  pub made : Option Made
  pub is_sent : Bool

-- ---- what rounds add up to ----

abbrev pub looks_in_round : Round → List Looked
looks_in_round r = looks_in r.heard

-- all that the link's looks gave, the oldest first
abbrev pub looks_of_rounds : List Round → List Looked
looks_of_rounds [] = []
looks_of_rounds (r ∷ past) = looks_of_rounds past ++ looks_in r.heard

-- their moments, the oldest first
abbrev pub moments : List Round → List ℕ
moments [] = []
moments (r ∷ past) = moments past ++ r.moment ∷ []

-- a frame has come
abbrev pub is_attached : List Round → Bool
is_attached [] = false
is_attached (r ∷ past) = is_attached past || is_frame (heard_as r.heard.ending)

-- the bytes of an unfinished frame after these rounds
abbrev pub held_after : List Round → List ℕ
held_after [] = []
held_after (r ∷ past) = held_by (held_after past) r.heard.bytes r.heard.ending

-- the DATA of a session that a look sends: its number, with the payload in the hand
abbrev pub data_of : ℕ → Option ℕ → Option Item → List Frame
data_of session (Some n) (Some x) = record { kind = Data; session = session; number = n; payload = x.payload } ∷ []
data_of session _ _ = []

abbrev pub data_in : ℕ → HighLook → Option Item → List Frame
data_in session look hand = data_of session look.sent hand

abbrev pub data_by : ℕ → Result HighLook HighFault → Option Item → List Frame
data_by session (Ok look) hand = data_in session look hand
data_by session (Err e) hand = []

abbrev pub data_made : ℕ → Option Made → List Frame
data_made session None = []
data_made session (Some x) = data_by session x.result x.hand

-- the DATA that the looks send, the oldest first
abbrev pub data_sent : ℕ → List Round → List Frame
data_sent session [] = []
data_sent session (r ∷ past) = data_sent session past ++ data_made session r.made

-- the message that a look removed, if it removed one
abbrev pub removed_by : Result HighLook HighFault → Option ℕ
removed_by (Ok look) = look.removed
removed_by (Err e) = None

abbrev pub removes_by : Result HighLook HighFault → Bool
removes_by result = is_some (removed_by result)

abbrev pub removes : Option Made → Bool
removes None = false
removes (Some x) = removes_by x.result

-- how many messages these rounds removed
abbrev pub removals : List Round → ℕ
removals [] = 0
removals (r ∷ past) = removals past + (if removes r.made then 1 else 0)

-- what the gate was asked before each of these rounds, the oldest first: the rounds made so far and the
-- messages removed in them
abbrev pub asks_before : List Round → List (ℕ × ℕ)
asks_before [] = []
asks_before (r ∷ past) = asks_before past ++ (length past, removals past) ∷ []

-- .. and before the one that it stopped
abbrev pub asks_of : HighWhy → List Round → List (ℕ × ℕ)
asks_of Stopped rounds = asks_before rounds ++ (length rounds, removals rounds) ∷ []
asks_of _ rounds = asks_before rounds

-- ---- one look ----

-- a past with this in the hand
abbrev pub with_hand : ProcessPast → Option Item → ProcessPast
with_hand t hand = record t { hand = hand }

-- A look that did what its frame asks of this past. What comes into the hand is the next message, and
-- where none is wanted the hand stays as it was.
pub record IsDone (row : SessionRow) (t : ProcessPast) (m : ℕ) (hand : Option Item) (task : Task) (attaches : Bool)
    (look : HighLook) : Type 0 where
  pub stays : wants (begun task t m) ≡ false → hand ≡ (begun task t m).hand
  pub next : wants (begun task t m) ≡ true → IfSome hand (λ x. x.number ≡ (begun task t m).removed)
  pub is : look ≡ record {
    removed = removed_in task t;
    published = published_in task t m;
    sent = sent_in row.resend
        attaches (with_hand (begun task t m) hand) m;
  }

-- the answer of a look, by what its frame asks: a refusal does nothing, and a removal may fail
abbrev pub LooksBy : SessionRow → ProcessPast → ℕ → Option Item → Result HighLook HighFault → Task → Bool → Type 0
LooksBy row t m hand result (Refuse e) attaches = result ≡ Err e
LooksBy row t m hand result Keep attaches = MatchResult result (IsDone row t m hand Keep attaches) (λ e. ⊥)
LooksBy row t m hand result Remove attaches = MatchResult result (IsDone row t m hand Remove attaches) (λ e. (n : ℕ)
    × (e ≡ Device n))

-- one look at m after this past
pub record IsLook (row : SessionRow) (t : ProcessPast) (m : ℕ) (x : Made) : Type 0 where
  pub looks : LooksBy row t m x.hand x.result (task_of row.id t.removed t.hand x.frame) (attaches_in row.id x.frame)
  -- message B is removed only where a receiver of the session has it: by a TAKEN B or an ATTACH B+1
  pub back : IfSome (removed_by x.result) (λ b. (b ≡ t.removed) × GivenBack row.id b x.frame)

-- .. and the past after it, where the process is not down
abbrev pub past_by : SessionRow → ProcessPast → ℕ → Option Item → Result HighLook HighFault → Task → Bool → ProcessPast
past_by row t m hand (Ok look) task attaches = finished row.resend attaches (with_hand (begun task t m) hand) m
past_by row t m hand (Err e) task attaches = t

abbrev pub past_after : SessionRow → ProcessPast → ℕ → Option Made → ProcessPast
past_after row t m None = t
past_after row t m (Some x) = past_by row t m x.hand x.result (task_of row.id t.removed t.hand x.frame)
    (attaches_in row.id x.frame)

-- the past after these rounds
abbrev pub served : SessionRow → ProcessPast → List Round → ProcessPast
served row t [] = t
served row t (r ∷ past) = past_after row (served row t past) r.moment r.made

-- ---- the rule ----

-- one look with this frame or none, where the plan has a look
abbrev pub MakesLook : SessionRow → ProcessPast → ℕ → Plan → Option Frame → Option Made → Type 0
MakesLook row t m Look frame made = (x : Made) × (made ≡ Some x) × (x.frame ≡ frame) × IsLook row t m x
MakesLook row t m (End why) frame made = made ≡ None
MakesLook row t m Pass frame made = made ≡ None

-- what ends the connection in a look: a refusal, or what it sends was not sent whole
abbrev pub cause_look : Result HighLook HighFault → Bool → Option HighWhy
cause_look (Err e) is_sent = Some (why_of e)
cause_look (Ok look) is_sent = if is_sent then None else Some LinkFailed

abbrev pub cause_made : Option Made → Bool → Option HighWhy
cause_made None is_sent = None
cause_made (Some x) is_sent = cause_look x.result is_sent

abbrev pub cause_by : Plan → Option Made → Bool → Option HighWhy
cause_by (End why) made is_sent = Some why
cause_by Pass made is_sent = None
cause_by Look made is_sent = cause_made made is_sent

-- what ends the connection in a round, where a frame had come before it or not
abbrev pub cause : Bool → Round → Option HighWhy
cause is_attached r = cause_by (plan_of is_attached (heard_as r.heard.ending)) r.made r.is_sent

-- a round after this past, with these bytes held
pub record IsRound (row : SessionRow) (t : ProcessPast) (held : List ℕ) (is_attached : Bool) (r : Round) : Type 0 where
  -- it reads up to one frame, bad bytes, nothing yet, the end, a failure or 1042 bytes
  pub reads : IsHearing held r.heard
  -- one look, with the round's moment and frame, but where the rule ends the round without one
  pub makes : MakesLook row t r.moment (plan_of is_attached (heard_as r.heard.ending))
      (frame_heard (heard_as r.heard.ending)) r.made

-- what ended the connection in the newest round
abbrev pub newest_cause : List Round → Option HighWhy
newest_cause [] = None
newest_cause (r ∷ past) = cause (is_attached past) r

-- none of the rounds ended it
abbrev pub GoOn : List Round → Type 0
GoOn [] = Unit {0}
GoOn (r ∷ past) = (cause (is_attached past) r ≡ None) × GoOn past

-- each round is one, and none before the newest ended the connection
abbrev pub AreRounds : SessionRow → ProcessPast → List Round → Type 0
AreRounds row t [] = Unit {0}
AreRounds row t (r ∷ past) = IsRound row (served row t past) (held_after past) (is_attached past) r × GoOn past
    × AreRounds row t past
