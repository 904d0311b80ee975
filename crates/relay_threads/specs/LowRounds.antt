-- The rounds of a low worker on one connection, and the rule that they keep. A list of rounds, and one of
-- looks, has its newest entry first; a list of what came in or went out has its oldest first.
use Rattle.std.specs.Prelude.{◌≡◌, ℕ, ◌+◌, Bool, true, false, not, if◌then◌else◌, List, [], ◌∷◌, ◌++◌, length, Option}
use Rattle.std.specs.Prelude.{Some, None, IfSome, is_some}
use Rattle.std.specs.List.{AllByRecursion, flat_map}
use Rattle.pump_frame.specs.declared.frame.Frame.{Frame}
use Rattle.pump_frame.specs.declared.frame.Kind.{Kind}
use Rattle.pump_frame.specs.declared.frame.Kind.TheVariants.{Ack}
use Rattle.pump_frame.specs.Rows.{IsLawfulRow}
use Rattle.pump_frame.specs.declared.row.SessionRow.{SessionRow}
use Rattle.pump_frame.specs.Spellings.{spelling}
use Rattle.pump_link.specs.declared.link.Looked.{Looked}
use Rattle.pump_core.specs.History.{Arrival, Opening}
use Rattle.pump_core.specs.History.{Nothing, Came, Bad, Gone}
use Rattle.pump_core.specs.Exchanges.{Part, IsCut}
use Rattle.pump_core.specs.Comings.{may_take}
use Rattle.relay_threads.specs.declared.low_served.LowWhy.{LowWhy}
use Rattle.relay_threads.specs.declared.low_served.LowWhy.TheVariants as whys
use Rattle.relay_threads.specs.Hearings.{Ending, AtFrame, AtBad, AtNotYet, AtEnded, AtFailed, AtMost, Hearing}
use Rattle.relay_threads.specs.Hearings.{IsHearing, looks_in, held_by}
use Rattle.relay_threads.specs.Records.{Made, life_made, replies_made}
use Rattle.relay_threads.specs.Replays.{ReadsBack}

-- one round: its moment and its word; what it read, if it read; its look, if it made one; whether its
-- reply was sent whole and its lines were written whole; and the low disk's count of faults after it
pub record Round : Type 0 where
  pub moment : ℕ
  pub word : ℕ
  pub heard : Option Hearing
  pub made : Option Made
  pub is_sent : Bool
  pub is_kept : Bool
  pub faults : ℕ

-- ---- what rounds come to ----

-- these looks, and one more, if there is one
abbrev pub with_look : Option Made → List Made → List Made
with_look None before = before
with_look (Some m) before = m ∷ before

-- these looks, and those of the rounds after them
abbrev pub made_after : List Made → List Round → List Made
made_after before [] = before
made_after before (r ∷ past) = with_look r.made (made_after before past)

-- the looks of these rounds
abbrev pub made_in : List Round → List Made
made_in rounds = made_after [] rounds

abbrev pub looks_heard : Option Hearing → List Looked
looks_heard None = []
looks_heard (Some h) = looks_in h

-- all that the link's looks gave
abbrev pub looks_of_rounds : List Round → List Looked
looks_of_rounds [] = []
looks_of_rounds (r ∷ past) = looks_of_rounds past ++ looks_heard r.heard

abbrev pub moments_of : List Round → List ℕ
moments_of [] = []
moments_of (r ∷ past) = moments_of past ++ r.moment ∷ []

abbrev pub words_of : List Round → List ℕ
words_of [] = []
words_of (r ∷ past) = words_of past ++ r.word ∷ []

-- the bytes of the replies to these looks
abbrev pub reply_bytes : List Made → List ℕ
reply_bytes made = flat_map (λ s. spelling s.reply) (replies_made made)

abbrev pub held_heard : List ℕ → Option Hearing → List ℕ
held_heard held None = held
held_heard held (Some h) = held_by held h.bytes h.ending

-- the bytes of an unfinished frame that are held after these rounds
abbrev pub held_after : List Round → List ℕ
held_after [] = []
held_after (r ∷ past) = held_heard (held_after past) r.heard

-- ---- the rule ----

-- the arrival of a round's look, by what it read; where the link failed there is no look
abbrev pub offered_at : Ending → Option Arrival
offered_at (AtFrame f) = Some (Came f)
offered_at AtBad = Some Bad
offered_at AtNotYet = Some Nothing
offered_at AtMost = Some Nothing
offered_at AtEnded = Some Gone
offered_at AtFailed = None

-- .. and where it read nothing, nothing comes
abbrev pub offered : Option Hearing → Option Arrival
offered None = Some Nothing
offered (Some h) = offered_at h.ending

-- one look, at the round's moment, with its word and with this arrival; or none
abbrev pub MakesLook : Round → Option Arrival → Type 0
MakesLook r None = r.made ≡ None
MakesLook r (Some a) = (m : Made) × (r.made ≡ Some m) × (m.look.moment ≡ r.moment) × (m.look.word ≡ r.word)
    × (m.look.arrival ≡ a)

-- why a round leaves the connection, by what it read
abbrev pub cause_at : Ending → Option LowWhy
cause_at (AtFrame f) = None
cause_at AtBad = Some whys.Bad
cause_at AtNotYet = None
cause_at AtEnded = Some whys.Gone
cause_at AtFailed = Some whys.LinkFailed
cause_at AtMost = None

abbrev pub cause_heard : Option Hearing → Option LowWhy
cause_heard None = None
cause_heard (Some h) = cause_at h.ending

-- the low disk failed in the look
abbrev pub is_lost_in : Option Made → Bool
is_lost_in None = false
is_lost_in (Some m) = m.look.is_fault

-- .. and at all: the first of these that applies
abbrev pub cause : Round → Option LowWhy
cause r = if not r.is_kept then Some whys.RecordFailed
    else if is_lost_in r.made then Some (whys.Device r.faults)
    else if not r.is_sent then Some whys.LinkFailed
    else cause_heard r.heard

-- a round after these looks, where these bytes are held
pub record IsRound (row : SessionRow) (o : Opening) (before : List Made) (held : List ℕ) (r : Round) : Type 0 where
  -- it reads exactly where the next look may take what comes
  pub wants : (parts : List Part) → IsCut row (life_made o before) parts → may_take o parts ≡ is_some r.heard
  -- .. up to one frame, bad bytes, nothing yet, the end, a failure or 1042 bytes
  pub reads : IfSome r.heard (IsHearing held)
  -- it makes one look, but where the link failed
  pub makes : MakesLook r (offered r.heard)
  -- a reader of scripts reads the line of the look, where a record has it
  pub readable : IsLawfulRow row → IfSome r.made (ReadsBack row before)

-- no round left the connection
abbrev pub GoOn : List Round → Type 0
GoOn rounds = AllByRecursion (λ r. cause r ≡ None) rounds

-- each is a round, and none but the newest left the connection
abbrev pub AreRounds : SessionRow → Opening → List Made → List Round → Type 0
AreRounds row o before [] = Unit {0}
AreRounds row o before (r ∷ past) = IsRound row o (made_after before past) (held_after past) r × GoOn past
    × AreRounds row o before past

-- why the newest round leaves the connection
abbrev pub newest_cause : List Round → Option LowWhy
newest_cause [] = None
newest_cause (r ∷ past) = cause r

-- ---- what the gate is asked ----

abbrev pub is_ack_kind : Kind → Bool
is_ack_kind Ack = true
is_ack_kind _ = false

abbrev pub is_ack : Option Frame → Bool
is_ack None = false
is_ack (Some reply) = is_ack_kind reply.kind

abbrev pub is_ack_made : Option Made → Bool
is_ack_made None = false
is_ack_made (Some m) = is_ack m.reply

-- how many messages were acknowledged in these rounds
abbrev pub acks_in : List Round → ℕ
acks_in [] = 0
acks_in (r ∷ past) = if is_ack_made r.made then acks_in past + 1 else acks_in past

-- what is asked after these rounds: how many there were, and how many messages were acknowledged
abbrev pub ask_after : List Round → ℕ × ℕ
ask_after past = (length past, acks_in past)

-- what was asked before each of these rounds
abbrev pub asks_of : List Round → List (ℕ × ℕ)
asks_of [] = []
asks_of (r ∷ past) = asks_of past ++ ask_after past ∷ []
