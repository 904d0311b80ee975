-- The low racer between two looks: the low half of its session, and what is left of the generated script.
use Rattle.std.specs.Prelude.{◌≡◌, ◌⊎◌, ℕ, ◌+◌, ◌≤◌, Bool, true, false, if◌then◌else◌, List, [], ◌∷◌, ◌++◌, length, map}
use Rattle.std.specs.Prelude.{Option, Some, None}
use Rattle.std.specs.List.{AllByRecursion}
use Rattle.atomic_table.specs.Seated.{TableId}
use Rattle.pump_frame.specs.declared.frame.Frame.{Frame}
use Rattle.pump_frame.specs.declared.frame.Item.{Item}
use Rattle.disk_model.specs.Plain.{plain_meaning}
use Rattle.stable_buffer.specs.Stands.{low_size}
use Rattle.stable_buffer.specs.Low.{low_disk}
use Rattle.pump_core.specs.Phases.{Phase}
use Rattle.pump_core.specs.Phases.{Idle, Passing, Waiting, Down}
use Rattle.pump_core.specs.History.{Arrival}
use Rattle.pump_core.specs.History.{Nothing, Came}
use Rattle.pump_core.specs.Exchanges.{Part, IsCut, greeted_after}
use Rattle.pump_core.specs.Replies.{LowReplies}
use Rattle.pump_core.specs.Standing.{phase_after}
use Rattle.pump_core.specs.Passage.{Low, High, new_high, Shape, shape_of_row}
use Rattle.low_process.specs.Looks.{StandsFor, row_of, next_of, last_of, is_down, is_idle, hand_of}
use Rattle.low_process.specs.Ends.{StandsFitting}
use Rattle.low_process.specs.Whole.{HasStore}
use Rattle.relay_threads.specs.PairsRead.{pairs_of}
use Rattle.relay_threads.specs.Records.{Made, life_made, history_made, replies_made, AreMade}
use Rattle.script_reader.specs.Generated.{generated_row}
use Rattle.race.specs.LookWords.{word_after}
use Rattle.race.specs.MadeLooks.{HaveWords, TakeAll, IsPlain, FullFrom, frames_of, acks_of}
use Rattle.race.specs.Messages.{messages_in, race_items, race_opening, hello_frame, data_frame}
use Rattle.race.specs.Turns.{done_in}
use Rattle.race.specs.declared.low.LowRacer.{LowRacer}

-- the phases of a low process whose device never fails and whose connection is never lost
abbrev pub goes_on : Phase → Bool
goes_on Idle = true
goes_on (Passing None) = false
goes_on (Passing (Some n)) = true
goes_on (Waiting n due) = true
goes_on Down = false

-- how many messages are stored and not yet acknowledged
abbrev pub owed_in : Phase → ℕ
owed_in Idle = 0
owed_in (Passing owed) = 1
owed_in (Waiting n due) = 1
owed_in Down = 1

-- what was forwarded, and then the message in the hand
abbrev pub with_hand : List Item → Option Item → List Item
with_hand forwarded None = forwarded
with_hand forwarded (Some x) = forwarded ++ x ∷ []

-- the frames of these messages behind the HELLO; none before it
abbrev pub frames_so_far : Bool → List Item → List Frame
frames_so_far greeted items = if greeted then hello_frame ∷ map data_frame items else []

-- After these looks, with these messages still to come. What was forwarded, with the hand, and what is
-- still to come are the messages of the race.
pub record LowAt {L : Type 0} (stands : L → Low → High → Type 0) (shape : L → Shape) (w : LowRacer L) (left : List Item)
    (made : List Made) : Type 0 where
  pub are_made : AreMade generated_row race_opening made
  pub history : StandsFor w.half.process (history_made race_opening made)
  pub replies : LowReplies generated_row (history_made race_opening made) (replies_made made)
  pub parts : List Part
  pub cut : IsCut generated_row (life_made race_opening made) parts
  pub phase : goes_on (phase_after generated_row race_opening parts) ≡ true
  pub greeted : greeted_after generated_row parts ≡ w.is_greeted
  pub row : row_of w.half.process ≡ generated_row
  pub row_too : w.row ≡ generated_row
  pub up : is_down w.half.process ≡ false
  pub store : HasStore plain_meaning w.half.process w.half.store
  pub free : ((low_disk w.half.store).armed ≡ false) × (low_size generated_row ≤ (low_disk w.half.store).room)
  pub some : 1 ≤ w.count
  pub few : w.count ≤ 100000
  pub word : w.word ≡ word_after w.seed (length made)
  pub words : HaveWords w.seed made
  pub take_all : TakeAll made
  pub plain : AllByRecursion IsPlain made
  pub full : FullFrom 6 generated_row race_opening made
  pub low : Low
  pub fitting : StandsFitting (stands w.half.ends) w.half.process low new_high
  pub shape_is : shape w.half.ends ≡ shape_of_row generated_row
  pub pairs : low.pairs ≡ pairs_of made
  pub messages : with_hand low.forwarded (hand_of w.half.process) ++ left ≡ race_items w.seed w.count
  pub stored : length (with_hand low.forwarded (hand_of w.half.process)) ≡ next_of w.half.process
  pub frames : frames_of made ≡ frames_so_far w.is_greeted (with_hand low.forwarded (hand_of w.half.process))
  pub none_before : w.is_greeted ≡ false → next_of w.half.process ≡ 0
  pub acked : done_in (acks_of made) + owed_in (phase_after generated_row race_opening parts) ≡ next_of w.half.process

-- with all messages still to come that the script has left
abbrev pub LowRests : {L : Type 0} → (L → Low → High → Type 0) → (L → Shape) → LowRacer L → List Made → Type 0
LowRests stands shape w made = LowAt stands shape w (messages_in w.script) made

-- before its first look, at moment 0
pub record LowBegins {L : Type 0} (stands : L → Low → High → Type 0) (shape : L → Shape) (w : LowRacer L) : Type 0 where
  pub at : LowRests stands shape w []
  pub last : last_of w.half.process ≡ 0

-- what looks leave as it is: whose end it has, and which messages it is to send
pub record LowStays {L : Type 0} (place : L → List TableId) (shape : L → Shape)
    (before after : LowRacer L) : Type 0 where
  pub place_is : place after.half.ends ≡ place before.half.ends
  pub shape_is : shape after.half.ends ≡ shape before.half.ends
  pub seed : after.seed ≡ before.seed
  pub count : after.count ≡ before.count

-- A frame that comes is the HELLO, or the DATA of the first message still to come, and comes only
-- where it is taken.
abbrev pub IsOffer : {L : Type 0} → LowRacer L → Option Frame → List Item → Type 0
IsOffer w None left = left ≡ messages_in w.script
IsOffer w (Some f) left = (is_idle w.half.process ≡ true)
    × (((w.is_greeted ≡ false) × (f ≡ hello_frame) × (left ≡ messages_in w.script))
    ⊎ ((w.is_greeted ≡ true) × ((x : Item) × (f ≡ data_frame x) × (left ≡ x ∷ messages_in w.script))))

-- the frame in a room, where one comes
abbrev pub offered : Bool → Frame → Option Frame
offered comes frame = if comes then Some frame else None

abbrev pub arrival_in : Option Frame → Arrival
arrival_in None = Nothing
arrival_in (Some f) = Came f
