-- The high racer between two looks.
use Rattle.std.specs.Prelude.{◌≡◌, ℕ, ◌+◌, ◌*◌, ◌^◌, ◌<◌, ◌≤◌, Bool, true, false, nat_le, if◌then◌else◌, List, [], ◌∷◌}
use Rattle.std.specs.Prelude.{◌++◌, length, map, Option, Some, None}
use Rattle.std.specs.List.{All}
use Rattle.atomic_table.specs.Seated.{TableId}
use Rattle.pump_frame.specs.declared.frame.Frame.{Frame}
use Rattle.pump_frame.specs.declared.frame.Item.{Item}
use Rattle.pump_frame.specs.declared.frame.Kind.TheVariants.{Taken}
use Rattle.disk_model.specs.Plain.{Plain, plain_meaning}
use Rattle.stable_buffer.specs.Stands.{HighStands}
use Rattle.stable_buffer.specs.Log.{RecvStands}
use Rattle.stable_buffer.specs.High.{IsHighReady, high_disk, high_count}
use Rattle.pump_core.specs.Passage.{Low, High, Shape, new_low}
use Rattle.pump_core.specs.Sendings.{Sending}
use Rattle.high_process.specs.Past.{ProcessPast}
use Rattle.high_process.specs.States.{row_of, is_down, removed_of}
use Rattle.high_process.specs.Ends.{StandsFitting}
use Rattle.high_process.specs.Looks.{StandsFor}
use Rattle.high_receiver.specs.Receiving.{IsRecvReady, recv_disk, recv_count, recv_end, recv_row, recv_size}
use Rattle.high_receiver.specs.declared.receiver.Receiver.{Receiver}
use Rattle.script_reader.specs.Generated.{generated_row}
use Rattle.race.specs.Turns.{turns, CanTurn, payload_in}
use Rattle.race.specs.declared.high.HighRacer.{HighRacer}

-- the receiver is given the message in the hand, unless it is longer than the row's messages
abbrev pub comes_to_receiver : Option Item → Bool
comes_to_receiver None = false
comes_to_receiver (Some x) = nat_le (length x.payload) generated_row.message

-- so many bytes hold the records of so many messages: each has at most 64 bytes, and two for its length
abbrev pub receiver_room : ℕ → ℕ
receiver_room count = 80 + 66 * count

-- the receiver has these messages, and room for so many in all; its disk is in memory and cannot fail
pub record HasReceived (receiver : Receiver Plain) (count : ℕ) (received : List (List ℕ)) : Type 0 where
  pub ready : IsRecvReady plain_meaning receiver
  pub row : recv_row receiver ≡ generated_row
  pub count_is : recv_count receiver ≡ length received
  pub stands : RecvStands generated_row received (recv_disk receiver).bytes
  pub end : recv_end receiver ≤ receiver_room (length received)
  pub size : receiver_room count ≤ recv_size receiver
  pub calm : (recv_disk receiver).armed ≡ false
  pub room : recv_size receiver ≤ (recv_disk receiver).room

-- all these sendings are of messages before this one
abbrev pub SentBelow : ℕ → List Sending → Type 0
SentBelow n sends = All (λ s. s.number < n) sends

-- The hand has this message: it is numbered `removed`, the end gave it after those in `before`, and it
-- was sent once, at this moment.
pub record IsNext (before : List Item) (removed : ℕ) (sends : List Sending) (taken : List Item) (moment : ℕ) (x : Item)
    : Type 0 where
  pub number : x.number ≡ removed
  pub given : Item
  pub taken_is : taken ≡ before ++ given ∷ []
  pub payload : given.payload ≡ x.payload
  pub older : List Sending
  pub sends_are : sends ≡ record { number = removed; moment = moment } ∷ older
  pub older_below : SentBelow removed older

-- what the hand has: nothing, where the end gave only those in `before`; else the message after them
abbrev pub HandAt : List Item → ℕ → List Sending → List Item → ℕ → Option Item → Type 0
HandAt before removed sends taken moment None = (taken ≡ before) × SentBelow removed sends
HandAt before removed sends taken moment (Some x) = IsNext before removed sends taken moment x

-- a TAKEN of the session; its number is set for each message
abbrev pub IsAnswer : Frame → Type 0
IsAnswer f = (f.kind ≡ Taken) × (f.session ≡ generated_row.id)

-- The high racer between two looks. The receiver has the messages that are removed and, where `has_taken`
-- holds, the one in the hand.
pub record HighAt {H : Type 0} (stands : H → Low → High → Type 0) (has_taken : Bool) (w : HighRacer H) : Type 0 where
  pub turn : CanTurn w.times.items w.count
  pub answer : IsAnswer w.answer
  -- what its end did, beside a low end that did nothing; the process and its past
  pub high : High
  pub past : ProcessPast
  pub fitting : StandsFitting (stands w.half.ends) w.half.process new_low high
  pub is_past : StandsFor w.half.process past
  pub up : is_down w.half.process ≡ false
  pub row : row_of w.half.process ≡ generated_row
  -- its moment
  pub order : past.moment ≤ w.moment
  pub bound : w.moment ≤ past.removed * 10 ^ 9
  -- its store, whose disk is in memory and cannot fail
  pub few : past.removed ≤ w.count
  pub ready : IsHighReady plain_meaning w.half.store
  pub count : high_count w.half.store ≡ past.removed
  pub disk : HighStands generated_row past.removed (high_disk w.half.store).bytes
  pub calm : (high_disk w.half.store).armed ≡ false
  pub room : 80 ≤ (high_disk w.half.store).room
  -- the messages that are removed, and the hand
  pub before : List Item
  pub removed_are : length before ≡ past.removed
  pub hand : HandAt before past.removed past.sends high.taken w.moment past.hand
  -- the times that were published
  pub times_are : high.times ≡ turns w.times.items past.removed
  pub past_times : past.times ≡ high.times
  -- the messages of the receiver
  pub received : List (List ℕ)
  pub recv : HasReceived w.receiver w.count received
  pub received_are : received ≡ map payload_in (if has_taken then high.taken else before)
  pub hand_taken : has_taken ≡ true → (past.removed < w.count) × ((x : Item) × (past.hand ≡ Some x))

-- before its first look: no message is removed
pub record HighBegins {H : Type 0} (stands : H → Low → High → Type 0) (w : HighRacer H) : Type 0 where
  pub at : HighAt stands false w
  pub none_removed : removed_of w.half.process ≡ 0

-- what looks leave as it is: whose end it has, how many messages there are, and the times that they need
pub record HighStays {H : Type 0} (place : H → List TableId) (shape : H → Shape) (before after : HighRacer H) : Type 0
  where
    pub place_is : place after.half.ends ≡ place before.half.ends
    pub shape_is : shape after.half.ends ≡ shape before.half.ends
    pub count : after.count ≡ before.count
    pub times : after.times ≡ before.times
