-- A high look of a session, and a packet that is carried to the receiver.
use Rattle.std.specs.Prelude.{◌≡◌, ℕ, ◌+◌, ◌-◌, Bool, true, false, ◌&&◌, ◌==◌, nat_lt, nat_le, if◌then◌else◌, List, []}
use Rattle.std.specs.Prelude.{◌∷◌, ◌++◌, length, slice_get, zero, suc, Option, Some, None}
use Rattle.pump_frame.specs.declared.payload.Payload.{Payload}
use Rattle.pump_frame.specs.declared.frame.Item.{Item}
use Rattle.pump_frame.specs.declared.row.SessionRow.{SessionRow}
use Rattle.pump_core.specs.declared.event.Event.TheVariants.{CarryData, TakeBegin, TakeEnd}
use Rattle.pump_core.specs.World.{World}
pub use Rattle.stable_buffer.specs.Format.{receiver_size}
use Rattle.pump_core.specs.Events.{Happens}
use Rattle.pump_core.specs.HighLooks.{Perhaps, has_removed, RemovalPart, SendingPart}
use Rattle.pump_core.specs.Sendings.{expected}
use Rattle.script_reader.specs.declared.event.Event.{Event}
use Rattle.script_reader.specs.declared.event.Event.TheVariants.{Removed, Sent, Took, Again}
use Rattle.script_reader.specs.Past.{Past, high_of}

-- ---- a removal and its time ----

abbrev pub printed_removal : ℕ → ℕ → World → World → Option ℕ → List Event
printed_removal session m w v time = if has_removed w v then Removed session m w.removed time ∷ [] else []

-- the first part of a high look at m: a TAKEN comes back, the message in the hand is removed where
-- that is due, and its time is published
pub record IsRemoval (row : SessionRow) (p : Past) (m : ℕ) (back : Option ℕ) (q : Past) (printed : List Event) : Type 0
  where
    pub look : RemovalPart (high_of p) m back (high_of q)
    pub rest : q ≡ record p { world = q.world; times = q.times }
    pub printed_is : printed ≡ printed_removal row.id m look.answered q.world look.time

-- ---- a sending ----

abbrev pub printed_sending : ℕ → ℕ → Option ℕ → List Event
printed_sending session m None = []
printed_sending session m (Some n) = Sent session m n ∷ []

-- the second part of a high look at m: an empty hand takes up the next message, and the message in
-- the hand is sent where it is due, and in any case where a receiver attaches
pub record IsSending (row : SessionRow) (attaches : Bool) (p : Past) (m : ℕ) (q : Past) (printed : List Event) : Type 0
  where
    pub look : SendingPart row.resend attaches (high_of p) m (high_of q)
    pub rest : q ≡ record p { world = q.world; sends = q.sends; moment = m }
    pub printed_is : printed ≡ (if look.is_sent then printed_sending row.id m look.taken.high_hand else [])

-- a high look at m leads from p to q and prints this; a receiver attaches in it or none does, and `back`
-- is the place of the TAKEN that comes back
abbrev pub IsWholeLook : SessionRow → Bool → Past → ℕ → Option ℕ → Past → List Event → Type 0
IsWholeLook row attaches p m back q printed =
    (mid : Past) × (first : List Event) × (second : List Event)
    × IsRemoval row p m back mid first × IsSending row attaches mid m q second × (printed ≡ first ++ second)

-- .. in which none attaches
abbrev pub IsHighLook : SessionRow → Past → ℕ → Option ℕ → Past → List Event → Type 0
IsHighLook row p m back q printed = IsWholeLook row false p m back q printed

-- ---- a TAKEN that comes back ----

abbrev pub is_not_below : ℕ → Option ℕ → Bool
is_not_below n None = false
is_not_below n (Some number) = nat_le n number

-- the TAKEN at this place is of a message that was not sent
abbrev pub is_ahead : World → ℕ → Bool
is_ahead w k = is_not_below (expected w.removed w.high_hand) (slice_get w.returned k)

-- such a TAKEN is refused, and its look does nothing; any other comes back in a high look
abbrev pub IsReturnBy : Bool → SessionRow → Bool → Past → ℕ → ℕ → Past → List Event → Type 0
IsReturnBy true row attaches p m k q printed = (q ≡ record p { moment = m }) × (printed ≡ [])
IsReturnBy false row attaches p m k q printed = IsWholeLook row attaches p m (Some k) q printed

-- a high look at m, in which the TAKEN at this place comes back
abbrev pub IsReturn : SessionRow → Past → ℕ → ℕ → Past → List Event → Type 0
IsReturn row p m k q printed = IsReturnBy (is_ahead p.world k) row false p m k q printed

-- ---- a receiver that attaches ----

-- a high look at m with the ATTACH of a receiver that has so many messages: it brings back the TAKEN of
-- the last of them, and what is then in the hand is sent
abbrev pub IsAttach : SessionRow → Past → ℕ → ℕ → Past → List Event → Type 0
IsAttach row p m zero q printed = IsWholeLook row true p m None q printed
IsAttach row p m (suc n) q printed =
    (k : ℕ) × (slice_get p.world.returned k ≡ Some n)
    × IsReturnBy (is_ahead p.world k) row true p m k q printed

-- ---- a packet that is carried ----

-- the place of the packet that was sent `back` packets before the last one
abbrev pub place : {X : Type 0} → List X → ℕ → ℕ
place packets back = length packets - 1 - back

-- whether the receiver had the message already
abbrev pub printed_carry : ℕ → World → Item → Event
printed_carry session w d = if nat_lt d.number (length w.received) then Again session d.number else Took session
    d.number

-- where the receiver's records end: each is a length of two bytes and a message, from byte 80 on
abbrev pub log_end : List Payload → ℕ
log_end [] = 80
log_end (message ∷ messages) = 2 + length message + log_end messages

-- the packet is the receiver's next message, and does not fit behind its records
abbrev pub overfills : World → Item → Bool
overfills w d = d.number == length w.received && nat_lt receiver_size (log_end w.received + 2 + length d.payload)

-- the DATA `back` places before the last one does not fit at the receiver
pub record IsOverfull (w : World) (back end size_of_message size : ℕ) : Type 0 where
  pub packet : Item
  pub at : slice_get w.sent (place w.sent back) ≡ Some packet
  pub over : overfills w packet ≡ true
  pub end_is : end ≡ log_end w.received
  pub length_is : size_of_message ≡ length packet.payload
  pub size_is : size ≡ receiver_size

-- the DATA `back` places before the last one is carried, and taken where it is the receiver's next
pub record IsCarried (row : SessionRow) (p : Past) (back : ℕ) (q : Past) (printed : List Event) : Type 0 where
  pub packet : Item
  pub at : slice_get p.world.sent (place p.world.sent back) ≡ Some packet
  pub fits : overfills p.world packet ≡ false
  pub carried : World
  pub carries : Happens p.world (CarryData (place p.world.sent back)) carried
  pub takes : Perhaps carried TakeBegin (TakeEnd ∷ []) q.world
  pub rest : q ≡ record p { world = q.world }
  pub printed_is : printed ≡ printed_carry row.id p.world packet ∷ []
