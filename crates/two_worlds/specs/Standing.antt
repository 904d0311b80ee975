-- What the parts of a pump stand for between two lines of a script.
use Rattle.std.specs.Prelude.{◌≡◌, ℕ, ◌≤◌, Bool, false, ◌||◌, not, List, map, length, drop, slice_get, Option, Some}
use Rattle.std.specs.Prelude.{None}
use Rattle.std.specs.List.{All, AllByRecursion}
use Rattle.circular_buffer.specs.Buffer.{keep_last}
use Rattle.disk_model.specs.Disk.{Meaning}
use Rattle.disk_model.specs.declared.name.Role.{Role}
use Rattle.disk_model.specs.declared.name.Role.TheVariants as roles
use Rattle.pump_frame.specs.Rows.{IsLawfulRow}
use Rattle.pump_frame.specs.declared.row.SessionRow.{SessionRow}
use Rattle.pump_frame.specs.declared.payload.Payload.{Payload}
use Rattle.pump_frame.specs.declared.frame.Item.{Item}
use Rattle.stable_buffer.specs.Low.{low_disk}
use Rattle.stable_buffer.specs.High.{IsHighReady, high_count, high_disk}
use Rattle.high_receiver.specs.Receiving.{IsRecvReady, recv_count, recv_end, recv_row, recv_size, recv_disk}
use Rattle.high_receiver.specs.Receiving.{recv_is_open}
use Rattle.pump_core.specs.History.{History}
use Rattle.pump_core.specs.World.{World}
use Rattle.pump_core.specs.Lawful.{IsLawful}
use Rattle.pump_core.specs.Passage.{Low, High, shape_of_row}
use Rattle.passage.specs.Plain.{shape_of, held_in, StandsFor as EndsStand}
use Rattle.low_process.specs.Looks as low
use Rattle.low_process.specs.Ends as low_ends
use Rattle.low_process.specs.Whole.{IsStoreOf}
use Rattle.high_process.specs.States as high
use Rattle.high_process.specs.Past as high_past
use Rattle.high_process.specs.Looks.{StandsFor as HighStandsFor}
use Rattle.high_process.specs.Ends as high_ends
pub use Rattle.recovery.specs.Deals.{number_of}
use Rattle.script_reader.specs.Past.{Past}
use Rattle.script_reader.specs.Highs.{log_end, receiver_size}
use Rattle.world_laws.specs.Answered.{HasAnswered}
use Rattle.two_worlds.specs.Connections.{waits_of, is_broken_of, reading_of}
use Rattle.world_laws.specs.Disks.{DisksFit}
use Rattle.world_laws.specs.Timelines.{IsAtRest}
use Rattle.two_worlds.specs.declared.pump.parts.Parts.{Parts}
use Rattle.two_worlds.specs.declared.pump.state.BareDisks.{BareDisks}

-- ---- the world ----

-- the item has the payload of the accepted message of its number
abbrev pub IsAccepted : List Payload → Item → Type 0
IsAccepted accepted item = slice_get accepted item.number ≡ Some item.payload

abbrev pub IsAcceptedHand : List Payload → Option Item → Type 0
IsAcceptedHand accepted None = Unit {0}
IsAcceptedHand accepted (Some item) = IsAccepted accepted item

-- what a pump keeps of the world
pub record Kept : Type 0 where
  pub capacity : ℕ
  pub low_hand : Option Item
  pub held : List Item
  pub high_hand : Option Item
  pub removed : ℕ
  pub accepted : ℕ
  -- how many messages the receiver has, and where their records end
  pub received : ℕ
  pub end : ℕ
  -- the packets that were sent last. So many TAKEN were sent before the session began
  pub sent : List Item
  pub returned_before : ℕ
  pub returned : List ℕ

abbrev pub kept_of : {D : Type 0} → ℕ → Parts D → Kept
kept_of returned_before c = record {
  capacity = c.row.capacity;
  low_hand = low.hand_of c.low;
  held = held_in c.ends;
  high_hand = high.hand_of c.high;
  removed = high.removed_of c.high;
  accepted = low.next_of c.low;
  received = recv_count c.receiver;
  end = recv_end c.receiver;
  sent = c.sent.items;
  returned_before = returned_before;
  returned = c.returned.items;
}

-- this is what is kept of the world
pub record HoldsWorld (k : Kept) (w : World) : Type 0 where
  pub capacity : w.capacity ≡ k.capacity
  pub low_hand : w.low_hand ≡ number_of k.low_hand
  pub low_payload : IsAcceptedHand w.accepted k.low_hand
  pub held : w.held ≡ map (λ (x : Item). x.number) k.held
  pub held_payloads : AllByRecursion (IsAccepted w.accepted) k.held
  pub high_hand : w.high_hand ≡ number_of k.high_hand
  pub high_payload : IsAcceptedHand w.accepted k.high_hand
  pub removed : w.removed ≡ k.removed
  pub accepted : length w.accepted ≡ k.accepted
  pub received : length w.received ≡ k.received
  pub end : log_end w.received ≡ k.end
  pub sent : k.sent ≡ keep_last 64 w.sent
  pub returned : (k.returned_before ≤ length w.returned)
      × (k.returned ≡ keep_last 64 (drop k.returned_before w.returned))

-- ---- the parts ----

-- the low process is up, stands for this history, and has its store
pub record LowIsReady {D : Type 0} (m : Meaning D) (c : Parts D) (h : History) : Type 0 where
  pub history : low.StandsFor c.low h
  pub store : IsStoreOf m c.low c.low_store
  pub up : low.is_down c.low ≡ false
  pub between : low.IsBetweenLooks c.low
  pub row : low.row_of c.low ≡ c.row
  pub last : low.last_of c.low ≤ c.moment

-- what the high process has been through, by what the session has
abbrev pub high_past_of : {D : Type 0} → Parts D → Past → high_past.ProcessPast
high_past_of c p = record {
  removed = high.removed_of c.high;
  hand = high.hand_of c.high;
  sends = p.sends;
  times = p.times;
  moment = high.last_of c.high;
}

-- the high process is up, has been through this, and has its store
pub record HighIsReady {D : Type 0} (m : Meaning D) (c : Parts D) (u : high_past.ProcessPast) : Type 0 where
  pub past : HighStandsFor c.high u
  pub store : IsHighReady m c.high_store
  pub count : high_count c.high_store ≡ high.removed_of c.high
  pub up : high.is_down c.high ≡ false
  pub between : high.IsBetweenLooks c.high
  pub row : high.row_of c.high ≡ c.row
  pub last : high.last_of c.high ≤ c.moment

-- the receiver is open
pub record RecvIsReady {D : Type 0} (m : Meaning D) (c : Parts D) : Type 0 where
  pub ready : IsRecvReady m c.receiver
  pub row : recv_row c.receiver ≡ c.row
  pub size : recv_size c.receiver ≡ receiver_size

-- the two ends of the passage published these times, and each fits its process
pub record EndsAreReady {D : Type 0} (c : Parts D) (published : List ℕ) : Type 0 where
  pub low : Low
  pub high : High
  pub stand : EndsStand c.ends low high
  pub shape : shape_of c.ends ≡ shape_of_row c.row
  pub times : high.times ≡ published
  pub low_fits : low_ends.FitsEnd c.low low
  pub high_fits : high_ends.FitsEnd c.high high

-- what was sent last is kept, 64 packets in each direction, and a frame of the session is at hand
pub record KeepsPackets {D : Type 0} (c : Parts D) : Type 0 where
  pub sent : c.sent.capacity ≡ 64
  pub returned : c.returned.capacity ≡ 64
  pub taken : c.taken.value.session ≡ c.row.id

-- what waits on the connection is kept, at most 64 arrivals, and how far its bytes were read
pub record KeepsArrivals {D : Type 0} (c : Parts D) (p : Past) : Type 0 where
  pub waits : waits_of c.connection ≡ p.waits
  pub broken : is_broken_of c.connection ≡ p.is_broken
  pub reading : reading_of c.connection ≡ p.reading
  pub few : length p.waits ≤ 64

-- what a session has been through is lawful, with no step half done
pub record IsSound (row : SessionRow) (p : Past) : Type 0 where
  pub rest : IsAtRest p.world
  pub lawful : IsLawful p.world
  -- no accepted message is longer than the row's messages
  pub fits : All (λ (x : Payload). length x ≤ row.message) p.world.accepted
  -- each sending since the opening sent a packet
  pub sends : length p.sends ≤ length p.world.sent
  -- the TAKEN of the last message that the receiver took was sent
  pub answered : HasAnswered p.world

-- the parts stand for what the session has been through
pub record Stands {D : Type 0} (m : Meaning D) (c : Parts D) (p : Past) : Type 0 where
  pub row : IsLawfulRow c.row
  pub moment : c.moment ≡ p.moment
  pub sound : IsSound c.row p
  pub world : HoldsWorld (kept_of p.returned_before c) p.world
  pub arrivals : KeepsArrivals c p
  pub low_ready : LowIsReady m c p.history
  pub high_ready : HighIsReady m c (high_past_of c p)
  pub recv_ready : RecvIsReady m c
  pub ends : EndsAreReady c p.times
  pub packets : KeepsPackets c
  pub disks : DisksFit m c.row (low_disk c.low_store) (high_disk c.high_store) (recv_disk c.receiver) p.world

abbrev pub StandsForSome : {D : Type 0} → Meaning D → Parts D → Type 0
StandsForSome m c = (p : Past) × Stands m c p

-- a call of a disk failed
abbrev pub is_down : {D : Type 0} → Parts D → Bool
is_down c = low.is_down c.low || high.is_down c.high || not (recv_is_open c.receiver)

-- the disks of the parts, bare
abbrev pub bare_of : {D : Type 0} → Parts D → BareDisks D
bare_of c = record {
  row = c.row;
  low = low_disk c.low_store;
  high = high_disk c.high_store;
  recv = recv_disk
      c.receiver;
}

abbrev pub bare_disk : {D : Type 0} → Role → BareDisks D → D
bare_disk roles.Low d = d.low
bare_disk roles.High d = d.high
bare_disk roles.Recv d = d.recv

abbrev pub disk_at : {D : Type 0} → Role → Parts D → D
disk_at role c = bare_disk role (bare_of c)
