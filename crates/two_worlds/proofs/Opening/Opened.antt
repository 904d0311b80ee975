-- Parts that have just been opened stand for a session that begins, or begins again, in the world that
-- their disks stand for.
use Rattle.std.proofs.Common.{◌≡◌, inl, ℕ, zero, suc, ◌+◌, ◌-◌, ◌≤◌, ◌==◌, Bool, true, false, List, [], ◌∷◌, length, map, take, drop, slice_get, Option, Some, None, refl, sym, ap, ◌∙◌, subst, arith, length-drop}
use Rattle.std.specs.Prelude.{is_some, if◌then◌else◌}
use Rattle.std.specs.List.{All, AllByRecursion}
use Rattle.std.specs.Cmp.{both_ways}
use Rattle.std.proofs.lemmas.Bool.{eqb-true, eq-eqb}
use Rattle.std.proofs.lemmas.List.{length-take-le}
use Rattle.std.proofs.lemmas.List.Elements.{All-head, All-tail, All-take, All-drop}
use Rattle.circular_buffer.specs.Buffer.{keep_last}
use Rattle.circular_buffer.proofs.Places.{slice_get-drop}
use Rattle.disk_model.specs.Disk.{Meaning}
use Rattle.disk_model.proofs.Run.{each_settled}
use Rattle.pump_frame.specs.Readings.{Within}
use Rattle.pump_frame.specs.declared.payload.Payload.{Payload}
use Rattle.pump_frame.specs.declared.row.SessionRow.{SessionRow}
use Rattle.pump_frame.specs.declared.frame.Item.{Item}
use Rattle.stable_buffer.specs.Low.{low_disk, low_count}
use Rattle.stable_buffer.specs.High.{high_disk, high_count}
use Rattle.stable_buffer.specs.Stands.{LowStands, HighStands}
use Rattle.stable_buffer.specs.Log.{RecvStands, Records, log_of}
use Rattle.stable_buffer.specs.Register.{value_of, Selects, cell_at, place_of}
use Rattle.high_receiver.specs.Receiving.{recv_disk, recv_count, recv_end}
use Rattle.pump_core.specs.History.{History, Opening}
use Rattle.pump_core.specs.Passage.{new_low, new_high, ComesNext}
use Rattle.pump_core.specs.Standing.{KeepsExchanges}
use Rattle.pump_core.specs.Timed.{opening_in}
use Rattle.pump_core.specs.World.{World, refilled, live}
use Rattle.pump_core.specs.Lawful.{IsLawful}
use Rattle.passage.specs.Plain.{held_in}
use Rattle.low_process.specs.Looks as low
use Rattle.low_process.specs.Ends as low_ends
use Rattle.low_process.specs.declared.process.LowProcess.{LowProcess}
use Rattle.high_process.specs.States as high
use Rattle.high_process.specs.Past as high_past
use Rattle.high_process.specs.Looks.{StandsFor as HighStandsFor}
use Rattle.recovery.specs.Deals.{number_of, numbered, passing, InHands, HandsFit}
use Rattle.recovery.specs.Refills.{numbers_in, AreRefilled}
use Rattle.recovery.proofs.Readings.{low_tells}
use Rattle.recovery.proofs.Refill.{refills, hands_fit, passing_next, all_dealt_out}
use Rattle.script_reader.proofs.Opened.{row_capacity}
use Rattle.script_reader.specs.Past.{Past}
use Rattle.script_reader.specs.Highs.{log_end}
use Rattle.two_worlds.specs.declared.pump.parts.Parts.{Parts}
use Rattle.world_laws.specs.Answered.{HasAnswered}
use Rattle.two_worlds.specs.Connections.{Connected, waits_of, is_broken_of, reading_of}
use Rattle.world_laws.specs.Disks.{LowFits, HighFits, RecvFits, live_messages}
use Rattle.two_worlds.specs.Standing.{Stands, HoldsWorld, EndsAreReady, IsAccepted, IsAcceptedHand, kept_of}
use Rattle.two_worlds.specs.Working.{Works, IsShort, IsShortHand, IsPacket}
use Rattle.two_worlds.specs.Private.Opened.{AreOpened}

-- ---- the messages that are dealt out ----

prefix_of : (acc : List Payload) (b : ℕ) (m : Payload) (ms : List Payload) → m ∷ ms ≡ drop b acc → slice_get acc b ≡ Some m
prefix_of acc b m ms is = sym (slice_get-drop b acc 0 b (omega arith)) ∙ ap (λ (l : List Payload). slice_get l 0) (sym is)

rest_of : (acc : List Payload) (b : ℕ) (m : Payload) (ms : List Payload) → m ∷ ms ≡ drop b acc → ms ≡ drop (b + 1) acc
rest_of [] zero m ms is = absurd (cc)
rest_of [] (suc b) m ms is = absurd (cc)
rest_of (x ∷ acc) zero m ms is = ap (drop 1) is
rest_of (x ∷ acc) (suc b) m ms is = let e : suc (b + 1) ≡ suc b + 1 = omega arith in rest_of acc b m ms is ∙ ap (λ (k : ℕ). drop k (x ∷ acc)) e

-- each item has the accepted message of its number
all_accepted : (acc : List Payload) (b : ℕ) (ms : List Payload) → ms ≡ drop b acc → AllByRecursion (IsAccepted acc) (numbered b ms)
all_accepted acc b [] is = tt
all_accepted acc b (m ∷ ms) is = (prefix_of acc b m ms is, all_accepted acc (b + 1) ms (rest_of acc b m ms is))

hand_accepted : (acc : List Payload) (xs : List Item) (k : ℕ) → AllByRecursion (IsAccepted acc) xs → IsAcceptedHand acc (slice_get xs k)
hand_accepted acc [] k all = tt
hand_accepted acc (x ∷ xs) zero all = all.0
hand_accepted acc (x ∷ xs) (suc k) all = hand_accepted acc xs k all.1

taken_accepted : (acc : List Payload) (k : ℕ) (xs : List Item) → AllByRecursion (IsAccepted acc) xs → AllByRecursion (IsAccepted acc) (take k xs)
taken_accepted acc zero xs all = tt
taken_accepted acc (suc k) [] all = tt
taken_accepted acc (suc k) (x ∷ xs) all = (all.0, taken_accepted acc k xs all.1)

passing_accepted : (acc : List Payload) (n : ℕ) (xs : List Item) → AllByRecursion (IsAccepted acc) xs → AllByRecursion (IsAccepted acc) (passing n xs)
passing_accepted acc n [] all = taken_accepted acc (n - 2) [] tt
passing_accepted acc n (x ∷ xs) all = taken_accepted acc (n - 2) xs all.1

numbers_are : (xs : List Item) → numbers_in xs ≡ map (λ (x : Item). x.number) xs
numbers_are [] = refl
numbers_are (x ∷ xs) = ap (λ (l : List ℕ). x.number ∷ l) (numbers_are xs)

-- ---- hands ----

some_number : (hand : Option Item) → is_some (number_of hand) ≡ is_some hand
some_number None = refl
some_number (Some x) = refl

some_if : (b : Bool) (n : ℕ) → is_some (if b then Some n else None) ≡ b
some_if true n = refl
some_if false n = refl

abbrev number_in : Option ℕ → ℕ
number_in None = 0
number_in (Some n) = n

-- the number that the low process offers, by whether its hand is full
offered : (hand : Option Item) (b : Bool) (n next : ℕ) → number_of hand ≡ (if b then Some n else None) → low_ends.number_offered next hand ≡ (if b then n else next)
offered None true n next is = absurd (cc)
offered None false n next is = refl
offered (Some x) true n next is = ap number_in is
offered (Some x) false n next is = absurd (cc)

all_places : (e b n : ℕ) → b ≤ e → (e == b + n) ≡ (e - b == n)
all_places e b n le = both_ways _ _ (λ t. let q = eqb-true e (b + n) t in eq-eqb (e - b) n (omega (arith, q))) (λ t. let q = eqb-true (e - b) n t in eq-eqb e (b + n) (omega (arith, q, le)))

-- ---- what the disks stand for ----

pub value_by : (parity first second : ℕ) (disk : List ℕ) → Selects parity first second disk → value_of disk ≡ (first, second)
value_by parity first second disk s = ap (λ k. cell_at disk (place_of k)) s.selector ∙ s.cell

-- records end where their lengths say
records_end : (most : ℕ) (ms : List Payload) (bytes : List ℕ) → Records most ms bytes → 80 + length bytes ≡ log_end ms
records_end most [] bytes none = omega (arith, none)
records_end most (x ∷ ms) bytes (fits, is, small, same, rest) =
    let k = 2 + length x in
    let later = records_end most ms (drop k bytes) rest in
    omega (arith, later, length-drop k bytes, fits)

pub received_end : (row : SessionRow) (ms : List Payload) (disk : List ℕ) → RecvStands row ms disk → (value_of disk).1 ≡ log_end ms
received_end row ms disk s =
    let size : length (log_of s.end disk) ≡ s.end - 80 = length-take-le (s.end - 80) (drop 80 disk) (omega (arith, length-drop 80 disk, s.within, s.from)) in
    let all = records_end row.message ms (log_of s.end disk) s.records in
    ap (λ (v : ℕ × ℕ). v.1) s.value ∙ omega (arith, all, size, s.from)

-- ---- the parts work, whatever their disks tell ----

hand_short : (row : SessionRow) (xs : List Item) (k : ℕ) → All (IsShort row) xs → IsShortHand row (slice_get xs k)
hand_short row [] k all = tt
hand_short row (x ∷ xs) zero all = All-head (IsShort row) x xs all
hand_short row (x ∷ xs) (suc k) all = hand_short row xs k (All-tail (IsShort row) x xs all)

module _ {D : Type 0} (m : Meaning D) (c : Parts D) (lives : Opening → History) (n : AreOpened m c lives) where
  abbrev dealt : List Item
  dealt = numbered (high_count c.high_store) n.messages

  enough : 3 ≤ c.row.capacity
  enough = (row_capacity c.row n.row).0

  hands_are : HandsFit c.row.capacity (high_count c.high_store) (low_count c.low_store) (high.hand_of c.high) (low.hand_of c.low)
  hands_are = hands_fit c.row.capacity (high_count c.high_store) (low_count c.low_store) n.messages (high.hand_of c.high) (low.hand_of c.low) enough n.count n.places n.hands

  next_fits : ComesNext (passing c.row.capacity dealt) (low_ends.number_offered (low.next_of c.low) (low.hand_of c.low))
  next_fits =
      let e = low_count c.low_store in
      let b = e == high_count c.high_store + c.row.capacity in
      let is : low_ends.number_offered (low.next_of c.low) (low.hand_of c.low) ≡ (if b then e - 1 else e) =
      offered (low.hand_of c.low) b (e - 1) (low.next_of c.low) hands_are.last ∙ ap (λ (k : ℕ). if b then e - 1 else k) n.next in
      passing_next c.row.capacity (high_count c.high_store) e _ n.messages enough n.count n.places is

  ends_are_ready : EndsAreReady c []
  ends_are_ready = record {
    low = record new_low { forwarded = passing c.row.capacity dealt };
    high = new_high;
    stand = n.ends;
    shape = n.shape;
    times = refl;
    low_fits = λ up. next_fits;
    high_fits = record { count = sym n.published; floor = omega arith };
  }

  all_short : All (IsShort c.row) dealt
  all_short = all_dealt_out (λ message. length message ≤ c.row.message) (high_count c.high_store) n.messages n.short

  pub works : All (IsPacket c.row) c.sent.items → Works m c
  works sent = record {
    row = n.row;
    history = lives (low.opening_of (low_count c.low_store) (low.hand_of c.low));
    past = high_past.fresh (high_count c.high_store) (high.hand_of c.high);
    times = [];
    low_ready = record {
      history = n.history;
      store = record { ready = n.low_ready; count = sym n.next; row = n.store_row ∙ sym n.low_row_is };
      up = n.low_up;
      between = n.low_between;
      row = n.low_row_is;
      last = omega (arith, n.low_last);
    };
    high_ready = record {
      past = n.past;
      store = n.high_ready;
      count = sym n.removed;
      up = n.high_up;
      between = n.high_between;
      row = n.high_row;
      last = omega (arith, n.high_last);
    };
    recv_ready = record { ready = n.recv_ready; row = n.recv_row_is; size = n.recv_size_is };
    ends = ends_are_ready;
    packets = n.packets;
    short = record {
      low_hand = subst (IsShortHand c.row) (sym n.hands.last) (hand_short c.row dealt (c.row.capacity - 1) all_short);
      held = subst (All (IsShort c.row)) n.ends.between (All-take (IsShort c.row) (c.row.capacity - 2) (drop 1 dealt) (All-drop (IsShort c.row) 1 dealt all_short));
      high_hand = subst (IsShortHand c.row) (sym n.hands.first) (hand_short c.row dealt 0 all_short);
      sent = sent;
    };
  }

-- ---- the parts stand ----

-- The world v is one at an opening but for the hands, which the opening fills. This is what of it the
-- disks stand for, and what is kept of its packets.
pub record OpensIn {D : Type 0} (m : Meaning D) (c : Parts D) (v : World) (returned_before : ℕ) : Type 0 where
  pub lawful : IsLawful (refilled v)
  pub capacity : v.capacity ≡ c.row.capacity
  pub packet : v.packet ≡ None
  pub taking : v.taking ≡ false
  pub fits : All (λ (x : Payload). length x ≤ c.row.message) v.accepted
  pub answered : HasAnswered v
  pub low_is : LowStands c.row (length v.accepted) v.removed (live_messages v) (m.reading (low_disk c.low_store))
  pub high_is : HighStands c.row v.removed (m.reading (high_disk c.high_store))
  pub recv_is : RecvStands c.row v.received (m.reading (recv_disk c.receiver))
  pub sent : c.sent.items ≡ keep_last 64 v.sent
  pub returned : (returned_before ≤ length v.returned) × (c.returned.items ≡ keep_last 64 (drop returned_before v.returned))

module _ {D : Type 0} (m : Meaning D) (told : m.tells) (c : Parts D) (lives : Opening → History) (v : World) (returned_before : ℕ) (n : AreOpened m c lives) (o : OpensIn m c v returned_before) where
  abbrev w : World
  w = refilled v

  abbrev E : ℕ
  E = low_count c.low_store

  abbrev B : ℕ
  B = high_count c.high_store

  -- the past of a session that begins so
  abbrev pub past : Past
  past = record {
    history = lives (opening_in (refilled v));
    waits = [];
    is_broken = false;
    reading = Within [];
    world = refilled v;
    returned_before = returned_before;
    times = [];
    sends = [];
    moment = c.moment;
  }

  accepted_is : length v.accepted ≡ E
  accepted_is = ap (λ (t : ℕ × ℕ). t.0) (sym o.low_is.value ∙ (n.stands told).value)

  removed_is : v.removed ≡ B
  removed_is =
      let each = n.high_ready.ready.each.reading told in
      ap (λ (t : ℕ × ℕ). t.0) (sym o.high_is.value ∙ value_by _ _ _ _ each)

  recv_value : value_of (m.reading (recv_disk c.receiver)) ≡ (recv_count c.receiver, recv_end c.receiver)
  recv_value = value_by _ _ _ _ (n.recv_ready.ready.each.reading told)

  received_is : length v.received ≡ recv_count c.receiver
  received_is = ap (λ (t : ℕ × ℕ). t.0) (sym o.recv_is.value ∙ recv_value)

  end_is : log_end v.received ≡ recv_end c.receiver
  end_is = sym (received_end c.row v.received _ o.recv_is) ∙ ap (λ (t : ℕ × ℕ). t.1) recv_value

  -- the messages that were found are the live ones
  found : n.messages ≡ drop v.removed v.accepted
  found =
      let disk = m.reading (low_disk c.low_store) in
      let s : LowStands c.row E v.removed n.messages disk = subst (λ (b : ℕ). LowStands c.row E b n.messages disk) (sym removed_is) (n.stands told) in
      let t : LowStands c.row E v.removed (drop v.removed v.accepted) disk = subst (λ (e : ℕ). LowStands c.row e v.removed (drop v.removed v.accepted) disk) accepted_is o.low_is in
      let zero_is : v.removed - v.removed ≡ 0 = omega arith in
      low_tells c.row E v.removed v.removed (drop v.removed v.accepted) n.messages disk n.row (omega arith) t s ∙ ap (λ (k : ℕ). drop k (drop v.removed v.accepted)) zero_is

  count : v.removed + length n.messages ≡ length v.accepted
  count = omega (arith, removed_is, accepted_is, n.count)

  abbrev items : List Item
  items = numbered v.removed n.messages

  hands : InHands v.capacity items (high.hand_of c.high) (low.hand_of c.low)
  hands = subst (λ (t : ℕ × ℕ). InHands t.0 (numbered t.1 n.messages) (high.hand_of c.high) (low.hand_of c.low)) (λ i. (sym o.capacity i, sym removed_is i)) n.hands

  between : held_in c.ends ≡ passing v.capacity items
  between = sym n.ends.between ∙ (λ i. passing (sym o.capacity i) (numbered (sym removed_is i) n.messages))

  wide : 3 ≤ v.capacity
  wide = o.lawful.bounded.size.0

  within : length v.accepted ≤ v.removed + v.capacity
  within = o.lawful.bounded.within.above

  fill : AreRefilled v items (high.hand_of c.high) (low.hand_of c.low)
  fill = refills v n.messages (high.hand_of c.high) (low.hand_of c.low) wide count (omega (arith, count, within)) hands

  fit : HandsFit v.capacity v.removed (length v.accepted) (high.hand_of c.high) (low.hand_of c.low)
  fit = hands_fit v.capacity v.removed (length v.accepted) n.messages (high.hand_of c.high) (low.hand_of c.low) wide count within hands

  accepted_items : AllByRecursion (IsAccepted v.accepted) items
  accepted_items = all_accepted v.accepted v.removed n.messages found

  holds : HoldsWorld (kept_of returned_before c) w
  holds = record {
    capacity = o.capacity;
    low_hand = fill.low;
    low_payload = subst (IsAcceptedHand v.accepted) (sym hands.last) (hand_accepted v.accepted items (v.capacity - 1) accepted_items);
    held = fill.held ∙ numbers_are (passing v.capacity items) ∙ ap (map (λ (x : Item). x.number)) (sym between);
    held_payloads = subst (AllByRecursion (IsAccepted v.accepted)) (sym between) (passing_accepted v.accepted v.capacity items accepted_items);
    high_hand = fill.high;
    high_payload = subst (IsAcceptedHand v.accepted) (sym hands.first) (hand_accepted v.accepted items 0 accepted_items);
    removed = removed_is ∙ sym n.removed;
    accepted = accepted_is ∙ sym n.next;
    received = received_is;
    end = end_is;
    sent = o.sent;
    returned = o.returned;
  }

  -- what the low process found is what its world says
  opening_is : low.opening_of E (low.hand_of c.low) ≡ opening_in w
  opening_is =
      let b = length v.accepted == v.removed + v.capacity in
      let held : is_some (low.hand_of c.low) ≡ b = sym (some_number (low.hand_of c.low)) ∙ ap is_some fit.last ∙ some_if b (length v.accepted - 1) in
      let same : b ≡ (live v == v.capacity) = all_places (length v.accepted) v.removed v.capacity o.lawful.bounded.within.below in
      λ i. record { count = sym accepted_is i; is_held = (held ∙ same) i }

  pub stand : Stands m c past
  stand = record {
    row = n.row;
    moment = refl;
    sound = record {
      rest = record { storing = refl; due = refl; removing = refl; packet = o.packet; taking = o.taking };
      lawful = o.lawful;
      fits = o.fits;
      sends = omega arith;
      answered = o.answered;
    };
    world = holds;
    arrivals = record {
      waits = ap (λ (t : Connected). waits_of t) n.connection;
      broken = ap (λ (t : Connected). is_broken_of t) n.connection;
      reading = ap (λ (t : Connected). reading_of t) n.connection;
      few = omega arith;
    };
    low_ready = record {
      history = subst (λ (x : Opening). low.StandsFor c.low (lives x)) opening_is n.history;
      store = record { ready = n.low_ready; count = sym n.next; row = n.store_row ∙ sym n.low_row_is };
      up = n.low_up;
      between = n.low_between;
      row = n.low_row_is;
      last = omega (arith, n.low_last);
    };
    high_ready = record {
      past = subst (λ (t : high_past.ProcessPast). HighStandsFor c.high t)
          (λ i. record { removed = sym n.removed i; hand = high.hand_of c.high; sends = []; times = []; moment = sym n.high_last i }) n.past;
      store = n.high_ready;
      count = sym n.removed;
      up = n.high_up;
      between = n.high_between;
      row = n.high_row;
      last = omega (arith, n.high_last);
    };
    recv_ready = record { ready = n.recv_ready; row = n.recv_row_is; size = n.recv_size_is };
    ends = ends_are_ready m c lives n;
    packets = n.packets;
    disks = record {
      low_disk = each_settled m (LowFits c.row w) (low_disk c.low_store) n.low_ready.settled (λ t. inl o.low_is);
      high_disk = each_settled m (HighFits c.row w) (high_disk c.high_store) n.high_ready.settled (λ t. inl o.high_is);
      recv_disk = each_settled m (RecvFits c.row w) (recv_disk c.receiver) n.recv_ready.settled (λ t. inl o.recv_is);
    };
  }

-- ---- a session that begins again ----

-- a low process keeps the exchanges of its history
pub keeps_exchanges : (p : LowProcess) (h : History) → low.StandsFor p h → KeepsExchanges (low.row_of p) h
keeps_exchanges p h s = ((s.stands.parts, s.stands.cut), s.stands.earlier)
