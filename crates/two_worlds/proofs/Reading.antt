-- A pump of which a message was read is as before.
use Rattle.std.proofs.Common.{◌≡◌, inr, ℕ, ◌+◌, ◌-◌, ◌<◌, ◌≤◌, zero, suc, Bool, true, false, List, [], ◌∷◌, length, get_or, take, Result, Ok, Err, OnOk, OnErr, refl, sym, ap, ◌∙◌, subst, arith}
use Rattle.std.specs.Prelude.{◌||◌, not, min}
use Rattle.std.proofs.Math.Logic.{∥∥₁_elim, ∥∥₁_map}
use Rattle.std.proofs.Props.{props}
use Rattle.std.proofs.lemmas.List.{get_or-drop}
use Rattle.std.proofs.lemmas.List.Sums.{sum_by-cons}
use Rattle.disk_model.specs.Disk.{Meaning, Moves, Same, Each, Answers}
use Rattle.disk_model.specs.declared.name.Role.{Role}
use Rattle.disk_model.specs.declared.name.Role.TheVariants as roles
use Rattle.disk_model.proofs.Run.{each_after, started}
use Rattle.pump_frame.specs.Rows.{IsLawfulRow}
use Rattle.pump_frame.specs.declared.row.SessionRow.{SessionRow}
use Rattle.pump_core.specs.World.{World}
use Rattle.stable_buffer.specs.Log.{RecvStands}
use Rattle.stable_buffer.specs.Low.{IsLowReady, low_count, low_disk, low_row}
use Rattle.stable_buffer.specs.Numbers.{length_at}
use Rattle.stable_buffer.specs.Stands.{InSlot, LowStands, low_size, slot_of}
use Rattle.stable_buffer.specs.declared.low.LowStore.{LowStore}
use Rattle.high_process.specs.States as high
use Rattle.high_receiver.specs.Receiving.{IsRecordAt, IsRecvReady, record_at, recv_count, recv_disk, recv_end, recv_is_open, recv_row, recv_size}
use Rattle.high_receiver.specs.declared.receiver.Receiver.{Receiver}
use Rattle.low_process.specs.Looks as low
use Rattle.recovery.proofs.Slots.{slot_length, slot_one}
use Rattle.script_reader.specs.Highs.{log_end}
use Rattle.script_reader.specs.Past.{Past}
use Rattle.two_worlds.specs.declared.pump.parts.Parts.{Parts}
use Rattle.two_worlds.specs.declared.pump.state.PumpState.{PumpState}
use Rattle.two_worlds.specs.declared.pump.state.PumpState.TheVariants.{Open, Shut}
use Rattle.world_laws.specs.Disks.{LowFits, DisksFit, live_messages}
use Rattle.two_worlds.specs.Keeping.{Keeps}
use Rattle.two_worlds.specs.Reads.{ReadsIn, FailsToRead}
use Rattle.two_worlds.specs.Rooms.{Serves, is_role}
use Rattle.two_worlds.specs.Standing.{Stands, bare_of, bare_disk, is_down}
use Rattle.two_worlds.specs.States.{disks_in, IsOpenWith, StandsIn}
use Rattle.two_worlds.specs.Working.{Works, IsAble}
use Rattle.two_worlds.proofs.Disks.LeavesWorld.{fits_row}
use Rattle.two_worlds.proofs.Lines.Kept.{able_stands, stands_hold, works_up}
use Rattle.two_worlds.proofs.Disks.OpensSurely.{one_received}
use Rattle.two_worlds.proofs.Opening.Ready.{low_is_ready, low_reading, recv_reading}
use Rattle.two_worlds.proofs.Reopening.Receiver.{recv_still}

-- ---- what a call of a disk answers ----

-- a read that failed or not, as any call of a disk
pub reads_serve : {D T E : Type 0} (m : Meaning D) (fits : Type 0) (old new : D) (result : Result T E) → (m.tells_plan → fits) → Answers m fits old new result
    → OnOk result (Serves m 0 old new false) × OnErr result (Serves m 0 old new true)
reads_serve m fits old new (Ok value) has a = (
  inr (record {
    counts = a.counts;
    rose = λ e. absurd (cc);
    never = λ plan unarmed room. refl;
    always = λ plan armed. (let no = a.always plan armed in absurd (cc));
    room = a.room;
    disarmed = a.disarmed;
  }),
  tt,
)
reads_serve m fits old new (Err e) has a = (
  tt,
  inr (record {
    counts = a.counts;
    rose = λ e. a.rose refl;
    never = λ plan unarmed room. (let no = a.never plan unarmed (has plan) in absurd (cc));
    always = λ plan armed. refl;
    room = a.room;
    disarmed = a.disarmed;
  }),
)

-- no call
pub unread : {D : Type 0} (m : Meaning D) (d : D) → Moves m Same d d
unread m d = started m Same (λ c. refl) d

-- ---- the message of a slot ----

-- what is read of the slot of a live message is that message
pub message_is : (row : SessionRow) (w : World) (disk into : List ℕ) (n size : ℕ) → row.message ≤ 1024 → w.removed ≤ n → n < length w.accepted
    → LowStands row (length w.accepted) w.removed (live_messages w) disk → size ≡ length_at disk (slot_of row n) → (size ≤ row.message → InSlot row n into disk)
    → into ≡ get_or w.accepted n []
message_is row w disk into n size short from before s length_is stands =
    let i = n - w.removed in
    let e : w.removed + i ≡ n = omega (arith, from) in
    let within : i < length (live_messages w) = omega (arith, s.count, from, before) in
    let at : InSlot row n (get_or w.accepted n []) disk =
    subst (λ (k : ℕ). InSlot row k (get_or w.accepted k []) disk) e
    (subst (λ (m : List ℕ). InSlot row (w.removed + i) m disk) (get_or-drop w.removed w.accepted i []) (s.slots i within)) in
    let fits : size ≤ row.message = let l = slot_length row short n _ disk at in let f = at.fits in omega (arith, length_is, l, f) in
    slot_one row short n into (get_or w.accepted n []) disk (stands fits) at

-- a live message is not overwritten
pub still_kept : {D : Type 0} (m : Meaning D) (c : Parts D) (p : Past) (n : ℕ) → m.tells → Stands m c p → p.world.removed ≤ n → low.next_of c.low ≤ n + c.row.capacity
still_kept m c p n told s from =
    let l = low_reading c.row p.world _ s.sound.rest.storing (s.disks.low_disk.reading told) in
    let kept = l.kept in
    let next = s.world.accepted in
    omega (arith, kept, next, from)

-- the last of three is so
last : (a b : Bool) → (a || b || true) ≡ true
last true b = refl
last false true = refl
last false false = refl

-- the store was made with the session's row
pub store_row : {D : Type 0} (m : Meaning D) (c : Parts D) → IsAble m c → low_row c.low_store ≡ c.row
store_row m c able = ∥∥₁_elim able.works (hlevel props) (λ w. w.low_ready.store.row ∙ w.low_ready.row)

-- by the plan all of the slots can be read
pub low_length : {D : Type 0} (m : Meaning D) (c : Parts D) → IsAble m c → m.tells_plan → low_size (low_row c.low_store) ≤ length (m.reading (low_disk c.low_store))
low_length m c able plan = let e = ((low_is_ready m c able).stands (m.plan_tells plan)).2.size in omega (arith, e)

pub low_fits : {D : Type 0} (m : Meaning D) (c : Parts D) (p : Past) → m.tells → Stands m c p → low_row c.low_store ≡ c.row
    → LowStands (low_row c.low_store) (length p.world.accepted) p.world.removed (live_messages p.world) (m.reading (low_disk c.low_store))
low_fits m c p told s row = subst (λ (r : SessionRow). LowStands r (length p.world.accepted) p.world.removed (live_messages p.world) (m.reading (low_disk c.low_store))) (sym row)
    (low_reading c.row p.world _ s.sound.rest.storing (s.disks.low_disk.reading told))

-- ---- the low disk ----

module _ {D : Type 0} (m : Meaning D) (c : Parts D) (new : LowStore D) (same : Moves m Same (low_disk c.low_store) (low_disk new)) where
  abbrev pub with_low : Parts D
  with_low = record c { low_store = new }

  low_still : (p : Past) → Stands m c p → Each m (LowFits c.row p.world) (low_disk new)
  low_still p s = each_after m (LowFits c.row p.world) (LowFits c.row p.world) Same (low_disk c.low_store) (low_disk new) s.disks.low_disk
      (λ x y fits is. subst (LowFits c.row p.world) (sym is) fits) same

  disks_still : (p : Past) → Stands m c p → DisksFit m c.row (low_disk new) (bare_of c).high (bare_of c).recv p.world
  disks_still p s = record { low_disk = low_still p s; high_disk = s.disks.high_disk; recv_disk = s.disks.recv_disk }

  module _ (ready : IsLowReady m new) (count : low_count new ≡ low_count c.low_store) (row : low_row new ≡ low_row c.low_store) where
    works_low : Works m c → Works m with_low
    works_low w = record {
      row = w.row;
      history = w.history;
      past = w.past;
      times = w.times;
      low_ready = record {
        history = w.low_ready.history;
        store = record { ready = ready; count = count ∙ w.low_ready.store.count; row = row ∙ w.low_ready.store.row };
        up = w.low_ready.up;
        between = w.low_ready.between;
        row = w.low_ready.row;
        last = w.low_ready.last;
      };
      high_ready = record { past = w.high_ready.past; store = w.high_ready.store; count = w.high_ready.count; up = w.high_ready.up; between = w.high_ready.between; row = w.high_ready.row; last = w.high_ready.last };
      recv_ready = record { ready = w.recv_ready.ready; row = w.recv_ready.row; size = w.recv_ready.size };
      ends = record { low = w.ends.low; high = w.ends.high; stand = w.ends.stand; shape = w.ends.shape; times = w.ends.times; low_fits = w.ends.low_fits; high_fits = w.ends.high_fits };
      packets = record { sent = w.packets.sent; returned = w.packets.returned; taken = w.packets.taken };
      short = record { low_hand = w.short.low_hand; held = w.short.held; high_hand = w.short.high_hand; sent = w.short.sent };
    }

    stands_low : (p : Past) → Stands m c p → Stands m with_low p
    stands_low p s = record {
      row = s.row;
      moment = s.moment;
      sound = record { rest = s.sound.rest; lawful = s.sound.lawful; fits = s.sound.fits; sends = s.sound.sends; answered = s.sound.answered };
      world = record {
        capacity = s.world.capacity;
        low_hand = s.world.low_hand;
        low_payload = s.world.low_payload;
        held = s.world.held;
        held_payloads = s.world.held_payloads;
        high_hand = s.world.high_hand;
        high_payload = s.world.high_payload;
        removed = s.world.removed;
        accepted = s.world.accepted;
        received = s.world.received;
        end = s.world.end;
        sent = s.world.sent;
        returned = s.world.returned;
      };
      arrivals = record { waits = s.arrivals.waits; broken = s.arrivals.broken; reading = s.arrivals.reading; few = s.arrivals.few };
      low_ready = record {
        history = s.low_ready.history;
        store = record { ready = ready; count = count ∙ s.low_ready.store.count; row = row ∙ s.low_ready.store.row };
        up = s.low_ready.up;
        between = s.low_ready.between;
        row = s.low_ready.row;
        last = s.low_ready.last;
      };
      high_ready = record { past = s.high_ready.past; store = s.high_ready.store; count = s.high_ready.count; up = s.high_ready.up; between = s.high_ready.between; row = s.high_ready.row; last = s.high_ready.last };
      recv_ready = record { ready = s.recv_ready.ready; row = s.recv_ready.row; size = s.recv_ready.size };
      ends = record { low = s.ends.low; high = s.ends.high; stand = s.ends.stand; shape = s.ends.shape; times = s.ends.times; low_fits = s.ends.low_fits; high_fits = s.ends.high_fits };
      packets = record { sent = s.packets.sent; returned = s.packets.returned; taken = s.packets.taken };
      disks = disks_still p s;
    }

    pub able_low : IsAble m c → IsAble m with_low
    able_low a = record { works = ∥∥₁_map a.works works_low; stands = λ told. ∥∥₁_map (a.stands told) (λ s. (s.0, stands_low s.0 s.1)) }

    pub reads_low : IsAble m c → Serves m 0 (low_disk c.low_store) (low_disk new) false → ReadsIn m roles.Low (Open c) (Open with_low)
    reads_low a serves = record {
      alone = record { same = same; serves = serves; others = others; row = refl; down = works_up m (Open with_low) (able_low a).works };
      moment = refl;
      counts = refl;
      stands = stands_low;
    }
      where
        others : (other : Role) → is_role roles.Low other ≡ false → bare_disk other (bare_of with_low) ≡ bare_disk other (bare_of c)
        others roles.Low e = absurd (cc)
        others roles.High e = refl
        others roles.Recv e = refl

  -- the disk failed, and the pump is shut
  pub fails_low : Serves m 0 (low_disk c.low_store) (low_disk new) true → FailsToRead m roles.Low (Open c) (Shut (bare_of with_low))
  fails_low serves = record {
    alone = record { same = same; serves = serves; others = others; row = refl; down = refl };
    fails = λ p s. record { counted = refl; lawful = s.sound.lawful; fits = fits_row m c p s; disks = disks_still p s };
  }
    where
      others : (other : Role) → is_role roles.Low other ≡ false → bare_disk other (bare_of with_low) ≡ bare_disk other (bare_of c)
      others roles.Low e = absurd (cc)
      others roles.High e = refl
      others roles.Recv e = refl

-- ---- the receiver's disk ----

-- the receiver's disk of parts that stand for a session tells its list alone
one_list : {D : Type 0} (m : Meaning D) (c : Parts D) (p : Past) (messages : List (List ℕ)) → m.tells → Stands m c p
    → RecvStands (recv_row c.receiver) messages (m.reading (recv_disk c.receiver)) → messages ≡ p.world.received
one_list m c p messages told s stands =
    one_received c.row messages p.world.received _ (subst (λ (r : SessionRow). RecvStands r messages (m.reading (recv_disk c.receiver))) s.recv_ready.row stands)
    (recv_reading c.row p.world _ s.sound.rest.packet (s.disks.recv_disk.reading told))

-- no record begins behind the end of all
prefix_end : (messages : List (List ℕ)) (n : ℕ) → record_at messages n ≤ log_end messages
prefix_end [] zero = omega arith
prefix_end [] (suc n) = omega arith
prefix_end (message ∷ messages) zero = let h = prefix_end messages zero in omega (arith, h)
prefix_end (message ∷ messages) (suc n) =
    let h = prefix_end messages n in
    let sums = sum_by-cons (λ (x : List ℕ). 2 + length x) message (take n messages) in
    omega (arith, h, sums)

-- so the place of a record in it is none behind its end
pub placed : {D : Type 0} (m : Meaning D) (c : Parts D) (n at place : ℕ) → IsAble m c → place ≡ min at (recv_end c.receiver)
    → (m.tells → (p : Past) → Stands m c p → at ≡ record_at p.world.received n) → IsRecordAt m c.receiver n place
placed m c n at place able is known = record {
  within = omega (arith, is);
  place = λ told messages stands. ∥∥₁_elim (able.stands told) (hlevel props) (λ s.
      let same = one_list m c s.0 messages told s.1 stands in
      let e = known told s.0 s.1 in
      let least = prefix_end s.0.world.received n in
      let end = s.1.world.end in
      let all : place ≡ record_at s.0.world.received n = omega (arith, is, e, least, end) in
      all ∙ ap (λ (l : List (List ℕ)). record_at l n) (sym same));
}

-- the message, and the place of the next
pub told_message : {D : Type 0} (m : Meaning D) (c : Parts D) (n : ℕ) (into : List ℕ)
    → (m.tells → (messages : List (List ℕ)) → RecvStands (recv_row c.receiver) messages (m.reading (recv_disk c.receiver)) → into ≡ get_or messages n [])
    → m.tells → (p : Past) → Stands m c p → into ≡ get_or p.world.received n []
told_message m c n into found told p s =
    found told p.world.received (subst (λ (r : SessionRow). RecvStands r p.world.received (m.reading (recv_disk c.receiver))) (sym s.recv_ready.row)
    (recv_reading c.row p.world _ s.sound.rest.packet (s.disks.recv_disk.reading told)))

pub told_next : {D : Type 0} (m : Meaning D) (c : Parts D) (new : Receiver D) (n next : ℕ) → recv_row new ≡ recv_row c.receiver → Moves m Same (recv_disk c.receiver) (recv_disk new)
    → IsRecordAt m new n next → m.tells → (p : Past) → Stands m c p → next ≡ record_at p.world.received n
told_next m c new n next row same is told p s =
    is.place told p.world.received (subst (λ (x : SessionRow × List ℕ). RecvStands x.0 p.world.received x.1) (λ i. (sym (row ∙ s.recv_ready.row) i, sym (same.reads told) i))
    (recv_reading c.row p.world _ s.sound.rest.packet (s.disks.recv_disk.reading told)))

module _ {D : Type 0} (m : Meaning D) (c : Parts D) (new : Receiver D) (same : Moves m Same (recv_disk c.receiver) (recv_disk new)) where
  abbrev pub with_recv : Parts D
  with_recv = record c { receiver = new }

  disks_still_recv : (p : Past) → Stands m c p → DisksFit m c.row (bare_of c).low (bare_of c).high (recv_disk new) p.world
  disks_still_recv p s = record { low_disk = s.disks.low_disk; high_disk = s.disks.high_disk; recv_disk = recv_still m c (recv_disk new) same p s }

  others_recv : (other : Role) → is_role roles.Recv other ≡ false → bare_disk other (bare_of with_recv) ≡ bare_disk other (bare_of c)
  others_recv roles.Low e = refl
  others_recv roles.High e = refl
  others_recv roles.Recv e = absurd (cc)

  module _ (ready : IsRecvReady m new) (count : recv_count new ≡ recv_count c.receiver) (end : recv_end new ≡ recv_end c.receiver) (row : recv_row new ≡ recv_row c.receiver) (size : recv_size new ≡ recv_size c.receiver) where
    works_recv : Works m c → Works m with_recv
    works_recv w = record {
      row = w.row;
      history = w.history;
      past = w.past;
      times = w.times;
      low_ready = record { history = w.low_ready.history; store = w.low_ready.store; up = w.low_ready.up; between = w.low_ready.between; row = w.low_ready.row; last = w.low_ready.last };
      high_ready = record { past = w.high_ready.past; store = w.high_ready.store; count = w.high_ready.count; up = w.high_ready.up; between = w.high_ready.between; row = w.high_ready.row; last = w.high_ready.last };
      recv_ready = record { ready = ready; row = row ∙ w.recv_ready.row; size = size ∙ w.recv_ready.size };
      ends = record { low = w.ends.low; high = w.ends.high; stand = w.ends.stand; shape = w.ends.shape; times = w.ends.times; low_fits = w.ends.low_fits; high_fits = w.ends.high_fits };
      packets = record { sent = w.packets.sent; returned = w.packets.returned; taken = w.packets.taken };
      short = record { low_hand = w.short.low_hand; held = w.short.held; high_hand = w.short.high_hand; sent = w.short.sent };
    }

    stands_recv : (p : Past) → Stands m c p → Stands m with_recv p
    stands_recv p s = record {
      row = s.row;
      moment = s.moment;
      sound = record { rest = s.sound.rest; lawful = s.sound.lawful; fits = s.sound.fits; sends = s.sound.sends; answered = s.sound.answered };
      world = record {
        capacity = s.world.capacity;
        low_hand = s.world.low_hand;
        low_payload = s.world.low_payload;
        held = s.world.held;
        held_payloads = s.world.held_payloads;
        high_hand = s.world.high_hand;
        high_payload = s.world.high_payload;
        removed = s.world.removed;
        accepted = s.world.accepted;
        received = s.world.received ∙ sym count;
        end = s.world.end ∙ sym end;
        sent = s.world.sent;
        returned = s.world.returned;
      };
      arrivals = record { waits = s.arrivals.waits; broken = s.arrivals.broken; reading = s.arrivals.reading; few = s.arrivals.few };
      low_ready = record { history = s.low_ready.history; store = s.low_ready.store; up = s.low_ready.up; between = s.low_ready.between; row = s.low_ready.row; last = s.low_ready.last };
      high_ready = record { past = s.high_ready.past; store = s.high_ready.store; count = s.high_ready.count; up = s.high_ready.up; between = s.high_ready.between; row = s.high_ready.row; last = s.high_ready.last };
      recv_ready = record { ready = ready; row = row ∙ s.recv_ready.row; size = size ∙ s.recv_ready.size };
      ends = record { low = s.ends.low; high = s.ends.high; stand = s.ends.stand; shape = s.ends.shape; times = s.ends.times; low_fits = s.ends.low_fits; high_fits = s.ends.high_fits };
      packets = record { sent = s.packets.sent; returned = s.packets.returned; taken = s.packets.taken };
      disks = disks_still_recv p s;
    }

    pub able_recv : IsAble m c → IsAble m with_recv
    able_recv a = record { works = ∥∥₁_map a.works works_recv; stands = λ told. ∥∥₁_map (a.stands told) (λ s. (s.0, stands_recv s.0 s.1)) }

    pub reads_recv : IsAble m c → Serves m 0 (recv_disk c.receiver) (recv_disk new) false → ReadsIn m roles.Recv (Open c) (Open with_recv)
    reads_recv a serves = record {
      alone = record { same = same; serves = serves; others = others_recv; row = refl; down = works_up m (Open with_recv) (able_recv a).works };
      moment = refl;
      counts = λ i. (low.next_of c.low, high.removed_of c.high, count i);
      stands = stands_recv;
    }

  -- the disk failed, and the receiver is closed
  pub fails_recv : recv_is_open new ≡ false → Serves m 0 (recv_disk c.receiver) (recv_disk new) true → FailsToRead m roles.Recv (Open c) (Open with_recv)
  fails_recv closed serves = record {
    alone = record { same = same; serves = serves; others = others_recv; row = refl; down = down };
    fails = λ p s. record { counted = refl; lawful = s.sound.lawful; fits = fits_row m c p s; disks = disks_still_recv p s };
  }
    where
      down : is_down with_recv ≡ true
      down = (let e : (low.is_down c.low || high.is_down c.high || not (recv_is_open new)) ≡ (low.is_down c.low || high.is_down c.high || true) = ap (λ (b : Bool). low.is_down c.low || high.is_down c.high || not b) closed in e ∙ last (low.is_down c.low) (high.is_down c.high))

-- ---- the state ----

module _ {D : Type 0} (m : Meaning D) (s : PumpState D) (c d : Parts D) (is : s ≡ Open c) where
  open_able : IsOpenWith (IsAble m) s → IsAble m c
  open_able able = subst (IsOpenWith (IsAble m)) is able

  pub state_message : (P : Past → Type 0) → ((p : Past) → Stands m c p → P p) → (p : Past) → StandsIn m s p → P p
  state_message P told p stands = told p (subst (λ (x : PumpState D). StandsIn m x p) is stands)

  module _ (rest : d ≡ record c { low_store = d.low_store }) (same : Moves m Same (low_disk c.low_store) (low_disk d.low_store)) where
    pub low_reads : IsOpenWith (IsAble m) s → IsLowReady m d.low_store → low_count d.low_store ≡ low_count c.low_store → low_row d.low_store ≡ low_row c.low_store → Serves m 0 (low_disk c.low_store) (low_disk d.low_store) false
        → ReadsIn m roles.Low s (Open d) × IsAble m d
    low_reads able ready count row serves =
        let here = open_able able in (
          subst (λ (x : PumpState D × Parts D). ReadsIn m roles.Low x.0 (Open x.1)) (λ i. (sym is i, sym rest i)) (reads_low m c d.low_store same ready count row here serves),
          subst (IsAble m) (sym rest) (able_low m c d.low_store same ready count row here),
        )

    pub low_fails : (t : PumpState D) → t ≡ Shut (bare_of d) → Serves m 0 (low_disk c.low_store) (low_disk d.low_store) true → FailsToRead m roles.Low s t
    low_fails t shut serves =
        subst (λ (x : PumpState D × PumpState D). FailsToRead m roles.Low x.0 x.1) (λ i. (sym is i, (ap (λ (y : Parts D). Shut (bare_of y)) (sym rest) ∙ sym shut) i)) (fails_low m c d.low_store same serves)

  module _ (rest : d ≡ record c { receiver = d.receiver }) (same : Moves m Same (recv_disk c.receiver) (recv_disk d.receiver)) where
    pub recv_reads : IsOpenWith (IsAble m) s → IsRecvReady m d.receiver → recv_count d.receiver ≡ recv_count c.receiver → recv_end d.receiver ≡ recv_end c.receiver → recv_row d.receiver ≡ recv_row c.receiver → recv_size d.receiver ≡ recv_size c.receiver
        → Serves m 0 (recv_disk c.receiver) (recv_disk d.receiver) false → ReadsIn m roles.Recv s (Open d) × IsAble m d
    recv_reads able ready count end row size serves =
        let here = open_able able in (
          subst (λ (x : PumpState D × Parts D). ReadsIn m roles.Recv x.0 (Open x.1)) (λ i. (sym is i, sym rest i)) (reads_recv m c d.receiver same ready count end row size here serves),
          subst (IsAble m) (sym rest) (able_recv m c d.receiver same ready count end row size here),
        )

    pub recv_fails : recv_is_open d.receiver ≡ false → Serves m 0 (recv_disk c.receiver) (recv_disk d.receiver) true → FailsToRead m roles.Recv s (Open d)
    recv_fails closed serves =
        subst (λ (x : PumpState D × Parts D). FailsToRead m roles.Recv x.0 (Open x.1)) (λ i. (sym is i, sym rest i)) (fails_recv m c d.receiver same closed serves)

-- ---- what the pump keeps ----

module _ {D : Type 0} (m : Meaning D) (role : Role) (s t : PumpState D) where
  able_holds : IsOpenWith (IsAble m) t → Keeps m s → (disks_in t).row ≡ (disks_in s).row → Keeps m t
  able_holds able k row = record {
    row = subst IsLawfulRow (sym row) k.row;
    hold = λ told. ∥∥₁_elim (able_stands m t able told) (hlevel props) (λ x. stands_hold m t x.0 x.1);
    able = λ up. able;
  }

  keeps_read : IsOpenWith (IsAble m) t → ReadsIn m role s t → Keeps m s → Keeps m t
  keeps_read able r k = able_holds able k r.alone.row

  keeps_failed : IsOpenWith (IsAble m) s → FailsToRead m role s t → Keeps m s → Keeps m t
  keeps_failed able r k = record {
    row = subst IsLawfulRow (sym r.alone.row) k.row;
    hold = λ told. ∥∥₁_map (able_stands m s able told) (λ x. let f = r.fails x.0 x.1 in record { world = x.0.world; lawful = f.lawful; disks = f.disks });
    able = λ up. (let down = r.alone.down in absurd (cc));
  }

  -- whatever is answered
  pub keeps_either : {T E : Type 0} (result : Result T E) → IsOpenWith (IsAble m) s → OnOk result (ReadsIn m role s t) → OnOk result (IsOpenWith (IsAble m) t) → OnErr result (FailsToRead m role s t) → ∥ Keeps m s ∥₁ → ∥ Keeps m t ∥₁
  keeps_either (Ok value) was reads able fails k = ∥∥₁_map k (keeps_read able reads)
  keeps_either (Err e) was reads able fails k = ∥∥₁_map k (keeps_failed was fails)
