-- The parts with the receiver that was opened again stand for what they stood for.
use Rattle.std.proofs.Common.{◌≡◌, ◌⊎◌, inl, inr, ℕ, Bool, true, false, List, Ok, refl, sym, ap, ◌∙◌, subst}
use Rattle.std.proofs.Math.Logic.{∥∥₁_map}
use Rattle.disk_model.specs.Disk.{Meaning, Each, Moves, Same}
use Rattle.disk_model.proofs.Run.{each_after}
use Rattle.stable_buffer.specs.Low.{low_disk}
use Rattle.stable_buffer.specs.High.{high_disk}
use Rattle.stable_buffer.specs.Register.{value_of, cell_at, place_of}
use Rattle.stable_buffer.specs.Stands.{low_size}
use Rattle.high_receiver.specs.Receiving.{IsRecvReady, recv_count, recv_end, recv_row, recv_size, recv_disk}
use Rattle.high_receiver.specs.declared.receiver.Receiver.{Receiver}
use Rattle.recovery.specs.Calls.{Calls}
use Rattle.script_reader.specs.Past.{Past}
use Rattle.script_reader.specs.Highs.{receiver_size}
use Rattle.two_worlds.specs.declared.pump.parts.Parts.{Parts}
use Rattle.two_worlds.specs.declared.pump.state.PumpState.TheVariants.{Open}
use Rattle.world_laws.specs.Disks.{HighFits, RecvFits}
use Rattle.two_worlds.specs.Doing.{LowFitsAfter, LeavesFit}
use Rattle.two_worlds.specs.Private.Reopening.{Reopens}
use Rattle.two_worlds.specs.Rooms.{Serves}
use Rattle.two_worlds.specs.Standing.{Stands, bare_of}
use Rattle.two_worlds.specs.Working.{Works, IsAble}
use Rattle.two_worlds.proofs.Carry.Serves.{HasTaken, serves_alone, behind_alone, recv_has}
use Rattle.two_worlds.proofs.Disks.Images.{low_alone, high_alone}
use Rattle.two_worlds.proofs.Disks.Leaving.{leaves_by_step}

-- the calls of an opening, as those of any part of a line
pub calls_serve : {D : Type 0} (m : Meaning D) (least : ℕ) (old new : D) (failed : Bool) → Calls m old new failed → Serves m least old new failed
calls_serve m least old new true a = inr (record {
  counts = a.counts;
  rose = λ e. a.rose refl;
  never = λ plan off fits. let no = a.never plan off in absurd (cc);
  always = λ plan armed. refl;
  room = a.room;
  disarmed = a.disarmed;
})
calls_serve m least old new false a = inr (record {
  counts = a.counts;
  rose = λ e. absurd (cc);
  never = λ plan off fits. refl;
  always = λ plan armed. let no = a.always plan armed in absurd (cc);
  room = a.room;
  disarmed = a.disarmed;
})

-- ---- the disk that is called ----

-- the count and the end of a receiver are those that a read gives
pub value_read : {D : Type 0} (m : Meaning D) (receiver : Receiver D) → IsRecvReady m receiver → m.tells → value_of (m.reading (recv_disk receiver)) ≡ (recv_count receiver, recv_end receiver)
value_read m receiver ready told =
    let was = ready.ready.each.reading told in
    ap (λ (parity : ℕ). cell_at (m.reading (recv_disk receiver)) (place_of parity)) was.selector ∙ was.cell

module _ {D : Type 0} (m : Meaning D) (c : Parts D) (recv : D) (same : Moves m Same (recv_disk c.receiver) recv) where
  onto : (P : List ℕ → Type 0) (x y : List ℕ) → P x → Same x y → P y
  onto P x y fits is = subst P (sym is) fits

  pub recv_still : (p : Past) → Stands m c p → Each m (RecvFits c.row p.world) recv
  recv_still p s = each_after m (RecvFits c.row p.world) (RecvFits c.row p.world) Same (recv_disk c.receiver) recv s.disks.recv_disk (onto (RecvFits c.row p.world)) same

  pub recv_still_has : (p : Past) → Stands m c p → Each m (HasTaken p.world.removed) recv
  recv_still_has p s = each_after m (HasTaken p.world.removed) (HasTaken p.world.removed) Same (recv_disk c.receiver) recv (recv_has m c p s) (onto (HasTaken p.world.removed)) same

  -- a crash at any moment of the opening leaves what it left before
  pub still_fits : (p : Past) → Stands m c p → LeavesFit m (bare_of c) (record (bare_of c) { recv = recv }) p p
  still_fits p s = record {
    low = low_alone m c p s (LowFitsAfter c.row p p) (low_disk c.low_store) refl;
    high = high_alone m c p s (HighFits c.row p.world) (high_disk c.high_store) refl;
    recv = leaves_by_step m (RecvFits c.row p.world) (λ x. RecvFits c.row p.world x ⊎ RecvFits c.row p.world x) Same (recv_disk c.receiver) recv s.disks.recv_disk
        (λ x y fits is. inl (onto (RecvFits c.row p.world) x y fits is)) same;
  }

-- ---- the receiver ----

module _ {D : Type 0} (m : Meaning D) (c : Parts D) (new : Receiver D) where
  -- what its opening says of it
  pub record Reopened : Type 0 where
    pub ready : IsRecvReady m new
    pub row : recv_row new ≡ c.row
    pub size : recv_size new ≡ receiver_size
    pub value : m.tells → (recv_count new, recv_end new) ≡ value_of (m.reading (recv_disk c.receiver))
    pub calls : Calls m (recv_disk c.receiver) (recv_disk new) false
    pub same : Moves m Same (recv_disk c.receiver) (recv_disk new)

  module _ (r : Reopened) where
    works_again : Works m c → Works m (record c { receiver = new })
    works_again w = record {
      row = w.row;
      history = w.history;
      past = w.past;
      times = w.times;
      low_ready = record { history = w.low_ready.history; store = w.low_ready.store; up = w.low_ready.up; between = w.low_ready.between; row = w.low_ready.row; last = w.low_ready.last };
      high_ready = record { past = w.high_ready.past; store = w.high_ready.store; count = w.high_ready.count; up = w.high_ready.up; between = w.high_ready.between; row = w.high_ready.row; last = w.high_ready.last };
      recv_ready = record { ready = r.ready; row = r.row; size = r.size };
      ends = record { low = w.ends.low; high = w.ends.high; stand = w.ends.stand; shape = w.ends.shape; times = w.ends.times; low_fits = w.ends.low_fits; high_fits = w.ends.high_fits };
      packets = record { sent = w.packets.sent; returned = w.packets.returned; taken = w.packets.taken };
      short = record { low_hand = w.short.low_hand; held = w.short.held; high_hand = w.short.high_hand; sent = w.short.sent };
    }

    stands_again : m.tells → (p : Past) → Stands m c p → Stands m (record c { receiver = new }) p
    stands_again told p s =
        let value : (recv_count new, recv_end new) ≡ (recv_count c.receiver, recv_end c.receiver) = r.value told ∙ value_read m c.receiver s.recv_ready.ready told in
        record {
          row = s.row;
          arrivals = record { waits = s.arrivals.waits; broken = s.arrivals.broken; reading = s.arrivals.reading; few = s.arrivals.few };
          world = record {
            capacity = s.world.capacity;
            low_hand = s.world.low_hand;
            low_payload = s.world.low_payload;
            held = s.world.held;
            held_payloads = s.world.held_payloads;
            high_hand = s.world.high_hand;
            high_payload = s.world.high_payload;
            removed = s.world.removed;
            accepted = s.world.accepted;
            received = s.world.received ∙ sym (ap (λ (v : ℕ × ℕ). v.0) value);
            end = s.world.end ∙ sym (ap (λ (v : ℕ × ℕ). v.1) value);
            sent = s.world.sent;
            returned = s.world.returned;
          };
          sound = record { rest = s.sound.rest; lawful = s.sound.lawful; fits = s.sound.fits; sends = s.sound.sends; answered = s.sound.answered };
          moment = s.moment;
          low_ready = record { history = s.low_ready.history; store = s.low_ready.store; up = s.low_ready.up; between = s.low_ready.between; row = s.low_ready.row; last = s.low_ready.last };
          high_ready = record { past = s.high_ready.past; store = s.high_ready.store; count = s.high_ready.count; up = s.high_ready.up; between = s.high_ready.between; row = s.high_ready.row; last = s.high_ready.last };
          recv_ready = record { ready = r.ready; row = r.row; size = r.size };
          ends = record { low = s.ends.low; high = s.ends.high; stand = s.ends.stand; shape = s.ends.shape; times = s.ends.times; low_fits = s.ends.low_fits; high_fits = s.ends.high_fits };
          packets = record { sent = s.packets.sent; returned = s.packets.returned; taken = s.packets.taken };
          disks = record { low_disk = s.disks.low_disk; high_disk = s.disks.high_disk; recv_disk = recv_still m c (recv_disk new) r.same p s };
        }

    -- so the parts with it are as before
    pub reopens : IsAble m c → Reopens m c (Open (record c { receiver = new })) (Ok tt)
    reopens able = record {
      from = λ told p s. (stands_again told p s, still_fits m c (recv_disk new) r.same p s);
      on = ∥∥₁_map able.works works_again;
      serve = (
        refl,
        record {
          low_goes = serves_alone m (low_size c.row) (low_disk c.low_store);
          high_goes = serves_alone m 80 (high_disk c.high_store);
          recv_goes = calls_serve m receiver_size (recv_disk c.receiver) (recv_disk new) false r.calls;
          behind = behind_alone m c (recv_disk new) able.stands (recv_still_has m c (recv_disk new) r.same);
        },
      );
      rest = refl;
    }
