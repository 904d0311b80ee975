-- What waits on the connection of a pump changes, and nothing else.
use Rattle.std.proofs.Common.{◌≡◌, ℕ, ◌≤◌, ◌<◌, Bool, false, List, [], ◌++◌, length, ap, ◌∙◌, subst, arith}
use Rattle.std.proofs.Math.Logic.{∥∥₁_map}
use Rattle.disk_model.specs.Disk.{Meaning}
use Rattle.pump_frame.specs.Readings.{Reading, Within}
use Rattle.pump_core.specs.History.{Arrival}
use Rattle.script_reader.specs.declared.line.Arriving.{Arriving}
use Rattle.script_reader.specs.Past.{Past}
use Rattle.script_reader.specs.Steps.{LineComing, Arrives, joined, lost}
use Rattle.two_worlds.specs.Connections as connections
use Rattle.two_worlds.specs.Connections.{Connected, waits_of, is_broken_of, reading_of, unused}
use Rattle.two_worlds.specs.declared.pump.parts.Parts.{Parts}
use Rattle.two_worlds.specs.Standing.{Stands}
use Rattle.two_worlds.specs.Working.{Works, IsAble}

module _ {D : Type 0} (m : Meaning D) (c : Parts D) (k : Connected) where
  -- the parts with this connection stand for the past with what waits on it
  pub stands_with : (p : Past) (waits : List Arrival) (is_broken : Bool) (reading : Reading) → waits_of k ≡ waits → is_broken_of k ≡ is_broken → reading_of k ≡ reading → length waits ≤ 64
      → Stands m c p → Stands m (record c { connection = k }) (record p { waits = waits; is_broken = is_broken; reading = reading })
  stands_with p waits is_broken reading w b r few s = record {
    row = s.row;
    arrivals = record { waits = w; broken = b; reading = r; few = few };
    world = s.world;
    sound = record { rest = s.sound.rest; lawful = s.sound.lawful; fits = s.sound.fits; sends = s.sound.sends; answered = s.sound.answered };
    moment = s.moment;
    low_ready = record { history = s.low_ready.history; store = s.low_ready.store; up = s.low_ready.up; between = s.low_ready.between; row = s.low_ready.row; last = s.low_ready.last };
    high_ready = record {
      past = s.high_ready.past;
      store = s.high_ready.store;
      count = s.high_ready.count;
      up = s.high_ready.up;
      between = s.high_ready.between;
      row = s.high_ready.row;
      last = s.high_ready.last;
    };
    recv_ready = record { ready = s.recv_ready.ready; row = s.recv_ready.row; size = s.recv_ready.size };
    ends = record {
      low = s.ends.low;
      high = s.ends.high;
      stand = s.ends.stand;
      shape = s.ends.shape;
      times = s.ends.times;
      low_fits = s.ends.low_fits;
      high_fits = s.ends.high_fits;
    };
    packets = record { sent = s.packets.sent; returned = s.packets.returned; taken = s.packets.taken };
    disks = s.disks;
  }

  -- what comes joins what waits
  pub stands_joined : (p : Past) (coming : LineComing) → length (waits_of (connections.joined c.connection coming)) ≤ 64 → k ≡ connections.joined c.connection coming
      → Stands m c p → Stands m (record c { connection = k }) (joined p coming)
  stands_joined p coming few is s =
      let same : waits_of c.connection ++ coming.added ≡ p.waits ++ coming.added = ap (λ (l : List Arrival). l ++ coming.added) s.arrivals.waits in
      stands_with p (p.waits ++ coming.added) p.is_broken coming.reading (ap waits_of is ∙ same) (ap is_broken_of is ∙ s.arrivals.broken) (ap reading_of is)
      (subst (λ (l : List Arrival). length l ≤ 64) same few) s

  -- the connection is lost
  pub stands_lost : k ≡ unused → (p : Past) → Stands m c p → Stands m (record c { connection = k }) (lost p)
  stands_lost is p s = stands_with p [] false (Within []) (ap waits_of is) (ap is_broken_of is) (ap reading_of is) (omega arith) s

  works_with : Works m c → Works m (record c { connection = k })
  works_with w = record {
    row = w.row;
    history = w.history;
    past = w.past;
    times = w.times;
    low_ready = record { history = w.low_ready.history; store = w.low_ready.store; up = w.low_ready.up; between = w.low_ready.between; row = w.low_ready.row; last = w.low_ready.last };
    high_ready = record { past = w.high_ready.past; store = w.high_ready.store; count = w.high_ready.count; up = w.high_ready.up; between = w.high_ready.between; row = w.high_ready.row; last = w.high_ready.last };
    recv_ready = record { ready = w.recv_ready.ready; row = w.recv_ready.row; size = w.recv_ready.size };
    ends = record { low = w.ends.low; high = w.ends.high; stand = w.ends.stand; shape = w.ends.shape; times = w.ends.times; low_fits = w.ends.low_fits; high_fits = w.ends.high_fits };
    packets = record { sent = w.packets.sent; returned = w.packets.returned; taken = w.packets.taken };
    short = record { low_hand = w.short.low_hand; held = w.short.held; high_hand = w.short.high_hand; sent = w.short.sent };
  }

  pub able_joined : (coming : LineComing) → length (waits_of (connections.joined c.connection coming)) ≤ 64 → k ≡ connections.joined c.connection coming
      → IsAble m c → IsAble m (record c { connection = k })
  able_joined coming few is able = record {
    works = ∥∥₁_map able.works works_with;
    stands = λ told. ∥∥₁_map (able.stands told) (λ s. (joined s.0 coming, stands_joined s.0 coming few is s.1));
  }

  pub able_lost : k ≡ unused → IsAble m c → IsAble m (record c { connection = k })
  able_lost is able = record {
    works = ∥∥₁_map able.works works_with;
    stands = λ told. ∥∥₁_map (able.stands told) (λ s. (lost s.0, stands_lost is s.0 s.1));
  }

-- what comes with a line comes with it by the past too
pub arrives_at : {D : Type 0} (m : Meaning D) (c : Parts D) (p : Past) (session : ℕ) (a : Arriving) (coming : LineComing) → Stands m c p → Arrives session (reading_of c.connection) a coming → Arrives session p.reading a coming
arrives_at m c p session a coming s h = subst (λ (r : Reading). Arrives session r a coming) s.arrivals.reading h

pub few_at : {D : Type 0} (m : Meaning D) (c : Parts D) (p : Past) (coming : LineComing) → Stands m c p → length (waits_of (connections.joined c.connection coming)) ≤ 64 → length (joined p coming).waits ≤ 64
few_at m c p coming s few = subst (λ (l : List Arrival). length (l ++ coming.added) ≤ 64) s.arrivals.waits few

pub many_at : {D : Type 0} (m : Meaning D) (c : Parts D) (p : Past) (coming : LineComing) → Stands m c p → 64 < length (waits_of (connections.joined c.connection coming)) → 64 < length (joined p coming).waits
many_at m c p coming s many = subst (λ (l : List Arrival). 64 < length (l ++ coming.added)) s.arrivals.waits many
