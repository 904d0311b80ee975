-- A pump that is made coarse stands for what it stood for.
use Rattle.std.proofs.Common.{◌≡◌, inl, inr, ℕ, true, List, [], map, Option, Some, None, refl, sym, ap, ◌∙◌, subst}
use Rattle.std.specs.List.{All, AllByRecursion}
use Rattle.std.proofs.Math.Logic.{∥∥₁_map}
use Rattle.std.proofs.lemmas.List.{append_cancel_left}
use Rattle.std.proofs.lemmas.List.Elements.{All-nil}
use Rattle.disk_model.specs.Disk.{Meaning}
use Rattle.disk_model.specs.declared.name.Role.{Role}
use Rattle.disk_model.specs.declared.name.Role.TheVariants as roles
use Rattle.disk_model.specs.Plain.{plain_meaning}
use Rattle.disk_model.proofs.Run.{each_weaker}
use Rattle.pump_frame.specs.declared.frame.Item.{Item}
use Rattle.pump_frame.specs.Rows.{IsLawfulRow}
use Rattle.pump_frame.specs.declared.row.SessionRow.{SessionRow}
use Rattle.pump_core.specs.History.{History}
use Rattle.pump_core.specs.Passage.{Low, High, IsAverage, coarse_shape}
use Rattle.pump_core.specs.World.{World}
use Rattle.stable_buffer.specs.Low.{low_disk, low_made_coarse}
use Rattle.stable_buffer.specs.High.{high_disk}
use Rattle.stable_buffer.specs.declared.low.LowStore.{LowStore}
use Rattle.stable_buffer.proofs.Coarse.{low_stands, high_stands, recv_stands, low_ready}
use Rattle.high_receiver.specs.Receiving.{recv_disk, recv_made_coarse}
use Rattle.high_receiver.specs.declared.receiver.Receiver.{Receiver}
use Rattle.high_receiver.proofs.Coarse.{recv_ready}
use Rattle.passage.specs.Plain.{shape_of, held_in, StandsFor as EndsStand}
use Rattle.passage.specs.declared.plain.PlainEnds.{PlainEnds}
use Rattle.low_process.specs.Looks as low
use Rattle.low_process.specs.declared.process.LowProcess.{LowProcess}
use Rattle.low_process.proofs.Coarse as low_coarse
use Rattle.high_process.specs.States as high
use Rattle.high_process.specs.Past.{ProcessPast}
use Rattle.high_process.specs.declared.process.HighProcess.{HighProcess}
use Rattle.script_reader.specs.Alone.{PastAlone}
use Rattle.script_reader.specs.Past.{Past}
use Rattle.two_worlds.specs.LowPumpParts.{PartsStand}
use Rattle.two_worlds.specs.declared.low_pump.parts.LowPumpParts.{LowPumpParts}
use Rattle.two_worlds.specs.declared.pump.parts.Parts.{Parts}
use Rattle.two_worlds.specs.declared.pump.state.BareDisks.{BareDisks}
use Rattle.two_worlds.specs.declared.pump.state.PumpState.{PumpState}
use Rattle.world_laws.specs.Disks.{LowFits, HighFits, RecvFits, DisksFit, Hold}
use Rattle.two_worlds.specs.Keeping.{Keeps}
use Rattle.two_worlds.specs.Rooms.{HasRoom}
use Rattle.two_worlds.specs.Standing.{Stands, HoldsWorld, IsAccepted, LowIsReady, HighIsReady, RecvIsReady, EndsAreReady, kept_of, bare_disk}
use Rattle.two_worlds.specs.States.{coarse_disks, disks_in, is_down_in, IsOpenWith}
use Rattle.two_worlds.specs.Working.{Works, IsAble, IsShort, IsShortHand}

abbrev pub coarse_row : SessionRow → SessionRow
coarse_row row = record row { coarse = true }

-- ---- the disks ----

module _ {D : Type 0} (m : Meaning D) (row : SessionRow) (w : World) where
  low_fits : (disk : List ℕ) → LowFits row w disk → LowFits (coarse_row row) w disk
  low_fits disk (inl s) = inl (low_stands row _ _ _ disk s)
  low_fits disk (inr s) = inr (s.0, s.1, low_stands row _ _ _ disk s.2)

  high_fits : (disk : List ℕ) → HighFits row w disk → HighFits (coarse_row row) w disk
  high_fits disk (inl s) = inl (high_stands row _ disk s)
  high_fits disk (inr s) = inr (s.0, high_stands row _ disk s.1)

  recv_fits : (disk : List ℕ) → RecvFits row w disk → RecvFits (coarse_row row) w disk
  recv_fits disk (inl s) = inl (recv_stands row _ disk s)
  recv_fits disk (inr s) = inr (s.0, s.1, s.2, recv_stands row _ disk s.3)

  disks_fit : (a b c : D) → DisksFit m row a b c w → DisksFit m (coarse_row row) a b c w
  disks_fit a b c f = record {
    low_disk = each_weaker m (LowFits row w) (LowFits (coarse_row row) w) a low_fits f.low_disk;
    high_disk = each_weaker m (HighFits row w) (HighFits (coarse_row row) w) b high_fits f.high_disk;
    recv_disk = each_weaker m (RecvFits row w) (RecvFits (coarse_row row) w) c recv_fits f.recv_disk;
  }

-- ---- the passage ----

-- what its ends stand for, they stand for without the pairs that were read
without_pairs : (e : PlainEnds) (l : Low) (h : High) → EndsStand e l h → EndsStand e (record l { pairs = [] }) h
without_pairs e l h s =
    let a = s.lawful.agrees in
    record {
      lawful = record {
        agrees = record {
          held = a.held;
          rises = a.rises;
          averages = All-nil (IsAverage (shape_of e) h.times);
          never_fall = tt;
          low_tries = a.low_tries;
          high_tries = a.high_tries;
          each_time = a.each_time;
          before = a.before;
        };
        room = s.lawful.room;
      };
      between = s.between;
      floor = s.floor;
      times = s.times;
    }

-- ---- the parts ----

short_hand : (row : SessionRow) (hand : Option Item) → IsShortHand row hand → IsShortHand (coarse_row row) hand
short_hand row None h = tt
short_hand row (Some x) h = h

-- the parts with their rows made coarse, over these ends
abbrev pub coarse_parts : {D : Type 0} → Parts D → PlainEnds → Parts D
coarse_parts c e = record c {
  row = coarse_row c.row;
  low = low.made_coarse c.low;
  low_store = low_made_coarse c.low_store;
  ends = e;
  high = high.made_coarse c.high;
  receiver = recv_made_coarse c.receiver;
}

-- parts of which each was made coarse
pub parts_are : {D : Type 0} (c : Parts D) (e : PlainEnds) (l : LowProcess) (s : LowStore D) (h : HighProcess) (r : Receiver D)
    → l ≡ low.made_coarse c.low → s ≡ low_made_coarse c.low_store → h ≡ high.made_coarse c.high → r ≡ recv_made_coarse c.receiver
    → record c { row = coarse_row c.row; low = l; low_store = s; ends = e; high = h; receiver = r } ≡ coarse_parts c e
parts_are c e l s h r low_is store_is high_is recv_is = λ i.
    record c { row = coarse_row c.row; low = low_is i; low_store = store_is i; ends = e; high = high_is i; receiver = recv_is i }

module _ {D : Type 0} (m : Meaning D) (c : Parts D) (e : PlainEnds)
    (stand_on : (l : Low) (h : High) → EndsStand c.ends l h → l.pairs ≡ [] → EndsStand e l h)
    (shape_on : shape_of e ≡ coarse_shape (shape_of c.ends)) where
  abbrev d : Parts D
  d = coarse_parts c e

  low_is_ready : (h : History) → LowIsReady m c h → LowIsReady m d h
  low_is_ready h r = record {
    history = low_coarse.stands c.low h r.history;
    store = record { ready = low_ready m c.low_store r.store.ready; count = r.store.count; row = ap coarse_row r.store.row };
    up = r.up;
    between = r.between;
    row = ap coarse_row r.row;
    last = r.last;
  }

  high_is_ready : (u : ProcessPast) → HighIsReady m c u → HighIsReady m d u
  high_is_ready u r = record {
    past = record { asking = r.past.asking; holds = r.past.holds; last = r.past.last };
    store = r.store;
    count = r.count;
    up = r.up;
    between = r.between;
    row = ap coarse_row r.row;
    last = r.last;
  }

  recv_is_ready : RecvIsReady m c → RecvIsReady m d
  recv_is_ready r = record { ready = recv_ready m c.receiver r.ready; row = ap coarse_row r.row; size = r.size }

  ends_stand : (l : Low) (h : High) → EndsStand c.ends l h → EndsStand e (record l { pairs = [] }) h
  ends_stand l h s = stand_on (record l { pairs = [] }) h (without_pairs c.ends l h s) refl

  ends_are_ready : (times : List ℕ) → EndsAreReady c times → EndsAreReady d times
  ends_are_ready times r = record {
    low = record r.low { pairs = [] };
    high = r.high;
    stand = ends_stand r.low r.high r.stand;
    shape = shape_on ∙ ap coarse_shape r.shape;
    times = r.times;
    low_fits = r.low_fits;
    high_fits = record { count = r.high_fits.count; floor = r.high_fits.floor };
  }

  -- the ends hold what they held
  held_is : (times : List ℕ) → EndsAreReady c times → held_in c.ends ≡ held_in e
  held_is times r = append_cancel_left r.high.taken (held_in c.ends) (held_in e) (sym r.stand.between ∙ (ends_stand r.low r.high r.stand).between)

  coarse_works : Works m c → Works m d
  coarse_works w = record {
    row = w.row;
    history = w.history;
    past = w.past;
    times = w.times;
    low_ready = low_is_ready w.history w.low_ready;
    high_ready = high_is_ready w.past w.high_ready;
    recv_ready = recv_is_ready w.recv_ready;
    ends = ends_are_ready w.times w.ends;
    packets = record { sent = w.packets.sent; returned = w.packets.returned; taken = w.packets.taken };
    short = record {
      low_hand = short_hand c.row _ w.short.low_hand;
      held = subst (All (IsShort c.row)) (held_is w.times w.ends) w.short.held;
      high_hand = short_hand c.row _ w.short.high_hand;
      sent = w.short.sent;
    };
  }

  holds_world : (before : ℕ) (times : List ℕ) (w : World) → EndsAreReady c times → HoldsWorld (kept_of before c) w → HoldsWorld (kept_of before d) w
  holds_world before times w r h = record {
    capacity = h.capacity;
    low_hand = h.low_hand;
    low_payload = h.low_payload;
    held = h.held ∙ ap (map (λ (x : Item). x.number)) (held_is times r);
    held_payloads = subst (AllByRecursion (IsAccepted w.accepted)) (held_is times r) h.held_payloads;
    high_hand = h.high_hand;
    high_payload = h.high_payload;
    removed = h.removed;
    accepted = h.accepted;
    received = h.received;
    end = h.end;
    sent = h.sent;
    returned = h.returned;
  }

  pub coarse_stands : (p : Past) → Stands m c p → Stands m d p
  coarse_stands p s = record {
    row = s.row;
    moment = s.moment;
    sound = record { rest = s.sound.rest; lawful = s.sound.lawful; fits = s.sound.fits; sends = s.sound.sends; answered = s.sound.answered };
    world = holds_world p.returned_before p.times p.world s.ends s.world;
    arrivals = record { waits = s.arrivals.waits; broken = s.arrivals.broken; reading = s.arrivals.reading; few = s.arrivals.few };
    low_ready = low_is_ready p.history s.low_ready;
    high_ready = high_is_ready _ s.high_ready;
    recv_ready = recv_is_ready s.recv_ready;
    ends = ends_are_ready p.times s.ends;
    packets = record { sent = s.packets.sent; returned = s.packets.returned; taken = s.packets.taken };
    disks = disks_fit m c.row p.world (low_disk c.low_store) (high_disk c.high_store) (recv_disk c.receiver) s.disks;
  }

  pub coarse_able : IsAble m c → IsAble m d
  coarse_able a = record { works = ∥∥₁_map a.works coarse_works; stands = λ told. ∥∥₁_map (a.stands told) (λ s. (s.0, coarse_stands s.0 s.1)) }

-- ---- the pump ----

same_disk : {D : Type 0} (role : Role) (d : BareDisks D) → bare_disk role (coarse_disks d) ≡ bare_disk role d
same_disk roles.Low d = refl
same_disk roles.High d = refl
same_disk roles.Recv d = refl

pub disk_stays : {D : Type 0} (role : Role) (c d : BareDisks D) → d ≡ coarse_disks c → bare_disk role d ≡ bare_disk role c
disk_stays {D} role c d is = ap (λ (x : BareDisks D). bare_disk role x) is ∙ same_disk role c

module _ {D : Type 0} (m : Meaning D) where
  pub room_stays : (c d : BareDisks D) → d ≡ coarse_disks c → HasRoom m c.row c.low c.high c.recv → HasRoom m d.row d.low d.high d.recv
  room_stays c d is h = subst (λ (x : BareDisks D). HasRoom m x.row x.low x.high x.recv) (sym is) (record { low_free = h.low_free; high_free = h.high_free; recv_free = h.recv_free })

  holds_still : (c d : BareDisks D) → d ≡ coarse_disks c → Hold m c.row c.low c.high c.recv → Hold m d.row d.low d.high d.recv
  holds_still c d is h = subst (λ (x : BareDisks D). Hold m x.row x.low x.high x.recv) (sym is)
      (record { world = h.world; lawful = h.lawful; disks = disks_fit m c.row h.world c.low c.high c.recv h.disks })

  module _ (s t : PumpState D) (disks : disks_in t ≡ coarse_disks (disks_in s)) (down : is_down_in t ≡ is_down_in s)
      (able : IsOpenWith (IsAble m) s → IsOpenWith (IsAble m) t) where
    pub still_keeps : Keeps m s → Keeps m t
    still_keeps k = record {
      row = subst (λ (x : BareDisks D). IsLawfulRow x.row) (sym disks) k.row;
      hold = λ told. ∥∥₁_map (k.hold told) (holds_still (disks_in s) (disks_in t) disks);
      able = λ up. able (k.able (sym down ∙ up));
    }

-- ---- a low side alone ----

pub low_parts_stand : (c : LowPumpParts) (p : PastAlone) → PartsStand c p
    → PartsStand (record c { row = coarse_row c.row; process = low.made_coarse c.process; store = low_made_coarse c.store }) p
low_parts_stand c p s = record {
  row = s.row;
  history = low_coarse.stands c.process p.history s.history;
  waits = s.waits;
  broken = s.broken;
  reading = s.reading;
  moment = s.moment;
  last = s.last;
  of_row = ap coarse_row s.of_row;
  up = s.up;
  store = record { ready = low_ready plain_meaning c.store s.store.ready; count = s.store.count; row = ap coarse_row s.store.row };
  armed = s.armed;
  room = s.room;
}
