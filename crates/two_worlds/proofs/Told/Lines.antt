-- From the looks of a low side alone to its lines.
use Rattle.std.proofs.Common.{◌≡◌, ℕ, ◌≤◌, ◌++◌, Bool, true, false, List, length, Option, Some, None, refl, sym, ap, ◌∙◌, subst, inr}
use Rattle.std.specs.Prelude.{◌&&◌, ◌||◌, ◌==◌, nat_le}
use Rattle.std.proofs.lemmas.Bool.{and_parts, eqb-true, eq-eqb, le-leb}
use Rattle.disk_model.specs.Plain.{Plain, plain_meaning}
use Rattle.disk_model.specs.declared.name.Role.TheVariants as roles
use Rattle.pump_frame.specs.Readings.{Reading}
use Rattle.pump_core.specs.History.{Arrival}
use Rattle.pump_core.specs.History.{Gone}
use Rattle.std.proofs.Math.Logic.{∥∥₁_elim}
use Rattle.std.proofs.Props.{props}
use Rattle.stable_buffer.specs.Low.{low_disk}
use Rattle.stable_buffer.specs.Stands.{low_size}
use Rattle.stable_buffer.specs.declared.low.LowStore.{LowStore}
use Rattle.low_process.specs.declared.process.LowProcess.{LowProcess}
use Rattle.low_process.specs.Whole.{IsStoreOf}
use Rattle.script_reader.specs.declared.event.Event.{Event}
use Rattle.script_reader.specs.declared.head.Act.{Act}
use Rattle.script_reader.specs.declared.head.Act.TheVariants as acts
use Rattle.script_reader.specs.Heads.{act_with}
use Rattle.script_reader.specs.declared.line.Arriving.{Arriving}
use Rattle.script_reader.specs.declared.line.Line.{Line}
use Rattle.script_reader.specs.declared.line.Line.TheVariants as lines
use Rattle.script_reader.specs.declared.line.ToldFeedback.{ToldFeedback}
use Rattle.script_reader.specs.declared.line.ToldFeedback.TheVariants.{Quiet}
use Rattle.script_reader.specs.Lows.{first_of}
use Rattle.script_reader.specs.Steps.{LineComing, Arrives}
use Rattle.script_reader.specs.Alone.{PastAlone, IsToldAt, joined_alone, lost_alone, tells_level, is_apt_alone, IsRefusedAlone, StepAlone}
use Rattle.two_worlds.specs.Connections.{Connected, waits_of, is_broken_of, reading_of, unused, joined, Joins}
use Rattle.two_worlds.specs.LowPumpParts.{PartsStand, StandsForSome, armed_if, EndsBy, Crowds, IsJoinedTold}
use Rattle.two_worlds.specs.declared.applied.Stop.{Stop}
use Rattle.two_worlds.specs.declared.applied.Stop.TheVariants as stops
use Rattle.two_worlds.specs.declared.low_pump.parts.LowPumpParts.{LowPumpParts}

-- ---- how a line ends, by a part of it ----

-- what could not fail to be done led on from parts before
pub ends_after : (Bars : Type 0) (Does More : Bool → PastAlone → List Event → Type 0) (c e d : LowPumpParts) (events : List Event) (stop : Option Stop)
    → ((fault : Bool) (q : PastAlone) (printed : List Event) → Does fault q printed → More fault q printed)
    → EndsBy ⊥ Does e d events stop → EndsBy Bars More c d events stop
ends_after Bars Does More c e d events None f h = (h.0, f false h.0 events h.1, h.2)
ends_after Bars Does More c e d events (Some stops.Line) f h = absurd h.0
ends_after Bars Does More c e d events (Some (stops.Device roles.Low faults)) f h = ((h.0.0, f true h.0.0 events h.0.1), h.1, h.2)
ends_after Bars Does More c e d events (Some (stops.Device roles.High faults)) f h = absurd h
ends_after Bars Does More c e d events (Some (stops.Device roles.Recv faults)) f h = absurd h
ends_after Bars Does More c e d events (Some (stops.Full end size_of_message size)) f h = absurd h
ends_after Bars Does More c e d events (Some (stops.Disk role why)) f h = absurd h

pub ends_as : (Bars Bars' : Type 0) (Does More : Bool → PastAlone → List Event → Type 0) (c d : LowPumpParts) (events : List Event) (stop : Option Stop)
    → (Bars → Bars') → ((fault : Bool) (q : PastAlone) (printed : List Event) → Does fault q printed → More fault q printed)
    → EndsBy Bars Does c d events stop → EndsBy Bars' More c d events stop
ends_as Bars Bars' Does More c d events None b f h = (h.0, f false h.0 events h.1, h.2)
ends_as Bars Bars' Does More c d events (Some stops.Line) b f h = (b h.0, h.1, h.2)
ends_as Bars Bars' Does More c d events (Some (stops.Device roles.Low faults)) b f h = ((h.0.0, f true h.0.0 events h.0.1), h.1, h.2)
ends_as Bars Bars' Does More c d events (Some (stops.Device roles.High faults)) b f h = absurd h
ends_as Bars Bars' Does More c d events (Some (stops.Device roles.Recv faults)) b f h = absurd h
ends_as Bars Bars' Does More c d events (Some (stops.Full end size_of_message size)) b f h = absurd h
ends_as Bars Bars' Does More c d events (Some (stops.Disk role why)) b f h = absurd h

-- ---- what comes before a look ----

or_armed : (b : Bool) → true ≡ (b || true)
or_armed true = refl
or_armed false = refl

or_calm : (b : Bool) → b ≡ (b || false)
or_calm true = refl
or_calm false = refl

armed_is : (fault : Bool) (store : LowStore Plain) → (low_disk (armed_if fault store)).armed ≡ ((low_disk store).armed || fault)
armed_is true store = or_armed (low_disk store).armed
armed_is false store = or_calm (low_disk store).armed

room_is : (fault : Bool) (store : LowStore Plain) → (low_disk store).room ≡ (low_disk (armed_if fault store)).room
room_is true store = refl
room_is false store = refl

-- a store whose disk is armed is ready
still_of : (fault : Bool) (p : LowProcess) (store : LowStore Plain) → IsStoreOf plain_meaning p store → IsStoreOf plain_meaning p (armed_if fault store)
still_of false p store of = of
still_of true p store of = record {
  ready = record {
    ready = record {
      is_open = of.ready.ready.is_open;
      parity = of.ready.ready.parity;
      each = record { reading = of.ready.ready.each.reading; images = λ no. absurd no };
    };
    count = of.ready.count;
    second = of.ready.second;
    lawful = of.ready.lawful;
    ranges = of.ready.ranges;
    settled = λ no. absurd no;
    stands = of.ready.stands;
  };
  count = of.count;
  row = of.row;
}

-- the parts with another connection and store
abbrev pub with_comings : LowPumpParts → Connected → LowStore Plain → LowPumpParts
with_comings c k store = record { row = c.row; connection = k; process = c.process; store = store; moment = c.moment }

pub joins_stand : (c : LowPumpParts) (p : PastAlone) (fault : Bool) (come : LineComing) → PartsStand c p → PartsStand (with_comings c (joined c.connection come) (armed_if fault c.store)) (joined_alone p fault come)
joins_stand c p fault come was = record {
  row = was.row;
  history = was.history;
  waits = ap (λ (l : List Arrival). l ++ come.added) was.waits;
  broken = was.broken;
  reading = refl;
  moment = was.moment;
  last = was.last;
  of_row = was.of_row;
  up = was.up;
  store = still_of fault c.process c.store was.store;
  armed = armed_is fault c.store ∙ ap (λ b. b || fault) was.armed;
  room = subst (λ (n : ℕ). low_size c.row ≤ n) (room_is fault c.store) was.room;
}

pub lost_stands : (c : LowPumpParts) (p : PastAlone) (k : Connected) → k ≡ unused → PartsStand c p → PartsStand (with_comings c k c.store) (lost_alone p)
lost_stands c p k none was = record {
  row = was.row;
  history = was.history;
  waits = ap waits_of none;
  broken = ap is_broken_of none;
  reading = ap reading_of none;
  moment = was.moment;
  last = was.last;
  of_row = was.of_row;
  up = was.up;
  store = was.store;
  armed = was.armed;
  room = was.room;
}

-- ---- lines ----

-- a `told` line: what comes joins what waits
module _ (c : LowPumpParts) (k : Connected) (store : LowStore Plain) (fault : Bool) (a : Arriving) (joins : Joins c.connection k c.row.id a true) (arms : store ≡ armed_if fault c.store) where
  abbrev mid : LowPumpParts
  mid = with_comings c k store

  mid_is : with_comings c (joined c.connection joins.0) (armed_if fault c.store) ≡ mid
  mid_is = ap (λ (t : Connected × LowStore Plain). with_comings c t.0 t.1) (λ i. (sym joins.2.1 i, sym arms i))

  stands_with : (p : PastAlone) → PartsStand c p → PartsStand mid (joined_alone p fault joins.0)
  stands_with p was = subst (λ (t : LowPumpParts). PartsStand t (joined_alone p fault joins.0)) mid_is (joins_stand c p fault joins.0 was)

  pub told_stands : ∥ StandsForSome c ∥₁ → ∥ StandsForSome mid ∥₁
  told_stands some = ∥∥₁_elim some (hlevel props) (λ s. ∣ (joined_alone s.0 fault joins.0, stands_with s.0 s.1) ∣₁)

  pub told_ends : (d : LowPumpParts) (m w : ℕ) (told : ToldFeedback) (events : List Event) (stop : Option Stop)
      → ((p : PastAlone) → PartsStand mid p
      → EndsBy ⊥ (λ is_fault q printed. IsToldAt c.row p m w told (first_of p.is_broken p.waits) is_fault q printed) mid d events stop)
      → (p : PastAlone) → PartsStand c p → EndsBy (Crowds c.row fault a p) (IsJoinedTold c.row m w fault told a p) c d events stop
  told_ends d m w told events stop looks p was =
      let come = joins.0 in
      let p' = joined_alone p fault come in
      ends_after (Crowds c.row fault a p) (λ is_fault q printed. IsToldAt c.row p' m w told (first_of p'.is_broken p'.waits) is_fault q printed) (IsJoinedTold c.row m w fault told a p)
      c mid d events stop
      (λ is_fault q printed look. (
        come,
        subst (λ (r : Reading). Arrives c.row.id r a come) was.reading joins.1,
        (subst (λ (l : List Arrival). length (l ++ come.added) ≤ 64) was.waits joins.2.0, look),
      )) (looks p' (stands_with p was))

-- a `gone` line
module _ (c : LowPumpParts) (k : Connected) (none : k ≡ unused) where
  pub gone_stands : ∥ StandsForSome c ∥₁ → ∥ StandsForSome (with_comings c k c.store) ∥₁
  gone_stands some = ∥∥₁_elim some (hlevel props) (λ s. ∣ (lost_alone s.0, lost_stands c s.0 k none s.1) ∣₁)

  pub gone_ends : (d : LowPumpParts) (m : ℕ) (events : List Event) (stop : Option Stop)
      → ((p : PastAlone) → PartsStand (with_comings c k c.store) p
      → EndsBy ⊥ (λ is_fault q printed. IsToldAt c.row p m 0 Quiet Gone is_fault q printed) (with_comings c k c.store) d events stop)
      → (p : PastAlone) → PartsStand c p → EndsBy ⊥ (λ is_fault q printed. IsToldAt c.row (lost_alone p) m 0 Quiet Gone is_fault q printed) c d events stop
  gone_ends d m events stop looks p was =
      ends_after ⊥ (λ is_fault q printed. IsToldAt c.row (lost_alone p) m 0 Quiet Gone is_fault q printed) (λ is_fault q printed. IsToldAt c.row (lost_alone p) m 0 Quiet Gone is_fault q printed)
      c (with_comings c k c.store) d events stop (λ is_fault q printed look. look) (looks (lost_alone p) (lost_stands c p k none was))

-- ---- which lines can be applied ----

module _ (c : LowPumpParts) (p : PastAlone) (was : PartsStand c p) where
  timely_is : (session m : ℕ) → (session == c.row.id && nat_le c.moment m) ≡ (session == c.row.id && nat_le p.moment m)
  timely_is session m = ap (λ (n : ℕ). session == c.row.id && nat_le n m) was.moment

  apt_is : (session m : ℕ) (told : ToldFeedback)
      → (session == c.row.id && (nat_le c.moment m && tells_level c.row told)) ≡ (session == c.row.id && (nat_le p.moment m && tells_level c.row told))
  apt_is session m told = ap (λ (n : ℕ). session == c.row.id && (nat_le n m && tells_level c.row told)) was.moment

  names : (session : ℕ) (more : Bool) → (session == c.row.id && more) ≡ true → c.row.id ≡ session
  names session more apt = sym (eqb-true session c.row.id (and_parts (session == c.row.id) more apt).0)

  module _ (session m w : ℕ) (fault : Bool) (told : ToldFeedback) (a : Arriving) (d : LowPumpParts) (events : List Event) (stop : Option Stop)
      (apt : (session == c.row.id && (nat_le c.moment m && tells_level c.row told)) ≡ true) where
    abbrev told_line : Line
    told_line = lines.Told session m w fault told a

    pub applies_told : EndsBy (Crowds c.row fault a p) (IsJoinedTold c.row m w fault told a p) c d events stop
        → EndsBy (IsRefusedAlone c.row p told_line) (λ is_fault q printed. (is_apt_alone c.row p told_line ≡ true) × StepAlone c.row p told_line is_fault q printed) c d events stop
    applies_told h =
        ends_as (Crowds c.row fault a p) (IsRefusedAlone c.row p told_line) (IsJoinedTold c.row m w fault told a p)
        (λ is_fault q printed. (is_apt_alone c.row p told_line ≡ true) × StepAlone c.row p told_line is_fault q printed) c d events stop
        (λ crowds. inr (crowds.0, subst (λ (n : ℕ). Arrives n p.reading a crowds.0) (names session (nat_le c.moment m && tells_level c.row told) apt) crowds.1, crowds.2))
        (λ is_fault q printed look. (sym (apt_is session m told) ∙ apt, (look.0, subst (λ (n : ℕ). Arrives n p.reading a look.0) (names session (nat_le c.moment m && tells_level c.row told) apt) look.1, look.2))) h

  module _ (session m : ℕ) (d : LowPumpParts) (events : List Event) (stop : Option Stop) (timely : (session == c.row.id && nat_le c.moment m) ≡ true) where
    abbrev gone_line : Line
    gone_line = lines.Gone session m

    pub applies_gone : EndsBy ⊥ (λ is_fault q printed. IsToldAt c.row (lost_alone p) m 0 Quiet Gone is_fault q printed) c d events stop
        → EndsBy (IsRefusedAlone c.row p gone_line) (λ is_fault q printed. (is_apt_alone c.row p gone_line ≡ true) × StepAlone c.row p gone_line is_fault q printed) c d events stop
    applies_gone h =
        ends_after (IsRefusedAlone c.row p gone_line) (λ is_fault q printed. IsToldAt c.row (lost_alone p) m 0 Quiet Gone is_fault q printed)
        (λ is_fault q printed. (is_apt_alone c.row p gone_line ≡ true) × StepAlone c.row p gone_line is_fault q printed) c c d events stop
        (λ is_fault q printed look. (sym (timely_is session m) ∙ timely, look)) h

-- ---- lines that have a moment ----

and_more : (a b more : Bool) → (a && b) ≡ false → (a && (b && more)) ≡ false
and_more true true more e = absurd (cc)
and_more true false more e = refl
and_more false b more e = refl

module _ (c : LowPumpParts) (p : PastAlone) (was : PartsStand c p) where
  -- of another session, or with a moment that falls
  pub late_alone : (bytes : List ℕ) (session moment : ℕ) (act : Act) → (session == c.row.id && nat_le c.moment moment) ≡ false
      → is_apt_alone c.row p (act_with bytes session moment act) ≡ false
  late_alone bytes session moment (acts.Told w fault told a) late =
      and_more (session == c.row.id) (nat_le p.moment moment) (tells_level c.row told) (sym (timely_is c p was session moment) ∙ late)
  late_alone bytes session moment acts.Gone late = sym (timely_is c p was session moment) ∙ late
  late_alone bytes session moment (acts.Look w a) late = refl
  late_alone bytes session moment (acts.Step w) late = refl
  late_alone bytes session moment acts.High late = refl
  late_alone bytes session moment (acts.Return back) late = refl
  late_alone bytes session moment (acts.Done time) late = refl
  late_alone bytes session moment acts.Restart late = refl
  late_alone bytes session moment acts.ReceiverRestart late = refl

-- of the parts' own session, with a moment that does not fall
module _ (c : LowPumpParts) (moment : ℕ) (order : c.moment ≤ moment) where
  pub on_time : (c.row.id == c.row.id && nat_le c.moment moment) ≡ true
  on_time = rw (eq-eqb c.row.id c.row.id refl, le-leb c.moment moment order) refl

  pub on_time_and : (more : Bool) → (c.row.id == c.row.id && (nat_le c.moment moment && more)) ≡ more
  on_time_and more = rw (eq-eqb c.row.id c.row.id refl, le-leb c.moment moment order) refl

  -- and with an average that is no level
  pub untold : (p : PastAlone) → PartsStand c p → (told : ToldFeedback) → tells_level c.row told ≡ false
      → (c.row.id == c.row.id && (nat_le p.moment moment && tells_level c.row told)) ≡ false
  untold p was told level = sym (apt_is c p was c.row.id moment told) ∙ on_time_and (tells_level c.row told) ∙ level
