-- Both processes of a pump are opened again, over the disks that they had.
use Rattle.std.proofs.Common.{◌≡◌, ◌⊎◌, inl, ⊎_elim, ℕ, ◌+◌, ◌-◌, ◌^◌, ◌≤◌, ◌<◌, ◌==◌, ◌&&◌, Bool, true, false, List, Option, Some, None, Ok, Err, refl, sym, ap, ◌∙◌, subst, arith}
use Rattle.std.specs.Prelude.{if◌then◌else◌, is_some}
use Rattle.std.specs.Coded.{le_prop}
use Rattle.std.proofs.Math.Logic.{∥∥₁_elim}
use Rattle.std.proofs.lemmas.Bool.{eqb-true}
use Rattle.disk_model.specs.Disk.{Meaning, Each, Moves, Same}
use Rattle.disk_model.specs.declared.name.Role.{Role}
use Rattle.disk_model.specs.declared.name.Role.TheVariants as roles
use Rattle.disk_model.proofs.Run.{each_after, leaves}
use Rattle.pump_frame.specs.declared.frame.Item.{Item}
use Rattle.stable_buffer.specs.Low.{low_disk}
use Rattle.stable_buffer.specs.High.{high_disk}
use Rattle.stable_buffer.specs.Register.{value_of}
use Rattle.stable_buffer.specs.Stands.{low_size}
use Rattle.high_receiver.specs.Receiving.{recv_disk}
use Rattle.high_receiver.specs.declared.receiver.Receiver.{Receiver}
use Rattle.low_process.specs.Looks as low
use Rattle.recovery.specs.Calls.{Calls, CallsHigh, is_low, is_high, is_device}
use Rattle.recovery.specs.Deals.{number_of}
use Rattle.recovery.specs.Faults.{why_values}
use Rattle.recovery.specs.Refusals.{refused_pump}
use Rattle.recovery.specs.declared.why.Why.{Why}
use Rattle.recovery.specs.declared.why.Why.TheVariants as whys
use Rattle.recovery.proofs.Triples.{each_world}
use Rattle.script_reader.specs.declared.event.EventHead.{EventHead}
use Rattle.script_reader.specs.Past.{Past}
use Rattle.script_reader.specs.Highs.{receiver_size}
use Rattle.two_worlds.specs.declared.applied.Stop.TheVariants.{Device, Disk}
use Rattle.two_worlds.specs.declared.pump.parts.Parts.{Parts}
use Rattle.two_worlds.specs.declared.pump.state.BareDisks.{BareDisks}
use Rattle.two_worlds.specs.declared.pump.state.PumpState.TheVariants.{Shut}
use Rattle.world_laws.specs.Disks.{LowFits, HighFits, RecvFits, RemovesBehind}
use Rattle.two_worlds.specs.Doing.{Fails, LowFitsAfter, LeavesFit, LeavesOn}
use Rattle.two_worlds.specs.Private.Restarting.{stop_for, RestartsFrom, RestartsOn, DisksRestart}
use Rattle.two_worlds.specs.Rooms.{Serves, stops_at}
use Rattle.two_worlds.specs.Standing.{Stands, StandsForSome, bare_of, bare_disk}
use Rattle.two_worlds.proofs.Carry.Serves.{recv_has, high_has}
use Rattle.two_worlds.proofs.Disks.Images.{recv_alone}
use Rattle.two_worlds.proofs.Disks.Leaving.{leaves_by_step}
use Rattle.two_worlds.proofs.Disks.LeavesWorld.{fits_row}
use Rattle.two_worlds.proofs.Opening.Comparing.{serves_by, serves_high}
use Rattle.two_worlds.proofs.Opening.Opened.{received_end}
use Rattle.two_worlds.proofs.Opening.Ready.{low_reading, high_reading, recv_reading}

-- ---- what is found ----

hand_by : (b : Bool) (hand : Option Item) (next : ℕ) → 1 ≤ next → number_of hand ≡ (if b then Some (next - 1) else None) → low.IsHand next hand
hand_by b None next some is = tt
hand_by true (Some x) next some is = let e : x.number ≡ next - 1 = cc in omega (arith, e, some)
hand_by false (Some x) next some is = absurd (cc)

-- the low hand has the last message of all, where it has one
pub last_hand : (hand : Option Item) (removed next capacity : ℕ) → 1 ≤ capacity → number_of hand ≡ (if next == removed + capacity then Some (next - 1) else None) → low.IsHand next hand
last_hand None removed next capacity some is = tt
last_hand (Some x) removed next capacity some is = by_full (next == removed + capacity) refl is where
  by_full : (b : Bool) → (next == removed + capacity) ≡ b → Some x.number ≡ (if b then Some (next - 1) else None) → x.number + 1 ≡ next
  by_full true full is = let e = eqb-true next (removed + capacity) full in hand_by true (Some x) next (omega (arith, e, some)) is
  by_full false full is = absurd (cc)

pub number_some : (hand : Option Item) → is_some (number_of hand) ≡ is_some hand
number_some None = refl
number_some (Some x) = refl

-- ---- disks that were read ----

module _ {D : Type 0} (m : Meaning D) (P : List ℕ → Type 0) (old new : D) (each : Each m P old) (same : Moves m Same old new) where
  pub each_same : Each m P new
  each_same = each_after m P P Same old new each (λ c d has is. subst P (sym is) has) same

  pub leaves_same : (Q : List ℕ → Type 0) → LeavesOn m old new (λ x. P x ⊎ Q x)
  leaves_same Q = leaves_by_step m P (λ x. P x ⊎ Q x) Same old new each (λ c d has is. inl (subst P (sym is) has)) same

module _ {D : Type 0} (m : Meaning D) (c : Parts D) where
  -- no crash leaves more removed than taken
  pub behind_read : (m.tells → ∥ StandsForSome m c ∥₁) → (new : D) → Moves m Same (high_disk c.high_store) new → RemovesBehind m (high_disk c.high_store) new (recv_disk c.receiver)
  behind_read some new same = λ told b since d image. ∥∥₁_elim (some (m.images_tell told)) le_prop (λ s.
      let removed : ℕ = s.0.world.removed in
      let is : (value_of b).0 ≡ removed =
      leaves m (λ x. (value_of x).0 ≡ removed) (λ x. (value_of x).0 ≡ removed) Same (high_disk c.high_store) new (high_has m c s.0 s.1) (λ x e. e) (λ x y e same. ap (λ (l : List ℕ). (value_of l).0) same ∙ e) same told b since in
      let taken = (recv_has m c s.0 s.1).images told d image in
      omega (arith, is, taken))

-- ---- whose disk ----

module _ (why : Why) (n : ℕ) where
  low_by : (b : Bool) (role : Role) → (is_low role && b) ≡ stops_at roles.Low (Some (if b then Device role n else Disk role why))
  low_by true roles.Low = refl
  low_by true roles.High = refl
  low_by true roles.Recv = refl
  low_by false roles.Low = refl
  low_by false roles.High = refl
  low_by false roles.Recv = refl

  high_by : (b : Bool) (role : Role) → (is_high role && b) ≡ stops_at roles.High (Some (if b then Device role n else Disk role why))
  high_by true roles.Low = refl
  high_by true roles.High = refl
  high_by true roles.Recv = refl
  high_by false roles.Low = refl
  high_by false roles.High = refl
  high_by false roles.Recv = refl

  recv_by : (b : Bool) (role : Role) → (role ≡ roles.Low) ⊎ (role ≡ roles.High) → stops_at roles.Recv (Some (if b then Device role n else Disk role why)) ≡ false
  recv_by true roles.Low is = refl
  recv_by true roles.High is = refl
  recv_by true roles.Recv is = ⊎_elim (λ e. absurd (cc)) (λ e. absurd (cc)) is
  recv_by false roles.Low is = refl
  recv_by false roles.High is = refl
  recv_by false roles.Recv is = refl

-- ---- refused ----

-- disks that stand for a world are refused for nothing
pub never_refused : {D : Type 0} (m : Meaning D) (c : Parts D) (p : Past) → m.tells → c.row.id < 2 ^ 32 → Stands m c p → refused_pump c.row (m.reading (low_disk c.low_store)) (m.reading (high_disk c.high_store)) ≡ None
never_refused m c p told small s =
    let w = p.world in
    let fits = fits_row m c p s in
    let recv = recv_reading c.row w _ s.sound.rest.packet (s.disks.recv_disk.reading told) in
    let end = received_end c.row w.received _ recv in
    (each_world c.row w receiver_size _ _ _ s.row small (record {
      lawful = s.sound.lawful;
      capacity = fits.capacity;
      count = (let few = c.low.in_range in omega (arith, few, s.world.accepted));
      room = (let within = s.recv_ready.ready.within in omega (arith, end, within, s.world.end, s.recv_ready.size));
      low_stands = low_reading c.row w _ s.sound.rest.storing (s.disks.low_disk.reading told);
      high_stands = high_reading c.row w _ s.sound.rest.removing (s.disks.high_disk.reading told);
      recv_stands = recv;
    })).pump

-- an opening of a pump was refused, and these are its disks
pub record IsNotOpened {D : Type 0} (m : Meaning D) (c : Parts D) (low high : D) (role : Role) (why : Why) : Type 0 where
  pub exact : is_device why ≡ false → m.tells → refused_pump c.row (m.reading (low_disk c.low_store)) (m.reading (high_disk c.high_store)) ≡ Some (role, why)
  pub device_low : is_device why ≡ true → role ≡ roles.Low → why ≡ whys.Device (m.count low)
  pub device_high : is_device why ≡ true → role ≡ roles.High → why ≡ whys.Device (m.count high)
  pub of_pump : (role ≡ roles.Low) ⊎ (role ≡ roles.High)
  pub low_same : Moves m Same (low_disk c.low_store) low
  pub high_same : Moves m Same (high_disk c.high_store) high

module _ {D : Type 0} (m : Meaning D) (c : Parts D) (low high : D) (role : Role) (why : Why) (n : IsNotOpened m c low high role why) where
  abbrev shut : BareDisks D
  shut = record { row = c.row; low = low; high = high; recv = recv_disk c.receiver }

  counted_by : (role : Role) → (role ≡ roles.Low → why ≡ whys.Device (m.count low)) → (role ≡ roles.High → why ≡ whys.Device (m.count high)) → (role ≡ roles.Low) ⊎ (role ≡ roles.High)
      → (why_values why).0 ≡ m.count (bare_disk role shut)
  counted_by roles.Low a b is = ap (λ (w : Why). (why_values w).0) (a refl)
  counted_by roles.High a b is = ap (λ (w : Why). (why_values w).0) (b refl)
  counted_by roles.Recv a b is = ⊎_elim (λ e. absurd (cc)) (λ e. absurd (cc)) is

  counted : is_device why ≡ true → (why_values why).0 ≡ m.count (bare_disk role shut)
  counted device = counted_by role (n.device_low device) (n.device_high device) n.of_pump

  -- the world is as it was, and the disks hold it
  pub refused_from : (moment : ℕ) (p : Past) → m.tells → c.row.id < 2 ^ 32 → Stands m c p → RestartsFrom m (bare_of c) (Shut shut) moment p (Err (stop_for role why))
  refused_from moment p told small s = by_why (is_device why) refl where
    fails : is_device why ≡ true → Fails m shut p role (why_values why).0
    fails device = record {
      counted = counted device;
      lawful = s.sound.lawful;
      fits = (let f = fits_row m c p s in record { capacity = f.capacity; count = f.count; end = f.end });
      disks = record {
        low_disk = each_same m (LowFits c.row p.world) (low_disk c.low_store) low s.disks.low_disk n.low_same;
        high_disk = each_same m (HighFits c.row p.world) (high_disk c.high_store) high s.disks.high_disk n.high_same;
        recv_disk = s.disks.recv_disk;
      };
    }

    left : LeavesFit m (bare_of c) shut p p
    left = record {
      low = leaves_same m (LowFits c.row p.world) (low_disk c.low_store) low s.disks.low_disk n.low_same (LowFitsAfter c.row p p);
      high = leaves_same m (HighFits c.row p.world) (high_disk c.high_store) high s.disks.high_disk n.high_same (HighFits c.row p.world);
      recv = recv_alone m c p s (RecvFits c.row p.world) (recv_disk c.receiver) refl;
    }

    by_why : (b : Bool) → is_device why ≡ b → RestartsFrom m (bare_of c) (Shut shut) moment p (Err (if b then Device role (why_values why).0 else Disk role why))
    by_why true e = (n.of_pump, refl, fails e, left)
    by_why false e = let no = sym (n.exact e told) ∙ never_refused m c p told small s in absurd (cc)

  pub refused_on : RestartsOn m (Shut shut) (Err (stop_for role why))
  refused_on = by_why (is_device why) refl where
    by_why : (b : Bool) → is_device why ≡ b → RestartsOn m (Shut shut) (Err (if b then Device role (why_values why).0 else Disk role why))
    by_why true e = (refl, counted e)
    by_why false e = (refl, e)

  pub refused_serves : (m.tells → ∥ StandsForSome m c ∥₁) → Calls m (low_disk c.low_store) low (is_low role && is_device why) → CallsHigh m c.row (low_disk c.low_store) (high_disk c.high_store) high (is_high role && is_device why)
      → DisksRestart m (bare_of c) shut (Err (stop_for role why))
  refused_serves some calls_low calls_high = (
    refl,
    record {
      low_goes = subst (λ (b : Bool). Serves m (low_size c.row) (low_disk c.low_store) low b) (low_by why (why_values why).0 (is_device why) role) (serves_by m (low_size c.row) (low_disk c.low_store) low _ calls_low);
      high_goes = subst (λ (b : Bool). Serves m 80 (high_disk c.high_store) high b) (high_by why (why_values why).0 (is_device why) role) (serves_high m 80 c.row (low_disk c.low_store) (high_disk c.high_store) high _ calls_high);
      recv_goes = inl (refl, recv_by why (why_values why).0 (is_device why) role n.of_pump);
      behind = behind_read m c some high n.high_same;
    },
  )

-- ---- opened ----

-- the disks of an opening that went well
pub opened_serves : {D : Type 0} (m : Meaning D) (c d : Parts D) → (m.tells → ∥ StandsForSome m c ∥₁) → d.row ≡ c.row → d.receiver ≡ c.receiver
    → Calls m (low_disk c.low_store) (low_disk d.low_store) false → CallsHigh m c.row (low_disk c.low_store) (high_disk c.high_store) (high_disk d.high_store) false
    → Moves m Same (high_disk c.high_store) (high_disk d.high_store) → (event : EventHead) → DisksRestart m (bare_of c) (bare_of d) (Ok event)
opened_serves m c d some row recv calls_low calls_high same event = (
  row,
  record {
    low_goes = serves_by m (low_size c.row) (low_disk c.low_store) (low_disk d.low_store) false calls_low;
    high_goes = serves_high m 80 c.row (low_disk c.low_store) (high_disk c.high_store) (high_disk d.high_store) false calls_high;
    recv_goes = inl (ap (λ (r : Receiver _). recv_disk r) recv, refl);
    behind = subst (λ (r : Receiver _). RemovesBehind m (high_disk c.high_store) (high_disk d.high_store) (recv_disk r)) (sym recv) (behind_read m c some (high_disk d.high_store) same);
  },
)

pub opened_leaves : {D : Type 0} (m : Meaning D) (c d : Parts D) (p q : Past) → Stands m c p → d.receiver ≡ c.receiver
    → Moves m Same (low_disk c.low_store) (low_disk d.low_store) → Moves m Same (high_disk c.high_store) (high_disk d.high_store) → LeavesFit m (bare_of c) (bare_of d) p q
opened_leaves m c d p q s recv low_same high_same = record {
  low = leaves_same m (LowFits c.row p.world) (low_disk c.low_store) (low_disk d.low_store) s.disks.low_disk low_same (LowFitsAfter c.row p q);
  high = leaves_same m (HighFits c.row p.world) (high_disk c.high_store) (high_disk d.high_store) s.disks.high_disk high_same (HighFits c.row q.world);
  recv = recv_alone m c p s (RecvFits c.row q.world) (recv_disk d.receiver) (ap (λ (r : Receiver _). recv_disk r) recv);
}
