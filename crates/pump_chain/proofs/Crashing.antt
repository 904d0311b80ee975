-- What crashes leave of the six disks while one of the two pumps is given a line.
use Rattle.std.proofs.Common.{◌≡◌, ◌⊎◌, inl, inr, ⊎_elim, ℕ, ◌+◌, ◌≤◌, Bool, true, false, List, length, Option, Some, None, refl, sym, ap, subst, arith}
use Rattle.std.specs.Prelude.{◌&&◌, if◌then◌else◌}
use Rattle.disk_model.specs.Disk.{Meaning, Each, Leaves, Moves as DiskMoves, Same}
use Rattle.disk_model.specs.declared.name.Role.{Role}
use Rattle.disk_model.specs.declared.name.Role.TheVariants as roles
use Rattle.disk_model.proofs.Run.{started}
use Rattle.pump_frame.specs.declared.payload.Payload.{Payload}
use Rattle.pump_frame.specs.declared.row.SessionRow.{SessionRow}
use Rattle.pump_core.specs.declared.event.Event.TheVariants.{Crash}
use Rattle.pump_core.specs.World.{World}
use Rattle.pump_core.specs.Events.{with_kept}
use Rattle.pump_core.specs.Lawful.{IsLawful, IsPrefixOf}
use Rattle.pump_core.proofs.Laws.{stays_lawful}
use Rattle.script_reader.specs.declared.event.Event.{Event as Printed}
use Rattle.script_reader.specs.declared.line.Line.{Line as ScriptLine}
use Rattle.script_reader.specs.Breaks.{Breaks}
use Rattle.script_reader.specs.Past.{Past}
use Rattle.script_reader.specs.Steps.{LineStep, Overfills}
use Rattle.stable_buffer.specs.Log.{RecvStands}
use Rattle.stable_buffer.specs.Register.{value_of}
use Rattle.stable_buffer.specs.Stands.{HighStands}
use Rattle.two_worlds.specs.declared.applied.Stop.{Stop}
use Rattle.two_worlds.specs.declared.applied.Stop.TheVariants.{Line, Device, Full, Disk}
use Rattle.two_worlds.specs.declared.pump.Pump.{Pump}
use Rattle.two_worlds.specs.declared.pump.state.PumpState.{PumpState}
use Rattle.two_worlds.specs.declared.pump.state.PumpState.TheVariants.{Open, Shut}
use Rattle.world_laws.specs.Disks.{LowFits, HighFits, RecvFits, DisksFit}
use Rattle.two_worlds.specs.Doing.{LeavesFit, LeavesOn, LowFitsAfter}
use Rattle.two_worlds.specs.Pumps.{StandsFor, FailsAt, disks_of, row_of, disk_at, Applies}
use Rattle.two_worlds.specs.Reads.{ReadsAlone}
use Rattle.two_worlds.specs.States.{disks_in, StandsIn}
use Rattle.two_worlds.proofs.Disks.Crashes.{LowAt, low_case, low_later, high_case, recv_case, and_right, kept_longer, prefix_length}
use Rattle.two_worlds.proofs.Disks.Leaving.{leaves_by_step, leaves_since}
use Rattle.pump_chain.specs.Standing.{IsLinked, Tell, LeavePrefixes}
use Rattle.pump_chain.proofs.Prefixes.{prefix_same, prefix_then, kept_prefix, kept_most}
use Rattle.pump_chain.proofs.Moving.{Above, Below, Moves, line_moves, breaks_move, overfills_move}

-- ---- the lists of one pump ----

-- what a crash keeps of a lawful world is at the receiver a prefix of what was accepted
crash_prefix : (w : World) (kept : Bool) → IsLawful w → IsPrefixOf (with_kept (kept && w.taking) w.packet w.received) w.accepted
crash_prefix w kept lawful = (stays_lawful w (Crash None (Some kept)) _ lawful refl).delivered.prefix

module _ (p q : World) (lawful_p : IsLawful p) (lawful_q : IsLawful q) (moves : Above p q ⊎ Below p q) where
  abbrev Either : World → Type 0
  Either w = (w ≡ p) ⊎ (w ≡ q)

  accepted_grows : IsPrefixOf p.accepted q.accepted
  accepted_grows = ⊎_elim (λ (a : Above p q). prefix_same _ _ (sym a.accepted)) (λ (b : Below p q). b.accepted) moves

  received_grows : IsPrefixOf p.received q.received
  received_grows = ⊎_elim (λ (a : Above p q). a.received) (λ (b : Below p q). prefix_same _ _ (sym b.received)) moves

  -- what was accepted before is a prefix of all that is told accepted
  accepted_from : (w : World) (kept : Bool) → Either w → IsPrefixOf p.accepted (with_kept kept w.storing w.accepted)
  accepted_from w kept (inl e) = prefix_then p.accepted w.accepted _ (prefix_same _ _ (sym (ap (λ (x : World). x.accepted) e))) (kept_prefix kept w.storing w.accepted)
  accepted_from w kept (inr e) =
      prefix_then p.accepted w.accepted _ (prefix_then p.accepted q.accepted w.accepted accepted_grows (prefix_same _ _ (sym (ap (λ (x : World). x.accepted) e)))) (kept_prefix kept w.storing w.accepted)

  -- all that is told received is a prefix of what was accepted before
  abbrev told_received : World → Bool → List Payload
  told_received w kept = with_kept (kept && w.taking) w.packet w.received

  received_to : (w : World) (kept : Bool) → Either w → IsPrefixOf (told_received w kept) p.accepted
  received_to w kept (inl e) = subst (λ (x : World). IsPrefixOf (told_received x kept) p.accepted) (sym e) (crash_prefix p kept lawful_p)
  received_to w kept (inr e) = subst (λ (x : World). IsPrefixOf (told_received x kept) p.accepted) (sym e) (⊎_elim
      (λ (a : Above p q). prefix_then (told_received q kept) q.accepted p.accepted (crash_prefix q kept lawful_q) (prefix_same _ _ a.accepted))
      (λ (b : Below p q). subst (λ (l : List Payload). IsPrefixOf l p.accepted) (λ i. with_kept (kept && sym b.taking i) (sym b.packet i) (sym b.received i)) (crash_prefix p kept lawful_p))
      moves)

  -- what was received before is a prefix of all that is told received
  received_from : (w : World) (kept : Bool) → Either w → IsPrefixOf p.received (told_received w kept)
  received_from w kept (inl e) = prefix_then p.received w.received _ (prefix_same _ _ (sym (ap (λ (x : World). x.received) e))) (kept_prefix (kept && w.taking) w.packet w.received)
  received_from w kept (inr e) =
      prefix_then p.received w.received _ (prefix_then p.received q.received w.received received_grows (prefix_same _ _ (sym (ap (λ (x : World). x.received) e)))) (kept_prefix (kept && w.taking) w.packet w.received)

-- ---- what is left of a pump ----

-- whatever crashes leave of a receiver's disk that fits a world tells all that the world has received
last_told : {D : Type 0} (m : Meaning D) (row : SessionRow) (w : World) (disk : D) → Each m (RecvFits row w) disk → m.tells_images → (c : List ℕ) → m.images disk c → length w.received ≤ (value_of c).0
last_told m row w disk each told c image =
    let r = recv_case row w c (each.images told c image) in
    let count = ap (λ (v : ℕ × ℕ). v.0) r.1.value in
    let longer = kept_longer (r.0 && w.taking) w.packet w.received in
    omega (arith, count, longer)

-- the disks of s fit a world, and whatever crashes since s left of each disk fits this one or a second one; these are lawful,
-- a line led from the one to the other, and at the end the receiver's disk tells all that the second one has received
pub record Left {D : Type 0} {g : _} (m : Meaning D) (s t : Pump D g) (p q : Past) : Type 0 where
  pub before : DisksFit m (row_of s) (disk_at roles.Low s) (disk_at roles.High s) (disk_at roles.Recv s) p.world
  pub leaves : LeavesFit m (disks_of s) (disks_of t) p q
  pub last : m.tells_images → (c : List ℕ) → m.images (disk_at roles.Recv t) c → length q.world.received ≤ (value_of c).0
  pub lawful : IsLawful q.world
  pub moves : Moves p q

stays_above : (w : World) → Above w w
stays_above w = record { accepted = refl; storing = refl; received = prefix_same w.received w.received refl }

state_lawful : {D : Type 0} (m : Meaning D) (s : PumpState D) (p : Past) → StandsIn m s p → IsLawful p.world
state_lawful m (Open c) p s = s.sound.lawful
state_lawful m (Shut d) p s = absurd s

pub pump_lawful : {D : Type 0} {g : _} (m : Meaning D) (s : Pump D g) (p : Past) → StandsFor m s p → IsLawful p.world
pump_lawful m s p stands = state_lawful m s.state p stands

state_fits : {D : Type 0} (m : Meaning D) (s : PumpState D) (p : Past) → StandsIn m s p → DisksFit m (disks_in s).row (disks_in s).low (disks_in s).high (disks_in s).recv p.world
state_fits m (Open c) p s = s.disks
state_fits m (Shut d) p s = absurd s

fits : {D : Type 0} {g : _} (m : Meaning D) (s : Pump D g) (p : Past) → StandsFor m s p → DisksFit m (row_of s) (disk_at roles.Low s) (disk_at roles.High s) (disk_at roles.Recv s) p.world
fits m s p stands = state_fits m s.state p stands

-- no byte of its disks is changed
abbrev pub AreSame : {D : Type 0} {g : _} → Meaning D → Pump D g → Pump D g → Type 0
AreSame m s t = (role : Role) → DiskMoves m Same (disk_at role s) (disk_at role t)

module _ {D : Type 0} {g : _} (m : Meaning D) (s t : Pump D g) (p : Past) (stands : StandsFor m s p) (same : AreSame m s t) where
  -- a disk that is read, or is as it was, leaves what it left
  unmoved : (P Q : List ℕ → Type 0) (old new : D) → Each m P old → DiskMoves m Same old new → LeavesOn m old new (λ x. P x ⊎ Q x)
  unmoved P Q old new each same = leaves_by_step m P (λ x. P x ⊎ Q x) Same old new each (λ x y fit is. inl (subst P (sym is) fit)) same

  still_last : m.tells_images → (c : List ℕ) → m.images (disk_at roles.Recv t) c → length p.world.received ≤ (value_of c).0
  still_last told c image =
      let (d, was, e) = (same roles.Recv).now told c image in
      subst (λ (x : List ℕ). length p.world.received ≤ (value_of x).0) (sym e) (last_told m (row_of s) p.world (disk_at roles.Recv s) (fits m s p stands).recv_disk told d was)

  pub left_still : Left m s t p p
  left_still = record {
    before = fits m s p stands;
    leaves = record {
      low = unmoved (LowFits (row_of s) p.world) (LowFitsAfter (row_of s) p p) _ _ (fits m s p stands).low_disk (same roles.Low);
      high = unmoved (HighFits (row_of s) p.world) (HighFits (row_of s) p.world) _ _ (fits m s p stands).high_disk (same roles.High);
      recv = unmoved (RecvFits (row_of s) p.world) (RecvFits (row_of s) p.world) _ _ (fits m s p stands).recv_disk (same roles.Recv);
    };
    last = still_last;
    lawful = pump_lawful m s p stands;
    moves = inl (stays_above p.world);
  }

same_alone : {D : Type 0} {g : _} (m : Meaning D) (s t : Pump D g) → ((role : Role) → disk_at role t ≡ disk_at role s) → AreSame m s t
same_alone {D} m s t same role = subst (λ (x : D). DiskMoves m Same (disk_at role s) x) (sym (same role)) (started m Same (λ c. refl) (disk_at role s))

-- its disks are as they were
pub left_same : {D : Type 0} {g : _} (m : Meaning D) (s t : Pump D g) (p : Past) → StandsFor m s p → ((role : Role) → disk_at role t ≡ disk_at role s) → Left m s t p p
left_same m s t p stands same = left_still m s t p stands (same_alone m s t same)

-- the other pump is as it was
pub left_alone : {D : Type 0} {g : _} (m : Meaning D) (s t : Pump D g) (p : Past) → StandsFor m s p → t ≡ s → Left m s t p p
left_alone {D} {g} m s t p stands e = left_same m s t p stands (λ role. ap (λ (x : Pump D g). disk_at role x) e)

-- its receiver was read, whether that failed or not
same_read : {D : Type 0} {g : _} (m : Meaning D) (s t : Pump D g) (is_fault : Bool) → ReadsAlone m roles.Recv s.state t.state is_fault → AreSame m s t
same_read {D} m s t is_fault r roles.Low = subst (λ (x : D). DiskMoves m Same (disk_at roles.Low s) x) (sym (r.others roles.Low refl)) (started m Same (λ c. refl) (disk_at roles.Low s))
same_read {D} m s t is_fault r roles.High = subst (λ (x : D). DiskMoves m Same (disk_at roles.High s) x) (sym (r.others roles.High refl)) (started m Same (λ c. refl) (disk_at roles.High s))
same_read {D} m s t is_fault r roles.Recv = r.same

pub left_read : {D : Type 0} {g : _} (m : Meaning D) (s t : Pump D g) (p : Past) (is_fault : Bool) → StandsFor m s p → ReadsAlone m roles.Recv s.state t.state is_fault → Left m s t p p
left_read m s t p is_fault stands r = left_still m s t p stands (same_read m s t is_fault r)

-- ---- a line ----

module _ {D : Type 0} {g : _} (m : Meaning D) (s t : Pump D g) (line : ScriptLine) (printed : List Printed) (p q : Past) (stands : StandsFor m s p) where
  pub left_going : LineStep (row_of s) p line q printed → StandsFor m t q → LeavesFit m (disks_of s) (disks_of t) p q → Left m s t p q
  left_going step is leaves = record {
    before = fits m s p stands;
    leaves = leaves;
    last = last_told m (row_of t) q.world (disk_at roles.Recv t) (fits m t q is).recv_disk;
    lawful = pump_lawful m t q is;
    moves = line_moves (row_of s) p line q printed step;
  }

  pub left_broken : (role : Role) (faults : ℕ) → Breaks (row_of s) p line role q printed → FailsAt m t q role faults → LeavesFit m (disks_of s) (disks_of t) p q → Left m s t p q
  left_broken role faults breaks (down, fails) leaves = record {
    before = fits m s p stands;
    leaves = leaves;
    last = last_told m (row_of t) q.world (disk_at roles.Recv t) fails.disks.recv_disk;
    lawful = fails.lawful;
    moves = breaks_move (row_of s) p line role q printed breaks;
  }

  pub left_full : (end k size : ℕ) → Overfills (row_of s) p line q printed end k size → StandsFor m t q → LeavesFit m (disks_of s) (disks_of t) p q → Left m s t p q
  left_full end k size over is leaves = record {
    before = fits m s p stands;
    leaves = leaves;
    last = last_told m (row_of t) q.world (disk_at roles.Recv t) (fits m t q is).recv_disk;
    lawful = pump_lawful m t q is;
    moves = inl (overfills_move (row_of s) p line q printed end k size over).world;
  }

pub left_by_line : {D : Type 0} {g : _} (m : Meaning D) (s t : Pump D g) (line : ScriptLine) (printed : List Printed) (p : Past) → StandsFor m s p → (stop : Option Stop) → Applies m s t line p printed stop
    → (q : Past) × Left m s t p q
left_by_line m s t line printed p stands None (timely, (q, step, is, leaves, timed)) = (q, left_going m s t line printed p q stands step is leaves)
left_by_line m s t line printed p stands (Some Line) (refused, none, e) = (p, left_alone m s t p stands e)
left_by_line m s t line printed p stands (Some (Device role faults)) (timely, (q, breaks, fails, leaves)) = (q, left_broken m s t line printed p q stands role faults breaks fails leaves)
left_by_line m s t line printed p stands (Some (Full end k size)) (timely, (q, over, is, leaves)) = (q, left_full m s t line printed p q stands end k size over is leaves)
left_by_line m s t line printed p stands (Some (Disk role why)) a = absurd a

-- ---- both pumps ----

-- what crashes since s left of each disk
module _ {D : Type 0} {g : _} (m : Meaning D) (s t : Pump D g) (p q : Past) (l : Left m s t p q) where
  low_since : Leaves m (disk_at roles.Low s) (disk_at roles.Low t) (λ x. LowFits (row_of s) p.world x ⊎ LowFitsAfter (row_of s) p q x)
  low_since = leaves_since m _ (disk_at roles.Low s) (disk_at roles.Low t) (λ told x image. inl (l.before.low_disk.images told x image)) l.leaves.low

  high_since : Leaves m (disk_at roles.High s) (disk_at roles.High t) (λ x. HighFits (row_of s) p.world x ⊎ HighFits (row_of s) q.world x)
  high_since = leaves_since m _ (disk_at roles.High s) (disk_at roles.High t) (λ told x image. inl (l.before.high_disk.images told x image)) l.leaves.high

  recv_since : Leaves m (disk_at roles.Recv s) (disk_at roles.Recv t) (λ x. RecvFits (row_of s) p.world x ⊎ RecvFits (row_of s) q.world x)
  recv_since = leaves_since m _ (disk_at roles.Recv s) (disk_at roles.Recv t) (λ told x image. inl (l.before.recv_disk.images told x image)) l.leaves.recv

-- of two worlds, one that a disk fits
module _ (Fits : World → List ℕ → Type 0) (p q : World) (disk : List ℕ) where
  which : Fits p disk ⊎ Fits q disk → (w : World) × ((w ≡ p) ⊎ (w ≡ q)) × Fits w disk
  which (inl f) = (p, inl refl, f)
  which (inr f) = (q, inr refl, f)

-- .. of the low disk, one in which as many messages are removed as at p
which_low : (row : SessionRow) (p q : Past) (disk : List ℕ) → LowFits row p.world disk ⊎ LowFitsAfter row p q disk → (w : World) × ((w ≡ p.world) ⊎ (w ≡ q.world)) × LowFits row w disk × (w.removed ≡ p.world.removed)
which_low row p q disk (inl f) = (p.world, inl refl, f, refl)
which_low row p q disk (inr (still, f)) = (q.world, inr refl, f, still)

-- the lists that the disks of a pump tell, by the worlds that they fit
module _ (row : SessionRow) (w x v : World) (low high recv : List ℕ) (a : (kept : Bool) × LowAt row w.removed (with_kept kept w.storing w.accepted) low)
    (b : (kept : Bool) × HighStands row (if kept && x.removing then x.removed + 1 else x.removed) high) (r : (kept : Bool) × RecvStands row (with_kept (kept && v.taking) v.packet v.received) recv) where
  abbrev Lists : Type 0
  Lists = Tell row (with_kept a.0 w.storing w.accepted) (with_kept (r.0 && v.taking) v.packet v.received) low high recv

  -- what is removed by the low disk was received
  tell_lists : w.removed ≤ length (with_kept (r.0 && v.taking) v.packet v.received) → IsPrefixOf (with_kept (r.0 && v.taking) v.packet v.received) (with_kept a.0 w.storing w.accepted) → Lists
  tell_lists few prefix = record {
    recv_is = r.1;
    low_is = low_later row w.removed (length (with_kept (r.0 && v.taking) v.packet v.received)) (with_kept a.0 w.storing w.accepted) low few (prefix_length _ prefix.0 _ prefix.1) a.1;
    removed = if b.0 && x.removing then x.removed + 1 else x.removed;
    high_is = b.1;
  }

-- what is removed, or is being removed, was received
removed_by : (x : World) (kept : Bool) → IsLawful x → (if kept && x.removing then x.removed + 1 else x.removed) ≤ length x.received
removed_by x kept lawful = by (kept && x.removing) (and_right kept x.removing)
  where
    by : (b : Bool) → (b ≡ true → x.removing ≡ true) → (if b then x.removed + 1 else x.removed) ≤ length x.received
    by true is = (let less = lawful.delivered.due (lawful.bounded.removal.cause (is refl)) in omega (arith, less))
    by false is = lawful.delivered.removed

-- what is removed was received where the receiver's list is no shorter than that of the world after the line
module _ (p q : World) (moves : Above p q ⊎ Below p q) (lawful_p : IsLawful p) (lawful_q : IsLawful q) where
  grows : length p.received ≤ length q.received
  grows = (let prefix = received_grows p q lawful_p lawful_q moves in prefix_length p.received prefix.0 q.received prefix.1)

  within : (w : World) (n : ℕ) → (w ≡ p) ⊎ (w ≡ q) → (told : ℕ) → length q.received ≤ told → n ≤ length w.received → n ≤ told
  within w n (inl e) told last few = (let long = grows in let same = ap (λ (x : World). length x.received) e in omega (arith, long, same, last, few))
  within w n (inr e) told last few = (let same = ap (λ (x : World). length x.received) e in omega (arith, same, last, few))

  -- what was removed before the line was received, whatever is told
  removed_before : (w v : World) (kept : Bool) → w.removed ≡ p.removed → (v ≡ p) ⊎ (v ≡ q) → w.removed ≤ length (told_received p q lawful_p lawful_q moves v kept)
  removed_before w v kept still is_v =
      let few = lawful_p.delivered.removed in
      let prefix = received_from p q lawful_p lawful_q moves v kept is_v in
      let long = prefix_length p.received prefix.0 _ prefix.1 in
      omega (arith, still, few, long)

module _ {D : Type 0} {g : _} (m : Meaning D) (s t s' t' : Pump D g) (p q p' q' : Past) (l : Left m s t p q) (l' : Left m s' t' p' q')
    (lawful : IsLawful p.world) (lawful' : IsLawful p'.world) (before : IsLinked p.world p'.world) (after : IsLinked p.world q'.world) where
  linked_to : (w : World) → (w ≡ p'.world) ⊎ (w ≡ q'.world) → (kept : Bool) → IsPrefixOf (with_kept kept w.storing w.accepted) p.world.received
  linked_to w (inl e) kept = subst (λ (x : World). IsPrefixOf (with_kept kept x.storing x.accepted) p.world.received) (sym e) (prefix_then _ _ _ (kept_most kept p'.world.storing p'.world.accepted) before)
  linked_to w (inr e) kept = subst (λ (x : World). IsPrefixOf (with_kept kept x.storing x.accepted) p.world.received) (sym e) (prefix_then _ _ _ (kept_most kept q'.world.storing q'.world.accepted) after)

  lawful_of : (v x w : World) → IsLawful v → IsLawful x → (w ≡ v) ⊎ (w ≡ x) → IsLawful w
  lawful_of v x w one other either = ⊎_elim (λ (e : w ≡ v). subst IsLawful (sym e) one) (λ (e : w ≡ x). subst IsLawful (sym e) other) either

  pub prefixes : LeavePrefixes m s t s' t'
  unfolding tell_lists
  prefixes told low high recv low' high' recv' since_low since_high since_recv since_low' since_high' since_recv' =
      let (w, is_w, fit_w, still) = which_low (row_of s) p q low (low_since m s t p q l told low since_low) in
      let (x, is_x, fit_x) = which (HighFits (row_of s)) p.world q.world high (high_since m s t p q l told high since_high) in
      let (v, is_v, fit_v) = which (RecvFits (row_of s)) p.world q.world recv (recv_since m s t p q l told recv since_recv) in
      let (w', is_w', fit_w', still') = which_low (row_of s') p' q' low' (low_since m s' t' p' q' l' told low' since_low') in
      let (x', is_x', fit_x') = which (HighFits (row_of s')) p'.world q'.world high' (high_since m s' t' p' q' l' told high' since_high') in
      let (v', is_v', fit_v') = which (RecvFits (row_of s')) p'.world q'.world recv' (recv_since m s' t' p' q' l' told recv' since_recv') in
      let lawful_w = lawful_of p.world q.world w lawful l.lawful is_w in
      let lawful_x = lawful_of p.world q.world x lawful l.lawful is_x in
      let lawful_w' = lawful_of p'.world q'.world w' lawful' l'.lawful is_w' in
      let lawful_x' = lawful_of p'.world q'.world x' lawful' l'.lawful is_x' in
      let a = low_case (row_of s) w low lawful_w.bounded.within.below fit_w in
      let b = high_case (row_of s) x high fit_x in
      let r = recv_case (row_of s) v recv fit_v in
      let a' = low_case (row_of s') w' low' lawful_w'.bounded.within.below fit_w' in
      let b' = high_case (row_of s') x' high' fit_x' in
      let r' = recv_case (row_of s') v' recv' fit_v' in
      let taken : IsPrefixOf (with_kept (r.0 && v.taking) v.packet v.received) (with_kept a.0 w.storing w.accepted) =
      prefix_then _ p.world.accepted _ (received_to p.world q.world lawful l.lawful l.moves v r.0 is_v) (accepted_from p.world q.world lawful l.lawful l.moves w a.0 is_w) in
      let taken' : IsPrefixOf (with_kept (r'.0 && v'.taking) v'.packet v'.received) (with_kept a'.0 w'.storing w'.accepted) =
      prefix_then _ p'.world.accepted _ (received_to p'.world q'.world lawful' l'.lawful l'.moves v' r'.0 is_v') (accepted_from p'.world q'.world lawful' l'.lawful l'.moves w' a'.0 is_w') in (
        record {
          accepted = with_kept a.0 w.storing w.accepted;
          received = with_kept (r.0 && v.taking) v.packet v.received;
          next_accepted = with_kept a'.0 w'.storing w'.accepted;
          next_received = with_kept (r'.0 && v'.taking) v'.packet v'.received;
          tell = tell_lists (row_of s) w x v low high recv a b r (removed_before p.world q.world l.moves lawful l.lawful w v r.0 still is_v) taken;
          next_tell = tell_lists (row_of s') w' x' v' low' high' recv' a' b' r' (removed_before p'.world q'.world l'.moves lawful' l'.lawful w' v' r'.0 still' is_v') taken';
          taken = taken;
          next_taken = taken';
          sent_on = prefix_then _ p.world.received _ (linked_to w' is_w' a'.0) (received_from p.world q.world lawful l.lawful l.moves v r.0 is_v);
        },
        (λ image.
            let last = l.last told recv image in
            let count = ap (λ (n : ℕ × ℕ). n.0) r.1.value in
            let enough : length q.world.received ≤ length (with_kept (r.0 && v.taking) v.packet v.received) = omega (arith, last, count) in
            within p.world q.world l.moves lawful l.lawful x _ is_x _ enough (removed_by x b.0 lawful_x)),
        (λ image.
            let last = l'.last told recv' image in
            let count = ap (λ (n : ℕ × ℕ). n.0) r'.1.value in
            let enough : length q'.world.received ≤ length (with_kept (r'.0 && v'.taking) v'.packet v'.received) = omega (arith, last, count) in
            within p'.world q'.world l'.moves lawful' l'.lawful x' _ is_x' _ enough (removed_by x' b'.0 lawful_x')),
      )
