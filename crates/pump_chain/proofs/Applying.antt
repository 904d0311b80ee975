-- What a line does to one pump of a chain, it does to the chain.
use Rattle.std.proofs.Common.{◌≡◌, inl, inr, ⊎_elim, max, Bool, true, false, List, [], Option, Some, None, refl, sym, ap, ◌∙◌, subst}
use Rattle.std.specs.Prelude.{◌||◌, is_none, if◌then◌else◌}
use Rattle.std.specs.List.{All}
use Rattle.std.proofs.lemmas.Bool.{or_parts, or_right}
use Rattle.std.proofs.lemmas.List.Elements.{All-weaker}
use Rattle.std.proofs.Math.Bool.{or-false}
use Rattle.disk_model.specs.Disk.{Meaning}
use Rattle.disk_model.specs.declared.name.Role.{Role}
use Rattle.pump_core.specs.Events.{with_kept}
use Rattle.pump_core.specs.History.{Arrival}
use Rattle.pump_core.specs.History.{Nothing, Came, Bad, Gone}
use Rattle.pump_core.specs.Lawful.{IsPrefixOf}
use Rattle.pump_core.specs.World.{World}
use Rattle.pump_frame.specs.declared.payload.Payload.{Payload}
use Rattle.pump_frame.specs.declared.row.SessionRow.{SessionRow}
use Rattle.script_reader.specs.declared.event.Event.{Event as Printed}
use Rattle.script_reader.specs.declared.line.Line.{Line as ScriptLine}
use Rattle.script_reader.specs.Past.{Past}
use Rattle.script_reader.specs.Breaks.{Breaks}
use Rattle.script_reader.specs.Scripts.{coarsened}
use Rattle.script_reader.specs.Sessions.{moment_in, is_from}
use Rattle.script_reader.specs.Steps.{is_timely, LineStep, IsRefusedWhole, Overfills}
use Rattle.two_worlds.specs.declared.applied.Stop.{Stop}
use Rattle.two_worlds.specs.declared.applied.Stop.TheVariants.{Line, Device, Full, Disk}
use Rattle.two_worlds.specs.declared.pump.Pump.{Pump}
use Rattle.two_worlds.specs.declared.pump.state.PumpState.{PumpState}
use Rattle.two_worlds.specs.declared.pump.state.PumpState.TheVariants.{Open, Shut}
use Rattle.two_worlds.specs.LowPumps.{stops_at_disk}
use Rattle.two_worlds.specs.Doing.{LeavesFit}
use Rattle.two_worlds.specs.Pumps.{StandsFor, StandsOrFails, disks_of, row_of, disk_at, Applies}
use Rattle.two_worlds.specs.States.{kept_moment_in, StandsIn}
use Rattle.pump_chain.specs.declared.chain.Chain.{Chain}
use Rattle.pump_chain.specs.declared.sender.Sender.{Sender}
use Rattle.pump_chain.specs.Chained.{Chained, OfFirst, OfSecond, MakesFirst, MakesSecond, is_in_order, received_of, first_led, second_led, sender_after, with_coarse}
use Rattle.pump_chain.specs.Private.{order_by}
use Rattle.pump_chain.specs.Standing.{ChainStands, ChainStandsOrFails, AppliesBy, FailsWith, LeaveBoth, LeavePrefixes, LeavesPrefixes, IsSentOn, IsLinked, with_first, with_second}
use Rattle.pump_chain.proofs.Counting.{Goes, rose_in, fails_own}
use Rattle.pump_chain.proofs.Crashing.{Left, pump_lawful, left_alone, left_same, left_going, left_broken, left_full, left_by_line, prefixes}
use Rattle.pump_chain.proofs.Prefixes.{prefix_same, prefix_then, in_longer}
use Rattle.pump_chain.proofs.Linking.{CountsAccepted, pump_counts, AddsOf, line_sent, breaks_sent}
use Rattle.pump_chain.proofs.Moving.{Above, Below, Moves, line_moves, breaks_move, overfills_move}

-- ---- pumps ----

state_moment : {D : Type 0} (m : Meaning D) (s : PumpState D) (p : Past) → StandsIn m s p → kept_moment_in s ≡ p.moment
state_moment m (Open c) p s = s.moment
state_moment m (Shut d) p s = absurd s

state_rests : {D : Type 0} (m : Meaning D) (s : PumpState D) (p : Past) → StandsIn m s p → p.world.storing ≡ None
state_rests m (Open c) p s = s.sound.rest.storing
state_rests m (Shut d) p s = absurd s

none_kept : (w : World) → w.storing ≡ None → with_kept true w.storing w.accepted ≡ w.accepted
none_kept w e = ap (λ (o : Option Payload). with_kept true o w.accepted) e

-- the order of a line is the one by what the pumps keep
pub order_is : {D : Type 0} {g : _} (m : Meaning D) (s : Chain D g) (c : Chained) (line : ScriptLine) → ChainStands m s c → order_by s line ≡ is_in_order c line
order_is m s c line S = λ i. is_from (max (state_moment m s.first.state c.first.past S.first i) (state_moment m s.second.state c.second.past S.second i)) (moment_in line)

pub moves_on : (p q : Past) → Moves p q → IsPrefixOf p.world.received q.world.received
moves_on p q m = ⊎_elim (λ (a : Above p.world q.world). a.received) (λ (b : Below p.world q.world). prefix_same _ _ (sym b.received)) m

-- what is sent on of a list is of a longer one
pub still_sent : (xs ys : List Payload) (waits : List Arrival) → IsPrefixOf xs ys → All (IsSentOn xs) waits → All (IsSentOn ys) waits
still_sent xs ys waits prefix all = All-weaker (IsSentOn xs) (IsSentOn ys) each waits all
  where
    each : (a : Arrival) → IsSentOn xs a → IsSentOn ys a
    each Nothing h = tt
    each Bad h = tt
    each Gone h = tt
    each (Came f) h = λ is. in_longer xs ys f.number f.payload prefix (h is)

-- ---- a line of the first session ----

module _ {D : Type 0} {g : _} (m : Meaning D) (s t : Chain D g) (c : Chained) (line : ScriptLine) (printed : List Printed) (S : ChainStands m s c) (order : is_in_order c line ≡ true)
    (row : row_of t.first ≡ row_of s.first) (second : t.second ≡ s.second) (sender : t.sender ≡ s.sender) where
  abbrev p : Past
  p = c.first.past

  at_row : (P : SessionRow → Type 0) → P (row_of s.first) → P c.first.row
  at_row P h = subst P S.first_row h

  still : (q : Past) → IsPrefixOf p.world.received q.world.received → IsLinked q.world c.second.past.world
  still q prefix = prefix_then _ p.world.received q.world.received S.linked prefix

  second_stands : StandsFor m t.second c.second.past
  second_stands = subst (λ (x : Pump D g). StandsFor m x c.second.past) (sym second) S.second

  second_row : row_of t.second ≡ c.second.row
  second_row = ap (λ (x : Pump D g). row_of x) second ∙ S.second_row

  -- the second pump's disks are as they were
  both_left : (q : Past) → LeavesFit m (disks_of s.first) (disks_of t.first) p q → LeaveBoth m s t c (with_first c q)
  both_left q leaves = record { first = leaves; second = (left_alone m s.second t.second c.second.past S.second second).leaves }

  fails : (q : Past) → StandsOrFails m t.first q → IsPrefixOf p.world.received q.world.received → ChainStandsOrFails m t (with_first c q)
  fails q either prefix = record { first = either; first_row = row ∙ S.first_row; second = inl second_stands; second_row = second_row; linked = still q prefix }

  pub first_applies : (stop : Option Stop) → (stop ≡ None → t.is_under_way ≡ true) → (stop ≡ Some Line → t.is_under_way ≡ s.is_under_way)
      → Goes m s.first t.first stop → Applies m s.first t.first line p printed stop → AppliesBy m s t c (OfFirst line) printed stop
  first_applies None way same go (timely, (q, step, stands, leaves, timed)) =
      let prefix = moves_on p q (line_moves (row_of s.first) p line q printed step) in (
        first_led c q,
        (order, (q, (at_row (λ r. is_timely r p line ≡ true) timely, at_row (λ r. LineStep r p line q printed) step), refl)),
        record {
          first = stands;
          first_row = row ∙ S.first_row;
          second = second_stands;
          second_row = second_row;
          sender = sender ∙ S.sender;
          under_way = way refl;
          linked = still q prefix;
          waits = still_sent p.world.received q.world.received c.second.past.waits prefix S.waits;
        },
        record { first = leaves; second = (both_left q leaves).second },
      )
  first_applies (Some Line) way same go (refused, none, e) = (
    inr (at_row (λ r. IsRefusedWhole r p line) refused),
    none,
    record {
      first = subst (λ (x : Pump D g). StandsFor m x p) (sym e) S.first;
      first_row = row ∙ S.first_row;
      second = second_stands;
      second_row = second_row;
      sender = sender ∙ S.sender;
      under_way = same refl ∙ S.under_way;
      linked = S.linked;
      waits = S.waits;
    },
    record { first = (left_alone m s.first t.first p S.first e).leaves; second = (left_alone m s.second t.second c.second.past S.second second).leaves },
  )
  first_applies (Some (Device role faults)) way same go (timely, (q, breaks, failed, leaves)) = (
    with_first c q,
    (order, (q, (at_row (λ r. is_timely r p line ≡ true) timely, at_row (λ r. Breaks r p line role q printed) breaks), refl)),
    fails q (inr (role, faults, failed)) (moves_on p q (breaks_move (row_of s.first) p line role q printed breaks)),
    both_left q leaves,
    (rose_in m s.first t.first role faults go, failed.1.counted),
  )
  first_applies (Some (Full end k size)) way same go (timely, (q, over, stands, leaves)) = (
    with_first c q,
    (order, (q, (at_row (λ r. is_timely r p line ≡ true) timely, at_row (λ r. Overfills r p line q printed end k size) over), refl)),
    fails q (inl stands) (overfills_move (row_of s.first) p line q printed end k size over).world.received,
    both_left q leaves,
  )
  first_applies (Some (Disk role why)) way same go a = absurd a

-- ---- a line of the second session ----

-- u is the chain as the line finds it, and two the second pump after it
module _ {D : Type 0} {g : _} (m : Meaning D) (u : Chain D g) (two : Pump D g) (c : Chained) (line : ScriptLine) (printed : List Printed) (S : ChainStands m u c) (adds : AddsOf (received_of c) line) where
  abbrev r : Past
  r = c.second.past

  abbrev received : List Payload
  received = received_of c

  counts : CountsAccepted (row_of u.second) r
  counts = pump_counts m u.second.state r S.second

  accepted_prefix : IsPrefixOf r.world.accepted received
  accepted_prefix = prefix_then r.world.accepted _ received (prefix_same _ _ (sym (none_kept r.world (state_rests m u.second.state r S.second)))) S.linked

  linked_at_rest : (q : Past) → StandsFor m two q → IsPrefixOf q.world.accepted received → IsLinked c.first.past.world q.world
  linked_at_rest q stands prefix = prefix_then _ q.world.accepted received (prefix_same _ _ (none_kept q.world (state_rests m two.state q stands))) prefix

  -- what the line leaves of the second pump, and that what it has accepted is linked still
  pub second_left : (stop : Option Stop) → Applies m u.second two line r printed stop → (q : Past) × Left m u.second two r q × IsLinked c.first.past.world q.world
  second_left None (timely, (q, step, stands, leaves, timed)) = (
    q,
    left_going m u.second two line printed r q S.second step stands leaves,
    linked_at_rest q stands ((line_sent received (row_of u.second) r line q printed adds step).accepted counts S.waits accepted_prefix),
  )
  second_left (Some Line) (refused, none, e) = (r, left_alone m u.second two r S.second e, S.linked)
  second_left (Some (Device role faults)) (timely, (q, breaks, failed, leaves)) = (
    q,
    left_broken m u.second two line printed r q S.second role faults breaks failed leaves,
    breaks_sent received (row_of u.second) r line role q printed adds breaks counts S.waits accepted_prefix S.linked,
  )
  second_left (Some (Full end k size)) (timely, (q, over, stands, leaves)) = (
    q,
    left_full m u.second two line printed r q S.second end k size over stands leaves,
    linked_at_rest q stands (prefix_then q.world.accepted r.world.accepted received (prefix_same _ _ (overfills_move (row_of u.second) r line q printed end k size over).world.accepted) accepted_prefix),
  )
  second_left (Some (Disk role why)) a = absurd a

-- the first receiver may have been read before it
module _ {D : Type 0} {g : _} (m : Meaning D) (s u t : Chain D g) (c : Chained) (line : ScriptLine) (printed : List Printed) (S : ChainStands m u c)
    (row : row_of t.second ≡ row_of u.second) (first : t.first ≡ u.first) (adds : AddsOf (received_of c) line) (second : u.second ≡ s.second) (left : Left m s.first t.first c.first.past c.first.past) where
  abbrev rest : Past
  rest = c.second.past

  abbrev sent_on : List Payload
  sent_on = received_of c

  in_row : (P : SessionRow → Type 0) → P (row_of u.second) → P c.second.row
  in_row P h = subst P S.second_row h

  first_stands : StandsFor m t.first c.first.past
  first_stands = subst (λ (x : Pump D g). StandsFor m x c.first.past) (sym first) S.first

  first_row : row_of t.first ≡ c.first.row
  first_row = ap (λ (x : Pump D g). row_of x) first ∙ S.first_row

  ends : (q : Past) → StandsOrFails m t.second q → IsLinked c.first.past.world q.world → ChainStandsOrFails m t (with_second c q)
  ends q either linked = record { first = inl first_stands; first_row = first_row; second = either; second_row = row ∙ S.second_row; linked = linked }

  second_left_both : (q : Past) → LeavesFit m (disks_of u.second) (disks_of t.second) rest q → LeaveBoth m s t c (with_second c q)
  second_left_both q leaves = record { first = left.leaves; second = subst (λ (x : Pump D g). LeavesFit m (disks_of x) (disks_of t.second) rest q) second leaves }

  pub second_applies : (stop : Option Stop) → is_in_order c line ≡ true → (stop ≡ None → (t.is_under_way ≡ true) × (t.sender ≡ sender_after c.sender line printed)) → (stop ≡ Some Line → (t.is_under_way ≡ u.is_under_way) × (t.sender ≡ u.sender))
      → Goes m u.second t.second stop → Applies m u.second t.second line rest printed stop → AppliesBy m s t c (OfSecond line) printed stop
  second_applies None order way same go (timely, (q, step, stands, leaves, timed)) =
      let sent = line_sent sent_on (row_of u.second) rest line q printed adds step in (
        second_led c line printed q,
        (order, (q, (in_row (λ x. is_timely x rest line ≡ true) timely, in_row (λ x. LineStep x rest line q printed) step), refl)),
        record {
          first = first_stands;
          first_row = first_row;
          second = stands;
          second_row = row ∙ S.second_row;
          sender = (way refl).1;
          under_way = (way refl).0;
          linked = linked_at_rest m u t.second c line printed S adds q stands (sent.accepted (counts m u t.second c line printed S adds) S.waits (accepted_prefix m u t.second c line printed S adds));
          waits = sent.waits S.waits;
        },
        record { first = left.leaves; second = (second_left_both q leaves).second },
      )
  second_applies (Some Line) order way same go (refused, none, e) = (
    inr (in_row (λ x. IsRefusedWhole x rest line) refused),
    none,
    record {
      first = first_stands;
      first_row = first_row;
      second = subst (λ (x : Pump D g). StandsFor m x rest) (sym e) S.second;
      second_row = row ∙ S.second_row;
      sender = (same refl).1 ∙ S.sender;
      under_way = (same refl).0 ∙ S.under_way;
      linked = S.linked;
      waits = S.waits;
    },
    record { first = left.leaves; second = (second_left_both rest (left_alone m u.second t.second rest S.second e).leaves).second },
  )
  second_applies (Some (Device role faults)) order way same go (timely, (q, breaks, failed, leaves)) = (
    with_second c q,
    (order, inl (q, (in_row (λ x. is_timely x rest line ≡ true) timely, in_row (λ x. Breaks x rest line role q printed) breaks), refl)),
    ends q (inr (role, faults, failed)) (breaks_sent sent_on (row_of u.second) rest line role q printed adds breaks (counts m u t.second c line printed S adds) S.waits (accepted_prefix m u t.second c line printed S adds) S.linked),
    second_left_both q leaves,
    fails_own m (row_of u.second) rest line role q printed faults breaks s.first t.first s.second t.second
        (subst (λ (x : Pump D g). FailsWith m (disk_at role x) (disk_at role t.second) faults) second (rose_in m u.second t.second role faults go, failed.1.counted)),
  )
  second_applies (Some (Full end k size)) order way same go (timely, (q, over, stands, leaves)) = (
    with_second c q,
    (order, (q, (in_row (λ x. is_timely x rest line ≡ true) timely, in_row (λ x. Overfills x rest line q printed end k size) over), refl)),
    ends q (inl stands) (linked_at_rest m u t.second c line printed S adds q stands (prefix_then q.world.accepted rest.world.accepted sent_on (prefix_same _ _ (overfills_move (row_of u.second) rest line q printed end k size over).world.accepted) (accepted_prefix m u t.second c line printed S adds))),
    second_left_both q leaves,
  )
  second_applies (Some (Disk role why)) order way same go a = absurd a

-- ---- the six disks ----

-- a line of the first session
pub first_prefixes : {D : Type 0} {g : _} (m : Meaning D) (s : Chain D g) (one two : Pump D g) (c : Chained) (line : ScriptLine) (printed : List Printed) (stop : Option Stop) → ChainStands m s c → two ≡ s.second
    → Applies m s.first one line c.first.past printed stop → LeavePrefixes m s.first one s.second two
first_prefixes m s one two c line printed stop S second a =
    let p = c.first.past in
    let r = c.second.past in
    let l = left_by_line m s.first one line printed p S.first stop a in
    prefixes m s.first one s.second two p l.0 r r l.1 (left_alone m s.second two r S.second second) (pump_lawful m s.first p S.first) (pump_lawful m s.second r S.second) S.linked S.linked

-- one of the second session, behind which the first pump is as it was, or its receiver was read
pub second_prefixes : {D : Type 0} {g : _} (m : Meaning D) (s u : Chain D g) (one two : Pump D g) (c : Chained) (line : ScriptLine) (printed : List Printed) (stop : Option Stop) (S : ChainStands m s c) (U : ChainStands m u c) (l : Left m s.first one c.first.past c.first.past)
    → u.second ≡ s.second → row_of two ≡ row_of u.second → one ≡ u.first → AddsOf (received_of c) line → Applies m u.second two line c.second.past printed stop → LeavePrefixes m s.first one s.second two
second_prefixes {D} {g} m s u one two c line printed stop S U l same row first adds a =
    let p = c.first.past in
    let r = c.second.past in
    let k = second_left m u two c line printed U adds stop a in
    subst (λ (x : Pump D g). LeavePrefixes m s.first one x two) same
    (prefixes m s.first one u.second two p p r k.0 l k.1 (pump_lawful m s.first p S.first) (pump_lawful m u.second r U.second) S.linked k.2)

-- nothing was done but that the first receiver was read
pub read_prefixes : {D : Type 0} {g : _} (m : Meaning D) (s : Chain D g) (one two : Pump D g) (c : Chained) → ChainStands m s c → Left m s.first one c.first.past c.first.past → two ≡ s.second → LeavePrefixes m s.first one s.second two
read_prefixes m s one two c S l second =
    let p = c.first.past in
    let r = c.second.past in
    prefixes m s.first one s.second two p p r r l (left_alone m s.second two r S.second second) (pump_lawful m s.first p S.first) (pump_lawful m s.second r S.second) S.linked S.linked

-- nothing was done
pub still_prefixes : {D : Type 0} {g : _} (m : Meaning D) (s : Chain D g) (c : Chained) → ChainStands m s c → LeavesPrefixes m s s
still_prefixes m s c S = read_prefixes m s s.first s.second c S (left_alone m s.first s.first c.first.past S.first refl) refl

-- of each disk what was left
pub still_both : {D : Type 0} {g : _} (m : Meaning D) (s : Chain D g) (c : Chained) → ChainStands m s c → LeaveBoth m s s c c
still_both m s c S = record { first = (left_alone m s.first s.first c.first.past S.first refl).leaves; second = (left_alone m s.second s.second c.second.past S.second refl).leaves }

-- ---- a session is made coarse ----

module _ {D : Type 0} {g : _} (m : Meaning D) (s t : Chain D g) (c : Chained) (S : ChainStands m s c) (new : s.is_under_way ≡ false) (sender : t.sender ≡ s.sender) (under_way : t.is_under_way ≡ s.is_under_way)
    (first_same : (role : Role) → disk_at role t.first ≡ disk_at role s.first) (second_same : (role : Role) → disk_at role t.second ≡ disk_at role s.second) where
  coarse_first : LeavesFit m (disks_of s.first) (disks_of t.first) c.first.past c.first.past
  coarse_first = (left_same m s.first t.first c.first.past S.first first_same).leaves

  coarse_second : LeavesFit m (disks_of s.second) (disks_of t.second) c.second.past c.second.past
  coarse_second = (left_same m s.second t.second c.second.past S.second second_same).leaves

  still_new : c.is_under_way ≡ false
  still_new = sym S.under_way ∙ new

  pub first_coarse : t.second ≡ s.second → (row_of s.first).coarse ≡ false → row_of t.first ≡ record (row_of s.first) { coarse = true } → ((p : Past) → StandsFor m s.first p → StandsFor m t.first p) → AppliesBy m s t c MakesFirst [] None
  first_coarse second plain row stands = (
    record c { first = with_coarse c.first },
    (still_new, sym (ap (λ (r : SessionRow). r.coarse) S.first_row) ∙ plain, refl, refl),
    record {
      first = stands c.first.past S.first;
      first_row = row ∙ ap coarsened S.first_row;
      second = subst (λ (x : Pump D g). StandsFor m x c.second.past) (sym second) S.second;
      second_row = ap (λ (x : Pump D g). row_of x) second ∙ S.second_row;
      sender = sender ∙ S.sender;
      under_way = under_way ∙ S.under_way;
      linked = S.linked;
      waits = S.waits;
    },
    record { first = coarse_first; second = coarse_second },
  )

  pub second_coarse : t.first ≡ s.first → (row_of s.second).coarse ≡ false → row_of t.second ≡ record (row_of s.second) { coarse = true } → ((p : Past) → StandsFor m s.second p → StandsFor m t.second p) → AppliesBy m s t c MakesSecond [] None
  second_coarse first plain row stands = (
    record c { second = with_coarse c.second },
    (still_new, sym (ap (λ (r : SessionRow). r.coarse) S.second_row) ∙ plain, refl, refl),
    record {
      first = subst (λ (x : Pump D g). StandsFor m x c.first.past) (sym first) S.first;
      first_row = ap (λ (x : Pump D g). row_of x) first ∙ S.first_row;
      second = stands c.second.past S.second;
      second_row = row ∙ ap coarsened S.second_row;
      sender = sender ∙ S.sender;
      under_way = under_way ∙ S.under_way;
      linked = S.linked;
      waits = S.waits;
    },
    record { first = coarse_first; second = coarse_second },
  )

-- with all disks as they were
pub same_prefixes : {D : Type 0} {g : _} (m : Meaning D) (s : Chain D g) (one two : Pump D g) (c : Chained) → ChainStands m s c → ((role : Role) → disk_at role one ≡ disk_at role s.first) → ((role : Role) → disk_at role two ≡ disk_at role s.second) → LeavePrefixes m s.first one s.second two
same_prefixes m s one two c S first second =
    let p = c.first.past in
    let r = c.second.past in
    prefixes m s.first one s.second two p p r r (left_same m s.first one p S.first first) (left_same m s.second two r S.second second) (pump_lawful m s.first p S.first) (pump_lawful m s.second r S.second) S.linked S.linked

-- ---- flags ----

pub none_way : (b : Bool) (stop : Option Stop) (way : Bool) → way ≡ (b || is_none stop) → (stop ≡ None → way ≡ true) × (stop ≡ Some Line → way ≡ b)
none_way b stop way e = (
  (λ none. e ∙ ap (λ (s : Option Stop). b || is_none s) none ∙ or_right b true refl),
  (λ line. e ∙ ap (λ (s : Option Stop). b || is_none s) line ∙ or-false b),
)

pub down_first : (a b new : Bool) (stop : Option Stop) → (a || b) ≡ false → new ≡ stops_at_disk stop → (new || b) ≡ stops_at_disk stop
down_first a b new stop up e = ap (λ (x : Bool). new || x) (or_parts a b up).1 ∙ or-false new ∙ e

-- the sender after a line, where it was applied and where it was refused
pub sent_way : (was of : Sender) (line : ScriptLine) (printed : List Printed) (stop : Option Stop) (is_applied : Bool) (new : Sender) → was ≡ of → is_applied ≡ is_none stop → new ≡ (if is_applied then sender_after was line printed else was)
    → (stop ≡ None → new ≡ sender_after of line printed) × (stop ≡ Some Line → new ≡ was)
sent_way was of line printed stop is_applied new same applied e = (
  (λ none. e ∙ ap (λ (b : Bool). if b then sender_after was line printed else was) (applied ∙ ap (λ (x : Option Stop). is_none x) none) ∙ ap (λ (x : Sender). sender_after x line printed) same),
  (λ refused. e ∙ ap (λ (b : Bool). if b then sender_after was line printed else was) (applied ∙ ap (λ (x : Option Stop). is_none x) refused)),
)
