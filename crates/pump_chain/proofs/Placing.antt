-- A place in the first receiver's log stays the place of its record.
use Rattle.std.proofs.Common.{◌≡◌, ℕ, ◌+◌, ◌<◌, false, ⊎_elim, Result, Ok, Err, OnOk, OnErr, List, ◌++◌, length, sum_by, Option, Some, None, sym, ap, ◌∙◌, subst, length-append, arith}
use Rattle.std.proofs.lemmas.List.{take-append-le}
use Rattle.std.proofs.Math.Logic.{∥∥₁_elim, ∥∥₁_map}
use Rattle.std.proofs.Props.{props}
use Rattle.std.specs.Coded.{le_prop}
use Rattle.disk_model.specs.Disk.{Meaning}
use Rattle.disk_model.specs.declared.name.Role.TheVariants as roles
use Rattle.high_receiver.specs.Receiving.{record_at}
use Rattle.pump_frame.specs.declared.payload.Payload.{Payload}
use Rattle.pump_core.specs.Lawful.{IsPrefixOf}
use Rattle.script_reader.specs.declared.event.Event.{Event as Printed}
use Rattle.script_reader.specs.declared.line.Line.{Line as ScriptLine}
use Rattle.script_reader.specs.Past.{Past}
use Rattle.two_worlds.specs.declared.applied.Stop.{Stop}
use Rattle.two_worlds.specs.declared.applied.Stop.TheVariants.{Line, Device, Full, Disk}
use Rattle.two_worlds.specs.declared.pump.Pump.{Pump}
use Rattle.two_worlds.specs.declared.pump.parts.Parts.{Parts}
use Rattle.two_worlds.specs.declared.pump.state.PumpState.{PumpState}
use Rattle.two_worlds.specs.declared.pump.state.PumpState.TheVariants.{Open, Shut}
use Rattle.two_worlds.specs.Pumps.{StandsFor, counts_of, row_of, is_down, Applies}
use Rattle.two_worlds.specs.Reads.{ReadsOn, FailsReading}
use Rattle.two_worlds.specs.Standing.{Stands}
use Rattle.two_worlds.specs.States.{counts_in, is_down_in, StandsIn}
use Rattle.two_worlds.proofs.Disks.OpensSurely.{one_received}
use Rattle.two_worlds.proofs.Lines.Kept.{kept_able, able_stands, works_up}
use Rattle.two_worlds.proofs.Opening.Ready.{recv_reading}
use Rattle.two_worlds.proofs.Opening.Working.{works_of}
use Rattle.pump_chain.specs.declared.place.LogPlace.{LogPlace}
use Rattle.pump_chain.specs.Keeping.{KnowsPlace, Keeps}
use Rattle.pump_chain.proofs.Prefixes.{prefix_same, prefix_then}
use Rattle.pump_chain.proofs.Moving.{Above, Below, Moves, line_moves, overfills_move}

-- ---- lists ----

pub same_place : (place : LogPlace) (xs ys : List Payload) → xs ≡ ys → KnowsPlace place xs → KnowsPlace place ys
same_place place xs ys e k = record { few = (let few = k.few in let l = ap length e in omega (arith, few, l)); at = k.at ∙ ap (λ (l : List Payload). record_at l place.number) e }

pub longer_place : (place : LogPlace) (xs ys : List Payload) → IsPrefixOf xs ys → KnowsPlace place xs → KnowsPlace place ys
longer_place place xs ys (more, e) k = same_place place (xs ++ more) ys e (record {
  few = (let few = k.few in let l = length-append xs more in omega (arith, few, l));
  at = k.at ∙ ap (λ (l : List Payload). 80 + sum_by (λ (message : Payload). 2 + length message) l) (sym (take-append-le place.number xs more k.few));
})

-- the first record begins at 80
pub first_place : (place : LogPlace) (xs : List Payload) → place.number ≡ 0 → place.at ≡ 80 → KnowsPlace place xs
first_place place xs number at = record {
  few = omega (arith, number);
  at = at ∙ sym (ap (record_at xs) number);
}

surely : (place : LogPlace) (xs : List Payload) → ∥ KnowsPlace place xs ∥₁ → KnowsPlace place xs
surely place xs k = record { few = ∥∥₁_elim k le_prop (λ x. x.few); at = ∥∥₁_elim k (hlevel props) (λ x. x.at) }

-- ---- one list ----

parts_received : {D : Type 0} (m : Meaning D) (c : Parts D) (p q : Past) → m.tells → Stands m c p → Stands m c q → p.world.received ≡ q.world.received
parts_received m c p q told s t =
    one_received c.row p.world.received q.world.received _
    (recv_reading c.row p.world _ s.sound.rest.packet (s.disks.recv_disk.reading told)) (recv_reading c.row q.world _ t.sound.rest.packet (t.disks.recv_disk.reading told))

state_received : {D : Type 0} (m : Meaning D) (s : PumpState D) (p q : Past) → m.tells → StandsIn m s p → StandsIn m s q → p.world.received ≡ q.world.received
state_received m (Open c) p q told s t = parts_received m c p q told s t
state_received m (Shut d) p q told s t = absurd s

-- the receiver's count is that of its list
parts_count : {D : Type 0} (m : Meaning D) (c : Parts D) (p : Past) → Stands m c p → length p.world.received ≡ (counts_in (Open c)).2
parts_count m c p s = s.world.received

pub state_count : {D : Type 0} (m : Meaning D) (s : PumpState D) (p : Past) → StandsIn m s p → length p.world.received ≡ (counts_in s).2
state_count m (Open c) p s = parts_count m c p s
state_count m (Shut d) p s = absurd s

parts_accepted : {D : Type 0} (m : Meaning D) (c : Parts D) (p : Past) → Stands m c p → length p.world.accepted ≡ (counts_in (Open c)).0
parts_accepted m c p s = s.world.accepted

pub state_accepted : {D : Type 0} (m : Meaning D) (s : PumpState D) (p : Past) → StandsIn m s p → length p.world.accepted ≡ (counts_in s).0
state_accepted m (Open c) p s = parts_accepted m c p s
state_accepted m (Shut d) p s = absurd s

-- what stands for a session is up
pub stands_up : {D : Type 0} (m : Meaning D) (s : PumpState D) (p : Past) → StandsIn m s p → is_down_in s ≡ false
stands_up m (Open c) p s = works_up m (Open c) ∣ works_of m c p s ∣₁
stands_up m (Shut d) p s = absurd s

-- ---- the first pump ----

-- a pump that is up stands for some session
some : {D : Type 0} {g : _} (s : Pump D g) → g.told.tells → is_down s ≡ false → ∥ ((p : Past) × StandsFor g.told s p) ∥₁
some {D} {g} s told up = able_stands g.told s.state (kept_able g.told s.state up s.keeps) told

moved_prefix : (p q : Past) → Moves p q → IsPrefixOf p.world.received q.world.received
moved_prefix p q m = ⊎_elim (λ (a : Above p.world q.world). a.received) (λ (b : Below p.world q.world). prefix_same p.world.received q.world.received (sym b.received)) m

-- the receiver's list after a line grows from the list before it, whatever the pump then stands for
module _ {D : Type 0} {g : _} (s t : Pump D g) (line : ScriptLine) (printed : List Printed) (p q : Past) (told : g.told.tells) (was : StandsFor g.told s p) (is : StandsFor g.told t q) where
  grows : (stop : Option Stop) → Applies g.told s t line p printed stop → IsPrefixOf p.world.received q.world.received
  grows None (timely, (r, step, stands, leaves, timed)) =
      prefix_then p.world.received r.world.received q.world.received (moved_prefix p r (line_moves (row_of s) p line r printed step))
      (prefix_same _ _ (state_received g.told t.state r q told stands is))
  grows (Some Line) (refused, none, e) = prefix_same _ _ (state_received g.told s.state p q told was (subst (λ (x : Pump D g). StandsFor g.told x q) e is))
  grows (Some (Device role faults)) (timely, (r, breaks, (down, fails), leaves)) = (let up = stands_up g.told t.state q is in absurd (cc))
  grows (Some (Full end k size)) (timely, (r, over, stands, leaves)) =
      prefix_then p.world.received r.world.received q.world.received (overfills_move (row_of s) p line r printed end k size over).world.received
      (prefix_same _ _ (state_received g.told t.state r q told stands is))
  grows (Some (Disk role why)) a = absurd a

module _ {D : Type 0} {g : _} (s t : Pump D g) (up : is_down s ≡ false) (place : LogPlace) where
  -- so a place stays one of its log
  pub keeps_on : (line : ScriptLine) (printed : List Printed) (stop : Option Stop) → (g.told.tells → (p : Past) → StandsFor g.told s p → Applies g.told s t line p printed stop)
      → ∥ Keeps g.told s place ∥₁ → ∥ Keeps g.told t place ∥₁
  keeps_on line printed stop applies k = ∥∥₁_map k (λ keeps told q is.
      surely place q.world.received (∥∥₁_map (some s told up) (λ x.
      longer_place place x.0.world.received q.world.received (grows s t line printed x.0 q told x.1 is stop (applies told x.0 x.1)) (keeps told x.0 x.1))))

  -- .. and where the pump stands for what it stood for
  pub keeps_still : ((p : Past) → StandsFor g.told s p → StandsFor g.told t p) → (g.told.tells → (p : Past) → StandsFor g.told s p → KnowsPlace place p.world.received) → Keeps g.told t place
  keeps_still stands knows told q is =
      surely place q.world.received (∥∥₁_map (some s told up) (λ x.
      same_place place x.0.world.received q.world.received (state_received g.told t.state x.0 q told (stands x.0 x.1) is) (knows told x.0 x.1)))

-- the place that is kept
pub kept_place : {D : Type 0} {g : _} (s : Pump D g) (place : LogPlace) → ∥ Keeps g.told s place ∥₁ → g.told.tells → (p : Past) → StandsFor g.told s p → KnowsPlace place p.world.received
kept_place s place k told p stands = surely place p.world.received (∥∥₁_map k (λ keeps. keeps told p stands))

module _ {D : Type 0} {g : _} (s t : Pump D g) (up : is_down s ≡ false) (place : LogPlace) where
  -- a read leaves the place one of the log, or the pump is down
  pub keeps_either : {T E : Type 0} (result : Result T E) → OnOk result (ReadsOn g.told roles.Recv s t) → OnErr result (FailsReading g.told roles.Recv s t) → ∥ Keeps g.told s place ∥₁ → ∥ Keeps g.told t place ∥₁
  keeps_either (Ok value) reads fails k = ∣ keeps_still s t up place reads.stands (kept_place s place k) ∣₁
  keeps_either (Err e) reads fails k = ∣ (λ told q is. let up_now = stands_up g.told t.state q is in let down = fails.alone.down in absurd (cc)) ∣₁

  -- so the place behind it
  pub keeps_next : (next : LogPlace) → next.number ≡ place.number + 1 → place.number < (counts_of s).2 → ReadsOn g.told roles.Recv s t → (g.told.tells → (p : Past) → StandsFor g.told s p → next.at ≡ record_at p.world.received (place.number + 1)) → Keeps g.told t next
  keeps_next next number some reads at = keeps_still s t up next reads.stands (λ told p stands. record {
    few = (let have = state_count g.told s.state p stands in omega (arith, have, number, some));
    at = at told p stands ∙ ap (record_at p.world.received) (sym number);
  })

-- an offset known of what the pump stood for is known of all that it stands for
pub at_still : {D : Type 0} {g : _} (s t : Pump D g) → is_down s ≡ false → ((p : Past) → StandsFor g.told s p → StandsFor g.told t p) → (at n : ℕ) → (g.told.tells → (p : Past) → StandsFor g.told s p → at ≡ record_at p.world.received n)
    → g.told.tells → (q : Past) → StandsFor g.told t q → at ≡ record_at q.world.received n
at_still {D} {g} s t up stands at n known told q is =
    ∥∥₁_elim (some s told up) (hlevel props) (λ x. known told x.0 x.1 ∙ ap (λ (l : List Payload). record_at l n) (state_received g.told t.state x.0 q told (stands x.0 x.1) is))
