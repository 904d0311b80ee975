-- A packet that is carried to the receiver goes on with a timed run of its session.
use Rattle.std.proofs.Common.{◌≡◌, ⊎_elim, ℕ, Bool, true, false, cond, List, [], ◌∷◌, ◌++◌, length, Option, Some, None, refl, sym, ap, ◌∙◌, subst, arith, length-append}
use Rattle.std.specs.Prelude.{nat_lt}
use Rattle.std.proofs.lemmas.Bool.{lt-ltb, le-ltb}
use Rattle.pump_frame.specs.declared.payload.Payload.{Payload}
use Rattle.pump_frame.specs.declared.row.SessionRow.{SessionRow}
use Rattle.pump_core.specs.declared.event.Event.TheVariants.{CarryData, TakeBegin, TakeEnd}
use Rattle.pump_core.specs.History.{Arrival}
use Rattle.pump_core.specs.Comings.{comings}
use Rattle.pump_core.specs.World.{World}
use Rattle.pump_core.specs.Events.{Happens, Run}
use Rattle.pump_core.specs.Sendings.{Sending}
use Rattle.pump_core.specs.Timed.{Step, Occurs, Point, LeadsTo}
use Rattle.script_reader.specs.declared.event.Event.{Event}
use Rattle.script_reader.specs.Past.{Past}
use Rattle.script_reader.specs.Highs.{IsCarried, place}
use Rattle.world_laws.specs.Timelines.{taken_in, AreLeft, IsAtRest, HasSent, IsTimeline, only_if, carry_steps}
use Rattle.world_laws.proofs.Timeline.Looks.{timeline, HasMore}

-- nothing is unfinished, but a packet may wait at the receiver
record IsOpen (removed : ℕ) (w : World) : Type 0 where
  removed_is : w.removed ≡ removed
  storing : w.storing ≡ None
  due : w.due ≡ false
  removing : w.removing ≡ false
  taking : w.taking ≡ false

either : (n : ℕ) (b : Bool) (v u : World) → IsOpen n v → IsOpen n u → IsOpen n (cond b v u)
either n true v u h k = h
either n false v u h k = k

carried_open : (w : World) (k : ℕ) (v : World) → IsAtRest w → Happens w (CarryData k) v → IsOpen w.removed v
carried_open w k v r h =
    subst (IsOpen w.removed) (sym h.4) (either w.removed (nat_lt h.0.number (length w.received)) _ _
    (record { removed_is = refl; storing = r.storing; due = r.due; removing = r.removing; taking = r.taking })
    (record { removed_is = refl; storing = r.storing; due = r.due; removing = r.removing; taking = r.taking }))

-- the run goes on from t by these steps to this world, where nothing is unfinished
record Carried (row : SessionRow) (past : List Step) (t : Point) (removed : ℕ) (steps : List Step) (v : World) : Type 0 where
  leads : LeadsTo row (steps ++ past) (record t { world = v })
  removed_is : v.removed ≡ removed
  rest : IsAtRest v

-- no packet waits where none can be taken
none_waits : (w : World) → w.taking ≡ false → ((u : World) → Happens w TakeBegin u → ⊥) → w.packet ≡ None
none_waits w idle never = elim w.packet as (λ (o : Option Payload). w.packet ≡ o → w.packet ≡ None) [
  | None ↦ λ e. e
  | Some p ↦ λ e. absurd (never (record w { taking = true }) (p, e, idle, refl))
] refl

module _ (row : SessionRow) (past : List Step) (t : Point) (n : ℕ) (w v : World) (more : List Step) (leads : LeadsTo row (more ++ past) (record t { world = w })) (r : IsOpen n w) where
  -- whether a message was taken
  abbrev takes : Bool
  takes = nat_lt (length w.received) (length v.received)

  abbrev with_taking : Bool → List Step
  with_taking b = only_if b (Occurs TakeEnd ∷ Occurs TakeBegin ∷ []) ++ more

  taken : Run w (TakeBegin ∷ TakeEnd ∷ []) v → Carried row past t n (with_taking takes) v
  taken (v₁, h₁, (v₂, h₂, e)) = record {
    leads =
        let was : v₁.received ≡ w.received = ap (λ (u : World). u.received) h₁.3 in
        let is : v.received ≡ v₁.received ++ h₂.0 ∷ [] = ap (λ (u : World). u.received) (e ∙ h₂.3) in
        let yes : takes ≡ true = lt-ltb (length w.received) (length v.received) (omega (arith, ap length was, ap length is, length-append v₁.received (h₂.0 ∷ []))) in
        subst (λ (b : Bool). LeadsTo row (with_taking b ++ past) (record t { world = v })) (sym yes)
        (record t { world = v₁ }, (record t { world = w }, leads, (v₁, h₁, tt, refl)), (v₂, h₂, tt, ap (λ (u : World). record t { world = u }) e));
    removed_is = ap (λ (u : World). u.removed) (e ∙ h₂.3) ∙ ap (λ (u : World). u.removed) h₁.3 ∙ r.removed_is;
    rest = subst IsAtRest (sym (e ∙ h₂.3)) (record {
      storing = ap (λ (u : World). u.storing) h₁.3 ∙ r.storing;
      due = ap (λ (u : World). u.due) h₁.3 ∙ r.due;
      removing = ap (λ (u : World). u.removing) h₁.3 ∙ r.removing;
      packet = refl;
      taking = refl;
    });
  }

  not_taken : ((u : World) → Happens w TakeBegin u → ⊥) × (v ≡ w) → Carried row past t n (with_taking takes) v
  not_taken (never, e) = record {
    leads =
        let same : length v.received ≡ length w.received = ap (λ (u : World). length u.received) e in
        let no : takes ≡ false = le-ltb (length w.received) (length v.received) (omega (arith, same)) in
        subst (λ (b : Bool). LeadsTo row (with_taking b ++ past) (record t { world = v })) (sym no)
        (subst (λ (u : World). LeadsTo row (more ++ past) (record t { world = u })) (sym e) leads);
    removed_is = ap (λ (u : World). u.removed) e ∙ r.removed_is;
    rest = subst IsAtRest (sym e) (record { storing = r.storing; due = r.due; removing = r.removing; packet = none_waits w r.taking never; taking = r.taking });
  }

same_received : (b : Bool) (v u : World) (l : List Payload) → v.received ≡ l → u.received ≡ l → (cond b v u).received ≡ l
same_received true v u l h k = h
same_received false v u l h k = k

-- a DATA is carried, and taken where it is the receiver's next
pub carry : (row : SessionRow) (p : Past) (steps : List Step) (t : Point) (back : ℕ) (q : Past) (printed : List Event)
    → IsTimeline row p steps t → IsCarried row p back q printed → HasMore row q steps (carry_steps back p q)
carry row p steps t back q printed i h =
    let k = place p.world.sent back in
    let start : LeadsTo row steps (record t { world = p.world }) = subst (λ (u : World). LeadsTo row steps (record t { world = u })) i.world i.run.leads in
    let leads : LeadsTo row (Occurs (CarryData k) ∷ steps) (record t { world = h.carried }) = (record t { world = p.world }, start, (h.carried, h.carries, tt, refl)) in
    let opened = carried_open p.world k h.carried i.rest h.carries in
    let more : List Step = Occurs (CarryData k) ∷ [] in
    let received : h.carried.received ≡ p.world.received = ap (λ (u : World). u.received) h.carries.4 ∙ same_received (nat_lt h.carries.0.number (length p.world.received)) _ _ p.world.received refl refl in
    let c : Carried row steps t p.world.removed (carry_steps back p q) q.world =
    subst (λ (l : List Payload). Carried row steps t p.world.removed (only_if (nat_lt (length l) (length q.world.received)) (Occurs TakeEnd ∷ Occurs TakeBegin ∷ []) ++ more) q.world) received
    (⊎_elim (taken row steps t p.world.removed h.carried q.world more leads opened) (not_taken row steps t p.world.removed h.carried q.world more leads opened) h.takes) in
    let moment : q.moment ≡ p.moment = ap (λ (x : Past). x.moment) h.rest in
    let low = i.low_moment in
    let high = i.high_moment in
    let times_back = sym (ap (λ (x : Past). x.times) h.rest) in
    let sends_back = sym (ap (λ (x : Past). x.sends) h.rest) in
    let waits_back = sym (ap (λ (x : Past). x.waits) h.rest) in
    let broken_back = sym (ap (λ (x : Past). x.is_broken) h.rest) in (
      record t { world = q.world },
      timeline row q (carry_steps back p q ++ steps) (record t { world = q.world }) p.history (ap (λ (x : Past). x.history) h.rest)
          (record { leads = c.leads; low = i.run.low; feedback = i.run.feedback; places = i.run.places })
          refl c.rest
          (subst (λ (l : List ℕ × List Sending). HasSent l.0 l.1 t.high) (λ j. (times_back j, sends_back j)) i.high)
          (subst (λ (l : List Arrival × Bool). AreLeft (comings t.life.side.events) (taken_in row steps t p.history i.run) l.0 l.1) (λ j. (waits_back j, broken_back j)) i.waits)
          (omega (arith, low, moment)) (omega (arith, high, moment)),
    )
