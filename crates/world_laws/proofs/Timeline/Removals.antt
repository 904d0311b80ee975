-- A removal in a high look, and the time that is published with it.
use Rattle.std.proofs.Common.{◌≡◌, ⊎_elim, ℕ, ◌+◌, Bool, true, false, List, [], ◌∷◌, ◌++◌, Option, Some, None, refl, sym, ap, ◌∙◌, subst, arith, append-nil}
use Rattle.std.specs.Prelude.{if◌then◌else◌, nat_lt, option_to_list}
use Rattle.std.proofs.lemmas.Bool.{le-ltb, lt-ltb}
use Rattle.pump_frame.specs.declared.row.SessionRow.{SessionRow}
use Rattle.pump_core.specs.declared.event.Event.TheVariants.{RemoveBegin, RemoveEnd}
use Rattle.pump_core.specs.World.{World}
use Rattle.pump_core.specs.Events.{Happens, Run}
use Rattle.pump_core.specs.Timed.{Step, Publish, Occurs, HighSide, Point, high_removed, high_published, LeadsTo}
use Rattle.pump_core.specs.HighLooks.{Perhaps, has_removed}
use Rattle.pump_core.specs.Sendings.{Sending, removal_time}
use Rattle.world_laws.specs.Timelines.{IsAtRest, only_if}
use Rattle.world_laws.proofs.Timeline.Stands.{at, IsReady, rests, Stands, Settled}

-- ---- a removal ----

less_by_one : (a b : ℕ) → b ≡ a + 1 → nat_lt a b ≡ true
less_by_one a b e = lt-ltb a b (omega (arith, e))

not_less : (a b : ℕ) → b ≡ a → nat_lt a b ≡ false
not_less a b e = le-ltb a b (omega (arith, e))

module _ (row : SessionRow) (past : List Step) (t : Point) (m : ℕ) where
  -- a time is published, or none is
  abbrev pub publish_steps : Option ℕ → List Step
  publish_steps None = []
  publish_steps (Some τ) = Publish ∷ []

  -- what is to be published is published
  publishes : (times : List ℕ) (sends : List Sending) (v : World) (steps : List Step) (h : HighSide) (time : Option ℕ)
      → LeadsTo row (steps ++ past) (at t v h) → h.looking ≡ true → h.moment ≡ m → h.times ≡ times → h.sends ≡ sends → h.unpublished ≡ time
      → Stands row past t m (times ++ option_to_list time) sends (publish_steps time ++ steps) v
  publishes times sends v steps h None leads looking moment times_are sends_are left = record {
    high = h;
    leads = leads;
    looking = looking;
    moment = moment;
    sent = record { times = times_are ∙ sym (append-nil times); sends = sends_are; nothing_left = left };
  }
  publishes times sends v steps h (Some τ) leads looking moment times_are sends_are left = record {
    high = high_published h τ;
    leads = (at t v h, leads, (τ, left, refl));
    looking = looking;
    moment = moment;
    sent = record { times = ap (λ l. l ++ τ ∷ []) times_are; sends = sends_are; nothing_left = refl };
  }

  module _ (times : List ℕ) (sends : List Sending) (steps : List Step) (w v : World) (s : Stands row past t m times sends steps w) (r : IsReady w)
      (time : Option ℕ) (is_time : time ≡ (if has_removed w v then removal_time w.removed m sends times else None)) where
    -- the steps of a removal, or none
    abbrev pub removal_steps : List Step
    removal_steps = publish_steps time ++ (only_if (has_removed w v) (Occurs RemoveEnd ∷ Occurs RemoveBegin ∷ []) ++ steps)

    happened : Run w (RemoveBegin ∷ RemoveEnd ∷ []) v → Settled row past t m (times ++ option_to_list time) sends removal_steps v
    happened (w₁, h₁, (w₂, h₂, e)) =
        let more : v.removed ≡ w.removed + 1 = ap (λ (u : World). u.removed) (e ∙ h₂.1) ∙ ap (λ (u : World). u.removed + 1) h₁.2 in
        let yes : has_removed w v ≡ true = less_by_one w.removed v.removed more in
        let count : w₁.removed ≡ w.removed = ap (λ (u : World). u.removed) h₁.2 in
        let same : removal_time w₁.removed s.high.moment s.high.sends s.high.times ≡ time =
        (λ i. removal_time (count i) (s.moment i) (s.sent.sends i) (s.sent.times i))
        ∙ sym (is_time ∙ ap (λ (b : Bool). if b then removal_time w.removed m sends times else None) yes) in
        record {
          stands = subst (λ (b : Bool). Stands row past t m (times ++ option_to_list time) sends (publish_steps time ++ (only_if b (Occurs RemoveEnd ∷ Occurs RemoveBegin ∷ []) ++ steps)) v) (sym yes)
              (publishes times sends v (Occurs RemoveEnd ∷ Occurs RemoveBegin ∷ steps) (high_removed s.high w₁.removed) time
              (at t w₁ s.high, (at t w s.high, s.leads, (w₁, h₁, s.looking, refl)), (w₂, h₂, s.looking, ap (λ (u : World). at t u (high_removed s.high w₁.removed)) e))
              s.looking s.moment s.sent.times s.sent.sends same);
          rest = subst IsAtRest (sym (e ∙ h₂.1)) (record {
            storing = ap (λ (u : World). u.storing) h₁.2 ∙ r.storing;
            due = refl;
            removing = refl;
            packet = ap (λ (u : World). u.packet) h₁.2 ∙ r.packet;
            taking = ap (λ (u : World). u.taking) h₁.2 ∙ r.taking;
          });
        }

    not_due : ((u : World) → Happens w RemoveBegin u → ⊥) → w.due ≡ false
    not_due never = elim w.due as (λ b. w.due ≡ b → w.due ≡ false) [
      | true ↦ λ e. absurd (never (record w { removing = true }) (e, r.removing, refl))
      | false ↦ λ e. e
    ] refl

    nothing : ((u : World) → Happens w RemoveBegin u → ⊥) × (v ≡ w) → Settled row past t m (times ++ option_to_list time) sends removal_steps v
    nothing (never, e) =
        let no : has_removed w v ≡ false = not_less w.removed v.removed (ap (λ (u : World). u.removed) e) in
        let none : time ≡ None = is_time ∙ ap (λ (b : Bool). if b then removal_time w.removed m sends times else None) no in
        let steps_same : steps ≡ removal_steps = λ i. publish_steps (sym none i) ++ (only_if (sym no i) (Occurs RemoveEnd ∷ Occurs RemoveBegin ∷ []) ++ steps) in
        let times_same : times ≡ times ++ option_to_list time = sym (ap (λ (o : Option ℕ). times ++ option_to_list o) none ∙ append-nil times) in
        let back = sym e in
        record {
          stands = subst (λ (k : List ℕ × List Step × World). Stands row past t m k.0 sends k.1 k.2) (λ i. (times_same i, steps_same i, back i)) s;
          rest = subst IsAtRest back (rests w r (not_due never));
        }

    pub removed : Perhaps w RemoveBegin (RemoveEnd ∷ []) v → Settled row past t m (times ++ option_to_list time) sends removal_steps v
    removed h = ⊎_elim happened nothing h

-- what is held stays so
pub removal_holds : (w v : World) → Perhaps w RemoveBegin (RemoveEnd ∷ []) v → v.held ≡ w.held
removal_holds w v h = ⊎_elim
    (λ (k : Run w (RemoveBegin ∷ RemoveEnd ∷ []) v). ap (λ (u : World). u.held) (k.2.2 ∙ k.2.1.1) ∙ ap (λ (u : World). u.held) k.1.2)
    (λ (k : ((u : World) → Happens w RemoveBegin u → ⊥) × (v ≡ w)). ap (λ (u : World). u.held) k.1)
    h
