-- A message that is taken up and sent in a high look.
use Rattle.std.proofs.Common.{◌≡◌, ⊎_elim, ℕ, suc, ◌+◌, Bool, true, false, List, [], ◌∷◌, ◌++◌, length, Option, refl, sym, ap, ◌∙◌, subst, arith}
use Rattle.std.specs.Prelude.{if◌then◌else◌, nat_lt}
use Rattle.std.proofs.lemmas.Bool.{lt-ltb, le-ltb}
use Rattle.pump_frame.specs.declared.row.SessionRow.{SessionRow}
use Rattle.pump_core.specs.declared.event.Event.TheVariants.{TakeUp, Send}
use Rattle.pump_core.specs.World.{World}
use Rattle.pump_core.specs.Events.{Happens, Run}
use Rattle.pump_core.specs.Timed.{Step, Occurs, Point, high_sent}
use Rattle.pump_core.specs.HighLooks.{Perhaps, IsSent}
use Rattle.pump_core.specs.Sendings.{Sending, sending_of}
use Rattle.world_laws.specs.Timelines.{IsAtRest, only_if}
use Rattle.world_laws.proofs.Timeline.Stands.{at, aside, Stands, Settled}

-- ---- a sending ----

module _ (row : SessionRow) (past : List Step) (t : Point) (m : ℕ) (times : List ℕ) where
  -- the next message is taken up, or none is
  abbrev pub takes_up : World → World → Bool
  takes_up w v = nat_lt (length v.held) (length w.held)

  pub taken_up : (sends : List Sending) (steps : List Step) (w v : World) → Stands row past t m times sends steps w → IsAtRest w → Perhaps w TakeUp [] v
      → Settled row past t m times sends (only_if (takes_up w v) (Occurs TakeUp ∷ []) ++ steps) v
  taken_up sends steps w v s r h = ⊎_elim
      (λ (k : Run w (TakeUp ∷ []) v).
      let e : v ≡ k.0 = k.2 in
      let held : length w.held ≡ length v.held + 1 = ap length k.1.3 ∙ add_one (length k.1.1) ∙ ap (λ (u : World). length u.held + 1) (sym (e ∙ k.1.4)) in
      let yes : takes_up w v ≡ true = lt-ltb (length v.held) (length w.held) (omega (arith, held)) in
      record {
        stands = subst (λ (b : Bool). Stands row past t m times sends (only_if b (Occurs TakeUp ∷ []) ++ steps) v) (sym yes)
            (aside row past t m times sends steps w v s (Occurs TakeUp) (at t w s.high, s.leads, (k.0, k.1, (s.looking, s.sent.nothing_left), ap (λ (u : World). at t u s.high) e)));
        rest = subst IsAtRest (sym (e ∙ k.1.4)) (record { storing = r.storing; due = r.due; removing = r.removing; packet = r.packet; taking = r.taking });
      })
      (λ (k : ((u : World) → Happens w TakeUp u → ⊥) × (v ≡ w)).
      let same : length v.held ≡ length w.held = ap (λ (u : World). length u.held) k.1 in
      let no : takes_up w v ≡ false = le-ltb (length v.held) (length w.held) (omega (arith, same)) in
      record {
        stands = subst (λ (b : Bool). Stands row past t m times sends (only_if b (Occurs TakeUp ∷ []) ++ steps) v) (sym no) (subst (Stands row past t m times sends steps) (sym k.1) s);
        rest = subst IsAtRest (sym k.1) r;
      })
      h where
        add_one : (n : ℕ) → suc n ≡ n + 1
        add_one n = omega arith

  pub taking_up_keeps : (w v : World) → Perhaps w TakeUp [] v → v.removed ≡ w.removed
  taking_up_keeps w v h = ⊎_elim
      (λ (k : Run w (TakeUp ∷ []) v). ap (λ (u : World). u.removed) (k.2 ∙ k.1.4))
      (λ (k : ((u : World) → Happens w TakeUp u → ⊥) × (v ≡ w)). ap (λ (u : World). u.removed) k.1)
      h

  -- the message in the hand is sent
  one_sent : (sends : List Sending) (steps : List Step) (w v : World) → Stands row past t m times sends steps w → IsAtRest w → Happens w Send v
      → Settled row past t m times (sending_of m w.high_hand ++ sends) (Occurs Send ∷ steps) v
  one_sent sends steps w v s r h = record {
    stands = record {
      high = high_sent s.high w.high_hand;
      leads = (at t w s.high, s.leads, (v, h, s.looking, refl));
      looking = s.looking;
      moment = s.moment;
      sent = record {
        times = s.sent.times;
        sends = λ i. sending_of (s.moment i) w.high_hand ++ s.sent.sends i;
        nothing_left = s.sent.nothing_left;
      };
    };
    rest = subst IsAtRest (sym h.5) (record { storing = r.storing; due = r.due; removing = r.removing; packet = r.packet; taking = r.taking });
  }

  pub sent : (sends : List Sending) (steps : List Step) (w v : World) (is_sent : Bool) → Stands row past t m times sends steps w → IsAtRest w → IsSent is_sent w v
      → Settled row past t m times (if is_sent then sending_of m w.high_hand ++ sends else sends) (only_if is_sent (Occurs Send ∷ []) ++ steps) v
  sent sends steps w v true s r h = one_sent sends steps w v s r h
  sent sends steps w v false s r e = record { stands = subst (Stands row past t m times sends steps) (sym e) s; rest = subst IsAtRest (sym e) r }

  pub sending_keeps : (w v : World) (is_sent : Bool) → IsSent is_sent w v → (v.removed ≡ w.removed) × (v.held ≡ w.held)
  sending_keeps w v true h = (ap (λ (u : World). u.removed) h.5, ap (λ (u : World). u.held) h.5)
  sending_keeps w v false e = (ap (λ (u : World). u.removed) e, ap (λ (u : World). u.held) e)

  -- one more is sent where a message was
  pub sends_grow : (sends : List Sending) (w v : World) (is_sent : Bool) → IsSent is_sent w v
      → nat_lt (length sends) (length (if is_sent then sending_of m w.high_hand ++ sends else sends)) ≡ is_sent
  sends_grow sends w v true h = ap (λ (o : Option ℕ). nat_lt (length sends) (length (sending_of m o ++ sends))) h.2 ∙ lt-ltb (length sends) (suc (length sends)) (omega arith)
  sends_grow sends w v false e = le-ltb (length sends) (length sends) (omega arith)
