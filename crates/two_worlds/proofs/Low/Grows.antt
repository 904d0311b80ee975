-- What the events of a low look leave of the world.
use Rattle.std.proofs.Common.{◌≡◌, ℕ, List, [], ◌∷◌, ◌++◌, Option, Some, None, refl, sym, ap, ◌∙◌, subst, append-nil}
use Rattle.pump_frame.specs.declared.frame.Kind.{Kind}
use Rattle.pump_frame.specs.declared.frame.Kind.TheVariants.{Hello, Welcome, Data, Ack, Refuse, Attach, Taken}
use Rattle.pump_frame.specs.declared.payload.Payload.{Payload}
use Rattle.pump_core.specs.declared.feedback.Feedback.{Feedback}
use Rattle.pump_core.specs.declared.feedback.Feedback.TheVariants.{Quiet, Full, Passed, Released, Repeat}
use Rattle.pump_core.specs.declared.event.Event.{Event}
use Rattle.pump_core.specs.History.{Arrival}
use Rattle.pump_core.specs.History.{Nothing, Came, Bad, Gone}
use Rattle.pump_core.specs.Replies.{Sent}
use Rattle.pump_core.specs.World.{World}
use Rattle.pump_core.specs.Events.{Run}
use Rattle.script_reader.specs.Lows.{offers, stored_events, ack_by, acks_of}

-- only the accepted list may have grown, by these
pub record Grows (w v : World) (more : List Payload) : Type 0 where
  pub accepted : v.accepted ≡ w.accepted ++ more
  pub removed : v.removed ≡ w.removed
  pub removing : v.removing ≡ w.removing
  pub received : v.received ≡ w.received
  pub packet : v.packet ≡ w.packet
  pub taking : v.taking ≡ w.taking
  pub sent : v.sent ≡ w.sent

same : (w : World) → Grows w w []
same w = record { accepted = sym (append-nil w.accepted); removed = refl; removing = refl; received = refl; packet = refl; taking = refl; sent = refl }

onto : (u w v : World) (more : List Payload) → Grows u w [] → Grows w v more → Grows u v more
onto u w v more a b = record {
  accepted = b.accepted ∙ ap (λ l. l ++ more) (a.accepted ∙ append-nil u.accepted);
  removed = b.removed ∙ a.removed;
  removing = b.removing ∙ a.removing;
  received = b.received ∙ a.received;
  packet = b.packet ∙ a.packet;
  taking = b.taking ∙ a.taking;
  sent = b.sent ∙ a.sent;
}

then : (u w v : World) (more : List Payload) → Grows u w more → Grows w v [] → Grows u v more
then u w v more a b = record {
  accepted = b.accepted ∙ append-nil w.accepted ∙ a.accepted;
  removed = b.removed ∙ a.removed;
  removing = b.removing ∙ a.removing;
  received = b.received ∙ a.received;
  packet = b.packet ∙ a.packet;
  taking = b.taking ∙ a.taking;
  sent = b.sent ∙ a.sent;
}

by : (w v u : World) (more : List Payload) → v ≡ u → Grows w u more → Grows w v more
by w v u more e g = subst (λ (t : World). Grows w t more) (sym e) g

ack_grows : (kind : Kind) (n : ℕ) (later : List Event) (w v : World) → ((u : World) → Run u later v → Grows u v []) → Run w (ack_by kind n ++ later) v → Grows w v []
ack_grows Hello n later w v rest r = rest w r
ack_grows Welcome n later w v rest r = rest w r
ack_grows Data n later w v rest r = rest w r
ack_grows Refuse n later w v rest r = rest w r
ack_grows Attach n later w v rest r = rest w r
ack_grows Taken n later w v rest r = rest w r
ack_grows Ack n later w v rest (u, h, r) = onto w u v [] (by w u (record w { acknowledged = w.acknowledged ++ n ∷ [] }) [] h.3 (record {
  accepted = sym (append-nil w.accepted);
  removed = refl;
  removing = refl;
  received = refl;
  packet = refl;
  taking = refl;
  sent = refl;
})) (rest u r)

acks_grow : (rs : List Sent) (w v : World) → Run w (acks_of rs) v → Grows w v []
acks_grow [] w v r = by w v w [] r (same w)
acks_grow (x ∷ rs) w v r = ack_grows x.reply.kind x.reply.number (acks_of rs) w v (λ u s. acks_grow rs u v s) r

-- the message that is accepted with a look
abbrev pub payloads : Option ℕ → Arrival → List Payload
payloads (Some n) (Came f) = f.payload ∷ []
payloads _ _ = []

stores_grow : (st : Option ℕ) (a : Arrival) (rs : List Sent) (w v : World) → Run w (stored_events st a ++ acks_of rs) v → Grows w v (payloads st a)
stores_grow None a rs w v r = acks_grow rs w v r
stores_grow (Some n) Nothing rs w v r = acks_grow rs w v r
stores_grow (Some n) Bad rs w v r = acks_grow rs w v r
stores_grow (Some n) Gone rs w v r = acks_grow rs w v r
stores_grow (Some n) (Came f) rs w v (u, b, (t, e, r)) =
    let p : Payload = e.0 in
    let started : u ≡ record w { storing = Some f.payload } = b.2 in
    let same' : f.payload ≡ p = let s : Some f.payload ≡ Some p = sym (ap (λ (x : World). x.storing) started) ∙ e.1 in cc in
    let ended : Grows w t (f.payload ∷ []) = record {
      accepted = ap (λ (x : World). x.accepted) e.2 ∙ ap (λ (x : World). x.accepted ++ p ∷ []) started ∙ ap (λ (k : Payload). w.accepted ++ k ∷ []) (sym same');
      removed = ap (λ (x : World). x.removed) e.2 ∙ ap (λ (x : World). x.removed) started;
      removing = ap (λ (x : World). x.removing) e.2 ∙ ap (λ (x : World). x.removing) started;
      received = ap (λ (x : World). x.received) e.2 ∙ ap (λ (x : World). x.received) started;
      packet = ap (λ (x : World). x.packet) e.2 ∙ ap (λ (x : World). x.packet) started;
      taking = ap (λ (x : World). x.taking) e.2 ∙ ap (λ (x : World). x.taking) started;
      sent = ap (λ (x : World). x.sent) e.2 ∙ ap (λ (x : World). x.sent) started;
    } in
    then w t v (f.payload ∷ []) ended (acks_grow rs t v r)

forward_grows : (w u : World) → (n : ℕ) → u ≡ record w { held = w.held ++ n ∷ []; low_hand = None } → Grows w u []
forward_grows w u n e = by w u (record w { held = w.held ++ n ∷ []; low_hand = None }) [] e (record { accepted = sym (append-nil w.accepted); removed = refl; removing = refl; received = refl; packet = refl; taking = refl; sent = refl })

-- the events of a low look
pub look_grows : (f : Feedback) (st : Option ℕ) (a : Arrival) (rs : List Sent) (w v : World) → Run w (offers f ++ (stored_events st a ++ acks_of rs)) v → Grows w v (payloads st a)
look_grows Quiet st a rs w v r = stores_grow st a rs w v r
look_grows Full st a rs w v r = stores_grow st a rs w v r
look_grows (Repeat s) st a rs w v r = stores_grow st a rs w v r
look_grows (Passed s) st a rs w v (u, h, r) = onto w u v (payloads st a) (forward_grows w u h.0 h.3) (stores_grow st a rs u v r)
look_grows Released st a rs w v (u, h, r) = onto w u v (payloads st a) (forward_grows w u h.0 h.3) (stores_grow st a rs u v r)
