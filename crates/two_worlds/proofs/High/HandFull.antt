-- A high look without a TAKEN that leaves a message in the high hand.
use Rattle.std.proofs.Common.{◌≡◌, ℕ, ◌<◌, Bool, true, false, List, [], ◌∷◌, ◌++◌, length, Option, None, Some, sym, ap, ◌∙◌, subst, arith}
use Rattle.std.specs.Prelude.{if◌then◌else◌}
use Rattle.pump_frame.specs.declared.row.SessionRow.{SessionRow}
use Rattle.pump_core.specs.World.{World}
use Rattle.pump_core.specs.HighLooks.{IsSent}
use Rattle.pump_core.specs.Sendings.{Sending, last_sending, is_due, sends_hand, sending_of}
use Rattle.script_reader.specs.declared.event.Event.{Event}
use Rattle.script_reader.specs.Past.{Past}
use Rattle.script_reader.specs.Highs.{IsHighLook}

-- the hand that is sent, or left, was full
hand_before : (is_sent : Bool) (taken v : World) (n : ℕ) → IsSent is_sent taken v → v.high_hand ≡ Some n → (k : ℕ) × (taken.high_hand ≡ Some k)
hand_before true taken v n sends e = (sends.0, sends.2)
hand_before false taken v n sends e = (n, sym (ap (λ (w : World). w.high_hand) sends) ∙ e)

-- a hand that is not due was sent
some_sent : (resend k m : ℕ) (sends : List Sending) → false ≡ is_due resend (last_sending k sends) m → 0 < length sends
some_sent resend k m [] e = absurd (cc)
some_sent resend k m (x ∷ sends) e = omega arith

sent_by : (row : SessionRow) (is_sent : Bool) (sends : List Sending) (m k : ℕ) (hand : Option ℕ) → hand ≡ Some k → is_sent ≡ sends_hand row.resend false sends m hand
    → 0 < length (if is_sent then (sending_of m hand ++ sends) else sends)
sent_by row true sends m k hand e cause =
    subst (λ (o : Option ℕ). 0 < length (sending_of m o ++ sends)) (sym e) (omega arith)
sent_by row false sends m k hand e cause =
    some_sent row.resend k m sends (cause ∙ ap (λ (o : Option ℕ). sends_hand row.resend false sends m o) e)

-- something was sent since the opening
pub sent_after : (row : SessionRow) (p : Past) (m : ℕ) (q : Past) (printed : List Event) (n : ℕ) → IsHighLook row p m None q printed → q.world.high_hand ≡ Some n → 0 < length q.sends
sent_after row p m q printed n (mid, first, second, removal, sending, e) hand =
    let full = hand_before sending.look.is_sent sending.look.taken q.world n sending.look.sent hand in
    let some = sent_by row sending.look.is_sent mid.sends m full.0 sending.look.taken.high_hand full.1 sending.look.cause in
    let is = ap (λ (l : List Sending). length l) sending.look.sends in
    subst (λ (k : ℕ). 0 < k) (sym is) some
