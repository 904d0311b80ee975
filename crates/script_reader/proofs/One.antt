-- A line of a whole session does one thing, and prints one thing.
use Rattle.std.proofs.Common.{◌≡◌, ⊎_elim, ℕ, ◌+◌, zero, suc, Bool, true, false, List, [], ◌∷◌, ◌++◌, length, drop, Option, Some, None, sym, ap, ◌∙◌, subst}
use Rattle.std.specs.Prelude.{if◌then◌else◌, slice_get, option_to_list, is_some, ◌&&◌, ◌||◌}
use Rattle.std.proofs.lemmas.Option.{same_Some}
use Rattle.pump_frame.specs.declared.row.SessionRow.{SessionRow}
use Rattle.pump_core.specs.declared.feedback.Feedback.{Feedback}
use Rattle.pump_core.specs.declared.event.Event.{Event as WorldEvent}
use Rattle.pump_core.specs.declared.event.Event.TheVariants.{StoreBegin, StoreEnd, Forward, TakeUp, Send, CarryData, TakeBegin, TakeEnd, ReturnTaken, RemoveBegin, RemoveEnd, Acknowledge, Crash}
use Rattle.pump_core.specs.History.{Look, looked}
use Rattle.pump_core.specs.History.{Arrival, Gone}
use Rattle.pump_core.specs.Exchanges.{Part}
use Rattle.pump_core.specs.Replies.{Sent, takes, stores}
use Rattle.pump_core.specs.World.{World}
use Rattle.pump_core.specs.Events.{stored, carried, took, answered, Happens, Run}
use Rattle.pump_core.proofs.Runs.{one_list_of_lives}
use Rattle.pump_core.proofs.Cuts.{one_cut}
use Rattle.script_reader.specs.declared.line.Line.{Line}
use Rattle.script_reader.specs.declared.line.Line.TheVariants as lines
use Rattle.script_reader.specs.declared.event.Event.{Event}
use Rattle.script_reader.specs.declared.event.Event.TheVariants.{Attach, Restart}
use Rattle.pump_core.specs.HighLooks.{Perhaps, Returns, IsSent, time_between, RemovalPart, SendingPart}
use Rattle.pump_core.specs.Sendings.{expected, sends_hand, sending_of}
use Rattle.script_reader.specs.Past.{Past, high_of}
use Rattle.script_reader.specs.Lows.{first_of, is_bad, feedback, offers, stored_events, acks_of, printed_store, printed_feedback, printed_replies, IsLook}
use Rattle.script_reader.specs.Highs.{printed_removal, printed_sending, printed_carry, IsRemoval, IsSending, IsWholeLook, IsHighLook, is_not_below, is_ahead, IsReturnBy, IsReturn, IsAttach, IsCarried, place}
use Rattle.script_reader.specs.Openings.{restarted}
use Rattle.script_reader.specs.Restarts.{IsRestart, IsReopened, IsReceiverRestart}
use Rattle.script_reader.specs.Steps.{LineComing, bad_of, came, IsRead, Arrives, joined, lost, look_of, IsLowLook, IsOfferedLook, IsCarriedBack, LineStep}
use Rattle.script_reader.specs.declared.line.Arriving.{Arriving}
use Rattle.script_reader.specs.declared.line.Arriving.TheVariants as arriving
use Rattle.pump_frame.specs.declared.frame.Frame.{Frame}
use Rattle.pump_frame.specs.Readings.{Reading, Within, Stopped}
use Rattle.pump_frame.proofs.Streams.{streams_one}

-- ---- events ----

happens_one : (w : World) (e : WorldEvent) (v u : World) → Happens w e v → Happens w e u → v ≡ u
happens_one w (StoreBegin p) v u h k = h.2 ∙ sym k.2
happens_one w StoreEnd v u h k = h.2 ∙ ap (stored w) (same_Some h.0 k.0 (sym h.1 ∙ k.1)) ∙ sym k.2
happens_one w Forward v u h k = h.3 ∙ ap (λ (n : ℕ). record w { held = w.held ++ n ∷ []; low_hand = None }) (same_Some h.0 k.0 (sym h.1 ∙ k.1)) ∙ sym k.3
happens_one w TakeUp v u h k =
    let e : h.0 ∷ h.1 ≡ k.0 ∷ k.1 = sym h.3 ∙ k.3 in
    let a : h.0 ≡ k.0 = cc in
    let b : h.1 ≡ k.1 = cc in
    h.4 ∙ (λ i. record w { held = b i; high_hand = Some (a i) }) ∙ sym k.4
happens_one w Send v u h k =
    let a : h.0 ≡ k.0 = same_Some h.0 k.0 (sym h.2 ∙ k.2) in
    let b : h.1 ≡ k.1 = same_Some h.1 k.1 (sym h.4 ∙ ap (slice_get w.accepted) a ∙ k.4) in
    h.5 ∙ (λ i. record w { sent = w.sent ++ record { number = a i; payload = b i } ∷ [] }) ∙ sym k.5
happens_one w (CarryData n) v u h k = h.4 ∙ ap (carried w) (same_Some h.0 k.0 (sym h.1 ∙ k.1)) ∙ sym k.4
happens_one w TakeBegin v u h k = h.3 ∙ sym k.3
happens_one w TakeEnd v u h k = h.3 ∙ ap (took w) (same_Some h.0 k.0 (sym h.1 ∙ k.1)) ∙ sym k.3
happens_one w (ReturnTaken n) v u h k = h.3 ∙ ap (answered w) (same_Some h.0 k.0 (sym h.1 ∙ k.1)) ∙ sym k.3
happens_one w RemoveBegin v u h k = h.2 ∙ sym k.2
happens_one w RemoveEnd v u h k = h.1 ∙ sym k.1
happens_one w (Acknowledge n) v u h k = h.3 ∙ sym k.3
happens_one w (Crash None None) v u h k = absurd h
happens_one w (Crash None (Some r)) v u h k = h ∙ sym k
happens_one w (Crash (Some p) r) v u h k = h ∙ sym k

run_one : (w : World) (es : List WorldEvent) (v u : World) → Run w es v → Run w es u → v ≡ u
run_one w [] v u h k = h ∙ sym k
run_one w (e ∷ es) v u (a, h, r) (b, k, t) = run_one a es v u r (subst (λ (x : World). Run x es u) (happens_one w e b a k h) t)

perhaps_one : (w : World) (e : WorldEvent) (es : List WorldEvent) (v u : World) → Perhaps w e es v → Perhaps w e es u → v ≡ u
perhaps_one w e es v u h k = ⊎_elim
    (λ (r : Run w (e ∷ es) v). ⊎_elim
    (λ (t : Run w (e ∷ es) u). run_one w (e ∷ es) v u r t)
    (λ (n : ((x : World) → Happens w e x → ⊥) × (u ≡ w)). absurd (n.0 r.0 r.1)) k)
    (λ (n : ((x : World) → Happens w e x → ⊥) × (v ≡ w)). ⊎_elim
    (λ (t : Run w (e ∷ es) u). absurd (n.0 t.0 t.1))
    (λ (o : ((x : World) → Happens w e x → ⊥) × (u ≡ w)). n.1 ∙ sym o.1) k)
    h

-- what comes back from these places is the same
abbrev ComesAlike : World → Option ℕ → Option ℕ → Type 0
ComesAlike w back other = (v u : World) → Returns w back v → Returns w other u → v ≡ u

returns_one : (w : World) (back : Option ℕ) → ComesAlike w back back
returns_one w None v u h k = h ∙ sym k
returns_one w (Some n) v u h k = happens_one w (ReturnTaken n) v u h k

-- so it is where one TAKEN stands at both
taken_one : (w : World) (i j : ℕ) → slice_get w.returned i ≡ slice_get w.returned j → ComesAlike w (Some i) (Some j)
taken_one w i j same v u h k = h.3 ∙ ap (answered w) (same_Some h.0 k.0 (sym h.1 ∙ same ∙ k.1)) ∙ sym k.3

sends_one : (b : Bool) (w v u : World) → IsSent b w v → IsSent b w u → v ≡ u
sends_one true w v u h k = happens_one w Send v u h k
sends_one false w v u h k = h ∙ sym k

-- ---- lines ----

pub record Same (q r : Past) (xs ys : List Event) : Type 0 where
  pub past : q ≡ r
  pub printed : xs ≡ ys

removal_one : (s : SessionRow) (p : Past) (m : ℕ) (back other : Option ℕ) (q r : Past) (xs ys : List Event) → ComesAlike p.world back other
    → IsRemoval s p m back q xs → IsRemoval s p m other r ys → Same q r xs ys
removal_one s p m back other q r xs ys alike h k =
    let x : RemovalPart (high_of p) m back (high_of q) = h.look in
    let y : RemovalPart (high_of p) m other (high_of r) = k.look in
    let a = alike x.answered y.answered x.returns y.returns in
    let b = perhaps_one x.answered RemoveBegin (RemoveEnd ∷ []) q.world r.world x.removes (subst (λ (w : World). Perhaps w RemoveBegin (RemoveEnd ∷ []) r.world) (sym a) y.removes) in
    let t : x.time ≡ y.time = x.is_time ∙ ap (λ (u : World × World). time_between (high_of p) m u.0 u.1) (λ i. (a i, b i)) ∙ sym y.is_time in
    let times : q.times ≡ r.times = x.times ∙ ap (λ (o : Option ℕ). p.times ++ option_to_list o) t ∙ sym y.times in
    record {
      past = h.rest ∙ (λ i. record p { world = b i; times = times i }) ∙ sym k.rest;
      printed = h.printed_is ∙ (λ i. printed_removal s.id m (a i) (b i) (t i)) ∙ sym k.printed_is;
    }

sending_one : (s : SessionRow) (attaches : Bool) (p : Past) (m : ℕ) (q r : Past) (xs ys : List Event) → IsSending s attaches p m q xs → IsSending s attaches p m r ys → Same q r xs ys
sending_one s attaches p m q r xs ys h k =
    let x : SendingPart s.resend attaches (high_of p) m (high_of q) = h.look in
    let y : SendingPart s.resend attaches (high_of p) m (high_of r) = k.look in
    let a = perhaps_one p.world TakeUp [] x.taken y.taken x.takes_up y.takes_up in
    let c : x.is_sent ≡ y.is_sent = x.cause ∙ ap (λ (w : World). sends_hand s.resend attaches p.sends m w.high_hand) a ∙ sym y.cause in
    let b = sends_one x.is_sent x.taken q.world r.world x.sent (subst (λ (u : Bool × World). IsSent u.0 u.1 r.world) (λ i. (sym c i, sym a i)) y.sent) in
    let sends : q.sends ≡ r.sends = x.sends ∙ (λ i. if c i then sending_of m (a i).high_hand ++ p.sends else p.sends) ∙ sym y.sends in
    record {
      past = h.rest ∙ (λ i. record p { world = b i; sends = sends i; moment = m }) ∙ sym k.rest;
      printed = h.printed_is ∙ (λ i. if c i then printed_sending s.id m (a i).high_hand else []) ∙ sym k.printed_is;
    }

whole_one : (s : SessionRow) (attaches : Bool) (p : Past) (m : ℕ) (back other : Option ℕ) (q r : Past) (xs ys : List Event) → ComesAlike p.world back other
    → IsWholeLook s attaches p m back q xs → IsWholeLook s attaches p m other r ys → Same q r xs ys
whole_one s attaches p m back other q r xs ys alike (mid, a, b, h, t, e) (mid', a', b', h', t', e') =
    let x = removal_one s p m back other mid mid' a a' alike h h' in
    let y = sending_one s attaches mid m q r b b' t (subst (λ (u : Past). IsSending s attaches u m r b') (sym x.past) t') in
    record { past = y.past; printed = e ∙ (λ i. x.printed i ++ y.printed i) ∙ sym e' }

pub high_one : (s : SessionRow) (p : Past) (m : ℕ) (back : Option ℕ) (q r : Past) (xs ys : List Event) → IsHighLook s p m back q xs → IsHighLook s p m back r ys → Same q r xs ys
high_one s p m back q r xs ys h k = whole_one s false p m back back q r xs ys (returns_one p.world back) h k

return_by_one : (b : Bool) (s : SessionRow) (attaches : Bool) (p : Past) (m i j : ℕ) (q r : Past) (xs ys : List Event) → ComesAlike p.world (Some i) (Some j)
    → IsReturnBy b s attaches p m i q xs → IsReturnBy b s attaches p m j r ys → Same q r xs ys
return_by_one true s attaches p m i j q r xs ys alike h k = record { past = h.0 ∙ sym k.0; printed = h.1 ∙ sym k.1 }
return_by_one false s attaches p m i j q r xs ys alike h k = whole_one s attaches p m (Some i) (Some j) q r xs ys alike h k

return_one : (s : SessionRow) (p : Past) (m n : ℕ) (q r : Past) (xs ys : List Event) → IsReturn s p m n q xs → IsReturn s p m n r ys → Same q r xs ys
return_one s p m n q r xs ys h k = return_by_one (is_ahead p.world n) s false p m n n q r xs ys (returns_one p.world (Some n)) h k

attach_one : (s : SessionRow) (p : Past) (m count : ℕ) (q r : Past) (xs ys : List Event) → IsAttach s p m count q xs → IsAttach s p m count r ys → Same q r xs ys
attach_one s p m zero q r xs ys h k = whole_one s true p m None None q r xs ys (returns_one p.world None) h k
attach_one s p m (suc n) q r xs ys (i, at, h) (j, at', k) =
    let same : slice_get p.world.returned i ≡ slice_get p.world.returned j = at ∙ sym at' in
    let ahead : is_ahead p.world i ≡ is_ahead p.world j = ap (is_not_below (expected p.world.removed p.world.high_hand)) same in
    return_by_one (is_ahead p.world i) s true p m i j q r xs ys (taken_one p.world i j same) h (subst (λ (b : Bool). IsReturnBy b s true p m j r ys) (sym ahead) k)

carry_one : (s : SessionRow) (p : Past) (back : ℕ) (q r : Past) (xs ys : List Event) → IsCarried s p back q xs → IsCarried s p back r ys → Same q r xs ys
carry_one s p back q r xs ys h k =
    let d = same_Some h.packet k.packet (sym h.at ∙ k.at) in
    let a = happens_one p.world (CarryData (place p.world.sent back)) h.carried k.carried h.carries k.carries in
    let b = perhaps_one h.carried TakeBegin (TakeEnd ∷ []) q.world r.world h.takes (subst (λ (w : World). Perhaps w TakeBegin (TakeEnd ∷ []) r.world) (sym a) k.takes) in
    record {
      past = h.rest ∙ (λ i. record p { world = b i }) ∙ sym k.rest;
      printed = h.printed_is ∙ (λ i. printed_carry s.id p.world (d i) ∷ []) ∙ sym k.printed_is;
    }

pub cancel : (xs a b : List Sent) → xs ++ a ≡ xs ++ b → a ≡ b
cancel [] a b e = e
cancel (x ∷ xs) a b e = cancel xs a b (let f : xs ++ a ≡ xs ++ b = cc in f)

look_same : (s : SessionRow) (p : Past) (x : Look) (q r : Past) (xs ys : List Event) → IsLook s p x q xs → IsLook s p x r ys → Same q r xs ys
look_same s p x q r xs ys h k =
    let h' = looked p.history x in
    let c = one_cut s h'.life h.after k.after h.cut_with k.cut_with in
    let rs : h.replies ≡ k.replies = one_list_of_lives s (p.history.life ∷ p.history.earlier) h.replies k.replies h.are_replies k.are_replies in
    let all : h.replies ++ h.new ≡ k.replies ++ k.new = one_list_of_lives s (h'.life ∷ h'.earlier) (h.replies ++ h.new) (k.replies ++ k.new) h.are_replies_with k.are_replies_with in
    let n : h.new ≡ k.new = cancel h.replies h.new k.new (all ∙ ap (λ l. l ++ k.new) (sym rs)) in
    let w = run_one p.world (offers x.feedback ++ (stored_events (stores h.after) x.arrival ++ acks_of h.new)) q.world r.world h.world
    (subst (λ (u : List Part × List Sent). Run p.world (offers x.feedback ++ (stored_events (stores u.0) x.arrival ++ acks_of u.1)) r.world) (λ i. (sym c i, sym n i)) k.world) in
    let hi : q.history ≡ r.history = h.history ∙ sym k.history in
    let wa : q.waits ≡ r.waits = h.waits ∙ ap (λ (u : List Part). if takes u then drop 1 p.waits else p.waits) c ∙ sym k.waits in
    let br : q.is_broken ≡ r.is_broken = h.broken ∙ ap (λ (u : List Part). p.is_broken || (takes u && is_bad x.arrival)) c ∙ sym k.broken in
    let un : q.reading ≡ r.reading = h.reading ∙ sym k.reading in
    let fi : q.returned_before ≡ r.returned_before = h.first_returned ∙ sym k.first_returned in
    let ti : q.times ≡ r.times = h.times ∙ sym k.times in
    let se : q.sends ≡ r.sends = h.sends ∙ sym k.sends in
    let mo : q.moment ≡ r.moment = h.moment ∙ sym k.moment in
    record {
      past = λ i. record { history = hi i; waits = wa i; is_broken = br i; reading = un i; world = w i; returned_before = fi i; times = ti i; sends = se i; moment = mo i };
      printed = h.printed_is ∙ (λ i. printed_store s.id x.moment (stores (c i)) ++ (printed_feedback s.id x.moment x.feedback ++ printed_replies s.id (n i))) ∙ sym k.printed_is;
    }

look_one : (s : SessionRow) (p : Past) (m w : ℕ) (a : Arrival) (q r : Past) (xs ys : List Event) → IsLowLook s p m w a q xs → IsLowLook s p m w a r ys → Same q r xs ys
look_one s p m w a q r xs ys (f, h) (g, k) =
    let c = one_cut s p.history.life h.before k.before h.cut k.cut in
    let e : f ≡ g = h.told ∙ ap (λ (b : List Part). feedback s p b a) c ∙ sym k.told in
    look_same s p (look_of m w a f) q r xs ys h (subst (λ (t : Feedback). IsLook s p (look_of m w a t) r ys) (sym e) k)

goes_one : (s : SessionRow) (hand : Option ℕ) (p : Past) (m : ℕ) (q r : Past) (xs ys : List Event) → IsCarriedBack s hand p m q xs → IsCarriedBack s hand p m r ys → Same q r xs ys
goes_one s None p m q r xs ys h k = record { past = h.0 ∙ sym k.0; printed = h.1 ∙ sym k.1 }
goes_one s (Some n) p m q r xs ys (mid, a, b, c, t, e) (mid', a', b', c', t', e') =
    let x = carry_one s p 0 mid mid' a a' c c' in
    let y = return_one s mid m (place mid.world.returned 0) q r b b' t (subst (λ (u : Past). IsReturn s u m (place u.world.returned 0) r b') (sym x.past) t') in
    record { past = y.past; printed = e ∙ (λ i. x.printed i ++ y.printed i) ∙ sym e' }

-- ---- what comes ----

stream_one : (r : Reading) (bytes : List ℕ) (c d : LineComing) → IsRead r bytes c → IsRead r bytes d → c ≡ d
stream_one (Within held) bytes c d (fs, h, e) (gs, k, f) =
    let same = streams_one (held ++ bytes) fs gs c.reading d.reading h k in
    let added : c.added ≡ d.added = e ∙ ap (λ (t : List Frame × Reading). came t.0 ++ bad_of t.1) (λ i. (same.0 i, same.1 i)) ∙ sym f in
    λ i. record { added = added i; reading = same.1 i }
stream_one (Stopped at) bytes c d h k = h ∙ sym k

pub arrives_one : (session : ℕ) (r : Reading) (a : Arriving) (c d : LineComing) → Arrives session r a c → Arrives session r a d → c ≡ d
arrives_one session r arriving.Nothing c d h k = h ∙ sym k
arrives_one session r (arriving.Hello l n) c d h k = h ∙ sym k
arrives_one session r (arriving.Data n b) c d h k = h ∙ sym k
arrives_one session r (arriving.Raw bytes) c d h k = stream_one r bytes.items c d h k

-- ---- the lines that open disks again ----

restart_one : (s : SessionRow) (p : Past) (m : ℕ) (q r : Past) (xs ys : List Event) → IsRestart s p m q xs → IsRestart s p m r ys → Same q r xs ys
restart_one s p m q r xs ys (h, e, f) (k, e', f') =
    let w : q.world ≡ r.world = happens_one p.world (Crash (Some (false, false)) None) q.world r.world h k in
    record {
      past = e ∙ ap (λ (v : World). restarted p v m) w ∙ sym e';
      printed = f ∙ ap (λ (v : World). Restart s.id m (length v.accepted) v.removed (is_some v.low_hand) ∷ []) w ∙ sym f';
    }

reopened_one : (p q r : Past) → IsReopened p q → IsReopened p r → q ≡ r
reopened_one p q r (h, e) (k, f) =
    let w : q.world ≡ r.world = happens_one p.world (Crash None (Some false)) q.world r.world h k in
    e ∙ ap (λ (v : World). record p { world = v }) w ∙ sym f

receiver_one : (s : SessionRow) (p : Past) (m : ℕ) (q r : Past) (xs ys : List Event) → IsReceiverRestart s p m q xs → IsReceiverRestart s p m r ys → Same q r xs ys
receiver_one s p m q r xs ys (mid, h, (a, t, e)) (mid', h', (a', t', e')) =
    let x : mid ≡ mid' = reopened_one p mid mid' h h' in
    let y = attach_one s mid m (length mid.world.received) q r a a' t (subst (λ (u : Past). IsAttach s u m (length u.world.received) r a') (sym x) t') in
    record { past = y.past; printed = e ∙ (λ i. Attach s.id m (length (x i).world.received) ∷ y.printed i) ∙ sym e' }

-- ---- lines of a script ----

pub step_one : (s : SessionRow) (p : Past) (line : Line) (q r : Past) (xs ys : List Event) → LineStep s p line q xs → LineStep s p line r ys → Same q r xs ys
step_one s p lines.Skip q r xs ys h k = absurd h
step_one s p (lines.Session row) q r xs ys h k = absurd h
step_one s p (lines.LowSession row next held) q r xs ys h k = absurd h
step_one s p (lines.Coarse session) q r xs ys h k = absurd h
step_one s p (lines.Told session m w fault told a) q r xs ys h k = absurd h
step_one s p (lines.Step session m w) q r xs ys h k = absurd h
step_one s p (lines.Look session m w a) q r xs ys (c, comes, (few, h)) (d, comes', (few', k)) =
    let same = arrives_one session p.reading a c d comes comes' in
    look_one s (joined p c) m w (first_of p.is_broken (joined p c).waits) q r xs ys h (subst (λ (t : LineComing). IsOfferedLook s (joined p t) m w r ys) (sym same) k)
step_one s p (lines.Gone session m) q r xs ys h k = look_one s (lost p) m 0 Gone q r xs ys h k
step_one s p (lines.High session m) q r xs ys h k = high_one s p m None q r xs ys h k
step_one s p (lines.Carry session back) q r xs ys h k = carry_one s p back q r xs ys h k
step_one s p (lines.Return session m back) q r xs ys h k = return_one s p m (place p.world.returned back) q r xs ys h k
step_one s p (lines.Done session m t) q r xs ys (mid, a, b, h, g, e) (mid', a', b', h', g', e') =
    let x = high_one s p m None mid mid' a a' h h' in
    let y = goes_one s mid.world.high_hand mid (m + t) q r b b' g (subst (λ (u : Past). IsCarriedBack s u.world.high_hand u (m + t) r b') (sym x.past) g') in
    record { past = y.past; printed = e ∙ (λ i. x.printed i ++ y.printed i) ∙ sym e' }
step_one s p (lines.Restart session m) q r xs ys h k = restart_one s p m q r xs ys h k
step_one s p (lines.ReceiverRestart session m) q r xs ys h k = receiver_one s p m q r xs ys h k
