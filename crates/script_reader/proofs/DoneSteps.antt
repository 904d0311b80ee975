-- What a `done` line does to a session of any row between whose steps nothing is unfinished: the first live message is
-- removed.
use Rattle.std.proofs.Common.{◌≡◌, ◌⊎◌, inr, ⊎_elim, ℕ, ◌+◌, ◌-◌, ◌*◌, ◌<◌, ◌≤◌, zero, suc, Bool, true, false, List, [], ◌∷◌, ◌++◌, length, Option, Some, None, refl, sym, ap, ◌∙◌, subst, arith, length-append}
use Rattle.std.specs.Prelude.{◌==◌, ◌&&◌, nat_lt, nat_le, slice_get, if◌then◌else◌, option_to_list}
use Rattle.std.specs.List.{AllByRecursion, range_with_len}
use Rattle.std.proofs.lemmas.Bool.{ne_eqb, eq-eqb, le-ltb, lt-leb, ltb-false}
use Rattle.std.proofs.lemmas.Option.{same_Some}
use Rattle.std.proofs.lemmas.List.FromFn.{length-range_with_len}
use Rattle.pump_frame.specs.declared.frame.Item.{Item}
use Rattle.pump_frame.specs.declared.payload.Payload.{Payload}
use Rattle.pump_core.specs.declared.event.Event.TheVariants.{TakeUp, Send, CarryData, TakeBegin, TakeEnd, ReturnTaken, RemoveBegin, RemoveEnd}
use Rattle.pump_core.specs.World.{World}
use Rattle.pump_core.specs.declared.event.Event.{Event as WorldEvent}
use Rattle.script_reader.specs.declared.event.Event.{Event}
use Rattle.script_reader.specs.Past.{Past}
use Rattle.script_reader.specs.Highs.{IsHighLook, IsReturnBy, is_ahead, is_not_below, overfills, receiver_size, log_end, place}
use Rattle.script_reader.specs.Steps.{IsCarriedBack, IsDone, Overfills}
use Rattle.script_reader.specs.declared.line.Line.TheVariants as lines
use Rattle.pump_frame.specs.declared.row.SessionRow.{SessionRow}
use Rattle.pump_core.specs.Events.{Happens, Run, took, holds}
use Rattle.pump_core.specs.HighLooks.{Perhaps, IsSent}
use Rattle.pump_core.specs.Sendings.{Sending, last_sending, is_due, sends_hand, sending_of, expected}
use Rattle.pump_core.proofs.Bounded.{in_hand}
use Rattle.pump_core.proofs.Lists.{slice_get-past, length-push, All-at}
use Rattle.pump_core.proofs.Stepping.{answered_due}
use Rattle.pump_core.specs.Lawful.{numbers, IsMessage}
use Rattle.script_reader.proofs.Bounds.{Stays, perhaps_lawful, returns_lawful, sends_lawful, carry_lawful}

-- ---- sendings ----

abbrev pub AllBelow : ℕ → List Sending → Type 0
AllBelow n sends = AllByRecursion (λ s. s.number < n) sends

pub never_sent : (n : ℕ) (sends : List Sending) → AllBelow n sends → last_sending n sends ≡ None
never_sent n [] h = refl
never_sent n (x ∷ earlier) h =
    let other : (x.number == n) ≡ false = ne_eqb x.number n (λ e. absurd (omega (arith, e, h.0))) in
    rw other (never_sent n earlier h.1)

pub below_more : (n k : ℕ) (sends : List Sending) → n ≤ k → AllBelow n sends → AllBelow k sends
below_more n k [] le h = tt
below_more n k (x ∷ earlier) le h = (omega (arith, h.0, le), below_more n k earlier le h.1)

-- the last packet of these has the message's number
abbrev pub LastSent : List Item → ℕ → Type 0
LastSent sent n = (before : List Item) × (d : Item) × (sent ≡ before ++ d ∷ []) × (d.number ≡ n)

-- ---- a world between two lines ----

-- nothing is unfinished or under way to the receiver
pub record Calm (row : SessionRow) (w : World) : Type 0 where
  pub stays : Stays row.capacity w
  pub storing : w.storing ≡ None
  pub due : w.due ≡ false
  pub removing : w.removing ≡ false
  pub packet : w.packet ≡ None
  pub taking : w.taking ≡ false

-- .. and what is in the high hand was never sent since the opening, or was sent last
pub record Rests (row : SessionRow) (w : World) (sends : List Sending) : Type 0 where
  pub calm : Calm row w
  pub below : AllBelow (expected w.removed w.high_hand) sends
  pub last : (n : ℕ) → w.high_hand ≡ Some n → AllBelow n sends ⊎ LastSent w.sent n

-- what the high side keeps of it
pub record Keeps (w v : World) : Type 0 where
  pub accepted : v.accepted ≡ w.accepted
  pub low : v.low_hand ≡ w.low_hand

-- ---- the second part of a look ----

-- after a sending part a message that is not in the low hand is in the high hand, and was sent last
pub record Sends (row : SessionRow) (w v : World) (sends : List Sending) : Type 0 where
  pub rests : Rests row v sends
  pub last : (n : ℕ) → v.high_hand ≡ Some n → LastSent v.sent n
  pub keeps : Keeps w v
  pub removed : v.removed ≡ w.removed
  pub in_hand : v.high_hand ≡ None → v.held ≡ []

-- the hand is sent
sent_now : (row : SessionRow) (w v : World) (sends later : List Sending) (m n : ℕ) → Calm row w → AllBelow (w.removed + 1) sends → w.high_hand ≡ Some n
    → Happens w Send v → later ≡ sending_of m w.high_hand ++ sends → Sends row w v later
sent_now row w v sends later m n c below high (k, p, hand, whole, at, e) list =
    let stays : Stays row.capacity v = sends_lawful row.capacity true w v c.stays (k, p, hand, whole, at, e) in
    let first : n ≡ w.removed = (in_hand w n c.stays.lawful.bounded high).0 in
    let list' : later ≡ record { number = n; moment = m } ∷ sends = list ∙ ap (λ (o : Option ℕ). sending_of m o ++ sends) high in
    let u : World = record w { sent = w.sent ++ record { number = k; payload = p } ∷ [] } in
    let bound : AllBelow (expected w.removed w.high_hand) later =
    subst (λ (o : Option ℕ). AllBelow (expected w.removed o) later) (sym high)
    (subst (AllBelow (w.removed + 1)) (sym list') (omega (arith, first), below)) in
    let last : (j : ℕ) → w.high_hand ≡ Some j → LastSent u.sent j = λ j is. (w.sent, record { number = k; payload = p }, refl, same_Some k j (sym hand ∙ is)) in
    subst (λ (t : World). Sends row w t later) (sym e) (record {
      rests = record {
        calm = record {
          stays = subst (Stays row.capacity) e stays;
          storing = c.storing;
          due = c.due;
          removing = c.removing;
          packet = c.packet;
          taking = c.taking;
        };
        below = bound;
        last = λ j (is : w.high_hand ≡ Some j). inr (last j is);
      };
      last = last;
      keeps = record { accepted = refl; low = refl };
      removed = refl;
      in_hand = λ (none : w.high_hand ≡ None). absurd (cc (sym high ∙ none));
    })

-- nothing is sent
unsent : (row : SessionRow) (w v : World) (sends later : List Sending) → Rests row w sends → ((n : ℕ) → w.high_hand ≡ Some n → LastSent w.sent n)
    → (w.high_hand ≡ None → w.held ≡ []) → v ≡ w → later ≡ sends → Sends row w v later
unsent row w v sends later r last full e list =
    subst (λ (t : World). Sends row w t later) (sym e) (subst (Sends row w w) (sym list) (record {
      rests = r;
      last = last;
      keeps = record { accepted = refl; low = refl };
      removed = refl;
      in_hand = full;
    }))

-- a message that was never sent is due
never_rests : (resend m n : ℕ) (sends : List Sending) (hand : Option ℕ) → hand ≡ Some n → AllBelow n sends → false ≡ sends_hand resend false sends m hand → ⊥
never_rests resend m n sends hand high below cause =
    let yes : sends_hand resend false sends m hand ≡ true =
    ap (sends_hand resend false sends m) high ∙ ap (λ (o : Option ℕ). is_due resend o m) (never_sent n sends below) in
    cc (cause ∙ yes)

-- a hand that is full is sent, or is not
full_hand : (row : SessionRow) (b : Bool) (w v : World) (sends later : List Sending) (m n : ℕ) → Rests row w sends → w.high_hand ≡ Some n
    → b ≡ sends_hand row.resend false sends m w.high_hand
    → IsSent b w v → later ≡ (if b then sending_of m w.high_hand ++ sends else sends) → Sends row w v later
full_hand row true w v sends later m n r high cause h list =
    sent_now row w v sends later m n r.calm (subst (λ (o : Option ℕ). AllBelow (expected w.removed o) sends) high r.below) high h list
full_hand row false w v sends later m n r high cause e list =
    unsent row w v sends later r
    (λ k is. ⊎_elim (λ (never : AllBelow k sends). absurd (never_rests row.resend m k sends w.high_hand is never cause)) (λ (l : LastSent w.sent k). l) (r.last k is))
    (λ none. absurd (cc (sym high ∙ none))) e list

-- a message that was taken up is sent
taken_up : (row : SessionRow) (b : Bool) (w v : World) (sends later : List Sending) (m n : ℕ) → Calm row w → AllBelow w.removed sends → w.high_hand ≡ Some n
    → b ≡ sends_hand row.resend false sends m w.high_hand
    → IsSent b w v → later ≡ (if b then sending_of m w.high_hand ++ sends else sends) → Sends row w v later
taken_up row true w v sends later m n c below high cause h list =
    sent_now row w v sends later m n c (below_more w.removed (w.removed + 1) sends (omega arith) below) high h list
taken_up row false w v sends later m n c below high cause e list =
    let first : n ≡ w.removed = (in_hand w n c.stays.lawful.bounded high).0 in
    absurd (never_rests row.resend m n sends w.high_hand high (below_more w.removed n sends (omega (arith, first)) below) cause)

perhaps_not : (w : World) (e : WorldEvent) (es : List WorldEvent) (v : World) → ((x : World) → Happens w e x → ⊥) → Perhaps w e es v → v ≡ w
perhaps_not w e es v never h = ⊎_elim
    (λ (r : Run w (e ∷ es) v). absurd (never r.0 r.1))
    (λ (o : ((x : World) → Happens w e x → ⊥) × (v ≡ w)). o.1)
    h

perhaps_does : (w : World) (e : WorldEvent) (es : List WorldEvent) (v x : World) → Happens w e x → Perhaps w e es v → Run w (e ∷ es) v
perhaps_does w e es v x does h = ⊎_elim
    (λ (r : Run w (e ∷ es) v). r)
    (λ (o : ((x : World) → Happens w e x → ⊥) × (v ≡ w)). absurd (o.0 x does))
    h

-- the hand is empty, and the next message, if there is one, is taken up
empty_hand : (row : SessionRow) (held : List ℕ) (b : Bool) (w taken v : World) (sends later : List Sending) (m : ℕ) → Rests row w sends → w.high_hand ≡ None → w.held ≡ held
    → Perhaps w TakeUp [] taken → b ≡ sends_hand row.resend false sends m taken.high_hand
    → IsSent b taken v → later ≡ (if b then sending_of m taken.high_hand ++ sends else sends) → Sends row w v later
empty_hand row [] b w taken v sends later m r none held h cause sent list =
    let same : taken ≡ w = perhaps_not w TakeUp [] taken (λ x (k, rest, nn, e, f). absurd (cc (sym held ∙ e))) h in
    let no : b ≡ false = cause ∙ ap (λ (u : World). sends_hand row.resend false sends m u.high_hand) same ∙ ap (sends_hand row.resend false sends m) none in
    let e : v ≡ taken = subst (λ x. IsSent x taken v) no sent in
    unsent row w v sends later r (λ n is. absurd (cc (sym none ∙ is))) (λ nn. held) (e ∙ same) (list ∙ ap (λ (x : Bool). if x then sending_of m taken.high_hand ++ sends else sends) no)
empty_hand row (n ∷ rest) b w taken v sends later m r none held h cause sent list =
    let does : Happens w TakeUp (record w { held = rest; high_hand = Some n }) = (n, rest, none, held, refl) in
    let run = perhaps_does w TakeUp [] taken (record w { held = rest; high_hand = Some n }) does h in
    let k = run.1.0 in
    let after : List ℕ = run.1.1 in
    let e : taken ≡ record w { held = after; high_hand = Some k } = run.2 ∙ run.1.4 in
    let stays : Stays row.capacity taken = perhaps_lawful row.capacity w TakeUp [] taken r.calm.stays h in
    let calm : Calm row taken = subst (Calm row) (sym e) (record {
      stays = subst (Stays row.capacity) e stays;
      storing = r.calm.storing;
      due = r.calm.due;
      removing = r.calm.removing;
      packet = r.calm.packet;
      taking = r.calm.taking;
    }) in
    let below : AllBelow w.removed sends = subst (λ (o : Option ℕ). AllBelow (expected w.removed o) sends) none r.below in
    let removed : taken.removed ≡ w.removed = ap (λ (u : World). u.removed) e in
    let s = taken_up row b taken v sends later m k calm (subst (λ x. AllBelow x sends) (sym removed) below) (ap (λ (u : World). u.high_hand) e) cause sent list in
    record {
      rests = s.rests;
      last = s.last;
      keeps = record { accepted = s.keeps.accepted ∙ ap (λ (u : World). u.accepted) e; low = s.keeps.low ∙ ap (λ (u : World). u.low_hand) e };
      removed = s.removed ∙ removed;
      in_hand = s.in_hand;
    }

-- the second part of any high look in which no receiver attaches
sends_part : (row : SessionRow) (high : Option ℕ) (b : Bool) (w taken v : World) (sends later : List Sending) (m : ℕ) → w.high_hand ≡ high → Rests row w sends
    → Perhaps w TakeUp [] taken → b ≡ sends_hand row.resend false sends m taken.high_hand
    → IsSent b taken v → later ≡ (if b then sending_of m taken.high_hand ++ sends else sends) → Sends row w v later
sends_part row None b w taken v sends later m none r h cause sent list = empty_hand row w.held b w taken v sends later m r none refl h cause sent list
sends_part row (Some n) b w taken v sends later m high r h cause sent list =
    let same : taken ≡ w = perhaps_not w TakeUp [] taken (λ x (k, rest, none, e, f). absurd (cc (sym high ∙ none))) h in
    full_hand row b w v sends later m n r high (cause ∙ ap (λ (u : World). sends_hand row.resend false sends m u.high_hand) same) (subst (λ (u : World). IsSent b u v) same sent)
    (list ∙ ap (λ (u : World). if b then sending_of m u.high_hand ++ sends else sends) same)

-- ---- the first part ----

-- nothing comes back, and nothing is removed
unremoved : (w answer v : World) → w.due ≡ false → answer ≡ w → Perhaps answer RemoveBegin (RemoveEnd ∷ []) v → v ≡ w
unremoved w answer v due e h =
    perhaps_not w RemoveBegin (RemoveEnd ∷ []) v (λ x h. absurd (cc (sym due ∙ h.0)))
    (subst (λ (u : World). Perhaps u RemoveBegin (RemoveEnd ∷ []) v) e h)

-- a high look to which nothing comes back
pub quiet_high : (row : SessionRow) (p : Past) (m : ℕ) (q : Past) (printed : List Event) → Rests row p.world p.sends → IsHighLook row p m None q printed
    → Sends row p.world q.world q.sends
quiet_high row p m q printed r (u, a, b, first, second, e) =
    let same : u.world ≡ p.world = unremoved p.world first.look.answered u.world r.calm.due first.look.returns first.look.removes in
    let sends : u.sends ≡ p.sends = first.look.sends in
    let rests : Rests row u.world u.sends = subst (λ (x : World × List Sending). Rests row x.0 x.1) (λ i. (sym same i, sym sends i)) r in
    let s = sends_part row u.world.high_hand second.look.is_sent u.world second.look.taken q.world u.sends q.sends m refl rests second.look.takes_up second.look.cause second.look.sent second.look.sends in
    record {
      rests = s.rests;
      last = s.last;
      keeps = record { accepted = s.keeps.accepted ∙ ap (λ (w : World). w.accepted) same; low = s.keeps.low ∙ ap (λ (w : World). w.low_hand) same };
      removed = s.removed ∙ ap (λ (w : World). w.removed) same;
      in_hand = s.in_hand;
    }

-- ---- the packet that was sent last ----

last_at : {X : Type 0} (before : List X) (d : X) → slice_get (before ++ d ∷ []) (place (before ++ d ∷ []) 0) ≡ Some d
last_at before d =
    let e : place (before ++ d ∷ []) 0 ≡ length before = omega (arith, length-push before d) in
    ap (λ k. slice_get (before ++ d ∷ []) k) e ∙ slice_get-past before d []

pub last_packet : {X : Type 0} (sent before : List X) (d : X) → sent ≡ before ++ d ∷ [] → slice_get sent (place sent 0) ≡ Some d
last_packet sent before d e = subst (λ xs. slice_get xs (place xs 0) ≡ Some d) (sym e) (last_at before d)

-- the world when the receiver answered message n: it has these messages then
abbrev pub answered_by : World → ℕ → List Payload → World
answered_by w n received = record w { returned = w.returned ++ n ∷ []; received = received; packet = None; taking = false }

-- a message that the receiver has is answered again
carries_again : (w : World) (n : ℕ) (v : World) (carry : World) → w.packet ≡ None → w.taking ≡ false → carry ≡ record w { returned = w.returned ++ n ∷ [] }
    → Perhaps carry TakeBegin (TakeEnd ∷ []) v → v ≡ answered_by w n w.received
carries_again w n v carry packet taking is h =
    let none : carry.packet ≡ None = ap (λ (u : World). u.packet) is ∙ packet in
    perhaps_not carry TakeBegin (TakeEnd ∷ []) v (λ x begins. absurd (cc (sym none ∙ begins.1))) h ∙ is
    ∙ ap (λ (t : Option Payload × Bool). record w { returned = w.returned ++ n ∷ []; packet = t.0; taking = t.1 }) (λ i. (packet i, taking i))

-- its next message it takes
carries_next : (w : World) (n : ℕ) (v : World) (carry : World) (message : Payload) → length w.received ≡ n → w.taking ≡ false → carry ≡ record w { packet = Some message }
    → Perhaps carry TakeBegin (TakeEnd ∷ []) v → (received : List Payload) × (v ≡ answered_by w n received)
carries_next w n v carry message next taking is h =
    let a : World = record w { packet = Some message } in
    let run = perhaps_does a TakeBegin (TakeEnd ∷ []) v (record a { taking = true }) (message, refl, taking, refl)
    (subst (λ (u : World). Perhaps u TakeBegin (TakeEnd ∷ []) v) is h) in
    let p = run.2.1.0 in
    (w.received ++ p ∷ [], run.2.2 ∙ run.2.1.3 ∙ ap (λ (u : World). took u p) run.1.3 ∙ ap (λ k. answered_by w k (w.received ++ p ∷ [])) next)

carries_by : (row : SessionRow) (b : Bool) (w : World) (n : ℕ) (v : World) (carry : World) (d : Item) → Calm row w → n ≡ w.removed → d.number ≡ n → nat_lt d.number (length w.received) ≡ b
    → carry ≡ (if b then record w { returned = w.returned ++ d.number ∷ [] } else record w { packet = Some d.payload })
    → Perhaps carry TakeBegin (TakeEnd ∷ []) v → (received : List Payload) × (v ≡ answered_by w n received)
carries_by row true w n v carry d c first number again is h =
    (w.received, carries_again w n v carry c.packet c.taking (is ∙ ap (λ k. record w { returned = w.returned ++ k ∷ [] }) number) h)
carries_by row false w n v carry d c first number again is h =
    let least : length w.received ≤ d.number = ltb-false d.number (length w.received) again in
    carries_next w n v carry d.payload (omega (arith, least, number, first, c.stays.lawful.delivered.removed)) c.taking is h

carries_on : (row : SessionRow) (w : World) (n : ℕ) (carry v : World) → Calm row w → w.high_hand ≡ Some n → LastSent w.sent n
    → Happens w (CarryData (place w.sent 0)) carry → Perhaps carry TakeBegin (TakeEnd ∷ []) v
    → (received : List Payload) × (v ≡ answered_by w n received)
carries_on row w n carry v c high (before, d, sent, number) (packet, at, empty, fits, e) h =
    let same : packet ≡ d = same_Some packet d (sym at ∙ last_packet w.sent before d sent) in
    let first : n ≡ w.removed = (in_hand w n c.stays.lawful.bounded high).0 in
    carries_by row (nat_lt packet.number (length w.received)) w n v carry packet c first (ap (λ (x : Item). x.number) same ∙ number) refl e h

-- ---- the message that was taken comes back ----

-- after the receiver answered the message in the hand
record Took (row : SessionRow) (w : World) (sends : List Sending) (n : ℕ) : Type 0 where
  calm : Calm row w
  high : w.high_hand ≡ Some n
  first : n ≡ w.removed
  below : AllBelow (w.removed + 1) sends
  returned : slice_get w.returned (place w.returned 0) ≡ Some n

-- a removal in which it comes back
record Gone (row : SessionRow) (w v : World) (sends : List Sending) : Type 0 where
  rests : Rests row v sends
  keeps : Keeps w v
  removed : v.removed ≡ w.removed + 1

removes : (row : SessionRow) (w answer v : World) (sends : List Sending) (n : ℕ) → Took row w sends n
    → Happens w (ReturnTaken (place w.returned 0)) answer → Perhaps answer RemoveBegin (RemoveEnd ∷ []) v → Gone row w v sends
removes row w answer v sends n t back h =
    let j = back.0 in
    let same : j ≡ n = same_Some j n (sym back.1 ∙ t.returned) in
    let held : holds w.high_hand j ≡ true = ap (λ (o : Option ℕ). holds o j) t.high ∙ eq-eqb n j (sym same) in
    let a : World = record w { due = true } in
    let is : answer ≡ a = back.3 ∙ answered_due w j (same ∙ t.first) held in
    let x : World = record a { removing = true } in
    let run = perhaps_does a RemoveBegin (RemoveEnd ∷ []) v x (refl, t.calm.removing, refl) (subst (λ (u : World). Perhaps u RemoveBegin (RemoveEnd ∷ []) v) is h) in
    let finish : World → World = λ u. record u { removed = u.removed + 1; high_hand = None; due = false; removing = false } in
    let e : v ≡ finish x = run.2.2 ∙ run.2.1.1 ∙ ap finish run.1.2 in
    let stays : Stays row.capacity v = perhaps_lawful row.capacity answer RemoveBegin (RemoveEnd ∷ []) v (returns_lawful row.capacity w (Some (place w.returned 0)) answer t.calm.stays back) h in
    subst (λ (u : World). Gone row w u sends) (sym e) (record {
      rests = record {
        calm = record {
          stays = subst (Stays row.capacity) e stays;
          storing = t.calm.storing;
          due = refl;
          removing = refl;
          packet = t.calm.packet;
          taking = t.calm.taking;
        };
        below = t.below;
        last = λ k (none : None ≡ Some k). absurd (cc none);
      };
      keeps = record { accepted = refl; low = refl };
      removed = refl;
    })

-- ---- the line ----

-- what a line that removes a message keeps, and what it changes
pub record Removes (row : SessionRow) (p q : Past) (m : ℕ) : Type 0 where
  pub rests : Rests row q.world q.sends
  pub accepted : q.world.accepted ≡ p.world.accepted
  pub low : q.world.low_hand ≡ p.world.low_hand
  pub removed : q.world.removed ≡ p.world.removed + 1
  pub history : q.history ≡ p.history
  pub waits : q.waits ≡ p.waits
  pub broken : q.is_broken ≡ p.is_broken
  pub moment : q.moment ≡ m

returns_on : (row : SessionRow) (b : Bool) (p : Past) (m n : ℕ) (q : Past) (printed : List Event) → Took row p.world p.sends n → b ≡ is_ahead p.world (place p.world.returned 0)
    → IsReturnBy b row false p m (place p.world.returned 0) q printed → Removes row p q m
returns_on row true p m n q printed t ahead h =
    let low : nat_le (p.world.removed + 1) n ≡ false = lt-leb (p.world.removed + 1) n (omega (arith, t.first)) in
    let behind : is_ahead p.world (place p.world.returned 0) ≡ false =
    ap (λ (o : Option ℕ). is_not_below (expected p.world.removed p.world.high_hand) o) t.returned
    ∙ ap (λ (o : Option ℕ). nat_le (expected p.world.removed o) n) t.high ∙ low in
    absurd (cc (ahead ∙ behind))
returns_on row false p m n q printed t ahead (u, a, b, first, second, e) =
    let g = removes row p.world first.look.answered u.world p.sends n t first.look.returns first.look.removes in
    let sends : u.sends ≡ p.sends = first.look.sends in
    let rests : Rests row u.world u.sends = subst (Rests row u.world) (sym sends) g.rests in
    let s = sends_part row u.world.high_hand second.look.is_sent u.world second.look.taken q.world u.sends q.sends m refl rests second.look.takes_up second.look.cause second.look.sent second.look.sends in
    record {
      rests = s.rests;
      accepted = s.keeps.accepted ∙ g.keeps.accepted;
      low = s.keeps.low ∙ g.keeps.low;
      removed = s.removed ∙ g.removed;
      history = ap (λ (x : Past). x.history) second.rest ∙ ap (λ (x : Past). x.history) first.rest;
      waits = ap (λ (x : Past). x.waits) second.rest ∙ ap (λ (x : Past). x.waits) first.rest;
      broken = ap (λ (x : Past). x.is_broken) second.rest ∙ ap (λ (x : Past). x.is_broken) first.rest;
      moment = ap (λ (x : Past). x.moment) second.rest;
    }

-- something is live that is not in the low hand
abbrev pub HasOne : World → Type 0
HasOne w = length (option_to_list w.low_hand) < length w.accepted - w.removed

-- then it is in the high hand after a look
filled : (row : SessionRow) (w v : World) (sends : List Sending) → HasOne w → Sends row w v sends → (o : Option ℕ) → v.high_hand ≡ o → (n : ℕ) × (v.high_hand ≡ Some n)
filled row w v sends one s (Some n) e = (n, e)
filled row w v sends one s None e =
    let order = s.rests.calm.stays.lawful.bounded.order.order in
    let numbers_are : numbers None [] v.low_hand ≡ range_with_len v.removed (length v.accepted - v.removed) =
    sym (ap (λ (x : Option ℕ × List ℕ). numbers x.0 x.1 v.low_hand) (λ i. (e i, s.in_hand e i))) ∙ order in
    let few : length (option_to_list v.low_hand) ≡ length v.accepted - v.removed =
    ap length numbers_are ∙ length-range_with_len v.removed (length v.accepted - v.removed) in
    let low : length (option_to_list v.low_hand) ≡ length (option_to_list w.low_hand) = ap (λ (x : Option ℕ). length (option_to_list x)) s.keeps.low in
    absurd (omega (arith, few, low, ap length s.keeps.accepted, s.removed, one))

-- the receiver answers the message in the hand
takes_hand : (row : SessionRow) (w v : World) (sends : List Sending) (n : ℕ) (received : List Payload) → Calm row w → w.high_hand ≡ Some n → n ≡ w.removed
    → AllBelow (expected w.removed w.high_hand) sends → Stays row.capacity v → v ≡ answered_by w n received → Took row v sends n
takes_hand row w v sends n received c high first below stays is =
    subst (λ (u : World). Took row u sends n) (sym is) (record {
      calm = record {
        stays = subst (Stays row.capacity) is stays;
        storing = c.storing;
        due = c.due;
        removing = c.removing;
        packet = refl;
        taking = refl;
      };
      high = high;
      first = first;
      below = subst (λ (o : Option ℕ). AllBelow (expected w.removed o) sends) high below;
      returned = last_at w.returned n;
    })

carried_back : (row : SessionRow) (hand : Option ℕ) (n : ℕ) (p : Past) (m : ℕ) (q : Past) (printed : List Event) → hand ≡ Some n → p.world.high_hand ≡ Some n → Rests row p.world p.sends
    → LastSent p.world.sent n → IsCarriedBack row hand p m q printed → Removes row p q m
carried_back row None n p m q printed some high r last h = absurd (cc some)
carried_back row (Some k) n p m q printed some high r last (mid, a, b, c, back, e) =
    let first : n ≡ p.world.removed = (in_hand p.world n r.calm.stays.lawful.bounded high).0 in
    let on = carries_on row p.world n c.carried mid.world r.calm high last c.carries c.takes in
    let is : mid.world ≡ answered_by p.world n on.0 = on.1 in
    let stays : Stays row.capacity mid.world = carry_lawful row.capacity row p 0 mid a r.calm.stays c in
    let t : Took row mid.world p.sends n = takes_hand row p.world mid.world p.sends n on.0 r.calm high first r.below stays is in
    let t' : Took row mid.world mid.sends n = subst (λ (s : List Sending). Took row mid.world s n) (sym (ap (λ (x : Past). x.sends) c.rest)) t in
    let d = returns_on row (is_ahead mid.world (place mid.world.returned 0)) mid m n q b t' refl back in
    record {
      rests = d.rests;
      accepted = d.accepted ∙ ap (λ (w : World). w.accepted) is;
      low = d.low ∙ ap (λ (w : World). w.low_hand) is;
      removed = d.removed ∙ ap (λ (w : World). w.removed + 1) is;
      history = d.history ∙ ap (λ (x : Past). x.history) c.rest;
      waits = d.waits ∙ ap (λ (x : Past). x.waits) c.rest;
      broken = d.broken ∙ ap (λ (x : Past). x.is_broken) c.rest;
      moment = d.moment;
    }

-- a `done` line removes a message, where one is there that is not in the low hand
pub done_removes : (row : SessionRow) (p q : Past) (m t : ℕ) (printed : List Event) → Rests row p.world p.sends → HasOne p.world → IsDone row p m t q printed → Removes row p q (m + t)
done_removes row p q m t printed r one (mid, a, b, high, back, e) =
    let s = quiet_high row p m mid a r high in
    let f = filled row p.world mid.world mid.sends one s mid.world.high_hand refl in
    let d = carried_back row mid.world.high_hand f.0 mid (m + t) q b f.1 f.1 s.rests (s.last f.0 f.1) back in
    let first = high.3 in
    let second = high.4 in
    record {
      rests = d.rests;
      accepted = d.accepted ∙ s.keeps.accepted;
      low = d.low ∙ s.keeps.low;
      removed = d.removed ∙ ap (λ x. x + 1) s.removed;
      history = d.history ∙ ap (λ (x : Past). x.history) second.rest ∙ ap (λ (x : Past). x.history) first.rest;
      waits = d.waits ∙ ap (λ (x : Past). x.waits) second.rest ∙ ap (λ (x : Past). x.waits) first.rest;
      broken = d.broken ∙ ap (λ (x : Past). x.is_broken) second.rest ∙ ap (λ (x : Past). x.is_broken) first.rest;
      moment = d.moment;
    }

-- ---- the receiver's disk ----

and_false : (a b : Bool) → b ≡ false → (a && b) ≡ false
and_false true b e = e
and_false false b e = refl

log_bound : (s : ℕ) (messages : List Payload) → s ≤ 64 → AllByRecursion (λ m. length m ≤ s) messages → log_end messages ≤ 80 + 66 * length messages
log_bound s [] le h = omega arith
log_bound s (m ∷ messages) le h = omega (arith, h.0, le, log_bound s messages le h.1)

short_prefix : (s : ℕ) (xs ys : List Payload) → AllByRecursion (λ m. length m ≤ s) (xs ++ ys) → AllByRecursion (λ m. length m ≤ s) xs
short_prefix s [] ys h = tt
short_prefix s (x ∷ xs) ys h = (h.0, short_prefix s xs ys h.1)

short_at : (s : ℕ) (xs : List Payload) (k : ℕ) (x : Payload) → AllByRecursion (λ m. length m ≤ s) xs → slice_get xs k ≡ Some x → length x ≤ s
short_at s [] k x h e = absurd (cc)
short_at s (y ∷ ys) zero x h e = omega (arith, ap length (same_Some y x e), h.0)
short_at s (y ∷ ys) (suc k) x h e = short_at s ys k x h.1 e

no_overfill : (row : SessionRow) (w : World) (d : Item) (n : ℕ) (before : List Item) → row.message ≤ 64 → Calm row w
    → AllByRecursion (λ m. length m ≤ row.message) w.accepted → length w.accepted ≤ 100000
    → w.sent ≡ before ++ d ∷ [] → overfills w d ≡ false
no_overfill row w d n before small c short few sent =
    let lawful = c.stays.lawful in
    let prefix = lawful.delivered.prefix in
    let received : AllByRecursion (λ m. length m ≤ row.message) w.received =
    short_prefix row.message w.received prefix.0 (subst (AllByRecursion (λ m. length m ≤ row.message)) (sym prefix.1) short) in
    let end = log_bound row.message w.received small received in
    let message = All-at (IsMessage w.removed w.accepted) w.sent (place w.sent 0) d lawful.bounded.sent (last_packet w.sent before d sent) in
    let size : length d.payload ≤ row.message = short_at row.message w.accepted d.number d.payload short message.payload in
    let all : length w.received ≤ length w.accepted = omega (arith, sym (length-append w.received prefix.0) ∙ ap length prefix.1) in
    let below : nat_lt receiver_size (log_end w.received + 2 + length d.payload) ≡ false =
    le-ltb receiver_size (log_end w.received + 2 + length d.payload) (omega (arith, end, size, small, all, few)) in
    and_false (d.number == length w.received) _ below

-- no message of 64 bytes at most overfills the disk, where at most 100000 were accepted
pub never_overfills : (row : SessionRow) (p q : Past) (m t : ℕ) (printed : List Event) (end size_of_message size : ℕ) → row.message ≤ 64 → Rests row p.world p.sends
    → AllByRecursion (λ m. length m ≤ row.message) p.world.accepted → length p.world.accepted ≤ 100000
    → Overfills row p (lines.Done row.id m t) q printed end size_of_message size → ⊥
never_overfills row p q m t printed end size_of_message size small r short few (high, (n, hand), over) =
    let s = quiet_high row p m q printed r high in
    let last = s.last n hand in
    let same : over.packet ≡ last.1 = same_Some over.packet last.1 (sym over.at ∙ last_packet q.world.sent last.0 last.1 last.2) in
    let fits = no_overfill row q.world last.1 n last.0 small s.rests.calm (subst (AllByRecursion (λ m. length m ≤ row.message)) (sym s.keeps.accepted) short)
    (omega (arith, ap length s.keeps.accepted, few)) last.2 in
    cc (sym over.over ∙ ap (overfills q.world) same ∙ fits)
