-- After a low look the parts work on, or the low process is down.
use Rattle.std.proofs.Common.{◌≡◌, ℕ, ◌≤◌, Bool, true, false, List, [], ◌∷◌, length, Option, Some, None, Result, refl, sym, ap, ◌∙◌, subst, arith}
use Rattle.std.specs.Prelude.{All, ◌||◌, not, option_to_list}
use Rattle.std.proofs.Math.Logic.{∥∥₁_map}
use Rattle.std.proofs.lemmas.List.Elements.{All-append, All-cons, All-nil}
use Rattle.disk_model.specs.Disk.{Meaning}
use Rattle.pump_frame.specs.declared.payload.Payload.{Payload}
use Rattle.pump_frame.specs.declared.row.SessionRow.{SessionRow}
use Rattle.pump_frame.specs.declared.frame.Item.{Item}
use Rattle.stable_buffer.specs.Low.{low_disk}
use Rattle.pump_core.specs.declared.feedback.Feedback.{Feedback}
use Rattle.pump_core.specs.declared.feedback.Feedback.TheVariants.{Quiet, Full, Passed, Released, Repeat}
use Rattle.pump_core.specs.History.{Arrival, Look, looked}
use Rattle.pump_core.specs.History.{Nothing, Came, Bad, Gone}
use Rattle.high_receiver.specs.Receiving.{recv_is_open}
use Rattle.passage.specs.Plain.{held_in}
use Rattle.low_process.specs.declared.values.LowLook.{LowLook}
use Rattle.low_process.specs.Looks.{look_of, state_of, row_of, is_down, hand_of, hand_passed, hand_stored}
use Rattle.low_process.specs.Storing.{message_in}
use Rattle.high_process.specs.States as high
use Rattle.two_worlds.specs.declared.applied.Stop.{Stop}
use Rattle.two_worlds.specs.declared.pump.parts.Parts.{Parts}
use Rattle.two_worlds.specs.Private.GoingOn.{WorksOn}
use Rattle.two_worlds.specs.Private.LowLooks.{stop_of}
use Rattle.two_worlds.specs.Working.{Works, IsAble, IsShort, IsShortHand}
use Rattle.two_worlds.proofs.Low.Grows.{payloads}
use Rattle.two_worlds.proofs.Low.Looked.{Looked}
use Rattle.two_worlds.proofs.Low.Passes.{Passes, passes}
use Rattle.two_worlds.proofs.Low.Serves.{stop_by, down_is}
use Rattle.two_worlds.proofs.Low.Stepping.{Stepped, stepped}
use Rattle.two_worlds.proofs.Low.Told.{moves}
use Rattle.two_worlds.proofs.Low.Wants.{taking, is_short, stored_is}
use Rattle.two_worlds.proofs.Low.Worlds.{held_by}

short_passed : (row : SessionRow) (hand : Option Item) (f : Feedback) → IsShortHand row hand → IsShortHand row (hand_passed hand f)
short_passed row hand Quiet h = h
short_passed row hand Full h = h
short_passed row hand (Passed s) h = tt
short_passed row hand Released h = tt
short_passed row hand (Repeat s) h = tt

short_listed : (row : SessionRow) (hand : Option Item) → IsShortHand row hand → All (IsShort row) (option_to_list hand)
short_listed row None h = All-nil (IsShort row)
short_listed row (Some x) h = All-cons (IsShort row) x [] h (All-nil (IsShort row))

short_held : (row : SessionRow) (hand : Option Item) (held : List Item) (b : Bool) → IsShortHand row hand → All (IsShort row) held → All (IsShort row) (held_by hand held b)
short_held row hand held true h all = All-append (IsShort row) held (option_to_list hand) all (short_listed row hand h)
short_held row hand held false h all = all

short_stored : (row : SessionRow) (hand : Option Item) (a : Arrival) (stored : Option ℕ) → IsShortHand row hand → ((x : Payload) → payloads stored a ≡ x ∷ [] → length x ≤ row.message) → IsShortHand row (hand_stored hand a stored)
short_stored row hand a None h short = h
short_stored row hand (Came f) (Some n) h short = short f.payload refl
short_stored row hand Nothing (Some n) h short = tt
short_stored row hand Bad (Some n) h short = tt
short_stored row hand Gone (Some n) h short = tt

some_of : (o : Option Payload) (x : Payload) → option_to_list o ≡ x ∷ [] → o ≡ Some x
some_of None x e = absurd (cc)
some_of (Some y) x e = cc

module _ {D : Type 0} (m : Meaning D) (c d : Parts D) (moment word : ℕ) (a : Arrival) (l : LowLook) (did : Looked m c d moment word a false l) (order : c.moment ≤ moment) (w : Works m c) where
  abbrev x : Look
  x = look_of moment word a false l.feedback

  step : Stepped (row_of c.low) (state_of c.low) d.low x l
  step = stepped c.low d.low w.history x l w.low_ready.history did.step.looks did.row did.last (let h = w.low_ready.last in omega (arith, h, order))

  passed : Passes c.ends d.ends d.low w.ends.high (hand_of c.low) l.feedback
  passed = passes c.ends d.ends d.low w.ends.low w.ends.high (hand_of c.low) l.feedback w.ends.stand (did.ends w.ends.low w.ends.high (w.ends.stand, w.ends.low_fits))

  stored_short : (p : Payload) → payloads l.stored a ≡ p ∷ [] → length p ≤ c.row.message
  stored_short p e =
      let is : option_to_list (message_in c.low a) ≡ p ∷ [] = sym (stored_is c.low moment word a l.feedback) ∙ ap (λ st. payloads st a) (sym step.stored) ∙ e in
      subst (λ (r : SessionRow). length p ≤ r.message) w.low_ready.row (is_short c.low a p (taking c.low a p (some_of (message_in c.low a) p is)))

  up : is_down d.low ≡ false
  up = did.step.falls ∙ ap (λ (b : Bool). b || false) w.low_ready.up

  abbrev d' : Parts D
  d' = record c { low = d.low; low_store = d.low_store; ends = d.ends; connection = d.connection; moment = moment }

  works_then : Works m d'
  works_then = record {
    row = w.row;
    history = looked w.history x;
    past = w.past;
    times = w.times;
    low_ready = record {
      history = did.step.looks.history w.history w.low_ready.history;
      store = did.store up;
      up = up;
      between = did.step.looks.asking;
      row = did.row ∙ w.low_ready.row;
      last = let e = did.last in omega (arith, e);
    };
    high_ready = record {
      past = w.high_ready.past;
      store = w.high_ready.store;
      count = w.high_ready.count;
      up = w.high_ready.up;
      between = w.high_ready.between;
      row = w.high_ready.row;
      last = let h = w.high_ready.last in omega (arith, h, order);
    };
    recv_ready = record { ready = w.recv_ready.ready; row = w.recv_ready.row; size = w.recv_ready.size };
    ends = record {
      low = passed.low;
      high = w.ends.high;
      stand = passed.stand;
      shape = did.shape ∙ w.ends.shape;
      times = w.ends.times;
      low_fits = passed.fits;
      high_fits = w.ends.high_fits;
    };
    packets = record { sent = w.packets.sent; returned = w.packets.returned; taken = w.packets.taken };
    short = record {
      low_hand = subst (IsShortHand c.row) (sym did.hand)
          (short_stored c.row (hand_passed (hand_of c.low) l.feedback) a l.stored (short_passed c.row (hand_of c.low) l.feedback w.short.low_hand) stored_short);
      held = subst (All (IsShort c.row)) (sym passed.items) (short_held c.row (hand_of c.low) (held_in c.ends) (moves l.feedback) w.short.low_hand w.short.held);
      high_hand = w.short.high_hand;
      sent = w.short.sent;
    };
  }

  works_after : Works m d
  works_after = subst (λ (t : Parts D). Works m t) (sym did.rest) works_then

module _ {D : Type 0} (m : Meaning D) (c d : Parts D) (moment word : ℕ) (a : Arrival) (l : LowLook) (order : c.moment ≤ moment) (able : IsAble m c) where
  by_fault : (is_fault : Bool) → Looked m c d moment word a is_fault l → WorksOn m d (stop_by is_fault (m.count (low_disk d.low_store)))
  by_fault false did = ∥∥₁_map able.works (works_after m c d moment word a l did order)
  by_fault true did = (
    ap (λ (b : Bool). (b || high.is_down d.high) || not (recv_is_open d.receiver)) (down_is m c d moment word a true l did able),
    refl,
  )

  pub low_works : (is_fault : Bool) (result : Result (Unit {0}) Stop) → Looked m c d moment word a is_fault l → result ≡ stop_of m d.low d.low_store → WorksOn m d result
  low_works is_fault result did stop =
      let faults = m.count (low_disk d.low_store) in
      let e : result ≡ stop_by is_fault faults = stop ∙ ap (λ (b : Bool). stop_by b faults) (down_is m c d moment word a is_fault l did able) in
      subst (WorksOn m d) (sym e) (by_fault is_fault did)
