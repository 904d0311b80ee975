-- A low look of the parts is a low look of the past that they stand for.
use Rattle.std.proofs.Common.{◌≡◌, ℕ, ◌+◌, ◌-◌, ◌≤◌, ◌<◌, Bool, true, false, List, [], ◌∷◌, ◌++◌, length, drop, Option, Some, None, refl, sym, ap, ◌∙◌, subst, arith, nat_lt, append-nil}
use Rattle.std.specs.Prelude.{if◌then◌else◌, ◌==◌, ◌&&◌, ◌||◌, All, is_some, option_to_list}
use Rattle.std.proofs.lemmas.List.{length-map}
use Rattle.disk_model.specs.Disk.{Meaning, Each}
use Rattle.pump_frame.specs.Averages.{average_of}
use Rattle.pump_frame.specs.declared.payload.Payload.{Payload}
use Rattle.pump_frame.specs.declared.row.SessionRow.{SessionRow}
use Rattle.pump_frame.specs.declared.frame.Frame.{Frame}
use Rattle.pump_frame.specs.declared.frame.Item.{Item}
use Rattle.stable_buffer.specs.Low.{low_row, low_disk}
use Rattle.stable_buffer.specs.High.{high_disk}
use Rattle.high_receiver.specs.Receiving.{recv_disk}
use Rattle.pump_core.specs.declared.feedback.Seen.{Seen}
use Rattle.pump_core.specs.declared.feedback.Feedback.{Feedback}
use Rattle.pump_core.specs.declared.feedback.Feedback.TheVariants.{Quiet}
use Rattle.pump_core.specs.Phases as phases
use Rattle.pump_core.specs.History.{Arrival, Look, Opening, looked}
use Rattle.pump_core.specs.Exchanges.{is_gone, has_average, count_after, greeted_after}
use Rattle.pump_core.specs.Replies.{sent, takes, stores}
use Rattle.pump_core.specs.Step.{FeedbackFits, after, reply_at, stores_at, takes_at}
use Rattle.pump_core.specs.Standing.{State, StandsAt, phase_after, end_of}
use Rattle.pump_core.proofs.Bounded.{place}
use Rattle.pump_core.proofs.Laws.{runs_lawfully}
use Rattle.pump_core.proofs.Lists.{All-push}
use Rattle.pump_core.proofs.Standings.{stands_after, replies_after, newest_after}
use Rattle.pump_core.specs.Events.{Run}
use Rattle.passage.specs.Plain.{held_in}
use Rattle.low_process.specs.declared.values.LowLook.{LowLook}
use Rattle.low_process.specs.Looks.{state_of, look_of, row_of, last_of, is_down, hand_of, hand_stored}
use Rattle.low_process.specs.Storing.{message_in}
use Rattle.script_reader.specs.Past.{Past, pair}
use Rattle.script_reader.specs.Lows.{is_bad, comes_again, feedback, offers, stored_events, acks_of, printed_store, printed_feedback, printed_replies, IsLook}
use Rattle.two_worlds.specs.Connections.{waits_of, is_broken_of}
use Rattle.two_worlds.specs.declared.pump.parts.Parts.{Parts}
use Rattle.world_laws.specs.Disks.{LowFits, DisksFit}
use Rattle.two_worlds.specs.Doing.{PartsLeaveFit}
use Rattle.two_worlds.specs.Printing.{printed_reply, look_prints}
use Rattle.two_worlds.specs.Standing.{kept_of, HoldsWorld, number_of, Stands}
use Rattle.two_worlds.proofs.Disks.Images.{grown_fits}
use Rattle.two_worlds.proofs.Low.Disks.{low_after, high_same, recv_same}
use Rattle.two_worlds.proofs.Low.Grows.{Grows, look_grows}
use Rattle.two_worlds.proofs.Low.Looked.{Looked}
use Rattle.two_worlds.proofs.Low.Passes.{Passes, passes, is_full, seen_of}
use Rattle.two_worlds.proofs.Low.Sorts.{Sort, sort_of, repeats, waits_below}
use Rattle.two_worlds.proofs.Low.Stepping.{Stepped, stepped, lives_reply}
use Rattle.pump_core.proofs.MayTake.{may_take_is}
use Rattle.script_reader.proofs.Hearing.{is_passing, owed_is}
use Rattle.two_worlds.proofs.Low.Told.{LookHead, moves, told_by, told_in, passing_is, hears_room, feedback_is}
use Rattle.two_worlds.proofs.Low.Wants.{taking, hand_is_empty, is_short, stored_is}
use Rattle.two_worlds.proofs.Low.Worlds.{Led, led_by, hand_by, held_by, passed_is, empty_hand, room_is, full_number}
use Rattle.world_laws.proofs.Answered.{run_goes}

prints_reply : (session m w : ℕ) (a : Arrival) (f : Feedback) (r : Option Frame) → printed_reply session m r ≡ printed_replies session (sent (look_of m w a false f) r)
prints_reply session m w a f None = refl
prints_reply session m w a f (Some r) = refl

fewer : {X : Type 0} (b : Bool) (xs : List X) → length xs ≤ 64 → length (if b then drop 1 xs else xs) ≤ 64
fewer false xs h = h
fewer true [] h = h
fewer true (x ∷ xs) h = omega (arith, h)

one_more : (message : ℕ) (accepted : List Payload) (more : Option Payload) → ((p : Payload) → more ≡ Some p → length p ≤ message)
    → All (λ (x : Payload). length x ≤ message) accepted → All (λ (x : Payload). length x ≤ message) (accepted ++ option_to_list more)
one_more message accepted None short all = subst (All (λ (x : Payload). length x ≤ message)) (sym (append-nil accepted)) all
one_more message accepted (Some p) short all = All-push (λ (x : Payload). length x ≤ message) accepted p all (short p refl)

module _ {D : Type 0} (m : Meaning D) (c d : Parts D) (p : Past) (moment word : ℕ) (a : Arrival) (l : LowLook) (did : Looked m c d moment word a false l) (stands : Stands m c p) (order : c.moment ≤ moment) where
  abbrev row : SessionRow
  row = row_of c.low

  abbrev s : State
  s = state_of c.low

  abbrev hand : Option Item
  hand = hand_of c.low

  abbrev x : Look
  x = look_of moment word a false l.feedback

  abbrev at : StandsAt row s (last_of c.low) p.history
  at = stands.low_ready.history.stands

  abbrev o : Opening
  o = p.history.life.opening

  later : last_of c.low ≤ moment
  later = let h = stands.low_ready.last in omega (arith, h, order)

  step : Stepped row s d.low x l
  step = stepped c.low d.low p.history x l stands.low_ready.history did.step.looks did.row did.last later

  now : StandsAt row (after row s x) moment (looked p.history x)
  now = stands_after row s (last_of c.low) p.history x step.fits at later

  sort : Sort row s x
  sort = sort_of row s moment word a l.feedback step.fits

  stored_is_now : stores now.parts ≡ stores_at row s x
  stored_is_now = (newest_after row s (last_of c.low) p.history x step.fits at now.parts now.cut).stored

  taken_is : takes now.parts ≡ takes_at s x
  taken_is = (newest_after row s (last_of c.low) p.history x step.fits at now.parts now.cut).taken

  passed : Passes c.ends d.ends d.low stands.ends.high hand l.feedback
  passed = passes c.ends d.ends d.low stands.ends.low stands.ends.high hand l.feedback stands.ends.stand (did.ends stands.ends.low stands.ends.high (stands.ends.stand, stands.ends.low_fits))

  held_length : length p.world.held ≡ length (held_in c.ends)
  held_length = ap length stands.world.held ∙ length-map (held_in c.ends) (λ (item : Item). item.number)

  row_is : row ≡ c.row
  row_is = stands.low_ready.row

  capacity_is : row.capacity ≡ c.row.capacity
  capacity_is = ap (λ (r : SessionRow). r.capacity) row_is

  full : is_full c.ends ≡ (length p.world.held == row.capacity - 2)
  full = λ i. sym held_length i == (ap (λ t. t.places) stands.ends.shape ∙ ap (λ n. n - 2) (sym capacity_is)) i

  seen : seen_of c.ends stands.ends.high ≡ pair row p
  seen = (λ i. record {
    count = length (stands.ends.times i);
    average = average_of ((stands.ends.shape i).averaging) (stands.ends.times i);
  }) ∙ ap (λ (r : SessionRow). pair r p) (sym row_is)

  head : LookHead (length p.world.held == row.capacity - 2) (pair row p) l.feedback
  head = subst (λ (t : Bool × Seen). LookHead t.0 t.1 l.feedback) (λ i. (full i, seen i)) passed.head

  passing : is_passing s.phase ≡ is_some hand
  passing = passing_is c.low.phase c.low.hand

  told : l.feedback ≡ feedback row p at.parts a
  told =
      let ph = phase_after row o at.parts in
      let passes : is_passing ph ≡ is_some p.world.low_hand =
      sym (ap (λ (t : State). is_passing t.phase) at.state) ∙ passing ∙ sym (full_number hand) ∙ ap is_some (sym stands.world.low_hand) in
      let h = told_in row (end_of row o at.parts) ph p.world.low_hand moment word a false l.feedback (pair row p) (length p.world.held == row.capacity - 2) passes head (subst (λ (t : State). FeedbackFits row t x) at.state step.fits) in
      let again = comes_again row (count_after o at.parts) (greeted_after row at.parts) a in
      h ∙ ap (λ (t : Bool × Bool). told_by (is_gone a) p.world.low_hand t.0 again (length p.world.held == row.capacity - 2) t.1 (pair row p)) (λ i. (sym (may_take_is row o at.parts) i, sym (owed_is row o at.parts) i))
      ∙ ap (λ f. if is_gone a then Quiet else f) (feedback_is row p at.parts a p.world.low_hand)

  below : (n t : ℕ) → s.phase ≡ phases.Waiting n t → n < s.next
  below n t e = subst (λ (k : ℕ). n < k) (sym (ap (λ (u : State). u.next) at.state)) (waits_below row o at.parts n t at.cut.are_parts (sym (ap (λ (u : State). u.phase) at.state) ∙ e))

  room : moves l.feedback ≡ true → nat_lt (length (held_in c.ends)) (c.row.capacity - 2) ≡ true
  room e =
      let le : length p.world.held ≤ c.row.capacity - 2 = subst (λ (n : ℕ). length p.world.held ≤ n - 2) stands.world.capacity stands.sound.lawful.bounded.order.room in
      let some_room : (length p.world.held == c.row.capacity - 2) ≡ false = ap (λ n. length p.world.held == n - 2) (sym capacity_is) ∙ hears_room (length p.world.held == row.capacity - 2) (pair row p) l.feedback head e in
      ap (λ n. nat_lt n (c.row.capacity - 2)) (sym held_length) ∙ room_is (length p.world.held) (c.row.capacity - 2) le some_room

  led : Led p.world (offers l.feedback ++ (stored_events (stores_at row s x) a ++ acks_of (sent x (reply_at row s x)))) (record (kept_of p.returned_before c) { low_hand = hand_by hand (moves l.feedback) (stores_at row s x) a; held = held_by hand (held_in c.ends) (moves l.feedback); accepted = (after row s x).next })
  led = led_by p.world (kept_of p.returned_before c) stands.world stands.sound.rest row s x passing refl room below sort

  abbrev q : Past
  q = record {
    history = looked p.history x;
    waits = if takes now.parts then drop 1 p.waits else p.waits;
    is_broken = p.is_broken || (takes now.parts && is_bad a);
    reading = p.reading;
    world = led.end;
    returned_before = p.returned_before;
    times = p.times;
    sends = p.sends;
    moment = moment;
  }

  is_look : IsLook row p x q (look_prints row.id moment l)
  is_look =
      let rs = lives_reply row (p.history.life ∷ p.history.earlier) ((at.parts, at.cut), at.earlier) in
      record {
        before = at.parts;
        cut = at.cut;
        after = now.parts;
        cut_with = now.cut;
        replies = rs.0;
        are_replies = rs.1;
        new = sent x (reply_at row s x);
        are_replies_with = replies_after row s (last_of c.low) p.history x step.fits at rs.0 rs.1;
        told = told;
        world = subst (λ (st : Option ℕ). Run p.world (offers l.feedback ++ (stored_events st a ++ acks_of (sent x (reply_at row s x)))) led.end) (sym stored_is_now) led.run;
        history = refl;
        waits = refl;
        broken = refl;
        reading = refl;
        first_returned = refl;
        times = refl;
        sends = refl;
        moment = refl;
        printed_is = ap (λ (t : Option ℕ × Option Frame). printed_store row.id moment t.0 ++ (printed_feedback row.id moment l.feedback ++ printed_reply row.id moment t.1)) (λ i. ((step.stored ∙ sym stored_is_now) i, step.reply i))
            ∙ ap (λ k. printed_store row.id moment (stores now.parts) ++ (printed_feedback row.id moment l.feedback ++ k)) (prints_reply row.id moment word a l.feedback (reply_at row s x));
      }

  is_look_of_row : IsLook c.row p x q (look_prints c.row.id moment l)
  is_look_of_row = subst (λ (r : SessionRow). IsLook r p x q (look_prints r.id moment l)) row_is is_look

  -- ---- what the parts stand for after it ----

  takes_same : takes now.parts ≡ l.taken
  takes_same = taken_is ∙ sym step.taken

  hand_is : hand_of d.low ≡ hand_by hand (moves l.feedback) (stores_at row s x) a
  hand_is =
      let empty : has_average l.feedback ≡ true → hand ≡ None = λ e. empty_hand hand (sym passing ∙ repeats row s moment word a l.feedback step.fits e) in
      did.hand ∙ ap (λ (t : Option Item × Option ℕ). hand_stored t.0 a t.1) (λ i. (passed_is hand l.feedback empty i, step.stored i))

  waits_are : waits_of d.connection ≡ q.waits
  waits_are = did.waits ∙ ap (λ (t : Bool × List Arrival). if t.0 then drop 1 t.1 else t.1) (λ i. (sym takes_same i, stands.arrivals.waits i))

  broken_is : is_broken_of d.connection ≡ q.is_broken
  broken_is = did.broken ∙ ap (λ (t : Bool × Bool). t.0 || (t.1 && is_bad a)) (λ i. (stands.arrivals.broken i, sym takes_same i))

  grows : Grows p.world q.world (option_to_list (message_in c.low a))
  grows = subst (Grows p.world q.world) (stored_is c.low moment word a l.feedback) (look_grows l.feedback (stores_at row s x) a (sent x (reply_at row s x)) p.world led.end led.run)

  store_row_is : low_row c.low_store ≡ c.row
  store_row_is = stands.low_ready.store.row ∙ row_is

  free : (message : Payload) → message_in c.low a ≡ Some message → length p.world.accepted + 1 ≤ p.world.removed + (low_row c.low_store).capacity
  free message e =
      let none = hand_is_empty c.low a message (taking c.low a message e) in
      let b = stands.sound.lawful.bounded in
      let low : p.world.low_hand ≡ None = stands.world.low_hand ∙ ap number_of none in
      let has = (place p.world b low).place in
      let same : (low_row c.low_store).capacity ≡ c.row.capacity = ap (λ (r : SessionRow). r.capacity) store_row_is in
      omega (arith, has, b.size, b.within.below, stands.world.capacity, same)

  disks : DisksFit m c.row (low_disk d.low_store) (high_disk c.high_store) (recv_disk c.receiver) q.world
  disks = record {
    low_disk = subst (λ (r : SessionRow). Each m (LowFits r q.world) (low_disk d.low_store)) store_row_is
        (low_after m c.low_store d.low_store p.world stands.sound.rest.storing q.world (message_in c.low a) free stands.sound.lawful.bounded.within.below did.step.keeps grows
        (subst (λ (r : SessionRow). Each m (LowFits r p.world) (low_disk c.low_store)) (sym store_row_is) stands.disks.low_disk));
    high_disk = high_same m c.row p.world q.world (high_disk c.high_store) grows.removed grows.removing stands.disks.high_disk;
    recv_disk = recv_same m c.row p.world q.world (recv_disk c.receiver) grows.received grows.packet grows.taking stands.disks.recv_disk;
  }

  fits : All (λ (t : Payload). length t ≤ c.row.message) q.world.accepted
  fits = subst (All (λ (t : Payload). length t ≤ c.row.message)) (sym grows.accepted)
      (one_more c.row.message p.world.accepted (message_in c.low a)
      (λ message e. subst (λ (r : SessionRow). length message ≤ r.message) row_is (is_short c.low a message (taking c.low a message e))) stands.sound.fits)

  up : is_down d.low ≡ false
  up = did.step.falls ∙ ap (λ (b : Bool). b || false) stands.low_ready.up

  abbrev d' : Parts D
  d' = record c { low = d.low; low_store = d.low_store; ends = d.ends; connection = d.connection; moment = moment }

  stands_then : Stands m d' q
  stands_then = record {
    row = stands.row;
    arrivals = record {
      waits = waits_are;
      broken = broken_is;
      reading = did.reading ∙ stands.arrivals.reading;
      few = fewer (takes now.parts) p.waits stands.arrivals.few;
    };
    world = subst (λ (t : Option Item × List Item × ℕ). HoldsWorld (record (kept_of p.returned_before c) { low_hand = t.0; held = t.1; accepted = t.2 }) led.end)
        (λ i. (sym hand_is i, sym passed.items i, sym (ap (λ (t : State). t.next) step.state) i)) led.holds;
    sound = record {
      rest = led.rest;
      lawful = runs_lawfully p.world _ led.end stands.sound.lawful led.run;
      fits = fits;
      sends = subst (λ (items : List Item). length p.sends ≤ length items) (sym grows.sent) stands.sound.sends;
      answered = (run_goes p.world _ led.end led.run).answered stands.sound.answered;
    };
    moment = refl;
    low_ready = record {
      history = did.step.looks.history p.history stands.low_ready.history;
      store = did.store up;
      up = up;
      between = did.step.looks.asking;
      row = did.row ∙ row_is;
      last = let e = did.last in omega (arith, e);
    };
    high_ready = record {
      past = stands.high_ready.past;
      store = stands.high_ready.store;
      count = stands.high_ready.count;
      up = stands.high_ready.up;
      between = stands.high_ready.between;
      row = stands.high_ready.row;
      last = let h = stands.high_ready.last in omega (arith, h, order);
    };
    recv_ready = record {
      ready = stands.recv_ready.ready;
      row = stands.recv_ready.row;
      size = stands.recv_ready.size;
    };
    ends = record {
      low = passed.low;
      high = stands.ends.high;
      stand = passed.stand;
      shape = did.shape ∙ stands.ends.shape;
      times = stands.ends.times;
      low_fits = passed.fits;
      high_fits = stands.ends.high_fits;
    };
    packets = record { sent = stands.packets.sent; returned = stands.packets.returned; taken = stands.packets.taken };
    disks = disks;
  }

  pub look_leads : (q : Past) × IsLook c.row p (look_of moment word a false l.feedback) q (look_prints c.row.id moment l) × Stands m d q × PartsLeaveFit m c d p q
  look_leads = (q, is_look_of_row, subst (λ (t : Parts D). Stands m t q) (sym did.rest) stands_then, grown_fits m c d p moment word a false l did stands q grows)
