-- The second pump accepts what the sender adds, and nothing else.
use Rattle.std.proofs.Common.{◌≡◌, ⊎_elim, ℕ, ◌^◌, Bool, true, false, List, [], ◌∷◌, ◌++◌, length, drop, slice_get, Option, Some, None, refl, sym, ap, ◌∙◌, subst, append-nil}
use Rattle.std.specs.Prelude.{◌==◌, ◌&&◌, nat_lt, nat_le, if◌then◌else◌}
use Rattle.std.specs.List.{All}
use Rattle.std.proofs.lemmas.Bool.{and_parts, eqb-true}
use Rattle.std.proofs.lemmas.List.Elements.{All-append, All-cons, All-nil, All-head, All-drop}
use Rattle.disk_model.specs.Disk.{Meaning}
use Rattle.disk_model.specs.declared.name.Role.{Role}
use Rattle.pump_frame.specs.declared.frame.Frame.{Frame}
use Rattle.pump_frame.specs.declared.payload.Payload.{Payload}
use Rattle.pump_frame.specs.declared.row.SessionRow.{SessionRow}
use Rattle.pump_core.specs.World.{World}
use Rattle.pump_core.specs.Events.{with_kept}
use Rattle.pump_core.specs.Exchanges.{is_data, is_fit, is_next, IsFrame, Part, Holding, Release, Empty, Leaving, Answer, Repeated, Offering, Dropped, Delivery, Loss, count_after, greeted_after, IsCut}
use Rattle.pump_core.specs.History.{Arrival, Look, looked}
use Rattle.pump_core.specs.History.{Nothing, Came, Bad, Gone}
use Rattle.pump_core.specs.Lawful.{IsPrefixOf}
use Rattle.pump_core.specs.Replies.{number_in, stores, takes}
use Rattle.pump_core.proofs.Cuts.{one_cut}
use Rattle.script_reader.specs.declared.event.Event.{Event as Printed}
use Rattle.script_reader.specs.declared.line.Arriving.{Arriving}
use Rattle.script_reader.specs.declared.line.Arriving.TheVariants as arriving
use Rattle.script_reader.specs.declared.line.Line.{Line}
use Rattle.script_reader.specs.declared.line.Line.TheVariants as lines
use Rattle.script_reader.specs.Breaks.{IsLostLook, Breaks}
use Rattle.script_reader.specs.Lows.{first_of, IsLook}
use Rattle.script_reader.specs.Highs.{place}
use Rattle.script_reader.specs.Past.{Past}
use Rattle.script_reader.specs.Steps.{LineComing, Arrives, joined, lost, LineStep}
use Rattle.two_worlds.specs.declared.pump.parts.Parts.{Parts}
use Rattle.two_worlds.specs.declared.pump.state.PumpState.{PumpState}
use Rattle.two_worlds.specs.declared.pump.state.PumpState.TheVariants.{Open, Shut}
use Rattle.two_worlds.specs.Standing.{Stands}
use Rattle.two_worlds.specs.States.{disks_in, StandsIn}
use Rattle.two_worlds.proofs.Low.Grows.{look_grows, payloads}
use Rattle.pump_chain.specs.Chained.{message_of, is_look}
use Rattle.pump_chain.specs.Standing.{IsSentOn, IsLinked}
use Rattle.pump_chain.proofs.Prefixes.{prefix_same, prefix_then, prefix_next}
use Rattle.pump_chain.proofs.Moving.{Above, Upper, IsLostBy, look_goes, return_goes, carry_goes, done_goes, receiver_restart_goes, breaks_case}

-- ---- what the history counts ----

-- however its low life is cut, it ends with as many messages as the session has accepted
abbrev pub CountsAccepted : SessionRow → Past → Type 0
CountsAccepted row p = (parts : List Part) → IsCut row p.history.life parts → count_after p.history.life.opening parts ≡ length p.world.accepted

parts_count : {D : Type 0} (m : Meaning D) (c : Parts D) (p : Past) → Stands m c p → CountsAccepted c.row p
parts_count m c p s parts cut =
    let at = s.low_ready.history.stands in
    let own : IsCut c.row p.history.life at.parts = subst (λ (r : SessionRow). IsCut r p.history.life at.parts) s.low_ready.row at.cut in
    let same : parts ≡ at.parts = one_cut c.row p.history.life parts at.parts cut own in
    ap (count_after p.history.life.opening) same ∙ sym (ap (λ st. st.next) at.state) ∙ sym s.world.accepted

pub pump_counts : {D : Type 0} (m : Meaning D) (s : PumpState D) (p : Past) → StandsIn m s p → CountsAccepted (disks_in s).row p
pump_counts m (Open c) p s = parts_count m c p s
pump_counts m (Shut d) p s = absurd s

-- ---- the message that is stored ----

first_sent : (received : List Payload) (b : Bool) (waits : List Arrival) → All (IsSentOn received) waits → IsSentOn received (first_of b waits)
first_sent received true waits all = tt
first_sent received false [] all = tt
first_sent received false (a ∷ waits) all = All-head (IsSentOn received) a waits all

-- a frame with the next message, that was sent on, has the first one that is not accepted
stored : (row : SessionRow) (greeted : Bool) (accepted received : List Payload) (n : ℕ) (a : Arrival) → IsFrame (is_next row (length accepted) greeted) a → IsSentOn received a
    → IsPrefixOf accepted received → IsPrefixOf (accepted ++ payloads (Some n) a) received
stored row greeted accepted received n (Came f) next sent prefix =
    let parts = and_parts (is_fit row greeted f) (f.number == length accepted) (and_parts (is_fit row greeted f && f.number == length accepted) (nat_lt (length accepted) (2 ^ 48)) next).0 in
    let number = eqb-true f.number (length accepted) parts.1 in
    let fit = and_parts (is_data f.kind && greeted && f.session == row.id) (nat_le (length f.payload) row.message) parts.0 in
    let is = (and_parts (is_data f.kind) greeted (and_parts (is_data f.kind && greeted) (f.session == row.id) fit.0).0).0 in
    prefix_next accepted received f.payload prefix (subst (λ (k : ℕ). slice_get received k ≡ Some f.payload) number (sent is))
stored row greeted accepted received n Nothing next sent prefix = absurd next
stored row greeted accepted received n Bad next sent prefix = absurd next
stored row greeted accepted received n Gone next sent prefix = absurd next

module _ (row : SessionRow) (p : Past) (x : Look) (received : List Payload) (counts : CountsAccepted row p) (prefix : IsPrefixOf p.world.accepted received) (sent : IsSentOn received x.arrival) where
  none : (a : Arrival) → IsPrefixOf (p.world.accepted ++ payloads None a) received
  none a = prefix_then _ p.world.accepted received (prefix_same _ _ (append-nil p.world.accepted)) prefix

  -- the look begins a part in which a message is stored, or tried to be, after these parts
  begun : (first : Look) (before : List Part) (greeted : Bool) → IsCut row p.history.life before → x ≡ first → IsFrame (is_next row (count_after p.history.life.opening before) greeted) first.arrival
      → (n : ℕ) → IsPrefixOf (p.world.accepted ++ payloads (Some n) x.arrival) received
  begun first before greeted cut same next n =
      let here = subst (λ (y : Look). IsFrame (is_next row (count_after p.history.life.opening before) greeted) y.arrival) (sym same) next in
      stored row greeted p.world.accepted received n x.arrival (subst (λ (k : ℕ). IsFrame (is_next row k greeted) x.arrival) (counts before cut) here) sent prefix

  accepts : (after : List Part) → IsCut row (looked p.history x).life after → IsPrefixOf (p.world.accepted ++ payloads (stores after) x.arrival) received
  accepts (Offering first [] ∷ before) cut =
      let looks = cut.looks in
      let same : x ≡ first = cc in
      let rest : p.history.life.looks ≡ _ = cc in
      begun first before (greeted_after row before) (record { are_parts = cut.are_parts.1; looks = rest }) same cut.are_parts.0.part.0.next (number_in first.arrival)
  accepts [] cut = none x.arrival
  accepts (Holding newest older ∷ before) cut = none x.arrival
  accepts (Release looks last ∷ before) cut = none x.arrival
  accepts (Empty y ∷ before) cut = none x.arrival
  accepts (Leaving y ∷ before) cut = none x.arrival
  accepts (Answer y ∷ before) cut = none x.arrival
  accepts (Repeated first wait ∷ before) cut = none x.arrival
  accepts (Offering first (y ∷ full) ∷ before) cut = none x.arrival
  accepts (Dropped first full gone ∷ before) cut = none x.arrival
  accepts (Delivery first full passing wait ∷ before) cut = none x.arrival
  accepts (Loss first rest ∷ before) cut = none x.arrival

  pub look_accepts : (q : Past) (printed : List Printed) → IsLook row p x q printed → IsPrefixOf q.world.accepted received
  look_accepts q printed i = prefix_then q.world.accepted _ received (prefix_same _ _ (look_grows x.feedback _ x.arrival i.new p.world q.world i.world).accepted) (accepts i.after i.cut_with)

  pub lost_accepts : (q : Past) (printed : List Printed) → IsLostLook row p x q printed → IsLinked (record p.world { received = received }) q.world
  lost_accepts q printed l =
      let cut = l.cut_with in
      let looks = cut.looks in
      let rest : p.history.life.looks ≡ _ = cc in
      let all = begun x l.before (greeted_after row l.before) (record { are_parts = cut.are_parts.1; looks = rest }) refl cut.are_parts.0.part.0.next 0 in
      let comes = subst (λ (a : Arrival). IsPrefixOf (p.world.accepted ++ payloads (Some 0) a) received) l.comes all in
      subst (λ (v : World). IsPrefixOf (with_kept true v.storing v.accepted) received) (sym l.begins.2) comes

-- ---- what comes with a line ----

-- what a line of the second session adds is a HELLO, or a message of the first receiver with its number
abbrev pub IsAddedOf : List Payload → Arriving → Type 0
IsAddedOf received arriving.Nothing = Unit {0}
IsAddedOf received (arriving.Hello low high) = Unit {0}
IsAddedOf received (arriving.Data number payload) = slice_get received number ≡ Some payload
IsAddedOf received (arriving.Raw bytes) = ⊥

abbrev pub AddsOf : List Payload → Line → Type 0
AddsOf received (lines.Look session m w a) = IsAddedOf received a
AddsOf received line = Unit {0}

-- any line but a look adds nothing
pub other_adds : (received : List Payload) (line : Line) → is_look line ≡ false → AddsOf received line
other_adds received (lines.Look session m w a) e = absurd (cc)
other_adds received lines.Skip e = tt
other_adds received (lines.Session row) e = tt
other_adds received (lines.LowSession row next held) e = tt
other_adds received (lines.Coarse session) e = tt
other_adds received (lines.Told session m w fault told a) e = tt
other_adds received (lines.Step session m w) e = tt
other_adds received (lines.Gone session m) e = tt
other_adds received (lines.High session m) e = tt
other_adds received (lines.Carry session back) e = tt
other_adds received (lines.Return session m back) e = tt
other_adds received (lines.Done session m t) e = tt
other_adds received (lines.Restart session m) e = tt
other_adds received (lines.ReceiverRestart session m) e = tt

pub message_added : (received : List Payload) (number : ℕ) (o : Option Payload) → slice_get received number ≡ o → IsAddedOf received (message_of number o)
message_added received number None e = tt
message_added received number (Some payload) e = e

module _ (received : List Payload) where
  abbrev pub AreSent : List Arrival → Type 0
  AreSent waits = All (IsSentOn received) waits

  one_sent : (f : Frame) (waits : List Arrival) → AreSent waits → IsSentOn received (Came f) → AreSent (waits ++ Came f ∷ [])
  one_sent f waits all one = All-append (IsSentOn received) waits (Came f ∷ []) all (All-cons (IsSentOn received) (Came f) [] one (All-nil (IsSentOn received)))

  same_sent : (xs ys : List Arrival) → ys ≡ xs → AreSent xs → AreSent ys
  same_sent xs ys e all = subst AreSent (sym e) all

  joined_sent : (session : ℕ) (p : Past) (a : Arriving) (c : LineComing) → Arrives session p.reading a c → IsAddedOf received a → AreSent p.waits → AreSent (p.waits ++ c.added)
  joined_sent session p arriving.Nothing c e of all = same_sent p.waits _ (ap (λ (x : LineComing). p.waits ++ x.added) e ∙ append-nil p.waits) all
  joined_sent session p (arriving.Hello low high) c e of all = same_sent _ _ (ap (λ (x : LineComing). p.waits ++ x.added) e) (one_sent _ p.waits all (λ is. absurd (cc)))
  joined_sent session p (arriving.Data number payload) c e of all = same_sent _ _ (ap (λ (x : LineComing). p.waits ++ x.added) e) (one_sent _ p.waits all (λ is. of))
  joined_sent session p (arriving.Raw bytes) c e of all = absurd of

  after_look : (b : Bool) (waits : List Arrival) → AreSent waits → AreSent (if b then drop 1 waits else waits)
  after_look true waits all = All-drop (IsSentOn received) 1 waits all
  after_look false waits all = all

  -- after a line all that waits is sent on still, and what is accepted is a prefix of what was received
  pub record Sent (row : SessionRow) (p q : Past) : Type 0 where
    pub waits : AreSent p.waits → AreSent q.waits
    pub accepted : CountsAccepted row p → AreSent p.waits → IsPrefixOf p.world.accepted received → IsPrefixOf q.world.accepted received

  same_accepted : (p q : Past) → q.world.accepted ≡ p.world.accepted → IsPrefixOf p.world.accepted received → IsPrefixOf q.world.accepted received
  same_accepted p q e prefix = prefix_then q.world.accepted p.world.accepted received (prefix_same _ _ e) prefix

  by_upper : (row : SessionRow) (p q : Past) → Upper p q → Sent row p q
  by_upper row p q u = record {
    waits = same_sent p.waits q.waits u.waits;
    accepted = λ counts sent prefix. same_accepted p q u.world.accepted prefix;
  }

  pub line_sent : (row : SessionRow) (p : Past) (line : Line) (q : Past) (printed : List Printed) → AddsOf received line → LineStep row p line q printed → Sent row p q
  line_sent row p lines.Skip q printed of h = absurd h
  line_sent row p (lines.Session other) q printed of h = absurd h
  line_sent row p (lines.LowSession other next held) q printed of h = absurd h
  line_sent row p (lines.Coarse session) q printed of h = absurd h
  line_sent row p (lines.Told session m w fault told a) q printed of h = absurd h
  line_sent row p (lines.Step session m w) q printed of h = absurd h
  line_sent row p (lines.Look session m w a) q printed of (c, comes, (few, (f, i))) = record {
    waits = λ all. same_sent _ q.waits i.waits (after_look (takes i.after) (joined p c).waits (joined_sent session p a c comes of all));
    accepted = λ counts sent prefix.
        look_accepts row (joined p c) _ received counts prefix (first_sent received p.is_broken (joined p c).waits (joined_sent session p a c comes of sent)) q printed i;
  }
  line_sent row p (lines.Gone session m) q printed of (f, i) = record {
    waits = λ all. same_sent _ q.waits i.waits (after_look (takes i.after) [] (All-nil (IsSentOn received)));
    accepted = λ counts sent prefix. look_accepts row (lost p) _ received counts prefix tt q printed i;
  }
  line_sent row p (lines.High session m) q printed of h = by_upper row p q (look_goes row false p m None q printed h)
  line_sent row p (lines.Carry session back) q printed of h = by_upper row p q (carry_goes row p back q printed h)
  line_sent row p (lines.Return session m back) q printed of h = by_upper row p q (return_goes row p m (place p.world.returned back) q printed h)
  line_sent row p (lines.Done session m t) q printed of h = by_upper row p q (done_goes row p m t q printed h)
  line_sent row p (lines.Restart session m) q printed of (h, e, f) = record {
    waits = λ all. same_sent [] q.waits (ap (λ (x : Past). x.waits) e) (All-nil (IsSentOn received));
    accepted = λ counts sent prefix. same_accepted p q (ap (λ (v : World). v.accepted) h) prefix;
  }
  line_sent row p (lines.ReceiverRestart session m) q printed of h = by_upper row p q (receiver_restart_goes row p m q printed h)

  -- where a disk fails, no store is unfinished but of such a message
  still_linked : (p q : World) → Above p q → IsPrefixOf (with_kept true p.storing p.accepted) received → IsPrefixOf (with_kept true q.storing q.accepted) received
  still_linked p q a prefix = subst (λ (l : List Payload). IsPrefixOf l received) (λ i. with_kept true (sym a.storing i) (sym a.accepted i)) prefix

  pub breaks_sent : (row : SessionRow) (p : Past) (line : Line) (role : Role) (q : Past) (printed : List Printed) → AddsOf received line → Breaks row p line role q printed → CountsAccepted row p → AreSent p.waits
      → IsPrefixOf p.world.accepted received → IsPrefixOf (with_kept true p.world.storing p.world.accepted) received → IsPrefixOf (with_kept true q.world.storing q.world.accepted) received
  breaks_sent row p line role q printed of h counts sent prefix linked = ⊎_elim
      (λ (above : Above p.world q.world). still_linked p.world q.world above linked)
      (λ (by : IsLostBy row p line q printed).
      let (session, m, w, a, e, (c, comes, few, l)) = by in
      let of_look : IsAddedOf received a = subst (AddsOf received) e of in
      lost_accepts row (joined p c) _ received counts prefix (first_sent received p.is_broken (joined p c).waits (joined_sent session p a c comes of_look sent)) q printed l)
      (breaks_case row p line role q printed h)
