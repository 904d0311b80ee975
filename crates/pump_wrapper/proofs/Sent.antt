-- The further messages of a file that are sent one by one.
use Rattle.std.proofs.Common.{◌≡◌, ℕ, zero, suc, ◌+◌, ◌-◌, ◌*◌, ◌^◌, ◌<◌, ◌≤◌, false, List, [], ◌∷◌, ◌++◌, length, Option, Some, None, Result, Ok, Err, refl, sym, ap, ◌∙◌, subst, arith, append_assoc, append-nil, length-append}
use Rattle.std.specs.Prelude.{option_to_list}
use Rattle.std.specs.Io.KnownBytes.{Consumes}
use Rattle.disk_model.specs.Disk.{Meaning}
use Rattle.disk_model.specs.declared.name.Role.TheVariants as roles
use Rattle.pump_frame.specs.Rows.{IsLawfulRow}
use Rattle.pump_frame.specs.declared.payload.Payload.{Payload}
use Rattle.pump_frame.specs.declared.row.SessionRow.{SessionRow}
use Rattle.script_reader.specs.declared.line.Line.{Line}
use Rattle.script_reader.specs.Highs.{log_end, receiver_size}
use Rattle.script_reader.specs.Openings.{CanOpen, accepted_in, opened_world, first_past}
use Rattle.script_reader.specs.Past.{Past}
use Rattle.script_reader.proofs.LineSteps.{opened_stands, live_are, since_opening}
use Rattle.script_reader.proofs.LookSteps.{Stands, at_rest}
use Rattle.two_worlds.specs.declared.applied.Stop.{Stop}
use Rattle.two_worlds.specs.declared.pump.Pump.{Pump}
use Rattle.two_worlds.specs.declared.pump.state.PumpState.{PumpState}
use Rattle.two_worlds.specs.declared.pump.state.PumpState.TheVariants.{Open, Shut}
use Rattle.two_worlds.specs.Pumps.{StandsFor, disk_at, row_of}
use Rattle.two_worlds.specs.States.{StandsIn}
use Rattle.pump_wrapper.specs.Comparing.{Begins}
use Rattle.pump_wrapper.specs.Crashes.{KeepsPrefix}
use Rattle.file_cutter.specs.declared.pieces.Cut.TheVariants.{Message, Done}
use Rattle.pump_wrapper.specs.Cutting.{GivesNext, to_come}
use Rattle.pump_wrapper.specs.declared.cutter.Cutter.{Cutter}
use Rattle.pump_wrapper.specs.Sending.{greeting, pause, message_lines, send_lines, LedBy, Follows, EndsWithin, Goes}
use Rattle.pump_wrapper.specs.Halting.{Halts}
use Rattle.pump_wrapper.specs.Wraps.{AreFirst, AreToCome, Passes, Sends, all_taken}
use Rattle.pump_wrapper.proofs.Compared.{passed, none_passed, one_passed}
use Rattle.pump_wrapper.proofs.Prefixes.{begins_same, begins_more, begins_then}
use Rattle.pump_wrapper.proofs.Going.{led_then}
use Rattle.pump_wrapper.proofs.Halting.{halts, halts_wider, ends_within, greeting_only, message_halts}
use Rattle.pump_wrapper.proofs.Applying.{LinesApply, lines_lead, Sent, greeting_sends, message_sends, send_more}

-- these messages were sent since the opening, over a cutter and a source that were so then and are so now
pub record Sending {D : Type 0} {g : _} (m : Meaning D) (t : Pump D g) (row : SessionRow) (messages : List Payload) (start now : Cutter) (left rest : Option (List ℕ)) (n : ℕ) : Type 0 where
  pub more : List Payload
  pub past : Past
  pub led : LedBy row (first_past row (all_taken messages)) (greeting row ∷ send_lines row (length messages) 0 more) past
  pub stands : StandsFor m t past
  pub sent : Sent row n (length more * pause row) (messages ++ more) past
  pub count : n ≡ length messages + length more
  pub cut : passed more start now left rest

none_in : (o : Option ℕ) → length (option_to_list o) ≡ 0 → o ≡ None
none_in None e = refl
none_in (Some n) e = absurd (omega (arith, e))

times : (a b : ℕ) → b ≤ 2 ^ 32 → a * b ≤ a * 2 ^ 32
times zero b le = omega arith
times (suc a) b le = omega (arith, le, times a b le)

next : (a b : ℕ) → a * b + b ≡ (a + 1) * b
next a b = omega arith

-- the moment of a message, by its number
pub moment_of : (n first pauses most count more : ℕ) → n ≡ count + more → first ≡ count → pauses ≡ most → (n - first) * pauses ≡ more * most
moment_of n first pauses most count more number begins long =
    let e : n - first ≡ more = omega (arith, number, begins) in
    λ i. e i * long i

-- ---- the receiver's room ----

log_least : (messages : List Payload) → 80 + 2 * length messages ≤ log_end messages
log_least [] = omega arith
log_least (x ∷ xs) = (let more = log_least xs in omega (arith, more))

state_room : {D : Type 0} (m : Meaning D) (s : PumpState D) (p : Past) → StandsIn m s p → log_end p.world.received ≤ receiver_size
state_room m (Open c) p s = (let end = s.world.end in let within = s.recv_ready.ready.within in let size = s.recv_ready.size in omega (arith, end, within, size))
state_room m (Shut d) p s = absurd s

-- the session before its first line
first_rests : (row : SessionRow) (messages : List Payload) → IsLawfulRow row → CanOpen row (all_taken messages)
    → Stands row (first_past row (all_taken messages)) [] None (length messages) (length messages) 0 (at_rest false (length messages))
first_rests row messages lawful can =
    let f = all_taken messages in
    let low = (opened_world row f).low_hand in
    let first = opened_stands row f lawful can in
    let count : length (accepted_in f) ≡ length messages = ap length (append-nil messages) in
    let none : low ≡ None = none_in low (let live = live_are row (first_past row f) [] low (length (accepted_in f)) (length messages) 0 _ first in omega (arith, live, count)) in
    subst (λ (o : Option ℕ). Stands row (first_past row f) [] o (length messages) (length messages) 0 (since_opening o (length messages))) none
    (subst (λ (k : ℕ). Stands row (first_past row f) [] low k (length messages) 0 (since_opening low k)) count first)

greets : (row : SessionRow) (messages : List Payload) → IsLawfulRow row → CanOpen row (all_taken messages) → LinesApply row (first_past row (all_taken messages)) (greeting row ∷ []) (Sent row (length messages) 0 messages)
greets row messages lawful can = greeting_sends row (first_past row (all_taken messages)) (length messages) 0 messages (first_rests row messages lawful can) (omega arith) (append-nil messages)

-- all that were to come are these
gone : (more : List Payload) (start now new : Cutter) (left rest last : Option (List ℕ)) (message : List ℕ) (taken bytes : List ℕ) → Consumes left rest taken → Consumes rest last bytes → passed more start now left rest → GivesNext now new rest last message Done → AreToCome start left more
gone more start now new None rest last message taken bytes c d was gives = tt
gone more start now new (Some l) None last message taken bytes c d was gives = absurd c
gone more start now new (Some l) (Some r) None message taken bytes c d was gives = absurd d
gone more start now new (Some l) (Some r) (Some s) message taken bytes c d was gives = was ∙ ap (λ (ms : List (List ℕ)). more ++ ms) gives ∙ append-nil more

-- those that were passed are the first ones
pub are_first : (more : List (List ℕ)) (start now : Cutter) (left rest : Option (List ℕ)) (taken : List ℕ) → Consumes left rest taken → passed more start now left rest → AreFirst start left more
are_first more start now None rest taken c was = tt
are_first more start now (Some l) None taken c was = absurd c
are_first more start now (Some l) (Some r) taken c was = (to_come now r, was)

module _ {D : Type 0} {g : _} (m : Meaning D) (row : SessionRow) (messages : List Payload) where
  pub sending_none : (u t : Pump D g) (start : Cutter) (left : Option (List ℕ)) → IsLawfulRow row → CanOpen row (all_taken messages) → StandsFor m u (first_past row (all_taken messages)) → row_of u ≡ row → m.tells
      → Goes m u t (greeting (row_of u) ∷ []) (Ok tt) → Sending m t row messages start start left left (length messages)
  sending_none u t start left lawful can stands same told goes =
      let p = first_past row (all_taken messages) in
      let (q, led, at) = subst (λ (r : SessionRow). Follows m t r p (greeting r ∷ []) (Ok tt)) same (goes.follows told p stands) in
      let sent = lines_lead row p q (greeting row ∷ []) _ (greets row messages lawful can) led in
      let none : 0 ≡ 0 * pause row = omega arith in
      record {
        more = [];
        past = q;
        led = led;
        stands = at;
        sent = subst (λ (k : ℕ). Sent row (length messages) k (messages ++ []) q) none (sent.0, sent.1 ∙ sym (append-nil messages));
        count = omega arith;
        cut = none_passed start left;
      }

  pub greeting_goes : (u t : Pump D g) (stop : Stop) → IsLawfulRow row → CanOpen row (all_taken messages) → StandsFor m u (first_past row (all_taken messages)) → row_of u ≡ row → m.tells
      → Goes m u t (greeting (row_of u) ∷ []) (Err stop) → Halts m t messages (messages ++ []) stop
  greeting_goes u t stop lawful can stands same told goes =
      let p = first_past row (all_taken messages) in
      let follows = subst (λ (r : SessionRow). Follows m t r p (greeting r ∷ []) (Err stop)) same (goes.follows told p stands) in
      let all = begins_same messages messages refl in
      halts_wider m t messages messages messages (messages ++ []) stop all (begins_more messages [])
      (halts m t row p (greeting row ∷ []) _ messages messages (greets row messages lawful can) (greeting_only row p (length messages) 0 _ messages (first_rests row messages lawful can) (append-nil messages)) stop follows)

  -- at any moment of the greeting, whatever it comes to
  pub greeting_keeps : (u t : Pump D g) (r : Result (Unit {0}) Stop) (all : List Payload) → IsLawfulRow row → CanOpen row (all_taken messages) → StandsFor m u (first_past row (all_taken messages)) → row_of u ≡ row → m.tells
      → Begins (messages ++ []) all → Goes m u t (greeting (row_of u) ∷ []) r → KeepsPrefix m row all (disk_at roles.Recv u) (disk_at roles.Recv t)
  greeting_keeps u t r all lawful can stands same told begins goes =
      let p = first_past row (all_taken messages) in
      let within = ends_within m t row p (greeting row ∷ []) _ messages messages (greets row messages lawful can) (greeting_only row p (length messages) 0 _ messages (first_rests row messages lawful can) (append-nil messages))
      (λ q after. begins_same q.world.accepted messages (sym after.1)) all (begins_then messages (messages ++ []) all (begins_more messages []) begins) r in
      subst (λ (x : SessionRow). KeepsPrefix m x all (disk_at roles.Recv u) (disk_at roles.Recv t)) same
      (goes.keeps told p stands all (subst (λ (x : SessionRow). EndsWithin m t x p (greeting x ∷ []) all r) (sym same) within))

  module _ (u t : Pump D g) (start old new : Cutter) (left between rest : Option (List ℕ)) (n moment : ℕ) (s : Sending m u row messages start old left between n)
      (is_moment : moment ≡ length s.more * pause row) (few : n ≤ 2 ^ 24) (small : pause row < 2 ^ 32) (message : Payload) (short : length message ≤ row.message) where
    late : length s.more * pause row ≤ 2 ^ 24 * 2 ^ 32
    late = (let all = times (length s.more) (pause row) (omega (arith, small)) in let count = s.count in omega (arith, all, count, few))

    sends : LinesApply row s.past (message_lines row n moment message) (Sent row (n + 1) (moment + pause row) (messages ++ (s.more ++ message ∷ [])))
    sends =
        let sent = subst (λ (k : ℕ). Sent row n k (messages ++ s.more) s.past) (sym is_moment) s.sent in
        let l = late in
        subst (λ (l : List Payload). LinesApply row s.past (message_lines row n moment message) (Sent row (n + 1) (moment + pause row) l)) (append_assoc messages s.more (message ∷ []))
        (message_sends row s.past n moment moment (messages ++ s.more) message sent (omega arith) short (omega (arith, few)) (omega (arith, is_moment, l)))

    pub sending_more : row_of u ≡ row → m.tells → (taken : List ℕ) → Consumes left between taken → GivesNext old new between rest message Message → Goes m u t (message_lines (row_of u) n moment message) (Ok tt)
        → Sending m t row messages start new left rest (n + 1)
    sending_more same told taken was gives goes =
        let (q, led, at) = subst (λ (r : SessionRow). Follows m t r s.past (message_lines r n moment message) (Ok tt)) same (goes.follows told s.past s.stands) in
        let sent = lines_lead row s.past q (message_lines row n moment message) _ sends led in
        let p = first_past row (all_taken messages) in
        let size : length (s.more ++ message ∷ []) ≡ length s.more + 1 = length-append s.more (message ∷ []) in
        let later : moment + pause row ≡ length (s.more ++ message ∷ []) * pause row = ap (λ (k : ℕ). k + pause row) is_moment ∙ next (length s.more) (pause row) ∙ ap (λ (k : ℕ). k * pause row) (sym size) in
        let number : length messages + length s.more ≡ n = sym s.count in
        let at_moment : 0 + length s.more * pause row ≡ moment = omega (arith, is_moment) in
        let lines : send_lines row (length messages) 0 (s.more ++ message ∷ []) ≡ send_lines row (length messages) 0 s.more ++ message_lines row n moment message =
        send_more row (length messages) 0 s.more message ∙ (λ i. send_lines row (length messages) 0 s.more ++ message_lines row (number i) (at_moment i) message) in
        record {
          more = s.more ++ message ∷ [];
          past = q;
          led = subst (λ (l : List Line). LedBy row p (greeting row ∷ l) q) (sym lines)
              (led_then row p s.past q (greeting row ∷ send_lines row (length messages) 0 s.more) (message_lines row n moment message) s.led led);
          stands = at;
          sent = subst (λ (k : ℕ). Sent row (n + 1) k (messages ++ (s.more ++ message ∷ [])) q) later sent;
          count = (let count = s.count in omega (arith, count, size));
          cut = one_passed s.more (s.more ++ message ∷ []) message start old new left between rest taken was s.cut gives refl;
        }

    pub sends_go : (stop : Stop) → row_of u ≡ row → m.tells → Goes m u t (message_lines (row_of u) n moment message) (Err stop)
        → Halts m t messages (messages ++ (s.more ++ message ∷ [])) stop
    sends_go stop same told goes =
        let follows = subst (λ (r : SessionRow). Follows m t r s.past (message_lines r n moment message) (Err stop)) same (goes.follows told s.past s.stands) in
        let held = messages ++ s.more in
        let sent = subst (λ (k : ℕ). Sent row n k held s.past) (sym is_moment) s.sent in
        let l = late in
        let halt = message_halts row s.past n moment moment held message sent (omega arith) short (omega (arith, few)) (omega (arith, is_moment, l)) in
        halts_wider m t held (held ++ message ∷ []) messages (messages ++ (s.more ++ message ∷ [])) stop
        (begins_more messages s.more) (begins_same _ _ (sym (append_assoc messages s.more (message ∷ []))))
        (halts m t row s.past (message_lines row n moment message) _ held (held ++ message ∷ []) sends halt stop follows)

    -- at any moment of the message, whatever it comes to
    pub message_keeps : (r : Result (Unit {0}) Stop) (all : List Payload) → row_of u ≡ row → m.tells → Begins (messages ++ (s.more ++ message ∷ [])) all → Goes m u t (message_lines (row_of u) n moment message) r
        → KeepsPrefix m row all (disk_at roles.Recv u) (disk_at roles.Recv t)
    message_keeps r all same told begins goes =
        let held = messages ++ s.more in
        let most = held ++ message ∷ [] in
        let is : most ≡ messages ++ (s.more ++ message ∷ []) = append_assoc messages s.more (message ∷ []) in
        let sent = subst (λ (k : ℕ). Sent row n k held s.past) (sym is_moment) s.sent in
        let l = late in
        let halt = message_halts row s.past n moment moment held message sent (omega arith) short (omega (arith, few)) (omega (arith, is_moment, l)) in
        let within = ends_within m t row s.past (message_lines row n moment message) _ held most sends halt (λ q after. begins_same q.world.accepted most (is ∙ sym after.1)) all
        (begins_then most (messages ++ (s.more ++ message ∷ [])) all (begins_same most _ (sym is)) begins) r in
        subst (λ (x : SessionRow). KeepsPrefix m x all (disk_at roles.Recv u) (disk_at roles.Recv t)) same
        (goes.keeps told s.past s.stands all (subst (λ (x : SessionRow). EndsWithin m t x s.past (message_lines x n moment message) all r) (sym same) within))

  -- a read of the file failed, or it is too long
  pub sending_part : (t : Pump D g) (start now : Cutter) (left rest : Option (List ℕ)) (n : ℕ) (taken : List ℕ) → Sending m t row messages start now left rest n → Consumes left rest taken
      → (more : List (List ℕ)) × AreFirst start left more × Passes m t (messages ++ more)
  sending_part t start now left rest n taken s c =
      let size : length (messages ++ s.more) ≡ length messages + length s.more = length-append messages s.more in (
        s.more,
        are_first s.more start now left rest taken c s.cut,
        (s.past, s.stands, record { accepted = s.sent.1; removed = s.sent.0.removed_is ∙ s.count ∙ sym size }),
      )

  -- a receiver's disk is full before the numbers run out
  pub sending_few : (t : Pump D g) (start now : Cutter) (left rest : Option (List ℕ)) (n : ℕ) → Sending m t row messages start now left rest n → n < 2 ^ 24
  sending_few t start now left rest n s =
      let stands = s.sent.0 in
      let room = state_room m t.state s.past s.stands in
      let least = log_least s.past.world.received in
      let has = stands.rests.calm.stays.lawful.delivered.removed in
      omega (arith, room, least, has, stands.removed_is)

  -- none is left
  pub sending_all : (t : Pump D g) (start now new : Cutter) (left rest last : Option (List ℕ)) (n : ℕ) (message taken bytes : List ℕ) → (s : Sending m t row messages start now left rest n) → Consumes left rest taken → Consumes rest last bytes
      → GivesNext now new rest last message Done → Sends m t row messages start left (Ok n)
  sending_all t start now new left rest last n message taken bytes s c d gives =
      let size : length (messages ++ s.more) ≡ length messages + length s.more = length-append messages s.more in
      let count : n ≡ length (messages ++ s.more) = (let count = s.count in omega (arith, count, size)) in (
        s.more,
        s.past,
        s.led,
        s.stands,
        record { accepted = s.sent.1; removed = s.sent.0.removed_is ∙ count },
        count,
        gone s.more start now new left rest last message taken bytes c d s.cut gives,
      )
