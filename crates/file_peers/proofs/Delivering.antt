-- What becomes of a message that was given.
use Rattle.std.proofs.Common.{◌≡◌, ◌≤◌, ℕ, ◌+◌, List, [], ◌∷◌, ◌++◌, Option, Some, None, Ok, refl, sym, ap, ◌∙◌, subst, append-nil, arith}
use Rattle.pump_frame.specs.Counts.{Rose}
use Rattle.pump_frame.specs.declared.frame.Frame.{Frame}
use Rattle.pump_link.specs.declared.link.Looked.{Looked}
use Rattle.folders.specs.Outboxes.{Dropping}
use Rattle.file_dropper.specs.Works.{HasOther, StandsBehind, StandsNext, bytes_of, ended_in}
use Rattle.file_dropper.specs.declared.answers.Next.{Next}
use Rattle.file_dropper.specs.declared.answers.Next.TheVariants.{Idle, Message, Again}
use Rattle.file_dropper.specs.declared.dropper.Dropper.{Dropper}
use Rattle.peers.specs.declared.asking.Wanted.{Wanted}
use Rattle.peers.specs.declared.asking.Wanted.TheVariants as wanted
use Rattle.peers.specs.Outputs.{Counts, counts}
use Rattle.peers.specs.Sending.{Wait, data_frame}
use Rattle.peers.proofs.Awaited.{rose_earlier}
use Rattle.peers.proofs.Hearing.{over_earlier}
use Rattle.peers.proofs.SendingLines.{unfinished_earlier}
use Rattle.file_peers.specs.declared.drop.DropEnd.{DropEnd}
use Rattle.file_peers.specs.declared.drop.DropEnd.TheVariants.{Ended, Looks, Write, Refused, Unfinished, Failed}
use Rattle.file_peers.specs.Delivering.{Part, Delivers, KeepsAnswered, MakesTurn}
use Rattle.file_peers.specs.Dropping.{Given, Turn, Acked, Rested, Stop, Resting, Giving, Telling, Asking, Taking, Ending, AskFails, LineEnds, RestEnds, StopsBy, IsGiven, GivesBehind, Passes, ended_line, given_line, given_number, dropper_in, message_in}

-- ---- counts that rose since a later moment ----

pub ask_earlier : (ask : Frame) (w : Wanted) (number left : ℕ) (wait : Wait) (sent : List ℕ) (a b now_link c d now_out : ℕ) (end : DropEnd) → a ≤ b → AskFails ask w number left wait sent (counts b now_link d now_out) end → AskFails ask w number left wait sent (counts a now_link c now_out) end
ask_earlier ask w number left wait sent a b now_link c d now_out (Refused code of) le fails = fails
ask_earlier ask w number left wait sent a b now_link c d now_out (Unfinished of) le (u, is) = (unfinished_earlier ask.session ask w wait left sent a b now_link le u, is)
ask_earlier ask w number left wait sent a b now_link c d now_out Ended le fails = fails
ask_earlier ask w number left wait sent a b now_link c d now_out Looks le fails = fails
ask_earlier ask w number left wait sent a b now_link c d now_out Write le fails = fails
ask_earlier ask w number left wait sent a b now_link c d now_out (Failed fault) le fails = fails

rest_earlier : (left : ℕ) (looks : List Looked) (passed : List Frame) (a b now_link c d now_out : ℕ) (end : DropEnd) → a ≤ b → RestEnds left looks passed (counts b now_link d now_out) end → RestEnds left looks passed (counts a now_link c now_out) end
rest_earlier left looks passed a b now_link c d now_out Ended le over = over_earlier looks passed a b now_link le over
rest_earlier left looks passed a b now_link c d now_out Looks le ends = ends
rest_earlier left looks passed a b now_link c d now_out Write le ends = ends
rest_earlier left looks passed a b now_link c d now_out (Refused code of) le ends = ends
rest_earlier left looks passed a b now_link c d now_out (Unfinished of) le ends = ends
rest_earlier left looks passed a b now_link c d now_out (Failed fault) le ends = ends

pub line_earlier : (printed line : List ℕ) (a b now_link c d now_out : ℕ) (end : DropEnd) → c ≤ d → LineEnds printed line (counts b now_link d now_out) end → LineEnds printed line (counts a now_link c now_out) end
line_earlier printed line a b now_link c d now_out Write le (prefix, rose) = (prefix, rose_earlier c d now_out le rose)
line_earlier printed line a b now_link c d now_out Ended le ends = ends
line_earlier printed line a b now_link c d now_out Looks le ends = ends
line_earlier printed line a b now_link c d now_out (Refused code of) le ends = ends
line_earlier printed line a b now_link c d now_out (Unfinished of) le ends = ends
line_earlier printed line a b now_link c d now_out (Failed fault) le ends = ends

pub line_later : (printed line : List ℕ) (k : Counts) (a now_link c d now_out : ℕ) → c ≤ d → k.out ≡ d → k.now_out ≡ now_out → LineEnds printed line k Write → LineEnds printed line (counts a now_link c now_out) Write
line_later printed line k a now_link c d now_out le is now_is (prefix, rose) =
    let now : Rose c k.now_out = rose_earlier c k.out k.now_out (omega (arith, le, is)) rose in
    (prefix, subst (Rose c) now_is now)

module _ {O F : Type 0} (m : Dropping O) (faults : F → ℕ) (session message number left : ℕ) (old : Dropper O F) (a b now_link c d now_out : ℕ) (low : a ≤ b) (out_low : c ≤ d) where
  pub stops_earlier : (s : Stop O F) (end : DropEnd) → StopsBy m faults session message number left old s (counts b now_link d now_out) end → StopsBy m faults session message number left old s (counts a now_link c now_out) end
  stops_earlier (Resting looks passed dropper) end (between, ends) = (between, rest_earlier left looks passed a b now_link c d now_out end low ends)
  stops_earlier (Giving dropper) end ends = ends
  stops_earlier (Telling given printed) end (is, ends) = (is, line_earlier printed (given_line session given.next) a b now_link c d now_out end out_low ends)
  stops_earlier (Asking given wait sent) end (is, fails) = (is, ask_earlier (data_frame session number given.payload) (wanted.Ack number) number left wait sent a b now_link c d now_out end low fails)
  stops_earlier (Taking given wait ack dropper) end ends = ends
  stops_earlier (Ending given wait ack dropper printed) end (is, ready, ends) = (is, ready, line_earlier printed (ended_line session (ended_in given.dropper.work)) a b now_link c d now_out end out_low ends)

-- ---- a message ----

-- the dropper stands behind a message that was given
stands_by : {O F : Type 0} (m : Dropping O) (left : F → Option (List ℕ)) (new : Dropper O F) (accepted : List (List ℕ)) (payload : List ℕ) (changed : ℕ → List ℕ → Type 0) (number : ℕ) (next : Next) → given_number next ≡ Some number
    → StandsNext m left new accepted payload changed (Ok next) → StandsBehind m left new (accepted ++ payload ∷ [])
stands_by m left new accepted payload changed number Idle is stands = cc
stands_by m left new accepted payload changed number (Message n) is stands = stands
stands_by m left new accepted payload changed number (Again n start name) is stands = stands.0

-- behind a turn
pub stands_after : {O F : Type 0} (m : Dropping O) (left : F → Option (List ℕ)) (accepted : List (List ℕ)) (old : Dropper O F) (t : Turn O F) → Passes m left accepted old t → StandsBehind m left (dropper_in t) (accepted ++ message_in t)
stands_after m left accepted old (Rested looks passed new) passes = subst (λ (ms : List (List ℕ)). StandsBehind m left new ms) (sym (append-nil accepted)) passes.1
stands_after m left accepted old (Acked given wait ack new) passes = passes.2

module _ {O F : Type 0} (m : Dropping O) (left : F → Option (List ℕ)) (faults : F → ℕ) (session looks_left : ℕ) (old new : Dropper O F) (given : Given O F) (is : IsGiven m old.message old.number given)
    (behind : m.tells → (accepted : List (List ℕ)) → StandsBehind m left old accepted → GivesBehind m left accepted old given) (x : Part) where
  -- the line of the message was printed before
  abbrev pub whole : Part
  whole = record { looks = x.looks; sent = x.sent; printed = given_line session given.next ++ x.printed }

  stands_given : m.tells → (accepted : List (List ℕ)) → StandsBehind m left old accepted → StandsBehind m left given.dropper (accepted ++ given.payload ∷ [])
  stands_given tells accepted stands = stands_by m left given.dropper accepted given.payload (HasOther old.work (bytes_of (m.stands old.outbox).marked)) old.number given.next is.is (behind tells accepted stands).1

  pub delivered : (n k : Counts) → Delivers m faults (data_frame session old.number given.payload) given.dropper new looks_left x n None
      → (m.tells → (messages : List (List ℕ)) → StandsBehind m left given.dropper messages → KeepsAnswered m left messages given.dropper new None)
      → new.number ≡ given.dropper.number + 1 → given.dropper.number ≡ old.number → MakesTurn m left faults session old new looks_left whole k None
  delivered n k (wait, ack, heard, printed, ready) keeps next same = (
    Acked given wait ack new,
    ((is, heard.answers), (ready.0, ready.1 ∙ ap (λ k. k + 1) is.stays)),
    record { dropper = refl; looks = heard.looks; sent = heard.sent; printed = ap (λ (l : List ℕ). given_line session given.next ++ l) printed },
    λ tells accepted stands.
        let kept = keeps tells (accepted ++ given.payload ∷ []) (stands_given tells accepted stands) in
        (behind tells accepted stands, kept.0, kept.1),
    next ∙ ap (λ k. k + 1) same,
  )

  no_more : (printed : List ℕ) → printed ≡ [] → given_line session given.next ++ printed ≡ given_line session given.next
  no_more printed none = ap (λ (l : List ℕ). given_line session given.next ++ l) none ∙ append-nil (given_line session given.next)

  pub delivery_ends : (a now_link c d now_out : ℕ) (end : DropEnd) → c ≤ d → Delivers m faults (data_frame session old.number given.payload) given.dropper new looks_left x (counts a now_link d now_out) (Some end)
      → (m.tells → (messages : List (List ℕ)) → StandsBehind m left given.dropper messages → KeepsAnswered m left messages given.dropper new (Some end))
      → MakesTurn m left faults session old new looks_left whole (counts a now_link c now_out) (Some end)
  delivery_ends a now_link c d now_out Write le (wait, ack, heard, ends, ready) keeps = (
    Ending given wait ack new x.printed,
    ((is, heard.answers), (ready.0, ready.1 ∙ ap (λ k. k + 1) is.stays), line_earlier x.printed (ended_line session (ended_in given.dropper.work)) a a now_link c d now_out Write le ends),
    record { dropper = refl; looks = heard.looks; sent = heard.sent; printed = refl },
    λ tells accepted stands.
        let kept = keeps tells (accepted ++ given.payload ∷ []) (stands_given tells accepted stands) in
        (behind tells accepted stands, kept.0, kept.1),
  )
  delivery_ends a now_link c d now_out (Failed fault) le (wait, ack, heard, cause, none) keeps = (
    Taking given wait ack new,
    ((is, heard.answers), cause),
    record { dropper = refl; looks = heard.looks; sent = heard.sent; printed = no_more x.printed none },
    λ tells accepted stands. (behind tells accepted stands, keeps tells (accepted ++ given.payload ∷ []) (stands_given tells accepted stands)),
  )
  delivery_ends a now_link c d now_out (Refused code of) le (wait, fails, looks, none, same) keeps = (
    Asking given wait x.sent,
    (is, fails),
    record { dropper = sym same; looks = looks; sent = refl; printed = no_more x.printed none },
    behind,
  )
  delivery_ends a now_link c d now_out (Unfinished of) le (wait, fails, looks, none, same) keeps = (
    Asking given wait x.sent,
    (is, fails),
    record { dropper = sym same; looks = looks; sent = refl; printed = no_more x.printed none },
    behind,
  )
  delivery_ends a now_link c d now_out Ended le (wait, fails, looks, none, same) keeps = absurd fails
  delivery_ends a now_link c d now_out Looks le (wait, fails, looks, none, same) keeps = absurd fails

  pub turn_delivered : (a now_link c d now_out : ℕ) (f : Frame) (r : Option DropEnd) → f ≡ data_frame session old.number given.payload → c ≤ d → Delivers m faults f given.dropper new looks_left x (counts a now_link d now_out) r
      → (m.tells → (messages : List (List ℕ)) → StandsBehind m left given.dropper messages → KeepsAnswered m left messages given.dropper new r)
      → (r ≡ None → new.number ≡ given.dropper.number + 1) → given.dropper.number ≡ old.number → MakesTurn m left faults session old new looks_left whole (counts a now_link c now_out) r
  turn_delivered a now_link c d now_out f None f_is le delivers keeps next same =
      delivered (counts a now_link d now_out) (counts a now_link c now_out) (subst (λ (y : Frame). Delivers m faults y given.dropper new looks_left x (counts a now_link d now_out) None) f_is delivers) keeps (next refl) same
  turn_delivered a now_link c d now_out f (Some end) f_is le delivers keeps next same =
      delivery_ends a now_link c d now_out end le (subst (λ (y : Frame). Delivers m faults y given.dropper new looks_left x (counts a now_link d now_out) (Some end)) f_is delivers) keeps
