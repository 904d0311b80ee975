-- What the dropper gives, and a rest where it gives no message.
use Rattle.std.proofs.Common.{◌++◌, length-append, ◌≡◌, ◌≤◌, ◌<◌, ◌^◌, inl, inr, ℕ, List, [], length, Option, Some, None, Ok, refl, sym, ap, ◌∙◌, subst, arith}
use Rattle.pump_frame.specs.Frames.{IsLawful}
use Rattle.pump_frame.specs.declared.frame.Frame.{Frame}
use Rattle.pump_link.specs.declared.link.Looked.{Looked}
use Rattle.folders.specs.Outboxes.{Dropping}
use Rattle.file_dropper.specs.Leaving.{Leaves}
use Rattle.file_dropper.specs.Works.{GivesNothing, HasOther, HasRoom, IsBetweenFiles, LeavesNext, MayAnswer, MayAsk, StandsBehind, StandsNext, bytes_of}
use Rattle.file_dropper.specs.declared.answers.DropFault.{DropFault}
use Rattle.file_dropper.specs.declared.answers.Next.{Next}
use Rattle.file_dropper.specs.declared.answers.Next.TheVariants.{Idle, Message, Again}
use Rattle.file_dropper.specs.declared.dropper.Dropper.{Dropper}
use Rattle.peers.specs.Outputs.{Counts}
use Rattle.peers.specs.Sending.{data_frame}
use Rattle.file_peers.specs.declared.drop.DropEnd.{DropEnd}
use Rattle.file_peers.specs.declared.drop.DropEnd.TheVariants.{Write, Failed}
use Rattle.file_peers.specs.Delivering.{MakesTurn}
use Rattle.file_peers.specs.Dropping.{Given, Rested, Resting, Giving, Telling, IsRest, IsGiven, GivesBehind, LineEnds, RestEnds, given_line, given_number}

-- no message was given
pub idle_by : (next : Next) → given_number next ≡ None → next ≡ Idle
idle_by Idle is = refl
idle_by (Message number) is = cc
idle_by (Again number start name) is = cc

pub may_answer : {O F : Type 0} (m : Dropping O) (old new : Dropper O F) (number : ℕ) (next : Next) → given_number next ≡ Some number → LeavesNext m old new (Ok next) → MayAnswer m new × (new.number ≡ old.number) × (number ≡ old.number)
may_answer m old new number Idle is leaves = cc
may_answer m old new number (Message n) is leaves = let same : n ≡ number = cc in (leaves.0, leaves.1, sym same ∙ leaves.2)
may_answer m old new number (Again n start name) is leaves = let same : n ≡ number = cc in (leaves.0, leaves.1, sym same ∙ leaves.2)

pub room_by : (message : ℕ) (payload : List ℕ) (number : ℕ) (next : Next) → given_number next ≡ Some number → HasRoom message payload (Ok next) → length payload ≤ message
room_by message payload number Idle is room = cc
room_by message payload number (Message n) is room = room
room_by message payload number (Again n start name) is room = room

pub is_given : {O F : Type 0} (m : Dropping O) (old : Dropper O F) (given : Given O F) (number : ℕ) → given_number given.next ≡ Some number → LeavesNext m old given.dropper (Ok given.next) → HasRoom old.message given.payload (Ok given.next) → IsGiven m old.message old.number given
is_given m old given number is leaves room =
    let may = may_answer m old given.dropper number given.next is leaves in
    record { is = is ∙ ap Some may.2; short = room_by old.message given.payload number given.next is room; awaits = may.0; stays = may.1 }

pub telling_ends : {O F : Type 0} (m : Dropping O) (left : F → Option (List ℕ)) (faults : F → ℕ) (session looks_left : ℕ) (old : Dropper O F) (given : Given O F) (printed : List ℕ) (n : Counts) → IsGiven m old.message old.number given
    → (m.tells → (accepted : List (List ℕ)) → StandsBehind m left old accepted → GivesBehind m left accepted old given) → LineEnds printed (given_line session given.next) n Write
    → MakesTurn m left faults session old given.dropper looks_left (record { looks = []; sent = []; printed = printed }) n (Some Write)
telling_ends m left faults session looks_left old given printed n is behind ends = (Telling given printed, (is, ends), record { dropper = refl; looks = refl; sent = refl; printed = refl }, behind)

pub giving_ends : {O F : Type 0} (m : Dropping O) (left : F → Option (List ℕ)) (faults : F → ℕ) (session looks_left : ℕ) (old new : Dropper O F) (n : Counts) (fault : DropFault) → GivesNothing m faults old new fault
    → (m.tells → (accepted : List (List ℕ)) → StandsBehind m left old accepted → Leaves m accepted old.outbox new.outbox)
    → MakesTurn m left faults session old new looks_left (record { looks = []; sent = []; printed = [] }) n (Some (Failed fault))
giving_ends m left faults session looks_left old new n fault cause behind = (Giving new, cause, record { dropper = refl; looks = refl; sent = refl; printed = refl }, behind)

-- a rest is not empty
pub rest_longer : (looks : List Looked) (passed : List Frame) → IsRest looks passed → 0 < length looks
rest_longer looks passed is = elim is.long [ inl e ↦ omega (arith, e) | inr more ↦ let l = more.0 in omega (arith, ap length l.all, l.first, length-append l.before (l.begun ++ l.rest), length-append l.begun l.rest, length-append l.before l.begun) ]

module _ {O F : Type 0} (m : Dropping O) (left : F → Option (List ℕ)) (faults : F → ℕ) (session looks_left : ℕ) (old new : Dropper O F) (next : Next) (payload : List ℕ) (none : given_number next ≡ None) (leaves : LeavesNext m old new (Ok next))
    (between : next ≡ Idle → IsBetweenFiles old.work)
    (behind : m.tells → (accepted : List (List ℕ)) → StandsBehind m left old accepted → Leaves m accepted old.outbox new.outbox × StandsNext m left new accepted payload (HasOther old.work (bytes_of (m.stands old.outbox).marked)) (Ok next)) where
  idle : next ≡ Idle
  idle = idle_by next none

  pub may_ask : MayAsk m new × (new.number ≡ old.number)
  may_ask = subst (λ (x : Next). LeavesNext m old new (Ok x)) idle leaves

  pub behind_idle : m.tells → (accepted : List (List ℕ)) → StandsBehind m left old accepted → Leaves m accepted old.outbox new.outbox × StandsBehind m left new accepted
  behind_idle tells accepted stands =
      let b = behind tells accepted stands in
      (b.0, subst (λ (x : Next). StandsNext m left new accepted payload (HasOther old.work (bytes_of (m.stands old.outbox).marked)) (Ok x)) idle b.1)

  pub turn_rested : (looks : List Looked) (passed : List Frame) (n : Counts) → IsRest looks passed → MakesTurn m left faults session old new looks_left (record { looks = looks; sent = []; printed = [] }) n None
  turn_rested looks passed n is = (
    Rested looks passed new,
    (between idle, is, may_ask),
    record { dropper = refl; looks = refl; sent = refl; printed = refl },
    behind_idle,
    omega (arith, may_ask.1),
  )

  pub rest_ends : (looks : List Looked) (passed : List Frame) (n : Counts) (end : DropEnd) → RestEnds looks_left looks passed n end → MakesTurn m left faults session old new looks_left (record { looks = looks; sent = []; printed = [] }) n (Some end)
  rest_ends looks passed n end ends = (
    Resting looks passed new,
    (between idle, ends),
    record { dropper = refl; looks = refl; sent = refl; printed = refl },
    behind_idle,
  )

-- the frame of a message that was given
pub data_lawful : (f : Frame) (session number message : ℕ) (payload : List ℕ) → f ≡ data_frame session number payload → session < 2 ^ 32 → number < 2 ^ 48 → length payload ≤ message → message ≤ 1024 → IsLawful f
data_lawful f session number message payload is low few short greatest =
    subst IsLawful (sym is) (record { session = low; form = (few, omega (arith, short, greatest)) })
