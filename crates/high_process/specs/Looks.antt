-- What a high process stands for, between two looks and within one, and what a look does.
use Rattle.std.specs.Prelude.{◌≡◌, ℕ, ◌+◌, ◌^◌, ◌<◌, ◌≤◌, Bool, true, List, length, Option, Some, None, IfSome, IsSome}
use Rattle.pump_frame.specs.declared.frame.Item.{Item}
use Rattle.pump_core.specs.Passage.{Shape, Low, High}
use Rattle.high_process.specs.declared.values.HighAsk.{HighAsk}
use Rattle.high_process.specs.declared.values.HighLook.{HighLook}
use Rattle.high_process.specs.declared.values.Asking.{Asking}
use Rattle.high_process.specs.declared.values.Sent.{Sent}
use Rattle.high_process.specs.declared.values.Task.{Task}
use Rattle.high_process.specs.declared.process.HighProcess.{HighProcess}
use Rattle.pump_core.specs.Sendings.{Sending, last_sending, first_sending, expected}
use Rattle.high_process.specs.Past.{ProcessPast, begun, removed_in, published_in, wants, taken_up, finished, sent_in}
use Rattle.high_process.specs.States.{State, state_of, removed_of, hand_of, first_sent, last_sent}
use Rattle.high_process.specs.Ends.{IsTime, told_time, TakesUp}

-- the message in the hand of an opening is the next one
abbrev pub IsHand : ℕ → Option Item → Type 0
IsHand removed hand = IfSome hand (λ x. (x.number ≡ removed) × (removed < 2 ^ 48))

-- the first message that isn't removed was last and first sent at these moments, and no later one was
pub record HoldsSends (removed : ℕ) (sent : Option Sent) (sends : List Sending) : Type 0 where
  pub last : last_sending removed sends ≡ last_sent sent
  pub first : first_sending removed sends ≡ first_sent sent
  pub later : (n : ℕ) → removed + 1 ≤ n → last_sending n sends ≡ None

-- the state is what this past leaves
pub record Holds (s : State) (t : ProcessPast) : Type 0 where
  pub removed : s.removed ≡ t.removed
  pub hand : s.hand ≡ t.hand
  pub count : s.published ≡ length t.times
  pub sends : HoldsSends s.removed s.sent t.sends

-- between two looks: the process stands for this past
pub record StandsFor (p : HighProcess) (t : ProcessPast) : Type 0 where
  pub asking : p.asking ≡ None
  pub holds : Holds (state_of p) t
  pub last : p.last ≡ t.moment

-- within a look at m, which removed and published this: it stands for the past after the first half
pub record AsksFor (p : HighProcess) (t : ProcessPast) (m : ℕ) (removed published : Option ℕ) (attaches : Bool) : Type 0
  where
    pub asking : p.asking ≡ Some (record {
      removed = removed;
      published = published;
      attaches = attaches;
      wants = wants
          t;
    })
    pub holds : Holds (state_of p) t
    pub last : p.last ≡ m

-- the first half of a look: it asks for what its past wants, once that past has the removal
abbrev pub LookBegins : HighProcess → HighProcess → ℕ → Task → Bool → HighAsk → Type 0
LookBegins p q m task attaches ask = (t : ProcessPast) → StandsFor p t →
    AsksFor q (begun task t m) m (removed_in task t) (published_in task t m) attaches
    × (ask ≡ record {
      publish = published_in task t m;
      wants = wants (begun task t m);
      removed = (begun task t m).removed;
    })

-- the second half: the past has the message that came, and the sending
abbrev pub Finishes : HighProcess → HighProcess → Option Item → HighLook → Type 0
Finishes p q item look = (t : ProcessPast) (m : ℕ) (removed published : Option ℕ) (attaches : Bool)
    → AsksFor p t m removed published attaches →
    StandsFor q (finished p.row.resend attaches (taken_up t item) m)
    × (look ≡ record {
      removed = removed;
      published = published;
      sent = sent_in p.row.resend attaches (taken_up t item)
          m;
    })

-- the process asks for just what `ask` wants
abbrev pub AsksJust : HighProcess → HighAsk → Type 0
AsksJust p ask = (a : Asking) × (p.asking ≡ Some a) × (a.wants ≡ ask.wants)

-- the process asks, and a message that comes is wanted
abbrev pub TakesItem : HighProcess → Option Item → Type 0
TakesItem p item = (a : Asking) × (p.asking ≡ Some a) × (IsSome item → a.wants ≡ true)

-- the process asks; if it wants a message, the one before is removed or there was none in the hand; and
-- what it publishes is a time
pub record Asked (p q : HighProcess) (ask : HighAsk) : Type 0 where
  pub asking : Asking
  pub asks : q.asking ≡ Some asking
  pub wants : asking.wants ≡ ask.wants
  pub floor : ask.wants ≡ true → ask.removed ≡ expected (removed_of p) (hand_of p)
  pub publish : IfSome ask.publish (IsTime p.published)

-- a look: what the process and its end stood for, they stand for after it with its steps. `after` is
-- what the end stands for then
pub record Looked (s : Shape) (on_one_thread : Bool) (after : Low → High
    → Type 0) (l : Low) (h : High) (p q : HighProcess) (t : ProcessPast) (m : ℕ) (task : Task) (attaches : Bool)
    (look : HighLook) : Type 0 where
  pub got : Option Item
  pub ends : TakesUp s on_one_thread after l (told_time (published_in task t m) h) (wants (begun task t m))
      (begun task t m).removed got
  pub stands : StandsFor q (finished p.row.resend attaches (taken_up (begun task t m) got) m)
  pub is : look ≡ record {
    removed = removed_in task t;
    published = published_in task t m;
    sent = sent_in p.row.resend
        attaches (taken_up (begun task t m) got) m;
  }
