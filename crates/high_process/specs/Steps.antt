-- The steps of a high process's code. Private clauses and proofs alone cite this.
use Rattle.std.specs.Prelude.{◌≡◌, ℕ, ◌+◌, ◌-◌, ◌^◌, ◌≤◌, Bool, ◌&&◌, ◌||◌, not, nat_lt, if◌then◌else◌, Option, Some}
use Rattle.std.specs.Prelude.{None, is_some}
use Rattle.pump_frame.specs.declared.frame.Item.{Item}
use Rattle.high_process.specs.declared.values.Sent.{Sent}
use Rattle.high_process.specs.declared.values.Asking.{Asking}
use Rattle.high_process.specs.declared.values.Task.{Task}
use Rattle.high_process.specs.declared.values.Task.TheVariants.{Refuse, Remove, Keep}
use Rattle.high_process.specs.declared.values.HighAsk.{HighAsk}
use Rattle.high_process.specs.declared.values.HighLook.{HighLook}
use Rattle.high_process.specs.declared.process.HighProcess.{HighProcess}
use Rattle.disk_model.specs.Disk.{Meaning}
use Rattle.stable_buffer.specs.High.{IsHighReady, high_count}
use Rattle.stable_buffer.specs.declared.high.HighStore.{HighStore}
use Rattle.pump_core.specs.Sendings.{time_since, is_due}
use Rattle.pump_core.specs.Passage.{Shape, Low, High}
use Rattle.high_process.specs.States.{State, first_sent, last_sent}
use Rattle.high_process.specs.Ends.{told_time, TakesUp}

-- the time that a removal publishes
abbrev pub time_of : ℕ → Option Sent → ℕ → Option ℕ
time_of count sent m = if nat_lt count (2 ^ 32 - 1) then time_since (first_sent sent) m else None

-- one more where a time is published
abbrev pub counted : Option ℕ → ℕ → ℕ
counted None n = n
counted (Some t) n = n + 1

-- the message in the hand is removed
abbrev pub without_hand : State → Option ℕ → State
without_hand s time = record s {
  removed = s.removed + 1;
  hand = None;
  sent = None;
  published = counted time
      s.published;
}

-- the next message is wanted
abbrev pub wants_of : ℕ → Option Item → Bool
wants_of removed hand = not (is_some hand) && nat_lt removed (2 ^ 48)

-- the message in the hand is due again
abbrev pub is_late : ℕ → Option Sent → ℕ → Bool
is_late resend sent m = is_due resend (last_sent sent) m

-- the message in the hand is sent
abbrev pub sends_of : ℕ → State → Bool → ℕ → Bool
sends_of resend s attaches m = is_some s.hand && (attaches || is_late resend s.sent m)

-- the look is begun
abbrev pub asks : State → ℕ → Option ℕ → Option ℕ → Bool → State
asks s m removed published attaches = record s {
  last = m;
  asking = Some (record {
    removed = removed;
    published = published;
    attaches = attaches;
    wants = wants_of
        s.removed s.hand;
  });
}

-- what a look does before the passage is asked
abbrev pub before : Task → State → ℕ → Bool → State
before Remove s m attaches =
    let time = time_of s.published s.sent m in
    asks (without_hand s time) m (Some s.removed) time attaches
before Keep s m attaches = asks s m None None attaches
before (Refuse e) s m attaches = s

-- the message that came is in the hand
abbrev pub with_item : State → Option Item → State
with_item s None = s
with_item s (Some x) = record s { hand = Some (record { number = s.removed; payload = x.payload }) }

-- it is sent at this moment
abbrev pub sent_at : Option Sent → ℕ → Option Sent
sent_at None m = Some (record { first = m; last = m })
sent_at (Some s) m = Some (record { first = s.first; last = m })

-- what it does after it
abbrev pub after : ℕ → Bool → State → State
after resend attaches s = record s {
  sent = if sends_of resend s attaches s.last then sent_at s.sent s.last else s.sent;
  asking = None;
}

-- what it asks
abbrev pub ask_of : State → Option ℕ → HighAsk
ask_of s time = record { publish = time; wants = wants_of s.removed s.hand; removed = s.removed }

-- a look of this moment may begin: none is begun and not finished, and the store counts what the process does
pub record MayBegin {D : Type 0} (m : Meaning D) (p : HighProcess) (store : HighStore D) (moment : ℕ) : Type 0 where
  pub asking : p.asking ≡ None
  pub in_time : moment ≤ 2 ^ 62
  pub ready : IsHighReady m store
  pub count : high_count store ≡ p.removed

-- the first half of a look, as the code makes it
abbrev pub StepBegins : State → State → ℕ → Task → Bool → HighAsk → Type 0
StepBegins s q m Remove attaches ask = (q ≡ before Remove s m attaches)
    × (ask ≡ ask_of (before Remove s m attaches) (time_of s.published s.sent m))
StepBegins s q m Keep attaches ask = (q ≡ before Keep s m attaches) × (ask ≡ ask_of s None)
StepBegins s q m (Refuse e) attaches ask = ⊥

-- the second half
abbrev pub StepFinishes : ℕ → State → State → Option Item → HighLook → Type 0
StepFinishes resend s q item look = (a : Asking) → s.asking ≡ Some a →
    (q ≡ after resend a.attaches (with_item s item))
    × (look ≡ record {
      removed = a.removed;
      published = a.published;
      sent = if sends_of resend (with_item s item)
          a.attaches s.last then Some s.removed else None;
    })

-- the process takes up what the end gives, if it wants a message. `after` is what the end stands for then
pub record Fills (s : Shape) (on_one_thread : Bool) (stands after : Low → High → Type 0) (p q : State) (ask : HighAsk) :
    Type 0 where
  pub got : Option Item
  pub filled : q ≡ with_item p got
  pub takes : (l : Low) (h : High) → stands l h → TakesUp s on_one_thread after l (told_time ask.publish h) ask.wants
      ask.removed got
