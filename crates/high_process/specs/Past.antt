-- What a high process has been through since its opening, and what a look does to it.
use Rattle.std.specs.Prelude.{ℕ, ◌+◌, ◌^◌, Bool, ◌&&◌, ◌||◌, not, nat_lt, if◌then◌else◌, List, [], ◌∷◌, ◌++◌, Option}
use Rattle.std.specs.Prelude.{Some, None, is_some, option_to_list}
use Rattle.pump_frame.specs.declared.frame.Item.{Item}
use Rattle.pump_core.specs.Sendings.{Sending, last_sending, removal_time, is_due}
use Rattle.high_process.specs.declared.values.Task.{Task}
use Rattle.high_process.specs.declared.values.Task.TheVariants.{Refuse, Remove, Keep}

-- what it has been through
pub record ProcessPast : Type 0 where
  -- so many are removed
  pub removed : ℕ
  -- the next one, if it was taken up
  pub hand : Option Item
  -- the sendings since the opening, the newest first
  pub sends : List Sending
  -- the times published since the opening, the oldest first
  pub times : List ℕ
  -- the moment of the last look, and 0 before one
  pub moment : ℕ

-- the past of an opening
abbrev pub fresh : ℕ → Option Item → ProcessPast
fresh removed hand = record { removed = removed; hand = hand; sends = []; times = []; moment = 0 }

-- the time that a removal at m publishes
abbrev pub next_time : ProcessPast → ℕ → Option ℕ
next_time t m = removal_time t.removed m t.sends t.times

-- the first half of a look: a removal and its time
abbrev pub begun : Task → ProcessPast → ℕ → ProcessPast
begun Remove t m = record t { removed = t.removed + 1; hand = None; times = t.times ++ option_to_list (next_time t m) }
begun Keep t m = t
begun (Refuse e) t m = t

-- the number of the message that the look removes
abbrev pub removed_in : Task → ProcessPast → Option ℕ
removed_in Remove t = Some t.removed
removed_in Keep t = None
removed_in (Refuse e) t = None

-- the time that the look publishes
abbrev pub published_in : Task → ProcessPast → ℕ → Option ℕ
published_in Remove t m = next_time t m
published_in Keep t m = None
published_in (Refuse e) t m = None

-- whether the next message is asked for
abbrev pub wants : ProcessPast → Bool
wants t = not (is_some t.hand) && nat_lt t.removed (2 ^ 48)

-- the next message, if one came, is in the hand
abbrev pub taken_up : ProcessPast → Option Item → ProcessPast
taken_up t None = t
taken_up t (Some x) = record t { hand = Some (record { number = t.removed; payload = x.payload }) }

-- whether the message in the hand is sent
abbrev pub is_sent : ℕ → Bool → ProcessPast → ℕ → Bool
is_sent resend attaches t m = is_some t.hand && (attaches || is_due resend (last_sending t.removed t.sends) m)

-- the second half of a look: a sending
abbrev pub finished : ℕ → Bool → ProcessPast → ℕ → ProcessPast
finished resend attaches t m = record t {
  sends = if is_sent resend attaches t m then record
      { number = t.removed; moment = m } ∷ t.sends else t.sends;
  moment = m;
}

-- the number of the message that the look sends
abbrev pub sent_in : ℕ → Bool → ProcessPast → ℕ → Option ℕ
sent_in resend attaches t m = if is_sent resend attaches t m then Some t.removed else None
