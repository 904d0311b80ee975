-- The messages that an opening deals out, as the two processes begin with them.
use Rattle.std.proofs.Common.{◌≡◌, ℕ, ◌+◌, ◌-◌, ◌≤◌, Bool, true, false, List, length, Option, Some, None, refl, sym, ap, ◌∙◌, arith}
use Rattle.std.specs.Prelude.{◌==◌, if◌then◌else◌, is_some}
use Rattle.pump_core.specs.Passage.{Low, High, ComesNext}
use Rattle.pump_frame.specs.declared.frame.Item.{Item}
use Rattle.low_process.specs.Ends.{number_offered}
use Rattle.low_process.specs.Looks.{IsHand}
use Rattle.disk_model.specs.Disk.{Meaning}
use Rattle.pump_frame.specs.declared.row.SessionRow.{SessionRow}
use Rattle.stable_buffer.specs.Stands.{LowStands, HighStands}
use Rattle.recovery.specs.Deals.{HandsFit, IsDealt, number_of, numbered, passing}
use Rattle.serving.specs.Finding.{AtOpening, FindsBoth}
use Rattle.recovery.proofs.Refill.{passing_next}

abbrev number_in : Option ℕ → ℕ
number_in None = 0
number_in (Some n) = n

-- the number that the low process offers, by whether its hand is full
offered : (hand : Option Item) (b : Bool) (n next : ℕ) → number_of hand ≡ (if b then Some n else None) → number_offered next hand ≡ (if b then n else next)
offered None true n next is = absurd (cc)
offered None false n next is = refl
offered (Some x) true n next is = ap number_in is
offered (Some x) false n next is = absurd (cc)

-- what is in the passage comes before the message that the low process offers
pub comes_next : (capacity removed next : ℕ) (messages : List (List ℕ)) (high low : Option Item) → 3 ≤ capacity → removed + length messages ≡ next → next ≤ removed + capacity
    → HandsFit capacity removed next high low → ComesNext (passing capacity (numbered removed messages)) (number_offered next low)
comes_next capacity removed next messages high low wide count places fit =
    passing_next capacity removed next (number_offered next low) messages wide count places (offered low (next == removed + capacity) (next - 1) next fit.last)

some_if : (b : Bool) (n : ℕ) → is_some (if b then Some n else None) ≡ b
some_if true n = refl
some_if false n = refl

number_some : (hand : Option Item) → is_some (number_of hand) ≡ is_some hand
number_some None = refl
number_some (Some x) = refl

-- a message is held exactly where all places are taken
held_is : (hand : Option Item) (b : Bool) (n : ℕ) → number_of hand ≡ (if b then Some n else None) → is_some hand ≡ b
held_is hand b n is = sym (number_some hand) ∙ ap is_some is ∙ some_if b n

-- what an opening finds
pub finds_both : {S : Type 0} (m : Meaning S) (row : SessionRow) (o : AtOpening) (before after : Low → High → Type 0) (low high : S) → IsDealt row o.removed o.count o.messages o.high_hand o.low_hand before after
    → HandsFit row.capacity o.removed o.count o.high_hand o.low_hand → (m.tells → LowStands row o.count o.removed o.messages (m.reading low)) → (m.tells → HighStands row o.removed (m.reading high)) → FindsBoth m row o low high
finds_both m row o before after low high dealt fit low_stands high_stands = record {
  low_stands = low_stands;
  high_stands = high_stands;
  count = dealt.count;
  places = dealt.places;
  short = dealt.short;
  held = held_is o.low_hand (o.count == o.removed + row.capacity) (o.count - 1) fit.last;
  hands = dealt.hands;
}

-- where a message is in the hand, one is stored
pub some_next : (next : ℕ) (hand : Option Item) → IsHand next hand → is_some hand ≡ true → 1 ≤ next
some_next next None is some = absurd (cc)
some_next next (Some x) is some = omega (arith, is)
