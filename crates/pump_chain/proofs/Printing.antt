-- What is printed, by the heads of its lines.
use Rattle.std.proofs.Common.{◌≡◌, ◌≤◌, Bool, true, false, List, [], ◌∷◌, length, refl, ap, arith}
use Rattle.std.specs.Prelude.{◌||◌, if◌then◌else◌}
use Rattle.std.specs.List.{list_any}
use Rattle.script_reader.specs.declared.event.Event.{Event}
use Rattle.script_reader.specs.declared.event.EventHead.{EventHead}
use Rattle.script_reader.specs.EventHeads.{event_of}
use Rattle.two_worlds.specs.Printing.{lines_in}
use Rattle.pump_chain.specs.declared.sender.Sender.{Sender}

pub any_lines : (test : Event → Bool) (heads : List EventHead) → list_any test (lines_in heads) ≡ list_any (λ head. test (event_of head)) heads
any_lines test [] = refl
any_lines test (head ∷ heads) = ap (λ (b : Bool). test (event_of head) || b) (any_lines test heads)

pub none_printed : (heads : List EventHead) → length heads ≤ 0 → lines_in heads ≡ []
none_printed [] few = refl
none_printed (head ∷ heads) few = absurd (omega (arith, few))

-- the first of two, where it is chosen
pub chosen : (b : Bool) (x y : Sender) → b ≡ true → x ≡ (if b then x else y)
chosen true x y e = refl
chosen false x y e = absurd (cc)
