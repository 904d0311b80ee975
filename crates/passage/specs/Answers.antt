-- A fact for each answer of an end.
use Rattle.std.specs.Prelude.{Bool, true, false}
use Rattle.pump_frame.specs.declared.frame.Item.{Item}
use Rattle.passage.specs.declared.ends.Forwarded.{Forwarded}
use Rattle.passage.specs.declared.ends.Forwarded.TheVariants.{Passed, Full}
use Rattle.passage.specs.declared.ends.Next.{Next}
use Rattle.passage.specs.declared.ends.Next.TheVariants.{Got, Empty}

-- one fact where the item passed, and another where it came back
abbrev pub MatchForwarded : Forwarded → Type 0 → Type 0 → Type 0
MatchForwarded Passed P Q = P
MatchForwarded (Full back) P Q = Q

-- a fact of the item that came back
abbrev pub IfFull : Forwarded → (Item → Type 0) → Type 0
IfFull Passed P = Unit {0}
IfFull (Full back) P = P back

-- one fact of the item that was got, and another where there was none
abbrev pub MatchNext : Next → (Item → Type 0) → Type 0 → Type 0
MatchNext (Got item) P Q = P item
MatchNext Empty P Q = Q

-- one fact where an item was taken up, and another where there was none
abbrev pub MatchTaken : Bool → Type 0 → Type 0 → Type 0
MatchTaken true P Q = P
MatchTaken false P Q = Q
