-- The pairs of count and average that a record's looks tell, the newest first, against its times.
use Rattle.std.specs.Prelude.{◌≡◌, ℕ, ◌≤◌, Bool, true, List, [], ◌∷◌, ◌++◌}
use Rattle.std.specs.List.{All}
use Rattle.pump_core.specs.Passage.{shape_of_row, IsAverage}
use Rattle.pump_audit.specs.declared.claims.Claim.{Claim}
use Rattle.pump_audit.specs.Places.{has_end_at}
use Rattle.pump_audit.specs.Records.{Record}

-- the record tells all times and how it ended
abbrev pub has_end : Record → Bool
has_end r = has_end_at r.place

-- no count before it is greater, and, where the record has an end, its average is that of the first so many
-- times, of which there are as many
pub record IsRight (r : Record) (c : Claim) (before : List Claim) : Type 0 where
  pub rises : All (λ b. b.count ≤ c.count) before
  pub average : has_end r ≡ true → IsAverage (shape_of_row r.row) r.times (c.count, c.average)

abbrev pub AreRight : Record → List Claim → Type 0
AreRight r [] = Unit {0}
AreRight r (c ∷ before) = IsRight r c before × AreRight r before

-- the first of these that is wrong stands in this line
abbrev pub IsFirstWrong : Record → List Claim → ℕ → Type 0
IsFirstWrong r claims line = (newer : List Claim) × (c : Claim) × (before : List Claim)
    × (claims ≡ newer ++ c ∷ before) × AreRight r before × (IsRight r c before → ⊥) × (line ≡ c.line)

-- the pair that a claim tells
abbrev pub pair_of : Claim → ℕ × ℕ
pair_of c = (c.count, c.average)
