-- What is kept of the claims of a record's looks: one of each count, the oldest first, and the first that can't be
-- right beside them; and how far they were met by the times. It serves private clauses and proofs alone.
use Rattle.std.specs.Prelude.{◌≡◌, ◌⊎◌, ℕ, ◌<◌, ◌≤◌, List, [], ◌∷◌, ◌++◌, length, take, drop, Option, None, Some}
use Rattle.std.specs.List.{All}
use Rattle.pump_frame.specs.declared.averaging.Averaging.{Averaging}
use Rattle.pump_frame.specs.Averages.{average_of}
use Rattle.pump_audit.specs.declared.claims.Claim.{Claim}

-- two claims tell the same pair
abbrev pub AreAlike : Claim → Claim → Type 0
AreAlike p c = (p.count ≡ c.count) × (p.average ≡ c.average)

-- the last of these tells the same pair
abbrev pub EndsLike : List Claim → Claim → Type 0
EndsLike pairs c = (prefix : List Claim) × (p : Claim) × (pairs ≡ prefix ++ p ∷ []) × AreAlike p c

-- one of the last two is wrong, whatever the times are: the count falls, or another average is told for it
abbrev pub IsSettled : List Claim → Type 0
IsSettled pairs = (prefix : List Claim) × (p : Claim) × (q : Claim) × (pairs ≡ prefix ++ p ∷ q ∷ [])
    × (q.count ≤ p.count) × (AreAlike p q → ⊥)

-- the pairs after one more claim: none is kept behind two of which one is wrong
abbrev pub Takes : List Claim → Claim → List Claim → Type 0
Takes before c pairs = (pairs ≡ before ++ c ∷ []) ⊎ ((pairs ≡ before) × (EndsLike before c ⊎ IsSettled before))

-- neighbours tell different pairs, and the counts rise, but perhaps to the last: so they are no more than the different
-- counts, and one
abbrev pub AreFew : List Claim → Type 0
AreFew pairs = (prefix : List Claim) (p q : Claim) (rest : List Claim) → pairs ≡ prefix ++ p ∷ q ∷ rest
    → (AreAlike p q → ⊥) × ((rest ≡ [] → ⊥) → p.count < q.count)

-- these are kept of the claims, of which the newest stands first
abbrev pub Keeps : List Claim → List Claim → Type 0
Keeps [] pairs = pairs ≡ []
Keeps (c ∷ older) pairs = (before : List Claim) × Keeps older before × Takes before c pairs

-- no count falls
abbrev pub AreRisen : List Claim → Type 0
AreRisen [] = Unit {0}
AreRisen (c ∷ older) = All (λ b. b.count ≤ c.count) older × AreRisen older

-- the first claim whose count falls stands in this line
abbrev pub FallsAt : List Claim → ℕ → Type 0
FallsAt claims line = (newer : List Claim) × (c : Claim) × (older : List Claim) × (claims ≡ newer ++ c ∷ older)
    × AreRisen older × (All (λ b. b.count ≤ c.count) older → ⊥) × (line ≡ c.line)

-- the greatest count so far, and the first fall
abbrev pub Fell : List Claim → ℕ → Option ℕ → Type 0
Fell claims greatest None = AreRisen claims × All (λ b. b.count ≤ greatest) claims
    × ((m : ℕ) → All (λ b. b.count ≤ m) claims → greatest ≤ m)
Fell claims greatest (Some line) = FallsAt claims line

-- the counts rise from this number on
abbrev pub RiseFrom : ℕ → List Claim → Type 0
RiseFrom n [] = Unit {0}
RiseFrom n (p ∷ pairs) = (n ≤ p.count) × RiseFrom p.count pairs

-- the count of the last, or this number
abbrev pub top : ℕ → List Claim → ℕ
top n [] = n
top n (p ∷ pairs) = top p.count pairs

-- the claim is met by the times
abbrev pub IsMet : Averaging → List ℕ → Claim → Type 0
IsMet a times p = (p.count ≤ length times) × (p.average ≡ average_of a (take p.count times))

-- whatever times follow, the claim is wrong behind these
abbrev pub Fails : Averaging → List ℕ → List Claim → Claim → Type 0
Fails a times prefix p = (p.count < top 0 prefix)
    ⊎ ((p.count ≤ length times) × ((p.average ≡ average_of a (take p.count times)) → ⊥))

-- the first of those that are not met yet waits for a count from n on, or fails
abbrev pub Waits : Averaging → List ℕ → ℕ → List Claim → List Claim → Type 0
Waits a times n prefix [] = Unit {0}
Waits a times n prefix (p ∷ rest) = (n ≤ p.count) ⊎ Fails a times prefix p

-- so many of the pairs are met by the times, and the next one waits for a count from n on
pub record Meets (a : Averaging) (times : List ℕ) (n : ℕ) (pairs : List Claim) (met : ℕ) : Type 0 where
  pub few : met ≤ length pairs
  pub rises : RiseFrom 0 (take met pairs)
  pub are_met : All (IsMet a times) (take met pairs)
  pub waits : Waits a times n (take met pairs) (drop met pairs)
