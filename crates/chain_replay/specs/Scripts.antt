-- The script of two pumps in a row: two `session` lines, the first pump's first, and then the lines of their chain.
use Rattle.std.specs.Prelude.{◌≡◌, ◌≤◌, List, [], ◌∷◌, ◌++◌}
use Rattle.pump_core.specs.Lawful.{IsPrefixOf}
use Rattle.pump_frame.specs.Rows.{IsLawfulRow}
use Rattle.pump_frame.specs.declared.row.SessionRow.{SessionRow}
use Rattle.script_reader.specs.declared.event.Event.{Event}
use Rattle.script_reader.specs.declared.line.Line.{Line}
use Rattle.script_reader.specs.declared.line.Line.TheVariants.{Skip, Session}
use Rattle.script_reader.specs.Openings.{Openings, accepted_in}
use Rattle.pump_chain.specs.Chained.{Chained, ChainLeads, ChainRefuses}
use Rattle.pump_chain.specs.Scripted.{CanChain, chain_of}

-- what a script has begun: no pump, the first one, or both, of these rows, whose chain has come to this
pub data Begun : Type 0 where
  NoPump : Begun
  OnePump : (one : SessionRow) → Begun
  BothPumps : (one two : SessionRow) (chain : Chained) → Begun

-- the second row may follow the first one: it has another number, and its messages are no smaller
pub record MayFollow (one two : SessionRow) : Type 0 where
  pub lawful : IsLawfulRow two
  pub apart : one.id ≡ two.id → ⊥
  pub message : one.message ≤ two.message

-- both can begin on what their disks were found to hold, and the second pump has accepted none but the first messages
-- that the first receiver has
pub record AreLinked (o : Openings) (one two : SessionRow) : Type 0 where
  pub can : CanChain o one two
  pub prefix : IsPrefixOf (accepted_in (o two.id)) (o one.id).received

-- the line can be applied, leads on, and prints this. The first two that are not skipped begin the pumps, and all
-- others are the chain's
abbrev pub Leads : Openings → Begun → Line → Begun → List Event → Type 0
Leads o NoPump Skip after printed = (after ≡ NoPump) × (printed ≡ [])
Leads o NoPump (Session one) after printed = IsLawfulRow one × (after ≡ OnePump one) × (printed ≡ [])
Leads o NoPump line after printed = ⊥
Leads o (OnePump one) Skip after printed = (after ≡ OnePump one) × (printed ≡ [])
Leads o (OnePump one) (Session two) after printed =
    MayFollow one two × AreLinked o one two × (after ≡ BothPumps one two (chain_of o one two)) × (printed ≡ [])
Leads o (OnePump one) line after printed = ⊥
Leads o (BothPumps one two c) line after printed = (d : Chained) × ChainLeads c line d printed
    × (after ≡ BothPumps one two d)

-- the line can't be applied
abbrev pub Refuses : Begun → Line → Type 0
Refuses NoPump Skip = ⊥
Refuses NoPump (Session one) = IsLawfulRow one → ⊥
Refuses NoPump line = Unit {0}
Refuses (OnePump one) Skip = ⊥
Refuses (OnePump one) (Session two) = MayFollow one two → ⊥
Refuses (OnePump one) line = Unit {0}
Refuses (BothPumps one two c) line = ChainRefuses c line

-- fewer than two pumps have begun: the end of the script is refused too
abbrev pub LacksPump : Begun → Type 0
LacksPump (BothPumps one two c) = ⊥
LacksPump begun = Unit {0}

-- these lines lead on, and print this
abbrev pub LeadTo : Openings → Begun → List Line → Begun → List Event → Type 0
LeadTo o begun [] after printed = (after ≡ begun) × (printed ≡ [])
LeadTo o begun (line ∷ later) after printed =
    (mid : Begun) × (first : List Event) × (second : List Event)
    × Leads o begun line mid first × LeadTo o mid later after second × (printed ≡ first ++ second)
