-- Words of private clauses.
use Rattle.std.specs.Prelude.{◌≡◌, ℕ, Bool, max}
use Rattle.script_reader.specs.declared.line.Arriving.{Arriving}
use Rattle.script_reader.specs.declared.line.Arriving.TheVariants.{Data}
use Rattle.pump_frame.specs.declared.payload.Payload.{Payload}
use Rattle.script_reader.specs.declared.line.Line.{Line}
use Rattle.script_reader.specs.declared.line.Line.TheVariants as lines
use Rattle.script_reader.specs.Sessions.{moment_in, is_from}
use Rattle.two_worlds.specs.Pumps.{kept_moment}
use Rattle.pump_chain.specs.Chained.{Chained, added, Share, Skipped, OfFirst, OfSecond, MakesFirst, MakesSecond, OfNone}
use Rattle.pump_chain.specs.Chained.{share_by}
use Rattle.pump_chain.specs.declared.chain.Chain.{Chain}
use Rattle.pump_chain.specs.declared.whose.Whose.{Whose}
use Rattle.pump_chain.specs.declared.whose.Whose.TheVariants as whose

-- what a line is to a chain, where a look of the second session of this number is to add this
abbrev pub share_for : ℕ → Arriving → Line → Whose → Share
share_for second adds line whose.Nobodys = Skipped
share_for second adds line whose.Firsts = OfFirst line
share_for second adds line whose.Seconds = OfSecond line
share_for second adds line (whose.Senders m w) = OfSecond (lines.Look second m w adds)
share_for second adds line whose.CoarsensFirst = MakesFirst
share_for second adds line whose.CoarsensSecond = MakesSecond
share_for second adds line whose.NoChains = OfNone

-- .. whatever it adds
abbrev pub IsWhose : ℕ → ℕ → Line → Whose → Type 0
IsWhose first second line who = (adds : Arriving) → share_by first second adds line ≡ share_for second adds line who

-- whether the line comes in its order, by what the pumps keep
abbrev pub order_by : {D : Type 0} {g : _} → Chain D g → Line → Bool
order_by chain line = is_from (max (kept_moment chain.first) (kept_moment chain.second)) (moment_in line)

-- a message is what the sender is to add
abbrev pub AddsMessage : Chained → Type 0
AddsMessage c = (number : ℕ) × (payload : Payload) × (added c ≡ Data number payload)
