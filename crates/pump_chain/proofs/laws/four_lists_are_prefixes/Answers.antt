use Rattle.std.proofs.Common.{◌∷◌}
use Rattle.script_reader.specs.declared.line.Line.TheVariants as lines
use Rattle.script_reader.specs.Scripts.{Whole}
use Rattle.script_reader.specs.Sessions.{lines_of, events_of}
use Rattle.pump_chain.specs.Scripted.{chain_of, looks_of}
use Rattle.pump_chain.proofs.Tying.{tied_always}
use Rattle.pump_chain.proofs.laws.four_lists_are_prefixes.Goals as goal

pub returns : goal.returns
returns c = λ o one two script d printed can prefix leads.
    let own = c.sessions_are_their_own.ensures in
    let bounds = c.transcripts_are_bounded.ensures in
    record {
      next_taken = (bounds o (lines.Session two ∷ lines_of two.id (looks_of (chain_of o one two) script d printed leads)) (Whole d.second) (events_of two.id printed) (own.second o one two script d printed can leads)).prefix;
      sent_on = (tied_always o one two script d printed prefix leads).prefix;
      taken = (bounds o (lines.Session one ∷ lines_of one.id script) (Whole d.first) (events_of one.id printed) (own.first o one two script d printed can leads)).prefix;
    }
