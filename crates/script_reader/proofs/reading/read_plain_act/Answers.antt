use Rattle.std.proofs.Common.{rules, option_map, subst}
use Rattle.script_reader.specs.Heads.{act_with}
use Rattle.script_reader.specs.Parsing.{Reads, plain_act_at}
use Rattle.script_reader.proofs.reading.read_plain_act.Goals as goal

pub returns-clause-value : goal.returns-clause-value
unfolding plain_act_at
returns-clause-value c = λ bytes session moment.
    let read = c.read_numbered_act in
    subst (Reads (option_map (act_with bytes session moment) read.result) read.new.fields) (search rules) (read.ensures.value bytes session moment)
