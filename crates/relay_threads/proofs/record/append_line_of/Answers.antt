use Rattle.std.proofs.Common.{ℕ, List, ap, ◌∙◌, subst}
use Rattle.script_reader.specs.declared.line.Line.{Line}
use Rattle.script_reader.specs.Grammar.{IsLine}
use Rattle.script_reader.specs.Heads.{line_with}
use Rattle.script_reader.specs.Lawful.{IsLawfulLine}
use Rattle.script_reader.specs.Spelling.{line_spelling}
use Rattle.relay_threads.proofs.record.append_line_of.Goals as goal

pub returns-clause-reads : goal.returns-clause-reads
returns-clause-reads g c =
    subst (λ (l : Line). IsLawfulLine l → IsLine l (line_spelling l))
    (ap (λ (b : List ℕ). line_with b c.head_of-head.result) c.as_slice.ensures.value ∙ c.head_of-head.ensures.value)
    c.append_line.ensures.reads
