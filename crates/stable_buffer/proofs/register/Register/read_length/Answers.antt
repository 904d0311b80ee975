use Rattle.std.proofs.Common.{arith, ◌∙◌}
use Rattle.std.proofs.lemmas.Grind.{common_steps}
use Rattle.stable_buffer.proofs.Numbers.{length_at-read}
use Rattle.stable_buffer.proofs.register.Register.read_length.Goals as goal

pub returns-clause-length : goal.returns-clause-length
returns-clause-length g c = λ told.
    c.read_length-length.ensures.value ∙ length_at-read (g.D.Disk.told.reading c.args.self.now.disk) c.args.at c.read_beside.new.into (c.in_ok-read_beside.ensures.bytes told)

pub returns-clause-answers : goal.returns-clause-answers
returns-clause-answers g c = grind (arith, common_steps)

pub returns-clause-spells : goal.returns-clause-spells
returns-clause-spells g c = grind (arith, common_steps)
