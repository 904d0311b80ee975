use Rattle.commands.proofs.wrap.wrap_row.Goals as goal

pub returns-then-row-lt9-clause-cause : goal.returns-then-row-lt9-clause-cause
returns-then-row-lt9-clause-cause g c = record {
  only = tt;
  device = λ role is. absurd (cc);
  read = λ is. absurd (cc);
  unwritten = λ is. absurd (cc);
}
