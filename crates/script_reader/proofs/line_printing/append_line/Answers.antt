use Rattle.script_reader.specs.Heads.{line_with}
use Rattle.script_reader.proofs.Spellings.{printed_line, short_line}
use Rattle.script_reader.proofs.line_printing.append_line.Goals as goal

pub returns-clause-reads : goal.returns-clause-reads
returns-clause-reads g c =
    printed_line (line_with c.args.body.now c.args.head.now) c.put_line.ensures.typed (short_line c.args.into.now.items _ _ c.put_line.ensures.items c.put_line.ensures.len)
