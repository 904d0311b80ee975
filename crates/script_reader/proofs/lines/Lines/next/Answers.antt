use Rattle.script_reader.proofs.lines.Lines.next.Goals as goal

pub returns-in-Line-clause-next : goal.returns-in-Line-clause-next
returns-in-Line-clause-next g c = rw (c.with.ensures, c.as_slice.ensures.value) c.in-Line.ensures.next

pub returns-in-Line-clause-reads : goal.returns-in-Line-clause-reads
returns-in-Line-clause-reads g c = rw (c.with.ensures, c.as_slice.ensures.value) c.in-Line.ensures.reads
