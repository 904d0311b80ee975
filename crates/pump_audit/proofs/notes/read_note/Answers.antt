use Rattle.std.proofs.Common.{◌∙◌}
use Rattle.pump_audit.proofs.NoteLaws.{found_from, only_note}
use Rattle.pump_audit.proofs.notes.read_note.Goals as goal

pub returns-clause-found : goal.returns-clause-found
returns-clause-found c = found_from c.args.text.now c.note_at.result c.note_at.ensures

pub returns-clause-only : goal.returns-clause-only
returns-clause-only c = λ note h e. c.note_at.ensures ∙ only_note c.args.text.now note h e
