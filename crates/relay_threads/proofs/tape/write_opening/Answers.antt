use Rattle.std.proofs.Common.{◌++◌, List, ℕ, OnErr, refl, ap, subst, ◌∙◌}
use Rattle.pump_link.specs.Causes.{AppendsPrefix}
use Rattle.script_reader.specs.Spelling.{line_text}
use Rattle.relay_threads.specs.RecordLines.{opening_line, coarse_text}
use Rattle.relay_threads.proofs.tape.write_opening.Goals as goal

pub returns-clause-err : goal.returns-clause-err
returns-clause-err g c =
    let row = c.args.row.now in
    let opening = line_text (opening_line row (record { count = c.args.next; is_held = c.args.is_held })) in
    let first = c.append_opening.ensures.text ∙ ap (λ (z : List ℕ). z ++ opening) c.new-lines.ensures in
    let lines = c.as_slice.ensures.value ∙ c.append_coarse.ensures.text ∙ ap (λ (z : List ℕ). z ++ coarse_text row) first in
    subst (λ (bytes : List ℕ). OnErr c.write_all.result (AppendsPrefix (g.O.Sink.written c.args.tape.now) (g.O.Sink.written c.write_all.new.out) bytes)) lines c.write_all.ensures.err

pub returns-clause-reads : goal.returns-clause-reads
returns-clause-reads g c = λ count. record { opening = c.append_opening.ensures.reads ((refl, refl, refl), count); coarse = c.append_coarse.ensures.reads }
