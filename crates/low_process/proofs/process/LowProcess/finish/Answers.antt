use Rattle.std.proofs.Common.{◌≡◌, ◌∙◌, ap}
use Rattle.pump_frame.specs.declared.row.SessionRow.{SessionRow}
use Rattle.low_process.specs.Heads.{look_with}
use Rattle.low_process.specs.Looks.{row_of}
use Rattle.low_process.proofs.process.LowProcess.finish.Goals as goal

pub returns-clause-looks : goal.returns-clause-looks
returns-clause-looks c =
    let head = c.finish_into.new.head in
    let same : c.whole.result ≡ look_with (row_of c.args.self.now) head = c.whole.ensures.value ∙ ap (λ (r : SessionRow). look_with r head) c.finish_into.ensures.row in
    rw same c.finish_into.ensures.looks
