use Rattle.std.proofs.Common.{None, Some, refl, ap, sym}
use Rattle.std.specs.Prelude.{if◌then◌else◌}
use Rattle.low_process.specs.declared.values.Phase.{Phase}
use Rattle.low_process.specs.Looks.{arrival_of, phase_of}
use Rattle.low_process.proofs.process.LowProcess.step.Goals as goal

pub returns-in-Waiting-clause-step : goal.returns-in-Waiting-clause-step
returns-in-Waiting-clause-step c =
    (c.wait.ensures.quiet, c.wait.ensures.step (arrival_of c.args.arrival) c.args.is_fault c.is_gone.ensures)

pub returns-else-is_gone-clause-step : goal.returns-else-is_gone-clause-step
returns-else-is_gone-clause-step c =
    let i = c.in-Passing in
    let hand = c.args.self.now.hand.number in
    (refl, refl, ((if i.is_owed then Some hand else None, ap (λ (p : Phase). phase_of p hand) i.is), sym c.if-is_gone.ensures))
