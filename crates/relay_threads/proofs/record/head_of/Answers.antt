use Rattle.std.proofs.Common.{rules}
use Rattle.relay_threads.proofs.record.head_of.Goals as goal

pub returns-clause-value : goal.returns-clause-value
returns-clause-value c =
    let fault = c.tells_fault.ensures c.args.row.now.id in
    let taken = c.taken_into.ensures.value c.args.row.now in
    search (rules, fault, taken)
