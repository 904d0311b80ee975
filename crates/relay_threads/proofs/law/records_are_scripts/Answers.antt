use Rattle.relay_threads.proofs.Scripting.{record_reads}
use Rattle.relay_threads.proofs.law.records_are_scripts.Goals as goal

pub returns : goal.returns
returns c row o made readable = record_reads row o made readable
