use Rattle.std.proofs.Common.{ap}
use Rattle.script_reader.specs.Transcript.{text}
use Rattle.two_worlds.specs.Printing.{lines_in}
use Rattle.script_replay.proofs.Gathered.{held_prefix}
use Rattle.script_replay.proofs.replaying.write_last.Goals as goal

pub returns-clause-err : goal.returns-clause-err
returns-clause-err g c = held_prefix c.flush.result _ _ _ _ _ _ _ (ap (λ l. text (lines_in l)) c.as_slice.ensures.value) c.in_ok-print_all.ensures.ok c.flush.ensures.err
