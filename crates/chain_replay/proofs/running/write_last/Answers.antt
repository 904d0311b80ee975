use Rattle.std.proofs.Common.{refl}
use Rattle.script_reader.specs.Transcript.{text}
use Rattle.script_replay.specs.Outputs.{held_of}
use Rattle.script_replay.proofs.Gathered.{held_prefix}
use Rattle.two_worlds.specs.Printing.{lines_in}
use Rattle.chain_replay.proofs.running.write_last.Goals as goal

pub returns-clause-err : goal.returns-clause-err
returns-clause-err g c =
    held_prefix c.flush.result (held_of c.args.output.now) (held_of c.print_all.new.self) (g.O.Sink.written c.args.out.now) (g.O.Sink.written c.print_all.new.out) (g.O.Sink.written c.flush.new.out)
    (text (lines_in c.args.last.now)) (text (lines_in c.args.last.now)) refl c.in_ok-print_all.ensures.ok c.flush.ensures.err
