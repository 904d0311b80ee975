use Rattle.race.proofs.Tapes.{written_of}
use Rattle.race.proofs.tape.Tape.shut.Goals as goal

pub returns : goal.returns
returns g c = record {
  written = λ start first bytes k. written_of c.flush.new.self start (g.O.Sink.written c.flush.new.out) first (g.O.Sink.faults c.flush.new.out) bytes c.flush.ensures.empty (c.flush.ensures.stays start first bytes k);
}
