use Rattle.std.proofs.Common.{refl}
use Rattle.race.specs.Race.{number_line}
use Rattle.race.proofs.Tapes.{keeps_more}
use Rattle.race.proofs.tape.Tape.number.Goals as goal

pub returns : goal.returns
returns g c = record {
  prints = λ start first earlier k.
      keeps_more c.make_room.new.self (record c.make_room.new.self { held = c.put_numbered.new.into }) start (g.O.Sink.written c.make_room.new.out) first (g.O.Sink.faults c.make_room.new.out) earlier (number_line c.args.word.now c.args.number)
      c.put_numbered.ensures refl (c.make_room.ensures.stays start first earlier k);
}
