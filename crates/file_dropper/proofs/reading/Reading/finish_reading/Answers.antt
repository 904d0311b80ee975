use Rattle.std.proofs.Common.{◌≡◌, arith}
use Rattle.file_cutter.specs.declared.pieces.Cut.TheVariants.{Message}
use Rattle.file_dropper.proofs.ReadingSteps.{read_more, read_end}
use Rattle.file_dropper.proofs.reading.Reading.finish_reading.Goals as goal

pub returns-in-Done-clause-reads : goal.returns-in-Done-clause-reads
returns-in-Done-clause-reads g c = λ done bytes given has.
    let before = c.pieces.invariant.reads bytes given has in
    (read_end g.F.Source.left c.pieces.self c.next-cut.new.self c.next-cut.new.into bytes before.0 c.next-cut.result c.next-cut.ensures.reads done before.1).0

pub pieces-preserved : goal.pieces-preserved
pieces-preserved g c =
    let is : c.next-cut.result ≡ Message = c.in-Message.is in
    record {
      may = c.next-cut.ensures.may is;
      reads = λ bytes given has.
          let before = c.pieces.invariant.reads bytes given has in
          let more = read_more g.F.Source.left c.pieces.self c.next-cut.new.self c.next-cut.new.into bytes before.0 c.next-cut.result c.next-cut.ensures.reads is before.1 in
          (_, more.1);
      later = omega (arith, c.pieces.invariant.later, c.next-cut.ensures.later);
    }
