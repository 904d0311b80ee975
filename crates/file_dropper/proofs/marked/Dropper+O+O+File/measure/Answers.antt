use Rattle.std.proofs.Common.{◌<◌, ◌^◌, arith, []}
use Rattle.file_dropper.proofs.marked.Dropper+O+O+File.measure.Goals as goal

pub returns-in-Done-clause-ok : goal.returns-in-Done-clause-ok
returns-in-Done-clause-ok g c =
    let (bytes, left, moves) = c.in-Ok.ensures.bytes in
    let few : c.finish.result.size < 2 ^ 48 = omega (arith, c.finish.ensures.size, c.finish_reading.ensures.few c.in-Done.is) in (
      few,
      (
        bytes,
        moves,
        λ tells. c.finish.ensures.measure bytes bytes (c.finish_reading.ensures.reads c.in-Done.is bytes [] (c.new-reading.ensures.read bytes (left tells))),
      ),
    )
