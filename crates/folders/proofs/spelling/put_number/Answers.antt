use Rattle.std.proofs.Common.{ap, length, arith}
use Rattle.std.proofs.lemmas.Fmt.{length-decimal-le}
use Rattle.folders.proofs.spelling.put_number.Goals as goal

pub put_field-requires : goal.put_field-requires
put_field-requires g c =
    let short = length-decimal-le g.row.DIGITS c.args.number c.requires.some c.requires.below (omega (arith, c.ranges.number.fits)) in
    omega (arith, short, c.requires.room, ap length c.format.ensures.text)

pub returns-clause-len : goal.returns-clause-len
returns-clause-len g c =
    let short = length-decimal-le g.row.DIGITS c.args.number c.requires.some c.requires.below (omega (arith, c.ranges.number.fits)) in
    omega (arith, short, c.put_field.ensures.len, ap length c.format.ensures.text)
