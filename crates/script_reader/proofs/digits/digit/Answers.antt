use Rattle.std.proofs.Common.{arith}
use Rattle.script_reader.proofs.DigitLaws.{entry}
use Rattle.script_reader.proofs.digits.digit.Goals as goal

pub returns : goal.returns
returns c = entry c.args.c (omega arith)
