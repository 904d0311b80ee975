use Rattle.std.proofs.Common.{take}
use Rattle.command_line.proofs.Texts.{utf8_name}
use Rattle.command_line.proofs.table_name.TableName.as_str.Goals as goal

pub unreachable-requires : goal.unreachable-requires
unreachable-requires c = c.in-Err.ensures.cases.0 (utf8_name (take c.self.inside.len c.self.inside.cells) c.self.invariant.3)
