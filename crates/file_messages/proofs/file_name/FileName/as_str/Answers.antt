use Rattle.std.proofs.Common.{take}
use Rattle.file_messages.proofs.Names.{utf8_name}
use Rattle.file_messages.proofs.file_name.FileName.as_str.Goals as goal

pub unreachable-requires : goal.unreachable-requires
unreachable-requires c = c.in-Err.ensures.cases.0 (utf8_name (take c.self.inside.len c.self.inside.cells) c.self.invariant.3)
