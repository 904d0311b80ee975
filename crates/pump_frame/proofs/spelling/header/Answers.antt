use Rattle.pump_frame.specs.Spellings.{header_of}
use Rattle.pump_frame.proofs.spelling.header.Goals as goal

pub returns : goal.returns
unfolding header_of
returns c = simp (c.kind_byte.ensures, c.write_u32.ensures, c.write_u64.ensures, c.write_u16.ensures)
