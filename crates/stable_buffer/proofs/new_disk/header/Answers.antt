use Rattle.std.proofs.Common.{refl}
use Rattle.stable_buffer.specs.Format.{header_of}
use Rattle.stable_buffer.proofs.new_disk.header.Goals as goal

pub returns : goal.returns
unfolding header_of
returns c =
    rw (c.copy_from_slice-3.ensures.after, c.copy_from_slice-2.ensures.after, c.copy_from_slice.ensures.after, c.numbers.ensures, c.cell_of.ensures, c.letter.ensures)
    refl
