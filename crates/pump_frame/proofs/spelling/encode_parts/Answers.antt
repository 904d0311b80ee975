use Rattle.std.proofs.Common.{refl}
use Rattle.pump_frame.specs.Spellings.{spelling}
use Rattle.pump_frame.proofs.spelling.encode_parts.Goals as goal

pub returns : goal.returns
unfolding spelling
returns c =
    let first = rw c.unwrap.ensures at c.try_extend_from_slice.ensures.ok in
    let second = rw c.unwrap-2.ensures at c.try_extend_from_slice-2.ensures.ok in
    rw (second, first, c.clear.ensures, c.header-header.ensures, c.as_slice-payload.ensures.value) refl
