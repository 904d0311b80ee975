use Rattle.std.proofs.Common.{refl}
use Rattle.file_messages.specs.Messages.{start_message}
use Rattle.file_messages.proofs.spelling.put_start.Goals as goal

pub returns-clause-message : goal.returns-clause-message
unfolding start_message
returns-clause-message c =
    let first = rw c.unwrap.ensures at c.try_extend_from_slice.ensures.ok in
    let second = rw c.unwrap-2.ensures at c.try_extend_from_slice-2.ensures.ok in
    rw (c.set.ensures.value, c.as_slice-2.ensures.value, second, first, c.new-room.ensures, c.head.ensures, c.as_slice.ensures.value) refl
