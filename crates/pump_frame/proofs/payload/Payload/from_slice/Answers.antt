use Rattle.std.proofs.Common.{arith}
use Rattle.pump_frame.specs.Padded.{padded_new, padded_whole}
use Rattle.pump_frame.proofs.payload.Payload.from_slice.Goals as goal

pub invariant_of-result : goal.invariant_of-result
invariant_of-result c = (
  omega arith,
  padded_whole 1024 c.args.bytes.now _ (omega arith) c.copy_from_slice.ensures.after,
  padded_new 1024 c.args.bytes.now _ (omega arith) c.copy_from_slice.ensures.after,
)
