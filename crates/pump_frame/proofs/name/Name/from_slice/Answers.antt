use Rattle.std.proofs.Common.{length, drop, replicate}
use Rattle.pump_frame.specs.Names.{IsName}
use Rattle.pump_frame.specs.Padded.{padded_new, padded_whole, padded_prefix}
use Rattle.pump_frame.proofs.name.Name.from_slice.Goals as goal

pub invariant_of-result : goal.invariant_of-result
invariant_of-result c =
    let name : IsName c.args.bytes.now = c.is_name.ensures.0 c.if-not-is_name.false in
    let copied = c.copy_from_slice.ensures.after in (
      name.short,
      padded_whole 32 c.args.bytes.now _ name.short copied,
      padded_new 32 c.args.bytes.now _ name.short copied,
      rw (padded_prefix c.args.bytes.now c.copy_from_slice.new.self (drop (length c.args.bytes.now) (replicate 32 0)) copied) name,
    )
