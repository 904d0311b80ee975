use Rattle.std.proofs.Common.{length, ap, arith}
use Rattle.file_messages.proofs.Names.{short_name}
use Rattle.file_collector.proofs.naming.own_name.Goals as goal

pub push_str-requires : goal.push_str-requires
push_str-requires c =
    let name = short_name c.as_str.result.now c.as_str.ensures.name in
    (omega arith, omega (arith, name, ap length c.new-own.ensures))
