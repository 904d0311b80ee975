use Rattle.std.proofs.Common.{length, ap, arith}
use Rattle.std.proofs.lemmas.Fmt.{length-decimal-le}
use Rattle.file_messages.proofs.Names.{short_name}
use Rattle.folders.proofs.shown_name.numbered_name.Goals as goal

pub push_str-requires : goal.push_str-requires
push_str-requires c =
    let name = short_name c.as_str.result.now c.as_str.ensures.name in
    (omega arith, omega (arith, name, ap length c.new-text.ensures))

pub push_str-requires-2 : goal.push_str-requires-2
push_str-requires-2 c =
    let name = short_name c.as_str.result.now c.as_str.ensures.name in
    (omega arith, omega (arith, name, ap length c.new-text.ensures, c.push_str.ensures.len))

pub push_str-requires-3 : goal.push_str-requires-3
push_str-requires-3 c =
    let name = short_name c.as_str.result.now c.as_str.ensures.name in
    let digits = length-decimal-le 15 c.args.number (omega arith) (omega (arith, c.requires)) (omega (arith, c.requires)) in
    (omega arith, omega (arith, name, digits, ap length c.format.ensures.text, ap length c.new-text.ensures, c.push_str.ensures.len, c.push_str-2.ensures.len))
