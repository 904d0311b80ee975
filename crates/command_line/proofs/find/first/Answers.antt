use Rattle.std.proofs.Common.{map, length, ◌-◌, take, drop, string_bytes, rules}
use Rattle.command_line.proofs.Texts.{first_word}
use Rattle.command_line.proofs.find.first.Goals as goal

pub returns-in-len1-up : goal.returns-in-len1-up
returns-in-len1-up c = record {
  some = (map string_bytes (take (length c.args.words.now - 1) (drop 1 c.args.words.now)), first_word c.args.words.now c.name-item.result _ c.in-len1-up.len_at_least c.name-item.is (search rules));
  none = tt;
}
