use Rattle.std.proofs.Common.{◌≡◌, take}
use Rattle.script_reader.proofs.fields.is_word.Given as goal

abbrev pub invariant-bytes : goal.invariant-bytes
invariant-bytes l = take l.i l.field ≡ take l.i l.word
