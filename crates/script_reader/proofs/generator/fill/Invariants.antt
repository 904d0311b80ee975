use Rattle.std.proofs.Common.{◌≡◌, length, take}
use Rattle.script_reader.specs.Generated.{counting}
use Rattle.script_reader.proofs.generator.fill.Given as goal

abbrev pub invariant-bytes : goal.invariant-bytes
invariant-bytes l = (length l.bytes ≡ 64) × (take l.i l.bytes ≡ counting l.i l.message)
