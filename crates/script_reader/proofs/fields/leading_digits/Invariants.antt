use Rattle.std.proofs.Common.{◌≡◌, take}
use Rattle.std.specs.Str.Parse.{AllDigits, digits_value}
use Rattle.script_reader.proofs.fields.leading_digits.Given as goal

abbrev pub invariant-digits : goal.invariant-digits
invariant-digits l = AllDigits 10 (take l.i l.bytes) × (l.n ≡ digits_value 10 (take l.i l.bytes))
