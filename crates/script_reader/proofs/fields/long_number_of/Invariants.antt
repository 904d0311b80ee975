use Rattle.std.proofs.Common.{◌≡◌, ◌<◌, ◌^◌, take}
use Rattle.std.specs.Str.Parse.{AllDigits, digits_value}
use Rattle.script_reader.proofs.fields.long_number_of.Given as goal

abbrev pub invariant-digits : goal.invariant-digits
invariant-digits l = AllDigits 10 (take l.i l.field) × (l.n ≡ digits_value 10 (take l.i l.field)) × (l.n < 2 ^ 64)
