use Rattle.std.proofs.Common.{◌≡◌, Some, decimal}
use Rattle.folders.proofs.Dashes.{free_decimal, none_some}
use Rattle.folders.proofs.reading.number.Goals as goal

pub returns-in_err-digits : goal.returns-in_err-digits
returns-in_err-digits c n back low shape = absurd (c.in_err-digits.ensures (decimal n) back (free_decimal n low) shape)

pub returns-in_err-number_of : goal.returns-in_err-number_of
returns-in_err-number_of c n back low shape =
    let parts = c.in_ok-digits.ensures (decimal n) back (free_decimal n low) shape in
    absurd (none_some n (c.in_err-number_of.ensures n low parts.0))

pub returns : goal.returns
returns c n back low shape =
    let parts = c.in_ok-digits.ensures (decimal n) back (free_decimal n low) shape in
    let some : Some c.in_ok-number_of.field-0 ≡ Some n = c.in_ok-number_of.ensures n low parts.0 in
    (cc, parts.1)
