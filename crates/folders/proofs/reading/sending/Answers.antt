use Rattle.std.proofs.Common.{◌≡◌, Some, arith}
use Rattle.hex.specs.Hex.{encode_lower}
use Rattle.folders.proofs.Dashes.{free_digits, none_some}
use Rattle.folders.proofs.reading.sending.Goals as goal

pub returns-in_err-digits : goal.returns-in_err-digits
returns-in_err-digits c start message size digest back numbers bytes shape =
    let first = c.in_ok-start.ensures start _ (omega (arith, numbers.0)) shape in
    let second = c.in_ok-message.ensures message _ (omega (arith, numbers.1)) first.1 in
    let third = c.in_ok-size.ensures size _ (omega (arith, numbers.2)) second.1 in
    absurd (c.in_err-digits.ensures (encode_lower digest) back (free_digits digest bytes.1) third.1)

pub returns-in_err-digest_of : goal.returns-in_err-digest_of
returns-in_err-digest_of c start message size digest back numbers bytes shape =
    let first = c.in_ok-start.ensures start _ (omega (arith, numbers.0)) shape in
    let second = c.in_ok-message.ensures message _ (omega (arith, numbers.1)) first.1 in
    let third = c.in_ok-size.ensures size _ (omega (arith, numbers.2)) second.1 in
    let last = c.in_ok-digits.ensures (encode_lower digest) back (free_digits digest bytes.1) third.1 in
    absurd (none_some digest (c.in_err-digest_of.ensures digest bytes.0 bytes.1 last.0))

pub returns : goal.returns
returns c start message size digest back numbers bytes shape =
    let first = c.in_ok-start.ensures start _ (omega (arith, numbers.0)) shape in
    let second = c.in_ok-message.ensures message _ (omega (arith, numbers.1)) first.1 in
    let third = c.in_ok-size.ensures size _ (omega (arith, numbers.2)) second.1 in
    let last = c.in_ok-digits.ensures (encode_lower digest) back (free_digits digest bytes.1) third.1 in
    let some : Some c.in_ok-digest_of.field-0 ≡ Some digest = c.in_ok-digest_of.ensures digest bytes.0 bytes.1 last.0 in
    let a = first.0 in
    let b = second.0 in
    let d = third.0 in
    (cc, last.1)
