use Rattle.std.proofs.Common.{sym, subst}
use Rattle.std.proofs.lemmas.Str.{IsUtf8-from_ascii}
use Rattle.std.specs.Str.{IsUtf8}
use Rattle.hex.specs.Hex.{lower_digits}
use Rattle.hex.proofs.HexLemmas.{IsAscii-encode_with}
use Rattle.folders.proofs.Dashes.{ascii_digits}
use Rattle.folders.proofs.spelling.put_digest.Goals as goal

pub unreachable-requires : goal.unreachable-requires
unreachable-requires c =
    let written = rw c.unwrap.ensures at c.encode_to_slice.ensures.written in
    c.in-Err.ensures.cases.0 (subst IsUtf8 (sym written) (IsUtf8-from_ascii _ (IsAscii-encode_with lower_digits c.as_slice.result.now ascii_digits)))
