use Rattle.std.proofs.Common.{◌≡◌, List, ℕ, Some, Ok, sym, ap, ◌∙◌}
use Rattle.std.specs.Result.{result_ok}
use Rattle.hex.specs.Hex.{decode_sized}
use Rattle.hex.proofs.HexLemmas.{decode_sized-encode_lower}
use Rattle.folders.proofs.Dashes.{none_some}
use Rattle.folders.proofs.reading.digest_of.Goals as goal

pub returns-in_err-ok : goal.returns-in_err-ok
returns-in_err-ok c digest long bytes is =
    let read : decode_sized c.args.digits.now 32 ≡ Ok digest = ap (λ (l : List ℕ). decode_sized l 32) is ∙ decode_sized-encode_lower digest 32 long bytes in
    let parts = rw read at c.decode_to_slice.ensures.value in
    absurd (none_some tt (sym c.in_err-ok.was ∙ c.ok.ensures.value ∙ ap result_ok parts.0))

pub returns : goal.returns
returns c digest long bytes is =
    let read : decode_sized c.args.digits.now 32 ≡ Ok digest = ap (λ (l : List ℕ). decode_sized l 32) is ∙ decode_sized-encode_lower digest 32 long bytes in
    let parts = rw read at c.decode_to_slice.ensures.value in
    ap Some parts.1
