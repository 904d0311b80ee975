use Rattle.std.proofs.Common.{subst, sym, ap, ◌∙◌, decimal}
use Rattle.std.proofs.lemmas.Fmt.{parse-decimal, IsAscii-decimal}
use Rattle.std.proofs.lemmas.Str.{IsUtf8-from_ascii}
use Rattle.std.specs.Str.{IsUtf8}
use Rattle.std.specs.Result.{result_ok}
use Rattle.folders.proofs.reading.number_of.Goals as goal

pub returns-in-Err : goal.returns-in-Err
returns-in-Err c n low is =
    absurd (c.in-Err.ensures.cases.0 (subst IsUtf8 (sym is) (IsUtf8-from_ascii (decimal n) (IsAscii-decimal n low))))

pub returns-in-Ok : goal.returns-in-Ok
returns-in-Ok c n low is =
    c.ok.ensures.value ∙ ap result_ok (parse-decimal 64 n c.in-Ok.text.now c.parse.result low low (c.in-Ok.ensures.cases.0 ∙ is) c.parse.ensures.value.0)
