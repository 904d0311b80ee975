use Rattle.std.proofs.Common.{rules, ◌≡◌, ◌≤◌, arith, sym, ap, ◌∙◌, subst, length, take}
use Rattle.std.proofs.Math.Seq.{take-length}
use Rattle.std.specs.Io.KnownBytes.{Consumes}
use Rattle.std.proofs.KnownBytes.{Consumes-trans}
use borrow.Rule.Slice.PartMut.{same_len_mid}
use Rattle.serving.proofs.Pieces.{read_behind}
use Rattle.serving.proofs.keys.read_key.Goals as goal

pub loop-at-preserved : goal.loop-at-preserved
loop-at-preserved g c =
    let was = c.loop-at.invariant in
    let fits : c.loop-at.at ≤ length c.loop-at.key = search rules in
    record {
      prefix = subst (Consumes _ _) (sym (read_behind c.loop-at.key c.read.new.into c.loop-at.at c.in-Ok.n _ fits c.in-Ok.ensures.bound.0)) (Consumes-trans _ _ _ _ _ was.prefix c.in-Ok.ensures.bytes.0);
      most = search rules;
      long = same_len_mid c.loop-at.at _ c.loop-at.key c.read.new.into c.read.auto.into ∙ was.long;
      later = omega (arith, was.later, c.read.ensures.cause.later);
    }

pub returns-clause-key : goal.returns-clause-key
returns-clause-key g c =
    let was = c.loop-at.invariant in
    let whole : c.loop-at.at ≡ length c.loop-at.key = omega (arith, was.most, was.long, c.loop-at-test.false) in
    subst (Consumes _ _) (ap (λ n. take n c.loop-at.key) whole ∙ take-length c.loop-at.key) was.prefix
