use Rattle.std.proofs.Common.{rules, arith, sym, ◌∙◌, subst}
use Rattle.std.specs.Io.KnownBytes.{Consumes}
use Rattle.std.proofs.KnownBytes.{Consumes-trans}
use borrow.Rule.Slice.PartMut.{same_len_mid}
use Rattle.file_cutter.proofs.Rooms.{read_behind}
use Rattle.file_cutter.proofs.fill.fill.Goals as goal

pub loop-at-preserved : goal.loop-at-preserved
loop-at-preserved g c =
    let was = c.loop-at.invariant in
    let same = same_len_mid c.loop-at.at _ c.loop-at.room c.read.new.into c.read.auto.into in
    record {
      prefix = subst (Consumes _ _) (sym (read_behind c.loop-at.room c.read.new.into c.loop-at.at c.in_ok-n.n _ was.most c.in_ok-n.ensures.bound.0)) (Consumes-trans _ _ _ _ _ was.prefix c.in_ok-n.ensures.bytes.0);
      most = search rules;
      long = same ∙ was.long;
      later = omega (arith, was.later, c.read.ensures.cause.later);
    }
