use Rattle.std.proofs.Common.{◌≡◌, take, fold, sym, subst, IfOk}
use Rattle.std.proofs.lemmas.List.{take_all}
use Rattle.std.proofs.lemmas.List.Sums.{fold_more}
use Rattle.clap.specs.Simple.{App}
use Rattle.clap.specs.Words.{app_of}
use Rattle.command_line.specs.Program.{leaf_none, with_id}
use Rattle.command_line.proofs.program.leaf.Goals as goal

pub loop-id-preserved : goal.loop-id-preserved
loop-id-preserved c =
    let so_far = fold with_id (leaf_none c.args.name.now) (take c.loop-id.id-index c.args.ids.now) in
    let more = fold_more with_id (leaf_none c.args.name.now) c.args.ids.now c.loop-id.id-index _ c.loop-id-test.true in (
      subst (λ (known : App). IfOk c.with_value-command.result (λ made. app_of made ≡ known)) (sym more) (c.with_value-command.ensures.app so_far c.loop-id.invariant.0),
      c.with_value-command.ensures.local c.loop-id.invariant.1,
    )

pub returns : goal.returns
returns c = record {
  app = rw (take_all c.loop-id.id-index c.args.ids.now c.loop-id-test.false) at c.loop-id.invariant.0;
  local = c.loop-id.invariant.1;
}
