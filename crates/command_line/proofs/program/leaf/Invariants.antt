use Rattle.std.proofs.Common.{◌≡◌, take, false, fold, IfOk}
use Rattle.clap.specs.Words.{app_of}
use Rattle.clap.specs.declared.builder.command.Command.TheViews.{out-Command}
use Rattle.command_line.specs.Program.{leaf_none, with_id}
use Rattle.command_line.proofs.program.leaf.Given as goal

abbrev pub invariant-loop-id : goal.invariant-loop-id
invariant-loop-id l = IfOk l.command (λ c. app_of c ≡ fold with_id (leaf_none l.name) (take l.id-index l.ids)) × IfOk l.command (λ c. (out-Command c).has_globals ≡ false)
