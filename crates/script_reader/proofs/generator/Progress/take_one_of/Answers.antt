use Rattle.std.proofs.Common.{subst, arith}
use Rattle.script_reader.specs.declared.generator.Turn.TheVariants.{Takings}
use Rattle.script_reader.specs.Generating.{Reaches, mark_of}
use Rattle.script_reader.proofs.Takings.{taking_first}
use Rattle.script_reader.proofs.generator.Progress.take_one_of.Goals as goal

pub returns-then-left-gt1 : goal.returns-then-left-gt1
returns-then-left-gt1 c =
    let old = c.args.self.now in
    let time : Reaches (Takings c.args.left) old.count old.message (mark_of old) =
    subst (λ t. Reaches t old.count old.message (mark_of old)) c.requires.turn c.requires.time.1 in
    λ bytes. record {
      next = rw (c.done-head.ensures.line, c.done-head.ensures.after, c.requires.turn) (taking_first old.count old.message c.args.left (mark_of old) (omega (arith, time)));
      lawful = rw c.done-head.ensures.line (omega (arith, time), omega (arith, time));
      room = rw c.done-head.ensures.line tt;
      on_time = rw c.done-head.ensures.after (c.requires.time.0, (time.0, omega (arith, time), omega (arith, time), omega (arith, time)));
    }
