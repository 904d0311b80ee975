use Rattle.std.proofs.Common.{subst, arith}
use Rattle.script_reader.specs.declared.generator.Turn.TheVariants.{Offer}
use Rattle.script_reader.specs.Generating.{Reaches, mark_of}
use Rattle.script_reader.proofs.Takings.{offer_first}
use Rattle.script_reader.proofs.generator.Progress.offer.Goals as goal

pub returns : goal.returns
returns c =
    let old = c.args.self.now in
    let time : Reaches Offer old.count old.message (mark_of old) =
    subst (λ t. Reaches t old.count old.message (mark_of old)) c.requires.turn c.requires.time.1 in
    record {
      next = rw (c.look.ensures, c.fill.ensures.value, c.from-number.ensures, c.next_draw-self-2.ensures, c.next_draw-self.ensures, c.requires.turn) (offer_first old.count old.message (mark_of old) c.requires.more);
      lawful = rw (c.look.ensures, c.from-number.ensures) (omega (arith, time), omega (arith, time));
      room = rw c.look.ensures (omega (arith, c.fill.ensures.few));
      on_time = (c.requires.time.0, (c.requires.more, time.1));
    }
