use Rattle.std.proofs.Common.{◌∙◌, ap, arith, refl}
use Rattle.std.proofs.lemmas.List.{take_all}
use Rattle.pump_frame.specs.Readings.{Within}
use Rattle.pump_audit.proofs.EntryLaws.{ends_before, ends_with, no_frame_begins, one_whole, no_frame_ends}
use Rattle.pump_audit.proofs.reading.read_frame.Goals as goal

pub returns-then-i-bytes-clause-only : goal.returns-then-i-bytes-clause-only
returns-then-i-bytes-clause-only c f lawful e =
    let none = ends_before c.args.bytes.now c.loop-i.i (omega arith) _ _ c.loop-i.invariant.held c.feed_into.new.into c.in-Whole.ensures.answer c.if-i-bytes.true f lawful e in
    absurd (cc)

pub returns-in-Whole : goal.returns-in-Whole
returns-in-Whole c =
    let w = ends_with c.args.bytes.now c.loop-i.i (omega arith) _ _ c.loop-i.invariant.held c.feed_into.new.into c.in-Whole.ensures.answer c.if-i-bytes.false in
    record {
      found = λ is. w;
      only = λ f lawful e. (refl, one_whole c.args.bytes.now c.feed_into.new.into f w.0 w.1 lawful e);
    }

pub returns-in-Bad-clause-only : goal.returns-in-Bad-clause-only
returns-in-Bad-clause-only c f lawful e =
    let none = no_frame_begins c.args.bytes.now c.loop-i.i (omega arith) _ _ c.loop-i.invariant.held c.in-Bad.at c.in-Bad.ensures.answer f lawful e in
    absurd (cc)

pub returns-clause-only : goal.returns-clause-only
returns-clause-only c f lawful e =
    let none = no_frame_ends c.args.bytes.now c.loop-i.reader (c.loop-i.invariant.held ∙ ap Within (take_all c.loop-i.i c.args.bytes.now (omega arith))) c.loop-i.invariant.begun f lawful e in
    absurd (cc)
