use Rattle.std.proofs.Common.{arith, ◌-◌}
use Rattle.pump_frame.specs.declared.place.Place.TheVariants.{PayloadBytes}
use Rattle.pump_frame.proofs.Feeding.{short_now, stands_now, more_now, begun_now, none_by, goes_on}
use Rattle.pump_frame.proofs.reader.Reader.feed_into.Goals as goal

pub push-requires : goal.push-requires
push-requires c = (
  omega arith,
  short_now c.self.inside.bad c.self.inside.held.items c.self.inside.place
      (none_by c.self.inside.bad c.is_none.result c.is_none.ensures c.if-is_none.true) c.self.invariant,
)

pub invariant_of-self : goal.invariant_of-self
invariant_of-self c =
    stands_now c.self.inside.bad c.self.inside.held.items c.self.inside.place
    (none_by c.self.inside.bad c.is_none.result c.is_none.ensures c.if-is_none.true) c.self.invariant c.args.byte
    c.push.new.self.items (PayloadBytes (c.in-PayloadBytes.left - 1)) (omega arith)
    (goes_on c.self.inside.place c.in-PayloadBytes.left c.args.byte c.in-PayloadBytes.is (omega arith)) (λ e. cc)
    c.push.ensures.items

pub returns-in-PayloadBytes-clause-answer : goal.returns-in-PayloadBytes-clause-answer
returns-in-PayloadBytes-clause-answer c =
    more_now c.self.inside.bad c.self.inside.held.items c.self.inside.place
    (none_by c.self.inside.bad c.is_none.result c.is_none.ensures c.if-is_none.true) c.self.invariant c.args.byte
    c.push.new.self.items (PayloadBytes (c.in-PayloadBytes.left - 1)) c.args.self.now (omega arith)
    (goes_on c.self.inside.place c.in-PayloadBytes.left c.args.byte c.in-PayloadBytes.is (omega arith)) (λ e. cc)
    c.push.ensures.items c.self.view_is

pub returns-in-PayloadBytes-clause-begun : goal.returns-in-PayloadBytes-clause-begun
returns-in-PayloadBytes-clause-begun c =
    begun_now c.self.inside.bad c.self.inside.held.items c.self.inside.place
    (none_by c.self.inside.bad c.is_none.result c.is_none.ensures c.if-is_none.true) c.self.invariant c.args.byte
    c.push.new.self.items (PayloadBytes (c.in-PayloadBytes.left - 1)) (omega arith)
    (goes_on c.self.inside.place c.in-PayloadBytes.left c.args.byte c.in-PayloadBytes.is (omega arith)) (λ e. cc)
    c.push.ensures.items
