use Rattle.std.proofs.Common.{arith, ◌≡◌, Some, sym, ◌∙◌}
use Rattle.std.proofs.lemmas.Bool.{false≢true}
use Rattle.pump_frame.specs.Places.{step}
use Rattle.pump_frame.specs.declared.place.Place.TheVariants.{End}
use Rattle.pump_frame.proofs.Feeding.{live_now, short_now, whole_now, bad_now, stands_now, more_now, begun_now, nothing_held}
use Rattle.pump_frame.proofs.reader.Reader.feed_any.Goals as goal

pub after-requires : goal.after-requires
after-requires c = live_now c.self.inside.bad c.self.inside.held.items c.self.inside.place c.in_default.is c.self.invariant

pub push-requires : goal.push-requires
push-requires c = (omega arith, short_now c.self.inside.bad c.self.inside.held.items c.self.inside.place c.in_default.is c.self.invariant)

pub decode-requires : goal.decode-requires
decode-requires c =
    let place : c.in-Some-after.place ≡ End = c.is_end.ensures.0 c.if-not-is_end.false in
    let ended : step c.self.inside.place c.args.byte ≡ Some End = rw (← place) (sym c.after.ensures ∙ c.in-Some-after.is) in
    whole_now c.self.inside.bad c.self.inside.held.items c.self.inside.place c.in_default.is c.self.invariant c.args.byte c.as_slice.result.now (omega arith) ended (c.as_slice.ensures.value ∙ c.push.ensures.items)

pub invariant_of-self-then-not-is_end : goal.invariant_of-self-then-not-is_end
invariant_of-self-then-not-is_end c =
    stands_now c.self.inside.bad c.self.inside.held.items c.self.inside.place c.in_default.is c.self.invariant c.args.byte c.push.new.self.items c.in-Some-after.place (omega arith)
    (sym c.after.ensures ∙ c.in-Some-after.is) (λ e. false≢true (sym c.if-not-is_end.true ∙ c.is_end.ensures.1 e)) c.push.ensures.items

pub returns-in_default-after-clause-answer : goal.returns-in_default-after-clause-answer
returns-in_default-after-clause-answer c =
    bad_now c.self.inside.bad c.self.inside.held.items c.self.inside.place c.in_default.is c.self.invariant c.args.byte c.len-at.result c.args.self.now c.self.view_is
    (sym c.after.ensures ∙ c.in_default-after.is) c.len-at.ensures.value

pub returns-then-not-is_end-clause-answer : goal.returns-then-not-is_end-clause-answer
returns-then-not-is_end-clause-answer c =
    more_now c.self.inside.bad c.self.inside.held.items c.self.inside.place c.in_default.is c.self.invariant c.args.byte c.push.new.self.items c.in-Some-after.place c.args.self.now (omega arith)
    (sym c.after.ensures ∙ c.in-Some-after.is) (λ e. false≢true (sym c.if-not-is_end.true ∙ c.is_end.ensures.1 e)) c.push.ensures.items c.self.view_is

pub returns-then-not-is_end-clause-begun : goal.returns-then-not-is_end-clause-begun
returns-then-not-is_end-clause-begun c =
    begun_now c.self.inside.bad c.self.inside.held.items c.self.inside.place c.in_default.is c.self.invariant c.args.byte c.push.new.self.items c.in-Some-after.place (omega arith)
    (sym c.after.ensures ∙ c.in-Some-after.is) (λ e. false≢true (sym c.if-not-is_end.true ∙ c.is_end.ensures.1 e)) c.push.ensures.items

pub returns-clause-begun : goal.returns-clause-begun
returns-clause-begun c = nothing_held c.self.inside.bad c.clear.new.self.items c.in_default.is c.clear.ensures
