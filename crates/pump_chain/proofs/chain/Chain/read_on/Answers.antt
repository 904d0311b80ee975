use Rattle.std.proofs.Common.{refl}
use Rattle.pump_chain.proofs.Placing.{kept_place, keeps_either, keeps_next}
use Rattle.pump_chain.proofs.chain.Chain.read_on.Goals as goal

pub received-requires-clause-place : goal.received-requires-clause-place
received-requires-clause-place g c = λ told p stands. (kept_place c.args.self.now.first c.args.self.now.place c.args.self.now.keeps told p stands).at

pub invariant_of-self : goal.invariant_of-self
invariant_of-self g c = record {
  keeps = keeps_either c.args.self.now.first c.received.new.self c.requires.up c.args.self.now.place c.received.result c.received.ensures.reads c.received.ensures.fails c.args.self.now.keeps;
}

pub invariant_of-self-2 : goal.invariant_of-self-2
invariant_of-self-2 g c =
    let e = c.in_ok-at.ensures in
    record { keeps = ∣ keeps_next c.args.self.now.first c.received.new.self c.requires.up c.args.self.now.place (record { number = _; at = c.in_ok-at.at }) refl c.requires.some e.reads e.next ∣₁ }
