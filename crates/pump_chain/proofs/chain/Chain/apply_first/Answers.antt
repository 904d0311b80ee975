use Rattle.std.proofs.Common.{inl, refl, sym, ap, ◌∙◌, ◌||◌}
use Rattle.std.proofs.lemmas.Bool.{or_parts}
use Rattle.script_reader.specs.Heads.{line_with}
use Rattle.two_worlds.specs.Printing.{lines_in}
use Rattle.pump_chain.proofs.Applying.{order_is, still_both, still_prefixes, first_applies, first_prefixes, none_way, down_first}
use Rattle.pump_chain.proofs.Counting.{first_counts}
use Rattle.pump_chain.proofs.Placing.{keeps_on}
use Rattle.pump_chain.proofs.Printing.{none_printed}
use Rattle.pump_chain.proofs.Failing.{goes_later, alone_later}
use Rattle.pump_chain.proofs.chain.Chain.apply_first.Goals as goal

pub returns-then-not-is_in_order-clause-applies : goal.returns-then-not-is_in_order-clause-applies
returns-then-not-is_in_order-clause-applies g c = λ told s stands.
    let line = line_with c.args.bytes.now c.args.line.now in
    (inl (sym (order_is g.D.Disk.told c.args.self.now s line stands) ∙ sym (c.is_in_order.ensures c.args.bytes.now) ∙ c.if-not-is_in_order.true), none_printed c.args.events.now.items c.requires.none, stands, still_both g.D.Disk.told c.args.self.now s stands)

pub returns-then-not-is_in_order-clause-crashes : goal.returns-then-not-is_in_order-clause-crashes
returns-then-not-is_in_order-clause-crashes g c = λ told s stands. still_prefixes g.D.Disk.told c.args.self.now s stands

pub invariant_of-self : goal.invariant_of-self
invariant_of-self g c = record {
  keeps = keeps_on c.args.self.now.first c.apply_head-stop.new.self (or_parts _ _ c.requires.up).0 c.args.self.now.place (line_with c.args.bytes.now c.args.line.now) (lines_in c.apply_head-stop.new.events.items) c.apply_head-stop.result c.apply_head-stop.ensures.applies c.args.self.now.keeps;
}

pub returns-clause-applies : goal.returns-clause-applies
returns-clause-applies g c = λ told s stands.
    let m = g.D.Disk.told in
    let line = line_with c.args.bytes.now c.args.line.now in
    let e = c.apply_head-stop.ensures in
    let way = none_way c.args.self.now.is_under_way c.apply_head-stop.result c.either-self.result (c.either-self.ensures ∙ ap (λ b. c.args.self.now.is_under_way || b) c.is_applied-applied.ensures) in
    first_applies m c.args.self.now _ s line (lines_in c.apply_head-stop.new.events.items) stands (sym (order_is m c.args.self.now s line stands) ∙ sym (c.is_in_order.ensures c.args.bytes.now) ∙ c.if-not-is_in_order.false) e.row refl refl c.apply_head-stop.result way.0 way.1 e.serve
    (e.applies told s.first.past stands.first)

pub returns-clause-crashes : goal.returns-clause-crashes
returns-clause-crashes g c = λ told s stands.
    first_prefixes g.D.Disk.told c.args.self.now c.apply_head-stop.new.self c.args.self.now.second s (line_with c.args.bytes.now c.args.line.now) (lines_in c.apply_head-stop.new.events.items) c.apply_head-stop.result stands refl (c.apply_head-stop.ensures.applies told s.first.past stands.first)

pub returns-clause-down : goal.returns-clause-down
returns-clause-down g c = down_first _ _ _ c.apply_head-stop.result c.requires.up c.apply_head-stop.ensures.down

pub returns-clause-device : goal.returns-clause-device
returns-clause-device g c = first_counts g.D.Disk.told c.args.self.now.first c.apply_head-stop.new.self c.args.self.now.second c.args.self.now.second (line_with c.args.bytes.now c.args.line.now) (line_with c.args.bytes.now c.args.line.now) (lines_in c.apply_head-stop.new.events.items) c.apply_head-stop.result c.apply_head-stop.ensures.serve c.apply_head-stop.ensures.on

pub returns-clause-later : goal.returns-clause-later
returns-clause-later g c = (goes_later g.D.Disk.told c.args.self.now.first c.apply_head-stop.new.self c.apply_head-stop.result c.apply_head-stop.ensures.serve, alone_later g.D.Disk.told c.args.self.now.second c.args.self.now.second refl)
