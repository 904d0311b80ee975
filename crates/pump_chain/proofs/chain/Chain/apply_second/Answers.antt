use Rattle.std.proofs.Common.{inl, refl, sym, ap, ◌∙◌, ◌||◌}
use Rattle.script_reader.specs.Heads.{line_with}
use Rattle.two_worlds.specs.Printing.{lines_in}
use Rattle.pump_chain.proofs.Applying.{order_is, still_both, still_prefixes, second_applies, second_prefixes, none_way, sent_way}
use Rattle.pump_chain.proofs.Counting.{second_counts}
use Rattle.pump_chain.proofs.Crashing.{left_alone}
use Rattle.pump_chain.proofs.Linking.{other_adds}
use Rattle.pump_chain.proofs.Printing.{none_printed}
use Rattle.pump_chain.proofs.Failing.{goes_later, alone_later}
use Rattle.pump_chain.proofs.chain.Chain.apply_second.Goals as goal

pub returns-then-not-is_in_order-clause-applies : goal.returns-then-not-is_in_order-clause-applies
returns-then-not-is_in_order-clause-applies g c = λ told s stands.
    let line = line_with c.args.bytes.now c.args.line.now in
    (inl (sym (order_is g.D.Disk.told c.args.self.now s line stands) ∙ sym (c.is_in_order.ensures c.args.bytes.now) ∙ c.if-not-is_in_order.true), none_printed c.args.events.now.items c.requires.none, stands, still_both g.D.Disk.told c.args.self.now s stands)

pub returns-then-not-is_in_order-clause-crashes : goal.returns-then-not-is_in_order-clause-crashes
returns-then-not-is_in_order-clause-crashes g c = λ told s stands. still_prefixes g.D.Disk.told c.args.self.now s stands

pub returns-clause-applies : goal.returns-clause-applies
returns-clause-applies g c = λ told s stands.
    let m = g.D.Disk.told in
    let was = c.args.self.now in
    let line = line_with c.args.bytes.now c.args.line.now in
    let printed = lines_in c.apply_head-stop.new.events.items in
    let e = c.apply_head-stop.ensures in
    let way = none_way was.is_under_way c.apply_head-stop.result c.either-self.result (c.either-self.ensures ∙ ap (λ b. was.is_under_way || b) c.is_applied-applied.ensures) in
    let sent = sent_way was.sender s.sender line printed c.apply_head-stop.result c.is_applied-applied.result c.went_on.new.self stands.sender c.is_applied-applied.ensures (c.went_on.ensures c.args.bytes.now printed c.requires.look) in
    second_applies m was was _ s line printed stands e.row refl (other_adds s.first.past.world.received line c.requires.look) refl (left_alone m was.first was.first s.first.past stands.first refl) c.apply_head-stop.result (sym (order_is m was s line stands) ∙ sym (c.is_in_order.ensures c.args.bytes.now) ∙ c.if-not-is_in_order.false)
    (λ none. (way.0 none, sent.0 none)) (λ refused. (way.1 refused, sent.1 refused)) e.serve
    (e.applies told s.second.past stands.second)

pub returns-clause-crashes : goal.returns-clause-crashes
returns-clause-crashes g c = λ told s stands.
    let m = g.D.Disk.told in
    let was = c.args.self.now in
    let line = line_with c.args.bytes.now c.args.line.now in
    second_prefixes m was was was.first c.apply_head-stop.new.self s line (lines_in c.apply_head-stop.new.events.items) c.apply_head-stop.result stands stands (left_alone m was.first was.first s.first.past stands.first refl) refl c.apply_head-stop.ensures.row refl
    (other_adds s.first.past.world.received line c.requires.look) (c.apply_head-stop.ensures.applies told s.second.past stands.second)

pub returns-clause-device : goal.returns-clause-device
returns-clause-device g c = second_counts g.D.Disk.told c.args.self.now.first c.args.self.now.first c.args.self.now.second c.apply_head-stop.new.self (line_with c.args.bytes.now c.args.line.now) (line_with c.args.bytes.now c.args.line.now) (lines_in c.apply_head-stop.new.events.items) c.apply_head-stop.result c.apply_head-stop.ensures.serve c.apply_head-stop.ensures.on

pub returns-clause-later : goal.returns-clause-later
returns-clause-later g c = (alone_later g.D.Disk.told c.args.self.now.first c.args.self.now.first refl, goes_later g.D.Disk.told c.args.self.now.second c.apply_head-stop.new.self c.apply_head-stop.result c.apply_head-stop.ensures.serve)
