use Rattle.std.proofs.Common.{◌≡◌, ◌+◌, ◌-◌, ◌<◌, ◌∷◌, ◌++◌, [], take, drop, Some, vec_len, vec_capacity, arith, ap, ◌∙◌, sym}
use Rattle.pump_link.specs.Ports.{with_back}
use Rattle.pump_link.proofs.PortsSteps.{insert_prefix, insert_rest, kept_one, same_fields}
use Rattle.pump_link.proofs.mem_ports.MemPorts.keep.Goals as goal

pub returns : goal.returns
returns c =
    let view = c.self.view_is in
    let b = c.self.inside.backs in
    let old = c.args.self.now.kept in
    let items = rw c.unwrap.ensures at c.insert.ensures.items in
    let len = rw c.unwrap.ensures at c.insert.ensures.len in
    let places = ap (λ p. p.kept.places) view in
    let free : vec_len c.self.inside.links < vec_capacity c.self.inside.links = omega (arith, c.if-len-capacity.false, c.len.ensures, c.capacity.ensures) in
    let block = c.insert.ensures.in_place free in
    let some : 0 < old.places = omega (arith, places, free) in
    let links = ap (take (b + 1)) items ∙ insert_prefix b c.self.inside.links.items c.args.link c.self.invariant ∙ ap (λ p. p.kept.links ++ c.args.link ∷ []) view in
    let left : vec_capacity c.insert.new.self - vec_len c.insert.new.self ≡ old.places - 1 = omega (arith, places, len, block.1.0) in
    same_fields _ (with_back c.args.self.now (Some c.args.link))
    (ap (drop (b + 1)) items ∙ insert_rest b c.self.inside.links.items c.args.link c.self.invariant ∙ ap (λ p. p.coming) view)
    ((λ i. record { links = links i; places = left i }) ∙ sym (kept_one old c.args.link some))
    (ap (λ p. p.connected) view)
    (ap (λ p. p.calls) view)
    (ap (λ p. p.fails) view)
    (ap (λ p. p.faults) view)
