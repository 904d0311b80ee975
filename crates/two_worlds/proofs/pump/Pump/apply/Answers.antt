use Rattle.std.proofs.Common.{◌≡◌, List, sym, subst}
use Rattle.script_reader.specs.declared.event.Event.{Event}
use Rattle.script_reader.specs.declared.line.Line.{Line}
use Rattle.script_reader.specs.Heads.{line_with}
use Rattle.two_worlds.specs.Pumps.{Applies, RefusesAhead}
use Rattle.two_worlds.proofs.pump.Pump.apply.Goals as goal

pub returns-clause-applies : goal.returns-clause-applies
returns-clause-applies g c = λ told p s.
    let e : line_with c.bytes.result.now c.head.result ≡ c.args.line.now = rw c.bytes.ensures c.head.ensures.value in
    subst (λ (t : Line × List Event). Applies g.D.Disk.told c.args.self.now c.apply_head-stop.new.self t.0 p t.1 c.apply_head-stop.result)
    (λ i. (e i, sym c.events_of.ensures i)) (c.apply_head-stop.ensures.applies told p s)

pub returns-clause-ahead : goal.returns-clause-ahead
returns-clause-ahead g c =
    let e : line_with c.bytes.result.now c.head.result ≡ c.args.line.now = rw c.bytes.ensures c.head.ensures.value in
    subst (λ (t : Line × List Event). RefusesAhead c.args.self.now c.apply_head-stop.new.self t.0 t.1)
    (λ i. (e i, sym c.events_of.ensures i)) c.apply_head-stop.ensures.ahead
