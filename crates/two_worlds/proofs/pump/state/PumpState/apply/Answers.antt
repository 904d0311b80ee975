use Rattle.std.proofs.Common.{refl}
use Rattle.script_reader.specs.Heads.{line_with}
use Rattle.two_worlds.specs.Printing.{lines_in}
use Rattle.two_worlds.proofs.Lines.Applied.{state_tried, tried_apart}
use Rattle.two_worlds.proofs.pump.state.PumpState.apply.Goals as goal

pub returns-in-Relay : goal.returns-in-Relay
returns-in-Relay g c =
    let e = c.restart.ensures in
    tried_apart g.D.Disk.told c.args.self.now c.restart.new.self (line_with c.args.bytes.now c.args.line.now) _ (lines_in c.restart.new.out.items) c.restart.result (c.in-Relay.ensures c.args.bytes.now) (λ x none. none) e.applies e.on e.serve e.row

pub returns-in-Receiver : goal.returns-in-Receiver
returns-in-Receiver g c =
    let e = c.restart_receiver.ensures in
    tried_apart g.D.Disk.told c.args.self.now c.restart_receiver.new.self (line_with c.args.bytes.now c.args.line.now) _ (lines_in c.restart_receiver.new.out.items) c.restart_receiver.result (c.in-Receiver.ensures c.args.bytes.now) (λ x none. none) e.applies e.on e.serve e.row

pub returns-in-Open : goal.returns-in-Open
returns-in-Open g c =
    state_tried g.D.Disk.told c.args.self.now _ c.in-Open.parts c.apply.new.self c.in-Open.is refl (line_with c.args.bytes.now c.args.line.now) (lines_in c.apply.new.out.items) c.apply.result c.err.result c.err.ensures.value c.apply.ensures
