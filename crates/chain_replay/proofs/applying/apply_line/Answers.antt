use Rattle.std.proofs.Common.{◌++◌, List, ℕ, subst}
use Rattle.pump_chain.specs.Standing.{ChainApplies, IsCounted}
use Rattle.script_reader.specs.Heads.{line_with}
use Rattle.script_reader.specs.Transcript.{text}
use Rattle.script_replay.specs.Outputs.{held_of, Gathers}
use Rattle.pump_link.specs.Causes.{AppendsPrefix}
use Rattle.two_worlds.specs.Printing.{lines_in}
use Rattle.chain_replay.specs.Private.{outcome_by}
use Rattle.chain_replay.proofs.Turning.{line_goes, line_does, still_up, never_unwritten}
use Rattle.chain_replay.proofs.Failed.{line_failed}
use Rattle.chain_replay.proofs.applying.apply_line.Goals as goal

pub returns-in-Ok-clause-does : goal.returns-in-Ok-clause-does
returns-in-Ok-clause-does g c = λ tells s stands.
    let a = subst (λ (bytes : List ℕ). ChainApplies g.D.Disk.told c.args.chain.now c.apply_head-stop.new.self (line_with bytes c.args.line.now) s (lines_in c.apply_head-stop.new.events.items) c.apply_head-stop.result) c.as_slice.ensures.value
    (c.apply_head-stop.ensures.applies tells s stands) in
    let w = subst (λ heads. Gathers (held_of c.args.output.now) (held_of c.print_all.new.self) (g.O.Sink.written c.args.out.now) (g.O.Sink.written c.print_all.new.out) (text (lines_in heads))) c.as_slice-2.ensures.value c.in-Ok.ensures.ok in
    line_does g.D.Disk.told c.args.chain.now c.apply_head-stop.new.self c.args.first (line_with c.args.body.now c.args.line.now) s (lines_in c.apply_head-stop.new.events.items) _ _ _ _ w c.apply_head-stop.result a c.outcome_of.result (c.outcome_of.ensures.is c.args.body.now)

pub returns-in-Ok-clause-up : goal.returns-in-Ok-clause-up
returns-in-Ok-clause-up g c = still_up c.args.first (line_with c.args.body.now c.args.line.now) c.apply_head-stop.result c.outcome_of.result _ (c.outcome_of.ensures.is c.args.body.now) c.apply_head-stop.ensures.down

pub returns-in-Ok-clause-cause : goal.returns-in-Ok-clause-cause
returns-in-Ok-clause-cause g c = λ e. absurd (never_unwritten c.args.first (line_with c.args.body.now c.args.line.now) c.apply_head-stop.result c.outcome_of.result (c.outcome_of.ensures.is c.args.body.now) e)

pub returns-in-Err-clause-does : goal.returns-in-Err-clause-does
returns-in-Err-clause-does g c = λ tells s stands.
    let a = subst (λ (bytes : List ℕ). ChainApplies g.D.Disk.told c.args.chain.now c.apply_head-stop.new.self (line_with bytes c.args.line.now) s (lines_in c.apply_head-stop.new.events.items) c.apply_head-stop.result) c.as_slice.ensures.value
    (c.apply_head-stop.ensures.applies tells s stands) in
    let line = line_with c.args.body.now c.args.line.now in (
      lines_in c.apply_head-stop.new.events.items,
      outcome_by c.args.first line c.apply_head-stop.result,
      line_goes g.D.Disk.told c.args.chain.now c.apply_head-stop.new.self c.args.first line s (lines_in c.apply_head-stop.new.events.items) c.apply_head-stop.result a,
      subst (λ heads. AppendsPrefix (g.O.Sink.written c.args.out.now) (g.O.Sink.written c.print_all.new.out) (held_of c.args.output.now ++ text (lines_in heads))) c.as_slice-2.ensures.value c.in-Err.ensures.err,
    )

pub returns-in-Ok-clause-device : goal.returns-in-Ok-clause-device
returns-in-Ok-clause-device g c =
    let m = g.D.Disk.told in
    let t = c.apply_head-stop.new.self in
    let stop = c.apply_head-stop.result in
    let counts = subst (λ (bytes : List ℕ). IsCounted m c.args.chain.now t (line_with bytes c.args.line.now) stop) c.as_slice.ensures.value c.apply_head-stop.ensures.device in
    line_failed m c.args.chain.now t c.args.first (line_with c.args.body.now c.args.line.now) stop c.outcome_of.result (c.outcome_of.ensures.is c.args.body.now) counts
