use Rattle.std.proofs.Common.{List, ℕ, ◌++◌, refl, [], arith, subst, sym}
use Rattle.script_reader.specs.Heads.{line_with}
use Rattle.script_reader.specs.Lines.{to_come}
use Rattle.script_reader.specs.Transcript.{text}
use Rattle.script_reader.proofs.LineLaws.{lawful_line}
use Rattle.script_replay.specs.Outputs.{held_of, Gathers}
use Rattle.script_replay.proofs.Gathered.{text-more, gathers_none, gathers_then}
use Rattle.script_replay.proofs.SoFar.{within_failed, closed, shown, near_now}
use Rattle.script_replay.proofs.Stops.{closed_not, line_fault}
use Rattle.chain_replay.specs.Scripts.{BothPumps}
use Rattle.chain_replay.proofs.Ending.{of_leads, or_fails, halts, ends, stops_by, refuses_by, unwritten_by, unshown, closed_memory}
use Rattle.chain_replay.proofs.Reading.{read_more, so_far_kept, halted_bad}
use Rattle.chain_replay.proofs.Failed.{none_failed, no_less, failed_since, closed_device, device_end}
use Rattle.chain_replay.proofs.running.run.Goals as goal

pub turns-init : goal.turns-init
turns-init g c = (λ tells o all one two s is stands are h. (s, [], h, stands, are, subst (λ (l : List ℕ). Gathers [] l (g.O.Sink.written c.args.out.now) (g.O.Sink.written c.args.out.now) []) (sym c.new-output.ensures) (gathers_none [] _)), c.requires.up, c.requires.few, omega arith, omega arith, none_failed g.D.Disk.told c.args.chain.now, c.requires.held)

pub apply_line-requires-clause-lawful : goal.apply_line-requires-clause-lawful
apply_line-requires-clause-lawful g c = let n = c.in-Line.ensures.next in lawful_line (line_with c.next_head.new.body c.in-Line.line) n.0 n.2

pub turns-preserved : goal.turns-preserved
turns-preserved g c =
    let i = c.turns.invariant in
    let n = c.in-Line.ensures.next in
    let line = line_with c.next_head.new.body c.in-Line.line in
    let few = c.in-Line.ensures.few (λ e. cc) (λ e. cc) in (
      λ tells o all one two s is stands are h.
          let t = i.0 tells o all one two s is stands are h in
          let w = shown (held_of c.turns.output) (held_of c.show.new.self) _ _ _ (text t.1) t.5 c.in-Ok.ensures.ok in
          let m = c.in-Applied.ensures.does tells t.0 t.3 in (
            m.1.0,
            t.1 ++ m.0,
            read_more o all c.turns.lines c.next_head.new.self _ _ (BothPumps one two t.0) t.1 t.2 line n few (BothPumps one two m.1.0) m.0 (m.1.0, m.1.1, refl),
            m.1.2,
            of_leads one two t.0 t.4 line m.1.0 m.0 m.1.1,
            rw (text-more t.1 m.0) (gathers_then [] _ _ _ _ _ (text t.1) (text m.0) w m.2),
          ),
      c.in-Applied.ensures.up refl,
      few,
      omega (arith, c.next_head.ensures.later, i.3),
      omega (arith, c.show.ensures.cause.later, c.apply_line.ensures.later, i.4),
      no_less g.D.Disk.told c.args.chain.now c.turns.chain c.apply_line.new.chain i.5 c.apply_line.ensures.counts,
      omega (arith, n.5),
    )

pub returns-in-Refused-clause-ends : goal.returns-in-Refused-clause-ends
returns-in-Refused-clause-ends g c = λ tells o all one two s is stands are h.
    let n = c.in-Line.ensures.next in
    let line = line_with c.next_head.new.body c.in-Line.line in
    let t = c.turns.invariant.0 tells o all one two s is stands are h in
    let w = shown (held_of c.turns.output) (held_of c.show.new.self) _ _ _ (text t.1) t.5 c.in-Ok.ensures.ok in
    let m = c.in-Refused.ensures.does tells t.0 t.3 in
    refuses_by g.D.Disk.told c.args.chain.now c.apply_line.new.chain o all (g.I.Source.left c.next_head.new.script) (g.O.Sink.written c.args.out.now) (g.I.Source.faults c.args.script.now) (g.I.Source.faults c.next_head.new.script) one two c.args.first is
    t.0 t.1 c.turns.lines c.next_head.new.self (g.I.Source.left c.turns.script) t.2 line n (c.in-Line.ensures.few (λ e. cc) (λ e. cc))
    (held_of c.show.new.self) (held_of c.apply_line.new.output) (g.O.Sink.written c.show.new.out) (g.O.Sink.written c.apply_line.new.out) (g.O.Sink.written c.refuse.new.out) w t.4 c.turns.chain c.turns.invariant.5
    m.0 c.number.result c.refuse.result _ _ m.1.0 m.1.1 m.1.2 m.2 c.number.ensures c.refuse.ensures

pub returns-in-Stopped-clause-ends : goal.returns-in-Stopped-clause-ends
returns-in-Stopped-clause-ends g c = λ tells o all one two s is stands are h.
    let n = c.in-Line.ensures.next in
    let line = line_with c.next_head.new.body c.in-Line.line in
    let t = c.turns.invariant.0 tells o all one two s is stands are h in
    let w = shown (held_of c.turns.output) (held_of c.show.new.self) _ _ _ (text t.1) t.5 c.in-Ok.ensures.ok in
    let m = c.in-Stopped.ensures.does tells t.0 t.3 in
    stops_by g.D.Disk.told c.args.chain.now c.apply_line.new.chain o all (g.I.Source.left c.next_head.new.script) (g.O.Sink.written c.args.out.now) (g.I.Source.faults c.args.script.now) (g.I.Source.faults c.next_head.new.script) one two c.args.first is
    t.0 t.1 c.turns.lines c.next_head.new.self (g.I.Source.left c.turns.script) t.2 line n (c.in-Line.ensures.few (λ e. cc) (λ e. cc))
    (held_of c.show.new.self) (held_of c.apply_line.new.output) (g.O.Sink.written c.show.new.out) (g.O.Sink.written c.apply_line.new.out) (g.O.Sink.written c.stop_behind.new.out) w t.4 c.turns.chain c.turns.invariant.5
    m.1.0 m.0 c.in-Stopped.fault c.stop_behind.result _ _ m.1.1 m.1.2 m.1.3 m.2 c.stop_behind.ensures

pub returns-in-Unwritten-clause-ends : goal.returns-in-Unwritten-clause-ends
returns-in-Unwritten-clause-ends g c = λ tells o all one two s is stands are h.
    let n = c.in-Line.ensures.next in
    let line = line_with c.next_head.new.body c.in-Line.line in
    let t = c.turns.invariant.0 tells o all one two s is stands are h in
    let w = shown (held_of c.turns.output) (held_of c.show.new.self) _ _ _ (text t.1) t.5 c.in-Ok.ensures.ok in
    let m = c.in-Unwritten.ensures.does tells t.0 t.3 in
    unwritten_by g.D.Disk.told c.args.chain.now c.apply_line.new.chain o all (g.I.Source.left c.next_head.new.script) (g.O.Sink.written c.args.out.now) (g.I.Source.faults c.args.script.now) (g.I.Source.faults c.next_head.new.script) one two c.args.first is
    t.0 t.1 c.turns.lines c.next_head.new.self (g.I.Source.left c.turns.script) t.2 line n (c.in-Line.ensures.few (λ e. cc) (λ e. cc))
    (held_of c.show.new.self) (held_of c.apply_line.new.output) (g.O.Sink.written c.show.new.out) (g.O.Sink.written c.apply_line.new.out) (g.O.Sink.written c.apply_line.new.out) w t.4 c.turns.chain c.turns.invariant.5
    m.0 m.1 m.2 m.3

pub returns-in-Bad-clause-ends : goal.returns-in-Bad-clause-ends
returns-in-Bad-clause-ends g c = λ tells o all one two s is stands are h.
    let n = c.in-Bad.ensures.next in
    let t = c.turns.invariant.0 tells o all one two s is stands are h in
    let w = shown (held_of c.turns.output) (held_of c.show.new.self) _ _ _ (text t.1) t.5 c.in-Ok.ensures.ok in
    let was = g.I.Source.faults c.args.script.now in
    let now = g.I.Source.faults c.next_head.new.script in
    halts g.D.Disk.told c.args.chain.now c.turns.chain o all (g.I.Source.left c.next_head.new.script) (g.O.Sink.written c.args.out.now) was now one two c.args.first is
    t.0 t.1 (to_come c.turns.lines (g.I.Source.left c.turns.script)) c.turns.lines.number t.2
    (held_of c.show.new.self) (g.O.Sink.written c.show.new.out) (g.O.Sink.written c.refuse-in-Bad.new.out) w c.refuse-in-Bad.result _ _ _ (or_fails g.D.Disk.told c.turns.chain t.0 t.3) t.4
    (halted_bad o all c.turns.lines c.next_head.new.self _ _ (BothPumps one two t.0) t.1 t.2 n c.number-in-Bad.result was now c.number-in-Bad.ensures) c.refuse-in-Bad.ensures

pub returns-in-Failed-clause-ends : goal.returns-in-Failed-clause-ends
returns-in-Failed-clause-ends g c = λ tells o all one two s is stands are h.
    let n = c.in-Failed.ensures.next in
    let t = c.turns.invariant.0 tells o all one two s is stands are h in
    let w = shown (held_of c.turns.output) (held_of c.show.new.self) _ _ _ (text t.1) t.5 c.in-Ok.ensures.ok in
    let was = g.I.Source.faults c.args.script.now in
    let now = g.I.Source.faults c.next_head.new.script in
    let rest = to_come c.next_head.new.self (g.I.Source.left c.next_head.new.script) in
    halts g.D.Disk.told c.args.chain.now c.turns.chain o all (g.I.Source.left c.next_head.new.script) (g.O.Sink.written c.args.out.now) was now one two c.args.first is
    t.0 t.1 rest c.turns.lines.number (t.2.0, so_far_kept o all _ rest t.2.0 (BothPumps one two t.0) t.1 t.2.1 n.0, t.2.2)
    (held_of c.show.new.self) (g.O.Sink.written c.show.new.out) (g.O.Sink.written c.stop_behind-in-Failed.new.out) w c.stop_behind-in-Failed.result _ _ _ (or_fails g.D.Disk.told c.turns.chain t.0 t.3) t.4
    (omega (arith, c.in-Failed.ensures.failed refl, c.turns.invariant.3), within_failed c.turns.lines c.next_head.new.self _ _ n) c.stop_behind-in-Failed.ensures

pub returns-in-End-clause-ends : goal.returns-in-End-clause-ends
returns-in-End-clause-ends g c = λ tells o all one two s is stands are h.
    let n = c.in-End.ensures.next in
    let t = c.turns.invariant.0 tells o all one two s is stands are h in
    let w = shown (held_of c.turns.output) (held_of c.show.new.self) _ _ _ (text t.1) t.5 c.in-Ok.ensures.ok in
    ends g.D.Disk.told c.args.chain.now c.turns.chain o all (g.I.Source.left c.next_head.new.script) (g.O.Sink.written c.args.out.now) (g.I.Source.faults c.args.script.now) (g.I.Source.faults c.next_head.new.script) one two c.args.first is
    t.0 t.1 (to_come c.turns.lines (g.I.Source.left c.turns.script)) c.turns.lines.number t.2
    (held_of c.show.new.self) (g.O.Sink.written c.show.new.out) (g.O.Sink.written c.finish.new.out) w c.finish.result _ _ (or_fails g.D.Disk.told c.turns.chain t.0 t.3) t.4 n.1 (c.finish.ensures.closes t.0 t.3)

pub returns-in-Refused-clause-memory : goal.returns-in-Refused-clause-memory
returns-in-Refused-clause-memory g c = closed_memory _ _ _ _ _ _ c.refuse.result c.refuse.ensures

pub returns-in-Refused-clause-words : goal.returns-in-Refused-clause-words
returns-in-Refused-clause-words g c = closed_not _ _ _ _ _ _ _ c.refuse.result c.refuse.ensures (λ e. cc)

pub returns-in-Refused-clause-read : goal.returns-in-Refused-clause-read
returns-in-Refused-clause-read g c = λ e. absurd (closed_not _ _ _ _ _ _ _ c.refuse.result c.refuse.ensures (λ e. cc) e)

pub returns-in-Refused-clause-write : goal.returns-in-Refused-clause-write
returns-in-Refused-clause-write g c = closed _ _ _ _ _ _ _ _ (omega (arith, c.turns.invariant.4, c.show.ensures.cause.later, c.apply_line.ensures.later)) (λ e. cc) c.refuse.ensures

pub returns-in-Stopped-clause-memory : goal.returns-in-Stopped-clause-memory
returns-in-Stopped-clause-memory g c = closed_memory _ _ _ _ _ _ c.stop_behind.result c.stop_behind.ensures

pub returns-in-Stopped-clause-words : goal.returns-in-Stopped-clause-words
returns-in-Stopped-clause-words g c = closed_not _ _ _ _ _ _ _ c.stop_behind.result c.stop_behind.ensures (line_fault c.in-Stopped.fault _ c.in-Stopped.ensures.line (λ h. h))

pub returns-in-Stopped-clause-read : goal.returns-in-Stopped-clause-read
returns-in-Stopped-clause-read g c = λ e. absurd (closed_not _ _ _ _ _ _ _ c.stop_behind.result c.stop_behind.ensures (line_fault c.in-Stopped.fault _ c.in-Stopped.ensures.line (λ h. h)) e)

pub returns-in-Stopped-clause-write : goal.returns-in-Stopped-clause-write
returns-in-Stopped-clause-write g c = closed _ _ _ _ _ _ _ _ (omega (arith, c.turns.invariant.4, c.show.ensures.cause.later, c.apply_line.ensures.later)) (λ e. cc) c.stop_behind.ensures

pub returns-in-Bad-clause-memory : goal.returns-in-Bad-clause-memory
returns-in-Bad-clause-memory g c = closed_memory _ _ _ _ _ _ c.refuse-in-Bad.result c.refuse-in-Bad.ensures

pub returns-in-Bad-clause-words : goal.returns-in-Bad-clause-words
returns-in-Bad-clause-words g c = closed_not _ _ _ _ _ _ _ c.refuse-in-Bad.result c.refuse-in-Bad.ensures (λ e. cc)

pub returns-in-Bad-clause-read : goal.returns-in-Bad-clause-read
returns-in-Bad-clause-read g c = λ e. absurd (closed_not _ _ _ _ _ _ _ c.refuse-in-Bad.result c.refuse-in-Bad.ensures (λ e. cc) e)

pub returns-in-Bad-clause-write : goal.returns-in-Bad-clause-write
returns-in-Bad-clause-write g c = closed _ _ _ _ _ _ _ _ (omega (arith, c.turns.invariant.4, c.show.ensures.cause.later)) (λ e. cc) c.refuse-in-Bad.ensures

pub returns-in-Failed-clause-memory : goal.returns-in-Failed-clause-memory
returns-in-Failed-clause-memory g c = closed_memory _ _ _ _ _ _ c.stop_behind-in-Failed.result c.stop_behind-in-Failed.ensures

pub returns-in-Failed-clause-words : goal.returns-in-Failed-clause-words
returns-in-Failed-clause-words g c = closed_not _ _ _ _ _ _ _ c.stop_behind-in-Failed.result c.stop_behind-in-Failed.ensures (λ e. cc)

pub returns-in-Failed-clause-read : goal.returns-in-Failed-clause-read
returns-in-Failed-clause-read g c = λ e. omega (arith, c.in-Failed.ensures.failed refl, c.turns.invariant.3)

pub returns-in-Failed-clause-write : goal.returns-in-Failed-clause-write
returns-in-Failed-clause-write g c = closed _ _ _ _ _ _ _ _ (omega (arith, c.turns.invariant.4, c.show.ensures.cause.later)) (λ e. cc) c.stop_behind-in-Failed.ensures

pub returns-in-End-clause-write : goal.returns-in-End-clause-write
returns-in-End-clause-write g c = λ e. omega (arith, c.turns.invariant.4, c.show.ensures.cause.later, c.finish.ensures.cause e)

pub returns-in-Refused-clause-device : goal.returns-in-Refused-clause-device
returns-in-Refused-clause-device g c = λ h. absurd (closed_device _ _ _ _ _ _ c.refuse.result c.refuse.ensures h)

pub returns-in-Stopped-clause-device : goal.returns-in-Stopped-clause-device
returns-in-Stopped-clause-device g c = λ h.
    failed_since g.D.Disk.told c.args.chain.now c.turns.chain c.apply_line.new.chain c.turns.invariant.5 (c.in-Stopped.ensures.device c.in-Stopped.fault refl (closed_device _ _ _ _ _ _ c.stop_behind.result c.stop_behind.ensures h))

pub returns-in-Bad-clause-device : goal.returns-in-Bad-clause-device
returns-in-Bad-clause-device g c = λ h. absurd (closed_device _ _ _ _ _ _ c.refuse-in-Bad.result c.refuse-in-Bad.ensures h)

pub returns-in-Failed-clause-device : goal.returns-in-Failed-clause-device
returns-in-Failed-clause-device g c = λ h. absurd (closed_device _ _ _ _ _ _ c.stop_behind-in-Failed.result c.stop_behind-in-Failed.ensures h)

pub returns-in-End-clause-device : goal.returns-in-End-clause-device
returns-in-End-clause-device g c = λ h. let e = device_end c.finish.result h in absurd (c.finish.ensures.stops e.0 e.1)

pub returns-in-Err-clause-ends : goal.returns-in-Err-clause-ends
returns-in-Err-clause-ends g c = λ tells o all one two s is stands are h.
    let t = c.turns.invariant.0 tells o all one two s is stands are h in
    unshown g.D.Disk.told c.args.chain.now c.turns.chain o all (g.I.Source.left c.turns.script) (g.O.Sink.written c.args.out.now) (g.I.Source.faults c.args.script.now) (g.I.Source.faults c.turns.script) one two c.args.first is
    t.0 t.1 (to_come c.turns.lines (g.I.Source.left c.turns.script)) c.turns.lines.number t.2
    (held_of c.turns.output) (g.O.Sink.written c.turns.out) (g.O.Sink.written c.show.new.out) t.5 (or_fails g.D.Disk.told c.turns.chain t.0 t.3) t.4 (near_now c.turns.lines _ c.turns.invariant.6) c.in-Err.ensures.err
