use Rattle.std.proofs.Common.{◌≡◌, ◌+◌, ◌-◌, sym, subst, arith}
use Rattle.pump_link.specs.Doors.{answered}
use Rattle.pump_link.proofs.Grown.{Draws-kept, Draws-then, Grows-then}
use Rattle.relay_threads.specs.declared.high_served.HighWhy.TheVariants.{Stopped}
use Rattle.relay_threads.specs.HighStays.{Alone, With, Visit, EndsStay}
use Rattle.relay_threads.proofs.HighEnding.{takes_nothing}
use Rattle.relay_threads.proofs.HighStaying.{nobody, alone_so, alone_ends, with_so, with_ends, failed_link}
use Rattle.relay_threads.proofs.high_worker.HighWorker.stay.Goals as goal

pub returns-in-Came-clause-stay : goal.returns-in-Came-clause-stay
returns-in-Came-clause-stay g c =
    let s = c.serve-served.ensures.served in
    let w = c.serve-served.result.why in
    let looks = c.serve-served.result.looks in
    let m = c.moment.result in
    let v : Visit g.row.P-Link.Denot = record { came = c.in-Came.link; back = c.serve-served.new.link; rounds = s.0 } in
    let left = c.args.most - 1 in
    let rest : c.args.most ≡ 1 + left = omega (arith, c.requires.some) in
    let open_gate : w ≡ Stopped → ⊥ = λ e. omega (arith, c.serve-served.ensures.caused.stopped e) in (
      With m v,
      with_so c.args.self.now.process.now c.serve-served.new.self.process.now m v s.1,
      subst (λ e. EndsStay (With m v) c.args.most (record { end = e; looks = 1 + looks })) (sym c.end_by.ensures)
          (with_ends m v c.args.most left looks s.2.0 rest w open_gate s.2.1),
      Grows-then _ _ _ _ _ c.in-Came.ensures.did c.back.ensures.did,
      Draws-kept _ _ _ _ c.in-Came.ensures.gives c.back.ensures.gives,
      (s.3, s.4, failed_link m v c.args.most left looks s.2.0 rest w _ _ open_gate s.2.1 c.serve-served.ensures.caused.link),
      Draws-then _ _ _ _ _ c.moment.ensures.reads s.5,
      s.7,
    )

pub returns-in-NotYet-clause-stay : goal.returns-in-NotYet-clause-stay
returns-in-NotYet-clause-stay g c = (
  Alone c.moment.result (answered c.accept.result),
  alone_so c.args.self.now.process.now c.moment.result (answered c.accept.result) (nobody c.accept.result c.in-NotYet.is),
  alone_ends c.moment.result c.args.most (answered c.accept.result) c.requires.some,
  c.accept.ensures.did,
  c.accept.ensures.gives,
  tt,
  c.moment.ensures.reads,
  takes_nothing g.H.HighSide.stands c.args.self.now.ends.now c.args.self.now.process.now,
)
