use Rattle.std.proofs.Common.{[], refl, inl, arith}
use Rattle.peers.proofs.asking.ask.Goals as goal

pub returns-then-not-send_frame-clause-asks : goal.returns-then-not-send_frame-clause-asks
returns-then-not-send_frame-clause-asks g c =
    let s = c.send_frame.ensures.sent in (
      record { looks = []; passed = [] },
      s.0,
      inl (refl, s.1, c.send_frame.ensures.failed c.if-not-send_frame.true),
      omega arith,
      c.send_frame.ensures.gives,
      s.3,
    )
