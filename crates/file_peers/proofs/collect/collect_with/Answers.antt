use Rattle.std.proofs.Common.{◌∙◌, ◌≤◌, ◌++◌, arith, None, refl}
use Rattle.pump_link.proofs.Grown.{Draws-kept, Grows-after}
use Rattle.peers.proofs.Outgoing.{whole_sent}
use Rattle.file_peers.specs.Collecting.{messages}
use Rattle.file_peers.proofs.Taking.{taken_is}
use Rattle.file_peers.proofs.Turning.{so_far_none, turn_more, frame_ends, over_ends, used_ends, attach_fails}
use Rattle.file_peers.proofs.collect.collect_with.Goals as goal

pub returns-then-not-send_frame-clause-collects : goal.returns-then-not-send_frame-clause-collects
returns-then-not-send_frame-clause-collects g c = λ start has.
    let is = c.taken.ensures ∙ taken_is _ _ start _ has in
    let sent = rw (c.plain_frame.ensures, is) at c.send_frame.ensures.sent in
    attach_fails _ _ _ start _ _ _ _ _ _ _ _ _ has c.send_frame.ensures.gives sent (c.send_frame.ensures.failed c.if-not-send_frame.true)

pub frames-init : goal.frames-init
frames-init g c =
    let whole = whole_sent _ _ _ _ c.if-not-send_frame.false c.send_frame.ensures.sent in
    record {
      ready = c.requires;
      so_far = λ start has.
          let is = c.taken.ensures ∙ taken_is _ _ start _ has in
          so_far_none _ _ _ start _ _ _ _ _ _ _ has c.send_frame.ensures.gives (rw (c.plain_frame.ensures, is) at whole);
      later = c.send_frame.ensures.later;
      out_later = omega arith;
    }

pub serve_frame-requires-clause-ready : goal.serve_frame-requires-clause-ready
serve_frame-requires-clause-ready g c = c.frames.invariant.ready

pub serve_frame-requires-clause-lawful : goal.serve_frame-requires-clause-lawful
serve_frame-requires-clause-lawful g c = c.in-Frame.ensures.wait.3.stream.0.0

pub returns-in-Some-clause-collects : goal.returns-in-Some-clause-collects
returns-in-Some-clause-collects g c = λ start has.
    let was = c.frames.invariant in
    let so = was.so_far start has in
    let w = c.in-Frame.ensures.wait in
    let s = c.in-Some.ensures.step (start ++ messages so.turns) so.turned.taken in
    let low : g.C.Link.faults c.args.link.now ≤ g.C.Link.faults c.await_frame.new.link = omega (arith, was.later, c.await_frame.ensures.later) in
    frame_ends _ _ _ start _ _ _ _ _ _ _ _ _ _ _ _ _ _ _ w.0 so w.2 (Draws-kept _ _ _ _ w.1 c.serve_frame.ensures.gives) c.in-Frame.frame s.0 _ _ _ _ _ _ c.in-Some.end w.3 low was.out_later s.1
    (Grows-after _ _ _ _ c.await_frame.ensures.sent s.2) s.3

pub frames-preserved : goal.frames-preserved
frames-preserved g c =
    let was = c.frames.invariant in
    let w = c.in-Frame.ensures.wait in
    record {
      ready = c.in_default.ensures.ready refl;
      so_far = λ start has.
          let so = was.so_far start has in
          let s = c.in_default.ensures.step (start ++ messages so.turns) so.turned.taken in
          turn_more _ _ _ start _ _ _ _ _ _ _ _ _ _ _ _ _ _ _ w.0 so w.2 (Draws-kept _ _ _ _ w.1 c.serve_frame.ensures.gives) c.in-Frame.frame s.0 (record { link = 0; now_link = 0; out = 0; now_out = 0; other = 0; now_other = 0 }) w.3 s.1 (Grows-after _ _ _ _ c.await_frame.ensures.sent s.2) s.3;
      later = omega (arith, was.later, c.await_frame.ensures.later, c.serve_frame.ensures.later);
      out_later = omega (arith, was.out_later, c.serve_frame.ensures.out_later);
    }

pub returns-in-Over-clause-collects : goal.returns-in-Over-clause-collects
returns-in-Over-clause-collects g c = λ start has.
    let was = c.frames.invariant in
    let w = c.in-Over.ensures.wait in
    over_ends _ _ _ start _ _ _ _ _ _ _ _ _ _ _ None _ _ c.frames.collector w.0 (was.so_far start has) w.2 w.1 _ _ _ _ _ was.later w.3 c.await_frame.ensures.sent

pub returns-in-Used-clause-collects : goal.returns-in-Used-clause-collects
returns-in-Used-clause-collects g c = λ start has.
    let was = c.frames.invariant in
    let w = c.in-Used.ensures.wait in
    used_ends _ _ _ start _ _ _ _ _ _ _ _ _ _ _ None _ _ c.frames.collector w.0 (was.so_far start has) w.2 w.1 _ w.3.0 w.3.1 c.await_frame.ensures.sent
