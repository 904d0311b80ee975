use Rattle.std.proofs.Common.{◌∙◌, ◌≤◌, arith, None}
use Rattle.pump_link.proofs.Grown.{Draws-kept, Grows-after}
use Rattle.peers.proofs.Outgoing.{whole_sent}
use Rattle.peers.proofs.Turning.{so_far_none, turn_more, frame_ends, over_ends, used_ends, attach_fails}
use Rattle.peers.proofs.receive.receive_with.Goals as goal

pub returns-then-not-send_frame : goal.returns-then-not-send_frame
returns-then-not-send_frame g c = record {
  receives = attach_fails _ _ _ _ _ _ _ _ _ _ _ c.requires.ready c.send_frame.ensures.gives (rw (c.plain_frame.ensures, c.count.ensures) at c.send_frame.ensures.sent) (c.send_frame.ensures.failed c.if-not-send_frame.true);
  out_later = omega arith;
}

pub frames-init : goal.frames-init
frames-init g c =
    let whole = whole_sent _ _ _ _ c.if-not-send_frame.false c.send_frame.ensures.sent in
    record {
      so_far = so_far_none _ _ _ _ _ _ _ _ _ c.requires.ready c.send_frame.ensures.gives (rw (c.plain_frame.ensures, c.count.ensures) at whole);
      later = c.send_frame.ensures.later;
      out_later = omega arith;
    }

pub serve_frame-requires-clause-ready : goal.serve_frame-requires-clause-ready
serve_frame-requires-clause-ready g c = c.frames.invariant.so_far.turned.ready

pub serve_frame-requires-clause-row : goal.serve_frame-requires-clause-row
serve_frame-requires-clause-row g c = c.frames.invariant.so_far.turned.same_row ∙ c.requires.row

pub serve_frame-requires-clause-lawful : goal.serve_frame-requires-clause-lawful
serve_frame-requires-clause-lawful g c = c.in-Frame.ensures.wait.3.stream.0.0

pub returns-in-Some : goal.returns-in-Some
returns-in-Some g c =
    let was = c.frames.invariant in
    let w = c.in-Frame.ensures.wait in
    let s = c.in-Some.ensures.step in
    let low : g.C.Link.faults c.args.link.now ≤ g.C.Link.faults c.await_frame.new.link = omega (arith, was.later, c.await_frame.ensures.later) in
    record {
      receives = frame_ends _ _ _ _ _ _ _ _ _ _ _ _ _ _ _ _ _ w.0 was.so_far w.2 (Draws-kept _ _ _ _ w.1 c.serve_frame.ensures.gives) c.in-Frame.frame s.0 _ _ _ _ _ _ c.in-Some.end c.requires.ready w.3 low was.out_later s.1
          (Grows-after _ _ _ _ c.await_frame.ensures.sent s.2) s.3;
      out_later = omega (arith, was.out_later, c.serve_frame.ensures.out_later);
    }

pub frames-preserved : goal.frames-preserved
frames-preserved g c =
    let was = c.frames.invariant in
    let w = c.in-Frame.ensures.wait in
    let s = c.in_default.ensures.step in
    record {
      so_far = turn_more _ _ _ _ _ _ _ _ _ _ _ _ _ _ _ _ _ w.0 was.so_far w.2 (Draws-kept _ _ _ _ w.1 c.serve_frame.ensures.gives) c.in-Frame.frame s.0 (record { link = 0; now_link = 0; out = 0; now_out = 0; other = 0; now_other = 0 }) w.3 s.1 (Grows-after _ _ _ _ c.await_frame.ensures.sent s.2) s.3;
      later = omega (arith, was.later, c.await_frame.ensures.later, c.serve_frame.ensures.later);
      out_later = omega (arith, was.out_later, c.serve_frame.ensures.out_later);
    }

pub returns-in-Over : goal.returns-in-Over
returns-in-Over g c =
    let was = c.frames.invariant in
    let w = c.in-Over.ensures.wait in
    record { receives = over_ends _ _ _ _ _ _ _ _ _ _ _ _ _ None _ _ c.frames.receiver w.0 was.so_far w.2 w.1 _ _ _ _ _ _ _ c.requires.ready was.later w.3 c.await_frame.ensures.sent; out_later = was.out_later }

pub returns-in-Used : goal.returns-in-Used
returns-in-Used g c =
    let was = c.frames.invariant in
    let w = c.in-Used.ensures.wait in
    record { receives = used_ends _ _ _ _ _ _ _ _ _ _ _ _ _ None _ _ c.frames.receiver w.0 was.so_far w.2 w.1 _ c.requires.ready w.3.0 w.3.1 c.await_frame.ensures.sent; out_later = was.out_later }
