use Rattle.std.proofs.Common.{◌∙◌, ◌++◌, ◌∷◌, [], refl, sym, arith, length-append, inl, inr}
use Rattle.pump_link.proofs.Grown.{Draws-nil, Draws-then, Grows-nil, Grows-kept}
use Rattle.peers.specs.Sending.{IsPassed}
use Rattle.peers.proofs.Awaited.{all_snoc}
use Rattle.peers.proofs.Hearing.{hears_none, just_join, over_more, hears_more}
use Rattle.peers.proofs.asking.await_reply.Goals as goal

pub frames-init : goal.frames-init
frames-init g c = record { looks = []; passed = []; heard = hears_none; over = tt; count = omega arith; gave = Draws-nil _; sent = Grows-nil _; later = omega arith }

pub returns-then-is_wanted-clause-waits : goal.returns-then-is_wanted-clause-waits
returns-then-is_wanted-clause-waits g c =
    let was = c.frames.invariant in
    let w = c.in-Frame.ensures.wait in (
      record { looks = was.looks ++ w.0; passed = was.passed },
      (
        c.in-Frame.frame,
        record { passed = was.over; is_it = sym c.is_wanted.ensures ∙ c.if-is_wanted.true; heard = just_join was.looks w.0 was.passed (c.in-Frame.frame ∷ []) was.heard w.3 },
        refl,
      ),
      omega (arith, was.count, w.2, length-append was.looks w.0),
      Draws-then _ _ _ _ _ was.gave w.1,
    )

pub returns-then-is_refusal-clause-waits : goal.returns-then-is_refusal-clause-waits
returns-then-is_refusal-clause-waits g c =
    let was = c.frames.invariant in
    let w = c.in-Frame.ensures.wait in (
      record { looks = was.looks ++ w.0; passed = was.passed },
      record {
        passed = was.over;
        frame = c.in-Frame.frame;
        refusal = sym c.is_refusal.ensures ∙ c.if-is_refusal.true;
        code_is = c.code_of.ensures;
        number_is = refl;
        heard = just_join was.looks w.0 was.passed (c.in-Frame.frame ∷ []) was.heard w.3;
      },
      omega (arith, was.count, w.2, length-append was.looks w.0),
      Draws-then _ _ _ _ _ was.gave w.1,
    )

pub frames-preserved : goal.frames-preserved
frames-preserved g c =
    let was = c.frames.invariant in
    let w = c.in-Frame.ensures.wait in
    record {
      looks = was.looks ++ w.0;
      passed = was.passed ++ c.in-Frame.frame ∷ [];
      heard = just_join was.looks w.0 was.passed (c.in-Frame.frame ∷ []) was.heard w.3;
      over = all_snoc (IsPassed c.args.session c.args.wanted) was.passed c.in-Frame.frame was.over (sym c.is_wanted.ensures ∙ c.if-is_wanted.false, sym c.is_refusal.ensures ∙ c.if-is_refusal.false);
      count = omega (arith, was.count, w.2, length-append was.looks w.0);
      gave = Draws-then _ _ _ _ _ was.gave w.1;
      sent = Grows-kept _ _ _ _ was.sent c.await_frame.ensures.sent;
      later = omega (arith, was.later, c.await_frame.ensures.later);
    }

pub returns-in-Over-clause-waits : goal.returns-in-Over-clause-waits
returns-in-Over-clause-waits g c =
    let was = c.frames.invariant in
    let w = c.in-Over.ensures.wait in (
      record { looks = was.looks ++ w.0; passed = was.passed },
      record { passed = was.over; ends = inl (over_more was.looks w.0 was.passed _ _ _ was.later was.heard w.3) },
      omega (arith, was.count, w.2, length-append was.looks w.0),
      Draws-then _ _ _ _ _ was.gave w.1,
    )

pub returns-in-Used-clause-waits : goal.returns-in-Used-clause-waits
returns-in-Used-clause-waits g c =
    let was = c.frames.invariant in
    let w = c.in-Used.ensures.wait in (
      record { looks = was.looks ++ w.0; passed = was.passed },
      record { passed = was.over; ends = inr (hears_more was.looks w.0 was.passed was.heard w.3.0, w.3.1) },
      omega (arith, was.count, w.2, length-append was.looks w.0),
      Draws-then _ _ _ _ _ was.gave w.1,
    )
