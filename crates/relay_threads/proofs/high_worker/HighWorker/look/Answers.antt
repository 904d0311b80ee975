use Rattle.std.proofs.Common.{rules, [], refl, ap, le_refl, le_trans, arith, true}
use Rattle.high_process.specs.Tasks.{frame_of}
use Rattle.high_process.specs.Ends.{StandsFitting}
use Rattle.high_process.proofs.Fitting.{looked_some}
use Rattle.pump_link.proofs.Grown.{Draws-nil, Grows-nil}
use Rattle.relay_threads.proofs.HighEnding.{look_takes, fault_takes}
use Rattle.relay_threads.proofs.HighTurning.{look_ok, look_err, made_ok, made_err, same_err, ready_again, look_counts, err_counts, err_up, err_order, err_link, calm_counts}
use Rattle.high_process.specs.States.{task_at, attaches_at}
use Rattle.relay_threads.proofs.high_worker.HighWorker.look.Goals as goal

pub returns-in-Ok : goal.returns-in-Ok
returns-in-Ok g c = record {
  look =
      let p = c.args.self.now.process.now in
      let q = c.look_waiting.new.self in
      let e = c.in-Ok.ensures in
      let was = c.requires.can.ready in
      let frame = frame_of c.args.frame in
      let sent = c.send_hand-is_sent.ensures.sent in (
        made_ok q frame c.in-Ok.look,
        c.send_hand-is_sent.result,
        look_ok g.D.Disk.told (g.H.HighSide.shape c.args.self.now.ends.now) g.H.HighSide.on_one_thread (StandsFitting (g.H.HighSide.stands c.look_waiting.new.ends) q) was.l was.h p q c.args.self.now.store.now c.look_waiting.new.store c.args.moment frame c.in-Ok.look e.row e.fares (λ t st. e.looks was.l was.h t was.fitting st),
        (sent.0, sent.1, (search rules), sent.3, sent.4),
        c.why_sent.ensures.why,
        c.is_some.ensures,
        look_takes g.H.HighSide.stands c.args.self.now.ends.now c.look_waiting.new.ends (g.H.HighSide.shape c.args.self.now.ends.now) g.H.HighSide.on_one_thread p q c.args.moment frame c.in-Ok.look e.looks,
      );
  goes_on = record {
    clock = refl;
    process = refl;
    store = refl;
    ends = refl;
    shape_is = c.in-Ok.ensures.shape;
    place_is = c.in-Ok.ensures.place;
    ready =
        λ up.
        let was = c.requires.can.ready in
        let e = c.in-Ok.ensures in
        let p = c.args.self.now.process.now in
        let q = c.look_waiting.new.self in
        let frame = frame_of c.args.frame in
        let some = looked_some (g.H.HighSide.shape c.args.self.now.ends.now) g.H.HighSide.on_one_thread (StandsFitting (g.H.HighSide.stands c.look_waiting.new.ends) q) was.l was.h p q was.t c.args.moment (task_at p frame) (attaches_at p frame) c.in-Ok.look
        (e.looks was.l was.h was.t was.fitting was.past) in
        record {
          between = e.between;
          up = e.up;
          ready = e.store;
          count = e.count;
          t = some.1.1.0;
          past = some.1.1.1.1;
          l = some.0;
          h = some.1.0;
          fitting = some.1.1.1.0;
        };
    order = omega (arith, c.in-Ok.ensures.last, c.requires.given);
    counts = look_counts g.D.Disk.told (task_at c.args.self.now.process.now (frame_of c.args.frame)) _ _ _ _ _ c.in-Ok.ensures.fares;
  };
  clock = refl;
  gives = c.send_hand-is_sent.ensures.gives;
  up = λ _. c.in-Ok.ensures.up;
  later = c.send_hand-is_sent.ensures.later;
  failed = λ is. c.send_hand-is_sent.ensures.failed (c.why_sent.ensures.failed is);
  device = calm_counts c.why_sent.result _ _ c.why_sent.ensures.calm;
}

pub returns-in-Err : goal.returns-in-Err
returns-in-Err g c = record {
  look =
      let p = c.args.self.now.process.now in
      let q = c.look_waiting.new.self in
      let e = c.in-Err.ensures in
      let frame = frame_of c.args.frame in (
        made_err q frame c.in-Err.fault,
        true,
        look_err g.D.Disk.told p q c.args.self.now.store.now c.look_waiting.new.store c.args.moment frame c.in-Err.fault e.row e.fares,
        ([], [], refl, (λ t. refl), Grows-nil _),
        (search rules),
        refl,
        fault_takes g.H.HighSide.stands c.args.self.now.ends.now c.look_waiting.new.ends p q c.args.moment frame c.in-Err.fault e.refused e.fault,
      );
  goes_on = record {
    clock = refl;
    process = refl;
    store = refl;
    ends = refl;
    shape_is = c.in-Err.ensures.shape;
    place_is = c.in-Err.ensures.place;
    ready =
        λ up.
        let p = c.args.self.now.process.now in
        let q = c.look_waiting.new.self in
        let e = c.in-Err.ensures in
        let same = same_err g.D.Disk.told p q c.args.self.now.store.now c.look_waiting.new.store _ c.in-Err.fault e.fares up in
        ready_again g.D.Disk.told p q c.args.self.now.store.now c.look_waiting.new.store _ _ c.requires.can.ready same.0 same.1 (ap (λ w. g.H.HighSide.stands w) e.refused);
    order = le_trans (err_order c.args.self.now.process.now c.look_waiting.new.self c.args.moment c.in-Err.fault c.requires.order c.in-Err.ensures.fault) c.requires.given;
    counts = look_counts g.D.Disk.told (task_at c.args.self.now.process.now (frame_of c.args.frame)) _ _ _ _ _ c.in-Err.ensures.fares;
  };
  clock = refl;
  gives = Draws-nil _;
  up = err_up c.args.self.now.process.now c.look_waiting.new.self c.args.moment c.in-Err.fault c.why_of.result c.why_of.ensures c.requires.can.ready.up c.in-Err.ensures.fault;
  later = le_refl _;
  failed = err_link c.in-Err.fault c.why_of.result c.why_of.ensures;
  device = err_counts g.D.Disk.told (task_at c.args.self.now.process.now (frame_of c.args.frame)) c.args.self.now.process.now c.look_waiting.new.self _ _ c.args.moment c.in-Err.fault c.why_of.result c.why_of.ensures c.requires.can.ready.up c.in-Err.ensures.fault c.in-Err.ensures.fares;
}
