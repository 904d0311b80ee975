-- A look, from its first half and what the end gave.
use Rattle.std.proofs.Common.{ap, rules}
use Rattle.high_process.specs.Tasks.{frame_of, task_of}
use Rattle.high_process.specs.States.{state_of, hand_of, task_at, attaches_at}
use Rattle.high_process.proofs.Looking.{fares_ok, finishes_from, step_after, looked}
use Rattle.high_process.proofs.Fitting.{looked_fitting}
use Rattle.high_process.proofs.process.HighProcess.look_by.Goals as goal

pub returns-in_err-ask : goal.returns-in_err-ask
returns-in_err-ask g c = let e = c.begin.ensures in record {
  fares = search rules;
  looks = search rules;
  images = e.images;
  refused = search rules;
  fault = search rules;
  sent = search rules;
  store = search rules;
  count = search rules;
  up = search rules;
  between = search rules;
  last = search rules;
  row = search rules;
  shape = search rules;
  place = search rules;
}

pub returns : goal.returns
returns g c =
    let p = c.args.self.now in
    let b = c.begin.new.self in
    let q = c.send.new.self in
    let frame = frame_of c.args.frame in
    let s = g.H.HighSide.shape c.args.ends.now in
    let after = g.H.HighSide.stands c.take_up.new.ends in
    let task = task_at p frame in
    let attaches = attaches_at p frame in
    let fills = c.take_up.ensures.fills in
    let e = c.in_ok-ask.ensures in
    let finishes = finishes_from b q fills.got c.send.result
    (step_after b.row.resend _ (state_of b) _ (state_of q) fills.got c.send.result (ap (λ r. r.resend) c.take_up.ensures.row) fills.filled c.send.ensures.steps) in
    record {
      fares = fares_ok g.D.Disk.told p b q c.args.store.now c.begin.new.store
          (task_of p.row.id p.removed (hand_of p) frame) c.in_ok-ask.ask c.send.result e.fares;
      looks = λ l h t stands holds.
          looked_fitting s g.H.HighSide.on_one_thread after l h p q t c.args.moment task attaches c.send.result holds stands.1
          (looked s g.H.HighSide.on_one_thread after l h p b q t c.args.moment task attaches c.in_ok-ask.ask fills.got c.send.result
          (ap (λ r. r.resend) e.row) e.begins finishes (fills.takes l h stands.0) holds);
      images = e.images;
      refused = search rules;
      fault = search rules;
      sent = search rules;
      store = search rules;
      count = search rules;
      up = search rules;
      between = search rules;
      last = search rules;
      row = search rules;
      shape = search rules;
      place = search rules;
    }
