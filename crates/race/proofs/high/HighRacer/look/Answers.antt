use Rattle.std.proofs.Common.{◌≡◌, ℕ, ◌≤◌, sym, ap, ◌∙◌, subst, arith}
use Rattle.pump_frame.specs.declared.row.SessionRow.{SessionRow}
use Rattle.disk_model.specs.Plain.{Plain}
use Rattle.stable_buffer.specs.Stands.{HighStands}
use Rattle.stable_buffer.specs.High.{high_disk, high_count}
use Rattle.stable_buffer.specs.declared.high.HighStore.{HighStore}
use Rattle.pump_core.specs.Passage.{new_low}
use Rattle.high_process.specs.Ends.{StandsFitting}
use Rattle.high_process.specs.States.{row_of}
use Rattle.script_reader.specs.Generated.{generated_row}
use Rattle.race.specs.Turns.{turns}
use Rattle.race.proofs.HighLooks.{leaves}
use Rattle.race.proofs.high.HighRacer.look.Goals as goal

pub returns-clause-at : goal.returns-clause-at
returns-clause-at g c =
    let a = c.requires.at in
    let w = c.args.self.now in
    let looked = c.in-Ok.ensures.looks new_low a.high a.past a.fitting a.is_past in
    let after = StandsFitting (g.H.HighSide.stands c.look_waiting.new.ends) c.look_waiting.new.self in
    let resend : (row_of w.half.process).resend ≡ 500000 = ap (λ (r : SessionRow). r.resend) a.row in
    let left = leaves (g.H.HighSide.shape w.half.ends) g.H.HighSide.on_one_thread after (row_of w.half.process).resend a.past a.high a.before w.moment
    looked.got (omega (arith, resend)) (omega (arith, a.few, a.turn.few)) a.hand looked.ends in
    let same : c.look_waiting.new.store ≡ w.half.store = c.in-Ok.ensures.fares.1 in
    record {
      turn = a.turn;
      answer = a.answer;
      high = left.high;
      past = _;
      fitting = left.stands;
      is_past = looked.stands;
      up = c.in-Ok.ensures.up;
      row = c.look_waiting.ensures.row ∙ a.row;
      order = omega arith;
      bound = omega (arith, a.bound, left.removed_is);
      few = omega (arith, a.few, left.removed_is);
      ready = c.in-Ok.ensures.store;
      count = ap (λ (s : HighStore Plain). high_count s) same ∙ a.count ∙ sym left.removed_is;
      disk = subst (λ (z : ℕ × HighStore Plain). HighStands generated_row z.0 (high_disk z.1).bytes) (λ i. (sym left.removed_is i, sym same i)) a.disk;
      calm = ap (λ (s : HighStore Plain). (high_disk s).armed) same ∙ a.calm;
      room = subst (λ (s : HighStore Plain). 80 ≤ (high_disk s).room) (sym same) a.room;
      before = a.before;
      removed_are = a.removed_are ∙ sym left.removed_is;
      hand = left.hand;
      times_are = left.times_are ∙ a.times_are ∙ ap (turns w.times.items) (sym left.removed_is);
      past_times = left.past_times_are ∙ a.past_times ∙ sym left.times_are;
      received = a.received;
      recv = a.recv;
      received_are = a.received_are;
      hand_taken = λ e. absurd (cc);
    }
