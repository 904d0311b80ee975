use Rattle.std.proofs.Common.{rules, ◌≡◌, ℕ, ◌+◌, ◌^◌, ◌≤◌, false, refl, sym, ap, ◌∙◌, subst, arith, List, ◌∷◌, [], ◌++◌, length, Option, Some, Bool}
use Rattle.std.specs.Prelude.{Ok, option_to_list}
use Rattle.std.proofs.lemmas.List.{length-append}
use Rattle.pump_frame.specs.declared.frame.Frame.{Frame}
use Rattle.pump_frame.specs.declared.frame.Item.{Item}
use Rattle.pump_frame.specs.declared.row.SessionRow.{SessionRow}
use Rattle.disk_model.specs.Plain.{plain_meaning}
use Rattle.stable_buffer.specs.Stands.{HighStands}
use Rattle.stable_buffer.specs.High.{high_disk}
use Rattle.pump_core.specs.Passage.{High, new_low, publishes}
use Rattle.high_process.specs.declared.values.Task.{Task}
use Rattle.high_process.specs.declared.values.Task.TheVariants.{Remove}
use Rattle.high_process.specs.Past.{ProcessPast, begun, next_time, wants, taken_up, finished}
use Rattle.high_process.specs.Storing.{Fares}
use Rattle.high_process.specs.Ends.{StandsFitting, TakesUp, told_time}
use Rattle.high_process.specs.Looks.{Looked}
use Rattle.high_process.specs.States.{row_of, removed_of, hand_of, task_at, attaches_at}
use Rattle.script_reader.specs.Generated.{generated_row}
use Rattle.race.specs.Turns.{turn, turns}
use Rattle.race.specs.HighRacers.{HandAt, IsNext}
use Rattle.race.proofs.HighLooks.{leaves, removes_hand, attaches_nobody, time_is, turns_length, turns_more, turn_is_short, sent_below_next}
use Rattle.race.proofs.high.HighRacer.give_back.Goals as goal

pub returns-clause-at : goal.returns-clause-at
returns-clause-at g c =
    let a = c.requires.at in
    let w = c.args.self.now in
    let new = c.look_waiting.new in
    let look = c.in-Ok.field-0 in
    let n = a.past.removed in
    let time = c.from.result in
    let m = w.moment + time in
    let shape = g.H.HighSide.shape w.half.ends in
    let one = g.H.HighSide.on_one_thread in
    let after = StandsFitting (g.H.HighSide.stands new.ends) new.self in
    let frame : Frame = record w.answer { number = c.removed-number.result } in
    let full = a.hand_taken refl in
    let x = full.1.0 in
    let next : IsNext a.before n a.past.sends a.high.taken w.moment x =
    subst (λ (o : Option Item). HandAt a.before n a.past.sends a.high.taken w.moment o) full.1.1 a.hand in
    let hand : hand_of w.half.process ≡ Some x = a.is_past.holds.hand ∙ full.1.1 in
    let number : frame.number ≡ removed_of w.half.process = c.removed-number.ensures in
    let task : task_at w.half.process (Some frame) ≡ Remove = removes_hand w.half.process frame x a.row a.answer.1 a.answer.0 number hand in
    let nobody : attaches_at w.half.process (Some frame) ≡ false = attaches_nobody w.half.process frame a.answer.0 in
    let fares : Fares plain_meaning Remove w.half.process new.self w.half.store new.store (Ok look) =
    subst (λ (z : Task). Fares plain_meaning z w.half.process new.self w.half.store new.store (Ok look)) task c.in-Ok.ensures.fares in
    let looked : Looked shape one after new_low a.high w.half.process new.self a.past m Remove false look =
    subst (λ (z : Task × Bool). Looked shape one after new_low a.high w.half.process new.self a.past m z.0 z.1 look) (λ i. (task i, nobody i)) (c.in-Ok.ensures.looks new_low a.high a.past a.fitting a.is_past) in
    let turn_is : time ≡ turn w.times.items n = search rules in
    let short : time ≤ 10 ^ 9 = omega (arith, turn_is, turn_is_short w.times.items w.count n a.turn) in
    let so_many : length a.past.times ≡ n = ap length (a.past_times ∙ a.times_are) ∙ turns_length w.times.items n in
    let published : next_time a.past m ≡ Some time =
    time_is a.past w.moment m time next.older refl short (omega (arith, so_many, a.few, a.turn.few)) next.sends_are next.older_below in
    let past : ProcessPast = begun Remove a.past m in
    let high : High = publishes a.high time in
    let resend : (row_of w.half.process).resend ≡ 500000 = ap (λ (r : SessionRow). r.resend) a.row in
    let ends : TakesUp shape one after new_low high (wants past) past.removed looked.got =
    subst (λ (o : Option ℕ). TakesUp shape one after new_low (told_time o a.high) (wants past) past.removed looked.got) published looked.ends in
    let past_after : ProcessPast = finished (row_of w.half.process).resend false (taken_up past looked.got) m in
    let left = leaves shape one after (row_of w.half.process).resend past high a.high.taken m looked.got (omega (arith, resend)) (omega (arith, a.few, a.turn.few))
    (refl, sent_below_next n w.moment a.past.sends next.older next.sends_are next.older_below) ends in
    let one_more : a.high.times ++ time ∷ [] ≡ turns w.times.items (n + 1) =
    ap (λ (z : List ℕ × ℕ). z.0 ++ z.1 ∷ []) (λ i. (a.times_are i, turn_is i)) ∙ turns_more w.times.items n in
    let times_are : left.high.times ≡ turns w.times.items past_after.removed = left.times_are ∙ one_more ∙ ap (turns w.times.items) (sym left.removed_is) in
    let told : past_after.times ≡ a.past.times ++ time ∷ [] = left.past_times_are ∙ ap (λ (z : Option ℕ). a.past.times ++ option_to_list z) published in
    let past_times : past_after.times ≡ left.high.times = told ∙ ap (λ (z : List ℕ). z ++ time ∷ []) a.past_times ∙ sym left.times_are in
    record {
      turn = a.turn;
      answer = a.answer;
      high = left.high;
      past = past_after;
      fitting = left.stands;
      is_past = looked.stands;
      up = c.in-Ok.ensures.up;
      row = c.look_waiting.ensures.row ∙ a.row;
      order = omega arith;
      bound = omega (arith, a.bound, left.removed_is, short);
      few = omega (arith, left.removed_is, full.0);
      ready = c.in-Ok.ensures.store;
      count = fares.0.count ∙ ap (λ (z : ℕ). z + 1) a.count ∙ sym left.removed_is;
      disk = subst (λ (z : ℕ). HighStands generated_row z (high_disk new.store).bytes) (sym left.removed_is) ((fares.0.removed tt).more generated_row n a.disk);
      calm = fares.0.answers.disarmed tt;
      room = omega (arith, fares.0.answers.room tt, a.room);
      before = a.high.taken;
      removed_are = ap length next.taken_is ∙ omega (arith, length-append a.before (next.given ∷ []), a.removed_are, left.removed_is);
      hand = left.hand;
      times_are = times_are;
      past_times = past_times;
      received = a.received;
      recv = a.recv;
      received_are = a.received_are;
      hand_taken = λ e. absurd (cc);
    }
