use Rattle.std.proofs.Common.{rules, List, [], ◌≤◌, ◌^◌, refl, sym, ap, ◌∙◌, subst, le_refl, le_trans}
use Rattle.std.specs.Prelude.{option_map}
use Rattle.std.specs.Io.KnownBytes.{Appends}
use Rattle.pump_link.proofs.Grown.{Draws-kept, Grows-then}
use Rattle.pump_link.proofs.Known.{Appends-none}
use Rattle.low_process.specs.Looks.{arrival_of, is_down, hand_of, row_of, IsInBounds}
use Rattle.low_process.specs.Heads.{look_with}
use Rattle.low_process.specs.Storing.{message_in}
use Rattle.low_process.specs.Ends.{StandsFitting}
use Rattle.low_process.proofs.Offering.{stands_for_some}
use Rattle.pump_frame.specs.Rows.{IsLawfulRow}
use Rattle.pump_frame.specs.declared.row.SessionRow.{SessionRow}
use Rattle.pump_core.specs.Passage.{Shape}
use Rattle.pump_core.specs.ReplyFrames.{frame_of}
use Rattle.pump_link.specs.Tells.{Grows}
use Rattle.relay_threads.specs.declared.record.LookMade.{LookMade}
use Rattle.relay_threads.specs.Heards.{heard_with}
use Rattle.relay_threads.specs.Reaching.{Reaches}
use Rattle.relay_threads.specs.Records.{Made}
use Rattle.relay_threads.specs.RecordLines.{made_by}
use Rattle.relay_threads.specs.Replays.{ReadsBack}
use Rattle.relay_threads.specs.LowServes.{bytes_of, text_after}
use Rattle.relay_threads.proofs.Levels.{step_tells}
use Rattle.relay_threads.proofs.LowEnds.{look_does, look_stores, does_none, stores_none}
use Rattle.relay_threads.proofs.Reaching.{rose_later, reaches_all, reaches_behind}
use Rattle.relay_threads.proofs.LowTurning.{counts_by, rose_by, fault_by, down_is, round_failed, failed_turn, made_turn, round, failed_cause, made_cause, link_by}
use Rattle.relay_threads.proofs.low_worker.LowWorker.round.Goals as goal

pub returns-then-is_failed : goal.returns-then-is_failed
returns-then-is_failed g c = record {
  turn =
      let p = c.args.self.now.process.now in
      let h = c.hear_if-heard.ensures.heard in
      let room = c.hear_if-heard.new.connection.room in
      let heard = heard_with room c.hear_if-heard.result in
      let m = c.moment-moment.result in
      let w = c.word-word.result in
      let wanted = h.1 ∙ c.wants.ensures in
      let failed = sym (c.if-is_failed.ensures room) in (
        round_failed p _ h.0 heard m w h.3 wanted h.2 0,
        failed_turn p _ h.0 heard m w h.3 wanted h.2 0 failed,
        h.4,
        h.5,
        reaches_all _ _ _ [] c.hear_if-heard.ensures.later c.hear_if-heard.ensures.sent,
        c.moment-moment.ensures.reads,
        c.word-word.ensures.gives,
        (λ before e. reaches_all _ _ _ [] (le_refl _) (Appends-none _)),
        failed_cause h.0 heard h.3 failed,
        refl,
        refl,
        (λ end. tt),
        does_none g.L.LowSide.stands g.L.LowSide.shape c.args.self.now.ends.now p,
        stores_none g.D.Disk.told c.args.self.now.store.now p,
      );
  begun = c.hear_if-heard.ensures.begun;
  keeps = record {
    clock = refl;
    words = refl;
    process = refl;
    store = refl;
    ends = refl;
    tape = refl;
    shape_is = refl;
    place_is = refl;
    counts = le_refl _;
    rests = record { ready = c.requires.can.rests.ready; order = le_trans c.requires.can.rests.order (le_trans c.moment-moment.ensures.from c.moment-moment.ensures.to) };
  };
  up = λ _ _. c.requires.can.up;
  link = search rules;
  device = search rules;
}

pub returns : goal.returns
returns g c = record {
  turn =
      let p = c.args.self.now.process.now in
      let q = c.look_waiting_into.new.self in
      let h = c.hear_if-heard.ensures.heard in
      let room = c.hear_if-heard.new.connection.room in
      let heard = heard_with room c.hear_if-heard.result in
      let m = c.moment-moment.result in
      let w = c.word-word.result in
      let head = c.look_waiting_into.new.head in
      let l = look_with (row_of p) head in
      let looks = c.look_waiting_into.ensures.looks in
      let a = arrival_of c.arrival_in-arrival.result in
      let n = c.faults.result in
      let sent = c.answer-is_sent.result in
      let kept = c.record_look-is_kept.result in
      let wanted = h.1 ∙ c.wants.ensures in
      let C = g.C.Link in
      let O = g.O.Sink in
      let s0 = C.sent c.args.link.now in
      let s1 = C.sent c.hear_if-heard.new.link in
      let s2 = C.sent c.answer-is_sent.new.link in
      let shown : LookMade = record { moment = m; word = w; arrival = c.arrival_in-arrival.result; look = head } in
      let row_is = c.row-row.ensures ∙ c.look_waiting_into.ensures.row in
      let reads = subst (λ (z : SessionRow). IsLawfulRow z → m ≤ 2 ^ 62 → IsInBounds head.feedback → (before : List Made) → ReadsBack z before (made_by z shown)) row_is c.record_look-is_kept.ensures.reads in
      let fine = sym (c.if-is_failed.ensures room) in
      let down = c.is_down.ensures ∙ down_is (is_down q) (is_down p) looks.0 c.requires.can.up looks.1.falls in (
        round p _ h.0 heard m w h.3 wanted h.2 q looks.0 l a sent kept n,
        made_turn p _ h.0 heard m w h.3 wanted h.2 q looks.0 l a sent kept n c.look_waiting_into.ensures.row (le_trans c.requires.can.rests.order c.moment-moment.ensures.from) fine c.arrival_in-arrival.ensures.is looks.1.looks
            (λ lawful before is. let r = reads lawful c.moment-moment.ensures.bound c.look_waiting_into.ensures.bounds before is in record { line = r.line; reply = r.reply }),
        h.4,
        Draws-kept _ _ _ _ h.5 c.answer-is_sent.ensures.gives,
        subst (λ (z : SessionRow). Reaches (Grows s0 s2) (C.faults c.args.link.now) (C.faults c.answer-is_sent.new.link) sent (bytes_of (option_map (frame_of z.id) head.reply)))
            (c.row-row.ensures ∙ c.look_waiting_into.ensures.row)
            (reaches_behind (Grows s0 s2) (Grows s1 s2) (C.faults c.args.link.now) (C.faults c.hear_if-heard.new.link) (C.faults c.answer-is_sent.new.link) sent [] (bytes_of (option_map (frame_of c.row-row.result.now.id) head.reply))
            c.hear_if-heard.ensures.later (λ rest g. Grows-then s0 s1 s2 [] rest c.hear_if-heard.ensures.sent g) c.answer-is_sent.ensures.sent),
        c.moment-moment.ensures.reads,
        c.word-word.ensures.gives,
        (λ before e.
            subst (λ (z : SessionRow). Reaches (Appends (O.written c.args.self.now.tape.now) (O.written c.record_look-is_kept.new.tape)) (O.faults c.args.self.now.tape.now) (O.faults c.record_look-is_kept.new.tape) kept (text_after z before (made_by z shown)))
            row_is (c.record_look-is_kept.ensures.text before e)),
        c.why_left.ensures room ∙ made_cause h.0 heard kept c.is_down.result looks.0 sent n h.3 down,
        c.is_full.ensures,
        c.is_ack.ensures (row_of p).id,
        (λ end.
            let was = c.requires.can.rests.ready in
            step_tells g.L.LowSide.stands g.L.LowSide.shape c.look_waiting_into.new.ends (row_of p) end.0 (ap (λ (s : Shape). s.averaging) c.look_waiting_into.ensures.shape ∙ end.1)
            (g.L.LowSide.shape c.args.self.now.ends.now) g.L.LowSide.on_one_thread q was.l was.h (hand_of p) head.feedback (c.look_waiting_into.ensures.ends was.l was.h was.fitting)),
        (λ low h fits.
            look_does p q m w a looks.0 l c.look_waiting_into.ensures.row looks.1.looks c.look_waiting_into.ensures.hand (g.L.LowSide.shape c.args.self.now.ends.now) g.L.LowSide.on_one_thread
            (StandsFitting (g.L.LowSide.stands c.look_waiting_into.new.ends) q) low h (c.look_waiting_into.ensures.ends low h fits)),
        look_stores g.D.Disk.told p q m w a looks.0 l c.look_waiting_into.ensures.row looks.1.looks c.args.self.now.store.now c.look_waiting_into.new.store c.requires.can.up c.requires.can.rests.ready.of looks.1.keeps looks.1.falls,
      );
  begun = c.hear_if-heard.ensures.begun;
  keeps =
      let p = c.args.self.now.process.now in
      let e = c.look_waiting_into.ensures in
      let was = c.requires.can.rests.ready in
      let some = stands_for_some _ _ (StandsFitting (g.L.LowSide.stands c.look_waiting_into.new.ends) c.look_waiting_into.new.self) was.l was.h (hand_of p) c.look_waiting_into.new.head.feedback (e.ends was.l was.h was.fitting) in
      record {
        clock = refl;
        words = refl;
        process = refl;
        store = refl;
        ends = refl;
        tape = refl;
        shape_is = e.shape;
        place_is = e.place;
        counts = counts_by g.D.Disk.told (message_in p (arrival_of c.arrival_in-arrival.result)) c.args.self.now.store.now c.look_waiting_into.new.store e.looks.0 e.looks.1.keeps;
        rests = record { ready = record { between = e.looks.1.looks.asking; of = e.store; l = some.0; h = some.1.0; fitting = some.1.1 }; order = search rules };
      };
  up = search rules;
  link =
      λ e.
      rose_later _ _ _ c.hear_if-heard.ensures.later (c.answer-is_sent.ensures.sent.cause (link_by c.record_look-is_kept.result c.is_down.result c.answer-is_sent.result c.faults.result (heard_with c.hear_if-heard.new.connection.room c.hear_if-heard.result) (sym (c.if-is_failed.ensures c.hear_if-heard.new.connection.room)) (sym (c.why_left.ensures c.hear_if-heard.new.connection.room) ∙ e)));
  device =
      let looks = c.look_waiting_into.ensures.looks in
      let p = c.args.self.now.process.now in
      let q = c.look_waiting_into.new.self in
      let down = c.is_down.ensures ∙ down_is (is_down q) (is_down p) looks.0 c.requires.can.up looks.1.falls in
      fault_by c.record_look-is_kept.result c.is_down.result c.answer-is_sent.result c.faults.result _ _ (heard_with c.hear_if-heard.new.connection.room c.hear_if-heard.result) c.why_left.result (c.why_left.ensures c.hear_if-heard.new.connection.room) c.faults.ensures
      (λ e. rose_by g.D.Disk.told (message_in c.args.self.now.process.now (arrival_of c.arrival_in-arrival.result)) c.args.self.now.store.now c.look_waiting_into.new.store looks.0 (sym down ∙ e) looks.1.keeps);
}
