use Rattle.std.specs.Prelude.{◌||◌}
use Rattle.std.proofs.Common.{Some, [], ◌∷◌, refl, sym, ap, ◌∙◌, subst, le_refl, le_trans}
use Rattle.pump_link.specs.Tells.{Draws}
use Rattle.pump_link.proofs.Grown.{Draws-kept, Grows-after}
use Rattle.relay_threads.specs.Heards.{heard_with}
use Rattle.relay_threads.proofs.Hearing.{head_failed}
use Rattle.relay_threads.proofs.HighEnding.{takes_nothing}
use Rattle.relay_threads.proofs.HighTurning.{plan_is, frame_is, attached_is, round_without, round_with, ended_turn, passed_turn, ended_cause, passed_cause, looked_turn, looked_cause, ended_failed, ended_calm, calm_counts, none_no_link}
use Rattle.relay_threads.proofs.Reaching.{rose_later}
use Rattle.relay_threads.proofs.high_round.HighConnection.round.Goals as goal

pub returns-in-End : goal.returns-in-End
returns-in-End g c = record {
  round =
      let was = c.args.self.now.is_attached in
      let h = c.hear-heard.ensures.heard in
      let m = c.moment-moment.result in
      let is = plan_is was h.0 (heard_with c.hear-heard.new.room c.hear-heard.result) c.planned-plan.result _ h.2 c.planned-plan.ensures c.in-End.is in (
        round_without m h.0,
        ended_turn c.args.worker.now.process.now _ _ was m h.0 h.1 h.3 _ is,
        h.4,
        ([], [], refl, (λ t. refl), c.hear-heard.ensures.sent),
        c.moment-moment.ensures.reads,
        ended_cause c.args.worker.now.process.now _ _ was m h.0 h.1 h.3 _ is,
        refl,
        attached_is was _ h.0 (heard_with c.hear-heard.new.room c.hear-heard.result) h.2 (ap (λ b. was || b) (c.is_frame.ensures c.hear-heard.new.room)),
        takes_nothing g.H.HighSide.stands c.args.worker.now.ends.now c.args.worker.now.process.now,
      );
  begun = c.hear-heard.ensures.begun;
  goes_on = record {
    clock = refl;
    process = refl;
    store = refl;
    ends = refl;
    shape_is = refl;
    place_is = refl;
    ready = λ _. c.requires.can.ready;
    order = le_trans c.requires.can.order (le_trans c.moment-moment.ensures.from c.moment-moment.ensures.to);
    counts = le_refl _;
  };
  up = λ _. c.requires.can.ready.up;
  later = c.hear-heard.ensures.later;
  failed = λ is. c.hear-heard.ensures.failed (head_failed c.hear-heard.new.room c.hear-heard.result (ended_failed c.args.self.now.is_attached (heard_with c.hear-heard.new.room c.hear-heard.result) c.planned-plan.result c.in-End.why c.planned-plan.ensures c.in-End.is is));
  device = calm_counts (Some c.in-End.why) _ _ (ended_calm c.args.self.now.is_attached (heard_with c.hear-heard.new.room c.hear-heard.result) c.planned-plan.result c.in-End.why c.planned-plan.ensures c.in-End.is);
}

pub returns-in-Pass : goal.returns-in-Pass
returns-in-Pass g c = record {
  round =
      let was = c.args.self.now.is_attached in
      let h = c.hear-heard.ensures.heard in
      let m = c.moment-moment.result in
      let is = plan_is was h.0 (heard_with c.hear-heard.new.room c.hear-heard.result) c.planned-plan.result _ h.2 c.planned-plan.ensures c.in-Pass.is in (
        round_without m h.0,
        passed_turn c.args.worker.now.process.now _ _ was m h.0 h.1 h.3 is,
        h.4,
        ([], [], refl, (λ t. refl), c.hear-heard.ensures.sent),
        c.moment-moment.ensures.reads,
        passed_cause c.args.worker.now.process.now _ _ was m h.0 h.1 h.3 is,
        refl,
        attached_is was _ h.0 (heard_with c.hear-heard.new.room c.hear-heard.result) h.2 (ap (λ b. was || b) (c.is_frame.ensures c.hear-heard.new.room)),
        takes_nothing g.H.HighSide.stands c.args.worker.now.ends.now c.args.worker.now.process.now,
      );
  begun = c.hear-heard.ensures.begun;
  goes_on = record {
    clock = refl;
    process = refl;
    store = refl;
    ends = refl;
    shape_is = refl;
    place_is = refl;
    ready = λ _. c.requires.can.ready;
    order = le_trans c.requires.can.order (le_trans c.moment-moment.ensures.from c.moment-moment.ensures.to);
    counts = le_refl _;
  };
  up = λ _. c.requires.can.ready.up;
  later = c.hear-heard.ensures.later;
  failed = λ is. absurd (none_no_link is);
  device = tt;
}

pub returns-in-Look : goal.returns-in-Look
returns-in-Look g c = record {
  round =
      let was = c.args.self.now.is_attached in
      let h = c.hear-heard.ensures.heard in
      let m = c.moment-moment.result in
      let l = c.look.ensures.look in
      let is = plan_is was h.0 (heard_with c.hear-heard.new.room c.hear-heard.result) c.planned-plan.result _ h.2 c.planned-plan.ensures c.in-Look.is in (
        round_with m h.0 l.0 l.1,
        looked_turn c.args.worker.now.process.now _ _ was m h.0 h.1 h.3 _ l.0 l.1 _ is (frame_is h.0 (heard_with c.hear-heard.new.room c.hear-heard.result) _ h.2 c.frame_in-frame.ensures) l.2,
        Draws-kept _ _ _ _ h.4 c.look.ensures.gives,
        (l.3.0, l.3.1, l.3.2, l.3.3, Grows-after _ _ _ _ c.hear-heard.ensures.sent l.3.4),
        subst (λ k. Draws (g.K.Clock.reads c.args.worker.now.clock.now) (g.K.Clock.reads k) (m ∷ [])) (sym c.look.ensures.clock) c.moment-moment.ensures.reads,
        l.4 ∙ looked_cause c.args.worker.now.process.now _ _ was m h.0 h.1 h.3 l.0 l.1 is,
        l.5,
        attached_is was _ h.0 (heard_with c.hear-heard.new.room c.hear-heard.result) h.2 (ap (λ b. was || b) (c.is_frame.ensures c.hear-heard.new.room)),
        l.6,
      );
  begun = c.hear-heard.ensures.begun;
  goes_on =
      let e = c.look.ensures.goes_on in
      record {
        clock = e.clock;
        process = e.process;
        store = e.store;
        ends = e.ends;
        shape_is = e.shape_is;
        place_is = e.place_is;
        ready = e.ready;
        order = e.order;
        counts = e.counts;
      };
  up = c.look.ensures.up;
  later = le_trans c.hear-heard.ensures.later c.look.ensures.later;
  failed = λ is. rose_later _ _ _ c.hear-heard.ensures.later (c.look.ensures.failed is);
  device = c.look.ensures.device;
}
