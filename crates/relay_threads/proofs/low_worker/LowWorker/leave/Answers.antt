use Rattle.std.proofs.Common.{rules, List, [], ◌∷◌, ◌≤◌, ◌^◌, Some, None, true, refl, sym, ap, subst, ◌∙◌, le_refl, le_trans}
use Rattle.std.specs.Prelude.{IfSome}
use Rattle.std.specs.Io.KnownBytes.{Appends}
use Rattle.pump_frame.specs.Rows.{IsLawfulRow}
use Rattle.pump_frame.specs.declared.row.SessionRow.{SessionRow}
use Rattle.pump_core.specs.History.{Gone}
use Rattle.pump_core.specs.Passage.{Shape}
use Rattle.low_process.specs.declared.values.Arrival.TheVariants as arrivals
use Rattle.low_process.specs.Looks.{row_of, hand_of, IsInBounds}
use Rattle.low_process.specs.Heads.{look_with}
use Rattle.low_process.specs.Ends.{StandsFitting}
use Rattle.low_process.proofs.Offering.{stands_for_some}
use Rattle.relay_threads.specs.declared.record.LookMade.{LookMade}
use Rattle.relay_threads.specs.Reaching.{Reaches}
use Rattle.relay_threads.specs.Records.{Made}
use Rattle.relay_threads.specs.RecordLines.{made_by}
use Rattle.relay_threads.specs.Replays.{ReadsBack}
use Rattle.relay_threads.specs.LowServes.{text_after}
use Rattle.relay_threads.proofs.Levels.{step_tells}
use Rattle.relay_threads.proofs.LowLives.{look_made, lives_on, leads_none}
use Rattle.relay_threads.proofs.LowEnds.{look_does, look_stores, does_none, stores_none}
use Rattle.relay_threads.proofs.LowVisiting.{none_gone, some_gone, end_plain, end_left}
use Rattle.relay_threads.proofs.LowWorkers.{keeps_none}
use Rattle.relay_threads.proofs.Reaching.{reaches_all}
use Rattle.pump_link.proofs.Grown.{Draws-nil}
use Rattle.pump_link.proofs.Known.{Appends-none}
use Rattle.relay_threads.proofs.low_worker.LowWorker.leave.Goals as goal

pub returns-then-not-is_left_so : goal.returns-then-not-is_left_so
returns-then-not-is_left_so g c =
    let v = c.args.self.now in
    let plain = sym c.if-not-is_left_so.ensures in
    record {
      leaves = (
        None,
        true,
        none_gone c.args.why plain,
        (λ e. refl),
        c.end_by.ensures ∙ end_plain c.args.why plain,
        leads_none v.process.now (λ row o before. IsLawfulRow row → IfSome None (ReadsBack row before)) (λ row o before lawful. tt),
        Draws-nil _,
        reaches_all _ _ _ [] (le_refl _) (Appends-none _),
        (λ end. tt),
        does_none g.L.LowSide.stands g.L.LowSide.shape v.ends.now v.process.now,
        stores_none g.D.Disk.told v.store.now v.process.now,
      );
      keeps = keeps_none g.K.Clock.floor g.D.Disk.told g.L.LowSide.stands g.L.LowSide.shape g.L.LowSide.place v c.requires.rests;
      words = refl;
      up = refl;
      store = refl;
    }

pub returns : goal.returns
returns g c =
    let v = c.args.self.now in
    let p = v.process.now in
    let q = c.look_waiting_into.new.self in
    let m = c.moment-moment.result in
    let l = look_with (row_of p) c.look_waiting_into.new.head in
    let e = c.look_waiting_into.ensures in
    let O = g.O.Sink in
    let shown : LookMade = record { moment = m; word = 0; arrival = arrivals.Gone; look = c.look_waiting_into.new.head } in
    let row_is = c.row.ensures ∙ e.row in
    let left = sym c.if-not-is_left_so.ensures in
    let up = c.requires.up left in
    let was = c.requires.rests.ready in
    let reads = subst (λ (z : SessionRow). IsLawfulRow z → m ≤ 2 ^ 62 → IsInBounds l.feedback → (before : List Made) → ReadsBack z before (made_by z shown)) row_is c.record_look.ensures.reads in
    let some = stands_for_some _ _ (StandsFitting (g.L.LowSide.stands c.look_waiting_into.new.ends) q) was.l was.h (hand_of p) c.look_waiting_into.new.head.feedback (e.ends was.l was.h was.fitting) in
    record {
      leaves = (
        Some (look_made p q m 0 Gone e.looks.0 l),
        c.record_look.result,
        some_gone c.args.why (look_made p q m 0 Gone e.looks.0 l) left (refl, refl),
        (λ e. absurd (cc)),
        c.end_kept.ensures ∙ end_left c.args.why c.record_look.result left,
        record {
          row = e.row;
          rule = λ o before lives lawful is. let r = reads lawful c.moment-moment.ensures.bound e.bounds before is in record { line = r.line; reply = r.reply };
          lives = lives_on p q m 0 Gone e.looks.0 l e.row (le_trans c.requires.rests.order c.moment-moment.ensures.from) e.looks.1.looks;
        },
        c.moment-moment.ensures.reads,
        subst (λ (z : SessionRow). Reaches (Appends (O.written v.tape.now) (O.written c.record_look.new.tape)) (O.faults v.tape.now) (O.faults c.record_look.new.tape) c.record_look.result (text_after z [] (made_by z shown)))
            row_is (c.record_look.ensures.text [] refl),
        (λ end.
            step_tells g.L.LowSide.stands g.L.LowSide.shape c.look_waiting_into.new.ends (row_of p) end.0 (ap (λ (s : Shape). s.averaging) e.shape ∙ end.1)
            (g.L.LowSide.shape v.ends.now) g.L.LowSide.on_one_thread q was.l was.h (hand_of p) l.feedback (e.ends was.l was.h was.fitting)),
        (λ low high fits.
            look_does p q m 0 Gone e.looks.0 l e.row e.looks.1.looks e.hand (g.L.LowSide.shape v.ends.now) g.L.LowSide.on_one_thread
            (StandsFitting (g.L.LowSide.stands c.look_waiting_into.new.ends) q) low high (e.ends low high fits)),
        look_stores g.D.Disk.told p q m 0 Gone e.looks.0 l e.row e.looks.1.looks v.store.now c.look_waiting_into.new.store up was.of e.looks.1.keeps e.looks.1.falls,
      );
      keeps = record {
        clock = refl;
        words = refl;
        process = refl;
        store = refl;
        ends = refl;
        tape = refl;
        shape_is = e.shape;
        place_is = e.place;
        counts = search rules;
        rests = record { ready = record { between = e.looks.1.looks.asking; of = e.store; l = some.0; h = some.1.0; fitting = some.1.1 }; order = search rules };
      };
      words = refl;
      up = search rules;
      store = search rules;
    }
