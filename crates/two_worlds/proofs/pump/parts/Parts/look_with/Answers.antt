use Rattle.std.proofs.Common.{rules, ◌≡◌, Err, OnErr, [], inl, refl, sym, ap, ◌∙◌, subst, arith, length, length-append, append-nil, le_trans}
use Rattle.std.specs.Prelude.{is_some}
use Rattle.std.proofs.Math.Logic.{∥∥₁_elim, ∥∥₁_map}
use Rattle.std.proofs.Props.{props}
use Rattle.std.specs.Coded.{le_prop}
use Rattle.high_process.specs.Tasks.{frame_of}
use Rattle.high_process.specs.States.{task_at, attaches_at, hand_of}
use Rattle.high_process.specs.declared.values.HighFault.TheVariants.{Ahead, Behind, Device}
use Rattle.std.proofs.Math.Nat.{le-add_right}
use Rattle.two_worlds.specs.Private.HighLooks.{ComesBack, most_lines, printed_look}
use Rattle.two_worlds.specs.Standing.{bare_of, high_past_of}
use Rattle.two_worlds.specs.Working.{Works}
use Rattle.two_worlds.specs.declared.pump.parts.Parts.{Parts}
use Rattle.two_worlds.proofs.Opening.Ready.{high_is_ready, high_is_up, high_is_between, high_is_timely, high_counts}
use Rattle.two_worlds.proofs.Opening.Ends.{low_seen, high_seen, ends_seen, high_fits_seen}
use Rattle.two_worlds.proofs.High.Serves.{removes_behind, looked_serves, broken_serves, refused_serves}
use Rattle.two_worlds.proofs.High.Works.{asks_no_fault, high_works, high_goes, broken_works, refused_works, refused_is, refused_goes, never_broken, never_done}
use Rattle.two_worlds.proofs.High.Looking.{looks, led, lines_by}
use Rattle.two_worlds.proofs.High.Failing.{fared, breaks, refused, never_behind}
use Rattle.std.proofs.lemmas.List.{length-map}
use Rattle.script_reader.specs.EventHeads.{event_of}
use Rattle.two_worlds.specs.Printing.{lines_in}
use Rattle.two_worlds.proofs.pump.parts.Parts.look_with.Goals as goal

pub look-requires-clause-between : goal.look-requires-clause-between
look-requires-clause-between g c = high_is_between _ c.args.self.now c.requires.able

pub look-requires-clause-up : goal.look-requires-clause-up
look-requires-clause-up g c = high_is_up _ c.args.self.now c.requires.able

pub look-requires-clause-order : goal.look-requires-clause-order
look-requires-clause-order g c = le_trans (high_is_timely _ c.args.self.now c.requires.able) c.requires.order

pub look-requires-clause-store : goal.look-requires-clause-store
look-requires-clause-store g c = high_is_ready _ c.args.self.now c.requires.able

pub look-requires-clause-count : goal.look-requires-clause-count
look-requires-clause-count g c = high_counts _ c.args.self.now c.requires.able

pub look-requires-clause-ends : goal.look-requires-clause-ends
look-requires-clause-ends g c =
    let m = g.D.Disk.told in
    let d = c.args.self.now in
    let able = c.requires.able in
    (low_seen m d able, high_seen m d able, (ends_seen m d able, high_fits_seen m d able))

pub tell_high-requires : goal.tell_high-requires
tell_high-requires g c = record {
  out = ∥∥₁_elim c.requires.able.works le_prop (λ w.
      let few = lines_by c.args.self.now w c.look.new.self c.look.new.ends c.args.moment (frame_of c.frame_back-frame.result) c.in-Ok.look c.in-Ok.ensures.looks in
      omega (arith, few, c.requires.out, ap most_lines c.frame_back-frame.ensures));
}

pub returns-in-Ok : goal.returns-in-Ok
returns-in-Ok g c = record {
  does =
      λ p s attaches back given.
      let m = g.D.Disk.told in
      let comes = subst (λ f. ComesBack c.args.self.now.row.id p.world attaches f back) (sym c.frame_back-frame.ensures) given in
      let d = c.args.self.now in
      let looked = c.in-Ok.ensures.looks s.ends.low s.ends.high (high_past_of d p) (s.ends.stand, s.ends.high_fits) s.high_ready.past in
      led m d p s c.args.moment c.requires.order c.look.new.self c.look.new.store c.look.new.ends attaches back c.in-Ok.look
      (looks m d p s c.args.moment c.requires.order c.look.new.self c.look.new.store c.look.new.ends attaches c.in-Ok.look c.in-Ok.ensures.store c.in-Ok.ensures.count c.in-Ok.ensures.up c.look.ensures.between c.look.ensures.row c.look.ensures.shape (frame_of c.frame_back-frame.result) back comes c.in-Ok.ensures.fares looked)
      (lines_in c.args.out.now.items) (lines_in c.tell_high.new.out.items) c.tell_high.ensures.out c.tell_high.new.self c.tell_high.ensures.rest;
  works =
      let m = g.D.Disk.told in
      let d = c.args.self.now in
      let frame = frame_of c.frame_back-frame.result in
      subst (λ (e : Parts _). ∥ Works m e ∥₁) (sym c.tell_high.ensures.rest)
      (∥∥₁_map c.requires.able.works (λ w. high_works m d c.args.moment c.requires.order c.look.new.self c.look.new.store c.look.new.ends c.in-Ok.look c.in-Ok.ensures.store c.in-Ok.ensures.count c.in-Ok.ensures.up c.look.ensures.between c.look.ensures.row c.look.ensures.shape (task_at d.high frame) (attaches_at d.high frame) w
      (c.in-Ok.ensures.looks w.ends.low w.ends.high w.past (w.ends.stand, w.ends.high_fits) w.high_ready.past)));
  ahead =
      λ fault asks.
      let m = g.D.Disk.told in
      let d = c.args.self.now in
      let task = ap (λ f. task_at d.high f) c.frame_back-frame.ensures ∙ asks in
      absurd (never_done m d c.args.moment c.look.new.self c.look.new.store c.look.new.ends (task_at d.high (frame_of c.frame_back-frame.result)) fault c.in-Ok.look task c.in-Ok.ensures.fares);
  goes =
      λ full.
      let m = g.D.Disk.told in
      let d = c.args.self.now in
      let frame = frame_of c.frame_back-frame.result in
      ∥∥₁_elim c.requires.able.works (hlevel props) (λ w. high_goes m d c.args.moment c.requires.order c.look.new.self c.look.new.store c.look.new.ends c.in-Ok.look c.in-Ok.ensures.store c.in-Ok.ensures.count c.in-Ok.ensures.up c.look.ensures.between c.look.ensures.row c.look.ensures.shape (task_at d.high frame) (attaches_at d.high frame) w
      (c.in-Ok.ensures.looks w.ends.low w.ends.high w.past (w.ends.stand, w.ends.high_fits) w.high_ready.past)
      (sym (ap (λ (t : Parts _). is_some (hand_of t.high)) c.tell_high.ensures.rest) ∙ full));
  serve =
      let m = g.D.Disk.told in
      let d = c.args.self.now in
      let frame = frame_of c.frame_back-frame.result in
      looked_serves m d c.args.moment c.look.new.self c.look.new.store c.look.new.ends c.in-Ok.look (task_at d.high frame) c.in-Ok.ensures.fares
      (removes_behind m d c.look.new.self c.look.new.store frame c.requires.able (λ p s. (let b = c.requires.back p s in (b.0, b.1, subst (λ f. ComesBack c.args.self.now.row.id p.world b.0 f b.1) (sym c.frame_back-frame.ensures) b.2))) c.look.ensures.images) c.tell_high.new.self c.tell_high.ensures.rest;
  low = search rules;
  high = search rules;
  recv = search rules;
  out =
      ∥∥₁_elim c.requires.able.works le_prop (λ w.
      let d = c.args.self.now in
      let few = lines_by d w c.look.new.self c.look.new.ends c.args.moment (frame_of c.frame_back-frame.result) c.in-Ok.look c.in-Ok.ensures.looks in
      omega (arith, few, ap most_lines c.frame_back-frame.ensures, ap length c.tell_high.ensures.out, length-append (lines_in c.args.out.now.items) (printed_look d.row.id c.args.moment c.in-Ok.look), length-map c.args.out.now.items event_of, length-map c.tell_high.new.out.items event_of));
  row = search rules;
  moment = search rules;
}

pub returns-in-Err-Device : goal.returns-in-Err-Device
returns-in-Err-Device g c = record {
  does =
      λ p s attaches back given.
      let m = g.D.Disk.told in
      let comes = subst (λ f. ComesBack c.args.self.now.row.id p.world attaches f back) (sym c.frame_back-frame.ensures) given in
      let d = c.args.self.now in
      let task = task_at d.high (frame_of c.frame_back-frame.result) in
      let fares = fared m task d.high c.look.new.self d.high_store c.look.new.store c.look.result (Device c.in-Err-Device.faults) (c.in-Err-Device.is ∙ ap (λ f. Err f) c.in-Err-Device.field-0-is) c.look.ensures.fares in
      let b = breaks m d p s c.args.moment c.requires.order c.look.new.self c.look.new.store c.look.new.ends attaches (frame_of c.frame_back-frame.result) back c.in-Err-Device.faults comes fares in
      (b.end, [], b.breaks, sym (append-nil (lines_in c.args.out.now.items)), b.fails, b.fits);
  works =
      let m = g.D.Disk.told in
      let d = c.args.self.now in
      let frame = frame_of c.frame_back-frame.result in
      let e = Device c.in-Err-Device.faults in
      let fares = fared m (task_at d.high frame) d.high c.look.new.self d.high_store c.look.new.store c.look.result e (c.in-Err-Device.is ∙ ap (λ f. Err f) c.in-Err-Device.field-0-is) c.look.ensures.fares in
      broken_works m d c.args.moment c.look.new.self c.look.new.store c.look.new.ends frame c.in-Err-Device.faults fares;
  ahead =
      λ fault asks.
      let m = g.D.Disk.told in
      let d = c.args.self.now in
      let frame = frame_of c.frame_back-frame.result in
      let task = ap (λ f. task_at d.high f) c.frame_back-frame.ensures ∙ asks in
      let fares = fared m (task_at d.high frame) d.high c.look.new.self d.high_store c.look.new.store c.look.result (Device c.in-Err-Device.faults) (c.in-Err-Device.is ∙ ap (λ f. Err f) c.in-Err-Device.field-0-is) c.look.ensures.fares in
      absurd (never_broken m d c.args.moment c.look.new.self c.look.new.store c.look.new.ends (task_at d.high frame) fault c.in-Err-Device.faults (asks_no_fault d.high frame c.in-Err-Device.faults) task fares);
  goes = search rules;
  serve =
      let m = g.D.Disk.told in
      let d = c.args.self.now in
      let frame = frame_of c.frame_back-frame.result in
      let task = task_at d.high frame in
      let fares = fared m task d.high c.look.new.self d.high_store c.look.new.store c.look.result (Device c.in-Err-Device.faults) (c.in-Err-Device.is ∙ ap (λ f. Err f) c.in-Err-Device.field-0-is) c.look.ensures.fares in
      record {
        low_goes = inl (refl, refl);
        high_goes = broken_serves m d c.look.new.self c.look.new.store frame task c.in-Err-Device.faults fares (asks_no_fault d.high frame c.in-Err-Device.faults);
        recv_goes = inl (refl, refl);
        behind = removes_behind m d c.look.new.self c.look.new.store frame c.requires.able (λ p s. (let b = c.requires.back p s in (b.0, b.1, subst (λ f. ComesBack c.args.self.now.row.id p.world b.0 f b.1) (sym c.frame_back-frame.ensures) b.2))) c.look.ensures.images;
      };
  low = refl;
  high = search rules;
  recv = refl;
  out = le-add_right (length c.args.out.now.items) _;
  row = refl;
  moment = refl;
}

pub returns-in-Err-Ahead : goal.returns-in-Err-Ahead
returns-in-Err-Ahead g c = record {
  does =
      λ p s attaches back given.
      let m = g.D.Disk.told in
      let comes = subst (λ f. ComesBack c.args.self.now.row.id p.world attaches f back) (sym c.frame_back-frame.ensures) given in
      let d = c.args.self.now in
      let task = task_at d.high (frame_of c.frame_back-frame.result) in
      let fares = fared m task d.high c.look.new.self d.high_store c.look.new.store c.look.result (Ahead c.in-Err-Ahead.field-0-0 c.in-Err-Ahead.field-0-1) (c.in-Err-Ahead.is ∙ ap (λ f. Err f) c.in-Err-Ahead.field-0-is) c.look.ensures.fares in
      let same = subst (λ r. OnErr r (c.look.new.ends ≡ d.ends)) c.in-Err-Ahead.is c.look.ensures.refused in
      let b = refused m d p s c.args.moment c.requires.order c.look.new.self c.look.new.store c.look.new.ends attaches (frame_of c.frame_back-frame.result) back c.in-Err-Ahead.field-0-0 c.in-Err-Ahead.field-0-1 comes fares same in
      (b.end, [], b.leads, sym (append-nil (lines_in c.args.out.now.items)), b.stand, b.fits);
  works =
      let m = g.D.Disk.told in
      let d = c.args.self.now in
      let frame = frame_of c.frame_back-frame.result in
      let e = Ahead c.in-Err-Ahead.field-0-0 c.in-Err-Ahead.field-0-1 in
      let fares = fared m (task_at d.high frame) d.high c.look.new.self d.high_store c.look.new.store c.look.result e (c.in-Err-Ahead.is ∙ ap (λ f. Err f) c.in-Err-Ahead.field-0-is) c.look.ensures.fares in
      let same = subst (λ r. OnErr r (c.look.new.ends ≡ d.ends)) c.in-Err-Ahead.is c.look.ensures.refused in
      refused_works m d c.args.moment c.look.new.self c.look.new.store c.look.new.ends c.requires.order c.requires.able
      (refused_is m d c.args.moment c.look.new.self c.look.new.store c.look.new.ends (task_at d.high frame) e refl fares same);
  ahead =
      λ fault asks.
      let m = g.D.Disk.told in
      let d = c.args.self.now in
      let frame = frame_of c.frame_back-frame.result in
      let e = Ahead c.in-Err-Ahead.field-0-0 c.in-Err-Ahead.field-0-1 in
      let fares = fared m (task_at d.high frame) d.high c.look.new.self d.high_store c.look.new.store c.look.result e (c.in-Err-Ahead.is ∙ ap (λ f. Err f) c.in-Err-Ahead.field-0-is) c.look.ensures.fares in
      let same = subst (λ r. OnErr r (c.look.new.ends ≡ d.ends)) c.in-Err-Ahead.is c.look.ensures.refused in
      (refl, ap bare_of (refused_is m d c.args.moment c.look.new.self c.look.new.store c.look.new.ends (task_at d.high frame) e refl fares same));
  goes =
      let m = g.D.Disk.told in
      let d = c.args.self.now in
      let frame = frame_of c.frame_back-frame.result in
      let e = Ahead c.in-Err-Ahead.field-0-0 c.in-Err-Ahead.field-0-1 in
      let fares = fared m (task_at d.high frame) d.high c.look.new.self d.high_store c.look.new.store c.look.result e (c.in-Err-Ahead.is ∙ ap (λ f. Err f) c.in-Err-Ahead.field-0-is) c.look.ensures.fares in
      let same = subst (λ r. OnErr r (c.look.new.ends ≡ d.ends)) c.in-Err-Ahead.is c.look.ensures.refused in
      refused_goes m d c.args.moment c.look.new.self c.look.new.store c.look.new.ends
      (refused_is m d c.args.moment c.look.new.self c.look.new.store c.look.new.ends (task_at d.high frame) e refl fares same);
  serve =
      let m = g.D.Disk.told in
      let d = c.args.self.now in
      let frame = frame_of c.frame_back-frame.result in
      let task = task_at d.high frame in
      let fares = fared m task d.high c.look.new.self d.high_store c.look.new.store c.look.result (Ahead c.in-Err-Ahead.field-0-0 c.in-Err-Ahead.field-0-1) (c.in-Err-Ahead.is ∙ ap (λ f. Err f) c.in-Err-Ahead.field-0-is) c.look.ensures.fares in
      record {
        low_goes = inl (refl, refl);
        high_goes = refused_serves m d c.look.new.self c.look.new.store frame task (Ahead c.in-Err-Ahead.field-0-0 c.in-Err-Ahead.field-0-1) refl fares;
        recv_goes = inl (refl, refl);
        behind = removes_behind m d c.look.new.self c.look.new.store frame c.requires.able (λ p s. (let b = c.requires.back p s in (b.0, b.1, subst (λ f. ComesBack c.args.self.now.row.id p.world b.0 f b.1) (sym c.frame_back-frame.ensures) b.2))) c.look.ensures.images;
      };
  low = refl;
  high = search rules;
  recv = refl;
  out = le-add_right (length c.args.out.now.items) _;
  row = refl;
  moment = refl;
}

pub returns-in-Err-Behind : goal.returns-in-Err-Behind
returns-in-Err-Behind g c = record {
  does =
      λ p s attaches back given.
      let m = g.D.Disk.told in
      let d = c.args.self.now in
      let frame = frame_of c.frame_back-frame.result in
      let comes = subst (λ f. ComesBack c.args.self.now.row.id p.world attaches f back) (sym c.frame_back-frame.ensures) given in
      let e = Behind c.in-Err-Behind.field-0-0 c.in-Err-Behind.field-0-1 in
      let fares = fared m (task_at d.high frame) d.high c.look.new.self d.high_store c.look.new.store c.look.result e (c.in-Err-Behind.is ∙ ap (λ f. Err f) c.in-Err-Behind.field-0-is) c.look.ensures.fares in
      absurd (never_behind m d p s c.args.moment c.requires.order c.look.new.self c.look.new.store c.look.new.ends attaches frame back c.in-Err-Behind.field-0-0 c.in-Err-Behind.field-0-1 comes fares);
  works =
      let m = g.D.Disk.told in
      let d = c.args.self.now in
      let frame = frame_of c.frame_back-frame.result in
      let e = Behind c.in-Err-Behind.field-0-0 c.in-Err-Behind.field-0-1 in
      let fares = fared m (task_at d.high frame) d.high c.look.new.self d.high_store c.look.new.store c.look.result e (c.in-Err-Behind.is ∙ ap (λ f. Err f) c.in-Err-Behind.field-0-is) c.look.ensures.fares in
      let same = subst (λ r. OnErr r (c.look.new.ends ≡ d.ends)) c.in-Err-Behind.is c.look.ensures.refused in
      refused_works m d c.args.moment c.look.new.self c.look.new.store c.look.new.ends c.requires.order c.requires.able
      (refused_is m d c.args.moment c.look.new.self c.look.new.store c.look.new.ends (task_at d.high frame) e refl fares same);
  ahead =
      λ fault asks.
      let m = g.D.Disk.told in
      let d = c.args.self.now in
      let frame = frame_of c.frame_back-frame.result in
      let e = Behind c.in-Err-Behind.field-0-0 c.in-Err-Behind.field-0-1 in
      let fares = fared m (task_at d.high frame) d.high c.look.new.self d.high_store c.look.new.store c.look.result e (c.in-Err-Behind.is ∙ ap (λ f. Err f) c.in-Err-Behind.field-0-is) c.look.ensures.fares in
      let same = subst (λ r. OnErr r (c.look.new.ends ≡ d.ends)) c.in-Err-Behind.is c.look.ensures.refused in
      (refl, ap bare_of (refused_is m d c.args.moment c.look.new.self c.look.new.store c.look.new.ends (task_at d.high frame) e refl fares same));
  goes =
      let m = g.D.Disk.told in
      let d = c.args.self.now in
      let frame = frame_of c.frame_back-frame.result in
      let e = Behind c.in-Err-Behind.field-0-0 c.in-Err-Behind.field-0-1 in
      let fares = fared m (task_at d.high frame) d.high c.look.new.self d.high_store c.look.new.store c.look.result e (c.in-Err-Behind.is ∙ ap (λ f. Err f) c.in-Err-Behind.field-0-is) c.look.ensures.fares in
      let same = subst (λ r. OnErr r (c.look.new.ends ≡ d.ends)) c.in-Err-Behind.is c.look.ensures.refused in
      refused_goes m d c.args.moment c.look.new.self c.look.new.store c.look.new.ends
      (refused_is m d c.args.moment c.look.new.self c.look.new.store c.look.new.ends (task_at d.high frame) e refl fares same);
  serve =
      let m = g.D.Disk.told in
      let d = c.args.self.now in
      let frame = frame_of c.frame_back-frame.result in
      let e = Behind c.in-Err-Behind.field-0-0 c.in-Err-Behind.field-0-1 in
      let fares = fared m (task_at d.high frame) d.high c.look.new.self d.high_store c.look.new.store c.look.result e (c.in-Err-Behind.is ∙ ap (λ f. Err f) c.in-Err-Behind.field-0-is) c.look.ensures.fares in
      record {
        low_goes = inl (refl, refl);
        high_goes = refused_serves m d c.look.new.self c.look.new.store frame (task_at d.high frame) e refl fares;
        recv_goes = inl (refl, refl);
        behind = removes_behind m d c.look.new.self c.look.new.store frame c.requires.able (λ p s. (let b = c.requires.back p s in (b.0, b.1, subst (λ f. ComesBack c.args.self.now.row.id p.world b.0 f b.1) (sym c.frame_back-frame.ensures) b.2))) c.look.ensures.images;
      };
  low = refl;
  high = search rules;
  recv = refl;
  out = le-add_right (length c.args.out.now.items) _;
  row = refl;
  moment = refl;
}
