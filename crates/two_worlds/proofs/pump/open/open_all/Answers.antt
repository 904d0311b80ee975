use Rattle.std.proofs.Common.{is_some, true, ◌≡◌, inl, inr, ◌∙◌, ◌&&◌, ℕ, List, false, not, IfSome, slice_index_or, [], refl, sym, ap, subst, arith, Some}
use Rattle.disk_model.specs.Disk.{Moves, Same}
use Rattle.disk_model.specs.declared.name.Role.TheVariants as roles
use Rattle.disk_model.proofs.Run.{goes_on_same, started}
use Rattle.pump_core.specs.Passage.{new_low, new_high}
use Rattle.pump_frame.specs.declared.row.SessionRow.{SessionRow}
use Rattle.stable_buffer.specs.Low.{low_disk, low_is_open}
use Rattle.stable_buffer.specs.Log.{RecvStands}
use Rattle.stable_buffer.specs.Register.{value_of}
use Rattle.stable_buffer.specs.Stands.{InSlot}
use Rattle.high_receiver.specs.Receiving.{recv_disk, recv_is_open}
use Rattle.recovery.specs.Agreement.{Disagrees}
use Rattle.recovery.specs.Calls.{is_device}
use Rattle.recovery.specs.declared.why.Why.TheVariants.{Device}
use Rattle.two_worlds.specs.Openings.{IsRefused, DiffersFor, failed_at, disk_back}
use Rattle.two_worlds.specs.Rooms.{Serves, is_role}
use Rattle.two_worlds.specs.Private.Readied.{role_blamed}
use Rattle.two_worlds.proofs.Disks.Together.{serves_then}
use Rattle.two_worlds.proofs.Opening.Blames.{low_said, not_recv, none_failed, one_failed, counts_pump, counts_blamed}
use Rattle.two_worlds.proofs.Opening.Comparing.{high_said, low_blamed, high_blamed, recv_blamed, serves_by, serves_high, compares_low, compares_recv}
use Rattle.two_worlds.proofs.pump.open.open_all.Goals as goal

-- refused at once
pub returns-in-Err : goal.returns-in-Err
returns-in-Err g c = record {
  pump = tt;
  receiver = tt;
  refused = λ other told. inl (c.in-Err.ensures.exact other told);
  device =
      λ is.
      let e = c.in-Err.refused in
      let w = c.in-Err.ensures in
      counts_pump g.D.Disk.told (record { role = e.role; why = Some e.why; low = e.low; high = e.high; recv = c.args.disks.recv }) e.why e.role w.role (w.device_low is) (w.device_high is);
  some = refl;
  low =
      let e = c.in-Err.refused in
      subst (λ b. Serves g.D.Disk.told 0 c.args.disks.low e.low b) (low_said e.role (is_device e.why)) (serves_by g.D.Disk.told 0 c.args.disks.low e.low _ c.in-Err.ensures.calls_low);
  high =
      let e = c.in-Err.refused in
      subst (λ b. Serves g.D.Disk.told 0 c.args.disks.high e.high b) (high_said e.role (is_device e.why)) (serves_high g.D.Disk.told 0 c.args.row.now c.args.disks.low c.args.disks.high e.high _ c.in-Err.ensures.calls_high);
  recv =
      let e = c.in-Err.refused in
      inl (refl, not_recv e.role (is_device e.why) c.in-Err.ensures.role);
  moves_low = c.in-Err.ensures.moves_low;
  moves_high = c.in-Err.ensures.moves_high;
  moves_recv = started g.D.Disk.told Same (λ b. refl) c.args.disks.recv;
}

pub returns-in-Err-open_receiver : goal.returns-in-Err-open_receiver
returns-in-Err-open_receiver g c = record {
  pump = tt;
  receiver = tt;
  refused =
      let m = g.D.Disk.told in
      subst (λ r. IfSome r.why (λ why. is_device why ≡ false → m.tells → IsRefused c.args.row.now (m.reading c.args.disks.low) (m.reading c.args.disks.high) (m.reading c.args.disks.recv) r.role why)) (sym c.refused.ensures)
      (λ other told. inr (c.in-Ok.ensures.fine told, refl, inl (c.in-Err-open_receiver.ensures.exact other told)));
  device =
      let m = g.D.Disk.told in
      subst (λ r. IfSome r.why (λ why. is_device why ≡ true → why ≡ Device (m.count (disk_back r.role r)))) (sym c.refused.ensures) c.in-Err-open_receiver.ensures.device;
  some = ap (λ r. is_some r.why) c.refused.ensures;
  low =
      let m = g.D.Disk.told in
      let old = c.args.disks.low in
      let new = low_disk c.in-Ok.pump.low in
      subst (λ r. Serves m 0 old (disk_back roles.Low r) (failed_at roles.Low r)) (sym c.refused.ensures)
      (subst (λ b. Serves m 0 old new b) (sym (none_failed (is_device c.in-Err-open_receiver.why))) (serves_by m 0 old new false c.in-Ok.ensures.calls_low));
  high =
      let m = g.D.Disk.told in
      let old = c.args.disks.high in
      let new = c.in-Ok.pump.high.register.disk in
      subst (λ r. Serves m 0 old (disk_back roles.High r) (failed_at roles.High r)) (sym c.refused.ensures)
      (subst (λ b. Serves m 0 old new b) (sym (none_failed (is_device c.in-Err-open_receiver.why))) (serves_high m 0 c.args.row.now c.args.disks.low old new false c.in-Ok.ensures.calls_high));
  recv =
      let m = g.D.Disk.told in
      let old = c.args.disks.recv in
      let new = c.in-Err-open_receiver.recv in
      let d = is_device c.in-Err-open_receiver.why in
      subst (λ r. Serves m 0 old (disk_back roles.Recv r) (failed_at roles.Recv r)) (sym c.refused.ensures)
      (subst (λ b. Serves m 0 old new b) (sym (one_failed d)) (serves_by m 0 old new d c.in-Err-open_receiver.ensures.calls_err));
  moves_low = subst (λ r. Moves g.D.Disk.told Same c.args.disks.low (disk_back roles.Low r)) (sym c.refused.ensures) c.in-Ok.ensures.moves_low;
  moves_high = subst (λ r. Moves g.D.Disk.told Same c.args.disks.high (disk_back roles.High r)) (sym c.refused.ensures) c.in-Ok.ensures.moves_high;
  moves_recv = subst (λ r. Moves g.D.Disk.told Same c.args.disks.recv (disk_back roles.Recv r)) (sym c.refused.ensures) c.in-Err-open_receiver.ensures.same_err;
}

-- opened
pub returns-in-Ok-agree : goal.returns-in-Ok-agree
returns-in-Ok-agree g c = record {
  pump =
      let e = c.in-Ok.ensures in
      let a = c.agree.ensures in
      let (ms, stands, dealt) = e.dealt in
      record {
        ready_low = a.low.ready c.in-Ok-agree.ensures.open.0;
        ready_high = e.ready_high;
        row_is = a.low.row ∙ e.row;
        counts = (a.low.count ∙ e.counts.0, e.counts.1);
        messages = ms;
        stands = stands;
        removed = e.removed;
        count = dealt.count;
        places = dealt.places;
        short = dealt.short;
        hands = dealt.hands;
        fit = e.hands;
        ends_stand = dealt.fills new_low new_high c.requires.fresh refl;
        shape = c.open_pump.ensures.ends.0 ∙ c.requires.shape;
      };
  receiver =
      let m = g.D.Disk.told in
      let row = c.args.row.now in
      let e = c.in-Ok.ensures in
      let r = c.in-Ok-open_receiver.ensures in
      let a = c.agree.ensures in
      let receiver = c.in-Ok-open_receiver.receiver in
      let low = c.in-Ok.pump.low in
      record {
        ready = a.receiver.ready c.in-Ok-agree.ensures.open.1;
        row_is = a.receiver.row ∙ r.row;
        size = a.receiver.size ∙ r.size;
        stands = r.stands;
        between = (omega (arith, c.in-Ok-agree.ensures.fine.0, a.receiver.count), omega (arith, c.in-Ok-agree.ensures.fine.1, a.receiver.count, e.counts.0));
        agrees = λ told ms s n from to.
            let s' : RecvStands receiver.row ms (m.reading (recv_disk receiver)) = subst (λ (t : SessionRow × List ℕ). RecvStands t.0 ms t.1) (λ i. (sym r.row i, sym (r.same.reads told) i)) s in
            let has = c.in-Ok-agree.ensures.fine.2 told ms s' n from (omega (arith, to, a.receiver.count)) in
            subst (λ (t : SessionRow × List ℕ). InSlot t.0 n (slice_index_or ms n []) t.1) (λ i. (e.row i, e.moves_low.reads told i)) has;
      };
  refused = tt;
  device = tt;
  some = tt;
  low =
      let m = g.D.Disk.told in
      let e = c.in-Ok.ensures in
      let a = c.agree.ensures in
      let low = c.in-Ok.pump.low in
      let new = c.agree.new.low in
      let receiver = c.in-Ok-open_receiver.receiver in
      serves_then m 0 c.args.disks.low (low_disk low) (low_disk new) false (serves_by m 0 c.args.disks.low (low_disk low) false e.calls_low)
      (subst (λ b. Serves m 0 (low_disk low) (low_disk new) b) (ap not c.in-Ok-agree.ensures.open.0)
      (compares_low m 0 c.args.row.now c.in-Ok.pump.removed receiver.register.first low.register.first low new receiver c.agree.new.receiver a.idle e.ready_low.ready.is_open (λ less within. (a.calls less within).low_called)));
  high = serves_high g.D.Disk.told 0 c.args.row.now c.args.disks.low c.args.disks.high c.in-Ok.pump.high.register.disk false c.in-Ok.ensures.calls_high;
  recv =
      let m = g.D.Disk.told in
      let r = c.in-Ok-open_receiver.ensures in
      let a = c.agree.ensures in
      let low = c.in-Ok.pump.low in
      let new = c.agree.new.receiver in
      let receiver = c.in-Ok-open_receiver.receiver in
      serves_then m 0 c.args.disks.recv (recv_disk receiver) (recv_disk new) false (serves_by m 0 c.args.disks.recv (recv_disk receiver) false r.calls)
      (subst (λ b. Serves m 0 (recv_disk receiver) (recv_disk new) b) (ap not c.in-Ok-agree.ensures.open.1)
      (compares_recv m 0 low.row c.in-Ok.pump.removed receiver.register.first low.register.first low c.agree.new.low receiver new a.idle r.ready.is_open (λ less within. (a.calls less within).receiver_called)));
  moves_low = goes_on_same g.D.Disk.told Same _ _ _ c.in-Ok.ensures.moves_low c.agree.ensures.low.moves;
  moves_high = c.in-Ok.ensures.moves_high;
  moves_recv = goes_on_same g.D.Disk.told Same _ _ _ c.in-Ok-open_receiver.ensures.same c.agree.ensures.receiver.moves;
}

-- refused by the comparison
pub returns-in-Err-agree : goal.returns-in-Err-agree
returns-in-Err-agree g c = record {
  pump = tt;
  receiver = tt;
  refused =
      let m = g.D.Disk.told in
      let row = c.args.row.now in
      let e = c.in-Ok.ensures in
      let r = c.in-Ok-open_receiver.ensures in
      let a = c.in-Err-agree.ensures in
      let low = c.in-Ok.pump.low in
      let pump = c.in-Ok.pump in
      let receiver = c.in-Ok-open_receiver.receiver in
      let why = c.in-Err-agree.why in
      let (ms, stands, dealt) = e.dealt in
      subst (λ r. IfSome r.why (λ why. is_device why ≡ false → m.tells → IsRefused row (m.reading c.args.disks.low) (m.reading c.args.disks.high) (m.reading c.args.disks.recv) r.role why)) (sym c.refused-in-Err-agree.ensures)
      (λ other told.
      let differs : DiffersFor row (m.reading c.args.disks.low) (m.reading c.args.disks.high) (m.reading c.args.disks.recv) why = λ messages s.
      let s' : RecvStands receiver.row messages (m.reading (recv_disk receiver)) = subst (λ (t : SessionRow × List ℕ). RecvStands t.0 messages t.1) (λ i. (sym r.row i, sym (r.same.reads told) i)) s in
      let removed : pump.removed ≡ (value_of (m.reading c.args.disks.high)).0 = ap (λ (v : ℕ × ℕ). v.0) (sym (e.removed told).value) in
      let taken : receiver.register.first ≡ (value_of (m.reading c.args.disks.recv)).0 = ap (λ (v : ℕ × ℕ). v.0) (r.value told) in
      let next : low.register.first ≡ (value_of (m.reading c.args.disks.low)).0 = e.counts.0 ∙ ap (λ (v : ℕ × ℕ). v.0) (sym (stands told).value) in
      subst (λ (t : SessionRow × ℕ × ℕ × ℕ × List ℕ). Disagrees t.0 t.1 t.2 t.3 messages t.4 why) (λ i. (e.row i, removed i, taken i, next i, e.moves_low.reads told i)) (a.exact other told messages s') in
      inr (e.fine told, c.blamed-role.ensures ∙ ap role_blamed (a.told.both other).0, inr (r.fine told, differs)));
  device =
      let m = g.D.Disk.told in
      let e = c.in-Err-agree.ensures in
      let why = c.in-Err-agree.why in
      let role = c.blamed-role.result in
      let low = low_disk c.agree.new.low in
      let high = c.in-Ok.pump.high.register.disk in
      let recv = recv_disk c.agree.new.receiver in
      subst (λ r. IfSome r.why (λ why. is_device why ≡ true → why ≡ Device (m.count (disk_back r.role r)))) (sym c.refused-in-Err-agree.ensures)
      (λ is.
      let shut : low_is_open c.agree.new.low ≡ true → recv_is_open c.agree.new.receiver ≡ false = λ up. elim (e.told.shut is) [ inl low_down ↦ absurd (cc) | inr down ↦ down ] in
      counts_blamed m (record { role = role; why = Some why; low = low; high = high; recv = c.into_disk.result }) why (low_is_open c.agree.new.low) role c.blamed-role.ensures
      (λ down. e.told.low_faults is down)
      (λ up. e.told.receiver_faults is (shut up) ∙ ap (λ d. Device (m.count d)) (sym c.into_disk.ensures)));
  some = ap (λ r. is_some r.why) c.refused-in-Err-agree.ensures;
  low =
      let m = g.D.Disk.told in
      let e = c.in-Ok.ensures in
      let a = c.agree.ensures in
      let d = is_device c.in-Err-agree.why in
      let low = c.in-Ok.pump.low in
      let new = c.agree.new.low in
      let old = c.args.disks.low in
      let receiver = c.in-Ok-open_receiver.receiver in
      let serves = serves_then m 0 old (low_disk low) (low_disk new) (not (low_is_open new)) (serves_by m 0 old (low_disk low) false e.calls_low)
      (compares_low m 0 c.args.row.now c.in-Ok.pump.removed receiver.register.first low.register.first low new receiver c.agree.new.receiver a.idle e.ready_low.ready.is_open (λ less within. (a.calls less within).low_called)) in
      let blamed : (d && is_role roles.Low c.blamed-role.result) ≡ not (low_is_open new) =
      ap (λ k. d && is_role roles.Low k) c.blamed-role.ensures ∙ low_blamed d (low_is_open new) (λ other. (c.in-Err-agree.ensures.told.both other).0) in
      subst (λ r. Serves m 0 old (disk_back roles.Low r) (failed_at roles.Low r)) (sym c.refused-in-Err-agree.ensures)
      (subst (λ b. Serves m 0 old (low_disk new) b) (sym blamed) serves);
  high =
      let m = g.D.Disk.told in
      let d = is_device c.in-Err-agree.why in
      let old = c.args.disks.high in
      let new = c.in-Ok.pump.high.register.disk in
      let blamed : (d && is_role roles.High c.blamed-role.result) ≡ false = ap (λ k. d && is_role roles.High k) c.blamed-role.ensures ∙ high_blamed d (low_is_open c.agree.new.low) in
      subst (λ r. Serves m 0 old (disk_back roles.High r) (failed_at roles.High r)) (sym c.refused-in-Err-agree.ensures)
      (subst (λ b. Serves m 0 old new b) (sym blamed) (serves_high m 0 c.args.row.now c.args.disks.low old new false c.in-Ok.ensures.calls_high));
  recv =
      let m = g.D.Disk.told in
      let r = c.in-Ok-open_receiver.ensures in
      let a = c.agree.ensures in
      let e = c.in-Err-agree.ensures in
      let d = is_device c.in-Err-agree.why in
      let low = c.in-Ok.pump.low in
      let new = c.agree.new.receiver in
      let old = c.args.disks.recv in
      let receiver = c.in-Ok-open_receiver.receiver in
      let serves = serves_then m 0 old (recv_disk receiver) (recv_disk new) (not (recv_is_open new)) (serves_by m 0 old (recv_disk receiver) false r.calls)
      (compares_recv m 0 low.row c.in-Ok.pump.removed receiver.register.first low.register.first low c.agree.new.low receiver new a.idle r.ready.is_open (λ less within. (a.calls less within).receiver_called)) in
      let blamed : (d && is_role roles.Recv c.blamed-role.result) ≡ not (recv_is_open new) =
      ap (λ k. d && is_role roles.Recv k) c.blamed-role.ensures ∙ recv_blamed d (low_is_open c.agree.new.low) (recv_is_open new) e.told.shut (λ other. (e.told.both other).1) e.told.one in
      subst (λ r. Serves m 0 old (disk_back roles.Recv r) (failed_at roles.Recv r)) (sym c.refused-in-Err-agree.ensures)
      (subst (λ k. Serves m 0 old k (d && is_role roles.Recv c.blamed-role.result)) (sym c.into_disk.ensures) (subst (λ b. Serves m 0 old (recv_disk new) b) (sym blamed) serves));
  moves_low =
      let m = g.D.Disk.told in
      subst (λ r. Moves m Same c.args.disks.low (disk_back roles.Low r)) (sym c.refused-in-Err-agree.ensures) (goes_on_same m Same _ _ _ c.in-Ok.ensures.moves_low c.agree.ensures.low.moves);
  moves_high = subst (λ r. Moves g.D.Disk.told Same c.args.disks.high (disk_back roles.High r)) (sym c.refused-in-Err-agree.ensures) c.in-Ok.ensures.moves_high;
  moves_recv =
      let m = g.D.Disk.told in
      let moves = goes_on_same m Same _ _ _ c.in-Ok-open_receiver.ensures.same c.agree.ensures.receiver.moves in
      subst (λ r. Moves m Same c.args.disks.recv (disk_back roles.Recv r)) (sym c.refused-in-Err-agree.ensures) (subst (λ k. Moves m Same c.args.disks.recv k) (sym c.into_disk.ensures) moves);
}
