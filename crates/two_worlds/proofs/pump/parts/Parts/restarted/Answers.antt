use Rattle.std.proofs.Common.{◌≡◌, ℕ, ◌<◌, ◌^◌, Option, Some, Err, false, [], ◌∷◌, refl, sym, ap, ◌∙◌, subst, arith}
use Rattle.std.specs.Prelude.{is_some, ◌&&◌}
use Rattle.std.proofs.Math.Logic.{∥∥₁_map, ∥∥₁_elim}
use Rattle.std.proofs.Props.{props}
use Rattle.pump_frame.specs.Rows.{first_bad}
use Rattle.pump_frame.specs.declared.frame.Item.{Item}
use Rattle.pump_frame.specs.declared.row.SessionRow.{SessionRow}
use Rattle.disk_model.specs.Disk.{Moves, Same}
use Rattle.stable_buffer.specs.Low.{low_disk}
use Rattle.stable_buffer.specs.High.{high_disk}
use Rattle.recovery.specs.Calls.{Calls, CallsHigh, is_low, is_high, is_device}
use Rattle.recovery.specs.Refusals.{refused_pump}
use Rattle.stable_buffer.specs.Stands.{LowStands}
use Rattle.pump_core.specs.Events.{pump_crashed}
use Rattle.pump_core.specs.History.{History, Opening, first_life, reopened}
use Rattle.pump_core.specs.Passage.{new_low, new_high}
use Rattle.pump_core.specs.Standing.{KeepsExchanges}
use Rattle.passage.specs.Plain.{StandsFor as EndsStand}
use Rattle.low_process.specs.Looks as low
use Rattle.high_process.specs.Past as high_past
use Rattle.high_process.specs.Looks.{StandsFor as HighStandsFor}
use Rattle.recovery.specs.Deals.{numbered, passing, InHands}
use Rattle.script_reader.specs.Openings.{restarted}
use Rattle.two_worlds.specs.declared.pump.parts.Parts.{Parts}
use Rattle.two_worlds.specs.Private.Opened.{AreOpened}
use Rattle.two_worlds.specs.Working.{Works}
use Rattle.high_receiver.specs.Receiving.{recv_disk}
use Rattle.script_reader.proofs.Opened.{row_capacity}
use Rattle.script_reader.specs.declared.event.Event.TheVariants.{Restart}
use Rattle.script_reader.specs.declared.event.EventHead.TheVariants.{Restart as RestartHead}
use Rattle.two_worlds.specs.declared.applied.Stop.{Stop}
use Rattle.two_worlds.specs.declared.pump.state.BareDisks.{BareDisks}
use Rattle.two_worlds.specs.declared.pump.state.PumpState.TheVariants.{Shut}
use Rattle.two_worlds.specs.Private.Restarting.{stop_for, RestartsFrom, RestartsOn, DisksRestart}
use Rattle.two_worlds.specs.Standing.{bare_of}
use Rattle.two_worlds.proofs.Lines.Kept.{none_bad}
use Rattle.two_worlds.proofs.Opening.Lives.{begins_again}
use Rattle.two_worlds.proofs.Opening.Opened.{works, keeps_exchanges}
use Rattle.two_worlds.proofs.Opening.Working.{works_of}
use Rattle.two_worlds.proofs.Opening.Restarting.{last_hand, number_some, IsNotOpened, refused_from, refused_on, refused_serves, opened_serves, opened_leaves}
use Rattle.two_worlds.proofs.pump.parts.Parts.restarted.Goals as goal

pub open_pump-requires-clause-lawful : goal.open_pump-requires-clause-lawful
open_pump-requires-clause-lawful g c = none_bad (first_bad c.args.self.row) (∥∥₁_map c.requires.able.works (λ w. w.row))

pub open_pump-requires-clause-shape : goal.open_pump-requires-clause-shape
open_pump-requires-clause-shape g c = ap (λ s. s.places) c.clear.ensures.shape ∙ ∥∥₁_elim c.requires.able.works (hlevel props) (λ w. ap (λ s. s.places) w.ends.shape)

pub open-requires-clause-hand : goal.open-requires-clause-hand
open-requires-clause-hand g c = last_hand c.in-Ok.pump.low_hand c.in-Ok.pump.removed c.in-Ok.pump.next c.args.self.row.capacity
    (let wide = row_capacity c.args.self.row (none_bad (first_bad c.args.self.row) (∥∥₁_map c.requires.able.works (λ w. w.row))) in omega (arith, wide.0)) c.in-Ok.ensures.hands.last

pub returns-in-Ok : goal.returns-in-Ok
returns-in-Ok g c =
    let m = g.D.Disk.told in
    let s = c.args.self in
    let e = c.in-Ok.ensures in
    let pump = c.in-Ok.pump in
    let low_opens = c.open.ensures in
    let high_opens = c.open-in-Ok.ensures in
    let next = e.counts.0 in
    let removed = e.counts.1 in
    let (ms, stands, dealt) = e.dealt in
    let moves_low : Moves m Same (low_disk s.low_store) (low_disk pump.low) = subst (λ (x : _). Moves m Same x (low_disk pump.low)) c.into_disk.ensures e.moves_low in
    let moves_high : Moves m Same (high_disk s.high_store) (high_disk pump.high) = subst (λ (x : _). Moves m Same x (high_disk pump.high)) c.into_disk-2.ensures e.moves_high in
    let calls_low : Calls m (low_disk s.low_store) (low_disk pump.low) false = subst (λ (x : _). Calls m x (low_disk pump.low) false) c.into_disk.ensures e.calls_low in
    let calls_high : CallsHigh m s.row (low_disk s.low_store) (high_disk s.high_store) (high_disk pump.high) false =
    subst (λ (x : _ × _). CallsHigh m s.row x.0 x.1 (high_disk pump.high) false) (λ i. (c.into_disk.ensures i, c.into_disk-2.ensures i)) e.calls_high in
    let d : Parts _ = record {
      row = s.row;
      connection = c.lose.new.self;
      low = c.open.result;
      low_store = pump.low;
      ends = c.open_pump.new.ends;
      high = c.open-in-Ok.result;
      high_store = pump.high;
      receiver = s.receiver;
      sent = s.sent;
      returned = s.returned;
      taken = s.taken;
      moment = c.args.moment;
    } in
    let opened : (w : Works m s) (lives : Opening → History) → low.StandsFor c.open.result (lives (low.opening_of pump.next pump.low_hand)) → AreOpened m d lives = λ w lives history. record {
      row = w.row;
      connection = c.lose.ensures;
      low_ready = e.ready_low;
      store_row = e.row;
      high_ready = e.ready_high;
      recv_ready = w.recv_ready.ready;
      recv_row_is = w.recv_ready.row;
      recv_size_is = w.recv_ready.size;
      messages = ms;
      stands = λ told. subst (λ (v : ℕ × ℕ). LowStands s.row v.0 v.1 ms (m.reading (low_disk pump.low))) (λ i. (sym next i, sym removed i)) (subst (LowStands s.row pump.next pump.removed ms) (sym (e.moves_low.reads told)) (stands told));
      count = omega (arith, dealt.count, next, removed);
      places = omega (arith, dealt.places, next, removed);
      short = dealt.short;
      hands = subst (λ (v : ℕ × Option Item × Option Item). InHands s.row.capacity (numbered v.0 ms) v.1 v.2) (λ i. (sym removed i, sym high_opens.hand i, sym low_opens.hand i)) dealt.hands;
      ends = subst (λ (b : ℕ). EndsStand d.ends (record new_low { forwarded = passing s.row.capacity (numbered b ms) }) new_high) (sym removed) (dealt.fills new_low new_high c.clear.ensures.empty refl);
      shape = c.open_pump.ensures.ends.0 ∙ c.clear.ensures.shape ∙ w.ends.shape;
      history = subst (λ (v : ℕ × Option Item). low.StandsFor c.open.result (lives (low.opening_of v.0 v.1))) (λ i. (sym next i, sym low_opens.hand i)) history;
      low_between = low_opens.between;
      low_row_is = low_opens.row;
      next = low_opens.next ∙ sym next;
      low_last = low_opens.last;
      low_up = low_opens.up;
      past = subst (λ (v : ℕ × Option Item). HighStandsFor c.open-in-Ok.result (high_past.fresh v.0 v.1)) (λ i. (sym removed i, sym high_opens.hand i)) high_opens.stands;
      high_between = high_opens.between;
      high_row = high_opens.row;
      removed = high_opens.removed ∙ sym removed;
      published = high_opens.published;
      high_last = high_opens.last;
      high_up = high_opens.up;
      packets = record { sent = w.packets.sent; returned = w.packets.returned; taken = w.packets.taken };
    } in
    record {
      does = λ told p st.
          let keeps : KeepsExchanges s.row p.history = subst (λ (r : SessionRow). KeepsExchanges r p.history) st.low_ready.row (keeps_exchanges s.low p.history st.low_ready.history) in
          let again = opened (works_of m s p st) (reopened p.history) (low_opens.again p.history keeps) in
          let stood = begins_again m told d s p st again refl refl refl (moves_low.reads told) (moves_high.reads told) refl in
          let q = restarted p (pump_crashed p.world (Some (false, false))) c.args.moment in (
            q,
            (
              refl,
              refl,
              λ i. Restart s.row.id c.args.moment (sym (stood.world.accepted ∙ low_opens.next) i) (sym (stood.world.removed ∙ high_opens.removed) i)
                  ((c.is_some.ensures ∙ sym (ap is_some stood.world.low_hand ∙ number_some (low.hand_of c.open.result) ∙ ap is_some low_opens.hand)) i) ∷ [],
            ),
            stood,
            opened_leaves m s d p q st refl moves_low moves_high,
          );
      on = ∥∥₁_map c.requires.able.works (λ w. works m d first_life (opened w first_life low_opens.first) w.short.sent);
      serve = opened_serves m s d c.requires.able.stands refl refl calls_low calls_high moves_high (RestartHead s.row.id c.args.moment pump.next pump.removed c.is_some.result);
    }

pub returns-in-Err : goal.returns-in-Err
returns-in-Err g c =
    let m = g.D.Disk.told in
    let s = c.args.self in
    let small : s.row.id < 2 ^ 32 = omega arith in
    let e = c.in-Err.ensures in
    let r = c.in-Err.refused in
    let were : (c.into_disk.result, c.into_disk-2.result) ≡ (low_disk s.low_store, high_disk s.high_store) = λ i. (c.into_disk.ensures i, c.into_disk-2.ensures i) in
    let n : IsNotOpened m s r.low r.high r.role r.why = record {
      exact = subst (λ (x : _ × _). is_device r.why ≡ false → m.tells → refused_pump s.row (m.reading x.0) (m.reading x.1) ≡ Some (r.role, r.why)) were e.exact;
      device_low = e.device_low;
      device_high = e.device_high;
      of_pump = e.role;
      low_same = subst (λ (x : _). Moves m Same x r.low) c.into_disk.ensures e.moves_low;
      high_same = subst (λ (x : _). Moves m Same x r.high) c.into_disk-2.ensures e.moves_high;
    } in
    let is : (c.stop_for-stop.result, c.into_disk-in-Err.result) ≡ (stop_for r.role r.why, recv_disk s.receiver) = λ i. (c.stop_for-stop.ensures i, c.into_disk-in-Err.ensures i) in
    let shut : _ → BareDisks _ = λ recv. record { row = s.row; low = r.low; high = r.high; recv = recv } in
    record {
      does = λ told p st.
          subst (λ (t : Stop × _). RestartsFrom m (bare_of s) (Shut (shut t.1)) c.args.moment p (Err t.0)) (sym is) (refused_from m s r.low r.high r.role r.why n c.args.moment p told small st);
      on = subst (λ (t : Stop × _). RestartsOn m (Shut (shut t.1)) (Err t.0)) (sym is) (refused_on m s r.low r.high r.role r.why n);
      serve = subst (λ (t : Stop × _). DisksRestart m (bare_of s) (shut t.1) (Err t.0)) (sym is) (refused_serves m s r.low r.high r.role r.why n c.requires.able.stands
          (subst (λ (x : _). Calls m x r.low (is_low r.role && is_device r.why)) c.into_disk.ensures e.calls_low)
          (subst (λ (x : _ × _). CallsHigh m s.row x.0 x.1 r.high (is_high r.role && is_device r.why)) were e.calls_high));
    }
