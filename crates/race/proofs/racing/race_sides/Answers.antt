use Rattle.std.proofs.Common.{◌≡◌, ℕ, Bool, true, false, true≢false, List, [], ◌++◌, refl, sym, ap, ◌∙◌, subst, append-nil, arith}
use Rattle.std.proofs.lemmas.Result.{IfOk-from_err}
use Rattle.std.specs.Prelude.{◌||◌}
use Rattle.disk_model.specs.Plain.{Plain}
use Rattle.pump_frame.specs.declared.row.SessionRow.{SessionRow}
use Rattle.stable_buffer.specs.Low.{StandsForCount}
use Rattle.stable_buffer.specs.Stands.{HighStands as HighDiskStands}
use Rattle.stable_buffer.specs.Log.{RecvStands}
use Rattle.pump_link.specs.Tells.{Grows}
use Rattle.pump_core.specs.Passage.{Shape, Low, High, shape_of_row, Fits}
use Rattle.passage.specs.declared.waiting.Calm.{Calm}
use Rattle.relay_ring.specs.RingEnds as ring
use Rattle.relay_ring.specs.declared.ends.RingLow.{RingLow}
use Rattle.relay_ring.specs.declared.ends.RingHigh.{RingHigh}
use Rattle.script_reader.specs.Generated.{generated_row}
use Rattle.relay_threads.specs.Records.{recorded}
use Rattle.relay_threads.specs.RecordLines.{record_text}
use Rattle.race.specs.MadeLooks.{moments_of, acks_of}
use Rattle.race.specs.Messages.{race_opening}
use Rattle.race.specs.Race.{AreRaceLooks, ArePrinted, end_lines, payloads}
use Rattle.race.specs.Turns.{turns, AsksHigh, asks_of, asks_in_run}
use Rattle.race.proofs.Finish.{looks_are, all_acked, printed_by_both, received_by_both, low_count_is, high_count_is, recv_count_is}
use Rattle.race.proofs.Unstarted.{onerr_always}
use Rattle.race.proofs.Tapes.{keeps_none, either}
use Rattle.race.proofs.racing.race_sides.Goals as goal

-- what the ends of the ring mean where they are given as ends that may wait
abbrev LowEndStands : Calm RingLow → Low → High → Type 0
LowEndStands end = ring.LowEndStands end.0

abbrev HighEndStands : Calm RingHigh → Low → High → Type 0
HighEndStands end = ring.HighEndStands end.0

abbrev low_shape : Calm RingLow → Shape
low_shape end = ring.low_shape end.0

abbrev high_shape : Calm RingHigh → Shape
high_shape end = ring.high_shape end.0

-- what two ends did fits, since it fits of the ends that were let go
fits_left : (low low_end : Calm RingLow) (high high_end : Calm RingHigh) → low_end ≡ low → high_end ≡ high → high_shape high ≡ shape_of_row generated_row
    → ((l : Low) (h : High) → LowEndStands low_end l h → HighEndStands high_end l h → Fits (high_shape high_end) l h)
    → (l : Low) (h : High) → LowEndStands low l h → HighEndStands high l h → Fits (shape_of_row generated_row) l h
fits_left low low_end high high_end low_is high_is shape lawful l h low_stands high_stands =
    subst (λ (s : Shape). Fits s l h) (ap high_shape high_is ∙ shape)
    (lawful l h (subst (λ (end : Calm RingLow). LowEndStands end l h) (sym low_is) low_stands) (subst (λ (end : Calm RingHigh). HighEndStands end l h) (sym high_is) high_stands))

pub returns : goal.returns
returns g c = record {
  «record» =
      λ low_on high_on.
      let r = c.in_ok-raced.ensures in
      let low = c.run_sides.new.low in
      let high = c.run_sides.new.high in
      let made = r.low.0 in
      let a = r.low.1 in
      let done = r.low_ends.done low_on in
      let (b, all) = r.high_ends.done high_on in
      let same : low.count ≡ high.count = r.low_stays.count ∙ c.requires.count ∙ sym r.high_stays.count in
      let stands = b.fitting.0 in
      let fits = fits_left low.half.ends c.into_disk-low_disk.result.1 high.half.ends c.into_disks-high_disk.result.1 c.into_disk-low_disk.ensures.end c.into_disks-high_disk.ensures.end (r.high_stays.shape_is ∙ c.requires.shape) c.rejoin.ensures.lawful
      a.low b.high a.fitting.0 (record { is = stands.is; taken = stands.taken; floor = stands.floor; times = stands.times; taken_before = stands.taken_before; tries = stands.tries }) in
      let times_are : c.as_slice.result.now ≡ high.times.items = c.as_slice.ensures.value in
      let none : c.in_ok-raced.raced.low_stopped || c.in_ok-raced.raced.high_stopped ≡ false = ap (λ (z : Bool × Bool). z.0 || z.1) (λ i. (low_on i, high_on i)) in
      let O = g.O.Sink in
      let text = record_text generated_row race_opening made in
      let ends = end_lines (turns c.as_slice.result.now high.count) c.count.result c.next.result c.removed.result in
      let took_is : c.count.result ≡ high.count = omega (arith, c.count.ensures, b.recv.count_is, recv_count_is LowEndStands low_shape low made a HighEndStands high b done all same fits.agrees) in
      let next_is : c.next.result ≡ high.count = c.next.ensures ∙ low_count_is LowEndStands low_shape low made a HighEndStands high b done all same fits.agrees in
      let gone_is : c.removed.result ≡ high.count = omega (arith, c.removed.ensures, b.is_past.holds.removed, high_count_is LowEndStands low_shape low made a HighEndStands high b done all same fits.agrees) in
      let opened = c.open.ensures.prints (O.written c.args.out.now) (O.faults c.args.out.now) (O.written c.args.out.now) (O.faults c.args.out.now) [] (keeps_none _ _ _ c.new-tape.ensures.empty c.new-tape.ensures.going) in
      let looked = r.low.3 (O.written c.args.out.now) (O.faults c.args.out.now) _ opened in (
        text ++ ends,
        moments_of made,
        asks_of (acks_of made),
        c.close-write_failed.ensures.ended none (O.written c.args.out.now) (O.faults c.args.out.now) text looked,
        r.low.2,
        subst (λ (stopped : Bool). Grows (g.G.Gate.asked c.args.low_gate.now) (g.G.Gate.asked c.run_sides.new.low_gate) (asks_in_run stopped (acks_of made))) low_on r.low.4,
        record {
          made = made;
          looks = subst (λ (seed : ℕ). AreRaceLooks seed made) r.low_stays.seed (looks_are LowEndStands low_shape low made a);
          readings_are = refl;
          asks_are = refl;
          acked = all_acked LowEndStands low_shape low made a done ∙ same ∙ r.high_stays.count;
          readable = record { opening = c.open.ensures.reads; coarse = λ e. absurd (true≢false (sym e)); looks = r.low.5 };
          printed = subst (λ (z : ℕ × ℕ × List ℕ). ArePrinted z.0 z.1 z.2 (moments_of made) (recorded made)) (λ i. (r.low_stays.seed i, r.high_stays.count i, ap (λ t. t.items) r.high_stays.times i))
              (printed_by_both LowEndStands low_shape low made a HighEndStands high b done all same fits.agrees);
          bytes_are = ap (λ (z : List ℕ × ℕ × ℕ × ℕ × ℕ). text ++ end_lines (turns z.0 z.1) z.2 z.3 z.4)
              (λ i. ((times_are ∙ ap (λ t. t.items) r.high_stays.times) i, r.high_stays.count i, (took_is ∙ r.high_stays.count) i, (next_is ∙ r.high_stays.count) i, (gone_is ∙ r.high_stays.count) i));
        },
      );
  cut_short =
      λ stopped.
      let r = c.in_ok-raced.ensures in
      let low = c.run_sides.new.low in
      let made = r.low.0 in
      let a = r.low.1 in
      let O = g.O.Sink in
      let text = record_text generated_row race_opening made in
      let one : c.in_ok-raced.raced.low_stopped || c.in_ok-raced.raced.high_stopped ≡ true = either c.in_ok-raced.raced.low_stopped c.in_ok-raced.raced.high_stopped stopped in
      let opened = c.open.ensures.prints (O.written c.args.out.now) (O.faults c.args.out.now) (O.written c.args.out.now) (O.faults c.args.out.now) [] (keeps_none _ _ _ c.new-tape.ensures.empty c.new-tape.ensures.going) in
      let looked = r.low.3 (O.written c.args.out.now) (O.faults c.args.out.now) _ opened in (
        text ++ [],
        moments_of made,
        asks_in_run c.in_ok-raced.raced.low_stopped (acks_of made),
        c.close-write_failed.ensures.stopped one (O.written c.args.out.now) (O.faults c.args.out.now) text looked,
        r.low.2,
        r.low.4,
        record {
          made = made;
          looks = subst (λ (seed : ℕ). AreRaceLooks seed made) r.low_stays.seed (looks_are LowEndStands low_shape low made a);
          readings_are = refl;
          asks_are = refl;
          acked = λ on. all_acked LowEndStands low_shape low made a (r.low_ends.done on) ∙ r.low_stays.count;
          readable = record { opening = c.open.ensures.reads; coarse = λ e. absurd (true≢false (sym e)); looks = r.low.5 };
          bytes_are = append-nil text;
        },
      );
  disks =
      λ low_on high_on.
      let r = c.in_ok-raced.ensures in
      let low = c.run_sides.new.low in
      let high = c.run_sides.new.high in
      let made = r.low.0 in
      let a = r.low.1 in
      let done = r.low_ends.done low_on in
      let (b, all) = r.high_ends.done high_on in
      let same : low.count ≡ high.count = r.low_stays.count ∙ c.requires.count ∙ sym r.high_stays.count in
      let stands = b.fitting.0 in
      let fits = fits_left low.half.ends c.into_disk-low_disk.result.1 high.half.ends c.into_disks-high_disk.result.1 c.into_disk-low_disk.ensures.end c.into_disks-high_disk.ensures.end (r.high_stays.shape_is ∙ c.requires.shape) c.rejoin.ensures.lawful
      a.low b.high a.fitting.0 (record { is = stands.is; taken = stands.taken; floor = stands.floor; times = stands.times; taken_before = stands.taken_before; tries = stands.tries }) in
      let next_is = low_count_is LowEndStands low_shape low made a HighEndStands high b done all same fits.agrees ∙ r.high_stays.count in
      let removed_is = high_count_is LowEndStands low_shape low made a HighEndStands high b done all same fits.agrees ∙ r.high_stays.count in
      let messages : b.received ≡ payloads c.args.low.seed c.args.high.count =
      received_by_both LowEndStands low_shape low made a HighEndStands high b done all same fits.agrees ∙ ap (λ (z : ℕ × ℕ). payloads z.0 z.1) (λ i. (r.low_stays.seed i, r.high_stays.count i)) in
      let store = a.store a.up in
      record {
        low_stands = subst (λ (z : SessionRow × ℕ × Plain). StandsForCount z.0 z.1 z.2.bytes) (λ i. ((store.row ∙ a.row) i, (store.count ∙ next_is) i, sym c.into_disk-low_disk.ensures.disk i)) (store.ready.stands tt);
        high_stands = subst (λ (z : ℕ × Plain). HighDiskStands generated_row z.0 z.1.bytes) (λ i. (removed_is i, sym c.into_disks-high_disk.ensures.disk i)) b.disk;
        recv_stands = subst (λ (z : List (List ℕ) × Plain). RecvStands generated_row z.0 z.1.bytes) (λ i. (messages i, sym c.into_disks-high_disk.ensures.recv i)) b.recv.stands;
      };
  low_stopped = c.in_ok-raced.ensures.low_ends.stops;
  high_stopped = c.in_ok-raced.ensures.high_ends.stops;
  asked_high =
      let r = c.in_ok-raced.ensures in
      let H = g.H.Gate in
      subst (λ (z : ℕ × Plain). AsksHigh z.0 c.in_ok-raced.raced.high_stopped (H.asked c.args.high_gate.now) (H.asked c.run_sides.new.high_gate) z.1.bytes) (λ i. (r.high_stays.count i, sym c.into_disks-high_disk.ensures.recv i)) r.high_asks;
  nothing = tt;
}

pub returns-in_err-raced : goal.returns-in_err-raced
returns-in_err-raced g c = record {
  «record» = IfOk-from_err c.from_residual.result _ c.from_residual.ensures.0;
  cut_short = IfOk-from_err c.from_residual.result _ c.from_residual.ensures.0;
  disks = IfOk-from_err c.from_residual.result _ c.from_residual.ensures.0;
  low_stopped = IfOk-from_err c.from_residual.result _ c.from_residual.ensures.0;
  high_stopped = IfOk-from_err c.from_residual.result _ c.from_residual.ensures.0;
  asked_high = IfOk-from_err c.from_residual.result _ c.from_residual.ensures.0;
  nothing = onerr_always c.from_residual.result c.in_err-raced.ensures.nothing;
}
