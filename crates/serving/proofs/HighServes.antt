-- What the high worker did, from the run of its half.
use Rattle.std.proofs.Common.{◌≡◌, ℕ, ◌≤◌, false, Some, sym, ◌∙◌, subst, arith}
use Rattle.std.specs.List.{AllByRecursion}
use Rattle.disk_model.specs.Disk.{Meaning}
use Rattle.pump_frame.specs.declared.row.SessionRow.{SessionRow}
use Rattle.pump_core.specs.Passage.{Low, High, new_high}
use Rattle.pump_link.proofs.Grown.{Grows-all}
use Rattle.stable_buffer.specs.High.{StandsForRemoved, high_disk}
use Rattle.stable_buffer.specs.declared.high.HighStore.{HighStore}
use Rattle.high_process.specs.Ends.{StandsFitting}
use Rattle.high_process.specs.Looks.{StandsFor}
use Rattle.high_process.specs.Past.{ProcessPast}
use Rattle.relay_threads.specs.HighEnds.{HasTaken, answers_over}
use Rattle.relay_threads.specs.HighStays.{AreStays, TellsVisit, is_broken, stayed}
use Rattle.relay_threads.specs.Workers.{CountsEnd}
use Rattle.relay_threads.specs.declared.rounds_end.RoundsEnd.{RoundsEnd}
use Rattle.serving.specs.Doors.{DoorsTell}
use Rattle.serving.specs.Finding.{AtOpening, high_opening}
use Rattle.serving.specs.HighRuns.{HighLent}
use Rattle.serving.specs.HighServing.{DidHigh, HighServed}
use Rattle.serving.specs.PassageEnds.{EndTells}
use Rattle.serving.specs.Starting.{HighBegins}
use Rattle.relay_side.specs.Sides.{SideTells}
use Rattle.serving.specs.declared.high_half.HighParts.{HighParts}
use Rattle.serving.proofs.LowServes.{counts_from}

module _ {D L S E Place : Type 0} (t : DoorsTell D L) (m : Meaning S) (e : EndTells E Place) (row : SessionRow) (rounds : ℕ) (side : SideTells D L) (o : AtOpening) (v w : HighParts S E) (was : HighStore S) (disk now_disk : S) (end : RoundsEnd)
    (lent : HighLent t m e side row.high_port rounds v w end) {first : E} (start : HighBegins e.stands row o.removed o.high_hand was first v) (now_is : now_disk ≡ high_disk w.store) (counts : m.count disk ≤ m.count (high_disk was)) where
  first_counts : m.count disk ≤ m.count (high_disk v.store)
  first_counts = subst (λ (x : HighStore S). m.count disk ≤ m.count (high_disk x)) (sym start.store_is) counts

  abbrev past : ProcessPast
  past = stayed row (high_opening o) lent.ran.stays

  left_by : is_broken (Some end) ≡ false → m.tells → StandsForRemoved past.removed (m.reading now_disk)
  left_by sound told =
      let has = lent.ran.store sound in
      let stands = subst (λ (r : SessionRow). StandsFor w.process (stayed r (high_opening o) lent.ran.stays)) start.row_is (lent.ran.so.past has.up (high_opening o) start.stood) in
      subst (λ (x : ℕ × S). StandsForRemoved x.0 (m.reading x.1)) (λ i. ((has.count ∙ stands.holds.removed) i, sym now_is i)) (has.ready.stands told)

  -- its end of the passage, beside any low end
  took : (l : Low) → StandsFitting (e.stands v.ends) v.process l new_high → HasTaken (StandsFitting (e.stands w.ends) w.process) l new_high (high_opening o) past (answers_over row (high_opening o) lent.ran.stays)
  took l fits =
      subst (λ (r : SessionRow). HasTaken (StandsFitting (e.stands w.ends) w.process) l new_high (high_opening o) (stayed r (high_opening o) lent.ran.stays) (answers_over r (high_opening o) lent.ran.stays)) start.row_is (lent.ran.takes l new_high (high_opening o) fits start.stood)

  high_did : (l : Low) → StandsFitting (e.stands v.ends) v.process l new_high → (h : High) × e.stands w.ends l h × DidHigh row o lent.ran.stays h
  high_did l fits =
      let took = took l fits in
      (took.high, took.stands.0, record { taken = took.taken; tries = omega (arith, took.tries); times = took.times ∙ sym took.past_times })

  high_served : (h : High) → DidHigh row o lent.ran.stays h → HighServed t m row rounds side o h disk now_disk end
  high_served h did = record {
    stays = lent.ran.stays;
    are = subst (λ (r : SessionRow). AreStays r (high_opening o) lent.ran.stays) start.row_is (lent.ran.so.rule (high_opening o) start.stood);
    ends = lent.ran.ends;
    at = record {
      opened = lent.opened;
      shut = lent.shut;
      in_call = lent.in_call;
      is_port = lent.ran.port row.high_port lent.is_port;
      did = Grows-all _ _ _ lent.fresh lent.ran.did;
      gave = lent.ran.gave;
    };
    links = subst (λ (r : SessionRow). AllByRecursion (TellsVisit t.links.gives t.links.sent t.links.faults r.id) lent.ran.stays) start.row_is lent.ran.links;
    moments = lent.ran.moments;
    did = did;
    left = left_by;
    device = counts_from (Some end) (m.count disk) (m.count (high_disk v.store)) (m.count now_disk) first_counts (subst (λ (x : S). CountsEnd (Some end) (m.count (high_disk v.store)) (m.count x)) (sym now_is) lent.ran.device);
  }

  -- what it did, and what its end stands for then, beside any low end
  pub high_done : (l : Low) → StandsFitting (e.stands v.ends) v.process l new_high → (h : High) × e.stands w.ends l h × HighServed t m row rounds side o h disk now_disk end
  high_done l fits =
      let (h, stands, did) = high_did l fits in
      (h, stands, high_served h did)
