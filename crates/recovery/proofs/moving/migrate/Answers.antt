-- Each return by hand: a search at each of its clauses takes far longer.
use Rattle.std.proofs.Common.{◌≡◌, inl, inr, ◌∙◌, List, ℕ, true, false, None, Some, Ok, Err, length, refl, sym, ap, subst}
use Rattle.std.proofs.lemmas.Result.{IfOk-at_ok, IfErr-at_err}
use Rattle.disk_model.specs.Disk.{Same}
use Rattle.disk_model.specs.declared.name.Role.TheVariants.{Low, High, Recv}
use Rattle.disk_model.proofs.Run.{started}
use Rattle.stable_buffer.specs.Log.{RecvStands}
use Rattle.stable_buffer.specs.Register.{value_of}
use Rattle.stable_buffer.specs.Stands.{LowStands, HighStands}
use Rattle.recovery.specs.Calls.{is_device}
use Rattle.recovery.specs.Moves.{AreFound, AreRefused, IsMoveRefused, StandFor, IsKept, AreWritten, is_blamed, disk_at, disk_of, first_full, first_unfit, low_bytes, high_bytes}
use Rattle.recovery.specs.Refusals.{or_else}
use Rattle.recovery.specs.Surveys.{IsSurveyed}
use Rattle.recovery.specs.declared.trio.MoveFault.{MoveFault}
use Rattle.recovery.specs.declared.why.Why.TheVariants.{Device}
use Rattle.recovery.proofs.Moved.{FitBoth, IsJust, made_same, made_after, made_weaker, turned_after, fit_both, just, not_refused, at_old, kept_on, value_is, was_empty, counted_after, not_blamed}
use Rattle.recovery.proofs.Surveys.{kept_after}
use Rattle.recovery.proofs.moving.migrate.Goals as goal

pub returns-in-Err : goal.returns-in-Err
returns-in-Err g c =
    let m = g.D.Disk.told in
    let from = c.args.from.now in
    let to = c.args.to.now in
    let size = c.args.size in
    let old = c.args.old in
    let mid = c.survey-surveyed.result.disks in
    let new = c.args.new in
    let f = c.in-Err.fault in
    let is = c.in-Err.is in
    let said = c.survey-surveyed.ensures in
    let same = started m Same (λ d. refl) in
    let device = IfErr-at_err (λ (e : MoveFault). is_device e.why ≡ true → (e.new ≡ false) × (e.why ≡ Device (m.count (disk_of mid e.role)))) is said.device in
    let of_old : is_device f.why ≡ true → f.new ≡ false = λ broken. (device broken).0 in
    record {
      moved = tt;
      settled = tt;
      fine = tt;
      exact = λ fine told. inl (IfErr-at_err (λ (e : MoveFault). is_device e.why ≡ false → m.tells → (e.new ≡ false)
          × AreRefused from size (m.reading old.low) (m.reading old.high) (m.reading old.recv) e.role e.why) is said.refused fine told);
      device = λ broken. subst (λ b. f.why ≡ Device (m.count (disk_at mid new b f.role))) (sym (device broken).0) (device broken).1;
      old_disks = record {
        low = subst (λ r. IsKept m old.low mid.low (is_blamed false Low r)) is said.low;
        high = subst (λ r. IsKept m old.high mid.high (is_blamed false High r)) is said.high;
        recv = subst (λ r. IsKept m old.recv mid.recv (is_blamed false Recv r)) is said.recv;
      };
      new_disks = record {
        low = not_blamed m Low f new.low of_old;
        high = not_blamed m High f new.high of_old;
        recv = not_blamed m Recv f new.recv of_old;
      };
      unwritten = λ told e refused. (same new.low, same new.high, same new.recv);
      full = λ told not_empty. (same new.low, same new.high, same new.recv);
      made = λ E B live received stand. record {
        turn = record {
          at_low = λ low. (same new.high, same new.recv);
          at_high = λ high. same new.recv;
          high = λ told. inl (same new.high);
          recv = λ told. inl (same new.recv);
        };
        low = made_same m (LowStands to E B live) new.low new.low (same new.low);
        high = made_same m (HighStands to B) new.high new.high (same new.high);
        recv = made_same m (RecvStands to received) new.recv new.recv (same new.recv);
      };
    }

pub returns-in-Err-check_all : goal.returns-in-Err-check_all
returns-in-Err-check_all g c =
    let m = g.D.Disk.told in
    let k = c.in-Ok.counts in
    let from = c.args.from.now in
    let to = c.args.to.now in
    let size = c.args.size in
    let old = c.args.old in
    let new = c.args.new in
    let mid = c.survey-surveyed.result.disks in
    let end = c.survey-surveyed.result.end in
    let said = c.survey-surveyed.ensures in
    let read = c.check_all.new.old in
    let seen = c.check_all.new.new in
    let refused = c.in-Err-check_all.ensures in
    let s : IsSurveyed m from size k old = IfOk-at_ok (λ n. IsSurveyed m from size n old) c.in-Ok.is said.found in
    record {
      moved = tt;
      settled = tt;
      fine = tt;
      exact = λ fine told.
          let (live, received, count, end, found) = s.found told in
          inr (
            k.accepted,
            k.removed,
            live,
            received,
            found,
            at_old from size k (m.reading mid.low) (m.reading mid.recv) (m.reading old.low) (m.reading old.high) (m.reading old.recv) (λ xs ys. or_else (first_full (m.reading new.low) (m.reading new.high) (m.reading new.recv)) (first_unfit to k.removed xs ys) ≡ Some c.in-Err-check_all.fault)
                (said.low.moves.reads told) (said.recv.moves.reads told) (refused.exact fine told) live received found count end,
          );
      device = refused.device;
      old_disks = record {
        low = kept_on m Low end k old.low mid.low read.low _ c.in-Ok.is said.low refused.old_disks.low;
        high = kept_on m High end k old.high mid.high read.high _ c.in-Ok.is said.high refused.old_disks.high;
        recv = kept_on m Recv end k old.recv mid.recv read.recv _ c.in-Ok.is said.recv refused.old_disks.recv;
      };
      new_disks = record {
        low = refused.new_disks.low.counted;
        high = refused.new_disks.high.counted;
        recv = refused.new_disks.recv.counted;
      };
      unwritten = λ told e is. (refused.new_disks.low.moves, refused.new_disks.high.moves, refused.new_disks.recv.moves);
      full = λ told not_empty. (refused.new_disks.low.moves, refused.new_disks.high.moves, refused.new_disks.recv.moves);
      made = λ E B live received stand. record {
        turn = record {
          at_low = λ low. (refused.new_disks.high.moves, refused.new_disks.recv.moves);
          at_high = λ high. refused.new_disks.recv.moves;
          high = λ told. inl refused.new_disks.high.moves;
          recv = λ told. inl refused.new_disks.recv.moves;
        };
        low = made_same m (LowStands to E B live) new.low seen.low refused.new_disks.low.moves;
        high = made_same m (HighStands to B) new.high seen.high refused.new_disks.high.moves;
        recv = made_same m (RecvStands to received) new.recv seen.recv refused.new_disks.recv.moves;
      };
    }

pub returns-in-Err-write_all : goal.returns-in-Err-write_all
returns-in-Err-write_all g c =
    let m = g.D.Disk.told in
    let k = c.in-Ok.counts in
    let from = c.args.from.now in
    let to = c.args.to.now in
    let size = c.args.size in
    let old = c.args.old in
    let new = c.args.new in
    let mid = c.survey-surveyed.result.disks in
    let end = c.survey-surveyed.result.end in
    let said = c.survey-surveyed.ensures in
    let read = c.check_all.new.old in
    let seen = c.check_all.new.new in
    let written = c.write_all.new.new in
    let checked = c.in_default.ensures in
    let done = c.in-Err-write_all.ensures in
    let s : IsSurveyed m from size k old = IfOk-at_ok (λ n. IsSurveyed m from size n old) c.in-Ok.is said.found in
    let low_same : m.tells → m.reading read.low ≡ m.reading old.low = λ told. checked.old_disks.low.moves.reads told ∙ said.low.moves.reads told in
    let recv_same : m.tells → m.reading read.recv ≡ m.reading old.recv = λ told. checked.old_disks.recv.moves.reads told ∙ said.recv.moves.reads told in
    let j : (E B : ℕ) (live received : List (List ℕ)) → StandFor from E B live received (m.reading old.low) (m.reading old.high) (m.reading old.recv) → m.tells → IsJust m from size k old E B live received = λ E B live received stand told.
    just m from size k old c.requires.from s told E B live received stand in
    let fits : (live received : List (List ℕ)) → length received ≡ k.received → (value_of (m.reading old.recv)).1 ≡ k.end
    → AreFound from size k.accepted k.removed live received (m.reading old.low) (m.reading old.high) (m.reading old.recv) → m.tells → FitBoth to live received = λ live received count end found told.
    fit_both from to size k.accepted k.removed live received (m.reading old.low) (m.reading old.high) (m.reading old.recv) c.requires.from found
    (at_old from size k (m.reading mid.low) (m.reading mid.recv) (m.reading old.low) (m.reading old.high) (m.reading old.recv) (λ xs ys. first_unfit to k.removed xs ys ≡ None)
    (said.low.moves.reads told) (said.recv.moves.reads told) (checked.unfit told) live received found count end) in
    let never : m.tells → (e : MoveFault) → IsMoveRefused from to size (m.reading old.low) (m.reading old.high) (m.reading old.recv) (m.reading new.low) (m.reading new.high) (m.reading new.recv) e → ⊥ = λ told e refused.
    not_refused m from to size k old (m.reading new.low) (m.reading new.high) (m.reading new.recv) c.requires.from s told
    (at_old from size k (m.reading mid.low) (m.reading mid.recv) (m.reading old.low) (m.reading old.high) (m.reading old.recv) (λ xs ys. or_else (first_full (m.reading new.low) (m.reading new.high) (m.reading new.recv)) (first_unfit to k.removed xs ys) ≡ None)
    (said.low.moves.reads told) (said.recv.moves.reads told) (checked.fine told)) e refused in
    record {
      moved = tt;
      settled = tt;
      fine = tt;
      exact = λ fine told. absurd (let broken = done.device.0 in cc);
      device = λ broken. done.device.1;
      old_disks = record {
        low = kept_after m old.low read.low c.write_all.new.old.low _ (kept_on m Low end k old.low mid.low read.low false c.in-Ok.is said.low checked.old_disks.low) done.old_disks.low;
        high = kept_after m old.high read.high c.write_all.new.old.high _ (kept_on m High end k old.high mid.high read.high false c.in-Ok.is said.high checked.old_disks.high) done.old_disks.high;
        recv = kept_after m old.recv read.recv c.write_all.new.old.recv _ (kept_on m Recv end k old.recv mid.recv read.recv false c.in-Ok.is said.recv checked.old_disks.recv) done.old_disks.recv;
      };
      new_disks = record {
        low = counted_after m new.low seen.low written.low _ checked.new_disks.low done.new_disks.low;
        high = counted_after m new.high seen.high written.high _ checked.new_disks.high done.new_disks.high;
        recv = counted_after m new.recv seen.recv written.recv _ checked.new_disks.recv done.new_disks.recv;
      };
      unwritten = λ told e refused. absurd (never told e refused);
      full = λ told not_empty. absurd (not_empty (was_empty m new seen told checked.new_disks.low.moves checked.new_disks.high.moves checked.new_disks.recv.moves (checked.empty told)));
      made = λ E B live received stand.
          let one = j E B live received stand in
          record {
            turn =
                turned_after m _ _ _ _ new seen written (Err c.in-Err-write_all.fault) (Err c.in-Err-write_all.fault) (λ P p. p)
                (λ told. λ i. low_bytes to (sym (one told).accepted i) (sym (one told).removed i) live) (λ told. λ i. high_bytes to (sym (one told).removed i)) checked.new_disks.high.moves checked.new_disks.recv.moves
                (done.made.turn live (λ told. subst (λ (z : List ℕ). LowStands from k.accepted k.removed live z) (sym (low_same told)) (one told).found.stand.low_stands)
                (λ told. (fits live received (one told).count (one told).end (one told).found told).live_fits));
            low =
                made_weaker m (LowStands to k.accepted k.removed live) (LowStands to E B live) new.low written.low
                (λ told x h. subst (λ n. LowStands to n B live x) (sym (one told).accepted) (subst (λ n. LowStands to k.accepted n live x) (sym (one told).removed) h))
                (made_after m (LowStands to k.accepted k.removed live) new.low seen.low written.low checked.new_disks.low.moves
                (done.made.low live (λ told. subst (λ (z : List ℕ). LowStands from k.accepted k.removed live z) (sym (low_same told)) (one told).found.stand.low_stands)
                (λ told. (fits live received (one told).count (one told).end (one told).found told).live_fits)));
            high =
                made_weaker m (HighStands to k.removed) (HighStands to B) new.high written.high (λ told x h. subst (λ n. HighStands to n x) (sym (one told).removed) h)
                (made_after m (HighStands to k.removed) new.high seen.high written.high checked.new_disks.high.moves done.made.high);
            recv =
                made_after m (RecvStands to received) new.recv seen.recv written.recv checked.new_disks.recv.moves
                (done.made.recv received (λ told. subst (λ (z : List ℕ). RecvStands from received z) (sym (recv_same told)) (one told).found.stand.recv_stands)
                (λ told. subst (λ (z : List ℕ). value_of z ≡ (k.received, k.end)) (sym (recv_same told))
                (value_is (m.reading old.recv) k.received k.end (ap (λ (v : ℕ × ℕ). v.0) (one told).found.stand.recv_stands.value ∙ (one told).count) (one told).end))
                (λ told. (fits live received (one told).count (one told).end (one told).found told).received_fits));
          };
    }

pub returns : goal.returns
returns g c =
    let m = g.D.Disk.told in
    let k = c.in-Ok.counts in
    let from = c.args.from.now in
    let to = c.args.to.now in
    let size = c.args.size in
    let old = c.args.old in
    let new = c.args.new in
    let mid = c.survey-surveyed.result.disks in
    let end = c.survey-surveyed.result.end in
    let said = c.survey-surveyed.ensures in
    let read = c.check_all.new.old in
    let seen = c.check_all.new.new in
    let written = c.write_all.new.new in
    let checked = c.in_default.ensures in
    let done = c.in_default-write_all.ensures in
    let s : IsSurveyed m from size k old = IfOk-at_ok (λ n. IsSurveyed m from size n old) c.in-Ok.is said.found in
    let low_same : m.tells → m.reading read.low ≡ m.reading old.low = λ told. checked.old_disks.low.moves.reads told ∙ said.low.moves.reads told in
    let recv_same : m.tells → m.reading read.recv ≡ m.reading old.recv = λ told. checked.old_disks.recv.moves.reads told ∙ said.recv.moves.reads told in
    let j : (E B : ℕ) (live received : List (List ℕ)) → StandFor from E B live received (m.reading old.low) (m.reading old.high) (m.reading old.recv) → m.tells → IsJust m from size k old E B live received = λ E B live received stand told.
    just m from size k old c.requires.from s told E B live received stand in
    let fits : (live received : List (List ℕ)) → length received ≡ k.received → (value_of (m.reading old.recv)).1 ≡ k.end
    → AreFound from size k.accepted k.removed live received (m.reading old.low) (m.reading old.high) (m.reading old.recv) → m.tells → FitBoth to live received = λ live received count end found told.
    fit_both from to size k.accepted k.removed live received (m.reading old.low) (m.reading old.high) (m.reading old.recv) c.requires.from found
    (at_old from size k (m.reading mid.low) (m.reading mid.recv) (m.reading old.low) (m.reading old.high) (m.reading old.recv) (λ xs ys. first_unfit to k.removed xs ys ≡ None)
    (said.low.moves.reads told) (said.recv.moves.reads told) (checked.unfit told) live received found count end) in
    let never : m.tells → (e : MoveFault) → IsMoveRefused from to size (m.reading old.low) (m.reading old.high) (m.reading old.recv) (m.reading new.low) (m.reading new.high) (m.reading new.recv) e → ⊥ = λ told e refused.
    not_refused m from to size k old (m.reading new.low) (m.reading new.high) (m.reading new.recv) c.requires.from s told
    (at_old from size k (m.reading mid.low) (m.reading mid.recv) (m.reading old.low) (m.reading old.high) (m.reading old.recv) (λ xs ys. or_else (first_full (m.reading new.low) (m.reading new.high) (m.reading new.recv)) (first_unfit to k.removed xs ys) ≡ None)
    (said.low.moves.reads told) (said.recv.moves.reads told) (checked.fine told)) e refused in
    record {
      moved = λ told.
          let (live, received, count, end, found) = s.found told in
          let fit = fits live received count end found told in (
            live,
            received,
            found,
            count,
            was_empty m new seen told checked.new_disks.low.moves checked.new_disks.high.moves checked.new_disks.recv.moves (checked.empty told),
            record {
              low_stands = done.moved.low told live (subst (λ (z : List ℕ). LowStands from k.accepted k.removed live z) (sym (low_same told)) found.stand.low_stands) fit.live_fits;
              high_stands = done.moved.high told;
              recv_stands = done.moved.recv told received (subst (λ (z : List ℕ). RecvStands from received z) (sym (recv_same told)) found.stand.recv_stands)
                  (subst (λ (z : List ℕ). value_of z ≡ (k.received, k.end)) (sym (recv_same told))
                  (value_is (m.reading old.recv) k.received k.end (ap (λ (v : ℕ × ℕ). v.0) found.stand.recv_stands.value ∙ count) end)) fit.received_fits;
            },
            subst (λ (z : List ℕ). AreWritten to k.accepted k.removed k.received live z (m.reading written.low) (m.reading written.high) (m.reading written.recv)) (recv_same told)
                (done.moved.bytes told live (subst (λ (z : List ℕ). LowStands from k.accepted k.removed live z) (sym (low_same told)) found.stand.low_stands) fit.live_fits
                (subst (λ (z : List ℕ). value_of z ≡ (k.received, k.end)) (sym (recv_same told))
                (value_is (m.reading old.recv) k.received k.end (ap (λ (v : ℕ × ℕ). v.0) found.stand.recv_stands.value ∙ count) end))),
          );
      settled = done.moved.settled;
      fine = never;
      exact = tt;
      device = tt;
      old_disks = record {
        low = kept_after m old.low read.low c.write_all.new.old.low _ (kept_on m Low end k old.low mid.low read.low false c.in-Ok.is said.low checked.old_disks.low) done.old_disks.low;
        high = kept_after m old.high read.high c.write_all.new.old.high _ (kept_on m High end k old.high mid.high read.high false c.in-Ok.is said.high checked.old_disks.high) done.old_disks.high;
        recv = kept_after m old.recv read.recv c.write_all.new.old.recv _ (kept_on m Recv end k old.recv mid.recv read.recv false c.in-Ok.is said.recv checked.old_disks.recv) done.old_disks.recv;
      };
      new_disks = record {
        low = counted_after m new.low seen.low written.low _ checked.new_disks.low done.new_disks.low;
        high = counted_after m new.high seen.high written.high _ checked.new_disks.high done.new_disks.high;
        recv = counted_after m new.recv seen.recv written.recv _ checked.new_disks.recv done.new_disks.recv;
      };
      unwritten = λ told e refused. absurd (never told e refused);
      full = λ told not_empty. absurd (not_empty (was_empty m new seen told checked.new_disks.low.moves checked.new_disks.high.moves checked.new_disks.recv.moves (checked.empty told)));
      made = λ E B live received stand.
          let one = j E B live received stand in
          record {
            turn =
                turned_after m _ _ _ _ new seen written _ (Ok (k.accepted, k.removed, k.received)) (λ P p. tt)
                (λ told. λ i. low_bytes to (sym (one told).accepted i) (sym (one told).removed i) live) (λ told. λ i. high_bytes to (sym (one told).removed i)) checked.new_disks.high.moves checked.new_disks.recv.moves
                (done.made.turn live (λ told. subst (λ (z : List ℕ). LowStands from k.accepted k.removed live z) (sym (low_same told)) (one told).found.stand.low_stands)
                (λ told. (fits live received (one told).count (one told).end (one told).found told).live_fits));
            low =
                made_weaker m (LowStands to k.accepted k.removed live) (LowStands to E B live) new.low written.low
                (λ told x h. subst (λ n. LowStands to n B live x) (sym (one told).accepted) (subst (λ n. LowStands to k.accepted n live x) (sym (one told).removed) h))
                (made_after m (LowStands to k.accepted k.removed live) new.low seen.low written.low checked.new_disks.low.moves
                (done.made.low live (λ told. subst (λ (z : List ℕ). LowStands from k.accepted k.removed live z) (sym (low_same told)) (one told).found.stand.low_stands)
                (λ told. (fits live received (one told).count (one told).end (one told).found told).live_fits)));
            high =
                made_weaker m (HighStands to k.removed) (HighStands to B) new.high written.high (λ told x h. subst (λ n. HighStands to n x) (sym (one told).removed) h)
                (made_after m (HighStands to k.removed) new.high seen.high written.high checked.new_disks.high.moves done.made.high);
            recv =
                made_after m (RecvStands to received) new.recv seen.recv written.recv checked.new_disks.recv.moves
                (done.made.recv received (λ told. subst (λ (z : List ℕ). RecvStands from received z) (sym (recv_same told)) (one told).found.stand.recv_stands)
                (λ told. subst (λ (z : List ℕ). value_of z ≡ (k.received, k.end)) (sym (recv_same told))
                (value_is (m.reading old.recv) k.received k.end (ap (λ (v : ℕ × ℕ). v.0) (one told).found.stand.recv_stands.value ∙ (one told).count) (one told).end))
                (λ told. (fits live received (one told).count (one told).end (one told).found told).received_fits));
          };
    }
