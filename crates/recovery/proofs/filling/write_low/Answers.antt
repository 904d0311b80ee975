use Rattle.std.proofs.Common.{◌≡◌, ◌∙◌, ap, inr, false, Err, List, ℕ, sym, subst, arith}
use Rattle.std.proofs.lemmas.Result.{err_from_is_err_and}
use Rattle.disk_model.proofs.Run.{each_after}
use Rattle.disk_model.specs.declared.name.Role.TheVariants.{Low}
use Rattle.stable_buffer.specs.Making.{marked, HasZeros, IsNone, KeepsFirst, LeavesFrom}
use Rattle.stable_buffer.specs.Stands.{LowStands}
use Rattle.stable_buffer.proofs.Making.{zeros_leave, zeros_stay}
use Rattle.recovery.proofs.Wholes.{begun_length, none_leaves, whole_leaves, low_whole}
use Rattle.recovery.specs.declared.trio.MoveFault.{MoveFault}
use Rattle.recovery.proofs.Bytes.{low_written}
use Rattle.recovery.proofs.Blamed.{old_kept}
use Rattle.recovery.proofs.Surveys.{counted_next}
use Rattle.recovery.proofs.Unwritten.{kept_still}
use Rattle.recovery.proofs.filling.write_low.Goals as goal

pub copy_messages-requires-clause-size : goal.copy_messages-requires-clause-size
copy_messages-requires-clause-size g c = λ told.
    let m = g.D.Disk.told in
    let k = c.args.counts.now in
    let to = c.args.to.now in
    let d1 = c.begin_as.new.target in
    begun_length to Low k.accepted 0 (m.reading d1) (omega arith) (c.in_ok-begin_as.ensures.bytes told)

pub returns-in_err-copy_messages : goal.returns-in_err-copy_messages
returns-in_err-copy_messages g c = record {
  stands =
      let (fault, was, same) = err_from_is_err_and c.from_residual-in_err-copy_messages.result c.from_residual-in_err-copy_messages.ensures.1 in
      let is = was ∙ ap (λ d. Err d) same in
      rw (is) tt;
  bytes =
      let (fault, was, same) = err_from_is_err_and c.from_residual-in_err-copy_messages.result c.from_residual-in_err-copy_messages.ensures.1 in
      let is = was ∙ ap (λ d. Err d) same in
      rw (is) tt;
  settled =
      let (fault, was, same) = err_from_is_err_and c.from_residual-in_err-copy_messages.result c.from_residual-in_err-copy_messages.ensures.1 in
      let is = was ∙ ap (λ d. Err d) same in
      rw (is) tt;
  made =
      λ live stands fits short start le so_far.
      let m = g.D.Disk.told in
      let k = c.args.counts.now in
      let to = c.args.to.now in
      let d1 = c.begin_as.new.target in
      let d2 = c.copy_messages.new.target in
      let began : LeavesFrom m start IsNone d1 = c.begin_as.ensures.during short start le so_far in
      let copied : LeavesFrom m start IsNone d2 = zeros_leave m 80 start d1 d2 (omega arith) (omega (arith, le, c.begin_as.ensures.later)) began c.in_ok-begin_as.ensures.zeros c.copy_messages.ensures.moves in
      none_leaves m (LowStands to k.accepted k.removed live) start d2 copied;
  kept =
      let m = g.D.Disk.told in
      let e = c.in_err-copy_messages.ensures in
      let (fault, was, same) = err_from_is_err_and c.from_residual-in_err-copy_messages.result c.from_residual-in_err-copy_messages.ensures.1 in
      let is = was ∙ ap (λ d. Err d) same in
      rw (is) e.kept;
  counted =
      let m = g.D.Disk.told in
      let e = c.in_err-copy_messages.ensures in
      let (fault, was, same) = err_from_is_err_and c.from_residual-in_err-copy_messages.result c.from_residual-in_err-copy_messages.ensures.1 in
      let is = was ∙ ap (λ d. Err d) same in
      rw (is) (counted_next m c.args.target.now c.begin_as.new.target c.copy_messages.new.target _ c.in_ok-begin_as.ensures.counted e.counted);
  one =
      let m = g.D.Disk.told in
      let e = c.in_err-copy_messages.ensures in
      let (fault, was, same) = err_from_is_err_and c.from_residual-in_err-copy_messages.result c.from_residual-in_err-copy_messages.ensures.1 in
      let is = was ∙ ap (λ d. Err d) same in
      rw (is) e.one;
}

pub finish_as-requires : goal.finish_as-requires
finish_as-requires g c =
    let m = g.D.Disk.told in
    record { zeros = each_after m HasZeros HasZeros (KeepsFirst 80) c.begin_as.new.target c.copy_messages.new.target c.in_ok-begin_as.ensures.zeros (λ x y is keeps. zeros_stay 80 x y (omega arith) is keeps) c.copy_messages.ensures.moves }

pub returns-in_err-finish_as : goal.returns-in_err-finish_as
returns-in_err-finish_as g c = record {
  stands =
      let (fault, was, same) = err_from_is_err_and c.from_residual-in_err-finish_as.result c.from_residual-in_err-finish_as.ensures.1 in
      let is = was ∙ ap (λ d. Err d) same in
      rw (is) tt;
  bytes =
      let (fault, was, same) = err_from_is_err_and c.from_residual-in_err-finish_as.result c.from_residual-in_err-finish_as.ensures.1 in
      let is = was ∙ ap (λ d. Err d) same in
      rw (is) tt;
  settled =
      let (fault, was, same) = err_from_is_err_and c.from_residual-in_err-finish_as.result c.from_residual-in_err-finish_as.ensures.1 in
      let is = was ∙ ap (λ d. Err d) same in
      rw (is) tt;
  made =
      λ live stands fits short start le so_far.
      let m = g.D.Disk.told in
      let k = c.args.counts.now in
      let to = c.args.to.now in
      let d1 = c.begin_as.new.target in
      let d2 = c.copy_messages.new.target in
      let began : LeavesFrom m start IsNone d1 = c.begin_as.ensures.during short start le so_far in
      let copied : LeavesFrom m start IsNone d2 = zeros_leave m 80 start d1 d2 (omega arith) (omega (arith, le, c.begin_as.ensures.later)) began c.in_ok-begin_as.ensures.zeros c.copy_messages.ensures.moves in
      let w = m.reading d2 in
      let done = c.finish_as.ensures.during start (omega (arith, le, c.begin_as.ensures.later, c.copy_messages.ensures.moves.later)) (none_leaves m (λ x. x ≡ marked w) start d2 copied) in
      whole_leaves m (LowStands to k.accepted k.removed live) start c.finish_as.new.target (marked w) (λ told. low_whole c.args.from.now to k.accepted k.removed live (m.reading c.args.source.now) (m.reading d1) (m.reading d2) c.requires.count c.requires.held.1 (stands told) (c.in_ok-begin_as.ensures.bytes told)
      (c.copy_messages.ensures.moves.reads told).same (c.in_ok-copy_messages.ensures.size told) (c.in_ok-copy_messages.ensures.copied told live (stands told) (fits told))) done;
  kept =
      let m = g.D.Disk.told in
      let e = c.in_err-finish_as.ensures in
      let (fault, was, same) = err_from_is_err_and c.from_residual-in_err-finish_as.result c.from_residual-in_err-finish_as.ensures.1 in
      let is = was ∙ ap (λ d. Err d) same in
      rw (is) (old_kept m Low c.in_err-finish_as.field-0.0 c.args.source.now c.copy_messages.new.source (λ _. ap (λ (x : MoveFault). x.new) e.device) c.in_ok-copy_messages.ensures.kept);
  counted =
      let m = g.D.Disk.told in
      let e = c.in_err-finish_as.ensures in
      let (fault, was, same) = err_from_is_err_and c.from_residual-in_err-finish_as.result c.from_residual-in_err-finish_as.ensures.1 in
      let is = was ∙ ap (λ d. Err d) same in
      rw (is) (counted_next m c.args.target.now c.copy_messages.new.target c.finish_as.new.target _ (counted_next m c.args.target.now c.begin_as.new.target c.copy_messages.new.target false c.in_ok-begin_as.ensures.counted c.in_ok-copy_messages.ensures.counted) e.counted);
  one =
      let m = g.D.Disk.told in
      let e = c.in_err-finish_as.ensures in
      let (fault, was, same) = err_from_is_err_and c.from_residual-in_err-finish_as.result c.from_residual-in_err-finish_as.ensures.1 in
      let is = was ∙ ap (λ d. Err d) same in
      rw (is) (inr e.device);
}

pub returns : goal.returns
returns g c = record {
  stands =
      λ told live stands fits.
      let m = g.D.Disk.told in
      let k = c.args.counts.now in
      let to = c.args.to.now in
      let d1 = c.begin_as.new.target in
      let d2 = c.copy_messages.new.target in
      subst (λ (z : List ℕ). LowStands to k.accepted k.removed live z) (sym (c.in_ok-finish_as.ensures.bytes told)) (low_whole c.args.from.now to k.accepted k.removed live (m.reading c.args.source.now) (m.reading d1) (m.reading d2) c.requires.count c.requires.held.1 stands (c.in_ok-begin_as.ensures.bytes told)
      (c.copy_messages.ensures.moves.reads told).same (c.in_ok-copy_messages.ensures.size told) (c.in_ok-copy_messages.ensures.copied told live stands fits));
  bytes =
      λ told live stands fits.
      let m = g.D.Disk.told in
      let k = c.args.counts.now in
      c.in_ok-finish_as.ensures.bytes told ∙ low_written c.args.to.now k.accepted k.removed live (m.reading c.begin_as.new.target) (m.reading c.copy_messages.new.target) (c.in_ok-begin_as.ensures.bytes told) (c.in_ok-copy_messages.ensures.put told live stands fits);
  settled = c.in_ok-finish_as.ensures.settled;
  made =
      λ live stands fits short start le so_far.
      let m = g.D.Disk.told in
      let k = c.args.counts.now in
      let to = c.args.to.now in
      let d1 = c.begin_as.new.target in
      let d2 = c.copy_messages.new.target in
      let began : LeavesFrom m start IsNone d1 = c.begin_as.ensures.during short start le so_far in
      let copied : LeavesFrom m start IsNone d2 = zeros_leave m 80 start d1 d2 (omega arith) (omega (arith, le, c.begin_as.ensures.later)) began c.in_ok-begin_as.ensures.zeros c.copy_messages.ensures.moves in
      let w = m.reading d2 in
      let done = c.finish_as.ensures.during start (omega (arith, le, c.begin_as.ensures.later, c.copy_messages.ensures.moves.later)) (none_leaves m (λ x. x ≡ marked w) start d2 copied) in
      whole_leaves m (LowStands to k.accepted k.removed live) start c.finish_as.new.target (marked w) (λ told. low_whole c.args.from.now to k.accepted k.removed live (m.reading c.args.source.now) (m.reading d1) (m.reading d2) c.requires.count c.requires.held.1 (stands told) (c.in_ok-begin_as.ensures.bytes told)
      (c.copy_messages.ensures.moves.reads told).same (c.in_ok-copy_messages.ensures.size told) (c.in_ok-copy_messages.ensures.copied told live (stands told) (fits told))) done;
  kept = c.in_ok-copy_messages.ensures.kept;
  counted =
      let m = g.D.Disk.told in
      counted_next m c.args.target.now c.copy_messages.new.target c.finish_as.new.target false (counted_next m c.args.target.now c.begin_as.new.target c.copy_messages.new.target false c.in_ok-begin_as.ensures.counted c.in_ok-copy_messages.ensures.counted) c.in_ok-finish_as.ensures.counted;
  one = tt;
}

pub returns-in_err-begin_as : goal.returns-in_err-begin_as
returns-in_err-begin_as g c = record {
  stands =
      let (fault, was, same) = err_from_is_err_and c.from_residual.result c.from_residual.ensures.1 in
      let is = was ∙ ap (λ d. Err d) same in
      rw (is) tt;
  bytes =
      let (fault, was, same) = err_from_is_err_and c.from_residual.result c.from_residual.ensures.1 in
      let is = was ∙ ap (λ d. Err d) same in
      rw (is) tt;
  settled =
      let (fault, was, same) = err_from_is_err_and c.from_residual.result c.from_residual.ensures.1 in
      let is = was ∙ ap (λ d. Err d) same in
      rw (is) tt;
  made =
      λ live stands fits short start le so_far.
      none_leaves g.D.Disk.told (LowStands c.args.to.now c.args.counts.now.accepted c.args.counts.now.removed live) start c.begin_as.new.target (c.begin_as.ensures.during short start le so_far);
  kept =
      let m = g.D.Disk.told in
      let e = c.in_err-begin_as.ensures in
      let (fault, was, same) = err_from_is_err_and c.from_residual.result c.from_residual.ensures.1 in
      let is = was ∙ ap (λ d. Err d) same in
      rw (is) (old_kept m Low c.in_err-begin_as.field-0.0 c.args.source.now c.args.source.now (λ _. ap (λ (x : MoveFault). x.new) e.device) (kept_still m c.args.source.now));
  counted =
      let m = g.D.Disk.told in
      let e = c.in_err-begin_as.ensures in
      let (fault, was, same) = err_from_is_err_and c.from_residual.result c.from_residual.ensures.1 in
      let is = was ∙ ap (λ d. Err d) same in
      rw (is) e.counted;
  one =
      let m = g.D.Disk.told in
      let e = c.in_err-begin_as.ensures in
      let (fault, was, same) = err_from_is_err_and c.from_residual.result c.from_residual.ensures.1 in
      let is = was ∙ ap (λ d. Err d) same in
      rw (is) (inr e.device);
}
