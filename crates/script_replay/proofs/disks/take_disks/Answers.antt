use Rattle.std.proofs.Common.{◌∙◌, arith}
use Rattle.std.proofs.lemmas.Result.{err_from_is_err_and}
use Rattle.disk_model.specs.declared.name.Role.TheVariants as roles
use Rattle.script_replay.proofs.Taken.{others_by, read_before, out_after, moves_still, out_still_at, is_out_at, none_taken, one_back, two_back, low_not_given, high_not_given, recv_not_given}
use Rattle.script_replay.proofs.disks.take_disks.Goals as goal

pub returns-in_err-low : goal.returns-in_err-low
returns-in_err-low g c =
    let at = g.S.Shelf.told.disk in
    let id = c.args.session in
    let p = err_from_is_err_and c.from_residual.result c.from_residual.ensures.1 in
    let low = c.in_err-low.ensures in
    let stay = none_taken (at c.args.shelf.now) (at c.take_disk.new.shelf) low.none in
    rw (p.1, p.2) (record {
      low = tt;
      high = tt;
      recv = tt;
      low_out = tt;
      high_out = tt;
      recv_out = tt;
      others = others_by (at c.args.shelf.now) (at c.take_disk.new.shelf) id roles.Low low.others;
      spared = λ told. (stay.spared, stay.back);
      alike = λ told. stay.alike;
      later = low.later;
      cause = low.cause;
      asked = λ failed. low_not_given g.S.Shelf.told id c.args.shelf.now c.take_disk.new.shelf low.none (low.cause failed) _ low.role;
    })

pub put_disk_back-requires : goal.put_disk_back-requires
put_disk_back-requires g c =
    let at = g.S.Shelf.told.disk in
    let id = c.args.session in
    let second = at c.take_disk-2.new.shelf in
    is_out_at second id roles.Low _ (out_still_at (at c.take_disk.new.shelf) second id roles.Low _ c.in-Err.ensures.none c.in_ok-low.ensures.out)

pub returns-in-Err : goal.returns-in-Err
returns-in-Err g c =
    let at = g.S.Shelf.told.disk in
    let id = c.args.session in
    let low = c.in_ok-low.ensures in
    let high = c.in-Err.ensures in
    let put = c.put_disk_back.ensures in
    let taken = moves_still (at c.args.shelf.now) (at c.take_disk.new.shelf) (at c.take_disk-2.new.shelf) id roles.Low high.none low.others in
    let stay = λ (told : g.S.Shelf.told.tells). one_back (at c.args.shelf.now) (at c.take_disk-2.new.shelf) (at c.put_disk_back.new.shelf) id roles.Low _ taken put.others (low.read told) (put.back told) in
    record {
      low = tt;
      high = tt;
      recv = tt;
      low_out = tt;
      high_out = tt;
      recv_out = tt;
      others = λ name other. others_by _ _ id roles.Low put.others name other ∙ others_by _ _ id roles.Low taken name other;
      spared = λ told. ((stay told).spared, (stay told).back);
      alike = λ told. (stay told).alike;
      later = omega (arith, low.later, high.later, put.later);
      cause = λ failed. omega (arith, low.later, high.cause failed, put.later);
      asked = λ failed. high_not_given g.S.Shelf.told id c.take_disk.new.shelf c.take_disk-2.new.shelf high.none (high.cause failed) (at c.args.shelf.now) _ _ high.role low.out low.others;
    }

pub returns-in-Ok-take_disk : goal.returns-in-Ok-take_disk
returns-in-Ok-take_disk g c =
    let at = g.S.Shelf.told.disk in
    let id = c.args.session in
    let low = c.in_ok-low.ensures in
    let high = c.in-Ok.ensures in
    let recv = c.in-Ok-take_disk.ensures in
    let start = at c.args.shelf.now in
    let first = at c.take_disk.new.shelf in
    let second = at c.take_disk-2.new.shelf in
    let third = at c.take_disk-3.new.shelf in
    record {
      low = low.read;
      high = λ told. read_before start first id roles.Low low.others roles.High _ (λ e. cc) (high.read told);
      recv = λ told. read_before start first id roles.Low low.others roles.Recv _ (λ e. cc) (read_before first second id roles.High high.others roles.Recv _ (λ e. cc) (recv.read told));
      low_out = out_after second third id roles.Recv recv.others roles.Low _ (λ e. cc) (out_after first second id roles.High high.others roles.Low _ (λ e. cc) low.out);
      high_out = out_after second third id roles.Recv recv.others roles.High _ (λ e. cc) high.out;
      recv_out = recv.out;
      others = λ name other. others_by second third id roles.Recv recv.others name other ∙ others_by first second id roles.High high.others name other ∙ others_by start first id roles.Low low.others name other;
      spared = tt;
      alike = tt;
      later = omega (arith, low.later, high.later, recv.later);
      cause = tt;
      asked = tt;
    }

pub put_disk_back-requires-in-Err-take_disk : goal.put_disk_back-requires-in-Err-take_disk
put_disk_back-requires-in-Err-take_disk g c =
    let at = g.S.Shelf.told.disk in
    let id = c.args.session in
    let second = at c.take_disk-2.new.shelf in
    let third = at c.take_disk-3.new.shelf in
    let low = out_after (at c.take_disk.new.shelf) second id roles.High c.in-Ok.ensures.others roles.Low _ (λ e. cc) c.in_ok-low.ensures.out in
    is_out_at third id roles.Low _ (out_still_at second third id roles.Low _ c.in-Err-take_disk.ensures.none low)

pub put_disk_back-requires-in-Err-take_disk-2 : goal.put_disk_back-requires-in-Err-take_disk-2
put_disk_back-requires-in-Err-take_disk-2 g c =
    let at = g.S.Shelf.told.disk in
    let id = c.args.session in
    let third = at c.take_disk-3.new.shelf in
    let less = at c.put_disk_back-in-Err-take_disk.new.shelf in
    let high = out_still_at (at c.take_disk-2.new.shelf) third id roles.High _ c.in-Err-take_disk.ensures.none c.in-Ok.ensures.out in
    is_out_at less id roles.High _ (out_after third less id roles.Low c.put_disk_back-in-Err-take_disk.ensures.others roles.High _ (λ e. cc) high)

pub returns-in-Err-take_disk : goal.returns-in-Err-take_disk
returns-in-Err-take_disk g c =
    let at = g.S.Shelf.told.disk in
    let id = c.args.session in
    let low = c.in_ok-low.ensures in
    let high = c.in-Ok.ensures in
    let recv = c.in-Err-take_disk.ensures in
    let low_put = c.put_disk_back-in-Err-take_disk.ensures in
    let high_put = c.put_disk_back-in-Err-take_disk-2.ensures in
    let start = at c.args.shelf.now in
    let first = at c.take_disk.new.shelf in
    let third = at c.take_disk-3.new.shelf in
    let less = at c.put_disk_back-in-Err-take_disk.new.shelf in
    let last = at c.put_disk_back-in-Err-take_disk-2.new.shelf in
    let taken = moves_still first (at c.take_disk-2.new.shelf) third id roles.High recv.none high.others in
    let stay = λ (told : g.S.Shelf.told.tells). two_back start first third less last id roles.Low roles.High _ _ (λ e. cc) low.others taken low_put.others high_put.others (low.read told) (high.read told) (low_put.back told) (high_put.back told) in
    record {
      low = tt;
      high = tt;
      recv = tt;
      low_out = tt;
      high_out = tt;
      recv_out = tt;
      others = λ name other. others_by less last id roles.High high_put.others name other ∙ others_by third less id roles.Low low_put.others name other ∙ others_by first third id roles.High taken name other ∙ others_by start first id roles.Low low.others name other;
      spared = λ told. ((stay told).spared, (stay told).back);
      alike = λ told. (stay told).alike;
      later = omega (arith, low.later, high.later, recv.later, low_put.later, high_put.later);
      cause = λ failed. omega (arith, low.later, high.later, recv.cause failed, low_put.later, high_put.later);
      asked = λ failed.
          recv_not_given g.S.Shelf.told id c.take_disk-2.new.shelf c.take_disk-3.new.shelf recv.none (recv.cause failed) start first _ _ _ recv.role
          (out_after first (at c.take_disk-2.new.shelf) id roles.High high.others roles.Low _ (λ e. cc) low.out) high.out low.others high.others;
    }
