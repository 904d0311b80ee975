use Rattle.std.proofs.Common.{Err, ℕ, ◌≤◌, refl, ap, ◌-◌, ◌∙◌, ◌++◌, replicate, arith}
use Rattle.std.proofs.lemmas.Grind.{common_steps}
use Rattle.std.proofs.lemmas.Bool.{false≢true}
use Rattle.std.proofs.lemmas.List.{length-replicate}
use Rattle.std.proofs.lemmas.Result.{err_from_is_err_and}
use Rattle.disk_model.specs.Disk.{Moves, Each}
use Rattle.disk_model.proofs.Run.{each_after, weaker}
use Rattle.disk_model.specs.declared.name.Role.{Role}
use Rattle.disk_model.specs.declared.name.Role.TheVariants.{Low, High, Recv}
use Rattle.pump_frame.specs.declared.row.SessionRow.{SessionRow}
use Rattle.stable_buffer.specs.Format.{header_of, role_byte, size_of}
use Rattle.stable_buffer.specs.Making.{HasZeros, IsNone, KeepsFirst, LeavesFrom}
use Rattle.stable_buffer.proofs.Making.{first_leaves, cleared, zeros_each, zeros_leave, zeros_stay, torn_first, begun_bytes, anything}
use Rattle.stable_buffer.proofs.new_disk.begin.Goals as goal

-- a disk has at least its prefix
size_least : (row : SessionRow) (role : Role) → 80 ≤ size_of row role
size_least row Low = omega arith
size_least row High = omega arith
size_least row Recv = omega arith

pub returns-in_err-write-clause-during : goal.returns-in_err-write-clause-during
returns-in_err-write-clause-during g c = λ short moment le so_far.
    let m = g.D.Disk.told in
    let d0 = c.args.disk.now in
    let d1 = c.write_and_sync.new.disk in
    let d2 = c.write.new.disk in
    let began : LeavesFrom m moment IsNone d1 = first_leaves m d0 c.requires.empty short moment d1 le so_far c.write_and_sync.ensures.moves in
    let zeros : Each m HasZeros d1 = zeros_each m d1 (cleared m d0 d1 c.requires.empty c.in_ok-write_and_sync.ensures.written) c.in_ok-write_and_sync.ensures.settled in
    let moved : Moves m (KeepsFirst 4) d1 d2 = weaker m (λ x. Unit {0}) _ (KeepsFirst 4) d1 d2 (anything m d1) (λ x y _ torn. torn_first 4 4 _ x y (omega arith) torn) c.write.ensures.moves in
    zeros_leave m 4 moment d1 d2 (omega arith) (omega (arith, le, c.write_and_sync.ensures.moves.later)) began zeros moved

pub returns-in_err-fill_zeros-clause-during : goal.returns-in_err-fill_zeros-clause-during
returns-in_err-fill_zeros-clause-during g c = λ short moment le so_far.
    let m = g.D.Disk.told in
    let d0 = c.args.disk.now in
    let d1 = c.write_and_sync.new.disk in
    let d2 = c.write.new.disk in
    let began : LeavesFrom m moment IsNone d1 = first_leaves m d0 c.requires.empty short moment d1 le so_far c.write_and_sync.ensures.moves in
    let zeros : Each m HasZeros d1 = zeros_each m d1 (cleared m d0 d1 c.requires.empty c.in_ok-write_and_sync.ensures.written) c.in_ok-write_and_sync.ensures.settled in
    let moved : Moves m (KeepsFirst 4) d1 d2 = weaker m (λ x. Unit {0}) _ (KeepsFirst 4) d1 d2 (anything m d1) (λ x y _ torn. torn_first 4 4 _ x y (omega arith) torn) c.write.ensures.moves in
    let headed : LeavesFrom m moment IsNone d2 = zeros_leave m 4 moment d1 d2 (omega arith) (omega (arith, le, c.write_and_sync.ensures.moves.later)) began zeros moved in
    let zeros' : Each m HasZeros d2 = each_after m HasZeros HasZeros (KeepsFirst 4) d1 d2 zeros (λ x y is keeps. zeros_stay 4 x y (omega arith) is keeps) moved in
    zeros_leave m 80 moment d2 c.fill_zeros.new.disk (omega arith) (omega (arith, le, c.write_and_sync.ensures.moves.later, c.write.ensures.moves.later)) headed zeros' c.fill_zeros.ensures.moves

pub returns-clause-zeros : goal.returns-clause-zeros
returns-clause-zeros g c =
    let m = g.D.Disk.told in
    let d0 = c.args.disk.now in
    let d1 = c.write_and_sync.new.disk in
    let d2 = c.write.new.disk in
    let zeros : Each m HasZeros d1 = zeros_each m d1 (cleared m d0 d1 c.requires.empty c.in_ok-write_and_sync.ensures.written) c.in_ok-write_and_sync.ensures.settled in
    let moved : Moves m (KeepsFirst 4) d1 d2 = weaker m (λ x. Unit {0}) _ (KeepsFirst 4) d1 d2 (anything m d1) (λ x y _ torn. torn_first 4 4 _ x y (omega arith) torn) c.write.ensures.moves in
    let zeros' : Each m HasZeros d2 = each_after m HasZeros HasZeros (KeepsFirst 4) d1 d2 zeros (λ x y is keeps. zeros_stay 4 x y (omega arith) is keeps) moved in
    each_after m HasZeros HasZeros (KeepsFirst 80) d2 c.fill_zeros.new.disk zeros' (λ x y is keeps. zeros_stay 80 x y (omega arith) is keeps) c.fill_zeros.ensures.moves

pub returns-clause-during : goal.returns-clause-during
returns-clause-during g c = λ short moment le so_far.
    let m = g.D.Disk.told in
    let d0 = c.args.disk.now in
    let d1 = c.write_and_sync.new.disk in
    let d2 = c.write.new.disk in
    let began : LeavesFrom m moment IsNone d1 = first_leaves m d0 c.requires.empty short moment d1 le so_far c.write_and_sync.ensures.moves in
    let zeros : Each m HasZeros d1 = zeros_each m d1 (cleared m d0 d1 c.requires.empty c.in_ok-write_and_sync.ensures.written) c.in_ok-write_and_sync.ensures.settled in
    let moved : Moves m (KeepsFirst 4) d1 d2 = weaker m (λ x. Unit {0}) _ (KeepsFirst 4) d1 d2 (anything m d1) (λ x y _ torn. torn_first 4 4 _ x y (omega arith) torn) c.write.ensures.moves in
    let headed : LeavesFrom m moment IsNone d2 = zeros_leave m 4 moment d1 d2 (omega arith) (omega (arith, le, c.write_and_sync.ensures.moves.later)) began zeros moved in
    let zeros' : Each m HasZeros d2 = each_after m HasZeros HasZeros (KeepsFirst 4) d1 d2 zeros (λ x y is keeps. zeros_stay 4 x y (omega arith) is keeps) moved in
    zeros_leave m 80 moment d2 c.fill_zeros.new.disk (omega arith) (omega (arith, le, c.write_and_sync.ensures.moves.later, c.write.ensures.moves.later)) headed zeros' c.fill_zeros.ensures.moves

pub returns-clause-bytes : goal.returns-clause-bytes
returns-clause-bytes g c = λ told.
    let m = g.D.Disk.told in
    let d0 = c.args.disk.now in
    let d1 = c.write_and_sync.new.disk in
    let clear = cleared m d0 d1 c.requires.empty c.in_ok-write_and_sync.ensures.written told in
    let done = begun_bytes c.args.row.now (role_byte c.args.role) c.args.first c.args.second (c.disk_size.result - 80) c.header-prefix.result (m.reading d1) (m.reading c.write.new.disk) (m.reading c.fill_zeros.new.disk)
    c.header-prefix.ensures clear (c.in_ok-write.ensures.written told) (c.in_ok-fill_zeros.ensures.zeros told) in
    done ∙ (λ i. header_of c.args.row.now (role_byte c.args.role) c.args.first c.args.second ++ replicate (c.disk_size.ensures.size i - 80) 0)

pub returns-in_err-write_and_sync-clause-during : goal.returns-in_err-write_and_sync-clause-during
returns-in_err-write_and_sync-clause-during g c = λ short moment le so_far.
    first_leaves g.D.Disk.told c.args.disk.now c.requires.empty short moment c.write_and_sync.new.disk le so_far c.write_and_sync.ensures.moves

pub returns-in_err-write_and_sync-clause-bytes : goal.returns-in_err-write_and_sync-clause-bytes
returns-in_err-write_and_sync-clause-bytes g c =
    let (device, was, same) = err_from_is_err_and c.from_residual.result c.from_residual.ensures.1 in
    let is = was ∙ ap (λ d. Err d) same in
    rw (is) tt

pub returns-in_err-write_and_sync-clause-zeros : goal.returns-in_err-write_and_sync-clause-zeros
returns-in_err-write_and_sync-clause-zeros g c =
    let (device, was, same) = err_from_is_err_and c.from_residual.result c.from_residual.ensures.1 in
    let is = was ∙ ap (λ d. Err d) same in
    rw (is) tt

pub returns-in_err-write_and_sync-clause-device : goal.returns-in_err-write_and_sync-clause-device
returns-in_err-write_and_sync-clause-device g c =
    let (device, was, same) = err_from_is_err_and c.from_residual.result c.from_residual.ensures.1 in
    let is = was ∙ ap (λ d. Err d) same in
    rw (is) c.in_err-write_and_sync.ensures.device

pub returns-in_err-write_and_sync-clause-later : goal.returns-in_err-write_and_sync-clause-later
returns-in_err-write_and_sync-clause-later g c =
    omega (arith, c.write_and_sync.ensures.moves.later)

pub returns-in_err-write-clause-bytes : goal.returns-in_err-write-clause-bytes
returns-in_err-write-clause-bytes g c =
    let (device, was, same) = err_from_is_err_and c.from_residual-in_err-write.result c.from_residual-in_err-write.ensures.1 in
    let is = was ∙ ap (λ d. Err d) same in
    rw (is) tt

pub returns-in_err-write-clause-zeros : goal.returns-in_err-write-clause-zeros
returns-in_err-write-clause-zeros g c =
    let (device, was, same) = err_from_is_err_and c.from_residual-in_err-write.result c.from_residual-in_err-write.ensures.1 in
    let is = was ∙ ap (λ d. Err d) same in
    rw (is) tt

pub returns-in_err-write-clause-device : goal.returns-in_err-write-clause-device
returns-in_err-write-clause-device g c =
    let (device, was, same) = err_from_is_err_and c.from_residual-in_err-write.result c.from_residual-in_err-write.ensures.1 in
    let is = was ∙ ap (λ d. Err d) same in
    rw (is) c.in_err-write.ensures.device

pub returns-in_err-write-clause-later : goal.returns-in_err-write-clause-later
returns-in_err-write-clause-later g c =
    omega (arith, c.write_and_sync.ensures.moves.later, c.write.ensures.moves.later)

pub returns-in_err-fill_zeros-clause-bytes : goal.returns-in_err-fill_zeros-clause-bytes
returns-in_err-fill_zeros-clause-bytes g c =
    let (device, was, same) = err_from_is_err_and c.from_residual-in_err-fill_zeros.result c.from_residual-in_err-fill_zeros.ensures.1 in
    let is = was ∙ ap (λ d. Err d) same in
    rw (is) tt

pub returns-in_err-fill_zeros-clause-zeros : goal.returns-in_err-fill_zeros-clause-zeros
returns-in_err-fill_zeros-clause-zeros g c =
    let (device, was, same) = err_from_is_err_and c.from_residual-in_err-fill_zeros.result c.from_residual-in_err-fill_zeros.ensures.1 in
    let is = was ∙ ap (λ d. Err d) same in
    rw (is) tt

pub returns-in_err-fill_zeros-clause-device : goal.returns-in_err-fill_zeros-clause-device
returns-in_err-fill_zeros-clause-device g c =
    let (device, was, same) = err_from_is_err_and c.from_residual-in_err-fill_zeros.result c.from_residual-in_err-fill_zeros.ensures.1 in
    let is = was ∙ ap (λ d. Err d) same in
    rw (is) c.in_err-fill_zeros.ensures.device

pub returns-in_err-fill_zeros-clause-later : goal.returns-in_err-fill_zeros-clause-later
returns-in_err-fill_zeros-clause-later g c =
    omega (arith, c.write_and_sync.ensures.moves.later, c.write.ensures.moves.later, c.fill_zeros.ensures.moves.later)

pub returns-clause-later : goal.returns-clause-later
returns-clause-later g c = omega (arith, c.write_and_sync.ensures.moves.later, c.write.ensures.moves.later, c.fill_zeros.ensures.moves.later)

pub returns-clause-device : goal.returns-clause-device
returns-clause-device g c = tt

pub returns-in_err-write_and_sync-clause-answers : goal.returns-in_err-write_and_sync-clause-answers
returns-in_err-write_and_sync-clause-answers g c =
    let first = c.in_err-write_and_sync.ensures.answers in
    let (device, was, same) = err_from_is_err_and c.from_residual.result c.from_residual.ensures.1 in
    let is = was ∙ ap (λ d. Err d) same in
    record {
      counts = omega (arith, first.counts);
      rose = λ _. let rise = first.rose refl in omega (arith, rise);
      never = λ plan off fits. elim (false≢true (first.never plan off (omega (arith, fits, size_least c.args.row.now c.args.role, length-replicate {A = ℕ} 4 0)))) [ ];
      always = λ plan on. rw (is) refl;
      room = λ plan. first.room plan;
      disarmed = first.disarmed;
    }

pub returns-in_err-fill_zeros-clause-answers : goal.returns-in_err-fill_zeros-clause-answers
returns-in_err-fill_zeros-clause-answers g c =
    let first = c.in_ok-write_and_sync.ensures.answers in
    let second = c.in_ok-write.ensures.answers in
    let third = c.in_err-fill_zeros.ensures.answers in
    let (device, was, same) = err_from_is_err_and c.from_residual-in_err-fill_zeros.result c.from_residual-in_err-fill_zeros.ensures.1 in
    let is = was ∙ ap (λ d. Err d) same in
    record {
      counts = omega (arith, first.counts, second.counts, third.counts);
      rose = λ _. let rise = third.rose refl in omega (arith, first.counts, second.counts, rise);
      never = λ plan off fits. elim (false≢true (third.never plan (second.disarmed plan) (let room = second.room plan ∙ first.room plan in omega (arith, fits, room, c.disk_size.ensures.size)))) [ ];
      always = λ plan on. rw (is) refl;
      room = λ plan. third.room plan ∙ second.room plan ∙ first.room plan;
      disarmed = third.disarmed;
    }

pub returns-clause-answers : goal.returns-clause-answers
returns-clause-answers g c =
    let first = c.in_ok-write_and_sync.ensures.answers in
    let second = c.in_ok-write.ensures.answers in
    let third = c.in_ok-fill_zeros.ensures.answers in
    record {
      counts = omega (arith, first.counts, second.counts, third.counts);
      rose = λ failed. elim (false≢true failed) [ ];
      never = λ plan off fits. refl;
      always = first.always;
      room = λ plan. third.room plan ∙ second.room plan ∙ first.room plan;
      disarmed = third.disarmed;
    }

pub fill_zeros-requires-clause-starts : goal.fill_zeros-requires-clause-starts
fill_zeros-requires-clause-starts g c = grind (arith, common_steps)

pub fill_zeros-requires-clause-calm : goal.fill_zeros-requires-clause-calm
fill_zeros-requires-clause-calm g c = grind (arith, common_steps)

pub returns-in_err-write-clause-answers : goal.returns-in_err-write-clause-answers
returns-in_err-write-clause-answers g c = grind (arith, common_steps)

pub write-requires : goal.write-requires
write-requires g c = grind (arith, common_steps)
