use Rattle.std.proofs.Common.{◌≡◌, ◌<◌, ◌^◌, true, IfSome, arith}
use Rattle.std.proofs.lemmas.Result.{err_from_is_err_and}
use Rattle.disk_model.specs.declared.name.Role.TheVariants as roles
use Rattle.stable_buffer.specs.Format.{size_of, receiver_size}
use Rattle.stable_buffer.specs.Stands.{low_size}
use Rattle.recovery.specs.Calls.{is_device}
use Rattle.script_reader.specs.Openings.{Found, nothing_found, first_past}
use Rattle.two_worlds.specs.Openings.{DisksStandFor}
use Rattle.two_worlds.specs.Standing.{Stands}
use Rattle.two_worlds.proofs.Lines.Kept.{keeps_standing}
use Rattle.two_worlds.proofs.Opening.Comparing.{free_still}
use Rattle.two_worlds.proofs.Opening.NewDisks.{empty_disks}
use Rattle.two_worlds.proofs.Opening.Refusing.{only_devices, none_fails}
use Rattle.two_worlds.proofs.pump.Pump.open.Goals as goal

pub invariant_of-result : goal.invariant_of-result
invariant_of-result g c =
    let m = g.D.Disk.told in
    let parts = c.in_ok-parts.parts in
    let o = c.in_ok-parts.ensures in
    let stands : (told : m.tells) → Stands m parts (first_past c.args.row.now (o.opens told).0) = λ told. o.stands told (o.opens told).0 (o.opens told).1 in
    record {
      keeps = ∣ record {
        row = o.works.row;
        hold = λ told. (keeps_standing m parts _ (stands told)).hold told;
        able = λ up. record { works = ∣ o.works ∣₁; stands = λ told. ∣ (_, stands told) ∣₁ };
      } ∣₁;
    }

pub returns-clause-fresh : goal.returns-clause-fresh
returns-clause-fresh g c = λ told a b d.
    let m = g.D.Disk.told in
    let row = c.args.row.now in
    c.in_ok-parts.ensures.stands told nothing_found (empty_disks m row c.args.low c.args.high c.args.recv c.requires.lawful a b d)

pub returns-clause-room : goal.returns-clause-room
returns-clause-room g c = λ plan room.
    let m = g.D.Disk.told in
    let row = c.args.row.now in
    let o = c.in_ok-parts.ensures in
    record {
      low_free = free_still m (size_of row roles.Low) (low_size row) c.args.low _ plan o.low.serves room.low_free;
      high_free = free_still m (size_of row roles.High) 80 c.args.high _ plan o.high.serves room.high_free;
      recv_free = free_still m (size_of row roles.Recv) receiver_size c.args.recv _ plan o.recv.serves room.recv_free;
    }

pub returns-in_err-parts-clause-never : goal.returns-in_err-parts-clause-never
returns-in_err-parts-clause-never g c = λ plan room a b d.
    let m = g.D.Disk.told in
    let row = c.args.row.now in
    let e = c.in_err-parts.field-0.0 in
    let back = c.in_err-parts.ensures.back in
    let small : row.id < 2 ^ 32 = omega arith in
    let fact = none_fails m plan row c.args.low c.args.high c.args.recv e room back
    (only_devices m (m.plan_tells plan) row c.requires.lawful small c.args.low c.args.high c.args.recv nothing_found (empty_disks m row c.args.low c.args.high c.args.recv c.requires.lawful a b d) e back) in
    let t = err_from_is_err_and c.from_residual.result c.from_residual.ensures.1 in
    rw (t.1, t.2) fact

pub returns-in_err-parts-clause-stops : goal.returns-in_err-parts-clause-stops
returns-in_err-parts-clause-stops g c =
    let m = g.D.Disk.told in
    let row = c.args.row.now in
    let e = c.in_err-parts.field-0.0 in
    let small : row.id < 2 ^ 32 = omega arith in
    let fact : m.tells → (f : Found) → DisksStandFor m row c.args.low c.args.high c.args.recv f → IfSome e.why (λ w. is_device w ≡ true) = λ told f s.
    only_devices m told row c.requires.lawful small c.args.low c.args.high c.args.recv f s e c.in_err-parts.ensures.back in
    let t = err_from_is_err_and c.from_residual.result c.from_residual.ensures.1 in
    rw (t.1, t.2) fact
