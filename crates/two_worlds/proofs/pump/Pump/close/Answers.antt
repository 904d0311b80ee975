use Rattle.std.proofs.Common.{◌^◌, ◌<◌, sym, subst, ap, arith}
use Rattle.std.proofs.Math.Logic.{∥∥₁_map, ∥∥₁_elim}
use Rattle.std.proofs.Props.{props}
use Rattle.disk_model.specs.declared.name.Role.TheVariants as roles
use Rattle.pump_frame.specs.Rows.{first_bad}
use Rattle.two_worlds.specs.declared.pump.state.BareDisks.{BareDisks}
use Rattle.world_laws.specs.Disks.{DisksOpen, CrashesOpen, LeaveWorld, OpenAgain}
use Rattle.two_worlds.specs.Pumps.{row_of, disk_at}
use Rattle.two_worlds.proofs.Disks.LeavesWorld.{pump_leaves, opens_again}
use Rattle.two_worlds.proofs.Disks.OpensSurely.{crashes_surely_open, readings_surely_open}
use Rattle.two_worlds.proofs.Lines.Kept.{none_bad}
use Rattle.two_worlds.proofs.Opening.RowRanges.{short_messages}
use Rattle.two_worlds.proofs.pump.Pump.close.Goals as goal

pub returns-clause-left : goal.returns-clause-left
returns-clause-left g c = λ p either.
    let m = g.D.Disk.told in
    let s = c.args.self in
    subst (λ (d : BareDisks _). LeaveWorld m (row_of s) p.world d.low d.high d.recv) (sym c.into_disks-disks.ensures) (pump_leaves m s p either)

pub returns-clause-again : goal.returns-clause-again
returns-clause-again g c = λ p either.
    let m = g.D.Disk.told in
    let s = c.args.self in
    let lawful = none_bad (first_bad (row_of s)) (∥∥₁_map s.keeps (λ k. k.row)) in
    let same = ap (λ (d : BareDisks _). d.row.id) c.into_disks-disks.ensures in
    let small : (row_of s).id < 2 ^ 32 = omega (arith, same) in
    subst (λ (d : BareDisks _). OpenAgain m (row_of s) p.world d.low d.high d.recv) (sym c.into_disks-disks.ensures)
    (opens_again m (row_of s) p.world _ _ _ lawful small (pump_leaves m s p either))

pub returns-clause-open : goal.returns-clause-open
returns-clause-open g c =
    let m = g.D.Disk.told in
    let s = c.args.self in
    let lawful = none_bad (first_bad (row_of s)) (∥∥₁_map s.keeps (λ k. k.row)) in
    subst (λ (d : BareDisks _). CrashesOpen m (row_of s) d.low d.high d.recv) (sym c.into_disks-disks.ensures)
    (crashes_surely_open m (row_of s) (short_messages (row_of s) lawful) (disk_at roles.Low s) (disk_at roles.High s) (disk_at roles.Recv s) (λ told. ∥∥₁_elim s.keeps (hlevel props) (λ k. k.hold told)))

pub returns-clause-read : goal.returns-clause-read
returns-clause-read g c =
    let m = g.D.Disk.told in
    let s = c.args.self in
    let lawful = none_bad (first_bad (row_of s)) (∥∥₁_map s.keeps (λ k. k.row)) in
    subst (λ (d : BareDisks _). m.tells → DisksOpen (row_of s) (m.reading d.low) (m.reading d.high) (m.reading d.recv)) (sym c.into_disks-disks.ensures)
    (readings_surely_open m (row_of s) (short_messages (row_of s) lawful) (disk_at roles.Low s) (disk_at roles.High s) (disk_at roles.Recv s) (λ told. ∥∥₁_elim s.keeps (hlevel props) (λ k. k.hold told)))
