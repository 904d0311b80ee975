use Rattle.std.proofs.Common.{◌∙◌, Ok, Err, sym, subst}
use Rattle.disk_model.specs.declared.name.Role.TheVariants as roles
use Rattle.pump_frame.specs.Rows.{IsLawfulRow}
use Rattle.pump_frame.specs.declared.row.SessionRow.{SessionRow}
use Rattle.script_reader.specs.Openings.{CanOpen, first_past}
use Rattle.world_laws.specs.Disks.{LeaveWorld}
use Rattle.two_worlds.specs.Pumps.{StandsFor, disk_at}
use Rattle.pump_wrapper.specs.Crashes.{KeepsPrefix}
use Rattle.pump_wrapper.specs.Wraps.{Drains, HasAll}
use Rattle.pump_wrapper.proofs.Emptied.{empties, stops_early}
use Rattle.pump_wrapper.proofs.file_sender.empty.Goals as goal

pub returns-in-Ok-clause-empties : goal.returns-in-Ok-clause-empties
returns-in-Ok-clause-empties g c =
    let m = g.D.Disk.told in
    let row = c.args.row.now in
    let opened = c.in_ok-pump.ensures in
    let s = c.in_ok-pump.pump in
    let drained = c.in-Ok.ensures in
    let closed = c.close-disks.ensures in
    let same = drained.row ∙ opened.row in
    empties m row c.args.disks c.close-disks.result s c.drain-drained.new.pump opened.opens opened.counts drained.counts closed.disks
    (λ told messages q stands passed. subst (λ (r : SessionRow). HasAll m r messages c.close-disks.result) same (closed.all told messages q stands passed))
    (λ q stands. subst (λ (r : SessionRow). LeaveWorld m r q.world c.close-disks.result.low c.close-disks.result.high c.close-disks.result.recv) same (closed.left q stands))
    opened.recv
    (λ told f found all begins. subst (λ (r : SessionRow). KeepsPrefix m r all (disk_at roles.Recv s) (disk_at roles.Recv c.drain-drained.new.pump)) opened.row (drained.keeps told f
    (subst IsLawfulRow (sym opened.row) c.requires.lawful)
    (subst (λ (r : SessionRow). CanOpen r f) (sym opened.row) found.can_open)
    (subst (λ (r : SessionRow). StandsFor m s (first_past r f)) (sym opened.row) (opened.stands told f found)) all begins))
    (λ told f found. subst (λ (r : SessionRow). Drains m c.drain-drained.new.pump r f (Ok tt)) opened.row (drained.drains told f
    (subst IsLawfulRow (sym opened.row) c.requires.lawful)
    (subst (λ (r : SessionRow). CanOpen r f) (sym opened.row) found.can_open)
    (subst (λ (r : SessionRow). StandsFor m s (first_past r f)) (sym opened.row) (opened.stands told f found))))

pub returns-in-Err-clause-not : goal.returns-in-Err-clause-not
returns-in-Err-clause-not g c =
    let m = g.D.Disk.told in
    let row = c.args.row.now in
    let opened = c.in_ok-pump.ensures in
    let s = c.in_ok-pump.pump in
    let drained = c.in-Err.ensures in
    let closed = c.close-disks.ensures in
    let same = drained.row ∙ opened.row in
    stops_early m row c.args.disks c.close-disks.result s c.drain-drained.new.pump opened.opens opened.counts drained.counts closed.disks
    (λ told messages q stands passed. subst (λ (r : SessionRow). HasAll m r messages c.close-disks.result) same (closed.all told messages q stands passed))
    (λ q stands. subst (λ (r : SessionRow). LeaveWorld m r q.world c.close-disks.result.low c.close-disks.result.high c.close-disks.result.recv) same (closed.left q stands))
    opened.recv
    (λ told f found all begins. subst (λ (r : SessionRow). KeepsPrefix m r all (disk_at roles.Recv s) (disk_at roles.Recv c.drain-drained.new.pump)) opened.row (drained.keeps told f
    (subst IsLawfulRow (sym opened.row) c.requires.lawful)
    (subst (λ (r : SessionRow). CanOpen r f) (sym opened.row) found.can_open)
    (subst (λ (r : SessionRow). StandsFor m s (first_past r f)) (sym opened.row) (opened.stands told f found)) all begins))
    c.in-Err.stop drained.rose
    (λ told f found. subst (λ (r : SessionRow). Drains m c.drain-drained.new.pump r f (Err c.in-Err.stop)) opened.row (drained.drains told f
    (subst IsLawfulRow (sym opened.row) c.requires.lawful)
    (subst (λ (r : SessionRow). CanOpen r f) (sym opened.row) found.can_open)
    (subst (λ (r : SessionRow). StandsFor m s (first_past r f)) (sym opened.row) (opened.stands told f found))))
