use Rattle.std.proofs.Common.{◌∙◌, Bool, false, sym, ap, subst, append-nil}
use Rattle.disk_model.specs.declared.name.Role.TheVariants as roles
use Rattle.pump_frame.specs.Rows.{IsLawfulRow}
use Rattle.pump_frame.specs.declared.row.SessionRow.{SessionRow}
use Rattle.script_reader.specs.Openings.{CanOpen, first_past}
use Rattle.world_laws.specs.Disks.{LeaveWorld}
use Rattle.two_worlds.specs.Pumps.{StandsFor, disk_at}
use Rattle.pump_wrapper.specs.Crashes.{KeepsPrefix}
use Rattle.pump_wrapper.specs.Cutting.{Gave, cut_bytes}
use Rattle.pump_wrapper.specs.Wraps.{HasAll, Sends, all_taken, is_too_long}
use Rattle.pump_wrapper.specs.WrapEnds.{EndsOn, HasDiskCause}
use Rattle.pump_wrapper.specs.declared.file_sender.WrapEnd.{WrapEnd}
use Rattle.pump_wrapper.proofs.Ending.{all_end, early_read, early_sent, prefix_again, long_sent, none_gave, read_sent, sent_cause, sent_ends, sent_prefix}
use Rattle.pump_wrapper.proofs.Prefixes.{begins_same, begins_then}
use Rattle.pump_wrapper.proofs.Holding.{stand_for_all}
use Rattle.pump_wrapper.proofs.Joining.{keeps_then, left_keeps}
use Rattle.pump_wrapper.proofs.Wholes.{sent_disks}
use Rattle.pump_wrapper.proofs.file_sender.send_further.Goals as goal

pub returns-in-Err-clause-sent : goal.returns-in-Err-clause-sent
returns-in-Err-clause-sent g c = λ told messages has. early_sent g.D.Disk.told c.args.row.now messages c.args.cutter.now (g.I.Source.left c.args.file.now) c.in-Err.failed.end c.in-Err.failed.disks c.in-Err.ensures.not.early

pub returns-in-Err-clause-ends : goal.returns-in-Err-clause-ends
returns-in-Err-clause-ends g c = λ told messages has whole continues.
    let m = g.D.Disk.told in
    let row = c.args.row.now in
    all_end m row messages whole c.args.disks c.in-Err.failed.disks c.in-Err.failed.end has (c.in-Err.ensures.not.ends told whole (all_taken messages) (stand_for_all m row messages c.args.disks has))

pub returns-in-Err-clause-images : goal.returns-in-Err-clause-images
returns-in-Err-clause-images g c = λ told messages has prefix all begins continues.
    let m = g.D.Disk.told in
    let row = c.args.row.now in
    prefix_again m row messages all c.args.disks c.in-Err.failed.disks c.in-Err.failed.end prefix begins
    (c.in-Err.ensures.not.images told (all_taken messages) (stand_for_all m row messages c.args.disks has) all)

pub returns-in-Err-clause-keeps : goal.returns-in-Err-clause-keeps
returns-in-Err-clause-keeps g c = λ told messages has all begins continues.
    let m = g.D.Disk.told in
    let row = c.args.row.now in
    c.in-Err.ensures.not.keeps told (all_taken messages) (stand_for_all m row messages c.args.disks has) all
    (begins_then _ messages all (begins_same _ messages (sym (append-nil messages))) begins)

pub returns-in-Err-clause-gave : goal.returns-in-Err-clause-gave
returns-in-Err-clause-gave g c = none_gave (cut_bytes c.args.cutter.now) (g.I.Source.left c.args.file.now) c.in-Err.failed.end c.requires.may.few c.in-Err.ensures.not.early

pub returns-in-Err-clause-read : goal.returns-in-Err-clause-read
returns-in-Err-clause-read g c = λ e. absurd (early_read c.in-Err.failed.end c.in-Err.ensures.not.early e)

pub returns-clause-sent : goal.returns-clause-sent
returns-clause-sent g c = λ told messages has.
    let m = g.D.Disk.told in
    let row = c.args.row.now in
    let e = c.in-Ok.ensures in
    let s = c.send_rest-sent.ensures in
    let sends = s.sends told messages
    (subst IsLawfulRow (sym e.row) c.requires.lawful)
    (subst (λ (r : SessionRow). CanOpen r (all_taken messages)) (sym e.row) has.can_open)
    (subst (λ (r : SessionRow). StandsFor m c.in-Ok.pump (first_past r (all_taken messages))) (sym e.row) (e.stands told (all_taken messages) (stand_for_all m row messages c.args.disks has))) in
    sent_disks m c.send_rest-sent.new.pump row messages c.args.cutter.now c.send_rest-sent.new.cutter (g.I.Source.left c.args.file.now) c.send_rest-sent.result _ c.sent_all.result c.close.result
    (subst (λ (r : SessionRow). Sends m c.send_rest-sent.new.pump r messages c.args.cutter.now (g.I.Source.left c.args.file.now) c.send_rest-sent.result) e.row sends)
    c.bytes.ensures c.sent_all.ensures s.total s.failed
    (λ all q stands passed. subst (λ (r : SessionRow). HasAll m r all c.close.result) (s.row ∙ e.row) (c.close.ensures.all told all q stands passed))

pub returns-clause-ends : goal.returns-clause-ends
returns-clause-ends g c = λ told messages has whole continues.
    let m = g.D.Disk.told in
    let row = c.args.row.now in
    let e = c.in-Ok.ensures in
    let s = c.send_rest-sent.ensures in
    let left = g.I.Source.left c.args.file.now in
    let sends = s.sends told messages
    (subst IsLawfulRow (sym e.row) c.requires.lawful)
    (subst (λ (r : SessionRow). CanOpen r (all_taken messages)) (sym e.row) has.can_open)
    (subst (λ (r : SessionRow). StandsFor m c.in-Ok.pump (first_past r (all_taken messages))) (sym e.row) (e.stands told (all_taken messages) (stand_for_all m row messages c.args.disks has))) in
    subst (λ (end : WrapEnd). EndsOn m row whole messages end c.close.result) (sym c.sent_all.ensures)
    (sent_ends m row c.close.result c.send_rest-sent.new.pump messages c.args.cutter.now left c.bytes.result
    (λ all q stands passed. subst (λ (r : SessionRow). HasAll m r all c.close.result) (s.row ∙ e.row) (c.close.ensures.all told all q stands passed))
    (λ q stands. subst (λ (r : SessionRow). LeaveWorld m r q.world c.close.result.low c.close.result.high c.close.result.recv) (s.row ∙ e.row) (c.close.ensures.left q stands))
    whole c.send_rest-sent.result
    (subst (λ (r : SessionRow). Sends m c.send_rest-sent.new.pump r messages c.args.cutter.now left c.send_rest-sent.result) e.row sends) told continues)

pub returns-clause-images : goal.returns-clause-images
returns-clause-images g c = λ told messages has prefix all begins continues.
    let m = g.D.Disk.told in
    let row = c.args.row.now in
    let e = c.in-Ok.ensures in
    let s = c.send_rest-sent.ensures in
    let left = g.I.Source.left c.args.file.now in
    let tells = m.images_tell told in
    let sends = s.sends tells messages
    (subst IsLawfulRow (sym e.row) c.requires.lawful)
    (subst (λ (r : SessionRow). CanOpen r (all_taken messages)) (sym e.row) has.can_open)
    (subst (λ (r : SessionRow). StandsFor m c.in-Ok.pump (first_past r (all_taken messages))) (sym e.row) (e.stands tells (all_taken messages) (stand_for_all m row messages c.args.disks has))) in
    sent_prefix m row c.close.result c.send_rest-sent.new.pump messages c.args.cutter.now left c.bytes.result
    (λ all q stands passed. subst (λ (r : SessionRow). HasAll m r all c.close.result) (s.row ∙ e.row) (c.close.ensures.all tells all q stands passed))
    (λ q stands. subst (λ (r : SessionRow). LeaveWorld m r q.world c.close.result.low c.close.result.high c.close.result.recv) (s.row ∙ e.row) (c.close.ensures.left q stands))
    all c.send_rest-sent.result
    (subst (λ (r : SessionRow). Sends m c.send_rest-sent.new.pump r messages c.args.cutter.now left c.send_rest-sent.result) e.row sends) told continues

pub returns-clause-keeps : goal.returns-clause-keeps
returns-clause-keeps g c = λ told messages has all begins continues some prefix.
    let m = g.D.Disk.told in
    let row = c.args.row.now in
    let e = c.in-Ok.ensures in
    let s = c.send_rest-sent.ensures in
    let tells = m.images_tell told in
    let old = c.args.disks.recv in
    let opened = disk_at roles.Recv c.in-Ok.pump in
    let last = disk_at roles.Recv c.send_rest-sent.new.pump in
    let keeps = s.keeps tells messages
    (subst IsLawfulRow (sym e.row) c.requires.lawful)
    (subst (λ (r : SessionRow). CanOpen r (all_taken messages)) (sym e.row) has.can_open)
    (subst (λ (r : SessionRow). StandsFor m c.in-Ok.pump (first_past r (all_taken messages))) (sym e.row) (e.stands tells (all_taken messages) (stand_for_all m row messages c.args.disks has))) all continues in
    keeps_then m row all old opened c.close.result.recv (left_keeps m row all old opened false e.recv tells some (λ told. prefix))
    (subst (λ d. KeepsPrefix m row all opened d) (sym (c.close.ensures.disks roles.Recv))
    (subst (λ (r : SessionRow). KeepsPrefix m r all opened last) e.row keeps))

pub returns-clause-cause : goal.returns-clause-cause
returns-clause-cause g c =
    let s = c.send_rest-sent.ensures in
    subst (λ (end : WrapEnd). HasDiskCause g.D.Disk.told c.args.disks c.close.result end) (sym c.sent_all.ensures)
    (sent_cause g.D.Disk.told c.args.disks c.close.result c.in-Ok.pump c.send_rest-sent.new.pump c.in-Ok.ensures.counts c.close.ensures.disks c.bytes.result c.send_rest-sent.result s.cause)

pub returns-clause-gave : goal.returns-clause-gave
returns-clause-gave g c =
    let same = ap is_too_long c.sent_all.ensures ∙ long_sent c.bytes.result c.send_rest-sent.result in
    subst (λ (b : Bool). Gave (cut_bytes c.args.cutter.now) (g.I.Source.left c.args.file.now) (g.I.Source.left c.send_rest-sent.new.file) b) (sym same) c.send_rest-sent.ensures.gave

pub returns-clause-read : goal.returns-clause-read
returns-clause-read g c = λ e. c.send_rest-sent.ensures.read (read_sent c.bytes.result c.send_rest-sent.result (sym c.sent_all.ensures ∙ e))
