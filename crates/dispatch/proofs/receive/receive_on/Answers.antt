use Rattle.std.proofs.Common.{[], ◌∷◌, ◌++◌, inl, inr, refl, sym, ap, ◌∙◌, subst, arith}
use Rattle.disk_model.specs.declared.name.Role.TheVariants as roles
use Rattle.high_receiver.specs.Receiving.{recv_disk, recv_size}
use Rattle.pump_frame.specs.Counts.{Rose}
use Rattle.pump_link.specs.Ports.{Connected, BackToPorts}
use Rattle.pump_link.proofs.Grown.{Grows-nil, Grows-then}
use Rattle.stable_buffer.specs.Log.{RecvStands}
use Rattle.stable_buffer.specs.Register.{value_of}
use Rattle.peers.specs.Receiving.{StandsForPrefix, attempted, messages, place_of}
use Rattle.two_worlds.proofs.Opening.Opened.{value_by}
use Rattle.commands.specs.LentDisks.{StopsAtDisk}
use Rattle.commands.proofs.LentDisks.{stops_at_disk}
use Rattle.command_ends.specs.Causes.{IsCaused}
use Rattle.dispatch.proofs.Received.{sized}
use Rattle.dispatch.proofs.Sent.{received_caused, refused_caused}
use Rattle.dispatch.proofs.receive.receive_on.Goals as goal

pub returns-in-Err-clause-receives : goal.returns-in-Err-clause-receives
returns-in-Err-clause-receives g c = λ tells.
    inl (subst (StopsAtDisk _ c.args.row.now) (sym c.end_at.ensures) (stops_at_disk _ c.args.row.now c.in-Err.why (λ other. c.in-Err.ensures.exact other tells)), c.in-Err.ensures.same_err.reads tells, Grows-nil _, refl)

pub returns-in-Err-clause-cause : goal.returns-in-Err-clause-cause
returns-in-Err-clause-cause g c = subst (IsCaused _) (sym c.end_at.ensures) (refused_caused _ roles.Recv c.in-Err.why (λ is. (refl, c.in-Err.ensures.calls_err.rose is)))

pub returns-in-Err-connect-clause-receives : goal.returns-in-Err-connect-clause-receives
returns-in-Err-connect-clause-receives g c = λ tells.
    let r = c.in-Ok.ensures in
    inr (r.fine tells, inl (refl, ap g.D.Disk.told.reading c.into_disk.ensures ∙ r.same.reads tells, c.in-Err-connect.ensures.did, refl))

pub returns-clause-receives : goal.returns-clause-receives
returns-clause-receives g c = λ tells.
    let r = c.in-Ok.ensures in
    let e = c.receive_with-end in
    let m = g.D.Disk.told in
    let row = c.args.row.now in
    let (x, receives, gave, sent, printed, keeps) = e.ensures.receives in
    let same = r.same.reads tells in
    let disk = sym c.into_disk-2.ensures in
    inr (
      r.fine tells,
      inr (
        e.result,
        c.end_of_receiver.ensures,
        record {
          came = c.in-Ok-connect.link;
          back = e.new.link;
          over = Grows-then _ _ _ (Connected row.high_port c.in-Ok-connect.link ∷ []) (BackToPorts e.new.link ∷ []) c.in-Ok-connect.ensures.did c.back.ensures.did;
          start = place_of c.in-Ok.receiver;
          stood = sym (value_by _ _ _ _ (r.ready.ready.each.reading tells)) ∙ ap value_of same;
          reception = x;
          disk_faults = m.count (recv_disk c.in-Ok.receiver);
          now_disk_faults = m.count (recv_disk e.new.receiver);
          receives = sized row (recv_size c.in-Ok.receiver) c.args.looks (place_of c.in-Ok.receiver) x _ e.result r.size receives;
          gave = gave;
          sent = sent;
          printed = printed;
          grown = λ sound list stands. subst (λ (d : g.row.D.Denot). RecvStands row (list ++ messages x.turns) (m.reading d)) disk (keeps.grown sound tells list (subst (RecvStands row list) (sym same) stands));
          kept = λ list stands. subst (λ (d : g.row.D.Denot). StandsForPrefix row list (attempted x e.result) (m.reading d)) disk (keeps.reads tells list (subst (RecvStands row list) (sym same) stands));
        },
      ),
    )

pub returns-clause-cause : goal.returns-clause-cause
returns-clause-cause g c =
    let e = c.receive_with-end in
    let x = e.ensures.receives in
    received_caused _ _ _ _ x.0 _ _ (λ rose. (refl, subst (λ (d : g.row.D.Denot). Rose (g.D.Disk.told.count c.args.disk) (g.D.Disk.told.count d)) (sym c.into_disk-2.ensures) (let low = c.in-Ok.ensures.calls.counts in omega (arith, rose, low))))
    (λ rose. rose) e.result _ c.end_of_receiver.ensures x.1
