use Rattle.std.proofs.Common.{◌≡◌, ◌<◌, ◌^◌, arith, false, Some, Err, sym, ap, ◌∙◌, subst}
use Rattle.std.proofs.Math.Logic.{∥∥₁_elim}
use Rattle.std.proofs.Props.{props}
use Rattle.disk_model.specs.Disk.{Moves, Same}
use Rattle.high_receiver.specs.Receiving.{recv_disk}
use Rattle.recovery.specs.Calls.{Calls, is_device}
use Rattle.recovery.specs.Refusals.{refused_receiver}
use Rattle.script_reader.specs.Highs.{receiver_size}
use Rattle.stable_buffer.specs.Register.{value_of}
use Rattle.two_worlds.specs.declared.applied.Stop.{Stop}
use Rattle.two_worlds.specs.declared.pump.state.PumpState.TheVariants.{Shut}
use Rattle.two_worlds.specs.Private.Reopening.{Reopens}
use Rattle.two_worlds.proofs.Reopening.Receiver.{reopens}
use Rattle.two_worlds.proofs.Reopening.Refused.{refused}
use Rattle.two_worlds.proofs.pump.parts.Parts.reopened.Goals as goal

pub open_receiver-requires : goal.open_receiver-requires
open_receiver-requires g c = record { lawful = ∥∥₁_elim c.requires.able.works (hlevel props) (λ w. w.row) }

pub returns-in-Ok : goal.returns-in-Ok
returns-in-Ok g c =
    let m = g.D.Disk.told in
    let new = c.in-Ok.receiver in
    let disk = c.into_disk.ensures in
    reopens m c.args.self new (record {
      ready = c.in-Ok.ensures.ready;
      row = c.in-Ok.ensures.row;
      size = c.in-Ok.ensures.size;
      value = λ told. c.in-Ok.ensures.value told ∙ ap (λ d. value_of (m.reading d)) disk;
      calls = subst (λ d. Calls m d (recv_disk new) false) disk c.in-Ok.ensures.calls;
      same = subst (λ d. Moves m Same d (recv_disk new)) disk c.in-Ok.ensures.same;
    }) c.requires.able

pub returns-in-Err : goal.returns-in-Err
returns-in-Err g c =
    let m = g.D.Disk.told in
    let own = c.args.self in
    let recv = c.in-Err.recv in
    let why = c.in-Err.why in
    let disk = c.into_disk.ensures in
    let small : own.row.id < 2 ^ 32 = omega arith in
    subst (λ (t : _ × _ × Stop). Reopens m own (Shut (record { row = own.row; low = t.0; high = t.1; recv = recv })) (Err t.2))
    (λ i. (sym c.into_disk-in-Err.ensures i, sym c.into_disk-in-Err-2.ensures i, sym c.stop_for.ensures i))
    (refused m own recv c.requires.able small why (record {
      cause = λ fine told. subst (λ d. refused_receiver own.row receiver_size (m.reading d) ≡ Some why) disk (c.in-Err.ensures.exact fine told);
      device = c.in-Err.ensures.device;
      calls = subst (λ d. Calls m d recv (is_device why)) disk c.in-Err.ensures.calls_err;
      same = subst (λ d. Moves m Same d recv) disk c.in-Err.ensures.same_err;
    }))
