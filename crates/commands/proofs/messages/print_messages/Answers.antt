use Rattle.std.proofs.Common.{refl}
use Rattle.disk_model.specs.declared.name.Role.TheVariants.{Recv}
use Rattle.high_receiver.specs.Receiving.{recv_disk, recv_row}
use Rattle.commands.specs.Messages.{HasLog, PrintsMessages}
use Rattle.commands.specs.ReadDisks.{disk_file}
use Rattle.command_ends.specs.declared.command_end.CommandEnd.TheVariants as ends
use Rattle.command_ends.proofs.CommandEnds.{closed_cause, done_cause, ends_so}
use Rattle.command_ends.specs.CommandEnds.{IsSessionEnd}
use Rattle.commands.proofs.messages.print_messages.Goals as goal

pub returns-in-Ok-clause-ends : goal.returns-in-Ok-clause-ends
returns-in-Ok-clause-ends g c = λ told.
    let opens = c.in-Ok.ensures.opens in
    let stands = opens.ready.stands tt in
    let log : HasLog (recv_row c.in-Ok.receiver) (disk_file (g.S.Shelf.told.file c.args.shelf.now) c.args.session Recv) stands.0 = record { read = (recv_disk c.in-Ok.receiver).bytes; read_is = c.in-Ok.ensures.read told; fine = opens.fine; stands = stands.1 } in
    ends_so (PrintsMessages (g.S.Shelf.told.file c.args.shelf.now c.args.table.now) (disk_file (g.S.Shelf.told.file c.args.shelf.now) c.args.session Recv) c.args.session c.args.from) (λ output h. h) _ _ _ _ _ ends.Done c.write_messages.result
    (c.write_messages.ensures stands.0 stands.1) (recv_row c.in-Ok.receiver, c.in-Ok.ensures.row told, stands.0, log, refl)

pub returns-in-Ok-clause-cause : goal.returns-in-Ok-clause-cause
returns-in-Ok-clause-cause g c =
    let stands = c.in-Ok.ensures.opens.ready.stands tt in
    done_cause _ _ _ _ _ _ _ c.write_messages.result (c.write_messages.ensures stands.0 stands.1)

pub returns-in-Err-clause-ends : goal.returns-in-Err-clause-ends
returns-in-Err-clause-ends g c = λ told.
    ends_so (PrintsMessages (g.S.Shelf.told.file c.args.shelf.now c.args.table.now) (disk_file (g.S.Shelf.told.file c.args.shelf.now) c.args.session Recv) c.args.session c.args.from) (λ output h. h) _ _ _ _ _ c.in-Err.end c.write_end.result c.write_end.ensures (c.in-Err.ensures.stops c.args.from told)

pub returns-in-Err-clause-cause : goal.returns-in-Err-clause-cause
returns-in-Err-clause-cause g c = closed_cause IsSessionEnd _ _ _ _ _ _ _ _ c.in-Err.end c.write_end.result tt c.write_end.ensures c.in-Err.ensures.cause (λ role rose. rose)
