use Rattle.std.proofs.Common.{ℕ, List, inl, sym, ◌∙◌, subst}
use Rattle.std.proofs.KnownBytes.{Appends-nil}
use Rattle.disk_model.specs.declared.name.Role.TheVariants as roles
use Rattle.pump_frame.specs.declared.row.SessionRow.{SessionRow}
use Rattle.stable_buffer.specs.Log.{RecvStands}
use Rattle.commands.specs.LentDisks.{StopsAtDisk}
use Rattle.command_ends.specs.CommandEnds.{IsUnwrapEnd}
use Rattle.commands.specs.Unwrapping.{UnwrapsOn}
use Rattle.commands.proofs.LentDisks.{refused_role, stops_at_disk}
use Rattle.commands.proofs.Unwrapped.{gather_only, gather_role, unwraps_gathered}
use Rattle.commands.proofs.unwrap.unwrap_on.Goals as goal

pub returns-in-Ok-clause-unwraps : goal.returns-in-Ok-clause-unwraps
returns-in-Ok-clause-unwraps g c = λ tells.
    let m = g.D.Disk.told in
    let r = c.in-Ok.ensures in
    let row = c.args.row.now in
    let some = r.stands tells in
    let on : RecvStands c.in-Ok.receiver.row some.0 (m.reading c.in-Ok.receiver.register.disk) = subst (λ (x : SessionRow). RecvStands x some.0 (m.reading c.in-Ok.receiver.register.disk)) (sym r.row) (subst (λ (d : List ℕ). RecvStands row some.0 d) (sym (r.same.reads tells)) some.1) in
    subst (UnwrapsOn row (m.reading c.args.disk) (g.O.Sink.written c.args.out.now) (g.O.Sink.written c.gather-gathered.new.out)) (sym c.end_of_gather.ensures)
    (unwraps_gathered row (m.reading c.args.disk) _ _ c.gather-gathered.result (r.fine tells) some.0 some.1 (c.gather-gathered.ensures.gathers tells some.0 on))

pub returns-in-Err-clause-unwraps : goal.returns-in-Err-clause-unwraps
returns-in-Err-clause-unwraps g c = λ tells.
    let row = c.args.row.now in
    let stops = subst (StopsAtDisk _ row) (sym c.end_at.ensures) (stops_at_disk _ row c.in-Err.why (λ other. c.in-Err.ensures.exact other tells)) in
    inl (stops, Appends-nil _)

pub returns-in-Ok-clause-only : goal.returns-in-Ok-clause-only
returns-in-Ok-clause-only g c = subst IsUnwrapEnd (sym c.end_of_gather.ensures) (gather_only c.gather-gathered.result)

pub returns-in-Ok-clause-role : goal.returns-in-Ok-clause-role
returns-in-Ok-clause-role g c = λ role is. gather_role c.gather-gathered.result role (sym c.end_of_gather.ensures ∙ is)

pub returns-in-Err-clause-role : goal.returns-in-Err-clause-role
returns-in-Err-clause-role g c = λ role is. refused_role roles.Recv role c.in-Err.why (sym c.end_at.ensures ∙ is)
