use Rattle.std.proofs.Common.{◌≡◌, ℕ, ◌+◌, length, sym, ◌∙◌, ap, subst, arith}
use Rattle.disk_model.specs.Disk.{Each}
use Rattle.stable_buffer.specs.Register.{Selects}
use Rattle.file_messages.specs.Messages.{start_message}
use Rattle.file_collector.proofs.Turns.{wrote, started_by}
use Rattle.file_collector.proofs.turning.prepare.Goals as goal

pub returns-in-Some-clause-started : goal.returns-in-Some-clause-started
returns-in-Some-clause-started g c =
    started_by g.D.Disk.told.tells c.args.register.now.second c.write_start.result c.in-Some.progress (g.D.Disk.told.reading c.args.register.now.disk) (g.D.Disk.told.reading c.write_start.new.register.disk)
    c.args.progress.now c.in-Some.is c.requires.size c.write_start.ensures.written

pub returns-in-Some-clause-moves : goal.returns-in-Some-clause-moves
returns-in-Some-clause-moves g c =
    let m = g.D.Disk.told in
    let r = c.args.register.now in
    let p = c.in-Some.progress in
    let none : r.second ≡ 0 = ap (λ (v : ℕ × ℕ). v.1) (sym c.value.ensures) ∙ c.if-value-eq0.true in
    let selects : Each m (Selects r.parity r.first 0) r.disk = subst (λ k. Each m (Selects r.parity r.first k) r.disk) none c.requires.ready.each in
    wrote m r.parity r.first (2 + length (start_message p.name p.size)) r.disk c.write_start.new.register.disk (omega (arith, c.write_start.ensures.short)) selects c.write_start.ensures.moves
