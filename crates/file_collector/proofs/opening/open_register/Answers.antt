use Rattle.std.proofs.Common.{◌≡◌, ◌<◌, ◌^◌, inr, arith, List, ℕ, refl, sym, ◌∙◌, ap, subst}
use Rattle.stable_buffer.specs.Register.{register_disk, register_value, value_of}
use Rattle.file_messages.specs.Files.{Between}
use Rattle.file_collector.specs.Registers.{RegisterStands}
use Rattle.file_collector.specs.Making.{new_register}
use Rattle.file_collector.proofs.Made.{new_stands}
use Rattle.file_collector.proofs.Causes.{rose_later, above_limit, value_read, opened_on, damaged_by}
use Rattle.disk_model.proofs.Run.{goes_on_same}
use Rattle.file_collector.specs.Making.{MayBeMade}
use Rattle.file_collector.proofs.opening.open_register.Goals as goal

pub returns-else-value-gt-LIMIT-clause-new : goal.returns-else-value-gt-LIMIT-clause-new
returns-else-value-gt-LIMIT-clause-new g c = λ none told.
    let m = g.D.Disk.told in
    let e = c.in-Ok.ensures in
    let r = c.in-Ok.register in
    let made : m.reading c.make.new.disk ≡ new_register = c.in_ok-make.ensures.new told (none told) in
    let now : m.reading r.disk ≡ new_register = e.moves.reads told ∙ made in
    record {
      ready = e.ready;
      value = e.found told ∙ ap value_of made ∙ new_stands.value;
      settled = e.settled;
      stands = λ yes. subst (λ (l : List ℕ). RegisterStands 0 Between l) (sym now) new_stands;
    }

pub returns-then-value-gt-LIMIT-clause-cause : goal.returns-then-value-gt-LIMIT-clause-cause
returns-then-value-gt-LIMIT-clause-cause g c = λ told.
    let m = g.D.Disk.told in
    let e = c.in-Ok.ensures in
    let k = c.in_ok-make.ensures in
    let r = c.in-Ok.register in
    let read = value_read m r e.ready told in
    let above : 2 ^ 48 < r.first = omega (arith, ap (λ (v : ℕ × ℕ). v.0) c.value.ensures, c.if-value-gt-LIMIT.true) in
    damaged_by m c.args.disk r told (opened_on m c.args.disk c.make.new.disk r k.later e.answers.counts e.moves k.made_of k.moves) read (inr above)
    (above_limit (m.reading (register_disk r)) (register_value r) read above)

pub returns-else-value-gt-LIMIT-clause-opened : goal.returns-else-value-gt-LIMIT-clause-opened
returns-else-value-gt-LIMIT-clause-opened g c =
    let m = g.D.Disk.told in
    let e = c.in-Ok.ensures in
    let k = c.in_ok-make.ensures in
    opened_on m c.args.disk c.make.new.disk c.in-Ok.register k.later e.answers.counts e.moves k.made_of k.moves

pub returns-in-Err-clause-cause : goal.returns-in-Err-clause-cause
returns-in-Err-clause-cause g c =
    let m = g.D.Disk.told in
    let e = c.in-Err.ensures in
    let k = c.in_ok-make.ensures in
    record {
      left = c.in-Err.disk;
      device = (c.faults.ensures, rose_later (m.count c.args.disk) (m.count c.make.new.disk) (m.count c.in-Err.disk) k.later (e.answers.rose refl));
      moves = goes_on_same m MayBeMade c.args.disk c.make.new.disk c.in-Err.disk k.moves e.moves;
    }
