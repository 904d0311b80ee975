use Rattle.std.proofs.Common.{arith, ◌+◌, length, take}
use Rattle.std.proofs.lemmas.Grind.{common_steps}
use Rattle.disk_model.specs.Disk.{Torn}
use Rattle.disk_model.proofs.Run.{each_after}
use Rattle.stable_buffer.specs.Register.{Selects}
use Rattle.stable_buffer.proofs.Cells.{selects_beside}
use Rattle.stable_buffer.proofs.register.Register.write_spelled.Goals as goal

pub returns-clause-ready : goal.returns-clause-ready
returns-clause-ready g c =
    let r = c.args.self.now in
    let P = Selects r.parity r.first r.second in
    let n = length (take (2 + c.len.result) c.spell.new.slot) in
    let ready = c.requires.ready in
    record {
      is_open = ready.is_open;
      parity = ready.parity;
      each = each_after g.D.Disk.told P P (Torn c.args.at n) r.disk c.write.new.disk ready.each
          (λ a b is torn. selects_beside r.parity r.first r.second c.args.at n a b ready.parity c.requires.beside is torn) c.write.ensures.moves;
    }

pub returns-clause-answers : goal.returns-clause-answers
returns-clause-answers g c = grind (arith, common_steps)

pub returns-clause-written : goal.returns-clause-written
returns-clause-written g c = grind (arith, common_steps)

pub returns-clause-moves : goal.returns-clause-moves
returns-clause-moves g c = grind (arith, common_steps)

pub write-requires : goal.write-requires
write-requires g c = grind (arith, common_steps)
