use Rattle.std.proofs.Common.{arith, ◌∷◌, ◌∙◌, ap}
use Rattle.std.proofs.lemmas.Grind.{common_steps}
use Rattle.disk_model.specs.Mem.{Memory}
use Rattle.disk_model.specs.declared.record.Entry.TheVariants.{Sync}
use Rattle.disk_model.proofs.Log.{moves_synced}
use Rattle.disk_model.proofs.mem.MemDiskDisk.sync.Goals as goal

pub returns-clause-moves : goal.returns-clause-moves
returns-clause-moves c =
    let same = c.is_next_failing.ensures.value in
    moves_synced c.args.self.now c.mark.new.self
    (ap (λ (d : Memory). d.start) c.mark.ensures ∙ ap (λ (d : Memory). d.start) same)
    (ap (λ (d : Memory). d.log) c.mark.ensures ∙ ap (λ (d : Memory). Sync ∷ d.log) same)

pub returns-then-is_next_failing-clause-answers : goal.returns-then-is_next_failing-clause-answers
returns-then-is_next_failing-clause-answers c = grind (arith, common_steps)

pub returns-then-is_next_failing-clause-works : goal.returns-then-is_next_failing-clause-works
returns-then-is_next_failing-clause-works c = grind (arith, common_steps)

pub returns-then-is_next_failing-clause-fails : goal.returns-then-is_next_failing-clause-fails
returns-then-is_next_failing-clause-fails c = grind (arith, common_steps)

pub returns-clause-works : goal.returns-clause-works
returns-clause-works c = grind (arith, common_steps)
