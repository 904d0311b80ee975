use Rattle.std.proofs.Common.{◌≡◌, ◌∷◌, ◌∙◌, ap, arith}
use Rattle.std.proofs.lemmas.Grind.{common_steps}
use Rattle.disk_model.specs.Mem.{Memory}
use Rattle.disk_model.specs.declared.record.Entry.TheVariants.{Write}
use Rattle.disk_model.proofs.Log.{moves_written, holds_written}
use Rattle.disk_model.proofs.mem.MemDiskDisk.write_at.Goals as goal

pub returns-clause-written : goal.returns-clause-written
returns-clause-written c =
    let same = c.is_next_failing-fails.ensures.value in
    let start : c.keep.new.self.start ≡ c.args.self.now.start = ap (λ (d : Memory). d.start) c.keep.ensures ∙ ap (λ (d : Memory). d.start) same in
    let log : c.keep.new.self.log ≡ Write c.args.at c.args.bytes.now ∷ c.args.self.now.log =
    ap (λ (d : Memory). d.log) c.keep.ensures ∙ ap (λ (d : Memory). Write c.args.at c.args.bytes.now ∷ d.log) same in
    holds_written c.args.self.now c.keep.new.self c.args.at c.args.bytes.now start log (c.requires) (grind arith)

pub returns-clause-moves : goal.returns-clause-moves
returns-clause-moves c =
    let same = c.is_next_failing-fails.ensures.value in
    let start : c.keep.new.self.start ≡ c.args.self.now.start = ap (λ (d : Memory). d.start) c.keep.ensures ∙ ap (λ (d : Memory). d.start) same in
    let log : c.keep.new.self.log ≡ Write c.args.at c.args.bytes.now ∷ c.args.self.now.log =
    ap (λ (d : Memory). d.log) c.keep.ensures ∙ ap (λ (d : Memory). Write c.args.at c.args.bytes.now ∷ d.log) same in
    moves_written c.args.self.now c.keep.new.self c.args.at c.args.bytes.now start log

pub returns-then-fails-clause-moves : goal.returns-then-fails-clause-moves
returns-then-fails-clause-moves c = grind (arith, common_steps)

pub returns-then-not-takes-clause-moves : goal.returns-then-not-takes-clause-moves
returns-then-not-takes-clause-moves c = grind (arith, common_steps)
