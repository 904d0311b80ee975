use Rattle.std.proofs.Common.{◌≡◌, List, sym, ◌∙◌, ap, subst}
use Rattle.disk_model.specs.Contents.{Held}
use Rattle.disk_model.specs.Mem.{Memory}
use Rattle.disk_model.specs.Record.{replay, IsImage, crashed}
use Rattle.disk_model.specs.RecordLaws.{crashed_image}
use Rattle.disk_model.specs.declared.record.Entry.{Entry}
use Rattle.disk_model.proofs.mem.MemDisk.crash.Goals as goal

pub returns-clause-image : goal.returns-clause-image
returns-clause-image c =
    let old = c.args.self.now in
    let inside = c.self.inside in
    let start : inside.start ≡ old.start = ap (λ (d : Memory). d.start) c.self.view_is in
    let log : inside.log.items ≡ old.log = ap (λ (d : Memory). d.log) c.self.view_is in
    let made : c.set-3.new.self.bytes ≡ crashed c.args.outcome c.set-2.new.self inside.log.items =
    ap (λ (h : Held). h.bytes) (c.set-3.ensures ∙ c.crash_into.ensures.made) in
    let is : c.set-3.new.self.bytes ≡ crashed c.args.outcome old.start old.log =
    made ∙ (λ i. crashed c.args.outcome ((c.set-2.ensures ∙ start) i) (log i)) in
    let empty : replay c.set-3.new.self c.clear.new.self.items ≡ c.set-3.new.self.bytes =
    ap (λ (l : List Entry). replay c.set-3.new.self l) c.clear.ensures.items in
    subst (IsImage old.start old.log) (sym (empty ∙ is)) (crashed_image c.args.outcome old.start old.log)
