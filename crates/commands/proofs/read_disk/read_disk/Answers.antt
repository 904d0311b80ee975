use Rattle.std.proofs.Common.{List, ℕ, refl, ◌∙◌, subst}
use Rattle.disk_model.specs.Shelf.{ReadsFile}
use Rattle.commands.specs.ReadDisks.{file_name}
use Rattle.commands.proofs.ReadFiles.{read_of, read_so}
use Rattle.commands.proofs.read_disk.read_disk.Goals as goal

pub returns-in-Ok-clause-read : goal.returns-in-Ok-clause-read
returns-in-Ok-clause-read g c =
    let file = g.S.Shelf.told.file c.args.shelf.now in
    let named = c.as_str.ensures.value ∙ c.file_name-name.ensures in
    read_so (file (file_name c.args.session c.args.role)) g.S.Shelf.told.tells c.disk_of.result _ _ c.ok_or.result c.ok_or.ensures.value c.disk_of.ensures (λ told.
    read_of (file (file_name c.args.session c.args.role)) c.args.room.now c.whole.new.into _ c.in-Ok.length c.min-count.result
    (subst (λ (n : List ℕ). ReadsFile (file n) c.args.room.now c.whole.new.into c.in-Ok.length) named (c.in-Ok.ensures.reads told)) c.requires c.min-count.ensures refl)
