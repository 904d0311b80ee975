use Rattle.std.proofs.Common.{◌≡◌, ℕ, List, Option, subst, arith}
use Rattle.std.proofs.lemmas.Result.{IfErr-weaker}
use Rattle.pump_frame.specs.Counts.{Rose}
use Rattle.commands.specs.ReadDisks.{disk_file}
use Rattle.command_ends.specs.Tables.{HasRow}
use Rattle.commands.specs.Telling.{StopsTelling}
use Rattle.command_ends.specs.CommandEnds.{IsSessionEnd}
use Rattle.command_ends.proofs.TableRows.{table_cause, table_only}
use Rattle.commands.proofs.Caused.{if_disk_cause}
use Rattle.commands.proofs.Failing.{rose_within}
use Rattle.commands.proofs.Told.{stops_told}
use Rattle.commands.proofs.status.status_text.Goals as goal

pub returns-in-Ok-clause-stops : goal.returns-in-Ok-clause-stops
returns-in-Ok-clause-stops g c =
    let before = g.S.Shelf.told.faults c.args.shelf.now in
    let then = g.S.Shelf.told.faults c.row_in_file.new.shelf in
    let now = g.S.Shelf.told.faults c.row_text.new.shelf in
    let named : c.as_str.result.now ≡ c.args.table.now = c.as_str.ensures.value in
    IfErr-weaker c.row_text.result _ _ (λ end h told. stops_told (g.S.Shelf.told.file c.args.shelf.now c.args.table.now) (disk_file (g.S.Shelf.told.file c.args.shelf.now) c.args.session)
    (Rose then now) (Rose before now) (λ rose. rose_within before then now now c.row_in_file.ensures.later (omega arith) rose)
    c.args.session c.in-Ok.row (subst (λ (name : List ℕ). HasRow (g.S.Shelf.told.file c.args.shelf.now name) c.args.session c.in-Ok.row) named (c.in-Ok.ensures.row told)) end
    (subst (λ (f : List ℕ → Option (List ℕ)). StopsTelling (disk_file f c.args.session) (Rose then now) c.in-Ok.row end) c.row_in_file.ensures.files (h told))) c.row_text.ensures.stops

pub returns-in-Ok-clause-cause : goal.returns-in-Ok-clause-cause
returns-in-Ok-clause-cause g c = if_disk_cause c.row_text.result _ _ c.row_text.ensures.only (λ role is.
    rose_within (g.S.Shelf.told.faults c.args.shelf.now) (g.S.Shelf.told.faults c.row_in_file.new.shelf) (g.S.Shelf.told.faults c.row_text.new.shelf) _ c.row_in_file.ensures.later (omega arith) (c.row_text.ensures.device role is))

pub returns-in-Err-clause-cause : goal.returns-in-Err-clause-cause
returns-in-Err-clause-cause g c = table_cause IsSessionEnd _ _ _ c.in-Err.end c.in-Err.ensures.only table_only c.in-Err.ensures.read
