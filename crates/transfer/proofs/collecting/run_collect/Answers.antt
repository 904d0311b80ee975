use Rattle.std.proofs.Common.{ℕ, List, Err, inl, inr, refl, subst}
use Rattle.pump_link.proofs.Grown.{Grows-nil}
use Rattle.command_ends.specs.Tables.{HasRow, IsRowOf}
use Rattle.command_ends.proofs.TableRows.{stops_at_file}
use Rattle.transfer.proofs.collecting.run_collect.Goals as goal

pub returns-in-Ok-clause-comes : goal.returns-in-Ok-clause-comes
returns-in-Ok-clause-comes g c = λ told.
    inr (c.in-Ok.row, subst (λ (n : List ℕ). HasRow (g.S.Shelf.told.file c.args.shelf.now n) c.args.errand.now.session c.in-Ok.row) c.as_str.ensures.value (c.in-Ok.ensures.row told), c.collect_for.ensures.collects)

pub returns-in-Err-clause-comes : goal.returns-in-Err-clause-comes
returns-in-Err-clause-comes g c = λ told.
    inl (stops_at_file (g.S.Shelf.told.file c.args.shelf.now c.args.errand.now.table.now) (g.S.Shelf.told.faults c.args.shelf.now) (g.S.Shelf.told.faults c.row_in_file.new.shelf) c.args.errand.now.session c.in-Err.end c.in-Err.ensures.only (subst (λ (n : List ℕ). IsRowOf (g.S.Shelf.told.file c.args.shelf.now n) c.args.errand.now.session (Err c.in-Err.end)) c.as_str.ensures.value (c.in-Err.ensures.row told)) c.in-Err.ensures.read, Grows-nil _, Grows-nil _, refl)
