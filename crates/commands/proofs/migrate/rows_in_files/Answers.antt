use Rattle.std.proofs.Common.{List, ℕ, Option, subst}
use Rattle.command_ends.specs.Tables.{HasRow}
use Rattle.commands.proofs.Migrated.{same_session}
use Rattle.commands.proofs.migrate.rows_in_files.Goals as goal

pub returns-then-session-new_session-clause-none : goal.returns-then-session-new_session-clause-none
returns-then-session-new_session-clause-none g c = λ why is told.
    let file = g.S.Shelf.told.file in
    let row = c.in_ok-row.row in
    let new_row = c.in_ok-new_row.new_row in
    let has = subst (λ (n : List ℕ). HasRow (file c.args.shelf.now n) c.args.session row) c.as_str.ensures.value (c.in_ok-row.ensures.row told) in
    let has_new = subst (λ (n : List ℕ). HasRow (file c.args.shelf.now n) c.args.new_session new_row) c.as_str-2.ensures.value
    (subst (λ (f : List ℕ → Option (List ℕ)). HasRow (f c.as_str-2.result.now) c.args.new_session new_row) c.row_in_file.ensures.files (c.in_ok-new_row.ensures.row told)) in
    same_session (file c.args.shelf.now c.args.table.now) (file c.args.shelf.now c.args.new_table.now) c.args.session c.args.new_session row new_row has has_new c.if-session-new_session.true why is
