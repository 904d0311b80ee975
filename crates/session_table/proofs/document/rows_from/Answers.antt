use Rattle.std.proofs.Common.{◌≡◌, [], Err, Vec, Global, arith}
use Rattle.std.proofs.lemmas.Grind.{common_steps}
use Rattle.std.proofs.lemmas.List.Elements.{All-push}
use Rattle.std.proofs.lemmas.List.Quantifiers.{all_pairs_push}
use Rattle.pump_frame.specs.Rows.{IsLawfulRow}
use Rattle.session_table.specs.Tables.{HasPorts, AreApart}
use Rattle.pump_frame.specs.declared.row.SessionRow.{SessionRow}
use Rattle.toml.specs.View.{items_view}
use Rattle.session_table.specs.Documents.{rows_from}
use Rattle.session_table.proofs.Entries.{refused}
use Rattle.session_table.proofs.document.rows_from.Goals as goal

pub loop-value-preserved : goal.loop-value-preserved
loop-value-preserved c =
    let before = c.loop-value.invariant in
    let row = c.in-Ok.ensures in
    record {
      count = grind (arith, common_steps);
      lawful = rw c.in-Ok-push.ensures.items (All-push IsLawfulRow c.loop-value.rows.items c.in-Ok.row before.lawful row.lawful);
      ports = rw c.in-Ok-push.ensures.items (All-push HasPorts c.loop-value.rows.items c.in-Ok.row before.ports row.ports);
      apart = rw c.in-Ok-push.ensures.items (all_pairs_push AreApart c.loop-value.rows.items c.in-Ok.row before.apart (rw c.as_slice.ensures.value at row.apart));
      same = grind (arith, common_steps);
    }

pub returns-in-Err-clause-value : goal.returns-in-Err-clause-value
returns-in-Err-clause-value c =
    let same : rows_from [] (items_view c.args.entries.now) ≡ Err c.in-Err.fault = grind (arith, common_steps) in
    refused (λ (rows : Vec SessionRow Global). rows.items) _ c.in-Err.fault same
