use Rattle.std.proofs.Common.{◌≡◌, length, drop, []}
use Rattle.std.specs.List.{All, AllPairs}
use Rattle.pump_frame.specs.Rows.{IsLawfulRow}
use Rattle.toml.specs.View.{items_view}
use Rattle.session_table.specs.Documents.{rows_from}
use Rattle.session_table.specs.Tables.{HasPorts, AreApart}
use Rattle.session_table.proofs.document.rows_from.Given as goal

abbrev pub invariant-loop-value : goal.invariant-loop-value
invariant-loop-value l = record {
  count : length l.rows.items ≡ l.value-index;
  lawful : All IsLawfulRow l.rows.items;
  ports : All HasPorts l.rows.items;
  apart : AllPairs AreApart l.rows.items;
  same : rows_from [] (items_view l.entries) ≡ rows_from l.rows.items (items_view (drop l.value-index l.entries));
}
