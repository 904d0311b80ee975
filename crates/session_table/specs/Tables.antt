-- What holds of the rows of every table.
use Rattle.std.specs.Prelude.{◌<◌, ◌≤◌, ◌≢◌, List, length}
use Rattle.std.specs.List.{All, AllPairs}
use Rattle.pump_frame.specs.Rows.{IsLawfulRow}
use Rattle.pump_frame.specs.declared.row.SessionRow.{SessionRow}

-- the row's two ports are not 0, and are two
pub record HasPorts (row : SessionRow) : Type 0 where
  pub low : 0 < row.low_port
  pub high : 0 < row.high_port
  pub two : row.low_port ≢ row.high_port

-- the two rows have no id and no port in common
pub record AreApart (a b : SessionRow) : Type 0 where
  pub ids : a.id ≢ b.id
  pub low_ports : a.low_port ≢ b.low_port
  pub low_and_high : a.low_port ≢ b.high_port
  pub high_and_low : a.high_port ≢ b.low_port
  pub high_ports : a.high_port ≢ b.high_port

-- at most 16 rows, each lawful and with ports, and no two of them with anything in common
pub record IsTable (rows : List SessionRow) : Type 0 where
  pub few : length rows ≤ 16
  pub lawful : All IsLawfulRow rows
  pub ports : All HasPorts rows
  pub apart : AllPairs AreApart rows
