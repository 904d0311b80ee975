-- What the fault line of a refusal has, and the ranges that its sentence names.
use Rattle.std.specs.Prelude.{ℕ, Option, None, Some}
use Rattle.pump_frame.specs.Rows.{least_capacity, greatest_capacity}
use Rattle.pump_frame.specs.declared.row.RowKey.{RowKey}
use Rattle.pump_frame.specs.declared.row.RowKey.TheVariants.{Id, Capacity, Message, Window, Start, Longest, Resend}
use Rattle.pump_frame.specs.declared.row.RowKey.TheVariants.{LowPort, HighPort}
use Rattle.session_table.specs.declared.fault.TableFault.{TableFault}
use Rattle.session_table.specs.declared.fault.TableFault.TheVariants.{NotToml, MissingKey, UnknownKey, OutOfRange, Name}
use Rattle.session_table.specs.declared.fault.TableFault.TheVariants.{TwiceId, TwicePort, TooMany, Memory}

-- a refusal's number
abbrev pub fault_number : TableFault → ℕ
fault_number NotToml = 1
fault_number (MissingKey row key) = 2
fault_number (UnknownKey row) = 3
fault_number (OutOfRange row key value) = 4
fault_number (Name row key) = 5
fault_number (TwiceId row id) = 6
fault_number (TwicePort row port) = 7
fault_number (TooMany rows) = 8
fault_number Memory = 9

-- the row that a refusal is about, counted from 1; 0 where it is about none
abbrev pub fault_row : TableFault → ℕ
fault_row NotToml = 0
fault_row (MissingKey row key) = row
fault_row (UnknownKey row) = row
fault_row (OutOfRange row key value) = row
fault_row (Name row key) = row
fault_row (TwiceId row id) = row
fault_row (TwicePort row port) = row
fault_row (TooMany rows) = 0
fault_row Memory = 0

-- the least and the greatest number that a key may have
abbrev pub range_of : RowKey → Option (ℕ × ℕ)
range_of Id = Some (0, 4294967295)
range_of Capacity = Some (least_capacity, greatest_capacity)
range_of Message = Some (1, 1024)
range_of Window = Some (1, 256)
range_of Start = Some (0, 1000000000)
range_of Longest = Some (0, 1000000000)
range_of Resend = Some (1, 1000000000)
range_of LowPort = Some (1, 65535)
range_of HighPort = Some (1, 65535)
range_of _ = None
