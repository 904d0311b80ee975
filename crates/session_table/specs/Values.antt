-- What stands at one key of one row: a number, a name, a truth value, or the first thing that is wrong there. A row
-- is told by its place, counted from 1.
use Rattle.std.specs.Prelude.{ℕ, ℤ, pos, int_le, nat_abs, nat_le, nat_lt, ◌&&◌, Bool, false, if◌then◌else◌, List}
use Rattle.std.specs.Prelude.{length, Option, None, Some, Result, Ok, Err}
use Rattle.std.specs.List.{list_all}
use Rattle.pump_frame.specs.Names.{is_name_byte}
use Rattle.pump_frame.specs.declared.row.RowKey.{RowKey}
use Rattle.session_table.specs.declared.fault.TableFault.{TableFault}
use Rattle.session_table.specs.declared.fault.TableFault.TheVariants.{MissingKey, OutOfRange, Name}
use Rattle.session_table.specs.Keys.{key_name}
use Rattle.toml.specs.Data.{Data, Members, get_member, as_integer, as_str, as_bool}

-- what was read goes on to the next step; a refusal ends the reading
infixl 10 ◌>>=◌
abbrev pub ◌>>=◌ : {A B : Type 0} → Result A TableFault → (A → Result B TableFault) → Result B TableFault
(Ok x) >>= next = next x
(Err fault) >>= next = Err fault

-- what stands at a key that has to be there
abbrev pub required : ℕ → RowKey → Option Data → Result Data TableFault
required row key None = Err (MissingKey row key)
required row key (Some value) = Ok value

-- a whole number from `least` to `greatest`
abbrev pub whole_of : ℕ → RowKey → ℕ → ℕ → Option ℤ → Result ℕ TableFault
whole_of row key least greatest None = Err (OutOfRange row key None)
whole_of row key least greatest (Some z) =
    if int_le (pos least) z && int_le z (pos greatest) then Ok (nat_abs z)
    else Err (OutOfRange row key (Some z))

-- 1 to 32 of the bytes of names
abbrev pub is_name : List ℕ → Bool
is_name bytes = nat_lt 0 (length bytes) && nat_le (length bytes) 32 && list_all is_name_byte bytes

-- a text that is a name
abbrev pub name_of : ℕ → RowKey → Option (List ℕ) → Result (List ℕ) TableFault
name_of row key None = Err (Name row key)
name_of row key (Some text) = if is_name text then Ok text else Err (Name row key)

-- the number at a key, and the name at a key
abbrev pub whole_at : ℕ → RowKey → ℕ → ℕ → Members → Result ℕ TableFault
whole_at row key least greatest members = required row key (get_member (key_name key) members) >>= λ value.
    whole_of row key least greatest (as_integer value)

abbrev pub name_at : ℕ → RowKey → Members → Result (List ℕ) TableFault
name_at row key members = required row key (get_member (key_name key) members) >>= λ value.
    name_of row key (as_str value)

-- a truth value; where none has to stand and nothing does, false
abbrev pub truth_of : ℕ → RowKey → Option Bool → Result Bool TableFault
truth_of row key None = Err (OutOfRange row key None)
truth_of row key (Some truth) = Ok truth

abbrev pub truth_or_false : ℕ → RowKey → Option Data → Result Bool TableFault
truth_or_false row key None = Ok false
truth_or_false row key (Some value) = truth_of row key (as_bool value)

-- the truth value at a key that may be left out
abbrev pub truth_at : ℕ → RowKey → Members → Result Bool TableFault
truth_at row key members = truth_or_false row key (get_member (key_name key) members)
