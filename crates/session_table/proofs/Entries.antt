-- The entries of a document's own map and list, beside what is said of its members and items.
use Rattle.std.proofs.Common.{◌≡◌, suc, length, is_some, not, ◌&&◌, ◌||◌, List, [], ◌∷◌, String, Global, string_bytes, Result, Err, refl, ap}
use Rattle.std.specs.List.{list_all, list_any}
use Rattle.std.specs.Map.{keys_of}
use Rattle.pump_frame.specs.declared.row.RowKey.{RowKey}
use Rattle.toml.specs.declared.value.Value.{Value}
use Rattle.toml.specs.View.{view, members_view, items_view}
use Rattle.toml.specs.Data.{as_table}
use Rattle.session_table.specs.Keys.{is_named, has_other}
use Rattle.session_table.specs.Answers.{AnswersBy}
use Rattle.session_table.specs.declared.fault.TableFault.{TableFault}
use Rattle.session_table.specs.declared.fault.TableFault.TheVariants.{NotToml, MissingKey, UnknownKey, OutOfRange, Name, TwiceId, TwicePort, TooMany, Memory}
use Rattle.session_table.specs.Documents.{are_tables, entry_count}

pub has_other_view : (keys : List RowKey) (entries : List (String Global × Value)) → list_any (λ name. not (is_named keys (string_bytes name))) (keys_of entries) ≡ has_other keys (members_view entries)
has_other_view keys [] = refl
has_other_view keys (entry ∷ rest) = ap (λ b. not (is_named keys (string_bytes entry.0)) || b) (has_other_view keys rest)

pub are_tables_view : (values : List Value) → list_all (λ value. is_some (as_table (view value))) values ≡ are_tables (items_view values)
are_tables_view [] = refl
are_tables_view (value ∷ rest) = ap (λ b. is_some (as_table (view value)) && b) (are_tables_view rest)

pub entry_count_view : (values : List Value) → entry_count (items_view values) ≡ length values
entry_count_view [] = refl
entry_count_view (value ∷ rest) = ap (λ n. suc n) (entry_count_view rest)

-- a fault that the definition gives too is the answer, whichever it is
pub refused : {A B : Type 0} (view : A → B) (given : Result B TableFault) (fault : TableFault) → given ≡ Err fault → AnswersBy view (Err fault) given
refused view given NotToml same = same
refused view given (MissingKey row key) same = same
refused view given (UnknownKey row) same = same
refused view given (OutOfRange row key value) same = same
refused view given (Name row key) same = same
refused view given (TwiceId row id) same = same
refused view given (TwicePort row port) same = same
refused view given (TooMany rows) same = same
refused view given Memory same = tt
