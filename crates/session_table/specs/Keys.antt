-- The keys of a table of sessions, by their names.
use Rattle.std.specs.Prelude.{ℕ, ◌||◌, Bool, false, not, List, [], ◌∷◌, codes}
use Rattle.std.specs.Str.{bytes_eq}
use Rattle.std.specs.List.{list_any}
use Rattle.pump_frame.specs.declared.row.RowKey.{RowKey}
use Rattle.pump_frame.specs.declared.row.RowKey.TheVariants.{Session, Id, Low, High, Capacity, Message, Window, Start}
use Rattle.pump_frame.specs.declared.row.RowKey.TheVariants.{Longest, Resend, LowPort, HighPort, Coarse}
use Rattle.toml.specs.Data.{Members, no_members, member}

-- a key's name in a document
abbrev pub key_name : RowKey → List ℕ
key_name Session = codes "session"
key_name Id = codes "id"
key_name Low = codes "low"
key_name High = codes "high"
key_name Capacity = codes "capacity"
key_name Message = codes "message"
key_name Window = codes "window"
key_name Start = codes "start"
key_name Longest = codes "longest"
key_name Resend = codes "resend"
key_name LowPort = codes "low_port"
key_name HighPort = codes "high_port"
key_name Coarse = codes "coarse"

-- the twelve keys that a row may have, in their order; the last one alone may be left out
abbrev pub row_keys : List RowKey
row_keys = Id ∷ Low ∷ High ∷ Capacity ∷ Message ∷ Window ∷ Start ∷ Longest ∷ Resend ∷ LowPort ∷ HighPort ∷ Coarse ∷ []

-- the name is that of one of these keys
abbrev pub is_named : List RowKey → List ℕ → Bool
is_named keys name = list_any (λ key. bytes_eq name (key_name key)) keys

-- a table has a key that is none of these
abbrev pub has_other : List RowKey → Members → Bool
has_other keys no_members = false
has_other keys (member name value rest) = not (is_named keys name) || has_other keys rest
