-- What the two halves of a session begin with.
use Rattle.std.specs.Prelude.{◌≡◌, ℕ, List, [], Option, is_some}
use Rattle.rand_chacha.specs.ChaCha.{ChaCha, key_of}
use Rattle.pump_core.specs.Passage.{Low, High, ComesNext, new_high}
use Rattle.pump_frame.specs.declared.frame.Item.{Item}
use Rattle.pump_frame.specs.declared.row.SessionRow.{SessionRow}
use Rattle.script_reader.specs.Grammar.{IsCount}
use Rattle.stable_buffer.specs.declared.high.HighStore.{HighStore}
use Rattle.stable_buffer.specs.declared.low.LowStore.{LowStore}
use Rattle.low_process.specs.Ends.{number_offered, StandsFitting}
use Rattle.low_process.specs.Looks.{opening_of, next_of, row_of, hand_of}
use Rattle.high_process.specs.Ends.{StandsFitting as HighFitting}
use Rattle.high_process.specs.Looks.{StandsFor}
use Rattle.high_process.specs.Past.{fresh}
use Rattle.high_process.specs.States.{row_of as high_row_of}
use Rattle.relay_threads.specs.LowServes.{Lives}
use Rattle.serving.specs.declared.high_half.HighParts.{HighParts}
use Rattle.serving.specs.declared.low_half.LowParts.{LowParts}

-- The low process begins with this count and this hand, over this store and this end of the passage, and its words are
-- the first of the key. It fits all that the end stands for and that the next message may come behind.
pub record LowBegins {S E : Type 0} (stands : E → Low → High → Type 0) (row : SessionRow) (next : ℕ)
    (hand : Option Item) (store : LowStore S) (ends : E) (key : List ℕ) (parts : LowParts ChaCha S E) : Type 0 where
  pub row_is : row_of parts.process ≡ row
  pub next_is : next_of parts.process ≡ next
  pub hand_is : hand_of parts.process ≡ hand
  pub held_is : parts.is_held ≡ is_some hand
  pub counted : IsCount next (is_some hand)
  pub lives : Lives parts.process (opening_of next hand) []
  pub words_are : parts.words ≡ record { key = key_of key; stream = 0; word_pos = 0 }
  pub store_is : parts.store ≡ store
  pub ends_are : parts.ends ≡ ends
  pub fits : (l : Low) (h : High) → stands ends l h → ComesNext l.forwarded (number_offered next hand)
      → StandsFitting (stands parts.ends) parts.process l h

-- .. and the high process with so many messages removed. It fits its end beside any low end.
pub record HighBegins {S E : Type 0} (stands : E → Low → High → Type 0) (row : SessionRow) (removed : ℕ)
    (hand : Option Item) (store : HighStore S) (ends : E) (parts : HighParts S E) : Type 0 where
  pub row_is : high_row_of parts.process ≡ row
  pub stood : StandsFor parts.process (fresh removed hand)
  pub store_is : parts.store ≡ store
  pub ends_are : parts.ends ≡ ends
  pub fits : (l : Low) → HighFitting (stands parts.ends) parts.process l new_high
