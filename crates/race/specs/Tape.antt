-- A record on its way to a sink: what was written of it, and what is held back.
use Rattle.std.specs.Prelude.{◌≡◌, ℕ, ◌≤◌, Bool, true, false, List, ◌++◌, Option}
use Rattle.std.specs.Io.KnownBytes.{Appends}
use Rattle.pump_frame.specs.Counts.{Rose}
use Rattle.pump_frame.specs.declared.row.SessionRow.{SessionRow}
use Rattle.pump_link.specs.Causes.{AppendsPrefix}
use Rattle.race.specs.declared.tape.Tape.{Tape}

abbrev pub held_of : Tape → List ℕ
held_of tape = tape.held.items

-- a write failed
abbrev pub has_failed : Tape → Bool
has_failed tape = tape.has_failed

-- the row of the session whose record it is
abbrev pub row_in : Tape → SessionRow
row_in tape = tape.row

-- Since the start these bytes came: what was written and what is held are they, or a write failed and a
-- prefix of them was written.
pub record Keeps (tape : Tape) (start now : Option (List ℕ)) (first count : ℕ) (bytes : List ℕ) : Type 0 where
  pub whole : has_failed tape ≡ false → (written : List ℕ) × Appends start now written
      × (bytes ≡ written ++ held_of tape)
  pub prefix : AppendsPrefix start now bytes
  pub cause : has_failed tape ≡ true → Rose first count
  pub later : first ≤ count

-- these bytes come behind all that came before
abbrev pub Prints : Tape → Tape → Option (List ℕ) → Option (List ℕ) → ℕ → ℕ → List ℕ → Type 0
Prints before after old new count count' bytes =
    (start : Option (List ℕ)) (first : ℕ) (earlier : List ℕ) → Keeps before start old first count earlier
    → Keeps after start new first count' (earlier ++ bytes)

-- nothing comes
abbrev pub Stays : Tape → Tape → Option (List ℕ) → Option (List ℕ) → ℕ → ℕ → Type 0
Stays before after old new count count' =
    (start : Option (List ℕ)) (first : ℕ) (bytes : List ℕ) → Keeps before start old first count bytes
    → Keeps after start new first count' bytes

-- all of the bytes were written, or a write failed and a prefix of them was written
pub record Written (failed : Bool) (old new : Option (List ℕ)) (count count' : ℕ) (bytes : List ℕ) : Type 0 where
  pub whole : failed ≡ false → Appends old new bytes
  pub prefix : AppendsPrefix old new bytes
  pub cause : failed ≡ true → Rose count count'

-- nothing comes any more
abbrev pub Shuts : Tape → Bool → Option (List ℕ) → Option (List ℕ) → ℕ → ℕ → Type 0
Shuts before failed old new count count' =
    (start : Option (List ℕ)) (first : ℕ) (bytes : List ℕ) → Keeps before start old first count bytes
    → Written failed start new first count' bytes

-- these bytes come last
abbrev pub Closes : Tape → Bool → Option (List ℕ) → Option (List ℕ) → ℕ → ℕ → List ℕ → Type 0
Closes before failed old new count count' bytes =
    (start : Option (List ℕ)) (first : ℕ) (earlier : List ℕ) → Keeps before start old first count earlier
    → Written failed start new first count' (earlier ++ bytes)
