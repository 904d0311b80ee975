-- What a low worker does at its end of the passage, and what it stores, by its looks. A list of looks has its
-- newest entry first, one of items, pairs or tries its oldest.
use Rattle.std.specs.Prelude.{◌≡◌, ℕ, ◌+◌, false, if◌then◌else◌, List, [], ◌∷◌, ◌++◌, length, map, Option}
use Rattle.std.specs.List.{All}
use Rattle.std.specs.Option.{option_to_list}
use Rattle.disk_model.specs.Disk.{Meaning}
use Rattle.pump_frame.specs.declared.frame.Item.{Item}
use Rattle.pump_frame.specs.declared.row.SessionRow.{SessionRow}
use Rattle.pump_core.specs.declared.feedback.Feedback.{Feedback}
use Rattle.pump_core.specs.declared.feedback.Feedback.TheVariants.{Full}
use Rattle.pump_core.specs.Exchanges.{Part, IsCut}
use Rattle.pump_core.specs.History.{Opening}
use Rattle.pump_core.specs.Passage.{Shape, Low, High, NeverFall}
use Rattle.stable_buffer.specs.Low.{low_disk}
use Rattle.stable_buffer.specs.declared.low.LowStore.{LowStore}
use Rattle.low_process.specs.declared.process.LowProcess.{LowProcess}
use Rattle.low_process.specs.Ends.{StandsFitting}
use Rattle.low_process.specs.Looks.{row_of, is_down, hand_of}
use Rattle.relay_threads.specs.LowServes.{Lives}
use Rattle.relay_threads.specs.PairsRead.{pairs_of}
use Rattle.relay_threads.specs.Records.{Made, life_made, passes_on}
use Rattle.relay_threads.specs.StoredMessages.{stored_in, payloads, StandsForLast}

-- ---- at its end of the passage ----

-- how many messages were passed on in these looks
abbrev pub passed_in : List Made → ℕ
passed_in [] = 0
passed_in (m ∷ before) = if passes_on m.look.feedback then passed_in before + 1 else passed_in before

abbrev pub full_at : ℕ → Feedback → List ℕ
full_at n Full = n ∷ []
full_at n _ = []

-- for each of these looks that found the passage full, how many messages were forwarded by then, where n
-- were before all of them
abbrev pub fulls_in : ℕ → List Made → List ℕ
fulls_in n [] = []
fulls_in n (m ∷ before) = fulls_in n before ++ full_at (n + passed_in before) m.look.feedback

-- what was forwarded, and then what is in the hand, is this and all that the life stored
abbrev pub HasAll : SessionRow → Opening → List Made → List Item → List Item → Option Item → Type 0
HasAll row o made first forwarded hand =
    (parts : List Part) → IsCut row (life_made o made) parts → forwarded ++ option_to_list hand
    ≡ first ++ stored_in parts

-- It stands now for a low end that did what these looks say, behind what it had done before.
pub record HasDone (s : Shape) (now : Low → High → Type 0) (p q : LowProcess) (l : Low) (h : High) (made : List Made) :
    Type 0 where
  pub low : Low
  pub stands : now low h
  -- it read their pairs; where the counts of its own never fell, none of all counts does
  pub pairs_are : low.pairs ≡ l.pairs ++ pairs_of made
  pub falls : NeverFall l.pairs → NeverFall low.pairs
  -- it forwarded as many messages as passed
  pub passed : length low.forwarded ≡ length l.forwarded + passed_in made
  -- it tried in vain once for each look that found the passage full, and then all places were
  pub tries : List (ℕ × ℕ)
  pub tries_are : low.tries ≡ l.tries ++ tries
  pub fulls : map (λ t. t.0) tries ≡ fulls_in (length l.forwarded) made
  pub full : All (λ t. t.0 ≡ t.1 + s.places) tries
  -- with the hand, it has what it had and all that was stored since, each in its turn
  pub all : (o : Opening) (before : List Made) (first : List Item) → Lives p o before
      → HasAll (row_of p) o before first l.forwarded (hand_of p)
      → HasAll (row_of q) o (made ++ before) first low.forwarded (hand_of q)

-- whatever the end stood for, with a process that fits it, it did what these looks say since
abbrev pub DoesSo : {E : Type 0} → (E → Low → High → Type 0) → (E → Shape) → E → E → LowProcess → LowProcess → List Made
    → Type 0
DoesSo stands shape old new p q made =
    (l : Low) (h : High) → StandsFitting (stands old) p l h
    → HasDone (shape old) (StandsFitting (stands new) q) p q l h made

-- ---- on the disk ----

-- the disk stands for the last of the messages that were found and of those that the life stored
abbrev pub HasStored : SessionRow → Opening → List Made → ℕ → List (List ℕ) → List ℕ → Type 0
HasStored row o made first found disk =
    (parts : List Part) → IsCut row (life_made o made) parts
    → StandsForLast row first (found ++ payloads (stored_in parts)) disk

-- a disk that stood so before these looks stands so after them, unless the process is down
abbrev pub StoresSo : {D : Type 0} → Meaning D → LowStore D → LowStore D → LowProcess → LowProcess → List Made → Type 0
StoresSo m old new p q made = m.tells → is_down q ≡ false
    → (o : Opening) (before : List Made) (first : ℕ) (found : List (List ℕ)) → Lives p o before
    → HasStored (row_of p) o before first found (m.reading (low_disk old))
    → HasStored (row_of q) o (made ++ before) first found (m.reading (low_disk new))
