-- What a contract sees of a clock, of words and of a link in memory, and what these tell.
use Rattle.std.specs.Prelude.{◌≡◌, ℕ, ◌+◌, ◌-◌, ◌^◌, ◌<◌, min, ◌⊎◌, List, [], ◌∷◌, ◌++◌, length, take, drop, Contains}
use Rattle.pump_frame.specs.Counts.{raised}
use Rattle.pump_link.specs.declared.link.Looked.{Looked}
use Rattle.pump_link.specs.declared.link.Looked.TheVariants.{Byte, NotYet, Ended, Failed}

-- the next reading, the step to the one after it, and how many readings were given
pub record MemoryClock : Type 0 where
  pub next : ℕ
  pub step : ℕ
  pub readings : ℕ

-- the readings are these: from the next one on in steps, and never above 2^62
abbrev pub StepsFrom : ℕ → ℕ → List ℕ → Type 0
StepsFrom next step [] = Unit {0}
StepsFrom next step (reading ∷ rest) = (reading ≡ next) × StepsFrom (min (next + step) (2 ^ 62)) step rest

-- the words are these: first those that are left, then 0
abbrev pub WordsFrom : List ℕ → List ℕ → Type 0
WordsFrom left [] = Unit {0}
WordsFrom [] (word ∷ rest) = (word ≡ 0) × WordsFrom [] rest
WordsFrom (first ∷ left) (word ∷ rest) = (word ≡ first) × WordsFrom left rest

abbrev pub first_word : List ℕ → ℕ
first_word [] = 0
first_word (word ∷ left) = word

-- the looks to come, the bytes sent, the room for more, the sends made, the numbers of those that fail, and the
-- failed calls so far
pub record MemoryLink : Type 0 where
  pub left : List Looked
  pub sent : List ℕ
  pub room : ℕ
  pub calls : ℕ
  pub fails : List ℕ
  pub faults : ℕ

-- the looks are these: first those that are left, then Ended
abbrev pub LooksFrom : List Looked → List Looked → Type 0
LooksFrom left [] = Unit {0}
LooksFrom [] (look ∷ rest) = (look ≡ Ended) × LooksFrom [] rest
LooksFrom (first ∷ left) (look ∷ rest) = (look ≡ first) × LooksFrom left rest

abbrev pub first_look : List Looked → Looked
first_look [] = Ended
first_look (look ∷ left) = look

-- a failed look raises the count
abbrev pub faults_after : Looked → ℕ → ℕ
faults_after (Byte b) faults = faults
faults_after NotYet faults = faults
faults_after Ended faults = faults
faults_after Failed faults = raised faults

abbrev pub after_look : MemoryLink → MemoryLink
after_look link = record link { left = drop 1 link.left; faults = faults_after (first_look link.left) link.faults }

-- what of the bytes fits was sent
abbrev pub with_sent : MemoryLink → List ℕ → MemoryLink
with_sent link bytes = record link { sent = link.sent ++ take link.room bytes; room = link.room - length bytes }

-- a send was made, and failed
abbrev pub after_send : MemoryLink → MemoryLink
after_send link = record link { calls = raised link.calls }

abbrev pub after_fault : MemoryLink → MemoryLink
after_fault link = record link { calls = raised link.calls; faults = raised link.faults }

-- a send fails: it is one of those that are to fail, and sends nothing, or the room is too small, and it sends what
-- fits
abbrev pub FailsToSend : MemoryLink → MemoryLink → List ℕ → Type 0
FailsToSend old new bytes = (Contains old.fails old.calls × (new ≡ after_fault old))
    ⊎ ((Contains old.fails old.calls → ⊥) × (old.room < length bytes) × (new ≡ after_fault (with_sent old bytes)))
