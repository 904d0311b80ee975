-- A passage between the two processes: what each of its ends did, the law that ties them, and what
-- one call of an end leaves.
use Rattle.std.specs.Prelude.{◌≡◌, ℕ, ◌+◌, ◌-◌, ◌<◌, ◌≤◌, Bool, true, List, [], ◌∷◌, ◌++◌, length, take}
use Rattle.std.specs.List.{All}
use Rattle.pump_frame.specs.declared.averaging.Averaging.{Averaging}
use Rattle.pump_frame.specs.Averages.{averaging_of, average_of}
use Rattle.pump_frame.specs.declared.frame.Item.{Item}
use Rattle.pump_frame.specs.declared.row.SessionRow.{SessionRow}

-- how many items fit into it, and how times are averaged in it
pub record Shape : Type 0 where
  pub places : ℕ
  pub averaging : Averaging

-- the passage of a session: two of its messages are in the hands of the processes
abbrev pub shape_of_row : SessionRow → Shape
shape_of_row row = record { places = row.capacity - 2; averaging = averaging_of row }

-- .. in which only levels come down
abbrev pub coarse_shape : Shape → Shape
coarse_shape s = record s { averaging = record s.averaging { coarse = true } }

-- what a low end did: the items forwarded; its tries that found no room, each with the number
-- forwarded and the number taken up; the pairs of count and average that it read
pub record Low : Type 0 where
  pub forwarded : List Item
  pub tries : List (ℕ × ℕ)
  pub pairs : List (ℕ × ℕ)

-- what a high end did: the items taken up; one above the number removed at the last of them, or 0;
-- the times published, and beside each the number taken up when it was published; its tries that found
-- nothing, each with the number forwarded and taken up
pub record High : Type 0 where
  pub taken : List Item
  pub floor : ℕ
  pub times : List ℕ
  pub taken_before : List ℕ
  pub tries : List (ℕ × ℕ)

-- an end that did nothing yet
abbrev pub new_low : Low
new_low = record { forwarded = []; tries = []; pairs = [] }

abbrev pub new_high : High
new_high = record { taken = []; floor = 0; times = []; taken_before = []; tries = [] }

-- the items have the numbers from `first` on
abbrev pub Numbered : ℕ → List Item → Type 0
Numbered first [] = Unit {0}
Numbered first (x ∷ xs) = (x.number ≡ first) × Numbered (first + 1) xs

-- the numbers rise by one
abbrev pub Rises : List Item → Type 0
Rises items = (first : ℕ) × Numbered first items

-- this number may come next: the last item, if there is one, has the number before it
abbrev pub ComesNext : List Item → ℕ → Type 0
ComesNext [] n = Unit {0}
ComesNext (x ∷ []) n = n ≡ x.number + 1
ComesNext (x ∷ y ∷ ys) n = ComesNext (y ∷ ys) n

-- the counts of the pairs never fall
abbrev pub NeverFall : List (ℕ × ℕ) → Type 0
NeverFall [] = Unit {0}
NeverFall (p ∷ ps) = All (λ q. p.0 ≤ q.0) ps × NeverFall ps

-- the pair is a count of times, and the average of the first so many
abbrev pub IsAverage : Shape → List ℕ → ℕ × ℕ → Type 0
IsAverage s times p = (p.0 ≤ length times) × (p.1 ≡ average_of s.averaging (take p.0 times))

-- the law of the two ends of one passage: what was taken up is the beginning of what was forwarded
pub record Agrees (s : Shape) (l : Low) (h : High) : Type 0 where
  pub held : (rest : List Item) × (l.forwarded ≡ h.taken ++ rest)
  pub rises : Rises l.forwarded
  pub averages : All (IsAverage s h.times) l.pairs
  pub never_fall : NeverFall l.pairs
  pub low_tries : All (λ t. t.1 ≤ length h.taken) l.tries
  pub high_tries : All (λ t. t.0 ≤ length l.forwarded) h.tries
  pub each_time : length h.taken_before ≡ length h.times
  pub before : All (λ n. n ≤ length h.taken) h.taken_before

-- .. and no more is in between than has room
pub record Fits (s : Shape) (l : Low) (h : High) : Type 0 where
  pub agrees : Agrees s l h
  pub room : length l.forwarded ≤ length h.taken + s.places

-- the steps of a low end: an item passes; a try finds no room; a pair is read
abbrev pub forwards : Low → Item → Low
forwards l x = record l { forwarded = l.forwarded ++ x ∷ [] }

abbrev pub tried : Low → ℕ → Low
tried l taken = record l { tries = l.tries ++ (length l.forwarded, taken) ∷ [] }

abbrev pub read_pair : Low → ℕ → ℕ → Low
read_pair l count average = record l { pairs = l.pairs ++ (count, average) ∷ [] }

-- the steps of a high end: an item is taken up; a try finds nothing; a time is published
abbrev pub takes : High → Item → ℕ → High
takes h x removed = record h { taken = h.taken ++ x ∷ []; floor = removed + 1 }

abbrev pub sought : High → ℕ → High
sought h forwarded = record h { tries = h.tries ++ (forwarded, length h.taken) ∷ [] }

abbrev pub publishes : High → ℕ → High
publishes h micros = record h {
  times = h.times ++ micros ∷ [];
  taken_before = h.taken_before ++ length h.taken ∷ [];
}

-- What one call leaves. `after` is what the end stands for at the return. Where both ends are on one
-- thread, the call sees the other end as it is; else nothing is said of that.
module _ (s : Shape) (on_one_thread : Bool) (after : Low → High → Type 0) (l : Low) (h : High) where
  -- it sees room for one more item
  abbrev pub SeesRoom : Type 0
  SeesRoom = on_one_thread ≡ true → length l.forwarded < length h.taken + s.places

  -- it sees that just so many were taken up
  abbrev pub SeesTaken : ℕ → Type 0
  SeesTaken taken = on_one_thread ≡ true → taken ≡ length h.taken

  -- it sees that just so many times were published, and their average
  abbrev pub SeesTimes : ℕ → ℕ → Type 0
  SeesTimes count average =
      on_one_thread ≡ true → (count ≡ length h.times) × (average ≡ average_of s.averaging h.times)

  -- it sees that this item is the first of those held
  abbrev pub SeesFirst : Item → Type 0
  SeesFirst x =
      on_one_thread ≡ true → (rest : List Item) × (l.forwarded ≡ (h.taken ++ x ∷ []) ++ rest)

  -- it sees that nothing is held
  abbrev pub SeesNothing : Type 0
  SeesNothing = on_one_thread ≡ true → length h.taken ≡ length l.forwarded

  -- where so many were taken up, all places are full
  abbrev pub FillsPlaces : ℕ → Type 0
  FillsPlaces taken = length l.forwarded ≡ taken + s.places

  -- no count that was read before is above this one
  abbrev pub NoneAbove : ℕ → Type 0
  NoneAbove count = All (λ p. p.0 ≤ count) l.pairs

  -- the item passed
  abbrev pub Passes : Item → Type 0
  Passes x = SeesRoom × after (forwards l x) h

  -- a try found all places full
  abbrev pub Refuses : Type 0
  Refuses = (taken : ℕ) × FillsPlaces taken × SeesTaken taken × after (tried l taken) h

  -- a count not below those before was read, with its average
  abbrev pub Reads : ℕ → ℕ → Type 0
  Reads count average =
      NoneAbove count × SeesTimes count average × after (read_pair l count average) h

  -- the item was taken up
  abbrev pub Gives : Item → ℕ → Type 0
  Gives x removed = SeesFirst x × after l (takes h x removed)

  -- a try found nothing
  abbrev pub GivesNone : Type 0
  GivesNone = SeesNothing × after l (sought h (length h.taken))
