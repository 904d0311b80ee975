-- The rule of high's cell, which has the number of times published, their average, and the number
-- of items taken up.
use Rattle.std.specs.Prelude.{◌≡◌, ℕ, ◌+◌, ◌≤◌, ◌==◌, true, false, List, [], ◌∷◌, ◌++◌, length, if◌then◌else◌}
use Rattle.std.specs.List.{All}
use mathlib.Core.Option.{some}
use lib.ListN.{get_elem?}
use Rattle.pump_frame.specs.declared.averaging.Averaging.{Averaging}
use Rattle.pump_frame.specs.Averages.{average_of}
use Rattle.pump_core.specs.Passage.{Shape, NeverFall, IsAverage}
use Rattle.passage.specs.declared.high_cell.HighWord.{HighWord}
use Rattle.passage.specs.declared.high_cell.HighView.{HighView}

abbrev pub shape_told : HighView → Shape
shape_told v = record { places = v.places; averaging = v.averaging }

-- beside each time stands the number taken up when it was published
abbrev pub CountsTimes : HighView → Type 0
CountsTimes v = (length v.taken_before ≡ length v.times) × All (λ n. n ≤ v.taken) v.taken_before

-- the one writer knows the row, and what was published and taken up
pub record IsWriter (x : HighWord) (writer : ℕ) (published : List ℕ) (s : Shape) (pass : ℕ) (v : HighView) : Type 0
  where
    pub one : pass ≡ writer
    pub times : v.times ≡ published
    pub row : shape_told v ≡ s
    pub taken : v.taken ≡ x.taken
    pub counts : CountsTimes v

-- the one reader knows the places; no number that it found is above the cell's, and each pair that
-- it read was the average once
pub record IsReader (x : HighWord) (reader : ℕ) (published : List ℕ) (s : Shape) (pass : ℕ) (v : HighView) : Type 0
  where
    pub one : pass ≡ reader
    pub averages : All (IsAverage s published) v.pairs
    pub never_fall : NeverFall v.pairs
    pub tries : All (λ t. t.1 ≤ x.taken) v.tries
    pub found : v.found ≤ x.taken
    pub room : v.room ≡ s.places

abbrev pub HighFits : HighWord → ℕ → ℕ → List ℕ → Shape → ℕ → HighView → Type 0
HighFits x writer reader published s pass v =
    (v.writes ≡ true → IsWriter x writer published s pass v)
    × (v.reads ≡ true → IsReader x reader published s pass v)

pub record HighKept (x : HighWord) (views : List HighView) : Type 0 where
  pub writer : ℕ
  pub reader : ℕ
  pub times : List ℕ
  pub shape : Shape
  pub count : x.count ≡ length times
  pub average : x.average ≡ average_of shape.averaging times
  pub each : (pass : ℕ) (v : HighView) → get_elem? views pass ≡ some v → HighFits x writer reader times shape pass v

-- how nothing is averaged
abbrev pub no_averaging : Averaging
no_averaging = record { window = 0; start = 0; coarse = false }

-- before any step, with both roles in one view and a row of zeroes
abbrev pub high_first : HighView
high_first = record {
  writes = true;
  places = 0;
  averaging = no_averaging;
  taken = 0;
  floor = 0;
  times = [];
  taken_before = [];
  reads = true;
  room = 0;
  found = 0;
  tries = [];
  pairs = [];
}

-- the first swap puts the row into the view
abbrev pub with_row : HighView → ℕ → Averaging → HighView
with_row v places averaging = record v { places = places; averaging = averaging; room = places }

-- an offer of one more item finds the number taken up; it is a try where all places are full
abbrev pub with_try : ℕ → HighView → ℕ → HighView
with_try forwarded v taken = record v {
  found = taken;
  tries = v.tries ++ (if forwarded == taken + v.room then (forwarded, taken) ∷ [] else []);
}

-- a pair is read
abbrev pub with_pair : HighView → ℕ → ℕ → HighView
with_pair v count average = record v { pairs = v.pairs ++ (count, average) ∷ [] }

-- no count that was read before is above this one
abbrev pub PairsUpTo : HighView → ℕ → Type 0
PairsUpTo v count = All (λ p. p.0 ≤ count) v.pairs

-- one more item was taken up, where so many messages were removed
abbrev pub with_taken : HighView → ℕ → HighView
with_taken v removed = record v { taken = v.taken + 1; floor = removed + 1 }

-- a time is published
abbrev pub with_time : HighView → ℕ → HighView
with_time v micros = record v { times = v.times ++ micros ∷ []; taken_before = v.taken_before ++ v.taken ∷ [] }

-- a view is parted into the two roles, and a reader's view is taken in
abbrev pub high_writer : HighView → HighView
high_writer v = record v { reads = false; room = 0; found = 0; tries = []; pairs = [] }

abbrev pub high_reader : HighView → HighView
high_reader v = record {
  writes = false;
  places = 0;
  averaging = no_averaging;
  taken = 0;
  floor = 0;
  times = [];
  taken_before = [];
  reads = v.reads;
  room = v.room;
  found = v.found;
  tries = v.tries;
  pairs = v.pairs;
}

abbrev pub high_both : HighView → HighView → HighView
high_both v w = record v { reads = w.reads; room = w.room; found = w.found; tries = w.tries; pairs = w.pairs }

abbrev pub high_spent : HighView
high_spent = record {
  writes = false;
  places = 0;
  averaging = no_averaging;
  taken = 0;
  floor = 0;
  times = [];
  taken_before = [];
  reads = false;
  room = 0;
  found = 0;
  tries = [];
  pairs = [];
}

-- what a view with both roles knows
pub record HighTies (v : HighView) : Type 0 where
  pub averages : All (IsAverage (shape_told v) v.times) v.pairs
  pub never_fall : NeverFall v.pairs
  pub tries : All (λ t. t.1 ≤ v.taken) v.tries
  pub found : v.found ≤ v.taken
  pub room : v.room ≡ v.places
  pub counts : CountsTimes v
