-- The rule of the second table, whose one word has the number of times published and their average.
use Rattle.std.specs.Prelude.{◌≡◌, ℕ, ◌+◌, ◌*◌, ◌/◌, ◌%◌, ◌^◌, ◌≤◌, true, false, List, [], ◌∷◌, ◌++◌, length}
use Rattle.std.specs.Prelude.{slice_index}
use Rattle.std.specs.List.{All}
use mathlib.Core.Option.{some}
use lib.ListN.{get_elem?}
use Rattle.atomic_table.specs.Table.{State, Me}
use Rattle.pump_frame.specs.Averages.{average_of}
use Rattle.pump_frame.specs.declared.averaging.Averaging.{Averaging}
use Rattle.pump_core.specs.Passage.{Shape, NeverFall, IsAverage}
use Rattle.passage.specs.HighRule.{no_averaging}
use Rattle.relay_ring.specs.declared.pairs.RowTold.{RowTold}
use Rattle.relay_ring.specs.declared.pairs.PairView.{PairView}

-- the word, with 128 bytes of the table's own on either side
abbrev pub pair_word : ℕ
pair_word = 16

abbrev pub pair_words : ℕ
pair_words = 32

-- the passage's places, and how times are averaged in it, as the table was told
abbrev pub shape_told : RowTold → Shape
shape_told row = record { places = row.places; averaging = row.averaging }

-- .. and as the writer knows
abbrev pub pair_shape : PairView → Shape
pair_shape v = record { places = v.places; averaging = v.averaging }

-- the one writer knows the row and what was published
pub record IsWriter (row : RowTold) (writer : ℕ) (published : List ℕ) (id : ℕ) (v : PairView) : Type 0 where
  pub one : id ≡ writer
  pub times : v.times ≡ published
  pub shape : pair_shape v ≡ shape_told row

-- each pair that a reader read was the average once; it knows how times are averaged
pub record IsReader (row : RowTold) (published : List ℕ) (v : PairView) : Type 0 where
  pub read_as : v.read_as ≡ row.averaging
  pub averages : All (IsAverage (shape_told row) published) v.pairs
  pub never_fall : NeverFall v.pairs

abbrev pub PairFits : RowTold → ℕ → List ℕ → ℕ → PairView → Type 0
PairFits row writer published id v =
    (v.writes ≡ true → IsWriter row writer published id v) × (v.reads ≡ true → IsReader row published v)

-- the count in the high half of the word, and the average in the low half
abbrev pub pair_of : ℕ → ℕ → ℕ
pair_of count average = count * 2 ^ 32 + average

pub record PairKept (row : RowTold) (s : State (Unit {0}) PairView) : Type 0 where
  pub writer : ℕ
  pub times : List ℕ
  pub word : slice_index s.words pair_word ≡ pair_of (length times) (average_of (shape_told row).averaging times)
  pub width : length s.words ≡ pair_words
  pub bound : average_of (shape_told row).averaging times ≤ 10 ^ 9
  pub each : (id : ℕ) (v : PairView) → get_elem? s.views id ≡ some v → PairFits row writer times id v

-- before any step, with both roles in one view
abbrev pub pair_first : RowTold → PairView
pair_first row = record {
  writes = true;
  places = row.places;
  averaging = row.averaging;
  times = [];
  taken_before = [];
  reads = true;
  read_as = row.averaging;
  pairs = [];
}

-- a seat: what it knows; it has no slot
abbrev pub Mine : Type 0
Mine = Me (Unit {0}) PairView

-- a pair is read
abbrev pub with_pair : PairView → ℕ → ℕ → PairView
with_pair v count average = record v { pairs = v.pairs ++ (count, average) ∷ [] }

-- no count that was read before is above this one
abbrev pub PairsUpTo : PairView → ℕ → Type 0
PairsUpTo v count = All (λ p. p.0 ≤ count) v.pairs

-- a time is published, when so many were taken up
abbrev pub with_time : PairView → ℕ → ℕ → PairView
with_time v micros taken = record v { times = v.times ++ micros ∷ []; taken_before = v.taken_before ++ taken ∷ [] }

-- it comes down of some times
abbrev pub IsAveraged : Averaging → ℕ → Type 0
IsAveraged a average = (times : List ℕ) × (average ≡ average_of a times)

abbrev pub SeesPair : Mine → ℕ → Mine → Type 0
SeesPair m word m' =
    (m' ≡ (with_pair m.0 (word / 2 ^ 32) (word % 2 ^ 32), m.1)) × PairsUpTo m.0 (word / 2 ^ 32)
    × (word % 2 ^ 32 ≤ 10 ^ 9)
    × IsAveraged m.0.read_as (word % 2 ^ 32)

-- a view is parted into the two roles, and a reader's view is taken in
abbrev pub pair_writer : PairView → PairView
pair_writer v = record v { reads = false; read_as = no_averaging; pairs = [] }

abbrev pub pair_reader : PairView → PairView
pair_reader v = record {
  writes = false;
  places = 0;
  averaging = no_averaging;
  times = [];
  taken_before = [];
  reads = v.reads;
  read_as = v.read_as;
  pairs = v.pairs;
}

abbrev pub pair_both : PairView → PairView → PairView
pair_both v w = record v { reads = w.reads; read_as = w.read_as; pairs = w.pairs }

abbrev pub pair_spent : PairView
pair_spent = record {
  writes = false;
  places = 0;
  averaging = no_averaging;
  times = [];
  taken_before = [];
  reads = false;
  read_as = no_averaging;
  pairs = [];
}

-- what a view with both roles knows
pub record PairTies (v : PairView) : Type 0 where
  pub averages : All (IsAverage (pair_shape v) v.times) v.pairs
  pub never_fall : NeverFall v.pairs
