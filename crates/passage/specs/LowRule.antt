-- The rule of low's cell, which has the number of items forwarded.
use Rattle.std.specs.Prelude.{◌≡◌, ℕ, ◌+◌, ◌≤◌, ◌==◌, true, false, List, [], ◌∷◌, ◌++◌, if◌then◌else◌}
use Rattle.std.specs.List.{All}
use mathlib.Core.Option.{some}
use lib.ListN.{get_elem?}
use Rattle.passage.specs.declared.low_cell.LowWord.{LowWord}
use Rattle.passage.specs.declared.low_cell.LowView.{LowView}

-- the one writer knows what the cell has, and no number that a reader found is above it
abbrev pub LowFits : LowWord → ℕ → ℕ → LowView → Type 0
LowFits x writer pass v =
    (v.writes ≡ true → (pass ≡ writer) × (v.forwarded ≡ x.forwarded))
    × (v.reads ≡ true → All (λ t. t.0 ≤ x.forwarded) v.tries)

pub record LowKept (x : LowWord) (views : List LowView) : Type 0 where
  pub writer : ℕ
  pub each : (pass : ℕ) (v : LowView) → get_elem? views pass ≡ some v → LowFits x writer pass v

-- before any step, with both roles in one view
abbrev pub low_first : LowView
low_first = record { writes = true; forwarded = 0; reads = true; tries = [] }

-- one more item was forwarded
abbrev pub with_forwarded : LowView → LowView
with_forwarded v = record v { forwarded = v.forwarded + 1 }

-- a look for the next item is a try where as many were forwarded as were taken up
abbrev pub with_seek : ℕ → LowView → ℕ → LowView
with_seek taken v forwarded = record v {
  tries = v.tries ++ (if forwarded == taken then (forwarded, taken) ∷ [] else
      []);
}

-- a view is parted into the two roles, and a reader's view is taken in
abbrev pub low_writer : LowView → LowView
low_writer v = record v { reads = false; tries = [] }

abbrev pub low_reader : LowView → LowView
low_reader v = record { writes = false; forwarded = 0; reads = v.reads; tries = v.tries }

abbrev pub low_both : LowView → LowView → LowView
low_both v w = record v { reads = w.reads; tries = w.tries }

abbrev pub low_spent : LowView
low_spent = record { writes = false; forwarded = 0; reads = false; tries = [] }

-- what a view with both roles knows
abbrev pub LowTies : LowView → Type 0
LowTies v = All (λ t. t.0 ≤ v.forwarded) v.tries
