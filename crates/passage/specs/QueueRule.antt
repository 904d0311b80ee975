-- The rule of the queue: what was forwarded is what was taken up, and then what the queue holds.
use Rattle.std.specs.Prelude.{◌≡◌, ℕ, ◌+◌, ◌^◌, ◌≤◌, true, false, List, [], ◌∷◌, ◌++◌, length}
use mathlib.Core.Option.{some}
use lib.ListN.{get_elem?}
use Rattle.pump_core.specs.Passage.{Numbered, Rises}
use Rattle.pump_frame.specs.declared.frame.Item.{Item}
use Rattle.passage.specs.declared.queue.QueueView.{QueueView}

-- one pass may push, and knows what was forwarded; one may pop, and knows what was taken up
abbrev pub QueueFits : ℕ → ℕ → List Item → List Item → ℕ → QueueView → Type 0
QueueFits pusher popper forwarded taken pass v =
    (v.pushes ≡ true → (pass ≡ pusher) × (v.forwarded ≡ forwarded))
    × (v.pops ≡ true → (pass ≡ popper) × (v.taken ≡ taken))

-- the numbers of what was forwarded rise by one, and are below 2^48
pub record QueueKept (items : List Item) (views : List QueueView) : Type 0 where
  pub pusher : ℕ
  pub popper : ℕ
  pub forwarded : List Item
  pub taken : List Item
  pub whole : forwarded ≡ taken ++ items
  pub number : ℕ
  pub numbered : Numbered number forwarded
  pub small : number + length forwarded ≤ 2 ^ 48
  pub each : (pass : ℕ) (v : QueueView) → get_elem? views pass ≡ some v → QueueFits pusher popper forwarded taken pass v

-- before any step, with both roles in one view
abbrev pub queue_first : QueueView
queue_first = record { pushes = true; forwarded = []; pops = true; taken = [] }

-- the steps
abbrev pub with_sent : QueueView → Item → QueueView
with_sent v x = record v { forwarded = v.forwarded ++ x ∷ [] }

abbrev pub with_got : QueueView → Item → QueueView
with_got v x = record v { taken = v.taken ++ x ∷ [] }

-- a view is parted into the two roles, and a popper's view is taken in
abbrev pub queue_pusher : QueueView → QueueView
queue_pusher v = record v { pops = false; taken = [] }

abbrev pub queue_popper : QueueView → QueueView
queue_popper v = record { pushes = false; forwarded = []; pops = v.pops; taken = v.taken }

abbrev pub queue_both : QueueView → QueueView → QueueView
queue_both v w = record v { pops = w.pops; taken = w.taken }

abbrev pub queue_spent : QueueView
queue_spent = record { pushes = false; forwarded = []; pops = false; taken = [] }

-- what a view with both roles knows of what the queue holds
abbrev pub QueueTies : QueueView → List Item → Type 0
QueueTies v items = (v.forwarded ≡ v.taken ++ items) × Rises v.forwarded
