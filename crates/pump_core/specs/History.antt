-- What a low process was given at each of its looks, and what was told to it.
use Rattle.std.specs.Prelude.{ℕ, Bool, List, [], ◌∷◌}
use Rattle.pump_frame.specs.declared.frame.Frame.{Frame}
use Rattle.pump_core.specs.declared.feedback.Feedback.{Feedback}

-- what a look is offered: nothing, a frame, bytes that are no frame, or the news that the connection
-- is gone
pub data Arrival : Type 0 where
  Nothing : Arrival
  Came : (f : Frame) → Arrival
  Bad : Arrival
  Gone : Arrival

-- one look: its moment, its random word, the arrival it was offered, whether the low disk failed in
-- it, and the feedback
pub record Look : Type 0 where
  pub moment : ℕ
  pub word : ℕ
  pub arrival : Arrival
  pub is_fault : Bool
  pub feedback : Feedback

-- an opening, which is a restart where a life went before it: the number of stored messages that was
-- found, and whether the buffer was full, so that the last message was found in the low hand
pub record Opening : Type 0 where
  pub count : ℕ
  pub is_held : Bool

-- an opening and the looks up to the next one, the newest look first
pub record Life : Type 0 where
  pub opening : Opening
  pub looks : List Look

-- the life that goes on, and the lives before it, the newest first
pub record History : Type 0 where
  pub life : Life
  pub earlier : List Life

-- the history that an opening begins
abbrev pub first_life : Opening → History
first_life o = record { life = record { opening = o; looks = [] }; earlier = [] }

-- the history with a restart at its end
abbrev pub reopened : History → Opening → History
reopened h o = record { life = record { opening = o; looks = [] }; earlier = h.life ∷ h.earlier }

-- the history with one more look at its end
abbrev pub looked : History → Look → History
looked h x = record { life = record { opening = h.life.opening; looks = x ∷ h.life.looks }; earlier = h.earlier }
