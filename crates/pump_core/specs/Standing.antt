-- What a low process stands for: the end of a history.
use Rattle.std.specs.Prelude.{◌≡◌, ℕ, Bool, ◌≤◌, if◌then◌else◌, List, [], ◌∷◌, Some, None}
use Rattle.pump_frame.specs.declared.row.SessionRow.{SessionRow}
use Rattle.pump_core.specs.Phases.{Phase}
use Rattle.pump_core.specs.Phases.{Idle, Passing, Waiting as Waits, Down}
use Rattle.pump_core.specs.History.{Look, Opening, Life, History}
use Rattle.pump_core.specs.Exchanges.{Wait, Waiting, Over, Part, Holding, Release, Empty, Leaving, Answer, Repeated}
use Rattle.pump_core.specs.Exchanges.{Offering, Dropped, Delivery, Loss, due, count_after, greeted_after, IsCut}
use Rattle.std.specs.List.{AllByRecursion}
use Rattle.pump_core.specs.Replies.{number_in}

-- a low process between two looks: the number of its next message, whether its connection is greeted,
-- and its phase
pub record State : Type 0 where
  pub next : ℕ
  pub greeted : Bool
  pub phase : Phase

-- the phase at the end of a wait for the acknowledgement of number n, due at this moment
abbrev pub phase_of_wait : ℕ → ℕ → Wait → Phase
phase_of_wait n at (Waiting quiet) = Waits n at
phase_of_wait n at (Over quiet last) = Idle

-- the phase at the end of a part
abbrev pub phase_of : SessionRow → Part → Phase
phase_of row (Holding newest older) = Passing None
phase_of row (Release before last) = Idle
phase_of row (Empty x) = Idle
phase_of row (Leaving x) = Idle
phase_of row (Answer x) = Idle
phase_of row (Repeated first wait) = phase_of_wait (number_in first.arrival) (due row first) wait
phase_of row (Offering first full) = Passing (Some (number_in first.arrival))
phase_of row (Dropped first full gone) = Passing None
phase_of row (Delivery first full passing wait) = phase_of_wait (number_in first.arrival) (due row passing) wait
phase_of row (Loss first rest) = Down

-- the phase at the end of these parts
abbrev pub phase_after : SessionRow → Opening → List Part → Phase
phase_after row o [] = if o.is_held then Passing None else Idle
phase_after row o (p ∷ before) = phase_of row p

-- the state at the end of these parts: how many messages are stored, whether the connection is
-- greeted, and the phase
abbrev pub end_of : SessionRow → Opening → List Part → State
end_of row o parts = record {
  next = count_after o parts;
  greeted = greeted_after row parts;
  phase = phase_after row o
      parts;
}

-- the life can be cut
abbrev pub HasCut : SessionRow → Life → Type 0
HasCut row life = (parts : List Part) × IsCut row life parts

-- the moment of the newest look, and 0 before one
abbrev pub last_moment : List Look → ℕ
last_moment [] = 0
last_moment (x ∷ past) = x.moment

-- the moments never fall
abbrev pub AreOrdered : List Look → Type 0
AreOrdered [] = Unit {0}
AreOrdered (x ∷ past) = (last_moment past ≤ x.moment) × AreOrdered past

-- the state and the last moment are those at the end of this history, each life of which can be cut
pub record StandsAt (row : SessionRow) (s : State) (last : ℕ) (h : History) : Type 0 where
  pub earlier : AllByRecursion (HasCut row) h.earlier
  pub parts : List Part
  pub cut : IsCut row h.life parts
  pub state : s ≡ end_of row h.life.opening parts
  pub newest : last ≡ last_moment h.life.looks
  pub ordered : AreOrdered h.life.looks

-- each life of the history can be cut
abbrev pub KeepsExchanges : SessionRow → History → Type 0
KeepsExchanges row h = AllByRecursion (HasCut row) (h.life ∷ h.earlier)
