-- Readings of the looks of a race. Each list of looks has its newest one first.
use Rattle.std.specs.Prelude.{◌≡◌, ℕ, ◌^◌, ◌<◌, ◌≤◌, Bool, true, false, not, List, [], ◌∷◌, ◌++◌, length, slice_get}
use Rattle.std.specs.Prelude.{Option, Some, None}
use Rattle.std.specs.List.{All, AllByRecursion}
use Rattle.pump_frame.specs.Frames.{IsLawful}
use Rattle.pump_frame.specs.declared.frame.Frame.{Frame}
use Rattle.pump_frame.specs.declared.frame.Kind.{Kind}
use Rattle.pump_frame.specs.declared.frame.Kind.TheVariants.{Ack}
use Rattle.pump_frame.specs.declared.row.SessionRow.{SessionRow}
use Rattle.pump_core.specs.History.{Arrival, Opening}
use Rattle.pump_core.specs.History.{Nothing, Came, Bad, Gone}
use Rattle.pump_core.specs.Comings.{is_nothing}
use Rattle.pump_core.specs.Exchanges.{Part, IsCut, count_after}
use Rattle.pump_core.specs.Step.{is_full}
use Rattle.low_process.specs.Looks.{IsInBounds}
use Rattle.relay_threads.specs.Records.{Made, Shown, life_made}
use Rattle.relay_threads.specs.RecordLines.{tells_fault}
use Rattle.race.specs.LookWords.{word_of_look}

-- the moments, the oldest first
abbrev pub moments_of : List Made → List ℕ
moments_of [] = []
moments_of (m ∷ before) = moments_of before ++ m.look.moment ∷ []

-- each look has the word of its number
abbrev pub HaveWords : ℕ → List Made → Type 0
HaveWords seed [] = Unit {0}
HaveWords seed (m ∷ before) = (m.look.word ≡ word_of_look seed (length before)) × HaveWords seed before

-- each look took what it was offered, if that was anything
abbrev pub TakeAll : List Made → Type 0
TakeAll [] = Unit {0}
TakeAll (m ∷ before) = (m.taken ≡ not (is_nothing m.look.arrival)) × TakeAll before

abbrev pub frame_in : Arrival → List Frame
frame_in (Came f) = f ∷ []
frame_in _ = []

-- the frames that came, the oldest first
abbrev pub frames_of : List Made → List Frame
frames_of [] = []
frames_of (m ∷ before) = frames_of before ++ frame_in m.look.arrival

abbrev pub is_ack_kind : Kind → Bool
is_ack_kind Ack = true
is_ack_kind _ = false

abbrev pub is_ack : Option Frame → Bool
is_ack None = false
is_ack (Some f) = is_ack_kind f.kind

-- for each look, whether it acknowledged a message
abbrev pub acks_of : List Made → List Bool
acks_of [] = []
acks_of (m ∷ before) = is_ack m.reply ∷ acks_of before

-- nothing came, or a lawful frame
abbrev pub IsPlainArrival : Arrival → Type 0
IsPlainArrival Nothing = Unit {0}
IsPlainArrival (Came f) = IsLawful f
IsPlainArrival Bad = ⊥
IsPlainArrival Gone = ⊥

-- nothing but lawful frames came
abbrev pub OnlyFrames : List Made → Type 0
OnlyFrames made = AllByRecursion (λ m. IsPlainArrival m.look.arrival) made

-- A look to which nothing or a lawful frame came, whose device did not fail, and whose numbers are in the
-- ranges of a script's lines.
pub record IsPlain (m : Made) : Type 0 where
  pub arrival : IsPlainArrival m.look.arrival
  pub fine : tells_fault m.reply ≡ false
  pub moment : m.look.moment ≤ 2 ^ 62
  pub bounds : IsInBounds m.look.feedback

-- A look finds the passage full only with a message numbered `least` or more. It is the last one
-- stored, so more than `least` are stored then.
abbrev pub FullFrom : ℕ → SessionRow → Opening → List Made → Type 0
FullFrom least row o [] = Unit {0}
FullFrom least row o (m ∷ before) =
    (is_full m.look.feedback ≡ true → (parts : List Part) → IsCut row (life_made o (m ∷ before)) parts
    → least < count_after o parts)
    × FullFrom least row o before

-- the numbers fall from the newest recorded look on
abbrev pub NumbersFall : List Shown → Type 0
NumbersFall [] = Unit {0}
NumbersFall (s ∷ before) = All (λ t. t.number < s.number) before × NumbersFall before

-- a recorded look has the reading and the word of its number
abbrev pub HasItsOwn : ℕ → List ℕ → Shown → Type 0
HasItsOwn seed readings s = (slice_get readings s.number ≡ Some s.made.look.moment)
    × (s.made.look.word ≡ word_of_look seed s.number)
