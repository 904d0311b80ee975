-- What looks at a link gave: whole frames, and why no more are heard.
use Rattle.std.specs.Prelude.{◌≡◌, ◌⊎◌, ℕ, List, [], ◌∷◌, ◌++◌}
use Rattle.pump_frame.specs.Counts.{Rose}
use Rattle.pump_frame.specs.declared.frame.Frame.{Frame}
use Rattle.pump_frame.specs.Readings.{Within, Stopped}
use Rattle.pump_frame.specs.Streams.{IsStream}
use Rattle.pump_link.specs.declared.link.Looked.{Looked}
use Rattle.pump_link.specs.declared.link.Looked.TheVariants.{Byte, NotYet, Ended, Failed}

-- the bytes that the looks gave
abbrev pub bytes_in : List Looked → List ℕ
bytes_in [] = []
bytes_in (Byte b ∷ rest) = b ∷ bytes_in rest
bytes_in (_ ∷ rest) = bytes_in rest

-- each gave a byte, or found none
abbrev pub AreCalm : List Looked → Type 0
AreCalm [] = Unit {0}
AreCalm (Byte b ∷ rest) = AreCalm rest
AreCalm (NotYet ∷ rest) = AreCalm rest
AreCalm (_ ∷ rest) = ⊥

-- the bytes are these frames, and the prefix of one more
pub record Hears (looks : List Looked) (frames : List Frame) : Type 0 where
  pub calm : AreCalm looks
  pub rest : List ℕ
  pub stream : IsStream (bytes_in looks) frames (Within rest)

-- the last look ended the last of these frames, if there are any
pub record HearsJust (looks : List Looked) (frames : List Frame) : Type 0 where
  pub calm : AreCalm looks
  pub stream : IsStream (bytes_in looks) frames (Within [])
  pub prompt : (looks ≡ []) ⊎ ((prefix : List Looked) × (byte : ℕ) × (looks ≡ prefix ++ Byte byte ∷ []))

-- the looks before the last gave these frames, and the last was this one
abbrev pub EndsAt : List Looked → List Frame → Looked → Type 0
EndsAt looks frames last = (prefix : List Looked) × (looks ≡ prefix ++ last ∷ []) × Hears prefix frames

-- the last look gave a byte after which no lawful frame begins so
abbrev pub IsBad : List Looked → List Frame → Type 0
IsBad looks frames = (byte : ℕ) × (at : ℕ) × EndsAt looks frames (Byte byte)
    × IsStream (bytes_in looks) frames (Stopped at)

-- behind these frames came bad bytes, or the link's end, or a look that failed, as its count shows
abbrev pub IsOver : List Looked → List Frame → ℕ → ℕ → Type 0
IsOver looks frames before now = IsBad looks frames
    ⊎ (EndsAt looks frames Ended ⊎ (EndsAt looks frames Failed × Rose before now))
