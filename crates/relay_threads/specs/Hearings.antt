-- One reading of a link: the bytes that it took, and how it ended.
use Rattle.std.specs.Prelude.{◌≡◌, ℕ, ◌≤◌, true, List, [], ◌∷◌, ◌++◌, length, map}
use Rattle.pump_frame.specs.declared.frame.Frame.{Frame}
use Rattle.pump_frame.specs.Frames.{IsLawful}
use Rattle.pump_frame.specs.Spellings.{spelling, BeginsSpelling, IsPartial}
use Rattle.pump_frame.specs.Readings.{Reading, Within, Stopped, is_stopped}
use Rattle.pump_link.specs.Tells.{Draws}
use Rattle.pump_link.specs.declared.link.Looked.{Looked}
use Rattle.pump_link.specs.declared.link.Looked.TheVariants.{Byte, NotYet, Ended, Failed}
use Rattle.relay_threads.specs.Heards.{Heard, Nothing as HeardNothing, Frame as HeardFrame, Bad as HeardBad}
use Rattle.relay_threads.specs.Heards.{Ended as HeardEnded, Failed as HeardFailed}

-- A reading ends at the first of these: a frame is whole, no frame begins so, a look gives no byte,
-- the other side is gone, a look fails, or 1042 bytes are read.
pub data Ending : Type 0 where
  AtFrame : (f : Frame) → Ending
  AtBad : Ending
  AtNotYet : Ending
  AtEnded : Ending
  AtFailed : Ending
  AtMost : Ending

pub record Hearing : Type 0 where
  pub bytes : List ℕ
  pub ending : Ending

-- the look that ended the reading, where it gave no byte
abbrev pub last_look : Ending → List Looked
last_look AtNotYet = NotYet ∷ []
last_look AtEnded = Ended ∷ []
last_look AtFailed = Failed ∷ []
last_look _ = []

-- all that the link's looks gave
abbrev pub looks_in : Hearing → List Looked
looks_in h = map Byte h.bytes ++ last_look h.ending

-- Behind the held bytes of an unfinished frame the bytes are: the rest of the frame; bytes up to the
-- first after which no frame begins so; or no end of the frame yet. As no spelling begins another
-- one, no prefix of them is a whole frame.
abbrev pub EndsSo : List ℕ → List ℕ → Ending → Type 0
EndsSo held bytes (AtFrame f) = IsLawful f × (spelling f ≡ held ++ bytes)
EndsSo held bytes AtBad = (prefix : List ℕ) × (byte : ℕ) × (bytes ≡ prefix ++ byte ∷ [])
    × IsPartial (held ++ prefix) × (BeginsSpelling (held ++ bytes) → ⊥)
EndsSo held bytes AtMost = IsPartial (held ++ bytes) × (length bytes ≡ 1042)
EndsSo held bytes _ = IsPartial (held ++ bytes)

-- a reading of at most 1042 bytes, where these were held before it
pub record IsHearing (held : List ℕ) (h : Hearing) : Type 0 where
  pub bound : length h.bytes ≤ 1042
  pub ends : EndsSo held h.bytes h.ending

-- the bytes of an unfinished frame that a reader holds
abbrev pub held_in : Reading → List ℕ
held_in (Within held) = held
held_in (Stopped at) = []

-- .. and those that are held after a reading
abbrev pub held_by : List ℕ → List ℕ → Ending → List ℕ
held_by held bytes (AtFrame f) = []
held_by held bytes AtBad = []
held_by held bytes _ = held ++ bytes

-- what the reader is after it: after bad bytes it reads no further
abbrev pub Leaves : List ℕ → List ℕ → Ending → Reading → Type 0
Leaves held bytes AtBad now = is_stopped now ≡ true
Leaves held bytes (AtFrame f) now = now ≡ Within []
Leaves held bytes _ now = now ≡ Within (held ++ bytes)

-- what is answered
abbrev pub heard_as : Ending → Heard
heard_as (AtFrame f) = HeardFrame f
heard_as AtBad = HeardBad
heard_as AtEnded = HeardEnded
heard_as AtFailed = HeardFailed
heard_as AtNotYet = HeardNothing
heard_as AtMost = HeardNothing

abbrev pub IsLawfulHeard : Heard → Type 0
IsLawfulHeard (HeardFrame f) = IsLawful f
IsLawfulHeard _ = Unit {0}

-- a reading behind held bytes answered this; `old` and `new` are what the link gives before and after it
abbrev pub Hears : List ℕ → Reading → (List Looked → Type 0) → (List Looked → Type 0) → Heard → Type 0
Hears held reader old new heard = (h : Hearing) × IsHearing held h × (heard ≡ heard_as h.ending)
    × Leaves held h.bytes h.ending reader × Draws old new (looks_in h)
