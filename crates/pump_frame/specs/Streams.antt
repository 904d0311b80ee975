-- The frames in a stream of bytes, and what a reader of single bytes makes of it.
use Rattle.std.specs.Prelude.{◌≡◌, ℕ, List, [], ◌∷◌, ◌++◌, length}
use Rattle.std.specs.List.{AllByRecursion, flat_map}
use Rattle.pump_frame.specs.declared.frame.Frame.{Frame}
use Rattle.pump_frame.specs.declared.reader.Fed.{Fed}
use Rattle.pump_frame.specs.declared.reader.Fed.TheVariants.{More, Whole, Bad}
use Rattle.pump_frame.specs.declared.reader.Step.{Step}
use Rattle.pump_frame.specs.declared.reader.Step.TheVariants as step
use Rattle.pump_frame.specs.Readings.{Reading, Within, Stopped}
use Rattle.pump_frame.specs.Frames.{IsLawful}
use Rattle.pump_frame.specs.Spellings.{spelling, BeginsSpelling, IsPartial}

abbrev pub spellings : List Frame → List ℕ
spellings frames = flat_map spelling frames

-- the bytes are those of lawful frames, and then the prefix of one more; or such a prefix, and behind
-- it a byte after which no lawful frame begins so, whose offset in its frame is the bad place
abbrev pub IsStream : List ℕ → List Frame → Reading → Type 0
IsStream bytes frames (Within rest) = AllByRecursion IsLawful frames × IsPartial rest
    × (bytes ≡ spellings frames ++ rest)
IsStream bytes frames (Stopped at) = AllByRecursion IsLawful frames
    × (prefix : List ℕ) × (byte : ℕ) × (more : List ℕ) × IsPartial prefix
    × (BeginsSpelling (prefix ++ byte ∷ []) → ⊥) × (at ≡ length prefix)
    × (bytes ≡ spellings frames ++ (prefix ++ byte ∷ more))

-- what a reader answers to one more byte, and what it is after it
abbrev pub Feeds : Reading → ℕ → Fed → Reading → Type 0
Feeds (Within held) byte More new =
    IsPartial (held ++ byte ∷ []) × (new ≡ Within (held ++ byte ∷ []))
Feeds (Within held) byte (Whole f) new =
    IsLawful f × (spelling f ≡ held ++ byte ∷ []) × (new ≡ Within [])
Feeds (Within held) byte (Bad at) new =
    (BeginsSpelling (held ++ byte ∷ []) → ⊥) × (at ≡ length held) × (new ≡ Stopped at)
Feeds (Stopped at) byte fed new = (fed ≡ Bad at) × (new ≡ Stopped at)

-- the answer that a step is, with the frame in the room behind it
abbrev pub fed_of : Step → Frame → Fed
fed_of step.More room = More
fed_of step.Whole room = Whole room
fed_of (step.Bad at) room = Bad at

-- only a whole frame is written into the room
abbrev pub Leaves : Step → Frame → Frame → Type 0
Leaves step.Whole before now = Unit {0}
Leaves _ before now = now ≡ before

-- the frame of an answer, if it has one
abbrev pub frames_of : Fed → List Frame
frames_of (Whole f) = f ∷ []
frames_of _ = []

-- the bytes, one after the other, gave these frames
abbrev pub Reads : Reading → List ℕ → List Frame → Reading → Type 0
Reads old [] frames new = (frames ≡ []) × (new ≡ old)
Reads old (byte ∷ bytes) frames new = (fed : Fed) × (mid : Reading) × (later : List Frame)
    × Feeds old byte fed mid × Reads mid bytes later new × (frames ≡ frames_of fed ++ later)

-- the pieces, one after the other, gave these frames
abbrev pub ReadsPieces : Reading → List (List ℕ) → List Frame → Reading → Type 0
ReadsPieces old [] frames new = (frames ≡ []) × (new ≡ old)
ReadsPieces old (piece ∷ pieces) frames new =
    (first : List Frame) × (mid : Reading) × (later : List Frame)
    × Reads old piece first mid × ReadsPieces mid pieces later new × (frames ≡ first ++ later)
