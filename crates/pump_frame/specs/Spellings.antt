-- The bytes of a frame, by a spelling for each of the seven kinds.
use Rattle.std.specs.Prelude.{◌≡◌, ℕ, List, ◌∷◌, ◌++◌, length}
use Rattle.byteorder.specs.Endian.{big_bytes}
use Rattle.pump_frame.specs.declared.frame.Kind.{Kind}
use Rattle.pump_frame.specs.declared.frame.Kind.TheVariants.{Hello, Welcome, Data, Ack, Refuse, Attach, Taken}
use Rattle.pump_frame.specs.declared.frame.Frame.{Frame}
use Rattle.pump_frame.specs.Frames.{IsLawful}

-- the byte of a kind
abbrev pub kind_byte : Kind → ℕ
kind_byte Hello = 1
kind_byte Welcome = 2
kind_byte Data = 3
kind_byte Ack = 4
kind_byte Refuse = 5
kind_byte Attach = 6
kind_byte Taken = 7

-- what stands before a payload of this length: the mark 4E 50, the version, the kind, the session,
-- the number and the length
unfoldable pub header_of : Kind → ℕ → ℕ → ℕ → List ℕ
header_of kind session number size =
    78 ∷ 80 ∷ 1 ∷ kind_byte kind ∷ big_bytes 4 session ++ big_bytes 8 number ++ big_bytes 2 size

-- the bytes of a frame
unfoldable pub spelling : Frame → List ℕ
spelling f = header_of f.kind f.session f.number (length f.payload) ++ f.payload

-- the frame of these parts
abbrev pub frame_of : Kind → ℕ → ℕ → List ℕ → Frame
frame_of kind session number payload =
    record { kind = kind; session = session; number = number; payload = payload }

-- a lawful frame begins with these bytes
abbrev pub BeginsSpelling : List ℕ → Type 0
BeginsSpelling bytes = (f : Frame) × (rest : List ℕ) × IsLawful f × (spelling f ≡ bytes ++ rest)

-- a lawful frame begins with these bytes, and has more
abbrev pub IsPartial : List ℕ → Type 0
IsPartial bytes = (f : Frame) × (byte : ℕ) × (rest : List ℕ)
    × IsLawful f × (spelling f ≡ bytes ++ byte ∷ rest)
