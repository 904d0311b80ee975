-- What a reader of frames waits for, byte by byte. It only serves proofs: what a frame's bytes are
-- stands in `Spellings`.
use Rattle.std.specs.Prelude.{ℕ, ◌+◌, ◌-◌, ◌*◌, ◌≤◌, ◌==◌, ◌&&◌, ◌||◌, nat_le, Bool, true, false, not, IsTrue}
use Rattle.std.specs.Prelude.{if◌then◌else◌, List, [], ◌∷◌, Option, None, Some, option_and_then, ◌≡◌, ◌<◌, length}
use Rattle.std.specs.Prelude.{get_or, drop}
use Rattle.byteorder.specs.Endian.{big_number}
use Rattle.pump_frame.specs.Names.{is_name_byte}
use Rattle.pump_frame.specs.Readings.{Reading, Within, Stopped}
use Rattle.pump_frame.specs.declared.frame.Kind.{Kind}
use Rattle.pump_frame.specs.declared.frame.Kind.TheVariants.{Hello, Welcome, Data, Ack, Refuse, Attach, Taken}
use Rattle.pump_frame.specs.Frames.{IsLawful}
use Rattle.pump_frame.specs.Spellings.{spelling}
use Rattle.pump_frame.specs.declared.frame.Frame.{Frame}
use Rattle.pump_frame.specs.declared.place.Place.{Place}
use Rattle.pump_frame.specs.declared.place.Place.TheVariants.{FirstMark, SecondMark, Version, KindByte, Session}
use Rattle.pump_frame.specs.declared.place.Place.TheVariants.{NumberTop, NumberSecond, NumberRest, LengthHigh}
use Rattle.pump_frame.specs.declared.place.Place.TheVariants.{LengthLow, PayloadBytes, RefuseCode, LowName, HighName}
use Rattle.pump_frame.specs.declared.place.Place.TheVariants.{End}

-- the kind of a byte
abbrev pub kind_of : ℕ → Option Kind
kind_of b =
    if b == 1 then Some Hello
    else if b == 2 then Some Welcome
    else if b == 3 then Some Data
    else if b == 4 then Some Ack
    else if b == 5 then Some Refuse
    else if b == 6 then Some Attach
    else if b == 7 then Some Taken
    else None

-- the number of this kind is 0
abbrev pub has_zero : Kind → Bool
has_zero Hello = true
has_zero _ = false

-- the number of this kind may be 2^48
abbrev pub is_up_to : Kind → Bool
is_up_to Welcome = true
is_up_to Refuse = true
is_up_to Attach = true
is_up_to _ = false

-- the payload of this kind may have 256 bytes and more
abbrev pub is_long : Kind → Bool
is_long Data = true
is_long _ = false

abbrev pub goes : Bool → Place → Option Place
goes test place = if test then Some place else None

abbrev pub at_session : Option Kind → Option Place
at_session None = None
at_session (Some kind) = Some (Session kind 4)

-- after the second byte of the number
abbrev pub at_rest : Kind → ℕ → Option Place
at_rest kind byte =
    if byte == 0 then Some (NumberRest kind 6 (has_zero kind))
    else goes (byte == 1 && is_up_to kind) (NumberRest kind 6 true)

-- before a payload of this length
abbrev pub at_payload : Kind → ℕ → Option Place
at_payload Hello n = goes (nat_le 3 n && nat_le n 65) (LowName n 0)
at_payload Data n = if n == 0 then Some End else goes (nat_le n 1024) (PayloadBytes n)
at_payload Refuse n = goes (n == 1) RefuseCode
at_payload _ n = goes (n == 0) End

-- after a byte of the low name or the colon
abbrev pub at_name : ℕ → ℕ → ℕ → Option Place
at_name left read byte =
    if byte == 58 then goes (nat_le 1 read && nat_le 2 left && nat_le left 33) (HighName (left - 1))
    else goes (is_name_byte byte && nat_le read 31 && nat_le 3 left) (LowName (left - 1) (read + 1))

-- the place after one more byte, where there is one
abbrev pub step : Place → ℕ → Option Place
step FirstMark byte = goes (byte == 78) SecondMark
step SecondMark byte = goes (byte == 80) Version
step Version byte = goes (byte == 1) KindByte
step KindByte byte = at_session (kind_of byte)
step (Session kind left) byte = Some (if left == 1 then NumberTop kind else Session kind (left - 1))
step (NumberTop kind) byte = goes (byte == 0) (NumberSecond kind)
step (NumberSecond kind) byte = at_rest kind byte
step (NumberRest kind left zero) byte =
    goes (not zero || byte == 0) (if left == 1 then LengthHigh kind else NumberRest kind (left - 1) zero)
step (LengthHigh kind) byte =
    goes (byte == 0 || (is_long kind && nat_le byte 4)) (LengthLow kind byte)
step (LengthLow kind high) byte = at_payload kind (high * 256 + byte)
step (PayloadBytes left) byte = Some (if left == 1 then End else PayloadBytes (left - 1))
step RefuseCode byte = goes (nat_le 1 byte && nat_le byte 5) End
step (LowName left read) byte = at_name left read byte
step (HighName left) byte =
    goes (is_name_byte byte) (if left == 1 then End else HighName (left - 1))
step End byte = None

-- the place after these bytes
abbrev pub run : List ℕ → Place → Option Place
run [] place = Some place
run (byte ∷ bytes) place = option_and_then (λ next. run bytes next) (step place byte)

-- a place from which a whole frame can be reached
abbrev pub IsLive : Place → Type 0
IsLive (Session kind left) = (1 ≤ left) × (left ≤ 4)
IsLive (NumberRest kind left zero) = (1 ≤ left) × (left ≤ 6)
IsLive (LengthLow kind high) = IsTrue (high == 0 || (is_long kind && nat_le high 4))
IsLive (PayloadBytes left) = (1 ≤ left) × (left ≤ 1024)
IsLive (LowName left read) = (2 ≤ left) × (read ≤ 32) × (left + read ≤ 65) × (3 ≤ left + read)
IsLive (HighName left) = (1 ≤ left) × (left ≤ 32)
IsLive _ = Unit {0}

abbrev pub AreBytes : List ℕ → Type 0
AreBytes bytes = (i : ℕ) → get_or bytes i 0 < 256

-- the fields of a frame where they stand in its bytes
pub record IsFrameOf (bytes : List ℕ) (f : Frame) : Type 0 where
  pub kind : kind_of (get_or bytes 3 0) ≡ Some f.kind
  pub session : f.session ≡ big_number 4 (drop 4 bytes)
  pub number : f.number ≡ big_number 8 (drop 8 bytes)
  pub payload : f.payload ≡ drop 18 bytes

-- the bytes are those of a lawful frame
pub record IsWhole (w : List ℕ) : Type 0 where
  pub kind : Kind
  pub known : kind_of (get_or w 3 0) ≡ Some kind
  pub least : 18 ≤ length w
  pub most : length w ≤ 1042
  pub lawful : (f : Frame) → IsFrameOf w f → IsLawful f
  pub spelled : (f : Frame) → IsFrameOf w f → spelling f ≡ w

-- what a reader's fields mean, and what they keep
abbrev pub reading_of : Option ℕ → List ℕ → Reading
reading_of None held = Within held
reading_of (Some at) held = Stopped at

abbrev pub StandsAt : Option ℕ → List ℕ → Place → Type 0
StandsAt None held place = (run held FirstMark ≡ Some place) × (place ≡ End → ⊥) × AreBytes held
StandsAt (Some at) held place = Unit {0}
