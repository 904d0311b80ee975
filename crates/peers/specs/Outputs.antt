-- Frames of one's own, and bytes that went out in part.
use Rattle.std.specs.Prelude.{◌≡◌, ℕ, Bool, true, List, [], ◌++◌, Option}
use Rattle.std.specs.Io.KnownBytes.{Appends}
use Rattle.pump_frame.specs.declared.frame.Frame.{Frame}
use Rattle.pump_frame.specs.declared.frame.Kind.{Kind}
use Rattle.pump_link.specs.Tells.{Grows}

-- a frame without a payload
abbrev pub plain_frame : Kind → ℕ → ℕ → Frame
plain_frame kind session number = record { kind = kind; session = session; number = number; payload = [] }

-- these bytes are the first of those
abbrev pub IsPrefix : List ℕ → List ℕ → Type 0
IsPrefix prefix bytes = (rest : List ℕ) × (bytes ≡ prefix ++ rest)

-- a prefix of the bytes was sent, and all of them where it says so
abbrev pub SendsPart : (List ℕ → Type 0) → (List ℕ → Type 0) → Bool → List ℕ → Type 0
SendsPart old new whole bytes = (prefix : List ℕ) × IsPrefix prefix bytes × (whole ≡ true → prefix ≡ bytes)
    × Grows old new prefix

-- a prefix of the bytes was written, and all of them where it says so
abbrev pub PrintsPart : Option (List ℕ) → Option (List ℕ) → Bool → List ℕ → Type 0
PrintsPart old new whole bytes = (prefix : List ℕ) × IsPrefix prefix bytes × (whole ≡ true → prefix ≡ bytes)
    × Appends old new prefix

-- how many calls have failed, before a call and after it: of the link, of the sink, and of the sender's script or the
-- receiver's disk
pub record Counts : Type 0 where
  pub link : ℕ
  pub now_link : ℕ
  pub out : ℕ
  pub now_out : ℕ
  pub other : ℕ
  pub now_other : ℕ

-- .. of a link, a sink and one thing more, each before the call and after it
abbrev pub all_counts : ℕ → ℕ → ℕ → ℕ → ℕ → ℕ → Counts
all_counts link now_link out now_out other now_other = record {
  link = link;
  now_link = now_link;
  out = out;
  now_out = now_out;
  other = other;
  now_other = now_other;
}

-- .. of a link and a sink alone
abbrev pub counts : ℕ → ℕ → ℕ → ℕ → Counts
counts link now_link out now_out = all_counts link now_link out now_out 0 0
