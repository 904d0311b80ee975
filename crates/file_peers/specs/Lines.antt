-- The lines that tell what became of files.
use Rattle.std.specs.Prelude.{ℕ, List, [], ◌∷◌, codes, decimal}
use Rattle.hex.specs.Hex.{encode_lower}
use Rattle.script_reader.specs.Transcript.{line_with_end}
use Rattle.file_messages.specs.declared.assembly.Cause.{Cause}
use Rattle.file_messages.specs.declared.assembly.Cause.TheVariants.{Abandoned, Begun, TooLong, TooShort, Digest}
use Rattle.file_messages.specs.declared.assembly.Cause.TheVariants.{Unknown}

abbrev pub cause_word : Cause → List ℕ
cause_word Abandoned = codes "abandoned"
cause_word Begun = codes "begun"
cause_word TooLong = codes "toolong"
cause_word TooShort = codes "tooshort"
cause_word Digest = codes "digest"
cause_word Unknown = codes "unknown"

-- a file was shown under this name, which the message of this number ended
abbrev pub file_line : ℕ → ℕ → ℕ → List ℕ → List ℕ → List ℕ
file_line session number size digest name =
    line_with_end (codes "file" ∷ decimal session ∷ decimal number ∷ decimal size ∷ encode_lower digest ∷ name ∷ [])

-- a file of this name was dropped at the message of this number
abbrev pub dropped_line : ℕ → ℕ → Cause → List ℕ → List ℕ
dropped_line session number cause name =
    line_with_end (codes "dropped" ∷ decimal session ∷ decimal number ∷ cause_word cause ∷ name ∷ [])

-- the message of this number is none of a file
abbrev pub odd_line : ℕ → ℕ → List ℕ
odd_line session number = line_with_end (codes "odd" ∷ decimal session ∷ decimal number ∷ [])

-- a file of this name was sent whole and removed, which began with the message of this number
abbrev pub sent_line : ℕ → ℕ → ℕ → List ℕ → List ℕ → List ℕ
sent_line session number size digest name =
    line_with_end (codes "sent" ∷ decimal session ∷ decimal number ∷ decimal size ∷ encode_lower digest ∷ name ∷ [])

-- a file of this name changed while it was sent, which began with the message of this number; it is sent again
abbrev pub again_line : ℕ → ℕ → List ℕ → List ℕ
again_line session number name = line_with_end (codes "again" ∷ decimal session ∷ decimal number ∷ name ∷ [])
