-- What is cut off a file.
use Rattle.std.proofs.Common.{◌≡◌, ℕ, ◌+◌, ◌<◌, ◌≤◌, List, [], ◌∷◌, ◌++◌, Option, None, Some, length, map, sym, ◌∙◌, ap, arith, length-append}
use Rattle.std.specs.Io.KnownBytes.{Consumes, IsAtEnd}
use Rattle.std.proofs.lemmas.List.{append-nil}
use Rattle.file_messages.specs.Messages.{piece_message}
use Rattle.file_messages.specs.Cuts.{pieces}
use Rattle.file_cutter.specs.Cutting.{stage_to_come, to_come, stage_bytes, bytes_in_all, Counts, GivesNext}
use Rattle.file_cutter.specs.declared.pieces.Pieces.{Pieces}
use Rattle.file_cutter.specs.declared.pieces.Stage.{Stage}
use Rattle.file_cutter.specs.declared.pieces.Stage.TheVariants.{Reading, Ended}
use Rattle.file_cutter.specs.declared.pieces.Cut.TheVariants.{Message, Done}
use Rattle.file_cutter.proofs.PieceLists.{pieces_none, pieces_before, pieces_last}

-- what was to come while the source was read
reading : (cutter : Pieces) (left : List ℕ) → cutter.stage ≡ Reading → to_come cutter left ≡ map piece_message (pieces cutter.size left)
reading cutter left is = ap (λ s. stage_to_come s cutter.size left) is

pub no_bytes : (bytes : List ℕ) → length bytes ≡ 0 → bytes ≡ []
no_bytes [] none = λ i. []
no_bytes (b ∷ bs) none = absurd (omega (arith, none))

-- nothing, at the source's end
pub gives_none : (old new : Pieces) (left rest : Option (List ℕ)) (bytes message : List ℕ) → old.stage ≡ Reading → Consumes left rest bytes → length bytes ≡ 0 → IsAtEnd rest → GivesNext old new left rest message Done
gives_none old new None rest bytes message was takes none end = tt
gives_none old new (Some xs) None bytes message was takes none end = tt
gives_none old new (Some xs) (Some ys) bytes message was takes none end =
    let empty : xs ≡ [] = takes ∙ (λ i. no_bytes bytes none i ++ end i) in
    reading old xs was ∙ ap (λ (l : List ℕ). map piece_message (pieces old.size l)) empty ∙ ap (map piece_message) (pieces_none old.size)

-- the last piece, where it is shorter
pub gives_last : (old new : Pieces) (left rest : Option (List ℕ)) (piece message : List ℕ) → old.stage ≡ Reading → new.stage ≡ Ended → Consumes left rest piece → IsAtEnd rest
    → 0 < length piece → length piece ≤ old.size → message ≡ piece_message piece → GivesNext old new left rest message Message
gives_last old new None rest piece message was now takes end any le is = tt
gives_last old new (Some xs) None piece message was now takes end any le is = tt
gives_last old new (Some xs) (Some ys) piece message was now takes end any le is =
    reading old xs was ∙ ap (λ (l : List ℕ). map piece_message (pieces old.size l)) (takes ∙ ap (λ (l : List ℕ). piece ++ l) end ∙ append-nil piece)
    ∙ ap (map piece_message) (pieces_last old.size piece any le) ∙ (λ i. sym is i ∷ sym (ap (λ s. stage_to_come s new.size ys) now) i)

-- a full piece
pub gives_full : (old new : Pieces) (left rest : Option (List ℕ)) (piece message : List ℕ) → old.stage ≡ Reading → new.stage ≡ Reading → new.size ≡ old.size → Consumes left rest piece
    → 0 < length piece → length piece ≡ old.size → message ≡ piece_message piece → GivesNext old new left rest message Message
gives_full old new None rest piece message was now size takes any full is = tt
gives_full old new (Some xs) None piece message was now size takes any full is = tt
gives_full old new (Some xs) (Some ys) piece message was now size takes any full is =
    reading old xs was ∙ ap (λ (l : List ℕ). map piece_message (pieces old.size l)) takes
    ∙ ap (map piece_message) (pieces_before old.size piece ys any full) ∙ (λ i. sym is i ∷ (ap (λ k. map piece_message (pieces k ys)) (sym size) ∙ sym (reading new ys now)) i)

-- ---- the bytes of the file ----

in_all : (cutter : Pieces) (left : List ℕ) (stage : Stage) → cutter.stage ≡ stage → bytes_in_all cutter left ≡ stage_bytes stage cutter.bytes left
in_all cutter left stage is = ap (λ s. stage_bytes s cutter.bytes left) is

-- none more, at the source's end
pub counts_none : (old new : Pieces) (left rest : Option (List ℕ)) (bytes : List ℕ) → old.stage ≡ Reading → new.bytes ≡ old.bytes → Consumes left rest bytes → length bytes ≡ 0 → IsAtEnd rest → Counts Done old new left rest
counts_none old new None rest bytes was same takes none end = tt
counts_none old new (Some xs) None bytes was same takes none end = tt
counts_none old new (Some xs) (Some ys) bytes was same takes none end =
    omega (arith, same, ap length takes, length-append bytes ys, none, ap length end) ∙ sym (in_all old xs Reading was)

-- the last piece, where it is shorter
pub counts_last : (old new : Pieces) (left rest : Option (List ℕ)) (piece : List ℕ) → old.stage ≡ Reading → new.stage ≡ Ended → new.bytes ≡ old.bytes + length piece
    → Consumes left rest piece → IsAtEnd rest → Counts Message old new left rest
counts_last old new None rest piece was now bytes takes end = tt
counts_last old new (Some xs) None piece was now bytes takes end = tt
counts_last old new (Some xs) (Some ys) piece was now bytes takes end =
    in_all new ys Ended now ∙ omega (arith, bytes, ap length takes, length-append piece ys, ap length end) ∙ sym (in_all old xs Reading was)

-- a full piece
pub counts_full : (old new : Pieces) (left rest : Option (List ℕ)) (piece : List ℕ) → old.stage ≡ Reading → new.stage ≡ Reading → new.bytes ≡ old.bytes + length piece
    → Consumes left rest piece → Counts Message old new left rest
counts_full old new None rest piece was now bytes takes = tt
counts_full old new (Some xs) None piece was now bytes takes = tt
counts_full old new (Some xs) (Some ys) piece was now bytes takes =
    in_all new ys Reading now ∙ omega (arith, bytes, ap length takes, length-append piece ys) ∙ sym (in_all old xs Reading was)
