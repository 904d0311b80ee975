-- Pieces and messages of a file.
use Rattle.std.proofs.Common.{◌≡◌, ℕ, zero, suc, ◌+◌, ◌-◌, ◌<◌, ◌≤◌, List, [], ◌∷◌, ◌++◌, length, take, drop, map, flat_map, refl, sym, ◌∙◌, ap, subst, arith, length-append, length-drop, length-take}
use Rattle.std.specs.List.{AllByRecursion}
use Rattle.std.proofs.lemmas.List.{take-append-drop, append-nil}
use Rattle.std.proofs.lemmas.List.Folds.{flat_map-map}
use Rattle.std.proofs.lemmas.Grind.{flat_map-append}
use Rattle.file_messages.specs.Messages.{piece_message}
use Rattle.file_messages.specs.Cuts.{first_pieces, pieces}
use Rattle.file_cutter.proofs.PieceLists.{pieces_none, pieces_some}
use Rattle.pump_wrapper.specs.Wrapped.{length_message, piece_of, unwrapped, wrapped}
use Rattle.pump_wrapper.specs.Cutting.{wrapped_from}

-- behind the last piece stands the length
pub from_end : (n before : ℕ) → wrapped_from n before [] ≡ length_message before ∷ []
from_end n before =
    let e : before + 0 ≡ before = omega arith in
    λ i. map piece_message (pieces_none n i) ++ length_message (e i) ∷ []

-- a file begins with a piece
pub from_next : (n before : ℕ) (file : List ℕ) → 0 < n → 0 < length file
    → wrapped_from n before file ≡ piece_message (take n file) ∷ wrapped_from n (before + length (take n file)) (drop n file)
from_next n before file some any =
    let e : before + length file ≡ before + length (take n file) + length (drop n file) = omega (arith, ap length (take-append-drop n file), length-append (take n file) (drop n file)) in
    λ i. map piece_message (pieces_some n file some any i) ++ length_message (e i) ∷ []

-- the whole of a file
pub wrapped_is : (message : ℕ) (file : List ℕ) → wrapped_from (message - 1) 0 file ≡ wrapped message file
wrapped_is message file = let e : 0 + length file ≡ length file = omega arith in ap (λ k. map piece_message (pieces (message - 1) file) ++ length_message k ∷ []) e

-- the pieces make up the file
all_pieces : (k n : ℕ) (file : List ℕ) → 0 < n → length file ≤ k → flat_map (λ (p : List ℕ). p) (first_pieces k n file) ≡ file
all_pieces zero n [] some le = refl
all_pieces zero n (b ∷ bs) some le = absurd (omega (arith, le))
all_pieces (suc k) n [] some le = refl
all_pieces (suc k) n (b ∷ bs) some le =
    ap (λ (l : List ℕ). take n (b ∷ bs) ++ l) (all_pieces k n (drop n (b ∷ bs)) some (omega (arith, le, some, length-drop n (b ∷ bs)))) ∙ take-append-drop n (b ∷ bs)

pieces_make : (n : ℕ) (file : List ℕ) → 0 < n → flat_map (λ (p : List ℕ). p) (pieces n file) ≡ file
unfolding pieces
pieces_make n file some = all_pieces (length file) n file some (omega arith)

length_has_none : (n : ℕ) → piece_of (length_message n) ≡ []
unfolding length_message
length_has_none n = refl

pub unwrapped_push : (messages : List (List ℕ)) (message : List ℕ) → unwrapped (messages ++ message ∷ []) ≡ unwrapped messages ++ piece_of message
unwrapped_push messages message = flat_map-append piece_of messages (message ∷ []) ∙ ap (λ (l : List ℕ). unwrapped messages ++ l) (append-nil (piece_of message))

-- the messages of a file have its bytes
pub unwrapped_file : (message : ℕ) (file : List ℕ) → 2 ≤ message → unwrapped (wrapped message file) ≡ file
unwrapped_file message file two =
    let ps = pieces (message - 1) file in
    unwrapped_push (map piece_message ps) (length_message (length file))
    ∙ (λ i. (flat_map-map piece_of piece_message ps ∙ pieces_make (message - 1) file (omega (arith, two))) i ++ length_has_none (length file) i)
    ∙ append-nil file

-- a list is the messages of one file at most
pub files_are_one : (message : ℕ) (first second : List ℕ) → 2 ≤ message → wrapped message first ≡ wrapped message second → first ≡ second
files_are_one message first second two same = sym (unwrapped_file message first two) ∙ ap unwrapped same ∙ unwrapped_file message second two

-- the first messages of a file have its first bytes
pub prefix_of_file : (message : ℕ) (file : List ℕ) (messages rest : List (List ℕ)) → 2 ≤ message → wrapped message file ≡ messages ++ rest → file ≡ unwrapped messages ++ unwrapped rest
prefix_of_file message file messages rest two is = sym (unwrapped_file message file two) ∙ ap unwrapped is ∙ flat_map-append piece_of messages rest

pieces_fit : (k n : ℕ) (file : List ℕ) → AllByRecursion (λ m. length m ≤ suc n) (map piece_message (first_pieces k n file))
pieces_fit zero n file = tt
pieces_fit (suc k) n [] = tt
pieces_fit (suc k) n (b ∷ bs) = (omega (arith, length-take n (b ∷ bs)), pieces_fit k n (drop n (b ∷ bs)))

length_fits : (n : ℕ) → length (length_message n) ≡ 9
unfolding length_message
length_fits n = refl

behind : (most : ℕ) (messages : List (List ℕ)) (last : List ℕ) → AllByRecursion (λ m. length m ≤ most) messages → length last ≤ most → AllByRecursion (λ m. length m ≤ most) (messages ++ last ∷ [])
behind most [] last all le = (le, tt)
behind most (m ∷ ms) last (here, later) le = (here, behind most ms last later le)

-- each message of a file fits
pub each_fits : (message : ℕ) (file : List ℕ) → 9 ≤ message → AllByRecursion (λ m. length m ≤ message) (wrapped message file)
unfolding pieces
each_fits message file nine =
    let size : suc (message - 1) ≡ message = omega (arith, nine) in
    behind message (map piece_message (pieces (message - 1) file)) (length_message (length file))
    (subst (λ k. AllByRecursion (λ m. length m ≤ k) (map piece_message (pieces (message - 1) file))) size (pieces_fit (length file) (message - 1) file)) (omega (arith, nine, length_fits (length file)))
