-- A file that is cut off and given up.
use Rattle.std.proofs.Common.{◌≡◌, ℕ, zero, suc, ◌-◌, List, [], ◌∷◌, ◌++◌, map, length, replicate, refl, sym, ◌∙◌, ap, subst}
use Rattle.std.specs.List.{AllByRecursion}
use Rattle.file_messages.specs.Messages.{Message, Start, Piece, End, Abandon, Other, message_of, piece_message, abandon_message}
use Rattle.file_messages.specs.Files.{File, State, Between, Inside, after, given, state_after, files_from, files}
use Rattle.file_messages.specs.Cuts.{pieces, begun, IsBrokenCut}
use Rattle.file_messages.proofs.Starts.{IsNoEnd}
use Rattle.file_messages.proofs.FirstBytes.{no_end_piece, no_end_begin, abandons}
use Rattle.file_messages.proofs.Lists.{all_behind, all_before}
use Rattle.file_messages.proofs.Runs.{state_on}

-- a message is no end
abbrev pub NoEnd : List ℕ → Type 0
NoEnd message = IsNoEnd (message_of message)

-- what is no end gives no file
gives_none : (state : State) (message : Message) → IsNoEnd message → given state message ≡ []
gives_none Between message h = refl
gives_none (Inside name size bytes) (Start name' size') h = refl
gives_none (Inside name size bytes) (Piece piece) h = refl
gives_none (Inside name size bytes) (End digest) h = absurd h
gives_none (Inside name size bytes) Abandon h = refl
gives_none (Inside name size bytes) Other h = refl

pub none_given : (state : State) (messages : List (List ℕ)) → AllByRecursion NoEnd messages → files_from state messages ≡ []
none_given state [] h = refl
none_given state (m ∷ ms) (first, h) = λ i. gives_none state (message_of m) first i ++ none_given (after state (message_of m)) ms h i

no_end_pieces : (parts : List (List ℕ)) → AllByRecursion NoEnd (map piece_message parts)
no_end_pieces [] = tt
no_end_pieces (p ∷ ps) = (no_end_piece p, no_end_pieces ps)

-- no end stands before the end of a file
pub no_end_begun : (message : ℕ) (file : File) → AllByRecursion NoEnd (begun message file)
no_end_begun message file = (no_end_begin file.name (length file.bytes), no_end_pieces (pieces (message - 1) file.bytes))

no_end_given_up : (more : ℕ) → AllByRecursion NoEnd (replicate more abandon_message)
no_end_given_up zero = tt
no_end_given_up (suc more) = (subst IsNoEnd (sym abandons) tt, no_end_given_up more)

given_up : (state : State) → after state Abandon ≡ Between
given_up Between = refl
given_up (Inside name size bytes) = refl

all_given_up : (more : ℕ) (state : State) → state_after state (replicate (suc more) abandon_message) ≡ Between
all_given_up zero state = ap (after state) abandons ∙ given_up state
all_given_up (suc more) state = all_given_up more (after state (message_of abandon_message))

pub broken_none : (message : ℕ) (file : File) (messages : List (List ℕ)) → IsBrokenCut message file messages → files messages ≡ []
broken_none message file messages (prefix, rest, more, e, is) =
    let none = all_before NoEnd prefix rest (subst (AllByRecursion NoEnd) e (no_end_begun message file)) in
    ap files is ∙ none_given Between (prefix ++ replicate (suc more) abandon_message) (all_behind NoEnd prefix (replicate (suc more) abandon_message) none (no_end_given_up (suc more)))

pub broken_between : (message : ℕ) (file : File) (messages : List (List ℕ)) → IsBrokenCut message file messages → state_after Between messages ≡ Between
broken_between message file messages (prefix, rest, more, e, is) =
    ap (state_after Between) is ∙ state_on Between prefix (replicate (suc more) abandon_message) ∙ all_given_up more (state_after Between prefix)
