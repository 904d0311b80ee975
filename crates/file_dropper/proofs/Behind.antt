-- What messages give, behind which a dropper stands.
use Rattle.std.proofs.Common.{◌≡◌, ◌∙◌, ℕ, ◌+◌, ◌-◌, ◌<◌, ◌≤◌, inl, inr, List, [], ◌∷◌, ◌++◌, Option, None, Some, length, map, refl, sym, ap, subst, arith, append_assoc, append-nil, length-append}
use Rattle.std.specs.List.{AllByRecursion}
use Rattle.sha2.specs.Sha256.{sha256}
use Rattle.file_messages.specs.Messages.{piece_message, end_message, abandon_message, message_of, Abandon}
use Rattle.file_messages.specs.Files.{File, IsLawfulFile, State, Between, Inside, after, files, files_from, state_after}
use Rattle.file_messages.specs.Cuts.{pieces, cut, begun}
use Rattle.file_messages.proofs.Broken.{NoEnd, none_given}
use Rattle.file_messages.proofs.FirstBytes.{no_end_piece, no_end_begin, abandons}
use Rattle.file_messages.proofs.Starts.{IsNoEnd}
use Rattle.file_messages.proofs.Lists.{all_before}
use Rattle.file_messages.proofs.Runs.{files_on, state_on}
use Rattle.file_messages.proofs.Wholes.{files_behind, state_behind}
use Rattle.folders.specs.Outboxes.{Marked}
use Rattle.folders.specs.declared.mark.Stage.{Stage}
use Rattle.folders.specs.declared.mark.Stage.TheVariants as stages
use Rattle.file_dropper.specs.Leaving.{FitsMarked, FitsStage, cut_length, sending}
use Rattle.file_dropper.specs.Works.{IsPlain, IsAtRest, mark_of, IsLawfulSent, SendsPart, HasSent}
use Rattle.file_dropper.specs.declared.work.Sent.{Sent}

abbrev Messages : Type 0
Messages = List (List ℕ)

-- ---- where no message of the marked file counts ----

plain_fits : (stage : Stage) (file : File) (removed : List File) (accepted : Messages) → IsPlain stage → files accepted ≡ removed → FitsStage stage file removed accepted
plain_fits stages.Fresh file removed accepted plain is = is
plain_fits (stages.Sending start message size digest) file removed accepted plain is = absurd plain
plain_fits (stages.Stopped start) file removed accepted plain is = is

pub rest_fits : (name : Option (List ℕ)) (marked : Option Marked) (removed : List File) (accepted : Messages) → IsAtRest name marked → files accepted ≡ removed → FitsMarked marked removed accepted
rest_fits None None removed accepted rest is = is
rest_fits None (Some marked) removed accepted rest is = absurd rest
rest_fits (Some name) None removed accepted rest is = absurd rest
rest_fits (Some name) (Some marked) removed accepted (named, plain) is = plain_fits marked.mark.stage _ removed accepted plain is

-- ---- a file that is given up ----

gave_up : (state : State) → after state (message_of abandon_message) ≡ Between
gave_up state = ap (after state) abandons ∙ left state
  where
    left : (state : State) → after state Abandon ≡ Between
    left Between = refl
    left (Inside name size bytes) = refl

pub abandoned : (removed : List File) (accepted : Messages) → files accepted ≡ removed → (files (accepted ++ abandon_message ∷ []) ≡ removed) × (state_after Between (accepted ++ abandon_message ∷ []) ≡ Between)
abandoned removed accepted is = (
  files_on Between accepted (abandon_message ∷ [])
      ∙ ap (λ (l : List File). files accepted ++ l) (none_given (state_after Between accepted) (abandon_message ∷ []) (subst IsNoEnd (sym abandons) tt, tt))
      ∙ append-nil (files accepted) ∙ is,
  state_on Between accepted (abandon_message ∷ []) ∙ gave_up (state_after Between accepted),
)

-- ---- a file that is being sent ----

no_end_pieces : (parts : Messages) → AllByRecursion NoEnd (map piece_message parts)
no_end_pieces [] = tt
no_end_pieces (p ∷ ps) = (no_end_piece p, no_end_pieces ps)

-- some first messages of it give nothing
part_gives_none : (message : ℕ) (name : List ℕ) (size : ℕ) (bytes : List ℕ) (part rest : Messages) → sending message name size bytes ≡ part ++ rest → files_from Between part ≡ []
part_gives_none message name size bytes part rest is =
    none_given Between part (all_before NoEnd part rest (subst (AllByRecursion NoEnd) is (no_end_begin name size, no_end_pieces (pieces (message - 1) bytes))))

pub gives_no_more : (message : ℕ) (name : List ℕ) (size : ℕ) (bytes : List ℕ) (part rest before accepted : Messages) (removed : List File) → accepted ≡ before ++ part → state_after Between before ≡ Between
    → files before ≡ removed → sending message name size bytes ≡ part ++ rest → files accepted ≡ removed
gives_no_more message name size bytes part rest before accepted removed all between given is =
    ap files all ∙ files_on Between before part
    ∙ (λ i. given i ++ files_from (between i) part)
    ∙ ap (λ (l : List File). removed ++ l) (part_gives_none message name size bytes part rest is) ∙ append-nil removed

pub whole_gives : (message : ℕ) (file : File) (before accepted : Messages) (removed : List File) → 2 ≤ message → IsLawfulFile file → accepted ≡ before ++ cut message file → state_after Between before ≡ Between → files before ≡ removed
    → (files accepted ≡ removed ++ file ∷ []) × (state_after Between accepted ≡ Between)
whole_gives message file before accepted removed two lawful all between given = (
  ap files all ∙ files_on Between before (cut message file) ∙ (λ i. given i ++ files_from (between i) (cut message file))
      ∙ ap (λ (l : List File). removed ++ l) (ap files (sym (append-nil (cut message file))) ∙ files_behind message file [] two lawful),
  ap (state_after Between) all ∙ state_on Between before (cut message file) ∙ (λ i. state_after (between i) (cut message file))
      ∙ ap (state_after Between) (sym (append-nil (cut message file))) ∙ state_behind message file [] two lawful,
)

module _ (message : ℕ) (sent : Sent) (bytes : List ℕ) (removed : List File) where
  pub sends_none_more : (accepted rest : Messages) → SendsPart message sent bytes removed accepted rest → files accepted ≡ removed
  sends_none_more accepted rest s = gives_no_more message sent.name sent.size bytes s.part rest s.before accepted removed s.all s.between s.given s.parts

  pub sends_fit : (accepted rest : Messages) → 138 ≤ message → SendsPart message sent bytes removed accepted rest
      → FitsMarked (Some (record { mark = mark_of message sent; bytes = bytes })) removed accepted
  sends_fit accepted rest room s = record {
    before = s.before;
    part = s.part;
    all = s.all;
    number = s.number;
    between = s.between;
    given = s.given;
    room = room;
    so_far = inl (sends_none_more accepted rest s, s.short);
  }

  -- one more of its messages is accepted
  pub sends_more : (accepted rest : Messages) (given : List ℕ) → SendsPart message sent bytes removed accepted (given ∷ rest) → length accepted + 1 < sent.start + cut_length message sent.size
      → SendsPart message sent bytes removed (accepted ++ given ∷ []) rest
  sends_more accepted rest given s less = record {
    before = s.before;
    part = s.part ++ given ∷ [];
    all = ap (λ (l : Messages). l ++ given ∷ []) s.all ∙ append_assoc s.before s.part (given ∷ []);
    number = s.number;
    between = s.between;
    given = s.given;
    parts = s.parts ∙ sym (append_assoc s.part (given ∷ []) rest);
    short = omega (arith, less, length-append s.part (given ∷ []), ap length s.all, length-append s.before s.part, s.number);
  }

  -- its end is accepted
  pub sends_end : (accepted : Messages) → SendsPart message sent bytes removed accepted [] → length bytes ≡ sent.size → sha256 bytes ≡ sent.digest
      → HasSent message sent bytes removed (accepted ++ end_message sent.digest ∷ [])
  sends_end accepted s size digest = record {
    before = s.before;
    all =
        ap (λ (l : Messages). l ++ end_message sent.digest ∷ []) s.all ∙ append_assoc s.before s.part (end_message sent.digest ∷ [])
        ∙ ap (λ (l : Messages). s.before ++ l) (λ i. whole i ++ end_message (sym digest i) ∷ []);
    number = s.number;
    between = s.between;
    given = s.given;
    size = size;
    digest = digest;
  }
    where
      whole : s.part ≡ begun message (record { name = sent.name; bytes = bytes })
      whole = sym (s.parts ∙ append-nil s.part) ∙ ap (λ (k : ℕ). sending message sent.name k bytes) (sym size)

  -- nothing of it was accepted
  pub sends_first : (accepted : Messages) → length accepted ≡ sent.start → state_after Between accepted ≡ Between → files accepted ≡ removed
      → SendsPart message sent bytes removed accepted (sending message sent.name sent.size bytes)
  sends_first accepted number between given = record {
    before = accepted;
    part = [];
    all = sym (append-nil accepted);
    number = number;
    between = between;
    given = given;
    parts = refl;
    short = omega arith;
  }

-- all of it is accepted
pub sent_fits : (message : ℕ) (sent : Sent) (number : ℕ) (bytes : List ℕ) (removed : List File) (accepted : Messages) → 138 ≤ message → IsLawfulSent number sent → HasSent message sent bytes removed accepted
    → FitsMarked (Some (record { mark = mark_of message sent; bytes = bytes })) removed accepted
sent_fits message sent number bytes removed accepted room lawful s = record {
  before = s.before;
  part = cut message (record { name = sent.name; bytes = bytes });
  all = s.all;
  number = s.number;
  between = s.between;
  given = s.given;
  room = room;
  so_far = inr (refl, s.size, record { name = lawful.name; size = omega (arith, lawful.size, s.size) });
}
