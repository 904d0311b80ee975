-- What may follow the messages so far.
use Rattle.std.proofs.Common.{◌≡◌, ℕ, ◌+◌, ◌-◌, ◌<◌, ◌≤◌, ◌⊎◌, inl, inr, List, [], ◌∷◌, ◌++◌, length, take, drop, refl, sym, ◌∙◌, ap, subst, arith, append_assoc, length-append, length-take}
use Rattle.std.proofs.Math.Seq.{take-append_seam, drop-append_seam}
use Rattle.std.proofs.Math.ListN.{drop_of_length-le}
use Rattle.std.proofs.lemmas.List.{take_all, append-nil}
use Rattle.file_messages.specs.Messages.{piece_message}
use Rattle.pump_wrapper.specs.Wrapped.{IsPiece, length_message, wrapped, IsFile, BeginsFile}
use Rattle.pump_wrapper.specs.Cutting.{wrapped_from}
use Rattle.pump_wrapper.specs.Gathering.{Follows, FollowsOn, HasTaken, Steps, Refuses}
use Rattle.pump_wrapper.specs.declared.gathering.Before.{Before}
use Rattle.pump_wrapper.specs.declared.gathering.Before.TheVariants.{Pieces, Short, Whole}
use Rattle.pump_wrapper.specs.declared.gathering.Gathering.{Gathering}
use Rattle.pump_wrapper.proofs.Wrapping.{from_end, from_next, wrapped_is}

-- the first byte of a message tells a piece from a length
no_length : (n : ℕ) (piece : List ℕ) → length_message n ≡ piece_message piece → ⊥
unfolding length_message
no_length n piece e = cc

-- the first message of a rest, where it is a piece
pub from_piece : (n before : ℕ) (piece : List ℕ) (later : List (List ℕ)) (rest : List ℕ) → 0 < n → wrapped_from n before rest ≡ piece_message piece ∷ later
    → (0 < length rest) × (take n rest ≡ piece) × (wrapped_from n (before + length piece) (drop n rest) ≡ later)
from_piece n before piece later [] some is = absurd (no_length before piece (let e = sym (from_end n before) ∙ is in cc))
from_piece n before piece later (b ∷ bs) some is =
    let e = sym (from_next n before (b ∷ bs) some (omega arith)) ∙ is in
    let here : take n (b ∷ bs) ≡ piece = cc in
    (omega arith, here, subst (λ (p : List ℕ). wrapped_from n (before + length p) (drop n (b ∷ bs)) ≡ later) here (cc))

-- .. where it is a length
pub from_length : (n before : ℕ) (message : List ℕ) (later : List (List ℕ)) (rest : List ℕ) → 0 < n → (IsPiece message → ⊥) → wrapped_from n before rest ≡ message ∷ later
    → (message ≡ length_message before) × (later ≡ [])
from_length n before message later [] some other is = let e = sym (from_end n before) ∙ is in (cc, cc)
from_length n before message later (b ∷ bs) some other is = let e = sym (from_next n before (b ∷ bs) some (omega arith)) ∙ is in absurd (other (take n (b ∷ bs), cc))

-- a piece before a rest: it is full, or the last
pub piece_before : (n before : ℕ) (piece rest : List ℕ) → 0 < length piece → length piece ≡ n → wrapped_from n before (piece ++ rest) ≡ piece_message piece ∷ wrapped_from n (before + length piece) rest
piece_before n before piece rest any full =
    let here : take n (piece ++ rest) ≡ piece = subst (λ k. take k (piece ++ rest) ≡ piece) full (take-append_seam piece rest) in
    let there : drop n (piece ++ rest) ≡ rest = subst (λ k. drop k (piece ++ rest) ≡ rest) full (drop-append_seam piece rest) in
    from_next n before (piece ++ rest) (omega (arith, any, full)) (omega (arith, any, length-append piece rest))
    ∙ (λ i. piece_message (here i) ∷ wrapped_from n (before + length (here i)) (there i))

pub piece_last : (n before : ℕ) (piece : List ℕ) → 0 < length piece → length piece ≤ n → wrapped_from n before piece ≡ piece_message piece ∷ length_message (before + length piece) ∷ []
piece_last n before piece any le =
    let here : take n piece ≡ piece = take_all n piece le in
    let there : drop n piece ≡ [] = drop_of_length-le piece le in
    from_next n before piece (omega (arith, any, le)) any
    ∙ (λ i. piece_message (here i) ∷ wrapped_from n (before + length (here i)) (there i))
    ∙ ap (λ (l : List (List ℕ)). piece_message piece ∷ l) (from_end n (before + length piece))

-- only behind full pieces may a piece stand
pub no_piece : (before : Before) (size bytes : ℕ) (piece : List ℕ) (later : List (List ℕ)) → (before ≡ Pieces → ⊥) → FollowsOn before size bytes (piece_message piece ∷ later) → ⊥
no_piece Pieces size bytes piece later other follows = other refl
no_piece Short size bytes piece later other follows = no_length bytes piece (cc)
no_piece Whole size bytes piece later other follows = cc

-- only a piece or the length
pub other_message : (before : Before) (size bytes : ℕ) (message : List ℕ) (later : List (List ℕ)) → 0 < size → (IsPiece message → ⊥) → FollowsOn before size bytes (message ∷ later)
    → (message ≡ length_message bytes) × (later ≡ []) × (before ≡ Whole → ⊥)
other_message Pieces size bytes message later some other follows =
    let e = from_length size bytes message later follows.0 some other follows.1 in (e.0, e.1, λ is. cc)
other_message Short size bytes message later some other follows = (cc, cc, λ is. cc)
other_message Whole size bytes message later some other follows = cc

-- where the length may stand
pub length_next : (before : Before) (size bytes : ℕ) → (before ≡ Whole → ⊥) → FollowsOn before size bytes (length_message bytes ∷ [])
length_next Pieces size bytes other = ([], from_end size bytes)
length_next Short size bytes other = refl
length_next Whole size bytes other = absurd (other refl)

-- a piece of a wrong length may not follow
pub no_bad_piece : (n before : ℕ) (piece : List ℕ) (later : List (List ℕ)) → 0 < n → (length piece ≡ 0) ⊎ (n < length piece) → FollowsOn Pieces n before (piece_message piece ∷ later) → ⊥
no_bad_piece n before piece later some bad (rest, is) =
    let e = from_piece n before piece later rest some is in
    let size = ap length e.1 in
    elim bad [ inl none ↦ omega (arith, none, e.0, size, some, length-take n rest) | inr long ↦ omega (arith, long, size, length-take n rest) ]

-- a full piece
pub full_steps : (old new : Gathering) (piece : List ℕ) → old.before ≡ Pieces → new.before ≡ Pieces → new.size ≡ old.size → new.bytes ≡ old.bytes + length piece → 0 < length piece → length piece ≡ old.size → Steps old new (piece_message piece)
full_steps old new piece was now size bytes any full =
    let n = old.size in
    let b = old.bytes in
    let some : 0 < n = omega (arith, any, full) in
    let to : (later : List (List ℕ)) → FollowsOn Pieces n (b + length piece) later → Follows new later =
    λ later f. subst (λ k. FollowsOn k new.size new.bytes later) (sym now) (subst (λ k. FollowsOn Pieces k new.bytes later) (sym size) (subst (λ k. FollowsOn Pieces n k later) (sym bytes) f)) in
    let from : (later : List (List ℕ)) → Follows new later → FollowsOn Pieces n (b + length piece) later =
    λ later f. subst (λ k. FollowsOn Pieces n k later) bytes (subst (λ k. FollowsOn Pieces k new.bytes later) size (subst (λ k. FollowsOn k new.size new.bytes later) now f)) in
    record {
      on = λ later follows.
          let f = subst (λ k. FollowsOn k n b (piece_message piece ∷ later)) was follows in
          let e = from_piece n b piece later f.0 some f.1 in
          to later (drop n f.0, e.2);
      back = λ later follows.
          let f = from later follows in
          subst (λ k. FollowsOn k n b (piece_message piece ∷ later)) (sym was) (piece ++ f.0, piece_before n b piece f.0 any full ∙ ap (λ (l : List (List ℕ)). piece_message piece ∷ l) f.1);
    }

-- a shorter one
pub short_steps : (old new : Gathering) (piece : List ℕ) → old.before ≡ Pieces → new.before ≡ Short → new.bytes ≡ old.bytes + length piece → 0 < length piece → length piece < old.size → Steps old new (piece_message piece)
short_steps old new piece was now bytes any less =
    let n = old.size in
    let b = old.bytes in
    let some : 0 < n = omega (arith, less) in
    let to : (later : List (List ℕ)) → length_message (b + length piece) ∷ [] ≡ later → Follows new later =
    λ later f. subst (λ k. FollowsOn k new.size new.bytes later) (sym now) (ap (λ k. length_message k ∷ []) bytes ∙ f) in
    let from : (later : List (List ℕ)) → Follows new later → length_message (b + length piece) ∷ [] ≡ later =
    λ later f. ap (λ k. length_message k ∷ []) (sym bytes) ∙ subst (λ k. FollowsOn k new.size new.bytes later) now f in
    record {
      on = λ later follows.
          let f = subst (λ k. FollowsOn k n b (piece_message piece ∷ later)) was follows in
          let e = from_piece n b piece later f.0 some f.1 in
          let end : drop n f.0 ≡ [] = drop_of_length-le f.0 (omega (arith, ap length e.1, less, length-take n f.0)) in
          to later (sym (from_end n (b + length piece)) ∙ ap (wrapped_from n (b + length piece)) (sym end) ∙ e.2);
      back = λ later follows.
          let f = from later follows in
          subst (λ k. FollowsOn k n b (piece_message piece ∷ later)) (sym was) (piece, piece_last n b piece any (omega (arith, less)) ∙ ap (λ (l : List (List ℕ)). piece_message piece ∷ l) f);
    }

-- the length
pub length_steps : (old new : Gathering) (message : List ℕ) → (old.before ≡ Whole → ⊥) → new.before ≡ Whole → 0 < old.size → (IsPiece message → ⊥) → message ≡ length_message old.bytes → Steps old new message
length_steps old new message was now some other is = record {
  on = λ later follows.
      let e = other_message old.before old.size old.bytes message later some other follows in
      subst (λ k. FollowsOn k new.size new.bytes later) (sym now) (sym e.1);
  back = λ later follows.
      let f = subst (λ k. FollowsOn k new.size new.bytes later) now follows in
      subst (λ (l : List (List ℕ)). Follows old l) (λ i. sym is i ∷ f i) (length_next old.before old.size old.bytes was);
}

pub no_other : (gathering : Gathering) (message : List ℕ) → 0 < gathering.size → (IsPiece message → ⊥) → (gathering.before ≡ Whole) ⊎ (message ≡ length_message gathering.bytes → ⊥) → Refuses gathering message
no_other gathering message some other bad = record {
  never = λ later follows.
      let e = other_message gathering.before gathering.size gathering.bytes message later some other follows in
      elim bad [ inl whole ↦ e.2 whole | inr differs ↦ differs e.0 ];
}

some_follow : (before : Before) (size bytes : ℕ) → (later : List (List ℕ)) × FollowsOn before size bytes later
some_follow Pieces size bytes = (wrapped_from size bytes [], ([], refl))
some_follow Short size bytes = (length_message bytes ∷ [], refl)
some_follow Whole size bytes = ([], refl)

-- no message yet
pub none_taken : (message : ℕ) (gathering : Gathering) → gathering.before ≡ Pieces → gathering.bytes ≡ 0 → gathering.size ≡ message - 1 → HasTaken message [] gathering
none_taken message gathering before bytes size =
    let same : (file : List ℕ) → wrapped_from gathering.size gathering.bytes file ≡ wrapped message file = λ file. (λ i. wrapped_from (size i) (bytes i) file) ∙ wrapped_is message file in
    record {
      only = λ later file is. subst (λ b. FollowsOn b gathering.size gathering.bytes later) (sym before) (file, same file ∙ is);
      each = λ later follows. (let f = subst (λ b. FollowsOn b gathering.size gathering.bytes later) before follows in (f.0, sym (same f.0) ∙ f.1));
    }

-- a message more
pub one_taken : (message : ℕ) (messages : List (List ℕ)) (next : List ℕ) (old new : Gathering) → HasTaken message messages old → Steps old new next → HasTaken message (messages ++ next ∷ []) new
one_taken message messages next old new has steps = record {
  only = λ later file is. steps.on later (has.only (next ∷ later) file (is ∙ append_assoc messages (next ∷ []) later));
  each = λ later follows. (let h = has.each (next ∷ later) (steps.back later follows) in (h.0, h.1 ∙ sym (append_assoc messages (next ∷ []) later)));
}

pub begins : (message : ℕ) (messages : List (List ℕ)) (gathering : Gathering) → HasTaken message messages gathering → BeginsFile message messages
begins message messages gathering has =
    let some = some_follow gathering.before gathering.size gathering.bytes in
    let h = has.each some.0 some.1 in (h.0, some.0, h.1)

pub begins_no : (message : ℕ) (messages : List (List ℕ)) (next : List ℕ) (gathering : Gathering) → HasTaken message messages gathering → Refuses gathering next → BeginsFile message (messages ++ next ∷ []) → ⊥
begins_no message messages next gathering has refuses (file, rest, is) = refuses.never rest (has.only (next ∷ rest) file (is ∙ append_assoc messages (next ∷ []) rest))

pub whole_file : (message : ℕ) (messages : List (List ℕ)) (gathering : Gathering) → HasTaken message messages gathering → Follows gathering [] → IsFile message messages
whole_file message messages gathering has follows = let h = has.each [] follows in (h.0, h.1 ∙ append-nil messages)

pub file_whole : (message : ℕ) (messages : List (List ℕ)) (gathering : Gathering) → HasTaken message messages gathering → IsFile message messages → Follows gathering []
file_whole message messages gathering has (file, is) = has.only [] file (is ∙ sym (append-nil messages))
