-- The lines of a sender of a stream, and its connections.
use Rattle.std.proofs.Common.{◌≡◌, ◌<◌, inl, inr, ℕ, ◌+◌, List, [], ◌∷◌, ◌++◌, length, Option, Some, None, refl, sym, ap, ◌∙◌, subst, append_assoc, append-nil, arith, length-append}
use Rattle.pump_frame.specs.declared.frame.Frame.{Frame}
use Rattle.pump_frame.specs.Spellings.{spelling, header_of}
use Rattle.pump_link.specs.declared.link.Looked.{Looked}
use Rattle.pump_link.specs.declared.link.Looked.TheVariants.{Byte}
use Rattle.peers.specs.declared.append.AppendEnd.{AppendEnd}
use Rattle.peers.specs.declared.append.AppendEnd.TheVariants.{Done, Read, Write, Script, Refused, Unfinished, Elsewhere}
use Rattle.peers.specs.declared.asking.Wanted.{Wanted}
use Rattle.peers.specs.Appending.{Line, AreLines, payloads, texts, Flight, flying, acks, IsCut, Prints, Turn, messages}
use Rattle.peers.specs.Looks.{HearsJust, bytes_in}
use Rattle.peers.specs.Sending.{Wait, Answers, ack_line}
use Rattle.pump_frame.specs.Streams.{spellings}

-- ---- an answer takes a look ----

some_bytes : (f : Frame) → 0 < length (spelling f)
unfolding spelling header_of
some_bytes f = omega arith

some_spelled : (passed : List Frame) (f : Frame) (rest : List ℕ) → 0 < length (spellings (passed ++ f ∷ []) ++ rest)
some_spelled [] f rest = omega (arith, some_bytes f, length-append (spelling f ++ []) rest, length-append (spelling f) [])
some_spelled (g ∷ passed) f rest = omega (arith, some_bytes g, length-append (spelling g ++ spellings (passed ++ f ∷ [])) rest, length-append (spelling g) (spellings (passed ++ f ∷ [])))

some_looks : (looks : List Looked) (passed : List Frame) (f : Frame) → HearsJust looks (passed ++ f ∷ []) → 0 < length looks
some_looks looks passed f heard = elim heard.prompt [
  | inl none ↦ (let bytes : [] ≡ spellings (passed ++ f ∷ []) ++ [] = sym (ap bytes_in none) ∙ heard.stream.2 in
      let short : 0 ≡ length (spellings (passed ++ f ∷ []) ++ []) = ap length bytes in
      absurd (omega (arith, short, some_spelled passed f [])))
  | inr (prefix, byte, is) ↦ (let long : length looks ≡ length prefix + 1 = ap length is ∙ length-append prefix (Byte byte ∷ []) in omega (arith, long))
]

pub answer_looks : (session : ℕ) (w : Wanted) (wait : Wait) (f : Frame) → Answers session w wait f → 0 < length wait.looks
answer_looks session w wait f a = some_looks wait.looks wait.passed f a.heard

-- ---- lists ----

pub payloads_append : (xs ys : List Line) → payloads (xs ++ ys) ≡ payloads xs ++ payloads ys
payloads_append [] ys = refl
payloads_append (x ∷ xs) ys = ap (λ (l : List (List ℕ)). x.payload ∷ l) (payloads_append xs ys)

pub texts_append : (xs ys : List Line) → texts (xs ++ ys) ≡ texts ys ++ texts xs
texts_append [] ys = sym (append-nil (texts ys))
texts_append (x ∷ xs) ys = ap (λ (l : List ℕ). l ++ (x.text ++ 10 ∷ [])) (texts_append xs ys) ∙ append_assoc (texts ys) (texts xs) (x.text ++ 10 ∷ [])

pub are_lines : (xs ys : List Line) → AreLines xs → AreLines ys → AreLines (xs ++ ys)
are_lines [] ys a b = b
are_lines (x ∷ xs) ys a b = (a.0, are_lines xs ys a.1 b)

pub acks_append : (first : ℕ) (xs ys : List (List ℕ)) → acks first (xs ++ ys) ≡ acks first ys ++ acks (first + length ys) xs
acks_append first [] ys = sym (append-nil (acks first ys))
acks_append first (x ∷ xs) ys =
    let place : first + length (xs ++ ys) ≡ first + length ys + length xs = omega (arith, length-append xs ys) in
    ap (λ (l : List ℕ). l ++ ack_line (first + length (xs ++ ys))) (acks_append first xs ys)
    ∙ ap (λ n. (acks first ys ++ acks (first + length ys) xs) ++ ack_line n) place
    ∙ append_assoc (acks first ys) (acks (first + length ys) xs) (ack_line (first + length ys + length xs))

pub messages_length : (turns : List Turn) → length (messages turns) ≡ length turns
messages_length [] = refl
messages_length (t ∷ past) = omega (arith, messages_length past)

-- what is printed behind the acknowledgements of earlier messages
cut_append : (first : ℕ) (xs ys : List (List ℕ)) (printed : List ℕ) → IsCut (first + length ys) xs printed → IsCut first (xs ++ ys) (acks first ys ++ printed)
cut_append first [] ys printed c = absurd c
cut_append first (x ∷ xs) ys printed (prefix, is, whole) =
    let place : first + length ys + length xs ≡ first + length (xs ++ ys) = omega (arith, length-append xs ys) in (
      prefix,
      subst (λ n. (rest : List ℕ) × (ack_line n ≡ prefix ++ rest)) place is,
      ap (λ (l : List ℕ). acks first ys ++ l) whole ∙ sym (append_assoc (acks first ys) (acks (first + length ys) xs) prefix) ∙ ap (λ (l : List ℕ). l ++ prefix) (sym (acks_append first xs ys)),
    )

pub prints_append : (end : Option AppendEnd) (first : ℕ) (xs ys : List (List ℕ)) (printed : List ℕ) → Prints end (first + length ys) xs printed → Prints end first (xs ++ ys) (acks first ys ++ printed)
prints_append (Some Write) first xs ys printed p = cut_append first xs ys printed p
prints_append None first xs ys printed p = ap (λ (l : List ℕ). acks first ys ++ l) p ∙ sym (acks_append first xs ys)
prints_append (Some Done) first xs ys printed p = ap (λ (l : List ℕ). acks first ys ++ l) p ∙ sym (acks_append first xs ys)
prints_append (Some Read) first xs ys printed p = ap (λ (l : List ℕ). acks first ys ++ l) p ∙ sym (acks_append first xs ys)
prints_append (Some Script) first xs ys printed p = ap (λ (l : List ℕ). acks first ys ++ l) p ∙ sym (acks_append first xs ys)
prints_append (Some (Refused code of)) first xs ys printed p = ap (λ (l : List ℕ). acks first ys ++ l) p ∙ sym (acks_append first xs ys)
prints_append (Some Unfinished) first xs ys printed p = ap (λ (l : List ℕ). acks first ys ++ l) p ∙ sym (acks_append first xs ys)
prints_append (Some (Elsewhere of)) first xs ys printed p = ap (λ (l : List ℕ). acks first ys ++ l) p ∙ sym (acks_append first xs ys)

-- lines that are read behind others keep the order
pub order_append : (before mid now : Option Flight) (xs ys : List Line) (xss yss : List (List ℕ)) → payloads ys ++ flying before ≡ flying mid ++ yss → payloads xs ++ flying mid ≡ flying now ++ xss
    → payloads (xs ++ ys) ++ flying before ≡ flying now ++ (xss ++ yss)
order_append before mid now xs ys xss yss p q =
    ap (λ (l : List (List ℕ)). l ++ flying before) (payloads_append xs ys)
    ∙ append_assoc (payloads xs) (payloads ys) (flying before)
    ∙ ap (λ (l : List (List ℕ)). payloads xs ++ l) p
    ∙ sym (append_assoc (payloads xs) (flying mid) yss)
    ∙ ap (λ (l : List (List ℕ)). l ++ yss) q
    ∙ append_assoc (flying now) xss yss
