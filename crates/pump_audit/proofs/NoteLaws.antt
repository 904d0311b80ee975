-- Reading a comment on lists is what a comment's text says.
use Rattle.std.proofs.Common.{◌≡◌, ℕ, ◌+◌, ◌^◌, ◌<◌, ◌≤◌, inl, inr, cond, List, [], ◌∷◌, Option, None, Some, IfSome, codes, decimal, refl, sym, ap, ◌∙◌, subst, arith}
use Rattle.std.proofs.lemmas.Bool.{eqb-true}
use Rattle.std.proofs.lemmas.Option.{same_Some}
use Rattle.std.proofs.lemmas.Slice.Eq.{bytes_eq-Decides}
use Rattle.std.proofs.lemmas.List.Splits.{join_with_byte-slice_split}
use Rattle.std.specs.Prelude.{◌==◌}
use Rattle.std.specs.Str.{bytes_eq}
use Rattle.std.specs.List.{slice_split}
use Rattle.pump_core.specs.declared.reply.Refusal.{Refusal}
use Rattle.pump_core.specs.declared.reply.Refusal.TheVariants as refusals
use Rattle.pump_core.specs.declared.reply.Reply.{Reply}
use Rattle.pump_core.specs.declared.reply.Reply.TheVariants.{Welcome, Ack, Refuse}
use Rattle.pump_core.specs.ReplyFrames.{code_of, frame_of, IsLawfulReply}
use Rattle.script_reader.specs.Fields.{is_space}
use Rattle.script_reader.specs.Grammar.{spaced}
use Rattle.script_reader.specs.Transcript.{reply_fields}
use Rattle.script_reader.proofs.FieldChains.{bind_some, chosen, take_number, number_put, end_at}
use Rattle.script_reader.proofs.FreeFields.{free_text, free_decimal}
use Rattle.script_reader.proofs.Splits.{AreFree, split_joined}
use Rattle.pump_audit.specs.declared.entry.Note.{Note}
use Rattle.pump_audit.specs.declared.entry.Note.TheVariants.{Low, Time, Took, End}
use Rattle.pump_audit.specs.Entries.{note_fields, IsInRange, note_text}
use Rattle.pump_audit.specs.Noting.{refusal_of, welcome_of, ack_of, refuse_of, reply_of, low_of, time_of, took_of, end_of, marked, note_of, note_at}

-- the fields of a reply
abbrev fields_of : Reply → List (List ℕ)
fields_of (Welcome n) = codes "welcome" ∷ decimal n ∷ []
fields_of (Ack n) = codes "ack" ∷ decimal n ∷ []
fields_of (Refuse why n) = codes "refuse" ∷ decimal (code_of why) ∷ decimal n ∷ []

fields_are : (s : ℕ) (r : Reply) → reply_fields (frame_of s r).kind (frame_of s r).number (frame_of s r).payload ≡ fields_of r
fields_are s (Welcome n) = refl
fields_are s (Ack n) = refl
fields_are s (Refuse why n) = refl

-- ---- what is read is so spelled ----

-- the word at the prefix decides
by_word : {A P : Type 0} (w text : List ℕ) (here later : Option A) (x : A) → cond (bytes_eq w text) here later ≡ Some x → (w ≡ text → here ≡ Some x → P) → (later ≡ Some x → P) → P
by_word w text here later x e same other =
    elim (chosen (bytes_eq w text) here later x e) [
      | inl p ↦ same ((bytes_eq-Decides w text).0 p.0) p.1
      | inr p ↦ other p.1
    ]

one_code : (code k : ℕ) (w why : Refusal) (rest : Option Refusal) → k ≡ code_of w → cond (code == k) (Some w) rest ≡ Some why → (rest ≡ Some why → code ≡ code_of why) → code ≡ code_of why
one_code code k w why rest is e other =
    elim (chosen (code == k) (Some w) rest why e) [
      | inl p ↦ eqb-true code k p.0 ∙ is ∙ ap code_of (same_Some w why p.1)
      | inr p ↦ other p.1
    ]

refusal_takes : (code : ℕ) (why : Refusal) → refusal_of code ≡ Some why → code ≡ code_of why
unfolding refusal_of
refusal_takes code why e =
    one_code code 1 refusals.Pair why _ refl e (λ e.
    one_code code 2 refusals.Frame why _ refl e (λ e.
    one_code code 3 refusals.Size why _ refl e (λ e.
    one_code code 4 refusals.Step why _ refl e (λ e.
    one_code code 5 refusals.Device why None refl e (λ e. absurd (cc))))))

abbrev Spells : List ℕ → List (List ℕ) → Reply → Type 0
Spells word fields r = IsLawfulReply r × (word ∷ fields ≡ fields_of r)

welcome_takes : (fields : List (List ℕ)) (r : Reply) → welcome_of fields ≡ Some r → Spells (codes "welcome") fields r
unfolding welcome_of
welcome_takes fields r e =
    take_number (2 ^ 48 + 1) fields _ r e (λ n rest below fa e.
    let k = end_at _ rest r e in
    subst (Spells (codes "welcome") fields) k.1 (omega (arith, below), rw (fa, k.0) refl))

ack_takes : (fields : List (List ℕ)) (r : Reply) → ack_of fields ≡ Some r → Spells (codes "ack") fields r
unfolding ack_of
ack_takes fields r e =
    take_number (2 ^ 48) fields _ r e (λ n rest below fa e.
    let k = end_at _ rest r e in
    subst (Spells (codes "ack") fields) k.1 (below, rw (fa, k.0) refl))

refuse_takes : (fields : List (List ℕ)) (r : Reply) → refuse_of fields ≡ Some r → Spells (codes "refuse") fields r
unfolding refuse_of
refuse_takes fields r e =
    take_number 6 fields _ r e (λ code rest below fa e.
    let why = bind_some (refusal_of code) _ r e in
    take_number (2 ^ 48 + 1) rest _ r why.2 (λ n more few fb e.
    let k = end_at _ more r e in
    let code_is = ap (λ c. decimal c ∷ decimal n ∷ []) (refusal_takes code why.0 why.1) in
    let same = fa ∙ ap (λ l. decimal code ∷ l) (fb ∙ ap (λ l. decimal n ∷ l) k.0) ∙ code_is in
    subst (Spells (codes "refuse") fields) k.1 (omega (arith, few), ap (λ l. codes "refuse" ∷ l) same)))

reply_takes : (fields : List (List ℕ)) (r : Reply) → reply_of fields ≡ Some r → IsLawfulReply r × (fields ≡ fields_of r)
unfolding reply_of
reply_takes [] r e = absurd (cc)
reply_takes (w ∷ fields) r e =
    by_word w (codes "welcome") _ _ r e (λ s e. rw s (welcome_takes fields r e)) (λ e.
    by_word w (codes "ack") _ _ r e (λ s e. rw s (ack_takes fields r e)) (λ e.
    by_word w (codes "refuse") _ _ r e (λ s e. rw s (refuse_takes fields r e)) (λ e. absurd (cc))))

abbrev IsNoted : List ℕ → List (List ℕ) → Note → Type 0
IsNoted word fields n = IsInRange n × (word ∷ fields ≡ note_fields n)

low_takes : (fields : List (List ℕ)) (n : Note) → low_of fields ≡ Some n → IsNoted (codes "low") fields n
unfolding low_of
low_takes fields n e =
    take_number (2 ^ 32) fields _ n e (λ session fa small ea e.
    take_number (2 ^ 62 + 1) fa _ n e (λ moment fb few eb e.
    let p = bind_some (reply_of fb) _ n e in
    let q = reply_takes fb p.0 p.1 in
    let behind = eb ∙ ap (λ l. decimal moment ∷ l) (q.1 ∙ sym (fields_are session p.0)) in
    let same = ea ∙ ap (λ l. decimal session ∷ l) behind in
    subst (IsNoted (codes "low") fields) (same_Some _ n p.2) ((small, omega (arith, few), q.0), ap (λ l. codes "low" ∷ l) same)))

time_takes : (fields : List (List ℕ)) (n : Note) → time_of fields ≡ Some n → IsNoted (codes "time") fields n
unfolding time_of
time_takes fields n e =
    take_number (10 ^ 9 + 1) fields _ n e (λ micros rest below fa e.
    let k = end_at _ rest n e in
    subst (IsNoted (codes "time") fields) k.1 (omega (arith, below), rw (fa, k.0) refl))

took_takes : (fields : List (List ℕ)) (n : Note) → took_of fields ≡ Some n → IsNoted (codes "took") fields n
unfolding took_of
took_takes fields n e =
    take_number (2 ^ 64) fields _ n e (λ count rest below fa e.
    let k = end_at _ rest n e in
    subst (IsNoted (codes "took") fields) k.1 (below, rw (fa, k.0) refl))

end_takes : (fields : List (List ℕ)) (n : Note) → end_of fields ≡ Some n → IsNoted (codes "end") fields n
unfolding end_of
end_takes fields n e =
    take_number (2 ^ 64) fields _ n e (λ accepted rest below fa e.
    take_number (2 ^ 64) rest _ n e (λ removed more few fb e.
    let k = end_at _ more n e in
    subst (IsNoted (codes "end") fields) k.1 ((below, few), rw (fa, fb, k.0) refl)))

marked_takes : (fields : List (List ℕ)) (n : Note) → marked fields ≡ Some n → IsInRange n × (fields ≡ note_fields n)
unfolding marked
marked_takes [] n e = absurd (cc)
marked_takes (w ∷ fields) n e =
    by_word w (codes "low") _ _ n e (λ s e. rw s (low_takes fields n e)) (λ e.
    by_word w (codes "time") _ _ n e (λ s e. rw s (time_takes fields n e)) (λ e.
    by_word w (codes "took") _ _ n e (λ s e. rw s (took_takes fields n e)) (λ e.
    by_word w (codes "end") _ _ n e (λ s e. rw s (end_takes fields n e)) (λ e. absurd (cc)))))

note_takes : (fields : List (List ℕ)) (n : Note) → note_of fields ≡ Some n → IsInRange n × (fields ≡ codes "#" ∷ note_fields n)
unfolding note_of
note_takes [] n e = absurd (cc)
note_takes (w ∷ fields) n e =
    by_word w (codes "#") _ _ n e (λ s e. let p = marked_takes fields n e in (p.0, rw (s, p.1) refl)) (λ e. absurd (cc))

pub found_note : (text : List ℕ) (n : Note) → note_at text ≡ Some n → IsInRange n × (text ≡ note_text n)
unfolding note_at
found_note text n e =
    let p = note_takes (slice_split is_space text) n e in
    (p.0, sym (join_with_byte-slice_split 32 text) ∙ ap spaced p.1)

pub found_from : (text : List ℕ) (o : Option Note) → o ≡ note_at text → IfSome o (λ n. IsInRange n × (text ≡ note_text n))
found_from text None e = tt
found_from text (Some n) e = found_note text n (sym e)

-- ---- what is so spelled is read ----

refuse_put : (why : Refusal) (n : ℕ) → n ≤ 2 ^ 48 → refuse_of (decimal (code_of why) ∷ decimal n ∷ []) ≡ Some (Refuse why n)
unfolding refuse_of refusal_of
refuse_put refusals.Pair n h = rw (number_put 6 1 (decimal n ∷ []) (omega arith) (omega arith), number_put (2 ^ 48 + 1) n [] (omega (arith, h)) (omega arith)) refl
refuse_put refusals.Frame n h = rw (number_put 6 2 (decimal n ∷ []) (omega arith) (omega arith), number_put (2 ^ 48 + 1) n [] (omega (arith, h)) (omega arith)) refl
refuse_put refusals.Size n h = rw (number_put 6 3 (decimal n ∷ []) (omega arith) (omega arith), number_put (2 ^ 48 + 1) n [] (omega (arith, h)) (omega arith)) refl
refuse_put refusals.Step n h = rw (number_put 6 4 (decimal n ∷ []) (omega arith) (omega arith), number_put (2 ^ 48 + 1) n [] (omega (arith, h)) (omega arith)) refl
refuse_put refusals.Device n h = rw (number_put 6 5 (decimal n ∷ []) (omega arith) (omega arith), number_put (2 ^ 48 + 1) n [] (omega (arith, h)) (omega arith)) refl

reply_put : (r : Reply) → IsLawfulReply r → reply_of (fields_of r) ≡ Some r
unfolding reply_of welcome_of ack_of
reply_put (Welcome n) h = rw (number_put (2 ^ 48 + 1) n [] (omega (arith, h)) (omega arith)) refl
reply_put (Ack n) h = rw (number_put (2 ^ 48) n [] h (omega arith)) refl
reply_put (Refuse why n) h = refuse_put why n h

note_put : (n : Note) → IsInRange n → note_of (codes "#" ∷ note_fields n) ≡ Some n
unfolding note_of marked low_of time_of took_of end_of
note_put (Low session moment r) h =
    rw (fields_are session r, number_put (2 ^ 32) session (decimal moment ∷ fields_of r) h.0 (omega arith), number_put (2 ^ 62 + 1) moment (fields_of r) (omega (arith, h.1)) (omega arith), reply_put r h.2) refl
note_put (Time micros) h = rw (number_put (10 ^ 9 + 1) micros [] (omega (arith, h)) (omega arith)) refl
note_put (Took count) h = rw (number_put (2 ^ 64) count [] h (omega arith)) refl
note_put (End accepted removed) h = rw (number_put (2 ^ 64) accepted (decimal removed ∷ []) h.0 (omega arith), number_put (2 ^ 64) removed [] h.1 (omega arith)) refl

code_small : (why : Refusal) → code_of why < 2 ^ 64
code_small refusals.Pair = omega arith
code_small refusals.Frame = omega arith
code_small refusals.Size = omega arith
code_small refusals.Step = omega arith
code_small refusals.Device = omega arith

free_reply : (r : Reply) → IsLawfulReply r → AreFree (fields_of r)
free_reply (Welcome n) h = (free_text (codes "welcome") refl, (free_decimal n (omega (arith, h)), tt))
free_reply (Ack n) h = (free_text (codes "ack") refl, (free_decimal n (omega (arith, h)), tt))
free_reply (Refuse why n) h = (free_text (codes "refuse") refl, (free_decimal (code_of why) (code_small why), (free_decimal n (omega (arith, h)), tt)))

free_note : (n : Note) → IsInRange n → AreFree (note_fields n)
free_note (Low session moment r) h =
    (free_text (codes "low") refl, (free_decimal session (omega (arith, h.0)), (free_decimal moment (omega (arith, h.1)), subst AreFree (sym (fields_are session r)) (free_reply r h.2))))
free_note (Time micros) h = (free_text (codes "time") refl, (free_decimal micros (omega (arith, h)), tt))
free_note (Took count) h = (free_text (codes "took") refl, (free_decimal count h, tt))
free_note (End accepted removed) h = (free_text (codes "end") refl, (free_decimal accepted h.0, (free_decimal removed h.1, tt)))

pub only_note : (text : List ℕ) (n : Note) → IsInRange n → text ≡ note_text n → note_at text ≡ Some n
unfolding note_at
only_note text n h e =
    rw (e, split_joined (codes "#") (note_fields n) (free_text (codes "#") refl) (free_note n h)) (note_put n h)
