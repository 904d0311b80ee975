-- Lines of a session alone, and of a session and a moment, on lists are the grammar's.
use Rattle.std.proofs.Common.{◌≡◌, ℕ, ◌+◌, ◌^◌, ◌<◌, ◌≤◌, inl, inr, cond, List, [], ◌∷◌, Option, Some, codes, decimal, refl, ◌∙◌, subst, arith}
use Rattle.std.proofs.lemmas.Option.{some_pair_parts}
use Rattle.std.proofs.lemmas.Slice.Eq.{bytes_eq-Decides}
use Rattle.std.specs.Str.{bytes_eq}
use Rattle.script_reader.specs.declared.line.Line.{Line}
use Rattle.script_reader.specs.declared.line.Line.TheVariants.{Coarse, Step, Gone, High, Carry, Return, Done, Restart, ReceiverRestart}
use Rattle.script_reader.specs.Grammar.{IsWord, HasFields}
use Rattle.script_reader.specs.Parsing.{field_at, number, word, coarse_of, carry_of, with_number, numbered_act_at, plain_act_at, whole, act_of, at_of, look_of, told_of}
use Rattle.script_reader.proofs.FieldChains.{bind_some, chosen, take_number, take_word, number_put, word_put, end_at}
use Rattle.script_reader.proofs.LookLaws.{look_takes}
use Rattle.script_reader.proofs.ToldLaws.{told_takes}

-- the word at the prefix decides: the fields after it, or the next word
pub by_word : {A : Type 0} (w text : List ℕ) (fields : List (List ℕ)) (line : Line) (x : A) (here later : Option A) → cond (bytes_eq w text) here later ≡ Some x
    → (here ≡ Some x → HasFields line (text ∷ fields)) → (later ≡ Some x → HasFields line (w ∷ fields)) → HasFields line (w ∷ fields)
by_word w text fields line x here later e same other =
    elim (chosen (bytes_eq w text) here later x e) [
      | inl p ↦ rw ((bytes_eq-Decides w text).0 p.0) (same p.1)
      | inr p ↦ other p.1
    ]

-- ---- of a session alone ----

pub coarse_takes : (fields : List (List ℕ)) (line : Line) → coarse_of fields ≡ Some line → HasFields line (codes "coarse" ∷ fields)
unfolding coarse_of
coarse_takes fields line e =
    take_number (2 ^ 32) fields _ line e (λ session fa ha ea e.
    let k = end_at _ fa line e in
    subst (λ l. HasFields l (codes "coarse" ∷ fields)) k.1 (ha, rw (ea, k.0) refl)
    )

pub coarse_put : (session : ℕ) → session < 2 ^ 32 → coarse_of (decimal session ∷ []) ≡ Some (Coarse session)
unfolding coarse_of
coarse_put session hs = rw (number_put (2 ^ 32) session _ hs (omega arith)) refl

pub carry_takes : (fields : List (List ℕ)) (line : Line) → carry_of fields ≡ Some line → HasFields line (codes "carry" ∷ fields)
unfolding carry_of
carry_takes fields line e =
    take_number (2 ^ 32) fields _ line e (λ session fa ha ea e.
    take_number (2 ^ 64) fa _ line e (λ back fb hb eb e.
    let k = end_at _ fb line e in
    subst (λ l. HasFields l (codes "carry" ∷ fields)) k.1 (ha, hb, rw (ea, eb, k.0) refl)
    ))

pub carry_put : (session back : ℕ) → session < 2 ^ 32 → back < 2 ^ 64 → carry_of (decimal session ∷ decimal back ∷ []) ≡ Some (Carry session back)
unfolding carry_of
carry_put session back hs hb =
    rw (number_put (2 ^ 32) session _ hs (omega arith), number_put (2 ^ 64) back _ hb (omega arith)) refl

-- ---- of a session and a moment ----

-- the line that was given is the one that is read, and no field is left
given_takes : (given line : Line) (fields left : List (List ℕ)) → ◌≡◌ {A = Option (Line × List (List ℕ))} (Some (given, left)) (Some (line, [])) → (left ≡ [] → HasFields given fields)
    → HasFields line fields
given_takes given line fields left e has =
    let p = some_pair_parts given line left [] e in
    subst (λ l. HasFields l fields) p.0 (has p.1)

module _ (w : List ℕ) (session moment : ℕ) (fields : List (List ℕ)) (line : Line) (hs : session < 2 ^ 32) (hm : moment ≤ 2 ^ 62) where
  abbrev behind : List (List ℕ)
  behind = decimal session ∷ decimal moment ∷ fields

  numbered_takes : numbered_act_at w session moment fields ≡ Some (line, []) → HasFields line (w ∷ behind)
  unfolding numbered_act_at
  numbered_takes e =
      by_word w (codes "return") behind line (line, []) (with_number (Return session moment) (field_at (number (2 ^ 64)) fields)) _ e
      (λ e. take_number (2 ^ 64) fields _ (line, []) e (λ back left hb eb e. given_takes (Return session moment back) line _ left e (λ none. (hs, hm, hb, rw (eb, none) refl))))
      (λ e. by_word w (codes "done") behind line (line, []) (with_number (Done session moment) (field_at (number (10 ^ 9 + 1)) fields)) _ e
      (λ e. take_number (10 ^ 9 + 1) fields _ (line, []) e (λ time left hb eb e. given_takes (Done session moment time) line _ left e (λ none. (hs, hm, omega (arith, hb), rw (eb, none) refl))))
      (λ e. by_word w (codes "step") behind line (line, []) (with_number (Step session moment) (field_at word fields)) _ e
      (λ e. take_word fields _ (line, []) e (λ n hex left hw ew e. given_takes (Step session moment n) line _ left e (λ none. (hs, hm, hex, hw, rw (ew, none) refl))))
      (λ e. cc)))

  plain_takes : plain_act_at w session moment fields ≡ Some (line, []) → HasFields line (w ∷ behind)
  unfolding plain_act_at
  plain_takes e =
      by_word w (codes "gone") behind line (line, []) (Some (Gone session moment, fields)) _ e
      (λ e. given_takes (Gone session moment) line _ fields e (λ none. (hs, hm, rw none refl)))
      (λ e. by_word w (codes "high") behind line (line, []) (Some (High session moment, fields)) _ e
      (λ e. given_takes (High session moment) line _ fields e (λ none. (hs, hm, rw none refl)))
      (λ e. by_word w (codes "restart") behind line (line, []) (Some (Restart session moment, fields)) _ e
      (λ e. given_takes (Restart session moment) line _ fields e (λ none. (hs, hm, rw none refl)))
      (λ e. by_word w (codes "receiver-restart") behind line (line, []) (Some (ReceiverRestart session moment, fields)) _ e
      (λ e. given_takes (ReceiverRestart session moment) line _ fields e (λ none. (hs, hm, rw none refl)))
      numbered_takes)))

  act_takes : act_of w session moment fields ≡ Some line → HasFields line (w ∷ behind)
  unfolding act_of
  act_takes e =
      by_word w (codes "look") behind line line (look_of session moment fields) _ e (look_takes session moment fields line hs hm) (λ e.
      by_word w (codes "told") behind line line (told_of session moment fields) _ e (told_takes session moment fields line hs hm) (λ e.
      let p = bind_some (plain_act_at w session moment fields) _ line e in
      let k = end_at p.0.0 p.0.1 line p.2 in
      plain_takes (p.1 ∙ (λ i. Some (k.1 i, k.0 i)))))

pub at_takes : (w : List ℕ) (fields : List (List ℕ)) (line : Line) → at_of w fields ≡ Some line → HasFields line (w ∷ fields)
unfolding at_of
at_takes w fields line e =
    take_number (2 ^ 32) fields _ line e (λ session fa ha ea e.
    take_number (2 ^ 62 + 1) fa _ line e (λ moment fb hb eb e.
    rw (ea, eb) (act_takes w session moment fb line ha (omega (arith, hb)) e)
    ))

pub at_put : (w : List ℕ) (session moment : ℕ) (fields : List (List ℕ)) → session < 2 ^ 32 → moment ≤ 2 ^ 62
    → at_of w (decimal session ∷ decimal moment ∷ fields) ≡ act_of w session moment fields
unfolding at_of
at_put w session moment fields hs hm =
    rw (number_put (2 ^ 32) session _ hs (omega arith), number_put (2 ^ 62 + 1) moment _ (omega arith) (omega arith)) refl

pub with_number_put : (make : ℕ → Line) (bound n : ℕ) → n < bound → bound ≤ 2 ^ 64 → whole (with_number make (field_at (number bound) (decimal n ∷ []))) ≡ Some (make n)
with_number_put make bound n below fits = rw (number_put bound n [] below fits) refl

pub with_word_put : (make : ℕ → Line) (n : ℕ) (hex : List ℕ) → IsWord n hex → whole (with_number make (field_at word (hex ∷ []))) ≡ Some (make n)
with_word_put make n hex h = rw (word_put n hex [] h) refl
