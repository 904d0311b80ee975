-- Reading a line on lists is the grammar.
use Rattle.std.proofs.Common.{◌≡◌, ℕ, ◌+◌, ◌^◌, ◌≤◌, inl, inr, true, false, ltb, List, [], ◌∷◌, ◌++◌, Option, None, Some, IfSome, length, codes, decimal, refl, sym, ◌∙◌, subst, arith}
use Rattle.std.proofs.lemmas.Bool.{ltb-false, le-ltb, eqb-true, eq-eqb}
use Rattle.std.proofs.lemmas.Option.{same_Some}
use Rattle.std.specs.List.{slice_split}
use Rattle.std.proofs.lemmas.List.Splits.{join_with_byte-slice_split}
use Rattle.script_reader.specs.declared.line.Line.{Line}
use Rattle.script_reader.specs.declared.line.Line.TheVariants.{Skip, Session, LowSession, Coarse, Look, Told, Step, Gone, High, Carry, Return, Done, Restart, ReceiverRestart}
use Rattle.script_reader.specs.declared.line.Arriving.{Arriving}
use Rattle.script_reader.specs.declared.line.Arriving.TheVariants.{Nothing, Hello, Data, Raw}
use Rattle.script_reader.specs.Fields.{is_space}
use Rattle.script_reader.specs.declared.line.ToldFeedback.{ToldFeedback}
use Rattle.script_reader.specs.declared.line.ToldFeedback.TheVariants.{Quiet, Full, Pair}
use Rattle.script_reader.specs.Grammar.{held_field, outcome_field, IsFeedback, spaced, row_fields, IsArriving, HasFields, IsSkipped, IsLine}
use Rattle.script_reader.specs.Lawful.{IsLawfulArriving, IsLawfulFeedback, IsLawfulLine}
use Rattle.script_reader.specs.Parsing.{session_of, low_session_of, coarse_of, carry_of, numbered_act_at, plain_act_at, act_of, line_of, is_skipped, line_at}
use Rattle.script_reader.proofs.Splits.{split_joined}
use Rattle.script_reader.proofs.FieldChains.{chosen}
use Rattle.script_reader.proofs.FreeFields.{free_text, free_word, free_decimal}
use Rattle.script_reader.proofs.SessionLaws.{session_takes, session_put, low_session_takes, low_session_put, free_row, free_count}
use Rattle.script_reader.proofs.LookLaws.{look_put, free_arriving}
use Rattle.script_reader.proofs.MomentLaws.{by_word, coarse_takes, coarse_put, carry_takes, carry_put, at_takes, at_put, with_number_put, with_word_put}
use Rattle.script_reader.proofs.ToldLaws.{told_put, free_told}

line_takes : (fields : List (List ℕ)) (line : Line) → line_of fields ≡ Some line → HasFields line fields
unfolding line_of
line_takes [] line e = cc
line_takes (w ∷ fields) line e =
    by_word w (codes "session") fields line line (session_of fields) _ e (session_takes fields line) (λ e.
    by_word w (codes "low-session") fields line line (low_session_of fields) _ e (low_session_takes fields line) (λ e.
    by_word w (codes "coarse") fields line line (coarse_of fields) _ e (coarse_takes fields line) (λ e.
    by_word w (codes "carry") fields line line (carry_of fields) _ e (carry_takes fields line) (at_takes w fields line))))

line_put : (line : Line) (fields : List (List ℕ)) → HasFields line fields → line_of fields ≡ Some line
unfolding line_of act_of plain_act_at numbered_act_at
line_put Skip fields h = absurd h
line_put (Session row) fields h = rw h.1 (session_put row h.0)
line_put (LowSession row next held) fields h = rw h.2 (low_session_put row next held h.0 h.1)
line_put (Coarse session) fields h = rw h.1 (coarse_put session h.0)
line_put (Carry session back) fields h = rw h.2 (carry_put session back h.0 h.1)
line_put (Look session moment w arrival) fields h =
    rw h.6 (at_put (codes "look") session moment (h.2 ∷ h.4) h.0 h.1 ∙ look_put session moment w h.2 arrival h.4 h.3 h.5)
line_put (Told session moment w fault told arrival) fields h =
    rw h.8 (at_put (codes "told") session moment (h.2 ∷ outcome_field fault ∷ h.4 ∷ h.6) h.0 h.1 ∙ told_put session moment w h.2 fault told h.4 arrival h.6 h.3 h.5 h.7)
line_put (Step session moment w) fields h = rw h.4 (at_put (codes "step") session moment (h.2 ∷ []) h.0 h.1 ∙ with_word_put (Step session moment) w h.2 h.3)
line_put (Gone session moment) fields h = rw h.2 (at_put (codes "gone") session moment [] h.0 h.1)
line_put (High session moment) fields h = rw h.2 (at_put (codes "high") session moment [] h.0 h.1)
line_put (Return session moment back) fields h =
    rw h.3 (at_put (codes "return") session moment (decimal back ∷ []) h.0 h.1 ∙ with_number_put (Return session moment) (2 ^ 64) back h.2 (omega arith))
line_put (Done session moment time) fields h =
    rw h.3 (at_put (codes "done") session moment (decimal time ∷ []) h.0 h.1 ∙ with_number_put (Done session moment) (10 ^ 9 + 1) time (omega (arith, h.2)) (omega arith))
line_put (Restart session moment) fields h = rw h.2 (at_put (codes "restart") session moment [] h.0 h.1)
line_put (ReceiverRestart session moment) fields h = rw h.2 (at_put (codes "receiver-restart") session moment [] h.0 h.1)

-- bytes that are a line's fields with one space between are split into them
split_line : (line : Line) (fields : List (List ℕ)) → HasFields line fields → slice_split is_space (spaced fields) ≡ fields
split_line Skip fields h = absurd h
split_line (Session row) fields h = rw h.1 (split_joined (codes "session") (row_fields row) (free_text (codes "session") refl) (free_row row [] h.0 tt))
split_line (LowSession row next held) fields h =
    rw h.2 (split_joined (codes "low-session") (row_fields row ++ decimal next ∷ held_field held ∷ []) (free_text (codes "low-session") refl)
    (free_row row (decimal next ∷ held_field held ∷ []) h.0 (free_count next held h.1)))
split_line (Coarse session) fields h =
    rw h.1 (split_joined (codes "coarse") (decimal session ∷ []) (free_text (codes "coarse") refl) (free_decimal session (omega (arith, h.0)), tt))
split_line (Look session moment w arrival) fields h =
    rw h.6 (split_joined (codes "look") (decimal session ∷ decimal moment ∷ h.2 ∷ h.4) (free_text (codes "look") refl)
    (free_decimal session (omega (arith, h.0)), (free_decimal moment (omega (arith, h.1)), (free_word w h.2 h.3, free_arriving arrival h.4 h.5))))
split_line (Told session moment w fault told arrival) fields h =
    rw h.8 (split_joined (codes "told") (decimal session ∷ decimal moment ∷ h.2 ∷ outcome_field fault ∷ h.4 ∷ h.6) (free_text (codes "told") refl)
    (free_told session moment w h.2 fault told h.4 arrival h.6 h.0 h.1 h.3 h.5 h.7))
split_line (Step session moment w) fields h =
    rw h.4 (split_joined (codes "step") (decimal session ∷ decimal moment ∷ h.2 ∷ []) (free_text (codes "step") refl)
    (free_decimal session (omega (arith, h.0)), (free_decimal moment (omega (arith, h.1)), (free_word w h.2 h.3, tt))))
split_line (Gone session moment) fields h =
    rw h.2 (split_joined (codes "gone") (decimal session ∷ decimal moment ∷ []) (free_text (codes "gone") refl)
    (free_decimal session (omega (arith, h.0)), (free_decimal moment (omega (arith, h.1)), tt)))
split_line (High session moment) fields h =
    rw h.2 (split_joined (codes "high") (decimal session ∷ decimal moment ∷ []) (free_text (codes "high") refl)
    (free_decimal session (omega (arith, h.0)), (free_decimal moment (omega (arith, h.1)), tt)))
split_line (Carry session back) fields h =
    rw h.2 (split_joined (codes "carry") (decimal session ∷ decimal back ∷ []) (free_text (codes "carry") refl)
    (free_decimal session (omega (arith, h.0)), (free_decimal back h.1, tt)))
split_line (Return session moment back) fields h =
    rw h.3 (split_joined (codes "return") (decimal session ∷ decimal moment ∷ decimal back ∷ []) (free_text (codes "return") refl)
    (free_decimal session (omega (arith, h.0)), (free_decimal moment (omega (arith, h.1)), (free_decimal back h.2, tt))))
split_line (Done session moment time) fields h =
    rw h.3 (split_joined (codes "done") (decimal session ∷ decimal moment ∷ decimal time ∷ []) (free_text (codes "done") refl)
    (free_decimal session (omega (arith, h.0)), (free_decimal moment (omega (arith, h.1)), (free_decimal time (omega (arith, h.2)), tt))))
split_line (Restart session moment) fields h =
    rw h.2 (split_joined (codes "restart") (decimal session ∷ decimal moment ∷ []) (free_text (codes "restart") refl)
    (free_decimal session (omega (arith, h.0)), (free_decimal moment (omega (arith, h.1)), tt)))
split_line (ReceiverRestart session moment) fields h =
    rw h.2 (split_joined (codes "receiver-restart") (decimal session ∷ decimal moment ∷ []) (free_text (codes "receiver-restart") refl)
    (free_decimal session (omega (arith, h.0)), (free_decimal moment (omega (arith, h.1)), tt)))

unskipped : (line : Line) (fields : List (List ℕ)) → HasFields line fields → is_skipped (spaced fields) ≡ false
unskipped Skip fields h = absurd h
unskipped (Session row) fields h = rw h.1 refl
unskipped (LowSession row next held) fields h = rw h.2 refl
unskipped (Coarse session) fields h = rw h.1 refl
unskipped (Look session moment w arrival) fields h = rw h.6 refl
unskipped (Told session moment w fault told arrival) fields h = rw h.8 refl
unskipped (Step session moment w) fields h = rw h.4 refl
unskipped (Gone session moment) fields h = rw h.2 refl
unskipped (High session moment) fields h = rw h.2 refl
unskipped (Carry session back) fields h = rw h.2 refl
unskipped (Return session moment back) fields h = rw h.3 refl
unskipped (Done session moment time) fields h = rw h.3 refl
unskipped (Restart session moment) fields h = rw h.2 refl
unskipped (ReceiverRestart session moment) fields h = rw h.2 refl

skips : (bytes : List ℕ) → is_skipped bytes ≡ true → IsSkipped bytes
skips [] e = tt
skips (b ∷ bytes) e = eqb-true b 35 e

skipped : (bytes : List ℕ) → IsSkipped bytes → is_skipped bytes ≡ true
skipped [] h = refl
skipped (b ∷ bytes) h = eq-eqb b 35 h

pub read_takes : (bytes : List ℕ) (line : Line) → line_at bytes ≡ Some line → IsLine line bytes
unfolding line_at
read_takes bytes line e =
    elim (chosen (ltb 2400 (length bytes)) None _ line e) [
      | inl p ↦ cc p.1
      | inr p ↦ elim (chosen (is_skipped bytes) (Some Skip) _ line p.1) [
        | inl q ↦ (ltb-false _ _ p.0, inl (sym (same_Some Skip line q.1), skips bytes q.0))
        | inr q ↦ (ltb-false _ _ p.0, inr (slice_split is_space bytes, line_takes _ line q.1, sym (join_with_byte-slice_split 32 bytes)))
      ]
    ]

put_fields : (line : Line) (bytes : List ℕ) (fields : List (List ℕ)) → length bytes ≤ 2400 → HasFields line fields → bytes ≡ spaced fields → line_at bytes ≡ Some line
unfolding line_at
put_fields line bytes fields short h e =
    rw (le-ltb 2400 (length bytes) short, e, unskipped line fields h, split_line line fields h) (line_put line fields h)

put_skip : (line : Line) (bytes : List ℕ) → length bytes ≤ 2400 → line ≡ Skip → IsSkipped bytes → line_at bytes ≡ Some line
unfolding line_at
put_skip line bytes short e h = rw (le-ltb 2400 (length bytes) short, skipped bytes h, e) refl

pub read_put : (line : Line) (bytes : List ℕ) → IsLine line bytes → line_at bytes ≡ Some line
read_put line bytes h =
    elim h.1 [
      | inl s ↦ put_skip line bytes h.0 s.0 s.1
      | inr s ↦ put_fields line bytes s.0 h.0 s.1 s.2
    ]

pub found_from : (bytes : List ℕ) (r : Option Line) → r ≡ line_at bytes → IfSome r (λ line. IsLine line bytes)
found_from bytes None e = tt
found_from bytes (Some line) e = read_takes bytes line (sym e)

-- bytes are one line at most
pub one_line : (bytes : List ℕ) (a b : Line) → IsLine a bytes → IsLine b bytes → a ≡ b
one_line bytes a b p q = same_Some a b (sym (read_put a bytes p) ∙ read_put b bytes q)

-- a line of the grammar is lawful
lawful_arriving : (arrival : Arriving) (fields : List (List ℕ)) → IsArriving arrival fields → IsLawfulArriving arrival
lawful_arriving Nothing fields h = tt
lawful_arriving (Hello low high) fields h = tt
lawful_arriving (Data number payload) fields h = h.0
lawful_arriving (Raw bytes) fields h = h.1.some

lawful_feedback : (told : ToldFeedback) (field : List ℕ) → IsFeedback told field → IsLawfulFeedback told
lawful_feedback Quiet field h = tt
lawful_feedback Full field h = tt
lawful_feedback (Pair count average) field h = h.1

lawful_fields : (line : Line) (fields : List (List ℕ)) → HasFields line fields → IsLawfulLine line
lawful_fields Skip fields h = tt
lawful_fields (Session row) fields h = (h.0.low_port, h.0.high_port, h.0.coarse)
lawful_fields (Look session moment w arrival) fields h = (h.1, lawful_arriving arrival h.4 h.5)
lawful_fields (LowSession row next held) fields h = ((h.0.low_port, h.0.high_port, h.0.coarse), h.1)
lawful_fields (Coarse session) fields h = tt
lawful_fields (Told session moment w fault told arrival) fields h = (h.1, lawful_feedback told h.4 h.5, lawful_arriving arrival h.6 h.7)
lawful_fields (Step session moment w) fields h = h.1
lawful_fields (Gone session moment) fields h = h.1
lawful_fields (High session moment) fields h = h.1
lawful_fields (Carry session back) fields h = tt
lawful_fields (Return session moment back) fields h = h.1
lawful_fields (Done session moment time) fields h = (h.1, h.2)
lawful_fields (Restart session moment) fields h = h.1
lawful_fields (ReceiverRestart session moment) fields h = h.1

pub lawful_line : (line : Line) (bytes : List ℕ) → IsLine line bytes → IsLawfulLine line
lawful_line line bytes h =
    elim h.1 [
      | inl s ↦ subst (λ l. IsLawfulLine l) (sym s.0) tt
      | inr s ↦ lawful_fields line s.0 s.1
    ]

pub lawful_from : (bytes : List ℕ) (r : Option Line) → r ≡ line_at bytes → IfSome r IsLawfulLine
lawful_from bytes None e = tt
lawful_from bytes (Some line) e = lawful_line line bytes (read_takes bytes line (sym e))
