use Rattle.std.proofs.Common.{◌≡◌, ℕ, ◌<◌, List, [], ◌∷◌, length, arith, refl, sym, ◌∙◌, ap}
use Rattle.std.proofs.lemmas.Bool.{eqb-true, eqb-false}
use Rattle.file_messages.specs.Messages.{message_of}
use Rattle.file_messages.proofs.FirstBytes.{a_piece, a_start, an_end, an_abandon, no_other}
use Rattle.file_messages.proofs.Taking.{takes_same, takes_abandon, takes_other, nothing_other}
use Rattle.file_messages.proofs.assembly.Assembly.step.Goals as goal
use Rattle.file_messages.proofs.assembly.Assembly.step.Goals.{else-kind-eq-PIECE-via-then-kind-eq-PIECE+else-not-is_empty, else-kind-eq-PIECE-via-else-kind-eq-PIECE}
use Rattle.file_messages.proofs.assembly.Assembly.step.Goals.{else-kind-eq-ABANDON-via-then-kind-eq-ABANDON+else-is_empty, else-kind-eq-ABANDON-via-else-kind-eq-ABANDON}

no_bytes : (message : List ℕ) → length message ≡ 0 → message ≡ []
no_bytes [] e = refl
no_bytes (b ∷ bs) e = absurd (omega (arith, e))

pub returns-in_default : goal.returns-in_default
returns-in_default c =
    takes_same _ _ _ _ _ (ap message_of (no_bytes c.args.message.now c.in_default.ensures.cases) ∙ nothing_other) (takes_other _ _ _ c.leave.ensures)

pub returns-then-not-is_empty : goal.returns-then-not-is_empty
returns-then-not-is_empty c =
    let rest = c.in-Some.rest.now in
    let some = eqb-false (length rest) 0 (sym c.is_empty.ensures ∙ c.if-not-is_empty.true) in
    takes_same _ _ _ _ _ (ap message_of c.in-Some.ensures.cases.0 ∙ a_piece c.in-Some.kind.now rest c.if-kind-eq-PIECE.true (omega (arith, some))) c.feed.ensures

pub returns-then-kind-eq-START : goal.returns-then-kind-eq-START
returns-then-kind-eq-START c =
    takes_same _ _ _ _ _ (ap message_of c.in-Some.ensures.cases.0 ∙ a_start c.in-Some.kind.now c.in-Some.rest.now c.if-kind-eq-START.true) c.begin.ensures

pub returns-then-kind-eq-END : goal.returns-then-kind-eq-END
returns-then-kind-eq-END c =
    takes_same _ _ _ _ _ (ap message_of c.in-Some.ensures.cases.0 ∙ an_end c.in-Some.kind.now c.in-Some.rest.now c.if-kind-eq-END.true) c.«end».ensures

pub returns-then-is_empty : goal.returns-then-is_empty
returns-then-is_empty c =
    let rest = c.in-Some.rest.now in
    let none = eqb-true (length rest) 0 (sym c.is_empty-then-kind-eq-ABANDON.ensures ∙ c.if-is_empty.true) in
    takes_same _ _ _ _ _ (ap message_of c.in-Some.ensures.cases.0 ∙ an_abandon c.in-Some.kind.now rest c.if-kind-eq-ABANDON.true none) (takes_abandon _ _ _ c.leave-then-is_empty.ensures)

pub returns-else-kind-eq-ABANDON : goal.returns-else-kind-eq-ABANDON
returns-else-kind-eq-ABANDON c =
    let kind = c.in-Some.kind.now in
    let rest = c.in-Some.rest.now in
    let piece : kind ≡ 0 → 0 < length rest → ⊥ = elim c.else-kind-eq-PIECE.branch [
      | else-kind-eq-PIECE-via-then-kind-eq-PIECE+else-not-is_empty w ↦ λ e some. let none = eqb-true (length rest) 0 (sym w.is_empty.ensures ∙ w.if-not-is_empty.false) in omega (arith, some, none)
      | else-kind-eq-PIECE-via-else-kind-eq-PIECE w ↦ λ e some. w.if-kind-eq-PIECE.false e
    ] in
    let abandon : kind ≡ 4 → length rest ≡ 0 → ⊥ = elim c.else-kind-eq-ABANDON.branch [
      | else-kind-eq-ABANDON-via-then-kind-eq-ABANDON+else-is_empty w ↦ λ e none. eqb-false (length rest) 0 (sym w.is_empty-then-kind-eq-ABANDON.ensures ∙ w.if-is_empty.false) none
      | else-kind-eq-ABANDON-via-else-kind-eq-ABANDON w ↦ λ e none. w.if-kind-eq-ABANDON.false e
    ] in
    takes_same _ _ _ _ _ (ap message_of c.in-Some.ensures.cases.0 ∙ no_other kind rest piece c.if-kind-eq-START.false c.if-kind-eq-END.false abandon) (takes_other _ _ _ c.leave-else-kind-eq-ABANDON.ensures)
