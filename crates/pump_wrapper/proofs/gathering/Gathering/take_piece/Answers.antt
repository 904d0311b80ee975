use Rattle.std.proofs.Common.{◌≡◌, ℕ, false, ◌==◌, ◌<◌, List, ◌∷◌, inl, inr, length, refl, sym, ◌∙◌, subst, arith}
use Rattle.std.proofs.lemmas.Bool.{eqb-true, eqb-false}
use Rattle.pump_wrapper.specs.Gathering.{FollowsOn}
use Rattle.file_messages.specs.Messages.{piece_message}
use Rattle.pump_wrapper.proofs.Following.{no_piece, no_bad_piece, full_steps, short_steps}
use Rattle.pump_wrapper.proofs.gathering.Gathering.take_piece.Goals as goal
use Rattle.pump_wrapper.proofs.gathering.Gathering.take_piece.Goals.{then-is_empty-via-then-is_empty, then-is_empty-via-else-is_empty+then-piece-self}

some_byte : (piece : List ℕ) → (length piece == 0) ≡ false → 0 < length piece
some_byte piece e = let some = eqb-false (length piece) 0 e in omega (arith, some)

pub returns-in_default-clause-refused : goal.returns-in_default-clause-refused
returns-in_default-clause-refused c = λ e. record { never = λ later follows. no_piece c.args.self.now.before c.args.self.now.size c.args.self.now.bytes c.args.piece.now later c.in_default.not-Pieces follows }

pub returns-then-is_empty-clause-refused : goal.returns-then-is_empty-clause-refused
returns-then-is_empty-clause-refused c = λ e. record {
  never = λ later follows.
      let old = c.args.self.now in
      let f = subst (λ k. FollowsOn k old.size old.bytes (piece_message c.args.piece.now ∷ later)) c.in-Pieces.is follows in
      no_bad_piece old.size old.bytes c.args.piece.now later c.requires.size
      (elim c.then-is_empty.branch [
        | then-is_empty-via-then-is_empty w ↦ inl (eqb-true _ _ (sym c.is_empty.ensures ∙ w.if-is_empty.true))
        | then-is_empty-via-else-is_empty+then-piece-self w ↦ inr (omega (arith, w.if-piece-self.true))
      ]) f;
}

pub returns-then-piece-self-2-clause-taken : goal.returns-then-piece-self-2-clause-taken
returns-then-piece-self-2-clause-taken c = λ e. short_steps c.args.self.now _ c.args.piece.now c.in-Pieces.is refl refl (some_byte c.args.piece.now (sym c.is_empty.ensures ∙ c.if-is_empty.false)) c.if-piece-self-2.true

pub returns-else-piece-self-2-clause-taken : goal.returns-else-piece-self-2-clause-taken
returns-else-piece-self-2-clause-taken c = λ e. full_steps c.args.self.now _ c.args.piece.now c.in-Pieces.is c.in-Pieces.is refl refl (some_byte c.args.piece.now (sym c.is_empty.ensures ∙ c.if-is_empty.false)) (omega (arith, c.if-piece-self.false, c.if-piece-self-2.false))
