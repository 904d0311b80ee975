-- One call of the reader of lines reads no more than it needs.
use Rattle.std.proofs.Common.{◌≡◌, inl, inr, min, ℕ, ◌+◌, ◌-◌, ◌^◌, ◌≢◌, List, [], ◌∷◌, ◌++◌, Some, take, refl, sym, ap, ◌∙◌, subst, append_assoc, append-nil}
use Rattle.std.specs.List.{position}
use Rattle.pump_link.specs.Tells.{Draws}
use Rattle.script_reader.specs.declared.lines.Lined.{Lined}
use Rattle.script_reader.specs.declared.lines.Lined.TheVariants as lined
use Rattle.script_reader.specs.Lines.{LineReading, is_end, IsSome, LineIsReady, AreNeeded, with_pieces, ReadsTo, LeavesHeld, ReadsOn}
use Rattle.script_reader.specs.Prefixes.{IsFirst}
use Rattle.script_reader.proofs.LineEnds.{ended, ended_some}
use Rattle.script_reader.proofs.NextLaws.{is_empty}

needed_more : (held : List ℕ) (pieces : List (List ℕ)) (piece : List ℕ) → AreNeeded held pieces → (LineIsReady (with_pieces held pieces) → ⊥) → AreNeeded held (pieces ++ piece ∷ [])
needed_more held [] piece n not_ready = (not_ready, tt)
needed_more held (p ∷ pieces) piece n not_ready = (n.0, needed_more (held ++ p) pieces piece n.1 not_ready)

pieces_more : (held : List ℕ) (pieces : List (List ℕ)) (piece : List ℕ) → with_pieces held (pieces ++ piece ∷ []) ≡ with_pieces held pieces ++ piece
pieces_more held [] piece = refl
pieces_more held (p ∷ pieces) piece = pieces_more (held ++ p) pieces piece

-- a piece more was needed
pub reads_more : (held all more piece : List ℕ) (p q r : List (List ℕ) → Type 0) → ReadsTo held p q all → (LineIsReady all → ⊥) → Draws q r (piece ∷ []) → more ≡ all ++ piece → ReadsTo held p r more
reads_more held all more piece p q r e not_ready d is = record {
  pieces = e.pieces ++ piece ∷ [];
  gave = record { told = λ rest t. subst p (sym (append_assoc e.pieces (piece ∷ []) rest)) (e.gave.told (piece ∷ rest) (d.told rest t)) };
  needed = needed_more held e.pieces piece e.needed (λ ready. not_ready (subst LineIsReady (sym e.all_is) ready));
  all_is = is ∙ ap (λ xs. xs ++ piece) e.all_is ∙ sym (pieces_more held e.pieces piece);
}

-- the source failed, and gave nothing
pub reads_kept : (held all same : List ℕ) (p q r : List (List ℕ) → Type 0) → ReadsTo held p q all → Draws q r [] → same ≡ all → ReadsTo held p r same
reads_kept held all same p q r e d is = record {
  pieces = e.pieces;
  gave = record { told = λ rest t. e.gave.told rest (d.told rest t) };
  needed = e.needed;
  all_is = is ∙ e.all_is;
}

some_held : (held : List ℕ) (len : ℕ) → position is_end held ≡ Some len → IsSome held
some_held held len at = subst IsSome (append-nil held) (ended_some held len at [])

leaves_first : (now new : LineReading) (len : ℕ) (result : Lined) → position is_end now.held ≡ Some len → IsFirst now new len result → LeavesHeld result now.held new.held
leaves_first now new len (lined.Line line) at f =
    let p = ended now.held len at in
    (take len now.held, p.0, f.0, p.1 ∙ ap (λ (r : LineReading). take len now.held ++ 10 ∷ r.held) (sym f.1))
leaves_first now new len lined.Bad at f = (ap (λ (r : LineReading). r.held) f.1, some_held now.held len at)
leaves_first now new len lined.End at f = absurd f
leaves_first now new len lined.Failed at f = absurd f

-- the first line of what is held is the next
pub first_reads : (old now new : LineReading) (p q : List (List ℕ) → Type 0) (len : ℕ) (result : Lined) → ReadsTo old.held p q now.held → position is_end now.held ≡ Some len → IsFirst now new len result → ReadsOn old new p q result
first_reads old now new p q len result e at f = (now.held, e, leaves_first now new len result at f)

-- what is held at the end of the script is the last of it
pub last_reads : (old now new : LineReading) (p q : List (List ℕ) → Type 0) (result : Lined) → ReadsTo old.held p q now.held
    → (now.held ≡ [] → (result ≡ lined.End) × (new ≡ now)) → (now.held ≢ [] → (result ≡ lined.Bad) × (new ≡ record { held = now.held; number = min (now.number + 1) (2 ^ 32 - 1) }))
    → ReadsOn old new p q result
last_reads old now new p q result e none some =
    elim (is_empty now.held) [
      | inl empty ↦ rw ((none empty).0, (none empty).1) (now.held, e, (refl, empty))
      | inr held ↦ rw ((some held).0, (some held).1) (now.held, e, (refl, held))
    ]
