-- A payload is a greeting where it begins with the low name, and a colon and the high name follow.
use Rattle.std.proofs.Common.{◌≡◌, ℕ, Bool, true, false, List, [], ◌∷◌, ◌++◌, length, take, drop, refl, sym, ap, ◌∙◌}
use Rattle.std.specs.Prelude.{◌&&◌, nat_eq}
use Rattle.std.specs.Str.{bytes_eq}
use Rattle.std.proofs.Math.Bool.{and_assoc}
use Rattle.std.proofs.lemmas.Bool.{eqb-true}
use Rattle.pump_frame.specs.Frames.{greeting}

prefix_and_rest : (low bytes rest : List ℕ) → bytes_eq bytes (low ++ rest) ≡ (bytes_eq (take (length low) bytes) low && bytes_eq (drop (length low) bytes) rest)
prefix_and_rest [] bytes rest = refl
prefix_and_rest (a ∷ low) [] rest = refl
prefix_and_rest (a ∷ low) (b ∷ bytes) rest = ap (λ t. nat_eq b a && t) (prefix_and_rest low bytes rest) ∙ sym (and_assoc (nat_eq b a) (bytes_eq (take (length low) bytes) low) (bytes_eq (drop (length low) bytes) rest))

-- other bytes come first
pub begins_otherwise : (bytes low high : List ℕ) → bytes_eq (take (length low) bytes) low ≡ false → false ≡ bytes_eq bytes (greeting low high)
begins_otherwise bytes low high other =
    sym (prefix_and_rest low bytes (58 ∷ high) ∙ ap (λ t. t && bytes_eq (drop (length low) bytes) (58 ∷ high)) other)

-- the low name comes first, and then this byte and this name
pub begins_so : (bytes low high rest name : List ℕ) (colon : ℕ) → bytes_eq (take (length low) bytes) low ≡ true → rest ≡ drop (length low) bytes → rest ≡ colon ∷ name → (nat_eq colon 58 && bytes_eq name high) ≡ bytes_eq bytes (greeting low high)
begins_so bytes low high rest name colon begins is_rest parts =
    sym (
    prefix_and_rest low bytes (58 ∷ high)
    ∙ ap (λ t. t && bytes_eq (drop (length low) bytes) (58 ∷ high)) begins
    ∙ ap (λ t. bytes_eq t (58 ∷ high)) (sym is_rest ∙ parts)
    )

otherwise_neither : (b c : Bool) → (b ≡ true → ⊥) → b ≡ (b && c)
otherwise_neither true c differs = absurd (differs refl)
otherwise_neither false c differs = refl

-- another byte is no colon, whatever follows
pub no_colon : (colon : ℕ) (c : Bool) → (colon ≡ 58 → ⊥) → nat_eq colon 58 ≡ (nat_eq colon 58 && c)
no_colon colon c differs = otherwise_neither (nat_eq colon 58) c (λ e. differs (eqb-true colon 58 e))
