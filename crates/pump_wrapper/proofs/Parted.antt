-- A piece that is parted between what fills a room and what is held behind it.
use Rattle.std.proofs.Common.{◌≡◌, ℕ, List, ◌++◌, Option, take, drop, sym, ap, ◌∙◌, append_assoc}
use Rattle.std.proofs.lemmas.List.{take-append-drop}
use Rattle.std.specs.Io.KnownBytes.{Appends}
use Rattle.std.proofs.KnownBytes.{Appends-trans}
use Rattle.pump_link.specs.Causes.{AppendsPrefix}
use Rattle.pump_wrapper.specs.HeldBack.{Held}

-- the two parts of a piece are the piece
pub parted : (n : ℕ) (prefix rest piece : List ℕ) → prefix ≡ take n piece → rest ≡ drop n piece → prefix ++ rest ≡ piece
parted n prefix rest piece first second = ap (λ (bs : List ℕ). bs ++ rest) first ∙ ap (λ (bs : List ℕ). take n piece ++ bs) second ∙ take-append-drop n piece

-- a prefix of what was held and of a part of the piece is one of all of it
pub prefix_of_more : (old new : Option (List ℕ)) (held prefix rest piece : List ℕ) → prefix ++ rest ≡ piece
    → AppendsPrefix old new (held ++ prefix) → AppendsPrefix old new (held ++ piece)
prefix_of_more old new held prefix rest piece is (wrote, left, parts, appends) =
    (wrote, left ++ rest, ap (λ (bs : List ℕ). held ++ bs) (sym is) ∙ sym (append_assoc held prefix rest) ∙ ap (λ (bs : List ℕ). bs ++ rest) parts ∙ append_assoc wrote left rest, appends)

-- where the room was filled and written, just the rest of the piece is held
pub held_on : (before old new : Option (List ℕ)) (held prefix rest piece bytes : List ℕ) → prefix ++ rest ≡ piece
    → Held before old held bytes → Appends old new (held ++ prefix) → Held before new rest (bytes ++ piece)
held_on before old new held prefix rest piece bytes is (wrote, appends, bytes_are) more = (
  wrote ++ (held ++ prefix),
  Appends-trans before old new wrote (held ++ prefix) appends more,
  ap (λ (bs : List ℕ). bs ++ piece) bytes_are
      ∙ append_assoc wrote held piece
      ∙ ap (λ (bs : List ℕ). wrote ++ bs) (ap (λ (bs : List ℕ). held ++ bs) (sym is) ∙ sym (append_assoc held prefix rest))
      ∙ sym (append_assoc wrote (held ++ prefix) rest),
)
