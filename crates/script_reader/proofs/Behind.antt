-- Lines that are put field by field.
use Rattle.std.proofs.Common.{◌≡◌, ℕ, List, [], ◌∷◌, ◌++◌, sym, ap, ◌∙◌, append_assoc}
use Rattle.std.proofs.lemmas.Grind.{flat_map-append}
use Rattle.std.proofs.lemmas.List.{append-nil}
use Rattle.script_reader.specs.Grammar.{spaced}
use Rattle.script_reader.specs.Transcript.{line_with_end}
use Rattle.script_reader.specs.Typed.{behind, IsBehind}

pub spaced_behind : (first : List ℕ) (fields : List (List ℕ)) → spaced (first ∷ fields) ≡ first ++ behind fields
spaced_behind first [] = sym (append-nil first)
spaced_behind first (field ∷ fields) = ap (λ r. first ++ 32 ∷ r) (spaced_behind field fields)

-- a word alone
pub word_put : (old new word : List ℕ) → new ≡ old ++ word → IsBehind old new word []
word_put old new word put = record { items = put ∙ sym (append-nil (old ++ word)) }

-- more fields behind a word and fields
pub fields_put : (old middle new word : List ℕ) (fields more : List (List ℕ)) → IsBehind old middle word fields → new ≡ middle ++ behind more → IsBehind old new word (fields ++ more)
fields_put old middle new word fields more prefix put = record {
  items = put
      ∙ ap (λ z. z ++ behind more) prefix.items
      ∙ append_assoc (old ++ word) (behind fields) (behind more)
      ∙ ap (λ z. (old ++ word) ++ z) (sym (flat_map-append (λ field. 32 ∷ field) fields more));
}

-- one field more
pub field_put : (old middle new word : List ℕ) (fields : List (List ℕ)) (field : List ℕ) → IsBehind old middle word fields → new ≡ middle ++ 32 ∷ field → IsBehind old new word (fields ++ field ∷ [])
field_put old middle new word fields field prefix put =
    fields_put old middle new word fields (field ∷ []) prefix (put ∙ ap (λ z. middle ++ 32 ∷ z) (sym (append-nil field)))

-- the line end
pub end_put : (old middle new word : List ℕ) (fields : List (List ℕ)) → IsBehind old middle word fields → new ≡ middle ++ 10 ∷ [] → new ≡ old ++ line_with_end (word ∷ fields)
end_put old middle new word fields prefix put =
    put
    ∙ ap (λ z. z ++ 10 ∷ []) (prefix.items ∙ append_assoc old word (behind fields) ∙ ap (λ z. old ++ z) (sym (spaced_behind word fields)))
    ∙ append_assoc old (spaced (word ∷ fields)) (10 ∷ [])
