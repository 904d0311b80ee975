-- A word that begins with no dash is the next value of a command.
use Rattle.std.proofs.Common.{◌≡◌, ℕ, ◌==◌, ◌&&◌, true, false, List, [], ◌∷◌, None, fold, refl, ap, ap₂}
use Rattle.clap.specs.Walk.{Rule, Text, Held, Walk, Step, value, idle, word_met, after_step, to_positional, arg_by_index, walked}
use Rattle.clap.specs.Simple.{Shape}
use Rattle.clap.specs.Takes.{word_passes, step_passes, walk_passes}

-- before the value at this position
abbrev pub before : Held → ℕ → Walk
before held position = record { held = held; waiting = idle; position = position; is_trailing = false; stopped = None }

abbrev pub behind : List Rule → Held → ℕ → Text → Walk
behind rules held position word = to_positional rules (arg_by_index rules position) word (before held position) held

module _ (held : Held) (position x : ℕ) (xs : Text) (undashed : (x == 45) ≡ false) where
  is_value : (rules : List Rule) → word_met rules [] false idle position (x ∷ xs) held ≡ (held, value)
  is_value rules = simp undashed

  passes : (shape : Shape) → word_passes shape [] false idle (x ∷ xs) held ≡ true
  passes shape = simp undashed

  goes : (rules : List Rule) → walked rules [] (before held position) (x ∷ xs) ≡ behind rules held position (x ∷ xs)
  unfolding walked
  goes rules = ap (λ (met : Held × Step). after_step rules (x ∷ xs) (before held position) met.0 met.1) (is_value rules)

  pub walks_on : (rules : List Rule) (rest : List Text)
      → fold (walked rules []) (before held position) ((x ∷ xs) ∷ rest) ≡ fold (walked rules []) (behind rules held position (x ∷ xs)) rest
  walks_on rules rest = ap (λ w. fold (walked rules []) w rest) (goes rules)

  turn : (shape : Shape) → (word_passes shape [] false idle (x ∷ xs) held && (let met = word_met shape.rules [] false idle position (x ∷ xs) held in step_passes shape position met.0 met.1))
      ≡ step_passes shape position held value
  turn shape = ap₂ (λ b (met : Held × Step). b && step_passes shape position met.0 met.1) (passes shape) (is_value shape.rules)

  pub passes_on : (shape : Shape) (rest : List Text) → walk_passes shape [] (before held position) ((x ∷ xs) ∷ rest)
      ≡ (step_passes shape position held value && walk_passes shape [] (behind shape.rules held position (x ∷ xs)) rest)
  unfolding walk_passes
  passes_on shape rest = ap₂ (λ b w. b && walk_passes shape [] w rest) (turn shape) (goes shape.rules)

pub passed : (shape : Shape) (end : Walk) → walk_passes shape [] end [] ≡ true
unfolding walk_passes
passed shape end = refl
