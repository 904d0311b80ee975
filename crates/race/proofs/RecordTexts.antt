-- The comments of the times, one after another.
use Rattle.std.proofs.Common.{◌≡◌, ℕ, ◌+◌, suc, List, [], ◌∷◌, ◌++◌, codes, sym, ap, ◌∙◌, append-nil, append_assoc, arith}
use Rattle.race.specs.Race.{number_line, time_lines}
use Rattle.race.specs.Turns.{turn, turns}

lines_more : (ts : List ℕ) (t : ℕ) → time_lines ts ++ number_line (codes "time") t ≡ time_lines (ts ++ t ∷ [])
lines_more [] t = sym (append-nil (number_line (codes "time") t))
lines_more (x ∷ ts) t = append_assoc (number_line (codes "time") x) (time_lines ts) (number_line (codes "time") t) ∙ ap (λ (z : List ℕ). number_line (codes "time") x ++ z) (lines_more ts t)

-- the comment of the next time in turn
pub turn_more : (times : List ℕ) (n t : ℕ) → t ≡ turn times n → time_lines (turns times n) ++ number_line (codes "time") t ≡ time_lines (turns times (n + 1))
turn_more times n t e =
    let one : suc n ≡ n + 1 = omega arith in
    lines_more (turns times n) t ∙ ap (λ (x : ℕ). time_lines (turns times n ++ x ∷ [])) e ∙ ap (λ (k : ℕ). time_lines (turns times k)) one
