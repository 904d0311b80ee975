-- Two histories that agree in all but the counts that were told.
use Rattle.std.specs.Prelude.{◌≡◌, List, [], ◌∷◌}
use Rattle.pump_core.specs.declared.feedback.Feedback.{Feedback}
use Rattle.pump_core.specs.declared.feedback.Feedback.TheVariants.{Quiet, Full, Passed, Released, Repeat}
use Rattle.pump_core.specs.History.{Look, Life, History}

-- the feedback with its count forgotten
abbrev pub uncounted : Feedback → Feedback
uncounted (Passed s) = Passed (record { count = 0; average = s.average })
uncounted (Repeat s) = Repeat (record { count = 0; average = s.average })
uncounted Quiet = Quiet
uncounted Full = Full
uncounted Released = Released

-- two looks agree in all but the count that was told
pub record SameLook (x y : Look) : Type 0 where
  pub moment : x.moment ≡ y.moment
  pub word : x.word ≡ y.word
  pub arrival : x.arrival ≡ y.arrival
  pub outcome : x.is_fault ≡ y.is_fault
  pub feedback : uncounted x.feedback ≡ uncounted y.feedback

-- the looks agree one by one
abbrev pub SameLooks : List Look → List Look → Type 0
SameLooks [] [] = Unit {0}
SameLooks (x ∷ xs) (y ∷ ys) = SameLook x y × SameLooks xs ys
SameLooks [] (y ∷ ys) = ⊥
SameLooks (x ∷ xs) [] = ⊥

-- two lives agree in their openings and looks
pub record SameLife (a b : Life) : Type 0 where
  pub opening : a.opening ≡ b.opening
  pub looks : SameLooks a.looks b.looks

-- the lives agree one by one
abbrev pub SameLives : List Life → List Life → Type 0
SameLives [] [] = Unit {0}
SameLives (a ∷ as') (b ∷ bs) = SameLife a b × SameLives as' bs
SameLives [] (b ∷ bs) = ⊥
SameLives (a ∷ as') [] = ⊥

-- they agree in openings, moments, words, arrivals and outcomes, and in feedback up to its counts
abbrev pub SameUpToCounts : History → History → Type 0
SameUpToCounts h k = SameLives (h.life ∷ h.earlier) (k.life ∷ k.earlier)
