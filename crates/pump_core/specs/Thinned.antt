-- A history from which looks are left out that change no reply: those that find nothing, those that
-- wait for a due moment, and those that find the passage full.
use Rattle.std.specs.Prelude.{◌≡◌, false, List, [], ◌∷◌}
use Rattle.pump_frame.specs.declared.row.SessionRow.{SessionRow}
use Rattle.pump_core.specs.History.{Look, Life, History}
use Rattle.pump_core.specs.Exchanges.{is_gone, Wait, Waiting, Over, Part, Holding, Release, Empty, Repeated, Offering}
use Rattle.pump_core.specs.Exchanges.{Dropped, Delivery, looks_of, IsCut}

-- the second list is the first with looks left out
pub data Fewer : List Look → List Look → Type 0 where
  same : {xs : List Look} → Fewer xs xs
  without : {x : Look} {xs ys : List Look} → Fewer xs ys → Fewer (x ∷ xs) ys
  with : {x : Look} {xs ys : List Look} → Fewer xs ys → Fewer (x ∷ xs) (x ∷ ys)

-- the second list is the first with looks left out whose connection was not gone
pub data FewerHeld : List Look → List Look → Type 0 where
  all_held : {xs : List Look} → FewerHeld xs xs
  without_held : {x : Look} {xs ys : List Look} → is_gone x.arrival ≡ false → FewerHeld xs ys → FewerHeld (x ∷ xs) ys
  with_held : {x : Look} {xs ys : List Look} → FewerHeld xs ys → FewerHeld (x ∷ xs) (x ∷ ys)

-- the second wait is the first with looks before its end left out
pub data ShorterWait : Wait → Wait → Type 0 where
  waiting : {xs ys : List Look} → Fewer xs ys → ShorterWait (Waiting xs) (Waiting ys)
  over : {xs ys : List Look} {last : Look} → Fewer xs ys → ShorterWait (Over xs last) (Over ys last)

-- the second part is the first with waiting looks and Full looks left out
pub data ShorterPart : Part → Part → Type 0 where
  whole : {p : Part} → ShorterPart p p
  holding : {x y : Look} {xs ys : List Look} → FewerHeld (x ∷ xs) (y ∷ ys) → ShorterPart (Holding x xs) (Holding y ys)
  released : {xs ys : List Look} {last : Look} → FewerHeld xs ys → ShorterPart (Release xs last) (Release ys last)
  repeated : {first : Look} {w v : Wait} → ShorterWait w v → ShorterPart (Repeated first w) (Repeated first v)
  offering : {first : Look} {xs ys : List Look} → Fewer xs ys → ShorterPart (Offering first xs) (Offering first ys)
  dropped : {first gone : Look} {xs ys : List Look} → Fewer xs ys
      → ShorterPart (Dropped first xs gone) (Dropped first ys gone)
  delivery : {first passing : Look} {xs ys : List Look} {w v : Wait} → Fewer xs ys → ShorterWait w v
      → ShorterPart (Delivery first xs passing w) (Delivery first ys passing v)

-- the second list of parts is the first with such looks, and Empty looks, left out
pub data Shorter : List Part → List Part → Type 0 where
  none : Shorter [] []
  empty : {x : Look} {ps qs : List Part} → Shorter ps qs → Shorter (Empty x ∷ ps) qs
  part : {p q : Part} {ps qs : List Part} → ShorterPart p q → Shorter ps qs → Shorter (p ∷ ps) (q ∷ qs)

-- the second life is the first with such looks left out
pub record ThinnedLife (row : SessionRow) (a b : Life) : Type 0 where
  pub opening : a.opening ≡ b.opening
  pub parts : List Part
  pub left : List Part
  pub cut : IsCut row a parts
  pub shorter : Shorter parts left
  pub looks : b.looks ≡ looks_of left

-- the same of lives, one by one
abbrev pub ThinnedLives : SessionRow → List Life → List Life → Type 0
ThinnedLives row [] [] = Unit {0}
ThinnedLives row (a ∷ as') (b ∷ bs) = ThinnedLife row a b × ThinnedLives row as' bs
ThinnedLives row [] (b ∷ bs) = ⊥
ThinnedLives row (a ∷ as') [] = ⊥

-- the second history is the first with Empty looks, waiting looks and Full looks left out
abbrev pub IsThinned : SessionRow → History → History → Type 0
IsThinned row h k = ThinnedLives row (h.life ∷ h.earlier) (k.life ∷ k.earlier)
