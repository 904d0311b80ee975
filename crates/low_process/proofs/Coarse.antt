-- A history that is cut into exchanges by a row is cut into the same by the row made coarse.
use Rattle.std.proofs.Common.{◌≡◌, ℕ, Bool, true, false, List, [], ◌∷◌, refl, ap, ◌∙◌, subst}
use Rattle.std.specs.List.{AllByRecursion}
use Rattle.pump_frame.specs.declared.row.SessionRow.{SessionRow}
use Rattle.pump_core.specs.History.{Arrival, Nothing, Came, Bad, Gone, Look, Opening, Life, History}
use Rattle.pump_core.specs.Exchanges.{Waiting, Over, Part, Holding, Release, Empty, Leaving, Answer, Repeated, Offering, Dropped, Delivery, Loss, is_repeat, is_next, count_after, greeted_by, greeted_in, greeted_after, IsAnswered, IsFrame, IsStore, IsPart, AreParts, IsCut}
use Rattle.pump_core.specs.Standing.{State, HasCut, StandsAt, phase_after}
use Rattle.low_process.specs.Looks.{StandsFor, state_of, made_coarse}
use Rattle.low_process.specs.declared.process.LowProcess.{LowProcess}

module _ (row : SessionRow) where
  abbrev made : SessionRow
  made = record row { coarse = true }

  greets : (a : Arrival) (g : Bool) → greeted_by row a g ≡ greeted_by made a g
  greets Nothing g = refl
  greets Bad g = refl
  greets Gone g = refl
  greets (Came f) g = refl

  answered : (n : ℕ) (g : Bool) (a : Arrival) → IsAnswered row n g a → IsAnswered made n g a
  answered n g Nothing h = absurd h
  answered n g Gone h = absurd h
  answered n g Bad h = tt
  answered n g (Came f) h = h

  repeated : (n : ℕ) (g : Bool) (a : Arrival) → IsFrame (is_repeat row n g) a → IsFrame (is_repeat made n g) a
  repeated n g Nothing h = absurd h
  repeated n g Gone h = absurd h
  repeated n g Bad h = absurd h
  repeated n g (Came f) h = h

  comes_next : (n : ℕ) (g : Bool) (a : Arrival) → IsFrame (is_next row n g) a → IsFrame (is_next made n g) a
  comes_next n g Nothing h = absurd h
  comes_next n g Gone h = absurd h
  comes_next n g Bad h = absurd h
  comes_next n g (Came f) h = h

  store : (n : ℕ) (g is_fault : Bool) (x : Look) → IsStore row n g is_fault x → IsStore made n g is_fault x
  store n g is_fault x s = record { next = comes_next n g x.arrival s.next; outcome = s.outcome; quiet = s.quiet }

  part : (n : ℕ) (g : Bool) (p : Part) → IsPart row n g p → IsPart made n g p
  part n g (Holding newest older) h = h
  part n g (Release before last) h = h
  part n g (Empty x) h = h
  part n g (Leaving x) h = h
  part n g (Answer x) h = (answered n g x.arrival h.0, h.1)
  part n g (Repeated first (Waiting quiet)) h = (repeated n g first.arrival h.0, h.1, h.2)
  part n g (Repeated first (Over quiet last)) h = (repeated n g first.arrival h.0, h.1, h.2)
  part n g (Offering first full) h = (store n g false first h.0, h.1)
  part n g (Dropped first full gone) h = (store n g false first h.0, h.1, h.2, h.3)
  part n g (Delivery first full passing (Waiting quiet)) h = (store n g false first h.0, h.1, h.2, h.3)
  part n g (Delivery first full passing (Over quiet last)) h = (store n g false first h.0, h.1, h.2, h.3)
  part n g (Loss first rest) h = (store n g true first h.0, h.1)

  greeted : (parts : List Part) → greeted_after row parts ≡ greeted_after made parts
  greeted [] = refl
  greeted (Holding newest older ∷ before) = ap (λ (b : Bool). greeted_in made (Holding newest older) b) (greeted before)
  greeted (Release looks last ∷ before) = ap (λ (b : Bool). greeted_in made (Release looks last) b) (greeted before)
  greeted (Empty x ∷ before) = greeted before
  greeted (Leaving x ∷ before) = refl
  greeted (Answer x ∷ before) = greets x.arrival _ ∙ ap (λ (b : Bool). greeted_by made x.arrival b) (greeted before)
  greeted (Repeated first wait ∷ before) = ap (λ (b : Bool). greeted_in made (Repeated first wait) b) (greeted before)
  greeted (Offering first full ∷ before) = greeted before
  greeted (Dropped first full gone ∷ before) = refl
  greeted (Delivery first full passing wait ∷ before) = ap (λ (b : Bool). greeted_in made (Delivery first full passing wait) b) (greeted before)
  greeted (Loss first rest ∷ before) = greeted before

  are_parts : (o : Opening) (parts : List Part) → AreParts row o parts → AreParts made o parts
  are_parts o [] h = tt
  are_parts o (p ∷ before) h = (
    record {
      part = subst (λ (g : Bool). IsPart made (count_after o before) g p) (greeted before) (part (count_after o before) (greeted_after row before) p h.0.part);
      release = h.0.release;
    },
    are_parts o before h.1,
    h.2,
  )

  cut : (life : Life) (parts : List Part) → IsCut row life parts → IsCut made life parts
  cut life parts c = record { are_parts = are_parts life.opening parts c.are_parts; looks = c.looks }

  phase : (o : Opening) (parts : List Part) → phase_after row o parts ≡ phase_after made o parts
  phase o [] = refl
  phase o (Holding newest older ∷ before) = refl
  phase o (Release looks last ∷ before) = refl
  phase o (Empty x ∷ before) = refl
  phase o (Leaving x ∷ before) = refl
  phase o (Answer x ∷ before) = refl
  phase o (Repeated first wait ∷ before) = refl
  phase o (Offering first full ∷ before) = refl
  phase o (Dropped first full gone ∷ before) = refl
  phase o (Delivery first full passing wait ∷ before) = refl
  phase o (Loss first rest ∷ before) = refl

  earlier : (lives : List Life) → AllByRecursion (HasCut row) lives → AllByRecursion (HasCut made) lives
  earlier [] h = tt
  earlier (life ∷ lives) h = ((h.0.0, cut life h.0.0 h.0.1), earlier lives h.1)

  stands_at : (s : State) (last : ℕ) (h : History) → StandsAt row s last h → StandsAt made s last h
  stands_at s last h st = record {
    earlier = earlier h.earlier st.earlier;
    parts = st.parts;
    cut = cut h.life st.parts st.cut;
    state = st.state ∙ (λ i. record { next = count_after h.life.opening st.parts; greeted = greeted st.parts i; phase = phase h.life.opening st.parts i });
    newest = st.newest;
    ordered = st.ordered;
  }

pub stands : (p : LowProcess) (h : History) → StandsFor p h → StandsFor (made_coarse p) h
stands p h s = record { asking = s.asking; stands = stands_at p.row (state_of p) p.last h s.stands }
