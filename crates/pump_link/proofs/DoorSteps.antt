-- What a door in memory did, after one step more.
use Rattle.std.proofs.Common.{◌≡◌, List, [], ◌∷◌, ◌++◌, Option, None, Some, refl, sym, ap, subst, ◌∙◌, append-nil}
use Rattle.pump_link.specs.Doors.{DoorStep, CameLink, NoLink, FailedAccept, BackLink, answers_of, last_back, Answered, DidSteps, ComesFrom, answered, accepted}
use Rattle.pump_link.specs.Tells.{Draws, Grows}
use Rattle.pump_link.specs.declared.door.Accepted.{Accepted}

answers_snoc : {L : Type 0} (log : List (DoorStep L)) (x : DoorStep L) → answers_of (log ++ x ∷ []) ≡ answers_of log ++ answers_of (x ∷ [])
answers_snoc [] x = refl
answers_snoc (CameLink link ∷ rest) x = ap (λ xs. CameLink link ∷ xs) (answers_snoc rest x)
answers_snoc (NoLink ∷ rest) x = ap (λ xs. NoLink ∷ xs) (answers_snoc rest x)
answers_snoc (FailedAccept ∷ rest) x = ap (λ xs. FailedAccept ∷ xs) (answers_snoc rest x)
answers_snoc (BackLink link ∷ rest) x = answers_snoc rest x

last_snoc : {L : Type 0} (before : Option L) (log : List (DoorStep L)) (x : DoorStep L) → last_back before (log ++ x ∷ []) ≡ last_back (last_back before log) (x ∷ [])
last_snoc before [] x = refl
last_snoc before (CameLink link ∷ rest) x = last_snoc before rest x
last_snoc before (NoLink ∷ rest) x = last_snoc before rest x
last_snoc before (FailedAccept ∷ rest) x = last_snoc before rest x
last_snoc before (BackLink link ∷ rest) x = last_snoc (Some link) rest x

answered_snoc : {L : Type 0} (first : Option L) (log : List (DoorStep L)) (waiting : Option L) (x : DoorStep L) → Answered first log waiting → x ≡ answered (accepted waiting) → Answered first (log ++ x ∷ []) None
answered_snoc None [] waiting x h e = (e ∙ ap (λ w. answered (accepted w)) h, refl)
answered_snoc (Some link) [] waiting x h e = (e ∙ ap (λ w. answered (accepted w)) h, refl)
answered_snoc None (y ∷ rest) waiting x h e = (h.0, answered_snoc None rest waiting x h.1 e)
answered_snoc (Some link) (y ∷ rest) waiting x h e = (h.0, answered_snoc None rest waiting x h.1 e)

accepts_at : {L : Type 0} (waiting back : Option L) (log : List (DoorStep L)) → DidSteps waiting back log → DidSteps None back (log ++ answered (accepted waiting) ∷ [])
accepts_at None back log t = record {
  answered = (t.answered.0, subst (λ xs. Answered t.answered.0 xs None) (sym (answers_snoc log NoLink)) (answered_snoc t.answered.0 (answers_of log) None NoLink t.answered.1 refl));
  last = last_snoc None log NoLink ∙ t.last;
}
accepts_at (Some link) back log t = record {
  answered = (t.answered.0, subst (λ xs. Answered t.answered.0 xs None) (sym (answers_snoc log (CameLink link))) (answered_snoc t.answered.0 (answers_of log) (Some link) (CameLink link) t.answered.1 refl));
  last = last_snoc None log (CameLink link) ∙ t.last;
}

pub accepts_more : {L : Type 0} (old new back back' : Option L) (answer : Accepted L) → new ≡ None → back' ≡ back → answer ≡ accepted old → Grows (DidSteps old back) (DidSteps new back') (answered answer ∷ [])
accepts_more old new back back' answer gone same e = record { told = λ log t. rw (gone, same, e) (accepts_at old back log t) }

comes_at : {L : Type 0} (waiting : Option L) (rest : List (DoorStep L)) → ComesFrom None rest → ComesFrom waiting (answered (accepted waiting) ∷ rest)
comes_at None rest t = (refl, t)
comes_at (Some link) rest t = (refl, t)

pub comes_more : {L : Type 0} (old new : Option L) (answer : Accepted L) → new ≡ None → answer ≡ accepted old → Draws (ComesFrom old) (ComesFrom new) (answered answer ∷ [])
comes_more old new answer gone e = record { told = λ rest t. subst (λ a. ComesFrom old (answered a ∷ rest)) (sym e) (comes_at old rest (subst (λ w. ComesFrom w rest) gone t)) }

pub takes_back : {L : Type 0} (old new back : Option L) (link : L) → new ≡ old → Grows (DidSteps old back) (DidSteps new (Some link)) (BackLink link ∷ [])
takes_back old new back link same = record {
  told = λ log t. record {
    answered = (t.answered.0, subst (λ xs. Answered t.answered.0 xs new) (sym (answers_snoc log (BackLink link) ∙ append-nil (answers_of log))) (subst (λ w. Answered t.answered.0 (answers_of log) w) (sym same) t.answered.1));
    last = last_snoc None log (BackLink link);
  };
}
