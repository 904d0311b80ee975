-- What the high worker does at its end of the passage, look by look.
use Rattle.std.proofs.Common.{◌≡◌, ℕ, ◌+◌, ◌≤◌, Bool, true, false, List, [], ◌∷◌, ◌++◌, length, Option, Some, None, Ok, refl, sym, ap, ◌∙◌, subst, arith, append_assoc, append-nil, length-append}
use Rattle.std.specs.Prelude.{is_some, is_none, not, ◌&&◌, cond, option_to_list}
use Rattle.std.proofs.lemmas.Grind.{flat_map-append}
use Rattle.std.proofs.lemmas.List.Sums.{sum_by-append}
use Rattle.std.proofs.lemmas.List.{map-append}
use Rattle.pump_frame.specs.declared.frame.Frame.{Frame}
use Rattle.pump_frame.specs.declared.frame.Item.{Item}
use Rattle.pump_frame.specs.declared.row.SessionRow.{SessionRow}
use Rattle.pump_core.specs.Passage.{Shape, Low, High, takes, sought}
use Rattle.high_process.specs.declared.process.HighProcess.{HighProcess}
use Rattle.high_process.specs.declared.values.HighFault.{HighFault}
use Rattle.high_process.specs.declared.values.HighFault.TheVariants as faults
use Rattle.high_process.specs.declared.values.HighLook.{HighLook}
use Rattle.high_process.specs.declared.values.Task.{Task}
use Rattle.high_process.specs.declared.values.Task.TheVariants.{Refuse, Remove, Keep}
use Rattle.high_process.specs.Past.{ProcessPast, begun, published_in, taken_up, wants}
use Rattle.high_process.specs.States.{row_of, hand_of, task_at, attaches_at}
use Rattle.pump_core.specs.Sendings.{expected}
use Rattle.high_process.specs.Storing.{IsAfter}
use Rattle.high_process.specs.Ends.{TakesUp, told_time, FitsEnd, StandsFitting}
use Rattle.high_process.specs.Looks.{StandsFor, Looked}
use Rattle.relay_threads.specs.HighRounds.{Round, past_after, past_by, served}
use Rattle.relay_threads.specs.HighStays.{Stay, stayed, stay_after}
use Rattle.relay_threads.specs.StoredMessages.{payloads}
use Rattle.relay_threads.specs.HighEnds.{answer_if, answer_by, answer_made, answers_in, answers_at_stay, answers_over, given, misses, HasTaken, TakesBy, LookTakes, TakesSo, StayTakes, StaysTake}
use Rattle.relay_threads.proofs.HighTurning.{same_task, made_ok, made_err}

-- ---- lists of answers ----

pub given_more : (xs ys : List (Option (List ℕ))) → given (xs ++ ys) ≡ given xs ++ given ys
given_more xs ys = flat_map-append option_to_list xs ys

misses_more : (xs ys : List (Option (List ℕ))) → misses (xs ++ ys) ≡ misses xs + misses ys
misses_more xs ys = sum_by-append (λ (x : Option (List ℕ)). cond (is_none x) 1 0) xs ys

payloads_push : (xs : List Item) (x : Item) → payloads (xs ++ x ∷ []) ≡ payloads xs ++ x.payload ∷ []
payloads_push xs x = map-append (λ (y : Item). y.payload) xs (x ∷ [])

-- ---- one look ----

told_taken : (o : Option ℕ) (h : High) → (told_time o h).taken ≡ h.taken
told_taken None h = refl
told_taken (Some x) h = refl

told_tries : (o : Option ℕ) (h : High) → (told_time o h).tries ≡ h.tries
told_tries None h = refl
told_tries (Some x) h = refl

told_times : (o : Option ℕ) (h : High) → (told_time o h).times ≡ h.times ++ option_to_list o
told_times None h = sym (append-nil h.times)
told_times (Some x) h = refl

begun_times : (task : Task) (t : ProcessPast) (m : ℕ) → (begun task t m).times ≡ t.times ++ option_to_list (published_in task t m)
begun_times Remove t m = refl
begun_times Keep t m = sym (append-nil t.times)
begun_times (Refuse e) t m = sym (append-nil t.times)

-- a look asks with an empty hand, so that what is in it after a look that found nothing is nothing
pub wanted_none : (hand : Option Item) (below : Bool) → not (is_some hand) && below ≡ true → hand ≡ None
wanted_none None below e = refl
wanted_none (Some x) below e = absurd (cc)

module _ (s : Shape) (on_one_thread : Bool) (after : Low → High → Type 0) (l : Low) (h : High) (t u v : ProcessPast) (o : Option ℕ) (times : u.times ≡ t.times ++ option_to_list o) (same : v.times ≡ u.times) where
  asked : (b : Bool) (n : ℕ) (got : Option Item) → wants u ≡ b → TakesUp s on_one_thread after l (told_time o h) b n got → HasTaken after l h t v (answer_if b (taken_up u got).hand)
  asked true n (Some x) is (sees, stands) = record {
    high = takes (told_time o h) x n;
    stands = stands;
    taken = payloads_push (told_time o h).taken x ∙ ap (λ xs. payloads xs ++ x.payload ∷ []) (told_taken o h);
    tries = omega (arith, ap length (told_tries o h));
    published = option_to_list o;
    times = told_times o h;
    past_times = same ∙ times;
  }
  asked true n None is (sees, stands) =
      let empty : u.hand ≡ None = wanted_none u.hand _ is in
      subst (λ (hand : Option Item). HasTaken after l h t v (answer_if true hand)) (sym empty) (record {
        high = sought (told_time o h) (length (told_time o h).taken);
        stands = stands;
        taken = ap payloads (told_taken o h) ∙ sym (append-nil (payloads h.taken));
        tries = omega (arith, length-append (told_time o h).tries ((length (told_time o h).taken, length (told_time o h).taken) ∷ []), ap length (told_tries o h));
        published = option_to_list o;
        times = told_times o h;
        past_times = same ∙ times;
      })
  asked false n got is (none, stands) = record {
    high = told_time o h;
    stands = stands;
    taken = ap payloads (told_taken o h) ∙ sym (append-nil (payloads h.taken));
    tries = omega (arith, ap length (told_tries o h));
    published = option_to_list o;
    times = told_times o h;
    past_times = same ∙ times;
  }

look_has : (s : Shape) (on_one_thread : Bool) (after : Low → High → Type 0) (l : Low) (h : High) (p q : HighProcess) (t : ProcessPast) (m : ℕ) (task : Task) (attaches : Bool) (look : HighLook)
    → Looked s on_one_thread after l h p q t m task attaches look
    → HasTaken after l h t (past_by p.row t m (hand_of q) (Ok look) task attaches) (answer_by t m (hand_of q) (Ok look) task)
look_has s on_one_thread after l h p q t m task attaches look seen =
    let u : ProcessPast = begun task t m in
    subst (λ (hand : Option Item). HasTaken after l h t (past_by p.row t m (hand_of q) (Ok look) task attaches) (answer_if (wants u) hand)) (sym seen.stands.holds.hand)
    (asked s on_one_thread after l h t u (past_by p.row t m (hand_of q) (Ok look) task attaches) (published_in task t m) (begun_times task t m) refl (wants u) u.removed seen.got refl seen.ends)

pub look_takes : {E : Type 0} (stands : E → Low → High → Type 0) (old new : E) (s : Shape) (on_one_thread : Bool) (p q : HighProcess) (m : ℕ) (frame : Option Frame) (look : HighLook)
    → ((l : Low) (h : High) (t : ProcessPast) → StandsFitting (stands old) p l h → StandsFor p t → Looked s on_one_thread (StandsFitting (stands new) q) l h p q t m (task_at p frame) (attaches_at p frame) look)
    → LookTakes stands old new p q m (Some (made_ok q frame look))
look_takes stands old new s on_one_thread p q m frame look seen = λ l h t fits st.
    subst (λ task. HasTaken (StandsFitting (stands new) q) l h t (past_by p.row t m (hand_of q) (Ok look) task (attaches_at p frame)) (answer_by t m (hand_of q) (Ok look) task)) (same_task p t frame st)
    (look_has s on_one_thread (StandsFitting (stands new) q) l h p q t m (task_at p frame) (attaches_at p frame) look (seen l h t fits st))

-- nothing was done
has_nothing : (now : Low → High → Type 0) (l : Low) (h : High) (t : ProcessPast) → now l h → HasTaken now l h t t []
has_nothing now l h t stands = record {
  high = h;
  stands = stands;
  taken = sym (append-nil (payloads h.taken));
  tries = omega arith;
  published = [];
  times = sym (append-nil h.times);
  past_times = sym (append-nil t.times);
}

-- a refused frame changes nothing, and a fault of the disk leaves the end, and what the process has told it
fits_after : (p q : HighProcess) (m : ℕ) (e : HighFault) (h : High) → IsAfter e p q m → FitsEnd p h → FitsEnd q h
fits_after p q m (faults.Device n) h after fits = record {
  count = fits.count ∙ sym after.published;
  floor = subst (λ (c : ℕ × Option Item). h.floor ≤ expected c.0 c.1) (λ i. (sym after.removed i, sym after.hand i)) fits.floor;
}
fits_after p q m (faults.Ahead n x) h after fits = subst (λ w. FitsEnd w h) (sym after) fits
fits_after p q m (faults.Behind n x) h after fits = subst (λ w. FitsEnd w h) (sym after) fits

pub fault_takes : {E : Type 0} (stands : E → Low → High → Type 0) (old new : E) (p q : HighProcess) (m : ℕ) (frame : Option Frame) (e : HighFault) → new ≡ old → IsAfter e p q m
    → LookTakes stands old new p q m (Some (made_err q frame e))
fault_takes stands old new p q m frame e same after = λ l h t fits st.
    has_nothing (StandsFitting (stands new) q) l h t (subst (λ x. stands x l h) (sym same) fits.0, fits_after p q m e h after fits.1)

pub takes_nothing : {E : Type 0} (stands : E → Low → High → Type 0) (e : E) (p : HighProcess) → TakesBy stands e e p p (λ t. t) (λ t. [])
takes_nothing stands e p = λ l h t fits st. has_nothing (StandsFitting (stands e) p) l h t fits

-- ---- one after the other ----

module _ (mid now : Low → High → Type 0) (l : Low) (h : High) (t u v : ProcessPast) (xs ys : List (Option (List ℕ))) (one : HasTaken mid l h t u xs) (two : HasTaken now l one.high u v ys) where
  has_then : HasTaken now l h t v (xs ++ ys)
  has_then = record {
    high = two.high;
    stands = two.stands;
    taken = two.taken ∙ ap (λ zs. zs ++ given ys) one.taken ∙ append_assoc (payloads h.taken) (given xs) (given ys) ∙ ap (λ zs. payloads h.taken ++ zs) (sym (given_more xs ys));
    tries = omega (arith, one.tries, two.tries, misses_more xs ys);
    published = one.published ++ two.published;
    times = two.times ∙ ap (λ zs. zs ++ two.published) one.times ∙ append_assoc h.times one.published two.published;
    past_times = two.past_times ∙ ap (λ zs. zs ++ two.published) one.past_times ∙ append_assoc t.times one.published two.published;
  }

takes_then : {E : Type 0} (stands : E → Low → High → Type 0) (a b c : E) (p q r : HighProcess) (f g : ProcessPast → ProcessPast) (xs ys : ProcessPast → List (Option (List ℕ)))
    → ((t : ProcessPast) → StandsFor p t → StandsFor q (f t)) → TakesBy stands a b p q f xs → TakesBy stands b c q r g ys → TakesBy stands a c p r (λ t. g (f t)) (λ t. xs t ++ ys (f t))
takes_then stands a b c p q r f g xs ys so one two = λ l h t fits st.
    let first = one l h t fits st in
    has_then (StandsFitting (stands b) q) (StandsFitting (stands c) r) l h t (f t) (g (f t)) (xs t) (ys (f t)) first (two l first.high (f t) first.stands (so t st))

-- one round more
pub rounds_take : {E : Type 0} (stands : E → Low → High → Type 0) (a b c : E) (p q r : HighProcess) (round : Round) (rounds : List Round) → row_of q ≡ row_of p
    → ((t : ProcessPast) → StandsFor p t → StandsFor q (served (row_of p) t rounds)) → TakesSo stands a b p q rounds → LookTakes stands b c q r round.moment round.made → TakesSo stands a c p r (round ∷ rounds)
rounds_take stands a b c p q r round rounds row so was one =
    takes_then stands a b c p q r (λ t. served (row_of p) t rounds) (λ t. past_after (row_of p) t round.moment round.made) (λ t. answers_in (row_of p) t rounds) (λ t. answer_made (row_of p) t round.moment round.made) so was
    (subst (λ (w : SessionRow). TakesBy stands b c q r (λ t. past_after w t round.moment round.made) (λ t. answer_made w t round.moment round.made)) row one)

-- one stay more
pub stays_take : {E L : Type 0} (stands : E → Low → High → Type 0) (a b c : E) (p q r : HighProcess) (x : Stay L) (stays : List (Stay L)) → row_of q ≡ row_of p
    → ((t : ProcessPast) → StandsFor p t → StandsFor q (stayed (row_of p) t stays)) → StaysTake stands a b p q stays → StayTakes stands b c q r x → StaysTake stands a c p r (x ∷ stays)
stays_take stands a b c p q r x stays row so was one =
    takes_then stands a b c p q r (λ t. stayed (row_of p) t stays) (λ t. stay_after (row_of p) t x) (λ t. answers_over (row_of p) t stays) (λ t. answers_at_stay (row_of p) t x) so was
    (subst (λ (w : SessionRow). TakesBy stands b c q r (λ t. stay_after w t x) (λ t. answers_at_stay w t x)) row one)
