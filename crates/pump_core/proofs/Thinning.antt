-- Looks that are left out change no reply.
use Rattle.std.proofs.Common.{◌≡◌, ℕ, Bool, true, false, ◌||◌, if◌then◌else◌, List, [], ◌∷◌, ◌++◌, refl, sym, ap, ◌∙◌, subst, append-nil}
use Rattle.std.specs.List.{AllByRecursion}
use Rattle.pump_frame.specs.declared.row.SessionRow.{SessionRow}
use Rattle.pump_core.specs.History.{Look, Opening, Life}
use Rattle.pump_core.specs.Exchanges.{is_gone, any_gone, IsHeld, due, Wait, Part, is_finished, is_over, count_in, count_after, greeted_in, greeted_by_wait, greeted_after, is_left, is_left_by, is_release, IsQuiet, IsWait, IsFull, IsPart, AreParts}
use Rattle.pump_core.specs.Replies.{Sent, number_in, acknowledged, replies_in, replies_of, LifeReplies, LivesReplies}
use Rattle.pump_core.specs.Thinned.{Fewer, same, without, with, FewerHeld, all_held, without_held, with_held, ShorterWait, waiting, over, ShorterPart, whole, holding, released, repeated, offering, dropped, delivery, Shorter, none, empty, part, ThinnedLife, ThinnedLives}
use Rattle.pump_core.proofs.Runs.{one_list}

all_of_fewer : (P : Look → Type 0) {xs ys : List Look} → Fewer xs ys → AllByRecursion P xs → AllByRecursion P ys
all_of_fewer P same h = h
all_of_fewer P (without f) h = all_of_fewer P f h.1
all_of_fewer P (with f) h = (h.0, all_of_fewer P f h.1)

all_of_fewer_held : (P : Look → Type 0) {xs ys : List Look} → FewerHeld xs ys → AllByRecursion P xs → AllByRecursion P ys
all_of_fewer_held P all_held h = h
all_of_fewer_held P (without_held e f) h = all_of_fewer_held P f h.1
all_of_fewer_held P (with_held f) h = (h.0, all_of_fewer_held P f h.1)

same_gone : {xs ys : List Look} → FewerHeld xs ys → any_gone ys ≡ any_gone xs
same_gone all_held = refl
same_gone (without_held {x} {xs} {ys} e f) = rw e (same_gone f)
same_gone (with_held {x} {xs} {ys} f) = ap (λ b. is_gone x.arrival || b) (same_gone f)

record SameWait (due : ℕ) (w v : Wait) : Type 0 where
  is_wait : IsWait due w → IsWait due v
  finished : is_over v ≡ is_over w
  greeted : (g : Bool) → greeted_by_wait v g ≡ greeted_by_wait w g
  replies : (row : SessionRow) (n : ℕ) → acknowledged row n v ≡ acknowledged row n w

same_wait : (due : ℕ) {w v : Wait} → ShorterWait w v → SameWait due w v
same_wait due (waiting f) = record { is_wait = λ h. all_of_fewer (IsQuiet due) f h; finished = refl; greeted = λ g. refl; replies = λ row n. refl }
same_wait due (over f) = record { is_wait = λ h. (all_of_fewer (IsQuiet due) f h.0, h.1, h.2); finished = refl; greeted = λ g. refl; replies = λ row n. refl }

record SamePart (row : SessionRow) (p q : Part) : Type 0 where
  is_part : (n : ℕ) (g : Bool) → IsPart row n g p → IsPart row n g q
  finished : is_finished q ≡ is_finished p
  release : is_release q ≡ is_release p
  left : is_left_by q ≡ is_left_by p
  count : (n : ℕ) → count_in q n ≡ count_in p n
  greeted : (g : Bool) → greeted_in row q g ≡ greeted_in row p g
  replies : (n : ℕ) (g : Bool) → replies_in row n g q ≡ replies_in row n g p

same_part : (row : SessionRow) {p q : Part} → ShorterPart p q → SamePart row p q
same_part row whole = record { is_part = λ n g h. h; finished = refl; release = refl; left = refl; count = λ n. refl; greeted = λ g. refl; replies = λ n g. refl }
same_part row (holding {x} {y} {xs} {ys} f) = record { is_part = λ n g h. all_of_fewer_held IsHeld f h; finished = refl; release = refl; left = refl; count = λ n. refl; greeted = λ g. ap (λ b. if b then false else g) (same_gone f); replies = λ n g. refl }
same_part row (released {xs} {ys} {last} f) = record { is_part = λ n g h. (all_of_fewer_held IsHeld f h.0, h.1, h.2); finished = refl; release = refl; left = refl; count = λ n. refl; greeted = λ g. ap (λ b. if b then false else g) (same_gone f); replies = λ n g. refl }
same_part row (repeated {first} w) =
    let s = same_wait (due row first) w in
    record { is_part = λ n g h. (h.0, h.1, s.is_wait h.2); finished = s.finished; release = refl; left = refl; count = λ n. refl; greeted = s.greeted; replies = λ n g. s.replies row (number_in first.arrival) }
same_part row (offering f) = record { is_part = λ n g h. (h.0, all_of_fewer IsFull f h.1); finished = refl; release = refl; left = refl; count = λ n. refl; greeted = λ g. refl; replies = λ n g. refl }
same_part row (dropped f) = record { is_part = λ n g h. (h.0, all_of_fewer IsFull f h.1, h.2, h.3); finished = refl; release = refl; left = refl; count = λ n. refl; greeted = λ g. refl; replies = λ n g. refl }
same_part row (delivery {first} {passing} f w) =
    let s = same_wait (due row passing) w in
    record { is_part = λ n g h. (h.0, all_of_fewer IsFull f h.1, h.2, s.is_wait h.3); finished = s.finished; release = refl; left = refl; count = λ n. refl; greeted = s.greeted; replies = λ n g. s.replies row (number_in first.arrival) }

record SameParts (row : SessionRow) (o : Opening) (ps qs : List Part) : Type 0 where
  are_parts : AreParts row o qs
  finished : AllByRecursion (λ q. is_finished q ≡ true) ps → AllByRecursion (λ q. is_finished q ≡ true) qs
  left : is_left o qs ≡ is_left o ps
  count : count_after o qs ≡ count_after o ps
  greeted : greeted_after row qs ≡ greeted_after row ps
  replies : replies_of row o qs ≡ replies_of row o ps

same_parts : (row : SessionRow) (o : Opening) {ps qs : List Part} → Shorter ps qs → AreParts row o ps → SameParts row o ps qs
same_parts row o none h = record { are_parts = h; finished = λ f. f; left = refl; count = refl; greeted = refl; replies = refl }
same_parts row o (empty s) h =
    let t = same_parts row o s h.1 in
    record { are_parts = t.are_parts; finished = λ f. t.finished f.1; left = t.left ∙ sym h.0.release; count = t.count; greeted = t.greeted; replies = t.replies ∙ sym (append-nil _) }
same_parts row o (part {p} {q} {ps} {qs} s r) h =
    let t = same_parts row o r h.1 in
    let e = same_part row s in
    record {
      are_parts = (
        record {
          part = e.is_part (count_after o qs) (greeted_after row qs) (subst (λ (u : ℕ × Bool). IsPart row u.0 u.1 p) (λ i. (sym t.count i, sym t.greeted i)) h.0.part);
          release = e.release ∙ h.0.release ∙ sym t.left;
        },
        t.are_parts,
        t.finished h.2,
      );
      finished = λ f. (e.finished ∙ f.0, t.finished f.1);
      left = e.left;
      count = e.count (count_after o qs) ∙ ap (count_in p) t.count;
      greeted = e.greeted (greeted_after row qs) ∙ ap (greeted_in row p) t.greeted;
      replies = ap (λ (u : List Sent × List Sent). u.0 ++ u.1) (λ i. (t.replies i, (e.replies (count_after o qs) (greeted_after row qs) ∙ ap (λ (v : ℕ × Bool). replies_in row v.0 v.1 p) (λ j. (t.count j, t.greeted j))) i));
    }

thinned_life : (row : SessionRow) (a b : Life) (xs ys : List Sent) → ThinnedLife row a b → LifeReplies row a xs → LifeReplies row b ys → xs ≡ ys
thinned_life row a b xs ys t ra rb =
    let s = same_parts row a.opening t.shorter t.cut.are_parts in
    let are = subst (λ o. AreParts row o t.left) t.opening s.are_parts in
    let x = one_list row a xs (replies_of row a.opening t.parts) ra (t.parts, t.cut, refl) in
    let y = one_list row b ys (replies_of row b.opening t.left) rb (t.left, record { are_parts = are; looks = t.looks }, refl) in
    x ∙ sym s.replies ∙ ap (λ o. replies_of row o t.left) t.opening ∙ sym y

pub thinned_lives : (row : SessionRow) (as' bs : List Life) (xs ys : List Sent) → ThinnedLives row as' bs → LivesReplies row as' xs → LivesReplies row bs ys → xs ≡ ys
thinned_lives row [] [] xs ys t e e' = e ∙ sym e'
thinned_lives row [] (b ∷ bs) xs ys t h h' = absurd t
thinned_lives row (a ∷ as') [] xs ys t h h' = absurd t
thinned_lives row (a ∷ as') (b ∷ bs) xs ys t (older, newer, h, k, e) (older', newer', h', k', e') =
    let p = thinned_lives row as' bs older older' t.1 h h' in
    let q = thinned_life row a b newer newer' t.0 k k' in
    e ∙ ap (λ (u : List Sent × List Sent). u.0 ++ u.1) (λ i. (p i, q i)) ∙ sym e'
