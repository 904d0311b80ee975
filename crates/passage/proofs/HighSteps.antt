-- Each step on high's cell keeps its rule.
use Rattle.std.proofs.Common.{◌≡◌, ◌≢◌, ℕ, ◌+◌, ◌≤◌, ◌==◌, true, false, true≢false, List, [], ◌∷◌, ◌++◌, length, set, sym, refl, ap, ◌∙◌, subst, append-nil, le_refl, le_trans, le_of_eq, arith}
use Rattle.std.specs.List.{All}
use Rattle.std.proofs.lemmas.List.{length-append}
use Rattle.std.proofs.lemmas.List.Elements.{All-nil}
use mathlib.Core.Option.{some}
use lib.ListN.{get_elem?}
use Rattle.crossbeam_utils.specs.Register.{Turns, Forks, Merges}
use Rattle.pump_frame.specs.declared.averaging.Averaging.{Averaging}
use Rattle.pump_frame.specs.Averages.{average_of, down}
use Rattle.pump_core.specs.Passage.{Shape, NeverFall, IsAverage}
use Rattle.pump_core.proofs.PassageSteps.{all_snoc, all_weaken, average_stays, average_now, never_fall_snoc}
use Rattle.passage.specs.declared.high_cell.HighWord.{HighWord}
use Rattle.passage.specs.declared.high_cell.HighView.{HighView}
use Rattle.passage.specs.HighRule.{shape_told, no_averaging, CountsTimes, IsWriter, IsReader, HighFits, HighKept, high_first, with_row, with_try, with_pair, PairsUpTo, with_taken, with_time, high_writer, high_reader, high_both, high_spent, HighTies}
use Rattle.passage.proofs.Views.{Each, each_set, each_snoc, each_alone, was, all_maybe}

pub begins : (x : HighWord) → x.count ≡ 0 → x.average ≡ 0 → x.taken ≡ 0 → HighKept x (high_first ∷ [])
unfolding down
begins x c a t =
    let s : Shape = record { places = 0; averaging = no_averaging } in
    record {
      writer = 0;
      reader = 0;
      times = [];
      shape = s;
      count = c;
      average = a;
      each = each_alone (HighFits x 0 0 [] s) high_first (
        (λ _. record { one = refl; times = refl; row = refl; taken = sym t; counts = (refl, All-nil (λ n. n ≤ 0)) }),
        λ _. record { one = refl; averages = All-nil (IsAverage s []); never_fall = tt; tries = All-nil (λ p. p.1 ≤ x.taken); found = omega arith; room = refl },
      );
    }

-- a load that changes this pass's view alone
module _ (x : HighWord) (views : List HighView) (h : HighKept x views) (pass : ℕ) (v w : HighView) (at : get_elem? views pass ≡ some v) where
  pub looks : (w.writes ≡ true → IsWriter x h.writer h.times h.shape pass w) → (w.reads ≡ true → IsReader x h.reader h.times h.shape pass w) → HighKept x (set views pass w)
  looks writer reader = record {
    writer = h.writer;
    reader = h.reader;
    times = h.times;
    shape = h.shape;
    count = h.count;
    average = h.average;
    each = each_set (HighFits x h.writer h.reader h.times h.shape) views pass w (writer, reader) (λ j u _ e. h.each j u e);
  }

pub tries : (pass : ℕ) (v : HighView) (f : ℕ) → v.writes ≡ false → v.reads ≡ true → Turns HighKept pass v (λ x. x) (λ v x y w. (y ≡ x) × (w ≡ with_try f v x.taken) × (v.found ≤ x.taken))
tries pass v f idle may x views h at =
    let r = (h.each pass v at).1 may in
    let w = with_try f v x.taken in (
      w,
      looks x views h pass v w at (λ t. absurd (true≢false (sym t ∙ idle)))
          (λ _. record {
            one = r.one;
            averages = r.averages;
            never_fall = r.never_fall;
            tries = all_maybe (λ (t : ℕ × ℕ). t.1 ≤ x.taken) v.tries (f, x.taken) (f == x.taken + v.room) r.tries (le_refl x.taken);
            found = le_refl x.taken;
            room = r.room;
          }),
      (refl, refl, r.found),
    )

pub reads : (pass : ℕ) (v : HighView) → v.writes ≡ false → v.reads ≡ true → Turns HighKept pass v (λ x. x) (λ v x y w. (y ≡ x) × (w ≡ with_pair v x.count x.average) × PairsUpTo v x.count)
reads pass v idle may x views h at =
    let r = (h.each pass v at).1 may in
    let w = with_pair v x.count x.average in
    let up : PairsUpTo v x.count = all_weaken (IsAverage h.shape h.times) (λ p. p.0 ≤ x.count) v.pairs (λ p a. le_trans a.0 (le_of_eq (sym h.count))) r.averages in (
      w,
      looks x views h pass v w at (λ t. absurd (true≢false (sym t ∙ idle)))
          (λ _. record {
            one = r.one;
            averages = all_snoc (IsAverage h.shape h.times) v.pairs (x.count, x.average) r.averages (average_now h.shape h.times x.count x.average h.count h.average);
            never_fall = never_fall_snoc v.pairs (x.count, x.average) r.never_fall up;
            tries = r.tries;
            found = r.found;
            room = r.room;
          }),
      (refl, refl, up),
    )

-- the writer puts what is then true
module _ (pass : ℕ) (v w : HighView) (y : HighWord) (writes : v.writes ≡ true) (idle : w.reads ≡ false) where
  puts : (more : List ℕ) → w.times ≡ v.times ++ more → shape_told w ≡ shape_told v → v.taken ≤ y.taken → w.taken ≡ y.taken → (CountsTimes v → CountsTimes w)
      → y.count ≡ length w.times → y.average ≡ average_of w.averaging w.times
      → ((times : List ℕ) (p : ℕ × ℕ) → IsAverage (shape_told v) times p → IsAverage (shape_told v) (times ++ more) p)
      → (x : HighWord) (views : List HighView) → HighKept x views → get_elem? views pass ≡ some v → HighKept y (set views pass w)
  puts more is row up tk counts cn av stays x views h at =
      let mine = (h.each pass v at).0 writes in
      let s : shape_told v ≡ h.shape = mine.row in
      let grown : w.times ≡ h.times ++ more = is ∙ ap (λ z. z ++ more) mine.times in
      let risen : x.taken ≤ y.taken = le_trans (le_of_eq (sym mine.taken)) up in
      record {
        writer = h.writer;
        reader = h.reader;
        times = h.times ++ more;
        shape = h.shape;
        count = cn ∙ ap length grown;
        average = av ∙ ap (λ (z : Shape). average_of z.averaging w.times) (row ∙ s) ∙ ap (average_of h.shape.averaging) grown;
        each = each_set (HighFits y h.writer h.reader (h.times ++ more) h.shape) views pass w (
          (λ _. record { one = mine.one; times = grown; row = row ∙ s; taken = tk; counts = counts mine.counts }),
          λ t. absurd (true≢false (sym t ∙ idle)),
        )
            (λ j u apart e. (
              (λ t. absurd (apart (((h.each j u e).0 t).one ∙ sym mine.one))),
              (λ t. let r = (h.each j u e).1 t in
                  record {
                    one = r.one;
                    averages = all_weaken (IsAverage h.shape h.times) (IsAverage h.shape (h.times ++ more)) u.pairs (λ p a. subst (λ z. IsAverage z (h.times ++ more) p) s (stays h.times p (subst (λ z. IsAverage z h.times p) (sym s) a))) r.averages;
                    never_fall = r.never_fall;
                    tries = all_weaken (λ (t : ℕ × ℕ). t.1 ≤ x.taken) (λ t. t.1 ≤ y.taken) u.tries (λ t le. le_trans le risen) r.tries;
                    found = le_trans r.found risen;
                    room = r.room;
                  }),
            ));
      }

pub takes_up : (pass : ℕ) (v : HighView) (removed : ℕ) (y : HighWord) → v.writes ≡ true → v.reads ≡ false → y.taken ≡ v.taken + 1 → y.count ≡ length v.times → y.average ≡ average_of v.averaging v.times
    → Turns HighKept pass v (λ _. y) (λ v x y w. w ≡ with_taken v removed)
takes_up pass v removed y a b tk cn av x views h at = (
  with_taken v removed,
  puts pass v (with_taken v removed) y a b [] (sym (append-nil v.times)) refl (omega (arith, tk)) (sym tk)
      (λ c. (c.0, all_weaken (λ (n : ℕ). n ≤ v.taken) (λ n. n ≤ v.taken + 1) v.taken_before (λ n le. omega (arith, le)) c.1)) cn av
      (λ times p i. subst (λ z. IsAverage (shape_told v) z p) (sym (append-nil times)) i) x views h at,
  refl,
)

pub publishes : (pass : ℕ) (v : HighView) (t : ℕ) (y : HighWord) → v.writes ≡ true → v.reads ≡ false → y.taken ≡ v.taken → y.count ≡ length (v.times ++ t ∷ []) → y.average ≡ average_of v.averaging (v.times ++ t ∷ [])
    → Turns HighKept pass v (λ _. y) (λ v x y w. w ≡ with_time v t)
publishes pass v t y a b tk cn av x views h at = (
  with_time v t,
  puts pass v (with_time v t) y a b (t ∷ []) refl refl (le_of_eq (sym tk)) (sym tk)
      (λ c. (omega (arith, c.0, length-append v.taken_before (v.taken ∷ []), length-append v.times (t ∷ [])), all_snoc (λ n. n ≤ v.taken) v.taken_before v.taken c.1 (le_refl v.taken))) cn av
      (λ times p i. average_stays (shape_told v) times t p i) x views h at,
  refl,
)

-- the first swap puts the row into the view; nothing was read or published before, and no other pass
-- reads or writes
pub starts : (pass : ℕ) (v : HighView) (places : ℕ) (averaging : Averaging) (y : HighWord) → v ≡ high_first → y.count ≡ 0 → y.average ≡ average_of averaging [] → y.taken ≡ 0
    → Turns HighKept pass v (λ _. y) (λ v x y w. w ≡ with_row v places averaging)
starts pass v places averaging y is cn av tk x views h at =
    let w = with_row v places averaging in
    let s : Shape = record { places = places; averaging = averaging } in
    let mine = (h.each pass v at).0 (ap (λ z. z.writes) is) in
    let read = (h.each pass v at).1 (ap (λ z. z.reads) is) in
    let none_read : v.pairs ≡ [] = ap (λ z. z.pairs) is in
    let none_tried : v.tries ≡ [] = ap (λ z. z.tries) is in
    let none_found : v.found ≡ 0 = ap (λ z. z.found) is in (
      w,
      record {
        writer = h.writer;
        reader = h.reader;
        times = [];
        shape = s;
        count = cn;
        average = av;
        each = each_set (HighFits y h.writer h.reader [] s) views pass w (
          (λ _. record { one = mine.one; times = ap (λ z. z.times) is; row = refl; taken = ap (λ z. z.taken) is ∙ sym tk; counts = mine.counts }),
          λ _. record {
            one = read.one;
            averages = subst (All (IsAverage s [])) (sym none_read) (All-nil (IsAverage s []));
            never_fall = subst NeverFall (sym none_read) tt;
            tries = subst (All (λ t. t.1 ≤ y.taken)) (sym none_tried) (All-nil (λ t. t.1 ≤ y.taken));
            found = omega (arith, none_found);
            room = refl;
          },
        )
            (λ j u apart e. ((λ t. absurd (apart (((h.each j u e).0 t).one ∙ sym mine.one))), λ t. absurd (apart (((h.each j u e).1 t).one ∙ sym read.one))));
      },
      refl,
    )

-- the reader's part of a view goes to a new pass
pub forks : (pass : ℕ) (v : HighView) → v.reads ≡ true → Forks HighKept pass v (high_writer v) (high_reader v)
forks pass v may x views h at =
    let l = high_writer v in let r = high_reader v in let vs = set views pass l in
    let mine = h.each pass v at in
    let read = mine.1 may in
    record {
      writer = h.writer;
      reader = length vs;
      times = h.times;
      shape = h.shape;
      count = h.count;
      average = h.average;
      each = each_snoc (HighFits x h.writer (length vs) h.times h.shape) vs r
          (each_set (HighFits x h.writer (length vs) h.times h.shape) views pass l ((λ t. let m = mine.0 t in record { one = m.one; times = m.times; row = m.row; taken = m.taken; counts = m.counts }), λ t. absurd (true≢false (sym t)))
          (λ j u apart e. ((h.each j u e).0, λ t. absurd (apart (((h.each j u e).1 t).one ∙ sym read.one)))))
          ((λ t. absurd (true≢false (sym t))), λ _. record { one = refl; averages = read.averages; never_fall = read.never_fall; tries = read.tries; found = read.found; room = read.room });
    }

-- the writer takes in what the reader knows
pub merges : (pass : ℕ) (v : HighView) (other : ℕ) (u : HighView) → v.writes ≡ true → u.reads ≡ true → Merges HighKept pass v other u (high_both v u) high_spent
merges pass v other u a b x views h at two at' =
    let w = high_both v u in let vs = set views pass w in
    let mine = (h.each pass v at).0 a in
    let theirs = (h.each other u (was views pass other w u two at')).1 b in
    let Now : ℕ → HighView → Type 0 = λ j y. j ≢ other → HighFits x h.writer pass h.times h.shape j y in
    let now : Each Now vs = each_set Now views pass w
    (λ _. (
      (λ _. record { one = mine.one; times = mine.times; row = mine.row; taken = mine.taken; counts = mine.counts }),
      λ _. record { one = refl; averages = theirs.averages; never_fall = theirs.never_fall; tries = theirs.tries; found = theirs.found; room = theirs.room },
    ))
    (λ j y _ e apart. ((h.each j y e).0, λ t. absurd (apart (((h.each j y e).1 t).one ∙ sym theirs.one)))) in
    record {
      writer = h.writer;
      reader = pass;
      times = h.times;
      shape = h.shape;
      count = h.count;
      average = h.average;
      each = each_set (HighFits x h.writer pass h.times h.shape) vs other high_spent ((λ t. absurd (true≢false (sym t))), λ t. absurd (true≢false (sym t))) (λ j y apart e. now j y e apart);
    }

-- who writes and reads knows what ties the two
pub learns : (pass : ℕ) (v : HighView) → v.writes ≡ true → v.reads ≡ true → Turns HighKept pass v (λ x. x) (λ v x y w. (w ≡ v) × HighTies v)
learns pass v a b x views h at =
    let mine = (h.each pass v at).0 a in let read = (h.each pass v at).1 b in
    let ties : HighTies v = record {
      averages = subst (λ (z : Shape × List ℕ). All (IsAverage z.0 z.1) v.pairs) (λ i. (sym mine.row i, sym mine.times i)) read.averages;
      never_fall = read.never_fall;
      tries = all_weaken (λ (t : ℕ × ℕ). t.1 ≤ x.taken) (λ t. t.1 ≤ v.taken) v.tries (λ t le. le_trans le (le_of_eq (sym mine.taken))) read.tries;
      found = le_trans read.found (le_of_eq (sym mine.taken));
      room = read.room ∙ ap (λ (z : Shape). z.places) (sym mine.row);
      counts = mine.counts;
    } in
    (v, looks x views h pass v v at (λ t. (h.each pass v at).0 t) (λ t. (h.each pass v at).1 t), (refl, ties))
