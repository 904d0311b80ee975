-- Histories with one low side have the same replies.
use Rattle.std.proofs.Common.{◌≡◌, ℕ, Bool, true, false, List, [], ◌∷◌, ◌++◌, None, refl, sym, ap, ◌∙◌}
use Rattle.std.specs.Prelude.{if◌then◌else◌, ◌&&◌, not}
use Rattle.pump_frame.specs.declared.row.SessionRow.{SessionRow}
use Rattle.pump_core.specs.History.{Arrival}
use Rattle.pump_core.specs.History.{Nothing, Came, Bad, Gone}
use Rattle.pump_core.specs.Phases.{Phase}
use Rattle.pump_core.specs.Phases.{Idle, Passing, Waiting as Waits, Down}
use Rattle.pump_core.specs.declared.feedback.Feedback.{Feedback}
use Rattle.pump_core.specs.History.{Look, Opening, Life}
use Rattle.pump_core.specs.Exchanges.{is_gone, Waiting, Over, Part, Holding, Release, Empty, Leaving, Answer, Repeated, Offering, Dropped, Delivery, Loss, IsCut}
use Rattle.pump_core.specs.Replies.{Sent, sent, LifeReplies, LivesReplies}
use Rattle.pump_core.specs.Step.{after, reply_at}
use Rattle.pump_core.specs.Standing.{State, phase_after, end_of}
use Rattle.pump_core.specs.Comings.{LookMade, Timed, Comes, Looks, is_nothing, may_take, offer, look_made, taken_after, IsOffered, AreOffered, Side, HaveSides}
use Rattle.pump_core.proofs.Runs.{run, run_replies, ran}
use Rattle.pump_core.proofs.Agreement.{look, same_step}

abbrev is_idle : Phase → Bool
is_idle Idle = true
is_idle _ = false

-- a look may take exactly in Idle
takes-idle : (row : SessionRow) (o : Opening) (parts : List Part) → may_take o parts ≡ is_idle (phase_after row o parts)
takes-idle row o [] = elim o.is_held as (λ b. not b ≡ is_idle (if b then Passing None else Idle)) [ true ↦ refl | false ↦ refl ]
takes-idle row o (Holding newest older ∷ before) = refl
takes-idle row o (Release looks last ∷ before) = refl
takes-idle row o (Empty x ∷ before) = refl
takes-idle row o (Leaving x ∷ before) = refl
takes-idle row o (Answer x ∷ before) = refl
takes-idle row o (Repeated first (Waiting quiet) ∷ before) = refl
takes-idle row o (Repeated first (Over quiet last) ∷ before) = refl
takes-idle row o (Offering first full ∷ before) = refl
takes-idle row o (Dropped first full gone ∷ before) = refl
takes-idle row o (Delivery first full passing (Waiting quiet) ∷ before) = refl
takes-idle row o (Delivery first full passing (Over quiet last) ∷ before) = refl
takes-idle row o (Loss first rest ∷ before) = refl

-- two looks that differ in an arrival that is not taken
abbrev Blind : SessionRow → State → Look → Look → Type 0
Blind row s x y = (after row s x ≡ after row s y) × (sent x (reply_at row s x) ≡ sent y (reply_at row s y))

untaken : (row : SessionRow) (n : ℕ) (g : Bool) (ph : Phase) (m w : ℕ) (a b : Arrival) (d : Bool) (f : Feedback) → is_gone a ≡ is_gone b → (is_idle ph ≡ true → a ≡ b) → Blind row (record { next = n; greeted = g; phase = ph }) (look m w a d f) (look m w b d f)
untaken row n g Idle m w a b d f e t = (ap (λ c. after row (record { next = n; greeted = g; phase = Idle }) (look m w c d f)) (t refl), ap (λ c. sent (look m w c d f) (reply_at row (record { next = n; greeted = g; phase = Idle }) (look m w c d f))) (t refl))
untaken row n g Down m w a b d f e t = (refl, refl)
untaken row n g (Passing owed) m w a b d f e t = (rw e, refl)
untaken row n g (Waits k at) m w a b d f e t = (rw e, rw e)

gone-is : (a : Arrival) → is_gone a ≡ true → a ≡ Gone
gone-is Gone e = refl
gone-is Nothing e = absurd (cc)
gone-is Bad e = absurd (cc)
gone-is (Came f) e = absurd (cc)

same_or_gone : (gone : Bool) (a b : Arrival) → is_gone a ≡ gone → is_gone b ≡ gone → (gone ≡ false → a ≡ b) → a ≡ b
same_or_gone true a b ga gb h = gone-is a ga ∙ sym (gone-is b gb)
same_or_gone false a b ga gb h = h refl

counts : (gone idle p q : Bool) (a b : Arrival) (n k : ℕ) → p ≡ idle → q ≡ idle → (gone ≡ false → idle ≡ true → a ≡ b) → n ≡ k → taken_after gone (p && not (is_nothing a)) n ≡ taken_after gone (q && not (is_nothing b)) k
counts true idle p q a b n k ep eq same e = refl
counts false true p q a b n k ep eq same e = rw (ep, eq, same refl refl, e)
counts false false p q a b n k ep eq same e = rw (ep, eq, e)

module _ (row : SessionRow) (o : Opening) where
  -- the run that a cut ends
  ends_so : (looks : List Look) (parts : List Part) → IsCut row (record { opening = o; looks = looks }) parts → run row o looks ≡ end_of row o parts
  ends_so looks parts c = ap (run row o) c.looks ∙ (ran row o parts c.are_parts).state

  record OneSide (xs ys : List Look) (n k : ℕ) : Type 0 where
    state : run row o xs ≡ run row o ys
    replies : run_replies row o xs ≡ run_replies row o ys
    taken : n ≡ k

  one_look : (past : List Timed) (xs ys : List Look) (x y : Look) (n n' k k' : ℕ) → look_made x ≡ look_made y → OneSide xs ys n k → IsOffered row (record { opening = o; looks = xs }) past x n n' → IsOffered row (record { opening = o; looks = ys }) past y k k' → OneSide (x ∷ xs) (y ∷ ys) n' k'
  one_look past xs ys x y n n' k k' made one hx hy =
      let gone = is_gone x.arrival in
      let s = run row o xs in
      let ex = ends_so xs hx.before hx.cut in
      let ey = ends_so ys hy.before hy.cut in
      let idle_x : may_take o hx.before ≡ is_idle s.phase = takes-idle row o hx.before ∙ ap (λ (t : State). is_idle t.phase) (sym ex) in
      let idle_y : may_take o hy.before ≡ is_idle s.phase = takes-idle row o hy.before ∙ ap (λ (t : State). is_idle t.phase) (sym ey ∙ sym one.state) in
      let gone_same : gone ≡ is_gone y.arrival = ap (λ (l : LookMade). l.is_gone) made in
      let here : gone ≡ false → is_idle s.phase ≡ true → x.arrival ≡ y.arrival = λ g t. hx.arrival g (idle_x ∙ t) ∙ ap (offer past) one.taken ∙ sym (hy.arrival (sym gone_same ∙ g) (idle_y ∙ t)) in
      let same : is_idle s.phase ≡ true → x.arrival ≡ y.arrival = λ t. same_or_gone gone x.arrival y.arrival refl (sym gone_same) (λ g. here g t) in
      let z = look x.moment x.word y.arrival x.is_fault x.feedback in
      let blind = untaken row s.next s.greeted s.phase x.moment x.word x.arrival y.arrival x.is_fault x.feedback gone_same same in
      let step = same_step row s z y (record {
        moment = ap (λ (l : LookMade). l.moment) made;
        word = ap (λ (l : LookMade). l.word) made;
        arrival = refl;
        outcome = ap (λ (l : LookMade). l.is_fault) made;
        feedback = ap (λ (l : LookMade). l.feedback) made;
      }) in
      record {
        state = blind.0 ∙ step.0 ∙ ap (λ t. after row t y) one.state;
        replies = ap (λ l. run_replies row o xs ++ l) (blind.1 ∙ step.1) ∙ ap (λ (t : List Sent × State). t.0 ++ sent y (reply_at row t.1 y)) (λ i. (one.replies i, one.state i));
        taken = hx.count ∙ counts gone (is_idle s.phase) (may_take o hx.before) (may_take o hy.before) x.arrival y.arrival n k idle_x idle_y here one.taken ∙ ap (λ b. taken_after b (may_take o hy.before && not (is_nothing y.arrival)) k) gone_same ∙ sym hy.count;
      }

  one_side : (events : List Timed) (xs ys : List Look) (n k : ℕ) → AreOffered row o events xs n → AreOffered row o events ys k → OneSide xs ys n k
  one_side [] [] [] n k h h' = record { state = refl; replies = refl; taken = h ∙ sym h' }
  one_side [] (x ∷ xs) ys n k h h' = absurd h
  one_side [] [] (y ∷ ys) n k h h' = absurd h'
  one_side (Comes a ∷ past) xs ys n k h h' = one_side past xs ys n k h h'
  one_side (Looks made ∷ past) [] ys n k h h' = absurd h
  one_side (Looks made ∷ past) (x ∷ xs) [] n k h h' = absurd h'
  one_side (Looks made ∷ past) (x ∷ xs) (y ∷ ys) n k (is, before, offered, older) (is', before', offered', older') = one_look past xs ys x y before n before' k (is ∙ sym is') (one_side past xs ys before before' older older') offered offered'

one_life : (row : SessionRow) (s : Side) (a b : Life) (xs ys : List Sent) (n k : ℕ) → a.opening ≡ s.opening → b.opening ≡ s.opening → AreOffered row s.opening s.events a.looks n → AreOffered row s.opening s.events b.looks k → LifeReplies row a xs → LifeReplies row b ys → xs ≡ ys
one_life row s a b xs ys n k ea eb ha hb (parts, cut, e) (parts', cut', e') =
    let r = ran row a.opening parts cut.are_parts in
    let r' = ran row b.opening parts' cut'.are_parts in
    e ∙ sym r.replies ∙ ap (run_replies row a.opening) (sym cut.looks)
    ∙ ap (λ o. run_replies row o a.looks) ea
    ∙ (one_side row s.opening s.events a.looks b.looks n k ha hb).replies
    ∙ ap (λ o. run_replies row o b.looks) (sym eb)
    ∙ ap (run_replies row b.opening) cut'.looks ∙ r'.replies ∙ sym e'

pub one_side_of_lives : (row : SessionRow) (sides : List Side) (as' bs : List Life) (xs ys : List Sent) → HaveSides row sides as' → HaveSides row sides bs → LivesReplies row as' xs → LivesReplies row bs ys → xs ≡ ys
one_side_of_lives row [] [] [] xs ys ha hb e e' = e ∙ sym e'
one_side_of_lives row [] (a ∷ as') bs xs ys ha hb h h' = absurd ha
one_side_of_lives row [] [] (b ∷ bs) xs ys ha hb h h' = absurd hb
one_side_of_lives row (s ∷ ss) [] bs xs ys ha hb h h' = absurd ha
one_side_of_lives row (s ∷ ss) (a ∷ as') [] xs ys ha hb h h' = absurd hb
one_side_of_lives row (s ∷ ss) (a ∷ as') (b ∷ bs) xs ys ha hb (older, newer, h, k, e) (older', newer', h', k', e') =
    let p = one_side_of_lives row ss as' bs older older' ha.2 hb.2 h h' in
    let q = one_life row s a b newer newer' ha.1.0 hb.1.0 ha.0 hb.0 ha.1.1 hb.1.1 k k' in
    e ∙ ap (λ (u : List Sent × List Sent). u.0 ++ u.1) (λ i. (p i, q i)) ∙ sym e'
