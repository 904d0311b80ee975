-- Low's own and where the buffer was full decide which looks are told an average, so a list of averages tells
-- each look its own.
use Rattle.std.proofs.Common.{◌≡◌, ℕ, Bool, true, false, ◌&&◌, List, [], ◌∷◌, ◌++◌, map, Option, Some, None, refl, sym, ap, ◌∙◌, subst, append_assoc}
use Rattle.std.specs.Prelude.{if◌then◌else◌, not, option_to_list}
use Rattle.std.specs.List.{AllByRecursion}
use Rattle.pump_frame.specs.declared.row.SessionRow.{SessionRow}
use Rattle.pump_core.specs.declared.feedback.Seen.{Seen}
use Rattle.pump_core.specs.declared.feedback.Feedback.{Feedback}
use Rattle.pump_core.specs.declared.feedback.Feedback.TheVariants.{Quiet, Full, Passed, Released, Repeat}
use Rattle.pump_core.specs.History.{Arrival}
use Rattle.pump_core.specs.History.{Nothing, Came, Bad, Gone}
use Rattle.pump_core.specs.History.{Look, Opening, Life}
use Rattle.pump_core.specs.Exchanges.{is_gone, is_repeat, has_average, Part, IsCut}
use Rattle.pump_core.specs.Phases.{Phase, Idle, Passing, Waiting as Waits, Down}
use Rattle.pump_core.specs.Step.{after, is_full, is_quiet, fits_passing, fits_idle, fits_in, FeedbackFits}
use Rattle.pump_core.specs.Standing.{State, end_of, HasCut}
use Rattle.pump_core.specs.Comings.{LookMade, Timed, Comes, Looks, is_nothing, may_take, offer, look_made, taken_after, IsOffered, AreOffered, Side, HaveSides}
use Rattle.pump_core.specs.Pairs.{uncounted}
use Rattle.pump_core.specs.Replies.{Sent, LivesReplies}
use Rattle.pump_core.specs.Runs.{with_feedback, side_with}
use Rattle.pump_core.proofs.Runs.{run, ran}
use Rattle.pump_core.proofs.MayTake.{is_idle, may_take_is}
use Rattle.pump_core.proofs.CutsFit.{cuts_fit}
use Rattle.pump_core.proofs.Agreement.{look, same_step}
use Rattle.world_laws.specs.ListedAverages.{only_full, average_in, averages_told, averages_of_sides}

-- ---- which kind of feedback a look has ----

abbrev nothing_seen : Seen
nothing_seen = record { count = 0; average = 0 }

-- the feedback without what was read
abbrev bare : Feedback → Feedback
bare (Passed s) = Passed nothing_seen
bare (Repeat s) = Repeat nothing_seen
bare Quiet = Quiet
bare Full = Full
bare Released = Released

bare_uncounted : (f : Feedback) → bare (uncounted f) ≡ bare f
bare_uncounted Quiet = refl
bare_uncounted Full = refl
bare_uncounted (Passed s) = refl
bare_uncounted Released = refl
bare_uncounted (Repeat s) = refl

full_uncounted : (f : Feedback) → is_full (uncounted f) ≡ is_full f
full_uncounted Quiet = refl
full_uncounted Full = refl
full_uncounted (Passed s) = refl
full_uncounted Released = refl
full_uncounted (Repeat s) = refl

full_kept : (f : Feedback) → is_full (only_full f) ≡ is_full f
full_kept Quiet = refl
full_kept Full = refl
full_kept (Passed s) = refl
full_kept Released = refl
full_kept (Repeat s) = refl

bare_quiet : (f : Feedback) → is_quiet f ≡ true → bare f ≡ Quiet
bare_quiet Quiet e = refl
bare_quiet Full e = absurd (cc)
bare_quiet (Passed s) e = absurd (cc)
bare_quiet Released e = absurd (cc)
bare_quiet (Repeat s) e = absurd (cc)

bare_average : (f : Feedback) → has_average f ≡ true → bare f ≡ Repeat nothing_seen
bare_average (Repeat s) e = refl
bare_average Quiet e = absurd (cc)
bare_average Full e = absurd (cc)
bare_average (Passed s) e = absurd (cc)
bare_average Released e = absurd (cc)

-- a message is passed with an average where its acknowledgement is owed
abbrev when_passed : Option ℕ → Feedback
when_passed None = Released
when_passed (Some n) = Passed nothing_seen

bare_passing : (owed : Option ℕ) (f : Feedback) → fits_passing owed f ≡ true → bare f ≡ (if is_full f then Full else when_passed owed)
bare_passing owed Full e = refl
bare_passing (Some n) (Passed s) e = refl
bare_passing None Released e = refl
bare_passing None (Passed s) e = absurd (cc)
bare_passing (Some n) Released e = absurd (cc)
bare_passing None Quiet e = absurd (cc)
bare_passing (Some n) Quiet e = absurd (cc)
bare_passing None (Repeat s) e = absurd (cc)
bare_passing (Some n) (Repeat s) e = absurd (cc)

abbrev when_idle : SessionRow → ℕ → Bool → Arrival → Feedback
when_idle row n g (Came f) = if is_repeat row n g f then Repeat nothing_seen else Quiet
when_idle row n g _ = Quiet

-- what a look in this phase is told, by whether the connection is gone, whether the buffer is full, and what
-- it is offered
abbrev when_in : SessionRow → ℕ → Bool → Phase → Bool → Bool → Arrival → Feedback
when_in row n g Down gone full a = Quiet
when_in row n g (Waits k at) gone full a = Quiet
when_in row n g (Passing owed) gone full a = if gone then Quiet else (if full then Full else when_passed owed)
when_in row n g Idle gone full a = when_idle row n g a

bare_passing_or_gone : (gone : Bool) (owed : Option ℕ) (f : Feedback) → (if gone then is_quiet f else fits_passing owed f) ≡ true
    → bare f ≡ (if gone then Quiet else (if is_full f then Full else when_passed owed))
bare_passing_or_gone true owed f e = bare_quiet f e
bare_passing_or_gone false owed f e = bare_passing owed f e

bare_repeat : (b : Bool) (f : Feedback) → (if b then has_average f else is_quiet f) ≡ true → bare f ≡ (if b then Repeat nothing_seen else Quiet)
bare_repeat true f e = bare_average f e
bare_repeat false f e = bare_quiet f e

bare_idle : (row : SessionRow) (s : State) (a : Arrival) (f : Feedback) → fits_idle row s a f ≡ true → bare f ≡ when_idle row s.next s.greeted a
bare_idle row s (Came c) f e = bare_repeat (is_repeat row s.next s.greeted c) f e
bare_idle row s Nothing f e = bare_quiet f e
bare_idle row s Bad f e = bare_quiet f e
bare_idle row s Gone f e = bare_quiet f e

bare_in : (row : SessionRow) (s : State) (x : Look) (ph : Phase) → fits_in row s x ph ≡ true → bare x.feedback ≡ when_in row s.next s.greeted ph (is_gone x.arrival) (is_full x.feedback) x.arrival
bare_in row s x Down e = bare_quiet x.feedback e
bare_in row s x (Waits n at) e = bare_quiet x.feedback e
bare_in row s x (Passing owed) e = bare_passing_or_gone (is_gone x.arrival) owed x.feedback e
bare_in row s x Idle e = bare_idle row s x.arrival x.feedback e

same_when : (row : SessionRow) (n : ℕ) (g : Bool) (ph : Phase) (gone full : Bool) (a b : Arrival) → (is_idle ph ≡ true → a ≡ b) → when_in row n g ph gone full a ≡ when_in row n g ph gone full b
same_when row n g Down gone full a b same = refl
same_when row n g (Waits k at) gone full a b same = refl
same_when row n g (Passing owed) gone full a b same = refl
same_when row n g Idle gone full a b same = ap (when_idle row n g) (same refl)

-- feedback of one kind takes as much from the list
abbrev told : Feedback → List ℕ
told f = option_to_list (average_in f)

record Taken (f g : Feedback) (more others : List ℕ) : Type 0 where
  same : uncounted f ≡ uncounted g
  rest : more ≡ others

read_one : (a b : ℕ) (more others : List ℕ) → a ∷ more ≡ b ∷ others → (a ≡ b) × (more ≡ others)
read_one a b more others e = (cc, cc)

takes : (f g : Feedback) (more others : List ℕ) → bare f ≡ bare g → told f ++ more ≡ told g ++ others → Taken f g more others
takes Quiet Quiet more others k e = record { same = refl; rest = e }
takes Full Full more others k e = record { same = refl; rest = e }
takes Released Released more others k e = record { same = refl; rest = e }
takes (Passed s) (Passed r) more others k e =
    let one = read_one s.average r.average more others e in
    record { same = ap (λ n. Passed (record { count = 0; average = n })) one.0; rest = one.1 }
takes (Repeat s) (Repeat r) more others k e =
    let one = read_one s.average r.average more others e in
    record { same = ap (λ n. Repeat (record { count = 0; average = n })) one.0; rest = one.1 }
takes Quiet Full more others k e = absurd (cc)
takes Quiet Released more others k e = absurd (cc)
takes Quiet (Passed r) more others k e = absurd (cc)
takes Quiet (Repeat r) more others k e = absurd (cc)
takes Full Quiet more others k e = absurd (cc)
takes Full Released more others k e = absurd (cc)
takes Full (Passed r) more others k e = absurd (cc)
takes Full (Repeat r) more others k e = absurd (cc)
takes Released Quiet more others k e = absurd (cc)
takes Released Full more others k e = absurd (cc)
takes Released (Passed r) more others k e = absurd (cc)
takes Released (Repeat r) more others k e = absurd (cc)
takes (Passed s) Quiet more others k e = absurd (cc)
takes (Passed s) Full more others k e = absurd (cc)
takes (Passed s) Released more others k e = absurd (cc)
takes (Passed s) (Repeat r) more others k e = absurd (cc)
takes (Repeat s) Quiet more others k e = absurd (cc)
takes (Repeat s) Full more others k e = absurd (cc)
takes (Repeat s) Released more others k e = absurd (cc)
takes (Repeat s) (Passed r) more others k e = absurd (cc)

-- ---- what a look makes of the state ----

-- an arrival that is not taken counts only by whether the connection is gone
untaken : (row : SessionRow) (n : ℕ) (g : Bool) (ph : Phase) (m w : ℕ) (a b : Arrival) (d : Bool) (f : Feedback) → is_gone a ≡ is_gone b → (is_idle ph ≡ true → a ≡ b)
    → after row (record { next = n; greeted = g; phase = ph }) (look m w a d f) ≡ after row (record { next = n; greeted = g; phase = ph }) (look m w b d f)
untaken row n g Idle m w a b d f e same = ap (λ c. after row (record { next = n; greeted = g; phase = Idle }) (look m w c d f)) (same refl)
untaken row n g Down m w a b d f e same = refl
untaken row n g (Passing owed) m w a b d f e same = rw e
untaken row n g (Waits k at) m w a b d f e same = rw e

gone_is : (a : Arrival) → is_gone a ≡ true → a ≡ Gone
gone_is Gone e = refl
gone_is Nothing e = absurd (cc)
gone_is Bad e = absurd (cc)
gone_is (Came f) e = absurd (cc)

same_or_gone : (gone : Bool) (a b : Arrival) → is_gone a ≡ gone → is_gone b ≡ gone → (gone ≡ false → a ≡ b) → a ≡ b
same_or_gone true a b ga gb h = gone_is a ga ∙ sym (gone_is b gb)
same_or_gone false a b ga gb h = h refl

counts : (gone idle p q : Bool) (a b : Arrival) (n k : ℕ) → p ≡ idle → q ≡ idle → (idle ≡ true → a ≡ b) → n ≡ k
    → taken_after gone (p && not (is_nothing a)) n ≡ taken_after gone (q && not (is_nothing b)) k
counts true idle p q a b n k ep eq same e = refl
counts false true p q a b n k ep eq same e = rw (ep, eq, same refl, e)
counts false false p q a b n k ep eq same e = rw (ep, eq, e)

-- ---- two lives ----

abbrev plain : List Timed → List Timed
plain events = map (with_feedback uncounted) events

module _ (row : SessionRow) (o : Opening) where
  abbrev life : List Look → Life
  life looks = record { opening = o; looks = looks }

  -- what happened in both is the same, up to counts, and has used as much of the list
  record Agree (es fs : List Timed) (xs ys : List Look) (n k : ℕ) (more others : List ℕ) : Type 0 where
    state : run row o xs ≡ run row o ys
    taken : n ≡ k
    events : plain es ≡ plain fs
    rest : more ≡ others

  ends_so : (looks : List Look) (parts : List Part) → IsCut row (life looks) parts → run row o looks ≡ end_of row o parts
  ends_so looks parts c = ap (run row o) c.looks ∙ (ran row o parts c.are_parts).state

  -- the look has a feedback that the run before it allows
  fits : (x : Look) (looks : List Look) (before parts : List Part) → IsCut row (life looks) before → IsCut row (life (x ∷ looks)) parts → FeedbackFits row (run row o looks) x
  fits x looks before parts c d =
      subst (λ (s : State). FeedbackFits row s x) (sym (ends_so looks before c))
      (cuts_fit row o x before parts c.are_parts d.are_parts (sym d.looks ∙ ap (λ l. x ∷ l) c.looks))

  may_take_here : (looks : List Look) (before : List Part) → IsCut row (life looks) before → may_take o before ≡ is_idle (run row o looks).phase
  may_take_here looks before c = may_take_is row o before ∙ ap (λ (s : State). is_idle s.phase) (sym (ends_so looks before c))

  module _ (es fs : List Timed) (xs ys : List Look) (made other : LookMade) (x y : Look) (n n' k k' : ℕ) (more others : List ℕ)
      (older : Agree es fs xs ys n k (told made.feedback ++ more) (told other.feedback ++ others))
      (own : record made { feedback = only_full made.feedback } ≡ record other { feedback = only_full other.feedback })
      (is_x : look_made x ≡ record made { feedback = uncounted made.feedback })
      (is_y : look_made y ≡ record other { feedback = uncounted other.feedback })
      (hx : IsOffered row (life xs) (plain es) x n n')
      (hy : IsOffered row (life ys) (plain fs) y k k')
      (fits_x : FeedbackFits row (run row o xs) x)
      (fits_y : FeedbackFits row (run row o ys) y) where
    abbrev s : State
    s = run row o xs

    gone_same : is_gone x.arrival ≡ is_gone y.arrival
    gone_same = ap (λ (l : LookMade). l.is_gone) is_x ∙ ap (λ (l : LookMade). l.is_gone) own ∙ sym (ap (λ (l : LookMade). l.is_gone) is_y)

    told_x : uncounted x.feedback ≡ uncounted made.feedback
    told_x = ap (λ (l : LookMade). l.feedback) is_x

    told_y : uncounted y.feedback ≡ uncounted other.feedback
    told_y = ap (λ (l : LookMade). l.feedback) is_y

    full_same : is_full x.feedback ≡ is_full y.feedback
    full_same =
        sym (full_uncounted x.feedback) ∙ ap is_full told_x ∙ full_uncounted made.feedback
        ∙ sym (full_kept made.feedback) ∙ ap (λ (l : LookMade). is_full l.feedback) own ∙ full_kept other.feedback
        ∙ sym (full_uncounted other.feedback) ∙ sym (ap is_full told_y) ∙ full_uncounted y.feedback

    idle_x : may_take o hx.before ≡ is_idle (run row o xs).phase
    idle_x = may_take_here xs hx.before hx.cut

    idle_y : may_take o hy.before ≡ is_idle (run row o xs).phase
    idle_y = may_take_here ys hy.before hy.cut ∙ ap (λ (t : State). is_idle t.phase) (sym older.state)

    same_offer : offer (plain es) n ≡ offer (plain fs) k
    same_offer = ap (λ (t : List Timed × ℕ). offer t.0 t.1) (λ i. (older.events i, older.taken i))

    arrival_same : is_idle (run row o xs).phase ≡ true → x.arrival ≡ y.arrival
    arrival_same idle =
        same_or_gone (is_gone x.arrival) x.arrival y.arrival refl (sym gone_same)
        (λ stays. hx.arrival stays (idle_x ∙ idle) ∙ same_offer ∙ sym (hy.arrival (sym gone_same ∙ stays) (idle_y ∙ idle)))

    bare_y : bare y.feedback ≡ when_in row s.next s.greeted s.phase (is_gone y.arrival) (is_full y.feedback) y.arrival
    bare_y =
        bare_in row (run row o ys) y (run row o ys).phase fits_y
        ∙ ap (λ (t : State). when_in row t.next t.greeted t.phase (is_gone y.arrival) (is_full y.feedback) y.arrival) (sym older.state)

    bare_same : bare x.feedback ≡ bare y.feedback
    bare_same =
        bare_in row s x s.phase fits_x
        ∙ same_when row s.next s.greeted s.phase (is_gone x.arrival) (is_full x.feedback) x.arrival y.arrival arrival_same
        ∙ ap (λ (b : Bool × Bool). when_in row s.next s.greeted s.phase b.0 b.1 y.arrival) (λ i. (gone_same i, full_same i))
        ∙ sym bare_y

    from_list : Taken made.feedback other.feedback more others
    from_list =
        takes made.feedback other.feedback more others
        (sym (bare_uncounted made.feedback) ∙ sym (ap bare told_x) ∙ bare_uncounted x.feedback ∙ bare_same ∙ sym (bare_uncounted y.feedback) ∙ ap bare told_y ∙ bare_uncounted other.feedback)
        older.rest

    made_same : record made { feedback = uncounted made.feedback } ≡ record other { feedback = uncounted other.feedback }
    made_same i = record (own i) { feedback = from_list.same i }

    looks_same : look_made x ≡ look_made y
    looks_same = is_x ∙ made_same ∙ sym is_y

    state_same : after row (run row o xs) x ≡ after row (run row o ys) y
    state_same =
        untaken row s.next s.greeted s.phase x.moment x.word x.arrival y.arrival x.is_fault x.feedback gone_same arrival_same
        ∙ (same_step row s (look x.moment x.word y.arrival x.is_fault x.feedback) y (record {
          moment = ap (λ (l : LookMade). l.moment) looks_same;
          word = ap (λ (l : LookMade). l.word) looks_same;
          arrival = refl;
          outcome = ap (λ (l : LookMade). l.is_fault) looks_same;
          feedback = ap (λ (l : LookMade). l.feedback) looks_same;
        })).0
        ∙ ap (λ (t : State). after row t y) older.state

    taken_same : n' ≡ k'
    taken_same =
        hx.count
        ∙ counts (is_gone x.arrival) (is_idle s.phase) (may_take o hx.before) (may_take o hy.before) x.arrival y.arrival n k idle_x idle_y arrival_same older.taken
        ∙ ap (λ (b : Bool). taken_after b (may_take o hy.before && not (is_nothing y.arrival)) k) gone_same
        ∙ sym hy.count

    one_look : Agree (Looks made ∷ es) (Looks other ∷ fs) (x ∷ xs) (y ∷ ys) n' k' more others
    one_look = record {
      state = state_same;
      taken = taken_same;
      events = λ i. Looks (made_same i) ∷ older.events i;
      rest = from_list.rest;
    }

  one_life : (es fs : List Timed) (xs ys : List Look) (n k : ℕ) (more others : List ℕ) (parts parts' : List Part)
      → AreOffered row o (plain es) xs n → AreOffered row o (plain fs) ys k → IsCut row (life xs) parts → IsCut row (life ys) parts'
      → map (with_feedback only_full) es ≡ map (with_feedback only_full) fs → averages_told es ++ more ≡ averages_told fs ++ others
      → Agree es fs xs ys n k more others
  one_life [] [] [] [] n k more others parts parts' h h' c c' own list = record { state = refl; taken = h ∙ sym h'; events = refl; rest = list }
  one_life [] [] (x ∷ xs) ys n k more others parts parts' h h' c c' own list = absurd h
  one_life [] [] [] (y ∷ ys) n k more others parts parts' h h' c c' own list = absurd h'
  one_life [] (Comes b ∷ fs) xs ys n k more others parts parts' h h' c c' own list = absurd (cc)
  one_life [] (Looks other ∷ fs) xs ys n k more others parts parts' h h' c c' own list = absurd (cc)
  one_life (Comes a ∷ es) [] xs ys n k more others parts parts' h h' c c' own list = absurd (cc)
  one_life (Looks made ∷ es) [] xs ys n k more others parts parts' h h' c c' own list = absurd (cc)
  one_life (Comes a ∷ es) (Looks other ∷ fs) xs ys n k more others parts parts' h h' c c' own list = absurd (cc)
  one_life (Looks made ∷ es) (Comes b ∷ fs) xs ys n k more others parts parts' h h' c c' own list = absurd (cc)
  one_life (Comes a ∷ es) (Comes b ∷ fs) xs ys n k more others parts parts' h h' c c' own list =
      let first : a ≡ b = cc in
      let later : map (with_feedback only_full) es ≡ map (with_feedback only_full) fs = cc in
      let r = one_life es fs xs ys n k more others parts parts' h h' c c' later list in
      record { state = r.state; taken = r.taken; events = λ i. Comes (first i) ∷ r.events i; rest = r.rest }
  one_life (Looks made ∷ es) (Looks other ∷ fs) [] ys n k more others parts parts' h h' c c' own list = absurd h
  one_life (Looks made ∷ es) (Looks other ∷ fs) (x ∷ xs) [] n k more others parts parts' h h' c c' own list = absurd h'
  one_life (Looks made ∷ es) (Looks other ∷ fs) (x ∷ xs) (y ∷ ys) n k more others parts parts' (is, before, offered, older) (is', before', offered', older') c c' own list =
      let first : record made { feedback = only_full made.feedback } ≡ record other { feedback = only_full other.feedback } = cc in
      let later : map (with_feedback only_full) es ≡ map (with_feedback only_full) fs = cc in
      let r = one_life es fs xs ys before before' (told made.feedback ++ more) (told other.feedback ++ others) offered.before offered'.before older older' offered.cut offered'.cut later
      (sym (append_assoc (averages_told es) (told made.feedback) more) ∙ list ∙ append_assoc (averages_told fs) (told other.feedback) others) in
      one_look es fs xs ys made other x y before n before' k more others r first is is' offered offered' (fits x xs offered.before parts offered.cut c) (fits y ys offered'.before parts' offered'.cut c')

-- ---- two lists of lives ----

abbrev pub plain_sides : List Side → List Side
plain_sides ss = map (side_with uncounted) ss

module _ (row : SessionRow) where
  one_side : (s t : Side) (l m : Life) (n k : ℕ) (more others : List ℕ) → l.opening ≡ s.opening → m.opening ≡ t.opening
      → AreOffered row s.opening (plain s.events) l.looks n → AreOffered row t.opening (plain t.events) m.looks k → HasCut row l → HasCut row m
      → side_with only_full s ≡ side_with only_full t → averages_told s.events ++ more ≡ averages_told t.events ++ others
      → (side_with uncounted s ≡ side_with uncounted t) × (more ≡ others)
  one_side s t l m n k more others el em h h' (parts, c) (parts', c') own list =
      let opening : s.opening ≡ t.opening = ap (λ (r : Side). r.opening) own in
      let em' : m.opening ≡ s.opening = em ∙ sym opening in
      let r = one_life row s.opening s.events t.events l.looks m.looks n k more others parts parts' h
      (subst (λ (o : Opening). AreOffered row o (plain t.events) m.looks k) (sym opening) h')
      (subst (λ (o : Opening). IsCut row (record { opening = o; looks = l.looks }) parts) el c)
      (subst (λ (o : Opening). IsCut row (record { opening = o; looks = m.looks }) parts') em' c')
      (ap (λ (r : Side). r.events) own) list in
      (λ i. record { opening = opening i; events = r.events i }, r.rest)

  pub all_lives : (ss ts : List Side) (ls ms : List Life) (more others : List ℕ) → HaveSides row (plain_sides ss) ls → HaveSides row (plain_sides ts) ms
      → AllByRecursion (HasCut row) ls → AllByRecursion (HasCut row) ms
      → map (side_with only_full) ss ≡ map (side_with only_full) ts → averages_of_sides ss ++ more ≡ averages_of_sides ts ++ others
      → (plain_sides ss ≡ plain_sides ts) × (more ≡ others)
  all_lives [] [] ls ms more others h h' c c' own list = (refl, list)
  all_lives [] (t ∷ ts) ls ms more others h h' c c' own list = absurd (cc)
  all_lives (s ∷ ss) [] ls ms more others h h' c c' own list = absurd (cc)
  all_lives (s ∷ ss) (t ∷ ts) [] ms more others h h' c c' own list = absurd h
  all_lives (s ∷ ss) (t ∷ ts) (l ∷ ls) [] more others h h' c c' own list = absurd h'
  all_lives (s ∷ ss) (t ∷ ts) (l ∷ ls) (m ∷ ms) more others (el, (n, h), older) (em, (k, h'), older') (cl, c) (cm, c') own list =
      let first : side_with only_full s ≡ side_with only_full t = cc in
      let later : map (side_with only_full) ss ≡ map (side_with only_full) ts = cc in
      let r = all_lives ss ts ls ms (averages_told s.events ++ more) (averages_told t.events ++ others) older older' c c' later
      (sym (append_assoc (averages_of_sides ss) (averages_told s.events) more) ∙ list ∙ append_assoc (averages_of_sides ts) (averages_told t.events) others) in
      let now = one_side s t l m n k more others el em h h' cl cm first r.1 in
      (λ i. now.0 i ∷ r.0 i, now.1)

  -- lives that have replies can be cut
  pub have_cuts : (ls : List Life) (rs : List Sent) → LivesReplies row ls rs → AllByRecursion (HasCut row) ls
  have_cuts [] rs h = tt
  have_cuts (l ∷ ls) rs (older, newer, h, (parts, cut, e), f) = ((parts, cut), have_cuts ls older h)
