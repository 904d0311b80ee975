-- What a low look is told: the state before it settles which kind of feedback it has, so that two looks
-- in one state that are told the same have one feedback up to its count.
use Rattle.std.proofs.Common.{◌≡◌, ℕ, Bool, true, false, List, [], ◌∷◌, ◌++◌, map, Option, Some, None, refl, sym, ap, ◌∙◌}
use Rattle.std.specs.Prelude.{◌≢◌, if◌then◌else◌, filter_map}
use Rattle.std.specs.List.{AllByRecursion, cons_option}
use Rattle.std.proofs.lemmas.List.Elements.{filter_map-append}
use Rattle.pump_frame.specs.declared.row.SessionRow.{SessionRow}
use Rattle.pump_core.specs.declared.feedback.Feedback.{Feedback}
use Rattle.pump_core.specs.declared.feedback.Feedback.TheVariants.{Quiet, Full, Passed, Released, Repeat}
use Rattle.pump_core.specs.History.{Arrival}
use Rattle.pump_core.specs.History.{Nothing, Came, Bad, Gone}
use Rattle.pump_core.specs.Phases.{Phase}
use Rattle.pump_core.specs.Phases.{Idle, Passing, Waiting as Waits, Down}
use Rattle.pump_core.specs.Exchanges.{is_gone, is_repeat, has_average, is_passed}
use Rattle.pump_core.specs.Replies.{Sent}
use Rattle.pump_core.specs.Standing.{State}
use Rattle.pump_core.specs.Step.{is_quiet, fits_passing, fits_idle, fits_in, FeedbackFits, takes_in, takes_at, stores_idle, stores_in, stores_at}
use Rattle.pump_core.specs.Pairs.{uncounted}
use Rattle.script_reader.specs.declared.event.Event.{Event}
use Rattle.script_reader.specs.Lows.{printed_store, printed_feedback, printed_replies}
use Rattle.script_reader.specs.Steps.{look_of}
use Rattle.script_reader.specs.declared.event.Event.TheVariants as prints
use Rattle.script_reader.specs.Sides as sides
use Rattle.script_reader.specs.Sides.{Told, told, told_to_low, full_at, full_moments, average_in, averages, found_full, restarts_in}

-- ---- what is said to Low ----

-- what comes down to Low: that the buffer is full, and when; that it has taken a message that nobody
-- waits for; an average; whether it is found full at a restart
pub data Said : Type 0 where
  Full' : (moment : ℕ) → Said
  Released' : Said
  Average' : (average : ℕ) → Said
  Restarted' : (is_held : Bool) → Said

abbrev pub said : Event → Option Said
said (prints.Full session m) = Some (Full' m)
said (prints.Released session m) = Some Released'
said (prints.Passed session m seen) = Some (Average' seen.average)
said (prints.Repeat session m seen) = Some (Average' seen.average)
said (prints.Restart session m accepted removed held) = Some (Restarted' held)
said _ = None

abbrev pub said_to_low : List Event → List Said
said_to_low printed = filter_map said printed

-- .. without the moments
abbrev pub plain : Said → Told
plain (Full' m) = sides.Full
plain Released' = sides.Released
plain (Average' a) = sides.Average a
plain (Restarted' held) = sides.Restarted held

abbrev pub full_said : Said → Option ℕ
full_said (Full' m) = Some m
full_said _ = None

abbrev pub average_said : Said → Option ℕ
average_said (Average' a) = Some a
average_said _ = None

abbrev pub restart_said : Said → Option Bool
restart_said (Restarted' held) = Some held
restart_said _ = None

record Tells (x : Event) (ss : List Said) : Type 0 where
  told : cons_option (told x) (map plain ss) ≡ map plain (cons_option (said x) ss)
  full : cons_option (full_at x) (filter_map full_said ss) ≡ filter_map full_said (cons_option (said x) ss)
  average : cons_option (average_in x) (filter_map average_said ss) ≡ filter_map average_said (cons_option (said x) ss)
  restart : cons_option (found_full x) (filter_map restart_said ss) ≡ filter_map restart_said (cons_option (said x) ss)

tells : (x : Event) (ss : List Said) → Tells x ss
tells (prints.Stored session m n) ss = record { told = refl; full = refl; average = refl; restart = refl }
tells (prints.Full session m) ss = record { told = refl; full = refl; average = refl; restart = refl }
tells (prints.Passed session m seen) ss = record { told = refl; full = refl; average = refl; restart = refl }
tells (prints.Released session m) ss = record { told = refl; full = refl; average = refl; restart = refl }
tells (prints.Repeat session m seen) ss = record { told = refl; full = refl; average = refl; restart = refl }
tells (prints.Low session m r) ss = record { told = refl; full = refl; average = refl; restart = refl }
tells (prints.Removed session m n t) ss = record { told = refl; full = refl; average = refl; restart = refl }
tells (prints.Sent session m n) ss = record { told = refl; full = refl; average = refl; restart = refl }
tells (prints.Took session n) ss = record { told = refl; full = refl; average = refl; restart = refl }
tells (prints.Again session n) ss = record { told = refl; full = refl; average = refl; restart = refl }
tells (prints.Attach session m n) ss = record { told = refl; full = refl; average = refl; restart = refl }
tells (prints.Restart session m a b held) ss = record { told = refl; full = refl; average = refl; restart = refl }
tells (prints.End session a high) ss = record { told = refl; full = refl; average = refl; restart = refl }
tells (prints.Show session a b r) ss = record { told = refl; full = refl; average = refl; restart = refl }
tells (prints.Live session n payload) ss = record { told = refl; full = refl; average = refl; restart = refl }

pub told_is_said : (xs : List Event) → told_to_low xs ≡ map plain (said_to_low xs)
told_is_said [] = refl
told_is_said (x ∷ xs) = ap (cons_option (told x)) (told_is_said xs) ∙ (tells x (said_to_low xs)).told

pub full_is_said : (xs : List Event) → full_moments xs ≡ filter_map full_said (said_to_low xs)
full_is_said [] = refl
full_is_said (x ∷ xs) = ap (cons_option (full_at x)) (full_is_said xs) ∙ (tells x (said_to_low xs)).full

pub average_is_said : (xs : List Event) → averages xs ≡ filter_map average_said (said_to_low xs)
average_is_said [] = refl
average_is_said (x ∷ xs) = ap (cons_option (average_in x)) (average_is_said xs) ∙ (tells x (said_to_low xs)).average

pub restart_is_said : (xs : List Event) → restarts_in xs ≡ filter_map restart_said (said_to_low xs)
restart_is_said [] = refl
restart_is_said (x ∷ xs) = ap (cons_option (found_full x)) (restart_is_said xs) ∙ (tells x (said_to_low xs)).restart

-- ---- what a look prints ----

pub map-append : (xs ys : List Said) → map plain (xs ++ ys) ≡ map plain xs ++ map plain ys
map-append [] ys = refl
map-append (x ∷ xs) ys = ap (λ l. plain x ∷ l) (map-append xs ys)

pub said-append : (xs ys : List Event) → said_to_low (xs ++ ys) ≡ said_to_low xs ++ said_to_low ys
said-append xs ys = filter_map-append said xs ys

-- what a feedback says at m
abbrev pub said_by : ℕ → Feedback → List Said
said_by m Quiet = []
said_by m Full = Full' m ∷ []
said_by m (Passed s) = Average' s.average ∷ []
said_by m Released = Released' ∷ []
said_by m (Repeat s) = Average' s.average ∷ []

of_store : (n m : ℕ) (st : Option ℕ) (later : List Event) → said_to_low (printed_store n m st ++ later) ≡ said_to_low later
of_store n m None later = refl
of_store n m (Some k) later = refl

of_replies : (n : ℕ) (rs : List Sent) → said_to_low (printed_replies n rs) ≡ []
of_replies n [] = refl
of_replies n (r ∷ rs) = of_replies n rs

of_feedback : (n m : ℕ) (f : Feedback) (rs : List Sent) → said_to_low (printed_feedback n m f ++ printed_replies n rs) ≡ said_by m f
of_feedback n m Quiet rs = of_replies n rs
of_feedback n m Full rs = ap (λ l. Full' m ∷ l) (of_replies n rs)
of_feedback n m (Passed s) rs = ap (λ l. Average' s.average ∷ l) (of_replies n rs)
of_feedback n m Released rs = ap (λ l. Released' ∷ l) (of_replies n rs)
of_feedback n m (Repeat s) rs = ap (λ l. Average' s.average ∷ l) (of_replies n rs)

pub said_of_look : (n m : ℕ) (st : Option ℕ) (f : Feedback) (new : List Sent)
    → said_to_low (printed_store n m st ++ (printed_feedback n m f ++ printed_replies n new)) ≡ said_by m f
said_of_look n m st f new = of_store n m st (printed_feedback n m f ++ printed_replies n new) ∙ of_feedback n m f new

-- the count is not said
pub said_uncounted : (m : ℕ) (f : Feedback) → said_by m f ≡ said_by m (uncounted f)
said_uncounted m Quiet = refl
said_uncounted m Full = refl
said_uncounted m (Passed s) = refl
said_uncounted m Released = refl
said_uncounted m (Repeat s) = refl

-- ---- kinds of feedback ----

abbrev is_released : Feedback → Bool
is_released Released = true
is_released _ = false

-- both are quiet or both are not, both are of a repeat or both are not, and it is not so that one owes
-- an acknowledgement and the other does not
pub record OneKind (f g : Feedback) : Type 0 where
  pub quiet : is_quiet f ≡ is_quiet g
  pub repeats : has_average f ≡ has_average g
  pub apart : is_passed f ≡ true → is_released g ≡ true → ⊥
  pub apart' : is_released f ≡ true → is_passed g ≡ true → ⊥

quiet_repeats : (f : Feedback) → is_quiet f ≡ true → has_average f ≡ false
quiet_repeats Quiet e = refl
quiet_repeats Full e = absurd (cc)
quiet_repeats (Passed s) e = absurd (cc)
quiet_repeats Released e = absurd (cc)
quiet_repeats (Repeat s) e = absurd (cc)

repeats_quiet : (f : Feedback) → has_average f ≡ true → is_quiet f ≡ false
repeats_quiet (Repeat s) e = refl
repeats_quiet Quiet e = absurd (cc)
repeats_quiet Full e = absurd (cc)
repeats_quiet (Passed s) e = absurd (cc)
repeats_quiet Released e = absurd (cc)

passes_quiet : (owed : Option ℕ) (f : Feedback) → fits_passing owed f ≡ true → (is_quiet f ≡ false) × (has_average f ≡ false)
passes_quiet owed Full e = (refl, refl)
passes_quiet None Released e = (refl, refl)
passes_quiet None (Passed s) e = absurd (cc)
passes_quiet (Some n) (Passed s) e = (refl, refl)
passes_quiet (Some n) Released e = absurd (cc)
passes_quiet None Quiet e = absurd (cc)
passes_quiet (Some n) Quiet e = absurd (cc)
passes_quiet None (Repeat s) e = absurd (cc)
passes_quiet (Some n) (Repeat s) e = absurd (cc)

none_passed : (f : Feedback) → fits_passing None f ≡ true → is_passed f ≡ false
none_passed Full e = refl
none_passed Released e = refl
none_passed Quiet e = absurd (cc)
none_passed (Passed s) e = absurd (cc)
none_passed (Repeat s) e = absurd (cc)

some_released : (n : ℕ) (f : Feedback) → fits_passing (Some n) f ≡ true → is_released f ≡ false
some_released n Full e = refl
some_released n (Passed s) e = refl
some_released n Quiet e = absurd (cc)
some_released n Released e = absurd (cc)
some_released n (Repeat s) e = absurd (cc)

not_passed : (f : Feedback) → is_passed f ≡ true → (is_quiet f ≡ false) × (has_average f ≡ false)
not_passed (Passed s) e = (refl, refl)
not_passed Full e = absurd (cc)
not_passed Quiet e = absurd (cc)
not_passed Released e = absurd (cc)
not_passed (Repeat s) e = absurd (cc)

both_quiet : (f g : Feedback) → is_quiet f ≡ true → is_quiet g ≡ true → OneKind f g
both_quiet f g e h = record {
  quiet = e ∙ sym h;
  repeats = quiet_repeats f e ∙ sym (quiet_repeats g h);
  apart = λ p r. let q = (not_passed f p).0 in cc;
  apart' = λ r p. let q = (not_passed g p).0 in cc;
}

both_repeat : (f g : Feedback) → has_average f ≡ true → has_average g ≡ true → OneKind f g
both_repeat f g e h = record {
  quiet = repeats_quiet f e ∙ sym (repeats_quiet g h);
  repeats = e ∙ sym h;
  apart = λ p r. let q = (not_passed f p).1 in cc;
  apart' = λ r p. let q = (not_passed g p).1 in cc;
}

both_pass : (owed : Option ℕ) (f g : Feedback) → fits_passing owed f ≡ true → fits_passing owed g ≡ true → OneKind f g
both_pass None f g e h =
    let a = passes_quiet None f e in
    let b = passes_quiet None g h in
    record {
      quiet = a.0 ∙ sym b.0;
      repeats = a.1 ∙ sym b.1;
      apart = λ p r. let q = none_passed f e in cc;
      apart' = λ r p. let q = none_passed g h in cc;
    }
both_pass (Some n) f g e h =
    let a = passes_quiet (Some n) f e in
    let b = passes_quiet (Some n) g h in
    record {
      quiet = a.0 ∙ sym b.0;
      repeats = a.1 ∙ sym b.1;
      apart = λ p r. let q = some_released n g h in cc;
      apart' = λ r p. let q = some_released n f e in cc;
    }

by_offer : (owed : Option ℕ) (gone : Bool) (f g : Feedback)
    → (if gone then is_quiet f else fits_passing owed f) ≡ true → (if gone then is_quiet g else fits_passing owed g) ≡ true → OneKind f g
by_offer owed true f g e h = both_quiet f g e h
by_offer owed false f g e h = both_pass owed f g e h

by_repeat : (again : Bool) (f g : Feedback)
    → (if again then has_average f else is_quiet f) ≡ true → (if again then has_average g else is_quiet g) ≡ true → OneKind f g
by_repeat true f g e h = both_repeat f g e h
by_repeat false f g e h = both_quiet f g e h

by_arrival : (row : SessionRow) (s : State) (a : Arrival) (f g : Feedback)
    → fits_idle row s a f ≡ true → fits_idle row s a g ≡ true → OneKind f g
by_arrival row s Nothing f g e h = both_quiet f g e h
by_arrival row s Bad f g e h = both_quiet f g e h
by_arrival row s Gone f g e h = both_quiet f g e h
by_arrival row s (Came c) f g e h = by_repeat (is_repeat row s.next s.greeted c) f g e h

by_phase : (row : SessionRow) (s : State) (m w : ℕ) (a : Arrival) (f g : Feedback) (ph : Phase)
    → fits_in row s (look_of m w a f) ph ≡ true → fits_in row s (look_of m w a g) ph ≡ true → OneKind f g
by_phase row s m w a f g Down e h = both_quiet f g e h
by_phase row s m w a f g (Waits n at) e h = both_quiet f g e h
by_phase row s m w a f g (Passing owed) e h = by_offer owed (is_gone a) f g e h
by_phase row s m w a f g Idle e h = by_arrival row s a f g e h

-- ---- one feedback up to its count ----

same_average : (a b : ℕ) (later more : List Told) → sides.Average a ∷ later ≡ sides.Average b ∷ more → a ≡ b
same_average a b later more e = cc

-- what two restarts found first is the same
pub one_found : (a b : Bool) (later more : List Said) → map plain (Restarted' a ∷ later) ≡ map plain (Restarted' b ∷ more) → a ≡ b
one_found a b later more e = by a b (map plain later) (map plain more) e
  where
    by : (a b : Bool) (later more : List Told) → sides.Restarted a ∷ later ≡ sides.Restarted b ∷ more → a ≡ b
    by a b later more e = cc

-- what is said first is the same without its moment
pub one_told : (f g : Feedback) (m : ℕ) (later more : List Said) → OneKind f g
    → map plain (said_by m f ++ later) ≡ map plain (said_by m g ++ more) → uncounted f ≡ uncounted g
one_told (Passed s) (Passed t) m later more k e = ap (λ (a : ℕ). Passed (record { count = 0; average = a })) (same_average s.average t.average (map plain later) (map plain more) e)
one_told (Repeat s) (Repeat t) m later more k e = ap (λ (a : ℕ). Repeat (record { count = 0; average = a })) (same_average s.average t.average (map plain later) (map plain more) e)
one_told Quiet Quiet m later more k e = refl
one_told Full Full m later more k e = refl
one_told Released Released m later more k e = refl
one_told Quiet Full m later more k e = let q = k.quiet in absurd (cc)
one_told Quiet (Passed t) m later more k e = let q = k.quiet in absurd (cc)
one_told Quiet Released m later more k e = let q = k.quiet in absurd (cc)
one_told Quiet (Repeat t) m later more k e = let q = k.quiet in absurd (cc)
one_told Full Quiet m later more k e = let q = k.quiet in absurd (cc)
one_told (Passed s) Quiet m later more k e = let q = k.quiet in absurd (cc)
one_told Released Quiet m later more k e = let q = k.quiet in absurd (cc)
one_told (Repeat s) Quiet m later more k e = let q = k.quiet in absurd (cc)
one_told Full (Repeat t) m later more k e = let q = k.repeats in absurd (cc)
one_told (Passed s) (Repeat t) m later more k e = let q = k.repeats in absurd (cc)
one_told Released (Repeat t) m later more k e = let q = k.repeats in absurd (cc)
one_told (Repeat s) Full m later more k e = let q = k.repeats in absurd (cc)
one_told (Repeat s) (Passed t) m later more k e = let q = k.repeats in absurd (cc)
one_told (Repeat s) Released m later more k e = let q = k.repeats in absurd (cc)
one_told Full (Passed t) m later more k e = absurd (cc)
one_told Full Released m later more k e = absurd (cc)
one_told (Passed s) Full m later more k e = absurd (cc)
one_told (Passed s) Released m later more k e = absurd (cc)
one_told Released Full m later more k e = absurd (cc)
one_told Released (Passed t) m later more k e = absurd (cc)

pub same_found : (a b : Bool) (later more : List Bool) → a ∷ later ≡ b ∷ more → a ≡ b
same_found a b later more e = cc

-- two looks in one state that are offered the same have feedback of one kind
pub looks_one_kind : (row : SessionRow) (s : State) (m w : ℕ) (a : Arrival) (f g : Feedback)
    → FeedbackFits row s (look_of m w a f) → FeedbackFits row s (look_of m w a g) → OneKind f g
looks_one_kind row s m w a f g e h = by_phase row s m w a f g s.phase e h

same_head : (a b : ℕ) (later more : List ℕ) → a ∷ later ≡ b ∷ more → a ≡ b
same_head a b later more e = cc

-- a moment that stands first is not among the others
new_head : (m : ℕ) (later more : List ℕ) → AllByRecursion (λ n. m ≢ n) more → m ∷ later ≡ more → ⊥
new_head m later [] off e = cc
new_head m later (n ∷ more) off e = off.0 (same_head m n later more e)

-- what is said first is the same, where the full moments and the averages are the same, and none of the
-- later moments is this one
pub one_full : (f g : Feedback) (m : ℕ) (later more : List Said) → OneKind f g
    → AllByRecursion (λ n. m ≢ n) (filter_map full_said later) → AllByRecursion (λ n. m ≢ n) (filter_map full_said more)
    → filter_map full_said (said_by m f ++ later) ≡ filter_map full_said (said_by m g ++ more)
    → filter_map average_said (said_by m f ++ later) ≡ filter_map average_said (said_by m g ++ more)
    → uncounted f ≡ uncounted g
one_full (Passed s) (Passed t) m later more k off off' e a = ap (λ (a : ℕ). Passed (record { count = 0; average = a })) (same_head s.average t.average _ _ a)
one_full (Repeat s) (Repeat t) m later more k off off' e a = ap (λ (a : ℕ). Repeat (record { count = 0; average = a })) (same_head s.average t.average _ _ a)
one_full Quiet Quiet m later more k off off' e a = refl
one_full Full Full m later more k off off' e a = refl
one_full Released Released m later more k off off' e a = refl
one_full Quiet Full m later more k off off' e a = let q = k.quiet in absurd (cc)
one_full Quiet (Passed t) m later more k off off' e a = let q = k.quiet in absurd (cc)
one_full Quiet Released m later more k off off' e a = let q = k.quiet in absurd (cc)
one_full Quiet (Repeat t) m later more k off off' e a = let q = k.quiet in absurd (cc)
one_full Full Quiet m later more k off off' e a = let q = k.quiet in absurd (cc)
one_full (Passed s) Quiet m later more k off off' e a = let q = k.quiet in absurd (cc)
one_full Released Quiet m later more k off off' e a = let q = k.quiet in absurd (cc)
one_full (Repeat s) Quiet m later more k off off' e a = let q = k.quiet in absurd (cc)
one_full Full (Repeat t) m later more k off off' e a = let q = k.repeats in absurd (cc)
one_full (Passed s) (Repeat t) m later more k off off' e a = let q = k.repeats in absurd (cc)
one_full Released (Repeat t) m later more k off off' e a = let q = k.repeats in absurd (cc)
one_full (Repeat s) Full m later more k off off' e a = let q = k.repeats in absurd (cc)
one_full (Repeat s) (Passed t) m later more k off off' e a = let q = k.repeats in absurd (cc)
one_full (Repeat s) Released m later more k off off' e a = let q = k.repeats in absurd (cc)
one_full Full (Passed t) m later more k off off' e a = absurd (new_head m _ _ off' e)
one_full Full Released m later more k off off' e a = absurd (new_head m _ _ off' e)
one_full (Passed s) Full m later more k off off' e a = absurd (new_head m _ _ off (sym e))
one_full Released Full m later more k off off' e a = absurd (new_head m _ _ off (sym e))
one_full (Passed s) Released m later more k off off' e a = absurd (k.apart refl refl)
one_full Released (Passed t) m later more k off off' e a = absurd (k.apart' refl refl)

-- they take their arrival or not
takes_same : (m w : ℕ) (a : Arrival) (f g : Feedback) (ph : Phase) → takes_in (look_of m w a f) ph ≡ takes_in (look_of m w a g) ph
takes_same m w a f g Down = refl
takes_same m w a f g (Waits n at) = refl
takes_same m w a f g (Passing owed) = refl
takes_same m w a f g Idle = refl

pub looks_take : (s : State) (m w : ℕ) (a : Arrival) (f g : Feedback) → takes_at s (look_of m w a f) ≡ takes_at s (look_of m w a g)
looks_take s m w a f g = takes_same m w a f g s.phase

-- they store their message or not
stores_alike : (row : SessionRow) (s : State) (m w : ℕ) (a b : Arrival) (f g : Feedback) → stores_idle row s (look_of m w a f) b ≡ stores_idle row s (look_of m w a g) b
stores_alike row s m w a Nothing f g = refl
stores_alike row s m w a Bad f g = refl
stores_alike row s m w a Gone f g = refl
stores_alike row s m w a (Came c) f g = refl

stores_same : (row : SessionRow) (s : State) (m w : ℕ) (a : Arrival) (f g : Feedback) (ph : Phase) → stores_in row s (look_of m w a f) ph ≡ stores_in row s (look_of m w a g) ph
stores_same row s m w a f g Down = refl
stores_same row s m w a f g (Waits n at) = refl
stores_same row s m w a f g (Passing owed) = refl
stores_same row s m w a f g Idle = stores_alike row s m w a a f g

pub looks_store : (row : SessionRow) (s : State) (m w : ℕ) (a : Arrival) (f g : Feedback) → stores_at row s (look_of m w a f) ≡ stores_at row s (look_of m w a g)
looks_store row s m w a f g = stores_same row s m w a f g s.phase
