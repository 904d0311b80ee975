-- What is acknowledged was accepted: each ACK of the low replies has an event, and that has an accepted message.
use Rattle.std.proofs.Common.{◌≡◌, ℕ, ◌<◌, ◌≤◌, Bool, true, false, List, [], ◌∷◌, ◌++◌, length, map, Option, Some, None, refl, sym, subst, arith}
use Rattle.std.specs.Prelude.{if◌then◌else◌, nat_lt, ◌==◌, ◌&&◌, ◌||◌, not}
use Rattle.std.specs.List.{AllByRecursion}
use Rattle.std.proofs.lemmas.Bool.{cond_both}
use Rattle.pump_frame.specs.declared.row.SessionRow.{SessionRow}
use Rattle.pump_frame.specs.declared.frame.Frame.{Frame}
use Rattle.pump_core.specs.History.{Arrival, Nothing, Came, Bad, Gone, Look, Opening, Life, History}
use Rattle.pump_core.specs.Exchanges.{is_gone, is_hello, is_data, permits_frame, Wait, Waiting, Over, wait_on, Part, Holding, Release, Empty, Leaving, Answer, Repeated, Offering, Dropped, Delivery, Loss, part_on, looks_of, count_after, greeted_after, AreParts, IsCut}
use Rattle.pump_core.specs.Replies.{Sent, welcome, acknowledgement, refusal, sent, number_in, answer, replies_in, replies_of, LifeReplies, LivesReplies, LowReplies}
use Rattle.pump_core.proofs.Cuts.{one_cut}
use Rattle.pump_frame.specs.declared.payload.Payload.{Payload}
use Rattle.pump_core.specs.declared.event.Event.{Event}
use Rattle.pump_core.specs.declared.event.Event.TheVariants.{StoreBegin, StoreEnd, Forward, TakeUp, Send, CarryData, TakeBegin, TakeEnd, ReturnTaken, RemoveBegin, RemoveEnd, Acknowledge, Crash}
use Rattle.pump_core.specs.World.{World}
use Rattle.pump_core.specs.Events.{holds, with_kept, pump_crashed, receiver_crashed, Happens}
use Rattle.pump_core.proofs.Lists.{length-push}
use Rattle.pump_core.specs.Timed.{Step, Arrives, LowLook, HighLook, Offer, Read, Publish, Occurs, LowLife, Point, stands, after_event, LeadsTo, StepsTo}
use Rattle.pump_core.specs.Runs.{acknowledged_in, steps_in, StandInPlace, AllInPlace, IsRun}
use Rattle.world_laws.specs.Laws.{IsAckBelow, AcksBelow}

all_append : {X : Type 0} (P : X → Type 0) (xs ys : List X) → AllByRecursion P xs
    → AllByRecursion P ys → AllByRecursion P (xs ++ ys)
all_append P [] ys a b = b
all_append P (x ∷ xs) ys a b = (a.0, all_append P xs ys a.1 b)

-- ---- what was accepted stays so ----

kept_grows : (kept : Bool) (s : Option Payload) (ps : List Payload)
    → length ps ≤ length (with_kept kept s ps)
kept_grows true (Some p) ps = omega (arith, length-push ps p)
kept_grows true None ps = omega arith
kept_grows false s ps = omega arith

abbrev count : World → ℕ
count w = length w.accepted

crash_grows : (w : World) (pump : Option (Bool × Bool)) (receiver : Option Bool)
    → count w ≤ count (receiver_crashed (pump_crashed w pump) receiver)
crash_grows w None None = omega arith
crash_grows w None (Some r) = omega arith
crash_grows w (Some p) None = kept_grows p.0 w.storing w.accepted
crash_grows w (Some p) (Some r) = kept_grows p.0 w.storing w.accepted

to : (w x v : World) → v ≡ x → count w ≤ count x → count w ≤ count v
to w x v e h = subst (λ (y : World). count w ≤ count y) (sym e) h

grows : (w : World) (e : Event) (v : World) → Happens w e v → count w ≤ count v
grows w (StoreBegin p) v h = to w _ v h.2 (omega arith)
grows w StoreEnd v h = to w _ v h.2 (omega (arith, length-push w.accepted h.0))
grows w Forward v h = to w _ v h.3 (omega arith)
grows w TakeUp v h = to w _ v h.4 (omega arith)
grows w Send v h = to w _ v h.5 (omega arith)
grows w (CarryData k) v h =
    to w _ v h.4 (cond_both (nat_lt h.0.number (length w.received)) _ _ (λ (x : World). count w ≤ count x) (λ _. omega arith) (λ _. omega arith))
grows w TakeBegin v h = to w _ v h.3 (omega arith)
grows w TakeEnd v h = to w _ v h.3 (omega arith)
grows w (ReturnTaken k) v h =
    to w _ v h.3 (cond_both (h.0 == w.removed && holds w.high_hand h.0) _ _ (λ (x : World). count w ≤ count x) (λ _. omega arith) (λ _. omega arith))
grows w RemoveBegin v h = to w _ v h.2 (omega arith)
grows w RemoveEnd v h = to w _ v h.1 (omega arith)
grows w (Acknowledge n) v h = to w _ v h.3 (omega arith)
grows w (Crash None None) v h = absurd h
grows w (Crash None (Some r)) v h = to w _ v h (crash_grows w None (Some r))
grows w (Crash (Some p) r) v h = to w _ v h (crash_grows w (Some p) r)

-- ---- the events that stand in the looks ----

abbrev below : ℕ → Step → Type 0
below e (Occurs (Acknowledge n)) = n < e
below e _ = Unit {0}

abbrev LookBelow : ℕ → List Step → Type 0
LookBelow e steps = AllByRecursion (below e) steps

abbrev LifeBelow : ℕ → List (List Step) → Type 0
LifeBelow e stood = AllByRecursion (LookBelow e) stood

abbrev LivesBelow : ℕ → List LowLife → Type 0
LivesBelow e lives = AllByRecursion (λ (l : LowLife). LifeBelow e l.stood) lives

module _ (e e' : ℕ) (le : e ≤ e') where
  more : (s : Step) → below e s → below e' s
  more (Occurs (Acknowledge n)) h = omega (arith, le, h)
  more _ h = tt

  more_look : (steps : List Step) → LookBelow e steps → LookBelow e' steps
  more_look [] h = h
  more_look (s ∷ steps) h = (more s h.0, more_look steps h.1)

  more_life : (stood : List (List Step)) → LifeBelow e stood → LifeBelow e' stood
  more_life [] h = h
  more_life (s ∷ stood) h = (more_look s h.0, more_life stood h.1)

  more_lives : (lives : List LowLife) → LivesBelow e lives → LivesBelow e' lives
  more_lives [] h = h
  more_lives (l ∷ lives) h = (more_life l.stood h.0, more_lives lives h.1)

stands_below : (e : ℕ) (s : Step) (stood : List (List Step)) → below e s → LifeBelow e stood
    → LifeBelow e (stands s stood)
stands_below e s [] b h = ((b, tt), tt)
stands_below e s (newest ∷ older) b h = (all_append (below e) newest (s ∷ []) h.0 (b, tt), h.1)

abbrev Accepted : Point → Type 0
Accepted t = LifeBelow (count t.world) t.life.stood × LivesBelow (count t.world) t.earlier

after : (t : Point) (e : Event) (v : World) → Happens t.world e v → LifeBelow (count v) t.life.stood
    → LivesBelow (count v) t.earlier → Accepted (after_event t e v)
after t (StoreBegin p) v h a b =
    (stands_below (count v) (Occurs (StoreBegin p)) t.life.stood tt a, b)
after t StoreEnd v h a b = (stands_below (count v) (Occurs StoreEnd) t.life.stood tt a, b)
after t Forward v h a b = (stands_below (count v) (Occurs Forward) t.life.stood tt a, b)
after t (Acknowledge n) v h a b =
    (stands_below (count v) (Occurs (Acknowledge n)) t.life.stood (let g = grows t.world (Acknowledge n) v h in omega (arith, g, h.0)) a, b)
after t TakeUp v h a b = (a, b)
after t Send v h a b = (a, b)
after t (CarryData k) v h a b = (a, b)
after t TakeBegin v h a b = (a, b)
after t TakeEnd v h a b = (a, b)
after t (ReturnTaken k) v h a b = (a, b)
after t RemoveBegin v h a b = (a, b)
after t RemoveEnd v h a b = (a, b)
after t (Crash None r) v h a b = (a, b)
after t (Crash (Some p) r) v h a b = (tt, (a, b))

back : (u t : Point) → u ≡ t → Accepted t → Accepted u
back u t e h = subst Accepted (sym e) h

moves : (row : SessionRow) (t : Point) (s : Step) (u : Point) → Accepted t → StepsTo row t s u
    → Accepted u
moves row t (Arrives c) u a m = back u _ m a
moves row t (LowLook w x y z) u a m = back u _ m.1 ((tt, a.0), a.1)
moves row t (HighLook w) u a m = back u _ m.2 a
moves row t Offer u a m = back u _ m (stands_below (count t.world) Offer t.life.stood tt a.0, a.1)
moves row t Read u a m = back u _ m (stands_below (count t.world) Read t.life.stood tt a.0, a.1)
moves row t Publish u a m = back u _ m.2 a
moves row t (Occurs e) u a (v, h, waits, m) =
    let g = grows t.world e v h in
    back u _ m (after t e v h (more_life (count t.world) (count v) g t.life.stood a.0) (more_lives (count t.world) (count v) g t.earlier a.1))

leads_below : (row : SessionRow) (steps : List Step) (t : Point) → LeadsTo row steps t → Accepted t
leads_below row [] t (w, b, c, e) = back t _ e (tt, tt)
leads_below row (s ∷ past) u (t, before, m) = moves row t s u (leads_below row past t before) m

-- ---- the replies of a life ----

-- an answer is no acknowledgement
abbrev NoAck : ℕ → Option Frame → Type 0
NoAck e None = Unit {0}
NoAck e (Some r) = IsAckBelow e r

rows : (e n : ℕ) (row : SessionRow) (hello permitted wrong long far : Bool)
    → NoAck e (if hello then (if permitted then Some (welcome row n) else Some (refusal row 1 0)) else if wrong then Some (refusal row 2 0) else if long then Some (refusal row 3 0) else if far then Some (refusal row 4 n) else None)
rows e n row true true wrong long far = λ k. absurd (cc)
rows e n row true false wrong long far = λ k. absurd (cc)
rows e n row false permitted true long far = λ k. absurd (cc)
rows e n row false permitted false true far = λ k. absurd (cc)
rows e n row false permitted false false true = λ k. absurd (cc)
rows e n row false permitted false false false = tt

answer_is : (e : ℕ) (row : SessionRow) (n : ℕ) (g : Bool) (a : Arrival) → NoAck e (answer row n g a)
answer_is e row n g Nothing = tt
answer_is e row n g Gone = tt
answer_is e row n g Bad = λ k. absurd (cc)
answer_is e row n g (Came f) =
    rows e n row (is_hello f.kind) (permits_frame row f) (not (is_data f.kind) || not g || not (f.session == row.id)) (nat_lt row.message (length f.payload)) (nat_lt n f.number)

sent_below : (e : ℕ) (x : Look) (o : Option Frame) → NoAck e o → AcksBelow e (sent x o)
sent_below e x None h = tt
sent_below e x (Some r) h = (h, tt)

module _ (row : SessionRow) (o : Opening) (e : ℕ) where
  -- what stands in looks that come before others
  record Rest (past : List Look) : Type 0 where
    stood : List (List Step)
    place : StandInPlace row o past stood
    less : LifeBelow e stood

  after_one : (x : Look) (past : List Look) → Rest (x ∷ past) → Rest past
  after_one x past r = one r.stood r.place r.less
    where
      one : (stood : List (List Step)) → StandInPlace row o (x ∷ past) stood → LifeBelow e stood
          → Rest past
      one [] h a = absurd h
      one (s ∷ stood) h a = record { stood = stood; place = h.1; less = a.1 }

  after_many : (xs past : List Look) → Rest (xs ++ past) → Rest past
  after_many [] past r = r
  after_many (x ∷ xs) past r = after_many xs past (after_one x (xs ++ past) r)

  after_wait : (w : Wait) (past : List Look) → Rest (wait_on w past) → Rest past
  after_wait (Waiting quiet) past r = after_many quiet past r
  after_wait (Over quiet last) past r = after_many quiet past (after_one last (quiet ++ past) r)

  after_part : (p : Part) (past : List Look) → Rest (part_on p past) → Rest past
  after_part (Holding newest older) past r = after_many older past (after_one newest (older ++ past) r)
  after_part (Release before last) past r = after_many before past (after_one last (before ++ past) r)
  after_part (Empty x) past r = after_one x past r
  after_part (Leaving x) past r = after_one x past r
  after_part (Answer x) past r = after_one x past r
  after_part (Repeated first wait) past r = after_one first past (after_wait wait (first ∷ past) r)
  after_part (Offering first full) past r = after_one first past (after_many full (first ∷ past) r)
  after_part (Dropped first full gone) past r = after_one first past (after_many full (first ∷ past) (after_one gone (full ++ (first ∷ past)) r))
  after_part (Delivery first full passing wait) past r =
      after_one first past (after_many full (first ∷ past) (after_one passing (full ++ (first ∷ past)) (after_wait wait (passing ∷ (full ++ (first ∷ past))) r)))
  after_part (Loss first rest) past r = after_one first past (after_many rest (first ∷ past) r)

  -- an acknowledgement at the newest look
  acknowledges : (n : ℕ) (last : Look) (steps : List Step) → steps ≡ acknowledged_in last n
      → LookBelow e steps
      → AcksBelow e (if is_gone last.arrival then [] else sent last (Some (acknowledgement row n)))
  acknowledges n last steps is a = both (is_gone last.arrival) (subst (LookBelow e) is a)
    where
      both : (gone : Bool) → LookBelow e (if gone then [] else Occurs (Acknowledge n) ∷ [])
          → AcksBelow e (if gone then [] else sent last (Some (acknowledgement row n)))
      both true h = tt
      both false h = (λ k. h.0, tt)

  -- what stands in the newest look of these parts
  record Newest (parts : List Part) : Type 0 where
    steps : List Step
    stand : steps ≡ steps_in parts
    less : LookBelow e steps

  newest_of : (x : Look) (past : List Look) (parts : List Part) → AreParts row o parts
      → looks_of parts ≡ x ∷ past → Rest (x ∷ past) → Newest parts
  newest_of x past parts are same r = one r.stood r.place r.less
    where
      one : (stood : List (List Step)) → StandInPlace row o (x ∷ past) stood → LifeBelow e stood
          → Newest parts
      one [] h a = absurd h
      one (s ∷ stood) h a =
          let c : IsCut row (record { opening = o; looks = x ∷ past }) parts = record { are_parts = are; looks = sym same } in
          record { steps = s; stand = subst (λ (ps : List Part). s ≡ steps_in ps) (one_cut row (record { opening = o; looks = x ∷ past }) h.0.0 parts h.0.1 c) h.0.2; less = a.0 }

  part_acks : (p : Part) (before : List Part) → AreParts row o (p ∷ before)
      → Rest (part_on p (looks_of before))
      → AcksBelow e (replies_in row (count_after o before) (greeted_after row before) p)
  part_acks (Holding newest older) before are r = tt
  part_acks (Release looks last) before are r = tt
  part_acks (Empty x) before are r = tt
  part_acks (Leaving x) before are r = tt
  part_acks (Answer x) before are r = sent_below e x _ (answer_is e row (count_after o before) (greeted_after row before) x.arrival)
  part_acks (Repeated first (Waiting quiet)) before are r = tt
  part_acks (Repeated first (Over quiet last)) before are r =
      let n = newest_of last (quiet ++ (first ∷ looks_of before)) (Repeated first (Over quiet last) ∷ before) are refl r in
      acknowledges (number_in first.arrival) last n.steps n.stand n.less
  part_acks (Offering first full) before are r = tt
  part_acks (Dropped first full gone) before are r = tt
  part_acks (Delivery first full passing (Waiting quiet)) before are r = tt
  part_acks (Delivery first full passing (Over quiet last)) before are r =
      let n = newest_of last (quiet ++ (passing ∷ (full ++ (first ∷ looks_of before)))) (Delivery first full passing (Over quiet last) ∷ before) are refl r in
      acknowledges (number_in first.arrival) last n.steps n.stand n.less
  part_acks (Loss first rest) before are r = (λ k. absurd (cc), tt)

  parts_acks : (parts : List Part) → AreParts row o parts → Rest (looks_of parts)
      → AcksBelow e (replies_of row o parts)
  parts_acks [] are r = tt
  parts_acks (p ∷ before) are r =
      all_append (λ (s : Sent). IsAckBelow e s.reply) (replies_of row o before) _ (parts_acks before are.1 (after_part p (looks_of before) r)) (part_acks p before are r)

life_acks : (row : SessionRow) (l : Life) (e : ℕ) (stood : List (List Step)) (xs : List Sent)
    → StandInPlace row l.opening l.looks stood → LifeBelow e stood → LifeReplies row l xs
    → AcksBelow e xs
life_acks row l e stood xs h a (parts, cut, is) =
    subst (AcksBelow e) (sym is) (parts_acks row l.opening e parts cut.are_parts
    (record { stood = stood; place = subst (λ (looks : List Look). StandInPlace row l.opening looks stood) cut.looks h; less = a }))

lives_acks : (row : SessionRow) (ls : List Life) (e : ℕ) (lives : List LowLife) (xs : List Sent)
    → AllInPlace row ls (map (λ (l : LowLife). l.stood) lives) → LivesBelow e lives
    → LivesReplies row ls xs → AcksBelow e xs
lives_acks row [] e lives xs h a is = subst (AcksBelow e) (sym is) tt
lives_acks row (l ∷ ls) e [] xs h a is = absurd h
lives_acks row (l ∷ ls) e (s ∷ lives) xs h a (older, newer, p, q, is) =
    subst (AcksBelow e) (sym is) (all_append (λ (x : Sent). IsAckBelow e x.reply) older newer
    (lives_acks row ls e lives older h.1 a.1 p) (life_acks row l e s.stood newer h.0 a.0 q))

pub run_acks : (row : SessionRow) (steps : List Step) (t : Point) (h : History) (xs : List Sent)
    → IsRun row steps t h → LowReplies row h xs → AcksBelow (count t.world) xs
run_acks row steps t h xs r is =
    lives_acks row (h.life ∷ h.earlier) (count t.world) (t.life ∷ t.earlier) xs r.places (leads_below row steps t r.leads) is
