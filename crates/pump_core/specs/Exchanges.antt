-- The exchanges into which a life is cut: a grammar over whole lives. Every list has its newest entry
-- first: looks, parts, lives.
use Rattle.std.specs.Prelude.{◌≡◌, ℕ, ◌+◌, ◌^◌, Bool, true, false, ◌&&◌, ◌==◌, nat_lt, nat_le, if◌then◌else◌, List, []}
use Rattle.std.specs.Prelude.{◌∷◌, ◌++◌, length}
use Rattle.std.specs.List.{AllByRecursion, list_any}
use Rattle.std.specs.Str.{bytes_eq}
use Rattle.pump_frame.specs.Frames.{greeting}
use Rattle.pump_frame.specs.Delays.{delay_of}
use Rattle.pump_frame.specs.declared.frame.Kind.{Kind}
use Rattle.pump_frame.specs.declared.frame.Kind.TheVariants.{Hello, Data}
use Rattle.pump_frame.specs.declared.frame.Frame.{Frame}
use Rattle.pump_frame.specs.declared.row.SessionRow.{SessionRow}
use Rattle.pump_core.specs.History.{Arrival}
use Rattle.pump_core.specs.History.{Nothing, Came, Bad, Gone}
use Rattle.pump_core.specs.declared.feedback.Feedback.{Feedback}
use Rattle.pump_core.specs.declared.feedback.Feedback.TheVariants.{Quiet, Full, Passed, Released, Repeat}
use Rattle.pump_core.specs.History.{Look, Opening, Life}

-- ---- one look ----

abbrev pub is_gone : Arrival → Bool
is_gone Gone = true
is_gone Nothing = false
is_gone Bad = false
is_gone (Came f) = false

abbrev pub is_hello : Kind → Bool
is_hello Hello = true
is_hello _ = false

abbrev pub is_data : Kind → Bool
is_data Data = true
is_data _ = false

-- the row permits this HELLO: it names the row's session, and just the row's two parties
abbrev pub permits_frame : SessionRow → Frame → Bool
permits_frame row f = f.session == row.id && bytes_eq f.payload (greeting row.low row.high)

-- a DATA frame that may be stored or repeated: somebody permitted sent it, to the row's session, and
-- it is no longer than the row's messages
abbrev pub is_fit : SessionRow → Bool → Frame → Bool
is_fit row greeted f = is_data f.kind && greeted && f.session == row.id && nat_le (length f.payload) row.message

-- a fit frame whose message is among the `count` that are stored
abbrev pub is_repeat : SessionRow → ℕ → Bool → Frame → Bool
is_repeat row count greeted f = is_fit row greeted f && nat_lt f.number count

-- a fit frame with the next message, where there still is a number for it
abbrev pub is_next : SessionRow → ℕ → Bool → Frame → Bool
is_next row count greeted f = is_fit row greeted f && f.number == count && nat_lt count (2 ^ 48)

-- the feedback of a look that takes a repeated frame
abbrev pub has_average : Feedback → Bool
has_average (Repeat s) = true
has_average _ = false

-- the feedback of a look that passes a message whose acknowledgement is owed
abbrev pub is_passed : Feedback → Bool
is_passed (Passed s) = true
is_passed _ = false

-- the average that was read, which Passed and Repeat alone have
abbrev pub average_told : Feedback → ℕ
average_told (Passed s) = s.average
average_told (Repeat s) = s.average
average_told _ = 0

-- when the acknowledgement of an exchange is due, by its look with Repeat or Passed
abbrev pub due : SessionRow → Look → ℕ
due row x = x.moment + delay_of (average_told x.feedback) x.word row.longest

-- ---- parts ----

-- the looks of a wait: unfinished, or over with the look that ended it
pub data Wait : Type 0 where
  Waiting : (quiet : List Look) → Wait
  Over : (quiet : List Look) (last : Look) → Wait

-- a part of a life:
-- Release: a message found in the hand, or left there by a lost connection, is passed;
-- Empty: nothing came; Leaving: the connection is gone; Answer: an arrival is answered at once;
-- Repeated: a stored message comes again, and is acknowledged after a wait;
-- Delivery: a message is stored, passed, and acknowledged after a wait;
-- Loss: a message could not be stored, and the life is as good as over.
-- Holding and Offering are a release and a delivery that are unfinished before their passing look,
-- and Dropped is a delivery that a lost connection ended before it
pub data Part : Type 0 where
  Holding : (newest : Look) (older : List Look) → Part
  Release : (before : List Look) (last : Look) → Part
  Empty : (x : Look) → Part
  Leaving : (x : Look) → Part
  Answer : (x : Look) → Part
  Repeated : (first : Look) (wait : Wait) → Part
  Offering : (first : Look) (full : List Look) → Part
  Dropped : (first : Look) (full : List Look) (gone : Look) → Part
  Delivery : (first : Look) (full : List Look) (passing : Look) (wait : Wait) → Part
  Loss : (first : Look) (rest : List Look) → Part

-- the looks of a wait, on top of those before it
abbrev pub wait_on : Wait → List Look → List Look
wait_on (Waiting quiet) past = quiet ++ past
wait_on (Over quiet last) past = last ∷ (quiet ++ past)

-- the looks of a part, on top of those before it
abbrev pub part_on : Part → List Look → List Look
part_on (Holding newest older) past = newest ∷ (older ++ past)
part_on (Release before last) past = last ∷ (before ++ past)
part_on (Empty x) past = x ∷ past
part_on (Leaving x) past = x ∷ past
part_on (Answer x) past = x ∷ past
part_on (Repeated first wait) past = wait_on wait (first ∷ past)
part_on (Offering first full) past = full ++ (first ∷ past)
part_on (Dropped first full gone) past = gone ∷ (full ++ (first ∷ past))
part_on (Delivery first full passing wait) past = wait_on wait (passing ∷ (full ++ (first ∷ past)))
part_on (Loss first rest) past = rest ++ (first ∷ past)

-- the looks of parts, the newest part and the newest look first
abbrev pub looks_of : List Part → List Look
looks_of [] = []
looks_of (p ∷ before) = part_on p (looks_of before)

-- the wait has ended
abbrev pub is_over : Wait → Bool
is_over (Waiting quiet) = false
is_over (Over quiet last) = true

-- another part may follow
abbrev pub is_finished : Part → Bool
is_finished (Holding newest older) = false
is_finished (Release before last) = true
is_finished (Empty x) = true
is_finished (Leaving x) = true
is_finished (Answer x) = true
is_finished (Repeated first wait) = is_over wait
is_finished (Offering first full) = false
is_finished (Dropped first full gone) = true
is_finished (Delivery first full passing wait) = is_over wait
is_finished (Loss first rest) = false

-- ---- what a part finds ----

-- the number of stored messages after a part that finds `before` of them: a delivery adds one
abbrev pub count_in : Part → ℕ → ℕ
count_in (Offering first full) before = before + 1
count_in (Dropped first full gone) before = before + 1
count_in (Delivery first full passing wait) before = before + 1
count_in _ before = before

-- the number of stored messages after these parts
abbrev pub count_after : Opening → List Part → ℕ
count_after o [] = o.count
count_after o (p ∷ before) = count_in p (count_after o before)

-- whether the connection is greeted after a wait: as before it, unless it was lost
abbrev pub greeted_by_wait : Wait → Bool → Bool
greeted_by_wait (Waiting quiet) before = before
greeted_by_wait (Over quiet last) before = if is_gone last.arrival then false else before

-- whether the connection is greeted after a taken frame: a HELLO decides, others change nothing
abbrev pub greeted_by_frame : SessionRow → Frame → Bool → Bool
greeted_by_frame row f before = if is_hello f.kind then permits_frame row f else before

-- whether the connection is greeted after a taken arrival
abbrev pub greeted_by : SessionRow → Arrival → Bool → Bool
greeted_by row Nothing before = before
greeted_by row Bad before = false
greeted_by row Gone before = false
greeted_by row (Came f) before = greeted_by_frame row f before

-- whether one of these looks has Gone
abbrev pub any_gone : List Look → Bool
any_gone looks = list_any (λ x. is_gone x.arrival) looks

-- whether the connection is greeted after a part
abbrev pub greeted_in : SessionRow → Part → Bool → Bool
greeted_in row (Holding newest older) before = if any_gone (newest ∷ older) then false else before
greeted_in row (Release looks last) before = if any_gone looks then false else before
greeted_in row (Empty x) before = before
greeted_in row (Leaving x) before = false
greeted_in row (Answer x) before = greeted_by row x.arrival before
greeted_in row (Repeated first wait) before = greeted_by_wait wait before
greeted_in row (Offering first full) before = before
greeted_in row (Dropped first full gone) before = false
greeted_in row (Delivery first full passing wait) before = greeted_by_wait wait before
greeted_in row (Loss first rest) before = before

-- whether the connection is greeted after these parts; nobody is greeted at an opening
abbrev pub greeted_after : SessionRow → List Part → Bool
greeted_after row [] = false
greeted_after row (p ∷ before) = greeted_in row p (greeted_after row before)

-- the part leaves a stored message in the hand that nobody waits for
abbrev pub is_left_by : Part → Bool
is_left_by (Dropped first full gone) = true
is_left_by _ = false

-- such a message is in the hand after these parts: one was found at the opening, or the last part
-- was a delivery that a lost connection ended
abbrev pub is_left : Opening → List Part → Bool
is_left o [] = o.is_held
is_left o (p ∷ before) = is_left_by p

-- ---- the grammar ----

-- a look of a release before its last: Full, or the connection is gone
abbrev pub IsHeld : Look → Type 0
IsHeld x = x.feedback ≡ (if is_gone x.arrival then Quiet else Full)

-- a look of a wait before it ends
pub record IsQuiet (due : ℕ) (x : Look) : Type 0 where
  pub quiet : x.feedback ≡ Quiet
  pub stays : is_gone x.arrival ≡ false
  pub early : nat_le due x.moment ≡ false

-- the look ends a wait: the connection is gone, or the moment has come
abbrev pub ends : ℕ → Look → Bool
ends due x = if is_gone x.arrival then true else nat_le due x.moment

-- any number of quiet looks before the due moment, then one that ends the wait
abbrev pub IsWait : ℕ → Wait → Type 0
IsWait due (Waiting quiet) = AllByRecursion (IsQuiet due) quiet
IsWait due (Over quiet last) = AllByRecursion (IsQuiet due) quiet × (last.feedback ≡ Quiet) × (ends due last ≡ true)

-- a look that finds the passage full
pub record IsFull (x : Look) : Type 0 where
  pub full : x.feedback ≡ Full
  pub stays : is_gone x.arrival ≡ false

-- an arrival that is answered at once: bad bytes, or a frame whose message is neither stored already
-- nor the next
abbrev pub IsAnswered : SessionRow → ℕ → Bool → Arrival → Type 0
IsAnswered row count greeted Nothing = ⊥
IsAnswered row count greeted Gone = ⊥
IsAnswered row count greeted Bad = Unit {0}
IsAnswered row count greeted (Came f) = (is_repeat row count greeted f ≡ false) × (is_next row count greeted f ≡ false)

-- an arrival that is a frame of which this test holds
abbrev pub IsFrame : (Frame → Bool) → Arrival → Type 0
IsFrame test (Came f) = test f ≡ true
IsFrame test _ = ⊥

-- the look that takes the next message and stores it, or fails to
pub record IsStore (row : SessionRow) (count : ℕ) (greeted is_fault : Bool) (x : Look) : Type 0 where
  pub next : IsFrame (is_next row count greeted) x.arrival
  pub outcome : x.is_fault ≡ is_fault
  pub quiet : x.feedback ≡ Quiet

-- the look that passes the message, with its acknowledgement owed
pub record IsPassing (x : Look) : Type 0 where
  pub passed : is_passed x.feedback ≡ true
  pub stays : is_gone x.arrival ≡ false

-- these looks make such a part, where so many messages are stored and the connection is greeted or not
abbrev pub IsPart : SessionRow → ℕ → Bool → Part → Type 0
IsPart row count greeted (Holding newest older) = AllByRecursion IsHeld (newest ∷ older)
IsPart row count greeted (Release before last) = AllByRecursion IsHeld before × (last.feedback ≡ Released)
    × (is_gone last.arrival ≡ false)
IsPart row count greeted (Empty x) = (x.arrival ≡ Nothing) × (x.feedback ≡ Quiet)
IsPart row count greeted (Leaving x) = (x.arrival ≡ Gone) × (x.feedback ≡ Quiet)
IsPart row count greeted (Answer x) = IsAnswered row count greeted x.arrival × (x.feedback ≡ Quiet)
IsPart row count greeted (Repeated first wait) = IsFrame (is_repeat row count greeted) first.arrival
    × (has_average first.feedback ≡ true) × IsWait (due row first) wait
IsPart row count greeted (Offering first full) = IsStore row count greeted false first × AllByRecursion IsFull full
IsPart row count greeted (Dropped first full gone) = IsStore row count greeted false first × AllByRecursion IsFull full
    × (gone.arrival ≡ Gone) × (gone.feedback ≡ Quiet)
IsPart row count greeted (Delivery first full passing wait) = IsStore row count greeted false first
    × AllByRecursion IsFull full × IsPassing passing × IsWait (due row passing) wait
IsPart row count greeted (Loss first rest) = IsStore row count greeted true first
    × AllByRecursion (λ x. x.feedback ≡ Quiet) rest

abbrev pub is_release : Part → Bool
is_release (Holding newest older) = true
is_release (Release before last) = true
is_release _ = false

-- the part may stand after the parts before it: a release where a message is left in the hand, and
-- there alone
pub record Follows (row : SessionRow) (o : Opening) (p : Part) (before : List Part) : Type 0 where
  pub part : IsPart row (count_after o before) (greeted_after row before) p
  pub release : is_release p ≡ is_left o before

-- parts of one life, each of which may stand where it does, and all but the newest are finished
abbrev pub AreParts : SessionRow → Opening → List Part → Type 0
AreParts row o [] = Unit {0}
AreParts row o (p ∷ before) = Follows row o p before × AreParts row o before
    × AllByRecursion (λ q. is_finished q ≡ true) before

-- the life is cut into these parts
pub record IsCut (row : SessionRow) (life : Life) (parts : List Part) : Type 0 where
  pub are_parts : AreParts row life.opening parts
  pub looks : life.looks ≡ looks_of parts
