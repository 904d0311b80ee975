-- The rounds of a call of the high worker, one after the other.
use Rattle.std.proofs.Common.{◌≡◌, ℕ, ◌+◌, ◌≤◌, Bool, true, false, List, [], ◌∷◌, ◌++◌, length, Option, Some, None, Result, Ok, Err, refl, sym, ap, ◌∙◌, subst, append_assoc, append-nil, arith}
use Rattle.std.specs.Prelude.{if◌then◌else◌, ◌||◌}
use Rattle.std.proofs.lemmas.Grind.{flat_map-append}
use Rattle.pump_frame.specs.declared.frame.Frame.{Frame}
use Rattle.pump_frame.specs.declared.row.SessionRow.{SessionRow}
use Rattle.pump_frame.specs.Readings.{Reading, Within}
use Rattle.pump_frame.specs.Spellings.{spelling}
use Rattle.pump_frame.specs.Streams.{spellings}
use Rattle.pump_link.specs.Tells.{Draws, Grows}
use Rattle.pump_link.specs.declared.link.Looked.{Looked}
use Rattle.high_process.specs.declared.process.HighProcess.{HighProcess}
use Rattle.high_process.specs.declared.values.HighFault.{HighFault}
use Rattle.high_process.specs.declared.values.HighFault.TheVariants.{Device as DeviceFault, Ahead as AheadFault, Behind as BehindFault}
use Rattle.high_process.specs.declared.values.HighLook.{HighLook}
use Rattle.high_process.specs.States.{row_of, is_down}
use Rattle.high_process.specs.Tasks.{is_attach}
use Rattle.high_process.specs.Past.{ProcessPast}
use Rattle.high_process.specs.Looks.{StandsFor}
use Rattle.relay_threads.specs.declared.high_served.HighWhy.{HighWhy}
use Rattle.relay_threads.specs.declared.high_served.HighWhy.TheVariants.{Gone, Bad, NotAttach, LinkFailed, Device, Ahead, Behind, Looks, Stopped}
use Rattle.relay_threads.specs.declared.high_round.Plan.TheVariants.{End, Look}
use Rattle.relay_threads.specs.Hearings.{Ending, AtFrame, AtBad, AtNotYet, AtEnded, AtFailed, AtMost, IsHearing, Leaves, heard_as, held_by, held_in}
use Rattle.relay_threads.specs.Workers.{SendsPrefix}
use Rattle.relay_threads.specs.HighRounds.{Made, Round, MakesLook, IsRound, GoOn, plan_of, frame_heard, cause, cause_by, cause_made, cause_look, why_of, is_frame, past_after, served, looks_of_rounds, looks_in_round, moments, data_sent, data_made, removes, removals, asks_before, asks_of, held_after, is_attached}
use Rattle.relay_threads.specs.HighServes.{RoundMade, Serves, EndsBy, CountsFault, CountsFaultIn}
use Rattle.pump_link.proofs.Grown.{Draws-nil, Draws-then, Grows-nil, Grows-then}

-- what all of the outside told, exactly, while no round has ended the call
pub record Told (gave now_gave : List Looked → Type 0) (sent' now_sent read now_read : List ℕ → Type 0) (asked now_asked : List (ℕ × ℕ) → Type 0) (session : ℕ) (rounds : List Round) : Type 0 where
  pub looks : Draws gave now_gave (looks_of_rounds rounds)
  pub bytes : Grows sent' now_sent (spellings (data_sent session rounds))
  pub moments : Draws read now_read (moments rounds)
  pub asks : Grows asked now_asked (asks_before rounds)

-- the rounds so far
pub record SoFar (p q : HighProcess) (now : Reading) (attached : Bool) (count : ℕ) (rounds : List Round) : Type 0 where
  pub serves : Serves p q rounds
  pub go_on : GoOn rounds
  pub is_held : now ≡ Within (held_after rounds)
  pub is_attached : attached ≡ is_attached rounds
  pub long : count ≡ length rounds

pub within_of : (r : Reading) (held : List ℕ) → r ≡ Within held → r ≡ Within (held_in r)
within_of r held e = e ∙ ap (λ w. Within (held_in w)) (sym e)

module _ (p q q' : HighProcess) (old now : Reading) (attached : Bool) (r : Round) (rounds : List Round) (n : ℕ) (up : is_down q ≡ false) (was : SoFar p q old attached n rounds) (turn : RoundMade q q' (held_in old) now attached r) where
  held_is : held_in old ≡ held_after rounds
  held_is = ap held_in was.is_held

  is_round : (t : ProcessPast) → StandsFor p t → IsRound (row_of p) (served (row_of p) t rounds) (held_after rounds) (is_attached rounds) r
  is_round t st = record {
    reads = subst (λ xs. IsHearing xs r.heard) held_is turn.reads;
    makes = subst (λ (w : SessionRow × Bool). MakesLook w.0 (served (row_of p) t rounds) r.moment (plan_of w.1 (heard_as r.heard.ending)) (frame_heard (heard_as r.heard.ending)) r.made) (λ i. (was.serves.row i, was.is_attached i))
        (turn.makes (served (row_of p) t rounds) (was.serves.past up t st));
  }

  pub serves_more : Serves p q' (r ∷ rounds)
  serves_more = record {
    row = turn.row ∙ was.serves.row;
    rule = λ t st. (is_round t st, was.go_on, was.serves.rule t st);
    past = λ up' t st. subst (λ (w : SessionRow). StandsFor q' (past_after w (served (row_of p) t rounds) r.moment r.made)) was.serves.row
        (turn.past up' (served (row_of p) t rounds) (was.serves.past up t st));
  }

  pub cause_now : cause attached r ≡ cause (is_attached rounds) r
  cause_now = ap (λ b. cause b r) was.is_attached

-- a reading that doesn't end the call leaves a reader within a frame
calm_reader : (attached : Bool) (m : ℕ) (made : Option Made) (s : Bool) (held bytes : List ℕ) (e : Ending) (now : Reading)
    → cause attached (record { moment = m; heard = record { bytes = bytes; ending = e }; made = made; is_sent = s }) ≡ None → Leaves held bytes e now → now ≡ Within (held_by held bytes e)
calm_reader attached m made s held bytes (AtFrame f) now c l = l
calm_reader attached m made s held bytes AtBad now c l = absurd (cc)
calm_reader attached m made s held bytes AtNotYet now c l = l
calm_reader attached m made s held bytes AtEnded now c l = l
calm_reader attached m made s held bytes AtFailed now c l = l
calm_reader attached m made s held bytes AtMost now c l = l

pub so_far_none : (p : HighProcess) (now : Reading) (attached : Bool) → now ≡ Within [] → attached ≡ false → SoFar p p now attached 0 []
so_far_none p now attached e a = record {
  serves = record { row = refl; rule = λ t st. tt; past = λ up t st. st };
  go_on = tt;
  is_held = e;
  is_attached = a;
  long = refl;
}

pub so_far_more : (p q q' : HighProcess) (old now : Reading) (attached attached' : Bool) (n n' : ℕ) (r : Round) (rounds : List Round) → is_down q ≡ false → SoFar p q old attached n rounds → RoundMade q q' (held_in old) now attached r
    → cause attached r ≡ None → attached' ≡ (attached || is_frame (heard_as r.heard.ending)) → n' ≡ n + 1 → SoFar p q' now attached' n' (r ∷ rounds)
so_far_more p q q' old now attached attached' n n' r rounds up was turn e framed one = record {
  serves = serves_more p q q' old now attached r rounds n up was turn;
  go_on = (sym (cause_now p q q' old now attached r rounds n up was turn) ∙ e, was.go_on);
  is_held = calm_reader attached r.moment r.made r.is_sent (held_in old) r.heard.bytes r.heard.ending now e turn.leaves ∙ ap (λ xs. Within (held_by xs r.heard.bytes r.heard.ending)) (held_is p q q' old now attached r rounds n up was turn);
  is_attached = framed ∙ ap (λ b. b || is_frame (heard_as r.heard.ending)) was.is_attached;
  long = one ∙ ap (λ k. k + 1) was.long ∙ omega arith;
}

spellings_more : (session : ℕ) (r : Round) (rounds : List Round) → spellings (data_sent session (r ∷ rounds)) ≡ spellings (data_sent session rounds) ++ spellings (data_made session r.made)
spellings_more session r rounds = flat_map-append spelling (data_sent session rounds) (data_made session r.made)

pub told_none : (gave : List Looked → Type 0) (s read : List ℕ → Type 0) (asked : List (ℕ × ℕ) → Type 0) (session : ℕ) → Told gave gave s s read read asked asked session []
told_none gave s read asked session = record { looks = Draws-nil gave; bytes = Grows-nil s; moments = Draws-nil read; asks = Grows-nil asked }

-- how many messages were removed after one round more
pub counts_more : (r : Round) (rounds : List Round) (removed now : ℕ) (has_removed : Bool) → removed ≡ removals rounds → has_removed ≡ removes r.made → now ≡ removed + (if has_removed then 1 else 0) → now ≡ removals (r ∷ rounds)
counts_more r rounds removed now has_removed was is e = e ∙ ap (λ (c : ℕ × Bool). c.0 + (if c.1 then 1 else 0)) (λ i. (was i, is i))

-- .. and they are no more than the rounds
pub counts_few : (removed now rounds : ℕ) (has_removed : Bool) → now ≡ removed + (if has_removed then 1 else 0) → removed ≤ rounds → now ≤ rounds + 1
counts_few removed now rounds true e le = omega (arith, e, le)
counts_few removed now rounds false e le = omega (arith, e, le)

-- what the gate was asked before one round more
pub asks_more : (a b c : List (ℕ × ℕ) → Type 0) (rounds : List Round) (count removed : ℕ) → Grows a b (asks_before rounds) → count ≡ length rounds → removed ≡ removals rounds → Grows b c ((count, removed) ∷ [])
    → Grows a c (asks_before rounds ++ (length rounds, removals rounds) ∷ [])
asks_more a b c rounds count removed was e f g = Grows-then a b c _ _ was (subst (λ (ask : ℕ × ℕ). Grows b c (ask ∷ [])) (λ i. (e i, f i)) g)

-- what was sent is of the session of the row that stays
pub sends_at : (p q : HighProcess) (a b : List ℕ → Type 0) (w : Bool) (made : Option Made) → row_of q ≡ row_of p → SendsPrefix a b w (spellings (data_made (row_of q).id made)) → SendsPrefix a b w (spellings (data_made (row_of p).id made))
sends_at p q a b w made e s = subst (λ (r : SessionRow). SendsPrefix a b w (spellings (data_made r.id made))) e s

-- a prefix that is whole is all
whole_sends : (p q : List ℕ → Type 0) (bytes : List ℕ) → SendsPrefix p q true bytes → Grows p q bytes
whole_sends p q bytes (prefix, rest, e, whole, g) = subst (Grows p q) (sym (e ∙ ap (λ t. prefix ++ t) (whole refl) ∙ append-nil prefix)) g

-- all that was sent is a prefix of itself
pub sent_all : (p q : List ℕ → Type 0) (b : Bool) (bytes : List ℕ) → Grows p q bytes → SendsPrefix p q b bytes
sent_all p q b bytes grew = (bytes, [], sym (append-nil bytes), (λ e. refl), grew)

module _ (gave g1 g2 : List Looked → Type 0) (s s1 s2 k k1 k2 : List ℕ → Type 0) (a a1 : List (ℕ × ℕ) → Type 0) (session : ℕ) (rounds : List Round) (was : Told gave g1 s s1 k k1 a a1 session rounds) where
  module _ (r : Round) (looks : Draws g1 g2 (looks_in_round r)) (sends : SendsPrefix s1 s2 r.is_sent (spellings (data_made session r.made))) (moment : Draws k1 k2 (r.moment ∷ [])) where
    looks_more : Draws gave g2 (looks_of_rounds (r ∷ rounds))
    looks_more = Draws-then gave g1 g2 _ _ was.looks looks

    moments_more : Draws k k2 (moments (r ∷ rounds))
    moments_more = Draws-then k k1 k2 _ _ was.moments moment

    sends_more : SendsPrefix s s2 r.is_sent (spellings (data_sent session (r ∷ rounds)))
    sends_more = (
      spellings (data_sent session rounds) ++ sends.0,
      sends.1,
      spellings_more session r rounds ∙ ap (λ x. spellings (data_sent session rounds) ++ x) sends.2 ∙ sym (append_assoc (spellings (data_sent session rounds)) sends.0 sends.1),
      sends.3,
      Grows-then s s1 s2 _ _ was.bytes sends.4,
    )

    -- all three, also of a round that ended the call
    pub each_more : Draws gave g2 (looks_of_rounds (r ∷ rounds)) × SendsPrefix s s2 r.is_sent (spellings (data_sent session (r ∷ rounds))) × Draws k k2 (moments (r ∷ rounds))
    each_more = (looks_more, sends_more, moments_more)

    pub told_more : (a2 : List (ℕ × ℕ) → Type 0) → r.is_sent ≡ true → Grows a a2 (asks_before (r ∷ rounds)) → Told gave g2 s s2 k k2 a a2 session (r ∷ rounds)
    told_more a2 whole asks = record {
      looks = looks_more;
      bytes = whole_sends s s2 _ (subst (λ b. SendsPrefix s s2 b (spellings (data_sent session (r ∷ rounds)))) whole sends_more);
      moments = moments_more;
      asks = asks;
    }

-- no round ends the call because of its number or the gate
abbrev is_cause : Option HighWhy → Bool
is_cause (Some Looks) = false
is_cause (Some Stopped) = false
is_cause _ = true

fault_cause : (e : HighFault) → is_cause (Some (why_of e)) ≡ true
fault_cause (DeviceFault n) = refl
fault_cause (AheadFault n m) = refl
fault_cause (BehindFault n m) = refl

look_cause : (r : Result HighLook HighFault) (b : Bool) → is_cause (cause_look r b) ≡ true
look_cause (Ok look) true = refl
look_cause (Ok look) false = refl
look_cause (Err e) b = fault_cause e

made_cause : (made : Option Made) (b : Bool) → is_cause (cause_made made b) ≡ true
made_cause None b = refl
made_cause (Some x) b = look_cause x.result b

frame_cause : (b : Bool) (f : Frame) (made : Option Made) (s : Bool) → is_cause (cause_by (if b then Look else End NotAttach) made s) ≡ true
frame_cause true f made s = made_cause made s
frame_cause false f made s = refl

nothing_cause : (b : Bool) (m : ℕ) (bytes : List ℕ) (e : Ending) (made : Option Made) (s : Bool) → heard_as e ≡ heard_as AtNotYet → is_cause (cause b (record { moment = m; heard = record { bytes = bytes; ending = e }; made = made; is_sent = s })) ≡ true
nothing_cause true m bytes e made s is = subst (λ w. is_cause (cause_by (plan_of true w) made s) ≡ true) (sym is) (made_cause made s)
nothing_cause false m bytes e made s is = subst (λ w. is_cause (cause_by (plan_of false w) made s) ≡ true) (sym is) refl

ending_cause : (b : Bool) (m : ℕ) (bytes : List ℕ) (e : Ending) (made : Option Made) (s : Bool) → is_cause (cause b (record { moment = m; heard = record { bytes = bytes; ending = e }; made = made; is_sent = s })) ≡ true
ending_cause b m bytes (AtFrame f) made s = frame_cause (b || is_attach f.kind) f made s
ending_cause b m bytes AtBad made s = refl
ending_cause b m bytes AtNotYet made s = nothing_cause b m bytes AtNotYet made s refl
ending_cause b m bytes AtEnded made s = refl
ending_cause b m bytes AtFailed made s = refl
ending_cause b m bytes AtMost made s = nothing_cause b m bytes AtMost made s refl

pub ended_by : (b : Bool) (r : Round) (rounds : List Round) (most : ℕ) (why : HighWhy) → b ≡ is_attached rounds → length (r ∷ rounds) ≤ most → cause b r ≡ Some why → EndsBy (r ∷ rounds) most why
ended_by b r rounds most why is le e =
    let now : cause (is_attached rounds) r ≡ Some why = ap (λ w. cause w r) (sym is) ∙ e in
    let c : is_cause (Some why) ≡ true = ap is_cause (sym e) ∙ ending_cause b r.moment r.heard.bytes r.heard.ending r.made r.is_sent in
    by_cases why now c where
      by_cases : (why : HighWhy) → cause (is_attached rounds) r ≡ Some why → is_cause (Some why) ≡ true → EndsBy (r ∷ rounds) most why
      by_cases Gone now c = (le, now)
      by_cases Bad now c = (le, now)
      by_cases NotAttach now c = (le, now)
      by_cases LinkFailed now c = (le, now)
      by_cases (Device n) now c = (le, now)
      by_cases (Ahead n m) now c = (le, now)
      by_cases (Behind n m) now c = (le, now)
      by_cases Looks now c = cc
      by_cases Stopped now c = cc

-- a round that ended the call is no stop, so the gate was asked before each round alone
pub asks_ended : (old new : List (ℕ × ℕ) → Type 0) (b : Bool) (r : Round) (rounds : List Round) (why : HighWhy) → cause b r ≡ Some why → Grows old new (asks_before rounds) → Grows old new (asks_of why rounds)
asks_ended old new b r rounds why e asks =
    let c : is_cause (Some why) ≡ true = ap is_cause (sym e) ∙ ending_cause b r.moment r.heard.bytes r.heard.ending r.made r.is_sent in
    subst (Grows old new) (sym (by_cases why c)) asks where
      by_cases : (why : HighWhy) → is_cause (Some why) ≡ true → asks_of why rounds ≡ asks_before rounds
      by_cases Gone c = refl
      by_cases Bad c = refl
      by_cases NotAttach c = refl
      by_cases LinkFailed c = refl
      by_cases (Device n) c = refl
      by_cases (Ahead n m) c = refl
      by_cases (Behind n m) c = refl
      by_cases Looks c = refl
      by_cases Stopped c = absurd (cc)

-- no round ends the call as the gate does
pub no_stop : (b : Bool) (r : Round) (why : HighWhy) → cause b r ≡ Some why → why ≡ Stopped → ⊥
no_stop b r why e stopped =
    let c : is_cause (Some Stopped) ≡ true = ap (λ w. is_cause (Some w)) (sym stopped) ∙ ap is_cause (sym e) ∙ ending_cause b r.moment r.heard.bytes r.heard.ending r.made r.is_sent in
    cc

-- a fault of the disk in the newest round counts from the start of the call, too
pub fault_since : (turn : Option HighWhy) (why : HighWhy) (start before now : ℕ) → turn ≡ Some why → start ≤ before → CountsFaultIn turn before now → CountsFault why start now
fault_since turn why start before now is le counted = by_cases why (subst (λ t. CountsFaultIn t before now) is counted) where
  by_cases : (why : HighWhy) → CountsFault why before now → CountsFault why start now
  by_cases Gone counted = tt
  by_cases Bad counted = tt
  by_cases NotAttach counted = tt
  by_cases LinkFailed counted = tt
  by_cases (Device n) counted = (counted.0, omega (arith, le, counted.1))
  by_cases (Ahead n m) counted = tt
  by_cases (Behind n m) counted = tt
  by_cases Looks counted = tt
  by_cases Stopped counted = tt

-- ---- ends that are not one another ----

pub stopped_no_link : Stopped ≡ LinkFailed → ⊥
stopped_no_link e = cc

pub looks_no_link : Looks ≡ LinkFailed → ⊥
looks_no_link e = cc

pub looks_no_stop : Looks ≡ Stopped → ⊥
looks_no_stop e = cc
