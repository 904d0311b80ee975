-- The rounds of a low worker on one connection, one after another.
use Rattle.std.proofs.Common.{◌≡◌, ℕ, ◌+◌, ◌≤◌, Bool, true, false, List, [], ◌∷◌, ◌++◌, length, Option, Some, None, refl, sym, ap, ◌∙◌, subst, append-nil, arith}
use Rattle.std.specs.Prelude.{if◌then◌else◌, not}
use Rattle.std.specs.List.{flat_map}
use Rattle.std.specs.Io.KnownBytes.{Appends}
use Rattle.std.proofs.lemmas.Grind.{flat_map-append}
use Rattle.pump_frame.specs.declared.row.SessionRow.{SessionRow}
use Rattle.pump_frame.specs.declared.frame.Frame.{Frame}
use Rattle.pump_frame.specs.Readings.{Reading, Within}
use Rattle.pump_frame.specs.Spellings.{spelling}
use Rattle.pump_link.specs.Tells.{Draws, Grows}
use Rattle.pump_link.specs.declared.link.Looked.{Looked}
use Rattle.pump_link.proofs.Grown.{Draws-nil, Grows-nil, Grows-then}
use Rattle.pump_link.proofs.Known.{Appends-none, Appends-then}
use Rattle.pump_core.specs.History.{Look}
use Rattle.pump_core.specs.Replies.{sent}
use Rattle.low_process.specs.declared.process.LowProcess.{LowProcess}
use Rattle.relay_threads.specs.declared.low_served.LowWhy.{LowWhy}
use Rattle.relay_threads.specs.declared.low_served.LowWhy.TheVariants.{Gone, Bad, LinkFailed, Device, RecordFailed, Looks, Stopped}
use Rattle.relay_threads.specs.Hearings.{Ending, AtFrame, AtBad, AtNotYet, AtEnded, AtFailed, AtMost, Hearing, Leaves, held_in, held_by}
use Rattle.relay_threads.specs.Reaching.{Reaches}
use Rattle.relay_threads.specs.Records.{Made, replies_made, is_recorded, was_full, record_of}
use Rattle.relay_threads.specs.RecordLines.{look_text, looks_text}
use Rattle.relay_threads.specs.LowRounds.{Round, with_look, made_after, made_in, looks_of_rounds, moments_of, words_of, reply_bytes, held_after, held_heard, is_lost_in, cause, cause_at, cause_heard, IsRound, GoOn, AreRounds, is_ack_made, acks_in, ask_after, asks_of}
use Rattle.relay_threads.specs.LowServes.{Serves, Turns, EndsBy, CountsFault, CountsFaultIn, is_device, is_device_in, all_sent, all_kept, asked_in, LeavesIf, bytes_of, bytes_made, text_made, full_after}
use Rattle.relay_threads.proofs.Kept.{recorded_at}
use Rattle.relay_threads.proofs.LowLives.{leads_none, leads_then}
use Rattle.relay_threads.proofs.Reaching.{reaches_behind, rose_later}

-- ---- what one look more adds ----

sent_bytes : (x : Look) (r : Option Frame) → flat_map (λ s. spelling s.reply) (sent x r) ≡ bytes_of r
sent_bytes x None = refl
sent_bytes x (Some f) = append-nil (spelling f)

pub replies_more : (m : Option Made) (before : List Made) → reply_bytes before ++ bytes_made m ≡ reply_bytes (with_look m before)
replies_more None before = append-nil (reply_bytes before)
replies_more (Some m) before =
    ap (λ (z : List ℕ). reply_bytes before ++ z) (sym (sent_bytes m.look m.reply))
    ∙ sym (flat_map-append (λ s. spelling s.reply) (replies_made before) (sent m.look m.reply))

text_by : (row : SessionRow) (m : Made) (before : List Made) (b : Bool) → is_recorded before m ≡ b → looks_text row (record_of before) ++ (if b then look_text row m else []) ≡ looks_text row (record_of (m ∷ before))
text_by row m before true e = ap (looks_text row) (sym (recorded_at m before true e))
text_by row m before false e = append-nil (looks_text row (record_of before)) ∙ ap (looks_text row) (sym (recorded_at m before false e))

pub text_more : (row : SessionRow) (m : Option Made) (before : List Made) → looks_text row (record_of before) ++ text_made row before m ≡ looks_text row (record_of (with_look m before))
text_more row None before = append-nil (looks_text row (record_of before))
text_more row (Some m) before = text_by row m before (is_recorded before m) refl

pub full_more : (m : Option Made) (before : List Made) → full_after (was_full before) m ≡ was_full (with_look m before)
full_more None before = refl
full_more (Some m) before = refl

acks_by : (b : Bool) (n : ℕ) (size : ℕ) → n ≤ size → (if b then n + 1 else n) ≤ size + 1
acks_by true n size le = omega (arith, le)
acks_by false n size le = omega (arith, le)

pub acks_few : (rounds : List Round) → acks_in rounds ≤ length rounds
acks_few [] = omega arith
acks_few (r ∷ past) = omega (arith, acks_by (is_ack_made r.made) (acks_in past) (length past) (acks_few past))

-- ---- a round that leaves the connection standing ----

calm : (k d s : Bool) (n : ℕ) (rest : Option LowWhy) → (if not k then Some RecordFailed else if d then Some (Device n) else if not s then Some LinkFailed else rest) ≡ None → (k ≡ true) × ((s ≡ true) × (rest ≡ None))
calm false d s n rest e = absurd (cc)
calm true true s n rest e = absurd (cc)
calm true false false n rest e = absurd (cc)
calm true false true n rest e = (refl, (refl, e))

-- it sent and wrote all of its own
pub calm_round : (r : Round) → cause r ≡ None → (r.is_kept ≡ true) × ((r.is_sent ≡ true) × (cause_heard r.heard ≡ None))
calm_round r e = calm r.is_kept (is_lost_in r.made) r.is_sent r.faults (cause_heard r.heard) e

calm_at : (held bytes : List ℕ) (e : Ending) (now : Reading) → cause_at e ≡ None → Leaves held bytes e now → now ≡ Within (held_by held bytes e)
calm_at held bytes (AtFrame f) now c l = l
calm_at held bytes AtBad now c l = absurd (cc)
calm_at held bytes AtNotYet now c l = l
calm_at held bytes AtEnded now c l = l
calm_at held bytes AtFailed now c l = l
calm_at held bytes AtMost now c l = l

-- its reader is still within a frame
calm_reader : (held : List ℕ) (h : Option Hearing) (now : Reading) → cause_heard h ≡ None → LeavesIf held h now → now ≡ Within (held_heard held h)
calm_reader held None now c l = l
calm_reader held (Some h) now c l = calm_at held h.bytes h.ending now c l

pub within_of : (now : Reading) (held : List ℕ) → now ≡ Within held → now ≡ Within (held_in now)
within_of now held e = e ∙ ap (λ z. Within (held_in z)) (sym e)

-- the newest round did so too
pub sent_on : (rounds : List Round) → GoOn rounds → all_sent rounds ≡ true
sent_on [] on = refl
sent_on (r ∷ past) on = (calm_round r on.0).1.0

pub kept_on : (rounds : List Round) → GoOn rounds → all_kept rounds ≡ true
kept_on [] on = refl
kept_on (r ∷ past) on = (calm_round r on.0).0

-- ---- the rounds so far ----

pub record SoFar (p q : LowProcess) (now : Reading) (is_full : Bool) (acks count : ℕ) (rounds : List Round) : Type 0 where
  pub serves : Serves p q rounds
  pub go_on : GoOn rounds
  pub is_held : now ≡ Within (held_after rounds)
  pub full : is_full ≡ was_full (made_in rounds)
  pub acked : acks ≡ acks_in rounds
  pub long : count ≡ length rounds

pub so_far_none : (p : LowProcess) (now : Reading) → now ≡ Within [] → SoFar p p now false 0 0 []
so_far_none p now e = record { serves = leads_none p (λ row o before. AreRounds row o before []) (λ row o before. tt); go_on = tt; is_held = e; full = refl; acked = refl; long = refl }

pub serves_more : (p q q' : LowProcess) (old : Reading) (r : Round) (rounds : List Round) → Serves p q rounds → GoOn rounds → old ≡ Within (held_after rounds) → Turns q q' (held_in old) r → Serves p q' (r ∷ rounds)
serves_more p q q' old r rounds was go_on is_held turn =
    let here : Turns q q' (held_after rounds) r = subst (λ (z : Reading). Turns q q' (held_in z) r) is_held turn in
    leads_then p q q'
    (λ row o before. AreRounds row o before rounds) (λ row o before. IsRound row o before (held_after rounds) r) (λ row o before. AreRounds row o before (r ∷ rounds))
    (λ before. made_after before rounds) (λ before. with_look r.made before)
    (λ row o before are is. (is, go_on, are)) was here

pub so_far_more : (p q q' : LowProcess) (old now : Reading) (is_full is_full' is_acked : Bool) (acks acks' count count' : ℕ) (r : Round) (rounds : List Round) → SoFar p q old is_full acks count rounds
    → Turns q q' (held_in old) r → LeavesIf (held_in old) r.heard now → cause r ≡ None → is_full' ≡ full_after is_full r.made → is_acked ≡ is_ack_made r.made → acks' ≡ (if is_acked then acks + 1 else acks) → count' ≡ count + 1
    → SoFar p q' now is_full' acks' count' (r ∷ rounds)
so_far_more p q q' old now is_full is_full' is_acked acks acks' count count' r rounds was turn leaves calm_it full_is ack_is acks_are one = record {
  serves = serves_more p q q' old r rounds was.serves was.go_on was.is_held turn;
  go_on = (calm_it, was.go_on);
  is_held = calm_reader (held_after rounds) r.heard now (calm_round r calm_it).1.1 (subst (λ (z : Reading). LeavesIf (held_in z) r.heard now) was.is_held leaves);
  full = full_is ∙ ap (λ b. full_after b r.made) was.full ∙ full_more r.made (made_in rounds);
  acked = acks_are ∙ ap (λ (t : Bool × ℕ). if t.0 then t.1 + 1 else t.1) (λ i. (ack_is i, was.acked i));
  long = omega (arith, one, was.long);
}

-- ---- what the outside tells ----

-- all that it tells, while no round has left the connection
pub record Told (gave now_gave : List Looked → Type 0) (sent_by now_sent read now_read drawn now_drawn : List ℕ → Type 0) (asked now_asked : List (ℕ × ℕ) → Type 0) (written now_written : Option (List ℕ)) (row : SessionRow) (rounds : List Round) : Type 0 where
  pub looks : Draws gave now_gave (looks_of_rounds rounds)
  pub bytes : Grows sent_by now_sent (reply_bytes (made_in rounds))
  pub moments : Draws read now_read (moments_of rounds)
  pub words : Draws drawn now_drawn (words_of rounds)
  pub lines : Appends written now_written (looks_text row (record_of (made_in rounds)))
  pub asks : Grows asked now_asked (asks_of rounds)

pub told_none : (gave : List Looked → Type 0) (sent_by read drawn : List ℕ → Type 0) (asked : List (ℕ × ℕ) → Type 0) (written : Option (List ℕ)) (row : SessionRow) → Told gave gave sent_by sent_by read read drawn drawn asked asked written written row []
told_none gave sent_by read drawn asked written row = record { looks = Draws-nil gave; bytes = Grows-nil sent_by; moments = Draws-nil read; words = Draws-nil drawn; lines = Appends-none written; asks = Grows-nil asked }

module _ (r : Round) (rounds : List Round) where
  pub sends_more : (s s1 s2 : List ℕ → Type 0) (n n1 n2 : ℕ) → n ≤ n1 → Grows s s1 (reply_bytes (made_in rounds)) → Reaches (Grows s1 s2) n1 n2 r.is_sent (bytes_made r.made) → Reaches (Grows s s2) n n2 r.is_sent (reply_bytes (made_in (r ∷ rounds)))
  sends_more s s1 s2 n n1 n2 le was sends =
      subst (Reaches (Grows s s2) n n2 r.is_sent) (replies_more r.made (made_in rounds))
      (reaches_behind (Grows s s2) (Grows s1 s2) n n1 n2 r.is_sent (reply_bytes (made_in rounds)) (bytes_made r.made) le (λ rest g. Grows-then s s1 s2 _ rest was g) sends)

  pub keeps_more : (t t1 t2 : Option (List ℕ)) (n n1 n2 : ℕ) (row row' : SessionRow) (is_full : Bool) → n ≤ n1 → row' ≡ row → is_full ≡ was_full (made_in rounds) → Appends t t1 (looks_text row (record_of (made_in rounds)))
      → ((before : List Made) → is_full ≡ was_full before → Reaches (Appends t1 t2) n1 n2 r.is_kept (text_made row' before r.made)) → Reaches (Appends t t2) n n2 r.is_kept (looks_text row (record_of (made_in (r ∷ rounds))))
  keeps_more t t1 t2 n n1 n2 row row' is_full le same full was keeps =
      let here : Reaches (Appends t1 t2) n1 n2 r.is_kept (text_made row (made_in rounds) r.made) = subst (λ (z : SessionRow). Reaches (Appends t1 t2) n1 n2 r.is_kept (text_made z (made_in rounds) r.made)) same (keeps (made_in rounds) full) in
      subst (Reaches (Appends t t2) n n2 r.is_kept) (text_more row r.made (made_in rounds))
      (reaches_behind (Appends t t2) (Appends t1 t2) n n1 n2 r.is_kept (looks_text row (record_of (made_in rounds))) (text_made row (made_in rounds) r.made) le (λ rest g. Appends-then t t1 t2 _ rest was g) here)

-- ---- how the call ends ----

-- no round leaves the connection for its number or for the gate
abbrev pub is_cause : Option LowWhy → Bool
is_cause (Some Looks) = false
is_cause (Some Stopped) = false
is_cause _ = true

either : (b : Bool) (x y : Option LowWhy) → is_cause x ≡ true → is_cause y ≡ true → is_cause (if b then x else y) ≡ true
either true x y p q = p
either false x y p q = q

ending_cause : (e : Ending) → is_cause (cause_at e) ≡ true
ending_cause (AtFrame f) = refl
ending_cause AtBad = refl
ending_cause AtNotYet = refl
ending_cause AtEnded = refl
ending_cause AtFailed = refl
ending_cause AtMost = refl

reading_cause : (h : Option Hearing) → is_cause (cause_heard h) ≡ true
reading_cause None = refl
reading_cause (Some h) = ending_cause h.ending

pub round_cause : (r : Round) → is_cause (cause r) ≡ true
round_cause r =
    either (not r.is_kept) (Some RecordFailed) _ refl
    (either (is_lost_in r.made) (Some (Device r.faults)) _ refl
    (either (not r.is_sent) (Some LinkFailed) (cause_heard r.heard) refl (reading_cause r.heard)))

pub ended_by : (r : Round) (rounds : List Round) (most : ℕ) (why : LowWhy) → length (r ∷ rounds) ≤ most → cause r ≡ Some why → EndsBy (r ∷ rounds) most why
ended_by r rounds most Gone le e = (le, e)
ended_by r rounds most Bad le e = (le, e)
ended_by r rounds most LinkFailed le e = (le, e)
ended_by r rounds most (Device n) le e = (le, e)
ended_by r rounds most RecordFailed le e = (le, e)
ended_by r rounds most Looks le e = let c : is_cause (Some Looks) ≡ true = ap is_cause (sym e) ∙ round_cause r in absurd (cc)
ended_by r rounds most Stopped le e = let c : is_cause (Some Stopped) ≡ true = ap is_cause (sym e) ∙ round_cause r in absurd (cc)

-- a round that left because of the record did not write all of its lines
abbrev is_record : Option LowWhy → Bool
is_record (Some RecordFailed) = true
is_record _ = false

ending_calm : (e : Ending) → is_record (cause_at e) ≡ false
ending_calm (AtFrame f) = refl
ending_calm AtBad = refl
ending_calm AtNotYet = refl
ending_calm AtEnded = refl
ending_calm AtFailed = refl
ending_calm AtMost = refl

heard_calm : (h : Option Hearing) → is_record (cause_heard h) ≡ false
heard_calm None = refl
heard_calm (Some h) = ending_calm h.ending

broken_by : (k d s : Bool) (n : ℕ) (x : Option LowWhy) → is_record x ≡ false → (if not k then Some RecordFailed else if d then Some (Device n) else if not s then Some LinkFailed else x) ≡ Some RecordFailed → k ≡ false
broken_by false d s n x c e = refl
broken_by true true s n x c e = absurd (cc)
broken_by true false false n x c e = absurd (cc)
broken_by true false true n x c e = let y : is_record x ≡ true = ap is_record e in absurd (let z : false ≡ true = sym c ∙ y in cc)

pub broken_round : (r : Round) → cause r ≡ Some RecordFailed → r.is_kept ≡ false
broken_round r e = broken_by r.is_kept (is_lost_in r.made) r.is_sent r.faults (cause_heard r.heard) (heard_calm r.heard) e

pub asked_by : (r : Round) (rounds : List Round) (why : LowWhy) → cause r ≡ Some why → asked_in (r ∷ rounds) why ≡ asks_of (r ∷ rounds)
asked_by r rounds Gone e = refl
asked_by r rounds Bad e = refl
asked_by r rounds LinkFailed e = refl
asked_by r rounds (Device n) e = refl
asked_by r rounds RecordFailed e = refl
asked_by r rounds Looks e = refl
asked_by r rounds Stopped e = let c : is_cause (Some Stopped) ≡ true = ap is_cause (sym e) ∙ round_cause r in absurd (cc)

-- one ask more of the gate
pub asks_more : (a a1 a2 : List (ℕ × ℕ) → Type 0) (rounds : List Round) (count acks : ℕ) → count ≡ length rounds → acks ≡ acks_in rounds → Grows a a1 (asks_of rounds) → Grows a1 a2 ((count, acks) ∷ []) → Grows a a2 (asks_of rounds ++ ask_after rounds ∷ [])
asks_more a a1 a2 rounds count acks long acked was one =
    subst (λ (t : ℕ × ℕ). Grows a a2 (asks_of rounds ++ t ∷ [])) (λ i. (long i, acked i)) (Grows-then a a1 a2 (asks_of rounds) ((count, acks) ∷ []) was one)

-- ---- what a round's end says of the call's end ----

-- no round ends the call as the gate does
pub no_stop : (r : Round) (why : LowWhy) → cause r ≡ Some why → why ≡ Stopped → ⊥
no_stop r why e stopped =
    let c : is_cause (Some Stopped) ≡ true = ap (λ w. is_cause (Some w)) (sym stopped) ∙ ap is_cause (sym e) ∙ round_cause r in
    cc

-- a fault of the disk in the newest round counts from the start of the call, too
pub fault_since : (turn : Option LowWhy) (why : LowWhy) (start before now : ℕ) → turn ≡ Some why → start ≤ before → CountsFaultIn turn before now → CountsFault why start now
fault_since turn why start before now is le counted = by_cases why (subst (λ t. CountsFaultIn t before now) is counted) where
  by_cases : (why : LowWhy) → CountsFault why before now → CountsFault why start now
  by_cases Gone counted = tt
  by_cases Bad counted = tt
  by_cases LinkFailed counted = tt
  by_cases (Device n) counted = (counted.0, rose_later start before now le counted.1)
  by_cases RecordFailed counted = tt
  by_cases Looks counted = tt
  by_cases Stopped counted = tt

-- the process is up after a round that neither the disk nor the record ended
pub up_after : {Up : Type 0} (turn : Option LowWhy) (why : LowWhy) → turn ≡ Some why → (is_device_in turn ≡ false → (turn ≡ Some RecordFailed → ⊥) → Up) → is_device why ≡ false → (why ≡ RecordFailed → ⊥) → Up
up_after turn why is up calm kept = up (ap is_device_in is ∙ calm) (λ broke. let same : Some why ≡ Some RecordFailed = sym is ∙ broke in kept (cc))

-- ---- ends that are not one another ----

pub not_lost : (why : Option LowWhy) → why ≡ None → why ≡ Some RecordFailed → ⊥
not_lost why none some = cc

pub stopped_no_link : Stopped ≡ LinkFailed → ⊥
stopped_no_link e = cc

pub stopped_no_record : Stopped ≡ RecordFailed → ⊥
stopped_no_record e = cc

pub looks_no_link : Looks ≡ LinkFailed → ⊥
looks_no_link e = cc

pub looks_no_record : Looks ≡ RecordFailed → ⊥
looks_no_record e = cc

pub looks_no_stop : Looks ≡ Stopped → ⊥
looks_no_stop e = cc
