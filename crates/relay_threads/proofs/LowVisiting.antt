-- What one link comes to in all.
use Rattle.std.proofs.Common.{◌≡◌, ℕ, ◌≤◌, ◌<◌, Bool, true, false, List, [], ◌∷◌, length, Option, Some, None, refl, sym, ap, ◌∙◌, subst, append-nil, arith, inl, inr}
use Rattle.std.specs.Prelude.{◌⊎◌, IfSome, if◌then◌else◌, not}
use Rattle.std.specs.Io.KnownBytes.{Appends}
use Rattle.pump_frame.specs.Rows.{IsLawfulRow}
use Rattle.pump_frame.specs.declared.row.SessionRow.{SessionRow}
use Rattle.pump_link.proofs.Known.{Appends-then}
use Rattle.low_process.specs.declared.process.LowProcess.{LowProcess}
use Rattle.relay_threads.specs.declared.low_served.LowWhy.{LowWhy}
use Rattle.relay_threads.specs.declared.low_served.LowWhy.TheVariants.{Gone, Bad, LinkFailed, Device, RecordFailed, Looks, Stopped}
use Rattle.relay_threads.specs.declared.rounds_end.RoundsEnd.{RoundsEnd}
use Rattle.relay_threads.specs.declared.rounds_end.RoundsEnd.TheVariants.{RecordFailed as RecordBroke}
use Rattle.relay_threads.specs.Reaching.{Reaches}
use Rattle.relay_threads.specs.Records.{Made, record_of}
use Rattle.relay_threads.specs.RecordLines.{looks_text}
use Rattle.relay_threads.specs.Replays.{ReadsBack}
use Rattle.relay_threads.specs.LowRounds.{Round, with_look, made_after, made_in, AreRounds, GoOn, newest_cause}
use Rattle.relay_threads.specs.LowServes.{Leads, Serves, EndsBy, CountsFault, is_device, all_kept, text_made}
use Rattle.relay_threads.specs.LowStays.{IsGone, GoneAfter, IsVisit, visited, visit_text, end_at, end_by, is_left_so, is_kept_by, is_ended, IsLeft}
use Rattle.relay_threads.specs.Workers.{CountsEnd}
use Rattle.relay_threads.proofs.LowLives.{leads_then}
use Rattle.relay_threads.proofs.LowServing.{kept_on, broken_round}
use Rattle.relay_threads.proofs.Reaching.{reaches_behind, reaches_still}

-- ---- why the newest round left ----

pub newest_calm : (rounds : List Round) → GoOn rounds → newest_cause rounds ≡ None
newest_calm [] go = refl
newest_calm (r ∷ past) go = go.0

-- a cause, or none of its own
pub cause_of : (rounds : List Round) (most : ℕ) (why : LowWhy) → EndsBy rounds most why → (newest_cause rounds ≡ Some why) ⊎ (newest_cause rounds ≡ None)
cause_of rounds most Gone e = inl e.1
cause_of rounds most Bad e = inl e.1
cause_of rounds most LinkFailed e = inl e.1
cause_of rounds most (Device n) e = inl e.1
cause_of rounds most RecordFailed e = inl e.1
cause_of rounds most Looks e = inr (newest_calm rounds e.1)
cause_of rounds most Stopped e = inr (newest_calm rounds e.1)

pub caused_by : (rounds : List Round) (most : ℕ) (why other : LowWhy) → EndsBy rounds most why → newest_cause rounds ≡ Some other → why ≡ other
caused_by rounds most why other e is = by (cause_of rounds most why e) where
  by : (newest_cause rounds ≡ Some why) ⊎ (newest_cause rounds ≡ None) → why ≡ other
  by (inl same) = let both : Some why ≡ Some other = sym same ∙ is in cc
  by (inr none) = let both : None ≡ Some other = sym none ∙ is in absurd (cc)

-- ---- how many rounds ----

pub bound_of : (rounds : List Round) (most : ℕ) (why : LowWhy) → EndsBy rounds most why → length rounds ≤ most
bound_of rounds most Gone e = e.0
bound_of rounds most Bad e = e.0
bound_of rounds most LinkFailed e = e.0
bound_of rounds most (Device n) e = e.0
bound_of rounds most RecordFailed e = e.0
bound_of rounds most Looks e = omega (arith, e.0)
bound_of rounds most Stopped e = omega (arith, e.0)

pub left_of : (rounds : List Round) (most : ℕ) (why : LowWhy) → (why ≡ Stopped → ⊥) → EndsBy rounds most why → length rounds < most → IsLeft rounds
left_of rounds most Gone never e lt = (Gone, e.1)
left_of rounds most Bad never e lt = (Bad, e.1)
left_of rounds most LinkFailed never e lt = (LinkFailed, e.1)
left_of rounds most (Device n) never e lt = (Device n, e.1)
left_of rounds most RecordFailed never e lt = (RecordFailed, e.1)
left_of rounds most Looks never e lt = absurd (omega (arith, e.0, lt))
left_of rounds most Stopped never e lt = absurd (never refl)

-- ---- the worker's end ----

-- the end for the answer of the rounds is that for the cause of the newest
pub ends_as : (rounds : List Round) (most : ℕ) (why : LowWhy) (k : Bool) → EndsBy rounds most why → end_at (Some why) k ≡ end_at (newest_cause rounds) k
ends_as rounds most Gone k e = ap (λ x. end_at x k) (sym e.1)
ends_as rounds most Bad k e = ap (λ x. end_at x k) (sym e.1)
ends_as rounds most LinkFailed k e = ap (λ x. end_at x k) (sym e.1)
ends_as rounds most (Device n) k e = ap (λ x. end_at x k) (sym e.1)
ends_as rounds most RecordFailed k e = ap (λ x. end_at x k) (sym e.1)
ends_as rounds most Looks k e = ap (λ x. end_at x k) (sym (newest_calm rounds e.1))
ends_as rounds most Stopped k e = ap (λ x. end_at x k) (sym (newest_calm rounds e.1))

-- where no look with Gone follows
pub end_plain : (why : LowWhy) → is_left_so why ≡ false → end_by why ≡ end_at (Some why) true
end_plain Gone l = refl
end_plain Bad l = absurd (cc)
end_plain LinkFailed l = absurd (cc)
end_plain (Device n) l = refl
end_plain RecordFailed l = refl
end_plain Looks l = refl
end_plain Stopped l = refl

-- .. and where one does
pub end_left : (why : LowWhy) (k : Bool) → is_left_so why ≡ true → (if k then None else Some RecordBroke) ≡ end_at (Some why) k
end_left Gone k l = absurd (cc)
end_left Bad k l = refl
end_left LinkFailed k l = refl
end_left (Device n) k l = absurd (cc)
end_left RecordFailed k l = absurd (cc)
end_left Looks k l = absurd (cc)
end_left Stopped k l = absurd (cc)

-- ---- the look with Gone ----

pub none_gone : (why : LowWhy) → is_left_so why ≡ false → GoneAfter (Some why) None
none_gone Gone l = refl
none_gone Bad l = absurd (cc)
none_gone LinkFailed l = absurd (cc)
none_gone (Device n) l = refl
none_gone RecordFailed l = refl
none_gone Looks l = refl
none_gone Stopped l = refl

pub some_gone : (why : LowWhy) (m : Made) → is_left_so why ≡ true → IsGone m → GoneAfter (Some why) (Some m)
some_gone Gone m l is = absurd (cc)
some_gone Bad m l is = (m, refl, is)
some_gone LinkFailed m l is = (m, refl, is)
some_gone (Device n) m l is = absurd (cc)
some_gone RecordFailed m l is = absurd (cc)
some_gone Looks m l is = absurd (cc)
some_gone Stopped m l is = absurd (cc)

left_by : (why : LowWhy) (m : Made) → GoneAfter (Some why) (Some m) → is_left_so why ≡ true
left_by Gone m gone = absurd (cc)
left_by Bad m gone = refl
left_by LinkFailed m gone = refl
left_by (Device n) m gone = absurd (cc)
left_by RecordFailed m gone = absurd (cc)
left_by Looks m gone = absurd (cc)
left_by Stopped m gone = absurd (cc)

gone_as : (rounds : List Round) (most : ℕ) (why : LowWhy) (gone : Option Made) → EndsBy rounds most why → GoneAfter (Some why) gone → GoneAfter (newest_cause rounds) gone
gone_as rounds most Gone gone e is = subst (λ (c : Option LowWhy). GoneAfter c gone) (sym e.1) is
gone_as rounds most Bad gone e is = subst (λ (c : Option LowWhy). GoneAfter c gone) (sym e.1) is
gone_as rounds most LinkFailed gone e is = subst (λ (c : Option LowWhy). GoneAfter c gone) (sym e.1) is
gone_as rounds most (Device n) gone e is = subst (λ (c : Option LowWhy). GoneAfter c gone) (sym e.1) is
gone_as rounds most RecordFailed gone e is = subst (λ (c : Option LowWhy). GoneAfter c gone) (sym e.1) is
gone_as rounds most Looks gone e is = subst (λ (c : Option LowWhy). GoneAfter c gone) (sym (newest_calm rounds e.1)) is
gone_as rounds most Stopped gone e is = subst (λ (c : Option LowWhy). GoneAfter c gone) (sym (newest_calm rounds e.1)) is

-- the rounds, and that look after them
pub goes : (p q q' : LowProcess) (rounds : List Round) (most : ℕ) (why : LowWhy) (gone : Option Made) → EndsBy rounds most why → GoneAfter (Some why) gone → Serves p q rounds
    → Leads q q' (λ row o before. IsLawfulRow row → IfSome gone (ReadsBack row before)) (λ before. with_look gone before)
    → Leads p q' (λ row o before. IsVisit row o before rounds gone) (λ before. visited before rounds gone)
goes p q q' rounds most why gone e is s g =
    leads_then p q q' (λ row o before. AreRounds row o before rounds) (λ row o before. IsLawfulRow row → IfSome gone (ReadsBack row before)) (λ row o before. IsVisit row o before rounds gone) (λ before. made_after before rounds) (λ before. with_look gone before)
    (λ row o before are back. (are, gone_as rounds most why gone e is, back)) s g

-- ---- the record ----

abbrev kept_why : LowWhy → Bool
kept_why RecordFailed = false
kept_why _ = true

unbroken : (k : Bool) (rest : Option LowWhy) (why : LowWhy) → kept_why why ≡ true → (if not k then Some RecordFailed else rest) ≡ Some why → k ≡ true
unbroken true rest why e h = refl
unbroken false rest why e h = let same : RecordFailed ≡ why = cc in let x : false ≡ true = ap kept_why same ∙ e in absurd (cc)

cause_kept : (rounds : List Round) (why : LowWhy) → kept_why why ≡ true → newest_cause rounds ≡ Some why → all_kept rounds ≡ true
cause_kept [] why e h = refl
cause_kept (r ∷ past) why e h = unbroken r.is_kept _ why e h

kept_of : (rounds : List Round) (most : ℕ) (why : LowWhy) → EndsBy rounds most why → kept_why why ≡ true → all_kept rounds ≡ true
kept_of rounds most Gone e k = cause_kept rounds Gone refl e.1
kept_of rounds most Bad e k = cause_kept rounds Bad refl e.1
kept_of rounds most LinkFailed e k = cause_kept rounds LinkFailed refl e.1
kept_of rounds most (Device n) e k = cause_kept rounds (Device n) refl e.1
kept_of rounds most RecordFailed e k = absurd (cc)
kept_of rounds most Looks e k = kept_on rounds e.1
kept_of rounds most Stopped e k = kept_on rounds e.1

broken_cause : (rounds : List Round) → newest_cause rounds ≡ Some RecordFailed → all_kept rounds ≡ false
broken_cause [] e = absurd (cc)
broken_cause (r ∷ past) e = broken_round r e

-- its lines were written whole, but where the worker's end says that they were not
same_kept : (rounds : List Round) (most : ℕ) (why : LowWhy) → EndsBy rounds most why → all_kept rounds ≡ is_kept_by (end_at (Some why) true)
same_kept rounds most Gone e = kept_of rounds most Gone e refl
same_kept rounds most Bad e = kept_of rounds most Bad e refl
same_kept rounds most LinkFailed e = kept_of rounds most LinkFailed e refl
same_kept rounds most (Device n) e = kept_of rounds most (Device n) e refl
same_kept rounds most RecordFailed e = broken_cause rounds e.1
same_kept rounds most Looks e = kept_of rounds most Looks e refl
same_kept rounds most Stopped e = kept_of rounds most Stopped e refl

left_kept : (why : LowWhy) → is_left_so why ≡ true → kept_why why ≡ true
left_kept Gone l = refl
left_kept Bad l = refl
left_kept LinkFailed l = refl
left_kept (Device n) l = refl
left_kept RecordFailed l = absurd (cc)
left_kept Looks l = refl
left_kept Stopped l = refl

kept_by : (why : LowWhy) (k : Bool) → is_left_so why ≡ true → k ≡ is_kept_by (end_at (Some why) k)
kept_by Gone k l = absurd (cc)
kept_by Bad true l = refl
kept_by Bad false l = refl
kept_by LinkFailed true l = refl
kept_by LinkFailed false l = refl
kept_by (Device n) k l = absurd (cc)
kept_by RecordFailed k l = absurd (cc)
kept_by Looks k l = absurd (cc)
kept_by Stopped k l = absurd (cc)

module _ (t t1 t2 : Option (List ℕ)) (n n1 n2 : ℕ) (row : SessionRow) (rounds : List Round) (most : ℕ) (why : LowWhy) (e : EndsBy rounds most why)
    (keeps : Reaches (Appends t t1) n n1 (all_kept rounds) (looks_text row (record_of (made_in rounds)))) where
  -- where the worker's lines at a link end with those of the look with Gone, if there is one
  kept_with : (gone : Option Made) (k : Bool) → GoneAfter (Some why) gone → (gone ≡ None → k ≡ true) → Reaches (Appends t1 t2) n1 n2 k (text_made row [] gone) → Reaches (Appends t t2) n n2 (is_kept_by (end_at (Some why) k)) (visit_text row rounds gone)
  kept_with None k is none still =
      let text = looks_text row (record_of (made_in rounds)) in
      let here : Reaches (Appends t1 t2) n1 n2 true [] = subst (λ (b : Bool). Reaches (Appends t1 t2) n1 n2 b []) (none refl) still in
      let all : Reaches (Appends t t2) n n2 (all_kept rounds) text = reaches_still (Appends t t1) (Appends t1 t2) (Appends t t2) n n1 n2 (all_kept rounds) text
      (λ some a b. subst (Appends t t2) (append-nil some) (Appends-then t t1 t2 some [] a b)) keeps here in
      subst (λ (z : Bool × List ℕ). Reaches (Appends t t2) n n2 z.0 z.1) (λ i. ((same_kept rounds most why e ∙ ap (λ b. is_kept_by (end_at (Some why) b)) (sym (none refl))) i, sym (append-nil text) i)) all
  kept_with (Some m) k is none line =
      let left = left_by why m is in
      let first : Appends t t1 (looks_text row (record_of (made_in rounds))) = keeps.whole (kept_of rounds most why e (left_kept why left)) in
      subst (λ (b : Bool). Reaches (Appends t t2) n n2 b (visit_text row rounds (Some m))) (kept_by why k left)
      (reaches_behind (Appends t t2) (Appends t1 t2) n n1 n2 k (looks_text row (record_of (made_in rounds))) (text_made row [] (Some m)) keeps.later (λ rest g. Appends-then t t1 t2 _ rest first g) line)

  pub kept_left : (row' : SessionRow) (gone : Option Made) (k : Bool) (end : Option RoundsEnd) → GoneAfter (Some why) gone → (gone ≡ None → k ≡ true) → end ≡ end_at (Some why) k → row' ≡ row
      → Reaches (Appends t1 t2) n1 n2 k (text_made row' [] gone) → Reaches (Appends t t2) n n2 (is_kept_by end) (visit_text row rounds gone)
  kept_left row' gone k end is none ended same line =
      subst (λ (x : Option RoundsEnd). Reaches (Appends t t2) n n2 (is_kept_by x) (visit_text row rounds gone)) (sym ended)
      (kept_with gone k is none (subst (λ (z : SessionRow). Reaches (Appends t1 t2) n1 n2 k (text_made z [] gone)) same line))

-- ---- what an end says ----

-- a call that did not end the worker ended neither by the disk nor by the record
pub calm_end : (why : LowWhy) (k : Bool) (end : Option RoundsEnd) → end ≡ end_at (Some why) k → is_ended end ≡ false → (is_device why ≡ false) × (why ≡ RecordFailed → ⊥)
calm_end why k end is calm = by_cases why (ap is_ended (sym is) ∙ calm) where
  by_cases : (why : LowWhy) → is_ended (end_at (Some why) k) ≡ false → (is_device why ≡ false) × (why ≡ RecordFailed → ⊥)
  by_cases Gone calm = (refl, λ e. cc)
  by_cases Bad calm = (refl, λ e. cc)
  by_cases LinkFailed calm = (refl, λ e. cc)
  by_cases (Device n) calm = absurd (cc)
  by_cases RecordFailed calm = absurd (cc)
  by_cases Looks calm = (refl, λ e. cc)
  by_cases Stopped calm = (refl, λ e. cc)

pub end_counts : (why : LowWhy) (k : Bool) (end : Option RoundsEnd) (before now : ℕ) → end ≡ end_at (Some why) k → CountsFault why before now → CountsEnd end before now
end_counts why k end before now is counted = subst (λ e. CountsEnd e before now) (sym is) (by_cases why k counted) where
  by_cases : (why : LowWhy) (k : Bool) → CountsFault why before now → CountsEnd (end_at (Some why) k) before now
  by_cases Gone k counted = tt
  by_cases Bad true counted = tt
  by_cases Bad false counted = tt
  by_cases LinkFailed true counted = tt
  by_cases LinkFailed false counted = tt
  by_cases (Device n) k counted = counted
  by_cases RecordFailed k counted = tt
  by_cases Looks k counted = tt
  by_cases Stopped k counted = tt

-- a call after which a look with Gone follows ended so, too
pub left_calm : (why : LowWhy) → is_left_so why ≡ true → (is_device why ≡ false) × (why ≡ RecordFailed → ⊥)
left_calm Gone left = absurd (cc)
left_calm Bad left = (refl, λ e. cc)
left_calm LinkFailed left = (refl, λ e. cc)
left_calm (Device n) left = absurd (cc)
left_calm RecordFailed left = absurd (cc)
left_calm Looks left = absurd (cc)
left_calm Stopped left = absurd (cc)
