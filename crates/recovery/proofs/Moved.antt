-- What a move leaves.
use Rattle.std.proofs.Common.{◌≡◌, inl, inr, ⊎_elim, ℕ, zero, suc, ◌+◌, ◌-◌, ◌<◌, ◌≤◌, nat_lt, if◌then◌else◌, ◌&&◌, Bool, true, false, List, [], ◌∷◌, length, get_or, drop, Option, Some, None, Result, Ok, IfErr, refl, sym, ◌∙◌, ap, subst, arith, length-drop}
use Rattle.std.proofs.lemmas.Bool.{cases_lt}
use Rattle.std.proofs.lemmas.Result.{IfErr-weaker}
use Rattle.std.proofs.lemmas.List.{get_or-drop}
use Rattle.std.proofs.lemmas.List.Elements.{All-from_get_or}
use Rattle.std.specs.List.{All}
use Rattle.disk_model.specs.Disk.{Meaning, Moves, Same, Each}
use Rattle.disk_model.specs.declared.name.Role.{Role}
use Rattle.disk_model.specs.declared.name.Role.TheVariants.{Low, Recv}
use Rattle.disk_model.proofs.Run.{leaves, goes_on_same}
use Rattle.pump_frame.specs.Rows.{IsLawfulRow}
use Rattle.pump_frame.specs.declared.row.SessionRow.{SessionRow}
use Rattle.stable_buffer.specs.Making.{IsNone, IsNoneOr}
use Rattle.stable_buffer.specs.Register.{value_of}
use Rattle.stable_buffer.specs.Stands.{LowStands}
use Rattle.stable_buffer.specs.Log.{RecvStands}
use Rattle.disk_model.specs.DiskNames.{same_role}
use Rattle.recovery.specs.Agreement.{Disagrees}
use Rattle.recovery.specs.Calls.{is_device}
use Rattle.recovery.specs.Fillings.{IsMadeFrom}
use Rattle.recovery.specs.Moves.{StandFor, AreFound, IsMoveRefused, IsMade, IsKept, Counted, AreWrittenInTurn, is_blamed, fault_of, too_long, first_full, first_unfit}
use Rattle.recovery.specs.Refusals.{or_else, told_of}
use Rattle.recovery.specs.Surveys.{IsSurveyed}
use Rattle.recovery.specs.declared.survey.Counts.{Counts}
use Rattle.recovery.specs.declared.trio.MoveFault.{MoveFault}
use Rattle.recovery.specs.declared.trio.Trio.{Trio}
use Rattle.recovery.specs.declared.why.Why.{Why}
use Rattle.recovery.specs.declared.why.Why.TheVariants.{TooLong}
use Rattle.recovery.proofs.Calls.{some_none}
use Rattle.recovery.proofs.Readings.{low_tells, receiver_tells}
use Rattle.recovery.proofs.Rows.{row_message}
use Rattle.recovery.proofs.Slots.{slot_one}
use Rattle.recovery.proofs.Surveys.{counted_next, kept_after}
use Rattle.recovery.proofs.Triples.{never_apart}

-- ---- what a crash leaves ----

module _ {D : Type 0} (m : Meaning D) (P : List ℕ → Type 0) (old : D) where
  short_each : (m.reading old ≡ []) → ((c : List ℕ) → m.images old c → length c < 80) → Each m (λ c. length c < 80) old
  short_each empty short = record { reading = λ told. omega (arith, ap length empty); images = λ told c is. short c is }

  short_none : (Q : List ℕ → Type 0) (c : List ℕ) → length c < 80 → IsNoneOr Q c
  short_none Q c few long is = absurd (omega (arith, few, long))

  short_same : (Q : List ℕ → Type 0) (c d : List ℕ) → length c < 80 → d ≡ c → IsNoneOr Q d
  short_same Q c d few same long is = absurd (omega (arith, ap length same, few, long))

  -- a disk that is only read
  pub made_same : (new : D) → Moves m Same old new → IsMade m P old new
  made_same new moved empty short = leaves m (λ c. length c < 80) (IsNoneOr P) Same old new (short_each empty short) (short_none P) (short_same P) moved

  -- .. and then made
  pub made_after : (mid new : D) → Moves m Same old mid → IsMadeFrom m P mid new → IsMade m P old new
  made_after mid new moved made empty short told =
      made (λ c is. let from = moved.now told c is in subst (λ (z : List ℕ). length z < 80) (sym from.2) (short from.0 from.1)) (m.moment old) moved.later
      (leaves m (λ c. length c < 80) IsNone Same old mid (short_each empty short) (short_none (λ c. ⊥)) (short_same (λ c. ⊥)) moved) told

pub made_weaker : {D : Type 0} (m : Meaning D) (P Q : List ℕ → Type 0) (old new : D) → (m.tells → (c : List ℕ) → P c → Q c) → IsMade m P old new → IsMade m Q old new
made_weaker m P Q old new next made empty short told c left long is = next (m.images_tell told) c (made empty short told c left long is)

-- new disks that were only read, and then written in turn
pub turned_after : {D T U : Type 0} (m : Meaning D) (low_was low_is high_was high_is : List ℕ) (old mid new : Trio D) (before : Result T MoveFault) (after : Result U MoveFault)
    → ((P : MoveFault → Type 0) → IfErr before P → IfErr after P) → (m.tells → low_was ≡ low_is) → (m.tells → high_was ≡ high_is)
    → Moves m Same old.high mid.high → Moves m Same old.recv mid.recv → AreWrittenInTurn m low_was high_was mid new before → AreWrittenInTurn m low_is high_is old new after
turned_after m low_was low_is high_was high_is old mid new before after on low_same high_same high recv t =
    let next_high = λ (moved : Moves m Same mid.high new.high). goes_on_same m Same old.high mid.high new.high high moved in
    let next_recv = λ (moved : Moves m Same mid.recv new.recv). goes_on_same m Same old.recv mid.recv new.recv recv moved in
    record {
      at_low = on _ (IfErr-weaker before _ _ (λ f at is. let both = at is in (next_high both.0, next_recv both.1)) t.at_low);
      at_high = on _ (IfErr-weaker before _ _ (λ f at is. next_recv (at is)) t.at_high);
      high = λ told. elim (t.high told) [ inl moved ↦ inl (next_high moved) | inr is ↦ inr (is ∙ low_same told) ];
      recv = λ told. elim (t.recv told) [ inl moved ↦ inl (next_recv moved) | inr is ↦ inr (is.0 ∙ low_same told, is.1 ∙ high_same told) ];
    }

-- ---- what fits the new row ----

none_first : {A : Type 0} (a b : Option A) → or_else a b ≡ None → a ≡ None
none_first None b is = refl
none_first (Some x) b is = absurd (cc)

none_second : {A : Type 0} (a b : Option A) → or_else a b ≡ None → b ≡ None
none_second None b is = is
none_second (Some x) b is = absurd (cc)

not_told : (new : Bool) (role : Role) (x : Option Why) → fault_of new (told_of role x) ≡ None → x ≡ None
not_told new role None is = refl
not_told new role (Some why) is = absurd (cc)

short_here : (to : SessionRow) (n l : ℕ) (rest : Option Why) → (if nat_lt to.message l then Some (TooLong n l) else rest) ≡ None → l ≤ to.message
short_here to n l rest is = elim (cases_lt to.message l) [
  | inl long ↦ absurd (let yes : nat_lt to.message l ≡ true = grind (arith, long) in some_none (if nat_lt to.message l then Some (TooLong n l) else rest) (TooLong n l) is (rw (yes) refl))
  | inr le ↦ omega (arith, le)
]

later_none : (b : Bool) (x : Why) (rest : Option Why) → (if b then Some x else rest) ≡ None → rest ≡ None
later_none true x rest is = absurd (cc)
later_none false x rest is = is

all_short : (to : SessionRow) (n : ℕ) (ms : List (List ℕ)) → too_long to n ms ≡ None → (i : ℕ) → i < length ms → length (get_or ms i []) ≤ to.message
all_short to n [] is i lt = absurd (omega (arith, lt))
all_short to n (x ∷ ms) is zero lt = short_here to n (length x) _ is
all_short to n (x ∷ ms) is (suc i) lt = all_short to (n + 1) ms (later_none _ _ _ is) i (omega (arith, lt))

pub record FitBoth (to : SessionRow) (live received : List (List ℕ)) : Type 0 where
  pub live_fits : All (λ message. length message ≤ to.message) live
  pub received_fits : All (λ message. length message ≤ to.message) received

pub fit_both : (from to : SessionRow) (size E B : ℕ) (live received : List (List ℕ)) (low high recv : List ℕ) → IsLawfulRow from → AreFound from size E B live received low high recv → first_unfit to B live received ≡ None
    → FitBoth to live received
fit_both from to size E B live received low high recv lawful found is =
    let later = none_second _ _ is in
    let taken = all_short to 0 received (not_told false Recv _ (none_first _ _ later)) in
    let left = all_short to (length received) (drop (length received - B) live) (not_told false Low _ (none_second _ _ later)) in
    let s = found.stand.low_stands in
    let k = length received - B in
    record {
      received_fits = All-from_get_or (λ (message : List ℕ). length message ≤ to.message) received [] taken;
      live_fits = All-from_get_or (λ (message : List ℕ). length message ≤ to.message) live [] (λ i lt. elim (cases_lt i k) [
        | inl early ↦
            let one = slot_one from (row_message from lawful) (B + i) (get_or live i []) (get_or received (B + i) []) low (s.slots i lt) (found.agree (B + i) (omega arith) (omega (arith, early))) in
            omega (arith, ap length one, taken (B + i) (omega (arith, early)))
        | inr late ↦
            let e : k + (i - k) ≡ i = omega (arith, late) in
            let here : length (get_or (drop k live) (i - k) []) ≤ to.message = left (i - k) (omega (arith, length-drop k live, lt, late)) in
            subst (λ j. length (get_or live j []) ≤ to.message) e (subst (λ (z : List ℕ). length z ≤ to.message) (get_or-drop k live (i - k) []) here)
      ]);
    }

-- ---- three disks stand for one thing ----

pub record IsJust {D : Type 0} (m : Meaning D) (from : SessionRow) (size : ℕ) (counts : Counts) (old : Trio D) (E B : ℕ) (live received : List (List ℕ)) : Type 0 where
  pub accepted : E ≡ counts.accepted
  pub removed : B ≡ counts.removed
  pub count : length received ≡ counts.received
  pub end : (value_of (m.reading old.recv)).1 ≡ counts.end
  pub found : AreFound from size counts.accepted counts.removed live received (m.reading old.low) (m.reading old.high) (m.reading old.recv)

pub just : {D : Type 0} (m : Meaning D) (from : SessionRow) (size : ℕ) (counts : Counts) (old : Trio D) → IsLawfulRow from → IsSurveyed m from size counts old → m.tells → (E B : ℕ) (live received : List (List ℕ))
    → StandFor from E B live received (m.reading old.low) (m.reading old.high) (m.reading old.recv) → IsJust m from size counts old E B live received
just m from size counts old lawful s told E B live received stand =
    let (live', received', count, end, found) = s.found told in
    let low = m.reading old.low in
    let e : E ≡ counts.accepted = ap (λ (v : ℕ × ℕ). v.0) (sym stand.low_stands.value ∙ found.stand.low_stands.value) in
    let b : B ≡ counts.removed = ap (λ (v : ℕ × ℕ). v.0) (sym stand.high_stands.value ∙ found.stand.high_stands.value) in
    let low_is : LowStands from counts.accepted counts.removed live low = subst (λ k. LowStands from counts.accepted k live low) b (subst (λ k. LowStands from k B live low) e stand.low_stands) in
    let none : counts.removed - counts.removed ≡ 0 = omega arith in
    let lives : live' ≡ live = low_tells from counts.accepted counts.removed counts.removed live live' low lawful (omega arith) low_is found.stand.low_stands ∙ ap (λ k. drop k live) none in
    let records : received' ≡ received = receiver_tells from received' received (m.reading old.recv) found.stand.recv_stands stand.recv_stands in
    record {
      accepted = e;
      removed = b;
      count = ap length (sym records) ∙ count;
      end = end;
      found = subst (λ (z : List (List ℕ)). AreFound from size counts.accepted counts.removed live z low (m.reading old.high) (m.reading old.recv)) records
          (subst (λ (z : List (List ℕ)). AreFound from size counts.accepted counts.removed z received' low (m.reading old.high) (m.reading old.recv)) lives found);
    }

-- where nothing is refused of the new disks, nothing is
pub not_refused : {D : Type 0} (m : Meaning D) (from to : SessionRow) (size : ℕ) (counts : Counts) (old : Trio D) (new_low new_high new_recv : List ℕ) → IsLawfulRow from → IsSurveyed m from size counts old → m.tells
    → ((live received : List (List ℕ)) → AreFound from size counts.accepted counts.removed live received (m.reading old.low) (m.reading old.high) (m.reading old.recv) → length received ≡ counts.received
    → (value_of (m.reading old.recv)).1 ≡ counts.end → or_else (first_full new_low new_high new_recv) (first_unfit to counts.removed live received) ≡ None)
    → (f : MoveFault) → IsMoveRefused from to size (m.reading old.low) (m.reading old.high) (m.reading old.recv) new_low new_high new_recv f → ⊥
not_refused m from to size counts old new_low new_high new_recv lawful s told fine f refused =
    let low = m.reading old.low in
    let high = m.reading old.high in
    let recv = m.reading old.recv in
    let (live, received, count, end, found) = s.found told in
    let b = ap (λ (v : ℕ × ℕ). v.0) found.stand.high_stands.value in
    let r = ap (λ (v : ℕ × ℕ). v.0) found.stand.recv_stands.value in
    let e = ap (λ (v : ℕ × ℕ). v.0) found.stand.low_stands.value in
    let apart : ((messages : List (List ℕ)) → RecvStands from messages recv → Disagrees from (value_of high).0 (value_of recv).0 (value_of low).0 messages low f.why) → ⊥ = λ differs.
    let here = differs received found.stand.recv_stands in
    let one = subst (λ k. Disagrees from k (value_of recv).0 (value_of low).0 received low f.why) b here in
    let two = subst (λ k. Disagrees from counts.removed k (value_of low).0 received low f.why) r one in
    let three = subst (λ k. Disagrees from counts.removed (length received) k received low f.why) e two in
    never_apart from counts.removed (length received) counts.accepted received low f.why found.order.0 found.order.1 found.agree three in
    ⊎_elim
    (λ old_one. ⊎_elim (λ pump. some_none _ _ found.pump pump) (λ rest. ⊎_elim (λ log. some_none _ _ found.receiver log) (λ beside. apart beside.1) rest.2) old_one.1)
    (λ new_one.
    let (E, B, live', received', found', is) = new_one in
    let j = just m from size counts old lawful s told E B live' received' found'.stand in
    some_none _ _ (fine live' received' j.found j.count j.end) (subst (λ k. or_else (first_full new_low new_high new_recv) (first_unfit to k live' received') ≡ Some f) j.removed is))
    refused

-- ---- a clause on disks that were read, about the disks before ----

pub at_old : (from : SessionRow) (size : ℕ) (counts : Counts) (mid_low mid_recv low high recv : List ℕ) (Q : List (List ℕ) → List (List ℕ) → Type 0) → mid_low ≡ low → mid_recv ≡ recv
    → ((live received : List (List ℕ)) → length received ≡ counts.received → (value_of mid_recv).1 ≡ counts.end → LowStands from counts.accepted counts.removed live mid_low → RecvStands from received mid_recv → Q live received)
    → (live received : List (List ℕ)) → AreFound from size counts.accepted counts.removed live received low high recv → length received ≡ counts.received → (value_of recv).1 ≡ counts.end → Q live received
at_old from size counts mid_low mid_recv low high recv Q same_low same_recv clause live received found count end =
    clause live received count (subst (λ (z : List ℕ). (value_of z).1 ≡ counts.end) (sym same_recv) end) (subst (λ (z : List ℕ). LowStands from counts.accepted counts.removed live z) (sym same_low) found.stand.low_stands)
    (subst (λ (z : List ℕ). RecvStands from received z) (sym same_recv) found.stand.recv_stands)

-- a new disk that is only read, and then written
pub counted_after : {D : Type 0} (m : Meaning D) (old mid new : D) (failed : Bool) → IsKept m old mid false → Counted m mid new failed → Counted m old new failed
counted_after m old mid new failed first second = counted_next m old mid new failed first.counted second

not_all : (a b c : Bool) → (c ≡ true → a ≡ false) → (a && b && c) ≡ true → ⊥
not_all false b c never is = absurd (cc)
not_all true false c never is = absurd (cc)
not_all true true c never is = let here : true ≡ false = never is in cc

-- a new disk that no call was made of, where a device that failed is an old one
pub not_blamed : {D : Type 0} (m : Meaning D) (role : Role) (f : MoveFault) (d : D) → (is_device f.why ≡ true → f.new ≡ false) → Counted m d d (f.new && same_role f.role role && is_device f.why)
not_blamed m role f d old = record { counts = omega arith; rose = λ is. absurd (not_all f.new (same_role f.role role) (is_device f.why) old is) }

-- one disk more of a call whose survey was fine
pub kept_on : {D : Type 0} (m : Meaning D) (role : Role) (end : Result Counts MoveFault) (counts : Counts) (old mid new : D) (failed : Bool) → end ≡ Ok counts → IsKept m old mid (is_blamed false role end) → IsKept m mid new failed
    → IsKept m old new failed
kept_on m role end counts old mid new failed is first second = kept_after m old mid new failed (subst (λ r. IsKept m old mid (is_blamed false role r)) is first) second

pub value_is : (disk : List ℕ) (R end : ℕ) → (value_of disk).0 ≡ R → (value_of disk).1 ≡ end → value_of disk ≡ (R, end)
value_is disk R end a b = λ i. (a i, b i)

-- new disks that are empty after calls which wrote none of them were empty before
pub was_empty : {D : Type 0} (m : Meaning D) (old new : Trio D) → m.tells → Moves m Same old.low new.low → Moves m Same old.high new.high → Moves m Same old.recv new.recv
    → (m.reading new.low ≡ []) × (m.reading new.high ≡ []) × (m.reading new.recv ≡ [])
    → first_full (m.reading old.low) (m.reading old.high) (m.reading old.recv) ≡ None
was_empty m old new told low high recv empty =
    subst (λ (t : List ℕ × List ℕ × List ℕ). first_full t.0 t.1 t.2 ≡ None)
    (λ i. (sym (sym (low.reads told) ∙ empty.0) i, sym (sym (high.reads told) ∙ empty.1) i, sym (sym (recv.reads told) ∙ empty.2) i)) refl
