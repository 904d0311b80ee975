-- What doesn't fit a row.
use Rattle.std.proofs.Common.{◌≡◌, ℕ, suc, ◌+◌, ◌-◌, ◌*◌, ◌<◌, ◌≤◌, nat_lt, if◌then◌else◌, true, false, List, [], length, get_or, take, drop, Option, Some, None, refl, sym, ◌∙◌, ap, subst, arith, drop-cons}
use Rattle.std.proofs.lemmas.List.{get_or-drop, get_or-take, drop_all, drop-drop}
use Rattle.pump_frame.specs.declared.row.SessionRow.{SessionRow}
use Rattle.stable_buffer.specs.Numbers.{length_at}
use Rattle.stable_buffer.specs.Stands.{LowStands, slot_of}
use Rattle.stable_buffer.specs.Log.{Records, RecvStands, log_of}
use Rattle.disk_model.specs.declared.name.Role.TheVariants.{Low, Recv}
use Rattle.stable_buffer.specs.Register.{value_of}
use Rattle.recovery.specs.Refusals.{or_else, told_of}
use Rattle.recovery.specs.declared.trio.MoveFault.{MoveFault}
use Rattle.recovery.specs.Moves.{too_long, small, fault_of, first_unfit}
use Rattle.recovery.specs.declared.why.Why.{Why}
use Rattle.recovery.specs.declared.why.Why.TheVariants.{TooLong, Small}
use Rattle.recovery.proofs.Slots.{slot_length}
use Rattle.recovery.proofs.Walk.{rest_length, rest_at}
use Rattle.recovery.proofs.Words.{length_at-agree}

-- the length of two bytes that were read
pub length_taken : (at : ℕ) (head disk : List ℕ) → head ≡ take 2 (drop at disk) → length_at head 0 ≡ length_at disk at
length_taken at head disk is = length_at-agree head 0 disk at
    (λ i lt. let e : 0 + i ≡ i = omega arith in
    ap (λ j. get_or head j 0) e ∙ ap (λ (l : List ℕ). get_or l i 0) is ∙ get_or-take 2 (drop at disk) i 0 lt ∙ get_or-drop at disk i 0)

pub too_long_step : (to : SessionRow) (n k l : ℕ) (ms : List (List ℕ)) → k < length ms → l ≡ length (get_or ms k [])
    → too_long to n (drop k ms) ≡ (if nat_lt to.message l then Some (TooLong n l) else too_long to (n + 1) (drop (k + 1) ms))
too_long_step to n k l ms lt is =
    let e : suc k ≡ k + 1 = omega arith in
    ap (λ (z : List (List ℕ)). too_long to n z) (drop-cons ms k [] lt)
    ∙ (λ i. if nat_lt to.message (sym is i) then Some (TooLong n (sym is i)) else too_long to (n + 1) (drop (e i) ms))

-- no message is left
pub too_long_none : (to : SessionRow) (n k : ℕ) (ms : List (List ℕ)) → length ms ≤ k → too_long to n (drop k ms) ≡ None
too_long_none to n k ms le = ap (λ (z : List (List ℕ)). too_long to n z) (drop_all k ms le)

-- one record more
pub record RecordStep (to : SessionRow) (most n at end l : ℕ) (received : List (List ℕ)) (disk : List ℕ) : Type 0 where
  pub long : too_long to n (drop n received) ≡ (if nat_lt to.message l then Some (TooLong n l) else too_long to (n + 1) (drop (n + 1) received))
  pub within : 2 + l ≤ end - at
  pub rest : Records most (drop (n + 1) received) (drop (at + (2 + l) - 80) (log_of end disk))

pub record_step : (to : SessionRow) (most n at end l : ℕ) (received : List (List ℕ)) (disk : List ℕ) → 80 ≤ at → at ≤ end → end ≤ length disk → n < length received
    → Records most (drop n received) (drop (at - 80) (log_of end disk)) → l ≡ length_at disk at → RecordStep to most n at end l received disk
record_step to most n at end l received disk above below within lt records is =
    let log = log_of end disk in
    let rest = drop (at - 80) log in
    let m = get_or received n [] in
    let (fits, spelled_is, few, here, later) = subst (λ (z : List (List ℕ)). Records most z rest) (drop-cons received n [] lt) records in
    let size : length rest ≡ end - at = rest_length end disk (omega (arith, above, below)) within at above below in
    let same : l ≡ length m = is ∙ sym (rest_at end disk (omega (arith, above, below)) within at above (omega (arith, fits, size, below))) ∙ spelled_is in
    let e : suc n ≡ n + 1 = omega arith in
    let place : at - 80 + (2 + length m) ≡ at + (2 + l) - 80 = omega (arith, above, same) in
    record {
      long = too_long_step to n n l received lt same;
      within = omega (arith, fits, size, same);
      rest = subst (λ k. Records most (drop k received) (drop (at + (2 + l) - 80) log)) e
          (subst (λ (z : List ℕ). Records most (drop (suc n) received) z) (drop-drop (2 + length m) (at - 80) log ∙ ap (λ k. drop k log) place) later);
    }

-- one slot more
pub slot_step : (from to : SessionRow) (E B n l : ℕ) (live : List (List ℕ)) (disk : List ℕ) → from.message ≤ 1024 → LowStands from E B live disk → B ≤ n → n < E → l ≡ length_at disk (slot_of from n)
    → too_long to n (drop (n - B) live) ≡ (if nat_lt to.message l then Some (TooLong n l) else too_long to (n + 1) (drop (n + 1 - B) live))
slot_step from to E B n l live disk small s le lt is =
    let k = n - B in
    let e : B + k ≡ n = omega (arith, le) in
    let within : k < length live = omega (arith, le, lt, s.count) in
    let has = slot_length from small (B + k) (get_or live k []) disk (s.slots k within) in
    let same : l ≡ length (get_or live k []) = is ∙ ap (λ j. length_at disk (slot_of from j)) (sym e) ∙ has in
    let next : k + 1 ≡ n + 1 - B = omega (arith, le) in
    subst (λ j. too_long to n (drop k live) ≡ (if nat_lt to.message l then Some (TooLong n l) else too_long to (n + 1) (drop j live))) next (too_long_step to n k l live within same)

pub pick_long : (to : SessionRow) (n l : ℕ) (x rest : Option Why) → to.message < l → x ≡ (if nat_lt to.message l then Some (TooLong n l) else rest) → x ≡ Some (TooLong n l)
pick_long to n l x rest lt is = let yes : nat_lt to.message l ≡ true = grind (arith, lt) in is ∙ rw (yes) refl

pub pick_short : (to : SessionRow) (n l : ℕ) (x rest : Option Why) → l ≤ to.message → x ≡ (if nat_lt to.message l then Some (TooLong n l) else rest) → x ≡ rest
pick_short to n l x rest le is = let no : nat_lt to.message l ≡ false = grind (arith, le) in is ∙ rw (no) refl

-- ---- what comes first ----

pub none_small : (to : SessionRow) (held : ℕ) → held ≤ to.capacity → fault_of false (told_of Low (small to held)) ≡ None
none_small to held le = let no : nat_lt to.capacity held ≡ false = grind (arith, le) in rw (no) refl

-- too many messages
pub comes_now : (to : SessionRow) (held : ℕ) (b : Option MoveFault) → to.capacity < held → or_else (fault_of false (told_of Low (small to held))) b ≡ Some (record { new = false; role = Low; why = Small held to.capacity })
comes_now to held b more = let yes : nat_lt to.capacity held ≡ true = grind (arith, more) in rw (yes) refl

-- nothing is refused
pub fits_all : (to : SessionRow) (B : ℕ) (live received : List (List ℕ)) → length live ≤ to.capacity → too_long to 0 received ≡ None → too_long to (length received) (drop (length received - B) live) ≡ None
    → first_unfit to B live received ≡ None
fits_all to B live received le first later =
    (λ i. or_else (none_small to (length live) le i) (or_else (fault_of false (told_of Recv (first i))) (fault_of false (told_of Low (later i)))))

pub comes_second : (a b c : Option MoveFault) (f : MoveFault) → a ≡ None → b ≡ Some f → or_else a (or_else b c) ≡ Some f
comes_second a b c f none is = (λ i. or_else (none i) (or_else (is i) c))

pub comes_third : (a b c : Option MoveFault) (f : MoveFault) → a ≡ None → b ≡ None → c ≡ Some f → or_else a (or_else b c) ≡ Some f
comes_third a b c f none empty is = (λ i. or_else (none i) (or_else (empty i) (is i)))

-- the records of a disk end where its register says
pub record RecordsEnd (row : SessionRow) (received : List (List ℕ)) (end : ℕ) (disk : List ℕ) : Type 0 where
  pub within : end ≤ length disk
  pub records : Records row.message received (log_of end disk)

pub records_end : (row : SessionRow) (received : List (List ℕ)) (end : ℕ) (disk : List ℕ) → RecvStands row received disk → (value_of disk).1 ≡ end → RecordsEnd row received end disk
records_end row received end disk s is =
    let same : s.end ≡ end = sym (ap (λ (v : ℕ × ℕ). v.1) s.value) ∙ is in
    record { within = omega (arith, s.within, same); records = subst (λ e. Records row.message received (log_of e disk)) same s.records }
