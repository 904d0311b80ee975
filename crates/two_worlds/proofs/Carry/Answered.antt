-- What a receiver answered to a message that is not ahead.
use Rattle.std.proofs.Common.{◌≡◌, ℕ, ◌+◌, ◌≤◌, ◌<◌, Bool, true, false, cond, List, length, None, Some, Result, Ok, Err, refl, ap, arith, nat_lt, IfSome}
use Rattle.std.proofs.lemmas.Bool.Decides.{nat_tests}
use Rattle.disk_model.specs.Disk.{Meaning}
use Rattle.high_receiver.specs.Receiving.{Stores, answer_at_once}
use Rattle.high_receiver.specs.declared.receiver.Receiver.{Receiver}
use Rattle.high_receiver.specs.declared.values.Taken.{Taken}
use Rattle.high_receiver.specs.declared.values.Taken.TheVariants.{Took, Repeat}
use Rattle.high_receiver.specs.declared.values.TakeFault.{TakeFault}
use Rattle.high_receiver.specs.declared.values.TakeFault.TheVariants.{Device, Ahead, LogFull}

module _ {D : Type 0} (m : Meaning D) (message : List ℕ) (n R E S : ℕ) (old new : Receiver D) (result : Result Taken TakeFault) where
  -- it is a repeat, or it does not fit, or it was to be stored
  pub data Answered : Type 0 where
    Repeated : n < R → result ≡ Ok Repeat → new ≡ old → Answered
    Overfilled : n ≡ R → S < E + 2 + length message → result ≡ Err (LogFull E (length message) S) → new ≡ old → Answered
    Stored : n ≡ R → E + 2 + length message ≤ S → Stores m message old new result → Answered

  by_tests : (b1 b2 b3 : Bool) → nat_lt n R ≡ b1 → nat_lt R n ≡ b2 → nat_lt S (E + 2 + length message) ≡ b3 → n ≤ R
      → IfSome (cond b1 (Some (Ok Repeat)) (cond b2 (Some (Err (Ahead n R))) (cond b3 (Some (Err (LogFull E (length message) S))) None))) (λ answer. result ≡ answer)
      → IfSome (cond b1 (Some (Ok Repeat)) (cond b2 (Some (Err (Ahead n R))) (cond b3 (Some (Err (LogFull E (length message) S))) None))) (λ answer. new ≡ old)
      → (cond b1 (Some (Ok Repeat)) (cond b2 (Some (Err (Ahead n R))) (cond b3 (Some (Err (LogFull E (length message) S))) None)) ≡ None → Stores m message old new result)
      → Answered
  by_tests true b2 b3 e1 e2 e3 le at_once unchanged stores = Repeated (grind (arith, nat_tests)) at_once unchanged
  by_tests false true b3 e1 e2 e3 le at_once unchanged stores = absurd (grind (arith, nat_tests))
  by_tests false false true e1 e2 e3 le at_once unchanged stores = Overfilled (grind (arith, nat_tests)) (grind (arith, nat_tests)) at_once unchanged
  by_tests false false false e1 e2 e3 le at_once unchanged stores = Stored (grind (arith, nat_tests)) (grind (arith, nat_tests)) (stores refl)

  pub answered : n ≤ R
      → IfSome (answer_at_once R E S n (length message)) (λ answer. result ≡ answer)
      → IfSome (answer_at_once R E S n (length message)) (λ answer. new ≡ old)
      → (answer_at_once R E S n (length message) ≡ None → Stores m message old new result)
      → Answered
  answered le at_once unchanged stores =
      by_tests (nat_lt n R) (nat_lt R n) (nat_lt S (E + 2 + length message)) refl refl refl le at_once unchanged stores

-- ---- by what was answered ----

module _ {D : Type 0} (m : Meaning D) (message : List ℕ) (n R E S : ℕ) (old new : Receiver D) where
  abbrev pub AnsweredWith : Result Taken TakeFault → Type 0
  AnsweredWith result = Answered m message n R E S old new result

  pub never_ahead : (number count : ℕ) → AnsweredWith (Err (Ahead number count)) → ⊥
  never_ahead number count (Repeated less is same) = cc
  never_ahead number count (Overfilled next over is same) = let e : Ahead number count ≡ LogFull E (length message) S = cc in absurd (cc)
  never_ahead number count (Stored next fits s) = let e = s.device in absurd (cc)

  -- a device fails only in a store
  pub in_store : (faults : ℕ) → AnsweredWith (Err (Device faults)) → (n ≡ R) × (E + 2 + length message ≤ S) × Stores m message old new (Err (Device faults))
  in_store faults (Repeated less is same) = absurd (cc)
  in_store faults (Overfilled next over is same) = absurd (cc)
  in_store faults (Stored next fits s) = (next, fits, s)

  pub record IsFull (end size_of_message size : ℕ) : Type 0 where
    pub next : n ≡ R
    pub over : S < E + 2 + length message
    pub end_is : end ≡ E
    pub length_is : size_of_message ≡ length message
    pub size_is : size ≡ S
    pub same : new ≡ old

  abbrev end_in : TakeFault → ℕ
  end_in (LogFull end l size) = end
  end_in _ = 0

  abbrev length_in : TakeFault → ℕ
  length_in (LogFull end l size) = l
  length_in _ = 0

  abbrev size_in : TakeFault → ℕ
  size_in (LogFull end l size) = size
  size_in _ = 0

  pub full : (end size_of_message size : ℕ) → AnsweredWith (Err (LogFull end size_of_message size)) → IsFull end size_of_message size
  full end k size (Repeated less is same) = absurd (cc)
  full end k size (Overfilled next over is same) =
      let e : LogFull end k size ≡ LogFull E (length message) S = cc in
      record { next = next; over = over; end_is = ap end_in e; length_is = ap length_in e; size_is = ap size_in e; same = same }
  full end k size (Stored next fits s) = let e = s.device in absurd (cc)

  pub took : AnsweredWith (Ok Took) → (n ≡ R) × (E + 2 + length message ≤ S) × Stores m message old new (Ok Took)
  took (Repeated less is same) = absurd (cc)
  took (Overfilled next over is same) = absurd (cc)
  took (Stored next fits s) = (next, fits, s)

  pub repeated : AnsweredWith (Ok Repeat) → (n < R) × (new ≡ old)
  repeated (Repeated less is same) = (less, same)
  repeated (Overfilled next over is same) = absurd (cc)
  repeated (Stored next fits s) = let e = s.took in absurd (cc)
