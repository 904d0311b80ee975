-- What ports in memory did and will answer, after one step more.
use Rattle.std.proofs.Common.{◌≡◌, ℕ, ◌+◌, ◌-◌, ◌≤◌, ◌<◌, true, false, nat_lt, List, [], ◌∷◌, ◌++◌, length, take, drop, Option, None, Some, refl, sym, ap, subst, ◌∙◌, append_assoc, arith, length-append}
use Rattle.std.proofs.lemmas.Bool.Decides.{nat_tests}
use Rattle.std.proofs.lemmas.List.{take_at, drop_at, length-take-le}
use Rattle.pump_link.specs.Doors.{MemoryDoor}
use Rattle.pump_link.specs.Ports.{PortsStep, Listened, NoDoor, Connected, NoConnection, BackToPorts, ShutDoor, MemoryPorts, KeptLinks, keep, leave, AnswersFrom, DidPorts, kept_after, last_port}
use Rattle.pump_link.specs.Tells.{Grows}

-- an insert behind the prefix
long : {A : Type 0} (b : ℕ) (xs : List A) (x : A) → b ≤ length xs → length (take b xs ++ x ∷ []) ≡ b + 1
long b xs x le = length-append (take b xs) (x ∷ []) ∙ ap (λ n. n + 1) (length-take-le b xs le)

pub insert_prefix : {A : Type 0} (b : ℕ) (xs : List A) (x : A) → b ≤ length xs → take (b + 1) (take b xs ++ x ∷ drop b xs) ≡ take b xs ++ x ∷ []
insert_prefix b xs x le = ap (take (b + 1)) (sym (append_assoc (take b xs) (x ∷ []) (drop b xs))) ∙ take_at (take b xs ++ x ∷ []) (drop b xs) (b + 1) (long b xs x le)

pub insert_rest : {A : Type 0} (b : ℕ) (xs : List A) (x : A) → b ≤ length xs → drop (b + 1) (take b xs ++ x ∷ drop b xs) ≡ drop b xs
insert_rest b xs x le = ap (drop (b + 1)) (sym (append_assoc (take b xs) (x ∷ []) (drop b xs))) ∙ drop_at (take b xs ++ x ∷ []) (drop b xs) (b + 1) (long b xs x le)

module _ {L : Type 0} where
  kept_snoc : (kept : KeptLinks L) (log : List (PortsStep L (MemoryDoor L))) (x : PortsStep L (MemoryDoor L)) → kept_after kept (log ++ x ∷ []) ≡ kept_after (kept_after kept log) (x ∷ [])
  kept_snoc kept [] x = refl
  kept_snoc kept (BackToPorts link ∷ rest) x = kept_snoc (keep kept (Some link)) rest x
  kept_snoc kept (ShutDoor door ∷ rest) x = kept_snoc (keep kept door.back) rest x
  kept_snoc kept (Listened port door ∷ rest) x = kept_snoc (leave kept door.waiting) rest x
  kept_snoc kept (NoDoor port ∷ rest) x = kept_snoc kept rest x
  kept_snoc kept (Connected port link ∷ rest) x = kept_snoc (leave kept (Some link)) rest x
  kept_snoc kept (NoConnection port ∷ rest) x = kept_snoc kept rest x

  last_snoc : (before : Option ℕ) (log : List (PortsStep L (MemoryDoor L))) (x : PortsStep L (MemoryDoor L)) → last_port before (log ++ x ∷ []) ≡ last_port (last_port before log) (x ∷ [])
  last_snoc before [] x = refl
  last_snoc before (BackToPorts link ∷ rest) x = last_snoc before rest x
  last_snoc before (ShutDoor door ∷ rest) x = last_snoc before rest x
  last_snoc before (Listened port door ∷ rest) x = last_snoc before rest x
  last_snoc before (NoDoor port ∷ rest) x = last_snoc before rest x
  last_snoc before (Connected port link ∷ rest) x = last_snoc (Some port) rest x
  last_snoc before (NoConnection port ∷ rest) x = last_snoc before rest x

  -- one step more
  pub did_more : (old new : MemoryPorts L) (x : PortsStep L (MemoryDoor L)) → new.kept ≡ kept_after old.kept (x ∷ []) → new.connected ≡ last_port old.connected (x ∷ []) → Grows (DidPorts old) (DidPorts new) (x ∷ [])
  did_more old new x kept last = record {
    told = λ log t. record {
      kept = (t.kept.0, kept_snoc (record { links = []; places = t.kept.0 }) log x ∙ ap (λ k. kept_after k (x ∷ [])) t.kept.1 ∙ sym kept);
      last = last_snoc None log x ∙ ap (λ p. last_port p (x ∷ [])) t.last ∙ sym last;
    };
  }

  carried : (coming coming' : List L) (calls calls' : ℕ) (fails fails' : List ℕ) (rest : List (PortsStep L (MemoryDoor L))) → coming ≡ coming' → calls ≡ calls' → fails ≡ fails' → AnswersFrom coming calls fails rest → AnswersFrom coming' calls' fails' rest
  carried coming coming' calls calls' fails fails' rest p q r t =
      subst (λ xs. AnswersFrom xs calls' fails' rest) p (subst (λ n. AnswersFrom coming n fails' rest) q (subst (λ xs. AnswersFrom coming calls xs rest) r t))

  pub leave_none : (kept : KeptLinks L) → leave kept None ≡ kept
  leave_none kept = let same : kept.places + 0 ≡ kept.places = omega arith in λ i. record { links = kept.links; places = same i }

  -- a place that there is, and none
  pub kept_one : (kept : KeptLinks L) (link : L) → 0 < kept.places → keep kept (Some link) ≡ record { links = kept.links ++ link ∷ []; places = kept.places - 1 }
  kept_one kept link some = let e : nat_lt 0 kept.places ≡ true = grind (arith, nat_tests) in rw e refl

  pub kept_none : (kept : KeptLinks L) (link : L) → kept.places ≡ 0 → keep kept (Some link) ≡ kept
  kept_none kept link none = let e : nat_lt 0 kept.places ≡ false = grind (arith, nat_tests) in rw e refl

  pub same_fields : (a b : MemoryPorts L) → a.coming ≡ b.coming → a.kept ≡ b.kept → a.connected ≡ b.connected → a.calls ≡ b.calls → a.fails ≡ b.fails → a.faults ≡ b.faults → a ≡ b
  same_fields a b coming kept connected calls fails faults = λ i. record { coming = coming i; kept = kept i; connected = connected i; calls = calls i; fails = fails i; faults = faults i }
