-- One more entry of what happened to an outbox in memory.
use Rattle.std.proofs.Common.{◌≡◌, inl, inr, ⊎_elim, ℕ, Bool, true, false, List, ◌∷◌, length, refl, sym, ap, subst, arith}
use Rattle.folders.specs.Outboxes.{Standing, Moves, Makes, Same, Is, MayBe, opened}
use Rattle.folders.specs.OutboxLog.{IsImage, WasImage, standing, changed}
use Rattle.folders.specs.OutboxLogLaws.{standing_image, kept_image}
use Rattle.folders.specs.MemOutboxes.{MemoryOutbox, mem_dropping, Changes, with_fault, with_entry}
use Rattle.folders.specs.declared.outbox_log.Change.{Change}
use Rattle.folders.specs.declared.outbox_log.Entry.{Entry}
use Rattle.folders.specs.declared.outbox_log.Entry.TheVariants.{Done, Missed, Opened, Crashed}
use Rattle.std.specs.Prelude.{Vec, Result, Ok, Err, IsErr, OnErr, ◌⊎◌}
use Rattle.pump_frame.specs.Counts.{raised}
use Rattle.pump_link.specs.Causes.{HasCause}
use Rattle.folders.specs.declared.outbox.OutboxFault.{OutboxFault}
use Rattle.std.specs.declared.alloc.Global.{Global}

crashed_image : (kept : Bool) (log : List Entry) → IsImage log (standing (Crashed kept ∷ log))
crashed_image true log = kept_image log
crashed_image false log = standing_image log

-- what a crash leaves is an image
pub image_crashed : (kept : Bool) (old log : List Entry) → log ≡ Crashed kept ∷ old → IsImage old (standing log)
image_crashed kept old log is = subst (λ (l : List Entry). IsImage old (standing l)) (sym is) (crashed_image kept old)

-- so is what stands
pub image_same : (old log : List Entry) → log ≡ old → IsImage old (standing log)
image_same old log is = subst (λ (l : List Entry). IsImage old (standing l)) (sym is) (standing_image old)

-- nothing more happened
pub moves_kept : (old new : MemoryOutbox) (step : Standing → Standing → Type 0) → ((s : Standing) → step s s) → new.log ≡ old.log → Moves mem_dropping step old new
moves_kept old new step stays is = record {
  stands = λ told. subst (λ (l : List Entry). step (standing old.log) (standing l)) (sym is) (stays (standing old.log));
  later = omega (arith, ap length is);
  now = λ told s image. (s, subst (λ (l : List Entry). IsImage l s) is image, stays s);
  each = λ told t s le was. inl (subst (λ (l : List Entry). WasImage l t s) is was);
  keeps = λ told t s le was. subst (λ (l : List Entry). WasImage l t s) (sym is) was;
}

pub same_kept : (old new : MemoryOutbox) → new.log ≡ old.log → Moves mem_dropping Same old new
same_kept old new is = moves_kept old new Same (λ s. refl) is

module _ (old new : MemoryOutbox) (e : Entry) (pushed : new.log ≡ e ∷ old.log) where
  moves_pushed : (step : Standing → Standing → Type 0) → step (standing old.log) (standing (e ∷ old.log))
      → ((s : Standing) → IsImage (e ∷ old.log) s → (d : Standing) × IsImage old.log d × step d s) → Moves mem_dropping step old new
  moves_pushed step stands from = record {
    stands = λ told. subst (λ (l : List Entry). step (standing old.log) (standing l)) (sym pushed) stands;
    later = omega (arith, ap length pushed);
    now = λ told s is. from s (subst (λ (l : List Entry). IsImage l s) pushed is);
    each = λ told t s le was. ⊎_elim (λ is. inr (from s is)) (λ earlier. inl earlier.1) (before t s was);
    keeps = λ told t s le was. subst (λ (l : List Entry). WasImage l t s) (sym pushed) (inr (le, was));
  }
    where
      before : (t : ℕ) (s : Standing) → WasImage new.log t s → WasImage (e ∷ old.log) t s
      before t s was = subst (λ (l : List Entry). WasImage l t s) pushed was

-- a change is made
pub moves_done : (old new : MemoryOutbox) (change : Change) → new.log ≡ Done change ∷ old.log → Moves mem_dropping (MayBe (changed change)) old new
moves_done old new change pushed =
    moves_pushed old new (Done change) pushed (MayBe (changed change)) (inr refl) (λ s is. (standing old.log, standing_image old.log, inr is))

pub makes_done : (old new : MemoryOutbox) (change : Change) → new.log ≡ Done change ∷ old.log → Makes mem_dropping (changed change) old new
makes_done old new change pushed = record {
  stands = λ told. ap standing pushed;
  settled = λ told s is. subst (λ (l : List Entry). IsImage l s → s ≡ standing l) (sym pushed) (λ image. image) is;
}

-- it may be made
pub moves_missed : (old new : MemoryOutbox) (change : Change) → new.log ≡ Missed change ∷ old.log → Moves mem_dropping (MayBe (changed change)) old new
moves_missed old new change pushed = moves_pushed old new (Missed change) pushed (MayBe (changed change)) (inl refl) (λ s is. is)

pub moves_not : (old new : MemoryOutbox) (change : Change) → new.log ≡ old.log → Moves mem_dropping (MayBe (changed change)) old new
moves_not old new change is = moves_kept old new (MayBe (changed change)) (λ s. inl refl) is

-- the marked file was opened
pub moves_opened : (old new : MemoryOutbox) (bytes : Vec ℕ Global) → new.log ≡ Opened bytes ∷ old.log → Moves mem_dropping (Is (opened bytes.items)) old new
moves_opened old new bytes pushed = moves_pushed old new (Opened bytes) pushed (Is (opened bytes.items)) refl (λ s is. is)

-- ---- how the call of a change ends ----

pub moves_by : (change : Change) (old new : MemoryOutbox) (result : Result (Unit {0}) OutboxFault) → Changes change old new result → Moves mem_dropping (MayBe (changed change)) old new
moves_by change old new (Ok x) is = moves_done old new change (ap (λ (o : MemoryOutbox). o.log) is.1)
moves_by change old new (Err e) (later, inl is) = moves_missed old new change (ap (λ (o : MemoryOutbox). o.log) is)
moves_by change old new (Err e) (later, inr is) = moves_not old new change (ap (λ (o : MemoryOutbox). o.log) is)

pub makes_by : (change : Change) (old new : MemoryOutbox) (result : Result (Unit {0}) OutboxFault) → Changes change old new result → result ≡ Ok tt → Makes mem_dropping (changed change) old new
makes_by change old new (Ok x) is ok = makes_done old new change (ap (λ (o : MemoryOutbox). o.log) is.1)
makes_by change old new (Err e) is ok = cc

OnErr-all : {T E P : Type 0} (answer : Result T E) → P → OnErr answer P
OnErr-all (Ok x) p = tt
OnErr-all (Err e) p = p

pub cause_by : {T : Type 0} (change : Change) (old new : MemoryOutbox) (result : Result (Unit {0}) OutboxFault) (answer : Result T OutboxFault) → Changes change old new result
    → (IsErr answer → IsErr result) → HasCause old.faults new.faults answer
cause_by change old new (Ok x) (Ok y) is same = let e : new.faults ≡ old.faults = ap (λ (o : MemoryOutbox). o.faults) is.1 in record { later = omega (arith, e); failed = tt }
cause_by change old new (Ok x) (Err y) is same = cc (same refl)
cause_by change old new (Err e) answer is same = let e : new.faults ≡ raised old.faults = raise is.1 in record { later = is.0; failed = OnErr-all answer (omega (arith, e)) }
  where
    raise : (new ≡ with_fault (with_entry (Missed change) old)) ⊎ (new ≡ with_fault old) → new.faults ≡ raised old.faults
    raise (inl is) = ap (λ (o : MemoryOutbox). o.faults) is
    raise (inr is) = ap (λ (o : MemoryOutbox). o.faults) is
