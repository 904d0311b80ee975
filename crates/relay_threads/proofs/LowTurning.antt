-- One round of the low worker, by what its functions say.
use Rattle.std.proofs.Common.{◌≡◌, ℕ, ◌≤◌, Bool, true, false, List, Option, Some, None, refl, sym, ap, ◌∙◌, subst, le_refl}
use Rattle.std.specs.Prelude.{IfSome, is_some, if◌then◌else◌, not, ◌||◌}
use Rattle.disk_model.specs.Disk.{Meaning}
use Rattle.pump_frame.specs.Counts.{Rose}
use Rattle.pump_frame.specs.Rows.{IsLawfulRow}
use Rattle.stable_buffer.specs.declared.low.LowStore.{LowStore}
use Rattle.stable_buffer.specs.Low.{low_disk}
use Rattle.low_process.specs.Storing.{StoreStep}
use Rattle.pump_core.specs.History.{Arrival}
use Rattle.low_process.specs.declared.process.LowProcess.{LowProcess}
use Rattle.low_process.specs.declared.values.LowLook.{LowLook}
use Rattle.low_process.specs.Looks.{row_of, last_of, is_idle, StandsFor, Looks, look_of}
use Rattle.relay_threads.specs.Heards.{Heard}
use Rattle.relay_threads.specs.Heards as hears
use Rattle.relay_threads.specs.declared.low_served.LowWhy.{LowWhy}
use Rattle.relay_threads.specs.declared.low_served.LowWhy.TheVariants.{LinkFailed, Device, RecordFailed}
use Rattle.relay_threads.specs.Hearings.{Ending, AtFrame, AtBad, AtNotYet, AtEnded, AtFailed, AtMost, Hearing, IsHearing, heard_as}
use Rattle.relay_threads.specs.Records.{Made}
use Rattle.relay_threads.specs.Replays.{ReadsBack}
use Rattle.relay_threads.specs.LowRounds.{Round, offered, offered_at, MakesLook, cause_at, cause_heard}
use Rattle.relay_threads.specs.LowServes.{Turns, heard_option, is_failed, arrival_heard, why_heard, why_by, CountsFaultIn}
use Rattle.relay_threads.proofs.LowLives.{wants_is, look_made, lives_on}

-- ---- the disk's count ----

pub counts_by : {D : Type 0} (M : Meaning D) (message : Option (List ℕ)) (old new : LowStore D) (d : Bool) → StoreStep M message old new d → M.count (low_disk old) ≤ M.count (low_disk new)
counts_by M None old new d e = subst (λ (s : LowStore _). M.count (low_disk old) ≤ M.count (low_disk s)) (sym e.1) (le_refl _)
counts_by M (Some x) old new d e = e.answers.counts

pub rose_by : {D : Type 0} (M : Meaning D) (message : Option (List ℕ)) (old new : LowStore D) (d : Bool) → d ≡ true → StoreStep M message old new d → Rose (M.count (low_disk old)) (M.count (low_disk new))
rose_by M None old new d is e = absurd (let x = e.0 in cc)
rose_by M (Some x) old new true is e = e.answers.rose refl
rose_by M (Some x) old new false is e = cc

heard_fault : (h : Heard) (before now : ℕ) → CountsFaultIn (why_heard h) before now
heard_fault hears.Nothing before now = tt
heard_fault (hears.Frame f) before now = tt
heard_fault hears.Bad before now = tt
heard_fault hears.Ended before now = tt
heard_fault hears.Failed before now = tt

-- a fault that a round ends with is the disk's
pub fault_by : (is_kept is_down is_sent : Bool) (n before now : ℕ) (heard : Heard) (why : Option LowWhy) → why ≡ why_by is_kept is_down n is_sent heard → n ≡ now → (is_down ≡ true → Rose before now) → CountsFaultIn why before now
fault_by false down sent n before now heard why e is rose = subst (λ x. CountsFaultIn x before now) (sym e) tt
fault_by true true sent n before now heard why e is rose = subst (λ x. CountsFaultIn x before now) (sym e) (is, rose refl)
fault_by true false false n before now heard why e is rose = subst (λ x. CountsFaultIn x before now) (sym e) tt
fault_by true false true n before now heard why e is rose = subst (λ x. CountsFaultIn x before now) (sym e) (heard_fault heard before now)

-- a process that was up is down just where the disk failed in its look
pub down_is : (down was is_fault : Bool) → was ≡ false → down ≡ (was || is_fault) → down ≡ is_fault
down_is down was is_fault up falls = falls ∙ ap (λ b. b || is_fault) up

-- ---- what was heard ----

causes_at : (e : Ending) → why_heard (heard_as e) ≡ cause_at e
causes_at (AtFrame f) = refl
causes_at AtBad = refl
causes_at AtNotYet = refl
causes_at AtEnded = refl
causes_at AtFailed = refl
causes_at AtMost = refl

pub causes : (h : Option Hearing) → why_heard (heard_option h) ≡ cause_heard h
causes None = refl
causes (Some h) = causes_at h.ending

offers_at : (e : Ending) → is_failed (heard_as e) ≡ false → offered_at e ≡ Some (arrival_heard (heard_as e))
offers_at (AtFrame f) fine = refl
offers_at AtBad fine = refl
offers_at AtNotYet fine = refl
offers_at AtEnded fine = refl
offers_at AtFailed fine = absurd (cc)
offers_at AtMost fine = refl

offers : (h : Option Hearing) → is_failed (heard_option h) ≡ false → offered h ≡ Some (arrival_heard (heard_option h))
offers None fine = refl
offers (Some h) fine = offers_at h.ending fine

none_at : (e : Ending) → is_failed (heard_as e) ≡ true → offered_at e ≡ None
none_at (AtFrame f) failed = absurd (cc)
none_at AtBad failed = absurd (cc)
none_at AtNotYet failed = absurd (cc)
none_at AtEnded failed = absurd (cc)
none_at AtFailed failed = refl
none_at AtMost failed = absurd (cc)

offers_none : (h : Option Hearing) → is_failed (heard_option h) ≡ true → offered h ≡ None
offers_none None failed = absurd (cc)
offers_none (Some h) failed = none_at h.ending failed

failure_of : (heard : Heard) → is_failed heard ≡ true → why_heard heard ≡ Some LinkFailed
failure_of hears.Nothing failed = absurd (cc)
failure_of (hears.Frame f) failed = absurd (cc)
failure_of hears.Bad failed = absurd (cc)
failure_of hears.Ended failed = absurd (cc)
failure_of hears.Failed failed = refl

pub failed_cause : (h : Option Hearing) (heard : Heard) → heard ≡ heard_option h → is_failed heard ≡ true → Some LinkFailed ≡ cause_heard h
failed_cause h heard same failed = sym (sym (causes h) ∙ ap why_heard (sym same) ∙ failure_of heard failed)

pub made_cause : (h : Option Hearing) (heard : Heard) (is_kept is_down is_fault is_sent : Bool) (n : ℕ) → heard ≡ heard_option h → is_down ≡ is_fault
    → why_by is_kept is_down n is_sent heard ≡ (if not is_kept then Some RecordFailed else if is_fault then Some (Device n) else if not is_sent then Some LinkFailed else cause_heard h)
made_cause h heard is_kept is_down is_fault is_sent n same down =
    ap (λ w. if not is_kept then Some RecordFailed else if is_down then Some (Device n) else if not is_sent then Some LinkFailed else w) (ap why_heard same ∙ causes h)
    ∙ ap (λ d. if not is_kept then Some RecordFailed else if d then Some (Device n) else if not is_sent then Some LinkFailed else cause_heard h) down

-- a failed link is the cause that comes after these
pub link_by : (is_kept is_down is_sent : Bool) (n : ℕ) (heard : Heard) → is_failed heard ≡ false → why_by is_kept is_down n is_sent heard ≡ Some LinkFailed → is_sent ≡ false
link_by false down sent n heard fine e = absurd (cc)
link_by true true sent n heard fine e = absurd (cc)
link_by true false false n heard fine e = refl
link_by true false true n hears.Nothing fine e = absurd (cc)
link_by true false true n (hears.Frame f) fine e = absurd (cc)
link_by true false true n hears.Bad fine e = absurd (cc)
link_by true false true n hears.Ended fine e = absurd (cc)
link_by true false true n hears.Failed fine e = absurd (cc)

module _ (p : LowProcess) (held : List ℕ) (h : Option Hearing) (heard : Heard) (m w : ℕ) (same : heard ≡ heard_option h)
    (wanted : is_some h ≡ is_idle p) (reads : IfSome h (IsHearing held)) where
  abbrev pub round_failed : ℕ → Round
  round_failed n = record { moment = m; word = w; heard = h; made = None; is_sent = true; is_kept = true; faults = n }

  -- a round that the rule ends without a look
  pub failed_turn : (n : ℕ) → is_failed heard ≡ true → Turns p p held (round_failed n)
  failed_turn n failed = record {
    row = refl;
    rule = λ o before lives. record {
      wants = λ parts cut. wants_is p o before parts lives cut ∙ sym wanted;
      reads = reads;
      makes = subst (MakesLook (round_failed n)) (sym (offers_none h (ap is_failed (sym same) ∙ failed))) refl;
      readable = λ lawful. tt;
    };
    lives = λ o before lives. lives;
  }

  module _ (q : LowProcess) (d : Bool) (l : LowLook) (a : Arrival) (is_sent is_kept : Bool) (n : ℕ) where
    abbrev pub round : Round
    round = record { moment = m; word = w; heard = h; made = Some (look_made p q m w a d l); is_sent = is_sent; is_kept = is_kept; faults = n }

    pub made_turn : row_of q ≡ row_of p → last_of p ≤ m → is_failed heard ≡ false → a ≡ arrival_heard heard → Looks (StandsFor p) q (row_of p) (look_of m w a d l.feedback) l
        → (IsLawfulRow (row_of p) → (before : List Made) → ReadsBack (row_of p) before (look_made p q m w a d l)) → Turns p q held round
    made_turn row order fine arrival looks back = record {
      row = row;
      rule = λ o before lives. record {
        wants = λ parts cut. wants_is p o before parts lives cut ∙ sym wanted;
        reads = reads;
        makes = subst (MakesLook round) (sym (offers h (ap is_failed (sym same) ∙ fine)))
            (look_made p q m w a d l, refl, refl, refl, arrival ∙ ap arrival_heard same);
        readable = λ lawful. back lawful before;
      };
      lives = lives_on p q m w a d l row order looks;
    }
