-- The messages of a world outlive a crash on its disks.
use Rattle.std.proofs.Common.{◌≡◌, ◌⊎◌, inl, inr, ⊎_elim, ℕ, ◌+◌, ◌-◌, ◌<◌, ◌≤◌, Bool, true, false, List, [], ◌∷◌, ◌++◌, length, drop, Option, Some, None, refl, ap, ◌∙◌, subst, arith, zero, suc, nat_lt, length-drop}
use Rattle.std.specs.Prelude.{slice_get, slice_index_or}
use Rattle.std.specs.List.{AllByRecursion}
use Rattle.std.proofs.lemmas.Bool.Decides.{nat_tests}
use Rattle.std.proofs.lemmas.Option.{slice_get_within, get_or_from_slice_get}
use Rattle.pump_frame.specs.declared.payload.Payload.{Payload}
use Rattle.pump_frame.specs.declared.row.SessionRow.{SessionRow}
use Rattle.stable_buffer.specs.Register.{value_of}
use Rattle.stable_buffer.specs.Stands.{InSlot}
use Rattle.pump_core.specs.declared.event.Event.TheVariants.{Crash}
use Rattle.pump_core.specs.History.{History}
use Rattle.pump_core.specs.Replies.{Sent, LowReplies}
use Rattle.pump_core.specs.World.{World}
use Rattle.pump_core.specs.Events.{with_kept, receiver_crashed}
use Rattle.pump_core.specs.Lawful.{IsLawful, IsPrefixOf}
use Rattle.pump_core.specs.Timed.{Step, Point}
use Rattle.pump_core.specs.Runs.{IsRun}
use Rattle.pump_core.proofs.Laws.{stays_lawful}
use Rattle.pump_core.proofs.Lists.{slice_get-append}
use Rattle.world_laws.specs.Disks.{crashed, StandFor, StandForLeft}
use Rattle.world_laws.specs.Laws.{Outlives, KeepMessages, AcksBelow, AckOutlives}
use Rattle.world_laws.proofs.Runs.Acknowledged.{run_acks}
use Rattle.world_laws.proofs.Packets.{get_drop}
use Rattle.world_laws.proofs.Runs.Worlds.{leads_lawfully}

-- what was accepted before a crash is so after it
kept_accepted : (kept : Bool) (o : Option Payload) (ps : List Payload) (n : ℕ) (x : Payload) → slice_get ps n ≡ Some x → slice_get (with_kept kept o ps) n ≡ Some x
kept_accepted true (Some p) ps n x e = slice_get-append ps (p ∷ []) n x e
kept_accepted true None ps n x e = e
kept_accepted false o ps n x e = e

-- one or the other
below_or_not : (n k : ℕ) → (n < k) ⊎ (k ≤ n)
below_or_not n k = elim (nat_lt n k) as (λ b. nat_lt n k ≡ b → (n < k) ⊎ (k ≤ n)) [
  | true ↦ λ e. inl (grind (arith, nat_tests))
  | false ↦ λ e. inr (grind (arith, nat_tests))
] refl

-- what stands in a list stands in a prefix of it that is long enough
in_prefix : (xs rest ys : List Payload) (n : ℕ) (x : Payload) → xs ++ rest ≡ ys → n < length xs → slice_get ys n ≡ Some x → slice_get xs n ≡ Some x
in_prefix [] rest ys n x e less at = absurd (omega (arith, less))
in_prefix (z ∷ xs) rest [] n x e less at = absurd (cc)
in_prefix (z ∷ xs) rest (y ∷ ys) zero x e less at = ap (λ (l : List Payload). slice_get l 0) e ∙ at
in_prefix (z ∷ xs) rest (y ∷ ys) (suc n) x e less at = in_prefix xs rest ys n x (ap (drop 1) e) (omega (arith, less)) at

module _ (row : SessionRow) (w : World) (low high recv : List ℕ) (stand : StandFor row w low high recv) where
  count_is : (value_of low).0 ≡ length w.accepted
  count_is = ap (λ (v : ℕ × ℕ). v.0) stand.low_is.value

  removed_is : (value_of high).0 ≡ w.removed
  removed_is = ap (λ (v : ℕ × ℕ). v.0) stand.high_is.value

  -- a message that is not removed stands in its slot
  in_slot : (n : ℕ) (x : Payload) → slice_get w.accepted n ≡ Some x → w.removed ≤ n → InSlot row n x low
  in_slot n x at le =
      let less = slice_get_within w.accepted n x at in
      let back : w.removed + (n - w.removed) ≡ n = omega (arith, le) in
      let there : slice_get (drop w.removed w.accepted) (n - w.removed) ≡ Some x = get_drop w.removed w.accepted (n - w.removed) ∙ ap (slice_get w.accepted) back ∙ at in
      let message : slice_index_or (drop w.removed w.accepted) (n - w.removed) [] ≡ x = get_or_from_slice_get (drop w.removed w.accepted) (n - w.removed) x [] there in
      subst (λ (t : ℕ × Payload). InSlot row t.0 t.1 low) (λ i. (back i, message i)) (stand.low_is.slots (n - w.removed) (omega (arith, less, le, length-drop w.removed w.accepted)))

  outlives : (n : ℕ) (x : Payload) → slice_get w.accepted n ≡ Some x → Outlives row w.received low high n x
  outlives n x at = ⊎_elim
      (λ below. (let more = stand.lawful.delivered.removed in let prefix = stand.lawful.delivered.prefix in inl (in_prefix w.received prefix.0 w.accepted n x prefix.1 (omega (arith, below, more)) at)))
      (λ le. (let less = slice_get_within w.accepted n x at in inr (omega (arith, removed_is, le), omega (arith, count_is, less), in_slot n x at le)))
      (below_or_not n w.removed)

-- a crash of the receiver alone keeps a prefix of what was accepted
received_prefix : (w : World) (taken : Bool) → IsLawful w → IsPrefixOf (receiver_crashed w (Some taken)).received w.accepted
received_prefix w taken lawful = (stays_lawful w (Crash None (Some taken)) (receiver_crashed w (Some taken)) lawful refl).delivered.prefix

pub keeps_messages : (row : SessionRow) (w : World) (low high recv : List ℕ) → IsLawful w → StandForLeft row w low high recv → KeepMessages row w low high recv
keeps_messages row w low high recv lawful (stored, removed, taken, stand) = record {
  received = (crashed w stored removed taken).received;
  recv_is = stand.recv_is;
  prefix = received_prefix w taken lawful;
  accepted = λ n x at. outlives row (crashed w stored removed taken) low high recv stand n x (kept_accepted stored w.storing w.accepted n x at);
  acknowledged = lawful.bounded.acknowledged;
}

-- ---- acknowledgements ----

some_there : (xs : List Payload) (n : ℕ) → n < length xs → (x : Payload) × (slice_get xs n ≡ Some x)
some_there [] n less = absurd (omega (arith, less))
some_there (x ∷ xs) zero less = (x, refl)
some_there (x ∷ xs) (suc n) less = some_there xs n (omega (arith, less))

acks_outlive : (row : SessionRow) (w : World) (low high recv : List ℕ) (kept : KeepMessages row w low high recv) (replies : List Sent) → AcksBelow (length w.accepted) replies
    → AllByRecursion (λ (s : Sent). AckOutlives row w.accepted kept.received low high s.reply) replies
acks_outlive row w low high recv kept [] below = tt
acks_outlive row w low high recv kept (s ∷ replies) below = (
  λ ack. (let found = some_there w.accepted s.reply.number (below.0 ack) in (found.0, found.1, kept.accepted s.reply.number found.0 found.1)),
  acks_outlive row w low high recv kept replies below.1,
)

pub run_keeps : (row : SessionRow) (steps : List Step) (t : Point) (h : History) (replies : List Sent) (low high recv : List ℕ)
    → IsRun row steps t h → LowReplies row h replies → StandForLeft row t.world low high recv
    → (kept : KeepMessages row t.world low high recv) × AllByRecursion (λ (s : Sent). AckOutlives row t.world.accepted kept.received low high s.reply) replies
run_keeps row steps t h replies low high recv run is left =
    let kept = keeps_messages row t.world low high recv (leads_lawfully row steps t run.leads) left in
    (kept, acks_outlive row t.world low high recv kept replies (run_acks row steps t h replies run is))
