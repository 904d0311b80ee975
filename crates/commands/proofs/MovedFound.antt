-- What is found on old disks is what the new ones stand for.
use Rattle.std.proofs.Common.{◌≡◌, ℕ, ◌+◌, ◌-◌, ◌^◌, ◌≤◌, ◌<◌, Bool, true, false, List, [], length, get_or, Option, None, Some, refl, sym, ap, ◌∙◌, subst, arith}
use Rattle.std.specs.Prelude.{◌&&◌, nat_le, if◌then◌else◌}
use Rattle.std.proofs.lemmas.Bool.{and_parts, leb-true}
use Rattle.disk_model.specs.declared.name.Role.{Role}
use Rattle.disk_model.specs.declared.name.Role.TheVariants as roles
use Rattle.pump_frame.specs.Rows.{IsLawfulRow}
use Rattle.pump_frame.specs.declared.row.SessionRow.{SessionRow}
use Rattle.recovery.specs.Agreement.{SlotsAgree}
use Rattle.recovery.specs.Moves.{StandFor, AreFound}
use Rattle.recovery.specs.Refusals.{or_else, told_of, refused_count, refused_disk, refused_log, refused_shape}
use Rattle.recovery.specs.declared.why.Why.{Why}
use Rattle.recovery.proofs.Rows.{row_message}
use Rattle.recovery.proofs.Slots.{slot_one}
use Rattle.script_reader.specs.Openings.{Found, accepted_in}
use Rattle.stable_buffer.specs.Format.{receiver_size}
use Rattle.stable_buffer.specs.Log.{log_of, is_log}
use Rattle.stable_buffer.specs.Register.{value_of}
use Rattle.stable_buffer.specs.Stands.{InSlot}
use Rattle.two_worlds.specs.Openings.{StandForFound}
use Rattle.two_worlds.proofs.Opening.Founds as founds
use Rattle.two_worlds.proofs.Opening.Opened.{received_end}

-- ---- what is not refused ----

first_none : {A : Type 0} (one other : Option A) → or_else one other ≡ None → one ≡ None
first_none None other e = refl
first_none (Some x) other e = cc

second_none : {A : Type 0} (one other : Option A) → or_else one other ≡ None → other ≡ None
second_none None other e = e
second_none (Some x) other e = cc

told_none : (role : Role) (why : Option Why) → told_of role why ≡ None → why ≡ None
told_none role None e = refl
told_none role (Some why) e = cc

holds : (test : Bool) (why : Why) → (if test then None else Some why) ≡ None → test ≡ true
holds true why e = refl
holds false why e = cc

count_of : (value : ℕ × ℕ) → refused_count value ≡ None → value.0 ≤ 2 ^ 48
count_of value e = leb-true _ _ (and_parts _ _ (holds _ _ e)).0

end_of : (row : SessionRow) (size : ℕ) (disk : List ℕ) (value : ℕ × ℕ) → refused_log row size disk value ≡ None → value.1 ≤ size
end_of row size disk value e =
    let log = is_log row.message value.0 (log_of value.1 disk) in
    let fits = nat_le value.1 size && log in
    let within = nat_le value.1 (length disk) && fits in
    let all = and_parts (nat_le value.0 (2 ^ 48)) (nat_le 80 value.1 && within) (holds _ _ e) in
    let rest = and_parts (nat_le value.1 (length disk)) fits (and_parts (nat_le 80 value.1) within all.1).1 in
    leb-true value.1 size (and_parts (nat_le value.1 size) log rest.1).0

module _ (row new_row : SessionRow) (lawful : IsLawfulRow row) (new_lawful : IsLawfulRow new_row) (E B : ℕ) (live received : List (List ℕ))
    (low high recv new_low new_high new_recv : List ℕ) (a : AreFound row receiver_size E B live received low high recv)
    (s : StandFor new_row E B live received new_low new_high new_recv) where
  pub small : E ≤ 2 ^ 48
  small =
      let none = second_none (refused_shape row roles.Low low) (refused_count (value_of low)) (told_none roles.Low (refused_disk row roles.Low low) (first_none _ _ a.pump)) in
      subst (λ (v : ℕ × ℕ). v.0 ≤ 2 ^ 48) a.stand.low_stands.value (count_of (value_of low) none)

  pub room : (value_of recv).1 ≤ receiver_size
  room = end_of row receiver_size recv (value_of recv) (second_none (refused_shape row roles.Recv recv) (refused_log row receiver_size recv (value_of recv)) a.receiver)

  -- the records end where they did
  new_room : (value_of new_recv).1 ≤ receiver_size
  new_room = subst (λ n. n ≤ receiver_size) (received_end row received recv a.stand.recv_stands ∙ sym (received_end new_row received new_recv s.recv_stands)) room

  -- a message that low and the receiver both have is one
  one_message : (n : ℕ) → B ≤ n → n < length received → get_or live (n - B) [] ≡ get_or received n []
  one_message n from before =
      let fits = a.stand.low_stands.count in
      let order = a.order.1 in
      let at : B + (n - B) ≡ n = omega (arith, from) in
      slot_one row (row_message row lawful) n (get_or live (n - B) []) (get_or received n []) low
      (subst (λ k. InSlot row k (get_or live (n - B) []) low) at (a.stand.low_stands.slots (n - B) (omega (arith, from, before, fits, order)))) (a.agree n from before)

  new_agree : SlotsAgree new_row B (length received) received new_low
  new_agree n from before =
      let fits = a.stand.low_stands.count in
      let order = a.order.1 in
      let at : B + (n - B) ≡ n = omega (arith, from) in
      subst (λ (m : List ℕ). InSlot new_row n m new_low) (one_message n from before)
      (subst (λ k. InSlot new_row k (get_or live (n - B) []) new_low) at (s.low_stands.slots (n - B) (omega (arith, from, before, fits, order))))

  abbrev pub found : Found
  found = founds.found row lawful E B live received low high recv a.stand.low_stands a.stand.high_stands a.stand.recv_stands small room a.order.0 a.order.1 a.agree

  pub stands : StandForFound row found low high recv
  stands = founds.stand_for_found row lawful E B live received low high recv a.stand.low_stands a.stand.high_stands a.stand.recv_stands small room a.order.0 a.order.1 a.agree

  pub new_stands : StandForFound new_row found new_low new_high new_recv
  new_stands = founds.stand_for_found new_row new_lawful E B live received new_low new_high new_recv s.low_stands s.high_stands s.recv_stands small new_room a.order.0 a.order.1 new_agree

  pub accepted : E ≡ length (accepted_in found)
  accepted = ap (λ (v : ℕ × ℕ). v.0) (sym a.stand.low_stands.value ∙ stands.low_is.value)
