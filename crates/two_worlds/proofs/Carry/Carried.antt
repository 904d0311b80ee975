-- A DATA that comes to the receiver of parts, in the world.
use Rattle.std.proofs.Common.{◌≡◌, inl, inr, ℕ, ◌+◌, ◌-◌, ◌≤◌, ◌<◌, Bool, true, false, cond, List, [], ◌∷◌, ◌++◌, length, drop, None, Some, refl, sym, ap, ◌∙◌, subst, arith, nat_lt}
use Rattle.std.specs.Prelude.{slice_get, ◌&&◌, ◌==◌}
use Rattle.std.proofs.lemmas.Bool.Decides.{nat_tests}
use Rattle.std.proofs.lemmas.List.{drop-append-le}
use Rattle.circular_buffer.specs.Buffer.{keep_last}
use Rattle.disk_model.specs.Disk.{Meaning}
use Rattle.pump_frame.specs.declared.frame.Item.{Item}
use Rattle.pump_frame.specs.declared.payload.Payload.{Payload}
use Rattle.pump_core.specs.declared.event.Event.TheVariants.{CarryData, TakeBegin, TakeEnd}
use Rattle.pump_core.specs.World.{World}
use Rattle.pump_core.specs.Lawful.{IsLawful, IsMessage}
use Rattle.pump_core.specs.Events.{Happens, Run, carried, took}
use Rattle.pump_core.proofs.Lists.{All-at, length-push}
use Rattle.pump_core.proofs.Laws.{runs_lawfully}
use Rattle.high_receiver.specs.Receiving.{recv_count, recv_end}
use Rattle.script_reader.specs.Past.{Past}
use Rattle.pump_core.specs.HighLooks.{Perhaps}
use Rattle.script_reader.specs.Highs.{place, overfills, receiver_size, log_end}
use Rattle.two_worlds.specs.declared.pump.parts.Parts.{Parts}
use Rattle.two_worlds.specs.Standing.{kept_of, HoldsWorld, Stands}
use Rattle.world_laws.specs.Timelines.{IsAtRest}
use Rattle.world_laws.proofs.Packets.{at_back, in_whole, keep_last_push}

-- where the records end after one more message
pub log_end_push : (messages : List Payload) (p : Payload) → log_end (messages ++ p ∷ []) ≡ log_end messages + 2 + length p
log_end_push [] p = omega arith
log_end_push (x ∷ messages) p = let e = log_end_push messages p in omega (arith, e)

module _ {D : Type 0} (m : Meaning D) (c : Parts D) (p : Past) (back : ℕ) (packet : Item) (stands : Stands m c p) (less : back < length c.sent.items)
    (at : cond (nat_lt back (length c.sent.items)) (slice_get c.sent.items (length c.sent.items - back - 1)) None ≡ Some packet) where
  abbrev pub world : World
  world = p.world

  pub at_world : slice_get p.world.sent (place p.world.sent back) ≡ Some packet
  at_world = in_whole p.world.sent back packet (subst (λ (l : List Item). back < length l) stands.world.sent less)
      (subst (λ (l : List Item). slice_get l (length l - 1 - back) ≡ Some packet) stands.world.sent (at_back c.sent.items back packet less at))

  message : IsMessage p.world.removed p.world.accepted packet
  message = All-at (IsMessage p.world.removed p.world.accepted) p.world.sent (place p.world.sent back) packet stands.sound.lawful.bounded.sent at_world

  below : packet.number ≤ length p.world.received
  below = let n = message.number in let r = stands.sound.lawful.delivered.removed in omega (arith, n, r)

  pub not_ahead : packet.number ≤ recv_count c.receiver
  not_ahead = omega (arith, below, stands.world.received)

  pub no_overfill_again : packet.number < recv_count c.receiver → overfills p.world packet ≡ false
  no_overfill_again lt =
      let no : (packet.number == length p.world.received) ≡ false = (let r = stands.world.received in grind (arith, nat_tests)) in
      ap (λ (b : Bool). b && nat_lt receiver_size (log_end p.world.received + 2 + length packet.payload)) no

  same_end : log_end p.world.received + 2 + length packet.payload ≡ recv_end c.receiver + 2 + length packet.payload
  same_end = ap (λ (n : ℕ). n + 2 + length packet.payload) stands.world.end

  is_next : packet.number ≡ recv_count c.receiver → (packet.number == length p.world.received) ≡ true
  is_next e = let r = stands.world.received in grind (arith, nat_tests)

  overfills_by : packet.number ≡ recv_count c.receiver → (b : Bool) → nat_lt receiver_size (recv_end c.receiver + 2 + length packet.payload) ≡ b → overfills p.world packet ≡ b
  overfills_by e b test = ap (λ (b : Bool). b && nat_lt receiver_size (log_end p.world.received + 2 + length packet.payload)) (is_next e)
      ∙ ap (nat_lt receiver_size) same_end ∙ test

  pub no_overfill_next : packet.number ≡ recv_count c.receiver → recv_end c.receiver + 2 + length packet.payload ≤ receiver_size → overfills p.world packet ≡ false
  no_overfill_next e le = overfills_by e false (grind (arith, nat_tests))

  pub overfill : packet.number ≡ recv_count c.receiver → receiver_size < recv_end c.receiver + 2 + length packet.payload → overfills p.world packet ≡ true
  overfill e lt = overfills_by e true (grind (arith, nat_tests))

  -- ---- a message that the receiver has ----

  abbrev pub again : World
  again = record p.world { returned = p.world.returned ++ packet.number ∷ [] }

  is_again : packet.number < recv_count c.receiver → again ≡ carried p.world packet
  is_again lt =
      let test : nat_lt packet.number (length p.world.received) ≡ true = (let r = stands.world.received in grind (arith, nat_tests)) in
      sym (ap (λ (b : Bool). cond b again (record p.world { packet = Some packet.payload })) test)

  pub carries_again : packet.number < recv_count c.receiver → Happens p.world (CarryData (place p.world.sent back)) again
  carries_again lt = (packet, at_world, stands.sound.rest.packet, below, is_again lt)

  pub takes_nothing : Perhaps again TakeBegin (TakeEnd ∷ []) again
  takes_nothing = inr ((λ x h. (let some = h.1 in let none = stands.sound.rest.packet in absurd (cc))), refl)

  pub lawful_again : packet.number < recv_count c.receiver → IsLawful again
  lawful_again lt = runs_lawfully p.world (CarryData (place p.world.sent back) ∷ []) again stands.sound.lawful (again, carries_again lt, refl)

  -- these are the TAKEN that are kept once this one was sent too
  abbrev KeepsWith : List ℕ → ℕ → Type 0
  KeepsWith returned n = (p.returned_before ≤ length (p.world.returned ++ n ∷ [])) × (returned ≡ keep_last 64 (drop p.returned_before (p.world.returned ++ n ∷ [])))

  returned_is : (returned : List ℕ) → returned ≡ keep_last 64 (c.returned.items ++ packet.number ∷ []) → KeepsWith returned packet.number
  returned_is returned e =
      let (le, kept) = stands.world.returned in (
        omega (arith, le, length-push p.world.returned packet.number),
        e ∙ ap (λ (l : List ℕ). keep_last 64 (l ++ packet.number ∷ [])) kept ∙ keep_last_push (drop p.returned_before p.world.returned) packet.number
            ∙ ap (keep_last 64) (sym (drop-append-le p.returned_before p.world.returned (packet.number ∷ []) le)),
      )

  pub holds_again : (returned : List ℕ) → returned ≡ keep_last 64 (c.returned.items ++ packet.number ∷ []) → HoldsWorld (record (kept_of p.returned_before c) { returned = returned }) again
  holds_again returned e = record {
    capacity = stands.world.capacity;
    low_hand = stands.world.low_hand;
    low_payload = stands.world.low_payload;
    held = stands.world.held;
    held_payloads = stands.world.held_payloads;
    high_hand = stands.world.high_hand;
    high_payload = stands.world.high_payload;
    removed = stands.world.removed;
    accepted = stands.world.accepted;
    received = stands.world.received;
    end = stands.world.end;
    sent = stands.world.sent;
    returned = returned_is returned e;
  }

  pub rest_again : IsAtRest again
  rest_again = record { storing = stands.sound.rest.storing; due = stands.sound.rest.due; removing = stands.sound.rest.removing; packet = stands.sound.rest.packet; taking = stands.sound.rest.taking }

  -- ---- the receiver's next message ----

  abbrev pub waits : World
  waits = record p.world { packet = Some packet.payload }

  -- its taking is unfinished
  abbrev pub taking : World
  taking = record p.world { packet = Some packet.payload; taking = true }

  abbrev pub taken : World
  taken = took taking packet.payload

  is_waiting : packet.number ≡ recv_count c.receiver → waits ≡ carried p.world packet
  is_waiting e =
      let test : nat_lt packet.number (length p.world.received) ≡ false = (let r = stands.world.received in grind (arith, nat_tests)) in
      sym (ap (λ (b : Bool). cond b again waits) test)

  pub carries_next : packet.number ≡ recv_count c.receiver → Happens p.world (CarryData (place p.world.sent back)) waits
  carries_next e = (packet, at_world, stands.sound.rest.packet, below, is_waiting e)

  begins_taking : Happens waits TakeBegin taking
  begins_taking = (packet.payload, refl, stands.sound.rest.taking, refl)

  pub runs_to_taking : packet.number ≡ recv_count c.receiver → Run p.world (CarryData (place p.world.sent back) ∷ TakeBegin ∷ []) taking
  runs_to_taking e = (waits, carries_next e, (taking, begins_taking, refl))

  runs_to_taken : Run waits (TakeBegin ∷ TakeEnd ∷ []) taken
  runs_to_taken = (taking, begins_taking, (taken, (packet.payload, refl, refl, refl), refl))

  pub takes_next : Perhaps waits TakeBegin (TakeEnd ∷ []) taken
  takes_next = inl runs_to_taken

  pub lawful_taking : packet.number ≡ recv_count c.receiver → IsLawful taking
  lawful_taking e = runs_lawfully p.world (CarryData (place p.world.sent back) ∷ TakeBegin ∷ []) taking stands.sound.lawful (runs_to_taking e)

  pub lawful_taken : packet.number ≡ recv_count c.receiver → IsLawful taken
  lawful_taken e = runs_lawfully p.world (CarryData (place p.world.sent back) ∷ TakeBegin ∷ TakeEnd ∷ []) taken stands.sound.lawful (waits, carries_next e, runs_to_taken)

  pub holds_taken : (returned : List ℕ) (received end : ℕ) → packet.number ≡ recv_count c.receiver
      → returned ≡ keep_last 64 (c.returned.items ++ packet.number ∷ [])
      → received ≡ recv_count c.receiver + 1 → end ≡ recv_end c.receiver + 2 + length packet.payload
      → HoldsWorld (record (kept_of p.returned_before c) { returned = returned; received = received; end = end }) taken
  holds_taken returned received end e is counts ends = record {
    capacity = stands.world.capacity;
    low_hand = stands.world.low_hand;
    low_payload = stands.world.low_payload;
    held = stands.world.held;
    held_payloads = stands.world.held_payloads;
    high_hand = stands.world.high_hand;
    high_payload = stands.world.high_payload;
    removed = stands.world.removed;
    accepted = stands.world.accepted;
    received = length-push p.world.received packet.payload ∙ ap (λ (n : ℕ). n + 1) stands.world.received ∙ sym counts;
    end = log_end_push p.world.received packet.payload ∙ same_end ∙ sym ends;
    sent = stands.world.sent;
    returned = subst (KeepsWith returned) (e ∙ sym stands.world.received) (returned_is returned is);
  }

  pub rest_taken : IsAtRest taken
  rest_taken = record { storing = stands.sound.rest.storing; due = stands.sound.rest.due; removing = stands.sound.rest.removing; packet = refl; taking = refl }
