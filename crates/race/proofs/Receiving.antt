-- The receiver takes the message in the hand.
use Rattle.std.proofs.Common.{◌≡◌, ℕ, ◌+◌, ◌<◌, ◌≤◌, false, List, [], ◌∷◌, ◌++◌, length, map, None, refl, sym, ap, ◌∙◌, subst, arith}
use Rattle.std.specs.Prelude.{nat_lt, Ok}
use Rattle.std.proofs.lemmas.List.{length-append, map-append}
use Rattle.pump_frame.specs.declared.frame.Item.{Item}
use Rattle.pump_frame.specs.declared.row.SessionRow.{SessionRow}
use Rattle.disk_model.specs.Plain.{Plain, plain_meaning}
use Rattle.high_receiver.specs.Receiving.{Stores, answer_at_once, recv_disk, recv_count, recv_end, recv_row, recv_size}
use Rattle.high_receiver.specs.Steps.{TakesMessage}
use Rattle.high_receiver.specs.declared.receiver.Receiver.{Receiver}
use Rattle.high_receiver.specs.declared.values.Taken.{Taken}
use Rattle.race.specs.Turns.{payload_in}
use Rattle.race.specs.HighRacers.{HasReceived}
use Rattle.race.proofs.HighNumbers.{not_below}

-- the next message is stored, since there is room for it
pub stores_next : (r : Receiver Plain) (count : ℕ) (received : List (List ℕ)) (number size : ℕ) → HasReceived r count received → length received < count → number ≡ length received → size ≤ 64
    → answer_at_once (recv_count r) (recv_end r) (recv_size r) number size ≡ None
stores_next r count received number size h lt e short =
    let no_repeat : nat_lt number (recv_count r) ≡ false = not_below number (recv_count r) (omega (arith, e, h.count_is)) in
    let not_ahead : nat_lt (recv_count r) number ≡ false = not_below (recv_count r) number (omega (arith, e, h.count_is)) in
    let fits : nat_lt (recv_size r) (recv_end r + 2 + size) ≡ false = not_below (recv_size r) (recv_end r + 2 + size) (omega (arith, h.end, h.size, lt, short)) in
    rw (no_repeat, not_ahead, fits) refl

-- once it is stored, the receiver has it too
pub has_one_more : (r r' : Receiver Plain) (count : ℕ) (received : List (List ℕ)) (message : List ℕ) (v : Taken) → HasReceived r count received → length message ≤ 64
    → Stores plain_meaning message r r' (Ok v) → recv_row r' ≡ recv_row r → recv_size r' ≡ recv_size r → HasReceived r' count (received ++ message ∷ [])
has_one_more r r' count received message v h short s row size = record {
  ready = s.ready;
  row = row ∙ h.row;
  count_is = omega (arith, s.count, h.count_is, length-append received (message ∷ []));
  stands = (subst (λ (z : SessionRow). TakesMessage z message (recv_disk r).bytes (recv_disk r').bytes) h.row (s.taken tt)).more received h.stands;
  end = omega (arith, s.end, h.end, short, length-append received (message ∷ []));
  size = omega (arith, size, h.size);
  calm = s.answers.disarmed tt;
  room = omega (arith, size, s.answers.room tt, h.room);
}

-- so it has what the end gave
pub payloads_given : (before taken : List Item) (given : Item) (message : List ℕ) (received : List (List ℕ)) → taken ≡ before ++ given ∷ [] → given.payload ≡ message → received ≡ map payload_in before
    → received ++ message ∷ [] ≡ map payload_in taken
payloads_given before taken given message received is e r =
    ap (λ (z : List (List ℕ) × List ℕ). z.0 ++ z.1 ∷ []) (λ i. (r i, sym e i)) ∙ sym (map-append payload_in before (given ∷ [])) ∙ ap (map payload_in) (sym is)

pub map_length : (xs : List Item) → length (map payload_in xs) ≡ length xs
map_length [] = refl
map_length (x ∷ xs) = omega (arith, map_length xs)
