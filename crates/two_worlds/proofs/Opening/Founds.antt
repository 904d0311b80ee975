-- What is found on three disks that agree.
use Rattle.std.proofs.Common.{◌≡◌, inl, inr, ℕ, suc, ◌+◌, ◌-◌, ◌^◌, ◌≤◌, ◌<◌, List, [], ◌∷◌, length, drop, get_or, refl, sym, ap, ◌∙◌, subst, arith, length-drop, length-append}
use Rattle.std.specs.List.{All}
use Rattle.std.proofs.lemmas.Bool.{cases_lt}
use Rattle.std.proofs.lemmas.List.{ext_get_or, get_or-drop, get_or_append_left, get_or-append_right}
use Rattle.std.proofs.lemmas.List.Elements.{All-nil, All-cons, All-append, All-drop}
use Rattle.pump_frame.specs.Rows.{IsLawfulRow}
use Rattle.pump_frame.specs.declared.row.SessionRow.{SessionRow}
use Rattle.stable_buffer.specs.Register.{value_of}
use Rattle.stable_buffer.specs.Stands.{LowStands, HighStands, InSlot}
use Rattle.stable_buffer.specs.Log.{RecvStands, Records, log_of}
use Rattle.script_reader.specs.Highs.{receiver_size}
use Rattle.script_reader.specs.Openings.{Found, accepted_in}
use Rattle.recovery.specs.Agreement.{SlotsAgree}
use Rattle.recovery.proofs.Rows.{row_message}
use Rattle.recovery.proofs.Slots.{slot_one}
use Rattle.two_worlds.specs.Openings.{StandForFound}
use Rattle.two_worlds.proofs.Opening.Opened.{received_end}

slots_short : (row : SessionRow) (n : ℕ) (ms : List (List ℕ)) (disk : List ℕ) → ((i : ℕ) → i < length ms → InSlot row (n + i) (get_or ms i []) disk) → All (λ m. length m ≤ row.message) ms
slots_short row n [] disk slots = All-nil (λ m. length m ≤ row.message)
slots_short row n (m ∷ ms) disk slots = All-cons (λ m. length m ≤ row.message) m ms (slots 0 (omega arith)).fits
    (slots_short row (n + 1) ms disk (λ i lt. let e : n + suc i ≡ n + 1 + i = omega arith in subst (λ k. InSlot row k (get_or ms i []) disk) e (slots (suc i) (omega (arith, lt)))))

records_short : (most : ℕ) (ms : List (List ℕ)) (bytes : List ℕ) → Records most ms bytes → All (λ m. length m ≤ most) ms
records_short most [] bytes fill = All-nil (λ m. length m ≤ most)
records_short most (m ∷ ms) bytes (fits, is, small, same, rest) = All-cons (λ m. length m ≤ most) m ms small (records_short most ms (drop (2 + length m) bytes) rest)

module _ (row : SessionRow) (lawful : IsLawfulRow row) (E B : ℕ) (messages received : List (List ℕ)) (low high recv : List ℕ)
    (s : LowStands row E B messages low) (t : HighStands row B high) (r : RecvStands row received recv)
    (small : E ≤ 2 ^ 48) (room : (value_of recv).1 ≤ receiver_size) (above : B ≤ length received) (below : length received ≤ E)
    (agree : SlotsAgree row B (length received) received low) where
  abbrev R : ℕ
  R = length received

  -- what is found
  abbrev pub found : Found
  found = record { removed = B; received = received; later = drop (R - B) messages }

  rest_size : length (drop (R - B) messages) ≡ E - R
  rest_size = omega (arith, length-drop (R - B) messages, s.count, above, below)

  size : length (accepted_in found) ≡ E
  size = omega (arith, length-append received (drop (R - B) messages), rest_size, below)

  tail_size : length messages ≡ length (drop B (accepted_in found))
  tail_size = omega (arith, length-drop B (accepted_in found), size, s.count)

  get_at : (i : ℕ) → i < length messages → get_or messages i [] ≡ get_or (accepted_in found) (B + i) []
  get_at i lt = elim (cases_lt (B + i) R) [
    | inl early ↦
        slot_one row (row_message row lawful) (B + i) (get_or messages i []) (get_or received (B + i) []) low (s.slots i lt) (agree (B + i) (omega arith) early)
        ∙ sym (get_or_append_left received (drop (R - B) messages) [] (B + i) early)
    | inr late ↦
        let e : R - B + (B + i - R) ≡ i = omega (arith, late, above) in
        sym (get_or-append_right received (drop (R - B) messages) R (B + i) [] refl late ∙ get_or-drop (R - B) messages (B + i - R) [] ∙ ap (λ k. get_or messages k []) e)
  ]

  -- low's messages are the accepted ones that aren't removed
  pub tail : messages ≡ drop B (accepted_in found)
  tail = ext_get_or [] messages (drop B (accepted_in found)) tail_size (λ i lt. get_at i lt ∙ sym (get_or-drop B (accepted_in found) i []))

  short : All (λ m. length m ≤ row.message) (accepted_in found)
  short = All-append (λ m. length m ≤ row.message) received (drop (R - B) messages) (records_short row.message received (log_of r.end recv) r.records)
      (All-drop (λ m. length m ≤ row.message) (R - B) messages (slots_short row B messages low s.slots))

  pub stand_for_found : StandForFound row found low high recv
  stand_for_found = record {
    can_open = record {
      agree = record { taken = above; fits = omega (arith, size, s.kept) };
      count = omega (arith, size, small);
      end = (let e = received_end row received recv r in omega (arith, e, room));
      short = short;
    };
    low_is = subst (λ (t : ℕ × List (List ℕ)). LowStands row t.0 B t.1 low) (λ i. (sym size i, tail i)) s;
    high_is = t;
    recv_is = r;
  }
