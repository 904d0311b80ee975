-- What the high side of a session sent is what its low side stored.
use Rattle.std.proofs.Common.{◌≡◌, ℕ, zero, suc, ◌+◌, ◌-◌, ◌≤◌, List, [], ◌∷◌, ◌++◌, length, take, slice_get, Option, Some, None, option_to_list, refl, sym, ap, ◌∙◌, subst, arith, append_assoc, length-append}
use Rattle.std.proofs.lemmas.List.{map-append, take_all}
use Rattle.std.specs.List.{All, AllByRecursion}
use Rattle.disk_model.specs.Disk.{Meaning}
use Rattle.pump_frame.specs.declared.frame.Frame.{Frame}
use Rattle.pump_frame.specs.declared.frame.Item.{Item}
use Rattle.pump_frame.specs.declared.row.SessionRow.{SessionRow}
use Rattle.pump_core.specs.Exchanges.{Part, IsCut}
use Rattle.pump_core.specs.Passage.{Low, High, Fits, IsAverage, NeverFall, shape_of_row}
use Rattle.pump_core.proofs.Lists.{slice_get-append}
use Rattle.recovery.specs.Deals.{InHands, numbered, passing}
use Rattle.recovery.proofs.Dealing.{length_numbered}
use Rattle.relay_threads.specs.HighEnds.{HasMessage, answers_over, data_over, messages_of}
use Rattle.relay_threads.specs.HighStays.{Stay, AreStays, stayed}
use Rattle.relay_threads.specs.PairsRead.{pairs_of}
use Rattle.relay_threads.specs.Records.{Made, life_made}
use Rattle.relay_threads.specs.StoredMessages.{payloads, stored_in}
use Rattle.relay_threads.proofs.HighSending.{sends_stays}
use Rattle.serving.specs.Finding.{AtOpening, FindsBoth, between_hands, high_opening, low_opening}
use Rattle.serving.specs.HighServing.{DidHigh}
use Rattle.serving.specs.LowServing.{DidLow}
use Rattle.serving.specs.SentStored.{SentIsStored}
use Rattle.serving.proofs.Climbing.{stays_climb}

-- ---- what is dealt out ----

taken_last : (k : ℕ) (items : List Item) → length items ≤ k + 1 → take k items ++ option_to_list (slice_get items k) ≡ items
taken_last zero [] le = refl
taken_last zero (x ∷ []) le = refl
taken_last zero (x ∷ y ∷ items) le = absurd (omega (arith, le))
taken_last (suc k) [] le = refl
taken_last (suc k) (x ∷ items) le = ap (λ (xs : List Item). x ∷ xs) (taken_last k items (omega (arith, le)))

-- the hands and what is between them are all that was dealt out
dealt_whole : (n : ℕ) (items : List Item) (high low : Option Item) → InHands n items high low → length items ≤ n → 3 ≤ n → option_to_list high ++ (passing n items ++ option_to_list low) ≡ items
dealt_whole n [] high low hands le wide =
    ap (λ (z : Option Item × Option Item). option_to_list z.0 ++ (passing n [] ++ option_to_list z.1)) (λ i. (hands.first i, hands.last i))
    ∙ ap (λ (xs : List Item). xs ++ []) (take_all (n - 2) [] (omega arith))
dealt_whole n (x ∷ items) high low hands le wide =
    let at : n - 1 ≡ suc (n - 2) = omega (arith, wide) in
    ap (λ (z : Option Item × Option Item). option_to_list z.0 ++ (passing n (x ∷ items) ++ option_to_list z.1)) (λ i. (hands.first i, (hands.last ∙ ap (slice_get (x ∷ items)) at) i))
    ∙ ap (λ (xs : List Item). x ∷ xs) (taken_last (n - 2) items (omega (arith, le, wide)))

payloads_numbered : (n : ℕ) (messages : List (List ℕ)) → payloads (numbered n messages) ≡ messages
payloads_numbered n [] = refl
payloads_numbered n (m ∷ messages) = ap (λ (ms : List (List ℕ)). m ∷ ms) (payloads_numbered (n + 1) messages)

payloads_both : (xs ys : List Item) → payloads (xs ++ ys) ≡ payloads xs ++ payloads ys
payloads_both xs ys = map-append (λ (x : Item). x.payload) xs ys

length_payloads : (items : List Item) → length (payloads items) ≡ length items
length_payloads [] = refl
length_payloads (x ∷ items) = ap suc (length_payloads items)

at_most_one : (hand : Option Item) → length (option_to_list hand) ≤ 1
at_most_one None = omega arith
at_most_one (Some x) = omega arith

-- frames that carry some of these messages carry some of more
carry_more : (first : ℕ) (messages more : List (List ℕ)) (frames : List Frame) → AllByRecursion (HasMessage first messages) frames → AllByRecursion (HasMessage first (messages ++ more)) frames
carry_more first messages more [] h = tt
carry_more first messages more (f ∷ frames) h = ((h.0.0, slice_get-append messages more (f.number - first) f.payload h.0.1), carry_more first messages more frames h.1)

-- ---- what was sent, and what was stored ----

module _ {L S : Type 0} (m : Meaning S) (row : SessionRow) (o : AtOpening) (low high : S) (wide : 3 ≤ row.capacity) (found : FindsBoth m row o low high) (made : List Made) (l : Low) (h : High) (low_did : DidLow row o made l)
    (stays : List (Stay L)) (are : AreStays row (high_opening o) stays) (high_did : DidHigh row o stays h) (fits : Fits (shape_of_row row) l h) (parts : List Part) (cut : IsCut row (life_made (low_opening o) made) parts) where
  abbrev first_hand : List Item
  first_hand = option_to_list o.high_hand

  abbrev behind : List Item
  behind = between_hands row o ++ option_to_list o.low_hand

  abbrev last_hand : List Item
  last_hand = option_to_list low_did.items.0

  abbrev rest : List Item
  rest = fits.agrees.held.0

  abbrev came : List (List ℕ)
  came = messages_of o.high_hand (answers_over row (high_opening o) stays)

  abbrev stored : List (List ℕ)
  stored = o.messages ++ payloads (stored_in parts)

  -- all messages are those that came to High, those that are still in the passage, and that in Low's hand
  all_items : numbered o.removed o.messages ++ stored_in parts ≡ (first_hand ++ h.taken) ++ (rest ++ last_hand)
  all_items =
      let dealt = dealt_whole row.capacity (numbered o.removed o.messages) o.high_hand o.low_hand found.hands (omega (arith, length_numbered o.removed o.messages, found.count, found.places)) wide in
      ap (λ (xs : List Item). xs ++ stored_in parts) (sym dealt)
      ∙ append_assoc first_hand behind (stored_in parts)
      ∙ ap (λ (xs : List Item). first_hand ++ xs) (sym (low_did.items.1 parts cut) ∙ ap (λ (xs : List Item). xs ++ last_hand) fits.agrees.held.1 ∙ append_assoc h.taken rest last_hand)
      ∙ sym (append_assoc first_hand h.taken (rest ++ last_hand))

  stored_is : stored ≡ came ++ payloads (rest ++ last_hand)
  stored_is =
      ap (λ (ms : List (List ℕ)). ms ++ payloads (stored_in parts)) (sym (payloads_numbered o.removed o.messages))
      ∙ sym (payloads_both (numbered o.removed o.messages) (stored_in parts))
      ∙ ap payloads all_items
      ∙ payloads_both (first_hand ++ h.taken) (rest ++ last_hand)
      ∙ ap (λ (ms : List (List ℕ)). ms ++ payloads (rest ++ last_hand)) (payloads_both first_hand h.taken ∙ ap (λ (ms : List (List ℕ)). payloads first_hand ++ ms) high_did.taken)

  count_is : length stored ≡ length came + (length rest + length last_hand)
  count_is = omega (arith, ap length stored_is, length-append came (payloads (rest ++ last_hand)), length_payloads (rest ++ last_hand), length-append rest last_hand)

  pub sent_is_stored : SentIsStored row o.removed stored (data_over row.id stays) (stayed row (high_opening o) stays) (pairs_of made)
  sent_is_stored =
      let sent = stays_climb row o.removed o.high_hand stays are in
      let hand = at_most_one (stayed row (high_opening o) stays).hand in
      record {
        data_are = subst (λ (ms : List (List ℕ)). AllByRecursion (HasMessage o.removed ms) (data_over row.id stays)) (sym stored_is) (carry_more o.removed came (payloads (rest ++ last_hand)) (data_over row.id stays) (sends_stays row o.removed o.high_hand stays are));
        climbs = sent.climbs;
        removed = (sent.from, omega (arith, sent.came, count_is));
        slots = omega (arith, sent.came, count_is, hand, at_most_one low_did.items.0, fits.room, ap length fits.agrees.held.1, length-append h.taken rest, wide);
        averages = subst (λ (z : List ℕ × List (ℕ × ℕ)). All (IsAverage (shape_of_row row) z.0) z.1) (λ i. (high_did.times i, low_did.pairs i)) fits.agrees.averages;
        never_fall = subst NeverFall low_did.pairs fits.agrees.never_fall;
      }
