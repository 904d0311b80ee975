-- The second part of a high look: a message is taken up, and the hand is sent.
use Rattle.std.proofs.Common.{◌≡◌, inl, inr, ℕ, ◌-◌, ◌^◌, ◌≤◌, ◌<◌, Bool, true, false, List, [], ◌∷◌, ◌++◌, length, map, Option, Some, None, refl, sym, ap, ◌∙◌, subst, arith, nat_lt, length-append}
use Rattle.std.specs.Prelude.{◌||◌, if◌then◌else◌, slice_get, option_to_list}
use Rattle.std.specs.List.{AllByRecursion}
use Rattle.std.proofs.lemmas.Bool.Decides.{nat_tests}
use Rattle.circular_buffer.specs.Buffer.{Buffer, keep_last}
use Rattle.pump_frame.specs.declared.frame.Item.{Item}
use Rattle.pump_frame.specs.declared.row.SessionRow.{SessionRow}
use Rattle.pump_core.specs.declared.event.Event.TheVariants.{TakeUp, Send}
use Rattle.pump_core.specs.World.{World}
use Rattle.pump_core.specs.Events.{Happens}
use Rattle.pump_core.specs.Lawful.{IsLawful, numbers}
use Rattle.pump_core.specs.HighLooks.{Perhaps}
use Rattle.pump_core.specs.Sendings.{last_sending, is_due, sends_hand}
use Rattle.pump_core.proofs.Bounded.{in_hand, first_live}
use Rattle.pump_core.proofs.Laws.{stays_lawful}
use Rattle.high_process.specs.Past as high
use Rattle.script_reader.specs.declared.event.Event.{Event}
use Rattle.script_reader.specs.declared.event.Event.TheVariants.{Sent}
use Rattle.script_reader.specs.Past.{Past}
use Rattle.script_reader.specs.Highs.{IsSending}
use Rattle.two_worlds.specs.Standing.{Kept, HoldsWorld, IsAccepted, IsAcceptedHand, number_of}
use Rattle.world_laws.specs.Timelines.{IsAtRest}
use Rattle.two_worlds.specs.Private.HighLooks.{sent_line, packets_after}
use Rattle.world_laws.proofs.Packets.{keep_last_push}

-- ---- what the passage gave ----

-- of the items that were held, by whether one was wanted
abbrev pub Fetched : Bool → List Item → Option Item → List Item → Type 0
Fetched true held (Some x) after = held ≡ x ∷ after
Fetched true held None after = (held ≡ []) × (after ≡ [])
Fetched false held got after = (got ≡ None) × (after ≡ held)

-- ---- the second part ----

-- what the high process has been through, by what is kept
abbrev pub past_of : Kept → Past → List ℕ → ℕ → high.ProcessPast
past_of k p times moment = record { removed = k.removed; hand = k.high_hand; sends = p.sends; times = times; moment = moment }

abbrev numbers_of : List Item → List ℕ
numbers_of held = map (λ (x : Item). x.number) held

-- the world with this in the high hand, and these held
abbrev with_hand : World → Option Item → List Item → World
with_hand w hand held = record w { high_hand = number_of hand; held = numbers_of held }

module _ (row : SessionRow) (attaches : Bool) (p : Past) (m : ℕ) (k : Kept) (packets : Buffer Item) where
  -- what the second part leads to, where this is in the hand then, that is held, and it is sent or not
  pub record Second (hand : Option Item) (held : List Item) (b : Bool) : Type 0 where
    pub end : Past
    pub printed : List Event
    pub is_sending : IsSending row attaches p m end printed
    pub printed_is : printed ≡ sent_line row.id m (if b then Some k.removed else None)
    pub same : end ≡ record p { world = record p.world { high_hand = number_of hand; held = numbers_of held; sent = end.world.sent }; sends = end.sends; moment = m }
    pub holds : HoldsWorld (record k { high_hand = hand; held = held; sent = (packets_after (if b then Some k.removed else None) hand packets).items }) end.world
    pub rest : IsAtRest end.world
    pub lawful : IsLawful end.world
    pub sends : end.sends ≡ (if b then record { number = k.removed; moment = m } ∷ p.sends else p.sends)
    pub few : length p.sends ≤ length p.world.sent → length end.sends ≤ length end.world.sent

module _ (row : SessionRow) (attaches : Bool) (p : Past) (m : ℕ) (k : Kept) (packets : Buffer Item) (times : List ℕ) (old : ℕ)
    (holds : HoldsWorld (record k { sent = packets.items }) p.world) (rest : IsAtRest p.world) (lawful : IsLawful p.world) (capacity : packets.capacity ≡ 64) where
  abbrev is_sent : Option Item → Bool
  is_sent hand = high.is_sent row.resend attaches (record (past_of k p times old) { hand = hand }) m

  holds_with : (hand : Option Item) (held : List Item) → IsAcceptedHand p.world.accepted hand → AllByRecursion (IsAccepted p.world.accepted) held
      → HoldsWorld (record k { high_hand = hand; held = held; sent = packets.items }) (with_hand p.world hand held)
  holds_with hand held one all = record {
    capacity = holds.capacity;
    low_hand = holds.low_hand;
    low_payload = holds.low_payload;
    held = refl;
    held_payloads = all;
    high_hand = refl;
    high_payload = one;
    removed = holds.removed;
    accepted = holds.accepted;
    received = holds.received;
    end = holds.end;
    sent = holds.sent;
    returned = holds.returned;
  }

  module _ (hand : Option Item) (held : List Item) (takes : Perhaps p.world TakeUp [] (with_hand p.world hand held))
      (kept : HoldsWorld (record k { high_hand = hand; held = held; sent = packets.items }) (with_hand p.world hand held)) (lawful_then : IsLawful (with_hand p.world hand held)) where
    abbrev w : World
    w = with_hand p.world hand held

    -- nothing is sent
    quiet : false ≡ sends_hand row.resend attaches p.sends m w.high_hand → Second row attaches p m k packets hand held false
    quiet cause = record {
      end = record p { world = w; moment = m };
      printed = [];
      is_sending = record { look = record { taken = w; takes_up = takes; is_sent = false; cause = cause; sent = refl; times = refl; sends = refl }; rest = refl; printed_is = refl };
      printed_is = refl;
      same = refl;
      holds = kept;
      rest = record { storing = rest.storing; due = rest.due; removing = rest.removing; packet = rest.packet; taking = rest.taking };
      lawful = lawful_then;
      sends = refl;
      few = λ le. le;
    }

  -- the hand is full
  module _ (x : Item) (held : List Item) (takes : Perhaps p.world TakeUp [] (with_hand p.world (Some x) held))
      (kept : HoldsWorld (record k { high_hand = Some x; held = held; sent = packets.items }) (with_hand p.world (Some x) held)) (lawful_then : IsLawful (with_hand p.world (Some x) held)) where
    abbrev taken : World
    taken = with_hand p.world (Some x) held

    number : x.number ≡ k.removed
    number = (in_hand taken x.number lawful_then.bounded refl).0 ∙ holds.removed

    cause_is : is_sent (Some x) ≡ sends_hand row.resend attaches p.sends m (Some x.number)
    cause_is = ap (λ (n : ℕ). attaches || is_due row.resend (last_sending n p.sends) m) (sym number)

    sends : true ≡ sends_hand row.resend attaches p.sends m (Some x.number) → Second row attaches p m k packets (Some x) held true
    sends cause =
        let v : World = record taken { sent = p.world.sent ++ x ∷ [] } in
        let happens : Happens taken Send v = (x.number, x.payload, refl, rest.removing, kept.high_payload, refl) in
        record {
          end = record p { world = v; sends = record { number = x.number; moment = m } ∷ p.sends; moment = m };
          printed = Sent row.id m x.number ∷ [];
          is_sending = record { look = record { taken = taken; takes_up = takes; is_sent = true; cause = cause; sent = happens; times = refl; sends = refl }; rest = refl; printed_is = refl };
          printed_is = ap (λ (n : ℕ). Sent row.id m n ∷ []) number;
          same = refl;
          holds = record {
            capacity = kept.capacity;
            low_hand = kept.low_hand;
            low_payload = kept.low_payload;
            held = kept.held;
            held_payloads = kept.held_payloads;
            high_hand = kept.high_hand;
            high_payload = kept.high_payload;
            removed = kept.removed;
            accepted = kept.accepted;
            received = kept.received;
            end = kept.end;
            sent = ap (λ (n : ℕ). keep_last n (packets.items ++ x ∷ [])) capacity
                ∙ ap (λ (l : List Item). keep_last 64 (l ++ x ∷ [])) holds.sent ∙ keep_last_push p.world.sent x;
            returned = kept.returned;
          };
          rest = record { storing = rest.storing; due = rest.due; removing = rest.removing; packet = rest.packet; taking = rest.taking };
          lawful = stays_lawful taken Send v lawful_then happens;
          sends = ap (λ (n : ℕ). record { number = n; moment = m } ∷ p.sends) number;
          few = λ le. omega (arith, le, length-append p.world.sent (x ∷ []));
        }

  -- by what is in the hand
  finish : (hand : Option Item) (held : List Item) (b : Bool) → is_sent hand ≡ b → Perhaps p.world TakeUp [] (with_hand p.world hand held)
      → HoldsWorld (record k { high_hand = hand; held = held; sent = packets.items }) (with_hand p.world hand held) → IsLawful (with_hand p.world hand held) → Second row attaches p m k packets hand held b
  finish None held true e takes kept l = absurd (cc)
  finish None held false e takes kept l = quiet None held takes kept l refl
  finish (Some x) held false e takes kept l = quiet (Some x) held takes kept l (sym e ∙ cause_is x held takes kept l)
  finish (Some x) held true e takes kept l = sends x held takes kept l (sym e ∙ cause_is x held takes kept l)

  -- nothing is taken up
  module _ (none : (v : World) → Happens p.world TakeUp v → ⊥) where
    unmoved : with_hand p.world k.high_hand k.held ≡ p.world
    unmoved = λ i. record p.world { high_hand = sym holds.high_hand i; held = sym holds.held i }

    stays : Second row attaches p m k packets k.high_hand k.held (is_sent k.high_hand)
    stays = finish k.high_hand k.held (is_sent k.high_hand) refl (inr (none, unmoved))
        (holds_with k.high_hand k.held holds.high_payload holds.held_payloads) (subst IsLawful (sym unmoved) lawful)

  -- the next message is taken up
  module _ (x : Item) (after : List Item) (empty : k.high_hand ≡ None) (is : k.held ≡ x ∷ after) where
    no_hand : p.world.high_hand ≡ None
    no_hand = holds.high_hand ∙ ap number_of empty

    held_is : p.world.held ≡ x.number ∷ numbers_of after
    held_is = holds.held ∙ ap numbers_of is

    first_number : x.number ≡ k.removed
    first_number =
        (first_live p.world.removed (length p.world.accepted - p.world.removed) x.number (numbers_of after ++ option_to_list p.world.low_hand)
        (ap (λ (t : Option ℕ × List ℕ). numbers t.0 t.1 p.world.low_hand) (λ i. (sym no_hand i, sym held_is i)) ∙ lawful.bounded.order.order)).0
        ∙ holds.removed

    abbrev y : Item
    y = record { number = k.removed; payload = x.payload }

    takes_it : Happens p.world TakeUp (with_hand p.world (Some y) after)
    takes_it = (k.removed, numbers_of after, no_hand, held_is ∙ ap (λ (n : ℕ). n ∷ numbers_of after) first_number, refl)

    payloads : AllByRecursion (IsAccepted p.world.accepted) (x ∷ after)
    payloads = subst (AllByRecursion (IsAccepted p.world.accepted)) is holds.held_payloads

    took : Second row attaches p m k packets (Some y) after (is_sent (Some y))
    took = finish (Some y) after (is_sent (Some y)) refl (inl (with_hand p.world (Some y) after, takes_it, refl))
        (holds_with (Some y) after (subst (λ (n : ℕ). slice_get p.world.accepted n ≡ Some x.payload) first_number payloads.0) payloads.1)
        (stays_lawful p.world TakeUp (with_hand p.world (Some y) after) lawful takes_it)

  full_takes_none : (x : Item) → k.high_hand ≡ Some x → (v : World) → Happens p.world TakeUp v → ⊥
  full_takes_none x full v e = let h = e.2 in let f = holds.high_hand ∙ ap number_of full in absurd (cc)

  nothing_held : k.held ≡ [] → (v : World) → Happens p.world TakeUp v → ⊥
  nothing_held none v e = let h = e.3 in let f = holds.held ∙ ap numbers_of none in absurd (cc)

  -- no message has a number of 2^48 or above
  all_removed : k.accepted ≤ 2 ^ 48 → nat_lt k.removed (2 ^ 48) ≡ false → k.high_hand ≡ None → (held : List Item) → k.held ≡ held → k.held ≡ []
  all_removed few many empty [] is = is
  all_removed few many empty (x ∷ after) is =
      let more : 0 < length p.world.accepted - p.world.removed =
      (first_live p.world.removed (length p.world.accepted - p.world.removed) x.number (numbers_of after ++ option_to_list p.world.low_hand)
      (ap (λ (t : Option ℕ × List ℕ). numbers t.0 t.1 p.world.low_hand) (λ i. (sym (no_hand x after empty is) i, sym (held_is x after empty is) i)) ∙ lawful.bounded.order.order)).1 in
      let le : 2 ^ 48 ≤ k.removed = grind (arith, nat_tests) in
      absurd (omega (arith, more, le, few, holds.removed, holds.accepted))

  -- what came is in the hand
  abbrev pub hand_after : Option Item → Option Item → Option Item
  hand_after hand None = hand
  hand_after hand (Some x) = Some (record { number = k.removed; payload = x.payload })

  by_wants : k.accepted ≤ 2 ^ 48 → k.high_hand ≡ None → (b : Bool) → nat_lt k.removed (2 ^ 48) ≡ b → (got : Option Item) (after : List Item) → Fetched b k.held got after
      → Second row attaches p m k packets (hand_after k.high_hand got) after (is_sent (hand_after k.high_hand got))
  by_wants few empty true e (Some x) after is = took x after empty is
  by_wants few empty true e None after is =
      subst (λ (l : List Item). Second row attaches p m k packets k.high_hand l (is_sent k.high_hand)) (is.0 ∙ sym is.1) (stays (nothing_held is.0))
  by_wants few empty false e None after is =
      subst (λ (l : List Item). Second row attaches p m k packets k.high_hand l (is_sent k.high_hand)) (sym is.1) (stays (nothing_held (all_removed few e empty k.held refl)))
  by_wants few empty false e (Some x) after is = let no = is.0 in absurd (cc)

  by_hand : k.accepted ≤ 2 ^ 48 → (hand : Option Item) → k.high_hand ≡ hand → (got : Option Item) (after : List Item)
      → Fetched (high.wants (record (past_of k p times old) { hand = hand })) k.held got after
      → Second row attaches p m k packets (hand_after k.high_hand got) after (is_sent (hand_after k.high_hand got))
  by_hand few None empty got after is = by_wants few empty (nat_lt k.removed (2 ^ 48)) refl got after is
  by_hand few (Some x) full None after is =
      subst (λ (l : List Item). Second row attaches p m k packets k.high_hand l (is_sent k.high_hand)) (sym is.1) (stays (full_takes_none x full))
  by_hand few (Some x) full (Some y) after is = let no = is.0 in absurd (cc)

  -- the second part, with what the passage gave
  pub second : k.accepted ≤ 2 ^ 48 → (got : Option Item) (after : List Item) → Fetched (high.wants (past_of k p times old)) k.held got after
      → Second row attaches p m k packets (hand_after k.high_hand got) after (high.is_sent row.resend attaches (high.taken_up (past_of k p times old) got) m)
  second few None after is = by_hand few k.high_hand refl None after is
  second few (Some x) after is = by_hand few k.high_hand refl (Some x) after is
