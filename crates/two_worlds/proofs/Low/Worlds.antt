-- What a low look does in the world.
use Rattle.std.proofs.Common.{◌≡◌, ℕ, ◌+◌, ◌-◌, ◌<◌, ◌≤◌, Bool, true, false, List, [], ◌∷◌, ◌++◌, length, map, Option, Some, None, refl, sym, ap, ◌∙◌, subst, arith, nat_lt}
use Rattle.std.specs.Prelude.{if◌then◌else◌, option_to_list, slice_get, is_some, ◌==◌}
use Rattle.std.specs.List.{AllByRecursion}
use Rattle.std.proofs.lemmas.Bool.Decides.{nat_tests}
use Rattle.std.proofs.lemmas.List.{length-map}
use Rattle.pump_frame.specs.declared.row.SessionRow.{SessionRow}
use Rattle.pump_frame.specs.declared.frame.Frame.{Frame}
use Rattle.pump_core.specs.declared.feedback.Feedback.{Feedback}
use Rattle.pump_core.specs.declared.feedback.Feedback.TheVariants.{Quiet, Full, Passed, Released, Repeat}
use Rattle.pump_core.specs.Phases.{Waiting as Waits}
use Rattle.pump_core.specs.History.{Arrival}
use Rattle.pump_core.specs.History.{Look}
use Rattle.pump_core.specs.Replies.{sent}
use Rattle.pump_core.specs.Exchanges.{has_average}
use Rattle.pump_core.specs.Step.{after, reply_at, stores_at}
use Rattle.pump_core.specs.Standing.{State}
use Rattle.pump_frame.specs.declared.frame.Item.{Item}
use Rattle.pump_core.specs.declared.event.Event.{Event}
use Rattle.pump_core.specs.declared.event.Event.TheVariants.{StoreBegin, StoreEnd, Forward, Acknowledge}
use Rattle.pump_core.specs.World.{World}
use Rattle.pump_core.specs.Events.{Run, stored}
use Rattle.pump_core.proofs.Lists.{slice_get-append, slice_get-past, length-push}
use Rattle.script_reader.specs.Lows.{offers, stored_events, acks_of}
use Rattle.pump_frame.specs.declared.payload.Payload.{Payload}
use Rattle.low_process.specs.Looks.{hand_stored, hand_passed}
use Rattle.world_laws.specs.Timelines.{IsAtRest}
use Rattle.two_worlds.specs.Standing.{Kept, HoldsWorld, IsAccepted, IsAcceptedHand, number_of}
use Rattle.script_reader.proofs.Hearing.{is_passing}
use Rattle.two_worlds.proofs.Low.Told.{moves}
use Rattle.two_worlds.proofs.Low.Sorts.{Sort, IsSame, IsMoving, IsStoring, IsAcking}

pub map-push : {X Y : Type 0} (f : X → Y) (xs : List X) (x : X) → map f (xs ++ x ∷ []) ≡ map f xs ++ f x ∷ []
map-push f [] x = refl
map-push f (y ∷ xs) x = ap (λ l. f y ∷ l) (map-push f xs x)

pub all-push : {X : Type 0} (P : X → Type 0) (xs : List X) (x : X) → AllByRecursion P xs → P x → AllByRecursion P (xs ++ x ∷ [])
all-push P [] x all p = (p, tt)
all-push P (y ∷ xs) x all p = (all.0, all-push P xs x all.1 p)

pub all-map : {X : Type 0} (P Q : X → Type 0) (xs : List X) → ((x : X) → P x → Q x) → AllByRecursion P xs → AllByRecursion Q xs
all-map P Q [] f all = tt
all-map P Q (x ∷ xs) f all = (f x all.0, all-map P Q xs f all.1)

pub still_accepted : (acc later : List Payload) (d : Item) → IsAccepted acc d → IsAccepted (acc ++ later) d
still_accepted acc later d h = slice_get-append acc later d.number d.payload h

pub still_accepted_hand : (acc later : List Payload) (hand : Option Item) → IsAcceptedHand acc hand → IsAcceptedHand (acc ++ later) hand
still_accepted_hand acc later None h = tt
still_accepted_hand acc later (Some d) h = still_accepted acc later d h

-- the message that leaves the low hand joins those that are held
abbrev pub held_by : Option Item → List Item → Bool → List Item
held_by hand held moved = if moved then held ++ option_to_list hand else held

pub full_number : (hand : Option Item) → is_some (number_of hand) ≡ is_some hand
full_number None = refl
full_number (Some item) = refl

pub room_is : (a b : ℕ) → a ≤ b → (a == b) ≡ false → nat_lt a b ≡ true
room_is a b le = grind (arith, nat_tests)

-- these events lead to a world of which this is kept
pub record Led (w : World) (es : List Event) (k : Kept) : Type 0 where
  pub end : World
  pub run : Run w es end
  pub holds : HoldsWorld k end
  pub rest : IsAtRest end

offers_still : (f : Feedback) → moves f ≡ false → offers f ≡ []
offers_still Quiet e = refl
offers_still Full e = refl
offers_still (Repeat t) e = refl
offers_still (Passed t) e = absurd (cc)
offers_still Released e = absurd (cc)

offers_move : (f : Feedback) → moves f ≡ true → offers f ≡ Forward ∷ []
offers_move Quiet e = absurd (cc)
offers_move Full e = absurd (cc)
offers_move (Repeat t) e = absurd (cc)
offers_move (Passed t) e = refl
offers_move Released e = refl

-- the low hand after a look: what was passed leaves it, and what was stored is put in
abbrev pub hand_by : Option Item → Bool → Option ℕ → Arrival → Option Item
hand_by hand moved stored a = hand_stored (if moved then None else hand) a stored

pub passed_is : (hand : Option Item) (f : Feedback) → (has_average f ≡ true → hand ≡ None) → hand_passed hand f ≡ (if moves f then None else hand)
passed_is hand Quiet h = refl
passed_is hand Full h = refl
passed_is hand (Passed t) h = refl
passed_is hand Released h = refl
passed_is hand (Repeat t) h = sym (h refl)

pub full_hand : (hand : Option Item) → is_some hand ≡ true → (d : Item) × (hand ≡ Some d)
full_hand None e = absurd (cc)
full_hand (Some d) e = (d, refl)

pub empty_hand : (hand : Option Item) → is_some hand ≡ false → hand ≡ None
empty_hand None e = refl
empty_hand (Some d) e = absurd (cc)

module _ (w : World) (k : Kept) (holds : HoldsWorld k w) (rest : IsAtRest w) where
  abbrev kept_by : Arrival → Bool → Option ℕ → ℕ → Kept
  kept_by a moved st n = record k { low_hand = hand_by k.low_hand moved st a; held = held_by k.low_hand k.held moved; accepted = n }

  nothing : Led w [] k
  nothing = record { end = w; run = refl; holds = holds; rest = rest }

  forwards : (d : Item) → k.low_hand ≡ Some d → nat_lt (length k.held) (k.capacity - 2) ≡ true → Led w (Forward ∷ []) (record k { low_hand = None; held = k.held ++ d ∷ [] })
  forwards d hand room =
      let v : World = record w { held = w.held ++ d.number ∷ []; low_hand = None } in
      let lt : length k.held < k.capacity - 2 = grind (arith, nat_tests) in
      let len : length w.held ≡ length k.held = ap length holds.held ∙ length-map k.held (λ (x : Item). x.number) in
      let fits : length w.held < w.capacity - 2 = rw (len, holds.capacity) lt in
      record {
        end = v;
        run = (v, (d.number, holds.low_hand ∙ ap number_of hand, fits, refl), refl);
        holds = record {
          capacity = holds.capacity;
          low_hand = refl;
          low_payload = tt;
          held = ap (λ l. l ++ d.number ∷ []) holds.held ∙ sym (map-push (λ (x : Item). x.number) k.held d);
          held_payloads = all-push (IsAccepted w.accepted) k.held d holds.held_payloads (subst (IsAcceptedHand w.accepted) hand holds.low_payload);
          high_hand = holds.high_hand;
          high_payload = holds.high_payload;
          removed = holds.removed;
          received = holds.received;
          end = holds.end;
          accepted = holds.accepted;
          sent = holds.sent;
          returned = holds.returned;
        };
        rest = record { storing = rest.storing; due = rest.due; removing = rest.removing; packet = rest.packet; taking = rest.taking };
      }

  stores : (f : Frame) → k.low_hand ≡ None → f.number ≡ k.accepted → Led w (StoreBegin f.payload ∷ StoreEnd ∷ []) (record k { low_hand = Some (record { number = f.number; payload = f.payload }); accepted = k.accepted + 1 })
  stores f hand number =
      let u : World = record w { storing = Some f.payload } in
      let v : World = stored u f.payload in
      let n : f.number ≡ length w.accepted = number ∙ sym holds.accepted in
      record {
        end = v;
        run = (u, (rest.storing, holds.low_hand ∙ ap number_of hand, refl), (v, (f.payload, refl, refl), refl));
        holds = record {
          capacity = holds.capacity;
          low_hand = ap (λ (m : ℕ). Some m) (sym n);
          low_payload = subst (λ (m : ℕ). slice_get (w.accepted ++ f.payload ∷ []) m ≡ Some f.payload) (sym n) (slice_get-past w.accepted f.payload []);
          held = holds.held;
          held_payloads = all-map (IsAccepted w.accepted) (IsAccepted (w.accepted ++ f.payload ∷ [])) k.held (still_accepted w.accepted (f.payload ∷ [])) holds.held_payloads;
          high_hand = holds.high_hand;
          high_payload = still_accepted_hand w.accepted (f.payload ∷ []) k.high_hand holds.high_payload;
          removed = holds.removed;
          received = holds.received;
          end = holds.end;
          accepted = length-push w.accepted f.payload ∙ ap (λ m. m + 1) holds.accepted;
          sent = holds.sent;
          returned = holds.returned;
        };
        rest = record { storing = refl; due = rest.due; removing = rest.removing; packet = rest.packet; taking = rest.taking };
      }

  acknowledges : (n : ℕ) → k.low_hand ≡ None → n < k.accepted → Led w (Acknowledge n ∷ []) k
  acknowledges n hand lt =
      let v : World = record w { acknowledged = w.acknowledged ++ n ∷ [] } in
      record {
        end = v;
        run = (v, (rw holds.accepted lt, holds.low_hand ∙ ap number_of hand, rest.storing, refl), refl);
        holds = record {
          capacity = holds.capacity;
          low_hand = holds.low_hand;
          low_payload = holds.low_payload;
          held = holds.held;
          held_payloads = holds.held_payloads;
          high_hand = holds.high_hand;
          high_payload = holds.high_payload;
          removed = holds.removed;
          received = holds.received;
          end = holds.end;
          accepted = holds.accepted;
          sent = holds.sent;
          returned = holds.returned;
        };
        rest = record { storing = rest.storing; due = rest.due; removing = rest.removing; packet = rest.packet; taking = rest.taking };
      }

  module _ (row : SessionRow) (s : State) (x : Look) (passing : is_passing s.phase ≡ is_some k.low_hand) (count : s.next ≡ k.accepted) (room : moves x.feedback ≡ true → nat_lt (length k.held) (k.capacity - 2) ≡ true) (below : (n t : ℕ) → s.phase ≡ Waits n t → n < s.next) where
    abbrev Leads : List Event → Bool → Option ℕ → List Event → ℕ → Type 0
    Leads o moved st ac n = Led w (o ++ (stored_events st x.arrival ++ ac)) (kept_by x.arrival moved st n)

    turned : (o o' : List Event) (b b' : Bool) (st st' : Option ℕ) (ac ac' : List Event) (n n' : ℕ) → o ≡ o' → b ≡ b' → st ≡ st' → ac ≡ ac' → n ≡ n' → Leads o' b' st' ac' n' → Leads o b st ac n
    turned o o' b b' st st' ac ac' n n' eo eb es ea en h =
        subst (λ (t : List Event × Bool × Option ℕ × List Event × ℕ). Leads t.0 t.1 t.2 t.3 t.4) (λ i. (sym eo i, sym eb i, sym es i, sym ea i, sym en i)) h

    pub led_by : Sort row s x → Leads (offers x.feedback) (moves x.feedback) (stores_at row s x) (acks_of (sent x (reply_at row s x))) (after row s x).next
    led_by (IsSame t) = turned _ [] _ false _ None _ [] _ k.accepted (offers_still x.feedback t.still) t.still t.stores t.acks (t.next ∙ count) nothing
    led_by (IsMoving t) =
        let h = full_hand k.low_hand (sym passing ∙ t.was) in
        turned _ (Forward ∷ []) _ true _ None _ [] _ k.accepted (offers_move x.feedback t.moves) t.moves t.stores t.acks (t.next ∙ count)
        (subst (λ (hand : Option Item). Led w (Forward ∷ []) (record k { low_hand = None; held = k.held ++ option_to_list hand })) (sym h.1) (forwards h.0 h.1 (room t.moves)))
    led_by (IsStoring f t) =
        let hand = empty_hand k.low_hand (sym passing ∙ t.was) in
        turned _ [] _ false _ (Some f.number) _ [] _ (k.accepted + 1) (offers_still x.feedback t.still) t.still t.stores t.acks (t.next ∙ ap (λ m. m + 1) count)
        (subst (λ (u : Arrival). Led w (stored_events (Some f.number) u ++ []) (record k { low_hand = hand_by k.low_hand false (Some f.number) u; accepted = k.accepted + 1 })) (sym t.arrival) (stores f hand (t.number ∙ count)))
    led_by (IsAcking n at t) =
        let hand = empty_hand k.low_hand (sym passing ∙ ap is_passing t.was) in
        turned _ [] _ false _ None _ (Acknowledge n ∷ []) _ k.accepted (offers_still x.feedback t.still) t.still t.stores t.acks (t.next ∙ count)
        (acknowledges n hand (subst (λ (m : ℕ). n < m) count (below n at t.was)))
