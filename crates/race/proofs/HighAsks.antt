-- What the gate of a worker is asked, look by look.
use Rattle.std.proofs.Common.{◌≡◌, ℕ, ◌+◌, ◌≤◌, Bool, true, false, List, [], ◌∷◌, length, Option, refl, sym, ap, ◌∙◌, subst, arith}
use Rattle.std.specs.Prelude.{if◌then◌else◌}
use Rattle.std.proofs.lemmas.List.{length-append}
use Rattle.pump_frame.specs.declared.frame.Item.{Item}
use Rattle.pump_link.specs.Tells.{Grows}
use Rattle.pump_link.proofs.Grown.{Grows-then}
use Rattle.pump_core.specs.Passage.{Low, High}
use Rattle.high_process.specs.States.{removed_of}
use Rattle.high_receiver.specs.Receiving.{recv_disk, recv_count}
use Rattle.race.specs.HighRacers.{HighAt, HandAt, IsNext}
use Rattle.race.specs.Turns.{looks_in, done_in, ask_after, asks_of, asks_in_run, AsksHigh}
use Rattle.race.specs.declared.high.HighRacer.{HighRacer}
use Rattle.race.proofs.Receiving.{map_length}

abbrev pub one_if : Bool → ℕ
one_if b = if b then 1 else 0

pub done_more : (b : Bool) (before : List Bool) → done_in (b ∷ before) ≡ one_if b + done_in before
done_more true before = omega arith
done_more false before = omega arith

-- one ask more
pub asks_more : (p q r : List (ℕ × ℕ) → Type 0) (done : Bool) (before : List Bool) (looks count : ℕ) → looks ≡ looks_in before → count ≡ done_in before
    → Grows p q (asks_of before) → Grows q r ((looks, count) ∷ []) → Grows p r (asks_of (done ∷ before))
asks_more p q r done before looks count same_looks same_count f g =
    Grows-then p q r (asks_of before) (ask_after before ∷ []) f (subst (λ (z : ℕ × ℕ). Grows q r (z ∷ [])) (λ i. (same_looks i, same_count i)) g)

module _ {H : Type 0} (stands : H → Low → High → Type 0) where
  -- the receiver has what is removed, and what it took last
  pub received_length : (took : Bool) (w : HighRacer H) (a : HighAt stands took w) → length a.received ≡ a.past.removed + one_if took
  received_length false w a = ap length a.received_are ∙ map_length a.before ∙ omega (arith, a.removed_are)
  received_length true w a =
      let full = a.hand_taken refl in
      let next : IsNext a.before a.past.removed a.past.sends a.high.taken w.moment full.1.0 =
      subst (λ (o : Option Item). HandAt a.before a.past.removed a.past.sends a.high.taken w.moment o) full.1.1 a.hand in
      ap length a.received_are ∙ map_length a.high.taken ∙ ap length next.taken_is ∙ omega (arith, length-append a.before (next.given ∷ []), a.removed_are)

  pub recv_count_of : (took : Bool) (w : HighRacer H) → HighAt stands took w → recv_count w.receiver ≡ removed_of w.half.process + one_if took
  recv_count_of took w a = omega (arith, a.recv.count_is, received_length took w a, a.is_past.holds.removed)

  few_taken : (took : Bool) (w : HighRacer H) (a : HighAt stands took w) → a.past.removed + one_if took ≤ w.count
  few_taken false w a = omega (arith, a.few)
  few_taken true w a = omega (arith, (a.hand_taken refl).0)

  -- where all are removed, the receiver has none besides
  pub all_removed : (took : Bool) (w : HighRacer H) → HighAt stands took w → w.count ≤ removed_of w.half.process → HighAt stands false w
  all_removed false w a all = a
  all_removed true w a all = absurd (omega (arith, few_taken true w a, all, a.is_past.holds.removed))

  -- nothing is taken yet
  pub none_taken : (w : HighRacer H) → HighAt stands false w → removed_of w.half.process ≡ 0 → recv_count w.receiver ≡ done_in []
  none_taken w a none = recv_count_of false w a ∙ omega (arith, none)

  -- one look more, by which nothing more was taken
  pub as_many_taken : (v w : HighRacer H) (turns_made : List Bool) → HighAt stands false v → HighAt stands false w → removed_of w.half.process ≡ removed_of v.half.process
      → recv_count v.receiver ≡ done_in turns_made → recv_count w.receiver ≡ done_in turns_made
  as_many_taken v w turns_made a b same taken = omega (arith, recv_count_of false v a, recv_count_of false w b, same, taken)

  -- a look, and then what the receiver took
  pub more_taken : (v w : HighRacer H) (took : Bool) (turns_made : List Bool) → HighAt stands false v → HighAt stands took w → removed_of w.half.process ≡ removed_of v.half.process
      → recv_count v.receiver ≡ done_in turns_made → recv_count w.receiver ≡ done_in (took ∷ turns_made)
  more_taken v w false turns_made a b same taken = as_many_taken v w turns_made a b same taken
  more_taken v w true turns_made a b same taken = omega (arith, recv_count_of false v a, recv_count_of true w b, same, taken)

  -- a look that gives back that a message was taken
  pub given_back : (v w : HighRacer H) (turns_made : List Bool) → HighAt stands true v → HighAt stands false w → removed_of w.half.process ≡ removed_of v.half.process + 1
      → recv_count v.receiver ≡ done_in turns_made → recv_count w.receiver ≡ done_in (false ∷ turns_made)
  given_back v w turns_made a b more taken = omega (arith, recv_count_of true v a, recv_count_of false w b, more, taken)

  -- the run is over: all are removed
  pub asks_of_all : (took is_stopped : Bool) (w : HighRacer H) (turns_made : List Bool) (old new : List (ℕ × ℕ) → Type 0) → HighAt stands took w → recv_count w.receiver ≡ done_in turns_made
      → Grows old new (asks_of turns_made) → is_stopped ≡ false → w.count ≤ removed_of w.half.process → AsksHigh w.count is_stopped old new (recv_disk w.receiver).bytes
  asks_of_all took is_stopped w turns_made old new a taken asked going all = record {
    turns_made = turns_made;
    asked = subst (λ (b : Bool). Grows old new (asks_in_run b turns_made)) (sym going) asked;
    received = a.received;
    stands = a.recv.stands;
    taken = sym a.recv.count_is ∙ taken;
    most = omega (arith, taken, a.recv.count_is, received_length took w a, few_taken took w a);
    ended = λ e. omega (arith, taken, a.recv.count_is, received_length took w a, few_taken took w a, all, a.is_past.holds.removed);
  }

  -- the gate stopped it
  pub asks_of_stopped : (took : Bool) (w : HighRacer H) (turns_made : List Bool) (old new : List (ℕ × ℕ) → Type 0) → HighAt stands took w → recv_count w.receiver ≡ done_in turns_made
      → Grows old new (asks_of (false ∷ turns_made)) → AsksHigh w.count true old new (recv_disk w.receiver).bytes
  asks_of_stopped took w turns_made old new a taken asked = record {
    turns_made = turns_made;
    asked = asked;
    received = a.received;
    stands = a.recv.stands;
    taken = sym a.recv.count_is ∙ taken;
    most = omega (arith, taken, a.recv.count_is, received_length took w a, few_taken took w a);
    ended = λ e. absurd (cc);
  }
