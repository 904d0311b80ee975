-- What the two works did once neither was stopped.
use Rattle.std.proofs.Common.{◌≡◌, ℕ, ◌≤◌, Bool, true, false, List, [], ◌∷◌, ◌++◌, length, take, map, Option, Some, None, refl, sym, ap, ◌∙◌, subst, arith, append-nil}
use Rattle.std.proofs.lemmas.List.{length-append, take-append-le, take_all}
use Rattle.pump_frame.specs.declared.frame.Item.{Item}
use Rattle.pump_core.specs.Passage.{Low, High, Shape, shape_of_row, Agrees}
use Rattle.pump_core.specs.Sendings.{Sending}
use Rattle.low_process.specs.declared.values.Phase.{Phase}
use Rattle.low_process.specs.declared.values.Phase.TheVariants.{Idle, Passing, Waiting as Waits, Down}
use Rattle.low_process.specs.Looks.{is_idle_in, hand_of, hand_in, next_of}
use Rattle.high_process.specs.States.{removed_of}
use Rattle.relay_threads.specs.Records.{Made, recorded}
use Rattle.script_reader.specs.Generated.{generated_row}
use Rattle.race.specs.HighRacers.{HighAt, HandAt}
use Rattle.race.specs.LowRacers.{LowRests, with_hand, frames_so_far}
use Rattle.race.specs.LowWorks.{IsLowDone}
use Rattle.race.specs.MadeLooks.{moments_of, frames_of, acks_of}
use Rattle.race.specs.Messages.{race_items, race_frames, messages_in}
use Rattle.race.specs.Race.{AreRaceLooks, IsLowRun, IsHighRun, ArePrinted, payloads}
use Rattle.race.specs.Turns.{turns, payload_in, done_in}
use Rattle.race.specs.declared.high.HighRacer.{HighRacer}
use Rattle.race.specs.declared.low.LowRacer.{LowRacer}
use Rattle.race.proofs.LowAsks.{acks_are}
use Rattle.race.proofs.Derived.{printed, received_is}
use Rattle.race.proofs.RaceItems.{items_count}
use Rattle.race.proofs.Replayable.{only_frames, take_lawful, not_lost}

empty_hand : (ph : Phase) (item : Item) → is_idle_in ph ≡ true → hand_in ph item ≡ None
empty_hand Idle item e = refl
empty_hand (Passing owed) item e = absurd (cc)
empty_hand (Waits n due) item e = refl
empty_hand Down item e = refl

-- a list with as many as the whole has nothing behind it
nothing_behind : (items left whole : List Item) → items ++ left ≡ whole → length whole ≤ length items → items ≡ whole
nothing_behind items [] whole is le = sym (append-nil items) ∙ is
nothing_behind items (x ∷ left) whole is le = absurd (omega (arith, ap length is, length-append items (x ∷ left), le))

module _ {L : Type 0} (stands : L → Low → High → Type 0) (shape : L → Shape) (w : LowRacer L) (made : List Made) (a : LowRests stands shape w made) where
  pub looks_are : AreRaceLooks w.seed made
  looks_are = record {
    are_made = a.are_made;
    words = a.words;
    take_all = a.take_all;
    full = a.full;
    plain = only_frames made a.plain;
    lawful = take_lawful made (only_frames made a.plain);
    kept = not_lost made a.plain;
  }

  -- not more are stored than there are
  pub next_few : next_of w.half.process ≤ w.count
  next_few = omega (arith, a.stored, ap length a.messages, length-append (with_hand a.low.forwarded (hand_of w.half.process)) (messages_in w.script), items_count w.seed w.count)

  -- in the end all are acknowledged
  pub all_acked : IsLowDone w → done_in (acks_of made) ≡ w.count
  all_acked (idle, all) = sym (acks_are stands shape w (messages_in w.script) made a w.count (λ e. omega (arith, all, next_few)) (λ e. (let no = sym e ∙ idle in absurd (cc))))

  pub low_ran : IsLowDone w → IsLowRun w.seed w.count made a.low
  low_ran (idle, all) =
      let items = with_hand a.low.forwarded (hand_of w.half.process) in
      let none : hand_of w.half.process ≡ None = empty_hand w.half.process.phase w.half.process.hand idle in
      let whole : items ≡ race_items w.seed w.count = nothing_behind items (messages_in w.script) (race_items w.seed w.count) a.messages (omega (arith, a.stored, all, items_count w.seed w.count)) in
      record {
        looks = looks_are;
        pairs = a.pairs;
        frames = by_greeted w.is_greeted refl whole all;
        forwarded = sym (ap (with_hand a.low.forwarded) none) ∙ whole;
      }
    where
      by_greeted : (b : Bool) → w.is_greeted ≡ b → with_hand a.low.forwarded (hand_of w.half.process) ≡ race_items w.seed w.count → w.count ≤ next_of w.half.process → frames_of made ≡ race_frames w.seed w.count
      by_greeted true e whole all = a.frames ∙ ap (λ (z : Bool × List Item). frames_so_far z.0 z.1) (λ i. (e i, whole i))
      by_greeted false e whole all = absurd (omega (arith, a.none_before e, a.some, all))

begins : (before : List Item) (n : ℕ) (sends : List Sending) (hand : Option Item) (taken : List Item) (m : ℕ) → HandAt before n sends taken m hand → (rest : List Item) × (taken ≡ before ++ rest)
begins before n sends None taken m h = ([], h.0 ∙ sym (append-nil before))
begins before n sends (Some x) taken m h = (h.given ∷ [], h.taken_is)

map_length : (xs : List Item) → length (map payload_in xs) ≡ length xs
map_length [] = refl
map_length (x ∷ xs) = omega (arith, map_length xs)

module _ {H : Type 0} (stands : H → Low → High → Type 0) (w : HighRacer H) (a : HighAt stands false w) where
  -- as many are removed as there are
  pub removed_all : w.count ≤ removed_of w.half.process → a.past.removed ≡ w.count
  removed_all all = omega (arith, a.few, all, a.is_past.holds.removed)

  pub high_ran : w.count ≤ removed_of w.half.process → IsHighRun w.count w.times.items a.high a.received
  high_ran all =
      let n : a.past.removed ≡ w.count = removed_all all in
      let b = begins a.before a.past.removed a.past.sends a.past.hand a.high.taken w.moment a.hand in
      let len : length a.before ≡ w.count = a.removed_are ∙ n in
      let cut : take w.count a.high.taken ≡ a.before = ap (take w.count) b.1 ∙ take-append-le w.count a.before b.0 (omega (arith, len)) ∙ take_all w.count a.before (omega (arith, len)) in
      record {
        times_are = a.times_are ∙ ap (turns w.times.items) n;
        enough = omega (arith, ap length b.1, length-append a.before b.0, len);
        received_are = a.received_are ∙ ap (map payload_in) (sym cut);
      }

  -- the receiver has as many as are removed
  pub received_count : length a.received ≡ a.past.removed
  received_count = ap length a.received_are ∙ map_length a.before ∙ a.removed_are

-- what is known once both works are over, their ends agree, and they had as many messages
module _ {L H : Type 0} (stands : L → Low → High → Type 0) (shape : L → Shape) (low : LowRacer L) (made : List Made) (a : LowRests stands shape low made)
    (high_stands : H → Low → High → Type 0) (high : HighRacer H) (b : HighAt high_stands false high)
    (done : IsLowDone low) (all : high.count ≤ removed_of high.half.process) (same : low.count ≡ high.count) (agrees : Agrees (shape_of_row generated_row) a.low b.high) where
  low_run : IsLowRun low.seed high.count made a.low
  low_run = subst (λ (n : ℕ). IsLowRun low.seed n made a.low) same (low_ran stands shape low made a done)

  pub printed_by_both : ArePrinted low.seed high.count high.times.items (moments_of made) (recorded made)
  printed_by_both = printed low.seed high.count high.times.items made a.low b.high b.received low_run (high_ran high_stands high b all) agrees

  pub received_by_both : b.received ≡ payloads low.seed high.count
  received_by_both = received_is low.seed high.count high.times.items made a.low b.high b.received low_run (high_ran high_stands high b all) agrees

  pub low_count_is : next_of low.half.process ≡ high.count
  low_count_is = omega (arith, next_few stands shape low made a, done.1, same)

  pub high_count_is : b.past.removed ≡ high.count
  high_count_is = removed_all high_stands high b all

  pub recv_count_is : length b.received ≡ high.count
  recv_count_is = received_count high_stands high b ∙ high_count_is
