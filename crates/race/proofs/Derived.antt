-- From what the two works did, and what ties their ends, follows what a race prints and leaves.
use Rattle.std.proofs.Common.{◌≡◌, ℕ, ◌≤◌, List, ◌++◌, length, take, map, sym, ap, ◌∙◌, subst, arith}
use Rattle.std.specs.List.{All}
use Rattle.std.proofs.lemmas.List.{take-append-le, take_all}
use Rattle.pump_core.specs.Passage.{Low, High, shape_of_row, Agrees, IsAverage, NeverFall}
use Rattle.relay_threads.specs.PairsRead.{pairs_of}
use Rattle.relay_threads.specs.Records.{Made, recorded, made_of}
use Rattle.relay_threads.proofs.Kept.{thin_of}
use Rattle.script_reader.specs.Generated.{generated_row}
use Rattle.race.specs.Messages.{race_opening, race_items}
use Rattle.race.specs.MadeLooks.{moments_of}
use Rattle.race.specs.Race.{IsLowRun, IsHighRun, ArePrinted, payloads}
use Rattle.race.specs.Turns.{payload_in}
use Rattle.race.proofs.RaceItems.{items_count}
use Rattle.race.proofs.Printing.{take_all_kept, frames_kept, pairs_kept, full_kept, numbers_fall, own}

module _ (seed count : ℕ) (times : List ℕ) (made : List Made) (low : Low) (high : High) (received : List (List ℕ))
    (l : IsLowRun seed count made low) (h : IsHighRun count times high received) (a : Agrees (shape_of_row generated_row) low high) where
  shown_pairs : pairs_of (made_of (recorded made)) ≡ low.pairs
  shown_pairs = pairs_kept generated_row race_opening made l.looks.are_made ∙ sym l.pairs

  pub printed : ArePrinted seed count times (moments_of made) (recorded made)
  printed = record {
    are_made = (thin_of generated_row race_opening made l.looks.are_made).are_made;
    take_all = take_all_kept made l.looks.take_all;
    numbers = numbers_fall made;
    own = own seed made l.looks.words;
    full = full_kept generated_row race_opening 6 made l.looks.are_made l.looks.full;
    frames = frames_kept made l.looks.take_all ∙ l.frames;
    averages = subst (λ (p : List ℕ × List (ℕ × ℕ)). All (IsAverage (shape_of_row generated_row) p.0) p.1) (λ i. (h.times_are i, sym shown_pairs i)) a.averages;
    never_fall = subst NeverFall (sym shown_pairs) a.never_fall;
  }

  -- what was taken up is all that was forwarded
  taken_is : take count high.taken ≡ race_items seed count
  taken_is =
      let whole : race_items seed count ≡ high.taken ++ a.held.0 = sym (l.forwarded) ∙ a.held.1 in
      let few : count ≤ length high.taken = h.enough in
      sym (take-append-le count high.taken a.held.0 few) ∙ ap (take count) (sym whole) ∙ take_all count (race_items seed count) (omega (arith, items_count seed count))

  pub received_is : received ≡ payloads seed count
  received_is = h.received_are ∙ ap (map payload_in) taken_is
