use Rattle.std.proofs.Common.{rules, ◌≤◌, ◌^◌, [], ap, sym, subst, ◌∙◌}
use Rattle.pump_frame.specs.Averages.{average_of}
use Rattle.relay_ring.proofs.Begins.{ring_begins, pairs_begin}
use Rattle.relay_ring.proofs.ring_passage.RingPassage.new.Goals as goal

pub vacant-requires : goal.vacant-requires
vacant-requires c = ring_begins _ (search rules)

pub of_words-requires : goal.of_words-requires
of_words-requires c =
    let empty = c.average.ensures.average [] c.in_ok-window.ensures.empty ∙ ap (λ a. average_of a []) (c.in_ok-window.ensures.averaging ∙ sym c.averaging.ensures) in
    pairs_begin _ c.first_words.result (subst (λ n. n ≤ 10 ^ 9) empty c.average.ensures.bound) (c.first_words.ensures.pair ∙ empty) c.first_words.ensures.width
