use Rattle.std.proofs.Common.{ℕ, ◌+◌, ◌≤◌, sym, subst, ◌∙◌}
use Rattle.crossbeam_queue.specs.Passes.{view}
use Rattle.crossbeam_utils.specs.Seq.{cell_view}
use Rattle.passage.proofs.Joins.{ties_fit, three}
use Rattle.passage.proofs.queue_passage.QueuePassage.rejoin.Goals as goal

pub meet_in_high-requires-clause-told : goal.meet_in_high-requires-clause-told
meet_in_high-requires-clause-told g c = c.requires.high.2.is.high_cell ∙ sym (three _ _ _ _ _ _ c.requires.place).2

pub meet_in_low-requires-clause-sought : goal.meet_in_low-requires-clause-sought
meet_in_low-requires-clause-sought g c = c.requires.high.2.is.low_cell ∙ sym (three _ _ _ _ _ _ c.requires.place).1

pub returns-clause-lawful : goal.returns-clause-lawful
returns-clause-lawful g c l h a b =
    let low = c.args.low in let high = c.args.high in
    ties_fit (view low.sent) (view high.popped) (cell_view high.told) (cell_view low.read) (cell_view low.told) (cell_view high.sought) c.meet_in_queue.ensures.0 l h low.places
    c.meet_in_queue.ensures.1 c.meet_in_high.ensures c.meet_in_low.ensures
    (b.is.tells ∙ b.is.count) (a.0.tells ∙ a.0.count) a.0.room (subst (λ (n : ℕ). n ≤ (cell_view low.read).found + low.places) a.0.count a.0.held) a.1 b.taken b.times b.taken_before b.tries
