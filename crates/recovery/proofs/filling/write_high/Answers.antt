use Rattle.std.proofs.Common.{arith, ◌≡◌, ◌∙◌, List, ℕ, sym, subst}
use Rattle.stable_buffer.specs.Making.{marked}
use Rattle.stable_buffer.specs.Stands.{HighStands}
use Rattle.recovery.proofs.Wholes.{none_leaves, whole_leaves, high_whole}
use Rattle.recovery.proofs.filling.write_high.Goals as goal

pub returns-in_err-finish_as-clause-made : goal.returns-in_err-finish_as-clause-made
returns-in_err-finish_as-clause-made g c = λ short start le so_far.
    let m = g.D.Disk.told in
    let row = c.args.to.now in
    let B = c.args.counts.now.removed in
    let d = c.begin_as.new.target in
    let w = m.reading d in
    let done = c.finish_as.ensures.during start (omega (arith, le, c.begin_as.ensures.later)) (none_leaves m (λ x. x ≡ marked w) start d (c.begin_as.ensures.during short start le so_far)) in
    whole_leaves m (HighStands row B) start c.finish_as.new.target (marked w) (λ told. high_whole row B w c.requires.count (c.in_ok-begin_as.ensures.bytes told)) done

pub returns-clause-stands : goal.returns-clause-stands
returns-clause-stands g c = λ told.
    let m = g.D.Disk.told in
    let row = c.args.to.now in
    let B = c.args.counts.now.removed in
    let w = m.reading c.begin_as.new.target in
    subst (λ (z : List ℕ). HighStands row B z) (sym (c.in_ok-finish_as.ensures.bytes told)) (high_whole row B w c.requires.count (c.in_ok-begin_as.ensures.bytes told))

pub returns-clause-bytes : goal.returns-clause-bytes
returns-clause-bytes g c = λ told. c.in_ok-finish_as.ensures.bytes told ∙ c.in_ok-begin_as.ensures.bytes told

pub returns-clause-made : goal.returns-clause-made
returns-clause-made g c = λ short start le so_far.
    let m = g.D.Disk.told in
    let row = c.args.to.now in
    let B = c.args.counts.now.removed in
    let d = c.begin_as.new.target in
    let w = m.reading d in
    let done = c.finish_as.ensures.during start (omega (arith, le, c.begin_as.ensures.later)) (none_leaves m (λ x. x ≡ marked w) start d (c.begin_as.ensures.during short start le so_far)) in
    whole_leaves m (HighStands row B) start c.finish_as.new.target (marked w) (λ told. high_whole row B w c.requires.count (c.in_ok-begin_as.ensures.bytes told)) done

pub returns-in_err-begin_as-clause-made : goal.returns-in_err-begin_as-clause-made
returns-in_err-begin_as-clause-made g c = λ short start le so_far.
    none_leaves g.D.Disk.told (HighStands c.args.to.now c.args.counts.now.removed) start c.begin_as.new.target (c.begin_as.ensures.during short start le so_far)
