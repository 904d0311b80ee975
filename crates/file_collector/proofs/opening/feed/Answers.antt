use Rattle.std.proofs.Common.{rules, ◌≡◌, ℕ, ◌+◌, ◌-◌, ◌≤◌, ◌++◌, List, length, take, drop, sym, ◌∙◌, ap, arith, length-append, length-drop}
use Rattle.std.proofs.lemmas.List.{length-take-le}
use Rattle.disk_model.specs.Disk.{Same}
use Rattle.disk_model.proofs.Run.{goes_on_same}
use Rattle.file_collector.proofs.Feeding.{piece_fed}
use Rattle.file_collector.proofs.Starting.{take_front}
use Rattle.file_collector.proofs.opening.feed.Goals as goal

pub loop-at-preserved : goal.loop-at-preserved
loop-at-preserved g c =
    let m = g.D.Disk.told in
    let (within, size, moved, counts, feeds) = c.loop-at.invariant in
    let e = c.in_ok-read.ensures in
    let n = c.min-piece.result in
    let few : n ≤ 1024 = omega (arith, c.min-piece.ensures) in
    let left : n ≤ c.args.count - c.loop-at.at = omega (arith, c.min-piece.ensures) in
    let le : c.loop-at.at + n ≤ c.args.count = omega (arith, left, within) in
    let room : length (take n c.loop-at.block) ≡ n = length-take-le n c.loop-at.block (omega (arith, few, size)) in
    let rest = drop n c.loop-at.block in
    let same_size : length c.read.new.into ≡ n = search (rules, room) in
    let whole : take n (c.read.new.into ++ rest) ≡ c.read.new.into = ap (λ k. take k (c.read.new.into ++ rest)) (sym same_size) ∙ take_front c.read.new.into rest in (
      le,
      omega (arith, length-append c.read.new.into (drop n c.loop-at.block), length-drop n c.loop-at.block, same_size, size, few),
      goes_on_same m Same c.args.part.now c.loop-at.part c.read.new.self moved e.moves,
      omega (arith, counts, e.answers.counts),
      piece_fed m c.args.part.now c.args.count c.loop-at.at n c.args.assembly.now c.loop-at.assembly c.feed.new.self (take n (c.read.new.into ++ rest)) c.feed.result feeds c.feed.ensures (ap (λ (l : List ℕ). length l) whole ∙ same_size) le
          (λ told. whole ∙ e.bytes told ∙ ap (λ k. take k (drop c.loop-at.at (m.reading c.loop-at.part))) room ∙ ap (λ (l : List ℕ). take n (drop c.loop-at.at l)) (moved.reads told)),
    )
