use Rattle.std.proofs.Common.{◌≡◌, ℕ, ◌+◌, ◌-◌, ◌≤◌, List, [], ◌++◌, length, take, drop, replicate, ap, ◌∙◌, arith, append_assoc, append-nil, length-append}
use Rattle.std.proofs.lemmas.Grind.{common_steps}
use Rattle.std.proofs.lemmas.List.{take_all, drop_all, take-replicate, length-replicate, replicate-append-replicate}
use Rattle.disk_model.specs.Disk.{IsWritten}
use Rattle.stable_buffer.proofs.Making.{kept_first}
use Rattle.stable_buffer.proofs.new_disk.fill_zeros.Goals as goal

-- zeros at the end of zeros
zeros_more : (from at n : ℕ) (whole mid new : List ℕ) → from ≤ at → n ≤ 1024 → length mid ≡ at → mid ≡ whole ++ replicate (at - from) 0
    → IsWritten mid at (take n (replicate 1024 0)) new → new ≡ whole ++ replicate (at + n - from) 0
zeros_more from at n whole mid new le few size zeros holds =
    let bytes : take n (replicate 1024 0) ≡ replicate n 0 = take-replicate n 1024 0 few in
    let none : drop (at + length (take n (replicate 1024 0))) mid ≡ [] = drop_all _ mid (omega (arith, size)) in
    let all : at - from + n ≡ at + n - from = omega arith in
    let kept : take at mid ≡ mid = take_all at mid (omega (arith, size)) in
    holds ∙ (λ i. kept i ++ bytes i ++ none i) ∙ append-nil (mid ++ replicate n 0) ∙ ap (λ xs. xs ++ replicate n 0) zeros
    ∙ append_assoc whole (replicate (at - from) 0) (replicate n 0)
    ∙ ap (λ xs. whole ++ xs) (replicate-append-replicate (at - from) n 0 ∙ ap (λ k. replicate k 0) all)

pub returns-in_err-write-clause-moves : goal.returns-in_err-write-clause-moves
returns-in_err-write-clause-moves g c =
    let old = c.loop-at.invariant in
    kept_first g.D.Disk.told c.args.from c.loop-at.at _ _ _ _ old.starts old.moves c.write.ensures.moves

pub loop-at-preserved : goal.loop-at-preserved
loop-at-preserved g c =
    let m = g.D.Disk.told in
    let old = c.loop-at.invariant in
    let from = c.args.from in
    let at = c.loop-at.at in
    let n = c.min-count.result in
    let few : n ≤ 1024 = omega (arith, c.min-count.ensures) in
    let zeros : m.tells → m.reading c.write.new.disk ≡ m.reading c.args.disk.now ++ replicate (at + n - from) 0 = λ told.
    zeros_more from at n (m.reading c.args.disk.now) (m.reading c.loop-at.disk) (m.reading c.write.new.disk) old.starts few (old.size told) (old.zeros told) (c.in_ok-write.ensures.written told) in
    record {
      starts = omega (arith, old.starts);
      ends = omega (arith, old.ends, c.min-count.ensures, c.loop-at-test.true);
      size = λ told. ap length (zeros told) ∙ length-append (m.reading c.args.disk.now) (replicate (at + n - from) 0)
          ∙ (let a = c.requires.starts told in let b = length-replicate {A = ℕ} (at + n - from) 0 in omega (arith, a, b, old.starts));
      zeros = zeros;
      moves = kept_first m from at _ _ _ _ old.starts old.moves c.write.ensures.moves;
      count = omega (arith, old.count, c.write.ensures.answers.counts);
      calm = λ plan. c.write.ensures.answers.disarmed plan;
      room = λ plan. c.write.ensures.answers.room plan ∙ old.room plan;
    }

pub returns-in_err-write-clause-answers : goal.returns-in_err-write-clause-answers
returns-in_err-write-clause-answers g c = grind (arith, common_steps)

pub returns-clause-answers : goal.returns-clause-answers
returns-clause-answers g c = grind (arith, common_steps)

pub returns-clause-zeros : goal.returns-clause-zeros
returns-clause-zeros g c = grind (arith, common_steps)

pub write-requires : goal.write-requires
write-requires g c = grind (arith, common_steps)
