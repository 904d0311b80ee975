use Rattle.std.proofs.Common.{◌≡◌, ◌+◌, ◌-◌, ◌++◌, ◌≤◌, List, ℕ, length, append-nil, take, drop, ap, ◌∙◌, arith, length-append, length-take}
use Rattle.std.proofs.lemmas.List.{length-take-le}
use borrow.Rule.Slice.PartMut.{put_mid}
use lib.Seq.{paste}
use Rattle.script_reader.proofs.LineEnds.{held_more, Keeps-moved, Keeps-held}
use Rattle.script_reader.proofs.held_lines.HeldLines.fill.Goals as goal

grown_to : (cells moved into : List ℕ) (start end count : ℕ) → moved ≡ paste cells 0 (drop start cells) (end - start) → start ≤ end → end ≤ length cells → count ≤ length into
    → take (end - start + count - 0) (put_mid (end - start) (4096 - (end - start)) moved into) ≡ take (end - start) (drop start cells) ++ take count into
grown_to cells moved into start end count e order fits few =
    let zero : end - start + count - 0 ≡ end - start + count = omega arith in
    rw zero (held_more cells moved into start end count (4096 - (end - start)) e order fits few)

pub returns-in-Ok-clause-fills : goal.returns-in-Ok-clause-fills
returns-in-Ok-clause-fills g c =
    let s = c.self.inside in
    let few : c.in-Ok.count ≤ length c.read.new.into = omega (arith, c.in-Ok.ensures.bound) in
    let grown = grown_to s.cells c.copy_within.new.self c.read.new.into s.start s.end c.in-Ok.count c.copy_within.ensures.after (omega arith) (omega (arith, c.self.told)) few in
    (take c.in-Ok.count c.read.new.into, length-take-le _ _ few, rw (← c.self.view_is) grown, c.in-Ok.ensures.gives)

pub returns-in-Ok-clause-kept : goal.returns-in-Ok-clause-kept
returns-in-Ok-clause-kept g c =
    let s = c.self.inside in
    let grown = grown_to s.cells c.copy_within.new.self c.read.new.into s.start s.end c.in-Ok.count c.copy_within.ensures.after (omega arith) (omega (arith, c.self.told)) (omega (arith, c.in-Ok.ensures.bound)) in
    rw (← c.self.view_is, grown) (Keeps-moved _ _ _ _ c.in-Ok.ensures.bytes.0)

pub returns-in-Ok-clause-same : goal.returns-in-Ok-clause-same
returns-in-Ok-clause-same g c =
    let s = c.self.inside in
    let grown = grown_to s.cells c.copy_within.new.self c.read.new.into s.start s.end c.in-Ok.count c.copy_within.ensures.after (omega arith) (omega (arith, c.self.told)) (omega (arith, c.in-Ok.ensures.bound)) in
    λ none. rw (← c.self.view_is) (grown ∙ ap (λ n. take (s.end - s.start) (drop s.start s.cells) ++ take n c.read.new.into) none ∙ append-nil (take (s.end - s.start) (drop s.start s.cells)))

pub returns-in-Ok-clause-grown : goal.returns-in-Ok-clause-grown
returns-in-Ok-clause-grown g c =
    let s = c.self.inside in
    let few : c.in-Ok.count ≤ length c.read.new.into = omega (arith, c.in-Ok.ensures.bound) in
    let grown = grown_to s.cells c.copy_within.new.self c.read.new.into s.start s.end c.in-Ok.count c.copy_within.ensures.after (omega arith) (omega (arith, c.self.told)) few in
    rw (← c.self.view_is) (ap length grown ∙ length-append _ _ ∙ ap (λ n. length (take (s.end - s.start) (drop s.start s.cells)) + n) (length-take-le _ _ few))

pub returns-in-Ok-clause-room : goal.returns-in-Ok-clause-room
returns-in-Ok-clause-room g c =
    omega (arith, c.in-Ok.ensures.bound, length-take (c.self.inside.end - c.self.inside.start + c.in-Ok.count - 0) (put_mid (c.self.inside.end - c.self.inside.start) (4096 - (c.self.inside.end - c.self.inside.start)) c.copy_within.new.self c.read.new.into))

pub returns-in-Err-clause-room : goal.returns-in-Err-clause-room
returns-in-Err-clause-room g c =
    omega (arith, length-take (c.self.inside.end - c.self.inside.start - 0) (put_mid (c.self.inside.end - c.self.inside.start) (4096 - (c.self.inside.end - c.self.inside.start)) c.copy_within.new.self c.read.new.into))

still_held : (cells moved into : List ℕ) (start end : ℕ) → moved ≡ paste cells 0 (drop start cells) (end - start) → start ≤ end → end ≤ length cells
    → take (end - start - 0) (put_mid (end - start) (4096 - (end - start)) moved into) ≡ take (end - start) (drop start cells)
still_held cells moved into start end e order fits =
    let zero : end - start - 0 ≡ end - start + 0 - 0 = omega arith in
    rw zero (grown_to cells moved into start end 0 e order fits (omega arith) ∙ append-nil (take (end - start) (drop start cells)))

pub returns-in-Err-clause-kept : goal.returns-in-Err-clause-kept
returns-in-Err-clause-kept g c =
    let s = c.self.inside in
    let still = still_held s.cells c.copy_within.new.self c.read.new.into s.start s.end c.copy_within.ensures.after (omega arith) (omega (arith, c.self.told)) in
    rw (← c.self.view_is, still) (Keeps-held (take (s.end - s.start) (drop s.start s.cells)) _ _ c.in-Err.ensures.bytes)

pub returns-in-Err-clause-fills : goal.returns-in-Err-clause-fills
returns-in-Err-clause-fills g c =
    let s = c.self.inside in
    let still = still_held s.cells c.copy_within.new.self c.read.new.into s.start s.end c.copy_within.ensures.after (omega arith) (omega (arith, c.self.told)) in
    (rw (← c.self.view_is) still, c.in-Err.ensures.gives)
