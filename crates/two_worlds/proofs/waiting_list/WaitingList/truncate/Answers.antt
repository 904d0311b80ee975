use Rattle.std.proofs.Common.{◌≡◌, ◌≤◌, ◌+◌, drop, take, length, ap, sym, arith, ◌∙◌}
use Rattle.std.proofs.lemmas.List.{drop-take, take-take, length-drop, length-take}
use Rattle.two_worlds.proofs.waiting_list.WaitingList.truncate.Goals as goal

pub returns-then-count-len : goal.returns-then-count-len
returns-then-count-len c =
    let w = c.self.inside in
    let n = c.args.count in
    let of_view : length (drop w.taken (take w.end w.cells.items)) ≡ c.len.result = ap length c.self.view_is ∙ sym c.len.ensures.value in
    let within : w.taken + n ≤ w.end =
    omega (arith, of_view, length-drop w.taken (take w.end w.cells.items), length-take w.end w.cells.items, c.if-count-len.true, c.self.invariant.0) in
    ap (drop w.taken) (sym (take-take (w.taken + n) w.end w.cells.items within))
    ∙ drop-take w.taken n (take w.end w.cells.items) ∙ ap (take n) c.self.view_is
