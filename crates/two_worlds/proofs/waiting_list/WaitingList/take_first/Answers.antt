use Rattle.std.proofs.Common.{drop, take, ap, sym, ◌∙◌}
use Rattle.std.proofs.lemmas.List.{drop-drop}
use Rattle.two_worlds.proofs.waiting_list.WaitingList.take_first.Goals as goal

pub returns-else-len-le1 : goal.returns-else-len-le1
returns-else-len-le1 c =
    sym (drop-drop 1 c.self.inside.taken (take c.self.inside.end c.self.inside.cells.items)) ∙ ap (drop 1) c.self.view_is
