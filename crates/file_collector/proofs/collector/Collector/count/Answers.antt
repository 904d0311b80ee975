use Rattle.std.proofs.Common.{◌≡◌, ◌++◌, ◌∷◌, [], inl, false, refl, ◌∙◌, ap}
use Rattle.file_messages.specs.Files.{Between, state_after}
use Rattle.file_messages.specs.Assemblies.{progress_of}
use Rattle.file_collector.specs.Held.{held_by}
use Rattle.file_collector.proofs.Turns.{held_is}
use Rattle.file_collector.proofs.Collects.{has_taken, count_fits, part_same_or_none}
use Rattle.file_collector.proofs.collector.Collector.count.Goals as goal

pub returns-in-Ok-clause-counted : goal.returns-in-Ok-clause-counted
returns-in-Ok-clause-counted g c = λ messages message has.
    let mi = g.I.Inbox.told in
    let md = g.I.Disk.Disk.told in
    let s = c.args.self.now in
    let next = state_after Between (messages ++ message ∷ []) in
    let progress : c.progress-progress.result ≡ progress_of next = c.progress-progress.ensures next has.assembly in
    let e = c.in-Ok.ensures in
    has_taken mi md s c.let_go.new.self c.turn.new.register messages message (held_by c.progress-progress.result) has c.let_go.ensures.inbox c.let_go.ensures.assembly
    (c.let_go.ensures.part next has.assembly) e.ready e.settled e.value (ap held_by progress ∙ held_is next) (e.turned next progress)

pub returns-in-Ok-clause-fits : goal.returns-in-Ok-clause-fits
returns-in-Ok-clause-fits g c = λ messages message has.
    let mi = g.I.Inbox.told in
    let md = g.I.Disk.Disk.told in
    let s = c.args.self.now in
    let next = state_after Between (messages ++ message ∷ []) in
    count_fits mi md s (record { gatherer = c.let_go.new.self; register = c.turn.new.register; is_placed = false; is_open = s.is_open; lost = s.lost }) messages message has c.let_go.ensures.inbox
    (part_same_or_none mi md next s.gatherer.part c.let_go.new.self.part (c.let_go.ensures.part next has.assembly)) (c.turn.ensures.moves next (c.progress-progress.ensures next has.assembly))

pub returns-in-Err-clause-fits : goal.returns-in-Err-clause-fits
returns-in-Err-clause-fits g c = λ messages message has.
    let mi = g.I.Inbox.told in
    let md = g.I.Disk.Disk.told in
    let s = c.args.self.now in
    let next = state_after Between (messages ++ message ∷ []) in
    count_fits mi md s (record { gatherer = s.gatherer; register = c.turn.new.register; is_placed = s.is_placed; is_open = false; lost = s.lost }) messages message has refl
    (inl refl) (c.turn.ensures.moves next (c.progress-progress.ensures next has.assembly))
