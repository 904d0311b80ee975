use Rattle.std.proofs.Common.{List, ℕ, length, drop, Ok, sym, ◌∙◌, ap}
use Rattle.file_messages.specs.Messages.{message_of}
use Rattle.file_messages.specs.Assemblies.{answer}
use Rattle.file_collector.proofs.Gathers.{same_places, same_come, digest_length}
use Rattle.file_collector.proofs.gathering.Gatherer.place.Goals as goal

pub publish-requires-clause-digest : goal.publish-requires-clause-digest
publish-requires-clause-digest g c =
    let state = c.requires.ready.0 in
    let at = c.requires.ready.1 in
    let stepped = c.step.ensures state at.assembly in
    let bytes = c.as_slice-bytes.ensures.value in
    ap (λ (l : List ℕ). length l) (c.behind_kind-in-Whole-Some.ensures ∙ ap (λ (l : List ℕ). drop 1 l) bytes)
    ∙ digest_length state c.args.message.now (ap (λ (l : List ℕ). answer state (message_of l)) (sym bytes) ∙ sym stepped.1 ∙ c.in-Whole-Some.is-0)

pub returns-in-Started-default-clause-places : goal.returns-in-Started-default-clause-places
returns-in-Started-default-clause-places g c = λ state at.
    let mi = g.I.Inbox.told in
    let md = g.I.Disk.Disk.told in
    let stepped = c.step.ensures state at.assembly in
    let bytes = c.as_slice-bytes.ensures.value in
    let is = ap (λ (l : List ℕ). answer state (message_of l)) (sym bytes) ∙ sym stepped.1 ∙ c.in-Started-default.is-0 in
    same_places mi md c.args.number c.args.message.now state c.args.self.now c.step.new.self c.begin.new.self c.begin.result
    (c.begin.ensures.places state c.args.message.now c.args.number (same_come mi md c.args.self.now c.step.new.self state at.come) is)

pub returns-in-Grown-Some-clause-places : goal.returns-in-Grown-Some-clause-places
returns-in-Grown-Some-clause-places g c = λ state at.
    let mi = g.I.Inbox.told in
    let md = g.I.Disk.Disk.told in
    let stepped = c.step.ensures state at.assembly in
    let bytes = c.as_slice-bytes.ensures.value in
    let is = ap (λ (l : List ℕ). answer state (message_of l)) (sym bytes) ∙ sym stepped.1 ∙ c.in-Grown-Some.is-0 in
    same_places mi md c.args.number c.args.message.now state c.args.self.now c.step.new.self c.add.new.self c.add.result
    (c.add.ensures.places state c.args.message.now c.args.number (same_come mi md c.args.self.now c.step.new.self state at.come) is
    (c.behind_kind.ensures ∙ ap (λ (l : List ℕ). drop 1 l) bytes))

pub returns-in-Whole-Some-clause-places : goal.returns-in-Whole-Some-clause-places
returns-in-Whole-Some-clause-places g c = λ state at.
    let mi = g.I.Inbox.told in
    let md = g.I.Disk.Disk.told in
    let stepped = c.step.ensures state at.assembly in
    let bytes = c.as_slice-bytes.ensures.value in
    let is = ap (λ (l : List ℕ). answer state (message_of l)) (sym bytes) ∙ sym stepped.1 ∙ c.in-Whole-Some.is-0 in
    same_places mi md c.args.number c.args.message.now state c.args.self.now c.step.new.self c.publish.new.self c.publish.result
    (c.publish.ensures.places state c.args.message.now (same_come mi md c.args.self.now c.step.new.self state at.come) (sym (c.progress-before.ensures state at.assembly) ∙ c.in-Whole-Some.is-1) is
    (c.behind_kind-in-Whole-Some.ensures ∙ ap (λ (l : List ℕ). drop 1 l) bytes))

pub returns-in-Dropped-Some-clause-places : goal.returns-in-Dropped-Some-clause-places
returns-in-Dropped-Some-clause-places g c = λ state at.
    let mi = g.I.Inbox.told in
    let md = g.I.Disk.Disk.told in
    let stepped = c.step.ensures state at.assembly in
    let bytes = c.as_slice-bytes.ensures.value in
    let is = ap (λ (l : List ℕ). answer state (message_of l)) (sym bytes) ∙ sym stepped.1 ∙ c.in-Dropped-Some.is-0 in
    same_places mi md c.args.number c.args.message.now state c.args.self.now c.step.new.self (record { inbox = c.args.self.now.inbox; part = c.args.self.now.part; assembly = c.step.new.self }) (Ok c.drop_file.result)
    (c.drop_file.ensures.places state c.args.message.now c.args.number (same_come mi md c.args.self.now c.step.new.self state at.come) (sym (c.progress-before.ensures state at.assembly) ∙ c.in-Dropped-Some.is-1) is)
