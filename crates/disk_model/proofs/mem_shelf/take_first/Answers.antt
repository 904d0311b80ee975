use Rattle.std.proofs.Common.{rules, ◌≡◌, sym, ◌∙◌, ap, None, Some, position}
use Rattle.std.proofs.lemmas.List.Quantifiers.{position-Some}
use Rattle.disk_model.specs.MemShelf.{has_name}
use Rattle.disk_model.proofs.Entries.{none_at, some_at}
use Rattle.disk_model.proofs.mem_shelf.take_first.Goals as goal

pub returns-in_err-place-clause-disk : goal.returns-in_err-place-clause-disk
returns-in_err-place-clause-disk g c =
    let result : c.place_of.result ≡ None = search rules in
    let none = none_at c.args.name c.args.disks.now.items (ap (position (has_name c.args.name)) (sym c.deref.ensures.value) ∙ sym c.place_of.ensures ∙ result) in
    search (rules, none.0)

pub returns-in_err-place-clause-rest : goal.returns-in_err-place-clause-rest
returns-in_err-place-clause-rest g c =
    let result : c.place_of.result ≡ None = search rules in
    sym (none_at c.args.name c.args.disks.now.items (ap (position (has_name c.args.name)) (sym c.deref.ensures.value) ∙ sym c.place_of.ensures ∙ result)).1

pub returns-clause-disk : goal.returns-clause-disk
returns-clause-disk g c =
    let x = c.remove.result in
    let result : c.place_of.result ≡ Some c.in_ok-place.place = search rules in
    let at = position-Some (has_name c.args.name) c.args.disks.now.items c.in_ok-place.place x (ap (position (has_name c.args.name)) (sym c.deref.ensures.value) ∙ sym c.place_of.ensures ∙ result) in
    let found = some_at c.args.name c.args.disks.now.items c.in_ok-place.place x at.0 at.1 at.2 in
    search (rules, found.0)

pub returns-clause-rest : goal.returns-clause-rest
returns-clause-rest g c =
    let x = c.remove.result in
    let result : c.place_of.result ≡ Some c.in_ok-place.place = search rules in
    let at = position-Some (has_name c.args.name) c.args.disks.now.items c.in_ok-place.place x (ap (position (has_name c.args.name)) (sym c.deref.ensures.value) ∙ sym c.place_of.ensures ∙ result) in
    let found = some_at c.args.name c.args.disks.now.items c.in_ok-place.place x at.0 at.1 at.2 in
    search (rules, found.1)
