use Rattle.std.proofs.Common.{◌≡◌, ◌∙◌, ◌<◌, ◌∷◌, Some, option_map, length, ap, sym, vec_len, vec_capacity, arith, rules}
use Rattle.disk_model.specs.MemShelf.{under, without, file_of}
use Rattle.disk_model.proofs.Homes.{back, home_back, others_back, fewer_out}
use Rattle.disk_model.proofs.mem_shelf.MemShelfShelf.keep.Goals as goal

pub invariant_of-self : goal.invariant_of-self
invariant_of-self g c =
    let s = c.args.self.now in
    let outs = ap (λ s. s.outs) c.self.view_is in
    let forgot : c.forget.new.outs.items ≡ without c.args.name s.outs = c.forget.ensures ∙ ap (without c.args.name) outs in
    let fewer = fewer_out g.D.Disk.told s c.args.name c.requires in
    let less : length c.forget.new.outs.items < length c.self.inside.outs.items = omega (arith, ap length forgot, ap length outs, fewer) in
    let free : vec_len c.self.inside.disks < vec_capacity c.self.inside.disks = omega (arith, less, c.self.invariant) in
    let len = rw c.unwrap.ensures at c.insert.ensures.len in
    let block = c.insert.ensures.in_place free in
    omega (arith, len, block.1.0, less, c.self.invariant)

pub unwrap-requires : goal.unwrap-requires
unwrap-requires g c =
    let s = c.args.self.now in
    let outs = ap (λ s. s.outs) c.self.view_is in
    let forgot : c.forget.new.outs.items ≡ without c.args.name s.outs = c.forget.ensures ∙ ap (without c.args.name) outs in
    let fewer = fewer_out g.D.Disk.told s c.args.name c.requires in
    let less : length c.forget.new.outs.items < length c.self.inside.outs.items = omega (arith, ap length forgot, ap length outs, fewer) in
    let free : vec_len c.self.inside.disks < vec_capacity c.self.inside.disks = omega (arith, less, c.self.invariant) in
    c.insert.ensures.succeeds free

pub returns-clause-counted : goal.returns-clause-counted
returns-clause-counted g c =
    let s = c.args.self.now in
    let outs = ap (λ s. s.outs) c.self.view_is in
    let found : under c.args.name s.outs ≡ Some c.in-Some.out.now.1 = rw (← outs, ← c.deref.ensures.value) (ap (option_map (λ entry. entry.1)) (sym c.in-Some.ensures)) in
    rw found (search rules)

pub returns-clause-back : goal.returns-clause-back
returns-clause-back g c =
    let s = c.args.self.now in
    let forgot : c.forget.new.outs.items ≡ without c.args.name s.outs = c.forget.ensures ∙ ap (λ s. without c.args.name s.outs) c.self.view_is in
    let put : c.insert.new.self.items ≡ (c.args.name, c.args.disk) ∷ s.disks = rw c.unwrap.ensures at c.insert.ensures.items ∙ ap (λ s. (c.args.name, c.args.disk) ∷ s.disks) c.self.view_is in
    back g.D.Disk.told s c.args.name c.forget.new.outs.items c.insert.new.self.items c.args.disk forgot put

pub returns-clause-others : goal.returns-clause-others
returns-clause-others g c =
    let s = c.args.self.now in
    let forgot : c.forget.new.outs.items ≡ without c.args.name s.outs = c.forget.ensures ∙ ap (λ s. without c.args.name s.outs) c.self.view_is in
    let put : c.insert.new.self.items ≡ (c.args.name, c.args.disk) ∷ s.disks = rw c.unwrap.ensures at c.insert.ensures.items ∙ ap (λ s. (c.args.name, c.args.disk) ∷ s.disks) c.self.view_is in
    others_back g.D.Disk.told s c.args.name c.forget.new.outs.items c.insert.new.self.items c.args.disk forgot put

pub returns-clause-home : goal.returns-clause-home
returns-clause-home g c =
    let s = c.args.self.now in
    let forgot : c.forget.new.outs.items ≡ without c.args.name s.outs = c.forget.ensures ∙ ap (λ s. without c.args.name s.outs) c.self.view_is in
    let put : c.insert.new.self.items ≡ (c.args.name, c.args.disk) ∷ s.disks = rw c.unwrap.ensures at c.insert.ensures.items ∙ ap (λ s. (c.args.name, c.args.disk) ∷ s.disks) c.self.view_is in
    home_back g.D.Disk.told s c.args.name c.forget.new.outs.items c.insert.new.self.items c.args.disk forgot put

pub returns-clause-files : goal.returns-clause-files
returns-clause-files g c = ap (λ s other. file_of other s.files) c.self.view_is

pub returns-clause-later : goal.returns-clause-later
returns-clause-later g c = omega (arith, c.count_when_back-self-inside.ensures.later, ap (λ s. s.disk_faults) c.self.view_is)

pub returns-clause-faults : goal.returns-clause-faults
returns-clause-faults g c = ap (λ s. s.faults) c.self.view_is

pub returns-clause-after : goal.returns-clause-after
returns-clause-after g c =
    let s = c.args.self.now in
    let forgot : c.forget.new.outs.items ≡ without c.args.name s.outs = c.forget.ensures ∙ ap (λ s. without c.args.name s.outs) c.self.view_is in
    let put : c.insert.new.self.items ≡ (c.args.name, c.args.disk) ∷ s.disks = rw c.unwrap.ensures at c.insert.ensures.items ∙ ap (λ s. (c.args.name, c.args.disk) ∷ s.disks) c.self.view_is in
    λ i. record (c.self.view_is i) { disks = put i; outs = forgot i; disk_faults = c.count_when_back-self-inside.result }
