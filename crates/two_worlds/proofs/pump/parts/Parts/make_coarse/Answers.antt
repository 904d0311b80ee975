use Rattle.std.proofs.Common.{sym, ap, subst}
use Rattle.two_worlds.specs.declared.pump.parts.Parts.{Parts}
use Rattle.two_worlds.specs.Standing.{Stands, bare_of, is_down}
use Rattle.two_worlds.specs.Working.{IsAble}
use Rattle.two_worlds.proofs.Coarse.{parts_are, coarse_able, coarse_stands}
use Rattle.two_worlds.proofs.pump.parts.Parts.make_coarse.Goals as goal

pub returns-clause-disks : goal.returns-clause-disks
returns-clause-disks g c =
    ap (λ (x : Parts _). bare_of x) (parts_are c.args.self.now c.make_coarse-3.new.self _ _ _ _ c.make_coarse.ensures.same c.make_coarse-2.ensures.same c.make_coarse-4.ensures.same c.make_coarse-5.ensures.same)

pub returns-clause-able : goal.returns-clause-able
returns-clause-able g c = λ a.
    let m = g.D.Disk.told in
    let e = c.make_coarse-3 in
    subst (λ (x : Parts _). IsAble m x)
    (sym (parts_are c.args.self.now e.new.self _ _ _ _ c.make_coarse.ensures.same c.make_coarse-2.ensures.same c.make_coarse-4.ensures.same c.make_coarse-5.ensures.same))
    (coarse_able m c.args.self.now e.new.self e.ensures.stands e.ensures.shape a)

pub returns-clause-stands : goal.returns-clause-stands
returns-clause-stands g c = λ p s.
    let m = g.D.Disk.told in
    let e = c.make_coarse-3 in
    subst (λ (x : Parts _). Stands m x p)
    (sym (parts_are c.args.self.now e.new.self _ _ _ _ c.make_coarse.ensures.same c.make_coarse-2.ensures.same c.make_coarse-4.ensures.same c.make_coarse-5.ensures.same))
    (coarse_stands m c.args.self.now e.new.self e.ensures.stands e.ensures.shape p s)

pub returns-clause-down : goal.returns-clause-down
returns-clause-down g c =
    ap (λ (x : Parts _). is_down x) (parts_are c.args.self.now c.make_coarse-3.new.self _ _ _ _ c.make_coarse.ensures.same c.make_coarse-2.ensures.same c.make_coarse-4.ensures.same c.make_coarse-5.ensures.same)
