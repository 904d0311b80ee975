use Rattle.std.proofs.Common.{◌≤◌, ℕ, Bool, true, Option, ◌∙◌, sym, ap, subst, arith}
use Rattle.disk_model.specs.declared.name.Role.TheVariants as roles
use Rattle.pump_frame.specs.declared.frame.Kind.TheVariants.{Attach}
use Rattle.script_reader.specs.Past.{Past}
use Rattle.script_reader.specs.declared.event.Event.TheVariants.{Attach as AttachLine}
use Rattle.two_worlds.specs.Doing.{DoesFrom, NeverOverfills, LeavesAlone}
use Rattle.two_worlds.specs.Private.HighLooks.{ComesBack, LeadsWith, BreaksWith, Attaches, BreaksAttaching, frame_when}
use Rattle.two_worlds.specs.Private.Serving.{DisksServe}
use Rattle.two_worlds.specs.Standing.{Stands}
use Rattle.two_worlds.specs.Working.{IsAble}
use Rattle.two_worlds.specs.declared.pump.parts.Parts.{Parts}
use Rattle.two_worlds.proofs.Lines.DoesMore.{does_after}
use Rattle.two_worlds.proofs.High.Returning.{numbered, stands_numbered, able_numbered}
use Rattle.two_worlds.proofs.High.Attaching.{count_is, attach_comes, leads_attaching, breaks_attaching}
use Rattle.two_worlds.specs.Printing.{lines_in}
use Rattle.two_worlds.proofs.pump.parts.Parts.attach.Goals as goal

pub look_with-requires-clause-able : goal.look_with-requires-clause-able
look_with-requires-clause-able g c =
    subst (λ (x : Parts _). IsAble g.D.Disk.told x) (sym c.number_frame.ensures) (able_numbered g.D.Disk.told c.args.self.now Attach c.count-count.result c.requires.able)

pub look_with-requires-clause-back : goal.look_with-requires-clause-back
look_with-requires-clause-back g c = λ p s.
    let m = g.D.Disk.told in
    let n = c.count-count.result in
    let stands = subst (λ (x : Parts _). Stands m x p) c.number_frame.ensures s in
    let comes = attach_comes m (numbered c.args.self.now Attach n) p stands n c.count-count.ensures in
    (true, comes.0, subst (λ (x : Parts _). ComesBack x.row.id p.world true (frame_when true x.taken.value) comes.0) (sym c.number_frame.ensures) comes.1)

pub returns-clause-step : goal.returns-clause-step
returns-clause-step g c =
    let m = g.D.Disk.told in
    let e = c.look_with.new.self in
    let before = lines_in c.put.new.out.items in
    let after = lines_in c.look_with.new.out.items in
    record {
      does = λ p s.
          let d = c.args.self.now in
          let row = d.row in
          let moment = c.args.moment in
          let n = c.count-count.result in
          let now = numbered d Attach n in
          let comes = attach_comes m d p s n c.count-count.ensures in
          let count = count_is m d p s n c.count-count.ensures in
          let last = comes.1.3 in
          let does = subst (λ (x : Parts _). (p : Past) → Stands m x p → (attaches : Bool) (back : Option ℕ) → ComesBack x.row.id p.world attaches (frame_when true x.taken.value) back
          → DoesFrom (LeadsWith x.row moment attaches back) (BreaksWith moment back) NeverOverfills m x e before after p c.look_with.result) c.number_frame.ensures c.look_with.ensures.does in
          does_after m d now e (lines_in c.args.out.now.items) before after (AttachLine row.id moment n) p
          (LeadsWith row moment true comes.0) (Attaches row moment) (BreaksWith moment comes.0) (BreaksAttaching row moment) c.look_with.result c.put.ensures.items
          (λ q more leads. leads_attaching row p moment n comes.0 q more count last leads)
          (λ role q more breaks. breaks_attaching row p moment n comes.0 role q more count last breaks)
          (λ q f. record { low = f.low; high = f.high; recv = f.recv })
          (does p (stands_numbered m d Attach n p s) true comes.0 comes.1);
      works = c.look_with.ensures.works;
      serve = subst (λ (x : Parts _). DisksServe m x e c.look_with.result) c.number_frame.ensures c.look_with.ensures.serve;
      row = c.look_with.ensures.row ∙ ap (λ (x : Parts _). x.row) c.number_frame.ensures;
    }

pub returns-clause-low : goal.returns-clause-low
returns-clause-low g c = subst (λ (x : Parts _). LeavesAlone roles.Low x c.look_with.new.self) c.number_frame.ensures c.look_with.ensures.low

pub returns-clause-recv : goal.returns-clause-recv
returns-clause-recv g c = subst (λ (x : Parts _). LeavesAlone roles.Recv x c.look_with.new.self) c.number_frame.ensures c.look_with.ensures.recv

pub look_with-requires-clause-order : goal.look_with-requires-clause-order
look_with-requires-clause-order g c = subst (λ (x : Parts _). x.moment ≤ c.args.moment) (sym c.number_frame.ensures) c.requires.order

pub look_with-requires-clause-moment : goal.look_with-requires-clause-moment
look_with-requires-clause-moment g c = c.requires.moment

pub look_with-requires-clause-out : goal.look_with-requires-clause-out
look_with-requires-clause-out g c =
    let few = c.put.ensures.few in
    let room = c.requires.out in
    omega (arith, few, room)
