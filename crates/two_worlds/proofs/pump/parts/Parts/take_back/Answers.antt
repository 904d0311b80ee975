use Rattle.std.proofs.Common.{◌≡◌, ◌≤◌, ℕ, Bool, true, false, Option, Some, [], sym, ap, ◌∙◌, subst}
use Rattle.disk_model.specs.declared.name.Role.TheVariants as roles
use Rattle.high_process.specs.States.{task_at}
use Rattle.high_process.specs.declared.values.HighFault.{HighFault}
use Rattle.high_process.specs.declared.values.Task.TheVariants.{Refuse}
use Rattle.pump_frame.specs.declared.frame.Kind.TheVariants.{Taken}
use Rattle.script_reader.specs.Past.{Past}
use Rattle.script_reader.specs.Highs.{IsReturn, place}
use Rattle.script_reader.specs.Breaks.{IsUnremoved}
use Rattle.two_worlds.specs.Doing.{DoesFrom, NeverOverfills, LeavesAlone}
use Rattle.two_worlds.specs.Private.HighLooks.{ComesBack, LeadsWith, BreaksWith, frame_when}
use Rattle.two_worlds.specs.Private.Serving.{DisksServe}
use Rattle.two_worlds.specs.Standing.{Stands, bare_of}
use Rattle.two_worlds.specs.Working.{IsAble}
use Rattle.two_worlds.specs.declared.pump.parts.Parts.{Parts}
use Rattle.two_worlds.proofs.Lines.DoesMore.{does_more}
use Rattle.two_worlds.proofs.High.Returning.{numbered, stands_numbered, able_numbered, comes_numbered, refuses_number}
use Rattle.two_worlds.specs.Printing.{lines_in}
use Rattle.two_worlds.proofs.pump.parts.Parts.take_back.Goals as goal

pub look_with-requires-clause-able : goal.look_with-requires-clause-able
look_with-requires-clause-able g c =
    subst (λ (x : Parts _). IsAble g.D.Disk.told x) (sym c.number_frame.ensures) (able_numbered g.D.Disk.told c.args.self.now Taken c.number_back-number.result c.requires.able)

pub look_with-requires-clause-order : goal.look_with-requires-clause-order
look_with-requires-clause-order g c = subst (λ (x : Parts _). x.moment ≤ c.args.moment) (sym c.number_frame.ensures) c.requires.order

pub look_with-requires-clause-back : goal.look_with-requires-clause-back
look_with-requires-clause-back g c = λ p s.
    let m = g.D.Disk.told in
    let n = c.number_back-number.result in
    let k = place p.world.returned c.args.back in
    let stands = subst (λ (x : Parts _). Stands m x p) c.number_frame.ensures s in (
      false,
      Some k,
      subst (λ (x : Parts _). ComesBack x.row.id p.world false (frame_when true x.taken.value) (Some k)) (sym c.number_frame.ensures)
          (comes_numbered m (numbered c.args.self.now Taken n) p stands c.args.back n c.requires.back c.number_back-number.ensures),
    )

pub returns-clause-step : goal.returns-clause-step
returns-clause-step g c =
    let m = g.D.Disk.told in
    let d = c.look_with.new.self in
    let was = lines_in c.args.out.now.items in
    let is = lines_in c.look_with.new.out.items in
    record {
      does = λ p s.
          let row = c.args.self.now.row in
          let n = c.number_back-number.result in
          let k = place p.world.returned c.args.back in
          let now = numbered c.args.self.now Taken n in
          let stands = stands_numbered m c.args.self.now Taken n p s in
          let does = subst (λ (x : Parts _). (p : Past) → Stands m x p → (attaches : Bool) (back : Option ℕ) → ComesBack x.row.id p.world attaches (frame_when true x.taken.value) back
          → DoesFrom (LeadsWith x.row c.args.moment attaches back) (BreaksWith c.args.moment back) NeverOverfills m x d was is p c.look_with.result) c.number_frame.ensures c.look_with.ensures.does in
          does_more m c.args.self.now now d was is p
          (LeadsWith row c.args.moment false (Some k)) (λ p q printed. IsReturn row p c.args.moment (place p.world.returned c.args.back) q printed)
          (BreaksWith c.args.moment (Some k)) (λ role p q printed. (role ≡ roles.High) × IsUnremoved p c.args.moment (Some (place p.world.returned c.args.back)) q × (printed ≡ []))
          NeverOverfills c.look_with.result (λ q printed h. h) (λ role q printed h. h) (λ q f. record { low = f.low; high = f.high; recv = f.recv })
          (does p stands false (Some k) (comes_numbered m now p stands c.args.back n c.requires.back c.number_back-number.ensures));
      works = c.look_with.ensures.works;
      serve = subst (λ (x : Parts _). DisksServe m x d c.look_with.result) c.number_frame.ensures c.look_with.ensures.serve;
      row = c.look_with.ensures.row ∙ ap (λ (x : Parts _). x.row) c.number_frame.ensures;
    }

pub returns-clause-ahead : goal.returns-clause-ahead
returns-clause-ahead g c = λ is.
    let was = lines_in c.args.out.now.items in
    let now = lines_in c.look_with.new.out.items in
    let ahead = subst (λ (x : Parts _). (fault : HighFault) → task_at x.high (frame_when true x.taken.value) ≡ Refuse fault → (now ≡ was) × (bare_of c.look_with.new.self ≡ bare_of x)) c.number_frame.ensures c.look_with.ensures.ahead in
    ahead _ (refuses_number g.D.Disk.told c.args.self.now c.args.self.now.row.id c.args.moment c.args.back c.number_back-number.result c.requires.able c.number_back-number.ensures is)

pub returns-clause-low : goal.returns-clause-low
returns-clause-low g c = subst (λ (x : Parts _). LeavesAlone roles.Low x c.look_with.new.self) c.number_frame.ensures c.look_with.ensures.low

pub returns-clause-recv : goal.returns-clause-recv
returns-clause-recv g c = subst (λ (x : Parts _). LeavesAlone roles.Recv x c.look_with.new.self) c.number_frame.ensures c.look_with.ensures.recv
