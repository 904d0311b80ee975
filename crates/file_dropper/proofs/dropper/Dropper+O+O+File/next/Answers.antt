use Rattle.std.proofs.Common.{◌∙◌, true, refl, sym}
use Rattle.file_dropper.specs.declared.work.Work.TheVariants.{Free}
use Rattle.file_dropper.proofs.Steps.{gave, gives_up}
use Rattle.file_dropper.proofs.dropper.Dropper+O+O+File.next.Goals as goal

pub returns-in-GivingUp-clause-behind : goal.returns-in-GivingUp-clause-behind
returns-in-GivingUp-clause-behind g c = λ tells messages stands.
    let d = c.args.self.now in
    let m = g.O.Outbox.told in
    let left = g.O.File.Source.left in
    let work = sym c.replace.ensures.value ∙ c.in-GivingUp.is in
    gave m tells left messages d c.give_up.new.self (record d { work = Free c.in-GivingUp.name; awaited = true }) c.give_up.new.into _ c.give_up.result d.number c.give_up.ensures.value c.give_up.ensures.message refl
    (gives_up m tells left messages d c.in-GivingUp.name c.give_up.new.into work c.requires.not_awaited c.give_up.ensures.abandons stands)
