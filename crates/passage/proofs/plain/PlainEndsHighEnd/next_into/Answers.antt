use Rattle.std.proofs.Common.{◌≡◌, refl, sym, ap, ◌∙◌}
use Rattle.std.specs.Prelude.{option_copied}
use Rattle.pump_frame.specs.declared.frame.Item.{Item}
use Rattle.passage.proofs.PlainSteps.{gives_copy}
use Rattle.passage.proofs.plain.PlainEndsHighEnd.next_into.Goals as goal

pub returns-clause-step : goal.returns-clause-step
returns-clause-step c l h s =
    let e = c.args.self.now in
    let x : Item = c.in-Some.item.now in
    let copied : c.set.new.self ≡ x.payload = c.set.ensures.value ∙ c.as_slice.ensures.value in
    gives_copy e _ l h refl s x _ c.args.removed c.len.result refl (λ i. record { number = x.number; payload = sym copied i })
    (sym c.front.ensures ∙ ap option_copied c.in-Some.is) c.len.ensures.len c.truncate_front.ensures
