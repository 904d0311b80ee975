use Rattle.std.proofs.Common.{◌≡◌, Bool, true, false, inl, inr, refl, sym, ◌∙◌, ap}
use Rattle.std.specs.Prelude.{not}
use Rattle.std.proofs.lemmas.Slice.Eq.{bytes_eq-Decides}
use Rattle.pump_wrapper.proofs.Following.{length_steps, no_other}
use Rattle.pump_wrapper.proofs.gathering.Gathering.take_length.Goals as goal

not_false : (b : Bool) → not b ≡ false → b ≡ true
not_false true e = refl
not_false false e = sym e

pub returns-in-Whole-clause-refused : goal.returns-in-Whole-clause-refused
returns-in-Whole-clause-refused c = λ e. no_other c.args.self.now c.args.message.now c.requires.size c.requires.other (inl c.in-Whole.is)

pub returns-then-ne-clause-refused : goal.returns-then-ne-clause-refused
returns-then-ne-clause-refused c = λ e. no_other c.args.self.now c.args.message.now c.requires.size c.requires.other (inr (λ is.
    let same = (bytes_eq-Decides c.args.message.now c.as_slice.result.now).1 (is ∙ sym c.spell_length-expected.ensures ∙ sym c.as_slice.ensures) in
    let differs = sym c.if-ne.true ∙ c.ne.ensures ∙ ap not same in cc))

pub returns-clause-taken : goal.returns-clause-taken
returns-clause-taken c = λ e. length_steps c.args.self.now _ c.args.message.now c.in_default.not-Whole refl c.requires.size c.requires.other
    ((bytes_eq-Decides c.args.message.now c.as_slice.result.now).0 (not_false _ (sym c.ne.ensures ∙ c.if-ne.false)) ∙ c.as_slice.ensures ∙ c.spell_length-expected.ensures)
