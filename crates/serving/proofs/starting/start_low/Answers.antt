use Rattle.std.proofs.Common.{sym, ◌∙◌, subst, Option, ℕ, refl, arith}
use Rattle.pump_frame.specs.declared.frame.Item.{Item}
use Rattle.pump_core.specs.Passage.{ComesNext}
use Rattle.low_process.specs.Ends.{number_offered}
use Rattle.serving.proofs.Dealt.{some_next}
use Rattle.serving.proofs.starting.start_low.Goals as goal

pub returns-clause-begins : goal.returns-clause-begins
returns-clause-begins g c =
    let e = c.open-process.ensures in
    record {
      row_is = e.row;
      next_is = e.next;
      hand_is = e.hand;
      held_is = c.is_some-is_held.ensures;
      counted = record { most = omega arith; some = some_next c.args.next c.args.hand c.requires.hand };
      lives = record { stands = e.first; are_made = tt };
      words_are = c.new.ensures;
      store_is = refl;
      ends_are = refl;
      fits =
          λ l h stands comes. (stands, λ up. subst (λ (x : ℕ × Option Item). ComesNext l.forwarded (number_offered x.0 x.1)) (λ i. (sym e.next i, sym e.hand i)) comes);
    }

pub returns-clause-ready : goal.returns-clause-ready
returns-clause-ready g c =
    let e = c.open-process.ensures in
    let (l, h, stands, comes) = c.requires.ends in
    record {
      between = e.between;
      of = λ up. record { ready = c.requires.ready; count = c.requires.count ∙ sym e.next; row = c.requires.row ∙ sym e.row };
      l = l;
      h = h;
      fitting = (returns-clause-begins g c).fits l h stands comes;
    }
