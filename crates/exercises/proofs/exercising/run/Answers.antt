use Rattle.std.proofs.Common.{◌≡◌, ◌∷◌, ◌∙◌, List, drop, sym, ap, subst}
use Rattle.script_reader.specs.Generated.{generated_row, generated}
use Rattle.script_reader.specs.Heads.{line_with}
use Rattle.script_reader.specs.Openings.{nothing_found, first_past}
use Rattle.script_reader.specs.declared.line.Line.{Line}
use Rattle.script_reader.specs.declared.event.Event.{Event}
use Rattle.two_worlds.specs.Printing.{lines_in}
use Rattle.exercises.specs.Exercising.{HasApplied, LeadsPump, Counts}
use Rattle.exercises.proofs.Exercised.{begins, goes_on, small}
use Rattle.exercises.proofs.exercising.run.Goals as goal

pub lines-init : goal.lines-init
lines-init c =
    let past = first_past generated_row nothing_found in
    let left : c.first_row-row.new.generator ≡ drop 1 (generated c.args.seed c.args.count) = c.first_row-row.ensures.rest ∙ ap (λ (l : List Line). drop 1 l) c.new-generator.ensures in (
      c.in_ok-pump.ensures.ready,
      (
        past,
        c.in_ok-pump.ensures.stands,
        subst (HasApplied c.args.seed c.args.count past c.new-tally.result) (sym left) (begins c.args.seed c.args.count c.new-tally.result c.requires.few c.new-tally.ensures),
      ),
    )

pub line-requires-clause-small : goal.line-requires-clause-small
line-requires-clause-small c =
    let u = c.lines.invariant.1 in
    small c.args.seed c.args.count u.0 c.lines.tally c.lines.generator c.requires.few u.2

pub lines-preserved : goal.lines-preserved
lines-preserved c =
    let u = c.lines.invariant.1 in
    let line : Line = line_with c.next_head.new.body c.in-Some.line in
    let events : List Event = lines_in c.apply.new.events.items in
    let later = c.next_head.new.self in
    let h : HasApplied c.args.seed c.args.count u.0 c.lines.tally (line ∷ later) = subst (HasApplied c.args.seed c.args.count u.0 c.lines.tally) c.in-Some.ensures.next u.2 in
    let led : LeadsPump u.0 line events c.apply.new.pump =
    subst (λ b. LeadsPump u.0 (line_with b c.in-Some.line) events c.apply.new.pump) c.as_slice.ensures.value (c.apply.ensures.leads u.0 u.1) in
    let counts : Counts c.lines.tally c.line.new.self line events =
    subst (λ l. Counts c.lines.tally c.line.new.self line (lines_in l)) c.as_slice-in-Some.ensures.value (c.line.ensures c.next_head.new.body) in
    (c.apply.ensures.ready, (led.0, led.2, goes_on c.args.seed c.args.count u.0 led.0 c.lines.tally c.line.new.self line later events h led.1 counts))
