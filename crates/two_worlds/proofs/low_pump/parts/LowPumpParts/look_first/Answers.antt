use Rattle.std.proofs.Common.{◌≡◌, List, ◌++◌, ◌∙◌, refl, sym, ap, subst}
use Rattle.std.specs.Result.{result_err}
use Rattle.script_reader.specs.declared.event.EventHead.{EventHead}
use Rattle.low_process.specs.Heads.{ask_with, look_with}
use Rattle.pump_frame.specs.declared.row.SessionRow.{SessionRow}
use Rattle.two_worlds.specs.declared.low_pump.parts.LowPumpParts.{LowPumpParts}
use Rattle.two_worlds.specs.Printing.{lines_in, look_prints}
use Rattle.two_worlds.specs.LowPumpParts.{AnsweredBy}
use Rattle.two_worlds.proofs.Told.Ready.{is_between, row_lawful, in_order, has_store}
use Rattle.low_process.specs.Looks.{arrival_of, row_of}
use Rattle.two_worlds.proofs.Told.Ends.{first_ends}
use Rattle.two_worlds.proofs.low_pump.parts.LowPumpParts.look_first.Goals as goal

pub begin_into-ask-requires-clause-between : goal.begin_into-ask-requires-clause-between
begin_into-ask-requires-clause-between c = is_between c.args.self.now c.requires.stands

pub begin_into-ask-requires-clause-order : goal.begin_into-ask-requires-clause-order
begin_into-ask-requires-clause-order c = in_order c.args.self.now c.requires.stands c.args.moment c.requires.order

pub begin_into-ask-requires-clause-store : goal.begin_into-ask-requires-clause-store
begin_into-ask-requires-clause-store c = has_store c.args.self.now c.requires.stands

pub answer-requires-clause-row : goal.answer-requires-clause-row
answer-requires-clause-row c = row_lawful c.args.self.now c.requires.stands

pub returns-clause-ends : goal.returns-clause-ends
returns-clause-ends c = λ p was.
    let b = c.begin_into-ask.ensures in
    let e = c.answer.new.self in
    let g = c.end_look.ensures in
    let mid = c.begin_into-ask.new.self in
    let row = row_of c.args.self.now.process in
    let answered = subst (λ (r : SessionRow). AnsweredBy c.args.self.now.row c.args.told mid c.answer.new.self.process (ask_with r mid c.begin_into-ask.new.head c.begin_into-ask.result) (look_with r c.answer.new.head)) b.row c.answer.ensures.answered in
    let kept = ap (λ (t : LowPumpParts). t.row) c.answer.ensures.rest ∙ sym was.of_row in
    let printed = lines_in c.end_look.new.out.items in
    let from_none = g.prints ∙ ap (λ (l : List EventHead). lines_in l ++ look_prints e.row.id c.args.moment (look_with e.row c.answer.new.head)) c.requires.out in
    let prints = subst (λ (r : SessionRow). printed ≡ look_prints e.row.id c.args.moment (look_with r c.answer.new.head)) kept from_none in
    let stop = c.err.ensures.value ∙ ap result_err g.stop in
    first_ends c.args.self.now e (record e { connection = c.settle.new.self; moment = c.args.moment }) c.begin_into-ask.new.self c.begin_into-ask.new.store c.args.moment c.args.word c.args.told
    (arrival_of c.first-arrival.result) (ask_with row mid c.begin_into-ask.new.head c.begin_into-ask.result) (look_with row c.answer.new.head) b.begins b.hand b.store b.row b.last answered c.answer.ensures.rest
    c.settle.new.self refl printed c.err.result prints stop c.first-arrival.ensures.offered c.settle.ensures p was
