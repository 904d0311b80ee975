use Rattle.std.proofs.Common.{refl, arith}
use Rattle.script_reader.specs.declared.line.Line.TheVariants.{Look, Told, Step, Gone, High, Return, Done, Restart, ReceiverRestart}
use Rattle.script_reader.specs.Heads.{arriving_with}
use Rattle.script_reader.specs.Spelling.{arriving_fields}
use Rattle.script_reader.proofs.Behind.{fields_put, field_put}
use Rattle.script_reader.proofs.Spellings.{line_put}
use Rattle.script_reader.proofs.line_printing.put_act.Goals as goal

pub returns-in-Look : goal.returns-in-Look
returns-in-Look g c =
    let line = c.in-Look in
    let put = c.put_step.ensures in
    let came = c.put_arriving.ensures in
    rw line.is (line_put (Look c.args.session c.args.moment line.word (arriving_with c.args.body.now line.arrival)) _ _ _ _ refl (fields_put _ _ _ _ _ (arriving_fields (arriving_with c.args.body.now line.arrival)) put.fields came.items) (omega arith) (put.session, put.word, came.typed))

pub returns-in-Told : goal.returns-in-Told
returns-in-Told g c =
    let line = c.in-Told in
    let put = c.put_step-in-Told.ensures in
    let outcome = c.put_outcome.ensures in
    let told = c.put_feedback.ensures in
    let came = c.put_arriving-in-Told.ensures in
    rw line.is (line_put (Told c.args.session c.args.moment line.word line.fault line.feedback (arriving_with c.args.body.now line.arrival)) _ _ _ _ refl (fields_put _ _ _ _ _ (arriving_fields (arriving_with c.args.body.now line.arrival)) (field_put _ _ _ _ _ _ (field_put _ _ _ _ _ _ put.fields outcome.items) told.items) came.items) (omega arith) (put.session, put.word, told.typed, came.typed))

pub returns-in-Step : goal.returns-in-Step
returns-in-Step g c =
    let line = c.in-Step in
    let put = c.put_step-in-Step.ensures in
    rw line.is (line_put (Step c.args.session c.args.moment line.word) _ _ _ _ refl put.fields (omega arith) (put.session, put.word))

pub returns-in-Gone : goal.returns-in-Gone
returns-in-Gone g c =
    let put = c.put_prefix.ensures in
    rw c.in-Gone.is (line_put (Gone c.args.session c.args.moment) _ _ _ _ refl put.fields (omega arith) put.session)

pub returns-in-High : goal.returns-in-High
returns-in-High g c =
    let put = c.put_prefix-in-High.ensures in
    rw c.in-High.is (line_put (High c.args.session c.args.moment) _ _ _ _ refl put.fields (omega arith) put.session)

pub returns-in-Return : goal.returns-in-Return
returns-in-Return g c =
    let line = c.in-Return in
    let put = c.put_triple.ensures in
    rw line.is (line_put (Return c.args.session c.args.moment line.back) _ _ _ _ refl put.fields (omega arith) (put.session, put.number))

pub returns-in-Done : goal.returns-in-Done
returns-in-Done g c =
    let line = c.in-Done in
    let put = c.put_triple-in-Done.ensures in
    let fields = rw c.from.ensures at put.fields in
    rw line.is (line_put (Done c.args.session c.args.moment line.time) _ _ _ _ refl fields (omega arith) put.session)

pub returns-in-Restart : goal.returns-in-Restart
returns-in-Restart g c =
    let put = c.put_prefix-in-Restart.ensures in
    rw c.in-Restart.is (line_put (Restart c.args.session c.args.moment) _ _ _ _ refl put.fields (omega arith) put.session)

pub returns-in-ReceiverRestart : goal.returns-in-ReceiverRestart
returns-in-ReceiverRestart g c =
    let put = c.put_prefix-in-ReceiverRestart.ensures in
    rw c.in-ReceiverRestart.is (line_put (ReceiverRestart c.args.session c.args.moment) _ _ _ _ refl put.fields (omega arith) put.session)
