use Rattle.script_reader.proofs.generator.Progress.next.Goals as goal

pub returns-in-Session : goal.returns-in-Session
returns-in-Session c = c.session.ensures c.args.body.now

pub returns-in-Hello : goal.returns-in-Hello
returns-in-Hello c = c.hello.ensures c.args.body.now

pub returns-in-Pass : goal.returns-in-Pass
returns-in-Pass c = c.pass.ensures c.args.body.now

pub returns-in-Take : goal.returns-in-Take
returns-in-Take c = c.take.ensures c.args.body.now

pub returns-in-Taken : goal.returns-in-Taken
returns-in-Taken c = c.taken.ensures c.args.body.now

pub returns-in-Acknowledge : goal.returns-in-Acknowledge
returns-in-Acknowledge c = c.acknowledge.ensures c.args.body.now

pub returns-in-Takings : goal.returns-in-Takings
returns-in-Takings c = c.take_one_of.ensures c.args.body.now
