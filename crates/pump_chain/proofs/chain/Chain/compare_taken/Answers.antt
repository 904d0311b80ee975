use Rattle.std.proofs.Common.{sym, ◌∙◌, subst, arith}
use Rattle.disk_model.specs.declared.name.Role.TheVariants as roles
use Rattle.two_worlds.specs.declared.pump.Pump.{Pump}
use Rattle.two_worlds.specs.Pumps.{StandsFor}
use Rattle.two_worlds.specs.Reads.{ReadsOn}
use Rattle.pump_chain.proofs.Comparing.{agree_more, differ_longer}
use Rattle.pump_chain.proofs.Crashing.{pump_lawful}
use Rattle.pump_chain.proofs.Ending.{first_fails, pump_unlike, second_fails}
use Rattle.pump_chain.proofs.Placing.{at_still, state_count}
use Rattle.pump_chain.proofs.Reading.{fails_then, reads_then}
use Rattle.pump_chain.proofs.chain.Chain.compare_taken.Goals as goal

pub received-requires-clause-place : goal.received-requires-clause-place
received-requires-clause-place g c =
    let m = g.D.Disk.told in
    let i = c.loop-number.invariant in
    at_still c.args.self.now.second c.fetch.new.self.second c.requires.second (λ p h. subst (λ (x : Pump _ _). StandsFor m x p) (sym c.in-Ok.ensures.second) (i.second.stands p h)) c.loop-number.at c.loop-number.number i.at

pub loop-number-preserved : goal.loop-number-preserved
loop-number-preserved g c =
    let m = g.D.Disk.told in
    let was = c.args.self.now in
    let i = c.loop-number.invariant in
    let e = c.in-Ok.ensures in
    let r = c.in-Ok-received.ensures in
    let equal = c.are_equal.ensures.equal c.if-not-are_equal.false in
    let second : ReadsOn m roles.Recv was.second c.fetch.new.self.second = subst (λ (x : Pump _ _). ReadsOn m roles.Recv was.second x) (sym e.second) i.second in
    record {
      at = λ told q h. r.next told q (second.stands q h);
      agree = λ told p q h k. agree_more 0 c.loop-number.number q.world.received p.world.received (i.agree told p q h k) (sym (r.message told q (second.stands q k)) ∙ sym equal ∙ e.message told p (i.first.stands p h));
      first = reads_then m roles.Recv was.first c.loop-number.self.first c.fetch.new.self.first i.first e.reads;
      second = reads_then m roles.Recv was.second c.fetch.new.self.second c.received.new.self second r.reads;
      sender = e.sender ∙ i.sender;
      under_way = e.under_way ∙ i.under_way;
    }

pub returns-then-not-are_equal-clause-unlike : goal.returns-then-not-are_equal-clause-unlike
returns-then-not-are_equal-clause-unlike g c = λ told p q h k.
    let m = g.D.Disk.told in
    let was = c.args.self.now in
    let i = c.loop-number.invariant in
    let e = c.in-Ok.ensures in
    let r = c.in-Ok-received.ensures in
    let test = c.loop-number-test.true in
    let count = c.requires.count in
    let second : ReadsOn m roles.Recv was.second c.fetch.new.self.second = subst (λ (x : Pump _ _). ReadsOn m roles.Recv was.second x) (sym e.second) i.second in
    let sent = e.message told p (i.first.stands p h) in
    let other = r.message told q (second.stands q k) in
    let has = state_count m was.second.state q k in
    differ_longer c.loop-number.number q.world.received q.world.accepted p.world.received (pump_lawful m was.second q k).delivered.prefix (record {
      least = omega arith;
      within = omega (arith, test, count, has);
      before = i.agree told p q h k;
      unlike = λ same. c.are_equal.ensures.unequal c.if-not-are_equal.true (sent ∙ sym same ∙ sym other);
    })

pub returns-then-not-are_equal-clause-ends : goal.returns-then-not-are_equal-clause-ends
returns-then-not-are_equal-clause-ends g c =
    let m = g.D.Disk.told in
    let was = c.args.self.now in
    let i = c.loop-number.invariant in
    let e = c.in-Ok.ensures in
    let r = c.in-Ok-received.ensures in
    let second : ReadsOn m roles.Recv was.second c.fetch.new.self.second = subst (λ (x : Pump _ _). ReadsOn m roles.Recv was.second x) (sym e.second) i.second in
    (reads_then m roles.Recv was.first c.loop-number.self.first c.fetch.new.self.first i.first e.reads, reads_then m roles.Recv was.second c.fetch.new.self.second c.received.new.self second r.reads)

pub returns-in-Err-clause-unlike : goal.returns-in-Err-clause-unlike
returns-in-Err-clause-unlike g c = λ told p q h k. pump_unlike 0 _ roles.Recv _ q.world.accepted p.world.received c.unread.result c.unread.ensures

pub returns-in-Err-clause-ends : goal.returns-in-Err-clause-ends
returns-in-Err-clause-ends g c =
    let m = g.D.Disk.told in
    let was = c.args.self.now in
    let i = c.loop-number.invariant in
    let e = c.in-Err.ensures in
    let now = c.fetch.new.self in
    let second : ReadsOn m roles.Recv was.second now.second = subst (λ (x : Pump _ _). ReadsOn m roles.Recv was.second x) (sym e.second) i.second in
    first_fails m roles.Recv was.first now.first was.second now.second c.row.result.now c.in-Err.device.faults c.unread.result c.unread.ensures c.row.ensures
    (fails_then m roles.Recv was.first c.loop-number.self.first now.first i.first e.fails) second e.device

pub returns-in-Err-received-clause-unlike : goal.returns-in-Err-received-clause-unlike
returns-in-Err-received-clause-unlike g c = λ told p q h k. pump_unlike 0 _ roles.Recv _ q.world.accepted p.world.received c.unread-in-Err-received.result c.unread-in-Err-received.ensures

pub returns-in-Err-received-clause-ends : goal.returns-in-Err-received-clause-ends
returns-in-Err-received-clause-ends g c =
    let m = g.D.Disk.told in
    let was = c.args.self.now in
    let i = c.loop-number.invariant in
    let read = c.in-Ok.ensures in
    let e = c.in-Err-received.ensures in
    let mid = c.fetch.new.self in
    let now = c.received.new.self in
    let second : ReadsOn m roles.Recv was.second mid.second = subst (λ (x : Pump _ _). ReadsOn m roles.Recv was.second x) (sym read.second) i.second in
    second_fails m roles.Recv was.first mid.first was.second now c.row-in-Err-received.result.now c.in-Err-received.device.faults c.unread-in-Err-received.result c.unread-in-Err-received.ensures c.row-in-Err-received.ensures
    (reads_then m roles.Recv was.first c.loop-number.self.first mid.first i.first read.reads) (fails_then m roles.Recv was.second mid.second now second e.fails) e.device
