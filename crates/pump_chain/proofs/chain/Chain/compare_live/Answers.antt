use Rattle.std.proofs.Common.{sym, ◌∙◌, subst, arith}
use Rattle.disk_model.specs.declared.name.Role.TheVariants as roles
use Rattle.two_worlds.specs.declared.pump.Pump.{Pump}
use Rattle.two_worlds.specs.Reads.{ReadsOn}
use Rattle.pump_chain.proofs.Comparing.{agree_more}
use Rattle.pump_chain.proofs.Ending.{first_fails, pump_unlike, second_fails}
use Rattle.pump_chain.proofs.Placing.{state_accepted}
use Rattle.pump_chain.proofs.Reading.{fails_then, reads_then}
use Rattle.pump_chain.proofs.chain.Chain.compare_live.Goals as goal

pub loop-number-preserved : goal.loop-number-preserved
loop-number-preserved g c =
    let m = g.D.Disk.told in
    let was = c.args.self.now in
    let i = c.loop-number.invariant in
    let e = c.in-Ok.ensures in
    let r = c.in-Ok-live.ensures in
    let from = i.from in
    let equal = c.are_equal.ensures.equal c.if-not-are_equal.false in
    let second : ReadsOn m roles.Low was.second c.fetch.new.self.second = subst (λ (x : Pump _ _). ReadsOn m roles.Low was.second x) (sym e.second) i.second in
    record {
      from = omega (arith, from);
      agree = λ told p q h k. agree_more c.args.removed c.loop-number.number q.world.accepted p.world.received (i.agree told p q h k) (sym (r.message told q (second.stands q k)) ∙ sym equal ∙ e.message told p (i.first.stands p h));
      first = reads_then m roles.Recv was.first c.loop-number.self.first c.fetch.new.self.first i.first e.reads;
      second = reads_then m roles.Low was.second c.fetch.new.self.second c.live.new.self second r.reads;
      sender = e.sender ∙ i.sender;
      under_way = e.under_way ∙ i.under_way;
    }

pub returns-then-not-are_equal-clause-unlike : goal.returns-then-not-are_equal-clause-unlike
returns-then-not-are_equal-clause-unlike g c = λ told p q h k.
    let m = g.D.Disk.told in
    let was = c.args.self.now in
    let i = c.loop-number.invariant in
    let e = c.in-Ok.ensures in
    let r = c.in-Ok-live.ensures in
    let test = c.loop-number-test.true in
    let count = c.requires.count in
    let second : ReadsOn m roles.Low was.second c.fetch.new.self.second = subst (λ (x : Pump _ _). ReadsOn m roles.Low was.second x) (sym e.second) i.second in
    let sent = e.message told p (i.first.stands p h) in
    let other = r.message told q (second.stands q k) in
    let has = state_accepted m was.second.state q k in
    record {
      least = i.from;
      within = omega (arith, test, count, has);
      before = i.agree told p q h k;
      unlike = λ same. c.are_equal.ensures.unequal c.if-not-are_equal.true (sent ∙ sym same ∙ sym other);
    }

pub returns-then-not-are_equal-clause-ends : goal.returns-then-not-are_equal-clause-ends
returns-then-not-are_equal-clause-ends g c =
    let m = g.D.Disk.told in
    let was = c.args.self.now in
    let i = c.loop-number.invariant in
    let e = c.in-Ok.ensures in
    let r = c.in-Ok-live.ensures in
    let second : ReadsOn m roles.Low was.second c.fetch.new.self.second = subst (λ (x : Pump _ _). ReadsOn m roles.Low was.second x) (sym e.second) i.second in
    (reads_then m roles.Recv was.first c.loop-number.self.first c.fetch.new.self.first i.first e.reads, reads_then m roles.Low was.second c.fetch.new.self.second c.live.new.self second r.reads)

pub returns-in-Err-clause-unlike : goal.returns-in-Err-clause-unlike
returns-in-Err-clause-unlike g c = λ told p q h k. pump_unlike c.args.removed _ roles.Recv _ q.world.accepted p.world.received c.unread.result c.unread.ensures

pub returns-in-Err-clause-ends : goal.returns-in-Err-clause-ends
returns-in-Err-clause-ends g c =
    let m = g.D.Disk.told in
    let was = c.args.self.now in
    let i = c.loop-number.invariant in
    let e = c.in-Err.ensures in
    let now = c.fetch.new.self in
    let second : ReadsOn m roles.Low was.second now.second = subst (λ (x : Pump _ _). ReadsOn m roles.Low was.second x) (sym e.second) i.second in
    first_fails m roles.Low was.first now.first was.second now.second c.row.result.now c.in-Err.device.faults c.unread.result c.unread.ensures c.row.ensures
    (fails_then m roles.Recv was.first c.loop-number.self.first now.first i.first e.fails) second e.device

pub returns-in-Err-live-clause-unlike : goal.returns-in-Err-live-clause-unlike
returns-in-Err-live-clause-unlike g c = λ told p q h k. pump_unlike c.args.removed _ roles.Low _ q.world.accepted p.world.received c.unread-in-Err-live.result c.unread-in-Err-live.ensures

pub returns-in-Err-live-clause-ends : goal.returns-in-Err-live-clause-ends
returns-in-Err-live-clause-ends g c =
    let m = g.D.Disk.told in
    let was = c.args.self.now in
    let i = c.loop-number.invariant in
    let read = c.in-Ok.ensures in
    let e = c.in-Err-live.ensures in
    let mid = c.fetch.new.self in
    let now = c.live.new.self in
    let second : ReadsOn m roles.Low was.second mid.second = subst (λ (x : Pump _ _). ReadsOn m roles.Low was.second x) (sym read.second) i.second in
    second_fails m roles.Low was.first mid.first was.second now c.row-in-Err-live.result.now c.in-Err-live.device.faults c.unread-in-Err-live.result c.unread-in-Err-live.ensures c.row-in-Err-live.ensures
    (reads_then m roles.Recv was.first c.loop-number.self.first mid.first i.first read.reads) (fails_then m roles.Low was.second mid.second now second e.fails) e.device
