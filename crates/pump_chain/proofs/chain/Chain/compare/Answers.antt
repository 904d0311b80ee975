use Rattle.std.proofs.Common.{◌≡◌, ℕ, ◌≤◌, inl, inr, length, refl, ap, subst, arith}
use Rattle.disk_model.specs.declared.name.Role.TheVariants as roles
use Rattle.pump_chain.specs.Comparing.{Agree}
use Rattle.pump_chain.proofs.Comparing.{agree_longer, both_prefix, prefix_short}
use Rattle.pump_chain.proofs.Crashing.{pump_lawful}
use Rattle.pump_chain.proofs.Ending.{ends_then, read_both, read_on, unlinked_by, unread}
use Rattle.pump_chain.proofs.chain.Chain.compare.Goals as goal

pub returns-then-accepted-received-clause-unlinked : goal.returns-then-accepted-received-clause-unlinked
returns-then-accepted-received-clause-unlinked g c = λ told p q h k other.
    let accepted = ap (λ (n : ℕ × ℕ × ℕ). n.0) (c.counts-accepted.ensures.stands q k) in
    let received = ap (λ (n : ℕ × ℕ × ℕ). n.2) (c.counts-received.ensures.stands p h) in
    (accepted, received, c.if-accepted-received.true)

pub returns-then-accepted-received-clause-ends : goal.returns-then-accepted-received-clause-ends
returns-then-accepted-received-clause-ends g c = (unread g.D.Disk.told c.args.self.now.first, unread g.D.Disk.told c.args.self.now.second)

pub returns-in-Err-clause-unlinked : goal.returns-in-Err-clause-unlinked
returns-in-Err-clause-unlinked g c = λ told p q h k other.
    let was = c.args.self.now in
    let accepted = ap (λ (n : ℕ × ℕ × ℕ). n.0) (c.counts-accepted.ensures.stands q k) in
    let received = ap (λ (n : ℕ × ℕ × ℕ). n.2) (c.counts-received.ensures.stands p h) in
    let test = c.if-accepted-received.false in
    unlinked_by g.D.Disk.told roles.Recv was.first c.compare_taken.new.self.first was.second c.compare_taken.new.self.second 0 q.world.accepted p.world.received
    (omega (arith, accepted, received, test)) (λ at least small. absurd (omega (arith, small))) c.in-Err.why c.in-Err.ensures.ends (c.in-Err.ensures.unlike told p q h k) other

pub returns-in-Err-clause-ends : goal.returns-in-Err-clause-ends
returns-in-Err-clause-ends g c =
    let m = g.D.Disk.told in
    let was = c.args.self.now in
    let now = c.compare_taken.new.self in
    ends_then m roles.Recv (inr refl) was.first was.first now.first was.second was.second now.second (unread m was.first) (unread m was.second) c.in-Err.why c.in-Err.ensures.ends

pub returns-in-Ok-compare_live-clause-stands : goal.returns-in-Ok-compare_live-clause-stands
returns-in-Ok-compare_live-clause-stands g c =
    let taken = c.in-Ok.ensures in
    let live = c.in-Ok-compare_live.ensures in
    (λ p h. live.first.stands p (taken.first.stands p h), λ q k. live.second.stands q (taken.second.stands q k))

pub returns-in-Ok-compare_live-clause-read : goal.returns-in-Ok-compare_live-clause-read
returns-in-Ok-compare_live-clause-read g c =
    let m = g.D.Disk.told in
    let was = c.args.self.now in
    let mid = c.compare_taken.new.self in
    let now = c.compare_live.new.self in
    let taken = c.in-Ok.ensures in
    let live = c.in-Ok-compare_live.ensures in
    (read_both m was.first mid.first now.first roles.Recv roles.Recv taken.first live.first, read_both m was.second mid.second now.second roles.Recv roles.Low taken.second live.second)

pub returns-in-Ok-compare_live-clause-linked : goal.returns-in-Ok-compare_live-clause-linked
returns-in-Ok-compare_live-clause-linked g c = λ told p q h k.
    let e = c.counts-accepted.ensures.stands q k in
    let accepted = ap (λ (n : ℕ × ℕ × ℕ). n.0) e in
    let taken = ap (λ (n : ℕ × ℕ × ℕ). n.2) e in
    let received = ap (λ (n : ℕ × ℕ × ℕ). n.2) (c.counts-received.ensures.stands p h) in
    let test = c.if-accepted-received.false in
    let few : length q.world.accepted ≤ length p.world.received = omega (arith, accepted, received, test) in
    let lawful = pump_lawful g.D.Disk.told c.args.self.now.second q k in
    let short = prefix_short q.world.received q.world.accepted lawful.delivered.prefix in
    let least = c.min.ensures in
    let all : c.min.result ≡ length q.world.received = omega (arith, accepted, taken, least, short) in
    let live = c.in-Ok-compare_live.ensures.agree told p q (c.in-Ok.ensures.first.stands p h) (c.in-Ok.ensures.second.stands q k) in
    both_prefix q.world.received q.world.accepted p.world.received q.world.removed lawful.delivered.prefix lawful.delivered.removed few
    (subst (λ (n : ℕ). Agree 0 n q.world.received p.world.received) all (c.in-Ok.ensures.agree told p q h k))
    (subst (λ (n : ℕ × ℕ × ℕ). Agree n.1 n.0 q.world.accepted p.world.received) e live)

pub returns-in-Err-compare_live-clause-unlinked : goal.returns-in-Err-compare_live-clause-unlinked
returns-in-Err-compare_live-clause-unlinked g c = λ told p q h k other.
    let m = g.D.Disk.told in
    let mid = c.compare_taken.new.self in
    let now = c.compare_live.new.self in
    let e = c.counts-accepted.ensures.stands q k in
    let accepted = ap (λ (n : ℕ × ℕ × ℕ). n.0) e in
    let removed = ap (λ (n : ℕ × ℕ × ℕ). n.1) e in
    let taken = ap (λ (n : ℕ × ℕ × ℕ). n.2) e in
    let received = ap (λ (n : ℕ × ℕ × ℕ). n.2) (c.counts-received.ensures.stands p h) in
    let test = c.if-accepted-received.false in
    let lawful = pump_lawful m c.args.self.now.second q k in
    let short = prefix_short q.world.received q.world.accepted lawful.delivered.prefix in
    let behind = lawful.delivered.removed in
    let least = c.min.ensures in
    let agree = c.in-Ok.ensures.agree told p q h k in
    let mark = c.counts-accepted.result.1 in
    let before = agree_longer q.world.received q.world.accepted p.world.received mark lawful.delivered.prefix (omega (arith, removed, behind))
    (λ at from small. agree at from (omega (arith, small, removed, behind, accepted, taken, least, short))) in
    unlinked_by m roles.Low mid.first now.first mid.second now.second mark q.world.accepted p.world.received (omega (arith, accepted, received, test)) before c.in-Err-compare_live.why c.in-Err-compare_live.ensures.ends
    (c.in-Err-compare_live.ensures.unlike told p q (c.in-Ok.ensures.first.stands p h) (c.in-Ok.ensures.second.stands q k)) other

pub returns-in-Err-compare_live-clause-ends : goal.returns-in-Err-compare_live-clause-ends
returns-in-Err-compare_live-clause-ends g c =
    let m = g.D.Disk.told in
    let was = c.args.self.now in
    let mid = c.compare_taken.new.self in
    let now = c.compare_live.new.self in
    ends_then m roles.Low (inl refl) was.first mid.first now.first was.second mid.second now.second (read_on m was.first mid.first roles.Recv c.in-Ok.ensures.first) (read_on m was.second mid.second roles.Recv c.in-Ok.ensures.second)
    c.in-Err-compare_live.why c.in-Err-compare_live.ensures.ends
