use Rattle.std.proofs.Common.{[], ◌∷◌, ap, arith, length, length-append}
use Rattle.script_replay.proofs.Listed.{none_end, ends_more, ends_all}
use Rattle.script_replay.proofs.sessions.Sessions.ends.Goals as goal

pub ends-init : goal.ends-init
ends-init g c = (ap length c.new-ends.ensures, λ running h. rw c.new-ends.ensures (none_end g.D.Disk g.D.Disk.told running h))

pub ends-preserved : goal.ends-preserved
ends-preserved g c =
    let i = c.ends.invariant in
    let one = length-append c.ends.ends.items (c.end.result ∷ []) in
    let all = ap length c.push.ensures.items in
    let so = i.0 in (
      omega (arith, one, all, so),
      λ running h. rw c.push.ensures.items (ends_more g.D.Disk.told c.as_slice-session-items.result.now c.ends.session-index c.session-item.result c.ends.ends.items c.end.result c.ends-test.true c.session-item.is i.1 c.end.ensures running h),
    )

pub push-requires : goal.push-requires
push-requires g c =
    let so = c.ends.invariant.0 in
    let low = c.ends-test.true in
    let few = c.requires in
    let same = ap length c.as_slice-session-items.ensures.value in
    omega (arith, so, low, few, same)

pub returns : goal.returns
returns g c = λ running h. ends_all g.D.Disk.told c.as_slice-session-items.result.now c.ends.session-index c.ends.ends.items c.ends-test.false c.ends.invariant.1 running (rw c.as_slice-session-items.ensures.value h)
