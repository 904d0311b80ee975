use Rattle.std.proofs.Common.{sym, ◌∙◌}
use Rattle.two_worlds.proofs.Arriving.RawBytes.{push_fits, push_full}
use Rattle.two_worlds.proofs.waiting_list.WaitingList.hold.Goals as goal

pub returns-then-len-lt64 : goal.returns-then-len-lt64
returns-then-len-lt64 c = c.push.ensures ∙ sym (push_fits c.args.self.now c.args.next c.len.result c.len.ensures.value c.if-len-lt64.true)

pub returns-else-len-lt64 : goal.returns-else-len-lt64
returns-else-len-lt64 c = sym (push_full c.args.self.now c.args.next c.len.result c.len.ensures.value c.if-len-lt64.false c.len.ensures.fits)
