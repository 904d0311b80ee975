use Rattle.std.proofs.Common.{arith}
use Rattle.relay_threads.proofs.ReplyKinds.{reply_frames}
use Rattle.relay_threads.proofs.Scripting.{comment_short}
use Rattle.relay_threads.proofs.record.append_look.Goals as goal

pub returns-clause-len : goal.returns-clause-len
returns-clause-len g c =
    let made = c.args.made.now in
    let short = comment_short c.args.row.now made.moment made.look.reply c.append_line_of.new.into.items c.append_comment.new.into.items (omega arith) (omega arith) c.requires.reply c.append_comment.ensures in
    let line = c.append_line_of.ensures.len in
    omega (arith, short, line)

pub returns-clause-told : goal.returns-clause-told
returns-clause-told g c = reply_frames c.args.row.now.id c.args.made.now.look.reply (omega arith) c.requires.reply
