use Rattle.std.proofs.Common.{List, subst, append-nil}
use Rattle.pump_core.specs.Replies.{Sent, LowReplies}
use Rattle.pump_audit.specs.Records.{history_of}
use Rattle.pump_audit.proofs.laws.clean_records_tell_all_replies.Goals as goal

pub returns : goal.returns
returns c bytes r clean = subst (λ (ts : List Sent). LowReplies r.row (history_of r) ts) (append-nil r.comments) clean.whole.told
