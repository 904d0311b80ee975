use Rattle.std.proofs.Common.{ℕ, List, subst, append-nil}
use Rattle.pump_core.specs.Replies.{Sent, LowReplies}
use Rattle.pump_audit.specs.Records.{Record, history_of}
use Rattle.pump_audit.specs.Verdicts.{IsClean}
use Rattle.pump_audit.specs.declared.compared.Compared.TheVariants.{Agree}
use Rattle.pump_audit.specs.Agreeing.{side_of}
use Rattle.pump_audit.specs.Comparing.{SideTold, SidesAre}
use Rattle.pump_audit.proofs.AgreeLaws.{same_replies, are_pair, is_life}
use Rattle.pump_audit.proofs.OnceLaws.{pair_once}
use Rattle.pump_audit.proofs.laws.records_that_agree_reply_alike.Goals as goal

all_told : (bytes : List ℕ) (r : Record) → IsClean bytes r → LowReplies r.row (history_of r) r.comments
all_told bytes r clean = subst (λ (ts : List Sent). LowReplies r.row (history_of r) ts) (append-nil r.comments) clean.whole.told

pub returns-clause-replies : goal.returns-clause-replies
returns-clause-replies c xs ys r q items h k agree ts us a b = same_replies xs ys r q h k agree.0 agree.1 ts us a b

pub returns-clause-comments : goal.returns-clause-comments
returns-clause-comments c xs ys r q items h k compared =
    let p = pair_once _ _ _ _ _ compared.2 (are_pair xs ys r q (is_life xs r h.whole) (is_life ys q k.whole)) in
    let agree : SidesAre (side_of r) (side_of q) (Agree items) = subst (λ (s : SideTold × SideTold). SidesAre s.0 s.1 (Agree items)) (λ i. (p.0 i, p.1 i)) compared.3 in
    same_replies xs ys r q (is_life xs r h.whole) (is_life ys q k.whole) agree.0 agree.1 r.comments q.comments (all_told xs r h) (all_told ys q k)
