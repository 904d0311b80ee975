use Rattle.relay_threads.proofs.Kept.{thin_of, same_replies, same_end}
use Rattle.relay_threads.proofs.law.records_are_lives.Goals as goal

pub returns-clause-life : goal.returns-clause-life
returns-clause-life c row o made are = (thin_of row o made are).are_made

pub returns-clause-replies : goal.returns-clause-replies
returns-clause-replies c made = same_replies made

pub returns-clause-end : goal.returns-clause-end
returns-clause-end c row o made parts fewer are all some = same_end row o made parts fewer are all some
