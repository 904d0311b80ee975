use Rattle.folders.proofs.Dashes.{parts_at, some_dash}
use Rattle.folders.proofs.reading.split.Goals as goal

pub returns-in_err-at : goal.returns-in_err-at
returns-in_err-at c prefix back free shape = absurd (some_dash c.args.text.now prefix back c.in_err-at.ensures free shape)

pub returns : goal.returns
returns c prefix back free shape = parts_at c.args.text.now prefix back c.in_ok-at.at c.in_ok-at.ensures free shape
