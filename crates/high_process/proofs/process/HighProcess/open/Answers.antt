use Rattle.std.proofs.Common.{refl}
use Rattle.high_process.proofs.Looking.{opened_hand}
use Rattle.high_process.proofs.process.HighProcess.open.Goals as goal

pub returns-clause-stands : goal.returns-clause-stands
returns-clause-stands c = record {
  asking = refl;
  holds = record {
    removed = refl;
    hand = opened_hand c.args.hand _ _ _ c.is_some.ensures c.unwrap_or.ensures;
    count = refl;
    sends = record { last = refl; first = refl; later = λ n le. refl };
  };
  last = refl;
}

pub returns-clause-hand : goal.returns-clause-hand
returns-clause-hand c = opened_hand c.args.hand _ _ _ c.is_some.ensures c.unwrap_or.ensures
