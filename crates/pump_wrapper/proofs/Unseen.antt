-- Faults that say nothing of the messages, whether or not the source tells its bytes.
use Rattle.std.proofs.Common.{ℕ, List, Option, None, Some, Err}
use Rattle.pump_wrapper.specs.Cutting.{to_come}
use Rattle.pump_wrapper.specs.Comparing.{Compares, ComparesIn}
use Rattle.pump_wrapper.specs.declared.cutter.Cutter.{Cutter}
use Rattle.pump_wrapper.specs.declared.compare.CompareFault.{CompareFault}

pub stops_unseen : (messages : List (List ℕ)) (old new : Cutter) (left rest : Option (List ℕ)) (fault : CompareFault) → ((before after : List (List ℕ)) → ComparesIn messages before after (Err fault)) → Compares messages old new left rest (Err fault)
stops_unseen messages old new None rest fault holds = tt
stops_unseen messages old new (Some xs) None fault holds = tt
stops_unseen messages old new (Some xs) (Some ys) fault holds = holds (to_come old xs) (to_come new ys)
