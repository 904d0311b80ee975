-- How a replay ends, by its end.
use Rattle.std.specs.Prelude.{ℕ, List, Option}
use Rattle.script_replay.specs.declared.ended.Ended.{Ended}
use Rattle.script_replay.specs.declared.ended.Ended.TheVariants.{Done, Memory, Write, Stopped}
use Rattle.chain_replay.specs.Opened.{Shelved}
use Rattle.chain_replay.specs.Replays.{IsFinished, IsWanting, EndsWith, IsOutput, Wrote, WrotePrefix}

-- the transcript of the whole script was written; or nothing, since memory was wanting where the two pumps were to be
-- joined; or a prefix of an output; or an output whose last line is this fault
abbrev pub EndsChain : Shelved → (all left old new : Option (List ℕ)) → (was now : ℕ) → Ended → Type 0
EndsChain shelf all left old new was now Done = Wrote all old new (IsFinished shelf)
EndsChain shelf all left old new was now Memory = Wrote all old new (IsWanting shelf left)
EndsChain shelf all left old new was now Write = WrotePrefix all old new (IsOutput shelf left was now)
EndsChain shelf all left old new was now (Stopped fault) = Wrote all old new (EndsWith shelf left was now fault)
