-- How the replay of a script of two pumps in a row ends, by its status.
use Rattle.std.specs.Prelude.{◌≡◌, ◌⊎◌, ℕ, List, [], Option}
use Rattle.std.specs.Io.KnownBytes.{Appends}
use Rattle.chain_replay.specs.Ends.{EndsChain}
use Rattle.chain_replay.specs.Opened.{LeavesAll, shelved}
use Rattle.disk_model.specs.declared.name.Role.{Role}
use Rattle.script_replay.specs.Ends.{end_status}
use Rattle.script_replay.specs.Shelves.{Places}
use Rattle.script_replay.specs.declared.ended.Ended.{Ended}

-- it ends so, and that has this status, where `fails` says which disk failed; or memory was wanting before the script
-- was read: nothing was written, and no disk is touched
abbrev pub EndsChainWith : ℕ → (before after : Places) → (fails : ℕ → Role → Type 0)
    → (all left old new : Option (List ℕ)) → (was now : ℕ) → Type 0
EndsChainWith status before after fails all left old new was now =
    ((ended : Ended) × (end_status ended ≡ status)
    × EndsChain (shelved before after fails) all left old new was now ended)
    ⊎ ((status ≡ 1) × LeavesAll before after × Appends old new [])
