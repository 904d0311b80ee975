-- The lines that open a session's disks again.
use Rattle.std.specs.Prelude.{◌≡◌, ℕ, false, List, [], ◌∷◌, length, is_some, Some, None}
use Rattle.pump_frame.specs.declared.row.SessionRow.{SessionRow}
use Rattle.pump_core.specs.declared.event.Event.TheVariants.{Crash}
use Rattle.pump_core.specs.Events.{Happens}
use Rattle.script_reader.specs.declared.event.Event.{Event}
use Rattle.script_reader.specs.declared.event.Event.TheVariants.{Restart, Attach}
use Rattle.script_reader.specs.Past.{Past}
use Rattle.script_reader.specs.Openings.{restarted}
use Rattle.script_reader.specs.Highs.{IsAttach}

-- both processes are opened again from their disks at m. Nothing is unfinished between two lines, so it is
-- all one what the crash keeps
abbrev pub IsRestart : SessionRow → Past → ℕ → Past → List Event → Type 0
IsRestart row p m q printed =
    Happens p.world (Crash (Some (false, false)) None) q.world × (q ≡ restarted p q.world m)
    × (printed ≡ Restart row.id m (length q.world.accepted) q.world.removed (is_some q.world.low_hand) ∷ [])

-- the past when the receiver was opened again from its disk: a message that waited there is lost
abbrev pub IsReopened : Past → Past → Type 0
IsReopened p q = Happens p.world (Crash None (Some false)) q.world × (q ≡ record p { world = q.world })

-- the receiver is opened again at m, and attaches with its count
abbrev pub IsReceiverRestart : SessionRow → Past → ℕ → Past → List Event → Type 0
IsReceiverRestart row p m q printed =
    (mid : Past) × IsReopened p mid
    × ((more : List Event) × IsAttach row mid m (length mid.world.received) q more
    × (printed ≡ Attach row.id m (length mid.world.received) ∷ more))
