-- The high half of a session, ready for a look.
use Rattle.disk_model.specs.Disk.{Meaning}
use Rattle.pump_core.specs.Passage.{Low, High}
use Rattle.high_process.specs.declared.half.HighHalf.{HighHalf}
use Rattle.high_process.specs.Ready.{Ready}

-- its process, its store and its end are in step
abbrev pub IsReady : {D H : Type 0} → Meaning D → (H → Low → High → Type 0) → HighHalf D H → Type 0
IsReady m stands half = Ready m half.process half.store (stands half.ends)
