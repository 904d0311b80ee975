-- The low half of a session, ready for a look.
use Rattle.disk_model.specs.Disk.{Meaning}
use Rattle.pump_core.specs.Passage.{Low, High}
use Rattle.low_process.specs.declared.half.LowHalf.{LowHalf}
use Rattle.low_process.specs.Ready.{Ready}

-- its process, its store and its end are in step
abbrev pub IsReady : {D L : Type 0} → Meaning D → (L → Low → High → Type 0) → LowHalf D L → Type 0
IsReady m stands half = Ready m half.process half.store (stands half.ends)
