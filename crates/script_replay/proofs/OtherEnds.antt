-- Ends of a replay that are not another.
use Rattle.std.proofs.Common.{◌≡◌, ℕ, List, Option, inl, inr, sym, ◌∙◌}
use Rattle.script_reader.specs.declared.fault.Fault.{Fault}
use Rattle.script_replay.specs.Runners.{Closes}
use Rattle.script_replay.specs.declared.ended.Ended.{Ended}
use Rattle.script_replay.specs.declared.ended.Ended.TheVariants as ended

pub write_no_memory : ended.Write ≡ ended.Memory → ⊥
write_no_memory e = cc

pub write_no_fault : (fault : Fault) → ended.Write ≡ ended.Stopped fault → ⊥
write_no_fault fault e = cc

pub memory_no_write : ended.Memory ≡ ended.Write → ⊥
memory_no_write e = cc

pub memory_no_fault : (fault : Fault) → ended.Memory ≡ ended.Stopped fault → ⊥
memory_no_fault fault e = cc

pub closed_no_memory : (old new : Option (List ℕ)) (before now : ℕ) (bytes : List ℕ) (fault : Fault) (result : Ended) → Closes old new before now bytes (ended.Stopped fault) result → result ≡ ended.Memory → ⊥
closed_no_memory old new before now bytes fault result c e = elim c [ inl is ↦ (let no = sym is.0 ∙ e in cc) | inr is ↦ (let no = sym is.0 ∙ e in cc) ]
