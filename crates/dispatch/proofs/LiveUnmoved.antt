-- What `live` promises where nothing was used, and of each command where memory was wanting before anything was done.
use Rattle.std.proofs.Common.{ℕ, List, [], Option, inl, inr, refl, arith}
use Rattle.std.specs.Io.KnownBytes.{Appends}
use Rattle.command_line.specs.declared.command.Command.{Command}
use Rattle.command_line.specs.declared.command.Command.TheVariants.{Race, Serve, Receive, Send, Append}
use Rattle.disk_model.specs.Disk.{Meaning}
use Rattle.disk_model.specs.Shelf.{Holdings}
use Rattle.pump_link.specs.Ports.{PortsStep}
use Rattle.pump_link.proofs.Grown.{Grows-nil}
use Rattle.relay_side.specs.Sides.{SideTells}
use Rattle.relay_side.specs.declared.side.RelaySide.{RelaySide}
use Rattle.relay_side.proofs.Unused.{is_unused}
use Rattle.command_ends.specs.declared.command_end.CommandEnd.TheVariants as ends
use Rattle.serving.specs.Doors.{DoorsTell}
use Rattle.dispatch.specs.Live.{LeavesUnused, LiveEnds}
use Rattle.dispatch.specs.Servings.{SourceTells}

pub nothing_used : {S P K Q I : Type 0} (words : List (List ℕ)) (shelf : S) (low high : RelaySide P K) (key : Q) (script : I) → LeavesUnused words shelf shelf low low high high key key script script
nothing_used words shelf low high key script = record { shelf = λ none. refl; low_ports = λ none. refl; high_ports = λ none. refl; script = λ none. refl; keys = λ none. refl; high_clock = λ none. refl; low_clock = λ none. refl }

-- a side of which nothing was used
abbrev pub still : {D L : Type 0} → (List (PortsStep L D) → Type 0) → ℕ → (List ℕ → Type 0) → SideTells D L
still did faults reads = record { ports = record { did = did; now_did = did; faults = faults; now_faults = faults }; reads = reads; now_reads = reads }

module _ {D L H S : Type 0} (t : DoorsTell D L) (low high : List (PortsStep L D) → Type 0) (low_faults high_faults : ℕ) (low_reads high_reads : List ℕ → Type 0) (m : Holdings H) (d : Meaning S) (shelf : H) (keys script : SourceTells)
    (written : Option (List ℕ)) (faults : ℕ) (nothing : Appends written written []) where
  pub live_ends_unmoved : (c : Command) → LiveEnds t (still low low_faults low_reads) (still high high_faults high_reads) m d shelf shelf keys script written written faults faults 1 c
  live_ends_unmoved (Race seed count times) = inr (inl (refl, nothing))
  live_ends_unmoved (Serve table session rounds) = record {
    end = ends.Memory;
    mid = written;
    mid_faults = faults;
    comes = (tt, inl ((tt, (λ e. absurd (cc)), λ told. tt), record { low_unused = is_unused low low_faults low_reads; high_unused = is_unused high high_faults high_reads; unwritten = refl; unchanged = λ told name. refl }));
    last = inl (refl, nothing);
    later = omega arith;
  }
  live_ends_unmoved (Receive table session looks) = λ told tells. record { end = ends.Memory; mid = written; mid_faults = faults; comes = (tt, inl (tt, refl, Grows-nil high, refl)); last = inl (refl, nothing); later = omega arith }
  live_ends_unmoved (Send table session looks) = λ told. record { end = ends.Memory; mid = written; mid_faults = faults; comes = inl ((tt, λ e. absurd (cc)), Grows-nil low, refl); last = inl (refl, nothing); later = omega arith }
  live_ends_unmoved (Append table session looks) = λ told. record { end = ends.Memory; mid = written; mid_faults = faults; comes = inl ((tt, λ e. absurd (cc)), Grows-nil low, refl); last = inl (refl, nothing); later = omega arith }
  live_ends_unmoved c = tt
