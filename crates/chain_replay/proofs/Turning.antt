-- What becomes of a line of a chain.
use Rattle.std.proofs.Common.{◌≡◌, ℕ, Bool, false, List, Option, None, Some, refl, sym, ◌∙◌, subst}
use Rattle.disk_model.specs.Disk.{Meaning}
use Rattle.disk_model.specs.declared.disk.Disk.{Ghosts}
use Rattle.pump_chain.specs.Chained.{Chained, added}
use Rattle.pump_chain.specs.Standing.{ChainApplies}
use Rattle.pump_chain.specs.declared.chain.Chain.{Chain}
use Rattle.script_reader.specs.declared.event.Event.{Event}
use Rattle.script_reader.specs.declared.line.Line.{Line}
use Rattle.script_reader.specs.Transcript.{text}
use Rattle.script_replay.specs.Outputs.{Gathers}
use Rattle.two_worlds.specs.declared.applied.Stop.{Stop}
use Rattle.two_worlds.specs.declared.applied.Stop.TheVariants as stops
use Rattle.two_worlds.specs.LowPumps.{stops_at_disk}
use Rattle.chain_replay.specs.Faults.{broken_in}
use Rattle.chain_replay.specs.Private.{outcome_by, FailsIn, LineGoes, LineDoes}
use Rattle.chain_replay.specs.declared.applying.ChainOutcome.{ChainOutcome}
use Rattle.chain_replay.specs.declared.applying.ChainOutcome.TheVariants as outcomes
use Rattle.chain_replay.proofs.Broken.{broken_names}

module _ {D : Type 0} {g : Ghosts D} (m : Meaning D) (s t : Chain D g) (first : ℕ) (line : Line) (c : Chained) (printed : List Event) where
  pub line_goes : (stop : Option Stop) → ChainApplies m s t line c printed stop → LineGoes m first c line s t printed (outcome_by first line stop)
  line_goes None h = (h.0, h.1, h.2)
  line_goes (Some stops.Line) h = (h.0, h.1, h.2)
  line_goes (Some (stops.Device role count)) h = (
    h.0,
    (h.1, refl),
    h.2,
    λ is.
        subst (λ (i : ℕ). FailsIn m c.first.row.id c.second.row.id s t (broken_in i line role) role) (sym is)
        (broken_names m s t c.first.row.id c.second.row.id c h.0 printed count (added c) line role h.1 h.4),
  )
  line_goes (Some (stops.Full end length size)) h = (h.0, (h.1, refl), h.2, λ is. tt)
  line_goes (Some (stops.Disk role why)) h = absurd h

  line_does_by : (held later : List ℕ) (old new : Option (List ℕ)) → Gathers held later old new (text printed) → (stop : Option Stop) → ChainApplies m s t line c printed stop → LineDoes m first c line s t held later old new (outcome_by first line stop)
  line_does_by held later old new w None h = (printed, line_goes None h, w)
  line_does_by held later old new w (Some stops.Line) h = (printed, line_goes (Some stops.Line) h, w)
  line_does_by held later old new w (Some (stops.Device role count)) h = (printed, line_goes (Some (stops.Device role count)) h, w)
  line_does_by held later old new w (Some (stops.Full end length size)) h = (printed, line_goes (Some (stops.Full end length size)) h, w)
  line_does_by held later old new w (Some (stops.Disk role why)) h = absurd h

  pub line_does : (held later : List ℕ) (old new : Option (List ℕ)) → Gathers held later old new (text printed) → (stop : Option Stop) → ChainApplies m s t line c printed stop → (outcome : ChainOutcome) → outcome ≡ outcome_by first line stop
      → LineDoes m first c line s t held later old new outcome
  line_does held later old new w stop h outcome is = subst (λ o. LineDoes m first c line s t held later old new o) (sym is) (line_does_by held later old new w stop h)

up_by : (first : ℕ) (line : Line) (stop : Option Stop) → outcome_by first line stop ≡ outcomes.Applied → stops_at_disk stop ≡ false
up_by first line None e = refl
up_by first line (Some stops.Line) e = refl
up_by first line (Some (stops.Device role count)) e = cc e
up_by first line (Some (stops.Full end length size)) e = refl
up_by first line (Some (stops.Disk role why)) e = cc e

-- a line that is applied stops at no disk
pub still_up : (first : ℕ) (line : Line) (stop : Option Stop) (outcome : ChainOutcome) (down : Bool) → outcome ≡ outcome_by first line stop → down ≡ stops_at_disk stop → outcome ≡ outcomes.Applied → down ≡ false
still_up first line stop outcome down is at e = at ∙ up_by first line stop (sym is ∙ e)

never_by : (first : ℕ) (line : Line) (stop : Option Stop) → outcome_by first line stop ≡ outcomes.Unwritten → ⊥
never_by first line None e = cc e
never_by first line (Some stops.Line) e = cc e
never_by first line (Some (stops.Device role count)) e = cc e
never_by first line (Some (stops.Full end length size)) e = cc e
never_by first line (Some (stops.Disk role why)) e = cc e

pub never_unwritten : (first : ℕ) (line : Line) (stop : Option Stop) (outcome : ChainOutcome) → outcome ≡ outcome_by first line stop → outcome ≡ outcomes.Unwritten → ⊥
never_unwritten first line stop outcome is e = never_by first line stop (sym is ∙ e)
