-- What crashes at any moment of a sending leave of the receiver's disk.
use Rattle.std.proofs.Common.{◌⊎◌, inl, inr, ⊎_elim, ℕ, Bool, List, [], Some, None, refl, sym, subst}
use Rattle.std.specs.Prelude.{◌≢◌, ◌&&◌}
use Rattle.disk_model.specs.Disk.{Meaning, Moves, Same}
use Rattle.disk_model.specs.declared.name.Role.TheVariants as roles
use Rattle.pump_frame.specs.declared.payload.Payload.{Payload}
use Rattle.pump_frame.specs.declared.row.SessionRow.{SessionRow}
use Rattle.pump_core.specs.declared.event.Event.TheVariants.{Crash}
use Rattle.pump_core.specs.Events.{with_kept}
use Rattle.pump_core.specs.Lawful.{IsLawful, IsPrefixOf}
use Rattle.pump_core.specs.World.{World}
use Rattle.pump_core.proofs.Laws.{stays_lawful}
use Rattle.script_reader.specs.Past.{Past}
use Rattle.two_worlds.specs.Doing.{LeavesFit}
use Rattle.two_worlds.specs.Openings.{IsLeft}
use Rattle.two_worlds.specs.Pumps.{disk_at, disks_of, row_of}
use Rattle.two_worlds.specs.declared.pump.Pump.{Pump}
use Rattle.two_worlds.proofs.Disks.Crashes.{recv_case}
use Rattle.two_worlds.proofs.Disks.Leaving.{leaves_since, leaves_then, leaves_weaker}
use Rattle.world_laws.specs.Disks.{RecvFits}
use Rattle.pump_wrapper.specs.Comparing.{Begins}
use Rattle.pump_wrapper.specs.Crashes.{HasPrefix, KeepsPrefix, LeavesPrefix, LeavesPrefixSince}
use Rattle.pump_wrapper.proofs.Prefixes.{begins_then, prefix_begins}

crash_prefix : (w : World) (kept : Bool) → IsLawful w → IsPrefixOf (with_kept (kept && w.taking) w.packet w.received) w.accepted
crash_prefix w kept lawful = (stays_lawful w (Crash None (Some kept)) _ lawful refl).delivered.prefix

-- what fits a lawful world has messages that its accepted ones begin with
fits_prefix : (row : SessionRow) (w : World) (all : List Payload) (image : List ℕ) → IsLawful w → Begins w.accepted all → RecvFits row w image → HasPrefix row all image
fits_prefix row w all image lawful to fits =
    let (kept, stands) = recv_case row w image fits in
    let messages = with_kept (kept && w.taking) w.packet w.received in
    (messages, stands, begins_then messages w.accepted all (prefix_begins messages w.accepted (crash_prefix w kept lawful)) to)

-- in one line
pub fit_keeps : {D : Type 0} {g : _} (m : Meaning D) (s t : Pump D g) (p q : Past) (all : List Payload) → IsLawful p.world → IsLawful q.world → Begins p.world.accepted all → Begins q.world.accepted all
    → LeavesFit m (disks_of s) (disks_of t) p q → KeepsPrefix m (row_of s) all (disk_at roles.Recv s) (disk_at roles.Recv t)
fit_keeps m s t p q all lawful_p lawful_q from to fit =
    leaves_weaker m (λ x. RecvFits (row_of s) p.world x ⊎ RecvFits (row_of s) q.world x) (HasPrefix (row_of s) all) (disk_at roles.Recv s) (disk_at roles.Recv t)
    (λ told x. ⊎_elim (λ is. fits_prefix (row_of s) p.world all x lawful_p from is) (λ is. fits_prefix (row_of s) q.world all x lawful_q to is)) fit.recv

module _ {D : Type 0} (m : Meaning D) (row : SessionRow) (all : List Payload) where
  -- of a disk that is read
  pub read_keeps : (old new : D) → (m.tells_images → LeavesPrefix m row all old) → Moves m Same old new → KeepsPrefix m row all old new
  read_keeps old new prefix moved = record {
    later = moved.later;
    each = λ told t c le since. ⊎_elim (λ was. inl was) (λ from. inr (subst (HasPrefix row all) (sym from.2) (prefix told from.0 from.1))) (moved.each told t c le since);
  }

  -- of a disk that was not empty when the pump was opened
  pub left_keeps : (old new : D) (is_fault : Bool) → IsLeft m row roles.Recv old new is_fault → m.tells → m.reading old ≢ [] → (m.tells_images → LeavesPrefix m row all old) → KeepsPrefix m row all old new
  left_keeps old new is_fault (inl moved) told some prefix = read_keeps old new prefix moved
  left_keeps old new is_fault (inr made) told some prefix = absurd (some (made told).0)

  pub keeps_then : (old mid new : D) → KeepsPrefix m row all old mid → KeepsPrefix m row all mid new → KeepsPrefix m row all old new
  keeps_then old mid new first second = leaves_then m (HasPrefix row all) old mid new first second

  -- .. since the first moment
  pub keeps_since : (old new : D) → m.tells_images → LeavesPrefix m row all old → KeepsPrefix m row all old new → LeavesPrefixSince m row all old new
  keeps_since old new told prefix keeps image is = leaves_since m (HasPrefix row all) old new (λ told. prefix) keeps told image is
