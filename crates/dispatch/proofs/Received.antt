-- A receiver's disk that is off the shelf and back on it.
use Rattle.std.proofs.Common.{◌≡◌, ℕ, List, Option, inr, sym, ap, subst}
use Rattle.disk_model.specs.Shelf.{OnShelf}
use Rattle.disk_model.specs.declared.name.Role.{Role}
use Rattle.disk_model.specs.declared.name.Role.TheVariants as roles
use Rattle.pump_frame.specs.declared.row.SessionRow.{SessionRow}
use Rattle.pump_link.specs.Ports.{PortsStep}
use Rattle.script_replay.specs.Lending.{ReadAt}
use Rattle.script_replay.specs.Shelves.{Places, disk_name, reading_in, reading_at}
use Rattle.script_replay.proofs.Shelving.{read_in}
use Rattle.stable_buffer.specs.Format.{receiver_size}
use Rattle.peers.specs.Outputs.{Counts}
use Rattle.peers.specs.Receiving.{Place, Reception, Receives}
use Rattle.peers.specs.declared.receive.ReceiveEnd.{ReceiveEnd}
use Rattle.serving.specs.Doors.{LinksTell}
use Rattle.command_ends.specs.CommandEnds.{NamesFailed}
use Rattle.commands.specs.LentDisks.{LeavesOtherDisks}
use Rattle.dispatch.specs.Receptions.{ReceivesFor, ReceiveComes}
use Rattle.command_ends.specs.Tables.{HasRow}
use Rattle.command_ends.specs.declared.command_end.CommandEnd.{CommandEnd}

module _ {D L : Type 0} (t : LinksTell L) (looks : ℕ) (ports now_ports : List (PortsStep L D) → Type 0) (written : Option (List ℕ)) (out_faults : ℕ) where
  -- what holds of the readings of the disk in hand holds of those on the shelf
  pub receives_at : (before after : Places) (row : SessionRow) (found left : List ℕ) (end : CommandEnd) (mid : Option (List ℕ)) (mid_faults : ℕ)
      → ReadAt before row.id roles.Recv found → after (disk_name row.id roles.Recv) ≡ OnShelf left → ReceivesFor t looks ports now_ports written out_faults found left row end mid mid_faults
      → ReceivesFor t looks ports now_ports written out_faults (reading_at before row.id roles.Recv) (reading_at after row.id roles.Recv) row end mid mid_faults
  receives_at before after row found left end mid mid_faults was on h =
      subst (λ (x : List ℕ × List ℕ). ReceivesFor t looks ports now_ports written out_faults x.0 x.1 row end mid mid_faults) (λ i. (sym (read_in _ _ was) i, sym (ap reading_in on) i)) h

  pub receives_row : (file : Option (List ℕ)) (before between after : Places) (fails : ℕ → Role → Type 0) (session : ℕ) (row : SessionRow) (end : CommandEnd) (mid : Option (List ℕ)) (mid_faults : ℕ)
      → NamesFailed fails session end → HasRow file session row → between ≡ before → LeavesOtherDisks between after (disk_name row.id roles.Recv)
      → ReceivesFor t looks ports now_ports written out_faults (reading_at between row.id roles.Recv) (reading_at after row.id roles.Recv) row end mid mid_faults
      → ReceiveComes t looks ports now_ports written out_faults file before after fails session end mid mid_faults
  receives_row file before between after fails session row end mid mid_faults named has same others h = (
    named,
    inr (
      row,
      has,
      subst (λ (places : Places). LeavesOtherDisks places after (disk_name row.id roles.Recv)) same others,
      subst (λ (places : Places). ReceivesFor t looks ports now_ports written out_faults (reading_at places row.id roles.Recv) (reading_at after row.id roles.Recv) row end mid mid_faults) same h,
    ),
  )

-- the receiver worked with the room of its disk
pub sized : (row : SessionRow) (size looks : ℕ) (start : Place) (x : Reception) (counts : Counts) (end : ReceiveEnd) → size ≡ receiver_size → Receives row size looks start x counts end → Receives row receiver_size looks start x counts end
sized row size looks start x counts end is h = subst (λ (n : ℕ). Receives row n looks start x counts end) is h
