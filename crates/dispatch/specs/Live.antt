-- What `live` promises of each command.
use Rattle.std.specs.Prelude.{◌≡◌, ℕ, List, Option}
use Rattle.command_line.specs.declared.command.Command.{Command}
use Rattle.command_line.specs.declared.command.Command.TheVariants.{Race, Serve, Receive, Send, Append}
use Rattle.disk_model.specs.Disk.{Meaning}
use Rattle.disk_model.specs.Shelf.{Holdings}
use Rattle.relay_side.specs.Sides.{SideTells}
use Rattle.relay_side.specs.declared.side.RelaySide.{RelaySide}
use Rattle.script_replay.specs.Failing.{FailsAt}
use Rattle.peers.specs.Appending.{link_tells}
use Rattle.serving.specs.Doors.{DoorsTell}
use Rattle.command_ends.specs.CommandEnds.{EndsLive}
use Rattle.commands.specs.LentDisks.{RecvFailsAt}
use Rattle.dispatch.specs.Appendings.{AppendComes}
use Rattle.dispatch.specs.Commands.{IsNoneThat, is_at_high, is_at_low, is_over_table, is_timed, reads_keys}
use Rattle.dispatch.specs.Commands.{sends_script}
use Rattle.dispatch.specs.Racing.{IsRecordOf, EndsRace}
use Rattle.dispatch.specs.Receptions.{ReceiveComes}
use Rattle.dispatch.specs.Sendings.{SendComes}
use Rattle.dispatch.specs.Servings.{SourceTells, disks, file, ServeComes}

-- What no command that the words are uses is as it was. Of each thing the second value is that at the end.
pub record LeavesUnused {S P K Q I : Type 0} (words : List (List ℕ)) (old_shelf new_shelf : S)
    (old_low new_low old_high new_high : RelaySide P K) (old_keys new_keys : Q) (old_script new_script : I) : Type 0
  where
    pub shelf : IsNoneThat is_over_table words → new_shelf ≡ old_shelf
    pub low_ports : IsNoneThat is_at_low words → new_low.ports ≡ old_low.ports
    pub high_ports : IsNoneThat is_at_high words → new_high.ports ≡ old_high.ports
    pub script : IsNoneThat sends_script words → new_script ≡ old_script
    pub keys : IsNoneThat reads_keys words → new_keys ≡ old_keys
    pub high_clock : IsNoneThat reads_keys words → new_high.clock ≡ old_high.clock
    pub low_clock : IsNoneThat is_timed words → new_low.clock ≡ old_low.clock

-- How each command ends. `m` is what the shelf tells, `d` what its disks do. Of the shelf, and of what is written with
-- the count of the writes that failed, the second value is that at the end.
module _ {D L H S : Type 0} (t : DoorsTell D L) (low high : SideTells D L) (m : Holdings H) (d : Meaning S)
    (shelf now_shelf : H) (keys script : SourceTells) (written now_written : Option (List ℕ))
    (out_faults now_out_faults status : ℕ) where
  abbrev pub LiveEnds : Command → Type 0
  LiveEnds (Race seed count times) =
      EndsRace (IsRecordOf seed count times.items low.reads low.now_reads) written now_written status
  LiveEnds (Serve table session rounds) =
      EndsLive (ServeComes t rounds low high (disks m d shelf now_shelf) written out_faults keys
      (file m shelf now_shelf table) (FailsAt m d shelf now_shelf) session) now_written now_out_faults session status
  LiveEnds (Receive table session looks) = m.tells → d.tells
      → EndsLive (ReceiveComes t.links looks high.ports.did high.ports.now_did written out_faults (m.file shelf table)
      (m.disk shelf) (m.disk now_shelf) (RecvFailsAt m d shelf now_shelf) session) now_written now_out_faults session
      status
  LiveEnds (Send table session looks) = m.tells
      → EndsLive (SendComes t.links looks low.ports.did low.ports.now_did script.left script.now_left script.faults
      script.now_faults written out_faults (m.file shelf table) (m.faults shelf) (m.faults now_shelf) session)
      now_written now_out_faults session status
  LiveEnds (Append table session looks) = m.tells
      → EndsLive (AppendComes (link_tells t.links.gives t.links.sent t.links.faults) looks low.ports.did
      low.ports.now_did script.left script.now_left script.faults script.now_faults written out_faults
      (m.file shelf table) (m.faults shelf) (m.faults now_shelf) session) now_written now_out_faults session status
  LiveEnds _ = Unit {0}
