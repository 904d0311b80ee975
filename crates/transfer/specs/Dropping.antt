-- How a call of `drop` comes to its end.
use Rattle.std.specs.Prelude.{◌≡◌, ◌⊎◌, ℕ, ◌+◌, ◌^◌, ◌<◌, ◌≤◌, false, List, [], ◌∷◌, length, Option}
use Rattle.std.specs.Io.KnownBytes.{Appends}
use Rattle.pump_frame.specs.declared.row.SessionRow.{SessionRow}
use Rattle.pump_link.specs.Ports.{PortsStep, Connected, NoConnection, BackToPorts}
use Rattle.pump_link.specs.Tells.{Draws, Grows}
use Rattle.peers.specs.Appending.{LinkTells}
use Rattle.folders.specs.ByName.{FoldersStep, OutboxGiven, NoOutbox, OutboxBack}
use Rattle.folders.specs.Outboxes.{Dropping as DroppingTells, Settled}
use Rattle.file_dropper.specs.Leaving.{Fits}
use Rattle.file_dropper.specs.declared.answers.DropFault.{DropFault}
use Rattle.file_dropper.specs.declared.answers.DropFault.TheVariants as faults
use Rattle.file_dropper.specs.declared.dropper.Dropper.{Dropper}
use Rattle.file_dropper.specs.declared.work.Work.TheVariants.{Unsettled}
use Rattle.file_peers.specs.Dropping.{Visit, Drops, KeepsFolder, all_looks, all_sent, all_printed, counted}
use Rattle.file_peers.specs.Dropping.{dropper_behind}
use Rattle.file_peers.specs.declared.drop.DropEnd.{DropEnd}
use Rattle.file_peers.specs.declared.drop.DropEnd.TheVariants as party
use Rattle.command_ends.specs.Tables.{StopsAtFile, HasRow}
use Rattle.command_ends.specs.declared.command_end.CommandEnd.{CommandEnd}
use Rattle.command_ends.specs.declared.command_end.CommandEnd.TheVariants.{Done, Unwritten, Unconnected, NoRow, Denied}
use Rattle.command_ends.specs.declared.no_row.NoRow.TheVariants.{Short}
use Rattle.command_ends.specs.declared.command_end.CommandEnd.TheVariants.{Unfinished, Folder, Marks, Step, TooLong}

-- how the call ends where the dropper failed so; where no number was left, the message with the first number past
-- all was not sent
abbrev pub end_of_fault : DropFault → CommandEnd
end_of_fault faults.Folder = Folder
end_of_fault faults.Marks = Marks
end_of_fault (faults.Step start accepted) = Step start accepted
end_of_fault faults.TooLong = TooLong
end_of_fault faults.Full = Unfinished (2 ^ 48)

-- .. where Low's party ended so
abbrev pub end_of_dropper : DropEnd → CommandEnd
end_of_dropper party.Ended = Done
end_of_dropper party.Looks = Done
end_of_dropper party.Write = Unwritten
end_of_dropper (party.Refused code number) = Denied code number
end_of_dropper (party.Unfinished number) = Unfinished number
end_of_dropper (party.Failed fault) = end_of_fault fault

-- a dropper for a new connection
abbrev pub new_dropper : {O F : Type 0} → SessionRow → O → Dropper O F
new_dropper row outbox =
    record { outbox = outbox; message = row.message; number = 0; awaited = false; work = Unsettled }

-- Of the ports' steps and of the sink the second value is that at the end.
module _ {O F L X : Type 0} (t : LinkTells L) (m : DroppingTells O) (left : F → Option (List ℕ)) (faults : F → ℕ)
    (looks : ℕ) (ports now_ports : List (PortsStep L X) → Type 0) (written : Option (List ℕ)) (out_faults : ℕ) where
  -- Low's party worked with the row over the one link that the ports gave, to the row's low port, and took back
  pub record HasDropped (row : SessionRow) (outbox back : O) (end : DropEnd) (now_written : Option (List ℕ))
      (now_out_faults : ℕ) : Type 0 where
    pub first : Dropper O F
    pub is_new : first ≡ new_dropper row outbox
    pub came : L
    pub given : L
    pub over : Grows ports now_ports (Connected row.low_port came ∷ BackToPorts given ∷ [])
    pub visit : Visit O F
    pub looks_left : ℕ
    pub drops : Drops m faults row looks_left first visit
        (record {
          link = t.faults came;
          now_link = t.faults given;
          out = out_faults;
          now_out = now_out_faults;
          other = 0;
          now_other = 0;
        }) end
    pub used : looks ≡ looks_left + length (all_looks visit)
    pub gave : Draws (t.gives came) (t.gives given) (all_looks visit)
    pub sent : Grows (t.sent came) (t.sent given) (all_sent row visit)
    pub printed : Appends written now_written (all_printed row.id visit)
    pub behind : (dropper_behind first visit).outbox ≡ back
    pub keeps : (start : List (List ℕ)) → m.tells → counted visit ≡ length start → Settled m first.outbox
        → Fits start (m.stands first.outbox) → KeepsFolder m left start first visit

  -- no link came, or the party worked
  abbrev pub DropsIn : SessionRow → O → O → CommandEnd → Option (List ℕ) → ℕ → Type 0
  DropsIn row outbox back end mid mid_faults =
      ((end ≡ Unconnected) × (back ≡ outbox) × Grows ports now_ports (NoConnection row.low_port ∷ [])
      × (mid ≡ written))
      ⊎ ((dropped : DropEnd) × (end ≡ end_of_dropper dropped) × HasDropped row outbox back dropped mid mid_faults)

  -- the row has too small messages, the folder was not given, or it was and was taken back
  abbrev pub DropsFor : {I : Type 0} → (List (FoldersStep I O) → Type 0) → (List (FoldersStep I O) → Type 0) → List ℕ
      → SessionRow → CommandEnd → Option (List ℕ) → ℕ → Type 0
  DropsFor did now_did folder row end mid mid_faults =
      ((row.message < 138) × (end ≡ NoRow (Short row.id)) × Grows did now_did [] × Grows ports now_ports []
      × (mid ≡ written))
      ⊎ (((138 ≤ row.message) × (end ≡ Folder) × Grows did now_did (NoOutbox folder row.id ∷ [])
      × Grows ports now_ports [] × (mid ≡ written))
      ⊎ ((138 ≤ row.message) × (outbox : O) × (back : O)
      × Grows did now_did (OutboxGiven folder row.id outbox ∷ OutboxBack back ∷ [])
      × DropsIn row outbox back end mid mid_faults))

  -- .. over the row of the session, if the table has one; `file` is the table's, and the counts behind it are those
  -- of the files
  abbrev pub DropComes : {I : Type 0} → (List (FoldersStep I O) → Type 0) → (List (FoldersStep I O) → Type 0)
      → List ℕ → Option (List ℕ) → ℕ → ℕ → ℕ → CommandEnd → Option (List ℕ) → ℕ → Type 0
  DropComes did now_did folder file file_faults now_file_faults session end mid mid_faults =
      (StopsAtFile file_faults now_file_faults file session end × Grows did now_did [] × Grows ports now_ports []
      × (mid ≡ written))
      ⊎ ((row : SessionRow) × HasRow file session row × DropsFor did now_did folder row end mid mid_faults)
