-- How a call of `collect` comes to its end.
use Rattle.std.specs.Prelude.{◌≡◌, ◌⊎◌, ℕ, ◌<◌, ◌≤◌, List, [], ◌∷◌, ◌++◌, take, Option, None, Some, codes, decimal}
use Rattle.std.specs.Io.KnownBytes.{Appends}
use Rattle.disk_model.specs.Disk.{Meaning}
use Rattle.pump_frame.specs.declared.row.SessionRow.{SessionRow}
use Rattle.pump_link.specs.Causes.{AppendsPrefix}
use Rattle.pump_link.specs.Ports.{PortsStep, Connected, NoConnection, BackToPorts}
use Rattle.pump_link.specs.Tells.{Draws, Grows}
use Rattle.script_reader.specs.Transcript.{line_with_end}
use Rattle.peers.specs.Appending.{LinkTells}
use Rattle.folders.specs.ByName.{FoldersStep, InboxGiven, NoInbox, InboxBack}
use Rattle.folders.specs.Placing.{Placing}
use Rattle.file_collector.specs.Closed.{IsWhyClosed}
use Rattle.file_collector.specs.Collecting.{HasTaken, IsCollecting, taken_count}
use Rattle.file_collector.specs.Reopening.{OpensOn}
use Rattle.file_collector.specs.declared.collector.Collector.{Collector}
use Rattle.file_collector.specs.declared.values.CollectFault.{CollectFault}
use Rattle.file_collector.specs.declared.values.CollectFault.TheVariants as faults
use Rattle.file_peers.specs.Collecting.{Collection, Collects, KeepsCollector}
use Rattle.file_peers.specs.declared.collect.CollectEnd.{CollectEnd}
use Rattle.file_peers.specs.declared.collect.CollectEnd.TheVariants as party
use Rattle.command_ends.specs.Tables.{StopsAtFile, HasRow}
use Rattle.command_ends.specs.declared.command_end.CommandEnd.{CommandEnd}
use Rattle.command_ends.specs.declared.command_end.CommandEnd.TheVariants.{Done, Unwritten, Unconnected, Ahead, NoRow}
use Rattle.command_ends.specs.declared.command_end.CommandEnd.TheVariants.{Folder, NameTaken, Register}
use Rattle.command_ends.specs.declared.no_row.NoRow.TheVariants.{Short}

-- how the call ends where High's party ended so
abbrev pub end_of_collector : CollectEnd → CommandEnd
end_of_collector party.Ended = Done
end_of_collector party.Looks = Done
end_of_collector party.Write = Unwritten
end_of_collector (party.Folder faults) = Folder
end_of_collector (party.NameTaken number) = NameTaken number
end_of_collector (party.Device faults) = Folder
end_of_collector (party.Ahead number count) = Ahead number count

-- .. where no collector opened
abbrev pub end_of_opening : CollectFault → CommandEnd
end_of_opening (faults.Folder count) = Folder
end_of_opening (faults.Register count) = Folder
end_of_opening faults.Other = Register
end_of_opening faults.Damaged = Register

-- a file whose part was lost is told, if there is one
abbrev pub lost_line : ℕ → ℕ → Option (List ℕ) → List ℕ
lost_line session count None = []
lost_line session count (Some name) =
    line_with_end (codes "dropped" ∷ decimal session ∷ decimal count ∷ codes "lost" ∷ name ∷ [])

-- a collector was opened: what fits messages is opened as what the counted ones of them make
pub record CollectorOpens {I D : Type 0} (mi : Placing I) (md : Meaning D) (inbox : I) (c : Collector I D)
    : Type 0 where
  pub ready : IsCollecting mi md c
  pub here : mi.tells → md.tells → (messages : List (List ℕ)) → (on : OpensOn mi inbox messages)
      → HasTaken mi md c (take (taken_count c) messages) × (on.fits.count ≤ taken_count c) × (c.lost ≡ None)

-- Of the ports' steps and of the sink the second value is that at the end.
module _ {I D L X : Type 0} (t : LinkTells L) (mi : Placing I) (md : Meaning D) (looks : ℕ)
    (ports now_ports : List (PortsStep L X) → Type 0) (written : Option (List ℕ)) (out_faults : ℕ) where
  -- High's party worked with the row over the one link that the ports gave, to the row's high port, and took back
  pub record HasCollected (row : SessionRow) (old new : Collector I D) (end : CollectEnd)
      (now_written : Option (List ℕ)) (now_out_faults : ℕ) : Type 0 where
    pub came : L
    pub back : L
    pub over : Grows ports now_ports (Connected row.high_port came ∷ BackToPorts back ∷ [])
    pub told : Option (List ℕ)
    pub told_faults : ℕ
    pub later : out_faults ≤ told_faults
    pub tells : Appends written told (lost_line row.id (taken_count old) old.lost)
    pub collects : (start : List (List ℕ)) → HasTaken mi md old start → (x : Collection)
        × Collects row looks start x
        (record {
          link = t.faults came;
          now_link = t.faults back;
          out = told_faults;
          now_out = now_out_faults;
          other = 0;
          now_other = 0;
        }) end
        × Draws (t.gives came) (t.gives back) (x.heard ++ x.looks)
        × Grows (t.sent came) (t.sent back) x.sent
        × Appends told now_written x.printed
        × KeepsCollector mi md start old new x end

  -- a lost file could not be told, no link came, or the party worked
  abbrev pub CollectsOver : SessionRow → Collector I D → Collector I D → CommandEnd → Option (List ℕ) → ℕ → Type 0
  CollectsOver row old new end mid mid_faults =
      ((end ≡ Unwritten) × (new ≡ old) × Grows ports now_ports []
      × AppendsPrefix written mid (lost_line row.id (taken_count old) old.lost))
      ⊎ (((end ≡ Unconnected) × (new ≡ old) × Grows ports now_ports (NoConnection row.high_port ∷ [])
      × Appends written mid (lost_line row.id (taken_count old) old.lost))
      ⊎ ((collected : CollectEnd) × (end ≡ end_of_collector collected)
      × HasCollected row old new collected mid mid_faults))

  -- no collector opened in the folder, or one did
  abbrev pub CollectsIn : SessionRow → I → I → CommandEnd → Option (List ℕ) → ℕ → Type 0
  CollectsIn row inbox back end mid mid_faults =
      ((fault : CollectFault) × (end ≡ end_of_opening fault) × IsWhyClosed mi md inbox back fault
      × (mi.shown back ≡ mi.shown inbox)
      × Grows ports now_ports [] × (mid ≡ written))
      ⊎ ((old new : Collector I D) × CollectorOpens mi md inbox old × (back ≡ new.gatherer.inbox)
      × CollectsOver row old new end mid mid_faults)

  -- the row has too small messages, the folder was not given, or it was and was taken back
  abbrev pub CollectsFor : {O : Type 0} → (List (FoldersStep I O) → Type 0) → (List (FoldersStep I O) → Type 0) → List ℕ
      → SessionRow → CommandEnd → Option (List ℕ) → ℕ → Type 0
  CollectsFor did now_did folder row end mid mid_faults =
      ((row.message < 138) × (end ≡ NoRow (Short row.id)) × Grows did now_did [] × Grows ports now_ports []
      × (mid ≡ written))
      ⊎ (((138 ≤ row.message) × (end ≡ Folder) × Grows did now_did (NoInbox folder row.id ∷ [])
      × Grows ports now_ports [] × (mid ≡ written))
      ⊎ ((138 ≤ row.message) × (inbox back : I)
      × Grows did now_did (InboxGiven folder row.id inbox ∷ InboxBack back ∷ [])
      × CollectsIn row inbox back end mid mid_faults))

  -- .. over the row of the session, if the table has one; `file` is the table's, and the counts behind it are those
  -- of the files
  abbrev pub CollectComes : {O : Type 0} → (List (FoldersStep I O) → Type 0) → (List (FoldersStep I O) → Type 0)
      → List ℕ → Option (List ℕ) → ℕ → ℕ → ℕ → CommandEnd → Option (List ℕ) → ℕ → Type 0
  CollectComes did now_did folder file file_faults now_file_faults session end mid mid_faults =
      (StopsAtFile file_faults now_file_faults file session end × Grows did now_did [] × Grows ports now_ports []
      × (mid ≡ written))
      ⊎ ((row : SessionRow) × HasRow file session row × CollectsFor did now_did folder row end mid mid_faults)
