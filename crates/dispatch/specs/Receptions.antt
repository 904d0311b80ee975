-- How a call of `receive` comes to its end.
use Rattle.std.specs.Prelude.{◌≡◌, ◌⊎◌, ℕ, false, List, [], ◌∷◌, ◌++◌, Option, None}
use Rattle.std.specs.Io.KnownBytes.{Appends}
use Rattle.disk_model.specs.declared.name.Role.{Role}
use Rattle.disk_model.specs.declared.name.Role.TheVariants as roles
use Rattle.pump_frame.specs.declared.row.SessionRow.{SessionRow}
use Rattle.pump_link.specs.Ports.{PortsStep, Connected, NoConnection, BackToPorts}
use Rattle.pump_link.specs.Tells.{Draws, Grows}
use Rattle.recovery.specs.Refusals.{refused_receiver}
use Rattle.stable_buffer.specs.Format.{receiver_size}
use Rattle.stable_buffer.specs.Log.{RecvStands}
use Rattle.stable_buffer.specs.Register.{value_of}
use Rattle.script_replay.specs.Shelves.{Places, disk_name, reading_at}
use Rattle.command_ends.specs.CommandEnds.{NamesFailed}
use Rattle.commands.specs.LentDisks.{LeavesOtherDisks, StopsAtDisk}
use Rattle.peers.specs.Receiving.{Place, Reception, Receives, StandsForPrefix, attempted, is_device, messages}
use Rattle.peers.specs.declared.receive.ReceiveEnd.{ReceiveEnd}
use Rattle.peers.specs.declared.receive.ReceiveEnd.TheVariants as receiver
use Rattle.serving.specs.Doors.{LinksTell}
use Rattle.command_ends.specs.Tables.{StopsAtTable, HasRow}
use Rattle.command_ends.specs.declared.command_end.CommandEnd.{CommandEnd}
use Rattle.command_ends.specs.declared.command_end.CommandEnd.TheVariants.{Done, Failed, Unwritten, Unconnected, Ahead}
use Rattle.command_ends.specs.declared.command_end.CommandEnd.TheVariants.{Full}

-- how the call ends where the receiver ended so
abbrev pub end_of_receiver : ReceiveEnd → CommandEnd
end_of_receiver receiver.Ended = Done
end_of_receiver receiver.Looks = Done
end_of_receiver receiver.Write = Unwritten
end_of_receiver (receiver.Device faults) = Failed roles.Recv
end_of_receiver (receiver.Ahead number count) = Ahead number count
end_of_receiver (receiver.LogFull end length size) = Full end length size

-- Of the ports' steps and of the sink the second value is that at the end; `found` is what the receiver's disk
-- reads before, and `left` what it reads then.
module _ {D L : Type 0} (t : LinksTell L) (looks : ℕ) (ports now_ports : List (PortsStep L D) → Type 0)
    (written : Option (List ℕ)) (out_faults : ℕ) (found left : List ℕ) where
  -- High's receiver worked with the row, from where its disk stood, over the one link that the ports gave, to the
  -- row's high port, and took back. The list on the disk grew by the messages that it took.
  pub record HasReceived (row : SessionRow) (end : ReceiveEnd) (now_written : Option (List ℕ)) (now_out_faults : ℕ) :
      Type 0 where
    pub came : L
    pub back : L
    pub over : Grows ports now_ports (Connected row.high_port came ∷ BackToPorts back ∷ [])
    pub start : Place
    pub stood : (start.count, start.end) ≡ value_of found
    pub reception : Reception
    pub disk_faults : ℕ
    pub now_disk_faults : ℕ
    pub receives : Receives row receiver_size looks start reception
        (record {
          link = t.faults came;
          now_link = t.faults back;
          out = out_faults;
          now_out = now_out_faults;
          other = disk_faults;
          now_other = now_disk_faults;
        }) end
    pub gave : Draws (t.gives came) (t.gives back) (reception.heard ++ reception.looks)
    pub sent : Grows (t.sent came) (t.sent back) reception.sent
    pub printed : Appends written now_written reception.printed
    pub grown : is_device end ≡ false → (list : List (List ℕ)) → RecvStands row list found
        → RecvStands row (list ++ messages reception.turns) left
    pub kept : (list : List (List ℕ)) → RecvStands row list found
        → StandsForPrefix row list (attempted reception end) left

  -- no link came, or the receiver worked
  abbrev pub ReceivesOver : SessionRow → CommandEnd → Option (List ℕ) → ℕ → Type 0
  ReceivesOver row end mid mid_faults =
      ((end ≡ Unconnected) × (left ≡ found) × Grows ports now_ports (NoConnection row.high_port ∷ []) × (mid ≡ written))
      ⊎ ((received : ReceiveEnd) × (end ≡ end_of_receiver received) × HasReceived row received mid mid_faults)

  -- .. on a disk that can be opened; or it can't
  abbrev pub ReceivesFor : SessionRow → CommandEnd → Option (List ℕ) → ℕ → Type 0
  ReceivesFor row end mid mid_faults =
      (StopsAtDisk found row end × (left ≡ found) × Grows ports now_ports [] × (mid ≡ written))
      ⊎ ((refused_receiver row receiver_size found ≡ None) × ReceivesOver row end mid mid_faults)

-- With the row of the session, if the table has one; `file` is the table's. `before` and `after` say where each
-- disk is: none but the receiver's has changed. `fails` says which disk failed, where the end names one.
abbrev pub ReceiveComes : {D L : Type 0} → LinksTell L → ℕ → (List (PortsStep L D) → Type 0)
    → (List (PortsStep L D) → Type 0) → Option (List ℕ) → ℕ
    → Option (List ℕ) → Places → Places → (ℕ → Role → Type 0) → ℕ → CommandEnd → Option (List ℕ) → ℕ → Type 0
ReceiveComes t looks ports now_ports written out_faults file before after fails session end mid mid_faults =
    NamesFailed fails session end
    × ((StopsAtTable file session end × (after ≡ before) × Grows ports now_ports [] × (mid ≡ written))
    ⊎ ((row : SessionRow) × HasRow file session row × LeavesOtherDisks before after (disk_name row.id roles.Recv)
    × ReceivesFor t looks ports now_ports written out_faults (reading_at before row.id roles.Recv)
    (reading_at after row.id roles.Recv) row end mid mid_faults))
