-- How a call of `send` comes to its end.
use Rattle.std.specs.Prelude.{◌≡◌, ◌⊎◌, ℕ, List, [], ◌∷◌, Option}
use Rattle.std.specs.Io.KnownBytes.{Appends}
use Rattle.pump_frame.specs.declared.row.SessionRow.{SessionRow}
use Rattle.pump_link.specs.Ports.{PortsStep, Connected, NoConnection, BackToPorts}
use Rattle.pump_link.specs.Tells.{Draws, Grows}
use Rattle.peers.specs.Sending.{Sending, Sends, all_looks, all_sent, all_printed}
use Rattle.peers.specs.declared.send.SendEnd.{SendEnd}
use Rattle.peers.specs.declared.send.SendEnd.TheVariants as sender
use Rattle.serving.specs.Doors.{LinksTell}
use Rattle.command_ends.specs.Tables.{StopsAtFile, HasRow}
use Rattle.command_ends.specs.declared.command_end.CommandEnd.{CommandEnd}
use Rattle.command_ends.specs.declared.command_end.CommandEnd.TheVariants.{Done, Unread, Unwritten, BadLine}
use Rattle.command_ends.specs.declared.command_end.CommandEnd.TheVariants.{Unconnected, Denied, Unfinished}

-- how the call ends where the sender ended so
abbrev pub end_of_sender : SendEnd → CommandEnd
end_of_sender sender.Done = Done
end_of_sender sender.Read = Unread
end_of_sender sender.Write = Unwritten
end_of_sender (sender.Script line) = BadLine line
end_of_sender (sender.Refused code number) = Denied code number
end_of_sender (sender.Unfinished number) = Unfinished number

-- Of the ports' steps, of what is to come of the script and of the counts the second value is that at the end.
module _ {D L : Type 0} (t : LinksTell L) (looks : ℕ) (ports now_ports : List (PortsStep L D) → Type 0)
    (left now_left : Option (List ℕ)) (script_faults now_script_faults : ℕ) (written : Option (List ℕ)) (out_faults : ℕ)
  where
    -- Low's sender worked with the row, over the one link that the ports gave, to the row's low port, and took back
    pub record HasSent (row : SessionRow) (end : SendEnd) (now_written : Option (List ℕ)) (now_out_faults : ℕ) : Type 0
      where
        pub came : L
        pub back : L
        pub over : Grows ports now_ports (Connected row.low_port came ∷ BackToPorts back ∷ [])
        pub sending : Sending
        pub sends : Sends row looks left now_left sending
            (record {
              link = t.faults came;
              now_link = t.faults back;
              out = out_faults;
              now_out = now_out_faults;
              other = script_faults;
              now_other = now_script_faults;
            }) end
        pub gave : Draws (t.gives came) (t.gives back) (all_looks sending)
        pub sent : Grows (t.sent came) (t.sent back) (all_sent row sending)
        pub printed : Appends written now_written (all_printed sending)

    -- no link came, or the sender worked
    abbrev pub SendsFor : SessionRow → CommandEnd → Option (List ℕ) → ℕ → Type 0
    SendsFor row end mid mid_faults =
        ((end ≡ Unconnected) × Grows ports now_ports (NoConnection row.low_port ∷ []) × (mid ≡ written))
        ⊎ ((sent : SendEnd) × (end ≡ end_of_sender sent) × HasSent row sent mid mid_faults)

    -- .. over the row of the session, if the table has one; `file` is the table's, and the counts behind it are those
    -- of the files
    abbrev pub SendComes : Option (List ℕ) → ℕ → ℕ → ℕ → CommandEnd → Option (List ℕ) → ℕ → Type 0
    SendComes file file_faults now_file_faults session end mid mid_faults =
        (StopsAtFile file_faults now_file_faults file session end × Grows ports now_ports [] × (mid ≡ written))
        ⊎ ((row : SessionRow) × HasRow file session row × SendsFor row end mid mid_faults)
