-- How a call of `append` comes to its end.
use Rattle.std.specs.Prelude.{◌≡◌, ◌⊎◌, ℕ, ◌+◌, ◌-◌, ◌^◌, min, List, [], Option}
use Rattle.std.specs.Io.KnownBytes.{Appends}
use Rattle.pump_frame.specs.Counts.{Rose}
use Rattle.pump_frame.specs.declared.row.SessionRow.{SessionRow}
use Rattle.pump_link.specs.Causes.{AppendsPrefix}
use Rattle.pump_link.specs.Ports.{PortsStep}
use Rattle.pump_link.specs.Tells.{Grows}
use Rattle.peers.specs.Appending.{AppendsLines, LinkTells, Made, appended_line, steps}
use Rattle.peers.specs.declared.append.AppendEnd.{AppendEnd}
use Rattle.peers.specs.declared.append.AppendEnd.TheVariants as appender
use Rattle.command_ends.specs.Tables.{StopsAtFile, HasRow}
use Rattle.command_ends.specs.declared.command_end.CommandEnd.{CommandEnd}
use Rattle.command_ends.specs.declared.command_end.CommandEnd.TheVariants.{Done, Unread, Unwritten, BadLine, Ahead}
use Rattle.command_ends.specs.declared.command_end.CommandEnd.TheVariants.{Denied, Unfinished}

-- how the call ends where the sender ended so: it acknowledged so many lines, and the next message has this number
abbrev pub end_of_appender : AppendEnd → ℕ → ℕ → CommandEnd
end_of_appender appender.Done lines next = Done
end_of_appender appender.Read lines next = Unread
end_of_appender appender.Write lines next = Unwritten
end_of_appender appender.Script lines next = BadLine (min (lines + 1) (2 ^ 32 - 1))
end_of_appender (appender.Refused code number) lines next = Denied code number
end_of_appender appender.Unfinished lines next = Unfinished next
end_of_appender (appender.Elsewhere number) lines next = Ahead next number

-- the last line was written, or a prefix of it; where a line could not be written before, nothing was
abbrev pub TellsEnd : ℕ → AppendEnd → ℕ → ℕ → Option (List ℕ) → Option (List ℕ) → CommandEnd → Type 0
TellsEnd session appender.Write lines next mid new end = (end ≡ Unwritten) × (new ≡ mid)
TellsEnd session came lines next mid new end =
    ((end ≡ end_of_appender came lines next) × Appends mid new (appended_line session lines next))
    ⊎ ((end ≡ Unwritten) × AppendsPrefix mid new (appended_line session lines next))

-- Of the ports' steps, of what is to come of the script and of the counts the second value is that at the end.
module _ {D L : Type 0} (t : LinkTells L) (looks : ℕ) (ports now_ports : List (PortsStep L D) → Type 0)
    (left now_left : Option (List ℕ)) (script_faults now_script_faults : ℕ) (written : Option (List ℕ)) (out_faults : ℕ)
  where
    -- Low's sender of a stream worked with the row, over the links that the ports gave to the row's low port and took
    -- back
    pub record AppendsFor (row : SessionRow) (end : CommandEnd) (mid : Option (List ℕ)) (mid_faults : ℕ) : Type 0 where
      pub came : AppendEnd
      pub lines : ℕ
      pub next : ℕ
      pub tries : List (Option (Made L))
      pub printed : List ℕ
      pub appends : AppendsLines t row looks tries left now_left came lines next printed
      pub over : Grows ports now_ports (steps row.low_port tries)
      pub acked : Option (List ℕ)
      pub prints : Appends written acked printed
      pub tells : TellsEnd row.id came lines next acked mid end
      pub unread : end ≡ Unread → Rose script_faults now_script_faults
      pub unwritten : end ≡ Unwritten → Rose out_faults mid_faults

    -- .. with the row of the session, if the table has one; `file` is the table's, and the counts behind it are those
    -- of the files
    abbrev pub AppendComes : Option (List ℕ) → ℕ → ℕ → ℕ → CommandEnd → Option (List ℕ) → ℕ → Type 0
    AppendComes file file_faults now_file_faults session end mid mid_faults =
        (StopsAtFile file_faults now_file_faults file session end × Grows ports now_ports [] × (mid ≡ written))
        ⊎ ((row : SessionRow) × HasRow file session row × AppendsFor row end mid mid_faults)
