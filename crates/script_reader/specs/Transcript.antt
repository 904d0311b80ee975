-- Which bytes a line of a transcript is.
use Rattle.std.specs.Prelude.{ℕ, List, [], ◌∷◌, ◌++◌, Option, None, Some, codes, decimal, slice_index}
use Rattle.std.specs.List.{flat_map}
use Rattle.pump_frame.specs.declared.frame.Kind.{Kind}
use Rattle.pump_frame.specs.declared.frame.Kind.TheVariants.{Hello, Welcome, Data, Ack, Refuse, Attach as AttachFrame}
use Rattle.pump_frame.specs.declared.frame.Kind.TheVariants.{Taken}
use Rattle.script_reader.specs.declared.event.Event.{Event}
use Rattle.script_reader.specs.declared.event.Event.TheVariants.{Stored, Full, Passed, Released, Repeat, Low, Removed}
use Rattle.script_reader.specs.declared.event.Event.TheVariants.{Sent, Took, Again, Attach, Restart, End, Show, Live}
use Rattle.script_reader.specs.declared.fault.Fault.{Fault}
use Rattle.disk_model.specs.declared.name.Role.{Role}
use Rattle.disk_model.specs.declared.name.Role.TheVariants as roles
use Rattle.script_reader.specs.declared.fault.Fault.TheVariants.{Words, Read, Script, Device, Disk, Full as FullLog}
use Rattle.script_reader.specs.Grammar.{spaced, held_field}
use Rattle.script_reader.specs.HexFields.{hex_field}

-- the fields of a reply, which is a WELCOME, an ACK or a REFUSE; the payload byte of a REFUSE is its code
abbrev pub reply_fields : Kind → ℕ → List ℕ → List (List ℕ)
reply_fields Welcome number payload = codes "welcome" ∷ decimal number ∷ []
reply_fields Ack number payload = codes "ack" ∷ decimal number ∷ []
reply_fields Refuse number payload = codes "refuse" ∷ decimal (slice_index payload 0) ∷ decimal number ∷ []
reply_fields Hello number payload = []
reply_fields Data number payload = []
reply_fields AttachFrame number payload = []
reply_fields Taken number payload = []

-- a time, or a dash where none was published
abbrev pub time_field : Option ℕ → List ℕ
time_field None = codes "-"
time_field (Some time) = decimal time

-- how many were removed and taken, or dashes for a low side alone
abbrev pub high_fields : Option (ℕ × ℕ) → List (List ℕ)
high_fields None = codes "-" ∷ codes "-" ∷ []
high_fields (Some high) = decimal high.0 ∷ decimal high.1 ∷ []

abbrev pub event_fields : Event → List (List ℕ)
event_fields (Stored session moment number) = codes "stored" ∷ decimal session ∷ decimal moment ∷ decimal number ∷ []
event_fields (Full session moment) = codes "full" ∷ decimal session ∷ decimal moment ∷ []
event_fields (Passed session moment seen) = codes "passed" ∷ decimal session ∷ decimal moment ∷ decimal
    seen.count ∷ decimal seen.average ∷ []
event_fields (Released session moment) = codes "released" ∷ decimal session ∷ decimal moment ∷ []
event_fields (Repeat session moment seen) = codes "repeat" ∷ decimal session ∷ decimal moment ∷ decimal
    seen.count ∷ decimal seen.average ∷ []
event_fields (Low session moment reply) = codes "low" ∷ decimal session ∷ decimal moment ∷ reply_fields reply.kind
    reply.number reply.payload
event_fields (Removed session moment number time) = codes "removed" ∷ decimal session ∷ decimal moment ∷ decimal
    number ∷ time_field time ∷ []
event_fields (Sent session moment number) = codes "sent" ∷ decimal session ∷ decimal moment ∷ decimal number ∷ []
event_fields (Took session number) = codes "took" ∷ decimal session ∷ decimal number ∷ []
event_fields (Again session number) = codes "again" ∷ decimal session ∷ decimal number ∷ []
event_fields (Attach session moment count) = codes "attach" ∷ decimal session ∷ decimal moment ∷ decimal count ∷ []
event_fields (Restart session moment accepted removed held) = codes "restart" ∷ decimal session ∷ decimal
    moment ∷ decimal accepted ∷ decimal removed ∷ held_field held ∷ []
event_fields (End session accepted high) = codes "end" ∷ decimal session ∷ decimal accepted ∷ high_fields high
event_fields (Show session accepted removed received) = codes "show" ∷ decimal session ∷ decimal accepted ∷ decimal
    removed ∷ decimal received ∷ []
event_fields (Live session number payload) = codes "live" ∷ decimal session ∷ decimal number ∷ hex_field payload ∷ []

-- fields as a line, with its line end
abbrev pub line_with_end : List (List ℕ) → List ℕ
line_with_end fields = spaced fields ++ 10 ∷ []

abbrev pub event_line : Event → List ℕ
event_line event = line_with_end (event_fields event)

-- the lines of these events, one after another
abbrev pub text : List Event → List ℕ
text events = flat_map event_line events

-- which of a session's three disks
abbrev pub role_field : Role → List ℕ
role_field roles.Low = codes "low"
role_field roles.High = codes "high"
role_field roles.Recv = codes "recv"

-- the fields of the last line of an output that stops
abbrev pub fault_fields : Fault → List (List ℕ)
fault_fields Words = codes "fault" ∷ codes "words" ∷ []
fault_fields Read = codes "fault" ∷ codes "read" ∷ []
fault_fields (Script line) = codes "fault" ∷ codes "script" ∷ decimal line ∷ []
fault_fields (Device session role) = codes "fault" ∷ codes "device" ∷ decimal session ∷ role_field role ∷ []
fault_fields (Disk session role number first second) =
    codes "fault" ∷ codes "disk" ∷ decimal session ∷ role_field role ∷ decimal number ∷ decimal first ∷ decimal
    second ∷ []
fault_fields (FullLog session end length size) = codes "fault" ∷ codes "full" ∷ decimal session ∷ decimal end ∷ decimal
    length ∷ decimal size ∷ []

abbrev pub fault_line : Fault → List ℕ
fault_line fault = line_with_end (fault_fields fault)
