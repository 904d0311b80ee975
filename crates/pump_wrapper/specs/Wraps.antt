-- What the sending of a file over a session's pump comes to.
use Rattle.std.specs.Prelude.{◌≡◌, ℕ, ◌-◌, Bool, true, false, List, [], ◌∷◌, ◌++◌, length, Option, None, Some, Result}
use Rattle.std.specs.Prelude.{Ok, Err}
use Rattle.disk_model.specs.Disk.{Meaning}
use Rattle.disk_model.specs.declared.name.Role.{Role}
use Rattle.disk_model.specs.declared.name.Role.TheVariants as roles
use Rattle.pump_frame.specs.declared.payload.Payload.{Payload}
use Rattle.pump_frame.specs.declared.row.SessionRow.{SessionRow}
use Rattle.pump_core.specs.World.{World}
use Rattle.recovery.specs.declared.trio.Trio.{Trio}
use Rattle.recovery.specs.declared.why.Why.{Why}
use Rattle.recovery.specs.declared.why.Why.TheVariants as whys
use Rattle.script_reader.specs.Openings.{Found, CanOpen, accepted_in, first_past}
use Rattle.script_reader.specs.Past.{Past}
use Rattle.stable_buffer.specs.Log.{RecvStands}
use Rattle.stable_buffer.specs.Stands.{LowStands, HighStands}
use Rattle.two_worlds.specs.declared.applied.Stop.{Stop}
use Rattle.two_worlds.specs.declared.pump.Pump.{Pump}
use Rattle.two_worlds.specs.Pumps.{StandsFor}
use Rattle.pump_wrapper.specs.Comparing.{Begins}
use Rattle.pump_wrapper.specs.Halting.{Halts}
use Rattle.pump_wrapper.specs.Wrapped.{wrapped}
use Rattle.pump_wrapper.specs.Cutting.{to_come, IsTotal}
use Rattle.pump_wrapper.specs.Sending.{drain_lines, send_lines, greeting, LedBy, RoseBy}
use Rattle.pump_wrapper.specs.declared.compare.CompareFault.{CompareFault}
use Rattle.pump_wrapper.specs.declared.compare.CompareFault.TheVariants as compares
use Rattle.pump_wrapper.specs.declared.cutter.Cutter.{Cutter}
use Rattle.pump_wrapper.specs.declared.file_sender.WrapEnd.{WrapEnd}
use Rattle.pump_wrapper.specs.declared.file_sender.WrapEnd.TheVariants as ends

-- ---- what the disks hold ----

-- a session that begins with these messages, of which none is left
abbrev pub all_taken : List Payload → Found
all_taken messages = record { removed = length messages; received = messages; later = [] }

-- what a cutter had to give, of a source with these bytes left, where they are told
abbrev pub AreToCome : Cutter → Option (List ℕ) → List (List ℕ) → Type 0
AreToCome cutter None messages = Unit {0}
AreToCome cutter (Some left) messages = to_come cutter left ≡ messages

-- the disks of a session that holds just these messages: all were accepted, and all are taken and removed
pub record HoldAll (row : SessionRow) (messages : List (List ℕ)) (low high recv : List ℕ) : Type 0 where
  pub low_is : LowStands row (length messages) (length messages) [] low
  pub high_is : HighStands row (length messages) high
  pub recv_is : RecvStands row messages recv

-- .. of three disks, by what is read of them
abbrev pub DisksHoldAll : {D : Type 0} → Meaning D → SessionRow → List (List ℕ) → Trio D → Type 0
DisksHoldAll m row messages disks = HoldAll row messages (m.reading disks.low) (m.reading disks.high)
    (m.reading disks.recv)

-- .. and a session can begin on them
pub record HasAll {D : Type 0} (m : Meaning D) (row : SessionRow) (messages : List (List ℕ)) (disks : Trio D) : Type 0
  where
    pub can_open : CanOpen row (all_taken messages)
    pub hold : DisksHoldAll m row messages disks

-- the answer is not that all was sent
abbrev pub IsFailure : WrapEnd → Type 0
IsFailure (ends.Done bytes messages) = ⊥
IsFailure end = Unit {0}

-- so many messages are at the receiver now: these, and all further ones of a cutter
abbrev pub IsSent : {D : Type 0} → Meaning D → SessionRow → List (List ℕ) → Cutter → Option (List ℕ) → WrapEnd → Trio D
    → Type 0
IsSent m row messages cutter left (ends.Done bytes count) disks =
    (more : List (List ℕ)) × AreToCome cutter left more × (count ≡ length (messages ++ more))
    × DisksHoldAll m row (messages ++ more) disks
    × IsTotal cutter left bytes
IsSent m row messages cutter left end disks = Unit {0}

-- the answer is that the whole file is at the receiver
abbrev pub IsWhole : {D : Type 0} → Meaning D → SessionRow → List ℕ → WrapEnd → Trio D → Type 0
IsWhole m row file (ends.Done bytes messages) disks =
    (bytes ≡ length file) × (messages ≡ length (wrapped row.message file))
    × DisksHoldAll m row (wrapped row.message file) disks
IsWhole m row file end disks = Unit {0}

-- how an opening ends that failed
abbrev pub end_of_opening : Role → Option Why → WrapEnd
end_of_opening role None = ends.Memory
end_of_opening role (Some why) = ends.Refused role why

-- .. a comparison
abbrev pub end_of_comparison : Result (Unit {0}) CompareFault → Result (Unit {0}) WrapEnd
end_of_comparison (Ok done) = Ok tt
end_of_comparison (Err (compares.Device faults)) = Err (ends.Refused roles.Recv (whys.Device faults))
end_of_comparison (Err (compares.Differs number)) = Err (ends.Differs number)
end_of_comparison (Err compares.Read) = Err ends.Read
end_of_comparison (Err compares.TooLong) = Err ends.TooLong

-- .. a sending of so many bytes
abbrev pub end_of_sending : ℕ → Result ℕ WrapEnd → WrapEnd
end_of_sending bytes (Ok messages) = ends.Done bytes messages
end_of_sending bytes (Err end) = end

-- the file is too long
abbrev pub is_too_long : WrapEnd → Bool
is_too_long ends.TooLong = true
is_too_long end = false

abbrev pub is_long_in : {T : Type 0} → Result T WrapEnd → Bool
is_long_in (Ok value) = false
is_long_in (Err end) = is_too_long end

-- ---- a pump ----

-- just these messages were accepted, and all are removed
pub record HasPassed (messages : List Payload) (w : World) : Type 0 where
  pub accepted : w.accepted ≡ messages
  pub removed : w.removed ≡ length messages

-- a pump that began on what was found, and was emptied
abbrev pub Drains : {D : Type 0} {g : _} → Meaning D → Pump D g → SessionRow → Found → Result (Unit {0}) Stop → Type 0
Drains m t row f (Ok done) =
    (q : Past) × LedBy row (first_past row f) (drain_lines row (length (accepted_in f) - f.removed) 0) q
    × StandsFor m t q × HasPassed (accepted_in f) q.world
Drains m t row f (Err stop) = Halts m t (accepted_in f) (accepted_in f) stop

-- messages are the first of those that a cutter had to give, of a source with these bytes left, where they are told
abbrev pub AreFirst : Cutter → Option (List ℕ) → List (List ℕ) → Type 0
AreFirst cutter None messages = Unit {0}
AreFirst cutter (Some left) messages = Begins messages (to_come cutter left)

-- just these messages are accepted and removed
abbrev pub Passes : {D : Type 0} {g : _} → Meaning D → Pump D g → List Payload → Type 0
Passes m t messages = (q : Past) × StandsFor m t q × HasPassed messages q.world

-- a pump that began with these messages, over which further ones of a cutter were sent until this end
abbrev pub SendsPart : {D : Type 0} {g : _} → Meaning D → Pump D g → List Payload → Cutter → Option (List ℕ) → WrapEnd
    → Type 0
SendsPart m t messages cutter left (ends.Stopped stop) = (more : List (List ℕ)) × AreFirst cutter left more
    × Halts m t messages (messages ++ more) stop
SendsPart m t messages cutter left ends.Read = (more : List (List ℕ)) × AreFirst cutter left more
    × Passes m t (messages ++ more)
SendsPart m t messages cutter left ends.TooLong = (more : List (List ℕ)) × AreFirst cutter left more
    × Passes m t (messages ++ more)
SendsPart m t messages cutter left end = ⊥

-- a pump that began with these messages, and over which all further ones of a cutter were sent
abbrev pub Sends : {D : Type 0} {g : _} → Meaning D → Pump D g → SessionRow → List Payload → Cutter → Option (List ℕ)
    → Result ℕ WrapEnd → Type 0
Sends m t row messages cutter left (Ok count) =
    (more : List (List ℕ)) × (q : Past)
    × LedBy row (first_past row (all_taken messages)) (greeting row ∷ send_lines row (length messages) 0 more) q
    × StandsFor m t q × HasPassed (messages ++ more) q.world × (count ≡ length (messages ++ more))
    × AreToCome cutter left more
Sends m t row messages cutter left (Err end) = SendsPart m t messages cutter left end

-- a disk stops a sending only where its count of failed calls rose; nothing but these stops it
abbrev pub SendCause : {D : Type 0} {g : _} → Meaning D → Pump D g → Pump D g → WrapEnd → Type 0
SendCause m s t (ends.Stopped stop) = RoseBy m s t stop
SendCause m s t ends.Read = Unit {0}
SendCause m s t ends.TooLong = Unit {0}
SendCause m s t end = ⊥
