-- What crashes leave of a receiver's disk over which a file is sent.
use Rattle.std.specs.Prelude.{ℕ, List}
use Rattle.disk_model.specs.Disk.{Meaning}
use Rattle.pump_frame.specs.declared.payload.Payload.{Payload}
use Rattle.pump_frame.specs.declared.row.SessionRow.{SessionRow}
use Rattle.stable_buffer.specs.Log.{RecvStands}
use Rattle.two_worlds.specs.Doing.{LeavesOn}
use Rattle.pump_wrapper.specs.Comparing.{Begins}

-- an image of a receiver's disk has a list of messages that these begin with
abbrev pub HasPrefix : SessionRow → List Payload → List ℕ → Type 0
HasPrefix row all image = (messages : List Payload) × RecvStands row messages image × Begins messages all

-- whatever a crash leaves of the disk has such a list
abbrev pub LeavesPrefix : {D : Type 0} → Meaning D → SessionRow → List Payload → D → Type 0
LeavesPrefix m row all disk = (image : List ℕ) → m.images disk image → HasPrefix row all image

-- whatever a crash at any moment since the disk was `old` left of it has such a list
abbrev pub LeavesPrefixSince : {D : Type 0} → Meaning D → SessionRow → List Payload → D → D → Type 0
LeavesPrefixSince m row all old new = (image : List ℕ) → m.since new (m.moment old) image → HasPrefix row all image

-- whatever a crash at any moment leaves of the disk has such a list, or could be left before it was `old`
abbrev pub KeepsPrefix : {D : Type 0} → Meaning D → SessionRow → List Payload → D → D → Type 0
KeepsPrefix m row all old new = LeavesOn m old new (HasPrefix row all)
