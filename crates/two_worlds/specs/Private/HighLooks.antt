-- A high look of a pump, with the TAKEN that comes back, with a receiver that attaches, or with neither.
use Rattle.std.specs.Prelude.{◌≡◌, ℕ, zero, suc, Bool, true, false, List, [], ◌∷◌, ◌++◌, length, slice_get, Option}
use Rattle.std.specs.Prelude.{Some, None}
use Rattle.circular_buffer.specs.Buffer.{Buffer, buffer, keep_last}
use Rattle.disk_model.specs.declared.name.Role.{Role}
use Rattle.disk_model.specs.declared.name.Role.TheVariants as roles
use Rattle.pump_frame.specs.declared.frame.Frame.{Frame}
use Rattle.pump_frame.specs.declared.frame.Item.{Item}
use Rattle.pump_frame.specs.declared.frame.Kind.TheVariants.{Attach, Taken}
use Rattle.pump_frame.specs.declared.row.SessionRow.{SessionRow}
use Rattle.pump_core.specs.World.{World}
use Rattle.high_process.specs.declared.values.HighLook.{HighLook}
use Rattle.script_reader.specs.declared.event.Event.{Event}
use Rattle.script_reader.specs.declared.event.Event.TheVariants.{Removed, Sent, Attach as AttachLine}
use Rattle.script_reader.specs.Past.{Past}
use Rattle.script_reader.specs.Highs.{IsWholeLook, IsReturnBy, IsAttach, is_ahead}
use Rattle.script_reader.specs.Breaks.{IsUnremoved, IsUnattached}

-- this frame comes back, or none does
abbrev pub frame_when : Bool → Frame → Option Frame
frame_when true f = Some f
frame_when false f = None

-- the TAKEN at this place of those ever sent is that of the last of so many messages, or there are none
abbrev pub IsOfLast : World → ℕ → Option ℕ → Type 0
IsOfLast w zero None = Unit {0}
IsOfLast w zero (Some k) = ⊥
IsOfLast w (suc n) None = ⊥
IsOfLast w (suc n) (Some k) = slice_get w.returned k ≡ Some n

-- what comes is the session's TAKEN at this place of those ever sent; or the ATTACH of its receiver, with
-- the place of the TAKEN of the last message that it has; or nothing
abbrev pub ComesBack : ℕ → World → Bool → Option Frame → Option ℕ → Type 0
ComesBack session w false None None = Unit {0}
ComesBack session w false None (Some k) = ⊥
ComesBack session w false (Some f) None = ⊥
ComesBack session w false (Some f) (Some k) =
    (f.kind ≡ Taken) × (f.session ≡ session) × (slice_get w.returned k ≡ Some f.number)
ComesBack session w true None back = ⊥
ComesBack session w true (Some f) back =
    (f.kind ≡ Attach) × (f.session ≡ session) × (f.number ≡ length w.received) × IsOfLast w f.number back

-- a high look at m leads from p to q, in which a receiver attaches or none does; or the TAKEN is refused
abbrev pub LeadsWith : SessionRow → ℕ → Bool → Option ℕ → Past → Past → List Event → Type 0
LeadsWith row m attaches None p q printed = IsWholeLook row attaches p m None q printed
LeadsWith row m attaches (Some k) p q printed = IsReturnBy (is_ahead p.world k) row attaches p m k q printed

-- the high disk fails in the removal that a TAKEN brings
abbrev pub BreaksWith : ℕ → Option ℕ → Role → Past → Past → List Event → Type 0
BreaksWith m None role p q printed = ⊥
BreaksWith m (Some k) role p q printed =
    (role ≡ roles.High) × IsUnremoved p m (Some k) q × (printed ≡ [])

-- ---- a receiver that attaches ----

-- the receiver attaches at m with its count, which is printed before what the look prints
abbrev pub Attaches : SessionRow → ℕ → Past → Past → List Event → Type 0
Attaches row m p q printed =
    (more : List Event) × IsAttach row p m (length p.world.received) q more
    × (printed ≡ AttachLine row.id m (length p.world.received) ∷ more)

-- .. and the high disk fails in the removal
abbrev pub BreaksAttaching : SessionRow → ℕ → Role → Past → Past → List Event → Type 0
BreaksAttaching row m role p q printed =
    (role ≡ roles.High) × IsUnattached p m q × (printed ≡ AttachLine row.id m (length p.world.received) ∷ [])

-- ---- the steps of the code ----

-- so many lines are printed at most
abbrev pub most_lines : Option Frame → ℕ
most_lines None = 1
most_lines (Some f) = 2

-- the line of a removal, and the line of a sending
abbrev pub removed_line : ℕ → ℕ → Option ℕ → Option ℕ → List Event
removed_line session m None time = []
removed_line session m (Some n) time = Removed session m n time ∷ []

abbrev pub sent_line : ℕ → ℕ → Option ℕ → List Event
sent_line session m None = []
sent_line session m (Some n) = Sent session m n ∷ []

abbrev pub printed_look : ℕ → ℕ → HighLook → List Event
printed_look session m look = removed_line session m look.removed look.published ++ sent_line session m look.sent

-- the packets after a look that sent this number, with this in the hand
abbrev pub packets_after : Option ℕ → Option Item → Buffer Item → Buffer Item
packets_after None hand packets = packets
packets_after (Some n) None packets = packets
packets_after (Some n) (Some item) packets =
    buffer (keep_last packets.capacity (packets.items ++ item ∷ [])) packets.capacity
