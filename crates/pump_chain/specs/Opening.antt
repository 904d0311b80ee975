-- What a chain begins on, and what comes back of six disks that make none.
use Rattle.std.specs.Prelude.{◌≡◌, ◌⊎◌, ℕ, Bool, true, false, Option, Some, None}
use Rattle.disk_model.specs.Disk.{Meaning}
use Rattle.disk_model.specs.declared.name.Role.{Role}
use Rattle.disk_model.specs.declared.name.Role.TheVariants as roles
use Rattle.pump_frame.specs.declared.row.SessionRow.{SessionRow}
use Rattle.recovery.specs.Calls.{is_device}
use Rattle.recovery.specs.declared.trio.Trio.{Trio}
use Rattle.recovery.specs.declared.why.Why.{Why}
use Rattle.recovery.specs.declared.why.Why.TheVariants.{Device}
use Rattle.script_reader.specs.Openings.{Found, accepted_in, first_past}
use Rattle.two_worlds.specs.declared.not_open.NotOpen.{NotOpen}
use Rattle.two_worlds.specs.declared.pump.Pump.{Pump}
use Rattle.world_laws.specs.Disks.{CrashesOpen}
use Rattle.two_worlds.specs.Openings.{DisksStandFor, LeavesDisk, ComeBack}
use Rattle.two_worlds.specs.Pumps.{disk_at}
use Rattle.two_worlds.specs.Rooms.{HasRoom, is_role}
use Rattle.pump_chain.specs.Chained.{Chained, unsent}
use Rattle.pump_chain.specs.Comparing.{IsUnlinked}
use Rattle.pump_chain.specs.declared.not_chained.ChainWhy.{ChainWhy}
use Rattle.pump_chain.specs.declared.not_chained.ChainWhy.TheVariants as reasons
use Rattle.pump_chain.specs.declared.six.Six.{Six}

-- two sessions before their first line, on what was found on their disks
abbrev pub first_chained : SessionRow → Found → SessionRow → Found → Chained
first_chained one f two h = record {
  first = record { row = one; past = first_past one f };
  second = record { row = two; past = first_past two h };
  sender = unsent;
  is_under_way = false;
}

-- ---- three disks ----

abbrev pub trio_of : {D : Type 0} {g : _} → Pump D g → Trio D
trio_of pump = record { low = disk_at roles.Low pump; high = disk_at roles.High pump; recv = disk_at roles.Recv pump }

-- those of a pump that is not opened
abbrev pub trio_back : {D : Type 0} → NotOpen D → Trio D
trio_back e = record { low = e.low; high = e.high; recv = e.recv }

-- the disk of a role
abbrev pub disk_in : {D : Type 0} → Role → Trio D → D
disk_in roles.Low t = t.low
disk_in roles.High t = t.high
disk_in roles.Recv t = t.recv

-- each formatted where it is empty, they stand for this
abbrev pub StandFor : {D : Type 0} → Meaning D → SessionRow → Trio D → Found → Type 0
StandFor m row t f = DisksStandFor m row t.low t.high t.recv f

abbrev pub HaveRoom : {D : Type 0} → Meaning D → SessionRow → Trio D → Type 0
HaveRoom m row t = HasRoom m row t.low t.high t.recv

-- it is this role's disk that failed, if one did
abbrev pub is_failed : Role → Option Role → Bool
is_failed role None = false
is_failed role (Some failed) = is_role role failed

-- each disk is as it was, or it was empty and is a new one; and a call of one failed, or none did
pub record AreLeft {D : Type 0} (m : Meaning D) (row : SessionRow) (old new : Trio D) (failed : Option Role) : Type 0
  where
    pub low : LeavesDisk m row roles.Low old.low new.low (is_failed roles.Low failed)
    pub high : LeavesDisk m row roles.High old.high new.high (is_failed roles.High failed)
    pub recv : LeavesDisk m row roles.Recv old.recv new.recv (is_failed roles.Recv failed)

-- a pump of the row was opened on them, and they come back from it: whatever crashes leave of them opens again
pub record HandsBack {D : Type 0} (m : Meaning D) (row : SessionRow) (old new : Trio D) (failed : Option Role) : Type 0
  where
    pub found : m.tells → (f : Found) × StandFor m row old f
    pub left : AreLeft m row old new failed
    pub crashes : CrashesOpen m row new.low new.high new.recv

-- .. or no pump of the row is opened on them, for this cause, which is the first: memory was wanting, and no disk was
-- called; or its own opening refuses one
abbrev pub IsUnopened : {D : Type 0} → Meaning D → SessionRow → Trio D → Trio D → ChainWhy → Type 0
IsUnopened m row old new reasons.Memory = new ≡ old
IsUnopened m row old new (reasons.Pump session role why) =
    (session ≡ row.id) × ComeBack m row old.low old.high old.recv
    (record { role = role; why = Some why; low = new.low; high = new.high; recv = new.recv })
IsUnopened m row old new (reasons.Link count bound) = ⊥
IsUnopened m row old new (reasons.Unlike number) = ⊥

-- .. by the cause that its own opening gives
abbrev pub cause_of : ℕ → Role → Option Why → ChainWhy
cause_of session role None = reasons.Memory
cause_of session role (Some why) = reasons.Pump session role why

-- ---- six disks ----

-- both pumps were opened
abbrev pub HandBoth : {D : Type 0} → Meaning D → SessionRow → SessionRow → Six D → Six D → Option Role → Option Role
    → Type 0
HandBoth m one two old new first second = HandsBack m one old.first new.first first
    × HandsBack m two old.second new.second second

-- a disk failed in the comparison, and its count is told: the first receiver's, or of the second pump the low one or
-- the receiver's
abbrev pub IsUnread : {D : Type 0} → Meaning D → SessionRow → SessionRow → Six D → Six D → ℕ → Role → Why → Type 0
IsUnread m one two old new session role why =
    ((session ≡ one.id) × (role ≡ roles.Recv) × HandBoth m one two old new (Some role) None
    × (why ≡ Device (m.count (disk_in role new.first))))
    ⊎ ((session ≡ two.id) × ((role ≡ roles.Low) ⊎ (role ≡ roles.Recv)) × HandBoth m one two old new None (Some role)
    × (why ≡ Device (m.count (disk_in role new.second))))

-- both pumps were opened and compared, and make no chain for this cause: a disk failed; or else the second one has
-- accepted what the first receiver has not, or has otherwise
abbrev pub IsApart : {D : Type 0} → Meaning D → SessionRow → SessionRow → Six D → Six D → ChainWhy → Type 0
IsApart m one two old new reasons.Memory = ⊥
IsApart m one two old new (reasons.Pump session role why) = IsUnread m one two old new session role why
IsApart m one two old new why = HandBoth m one two old new None None
    × (m.tells → (f h : Found) → StandFor m one old.first f → StandFor m two old.second h
    → IsUnlinked (accepted_in h) f.received why)

-- Six disks make no chain for this cause, and come back: the first pump is not opened, and the second one's disks are
-- as they were; or else the second one is not; or else the two are apart
abbrev pub ComeBackFor : {D : Type 0} → Meaning D → SessionRow → SessionRow → Six D → Six D → ChainWhy → Type 0
ComeBackFor m one two old new why =
    (IsUnopened m one old.first new.first why × (new.second ≡ old.second))
    ⊎ ((HandsBack m one old.first new.first None × IsUnopened m two old.second new.second why)
    ⊎ IsApart m one two old new why)

-- ---- which causes ----

-- memory was wanting, or a call of a disk failed
abbrev pub IsExcused : ChainWhy → Type 0
IsExcused reasons.Memory = Unit {0}
IsExcused (reasons.Pump session role why) = is_device why ≡ true
IsExcused (reasons.Link count bound) = ⊥
IsExcused (reasons.Unlike number) = ⊥

-- a call of a disk failed
abbrev pub is_by_device : ChainWhy → Bool
is_by_device (reasons.Pump session role why) = is_device why
is_by_device why = false
