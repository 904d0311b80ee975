-- Disks of a session, one by one, off the shelf and back on it, and how a command ends that a disk stops.
use Rattle.std.proofs.Common.{◌≡◌, ◌⊎◌, ◌≤◌, ℕ, false, List, Some, inl, inr, refl, sym, ap, ◌∙◌, subst, arith}
use Rattle.std.proofs.lemmas.Bool.{cases_eq}
use Rattle.disk_model.specs.declared.name.DiskName.{DiskName}
use Rattle.disk_model.specs.declared.name.Role.{Role}
use Rattle.disk_model.specs.declared.name.Role.TheVariants as roles
use Rattle.disk_model.specs.declared.shelf.ShelfFault.{ShelfFault}
use Rattle.disk_model.specs.declared.shelf.ShelfFault.TheVariants as shelf_faults
use Rattle.disk_model.specs.Shelf.{Whereabouts, OnShelf, IsOut}
use Rattle.pump_frame.specs.Counts.{Rose}
use Rattle.pump_frame.specs.declared.row.SessionRow.{SessionRow}
use Rattle.recovery.specs.Calls.{is_device}
use Rattle.recovery.specs.Refusals.{refused_receiver}
use Rattle.recovery.specs.declared.why.Why.{Why}
use Rattle.recovery.specs.declared.why.Why.TheVariants as whys
use Rattle.script_replay.specs.Lending.{ReadAt, IsOutAt, RisesAt}
use Rattle.script_replay.specs.Shelves.{Places, disk_name, reading_in, AllAreBack, ReadsAlike}
use Rattle.script_replay.proofs.Shelving.{read_in}
use Rattle.stable_buffer.specs.Format.{receiver_size}
use Rattle.commands.specs.LentDisks.{LeavesOtherDisks, LeavesBut, StopsAtDisk}
use Rattle.commands.specs.Showing.{end_at}
use Rattle.command_ends.specs.declared.command_end.CommandEnd.{CommandEnd}
use Rattle.command_ends.specs.declared.command_end.CommandEnd.TheVariants.{Memory, Failed}

-- ---- names ----

same_role : (a b : Role) → (a ≡ b) ⊎ (a ≡ b → ⊥)
same_role roles.Low roles.Low = inl refl
same_role roles.Low roles.High = inr (λ e. cc)
same_role roles.Low roles.Recv = inr (λ e. cc)
same_role roles.High roles.Low = inr (λ e. cc)
same_role roles.High roles.High = inl refl
same_role roles.High roles.Recv = inr (λ e. cc)
same_role roles.Recv roles.Low = inr (λ e. cc)
same_role roles.Recv roles.High = inr (λ e. cc)
same_role roles.Recv roles.Recv = inl refl

-- a disk has this name or another one
pub is_named : (name : DiskName) (session : ℕ) (role : Role) → (name ≡ disk_name session role) ⊎ (name ≡ disk_name session role → ⊥)
is_named name session role = elim (cases_eq name.session session) [
  | inl same ↦ elim (same_role name.role role) [
    | inl also ↦ inl (λ i. record { session = same i; role = also i })
    | inr other ↦ inr (λ e. other (ap (λ (n : DiskName). n.role) e))
  ]
  | inr other ↦ inr (λ e. other (ap (λ (n : DiskName). n.session) e))
]

not_out : (w : Whereabouts) (reading : List ℕ) → w ≡ OnShelf reading → IsOut w → ⊥
not_out w reading on out = subst IsOut on out

-- ---- one disk ----

module _ (before mid now : Places) (session : ℕ) (role : Role) (taken : LeavesOtherDisks before mid (disk_name session role)) (returned : LeavesOtherDisks mid now (disk_name session role)) where
  pub others_so : LeavesOtherDisks before now (disk_name session role)
  others_so other ne = returned other ne ∙ taken other ne

  pub all_back : (reading : List ℕ) → now (disk_name session role) ≡ OnShelf reading → AllAreBack before now
  all_back reading on name out = elim (is_named name session role) [
    | inl same ↦ absurd (not_out (now name) reading (ap now same ∙ on) out)
    | inr other ↦ subst IsOut (others_so name other) out
  ]

  -- where it reads what it did, all do
  pub alike : (reading : List ℕ) → ReadAt before session role reading → now (disk_name session role) ≡ OnShelf reading → ReadsAlike before now
  alike reading was on name = elim (is_named name session role) [
    | inl same ↦ ap (λ (n : DiskName). reading_in (now n)) same ∙ ap reading_in on ∙ sym (read_in _ _ was) ∙ ap (λ (n : DiskName). reading_in (before n)) (sym same)
    | inr other ↦ ap reading_in (others_so name other)
  ]

-- ---- the low disk and the high one ----

module _ (before mid now : Places) (session : ℕ) (taken : LeavesBut before mid session) (returned : LeavesBut mid now session) where
  pub both_others : LeavesBut before now session
  both_others other low high = returned other low high ∙ taken other low high

  module _ (low high : List ℕ) (low_on : now (disk_name session roles.Low) ≡ OnShelf low) (high_on : now (disk_name session roles.High) ≡ OnShelf high) where
    pub both_back : AllAreBack before now
    both_back name out = elim (is_named name session roles.Low) [
      | inl same ↦ absurd (not_out (now name) low (ap now same ∙ low_on) out)
      | inr other ↦ elim (is_named name session roles.High) [
        | inl same ↦ absurd (not_out (now name) high (ap now same ∙ high_on) out)
        | inr too ↦ subst IsOut (both_others name other too) out
      ]
    ]

-- ---- the end of a command ----

-- a disk that could not be taken
pub untaken_stops : (found : List ℕ) (row : SessionRow) (fault : ShelfFault) (end : CommandEnd) → (fault ≡ shelf_faults.Memory → end ≡ Memory) → (fault ≡ shelf_faults.Failed → end ≡ Failed roles.Recv) → StopsAtDisk found row end
untaken_stops found row shelf_faults.Memory end memory failed = subst (StopsAtDisk found row) (sym (memory refl)) tt
untaken_stops found row shelf_faults.Failed end memory failed = subst (StopsAtDisk found row) (sym (failed refl)) tt

-- the shelf's count rises where that of a disk that comes back rose
pub rises_back : (places : Places) (session : ℕ) (role : Role) (count now before mid after : ℕ) → IsOutAt places session role count → Rose count now → before ≤ mid → RisesAt places session role now mid after → Rose before after
rises_back places session role count now before mid after out rose low rises =
    let least = out.2 in
    let r : Rose mid after = rises out.0 out.1 (omega (arith, least, rose)) in
    omega (arith, low, r)

-- a disk of the receiver that is refused
pub stops_at_disk : (found : List ℕ) (row : SessionRow) (why : Why) → (is_device why ≡ false → refused_receiver row receiver_size found ≡ Some why) → StopsAtDisk found row (end_at roles.Recv (Some why))
stops_at_disk found row (whys.Device faults) is = tt
stops_at_disk found row (whys.NotABuffer size bytes) is = is refl
stops_at_disk found row (whys.WrongShape field at wanted) is = is refl
stops_at_disk found row (whys.BadRegister first second) is = is refl
stops_at_disk found row (whys.Mismatch removed accepted) is = is refl
stops_at_disk found row (whys.BadSlot number length) is = is refl
stops_at_disk found row (whys.Apart count bound) is = is refl
stops_at_disk found row (whys.Differs number) is = is refl
stops_at_disk found row (whys.NotEmpty size) is = is refl
stops_at_disk found row (whys.Small held capacity) is = is refl
stops_at_disk found row (whys.TooLong number size) is = is refl

-- the disk that a refusal names
pub refused_role : (at role : Role) (why : Why) → end_at at (Some why) ≡ Failed role → role ≡ at
refused_role at role (whys.Device faults) e = cc
refused_role at role (whys.NotABuffer size bytes) e = cc
refused_role at role (whys.WrongShape field found wanted) e = cc
refused_role at role (whys.BadRegister first second) e = cc
refused_role at role (whys.Mismatch removed accepted) e = cc
refused_role at role (whys.BadSlot number length) e = cc
refused_role at role (whys.Apart count bound) e = cc
refused_role at role (whys.Differs number) e = cc
refused_role at role (whys.NotEmpty size) e = cc
refused_role at role (whys.Small held capacity) e = cc
refused_role at role (whys.TooLong number size) e = cc
