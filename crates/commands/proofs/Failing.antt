-- Which disk failed, once the disks are back on the shelf.
use Rattle.std.proofs.Common.{◌≡◌, ◌≤◌, ℕ, Bool, true, false, Result, Ok, Err, IfErr, inl, inr, refl, sym, ◌∙◌, subst, arith}
use Rattle.std.specs.Prelude.{◌⊎◌}
use Rattle.disk_model.specs.Disk.{Meaning}
use Rattle.disk_model.specs.Shelf.{Holdings, OnShelf}
use Rattle.disk_model.specs.declared.name.Role.{Role}
use Rattle.disk_model.specs.declared.name.Role.TheVariants as roles
use Rattle.disk_model.specs.declared.shelf.ShelfFault.{ShelfFault}
use Rattle.disk_model.specs.declared.shelf.ShelfFault.TheVariants as shelf
use Rattle.pump_frame.specs.Counts.{Rose}
use Rattle.script_replay.specs.Failing.{IsNotGiven, CameBackFailed, FailsBetween, FailsAt}
use Rattle.script_replay.specs.Lending.{IsOutAt, RisesAt, AreOnShelf}
use Rattle.script_replay.specs.Shelves.{Places, disk_name, LeavesOtherSessions}
use Rattle.recovery.specs.declared.trio.Trio.{Trio}
use Rattle.script_replay.proofs.Shelving.{rose_more}
use Rattle.commands.specs.LentDisks.{IsNotGivenFirst, RecvFailsAt}
use Rattle.commands.specs.Migrating.{session_at}
use Rattle.commands.specs.Migrating as moves
use Rattle.commands.specs.TakenDisks.{AreOutAt, RoseAt}
use Rattle.command_ends.specs.declared.command_end.CommandEnd.{CommandEnd}
use Rattle.command_ends.specs.declared.command_end.CommandEnd.TheVariants.{Memory, Failed}
use Rattle.commands.proofs.LentDisks.{rises_back}

-- nothing was done with the disks before
pub fails_later : {S D : Type 0} (m : Holdings S) (d : Meaning D) (old mid new : S) (session : ℕ) (role : Role) → m.disk mid ≡ m.disk old → m.disk_faults mid ≡ m.disk_faults old → FailsAt m d mid new session role
    → FailsAt m d old new session role
fails_later m d old mid new session role same counts (rose, fails) =
    (subst (λ (n : ℕ). Rose n (m.disk_faults new)) counts rose, subst (λ (p : Places). FailsBetween m d p (m.disk new) session role) same fails)

-- it was not given, of a session that nothing was done with before
pub not_given_later : {S : Type 0} (m : Holdings S) (old mid : S) (one two : ℕ) (role : Role) → (two ≡ one → ⊥) → LeavesOtherSessions (m.disk old) (m.disk mid) one → IsNotGiven m (m.disk mid) two role → IsNotGiven m (m.disk old) two role
not_given_later m old mid one two role apart others given = record {
  asked = given.asked;
  answered = given.answered;
  still = given.still;
  rose = given.rose;
  taken = given.taken;
  there = λ other later. given.there other later ∙ others (disk_name two other) apart;
}

-- the end where a disk could not be taken names it
pub untaken_names : {S D : Type 0} (m : Holdings S) (d : Meaning D) (old new : S) (session : ℕ) (at : Role) (fault : ShelfFault) (end : CommandEnd)
    → (fault ≡ shelf.Memory → end ≡ Memory) → (fault ≡ shelf.Failed → end ≡ Failed at) → (fault ≡ shelf.Failed → Rose (m.disk_faults old) (m.disk_faults new)) → (fault ≡ shelf.Failed → IsNotGiven m (m.disk old) session at)
    → (role : Role) → end ≡ Failed role → FailsAt m d old new session role
untaken_names m d old new session at shelf.Memory end memory failed rose asked role is = let other = memory refl in cc (sym other ∙ is)
untaken_names m d old new session at shelf.Failed end memory failed rose asked role is =
    let other : Failed at ≡ Failed role = sym (failed refl) ∙ is in
    let same : at ≡ role = cc in
    (rose refl, inl (subst (λ (r : Role). IsNotGiven m (m.disk old) session r) same (asked refl)))

-- .. of a session that nothing was done with before, and behind which those of the first one were put back
pub rose_within : (old mid answered last : ℕ) → old ≤ mid → answered ≤ last → Rose mid answered → Rose old last
rose_within old mid answered last before behind rose = omega (arith, before, behind, rose)

pub second_untaken_names : {S D : Type 0} (m : Holdings S) (d : Meaning D) (old mid answered last : S) (one two : ℕ) (at : Role) (fault : ShelfFault) (end : CommandEnd)
    → (two ≡ one → ⊥) → LeavesOtherSessions (m.disk old) (m.disk mid) one → m.disk_faults old ≤ m.disk_faults mid → m.disk_faults answered ≤ m.disk_faults last
    → (fault ≡ shelf.Memory → end ≡ Memory) → (fault ≡ shelf.Failed → end ≡ Failed at) → (fault ≡ shelf.Failed → Rose (m.disk_faults mid) (m.disk_faults answered)) → (fault ≡ shelf.Failed → IsNotGiven m (m.disk mid) two at)
    → (role : Role) → end ≡ Failed role → FailsAt m d old last two role
second_untaken_names m d old mid answered last one two at shelf.Memory end apart others before behind memory failed rose asked role is = let other = memory refl in cc (sym other ∙ is)
second_untaken_names m d old mid answered last one two at shelf.Failed end apart others before behind memory failed rose asked role is =
    let other : Failed at ≡ Failed role = sym (failed refl) ∙ is in
    let same : at ≡ role = cc in (
      rose_within (m.disk_faults old) (m.disk_faults mid) (m.disk_faults answered) (m.disk_faults last) before behind (rose refl),
      inl (subst (λ (r : Role). IsNotGiven m (m.disk old) two r) same (not_given_later m old mid one two at apart others (asked refl))),
    )

-- it came back
pub came_back : {S D : Type 0} (m : Holdings S) (d : Meaning D) (lent last : S) (session : ℕ) (old new : Trio D) → AreOutAt d (m.disk lent) session old
    → (m.tells → AreOnShelf (m.disk last) session (d.reading new.low) (d.reading new.high) (d.reading new.recv)) → (role : Role) → RoseAt d role old new → CameBackFailed m d (m.disk last) session role
came_back m d lent last session old new out on roles.Low rose =
    let (given, is, low) = out.0 in record { lent = lent; given = given; disk = new.low; out = is; rose = rose_more given _ _ low rose; back = λ told. (on told).low_on }
came_back m d lent last session old new out on roles.High rose =
    let (given, is, low) = out.1 in record { lent = lent; given = given; disk = new.high; out = is; rose = rose_more given _ _ low rose; back = λ told. (on told).high_on }
came_back m d lent last session old new out on roles.Recv rose =
    let (given, is, low) = out.2 in record { lent = lent; given = given; disk = new.recv; out = is; rose = rose_more given _ _ low rose; back = λ told. (on told).recv_on }

-- .. of the one session or the other
pub one_came_back : {S D : Type 0} (m : Holdings S) (d : Meaning D) (lent last : S) (one two : ℕ) (old old_now new new_now : Trio D) → AreOutAt d (m.disk lent) one old → AreOutAt d (m.disk lent) two new
    → (m.tells → AreOnShelf (m.disk last) one (d.reading old_now.low) (d.reading old_now.high) (d.reading old_now.recv)) → (m.tells → AreOnShelf (m.disk last) two (d.reading new_now.low) (d.reading new_now.high) (d.reading new_now.recv))
    → (is_new : Bool) (role : Role) → moves.FailsAt d is_new role old old_now new new_now → CameBackFailed m d (m.disk last) (session_at one two is_new) role
one_came_back m d lent last one two old old_now new new_now out new_out on new_on true role rose = came_back m d lent last two new new_now new_out new_on role rose
one_came_back m d lent last one two old old_now new new_now out new_out on new_on false role rose = came_back m d lent last one old old_now out on role rose

-- ---- the receiver's disk, which is taken alone ----

-- nothing was done with the disks before
pub recv_fails_later : {S D : Type 0} (m : Holdings S) (d : Meaning D) (old mid new : S) (session : ℕ) (role : Role) → m.disk mid ≡ m.disk old → m.disk_faults mid ≡ m.disk_faults old → RecvFailsAt m d mid new session role
    → RecvFailsAt m d old new session role
recv_fails_later m d old mid new session role same counts (is, rose, fails) = (
  is,
  subst (λ (n : ℕ). Rose n (m.disk_faults new)) counts rose,
  subst (λ (p : Places). IsNotGivenFirst m p ⊎ CameBackFailed m d (m.disk new) session roles.Recv) same fails,
)

-- the end where it could not be taken names it
pub recv_untaken_names : {S D : Type 0} (m : Holdings S) (d : Meaning D) (old new : S) (session : ℕ) (at : Role) (fault : ShelfFault) (end : CommandEnd) → at ≡ roles.Recv
    → (fault ≡ shelf.Memory → end ≡ Memory) → (fault ≡ shelf.Failed → end ≡ Failed at) → m.disk new ≡ m.disk old → (fault ≡ shelf.Failed → Rose (m.disk_faults old) (m.disk_faults new))
    → (role : Role) → end ≡ Failed role → RecvFailsAt m d old new session role
recv_untaken_names m d old new session at shelf.Memory end recv memory failed still rose role is = let other = memory refl in cc (sym other ∙ is)
recv_untaken_names m d old new session at shelf.Failed end recv memory failed still rose role is =
    let other : Failed at ≡ Failed role = sym (failed refl) ∙ is in
    let same : at ≡ role = cc in
    (sym same ∙ recv, rose refl, inl (record { asked = old; answered = new; there = refl; still = still; rose = rose refl }))

-- it came back
pub recv_came_back : {S D : Type 0} (m : Holdings S) (d : Meaning D) (old lent last : S) (session : ℕ) (given now : D) → IsOutAt (m.disk lent) session roles.Recv (d.count given) → Rose (d.count given) (d.count now)
    → m.disk_faults old ≤ m.disk_faults lent → RisesAt (m.disk lent) session roles.Recv (d.count now) (m.disk_faults lent) (m.disk_faults last) → (m.tells → m.disk last (disk_name session roles.Recv) ≡ OnShelf (d.reading now))
    → (role : Role) → role ≡ roles.Recv → RecvFailsAt m d old last session role
recv_came_back m d old lent last session given now out rose later rises back role is =
    let (count, at, low) = out in (
      is,
      rises_back (m.disk lent) session roles.Recv (d.count given) (d.count now) (m.disk_faults old) (m.disk_faults lent) (m.disk_faults last) out rose later rises,
      inr (record { lent = lent; given = count; disk = now; out = at; rose = rose_more count _ _ low rose; back = back }),
    )
