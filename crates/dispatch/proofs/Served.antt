-- What the end of a call of `serve` says of the session.
use Rattle.std.proofs.Common.{◌≡◌, ◌⊎◌, ◌≤◌, ℕ, false, List, Option, Some, inl, inr, refl, sym, ap, ◌∙◌, subst}
use Rattle.disk_model.specs.Disk.{Meaning}
use Rattle.disk_model.specs.Shelf.{Holdings, OnShelf}
use Rattle.disk_model.specs.declared.name.Role.{Role}
use Rattle.disk_model.specs.declared.name.Role.TheVariants as roles
use Rattle.disk_model.specs.declared.shelf.ShelfFault.{ShelfFault}
use Rattle.disk_model.specs.declared.shelf.ShelfFault.TheVariants as shelf_faults
use Rattle.pump_frame.specs.Counts.{Rose}
use Rattle.pump_frame.specs.declared.row.SessionRow.{SessionRow}
use Rattle.relay_threads.specs.LowStays.{is_kept_by}
use Rattle.relay_threads.specs.Workers.{CountsEnd}
use Rattle.relay_threads.specs.declared.rounds_end.RoundsEnd.{RoundsEnd}
use Rattle.relay_threads.specs.declared.rounds_end.RoundsEnd.TheVariants as rounds
use Rattle.script_replay.specs.Failing.{CameBackFailed}
use Rattle.script_replay.specs.Lending.{IsOutAt, RisesAt}
use Rattle.script_replay.specs.Shelves.{Places, ReadsAlike, disk_name, reading_in}
use Rattle.script_replay.proofs.Shelving.{rose_more}
use Rattle.relay_side.specs.Sides.{PortsTell, SideTells}
use Rattle.serving.specs.Doors.{DoorsTell, WantDoor}
use Rattle.serving.specs.declared.keys.KeyFault.{KeyFault}
use Rattle.serving.specs.declared.keys.KeyFault.TheVariants as key_faults
use Rattle.serving.specs.Sessions.{IfEnded, OpensBy, RoseAt, has_run}
use Rattle.serving.specs.declared.session.SessionEnd.{SessionEnd}
use Rattle.serving.specs.declared.session.SessionEnd.TheVariants as session_ends
use Rattle.command_ends.specs.CommandEnds.{NamesFailed}
use Rattle.commands.specs.LentDisks.{LeavesBut}
use Rattle.command_ends.specs.Causes.{Causes, IsCaused}
use Rattle.dispatch.specs.Servings.{DisksTell, FileTells, SourceTells, StopsAtShelf, GivesRow, end_of_workers, end_of_session, ServesFor, ServeComes}
use Rattle.command_ends.specs.declared.command_end.CommandEnd.{CommandEnd}
use Rattle.command_ends.specs.declared.command_end.CommandEnd.TheVariants.{Memory, Failed}
use Rattle.commands.proofs.LentDisks.{rises_back}
use Rattle.dispatch.proofs.Sent.{refused_caused}

-- ---- the workers ----

module _ {S : Type 0} (m : Meaning S) (low high now_low now_high : S) (c : Causes) (device : (role : Role) → RoseAt m role low high now_low now_high → c.device role) where
  workers_caused : (l h : RoundsEnd) → CountsEnd (Some l) (m.count low) (m.count now_low) → CountsEnd (Some h) (m.count high) (m.count now_high)
      → (is_kept_by (Some l) ≡ false → c.unwritten) → IsCaused c (end_of_workers l h)
  workers_caused rounds.RecordFailed h cl ch unwritten = unwritten refl
  workers_caused (rounds.Device faults) h cl ch unwritten = device roles.Low cl.1
  workers_caused rounds.Rounds (rounds.Device faults) cl ch unwritten = device roles.High ch.1
  workers_caused rounds.Rounds rounds.Rounds cl ch unwritten = tt
  workers_caused rounds.Rounds rounds.RecordFailed cl ch unwritten = tt

  -- ---- the session ----

  session_caused : (row : SessionRow) (end : SessionEnd) → OpensBy m row low high now_low now_high end
      → IfEnded end (λ l h. CountsEnd (Some l) (m.count low) (m.count now_low)) → IfEnded end (λ l h. CountsEnd (Some h) (m.count high) (m.count now_high))
      → IfEnded end (λ l h. is_kept_by (Some l) ≡ false → c.unwritten) → (has_run end ≡ false → c.memory) → (end ≡ session_ends.NoDoor → c.link) → IsCaused c (end_of_session end)
  session_caused row session_ends.Memory opens cl ch unwritten memory link = memory refl
  session_caused row (session_ends.Refused role why) opens cl ch unwritten memory link = refused_caused c role why (λ is. device role (opens.0 is))
  session_caused row session_ends.NoDoor opens cl ch unwritten memory link = link refl
  session_caused row session_ends.NoThread opens cl ch unwritten memory link = memory refl
  session_caused row (session_ends.Ended l h) opens cl ch unwritten memory link = workers_caused l h cl ch unwritten

  pub served_caused : (row : SessionRow) (end : SessionEnd) (result : CommandEnd) → result ≡ end_of_session end → OpensBy m row low high now_low now_high end
      → IfEnded end (λ l h. CountsEnd (Some l) (m.count low) (m.count now_low)) → IfEnded end (λ l h. CountsEnd (Some h) (m.count high) (m.count now_high))
      → IfEnded end (λ l h. is_kept_by (Some l) ≡ false → c.unwritten) → (has_run end ≡ false → c.memory) → (end ≡ session_ends.NoDoor → c.link) → IsCaused c result
  served_caused row end result is opens cl ch unwritten memory link = subst (IsCaused c) (sym is) (session_caused row end opens cl ch unwritten memory link)

-- what holds where the workers ran, and where they did not
pub either_way : (end : SessionEnd) (R : Type 0) (P : RoundsEnd → RoundsEnd → Type 0) → IfEnded end P → ((l h : RoundsEnd) → P l h → R) → (has_run end ≡ false → R) → R
either_way session_ends.Memory R P h f g = g refl
either_way (session_ends.Refused role why) R P h f g = g refl
either_way session_ends.NoDoor R P h f g = g refl
either_way session_ends.NoThread R P h f g = g refl
either_way (session_ends.Ended l h) R P held f g = f l h held

pub if_ended : (end : SessionEnd) (P Q : RoundsEnd → RoundsEnd → Type 0) → IfEnded end P → ((l h : RoundsEnd) → P l h → Q l h) → IfEnded end Q
if_ended session_ends.Memory P Q h f = tt
if_ended (session_ends.Refused role why) P Q h f = tt
if_ended session_ends.NoDoor P Q h f = tt
if_ended session_ends.NoThread P Q h f = tt
if_ended (session_ends.Ended l h) P Q held f = f l h held

-- ---- a door that was wanting ----

-- the ports of one side failed
pub wanting_rose : {D L : Type 0} (low high : PortsTell D L) (low_port high_port : ℕ) → WantDoor low high low_port high_port → Rose low.faults low.now_faults ⊎ Rose high.faults high.now_faults
wanting_rose low high low_port high_port (inl at_low) = inl at_low.0.1
wanting_rose low high low_port high_port (inr at_high) = inr at_high.1.1

-- ---- a disk that could not be taken ----

pub pair_stops : (role : Role) (fault : ShelfFault) (end : CommandEnd) → (role ≡ roles.Low) ⊎ (role ≡ roles.High) → (fault ≡ shelf_faults.Memory → end ≡ Memory) → (fault ≡ shelf_faults.Failed → end ≡ Failed role) → StopsAtShelf end
pair_stops role shelf_faults.Memory end either memory failed = subst StopsAtShelf (sym (memory refl)) tt
pair_stops role shelf_faults.Failed end (inl low) memory failed = subst StopsAtShelf (sym (failed refl ∙ ap Failed low)) tt
pair_stops role shelf_faults.Failed end (inr high) memory failed = subst StopsAtShelf (sym (failed refl ∙ ap Failed high)) tt

-- ---- the shelf's count ----

module _ {S : Type 0} (m : Meaning S) (places : Places) (session : ℕ) (low high now_low now_high : S) (before mid after : ℕ)
    (low_out : IsOutAt places session roles.Low (m.count low)) (high_out : IsOutAt places session roles.High (m.count high)) (later : before ≤ mid)
    (low_rises : RisesAt places session roles.Low (m.count now_low) mid after) (high_rises : RisesAt places session roles.High (m.count now_high) mid after) where
  pub pair_rises : (role : Role) → RoseAt m role low high now_low now_high → Rose before after
  pair_rises roles.Low rose = rises_back places session roles.Low _ _ before mid after low_out rose later low_rises
  pair_rises roles.High rose = rises_back places session roles.High _ _ before mid after high_out rose later high_rises
  pair_rises roles.Recv rose = absurd rose

-- the one of the two that failed came back with a count that had risen
pub pair_came_back : {H S : Type 0} (m : Holdings H) (d : Meaning S) (lent last : H) (session : ℕ) (low high now_low now_high : S) → IsOutAt (m.disk lent) session roles.Low (d.count low) → IsOutAt (m.disk lent) session roles.High (d.count high)
    → (m.tells → m.disk last (disk_name session roles.Low) ≡ OnShelf (d.reading now_low)) → (m.tells → m.disk last (disk_name session roles.High) ≡ OnShelf (d.reading now_high))
    → (role : Role) → RoseAt d role low high now_low now_high → CameBackFailed m d (m.disk last) session role
pair_came_back m d lent last session low high now_low now_high low_out high_out low_back high_back roles.Low rose =
    let (given, is, least) = low_out in record { lent = lent; given = given; disk = now_low; out = is; rose = rose_more given _ _ least rose; back = low_back }
pair_came_back m d lent last session low high now_low now_high low_out high_out low_back high_back roles.High rose =
    let (given, is, least) = high_out in record { lent = lent; given = given; disk = now_high; out = is; rose = rose_more given _ _ least rose; back = high_back }
pair_came_back m d lent last session low high now_low now_high low_out high_out low_back high_back roles.Recv rose = absurd rose

-- ---- the table's row, and the key ----

pub same_places : (before after : Places) → after ≡ before → ReadsAlike before after
same_places before after same name = ap (λ (places : Places). reading_in (places name)) same

-- there is no key, for one of two causes
pub no_key : (R Q : Type 0) (fault : KeyFault) → (fault ≡ key_faults.Failed → R) → (fault ≡ key_faults.Short → Q) → R ⊎ Q
no_key R Q key_faults.Failed failed short = inl (failed refl)
no_key R Q key_faults.Short failed short = inr (short refl)

-- what came of the row holds of the shelf as it was before the row was read
module _ {D L S : Type 0} (t : DoorsTell D L) (rounds : ℕ) (low_side high_side : SideTells D L) (d : DisksTell S) (written : Option (List ℕ)) (out_faults : ℕ)
    (keys : SourceTells) (f : FileTells) (fails : ℕ → Role → Type 0) (session : ℕ) (row : SessionRow) (end : CommandEnd) (mid : Option (List ℕ)) (mid_faults : ℕ) where
  pub serves_row : (before : Places) → d.before ≡ before → NamesFailed fails session end → GivesRow f session row → LeavesBut d.before d.after row.id
      → ServesFor t rounds low_side high_side d written out_faults keys row end mid mid_faults
      → ServeComes t rounds low_side high_side (record d { before = before }) written out_faults keys f fails session end mid mid_faults
  serves_row before same named gives others h = (
    named,
    inr (
      row,
      gives,
      subst (λ (places : Places). LeavesBut places d.after row.id) same others,
      subst (λ (places : Places). ServesFor t rounds low_side high_side (record d { before = places }) written out_faults keys row end mid mid_faults) same h,
    ),
  )
