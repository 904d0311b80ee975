-- Disks of two sessions, off the shelf and back on it, and what was moved between them.
use Rattle.std.proofs.Common.{◌≡◌, ◌⊎◌, ℕ, Bool, true, false, List, [], Option, None, Some, Result, Ok, Err, IfOk, IfErr, inl, inr, refl, sym, ap, ap₂, ◌∙◌, subst}
use Rattle.std.proofs.lemmas.Bool.{cases_eq}
use Rattle.disk_model.specs.Disk.{Meaning}
use Rattle.disk_model.specs.declared.name.DiskName.{DiskName}
use Rattle.disk_model.specs.declared.name.Role.{Role}
use Rattle.disk_model.specs.declared.name.Role.TheVariants as roles
use Rattle.disk_model.specs.Shelf.{OnShelf, IsOut}
use Rattle.pump_frame.specs.Counts.{Rose}
use Rattle.pump_frame.specs.declared.row.SessionRow.{SessionRow}
use Rattle.recovery.specs.declared.why.Why.{Why}
use Rattle.recovery.specs.declared.why.Why.TheVariants as whys
use Rattle.script_replay.specs.Lending.{AreOnShelf}
use Rattle.script_replay.specs.Shelves.{Places, OfDisks, disk_name, reading_in, reading_at, AllAreBack, ReadsAlike, SparesSession}
use Rattle.recovery.specs.declared.trio.Trio.{Trio}
use Rattle.script_replay.proofs.Shelving.{read_in, name_is}
use Rattle.commands.specs.LentDisks.{LeavesOtherPair, StopsAtShelf}
use Rattle.command_ends.specs.CommandEnds.{end_line}
use Rattle.commands.specs.Migrating.{AreInTurn, AreMoved, AreTurned, AreRows, HasNoRows, Migrates, MigratesSo, ReadsOthersAlike, MigratesTo, MigrateStops, HaltsSo, MovesTo, StopsMove, FailsAt, counted_line, halt_of, halted, session_at}
use Rattle.commands.specs.Showing.{end_at}
use Rattle.command_ends.specs.Tables.{HasRow, IsTableEnd}
use Rattle.commands.specs.TakenDisks.{AreReadAt, AreOutAt, RiseAt, RoseAt, ReadOn, SpareOn}
use Rattle.command_ends.specs.declared.command_end.CommandEnd.{CommandEnd}
use Rattle.command_ends.specs.declared.command_end.CommandEnd.TheVariants.{Memory, Unread, NoRow, Failed, Refused}
use Rattle.command_ends.specs.declared.no_row.NoRow.{NoRow as NoRowCause}
use Rattle.command_ends.specs.declared.no_row.NoRow.TheVariants.{Same}
use Rattle.commands.specs.declared.migrate.Counts.{Counts}
use Rattle.commands.specs.declared.migrate.Halt.{Halt}
use Rattle.recovery.specs.Calls.{is_device}
use Rattle.recovery.specs.Moves.{IsMoveRefused, first_full}
use Rattle.recovery.specs.declared.trio.MoveFault.{MoveFault}
use Rattle.stable_buffer.specs.Format.{receiver_size}
use Rattle.two_worlds.specs.Openings.{StandForFound}
use Rattle.commands.proofs.Formatted.{disk_of, rises_so}

-- ---- the end of a fault ----

ends_at : (role : Role) (why : Why) → ((is_device why ≡ true) × (end_at role (Some why) ≡ Failed role)) ⊎ ((is_device why ≡ false) × (end_at role (Some why) ≡ Refused role why))
ends_at role (whys.Device faults) = inl (refl, refl)
ends_at role why = inr (refl, refl)

not_failed : (role other : Role) (why : Why) → Refused role why ≡ Failed other → ⊥
not_failed role other why e = cc

-- ---- the disks of one session ----

module _ {D : Type 0} (d : Meaning D) (places : Places) (session : ℕ) (disks : Trio D) where
  read_at : AreReadAt d places session disks → (role : Role) → reading_at places session role ≡ d.reading (disk_of role disks)
  read_at h roles.Low = read_in _ _ h.0
  read_at h roles.High = read_in _ _ h.1
  read_at h roles.Recv = read_in _ _ h.2

  module _ (on : AreOnShelf places session (d.reading disks.low) (d.reading disks.high) (d.reading disks.recv)) where
    put_at : (role : Role) → places (disk_name session role) ≡ OnShelf (d.reading (disk_of role disks))
    put_at roles.Low = on.low_on
    put_at roles.High = on.high_on
    put_at roles.Recv = on.recv_on

    back_at : (role : Role) → reading_at places session role ≡ d.reading (disk_of role disks)
    back_at role = ap reading_in (put_at role)

    not_out : (role : Role) → IsOut (places (disk_name session role)) → ⊥
    not_out role out = subst IsOut (put_at role) out

  -- what holds of what the disks read holds of what is read there
  of_read : ((role : Role) → reading_at places session role ≡ d.reading (disk_of role disks)) → (Holds : List ℕ → List ℕ → List ℕ → Type 0)
      → Holds (d.reading disks.low) (d.reading disks.high) (d.reading disks.recv) → OfDisks places session Holds
  of_read same Holds h = subst (λ (t : List ℕ × List ℕ × List ℕ). Holds t.0 t.1 t.2) (λ i. (sym (same roles.Low) i, sym (same roles.High) i, sym (same roles.Recv) i)) h

module _ {D : Type 0} (d : Meaning D) (tells : d.tells) (old now : Trio D) where
  same_read : ReadOn d old now → (role : Role) → d.reading (disk_of role now) ≡ d.reading (disk_of role old)
  same_read h roles.Low = (h tells).0
  same_read h roles.High = (h tells).1
  same_read h roles.Recv = (h tells).2

  spared_read : SpareOn d old now → (role : Role) → (d.reading (disk_of role old) ≡ [] → ⊥) → d.reading (disk_of role now) ≡ d.reading (disk_of role old)
  spared_read h roles.Low = (h tells).0
  spared_read h roles.High = (h tells).1
  spared_read h roles.Recv = (h tells).2

-- ---- the disks of two ----

pub pair_others : (before mid now : Places) (one two : ℕ) → LeavesOtherPair before mid one two → LeavesOtherPair mid now one two → LeavesOtherPair before now one two
pair_others before mid now one two taken returned name a b = returned name a b ∙ taken name a b

module _ {D : Type 0} (d : Meaning D) (before mid now : Places) (one two : ℕ) (old new old_now new_now : Trio D)
    (taken : LeavesOtherPair before mid one two) (returned : LeavesOtherPair mid now one two)
    (on : AreOnShelf now one (d.reading old_now.low) (d.reading old_now.high) (d.reading old_now.recv))
    (new_on : AreOnShelf now two (d.reading new_now.low) (d.reading new_now.high) (d.reading new_now.recv)) where
  others_so : LeavesOtherPair before now one two
  others_so = pair_others before mid now one two taken returned

  pub pair_back : AllAreBack before now
  pair_back name out = elim (cases_eq name.session one) [
    | inl same ↦ absurd (not_out d now one old_now on name.role (subst (λ (n : DiskName). IsOut (now n)) (name_is name one same) out))
    | inr other ↦ elim (cases_eq name.session two) [
      | inl same ↦ absurd (not_out d now two new_now new_on name.role (subst (λ (n : DiskName). IsOut (now n)) (name_is name two same) out))
      | inr too ↦ subst IsOut (others_so name other too) out
    ]
  ]

  module _ (tells : d.tells) (read : AreReadAt d before one old) (new_read : AreReadAt d before two new) (kept : ReadOn d old old_now) (spared : SpareOn d new new_now) where
    old_alike : (role : Role) → reading_at now one role ≡ reading_at before one role
    old_alike role = back_at d now one old_now on role ∙ same_read d tells old old_now kept role ∙ sym (read_at d before one old read role)

    pub others_alike : ReadsOthersAlike before now two
    others_alike name other = elim (cases_eq name.session one) [
      | inl same ↦
          let e = name_is name one same in
          ap (λ n. reading_in (now n)) e ∙ old_alike name.role ∙ ap (λ n. reading_in (before n)) (sym e)
      | inr too ↦ ap reading_in (others_so name too other)
    ]

    pub new_spared : SparesSession before now two
    new_spared role some =
        let was = read_at d before two new new_read role in
        back_at d now two new_now new_on role ∙ spared_read d tells new new_now spared role (λ none. some (was ∙ none)) ∙ sym was

    pub all_alike : ReadOn d new new_now → ReadsAlike before now
    all_alike same_new name = elim (cases_eq name.session two) [
      | inl same ↦
          let e = name_is name two same in
          ap (λ n. reading_in (now n)) e ∙ back_at d now two new_now new_on name.role ∙ same_read d tells new new_now same_new name.role
          ∙ sym (read_at d before two new new_read name.role) ∙ ap (λ n. reading_in (before n)) (sym e)
      | inr other ↦ others_alike name other
    ]

module _ {D : Type 0} (d : Meaning D) (tells : d.tells) (before mid now : Places) (row new_row : SessionRow) (old new old_now new_now : Trio D)
    (taken : LeavesOtherPair before mid row.id new_row.id) (returned : LeavesOtherPair mid now row.id new_row.id)
    (on : AreOnShelf now row.id (d.reading old_now.low) (d.reading old_now.high) (d.reading old_now.recv))
    (new_on : AreOnShelf now new_row.id (d.reading new_now.low) (d.reading new_now.high) (d.reading new_now.recv))
    (read : AreReadAt d before row.id old) (new_read : AreReadAt d before new_row.id new) (kept : ReadOn d old old_now) (spared : SpareOn d new new_now) where
  alike_but : ReadsOthersAlike before now new_row.id
  alike_but = others_alike d before mid now row.id new_row.id old new old_now new_now taken returned on new_on tells read new_read kept spared

  pub moved_so : (counts : Counts) → MovesTo d row new_row old new new_now counts → MigratesTo before now row new_row counts
  moved_so counts h = (
    h.found,
    record {
      stand = of_read d before row.id old (read_at d before row.id old read) (StandForFound row h.found) h.stand;
      empty = of_read d before new_row.id new (read_at d before new_row.id new new_read) (λ low high recv. first_full low high recv ≡ None) h.empty;
      new = of_read d now new_row.id new_now (back_at d now new_row.id new_now new_on) (StandForFound new_row h.found) h.moved;
      alike = alike_but;
      written =
          subst (λ (r : List ℕ). OfDisks now new_row.id (AreMoved new_row h.found r)) (sym (read_at d before row.id old read roles.Recv))
          (of_read d now new_row.id new_now (back_at d now new_row.id new_now new_on) (AreMoved new_row h.found (d.reading old.recv)) h.written);
    },
    h.counted,
  )

  was_read : (Holds : List ℕ → List ℕ → List ℕ → Type 0) → OfDisks before row.id Holds → Holds (d.reading old.low) (d.reading old.high) (d.reading old.recv)
  was_read Holds h =
      let same = read_at d before row.id old read in
      subst (λ (t : List ℕ × List ℕ × List ℕ). Holds t.0 t.1 t.2) (λ i. (same roles.Low i, same roles.High i, same roles.Recv i)) h

  turned : (fault : MoveFault) → StopsMove d row new_row old old_now new new_now fault → AreTurned before now row new_row fault.role
  turned fault h = λ f stands.
      of_read d before new_row.id new (read_at d before new_row.id new new_read) (λ low high recv. OfDisks now new_row.id (AreInTurn new_row f fault.role low high recv))
      (of_read d now new_row.id new_now (back_at d now new_row.id new_now new_on) (AreInTurn new_row f fault.role (d.reading new.low) (d.reading new.high) (d.reading new.recv))
      (h.turn tells f (was_read (StandForFound row f) stands)))

  pub stops_so : (fault : MoveFault) → StopsMove d row new_row old old_now new new_now fault → MigrateStops before now row new_row fault.new (end_at fault.role (Some fault.why))
  stops_so fault h = elim (ends_at fault.role fault.why) [
    | inl failed ↦ subst (MigrateStops before now row new_row fault.new) (sym failed.1)
        (alike_but, new_spared d before mid now row.id new_row.id old new old_now new_now taken returned on new_on tells read new_read kept spared, turned fault h)
    | inr refused ↦ subst (MigrateStops before now row new_row fault.new) (sym refused.1) (
      of_read d before row.id old (read_at d before row.id old read) (λ low high recv. OfDisks before new_row.id (λ new_low new_high new_recv. IsMoveRefused row new_row receiver_size low high recv new_low new_high new_recv fault))
          (of_read d before new_row.id new (read_at d before new_row.id new new_read)
          (λ new_low new_high new_recv. IsMoveRefused row new_row receiver_size (d.reading old.low) (d.reading old.high) (d.reading old.recv) new_low new_high new_recv fault) (h.refused refused.0 tells)),
      all_alike d before mid now row.id new_row.id old new old_now new_now taken returned on new_on tells read new_read kept spared (h.unwritten refused.0),
    )
  ]

-- ---- how a move ended ----

module _ (one two : ℕ) where
  pub halted_ok : (P Q : Counts → Type 0) (end : Result Counts MoveFault) (r : Result Counts Halt) → r ≡ halted one two end → IfOk end P → ((counts : Counts) → P counts → Q counts) → IfOk r Q
  halted_ok P Q (Ok counts) r is h f = subst (λ (x : Result Counts Halt). IfOk x Q) (sym is) (f counts h)
  halted_ok P Q (Err fault) r is h f = subst (λ (x : Result Counts Halt). IfOk x Q) (sym is) tt

  pub halted_err : (P : MoveFault → Type 0) (Q : Halt → Type 0) (end : Result Counts MoveFault) (r : Result Counts Halt) → r ≡ halted one two end → IfErr end P
      → ((fault : MoveFault) → P fault → Q (halt_of one two fault)) → IfErr r Q
  halted_err P Q (Ok counts) r is h f = subst (λ (x : Result Counts Halt). IfErr x Q) (sym is) tt
  halted_err P Q (Err fault) r is h f = subst (λ (x : Result Counts Halt). IfErr x Q) (sym is) (f fault h)

-- ---- a disk that failed, or can't be taken ----

module _ {D : Type 0} (d : Meaning D) (mid : Places) (first last : ℕ) where
  rises : (session : ℕ) (old now : Trio D) → AreOutAt d mid session old → RiseAt d mid session first last now → (role : Role) → RoseAt d role old now → Rose first last
  rises session old now out rise role rose = rises_so d mid session old now first last out.0 out.1 out.2 rise.0 rise.1 rise.2 role rose

  pub rises_at : (one two : ℕ) (old new old_now new_now : Trio D) → AreOutAt d mid one old → AreOutAt d mid two new → RiseAt d mid one first last old_now → RiseAt d mid two first last new_now
      → (is_new : Bool) (role : Role) → FailsAt d is_new role old old_now new new_now → Rose first last
  rises_at one two old new old_now new_now out new_out rise new_rise true role rose = rises two new new_now new_out new_rise role rose
  rises_at one two old new old_now new_now out new_out rise new_rise false role rose = rises one old old_now out rise role rose

-- only a failed call ends so
pub fails_by : (role other : Role) (why : Why) → end_at role (Some why) ≡ Failed other → is_device why ≡ true
fails_by role other why e = elim (ends_at role why) [
  | inl failed ↦ failed.0
  | inr refused ↦ absurd (not_failed role other why (sym refused.1 ∙ e))
]

pub role_by : (role other : Role) (why : Why) → end_at role (Some why) ≡ Failed other → role ≡ other
role_by role other why e = elim (ends_at role why) [
  | inl failed ↦ same (sym failed.1 ∙ e)
  | inr refused ↦ absurd (not_failed role other why (sym refused.1 ∙ e))
]
  where
    same : Failed role ≡ Failed other → role ≡ other
    same e = cc

pub untaken_stops : (before after : Places) (row new_row : SessionRow) (is_new : Bool) (end : CommandEnd) → StopsAtShelf end → ReadsAlike before after → MigrateStops before after row new_row is_new end
untaken_stops before after row new_row is_new Memory h alike = alike
untaken_stops before after row new_row is_new (Failed role) h alike = (
  (λ name other. alike name),
  (λ role some. alike (disk_name new_row.id role)),
  λ f stands. record {
    at_low = λ is. (alike (disk_name new_row.id roles.High), alike (disk_name new_row.id roles.Recv));
    at_high = λ is. alike (disk_name new_row.id roles.Recv);
    high = inl (alike (disk_name new_row.id roles.High));
    recv = inl (alike (disk_name new_row.id roles.Recv));
  },
)
untaken_stops before after row new_row is_new end h alike = absurd h

-- ---- the tables, and the whole ----

halts_to : (file new_file : Option (List ℕ)) (before after : Places) (fails : ℕ → Role → Type 0) (session new_session : ℕ) (row new_row : SessionRow) (is_new : Bool) (end : CommandEnd) (named : ℕ)
    → AreRows file new_file session new_session row new_row → named ≡ session_at session new_session is_new → ((role : Role) → end ≡ Failed role → fails named role) → MigrateStops before after row new_row is_new end
    → Migrates file new_file before after fails session new_session end (end_line named end)
halts_to file new_file before after fails session new_session row new_row is_new Memory named rows is names h = (h, refl)
halts_to file new_file before after fails session new_session row new_row is_new (Failed role) named rows is names h = (row, new_row, is_new, rows, subst (λ (n : ℕ). fails n role) is (names role refl), h, ap (λ n. end_line n (Failed role)) is)
halts_to file new_file before after fails session new_session row new_row is_new (Refused role why) named rows is names h = (row, new_row, is_new, rows, tt, h, ap (λ n. end_line n (Refused role why)) is)
halts_to file new_file before after fails session new_session row new_row is_new end named rows is names h = absurd h

-- .. and where they give none
pub rowless_so : (file new_file : Option (List ℕ)) (before after : Places) (fails : ℕ → Role → Type 0) (session new_session : ℕ) (end : CommandEnd) → IsTableEnd end
    → ((why : NoRowCause) → end ≡ NoRow why → HasNoRows file new_file session new_session why) → after ≡ before
    → MigratesSo file new_file before after fails session new_session (Err (record { session = session; end = end }))
rowless_so file new_file before after fails session new_session Memory only none same = ((λ name. ap (λ (p : Places). reading_in (p name)) same), refl)
rowless_so file new_file before after fails session new_session Unread only none same = (same, refl)
rowless_so file new_file before after fails session new_session (NoRow why) only none same = (none why refl, same, refl)
rowless_so file new_file before after fails session new_session end only none same = absurd only

-- both tables have a row, for one session
pub same_session : {T : Type 0} (file new_file : Option (List ℕ)) (session new_session : ℕ) (row new_row : SessionRow) → HasRow file session row → HasRow new_file new_session new_row → session ≡ new_session
    → (why : NoRowCause) → (let r : Result T CommandEnd = Err (NoRow (Same new_session)) in r ≡ Err (NoRow why)) → HasNoRows file new_file session new_session why
same_session file new_file session new_session row new_row has has_new same why is =
    let why_is : Same new_session ≡ why = cc in
    inr (inr (row, new_row, has, has_new, same, sym why_is))

-- what the rows lead to is what the two tables' files give
pub migrates_so : (told tells : Type 0) (file new_file : Option (List ℕ)) (before mid after : Places) (fails : ℕ → Role → Type 0) (session new_session : ℕ) (row new_row : SessionRow) (r : Result Counts Halt)
    → AreRows file new_file session new_session row new_row → mid ≡ before → IfOk r (λ counts. told → tells → MigratesTo mid after row new_row counts)
    → IfErr r (λ halt. told → tells → HaltsSo mid after row new_row halt) → IfErr r (λ halt. (role : Role) → halt.end ≡ Failed role → fails halt.session role) → told → tells
    → MigratesSo file new_file before after fails session new_session r
migrates_so told tells file new_file before mid after fails session new_session row new_row (Ok counts) rows same ok stops names t u =
    let m : MigratesTo before after row new_row counts = subst (λ (p : Places). MigratesTo p after row new_row counts) same (ok t u) in
    let c = m.2 in
    (row, new_row, m.0, rows, m.1, λ i. counted_line session new_session (record { accepted = c.0 i; removed = c.1 i; received = c.2 i }))
migrates_so told tells file new_file before mid after fails session new_session row new_row (Err halt) rows same ok stops names t u =
    let h = stops t u in
    halts_to file new_file before after fails session new_session row new_row h.0 halt.end halt.session rows
    (h.1 ∙ ap₂ (λ a b. session_at a b h.0) rows.id rows.new_id) names (subst (λ (p : Places). MigrateStops p after row new_row h.0 halt.end) same h.2)
