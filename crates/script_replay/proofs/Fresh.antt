-- Before any line came that needs not stand first: what is read of the disks is what was read of them at first, or they are new.
use Rattle.std.proofs.Common.{◌≡◌, ℕ, ◌==◌, true, false, List, [], Option, None, Some, Err, inl, inr, refl, sym, ap, ◌∙◌, subst}
use Rattle.std.specs.Prelude.{◌⊎◌}
use Rattle.std.proofs.lemmas.Bool.{eqb-true, eqb-false}
use Rattle.disk_model.specs.Disk.{Meaning}
use Rattle.disk_model.specs.declared.disk.Disk.{Ghosts}
use Rattle.disk_model.specs.declared.name.Role.{Role}
use Rattle.disk_model.specs.declared.name.Role.TheVariants as roles
use Rattle.pump_frame.specs.declared.row.SessionRow.{SessionRow}
use Rattle.stable_buffer.specs.Format.{new_bytes}
use Rattle.stable_buffer.specs.Format as format
use Rattle.script_reader.specs.Scripts.{Begun, Whole, Alone}
use Rattle.script_reader.specs.Sessions.{session_at}
use Rattle.two_worlds.specs.Openings.{LeavesDisk, ComeBack}
use Rattle.two_worlds.specs.Pumps as pump
use Rattle.two_worlds.specs.declared.not_open.NotOpen.{NotOpen}
use Rattle.two_worlds.specs.declared.pump.Pump.{Pump}
use Rattle.script_replay.specs.Lending.{ReadAt, AreOnShelf}
use Rattle.script_replay.specs.Runners.{outcome_at, IsFresh, AllFresh, StartsFresh, FreshAfter, LeftAs, AllLeftAs}
use Rattle.script_replay.specs.Sessions.{id_of, found_at, with_begun, HasComeTo, AllHaveComeTo}
use Rattle.script_replay.specs.Shelves.{Places, disk_name, reading_in, reading_at, ReadsSessionAlike, ReadsAlike, LeavesOtherSessions, IsReadied, AreReadied}
use Rattle.script_replay.specs.declared.outcome.LineOutcome.{LineOutcome}
use Rattle.script_replay.specs.declared.outcome.LineOutcome.TheVariants as outcomes
use Rattle.script_replay.specs.declared.session.Session.{Session}
use Rattle.script_replay.specs.declared.session.Session.TheVariants as sessions
use Rattle.script_replay.specs.declared.sessions.Sessions.{Sessions}
use Rattle.script_replay.proofs.Numbered.{found_id}
use Rattle.script_replay.proofs.Shelving.{read_in, left_by}
use Rattle.script_replay.proofs.Turns.{at_put}

-- ---- an outcome of which nothing is said ----

pub fresh_other : {D : Type 0} {g : Ghosts D} (d : Meaning D) (before now : Places) (s : Sessions D g) (outcome : LineOutcome) → (outcome ≡ outcomes.Applied → ⊥) → (outcome ≡ outcomes.Memory → ⊥) → FreshAfter d before now s outcome
fresh_other d before now s outcomes.Applied apart none = absurd (apart refl)
fresh_other d before now s outcomes.Memory apart none = absurd (none refl)
fresh_other d before now s outcomes.Refused apart none = tt
fresh_other d before now s outcomes.Unwritten apart none = tt
fresh_other d before now s (outcomes.Stopped fault) apart none = tt

-- ---- one session ----

-- a new disk is the same, whether its session is coarse or not
coarse_bytes : (row : SessionRow) (role : Role) → new_bytes (record row { coarse = true }) role 0 ≡ new_bytes row role 0
unfolding format.header_of
coarse_bytes row role = refl

module _ {D : Type 0} {g : Ghosts D} (d : Meaning D) where
  -- one that is made coarse
  pub coarse_fresh : (x : Session D g) (id : ℕ) (p t : Pump D g) → x ≡ sessions.Whole id p → pump.row_of t ≡ record (pump.row_of p) { coarse = true } → ((role : Role) → pump.disk_at role t ≡ pump.disk_at role p)
      → (before now : Places) (number : ℕ) → IsFresh d before now number (Some x) → IsFresh d before now number (Some (sessions.Whole id t))
  coarse_fresh x id p t is row same before now number h = λ role.
      let fresh : IsFresh d before now number (Some (sessions.Whole id p)) = subst (λ (s : Session D g). IsFresh d before now number (Some s)) is h in
      let disk : d.reading (pump.disk_at role t) ≡ d.reading (pump.disk_at role p) = ap (λ (y : D). d.reading y) (same role) in
      let bytes : new_bytes (pump.row_of t) role 0 ≡ new_bytes (pump.row_of p) role 0 = ap (λ (r : SessionRow). new_bytes r role 0) row ∙ coarse_bytes (pump.row_of p) role in
      elim (fresh role) [ inl kept ↦ inl (disk ∙ kept) | inr made ↦ inr (made.0, disk ∙ made.1 ∙ sym bytes) ]

  alone_alike : (x : Session D g) (id : ℕ) (p : _) → x ≡ sessions.Alone id p → (before now : Places) (number : ℕ) → IsFresh d before now number (Some x) → ReadsSessionAlike before now number
  alone_alike x id p is before now number h = subst (λ (s : Session D g). IsFresh d before now number (Some s)) is h

  pub alone_fresh : (x : Session D g) (id : ℕ) (p t : _) → x ≡ sessions.Alone id p → (before now : Places) (number : ℕ) → IsFresh d before now number (Some x) → IsFresh {g = g} d before now number (Some (sessions.Alone id t))
  alone_fresh x id p t is before now number h = alone_alike x id p is before now number h

  -- one that begins over its disks
  pub opened_fresh : (tells : d.tells) (before now : Places) (row : SessionRow) (low high recv : D) (p : Pump D g) → pump.row_of p ≡ row
      → ReadAt before row.id roles.Low (d.reading low) → ReadAt before row.id roles.High (d.reading high) → ReadAt before row.id roles.Recv (d.reading recv)
      → LeavesDisk d row roles.Low low (pump.disk_at roles.Low p) false → LeavesDisk d row roles.High high (pump.disk_at roles.High p) false → LeavesDisk d row roles.Recv recv (pump.disk_at roles.Recv p) false
      → IsFresh d before now row.id (Some (sessions.Whole row.id p))
  opened_fresh tells before now row low high recv p row_is low_read high_read recv_read low_left high_left recv_left = each
    where
      one : (role : Role) (old : D) → ReadAt before row.id role (d.reading old) → LeavesDisk d row role old (pump.disk_at role p) false
          → (d.reading (pump.disk_at role p) ≡ reading_at before row.id role) ⊎ ((reading_at before row.id role ≡ []) × (d.reading (pump.disk_at role p) ≡ new_bytes (pump.row_of p) role 0))
      one role old read left =
          let at = read_in _ _ read in
          elim (left_by d tells row role old (pump.disk_at role p) false refl left) [
            | inl same ↦ inl (same ∙ sym at)
            | inr made ↦ inr (at ∙ made.0, made.1 ∙ ap (λ (r : SessionRow). new_bytes r role 0) (sym row_is))
          ]

      each : (role : Role) → (d.reading (pump.disk_at role p) ≡ reading_at before row.id role) ⊎ ((reading_at before row.id role ≡ []) × (d.reading (pump.disk_at role p) ≡ new_bytes (pump.row_of p) role 0))
      each roles.Low = one roles.Low low low_read low_left
      each roles.High = one roles.High high high_read high_left
      each roles.Recv = one roles.Recv recv recv_read recv_left

-- one for whose disks memory was wanting: they come back as they were
pub untaken_fresh : {D : Type 0} (g : Ghosts D) (d : Meaning D) (before now : Places) (id : ℕ) (outcome : LineOutcome) → ReadsAlike before now → StartsFresh {g = g} d before now id (Err outcome)
untaken_fresh g d before now id outcomes.Memory alike = λ role. alike (disk_name id role)
untaken_fresh g d before now id outcomes.Applied alike = tt
untaken_fresh g d before now id outcomes.Refused alike = tt
untaken_fresh g d before now id outcomes.Unwritten alike = tt
untaken_fresh g d before now id (outcomes.Stopped fault) alike = tt

pub unopened_fresh : {D : Type 0} (g : Ghosts D) (d : Meaning D) (before now : Places) (row : SessionRow) (low high recv : D) (e : NotOpen D) → ComeBack d row low high recv e
    → ReadAt before row.id roles.Low (d.reading low) → ReadAt before row.id roles.High (d.reading high) → ReadAt before row.id roles.Recv (d.reading recv)
    → AreOnShelf now row.id (d.reading e.low) (d.reading e.high) (d.reading e.recv) → (why : _) → e.why ≡ why → StartsFresh {g = g} d before now row.id (Err (outcome_at row.id e.role why))
unopened_fresh g d before now row low high recv e back low_read high_read recv_read on (Some why) is = tt
unopened_fresh {D} g d before now row low high recv e back low_read high_read recv_read on None is = each
  where
    each : ReadsSessionAlike before now row.id
    each roles.Low = ap reading_in on.low_on ∙ ap (λ (x : D). d.reading x) (back.memory is).1 ∙ sym (read_in _ _ low_read)
    each roles.High = ap reading_in on.high_on ∙ ap (λ (x : D). d.reading x) (back.memory is).2 ∙ sym (read_in _ _ high_read)
    each roles.Recv = ap reading_in on.recv_on ∙ ap (λ (x : D). d.reading x) (back.memory is).3 ∙ sym (read_in _ _ recv_read)

-- ---- all sessions ----

module _ {D : Type 0} {g : Ghosts D} (d : Meaning D) where
  pub none_fresh : (before : Places) (begun : List (Session D g)) → begun ≡ [] → AllFresh d before before begun
  none_fresh before begun none = subst (λ (l : List (Session D g)). AllFresh d before before l) (sym none) (λ number role. refl)

  -- of another session, where its disks are where they were
  stays_fresh : (before mid now : Places) (number k : ℕ) (x : Option (Session D g)) → LeavesOtherSessions mid now number → (k ≡ number → ⊥) → IsFresh d before mid k x → IsFresh d before now k x
  stays_fresh before mid now number k None others apart h = λ role. ap reading_in (others (disk_name k role) apart) ∙ h role
  stays_fresh before mid now number k (Some (sessions.Alone id p)) others apart h = λ role. ap reading_in (others (disk_name k role) apart) ∙ h role
  stays_fresh before mid now number k (Some (sessions.Whole id p)) others apart h = h

  -- by what was read of its disks at first, which were where they were
  from_first : (before mid now : Places) (number : ℕ) → ReadsSessionAlike before mid number → (x : Option (Session D g)) → ((y : Session D g) → x ≡ Some y → id_of y ≡ number) → IsFresh d mid now number x → IsFresh d before now number x
  from_first before mid now number same None of h = λ role. h role ∙ same role
  from_first before mid now number same (Some (sessions.Alone id p)) of h = λ role. h role ∙ same role
  from_first before mid now number same (Some (sessions.Whole id p)) of h = λ role.
      let at : reading_at mid id role ≡ reading_at before id role = subst (λ (n : ℕ). reading_at mid n role ≡ reading_at before n role) (sym (of (sessions.Whole id p) refl)) (same role) in
      elim (h role) [ inl kept ↦ inl (kept ∙ at) | inr made ↦ inr (sym at ∙ made.0, made.1) ]

  module _ (before mid now : Places) (number : ℕ) (first : List (Session D g)) (absent : found_at number first ≡ None) (others : LeavesOtherSessions mid now number) (fresh : AllFresh d before mid first) where
    alike : ReadsSessionAlike before mid number
    alike = subst (λ (x : Option (Session D g)). IsFresh d before mid number x) absent (fresh number)

    -- a session begins
    pub begun_fresh : (s : Session D g) → id_of s ≡ number → (last : List (Session D g)) → last ≡ with_begun s first → IsFresh d mid now number (Some s) → AllFresh d before now last
    begun_fresh s mine last items h = subst (λ (l : List (Session D g)). AllFresh d before now l) (sym items)
        (at_put d (λ k y. IsFresh d before now k y) s first
        (subst (λ (n : ℕ). IsFresh d before now n (Some s)) (sym mine) (from_first before mid now number alike (Some s) (λ y e. ap id_of (same y e) ∙ mine) h))
        (λ k apart. stays_fresh before mid now number k (found_at k first) others (λ e. apart (e ∙ sym mine)) (fresh k)))
      where
        same : (y : Session D g) → Some s ≡ Some y → y ≡ s
        same y e = cc

    -- there was no memory for it
    pub unbegun_fresh : ReadsSessionAlike mid now number → AllFresh d before now first
    unbegun_fresh h k = elim (k == number) as (λ b. (k == number) ≡ b → IsFresh d before now k (found_at k first)) [
      | true ↦ λ e.
          let is = sym (eqb-true k number e) in
          subst (λ (n : ℕ). IsFresh d before now n (found_at n first)) is (subst (λ (x : Option (Session D g)). IsFresh d before now number x) (sym absent) (λ role. h role ∙ alike role))
      | false ↦ λ e. stays_fresh before mid now number k (found_at k first) others (eqb-false k number e) (fresh k)
    ] refl

    pub after_unbegun : (s : Sessions D g) → s.begun.items ≡ first → (outcome : LineOutcome) → (outcome ≡ outcomes.Applied → ⊥) → StartsFresh {g = g} d mid now number (Err outcome) → FreshAfter d before now s outcome
    after_unbegun s is outcomes.Applied apart h = absurd (apart refl)
    after_unbegun s is outcomes.Memory apart h = subst (λ (l : List (Session D g)). AllFresh d before now l) (sym is) (unbegun_fresh h)
    after_unbegun s is outcomes.Refused apart h = tt
    after_unbegun s is outcomes.Unwritten apart h = tt
    after_unbegun s is (outcomes.Stopped fault) apart h = tt

  -- one is put in its place that is as fresh
  pub put_fresh : (before now : Places) (first last : List (Session D g)) (x t : Session D g) → id_of t ≡ id_of x → found_at (id_of x) first ≡ Some x → last ≡ with_begun t first
      → ((number : ℕ) → IsFresh d before now number (Some x) → IsFresh d before now number (Some t)) → AllFresh d before now first → AllFresh d before now last
  put_fresh before now first last x t mine there items goes fresh = subst (λ (l : List (Session D g)). AllFresh d before now l) (sym items)
      (at_put d (λ k y. IsFresh d before now k y) t first
      (subst (λ (n : ℕ). IsFresh d before now n (Some t)) (sym mine) (goes (id_of x) (subst (λ (y : Option (Session D g)). IsFresh d before now (id_of x) y) there (fresh (id_of x)))))
      (λ k apart. fresh k))

-- ---- the disks are back ----

module _ {D : Type 0} {g : Ghosts D} (d : Meaning D) (told : Type 0) (is_told : told) (before mid now : Places) (begun : List (Session D g)) (left : AllLeftAs told d mid now begun) where
  readied_one : (number : ℕ) (x : Option (Session D g)) → ((y : Session D g) → x ≡ Some y → id_of y ≡ number) → LeftAs told d mid now number x → (running : Option Begun) → HasComeTo d x running → IsFresh d before mid number x → IsReadied before now number running
  readied_one number None of l None come h = λ role. ap reading_in (l role) ∙ h role
  readied_one number None of l (Some s) come h = absurd come
  readied_one number (Some (sessions.Alone id p)) of l None come h = absurd come
  readied_one number (Some (sessions.Alone id p)) of l (Some (Whole s)) come h = absurd come
  readied_one number (Some (sessions.Alone id p)) of l (Some (Alone s)) come h = λ role. ap reading_in (l role) ∙ h role
  readied_one number (Some (sessions.Whole id p)) of l None come h = absurd come
  readied_one number (Some (sessions.Whole id p)) of l (Some (Alone s)) come h = absurd come
  readied_one number (Some (sessions.Whole id p)) of l (Some (Whole s)) come h = (
    sym (of (sessions.Whole id p) refl) ∙ come.0,
    λ role.
        let on : reading_at now s.row.id role ≡ d.reading (pump.disk_at role p) = subst (λ (n : ℕ). reading_at now n role ≡ d.reading (pump.disk_at role p)) come.0 (ap reading_in (l.0 is_told role)) in
        let at : reading_at before id role ≡ reading_at before s.row.id role = ap (λ (n : ℕ). reading_at before n role) come.0 in
        elim (h role) [
          | inl kept ↦ inl (on ∙ kept ∙ at)
          | inr made ↦ inr (sym at ∙ made.0, on ∙ made.1 ∙ ap (λ (r : SessionRow). new_bytes r role 0) come.1)
        ],
  )

  pub readied_all : (running : List Begun) → AllHaveComeTo d begun running → AllFresh d before mid begun → AreReadied before now running
  readied_all running come fresh number = readied_one number (found_at number begun) (λ y e. found_id number begun y e) (left number) (session_at number running) (come number) (fresh number)
