-- A session that is made coarse.
use Rattle.std.proofs.Common.{◌≡◌, ◌≤◌, ℕ, arith, Bool, true, false, not, List, [], ◌∷◌, Some, refl, sym, ap, ◌∙◌, subst}
use Rattle.std.specs.Prelude.{◌&&◌, if◌then◌else◌}
use Rattle.std.proofs.lemmas.Bool.{eq-eqb}
use Rattle.disk_model.specs.Disk.{Meaning}
use Rattle.disk_model.specs.declared.disk.Disk.{Ghosts}
use Rattle.disk_model.specs.declared.name.Role.{Role}
use Rattle.disk_model.specs.declared.name.Role.TheVariants as roles
use Rattle.pump_frame.specs.declared.row.SessionRow.{SessionRow}
use Rattle.stable_buffer.specs.Format.{header_of}
use Rattle.stable_buffer.proofs.Coarse.{low_stands, high_stands, recv_stands}
use Rattle.script_reader.specs.Alone.{PastAlone}
use Rattle.script_reader.specs.Openings.{Openings, Found}
use Rattle.script_reader.specs.Past.{Past}
use Rattle.script_reader.specs.Scripts.{Begun, Whole, Alone, coarsened, made_coarse, may_coarsen}
use Rattle.script_reader.specs.Sessions.{Sessions as Script, session_number, begins_session, stands_first, is_in_turn}
use Rattle.script_reader.specs.declared.line.Line.{Line}
use Rattle.script_reader.specs.declared.line.Line.TheVariants as lines
use Rattle.two_worlds.specs.Openings.{readied, StandForFound}
use Rattle.two_worlds.specs.Pumps as pump
use Rattle.two_worlds.specs.declared.pump.Pump.{Pump}
use Rattle.two_worlds.specs.LowPumps as low_pump
use Rattle.two_worlds.specs.declared.low_pump.LowPump.{LowPump}
use Rattle.script_replay.specs.Runners.{Finds, LeadsFrom}
use Rattle.script_replay.specs.Sessions.{is_coarse, StandsFor, GoesOnWith}
use Rattle.script_replay.specs.Shelves.{Places, reading_at, HasFound}
use Rattle.script_replay.specs.declared.session.Session.{Session}
use Rattle.script_replay.specs.declared.session.Session.TheVariants as sessions

-- ---- what its disks were found to hold ----

pub readied_coarse : (row : SessionRow) (role : Role) (reading : List ℕ) → readied row role reading ≡ readied (coarsened row) role reading
unfolding header_of
readied_coarse row roles.Low [] = refl
readied_coarse row roles.High [] = refl
readied_coarse row roles.Recv [] = refl
readied_coarse row role (byte ∷ bytes) = refl

stand_coarse : (row : SessionRow) (f : Found) (low high recv : List ℕ) → StandForFound row f low high recv → StandForFound (coarsened row) f low high recv
stand_coarse row f low high recv h = record {
  can_open = record { agree = h.can_open.agree; count = h.can_open.count; end = h.can_open.end; short = h.can_open.short };
  low_is = low_stands row _ _ _ low h.low_is;
  high_is = high_stands row _ high h.high_is;
  recv_is = recv_stands row _ recv h.recv_is;
}

found_coarse : (before : Places) (row : SessionRow) (f : Found) → HasFound before row f → HasFound before (coarsened row) f
found_coarse before row f h =
    let low = readied_coarse row roles.Low (reading_at before row.id roles.Low) in
    let high = readied_coarse row roles.High (reading_at before row.id roles.High) in
    let recv = readied_coarse row roles.Recv (reading_at before row.id roles.Recv) in
    stand_coarse row f _ _ _ (
    subst (λ (r : List ℕ). StandForFound row f (readied (coarsened row) roles.Low (reading_at before row.id roles.Low)) (readied (coarsened row) roles.High (reading_at before row.id roles.High)) r) recv
    (subst (λ (r : List ℕ). StandForFound row f (readied (coarsened row) roles.Low (reading_at before row.id roles.Low)) r (readied row roles.Recv (reading_at before row.id roles.Recv))) high
    (subst (λ (r : List ℕ). StandForFound row f r (readied row roles.High (reading_at before row.id roles.High)) (readied row roles.Recv (reading_at before row.id roles.Recv))) low h)))

finds_coarse : (before : Places) (o : Openings) (r : Begun) → Finds before o (Some r) → Finds before o (Some (made_coarse r))
finds_coarse before o (Whole s) h = found_coarse before s.row (o s.row.id) h
finds_coarse before o (Alone s) h = tt

-- the line leads on
pub coarse_leads : (before : Places) (r : Begun) (session : ℕ) → may_coarsen session r ≡ true → LeadsFrom before (Some r) (lines.Coarse session) (Some (made_coarse r)) []
coarse_leads before r session may = λ o found new. (((may, new refl, refl), refl), finds_coarse before o r found)

-- ---- the lines that stand first ----

-- of a session that is there
pub coarse_line : (line : Line) → stands_first line ≡ true → begins_session line ≡ false → (session : ℕ) × (line ≡ lines.Coarse session)
coarse_line (lines.Coarse session) first begins = (session, refl)
coarse_line (lines.Session row) first begins = absurd (cc)
coarse_line (lines.LowSession row next held) first begins = absurd (cc)
coarse_line lines.Skip first begins = absurd (cc)
coarse_line (lines.Look session m w z) first begins = absurd (cc)
coarse_line (lines.Told session m w fault told z) first begins = absurd (cc)
coarse_line (lines.Step session m w) first begins = absurd (cc)
coarse_line (lines.Gone session m) first begins = absurd (cc)
coarse_line (lines.High session m) first begins = absurd (cc)
coarse_line (lines.Carry session back) first begins = absurd (cc)
coarse_line (lines.Return session m back) first begins = absurd (cc)
coarse_line (lines.Done session m time) first begins = absurd (cc)
coarse_line (lines.Restart session m) first begins = absurd (cc)
coarse_line (lines.ReceiverRestart session m) first begins = absurd (cc)

still_by : (first way : Bool) (room from : Bool) → (if first then (not way && room) else from) ≡ true → first ≡ true → way ≡ false
still_by true false room from turn is = refl
still_by true true room from turn is = cc
still_by false way room from turn is = cc

-- one comes only before the script is under way
pub still_new : (t : Script) (line : Line) → is_in_turn t line ≡ true → stands_first line ≡ true → t.is_under_way ≡ false
still_new t line turn first = still_by (stands_first line) t.is_under_way _ _ turn first

-- ---- the session ----

module _ {D : Type 0} {g : Ghosts D} (d : Meaning D) where
  -- whether the line may make it coarse
  pub may_so : (x : Session D g) (r : Begun) (session : ℕ) → session ≡ session_number r → StandsFor d x r → may_coarsen session r ≡ not (is_coarse x)
  may_so (sessions.Whole id p) (Whole s) session same h =
      ap (λ (b : Bool). b && not s.row.coarse) (eq-eqb session s.row.id same) ∙ ap (λ (row : SessionRow). not row.coarse) (sym h.is_of.1)
  may_so (sessions.Alone id p) (Alone s) session same h =
      ap (λ (b : Bool). b && not s.row.coarse) (eq-eqb session s.row.id same) ∙ ap (λ (row : SessionRow). not row.coarse) (sym h.is_of.1)
  may_so (sessions.Whole id p) (Alone s) session same h = absurd h.is_of
  may_so (sessions.Alone id p) (Whole s) session same h = absurd h.is_of

  pub whole_coarse : (before : Session D g) (id : ℕ) (p t : Pump D g) → before ≡ sessions.Whole id p → pump.row_of t ≡ coarsened (pump.row_of p) → ((q : Past) → pump.StandsFor d p q → pump.StandsFor d t q)
      → pump.is_down t ≡ pump.is_down p → (running : Begun) → StandsFor d before running → StandsFor d (sessions.Whole id t) (made_coarse running)
  whole_coarse before id p t is row stands down running h = made running (subst (λ (s : Session D g). StandsFor d s running) is h)
    where
      made : (running : Begun) → StandsFor d (sessions.Whole id p) running → StandsFor d (sessions.Whole id t) (made_coarse running)
      made (Whole s) h = record { up = down ∙ h.up; is_of = (h.is_of.0, row ∙ ap coarsened h.is_of.1, stands s.past h.is_of.2) }
      made (Alone s) h = absurd h.is_of

  pub alone_coarse : (before : Session D g) (id : ℕ) (p t : LowPump) → before ≡ sessions.Alone id p → low_pump.low_row_of t ≡ coarsened (low_pump.low_row_of p) → ((q : PastAlone) → low_pump.LowStandsFor p q → low_pump.LowStandsFor t q)
      → low_pump.low_is_down t ≡ low_pump.low_is_down p → (running : Begun) → StandsFor d before running → StandsFor {g = g} d (sessions.Alone id t) (made_coarse running)
  alone_coarse before id p t is row stands down running h = made running (subst (λ (s : Session D g). StandsFor d s running) is h)
    where
      made : (running : Begun) → StandsFor {g = g} d (sessions.Alone id p) running → StandsFor {g = g} d (sessions.Alone id t) (made_coarse running)
      made (Whole s) h = absurd h.is_of
      made (Alone s) h = record { up = down ∙ h.up; is_of = (h.is_of.0, row ∙ ap coarsened h.is_of.1, stands s.past h.is_of.2) }

  -- its disks are the same
  pub coarse_with : (before : Session D g) (id : ℕ) (p t : Pump D g) → before ≡ sessions.Whole id p → ((role : Role) → pump.disk_at role t ≡ pump.disk_at role p) → GoesOnWith d before (sessions.Whole id t)
  coarse_with before id p t is same = subst (λ (s : Session D g). GoesOnWith d s (sessions.Whole id t)) (sym is)
      (refl, λ role. subst (λ (disk : D). d.count (pump.disk_at role p) ≤ d.count disk) (sym (same role)) (omega arith))
