-- A device stops a line only where its count rose.
use Rattle.std.proofs.Common.{◌≡◌, inl, inr, ℕ, true, List, Option, Some, None, refl, sym, ◌∙◌, subst}
use Rattle.disk_model.specs.Disk.{Meaning}
use Rattle.disk_model.specs.declared.name.Role.{Role}
use Rattle.disk_model.specs.declared.name.Role.TheVariants as roles
use Rattle.pump_frame.specs.Counts.{Rose}
use Rattle.pump_frame.specs.declared.row.SessionRow.{SessionRow}
use Rattle.script_reader.specs.Breaks.{Breaks}
use Rattle.script_reader.specs.Past.{Past}
use Rattle.script_reader.specs.declared.event.Event.{Event}
use Rattle.script_reader.specs.declared.line.Arriving.TheVariants.{Nothing}
use Rattle.script_reader.specs.declared.line.Line.{Line as ScriptLine}
use Rattle.script_reader.specs.declared.line.Line.TheVariants as lines
use Rattle.two_worlds.specs.declared.applied.Stop.{Stop}
use Rattle.two_worlds.specs.declared.applied.Stop.TheVariants.{Line, Device, Full, Disk}
use Rattle.two_worlds.specs.declared.pump.Pump.{Pump}
use Rattle.two_worlds.specs.Pumps.{row_of, disk_at, AppliesOn}
use Rattle.two_worlds.specs.Rooms.{Serves, DisksGo}
use Rattle.pump_chain.specs.Chained.{OfFirst, OfSecond, share_by}
use Rattle.pump_chain.specs.Private.{share_for, IsWhose}
use Rattle.pump_chain.specs.Standing.{broken_disk, FailsWith, AreCounted, IsCountedBy, IsCounted}
use Rattle.pump_chain.specs.declared.chain.Chain.{Chain}
use Rattle.pump_chain.specs.declared.whose.Whose.{Whose}

pub serves_rose : {D : Type 0} (m : Meaning D) (least : ℕ) (old new : D) → Serves m least old new true → Rose (m.count old) (m.count new)
serves_rose m least old new (inl (same, none)) = absurd (cc)
serves_rose m least old new (inr a) = a.rose refl

module _ {D : Type 0} {g : _} (m : Meaning D) where
  abbrev pub Goes : Pump D g → Pump D g → Option Stop → Type 0
  Goes s t stop = DisksGo m (row_of s) (disk_at roles.Low s) (disk_at roles.High s) (disk_at roles.Recv s) (disk_at roles.Low t) (disk_at roles.High t) (disk_at roles.Recv t) stop

  pub rose_in : (s t : Pump D g) (role : Role) (faults : ℕ) → Goes s t (Some (Device role faults)) → Rose (m.count (disk_at role s)) (m.count (disk_at role t))
  rose_in s t roles.Low faults go = serves_rose m _ _ _ go.low_goes
  rose_in s t roles.High faults go = serves_rose m _ _ _ go.high_goes
  rose_in s t roles.Recv faults go = serves_rose m _ _ _ go.recv_goes

  -- a line of the first session; and one of the second
  pub first_counts : (s t x y : Pump D g) (line given : ScriptLine) (printed : List Event) (stop : Option Stop) → Goes s t stop → AppliesOn m s t given printed stop → AreCounted m (OfFirst line) s t x y stop
  first_counts s t x y line given printed None go on = tt
  first_counts s t x y line given printed (Some Line) go on = tt
  first_counts s t x y line given printed (Some (Device role faults)) go on = (rose_in s t role faults go, on.2)
  first_counts s t x y line given printed (Some (Full end k size)) go on = tt
  first_counts s t x y line given printed (Some (Disk role why)) go on = tt

  pub second_counts : (x y s t : Pump D g) (line given : ScriptLine) (printed : List Event) (stop : Option Stop) → Goes s t stop → AppliesOn m s t given printed stop → AreCounted m (OfSecond line) x y s t stop
  second_counts x y s t line given printed None go on = tt
  second_counts x y s t line given printed (Some Line) go on = tt
  second_counts x y s t line given printed (Some (Device role faults)) go on = inl (rose_in s t role faults go, on.2)
  second_counts x y s t line given printed (Some (Full end k size)) go on = tt
  second_counts x y s t line given printed (Some (Disk role why)) go on = tt

  -- what is shown of its share is so of the line
  pub counted_by : (s t : Chain D g) (first second : SessionRow) → first ≡ row_of s.first → second ≡ row_of s.second → (line : ScriptLine) (who case : Whose) → IsWhose first.id second.id line who → who ≡ case
      → (stop : Option Stop) → IsCountedBy m s t (share_for (row_of s.second).id Nothing line case) stop → IsCounted m s t line stop
  counted_by s t first second is_first is_second line who case is e stop counts = subst (λ share. IsCountedBy m s t share stop)
      (sym ((λ i. share_by (sym is_first i).id (sym is_second i).id Nothing line) ∙ is Nothing ∙ (λ i. share_for (is_second i).id Nothing line (e i)))) counts

-- ---- the disk that fails ----

-- a disk of the second session that fails in its line is its own: no look fails at the receiver's
pub broken_own : {D : Type 0} {g : _} (row : SessionRow) (p : Past) (line : ScriptLine) (role : Role) (q : Past) (printed : List Event) → Breaks row p line role q printed → (first second : Pump D g) → broken_disk (OfSecond line) role first second ≡ disk_at role second
broken_own row p (lines.Look session m w a) roles.Low q printed h first second = refl
broken_own row p (lines.Look session m w a) roles.High q printed h first second = refl
broken_own row p (lines.Look session m w a) roles.Recv q printed h first second = absurd h
broken_own row p lines.Skip role q printed h first second = refl
broken_own row p (lines.Session other) role q printed h first second = refl
broken_own row p (lines.LowSession other next held) role q printed h first second = refl
broken_own row p (lines.Coarse session) role q printed h first second = refl
broken_own row p (lines.Told session m w fault told a) role q printed h first second = refl
broken_own row p (lines.Step session m w) role q printed h first second = refl
broken_own row p (lines.Gone session m) role q printed h first second = refl
broken_own row p (lines.High session m) role q printed h first second = refl
broken_own row p (lines.Carry session back) role q printed h first second = refl
broken_own row p (lines.Return session m back) role q printed h first second = refl
broken_own row p (lines.Done session m t) role q printed h first second = refl
broken_own row p (lines.Restart session m) role q printed h first second = refl
broken_own row p (lines.ReceiverRestart session m) role q printed h first second = refl

pub fails_own : {D : Type 0} {g : _} (m : Meaning D) (row : SessionRow) (p : Past) (line : ScriptLine) (role : Role) (q : Past) (printed : List Event) (faults : ℕ) → Breaks row p line role q printed → (first first_now second second_now : Pump D g)
    → FailsWith m (disk_at role second) (disk_at role second_now) faults → FailsWith m (broken_disk (OfSecond line) role first second) (broken_disk (OfSecond line) role first_now second_now) faults
fails_own {D} m row p line role q printed faults breaks first first_now second second_now fails =
    subst (λ (x : D × D). FailsWith m x.0 x.1 faults) (λ i. (sym (broken_own row p line role q printed breaks first second) i, sym (broken_own row p line role q printed breaks first_now second_now) i)) fails
