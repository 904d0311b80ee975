-- What a comparison of the receiver's messages comes to.
use Rattle.std.proofs.Common.{◌≡◌, ℕ, ◌≤◌, List, Option, Some, None, Result, Ok, Err, refl, ap}
use Rattle.std.specs.Prelude.{OnOk, IfErr}
use Rattle.std.specs.Io.KnownBytes.{Consumes}
use Rattle.disk_model.specs.Disk.{Meaning}
use Rattle.pump_frame.specs.Counts.{Rose}
use Rattle.pump_frame.specs.declared.row.SessionRow.{SessionRow}
use Rattle.recovery.specs.declared.why.Why.TheVariants as whys
use Rattle.stable_buffer.specs.Log.{RecvStands}
use Rattle.pump_wrapper.specs.Comparing.{Compares, CompareCause, FirstDiffer, TakesInAll}
use Rattle.pump_wrapper.specs.Wraps.{end_of_comparison}
use Rattle.pump_wrapper.specs.WrapEnds.{ComparesNot, TakesSoFar}
use Rattle.pump_wrapper.specs.declared.compare.CompareFault.{CompareFault}
use Rattle.pump_wrapper.specs.declared.compare.CompareFault.TheVariants as compares
use Rattle.pump_wrapper.specs.declared.cutter.Cutter.{Cutter}
use Rattle.pump_wrapper.specs.declared.file_sender.WrapEnd.TheVariants as ends
use Rattle.pump_wrapper.proofs.Going.{rose_later}

pub ok_of : {P Q : Type 0} (r : Result (Unit {0}) CompareFault) → (r ≡ Ok tt → P → Q) → OnOk r P → OnOk (end_of_comparison r) Q
ok_of (Ok done) f p = f refl p
ok_of (Err (compares.Device faults)) f p = p
ok_of (Err (compares.Differs n)) f p = p
ok_of (Err compares.Read) f p = p
ok_of (Err compares.TooLong) f p = p

pub ok_only : {Q : Type 0} (r : Result (Unit {0}) CompareFault) → (r ≡ Ok tt → Q) → OnOk (end_of_comparison r) Q
ok_only (Ok done) f = f refl
ok_only (Err (compares.Device faults)) f = tt
ok_only (Err (compares.Differs n)) f = tt
ok_only (Err compares.Read) f = tt
ok_only (Err compares.TooLong) f = tt

first_differ : (messages : List (List ℕ)) (old new : Cutter) (left rest : Option (List ℕ)) (n : ℕ) (bytes : List ℕ) → Consumes left rest bytes → Compares messages old new left rest (Err (compares.Differs n)) → FirstDiffer messages old left n
first_differ messages old new None rest n bytes c h = tt
first_differ messages old new (Some l) None n bytes c h = absurd c
first_differ messages old new (Some l) (Some r) n bytes c h = h

pub compares_not : {D : Type 0} (m : Meaning D) (row : SessionRow) (was old new : D) (start now : Cutter) (left rest : Option (List ℕ)) (file file' : ℕ) (r : Result (Unit {0}) CompareFault) → TakesInAll start now left rest r
    → (m.tells → (messages : List (List ℕ)) → RecvStands row messages (m.reading was) → Compares messages start now left rest r) → m.count was ≤ m.count old → CompareCause (m.count old) (m.count new) file file' r
    → IfErr (end_of_comparison r) (λ end. ComparesNot m row was new start left end)
compares_not m row was old new start now left rest file file' (Ok done) takes compares le cause = tt
compares_not m row was old new start now left rest file file' (Err (compares.Device faults)) takes compares le cause =
    (refl, (λ dev. (ap whys.Device cause.0, rose_later _ _ _ le cause.1)), λ other. absurd (cc))
compares_not m row was old new start now left rest file file' (Err (compares.Differs n)) takes compares le cause = λ told messages stands. first_differ messages start now left rest n takes.0 takes.1 (compares told messages stands)
compares_not m row was old new start now left rest file file' (Err compares.Read) takes compares le cause = tt
compares_not m row was old new start now left rest file file' (Err compares.TooLong) takes compares le cause = tt

pub takes_so_far : (start now : Cutter) (left rest : Option (List ℕ)) (r : Result (Unit {0}) CompareFault) → TakesInAll start now left rest r → TakesSoFar start now left rest (end_of_comparison r)
takes_so_far start now left rest (Ok done) (bytes, c, long, short, counted) = (bytes, c, (λ e. absurd (cc)), (λ e. short (λ x. absurd (cc))), λ e. counted refl)
takes_so_far start now left rest (Err (compares.Device faults)) (bytes, c, long, short, counted) = (bytes, c, (λ e. absurd (cc)), (λ e. short (λ x. absurd (cc))), λ e. absurd (cc))
takes_so_far start now left rest (Err (compares.Differs n)) (bytes, c, long, short, counted) = (bytes, c, (λ e. absurd (cc)), (λ e. short (λ x. absurd (cc))), λ e. absurd (cc))
takes_so_far start now left rest (Err compares.Read) (bytes, c, long, short, counted) = (bytes, c, (λ e. absurd (cc)), (λ e. short (λ x. absurd (cc))), λ e. absurd (cc))
takes_so_far start now left rest (Err compares.TooLong) (bytes, c, long, short, counted) = (bytes, c, (λ e. long refl), (λ e. absurd (cc)), λ e. absurd (cc))

pub read_compared : (disk disk' file file' : ℕ) (r : Result (Unit {0}) CompareFault) → CompareCause disk disk' file file' r → end_of_comparison r ≡ Err ends.Read → Rose file file'
read_compared disk disk' file file' (Ok done) cause e = absurd (cc)
read_compared disk disk' file file' (Err (compares.Device faults)) cause e = absurd (cc)
read_compared disk disk' file file' (Err (compares.Differs n)) cause e = absurd (cc)
read_compared disk disk' file file' (Err compares.Read) cause e = cause
read_compared disk disk' file file' (Err compares.TooLong) cause e = absurd (cc)
