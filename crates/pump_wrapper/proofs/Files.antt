-- What is gathered of a file.
use Rattle.std.proofs.Common.{◌≡◌, ℕ, ◌≤◌, List, ◌++◌, Option, Result, Ok, Err, length, take, drop, refl, sym, ◌∙◌, ap, subst, append_assoc}
use Rattle.std.specs.Prelude.{IsTrue}
use Rattle.std.specs.Io.KnownBytes.{Appends}
use Rattle.std.proofs.lemmas.List.{take-append-drop}
use Rattle.pump_link.specs.Causes.{AppendsPrefix}
use Rattle.pump_wrapper.specs.Wrapped.{unwrapped, wrapped}
use Rattle.pump_wrapper.specs.Gathers.{Gathers}
use Rattle.pump_wrapper.specs.declared.gathered.Gathered.{Gathered}
use Rattle.pump_wrapper.specs.declared.gathered.GatherFault.{GatherFault}
use Rattle.pump_wrapper.specs.declared.gathered.GatherFault.TheVariants.{Device, NotWrapped, Write}
use Rattle.pump_wrapper.proofs.Wrapping.{prefix_of_file, unwrapped_file}

-- the bytes of the first n of these messages begin the file
begun : (message : ℕ) (file : List ℕ) (messages rest : List (List ℕ)) (n : ℕ) → 2 ≤ message → wrapped message file ≡ messages ++ rest
    → (later : List ℕ) × (file ≡ unwrapped (take n messages) ++ later)
begun message file messages rest n two is = (
  unwrapped (drop n messages ++ rest),
  prefix_of_file message file (take n messages) (drop n messages ++ rest) two
      (is ∙ ap (λ (ms : List (List ℕ)). ms ++ rest) (sym (take-append-drop n messages)) ∙ append_assoc (take n messages) (drop n messages) rest),
)

pub prefix_given : (message : ℕ) (file : List ℕ) (messages rest : List (List ℕ)) (old new : Option (List ℕ)) (result : Result Gathered GatherFault) → 2 ≤ message
    → wrapped message file ≡ messages ++ rest → Gathers message messages old new result → AppendsPrefix old new file
prefix_given message file messages rest old new (Ok gathered) two is gathers = (unwrapped messages, unwrapped rest, prefix_of_file message file messages rest two is, gathers.1)
prefix_given message file messages rest old new (Err (Device faults)) two is (n, lt, begins, wrote) = let b = begun message file messages rest n two is in (unwrapped (take n messages), b.0, b.1, wrote)
prefix_given message file messages rest old new (Err (NotWrapped n)) two is gathers = let b = begun message file messages rest n two is in (unwrapped (take n messages), b.0, b.1, gathers.3)
prefix_given message file messages rest old new (Err Write) two is (n, le, begins, (prefix, more, split, wrote)) =
    let b = begun message file messages rest n two is in
    (prefix, more ++ b.0, b.1 ∙ ap (λ (bs : List ℕ). bs ++ b.0) split ∙ append_assoc prefix more b.0, wrote)

pub all_given : (message : ℕ) (file : List ℕ) (old new : Option (List ℕ)) (gathered : Gathered) → 2 ≤ message → Gathers message (wrapped message file) old new (Ok gathered)
    → Appends old new file × (gathered.bytes ≡ length file) × IsTrue gathered.whole
all_given message file old new gathered two gathers =
    let whole = unwrapped_file message file two in
    (subst (Appends old new) whole gathers.1, gathers.2 ∙ ap length whole, gathers.3.1 (file, refl))
