-- What was held back is written at the end.
use Rattle.std.proofs.Common.{◌≡◌, ◌≢◌, ℕ, List, Option, Result, Ok, Err, length, take, sym, refl, subst, arith}
use Rattle.std.proofs.lemmas.List.{take_all}
use Rattle.std.specs.Io.KnownBytes.{Appends}
use Rattle.std.proofs.KnownBytes.{Appends-trans}
use Rattle.pump_link.specs.Causes.{AppendsPrefix}
use Rattle.pump_wrapper.specs.Gathers.{Gathers, GathersBy}
use Rattle.pump_wrapper.specs.HeldBack.{Held}
use Rattle.pump_wrapper.specs.Wrapped.{unwrapped, BeginsFile}
use Rattle.pump_wrapper.specs.declared.gathered.Gathered.{Gathered}
use Rattle.pump_wrapper.specs.declared.gathered.GatherFault.{GatherFault}
use Rattle.pump_wrapper.specs.declared.gathered.GatherFault.TheVariants.{Device, NotWrapped, Write}
use Rattle.pump_wrapper.proofs.Takings.{prefix_behind}

module _ (old mid new : Option (List ℕ)) (held : List ℕ) where
  all_written : (bytes : List ℕ) → Held old mid held bytes → Appends mid new held → Appends old new bytes
  all_written bytes (written, wrote, is) rest = subst (Appends old new) (sym is) (Appends-trans old mid new written held wrote rest)

  prefix_written : (bytes : List ℕ) → Held old mid held bytes → AppendsPrefix mid new held → AppendsPrefix old new bytes
  prefix_written bytes (written, wrote, is) rest = subst (AppendsPrefix old new) (sym is) (prefix_behind old mid new written held wrote rest)

  abbrev HeldBack : ℕ → List (List ℕ) → Result Gathered GatherFault → Type 0
  HeldBack message messages result = GathersBy (Held old mid held) (AppendsPrefix old mid) message messages result

  pub flushed : (message : ℕ) (messages : List (List ℕ)) (result : Result Gathered GatherFault) → result ≢ Err Write
      → HeldBack message messages result → Appends mid new held → Gathers message messages old new result
  flushed message messages (Ok gathered) other h rest = (h.0, all_written _ h.1 rest, h.2, h.3)
  flushed message messages (Err (NotWrapped n)) other h rest = (h.0, h.1, h.2, all_written _ h.3 rest)
  flushed message messages (Err (Device faults)) other h rest = (h.0, h.1, h.2, all_written _ h.3 rest)
  flushed message messages (Err Write) other h rest = absurd (other refl)

  pub unflushed : (message : ℕ) (messages : List (List ℕ)) (result : Result Gathered GatherFault) → result ≢ Err Write
      → HeldBack message messages result → AppendsPrefix mid new held → Gathers message messages old new (Err Write)
  unflushed message messages (Ok gathered) other h rest =
      let all : take (length messages) messages ≡ messages = take_all (length messages) messages (omega arith) in (
        length messages,
        omega arith,
        subst (BeginsFile message) (sym all) h.0,
        subst (λ (ms : List (List ℕ)). AppendsPrefix old new (unwrapped ms)) (sym all) (prefix_written _ h.1 rest),
      )
  unflushed message messages (Err (NotWrapped n)) other h rest = (n, omega (arith, h.0), h.1, prefix_written _ h.3 rest)
  unflushed message messages (Err (Device faults)) other h rest = (h.0, omega (arith, h.1), h.2, prefix_written _ h.3 rest)
  unflushed message messages (Err Write) other h rest = absurd (other refl)

  pub unwritten : (message : ℕ) (messages : List (List ℕ)) (result : Result Gathered GatherFault) → result ≡ Err Write
      → HeldBack message messages result → Gathers message messages old mid result
  unwritten message messages result is h = subst (Gathers message messages old mid) (sym is) (subst (HeldBack message messages) is h)
