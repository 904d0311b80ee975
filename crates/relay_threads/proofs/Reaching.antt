-- Bytes that reach the other side, one piece after another.
use Rattle.std.proofs.Common.{◌≡◌, Option, ℕ, ◌≤◌, Bool, true, List, [], ◌++◌, refl, sym, ap, ◌∙◌, subst, append-nil, append_assoc, arith}
use Rattle.std.specs.Prelude.{Result, Ok, Err, OnOk, OnErr, is_ok}
use Rattle.std.specs.Io.KnownBytes.{Appends}
use Rattle.pump_frame.specs.Counts.{Rose}
use Rattle.pump_link.specs.Causes.{AppendsPrefix, HasCause}
use Rattle.relay_threads.specs.Reaching.{Reaches}

pub rose_later : (a b c : ℕ) → a ≤ b → Rose b c → Rose a c
rose_later a b c le h = omega (arith, le, h)

pub rose_earlier : (a b c : ℕ) → Rose a b → b ≤ c → Rose a c
rose_earlier a b c h le = omega (arith, le, h)

-- all of them came
pub reaches_all : (Adds : List ℕ → Type 0) (before now : ℕ) (bytes : List ℕ) → before ≤ now → Adds bytes → Reaches Adds before now true bytes
reaches_all Adds before now bytes le added = record {
  whole = λ e. added;
  prefix = (bytes, [], sym (append-nil bytes), added);
  cause = λ e. absurd (cc);
  later = le;
}

pub reaches_whole : (Adds : List ℕ → Type 0) (before now : ℕ) (is_whole : Bool) (bytes : List ℕ) → is_whole ≡ true → before ≤ now → Adds bytes → Reaches Adds before now is_whole bytes
reaches_whole Adds before now is_whole bytes e le added = subst (λ (b : Bool). Reaches Adds before now b bytes) (sym e) (reaches_all Adds before now bytes le added)

-- behind bytes that all came
pub reaches_behind : (Adds More : List ℕ → Type 0) (before mid now : ℕ) (is_whole : Bool) (first bytes : List ℕ) → before ≤ mid
    → ((rest : List ℕ) → More rest → Adds (first ++ rest)) → Reaches More mid now is_whole bytes → Reaches Adds before now is_whole (first ++ bytes)
reaches_behind Adds More before mid now is_whole first bytes le adds r = record {
  whole = λ e. adds bytes (r.whole e);
  prefix = (first ++ r.prefix.0, r.prefix.1, ap (λ (z : List ℕ). first ++ z) r.prefix.2 ∙ sym (append_assoc first r.prefix.0 r.prefix.1), adds r.prefix.0 r.prefix.3);
  cause = λ e. rose_later before mid now le (r.cause e);
  later = omega (arith, le, r.later);
}

-- bytes, and then nothing more
pub reaches_still : (Adds More All : List ℕ → Type 0) (before mid now : ℕ) (is_whole : Bool) (bytes : List ℕ)
    → ((some : List ℕ) → Adds some → More [] → All some) → Reaches Adds before mid is_whole bytes → Reaches More mid now true [] → Reaches All before now is_whole bytes
reaches_still Adds More All before mid now is_whole bytes all r still = record {
  whole = λ e. all bytes (r.whole e) (still.whole refl);
  prefix = (r.prefix.0, r.prefix.1, r.prefix.2, all r.prefix.0 r.prefix.3 (still.whole refl));
  cause = λ e. rose_earlier before mid now (r.cause e) still.later;
  later = omega (arith, r.later, still.later);
}

-- a write of all of them
pub reaches_written : {T E : Type 0} (r : Result T E) (old new : Option (List ℕ)) (before now : ℕ) (bytes : List ℕ) → OnOk r (Appends old new bytes) → OnErr r (AppendsPrefix old new bytes) → HasCause before now r
    → Reaches (Appends old new) before now (is_ok r) bytes
reaches_written (Ok x) old new before now bytes ok err cause = reaches_all (Appends old new) before now bytes cause.later ok
reaches_written (Err x) old new before now bytes ok err cause = record { whole = λ e. absurd (cc); prefix = err; cause = λ e. cause.failed; later = cause.later }
