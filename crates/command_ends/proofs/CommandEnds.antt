-- How a command that closes with these bytes ends, and the disk that its end names.
use Rattle.std.proofs.Common.{◌≡◌, ◌≤◌, ℕ, List, Option, inl, inr, refl, sym, ◌∙◌, subst, arith}
use Rattle.std.specs.Io.KnownBytes.{Appends}
use Rattle.disk_model.specs.declared.name.Role.{Role}
use Rattle.pump_frame.specs.Counts.{Rose}
use Rattle.command_ends.specs.Causes.{HasEndCause}
use Rattle.command_ends.specs.CommandEnds.{EndsSo, ClosesSo, IsSessionEnd, NamesFailed, end_status}
use Rattle.command_ends.specs.declared.command_end.CommandEnd.{CommandEnd}
use Rattle.command_ends.specs.declared.command_end.CommandEnd.TheVariants.{Done, Memory, Unread, NoRow, Failed, Refused, Unwritten}

module _ (Writes : CommandEnd → List ℕ → Type 0) (never : (output : List ℕ) → Writes Unwritten output → ⊥) (old new : Option (List ℕ)) where
  written_so : (end : CommandEnd) (bytes : List ℕ) → Writes end bytes → Appends old new bytes → EndsSo Writes old new end
  written_so Unwritten bytes h a = absurd (never bytes h)
  written_so end bytes h a = (bytes, h, a)

  pub ends_so : (before now : ℕ) (bytes : List ℕ) (end result : CommandEnd) → ClosesSo old new before now bytes end result → Writes end bytes → EndsSo Writes old new result
  ends_so before now bytes end result (inl h) w = subst (EndsSo Writes old new) (sym h.0) (written_so end bytes w h.1)
  ends_so before now bytes end result (inr h) w = subst (EndsSo Writes old new) (sym h.0) (end, bytes, w, h.1)

-- .. where the end is not that nothing could be written
module _ (Writes : CommandEnd → List ℕ → Type 0) (old new : Option (List ℕ)) where
  other_written : (end : CommandEnd) (bytes : List ℕ) → (end ≡ Unwritten → ⊥) → Writes end bytes → Appends old new bytes → EndsSo Writes old new end
  other_written Unwritten bytes other h a = absurd (other refl)
  other_written end bytes other h a = (bytes, h, a)

  pub other_ends : (before now : ℕ) (bytes : List ℕ) (end result : CommandEnd) → (end ≡ Unwritten → ⊥) → ClosesSo old new before now bytes end result → Writes end bytes → EndsSo Writes old new result
  other_ends before now bytes end result other (inl h) w = subst (EndsSo Writes old new) (sym h.0) (other_written end bytes other w h.1)
  other_ends before now bytes end result other (inr h) w = subst (EndsSo Writes old new) (sym h.0) (end, bytes, w, h.1)

pub session_status : (end : CommandEnd) → IsSessionEnd end → end_status end ≤ 8
session_status Done only = omega arith
session_status Memory only = omega arith
session_status Unread only = omega arith
session_status Unwritten only = omega arith
session_status (NoRow why) only = omega arith
session_status (Failed role) only = omega arith
session_status (Refused role why) only = omega arith
session_status end only = absurd only

-- the causes of the end that it was to have, and of one that could not be written
pub closed_cause : (Ends : CommandEnd → Type 0) (One Other : Role → Type 0) (Read : Type 0) (old new : Option (List ℕ)) (before now : ℕ) (bytes : List ℕ) (end result : CommandEnd)
    → Ends Unwritten → ClosesSo old new before now bytes end result → HasEndCause Ends One Read ⊥ end → ((role : Role) → One role → Other role) → HasEndCause Ends Other Read (Rose before now) result
closed_cause Ends One Other Read old new before now bytes end result last (inl h) c weaker = record {
  only = subst Ends (sym h.0) c.only;
  device = λ role is. weaker role (c.device role (sym h.0 ∙ is));
  read = λ is. c.read (sym h.0 ∙ is);
  unwritten = λ is. absurd (c.unwritten (sym h.0 ∙ is));
}
closed_cause Ends One Other Read old new before now bytes end result last (inr h) c weaker = let other = h.0 in record {
  only = subst Ends (sym other) last;
  device = λ role is. absurd (let e = sym other ∙ is in cc);
  read = λ is. absurd (let e = sym other ∙ is in cc);
  unwritten = λ is. h.2;
}

-- .. of a command that was done
pub done_cause : (Device : Role → Type 0) (Read : Type 0) (old new : Option (List ℕ)) (before now : ℕ) (bytes : List ℕ) (result : CommandEnd) → ClosesSo old new before now bytes Done result
    → HasEndCause IsSessionEnd Device Read (Rose before now) result
done_cause Device Read old new before now bytes result h =
    closed_cause IsSessionEnd Device Device Read old new before now bytes Done result tt h (record { only = tt; device = λ role is. absurd (cc); read = λ is. absurd (cc); unwritten = λ is. absurd (cc) }) (λ role d. d)

-- each disk that the end may name failed
pub names_failed : (fails : ℕ → Role → Type 0) (session : ℕ) (end : CommandEnd) → ((role : Role) → end ≡ Failed role → fails session role) → NamesFailed fails session end
names_failed fails session (Failed role) names = names role refl
names_failed fails session end names = tt
