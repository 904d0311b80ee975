-- The ATTACH that comes: the TAKEN of the last message that the receiver has was sent.
use Rattle.std.proofs.Common.{◌≡◌, ℕ, zero, suc, true, List, ◌∷◌, Option, Some, None, length, refl, sym, ap, ◌∙◌, subst, arith}
use Rattle.disk_model.specs.Disk.{Meaning}
use Rattle.disk_model.specs.declared.name.Role.{Role}
use Rattle.pump_frame.specs.declared.frame.Kind.TheVariants.{Attach}
use Rattle.pump_frame.specs.declared.row.SessionRow.{SessionRow}
use Rattle.pump_core.specs.World.{World}
use Rattle.high_receiver.specs.Receiving.{recv_count}
use Rattle.script_reader.specs.declared.event.Event.{Event}
use Rattle.script_reader.specs.declared.event.Event.TheVariants.{Attach as AttachLine}
use Rattle.script_reader.specs.Past.{Past}
use Rattle.script_reader.specs.Highs.{IsAttach}
use Rattle.world_laws.specs.Answered.{HasAnswered}
use Rattle.two_worlds.specs.Private.HighLooks.{IsOfLast, ComesBack, LeadsWith, BreaksWith, Attaches, BreaksAttaching}
use Rattle.two_worlds.specs.Standing.{Stands}
use Rattle.two_worlds.specs.declared.pump.parts.Parts.{Parts}
use Rattle.world_laws.proofs.Answered.{answered_at}
use Rattle.two_worlds.proofs.High.Returning.{numbered}

-- where the TAKEN of the last of so many messages stands
abbrev LastPlace : World → ℕ → Type 0
LastPlace w n = (back : Option ℕ) × IsOfLast w n back

last_place : (w : World) (n : ℕ) → HasAnswered w → length w.received ≡ n → LastPlace w n
last_place w zero answered e = (None, tt)
last_place w (suc n) answered e = (let found = answered_at w n answered e in (Some found.0, found.1))

-- the receiver's count is that of the messages it has in the world
pub count_is : {D : Type 0} (m : Meaning D) (c : Parts D) (p : Past) → Stands m c p → (n : ℕ) → n ≡ recv_count c.receiver → n ≡ length p.world.received
count_is m c p s n e = e ∙ sym s.world.received

-- with that count its ATTACH comes
pub attach_comes : {D : Type 0} (m : Meaning D) (c : Parts D) (p : Past) → Stands m c p → (n : ℕ) → n ≡ recv_count c.receiver
    → (back : Option ℕ) × ComesBack c.row.id p.world true (Some (numbered c Attach n).taken.value) back
attach_comes m c p s n e =
    let count = count_is m c p s n e in
    let last = last_place p.world n s.sound.answered (sym count) in
    (last.0, (refl, s.packets.taken, count, last.1))

-- ---- what the look leads to ----

module _ (row : SessionRow) (p : Past) (m : ℕ) where
  leads_by : (n : ℕ) (back : Option ℕ) (q : Past) (more : List Event) → IsOfLast p.world n back → LeadsWith row m true back p q more → IsAttach row p m n q more
  leads_by zero None q more last leads = leads
  leads_by zero (Some k) q more last leads = absurd last
  leads_by (suc n) None q more last leads = absurd last
  leads_by (suc n) (Some k) q more last leads = (k, last, leads)

  pub leads_attaching : (n : ℕ) (back : Option ℕ) (q : Past) (more : List Event) → n ≡ length p.world.received → IsOfLast p.world n back
      → LeadsWith row m true back p q more → Attaches row m p q (AttachLine row.id m n ∷ more)
  leads_attaching n back q more count last leads =
      (more, subst (λ (k : ℕ). IsAttach row p m k q more) count (leads_by n back q more last leads), ap (λ (k : ℕ). AttachLine row.id m k ∷ more) count)

  -- .. and where the high disk fails in the removal
  pub breaks_attaching : (n : ℕ) (back : Option ℕ) (role : Role) (q : Past) (more : List Event) → n ≡ length p.world.received → IsOfLast p.world n back
      → BreaksWith m back role p q more → BreaksAttaching row m role p q (AttachLine row.id m n ∷ more)
  breaks_attaching n None role q more count last breaks = absurd breaks
  breaks_attaching zero (Some k) role q more count last breaks = absurd last
  breaks_attaching (suc n) (Some k) role q more count last (is, unremoved, none) = (
    is,
    record { number = n; count = omega (arith, count); at = k; taken = last; unremoved = unremoved },
    (λ i. AttachLine row.id m (count i) ∷ none i),
  )
