-- By which cause a sender of a stream ends.
use Rattle.std.proofs.Common.{◌≡◌, ◌⊎◌, ℕ, List, Option, inl, inr, sym, subst}
use Rattle.pump_frame.specs.Counts.{Rose}
use Rattle.peers.specs.declared.append.AppendEnd.{AppendEnd}
use Rattle.peers.specs.declared.append.AppendEnd.TheVariants as appender
use Rattle.dispatch.specs.Appendings.{end_of_appender, TellsEnd}
use Rattle.command_ends.specs.Causes.{Causes, IsCaused}
use Rattle.command_ends.specs.declared.command_end.CommandEnd.{CommandEnd}
use Rattle.command_ends.specs.declared.command_end.CommandEnd.TheVariants.{Unread, Unwritten}

-- the sender's ends name a read of the script, and the output
abbrev pub appender_causes : (was now before after : ℕ) → Causes
appender_causes was now before after = record { memory = ⊥; read = Rose was now; unwritten = Rose before after; device = λ role. ⊥; link = ⊥ }

module _ (c : Causes) (session lines next : ℕ) (mid new : Option (List ℕ)) (end : CommandEnd) (read : end ≡ Unread → c.read) (unwritten : end ≡ Unwritten → c.unwritten) where
  appender_caused : (came : AppendEnd) → end ≡ end_of_appender came lines next → IsCaused c (end_of_appender came lines next)
  appender_caused appender.Done is = tt
  appender_caused appender.Read is = read is
  appender_caused appender.Write is = unwritten is
  appender_caused appender.Script is = tt
  appender_caused (appender.Refused code number) is = tt
  appender_caused appender.Unfinished is = tt
  appender_caused (appender.Elsewhere number) is = tt

  cut_caused : end ≡ Unwritten → IsCaused c end
  cut_caused is = subst (IsCaused c) (sym is) (unwritten is)

  ended_caused : (came : AppendEnd) → end ≡ end_of_appender came lines next → IsCaused c end
  ended_caused came is = subst (IsCaused c) (sym is) (appender_caused came is)

  either_caused : (came : AppendEnd) (Whole Part : Type 0) → ((end ≡ end_of_appender came lines next) × Whole) ⊎ ((end ≡ Unwritten) × Part) → IsCaused c end
  either_caused came Whole Part (inl whole) = ended_caused came whole.0
  either_caused came Whole Part (inr part) = cut_caused part.0

  pub told_caused : (came : AppendEnd) → TellsEnd session came lines next mid new end → IsCaused c end
  told_caused appender.Done tells = either_caused appender.Done _ _ tells
  told_caused appender.Read tells = either_caused appender.Read _ _ tells
  told_caused appender.Write tells = cut_caused tells.0
  told_caused appender.Script tells = either_caused appender.Script _ _ tells
  told_caused (appender.Refused code number) tells = either_caused (appender.Refused code number) _ _ tells
  told_caused appender.Unfinished tells = either_caused appender.Unfinished _ _ tells
  told_caused (appender.Elsewhere number) tells = either_caused (appender.Elsewhere number) _ _ tells
