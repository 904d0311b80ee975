-- The end of a session is printed last.
use Rattle.std.proofs.Common.{◌≡◌, ℕ, [], ◌∷◌, None, Some, refl, sym, ap, ◌∙◌, subst}
use Rattle.disk_model.specs.Disk.{Meaning}
use Rattle.disk_model.specs.declared.disk.Disk.{Ghosts}
use Rattle.script_reader.specs.declared.event.Event.{Event}
use Rattle.script_reader.specs.declared.event.Event.TheVariants.{End}
use Rattle.script_reader.specs.Alone.{PastAlone}
use Rattle.script_reader.specs.Scripts.{Begun, Whole, Alone, Ends, IsEndAlone}
use Rattle.two_worlds.specs.LowPumps as low_pump
use Rattle.two_worlds.specs.declared.low_pump.LowPump.{LowPump}
use Rattle.script_replay.specs.declared.session.Session.{Session}
use Rattle.script_replay.specs.declared.session.Session.TheVariants as sessions
use Rattle.script_replay.specs.Sessions.{StandsFor}

module _ {D : Type 0} {g : Ghosts D} (d : Meaning D) where
  pub alone_ends : (before : Session D g) (id : ℕ) (p : LowPump) (next : ℕ) → before ≡ sessions.Alone id p
      → ((q : PastAlone) → low_pump.LowStandsFor p q → IsEndAlone (low_pump.low_row_of p) q (End (low_pump.low_row_of p).id next None))
      → (running : Begun) → StandsFor d before running → Ends (Some running) (End id next None ∷ [])
  alone_ends before id p next is ends running h = at running (subst (λ (s : Session D g). StandsFor d s running) is h)
    where
      at : (running : Begun) → StandsFor {g = g} d (sessions.Alone id p) running → Ends (Some running) (End id next None ∷ [])
      at (Whole s) h = absurd h.is_of
      at (Alone s) h =
          let low = ends s.past h.is_of.2 in
          let same : End (low_pump.low_row_of p).id next None ≡ End id next None = ap (λ (i : ℕ). End i next None) (ap (λ r. r.id) h.is_of.1 ∙ sym h.is_of.0) in
          (End id next None, subst (λ (e : Event). IsEndAlone s.row s.past e) same (subst (λ r. IsEndAlone r s.past (End (low_pump.low_row_of p).id next None)) h.is_of.1 low), refl)
