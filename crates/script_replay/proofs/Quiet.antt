-- Until a line came that needs not stand first nothing is held or written.
use Rattle.std.proofs.Common.{◌≡◌, ℕ, Bool, true, false, List, [], ◌∷◌, ◌++◌, Option, refl, sym, ap, ◌∙◌, subst}
use Rattle.std.specs.Io.KnownBytes.{Appends}
use Rattle.disk_model.specs.declared.disk.Disk.{Ghosts}
use Rattle.pump_link.proofs.Known.{Appends-then}
use Rattle.script_replay.specs.declared.sessions.Sessions.{Sessions}
use Rattle.script_replay.specs.declared.outcome.LineOutcome.{LineOutcome}
use Rattle.script_replay.specs.declared.outcome.LineOutcome.TheVariants as outcomes
use Rattle.script_replay.specs.Outputs.{Gathers}
use Rattle.script_replay.specs.Runners.{TurnIsQuiet}

no_prefix : (xs ys : List ℕ) → [] ≡ xs ++ ys → (xs ≡ []) × (ys ≡ [])
no_prefix [] ys e = (refl, sym e)
no_prefix (x ∷ xs) ys e = cc

-- what is held is handed on
pub quiet_shown : (held later : List ℕ) (a b c : Option (List ℕ)) → held ≡ [] → Appends a b [] → Gathers held later b c [] → (later ≡ []) × Appends a c []
quiet_shown held later a b c none first (written, second, e) =
    let nothing : [] ≡ written ++ later = sym (ap (λ (l : List ℕ). l ++ []) none) ∙ e in
    let both = no_prefix written later nothing in
    (both.1, subst (λ (l : List ℕ). Appends a c l) both.0 (Appends-then a b c [] written first second))

pub by_way : (was is : Bool) → (was ≡ true → is ≡ true) → is ≡ false → was ≡ false
by_way true is h e = cc (sym (h refl) ∙ e)
by_way false is h e = refl

module _ {D : Type 0} {g : Ghosts D} (first then : Sessions D g) (held later : List ℕ) (a b c : Option (List ℕ)) (outcome : LineOutcome) (q : TurnIsQuiet first then held later b c outcome) (so : first.is_under_way ≡ false → (held ≡ []) × Appends a b []) where
  pub quiet_turn : outcome ≡ outcomes.Applied → then.is_under_way ≡ false → (later ≡ []) × Appends a c []
  quiet_turn applied way =
      let s = so (by_way first.is_under_way then.is_under_way q.waits way) in
      let same = q.quiet applied way in
      (same.0 ∙ s.0, subst (λ (x : Option (List ℕ)). Appends a x []) (sym same.1) s.1)

  pub quiet_memory : outcome ≡ outcomes.Memory → Appends a c []
  quiet_memory wanting =
      let m = q.memory wanting in
      subst (λ (x : Option (List ℕ)). Appends a x []) (sym m.2) (so m.0).1
