-- What is said of a record where no further line comes.
use Rattle.std.proofs.Common.{◌≡◌, inl, inr, ℕ, ◌+◌, true, false, length, refl, sym, ap, ◌∙◌}
use Rattle.std.specs.Prelude.{is_some}
use Rattle.pump_audit.specs.declared.state.Audit.{Audit}
use Rattle.pump_audit.specs.declared.verdict.Verdict.TheVariants.{Yes, No}
use Rattle.pump_audit.specs.Auditing.{Audits, EndIs}
use Rattle.pump_audit.specs.Claims.{has_end, AreRight, IsFirstWrong}
use Rattle.pump_audit.specs.Places.{ends_at}
use Rattle.pump_audit.specs.Records.{Record}
use Rattle.pump_audit.specs.Verdicts.{IsRightEnd}
use Rattle.pump_audit.proofs.AuditLaws.{is_ended}

module _ (a : Audit) (r : Record) (was : Audits a r) where
  pub cut_short : (line : ℕ) → line ≡ a.lines → ends_at a.place ≡ false → EndIs r (No (line + 1) 1)
  cut_short line is e = inl (inl (refl, ap ends_at (sym was.counts.place) ∙ e), ap (λ n. n + 1) (is ∙ was.counts.lines))

  pub claims_wrong : (from line : ℕ) → from ≡ line → ends_at a.place ≡ true → is_some a.owed ≡ false → IsFirstWrong r r.claims line → EndIs r (No from 4)
  claims_wrong from line is e none wrong = inr (inl (is_ended a r was e none, refl, (wrong.0, wrong.1, wrong.2, wrong.3, wrong.4, wrong.5, is ∙ wrong.6)))

  pub numbers_wrong : (line : ℕ) → line ≡ a.lines → ends_at a.place ≡ true → is_some a.owed ≡ false → AreRight r r.claims
      → (has_end r ≡ true) × (IsRightEnd r → ⊥) → EndIs r (No line 5)
  numbers_wrong line is e none right wrong = inr (inr (is_ended a r was e none, right, refl, wrong.0, wrong.1, is ∙ was.counts.lines))

  pub all_right : (times : ℕ) → times ≡ length r.times → ends_at a.place ≡ true → is_some a.owed ≡ false → AreRight r r.claims
      → (has_end r ≡ true → IsRightEnd r) → EndIs r (Yes a.looks a.acks times)
  all_right times is e none right end = (is_ended a r was e none, right, end, was.counts.looks, was.counts.acks, is)
