use Rattle.std.proofs.Common.{◌+◌, refl}
use Rattle.std.proofs.lemmas.Bool.{false≢true}
use Rattle.std.proofs.lemmas.List.{take_rest}
use Rattle.pump_frame.proofs.Names.{colon_nowhere, names_at, names_split}
use Rattle.pump_frame.proofs.frame.names_in.Goals as goal

pub returns-in_err-colon-clause-some : goal.returns-in_err-colon-clause-some
returns-in_err-colon-clause-some c = (
  λ some. absurd (false≢true (rw c.from_residual.ensures at some)),
  λ names. absurd (colon_nowhere c.args.bytes.now names (c.in_err-colon.ensures.none refl)),
)

pub returns-in_err-low-clause-some : goal.returns-in_err-low-clause-some
returns-in_err-low-clause-some c = (
  λ some. absurd (false≢true (rw c.from_residual-in_err-low.ensures at some)),
  λ names.
      let there = c.in_ok-colon.ensures in
      let are = names_at c.args.bytes.now c.in_ok-colon.colon there.found.1 there.first names in
      absurd (false≢true (c.in_err-low.ensures.some.1 are.0)),
)

pub returns-in_err-high-clause-some : goal.returns-in_err-high-clause-some
returns-in_err-high-clause-some c = (
  λ some. absurd (false≢true (rw c.from_residual-in_err-high.ensures at some)),
  λ names.
      let there = c.in_ok-colon.ensures in
      let are = names_at c.args.bytes.now c.in_ok-colon.colon there.found.1 there.first names in
      absurd (false≢true (c.in_err-high.ensures.some.1 (rw (take_rest c.args.bytes.now (c.in_ok-colon.colon + 1)) are.1))),
)

pub returns-clause-some : goal.returns-clause-some
returns-clause-some c = (
  λ some.
      let there = c.in_ok-colon.ensures in
      names_split c.args.bytes.now c.in_ok-colon.colon there.found.0 there.found.1 (c.in_ok-low.ensures.some.0 refl) (rw take_rest at (c.in_ok-high.ensures.some.0 refl)),
  λ names. refl,
)
