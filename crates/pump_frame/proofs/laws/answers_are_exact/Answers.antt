use Rattle.std.proofs.Common.{◌++◌, ◌∷◌, [], length, subst, refl}
use Rattle.pump_frame.specs.Readings.{Within, Stopped}
use Rattle.pump_frame.specs.Streams.{Feeds}
use Rattle.pump_frame.specs.declared.reader.Fed.{Fed}
use Rattle.pump_frame.specs.declared.reader.Fed.TheVariants.{More, Whole, Bad}
use Rattle.pump_frame.proofs.Streams.{feeds_one}
use Rattle.pump_frame.proofs.laws.answers_are_exact.Goals as goal

pub returns-clause-more : goal.returns-clause-more
returns-clause-more c = λ held byte fed new feeds. (
  λ e. (subst (λ (x : Fed). Feeds (Within held) byte x new) e feeds).0,
  λ partial. (feeds_one (Within held) byte fed More new (Within (held ++ byte ∷ [])) feeds (partial, refl)).0,
)

pub returns-clause-whole : goal.returns-clause-whole
returns-clause-whole c = λ held byte fed new f feeds. (
  λ e. let whole = subst (λ (x : Fed). Feeds (Within held) byte x new) e feeds in (whole.0, whole.1),
  λ is. (feeds_one (Within held) byte fed (Whole f) new (Within []) feeds (is.0, is.1, refl)).0,
)

pub returns-clause-bad : goal.returns-clause-bad
returns-clause-bad c = λ held byte fed new feeds. (
  λ e. (subst (λ (x : Fed). Feeds (Within held) byte x new) e feeds).0,
  λ none. (feeds_one (Within held) byte fed (Bad (length held)) new (Stopped (length held)) feeds (none, refl, refl)).0,
)
