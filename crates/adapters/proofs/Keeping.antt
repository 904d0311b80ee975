-- What is known of a reader's or a writer's bytes after calls that changed nothing.
use Rattle.std.proofs.Common.{◌∙◌, refl, List, ℕ}
use Rattle.std.specs.Prelude.{Option, None, Some}
use Rattle.std.specs.Io.KnownBytes.{Keeps}

pub kept_as_is : (a : Option (List ℕ)) → Keeps a a
kept_as_is None = tt
kept_as_is (Some xs) = refl

pub kept : (a b c : Option (List ℕ)) → Keeps a b → Keeps b c → Keeps a c
kept None b c k l = tt
kept (Some xs) None c k l = absurd k
kept (Some xs) (Some ys) None k l = absurd l
kept (Some xs) (Some ys) (Some zs) k l = l ∙ k
