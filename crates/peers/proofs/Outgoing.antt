-- Bytes that went out whole.
use Rattle.std.proofs.Common.{◌≡◌, ℕ, Bool, true, List, Option, subst}
use Rattle.std.specs.Io.KnownBytes.{Appends}
use Rattle.pump_link.specs.Tells.{Grows}
use Rattle.peers.specs.Outputs.{SendsPart, PrintsPart}

pub whole_sent : (p q : List ℕ → Type 0) (b : Bool) (bytes : List ℕ) → b ≡ true → SendsPart p q b bytes → Grows p q bytes
whole_sent p q b bytes is (prefix, rest, whole, g) = subst (Grows p q) (whole is) g

pub whole_printed : (p q : Option (List ℕ)) (b : Bool) (bytes : List ℕ) → b ≡ true → PrintsPart p q b bytes → Appends p q bytes
whole_printed p q b bytes is (prefix, rest, whole, g) = subst (Appends p q) (whole is) g
