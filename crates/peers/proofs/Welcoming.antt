-- A WELCOME that counts the message that is under way.
use Rattle.std.proofs.Common.{◌≡◌, ℕ, ◌+◌, Bool, true, false, List, [], ◌∷◌, Option, Some, None, refl, sym, ap, ◌∙◌, subst, arith}
use Rattle.std.specs.Io.KnownBytes.{Appends}
use Rattle.pump_frame.specs.declared.frame.Frame.{Frame}
use Rattle.peers.specs.declared.append.AppendEnd.TheVariants.{Write}
use Rattle.peers.specs.declared.append.Appender.{Appender}
use Rattle.peers.specs.Appender.{flight, flight_of, acknowledged, next_number, Moves, TakesWelcome}
use Rattle.peers.specs.Appending.{flying, IsCounted, Prints}
use Rattle.peers.specs.Outputs.{PrintsPart}
use Rattle.peers.specs.Sending.{ack_line}
use Rattle.peers.proofs.Outgoing.{whole_printed}

counts_it : (b : Bool) (f : Frame) (number : ℕ) → b ≡ true → number ≡ f.number + 1 → IsCounted (flight b f) number (f.payload ∷ [])
counts_it true f number e n = (n, refl)
counts_it false f number e n = cc

next_is : (b : Bool) (f : Frame) (number : ℕ) → b ≡ true → next_number (flight b f) number ≡ f.number
next_is true f number e = refl
next_is false f number e = cc

one_flies : (b : Bool) (f : Frame) → b ≡ true → flying (flight b f) ≡ f.payload ∷ []
one_flies true f e = refl
one_flies false f e = cc

moves : (old : Appender) → old.is_held ≡ true → Moves old (acknowledged old) (old.frame.payload ∷ [])
moves old held = record { ahead = refl; left = refl; kind = refl; session = refl; payload = refl; lines = refl; order = one_flies old.is_held old.frame held }

number_is : (old : Appender) (number : ℕ) → old.is_held ≡ true → next_number (flight_of old) number + 0 ≡ old.frame.number
number_is old number held = let e = next_is old.is_held old.frame number held in omega (arith, e)

module _ (old new : Appender) (number : ℕ) (w w1 : Option (List ℕ)) (held : old.is_held ≡ true) (one_more : number ≡ old.frame.number + 1) (is : new ≡ acknowledged old) where
  pub counted : PrintsPart w w1 true (ack_line old.frame.number) → (messages : List (List ℕ)) × (printed : List ℕ) × TakesWelcome old number new messages None × Prints None (next_number (flight_of old) number) messages printed × Appends w w1 printed
  counted p = (
    old.frame.payload ∷ [],
    ack_line (next_number (flight_of old) number + 0),
    subst (λ (a : Appender). TakesWelcome old number a (old.frame.payload ∷ []) None) (sym is) (counts_it old.is_held old.frame number held one_more, moves old held, sym one_more, λ f. cc),
    refl,
    subst (λ n. Appends w w1 (ack_line n)) (sym (number_is old number held)) (whole_printed w w1 true (ack_line old.frame.number) refl p),
  )

  pub unwritten : PrintsPart w w1 false (ack_line old.frame.number) → (messages : List (List ℕ)) × (printed : List ℕ) × TakesWelcome old number new messages (Some Write) × Prints (Some Write) (next_number (flight_of old) number) messages printed × Appends w w1 printed
  unwritten (prefix, rest, whole, appends) = (
    old.frame.payload ∷ [],
    prefix,
    subst (λ (a : Appender). TakesWelcome old number a (old.frame.payload ∷ []) (Some Write)) (sym is) (counts_it old.is_held old.frame number held one_more, moves old held, refl, sym one_more),
    (prefix, (rest.0, ap ack_line (number_is old number held) ∙ rest.1), refl),
    appends,
  )
