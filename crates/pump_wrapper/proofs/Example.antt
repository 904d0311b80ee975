-- A file of twelve bytes, and one without bytes, as messages of at most twelve bytes.
use Rattle.std.proofs.Common.{◌≡◌, [], ◌∷◌, refl}
use Rattle.std.specs.Prelude.{codes}
use Rattle.high_receiver.specs.Receiving.{record_at}
use Rattle.file_messages.specs.Cuts.{pieces}
use Rattle.pump_wrapper.specs.Wrapped.{length_message, wrapped}

twelve_bytes : wrapped 12 (codes "hello, world") ≡ (0 ∷ codes "hello, worl") ∷ (0 ∷ codes "d") ∷ (1 ∷ 0 ∷ 0 ∷ 0 ∷ 0 ∷ 0 ∷ 0 ∷ 0 ∷ 12 ∷ []) ∷ []
unfolding pieces length_message
twelve_bytes = refl

-- where their records end
twelve_bytes_end : record_at (wrapped 12 (codes "hello, world")) 3 ≡ 109
unfolding pieces length_message
twelve_bytes_end = refl

no_byte : wrapped 12 [] ≡ (1 ∷ 0 ∷ 0 ∷ 0 ∷ 0 ∷ 0 ∷ 0 ∷ 0 ∷ 0 ∷ []) ∷ []
unfolding pieces length_message
no_byte = refl
