-- The form of a frame, in two parts: what its number may be, and its payload.
use Rattle.std.proofs.Common.{◌≡◌, ℕ, ◌^◌, ◌<◌, ◌≤◌, List, [], length}
use Rattle.pump_frame.specs.Frames.{IsForm, AreNames, IsCode}
use Rattle.pump_frame.specs.declared.frame.Kind.{Kind}
use Rattle.pump_frame.specs.declared.frame.Kind.TheVariants.{Hello, Welcome, Data, Ack, Refuse, Attach, Taken}

abbrev pub IsNumber : Kind → ℕ → Type 0
IsNumber Hello n = n ≡ 0
IsNumber Welcome n = n ≤ 2 ^ 48
IsNumber Data n = n < 2 ^ 48
IsNumber Ack n = n < 2 ^ 48
IsNumber Refuse n = n ≤ 2 ^ 48
IsNumber Attach n = n ≤ 2 ^ 48
IsNumber Taken n = n < 2 ^ 48

abbrev pub IsPayload : Kind → List ℕ → Type 0
IsPayload Hello p = AreNames p
IsPayload Data p = length p ≤ 1024
IsPayload Refuse p = IsCode p
IsPayload Welcome p = p ≡ []
IsPayload Ack p = p ≡ []
IsPayload Attach p = p ≡ []
IsPayload Taken p = p ≡ []

pub number_of_form : (k : Kind) (n : ℕ) (p : List ℕ) → IsForm k n p → IsNumber k n
number_of_form Hello n p h = h.0
number_of_form Welcome n p h = h.0
number_of_form Data n p h = h.0
number_of_form Ack n p h = h.0
number_of_form Refuse n p h = h.0
number_of_form Attach n p h = h.0
number_of_form Taken n p h = h.0

pub payload_of_form : (k : Kind) (n : ℕ) (p : List ℕ) → IsForm k n p → IsPayload k p
payload_of_form Hello n p h = h.1
payload_of_form Welcome n p h = h.1
payload_of_form Data n p h = h.1
payload_of_form Ack n p h = h.1
payload_of_form Refuse n p h = h.1
payload_of_form Attach n p h = h.1
payload_of_form Taken n p h = h.1

pub form_from : (k : Kind) (n : ℕ) (p : List ℕ) → IsNumber k n → IsPayload k p → IsForm k n p
form_from Hello n p a b = (a, b)
form_from Welcome n p a b = (a, b)
form_from Data n p a b = (a, b)
form_from Ack n p a b = (a, b)
form_from Refuse n p a b = (a, b)
form_from Attach n p a b = (a, b)
form_from Taken n p a b = (a, b)
