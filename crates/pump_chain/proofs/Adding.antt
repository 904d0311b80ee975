-- What the sender adds.
use Rattle.std.proofs.Common.{◌≡◌, ℕ, ◌<◌, ◌≤◌, Bool, true, false, [], length, get_or, slice_get, Some, sym, ap, ◌∙◌}
use Rattle.std.specs.Prelude.{if◌then◌else◌}
use Rattle.std.proofs.lemmas.Option.{slice_get-get_or, slice_get_past}
use Rattle.pump_frame.specs.declared.payload.Payload.{Payload}
use Rattle.pump_frame.specs.declared.row.SessionRow.{SessionRow}
use Rattle.script_reader.specs.declared.line.Arriving.{Arriving}
use Rattle.script_reader.specs.declared.line.Arriving.TheVariants.{Nothing, Hello, Data}
use Rattle.pump_chain.specs.declared.sender.Sender.{Sender}
use Rattle.pump_chain.specs.Chained.{Chained, accepted_of, received_of, message_of, added}

-- a sender that is welcome, and has nothing under way, adds the first message that is not accepted
pub adds_message : (c : Chained) (s : Sender) (n : ℕ) (payload : Payload) → s ≡ c.sender → s.is_under_way ≡ false → s.is_welcome ≡ true → n ≡ accepted_of c → n < length (received_of c) → payload ≡ get_or (received_of c) n [] → Data n payload ≡ added c
adds_message c s n payload same idle welcome number few is =
    let received = received_of c in
    let none : c.sender.is_under_way ≡ false = ap (λ (x : Sender). x.is_under_way) (sym same) ∙ idle in
    let greeted : c.sender.is_welcome ≡ true = ap (λ (x : Sender). x.is_welcome) (sym same) ∙ welcome in
    let at : Some payload ≡ slice_get received n = ap Some is ∙ sym (slice_get-get_or received n [] few) in
    let hello : Arriving = Hello c.second.row.low c.second.row.high in
    let message : Arriving = message_of (accepted_of c) (slice_get received (accepted_of c)) in
    ap (message_of n) at ∙ ap (λ (k : ℕ). message_of k (slice_get received k)) number
    ∙ ap (λ (b : Bool). if b then message else hello) (sym greeted)
    ∙ ap (λ (b : Bool). if b then Nothing else if c.sender.is_welcome then message else hello) (sym none)

-- while a frame is under way, it adds nothing
pub adds_under_way : (c : Chained) (s : Sender) → s ≡ c.sender → s.is_under_way ≡ true → Nothing ≡ added c
adds_under_way c s same busy =
    let welcome : Arriving = if c.sender.is_welcome then message_of (accepted_of c) (slice_get (received_of c) (accepted_of c)) else Hello c.second.row.low c.second.row.high in
    ap (λ (b : Bool). if b then Nothing else welcome) (sym busy ∙ ap (λ (x : Sender). x.is_under_way) same)

-- a sender that is not welcome adds its HELLO
pub adds_hello : (c : Chained) (s : Sender) (row : SessionRow) → s ≡ c.sender → s.is_under_way ≡ false → s.is_welcome ≡ false → row ≡ c.second.row → Hello row.low row.high ≡ added c
adds_hello c s row same idle stranger is =
    let none : c.sender.is_under_way ≡ false = ap (λ (x : Sender). x.is_under_way) (sym same) ∙ idle in
    let unknown : c.sender.is_welcome ≡ false = ap (λ (x : Sender). x.is_welcome) (sym same) ∙ stranger in
    let hello : Arriving = Hello c.second.row.low c.second.row.high in
    let message : Arriving = message_of (accepted_of c) (slice_get (received_of c) (accepted_of c)) in
    ap (λ (r : SessionRow). Hello r.low r.high) is
    ∙ ap (λ (b : Bool). if b then message else hello) (sym unknown)
    ∙ ap (λ (b : Bool). if b then Nothing else if c.sender.is_welcome then message else hello) (sym none)

-- .. and one that is adds nothing where all is accepted
pub adds_nothing : (c : Chained) (s : Sender) (n : ℕ) → s ≡ c.sender → s.is_under_way ≡ false → s.is_welcome ≡ true → n ≡ accepted_of c → length (received_of c) ≤ n → Nothing ≡ added c
adds_nothing c s n same idle welcome number all =
    let received = received_of c in
    let none : c.sender.is_under_way ≡ false = ap (λ (x : Sender). x.is_under_way) (sym same) ∙ idle in
    let greeted : c.sender.is_welcome ≡ true = ap (λ (x : Sender). x.is_welcome) (sym same) ∙ welcome in
    let hello : Arriving = Hello c.second.row.low c.second.row.high in
    let message : Arriving = message_of (accepted_of c) (slice_get received (accepted_of c)) in
    ap (message_of n) (sym (slice_get_past received n all)) ∙ ap (λ (k : ℕ). message_of k (slice_get received k)) number
    ∙ ap (λ (b : Bool). if b then message else hello) (sym greeted)
    ∙ ap (λ (b : Bool). if b then Nothing else if c.sender.is_welcome then message else hello) (sym none)
