-- The lines of a receiver's messages.
use Rattle.std.proofs.Common.{◌≡◌, ℕ, zero, suc, ◌+◌, ◌-◌, ◌<◌, ◌≤◌, Bool, true, false, List, [], ◌∷◌, ◌++◌, length, take, drop, slice_index_or, Option, refl, sym, ap, ◌∙◌, subst, arith, append_assoc, append-nil, length-append}
use Rattle.std.specs.Prelude.{nat_lt, if◌then◌else◌}
use Rattle.std.proofs.lemmas.Bool.{ltb-true, ltb-false}
use Rattle.std.proofs.Math.ListN.{drop_of_length-le}
use Rattle.std.proofs.lemmas.List.{take_more, length-take-le, length-drop, drop-append-le, take-append-drop}
use Rattle.std.proofs.KnownBytes.{Appends-nil, Appends-trans}
use Rattle.std.specs.Io.KnownBytes.{Appends}
use Rattle.disk_model.specs.Plain.{Plain, plain_meaning}
use Rattle.high_receiver.specs.Receiving.{IsRecvReady, recv_count, recv_disk, recv_row}
use Rattle.high_receiver.specs.declared.receiver.Receiver.{Receiver}
use Rattle.high_receiver.proofs.Appends.{end_is}
use Rattle.pump_frame.specs.declared.row.SessionRow.{SessionRow}
use Rattle.pump_link.specs.Causes.{AppendsPrefix}
use Rattle.stable_buffer.specs.Log.{RecvStands}
use Rattle.stable_buffer.proofs.Cells.{value-selects}
use Rattle.commands.specs.Messages.{message_line, message_lines, line_from}

next_message : (messages : List (List ℕ)) (n : ℕ) (message : List ℕ) → n < length messages → message ≡ slice_index_or messages n [] → take n messages ++ message ∷ [] ≡ take (n + 1) messages
next_message messages n message low is = ap (λ (m : List ℕ). take n messages ++ m ∷ []) is ∙ sym (take_more messages n [] low)

-- one message more
lines_push : (session k n : ℕ) (messages : List (List ℕ)) (message : List ℕ) → n ≡ k + length messages
    → message_lines session k (messages ++ message ∷ []) ≡ message_lines session k messages ++ message_line session n message
lines_push session k n [] message is =
    let at : k ≡ n = omega (arith, is) in
    append-nil (message_line session k message) ∙ ap (λ i. message_line session i message) at
lines_push session k n (m ∷ messages) message is =
    let first = message_line session k m in
    ap (λ t. first ++ t) (lines_push session (k + 1) n messages message (omega (arith, is)))
    ∙ sym (append_assoc first (message_lines session (k + 1) messages) (message_line session n message))

-- .. whose line is left out where its number is below the first that is wanted
line_more : (session from n : ℕ) (walked : List (List ℕ)) (message : List ℕ) → length walked ≡ n → (b : Bool) → nat_lt n from ≡ b
    → message_lines session from (drop from walked) ++ (if b then [] else message_line session n message) ≡ message_lines session from (drop from (walked ++ message ∷ []))
line_more session from n walked message size true below =
    let low : n < from = ltb-true n from below in
    let before : drop from walked ≡ [] = drop_of_length-le walked (omega (arith, size, low)) in
    let after : drop from (walked ++ message ∷ []) ≡ [] = drop_of_length-le (walked ++ message ∷ []) (omega (arith, size, low, length-append walked (message ∷ []))) in
    ap (λ (ms : List (List ℕ)). message_lines session from ms ++ []) before ∙ ap (message_lines session from) (sym after)
line_more session from n walked message size false above =
    let le : from ≤ n = ltb-false n from above in
    let cut : drop from (walked ++ message ∷ []) ≡ drop from walked ++ message ∷ [] = drop-append-le from walked (message ∷ []) (omega (arith, size, le)) in
    let long : length (drop from walked) ≡ length walked - from = length-drop from walked in
    sym (lines_push session from n (drop from walked) message (omega (arith, size, le, long))) ∙ ap (message_lines session from) (sym cut)

-- the lines of the first messages are a prefix of the lines of all
lines_prefix : (session k : ℕ) (messages more : List (List ℕ)) → (rest : List ℕ) × (message_lines session k (messages ++ more) ≡ message_lines session k messages ++ rest)
lines_prefix session k [] more = (message_lines session k more, refl)
lines_prefix session k (m ∷ messages) more =
    let later = lines_prefix session (k + 1) messages more in
    let first = message_line session k m in
    (later.0, ap (λ t. first ++ t) later.1 ∙ sym (append_assoc first (message_lines session (k + 1) messages) later.0))

drop_prefix : (from : ℕ) (messages more : List (List ℕ)) → (rest : List (List ℕ)) × (drop from (messages ++ more) ≡ drop from messages ++ rest)
drop_prefix zero messages more = (more, refl)
drop_prefix (suc from) [] more = (drop (suc from) more, refl)
drop_prefix (suc from) (m ∷ messages) more = drop_prefix from messages more

more_lines : (session from n : ℕ) (messages : List (List ℕ)) → (rest : List ℕ) × (message_lines session from (drop from messages) ≡ message_lines session from (drop from (take n messages)) ++ rest)
more_lines session from n messages =
    let cut = drop_prefix from (take n messages) (drop n messages) in
    let whole : drop from messages ≡ drop from (take n messages) ++ cut.0 = ap (drop from) (sym (take-append-drop n messages)) ∙ cut.1 in
    let later = lines_prefix session from (drop from (take n messages)) cut.0 in
    (later.0, ap (message_lines session from) whole ∙ later.1)

-- a message more was walked
pub walked_more : (session from n : ℕ) (messages : List (List ℕ)) (message : List ℕ) → n < length messages → message ≡ slice_index_or messages n []
    → message_lines session from (drop from (take n messages)) ++ line_from from session n message ≡ message_lines session from (drop from (take (n + 1) messages))
walked_more session from n messages message low is =
    let size : length (take n messages) ≡ n = length-take-le n messages (omega (arith, low)) in
    line_more session from n (take n messages) message size (nat_lt n from) refl ∙ ap (λ (ms : List (List ℕ)). message_lines session from (drop from ms)) (next_message messages n message low is)

-- ---- the receiver that is walked ----

-- it stands for what it stood for
pub stands_still : (old new : Receiver Plain) (messages : List (List ℕ)) → recv_row new ≡ recv_row old → (recv_disk new).bytes ≡ (recv_disk old).bytes → RecvStands (recv_row old) messages (recv_disk old).bytes
    → RecvStands (recv_row new) messages (recv_disk new).bytes
stands_still old new messages row same stands =
    subst (λ (r : SessionRow). RecvStands r messages (recv_disk new).bytes) (sym row) (subst (λ (d : List ℕ). RecvStands (recv_row old) messages d) (sym same) stands)

-- its count is that of its messages
pub count_is : (receiver : Receiver Plain) (messages : List (List ℕ)) → IsRecvReady plain_meaning receiver → RecvStands (recv_row receiver) messages (recv_disk receiver).bytes → recv_count receiver ≡ length messages
count_is receiver messages ready stands =
    let r = receiver.register in
    let each = ready.ready.each.reading tt in
    let is = end_is receiver.row messages r.first r.second r.disk.bytes (value-selects r.parity r.first r.second r.disk.bytes each) stands in is.0

-- ---- what is written ----

pub printed_none : (old : Option (List ℕ)) (session from : ℕ) (messages : List (List ℕ)) → Appends old old (message_lines session from (drop from (take 0 messages)))
printed_none old session from messages =
    let none : drop from (take 0 messages) ≡ [] = drop_of_length-le (take 0 messages) (omega arith) in
    subst (λ (ms : List (List ℕ)). Appends old old (message_lines session from ms)) (sym none) (Appends-nil old)

-- .. and a prefix of the next line
pub printed_prefix : (first second third : Option (List ℕ)) (session from n : ℕ) (messages : List (List ℕ)) (message : List ℕ) → n < length messages → message ≡ slice_index_or messages n []
    → Appends first second (message_lines session from (drop from (take n messages))) → AppendsPrefix second third (line_from from session n message) → AppendsPrefix first third (message_lines session from (drop from messages))
printed_prefix first second third session from n messages message low is wrote (prefix, rest, cut, wrote_on) =
    let before = message_lines session from (drop from (take n messages)) in
    let later = more_lines session from (n + 1) messages in (
      before ++ prefix,
      rest ++ later.0,
      later.1 ∙ ap (λ t. t ++ later.0) (sym (walked_more session from n messages message low is) ∙ ap (λ t. before ++ t) cut ∙ sym (append_assoc before prefix rest)) ∙ append_assoc (before ++ prefix) rest later.0,
      Appends-trans first second third before prefix wrote wrote_on,
    )
