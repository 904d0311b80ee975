-- Where the records stand.
use Rattle.std.proofs.Common.{◌≡◌, ℕ, zero, suc, ◌+◌, ◌<◌, ◌≤◌, List, [], ◌∷◌, length, slice_index_or, take, drop, sum_by, sym, subst, arith}
use Rattle.std.proofs.Math.Seq.{drop-cons}
use Rattle.std.proofs.lemmas.List.Sums.{sum_by-cons, sum_by_more}
use Rattle.disk_model.specs.Disk.{Meaning}
use Rattle.stable_buffer.specs.Log.{RecvStands}
use Rattle.stable_buffer.specs.Register.{IsReady}
use Rattle.stable_buffer.proofs.Cells.{value-selects}
use Rattle.high_receiver.specs.Records.{RecordsFrom}
use Rattle.high_receiver.specs.Receiving.{IsRecvReady, IsRecordAt, record_at}
use Rattle.high_receiver.specs.declared.receiver.Receiver.{Receiver}
use Rattle.high_receiver.proofs.Appends.{end_is}
use Rattle.high_receiver.proofs.Walk.{first}

-- record 0 stands at 80
pub first_record : {D : Type 0} (m : Meaning D) (receiver : Receiver D) → IsRecvReady m receiver → IsRecordAt m receiver 0 80
first_record m receiver ready = record { within = ready.from; place = λ told messages stands. omega arith }

-- the records behind the first n
records_after : (most : ℕ) (messages : List (List ℕ)) (n at end : ℕ) (disk : List ℕ) → n ≤ length messages → RecordsFrom most messages at end disk
    → RecordsFrom most (drop n messages) (at + sum_by (λ message. 2 + length message) (take n messages)) end disk
records_after most messages zero at end disk le from = subst (λ k. RecordsFrom most messages k end disk) (omega arith) from
records_after most [] (suc n) at end disk le from = absurd (omega (arith, le))
records_after most (m ∷ ms) (suc n) at end disk le from =
    let here = first most m ms at end disk from in
    let sums = sum_by-cons (λ (message : List ℕ). 2 + length message) m (take n ms) in
    subst (λ k. RecordsFrom most (drop n ms) k end disk) (omega (arith, sums))
    (records_after most ms n (at + (2 + length m)) end disk (omega (arith, le)) here.rest)

-- the first of them is the next message
pub headed : (most : ℕ) (messages : List (List ℕ)) (n at end : ℕ) (disk : List ℕ) → n < length messages → RecordsFrom most (drop n messages) at end disk
    → RecordsFrom most (slice_index_or messages n [] ∷ drop (suc n) messages) at end disk
headed most messages n at end disk lt from = subst (λ (ms : List (List ℕ)). RecordsFrom most ms at end disk) (drop-cons messages n [] lt) from

-- what a ready receiver has at record n, and that there is such a record
pub stands_there : {D : Type 0} (m : Meaning D) (receiver : Receiver D) (n at : ℕ) → IsReady m receiver.register → n < receiver.register.first → IsRecordAt m receiver n at
    → m.tells → (messages : List (List ℕ)) → RecvStands receiver.row messages (m.reading receiver.register.disk)
    → (n < length messages) × RecordsFrom receiver.row.message (slice_index_or messages n [] ∷ drop (suc n) messages) at receiver.register.second (m.reading receiver.register.disk)
stands_there m receiver n at ready lt place told messages stands =
    let r = receiver.register in
    let disk = m.reading r.disk in
    let most = receiver.row.message in
    let is = end_is receiver.row messages r.first r.second disk (value-selects r.parity r.first r.second disk (ready.each.reading told)) stands in
    let less : n < length messages = omega (arith, lt, is.0) in
    let whole : RecordsFrom most messages 80 r.second disk = subst (λ e. RecordsFrom most messages 80 e disk) (sym is.1) (stands.from, stands.within, stands.records) in
    let after = records_after most messages n 80 r.second disk (omega (arith, less)) whole in
    (less, headed most messages n at r.second disk less (subst (λ k. RecordsFrom most (drop n messages) k r.second disk) (sym (place.place told messages stands)) after))

-- where the record behind record n stands
pub record_next : (messages : List (List ℕ)) (n at next : ℕ) → n < length messages → at ≡ record_at messages n → next ≡ at + (2 + length (slice_index_or messages n [])) → next ≡ record_at messages (n + 1)
record_next messages n at next lt is there =
    let more = sum_by_more (λ (message : List ℕ). 2 + length message) messages n [] lt in omega (arith, more, is, there)
