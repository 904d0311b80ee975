-- What a block of a receiver's log holds.
use Rattle.std.proofs.Common.{◌≡◌, ℕ, suc, ◌+◌, ◌-◌, ◌<◌, ◌≤◌, true, List, [], length, slice_index_or, take, drop, Option, Some, None, IfSome, refl, sym, ◌∙◌, ap, subst, arith}
use Rattle.std.specs.Prelude.{is_some}
use Rattle.std.proofs.lemmas.List.{drop-drop, drop-take, take-take}
use Rattle.disk_model.specs.Disk.{Meaning, Moves, Same}
use Rattle.pump_frame.specs.declared.row.SessionRow.{SessionRow}
use Rattle.stable_buffer.specs.Log.{RecvStands}
use Rattle.stable_buffer.specs.Numbers.{length_at}
use Rattle.high_receiver.specs.Receiving.{IsRecvReady, record_at}
use Rattle.high_receiver.specs.LogReading.{IsInBlock, IsReading, HasFilled, HasStepped, given_message}
use Rattle.high_receiver.specs.declared.log_reader.LogReader.{LogReader}
use Rattle.high_receiver.specs.declared.receiver.Receiver.{Receiver}
use Rattle.high_receiver.proofs.Walk.{Here, first, length_taken}
use Rattle.high_receiver.proofs.Places.{stands_there, record_next}

-- a part of what the block holds is that part of the disk
same_part : (start filled at k : ℕ) (block disk : List ℕ) → take filled block ≡ take filled (drop start disk) → at + k ≤ filled
    → take k (drop at block) ≡ take k (drop (start + at) disk)
same_part start filled at k block disk same le =
    let rest = filled - at in
    let whole : at + rest ≡ filled = omega (arith, le) in
    let held = λ (bytes : List ℕ). sym (take-take k rest (drop at bytes) (omega (arith, le))) ∙ ap (λ (b : List ℕ). take k b) (sym (drop-take at rest bytes))
    ∙ ap (λ j. take k (drop at (take j bytes))) whole in
    held block ∙ ap (λ (b : List ℕ). take k (drop at b)) same ∙ sym (held (drop start disk)) ∙ ap (λ (b : List ℕ). take k b) (drop-drop at start disk)

same_length : (start filled at : ℕ) (block disk : List ℕ) → take filled block ≡ take filled (drop start disk) → at + 2 ≤ filled → filled ≤ length block → start + filled ≤ length disk
    → length_at block at ≡ length_at disk (start + at)
same_length start filled at block disk same le fits within =
    sym (length_taken 2 at block (omega arith) (omega (arith, le, fits)))
    ∙ ap (λ (b : List ℕ). length_at b 0) (same_part start filled at 2 block disk same le)
    ∙ length_taken 2 (start + at) disk (omega arith) (omega (arith, le, within))

module _ {D : Type 0} (m : Meaning D) (receiver : Receiver D) (reader : LogReader) (messages : List (List ℕ)) where
  -- the record of the next message stands behind those of the messages that were given
  pub next_here : IsRecvReady m receiver → IsReading m receiver reader → reader.count < receiver.register.first → m.tells → RecvStands receiver.row messages (m.reading receiver.register.disk)
      → (reader.count < length messages) × (receiver.register.second ≤ length (m.reading receiver.register.disk)) × Here receiver.row.message (slice_index_or messages reader.count []) (drop (suc reader.count) messages)
      (reader.start + reader.until) receiver.register.second (m.reading receiver.register.disk)
  next_here ready reading more told stands =
      let at = reader.start + reader.until in
      let there = stands_there m receiver reader.count at ready.ready more
      (record { within = omega (arith, reading.within, reading.in_block.until); place = reading.place }) told messages stands in
      (there.0, there.1.1, first receiver.row.message (slice_index_or messages reader.count []) (drop (suc reader.count) messages) at receiver.register.second (m.reading receiver.register.disk) there.1)

  -- its length, where that is in the block
  pub next_length : IsRecvReady m receiver → IsReading m receiver reader → reader.count < receiver.register.first → m.tells → RecvStands receiver.row messages (m.reading receiver.register.disk)
      → reader.until + 2 ≤ reader.filled → length_at reader.block reader.until ≡ length (slice_index_or messages reader.count [])
  next_length ready reading more told stands le =
      let here = next_here ready reading more told stands in
      let size = here.2 in
      same_length reader.start reader.filled reader.until reader.block (m.reading receiver.register.disk) (reading.bytes told) le
      (omega (arith, reading.in_block.block, reading.in_block.filled)) (omega (arith, reading.within, here.1)) ∙ size.size

  -- a step gives it, where all of its record is in the block
  pub stepped : (next : LogReader) → IsRecvReady m receiver → IsReading m receiver reader → reader.count < receiver.register.first → HasStepped receiver.row.message reader next → m.tells → RecvStands receiver.row messages (m.reading receiver.register.disk)
      → reader.until + (2 + length (slice_index_or messages reader.count [])) ≤ reader.filled
      → (given_message next ≡ slice_index_or messages reader.count []) × (next.start + next.until ≡ record_at messages next.count)
  stepped next ready reading more steps told stands le =
      let disk = m.reading receiver.register.disk in
      let message = slice_index_or messages reader.count [] in
      let all = next_here ready reading more told stands in
      let here = all.2 in
      let is = next_length ready reading more told stands (omega (arith, le)) in
      let found = steps.found (omega (arith, is, here.fits)) (omega (arith, is, le)) in
      let l = length_at reader.block reader.until in
      let part = same_part reader.start reader.filled (reader.until + 2) l reader.block disk (reading.bytes told) (omega (arith, is, le)) in
      let place : reader.start + (reader.until + 2) ≡ reader.start + reader.until + 2 = omega arith in
      let behind = ap (λ j. take l (drop j disk)) place ∙ ap (λ (b : List ℕ). take l b) (sym (drop-drop 2 (reader.start + reader.until) disk)) ∙ ap (λ j. take j (drop 2 (drop (reader.start + reader.until) disk))) is in
      let next_at = record_next messages reader.count (reader.start + reader.until) (reader.start + reader.until + (2 + length message)) all.0 (reading.place told messages stands) (omega arith) in
      (found.0 ∙ part ∙ behind ∙ here.bytes, omega (arith, steps.start, found.1, is, next_at) ∙ ap (record_at messages) (sym steps.count))

-- the reader is about to step to a record that is whole in its block
pub record Holds {D : Type 0} (m : Meaning D) (receiver0 receiver : Receiver D) (reader0 reader : LogReader) : Type 0 where
  pub ready : IsRecvReady m receiver
  pub reading : IsReading m receiver reader
  pub given : reader.count ≡ reader0.count
  pub more : reader.count < receiver.register.first
  pub most : receiver.row.message ≡ receiver0.row.message
  pub stands : m.tells → (messages : List (List ℕ)) → RecvStands receiver0.row messages (m.reading receiver0.register.disk) → RecvStands receiver.row messages (m.reading receiver.register.disk)
  pub whole : m.tells → (messages : List (List ℕ)) → RecvStands receiver.row messages (m.reading receiver.register.disk) → reader.until + (2 + length (slice_index_or messages reader.count [])) ≤ reader.filled

some_in : {P : ℕ → Type 0} → (r : Option ℕ) → is_some r ≡ true → IfSome r P → (l : ℕ) × P l
some_in (Some l) e p = (l, p)
some_in None e p = absurd (cc e)

module _ {D : Type 0} (m : Meaning D) (receiver : Receiver D) (reader : LogReader) (ready : IsRecvReady m receiver) (reading : IsReading m receiver reader) (more : reader.count < receiver.register.first) where
  -- .. since it was whole there
  pub held : (most : ℕ) (l : Option ℕ) → is_some l ≡ true
      → IfSome l (λ l. (l ≡ length_at reader.block reader.until) × (l ≤ most) × (reader.until + (2 + l) ≤ reader.filled)) → Holds m receiver receiver reader reader
  held most found some fits = record {
    ready = ready;
    reading = reading;
    given = refl;
    more = more;
    most = refl;
    stands = λ told messages stands. stands;
    whole = λ told messages stands.
        let l = some_in found some fits in
        let is = next_length m receiver reader messages ready reading more told stands (let within = l.1.2 in omega (arith, within)) in
        (let e = l.1.0 in let within = l.1.2 in omega (arith, is, e, within));
  }

  -- .. since the block was filled from there on
  pub refilled : (receiver' : Receiver D) (reader' : LogReader) → IsRecvReady m receiver' → IsReading m receiver' reader' → HasFilled receiver reader reader' → receiver'.register.first ≡ receiver.register.first
      → receiver'.register.second ≡ receiver.register.second → receiver'.row ≡ receiver.row → Moves m Same receiver.register.disk receiver'.register.disk → Holds m receiver receiver' reader reader'
  refilled receiver' reader' ready' reading' fills count end row moves =
      let more' : reader'.count < receiver'.register.first = omega (arith, fills.count, count, more) in
      record {
        ready = ready';
        reading = reading';
        given = fills.count;
        more = more';
        most = ap (λ (r : SessionRow). r.message) row;
        stands = λ told messages stands. subst (λ r. RecvStands r messages (m.reading receiver'.register.disk)) (sym row) (subst (λ d. RecvStands receiver.row messages d) (sym (moves.reads told)) stands);
        whole = λ told messages stands.
            let all = next_here m receiver' reader' messages ready' reading' more' told stands in
            let here = all.2 in
            omega (arith, here.within, here.fits, ready'.short, fills.filled, fills.until, end);
      }

module _ {D : Type 0} (m : Meaning D) (receiver0 receiver : Receiver D) (reader0 reader next : LogReader) (holds : Holds m receiver0 receiver reader0 reader) (stepped_by : HasStepped receiver0.row.message reader next) where
  steps : HasStepped receiver.row.message reader next
  steps = subst (λ k. HasStepped k reader next) (sym holds.most) stepped_by

  pub message_given : m.tells → (messages : List (List ℕ)) → RecvStands receiver0.row messages (m.reading receiver0.register.disk) → given_message next ≡ slice_index_or messages reader0.count []
  message_given told messages stands0 =
      let stands = holds.stands told messages stands0 in
      let given = stepped m receiver reader messages next holds.ready holds.reading holds.more steps told stands (holds.whole told messages stands) in
      given.0 ∙ ap (λ k. slice_index_or messages k []) holds.given

  pub reading_on : IsInBlock next → IsReading m receiver next
  reading_on in_block =
      let was = holds.reading in
      record {
        in_block = in_block;
        within = omega (arith, was.within, steps.start, steps.filled);
        bytes = λ told. (λ i. take (steps.filled i) (steps.block i)) ∙ was.bytes told ∙ (λ i. take (sym steps.filled i) (drop (sym steps.start i) (m.reading receiver.register.disk)));
        place = λ told messages stands.
            let given = stepped m receiver reader messages next holds.ready was holds.more steps told stands (holds.whole told messages stands) in given.1;
      }
