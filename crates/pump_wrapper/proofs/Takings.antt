-- The messages of a receiver, one after another.
use Rattle.std.proofs.Common.{◌≡◌, ℕ, zero, suc, ◌+◌, ◌<◌, ◌≤◌, List, [], ◌∷◌, ◌++◌, Option, length, take, slice_index_or, refl, sym, ◌∙◌, ap, subst, arith, append_assoc}
use Rattle.std.specs.Io.KnownBytes.{Appends}
use Rattle.std.proofs.KnownBytes.{Appends-trans}
use Rattle.std.proofs.lemmas.List.{take_more}
use Rattle.disk_model.specs.Disk.{Meaning, Moves, Same}
use Rattle.disk_model.proofs.Run.{goes_on_same, started}
use Rattle.pump_link.specs.Causes.{AppendsPrefix}
use Rattle.stable_buffer.specs.Log.{RecvStands}
use Rattle.stable_buffer.proofs.Cells.{value-selects}
use Rattle.high_receiver.specs.Receiving.{IsRecvReady, KeepsLog, recv_count, recv_disk, recv_row}
use Rattle.high_receiver.specs.declared.receiver.Receiver.{Receiver}
use Rattle.high_receiver.proofs.Appends.{end_is}
use Rattle.pump_wrapper.specs.Receivers.{ReadsReceiver}
use Rattle.pump_wrapper.specs.Wrapped.{piece_of, unwrapped}
use Rattle.pump_wrapper.proofs.Wrapping.{unwrapped_push}

-- a receiver before anything is read of it, and after one read more
pub kept_first : {D : Type 0} (m : Meaning D) (receiver : Receiver D) → ReadsReceiver m receiver receiver
kept_first m receiver = record {
  log = record {
    count = refl;
    end = refl;
    row = refl;
    size = refl;
    moves = started m Same (λ bytes. refl) (recv_disk receiver);
  };
  counts = omega arith;
}

pub kept_on : {D : Type 0} (m : Meaning D) (old mid new : Receiver D) → ReadsReceiver m old mid → KeepsLog m mid new
    → m.count (recv_disk mid) ≤ m.count (recv_disk new) → ReadsReceiver m old new
kept_on m old mid new kept now counts = record {
  log = record {
    count = now.count ∙ kept.log.count;
    end = now.end ∙ kept.log.end;
    row = now.row ∙ kept.log.row;
    size = now.size ∙ kept.log.size;
    moves = goes_on_same m Same _ _ _ kept.log.moves now.moves;
  };
  counts = omega (arith, kept.counts, counts);
}

-- what an unmoved receiver stands for
pub stands_on : {D : Type 0} (m : Meaning D) (old new : Receiver D) (messages : List (List ℕ)) → new.row ≡ old.row → Moves m Same old.register.disk new.register.disk → m.tells
    → RecvStands old.row messages (m.reading old.register.disk) → RecvStands new.row messages (m.reading new.register.disk)
stands_on m old new messages row moves told stands =
    subst (λ r. RecvStands r messages (m.reading new.register.disk)) (sym row) (subst (λ d. RecvStands old.row messages d) (sym (moves.reads told)) stands)

-- its count is that of its messages
pub count_is : {D : Type 0} (m : Meaning D) (receiver : Receiver D) (messages : List (List ℕ)) → IsRecvReady m receiver → m.tells → RecvStands receiver.row messages (m.reading receiver.register.disk) → receiver.register.first ≡ length messages
count_is m receiver messages ready told stands =
    let r = receiver.register in
    let each = ready.ready.each.reading told in
    let is = end_is receiver.row messages r.first r.second (m.reading r.disk) (value-selects r.parity r.first r.second (m.reading r.disk) each) stands in is.0

-- one message more
pub next_message : (messages : List (List ℕ)) (n : ℕ) (payload message : List ℕ) → n < length messages → payload ≡ slice_index_or messages n [] → message ≡ payload → take n messages ++ message ∷ [] ≡ take (n + 1) messages
next_message messages n payload message lt is same = ap (λ (p : List ℕ). take n messages ++ p ∷ []) (same ∙ is) ∙ sym (take_more messages n [] lt)

pub next_bytes : (messages : List (List ℕ)) (n : ℕ) (message piece : List ℕ) → take n messages ++ message ∷ [] ≡ take (n + 1) messages → piece_of message ≡ piece → unwrapped (take n messages) ++ piece ≡ unwrapped (take (n + 1) messages)
next_bytes messages n message piece more is = ap (λ (p : List ℕ). unwrapped (take n messages) ++ p) (sym is) ∙ sym (unwrapped_push (take n messages) message) ∙ ap unwrapped more

pub length_of_piece : (message : List ℕ) → length (piece_of message) ≤ length message
length_of_piece [] = omega arith
length_of_piece (zero ∷ piece) = omega arith
length_of_piece (suc b ∷ later) = omega arith

-- a prefix behind what was written
pub prefix_behind : (first second third : Option (List ℕ)) (bytes more : List ℕ) → Appends first second bytes → AppendsPrefix second third more → AppendsPrefix first third (bytes ++ more)
prefix_behind first second third bytes more wrote (prefix, rest, is, then) =
    (bytes ++ prefix, rest, ap (λ (p : List ℕ). bytes ++ p) is ∙ sym (append_assoc bytes prefix rest), Appends-trans first second third bytes prefix wrote then)
