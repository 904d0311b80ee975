-- What a survey of the disks that are to be moved gives.
use Rattle.std.proofs.Common.{◌≡◌, inr, ℕ, ◌+◌, ◌^◌, ◌≤◌, List, [], length, get_or, false, Bool, None, sym, ◌∙◌, ap, subst, arith}
use Rattle.disk_model.specs.Disk.{Meaning, Same}
use Rattle.disk_model.specs.declared.name.Role.TheVariants.{Recv}
use Rattle.disk_model.proofs.Run.{goes_on_same}
use Rattle.pump_frame.specs.declared.row.SessionRow.{SessionRow}
use Rattle.stable_buffer.specs.Register.{value_of}
use Rattle.stable_buffer.specs.Stands.{InSlot, LowStands, HighStands}
use Rattle.stable_buffer.specs.Low.{low_count, low_row, low_disk}
use Rattle.stable_buffer.specs.Log.{RecvStands}
use Rattle.stable_buffer.specs.declared.low.LowStore.{LowStore}
use Rattle.high_receiver.specs.Receiving.{recv_disk, recv_row, recv_count, recv_end, StandsForSome}
use Rattle.high_receiver.specs.declared.receiver.Receiver.{Receiver}
use Rattle.recovery.specs.Agreement.{SlotsAgree, Disagrees}
use Rattle.recovery.specs.Moves.{AreFound, AreRefused, Counted, IsKept}
use Rattle.recovery.specs.Refusals.{refused_pump, refused_receiver}
use Rattle.recovery.specs.Surveys.{FitsSurvey, IsSurveyed}
use Rattle.recovery.specs.declared.survey.Counts.{Counts}
use Rattle.recovery.specs.declared.trio.Trio.{Trio}
use Rattle.recovery.specs.declared.trio.MoveFault.{MoveFault}

-- one call more of a disk that is only read
pub kept_after : {D : Type 0} (m : Meaning D) (old mid new : D) (failed : Bool) → IsKept m old mid false → IsKept m mid new failed → IsKept m old new failed
kept_after m old mid new failed first second = record {
  moves = goes_on_same m Same old mid new first.moves second.moves;
  counted = record {
    counts = omega (arith, first.counted.counts, second.counted.counts);
    rose = λ is. let up = second.counted.rose is in omega (arith, first.counted.counts, up);
  };
}

-- one call more of a disk that may be written
pub counted_next : {D : Type 0} (m : Meaning D) (old mid new : D) (failed : Bool) → Counted m old mid false → Counted m mid new failed → Counted m old new failed
counted_next m old mid new failed first second = record {
  counts = omega (arith, first.counts, second.counts);
  rose = λ is. let up = second.rose is in omega (arith, first.counts, up);
}

-- two stores over disks that stand for something, beside the disks as they were
pub record AreOpened {D : Type 0} (m : Meaning D) (row : SessionRow) (size B : ℕ) (low : LowStore D) (receiver : Receiver D) (old : Trio D) : Type 0 where
  pub low_stands : m.tells → (live : List (List ℕ)) × LowStands row (low_count low) B live (m.reading old.low)
  pub high_stands : m.tells → HighStands row B (m.reading old.high)
  pub recv_stands : m.tells → StandsForSome row (m.reading old.recv)
  pub value : m.tells → (recv_count receiver, recv_end receiver) ≡ value_of (m.reading old.recv)
  pub pump : m.tells → refused_pump row (m.reading old.low) (m.reading old.high) ≡ None
  pub log : m.tells → refused_receiver row size (m.reading old.recv) ≡ None
  pub low_row_is : low_row low ≡ row
  pub recv_row_is : recv_row receiver ≡ row
  pub low_reads : m.tells → m.reading (low_disk low) ≡ m.reading old.low
  pub recv_reads : m.tells → m.reading (recv_disk receiver) ≡ m.reading old.recv
  pub count : low_count low ≤ 2 ^ 48
  pub held : (B ≤ low_count low) × (low_count low ≤ B + row.capacity)
  pub from : 80 ≤ recv_end receiver
  pub room : recv_end receiver ≤ size

module _ {D : Type 0} (m : Meaning D) (row : SessionRow) (size B removed : ℕ) (low : LowStore D) (receiver : Receiver D) (old : Trio D) (o : AreOpened m row size B low receiver old) (same : removed ≡ B) where
  pub surveyed : (counts : Counts) → FitsSurvey m removed low receiver counts → IsSurveyed m row size counts old
  surveyed counts fits = record {
    found = λ told.
        let (live, low_is) = o.low_stands told in
        let (received, recv_is) = o.recv_stands told in
        let value : (recv_count receiver, recv_end receiver) ≡ (length received, recv_is.end) = o.value told ∙ recv_is.value in
        let taken : recv_count receiver ≡ length received = ap (λ (v : ℕ × ℕ). v.0) value in
        let end : recv_end receiver ≡ recv_is.end = ap (λ (v : ℕ × ℕ). v.1) value in
        let recv_is' : RecvStands (recv_row receiver) received (m.reading (recv_disk receiver)) =
        subst (λ (w : SessionRow). RecvStands w received (m.reading (recv_disk receiver))) (sym o.recv_row_is) (subst (λ (z : List ℕ). RecvStands row received z) (sym (o.recv_reads told)) recv_is) in
        let slots = fits.agree told received recv_is' in
        let agree : SlotsAgree row B (length received) received (m.reading old.low) = λ n from to.
        subst (λ (z : List ℕ). InSlot row n (get_or received n []) z) (o.low_reads told)
        (subst (λ (w : SessionRow). InSlot w n (get_or received n []) (m.reading (low_disk low))) o.low_row_is (slots n (omega (arith, same, from)) (omega (arith, taken, to)))) in
        let whole : AreFound row size (low_count low) B live received (m.reading old.low) (m.reading old.high) (m.reading old.recv) = record {
          stand = record { low_stands = low_is; high_stands = o.high_stands told; recv_stands = recv_is };
          pump = o.pump told;
          receiver = o.log told;
          order = (omega (arith, fits.order.0, same, taken), omega (arith, fits.order.1, taken));
          agree = agree;
        } in
        let b : B ≡ counts.removed = sym same ∙ sym fits.removed_is in
        let e : low_count low ≡ counts.accepted = sym fits.accepted in (
          live,
          received,
          sym taken ∙ sym fits.received,
          ap (λ (v : ℕ × ℕ). v.1) (sym (o.value told)) ∙ sym fits.end,
          subst (λ k. AreFound row size k counts.removed live received (m.reading old.low) (m.reading old.high) (m.reading old.recv)) e
              (subst (λ k. AreFound row size (low_count low) k live received (m.reading old.low) (m.reading old.high) (m.reading old.recv)) b whole),
        );
    count = omega (arith, fits.accepted, o.count);
    held = (omega (arith, fits.accepted, fits.removed_is, same, o.held.0), omega (arith, fits.accepted, fits.removed_is, same, o.held.1));
    order = (omega (arith, fits.order.0, fits.removed_is, fits.received), omega (arith, fits.order.1, fits.accepted, fits.received));
    from = omega (arith, fits.end, o.from);
    room = omega (arith, fits.end, o.room);
  }

  -- the receiver's messages are otherwise than low's
  pub refused_beside : (f : MoveFault) → m.tells → f ≡ record { new = false; role = Recv; why = f.why }
      → ((messages : List (List ℕ)) → RecvStands (recv_row receiver) messages (m.reading (recv_disk receiver)) → Disagrees (low_row low) removed (recv_count receiver) (low_count low) messages (m.reading (low_disk low)) f.why)
      → (f.new ≡ false) × AreRefused row size (m.reading old.low) (m.reading old.high) (m.reading old.recv) f.role f.why
  refused_beside f told is differs =
      let b : removed ≡ (value_of (m.reading old.high)).0 = let s = o.high_stands told in same ∙ sym (ap (λ (v : ℕ × ℕ). v.0) s.value) in
      let r : recv_count receiver ≡ (value_of (m.reading old.recv)).0 = ap (λ (v : ℕ × ℕ). v.0) (o.value told) in
      let e : low_count low ≡ (value_of (m.reading old.low)).0 = let s = o.low_stands told in sym (ap (λ (v : ℕ × ℕ). v.0) s.1.value) in
      let beside : (messages : List (List ℕ)) → RecvStands row messages (m.reading old.recv)
      → Disagrees row (value_of (m.reading old.high)).0 (value_of (m.reading old.recv)).0 (value_of (m.reading old.low)).0 messages (m.reading old.low) f.why = λ messages stands.
      let stands' : RecvStands (recv_row receiver) messages (m.reading (recv_disk receiver)) =
      subst (λ (w : SessionRow). RecvStands w messages (m.reading (recv_disk receiver))) (sym o.recv_row_is) (subst (λ (z : List ℕ). RecvStands row messages z) (sym (o.recv_reads told)) stands) in
      let one = differs messages stands' in
      let two : Disagrees row removed (recv_count receiver) (low_count low) messages (m.reading (low_disk low)) f.why =
      subst (λ (w : SessionRow). Disagrees w removed (recv_count receiver) (low_count low) messages (m.reading (low_disk low)) f.why) o.low_row_is one in
      let three : Disagrees row removed (recv_count receiver) (low_count low) messages (m.reading old.low) f.why =
      subst (λ (z : List ℕ). Disagrees row removed (recv_count receiver) (low_count low) messages z f.why) (o.low_reads told) two in
      let four = subst (λ k. Disagrees row k (recv_count receiver) (low_count low) messages (m.reading old.low) f.why) b three in
      let five = subst (λ k. Disagrees row (value_of (m.reading old.high)).0 k (low_count low) messages (m.reading old.low) f.why) r four in
      subst (λ k. Disagrees row (value_of (m.reading old.high)).0 (value_of (m.reading old.recv)).0 k messages (m.reading old.low) f.why) e five in
      (ap (λ (g : MoveFault). g.new) is, inr (o.pump told, ap (λ (g : MoveFault). g.role) is, inr (o.log told, beside)))
