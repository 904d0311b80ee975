-- What a receiver does with a message, and what its disk then stands for.
use Rattle.std.proofs.Common.{◌≡◌, ◌⊎◌, inl, inr, ℕ, ◌+◌, ◌<◌, ◌≤◌, Bool, true, false, cond, ltb, List, [], ◌∷◌, ◌++◌, length, Some, None, IfSome, Result, Ok, Err, refl, sym, ap, ◌∙◌, subst, append_assoc, append-nil, arith}
use Rattle.std.proofs.lemmas.Bool.{ltb-true, ltb-false}
use Rattle.disk_model.specs.Disk.{Meaning, Settled, Leaves, Moves}
use Rattle.pump_frame.specs.Counts.{Rose}
use Rattle.pump_frame.specs.declared.frame.Frame.{Frame}
use Rattle.pump_frame.specs.declared.frame.Kind.TheVariants.{Taken as TakenKind}
use Rattle.pump_frame.specs.declared.row.SessionRow.{SessionRow}
use Rattle.pump_frame.specs.Spellings.{spelling}
use Rattle.stable_buffer.specs.Log.{RecvStands}
use Rattle.high_receiver.specs.declared.receiver.Receiver.{Receiver}
use Rattle.high_receiver.specs.declared.values.Taken.{Taken}
use Rattle.high_receiver.specs.declared.values.Taken.TheVariants as outcome
use Rattle.high_receiver.specs.declared.values.TakeFault.{TakeFault}
use Rattle.high_receiver.specs.declared.values.TakeFault.TheVariants as fault
use Rattle.high_receiver.specs.Steps.{MayTake, TakesMessage}
use Rattle.high_receiver.specs.Receiving.{IsRecvReady, Stores, answer_at_once, recv_disk, recv_count, recv_end, recv_row, recv_size, recv_is_open}
use Rattle.peers.specs.Outputs.{plain_frame}
use Rattle.peers.specs.Receiving.{Turn, Took, Again, IsNext, place_of, frame_in, answer_in, line_in, taken_line, is_wanted, StandsForPrefix}
use Rattle.peers.specs.Takes.{LeavesPrefix, GrowsBy, GrowsPart, MakesTurn}

-- ---- disks ----

none_more : (row : SessionRow) (before : List (List ℕ)) (disk : List ℕ) → RecvStands row before disk → RecvStands row (before ++ []) disk
none_more row before disk is = subst (λ (l : List (List ℕ)). RecvStands row l disk) (sym (append-nil before)) is

one_more : (row : SessionRow) (before : List (List ℕ)) (message disk : List ℕ) → RecvStands row before disk ⊎ RecvStands row (before ++ message ∷ []) disk → StandsForPrefix row before (message ∷ []) disk
one_more row before message disk (inl is) = ([], message ∷ [], refl, none_more row before disk is)
one_more row before message disk (inr is) = (message ∷ [], [], refl, is)

longer : (row : SessionRow) (before xs ys : List (List ℕ)) (disk : List ℕ) → StandsForPrefix row before xs disk → StandsForPrefix row before (xs ++ ys) disk
longer row before xs ys disk (prefix, rest, e, is) = (prefix, rest ++ ys, ap (λ (l : List (List ℕ)). l ++ ys) e ∙ append_assoc prefix rest ys, is)

further : (row : SessionRow) (before xs ys : List (List ℕ)) (disk : List ℕ) → StandsForPrefix row (before ++ xs) ys disk → StandsForPrefix row before (xs ++ ys) disk
further row before xs ys disk (prefix, rest, e, is) = (
  xs ++ prefix,
  rest,
  ap (λ (l : List (List ℕ)). xs ++ l) e ∙ sym (append_assoc xs prefix rest),
  subst (λ (l : List (List ℕ)). RecvStands row l disk) (append_assoc before xs prefix) is,
)

module _ {D : Type 0} (m : Meaning D) (row : SessionRow) where
  pub grows_nothing : (d : D) → GrowsBy m row d d []
  grows_nothing d = record {
    later = omega arith;
    counts = omega arith;
    stands = λ told before is. none_more row before (m.reading d) is;
    leaves = λ before is told t c le left. inl left;
  }

  pub grows_join : (old mid new : D) (xs ys : List (List ℕ)) → GrowsBy m row old mid xs → GrowsBy m row mid new ys → GrowsBy m row old new (xs ++ ys)
  grows_join old mid new xs ys a b = record {
    later = omega (arith, a.later, b.later);
    counts = omega (arith, a.counts, b.counts);
    stands = λ told before is. subst (λ (l : List (List ℕ)). RecvStands row l (m.reading new)) (append_assoc before xs ys) (b.stands told (before ++ xs) (a.stands told before is));
    leaves = λ before is told t c le left.
        elim (b.leaves (before ++ xs) (a.stands (m.images_tell told) before is) told t c (omega (arith, le, a.later)) left) [
          | inl was ↦ elim (a.leaves before is told t c le was) [
            | inl earlier ↦ inl earlier
            | inr prefix ↦ inr (longer row before xs ys c prefix)
          ]
          | inr prefix ↦ inr (further row before xs ys c prefix)
        ];
  }

  pub grows_part : (old mid new : D) (xs ys : List (List ℕ)) → GrowsBy m row old mid xs → GrowsPart m row mid new ys → GrowsPart m row old new (xs ++ ys)
  grows_part old mid new xs ys a b = record {
    reads = λ told before is. further row before xs ys (m.reading new) (b.reads told (before ++ xs) (a.stands told before is));
    leaves = λ before is told t c le left.
        elim (b.leaves (before ++ xs) (a.stands (m.images_tell told) before is) told t c (omega (arith, le, a.later)) left) [
          | inl was ↦ elim (a.leaves before is told t c le was) [
            | inl earlier ↦ inl earlier
            | inr prefix ↦ inr (longer row before xs ys c prefix)
          ]
          | inr prefix ↦ inr (further row before xs ys c prefix)
        ];
  }

  pub whole_part : (old new : D) (xs : List (List ℕ)) → GrowsBy m row old new xs → GrowsPart m row old new xs
  whole_part old new xs a = record { reads = λ told before is. (xs, [], sym (append-nil xs), a.stands told before is); leaves = a.leaves }

  -- a crash in the call leaves a prefix
  pub in_call : (old new : D) (xs : List (List ℕ)) → Settled m old → GrowsPart m row old new xs → (before : List (List ℕ)) → RecvStands row before (m.reading old) → Leaves m old new (StandsForPrefix row before xs)
  in_call old new xs settled a before is told c left =
      elim (a.leaves before is told (m.moment old) c (omega arith) left) [
        | inl was ↦ (
          [],
          xs,
          refl,
          none_more row before c (subst (λ (l : List ℕ). RecvStands row before l) (sym (settled told c (m.only_now told old c was))) is),
        )
        | inr prefix ↦ prefix
      ]

  leaves_one : (message : List ℕ) (old new : D) → Settled m old → Moves m (MayTake row message) old new → LeavesPrefix m row old new (message ∷ [])
  leaves_one message old new settled moved before is told t c le left =
      elim (moved.each told t c le left) [
        | inl was ↦ inl was
        | inr from ↦ inr (one_more row before message c (from.2.either before (subst (λ (l : List ℕ). RecvStands row before l) (sym (settled told from.0 from.1)) is)))
      ]

  pub grows_one : (message : List ℕ) (old new : D) → Settled m old → m.count old ≤ m.count new → Moves m (MayTake row message) old new → (m.tells → TakesMessage row message (m.reading old) (m.reading new)) → GrowsBy m row old new (message ∷ [])
  grows_one message old new settled counts moved taken = record {
    later = moved.later;
    counts = counts;
    stands = λ told before is. (let t = taken told in t.more) before is;
    leaves = leaves_one message old new settled moved;
  }

  pub part_one : (message : List ℕ) (old new : D) → Settled m old → Moves m (MayTake row message) old new → GrowsPart m row old new (message ∷ [])
  part_one message old new settled moved = record {
    reads = λ told before is. one_more row before message (m.reading new) ((let s = moved.reads told in s.either) before is);
    leaves = leaves_one message old new settled moved;
  }

-- ---- one message ----

pub data TakeCase {D : Type 0} (m : Meaning D) (number : ℕ) (payload : List ℕ) (old new : Receiver D) (result : Result Taken TakeFault) : Type 0 where
  IsRepeat : number < recv_count old → result ≡ Ok outcome.Repeat → new ≡ old → TakeCase m number payload old new result
  IsAhead : recv_count old < number → result ≡ Err (fault.Ahead number (recv_count old)) → new ≡ old → TakeCase m number payload old new result
  IsFull : number ≡ recv_count old → recv_size old < recv_end old + 2 + length payload → result ≡ Err (fault.LogFull (recv_end old) (length payload) (recv_size old)) → new ≡ old → TakeCase m number payload old new result
  IsStored : number ≡ recv_count old → recv_end old + 2 + length payload ≤ recv_size old → Stores m payload old new result → TakeCase m number payload old new result

case_by : {D : Type 0} (m : Meaning D) (number : ℕ) (payload : List ℕ) (old new : Receiver D) (result : Result Taken TakeFault) (low high full : Bool)
    → ltb number (recv_count old) ≡ low → ltb (recv_count old) number ≡ high → ltb (recv_size old) (recv_end old + 2 + length payload) ≡ full
    → IfSome (cond low (Some (Ok outcome.Repeat)) (cond high (Some (Err (fault.Ahead number (recv_count old)))) (cond full (Some (Err (fault.LogFull (recv_end old) (length payload) (recv_size old)))) None))) (λ answer. result ≡ answer)
    → IfSome (cond low (Some (Ok outcome.Repeat)) (cond high (Some (Err (fault.Ahead number (recv_count old)))) (cond full (Some (Err (fault.LogFull (recv_end old) (length payload) (recv_size old)))) None))) (λ answer. new ≡ old)
    → (cond low (Some (Ok outcome.Repeat)) (cond high (Some (Err (fault.Ahead number (recv_count old)))) (cond full (Some (Err (fault.LogFull (recv_end old) (length payload) (recv_size old)))) None)) ≡ None → Stores m payload old new result)
    → TakeCase m number payload old new result
case_by m number payload old new result true high full a b c at_once same stores = IsRepeat (ltb-true _ _ a) at_once same
case_by m number payload old new result false true full a b c at_once same stores = IsAhead (ltb-true _ _ b) at_once same
case_by m number payload old new result false false true a b c at_once same stores = IsFull (omega (arith, ltb-false _ _ a, ltb-false _ _ b)) (ltb-true _ _ c) at_once same
case_by m number payload old new result false false false a b c at_once same stores = IsStored (omega (arith, ltb-false _ _ a, ltb-false _ _ b)) (ltb-false _ _ c) (stores refl)

pub take_case : {D : Type 0} (m : Meaning D) (number : ℕ) (payload : List ℕ) (old new : Receiver D) (result : Result Taken TakeFault)
    → IfSome (answer_at_once (recv_count old) (recv_end old) (recv_size old) number (length payload)) (λ answer. result ≡ answer)
    → IfSome (answer_at_once (recv_count old) (recv_end old) (recv_size old) number (length payload)) (λ answer. new ≡ old)
    → (answer_at_once (recv_count old) (recv_end old) (recv_size old) number (length payload) ≡ None → Stores m payload old new result)
    → TakeCase m number payload old new result
take_case m number payload old new result at_once same stores = case_by m number payload old new result _ _ _ refl refl refl at_once same stores

-- what a message that was taken, or was there, makes of the receiver
pub record Made {D : Type 0} (m : Meaning D) (row : SessionRow) (f : Frame) (old new : Receiver D) (taken : Taken) : Type 0 where
  pub t : Turn
  pub is : frame_in t ≡ f
  pub made : MakesTurn m row t old new
  pub answer : answer_in row.id t ≡ spelling (plain_frame TakenKind row.id f.number)
  pub line : line_in row.id t ≡ taken_line row.id f.number taken

pub turn_made : {D : Type 0} (m : Meaning D) (row : SessionRow) (f : Frame) (old new : Receiver D) (taken : Taken) → is_wanted row f ≡ true → recv_row old ≡ row → Settled m (recv_disk old)
    → IsRecvReady m new → recv_row new ≡ recv_row old → recv_size new ≡ recv_size old → TakeCase m f.number f.payload old new (Ok taken) → Made m row f old new taken
turn_made {D = D} m row f old new taken wanted of_row settled ready same_row same_size (IsRepeat low e same) =
    let is : outcome.Repeat ≡ taken = cc in
    record {
      t = Again f;
      is = refl;
      made = record {
        turn = (wanted, low);
        place = ap place_of same;
        ready = ready;
        same_row = same_row;
        same_size = same_size;
        grows = subst (λ (r : Receiver D). GrowsBy m row (recv_disk old) (recv_disk r) []) (sym same) (grows_nothing m row (recv_disk old));
      };
      answer = refl;
      line = ap (λ (k : Taken). taken_line row.id f.number k) is;
    }
turn_made m row f old new taken wanted of_row settled ready same_row same_size (IsAhead high e same) = cc
turn_made m row f old new taken wanted of_row settled ready same_row same_size (IsFull is long e same) = cc
turn_made m row f old new taken wanted of_row settled ready same_row same_size (IsStored is fits stores) =
    let took : Ok taken ≡ Ok outcome.Took = stores.took in
    let which : outcome.Took ≡ taken = cc in
    record {
      t = Took f;
      is = refl;
      made = record {
        turn = (wanted, (is, fits));
        place = λ i. record { count = stores.count i; end = stores.end i };
        ready = ready;
        same_row = same_row;
        same_size = same_size;
        grows = subst (λ (r : SessionRow). GrowsBy m r (recv_disk old) (recv_disk new) (f.payload ∷ [])) of_row
            (grows_one m (recv_row old) f.payload (recv_disk old) (recv_disk new) settled stores.answers.counts stores.moves stores.taken);
      };
      answer = refl;
      line = ap (λ (k : Taken). taken_line row.id f.number k) which;
    }

-- why a message was not taken
pub record DeviceFailed {D : Type 0} (m : Meaning D) (row : SessionRow) (f : Frame) (old new : Receiver D) (faults : ℕ) : Type 0 where
  pub next : IsNext (recv_size old) (place_of old) f
  pub closed : recv_is_open new ≡ false
  pub rose : Rose (m.count (recv_disk old)) (m.count (recv_disk new))
  pub faults_are : faults ≡ m.count (recv_disk new)
  pub grows : GrowsPart m row (recv_disk old) (recv_disk new) (f.payload ∷ [])

pub device_failed : {D : Type 0} (m : Meaning D) (row : SessionRow) (f : Frame) (old new : Receiver D) (faults : ℕ) → recv_row old ≡ row → Settled m (recv_disk old)
    → TakeCase m f.number f.payload old new (Err (fault.Device faults)) → DeviceFailed m row f old new faults
device_failed m row f old new faults of_row settled (IsRepeat low e same) = cc
device_failed m row f old new faults of_row settled (IsAhead high e same) = cc
device_failed m row f old new faults of_row settled (IsFull is long e same) = cc
device_failed m row f old new faults of_row settled (IsStored is fits stores) =
    let e : fault.Device faults ≡ fault.Device (m.count (recv_disk new)) = stores.device in
    record {
      next = (is, fits);
      closed = stores.closed;
      rose = stores.answers.rose refl;
      faults_are = cc;
      grows = subst (λ (r : SessionRow). GrowsPart m r (recv_disk old) (recv_disk new) (f.payload ∷ [])) of_row
          (part_one m (recv_row old) f.payload (recv_disk old) (recv_disk new) settled stores.moves);
    }

pub ahead : {D : Type 0} (m : Meaning D) (n : ℕ) (payload : List ℕ) (old new : Receiver D) (number count : ℕ) → TakeCase m n payload old new (Err (fault.Ahead number count))
    → (recv_count old < n) × (number ≡ n) × (count ≡ recv_count old) × (new ≡ old)
ahead m n payload old new number count (IsRepeat low e same) = cc
ahead m n payload old new number count (IsAhead high e same) = (high, cc, cc, same)
ahead m n payload old new number count (IsFull is long e same) = cc
ahead m n payload old new number count (IsStored is fits stores) =
    let e : fault.Ahead number count ≡ fault.Device (m.count (recv_disk new)) = stores.device in cc

pub log_full : {D : Type 0} (m : Meaning D) (n : ℕ) (payload : List ℕ) (old new : Receiver D) (end size limit : ℕ) → TakeCase m n payload old new (Err (fault.LogFull end size limit))
    → (n ≡ recv_count old) × (recv_size old < recv_end old + 2 + length payload) × (end ≡ recv_end old) × (size ≡ length payload) × (limit ≡ recv_size old) × (new ≡ old)
log_full m n payload old new end size limit (IsRepeat low e same) = cc
log_full m n payload old new end size limit (IsAhead high e same) = cc
log_full m n payload old new end size limit (IsFull is long e same) = (is, long, cc, cc, cc, same)
log_full m n payload old new end size limit (IsStored is fits stores) =
    let e : fault.LogFull end size limit ≡ fault.Device (m.count (recv_disk new)) = stores.device in cc

pub case_of : {D : Type 0} (m : Meaning D) (n : ℕ) (payload : List ℕ) (old new : Receiver D) (why other : TakeFault) → why ≡ other → TakeCase m n payload old new (Err why) → TakeCase m n payload old new (Err other)
case_of m n payload old new why other e one = subst (λ (w : TakeFault). TakeCase m n payload old new (Err w)) e one
