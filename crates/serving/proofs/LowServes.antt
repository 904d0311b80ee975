-- What the low worker did, from the run of its half.
use Rattle.std.proofs.Common.{◌≡◌, ℕ, ◌+◌, ◌-◌, ◌≤◌, Bool, true, false, List, [], ◌++◌, Option, Some, None, refl, sym, ap, ◌∙◌, subst, append_assoc, append-nil, arith}
use Rattle.std.specs.Prelude.{Result, Ok, Err, OnOk, OnErr, is_err, is_some, map}
use Rattle.std.specs.List.{All}
use Rattle.std.specs.Option.{option_to_list}
use Rattle.std.specs.Io.KnownBytes.{Appends}
use Rattle.rand_chacha.specs.ChaCha.{ChaCha}
use Rattle.delay_table.specs.Streams.{AreWords}
use Rattle.disk_model.specs.Disk.{Meaning}
use Rattle.pump_frame.specs.Rows.{IsLawfulRow}
use Rattle.pump_frame.specs.declared.frame.Item.{Item}
use Rattle.pump_frame.specs.declared.row.SessionRow.{SessionRow}
use Rattle.pump_link.specs.Causes.{AppendsPrefix, HasCause}
use Rattle.pump_link.proofs.Grown.{Grows-all, Draws-all}
use Rattle.pump_core.specs.Exchanges.{Part, IsCut, count_after}
use Rattle.pump_core.specs.Passage.{Low, NeverFall, new_low, new_high}
use Rattle.pump_core.specs.Standing.{State, phase_after}
use Rattle.pump_core.proofs.Cuts.{one_cut}
use Rattle.script_reader.specs.Grammar.{IsCount}
use Rattle.script_reader.specs.Spelling.{line_text}
use Rattle.stable_buffer.specs.Low.{StandsForCount, low_count, low_disk}
use Rattle.stable_buffer.specs.declared.low.LowStore.{LowStore}
use Rattle.low_process.specs.declared.values.Phase.{Phase}
use Rattle.low_process.specs.declared.values.Phase.TheVariants as phases
use Rattle.low_process.specs.Ends.{StandsFitting}
use Rattle.low_process.specs.Looks.{row_of, next_of, hand_of, is_down, is_down_in, phase_of}
use Rattle.relay_threads.specs.Levels.{IsEndOf}
use Rattle.relay_threads.specs.LowServes.{Lives}
use Rattle.relay_threads.specs.LowStays.{AreStays, is_kept_by, stayed, words_in, text_in}
use Rattle.relay_threads.specs.LowEnds.{HasAll, HasStored}
use Rattle.relay_threads.specs.PairsRead.{pairs_of}
use Rattle.relay_threads.specs.Reaching.{Reaches}
use Rattle.relay_threads.specs.RecordLines.{opening_line, coarse_text, first_text, looks_text, record_text}
use Rattle.relay_threads.specs.Records.{Made, AreMade, life_made, record_of}
use Rattle.relay_threads.specs.Replays.{BeginsReadable, TellLevels}
use Rattle.relay_threads.specs.StoredMessages.{stored_in, payloads, StandsForLast}
use Rattle.relay_threads.specs.Workers.{CountsEnd}
use Rattle.relay_threads.specs.declared.rounds_end.RoundsEnd.{RoundsEnd}
use Rattle.relay_threads.specs.declared.rounds_end.RoundsEnd.TheVariants as ends
use Rattle.relay_threads.proofs.LowReplays.{stays_readable}
use Rattle.relay_threads.proofs.StoredMessages.{stands_for_last}
use Rattle.serving.specs.Doors.{DoorsTell}
use Rattle.serving.specs.Finding.{AtOpening, FindsBoth, between_hands, low_opening}
use Rattle.serving.specs.LowRuns.{LowLent, found_in, opening_text}
use Rattle.serving.specs.LowServing.{DidLow, LowServed, is_lost}
use Rattle.serving.specs.PassageEnds.{EndTells}
use Rattle.serving.specs.Starting.{LowBegins}
use Rattle.relay_side.specs.Sides.{SideTells}
use Rattle.serving.specs.declared.low_half.LowParts.{LowParts}

-- the words of a stream of ChaCha20
abbrev pub words_given : ChaCha → List ℕ → Type 0
words_given s words = AreWords s.key s.stream s.word_pos words

no_words : (s : ChaCha) → words_given s []
no_words s k less = absurd (omega (arith, less))

-- a fault that counts from a later count on counts from an earlier one on
pub counts_from : (end : Option RoundsEnd) (first before now : ℕ) → first ≤ before → CountsEnd end before now → CountsEnd end first now
counts_from None first before now le h = tt
counts_from (Some ends.Rounds) first before now le h = tt
counts_from (Some (ends.Device faults)) first before now le h = (h.0, (let rose = h.1 in omega (arith, le, rose)))
counts_from (Some ends.RecordFailed) first before now le h = tt

-- the opening line of the half was written
pub opening_written : {W S E T F : Type 0} (old new : Option (List ℕ)) (result : Result T F) (row : SessionRow) (next : ℕ) (parts : LowParts W S E) {failed : Bool}
    → row ≡ row_of parts.process → next ≡ next_of parts.process → failed ≡ is_err result → failed ≡ false
    → OnOk result (Appends old new (first_text row (record { count = next; is_held = parts.is_held }))) → Appends old new (opening_text parts)
opening_written {W} {S} {E} {T} {F} old new result row next parts row_is next_is asked fine ok =
    subst (λ (x : SessionRow × ℕ). Appends old new (first_text x.0 (record { count = x.1; is_held = parts.is_held }))) (λ i. (row_is i, next_is i)) (by_result result (sym asked ∙ fine) ok) where
      by_result : (r : Result T F) → is_err r ≡ false → OnOk r (Appends old new (first_text row (record { count = next; is_held = parts.is_held }))) → Appends old new (first_text row (record { count = next; is_held = parts.is_held }))
      by_result (Ok x) fine ok = ok
      by_result (Err x) fine ok = absurd (cc)

-- a prefix of it was
pub opening_broke : {W S E T F : Type 0} (old new : Option (List ℕ)) (before now : ℕ) (result : Result T F) (row : SessionRow) (next : ℕ) (parts : LowParts W S E) {failed : Bool}
    → row ≡ row_of parts.process → next ≡ next_of parts.process → failed ≡ is_err result → failed ≡ true
    → OnErr result (AppendsPrefix old new (first_text row (record { count = next; is_held = parts.is_held }))) → HasCause before now result → Reaches (Appends old new) before now false (opening_text parts ++ [])
opening_broke {W} {S} {E} {T} {F} old new before now result row next parts row_is next_is asked broke err cause = by_result result (sym asked ∙ broke) err cause where
  bytes_are : first_text row (record { count = next; is_held = parts.is_held }) ≡ opening_text parts ++ []
  bytes_are = ap (λ (x : SessionRow × ℕ). first_text x.0 (record { count = x.1; is_held = parts.is_held })) (λ i. (row_is i, next_is i)) ∙ sym (append-nil (opening_text parts))

  by_result : (r : Result T F) → is_err r ≡ true → OnErr r (AppendsPrefix old new (first_text row (record { count = next; is_held = parts.is_held }))) → HasCause before now r → Reaches (Appends old new) before now false (opening_text parts ++ [])
  by_result (Ok x) broke err cause = absurd (cc)
  by_result (Err x) broke err cause = record { whole = λ e. absurd (cc); prefix = subst (AppendsPrefix old new) bytes_are err; cause = λ e. cause.failed; later = cause.later }

-- a reader of scripts reads it
pub opening_reads : {W S E : Type 0} (row : SessionRow) (next : ℕ) (parts : LowParts W S E) → row ≡ row_of parts.process → next ≡ next_of parts.process
    → (IsCount next parts.is_held → BeginsReadable row (record { count = next; is_held = parts.is_held })) → IsCount (found_in parts).count (found_in parts).is_held → BeginsReadable (row_of parts.process) (found_in parts)
opening_reads row next parts row_is next_is reads =
    subst (λ (x : SessionRow × ℕ). IsCount x.1 parts.is_held → BeginsReadable x.0 (record { count = x.1; is_held = parts.is_held })) (λ i. (row_is i, next_is i)) reads

lost_is : (phase : Phase) (hand : ℕ) → is_lost (phase_of phase hand) ≡ is_down_in phase
lost_is phases.Idle hand = refl
lost_is (phases.Passing true) hand = refl
lost_is (phases.Passing false) hand = refl
lost_is (phases.Waiting number due) hand = refl
lost_is phases.Down hand = refl

module _ {D L S E Place : Type 0} (t : DoorsTell D L) (m : Meaning S) (e : EndTells E Place) (row : SessionRow) (rounds : ℕ) (key : List ℕ) (side : SideTells D L)
    (written now_written : Option (List ℕ)) (faults now_faults : ℕ) (o : AtOpening) (v w : LowParts ChaCha S E) (was : LowStore S) (disk high now_disk : S) (end : RoundsEnd)
    (lent : LowLent t m words_given e side written now_written faults now_faults row.low_port rounds v w end)
    {first : E} (start : LowBegins e.stands row o.count o.low_hand was first key v) (now_is : now_disk ≡ low_disk w.store)
    (found : FindsBoth m row o disk high) (same : m.tells → m.reading (low_disk was) ≡ m.reading disk) (counts : m.count disk ≤ m.count (low_disk was)) where
  abbrev made : List Made
  made = stayed [] lent.ran.stays

  row_after : row_of w.process ≡ row
  row_after = lent.ran.so.row ∙ start.row_is

  lives_on : Lives w.process (low_opening o) made
  lives_on = lent.ran.so.lives (low_opening o) [] start.lives

  -- what is to be written is the record of all looks
  record_is : opening_text v ++ text_in (row_of v.process) lent.ran.stays ≡ record_text row (low_opening o) made
  record_is =
      ap (λ (b : List ℕ). opening_text v ++ b) (lent.ran.is_record (low_opening o) start.lives)
      ∙ ap (λ (x : SessionRow × ℕ × Bool). first_text x.0 (record { count = x.1; is_held = x.2 }) ++ looks_text x.0 (record_of made)) (λ i. (start.row_is i, start.next_is i, start.held_is i))
      ∙ append_assoc (line_text (opening_line row (low_opening o))) (coarse_text row) (looks_text row (record_of made))

  begins : IsCount o.count (is_some o.low_hand) → BeginsReadable row (low_opening o)
  begins = subst (λ (x : SessionRow × ℕ × Bool). IsCount x.1 x.2 → BeginsReadable x.0 (record { count = x.1; is_held = x.2 })) (λ i. (start.row_is i, start.next_is i, start.held_is i)) lent.ran.begins

  are_stays : AreStays row (low_opening o) [] lent.ran.stays
  are_stays = subst (λ (r : SessionRow). AreStays r (low_opening o) [] lent.ran.stays) start.row_is (lent.ran.so.rule (low_opening o) [] start.lives)

  first_counts : m.count disk ≤ m.count (low_disk v.store)
  first_counts = subst (λ (x : LowStore S). m.count disk ≤ m.count (low_disk x)) (sym start.store_is) counts

  -- ---- the disk ----

  abbrev lived_parts : List Part
  lived_parts = lives_on.stands.stands.parts

  is_up : is_lost (phase_after row (low_opening o) lived_parts) ≡ false → is_down w.process ≡ false
  is_up sound =
      let state = lives_on.stands.stands.state in
      sym (lost_is w.process.phase w.process.hand.number) ∙ ap (λ (s : State). is_lost s.phase) state ∙ ap (λ (r : SessionRow). is_lost (phase_after r (low_opening o) lived_parts)) row_after ∙ sound

  left_by : m.tells → is_lost (phase_after row (low_opening o) lived_parts) ≡ false → StandsForCount row (count_after (low_opening o) lived_parts) (m.reading now_disk)
  left_by told sound =
      let has = lent.ran.store (is_up sound) in
      let count_is : low_count w.store ≡ count_after (low_opening o) lived_parts = has.count ∙ ap (λ (s : State). s.next) lives_on.stands.stands.state in
      subst (λ (x : SessionRow × ℕ × S). StandsForCount x.0 x.1 (m.reading x.2)) (λ i. ((has.row ∙ row_after) i, count_is i, sym now_is i)) (has.ready.stands told)

  -- .. and has the last of the messages that were found and stored
  stands_first : m.tells → HasStored (row_of v.process) (low_opening o) [] o.removed o.messages (m.reading (low_disk v.store))
  stands_first told parts cut =
      let none : parts ≡ [] = one_cut (row_of v.process) (life_made (low_opening o) []) parts [] cut (record { are_parts = tt; looks = refl }) in
      let all : o.messages ≡ o.messages ++ payloads (stored_in parts) = sym (append-nil o.messages) ∙ ap (λ (z : List Part). o.messages ++ payloads (stored_in z)) (sym none) in
      let there : m.reading disk ≡ m.reading (low_disk v.store) = sym (same told) ∙ ap (λ (z : LowStore S). m.reading (low_disk z)) (sym start.store_is) in
      subst (λ (z : SessionRow × List (List ℕ) × List ℕ). StandsForLast z.0 o.removed z.1 z.2) (λ i. (sym start.row_is i, all i, there i))
      (stands_for_last row o.count o.removed o.messages (m.reading disk) found.count (found.low_stands told))

  -- the life that goes on from nothing
  cut_on : IsCut (row_of w.process) (life_made (low_opening o) (made ++ [])) lived_parts
  cut_on = subst (λ (z : List Made). IsCut (row_of w.process) (life_made (low_opening o) z) lived_parts) (sym (append-nil made)) lives_on.stands.stands.cut

  stored_by : m.tells → is_lost (phase_after row (low_opening o) lived_parts) ≡ false → StandsForLast row o.removed (o.messages ++ payloads (stored_in lived_parts)) (m.reading now_disk)
  stored_by told sound =
      let has = lent.ran.stores told (is_up sound) (low_opening o) [] o.removed o.messages start.lives (stands_first told) in
      subst (λ (z : SessionRow × S). StandsForLast z.0 o.removed (o.messages ++ payloads (stored_in lived_parts)) (m.reading z.1)) (λ i. (row_after i, sym now_is i)) (has lived_parts cut_on)

  -- ---- the end of the passage ----

  abbrev first_low : Low
  first_low = record new_low { forwarded = between_hands row o }

  abbrev first_items : List Item
  first_items = between_hands row o ++ option_to_list o.low_hand

  -- the end begins with what is between the hands, and the hand has the message behind
  has_first : HasAll (row_of v.process) (low_opening o) [] first_items (between_hands row o) (hand_of v.process)
  has_first parts cut =
      let none : parts ≡ [] = one_cut (row_of v.process) (life_made (low_opening o) []) parts [] cut (record { are_parts = tt; looks = refl }) in
      ap (λ (x : Option Item). between_hands row o ++ option_to_list x) start.hand_is ∙ sym (append-nil first_items) ∙ ap (λ (z : List Part). first_items ++ stored_in z) (sym none)

  low_did : (e.shape v.ends).places ≡ row.capacity - 2 → StandsFitting (e.stands v.ends) v.process first_low new_high → (l : Low) × e.stands w.ends l new_high × DidLow row o made l
  low_did places fits =
      let done = lent.ran.does first_low new_high fits in
      let all = done.all (low_opening o) [] first_items start.lives has_first in (
        done.low,
        done.stands.0,
        record {
          passed = done.passed;
          items = (hand_of w.process, subst (λ (z : SessionRow × List Made). HasAll z.0 (low_opening o) z.1 first_items done.low.forwarded (hand_of w.process)) (λ i. (row_after i, append-nil made i)) all);
          fulls = ap (λ (ts : List (ℕ × ℕ)). map (λ t. t.0) ts) done.tries_are ∙ done.fulls;
          full = subst (λ (z : List (ℕ × ℕ) × ℕ). All (λ t. t.0 ≡ t.1 + z.1) z.0) (λ i. (sym done.tries_are i, places i)) done.full;
          pairs = done.pairs_are;
        },
      )

  -- its end had read nothing before
  rising : StandsFitting (e.stands v.ends) v.process first_low new_high → NeverFall (pairs_of made)
  rising fits =
      let done = lent.ran.does first_low new_high fits in
      subst NeverFall done.pairs_are (done.falls tt)

  low_served : IsLawfulRow row → IsEndOf e.stands e.shape v.ends (row_of v.process) → StandsFitting (e.stands v.ends) v.process first_low new_high → (l : Low) → DidLow row o made l
      → LowServed t m row rounds key side written now_written faults now_faults o l disk now_disk end
  low_served lawful end_is_rows fits l did = record {
    is_opened = lent.ran.is_opened;
    stays = lent.ran.stays;
    are = are_stays;
    made = subst (λ (r : SessionRow). AreMade r (low_opening o) made) row_after lives_on.are_made;
    ends = lent.ran.ends;
    at = record {
      opened = lent.opened;
      shut = lent.shut;
      in_call = lent.in_call;
      is_port = lent.ran.port row.low_port lent.is_port;
      did = Grows-all _ _ _ lent.fresh lent.ran.did;
      gave = lent.ran.gave;
    };
    links = lent.ran.links;
    moments = lent.ran.moments;
    words = subst (λ (s : ChaCha). words_given s (words_in lent.ran.stays)) start.words_are (Draws-all (words_given v.words) (words_given w.words) (words_in lent.ran.stays) (no_words w.words) lent.ran.words);
    tape = subst (Reaches (Appends written now_written) faults now_faults (is_kept_by (Some end))) record_is lent.ran.tape;
    readable = record { opening = (begins start.counted).opening; coarse = (begins start.counted).coarse; looks = stays_readable row (low_opening o) lent.ran.stays lawful are_stays };
    levels = subst (λ (z : SessionRow). TellLevels z made) start.row_is (lent.ran.levels end_is_rows);
    rising = rising fits;
    did = did;
    left = λ told. (lived_parts, subst (λ (r : SessionRow). IsCut r (life_made (low_opening o) made) lived_parts) row_after lives_on.stands.stands.cut, λ sound. (left_by told sound, stored_by told sound));
    device = counts_from (Some end) (m.count disk) (m.count (low_disk v.store)) (m.count now_disk) first_counts (subst (λ (x : S). CountsEnd (Some end) (m.count (low_disk v.store)) (m.count x)) (sym now_is) lent.ran.device);
  }

  -- what it did, and what its end stands for then
  pub low_done : IsLawfulRow row → IsEndOf e.stands e.shape v.ends (row_of v.process) → (e.shape v.ends).places ≡ row.capacity - 2 → StandsFitting (e.stands v.ends) v.process first_low new_high
      → (l : Low) × e.stands w.ends l new_high × LowServed t m row rounds key side written now_written faults now_faults o l disk now_disk end
  low_done lawful end_is_rows places fits =
      let (l, stands, did) = low_did places fits in
      (l, stands, low_served lawful end_is_rows fits l did)
