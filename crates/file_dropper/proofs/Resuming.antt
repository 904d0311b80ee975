-- What was left of a file that was being sent.
use Rattle.std.proofs.Common.{◌≡◌, ◌∙◌, ℕ, ◌+◌, ◌-◌, ◌<◌, ◌≤◌, inl, inr, Bool, false, List, [], ◌∷◌, ◌++◌, Option, None, Some, length, map, refl, sym, ap, subst, arith, length-append}
use Rattle.file_messages.specs.Messages.{start_message, piece_message}
use Rattle.file_messages.specs.Files.{File, Between, files, state_after}
use Rattle.file_messages.specs.Cuts.{pieces}
use Rattle.folders.specs.Outboxes.{Dropping, Standing, Marked, Moves, Makes, Settled, Is, MayBe, IsTaken, HasName, files_in, marked_opened, opened, without_marked}
use Rattle.folders.specs.declared.mark.Mark.{Mark}
use Rattle.file_dropper.specs.Leaving.{Fits, FitsMarked, IsUnderWay, Leaves, cut_length, sending}
use Rattle.file_dropper.specs.Readings.{still}
use Rattle.file_dropper.specs.Works.{GivesUpFor, IsMarked, IsOther, IsToldOf, IsToldOther, mark_of, IsLawfulSent, SendsOn, HasSent, Skips, still_of, bytes_of, StandsBehind}
use Rattle.std.specs.Prelude.{Result, Ok, Err, OnOk}
use Rattle.file_dropper.specs.declared.answers.DropFault.{DropFault}
use Rattle.file_dropper.specs.declared.answers.Settled.{Settled as Settled'}
use Rattle.file_dropper.specs.declared.answers.Settled.TheVariants.{Ready, Sent as WasSent, Again as Renewed}
use Rattle.file_dropper.specs.declared.work.Sent.{Sent}
use Rattle.file_dropper.specs.declared.work.Sender.{Sender}
use Rattle.file_dropper.specs.declared.work.Work.TheVariants.{Free, Sending}
use Rattle.file_dropper.proofs.Behind.{whole_gives}
use Rattle.file_dropper.proofs.Counting.{count_cut, count_sending}
use Rattle.file_dropper.proofs.Outside.{leaves_is, leaves_maybe, settled_by}
use Rattle.file_dropper.proofs.Passing.{not_begun}
use Rattle.file_dropper.proofs.Steps.{not_awaited}

abbrev Messages : Type 0
Messages = List (List ℕ)

same_start : (xs ys us vs : Messages) → xs ++ us ≡ ys ++ vs → length xs ≡ length ys → (xs ≡ ys) × (us ≡ vs)
same_start [] [] us vs e n = (refl, e)
same_start [] (y ∷ ys) us vs e n = absurd (omega (arith, n))
same_start (x ∷ xs) [] us vs e n = absurd (omega (arith, n))
same_start (x ∷ xs) (y ∷ ys) us vs e n =
    let head : x ≡ y = cc e in
    let tail : xs ++ us ≡ ys ++ vs = cc e in
    let (is, rest) = same_start xs ys us vs tail (omega (arith, n)) in
    (λ i. head i ∷ is i, rest)

pub is_taken : (mark : Mark) (marked : Option Marked) → IsMarked mark marked → IsTaken marked
is_taken mark None is = is
is_taken mark (Some marked) is = tt

pub has_name : (mark : Mark) (marked : Option Marked) → IsMarked mark marked → HasName mark.name marked
has_name mark None is = is
has_name mark (Some marked) is = ap (λ (m : Mark). m.name) is

pub marked_still : (mark : Mark) (bytes : List ℕ) (marked : Option Marked) → IsMarked mark marked → IsMarked mark (marked_opened bytes marked)
marked_still mark bytes None is = is
marked_still mark bytes (Some marked) is = is

pub bytes_opened : (mark : Mark) (bytes : List ℕ) (marked : Option Marked) → IsMarked mark marked → bytes_of (marked_opened bytes marked) ≡ bytes
bytes_opened mark bytes None is = absurd is
bytes_opened mark bytes (Some marked) is = refl

module _ (message : ℕ) (sent : Sent) (removed : List File) (accepted : Messages) where
  pub under_way : (marked : Option Marked) → IsMarked (mark_of message sent) marked → FitsMarked marked removed accepted
      → IsUnderWay message sent.start sent.size (record { name = sent.name; bytes = bytes_of marked }) removed accepted
  under_way None is fits = absurd is
  under_way (Some marked) is fits = subst (λ (mark : Mark). FitsMarked (Some (record { mark = mark; bytes = marked.bytes })) removed accepted) is fits

  -- only some of it was accepted
  some_accepted : (file : File) (u : IsUnderWay message sent.start sent.size file removed accepted) → length accepted < sent.start + cut_length message sent.size → (files accepted ≡ removed) × (length u.part < cut_length message sent.size)
  some_accepted file u less = elim u.so_far [
    | inl part ↦ part
    | inr whole ↦
        absurd (omega (arith, less, ap length u.all, length-append u.before u.part, u.number, ap length whole.0, count_cut message file (omega (arith, u.room)), ap (cut_length message) whole.1))
  ]

  pub gives_none : (marked : Option Marked) → IsMarked (mark_of message sent) marked → FitsMarked marked removed accepted → length accepted < sent.start + cut_length message sent.size → files accepted ≡ removed
  gives_none marked is fits less = (some_accepted _ (under_way marked is fits) less).0

  -- it may be opened
  pub still_fits : (bytes : List ℕ) (marked : Option Marked) → IsMarked (mark_of message sent) marked → FitsMarked marked removed accepted → length accepted < sent.start + cut_length message sent.size
      → FitsMarked (marked_opened bytes marked) removed accepted
  still_fits bytes None is fits less = fits
  still_fits bytes (Some marked) is fits less =
      let u = under_way (Some marked) is fits in
      subst (λ (mark : Mark). FitsMarked (Some (record { mark = mark; bytes = bytes })) removed accepted) (sym is) (record {
        before = u.before;
        part = u.part;
        all = u.all;
        number = u.number;
        between = u.between;
        given = u.given;
        room = u.room;
        so_far = inl (some_accepted _ u less);
      })

  named : (marked : Marked) → marked.mark ≡ mark_of message sent → (file : File) → file ≡ record { name = sent.name; bytes = marked.bytes } → file ∷ [] ≡ files_in (Some marked)
  named marked is file same = λ i. (same ∙ (λ j. record { name = (sym is j).name; bytes = marked.bytes })) i ∷ []

  -- all of it was accepted
  pub gives_marked : (marked : Option Marked) → IsMarked (mark_of message sent) marked → FitsMarked marked removed accepted → length accepted ≡ sent.start + cut_length message sent.size
      → (files accepted ≡ removed ++ files_in marked) × (state_after Between accepted ≡ Between)
  gives_marked None is fits all = absurd is
  gives_marked (Some marked) is fits all =
      let file : File = record { name = sent.name; bytes = marked.bytes } in
      let u = under_way (Some marked) is fits in
      elim u.so_far [
        | inl part ↦ absurd (omega (arith, all, ap length u.all, length-append u.before u.part, u.number, part.1))
        | inr whole ↦
            let gives = whole_gives message file u.before accepted removed (omega (arith, u.room)) whole.2 (u.all ∙ ap (λ (l : Messages). u.before ++ l) whole.0) u.between u.given in
            (gives.0 ∙ ap (λ (l : List File). removed ++ l) (named marked is file refl), gives.1)
      ]

  pub gives_sent : (number : ℕ) (marked : Option Marked) → 138 ≤ message → IsLawfulSent number sent → IsMarked (mark_of message sent) marked → HasSent message sent (bytes_of marked) removed accepted
      → (files accepted ≡ removed ++ files_in marked) × (state_after Between accepted ≡ Between)
  gives_sent number None room lawful is has = absurd is
  gives_sent number (Some marked) room lawful is has =
      let file : File = record { name = sent.name; bytes = marked.bytes } in
      let gives = whole_gives message file has.before accepted removed (omega (arith, room)) (record { name = lawful.name; size = omega (arith, lawful.size, has.size) }) has.all has.between has.given in
      (gives.0 ∙ ap (λ (l : List File). removed ++ l) (named marked is file refl), gives.1)

-- the marked file is removed
module _ {O F : Type 0} (m : Dropping O) (tells : m.tells) (left : F → Option (List ℕ)) (accepted : Messages) (old new : O) (settled : Settled m old) (fits : Fits accepted (m.stands old))
    (gives : (files accepted ≡ (m.stands old).removed ++ files_in (m.stands old).marked) × (state_after Between accepted ≡ Between)) (moves : Moves m (MayBe without_marked) old new) where
  pub leaves_removed : Leaves m accepted old new
  leaves_removed = leaves_maybe m tells accepted without_marked old new settled moves fits gives.0

  pub stands_removed : Makes m without_marked old new → (message number : ℕ) (awaited : Bool) → awaited ≡ false → number ≡ length accepted
      → StandsBehind m left (record { outbox = new; message = message; number = number; awaited = awaited; work = Free None }) accepted
  stands_removed makes message number awaited off is = record {
    count = not_awaited m tells left accepted (record { outbox = new; message = message; number = number; awaited = awaited; work = Free None }) off is;
    settled = makes.settled;
    work = (gives.0 ∙ sym (ap (λ (s : Standing). s.removed) (makes.stands tells)), gives.1);
  }

-- the sending goes on
module _ {O F : Type 0} (m : Dropping O) (tells : m.tells) (left : F → Option (List ℕ)) (accepted : Messages) (message : ℕ) (sent : Sent) (old new : O) (settled : Settled m old) (fits : Fits accepted (m.stands old))
    (marked : IsMarked (mark_of message sent) (m.stands old).marked) (less : length accepted < sent.start + cut_length message sent.size) (bytes : List ℕ) (opens : Moves m (Is (opened bytes)) old new) where
  pub fits_opened : Fits accepted (opened bytes (m.stands old))
  fits_opened = still_fits message sent (m.stands old).removed accepted bytes (m.stands old).marked marked fits less

  pub leaves_opened : Leaves m accepted old new
  leaves_opened = leaves_is m tells accepted (opened bytes) old new settled opens fits_opened

  pub settled_opened : Settled m new
  settled_opened = settled_by m tells accepted (opened bytes) old new settled opens

  pub fits_now : Fits accepted (m.stands new)
  fits_now = subst (Fits accepted) (sym (opens.stands tells)) fits_opened

  pub marked_now : IsMarked (mark_of message sent) (m.stands new).marked
  marked_now = subst (λ (s : Standing). IsMarked (mark_of message sent) s.marked) (sym (opens.stands tells)) (marked_still (mark_of message sent) bytes (m.stands old).marked marked)

  pub gives_now : files accepted ≡ (m.stands new).removed
  gives_now = gives_none message sent (m.stands old).removed accepted (m.stands old).marked marked fits less ∙ sym (ap (λ (s : Standing). s.removed) (opens.stands tells))

  bytes_now : bytes_of (m.stands new).marked ≡ bytes
  bytes_now = ap (λ (s : Standing). bytes_of s.marked) (opens.stands tells) ∙ bytes_opened (mark_of message sent) bytes (m.stands old).marked marked

  module _ (first sender : Sender F) (first_sent : first.sent ≡ sent) (same : sender.sent ≡ first.sent) (off : first.started ≡ false)
      (all : still left first.reading ≡ map piece_message (pieces (message - 1) bytes)) (count : ℕ) (skips : Skips left first sender bytes count) (counts : count + sent.start ≡ length accepted)
      (before part rest : Messages) (parts : accepted ≡ before ++ part) (starts : length before ≡ sender.sent.start)
      (unchanged : sending message sender.sent.name sender.sent.size (bytes_of (m.stands new).marked) ≡ part ++ rest) where
    u : IsUnderWay message sent.start sent.size (record { name = sent.name; bytes = bytes_of (m.stands new).marked }) (m.stands new).removed accepted
    u = under_way message sent (m.stands new).removed accepted (m.stands new).marked marked_now fits_now

    sent_is : sender.sent ≡ sent
    sent_is = same ∙ first_sent

    start_is : sender.sent.start ≡ sent.start
    start_is = ap (λ (x : Sent). x.start) sent_is

    -- all of them begin alike
    part_is : u.part ≡ part
    part_is = (same_start u.before before u.part part (sym u.all ∙ parts) (u.number ∙ sym start_is ∙ sym starts)).1

    sending_is : sending message sender.sent.name sender.sent.size bytes ≡ skips.passed ++ still_of left sender
    sending_is =
        ap (λ (x : Sent). sending message x.name x.size bytes) same ∙ ap (λ (l : Messages). start_message first.sent.name first.sent.size ∷ l) (sym all) ∙ sym (not_begun left first off) ∙ skips.parts

    passed_is : u.part ++ still_of left sender ≡ sending message sender.sent.name sender.sent.size bytes
    passed_is =
        let e : part ++ rest ≡ skips.passed ++ still_of left sender = sym unchanged ∙ ap (λ (b : List ℕ). sending message sender.sent.name sender.sent.size b) bytes_now ∙ sending_is in
        let n : length part ≡ length skips.passed =
        omega (arith, ap length parts, length-append before part, starts, start_is, skips.count_is, counts) in
        ap (λ (l : Messages). l ++ still_of left sender) (part_is ∙ (same_start part skips.passed rest (still_of left sender) e n).0) ∙ sym sending_is

    pub stands_on : (message' number : ℕ) (awaited : Bool) → message' ≡ message → number ≡ length accepted → awaited ≡ false
        → StandsBehind m left (record { outbox = new; message = message'; number = number; awaited = awaited; work = Sending sender }) accepted
    stands_on message' number awaited same_message counted no_wait = subst (λ (k : ℕ). StandsBehind m left (record { outbox = new; message = k; number = number; awaited = awaited; work = Sending sender }) accepted) (sym same_message) (record {
      count = not_awaited m tells left accepted (record { outbox = new; message = message; number = number; awaited = awaited; work = Sending sender }) no_wait counted;
      settled = settled_opened;
      work = subst (λ (b : List ℕ). SendsOn message left sender b (m.stands new).removed accepted) (sym bytes_now) (record {
        read = skips.read;
        reading = skips.reading;
        upto = record {
          before = u.before;
          part = u.part;
          all = u.all;
          number = u.number ∙ sym start_is;
          between = u.between;
          given = u.given;
          parts = sym passed_is;
          short = subst (λ (x : Sent). length u.part < cut_length message x.size) (sym sent_is) (omega (arith, less, ap length u.all, length-append u.before u.part, u.number));
        };
      });
    })

-- a file that is given up has changed
pub gives_up_for : (sent : Sent) (bytes : List ℕ) (result : Result Settled' DropFault) → GivesUpFor (IsToldOf sent) result → OnOk result (IsOther sent bytes) → GivesUpFor (IsToldOther sent bytes) result
gives_up_for sent bytes (Ok Ready) is other = tt
gives_up_for sent bytes (Ok (WasSent s)) is other = is
gives_up_for sent bytes (Ok (Renewed start name)) is other = (other, is)
gives_up_for sent bytes (Err fault) is other = tt

-- it ends before the messages that were accepted
pub ends_before : {F : Type 0} (left : F → Option (List ℕ)) (message : ℕ) (sent : Sent) (number : ℕ) (first : Sender F) (bytes : List ℕ) → 138 ≤ message → first.started ≡ false
    → still left first.reading ≡ map piece_message (pieces (message - 1) bytes) → length (still_of left first) < number - sent.start → number < sent.start + cut_length message sent.size → IsOther sent bytes
ends_before left message sent number first bytes room off all less short = λ same.
    let rest : length (still_of left first) ≡ length (sending message sent.name sent.size bytes) =
    ap length (not_begun left first off) ∙ ap (λ (l : Messages). length (start_message sent.name sent.size ∷ l)) all in
    omega (arith, less, short, rest, count_sending message sent.name sent.size bytes (omega (arith, room)), ap (cut_length message) same.0)
