-- How a dropper goes on behind messages that are accepted.
use Rattle.std.proofs.Common.{◌≡◌, ◌∙◌, ℕ, ◌+◌, ◌-◌, ◌<◌, ◌≤◌, Bool, true, false, if◌then◌else◌, List, [], ◌∷◌, ◌++◌, Option, None, Some, length, map, sym, ap, subst, arith, length-append}
use Rattle.file_messages.specs.Messages.{start_message, piece_message, end_message, abandon_message}
use Rattle.file_messages.specs.Files.{File, Between, files, state_after}
use Rattle.file_messages.specs.Cuts.{pieces}
use Rattle.folders.specs.Outboxes.{Dropping, Standing, Marked, Moves, Makes, Settled, Same, Is, MayBe, bytes_in, marked_opened, opened, with_mark}
use Rattle.folders.specs.declared.mark.Mark.{Mark}
use Rattle.file_dropper.specs.Leaving.{Fits, FitsMarked, Leaves, cut_length, sending}
use Rattle.file_dropper.specs.Readings.{HasRead, IsMeasure, still}
use Rattle.file_dropper.specs.Works.{IsAtRest, IsMarked, mark_of, stopped_mark_of, IsLawfulSent, IsOther, SendsPart, SendsOn, HasSent, still_of, bytes_of, GoesOn, StandsBehind, StandsNext, ahead}
use Rattle.file_dropper.specs.declared.dropper.Dropper.{Dropper}
use Rattle.file_dropper.specs.declared.answers.Next.{Next}
use Rattle.file_dropper.specs.declared.answers.Next.TheVariants as answers
use Rattle.std.specs.Prelude.{Result, Ok, Err, IsErr, OnOk}
use Rattle.file_dropper.specs.declared.answers.DropFault.{DropFault}
use Rattle.file_dropper.specs.declared.reading.Measure.{Measure}
use Rattle.file_dropper.specs.declared.work.Sent.{Sent}
use Rattle.file_dropper.specs.declared.work.Sender.{Sender}
use Rattle.file_dropper.specs.declared.work.Work.{Work}
use Rattle.file_dropper.specs.declared.work.Work.TheVariants.{GivingUp, Free, Sending, Ended}
use Rattle.file_dropper.proofs.Behind.{rest_fits, abandoned, sends_fit, sends_more, sends_end, sends_first, sent_fits}
use Rattle.file_dropper.proofs.Counting.{count_sending}
use Rattle.file_dropper.proofs.Outside.{leaves_none, leaves_then, leaves_is, leaves_maybe, settled_by}
use Rattle.file_dropper.proofs.Passing.{not_begun}

abbrev Messages : Type 0
Messages = List (List ℕ)

-- the marked file is this one
pub marked_fits : (message : ℕ) (sent : Sent) (marked : Option Marked) (removed : List File) (accepted rest : Messages) → 138 ≤ message → IsMarked (mark_of message sent) marked
    → SendsPart message sent (bytes_of marked) removed accepted rest → FitsMarked marked removed accepted
marked_fits message sent None removed accepted rest room is s = absurd is
marked_fits message sent (Some marked) removed accepted rest room is s =
    subst (λ (mark : Mark). FitsMarked (Some (record { mark = mark; bytes = marked.bytes })) removed accepted) (sym is) (sends_fit message sent marked.bytes removed accepted rest room s)

pub marked_sent_fits : (message : ℕ) (sent : Sent) (number : ℕ) (marked : Option Marked) (removed : List File) (accepted : Messages) → 138 ≤ message → IsLawfulSent number sent → IsMarked (mark_of message sent) marked
    → HasSent message sent (bytes_of marked) removed accepted → FitsMarked marked removed accepted
marked_sent_fits message sent number None removed accepted room lawful is s = absurd is
marked_sent_fits message sent number (Some marked) removed accepted room lawful is s =
    subst (λ (mark : Mark). FitsMarked (Some (record { mark = mark; bytes = marked.bytes })) removed accepted) (sym is) (sent_fits message sent number marked.bytes removed accepted room lawful s)

-- more messages come than its mark tells of
pub sends_past : (message : ℕ) (sent : Sent) (bytes : List ℕ) (removed : List File) (accepted rest : Messages) (given : List ℕ) → 138 ≤ message → SendsPart message sent bytes removed accepted (given ∷ rest)
    → sent.start + cut_length message sent.size ≤ length accepted + 1 → IsOther sent bytes
sends_past message sent bytes removed accepted rest given room s past = λ same.
    omega (
      arith,
      past,
      ap length s.all,
      length-append s.before s.part,
      s.number,
      ap length s.parts,
      length-append s.part (given ∷ rest),
      count_sending message sent.name sent.size bytes (omega (arith, room)),
      ap (cut_length message) same.0,
    )

module _ {O F : Type 0} (m : Dropping O) (tells : m.tells) (left : F → Option (List ℕ)) (accepted : Messages) where
  -- the number of what is next
  pub counted : (d : Dropper O F) → d.awaited ≡ false → ahead d ≡ length accepted → d.number ≡ length accepted
  counted d off is = sym (ap (λ b. if b then d.number + 1 else d.number) off) ∙ is

  pub not_awaited : (d : Dropper O F) → d.awaited ≡ false → d.number ≡ length accepted → ahead d ≡ length accepted
  not_awaited d off is = ap (λ b. if b then d.number + 1 else d.number) off ∙ is

  pub one_ahead : (number : ℕ) (given : List ℕ) → number ≡ length accepted → number + 1 ≡ length (accepted ++ given ∷ [])
  one_ahead number given is = omega (arith, is, length-append accepted (given ∷ []))

  -- a file is given up, and its mark says so before
  pub stops : (old new : O) (message number : ℕ) (sent : Sent) (given : List ℕ) → number ≡ length accepted → Settled m old → Fits accepted (m.stands old) → files accepted ≡ (m.stands old).removed
      → Moves m (MayBe (with_mark (stopped_mark_of sent))) old new → Makes m (with_mark (stopped_mark_of sent)) old new → given ≡ abandon_message
      → Leaves m accepted old new × StandsBehind m left (record { outbox = new; message = message; number = number; awaited = true; work = Free (Some sent.name) }) (accepted ++ given ∷ [])
  stops old new message number sent given is settled fits none moves makes abandons =
      let gives = abandoned (m.stands old).removed accepted none in
      let more : (files (accepted ++ given ∷ []) ≡ (m.stands old).removed) × (state_after Between (accepted ++ given ∷ []) ≡ Between) =
      subst (λ (x : List ℕ). (files (accepted ++ x ∷ []) ≡ (m.stands old).removed) × (state_after Between (accepted ++ x ∷ []) ≡ Between)) (sym abandons) gives in (
        leaves_maybe m tells accepted (with_mark (stopped_mark_of sent)) old new settled moves fits none,
        record {
          count = one_ahead number given is;
          settled = makes.settled;
          work = (more.0 ∙ sym (ap (λ (s : Standing). s.removed) (makes.stands tells)), more.1);
        },
      )

  -- a message of a file is given
  pub gives_message : (o : O) (message number : ℕ) (old new : Sender F) (read given : List ℕ) → number ≡ length accepted → Settled m o
      → SendsOn message left old (bytes_of (m.stands o).marked) (m.stands o).removed accepted → new.sent ≡ old.sent
      → HasRead left new.reading (bytes_of (m.stands o).marked) read → still_of left old ≡ given ∷ still_of left new → number + 1 < old.sent.start + cut_length message old.sent.size
      → StandsBehind m left (record { outbox = o; message = message; number = number; awaited = true; work = Sending new }) (accepted ++ given ∷ [])
  gives_message o message number old new read given is settled on same has gives less =
      let upto = subst (SendsPart message old.sent (bytes_of (m.stands o).marked) (m.stands o).removed accepted) gives on.upto in
      let more = sends_more message old.sent (bytes_of (m.stands o).marked) (m.stands o).removed accepted (still_of left new) given upto (omega (arith, less, is)) in
      record {
        count = one_ahead number given is;
        settled = settled;
        work = record {
          read = read;
          reading = has;
          upto = subst (λ (x : Sent). SendsPart message x (bytes_of (m.stands o).marked) (m.stands o).removed (accepted ++ given ∷ []) (still_of left new)) (sym same) more;
        };
      }

  -- the end of a file is given
  pub gives_end : (o : O) (message number : ℕ) (sent : Sent) (measure : Measure) (given : List ℕ) → number ≡ length accepted → Settled m o
      → SendsPart message sent (bytes_of (m.stands o).marked) (m.stands o).removed accepted [] → IsMeasure measure (bytes_of (m.stands o).marked)
      → (measure.size ≡ sent.size) × (measure.digest ≡ sent.digest) → given ≡ end_message sent.digest
      → StandsBehind m left (record { outbox = o; message = message; number = number; awaited = true; work = Ended sent }) (accepted ++ given ∷ [])
  gives_end o message number sent measure given is settled upto measured same ends = record {
    count = one_ahead number given is;
    settled = settled;
    work = subst (λ (x : List ℕ). HasSent message sent (bytes_of (m.stands o).marked) (m.stands o).removed (accepted ++ x ∷ [])) (sym ends)
        (sends_end message sent (bytes_of (m.stands o).marked) (m.stands o).removed accepted upto (sym measured.0 ∙ same.0) (sym measured.1 ∙ same.1));
  }

  -- a message was given, and nothing happened in the folder
  pub gave : (old new d : Dropper O F) (given : List ℕ) (changed : ℕ → List ℕ → Type 0) (next : Next) (number : ℕ) → new ≡ d → next ≡ answers.Message number → d.outbox ≡ old.outbox → StandsBehind m left d (accepted ++ given ∷ [])
      → Leaves m accepted old.outbox new.outbox × StandsNext m left new accepted given changed (Ok next)
  gave old new d given changed next number is message same stands = (
    subst (λ (o : O). Leaves m accepted old.outbox o) (sym (ap (λ (x : Dropper O F). x.outbox) is ∙ same)) (leaves_none m tells accepted old.outbox),
    subst (λ (n : Next). StandsNext m left new accepted given changed (Ok n)) (sym message) (subst (λ (x : Dropper O F). StandsBehind m left x (accepted ++ given ∷ [])) (sym is) stands),
  )

-- a file that may have begun is given up
module _ {O F : Type 0} (m : Dropping O) (tells : m.tells) (left : F → Option (List ℕ)) (accepted : Messages) (d : Dropper O F) where
  pub gives_up : (name : Option (List ℕ)) (given : List ℕ) → d.work ≡ GivingUp name → d.awaited ≡ false → given ≡ abandon_message → StandsBehind m left d accepted
      → StandsBehind m left (record d { work = Free name; awaited = true }) (accepted ++ given ∷ [])
  gives_up name given work off abandons stands =
      let none : files accepted ≡ (m.stands d.outbox).removed = subst (λ (w : Work F). GoesOn d.message left w (m.stands d.outbox) accepted) work stands.work in
      record {
        count = one_ahead m tells left accepted d.number given (counted m tells left accepted d off stands.count);
        settled = stands.settled;
        work = subst (λ (x : List ℕ). (files (accepted ++ x ∷ []) ≡ (m.stands d.outbox).removed) × (state_after Between (accepted ++ x ∷ []) ≡ Between)) (sym abandons) (abandoned (m.stands d.outbox).removed accepted none);
      }

-- nothing is given
pub next_err : {O F : Type 0} (m : Dropping O) (left : F → Option (List ℕ)) (new : Dropper O F) (accepted : Messages) (given : List ℕ) (changed : ℕ → List ℕ → Type 0) (result : Result Next DropFault) → IsErr result → StandsNext m left new accepted given changed result
next_err m left new accepted given changed (Ok next) err = cc
next_err m left new accepted given changed (Err fault) err = tt

-- .. where what a given up file says is weaker
pub next_weaker : {O F : Type 0} (m : Dropping O) (left : F → Option (List ℕ)) (new : Dropper O F) (accepted : Messages) (given : List ℕ) (P Q : ℕ → List ℕ → Type 0) (result : Result Next DropFault) → ((start : ℕ) (name : List ℕ) → P start name → Q start name)
    → StandsNext m left new accepted given P result → StandsNext m left new accepted given Q result
next_weaker m left new accepted given P Q (Ok answers.Idle) to is = is
next_weaker m left new accepted given P Q (Ok (answers.Message number)) to is = is
next_weaker m left new accepted given P Q (Ok (answers.Again number start name)) to is = (is.0, to start name is.1)
next_weaker m left new accepted given P Q (Err fault) to is = tt

pub on_weaker : {T E : Type 0} (result : Result T E) (P Q : Type 0) → OnOk result P → (P → Q) → OnOk result Q
on_weaker (Ok x) P Q is to = to is
on_weaker (Err e) P Q is to = tt

pub on_err : {T E : Type 0} (P : Type 0) (result : Result T E) → IsErr result → OnOk result P
on_err P (Ok x) err = cc
on_err P (Err e) err = tt

-- ---- a file begins ----

rest_opened : (name : Option (List ℕ)) (bytes : List ℕ) (marked : Option Marked) → IsAtRest name marked → IsAtRest name (marked_opened bytes marked)
rest_opened None bytes None rest = rest
rest_opened None bytes (Some marked) rest = rest
rest_opened (Some name) bytes None rest = rest
rest_opened (Some name) bytes (Some marked) rest = rest

module _ {O : Type 0} (m : Dropping O) (tells : m.tells) (accepted : Messages) (old : O) (settled : Settled m old) (name : Option (List ℕ)) (rest : IsAtRest name (m.stands old).marked)
    (gives : files accepted ≡ (m.stands old).removed) where
  pub rest_fits_now : Fits accepted (m.stands old)
  rest_fits_now = rest_fits name (m.stands old).marked (m.stands old).removed accepted rest gives

  pub leaves_same : (new : O) → Moves m Same old new → Leaves m accepted old new
  leaves_same new moves = leaves_is m tells accepted (λ s. s) old new settled moves rest_fits_now

  module _ (mid : O) (bytes : List ℕ) (opens : Moves m (Is (opened bytes)) old mid) where
    opened_fits : Fits accepted (opened bytes (m.stands old))
    opened_fits = rest_fits name (marked_opened bytes (m.stands old).marked) (m.stands old).removed accepted (rest_opened name bytes (m.stands old).marked rest) gives

    pub leaves_opened : Leaves m accepted old mid
    leaves_opened = leaves_is m tells accepted (opened bytes) old mid settled opens opened_fits

    pub settled_opened : Settled m mid
    settled_opened = settled_by m tells accepted (opened bytes) old mid settled opens

    fits_mid : Fits accepted (m.stands mid)
    fits_mid = subst (Fits accepted) (sym (opens.stands tells)) opened_fits

    module _ (message : ℕ) (sent : Sent) (room : 138 ≤ message) (number : length accepted ≡ sent.start) (between : state_after Between accepted ≡ Between) where
      -- of any bytes
      begun_fits : (bytes : List ℕ) → FitsMarked (Some (record { mark = mark_of message sent; bytes = bytes })) (m.stands old).removed accepted
      begun_fits bytes = sends_fit message sent bytes (m.stands old).removed accepted (sending message sent.name sent.size bytes) room (sends_first message sent bytes (m.stands old).removed accepted number between gives)

      removed_mid : (m.stands mid).removed ≡ (m.stands old).removed
      removed_mid = ap (λ (s : Standing). s.removed) (opens.stands tells)

      marked_now : Fits accepted (with_mark (mark_of message sent) (m.stands mid))
      marked_now = subst (λ (r : List File). FitsMarked (Some (record { mark = mark_of message sent; bytes = bytes_in (m.stands mid).marked })) r accepted) (sym removed_mid) (begun_fits (bytes_in (m.stands mid).marked))

      module _ (next : O) (marks : Moves m (MayBe (with_mark (mark_of message sent))) mid next) where
        pub leaves_marked : Leaves m accepted old next
        leaves_marked = leaves_then m tells accepted old mid next leaves_opened (leaves_maybe m tells accepted (with_mark (mark_of message sent)) mid next settled_opened marks fits_mid marked_now)

        module _ (makes : Makes m (with_mark (mark_of message sent)) mid next) where
          pub leaves_marked_same : (new : O) → Moves m Same next new → Leaves m accepted old new
          leaves_marked_same new moves =
              leaves_then m tells accepted old next new leaves_marked
              (leaves_is m tells accepted (λ s. s) next new makes.settled moves (subst (Fits accepted) (sym (makes.stands tells)) marked_now))

          module _ (new : O) (whole : List ℕ) (reopens : Moves m (Is (opened whole)) next new) where
            stands_new : m.stands new ≡ opened whole (with_mark (mark_of message sent) (m.stands mid))
            stands_new = reopens.stands tells ∙ ap (opened whole) (makes.stands tells)

            fits_new : Fits accepted (opened whole (m.stands next))
            fits_new =
                subst (λ (s : Standing). Fits accepted (opened whole s)) (sym (makes.stands tells))
                (subst (λ (r : List File). FitsMarked (Some (record { mark = mark_of message sent; bytes = whole })) r accepted) (sym removed_mid) (begun_fits whole))

            pub leaves_begun : Leaves m accepted old new
            leaves_begun = leaves_then m tells accepted old next new leaves_marked (leaves_is m tells accepted (opened whole) next new makes.settled reopens fits_new)

            pub stands_begun : {F : Type 0} (left : F → Option (List ℕ)) (sender : Sender F) → sender.sent ≡ sent → sender.started ≡ false → HasRead left sender.reading whole []
                → still left sender.reading ≡ map piece_message (pieces (message - 1) whole) → (message' number' : ℕ) (awaited : Bool) → message' ≡ message → number' ≡ length accepted → awaited ≡ false
                → StandsBehind m left (record { outbox = new; message = message'; number = number'; awaited = awaited; work = Sending sender }) accepted
            stands_begun {F = F} left sender is first has all message' number' awaited same count off = subst (λ (k : ℕ). StandsBehind m left (record { outbox = new; message = k; number = number'; awaited = awaited; work = Sending sender }) accepted) (sym same) (record {
              count = not_awaited m tells left accepted (record { outbox = new; message = message; number = number'; awaited = awaited; work = Sending sender }) off count;
              settled = settled_by m tells accepted (opened whole) next new makes.settled reopens;
              work = subst (λ (s : Standing). SendsOn message left sender (bytes_of s.marked) s.removed accepted) (sym stands_new) (record {
                read = [];
                reading = has;
                upto =
                    subst (SendsPart message sender.sent whole (m.stands mid).removed accepted) (sym (not_begun left sender first ∙ ap (λ (l : Messages). start_message sender.sent.name sender.sent.size ∷ l) all))
                    (sends_first message sender.sent whole (m.stands mid).removed accepted (number ∙ ap (λ (x : Sent). x.start) (sym is)) between (gives ∙ sym removed_mid));
              });
            })
