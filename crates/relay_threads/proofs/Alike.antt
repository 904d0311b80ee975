-- A look as a record tells it is the same step of the low process as the look that was made.
use Rattle.std.proofs.Common.{◌≡◌, ℕ, ◌+◌, Bool, true, false, Option, Some, None, refl, ap}
use Rattle.std.specs.Prelude.{if◌then◌else◌, ◌&&◌, nat_le}
use Rattle.pump_frame.specs.declared.frame.Frame.{Frame}
use Rattle.pump_frame.specs.declared.row.SessionRow.{SessionRow}
use Rattle.pump_core.specs.declared.feedback.Feedback.{Feedback}
use Rattle.pump_core.specs.Phases.{Phase}
use Rattle.pump_core.specs.Phases.{Idle, Passing, Waiting as Waits, Down}
use Rattle.pump_core.specs.History.{Arrival, Look}
use Rattle.pump_core.specs.History.{Nothing, Came, Bad, Gone}
use Rattle.pump_core.specs.Exchanges.{is_gone, is_repeat, is_next, is_hello, permits_frame, due}
use Rattle.pump_core.specs.Replies.{welcome, refusal, acknowledgement, answer}
use Rattle.pump_core.specs.Step.{after_in, reply_in, takes_in, fits_in}
use Rattle.pump_core.specs.Standing.{State}
use Rattle.pump_core.proofs.MayTake.{is_idle}
use Rattle.low_process.specs.Looks.{look_of}
use Rattle.script_reader.specs.Alone.{comes_next}
use Rattle.relay_threads.specs.RecordLines.{tells_fault, without_ports}

-- ---- a frame is taken ----

abbrev reply_by : SessionRow → Bool → Bool → Bool → Option Frame → Option Frame
reply_by row again next d other = if again then None else if next then (if d then Some (refusal row 5 0) else None) else other

same_state : (row : SessionRow) (again next d : Bool) (waits down stored other : State) (r : Option Frame)
    → (if again then waits else if next then (if tells_fault (reply_by row again next d r) then down else stored) else other)
    ≡ (if again then waits else if next then (if d then down else stored) else other)
same_state row true next d waits down stored other r = refl
same_state row false false d waits down stored other r = refl
same_state row false true true waits down stored other r = refl
same_state row false true false waits down stored other r = refl

same_answer : (row : SessionRow) (again next d : Bool) (r : Option Frame) → reply_by row again next (tells_fault (reply_by row again next d r)) r ≡ reply_by row again next d r
same_answer row true next d r = refl
same_answer row false false d r = refl
same_answer row false true true r = refl
same_answer row false true false r = refl

-- an answer at once is no failure of the device
fine_by : (row : SessionRow) (count : ℕ) (hello permitted early long ahead : Bool)
    → tells_fault (if hello then (if permitted then Some (welcome row count) else Some (refusal row 1 0)) else if early then Some (refusal row 2 0) else if long then Some (refusal row 3 0) else if ahead then Some (refusal row 4 count) else None) ≡ false
fine_by row count true true early long ahead = refl
fine_by row count true false early long ahead = refl
fine_by row count false permitted true long ahead = refl
fine_by row count false permitted false true ahead = refl
fine_by row count false permitted false false true = refl
fine_by row count false permitted false false false = refl

answers_fine : (row : SessionRow) (count : ℕ) (greeted : Bool) (f : Frame) → tells_fault (answer row count greeted (Came f)) ≡ false
answers_fine row count greeted f = fine_by row count _ _ _ _ _

fails_next : (row : SessionRow) (again next d : Bool) (r : Option Frame) → tells_fault r ≡ false → tells_fault (reply_by row again next d r) ≡ true → next ≡ true
fails_next row again true d r fine e = refl
fails_next row true false d r fine e = absurd (cc)
fails_next row false false d r fine e = absurd (cc)

fails_down : (row : SessionRow) (again next d : Bool) (waits down stored other : State) (r : Option Frame) → tells_fault r ≡ false → tells_fault (reply_by row again next d r) ≡ true
    → (if again then waits else if next then (if d then down else stored) else other) ≡ down
fails_down row true next d waits down stored other r fine e = absurd (cc)
fails_down row false false d waits down stored other r fine e = absurd (cc)
fails_down row false true true waits down stored other r fine e = refl
fails_down row false true false waits down stored other r fine e = absurd (cc)

late_fine : (late : Bool) (row : SessionRow) (n : ℕ) → tells_fault (if late then Some (acknowledgement row n) else None) ≡ true → ⊥
late_fine true row n e = cc
late_fine false row n e = cc

-- ---- a look ----

module _ (row : SessionRow) (s : State) (m w : ℕ) (d : Bool) (f : Feedback) where
  -- the row of a script has no ports
  abbrev bare : SessionRow
  bare = without_ports row

  abbrev made : Arrival → Look
  made a = look_of m w a d f

  -- the same step
  pub record Same (x x' : Look) (ph : Phase) : Type 0 where
    pub fits : fits_in bare s x' ph ≡ true
    pub after : after_in bare s x' ph ≡ after_in row s x ph
    pub reply : reply_in bare s x' ph ≡ reply_in row s x ph
    pub takes : takes_in x' ph ≡ takes_in x ph
    pub store : tells_fault (reply_in row s x ph) ≡ true → (is_idle ph && comes_next bare s.next s.greeted x'.arrival) ≡ true

  -- the connection is lost: the word plays no part
  pub same_gone : (d' : Bool) (ph : Phase) → fits_in row s (made Gone) ph ≡ true → Same (made Gone) (look_of m 0 Gone d' f) ph
  same_gone d' Down fit = record { fits = fit; after = refl; reply = refl; takes = refl; store = λ e. absurd (cc) }
  same_gone d' (Waits n at) fit = record { fits = fit; after = refl; reply = refl; takes = refl; store = λ e. absurd (cc) }
  same_gone d' (Passing owed) fit = record { fits = fit; after = refl; reply = refl; takes = refl; store = λ e. absurd (cc) }
  same_gone d' Idle fit = record { fits = fit; after = refl; reply = refl; takes = refl; store = λ e. absurd (cc) }

  -- the look is offered what it took alone, and the device fails where the reply says so
  abbrev pub told : Arrival → Phase → Look
  told a ph = look_of m w (if takes_in (made a) ph then a else Nothing) (tells_fault (reply_in row s (made a) ph)) f

  same_passing : (owed : Option ℕ) (a : Arrival) → is_gone a ≡ false → fits_in row s (made a) (Passing owed) ≡ true → Same (made a) (told a (Passing owed)) (Passing owed)
  same_passing None Gone stays fit = absurd (cc)
  same_passing (Some n) Gone stays fit = absurd (cc)
  same_passing None Nothing stays fit = record { fits = fit; after = refl; reply = refl; takes = refl; store = λ e. absurd (cc) }
  same_passing (Some n) Nothing stays fit = record { fits = fit; after = refl; reply = refl; takes = refl; store = λ e. absurd (cc) }
  same_passing None Bad stays fit = record { fits = fit; after = refl; reply = refl; takes = refl; store = λ e. absurd (cc) }
  same_passing (Some n) Bad stays fit = record { fits = fit; after = refl; reply = refl; takes = refl; store = λ e. absurd (cc) }
  same_passing None (Came g) stays fit = record { fits = fit; after = refl; reply = refl; takes = refl; store = λ e. absurd (cc) }
  same_passing (Some n) (Came g) stays fit = record { fits = fit; after = refl; reply = refl; takes = refl; store = λ e. absurd (cc) }

  same_waiting : (n at : ℕ) (a : Arrival) → is_gone a ≡ false → fits_in row s (made a) (Waits n at) ≡ true → Same (made a) (told a (Waits n at)) (Waits n at)
  same_waiting n at Gone stays fit = absurd (cc)
  same_waiting n at Nothing stays fit = record { fits = fit; after = refl; reply = refl; takes = refl; store = λ e. absurd (late_fine (nat_le at m) row n e) }
  same_waiting n at Bad stays fit = record { fits = fit; after = refl; reply = refl; takes = refl; store = λ e. absurd (late_fine (nat_le at m) row n e) }
  same_waiting n at (Came g) stays fit = record { fits = fit; after = refl; reply = refl; takes = refl; store = λ e. absurd (late_fine (nat_le at m) row n e) }

  same_idle : (a : Arrival) → is_gone a ≡ false → fits_in row s (made a) Idle ≡ true → Same (made a) (told a Idle) Idle
  same_idle Gone stays fit = absurd (cc)
  same_idle Nothing stays fit = record { fits = fit; after = refl; reply = refl; takes = refl; store = λ e. absurd (cc) }
  same_idle Bad stays fit = record { fits = fit; after = refl; reply = refl; takes = refl; store = λ e. absurd (cc) }
  same_idle (Came g) stays fit =
      let again = is_repeat row s.next s.greeted g in
      let next = is_next row s.next s.greeted g in
      let r = answer row s.next s.greeted (Came g) in
      record {
        fits = fit;
        after = same_state row again next d (record s { phase = Waits g.number (due row (made (Came g))) }) (record s { phase = Down }) (record s { next = s.next + 1; phase = Passing (Some g.number) }) (record s { greeted = if is_hello g.kind then permits_frame row g else s.greeted }) r;
        reply = same_answer row again next d r;
        takes = refl;
        store = λ e. fails_next row again next d r (answers_fine row s.next s.greeted g) e;
      }

  pub same_told : (ph : Phase) (a : Arrival) → is_gone a ≡ false → fits_in row s (made a) ph ≡ true → Same (made a) (told a ph) ph
  same_told Down a stays fit = record { fits = fit; after = refl; reply = refl; takes = refl; store = λ e. absurd (cc) }
  same_told (Waits n at) a stays fit = same_waiting n at a stays fit
  same_told (Passing owed) a stays fit = same_passing owed a stays fit
  same_told Idle a stays fit = same_idle a stays fit

  -- where the device failed, the process is down
  pub down_after : (ph : Phase) (a : Arrival) → tells_fault (reply_in row s (made a) ph) ≡ true → (after_in row s (made a) ph).phase ≡ Down
  down_after Down a e = absurd (cc)
  down_after (Passing owed) a e = absurd (cc)
  down_after (Waits n at) Gone e = absurd (cc)
  down_after (Waits n at) Nothing e = absurd (late_fine (nat_le at m) row n e)
  down_after (Waits n at) Bad e = absurd (late_fine (nat_le at m) row n e)
  down_after (Waits n at) (Came g) e = absurd (late_fine (nat_le at m) row n e)
  down_after Idle Nothing e = absurd (cc)
  down_after Idle Bad e = absurd (cc)
  down_after Idle Gone e = absurd (cc)
  down_after Idle (Came g) e =
      let r = answer row s.next s.greeted (Came g) in
      ap (λ (t : State). t.phase)
      (fails_down row (is_repeat row s.next s.greeted g) (is_next row s.next s.greeted g) d (record s { phase = Waits g.number (due row (made (Came g))) }) (record s { phase = Down }) (record s { next = s.next + 1; phase = Passing (Some g.number) })
      (record s { greeted = if is_hello g.kind then permits_frame row g else s.greeted }) r (answers_fine row s.next s.greeted g) e)
