-- A look of the code that is answered by what a script tells is a look of its past.
use Rattle.std.proofs.Common.{◌≡◌, ℕ, ◌≤◌, Bool, true, false, List, ◌∷◌, ◌++◌, drop, Option, Some, None, refl, sym, ap, ◌∙◌, subst, arith}
use Rattle.std.specs.Result.{result_err}
use Rattle.std.specs.Prelude.{if◌then◌else◌, not, ◌&&◌, ◌||◌}
use Rattle.disk_model.specs.Plain.{Plain, plain_meaning}
use Rattle.pump_frame.specs.declared.row.SessionRow.{SessionRow}
use Rattle.pump_frame.specs.declared.frame.Frame.{Frame}
use Rattle.pump_frame.specs.Rows.{IsLawfulRow}
use Rattle.pump_core.specs.History.{Arrival}
use Rattle.pump_core.specs.History.{Look, Opening, looked}
use Rattle.pump_core.specs.Exchanges.{Part, IsCut}
use Rattle.pump_core.specs.Replies.{sent, takes, stores}
use Rattle.pump_core.specs.Step.{FeedbackFits}
use Rattle.pump_core.specs.Standing.{StandsAt, end_of}
use Rattle.low_process.specs.Storing.{wants, message_in, StoreStep}
use Rattle.low_process.specs.Whole.{HasStore}
use Rattle.low_process.specs.declared.process.LowProcess.{LowProcess}
use Rattle.low_process.specs.declared.values.LowLook.{LowLook}
use Rattle.stable_buffer.specs.declared.low.LowStore.{LowStore}
use Rattle.low_process.specs.Looks.{row_of, last_of, state_of, is_down, look_of, StandsFor, Looks}
use Rattle.stable_buffer.specs.Stands.{low_size}
use Rattle.script_reader.specs.declared.event.Event.{Event}
use Rattle.script_reader.specs.declared.line.ToldFeedback.{ToldFeedback}
use Rattle.script_reader.specs.Lows.{is_bad, printed_store, printed_feedback, printed_replies}
use Rattle.script_reader.specs.Alone.{PastAlone, begins_store, told_feedback, IsToldLook, IsToldAt}
use Rattle.two_worlds.specs.Connections.{waits_of, is_broken_of, reading_of}
use Rattle.two_worlds.specs.Printing.{printed_reply, look_prints}
use Rattle.two_worlds.specs.LowPumpParts.{disk_of, PartsStand, EndsBy}
use Rattle.two_worlds.specs.Private.LowLooks.{stop_of}
use Rattle.two_worlds.specs.declared.applied.Stop.{Stop}
use Rattle.two_worlds.specs.declared.low_pump.parts.LowPumpParts.{LowPumpParts}
use Rattle.pump_core.proofs.CutsFit.{cuts_fit}
use Rattle.two_worlds.proofs.Low.Serves.{stop_by}
use Rattle.two_worlds.proofs.Low.Stepping.{lives_reply}
use Rattle.script_reader.proofs.Hearing.{Hears, told_is}
use Rattle.two_worlds.proofs.Told.Stores.{Serves, serves, begins_is}

-- a whole look of a process over its store, in which the disk failed or not
pub record ToldStep (row : SessionRow) (p q : LowProcess) (old new : LowStore Plain) (m w : ℕ) (a : Arrival)
    (told : ToldFeedback) (is_fault : Bool) (l : LowLook) : Type 0 where
  pub looks : Looks (StandsFor p) q (row_of p) (look_of m w a is_fault l.feedback) l
  pub hears : Hears row told l.feedback
  pub keeps : StoreStep plain_meaning (message_in p a) old new is_fault
  pub falls : is_down q ≡ (is_down p || is_fault)
  pub store : HasStore plain_meaning q new
  pub row_is : row_of q ≡ row_of p
  pub last : last_of q ≡ m

prints_reply : (session m w : ℕ) (a : Arrival) (d : Bool) (l : LowLook) (r : Option Frame) → printed_reply session m r ≡ printed_replies session (sent (look_of m w a d l.feedback) r)
prints_reply session m w a d l None = refl
prints_reply session m w a d l (Some r) = refl

-- what a look leaves of the connection; its moment is the last one
pub record Settles (c d : LowPumpParts) (m : ℕ) (a : Arrival) (l : LowLook) : Type 0 where
  pub waits : waits_of d.connection ≡ (if l.taken then drop 1 (waits_of c.connection) else waits_of c.connection)
  pub broken : is_broken_of d.connection ≡ (is_broken_of c.connection || (l.taken && is_bad a))
  pub reading : reading_of d.connection ≡ reading_of c.connection
  pub row : d.row ≡ c.row
  pub moment : d.moment ≡ m

module _ (c d : LowPumpParts) (p : PastAlone) (m w : ℕ) (a : Arrival) (told : ToldFeedback) (is_fault : Bool) (l : LowLook)
    (was : PartsStand c p) (step : ToldStep c.row c.process d.process c.store d.store m w a told is_fault l) (settles : Settles c d m a l) where
  abbrev row : SessionRow
  row = row_of c.process

  abbrev x : Look
  x = look_of m w a is_fault l.feedback

  abbrev o : Opening
  o = p.history.life.opening

  abbrev at : StandsAt row (state_of c.process) (last_of c.process) p.history
  at = was.history.stands

  -- the process stands for the history with the look
  abbrev stood : StandsFor d.process (looked p.history x)
  stood = step.looks.history p.history was.history

  abbrev after : List Part
  after = stood.stands.parts

  cut_with : IsCut row (looked p.history x).life after
  cut_with = subst (λ (r : SessionRow). IsCut r (looked p.history x).life after) step.row_is stood.stands.cut

  fits : FeedbackFits row (end_of row o at.parts) x
  fits = cuts_fit row o x at.parts after at.cut.are_parts cut_with.are_parts (sym cut_with.looks ∙ ap (λ looks. x ∷ looks) at.cut.looks)

  feedback : x.feedback ≡ told_feedback row o at.parts told a
  feedback = told_is row o at.parts told x fits (subst (λ (r : SessionRow). Hears r told l.feedback) (sym was.of_row) step.hears)

  taken : l.taken ≡ takes after
  taken = step.looks.taken p.history after was.history cut_with

  begins : begins_store row o at.parts a ≡ wants c.process a
  begins = begins_is c.process o at.parts a at.state

  served : Serves (wants c.process a) (disk_of c) (disk_of d) is_fault
  served = serves c.process c.store d.store is_fault was.store (subst (λ (r : SessionRow). low_size r ≤ (disk_of c).room) (sym was.of_row) was.room) a step.keeps

  abbrev q : PastAlone
  q = record {
    history = looked p.history x;
    waits = if takes after then drop 1 p.waits else p.waits;
    is_broken = p.is_broken || (takes after && is_bad a);
    reading = p.reading;
    is_armed = not (begins_store row o at.parts a) && p.is_armed;
    moment = m;
  }

  prints : look_prints row.id m l ≡ printed_store row.id m (stores after) ++ (printed_feedback row.id m l.feedback ++ printed_replies row.id (sent x l.reply))
  prints =
      ap (λ st. printed_store row.id m st ++ (printed_feedback row.id m l.feedback ++ printed_reply row.id m l.reply)) (step.looks.stored p.history after was.history cut_with)
      ∙ ap (λ k. printed_store row.id m (stores after) ++ (printed_feedback row.id m l.feedback ++ k)) (prints_reply row.id m w a is_fault l l.reply)

  is_look : IsToldLook row p told x q (look_prints row.id m l)
  is_look =
      let rs = lives_reply row (p.history.life ∷ p.history.earlier) ((at.parts, at.cut), at.earlier) in
      record {
        before = at.parts;
        cut = at.cut;
        after = after;
        cut_with = cut_with;
        replies = rs.0;
        are_replies = rs.1;
        new = sent x l.reply;
        are_replies_with = step.looks.replies p.history rs.0 was.history rs.1;
        feedback = feedback;
        outcome = served.outcome_is ∙ ap (λ (t : Bool × Bool). t.0 && t.1) (λ i. (sym begins i, was.armed i));
        history = refl;
        waits = refl;
        broken = refl;
        reading = refl;
        armed = refl;
        moment = refl;
        printed_is = prints;
      }

  looks : IsToldAt c.row p m w told a is_fault q (look_prints c.row.id m l)
  looks = (l.feedback, subst (λ (r : SessionRow). IsToldLook r p told x q (look_prints r.id m l)) was.of_row is_look)

  falls : is_down d.process ≡ is_fault
  falls = step.falls ∙ ap (λ b. b || is_fault) was.up

  stands : is_fault ≡ false → PartsStand d q
  stands fine =
      let up : is_down d.process ≡ false = falls ∙ fine in
      record {
        row = subst IsLawfulRow (sym settles.row) was.row;
        history = stood;
        waits = settles.waits ∙ ap (λ (t : Bool × List Arrival). if t.0 then drop 1 t.1 else t.1) (λ i. (taken i, was.waits i));
        broken = settles.broken ∙ ap (λ (t : Bool × Bool). t.0 || (t.1 && is_bad a)) (λ i. (was.broken i, taken i));
        reading = settles.reading ∙ was.reading;
        moment = settles.moment;
        last = let e = step.last in let f = settles.moment in omega (arith, e, f);
        of_row = step.row_is ∙ was.of_row ∙ sym settles.row;
        up = up;
        store = step.store up;
        armed = served.armed ∙ ap (λ (t : Bool × Bool). not t.0 && t.1) (λ i. (sym begins i, was.armed i));
        room = subst (λ (t : SessionRow × ℕ). low_size t.0 ≤ t.1) (λ i. (sym settles.row i, sym served.room i)) was.room;
      }

  -- ---- how the line ends ----

  abbrev Does : Bool → PastAlone → List Event → Type 0
  Does fault v printed = IsToldAt c.row p m w told a fault v printed

  does : (b : Bool) → is_fault ≡ b → Does b q (look_prints c.row.id m l)
  does b e = subst (λ (fault : Bool). Does fault q (look_prints c.row.id m l)) e looks

  by_fault : (b : Bool) → is_fault ≡ b → EndsBy ⊥ Does c d (look_prints c.row.id m l) (result_err (stop_by b (disk_of d).faults))
  by_fault true e = ((q, does true e), falls ∙ e, refl)
  by_fault false e = (q, does false e, stands e)

  pub look_ends : (events : List Event) (stop : Option Stop) → events ≡ look_prints c.row.id m l → stop ≡ result_err (stop_of plain_meaning d.process d.store) → EndsBy ⊥ Does c d events stop
  look_ends events stop prints_so stops_so =
      subst (λ (t : List Event × Option Stop). EndsBy ⊥ Does c d t.0 t.1) (λ i. (sym prints_so i, sym stops_so i)) (by_fault (is_down d.process) (sym falls))
