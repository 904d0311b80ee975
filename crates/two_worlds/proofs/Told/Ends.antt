-- From what the parts of the code did in a look of a low side alone to how its line ends.
use Rattle.std.proofs.Common.{◌≡◌, ℕ, Bool, true, false, List, drop, Option, refl, sym, ap, ◌∙◌, subst}
use Rattle.std.specs.Result.{result_err}
use Rattle.std.specs.Prelude.{if◌then◌else◌, ◌&&◌, ◌||◌}
use Rattle.disk_model.specs.Plain.{Plain, plain_meaning}
use Rattle.pump_frame.specs.declared.row.SessionRow.{SessionRow}
use Rattle.pump_core.specs.declared.feedback.Feedback.{Feedback}
use Rattle.pump_core.specs.History.{Arrival}
use Rattle.pump_core.specs.History.{Gone}
use Rattle.stable_buffer.specs.declared.low.LowStore.{LowStore}
use Rattle.low_process.specs.declared.process.LowProcess.{LowProcess}
use Rattle.low_process.specs.declared.values.Answer.{Answer}
use Rattle.low_process.specs.declared.values.Answer.TheVariants as answers
use Rattle.low_process.specs.declared.values.Ask.{Ask}
use Rattle.low_process.specs.declared.values.Ask.TheVariants.{Done, Forward, Average}
use Rattle.low_process.specs.declared.values.LowLook.{LowLook}
use Rattle.low_process.specs.Looks.{row_of, last_of, is_down, owes, look_of, StandsFor, AsksFor, Tells, HandBegins}
use Rattle.low_process.specs.Whole.{HasStore, BeginStep}
use Rattle.low_process.proofs.Looking.{look_from}
use Rattle.script_reader.specs.declared.event.Event.{Event}
use Rattle.script_reader.specs.declared.line.ToldFeedback.{ToldFeedback}
use Rattle.script_reader.specs.declared.line.ToldFeedback.TheVariants.{Quiet, Full, Pair}
use Rattle.script_reader.specs.Lows.{first_of, is_bad}
use Rattle.script_reader.specs.Alone.{PastAlone, told_of_read, IsToldAt}
use Rattle.two_worlds.specs.Connections.{Connected, waits_of, is_broken_of, reading_of, unused, offered_by, settled}
use Rattle.two_worlds.specs.Printing.{look_prints}
use Rattle.two_worlds.specs.LowPumpParts.{PartsStand, Finishes, AnsweredBy, answer_of, EndsBy}
use Rattle.two_worlds.specs.Private.LowLooks.{stop_of}
use Rattle.two_worlds.specs.declared.applied.Stop.{Stop}
use Rattle.two_worlds.specs.declared.low_pump.parts.LowPumpParts.{LowPumpParts}
use Rattle.script_reader.proofs.Hearing.{Hears}
use Rattle.two_worlds.proofs.Told.Looks.{ToldStep, Settles, look_ends}

-- ---- a whole look of the process ----

offer_hears : (row : SessionRow) (told : ToldFeedback) (owed : Bool) (f : Feedback) → Tells owed (answer_of told) f → Hears row told f
offer_hears row Quiet owed f e = subst (Hears row Quiet) (sym e) refl
offer_hears row Full owed f e = subst (Hears row Full) (sym e) refl
offer_hears row (Pair count average) true f e = subst (Hears row (Pair count average)) (sym e) refl
offer_hears row (Pair count average) false f e = subst (Hears row (Pair count average)) (sym e) refl

read_hears : (row : SessionRow) (told : ToldFeedback) (owed : Bool) (f : Feedback) → Tells owed (answers.Average (told_of_read row told)) f → Hears row told f
read_hears row told owed f e = subst (Hears row told) (sym e) refl

module _ (row : SessionRow) (told : ToldFeedback) (p mid q : LowProcess) (old new : LowStore Plain) (m w : ℕ) (a : Arrival) (is_fault : Bool) (l : LowLook)
    (same : row_of mid ≡ row_of p) (now : last_of mid ≡ m) (store : HasStore plain_meaning mid new) where
  -- the process asked, and was answered
  asked : (ask : Ask) (answer : Answer) → ((h : _) → StandsFor p h → AsksFor mid h m w a is_fault) → is_down mid ≡ false
      → BeginStep plain_meaning p mid old new m w a is_fault ask → Finishes mid q answer l → Hears row told l.feedback → ToldStep row p q old new m w a told is_fault l
  asked ask answer asks up step done hears = record {
    looks = look_from (λ h. AsksFor mid h m w a is_fault) (StandsFor p) q (row_of mid) (row_of p) (look_of m w a is_fault l.feedback) l same asks (done.looks m w a is_fault);
    hears = hears;
    keeps = step.keeps;
    falls = done.up ∙ sym up ∙ step.falls;
    store = λ now_up. (let of = store up in record { ready = of.ready; count = of.count ∙ sym done.next; row = of.row ∙ sym done.row });
    row_is = done.row ∙ same;
    last = done.last ∙ now;
  }

  pub told_step : (ask : Ask) → BeginStep plain_meaning p mid old new m w a is_fault ask → HandBegins p mid a ask → AnsweredBy row told mid q ask l → ToldStep row p q old new m w a told is_fault l
  told_step (Done done) step hand answered = subst (λ (t : LowProcess × LowLook). ToldStep row p t.0 old new m w a told is_fault t.1) (λ i. (sym answered.1 i, sym answered.0 i)) (record {
    looks = step.begins.1;
    hears = subst (Hears row told) (sym step.begins.0) tt;
    keeps = step.keeps;
    falls = step.falls;
    store = store;
    row_is = same;
    last = now;
  })
  told_step (Forward item) step hand answered = asked (Forward item) (answer_of told) step.begins.1 hand.3 step answered (offer_hears row told (owes mid) l.feedback answered.tells)
  told_step Average step hand answered = asked Average (answers.Average (told_of_read row told)) step.begins.1 hand.2 step answered (read_hears row told (owes mid) l.feedback answered.tells)

-- ---- the two looks ----

no_waits : (b : Bool) → waits_of unused ≡ (if b then drop 1 (waits_of unused) else waits_of unused)
no_waits true = refl
no_waits false = refl

unused_waits : (b : Bool) (k : Connected) → k ≡ unused → waits_of k ≡ (if b then drop 1 (waits_of k) else waits_of k)
unused_waits b k none = subst (λ (t : Connected). waits_of t ≡ (if b then drop 1 (waits_of t) else waits_of t)) (sym none) (no_waits b)

not_broken : (b : Bool) → is_broken_of unused ≡ (is_broken_of unused || (b && is_bad Gone))
not_broken true = refl
not_broken false = refl

unused_broken : (b : Bool) (k : Connected) → k ≡ unused → is_broken_of k ≡ (is_broken_of k || (b && is_bad Gone))
unused_broken b k none = subst (λ (t : Connected). is_broken_of t ≡ (is_broken_of t || (b && is_bad Gone))) (sym none) (not_broken b)

module _ (c e d : LowPumpParts) (mid : LowProcess) (new : LowStore Plain) (m w : ℕ) (told : ToldFeedback) (a : Arrival) (ask : Ask) (l : LowLook)
    (begun : (is_fault : Bool) × BeginStep plain_meaning c.process mid c.store new m w a is_fault ask) (hand : HandBegins c.process mid a ask)
    (store : HasStore plain_meaning mid new) (same : row_of mid ≡ row_of c.process) (now : last_of mid ≡ m)
    (answered : AnsweredBy c.row told mid e.process ask l) (rest : e ≡ record { row = c.row; connection = c.connection; process = e.process; store = new; moment = c.moment }) where
  step : ToldStep c.row c.process e.process c.store e.store m w a told begun.0 l
  step = subst (λ (s : LowStore Plain). ToldStep c.row c.process e.process c.store s m w a told begun.0 l) (sym (ap (λ (t : LowPumpParts). t.store) rest))
      (told_step c.row told c.process mid e.process c.store new m w a begun.0 l same now store ask begun.1 hand answered)

  module _ (k : Connected) (left : d ≡ record { row = e.row; connection = k; process = e.process; store = e.store; moment = m }) (events : List Event) (stop : Option Stop)
      (prints : events ≡ look_prints e.row.id m l) (stops_so : stop ≡ result_err (stop_of plain_meaning d.process d.store)) where
    row_is : e.row ≡ c.row
    row_is = ap (λ (t : LowPumpParts). t.row) rest

    connection_is : e.connection ≡ c.connection
    connection_is = ap (λ (t : LowPumpParts). t.connection) rest

    step_then : ToldStep c.row c.process d.process c.store d.store m w a told begun.0 l
    step_then = subst (λ (t : LowPumpParts). ToldStep c.row c.process t.process c.store t.store m w a told begun.0 l) (sym left) step

    prints_then : events ≡ look_prints c.row.id m l
    prints_then = prints ∙ ap (λ (r : SessionRow). look_prints r.id m l) row_is

    row_then : d.row ≡ c.row
    row_then = ap (λ (t : LowPumpParts). t.row) left ∙ row_is

    ended : Settles c d m a l → (p : PastAlone) → PartsStand c p → EndsBy ⊥ (λ fault q printed. IsToldAt c.row p m w told a fault q printed) c d events stop
    ended settles p was = look_ends c d p m w a told begun.0 l was step_then settles events stop prints_then stops_so

    -- a look with what waits first
    pub first_ends : a ≡ offered_by c.connection → k ≡ settled e.connection l.taken → (p : PastAlone) → PartsStand c p
        → EndsBy ⊥ (λ fault q printed. IsToldAt c.row p m w told (first_of p.is_broken p.waits) fault q printed) c d events stop
    first_ends first settle p was =
        let k' : d.connection ≡ settled c.connection l.taken = ap (λ (t : LowPumpParts). t.connection) left ∙ settle ∙ ap (λ (t : Connected). settled t l.taken) connection_is in
        let arrival : a ≡ first_of p.is_broken p.waits = first ∙ ap (λ (t : Bool × List Arrival). first_of t.0 t.1) (λ i. (was.broken i, was.waits i)) in
        subst (λ (t : Arrival). EndsBy ⊥ (λ fault q printed. IsToldAt c.row p m w told t fault q printed) c d events stop) arrival
        (ended (record {
          waits = ap waits_of k';
          broken = ap is_broken_of k' ∙ ap (λ (t : Arrival). is_broken_of c.connection || (l.taken && is_bad t)) (sym first);
          reading = ap reading_of k';
          row = row_then;
          moment = ap (λ (t : LowPumpParts). t.moment) left;
        }) p was)

    -- the look of a connection that is lost
    pub gone_ends : a ≡ Gone → c.connection ≡ unused → k ≡ e.connection → (p : PastAlone) → PartsStand c p
        → EndsBy ⊥ (λ fault q printed. IsToldAt c.row p m w told Gone fault q printed) c d events stop
    gone_ends gone none stays p was =
        let same : d.connection ≡ c.connection = ap (λ (t : LowPumpParts). t.connection) left ∙ stays ∙ connection_is in
        subst (λ (t : Arrival). EndsBy ⊥ (λ fault q printed. IsToldAt c.row p m w told t fault q printed) c d events stop) gone
        (ended (record {
          waits = ap waits_of same ∙ unused_waits l.taken c.connection none;
          broken = ap is_broken_of same ∙ unused_broken l.taken c.connection none ∙ ap (λ (t : Arrival). is_broken_of c.connection || (l.taken && is_bad t)) (sym gone);
          reading = ap reading_of same;
          row = row_then;
          moment = ap (λ (t : LowPumpParts). t.moment) left;
        }) p was)
