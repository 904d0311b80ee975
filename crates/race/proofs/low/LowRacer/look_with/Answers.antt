use Rattle.std.proofs.Common.{refl, sym, ap, ◌∙◌, subst}
use Rattle.std.specs.Prelude.{◌≡◌, ◌||◌, ◌∷◌, Bool, true, false, Option, is_some}
use Rattle.pump_frame.specs.declared.frame.Frame.{Frame}
use Rattle.pump_core.specs.History.{Arrival}
use Rattle.pump_frame.specs.declared.row.SessionRow.{SessionRow}
use Rattle.low_process.specs.declared.values.LowLook.{LowLook}
use Rattle.low_process.specs.Heads.{look_with as look_whole}
use Rattle.script_reader.specs.Generated.{generated_row}
use Rattle.low_process.specs.Looks.{hand_of, hand_after, look_of, IsLawful as CanCome}
use Rattle.low_process.specs.Whole.{LookStep}
use Rattle.disk_model.specs.Plain.{plain_meaning}
use Rattle.relay_threads.specs.RecordLines.{tells_fault}
use Rattle.race.specs.LowRacers.{offered, arrival_in, LowRests}
use Rattle.race.specs.declared.low.LowRacer.{LowRacer}
use Rattle.race.proofs.LowGoes.{carried, Leaves}
use Rattle.race.proofs.Frames.{can_come}
use Rattle.race.proofs.low.LowRacer.look_with.Goals as goal

-- a frame comes where one is offered
comes_in : (comes : Bool) (f : Frame) → comes ≡ is_some (offered comes f)
comes_in true f = refl
comes_in false f = refl

pub look_waiting_into-requires-clause-lawful : goal.look_waiting_into-requires-clause-lawful
look_waiting_into-requires-clause-lawful g c = subst CanCome (sym c.arrival_of_frame-arrival.ensures) (can_come (offered c.args.comes c.args.frame.now) c.requires.lawful)

pub returns-clause-at : goal.returns-clause-at
returns-clause-at g c = λ made left a offer.
    let w = c.args.self.now in
    let frame : Option Frame = offered c.args.comes c.args.frame.now in
    let e = c.look_waiting_into.ensures in
    let l : LowLook = look_whole generated_row c.look_waiting_into.new.head in
    let word = c.next_word-word.result in
    let w' : LowRacer g.row.L.Denot = record w {
      half = record {
        process = c.look_waiting_into.new.self;
        store = c.look_waiting_into.new.store;
        ends = c.look_waiting_into.new.ends;
      };
      word = word;
      is_greeted = w.is_greeted || c.args.comes;
    } in
    let came = c.arrival_of_frame-arrival.ensures in
    let step : LookStep plain_meaning w.half.process w'.half.process w.half.store w'.half.store c.args.moment word (arrival_in frame) e.looks.0 l =
    subst (λ (z : Arrival × SessionRow). LookStep plain_meaning w.half.process w'.half.process w.half.store w'.half.store c.args.moment word z.0 e.looks.0 (look_whole z.1 c.look_waiting_into.new.head)) (λ i. (came i, a.row i)) e.looks.1 in
    let hand = e.hand ∙ ap (λ (z : Arrival). hand_after (hand_of w.half.process) z l) came in
    let leaves : Leaves w w' word frame = record {
      row = refl;
      seed = refl;
      count = refl;
      script = refl;
      drawn_is = c.next_word-word.ensures;
      word_is = refl;
      greeted = ap (λ b. w.is_greeted || b) (comes_in c.args.comes c.args.frame.now);
    } in
    subst (λ (z : Arrival). LowRests g.L.LowSide.stands g.L.LowSide.shape w' (record { look = look_of c.args.moment word z (tells_fault l.reply) l.feedback; taken = l.taken; reply = l.reply } ∷ made)) (sym came)
    (carried g.L.LowSide.stands g.L.LowSide.shape g.L.LowSide.on_one_thread w w' left made a c.args.moment word frame e.looks.0 l
    step e.store hand e.row e.ends e.shape c.requires.order offer leaves c.requires.lawful c.requires.moment e.bounds)
