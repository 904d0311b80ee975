-- A session that begins on its disks begins a timed run, and one whose disks are opened again goes on with it.
use Rattle.std.proofs.Common.{◌≡◌, ℕ, ◌≤◌, false, List, [], ◌∷◌, ◌++◌, length, Some, None, refl, sym, ap, subst, arith, le_trans, append_assoc}
use Rattle.pump_frame.specs.Rows.{IsLawfulRow}
use Rattle.pump_frame.specs.declared.row.SessionRow.{SessionRow}
use Rattle.pump_core.specs.declared.event.Event.TheVariants.{Crash}
use Rattle.pump_core.specs.World.{World}
use Rattle.pump_core.specs.Events.{Happens, Opened}
use Rattle.pump_core.specs.Timed.{Step, Occurs, Point, opening_in, opens, reopens}
use Rattle.pump_core.specs.Runs.{LifeFeedback}
use Rattle.script_reader.specs.declared.event.Event.{Event}
use Rattle.script_reader.specs.declared.line.Line.TheVariants.{ReceiverRestart}
use Rattle.script_reader.specs.Past.{Past}
use Rattle.script_reader.specs.Openings.{Found, CanOpen, opened_world, first_past, restarted}
use Rattle.script_reader.specs.Restarts.{IsRestart, IsReopened, IsReceiverRestart}
use Rattle.script_reader.proofs.Opened.{row_capacity}
use Rattle.world_laws.specs.Timelines.{IsAtRest, IsTimeline, RunGoesOn}
use Rattle.world_laws.proofs.Timeline.Looks.{HasMore}
use Rattle.world_laws.proofs.Timeline.Returns.{attach_look}

-- ---- a session that begins ----

pub opened_timeline : (row : SessionRow) (f : Found) → IsLawfulRow row → CanOpen row f → IsTimeline row (first_past row f) [] (opens (opened_world row f))
opened_timeline row f lawful can =
    let size = row_capacity row lawful in
    record {
      run = record {
        leads = (opened_world row f, Opened row.capacity f.removed f.received f.later size.0 size.1 can.agree, refl, refl);
        low = (refl, (0, refl), tt);
        feedback = refl;
        places = (tt, tt);
      };
      world = refl;
      rest = record { storing = refl; due = refl; removing = refl; packet = refl; taking = refl };
      high = record { times = refl; sends = refl; nothing_left = refl };
      waits = record { came_before = omega arith; rest = refl; behind = refl };
      low_moment = omega arith;
      high_moment = omega arith;
    }

-- ---- disks that are opened again ----

module _ (row : SessionRow) (p : Past) (steps : List Step) (t : Point) (i : IsTimeline row p steps t) where
  module _ (w : World) (h : Happens p.world (Crash (Some (false, false)) None) w) (m : ℕ) (late : p.moment ≤ m) where
    -- the run goes on by the crash, and comes to the session's new life
    crashed : IsTimeline row (restarted p w m) (Occurs (Crash (Some (false, false)) None) ∷ steps) (reopens t w)
    crashed = record {
      run = record {
        leads = (t, i.run.leads, (w, subst (λ (u : World). Happens u (Crash (Some (false, false)) None) w) (sym i.world) h, tt, refl));
        low = (refl, (0, refl), i.run.low);
        feedback = ap (λ (ls : List LifeFeedback). record { is_held = (opening_in w).is_held; looks = [] } ∷ ls) i.run.feedback;
        places = (tt, i.run.places);
      };
      world = refl;
      rest = subst IsAtRest (sym h) (record { storing = refl; due = refl; removing = refl; packet = i.rest.packet; taking = i.rest.taking });
      high = record { times = refl; sends = refl; nothing_left = refl };
      waits = record { came_before = omega arith; rest = refl; behind = refl };
      low_moment = le_trans i.low_moment late;
      high_moment = le_trans i.high_moment late;
    }

  pub restarts : (m : ℕ) (q : Past) (printed : List Event) → p.moment ≤ m → IsRestart row p m q printed → HasMore row q steps (Occurs (Crash (Some (false, false)) None) ∷ [])
  restarts m q printed late (h, e, f) =
      (reopens t q.world, subst (λ (x : Past). IsTimeline row x (Occurs (Crash (Some (false, false)) None) ∷ steps) (reopens t q.world)) (sym e) (crashed q.world h m late))

  reopens_receiver : (q : Past) → IsReopened p q → HasMore row q steps (Occurs (Crash None (Some false)) ∷ [])
  reopens_receiver q (h, e) =
      let on : IsTimeline row (record p { world = q.world }) (Occurs (Crash None (Some false)) ∷ steps) (record t { world = q.world }) = record {
        run = record {
          leads = (t, i.run.leads, (q.world, subst (λ (u : World). Happens u (Crash None (Some false)) q.world) (sym i.world) h, tt, refl));
          low = i.run.low;
          feedback = i.run.feedback;
          places = i.run.places;
        };
        world = refl;
        rest = subst IsAtRest (sym h) (record { storing = i.rest.storing; due = i.rest.due; removing = i.rest.removing; packet = refl; taking = refl });
        high = record { times = i.high.times; sends = i.high.sends; nothing_left = i.high.nothing_left };
        waits = i.waits;
        low_moment = i.low_moment;
        high_moment = i.high_moment;
      } in
      (record t { world = q.world }, subst (λ (x : Past). IsTimeline row x (Occurs (Crash None (Some false)) ∷ steps) (record t { world = q.world })) (sym e) on)

  -- the run goes on by the receiver's crash and the look in which it attaches
  pub receiver_restarts : (session m : ℕ) (q : Past) (printed : List Event) → p.moment ≤ m → IsReceiverRestart row p m q printed → RunGoesOn row p (ReceiverRestart session m) steps q
  receiver_restarts session m q printed late (mid, is, (more, attach, e)) =
      let crash : List Step = Occurs (Crash None (Some false)) ∷ [] in
      let same : mid.moment ≡ p.moment = ap (λ (x : Past). x.moment) is.1 in
      let (u, j) = reopens_receiver mid is in
      let (of_look, on, are) = attach_look row mid (crash ++ steps) u m (length mid.world.received) q more j (omega (arith, late, same)) attach in (
        of_look ++ crash,
        on.0,
        subst (λ (l : List Step). IsTimeline row q l on.0) (sym (append_assoc of_look crash steps)) on.1,
        (mid, is, (of_look, are, refl)),
      )
