-- A line was given to the session that it names, which has begun, and the session printed what it prints.
use Rattle.std.proofs.Common.{◌≡◌, ◌≢◌, ℕ, [], false, true, List, ◌++◌, max, slice_get, Option, None, Some, inr, refl, sym, ap, ◌∙◌}
use Rattle.std.specs.Prelude.{◌||◌, not}
use Rattle.std.specs.Vec.{with_item}
use Rattle.disk_model.specs.Disk.{Meaning}
use Rattle.disk_model.specs.Shelf.{Holdings}
use Rattle.disk_model.specs.declared.disk.Disk.{Ghosts}
use Rattle.disk_model.specs.declared.name.Role.{Role}
use Rattle.pump_link.specs.Causes.{AppendsPrefix}
use Rattle.script_reader.specs.declared.event.Event.{Event}
use Rattle.script_reader.specs.declared.line.Line.{Line}
use Rattle.script_reader.specs.declared.line.Line.TheVariants as lines
use Rattle.script_reader.specs.Scripts.{RunningAlone, Begun, Alone}
use Rattle.script_reader.specs.Sessions.{session_in, stands_first, moment_of, is_in_turn, ScriptRefuses, Sessions as Script}
use Rattle.script_reader.specs.Transcript.{text}
use Rattle.two_worlds.specs.declared.applied.Stop.{Stop}
use Rattle.two_worlds.specs.declared.applied.Stop.TheVariants as stops
use Rattle.script_replay.specs.declared.applying.Replaying.{Replaying}
use Rattle.script_replay.specs.declared.outcome.LineOutcome.{LineOutcome}
use Rattle.script_replay.specs.declared.outcome.LineOutcome.TheVariants as outcomes
use Rattle.script_replay.specs.declared.session.Session.{Session}
use Rattle.script_replay.specs.declared.sessions.Sessions.{Sessions}
use Rattle.script_replay.specs.Applied.{LineGoes}
use Rattle.script_replay.specs.Outputs.{held_of, Gathers}
use Rattle.script_replay.specs.Runners.{AllAreUp, outcome_of, StopsByLine, GoesSo, IsDeviceOutcomeOf, FreshAfter}
use Rattle.script_replay.specs.Sessions.{id_of, IsUp, StandsFor, SessionApplies, GoesOnWith, FailedWith, with_begun, IsPlaced, AreInOrder, AllStandFor}
use Rattle.script_replay.specs.Shelves.{Places}
use Rattle.script_replay.proofs.Gathered.{gathers_none}
use Rattle.script_replay.proofs.Listed.{order_item, under_way_so}
use Rattle.script_replay.proofs.Told.{goes_made, refused_made}
use Rattle.script_replay.proofs.Turns.{gone_on, not_written, up_so, remembers, failed_so, id_x, there_own, is_put, lends_last, up_last, failed_last, rise_last, line_does, hands_of}

pub some_named : (line : Line) (number : ℕ) → session_in line ≡ Some number → line ≢ lines.Skip
some_named line number named is = let none : None ≡ Some number = sym (ap session_in is) ∙ named in absurd (cc)

-- of what is read of the disks before nothing is asked any more
fresh_given : {D : Type 0} {g : Ghosts D} (d : Meaning D) (before now : Places) (s : Sessions D g) (outcome : LineOutcome) → (outcome ≡ outcomes.Applied → s.is_under_way ≡ true) → (outcome ≡ outcomes.Memory → ⊥) → FreshAfter d before now s outcome
fresh_given d before now s outcomes.Applied way memory = λ off. absurd (cc (sym (way refl) ∙ off))
fresh_given d before now s outcomes.Memory way memory = absurd (memory refl)
fresh_given d before now s outcomes.Refused way memory = tt
fresh_given d before now s outcomes.Unwritten way memory = tt
fresh_given d before now s (outcomes.Stopped fault) way memory = tt

module _ {S D : Type 0} {g : Ghosts D} (m : Holdings S) (d : Meaning D) (shelf : S) (line : Line) (number place : ℕ) (named : session_in line ≡ Some number) (x t : Session D g) (goes : GoesOnWith d x t)
    (first last : Replaying D g) (placed : IsPlaced number place first.sessions.begun.items true) (at : slice_get first.sessions.begun.items place ≡ Some x) (order : AreInOrder first.sessions)
    (begun : last.sessions.begun ≡ with_item first.sessions.begun place t) (ups : AllAreUp first.sessions.begun.items) (some : line ≢ lines.Skip) (later : stands_first line ≡ false)
    (turn : (script : Script) → AllStandFor d first.sessions script → is_in_turn script line ≡ true) (old new : Option (List ℕ)) where
  abbrev Moves : Type 0
  Moves = ((s : Begun) → StandsFor d t s → last.sessions.moment ≡ max first.sessions.moment (moment_of s)) × (last.sessions.is_under_way ≡ (first.sessions.is_under_way || not (stands_first line)))

  module _ (outcome : LineOutcome) (moves : outcome ≡ outcomes.Applied → Moves) (stays : first.sessions.is_under_way ≡ true → last.sessions.is_under_way ≡ true)
      (does : d.tells → (r : Begun) → StandsFor d x r → GoesSo d r line t (held_of first.output) (held_of last.output) old new outcome)
      (alone : (s : RunningAlone) → StandsFor d x (Alone s) → GoesSo d (Alone s) line t (held_of first.output) (held_of last.output) old new outcome)
      (up : outcome ≡ outcomes.Applied → IsUp t) (memory : outcome ≡ outcomes.Memory → ⊥) (is_line : StopsByLine outcome)
      (device : (k : ℕ) (role : Role) → IsDeviceOutcomeOf k role outcome → (id_of t ≡ k) × FailedWith d x t role) where
    items : last.sessions.begun.items ≡ with_begun t first.sessions.begun.items
    items = ap (λ v. v.items) begun ∙ is_put d line number place named x t goes first.sessions placed at order.rise

    way : outcome ≡ outcomes.Applied → last.sessions.is_under_way ≡ true
    way e = under_way_so first.sessions.is_under_way (stands_first line) last.sessions.is_under_way (moves e).1 later

    -- whatever became of it
    given : LineGoes m d shelf shelf first last old new line outcome
    given = record {
      order = order_item first.sessions last.sessions place t begun order (rise_last d line number place named x t goes first.sessions placed at order.rise last.sessions items);
      does = λ told tells before lends script stand.
          line_does d line number place named x t goes first.sessions placed at order.rise last.sessions items before (m.disk shelf) lends script stand (turn script stand) some
          (held_of first.output) (held_of last.output) old new outcome moves (does tells);
      fresh = λ told tells before fresh. fresh_given d before (m.disk shelf) last.sessions outcome way memory;
      hands = λ before lends. hands_of m.tells d before (m.disk shelf) last.sessions.begun.items (lends_last d line number place named x t goes first.sessions placed at order.rise last.sessions items before (m.disk shelf) lends);
      ready = λ e before lends. (
        lends_last d line number place named x t goes first.sessions placed at order.rise last.sessions items before (m.disk shelf) lends,
        up_last d line number place named x t goes first.sessions placed at order.rise last.sessions items (up e) ups,
      );
      quiet = record { waits = stays; quiet = λ e off. absurd (cc (sym (way e) ∙ off)); memory = λ e. absurd (memory e) };
      stops = is_line;
      device = λ k role h before lends. inr (failed_last d line number place named x t goes first.sessions placed at order.rise last.sessions items before (m.disk shelf) lends k role (device k role h));
      told = goes_made d line some (held_of first.output) (held_of last.output) old new outcome first.sessions last.sessions x t goes
          (there_own d line number place named x t goes first.sessions placed at order.rise) items (named ∙ ap Some (sym (id_x d line number place named x t goes first.sessions placed at order.rise)))
          way alone (λ k role h. (device k role h).0);
    }

  module _ (stop : Option Stop) (printed : List Event)
      (applies : d.tells → (r : Begun) → StandsFor d x r → SessionApplies d r line t printed stop)
      (alone : (s : RunningAlone) → StandsFor d x (Alone s) → SessionApplies d (Alone s) line t printed stop) where
    pub given_printed : (id : ℕ) (outcome : LineOutcome) → id ≡ id_of t → outcome ≡ outcome_of id stop → StopsByLine outcome → Gathers (held_of first.output) (held_of last.output) old new (text printed)
        → (stop ≡ None → IsUp t) → ((role : Role) (count : ℕ) → stop ≡ Some (stops.Device role count) → FailedWith d x t role)
        → (outcome ≡ outcomes.Applied → Moves) → (first.sessions.is_under_way ≡ true → last.sessions.is_under_way ≡ true) → LineGoes m d shelf shelf first last old new line outcome
    given_printed id outcome same is by_line gathers up failed moves stays = given outcome moves stays
        (λ tells r stands. gone_on d t r line printed stop (held_of first.output) (held_of last.output) old new outcome id (applies tells r stands) gathers same is)
        (λ s stands. gone_on d t (Alone s) line printed stop (held_of first.output) (held_of last.output) old new outcome id (alone s stands) gathers same is)
        (up_so t id stop outcome up is) (remembers id stop outcome is) by_line (failed_so d x t id stop outcome failed same is)

    -- .. which could not be written
    pub given_unwritten : AppendsPrefix old new (held_of first.output ++ text printed) → (first.sessions.is_under_way ≡ true → last.sessions.is_under_way ≡ true) → LineGoes m d shelf shelf first last old new line outcomes.Unwritten
    given_unwritten prefix stays = given outcomes.Unwritten (λ e. cc) stays
        (λ tells r stands. not_written d t r line printed stop (held_of first.output) (held_of last.output) old new (applies tells r stands) prefix)
        (λ s stands. not_written d t (Alone s) line printed stop (held_of first.output) (held_of last.output) old new (alone s stands) prefix)
        (λ e. cc) (λ e. cc) tt (λ k role h. absurd h)

-- ---- a line that goes to no session that has begun, or makes one coarse: it prints nothing ----

module _ {S D : Type 0} {g : Ghosts D} (m : Holdings S) (d : Meaning D) (line : Line) (first : Replaying D g) (written : Option (List ℕ)) (order : AreInOrder first.sessions) where
  pub refused_goes : (shelf : S) → ((t : Script) → AllStandFor d first.sessions t → ScriptRefuses t line) → LineGoes m d shelf shelf first first written written line outcomes.Refused
  refused_goes shelf refuses = record {
    order = order;
    does = λ told tells before lends t stand. ([], (refuses t stand, refl, stand.each, lends), gathers_none (held_of first.output) written);
    fresh = λ told tells before fresh. tt;
    hands = λ before lends. hands_of m.tells d before (m.disk shelf) first.sessions.begun.items lends;
    ready = λ e. absurd (cc);
    quiet = record { waits = λ e. e; quiet = λ e. absurd (cc); memory = λ e. absurd (cc) };
    stops = tt;
    device = λ number role h. absurd h;
    told = λ lines all. refused_made d first.sessions lines line;
  }
