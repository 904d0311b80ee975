use Rattle.std.proofs.Common.{◌≡◌, true, false, List, [], ◌∷◌, ◌∙◌, refl, sym, ap, subst, arith}
use Rattle.std.proofs.KnownBytes.{Appends-trans}
use Rattle.std.specs.Io.KnownBytes.{Appends}
use Rattle.pump_link.proofs.Grown.{Draws-nil, Grows-nil}
use Rattle.pump_link.specs.Ports.{ShutDoor}
use Rattle.pump_link.specs.Tells.{Grows}
use Rattle.relay_threads.specs.LowStays.{Stay}
use Rattle.relay_threads.specs.declared.rounds_end.RoundsEnd.{RoundsEnd}
use Rattle.relay_threads.proofs.LowStaying.{stays_none}
use Rattle.relay_threads.proofs.LowEnds.{does_none, stores_none}
use Rattle.relay_threads.proofs.Reaching.{reaches_behind}
use Rattle.serving.specs.Doors.{doors, links}
use Rattle.serving.specs.LowRuns.{LowRan, opening_text}
use Rattle.serving.specs.PassageEnds.{end_tells}
use Rattle.serving.specs.declared.low_half.LowParts.{LowParts}
use Rattle.serving.proofs.LowServes.{opening_broke, opening_reads, opening_written}
use Rattle.serving.proofs.low_half.LowHalfServesLowRelaySide.serve.Goals as goal
use Rattle.serving.proofs.low_half.LowHalfServesLowRelaySide.serve.Goals.{then-is_err, else-is_err}

pub returns : goal.returns
returns g c =
    let O = g.O.Sink in
    let parts = c.args.self.now.parts in
    let w = c.write_opening-opened.ensures in
    -- the run, by what the worker left: its clock, its tape, its door, its parts, and how it ended
    let Ran : g.row.K.Denot × g.row.O.Denot × g.row.P-Door.Denot × LowParts g.row.W.Denot g.row.D.Denot g.row.L.Denot × RoundsEnd → Type 0 =
    λ x. LowRan (doors g.P.Door.Door.port g.P.Door.Door.did g.P.Door.Door.gives (links g.P.Link.Link.gives g.P.Link.Link.sent g.P.Link.Link.faults)) g.D.Disk.told g.W.Words.gives (end_tells g.L.LowSide.stands g.L.LowSide.shape g.L.LowSide.place)
    (g.K.Clock.reads c.args.side.now.clock) (g.K.Clock.reads x.0) (O.written c.args.tape.now) (O.written x.1) (O.faults c.args.tape.now) (O.faults x.1) c.args.rounds c.in-Some.door x.2 parts x.3 x.4 in
    let shuts : c.if-is_err.side.ports ≡ c.args.side.now.ports → Grows (g.P.Ports.did c.args.side.now.ports) (g.P.Ports.did c.shut.new.self) (ShutDoor c.if-is_err.door ∷ []) =
    λ same. subst (λ (p : g.row.P.Denot). Grows (g.P.Ports.did p) (g.P.Ports.did c.shut.new.self) (ShutDoor c.if-is_err.door ∷ [])) same c.shut.ensures.did in
    let none : List (Stay g.row.P-Link.Denot) = [] in
    elim c.if-is_err.branch [
      | then-is_err b ↦ record {
        opened = c.in-Some.door;
        shut = c.if-is_err.door;
        had = sym c.in-Some.ensures.value;
        has_none = ap (λ h. h.door) b.self-is ∙ c.in-Some.ensures.after;
        did = shuts (ap (λ s. s.ports) b.side-is);
        ran = subst Ran (λ i. ((sym b.side-is i).clock, sym b.tape-is i, sym b.door-is i, (sym b.self-is i).parts, sym b.self2-is i)) (record {
          is_opened = false;
          stays = none;
          so = stays_none g.row.P-Link.Denot parts.process;
          ends = (refl, refl);
          did = Grows-nil _;
          gave = Draws-nil _;
          port = λ n h. h;
          links = tt;
          moments = Draws-nil _;
          words = Draws-nil _;
          tape = opening_broke (O.written c.args.tape.now) (O.written c.write_opening-opened.new.tape) (O.faults c.args.tape.now) (O.faults c.write_opening-opened.new.tape) c.write_opening-opened.result c.row.result.now c.next-next.result parts
              c.row.ensures c.next-next.ensures c.is_err.ensures.value b.if-is_err.true w.err w.cause;
          begins = opening_reads _ _ parts c.row.ensures c.next-next.ensures w.reads;
          levels = λ end. tt;
          still = (refl, refl);
          does = does_none g.L.LowSide.stands g.L.LowSide.shape parts.ends parts.process;
          stores = stores_none g.D.Disk.told parts.store parts.process;
          is_record = λ o lives. refl;
          store = c.requires.1.of;
          counts = omega arith;
          device = tt;
        });
      }
      | else-is_err b ↦
          let r = b.low_rounds-self.ensures in
          let done = r.rounds in
          let opening = opening_written _ _ _ _ _ parts c.row.ensures c.next-next.ensures c.is_err.ensures.value b.if-is_err.false w.ok in
          record {
            opened = c.in-Some.door;
            shut = c.if-is_err.door;
            had = sym c.in-Some.ensures.value;
            has_none = ap (λ h. h.door) b.self-is ∙ c.in-Some.ensures.after;
            did = shuts (ap (λ s. s.ports) b.side-is);
            ran = subst Ran (λ i. ((sym b.side-is i).clock, sym b.tape-is i, sym b.door-is i, (sym b.self-is i).parts, sym b.self2-is i)) (record {
              is_opened = true;
              stays = done.stays;
              so = done.so;
              ends = done.ends;
              did = done.did;
              gave = done.gave;
              port = r.port;
              links = done.links;
              moments = done.moments;
              words = done.words;
              begins = opening_reads _ _ parts c.row.ensures c.next-next.ensures w.reads;
              tape = reaches_behind (Appends (O.written c.args.tape.now) (O.written b.low_rounds-self.new.tape)) (Appends (O.written c.write_opening-opened.new.tape) (O.written b.low_rounds-self.new.tape)) _ _ _ _ (opening_text parts) _ w.cause.later (λ rest more. Appends-trans _ _ _ _ rest opening more) done.lines;
              levels = done.levels;
              still = (r.shape, r.place);
              does = done.does;
              stores = done.stores;
              is_record = done.is_record;
              store = done.rests.of;
              counts = r.counts;
              device = r.device;
            });
          }
    ]
