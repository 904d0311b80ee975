use Rattle.std.proofs.Common.{◌≡◌, ◌++◌, true, false, subst, refl, sym, ap, ◌∙◌}
use Rattle.std.specs.Prelude.{◌&&◌, ◌||◌}
use Rattle.pump_core.specs.History.{Arrival}
use Rattle.pump_frame.specs.declared.row.SessionRow.{SessionRow}
use Rattle.script_reader.specs.Heads.{arriving_with}
use Rattle.script_reader.specs.Lows.{is_bad, first_of}
use Rattle.script_reader.specs.declared.line.Line.TheVariants.{Look}
use Rattle.low_process.specs.Heads.{look_with}
use Rattle.low_process.specs.Looks.{arrival_of, row_of}
use Rattle.two_worlds.specs.Connections.{Joins, waits_of, is_broken_of, reading_of}
use Rattle.two_worlds.specs.Printing.{lines_in, look_prints}
use Rattle.two_worlds.specs.Working.{IsAble}
use Rattle.two_worlds.specs.declared.pump.parts.Parts.{Parts}
use Rattle.two_worlds.proofs.Arriving.Connected.{able_joined}
use Rattle.two_worlds.proofs.Disks.Together.{serve_none}
use Rattle.two_worlds.proofs.Lines.Ran.{ran_by}
use Rattle.two_worlds.proofs.Lines.Runs.{look_runs, look_crowds}
use Rattle.two_worlds.proofs.Low.Does.{offered_does}
use Rattle.two_worlds.proofs.Low.Looked.{Looked}
use Rattle.two_worlds.proofs.Low.Serves.{low_serves}
use Rattle.two_worlds.proofs.Low.Works.{low_works}
use Rattle.two_worlds.proofs.Opening.Ends.{low_between, low_order, low_seen, high_seen, ends_seen, low_fits_seen}
use Rattle.two_worlds.proofs.Opening.Ready.{low_has_store}
use Rattle.two_worlds.proofs.pump.parts.Parts.look_line.Goals as goal

pub returns-then-not-join : goal.returns-then-not-join
returns-then-not-join g c =
    let m = g.D.Disk.told in
    let s = c.args.self.now in
    let k = c.join.new.self in
    let out = lines_in c.args.out.now.items in
    let a = arriving_with c.args.bytes.now c.args.arriving.now in
    let crowds : Joins s.connection k s.row.id a false = c.if-not-join.ensures in
    record {
      runs = look_crowds m s k out c.args.moment c.args.word a crowds;
      on = (ap (λ t. record s { connection = t }) crowds.2.1, refl, (crowds.0, crowds.1, crowds.2.0));
      ahead = λ none. absurd none;
      serve = serve_none m s c.requires.able k;
      row = refl;
    }

pub look_into-requires-clause-between : goal.look_into-requires-clause-between
look_into-requires-clause-between g c = low_between g.D.Disk.told c.args.self.now c.requires.able

pub look_into-requires-clause-order : goal.look_into-requires-clause-order
look_into-requires-clause-order g c = low_order g.D.Disk.told c.args.self.now c.requires.able c.args.moment c.requires.order

pub look_into-requires-clause-store : goal.look_into-requires-clause-store
look_into-requires-clause-store g c = λ up. low_has_store g.D.Disk.told c.args.self.now c.requires.able

pub look_into-requires-clause-ends : goal.look_into-requires-clause-ends
look_into-requires-clause-ends g c =
    let m = g.D.Disk.told in
    let s = c.args.self.now in
    let able = c.requires.able in
    (low_seen m s able, high_seen m s able, (ends_seen m s able, low_fits_seen m s able))

pub returns : goal.returns
returns g c =
    let m = g.D.Disk.told in
    let from = c.args.self.now in
    let k = c.join.new.self in
    let s : Parts _ = record from { connection = k } in
    let came = arriving_with c.args.bytes.now c.args.arriving.now in
    let joins : Joins from.connection k from.row.id came true = c.if-not-join.ensures in
    let able : IsAble m s = able_joined m from k joins.0 joins.2.0 joins.2.1 c.requires.able in
    let n = c.look_into.new in
    let head = c.look_into.new.head in
    let l = look_with (row_of s.low) head in
    let e = c.look_into.ensures in
    let a = arrival_of c.first-arrival.result in
    let end = c.end_look.ensures in
    let out = lines_in c.args.out.now.items in
    let printed = lines_in c.end_look.new.out.items in
    let d : Parts _ = record s { low = n.self; low_store = n.store; ends = n.ends; connection = c.settle.new.self; moment = c.args.moment } in
    let did : Looked m s d c.args.moment c.args.word a e.looks.0 l = record {
      step = e.looks.1;
      store = e.store;
      images = e.images;
      hand = e.hand;
      row = e.row;
      last = e.last;
      shape = e.shape;
      ends = e.ends;
      waits = ap waits_of c.settle.ensures;
      broken = ap is_broken_of c.settle.ensures ∙ ap (λ (t : Arrival). is_broken_of k || (l.taken && is_bad t)) (sym c.first-arrival.ensures.offered);
      reading = ap reading_of c.settle.ensures;
      rest = refl;
    } in
    ran_by m from d (Look from.row.id c.args.moment c.args.word came) out printed c.end_look.result (joins.0, joins.1, joins.2.0)
    (look_runs m from d k out printed c.end_look.result c.args.moment c.args.word came joins
    (λ p stands. offered_does m s d c.args.moment c.args.word a l c.requires.order out printed
    (subst (λ (r : SessionRow). printed ≡ out ++ look_prints s.row.id c.args.moment (look_with r head)) (sym stands.low_ready.row) end.prints) p stands e.looks.0 c.end_look.result
    (c.first-arrival.ensures.offered ∙ (λ i. first_of (stands.arrivals.broken i) (stands.arrivals.waits i))) did end.stop))
    (low_works m s d c.args.moment c.args.word a l c.requires.order able e.looks.0 c.end_look.result did end.stop)
    (λ none. absurd none)
    (low_serves m s d c.args.moment c.args.word a e.looks.0 l did able c.end_look.result end.stop)
    refl
