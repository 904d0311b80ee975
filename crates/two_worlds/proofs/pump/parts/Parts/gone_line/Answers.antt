use Rattle.std.proofs.Common.{◌≡◌, ◌++◌, subst, refl, sym}
use Rattle.pump_core.specs.History.{Gone}
use Rattle.pump_frame.specs.declared.row.SessionRow.{SessionRow}
use Rattle.script_reader.specs.declared.line.Line.TheVariants as lines
use Rattle.low_process.specs.Heads.{look_with}
use Rattle.low_process.specs.Looks.{row_of}
use Rattle.two_worlds.specs.Printing.{lines_in, look_prints}
use Rattle.two_worlds.specs.Working.{IsAble}
use Rattle.two_worlds.specs.declared.pump.parts.Parts.{Parts}
use Rattle.two_worlds.proofs.Arriving.Connected.{able_lost}
use Rattle.two_worlds.proofs.Lines.Ran.{ran_by}
use Rattle.two_worlds.proofs.Lines.Runs.{gone_runs}
use Rattle.two_worlds.proofs.Low.Does.{gone_does}
use Rattle.two_worlds.proofs.Low.Looked.{Looked, no_waits, no_bad}
use Rattle.two_worlds.proofs.Low.Serves.{low_serves}
use Rattle.two_worlds.proofs.Low.Works.{low_works}
use Rattle.two_worlds.proofs.Opening.Ends.{low_between, low_order, low_seen, high_seen, ends_seen, low_fits_seen}
use Rattle.two_worlds.proofs.Opening.Ready.{low_has_store}
use Rattle.two_worlds.proofs.pump.parts.Parts.gone_line.Goals as goal

pub look_into-requires-clause-between : goal.look_into-requires-clause-between
look_into-requires-clause-between g c = low_between g.D.Disk.told c.args.self.now c.requires.able

pub look_into-requires-clause-order : goal.look_into-requires-clause-order
look_into-requires-clause-order g c = low_order g.D.Disk.told c.args.self.now c.requires.able c.args.moment c.requires.order

pub look_into-requires-clause-store : goal.look_into-requires-clause-store
look_into-requires-clause-store g c = λ up. low_has_store g.D.Disk.told c.args.self.now c.requires.able

pub look_into-requires-clause-ends : goal.look_into-requires-clause-ends
look_into-requires-clause-ends g c =
    let m = g.D.Disk.told in
    let s = c.args.self.now in
    let able = c.requires.able in
    (low_seen m s able, high_seen m s able, (ends_seen m s able, low_fits_seen m s able))

pub returns : goal.returns
returns g c =
    let m = g.D.Disk.told in
    let from = c.args.self.now in
    let k = c.lose.new.self in
    let s : Parts _ = record from { connection = k } in
    let able : IsAble m s = able_lost m from k c.lose.ensures c.requires.able in
    let n = c.look_into.new in
    let head = c.look_into.new.head in
    let l = look_with (row_of s.low) head in
    let e = c.look_into.ensures in
    let end = c.end_look.ensures in
    let out = lines_in c.args.out.now.items in
    let printed = lines_in c.end_look.new.out.items in
    let d : Parts _ = record s { low = n.self; low_store = n.store; ends = n.ends; moment = c.args.moment } in
    let did : Looked m s d c.args.moment 0 Gone e.looks.0 l = record {
      step = e.looks.1;
      store = e.store;
      images = e.images;
      hand = e.hand;
      row = e.row;
      last = e.last;
      shape = e.shape;
      ends = e.ends;
      waits = no_waits l.taken k c.lose.ensures;
      broken = no_bad l.taken k;
      reading = refl;
      rest = refl;
    } in
    ran_by m from d (lines.Gone from.row.id c.args.moment) out printed c.end_look.result tt
    (gone_runs m from d k out printed c.end_look.result c.args.moment c.lose.ensures
    (λ p stands. gone_does m s d c.args.moment 0 Gone l c.requires.order out printed
    (subst (λ (r : SessionRow). printed ≡ out ++ look_prints s.row.id c.args.moment (look_with r head)) (sym stands.low_ready.row) end.prints) p stands e.looks.0 c.end_look.result
    refl did end.stop))
    (low_works m s d c.args.moment 0 Gone l c.requires.order able e.looks.0 c.end_look.result did end.stop)
    (λ none. absurd none)
    (low_serves m s d c.args.moment 0 Gone e.looks.0 l did able c.end_look.result end.stop)
    refl
