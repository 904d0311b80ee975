use Rattle.std.proofs.Common.{◌≡◌, ◌||◌, Bool, true, false, inl, inr, refl, sym, ap, ◌∙◌, subst, arith}
use Rattle.std.proofs.lemmas.Bool.{or_parts, le-leb, lt-leb}
use Rattle.script_reader.specs.declared.line.Arriving.{Arriving}
use Rattle.script_reader.specs.declared.line.Arriving.TheVariants as arriving
use Rattle.script_reader.specs.declared.line.Line.TheVariants as lines
use Rattle.script_reader.specs.Heads.{arriving_with}
use Rattle.two_worlds.specs.declared.pump.Pump.{Pump}
use Rattle.two_worlds.specs.Printing.{lines_in}
use Rattle.two_worlds.specs.Pumps.{row_of, is_down}
use Rattle.pump_chain.specs.Chained.{OfSecond, added, is_frame}
use Rattle.pump_chain.proofs.Applying.{order_is, still_both, still_prefixes, none_way}
use Rattle.pump_chain.proofs.Counting.{second_counts, serves_rose}
use Rattle.pump_chain.specs.Standing.{AreCounted}
use Rattle.pump_chain.proofs.Printing.{none_printed}
use Rattle.pump_chain.proofs.Stepping.{look_way, unread_applies, unread_prefixes, read_stands, look_applies, look_prefixes}
use Rattle.pump_chain.specs.Failing.{FailsNoLess}
use Rattle.pump_chain.proofs.Failing.{goes_later, reads_later, alone_later}
use Rattle.pump_chain.proofs.chain.Chain.step.Goals as goal

pub returns-then-moment-clause-applies : goal.returns-then-moment-clause-applies
returns-then-moment-clause-applies g c = λ told s stands.
    let last = c.moment.ensures in
    let test = c.if-moment.true in
    let line = lines.Look (row_of c.args.self.now.second).id c.args.moment c.args.word (added s) in
    (inl (sym (order_is g.D.Disk.told c.args.self.now s line stands) ∙ lt-leb _ _ (omega (arith, last, test))), none_printed c.args.events.now.items c.requires.none, stands, still_both g.D.Disk.told c.args.self.now s stands)

pub returns-then-moment-clause-crashes : goal.returns-then-moment-clause-crashes
returns-then-moment-clause-crashes g c = λ told s stands. still_prefixes g.D.Disk.told c.args.self.now s stands

pub returns-in-Err-clause-applies : goal.returns-in-Err-clause-applies
returns-in-Err-clause-applies g c = λ told s stands.
    let last = c.moment.ensures in
    let test = c.if-moment.false in
    let e = c.in-Err.ensures in
    let line = lines.Look (row_of c.args.self.now.second).id c.args.moment c.args.word (added s) in
    unread_applies g.D.Disk.told c.args.self.now s stands c.add.new.self (row_of c.args.self.now.second).id c.args.moment c.args.word (added s) (lines_in c.args.events.now.items) c.in-Err.device.faults (sym (order_is g.D.Disk.told c.args.self.now s line stands) ∙ le-leb _ _ (omega (arith, last, test)))
    (e.message told s stands) (none_printed c.args.events.now.items c.requires.none) e.fails e.second e.device

pub returns-in-Err-clause-crashes : goal.returns-in-Err-clause-crashes
returns-in-Err-clause-crashes g c = λ told s stands. unread_prefixes g.D.Disk.told c.args.self.now s stands c.add.new.self c.in-Err.ensures.fails c.in-Err.ensures.second

pub apply_head-stop-requires-clause-up : goal.apply_head-stop-requires-clause-up
apply_head-stop-requires-clause-up g c = ap (λ (x : Pump _ _). is_down x) c.in-Ok.ensures.second ∙ (or_parts _ _ c.requires.up).1

pub returns-clause-applies : goal.returns-clause-applies
returns-clause-applies g c = λ told s stands.
    let m = g.D.Disk.told in
    let was = c.args.self.now in
    let u = c.add.new.self in
    let e = c.in-Ok.ensures in
    let a = c.apply_head-stop.ensures in
    let stop = c.apply_head-stop.result in
    let last = c.moment.ensures in
    let test = c.if-moment.false in
    let line = lines.Look (row_of was.second).id c.args.moment c.args.word (added s) in
    let arrives : arriving_with c.as_slice.result.now c.in-Ok.arrival ≡ added s = ap (λ (bytes : _). arriving_with bytes c.in-Ok.arrival) c.as_slice.ensures.value ∙ e.adds told s stands in
    let id : c.row.result.now.id ≡ (row_of was.second).id = ap (λ (r : _). r.id) c.row.ensures ∙ ap (λ (x : Pump _ _). (row_of x).id) e.second in
    let same : lines.Look c.row.result.now.id c.args.moment c.args.word (arriving_with c.as_slice.result.now c.in-Ok.arrival) ≡ lines.Look (row_of was.second).id c.args.moment c.args.word (added s) = λ i. lines.Look (id i) c.args.moment c.args.word (arrives i) in
    let way = none_way u.is_under_way stop c.either-self.result (c.either-self.ensures ∙ ap (λ b. u.is_under_way || b) c.is_applied-applied.ensures) in
    let sent = look_way u.sender s.sender c.is_frame.result (added s) c.apply_head-stop.new.events.items c.as_slice-2.result.now stop c.is_applied-applied.result c.looked.new.self (e.sender ∙ stands.sender) (c.is_frame.ensures c.add.new.payload ∙ ap (λ (a : Arriving). is_frame a) (e.adds told s stands)) c.as_slice-2.ensures.value c.is_applied-applied.ensures c.looked.ensures in
    look_applies m was s stands u e.reads e.second e.sender e.under_way _ (row_of was.second).id c.args.moment c.args.word same (lines_in c.apply_head-stop.new.events.items) stop _ a.serve (a.applies told s.second.past (read_stands m was s stands u e.reads e.second e.sender e.under_way).second) a.row refl (sym (order_is m was s line stands) ∙ le-leb _ _ (omega (arith, last, test)))
    (λ none. (way.0 none, sent.0 none)) (λ refused. (way.1 refused, sent.1 refused))

pub returns-clause-crashes : goal.returns-clause-crashes
returns-clause-crashes g c = λ told s stands.
    let m = g.D.Disk.told in
    let was = c.args.self.now in
    let u = c.add.new.self in
    let e = c.in-Ok.ensures in
    let a = c.apply_head-stop.ensures in
    let stop = c.apply_head-stop.result in
    let arrives : arriving_with c.as_slice.result.now c.in-Ok.arrival ≡ added s = ap (λ (bytes : _). arriving_with bytes c.in-Ok.arrival) c.as_slice.ensures.value ∙ e.adds told s stands in
    let id : c.row.result.now.id ≡ (row_of was.second).id = ap (λ (r : _). r.id) c.row.ensures ∙ ap (λ (x : Pump _ _). (row_of x).id) e.second in
    let same : lines.Look c.row.result.now.id c.args.moment c.args.word (arriving_with c.as_slice.result.now c.in-Ok.arrival) ≡ lines.Look (row_of was.second).id c.args.moment c.args.word (added s) = λ i. lines.Look (id i) c.args.moment c.args.word (arrives i) in
    look_prefixes m was s stands u e.reads e.second e.sender e.under_way _ (row_of was.second).id c.args.moment c.args.word same (lines_in c.apply_head-stop.new.events.items) stop c.apply_head-stop.new.self (a.applies told s.second.past (read_stands m was s stands u e.reads e.second e.sender e.under_way).second) a.row

pub returns-in-Err-clause-later : goal.returns-in-Err-clause-later
returns-in-Err-clause-later g c =
    let m = g.D.Disk.told in (
      reads_later m c.args.self.now.first c.add.new.self.first true c.in-Err.ensures.fails.alone,
      alone_later m c.args.self.now.second c.add.new.self.second c.in-Err.ensures.second,
    )

pub returns-clause-later : goal.returns-clause-later
returns-clause-later g c =
    let m = g.D.Disk.told in
    let t = c.apply_head-stop.new.self in (
      reads_later m c.args.self.now.first c.add.new.self.first false c.in-Ok.ensures.reads.alone,
      subst (λ (x : Pump _ _). FailsNoLess m x t) c.in-Ok.ensures.second (goes_later m c.add.new.self.second t c.apply_head-stop.result c.apply_head-stop.ensures.serve),
    )

pub returns-then-moment-clause-down : goal.returns-then-moment-clause-down
returns-then-moment-clause-down g c = c.requires.up

pub returns-then-moment-clause-device : goal.returns-then-moment-clause-device
returns-then-moment-clause-device g c = tt

pub returns-then-moment-clause-later : goal.returns-then-moment-clause-later
returns-then-moment-clause-later g c = (alone_later g.D.Disk.told c.args.self.now.first c.args.self.now.first refl, alone_later g.D.Disk.told c.args.self.now.second c.args.self.now.second refl)

pub returns-in-Err-clause-down : goal.returns-in-Err-clause-down
returns-in-Err-clause-down g c = ap (λ (b : Bool). b || is_down c.add.new.self.second) c.in-Err.ensures.fails.alone.down

pub returns-in-Err-clause-device : goal.returns-in-Err-clause-device
returns-in-Err-clause-device g c = inr (refl, refl, (serves_rose g.D.Disk.told _ _ _ c.in-Err.ensures.fails.alone.serves, c.in-Err.ensures.device))

pub returns-clause-device : goal.returns-clause-device
returns-clause-device g c =
    let m = g.D.Disk.told in
    let u = c.add.new.self in
    let t = c.apply_head-stop.new.self in
    let stop = c.apply_head-stop.result in
    let line = lines.Look (row_of c.args.self.now.second).id c.args.moment c.args.word arriving.Nothing in
    let given = lines.Look c.row.result.now.id c.args.moment c.args.word (arriving_with c.as_slice.result.now c.in-Ok.arrival) in
    subst (λ (x : Pump _ _). AreCounted m (OfSecond line) c.args.self.now.first u.first x t stop) c.in-Ok.ensures.second (second_counts m c.args.self.now.first u.first u.second t line given (lines_in c.apply_head-stop.new.events.items) stop c.apply_head-stop.ensures.serve c.apply_head-stop.ensures.on)

pub returns-clause-down : goal.returns-clause-down
returns-clause-down g c = ap (λ (b : Bool). b || is_down c.apply_head-stop.new.self) c.in-Ok.ensures.reads.alone.down ∙ c.apply_head-stop.ensures.down
