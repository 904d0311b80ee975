use Rattle.std.proofs.Common.{inl, inr, None, refl, sym, ap, ◌∙◌, subst}
use Rattle.std.proofs.lemmas.List.Elements.{All-nil}
use Rattle.recovery.specs.declared.trio.Trio.{Trio}
use Rattle.script_reader.specs.Openings.{first_past}
use Rattle.two_worlds.specs.declared.pump.Pump.{Pump}
use Rattle.world_laws.specs.Disks.{CrashesOpen}
use Rattle.two_worlds.specs.Pumps.{StandsFor, row_of}
use Rattle.pump_chain.specs.Opening.{trio_of, HaveRoom, AreLeft, IsApart, IsExcused}
use Rattle.pump_chain.specs.declared.six.Six.{Six}
use Rattle.pump_chain.specs.Standing.{IsSentOn}
use Rattle.pump_chain.proofs.Ending.{Closes, apart_by, closed_back, excused_by, left_then, never_apart, never_unopened, not_opened, room_read, rows_by}
use Rattle.pump_chain.proofs.chain.Chain.open.Goals as goal

pub returns-in-Ok-compare-clause-stands : goal.returns-in-Ok-compare-clause-stands
returns-in-Ok-compare-clause-stands g c = λ told f h F H.
    let m = g.D.Disk.told in
    let made = c.of-chain.ensures in
    let e = c.in-Ok-compare.ensures in
    let p = first_past c.args.one.now f in
    let q = first_past c.args.two.now h in
    let first : StandsFor m c.of-chain.result.first p = subst (λ (x : Pump _ _). StandsFor m x p) (sym made.first) (c.in-Ok.ensures.stands told f F) in
    let second : StandsFor m c.of-chain.result.second q = subst (λ (x : Pump _ _). StandsFor m x q) (sym made.second) (c.in-Ok-open_one.ensures.stands told h H) in
    record {
      first = e.stands.0 p first;
      first_row = e.read.0.row ∙ ap (λ (x : Pump _ _). row_of x) made.first ∙ c.in-Ok.ensures.row;
      second = e.stands.1 q second;
      second_row = e.read.1.row ∙ ap (λ (x : Pump _ _). row_of x) made.second ∙ c.in-Ok-open_one.ensures.row;
      sender = e.sender ∙ made.sender;
      under_way = e.under_way ∙ made.under_way;
      linked = e.linked told p q first second;
      waits = All-nil (IsSentOn p.world.received);
    }

pub returns-in-Ok-compare-clause-rows : goal.returns-in-Ok-compare-clause-rows
returns-in-Ok-compare-clause-rows g c =
    let made = c.of-chain.ensures in
    let e = c.in-Ok-compare.ensures in
    (e.read.0.row ∙ ap (λ (x : Pump _ _). row_of x) made.first ∙ c.in-Ok.ensures.row, e.read.1.row ∙ ap (λ (x : Pump _ _). row_of x) made.second ∙ c.in-Ok-open_one.ensures.row)

pub returns-in-Ok-compare-clause-left : goal.returns-in-Ok-compare-clause-left
returns-in-Ok-compare-clause-left g c =
    let m = g.D.Disk.told in
    let one = c.args.one.now in
    let two = c.args.two.now in
    let disks = c.args.disks in
    let made = c.of-chain.result in
    let now = c.compare.new.self in
    let e = c.in-Ok-compare.ensures in
    let first : AreLeft m one disks.first (trio_of made.first) None = subst (λ (x : Pump _ _). AreLeft m one disks.first (trio_of x) None) (sym c.of-chain.ensures.first) c.in-Ok.ensures.left in
    let second : AreLeft m two disks.second (trio_of made.second) None = subst (λ (x : Pump _ _). AreLeft m two disks.second (trio_of x) None) (sym c.of-chain.ensures.second) c.in-Ok-open_one.ensures.left in
    (left_then m one disks.first made.first now.first None first e.read.0, left_then m two disks.second made.second now.second None second e.read.1)

pub returns-in-Ok-compare-clause-room : goal.returns-in-Ok-compare-clause-room
returns-in-Ok-compare-clause-room g c = λ plan room more.
    let m = g.D.Disk.told in
    let one = c.args.one.now in
    let two = c.args.two.now in
    let made = c.of-chain.result in
    let now = c.compare.new.self in
    let e = c.in-Ok-compare.ensures in
    let first : HaveRoom m one (trio_of made.first) = subst (λ (x : Pump _ _). HaveRoom m one (trio_of x)) (sym c.of-chain.ensures.first) (c.in-Ok.ensures.room plan room) in
    let second : HaveRoom m two (trio_of made.second) = subst (λ (x : Pump _ _). HaveRoom m two (trio_of x)) (sym c.of-chain.ensures.second) (c.in-Ok-open_one.ensures.room plan more) in
    (room_read m plan one made.first now.first first e.read.0, room_read m plan two made.second now.second second e.read.1)

pub returns-in-Err-clause-back : goal.returns-in-Err-clause-back
returns-in-Err-clause-back g c = inl (not_opened g.D.Disk.told c.args.one.now c.args.disks.first _ _ _ _ c.given_back-first.ensures c.cause-why.ensures c.in-Err.ensures.back, refl)

pub returns-in-Err-clause-stops : goal.returns-in-Err-clause-stops
returns-in-Err-clause-stops g c = λ told f h F H prefix. subst IsExcused (sym c.cause-why.ensures) (c.in-Err.ensures.stops told f F)

pub returns-in-Err-clause-never : goal.returns-in-Err-clause-never
returns-in-Err-clause-never g c = λ plan room more. never_unopened g.D.Disk.told plan c.args.one.now c.args.disks.first c.given_back-first.result room c.cause-why.result
    (not_opened g.D.Disk.told c.args.one.now c.args.disks.first _ _ _ _ c.given_back-first.ensures c.cause-why.ensures c.in-Err.ensures.back)

pub returns-in-Err-open_one-clause-back : goal.returns-in-Err-open_one-clause-back
returns-in-Err-open_one-clause-back g c =
    let made = c.in-Ok.ensures in
    inr (inl (
      closed_back g.D.Disk.told c.args.one.now c.args.disks.first c.close_one-first.result c.in-Ok.pump c.close_one-first.ensures.disks made.found made.left made.row c.close_one-first.ensures.crashes,
      not_opened g.D.Disk.told c.args.two.now c.args.disks.second _ _ _ _ c.given_back-second.ensures c.cause-why-in-Err-open_one.ensures c.in-Err-open_one.ensures.back,
    ))

pub returns-in-Err-open_one-clause-stops : goal.returns-in-Err-open_one-clause-stops
returns-in-Err-open_one-clause-stops g c = λ told f h F H prefix. subst IsExcused (sym c.cause-why-in-Err-open_one.ensures) (c.in-Err-open_one.ensures.stops told h H)

pub returns-in-Err-open_one-clause-never : goal.returns-in-Err-open_one-clause-never
returns-in-Err-open_one-clause-never g c = λ plan room more. never_unopened g.D.Disk.told plan c.args.two.now c.args.disks.second c.given_back-second.result more c.cause-why-in-Err-open_one.result
    (not_opened g.D.Disk.told c.args.two.now c.args.disks.second _ _ _ _ c.given_back-second.ensures c.cause-why-in-Err-open_one.ensures c.in-Err-open_one.ensures.back)

pub returns-in-Err-compare-clause-back : goal.returns-in-Err-compare-clause-back
returns-in-Err-compare-clause-back g c =
    let m = g.D.Disk.told in
    let one = c.args.one.now in
    let two = c.args.two.now in
    let disks = c.args.disks in
    let made = c.of-chain.result in
    let are = c.of-chain.ensures in
    let now = c.compare.new.self in
    let e = c.in-Err-compare.ensures in
    let closed = c.close.ensures in
    let rows = rows_by m made.first now.first made.second now.second c.in-Err-compare.why e.ends in
    let first : Closes m one disks.first made.first now.first = record {
      found = c.in-Ok.ensures.found;
      left = subst (λ (x : Pump _ _). AreLeft m one disks.first (trio_of x) None) (sym are.first) c.in-Ok.ensures.left;
      row_is = ap (λ (x : Pump _ _). row_of x) are.first ∙ c.in-Ok.ensures.row;
      row_still = rows.0 ∙ ap (λ (x : Pump _ _). row_of x) are.first ∙ c.in-Ok.ensures.row;
      crashes = subst (λ (x : Trio _). CrashesOpen m (row_of now.first) x.low x.high x.recv) closed.first closed.open.0;
    } in
    let second : Closes m two disks.second made.second now.second = record {
      found = c.in-Ok-open_one.ensures.found;
      left = subst (λ (x : Pump _ _). AreLeft m two disks.second (trio_of x) None) (sym are.second) c.in-Ok-open_one.ensures.left;
      row_is = ap (λ (x : Pump _ _). row_of x) are.second ∙ c.in-Ok-open_one.ensures.row;
      row_still = rows.1 ∙ ap (λ (x : Pump _ _). row_of x) are.second ∙ c.in-Ok-open_one.ensures.row;
      crashes = subst (λ (x : Trio _). CrashesOpen m (row_of now.second) x.low x.high x.recv) closed.second closed.open.1;
    } in
    let apart = apart_by m one two disks made.first now.first made.second now.second first second c.in-Err-compare.why e.ends (λ told f h F H other.
    e.unlinked told (first_past one f) (first_past two h)
    (subst (λ (x : Pump _ _). StandsFor m x (first_past one f)) (sym are.first) (c.in-Ok.ensures.stands told f F))
    (subst (λ (x : Pump _ _). StandsFor m x (first_past two h)) (sym are.second) (c.in-Ok-open_one.ensures.stands told h H)) other) in
    inr (inr (subst (λ (x : Six _). IsApart m one two disks x c.in-Err-compare.why) (λ i. record { first = sym closed.first i; second = sym closed.second i }) apart))

pub returns-in-Err-compare-clause-stops : goal.returns-in-Err-compare-clause-stops
returns-in-Err-compare-clause-stops g c = λ told f h F H prefix.
    let m = g.D.Disk.told in
    let made = c.of-chain.result in
    let are = c.of-chain.ensures in
    let now = c.compare.new.self in
    let e = c.in-Err-compare.ensures in
    let p = first_past c.args.one.now f in
    let q = first_past c.args.two.now h in
    excused_by m made.first now.first made.second now.second q.world.accepted p.world.received prefix c.in-Err-compare.why e.ends
    (e.unlinked told p q (subst (λ (x : Pump _ _). StandsFor m x p) (sym are.first) (c.in-Ok.ensures.stands told f F)) (subst (λ (x : Pump _ _). StandsFor m x q) (sym are.second) (c.in-Ok-open_one.ensures.stands told h H)))

pub returns-in-Err-compare-clause-never : goal.returns-in-Err-compare-clause-never
returns-in-Err-compare-clause-never g c = λ plan room more.
    let m = g.D.Disk.told in
    let one = c.args.one.now in
    let two = c.args.two.now in
    let made = c.of-chain.result in
    let are = c.of-chain.ensures in
    let now = c.compare.new.self in
    never_apart m plan one two made.first now.first made.second now.second
    (subst (λ (x : Pump _ _). HaveRoom m one (trio_of x)) (sym are.first) (c.in-Ok.ensures.room plan room))
    (subst (λ (x : Pump _ _). HaveRoom m two (trio_of x)) (sym are.second) (c.in-Ok-open_one.ensures.room plan more)) c.in-Err-compare.why c.in-Err-compare.ensures.ends
