use Rattle.std.proofs.Common.{ap, inl, length, refl, arith}
use Rattle.script_reader.specs.Lines.{LineReading}
use Rattle.script_reader.specs.Heads.{lined_with}
use Rattle.script_reader.proofs.LineEnds.{too_long, bad_come, not_ready}
use Rattle.script_reader.proofs.NextLaws.{first_next, last_next}
use Rattle.script_reader.proofs.ReadLaws.{first_reads, last_reads}
use Rattle.script_reader.proofs.lines.Lines.next_head.Goals as goal

pub returns-in-Ended-clause-next : goal.returns-in-Ended-clause-next
returns-in-Ended-clause-next g c =
    let s = c.self.inside in
    let old : LineReading = record { held = s.room; number = s.number } in
    let now : LineReading = record { held = c.first_line.new.self; number = s.number } in
    rw (← c.self.view_is) (first_next old now c.first.new.self _ _ c.in-Ended.len (lined_with c.first.new.body c.first.result)
    c.first_line.ensures.kept refl c.first_line.ensures.short c.in-Ended.ensures.first c.first.ensures.first)

pub returns-in-Ended-clause-reads : goal.returns-in-Ended-clause-reads
returns-in-Ended-clause-reads g c =
    let s = c.self.inside in
    let old : LineReading = record { held = s.room; number = s.number } in
    let now : LineReading = record { held = c.first_line.new.self; number = s.number } in
    rw (← c.self.view_is) (first_reads old now c.first.new.self _ _ c.in-Ended.len (lined_with c.first.new.body c.first.result)
    c.first_line.ensures.reads c.in-Ended.ensures.first c.first.ensures.first)

pub returns-in-Long-clause-next : goal.returns-in-Long-clause-next
returns-in-Long-clause-next g c =
    let held = c.first_line.new.self in
    let is = c.in-Long.ensures.first in
    rw (← c.self.view_is, c.refuse.ensures) (
      c.first_line.ensures.kept,
      inl (bad_come _ _ held c.first_line.ensures.kept (λ more. too_long held more is.0 is.1)),
      refl,
      c.first_line.ensures.short,
    )

pub returns-in-Long-clause-reads : goal.returns-in-Long-clause-reads
returns-in-Long-clause-reads g c =
    let long = c.in-Long.ensures.first.1 in
    rw (← c.self.view_is, c.refuse.ensures) (c.first_line.new.self, c.first_line.ensures.reads, (refl, λ e. (let l = ap length e in absurd (omega (arith, long, l)))))

pub returns-in-Unended-clause-next : goal.returns-in-Unended-clause-next
returns-in-Unended-clause-next g c =
    let s = c.self.inside in
    let old : LineReading = record { held = s.room; number = s.number } in
    let now : LineReading = record { held = c.first_line.new.self; number = s.number } in
    let is = c.in-Unended.ensures.first in
    rw (← c.self.view_is) (last_next old now c.last.new.self _ _ (lined_with c.args.body.now c.last.result) c.first_line.ensures.kept refl is.1 is.0 c.first_line.ensures.short
    (λ none. (ap (lined_with c.args.body.now) (c.last.ensures.end none).0, (c.last.ensures.end none).1))
    (λ some. (ap (lined_with c.args.body.now) (c.last.ensures.bad some).0, (c.last.ensures.bad some).1)))

pub returns-in-Unended-clause-reads : goal.returns-in-Unended-clause-reads
returns-in-Unended-clause-reads g c =
    let s = c.self.inside in
    let old : LineReading = record { held = s.room; number = s.number } in
    let now : LineReading = record { held = c.first_line.new.self; number = s.number } in
    rw (← c.self.view_is) (last_reads old now c.last.new.self _ _ (lined_with c.args.body.now c.last.result) c.first_line.ensures.reads
    (λ none. (ap (lined_with c.args.body.now) (c.last.ensures.end none).0, (c.last.ensures.end none).1))
    (λ some. (ap (lined_with c.args.body.now) (c.last.ensures.bad some).0, (c.last.ensures.bad some).1)))

pub returns-in-Failed-clause-next : goal.returns-in-Failed-clause-next
returns-in-Failed-clause-next g c = rw (← c.self.view_is) (
  c.first_line.ensures.kept,
  refl,
  c.first_line.ensures.short,
  not_ready c.first_line.new.self c.in-Failed.ensures.first,
)

pub returns-in-Failed-clause-reads : goal.returns-in-Failed-clause-reads
returns-in-Failed-clause-reads g c = rw (← c.self.view_is) (c.first_line.new.self, c.first_line.ensures.reads, (refl, c.in-Failed.ensures.first))
