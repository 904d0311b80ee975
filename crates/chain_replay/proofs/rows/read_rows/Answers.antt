use Rattle.std.proofs.Common.{refl}
use Rattle.chain_replay.specs.Scripts.{NoPump, OnePump}
use Rattle.chain_replay.proofs.Reading.{read_none, row_begins, row_refused, halted_later}
use Rattle.chain_replay.proofs.rows.read_rows.Goals as goal

pub returns-in-Err-next_row-clause-halted : goal.returns-in-Err-next_row-clause-halted
returns-in-Err-next_row-clause-halted g c = λ o.
    let all = g.I.Source.left c.args.script.now in
    let row = c.in-Ok.ensures.row o all NoPump tt (read_none o c.args.lines.now all c.requires.fresh) in
    let read = row_begins o all (g.I.Source.left c.next_row.new.script) c.next_row.new.lines NoPump c.in-Ok.row row c.next_row.ensures.number (OnePump c.in-Ok.row) (c.in-Ok.ensures.lawful, refl, refl) in (
      OnePump c.in-Ok.row,
      tt,
      halted_later o all _ (g.I.Source.faults c.args.script.now) (g.I.Source.faults c.next_row.new.script) (g.I.Source.faults c.next_row-2.new.script) (OnePump c.in-Ok.row) c.in-Err-next_row.fault c.next_row.ensures.later
          (c.in-Err-next_row.ensures.halted o all (OnePump c.in-Ok.row) tt read),
    )

pub returns-then-not-may_follow-clause-halted : goal.returns-then-not-may_follow-clause-halted
returns-then-not-may_follow-clause-halted g c = λ o.
    let all = g.I.Source.left c.args.script.now in
    let row = c.in-Ok.ensures.row o all NoPump tt (read_none o c.args.lines.now all c.requires.fresh) in
    let read = row_begins o all (g.I.Source.left c.next_row.new.script) c.next_row.new.lines NoPump c.in-Ok.row row c.next_row.ensures.number (OnePump c.in-Ok.row) (c.in-Ok.ensures.lawful, refl, refl) in (
      OnePump c.in-Ok.row,
      tt,
      row_refused o all (g.I.Source.left c.next_row-2.new.script) c.next_row-2.new.lines (OnePump c.in-Ok.row) c.in-Ok-next_row.row (c.in-Ok-next_row.ensures.row o all (OnePump c.in-Ok.row) tt read) c.next_row-2.ensures.number
          c.number.result _ _ (c.if-not-may_follow.ensures.not refl) c.number.ensures,
    )

pub returns-clause-rows : goal.returns-clause-rows
returns-clause-rows g c = λ o.
    let all = g.I.Source.left c.args.script.now in
    let row = c.in-Ok.ensures.row o all NoPump tt (read_none o c.args.lines.now all c.requires.fresh) in
    let read = row_begins o all (g.I.Source.left c.next_row.new.script) c.next_row.new.lines NoPump c.in-Ok.row row c.next_row.ensures.number (OnePump c.in-Ok.row) (c.in-Ok.ensures.lawful, refl, refl) in
    c.in-Ok-next_row.ensures.row o all (OnePump c.in-Ok.row) tt read
