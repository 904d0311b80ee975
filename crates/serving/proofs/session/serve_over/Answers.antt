use Rattle.std.proofs.Common.{◌≡◌, ◌≤◌, Option, Some, refl, sym, ap, ◌∙◌, subst, arith}
use Rattle.pump_core.specs.Passage.{Shape, new_low, new_high}
use Rattle.low_process.specs.Looks.{row_of}
use Rattle.recovery.specs.Calls.{is_device}
use Rattle.recovery.specs.Deals.{numbered, passing}
use Rattle.relay_side.specs.Sides.{side}
use Rattle.relay_side.specs.declared.side.RelaySide.{RelaySide}
use Rattle.relay_threads.proofs.Levels.{still_end}
use Rattle.relay_threads.specs.declared.rounds_end.RoundsEnd.{RoundsEnd}
use Rattle.script_reader.proofs.Opened.{row_capacity}
use Rattle.stable_buffer.specs.Low.{low_disk}
use Rattle.stable_buffer.specs.High.{high_disk}
use Rattle.rand_chacha.specs.ChaCha.{ChaCha}
use Rattle.serving.specs.Doors.{doors, links}
use Rattle.serving.specs.Finding.{AtOpening}
use Rattle.serving.specs.HighRuns.{HighDone}
use Rattle.serving.specs.Joined.{BothServed, EndsAsDone}
use Rattle.serving.specs.LowRuns.{LowDone}
use Rattle.serving.specs.PassageEnds.{end_tells}
use Rattle.serving.specs.Sessions.{IfEnded, SessionComes}
use Rattle.serving.specs.declared.high_half.HighParts.{HighParts}
use Rattle.serving.specs.declared.low_half.LowParts.{LowParts}
use Rattle.serving.specs.declared.session.SessionEnd.{SessionEnd}
use Rattle.serving.proofs.Dealt.{comes_next, finds_both}
use Rattle.serving.proofs.HighServes.{high_done}
use Rattle.serving.proofs.Lent.{shut_unused, low_lent, high_lent}
use Rattle.serving.proofs.LowServes.{low_done, words_given}
use Rattle.serving.proofs.SentStored.{sent_is_stored}
use Rattle.serving.proofs.Opens.{high_calls, rose_so, ended_comes, no_door_comes, no_thread_comes}
use Rattle.serving.proofs.Unstarted.{by_end}
use Rattle.serving.proofs.session.serve_over.Goals as goal

pub open_pump_waiting-requires-clause-fresh : goal.open_pump_waiting-requires-clause-fresh
open_pump_waiting-requires-clause-fresh g c = (new_low, new_high, c.requires.low_end, refl)

pub start_low-low-requires-clause-ends : goal.start_low-low-requires-clause-ends
start_low-low-requires-clause-ends g c =
    let e = c.in-Ok.ensures in
    let o = c.in-Ok.opened in
    let row = c.args.serving.now.row.now in
    let wide = row_capacity row c.requires.lawful in
    let (messages, stands, dealt) = e.dealt in (
      record new_low { forwarded = passing row.capacity (numbered o.removed messages) },
      new_high,
      dealt.fills new_low new_high c.requires.low_end refl,
      comes_next row.capacity o.removed o.next messages o.high_hand o.low_hand wide.0 dealt.count dealt.places e.hands,
    )

-- ---- refused ----

pub returns-in-Err : goal.returns-in-Err
returns-in-Err g c =
    let e = c.in-Err.ensures in
    let r = c.in-Err.refused in
    rw c.refused_by.ensures (record {
      ended = tt;
      comes = record {
        opens = (rose_so g.D.Disk.told c.args.serving.now.row.now r.role (is_device r.why) c.args.parts.low c.args.parts.high r.low r.high e.role e.calls_low e.calls_high, e.exact);
        wanting = λ is. absurd (cc);
        unstarted = λ is. absurd (cc);
        closed = λ none. (refl, refl);
        idle = λ none. (refl, refl, refl);
        still = λ none told. (e.moves_low.reads told, e.moves_high.reads told);
        counts = (e.calls_low.counts, high_calls g.D.Disk.told c.args.serving.now.row.now c.args.parts.low c.args.parts.high r.high _ e.calls_high);
      };
    })

-- ---- opened, but a door was wanting ----

pub returns-in-Err-open_doors : goal.returns-in-Err-open_doors
returns-in-Err-open_doors g c =
    let e = c.in-Ok.ensures in
    let m = g.D.Disk.told in
    let row = c.args.serving.now.row.now in
    let low = ap low_disk c.start_low-low.ensures.begins.store_is in
    let high = ap high_disk c.start_high-high.ensures.begins.store_is in
    rw c.parts_of.ensures (record {
      ended = tt;
      comes = no_door_comes g.P.Ports.did g.P.Ports.faults m row c.args.low_side.now c.args.high_side.now _ _ c.args.tape.now c.args.tape.now c.args.parts.low c.args.parts.high (low_disk c.start_low-low.result.store) (high_disk c.start_high-high.result.store)
          e.fine
          (subst (λ d. m.count c.args.parts.low ≤ m.count d) (sym low) e.calls_low.counts, subst (λ d. m.count c.args.parts.high ≤ m.count d) (sym high) (high_calls m row c.args.parts.low c.args.parts.high (high_disk c.in-Ok.opened.high) _ e.calls_high))
          (refl, refl, refl) (λ told. (ap m.reading low ∙ e.moves_low.reads told, ap m.reading high ∙ e.moves_high.reads told))
          c.in-Err-open_doors.ensures.wanting;
    })

-- ---- both works were to run ----

pub returns : goal.returns
returns g c =
    let e = c.in-Ok.ensures in
    let p = c.in-Ok.opened in
    let row = c.args.serving.now.row.now in
    let rounds = c.args.serving.now.rounds in
    let m = g.D.Disk.told in
    let did = g.P.Ports.did in
    let faults = g.P.Ports.faults in
    let reads = g.K.Clock.reads in
    let written = g.O.Sink.written in
    let counts = g.O.Sink.faults in
    let t = doors g.P.Door.Door.port g.P.Door.Door.did g.P.Door.Door.gives (links g.P.Link.Link.gives g.P.Link.Link.sent g.P.Link.Link.faults) in
    let le = end_tells g.L.LowSide.stands g.L.LowSide.shape g.L.LowSide.place in
    let he = end_tells g.H.HighSide.stands g.H.HighSide.shape g.H.HighSide.place in
    let s = c.start_low-low in
    let h = c.start_high-high in
    let d = c.in-Ok-open_doors in
    let run = c.serve_halves-served in
    let left = c.close-low in
    let right = c.close-high in
    -- the sides when the works are done, the tape and the halves
    let low_now = run.new.low_side in
    let high_now = run.new.high_side in
    let tape_now = run.new.tape in
    let low_half = run.new.low in
    let high_half = run.new.high in
    let low_last : RelaySide g.row.P.Denot g.row.K.Denot = record { ports = left.new.ports; clock = low_now.clock } in
    let high_last : RelaySide g.row.P.Denot g.row.K.Denot = record { ports = right.new.ports; clock = high_now.clock } in
    let low_opened : RelaySide g.row.P.Denot g.row.K.Denot = record { ports = c.open_doors.new.low_ports; clock = c.args.low_side.now.clock } in
    let high_opened : RelaySide g.row.P.Denot g.row.K.Denot = record { ports = c.open_doors.new.high_ports; clock = c.args.high_side.now.clock } in
    let Holds : SessionEnd → Type 0 = λ end.
    IfEnded end (λ how_low how_high. EndsAsDone le he row c.args.parts.low_end c.args.parts.high_end left.result.0.ends right.result.0.ends
    (λ l h. (b : BothServed t m row rounds c.args.serving.now.key (side did faults reads c.args.low_side.now low_last) (side did faults reads c.args.high_side.now high_last)
    (written c.args.tape.now) (written tape_now) (counts c.args.tape.now) (counts tape_now) c.args.parts.low c.args.parts.high (low_disk left.result.0.store) (high_disk right.result.0.store) how_low how_high) × (b.l ≡ l) × (b.h ≡ h)))
    × SessionComes did faults m row c.args.low_side.now c.args.high_side.now low_last high_last c.args.tape.now tape_now c.args.parts.low c.args.parts.high (low_disk left.result.0.store) (high_disk right.result.0.store) end in
    let low_counts = e.calls_low.counts in
    let high_counts = high_calls m row c.args.parts.low c.args.parts.high (high_disk p.high) _ e.calls_high in
    let low_was = ap (λ x. m.count (low_disk x)) s.ensures.begins.store_is in
    let high_was = ap (λ x. m.count (high_disk x)) h.ensures.begins.store_is in
    let both = by_end run.result left.result.1 right.result.1 c.workers_end.result c.workers_end.ensures _ _ _ Holds run.ensures.low run.ensures.high run.ensures.kept
    (λ low_ran high_ran.
    let LowIs : LowParts ChaCha g.row.D.Denot g.row.L.Denot × RoundsEnd → Type 0 =
    λ x. LowDone t m words_given le (side did faults reads low_opened low_now) (written c.args.tape.now) (written tape_now) (counts c.args.tape.now) (counts tape_now) rounds (Some d.doors.0) low_half.door s.result x.0 x.1 in
    let HighIs : HighParts g.row.D.Denot g.row.H.Denot × RoundsEnd → Type 0 =
    λ x. HighDone t m he (side did faults reads high_opened high_now) rounds (Some d.doors.1) high_half.door h.result x.0 x.1 in
    let low = low_lent did faults c.args.low_side.now low_now c.open_doors.new.low_ports left.new.ports row.low_port d.doors.0 low_half.door d.ensures.low.0
    t m reads rounds left.result.1 d.ensures.low.1 d.ensures.low.2 left.ensures.none words_given le _ _ _ _ s.result left.result.0
    (subst LowIs (sym left.ensures.parts) low_ran) in
    let high = high_lent did faults c.args.high_side.now high_now c.open_doors.new.high_ports right.new.ports row.high_port d.doors.1 high_half.door d.ensures.high.0
    t m reads rounds right.result.1 d.ensures.high.1 d.ensures.high.2 right.ensures.none he h.result right.result.0
    (subst HighIs (sym right.ensures.parts) high_ran) in
    let (messages, stands, dealt) = e.dealt in
    let o : AtOpening = record { count = p.next; removed = p.removed; messages = messages; high_hand = p.high_hand; low_hand = p.low_hand } in
    let found = finds_both m row o _ _ c.args.parts.low c.args.parts.high dealt e.hands stands e.removed in
    let wide = (row_capacity row c.requires.lawful).0 in
    let shape : g.L.LowSide.shape s.result.ends ≡ g.L.LowSide.shape c.args.parts.low_end = ap g.L.LowSide.shape s.ensures.begins.ends_are ∙ e.ends.0 in
    let (l, low_stands, low_served) =
    low_done t m le row rounds c.args.serving.now.key (side did faults reads c.args.low_side.now low_last) _ _ _ _ o s.result left.result.0 p.low c.args.parts.low c.args.parts.high (low_disk left.result.0.store) left.result.1 low
    s.ensures.begins refl found e.moves_low.reads low_counts c.requires.lawful
    (still_end g.L.LowSide.stands g.L.LowSide.shape c.args.parts.low_end s.result.ends row (row_of s.result.process) shape s.ensures.begins.row_is c.requires.averages) (ap (λ (x : Shape). x.places) shape ∙ c.requires.shape)
    (s.ensures.begins.fits _ new_high (dealt.fills new_low new_high c.requires.low_end refl) (comes_next row.capacity p.removed p.next messages p.high_hand p.low_hand wide dealt.count dealt.places e.hands)) in
    let (high_end, high_stands, high_served) =
    high_done t m he row rounds (side did faults reads c.args.high_side.now high_last) o h.result right.result.0 p.high c.args.parts.high (high_disk right.result.0.store) right.result.1 high
    h.ensures.begins refl high_counts l (h.ensures.begins.fits l) in (
      record {
        low_still = (low.ran.still.0 ∙ shape, low.ran.still.1 ∙ ap g.L.LowSide.place s.ensures.begins.ends_are ∙ e.ends.1);
        high_still = (high.ran.still.0 ∙ ap g.H.HighSide.shape h.ensures.begins.ends_are, high.ran.still.1 ∙ ap g.H.HighSide.place h.ensures.begins.ends_are);
        l = l;
        h = high_end;
        low_stands = low_stands;
        high_stands = high_stands;
        done = λ fits. (record { o = o; found = found; l = l; h = high_end; low = low_served; high = high_served; fits = fits; sent = sent_is_stored m row o c.args.parts.low c.args.parts.high wide found _ l high_end low_served.did high_served.stays high_served.are high_served.did fits }, refl, refl);
      },
      ended_comes did faults m row c.args.low_side.now c.args.high_side.now low_last high_last c.args.tape.now tape_now c.args.parts.low c.args.parts.high (low_disk left.result.0.store) (high_disk right.result.0.store) e.fine
          ((let ran = low.ran.counts in omega (arith, low_counts, low_was, ran)), (let ran = high.ran.counts in omega (arith, high_counts, high_was, ran))) left.result.1 right.result.1,
    ))
    (λ kept.
    let (low_back, low_side_back, tape_back, high_back, high_side_back) = kept in
    let low : low_disk left.result.0.store ≡ low_disk p.low = ap (λ x. low_disk x.0.store) left.ensures.parts ∙ ap (λ x. low_disk x.parts.store) low_back ∙ ap low_disk s.ensures.begins.store_is in
    let high : high_disk right.result.0.store ≡ high_disk p.high = ap (λ x. high_disk x.0.store) right.ensures.parts ∙ ap (λ x. high_disk x.parts.store) high_back ∙ ap high_disk h.ensures.begins.store_is in (
      tt,
      no_thread_comes did faults m row c.args.low_side.now c.args.high_side.now low_last high_last c.args.tape.now tape_now c.args.parts.low c.args.parts.high (low_disk left.result.0.store) (high_disk right.result.0.store) e.fine
          (subst (λ x. m.count c.args.parts.low ≤ m.count x) (sym low) low_counts, subst (λ x. m.count c.args.parts.high ≤ m.count x) (sym high) high_counts)
          (ap (λ x. x.clock) low_side_back, ap (λ x. x.clock) high_side_back, tape_back) (λ told. (ap m.reading low ∙ e.moves_low.reads told, ap m.reading high ∙ e.moves_high.reads told)) (
            shut_unused did faults c.args.low_side.now low_now c.open_doors.new.low_ports left.new.ports row.low_port d.doors.0 low_half.door d.ensures.low.0 (ap (λ x. x.door) low_back) (ap (λ x. x.ports) low_side_back) left.ensures.some,
            shut_unused did faults c.args.high_side.now high_now c.open_doors.new.high_ports right.new.ports row.high_port d.doors.1 high_half.door d.ensures.high.0 (ap (λ x. x.door) high_back) (ap (λ x. x.ports) high_side_back) right.ensures.some,
          ),
    )) in
    rw c.parts_of-2.ensures (record { ended = both.0; comes = both.1 })
