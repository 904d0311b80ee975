use Rattle.std.proofs.Common.{◌∙◌, refl, arith}
use Rattle.file_peers.proofs.Visiting.{so_far_none, turn_ends, turn_more}
use Rattle.file_peers.proofs.drop.send_files.Goals as goal

pub turns-init : goal.turns-init
turns-init g c = record {
  so_far = so_far_none _ _ _ _ _ _ _ _;
  may = c.requires;
  link_later = omega arith;
  later = omega arith;
  out_later = omega arith;
  kind = refl;
  session = refl;
}

pub returns-in-Some-clause-sends : goal.returns-in-Some-clause-sends
returns-in-Some-clause-sends g c =
    let was = c.turns.invariant in
    let t = rw was.session at c.in-Some.ensures.turn in
    turn_ends _ _ _ _ _ _ _ _ _ _ _ _ _ _ _ _ c.args.dropper.now c.turns.dropper _ was.so_far t.0 t.2 t.3 t.4 t.5 _ _ _ _ _ _ c.in-Some.end was.link_later was.out_later t.1

pub turns-preserved : goal.turns-preserved
turns-preserved g c =
    let was = c.turns.invariant in
    let e = c.in_default.ensures in
    let t = rw was.session at e.turn in
    record {
      so_far = turn_more _ _ g.O.File.Source.faults _ _ _ _ _ _ _ _ _ _ _ _ _ c.args.dropper.now c.turns.dropper _ was.so_far t.0 t.2 t.3 t.4 t.5 (record { link = 0; now_link = 0; out = 0; now_out = 0; other = 0; now_other = 0 }) t.1 e.message;
      may = e.ask refl;
      link_later = omega (arith, was.link_later, e.link_later);
      later = omega (arith, was.later, e.later);
      out_later = omega (arith, was.out_later, e.out_later);
      kind = e.frame.0;
      session = e.frame.1 ∙ was.session;
    }
