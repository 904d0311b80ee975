use Rattle.std.proofs.Common.{◌≡◌, ◌+◌, ◌-◌, [], sym, ap, arith}
use Rattle.std.proofs.KnownBytes.{Consumes-nil}
use Rattle.peers.specs.declared.append.Appender.{Appender}
use Rattle.peers.specs.Appender.{coming, flight_of}
use Rattle.peers.specs.Appending.{link_tells}
use Rattle.peers.proofs.SendingLines.{consumes_start, read_ahead}
use Rattle.peers.proofs.Tries.{none_tried, no_look, no_link, goes_on, ends_here}
use Rattle.peers.proofs.append.append_with.Goals as goal

pub tries-init : goal.tries-init
tries-init g c =
    let is = c.new-appender.ensures.is in
    record {
      so_far = none_tried _ _ _ c.new-appender.result _ _ _ _ (sym (ap (λ (a : Appender). a.left) is)) (ap flight_of is) (ap (λ (a : Appender). a.frame.number) is) (ap (λ (a : Appender). a.lines) is) (consumes_start _ _ (ap (λ (a : Appender). a.script_lines) is));
      ready = c.new-appender.ensures.ready;
      session = ap (λ (a : Appender). a.frame.session) is;
      source_later = omega arith;
      out_later = omega arith;
    }

pub tries-preserved-in-Err : goal.tries-preserved-in-Err
tries-preserved-in-Err g c =
    let was = c.tries.invariant in
    let one : c.tries.appender.left ≡ c.tries.appender.left - 1 + 1 = omega (arith, c.tries-test.true) in
    record {
      so_far = no_link _ _ _ c.tries.appender _ _ _ _ _ _ was.so_far (c.tries.appender.left - 1) one _ c.in-Err.ensures.did;
      ready = record { kind = was.ready.kind; session = was.ready.session; short = was.ready.short; below = was.ready.below; ahead = was.ready.ahead; few = omega (arith, was.ready.few) };
      session = was.session;
      source_later = was.source_later;
      out_later = was.out_later;
    }

pub returns-in-Some-clause-appends : goal.returns-in-Some-clause-appends
returns-in-Some-clause-appends g c =
    let was = c.tries.invariant in
    let one : c.tries.appender.left ≡ c.tries.appender.left - 1 + 1 = omega (arith, c.tries-test.true) in
    let v = c.in-Some.ensures.visits in
    ends_here (link_tells g.P.Link.Link.gives g.P.Link.Link.sent g.P.Link.Link.faults) _ _ c.tries.appender _ _ _ _ _ _ was.so_far (c.tries.appender.left - 1) one _ c.visit-end.new.self _ (coming c.visit-end.new.self (g.I.Source.left c.visit-end.new.script)) (g.I.Source.left c.visit-end.new.script) _
    c.in-Ok.link c.visit-end.new.link c.in-Some.end v.0 v.1 c.in-Ok.ensures.did c.back.ensures.did v.2 v.3 v.4 v.5 (λ r taken. read_ahead r _ c.visit-end.new.self.script_lines taken c.visit-end.ensures.ready.ahead)

pub tries-preserved : goal.tries-preserved
tries-preserved g c =
    let was = c.tries.invariant in
    let one : c.tries.appender.left ≡ c.tries.appender.left - 1 + 1 = omega (arith, c.tries-test.true) in
    let v = c.in_default.ensures.visits in
    record {
      so_far = goes_on (link_tells g.P.Link.Link.gives g.P.Link.Link.sent g.P.Link.Link.faults) _ _ c.tries.appender _ _ _ _ _ _ was.so_far (c.tries.appender.left - 1) one _ c.visit-end.new.self _ _ _ c.in-Ok.link c.visit-end.new.link v.0 v.1
          c.in-Ok.ensures.did c.back.ensures.did v.2 v.3 v.4 v.5;
      ready = c.visit-end.ensures.ready;
      session = c.visit-end.ensures.session;
      source_later = omega (arith, was.source_later, c.visit-end.ensures.source_later);
      out_later = omega (arith, was.out_later, c.visit-end.ensures.later);
    }

pub returns-clause-appends : goal.returns-clause-appends
returns-clause-appends g c =
    let was = c.tries.invariant in
    no_look (link_tells g.P.Link.Link.gives g.P.Link.Link.sent g.P.Link.Link.faults) _ _ c.tries.appender _ _ _ _ _ _ was.so_far (g.I.Source.left c.tries.script) (omega (arith, c.tries-test.false))
    (read_ahead (coming c.tries.appender (g.I.Source.left c.tries.script)) (g.I.Source.left c.tries.script) c.tries.appender.script_lines ([], Consumes-nil _, omega arith) was.ready.ahead)
