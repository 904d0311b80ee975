use Rattle.relay_tests.proofs.passage_tests.make.Given as goal

abbrev pub invariant-loop-call : goal.invariant-loop-call
invariant-loop-call g l = g.B.Bench.ready l.bench
