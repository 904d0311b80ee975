use Rattle.std.proofs.Common.{◌≡◌}
use Rattle.high_receiver.specs.Receiving.{IsRecvReady, recv_row}
use Rattle.command_tests.proofs.piece_tests.takes.Given as goal

abbrev pub invariant-loop-message : goal.invariant-loop-message
invariant-loop-message g l = record {
  ready : IsRecvReady g.D.Disk.told l.receiver;
  short : (recv_row l.receiver).message ≡ 16;
}
