use Rattle.std.proofs.Common.{◌≡◌, ◌-◌, ◌≤◌, false, drop}
use Rattle.disk_model.specs.Disk.{Moves, Same}
use Rattle.stable_buffer.specs.Register.{IsReady, register_value}
use Rattle.stable_buffer.specs.Log.{is_log, log_of}
use Rattle.recovery.proofs.records.fill_log.Given as goal

abbrev pub invariant-loop : goal.invariant-loop
invariant-loop g l =
    let m = g.D.Disk.told in
    let old = l.fn.register in
    let log = log_of l.end (m.reading old.disk) in
    record {
      ready : IsReady m l.register;
      value : register_value l.register ≡ register_value old;
      above : 80 ≤ l.at;
      below : l.at ≤ l.end;
      rest : m.tells → is_log l.most (l.count - l.counter) (drop (l.at - 80) log) ≡ is_log l.most l.count log;
      moves : Moves m Same old.disk l.register.disk;
      count : m.count old.disk ≤ m.count l.register.disk;
      room : m.tells_plan → m.room l.register.disk ≡ m.room old.disk;
      calm : m.tells_plan → m.armed l.register.disk ≡ false;
    }
