use Rattle.std.proofs.Common.{◌≡◌, ◌≤◌, ℕ, List, drop}
use Rattle.disk_model.specs.Disk.{Moves, Same}
use Rattle.stable_buffer.specs.Register.{IsReady, register_value}
use Rattle.high_receiver.specs.Records.{RecordsFrom, HasSome}
use Rattle.high_receiver.proofs.reading.place.Given as goal

abbrev pub invariant-loop : goal.invariant-loop
invariant-loop g l =
    let m = g.D.Disk.told in
    let r = l.initial.register in
    record {
      ready : IsReady m l.register;
      value : register_value l.register ≡ register_value r;
      within : l.at ≤ r.second;
      place : m.tells → (most : ℕ) (messages : List (List ℕ)) → HasSome most messages l.counter r.second (m.reading r.disk) → RecordsFrom most (drop l.counter messages) l.at r.second (m.reading r.disk);
      moves : Moves m Same r.disk l.register.disk;
      count : m.count r.disk ≤ m.count l.register.disk;
      room : m.tells_plan → m.room l.register.disk ≡ m.room r.disk;
      armed : m.tells_plan → m.armed l.register.disk ≡ m.armed r.disk;
    }
