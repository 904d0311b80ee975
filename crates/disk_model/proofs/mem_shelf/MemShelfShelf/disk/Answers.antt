use Rattle.disk_model.proofs.ShelfCalls.{disk_ended}
use Rattle.disk_model.proofs.mem_shelf.MemShelfShelf.disk.Goals as goal

pub returns : goal.returns
returns g c =
    let all = disk_ended g.D.Disk.told c.args.name c.args.self.now c.take.new.self c.take.result c.take.ensures in
    record {
      reads = all.reads;
      out = all.out;
      none = all.none;
      others = all.others;
      files = all.files;
      cause = all.cause;
      faults = all.faults;
      fails = all.fails;
      given = all.given;
      ok = all.ok;
      failed = all.failed;
      memory = all.memory;
    }
