use Rattle.disk_model.proofs.ShelfCalls.{whole_ended}
use Rattle.disk_model.proofs.mem_shelf.MemShelfShelf.whole.Goals as goal

pub returns : goal.returns
returns g c =
    let all = whole_ended g.D.Disk.told c.args.name.now c.args.self.now c.read.new.self c.args.into.now c.read.new.into c.read.result c.read.ensures in
    record {
      reads = all.reads;
      disks = all.disks;
      files = all.files;
      cause = all.cause;
      disk_faults = all.disk_faults;
      fails = all.fails;
      no_memory = all.no_memory;
      ok = all.ok;
      err = all.err;
      stays = all.stays;
    }
