-- What the clauses of a MemShelf's calls say follows from how the calls end.
use Rattle.std.proofs.Common.{◌≡◌, ◌↔◌, refl, ap, ℕ, List, Some, Result, Ok, Err, IfOk, OnOk, OnErr, arith}
use Rattle.pump_frame.specs.Counts.{raised}
use Rattle.disk_model.specs.Disk.{Meaning}
use Rattle.disk_model.specs.Shelf.{Out, FailsBy, LeavesOthers, ReadsFile, reading_given}
use Rattle.disk_model.specs.MemShelf.{MemoryShelf, mem_holdings, whereabouts, file_of, home_of, with_call_made, with_disk_out}
use Rattle.disk_model.specs.ShelfCalls.{IsRefused, ReadsWhole, TakesDisk}
use Rattle.disk_model.specs.declared.name.DiskName.{DiskName}
use Rattle.disk_model.specs.declared.shelf.ShelfFault.{ShelfFault}
use Rattle.disk_model.specs.declared.shelf.ShelfFault.TheVariants.{Failed, Memory}
use Rattle.disk_model.proofs.Homes.{at_home, taken, others_taken}

pub record WholeClauses {D : Type 0} (m : Meaning D) (name : List ℕ) (old new : MemoryShelf D) (before after : List ℕ) (result : Result ℕ ShelfFault) : Type 0 where
  pub reads : IfOk result (λ n. ReadsFile (file_of name old.files) before after n)
  pub disks : (mem_holdings m).disk new ≡ (mem_holdings m).disk old
  pub files : (mem_holdings m).file new ≡ (mem_holdings m).file old
  pub cause : FailsBy old.faults new.faults result
  pub disk_faults : new.disk_faults ≡ old.disk_faults
  pub fails : result ≡ Err Failed ↔ IsRefused old (file_of name old.files)
  pub no_memory : result ≡ Err Memory → ⊥
  pub ok : OnOk result (new ≡ with_call_made old)
  pub err : OnErr result (new ≡ record (with_call_made old) { faults = raised old.faults })
  pub stays : OnErr result (after ≡ before)

pub record DiskClauses {D : Type 0} (m : Meaning D) (name : DiskName) (old new : MemoryShelf D) (result : Result D ShelfFault) : Type 0 where
  pub reads : IfOk result (λ disk. reading_given ((mem_holdings m).disk old name) ≡ Some (m.reading disk))
  pub out : IfOk result (λ disk. (mem_holdings m).disk new name ≡ Out (m.count disk))
  pub none : OnErr result ((mem_holdings m).disk new ≡ (mem_holdings m).disk old)
  pub others : LeavesOthers (mem_holdings m) name old new
  pub files : (mem_holdings m).file new ≡ (mem_holdings m).file old
  pub cause : FailsBy old.disk_faults new.disk_faults result
  pub faults : new.faults ≡ old.faults
  pub fails : result ≡ Err Failed ↔ IsRefused old (home_of old name)
  pub given : IfOk result (λ disk. home_of old name ≡ Some disk)
  pub ok : IfOk result (λ disk. new ≡ with_disk_out (with_call_made old) name (m.count disk))
  pub failed : result ≡ Err Failed → new ≡ record (with_call_made old) { disk_faults = raised old.disk_faults }
  pub memory : result ≡ Err Memory → new ≡ with_call_made old

module _ {D : Type 0} (m : Meaning D) where
  pub whole_ended : (name : List ℕ) (old new : MemoryShelf D) (before after : List ℕ) (result : Result ℕ ShelfFault)
      → ReadsWhole name old new before after result → WholeClauses m name old new before after result
  whole_ended name old new before after (Ok n) ended = record {
    reads = ended.1;
    disks = ap (mem_holdings m).disk ended.2;
    files = ap (mem_holdings m).file ended.2;
    cause = record { later = omega (arith, ap (λ (s : MemoryShelf D). s.faults) ended.2); failed = λ q. cc };
    disk_faults = ap (λ (s : MemoryShelf D). s.disk_faults) ended.2;
    fails = (λ q. cc, λ refused. absurd (ended.0 refused));
    no_memory = λ q. cc;
    ok = ended.2;
    err = tt;
    stays = tt;
  }
  whole_ended name old new before after (Err Failed) ended = record {
    reads = tt;
    disks = ap (mem_holdings m).disk ended.2;
    files = ap (mem_holdings m).file ended.2;
    cause = record { later = ended.1; failed = λ q. omega (arith, ap (λ (s : MemoryShelf D). s.faults) ended.2) };
    disk_faults = ap (λ (s : MemoryShelf D). s.disk_faults) ended.2;
    fails = (λ q. ended.0, λ refused. refl);
    no_memory = λ q. cc;
    ok = tt;
    err = ended.2;
    stays = ended.3;
  }
  whole_ended name old new before after (Err Memory) ended = absurd ended

  pub disk_ended : (name : DiskName) (old new : MemoryShelf D) (result : Result D ShelfFault) → TakesDisk m name old new result → DiskClauses m name old new result
  disk_ended name old new (Ok disk) ended =
      let at = at_home m old name disk ended.1 in
      let outs = ap (λ (s : MemoryShelf D). s.outs) ended.2 in
      let disks = ap (λ (s : MemoryShelf D). s.disks) ended.2 in
      record {
        reads = λ i. reading_given (whereabouts m (at.0 i) (at.1 i));
        out = taken m old name new.outs new.disks (m.count disk) at.0 outs;
        none = tt;
        others = others_taken m old name new.outs new.disks (m.count disk) outs disks;
        files = ap (mem_holdings m).file ended.2;
        cause = record { later = omega (arith, ap (λ (s : MemoryShelf D). s.disk_faults) ended.2); failed = λ q. cc };
        faults = ap (λ (s : MemoryShelf D). s.faults) ended.2;
        fails = (λ q. cc, λ refused. absurd (ended.0 refused));
        given = ended.1;
        ok = ended.2;
        failed = λ q. cc;
        memory = λ q. cc;
      }
  disk_ended name old new (Err Failed) ended = record {
    reads = tt;
    out = tt;
    none = ap (mem_holdings m).disk ended.2;
    others = λ other apart. ap (λ s. (mem_holdings m).disk s other) ended.2;
    files = ap (mem_holdings m).file ended.2;
    cause = record { later = ended.1; failed = λ q. omega (arith, ap (λ (s : MemoryShelf D). s.disk_faults) ended.2) };
    faults = ap (λ (s : MemoryShelf D). s.faults) ended.2;
    fails = (λ q. ended.0, λ refused. refl);
    given = tt;
    ok = tt;
    failed = λ q. ended.2;
    memory = λ q. cc;
  }
  disk_ended name old new (Err Memory) ended = record {
    reads = tt;
    out = tt;
    none = ap (mem_holdings m).disk ended.1;
    others = λ other apart. ap (λ s. (mem_holdings m).disk s other) ended.1;
    files = ap (mem_holdings m).file ended.1;
    cause = record { later = omega (arith, ap (λ (s : MemoryShelf D). s.disk_faults) ended.1); failed = λ q. cc };
    faults = ap (λ (s : MemoryShelf D). s.faults) ended.1;
    fails = (λ q. cc, λ refused. absurd (ended.0 refused));
    given = tt;
    ok = tt;
    failed = λ q. cc;
    memory = λ q. ended.1;
  }
