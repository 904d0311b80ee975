use Rattle.std.proofs.Common.{◌≡◌, ℕ, [], slice_index_or, refl, sym, ap, ◌∙◌, subst, arith}
use Rattle.disk_model.specs.declared.name.Role.TheVariants as roles
use Rattle.two_worlds.specs.declared.pump.Pump.{Pump}
use Rattle.two_worlds.specs.Reads.{ReadsOn}
use Rattle.pump_chain.proofs.Reading.{reads_nothing, reads_then, fails_then, ok_then, err_then}
use Rattle.pump_chain.proofs.chain.Chain.fetch.Goals as goal

pub loop-earlier-init : goal.loop-earlier-init
loop-earlier-init g c =
    let m = g.D.Disk.told in
    let e = c.go_back.ensures in
    record {
      from = e.from;
      here = refl;
      reads = subst (λ (x : Pump _ _). ReadsOn m roles.Recv c.args.self.now.first x) (sym e.first) (reads_nothing m roles.Recv c.args.self.now.first c.requires.up);
      second = e.second;
      sender = e.sender;
      under_way = e.under_way;
    }

pub read_on-requires-clause-up : goal.read_on-requires-clause-up
read_on-requires-clause-up g c = c.loop-earlier.invariant.reads.alone.down

pub read_on-requires-clause-some : goal.read_on-requires-clause-some
read_on-requires-clause-some g c =
    let i = c.loop-earlier.invariant in
    let counts = ap (λ (n : ℕ × ℕ × ℕ). n.2) i.reads.counts in
    let test = c.loop-earlier-test.true in
    let some = c.requires.some in
    omega (arith, i.here, test, counts, some)

pub read_on-requires-clause-small : goal.read_on-requires-clause-small
read_on-requires-clause-small g c =
    let i = c.loop-earlier.invariant in
    let test = c.loop-earlier-test.true in
    let small = c.requires.small in
    omega (arith, i.here, test, small)

pub loop-earlier-preserved : goal.loop-earlier-preserved
loop-earlier-preserved g c =
    let m = g.D.Disk.told in
    let i = c.loop-earlier.invariant in
    let e = c.in-Ok.ensures in
    let test = c.loop-earlier-test.true in
    let number = e.number in
    record {
      from = omega (arith, i.here, test, number);
      here = omega (arith, i.here, number);
      reads = reads_then m roles.Recv c.args.self.now.first c.loop-earlier.self.first c.read_on.new.self.first i.reads e.reads;
      second = e.second ∙ i.second;
      sender = e.sender ∙ i.sender;
      under_way = e.under_way ∙ i.under_way;
    }

pub returns-clause-reads : goal.returns-clause-reads
returns-clause-reads g c = ok_then c.read_on-2.result (reads_then g.D.Disk.told roles.Recv c.args.self.now.first c.loop-earlier.self.first c.read_on-2.new.self.first c.loop-earlier.invariant.reads) c.read_on-2.ensures.reads

pub returns-clause-fails : goal.returns-clause-fails
returns-clause-fails g c = err_then c.read_on-2.result (fails_then g.D.Disk.told roles.Recv c.args.self.now.first c.loop-earlier.self.first c.read_on-2.new.self.first c.loop-earlier.invariant.reads) c.read_on-2.ensures.fails

pub returns-in-Err-clause-fails : goal.returns-in-Err-clause-fails
returns-in-Err-clause-fails g c = fails_then g.D.Disk.told roles.Recv c.args.self.now.first c.loop-earlier.self.first c.read_on.new.self.first c.loop-earlier.invariant.reads c.in-Err.ensures.fails

pub returns-clause-message : goal.returns-clause-message
returns-clause-message g c =
    let i = c.loop-earlier.invariant in
    let test = c.loop-earlier-test.false in
    let number : c.loop-earlier.self.place.number ≡ c.args.number = (let from = i.from in let here = i.here in omega (arith, from, here, test)) in
    ok_then c.read_on-2.result (λ known told p stands. known told p (i.reads.stands p stands) ∙ ap (λ (n : ℕ). slice_index_or p.world.received n []) number) c.read_on-2.ensures.message
