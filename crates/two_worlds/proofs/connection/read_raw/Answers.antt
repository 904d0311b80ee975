use Rattle.std.proofs.Common.{◌++◌, [], List, ℕ, arith, subst, sym}
use Rattle.script_reader.specs.Steps.{coming}
use Rattle.two_worlds.specs.Private.Arrivals.{IsFed, Gathers}
use Rattle.two_worlds.proofs.Arriving.RawBytes.{fed_nothing, fed_one_more, gathers_none, take_fits}
use Rattle.two_worlds.proofs.connection.read_raw.Goals as goal

pub loop-byte-init : goal.loop-byte-init
loop-byte-init c =
    let before = c.args.waits.now in
    let value = c.len-count.ensures.value in
    record {
      gathers = ([], fed_nothing c.args.reader.now, subst (λ (n : ℕ). Gathers before [] before n) (sym value) (gathers_none before (omega (arith, value, c.len-count.ensures.fits))));
      count = omega (arith, c.len-count.ensures.fits);
    }

pub loop-byte-preserved : goal.loop-byte-preserved
loop-byte-preserved c =
    let i = c.loop-byte.invariant in
    let r = c.read_byte-count.ensures.gathers c.args.waits.now i.gathers.0 i.gathers.2 in
    record {
      gathers = (
        i.gathers.0 ++ r.0,
        fed_one_more c.args.reader.now c.loop-byte.reader c.read_byte-count.new.reader c.args.bytes.now c.loop-byte.byte-index _ i.gathers.0 r.0 c.loop-byte-test.true i.gathers.1 r.1,
        r.2,
      );
      count = omega (arith, i.count, c.read_byte-count.ensures.count);
    }

pub returns : goal.returns
returns c =
    let i = c.loop-byte.invariant in (
      i.gathers.0,
      subst (λ (l : List ℕ). IsFed c.args.reader.now l (coming i.gathers.0 c.loop-byte.reader)) (take_fits c.loop-byte.byte-index c.args.bytes.now c.loop-byte-test.false) i.gathers.1,
      i.gathers.2,
    )
