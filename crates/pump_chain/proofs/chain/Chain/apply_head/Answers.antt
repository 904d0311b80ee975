use Rattle.std.proofs.Common.{List, None, Some, refl, sym, ap, subst}
use Rattle.script_reader.specs.declared.event.Event.{Event as Printed}
use Rattle.script_reader.specs.Heads.{line_with}
use Rattle.two_worlds.specs.declared.applied.Stop.TheVariants.{Line}
use Rattle.two_worlds.specs.Printing.{lines_in}
use Rattle.pump_chain.specs.declared.whose.Whose.TheVariants as whose
use Rattle.pump_chain.specs.Chained.{MakesFirst, MakesSecond}
use Rattle.pump_chain.specs.Standing.{AppliesBy}
use Rattle.pump_chain.proofs.Applying.{still_prefixes}
use Rattle.pump_chain.proofs.Counting.{counted_by}
use Rattle.pump_chain.proofs.Failing.{alone_later}
use Rattle.pump_chain.proofs.Sharing.{sender_moment, by_share, skipped_applies, none_applies}
use Rattle.pump_chain.proofs.chain.Chain.apply_head.Goals as goal

pub step-requires-clause-moment : goal.step-requires-clause-moment
step-requires-clause-moment g c = sender_moment c.row.result.now.id c.row-2.result.now.id (line_with c.args.bytes.now c.args.line.now) c.find_whose.result c.in-Senders.moment c.in-Senders.word (c.find_whose.ensures.is c.args.bytes.now) c.in-Senders.is c.requires.lawful

pub returns-in-Nobodys : goal.returns-in-Nobodys
returns-in-Nobodys g c = record {
  applies = λ told s stands.
      by_share g.D.Disk.told c.args.self.now s stands c.row.result.now c.row-2.result.now c.row.ensures c.row-2.ensures (line_with c.args.bytes.now c.args.line.now) c.find_whose.result (c.find_whose.ensures.is c.args.bytes.now) c.args.self.now (lines_in c.clear.new.self.items) None whose.Nobodys c.in-Nobodys.is
      (skipped_applies g.D.Disk.told c.args.self.now s stands c.row.result.now c.row-2.result.now c.row.ensures c.row-2.ensures (line_with c.args.bytes.now c.args.line.now) c.find_whose.result (c.find_whose.ensures.is c.args.bytes.now) (lines_in c.clear.new.self.items) (ap lines_in c.clear.ensures));
  crashes = λ told s stands. still_prefixes g.D.Disk.told c.args.self.now s stands;
  device = tt;
  later = (alone_later g.D.Disk.told c.args.self.now.first c.args.self.now.first refl, alone_later g.D.Disk.told c.args.self.now.second c.args.self.now.second refl);
  down = c.requires.up;
}

pub returns-in-NoChains : goal.returns-in-NoChains
returns-in-NoChains g c = record {
  applies = λ told s stands.
      by_share g.D.Disk.told c.args.self.now s stands c.row.result.now c.row-2.result.now c.row.ensures c.row-2.ensures (line_with c.args.bytes.now c.args.line.now) c.find_whose.result (c.find_whose.ensures.is c.args.bytes.now) c.args.self.now (lines_in c.clear.new.self.items) (Some Line) whose.NoChains c.in-NoChains.is
      (none_applies g.D.Disk.told c.args.self.now s stands c.row.result.now c.row-2.result.now c.row.ensures c.row-2.ensures (line_with c.args.bytes.now c.args.line.now) c.find_whose.result (c.find_whose.ensures.is c.args.bytes.now) (lines_in c.clear.new.self.items) (ap lines_in c.clear.ensures));
  crashes = λ told s stands. still_prefixes g.D.Disk.told c.args.self.now s stands;
  device = tt;
  later = (alone_later g.D.Disk.told c.args.self.now.first c.args.self.now.first refl, alone_later g.D.Disk.told c.args.self.now.second c.args.self.now.second refl);
  down = c.requires.up;
}

pub returns-in-CoarsensFirst : goal.returns-in-CoarsensFirst
returns-in-CoarsensFirst g c =
    let e = c.coarsen_first.ensures in
    record {
      applies = λ told s stands.
          by_share g.D.Disk.told c.args.self.now s stands c.row.result.now c.row-2.result.now c.row.ensures c.row-2.ensures (line_with c.args.bytes.now c.args.line.now) c.find_whose.result (c.find_whose.ensures.is c.args.bytes.now) c.coarsen_first.new.self (lines_in c.clear.new.self.items) c.coarsen_first.result whose.CoarsensFirst c.in-CoarsensFirst.is
          (subst (λ (x : List Printed). AppliesBy g.D.Disk.told c.args.self.now c.coarsen_first.new.self s MakesFirst x c.coarsen_first.result) (sym (ap lines_in c.clear.ensures)) (c.coarsen_first.ensures.applies told s stands));
      crashes = e.crashes;
      device = counted_by g.D.Disk.told c.args.self.now c.coarsen_first.new.self c.row.result.now c.row-2.result.now c.row.ensures c.row-2.ensures (line_with c.args.bytes.now c.args.line.now) c.find_whose.result whose.CoarsensFirst (c.find_whose.ensures.is c.args.bytes.now) c.in-CoarsensFirst.is c.coarsen_first.result e.device;
      later = e.later;
      down = e.down;
    }

pub returns-in-CoarsensSecond : goal.returns-in-CoarsensSecond
returns-in-CoarsensSecond g c =
    let e = c.coarsen_second.ensures in
    record {
      applies = λ told s stands.
          by_share g.D.Disk.told c.args.self.now s stands c.row.result.now c.row-2.result.now c.row.ensures c.row-2.ensures (line_with c.args.bytes.now c.args.line.now) c.find_whose.result (c.find_whose.ensures.is c.args.bytes.now) c.coarsen_second.new.self (lines_in c.clear.new.self.items) c.coarsen_second.result whose.CoarsensSecond c.in-CoarsensSecond.is
          (subst (λ (x : List Printed). AppliesBy g.D.Disk.told c.args.self.now c.coarsen_second.new.self s MakesSecond x c.coarsen_second.result) (sym (ap lines_in c.clear.ensures)) (c.coarsen_second.ensures.applies told s stands));
      crashes = e.crashes;
      device = counted_by g.D.Disk.told c.args.self.now c.coarsen_second.new.self c.row.result.now c.row-2.result.now c.row.ensures c.row-2.ensures (line_with c.args.bytes.now c.args.line.now) c.find_whose.result whose.CoarsensSecond (c.find_whose.ensures.is c.args.bytes.now) c.in-CoarsensSecond.is c.coarsen_second.result e.device;
      later = e.later;
      down = e.down;
    }

pub returns-in-Firsts : goal.returns-in-Firsts
returns-in-Firsts g c =
    let e = c.apply_first.ensures in
    record {
      applies = λ told s stands.
          by_share g.D.Disk.told c.args.self.now s stands c.row.result.now c.row-2.result.now c.row.ensures c.row-2.ensures (line_with c.args.bytes.now c.args.line.now) c.find_whose.result (c.find_whose.ensures.is c.args.bytes.now) c.apply_first.new.self (lines_in c.apply_first.new.events.items) c.apply_first.result whose.Firsts c.in-Firsts.is
          (c.apply_first.ensures.applies told s stands);
      crashes = e.crashes;
      device = counted_by g.D.Disk.told c.args.self.now c.apply_first.new.self c.row.result.now c.row-2.result.now c.row.ensures c.row-2.ensures (line_with c.args.bytes.now c.args.line.now) c.find_whose.result whose.Firsts (c.find_whose.ensures.is c.args.bytes.now) c.in-Firsts.is c.apply_first.result e.device;
      later = e.later;
      down = e.down;
    }

pub returns-in-Seconds : goal.returns-in-Seconds
returns-in-Seconds g c =
    let e = c.apply_second.ensures in
    record {
      applies = λ told s stands.
          by_share g.D.Disk.told c.args.self.now s stands c.row.result.now c.row-2.result.now c.row.ensures c.row-2.ensures (line_with c.args.bytes.now c.args.line.now) c.find_whose.result (c.find_whose.ensures.is c.args.bytes.now) c.apply_second.new.self (lines_in c.apply_second.new.events.items) c.apply_second.result whose.Seconds c.in-Seconds.is
          (c.apply_second.ensures.applies told s stands);
      crashes = e.crashes;
      device = counted_by g.D.Disk.told c.args.self.now c.apply_second.new.self c.row.result.now c.row-2.result.now c.row.ensures c.row-2.ensures (line_with c.args.bytes.now c.args.line.now) c.find_whose.result whose.Seconds (c.find_whose.ensures.is c.args.bytes.now) c.in-Seconds.is c.apply_second.result e.device;
      later = e.later;
      down = e.down;
    }

pub returns-in-Senders : goal.returns-in-Senders
returns-in-Senders g c =
    let e = c.step.ensures in
    record {
      applies = λ told s stands.
          by_share g.D.Disk.told c.args.self.now s stands c.row.result.now c.row-2.result.now c.row.ensures c.row-2.ensures (line_with c.args.bytes.now c.args.line.now) c.find_whose.result (c.find_whose.ensures.is c.args.bytes.now) c.step.new.self (lines_in c.step.new.events.items) c.step.result (whose.Senders c.in-Senders.moment c.in-Senders.word) c.in-Senders.is
          (c.step.ensures.applies told s stands);
      crashes = e.crashes;
      device = counted_by g.D.Disk.told c.args.self.now c.step.new.self c.row.result.now c.row-2.result.now c.row.ensures c.row-2.ensures (line_with c.args.bytes.now c.args.line.now) c.find_whose.result (whose.Senders c.in-Senders.moment c.in-Senders.word) (c.find_whose.ensures.is c.args.bytes.now) c.in-Senders.is c.step.result e.device;
      later = e.later;
      down = e.down;
    }
