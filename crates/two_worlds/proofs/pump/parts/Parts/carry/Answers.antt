use Rattle.std.proofs.Common.{◌<◌, ◌≡◌, [], length, Ok, Err, sym, ap, ◌∙◌, subst, refl, append-nil}
use Rattle.std.specs.Prelude.{option_copied}
use Rattle.std.proofs.Math.Logic.{∥∥₁_elim}
use Rattle.std.proofs.Props.{props}
use Rattle.high_receiver.specs.Receiving.{recv_count, recv_end, recv_size, is_device}
use Rattle.high_receiver.specs.declared.values.TakeFault.TheVariants.{Device, LogFull}
use Rattle.std.proofs.Math.Nat.{le-add_right}
use Rattle.two_worlds.proofs.Carry.Answered.{in_store}
use Rattle.two_worlds.proofs.Carry.Carries.{leads_by, breaks, overfull, returned}
use Rattle.two_worlds.proofs.Carry.Serves.{serves_nothing, serves_ok, serves_device, serves_full}
use Rattle.two_worlds.proofs.Opening.Ready.{recv_is_ready}
use Rattle.two_worlds.proofs.Carry.Works.{small, short, answered_as, ahead_same, ahead_never, no_other, works_with, works_not, works_full}
use Rattle.world_laws.proofs.Packets.{keep_last_some}
use Rattle.high_receiver.specs.declared.receiver.Receiver.{Receiver}
use Rattle.two_worlds.specs.Standing.{bare_of}
use Rattle.two_worlds.specs.Printing.{lines_in}
use Rattle.two_worlds.proofs.pump.parts.Parts.carry.Goals as goal

pub take-requires-clause-ready : goal.take-requires-clause-ready
take-requires-clause-ready g c = recv_is_ready g.D.Disk.told c.args.self.now c.requires.able

pub take-requires-clause-number : goal.take-requires-clause-number
take-requires-clause-number g c =
    let at = sym c.nth_back.ensures ∙ ap option_copied c.in-Some.is in
    small g.D.Disk.told c.args.self.now c.requires.able c.args.back c.in-Some.item.now c.requires.back at

pub take-requires-clause-fits : goal.take-requires-clause-fits
take-requires-clause-fits g c =
    let at = sym c.nth_back.ensures ∙ ap option_copied c.in-Some.is in
    short g.D.Disk.told c.args.self.now c.requires.able c.args.back c.in-Some.item.now c.requires.back at

pub returns-in-Ok : goal.returns-in-Ok
returns-in-Ok g c = record {
  step = record {
    does =
        let m = g.D.Disk.told in
        let s = c.args.self.now in
        let item = c.in-Some.item.now in
        let at = sym c.nth_back.ensures ∙ ap option_copied c.in-Some.is in
        λ p stands.
        let w = answered_as m s item c.take.new.self c.take.result (Ok c.in-Ok.taken) (c.in-Ok.is) refl c.take.ensures.at_once c.take.ensures.unchanged c.take.ensures.stores in
        let r = leads_by m s p c.args.back item stands c.requires.back at c.take.new.self c.in-Ok.taken c.push_back.new.self (lines_in c.args.out.now.items)
        (returned s.returned c.push_back.new.self item.number stands.packets.returned c.push_back.ensures.items) c.take.ensures.row c.take.ensures.size w in
        (r.0, r.1, r.2, c.put_taken.ensures.items ∙ r.3, r.4, r.5);
    works =
        let m = g.D.Disk.told in
        let s = c.args.self.now in
        let capacity : s.returned.capacity ≡ 64 = ∥∥₁_elim c.requires.able.works (hlevel props) (λ w. w.packets.returned) in
        let is = returned s.returned c.push_back.new.self c.in-Some.item.now.number capacity c.push_back.ensures.items in
        works_with m s c.requires.able c.take.new.self c.push_back.new.self (c.take.ensures.ready (ap is_device c.in-Ok.is)) c.take.ensures.row c.take.ensures.size is.1;
    serve =
        let m = g.D.Disk.told in
        let s = c.args.self.now in
        let item = c.in-Some.item.now in
        let at = sym c.nth_back.ensures ∙ ap option_copied c.in-Some.is in
        let w = answered_as m s item c.take.new.self c.take.result (Ok c.in-Ok.taken) (c.in-Ok.is) refl c.take.ensures.at_once c.take.ensures.unchanged c.take.ensures.stores in
        serves_ok m s c.requires.able item.payload item.number c.take.new.self c.in-Ok.taken c.push_back.new.self w;
    row = refl;
  };
  ahead =
      let at = sym c.nth_back.ensures ∙ ap option_copied c.in-Some.is in
      let s = c.args.self.now in
      λ is. absurd (no_other s s.row.id c.args.back c.in-Some.item.now c.requires.back at is c.take.result (Ok c.in-Ok.taken) (c.in-Ok.is) refl c.take.ensures.at_once);
  low = refl;
  high = refl;
  out = c.put_taken.ensures.few;
  returned =
      let s = c.args.self.now in
      let capacity : s.returned.capacity ≡ 64 = ∥∥₁_elim c.requires.able.works (hlevel props) (λ w. w.packets.returned) in
      let is = returned s.returned c.push_back.new.self c.in-Some.item.now.number capacity c.push_back.ensures.items in
      λ p stands. subst (λ l. 0 < length l) (sym is.0) (keep_last_some s.returned.items c.in-Some.item.now.number);
  moment = refl;
}

pub returns-in-Err-Ahead : goal.returns-in-Err-Ahead
returns-in-Err-Ahead g c = record {
  step = record {
    does =
        let at = sym c.nth_back.ensures ∙ ap option_copied c.in-Some.is in
        λ p stands.
        absurd (ahead_never g.D.Disk.told c.args.self.now p c.args.back c.in-Some.item.now stands c.requires.back at c.take.new.self c.take.result c.in-Err-Ahead.field-0-0 c.in-Err-Ahead.field-0-1 (c.in-Err-Ahead.is ∙ ap (λ f. Err f) c.in-Err-Ahead.field-0-is) c.take.ensures.at_once c.take.ensures.unchanged c.take.ensures.stores);
    works = works_with g.D.Disk.told c.args.self.now c.requires.able c.take.new.self c.args.self.now.returned (c.in-Err-Ahead.ensures.ready (ap (λ f. is_device (Err f)) c.in-Err-Ahead.field-0-is)) c.take.ensures.row c.take.ensures.size refl;
    serve =
        let m = g.D.Disk.told in
        let s = c.args.self.now in
        let item = c.in-Some.item.now in
        let same = ahead_same m item.payload item.number (recv_count s.receiver) (recv_end s.receiver) (recv_size s.receiver) s.receiver c.take.new.self c.take.result c.in-Err-Ahead.field-0-0 c.in-Err-Ahead.field-0-1 (c.in-Err-Ahead.is ∙ ap (λ f. Err f) c.in-Err-Ahead.field-0-is) c.take.ensures.unchanged c.take.ensures.stores in
        serves_nothing m s c.requires.able c.take.new.self same;
    row = refl;
  };
  ahead =
      let m = g.D.Disk.told in
      let s = c.args.self.now in
      let item = c.in-Some.item.now in
      let same = ahead_same m item.payload item.number (recv_count s.receiver) (recv_end s.receiver) (recv_size s.receiver) s.receiver c.take.new.self c.take.result c.in-Err-Ahead.field-0-0 c.in-Err-Ahead.field-0-1 (c.in-Err-Ahead.is ∙ ap (λ f. Err f) c.in-Err-Ahead.field-0-is) c.take.ensures.unchanged c.take.ensures.stores in
      λ is. (refl, ap (λ (r : Receiver _). bare_of (record s { receiver = r })) same);
  low = refl;
  high = refl;
  out = le-add_right (length c.args.out.now.items) 1;
  returned =
      let at = sym c.nth_back.ensures ∙ ap option_copied c.in-Some.is in
      λ p stands.
      absurd (ahead_never g.D.Disk.told c.args.self.now p c.args.back c.in-Some.item.now stands c.requires.back at c.take.new.self c.take.result c.in-Err-Ahead.field-0-0 c.in-Err-Ahead.field-0-1 (c.in-Err-Ahead.is ∙ ap (λ f. Err f) c.in-Err-Ahead.field-0-is) c.take.ensures.at_once c.take.ensures.unchanged c.take.ensures.stores);
  moment = refl;
}

pub returns-in-Err-Device : goal.returns-in-Err-Device
returns-in-Err-Device g c = record {
  step = record {
    does =
        let m = g.D.Disk.told in
        let s = c.args.self.now in
        let item = c.in-Some.item.now in
        let at = sym c.nth_back.ensures ∙ ap option_copied c.in-Some.is in
        λ p stands.
        let w = answered_as m s item c.take.new.self c.take.result (Err (Device c.in-Err-Device.faults)) (c.in-Err-Device.is ∙ ap (λ f. Err f) c.in-Err-Device.field-0-is) refl c.take.ensures.at_once c.take.ensures.unchanged c.take.ensures.stores in
        let b = breaks m s p c.args.back item stands c.requires.back at c.take.new.self c.in-Err-Device.faults w in
        (b.0, [], (refl, b.1, refl), sym (append-nil (lines_in c.args.out.now.items)), b.2, b.3);
    works =
        let m = g.D.Disk.told in
        let s = c.args.self.now in
        let item = c.in-Some.item.now in
        let w = answered_as m s item c.take.new.self c.take.result (Err (Device c.in-Err-Device.faults)) (c.in-Err-Device.is ∙ ap (λ f. Err f) c.in-Err-Device.field-0-is) refl c.take.ensures.at_once c.take.ensures.unchanged c.take.ensures.stores in
        let stored = in_store m item.payload item.number (recv_count s.receiver) (recv_end s.receiver) (recv_size s.receiver) s.receiver c.take.new.self c.in-Err-Device.faults w in
        works_not m s c.requires.able c.take.new.self c.in-Err-Device.faults stored.2.closed stored.2.device;
    serve =
        let m = g.D.Disk.told in
        let s = c.args.self.now in
        let item = c.in-Some.item.now in
        let at = sym c.nth_back.ensures ∙ ap option_copied c.in-Some.is in
        let w = answered_as m s item c.take.new.self c.take.result (Err (Device c.in-Err-Device.faults)) (c.in-Err-Device.is ∙ ap (λ f. Err f) c.in-Err-Device.field-0-is) refl c.take.ensures.at_once c.take.ensures.unchanged c.take.ensures.stores in
        serves_device m s c.requires.able item.payload item.number c.take.new.self c.in-Err-Device.faults w;
    row = refl;
  };
  ahead =
      let at = sym c.nth_back.ensures ∙ ap option_copied c.in-Some.is in
      let s = c.args.self.now in
      λ is. absurd (no_other s s.row.id c.args.back c.in-Some.item.now c.requires.back at is c.take.result (Err (Device c.in-Err-Device.faults)) (c.in-Err-Device.is ∙ ap (λ f. Err f) c.in-Err-Device.field-0-is) refl c.take.ensures.at_once);
  low = refl;
  high = refl;
  out = le-add_right (length c.args.out.now.items) 1;
  returned = tt;
  moment = refl;
}

pub returns-in-Err-LogFull : goal.returns-in-Err-LogFull
returns-in-Err-LogFull g c = record {
  step = record {
    does =
        let m = g.D.Disk.told in
        let s = c.args.self.now in
        let item = c.in-Some.item.now in
        let at = sym c.nth_back.ensures ∙ ap option_copied c.in-Some.is in
        λ p stands.
        let w = answered_as m s item c.take.new.self c.take.result (Err (LogFull c.in-Err-LogFull.end c.in-Err-LogFull.length c.in-Err-LogFull.size)) (c.in-Err-LogFull.is ∙ ap (λ f. Err f) c.in-Err-LogFull.field-0-is) refl c.take.ensures.at_once c.take.ensures.unchanged c.take.ensures.stores in
        let o = overfull m s p c.args.back item stands c.requires.back at c.take.new.self c.in-Err-LogFull.end c.in-Err-LogFull.length c.in-Err-LogFull.size w in
        (p, [], (refl, o.0, refl), sym (append-nil (lines_in c.args.out.now.items)), o.1, o.2);
    works =
        let m = g.D.Disk.told in
        let s = c.args.self.now in
        let item = c.in-Some.item.now in
        let w = answered_as m s item c.take.new.self c.take.result (Err (LogFull c.in-Err-LogFull.end c.in-Err-LogFull.length c.in-Err-LogFull.size)) (c.in-Err-LogFull.is ∙ ap (λ f. Err f) c.in-Err-LogFull.field-0-is) refl c.take.ensures.at_once c.take.ensures.unchanged c.take.ensures.stores in
        works_full m s c.requires.able item.payload item.number c.take.new.self c.in-Err-LogFull.end c.in-Err-LogFull.length c.in-Err-LogFull.size w;
    serve =
        let m = g.D.Disk.told in
        let s = c.args.self.now in
        let item = c.in-Some.item.now in
        let at = sym c.nth_back.ensures ∙ ap option_copied c.in-Some.is in
        let w = answered_as m s item c.take.new.self c.take.result (Err (LogFull c.in-Err-LogFull.end c.in-Err-LogFull.length c.in-Err-LogFull.size)) (c.in-Err-LogFull.is ∙ ap (λ f. Err f) c.in-Err-LogFull.field-0-is) refl c.take.ensures.at_once c.take.ensures.unchanged c.take.ensures.stores in
        serves_full m s c.requires.able item.payload item.number c.take.new.self c.in-Err-LogFull.end c.in-Err-LogFull.length c.in-Err-LogFull.size w;
    row = refl;
  };
  ahead =
      let at = sym c.nth_back.ensures ∙ ap option_copied c.in-Some.is in
      let s = c.args.self.now in
      λ is. absurd (no_other s s.row.id c.args.back c.in-Some.item.now c.requires.back at is c.take.result (Err (LogFull c.in-Err-LogFull.end c.in-Err-LogFull.length c.in-Err-LogFull.size)) (c.in-Err-LogFull.is ∙ ap (λ f. Err f) c.in-Err-LogFull.field-0-is) refl c.take.ensures.at_once);
  low = refl;
  high = refl;
  out = le-add_right (length c.args.out.now.items) 1;
  returned = tt;
  moment = refl;
}
