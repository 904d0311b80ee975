use Rattle.std.proofs.Common.{rules, ◌≡◌, ◌<◌, ◌≤◌, sym, ap, ◌∙◌, subst, arith, ◌∷◌, [], ◌++◌, length, Option, Some}
use Rattle.pump_frame.specs.declared.frame.Item.{Item}
use Rattle.race.specs.HighRacers.{HandAt, IsNext}
use Rattle.race.proofs.Receiving.{stores_next, has_one_more, payloads_given, map_length}
use Rattle.race.proofs.high.HighRacer.receive.Goals as goal

pub returns-clause-at : goal.returns-clause-at
returns-clause-at g c =
    let a = c.requires.at in
    let w = c.args.self.now in
    let x = c.in-Some.item.now in
    let hand : a.past.hand ≡ Some x = sym a.is_past.holds.hand ∙ sym (search rules) in
    let next : IsNext a.before a.past.removed a.past.sends a.high.taken w.moment x =
    subst (λ (o : Option Item). HandAt a.before a.past.removed a.past.sends a.high.taken w.moment o) hand a.hand in
    let short : length x.payload ≤ 64 = omega (arith, c.len.ensures.value, c.if-len-gt-LONGEST.false) in
    let so_many : length a.received ≡ a.past.removed = ap length a.received_are ∙ map_length a.before ∙ a.removed_are in
    let one_left : length a.received < w.count = omega (arith, so_many, c.requires.below, a.is_past.holds.removed) in
    let stored = stores_next w.receiver w.count a.received x.number (length x.payload) a.recv one_left (next.number ∙ sym so_many) short in
    record {
      turn = a.turn;
      answer = a.answer;
      high = a.high;
      past = a.past;
      fitting = a.fitting;
      is_past = a.is_past;
      up = a.up;
      row = a.row;
      order = a.order;
      bound = a.bound;
      few = a.few;
      ready = a.ready;
      count = a.count;
      disk = a.disk;
      calm = a.calm;
      room = a.room;
      before = a.before;
      removed_are = a.removed_are;
      hand = a.hand;
      times_are = a.times_are;
      past_times = a.past_times;
      received = a.received ++ x.payload ∷ [];
      recv = has_one_more w.receiver c.take.new.self w.count a.received x.payload c.in-Ok.field-0 a.recv short (c.in-Ok.ensures.stores stored) c.take.ensures.row c.take.ensures.size;
      received_are = payloads_given a.before a.high.taken next.given x.payload a.received next.taken_is next.payload a.received_are;
      hand_taken = λ _. (omega (arith, c.requires.below, a.is_past.holds.removed), (x, hand));
    }
