use Rattle.std.proofs.Common.{ℕ, Option, sym, ap, ◌∙◌, subst, arith}
use Rattle.pump_frame.specs.declared.frame.Item.{Item}
use Rattle.pump_core.specs.History.{first_life}
use Rattle.pump_core.specs.Passage.{new_low, new_high}
use Rattle.stable_buffer.specs.Low.{low_disk}
use Rattle.stable_buffer.specs.Stands.{LowStands}
use Rattle.passage.specs.Plain.{StandsFor as EndsStand}
use Rattle.low_process.specs.Looks as low
use Rattle.high_process.specs.Past as high_past
use Rattle.high_process.specs.Looks.{StandsFor as HighStandsFor}
use Rattle.recovery.specs.Deals.{numbered, passing, InHands}
use Rattle.two_worlds.proofs.pump.parts.Parts.assemble.Goals as goal

pub returns-clause-opened : goal.returns-clause-opened
returns-clause-opened g c =
    let m = g.D.Disk.told in
    let row = c.args.row.now in
    let p = c.requires.pump in
    let r = c.requires.receiver in
    let next = p.counts.0 in
    let removed = p.counts.1 in
    let low_hand = c.open.ensures.hand in
    let high_hand = c.open-2.ensures.hand in
    record {
      row = c.requires.lawful;
      connection = c.requires.connection;
      low_ready = p.ready_low;
      store_row = p.row_is;
      high_ready = p.ready_high;
      recv_ready = r.ready;
      recv_row_is = r.row_is;
      recv_size_is = r.size;
      messages = p.messages;
      stands = λ t. subst (λ (v : ℕ × ℕ). LowStands row v.0 v.1 p.messages (m.reading (low_disk c.args.pump.low))) (λ i. (sym next i, sym removed i)) (p.stands t);
      count = omega (arith, p.count, next, removed);
      places = omega (arith, p.places, next, removed);
      short = p.short;
      hands = subst (λ (v : ℕ × Option Item × Option Item). InHands row.capacity (numbered v.0 p.messages) v.1 v.2) (λ i. (sym removed i, sym high_hand i, sym low_hand i)) p.hands;
      ends = subst (λ (b : ℕ). EndsStand c.args.memory.ends (record new_low { forwarded = passing row.capacity (numbered b p.messages) }) new_high) (sym removed) p.ends_stand;
      shape = p.shape;
      history = subst (λ (v : ℕ × Option Item). low.StandsFor c.open.result (first_life (low.opening_of v.0 v.1))) (λ i. (sym next i, sym low_hand i)) c.open.ensures.first;
      low_between = c.open.ensures.between;
      low_row_is = c.open.ensures.row;
      next = c.open.ensures.next ∙ sym next;
      low_last = c.open.ensures.last;
      low_up = c.open.ensures.up;
      past = subst (λ (v : ℕ × Option Item). HighStandsFor c.open-2.result (high_past.fresh v.0 v.1)) (λ i. (sym removed i, sym high_hand i)) c.open-2.ensures.stands;
      high_between = c.open-2.ensures.between;
      high_row = c.open-2.ensures.row;
      removed = c.open-2.ensures.removed ∙ sym removed;
      published = c.open-2.ensures.published;
      high_last = c.open-2.ensures.last;
      high_up = c.open-2.ensures.up;
      packets = record { sent = ap (λ b. b.capacity) c.requires.sent; returned = ap (λ b. b.capacity) c.requires.returned; taken = c.requires.taken };
    }
