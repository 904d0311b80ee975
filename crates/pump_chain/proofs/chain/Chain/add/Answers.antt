use Rattle.std.proofs.Common.{ℕ, ◌<◌, ◌≤◌, [], length, get_or, refl, sym, ap, ◌∙◌, arith}
use Rattle.std.proofs.lemmas.Bool.{or_parts}
use Rattle.disk_model.specs.declared.name.Role.TheVariants as roles
use Rattle.pump_chain.specs.Chained.{received_of}
use Rattle.pump_chain.proofs.Adding.{adds_under_way, adds_hello, adds_nothing, adds_message}
use Rattle.pump_chain.proofs.Reading.{reads_nothing}
use Rattle.pump_chain.proofs.chain.Chain.add.Goals as goal

pub returns-then-self : goal.returns-then-self
returns-then-self g c = record {
  adds = λ told s stands. adds_under_way s c.args.self.now.sender stands.sender c.if-self.true;
  lawful = tt;
  reads = reads_nothing g.D.Disk.told roles.Recv c.args.self.now.first (or_parts _ _ c.requires.up).0;
  fails = tt;
  message = tt;
  device = tt;
  second = refl;
  sender = refl;
  under_way = refl;
}

pub returns-then-not-self : goal.returns-then-not-self
returns-then-not-self g c = record {
  adds = λ told s stands. adds_hello s c.args.self.now.sender c.row-row.result.now stands.sender c.if-self.false c.if-not-self.true (c.row-row.ensures ∙ stands.second_row);
  lawful = tt;
  reads = reads_nothing g.D.Disk.told roles.Recv c.args.self.now.first (or_parts _ _ c.requires.up).0;
  fails = tt;
  message = tt;
  device = tt;
  second = refl;
  sender = refl;
  under_way = refl;
}

pub returns-then-number-received : goal.returns-then-number-received
returns-then-number-received g c = record {
  adds = λ told s stands.
      let number = ap (λ (n : ℕ × ℕ × ℕ). n.0) (c.counts-number.ensures.stands s.second.past stands.second) in
      let count = ap (λ (n : ℕ × ℕ × ℕ). n.2) (c.counts-received.ensures.stands s.first.past stands.first) in
      let test = c.if-number-received.true in
      let all : length (received_of s) ≤ c.counts-number.result.0 = omega (arith, count, test) in
      adds_nothing s c.args.self.now.sender c.counts-number.result.0 stands.sender c.if-self.false c.if-not-self.false number all;
  lawful = tt;
  reads = reads_nothing g.D.Disk.told roles.Recv c.args.self.now.first (or_parts _ _ c.requires.up).0;
  fails = tt;
  message = tt;
  device = tt;
  second = refl;
  sender = refl;
  under_way = refl;
}

pub fetch-requires : goal.fetch-requires
fetch-requires g c =
    let up = (or_parts _ _ c.requires.up).0 in
    let few = c.counts-received.ensures.few up in
    let kept = ap (λ (n : ℕ × ℕ × ℕ). n.2) c.counts-received.ensures.kept in
    let test = c.if-number-received.false in
    record { up = up; some = omega (arith, kept, test); small = omega (arith, few, test) }

pub returns-in-Ok : goal.returns-in-Ok
returns-in-Ok g c =
    let e = c.in-Ok.ensures in
    let test = c.if-number-received.false in
    let few = c.counts-received.ensures.few (or_parts _ _ c.requires.up).0 in
    record {
      adds = λ told s stands.
          let number = ap (λ (n : ℕ × ℕ × ℕ). n.0) (c.counts-number.ensures.stands s.second.past stands.second) in
          let count = ap (λ (n : ℕ × ℕ × ℕ). n.2) (c.counts-received.ensures.stands s.first.past stands.first) in
          let test = c.if-number-received.false in
          let few : c.counts-number.result.0 < length (received_of s) = omega (arith, count, test) in
          adds_message s c.args.self.now.sender c.counts-number.result.0 c.fetch.new.into stands.sender c.if-self.false c.if-not-self.false number few (e.message told s.first.past stands.first);
      lawful = omega (arith, few, test);
      reads = e.reads;
      fails = tt;
      message = tt;
      device = tt;
      second = e.second;
      sender = e.sender;
      under_way = e.under_way;
    }

pub returns-in-Err : goal.returns-in-Err
returns-in-Err g c =
    let e = c.in-Err.ensures in
    record {
      adds = tt;
      lawful = tt;
      reads = tt;
      fails = e.fails;
      message = λ told s stands.
          let number = ap (λ (n : ℕ × ℕ × ℕ). n.0) (c.counts-number.ensures.stands s.second.past stands.second) in
          let count = ap (λ (n : ℕ × ℕ × ℕ). n.2) (c.counts-received.ensures.stands s.first.past stands.first) in
          let test = c.if-number-received.false in
          let few : c.counts-number.result.0 < length (received_of s) = omega (arith, count, test) in
          (c.counts-number.result.0, get_or (received_of s) c.counts-number.result.0 [], sym (adds_message s c.args.self.now.sender c.counts-number.result.0 _ stands.sender c.if-self.false c.if-not-self.false number few refl));
      device = e.device;
      second = e.second;
      sender = e.sender;
      under_way = e.under_way;
    }
