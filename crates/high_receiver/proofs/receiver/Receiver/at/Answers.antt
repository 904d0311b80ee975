use Rattle.std.proofs.Common.{◌≡◌, ℕ, suc, [], slice_index_or, drop, refl, ap, subst, arith}
use Rattle.stable_buffer.specs.Log.{RecvStands}
use Rattle.high_receiver.proofs.Walk.{failed}
use Rattle.high_receiver.proofs.Places.{stands_there, record_next}
use Rattle.high_receiver.proofs.receiver.Receiver.at.Goals as goal

pub returns-in-Ok-clause-message : goal.returns-in-Ok-clause-message
returns-in-Ok-clause-message g c = λ told messages stands.
    let there = stands_there g.D.Disk.told c.args.self.now c.args.n c.args.at c.requires.ready.ready c.requires.taken c.requires.place told messages stands in
    let found = c.in-Ok.ensures.found told (slice_index_or messages c.args.n []) (drop (suc c.args.n) messages) there.1 in
    found.0

pub returns-in-Ok-clause-next : goal.returns-in-Ok-clause-next
returns-in-Ok-clause-next g c =
    let m = g.D.Disk.told in
    let e = c.in-Ok.ensures in
    let old = c.args.self.now in
    let next = c.read_record.new.register in
    let n = c.args.n in
    let end : next.second ≡ old.register.second = ap (λ (v : ℕ × ℕ). v.1) e.value in
    record {
      within = omega (arith, e.within, end);
      place = λ told messages stands.
          let was = subst (λ d. RecvStands old.row messages d) (e.moves.reads told) stands in
          let there = stands_there m old n c.args.at c.requires.ready.ready c.requires.taken c.requires.place told messages was in
          let found = e.found told (slice_index_or messages n []) (drop (suc n) messages) there.1 in
          record_next messages n c.args.at c.in-Ok.next there.0 (c.requires.place.place told messages was) found.1;
    }

pub returns-in-Err-clause-answers : goal.returns-in-Err-clause-answers
returns-in-Err-clause-answers g c =
    let m = g.D.Disk.told in
    let old = c.args.self.now in
    let n = c.args.n in
    let a = c.in-Err.ensures.answers in
    record {
      counts = a.counts;
      rose = λ e. a.rose refl;
      never = λ plan off _.
          let told = m.plan_tells plan in
          let some = c.requires.ready.stands told in
          let there = stands_there m old n c.args.at c.requires.ready.ready c.requires.taken c.requires.place told some.0 some.1 in
          absurd (failed (a.never plan off (slice_index_or some.0 n [], drop (suc n) some.0, there.1)));
      always = λ plan on. refl;
      room = a.room;
      disarmed = a.disarmed;
    }
