use Rattle.std.proofs.Common.{◌≡◌, ℕ, suc, IsErr, List, [], ◌∷◌, slice_index_or, drop, refl, sym, ◌∙◌, ap, subst, arith, rules}
use Rattle.high_receiver.specs.Records.{RecordsFrom}
use Rattle.high_receiver.proofs.Walk.{failed}
use Rattle.high_receiver.proofs.Places.{headed}
use Rattle.high_receiver.proofs.reading.read_message.Goals as goal

-- the records from there, of a disk and an end that stayed
stayed : (most : ℕ) (messages : List (List ℕ)) (at end end' : ℕ) (disk disk' : List ℕ) → end' ≡ end → disk' ≡ disk → RecordsFrom most messages at end disk → RecordsFrom most messages at end' disk'
stayed most messages at end end' disk disk' e d from = subst (λ k. RecordsFrom most messages at k disk') (sym e) (subst (λ (b : List ℕ). RecordsFrom most messages at end b) (sym d) from)

pub returns-in_err-read_record-clause-answers : goal.returns-in_err-read_record-clause-answers
returns-in_err-read_record-clause-answers g c =
    let m = g.D.Disk.told in
    let r = c.args.register.now in
    let disk = m.reading r.disk in
    let n = c.args.n in
    let most = c.args.most in
    let at = c.in_ok-at.at in
    let p = c.in_ok-at.ensures in
    let next = c.place.new.register in
    let end : next.second ≡ r.second = ap (λ (v : ℕ × ℕ). v.1) p.value in
    let a = c.in_err-read_record.ensures.answers in
    let is_err : IsErr c.from_residual-in_err-read_record.result = search (rules) in
    record {
      counts = omega (arith, p.walks.counts, a.counts);
      rose = λ e. let rise = a.rose refl in omega (arith, p.walks.counts, rise);
      never = λ plan off has.
          let told = m.plan_tells plan in
          let more = has.1 in
          let from = headed most has.0 n at r.second disk more.0 (p.place told most has.0 (omega (arith, more.0), more.1)) in
          let there = stayed most (slice_index_or has.0 n [] ∷ drop (suc n) has.0) at r.second next.second disk (m.reading next.disk) end (p.moves.reads told) from in
          absurd (failed (a.never plan (p.walks.armed plan ∙ off) (slice_index_or has.0 n [], drop (suc n) has.0, there)));
      always = λ plan on. is_err;
      room = λ plan. a.room plan ∙ p.walks.room plan;
      disarmed = a.disarmed;
    }

pub returns-clause-found : goal.returns-clause-found
returns-clause-found g c = λ told messages more.
    let m = g.D.Disk.told in
    let r = c.args.register.now in
    let disk = m.reading r.disk in
    let n = c.args.n in
    let most = c.args.most in
    let at = c.in_ok-at.at in
    let p = c.in_ok-at.ensures in
    let next = c.place.new.register in
    let end : next.second ≡ r.second = ap (λ (v : ℕ × ℕ). v.1) p.value in
    let from = headed most messages n at r.second disk more.0 (p.place told most messages (omega (arith, more.0), more.1)) in
    let there = stayed most (slice_index_or messages n [] ∷ drop (suc n) messages) at r.second next.second disk (m.reading next.disk) end (p.moves.reads told) from in
    let found = c.in_ok-read_record.ensures.found told (slice_index_or messages n []) (drop (suc n) messages) there in
    found.0
