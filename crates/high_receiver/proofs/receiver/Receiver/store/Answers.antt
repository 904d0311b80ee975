use Rattle.std.proofs.Common.{◌≡◌, ◌≤◌, [], ◌∷◌, ◌++◌, refl, sym, ◌∙◌, subst, arith}
use Rattle.pump_frame.specs.Rows.{IsLawfulRow}
use Rattle.pump_frame.specs.declared.row.SessionRow.{SessionRow}
use Rattle.high_receiver.specs.Receiving.{StandsForSome}
use Rattle.high_receiver.proofs.receiver.Receiver.store.Goals as goal

pub returns-in-Ok-clause-stores : goal.returns-in-Ok-clause-stores
returns-in-Ok-clause-stores g c =
    let m = g.D.Disk.told in
    let s = c.args.self.now in
    let n = c.write.new.self in
    let message = c.args.payload.now in
    let e = c.in-Ok.ensures in
    let was = c.requires.ready in
    let same : n.row ≡ s.row = e.row in
    let a = e.answers in
    record {
      took = refl;
      ready = record {
        is_open = e.open ∙ was.is_open;
        ready = e.written.ready;
        lawful = subst IsLawfulRow (sym same) was.lawful;
        short = subst (λ (w : SessionRow). w.message ≤ 1024) (sym same) was.short;
        count = omega (arith, e.written.count, c.requires.below);
        from = omega (arith, e.written.end, was.from);
        within = omega (arith, e.written.end, e.size, c.requires.room);
        settled = e.written.settled;
        stands = λ told.
            let takes = e.written.taken told in
            let stood = was.stands told in
            subst (λ (w : SessionRow). StandsForSome w (m.reading n.register.disk)) (sym same) (stood.0 ++ message ∷ [], takes.more stood.0 stood.1);
      };
      count = e.written.count;
      end = e.written.end;
      moves = e.moves;
      during = e.during;
      taken = e.written.taken;
      closed = tt;
      answers = record { counts = a.counts; rose = a.rose; never = a.never; always = a.always; room = a.room; disarmed = a.disarmed };
      device = tt;
    }

pub returns-in-Ok-clause-ready : goal.returns-in-Ok-clause-ready
returns-in-Ok-clause-ready g c = λ answered. let stores = returns-in-Ok-clause-stores g c in stores.ready
