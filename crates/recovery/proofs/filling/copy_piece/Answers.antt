use Rattle.std.proofs.Common.{◌≡◌, ◌∙◌, inl, inr, ℕ, true, false, Err, length, refl, ap, subst, arith}
use Rattle.std.proofs.lemmas.Bool.{false≢true}
use Rattle.disk_model.specs.Disk.{Torn}
use Rattle.disk_model.proofs.Run.{started}
use Rattle.recovery.specs.Moves.{is_blamed}
use Rattle.recovery.specs.declared.trio.MoveFault.{MoveFault}
use Rattle.recovery.specs.declared.why.Why.TheVariants.{Device}
use Rattle.recovery.proofs.filling.copy_piece.Goals as goal

pub returns-in-Err : goal.returns-in-Err
returns-in-Err g c =
    let e = c.in-Err.ensures in
    let counting : ℕ → MoveFault = λ n. record { new = false; role = c.args.role; why = Device n } in
    record {
      within = tt;
      written = tt;
      moves = started g.D.Disk.told (Torn c.args.to (length c.args.piece.now)) (λ d. record { before = refl; after = refl; no_shorter = omega arith; no_longer = omega arith }) c.args.target.now;
      kept = record { moves = e.moves; counted = record { counts = e.answers.counts; rose = λ _. e.answers.rose refl } };
      counted = record {
        counts = omega arith;
        rose = λ is. elim (false≢true (subst (λ (f : MoveFault). is_blamed {T = ℕ} true c.args.role (Err f) ≡ true) c.old_fault.ensures is)) [ ];
      };
      one = inl (c.old_fault.ensures ∙ ap counting c.faults-faults.ensures);
    }

pub returns-in-Err-write_at-clause-kept : goal.returns-in-Err-write_at-clause-kept
returns-in-Err-write_at-clause-kept g c =
    let e = c.in_default.ensures in
    record {
      moves = e.moves;
      counted = record {
        counts = e.answers.counts;
        rose = λ is. elim (false≢true (subst (λ (f : MoveFault). is_blamed {T = ℕ} false c.args.role (Err f) ≡ true) c.new_fault.ensures is)) [ ];
      };
    }

pub returns-in-Err-write_at-clause-within : goal.returns-in-Err-write_at-clause-within
returns-in-Err-write_at-clause-within g c = tt

pub returns-in-Err-write_at-clause-written : goal.returns-in-Err-write_at-clause-written
returns-in-Err-write_at-clause-written g c = tt

pub returns-in-Err-write_at-clause-counted : goal.returns-in-Err-write_at-clause-counted
returns-in-Err-write_at-clause-counted g c =
    let a = c.in-Err-write_at.ensures.answers in record { counts = a.counts; rose = λ _. a.rose refl }

pub returns-in-Err-write_at-clause-one : goal.returns-in-Err-write_at-clause-one
returns-in-Err-write_at-clause-one g c =
    let counting : ℕ → MoveFault = λ n. record { new = true; role = c.args.role; why = Device n } in
    inr (c.new_fault.ensures ∙ ap counting c.faults-faults-in-Err-write_at.ensures)

pub returns-clause-within : goal.returns-clause-within
returns-clause-within g c = λ told. c.in_default.ensures.within told

pub returns-clause-kept : goal.returns-clause-kept
returns-clause-kept g c =
    let e = c.in_default.ensures in
    record { moves = e.moves; counted = record { counts = e.answers.counts; rose = λ is. elim (false≢true is) [ ] } }

pub returns-clause-counted : goal.returns-clause-counted
returns-clause-counted g c =
    let a = c.in_default-write_at.ensures.answers in record { counts = a.counts; rose = λ is. elim (false≢true is) [ ] }

pub returns-clause-one : goal.returns-clause-one
returns-clause-one g c = tt
