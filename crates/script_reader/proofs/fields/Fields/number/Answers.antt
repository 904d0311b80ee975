use Rattle.std.proofs.Common.{ℕ, Option, ◌^◌, arith, subst}
use Rattle.script_reader.specs.Parsing.{Reads, field_at, number}
use Rattle.script_reader.proofs.LeadingNumbers.{reads_below, reads_over, reads_no_number}
use Rattle.script_reader.proofs.fields.Fields.number.Goals as goal

pub returns-in_err-n-clause-reads : goal.returns-in_err-n-clause-reads
returns-in_err-n-clause-reads c =
    let old = c.args.self.now in
    let none = subst (λ (r : Option ℕ). Reads r c.count.new.self (field_at (number (2 ^ 64)) old)) c.in_err-n.was c.count.ensures in
    rw c.from_residual.ensures (reads_no_number c.args.bound old c.count.new.self c.count.new.self (omega arith) none)

pub returns-then-n-bound-clause-reads : goal.returns-then-n-bound-clause-reads
returns-then-n-bound-clause-reads c =
    let old = c.args.self.now in
    let some = subst (λ (r : Option ℕ). Reads r c.count.new.self (field_at (number (2 ^ 64)) old)) c.in_ok-n.was c.count.ensures in
    reads_below c.args.bound c.in_ok-n.n old c.count.new.self (omega arith) some c.if-n-bound.true

pub returns-else-n-bound-clause-reads : goal.returns-else-n-bound-clause-reads
returns-else-n-bound-clause-reads c =
    let old = c.args.self.now in
    let some = subst (λ (r : Option ℕ). Reads r c.count.new.self (field_at (number (2 ^ 64)) old)) c.in_ok-n.was c.count.ensures in
    reads_over c.args.bound c.in_ok-n.n old c.count.new.self c.count.new.self (omega arith) some c.if-n-bound.false
