use Rattle.std.proofs.Common.{rules, ◌≡◌, ◌∷◌, []}
use Rattle.std.proofs.lemmas.Slice.Eq.{bytes_eq-Decides}
use Rattle.pump_audit.proofs.EntryLaws.{only_bad}
use Rattle.pump_audit.proofs.reading.read_raw.Goals as goal

pub returns-then-eq-clause-only : goal.returns-then-eq-clause-only
returns-then-eq-clause-only c =
    let same : c.args.bytes.now ≡ 0 ∷ [] = search (rules, bytes_eq-Decides) in
    rw c.new.ensures (only_bad c.args.bytes.now same)
