use Rattle.std.proofs.Common.{◌∙◌}
use Rattle.pump_audit.proofs.EntryLaws.{only_told}
use Rattle.pump_audit.proofs.reading.read_look.Goals as goal

pub returns-in_err-read_coming-in-Told-clause-only : goal.returns-in_err-read_coming-in-Told-clause-only
returns-in_err-read_coming-in-Told-clause-only c e h =
    let t = c.in-Told in
    let told = only_told c.args.session c.args.moment t.word t.fault t.feedback _ c.read_coming.result c.read_coming.ensures.only e (rw t.is at h) in
    c.from_residual.ensures ∙ (rw c.in_err-read_coming-in-Told.was at told)

pub returns-in_ok-read_coming-in-Told-clause-only : goal.returns-in_ok-read_coming-in-Told-clause-only
returns-in_ok-read_coming-in-Told-clause-only c e h =
    let t = c.in-Told in
    let told = only_told c.args.session c.args.moment t.word t.fault t.feedback _ c.read_coming.result c.read_coming.ensures.only e (rw t.is at h) in
    rw c.in_ok-read_coming-in-Told.was at told
