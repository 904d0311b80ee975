use Rattle.std.proofs.Common.{[], sym, subst}
use Rattle.pump_core.specs.Passage.{NeverFall}
use Rattle.race.proofs.Printing.{pairs_kept}
use Rattle.relay_threads.proofs.LowReplays.{stays_lawful}
use Rattle.relay_threads.specs.LowStays.{stayed}
use Rattle.clean_records.proofs.Served.{served_few}
use Rattle.clean_records.proofs.Told.{record_clean}
use Rattle.clean_records.proofs.laws.served_records_are_clean.Goals as goal

pub returns-clause-clean : goal.returns-clause-clean
returns-clause-clean g c row o stays lawful are made readable levels falls few =
    let looks = stayed [] stays in
    record_clean row o looks lawful made readable levels (stays_lawful row o stays are) (subst NeverFall (sym (pairs_kept row o looks made)) falls) few

pub returns-clause-few : goal.returns-clause-few
returns-clause-few g c row o stays readable few = served_few row o stays readable few
