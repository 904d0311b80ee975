use Rattle.std.proofs.Common.{sym, subst}
use Rattle.pump_core.specs.Passage.{NeverFall}
use Rattle.race.proofs.Printing.{pairs_kept}
use Rattle.clean_records.proofs.Told.{record_clean}
use Rattle.clean_records.proofs.laws.records_are_clean.Goals as goal

pub returns : goal.returns
returns c row o made lawful are readable levels takes falls few =
    record_clean row o made lawful are readable levels takes (subst NeverFall (sym (pairs_kept row o made are)) falls) few
