use Rattle.clean_records.proofs.RaceEnd.{race_clean}
use Rattle.clean_records.proofs.Sizes.{race_few}
use Rattle.clean_records.proofs.laws.race_records_are_clean.Goals as goal

pub returns : goal.returns
returns c seed count times readings asks bytes can is =
    race_clean seed count times readings asks bytes is can (race_few seed count times readings asks bytes is can is.looks.plain)
