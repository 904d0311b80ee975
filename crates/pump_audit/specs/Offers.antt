-- What a look was offered, where its frame lies in a room. It serves private clauses and proofs alone.
use Rattle.pump_audit.specs.declared.entry.Coming.{Coming}
use Rattle.pump_audit.specs.declared.entry.Coming.TheVariants as coming
use Rattle.pump_audit.specs.declared.entry.Offer.{Offer}
use Rattle.pump_audit.specs.declared.entry.Offer.TheVariants as offers

abbrev pub coming_of : Offer → Coming
coming_of offers.Nothing = coming.Nothing
coming_of (offers.Frame f) = coming.Frame f.now
coming_of offers.Bad = coming.Bad
coming_of offers.Gone = coming.Gone
