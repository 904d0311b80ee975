-- What is printed where a DATA is carried. Only clauses of private functions name this.
use Rattle.std.specs.Prelude.{ℕ}
use Rattle.high_receiver.specs.declared.values.Taken.{Taken}
use Rattle.high_receiver.specs.declared.values.Taken.TheVariants as taken
use Rattle.script_reader.specs.declared.event.Event.{Event}
use Rattle.script_reader.specs.declared.event.Event.TheVariants.{Took, Again}

abbrev pub printed_taken : ℕ → ℕ → Taken → Event
printed_taken session number taken.Took = Took session number
printed_taken session number taken.Repeat = Again session number
