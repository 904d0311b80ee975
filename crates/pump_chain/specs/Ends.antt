-- What the end of a script prints of a chain.
use Rattle.std.specs.Prelude.{nat_lt, if◌then◌else◌, List, [], ◌∷◌}
use Rattle.script_reader.specs.declared.event.Event.{Event}
use Rattle.script_reader.specs.Scripts.{Running, end_of}
use Rattle.pump_chain.specs.Chained.{Chained}

abbrev pub ended : Running → Event
ended s = end_of s.row s.past

-- of both sessions, by rising number
abbrev pub ends_of : Chained → List Event
ends_of c =
    if nat_lt c.first.row.id c.second.row.id then ended c.first ∷ ended c.second ∷ []
    else ended c.second ∷ ended c.first ∷ []
