-- Where one line of a script leads a point of a timed run: an arrival on the low side, or a low look.
use Rattle.std.proofs.Common.{List, ◌∷◌}
use Rattle.pump_core.specs.Comings.{Coming, LookMade, Comes, Looks}
use Rattle.pump_core.specs.Timed.{Step, Point, happened}

-- something comes on the connection that stands
abbrev pub arrives_to : Point → Coming → Point
arrives_to t c = record t { life = happened t (Comes c) }

-- the point t with one more low look, in which these steps stand; v has the world, the high side and
-- the moment to which the steps lead
abbrev pub looks_to : Point → Point → LookMade → List Step → Point
looks_to t v made stood = record v {
  life = record {
    side = record { opening = t.life.side.opening; events = Looks made ∷ t.life.side.events };
    stood = stood ∷ t.life.stood;
  };
  earlier = t.earlier;
}
