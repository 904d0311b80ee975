use Rattle.std.proofs.Common.{◌≡◌, List, [], ◌∷◌, true, map}
use Rattle.std.specs.List.{All}
use Rattle.std.proofs.lemmas.List.Elements.{All-nil, All-cons}
use Rattle.pump_core.specs.Passage.{shape_of_row, IsAverage}
use Rattle.pump_audit.specs.declared.claims.Claim.{Claim}
use Rattle.pump_audit.specs.Claims.{pair_of, has_end, AreRight}
use Rattle.pump_audit.specs.Records.{Record}
use Rattle.pump_audit.proofs.laws.clean_records_keep_their_numbers.Goals as goal

are_averages : (r : Record) → has_end r ≡ true → (claims : List Claim) → AreRight r claims → All (IsAverage (shape_of_row r.row) r.times) (map pair_of claims)
are_averages r ends [] right = All-nil (IsAverage (shape_of_row r.row) r.times)
are_averages r ends (c ∷ older) right =
    All-cons (IsAverage (shape_of_row r.row) r.times) (pair_of c) (map pair_of older) (right.0.average ends) (are_averages r ends older right.1)

pub returns-clause-averages : goal.returns-clause-averages
returns-clause-averages c bytes r clean ends = are_averages r ends r.claims clean.claims

pub returns-clause-removed : goal.returns-clause-removed
returns-clause-removed c bytes r clean ends = (clean.end ends).removed

pub returns-clause-taken : goal.returns-clause-taken
returns-clause-taken c bytes r clean ends = (clean.end ends).taken

pub returns-clause-room : goal.returns-clause-room
returns-clause-room c bytes r clean ends = (clean.end ends).room
