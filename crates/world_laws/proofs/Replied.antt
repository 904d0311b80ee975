-- A timed run has low replies.
use Rattle.std.proofs.Common.{List, [], ◌∷◌, ◌++◌, map, refl}
use Rattle.pump_frame.specs.declared.row.SessionRow.{SessionRow}
use Rattle.pump_core.specs.History.{Look, Opening, Life, History}
use Rattle.pump_core.specs.Replies.{Sent, replies_of, LifeReplies, LivesReplies, LowReplies}
use Rattle.pump_core.specs.Timed.{Step, LowLife, Point}
use Rattle.pump_core.specs.Runs.{StandInPlace, AllInPlace, IsRun}

life_has : (row : SessionRow) (o : Opening) (looks : List Look) (stood : List (List Step))
    → StandInPlace row o looks stood
    → (xs : List Sent) × LifeReplies row (record { opening = o; looks = looks }) xs
life_has row o [] [] h = ([], ([], record { are_parts = tt; looks = refl }, refl))
life_has row o [] (s ∷ stood) h = absurd h
life_has row o (x ∷ looks) [] h = absurd h
life_has row o (x ∷ looks) (s ∷ stood) h = (replies_of row o h.0.0, (h.0.0, h.0.1, refl))

lives_have : (row : SessionRow) (ls : List Life) (stood : List (List (List Step)))
    → AllInPlace row ls stood → (xs : List Sent) × LivesReplies row ls xs
lives_have row [] stood h = ([], refl)
lives_have row (l ∷ ls) [] h = absurd h
lives_have row (l ∷ ls) (s ∷ stood) h =
    let older = lives_have row ls stood h.1 in
    let newer = life_has row l.opening l.looks s h.0 in
    (older.0 ++ newer.0, (older.0, newer.0, older.1, newer.1, refl))

pub run_has : (row : SessionRow) (steps : List Step) (t : Point) (h : History) → IsRun row steps t h
    → (xs : List Sent) × LowReplies row h xs
run_has row steps t h r =
    lives_have row (h.life ∷ h.earlier) (map (λ (l : LowLife). l.stood) (t.life ∷ t.earlier)) r.places
