-- In a run of a coarse session the averages that were told are levels, so a list of classes tells them.
use Rattle.std.proofs.Common.{◌≡◌, ℕ, true, List, [], ◌∷◌, ◌++◌, map}
use Rattle.std.specs.Prelude.{option_to_list}
use Rattle.std.specs.List.{AllByRecursion}
use Rattle.pump_frame.specs.declared.row.SessionRow.{SessionRow}
use Rattle.pump_frame.specs.Averages.{IsLevel}
use Rattle.pump_core.specs.declared.feedback.Feedback.{Feedback}
use Rattle.pump_core.specs.declared.feedback.Feedback.TheVariants.{Quiet, Full, Passed, Released, Repeat}
use Rattle.pump_core.specs.Comings.{Timed, Comes, Looks}
use Rattle.pump_core.specs.Timed.{Step, Point, LowLife, LeadsTo}
use Rattle.world_laws.specs.ListedAverages.{average_in, averages_told, averages_of_sides, averages_in, AgreeInAverages, AgreeInListedClasses}
use Rattle.world_laws.proofs.Runs.Classes.{TellsLevel, TellLevels, LifeTells, run_tells, same_averages}

both : (ns ms : List ℕ) → AllByRecursion IsLevel ns → AllByRecursion IsLevel ms → AllByRecursion IsLevel (ns ++ ms)
both [] ms h k = k
both (n ∷ ns) ms h k = (h.0, both ns ms h.1 k)

level_of : (f : Feedback) → TellsLevel f → AllByRecursion IsLevel (option_to_list (average_in f))
level_of (Passed s) told = (told, tt)
level_of (Repeat s) told = (told, tt)
level_of Quiet told = tt
level_of Full told = tt
level_of Released told = tt

levels_of : (past : List Timed) → TellLevels past → AllByRecursion IsLevel (averages_told past)
levels_of [] told = tt
levels_of (Comes c ∷ past) told = levels_of past told
levels_of (Looks made ∷ past) told = both (averages_told past) (option_to_list (average_in made.feedback)) (levels_of past told.1) (level_of made.feedback told.0)

levels_in : (lives : List LowLife) → AllByRecursion LifeTells lives → AllByRecursion IsLevel (averages_of_sides (map (λ (l : LowLife). l.side) lives))
levels_in [] told = tt
levels_in (l ∷ earlier) told =
    both (averages_of_sides (map (λ (m : LowLife). m.side) earlier)) (averages_told l.side.events) (levels_in earlier told.1) (levels_of l.side.events told.0)

levels_of_run : (row : SessionRow) (steps : List Step) (t : Point) → row.coarse ≡ true → LeadsTo row steps t → AllByRecursion IsLevel (averages_in t)
levels_of_run row steps t coarse leads = levels_in (t.life ∷ t.earlier) (run_tells row steps t coarse leads)

pub agree_in_averages : (row : SessionRow) (steps others : List Step) (t u : Point) → row.coarse ≡ true → LeadsTo row steps t → LeadsTo row others u
    → AgreeInListedClasses t u → AgreeInAverages t u
agree_in_averages row steps others t u coarse one other agree = record {
  own = agree.own;
  averages = same_averages (averages_in t) (averages_in u) (levels_of_run row steps t coarse one) (levels_of_run row others u coarse other) agree.classes;
}
