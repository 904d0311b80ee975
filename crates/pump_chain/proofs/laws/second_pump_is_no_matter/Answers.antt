use Rattle.std.proofs.Common.{inl, List, ◌∷◌, Some, ap}
use Rattle.script_reader.specs.declared.line.Line.{Line}
use Rattle.script_reader.specs.declared.line.Line.TheVariants as lines
use Rattle.script_reader.specs.Scripts.{Whole}
use Rattle.script_reader.specs.Sessions.{lines_of, events_of}
use Rattle.pump_chain.proofs.Owning.{opens_alike}
use Rattle.pump_chain.proofs.laws.second_pump_is_no_matter.Goals as goal

pub returns : goal.returns
returns c = λ o p one two other script others a b xs ys can leads may goes opens low told.
    let own = c.sessions_are_their_own.ensures.first in
    c.low_lines_are_a_function.ensures.so_far o p (lines.Session one ∷ lines_of one.id script) (lines.Session one ∷ lines_of one.id others) (Some (Whole a.first)) (Some (Whole b.first)) (events_of one.id xs) (events_of one.id ys)
    (inl (own o one two script a xs can leads)) (inl (own p one other others b ys may goes)) (opens_alike o one two script a xs can leads p opens)
    (ap (λ (l : List Line). lines.Session one ∷ l) low) told
