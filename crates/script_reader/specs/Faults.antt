-- Scripts with a line that is outside the grammar or refused.
use Rattle.std.specs.Prelude.{◌⊎◌, ℕ, List, [], ◌∷◌, Option, IfSome}
use Rattle.script_reader.specs.declared.line.Line.{Line}
use Rattle.script_reader.specs.Lines.{AreLines, IsBad}
use Rattle.script_reader.specs.Scripts.{Begun, IsRefused}
use Rattle.script_reader.specs.Sessions.{Sessions, ScriptRefuses}

-- what is left of a script, where it is told, begins with no line, or with one that is refused
abbrev pub IsFaultyBy : (Line → Type 0) → Option (List ℕ) → Type 0
IsFaultyBy Refused rest = IfSome rest IsBad ⊎ ((line : Line) × (after : Option (List ℕ))
    × AreLines rest (line ∷ []) after × Refused line)

-- .. after the lines before it: in a script of one session, and in a whole script
abbrev pub IsFaulty : Option (List ℕ) → Option Begun → Type 0
IsFaulty rest running = IsFaultyBy (IsRefused running) rest

abbrev pub IsScriptFaulty : Option (List ℕ) → Sessions → Type 0
IsScriptFaulty rest t = IsFaultyBy (ScriptRefuses t) rest
