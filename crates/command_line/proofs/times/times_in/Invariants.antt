use Rattle.std.proofs.Common.{length}
use denote.Shadow.{shadow}
use denote.Text.{Utf8}
use Rattle.command_line.proofs.Commas.{HasRead}
use Rattle.command_line.proofs.times.times_in.Given as goal

abbrev pub invariant-commas : goal.invariant-commas
invariant-commas l = HasRead l.word l.times.items l.rest × shadow (Utf8 l.rest)

abbrev pub decreases-commas : goal.decreases-commas
decreases-commas l = length l.rest
