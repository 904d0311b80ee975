use Rattle.std.proofs.Common.{◌≡◌, map, string_bytes, subst, sym, ◌∙◌, ap, List, Option, true}
use Rattle.clap.specs.Walk.{Row, Text}
use Rattle.clap.specs.Simple.{App, app_of, is_simple, subcommand_of}
use Rattle.clap.specs.Takes.{takes}
use Rattle.command_line.specs.Found.{GivesIn}
use Rattle.command_line.specs.Program.{program_of}
use Rattle.command_line.proofs.Taken.{simple, words_taken, values_found}
use Rattle.command_line.proofs.find.found.Goals as goal

pub returns-in-Ok-try_get_matches_from-clause-refused : goal.returns-in-Ok-try_get_matches_from-clause-refused
returns-in-Ok-try_get_matches_from-clause-refused c none d row =
    let words = map string_bytes c.args.words.now in
    let app : app_of c.in-Ok.program ≡ program_of d = c.in-Ok.ensures.made d row in
    let found = (c.in-Ok-try_get_matches_from.ensures.matches (ap is_simple app ∙ simple d)).1 ∙ ap (λ (a : App). subcommand_of a words) app in
    c.found_in.ensures.refused none d row (subst (λ (r : Option (Text × List Row)). GivesIn d r) (sym found) (values_found words d row))

pub returns : goal.returns
returns c = record {
  found = tt;
  refused = λ none d row.
      let words = map string_bytes c.args.words.now in
      let app : app_of c.in-Ok.program ≡ program_of d = c.in-Ok.ensures.made d row in
      let taken : takes (app_of c.in-Ok.program) words ≡ true = ap (λ (a : App). takes a words) app ∙ words_taken words d row in
      c.in_default.not-OutOfMemory (c.kind.ensures ∙ c.in-Err-try_get_matches_from.ensures.passes taken);
}
