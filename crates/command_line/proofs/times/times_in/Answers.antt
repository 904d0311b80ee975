use Rattle.std.proofs.Common.{◌≡◌, ◌<◌, ◌∷◌, ◌++◌, ◌∙◌, ℕ, List, Option, Bor, [], length, Some, None, sym, subst, lit<, rules}
use Rattle.std.proofs.lemmas.Str.Pattern.{split_parts, split_after}
use Rattle.command_line.specs.TimeLists.{AreTimes, times_word}
use Rattle.command_line.proofs.Commas.{HasRead, nothing_read, next_is, first_is, read_more, last_is, read_last}
use Rattle.command_line.proofs.times.times_in.Goals as goal

pub commas-init : goal.commas-init
commas-init c = (subst (λ l. HasRead c.args.word.now l c.args.word.now) (sym c.new-times.ensures) (nothing_read c.args.word.now), c.utf8.word)

pub returns-in_err-time_in-clause-read : goal.returns-in_err-time_in-clause-read
returns-in_err-time_in-clause-read c all k e =
    let h = c.commas.invariant.0 in
    let rest = c.commas.rest.now in
    let parts : Option (Bor (List ℕ) × Bor (List ℕ)) = Some (c.in-Some.first, c.in-Some.more) in
    let cut = split_parts 44 rest parts c.in-Some.ensures.cases (lit< tt) in
    let first = first_is c.args.word.now c.commas.times.items rest h c.in-Some.first.now c.in-Some.more.now cut.0
    (λ xs ys is free. split_after 44 rest xs ys parts c.in-Some.ensures.cases (lit< tt) is free) all k e in
    let read = c.in_err-time_in.ensures.read (h.left all k e).0 (next_is c.args.word.now c.commas.times.items rest h all k e).0 first in
    cc

pub commas-preserved : goal.commas-preserved
commas-preserved c =
    let h = c.commas.invariant.0 in
    let rest = c.commas.rest.now in
    let parts : Option (Bor (List ℕ) × Bor (List ℕ)) = Some (c.in-Some.first, c.in-Some.more) in
    let cut = split_parts 44 rest parts c.in-Some.ensures.cases (lit< tt) in
    let time = c.in_ok-time_in.ensures.some in
    let grown : c.try_push.new.self.items ≡ c.commas.times.items ++ c.in_ok-time_in.field-0 ∷ [] = search rules in
    let room : length c.commas.times.items < 16 = search rules in
    let read = read_more c.args.word.now c.commas.times.items rest h c.in-Some.first.now c.in-Some.more.now cut.0
    (λ xs ys is free. split_after 44 rest xs ys parts c.in-Some.ensures.cases (lit< tt) is free) c.in_ok-time_in.field-0 time.0 time.1 room in
    (subst (λ l. HasRead c.args.word.now l c.in-Some.more.now) (sym grown) read, search rules)

pub returns-in_err-time_in-2-clause-read : goal.returns-in_err-time_in-2-clause-read
returns-in_err-time_in-2-clause-read c all k e =
    let h = c.commas.invariant.0 in
    let rest = c.commas.rest.now in
    let none = split_parts 44 rest None c.in_default.ensures.cases (lit< tt) in
    let last = last_is c.args.word.now c.commas.times.items rest h none all k e in
    let read = c.in_err-time_in-2.ensures.read (h.left all k e).0 (next_is c.args.word.now c.commas.times.items rest h all k e).0 last.0 in
    cc

pub returns-clause-some : goal.returns-clause-some
returns-clause-some c =
    let h = c.commas.invariant.0 in
    let rest = c.commas.rest.now in
    let none = split_parts 44 rest None c.in_default.ensures.cases (lit< tt) in
    let time = c.in_ok-time_in-2.ensures.some in
    let grown : c.try_push-2.new.self.items ≡ c.commas.times.items ++ c.in_ok-time_in-2.field-0 ∷ [] = search rules in
    let room : length c.commas.times.items < 16 = search rules in
    let read = read_last c.args.word.now c.commas.times.items rest h none c.in_ok-time_in-2.field-0 time.0 time.1 room in
    subst (λ l. AreTimes l × (c.args.word.now ≡ times_word l)) (sym grown) (read.0, read.1)

pub returns-clause-read : goal.returns-clause-read
returns-clause-read c all k e =
    let h = c.commas.invariant.0 in
    let rest = c.commas.rest.now in
    let none = split_parts 44 rest None c.in_default.ensures.cases (lit< tt) in
    let time = c.in_ok-time_in-2.ensures.some in
    let grown : c.try_push-2.new.self.items ≡ c.commas.times.items ++ c.in_ok-time_in-2.field-0 ∷ [] = search rules in
    let room : length c.commas.times.items < 16 = search rules in
    grown ∙ (read_last c.args.word.now c.commas.times.items rest h none c.in_ok-time_in-2.field-0 time.0 time.1 room).2 all k e
