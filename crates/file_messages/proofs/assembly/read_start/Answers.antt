use Rattle.std.proofs.Common.{◌<◌, ◌≤◌, ◌^◌, refl, sym, ◌∙◌, ap, subst}
use Rattle.byteorder.specs.Endian.{big_number}
use Rattle.file_messages.specs.FileNames.{IsFileName}
use Rattle.file_messages.specs.Messages.{Start}
use Rattle.file_messages.proofs.Starts.{behind, no_version, too_large, too_few, unnamed, is_start}
use Rattle.file_messages.proofs.assembly.read_start.Goals as goal
use Rattle.file_messages.proofs.assembly.read_start.Goals.{then-rest-ne-VERSION-via-then-rest-ne-VERSION, then-rest-ne-VERSION-via-else-rest-ne-VERSION+then-size-ge-LIMIT}

pub returns-then-rest-clause-none : goal.returns-then-rest-clause-none
returns-then-rest-clause-none c = λ e. too_few c.args.rest.now c.if-rest.true

pub returns-then-rest-ne-VERSION-clause-none : goal.returns-then-rest-ne-VERSION-clause-none
returns-then-rest-ne-VERSION-clause-none c = λ e.
    let rest = c.args.rest.now in
    elim c.then-rest-ne-VERSION.branch [
      | then-rest-ne-VERSION-via-then-rest-ne-VERSION w ↦ no_version rest w.if-rest-ne-VERSION.true
      | then-rest-ne-VERSION-via-else-rest-ne-VERSION+then-size-ge-LIMIT w ↦
          let size = c.read_u64-size.ensures ∙ ap (big_number 8) (behind rest 1) in
          too_large rest (subst (λ k. 2 ^ 48 ≤ k) size w.if-size-ge-LIMIT.true)
    ]

pub returns-in_err-name-clause-none : goal.returns-in_err-name-clause-none
returns-in_err-name-clause-none c = λ e.
    let rest = c.args.rest.now in
    unnamed rest (λ is. let no = c.in_err-name.ensures.some.1 (subst IsFileName (sym (behind rest 9)) is) in cc)

pub returns-clause-some : goal.returns-clause-some
returns-clause-some c =
    let rest = c.args.rest.now in
    let size = c.read_u64-size.ensures ∙ ap (big_number 8) (behind rest 1) in
    let name = c.in_ok-name.ensures.value ∙ behind rest 9 in
    is_start rest c.if-rest-ne-VERSION.false (subst (λ k. k < 2 ^ 48) size c.if-size-ge-LIMIT.false) (subst IsFileName (behind rest 9) (c.in_ok-name.ensures.some.0 refl))
    ∙ (λ i. Start (sym name i) (sym size i))
