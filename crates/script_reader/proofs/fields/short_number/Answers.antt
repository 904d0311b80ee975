use Rattle.std.proofs.Common.{rules, arith, ◌+◌, [], take, drop}
use Rattle.std.specs.List.{slice_split}
use Rattle.script_reader.specs.Fields.{is_space}
use Rattle.script_reader.specs.Parsing.{IsPlain}
use Rattle.script_reader.proofs.LeadingNumbers.{no_space, space_at, reads_whole, reads_to_space}
use Rattle.script_reader.proofs.fields.short_number.Goals as goal

pub returns-then-count-bytes-clause-space : goal.returns-then-count-bytes-clause-space
returns-then-count-bytes-clause-space c = no_space c.args.bytes.now c.leading_digits-n.result.1 c.leading_digits-n.ensures.digits c.if-count-bytes.true

pub returns-then-count-bytes-clause-number : goal.returns-then-count-bytes-clause-number
returns-then-count-bytes-clause-number c =
    let d = c.leading_digits-n.ensures in
    let plain : IsPlain (take c.leading_digits-n.result.1 c.args.bytes.now) = search rules in
    ([], rw d.value (reads_whole c.args.bytes.now c.leading_digits-n.result.1 plain d.digits d.few c.if-count-bytes.true))

pub returns-then-bytes-count-eq32-clause-space : goal.returns-then-bytes-count-eq32-clause-space
returns-then-bytes-count-eq32-clause-space c =
    space_at c.args.bytes.now c.leading_digits-n.result.1 c.leading_digits-n.ensures.digits (omega arith) c.if-bytes-count-eq32.true

pub returns-then-bytes-count-eq32-clause-number : goal.returns-then-bytes-count-eq32-clause-number
returns-then-bytes-count-eq32-clause-number c =
    let d = c.leading_digits-n.ensures in
    let plain : IsPlain (take c.leading_digits-n.result.1 c.args.bytes.now) = search rules in (
      slice_split is_space (drop (c.leading_digits-n.result.1 + 1) c.args.bytes.now),
      rw d.value (reads_to_space c.args.bytes.now c.leading_digits-n.result.1 plain d.digits d.few (omega arith) c.if-bytes-count-eq32.true),
    )
