use Rattle.std.proofs.Common.{◌≡◌, ◌∙◌, ◌++◌, ◌∷◌, [], Some, None, length, sym, arith, length-append, false, ◌==◌}
use Rattle.std.proofs.KnownBytes.{Consumes-trans}
use Rattle.script_reader.specs.Parsing.{hex}
use Rattle.script_reader.proofs.FieldLaws.{hex_takes}
use Rattle.std.proofs.lemmas.Bool.{eqb-true}
use Rattle.peers.proofs.PayloadLaws.{bad_line, long_line, last_line, not_zero}
use Rattle.peers.proofs.payload_lines.PayloadLines.next.Goals as goal

pub returns-then-set_payload-clause-next : goal.returns-then-set_payload-clause-next
returns-then-set_payload-clause-next g c =
    let was = c.bytes.invariant in
    let is : Some c.set_payload.new.payload ≡ hex c.bytes.line.items = rw (c.if-set_payload.true, c.as_slice.ensures.value) at c.set_payload.ensures in (
      c.bytes.line.items,
      record { unended = was.unended; hex = hex_takes _ _ (sym is) },
      Consumes-trans _ _ _ _ _ was.line (rw c.in-Byte-eq10.field-0-test at c.in-Byte-eq10.ensures.byte),
    )

pub returns-else-set_payload-clause-next : goal.returns-else-set_payload-clause-next
returns-else-set_payload-clause-next g c =
    let was = c.bytes.invariant in
    let is : None ≡ hex c.bytes.line.items = rw (c.if-set_payload.false, c.as_slice.ensures.value) at c.set_payload.ensures in
    bad_line _ _ c.bytes.line.items (Consumes-trans _ _ _ _ _ was.line (rw c.in-Byte-eq10.field-0-test at c.in-Byte-eq10.ensures.byte)) was.unended (sym is)

pub returns-then-is_full-clause-next : goal.returns-then-is_full-clause-next
returns-then-is_full-clause-next g c =
    let was = c.bytes.invariant in
    let full : length c.bytes.line.items ≡ 2048 = eqb-true _ _ (sym c.is_full.ensures.value ∙ c.if-is_full.true) in
    long_line _ _ _ c.bytes.line.items c.in-Byte.byte was.line c.in-Byte.ensures.byte was.unended c.in-Byte.byte-test.1 (omega (arith, full))

pub returns-else-is_empty-clause-next : goal.returns-else-is_empty-clause-next
returns-else-is_empty-clause-next g c =
    let was = c.bytes.invariant in
    let test : (length c.bytes.line.items == 0) ≡ false = sym c.is_empty.ensures ∙ c.if-is_empty.false in
    last_line _ _ c.bytes.line.items was.line c.in-End.ensures.byte.0 was.unended (not_zero _ test)

pub returns-then-set_payload-clause-taken : goal.returns-then-set_payload-clause-taken
returns-then-set_payload-clause-taken g c =
    let was = c.bytes.invariant in (
      c.bytes.line.items ++ 10 ∷ [],
      Consumes-trans _ _ _ _ _ was.line (rw c.in-Byte-eq10.field-0-test at c.in-Byte-eq10.ensures.byte),
      omega (arith, was.short, length-append c.bytes.line.items (10 ∷ [])),
    )

pub returns-else-set_payload-clause-taken : goal.returns-else-set_payload-clause-taken
returns-else-set_payload-clause-taken g c =
    let was = c.bytes.invariant in (
      c.bytes.line.items ++ 10 ∷ [],
      Consumes-trans _ _ _ _ _ was.line (rw c.in-Byte-eq10.field-0-test at c.in-Byte-eq10.ensures.byte),
      omega (arith, was.short, length-append c.bytes.line.items (10 ∷ [])),
    )

pub returns-then-is_full-clause-taken : goal.returns-then-is_full-clause-taken
returns-then-is_full-clause-taken g c =
    let was = c.bytes.invariant in (
      c.bytes.line.items ++ c.in-Byte.byte ∷ [],
      Consumes-trans _ _ _ _ _ was.line c.in-Byte.ensures.byte,
      omega (arith, was.short, length-append c.bytes.line.items (c.in-Byte.byte ∷ [])),
    )

pub returns-then-is_empty-clause-taken : goal.returns-then-is_empty-clause-taken
returns-then-is_empty-clause-taken g c =
    let was = c.bytes.invariant in (_, Consumes-trans _ _ _ _ _ was.line c.in-End.ensures.byte.1, omega (arith, was.short, length-append c.bytes.line.items []))

pub returns-else-is_empty-clause-taken : goal.returns-else-is_empty-clause-taken
returns-else-is_empty-clause-taken g c =
    let was = c.bytes.invariant in (_, Consumes-trans _ _ _ _ _ was.line c.in-End.ensures.byte.1, omega (arith, was.short, length-append c.bytes.line.items []))

pub returns-in-Failed-clause-taken : goal.returns-in-Failed-clause-taken
returns-in-Failed-clause-taken g c =
    let was = c.bytes.invariant in (_, Consumes-trans _ _ _ _ _ was.line c.in-Failed.ensures.byte, omega (arith, was.short, length-append c.bytes.line.items []))
