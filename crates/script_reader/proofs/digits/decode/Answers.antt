use Rattle.std.proofs.Common.{◌*◌, refl, ◌∙◌, arith}
use Rattle.hex.proofs.Pairs.{decode_step, decode_done, decode_err, decode_sized-pairs}
use Rattle.script_reader.proofs.digits.decode.Goals as goal

pub returns-in_default : goal.returns-in_default
returns-in_default c =
    let bad = c.in_default.ensures (2 * c.bytes.i) in
    let d = decode_sized-pairs _ _ c.if-digits-ne0.false c.if-digits-room.false ∙ decode_err _ c.bytes.room c.bytes.i bad.0 (omega arith) bad.1 c.bytes.invariant in
    record { read = rw d refl }

pub bytes-preserved : goal.bytes-preserved
bytes-preserved c =
    decode_step _ _ c.bytes.i _ (omega arith) (omega arith) (c.in-Some.ensures (2 * c.bytes.i)) c.bytes.invariant

pub returns : goal.returns
returns c =
    let d = decode_sized-pairs _ _ c.if-digits-ne0.false c.if-digits-room.false ∙ decode_done _ c.bytes.room c.bytes.i (omega arith) (omega arith) c.bytes.invariant in
    record { read = rw d refl }
