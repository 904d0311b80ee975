use Rattle.std.proofs.Common.{arith}
use Rattle.hex.proofs.HexLemmas.{decode_of-encode_lower}
use Rattle.script_reader.proofs.printing.put_hex.Goals as goal

pub returns-then-is_empty-clause-printed : goal.returns-then-is_empty-clause-printed
returns-then-is_empty-clause-printed g c = decode_of-encode_lower c.args.bytes.now (λ i. let f = c.type_inv.bytes i in omega arith)

pub returns-then-bytes-le96-clause-printed : goal.returns-then-bytes-le96-clause-printed
returns-then-bytes-le96-clause-printed g c = decode_of-encode_lower c.args.bytes.now (λ i. let f = c.type_inv.bytes i in omega arith)

pub returns-else-bytes-le96-clause-printed : goal.returns-else-bytes-le96-clause-printed
returns-else-bytes-le96-clause-printed g c = decode_of-encode_lower c.args.bytes.now (λ i. let f = c.type_inv.bytes i in omega arith)
