use Rattle.std.proofs.Common.{append_assoc}
use Rattle.std.proofs.lemmas.List.{append-nil}
use Rattle.script_reader.proofs.line_printing.put_arriving.Goals as goal

pub returns-in-Data-clause-items : goal.returns-in-Data-clause-items
returns-in-Data-clause-items g c =
    rw (c.put_hex.ensures.items, c.put_field.ensures.items, c.put-in-Data.ensures.items, c.in-Data.is) (simp (append_assoc, append-nil))

pub returns-in-Raw-clause-items : goal.returns-in-Raw-clause-items
returns-in-Raw-clause-items g c =
    rw (c.put_hex-in-Raw.ensures.items, c.put-in-Raw.ensures.items, c.in-Raw.is) (simp (append_assoc, append-nil))
