use Rattle.std.proofs.Common.{refl, rules}
use Rattle.std.proofs.lemmas.Str.{is_utf8-from_IsUtf8}
use Rattle.session_table.specs.Documents.{document}
use Rattle.session_table.proofs.Reading.{document_of_none}
use Rattle.session_table.proofs.document.document.Goals as goal

pub returns-in-Ok : goal.returns-in-Ok
unfolding document
returns-in-Ok c =
    let read = c.in-Ok.ensures.ok in
    rw (is_utf8-from_IsUtf8 c.args.bytes.now read.0, read.1) refl

pub returns-else-is_memory : goal.returns-else-is_memory
returns-else-is_memory c = document_of_none c.args.bytes.now (c.in-Err.ensures.refused (search rules))
