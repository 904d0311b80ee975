use Rattle.std.proofs.lemmas.Option.{same_Some}
use Rattle.pump_audit.proofs.EntryLaws.{no_entry}
use Rattle.pump_audit.proofs.reading.read_entry.Goals as goal

pub read_headed-requires-clause-only : goal.read_headed-requires-clause-only
read_headed-requires-clause-only c line h = rw c.as_slice.ensures.value (same_Some _ line (c.in-Some.ensures.only line h))

pub returns-in-None-clause-only : goal.returns-in-None-clause-only
returns-in-None-clause-only c e h = absurd (no_entry c.args.text.now (λ line k. let none = c.in-None.ensures.only line k in absurd (cc)) e h)
