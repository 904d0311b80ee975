use Rattle.script_reader.proofs.Behind.{word_put, field_put}
use Rattle.script_reader.proofs.line_printing.put_row.Goals as goal

pub returns-clause-fields : goal.returns-clause-fields
returns-clause-fields g c = field_put _ _ _ _ _ _ (field_put _ _ _ _ _ _ (field_put _ _ _ _ _ _ (field_put _ _ _ _ _ _ (field_put _ _ _ _ _ _ (field_put _ _ _ _ _ _ (field_put _ _ _ _ _ _ (field_put _ _ _ _ _ _ (field_put _ _ _ _ _ _ (word_put _ _ _ c.put.ensures.items) (rw c.from.ensures at c.put_field.ensures.items)) (rw c.from-2.ensures at c.put_field-2.ensures.items)) (rw c.from-3.ensures at c.put_field-3.ensures.items)) (rw c.from-4.ensures at c.put_field-4.ensures.items)) (rw c.from-5.ensures at c.put_field-5.ensures.items)) (rw c.from-6.ensures at c.put_field-6.ensures.items)) (rw c.from-7.ensures at c.put_field-7.ensures.items)) c.put_name.ensures.items) c.put_name-2.ensures.items
