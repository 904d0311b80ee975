-- The row of a session in the bytes of a table's file.
use Rattle.std.proofs.Common.{◌≡◌, ◌≤◌, ℕ, List, [], ◌∷◌, ◌++◌, length, take, drop, Option, None, Some, Result, Ok, Err, IfOk, IfSome, refl, sym, ap, ◌∙◌, subst, inl, inr, arith, eq-eqb}
use Rattle.std.proofs.lemmas.Bool.{cases_eq, ne_eqb, le-leb}
use Rattle.std.proofs.lemmas.List.{take_at, take_all}
use Rattle.std.specs.Prelude.{find, ◌==◌}
use Rattle.std.specs.Option.{ok_or}
use Rattle.disk_model.specs.Shelf.{ReadsFile}
use Rattle.disk_model.specs.declared.name.Role.{Role}
use Rattle.pump_frame.specs.declared.row.SessionRow.{SessionRow}
use Rattle.session_table.specs.Documents.{table_of}
use Rattle.pump_frame.specs.Counts.{Rose}
use Rattle.command_ends.specs.Causes.{HasEndCause}
use Rattle.command_ends.specs.CommandEnds.{IsSessionEnd}
use Rattle.command_ends.specs.Tables.{row_among, row_in, IsRowIn, IsRowOf, IsTableEnd, StopsAtTable, StopsAtFile}
use Rattle.command_ends.specs.declared.command_end.CommandEnd.{CommandEnd}
use Rattle.command_ends.specs.declared.command_end.CommandEnd.TheVariants.{Memory, Unread, NoRow}

-- ---- the session of a row that is found ----

found_id : (session : ℕ) (rows : List SessionRow) → IfSome (find (λ row. row.id == session) rows) (λ row. row.id ≡ session)
found_id session [] = tt
found_id session (row ∷ rows) = elim (cases_eq row.id session) [
  | inl same ↦ rw (eq-eqb row.id session same) same
  | inr other ↦ rw (ne_eqb row.id session other) (found_id session rows)
]

if_found : (P : SessionRow → Type 0) (o : Option SessionRow) (e : CommandEnd) → IfSome o P → IfOk (ok_or o e) P
if_found P None e h = tt
if_found P (Some row) e h = h

pub id_of_found : (session : ℕ) (rows : List SessionRow) (o : Option SessionRow) (e : CommandEnd) (answer : Result SessionRow CommandEnd)
    → o ≡ find (λ row. row.id == session) rows → answer ≡ ok_or o e → IfOk answer (λ row. row.id ≡ session)
id_of_found session rows o e answer is given =
    subst (λ (a : Result SessionRow CommandEnd). IfOk a (λ row. row.id ≡ session)) (sym given)
    (subst (λ (x : Option SessionRow). IfOk (ok_or x e) (λ row. row.id ≡ session)) (sym is) (if_found (λ row. row.id ≡ session) _ e (found_id session rows)))

-- ---- a file of at most 65,536 bytes that was read ----

short_row : (bytes : List ℕ) (session : ℕ) → length bytes ≤ 65536 → row_in bytes session ≡ row_among session (table_of bytes)
short_row bytes session short = rw (le-leb (length bytes) 65536 short) refl

row_of_bytes : (bytes : List ℕ) (session : ℕ) (given answer : Result SessionRow CommandEnd) → row_in bytes session ≡ given → IsRowIn answer given → IsRowOf (Some bytes) session answer
row_of_bytes bytes session given (Ok row) e h = (bytes, refl, e ∙ h)
row_of_bytes bytes session given (Err Memory) e h = tt
row_of_bytes bytes session given (Err Unread) e h = tt
row_of_bytes bytes session given (Err end) e h = (bytes, refl, e ∙ h)

pub row_read : (file : Option (List ℕ)) (old new slice : List ℕ) (n session : ℕ) (answer : Result SessionRow CommandEnd) → ReadsFile file old new n → length old ≡ 65536 → n ≤ 65536
    → slice ≡ take n new → IsRowIn answer (row_among session (table_of slice)) → IsRowOf file session answer
row_read None old new slice n session answer reads size few is given = absurd reads
row_read (Some bytes) old new slice n session answer reads size few is given =
    let short : length bytes ≤ 65536 = omega (arith, reads.0, few) in
    let whole : take (length old) bytes ≡ bytes = take_all (length old) bytes (omega (arith, size, short)) in
    let same : slice ≡ bytes = is ∙ ap (λ k. take k new) reads.0 ∙ ap (take (length bytes)) (reads.1 ∙ ap (λ b. b ++ drop (length bytes) old) whole) ∙ take_at bytes (drop (length bytes) old) (length bytes) refl in
    row_of_bytes bytes session (row_among session (table_of bytes)) answer (short_row bytes session short) (subst (λ (b : List ℕ). IsRowIn answer (row_among session (table_of b))) same given)

-- ---- a table that gives no row ----

pub table_cause : (Ends : CommandEnd → Type 0) (Device : Role → Type 0) (Read Write : Type 0) (end : CommandEnd) → IsTableEnd end → ((e : CommandEnd) → IsTableEnd e → Ends e) → (◌≡◌ {A = Result SessionRow CommandEnd} (Err end) (Err Unread) → Read) → HasEndCause Ends Device Read Write end
table_cause Ends Device Read Write end only known read = record {
  only = known end only;
  device = λ role is. absurd (subst IsTableEnd is only);
  read = λ is. read (ap Err is);
  unwritten = λ is. absurd (subst IsTableEnd is only);
}

pub table_only : (end : CommandEnd) → IsTableEnd end → IsSessionEnd end
table_only Memory only = tt
table_only Unread only = tt
table_only (NoRow why) only = tt
table_only end only = absurd only

pub stops_at_table : (file : Option (List ℕ)) (session : ℕ) (end : CommandEnd) → IsTableEnd end → IsRowOf file session (Err end) → StopsAtTable file session end
stops_at_table file session Memory only row = tt
stops_at_table file session Unread only row = tt
stops_at_table file session (NoRow why) only row = row
stops_at_table file session end only row = absurd only

pub stops_at_file : (file : Option (List ℕ)) (faults now_faults session : ℕ) (end : CommandEnd) → IsTableEnd end → IsRowOf file session (Err end)
    → (◌≡◌ {A = Result SessionRow CommandEnd} (Err end) (Err Unread) → Rose faults now_faults) → StopsAtFile faults now_faults file session end
stops_at_file file faults now_faults session end only row rose = (stops_at_table file session end only row, λ e. rose (ap Err e))
