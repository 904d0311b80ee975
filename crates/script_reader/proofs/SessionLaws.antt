-- The lines that begin a session, on lists, are the grammar's.
use Rattle.std.proofs.Common.{◌≡◌, ℕ, ◌+◌, ◌^◌, ◌≤◌, inl, inr, Bool, true, false, List, [], ◌∷◌, ◌++◌, Option, None, Some, codes, decimal, refl, sym, subst, arith}
use Rattle.std.proofs.lemmas.Bool.{eqb-false, ne_eqb}
use Rattle.std.proofs.lemmas.Option.{same_Some}
use Rattle.std.specs.Prelude.{◌==◌}
use Rattle.pump_frame.specs.declared.row.SessionRow.{SessionRow}
use Rattle.script_reader.specs.declared.line.Line.{Line}
use Rattle.script_reader.specs.declared.line.Line.TheVariants.{Session, LowSession}
use Rattle.script_reader.specs.Grammar.{IsRow, row_fields, held_field, IsCount, HasFields}
use Rattle.script_reader.specs.Parsing.{◌>>=◌, row_behind, row_at, session_of, choice, at_count, low_session_of}
use Rattle.script_reader.proofs.Splits.{IsFree, AreFree}
use Rattle.script_reader.proofs.FieldLaws.{choice_takes}
use Rattle.script_reader.proofs.FieldChains.{bind_some, chosen, take_number, take_name, take_field, number_put, name_put, field_put, end_at}
use Rattle.script_reader.proofs.FreeFields.{free_text, free_name, free_decimal}

-- ---- a row ----

row_takes : (fields : List (List ℕ)) (x : SessionRow × List (List ℕ)) → row_at fields ≡ Some x → IsRow x.0 × (fields ≡ row_fields x.0 ++ x.1)
unfolding row_at row_behind
row_takes fields x e =
    take_number (2 ^ 32) fields _ x e (λ id fa ha ea e.
    take_number (2 ^ 32) fa _ x e (λ capacity fb hb eb e.
    take_number (2 ^ 32) fb _ x e (λ message fc hc ec e.
    take_number (2 ^ 32) fc _ x e (λ window fd hd ed e.
    take_number (2 ^ 32) fd _ x e (λ start ff hf ef e.
    take_number (2 ^ 32) ff _ x e (λ longest fg hg eg e.
    take_number (2 ^ 32) fg _ x e (λ resend fh hh eh e.
    take_name fh _ x e (λ low fi hi ei e.
    take_name fi _ x e (λ high fj hj ej e.
    subst (λ (y : SessionRow × List (List ℕ)). IsRow y.0 × (fields ≡ row_fields y.0 ++ y.1)) (same_Some _ x e) (
      record { id = ha; capacity = hb; message = hc; window = hd; start = hf; longest = hg; resend = hh; low = hi; high = hj; low_port = refl; high_port = refl; coarse = refl },
      rw (ea, eb, ec, ed, ef, eg, eh, ei, ej) refl,
    )
    )))))))))

take_row : {B P : Type 0} (fields : List (List ℕ)) (f : SessionRow × List (List ℕ) → Option B) (y : B) → (row_at fields >>= f) ≡ Some y
    → ((row : SessionRow) (rest : List (List ℕ)) → IsRow row → fields ≡ row_fields row ++ rest → f (row, rest) ≡ Some y → P) → P
take_row fields f y e next =
    let p = bind_some (row_at fields) f y e in
    let q = row_takes fields p.0 p.1 in
    next p.0.0 p.0.1 q.0 q.1 p.2

row_put : (row : SessionRow) (rest : List (List ℕ)) → IsRow row → row_at (row_fields row ++ rest) ≡ Some (row, rest)
unfolding row_at row_behind
row_put row rest h =
    rw (
      number_put (2 ^ 32) row.id _ h.id (omega arith),
      number_put (2 ^ 32) row.capacity _ h.capacity (omega arith),
      number_put (2 ^ 32) row.message _ h.message (omega arith),
      number_put (2 ^ 32) row.window _ h.window (omega arith),
      number_put (2 ^ 32) row.start _ h.start (omega arith),
      number_put (2 ^ 32) row.longest _ h.longest (omega arith),
      number_put (2 ^ 32) row.resend _ h.resend (omega arith),
      name_put row.low _ h.low,
      name_put row.high _ h.high,
    )
    (λ i. Some (record row { low_port = sym h.low_port i; high_port = sym h.high_port i; coarse = sym h.coarse i }, rest))

-- no space stands in a row's fields
pub free_row : (row : SessionRow) (rest : List (List ℕ)) → IsRow row → AreFree rest → AreFree (row_fields row ++ rest)
free_row row rest r free = (
  free_decimal row.id (omega (arith, r.id)),
  (
    free_decimal row.capacity (omega (arith, r.capacity)),
    (
      free_decimal row.message (omega (arith, r.message)),
      (
        free_decimal row.window (omega (arith, r.window)),
        (
          free_decimal row.start (omega (arith, r.start)),
          (
            free_decimal row.longest (omega (arith, r.longest)),
            (free_decimal row.resend (omega (arith, r.resend)), (free_name row.low r.low, (free_name row.high r.high, free))),
          ),
        ),
      ),
    ),
  ),
)

-- ---- a whole session ----

pub session_takes : (fields : List (List ℕ)) (line : Line) → session_of fields ≡ Some line → HasFields line (codes "session" ∷ fields)
unfolding session_of
session_takes fields line e =
    take_row fields _ line e (λ row fa ha ea e.
    let k = end_at _ fa line e in
    subst (λ l. HasFields l (codes "session" ∷ fields)) k.1 (ha, rw (ea, k.0) refl)
    )

pub session_put : (row : SessionRow) → IsRow row → session_of (row_fields row) ≡ Some (Session row)
unfolding session_of
session_put row h = rw (row_put row [] h) refl

-- ---- a low side alone ----

count_takes : (next : ℕ) (held : Bool) (o : Option Line) (line : Line) → at_count next held o ≡ Some line → (held ≡ true → 1 ≤ next) × (o ≡ Some line)
count_takes next true o line e =
    elim (chosen (next == 0) None o line e) [
      | inl p ↦ cc p.1
      | inr p ↦ (
        λ t.
            let some : next ≡ 0 → ⊥ = eqb-false next 0 p.0 in
            omega (arith, some),
        p.1,
      )
    ]
count_takes next false o line e = (λ t. cc t, e)

count_put : (next : ℕ) (held : Bool) (o : Option Line) → IsCount next held → at_count next held o ≡ o
count_put next true o h = rw (ne_eqb next 0 (λ e. absurd (omega (arith, e, h.some refl)))) refl
count_put next false o h = refl

held_takes : (field : List ℕ) (held : Bool) → choice (codes "0") (codes "1") field ≡ Some held → field ≡ held_field held
held_takes field true e = choice_takes (codes "0") (codes "1") field true e
held_takes field false e = choice_takes (codes "0") (codes "1") field false e

held_again : (held : Bool) → choice (codes "0") (codes "1") (held_field held) ≡ Some held
unfolding choice
held_again true = refl
held_again false = refl

free_held : (held : Bool) → IsFree (held_field held)
free_held true = free_text (codes "1") refl
free_held false = free_text (codes "0") refl

pub low_session_takes : (fields : List (List ℕ)) (line : Line) → low_session_of fields ≡ Some line → HasFields line (codes "low-session" ∷ fields)
unfolding low_session_of
low_session_takes fields line e =
    take_row fields _ line e (λ row fa ha ea e.
    take_number (2 ^ 48 + 1) fa _ line e (λ next fb hb eb e.
    take_field (choice (codes "0") (codes "1")) fb _ line e (λ held field fc hc ec e.
    let c = count_takes next held _ line e in
    let k = end_at _ fc line c.1 in
    subst (λ l. HasFields l (codes "low-session" ∷ fields)) k.1 (
      ha,
      record { most = omega (arith, hb); some = c.0 },
      rw (ea, eb, ec, held_takes field held hc, k.0) refl,
    )
    )))

pub low_session_put : (row : SessionRow) (next : ℕ) (held : Bool) → IsRow row → IsCount next held
    → low_session_of (row_fields row ++ decimal next ∷ held_field held ∷ []) ≡ Some (LowSession row next held)
unfolding low_session_of
low_session_put row next held hr hc =
    rw (
      row_put row _ hr,
      number_put (2 ^ 48 + 1) next _ (omega (arith, hc.most)) (omega arith),
      field_put (choice (codes "0") (codes "1")) (held_field held) held [] (held_again held),
    )
    (count_put next held _ hc)

pub free_count : (next : ℕ) (held : Bool) → IsCount next held → AreFree (decimal next ∷ held_field held ∷ [])
free_count next held h = (free_decimal next (omega (arith, h.most)), (free_held held, tt))
