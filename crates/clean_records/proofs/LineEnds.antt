-- How many line ends stand in a record, and that none stands within one of its lines.
use Rattle.std.proofs.Common.{◌≡◌, ℕ, ◌+◌, ◌≤◌, Bool, true, false, List, [], ◌∷◌, ◌++◌, length, codes, Option, Some, None, refl, sym, ap, ◌∙◌, arith, length-append}
use Rattle.std.specs.Prelude.{if◌then◌else◌}
use Rattle.std.specs.List.{AllByRecursion}
use Rattle.pump_frame.specs.declared.frame.Frame.{Frame}
use Rattle.pump_frame.specs.declared.row.SessionRow.{SessionRow}
use Rattle.pump_core.specs.History.{Opening}
use Rattle.script_reader.specs.declared.line.Line.{Line}
use Rattle.script_reader.specs.declared.line.Line.TheVariants as lines
use Rattle.script_reader.specs.declared.event.Event.TheVariants.{Low}
use Rattle.script_reader.specs.Grammar.{spaced}
use Rattle.script_reader.specs.Lines.{IsUnended, AreLines}
use Rattle.script_reader.specs.Spelling.{line_spelling, line_text}
use Rattle.script_reader.specs.Transcript.{event_fields, event_line}
use Rattle.relay_threads.specs.Records.{Made, record_of}
use Rattle.relay_threads.specs.RecordLines.{line_of, opening_line, coarse_lines, coarse_text, comment, comment_lines, look_text, looks_text, record_text, looks_script, record_script}
use Rattle.relay_threads.specs.Replays.{AreReadable}
use Rattle.relay_threads.proofs.Scripting.{record_reads}
use Rattle.pump_audit.specs.Texts.{line_ends}
use Rattle.pump_audit.proofs.Writing.{ends_append, none_within, unended}

-- as many as lines
lines_have : (bytes : List ℕ) (lines : List Line) → AreLines (Some bytes) lines (Some []) → line_ends bytes ≡ length lines
lines_have bytes [] h = ap line_ends (sym h)
lines_have bytes (line ∷ lines) (text, None, free, spelled, taken, rest) = absurd taken
lines_have bytes (line ∷ lines) (text, Some more, free, spelled, taken, rest) =
    let a = ap line_ends taken ∙ ends_append (text ++ 10 ∷ []) more in
    let b = ends_append text (10 ∷ []) in
    let f : line_ends (10 ∷ []) ≡ 1 = refl in
    let c = none_within text free in
    let d = lines_have more lines rest in
    omega (arith, a, b, c, d, f)

-- ---- the lines of looks ----

module _ (row : SessionRow) where
  comment_has : (m : ℕ) (r : Option Frame) → length (comment_lines r) ≤ line_ends (comment row m r)
  comment_has m None = omega arith
  comment_has m (Some r) =
      let a = ends_append (codes "# ") (event_line (Low row.id m r)) in
      let b = ends_append (spaced (event_fields (Low row.id m r))) (10 ∷ []) in
      let c : line_ends (10 ∷ []) ≡ 1 = refl in
      omega (arith, a, b, c)

  look_has : (m : Made) → line_ends (look_text row m) ≡ line_ends (line_spelling (line_of row m)) + 1 + line_ends (comment row m.look.moment m.reply)
  look_has m =
      let a = ends_append (line_text (line_of row m)) (comment row m.look.moment m.reply) in
      let b = ends_append (line_spelling (line_of row m)) (10 ∷ []) in
      let c : line_ends (10 ∷ []) ≡ 1 = refl in
      omega (arith, a, b, c)

  looks_have : (made : List Made) → length (looks_script row made) ≤ line_ends (looks_text row made)
  looks_have [] = omega arith
  looks_have (m ∷ before) =
      let a = ends_append (looks_text row before) (look_text row m) in
      let b = look_has m in
      let c = comment_has m.look.moment m.reply in
      let d = looks_have before in
      let e = length-append (looks_script row before) (line_of row m ∷ comment_lines m.reply) in
      omega (arith, a, b, c, d, e)

  -- no line end stands within the lines of a look
  pub record IsLined (m : Made) : Type 0 where
    pub line : IsUnended (line_spelling (line_of row m))
    pub comment : line_ends (comment row m.look.moment m.reply) ≤ length (comment_lines m.reply)

  abbrev pub AreLined : List Made → Type 0
  AreLined made = AllByRecursion IsLined made

  looks_unended : (made : List Made) → line_ends (looks_text row made) ≤ length (looks_script row made) → AreLined made
  looks_unended [] le = tt
  looks_unended (m ∷ before) le =
      let a = ends_append (looks_text row before) (look_text row m) in
      let b = look_has m in
      let c = comment_has m.look.moment m.reply in
      let d = looks_have before in
      let e = length-append (looks_script row before) (line_of row m ∷ comment_lines m.reply) in (
        record { line = unended (line_spelling (line_of row m)) (omega (arith, a, b, c, d, e, le)); comment = omega (arith, a, b, c, d, e, le) },
        looks_unended before (omega (arith, a, b, c, d, e, le)),
      )

  coarse_has : (c : Bool) → length (if c then lines.Coarse row.id ∷ [] else []) ≤ line_ends (if c then line_text (lines.Coarse row.id) else [])
  coarse_has false = omega arith
  coarse_has true =
      let a = ends_append (line_spelling (lines.Coarse row.id)) (10 ∷ []) in
      let c : line_ends (10 ∷ []) ≡ 1 = refl in
      omega (arith, a, c)

  coarse_free : (c : Bool) → line_ends (if c then line_text (lines.Coarse row.id) else []) ≤ length (if c then lines.Coarse row.id ∷ [] else []) → c ≡ true → IsUnended (line_spelling (lines.Coarse row.id))
  coarse_free false le e = absurd (cc)
  coarse_free true le e =
      let a = ends_append (line_spelling (lines.Coarse row.id)) (10 ∷ []) in
      let c : line_ends (10 ∷ []) ≡ 1 = refl in
      unended (line_spelling (lines.Coarse row.id)) (omega (arith, a, c, le))

  -- a record has as many line ends as lines
  pub record_ends : (o : Opening) (made : List Made) → AreReadable row o made → line_ends (record_text row o made) ≡ length (record_script row o made)
  record_ends o made readable = lines_have (record_text row o made) (record_script row o made) (record_reads row o made readable)

  -- no line end stands within a line of a record
  pub record HasLines (o : Opening) (made : List Made) : Type 0 where
    pub opening : IsUnended (line_spelling (opening_line row o))
    pub coarse : row.coarse ≡ true → IsUnended (line_spelling (lines.Coarse row.id))
    pub looks : AreLined (record_of made)

  pub has_lines : (o : Opening) (made : List Made) → AreReadable row o made → HasLines o made
  has_lines o made readable =
      let looks = looks_text row (record_of made) in
      let script = looks_script row (record_of made) in
      let whole = record_ends o made readable in
      let a = ends_append (line_text (opening_line row o)) (coarse_text row ++ looks) in
      let b = ends_append (line_spelling (opening_line row o)) (10 ∷ []) in
      let c = ends_append (coarse_text row) looks in
      let d = looks_have (record_of made) in
      let e = coarse_has row.coarse in
      let f = length-append (coarse_lines row) script in
      let g : line_ends (10 ∷ []) ≡ 1 = refl in
      record {
        opening = unended (line_spelling (opening_line row o)) (omega (arith, whole, a, b, c, d, e, f, g));
        coarse = coarse_free row.coarse (omega (arith, whole, a, b, c, d, e, f, g));
        looks = looks_unended (record_of made) (omega (arith, whole, a, b, c, d, e, f, g));
      }
