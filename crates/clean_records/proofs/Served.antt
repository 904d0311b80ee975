-- How many lines the record of a low worker's stays has.
use Rattle.std.proofs.Common.{◌≡◌, ◌+◌, ◌^◌, ◌<◌, ◌≤◌, Bool, true, false, List, [], ◌∷◌, length, Option, Some, None, refl, ap, arith, length-append}
use Rattle.std.specs.Prelude.{◌*◌, if◌then◌else◌}
use Rattle.pump_frame.specs.declared.row.SessionRow.{SessionRow}
use Rattle.pump_core.specs.History.{Opening}
use Rattle.relay_threads.specs.LowRounds.{Round, with_look, made_after}
use Rattle.relay_threads.specs.LowStays.{Stay, Alone, With, stay_after, stayed, count, count_at}
use Rattle.relay_threads.specs.RecordLines.{coarse_lines, looks_script, record_script, record_text}
use Rattle.relay_threads.specs.Records.{Made, is_recorded, record_of}
use Rattle.relay_threads.specs.Replays.{AreReadable}
use Rattle.relay_threads.proofs.Kept.{recorded_at}
use Rattle.script_reader.specs.declared.line.Line.{Line}
use Rattle.script_reader.specs.declared.line.Line.TheVariants as lines
use Rattle.pump_audit.specs.Texts.{line_ends}
use Rattle.clean_records.proofs.LineEnds.{record_ends}
use Rattle.clean_records.proofs.Sizes.{script_short}

one_look : (m : Option Made) (before : List Made) → length (with_look m before) ≤ 1 + length before
one_look None before = omega arith
one_look (Some m) before = omega arith

rounds_make : (before : List Made) (rounds : List Round) → length (made_after before rounds) ≤ length rounds + length before
rounds_make before [] = omega arith
rounds_make before (r ∷ past) =
    let a = rounds_make before past in
    let b = one_look r.made (made_after before past) in
    omega (arith, a, b)

stay_makes : {L : Type 0} (before : List Made) (x : Stay L) → length (stay_after before x) ≤ count_at x + length before
stay_makes before (Alone m answer) = omega arith
stay_makes before (With m v) =
    let a = rounds_make before v.rounds in
    let b = one_look v.gone (made_after before v.rounds) in
    omega (arith, a, b)

stays_make : {L : Type 0} (stays : List (Stay L)) → length (stayed [] stays) ≤ count stays
stays_make [] = omega arith
stays_make (x ∷ past) =
    let a = stays_make past in
    let b = stay_makes (stayed [] past) x in
    omega (arith, a, b)

fewer_by : (m : Made) (before : List Made) (b : Bool) → is_recorded before m ≡ b → length (record_of before) ≤ length before → length (record_of (m ∷ before)) ≤ length (m ∷ before)
fewer_by m before true e le = let h = ap length (recorded_at m before true e) in omega (arith, h, le)
fewer_by m before false e le = let h = ap length (recorded_at m before false e) in omega (arith, h, le)

fewer : (made : List Made) → length (record_of made) ≤ length made
fewer [] = omega arith
fewer (m ∷ before) = fewer_by m before (is_recorded before m) refl (fewer before)

coarse_one : (row : SessionRow) (c : Bool) → length (if c then lines.Coarse row.id ∷ [] else []) ≤ 1
coarse_one row true = omega arith
coarse_one row false = omega arith

-- at most two for each round, and two at its head
pub served_few : {L : Type 0} (row : SessionRow) (o : Opening) (stays : List (Stay L)) → AreReadable row o (stayed [] stays) → 2 * count stays + 2 < 2 ^ 32 → line_ends (record_text row o (stayed [] stays)) < 2 ^ 32
served_few row o stays readable few =
    let made = stayed [] stays in
    let script : List Line = looks_script row (record_of made) in
    let a = record_ends row o made readable in
    let b : length (record_script row o made) ≤ 1 + (length (coarse_lines row) + length script) = (let z = length-append (coarse_lines row) script in omega (arith, z)) in
    let c : length (coarse_lines row) ≤ 1 = coarse_one row row.coarse in
    let d = script_short row (record_of made) in
    let e = fewer made in
    let f = stays_make stays in
    omega (arith, a, b, c, d, e, f, few)
