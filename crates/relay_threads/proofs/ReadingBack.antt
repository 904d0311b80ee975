-- A reader of scripts reads the line of a look whose numbers are in range.
use Rattle.std.proofs.Common.{◌≡◌, ℕ, ◌+◌, ◌*◌, ◌^◌, ◌<◌, ◌≤◌, zero, suc, Bool, true, false, List, [], ◌∷◌, length, Option, Some, None, refl, sym, ap, ◌∙◌, subst, pow_mono, arith}
use Rattle.std.specs.Prelude.{if◌then◌else◌, nat_le, is_some, not, ◌&&◌, ◌||◌, IfSome}
use Rattle.std.specs.Int.{to_be_bytes, w32}
use Rattle.std.proofs.lemmas.Bool.{and_parts}
use Rattle.std.proofs.lemmas.Bool.Decides.{nat_tests}
use native.Mathlib.Nat.{pow-succ'}
use Rattle.hex.specs.Hex.{lower_digits}
use Rattle.hex.proofs.HexLemmas.{length-encode_with}
use Rattle.pump_frame.specs.Averages.{level_from, level, down, averaging_of}
use Rattle.pump_frame.specs.Rows.{is_within, IsLawfulRow, least_capacity, greatest_capacity}
use Rattle.pump_frame.specs.Spellings.{spelling, header_of}
use Rattle.pump_frame.specs.declared.averaging.Averaging.{Averaging}
use Rattle.pump_frame.specs.declared.frame.Frame.{Frame}
use Rattle.pump_frame.specs.declared.row.RowKey.{RowKey}
use Rattle.pump_frame.specs.declared.row.RowKey.TheVariants.{Capacity, Message, Window, Start}
use Rattle.pump_frame.specs.declared.row.SessionRow.{SessionRow}
use Rattle.pump_core.specs.declared.feedback.Feedback.{Feedback}
use Rattle.pump_core.specs.declared.feedback.Feedback.TheVariants.{Quiet, Full, Passed, Released, Repeat}
use Rattle.pump_core.specs.Exchanges.{is_gone}
use Rattle.pump_core.specs.History.{Arrival}
use Rattle.pump_core.specs.History.{Nothing, Came, Bad, Gone}
use Rattle.pump_core.specs.Step.{is_full}
use Rattle.low_process.specs.Looks.{IsInBounds}
use Rattle.script_reader.specs.declared.line.Arriving.TheVariants as arriving
use Rattle.script_reader.specs.declared.line.Line.TheVariants as lines
use Rattle.script_reader.specs.declared.line.ToldFeedback.TheVariants as told
use Rattle.script_reader.specs.Grammar.{IsLine, outcome_field}
use Rattle.script_reader.specs.Lawful.{IsLawfulArriving, IsLawfulFeedback, IsLawfulLine}
use Rattle.script_reader.specs.Spelling.{line_spelling, line_fields, word_field}
use Rattle.script_reader.proofs.Spellings.{printed_line, printed_word}
use Rattle.relay_threads.specs.Records.{Made, passes_on, was_full, is_recorded}
use Rattle.relay_threads.specs.RecordLines.{told_of, taken_by, tells_fault, arriving_of, line_of, IsReplyFrame}
use Rattle.relay_threads.specs.Replays.{ReadsBack}
use Rattle.relay_threads.proofs.Scripting.{AreShort, short_spaced, short_decimal}

-- ---- an average that comes down ----

doubled : (i : ℕ) → 2 * 2 ^ i ≡ 2 ^ suc i
doubled i = sym (pow-succ' 2 i)

most_from : (many i mean : ℕ) → i + many ≤ 30 → level_from many (2 ^ i) mean ≤ 10 ^ 9
unfolding level_from
most_from zero i mean few = omega arith
most_from (suc many) i mean few =
    let low : i ≤ 29 = omega (arith, few) in
    let most : 2 ^ i ≤ 2 ^ 29 = pow_mono low in
    let rest : level_from many (2 ^ suc i) mean ≤ 10 ^ 9 = most_from many (suc i) mean (omega (arith, few)) in
    let more : level_from many (2 * 2 ^ i) mean ≤ 10 ^ 9 = subst (λ n. level_from many n mean ≤ 10 ^ 9) (sym (doubled i)) rest in
    elim (nat_le mean (2 ^ i)) as (λ b. (if b then 2 ^ i else level_from many (2 * 2 ^ i) mean) ≤ 10 ^ 9) [
      | true ↦ omega (arith, most)
      | false ↦ more
    ]

level_most : (mean : ℕ) → level mean ≤ 10 ^ 9
unfolding level
level_most mean = most_from 30 0 mean (omega arith)

down_most : (a : Averaging) (mean : ℕ) → mean ≤ 10 ^ 9 → down a mean ≤ 10 ^ 9
unfolding down
down_most a mean le = elim a.coarse as (λ b. (if b then level mean else mean) ≤ 10 ^ 9) [
  | true ↦ level_most mean
  | false ↦ le
]

start_within : (a b c d : Bool) (rest : Option RowKey) → (if a then (if b then (if c then (if d then rest else Some Start) else Some Window) else Some Message) else Some Capacity) ≡ None → d ≡ true
start_within true true true true rest e = refl
start_within true true true false rest e = absurd (cc)
start_within true true false d rest e = absurd (cc)
start_within true false c d rest e = absurd (cc)
start_within false b c d rest e = absurd (cc)

pub row_start : (row : SessionRow) → IsLawfulRow row → row.start ≤ 10 ^ 9
row_start row h =
    let parts = and_parts (nat_le 0 row.start) (nat_le row.start 1000000000)
    (start_within (is_within least_capacity greatest_capacity row.capacity) (is_within 1 1024 row.message) (is_within 1 256 row.window) (is_within 0 1000000000 row.start) _ h) in
    let b = parts.1 in
    grind (arith, nat_tests)

-- ---- the line of a look is one that a reader can have given ----

feedback_lawful : (row : SessionRow) (f : Feedback) → IsLawfulRow row → IsInBounds f → IsLawfulFeedback (told_of row f)
feedback_lawful row Quiet lawful b = tt
feedback_lawful row Full lawful b = tt
feedback_lawful row (Passed seen) lawful b = b
feedback_lawful row Released lawful b = down_most (averaging_of row) row.start (row_start row lawful)
feedback_lawful row (Repeat seen) lawful b = b

some_bytes : (f : Frame) → 0 < length (spelling f)
unfolding spelling header_of
some_bytes f = omega arith

arriving_lawful : (a : Arrival) (taken : Bool) → IsLawfulArriving (arriving_of (if taken then a else Nothing))
arriving_lawful a false = tt
arriving_lawful Nothing true = tt
arriving_lawful (Came f) true = some_bytes f
arriving_lawful Bad true = omega arith
arriving_lawful Gone true = tt

lawful_by : (gone : Bool) (row : SessionRow) (m : Made) → IsLawfulRow row → m.look.moment ≤ 2 ^ 62 → IsInBounds m.look.feedback
    → IsLawfulLine (if gone then lines.Gone row.id m.look.moment else lines.Told row.id m.look.moment m.look.word (tells_fault m.reply) (told_of row m.look.feedback) (arriving_of (taken_by m)))
lawful_by true row m lawful moment bounds = moment
lawful_by false row m lawful moment bounds = (moment, feedback_lawful row m.look.feedback lawful bounds, arriving_lawful m.look.arrival m.taken)

pub line_lawful : (row : SessionRow) (m : Made) → IsLawfulRow row → m.look.moment ≤ 2 ^ 62 → IsInBounds m.look.feedback → IsLawfulLine (line_of row m)
line_lawful row m lawful moment bounds = lawful_by (is_gone m.look.arrival) row m lawful moment bounds

-- ---- a look that found the passage full and took nothing ----

outcome_short : (b : Bool) → length (outcome_field b) ≤ 40
outcome_short true = omega arith
outcome_short false = omega arith

word_short : (w : ℕ) → length (word_field w) ≤ 40
word_short w = let e = length-encode_with lower_digits (to_be_bytes w32 w) in omega (arith, e)

full_by : (gone : Bool) (row : SessionRow) (moment word : ℕ) (fault : Bool) → row.id < 2 ^ 32 → moment ≤ 2 ^ 62 → word < 2 ^ 32
    → let l = if gone then lines.Gone row.id moment else lines.Told row.id moment word fault told.Full arriving.Nothing in IsLine l (line_spelling l)
full_by true row moment word fault session most fits =
    let fields : List (List ℕ) = line_fields (lines.Gone row.id moment) in
    let short : AreShort fields = (omega arith, (short_decimal row.id (omega (arith, session)), (short_decimal moment (omega (arith, most)), tt))) in
    let bound = short_spaced fields short in
    printed_line (lines.Gone row.id moment) session (omega (arith, bound)) most
full_by false row moment word fault session most fits =
    let line = lines.Told row.id moment word fault told.Full arriving.Nothing in
    let fields : List (List ℕ) = line_fields line in
    let short : AreShort fields = (omega arith, (short_decimal row.id (omega (arith, session)), (short_decimal moment (omega (arith, most)), (word_short word, (outcome_short fault, (omega arith, tt)))))) in
    let bound = short_spaced fields short in
    printed_line line (session, printed_word word fits, tt, tt) (omega (arith, bound)) (most, tt, tt)

full_line : (row : SessionRow) (m : Made) (taken : Bool) (f : Feedback) → m.taken ≡ taken → taken ≡ false → m.look.feedback ≡ f → f ≡ Full → row.id < 2 ^ 32 → m.look.moment ≤ 2 ^ 62 → m.look.word < 2 ^ 32
    → IsLine (line_of row m) (line_spelling (line_of row m))
full_line row m taken f is none told_is full session most fits =
    let gone = is_gone m.look.arrival in
    let same : line_of row m ≡ (if gone then lines.Gone row.id m.look.moment else lines.Told row.id m.look.moment m.look.word (tells_fault m.reply) told.Full arriving.Nothing) =
    ap (λ (x : Bool × Feedback). if gone then lines.Gone row.id m.look.moment else lines.Told row.id m.look.moment m.look.word (tells_fault m.reply) (told_of row x.1) (arriving_of (if x.0 then m.look.arrival else Nothing)))
    (λ i. ((is ∙ none) i, (told_is ∙ full) i)) in
    subst (λ l. IsLine l (line_spelling l)) (sym same) (full_by gone row m.look.moment m.look.word (tells_fault m.reply) session most fits)

-- ---- a look that is left out where the look before it found the passage full, and told where it did not ----

abbrev pub full_look : Made
full_look = record { look = record { moment = 0; word = 0; arrival = Nothing; is_fault = false; feedback = Full }; taken = false; reply = None }

-- looks of which the newest found the passage full, or not
abbrev pub looks_full : Bool → List Made
looks_full true = full_look ∷ []
looks_full false = []

pub looks_full_is : (b : Bool) → b ≡ was_full (looks_full b)
looks_full_is true = refl
looks_full_is false = refl

is_full_of : (f : Feedback) → is_full f ≡ true → f ≡ Full
is_full_of Full e = refl
is_full_of Quiet e = absurd (cc)
is_full_of (Passed s) e = absurd (cc)
is_full_of Released e = absurd (cc)
is_full_of (Repeat s) e = absurd (cc)

left_out : (a b c d w w' : Bool) → (a || (b || (c || (d && not w)))) ≡ false → (a || (b || (c || (d && not w')))) ≡ true → (a ≡ false) × ((b ≡ false) × (d ≡ true))
left_out true b c d w w' e e' = absurd (cc)
left_out false true c d w w' e e' = absurd (cc)
left_out false false true d w w' e e' = absurd (cc)
left_out false false false true w w' e e' = (refl, (refl, refl))
left_out false false false false w w' e e' = absurd (cc)

no_reply : (r : Option Frame) → is_some r ≡ false → IfSome r IsReplyFrame
no_reply None e = tt
no_reply (Some r) e = absurd (cc)

pub unrecorded : (row : SessionRow) (m : Made) (full : Bool) → is_recorded (looks_full full) m ≡ false → row.id < 2 ^ 32 → m.look.moment ≤ 2 ^ 62 → m.look.word < 2 ^ 32 → (before : List Made) → ReadsBack row before m
unrecorded row m full hidden session most fits before shown =
    let parts = left_out m.taken (is_some m.reply) (passes_on m.look.feedback) (is_full m.look.feedback) (was_full (looks_full full)) (was_full before) hidden shown in
    record {
      line = full_line row m m.taken m.look.feedback refl parts.0 refl (is_full_of m.look.feedback parts.1.1) session most fits;
      reply = no_reply m.reply parts.1.0;
    }
