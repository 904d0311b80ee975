-- What a writer of lines makes of a record: each line, as text, and the record that it leaves.
use Rattle.std.proofs.Common.{◌≡◌, ℕ, ◌+◌, ◌^◌, ◌<◌, ◌≤◌, Bool, true, false, List, [], ◌∷◌, ◌++◌, codes, decimal, Some, None, refl, sym, ap, ◌∙◌, subst, append-nil, append_assoc, arith}
use Rattle.std.specs.Prelude.{if◌then◌else◌, ◌&&◌, ◌==◌, is_some, map}
use Rattle.std.specs.List.{All}
use Rattle.std.proofs.lemmas.Bool.{eq-eqb}
use Rattle.std.proofs.lemmas.List.Elements.{All-nil, All-cons, All-head, All-tail}
use Rattle.std.proofs.lemmas.List.Sums.{sum_by-append, sum_by-cons}
use Rattle.pump_frame.specs.Frames.{IsLawful}
use Rattle.pump_frame.specs.Rows.{IsLawfulRow}
use Rattle.pump_frame.specs.Spellings.{spelling}
use Rattle.pump_frame.specs.declared.row.SessionRow.{SessionRow}
use Rattle.pump_core.specs.declared.feedback.Feedback.{Feedback}
use Rattle.pump_core.specs.declared.feedback.Feedback.TheVariants as feedbacks
use Rattle.pump_core.specs.declared.reply.Reply.{Reply}
use Rattle.pump_core.specs.History.{Arrival, Look}
use Rattle.pump_core.specs.History.{Nothing, Came, Bad, Gone}
use Rattle.pump_core.specs.Passage.{shape_of_row, IsAverage}
use Rattle.pump_core.specs.ReplyFrames.{frame_of, IsLawfulReply}
use Rattle.script_reader.specs.declared.line.Arriving.{Arriving}
use Rattle.script_reader.specs.declared.line.Arriving.TheVariants as arriving
use Rattle.script_reader.specs.declared.line.Line.{Line}
use Rattle.script_reader.specs.declared.line.Line.TheVariants as lines
use Rattle.script_reader.specs.declared.line.ToldFeedback.{ToldFeedback}
use Rattle.script_reader.specs.declared.line.ToldFeedback.TheVariants as told
use Rattle.script_reader.specs.declared.event.Event.TheVariants.{Low}
use Rattle.script_reader.specs.Grammar.{spaced, IsLine}
use Rattle.script_reader.specs.Lines.{is_end, IsUnended}
use Rattle.script_reader.specs.Transcript.{event_fields}
use Rattle.pump_audit.specs.declared.claims.Claim.{Claim}
use Rattle.pump_audit.specs.declared.entry.Coming.{Coming}
use Rattle.pump_audit.specs.declared.entry.Coming.TheVariants as coming
use Rattle.pump_audit.specs.declared.entry.LookLine.{LookLine}
use Rattle.pump_audit.specs.declared.entry.Note.TheVariants as notes
use Rattle.pump_audit.specs.declared.entry.Entry.{Entry}
use Rattle.pump_audit.specs.declared.entry.Entry.TheVariants as entries
use Rattle.pump_audit.specs.declared.form.RecordPlace.{RecordPlace}
use Rattle.pump_audit.specs.declared.form.RecordPlace.TheVariants as places
use Rattle.pump_audit.specs.Claims.{has_end, AreRight, pair_of}
use Rattle.pump_audit.specs.Entries.{line_in, IsPlainIn, IsEntry}
use Rattle.pump_audit.specs.Places.{at_place, takes_looks, takes_times, is_taken, is_opening, ends_at, has_end_at}
use Rattle.pump_audit.specs.Records.{Record, form_of, history_of, Means, IsNextLook, look_of, AreTold, begun, claims_of, with_look, with_note, made_coarse, Follows}
use Rattle.pump_audit.specs.Texts.{IsText, line_ends}
use Rattle.pump_audit.specs.Verdicts.{RecordOf, joined, IsClean, IsRightEnd}

-- ---- line ends ----

pub ends_append : (xs ys : List ℕ) → line_ends (xs ++ ys) ≡ line_ends xs + line_ends ys
ends_append xs ys = sum_by-append (λ (b : ℕ). if is_end b then 1 else 0) xs ys

abbrev pub mark : Bool → ℕ
mark b = if b then 1 else 0

pub ends_cons : (b : ℕ) (xs : List ℕ) → line_ends (b ∷ xs) ≡ mark (is_end b) + line_ends xs
ends_cons b xs = sum_by-cons (λ (b : ℕ). if is_end b then 1 else 0) b xs

none_at : (b : Bool) → b ≡ false → mark b ≡ 0
none_at false e = refl
none_at true e = absurd (cc)

pub none_within : (xs : List ℕ) → IsUnended xs → line_ends xs ≡ 0
none_within [] free = refl
none_within (b ∷ xs) free =
    let h = ends_cons b xs in
    let e = none_at (is_end b) (All-head (λ x. is_end x ≡ false) b xs free) in
    let k = none_within xs (All-tail (λ x. is_end x ≡ false) b xs free) in
    omega (arith, h, e, k)

some_at : (b : Bool) → mark b ≡ 0 → b ≡ false
some_at false e = refl
some_at true e = absurd (omega (arith, e))

pub unended : (xs : List ℕ) → line_ends xs ≡ 0 → IsUnended xs
unended [] e = All-nil (λ x. is_end x ≡ false)
unended (b ∷ xs) e =
    let h = ends_cons b xs in
    let here : mark (is_end b) ≡ 0 = omega (arith, h, e) in
    All-cons (λ x. is_end x ≡ false) b xs (some_at (is_end b) here) (unended xs (omega (arith, h, e)))

-- ---- the lines so far ----

-- the bytes are the lines of this record, and its line ends are its lines
pub record Written (bytes : List ℕ) (r : Record) : Type 0 where
  pub texts : List (List ℕ)
  pub record_of : RecordOf texts (Some r)
  pub whole : (rest : List ℕ) → joined texts rest ≡ bytes ++ rest
  pub lines : line_ends bytes ≡ r.lines

pub one_more : (text : List ℕ) → IsText text → line_ends (text ++ 10 ∷ []) ≡ 1
one_more text is =
    let a = ends_append text (10 ∷ []) in
    let b = none_within text is.unended in
    let c : line_ends (10 ∷ []) ≡ 1 = refl in
    omega (arith, a, b, c)

more : (bytes text : List ℕ) (r q : Record) (e : Entry) → Written bytes r → IsText text → IsEntry e text → Follows (Some r) e q → q.lines ≡ r.lines + 1 → Written (bytes ++ (text ++ 10 ∷ [])) q
more bytes text r q e w is entry follows longer = record {
  texts = text ∷ w.texts;
  record_of = (Some r, w.record_of, is, e, entry, q, follows, refl);
  whole = λ rest. w.whole (text ++ 10 ∷ rest) ∙ ap (λ z. bytes ++ z) (sym (append_assoc text (10 ∷ []) rest)) ∙ sym (append_assoc bytes (text ++ 10 ∷ []) rest);
  lines = (let a = ends_append bytes (text ++ 10 ∷ []) in let b = one_more text is in let c = w.lines in omega (arith, a, b, c, longer));
}

-- the line that opens it
pub opened : (row : SessionRow) (next : ℕ) (held : Bool) (text : List ℕ) → IsText text → IsLine (lines.LowSession row next held) text → IsLawfulRow row → Written (text ++ 10 ∷ []) (begun row next held)
opened row next held text is line lawful = record {
  texts = text ∷ [];
  record_of = (None, refl, is, entries.Opening row next held, (line, lawful), begun row next held, refl, refl);
  whole = λ rest. sym (append_assoc text (10 ∷ []) rest);
  lines = one_more text is;
}

own : (n : ℕ) → (n == n) ≡ true
own n = eq-eqb n n refl

-- .. and that which makes it coarse
pub coarsened : (bytes text : List ℕ) (r : Record) → Written bytes r → IsText text → IsLine (lines.Coarse r.row.id) text → is_opening r.place ≡ true → AreTold r [] → Written (bytes ++ (text ++ 10 ∷ [])) (made_coarse r)
coarsened bytes text r w is line at told =
    more bytes text r (made_coarse r) (entries.Coarse r.row.id) w is line
    (ap (λ (z : Bool × Bool). is_some (at_place (form_of r) (z.0 && z.1) places.Looks)) (λ i. (own r.row.id i, at i)), told, refl) refl

-- ---- a look ----

-- what came with it
abbrev pub arriving_of : Arrival → Arriving
arriving_of Nothing = arriving.Nothing
arriving_of (Came f) = arriving.Raw (record { items = spelling f })
arriving_of Bad = arriving.Raw (record { items = 0 ∷ [] })
arriving_of Gone = arriving.Nothing

-- the line of a look
abbrev pub line_told : ℕ → ToldFeedback → ℕ → ℕ → Bool → Arrival → Line
line_told session t m w d Gone = lines.Gone session m
line_told session t m w d a = lines.Told session m w d t (arriving_of a)

-- a frame is lawful, and a look without a connection has no word, no fault and nothing told
abbrev pub IsPlainLook : ToldFeedback → ℕ → Bool → Arrival → Type 0
IsPlainLook t w d Nothing = Unit {0}
IsPlainLook t w d (Came f) = IsLawful f
IsPlainLook t w d Bad = Unit {0}
IsPlainLook t w d Gone = (w ≡ 0) × (d ≡ false) × (t ≡ told.Quiet)

module _ (bytes text : List ℕ) (r : Record) (written : Written bytes r) (is : IsText text) (at : takes_looks r.place ≡ true) (none : AreTold r []) (t : ToldFeedback) (m w : ℕ) (d : Bool) (f : Feedback) where
  abbrev x : Arrival → Look
  x a = record { moment = m; word = w; arrival = a; is_fault = d; feedback = f }

  added : (a : Arrival) (c : Coming) → Rattle.pump_audit.specs.Entries.arrival_of c ≡ a → IsLine (line_in (record { session = r.row.id; moment = m; word = w; is_fault = d; told = t; coming = c }) c) text
      → IsPlainIn (record { session = r.row.id; moment = m; word = w; is_fault = d; told = t; coming = c }) c
      → Means r.row t f → IsNextLook r.row (history_of r) (x a) → Written (bytes ++ (text ++ 10 ∷ [])) (with_look r (x a))
  added a c is_it line plain means next =
      let l : LookLine = record { session = r.row.id; moment = m; word = w; is_fault = d; told = t; coming = c } in
      let same : look_of l f ≡ x a = λ i. x (is_it i) in
      subst (λ (y : Look). Written (bytes ++ (text ++ 10 ∷ [])) (with_look r y)) same
      (more bytes text r (with_look r (look_of l f)) (entries.Look l) written is (line, plain)
      (ap (λ (z : Bool × Bool). is_some (at_place (form_of r) (z.0 && z.1) places.Looks)) (λ i. (own r.row.id i, at i)), none, (f, (means, subst (IsNextLook r.row (history_of r)) (sym same) next), refl)) refl)

  pub looked_at : (a : Arrival) → IsLine (line_told r.row.id t m w d a) text → IsPlainLook t w d a → Means r.row t f → IsNextLook r.row (history_of r) (x a) → Written (bytes ++ (text ++ 10 ∷ [])) (with_look r (x a))
  looked_at Nothing line plain means next = added Nothing coming.Nothing refl line plain means next
  looked_at (Came g) line plain means next = added (Came g) (coming.Frame g) refl line plain means next
  looked_at Bad line plain means next = added Bad coming.Bad refl line plain means next
  looked_at Gone line plain means next = added Gone coming.Gone refl line plain means next

-- ---- comments ----

-- a comment without its line end
abbrev pub comment_text : List (List ℕ) → List ℕ
comment_text fields = spaced (codes "#" ∷ fields)

abbrev pub low_text : ℕ → ℕ → Reply → List ℕ
low_text session moment reply = comment_text (event_fields (Low session moment (frame_of session reply)))

abbrev pub with_comment : Record → ℕ → Reply → Record
with_comment r moment reply = with_note r (notes.Low r.row.id moment reply)

abbrev pub with_time : Record → ℕ → Record
with_time r micros = with_note r (notes.Time micros)

abbrev pub with_taken : Record → ℕ → Record
with_taken r count = with_note r (notes.Took count)

abbrev pub with_end : Record → ℕ → ℕ → Record
with_end r accepted removed = with_note r (notes.End accepted removed)

placed : (b : Bool) (r : Record) (p : RecordPlace) → b ≡ true → is_some (at_place (form_of r) b p) ≡ true
placed true r p e = refl
placed false r p e = absurd (cc)

module _ (bytes : List ℕ) (r : Record) (written : Written bytes r) where
  pub commented : (moment : ℕ) (reply : Reply) → IsText (low_text r.row.id moment reply) → r.row.id < 2 ^ 32 → moment ≤ 2 ^ 62 → IsLawfulReply reply → takes_looks r.place ≡ true
      → AreTold r (record { moment = moment; reply = frame_of r.row.id reply } ∷ []) → Written (bytes ++ (low_text r.row.id moment reply ++ 10 ∷ [])) (with_comment r moment reply)
  commented moment reply is small few lawful at told =
      let text = low_text r.row.id moment reply in
      more bytes text r (with_comment r moment reply) (entries.Comment (notes.Low r.row.id moment reply)) written is ((small, few, lawful), refl, is.short) (placed (takes_looks r.place) r places.Looks at, told, refl) refl

  pub timed : (micros : ℕ) → IsText (comment_text (codes "time" ∷ decimal micros ∷ [])) → micros ≤ 10 ^ 9 → takes_times r.place ≡ true → AreTold r []
      → Written (bytes ++ (comment_text (codes "time" ∷ decimal micros ∷ []) ++ 10 ∷ [])) (with_time r micros)
  timed micros is few at told =
      more bytes _ r (with_time r micros) (entries.Comment (notes.Time micros)) written is (few, refl, is.short) (placed (takes_times r.place) r places.Times at, told, refl) refl

  pub took : (count : ℕ) → IsText (comment_text (codes "took" ∷ decimal count ∷ [])) → count < 2 ^ 64 → takes_times r.place ≡ true → AreTold r []
      → Written (bytes ++ (comment_text (codes "took" ∷ decimal count ∷ []) ++ 10 ∷ [])) (with_taken r count)
  took count is few at told =
      more bytes _ r (with_taken r count) (entries.Comment (notes.Took count)) written is (few, refl, is.short) (placed (takes_times r.place) r places.Taken at, told, refl) refl

  pub ended : (accepted removed : ℕ) → IsText (comment_text (codes "end" ∷ decimal accepted ∷ decimal removed ∷ [])) → accepted < 2 ^ 64 → removed < 2 ^ 64 → is_taken r.place ≡ true → AreTold r []
      → Written (bytes ++ (comment_text (codes "end" ∷ decimal accepted ∷ decimal removed ∷ []) ++ 10 ∷ [])) (with_end r accepted removed)
  ended accepted removed is few few' at told =
      more bytes _ r (with_end r accepted removed) (entries.Comment (notes.End accepted removed)) written is ((few, few'), refl, is.short) (placed (is_taken r.place) r places.End at, told, refl) refl

-- ---- claims ----

-- the pair that a feedback tells
abbrev pub pairs_in : Feedback → List (ℕ × ℕ)
pairs_in (feedbacks.Passed seen) = (seen.count, seen.average) ∷ []
pairs_in (feedbacks.Repeat seen) = (seen.count, seen.average) ∷ []
pairs_in _ = []

-- the pairs that a record's looks tell, the newest first
abbrev pub pairs_told : Record → List (ℕ × ℕ)
pairs_told r = map pair_of r.claims

claims_more : (f : Feedback) (line : ℕ) (claims : List Claim) → map pair_of (claims_of f line ++ claims) ≡ pairs_in f ++ map pair_of claims
claims_more feedbacks.Quiet line claims = refl
claims_more feedbacks.Full line claims = refl
claims_more (feedbacks.Passed seen) line claims = refl
claims_more feedbacks.Released line claims = refl
claims_more (feedbacks.Repeat seen) line claims = refl

pub pairs_more : (r : Record) (x : Look) → pairs_told (with_look r x) ≡ pairs_in x.feedback ++ pairs_told r
pairs_more r x = claims_more x.feedback (r.lines + 1) r.claims

-- no count is below one before it
abbrev pub NeverRose : List (ℕ × ℕ) → Type 0
NeverRose [] = Unit {0}
NeverRose (p ∷ older) = All (λ q. q.0 ≤ p.0) older × NeverRose older

below : (n : ℕ) (claims : List Claim) → All (λ (q : ℕ × ℕ). q.0 ≤ n) (map pair_of claims) → All (λ (b : Claim). b.count ≤ n) claims
below n [] all = All-nil (λ (b : Claim). b.count ≤ n)
below n (c ∷ claims) all =
    All-cons (λ (b : Claim). b.count ≤ n) c claims (All-head (λ (q : ℕ × ℕ). q.0 ≤ n) (pair_of c) (map pair_of claims) all) (below n claims (All-tail (λ (q : ℕ × ℕ). q.0 ≤ n) (pair_of c) (map pair_of claims) all))

right : (r : Record) (claims : List Claim) → NeverRose (map pair_of claims) → (has_end r ≡ true → All (IsAverage (shape_of_row r.row) r.times) (map pair_of claims)) → AreRight r claims
right r [] rises averages = tt
right r (c ∷ claims) rises averages = (
  record {
    rises = below c.count claims rises.0;
    average = λ e. All-head (IsAverage (shape_of_row r.row) r.times) (pair_of c) (map pair_of claims) (averages e);
  },
  right r claims rises.1 (λ e. All-tail (IsAverage (shape_of_row r.row) r.times) (pair_of c) (map pair_of claims) (averages e)),
)

-- ---- a clean record ----

looks_end : (p : RecordPlace) → takes_looks p ≡ true → (ends_at p ≡ true) × (has_end_at p ≡ false)
looks_end places.Opening e = (refl, refl)
looks_end places.Looks e = (refl, refl)
looks_end places.Times e = absurd (cc)
looks_end places.Taken e = absurd (cc)
looks_end places.End e = absurd (cc)

pub looks_times : (p : RecordPlace) → takes_looks p ≡ true → takes_times p ≡ true
looks_times places.Opening e = refl
looks_times places.Looks e = refl
looks_times places.Times e = absurd (cc)
looks_times places.Taken e = absurd (cc)
looks_times places.End e = absurd (cc)

clean : (bytes : List ℕ) (r : Record) → Written bytes r → line_ends bytes < 2 ^ 32 → ends_at r.place ≡ true → AreTold r [] → AreRight r r.claims → (has_end r ≡ true → IsRightEnd r) → IsClean bytes r
clean bytes r w few at told claims end = record {
  whole = record {
    begins = record { texts = w.texts; record_of = w.record_of; whole = sym (append-nil bytes) ∙ sym (w.whole []); few = (let e = w.lines in omega (arith, e, few)) };
    ends = at;
    told = told;
  };
  claims = claims;
  end = end;
}

-- .. without an end
pub clean_looks : (bytes : List ℕ) (r : Record) → Written bytes r → line_ends bytes < 2 ^ 32 → takes_looks r.place ≡ true → AreTold r [] → NeverRose (pairs_told r) → IsClean bytes r
clean_looks bytes r w few at told rises =
    let p = looks_end r.place at in
    clean bytes r w few p.0 told (right r r.claims rises (λ e. absurd (let no = sym p.1 ∙ e in cc))) (λ e. absurd (let no = sym p.1 ∙ e in cc))

-- .. and with one
pub clean_end : (bytes : List ℕ) (r : Record) (accepted removed : ℕ) → Written bytes (with_end r accepted removed) → line_ends bytes < 2 ^ 32 → AreTold r [] → NeverRose (pairs_told r) → All (IsAverage (shape_of_row r.row) r.times) (pairs_told r)
    → IsRightEnd (with_end r accepted removed) → IsClean bytes (with_end r accepted removed)
clean_end bytes r accepted removed w few told rises averages end =
    clean bytes (with_end r accepted removed) w few refl told (right (with_end r accepted removed) r.claims rises (λ e. averages)) (λ e. end)
