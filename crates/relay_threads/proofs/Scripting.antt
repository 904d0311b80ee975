-- The bytes of a record are its script.
use Rattle.std.proofs.Common.{◌≡◌, ℕ, ◌+◌, ◌^◌, ◌<◌, ◌≤◌, Bool, true, false, inl, inr, not, List, [], ◌∷◌, ◌++◌, length, codes, decimal, slice_index, Option, Some, None, refl, sym, ap, ◌∙◌, subst, append_assoc, append-nil, arith}
use Rattle.std.specs.Prelude.{◌*◌, if◌then◌else◌, IfSome, option_map}
use Rattle.std.specs.List.{AllByRecursion, AllPass, list_all}
use Rattle.std.specs.Int.{to_be_bytes, w32}
use Rattle.std.proofs.lemmas.Bool.{false_from_ne_true, both_ways, eqb-true}
use Rattle.std.proofs.lemmas.Fmt.{length-decimal-le}
use Rattle.std.proofs.lemmas.List.{length-append}
use Rattle.std.proofs.lemmas.List.Elements.{All-append, All-weaker}
use Rattle.std.proofs.lemmas.List.Sums.{AllPass-from_list_all}
use Rattle.hex.specs.Hex.{is_hex_digit}
use Rattle.hex.proofs.HexLemmas.{decode_of-ok}
use Rattle.pump_frame.specs.Frames.{IsForm}
use Rattle.pump_frame.specs.Names.{IsName, is_name_byte}
use Rattle.pump_frame.specs.declared.frame.Frame.{Frame}
use Rattle.pump_frame.specs.declared.frame.Kind.{Kind}
use Rattle.pump_frame.specs.declared.frame.Kind.TheVariants.{Hello, Welcome, Data, Ack, Refuse, Attach, Taken}
use Rattle.pump_frame.specs.declared.row.SessionRow.{SessionRow}
use Rattle.pump_core.specs.History.{Opening}
use Rattle.pump_core.specs.ReplyFrames.{frame_of, IsLawfulReply}
use Rattle.pump_core.specs.declared.reply.Reply.{Reply}
use Rattle.script_reader.specs.declared.event.Event.TheVariants.{Low}
use Rattle.script_reader.specs.declared.line.Line.{Line}
use Rattle.script_reader.specs.declared.line.Line.TheVariants as lines
use Rattle.script_reader.specs.declared.line.Arriving.{Arriving}
use Rattle.script_reader.specs.declared.line.Arriving.TheVariants as arriving
use Rattle.script_reader.specs.declared.line.ToldFeedback.{ToldFeedback}
use Rattle.script_reader.specs.declared.line.ToldFeedback.TheVariants as told
use Rattle.script_reader.specs.Grammar.{spaced, row_fields, outcome_field, held_field, IsWord, IsHex, IsRaw, IsArriving, IsFeedback, IsLine}
use Rattle.script_reader.specs.Lines.{is_end, IsUnended, AreLines}
use Rattle.script_reader.specs.Spelling.{line_spelling, line_text}
use Rattle.script_reader.specs.Transcript.{event_fields, reply_fields}
use Rattle.script_reader.proofs.FreeFields.{digits_without}
use Rattle.relay_threads.specs.Records.{Made, record_of}
use Rattle.relay_threads.specs.RecordLines.{tells_fault, told_of, arriving_of, taken_by, line_of, opening_line, coarse_text, comment, comment_lines, look_text, looks_text, record_text, looks_script, record_script, is_reply_kind, IsReplyFrame}
use Rattle.relay_threads.specs.Replays.{IsReadable, AreReadable}
use Rattle.relay_threads.proofs.ReplyKinds.{reply_frames}

-- ---- no line end stands in a line ----

not_end : (p : ℕ → Bool) → p 10 ≡ false → (x : ℕ) → p x ≡ true → is_end x ≡ false
not_end p at_end x passes = false_from_ne_true (is_end x) (λ e. both_ways (p x) (ap p (eqb-true x 10 e) ∙ at_end) passes)

free_by : (p : ℕ → Bool) → p 10 ≡ false → (field : List ℕ) → AllPass p field → IsUnended field
free_by p at_end field pass = All-weaker (λ x. p x ≡ true) (λ b. is_end b ≡ false) (not_end p at_end) field pass

free_text : (text : List ℕ) → list_all (λ b. not (is_end b)) text ≡ true → IsUnended text
free_text text e = free_by (λ b. not (is_end b)) refl text (AllPass-from_list_all _ text e)

free_name : (name : List ℕ) → IsName name → IsUnended name
free_name name h = free_by is_name_byte refl name (AllPass-from_list_all is_name_byte name h.plain)

free_word : (n : ℕ) (field : List ℕ) → IsWord n field → IsUnended field
free_word n field h = free_by is_hex_digit refl field (decode_of-ok field (to_be_bytes w32 n) h.1).1

free_raw : (bytes field : List ℕ) → IsRaw bytes field → IsUnended field
free_raw bytes field h = free_by is_hex_digit refl field (decode_of-ok field bytes h.digits).1

free_hex : (payload field : List ℕ) → IsHex payload field → IsUnended field
free_hex payload field h =
    elim h [
      | inl dash ↦ rw dash.0 (free_text (codes "-") refl)
      | inr digits ↦ free_by is_hex_digit refl field (decode_of-ok field payload digits.2).1
    ]

free_decimal : (n : ℕ) → n < 2 ^ 64 → IsUnended (decimal n)
free_decimal n fits = digits_without 10 n fits (λ h. absurd (omega (arith, h.0)))

free_append : (xs ys : List ℕ) → IsUnended xs → IsUnended ys → IsUnended (xs ++ ys)
free_append xs ys a b = All-append (λ b. is_end b ≡ false) xs ys a b

abbrev AreUnended : List (List ℕ) → Type 0
AreUnended fields = AllByRecursion IsUnended fields

free_spaced : (fields : List (List ℕ)) → AreUnended fields → IsUnended (spaced fields)
free_spaced [] free = free_text [] refl
free_spaced (a ∷ []) free = free.0
free_spaced (a ∷ b ∷ rest) free = free_append a (32 ∷ spaced (b ∷ rest)) free.0 (free_append (32 ∷ []) (spaced (b ∷ rest)) (free_text (32 ∷ []) refl) (free_spaced (b ∷ rest) free.1))

free_outcome : (fault : Bool) → IsUnended (outcome_field fault)
free_outcome true = free_text (codes "fault") refl
free_outcome false = free_text (codes "fine") refl

free_held : (held : Bool) → IsUnended (held_field held)
free_held true = free_text (codes "1") refl
free_held false = free_text (codes "0") refl

free_feedback : (f : ToldFeedback) (field : List ℕ) → IsFeedback f field → IsUnended field
free_feedback told.Quiet field h = rw h (free_text (codes "-") refl)
free_feedback told.Full field h = rw h (free_text (codes "full") refl)
free_feedback (told.Pair count average) field h =
    rw h.2 (free_append (decimal count) (47 ∷ decimal average) (free_decimal count (let few = h.0 in omega (arith, few)))
    (free_append (47 ∷ []) (decimal average) (free_text (47 ∷ []) refl) (free_decimal average (let few = h.1 in omega (arith, few)))))

free_arriving : (a : Arriving) (fields : List (List ℕ)) → IsArriving a fields → AreUnended fields
free_arriving arriving.Nothing fields h = rw h tt
free_arriving (arriving.Hello low high) fields h = rw h.2 (free_text (codes "hello") refl, (free_name low h.0, (free_name high h.1, tt)))
free_arriving (arriving.Data number payload) fields (few, hex, h, e) = rw e (free_text (codes "data") refl, (free_decimal number (omega (arith, few)), (free_hex payload hex h, tt)))
free_arriving (arriving.Raw bytes) fields (hex, h, e) = rw e (free_text (codes "raw") refl, (free_raw bytes.items hex h, tt))

told_line : (session m w : ℕ) (fault : Bool) (f : ToldFeedback) (a : Arriving) (bytes : List ℕ) → IsLine (lines.Told session m w fault f a) bytes → IsUnended bytes × (session < 2 ^ 32) × (m ≤ 2 ^ 62)
told_line session m w fault f a bytes (short, spelled) =
    elim spelled [
      | inl skip ↦ let e = skip.0 in absurd (cc)
      | inr (fields, (hs, hm, hex, hw, field, hf, rest, ha, e), e') ↦ (
        rw (e', e) (free_spaced (codes "told" ∷ decimal session ∷ decimal m ∷ hex ∷ outcome_field fault ∷ field ∷ rest)
            (free_text (codes "told") refl, (free_decimal session (omega (arith, hs)), (free_decimal m (omega (arith, hm)), (free_word w hex hw, (free_outcome fault, (free_feedback f field hf, free_arriving a rest ha))))))),
        hs,
        hm,
      )
    ]

gone_line : (session m : ℕ) (bytes : List ℕ) → IsLine (lines.Gone session m) bytes → IsUnended bytes × (session < 2 ^ 32) × (m ≤ 2 ^ 62)
gone_line session m bytes (short, spelled) =
    elim spelled [
      | inl skip ↦ let e = skip.0 in absurd (cc)
      | inr (fields, (hs, hm, e), e') ↦ (
        rw (e', e) (free_spaced (codes "gone" ∷ decimal session ∷ decimal m ∷ []) (free_text (codes "gone") refl, (free_decimal session (omega (arith, hs)), (free_decimal m (omega (arith, hm)), tt)))),
        hs,
        hm,
      )
    ]

opening_free : (row : SessionRow) (next : ℕ) (held : Bool) (bytes : List ℕ) → IsLine (lines.LowSession row next held) bytes → IsUnended bytes
opening_free row next held bytes (short, spelled) =
    elim spelled [
      | inl skip ↦ let e = skip.0 in absurd (cc)
      | inr (fields, (r, n, e), e') ↦
          let most = n.most in
          rw (e', e) (free_spaced (codes "low-session" ∷ (row_fields row ++ decimal next ∷ held_field held ∷ [])) (free_text (codes "low-session") refl, (free_decimal row.id (let h = r.id in omega (arith, h)), (free_decimal row.capacity (let h = r.capacity in omega (arith, h)), (free_decimal row.message (let h = r.message in omega (arith, h)), (free_decimal row.window (let h = r.window in omega (arith, h)), (free_decimal row.start (let h = r.start in omega (arith, h)), (free_decimal row.longest (let h = r.longest in omega (arith, h)), (free_decimal row.resend (let h = r.resend in omega (arith, h)), (free_name row.low r.low, (free_name row.high r.high, (free_decimal next (omega (arith, most)), (free_held held, tt)))))))))))))
    ]

coarse_free : (session : ℕ) (bytes : List ℕ) → IsLine (lines.Coarse session) bytes → IsUnended bytes
coarse_free session bytes (short, spelled) =
    elim spelled [
      | inl skip ↦ let e = skip.0 in absurd (cc)
      | inr (fields, (hs, e), e') ↦ rw (e', e) (free_spaced (codes "coarse" ∷ decimal session ∷ []) (free_text (codes "coarse") refl, (free_decimal session (omega (arith, hs)), tt)))
    ]

look_line : (row : SessionRow) (m : Made) (bytes : List ℕ) → IsLine (line_of row m) bytes → IsUnended bytes × (row.id < 2 ^ 32) × (m.look.moment ≤ 2 ^ 62)
look_line row m bytes h =
    elim (Rattle.pump_core.specs.Exchanges.is_gone m.look.arrival) as (λ b.
    IsLine (if b then lines.Gone row.id m.look.moment else lines.Told row.id m.look.moment m.look.word (tells_fault m.reply) (told_of row m.look.feedback) (arriving_of (taken_by m))) bytes
    → IsUnended bytes × (row.id < 2 ^ 32) × (m.look.moment ≤ 2 ^ 62)) [
      | true ↦ λ h. gone_line row.id m.look.moment bytes h
      | false ↦ λ h. told_line row.id m.look.moment m.look.word (tells_fault m.reply) (told_of row m.look.feedback) (arriving_of (taken_by m)) bytes h
    ] h

-- ---- a comment ----

abbrev pub AreShort : List (List ℕ) → Type 0
AreShort fields = AllByRecursion (λ field. length field ≤ 40) fields

pub short_spaced : (fields : List (List ℕ)) → AreShort fields → length (spaced fields) ≤ 41 * length fields
short_spaced [] short = omega arith
short_spaced (a ∷ []) short = let h = short.0 in omega (arith, h)
short_spaced (a ∷ b ∷ rest) short =
    let h = short.0 in
    let k = short_spaced (b ∷ rest) short.1 in
    let e = length-append a (32 ∷ spaced (b ∷ rest)) in
    omega (arith, h, k, e)

pub short_decimal : (n : ℕ) → n < 2 ^ 64 → length (decimal n) ≤ 40
short_decimal n fits = let h = length-decimal-le 20 n (omega arith) (omega (arith, fits)) fits in omega (arith, h)

-- fields without a line end, each of which is short
pub record Plain (fields : List (List ℕ)) : Type 0 where
  pub free : AreUnended fields
  pub short : AreShort fields
  pub few : length fields ≤ 3

code_fits : (payload : List ℕ) → Rattle.pump_frame.specs.Frames.IsCode payload → slice_index payload 0 < 2 ^ 64
code_fits payload (code, from, to, e) = subst (λ (p : List ℕ). slice_index p 0 < 2 ^ 64) (sym e) (omega (arith, to))

numbered : (word : List ℕ) (number : ℕ) → list_all (λ b. not (is_end b)) word ≡ true → length word ≤ 40 → number ≤ 2 ^ 48 → Plain (word ∷ decimal number ∷ [])
numbered word number e short few = record {
  free = (free_text word e, (free_decimal number (omega (arith, few)), tt));
  short = (short, (short_decimal number (omega (arith, few)), tt));
  few = omega arith;
}

reply_plain : (kind : Kind) (number : ℕ) (payload : List ℕ) → IsForm kind number payload → is_reply_kind kind ≡ true → Plain (reply_fields kind number payload)
reply_plain Welcome number payload form e = numbered (codes "welcome") number refl (omega arith) form.0
reply_plain Ack number payload form e = numbered (codes "ack") number refl (omega arith) (let few = form.0 in omega (arith, few))
reply_plain Refuse number payload form e =
    let few = form.0 in
    let code = code_fits payload form.1 in
    record {
      free = (free_text (codes "refuse") refl, (free_decimal (slice_index payload 0) code, (free_decimal number (omega (arith, few)), tt)));
      short = (omega arith, (short_decimal (slice_index payload 0) code, (short_decimal number (omega (arith, few)), tt)));
      few = omega arith;
    }
reply_plain Hello number payload form e = absurd (cc)
reply_plain Data number payload form e = absurd (cc)
reply_plain Attach number payload form e = absurd (cc)
reply_plain Taken number payload form e = absurd (cc)

-- the comment without its line end
abbrev comment_bytes : ℕ → ℕ → Frame → List ℕ
comment_bytes session m r = codes "# " ++ spaced (event_fields (Low session m r))

comment_fits : (row : SessionRow) (m : ℕ) (r : Option Frame) (old new : List ℕ) → row.id < 2 ^ 32 → m < 2 ^ 64 → IfSome r IsReplyFrame → new ≡ old ++ comment row m r → length new ≤ length old + 258
comment_fits row m None old new hs hm lawful e =
    let long = ap length e ∙ length-append old [] in
    omega (arith, long)
comment_fits row m (Some r) old new hs hm lawful e =
    let p = reply_plain r.kind r.number r.payload lawful.0.form lawful.1 in
    let fields : List (List ℕ) = event_fields (Low row.id m r) in
    let bound = short_spaced fields (omega arith, (short_decimal row.id (omega (arith, hs)), (short_decimal m hm, p.short))) in
    let few = p.few in
    let long = ap length e ∙ length-append old (comment row m (Some r)) in
    let line = length-append (spaced fields) (10 ∷ []) in
    omega (arith, bound, few, long, line)

-- a comment has at most 258 bytes
pub comment_short : (row : SessionRow) (m : ℕ) (r : Option Reply) (old new : List ℕ) → row.id < 2 ^ 32 → m < 2 ^ 64 → IfSome r IsLawfulReply → new ≡ old ++ comment row m (option_map (frame_of row.id) r) → length new ≤ length old + 258
comment_short row m r old new hs hm lawful e = comment_fits row m (option_map (frame_of row.id) r) old new hs hm (reply_frames row.id r hs lawful) e

comment_line : (session m : ℕ) (r : Frame) → session < 2 ^ 32 → m ≤ 2 ^ 62 → IsReplyFrame r → IsUnended (comment_bytes session m r) × IsLine lines.Skip (comment_bytes session m r)
comment_line session m r hs hm lawful =
    let p = reply_plain r.kind r.number r.payload lawful.0.form lawful.1 in
    let fields : List (List ℕ) = event_fields (Low session m r) in
    let free : AreUnended fields = (free_text (codes "low") refl, (free_decimal session (omega (arith, hs)), (free_decimal m (omega (arith, hm)), p.free))) in
    let short : AreShort fields = (omega arith, (short_decimal session (omega (arith, hs)), (short_decimal m (omega (arith, hm)), p.short))) in
    let bound = short_spaced fields short in
    let few = p.few in
    (free_append (codes "# ") (spaced fields) (free_text (codes "# ") refl) (free_spaced fields free), (omega (arith, bound, few), inl (refl, refl)))

-- ---- the record ----

module _ (row : SessionRow) where
  comments_read : (m : Made) (rest : List ℕ) (later : List Line) → IsReadable row m → AreLines (Some rest) later (Some []) → AreLines (Some (comment row m.look.moment m.reply ++ rest)) (comment_lines m.reply ++ later) (Some [])
  comments_read m rest later readable h = by_reply m.reply readable.reply
    where
      by_reply : (r : Option Frame) → IfSome r IsReplyFrame → AreLines (Some (comment row m.look.moment r ++ rest)) (comment_lines r ++ later) (Some [])
      by_reply None lawful = h
      by_reply (Some r) lawful =
          let line = look_line row m (line_spelling (line_of row m)) readable.line in
          let c = comment_line row.id m.look.moment r line.1 line.2 lawful in
          (comment_bytes row.id m.look.moment r, Some rest, c.0, c.1, refl, h)

  look_reads : (m : Made) (rest : List ℕ) (later : List Line) → IsReadable row m → AreLines (Some rest) later (Some []) → AreLines (Some (look_text row m ++ rest)) (line_of row m ∷ (comment_lines m.reply ++ later)) (Some [])
  look_reads m rest later readable h = (
    line_spelling (line_of row m),
    Some (comment row m.look.moment m.reply ++ rest),
    (look_line row m (line_spelling (line_of row m)) readable.line).0,
    readable.line,
    append_assoc (line_text (line_of row m)) (comment row m.look.moment m.reply) rest,
    comments_read m rest later readable h,
  )

  -- the second line of a coarse session's record
  coarse_reads : (c : Bool) (rest : List ℕ) (later : List Line) → (c ≡ true → IsLine (lines.Coarse row.id) (line_spelling (lines.Coarse row.id))) → AreLines (Some rest) later (Some [])
      → AreLines (Some ((if c then line_text (lines.Coarse row.id) else []) ++ rest)) ((if c then lines.Coarse row.id ∷ [] else []) ++ later) (Some [])
  coarse_reads false rest later readable h = h
  coarse_reads true rest later readable h =
      let line = line_spelling (lines.Coarse row.id) in
      (line, Some rest, coarse_free row.id line (readable refl), readable refl, refl, h)

  looks_read : (made : List Made) (rest : List ℕ) (later : List Line) → AllByRecursion (IsReadable row) made → AreLines (Some rest) later (Some []) → AreLines (Some (looks_text row made ++ rest)) (looks_script row made ++ later) (Some [])
  looks_read [] rest later readable h = h
  looks_read (m ∷ before) rest later readable h =
      subst (λ (z : List ℕ × List Line). AreLines (Some z.0) z.1 (Some []))
      (λ i. (sym (append_assoc (looks_text row before) (look_text row m) rest) i, sym (append_assoc (looks_script row before) (line_of row m ∷ comment_lines m.reply) later) i))
      (looks_read before (look_text row m ++ rest) (line_of row m ∷ (comment_lines m.reply ++ later)) readable.1 (look_reads m rest later readable.0 h))

  pub record_reads : (o : Opening) (made : List Made) → AreReadable row o made → AreLines (Some (record_text row o made)) (record_script row o made) (Some [])
  record_reads o made readable =
      let looks : List ℕ = looks_text row (record_of made) in (
        line_spelling (opening_line row o),
        Some (coarse_text row ++ looks),
        opening_free _ o.count o.is_held (line_spelling (opening_line row o)) readable.opening,
        readable.opening,
        refl,
        coarse_reads row.coarse looks (looks_script row (record_of made)) readable.coarse
            (subst (λ (z : List ℕ × List Line). AreLines (Some z.0) z.1 (Some [])) (λ i. (append-nil looks i, append-nil (looks_script row (record_of made)) i)) (looks_read (record_of made) [] [] readable.looks refl)),
      )
