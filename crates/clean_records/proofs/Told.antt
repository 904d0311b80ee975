-- The record of the looks that were made, line by line, as the lines of a record that is checked.
use Rattle.std.proofs.Common.{◌≡◌, ℕ, ◌^◌, ◌<◌, ◌≤◌, Bool, true, false, List, [], ◌∷◌, ◌++◌, length, Option, Some, None, inl, inr, refl, sym, ap, ◌∙◌, subst, append-nil, append_assoc, arith, length-append}
use Rattle.std.specs.Prelude.{if◌then◌else◌, IfSome}
use Rattle.std.specs.List.{All, AllByRecursion}
use Rattle.std.proofs.lemmas.List.Elements.{All-nil, All-cons, All-pop}
use Rattle.pump_frame.specs.Rows.{IsLawfulRow}
use Rattle.pump_frame.specs.declared.frame.Frame.{Frame}
use Rattle.pump_frame.specs.declared.row.SessionRow.{SessionRow}
use Rattle.pump_core.specs.declared.feedback.Feedback.{Feedback}
use Rattle.pump_core.specs.declared.feedback.Feedback.TheVariants as feedbacks
use Rattle.pump_core.specs.declared.reply.Reply.{Reply}
use Rattle.pump_core.specs.History.{Look, Opening, looked, first_life}
use Rattle.pump_core.specs.Exchanges.{Part, is_gone}
use Rattle.pump_core.specs.Passage.{NeverFall}
use Rattle.pump_core.specs.ReplyFrames.{frame_of, IsLawfulReply}
use Rattle.pump_core.specs.Replies.{Sent, sent, LowReplies}
use Rattle.pump_core.specs.Standing.{State, StandsAt, end_of, last_moment}
use Rattle.pump_core.proofs.Cuts.{one_cut}
use Rattle.low_process.specs.Looks.{look_of}
use Rattle.script_reader.specs.declared.line.Line.{Line}
use Rattle.script_reader.specs.declared.line.Line.TheVariants as lines
use Rattle.script_reader.specs.declared.event.Event.TheVariants.{Low}
use Rattle.script_reader.specs.Alone.{tells_level}
use Rattle.script_reader.specs.Grammar.{IsLine}
use Rattle.script_reader.specs.Lines.{IsUnended}
use Rattle.script_reader.specs.Spelling.{line_spelling, line_text}
use Rattle.script_reader.specs.Transcript.{event_fields}
use Rattle.relay_threads.specs.Records.{Made, looks_made, replies_made, life_made, AreMade, is_recorded, record_of}
use Rattle.relay_threads.specs.RecordLines.{taken_by, tells_fault, told_of, arriving_of, line_of, without_ports, told_row, opening_line, coarse_text, comment, comment_lines, look_text, looks_text, record_text, HasLawfulFrame, IsReplyFrame}
use Rattle.relay_threads.specs.Replays.{TakeLawful, TellsLevel, TellLevels, is_lost, IsReadable, AreReadable}
use Rattle.relay_threads.proofs.Kept.{thin_of, recorded_at}
use Rattle.relay_threads.proofs.Scripting.{comment_short}
use Rattle.relay_threads.specs.PairsRead.{pair_in, pairs_of}
use Rattle.pump_audit.specs.Records as audited
use Rattle.pump_audit.specs.Records.{Record, history_of, Means, IsNextLook, AreTold, begun, with_look, made_coarse}
use Rattle.pump_audit.specs.Places.{takes_looks}
use Rattle.pump_audit.specs.Texts.{IsText, line_ends}
use Rattle.pump_audit.specs.Verdicts.{IsClean}
use Rattle.pump_audit.proofs.Writing.{ends_append, unended, Written, opened, coarsened, line_told, looked_at, comment_text, low_text, with_comment, commented, pairs_in, pairs_told, pairs_more, NeverRose, clean_looks}
use Rattle.clean_records.proofs.LineEnds.{IsLined, AreLined, has_lines}
use Rattle.clean_records.proofs.Goes.{counts, state, moves, not_lost, own_reply, reply_of, Tells, tells_made, counted}

-- the pairs that looks tell, the newest first
abbrev pub pairs_back : List Made → List (ℕ × ℕ)
pairs_back [] = []
pairs_back (m ∷ before) = pairs_in m.look.feedback ++ pairs_back before

-- ---- a comment ----

low_is_text : (row : SessionRow) (m : ℕ) (p : Reply) → row.id < 2 ^ 32 → m ≤ 2 ^ 62 → IsLawfulReply p → line_ends (comment row m (Some (frame_of row.id p))) ≤ 1 → IsText (low_text row.id m p)
low_is_text row m p small few lawful one =
    let text = low_text row.id m p in
    let short = comment_short row m (Some p) [] (text ++ 10 ∷ []) small (omega (arith, few)) lawful refl in
    let a = ends_append text (10 ∷ []) in
    let b : line_ends (10 ∷ []) ≡ 1 = refl in
    let c = length-append text (10 ∷ []) in
    let d : line_ends (text ++ 10 ∷ []) ≤ 1 = one in
    record { unended = unended text (omega (arith, a, b, d)); short = omega (arith, short, c) }

-- the moment of a look's line
at_most : (gone : Bool) (s m : ℕ) (told : Line) (text : List ℕ) → (IsLine told text → m ≤ 2 ^ 62) → IsLine (if gone then lines.Gone s m else told) text → m ≤ 2 ^ 62
at_most false s m told text low h = low h
at_most true s m told text low (short, spelled) =
    elim spelled [
      | inl skip ↦ let e = skip.0 in absurd (cc)
      | inr (fields, (hs, hm, e), e') ↦ hm
    ]

moment_few : (row : SessionRow) (m : Made) (text : List ℕ) → IsLine (line_of row m) text → m.look.moment ≤ 2 ^ 62
moment_few row m text h =
    at_most (is_gone m.look.arrival) row.id m.look.moment (lines.Told row.id m.look.moment m.look.word (tells_fault m.reply) (told_of row m.look.feedback) (arriving_of (taken_by m))) text (λ told.
    elim told.1 [
      | inl skip ↦ let e = skip.0 in absurd (cc)
      | inr (fields, (hs, hm, hex, hw, field, hf, rest, ha, e), e') ↦ hm
    ]) h

module _ (row : SessionRow) (o : Opening) where
  abbrev bare : SessionRow
  bare = without_ports row

  -- the bytes are the record of these looks, behind which the low process has come to s
  pub record Upto (bytes : List ℕ) (made : List Made) (s : State) : Type 0 where
    pub r : Record
    pub written : Written bytes r
    pub own : r.row ≡ bare
    pub opening : r.opening ≡ o
    pub at : takes_looks r.place ≡ true
    pub stands : StandsAt bare s (last_moment (looks_made made)) (history_of r)
    pub replies : LowReplies bare (history_of r) (replies_made made)
    pub comments : r.comments ≡ replies_made made
    pub lost : audited.is_lost r.looks ≡ is_lost made
    pub pairs : pairs_told r ≡ pairs_back made
    pub times : r.times ≡ []

  pub all_told : (bytes : List ℕ) (made : List Made) (s : State) (u : Upto bytes made s) → AreTold u.r []
  all_told bytes made s u =
      subst (λ (z : SessionRow × List Sent). LowReplies z.0 (history_of u.r) z.1) (λ i. (sym u.own i, (sym u.comments ∙ sym (append-nil u.r.comments)) i)) u.replies

  -- ---- the lines that it begins with ----

  stands_first : StandsAt bare (end_of row o []) 0 (first_life o)
  stands_first = record { earlier = tt; parts = []; cut = record { are_parts = tt; looks = refl }; state = refl; newest = refl; ordered = tt }

  none_first : (w : SessionRow) → LowReplies w (first_life o) []
  none_first w = ([], [], refl, ([], record { are_parts = tt; looks = refl }, refl), refl)

  first_is_text : (line : Line) → IsUnended (line_spelling line) → IsLine line (line_spelling line) → IsText (line_spelling line)
  first_is_text line free h = record { unended = free; short = h.0 }

  begin_by : (c : Bool) → row.coarse ≡ c → IsLawfulRow row → IsText (line_spelling (opening_line row o)) → IsLine (opening_line row o) (line_spelling (opening_line row o))
      → (c ≡ true → IsUnended (line_spelling (lines.Coarse row.id)) × IsLine (lines.Coarse row.id) (line_spelling (lines.Coarse row.id)))
      → Upto (line_text (opening_line row o) ++ (if c then line_text (lines.Coarse row.id) else [])) [] (end_of row o [])
  begin_by false e lawful is line coarse = record {
    r = begun (told_row row) o.count o.is_held;
    written = subst (λ (z : List ℕ). Written z (begun (told_row row) o.count o.is_held)) (sym (append-nil (line_text (opening_line row o)))) (opened (told_row row) o.count o.is_held (line_spelling (opening_line row o)) is line lawful);
    own = λ i. record bare { coarse = sym e i };
    opening = refl;
    at = refl;
    stands = stands_first;
    replies = none_first bare;
    comments = refl;
    lost = refl;
    pairs = refl;
    times = refl;
  }
  begin_by true e lawful is line coarse =
      let r = begun (told_row row) o.count o.is_held in
      let text = line_spelling (lines.Coarse row.id) in
      let h = coarse refl in
      record {
        r = made_coarse r;
        written = coarsened (line_text (opening_line row o)) text r (opened (told_row row) o.count o.is_held (line_spelling (opening_line row o)) is line lawful) (first_is_text (lines.Coarse row.id) h.0 h.1) h.1 refl (none_first (told_row row));
        own = λ i. record bare { coarse = sym e i };
        opening = refl;
        at = refl;
        stands = stands_first;
        replies = none_first bare;
        comments = refl;
        lost = refl;
        pairs = refl;
        times = refl;
      }

  abbrev first : List ℕ
  first = line_text (opening_line row o) ++ coarse_text row

  begin : IsLawfulRow row → (made : List Made) → AreReadable row o made → Upto first [] (state row o [] tt)
  begin lawful made readable =
      let has = has_lines row o made readable in
      let t = thin_of row o [] tt in
      subst (λ (z : List Part). Upto first [] (end_of row o z)) (one_cut row (life_made o []) [] t.parts (record { are_parts = tt; looks = refl }) t.cut)
      (begin_by row.coarse refl lawful (first_is_text (opening_line row o) has.opening readable.opening) readable.opening (λ e. (has.coarse e, readable.coarse e)))

  -- ---- one look ----

  module _ (m : Made) (before : List Made) (are : AreMade row o (m ∷ before)) (bytes : List ℕ) (u : Upto bytes before (state row o before are.1)) (readable : IsReadable row m) (lined : IsLined row m)
      (counted : counts row o m ≡ true) (level : tells_level row (told_of row m.look.feedback) ≡ true) (lawful : HasLawfulFrame (taken_by m)) where
    abbrev s : State
    s = state row o before are.1

    abbrev text : List ℕ
    text = line_spelling (line_of row m)

    tells : Tells row s (history_of u.r) (replies_made before) m
    tells = tells_made row o m before are (history_of u.r) u.stands u.replies (u.lost ∙ not_lost row o m before are counted) counted level lawful

    -- behind the line of the look, before its comment
    record LineTold (x : Look) : Type 0 where
      written : Written (bytes ++ (text ++ 10 ∷ [])) (with_look u.r x)
      stands : StandsAt bare (state row o (m ∷ before) are) m.look.moment (looked (history_of u.r) x)
      replies : LowReplies bare (looked (history_of u.r) x) (replies_made (m ∷ before))
      fault : x.is_fault ≡ tells_fault m.reply
      feedback : x.feedback ≡ m.look.feedback

    line_of_look : (t : Tells row s (history_of u.r) (replies_made before) m) → LineTold (look_of m.look.moment t.word t.arrival t.is_fault m.look.feedback)
    line_of_look t =
        let x : Look = look_of m.look.moment t.word t.arrival t.is_fault m.look.feedback in
        let id : u.r.row.id ≡ row.id = ap (λ (w : SessionRow). w.id) u.own in
        let line : IsLine (line_told u.r.row.id t.told_as m.look.moment t.word t.is_fault t.arrival) text =
        subst (λ (l : Line). IsLine l text) (sym (ap (λ (n : ℕ). line_told n t.told_as m.look.moment t.word t.is_fault t.arrival) id ∙ t.line_is)) readable.line in
        record {
          written = looked_at bytes text u.r u.written (record { unended = lined.line; short = readable.line.0 }) u.at (all_told bytes before s u) t.told_as m.look.moment t.word t.is_fault m.look.feedback t.arrival line t.plain
              (subst (λ (w : SessionRow). Means w t.told_as m.look.feedback) (sym u.own) t.means) (subst (λ (w : SessionRow). IsNextLook w (history_of u.r) x) (sym u.own) t.does.next);
          stands = subst (λ (z : State). StandsAt bare z m.look.moment (looked (history_of u.r) x)) (sym (moves row o m before are).state_is) t.does.stands;
          replies = t.does.replies;
          fault = t.fault;
          feedback = refl;
        }

    abbrev after_line : List ℕ
    after_line = bytes ++ (text ++ 10 ∷ [])

    silent : (x : Look) → LineTold x → m.reply ≡ None → Upto (after_line ++ comment row m.look.moment None) (m ∷ before) (state row o (m ∷ before) are)
    silent x l e = record {
      r = with_look u.r x;
      written = subst (λ (z : List ℕ). Written z (with_look u.r x)) (sym (append-nil after_line)) l.written;
      own = u.own;
      opening = u.opening;
      at = refl;
      stands = l.stands;
      replies = l.replies;
      comments = u.comments ∙ sym (append-nil (replies_made before)) ∙ ap (λ (r : Option Frame). replies_made before ++ sent m.look r) (sym e);
      lost = l.fault;
      pairs = pairs_more u.r x ∙ ap (λ (z : Feedback × List (ℕ × ℕ)). pairs_in z.0 ++ z.1) (λ i. (l.feedback i, u.pairs i));
      times = u.times;
    }

    speaks : (x : Look) → LineTold x → (g : Frame) → m.reply ≡ Some g → IsReplyFrame g → Upto (after_line ++ comment row m.look.moment (Some g)) (m ∷ before) (state row o (m ∷ before) are)
    speaks x l g e replied =
        let p = reply_of g replied in
        let session : g.session ≡ row.id = subst (λ (r : Option Frame). IfSome r (λ (f : Frame). f.session ≡ row.id)) e (own_reply row o m before are) in
        let id : u.r.row.id ≡ row.id = ap (λ (w : SessionRow). w.id) u.own in
        let r : Record = with_look u.r x in
        let same : frame_of row.id p.0 ≡ g = ap (λ (n : ℕ). frame_of n p.0) (sym session) ∙ p.2 in
        let same' : frame_of u.r.row.id p.0 ≡ g = ap (λ (n : ℕ). frame_of n p.0) id ∙ same in
        let fits = replied.0.session in
        let small : row.id < 2 ^ 32 = subst (λ (n : ℕ). n < 2 ^ 32) session fits in
        let few : m.look.moment ≤ 2 ^ 62 = moment_few row m text readable.line in
        let one : line_ends (comment row m.look.moment (Some (frame_of row.id p.0))) ≤ 1 =
        subst (λ (f : Frame). line_ends (comment row m.look.moment (Some f)) ≤ 1) (sym same) (subst (λ (z : Option Frame). line_ends (comment row m.look.moment z) ≤ length (comment_lines z)) e lined.comment) in
        let is : IsText (low_text u.r.row.id m.look.moment p.0) = subst (λ (n : ℕ). IsText (low_text n m.look.moment p.0)) (sym id) (low_is_text row m.look.moment p.0 small few p.1 one) in
        let spelled : low_text u.r.row.id m.look.moment p.0 ++ 10 ∷ [] ≡ comment row m.look.moment (Some g) =
        ap (λ (z : ℕ × Frame). comment_text (event_fields (Low z.0 m.look.moment z.1)) ++ 10 ∷ []) (λ i. (id i, same' i)) in
        let told : AreTold r (record { moment = m.look.moment; reply = frame_of u.r.row.id p.0 } ∷ []) =
        subst (λ (z : SessionRow × List Sent). LowReplies z.0 (looked (history_of u.r) x) z.1)
        (λ i. (sym u.own i, (ap (λ (z : List Sent × Option Frame). z.0 ++ sent m.look z.1) (λ j. (sym u.comments j, e j)) ∙ ap (λ (f : Frame). u.r.comments ++ record { moment = m.look.moment; reply = f } ∷ []) (sym same')) i)) l.replies in
        record {
          r = with_comment r m.look.moment p.0;
          written = subst (λ (z : List ℕ). Written (after_line ++ z) (with_comment r m.look.moment p.0)) spelled
              (commented after_line r l.written m.look.moment p.0 is (subst (λ (n : ℕ). n < 2 ^ 32) (sym id) small) few p.1 refl told);
          own = u.own;
          opening = u.opening;
          at = refl;
          stands = l.stands;
          replies = l.replies;
          comments = ap (λ (f : Frame). u.r.comments ++ record { moment = m.look.moment; reply = f } ∷ []) same' ∙ ap (λ (z : List Sent × Option Frame). z.0 ++ sent m.look z.1) (λ j. (u.comments j, sym e j));
          lost = l.fault;
          pairs = pairs_more u.r x ∙ ap (λ (z : Feedback × List (ℕ × ℕ)). pairs_in z.0 ++ z.1) (λ i. (l.feedback i, u.pairs i));
          times = u.times;
        }

    by_reply : (x : Look) → LineTold x → (r : Option Frame) → m.reply ≡ r → IfSome r IsReplyFrame → Upto (after_line ++ comment row m.look.moment r) (m ∷ before) (state row o (m ∷ before) are)
    by_reply x l None e replied = silent x l e
    by_reply x l (Some g) e replied = speaks x l g e replied

    one_look : Upto (bytes ++ look_text row m) (m ∷ before) (state row o (m ∷ before) are)
    one_look =
        subst (λ (z : List ℕ). Upto z (m ∷ before) (state row o (m ∷ before) are)) (append_assoc bytes (line_text (line_of row m)) (comment row m.look.moment m.reply))
        (by_reply _ (line_of_look tells) m.reply refl readable.reply)

  -- ---- all looks ----

  abbrev Count : List Made → Type 0
  Count made = AllByRecursion (λ m. counts row o m ≡ true) made

  pub looks_told : (bytes : List ℕ) → Upto bytes [] (state row o [] tt) → (made : List Made) (are : AreMade row o made) → AllByRecursion (IsReadable row) made → AreLined row made → Count made → TellLevels row made → TakeLawful made
      → Upto (bytes ++ looks_text row made) made (state row o made are)
  looks_told bytes u [] are readable lined count levels takes = subst (λ (z : List ℕ). Upto z [] (state row o [] tt)) (sym (append-nil bytes)) u
  looks_told bytes u (m ∷ before) are readable lined count levels takes =
      let before_it = looks_told bytes u before are.1 readable.1 lined.1 count.1 levels.1 takes.1 in
      subst (λ (z : List ℕ). Upto z (m ∷ before) (state row o (m ∷ before) are)) (append_assoc bytes (looks_text row before) (look_text row m))
      (one_look m before are (bytes ++ looks_text row before) before_it readable.0 lined.0 count.0 levels.0 takes.0)

  -- ---- the recorded looks ----

  kept_by : (P : Made → Type 0) (m : Made) (before : List Made) (b : Bool) → is_recorded before m ≡ b → (b ≡ true → P m) → AllByRecursion P (record_of before) → AllByRecursion P (record_of (m ∷ before))
  kept_by P m before true e here rest = subst (AllByRecursion P) (sym (recorded_at m before true e)) (here refl, rest)
  kept_by P m before false e here rest = subst (AllByRecursion P) (sym (recorded_at m before false e)) rest

  kept : (P : Made → Type 0) (made : List Made) → AllByRecursion P made → AllByRecursion P (record_of made)
  kept P [] all = tt
  kept P (m ∷ before) all = kept_by P m before (is_recorded before m) refl (λ e. all.0) (kept P before all.1)

  count_all : (made : List Made) → Count (record_of made)
  count_all [] = tt
  count_all (m ∷ before) = kept_by (λ m. counts row o m ≡ true) m before (is_recorded before m) refl (λ e. counted before m e) (count_all before)

  pub record_told : IsLawfulRow row → (made : List Made) (are : AreMade row o made) → AreReadable row o made → TellLevels row made → TakeLawful made
      → Upto (record_text row o made) (record_of made) (state row o (record_of made) (thin_of row o made are).are_made)
  record_told lawful made are readable levels takes =
      subst (λ (z : List ℕ). Upto z (record_of made) (state row o (record_of made) (thin_of row o made are).are_made)) (append_assoc (line_text (opening_line row o)) (coarse_text row) (looks_text row (record_of made)))
      (looks_told first (begin lawful made readable) (record_of made) (thin_of row o made are).are_made readable.looks (has_lines row o made readable).looks (count_all made) (kept (TellsLevel row) made levels) (kept (λ m. HasLawfulFrame (taken_by m)) made takes))

-- ---- counts that never fall ----

module _ (P : ℕ × ℕ → Type 0) (before : List Made) (rec : All P (pairs_of before) → All P (pairs_back before)) where
  back_none : All P (pairs_of before ++ []) → All P (pairs_back before)
  back_none all = rec (subst (All P) (append-nil (pairs_of before)) all)

  back_one : (p : ℕ × ℕ) → All P (pairs_of before ++ p ∷ []) → All P (p ∷ pairs_back before)
  back_one p all =
      let k = All-pop P (pairs_of before ++ p ∷ []) (pairs_of before) (Some p) refl all in
      All-cons P p (pairs_back before) k.1 (rec k.0)

  back_by : (f : Feedback) → All P (pairs_of before ++ pair_in f) → All P (pairs_in f ++ pairs_back before)
  back_by feedbacks.Quiet all = back_none all
  back_by feedbacks.Full all = back_none all
  back_by feedbacks.Released all = back_none all
  back_by (feedbacks.Passed seen) all = back_one (seen.count, seen.average) all
  back_by (feedbacks.Repeat seen) all = back_one (seen.count, seen.average) all

pub back_all : (P : ℕ × ℕ → Type 0) (made : List Made) → All P (pairs_of made) → All P (pairs_back made)
back_all P [] all = All-nil P
back_all P (m ∷ before) all = back_by P before (back_all P before) m.look.feedback all

fall_split : (ps : List (ℕ × ℕ)) (p : ℕ × ℕ) → NeverFall (ps ++ p ∷ []) → NeverFall ps × All (λ (q : ℕ × ℕ). q.0 ≤ p.0) ps
fall_split [] p h = (tt, All-nil (λ (q : ℕ × ℕ). q.0 ≤ p.0))
fall_split (y ∷ ps) p h =
    let a = All-pop (λ (q : ℕ × ℕ). y.0 ≤ q.0) (ps ++ p ∷ []) ps (Some p) refl h.0 in
    let k = fall_split ps p h.1 in
    ((a.0, k.0), All-cons (λ (q : ℕ × ℕ). q.0 ≤ p.0) y ps a.1 k.1)

module _ (before : List Made) (rec : NeverFall (pairs_of before) → NeverRose (pairs_back before)) where
  rises_none : NeverFall (pairs_of before ++ []) → NeverRose (pairs_back before)
  rises_none h = rec (subst NeverFall (append-nil (pairs_of before)) h)

  rises_one : (p : ℕ × ℕ) → NeverFall (pairs_of before ++ p ∷ []) → NeverRose (p ∷ pairs_back before)
  rises_one p h =
      let k = fall_split (pairs_of before) p h in
      (back_all (λ (q : ℕ × ℕ). q.0 ≤ p.0) before k.1, rec k.0)

  rises_by : (f : Feedback) → NeverFall (pairs_of before ++ pair_in f) → NeverRose (pairs_in f ++ pairs_back before)
  rises_by feedbacks.Quiet h = rises_none h
  rises_by feedbacks.Full h = rises_none h
  rises_by feedbacks.Released h = rises_none h
  rises_by (feedbacks.Passed seen) h = rises_one (seen.count, seen.average) h
  rises_by (feedbacks.Repeat seen) h = rises_one (seen.count, seen.average) h

pub back_rises : (made : List Made) → NeverFall (pairs_of made) → NeverRose (pairs_back made)
back_rises [] h = tt
back_rises (m ∷ before) h = rises_by before (back_rises before) m.look.feedback h

-- ---- the record is clean ----

pub record_clean : (row : SessionRow) (o : Opening) (made : List Made) → IsLawfulRow row → AreMade row o made → AreReadable row o made → TellLevels row made → TakeLawful made → NeverFall (pairs_of (record_of made))
    → line_ends (record_text row o made) < 2 ^ 32 → (r : Record) × IsClean (record_text row o made) r
record_clean row o made lawful are readable levels takes falls few =
    let u = record_told row o lawful made are readable levels takes in
    (u.r, clean_looks (record_text row o made) u.r u.written few u.at (all_told row o _ _ _ u) (subst NeverRose (sym u.pairs) (back_rises (record_of made) falls)))
