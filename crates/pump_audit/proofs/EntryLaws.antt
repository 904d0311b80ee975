-- Reading the lines of a record that are lines of a script.
use Rattle.std.proofs.Common.{◌≡◌, ℕ, suc, Bool, inl, ◌+◌, ◌^◌, ◌<◌, ◌≤◌, List, [], ◌∷◌, ◌++◌, length, get_or, take, drop, Option, None, Some, IfSome, refl, sym, ap, ◌∙◌, subst, append-nil, arith, length-drop, append_assoc}
use Rattle.std.specs.Prelude.{option_map, false}
use Rattle.std.proofs.lemmas.List.{take-append-drop}
use Rattle.std.proofs.Math.Seq.{drop-cons}
use Rattle.pump_frame.specs.Frames.{IsLawful}
use Rattle.pump_frame.specs.Readings.{Reading, Within, HasBegun}
use Rattle.pump_frame.specs.Spellings.{spelling, header_of}
use Rattle.pump_frame.specs.Streams.{Feeds}
use Rattle.pump_frame.specs.declared.frame.Frame.{Frame}
use Rattle.pump_frame.specs.declared.reader.Fed.{Fed}
use Rattle.pump_frame.specs.declared.reader.Fed.TheVariants.{Whole, Bad}
use Rattle.pump_frame.proofs.Exact.{free, same_frame, apart}
use Rattle.script_reader.specs.declared.line.Arriving.{Arriving}
use Rattle.script_reader.specs.declared.line.Arriving.TheVariants as arriving
use Rattle.script_reader.specs.declared.line.Line.{Line}
use Rattle.script_reader.specs.declared.line.Line.TheVariants as lines
use Rattle.script_reader.specs.declared.line.ToldFeedback.{ToldFeedback}
use Rattle.script_reader.specs.declared.line.ToldFeedback.TheVariants as told
use Rattle.pump_audit.specs.declared.entry.Coming.{Coming}
use Rattle.pump_audit.specs.declared.entry.Coming.TheVariants as coming
use Rattle.pump_audit.specs.declared.entry.LookLine.{LookLine}
use Rattle.pump_audit.specs.declared.entry.Entry.{Entry}
use Rattle.pump_audit.specs.declared.entry.Entry.TheVariants as entries
use Rattle.script_reader.specs.declared.head.Act.{Act}
use Rattle.script_reader.specs.declared.head.Act.TheVariants as acts
use Rattle.script_reader.specs.declared.head.LineHead.{LineHead}
use Rattle.script_reader.specs.declared.head.LineHead.TheVariants as heads
use Rattle.script_reader.specs.Heads.{act_with, line_with}
use Rattle.script_reader.specs.Grammar.{IsLine, IsSkipped}
use Rattle.script_reader.specs.Lawful.{IsLawfulLine, IsLawfulFeedback}
use Rattle.pump_audit.specs.declared.entry.Note.{Note}
use Rattle.pump_audit.specs.declared.entry.Note.TheVariants as notes
use Rattle.pump_audit.specs.Entries.{line_in, IsPlainIn, IsInRange, note_text, IsEntry}
use Rattle.pump_audit.specs.Noting.{IsComing, IsScript, IsSmall}

-- ---- frames ----

-- bytes, cut behind one of them
cut_behind : (bytes : List ℕ) (i : ℕ) → i < length bytes → (take i bytes ++ get_or bytes i 0 ∷ []) ++ drop (i + 1) bytes ≡ bytes
cut_behind bytes i low =
    let next : suc i ≡ i + 1 = omega arith in
    let d : drop i bytes ≡ get_or bytes i 0 ∷ drop (suc i) bytes = drop-cons bytes i 0 low in
    append_assoc (take i bytes) (get_or bytes i 0 ∷ []) (drop (i + 1) bytes)
    ∙ ap (λ k. take i bytes ++ get_or bytes i 0 ∷ drop k bytes) (sym next)
    ∙ ap (λ l. take i bytes ++ l) (sym d)
    ∙ take-append-drop i bytes

-- a reader's answer within a frame
within : (now next : Reading) (held : List ℕ) (byte : ℕ) (fed : Fed) → now ≡ Within held → Feeds now byte fed next → Feeds (Within held) byte fed next
within now next held byte fed e f = subst (λ (r : Reading). Feeds r byte fed next) e f

module _ (bytes : List ℕ) (i : ℕ) (low : i < length bytes) (now next : Reading) (begun : now ≡ Within (take i bytes)) where
  -- a frame that ends before the bytes do
  pub ends_before : (g : Frame) → Feeds now (get_or bytes i 0) (Whole g) next → i + 1 < length bytes → (f : Frame) → IsLawful f → spelling f ≡ bytes → None ≡ Some f
  ends_before g fed more f lawful e =
      let w = within now next (take i bytes) (get_or bytes i 0) (Whole g) begun fed in
      let whole = ap (λ l. l ++ drop (i + 1) bytes) w.1 ∙ cut_behind bytes i low ∙ sym e ∙ sym (append-nil (spelling f)) in
      let none = ap length (free g f (drop (i + 1) bytes) [] w.0 lawful whole).1 in
      absurd (omega (arith, none, more, length-drop (i + 1) bytes))

  -- .. or with them
  pub ends_with : (g : Frame) → Feeds now (get_or bytes i 0) (Whole g) next → length bytes ≤ i + 1 → IsLawful g × (spelling g ≡ bytes)
  ends_with g fed last =
      let w = within now next (take i bytes) (get_or bytes i 0) (Whole g) begun fed in
      let none : drop (i + 1) bytes ≡ [] = drop_all bytes (i + 1) last in
      (w.0, w.1 ∙ sym (append-nil _) ∙ ap (λ l. (take i bytes ++ get_or bytes i 0 ∷ []) ++ l) (sym none) ∙ cut_behind bytes i low)
    where
      drop_all : (xs : List ℕ) (k : ℕ) → length xs ≤ k → drop k xs ≡ []
      drop_all xs k h = nothing (drop k xs) (omega (arith, h, length-drop k xs))
        where
          nothing : (ys : List ℕ) → length ys ≤ 0 → ys ≡ []
          nothing [] h = refl
          nothing (y ∷ ys) h = absurd (omega (arith, h))

  pub no_frame_begins : (at : ℕ) → Feeds now (get_or bytes i 0) (Bad at) next → (f : Frame) → IsLawful f → spelling f ≡ bytes → None ≡ Some f
  no_frame_begins at fed f lawful e =
      let w = within now next (take i bytes) (get_or bytes i 0) (Bad at) begun fed in
      absurd (w.0 (f, drop (i + 1) bytes, lawful, e ∙ sym (cut_behind bytes i low)))

pub one_whole : (bytes : List ℕ) (g f : Frame) → IsLawful g → spelling g ≡ bytes → IsLawful f → spelling f ≡ bytes → g ≡ f
one_whole bytes g f a e b d = same_frame g f a b (e ∙ sym d)

pub no_frame_ends : (bytes : List ℕ) (now : Reading) → now ≡ Within bytes → HasBegun now → (f : Frame) → IsLawful f → spelling f ≡ bytes → None ≡ Some f
no_frame_ends bytes now e begun f lawful s = absurd (apart bytes f lawful s (subst HasBegun e begun))

-- ---- what comes ----

-- one byte that begins no frame
not_a_frame : (f : Frame) → spelling f ≡ 0 ∷ [] → ⊥
unfolding spelling header_of
not_a_frame f e = absurd (cc)

items_of : Arriving → List ℕ
items_of (arriving.Raw bytes) = bytes.items
items_of arriving.Nothing = []
items_of (arriving.Hello low high) = []
items_of (arriving.Data number payload) = []

same_raw : (a b : List ℕ) → arriving.Raw (record { items = a }) ≡ arriving.Raw (record { items = b }) → a ≡ b
unfolding items_of
same_raw a b e = ap items_of e

pub only_bad : (bytes : List ℕ) → bytes ≡ 0 ∷ [] → (c : Coming) → IsComing c (arriving.Raw (record { items = bytes })) → Some coming.Bad ≡ Some c
only_bad bytes e coming.Nothing h = absurd (cc)
only_bad bytes e (coming.Frame f) h = absurd (not_a_frame f (sym (same_raw bytes (spelling f) h.0) ∙ e))
only_bad bytes e coming.Bad h = refl
only_bad bytes e coming.Gone h = absurd h

-- ---- lines ----

-- the look that the line of one tells, with this coming
abbrev look_with : Line → Coming → LookLine
look_with (lines.Told session moment word is_fault told' a) c = record { session = session; moment = moment; word = word; is_fault = is_fault; told = told'; coming = c }
look_with (lines.Gone session moment) c = record { session = session; moment = moment; word = 0; is_fault = false; told = told.Quiet; coming = c }
look_with _ c = record { session = 0; moment = 0; word = 0; is_fault = false; told = told.Quiet; coming = c }

abbrev comes_with : Line → Arriving
comes_with (lines.Told session moment word is_fault told' a) = a
comes_with _ = arriving.Nothing

module _ (session moment word : ℕ) (is_fault : Bool) (t : ToldFeedback) (a : Arriving) (o : Option Coming) (only : (c : Coming) → IsComing c a → o ≡ Some c) where
  abbrev line : Line
  line = lines.Told session moment word is_fault t a

  -- the look with this coming
  same_look : (l : LookLine) (c : Coming) → l.coming ≡ c → line ≡ line_in l c → look_with (line_in l c) c ≡ record l { coming = c } → look_with line c ≡ l
  same_look l c is e h = ap (λ k. look_with k c) e ∙ h ∙ ap (λ x. record l { coming = x }) (sym is)

  look_case : (l : LookLine) (c : Coming) → l.coming ≡ c → line ≡ line_in l c → IsPlainIn l c → option_map (λ x. entries.Look (look_with line x)) o ≡ Some (entries.Look l)
  look_case l coming.Nothing is e plain =
      ap (option_map (λ x. entries.Look (look_with line x))) (only coming.Nothing (ap comes_with e)) ∙ ap (λ x. Some (entries.Look x)) (same_look l coming.Nothing is e refl)
  look_case l (coming.Frame f) is e plain =
      ap (option_map (λ x. entries.Look (look_with line x))) (only (coming.Frame f) (ap comes_with e, plain)) ∙ ap (λ x. Some (entries.Look x)) (same_look l (coming.Frame f) is e refl)
  look_case l coming.Bad is e plain =
      ap (option_map (λ x. entries.Look (look_with line x))) (only coming.Bad (ap comes_with e)) ∙ ap (λ x. Some (entries.Look x)) (same_look l coming.Bad is e refl)
  look_case l coming.Gone is e plain = absurd (cc)

  pub only_told : (e : Entry) → IsScript e line → option_map (λ x. entries.Look (look_with line x)) o ≡ Some e
  only_told (entries.Opening row next is_held) h = absurd (let k = h.0 in cc)
  only_told (entries.Coarse s) h = absurd (cc)
  only_told (entries.Look l) h = look_case l l.coming refl h.0 h.1
  only_told (entries.Comment note) h = absurd h

-- ---- texts ----

pub is_entry : (e : Entry) (line : Line) (text : List ℕ) → IsScript e line → IsLine line text → IsEntry e text
is_entry (entries.Opening row next is_held) line text h k = (subst (λ l. IsLine l text) h.0 k, h.1)
is_entry (entries.Coarse s) line text h k = subst (λ l. IsLine l text) h k
is_entry (entries.Look l) line text h k = (subst (λ m. IsLine m text) h.0 k, h.1)
is_entry (entries.Comment note) line text h k = absurd h

pub found_entry : (o : Option Entry) (line : Line) (text : List ℕ) → IfSome o (λ e. IsScript e line) → IsLine line text → IfSome o (λ e. IsEntry e text)
found_entry None line text h k = tt
found_entry (Some e) line text h k = is_entry e line text h k

-- a comment is a line that is skipped
pub is_skipped : (note : Note) (text : List ℕ) → text ≡ note_text note → length text ≤ 2400 → IsLine lines.Skip text
is_skipped note text e short = (short, inl (refl, subst IsSkipped (sym e) (marked note)))
  where
    marked : (note : Note) → IsSkipped (note_text note)
    marked (notes.Low session moment reply) = refl
    marked (notes.Time micros) = refl
    marked (notes.Took count) = refl
    marked (notes.End accepted removed) = refl

module _ (line : Line) (text : List ℕ) (o : Option Entry) (one : (l : Line) → IsLine l text → line ≡ l) where
  -- a line that is not skipped
  pub only_script : (line ≡ lines.Skip → ⊥) → ((e : Entry) → IsScript e line → o ≡ Some e) → (e : Entry) → IsEntry e text → o ≡ Some e
  only_script other only (entries.Opening row next is_held) h = only (entries.Opening row next is_held) (one _ h.0, h.1)
  only_script other only (entries.Coarse s) h = only (entries.Coarse s) (one _ h)
  only_script other only (entries.Look l) h = only (entries.Look l) (one _ h.0, h.1)
  only_script other only (entries.Comment note) h = absurd (other (one lines.Skip (is_skipped note text h.1 h.2)))

-- .. and one that is
look_line : (l : LookLine) (c : Coming) → lines.Skip ≡ line_in l c → ⊥
look_line l coming.Nothing e = absurd (cc)
look_line l (coming.Frame f) e = absurd (cc)
look_line l coming.Bad e = absurd (cc)
look_line l coming.Gone e = absurd (cc)

pub only_comment : (text : List ℕ) (o : Option Note) → ((l : Line) → IsLine l text → lines.Skip ≡ l) → ((n : Note) → IsInRange n → text ≡ note_text n → o ≡ Some n) → (e : Entry) → IsEntry e text → option_map entries.Comment o ≡ Some e
only_comment text o one only (entries.Opening row next is_held) h = absurd (let k = one _ h.0 in cc)
only_comment text o one only (entries.Coarse s) h = absurd (let k = one _ h in cc)
only_comment text o one only (entries.Look l) h = absurd (look_line l l.coming (one _ h.0))
only_comment text o one only (entries.Comment note) h = ap (option_map entries.Comment) (only note h.0 h.1)

-- ---- ranges ----

small_look : (l : LookLine) (c : Coming) → IsLawfulLine (line_in l c) → IsPlainIn l c → l.coming ≡ c → (l.moment ≤ 2 ^ 62) × IsLawfulFeedback l.told
small_look l coming.Nothing h p e = (h.0, h.1)
small_look l (coming.Frame f) h p e = (h.0, h.1)
small_look l coming.Bad h p e = (h.0, h.1)
small_look l coming.Gone h p e = (h, subst IsLawfulFeedback (sym p.2) tt)

is_small : (e : Entry) (line : Line) → IsScript e line → IsLawfulLine line → IsSmall e
is_small (entries.Opening row next is_held) line h k = subst IsLawfulLine h.0 k
is_small (entries.Coarse s) line h k = tt
is_small (entries.Look l) line h k = small_look l l.coming (subst IsLawfulLine h.0 k) h.1 refl
is_small (entries.Comment note) line h k = absurd h

pub small_entry : (o : Option Entry) (line : Line) → IfSome o (λ e. IsScript e line) → IsLawfulLine line → IfSome o IsSmall
small_entry None line h k = tt
small_entry (Some e) line h k = is_small e line h k

-- a text that is no line of a script is no line of a record
pub no_entry : (text : List ℕ) → ((l : Line) → IsLine l text → ⊥) → (e : Entry) → IsEntry e text → ⊥
no_entry text none (entries.Opening row next is_held) h = none _ h.0
no_entry text none (entries.Coarse s) h = none _ h
no_entry text none (entries.Look l) h = none _ h.0
no_entry text none (entries.Comment note) h = none lines.Skip (is_skipped note text h.1 h.2)

timed : (bytes : List ℕ) (session moment : ℕ) (act : Act) → act_with bytes session moment act ≡ lines.Skip → ⊥
timed bytes session moment (acts.Look word arrival) e = cc
timed bytes session moment (acts.Told word fault feedback arrival) e = cc
timed bytes session moment (acts.Step word) e = cc
timed bytes session moment acts.Gone e = cc
timed bytes session moment acts.High e = cc
timed bytes session moment (acts.Return back) e = cc
timed bytes session moment (acts.Done time) e = cc
timed bytes session moment acts.Restart e = cc
timed bytes session moment acts.ReceiverRestart e = cc

pub skip_head : (bytes : List ℕ) (head : LineHead) → line_with bytes head ≡ lines.Skip → head ≡ heads.Skip
skip_head bytes heads.Skip e = refl
skip_head bytes (heads.Session row) e = absurd (cc)
skip_head bytes (heads.LowSession row next held) e = absurd (cc)
skip_head bytes (heads.Coarse session) e = absurd (cc)
skip_head bytes (heads.Carry session back) e = absurd (cc)
skip_head bytes (heads.At session moment act) e = absurd (timed bytes session moment act e)
