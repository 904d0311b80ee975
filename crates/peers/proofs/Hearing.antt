-- Looks, one after another.
use Rattle.std.proofs.Common.{◌≡◌, ℕ, ◌+◌, ◌≤◌, List, [], ◌∷◌, ◌++◌, length, refl, sym, ap, ◌∙◌, subst, append_assoc, append-nil, arith, length-append, inl, inr, ◌⊎◌}
use Rattle.pump_frame.specs.declared.frame.Frame.{Frame}
use Rattle.pump_frame.specs.declared.reader.Fed.{Fed}
use Rattle.pump_frame.specs.declared.reader.Fed.TheVariants.{More, Whole, Bad}
use Rattle.pump_frame.specs.Spellings.{spelling, IsPartial}
use Rattle.pump_frame.specs.Readings.{Reading, Within, Stopped}
use Rattle.pump_frame.specs.Streams.{Feeds, IsStream}
use Rattle.pump_frame.specs.Counts.{Rose}
use Rattle.pump_frame.proofs.Streams.{nothing_partial, reads_both, reads_stream, stream_reads}
use Rattle.pump_link.specs.Tells.{Draws}
use Rattle.pump_link.specs.declared.link.Looked.{Looked}
use Rattle.pump_link.specs.declared.link.Looked.TheVariants.{Byte, NotYet, Ended, Failed}
use Rattle.pump_link.proofs.Grown.{Draws-nil, Draws-then}
use Rattle.peers.specs.Looks.{IsBad, bytes_in, AreCalm, Hears, HearsJust, EndsAt, IsOver}

pub bytes_append : (xs ys : List Looked) → bytes_in (xs ++ ys) ≡ bytes_in xs ++ bytes_in ys
bytes_append [] ys = refl
bytes_append (Byte b ∷ xs) ys = ap (λ (t : List ℕ). b ∷ t) (bytes_append xs ys)
bytes_append (NotYet ∷ xs) ys = bytes_append xs ys
bytes_append (Ended ∷ xs) ys = bytes_append xs ys
bytes_append (Failed ∷ xs) ys = bytes_append xs ys

pub calm_append : (xs ys : List Looked) → AreCalm xs → AreCalm ys → AreCalm (xs ++ ys)
calm_append [] ys a b = b
calm_append (Byte x ∷ xs) ys a b = calm_append xs ys a b
calm_append (NotYet ∷ xs) ys a b = calm_append xs ys a b
calm_append (Ended ∷ xs) ys a b = absurd a
calm_append (Failed ∷ xs) ys a b = absurd a

-- ---- the looks of one frame ----

-- the looks since a frame's end, while no frame is whole
pub record Reads (now : Reading) (p q : List Looked → Type 0) (most left : ℕ) : Type 0 where
  pub looks : List Looked
  pub count : most ≡ left + length looks
  pub calm : AreCalm looks
  pub now_held : now ≡ Within (bytes_in looks)
  pub part : IsPartial (bytes_in looks)
  pub gave : Draws p q looks

pub none_read : (now : Reading) (p : List Looked → Type 0) (most : ℕ) → now ≡ Within [] → Reads now p p most most
none_read now p most is = record { looks = []; count = omega arith; calm = tt; now_held = is; part = nothing_partial; gave = Draws-nil p }

module _ (now : Reading) (p q r : List Looked → Type 0) (most left : ℕ) (was : Reads now p q most left) where
  pub more : (x : Looked) → Draws q r (x ∷ []) → Draws p r (was.looks ++ x ∷ [])
  more x g = Draws-then p q r _ _ was.gave g

  pub longer : (x : Looked) (now_left : ℕ) → left ≡ now_left + 1 → most ≡ now_left + length (was.looks ++ x ∷ [])
  longer x now_left is = omega (arith, was.count, is, length-append was.looks (x ∷ []))

  with_byte : (b : ℕ) → bytes_in (was.looks ++ Byte b ∷ []) ≡ bytes_in was.looks ++ b ∷ []
  with_byte b = bytes_append was.looks (Byte b ∷ [])

  without : bytes_in (was.looks ++ NotYet ∷ []) ≡ bytes_in was.looks
  without = bytes_append was.looks (NotYet ∷ []) ∙ append-nil (bytes_in was.looks)

  fed : (b : ℕ) (answer : Fed) (next : Reading) → Feeds now b answer next → Feeds (Within (bytes_in was.looks)) b answer next
  fed b answer next f = subst (λ (w : Reading). Feeds w b answer next) was.now_held f

  so_far : Hears was.looks []
  so_far = record { calm = was.calm; rest = bytes_in was.looks; stream = (tt, was.part, refl) }

  pub read_byte : (b now_left : ℕ) (next : Reading) → left ≡ now_left + 1 → Feeds now b More next → Draws q r (Byte b ∷ []) → Reads next p r most now_left
  read_byte b now_left next is f g =
      let h = fed b More next f in
      record {
        looks = was.looks ++ Byte b ∷ [];
        count = longer (Byte b) now_left is;
        calm = calm_append was.looks (Byte b ∷ []) was.calm tt;
        now_held = h.1 ∙ ap Within (sym (with_byte b));
        part = subst IsPartial (sym (with_byte b)) h.0;
        gave = more (Byte b) g;
      }

  pub read_nothing : (now_left : ℕ) → left ≡ now_left + 1 → Draws q r (NotYet ∷ []) → Reads now p r most now_left
  read_nothing now_left is g = record {
    looks = was.looks ++ NotYet ∷ [];
    count = longer NotYet now_left is;
    calm = calm_append was.looks (NotYet ∷ []) was.calm tt;
    now_held = was.now_held ∙ ap Within (sym without);
    part = subst IsPartial (sym without) was.part;
    gave = more NotYet g;
  }

  pub heard : (b : ℕ) (f : Frame) (next : Reading) → Feeds now b (Whole f) next → HearsJust (was.looks ++ Byte b ∷ []) (f ∷ [])
  heard b f next step =
      let h = fed b (Whole f) next step in
      record {
        calm = calm_append was.looks (Byte b ∷ []) was.calm tt;
        stream = ((h.0, tt), nothing_partial, with_byte b ∙ sym h.1 ∙ sym (append-nil (spelling f)) ∙ sym (append-nil (spelling f ++ [])));
        prompt = inr (was.looks, b, refl);
      }

  pub bad : (b at : ℕ) (next : Reading) (before after : ℕ) → Feeds now b (Bad at) next → IsOver (was.looks ++ Byte b ∷ []) [] before after
  bad b at next before after step =
      let h = fed b (Bad at) next step in
      inl (b, at, (was.looks, refl, so_far), (tt, bytes_in was.looks, b, [], was.part, h.0, h.1, with_byte b))

  pub ended : (before after : ℕ) → IsOver (was.looks ++ Ended ∷ []) [] before after
  ended before after = inr (inl (was.looks, refl, so_far))

  pub failed : (before after : ℕ) → Rose before after → IsOver (was.looks ++ Failed ∷ []) [] before after
  failed before after rose = inr (inr ((was.looks, refl, so_far), rose))

  pub used : Hears was.looks []
  used = so_far

-- ---- one wait after another ----

streams_join : (xs ys : List ℕ) (fs gs : List Frame) (s : Reading) → IsStream xs fs (Within []) → IsStream ys gs s → IsStream (xs ++ ys) (fs ++ gs) s
streams_join xs ys fs gs s first second =
    reads_stream (xs ++ ys) [] (fs ++ gs) s nothing_partial (reads_both xs ys (Within []) (Within []) s fs gs (stream_reads xs fs (Within []) first) (stream_reads ys gs s second))

both_heard : (xs ys : List Looked) (fs gs : List Frame) (s : Reading) → HearsJust xs fs → IsStream (bytes_in ys) gs s → IsStream (bytes_in (xs ++ ys)) (fs ++ gs) s
both_heard xs ys fs gs s h stream =
    let P : List ℕ → Type 0 = λ bytes. IsStream bytes (fs ++ gs) s in
    subst P (sym (bytes_append xs ys)) (streams_join (bytes_in xs) (bytes_in ys) fs gs s h.stream stream)

pub hears_none : HearsJust [] []
hears_none = record { calm = tt; stream = (tt, nothing_partial, refl); prompt = inl refl }

prompt_join : (xs ys : List Looked) → (xs ≡ []) ⊎ ((prefix : List Looked) × (byte : ℕ) × (xs ≡ prefix ++ Byte byte ∷ [])) → (ys ≡ []) ⊎ ((prefix : List Looked) × (byte : ℕ) × (ys ≡ prefix ++ Byte byte ∷ []))
    → (xs ++ ys ≡ []) ⊎ ((prefix : List Looked) × (byte : ℕ) × (xs ++ ys ≡ prefix ++ Byte byte ∷ []))
prompt_join xs ys (inl a) (inl b) = inl (ap (λ (l : List Looked). l ++ ys) a ∙ b)
prompt_join xs ys (inr (prefix, byte, a)) (inl b) = inr (prefix, byte, ap (λ (l : List Looked). xs ++ l) b ∙ append-nil xs ∙ a)
prompt_join xs ys a (inr (prefix, byte, b)) = inr (xs ++ prefix, byte, ap (λ (l : List Looked). xs ++ l) b ∙ sym (append_assoc xs prefix (Byte byte ∷ [])))

module _ (xs ys : List Looked) (fs gs : List Frame) (h : HearsJust xs fs) where
  pub just_join : HearsJust ys gs → HearsJust (xs ++ ys) (fs ++ gs)
  just_join k = record { calm = calm_append xs ys h.calm k.calm; stream = both_heard xs ys fs gs (Within []) h k.stream; prompt = prompt_join xs ys h.prompt k.prompt }

  pub hears_join : Hears ys gs → Hears (xs ++ ys) (fs ++ gs)
  hears_join k = record { calm = calm_append xs ys h.calm k.calm; rest = k.rest; stream = both_heard xs ys fs gs (Within k.rest) h k.stream }

pub ends_join : (xs ys : List Looked) (fs gs : List Frame) (last : Looked) → HearsJust xs fs → EndsAt ys gs last → EndsAt (xs ++ ys) (fs ++ gs) last
ends_join xs ys fs gs last h (prefix, e, k) = (xs ++ prefix, ap (λ (l : List Looked). xs ++ l) e ∙ sym (append_assoc xs prefix (last ∷ [])), hears_join xs prefix fs gs h k)

pub bad_join : (xs ys : List Looked) (fs gs : List Frame) → HearsJust xs fs → IsBad ys gs → IsBad (xs ++ ys) (fs ++ gs)
bad_join xs ys fs gs h (byte, at, ends, stream) = (byte, at, ends_join xs ys fs gs (Byte byte) h ends, both_heard xs ys fs gs (Stopped at) h stream)

pub over_join : (xs ys : List Looked) (fs gs : List Frame) (before now : ℕ) → HearsJust xs fs → IsOver ys gs before now → IsOver (xs ++ ys) (fs ++ gs) before now
over_join xs ys fs gs before now h (inl bad) = inl (bad_join xs ys fs gs h bad)
over_join xs ys fs gs before now h (inr (inl ends)) = inr (inl (ends_join xs ys fs gs Ended h ends))
over_join xs ys fs gs before now h (inr (inr (ends, rose))) = inr (inr (ends_join xs ys fs gs Failed h ends, rose))

-- a count that rose since a later moment rose since an earlier one
pub over_earlier : (looks : List Looked) (fs : List Frame) (a b now : ℕ) → a ≤ b → IsOver looks fs b now → IsOver looks fs a now
over_earlier looks fs a b now le (inl bad) = inl bad
over_earlier looks fs a b now le (inr (inl ended)) = inr (inl ended)
over_earlier looks fs a b now le (inr (inr (ends, rose))) = inr (inr (ends, omega (arith, le, rose)))

-- behind what was heard, whose last frame ended the looks so far
pub over_more : (xs ys : List Looked) (fs : List Frame) (a b now : ℕ) → a ≤ b → HearsJust xs fs → IsOver ys [] b now → IsOver (xs ++ ys) fs a now
over_more xs ys fs a b now le h over = over_earlier (xs ++ ys) fs a b now le (subst (λ (l : List Frame). IsOver (xs ++ ys) l b now) (append-nil fs) (over_join xs ys fs [] b now h over))

pub hears_more : (xs ys : List Looked) (fs : List Frame) → HearsJust xs fs → Hears ys [] → Hears (xs ++ ys) fs
hears_more xs ys fs h hears = subst (λ (l : List Frame). Hears (xs ++ ys) l) (append-nil fs) (hears_join xs ys fs [] h hears)
