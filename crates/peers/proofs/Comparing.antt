-- Two calls over one list of looks: what they heard is the same, up to where the first one stopped.
use Rattle.std.proofs.Common.{◌≡◌, ◌⊎◌, inl, inr, ℕ, ◌≤◌, List, [], ◌∷◌, ◌++◌, length, refl, sym, ap, ◌∙◌, subst, append_assoc, append-nil, arith, length-append}
use Rattle.pump_frame.specs.declared.frame.Frame.{Frame}
use Rattle.pump_frame.specs.Readings.{Reading, Within, Stopped}
use Rattle.pump_frame.specs.Streams.{IsStream, Reads}
use Rattle.pump_frame.proofs.Streams.{reads_parts, reads_one, stream_reads}
use Rattle.pump_link.specs.declared.link.Looked.{Looked}
use Rattle.pump_link.specs.declared.link.Looked.TheVariants.{Byte, NotYet, Ended, Failed}
use Rattle.peers.specs.Looks.{bytes_in, AreCalm, Hears, HearsJust, EndsAt, IsBad}
use Rattle.peers.proofs.Hearing.{bytes_append}

-- how a call ended: all looks were made, the link had ended, it showed bad bytes, a frame ended it, or it stopped between frames
pub data Tail : Type 0 where
  Used : Tail
  Ends : Tail
  Bad : Tail
  Last : (f : Frame) → Tail
  Stop : Tail

abbrev pub all_of : List Frame → Tail → List Frame
all_of fs (Last f) = fs ++ f ∷ []
all_of fs _ = fs

abbrev pub IsStop : Tail → Type 0
IsStop (Last f) = Unit {0}
IsStop Stop = Unit {0}
IsStop _ = ⊥

abbrev pub Heard : ℕ → List Looked → List Frame → Tail → Type 0
Heard most looks fs Used = Hears looks fs × (length looks ≡ most)
Heard most looks fs Ends = EndsAt looks fs Ended
Heard most looks fs Bad = IsBad looks fs
Heard most looks fs (Last f) = HearsJust looks (fs ++ f ∷ [])
Heard most looks fs Stop = HearsJust looks fs

-- ---- looks ----

-- of two prefixes of one list one is a prefix of the other
pub one_longer : {A : Type 0} (a b r s : List A) → a ++ r ≡ b ++ s → ((m : List A) × (b ≡ a ++ m)) ⊎ ((m : List A) × (a ≡ b ++ m))
one_longer [] b r s e = inl (b, refl)
one_longer (x ∷ a) [] r s e = inr (x ∷ a, refl)
one_longer {A = A} (x ∷ a) (y ∷ b) r s e =
    let here : x ≡ y = cc in
    let rest : a ++ r ≡ b ++ s = cc in
    elim (one_longer a b r s rest) [
      | inl (m, e') ↦ inl (m, ap (λ (l : List A). y ∷ l) e' ∙ ap (λ (z : A). z ∷ (a ++ m)) (sym here))
      | inr (m, e') ↦ inr (m, ap (λ (l : List A). x ∷ l) e' ∙ ap (λ (z : A). z ∷ (b ++ m)) here)
    ]

no_ended : (prefix m : List Looked) → AreCalm (prefix ++ Ended ∷ m) → ⊥
no_ended [] m c = c
no_ended (Byte b ∷ prefix) m c = no_ended prefix m c
no_ended (NotYet ∷ prefix) m c = no_ended prefix m c
no_ended (Ended ∷ prefix) m c = c
no_ended (Failed ∷ prefix) m c = c

-- the end is the last of looks that are calm but for the last
ended_last : (prefix other m : List Looked) (last : Looked) → AreCalm prefix → prefix ++ last ∷ [] ≡ other ++ Ended ∷ m → (last ≡ Ended) × (m ≡ []) × (prefix ≡ other)
ended_last [] [] m last c e = (cc, cc, refl)
ended_last [] (y ∷ []) m last c e = cc
ended_last [] (y ∷ (z ∷ other)) m last c e = cc
ended_last (x ∷ prefix) [] m last c e =
    let is : x ≡ Ended = cc in
    absurd (subst (λ (l : Looked). AreCalm (l ∷ prefix)) is c)
ended_last (Byte b ∷ prefix) (y ∷ other) m last c e =
    let r = ended_last prefix other m last c cc in
    (r.0, r.1, cc)
ended_last (NotYet ∷ prefix) (y ∷ other) m last c e =
    let r = ended_last prefix other m last c cc in
    (r.0, r.1, cc)
ended_last (Ended ∷ prefix) (y ∷ other) m last c e = absurd c
ended_last (Failed ∷ prefix) (y ∷ other) m last c e = absurd c

-- what stands before the last look has all of a shorter prefix
before_last : (prefix a m : List Looked) (last x : Looked) → prefix ++ last ∷ [] ≡ a ++ x ∷ m → (n : List Looked) × (prefix ≡ a ++ n)
before_last prefix [] m last x e = (prefix, refl)
before_last [] (y ∷ []) m last x e = cc
before_last [] (y ∷ (z ∷ a)) m last x e = cc
before_last (w ∷ prefix) (y ∷ a) m last x e =
    let here : w ≡ y = cc in
    let r = before_last prefix a m last x cc in
    (r.0, ap (λ (l : List Looked). w ∷ l) r.1 ∙ ap (λ (z : Looked). z ∷ (a ++ r.0)) here)

-- ---- frames ----

stopped_stays : (bytes : List ℕ) (at : ℕ) (fs : List Frame) (s : Reading) → Reads (Stopped at) bytes fs s → s ≡ Stopped at
stopped_stays [] at fs s (none, is) = is
stopped_stays (b ∷ bytes) at fs s (fed, mid, later, feeds, reads, e) =
    let same : mid ≡ Stopped at = feeds.1 in
    let P : Reading → Type 0 = λ r. Reads r bytes later s in
    stopped_stays bytes at later s (subst P same reads)

-- what longer looks gave begins with what shorter ones gave
pub record Longer (fs gs : List Frame) (s t : Reading) (more : List ℕ) : Type 0 where
  pub later : List Frame
  pub are : gs ≡ fs ++ later
  pub goes_on : Reads s more later t

pub longer : (a m : List Looked) (fs gs : List Frame) (s t : Reading) → IsStream (bytes_in a) fs s → IsStream (bytes_in (a ++ m)) gs t → Longer fs gs s t (bytes_in m)
longer a m fs gs s t first all =
    let P : List ℕ → Type 0 = λ bytes. Reads (Within []) bytes gs t in
    let parts = reads_parts (bytes_in a) (bytes_in m) (Within []) t gs (subst P (bytes_append a m) (stream_reads (bytes_in (a ++ m)) gs t all)) in
    let same = reads_one (bytes_in a) (Within []) parts.0 fs parts.1 s parts.3 (stream_reads (bytes_in a) fs s first) in
    let Q : Reading → Type 0 = λ r. Reads r (bytes_in m) parts.2 t in
    record { later = parts.2; are = parts.5 ∙ ap (λ (l : List Frame). l ++ parts.2) same.0; goes_on = subst Q same.1 parts.4 }

-- the reading that a tail has
ended_bytes : (prefix : List Looked) → bytes_in (prefix ++ Ended ∷ []) ≡ bytes_in prefix
ended_bytes prefix = bytes_append prefix (Ended ∷ []) ∙ append-nil (bytes_in prefix)

pub reading_of : (most : ℕ) (looks : List Looked) (fs : List Frame) (t : Tail) → Heard most looks fs t → (s : Reading) × IsStream (bytes_in looks) (all_of fs t) s
reading_of most looks fs Used h = (Within h.0.rest, h.0.stream)
reading_of most looks fs Ends (prefix, e, h) =
    let P : List ℕ → Type 0 = λ bytes. IsStream bytes fs (Within h.rest) in
    (Within h.rest, subst P (sym (ap bytes_in e ∙ ended_bytes prefix)) h.stream)
reading_of most looks fs Bad h = (Stopped h.1, h.3)
reading_of most looks fs (Last f) h = (Within [], h.stream)
reading_of most looks fs Stop h = (Within [], h.stream)

-- ---- two calls ----

pub data Compared (la lb : List Looked) (fs gs : List Frame) (t u : Tail) : Type 0 where
  AreSame : la ≡ lb → fs ≡ gs → t ≡ u → Compared la lb fs gs t u
  FirstStops : IsStop t → (later : List Frame) → all_of gs u ≡ all_of fs t ++ later → Compared la lb fs gs t u
  SecondStops : IsStop u → (later : List Frame) → all_of fs t ≡ all_of gs u ++ later → Compared la lb fs gs t u

turned : (la lb : List Looked) (fs gs : List Frame) (t u : Tail) → Compared lb la gs fs u t → Compared la lb fs gs t u
turned la lb fs gs t u (AreSame a b c) = AreSame (sym a) (sym b) (sym c)
turned la lb fs gs t u (FirstStops stops later e) = SecondStops stops later e
turned la lb fs gs t u (SecondStops stops later e) = FirstStops stops later e

none_more : {A : Type 0} (a b m : List A) → b ≡ a ++ m → length b ≤ length a → a ≡ b
none_more a b [] e le = sym (e ∙ append-nil a)
none_more a b (x ∷ m) e le = let l = ap length e in absurd (omega (arith, l, le, length-append a (x ∷ m)))

-- after bad bytes a reader stays stopped
stuck : (la m : List Looked) (fs gs : List Frame) (at : ℕ) (t : Reading) → IsStream (bytes_in la) fs (Stopped at) → IsStream (bytes_in (la ++ m)) gs t → t ≡ Stopped at
stuck la m fs gs at t first all = let l = longer la m fs gs (Stopped at) t first all in stopped_stays (bytes_in m) at l.later t l.goes_on

bad_first : (most : ℕ) (la lb m : List Looked) (fs gs : List Frame) (u : Tail) (at : ℕ) → lb ≡ la ++ m → IsStream (bytes_in la) fs (Stopped at) → Heard most lb gs u → Compared la lb fs gs Bad u
unfolding reading_of
bad_first most la lb m fs gs Used at e stream k =
    let P : List Looked → Type 0 = λ l. IsStream (bytes_in l) gs (Within k.0.rest) in
    let wrong : Within k.0.rest ≡ Stopped at = stuck la m fs gs at (Within k.0.rest) stream (subst P e k.0.stream) in cc
bad_first most la lb m fs gs Ends at e stream (prefix, is, k) =
    let r = reading_of most lb gs Ends (prefix, is, k) in
    let P : List Looked → Type 0 = λ l. IsStream (bytes_in l) gs (Within k.rest) in
    let wrong : Within k.rest ≡ Stopped at = stuck la m fs gs at (Within k.rest) stream (subst P e r.1) in cc
bad_first most la lb m fs gs (Last f) at e stream k =
    let P : List Looked → Type 0 = λ l. IsStream (bytes_in l) (gs ++ f ∷ []) (Within []) in
    let wrong : Within [] ≡ Stopped at = stuck la m fs (gs ++ f ∷ []) at (Within []) stream (subst P e k.stream) in cc
bad_first most la lb m fs gs Stop at e stream k =
    let P : List Looked → Type 0 = λ l. IsStream (bytes_in l) gs (Within []) in
    let wrong : Within [] ≡ Stopped at = stuck la m fs gs at (Within []) stream (subst P e k.stream) in cc
bad_first most la lb [] fs gs Bad at e stream (byte, at', ends, stream') =
    let same : la ≡ lb = sym (e ∙ append-nil la) in
    let P : List Looked → Type 0 = λ l. IsStream (bytes_in l) fs (Stopped at) in
    AreSame same (let o = reads_one (bytes_in lb) (Within []) fs gs (Stopped at) (Stopped at') (stream_reads (bytes_in lb) fs (Stopped at) (subst P same stream)) (stream_reads (bytes_in lb) gs (Stopped at') stream') in o.0) refl
bad_first most la lb (x ∷ m) fs gs Bad at e stream (byte, at', (prefix, is, k), stream') =
    let r = before_last prefix la m (Byte byte) x (sym is ∙ e) in
    let P : List Looked → Type 0 = λ l. IsStream (bytes_in l) gs (Within k.rest) in
    let wrong : Within k.rest ≡ Stopped at = stuck la r.0 fs gs at (Within k.rest) stream (subst P r.1 k.stream) in cc

-- the first is no longer than the second
ordered : (most : ℕ) (la lb m : List Looked) (fs gs : List Frame) (t u : Tail) → lb ≡ la ++ m → length lb ≤ most → Heard most la fs t → Heard most lb gs u → Compared la lb fs gs t u
ordered most la lb m fs gs (Last f) u e le h k =
    let r = reading_of most lb gs u k in
    let P : List Looked → Type 0 = λ l. IsStream (bytes_in l) (all_of gs u) r.0 in
    let l = longer la m (fs ++ f ∷ []) (all_of gs u) (Within []) r.0 h.stream (subst P e r.1) in
    FirstStops tt l.later l.are
ordered most la lb m fs gs Stop u e le h k =
    let r = reading_of most lb gs u k in
    let P : List Looked → Type 0 = λ l. IsStream (bytes_in l) (all_of gs u) r.0 in
    let l = longer la m fs (all_of gs u) (Within []) r.0 h.stream (subst P e r.1) in
    FirstStops tt l.later l.are
ordered most la lb m fs gs Used Used e le h k =
    let same = none_more la lb m e (omega (arith, le, h.1)) in
    let P : List Looked → Type 0 = λ l. IsStream (bytes_in l) fs (Within h.0.rest) in
    AreSame same (let o = reads_one (bytes_in lb) (Within []) fs gs (Within h.0.rest) (Within k.0.rest) (stream_reads (bytes_in lb) fs (Within h.0.rest) (subst P same h.0.stream)) (stream_reads (bytes_in lb) gs (Within k.0.rest) k.0.stream) in o.0) refl
ordered most la lb m fs gs Used Ends e le h (prefix, is, k) =
    let same = none_more la lb m e (omega (arith, le, h.1)) in
    absurd (no_ended prefix [] (subst AreCalm (same ∙ is) h.0.calm))
ordered most la lb m fs gs Used Bad e le h k =
    let same = none_more la lb m e (omega (arith, le, h.1)) in
    let P : List Looked → Type 0 = λ l. IsStream (bytes_in l) fs (Within h.0.rest) in
    let o = reads_one (bytes_in lb) (Within []) fs gs (Within h.0.rest) (Stopped k.1) (stream_reads (bytes_in lb) fs (Within h.0.rest) (subst P same h.0.stream)) (stream_reads (bytes_in lb) gs (Stopped k.1) k.3) in
    let wrong : Within h.0.rest ≡ Stopped k.1 = o.1 in cc
ordered most la lb m fs gs Used (Last f) e le h k =
    let same = none_more la lb m e (omega (arith, le, h.1)) in
    let P : List Looked → Type 0 = λ l. IsStream (bytes_in l) fs (Within h.0.rest) in
    let o = reads_one (bytes_in lb) (Within []) fs (gs ++ f ∷ []) (Within h.0.rest) (Within []) (stream_reads (bytes_in lb) fs (Within h.0.rest) (subst P same h.0.stream)) (stream_reads (bytes_in lb) (gs ++ f ∷ []) (Within []) k.stream) in
    SecondStops tt [] (o.0 ∙ sym (append-nil (gs ++ f ∷ [])))
ordered most la lb m fs gs Used Stop e le h k =
    let same = none_more la lb m e (omega (arith, le, h.1)) in
    let P : List Looked → Type 0 = λ l. IsStream (bytes_in l) fs (Within h.0.rest) in
    let o = reads_one (bytes_in lb) (Within []) fs gs (Within h.0.rest) (Within []) (stream_reads (bytes_in lb) fs (Within h.0.rest) (subst P same h.0.stream)) (stream_reads (bytes_in lb) gs (Within []) k.stream) in
    SecondStops tt [] (o.0 ∙ sym (append-nil gs))
ordered most la lb m fs gs Ends Used e le (prefix, is, h) k =
    let at : lb ≡ prefix ++ Ended ∷ m = e ∙ ap (λ (l : List Looked). l ++ m) is ∙ append_assoc prefix (Ended ∷ []) m in
    absurd (no_ended prefix m (subst AreCalm at k.0.calm))
ordered most la lb m fs gs Ends (Last f) e le (prefix, is, h) k =
    let at : lb ≡ prefix ++ Ended ∷ m = e ∙ ap (λ (l : List Looked). l ++ m) is ∙ append_assoc prefix (Ended ∷ []) m in
    absurd (no_ended prefix m (subst AreCalm at k.calm))
ordered most la lb m fs gs Ends Stop e le (prefix, is, h) k =
    let at : lb ≡ prefix ++ Ended ∷ m = e ∙ ap (λ (l : List Looked). l ++ m) is ∙ append_assoc prefix (Ended ∷ []) m in
    absurd (no_ended prefix m (subst AreCalm at k.calm))
ordered most la lb m fs gs Ends Bad e le (prefix, is, h) (byte, at, (other, is', k), stream) =
    let where_it_is : lb ≡ prefix ++ Ended ∷ m = e ∙ ap (λ (l : List Looked). l ++ m) is ∙ append_assoc prefix (Ended ∷ []) m in
    let r = ended_last other prefix m (Byte byte) k.calm (sym is' ∙ where_it_is) in
    let wrong : Byte byte ≡ Ended = r.0 in cc
ordered most la lb m fs gs Ends Ends e le (prefix, is, h) (other, is', k) =
    let where_it_is : lb ≡ prefix ++ Ended ∷ m = e ∙ ap (λ (l : List Looked). l ++ m) is ∙ append_assoc prefix (Ended ∷ []) m in
    let r = ended_last other prefix m Ended k.calm (sym is' ∙ where_it_is) in
    let same : other ≡ prefix = r.2 in
    let P : List Looked → Type 0 = λ l. IsStream (bytes_in l) gs (Within k.rest) in
    AreSame (is ∙ ap (λ (l : List Looked). l ++ Ended ∷ []) (sym same) ∙ sym is')
    (let o = reads_one (bytes_in prefix) (Within []) fs gs (Within h.rest) (Within k.rest) (stream_reads (bytes_in prefix) fs (Within h.rest) h.stream) (stream_reads (bytes_in prefix) gs (Within k.rest) (subst P same k.stream)) in o.0) refl
ordered most la lb m fs gs Bad u e le (byte, at, ends, stream) k = bad_first most la lb m fs gs u at e stream k

pub compared : (most : ℕ) (la lb r s : List Looked) (fs gs : List Frame) (t u : Tail) → la ++ r ≡ lb ++ s → length la ≤ most → length lb ≤ most → Heard most la fs t → Heard most lb gs u → Compared la lb fs gs t u
compared most la lb r s fs gs t u e low high h k =
    elim (one_longer la lb r s e) [
      | inl (m, is) ↦ ordered most la lb m fs gs t u is high h k
      | inr (m, is) ↦ turned la lb fs gs t u (ordered most lb la m gs fs u t is low k h)
    ]
