-- A reader's answers to a list of bytes are the stream's frames.
use Rattle.std.proofs.Common.{◌≡◌, ℕ, ◌<◌, ◌⊎◌, List, [], ◌∷◌, ◌++◌, length, drop, Option, None, Some, refl, sym, ap, ◌∙◌, subst, arith, inl, inr}
use Rattle.std.proofs.lemmas.List.{append_assoc, append-nil}
use Rattle.std.specs.List.{AllByRecursion, concat}
use Rattle.pump_frame.specs.Frames.{IsLawful}
use Rattle.pump_frame.specs.Spellings.{spelling, header_of, BeginsSpelling, IsPartial}
use Rattle.pump_frame.specs.Readings.{Reading, Within, Stopped}
use Rattle.pump_frame.specs.Streams.{spellings, IsStream, Feeds, frames_of, Reads, ReadsPieces}
use Rattle.pump_frame.specs.Places.{run, AreBytes, IsFrameOf, IsWhole}
use Rattle.pump_frame.specs.declared.frame.Frame.{Frame}
use Rattle.pump_frame.specs.declared.place.Place.{Place}
use Rattle.byteorder.specs.Endian.{big_number}
use Rattle.pump_frame.specs.declared.place.Place.TheVariants.{FirstMark, SecondMark, Version, KindByte, Session, NumberTop, NumberSecond, NumberRest, LengthHigh, LengthLow, PayloadBytes, RefuseCode, LowName, HighName, End}
use Rattle.pump_frame.specs.declared.reader.Fed.{Fed}
use Rattle.pump_frame.specs.declared.reader.Fed.TheVariants.{More, Whole, Bad}
use Rattle.pump_frame.proofs.Reading.{read_frame}
use Rattle.pump_frame.proofs.Exact.{apart, same_frame, partial_from, push_bytes, begins_nothing}

pub nothing_partial : IsPartial []
nothing_partial = partial_from [] FirstMark (λ i. omega arith) refl (λ e. cc)

pub begins_partial : (w : List ℕ) → IsPartial w → BeginsSpelling w
begins_partial w (f, b, rest, lawful, e) = (f, b ∷ rest, lawful, e)

pub begins_whole : (w : List ℕ) (f : Frame) → IsLawful f → spelling f ≡ w → BeginsSpelling w
begins_whole w f lawful e = (f, [], lawful, e ∙ sym (append-nil w))

-- one answer to a byte

pub feeds_one : (r : Reading) (byte : ℕ) (fed fed' : Fed) (s s' : Reading) → Feeds r byte fed s → Feeds r byte fed' s' → (fed ≡ fed') × (s ≡ s')
feeds_one (Stopped at) byte fed fed' s s' a b = (a.0 ∙ sym b.0, a.1 ∙ sym b.1)
feeds_one (Within held) byte More More s s' a b = (refl, a.1 ∙ sym b.1)
feeds_one (Within held) byte More (Whole f) s s' a b = absurd (apart (held ++ byte ∷ []) f b.0 b.1 a.0)
feeds_one (Within held) byte More (Bad at) s s' a b = absurd (b.0 (begins_partial (held ++ byte ∷ []) a.0))
feeds_one (Within held) byte (Whole f) More s s' a b = absurd (apart (held ++ byte ∷ []) f a.0 a.1 b.0)
feeds_one (Within held) byte (Whole f) (Whole g) s s' a b = (ap Whole (same_frame f g a.0 b.0 (a.1 ∙ sym b.1)), a.2 ∙ sym b.2)
feeds_one (Within held) byte (Whole f) (Bad at) s s' a b = absurd (b.0 (begins_whole (held ++ byte ∷ []) f a.0 a.1))
feeds_one (Within held) byte (Bad at) More s s' a b = absurd (a.0 (begins_partial (held ++ byte ∷ []) b.0))
feeds_one (Within held) byte (Bad at) (Whole f) s s' a b = absurd (a.0 (begins_whole (held ++ byte ∷ []) f b.0 b.1))
feeds_one (Within held) byte (Bad at) (Bad at') s s' a b =
    let place : at ≡ at' = a.1 ∙ sym b.1 in
    (ap Bad place, a.2 ∙ ap Stopped place ∙ sym b.2)

pub reads_one : (bytes : List ℕ) (r : Reading) (fs gs : List Frame) (s s' : Reading) → Reads r bytes fs s → Reads r bytes gs s' → (fs ≡ gs) × (s ≡ s')
reads_one [] r fs gs s s' a b = (a.0 ∙ sym b.0, a.1 ∙ sym b.1)
reads_one (byte ∷ bytes) r fs gs s s' (fed, mid, later, feeds, reads, e) (fed', mid', later', feeds', reads', e') =
    let same = feeds_one r byte fed fed' mid mid' feeds feeds' in
    let P : Reading → Type 0 = λ m. Reads m bytes later s in
    let rest = reads_one bytes mid' later later' s s' (subst P same.1 reads) reads' in
    (e ∙ ap (λ (x : Fed). frames_of x ++ later) same.0 ∙ ap (λ (x : List Frame). frames_of fed' ++ x) rest.0 ∙ sym e', rest.1)

-- one list behind the other

pub reads_both : (xs ys : List ℕ) (r m s : Reading) (fs gs : List Frame) → Reads r xs fs m → Reads m ys gs s → Reads r (xs ++ ys) (fs ++ gs) s
reads_both [] ys r m s fs gs a b =
    let P : Reading → Type 0 = λ x. Reads x ys (fs ++ gs) s in
    let Q : List Frame → Type 0 = λ x. Reads m ys (x ++ gs) s in
    subst P a.1 (subst Q (sym a.0) b)
reads_both (x ∷ xs) ys r m s fs gs (fed, mid, later, feeds, reads, e) b =
    (fed, mid, later ++ gs, feeds, reads_both xs ys mid m s later gs reads b, ap (λ (z : List Frame). z ++ gs) e ∙ append_assoc (frames_of fed) later gs)

abbrev pub Parts : Reading → List ℕ → List ℕ → List Frame → Reading → Type 0
Parts r xs ys fs s = (gs : List Frame) × (m : Reading) × (hs : List Frame) × Reads r xs gs m × Reads m ys hs s × (fs ≡ gs ++ hs)

pub reads_parts : (xs ys : List ℕ) (r s : Reading) (fs : List Frame) → Reads r (xs ++ ys) fs s → Parts r xs ys fs s
reads_parts [] ys r s fs a = ([], r, fs, (refl, refl), a, refl)
reads_parts (x ∷ xs) ys r s fs (fed, mid, later, feeds, reads, e) =
    let (gs, m, hs, first, second, split) = reads_parts xs ys mid s later reads in
    (frames_of fed ++ gs, m, hs, (fed, mid, gs, feeds, first, refl), second, e ∙ ap (λ (z : List Frame). frames_of fed ++ z) split ∙ sym (append_assoc (frames_of fed) gs hs))

pub pieces_join : (pieces : List (List ℕ)) (r s : Reading) (fs : List Frame) → ReadsPieces r pieces fs s → Reads r (concat pieces) fs s
pieces_join [] r s fs a = a
pieces_join (p ∷ pieces) r s fs (first, mid, later, reads, rest, e) =
    let P : List Frame → Type 0 = λ x. Reads r (p ++ concat pieces) x s in
    subst P (sym e) (reads_both p (concat pieces) r mid s first later reads (pieces_join pieces mid s later rest))

pub pieces_part : (pieces : List (List ℕ)) (r s : Reading) (fs : List Frame) → Reads r (concat pieces) fs s → ReadsPieces r pieces fs s
pieces_part [] r s fs a = a
pieces_part (p ∷ pieces) r s fs a =
    let (gs, m, hs, first, second, e) = reads_parts p (concat pieces) r s fs a in
    (gs, m, hs, first, pieces_part pieces m s hs second, e)

-- what was read is a stream

stopped : (bytes : List ℕ) (at : ℕ) (fs : List Frame) (s : Reading) → Reads (Stopped at) bytes fs s → (fs ≡ []) × (s ≡ Stopped at)
stopped [] at fs s a = a
stopped (b ∷ bytes) at fs s (fed, mid, later, feeds, reads, e) =
    let P : Reading → Type 0 = λ m. Reads m bytes later s in
    let rest = stopped bytes at later s (subst P feeds.1 reads) in
    (e ∙ ap (λ (x : Fed). frames_of x ++ later) feeds.0 ∙ rest.0, rest.1)

stream_cons : (f : Frame) (bytes : List ℕ) (fs : List Frame) (s : Reading) → IsLawful f → IsStream bytes fs s → IsStream (spelling f ++ bytes) (f ∷ fs) s
stream_cons f bytes fs (Within rest) lawful (all, partial, e) =
    ((lawful, all), partial, ap (λ (x : List ℕ). spelling f ++ x) e ∙ sym (append_assoc (spelling f) (spellings fs) rest))
stream_cons f bytes fs (Stopped at) lawful (all, prefix, byte, more, partial, none, size, e) =
    ((lawful, all), prefix, byte, more, partial, none, size, ap (λ (x : List ℕ). spelling f ++ x) e ∙ sym (append_assoc (spelling f) (spellings fs) (prefix ++ byte ∷ more)))

along : (w v : List ℕ) (fs gs : List Frame) (s : Reading) → w ≡ v → fs ≡ gs → IsStream w fs s → IsStream v gs s
along w v fs gs s e d h =
    let P : List ℕ → Type 0 = λ x. IsStream x gs s in
    let Q : List Frame → Type 0 = λ x. IsStream w x s in
    subst P e (subst Q d h)

pub reads_stream : (bytes held : List ℕ) (fs : List Frame) (s : Reading) → IsPartial held → Reads (Within held) bytes fs s → IsStream (held ++ bytes) fs s
reads_stream [] held fs s partial (none, same) =
    let P : Reading → Type 0 = λ x. IsStream (held ++ []) [] x in
    along (held ++ []) (held ++ []) [] fs s refl (sym none) (subst P (sym same) (tt, partial, append-nil held))
reads_stream (b ∷ bytes) held fs s partial (More, mid, later, feeds, reads, e) =
    let P : Reading → Type 0 = λ m. Reads m bytes later s in
    along ((held ++ b ∷ []) ++ bytes) (held ++ b ∷ bytes) later fs s (append_assoc held (b ∷ []) bytes) (sym e)
    (reads_stream bytes (held ++ b ∷ []) later s feeds.0 (subst P feeds.1 reads))
reads_stream (b ∷ bytes) held fs s partial (Whole f, mid, later, feeds, reads, e) =
    let P : Reading → Type 0 = λ m. Reads m bytes later s in
    let rest = reads_stream bytes [] later s nothing_partial (subst P feeds.2 reads) in
    along (spelling f ++ bytes) (held ++ b ∷ bytes) (f ∷ later) fs s (ap (λ (x : List ℕ). x ++ bytes) feeds.1 ∙ append_assoc held (b ∷ []) bytes) (sym e)
    (stream_cons f bytes later s feeds.0 rest)
reads_stream (b ∷ bytes) held fs s partial (Bad at, mid, later, feeds, reads, e) =
    let P : Reading → Type 0 = λ m. Reads m bytes later s in
    let rest = stopped bytes at later s (subst P feeds.2 reads) in
    let Q : Reading → Type 0 = λ x. IsStream (held ++ b ∷ bytes) [] x in
    along (held ++ b ∷ bytes) (held ++ b ∷ bytes) [] fs s refl (sym (e ∙ rest.0))
    (subst Q (sym rest.1) (tt, held, b, bytes, partial, feeds.0, feeds.1, refl))

-- a stream is read so

reads_whole : (w held : List ℕ) (b : ℕ) (f : Frame) → IsLawful f → spelling f ≡ held ++ b ∷ w → Reads (Within held) (b ∷ w) (f ∷ []) (Within [])
reads_whole [] held b f lawful e = (Whole f, Within [], [], (lawful, e, refl), (refl, refl), refl)
reads_whole (c ∷ w) held b f lawful e =
    let more : spelling f ≡ (held ++ b ∷ []) ++ c ∷ w = e ∙ sym (append_assoc held (b ∷ []) (c ∷ w)) in
    (More, Within (held ++ b ∷ []), f ∷ [], ((f, c, w, lawful, more), refl), reads_whole w (held ++ b ∷ []) c f lawful more, refl)

prefix_partial : (w v : List ℕ) → IsPartial (w ++ v) → IsPartial w
prefix_partial w [] h = let P : List ℕ → Type 0 = IsPartial in subst P (append-nil w) h
prefix_partial w (c ∷ v) (f, b, rest, lawful, e) = (f, c, v ++ b ∷ rest, lawful, e ∙ append_assoc w (c ∷ v) (b ∷ rest))

reads_prefix : (w held : List ℕ) → IsPartial (held ++ w) → Reads (Within held) w [] (Within (held ++ w))
reads_prefix [] held h = (refl, ap Within (append-nil held))
reads_prefix (b ∷ w) held h =
    let P : List ℕ → Type 0 = IsPartial in
    let regrouped : held ++ b ∷ w ≡ (held ++ b ∷ []) ++ w = sym (append_assoc held (b ∷ []) w) in
    let whole = subst P regrouped h in
    let Q : List ℕ → Type 0 = λ x. Reads (Within (held ++ b ∷ [])) w [] (Within x) in
    (More, Within (held ++ b ∷ []), [], (prefix_partial (held ++ b ∷ []) w whole, refl), subst Q (sym regrouped) (reads_prefix w (held ++ b ∷ []) whole), refl)

stays_stopped : (w : List ℕ) (at : ℕ) → Reads (Stopped at) w [] (Stopped at)
stays_stopped [] at = (refl, refl)
stays_stopped (b ∷ w) at = (Bad at, Stopped at, [], (refl, refl), stays_stopped w at, refl)

reads_frame : (f : Frame) → IsLawful f → Reads (Within []) (spelling f) (f ∷ []) (Within [])
unfolding spelling header_of
reads_frame f lawful = reads_whole _ [] 78 f lawful refl

reads_frames : (fs : List Frame) → AllByRecursion IsLawful fs → Reads (Within []) (spellings fs) fs (Within [])
reads_frames [] all = (refl, refl)
reads_frames (f ∷ fs) all = reads_both (spelling f) (spellings fs) (Within []) (Within []) (Within []) (f ∷ []) fs (reads_frame f all.0) (reads_frames fs all.1)

read_on : (bytes w : List ℕ) (fs : List Frame) (s : Reading) → bytes ≡ spellings fs ++ w → AllByRecursion IsLawful fs → Reads (Within []) w [] s → Reads (Within []) bytes fs s
read_on bytes w fs s e all rest =
    let P : List ℕ → Type 0 = λ x. Reads (Within []) x fs s in
    let Q : List Frame → Type 0 = λ x. Reads (Within []) (spellings fs ++ w) x s in
    subst P (sym e) (subst Q (append-nil fs) (reads_both (spellings fs) w (Within []) (Within []) s fs [] (reads_frames fs all) rest))

pub stream_reads : (bytes : List ℕ) (fs : List Frame) (s : Reading) → IsStream bytes fs s → Reads (Within []) bytes fs s
stream_reads bytes fs (Within rest) (all, partial, e) = read_on bytes rest fs (Within rest) e all (reads_prefix rest [] partial)
stream_reads bytes fs (Stopped at) (all, prefix, byte, more, partial, none, size, e) =
    let bad : Reads (Within prefix) (byte ∷ more) [] (Stopped at) = (Bad at, Stopped at, [], (none, size, refl), stays_stopped more at, refl) in
    read_on bytes (prefix ++ byte ∷ more) fs (Stopped at) e all
    (reads_both prefix (byte ∷ more) (Within []) (Within prefix) (Stopped at) [] [] (reads_prefix prefix [] partial) bad)

pub streams_one : (bytes : List ℕ) (fs gs : List Frame) (s s' : Reading) → IsStream bytes fs s → IsStream bytes gs s' → (fs ≡ gs) × (s ≡ s')
streams_one bytes fs gs s s' a b = reads_one bytes (Within []) fs gs s s' (stream_reads bytes fs s a) (stream_reads bytes gs s' b)

-- all bytes are read

is_end : (q : Place) → (q ≡ End) ⊎ (q ≡ End → ⊥)
is_end FirstMark = inr (λ e. cc)
is_end SecondMark = inr (λ e. cc)
is_end Version = inr (λ e. cc)
is_end KindByte = inr (λ e. cc)
is_end (Session k left) = inr (λ e. cc)
is_end (NumberTop k) = inr (λ e. cc)
is_end (NumberSecond k) = inr (λ e. cc)
is_end (NumberRest k left all) = inr (λ e. cc)
is_end (LengthHigh k) = inr (λ e. cc)
is_end (LengthLow k high) = inr (λ e. cc)
is_end (PayloadBytes left) = inr (λ e. cc)
is_end RefuseCode = inr (λ e. cc)
is_end (LowName left read) = inr (λ e. cc)
is_end (HighName left) = inr (λ e. cc)
is_end End = inl refl

abbrev Known : Reading → Type 0
Known (Within held) = AreBytes held × IsPartial held
Known (Stopped at) = Unit {0}

nothing_known : Known (Within [])
nothing_known = (λ i. omega arith, nothing_partial)

-- some answer to one more byte
abbrev Answer : Reading → ℕ → Type 0
Answer r byte = (fed : Fed) × (new : Reading) × Feeds r byte fed new × Known new

of_frame : (held : List ℕ) (byte : ℕ) → IsWhole (held ++ byte ∷ []) → Answer (Within held) byte
of_frame held byte whole =
    let w = held ++ byte ∷ [] in
    let f : Frame = record { kind = whole.kind; session = big_number 4 (drop 4 w); number = big_number 8 (drop 8 w); payload = drop 18 w } in
    let fields : IsFrameOf w f = record { kind = whole.known; session = refl; number = refl; payload = refl } in
    (Whole f, Within [], (whole.lawful f fields, whole.spelled f fields, refl), nothing_known)

of_place : (held : List ℕ) (byte : ℕ) (q : Place) → AreBytes (held ++ byte ∷ []) → run (held ++ byte ∷ []) FirstMark ≡ Some q → Answer (Within held) byte
of_place held byte q all e =
    elim (is_end q) [
      | inl at ↦ of_frame held byte (read_frame (held ++ byte ∷ []) all (e ∙ ap Some at))
      | inr more ↦ (
          let partial = partial_from (held ++ byte ∷ []) q all e more in
          (More, Within (held ++ byte ∷ []), (partial, refl), (all, partial)))
    ]

of_step : (held : List ℕ) (byte : ℕ) (o : Option Place) → AreBytes (held ++ byte ∷ []) → run (held ++ byte ∷ []) FirstMark ≡ o → Answer (Within held) byte
of_step held byte None all e = (Bad (length held), Stopped (length held), (begins_nothing (held ++ byte ∷ []) e, refl, refl), tt)
of_step held byte (Some q) all e = of_place held byte q all e

answer : (r : Reading) (byte : ℕ) → Known r → byte < 256 → Answer r byte
answer (Within held) byte known small = of_step held byte (run (held ++ byte ∷ []) FirstMark) (push_bytes held byte known.0 small) refl
answer (Stopped at) byte known small = (Bad at, Stopped at, (refl, refl), tt)

all_read : (bytes : List ℕ) (r : Reading) → Known r → AllByRecursion (λ b. b < 256) bytes → (fs : List Frame) × (s : Reading) × Reads r bytes fs s
all_read [] r known small = ([], r, (refl, refl))
all_read (b ∷ bytes) r known small =
    let (fed, new, feeds, next) = answer r b known small.0 in
    let (fs, s, reads) = all_read bytes new next small.1 in
    (frames_of fed ++ fs, s, (fed, new, fs, feeds, reads, refl))

pub all_streams : (bytes : List ℕ) → AllByRecursion (λ b. b < 256) bytes → (fs : List Frame) × (s : Reading) × IsStream bytes fs s
all_streams bytes small =
    let (fs, s, reads) = all_read bytes (Within []) nothing_known small in
    (fs, s, reads_stream bytes [] fs s nothing_partial reads)
