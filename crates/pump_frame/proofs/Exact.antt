-- Places against the frames that begin so: what a reader's answers mean.
use Rattle.std.proofs.Common.{◌≡◌, ℕ, ◌+◌, ◌^◌, ◌<◌, List, [], ◌∷◌, ◌++◌, length, drop, Option, None, Some, option_and_then, refl, sym, ap, ◌∙◌, subst, arith, zero, suc}
use Rattle.std.proofs.lemmas.List.{length-append}
use Rattle.std.proofs.lemmas.Option.{same_Some, option_and_then_some}
use Rattle.byteorder.specs.Endian.{big_bytes, big_number}
use Rattle.pump_frame.specs.Frames.{IsLawful}
use Rattle.pump_frame.specs.Spellings.{spelling, header_of}
use Rattle.pump_frame.specs.Places.{run, step, AreBytes, IsFrameOf}
use Rattle.pump_frame.specs.declared.frame.Kind.{Kind}
use Rattle.pump_frame.specs.declared.frame.Kind.TheVariants.{Hello, Welcome, Data, Ack, Refuse, Attach, Taken}
use Rattle.pump_frame.specs.declared.frame.Frame.{Frame}
use Rattle.pump_frame.specs.declared.place.Place.{Place}
use Rattle.pump_frame.specs.declared.place.Place.TheVariants.{FirstMark, End}
use Rattle.pump_frame.proofs.Forms.{IsNumber, number_of_form, payload_of_form}
use Rattle.pump_frame.proofs.Steps.{run-append, live_run}
use Rattle.std.proofs.lemmas.List.{append_cancel_left}
use Rattle.byteorder.specs.Numbers.{big_number-reads_back}
use Rattle.pump_frame.specs.Spellings.{BeginsSpelling, IsPartial}
use Rattle.pump_frame.proofs.Living.{completes}
use Rattle.pump_frame.proofs.Reading.{read_frame, kind_back, payload_short}
use Rattle.pump_frame.proofs.Writing.{run_spelling}

pub push_bytes : (w : List ℕ) (b : ℕ) → AreBytes w → b < 256 → AreBytes (w ++ b ∷ [])
push_bytes [] b all h zero = h
push_bytes [] b all h (suc i) = omega arith
push_bytes (x ∷ w) b all h zero = all 0
push_bytes (x ∷ w) b all h (suc i) = push_bytes w b (λ j. all (suc j)) h i

append_bytes : (w v : List ℕ) → AreBytes w → AreBytes v → AreBytes (w ++ v)
append_bytes [] v a b i = b i
append_bytes (x ∷ w) v a b zero = a 0
append_bytes (x ∷ w) v a b (suc i) = append_bytes w v (λ j. a (suc j)) b i

pub run_push : (w : List ℕ) (b : ℕ) (p : Place) → run w FirstMark ≡ Some p → run (w ++ b ∷ []) FirstMark ≡ step p b
run_push w b p e = run-append w (b ∷ []) FirstMark ∙ ap (λ (o : Option Place). option_and_then (λ q. run (b ∷ []) q) o) e ∙ ended (step p b)
  where
    ended : (o : Option Place) → option_and_then (λ next. run [] next) o ≡ o
    ended None = refl
    ended (Some q) = refl

pub whole_run : (f : Frame) (w : List ℕ) → IsLawful f → spelling f ≡ w → run w FirstMark ≡ Some End
whole_run f w lawful e = let P : List ℕ → Type 0 = λ x. run x FirstMark ≡ Some End in subst P e (run_spelling f lawful)

-- what does not lead on begins no frame
pub begins_nothing : (w : List ℕ) → run w FirstMark ≡ None → BeginsSpelling w → ⊥
begins_nothing w none (f, more, lawful, e) =
    let leads = whole_run f (w ++ more) lawful e in
    let stops : run (w ++ more) FirstMark ≡ None = run-append w more FirstMark ∙ ap (λ (o : Option Place). option_and_then (λ q. run more q) o) none in
    cc

more_partial : (w : List ℕ) (p : Place) (more : List ℕ) → AreBytes w → AreBytes more → run w FirstMark ≡ Some p → (p ≡ End → ⊥) → run more p ≡ Some End → IsPartial w
more_partial w p [] all rest r apart e = absurd (apart (same_Some p End e))
more_partial w p (b ∷ more) all rest r apart e =
    let leads : run (w ++ b ∷ more) FirstMark ≡ Some End = run-append w (b ∷ more) FirstMark ∙ ap (λ (o : Option Place). option_and_then (λ q. run (b ∷ more) q) o) r ∙ e in
    let reads = read_frame (w ++ b ∷ more) (append_bytes w (b ∷ more) all rest) leads in
    let f : Frame = record { kind = reads.kind; session = big_number 4 (drop 4 (w ++ b ∷ more)); number = big_number 8 (drop 8 (w ++ b ∷ more)); payload = drop 18 (w ++ b ∷ more) } in
    let fields : IsFrameOf (w ++ b ∷ more) f = record { kind = reads.known; session = refl; number = refl; payload = refl } in
    (f, b, more, reads.lawful f fields, reads.spelled f fields)

-- a place before the end: some frame begins so and has more
pub partial_from : (w : List ℕ) (p : Place) → AreBytes w → run w FirstMark ≡ Some p → (p ≡ End → ⊥) → IsPartial w
partial_from w p all r apart =
    let c = completes p (live_run w FirstMark p tt r) in
    more_partial w p c.0 all c.1 r apart c.2

pub partial_run : (w : List ℕ) → IsPartial w → (p : Place) × (run w FirstMark ≡ Some p) × (p ≡ End → ⊥)
partial_run w (f, b, more, lawful, e) =
    let leads = whole_run f (w ++ b ∷ more) lawful e in
    option_and_then_some (λ q. run (b ∷ more) q) (run w FirstMark) End (sym (run-append w (b ∷ more) FirstMark) ∙ leads) (λ p r s. (p, r, λ at. let P : Place → Type 0 = λ x. run (b ∷ more) x ≡ Some End in let ended = subst P at s in cc (ended)))

pub partial_short : (w : List ℕ) → IsPartial w → length w < 1042
unfolding spelling header_of
partial_short w (f, b, more, lawful, e) =
    let short = payload_short f.kind f.payload (payload_of_form f.kind f.number f.payload lawful.form) in
    let size : length (spelling f) ≡ length w + length (b ∷ more) = ap length e ∙ length-append w (b ∷ more) in
    let header : length (spelling f) ≡ 18 + length f.payload = omega arith in
    omega arith

same_prefix : (a b x y : List ℕ) (p : Place) → run a p ≡ Some End → run b p ≡ Some End → a ++ x ≡ b ++ y → a ≡ b
same_prefix [] [] x y p r s e = refl
same_prefix [] (d ∷ b) x y p r s e = let P : Place → Type 0 = λ q. run (d ∷ b) q ≡ Some End in let at = subst P (same_Some p End r) s in cc (at)
same_prefix (c ∷ a) [] x y p r s e = let P : Place → Type 0 = λ q. run (c ∷ a) q ≡ Some End in let at = subst P (same_Some p End s) r in cc (at)
same_prefix (c ∷ a) (d ∷ b) x y p r s e =
    let head : c ≡ d = cc in
    let tail : a ++ x ≡ b ++ y = cc in
    option_and_then_some (λ next. run a next) (step p c) End r (λ q there more.
    let P : ℕ → Type 0 = λ n. step p n ≡ Some q in
    let also : step p d ≡ Some q = subst P head there in
    let on : option_and_then (λ next. run b next) (Some q) ≡ Some End = ap (λ (o : Option Place). option_and_then (λ next. run b next) o) (sym also) ∙ s in
    let same = same_prefix a b x y q more on tail in
    cc)

number_small : (k : Kind) (n : ℕ) → IsNumber k n → n < 256 ^ 8
number_small Hello n h = omega arith
number_small Welcome n h = omega arith
number_small Data n h = omega arith
number_small Ack n h = omega arith
number_small Refuse n h = omega arith
number_small Attach n h = omega arith
number_small Taken n h = omega arith

pub fields_of : (f : Frame) → IsLawful f → IsFrameOf (spelling f) f
unfolding spelling header_of
fields_of f lawful =
    let session = lawful.session in
    record {
      kind = kind_back f.kind;
      session = sym (big_number-reads_back 4 f.session (big_bytes 8 f.number ++ (big_bytes 2 (length f.payload) ++ f.payload)) (omega arith));
      number = sym (big_number-reads_back 8 f.number (big_bytes 2 (length f.payload) ++ f.payload) (number_small f.kind f.number (number_of_form f.kind f.number f.payload lawful.form)));
      payload = refl;
    }

same_fields : (f g : Frame) → f.kind ≡ g.kind → f.session ≡ g.session → f.number ≡ g.number → f.payload ≡ g.payload → f ≡ g
same_fields f g a b c d = λ i. record { kind = a i; session = b i; number = c i; payload = d i }

pub one_frame : (w : List ℕ) (f g : Frame) → IsFrameOf w f → IsFrameOf w g → f ≡ g
one_frame w f g a b =
    same_fields f g (same_Some f.kind g.kind (sym a.kind ∙ b.kind)) (a.session ∙ sym b.session) (a.number ∙ sym b.number) (a.payload ∙ sym b.payload)

pub same_frame : (f g : Frame) → IsLawful f → IsLawful g → spelling f ≡ spelling g → f ≡ g
same_frame f g a b e =
    let P : List ℕ → Type 0 = λ w. IsFrameOf w f in
    one_frame (spelling g) f g (subst P e (fields_of f a)) (fields_of g b)

-- no spelling begins another, and no two frames have one spelling
pub free : (f g : Frame) (x y : List ℕ) → IsLawful f → IsLawful g → spelling f ++ x ≡ spelling g ++ y → (f ≡ g) × (x ≡ y)
free f g x y a b e =
    let same = same_prefix (spelling f) (spelling g) x y FirstMark (run_spelling f a) (run_spelling g b) e in
    let P : List ℕ → Type 0 = λ w. w ++ x ≡ spelling g ++ y in
    (same_frame f g a b same, append_cancel_left (spelling g) x y (subst P same e))

-- a whole frame is no part of another
pub apart : (w : List ℕ) (f : Frame) → IsLawful f → spelling f ≡ w → IsPartial w → ⊥
apart w f lawful e partial =
    let p = partial_run w partial in
    p.2 (same_Some p.0 End (sym p.1 ∙ whole_run f w lawful e))
