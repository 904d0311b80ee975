-- What a reader's fields become with one more byte.
use Rattle.std.proofs.Common.{◌≡◌, ℕ, ◌-◌, ◌<◌, Bool, true, not, List, [], ◌∷◌, ◌++◌, length, Option, None, Some, refl, sym, ap, ◌∙◌, subst, arith}
use Rattle.std.specs.Prelude.{if◌then◌else◌, is_some}
use Rattle.std.proofs.lemmas.Bool.{ne_eqb}
use Rattle.pump_frame.specs.Places.{run, step, IsLive, IsWhole, StandsAt, reading_of}
use Rattle.pump_frame.specs.declared.place.Place.{Place}
use Rattle.pump_frame.specs.declared.place.Place.TheVariants.{FirstMark, PayloadBytes, End}
use Rattle.pump_frame.proofs.Steps.{live_run}
use Rattle.pump_frame.specs.Spellings.{IsPartial}
use Rattle.pump_frame.specs.Readings.{Reading, Within, Stopped, HasBegun}
use Rattle.pump_frame.specs.Streams.{Feeds}
use Rattle.pump_frame.specs.declared.reader.Fed.TheVariants.{More, Bad}
use Rattle.pump_frame.proofs.Reading.{read_frame}
use Rattle.pump_frame.proofs.Exact.{push_bytes, run_push, begins_nothing, partial_from, partial_short}

module _ (bad : Option ℕ) (held : List ℕ) (place : Place) (none : bad ≡ None) (stands : StandsAt bad held place) where
  now : StandsAt None held place
  now = subst (λ (b : Option ℕ). StandsAt b held place) none stands

  pub live_now : IsLive place
  live_now = live_run held FirstMark place tt now.0

  pub partial_now : IsPartial held
  partial_now = partial_from held place now.2 now.0 now.1

  pub short_now : length held < 1042
  short_now = partial_short held partial_now

  stepped : (byte : ℕ) (o : Option Place) → step place byte ≡ o → run (held ++ byte ∷ []) FirstMark ≡ o
  stepped byte o e = run_push held byte place now.0 ∙ e

  pub whole_now : (byte : ℕ) (items : List ℕ) → byte < 256 → step place byte ≡ Some End → items ≡ held ++ byte ∷ [] → IsWhole items
  whole_now byte items small e is =
      let P : List ℕ → Type 0 = IsWhole in
      subst P (sym is) (read_frame (held ++ byte ∷ []) (push_bytes held byte now.2 small) (stepped byte (Some End) e))

  pub bad_now : (byte at : ℕ) (old : Reading) → reading_of bad held ≡ old → step place byte ≡ None → at ≡ length held → Feeds old byte (Bad at) (Stopped at)
  bad_now byte at old view e size =
      let P : Reading → Type 0 = λ r. Feeds r byte (Bad at) (Stopped at) in
      let held_in : Within held ≡ old = ap (λ (b : Option ℕ). reading_of b held) (sym none) ∙ view in
      subst P held_in (begins_nothing (held ++ byte ∷ []) (stepped byte None e), size, refl)

  pub stands_now : (byte : ℕ) (items : List ℕ) (next : Place) → byte < 256 → step place byte ≡ Some next → (next ≡ End → ⊥) → items ≡ held ++ byte ∷ [] → StandsAt bad items next
  stands_now byte items next small e apart is =
      let P : List ℕ → Type 0 = λ x. StandsAt None x next in
      let Q : Option ℕ → Type 0 = λ b. StandsAt b items next in
      subst Q (sym none) (subst P (sym is) (stepped byte (Some next) e, apart, push_bytes held byte now.2 small))

  more_partial : (byte : ℕ) (next : Place) → byte < 256 → step place byte ≡ Some next → (next ≡ End → ⊥) → IsPartial (held ++ byte ∷ [])
  more_partial byte next small e apart = partial_from (held ++ byte ∷ []) next (push_bytes held byte now.2 small) (stepped byte (Some next) e) apart

  pub more_now : (byte : ℕ) (items : List ℕ) (next : Place) (old : Reading) → byte < 256 → step place byte ≡ Some next → (next ≡ End → ⊥) → items ≡ held ++ byte ∷ [] → reading_of bad held ≡ old → Feeds old byte More (reading_of bad items)
  more_now byte items next old small e apart is view =
      let P : Reading → Type 0 = λ r. Feeds r byte More (reading_of bad items) in
      let held_in : Within held ≡ old = ap (λ (b : Option ℕ). reading_of b held) (sym none) ∙ view in
      subst P held_in (more_partial byte next small e apart, ap (λ (b : Option ℕ). reading_of b items) none ∙ ap Within is)

  pub begun_now : (byte : ℕ) (items : List ℕ) (next : Place) → byte < 256 → step place byte ≡ Some next → (next ≡ End → ⊥) → items ≡ held ++ byte ∷ [] → HasBegun (reading_of bad items)
  begun_now byte items next small e apart is =
      let P : Option ℕ → Type 0 = λ b. HasBegun (reading_of b items) in
      let Q : List ℕ → Type 0 = IsPartial in
      subst P (sym none) (subst Q (sym is) (more_partial byte next small e apart))

pub nothing_held : (bad : Option ℕ) (items : List ℕ) → bad ≡ None → items ≡ [] → HasBegun (reading_of bad items)
nothing_held bad items none empty =
    let P : Option ℕ → Type 0 = λ b. HasBegun (reading_of b items) in
    let Q : List ℕ → Type 0 = IsPartial in
    subst P (sym none) (subst Q (sym empty) (partial_from [] FirstMark (λ i. omega arith) refl (λ e. cc)))

pub begun_at : (bad : Option ℕ) (held : List ℕ) (place : Place) → StandsAt bad held place → HasBegun (reading_of bad held)
begun_at None held place stands = partial_from held place stands.2 stands.0 stands.1
begun_at (Some at) held place stands = tt

pub none_by : (bad : Option ℕ) (answer : Bool) → is_some bad ≡ not answer → answer ≡ true → bad ≡ None
none_by None answer e is = refl
none_by (Some at) answer e is = cc

-- a payload that goes on behind the byte
pub goes_on : (place : Place) (left byte : ℕ) → place ≡ PayloadBytes left → 1 < left → step place byte ≡ Some (PayloadBytes (left - 1))
goes_on place left byte is more =
    let P : Place → Type 0 = λ p. step p byte ≡ Some (PayloadBytes (left - 1)) in
    subst P (sym is) (ap (λ (b : Bool). Some (if b then End else PayloadBytes (left - 1))) (ne_eqb left 1 (λ e. omega arith)))
