-- What waits, as one more arrival comes and as the first of them is taken.
use Rattle.std.proofs.Common.{◌≡◌, ℕ, zero, suc, ◌+◌, Bool, true, false, List, [], ◌∷◌, ◌++◌, map, take, drop, Option, Some, None, refl, sym, ap, ◌∙◌, arith}
use Rattle.std.specs.Prelude.{if◌then◌else◌, ◌||◌, slice_get}
use Rattle.std.specs.List.{list_any}
use Rattle.std.proofs.lemmas.List.{take-append-le, drop-append-le}
use Rattle.std.proofs.lemmas.List.Folds.{list_any_more}
use Rattle.std.proofs.lemmas.Option.{slice_get_within, get_or_from_slice_get}
use Rattle.pump_core.specs.History.{Arrival}
use Rattle.pump_core.specs.History.{Nothing}
use Rattle.pump_core.specs.Exchanges.{is_gone}
use Rattle.pump_core.specs.Comings.{Coming, Whole, Broken, is_broken, arrival_of_coming, is_nothing}
use Rattle.pump_core.specs.Comings as comings
use Rattle.pump_core.proofs.Lists.{length-push}
use Rattle.script_reader.specs.Lows.{first_of, is_bad}
use Rattle.world_laws.specs.Timelines.{arrived, AreLeft}

-- ---- lists ----

map-push : (xs : List Coming) (c : Coming) → map arrived xs ++ arrived c ∷ [] ≡ map arrived (xs ++ c ∷ [])
map-push [] c = refl
map-push (x ∷ xs) c = ap (λ l. arrived x ∷ l) (map-push xs c)

drop-more : {X : Type 0} (n : ℕ) (xs : List X) → drop 1 (drop n xs) ≡ drop (n + 1) xs
drop-more zero xs = refl
drop-more (suc n) [] = let e : suc n + 1 ≡ suc (n + 1) = omega arith in rw e refl
drop-more (suc n) (x ∷ xs) = let e : suc n + 1 ≡ suc (n + 1) = omega arith in rw e (drop-more n xs)

drop-map : (xs : List Coming) → drop 1 (map arrived xs) ≡ map arrived (drop 1 xs)
drop-map [] = refl
drop-map (x ∷ xs) = refl

-- ---- one more comes ----

pub comes_more : (came : List Coming) (taken : ℕ) (waits : List Arrival) (behind : Bool) (c : Coming) → AreLeft came taken waits behind
    → AreLeft (came ++ c ∷ []) taken (waits ++ arrived c ∷ []) behind
comes_more came taken waits behind c left =
    let few = left.came_before in
    record {
      came_before = omega (arith, length-push came c, few);
      rest = ap (λ l. l ++ arrived c ∷ []) left.rest ∙ map-push (drop taken came) c ∙ sym (ap (map arrived) (drop-append-le taken came (c ∷ []) few));
      behind = left.behind ∙ sym (ap (list_any is_broken) (take-append-le taken came (c ∷ []) few));
    }

-- ---- what is offered ----

prefix : (came : List Coming) (taken : ℕ) → first_of false (map arrived (drop taken came)) ≡ arrival_of_coming (slice_get came taken)
prefix [] zero = refl
prefix [] (suc n) = refl
prefix (c ∷ came) zero = refl
prefix (c ∷ came) (suc n) = prefix came n

offers : (behind : Bool) (came : List Coming) (taken : ℕ)
    → first_of behind (map arrived (drop taken came)) ≡ (if behind then Nothing else arrival_of_coming (slice_get came taken))
offers true came taken = refl
offers false came taken = prefix came taken

-- the session offers what the run does
pub offered_first : (came : List Coming) (taken : ℕ) (waits : List Arrival) (behind : Bool) → AreLeft came taken waits behind
    → first_of behind waits ≡ comings.first_of came taken
offered_first came taken waits behind left =
    ap (first_of behind) left.rest ∙ offers behind came taken ∙ ap (λ b. if b then Nothing else arrival_of_coming (slice_get came taken)) left.behind

no_gone : (o : Option Coming) → is_gone (arrival_of_coming o) ≡ false
no_gone None = refl
no_gone (Some (Whole f)) = refl
no_gone (Some Broken) = refl

stays : (b : Bool) (a : Arrival) → is_gone a ≡ false → is_gone (if b then Nothing else a) ≡ false
stays true a e = refl
stays false a e = e

-- it is no loss of the connection
pub offers_no_gone : (came : List Coming) (taken : ℕ) (waits : List Arrival) (behind : Bool) → AreLeft came taken waits behind
    → is_gone (first_of behind waits) ≡ false
offers_no_gone came taken waits behind left =
    ap is_gone (offered_first came taken waits behind left) ∙ stays (list_any is_broken (take taken came)) (arrival_of_coming (slice_get came taken)) (no_gone (slice_get came taken))

-- ---- the first is taken ----

is_bad_of : (c : Coming) → is_bad (arrived c) ≡ is_broken c
is_bad_of (Whole f) = refl
is_bad_of Broken = refl

record Takes (came : List Coming) (taken : ℕ) : Type 0 where
  c : Coming
  at : slice_get came taken ≡ Some c

something : (o : Option Coming) → is_nothing (arrival_of_coming o) ≡ false → (c : Coming) × (o ≡ Some c)
something None e = absurd (cc)
something (Some c) e = (c, refl)

clear : (b : Bool) (a : Arrival) → is_nothing (if b then Nothing else a) ≡ false → (b ≡ false) × (is_nothing a ≡ false)
clear true a e = absurd (cc)
clear false a e = (refl, e)

pub takes_first : (came : List Coming) (taken : ℕ) (waits : List Arrival) (behind : Bool) → AreLeft came taken waits behind
    → is_nothing (first_of behind waits) ≡ false
    → AreLeft came (taken + 1) (drop 1 waits) (behind || is_bad (first_of behind waits))
takes_first came taken waits behind left some =
    let is = offered_first came taken waits behind left in
    let free = clear (list_any is_broken (take taken came)) (arrival_of_coming (slice_get came taken)) (sym (ap is_nothing is) ∙ some) in
    let next = something (slice_get came taken) free.1 in
    let c = next.0 in
    let within = slice_get_within came taken c next.1 in
    let same : first_of behind waits ≡ arrived c = is ∙ (λ i. if free.0 i then Nothing else arrival_of_coming (next.1 i)) in
    record {
      came_before = omega (arith, within);
      rest = ap (drop 1) left.rest ∙ drop-map (drop taken came) ∙ ap (map arrived) (drop-more taken came);
      behind = ap (λ b. b || is_bad (first_of behind waits)) left.behind
          ∙ ap (λ b. list_any is_broken (take taken came) || b) (ap is_bad same ∙ is_bad_of c ∙ sym (ap is_broken (get_or_from_slice_get came taken c c next.1)))
          ∙ sym (list_any_more is_broken came taken c within);
    }
