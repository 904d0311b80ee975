-- Prefixes of lists.
use Rattle.std.proofs.Common.{◌≡◌, ℕ, Bool, true, false, List, [], ◌∷◌, ◌++◌, length, Option, Some, None, refl, sym, ap, ◌∙◌, arith, append_assoc, append-nil, length-append}
use Rattle.pump_frame.specs.declared.payload.Payload.{Payload}
use Rattle.pump_core.specs.Events.{with_kept}
use Rattle.pump_core.specs.Lawful.{IsPrefixOf}
use Rattle.pump_frame.specs.declared.row.SessionRow.{SessionRow}
use Rattle.pump_wrapper.specs.Comparing.{Begins}
use Rattle.pump_wrapper.specs.WrapEnds.{BeginFile}
use Rattle.pump_wrapper.specs.Wrapped.{wrapped}

pub begins_same : (xs ys : List Payload) → ys ≡ xs → Begins xs ys
begins_same xs ys e = ([], e ∙ sym (append-nil xs))

pub begins_more : (xs more : List Payload) → Begins xs (xs ++ more)
begins_more xs more = (more, refl)

pub begins_then : (xs ys zs : List Payload) → Begins xs ys → Begins ys zs → Begins xs zs
begins_then xs ys zs (a, e) (b, f) = (a ++ b, f ∙ ap (λ (l : List Payload). l ++ b) e ∙ append_assoc xs a b)

-- a list with what is kept
pub kept_begins : (kept : Bool) (o : Option Payload) (ps : List Payload) → Begins ps (with_kept kept o ps)
kept_begins true (Some p) ps = begins_more ps (p ∷ [])
kept_begins true None ps = begins_same ps ps refl
kept_begins false o ps = begins_same ps ps refl

pub kept_most : (kept : Bool) (o : Option Payload) (ps : List Payload) → Begins (with_kept kept o ps) (with_kept true o ps)
kept_most true o ps = begins_same _ _ refl
kept_most false o ps = kept_begins true o ps

pub kept_none : (kept : Bool) (o : Option Payload) (ps : List Payload) → o ≡ None → with_kept kept o ps ≡ ps
kept_none true None ps e = refl
kept_none true (Some p) ps e = absurd (cc e)
kept_none false o ps e = refl

pub prefix_begins : (xs ys : List Payload) → IsPrefixOf xs ys → Begins xs ys
prefix_begins xs ys (rest, e) = (rest, sym e)

-- two lists that begin each other are the same
pub begins_both : (xs ys : List Payload) → Begins xs ys → Begins ys xs → ys ≡ xs
begins_both xs ys ([], e) h = e ∙ append-nil xs
begins_both xs ys (x ∷ a, e) (b, f) = absurd (omega (arith, ap length e, ap length f, length-append xs (x ∷ a), length-append ys b))

-- what begins the first messages of a file does
pub begins_file : (row : SessionRow) (left : Option (List ℕ)) (xs ys : List Payload) → Begins xs ys → BeginFile row left ys → BeginFile row left xs
begins_file row None xs ys prefix begins = tt
begins_file row (Some file) xs ys prefix begins = begins_then xs ys (wrapped row.message file) prefix begins
