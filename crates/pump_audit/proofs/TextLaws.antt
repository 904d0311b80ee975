-- Lines of a stream, and bytes that begin with none.
use Rattle.std.proofs.Common.{◌≡◌, ◌≢◌, ℕ, zero, suc, ◌==◌, ◌+◌, ◌<◌, ◌≤◌, false, List, [], ◌∷◌, ◌++◌, length, take, drop, Option, Some, None, IfSome, refl, sym, ap, ◌∙◌, subst, append-nil, arith, length-append, length-take}
use Rattle.std.proofs.lemmas.Bool.{both_ways, eq-eqb}
use Rattle.std.proofs.lemmas.List.{length-take-le}
use Rattle.std.proofs.lemmas.List.Elements.{All-head, All-tail}
use Rattle.std.specs.List.{position}
use Rattle.std.specs.Io.KnownBytes.{prepend_known, Consumes, Keeps, IsAtEnd}
use Rattle.script_reader.specs.Lines.{is_end, IsUnended}
use Rattle.script_reader.proofs.LineEnds.{ended, line_come, piece_come}
use Rattle.pump_audit.specs.Texts.{IsCut, IsFirstText, IsNextText, IsTextAtEnd}
use Rattle.pump_audit.specs.declared.texts.Texted.{Texted}
use Rattle.pump_audit.specs.declared.texts.Texted.TheVariants as texted

ten_not : (b : ℕ) → is_end b ≡ false → b ≡ 10 → ⊥
ten_not b h e = both_ways (is_end b) h (eq-eqb b 10 e)

pub not_zero : (n : ℕ) → (n == 0) ≡ false → 0 < n
not_zero zero e = cc
not_zero (suc n) e = omega arith

-- no line ends in bytes without a line end
no_line : (held more line rest : List ℕ) → IsUnended held → length line < length held → held ++ more ≡ line ++ 10 ∷ rest → ⊥
no_line [] more line rest unended short e = absurd (omega (arith, short))
no_line (x ∷ held) more [] rest unended short e = ten_not x (All-head (λ b. is_end b ≡ false) x held unended) cc
no_line (x ∷ held) more (y ∷ line) rest unended short e = no_line held more line rest (All-tail (λ b. is_end b ≡ false) x held unended) (omega (arith, short)) cc

some_bytes : (xs more : List ℕ) → 0 < length xs → xs ++ more ≢ []
some_bytes [] more h e = absurd (omega (arith, h))
some_bytes (x ∷ xs) more h e = cc

no_more : (held : List ℕ) → IsUnended held → 0 < length held → IsCut held
no_more held unended some = record {
  some = λ e. let l = ap length e in absurd (omega (arith, l, some));
  none = λ line rest is e.
      let l = ap length e in
      no_line held [] line rest unended (omega (arith, l, length-append line (10 ∷ rest))) (append-nil held ∙ e);
}

-- of what is to come
too_long : (held more : List ℕ) → IsUnended held → 2400 < length held → IsCut (held ++ more)
too_long held more unended long = record {
  some = some_bytes held more (omega (arith, long));
  none = λ line rest is e. no_line held more line rest unended (omega (arith, long, is.short)) e;
}

pub long_line : (a b : Option (List ℕ)) (held : List ℕ) → Consumes a b held → IsUnended held → 2400 < length held → IfSome a IsCut
long_line None b held c unended long = tt
long_line (Some xs) None held c unended long = absurd c
long_line (Some xs) (Some ys) held c unended long = subst IsCut (sym c) (too_long held ys unended long)

pub last_line : (a b : Option (List ℕ)) (held : List ℕ) → Consumes a b held → IsAtEnd b → IsUnended held → 0 < length held → IfSome a IsCut
last_line None b held c at_end unended some = tt
last_line (Some xs) None held c at_end unended some = absurd c
last_line (Some xs) (Some ys) held c at_end unended some =
    let same : xs ≡ held = c ∙ ap (λ (l : List ℕ). held ++ l) at_end ∙ append-nil held in
    subst IsCut (sym same) (no_more held unended some)

-- nothing was held, and nothing comes
pub no_line_left : (a b : Option (List ℕ)) (held : List ℕ) → Consumes a b held → IsAtEnd b → held ≡ [] → IsAtEnd a
no_line_left None b held c at_end none = tt
no_line_left (Some xs) None held c at_end none = absurd c
no_line_left (Some xs) (Some ys) held c at_end none = c ∙ ap (λ (l : List ℕ). l ++ ys) none ∙ at_end

-- ---- the end of a stream, behind this text ----

pub ends_empty : (text : List ℕ) → length text ≡ 0 → IsTextAtEnd text texted.End
ends_empty [] none = refl
ends_empty (x ∷ xs) none = absurd (omega (arith, none))

pub ends_cut : (text : List ℕ) → 0 < length text → IsTextAtEnd text texted.Cut
ends_cut [] some = absurd (omega (arith, some))
ends_cut (x ∷ xs) some = refl

pub never_failed : (text : List ℕ) (t : Texted) → IsTextAtEnd text t → t ≡ texted.Failed → ⊥
never_failed [] t is e = cc
never_failed (x ∷ xs) t is e = cc

-- behind what is held nothing comes
pub at_end_is : (a b new : Option (List ℕ)) (held after : List ℕ) (t : Texted) → Consumes a b held → IsAtEnd b → IsUnended held → IsTextAtEnd held t → IsNextText a new after t
at_end_is a b new [] after t came end unended is = subst (λ (u : Texted). IsNextText a new after u) (sym is) (no_line_left a b [] came end refl)
at_end_is a b new (x ∷ xs) after t came end unended is = subst (λ (u : Texted). IsNextText a new after u) (sym is) (last_line a b (x ∷ xs) came end unended (omega arith))

-- ---- the first line of what is held ----

pub first_is : (a b : Option (List ℕ)) (held new : List ℕ) (len : ℕ) (text : List ℕ) (t : Texted) → Keeps a (prepend_known held b) → position is_end held ≡ Some len
    → IsFirstText held new len text t → IsNextText a (prepend_known new b) text t
first_is a b held new len text texted.Text kept at first =
    let p = ended held len at in
    rw (first.0, first.1) (
      record { unended = p.0; short = omega (arith, first.2, length-take len held) },
      line_come a b held (take len held) (drop (len + 1) held) kept p.1,
    )
first_is a b held new len text texted.Cut kept at first =
    let p = ended held len at in
    long_line a (prepend_known (10 ∷ drop (len + 1) held) b) (take len held) (piece_come a b held (take len held) (10 ∷ drop (len + 1) held) kept p.1) p.0
    (omega (arith, first.0, length-take-le len held (omega (arith, p.2))))
first_is a b held new len text texted.End kept at first = absurd first
first_is a b held new len text texted.Failed kept at first = absurd first

pub first_came : (held new : List ℕ) (len : ℕ) (text : List ℕ) (t : Texted) → IsFirstText held new len text t → t ≡ texted.Failed → ⊥
first_came held new len text texted.Text first e = cc
first_came held new len text texted.Cut first e = cc
first_came held new len text texted.End first e = cc
first_came held new len text texted.Failed first e = absurd first
