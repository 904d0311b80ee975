-- Lines of a sender's script, and bytes that begin with none.
use Rattle.std.proofs.Common.{◌≡◌, ◌≢◌, inl, inr, ℕ, zero, suc, ◌==◌, ◌<◌, ◌≤◌, false, List, [], ◌∷◌, ◌++◌, length, Option, Some, None, IfSome, sym, ap, ◌∙◌, subst, append_assoc, append-nil, arith, length-append}
use Rattle.std.proofs.lemmas.Bool.{both_ways, eq-eqb}
use Rattle.std.proofs.lemmas.List.Elements.{All-head, All-tail}
use Rattle.std.specs.Io.KnownBytes.{Consumes, IsAtEnd}
use Rattle.hex.proofs.HexLemmas.{decode_of-ok}
use Rattle.script_reader.specs.Parsing.{hex}
use Rattle.script_reader.specs.Grammar.{IsHex}
use Rattle.script_reader.specs.Lines.{is_end, IsUnended}
use Rattle.script_reader.proofs.FieldLaws.{hex_again}
use Rattle.script_reader.proofs.LineEnds.{one_prefix}
use Rattle.peers.specs.Payloads.{IsFaulty}

ten_not : (b : ℕ) → is_end b ≡ false → b ≡ 10 → ⊥
ten_not b h e = both_ways (is_end b) h (eq-eqb b 10 e)

pub not_zero : (n : ℕ) → (n == 0) ≡ false → 0 < n
not_zero zero e = cc
not_zero (suc n) e = omega arith

-- a line has at most 2048 bytes
line_short : (payload line : List ℕ) → IsHex payload line → length line ≤ 2048
line_short payload line (inl dash) = let l = ap length dash.0 in omega (arith, l)
line_short payload line (inr digits) = let d = decode_of-ok line payload digits.2 in omega (arith, digits.1, d.2)

-- no line ends in bytes without a line end
no_line : (held more line rest : List ℕ) → IsUnended held → length line < length held → held ++ more ≡ line ++ 10 ∷ rest → ⊥
no_line [] more line rest unended short e = absurd (omega (arith, short))
no_line (x ∷ held) more [] rest unended short e = ten_not x (All-head (λ b. is_end b ≡ false) x held unended) cc
no_line (x ∷ held) more (y ∷ line) rest unended short e = no_line held more line rest (All-tail (λ b. is_end b ≡ false) x held unended) (omega (arith, short)) cc

some_bytes : (xs more : List ℕ) → 0 < length xs → xs ++ more ≢ []
some_bytes [] more h e = absurd (omega (arith, h))
some_bytes (x ∷ xs) more h e = cc

-- a whole line that is no payload
pub not_hex : (line rest : List ℕ) → IsUnended line → hex line ≡ None → IsFaulty (line ++ 10 ∷ rest)
not_hex line rest unended none = record {
  some = λ e. let l = ap length e in absurd (omega (arith, l, length-append line (10 ∷ rest)));
  bad = λ payload other more is e.
      let same = one_prefix line other rest more unended is.unended e in
      let again : hex line ≡ Some payload = hex_again line payload (subst (λ (l : List ℕ). IsHex payload l) (sym same.0) is.hex) in
      cc;
}

-- .. nor where more than a line's bytes come without a line end
no_line_on : (held : List ℕ) (byte : ℕ) (more line rest : List ℕ) → IsUnended held → (byte ≡ 10 → ⊥) → length line ≤ length held → held ++ byte ∷ more ≡ line ++ 10 ∷ rest → ⊥
no_line_on [] byte more [] rest unended other short e = other cc
no_line_on [] byte more (y ∷ line) rest unended other short e = absurd (omega (arith, short))
no_line_on (x ∷ held) byte more [] rest unended other short e = ten_not x (All-head (λ b. is_end b ≡ false) x held unended) cc
no_line_on (x ∷ held) byte more (y ∷ line) rest unended other short e =
    no_line_on held byte more line rest (All-tail (λ b. is_end b ≡ false) x held unended) other (omega (arith, short)) cc

no_end : (held : List ℕ) (byte : ℕ) (more : List ℕ) → IsUnended held → (byte ≡ 10 → ⊥) → 2048 ≤ length held → IsFaulty (held ++ byte ∷ more)
no_end held byte more unended other long = record {
  some = some_bytes held (byte ∷ more) (omega (arith, long));
  bad = λ payload line rest is e. no_line_on held byte more line rest unended other (omega (arith, long, line_short payload line is.hex)) e;
}

pub no_more : (held : List ℕ) → IsUnended held → 0 < length held → IsFaulty held
no_more held unended some = record {
  some = λ e. let l = ap length e in absurd (omega (arith, l, some));
  bad = λ payload line rest is e.
      let l = ap length e in
      no_line held [] line rest unended (omega (arith, l, length-append line (10 ∷ rest))) (append-nil held ∙ e);
}

-- .. of what is to come
pub bad_line : (a b : Option (List ℕ)) (line : List ℕ) → Consumes a b (line ++ 10 ∷ []) → IsUnended line → hex line ≡ None → IfSome a IsFaulty
bad_line None b line c unended none = tt
bad_line (Some xs) None line c unended none = absurd c
bad_line (Some xs) (Some ys) line c unended none = subst IsFaulty (sym (c ∙ append_assoc line (10 ∷ []) ys)) (not_hex line ys unended none)

pub long_line : (a b c : Option (List ℕ)) (held : List ℕ) (byte : ℕ) → Consumes a b held → Consumes b c (byte ∷ []) → IsUnended held → (byte ≡ 10 → ⊥) → 2048 ≤ length held → IfSome a IsFaulty
long_line None b c held byte p q unended other long = tt
long_line (Some xs) None c held byte p q unended other long = absurd p
long_line (Some xs) (Some ys) None held byte p q unended other long = absurd q
long_line (Some xs) (Some ys) (Some zs) held byte p q unended other long =
    subst IsFaulty (sym (p ∙ ap (λ (l : List ℕ). held ++ l) q)) (no_end held byte zs unended other long)

pub last_line : (a b : Option (List ℕ)) (held : List ℕ) → Consumes a b held → IsAtEnd b → IsUnended held → 0 < length held → IfSome a IsFaulty
last_line None b held c at_end unended some = tt
last_line (Some xs) None held c at_end unended some = absurd c
last_line (Some xs) (Some ys) held c at_end unended some =
    let same : xs ≡ held = c ∙ ap (λ (l : List ℕ). held ++ l) at_end ∙ append-nil held in
    subst IsFaulty (sym same) (no_more held unended some)
