-- What the first byte of a message tells.
use Rattle.std.proofs.Common.{◌≡◌, ℕ, ◌<◌, Bool, true, false, ◌&&◌, ◌==◌, nat_lt, if◌then◌else◌, List, [], ◌∷◌, ◌++◌, length, refl, sym, ◌∙◌, subst, arith}
use Rattle.std.proofs.lemmas.Bool.{eqb-true}
use Rattle.std.proofs.lemmas.Bool.Decides.{nat_tests}
use Rattle.file_messages.specs.Messages.{Message, Piece, End, Abandon, Other, start_of, message_of, start_message, piece_message, end_message, abandon_message}
use Rattle.byteorder.specs.Endian.{big_bytes}
use Rattle.file_messages.proofs.Starts.{IsLawfulMessage, IsNoEnd, lawful_start, no_end_start}

some_test : (kind n : ℕ) → kind ≡ 0 → 0 < n → ((kind == 0) && nat_lt 0 n) ≡ true
some_test kind n h k = grind (arith, nat_tests)

none_test : (kind n : ℕ) → (kind ≡ 0 → 0 < n → ⊥) → ((kind == 0) && nat_lt 0 n) ≡ false
none_test kind n h = grind (arith, nat_tests)

end_test : (kind n : ℕ) → kind ≡ 4 → n ≡ 0 → ((kind == 4) && (n == 0)) ≡ true
end_test kind n h k = grind (arith, nat_tests)

no_end_test : (kind n : ℕ) → (kind ≡ 4 → n ≡ 0 → ⊥) → ((kind == 4) && (n == 0)) ≡ false
no_end_test kind n h = grind (arith, nat_tests)

is_test : (kind n : ℕ) → kind ≡ n → (kind == n) ≡ true
is_test kind n h = grind (arith, nat_tests)

no_test : (kind n : ℕ) → (kind ≡ n → ⊥) → (kind == n) ≡ false
no_test kind n h = grind (arith, nat_tests)

module _ (kind : ℕ) (rest : List ℕ) where
  by_tests : Bool → Bool → Bool → Bool → Message
  by_tests piece start «end» abandon =
      if piece then Piece rest else if start then start_of rest else if «end» then End rest else if abandon then Abandon else Other

  tested : (piece start «end» abandon : Bool) → ((kind == 0) && nat_lt 0 (length rest)) ≡ piece → (kind == 2) ≡ start → (kind == 3) ≡ «end» → ((kind == 4) && (length rest == 0)) ≡ abandon
      → message_of (kind ∷ rest) ≡ by_tests piece start «end» abandon
  unfolding message_of by_tests
  tested piece start «end» abandon e f g h = λ i. by_tests (e i) (f i) (g i) (h i)

  pub a_piece : kind ≡ 0 → 0 < length rest → message_of (kind ∷ rest) ≡ Piece rest
  unfolding by_tests
  a_piece is some = tested true _ _ _ (some_test kind (length rest) is some) refl refl refl

  pub a_start : kind ≡ 2 → message_of (kind ∷ rest) ≡ start_of rest
  unfolding by_tests
  a_start is = tested false true _ _ (none_test kind (length rest) (λ e. absurd (omega (arith, is, e)))) (is_test kind 2 is) refl refl

  pub an_end : kind ≡ 3 → message_of (kind ∷ rest) ≡ End rest
  unfolding by_tests
  an_end is = tested false false true _ (none_test kind (length rest) (λ e. absurd (omega (arith, is, e)))) (no_test kind 2 (omega (arith, is))) (is_test kind 3 is) refl

  pub an_abandon : kind ≡ 4 → length rest ≡ 0 → message_of (kind ∷ rest) ≡ Abandon
  unfolding by_tests
  an_abandon is none = tested false false false true (none_test kind (length rest) (λ e. absurd (omega (arith, is, e)))) (no_test kind 2 (omega (arith, is))) (no_test kind 3 (omega (arith, is))) (end_test kind (length rest) is none)

  pub no_other : (kind ≡ 0 → 0 < length rest → ⊥) → (kind ≡ 2 → ⊥) → (kind ≡ 3 → ⊥) → (kind ≡ 4 → length rest ≡ 0 → ⊥) → message_of (kind ∷ rest) ≡ Other
  unfolding by_tests
  no_other a b c d = tested false false false false (none_test kind (length rest) a) (no_test kind 2 b) (no_test kind 3 c) (no_end_test kind (length rest) d)

  lawful_by : (piece start «end» abandon : Bool) → IsLawfulMessage (by_tests piece start «end» abandon)
  unfolding by_tests
  lawful_by true start «end» abandon = tt
  lawful_by false true «end» abandon = lawful_start rest
  lawful_by false false true abandon = tt
  lawful_by false false false true = tt
  lawful_by false false false false = tt

  pub lawful_bytes : IsLawfulMessage (message_of (kind ∷ rest))
  lawful_bytes = subst IsLawfulMessage (sym (tested _ _ _ _ refl refl refl refl)) (lawful_by _ _ _ _)

  -- an end is a byte 3 and the digest
  ends_by : (piece start «end» abandon : Bool) (digest : List ℕ) → (kind == 3) ≡ «end» → by_tests piece start «end» abandon ≡ End digest → kind ∷ rest ≡ end_message digest
  unfolding by_tests
  ends_by true start «end» abandon digest e is = absurd (cc is)
  ends_by false true «end» abandon digest e is = absurd (subst IsNoEnd is (no_end_start rest))
  ends_by false false true abandon digest e is = let three : kind ≡ 3 = eqb-true kind 3 e in let same : rest ≡ digest = cc is in λ i. three i ∷ same i
  ends_by false false false true digest e is = absurd (cc is)
  ends_by false false false false digest e is = absurd (cc is)

  pub ends_bytes : (digest : List ℕ) → message_of (kind ∷ rest) ≡ End digest → kind ∷ rest ≡ end_message digest
  ends_bytes digest is = ends_by _ _ _ _ digest refl (sym (tested _ _ _ _ refl refl refl refl) ∙ is)

pub lawful_message : (message : List ℕ) → IsLawfulMessage (message_of message)
unfolding message_of
lawful_message [] = tt
lawful_message (kind ∷ rest) = lawful_bytes kind rest

pub ends_with : (message digest : List ℕ) → message_of message ≡ End digest → message ≡ end_message digest
unfolding message_of
ends_with [] digest is = absurd (cc is)
ends_with (kind ∷ rest) digest is = ends_bytes kind rest digest is

-- some bytes of a file, or a byte 0 alone
pub no_end_piece : (piece : List ℕ) → IsNoEnd (message_of (piece_message piece))
no_end_piece [] = subst IsNoEnd (sym (no_other 0 [] (λ e some. omega (arith, some)) (λ e. omega (arith, e)) (λ e. omega (arith, e)) (λ e none. omega (arith, e)))) tt
no_end_piece (b ∷ bs) = subst IsNoEnd (sym (a_piece 0 (b ∷ bs) refl (omega arith))) tt

pub abandons : message_of abandon_message ≡ Abandon
abandons = an_abandon 4 [] refl refl

pub no_end_begin : (name : List ℕ) (size : ℕ) → IsNoEnd (message_of (start_message name size))
unfolding start_message
no_end_begin name size = subst IsNoEnd (sym (a_start 2 (1 ∷ big_bytes 8 size ++ name) refl)) (no_end_start (1 ∷ big_bytes 8 size ++ name))
