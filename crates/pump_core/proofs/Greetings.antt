-- A greeting is read in one way: no name has a colon.
use Rattle.std.proofs.Common.{◌≡◌, ℕ, Bool, true, false, List, [], ◌∷◌, ◌++◌, refl, sym, ap, ◌∙◌}
use Rattle.std.specs.Prelude.{◌&&◌, ◌==◌}
use Rattle.std.specs.List.{list_all}
use Rattle.std.specs.Str.{bytes_eq}
use Rattle.std.proofs.lemmas.Bool.{eqb-true}
use Rattle.std.proofs.Math.Bool.{and_assoc}
use Rattle.pump_frame.specs.declared.frame.Frame.{Frame}
use Rattle.pump_frame.specs.declared.row.SessionRow.{SessionRow}
use Rattle.pump_frame.specs.Frames.{greeting}
use Rattle.pump_frame.specs.Names.{IsName, is_name_byte}
use Rattle.pump_frame.specs.Rows.{permits}
use Rattle.pump_core.specs.Exchanges.{permits_frame}

first_holds : (b c : Bool) → (b && c) ≡ true → b ≡ true
first_holds true c e = refl
first_holds false c e = absurd (cc)

second_holds : (b c : Bool) → (b && c) ≡ true → c ≡ true
second_holds true c e = e
second_holds false c e = absurd (cc)

-- a byte of a name is no colon
no_colon : (b : ℕ) → is_name_byte b ≡ true → (b == 58) ≡ false
no_colon b plain = elim (b == 58) as (λ t. (b == 58) ≡ t → (b == 58) ≡ false) [
  | true ↦ λ e. let is : b ≡ 58 = eqb-true b 58 e in let bad : false ≡ true = sym (ap is_name_byte is) ∙ plain in absurd (cc)
  | false ↦ λ e. e
] refl

no_colon_before : (b : ℕ) → is_name_byte b ≡ true → (58 == b) ≡ false
no_colon_before b plain = elim (58 == b) as (λ t. (58 == b) ≡ t → (58 == b) ≡ false) [
  | true ↦ λ e. let is : 58 ≡ b = eqb-true 58 b e in let bad : false ≡ true = ap is_name_byte is ∙ plain in absurd (cc)
  | false ↦ λ e. e
] refl

-- two greetings are equal where their names are
same_names : (low low' high high' : List ℕ) → list_all is_name_byte low ≡ true → list_all is_name_byte low' ≡ true → bytes_eq (greeting low high) (greeting low' high') ≡ (bytes_eq low low' && bytes_eq high high')
same_names [] [] high high' h h' = refl
same_names [] (b ∷ bs) high high' h h' = ap (λ t. t && bytes_eq high (bs ++ 58 ∷ high')) (no_colon_before b (first_holds _ _ h'))
same_names (a ∷ as') [] high high' h h' = ap (λ t. t && bytes_eq (as' ++ 58 ∷ high) high') (no_colon a (first_holds _ _ h))
same_names (a ∷ as') (b ∷ bs) high high' h h' =
    ap (λ t. (a == b) && t) (same_names as' bs high high' (second_holds _ _ h) (second_holds _ _ h'))
    ∙ sym (and_assoc (a == b) (bytes_eq as' bs) (bytes_eq high high'))

pub permits_by_name : (row : SessionRow) (f : Frame) (low high : List ℕ) → IsName row.low → IsName row.high → IsName low → IsName high → f.payload ≡ greeting low high → permits_frame row f ≡ permits row f.session low high
permits_by_name row f low high is_low is_high is_low' is_high' e =
    ap (λ p. f.session == row.id && bytes_eq p (greeting row.low row.high)) e
    ∙ ap (λ t. f.session == row.id && t) (same_names low row.low high row.high is_low'.plain is_low.plain)
    ∙ sym (and_assoc (f.session == row.id) (bytes_eq low row.low) (bytes_eq high row.high))
