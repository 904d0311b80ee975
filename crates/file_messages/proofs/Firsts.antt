-- The first messages of files.
use Rattle.std.proofs.Common.{◌≡◌, ℕ, ◌<◌, ◌≤◌, ◌⊎◌, inl, inr, List, [], ◌∷◌, ◌++◌, length, refl, sym, ◌∙◌, ap, subst, arith, append_assoc, length-append}
use Rattle.std.specs.List.{AllByRecursion}
use Rattle.file_messages.specs.Files.{File, IsLawfulFile, Between, files}
use Rattle.file_messages.specs.Cuts.{begun, end_of, cut, cut_all, BeginsNext}
use Rattle.file_messages.proofs.Lists.{all_before}
use Rattle.file_messages.proofs.Broken.{NoEnd, none_given, no_end_begun}
use Rattle.file_messages.proofs.Wholes.{files_behind}

abbrev Messages : Type 0
Messages = List (List ℕ)

-- of two ways to part a list, the one goes on behind the other
parted : (xs ys ms ns : Messages) → xs ++ ys ≡ ms ++ ns
    → ((rest : Messages) × (0 < length rest) × (xs ≡ ms ++ rest)) ⊎ ((more : Messages) × (ms ≡ xs ++ more) × (ys ≡ more ++ ns))
parted [] ys ms ns e = inr (ms, refl, e)
parted (x ∷ xs) ys [] ns e = inl (x ∷ xs, omega arith, refl)
parted (x ∷ xs) ys (m ∷ ms) ns e =
    let head : x ≡ m = cc e in
    let tail : xs ++ ys ≡ ms ++ ns = cc e in
    elim (parted xs ys ms ns tail) [
      | inl (rest, some, is) ↦ inl (rest, some, λ i. head i ∷ is i)
      | inr (more, is, later) ↦ inr (more, λ i. sym head i ∷ is i, later)
    ]

-- without the last one
but_last : (xs : Messages) (x : List ℕ) (ms rest : Messages) → 0 < length rest → xs ++ x ∷ [] ≡ ms ++ rest → (left : Messages) × (xs ≡ ms ++ left)
but_last xs x [] rest some e = (xs, refl)
but_last [] x (m ∷ ms) rest some e = absurd (omega (arith, some, ap length e, length-append ms rest))
but_last (y ∷ ys) x (m ∷ ms) rest some e =
    let head : y ≡ m = cc e in
    let tail : ys ++ x ∷ [] ≡ ms ++ rest = cc e in
    let (left, is) = but_last ys x ms rest some tail in
    (left, λ i. head i ∷ is i)

nothing : (ms ns : Messages) → [] ≡ ms ++ ns → ms ≡ []
nothing [] ns e = refl
nothing (m ∷ ms) ns e = absurd (cc e)

abbrev IsFirst : ℕ → List File → Messages → Type 0
IsFirst message all messages =
    (whole left : List File) × (part : List (List ℕ)) × (all ≡ whole ++ left) × (messages ≡ cut_all message whole ++ part) × BeginsNext message left part × (files messages ≡ whole)

-- some of the first file
some_first : (message : ℕ) (f : File) (fs : List File) (messages rest : Messages) → 0 < length rest → cut message f ≡ messages ++ rest → IsFirst message (f ∷ fs) messages
some_first message f fs messages rest some e =
    let left = but_last (begun message f) (end_of f) messages rest some e in
    let none = all_before NoEnd messages left.0 (subst (AllByRecursion NoEnd) left.1 (no_end_begun message f)) in
    ([], f ∷ fs, messages, refl, refl, left, none_given Between messages none)

-- all of it, and more
whole_first : (message : ℕ) (f : File) (fs : List File) (messages more : Messages) → 2 ≤ message → IsLawfulFile f → messages ≡ cut message f ++ more → IsFirst message fs more
    → IsFirst message (f ∷ fs) messages
whole_first message f fs messages more two lawful is (whole, left, part, all, prefix, begins, gives) = (
  f ∷ whole,
  left,
  part,
  ap (λ (l : List File). f ∷ l) all,
  is ∙ ap (λ (l : Messages). cut message f ++ l) prefix ∙ sym (append_assoc (cut message f) (cut_all message whole) part),
  begins,
  ap files is ∙ files_behind message f more two lawful ∙ ap (λ (l : List File). f ∷ l) gives,
)

pub first_files : (message : ℕ) (all : List File) (messages later : Messages) → 138 ≤ message → AllByRecursion IsLawfulFile all → cut_all message all ≡ messages ++ later → IsFirst message all messages
first_files message [] messages later most h e =
    let none = nothing messages later e in
    ([], [], messages, refl, refl, none, ap files none)
first_files message (f ∷ fs) messages later most (lawful, h) e =
    elim (parted (cut message f) (cut_all message fs) messages later e) [
      | inl (rest, some, is) ↦ some_first message f fs messages rest some is
      | inr (more, is, rest) ↦ whole_first message f fs messages more (omega (arith, most)) lawful is (first_files message fs more later most h rest)
    ]
