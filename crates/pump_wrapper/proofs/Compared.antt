-- The messages that a cutter gave, and a receiver has.
use Rattle.std.proofs.Common.{◌≡◌, ℕ, ◌+◌, ◌<◌, true, false, List, [], ◌∷◌, ◌++◌, Option, None, Some, Ok, Err, length, take, refl, sym, ◌∙◌, ap, arith, append_assoc, length-append}
use Rattle.std.specs.Io.KnownBytes.{Consumes}
use Rattle.std.proofs.KnownBytes.{Consumes-trans}
use Rattle.std.proofs.lemmas.List.{append_cancel_left}
use Rattle.file_cutter.specs.declared.pieces.Cut.{Cut}
use Rattle.file_cutter.specs.declared.pieces.Cut.TheVariants.{Message, Done}
use Rattle.file_cutter.specs.declared.pieces.Cut.TheVariants as cuts
use Rattle.pump_wrapper.specs.Cutting.{to_come, cut_bytes, Counts, Gave, GivesNext, IsTotal, Takes}
use Rattle.pump_wrapper.specs.Comparing.{Compares, SameBytes, TakesInAll}
use Rattle.pump_wrapper.specs.declared.cutter.Cutter.{Cutter}
use Rattle.pump_wrapper.specs.declared.compare.CompareFault.{CompareFault}
use Rattle.pump_wrapper.specs.declared.compare.CompareFault.TheVariants.{Differs, TooLong}

-- these are the first of those that were to come, and the others are to come
abbrev pub passed : List (List ℕ) → Cutter → Cutter → Option (List ℕ) → Option (List ℕ) → Type 0
passed messages old new left rest = Compares messages old new left rest (Ok tt)

pub none_passed : (cutter : Cutter) (left : Option (List ℕ)) → passed [] cutter cutter left left
none_passed cutter None = tt
none_passed cutter (Some left) = refl

-- the bytes of the file are the same
pub none_counted : (cutter : Cutter) (left : Option (List ℕ)) → SameBytes cutter cutter left left
none_counted cutter None = tt
none_counted cutter (Some left) = refl

pub one_counted : (old mid new : Cutter) (left between rest : Option (List ℕ)) (taken : List ℕ) → Consumes left between taken → SameBytes old mid left between → Counts Message mid new between rest → SameBytes old new left rest
one_counted old mid new None between rest taken c was counts = tt
one_counted old mid new (Some l) None rest taken c was counts = absurd c
one_counted old mid new (Some l) (Some b) None taken c was counts = tt
one_counted old mid new (Some l) (Some b) (Some r) taken c was counts = counts ∙ was

-- one more that is the same
pub one_passed : (messages more : List (List ℕ)) (message : List ℕ) (old mid new : Cutter) (left between rest : Option (List ℕ)) (taken : List ℕ) → Consumes left between taken → passed messages old mid left between → GivesNext mid new between rest message Message
    → messages ++ message ∷ [] ≡ more → passed more old new left rest
one_passed messages more message old mid new None between rest taken c was gives is = tt
one_passed messages more message old mid new (Some l) None rest taken c was gives is = absurd c
one_passed messages more message old mid new (Some l) (Some b) None taken c was gives is = tt
one_passed messages more message old mid new (Some l) (Some b) (Some r) taken c was gives is =
    was ∙ ap (λ (ms : List (List ℕ)). messages ++ ms) gives ∙ sym (append_assoc messages (message ∷ []) (to_come new r)) ∙ ap (λ (ms : List (List ℕ)). ms ++ to_come new r) is

-- no more messages are to come
pub ends_before : (messages : List (List ℕ)) (n : ℕ) (message given : List ℕ) (old mid new : Cutter) (left between rest : Option (List ℕ)) (taken : List ℕ) → Consumes left between taken → n < length messages → take n messages ++ message ∷ [] ≡ take (n + 1) messages
    → passed (take n messages) old mid left between → GivesNext mid new between rest given Done → Compares messages old new left rest (Err (Differs n))
ends_before messages n message given old mid new None between rest taken c lt more was gives = tt
ends_before messages n message given old mid new (Some l) None rest taken c lt more was gives = absurd c
ends_before messages n message given old mid new (Some l) (Some b) None taken c lt more was gives = tt
ends_before messages n message given old mid new (Some l) (Some b) (Some r) taken c lt more was gives = (
  lt,
  (to_come mid b, was),
  λ (later, is).
      let e = append_cancel_left (take n messages) (to_come mid b) (message ∷ later) (sym was ∙ is ∙ ap (λ (ms : List (List ℕ)). ms ++ later) (sym more) ∙ append_assoc (take n messages) (message ∷ []) later) in
      let none = sym gives ∙ e in cc,
)

-- another message is to come
pub differs_there : (messages : List (List ℕ)) (n : ℕ) (message wanted : List ℕ) (old mid new : Cutter) (left between rest : Option (List ℕ)) (taken : List ℕ) → Consumes left between taken → n < length messages → take n messages ++ message ∷ [] ≡ take (n + 1) messages
    → (message ≡ wanted → ⊥) → passed (take n messages) old mid left between → GivesNext mid new between rest wanted Message → Compares messages old new left rest (Err (Differs n))
differs_there messages n message wanted old mid new None between rest taken c lt more other was gives = tt
differs_there messages n message wanted old mid new (Some l) None rest taken c lt more other was gives = absurd c
differs_there messages n message wanted old mid new (Some l) (Some b) None taken c lt more other was gives = tt
differs_there messages n message wanted old mid new (Some l) (Some b) (Some r) taken c lt more other was gives = (
  lt,
  (to_come mid b, was),
  λ (later, is).
      let e = append_cancel_left (take n messages) (to_come mid b) (message ∷ later) (sym was ∙ is ∙ ap (λ (ms : List (List ℕ)). ms ++ later) (sym more) ∙ append_assoc (take n messages) (message ∷ []) later) in
      let heads = sym gives ∙ e in other (cc),
)

-- ---- the bytes that were read ----

module _ (start old new : Cutter) (left between rest : Option (List ℕ)) (taken bytes : List ℕ) (cut : Cut) (was : Consumes left between taken) (count : cut_bytes old ≡ (cut_bytes start) + length taken) (more : Consumes between rest bytes)
    (takes : Takes cut old new bytes) where
  all : Consumes left rest (taken ++ bytes)
  all = Consumes-trans _ _ _ _ _ was more

  size : length (taken ++ bytes) ≡ length taken + length bytes
  size = length-append taken bytes

  pub takes_stopped : (fault : CompareFault) → (fault ≡ TooLong → ⊥) → (cut ≡ cuts.TooLong → ⊥) → TakesInAll start new left rest (Err fault)
  takes_stopped fault other short =
      let few = takes.short short in
      (taken ++ bytes, all, (λ e. absurd (other (cc))), (λ e. omega (arith, few, count, size)), λ e. absurd (cc))

  pub takes_long : cut ≡ cuts.TooLong → TakesInAll start new left rest (Err TooLong)
  takes_long is = let full = takes.long is in (taken ++ bytes, all, (λ e. omega (arith, full, count, size)), (λ e. absurd (e refl)), λ e. absurd (cc))

  pub takes_on : (cut ≡ cuts.Failed → ⊥) → (xs : List ℕ) × Consumes left rest xs × ((cut_bytes new) ≡ (cut_bytes start) + length xs)
  takes_on other = let next = takes.counted other in (taken ++ bytes, all, omega (arith, next, count, size))

  pub gave_few : (cut ≡ cuts.TooLong → ⊥) → Gave (cut_bytes start) left rest false
  gave_few short = let few = takes.short short in (taken ++ bytes, all, (λ e. absurd (cc)), λ e. omega (arith, few, count, size))

  pub gave_all : cut ≡ cuts.TooLong → Gave (cut_bytes start) left rest true
  gave_all is = let full = takes.long is in (taken ++ bytes, all, (λ e. omega (arith, full, count, size)), λ e. absurd (cc))

-- all bytes of the file were read
pub total_is : (start now new : Cutter) (left rest last : Option (List ℕ)) (taken bytes : List ℕ) → Consumes left rest taken → Consumes rest last bytes → SameBytes start now left rest → Counts Done now new rest last → IsTotal start left (cut_bytes new)
total_is start now new None rest last taken bytes c d same counts = tt
total_is start now new (Some l) None last taken bytes c d same counts = absurd c
total_is start now new (Some l) (Some r) None taken bytes c d same counts = absurd d
total_is start now new (Some l) (Some r) (Some s) taken bytes c d same counts = counts ∙ same
