-- What a high look does with the passage.
use Rattle.std.proofs.Common.{◌≡◌, ℕ, ◌+◌, Bool, true, false, List, [], ◌∷◌, ◌++◌, length, Option, Some, None, refl, sym, ap, ◌∙◌, arith, append_assoc, append-nil, length-append}
use Rattle.std.specs.Prelude.{option_to_list}
use Rattle.std.proofs.lemmas.List.{append_cancel_left, nil_from_length}
use Rattle.pump_frame.specs.declared.frame.Item.{Item}
use Rattle.pump_core.specs.Passage.{Shape, Low, High, takes, sought}
use Rattle.passage.specs.declared.plain.PlainEnds.{PlainEnds}
use Rattle.passage.specs.Plain.{held_in, StandsFor}
use Rattle.high_process.specs.Ends.{TakesUp, told_time, FitsEnd, StandsFitting}
use Rattle.high_process.specs.declared.process.HighProcess.{HighProcess}
use Rattle.two_worlds.proofs.High.Sendings.{Fetched}

told_taken : (o : Option ℕ) (h : High) → (told_time o h).taken ≡ h.taken
told_taken None h = refl
told_taken (Some x) h = refl

told_times : (o : Option ℕ) (h : High) → (told_time o h).times ≡ h.times ++ option_to_list o
told_times None h = sym (append-nil h.times)
told_times (Some x) h = refl

-- the ends after a look, and what they gave
pub record FetchedBy (ends : PlainEnds) (q : HighProcess) (l : Low) (times : List ℕ) (held : List Item) (b : Bool) (got : Option Item) : Type 0 where
  pub high : High
  pub stand : StandsFor ends l high
  pub fits : FitsEnd q high
  pub times_are : high.times ≡ times
  pub fetched : Fetched b held got (held_in ends)

pub fetched_by : (s : Shape) (old ends : PlainEnds) (q : HighProcess) (l : Low) (h : High) (o : Option ℕ) (b : Bool) (removed : ℕ) (got : Option Item)
    → StandsFor old l h → TakesUp s true (StandsFitting (StandsFor ends) q) l (told_time o h) b removed got
    → FetchedBy ends q l (h.times ++ option_to_list o) (held_in old) b got
fetched_by s old ends q l h o true removed (Some x) stood (is, both) =
    record {
      high = takes (told_time o h) x removed;
      stand = both.0;
      fits = both.1;
      times_are = told_times o h;
      fetched = append_cancel_left h.taken (held_in old) (x ∷ held_in ends)
          (sym stood.between ∙ both.0.between ∙ ap (λ (t : List Item). (t ++ x ∷ []) ++ held_in ends) (told_taken o h) ∙ append_assoc h.taken (x ∷ []) (held_in ends));
    }
fetched_by s old ends q l h o true removed None stood (is, both) =
    let long : length (told_time o h).taken ≡ length l.forwarded = is refl in
    let all : length l.forwarded ≡ length h.taken + length (held_in old) = ap length stood.between ∙ length-append h.taken (held_in old) in
    let taken : length (told_time o h).taken ≡ length h.taken = ap length (told_taken o h) in
    let none : held_in old ≡ [] = nil_from_length (held_in old) (omega (arith, long, all, taken)) in
    record {
      high = sought (told_time o h) (length (told_time o h).taken);
      stand = both.0;
      fits = both.1;
      times_are = told_times o h;
      fetched = (none, append_cancel_left h.taken (held_in ends) (held_in old) (ap (λ (t : List Item). t ++ held_in ends) (sym (told_taken o h)) ∙ sym both.0.between ∙ stood.between) ∙ none);
    }
fetched_by s old ends q l h o false removed got stood (none, both) =
    record {
      high = told_time o h;
      stand = both.0;
      fits = both.1;
      times_are = told_times o h;
      fetched = (none, append_cancel_left h.taken (held_in ends) (held_in old) (ap (λ (t : List Item). t ++ held_in ends) (sym (told_taken o h)) ∙ sym both.0.between ∙ stood.between));
    }
