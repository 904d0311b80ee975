-- What a low look leaves of the passage.
use Rattle.std.proofs.Common.{◌≡◌, ℕ, ◌+◌, ◌<◌, Bool, true, false, List, [], ◌∷◌, ◌++◌, length, Option, Some, None, refl, sym, ap, ◌∙◌, arith, append_assoc, length-append}
use Rattle.std.specs.Prelude.{◌==◌}
use Rattle.std.proofs.lemmas.Bool.{eq-eqb, ne_eqb}
use Rattle.std.proofs.lemmas.List.{append_cancel_left}
use Rattle.pump_frame.specs.Averages.{average_of}
use Rattle.pump_frame.specs.declared.frame.Item.{Item}
use Rattle.pump_core.specs.declared.feedback.Seen.{Seen}
use Rattle.pump_core.specs.declared.feedback.Feedback.{Feedback}
use Rattle.pump_core.specs.declared.feedback.Feedback.TheVariants.{Quiet, Full, Passed, Released, Repeat}
use Rattle.pump_core.specs.Passage.{Low, High, forwards, tried, read_pair}
use Rattle.passage.specs.declared.plain.PlainEnds.{PlainEnds}
use Rattle.passage.specs.Plain.{StandsFor, shape_of, held_in}
use Rattle.low_process.specs.declared.process.LowProcess.{LowProcess}
use Rattle.low_process.specs.Ends.{FitsEnd, StandsFitting, EndStep}
use Rattle.two_worlds.proofs.Low.Told.{LookHead, moves}
use Rattle.two_worlds.proofs.Low.Worlds.{held_by}

-- all places between the hands are taken
abbrev pub is_full : PlainEnds → Bool
is_full e = length (held_in e) == (shape_of e).places

-- what a read gives
abbrev pub seen_of : PlainEnds → High → Seen
seen_of e h = record { count = length h.times; average = average_of (shape_of e).averaging h.times }

-- the ends after a look, and what the passage told
pub record Passes (e e' : PlainEnds) (q : LowProcess) (h : High) (hand : Option Item) (f : Feedback) : Type 0 where
  pub low : Low
  pub stand : StandsFor e' low h
  pub fits : FitsEnd q low
  pub items : held_in e' ≡ held_by hand (held_in e) (moves f)
  pub head : LookHead (is_full e) (seen_of e h) f

same_items : (xs is bs cs : List Item) → xs ≡ cs ++ is → xs ≡ cs ++ bs → is ≡ bs
same_items xs is bs cs one two = append_cancel_left cs is bs (sym one ∙ two)

more_items : (xs is bs cs : List Item) (x : Item) → xs ≡ cs ++ is → xs ++ x ∷ [] ≡ cs ++ bs → bs ≡ is ++ x ∷ []
more_items xs is bs cs x one two = append_cancel_left cs bs (is ++ x ∷ []) (sym two ∙ ap (λ z. z ++ x ∷ []) one ∙ append_assoc cs is (x ∷ []))

-- there was room
not_full : (e : PlainEnds) (l : Low) (h : High) → StandsFor e l h → length l.forwarded < length h.taken + (shape_of e).places → is_full e ≡ false
not_full e l h s less = ne_eqb (length (held_in e)) (shape_of e).places (λ same. absurd (omega (arith, less, same, ap length s.between, length-append h.taken (held_in e))))

full : (e : PlainEnds) (l : Low) (h : High) (taken : ℕ) → StandsFor e l h → length l.forwarded ≡ taken + (shape_of e).places → taken ≡ length h.taken → is_full e ≡ true
full e l h taken s is all = eq-eqb (length (held_in e)) (shape_of e).places (omega (arith, is, all, ap length s.between, length-append h.taken (held_in e)))

pub passes : (e e' : PlainEnds) (q : LowProcess) (l : Low) (h : High) (hand : Option Item) (f : Feedback) → StandsFor e l h
    → EndStep (shape_of e) true (StandsFitting (StandsFor e') q) l h hand f → Passes e e' q h hand f
passes e e' q l h hand Quiet s p = record {
  low = l;
  stand = p.0;
  fits = p.1;
  items = same_items l.forwarded (held_in e') (held_in e) h.taken p.0.between s.between;
  head = tt;
}
passes e e' q l h hand Full s p = record {
  low = tried l p.0;
  stand = p.3.0;
  fits = p.3.1;
  items = same_items l.forwarded (held_in e') (held_in e) h.taken p.3.0.between s.between;
  head = full e l h p.0 s p.1 (p.2 refl);
}
passes e e' q l h None (Passed seen) s p = absurd p
passes e e' q l h (Some x) (Passed seen) s p =
    let pair = p.1.1 refl in
    record {
      low = read_pair (forwards l x) seen.count seen.average;
      stand = p.1.2.0;
      fits = p.1.2.1;
      items = more_items l.forwarded (held_in e) (held_in e') h.taken x s.between p.1.2.0.between;
      head = (not_full e l h s (p.0 refl), λ i. record { count = pair.0 i; average = pair.1 i });
    }
passes e e' q l h None Released s p = absurd p
passes e e' q l h (Some x) Released s p = record {
  low = forwards l x;
  stand = p.1.0;
  fits = p.1.1;
  items = more_items l.forwarded (held_in e) (held_in e') h.taken x s.between p.1.0.between;
  head = not_full e l h s (p.0 refl);
}
passes e e' q l h hand (Repeat seen) s p =
    let pair = p.1 refl in
    record {
      low = read_pair l seen.count seen.average;
      stand = p.2.0;
      fits = p.2.1;
      items = same_items l.forwarded (held_in e') (held_in e) h.taken p.2.0.between s.between;
      head = λ i. record { count = pair.0 i; average = pair.1 i };
    }
