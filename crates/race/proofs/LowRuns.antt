-- One look more of the low work.
use Rattle.std.proofs.Common.{◌≡◌, Bool, true, false, List, [], ◌∷◌, ◌++◌, length, refl, sym, subst, append-nil, append_assoc}
use Rattle.std.specs.Prelude.{if◌then◌else◌}
use Rattle.pump_link.specs.Tells.{Draws}
use Rattle.relay_threads.specs.Records.{Made, is_recorded, recorded, record_of, made_of}
use Rattle.relay_threads.specs.RecordLines.{look_text, looks_text}
use Rattle.script_reader.specs.Generated.{generated_row}
use Rattle.race.specs.Race.{look_lines}

pub draws_none : {A : Type 0} (p : List A → Type 0) → Draws p p []
draws_none p = record { told = λ rest h. h }

pub draws_then : {A : Type 0} (p q r : List A → Type 0) (xs ys : List A) → Draws p q xs → Draws q r ys → Draws p r (xs ++ ys)
draws_then p q r xs ys a b = record { told = λ rest h. subst p (sym (append_assoc xs ys rest)) (a.told (ys ++ rest) (b.told rest h)) }

more_by : (b : Bool) (m : Made) (before : List Made) → looks_text generated_row (record_of before) ++ (if b then look_text generated_row m else [])
    ≡ looks_text generated_row (made_of (if b then record { number = length before; made = m } ∷ recorded before else recorded before))
more_by true m before = refl
more_by false m before = append-nil (looks_text generated_row (record_of before))

pub looks_more : (m : Made) (before : List Made) → looks_text generated_row (record_of before) ++ look_lines before m ≡ looks_text generated_row (record_of (m ∷ before))
looks_more m before = more_by (is_recorded before m) m before
