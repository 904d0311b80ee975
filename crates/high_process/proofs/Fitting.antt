-- After a look the high end of the passage fits the process again.
use Rattle.std.proofs.Common.{◌≡◌, ℕ, ◌≤◌, Bool, true, false, List, [], ◌∷◌, ◌++◌, length, Option, Some, None, refl, sym, ap, ◌∙◌, subst, arith, append-nil, length-append}
use Rattle.std.specs.Prelude.{option_to_list}
use Rattle.pump_frame.specs.declared.frame.Item.{Item}
use Rattle.pump_core.specs.Passage.{Shape, Low, High, takes, sought}
use Rattle.high_process.specs.declared.values.HighLook.{HighLook}
use Rattle.high_process.specs.declared.values.Task.{Task}
use Rattle.high_process.specs.declared.values.Task.TheVariants.{Refuse, Remove, Keep}
use Rattle.high_process.specs.declared.process.HighProcess.{HighProcess}
use Rattle.pump_core.specs.Sendings.{expected}
use Rattle.high_process.specs.Past.{ProcessPast, begun, next_time, published_in, taken_up, finished, wants}
use Rattle.high_process.specs.Ends.{TakesUp, told_time, FitsEnd, StandsFitting}
use Rattle.high_process.specs.Looks.{StandsFor, Looked}
use Rattle.high_process.proofs.Looking.{expected_near}

told_count : (o : Option ℕ) (h : High) (times : List ℕ) → length h.times ≡ length times → length (told_time o h).times ≡ length (times ++ option_to_list o)
told_count None h times e = e ∙ ap length (sym (append-nil times))
told_count (Some x) h times e = omega (arith, e, length-append h.times (x ∷ []), length-append times (x ∷ []))

told_floor : (o : Option ℕ) (h : High) → (told_time o h).floor ≡ h.floor
told_floor None h = refl
told_floor (Some x) h = refl

-- the end fits the past
record Fit (h : High) (t : ProcessPast) : Type 0 where
  pub count : length h.times ≡ length t.times
  pub floor : h.floor ≤ expected t.removed t.hand

fit_from : (p : HighProcess) (t : ProcessPast) (h : High) → StandsFor p t → FitsEnd p h → Fit h t
fit_from p t h stands fits = record {
  count = fits.count ∙ stands.holds.count;
  floor = subst (λ (c : ℕ × Option Item). h.floor ≤ expected c.0 c.1) (λ i. (stands.holds.removed i, stands.holds.hand i)) fits.floor;
}

fits_from : (q : HighProcess) (t : ProcessPast) (h : High) → StandsFor q t → Fit h t → FitsEnd q h
fits_from q t h stands fit = record {
  count = fit.count ∙ sym stands.holds.count;
  floor = subst (λ (c : ℕ × Option Item). h.floor ≤ expected c.0 c.1) (λ i. (sym stands.holds.removed i, sym stands.holds.hand i)) fit.floor;
}

fit_begun : (task : Task) (t : ProcessPast) (m : ℕ) (h : High) → Fit h t → Fit (told_time (published_in task t m) h) (begun task t m)
fit_begun Remove t m h fit = record {
  count = told_count (next_time t m) h t.times fit.count;
  floor = omega (arith, fit.floor, told_floor (next_time t m) h, expected_near t.removed t.hand);
}
fit_begun Keep t m h fit = fit
fit_begun (Refuse e) t m h fit = fit

takes_fits : (s : Shape) (on_one_thread : Bool) (after : Low → High → Type 0) (l : Low) (h : High) (q : HighProcess) (b : Bool) (t : ProcessPast) (got : Option Item)
    → Fit h t → ((k : High) → Fit k (taken_up t got) → FitsEnd q k) → TakesUp s on_one_thread after l h b t.removed got → TakesUp s on_one_thread (StandsFitting after q) l h b t.removed got
takes_fits s on_one_thread after l h q true t (Some x) fit ends (is, stands) = (is, (stands, ends (takes h x t.removed) (record { count = fit.count; floor = omega arith })))
takes_fits s on_one_thread after l h q true t None fit ends (is, stands) = (is, (stands, ends (sought h (length h.taken)) (record { count = fit.count; floor = fit.floor })))
takes_fits s on_one_thread after l h q false t got fit ends (none, stands) = (none, (stands, ends h (subst (λ g. Fit h (taken_up t g)) (sym none) fit)))

pub looked_fitting : (s : Shape) (on_one_thread : Bool) (after : Low → High → Type 0) (l : Low) (h : High) (p q : HighProcess) (t : ProcessPast) (m : ℕ) (task : Task) (a : Bool) (look : HighLook)
    → StandsFor p t → FitsEnd p h → Looked s on_one_thread after l h p q t m task a look → Looked s on_one_thread (StandsFitting after q) l h p q t m task a look
looked_fitting s on_one_thread after l h p q t m task a look stands fits seen =
    let u : ProcessPast = begun task t m in
    record {
      got = seen.got;
      ends = takes_fits s on_one_thread after l (told_time (published_in task t m) h) q (wants u) u seen.got (fit_begun task t m h (fit_from p t h stands fits))
          (λ k fit. fits_from q (finished p.row.resend a (taken_up u seen.got) m) k seen.stands (record { count = fit.count; floor = fit.floor })) seen.ends;
      stands = seen.stands;
      is = seen.is;
    }

takes_some : (s : Shape) (on_one_thread : Bool) (after : Low → High → Type 0) (l : Low) (h : High) (b : Bool) (n : ℕ) (got : Option Item) → TakesUp s on_one_thread after l h b n got → (l' : Low) × ((h' : High) × after l' h')
takes_some s on_one_thread after l h true n (Some x) (is, stands) = (l, (takes h x n, stands))
takes_some s on_one_thread after l h true n None (is, stands) = (l, (sought h (length h.taken), stands))
takes_some s on_one_thread after l h false n got (none, stands) = (l, (h, stands))

-- there is something that the end and the process stand for after a look
pub looked_some : (s : Shape) (on_one_thread : Bool) (after : Low → High → Type 0) (l : Low) (h : High) (p q : HighProcess) (t : ProcessPast) (m : ℕ) (task : Task) (a : Bool) (look : HighLook)
    → Looked s on_one_thread after l h p q t m task a look → (l' : Low) × ((h' : High) × ((t' : ProcessPast) × (after l' h' × StandsFor q t')))
looked_some s on_one_thread after l h p q t m task a look seen =
    let u : ProcessPast = begun task t m in
    let e = takes_some s on_one_thread after l (told_time (published_in task t m) h) (wants u) u.removed seen.got seen.ends in
    (e.0, (e.1.0, (finished p.row.resend a (taken_up u seen.got) m, (e.1.1, seen.stands))))
