-- Whether a line can be applied, by what the parts keep.
use Rattle.std.proofs.Common.{◌≡◌, ℕ, ◌+◌, ◌-◌, ◌^◌, Bool, true, false, List, ◌∷◌, ◌++◌, map, length, drop, Option, None, Some, Result, Ok, Err, refl, sym, ap, ◌∙◌, inl, inr, arith, nat_lt, lt-ltb, length-append, length-drop, Bor}
use Rattle.std.specs.Prelude.{◌&&◌, ◌||◌, ◌==◌, not, nat_le, min, option_to_list, option_map, is_some}
use Rattle.std.proofs.lemmas.List.{length-map}
use Rattle.std.proofs.lemmas.Bool.Decides.{nat_tests}
use Rattle.circular_buffer.specs.Buffer.{keep_last}
use Rattle.disk_model.specs.Disk.{Meaning}
use Rattle.pump_frame.specs.declared.frame.Item.{Item}
use Rattle.high_process.specs.States as high
use Rattle.pump_core.specs.Passage.{Low, High}
use Rattle.passage.specs.Plain.{held_in, StandsFor as EndsStand}
use Rattle.script_reader.specs.declared.event.Event.{Event}
use Rattle.script_reader.specs.declared.head.Act.{Act}
use Rattle.script_reader.specs.declared.head.Act.TheVariants as acts
use Rattle.script_reader.specs.Heads.{act_with}
use Rattle.script_reader.specs.declared.line.Line.{Line as ScriptLine}
use Rattle.script_reader.specs.declared.line.Line.TheVariants as lines
use Rattle.script_reader.specs.Past.{Past}
use Rattle.script_reader.specs.Steps.{goes_on, kept, is_timely}
use Rattle.two_worlds.specs.declared.applied.Stop.{Stop}
use Rattle.two_worlds.specs.declared.applied.Stop.TheVariants.{Line, Device, Full, Disk}
use Rattle.two_worlds.specs.declared.pump.parts.Parts.{Parts}
use Rattle.two_worlds.specs.Standing.{Stands, number_of}
use Rattle.two_worlds.specs.Private.LineSteps.{Runs, Attempts}
use Rattle.two_worlds.specs.Timely.{goes_on_by, is_timely_by}
use Rattle.two_worlds.specs.Working.{Works}

some_less : (n : ℕ) (ns : List ℕ) → nat_lt 0 (length (n ∷ ns)) ≡ true
some_less n ns = lt-ltb 0 (length (n ∷ ns)) (omega arith)

hand_or_held : (hand : Option Item) (held : List Item) → (is_some hand || nat_lt 0 (length held)) ≡ nat_lt 0 (length (option_to_list (number_of hand) ++ map (λ (x : Item). x.number) held))
hand_or_held None held = ap (nat_lt 0) (sym (length-map held (λ (x : Item). x.number)))
hand_or_held (Some x) held = sym (some_less x.number (map (λ (x : Item). x.number) held))

module _ {D : Type 0} (m : Meaning D) (c : Parts D) (p : Past) (s : Stands m c p) where
  pub goes_is : goes_on_by c ≡ goes_on p.world
  goes_is =
      hand_or_held (high.hand_of c.high) (held_in c.ends)
      ∙ ap (λ (t : Option ℕ × List ℕ). nat_lt 0 (length (option_to_list t.0 ++ t.1))) (λ i. (sym s.world.high_hand i, sym s.world.held i))

kept_length : {X : Type 0} (before : ℕ) (xs kept_xs : List X) → kept_xs ≡ keep_last 64 (drop before xs) → length kept_xs ≡ kept before xs
kept_length before xs kept_xs e =
    ap length e ∙ length-drop (length (drop before xs) - 64) (drop before xs) ∙ few (length (drop before xs)) ∙ ap (min 64) (length-drop before xs) where
      few : (n : ℕ) → n - (n - 64) ≡ min 64 n
      few n = grind (arith, nat_tests)

module _ {D : Type 0} (m : Meaning D) (c : Parts D) (p : Past) where
  pub timely_is : (line : ScriptLine) → Stands m c p → is_timely_by c line ≡ is_timely c.row p line
  timely_is lines.Skip s = refl
  timely_is (lines.Session other) s = refl
  timely_is (lines.LowSession other next held) s = refl
  timely_is (lines.Coarse session) s = refl
  timely_is (lines.Told session moment w fault told a) s = refl
  timely_is (lines.Step session moment w) s = refl
  timely_is (lines.Look session moment w a) s = ap (λ (n : ℕ). session == c.row.id && nat_le n moment) s.moment
  timely_is (lines.Gone session moment) s = ap (λ (n : ℕ). session == c.row.id && nat_le n moment) s.moment
  timely_is (lines.High session moment) s = ap (λ (n : ℕ). session == c.row.id && nat_le n moment) s.moment
  timely_is (lines.Carry session back) s = ap (λ (n : ℕ). session == c.row.id && nat_lt back n) (kept_length 0 p.world.sent c.sent.items s.world.sent)
  timely_is (lines.Return session moment back) s =
      ap (λ (t : ℕ × ℕ). session == c.row.id && (nat_le t.0 moment && nat_lt back t.1)) (λ i. (s.moment i, kept_length p.returned_before p.world.returned c.returned.items s.world.returned.1 i))
  timely_is (lines.Restart session moment) s = ap (λ (n : ℕ). session == c.row.id && nat_le n moment) s.moment
  timely_is (lines.ReceiverRestart session moment) s = ap (λ (n : ℕ). session == c.row.id && nat_le n moment) s.moment
  timely_is (lines.Done session moment time) s =
      ap (λ (t : ℕ × Bool). session == c.row.id && (nat_le t.0 moment && (not t.1 || nat_le (moment + time) (2 ^ 62)))) (λ i. (s.moment i, goes_is m c p s i))

-- ---- lines that have a moment ----

and_more : (a b more : Bool) → (a && b) ≡ false → (a && (b && more)) ≡ false
and_more true true more e = absurd (cc)
and_more true false more e = refl
and_more false b more e = refl

-- of another session, or with a moment that falls
pub late_act : {D : Type 0} (c : Parts D) (bytes : List ℕ) (session moment : ℕ) (act : Act) → (session == c.row.id && nat_le c.moment moment) ≡ false
    → is_timely_by c (act_with bytes session moment act) ≡ false
late_act c bytes session moment (acts.Look w a) late = late
late_act c bytes session moment (acts.Told w fault told a) late = refl
late_act c bytes session moment (acts.Step w) late = refl
late_act c bytes session moment acts.Gone late = late
late_act c bytes session moment acts.High late = late
late_act c bytes session moment (acts.Return back) late = and_more (session == c.row.id) (nat_le c.moment moment) (nat_lt back (length c.returned.items)) late
late_act c bytes session moment (acts.Done time) late =
    and_more (session == c.row.id) (nat_le c.moment moment) (not (goes_on_by c) || nat_le (moment + time) (2 ^ 62)) late
late_act c bytes session moment acts.Restart late = late
late_act c bytes session moment acts.ReceiverRestart late = late

-- what was run after the test
module _ {D : Type 0} (m : Meaning D) (c : Parts D) (line : ScriptLine) (out : List Event) where
  pub untimely : is_timely_by c line ≡ false → Attempts m c c line out out (Err Line)
  untimely late p s = (refl, refl, inl (sym (timely_is m c p line s) ∙ late))

  pub attempted : (d : Parts D) (now : List Event) (result : Result (Unit {0}) Stop) → is_timely_by c line ≡ true → Runs m c d line out now result → Attempts m c d line out now result
  attempted d now (Ok done) timely runs p s = (sym (timely_is m c p line s) ∙ timely, runs p s)
  attempted d now (Err Line) timely runs p s = (let r = runs p s in (r.0, r.1, inr r.2))
  attempted d now (Err (Device role faults)) timely runs p s = (sym (timely_is m c p line s) ∙ timely, runs p s)
  attempted d now (Err (Full end k size)) timely runs p s = (sym (timely_is m c p line s) ∙ timely, runs p s)
  attempted d now (Err (Disk role why)) timely runs p s = absurd (runs p s)

-- ---- what the code asks ----

-- a hand that is lent is full where the hand is
pub hand_lent : (lent : Option (Bor Item)) (hand : Option Item) → option_map (λ (item : Bor Item). item.now) lent ≡ hand → is_some hand ≡ is_some lent
hand_lent None hand e = ap is_some (sym e)
hand_lent (Some x) hand e = ap is_some (sym e)

-- so many are held as were forwarded and not taken up
pub held_is : {D : Type 0} (m : Meaning D) (c : Parts D) (n : ℕ) → Works m c → ((l : Low) (h : High) → EndsStand c.ends l h → length l.forwarded ≡ length h.taken + n) → n ≡ length (held_in c.ends)
held_is m c n w count =
    let e = w.ends in
    let all = ap length e.stand.between in
    let both = length-append e.high.taken (held_in c.ends) in
    let is = count e.low e.high e.stand in
    omega (arith, all, both, is)

-- the hand is empty, and so many are held
pub goes_held : {D : Type 0} (c : Parts D) (n : ℕ) → is_some (high.hand_of c.high) ≡ false → n ≡ length (held_in c.ends) → nat_lt 0 n ≡ goes_on_by c
goes_held c n none held = ap (nat_lt 0) held ∙ sym (ap (λ (b : Bool). b || nat_lt 0 (length (held_in c.ends))) none)
