-- A line that stops a script leads nowhere, and stops it in one way.
use Rattle.std.proofs.Common.{◌≡◌, ℕ, ◌+◌, true, false, List, [], ◌∷◌, ◌++◌, length, Option, Some, None, refl, sym, ap, ◌∙◌, subst, append_assoc}
use Rattle.std.proofs.lemmas.Bool.{both_ways}
use Rattle.std.proofs.lemmas.Option.{same_Some}
use Rattle.pump_frame.specs.declared.frame.Item.{Item}
use Rattle.pump_frame.specs.declared.row.SessionRow.{SessionRow}
use Rattle.pump_core.specs.World.{World}
use Rattle.script_reader.specs.declared.line.Line.{Line}
use Rattle.script_reader.specs.declared.line.Line.TheVariants as lines
use Rattle.script_reader.specs.declared.fault.Fault.{Fault}
use Rattle.script_reader.specs.declared.fault.Fault.TheVariants as faults
use Rattle.script_reader.specs.declared.event.Event.{Event}
use Rattle.script_reader.specs.Past.{Past}
use Rattle.script_reader.specs.Openings.{Openings}
use Rattle.script_reader.specs.Alone.{PastAlone}
use Rattle.script_reader.specs.Highs.{IsCarried, overfills, IsOverfull}
use Rattle.script_reader.specs.Steps.{IsCarriedBack as GoesOnCarried, LineStep, Overfills}
use Rattle.script_reader.specs.Scripts.{Begun, Whole, Alone, GoesOn, Leads, LeadTo, Stops, IsTranscript}
use Rattle.script_reader.proofs.One.{high_one}
use Rattle.script_reader.proofs.OneLow.{step_low_one, one_outcome}
use Rattle.script_reader.proofs.OneScript.{lead_one}
use Rattle.script_reader.proofs.Leading.{led}

-- ---- a message that does not fit ----

overfull_carries : (s : SessionRow) (p : Past) (back end n size : ℕ) (q : Past) (printed : List Event) → IsOverfull p.world back end n size → IsCarried s p back q printed → ⊥
overfull_carries s p back end n size q printed o c =
    let d : o.packet ≡ c.packet = same_Some o.packet c.packet (sym o.at ∙ c.at) in
    both_ways (overfills p.world c.packet) c.fits (ap (overfills p.world) (sym d) ∙ o.over)

overfull_goes : (s : SessionRow) (p : Past) (hand : Option ℕ) (k m end n size : ℕ) (q : Past) (printed : List Event) → hand ≡ Some k → IsOverfull p.world 0 end n size → GoesOnCarried s hand p m q printed → ⊥
overfull_goes s p None k m end n size q printed e o g = cc e
overfull_goes s p (Some x) k m end n size q printed e o (mid, first, second, c, h, f) = overfull_carries s p 0 end n size mid first o c

overfills_steps : (s : SessionRow) (p : Past) (line : Line) (r : Past) (first : List Event) (end n size : ℕ) (q : Past) (printed : List Event) → Overfills s p line r first end n size → LineStep s p line q printed → ⊥
overfills_steps s p (lines.Carry session back) r first end n size q printed h k = overfull_carries s p back end n size q printed h.0 k
overfills_steps s p (lines.Done session m t) r first end n size q printed (h, (number, hand), o) (mid, a, b, h', g, e) =
    let same = high_one s p m None r mid first a h h' in
    overfull_goes s r r.world.high_hand number (m + t) end n size q b hand o (subst (λ (u : Past). GoesOnCarried s u.world.high_hand u (m + t) q b) (sym same.past) g)
overfills_steps s p lines.Skip r first end n size q printed h k = absurd h
overfills_steps s p (lines.Session row) r first end n size q printed h k = absurd h
overfills_steps s p (lines.LowSession row next held) r first end n size q printed h k = absurd h
overfills_steps s p (lines.Coarse session) r first end n size q printed h k = absurd h
overfills_steps s p (lines.Look session m w z) r first end n size q printed h k = absurd h
overfills_steps s p (lines.Told session m w fault told z) r first end n size q printed h k = absurd h
overfills_steps s p (lines.Step session m w) r first end n size q printed h k = absurd h
overfills_steps s p (lines.Gone session m) r first end n size q printed h k = absurd h
overfills_steps s p (lines.High session m) r first end n size q printed h k = absurd h
overfills_steps s p (lines.Return session m back) r first end n size q printed h k = absurd h
overfills_steps s p (lines.Restart session m) r first end n size q printed h k = absurd h
overfills_steps s p (lines.ReceiverRestart session m) r first end n size q printed h k = absurd h

overfull_one : (id : ℕ) (w : World) (back end n size end' n' size' : ℕ) → IsOverfull w back end n size → IsOverfull w back end' n' size' → faults.Full id end n size ≡ faults.Full id end' n' size'
overfull_one id w back end n size end' n' size' h k =
    let d : h.packet ≡ k.packet = same_Some h.packet k.packet (sym h.at ∙ k.at) in
    let a : end ≡ end' = h.end_is ∙ sym k.end_is in
    let b : n ≡ n' = h.length_is ∙ ap (λ (x : Item). length x.payload) d ∙ sym k.length_is in
    let c : size ≡ size' = h.size_is ∙ sym k.size_is in
    λ i. faults.Full id (a i) (b i) (c i)

overfills_one : (s : SessionRow) (p : Past) (line : Line) (q r : Past) (xs ys : List Event) (end n size end' n' size' : ℕ) → Overfills s p line q xs end n size → Overfills s p line r ys end' n' size'
    → (q ≡ r) × (xs ≡ ys) × (faults.Full s.id end n size ≡ faults.Full s.id end' n' size')
overfills_one s p (lines.Carry session back) q r xs ys end n size end' n' size' h k = (h.1 ∙ sym k.1, h.2 ∙ sym k.2, overfull_one s.id p.world back end n size end' n' size' h.0 k.0)
overfills_one s p (lines.Done session m t) q r xs ys end n size end' n' size' (h, hand, o) (h', hand', o') =
    let same = high_one s p m None q r xs ys h h' in
    (same.past, same.printed, overfull_one s.id q.world 0 end n size end' n' size' o (subst (λ (u : Past). IsOverfull u.world 0 end' n' size') (sym same.past) o'))
overfills_one s p lines.Skip q r xs ys end n size end' n' size' h k = absurd h
overfills_one s p (lines.Session row) q r xs ys end n size end' n' size' h k = absurd h
overfills_one s p (lines.LowSession row next held) q r xs ys end n size end' n' size' h k = absurd h
overfills_one s p (lines.Coarse session) q r xs ys end n size end' n' size' h k = absurd h
overfills_one s p (lines.Look session m w z) q r xs ys end n size end' n' size' h k = absurd h
overfills_one s p (lines.Told session m w fault told z) q r xs ys end n size end' n' size' h k = absurd h
overfills_one s p (lines.Step session m w) q r xs ys end n size end' n' size' h k = absurd h
overfills_one s p (lines.Gone session m) q r xs ys end n size end' n' size' h k = absurd h
overfills_one s p (lines.High session m) q r xs ys end n size end' n' size' h k = absurd h
overfills_one s p (lines.Return session m back) q r xs ys end n size end' n' size' h k = absurd h
overfills_one s p (lines.Restart session m) q r xs ys end n size end' n' size' h k = absurd h
overfills_one s p (lines.ReceiverRestart session m) q r xs ys end n size end' n' size' h k = absurd h

-- ---- a line that stops the script ----

stops_goes : (s : Begun) (line : Line) (end : Option Begun) (first : List Event) (fault : Fault) (after : Option Begun) (printed : List Event) → Stops (Some s) line end first fault → GoesOn s line after printed → ⊥
stops_goes (Whole s) line end first fault after printed (timely, (r, at, n, size, o, f, e)) (timely', (q, step, e')) = overfills_steps s.row s.past line r first at n size q printed o step
stops_goes (Alone s) line end first fault after printed (timely, (q, h, f, e)) (timely', (r, k, e')) = cc (one_outcome s.row s.past line true false q r first printed h k)

skip_goes_on : (running end : Option Begun) (first : List Event) (fault : Fault) → Stops running lines.Skip end first fault → ⊥
skip_goes_on None end first fault h = h
skip_goes_on (Some (Whole s)) end first fault h = cc h.0
skip_goes_on (Some (Alone s)) end first fault h = cc h.0

coarse_goes_on : (s : Begun) (session : ℕ) (end : Option Begun) (first : List Event) (fault : Fault) → Stops (Some s) (lines.Coarse session) end first fault → ⊥
coarse_goes_on (Whole s) session end first fault h = cc h.0
coarse_goes_on (Alone s) session end first fault h = cc h.0

pub stops_leads : (o : Openings) (running : Option Begun) (line : Line) (end : Option Begun) (first : List Event) (fault : Fault) (after : Option Begun) (printed : List Event) → Stops running line end first fault → Leads o running line after printed → ⊥
stops_leads o running line end first fault after printed h k =
    led o running line after printed k
    (λ skip e f. skip_goes_on running end first fault (subst (λ (l : Line). Stops running l end first fault) skip h))
    (λ s none new e f. subst (λ (r : Option Begun). Stops r line end first fault) none h)
    (λ s some goes. stops_goes s line end first fault after printed (subst (λ (r : Option Begun). Stops r line end first fault) some h) goes)
    (λ s session some is new again e f. coarse_goes_on s session end first fault (subst (λ (t : Option Begun × Line). Stops t.0 t.1 end first fault) (λ i. (some i, is i)) h))

-- it stops it in one way
pub record OneStop (after other : Option Begun) (xs ys : List Event) (fault stop : Fault) : Type 0 where
  pub past : after ≡ other
  pub printed : xs ≡ ys
  pub fault_is : fault ≡ stop

pub stops_one : (running : Option Begun) (line : Line) (after other : Option Begun) (xs ys : List Event) (fault stop : Fault) → Stops running line after xs fault → Stops running line other ys stop → OneStop after other xs ys fault stop
stops_one None line after other xs ys fault stop h k = absurd h
stops_one (Some (Whole s)) line after other xs ys fault stop (timely, (q, end, n, size, o, f, e)) (timely', (r, end', n', size', o', f', e')) =
    let same = overfills_one s.row s.past line q r xs ys end n size end' n' size' o o' in
    record { past = e ∙ ap (λ (p : Past). Some (Whole (record { row = s.row; past = p }))) same.0 ∙ sym e'; printed = same.1; fault_is = f ∙ same.2 ∙ sym f' }
stops_one (Some (Alone s)) line after other xs ys fault stop (timely, (q, h, f, e)) (timely', (r, k, f', e')) =
    let same = step_low_one s.row s.past line true q r xs ys h k in
    record { past = e ∙ ap (λ (p : PastAlone). Some (Alone (record { row = s.row; past = p }))) same.past ∙ sym e'; printed = same.printed; fault_is = f ∙ sym f' }

-- ---- in a script ----

-- a prefix of the lines of a script, and the lines after it
pub lead_parts : (o : Openings) (running : Option Begun) (before later : List Line) (after : Option Begun) (printed : List Event) → LeadTo o running (before ++ later) after printed
    → (mid : Option Begun) × (first : List Event) × (second : List Event) × LeadTo o running before mid first × LeadTo o mid later after second × (printed ≡ first ++ second)
lead_parts o running [] later after printed h = (running, [], printed, (refl, refl), h, refl)
lead_parts o running (x ∷ before) later after printed (mid, first, second, h, t, e) =
    let r = lead_parts o mid before later after second t in
    (r.0, first ++ r.1, r.2, (mid, first, r.1, h, r.3, refl), r.4, e ∙ ap (λ xs. first ++ xs) r.5 ∙ sym (append_assoc first r.1 r.2))

pub no_transcript : (o : Openings) (before : List Line) (line : Line) (later : List Line) (running end : Option Begun) (events first printed : List Event) (fault : Fault)
    → LeadTo o None before running events → Stops running line end first fault → IsTranscript o (before ++ line ∷ later) printed → ⊥
no_transcript o before line later running end events first printed fault led_there stops whole =
    let r = lead_parts o None before (line ∷ later) whole.0 whole.1 whole.3 in
    let next = r.4 in
    let same = lead_one o None before running r.0 events r.1 led_there r.3 in
    stops_leads o running line end first fault next.0 next.1 stops (subst (λ (u : Option Begun). Leads o u line next.0 next.1) (sym same.after) next.3)

pub one_stop : (o : Openings) (before : List Line) (line : Line) (running other end stopped : Option Begun) (events more first second : List Event) (fault stop : Fault)
    → LeadTo o None before running events → Stops running line end first fault → LeadTo o None before other more → Stops other line stopped second stop
    → (end ≡ stopped) × (events ++ first ≡ more ++ second) × (fault ≡ stop)
one_stop o before line running other end stopped events more first second fault stop h stops k stops' =
    let same = lead_one o None before running other events more h k in
    let one = stops_one running line end stopped first second fault stop stops (subst (λ (u : Option Begun). Stops u line stopped second stop) (sym same.after) stops') in
    (one.past, (λ i. same.printed i ++ one.printed i), one.fault_is)
