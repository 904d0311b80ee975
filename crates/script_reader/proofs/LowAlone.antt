-- A low side alone does with its skipped lines what it does without them.
use Rattle.std.proofs.Common.{◌≡◌, ℕ, Bool, true, false, List, [], ◌∷◌, ◌++◌, Option, Some, None, refl, sym, ap, ◌∙◌, subst}
use Rattle.std.specs.Prelude.{if◌then◌else◌}
use Rattle.pump_frame.specs.declared.row.SessionRow.{SessionRow}
use Rattle.script_reader.specs.declared.line.Line.{Line}
use Rattle.script_reader.specs.declared.line.Line.TheVariants as lines
use Rattle.script_reader.specs.declared.event.Event.{Event}
use Rattle.script_reader.specs.Openings.{Openings}
use Rattle.script_reader.specs.Scripts.{RunningAlone, Begun, Alone, GoesAlone, coarsened, Leads, LeadTo, IsTranscript}
use Rattle.script_reader.specs.Sides.{is_lows, low_side_of}
use Rattle.script_reader.proofs.OneScript.{transcript_one}

-- what a line that is not its own does to a low side alone: nothing
record Nothing (running after : Option Begun) (printed : List Event) : Type 0 where
  same : after ≡ running
  silent : printed ≡ []

left_alone : (o : Openings) (s : RunningAlone) (line : Line) (after : Option Begun) (printed : List Event) → is_lows line ≡ false → Leads o (Some (Alone s)) line after printed → Nothing (Some (Alone s)) after printed
left_alone o s lines.Skip after printed own h = record { same = h.0; silent = h.1 }
left_alone o s (lines.Session row) after printed own h = absurd (cc)
left_alone o s (lines.LowSession row next held) after printed own h = absurd (cc)
left_alone o s (lines.Coarse session) after printed own h = absurd (cc)
left_alone o s (lines.Look session m w z) after printed own h = absurd (cc)
left_alone o s (lines.Told session m w fault told z) after printed own h = absurd (cc)
left_alone o s (lines.Step session m w) after printed own h = absurd (cc)
left_alone o s (lines.Gone session m) after printed own h = absurd (cc)
left_alone o s (lines.High session m) after printed own h = absurd (h.1.1)
left_alone o s (lines.Carry session back) after printed own h = absurd (h.1.1)
left_alone o s (lines.Return session m back) after printed own h = absurd (h.1.1)
left_alone o s (lines.Done session m t) after printed own h = absurd (h.1.1)
left_alone o s (lines.Restart session m) after printed own h = absurd (cc)
left_alone o s (lines.ReceiverRestart session m) after printed own h = absurd (h.1.1)

-- it stays a low side alone
record StaysAlone (after : Option Begun) : Type 0 where
  session : RunningAlone
  is : after ≡ Some (Alone session)

goes_alone : (s : RunningAlone) (line : Line) (after : Option Begun) (printed : List Event) → GoesAlone s line after printed → StaysAlone after
goes_alone s line after printed (timely, (q, step, e)) = record { session = _; is = e }

stays_alone : (o : Openings) (s : RunningAlone) (line : Line) (after : Option Begun) (printed : List Event) → Leads o (Some (Alone s)) line after printed → StaysAlone after
stays_alone o s lines.Skip after printed h = record { session = s; is = h.0 }
stays_alone o s (lines.Session row) after printed h = goes_alone s (lines.Session row) after printed h
stays_alone o s (lines.LowSession row next held) after printed h = goes_alone s (lines.LowSession row next held) after printed h
stays_alone o s (lines.Coarse session) after printed h = record { session = record { row = coarsened s.row; past = s.past }; is = h.0.2 }
stays_alone o s (lines.Look session m w z) after printed h = goes_alone s (lines.Look session m w z) after printed h
stays_alone o s (lines.Told session m w fault told z) after printed h = goes_alone s (lines.Told session m w fault told z) after printed h
stays_alone o s (lines.Step session m w) after printed h = goes_alone s (lines.Step session m w) after printed h
stays_alone o s (lines.Gone session m) after printed h = goes_alone s (lines.Gone session m) after printed h
stays_alone o s (lines.High session m) after printed h = goes_alone s (lines.High session m) after printed h
stays_alone o s (lines.Carry session back) after printed h = goes_alone s (lines.Carry session back) after printed h
stays_alone o s (lines.Return session m back) after printed h = goes_alone s (lines.Return session m back) after printed h
stays_alone o s (lines.Done session m t) after printed h = goes_alone s (lines.Done session m t) after printed h
stays_alone o s (lines.Restart session m) after printed h = goes_alone s (lines.Restart session m) after printed h
stays_alone o s (lines.ReceiverRestart session m) after printed h = goes_alone s (lines.ReceiverRestart session m) after printed h

-- what was found plays no part in one that is begun
pub leads_any : (o p : Openings) (s : RunningAlone) (line : Line) (after : Option Begun) (printed : List Event) → Leads o (Some (Alone s)) line after printed → Leads p (Some (Alone s)) line after printed
leads_any o p s lines.Skip after printed h = h
leads_any o p s (lines.Session row) after printed h = h
leads_any o p s (lines.LowSession row next held) after printed h = h
leads_any o p s (lines.Coarse session) after printed h = h
leads_any o p s (lines.Look session m w z) after printed h = h
leads_any o p s (lines.Told session m w fault told z) after printed h = h
leads_any o p s (lines.Step session m w) after printed h = h
leads_any o p s (lines.Gone session m) after printed h = h
leads_any o p s (lines.High session m) after printed h = h
leads_any o p s (lines.Carry session back) after printed h = h
leads_any o p s (lines.Return session m back) after printed h = h
leads_any o p s (lines.Done session m t) after printed h = h
leads_any o p s (lines.Restart session m) after printed h = h
leads_any o p s (lines.ReceiverRestart session m) after printed h = h

alone_leads : (o p : Openings) (s : RunningAlone) (script : List Line) (after : Option Begun) (printed : List Event)
    → LeadTo o (Some (Alone s)) script after printed → LeadTo p (Some (Alone s)) (low_side_of script) after printed
alone_leads o p s [] after printed h = h
alone_leads o p s (line ∷ script) after printed (mid, first, second, h, later, e) =
    elim (is_lows line) as (λ b. is_lows line ≡ b → LeadTo p (Some (Alone s)) (if b then line ∷ low_side_of script else low_side_of script) after printed) [
      | true ↦ λ own.
          let t = stays_alone o s line mid first h in
          let rest = alone_leads o p t.session script after second (subst (λ r. LeadTo o r script after second) t.is later) in
          (mid, first, second, leads_any o p s line mid first h, subst (λ r. LeadTo p r (low_side_of script) after second) (sym t.is) rest, e)
      | false ↦ λ own.
          let n = left_alone o s line mid first own h in
          let here = subst (λ r. LeadTo o r script after second) n.same later in
          subst (λ l. LeadTo p (Some (Alone s)) (low_side_of script) after l) (sym (e ∙ ap (λ l. l ++ second) n.silent)) (alone_leads o p s script after second here)
    ] refl

begun_alone : (o p : Openings) (script : List Line) (after : Option Begun) (printed : List Event) (row : SessionRow) (next : ℕ) (held : Bool) (rest : List Line)
    → low_side_of script ≡ lines.LowSession row next held ∷ rest
    → LeadTo o None script after printed → LeadTo p None (low_side_of script) after printed
begun_alone o p [] after printed row next held rest is h = h
begun_alone o p (lines.Skip ∷ script) after printed row next held rest is (mid, first, second, h, later, e) =
    let here = subst (λ r. LeadTo o r script after second) h.0 later in
    subst (λ l. LeadTo p None (low_side_of script) after l) (sym (e ∙ ap (λ l. l ++ second) h.1)) (begun_alone o p script after second row next held rest is here)
begun_alone o p (lines.LowSession row next held ∷ script) after printed row' next' held' rest is (mid, first, second, h, later, e) =
    let there = alone_leads o p _ script after second (subst (λ r. LeadTo o r script after second) h.0.1 later) in
    (mid, first, second, h, subst (λ r. LeadTo p r (low_side_of script) after second) (sym h.0.1) there, e)
begun_alone o p (lines.Session row ∷ script) after printed row' next held rest is h = absurd (cc)
begun_alone o p (lines.Coarse session ∷ script) after printed row next held rest is (mid, first, second, h, later, e) = absurd h
begun_alone o p (lines.Look session m w z ∷ script) after printed row next held rest is (mid, first, second, h, later, e) = absurd h
begun_alone o p (lines.Told session m w fault told z ∷ script) after printed row next held rest is (mid, first, second, h, later, e) = absurd h
begun_alone o p (lines.Step session m w ∷ script) after printed row next held rest is (mid, first, second, h, later, e) = absurd h
begun_alone o p (lines.Gone session m ∷ script) after printed row next held rest is (mid, first, second, h, later, e) = absurd h
begun_alone o p (lines.High session m ∷ script) after printed row next held rest is (mid, first, second, h, later, e) = absurd h
begun_alone o p (lines.Carry session back ∷ script) after printed row next held rest is (mid, first, second, h, later, e) = absurd h
begun_alone o p (lines.Return session m back ∷ script) after printed row next held rest is (mid, first, second, h, later, e) = absurd h
begun_alone o p (lines.Done session m t ∷ script) after printed row next held rest is (mid, first, second, h, later, e) = absurd h
begun_alone o p (lines.Restart session m ∷ script) after printed row next held rest is (mid, first, second, h, later, e) = absurd h
begun_alone o p (lines.ReceiverRestart session m ∷ script) after printed row next held rest is (mid, first, second, h, later, e) = absurd h

-- a low side's own lines have the transcript of its script
own_transcript : (o p : Openings) (script : List Line) (printed : List Event) (row : SessionRow) (next : ℕ) (held : Bool) (rest : List Line)
    → low_side_of script ≡ lines.LowSession row next held ∷ rest → IsTranscript o script printed → IsTranscript p (low_side_of script) printed
own_transcript o p script printed row next held rest is (after, body, last, h, end, e) = (after, body, last, begun_alone o p script after body row next held rest is h, end, e)

pub one_alone : (o p : Openings) (script other : List Line) (row : SessionRow) (next : ℕ) (held : Bool) (later : List Line) (xs ys : List Event)
    → IsTranscript o script xs → IsTranscript p other ys
    → low_side_of script ≡ lines.LowSession row next held ∷ later → low_side_of other ≡ lines.LowSession row next held ∷ later → xs ≡ ys
one_alone o p script other row next held later xs ys h k e f =
    transcript_one o (low_side_of script) xs ys (own_transcript o o script xs row next held later e h)
    (subst (λ l. IsTranscript o l ys) (f ∙ sym e) (own_transcript p o other ys row next held later f k))
