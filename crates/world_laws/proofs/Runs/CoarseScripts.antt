-- What a script of a coarse session prints of averages are levels, so their classes tell them.
use Rattle.std.proofs.Common.{◌≡◌, inl, inr, ℕ, true, false, ◌||◌, List, [], ◌∷◌, ◌++◌, Option, Some, None, refl, sym, ap, ◌∙◌, subst, append-nil}
use Rattle.std.specs.List.{AllByRecursion, list_any}
use Rattle.std.proofs.lemmas.Bool.{true≢false}
use Rattle.std.proofs.lemmas.List.Elements.{filter_map-append}
use Rattle.pump_frame.specs.Averages.{IsLevel}
use Rattle.script_reader.specs.declared.line.Line.{Line}
use Rattle.script_reader.specs.declared.line.Line.TheVariants as lines
use Rattle.script_reader.specs.declared.fault.Fault.{Fault}
use Rattle.script_reader.specs.declared.event.Event.{Event}
use Rattle.script_reader.specs.Openings.{Openings}
use Rattle.script_reader.specs.Scripts.{Begun, Whole, Alone, GoesOn, made_coarse, Leads, Stops, LeadTo, Ends, IsTranscript, StopsAfter, ComesTo}
use Rattle.script_reader.specs.Sides.{low_side_of, averages, average_in}
use Rattle.script_reader.specs.Readouts.{row_of}
use Rattle.script_reader.proofs.Leading.{led}
use Rattle.script_reader.proofs.Levels.{told_levels}
use Rattle.world_laws.specs.CoarseScripts.{makes_coarse, IsMadeCoarse}

-- ---- a session that is coarse stays so ----

abbrev IsCoarse : Option Begun → Type 0
IsCoarse None = ⊥
IsCoarse (Some s) = (row_of s).coarse ≡ true

is_coarse_now : (s : Begun) → (row_of (made_coarse s)).coarse ≡ true
is_coarse_now (Whole s) = refl
is_coarse_now (Alone s) = refl

goes_coarse : (s : Begun) (line : Line) (after : Option Begun) (printed : List Event) → GoesOn s line after printed → (row_of s).coarse ≡ true → IsCoarse after
goes_coarse (Whole s) line after printed (timely, (q, step, e)) coarse = subst IsCoarse (sym e) coarse
goes_coarse (Alone s) line after printed (apt, (q, step, e)) coarse = subst IsCoarse (sym e) coarse

leads_coarse : (o : Openings) (running : Option Begun) (line : Line) (after : Option Begun) (printed : List Event) → Leads o running line after printed → IsCoarse running → IsCoarse after
leads_coarse o running line after printed h coarse =
    led o running line after printed h
    (λ skip e f. subst IsCoarse (sym e) coarse)
    (λ s none new e f. absurd (subst IsCoarse none coarse))
    (λ s some goes. goes_coarse s line after printed goes (subst IsCoarse some coarse))
    (λ s session some is new again e f. subst IsCoarse (sym e) (is_coarse_now s))

stays_coarse : (o : Openings) (running : Option Begun) (script : List Line) (after : Option Begun) (printed : List Event) → LeadTo o running script after printed → IsCoarse running → IsCoarse after
stays_coarse o running [] after printed (e, f) coarse = subst IsCoarse (sym e) coarse
stays_coarse o running (line ∷ later) after printed (mid, first, second, h, rest, e) coarse =
    stays_coarse o mid later after second rest (leads_coarse o running line mid first h coarse)

-- ---- a line that makes it so ----

is_coarse_line : (line : Line) → makes_coarse line ≡ true → (session : ℕ) × (line ≡ lines.Coarse session)
is_coarse_line (lines.Coarse session) e = (session, refl)
is_coarse_line lines.Skip e = absurd (cc)
is_coarse_line (lines.Session row) e = absurd (cc)
is_coarse_line (lines.LowSession row next held) e = absurd (cc)
is_coarse_line (lines.Look session m w a) e = absurd (cc)
is_coarse_line (lines.Told session m w fault told a) e = absurd (cc)
is_coarse_line (lines.Step session m w) e = absurd (cc)
is_coarse_line (lines.Gone session m) e = absurd (cc)
is_coarse_line (lines.High session m) e = absurd (cc)
is_coarse_line (lines.Carry session back) e = absurd (cc)
is_coarse_line (lines.Return session m back) e = absurd (cc)
is_coarse_line (lines.Done session m t) e = absurd (cc)
is_coarse_line (lines.Restart session m) e = absurd (cc)
is_coarse_line (lines.ReceiverRestart session m) e = absurd (cc)

made_by : (o : Openings) (running : Option Begun) (session : ℕ) (after : Option Begun) (printed : List Event) → Leads o running (lines.Coarse session) after printed → IsCoarse after
made_by o None session after printed h = absurd h
made_by o (Some s) session after printed ((may, new, e), f) = subst IsCoarse (sym e) (is_coarse_now s)

-- it stops no script
stops_none : (running : Option Begun) (session : ℕ) (after : Option Begun) (printed : List Event) (fault : Fault) → Stops running (lines.Coarse session) after printed fault → ⊥
stops_none None session after printed fault h = h
stops_none (Some (Whole s)) session after printed fault h = true≢false (sym h.0)
stops_none (Some (Alone s)) session after printed fault h = true≢false (sym h.0)

lead_coarse : (o : Openings) (running : Option Begun) (script : List Line) (after : Option Begun) (printed : List Event) → LeadTo o running script after printed → IsMadeCoarse script → IsCoarse after
lead_coarse o running [] after printed h made = absurd (cc)
lead_coarse o running (line ∷ later) after printed (mid, first, second, h, rest, e) made =
    elim (makes_coarse line) as (λ b. makes_coarse line ≡ b → (b || list_any makes_coarse later) ≡ true → IsCoarse after) [
      | true ↦ λ is some.
          let named = is_coarse_line line is in
          stays_coarse o mid later after second rest (made_by o running named.0 mid first (subst (λ (l : Line). Leads o running l mid first) named.1 h))
      | false ↦ λ is some. lead_coarse o mid later after second rest some
    ] refl made

-- .. so it is among the lines before the one that does
made_before : (before : List Line) (line : Line) → makes_coarse line ≡ false → IsMadeCoarse (before ++ line ∷ []) → IsMadeCoarse before
made_before [] line none made = absurd (true≢false (sym made ∙ ap (λ b. b || false) none))
made_before (x ∷ before) line none made =
    elim (makes_coarse x) as (λ b. (b || list_any makes_coarse (before ++ line ∷ [])) ≡ true → (b || list_any makes_coarse before) ≡ true) [
      | true ↦ λ some. refl
      | false ↦ λ some. made_before before line none some
    ] made

stops_coarse : (running : Option Begun) (line : Line) (after : Option Begun) (printed : List Event) (fault : Fault) → Stops running line after printed fault → IsCoarse running → IsCoarse after
stops_coarse None line after printed fault h coarse = absurd h
stops_coarse (Some (Whole s)) line after printed fault (timely, (q, end, n, size, over, f, e)) coarse = subst IsCoarse (sym e) coarse
stops_coarse (Some (Alone s)) line after printed fault (apt, (q, step, f, e)) coarse = subst IsCoarse (sym e) coarse

stopped_coarse : (o : Openings) (script : List Line) (after : Option Begun) (printed : List Event) → StopsAfter o script after printed → IsMadeCoarse script → IsCoarse after
stopped_coarse o script after printed s made =
    elim (makes_coarse s.line) as (λ b. makes_coarse s.line ≡ b → IsCoarse after) [
      | true ↦ λ is.
          let named = is_coarse_line s.line is in
          absurd (stops_none s.running named.0 after s.last s.fault (subst (λ (l : Line). Stops s.running l after s.last s.fault) named.1 s.stops))
      | false ↦ λ is.
          let before = made_before s.before s.line is (subst IsMadeCoarse s.script_is made) in
          stops_coarse s.running s.line after s.last s.fault s.stops (lead_coarse o None s.before s.running s.first s.leads before)
    ] refl

comes_coarse : (o : Openings) (script : List Line) (after : Option Begun) (printed : List Event) → ComesTo o script after printed → IsMadeCoarse script → IsCoarse after
comes_coarse o script after printed (inl h) made = lead_coarse o None script after printed h made
comes_coarse o script after printed (inr s) made = stopped_coarse o script after printed s made

-- ---- the averages of a coarse session ----

levels_by : (o : Openings) (script : List Line) (after : Option Begun) (printed : List Event) → ComesTo o script after printed → IsCoarse after → AllByRecursion IsLevel (averages printed)
levels_by o script None printed h coarse = absurd coarse
levels_by o script (Some s) printed h coarse = told_levels o script s printed h coarse

pub levels_so_far : (o : Openings) (script : List Line) (after : Option Begun) (printed : List Event) → ComesTo o script after printed → IsMadeCoarse script → AllByRecursion IsLevel (averages printed)
levels_so_far o script after printed h made = levels_by o script after printed h (comes_coarse o script after printed h made)

-- the end of a script tells none
end_tells_none : (after : Option Begun) (last : List Event) → Ends after last → averages last ≡ []
end_tells_none None last e = ap averages e
end_tells_none (Some (Whole s)) last e = ap averages e
end_tells_none (Some (Alone s)) last (event, (parts, cut, is), e) = ap averages e ∙ ap (λ (x : Event). averages (x ∷ [])) is

pub levels_in : (o : Openings) (script : List Line) (printed : List Event) → IsTranscript o script printed → IsMadeCoarse script → AllByRecursion IsLevel (averages printed)
levels_in o script printed (after, body, last, h, ends, e) made =
    let same : averages printed ≡ averages body =
    ap averages e ∙ filter_map-append average_in body last ∙ ap (λ (l : List ℕ). averages body ++ l) (end_tells_none after last ends) ∙ append-nil (averages body) in
    subst (AllByRecursion IsLevel) (sym same) (levels_so_far o script after body (inl h) made)

-- ---- two scripts ----

-- a line that makes its session coarse is low's own
made_in_low : (script : List Line) → list_any makes_coarse (low_side_of script) ≡ list_any makes_coarse script
made_in_low [] = refl
made_in_low (lines.Coarse session ∷ later) = refl
made_in_low (lines.Skip ∷ later) = made_in_low later
made_in_low (lines.Session row ∷ later) = made_in_low later
made_in_low (lines.LowSession row next held ∷ later) = made_in_low later
made_in_low (lines.Look session m w a ∷ later) = made_in_low later
made_in_low (lines.Told session m w fault told a ∷ later) = made_in_low later
made_in_low (lines.Step session m w ∷ later) = made_in_low later
made_in_low (lines.Gone session m ∷ later) = made_in_low later
made_in_low (lines.High session m ∷ later) = made_in_low later
made_in_low (lines.Carry session back ∷ later) = made_in_low later
made_in_low (lines.Return session m back ∷ later) = made_in_low later
made_in_low (lines.Done session m t ∷ later) = made_in_low later
made_in_low (lines.Restart session m ∷ later) = made_in_low later
made_in_low (lines.ReceiverRestart session m ∷ later) = made_in_low later

-- so of two scripts with one low side both are of coarse sessions or none
pub made_alike : (script other : List Line) → low_side_of script ≡ low_side_of other → IsMadeCoarse script → IsMadeCoarse other
made_alike script other same made =
    sym (made_in_low other) ∙ sym (ap (λ (l : List Line). list_any makes_coarse l) same) ∙ made_in_low script ∙ made
