-- Each session of a chain does what the script of its own lines does.
use Rattle.std.proofs.Common.{◌≡◌, ℕ, List, ◌∷◌, Option, Some, None, refl, sym, ap, ◌∙◌, subst}
use Rattle.std.proofs.lemmas.Bool.{ne_eqb}
use Rattle.std.proofs.lemmas.List.Elements.{All-cons, All-filter}
use Rattle.pump_frame.specs.declared.row.SessionRow.{SessionRow}
use Rattle.script_reader.specs.declared.event.Event.{Event}
use Rattle.script_reader.specs.declared.line.Line.{Line}
use Rattle.script_reader.specs.declared.line.Line.TheVariants as lines
use Rattle.script_reader.specs.Openings.{Openings}
use Rattle.script_reader.specs.Scripts.{Begun, Whole, LeadTo}
use Rattle.script_reader.specs.Sessions.{no_sessions, session_at, session_in, is_number, lines_of, events_of}
use Rattle.script_reader.specs.Sides.{OpensAlike, OpenAlike}
use Rattle.script_reader.proofs.Beside.{one_of, own_line, other_line}
use Rattle.pump_chain.specs.Chained.{Chained, ChainLeadsTo}
use Rattle.pump_chain.specs.Scripted.{CanChain, chain_of, looks_of, LeadsBoth}
use Rattle.pump_chain.proofs.Scripting.{first_lines, none_begins, numbers_stay}

module _ (o : Openings) (one two : SessionRow) (script : List Line) (d : Chained) (printed : List Event) (can : CanChain o one two) (leads : ChainLeadsTo (chain_of o one two) script d printed) where
  abbrev looks : List Line
  looks = looks_of (chain_of o one two) script d printed leads

  abbrev both : List Line
  both = lines.Session one ∷ lines.Session two ∷ looks

  -- the lines of either session in the script of both
  lines_one : lines_of one.id both ≡ lines.Session one ∷ lines_of one.id script
  lines_one =
      own_line one.id (lines.Session one) (lines.Session two ∷ looks) refl
      ∙ ap (λ (l : List Line). lines.Session one ∷ l) (other_line one.id (lines.Session two) looks (ne_eqb two.id one.id (λ e. can.apart (sym e))) ∙ first_lines (chain_of o one two) script d printed leads can.apart)

  lines_two : lines_of two.id both ≡ lines.Session two ∷ lines_of two.id looks
  lines_two = other_line two.id (lines.Session one) (lines.Session two ∷ looks) (ne_eqb one.id two.id can.apart) ∙ own_line two.id (lines.Session two) looks refl

  pub first_own : LeadsBoth o both d printed → LeadTo o None (lines.Session one ∷ lines_of one.id script) (Some (Whole d.first)) (events_of one.id printed)
  first_own (t, whole, first, second) =
      let number = (numbers_stay (chain_of o one two) script d printed leads).0 in
      subst (λ (x : List Line × Option Begun). LeadTo o None x.0 x.1 (events_of one.id printed)) (λ i. (lines_one i, (subst (λ (n : ℕ). session_at n t.begun ≡ Some (Whole d.first)) number first) i))
      (one_of o one.id no_sessions both t printed whole)

  pub second_own : LeadsBoth o both d printed → LeadTo o None (lines.Session two ∷ lines_of two.id looks) (Some (Whole d.second)) (events_of two.id printed)
  second_own (t, whole, first, second) =
      let number = (numbers_stay (chain_of o one two) script d printed leads).1 in
      subst (λ (x : List Line × Option Begun). LeadTo o None x.0 x.1 (events_of two.id printed)) (λ i. (lines_two i, (subst (λ (n : ℕ). session_at n t.begun ≡ Some (Whole d.second)) number second) i))
      (one_of o two.id no_sessions both t printed whole)

  -- no line of the first session but its first one begins a session
  pub opens_alike : (p : Openings) → OpensAlike o p (lines.Session one) → OpenAlike o p (lines.Session one ∷ lines_of one.id script)
  opens_alike p alike =
      All-cons (OpensAlike o p) (lines.Session one) (lines_of one.id script) alike
      (All-filter (λ (line : Line). is_number one.id (session_in line)) (OpensAlike o p) script (none_begins o p (chain_of o one two) script d printed leads))
