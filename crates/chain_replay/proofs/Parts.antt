-- A script as its two `session` lines and the lines of the chain.
use Rattle.std.proofs.Common.{◌≡◌, inl, ℕ, ◌==◌, Bool, true, false, List, [], ◌∷◌, ◌++◌, None, Some, refl, sym, ap, ◌∙◌, subst}
use Rattle.std.proofs.lemmas.Bool.{eq-eqb, ne_eqb}
use Rattle.std.proofs.lemmas.List.Elements.{filter-append}
use Rattle.std.specs.Prelude.{nat_lt, if◌then◌else◌}
use Rattle.pump_chain.specs.Chained.{Chained, ChainLeadsTo}
use Rattle.pump_chain.specs.Ends.{ended, ends_of}
use Rattle.pump_chain.specs.Scripted.{chain_of, looks_of, LeadsBoth}
use Rattle.pump_chain.proofs.Owning.{first_own, second_own}
use Rattle.pump_chain.proofs.Scripting.{chain_leads}
use Rattle.pump_frame.specs.declared.row.SessionRow.{SessionRow}
use Rattle.script_reader.specs.declared.event.Event.{Event}
use Rattle.script_reader.specs.declared.line.Line.{Line}
use Rattle.script_reader.specs.declared.line.Line.TheVariants as lines
use Rattle.script_reader.specs.Openings.{Openings}
use Rattle.script_reader.specs.Scripts.{Whole, LeadTo as LeadsOne}
use Rattle.script_reader.specs.Sessions.{lines_of, events_of, event_session, is_number, session_in}
use Rattle.script_reader.proofs.Beside.{own_line, other_line}
use Rattle.script_reader.proofs.Soundness.{sound_so}
use Rattle.world_laws.proofs.Timeline.Scripts.{script_runs}
use Rattle.chain_replay.specs.Owned.{AreTheirOwn}
use Rattle.chain_replay.specs.Private.{AreOf, IsSoundTimed, AreSoundTimed}
use Rattle.chain_replay.specs.Scripts.{NoPump, OnePump, BothPumps, AreLinked, LeadTo}

-- ---- behind both session lines ----

same_both : (a b one two : SessionRow) (c d : Chained) → BothPumps one two d ≡ BothPumps a b c → (one ≡ a) × (two ≡ b) × (d ≡ c)
same_both a b one two c d e = (cc e, cc e, cc e)

both_part : (o : Openings) (a b : SessionRow) (c : Chained) (script : List Line) (one two : SessionRow) (d : Chained) (events : List Event) → LeadTo o (BothPumps a b c) script (BothPumps one two d) events
    → (one ≡ a) × (two ≡ b) × ChainLeadsTo c script d events
both_part o a b c [] one two d events (is, none) = let e = same_both a b one two c d is in (e.0, e.1, (e.2, none))
both_part o a b c (line ∷ later) one two d events (mid, first, second, (e, leads, is), rest, printed) =
    let r = both_part o a b e later one two d second (subst (λ m. LeadTo o m later (BothPumps one two d) second) is rest) in
    (r.0, r.1, (e, first, second, leads, r.2, printed))

-- ---- behind the first one ----

-- these lines end with the second one's `session` line and the lines of the chain
record Behind (o : Openings) (a : SessionRow) (script : List Line) (one two : SessionRow) (d : Chained) (events : List Event) : Type 0 where
  pub first : one ≡ a
  pub linked : AreLinked o a two
  pub later : List Line
  pub leads : ChainLeadsTo (chain_of o a two) later d events
  pub named : (number : ℕ) → lines_of number script ≡ lines_of number (lines.Session two ∷ later)

-- nothing is printed before
quiet : (first second events : List Event) → first ≡ [] → events ≡ first ++ second → second ≡ events
quiet first second events none is = sym (is ∙ ap (λ l. l ++ second) none)

one_part : (o : Openings) (a : SessionRow) (script : List Line) (one two : SessionRow) (d : Chained) (events : List Event) → LeadTo o (OnePump a) script (BothPumps one two d) events → Behind o a script one two d events
one_part o a [] one two d events (is, none) = absurd (cc is)
one_part o a (lines.Skip ∷ later) one two d events (mid, first, second, (is, none), rest, printed) =
    let r = one_part o a later one two d second (subst (λ m. LeadTo o m later (BothPumps one two d) second) is rest) in
    record { first = r.first; linked = r.linked; later = r.later; leads = subst (ChainLeadsTo (chain_of o a two) r.later d) (quiet first second events none printed) r.leads; named = r.named }
one_part o a (lines.Session b ∷ later) one two d events (mid, first, second, (follows, linked, is, none), rest, printed) =
    let r = both_part o a b (chain_of o a b) later one two d second (subst (λ m. LeadTo o m later (BothPumps one two d) second) is rest) in
    record {
      first = r.0;
      linked = subst (AreLinked o a) (sym r.1) linked;
      later = later;
      leads = subst (ChainLeadsTo (chain_of o a two) later d) (quiet first second events none printed) (subst (λ (x : SessionRow). ChainLeadsTo (chain_of o a x) later d second) (sym r.1) r.2);
      named = λ number. ap (λ (x : SessionRow). lines_of number (lines.Session x ∷ later)) (sym r.1);
    }
one_part o a (lines.LowSession row next held ∷ later) one two d events h = absurd h.3
one_part o a (lines.Coarse session ∷ later) one two d events h = absurd h.3
one_part o a (lines.Look session m w arrival ∷ later) one two d events h = absurd h.3
one_part o a (lines.Told session m w fault told arrival ∷ later) one two d events h = absurd h.3
one_part o a (lines.Step session m w ∷ later) one two d events h = absurd h.3
one_part o a (lines.Gone session m ∷ later) one two d events h = absurd h.3
one_part o a (lines.High session m ∷ later) one two d events h = absurd h.3
one_part o a (lines.Carry session back ∷ later) one two d events h = absurd h.3
one_part o a (lines.Return session m back ∷ later) one two d events h = absurd h.3
one_part o a (lines.Done session m t ∷ later) one two d events h = absurd h.3
one_part o a (lines.Restart session m ∷ later) one two d events h = absurd h.3
one_part o a (lines.ReceiverRestart session m ∷ later) one two d events h = absurd h.3

-- ---- the whole script ----

record Whole-script (o : Openings) (script : List Line) (one two : SessionRow) (d : Chained) (events : List Event) : Type 0 where
  pub linked : AreLinked o one two
  pub later : List Line
  pub leads : ChainLeadsTo (chain_of o one two) later d events
  pub named : (number : ℕ) → lines_of number script ≡ lines_of number (lines.Session one ∷ lines.Session two ∷ later)

more_named : (number : ℕ) (line : Line) (xs ys : List Line) → lines_of number xs ≡ lines_of number ys → lines_of number (line ∷ xs) ≡ lines_of number (line ∷ ys)
more_named number line xs ys e = ap (λ (l : List Line). if is_number number (session_in line) then line ∷ l else l) e

none_part : (o : Openings) (script : List Line) (one two : SessionRow) (d : Chained) (events : List Event) → LeadTo o NoPump script (BothPumps one two d) events → Whole-script o script one two d events
none_part o [] one two d events (is, none) = absurd (cc is)
none_part o (lines.Skip ∷ later) one two d events (mid, first, second, (is, none), rest, printed) =
    let r = none_part o later one two d second (subst (λ m. LeadTo o m later (BothPumps one two d) second) is rest) in
    record { linked = r.linked; later = r.later; leads = subst (ChainLeadsTo (chain_of o one two) r.later d) (quiet first second events none printed) r.leads; named = r.named }
none_part o (lines.Session a ∷ later) one two d events (mid, first, second, (lawful, is, none), rest, printed) =
    let r = one_part o a later one two d second (subst (λ m. LeadTo o m later (BothPumps one two d) second) is rest) in
    record {
      linked = subst (λ (x : SessionRow). AreLinked o x two) (sym r.first) r.linked;
      later = r.later;
      leads = subst (ChainLeadsTo (chain_of o one two) r.later d) (quiet first second events none printed) (subst (λ (x : SessionRow). ChainLeadsTo (chain_of o x two) r.later d second) (sym r.first) r.leads);
      named = λ number. more_named number (lines.Session a) later (lines.Session two ∷ r.later) (r.named number) ∙ ap (λ (x : SessionRow). lines_of number (lines.Session x ∷ lines.Session two ∷ r.later)) (sym r.first);
    }
none_part o (lines.LowSession row next held ∷ later) one two d events h = absurd h.3
none_part o (lines.Coarse session ∷ later) one two d events h = absurd h.3
none_part o (lines.Look session m w arrival ∷ later) one two d events h = absurd h.3
none_part o (lines.Told session m w fault told arrival ∷ later) one two d events h = absurd h.3
none_part o (lines.Step session m w ∷ later) one two d events h = absurd h.3
none_part o (lines.Gone session m ∷ later) one two d events h = absurd h.3
none_part o (lines.High session m ∷ later) one two d events h = absurd h.3
none_part o (lines.Carry session back ∷ later) one two d events h = absurd h.3
none_part o (lines.Return session m back ∷ later) one two d events h = absurd h.3
none_part o (lines.Done session m t ∷ later) one two d events h = absurd h.3
none_part o (lines.Restart session m ∷ later) one two d events h = absurd h.3
none_part o (lines.ReceiverRestart session m ∷ later) one two d events h = absurd h.3

-- ---- each session alone ----

-- of two ends, in either order, the session's own
own_end : (number : ℕ) (own other : Event) (test : Bool) → (event_session own == number) ≡ true → (event_session other == number) ≡ false → events_of number (if test then own ∷ other ∷ [] else other ∷ own ∷ []) ≡ own ∷ []
own_end number own other true is is_other = rw (is, is_other) refl
own_end number own other false is is_other = rw (is_other, is) refl

other_end : (number : ℕ) (own other : Event) (test : Bool) → (event_session own == number) ≡ true → (event_session other == number) ≡ false → events_of number (if test then other ∷ own ∷ [] else own ∷ other ∷ []) ≡ own ∷ []
other_end number own other true is is_other = rw (is_other, is) refl
other_end number own other false is is_other = rw (is, is_other) refl

module _ (o : Openings) (script : List Line) (one two : SessionRow) (d : Chained) (events : List Event) (are : AreOf one two d) (h : Whole-script o script one two d events) where
  abbrev both : LeadsBoth o (lines.Session one ∷ lines.Session two ∷ looks_of (chain_of o one two) h.later d events h.leads) d events
  both = chain_leads o one two h.linked.can h.later d events h.leads

  with_ends : (number : ℕ) (last : List Event) → events_of number (ends_of d) ≡ last → events_of number (events ++ ends_of d) ≡ events_of number events ++ last
  with_ends number last e = filter-append (λ event. event_session event == number) events (ends_of d) ∙ ap (λ l. events_of number events ++ l) e

  first_end : events_of one.id (ends_of d) ≡ ended d.first ∷ []
  first_end = own_end one.id (ended d.first) (ended d.second) (nat_lt d.first.row.id d.second.row.id) (eq-eqb d.first.row.id one.id are.0) (ne_eqb d.second.row.id one.id (λ e. h.linked.can.apart (sym e ∙ are.1)))

  second_end : events_of two.id (ends_of d) ≡ ended d.second ∷ []
  second_end = other_end two.id (ended d.second) (ended d.first) (nat_lt d.first.row.id d.second.row.id) (eq-eqb d.second.row.id two.id are.1) (ne_eqb d.first.row.id two.id (λ e. h.linked.can.apart (sym are.0 ∙ e)))

  lines_one : lines_of one.id script ≡ lines.Session one ∷ lines_of one.id h.later
  lines_one = h.named one.id ∙ own_line one.id (lines.Session one) (lines.Session two ∷ h.later) refl
      ∙ ap (λ (l : List Line). lines.Session one ∷ l) (other_line one.id (lines.Session two) h.later (ne_eqb two.id one.id (λ e. h.linked.can.apart (sym e))))

  first_leads : LeadsOne o None (lines.Session one ∷ lines_of one.id h.later) (Some (Whole d.first)) (events_of one.id events)
  first_leads = first_own o one two h.later d events h.linked.can h.leads both

  second_leads : LeadsOne o None (lines.Session two ∷ lines_of two.id (looks_of (chain_of o one two) h.later d events h.leads)) (Some (Whole d.second)) (events_of two.id events)
  second_leads = second_own o one two h.later d events h.linked.can h.leads both

  sound : AreSoundTimed d events
  sound = (
    subst (λ (number : ℕ). IsSoundTimed d.first (events_of number events)) (sym are.0) (
      script_runs o None (lines.Session one ∷ lines_of one.id h.later) (Some (Whole d.first)) (events_of one.id events) first_leads tt,
      sound_so o (lines.Session one ∷ lines_of one.id h.later) (Some (Whole d.first)) (events_of one.id events) (inl first_leads),
    ),
    subst (λ (number : ℕ). IsSoundTimed d.second (events_of number events)) (sym are.1) (
      script_runs o None (lines.Session two ∷ lines_of two.id (looks_of (chain_of o one two) h.later d events h.leads)) (Some (Whole d.second)) (events_of two.id events) second_leads tt,
      sound_so o (lines.Session two ∷ lines_of two.id (looks_of (chain_of o one two) h.later d events h.leads)) (Some (Whole d.second)) (events_of two.id events) (inl second_leads),
    ),
  )

  own : AreTheirOwn o one two script d events
  own = record {
    script = h.later;
    named = h.named;
    leads = h.leads;
    first = (
      Some (Whole d.first),
      events_of one.id events,
      ended d.first ∷ [],
      rw lines_one first_leads,
      refl,
      with_ends one.id (ended d.first ∷ []) first_end,
    );
    second = (
      Some (Whole d.second),
      events_of two.id events,
      ended d.second ∷ [],
      second_leads,
      refl,
      with_ends two.id (ended d.second ∷ []) second_end,
    );
    first_rests = (script_runs o None (lines.Session one ∷ lines_of one.id h.later) (Some (Whole d.first)) (events_of one.id events) first_leads tt).2.rest;
    second_rests = (script_runs o None (lines.Session two ∷ lines_of two.id (looks_of (chain_of o one two) h.later d events h.leads)) (Some (Whole d.second)) (events_of two.id events) second_leads tt).2.rest;
  }

pub their_own : (o : Openings) (script : List Line) (one two : SessionRow) (d : Chained) (events : List Event) → AreOf one two d → LeadTo o NoPump script (BothPumps one two d) events → AreTheirOwn o one two script d events
their_own o script one two d events are leads = own o script one two d events are (none_part o script one two d events leads)

pub are_sound : (o : Openings) (script : List Line) (one two : SessionRow) (d : Chained) (events : List Event) → AreOf one two d → LeadTo o NoPump script (BothPumps one two d) events → AreSoundTimed d events
are_sound o script one two d events are leads = sound o script one two d events are (none_part o script one two d events leads)
