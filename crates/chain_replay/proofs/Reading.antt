-- The lines of a script, one after another.
use Rattle.std.proofs.Common.{◌≡◌, ℕ, ◌+◌, ◌-◌, ◌^◌, ◌<◌, ◌≤◌, inl, inr, min, List, [], ◌∷◌, ◌++◌, Option, None, Some, length, refl, sym, ap, ◌∙◌, subst, append_assoc, append-nil, arith, length-append}
use Rattle.std.specs.Io.KnownBytes.{Consumes, Keeps}
use Rattle.pump_frame.specs.declared.row.SessionRow.{SessionRow}
use Rattle.script_reader.specs.declared.event.Event.{Event}
use Rattle.script_reader.specs.declared.fault.Fault.{Fault}
use Rattle.script_reader.specs.declared.fault.Fault.TheVariants as faults
use Rattle.script_reader.specs.declared.line.Line.{Line}
use Rattle.script_reader.specs.declared.line.Line.TheVariants.{Skip, Session}
use Rattle.script_reader.specs.declared.lines.Lined.TheVariants as lined
use Rattle.script_reader.specs.Grammar.{IsLine}
use Rattle.script_reader.specs.Lines.{LineReading, to_come, AreLines, IsUnended, IsNextLine}
use Rattle.script_reader.specs.Openings.{Openings}
use Rattle.script_reader.proofs.LineEnds.{Keeps-then}
use Rattle.script_replay.proofs.SoFar.{Keeps-same, Keeps-fresh, next_line, near_now, near_next, near_bad, line_number, bad_number, counted_more}
use Rattle.chain_replay.specs.Faults.{IsHalted}
use Rattle.chain_replay.specs.Private.{HasRead, ReadsRow, ReadsNoFurther}
use Rattle.chain_replay.specs.Replays.{IsSoFar}
use Rattle.chain_replay.specs.Scripts.{Begun, NoPump, OnePump, BothPumps, LacksPump, Leads, Refuses, LeadTo}

-- ---- lines ----

Consumes-kept : (a b c : Option (List ℕ)) (x : List ℕ) → Keeps a b → Consumes b c x → Consumes a c x
Consumes-kept None b c x p q = tt
Consumes-kept (Some s) None c x p q = absurd p
Consumes-kept (Some s) (Some t) None x p q = absurd q
Consumes-kept (Some s) (Some t) (Some u) x p q = sym p ∙ q

lines_kept : (all mid rest : Option (List ℕ)) (lines : List Line) → AreLines all lines mid → Keeps mid rest → AreLines all lines rest
lines_kept all mid rest [] h k = Keeps-then all mid rest h k
lines_kept all mid rest (line ∷ lines) h k = (h.0, h.1, h.2, h.3, h.4, lines_kept h.1 mid rest lines h.5 k)

lines_more : (all mid rest : Option (List ℕ)) (lines : List Line) (line : Line) (bytes : List ℕ) → AreLines all lines mid → IsUnended bytes → IsLine line bytes → Consumes mid rest (bytes ++ 10 ∷ [])
    → AreLines all (lines ++ line ∷ []) rest
lines_more all mid rest [] line bytes h u i c = (bytes, rest, u, i, Consumes-kept all mid rest _ h c, Keeps-same rest)
lines_more all mid rest (first ∷ lines) line bytes h u i c = (h.0, h.1, h.2, h.3, h.4, lines_more h.1 mid rest lines line bytes h.5 u i c)

lead_more : (o : Openings) (from to next : Begun) (lines : List Line) (line : Line) (events more : List Event) → LeadTo o from lines to events → Leads o to line next more → LeadTo o from (lines ++ line ∷ []) next (events ++ more)
lead_more o from to next [] line events more h step =
    (next, more, [], subst (λ b. Leads o b line next more) h.0 step, (refl, refl), ap (λ z. z ++ more) h.1 ∙ sym (append-nil more))
lead_more o from to next (first ∷ lines) line events more h step =
    (h.0, h.1, h.2 ++ more, h.3, lead_more o h.0 to next lines line h.2 more h.4 step, ap (λ z. z ++ more) h.5 ∙ append_assoc h.1 h.2 more)

pub so_far_kept : (o : Openings) (all mid rest : Option (List ℕ)) (lines : List Line) (begun : Begun) (events : List Event) → IsSoFar o all mid lines begun events → Keeps mid rest → IsSoFar o all rest lines begun events
so_far_kept o all mid rest lines begun events s k = record { spelled = lines_kept all mid rest lines s.spelled k; leads = s.leads; few = s.few }

-- ---- one more ----

module _ (o : Openings) (all : Option (List ℕ)) (old new : LineReading) (left rest : Option (List ℕ)) (begun : Begun) (events : List Event) (h : HasRead o all (to_come old left) old.number begun events) where
  module _ (line : Line) (n : IsNextLine old new left rest (lined.Line line)) (few : new.number < 2 ^ 32) where
    pub so_far_more : (next : Begun) (more : List Event) → Leads o begun line next more → IsSoFar o all (to_come new rest) (h.0 ++ line ∷ []) next (events ++ more)
    so_far_more next more step = record {
      spelled = lines_more all (to_come old left) (to_come new rest) h.0 line n.0 h.1.spelled n.1 n.2 n.3;
      leads = lead_more o NoPump begun next h.0 line events more h.1.leads step;
      few = counted_more old new left rest line h.0 n h.2 few;
    }

    pub read_more : (next : Begun) (more : List Event) → Leads o begun line next more → HasRead o all (to_come new rest) new.number next (events ++ more)
    read_more next more step = (h.0 ++ line ∷ [], so_far_more next more step, omega (arith, n.4, h.2, length-append h.0 (line ∷ [])))

  -- ---- it is not read on ----

  -- the line can't be applied
  pub halted_line : (line : Line) (n : IsNextLine old new left rest (lined.Line line)) (number was now : ℕ) → Refuses begun line → number ≡ new.number → number < 2 ^ 32 → IsHalted (to_come old left) rest (length h.0) was now begun (faults.Script number)
  halted_line line n number was now refused is few = (
    inl (inr (line, to_come new rest, next_line old new left rest line n, refused)),
    near_next old new left rest line n,
    line_number old new left rest line h.0 number n h.2 is few,
  )

  -- it can't be read
  pub halted_bad : (n : IsNextLine old new left rest lined.Bad) (number was now : ℕ) → number ≡ new.number → IsHalted (to_come old left) rest (length h.0) was now begun (faults.Script number)
  halted_bad n number was now is = (
    elim n.1 [ inl bad ↦ inl (inl bad) | inr last ↦ inr (inl (h.2 ∙ last.0, last.1)) ],
    near_bad old new left rest n,
    bad_number old new left rest h.0 number n h.2 is,
  )

  -- it is at its end
  pub halted_end : (n : IsNextLine old new left rest lined.End) (number was now : ℕ) → LacksPump begun → new.held ≡ [] → number ≡ min (old.number + 1) (2 ^ 32 - 1)
      → IsHalted (to_come old left) rest (length h.0) was now begun (faults.Script number)
  halted_end n number was now lacks none is =
      let near = near_now new rest (omega (arith, ap length none)) in (
        inr (inr (n.1, lacks)),
        (near.0, Consumes-kept (to_come old left) (to_come new rest) rest near.0 n.0 near.1, near.2),
        ap faults.Script (is ∙ ap (λ k. min (k + 1) (2 ^ 32 - 1)) (sym h.2)),
      )

skipped : (o : Openings) (begun : Begun) → LacksPump begun → Leads o begun Skip begun []
skipped o NoPump l = (refl, refl)
skipped o (OnePump one) l = (refl, refl)
skipped o (BothPumps one two c) l = absurd l

-- a line is skipped
pub read_skip : (o : Openings) (all : Option (List ℕ)) (old new : LineReading) (left rest : Option (List ℕ)) (begun : Begun) (line : Line) → LacksPump begun → HasRead o all (to_come old left) old.number begun []
    → IsNextLine old new left rest (lined.Line line) → new.number < 2 ^ 32 → line ≡ Skip → HasRead o all (to_come new rest) new.number begun []
read_skip o all old new left rest begun line lacks h n few is =
    read_more o all old new left rest begun [] h line n few begun [] (subst (λ l. Leads o begun l begun []) (sym is) (skipped o begun lacks))

-- the next line is a `session` line
pub read_row : (o : Openings) (all : Option (List ℕ)) (old new : LineReading) (left rest : Option (List ℕ)) (begun : Begun) (line : Line) (row : SessionRow) → HasRead o all (to_come old left) old.number begun []
    → IsNextLine old new left rest (lined.Line line) → line ≡ Session row → ReadsRow o all rest new begun row
read_row o all old new left rest begun line row h n is = record {
  lines = h.0;
  rest = to_come old left;
  so_far = h.1;
  spelled = subst (λ l. AreLines (to_come old left) (l ∷ []) (to_come new rest)) is (next_line old new left rest line n);
  number = omega (arith, n.4, h.2);
  near = near_next old new left rest line n;
}

-- ---- the two rows ----

-- nothing was read yet
pub read_none : (o : Openings) (lines : LineReading) (all : Option (List ℕ)) → lines ≡ record { held = []; number = 0 } → HasRead o all (to_come lines all) lines.number NoPump []
read_none o lines all is = ([], record { spelled = subst (λ (l : LineReading). Keeps all (to_come l all)) (sym is) (Keeps-fresh all); leads = (refl, refl); few = omega arith }, sym (ap (λ (l : LineReading). l.number) is))

module _ (o : Openings) (all left : Option (List ℕ)) (reading : LineReading) (begun : Begun) (row : SessionRow) (r : ReadsRow o all left reading begun row) (few : reading.number < 2 ^ 32) where
  -- the session that the line is to begin
  pub row_begins : (next : Begun) → Leads o begun (Session row) next [] → HasRead o all (to_come reading left) reading.number next []
  row_begins next step = (
    r.lines ++ Session row ∷ [],
    record {
      spelled = (let s = r.spelled in lines_kept all s.1 (to_come reading left) (r.lines ++ Session row ∷ []) (lines_more all r.rest s.1 r.lines (Session row) s.0 r.so_far.spelled s.2 s.3 s.4) s.5);
      leads = lead_more o NoPump begun next r.lines (Session row) [] [] r.so_far.leads step;
      few = (let n = r.number in omega (arith, n, few, length-append r.lines (Session row ∷ [])));
    },
    (let n = r.number in omega (arith, n, length-append r.lines (Session row ∷ []))),
  )

  -- it can't be applied
  pub row_refused : (number was now : ℕ) → Refuses begun (Session row) → number ≡ reading.number → ReadsNoFurther o all left was now begun (faults.Script number)
  row_refused number was now refused is = record {
    lines = r.lines;
    rest = r.rest;
    so_far = r.so_far;
    halted = (
      inl (inr (Session row, to_come reading left, r.spelled, refused)),
      r.near,
      (let n = r.number in let same : number ≡ min (length r.lines + 1) (2 ^ 32 - 1) = omega (arith, n, is, few) in ap faults.Script same),
    );
  }

pub halted_since : (rest left : Option (List ℕ)) (number first was now : ℕ) (begun : Begun) (fault : Fault) → first ≤ was → IsHalted rest left number was now begun fault → IsHalted rest left number first now begun fault
halted_since rest left number first was now begun faults.Read low h = (let rose = h.0 in omega (arith, rose, low), h.1)
halted_since rest left number first was now begun (faults.Script line) low h = h
halted_since rest left number first was now begun faults.Words low h = h
halted_since rest left number first was now begun (faults.Device session role) low h = h
halted_since rest left number first was now begun (faults.Disk session role n x y) low h = h
halted_since rest left number first was now begun (faults.Full session end n size) low h = h

pub halted_later : (o : Openings) (all left : Option (List ℕ)) (first was now : ℕ) (begun : Begun) (fault : Fault) → first ≤ was → ReadsNoFurther o all left was now begun fault → ReadsNoFurther o all left first now begun fault
halted_later o all left first was now begun fault low h = record { lines = h.lines; rest = h.rest; so_far = h.so_far; halted = halted_since h.rest left (length h.lines) first was now begun fault low h.halted }
