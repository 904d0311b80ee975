-- A replay, line by line.
use Rattle.std.proofs.Common.{◌≡◌, ℕ, ◌+◌, ◌-◌, ◌^◌, ◌<◌, ◌≤◌, inl, inr, min, List, [], ◌∷◌, ◌++◌, Option, None, Some, length, refl, sym, ap, ◌∙◌, subst, append_assoc, append-nil, arith, length-append}
use Rattle.std.specs.Io.KnownBytes.{prepend_known, Consumes, Keeps, Appends, IsAtEnd}
use Rattle.pump_frame.specs.Counts.{Rose}
use Rattle.pump_link.specs.Causes.{AppendsPrefix}
use Rattle.script_reader.specs.declared.line.Line.{Line}
use Rattle.script_reader.specs.declared.event.Event.{Event}
use Rattle.script_reader.specs.declared.fault.Fault.{Fault}
use Rattle.script_reader.specs.declared.fault.Fault.TheVariants.{Read, Script}
use Rattle.script_reader.specs.declared.lines.Lined.TheVariants as lined
use Rattle.script_reader.specs.Grammar.{IsLine}
use Rattle.script_reader.specs.Lines.{LineReading, to_come, AreLines, IsUnended, IsNextLine}
use Rattle.script_reader.specs.Openings.{Openings}
use Rattle.script_reader.specs.Transcript.{text, fault_line}
use Rattle.script_reader.specs.Sessions.{Sessions, no_sessions, ScriptLeads, ScriptLeadsTo, ScriptRefuses, AllEnd}
use Rattle.script_reader.proofs.LoneSession.{alone_transcript}
use Rattle.script_reader.proofs.LineEnds.{Keeps-then}
use Rattle.pump_link.proofs.Known.{Appends-none}
use Rattle.script_replay.specs.Outputs.{Gathers}
use Rattle.script_replay.specs.Runners.{Closes, EndsAs}
use Rattle.script_replay.specs.declared.ended.Ended.{Ended}
use Rattle.script_replay.specs.declared.ended.Ended.TheVariants as ended
use Rattle.script_replay.specs.Replays.{IsSoFar, Replayed, IsFaultyAt, fault_after, IsNear, IsWithinLine, IsNearLast, IsFinished, IsUnread, IsFaulted, IsOutput, IsCutOff, Wrote, WrotePrefix}
use Rattle.script_replay.specs.Shelves.{Shelved}
use Rattle.script_replay.proofs.Kept.{keep_laws, timed_so, sound_ends}
use Rattle.script_replay.proofs.Gathered.{text-more, gathers_then, appends_then, prefix_then, prefix_more}

-- ---- the lines ----

pub Keeps-same : (a : Option (List ℕ)) → Keeps a a
Keeps-same None = tt
Keeps-same (Some x) = refl

pub Keeps-fresh : (a : Option (List ℕ)) → Keeps a (prepend_known [] a)
Keeps-fresh None = tt
Keeps-fresh (Some x) = refl

Consumes-kept : (a b c : Option (List ℕ)) (x : List ℕ) → Keeps a b → Consumes b c x → Consumes a c x
Consumes-kept None b c x p q = tt
Consumes-kept (Some s) None c x p q = absurd p
Consumes-kept (Some s) (Some t) None x p q = absurd q
Consumes-kept (Some s) (Some t) (Some u) x p q = sym p ∙ q

AreLines-kept : (all mid rest : Option (List ℕ)) (lines : List Line) → AreLines all lines mid → Keeps mid rest → AreLines all lines rest
AreLines-kept all mid rest [] h k = Keeps-then all mid rest h k
AreLines-kept all mid rest (line ∷ lines) h k = (h.0, h.1, h.2, h.3, h.4, AreLines-kept h.1 mid rest lines h.5 k)

pub AreLines-more : (all mid rest : Option (List ℕ)) (lines : List Line) (line : Line) (bytes : List ℕ) → AreLines all lines mid → IsUnended bytes → IsLine line bytes → Consumes mid rest (bytes ++ 10 ∷ [])
    → AreLines all (lines ++ line ∷ []) rest
AreLines-more all mid rest [] line bytes h u i c = (bytes, rest, u, i, Consumes-kept all mid rest _ h c, Keeps-same rest)
AreLines-more all mid rest (first ∷ lines) line bytes h u i c = (h.0, h.1, h.2, h.3, h.4, AreLines-more h.1 mid rest lines line bytes h.5 u i c)

-- ---- what they do ----

-- one more line at the end
lead_more : (o : Openings) (from to next : Sessions) (lines : List Line) (line : Line) (events more : List Event) → ScriptLeadsTo o from lines to events → ScriptLeads o to line next more → ScriptLeadsTo o from (lines ++ line ∷ []) next (events ++ more)
lead_more o from to next [] line events more h step =
    (next, more, [], subst (λ r. ScriptLeads o r line next more) h.0 step, (refl, refl), ap (λ z. z ++ more) h.1 ∙ sym (append-nil more))
lead_more o from to next (first ∷ lines) line events more h step =
    (h.0, h.1, h.2 ++ more, h.3, lead_more o h.0 to next lines line h.2 more h.4 step, ap (λ z. z ++ more) h.5 ∙ append_assoc h.1 h.2 more)

-- ---- so far ----

pub so_far_more : (o : Openings) (all mid rest : Option (List ℕ)) (lines : List Line) (events more : List Event) (running next : Sessions) (line : Line) (bytes : List ℕ)
    → IsSoFar o all mid lines events running → IsUnended bytes → IsLine line bytes → Consumes mid rest (bytes ++ 10 ∷ []) → ScriptLeads o running line next more
    → IsSoFar o all rest (lines ++ line ∷ []) (events ++ more) next
so_far_more o all mid rest lines events more running next line bytes s u i c step =
    record { spelled = AreLines-more all mid rest lines line bytes s.spelled u i c; leads = lead_more o no_sessions running next lines line events more s.leads step }

pub so_far_kept : (o : Openings) (all mid rest : Option (List ℕ)) (lines : List Line) (events : List Event) (running : Sessions) → IsSoFar o all mid lines events running → Keeps mid rest → IsSoFar o all rest lines events running
so_far_kept o all mid rest lines events running s k = record { spelled = AreLines-kept all mid rest lines s.spelled k; leads = s.leads }

pub fresh_gathers : (held : List ℕ) (a : Option (List ℕ)) → held ≡ [] → Gathers [] held a a (text [])
fresh_gathers held a e = ([], Appends-none a, sym e)

-- what is held is handed on
pub shown : (held later : List ℕ) (a b c : Option (List ℕ)) (t : List ℕ) → Gathers [] held a b t → Gathers held later b c [] → Gathers [] later a c t
shown held later a b c t p q = rw append-nil at (gathers_then [] held later a b c t [] p q)

-- more is printed
pub printed : (held later : List ℕ) (a b c : Option (List ℕ)) (events more : List Event) → Gathers [] held a b (text events) → Gathers held later b c (text more) → Gathers [] later a c (text (events ++ more))
printed held later a b c events more p q = rw (text-more events more) (gathers_then [] held later a b c (text events) (text more) p q)

pub stopped_text : (events printed : List Event) (fault : Fault) → text (events ++ printed) ++ fault_line fault ≡ text events ++ (text printed ++ fault_line fault)
stopped_text events printed fault = ap (λ t. t ++ fault_line fault) (text-more events printed) ∙ append_assoc (text events) (text printed) (fault_line fault)

-- ---- the ends ----

-- so far it was replayed
abbrev pub replayed : (o : Openings) (all rest : Option (List ℕ)) (lines : List Line) (events : List Event) (running : Sessions) → IsSoFar o all rest lines events running → length lines < 2 ^ 32 → Replayed all
replayed o all rest lines events running s few =
    record { openings = o; lines = lines; events = events; sessions = running; rest = rest; so_far = s; few = few; laws = keep_laws o lines running events (inl s.leads); timed = timed_so o lines running events s.leads }

module _ (shelf : Shelved) (o : Openings) (all rest left old now new : Option (List ℕ)) (before after : ℕ) (lines : List Line) (events : List Event) (running : Sessions)
    (s : IsSoFar o all rest lines events running) (few : length lines < 2 ^ 32) (held : List ℕ) (w : Gathers [] held old now (text events)) where
  abbrev r : Replayed all
  r = replayed o all rest lines events running s few

  -- with these bytes behind what was printed the output ends so, and was written
  pub wrote : (End : Replayed all → List ℕ → Type 0) (x : List ℕ) → End r (text events ++ x) → Appends now new (held ++ x) → Wrote all old new End
  wrote End x e a = (r, text events ++ x, e, appends_then [] held old now new (text events) x w a)

  pub wrote_prefix : (x : List ℕ) → IsNearLast rest left → IsOutput shelf left before after r (text events ++ x) → AppendsPrefix now new (held ++ x) → WrotePrefix all old new (IsCutOff shelf left before after)
  wrote_prefix x near e a = (r, text events ++ x, (near, e), prefix_then [] held old now new (text events) x w a)

  done : (last : List Event) → IsAtEnd rest → AllEnd running.begun last → shelf.keeps o running.begun (events ++ last) → IsFinished shelf r (text events ++ text last)
  done last e ends disks = record {
    ended = e;
    printed = events ++ last;
    transcript = (running, events, last, s.leads, ends, refl);
    sound = sound_ends o lines running events last s.leads ends;
    alone = alone_transcript o lines (events ++ last) (running, events, last, s.leads, ends, refl);
    output_is = sym (text-more events last);
    disks = disks;
  }

  module _ (disks : shelf.keeps o running.begun events) where
    faulted : (number : ℕ) → IsNear rest left → IsFaultyAt (length lines) rest running → Script number ≡ fault_after (length lines) → IsFaulted shelf left r (text events ++ fault_line (Script number))
    faulted number near f e = record { faulty = f; taken = near; output_is = ap (λ x. text events ++ fault_line x) e; disks = disks }

    unread : IsWithinLine rest left → Rose before after → IsUnread shelf left before after r (text events ++ fault_line Read)
    unread within rose = record { rose = rose; taken = within; output_is = refl; disks = disks }

    -- what is held could not be handed on
    pub unshown : IsNear rest left → AppendsPrefix now new held → WrotePrefix all old new (IsCutOff shelf left before after)
    unshown near a = wrote_prefix [] (inr (inl near)) (inl (append-nil (text events), disks)) (prefix_more now new held [] a)

    -- what is written last was written or not
    pub refused : (result : Ended) (number rose risen : ℕ) → IsNear rest left → IsFaultyAt (length lines) rest running → Script number ≡ fault_after (length lines)
        → Closes now new rose risen (held ++ fault_line (Script number)) (ended.Stopped (Script number)) result → EndsAs shelf all left old new before after result
    refused result number rose risen near f e c =
        elim c [
          | inl is ↦ rw is.0 (wrote (λ r output. IsFaulted shelf left r output) (fault_line (Script number)) (faulted number near f e) is.1)
          | inr is ↦ rw is.0 (wrote_prefix (fault_line (Script number)) (inr (inl near)) (inr (inr (inl (faulted number near f e)))) is.1)
        ]

    pub failed : (result : Ended) (rose risen : ℕ) → IsWithinLine rest left → Rose before after
        → Closes now new rose risen (held ++ fault_line Read) (ended.Stopped Read) result → EndsAs shelf all left old new before after result
    failed result rose risen within because c =
        elim c [
          | inl is ↦ rw is.0 (wrote (λ r output. IsUnread shelf left before after r output) (fault_line Read) (unread within because) is.1)
          | inr is ↦ rw is.0 (wrote_prefix (fault_line Read) (inr (inl (within.0, within.1, within.2))) (inr (inr (inr (inl (unread within because))))) is.1)
        ]

  pub finished : (result : Ended) (rose risen : ℕ) (last : List Event) → IsAtEnd rest → AllEnd running.begun last → shelf.keeps o running.begun (events ++ last)
      → Closes now new rose risen (held ++ text last) ended.Done result → EndsAs shelf all left old new before after result
  finished result rose risen last e ends disks c =
      elim c [
        | inl is ↦ rw is.0 (wrote (λ r output. IsFinished shelf r output) (text last) (done last e ends disks) is.1)
        | inr is ↦ rw is.0 (wrote_prefix (text last) (inl e) (inr (inl (done last e ends disks))) is.1)
      ]

-- what a line prints could not be handed on
pub unprinted : (shelf : Shelved) (o : Openings) (all mid rest left old now new : Option (List ℕ)) (before after : ℕ) (lines : List Line) (events more : List Event) (running next : Sessions) (line : Line) (bytes held : List ℕ)
    → IsSoFar o all mid lines events running → length lines + 1 < 2 ^ 32 → IsUnended bytes → IsLine line bytes → Consumes mid rest (bytes ++ 10 ∷ []) → ScriptLeads o running line next more
    → shelf.keeps o next.begun (events ++ more)
    → IsNear mid left → Gathers [] held old now (text events) → AppendsPrefix now new (held ++ text more) → WrotePrefix all old new (IsCutOff shelf left before after)
unprinted shelf o all mid rest left old now new before after lines events more running next line bytes held s few u i c step disks near w a =
    let so_far = so_far_more o all mid rest lines events more running next line bytes s u i c step in
    let counted : length (lines ++ line ∷ []) < 2 ^ 32 = omega (arith, few, length-append lines (line ∷ [])) in (
      replayed o all rest (lines ++ line ∷ []) (events ++ more) next so_far counted,
      text events ++ text more,
      (inr (inr (line, mid, (bytes, rest, u, i, c, Keeps-same rest), near)), inl (sym (text-more events more), disks)),
      prefix_then [] held old now new (text events) (text more) w a,
    )

-- ---- the line after ----

-- the line that was read
pub next_line : (old new : LineReading) (left rest : Option (List ℕ)) (line : Line) → IsNextLine old new left rest (lined.Line line) → AreLines (to_come old left) (line ∷ []) (to_come new rest)
next_line old new left rest line n = (n.0, to_come new rest, n.1, n.2, n.3, Keeps-same (to_come new rest))

-- one that can't be applied, and one that can't be read
pub faulty_line : (old new : LineReading) (left rest : Option (List ℕ)) (line : Line) (running : Sessions) (number : ℕ) → IsNextLine old new left rest (lined.Line line) → ScriptRefuses running line → IsFaultyAt number (to_come old left) running
faulty_line old new left rest line running number n e = inl (inr (line, to_come new rest, next_line old new left rest line n, e))

pub faulty_bad : (old new : LineReading) (left rest : Option (List ℕ)) (lines : List Line) (running : Sessions) → IsNextLine old new left rest lined.Bad → length lines ≡ old.number → IsFaultyAt (length lines) (to_come old left) running
faulty_bad old new left rest lines running n e = elim n.1 [ inl bad ↦ inl (inl bad) | inr last ↦ inr (e ∙ last.0, last.1) ]

pub line_number : (old new : LineReading) (left rest : Option (List ℕ)) (line : Line) (lines : List Line) (number : ℕ) → IsNextLine old new left rest (lined.Line line) → length lines ≡ old.number → number ≡ new.number → number < 2 ^ 32 → Script number ≡ fault_after (length lines)
line_number old new left rest line lines number n e same low =
    let is : number ≡ min (length lines + 1) (2 ^ 32 - 1) = omega (arith, n.4, e, same) in
    ap Script is

pub bad_number : (old new : LineReading) (left rest : Option (List ℕ)) (lines : List Line) (number : ℕ) → IsNextLine old new left rest lined.Bad → length lines ≡ old.number → number ≡ new.number → Script number ≡ fault_after (length lines)
bad_number old new left rest lines number n e same = ap Script (same ∙ n.2 ∙ ap (λ k. min (k + 1) (2 ^ 32 - 1)) (sym e))

-- a line that was read has a number below 2^32
pub one_left : (old new : LineReading) (left rest : Option (List ℕ)) (line : Line) (lines : List Line) → IsNextLine old new left rest (lined.Line line) → length lines ≡ old.number → new.number < 2 ^ 32 → length lines + 1 < 2 ^ 32
one_left old new left rest line lines n e few = omega (arith, n.4, e, few)

pub counted_more : (old new : LineReading) (left rest : Option (List ℕ)) (line : Line) (lines : List Line) → IsNextLine old new left rest (lined.Line line) → length lines ≡ old.number → new.number < 2 ^ 32 → length (lines ++ line ∷ []) < 2 ^ 32
counted_more old new left rest line lines n e few = omega (arith, n.4, e, few, length-append lines (line ∷ []))

-- ---- how much was taken ----

near_held : (a left : Option (List ℕ)) (held : List ℕ) → Keeps a (prepend_known held left) → Consumes a left held
near_held None left held k = tt
near_held (Some xs) None held k = absurd k
near_held (Some xs) (Some ys) held k = sym k

near_line : (a left : Option (List ℕ)) (bytes held : List ℕ) → Consumes a (prepend_known held left) (bytes ++ 10 ∷ []) → Consumes a left (bytes ++ 10 ∷ held)
near_line None left bytes held k = tt
near_line (Some xs) None bytes held k = absurd k
near_line (Some xs) (Some ys) bytes held k = k ∙ append_assoc bytes (10 ∷ []) (held ++ ys) ∙ sym (append_assoc bytes (10 ∷ held) ys)

pub near_now : (reading : LineReading) (left : Option (List ℕ)) → length reading.held ≤ 4096 → IsNear (to_come reading left) left
near_now reading left few = (reading.held, near_held (to_come reading left) left reading.held (Keeps-same (to_come reading left)), few)

pub near_bad : (old new : LineReading) (left rest : Option (List ℕ)) → IsNextLine old new left rest lined.Bad → IsNear (to_come old left) rest
near_bad old new left rest n = (new.held, near_held (to_come old left) rest new.held n.0, n.3)

pub within_failed : (old new : LineReading) (left rest : Option (List ℕ)) → IsNextLine old new left rest lined.Failed → IsWithinLine (to_come new rest) rest
within_failed old new left rest n = (new.held, near_held (to_come new rest) rest new.held (Keeps-same (to_come new rest)), n.2, n.3)

pub near_next : (old new : LineReading) (left rest : Option (List ℕ)) (line : Line) → IsNextLine old new left rest (lined.Line line) → IsNear (to_come old left) rest
near_next old new left rest line n = (n.0 ++ 10 ∷ new.held, near_line (to_come old left) rest n.0 new.held n.3, omega (arith, n.5, length-append n.0 (10 ∷ new.held)))

-- ---- the sink's count ----

-- the end is a failed write only where the count rose
pub closed : (old new : Option (List ℕ)) (first before now : ℕ) (bytes : List ℕ) (end result : Ended) → first ≤ before → (end ≡ ended.Write → ⊥)
    → Closes old new before now bytes end result → result ≡ ended.Write → Rose first now
closed old new first before now bytes end result low other c e =
    elim c [
      | inl is ↦ absurd (other (sym is.0 ∙ e))
      | inr is ↦ omega (arith, is.2, low)
    ]
