-- The lines of a chain, and how they end.
use Rattle.std.proofs.Common.{◌≡◌, ℕ, ◌+◌, ◌-◌, ◌^◌, ◌<◌, inl, inr, min, List, [], ◌∷◌, ◌++◌, Option, length, refl, sym, ap, ◌∙◌, subst, append_assoc, append-nil, arith}
use Rattle.std.specs.Io.KnownBytes.{IsAtEnd}
use Rattle.disk_model.specs.Disk.{Meaning}
use Rattle.disk_model.specs.declared.disk.Disk.{Ghosts}
use Rattle.pump_chain.specs.Chained.{Chained, Share, Skipped, OfFirst, OfSecond, MakesFirst, MakesSecond, OfNone, share, LeadsBy, ChainLeads, ChainRefuses}
use Rattle.pump_chain.specs.Ends.{ends_of}
use Rattle.pump_chain.specs.Failing.{FailNoLess}
use Rattle.pump_chain.specs.Standing.{ChainStands, ChainStandsOrFails, ChainBreaks, ChainOverfills}
use Rattle.pump_chain.specs.declared.chain.Chain.{Chain}
use Rattle.pump_frame.specs.declared.row.SessionRow.{SessionRow}
use Rattle.pump_link.specs.Causes.{AppendsPrefix}
use Rattle.disk_model.specs.declared.name.Role.{Role}
use Rattle.script_reader.specs.declared.event.Event.{Event}
use Rattle.script_reader.specs.declared.fault.Fault.{Fault}
use Rattle.script_reader.specs.declared.fault.Fault.TheVariants as faults
use Rattle.script_reader.specs.declared.line.Line.{Line}
use Rattle.script_reader.specs.declared.lines.Lined.TheVariants as lined
use Rattle.script_reader.specs.Lines.{LineReading, to_come, IsNextLine}
use Rattle.script_reader.specs.Openings.{Openings}
use Rattle.script_reader.specs.Transcript.{text, fault_line}
use Rattle.script_replay.specs.Replays.{fault_after, IsNear}
use Rattle.script_replay.specs.Outputs.{Gathers}
use Rattle.script_replay.specs.Runners.{Closes}
use Rattle.script_replay.specs.declared.ended.Ended.{Ended}
use Rattle.script_replay.specs.declared.ended.Ended.TheVariants as ended
use Rattle.script_replay.proofs.Gathered.{text-more, prefix_more, appends_then, prefix_then, gathers_then}
use Rattle.script_replay.proofs.SoFar.{next_line, near_next, one_left}
use Rattle.chain_replay.specs.Ends.{EndsChain}
use Rattle.chain_replay.specs.Faults.{IsHalted, ChainStops, NamesWhatFailed}
use Rattle.chain_replay.specs.Opened.{Shelved}
use Rattle.chain_replay.specs.Private.{AreOf, FailsIn, HasRead, LineGoes, lent}
use Rattle.chain_replay.specs.Replays.{IsKept, Replayed, IsFinished, EndsWith}
use Rattle.chain_replay.specs.Scripts.{NoPump, LeadTo, BothPumps}
use Rattle.chain_replay.specs.declared.applying.ChainOutcome.{ChainOutcome}
use Rattle.chain_replay.specs.declared.applying.ChainOutcome.TheVariants as outcomes
use Rattle.chain_replay.proofs.Failed.{named_since}
use Rattle.chain_replay.proofs.Parts.{their_own, are_sound}
use Rattle.chain_replay.proofs.Reading.{so_far_more, halted_line}

-- ---- the sessions keep their numbers ----

module _ (one two : SessionRow) (c : Chained) (are : AreOf one two c) where
  of_led : (s : Share) (d : Chained) (printed : List Event) → LeadsBy c s d printed → AreOf one two d
  of_led Skipped d printed h = subst (AreOf one two) (sym h.0) are
  of_led OfNone d printed h = absurd h
  of_led MakesFirst d printed h = subst (AreOf one two) (sym h.2) are
  of_led MakesSecond d printed h = subst (AreOf one two) (sym h.2) are
  of_led (OfFirst line) d printed h = subst (AreOf one two) (sym h.1.2) are
  of_led (OfSecond line) d printed h = subst (AreOf one two) (sym h.1.2) are

  of_broken : (s : Share) (role : Role) (d : Chained) (printed : List Event) → ChainBreaks c s role d printed → AreOf one two d
  of_broken Skipped role d printed h = absurd h
  of_broken OfNone role d printed h = absurd h
  of_broken MakesFirst role d printed h = absurd h
  of_broken MakesSecond role d printed h = absurd h
  of_broken (OfFirst line) role d printed h = subst (AreOf one two) (sym h.1.2) are
  of_broken (OfSecond line) role d printed (order, inl h) = subst (AreOf one two) (sym h.2) are
  of_broken (OfSecond line) role d printed (order, inr h) = subst (AreOf one two) (sym h.2) are

  of_full : (s : Share) (d : Chained) (printed : List Event) (end n size : ℕ) → ChainOverfills c s d printed end n size → AreOf one two d
  of_full Skipped d printed end n size h = absurd h
  of_full OfNone d printed end n size h = absurd h
  of_full MakesFirst d printed end n size h = absurd h
  of_full MakesSecond d printed end n size h = absurd h
  of_full (OfFirst line) d printed end n size h = subst (AreOf one two) (sym h.1.2) are
  of_full (OfSecond line) d printed end n size h = subst (AreOf one two) (sym h.1.2) are

  pub of_leads : (line : Line) (d : Chained) (printed : List Event) → ChainLeads c line d printed → AreOf one two d
  of_leads line d printed h = of_led (share c line) d printed h

  pub of_stops : (first : ℕ) (line : Line) (d : Chained) (printed : List Event) (fault : Fault) → ChainStops first c line d printed fault → AreOf one two d
  of_stops first line d printed (faults.Device session role) h = of_broken (share c line) role d printed h.0
  of_stops first line d printed (faults.Full session end n size) h = of_full (share c line) d printed end n size h.0
  of_stops first line d printed faults.Words h = absurd h
  of_stops first line d printed faults.Read h = absurd h
  of_stops first line d printed (faults.Script number) h = absurd h
  of_stops first line d printed (faults.Disk session role number x y) h = absurd h

pub or_fails : {D : Type 0} {g : Ghosts D} (m : Meaning D) (chain : Chain D g) (c : Chained) → ChainStands m chain c → ChainStandsOrFails m chain c
or_fails m chain c s = record { first = inl s.first; first_row = s.first_row; second = inl s.second; second_row = s.second_row; linked = s.linked }

-- ---- what was written ----

-- no such end is a want of memory
pub closed_memory : (old new : Option (List ℕ)) (before now : ℕ) (bytes : List ℕ) (fault : Fault) (result : Ended) → Closes old new before now bytes (ended.Stopped fault) result → result ≡ ended.Memory → ⊥
closed_memory old new before now bytes fault result c e = elim c [ inl is ↦ cc (sym is.0 ∙ e) | inr is ↦ cc (sym is.0 ∙ e) ]

module _ (shelf : Shelved) (all left old mid new : Option (List ℕ)) (was now : ℕ) (r : Replayed all) (held x : List ℕ) (w : Gathers [] held old mid x) where
  pub stops : (fault : Fault) (result : Ended) (rose risen : ℕ) → EndsWith shelf left was now fault r (x ++ fault_line fault) → Closes mid new rose risen (held ++ fault_line fault) (ended.Stopped fault) result
      → EndsChain shelf all left old new was now result
  stops fault result rose risen e c =
      elim c [
        | inl is ↦ rw is.0 (r, x ++ fault_line fault, e, appends_then [] held old mid new x (fault_line fault) w is.1)
        | inr is ↦ rw is.0 (r, x ++ fault_line fault, inr (inr (fault, e)), prefix_then [] held old mid new x (fault_line fault) w is.1)
      ]

  pub finishes : (last : List ℕ) (result : Ended) (rose risen : ℕ) → IsFinished shelf r (x ++ last) → Closes mid new rose risen (held ++ last) ended.Done result → EndsChain shelf all left old new was now result
  finishes last result rose risen e c =
      elim c [
        | inl is ↦ rw is.0 (r, x ++ last, e, appends_then [] held old mid new x last w is.1)
        | inr is ↦ rw is.0 (r, x ++ last, inr (inl e), prefix_then [] held old mid new x last w is.1)
      ]

-- ---- after the lines so far ----

module _ {D : Type 0} {g : Ghosts D} (m : Meaning D) (start chain : Chain D g) (o : Openings) (all left old : Option (List ℕ)) (was now : ℕ) (one two : SessionRow) (first : ℕ) (is_first : first ≡ one.id) where
  abbrev shelf : Shelved
  shelf = lent m start chain o one two

  -- what is known of the disks after lines that could all be applied
  kept : (c : Chained) (script : List Line) (events : List Event) → ChainStandsOrFails m chain c → AreOf one two c → LeadTo o NoPump script (BothPumps one two c) events → IsKept shelf o (BothPumps one two c) events
  kept c script events stands are leads = ((refl, refl, refl, stands, are), (refl, refl, stands, are, are_sound o script one two c events are leads))

  module _ (d : Chained) (events : List Event) (rest : Option (List ℕ)) (number : ℕ) (h : HasRead o all rest number (BothPumps one two d) events) where
    abbrev r : Replayed all
    r = record { openings = o; lines = h.0; events = events; begun = BothPumps one two d; rest = rest; so_far = h.1 }

    -- it is not read on
    cut_short : (fault : Fault) → ChainStandsOrFails m chain d → AreOf one two d → IsHalted rest left (length h.0) was now (BothPumps one two d) fault → EndsWith shelf left was now fault r (text events ++ fault_line fault)
    cut_short fault stands are halted = inl (record { halted = halted; output_is = refl; disks = kept d h.0 events stands are h.1.leads })

    -- what is held could not be handed on
    pub unshown : (held : List ℕ) (mid new : Option (List ℕ)) → Gathers [] held old mid (text events) → ChainStandsOrFails m chain d → AreOf one two d → IsNear rest left → AppendsPrefix mid new held
        → EndsChain shelf all left old new was now ended.Write
    unshown held mid new w stands are near p = (
      r,
      text events ++ [],
      inl (append-nil (text events), inr (inl near), kept d h.0 events stands are h.1.leads),
      prefix_then [] held old mid new (text events) [] w (prefix_more mid new held [] p),
    )

    module _ (held : List ℕ) (mid new : Option (List ℕ)) (w : Gathers [] held old mid (text events)) (result : Ended) (rose risen : ℕ) where
      pub halts : (fault : Fault) → ChainStandsOrFails m chain d → AreOf one two d → IsHalted rest left (length h.0) was now (BothPumps one two d) fault
          → Closes mid new rose risen (held ++ fault_line fault) (ended.Stopped fault) result → EndsChain shelf all left old new was now result
      halts fault stands are halted c = stops shelf all left old mid new was now r held (text events) w fault result rose risen (cut_short fault stands are halted) c

      pub ends : ChainStandsOrFails m chain d → AreOf one two d → IsAtEnd rest → Closes mid new rose risen (held ++ text (ends_of d)) ended.Done result → EndsChain shelf all left old new was now result
      ends stands are at_end c = finishes shelf all left old mid new was now r held (text events) w (text (ends_of d)) result rose risen (record {
        ended = at_end;
        one = one;
        two = two;
        chain = d;
        begun_is = refl;
        own = their_own o h.0 one two d events are h.1.leads;
        output_is = sym (text-more events (ends_of d));
        disks = (refl, refl, refl, stands, are);
        outlives = (refl, refl, stands, are, are_sound o h.0 one two d events are h.1.leads);
      }) c

  -- ---- a line ----

  module _ (d : Chained) (events : List Event) (reading after : LineReading) (before : Option (List ℕ)) (h : HasRead o all (to_come reading before) reading.number (BothPumps one two d) events)
      (line : Line) (n : IsNextLine reading after before left (lined.Line line)) (few : after.number < 2 ^ 32) where
    abbrev r_line : Replayed all
    r_line = record { openings = o; lines = h.0; events = events; begun = BothPumps one two d; rest = to_come reading before; so_far = h.1 }

    stopped : (e : Chained) (printed : List Event) (fault : Fault) → ChainStops first d line e printed fault → ChainStandsOrFails m chain e → AreOf one two e → NamesWhatFailed (FailsIn m one.id two.id start chain) fault → EndsWith shelf left was now fault r_line (text (events ++ printed) ++ fault_line fault)
    stopped e printed fault s stands are named = inr (inr (record {
      one = one;
      two = two;
      chain = d;
      begun_is = refl;
      line = line;
      next = record { few = one_left reading after before left line h.0 n h.2 few; later = to_come after left; spelled = next_line reading after before left line n; taken = near_next reading after before left line n };
      led = e;
      printed = printed;
      stops = subst (λ (i : ℕ). ChainStops i d line e printed fault) is_first s;
      named = named;
      output_is = refl;
      disks = (refl, refl, refl, stands, are);
    }))

    abbrev refused_fault : Fault
    refused_fault = fault_after (length h.0)

    refused : ChainRefuses d line → IsHalted (to_come reading before) left (length h.0) was now (BothPumps one two d) refused_fault
    refused denied = halted_line o all reading after before left (BothPumps one two d) events h line n (min (length h.0 + 1) (2 ^ 32 - 1)) was now denied (let same = h.2 in omega (arith, same, n.4, few)) (omega arith)

    module _ (held later : List ℕ) (mid then new : Option (List ℕ)) (w : Gathers [] held old mid (text events)) (are : AreOf one two d) (before_line : Chain D g) (low : FailNoLess m start before_line) where
      -- the disk that failed in the line failed since the start
      named_by : (fault : Fault) → (first ≡ d.first.row.id → NamesWhatFailed (FailsIn m d.first.row.id d.second.row.id before_line chain) fault) → NamesWhatFailed (FailsIn m one.id two.id start chain) fault
      named_by fault names =
          named_since m start before_line chain one.id two.id fault low
          (subst (λ (x : ℕ × ℕ). NamesWhatFailed (FailsIn m x.0 x.1 before_line chain) fault) (λ i. (are.0 i, are.1 i)) (names (is_first ∙ sym are.0)))

      -- what it prints is gathered too
      both : (printed : List Event) → Gathers held later mid then (text printed) → Gathers [] later old then (text (events ++ printed))
      both printed p = rw (text-more events printed) (gathers_then [] held later old mid then (text events) (text printed) w p)

      pub stops_by : (e : Chained) (printed : List Event) (fault : Fault) (result : Ended) (rose risen : ℕ) → ChainStops first d line e printed fault → ChainStandsOrFails m chain e → (first ≡ d.first.row.id → NamesWhatFailed (FailsIn m d.first.row.id d.second.row.id before_line chain) fault) → Gathers held later mid then (text printed)
          → Closes then new rose risen (later ++ fault_line fault) (ended.Stopped fault) result → EndsChain shelf all left old new was now result
      stops_by e printed fault result rose risen s stands names p c =
          stops shelf all left old then new was now r_line later (text (events ++ printed)) (both printed p) fault result rose risen (stopped e printed fault s stands (of_stops one two d are first line e printed fault s) (named_by fault names)) c

      pub refuses_by : (printed : List Event) (number : ℕ) (result : Ended) (rose risen : ℕ) → ChainRefuses d line → printed ≡ [] → ChainStands m chain d → Gathers held later mid then (text printed) → number ≡ after.number
          → Closes then new rose risen (later ++ fault_line (faults.Script number)) (ended.Stopped (faults.Script number)) result → EndsChain shelf all left old new was now result
      refuses_by printed number result rose risen denied none stands p is c =
          let halted = halted_line o all reading after before left (BothPumps one two d) events h line n number was now denied is (omega (arith, is, few)) in
          stops shelf all left old then new was now r_line later (text (events ++ printed)) (both printed p) (faults.Script number) result rose risen (inl (record {
            halted = halted;
            output_is = ap (λ (l : List Event). text l ++ fault_line (faults.Script number)) (ap (λ l. events ++ l) none ∙ append-nil events);
            disks = kept d h.0 events (or_fails m chain d stands) are h.1.leads;
          })) c

      -- .. or could not be
      pub unwritten_by : (printed : List Event) (outcome : ChainOutcome) → LineGoes m first d line before_line chain printed outcome → AppendsPrefix mid new (held ++ text printed) → EndsChain shelf all left old new was now ended.Write
      unwritten_by printed outcomes.Applied (e, leads, stands) p = (
          let so_far = so_far_more o all reading after before left (BothPumps one two d) events h line n few (BothPumps one two e) printed (e, leads, refl) in (
            record {
              openings = o;
              lines = h.0 ++ line ∷ [];
              events = events ++ printed;
              begun = BothPumps one two e;
              rest = to_come after left;
              so_far = so_far;
            },
            text events ++ text printed,
            inl (sym (text-more events printed), inr (inr (line, to_come reading before, next_line reading after before left line n, near_next reading after before left line n)), kept e (h.0 ++ line ∷ []) (events ++ printed) (or_fails m chain e stands) (of_leads one two d are line e printed leads) so_far.leads),
            prefix_then [] held old mid new (text events) (text printed) w p,
          ))
      unwritten_by printed outcomes.Refused (denied, none, stands) p = (
        r_line,
        text events ++ fault_line refused_fault,
        inr (inr (refused_fault, inl (record { halted = refused denied; output_is = refl; disks = kept d h.0 events (or_fails m chain d stands) are h.1.leads }))),
        prefix_then [] held old mid new (text events) (fault_line refused_fault) w (prefix_more mid new held (fault_line refused_fault) (subst (λ (l : List ℕ). AppendsPrefix mid new l) (ap (λ (l : List Event). held ++ text l) none ∙ append-nil held) p)),
      )
      unwritten_by printed (outcomes.Stopped fault) (e, s, stands, names) p = (
        r_line,
        text (events ++ printed) ++ fault_line fault,
        inr (inr (fault, stopped e printed fault s stands (of_stops one two d are first line e printed fault s) (named_by fault names))),
        prefix_more old new (text (events ++ printed)) (fault_line fault) (rw (text-more events printed) (prefix_then [] held old mid new (text events) (text printed) w p)),
      )
      unwritten_by printed outcomes.Unwritten h p = absurd h
