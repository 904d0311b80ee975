-- The connections of a sender of a stream, one after another.
use Rattle.std.proofs.Common.{◌≡◌, inl, inr, ℕ, ◌+◌, List, [], ◌∷◌, ◌++◌, length, Option, Some, None, IfSome, refl, sym, ap, ◌∙◌, subst, append-nil, arith, length-append}
use Rattle.std.specs.Io.KnownBytes.{Appends, Consumes}
use Rattle.std.proofs.KnownBytes.{Appends-nil, Appends-trans, Consumes-trans}
use Rattle.pump_frame.specs.declared.row.SessionRow.{SessionRow}
use Rattle.pump_link.specs.Ports.{PortsStep, Connected, NoConnection, BackToPorts}
use Rattle.pump_link.specs.Tells.{Draws, Grows}
use Rattle.pump_link.proofs.Grown.{Grows-nil, Grows-then}
use Rattle.peers.specs.declared.append.AppendEnd.{AppendEnd}
use Rattle.peers.specs.declared.append.AppendEnd.TheVariants.{Done, Read, Write, Script, Refused, Unfinished, Elsewhere}
use Rattle.peers.specs.declared.append.Appender.{Appender}
use Rattle.peers.specs.Appender.{flight_of, next_number, Visits, number_after}
use Rattle.peers.specs.Appending.{Flight, flying, texts, acks, Prints, messages, Turn, Ask, LinesEnd, Visit, Ungreeted, Greeted, IsCounted, IsVisit, AreInOrder, LinkTells, Made, flight_after, acknowledged_in, lines_in, looks_in, sent_in, told_in, first_by, flight_at, acknowledged, all_lines, cost, first_number, steps, IsTry, AreTries, EndsBy, AppendsLines}
use Rattle.peers.specs.Payloads.{TakesAtMost}
use Rattle.peers.proofs.Appending.{prints_append, order_append, texts_append, messages_length}

-- the number of the message that is under way, where there is one; before there is one no WELCOME came
abbrev pub Numbered : Option Flight → ℕ → List (List ℕ) → Type 0
Numbered None first done = (done ≡ []) × (first ≡ 0)
Numbered (Some f) first done = f.number ≡ first + length done

if_numbered : (flight : Option Flight) (first : ℕ) (done : List (List ℕ)) → Numbered flight first done → IfSome flight (λ (f : Flight). f.number ≡ first + length done)
if_numbered None first done n = tt
if_numbered (Some f) first done n = n

numbered_to : (flight : Option Flight) (from to : ℕ) → from ≡ to → IfSome flight (λ (f : Flight). f.number ≡ from) → IfSome flight (λ (f : Flight). f.number ≡ to)
numbered_to None from to e n = tt
numbered_to (Some f) from to e n = n ∙ e

start_is : (before : Option Flight) (first : ℕ) (done : List (List ℕ)) (v : Visit) → Numbered before first done → next_number before (told_in v) ≡ first_by before first v + length done
start_is None first done v none = omega (arith, ap (λ (l : List (List ℕ)). length l) none.0)
start_is (Some f) first done v is = is

same_acks : (before : Option Flight) (first : ℕ) (done : List (List ℕ)) (v : Visit) → Numbered before first done → acks first done ≡ acks (first_by before first v) done
same_acks None first done v none = ap (acks first) none.0 ∙ sym (ap (acks (told_in v)) none.0)
same_acks (Some f) first done v is = refl

-- WELCOME's number
greeted_number : (before : Option Flight) (first : ℕ) (done counted : List (List ℕ)) (v : Visit) → Numbered before first done → IsCounted before (told_in v) counted → told_in v ≡ first_by before first v + length (counted ++ done)
greeted_number None first done counted v none is = omega (arith, ap (λ (l : List (List ℕ)). length l) none.0, ap (λ (l : List (List ℕ)). length l) is, length-append counted done)
greeted_number (Some f) first done [] v n is = omega (arith, n, is)
greeted_number (Some f) first done (m ∷ []) v n is = omega (arith, n, is.0)
greeted_number (Some f) first done (m ∷ more ∷ rest) v n is = absurd is

flown : (flight : Option Flight) (number to : ℕ) (payload : List ℕ) → flight ≡ Some (record { number = number; payload = payload }) → number ≡ to → IfSome flight (λ (f : Flight). f.number ≡ to)
flown flight number to payload is e = subst (λ (x : Option Flight). IfSome x (λ (f : Flight). f.number ≡ to)) (sym is) e

resting : (flight : Option Flight) (to : ℕ) → flight ≡ None → IfSome flight (λ (f : Flight). f.number ≡ to)
resting flight to is = subst (λ (x : Option Flight). IfSome x (λ (f : Flight). f.number ≡ to)) (sym is) tt

lines_numbered : (session number to : ℕ) (flight : Option Flight) (a : Ask) (rest : Option (List ℕ)) (before last : ℕ) (end : Option AppendEnd) → number ≡ to → LinesEnd session number flight a rest before last end → IfSome flight (λ (f : Flight). f.number ≡ to)
lines_numbered session number to flight a rest before last None e x = flown flight number to x.payload x.is e
lines_numbered session number to flight a rest before last (Some (Refused code of)) e x = flown flight number to x.payload x.is e
lines_numbered session number to flight a rest before last (Some Done) e x = resting flight to x.0.0
lines_numbered session number to flight a rest before last (Some Read) e x = resting flight to x.0
lines_numbered session number to flight a rest before last (Some Write) e x = resting flight to x.0
lines_numbered session number to flight a rest before last (Some Script) e x = resting flight to x.0.0
lines_numbered session number to flight a rest before last (Some Unfinished) e x = absurd x
lines_numbered session number to flight a rest before last (Some (Elsewhere of)) e x = absurd x

kept_number : (before : Option Flight) (first : ℕ) (done more : List (List ℕ)) (v : Visit) → Numbered before first done → length more ≡ length done → IfSome before (λ (f : Flight). f.number ≡ first_by before first v + length more)
kept_number None first done more v n e = tt
kept_number (Some f) first done more v n e = omega (arith, n, e)

behind_turns : (turns : List Turn) (counted done : List (List ℕ)) (number first : ℕ) → number ≡ first + length (counted ++ done) → number + length turns ≡ first + length ((messages turns ++ counted) ++ done)
behind_turns turns counted done number first e = omega (arith, e, length-append counted done, length-append (messages turns ++ counted) done, length-append (messages turns) counted, messages_length turns)

numbered_after : (row : SessionRow) (before : Option Flight) (first : ℕ) (done : List (List ℕ)) (v : Visit) (rest : Option (List ℕ)) (a b : ℕ) (end : Option AppendEnd) → Numbered before first done → IsVisit row before v rest a b end
    → IfSome (flight_after before v) (λ (f : Flight). f.number ≡ first_by before first v + length (acknowledged_in v ++ done))
numbered_after row before first done (Ungreeted ask) rest a b end n is = kept_number before first done done (Ungreeted ask) n refl
numbered_after row before first done (Greeted wait welcome counted turns lines flight ask) rest a b end n is =
    let v : Visit = Greeted wait welcome counted turns lines flight ask in
    elim is.4 [
      | inl goes ↦ lines_numbered row.id (welcome.number + length turns) (first_by before first v + length ((messages turns ++ counted) ++ done)) flight ask rest a b end
          (behind_turns turns counted done welcome.number (first_by before first v) (greeted_number before first done counted v n goes.0)) goes.1
      | inr stops ↦ subst (λ (x : Option Flight). IfSome x (λ (f : Flight). f.number ≡ first_by before first v + length ((messages turns ++ counted) ++ done))) (sym stops.same)
          (kept_number before first done ((messages turns ++ counted) ++ done) v n
          (omega (arith, length-append (messages turns ++ counted) done, length-append (messages turns) counted, ap (λ (l : List Turn). length l) stops.no_turns, messages_length turns, ap (λ (l : List (List ℕ)). length l) stops.none)))
    ]

some_numbered : (flight : Option Flight) (number first : ℕ) (payload : List ℕ) (done : List (List ℕ)) → flight ≡ Some (record { number = number; payload = payload }) → number ≡ first + length done → Numbered flight first done
some_numbered flight number first payload done is e = subst (λ (x : Option Flight). Numbered x first done) (sym is) e

still_numbered : (before : Option Flight) (first : ℕ) (done : List (List ℕ)) (a : Ask) → Numbered before first done → Numbered before (first_by before first (Ungreeted a)) done
still_numbered None first done a n = (n.0, refl)
still_numbered (Some f) first done a n = n

-- the number of the next message behind a connection
next_is : (before : Option Flight) (first number : ℕ) (done : List (List ℕ)) (v : Visit) → Numbered before first done → number ≡ first + length done → number_after before number v ≡ first_by before first v + length (acknowledged_in v ++ done)
next_is None first number done (Ungreeted ask) n is = omega (arith, n.1, is)
next_is (Some f) first number done (Ungreeted ask) n is = is
next_is before first number done (Greeted wait welcome counted turns lines flight ask) n is =
    omega (arith, start_is before first done (Greeted wait welcome counted turns lines flight ask) n, length-append (messages turns ++ counted) done)

numbered_next : (row : SessionRow) (before : Option Flight) (first : ℕ) (done : List (List ℕ)) (v : Visit) (rest : Option (List ℕ)) (a b : ℕ) → Numbered before first done → IsVisit row before v rest a b None
    → Numbered (flight_after before v) (first_by before first v) (acknowledged_in v ++ done)
numbered_next row before first done (Ungreeted ask) rest a b n is = still_numbered before first done ask n
numbered_next row before first done (Greeted wait welcome counted turns lines flight ask) rest a b n is =
    let v : Visit = Greeted wait welcome counted turns lines flight ask in
    elim is.4 [
      | inl goes ↦ some_numbered flight (welcome.number + length turns) (first_by before first v) goes.1.payload ((messages turns ++ counted) ++ done) goes.1.is
          (behind_turns turns counted done welcome.number (first_by before first v) (greeted_number before first done counted v n goes.0))
      | inr stops ↦ (let e = stops.is in cc)
    ]

visit_order : (row : SessionRow) (before : Option Flight) (v : Visit) (rest : Option (List ℕ)) (a b : ℕ) (end : Option AppendEnd) → IsVisit row before v rest a b end → AreInOrder before (lines_in v) (acknowledged_in v) (flight_after before v)
visit_order row before (Ungreeted ask) rest a b end is = sym (append-nil (flying before))
visit_order row before (Greeted wait welcome counted turns lines flight ask) rest a b end is = is.3

-- a connection that did not end the call says nothing of what is to come
any_rest : (row : SessionRow) (before : Option Flight) (v : Visit) (rest : Option (List ℕ)) (a b : ℕ) → IsVisit row before v rest a b None → IsVisit row before v None a b None
any_rest row before (Ungreeted ask) rest a b is = is
any_rest row before (Greeted wait welcome counted turns lines flight ask) rest a b is = is

never_unfinished : (row : SessionRow) (before : Option Flight) (v : Visit) (rest : Option (List ℕ)) (a b : ℕ) → IsVisit row before v rest a b (Some Unfinished) → ⊥
never_unfinished row before (Ungreeted ask) rest a b is = is
never_unfinished row before (Greeted wait welcome counted turns lines flight ask) rest a b is = elim is.4 [
  | inl goes ↦ goes.1
  | inr stops ↦ (let e = stops.is in cc)
]

-- an end that a connection brings
end_try : {L : Type 0} (t : LinkTells L) (row : SessionRow) (most left : ℕ) (m : Made L) (past : List (Option (Made L))) (rest : Option (List ℕ)) (end : AppendEnd) → IsTry t row most past (Some m) rest (Some end) → AreTries t row most past → EndsBy t row most left (Some m ∷ past) rest end
end_try t row most left m past rest Unfinished x are = absurd (never_unfinished row (flight_at past) m.visit rest (t.faults m.came) (t.faults m.back) x.0)
end_try t row most left m past rest Done x are = (x, are)
end_try t row most left m past rest Read x are = (x, are)
end_try t row most left m past rest Write x are = (x, are)
end_try t row most left m past rest Script x are = (x, are)
end_try t row most left m past rest (Refused code of) x are = (x, are)
end_try t row most left m past rest (Elsewhere of) x are = (x, are)

module _ {L D : Type 0} (t : LinkTells L) (row : SessionRow) (most : ℕ) where
  -- what was done so far, and no connection ended the call; `rest` is what is to come of the script
  pub record TriesSoFar (a : Appender) (did did1 : List (PortsStep L D) → Type 0) (all rest w w1 : Option (List ℕ)) : Type 0 where
    pub tries : List (Option (Made L))
    pub are : AreTries t row most tries
    pub used : most ≡ a.left + cost tries
    pub flight_is : flight_of a ≡ flight_at tries
    pub numbered : Numbered (flight_at tries) (first_number tries) (acknowledged tries)
    pub number : a.frame.number ≡ first_number tries + length (acknowledged tries)
    pub order : AreInOrder None (all_lines tries) (acknowledged tries) (flight_at tries)
    pub count : a.lines ≡ length (acknowledged tries)
    pub reads : Consumes all rest (texts (all_lines tries))
    pub did_all : Grows did did1 (steps row.low_port tries)
    pub did_print : Appends w w1 (acks (first_number tries) (acknowledged tries))

  -- what a call did
  abbrev pub Appended : (did did1 : List (PortsStep L D) → Type 0) (all after w w1 : Option (List ℕ)) → AppendEnd → ℕ → ℕ → Type 0
  Appended did did1 all after w w1 end lines next = (tries : List (Option (Made L))) × (printed : List ℕ) × AppendsLines t row most tries all after end lines next printed
      × Grows did did1 (steps row.low_port tries) × Appends w w1 printed

  module _ (a : Appender) (did did1 : List (PortsStep L D) → Type 0) (all rest w w1 : Option (List ℕ)) (was : TriesSoFar a did did1 all rest w w1) where
    -- no look is left
    pub no_look : (after : Option (List ℕ)) → a.left ≡ 0 → TakesAtMost 6145 rest after → Appended did did1 all after w w1 Unfinished a.lines a.frame.number
    no_look after none ahead = (
      was.tries,
      acks (first_number was.tries) (acknowledged was.tries),
      record {
        rest = rest;
        left = a.left;
        ends = (none, was.are);
        used = was.used;
        reads = was.reads;
        ahead = ahead;
        order = was.order;
        count = was.count;
        next_is = was.number;
        numbered = numbered_to (flight_at was.tries) (first_number was.tries + length (acknowledged was.tries)) a.frame.number (sym was.number) (if_numbered (flight_at was.tries) (first_number was.tries) (acknowledged was.tries) was.numbered);
        prints = refl;
      },
      was.did_all,
      was.did_print,
    )

    module _ (left : ℕ) (one : a.left ≡ left + 1) (did2 : List (PortsStep L D) → Type 0) where
      -- no link came
      pub no_link : Grows did1 did2 (NoConnection row.low_port ∷ []) → TriesSoFar (record a { left = left }) did did2 all rest w w1
      no_link did_more = record {
        tries = None ∷ was.tries;
        are = (refl, was.are);
        used = omega (arith, was.used, one);
        flight_is = was.flight_is;
        numbered = was.numbered;
        number = was.number;
        order = was.order;
        count = was.count;
        reads = was.reads;
        did_all = Grows-then did did1 did2 (steps row.low_port was.tries) (NoConnection row.low_port ∷ []) was.did_all did_more;
        did_print = was.did_print;
      }

      module _ (b : Appender) (did3 : List (PortsStep L D) → Type 0) (after w2 : Option (List ℕ)) (came back : L) (end : Option AppendEnd) (connects : Grows did1 did2 (Connected row.low_port came ∷ [])) (gives_back : Grows did2 did3 (BackToPorts back ∷ [])) (visit : Visit) (printed : List ℕ)
          (x : Visits row (record a { left = left }) b visit rest after (t.faults came) (t.faults back) end printed) (gave : Draws (t.gives came) (t.gives back) (looks_in visit)) (sends : Grows (t.sent came) (t.sent back) (sent_in row visit)) (prints : Appends w1 w2 printed) where
        abbrev tried : List (Option (Made L))
        tried = Some (record { came = came; back = back; visit = visit }) ∷ was.tries

        visited : IsVisit row (flight_at was.tries) visit x.rest (t.faults came) (t.faults back) end
        visited = subst (λ (f : Option Flight). IsVisit row f visit x.rest (t.faults came) (t.faults back) end) was.flight_is x.is

        all_used : most ≡ b.left + cost tried
        all_used = omega (arith, was.used, one, x.used)

        all_order : AreInOrder None (all_lines tried) (acknowledged tried) (flight_at tried)
        all_order = order_append None (flight_at was.tries) (flight_at tried) (lines_in visit) (all_lines was.tries) (acknowledged_in visit) (acknowledged was.tries) was.order (visit_order row (flight_at was.tries) visit x.rest (t.faults came) (t.faults back) end visited)

        all_count : b.lines ≡ length (acknowledged tried)
        all_count = omega (arith, was.count, x.count, length-append (acknowledged_in visit) (acknowledged was.tries))

        all_reads : Consumes all x.rest (texts (all_lines tried))
        all_reads = subst (Consumes all x.rest) (sym (texts_append (lines_in visit) (all_lines was.tries))) (Consumes-trans all rest x.rest (texts (all_lines was.tries)) (texts (lines_in visit)) was.reads x.reads)

        all_did : Grows did did3 (steps row.low_port tried)
        all_did = Grows-then did did1 did3 (steps row.low_port was.tries) (Connected row.low_port came ∷ BackToPorts back ∷ []) was.did_all (Grows-then did1 did2 did3 (Connected row.low_port came ∷ []) (BackToPorts back ∷ []) connects gives_back)

        abbrev all_printed : List ℕ
        all_printed = acks (first_number tried) (acknowledged was.tries) ++ printed

        did_print : Appends w w2 all_printed
        did_print = Appends-trans w w1 w2 (acks (first_number tried) (acknowledged was.tries)) printed
            (subst (Appends w w1) (same_acks (flight_at was.tries) (first_number was.tries) (acknowledged was.tries) visit was.numbered) was.did_print) prints

        start : next_number (flight_of a) (told_in visit) ≡ first_number tried + length (acknowledged was.tries)
        start = ap (λ (f : Option Flight). next_number f (told_in visit)) was.flight_is ∙ start_is (flight_at was.tries) (first_number was.tries) (acknowledged was.tries) visit was.numbered

        all_prints : Prints end (first_number tried) (acknowledged tried) all_printed
        all_prints = prints_append end (first_number tried) (acknowledged_in visit) (acknowledged was.tries) printed (subst (λ n. Prints end n (acknowledged_in visit) printed) start x.prints)

        all_tried : IsTry t row most was.tries (Some (record { came = came; back = back; visit = visit })) x.rest end
        all_tried = (visited, all_used ∙ ap (λ n. n + cost tried) (sym x.left), gave, sends)

        all_next : b.frame.number ≡ first_number tried + length (acknowledged tried)
        all_next = x.number ∙ ap (λ (f : Option Flight). number_after f a.frame.number visit) was.flight_is ∙ next_is (flight_at was.tries) (first_number was.tries) a.frame.number (acknowledged was.tries) visit was.numbered was.number

        all_numbered : IfSome (flight_at tried) (λ (f : Flight). f.number ≡ first_number tried + length (acknowledged tried))
        all_numbered = numbered_after row (flight_at was.tries) (first_number was.tries) (acknowledged was.tries) visit x.rest (t.faults came) (t.faults back) end was.numbered visited

      -- a connection that did not end the call
      pub goes_on : (b : Appender) (did3 : List (PortsStep L D) → Type 0) (after w2 : Option (List ℕ)) (came back : L) (visit : Visit) (printed : List ℕ) → Grows did1 did2 (Connected row.low_port came ∷ []) → Grows did2 did3 (BackToPorts back ∷ [])
          → Visits row (record a { left = left }) b visit rest after (t.faults came) (t.faults back) None printed → Draws (t.gives came) (t.gives back) (looks_in visit) → Grows (t.sent came) (t.sent back) (sent_in row visit) → Appends w1 w2 printed
          → TriesSoFar b did did3 all after w w2
      goes_on b did3 after w2 came back visit printed connects gives_back x gave sends prints = record {
        tries = tried b did3 after w2 came back None connects gives_back visit printed x gave sends prints;
        are = (
          (
            any_rest row (flight_at was.tries) visit x.rest (t.faults came) (t.faults back) (visited b did3 after w2 came back None connects gives_back visit printed x gave sends prints),
            all_used b did3 after w2 came back None connects gives_back visit printed x gave sends prints ∙ ap (λ n. n + cost (tried b did3 after w2 came back None connects gives_back visit printed x gave sends prints)) (sym x.left),
            gave,
            sends,
          ),
          was.are,
        );
        used = all_used b did3 after w2 came back None connects gives_back visit printed x gave sends prints;
        flight_is = x.flight_is ∙ ap (λ (f : Option Flight). flight_after f visit) was.flight_is;
        numbered = numbered_next row (flight_at was.tries) (first_number was.tries) (acknowledged was.tries) visit x.rest (t.faults came) (t.faults back) was.numbered (visited b did3 after w2 came back None connects gives_back visit printed x gave sends prints);
        number = all_next b did3 after w2 came back None connects gives_back visit printed x gave sends prints;
        order = all_order b did3 after w2 came back None connects gives_back visit printed x gave sends prints;
        count = all_count b did3 after w2 came back None connects gives_back visit printed x gave sends prints;
        reads = subst (λ (r : Option (List ℕ)). Consumes all r (texts (all_lines (tried b did3 after w2 came back None connects gives_back visit printed x gave sends prints)))) (sym x.behind) (all_reads b did3 after w2 came back None connects gives_back visit printed x gave sends prints);
        did_all = all_did b did3 after w2 came back None connects gives_back visit printed x gave sends prints;
        did_print = subst (Appends w w2) (all_prints b did3 after w2 came back None connects gives_back visit printed x gave sends prints) (did_print b did3 after w2 came back None connects gives_back visit printed x gave sends prints);
      }

      -- .. and one that did
      pub ends_here : (b : Appender) (did3 : List (PortsStep L D) → Type 0) (after final w2 : Option (List ℕ)) (came back : L) (end : AppendEnd) (visit : Visit) (printed : List ℕ) → Grows did1 did2 (Connected row.low_port came ∷ []) → Grows did2 did3 (BackToPorts back ∷ [])
          → Visits row (record a { left = left }) b visit rest after (t.faults came) (t.faults back) (Some end) printed → Draws (t.gives came) (t.gives back) (looks_in visit) → Grows (t.sent came) (t.sent back) (sent_in row visit) → Appends w1 w2 printed
          → ((r : Option (List ℕ)) → TakesAtMost 2049 r after → TakesAtMost 6145 r final) → Appended did did3 all final w w2 end b.lines b.frame.number
      ends_here b did3 after final w2 came back end visit printed connects gives_back x gave sends prints ahead = (
        tried b did3 after w2 came back (Some end) connects gives_back visit printed x gave sends prints,
        all_printed b did3 after w2 came back (Some end) connects gives_back visit printed x gave sends prints,
        record {
          rest = x.rest;
          left = b.left;
          ends = end_try t row most b.left (record { came = came; back = back; visit = visit }) was.tries x.rest end (all_tried b did3 after w2 came back (Some end) connects gives_back visit printed x gave sends prints) was.are;
          used = all_used b did3 after w2 came back (Some end) connects gives_back visit printed x gave sends prints;
          reads = all_reads b did3 after w2 came back (Some end) connects gives_back visit printed x gave sends prints;
          ahead = ahead x.rest x.behind;
          order = all_order b did3 after w2 came back (Some end) connects gives_back visit printed x gave sends prints;
          count = all_count b did3 after w2 came back (Some end) connects gives_back visit printed x gave sends prints;
          next_is = all_next b did3 after w2 came back (Some end) connects gives_back visit printed x gave sends prints;
          numbered = numbered_to (flight_at (tried b did3 after w2 came back (Some end) connects gives_back visit printed x gave sends prints)) _ b.frame.number (sym (all_next b did3 after w2 came back (Some end) connects gives_back visit printed x gave sends prints)) (all_numbered b did3 after w2 came back (Some end) connects gives_back visit printed x gave sends prints);
          prints = all_prints b did3 after w2 came back (Some end) connects gives_back visit printed x gave sends prints;
        },
        all_did b did3 after w2 came back (Some end) connects gives_back visit printed x gave sends prints,
        did_print b did3 after w2 came back (Some end) connects gives_back visit printed x gave sends prints,
      )

  pub none_tried : (a : Appender) (did : List (PortsStep L D) → Type 0) (all rest w : Option (List ℕ)) → most ≡ a.left → flight_of a ≡ None → a.frame.number ≡ 0 → a.lines ≡ 0 → Consumes all rest [] → TriesSoFar a did did all rest w w
  none_tried a did all rest w used flight number count reads = record {
    tries = [];
    are = tt;
    used = omega (arith, used);
    flight_is = flight;
    numbered = (refl, refl);
    number = omega (arith, number);
    order = refl;
    count = count;
    reads = reads;
    did_all = Grows-nil did;
    did_print = Appends-nil w;
  }
