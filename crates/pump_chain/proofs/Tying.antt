-- Whatever lines lead a chain to, the second pump has accepted the first messages that the first receiver has.
use Rattle.std.proofs.Common.{◌≡◌, ℕ, Bool, true, false, List, [], ◌∷◌, length, refl, sym, subst}
use Rattle.std.specs.Prelude.{◌==◌, if◌then◌else◌}
use Rattle.std.specs.List.{All}
use Rattle.std.proofs.lemmas.List.Elements.{All-nil}
use Rattle.pump_core.specs.Lawful.{IsPrefixOf}
use Rattle.pump_frame.specs.declared.payload.Payload.{Payload}
use Rattle.pump_frame.specs.declared.row.SessionRow.{SessionRow}
use Rattle.script_reader.specs.declared.event.Event.{Event}
use Rattle.script_reader.specs.declared.line.Arriving.{Arriving}
use Rattle.script_reader.specs.declared.line.Line.{Line}
use Rattle.script_reader.specs.declared.line.Line.TheVariants as lines
use Rattle.script_reader.specs.Openings.{Openings, accepted_in}
use Rattle.script_reader.specs.Past.{Past}
use Rattle.pump_chain.specs.Chained.{Chained, Share, Skipped, OfFirst, OfSecond, MakesFirst, MakesSecond, OfNone, added, received_of, share, share_by, LeadsBy, ChainLeadsTo}
use Rattle.pump_chain.specs.Scripted.{chain_of}
use Rattle.pump_chain.specs.Standing.{IsSentOn}
use Rattle.pump_chain.proofs.Applying.{moves_on, still_sent}
use Rattle.pump_chain.proofs.Counted.{line_counts, new_counts}
use Rattle.pump_chain.proofs.Prefixes.{prefix_then}
use Rattle.pump_chain.proofs.Linking.{CountsAccepted, AddsOf, IsAddedOf, line_sent}
use Rattle.pump_chain.proofs.Moving.{line_moves}
use Rattle.pump_chain.proofs.Stepping.{added_of}

-- ---- what a line adds ----

abbrev ShareAdds : List Payload → Share → Type 0
ShareAdds received (OfSecond line) = AddsOf received line
ShareAdds received share = Unit {0}

one_of_two : (P : Share → Type 0) (b d : Bool) (x y z : Share) → P x → P y → P z → P (if b then x else if d then y else z)
one_of_two P true d x y z h k n = h
one_of_two P false true x y z h k n = k
one_of_two P false false x y z h k n = n

module _ (first second : ℕ) (adds : Arriving) (received : List Payload) (of : IsAddedOf received adds) where
  abbrev P : Share → Type 0
  P share = ShareAdds received share

  share_adds : (line : Line) → P (share_by first second adds line)
  share_adds lines.Skip = tt
  share_adds (lines.Session row) = tt
  share_adds (lines.LowSession row next held) = tt
  share_adds (lines.Told session m w fault told a) = tt
  share_adds (lines.Coarse session) = one_of_two P (session == first) (session == second) MakesFirst MakesSecond OfNone tt tt tt
  share_adds (lines.Look session m w a) = one_of_two P (session == first) true (OfFirst (lines.Look session m w a)) OfNone OfNone tt tt tt
  share_adds (lines.Step session m w) = one_of_two P (session == second) true (OfSecond (lines.Look session m w adds)) OfNone OfNone of tt tt
  share_adds (lines.Gone session m) = one_of_two P (session == first) (session == second) (OfFirst (lines.Gone session m)) (OfSecond (lines.Gone session m)) OfNone tt tt tt
  share_adds (lines.High session m) = one_of_two P (session == first) (session == second) (OfFirst (lines.High session m)) (OfSecond (lines.High session m)) OfNone tt tt tt
  share_adds (lines.Carry session back) = one_of_two P (session == first) (session == second) (OfFirst (lines.Carry session back)) (OfSecond (lines.Carry session back)) OfNone tt tt tt
  share_adds (lines.Return session m back) = one_of_two P (session == first) (session == second) (OfFirst (lines.Return session m back)) (OfSecond (lines.Return session m back)) OfNone tt tt tt
  share_adds (lines.Done session m t) = one_of_two P (session == first) (session == second) (OfFirst (lines.Done session m t)) (OfSecond (lines.Done session m t)) OfNone tt tt tt
  share_adds (lines.Restart session m) = one_of_two P (session == first) (session == second) (OfFirst (lines.Restart session m)) (OfSecond (lines.Restart session m)) OfNone tt tt tt
  share_adds (lines.ReceiverRestart session m) = one_of_two P (session == first) (session == second) (OfFirst (lines.ReceiverRestart session m)) (OfSecond (lines.ReceiverRestart session m)) OfNone tt tt tt

-- ---- what ties the two sessions ----

-- the second session is new, whatever its row
pub record IsFresh (p : Past) : Type 0 where
  pub looks : p.history.life.looks ≡ []
  pub count : p.history.life.opening.count ≡ length p.world.accepted

pub record Tied (c : Chained) : Type 0 where
  pub counts : CountsAccepted c.second.row c.second.past
  pub waits : All (IsSentOn (received_of c)) c.second.past.waits
  pub prefix : IsPrefixOf c.second.past.world.accepted (received_of c)
  pub fresh : c.is_under_way ≡ false → IsFresh c.second.past

by_share : (c : Chained) (share : Share) → ShareAdds (received_of c) share → Tied c → (d : Chained) (printed : List Event) → LeadsBy c share d printed → Tied d
by_share c Skipped adds t d printed (e, f) = subst Tied (sym e) t
by_share c OfNone adds t d printed leads = absurd leads
by_share c MakesFirst adds t d printed (way, fine, e, f) = subst Tied (sym e) (record { counts = t.counts; waits = t.waits; prefix = t.prefix; fresh = t.fresh })
by_share c MakesSecond adds t d printed (way, fine, e, f) =
    subst Tied (sym e) (record { counts = new_counts _ c.second.past (t.fresh way).looks (t.fresh way).count; waits = t.waits; prefix = t.prefix; fresh = t.fresh })
by_share c (OfFirst line) adds t d printed (order, (q, goes, e)) =
    let more = moves_on c.first.past q (line_moves c.first.row c.first.past line q printed goes.1) in
    subst Tied (sym e) (record {
      counts = t.counts;
      waits = still_sent (received_of c) q.world.received c.second.past.waits more t.waits;
      prefix = prefix_then c.second.past.world.accepted (received_of c) q.world.received t.prefix more;
      fresh = λ x. absurd (cc);
    })
by_share c (OfSecond line) adds t d printed (order, (q, goes, e)) =
    let sent = line_sent (received_of c) c.second.row c.second.past line q printed adds goes.1 in
    subst Tied (sym e) (record {
      counts = line_counts c.second.row c.second.past line q printed goes.1 t.counts;
      waits = sent.waits t.waits;
      prefix = sent.accepted t.counts t.waits t.prefix;
      fresh = λ x. absurd (cc);
    })

tied_on : (c : Chained) (script : List Line) (d : Chained) (printed : List Event) → ChainLeadsTo c script d printed → Tied c → Tied d
tied_on c [] d printed (e, f) t = subst Tied (sym e) t
tied_on c (line ∷ later) d printed (mid, first, second, leads, rest, e) t =
    tied_on mid later d second rest (by_share c (share c line) (share_adds c.first.row.id c.second.row.id (added c) (received_of c) (added_of c) line) t mid first leads)

pub tied_always : (o : Openings) (one two : SessionRow) (script : List Line) (d : Chained) (printed : List Event) → IsPrefixOf (accepted_in (o two.id)) (o one.id).received
    → ChainLeadsTo (chain_of o one two) script d printed → Tied d
tied_always o one two script d printed prefix leads =
    let p = (chain_of o one two).second.past in
    tied_on (chain_of o one two) script d printed leads (record {
      counts = new_counts two p refl refl;
      waits = All-nil (IsSentOn (o one.id).received);
      prefix = prefix;
      fresh = λ x. record { looks = refl; count = refl };
    })
