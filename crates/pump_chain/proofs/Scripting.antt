-- Lines that lead a chain lead a script of its two sessions.
use Rattle.std.proofs.Common.{◌≡◌, ℕ, zero, suc, ◌+◌, ◌≤◌, length, ◌||◌, ◌&&◌, Bool, true, false, List, [], ◌∷◌, Option, Some, None, refl, sym, ap, ◌∙◌, subst, arith, le_trans}
use Rattle.std.specs.Prelude.{◌==◌, not, nat_lt, nat_le, if◌then◌else◌}
use Rattle.std.specs.List.{All}
use Rattle.std.proofs.lemmas.Bool.{and_parts, eqb-true, eq-eqb, ne_eqb, le-leb, leb-true}
use Rattle.std.proofs.lemmas.List.Elements.{All-cons, All-nil}
use Rattle.std.proofs.Math.Bool.{or-false}
use Rattle.pump_frame.specs.declared.row.SessionRow.{SessionRow}
use Rattle.script_reader.specs.declared.event.Event.{Event}
use Rattle.script_reader.specs.declared.line.Arriving.{Arriving}
use Rattle.script_reader.specs.declared.line.Line.{Line}
use Rattle.script_reader.specs.declared.line.Line.TheVariants as lines
use Rattle.script_reader.specs.Highs.{IsWholeLook, is_ahead, IsReturnBy, IsAttach, place}
use Rattle.script_reader.specs.Openings.{Openings, first_past}
use Rattle.script_reader.specs.Past.{Past}
use Rattle.script_reader.specs.Scripts.{Running, Begun, Whole, IsNew, Leads}
use Rattle.script_reader.specs.Sessions.{session_in, stands_first, begins_session, moment_in, session_at, Sessions, no_sessions, led_to, is_from, is_in_turn, LeadsOne, ScriptLeads, ScriptLeadsTo, is_number, lines_of}
use Rattle.script_reader.specs.Sides.{OpensAlike}
use Rattle.script_reader.specs.Steps.{is_timely, LineStep, IsCarriedBack}
use Rattle.script_reader.proofs.Apart.{session_at-own, session_at-other}
use Rattle.script_reader.proofs.Beside.{other_line}
use Rattle.pump_chain.specs.Chained.{Chained, moment_of, Share, Skipped, OfFirst, OfSecond, MakesFirst, MakesSecond, OfNone, added, share, share_of, share_by, is_in_order, Goes, with_coarse, first_led, second_led, LeadsBy, ChainLeads, ChainLeadsTo}
use Rattle.pump_chain.specs.Scripted.{CanChain, chain_of, as_look, looks_of, LeadsBoth}

-- ---- moments ----

whole_moment : (row : SessionRow) (attaches : Bool) (p : Past) (m : ℕ) (back : Option ℕ) (q : Past) (printed : List Event) → IsWholeLook row attaches p m back q printed → q.moment ≡ m
whole_moment row attaches p m back q printed (mid, first, second, r, t, e) = ap (λ (x : Past). x.moment) t.rest

return_moment : (b : Bool) (row : SessionRow) (attaches : Bool) (p : Past) (m k : ℕ) (q : Past) (printed : List Event) → IsReturnBy b row attaches p m k q printed → q.moment ≡ m
return_moment true row attaches p m k q printed (e, f) = ap (λ (x : Past). x.moment) e
return_moment false row attaches p m k q printed h = whole_moment row attaches p m (Some k) q printed h

attach_moment : (row : SessionRow) (p : Past) (m count : ℕ) (q : Past) (printed : List Event) → IsAttach row p m count q printed → q.moment ≡ m
attach_moment row p m zero q printed h = whole_moment row true p m None q printed h
attach_moment row p m (suc n) q printed (k, at, h) = return_moment (is_ahead p.world k) row true p m k q printed h

back_moment : (row : SessionRow) (hand : Option ℕ) (p : Past) (m : ℕ) (q : Past) (printed : List Event) → IsCarriedBack row hand p m q printed → p.moment ≤ m → p.moment ≤ q.moment
back_moment row None p m q printed (e, f) le = (let same = ap (λ (x : Past). x.moment) e in omega (arith, same))
back_moment row (Some n) p m q printed (mid, first, second, c, h, e) le =
    let at = return_moment (is_ahead mid.world (place mid.world.returned 0)) row false mid m (place mid.world.returned 0) q second h in
    omega (arith, at, le)

from : (a b : ℕ) → nat_le a b ≡ true → a ≤ b
from a b e = leb-true a b e

second_part : (a b : Bool) → (a && b) ≡ true → b ≡ true
second_part a b e = (and_parts a b e).1

-- the moment of a session never falls
pub moment_rises : (row : SessionRow) (p : Past) (line : Line) (q : Past) (printed : List Event) → is_timely row p line ≡ true → LineStep row p line q printed → p.moment ≤ q.moment
moment_rises row p lines.Skip q printed t h = absurd h
moment_rises row p (lines.Session other) q printed t h = absurd h
moment_rises row p (lines.LowSession other next held) q printed t h = absurd h
moment_rises row p (lines.Coarse session) q printed t h = absurd h
moment_rises row p (lines.Told session m w fault told a) q printed t h = absurd h
moment_rises row p (lines.Step session m w) q printed t h = absurd h
moment_rises row p (lines.Look session m w a) q printed t (c, comes, (few, (f, i))) =
    let le = from p.moment m (second_part (session == row.id) (nat_le p.moment m) t) in let is = i.moment in omega (arith, le, is)
moment_rises row p (lines.Gone session m) q printed t (f, i) =
    let le = from p.moment m (second_part (session == row.id) (nat_le p.moment m) t) in let is = i.moment in omega (arith, le, is)
moment_rises row p (lines.High session m) q printed t h =
    let le = from p.moment m (second_part (session == row.id) (nat_le p.moment m) t) in let is = whole_moment row false p m None q printed h in omega (arith, le, is)
moment_rises row p (lines.Carry session back) q printed t h = (let is = ap (λ (x : Past). x.moment) h.rest in omega (arith, is))
moment_rises row p (lines.Return session m back) q printed t h =
    let le = from p.moment m (and_parts _ _ (second_part (session == row.id) _ t)).0 in
    let is = return_moment (is_ahead p.world (place p.world.returned back)) row false p m (place p.world.returned back) q printed h in
    omega (arith, le, is)
moment_rises row p (lines.Done session m time) q printed t (mid, first, second, h, g, e) =
    let le = from p.moment m (and_parts _ _ (second_part (session == row.id) _ t)).0 in
    let is = whole_moment row false p m None mid first h in
    let last = back_moment row mid.world.high_hand mid (m + time) q second g (omega (arith, is)) in
    omega (arith, le, is, last)
moment_rises row p (lines.Restart session m) q printed t (h, e, f) =
    let le = from p.moment m (second_part (session == row.id) (nat_le p.moment m) t) in let is = ap (λ (x : Past). x.moment) e in omega (arith, le, is)
moment_rises row p (lines.ReceiverRestart session m) q printed t (mid, opened, (more, a, e)) =
    let le = from p.moment m (second_part (session == row.id) (nat_le p.moment m) t) in
    let is = attach_moment row mid m _ q more a in
    omega (arith, le, is)

-- ---- what a line is to the chain, by what it is to its sessions ----

-- a line of a script is of this share, where it is a line of one of two sessions
abbrev Reads : ℕ → ℕ → Line → Share → Type 0
Reads first second line Skipped = line ≡ lines.Skip
Reads first second line (OfFirst own) = (own ≡ line) × (session_in line ≡ Some first) × (stands_first line ≡ false)
Reads first second line (OfSecond own) = (own ≡ line) × (session_in line ≡ Some second) × (stands_first line ≡ false)
Reads first second line MakesFirst = line ≡ lines.Coarse first
Reads first second line MakesSecond = line ≡ lines.Coarse second
Reads first second line OfNone = Unit {0}

chosen : (P : Share → Type 0) (b d : Bool) (x y : Share) → (b ≡ true → P x) → (d ≡ true → P y) → P OfNone → P (if b then x else if d then y else OfNone)
chosen P true d x y h k n = h refl
chosen P false true x y h k n = k refl
chosen P false false x y h k n = n

one_chosen : (P : Share → Type 0) (b : Bool) (x : Share) → (b ≡ true → P x) → P OfNone → P (if b then x else OfNone)
one_chosen P true x h n = h refl
one_chosen P false x h n = n

named : (session number : ℕ) → (session == number) ≡ true → Some session ≡ Some number
named session number e = ap (λ (n : ℕ). Some n) (eqb-true session number e)

module _ (first second : ℕ) (adds : Arriving) where
  by_session_reads : (session : ℕ) (line : Line) → session_in line ≡ Some session → stands_first line ≡ false
      → Reads first second line (share_of first second session (OfFirst line) (OfSecond line))
  by_session_reads session line is later = chosen (Reads first second line) (session == first) (session == second) (OfFirst line) (OfSecond line)
      (λ e. (refl, is ∙ named session first e, later)) (λ e. (refl, is ∙ named session second e, later)) tt

  share_reads : (line : Line) → Reads first second (as_look adds line) (share_by first second adds line)
  share_reads lines.Skip = refl
  share_reads (lines.Session row) = tt
  share_reads (lines.LowSession row next held) = tt
  share_reads (lines.Told session m w fault told a) = tt
  share_reads (lines.Coarse session) = chosen (Reads first second (lines.Coarse session)) (session == first) (session == second) MakesFirst MakesSecond
      (λ e. ap (λ (n : ℕ). lines.Coarse n) (eqb-true session first e)) (λ e. ap (λ (n : ℕ). lines.Coarse n) (eqb-true session second e)) tt
  share_reads (lines.Look session m w a) = one_chosen (Reads first second (lines.Look session m w a)) (session == first) (OfFirst (lines.Look session m w a))
      (λ e. (refl, named session first e, refl)) tt
  share_reads (lines.Step session m w) = one_chosen (Reads first second (lines.Look session m w adds)) (session == second) (OfSecond (lines.Look session m w adds))
      (λ e. (refl, named session second e, refl)) tt
  share_reads (lines.Gone session m) = by_session_reads session (lines.Gone session m) refl refl
  share_reads (lines.High session m) = by_session_reads session (lines.High session m) refl refl
  share_reads (lines.Carry session back) = by_session_reads session (lines.Carry session back) refl refl
  share_reads (lines.Return session m back) = by_session_reads session (lines.Return session m back) refl refl
  share_reads (lines.Done session m t) = by_session_reads session (lines.Done session m t) refl refl
  share_reads (lines.Restart session m) = by_session_reads session (lines.Restart session m) refl refl
  share_reads (lines.ReceiverRestart session m) = by_session_reads session (lines.ReceiverRestart session m) refl refl

-- ---- the sessions of a script and those of a chain ----

-- a script has come to these of the chain, so far with no other line than those that stand first, or with one
pub record Matches (o : Openings) (c : Chained) (t : Sessions) : Type 0 where
  pub apart : c.first.row.id ≡ c.second.row.id → ⊥
  pub first : session_at c.first.row.id t.begun ≡ Some (Whole c.first)
  pub second : session_at c.second.row.id t.begun ≡ Some (Whole c.second)
  pub moment : t.moment ≤ moment_of c
  pub under_way : t.is_under_way ≡ c.is_under_way
  pub new : c.is_under_way ≡ false → IsNew o (Whole c.first) × IsNew o (Whole c.second)

earlier : (a b : ℕ) (m : Option ℕ) → a ≤ b → is_from b m ≡ true → is_from a m ≡ true
earlier a b None le e = refl
earlier a b (Some m) le e = le-leb a m (le_trans le (leb-true b m e))

-- a line of the session that goes on is one of its script
goes_leads : (o : Openings) (s : Running) (line : Line) (q : Past) (printed : List Event) → Goes s line q printed → Leads o (Some (Whole s)) line (Some (Whole (record { row = s.row; past = q }))) printed
goes_leads o s lines.Skip q printed (t, h) = absurd h
goes_leads o s (lines.Session row) q printed (t, h) = absurd h
goes_leads o s (lines.LowSession row next held) q printed (t, h) = absurd h
goes_leads o s (lines.Coarse session) q printed (t, h) = absurd h
goes_leads o s (lines.Told session m w fault told a) q printed (t, h) = absurd h
goes_leads o s (lines.Step session m w) q printed (t, h) = absurd h
goes_leads o s (lines.Look session m w a) q printed (t, h) = (t, (q, h, refl))
goes_leads o s (lines.Gone session m) q printed (t, h) = (t, (q, h, refl))
goes_leads o s (lines.High session m) q printed (t, h) = (t, (q, h, refl))
goes_leads o s (lines.Carry session back) q printed (t, h) = (t, (q, h, refl))
goes_leads o s (lines.Return session m back) q printed (t, h) = (t, (q, h, refl))
goes_leads o s (lines.Done session m time) q printed (t, h) = (t, (q, h, refl))
goes_leads o s (lines.Restart session m) q printed (t, h) = (t, (q, h, refl))
goes_leads o s (lines.ReceiverRestart session m) q printed (t, h) = (t, (q, h, refl))

-- what is made coarse is new still
coarse_new : (o : Openings) (s : Running) → IsNew o (Whole s) → IsNew o (Whole (with_coarse s))
coarse_new o s (lawful, can, is) = (lawful, record { agree = can.agree; count = can.count; end = can.end; short = can.short }, is)

under_way_on : (b d : Bool) → d ≡ true → (b || d) ≡ true
under_way_on true d e = refl
under_way_on false d e = e

module _ (o : Openings) (t : Sessions) where
  -- by a line that the script has for the session of this number
  leads_at : (line : Line) (number : ℕ) (s : Begun) (printed : List Event) → session_in line ≡ Some number → is_in_turn t line ≡ true → Leads o (session_at number t.begun) line (Some s) printed
      → ScriptLeads o t line (led_to t line s) printed
  leads_at line number s printed is turn leads = subst (λ (n : Option ℕ). LeadsOne o t line n (led_to t line s) printed) (sym is) (turn, (s, leads, refl))

  -- a session goes on
  goes_on : (s : Running) (line : Line) (q : Past) (printed : List Event) → session_in line ≡ Some s.row.id → is_in_turn t line ≡ true → session_at s.row.id t.begun ≡ Some (Whole s) → Goes s line q printed
      → ScriptLeads o t line (led_to t line (Whole (record { row = s.row; past = q }))) printed
  goes_on s line q printed is turn found goes =
      leads_at line s.row.id (Whole (record { row = s.row; past = q })) printed is turn
      (subst (λ (r : Option Begun). Leads o r line (Some (Whole (record { row = s.row; past = q }))) printed) (sym found) (goes_leads o s line q printed goes))

  -- a session is made coarse
  coarsens : (s : Running) → t.is_under_way ≡ false → s.row.coarse ≡ false → IsNew o (Whole s) → session_at s.row.id t.begun ≡ Some (Whole s)
      → ScriptLeads o t (lines.Coarse s.row.id) (led_to t (lines.Coarse s.row.id) (Whole (with_coarse s))) []
  coarsens s way fine new found = (
    ap (λ (b : Bool). not b && true) way,
    (
      Whole (with_coarse s),
      subst (λ (r : Option Begun). Leads o r (lines.Coarse s.row.id) (Some (Whole (with_coarse s))) []) (sym found)
          (((λ i. (eq-eqb s.row.id s.row.id refl i) && not (fine i)), new, refl), refl),
      refl,
    ),
  )

module _ (o : Openings) (c : Chained) (t : Sessions) (h : Matches o c t) where
  abbrev Next : Line → Chained → List Event → Type 0
  Next line d printed = (u : Sessions) × ScriptLeads o t line u printed × Matches o d u

  turn : (line : Line) → stands_first line ≡ false → is_in_order c line ≡ true → is_in_turn t line ≡ true
  turn line later order =
      subst (λ (b : Bool). (if b then (not t.is_under_way && (not (begins_session line) || nat_lt (length t.begun) 16)) else is_from t.moment (moment_in line)) ≡ true) (sym later)
      (earlier t.moment (moment_of c) (moment_in line) h.moment order)

  first_moves : (line : Line) (q : Past) (printed : List Event) → session_in line ≡ Some c.first.row.id → stands_first line ≡ false → is_in_order c line ≡ true → Goes c.first line q printed → Next line (first_led c q) printed
  first_moves line q printed is later order goes =
      let rises = moment_rises c.first.row c.first.past line q printed goes.0 goes.1 in
      let le = h.moment in (
        led_to t line (Whole (record { row = c.first.row; past = q })),
        goes_on o t c.first line q printed is (turn line later order) h.first goes,
        record {
          apart = h.apart;
          first = session_at-own c.first.row.id (Whole (record { row = c.first.row; past = q })) t.begun refl;
          second = session_at-other c.second.row.id (Whole (record { row = c.first.row; past = q })) t.begun h.apart ∙ h.second;
          moment = omega (arith, rises, le);
          under_way = under_way_on t.is_under_way (not (stands_first line)) (ap not later);
          new = λ e. absurd (cc);
        },
      )

  second_moves : (line : Line) (q : Past) (printed : List Event) → session_in line ≡ Some c.second.row.id → stands_first line ≡ false → is_in_order c line ≡ true → Goes c.second line q printed
      → Next line (second_led c line printed q) printed
  second_moves line q printed is later order goes =
      let rises = moment_rises c.second.row c.second.past line q printed goes.0 goes.1 in
      let le = h.moment in (
        led_to t line (Whole (record { row = c.second.row; past = q })),
        goes_on o t c.second line q printed is (turn line later order) h.second goes,
        record {
          apart = h.apart;
          first = session_at-other c.first.row.id (Whole (record { row = c.second.row; past = q })) t.begun (λ e. h.apart (sym e)) ∙ h.first;
          second = session_at-own c.second.row.id (Whole (record { row = c.second.row; past = q })) t.begun refl;
          moment = omega (arith, rises, le);
          under_way = under_way_on t.is_under_way (not (stands_first line)) (ap not later);
          new = λ e. absurd (cc);
        },
      )

  first_coarsens : c.is_under_way ≡ false → c.first.row.coarse ≡ false → Next (lines.Coarse c.first.row.id) (record c { first = with_coarse c.first }) []
  first_coarsens way fine = (
    led_to t (lines.Coarse c.first.row.id) (Whole (with_coarse c.first)),
    coarsens o t c.first (h.under_way ∙ way) fine (h.new way).0 h.first,
    record {
      apart = h.apart;
      first = session_at-own c.first.row.id (Whole (with_coarse c.first)) t.begun refl;
      second = session_at-other c.second.row.id (Whole (with_coarse c.first)) t.begun h.apart ∙ h.second;
      moment = (let le = h.moment in omega (arith, le));
      under_way = or-false t.is_under_way ∙ h.under_way;
      new = λ e. (coarse_new o c.first (h.new e).0, (h.new e).1);
    },
  )

  second_coarsens : c.is_under_way ≡ false → c.second.row.coarse ≡ false → Next (lines.Coarse c.second.row.id) (record c { second = with_coarse c.second }) []
  second_coarsens way fine = (
    led_to t (lines.Coarse c.second.row.id) (Whole (with_coarse c.second)),
    coarsens o t c.second (h.under_way ∙ way) fine (h.new way).1 h.second,
    record {
      apart = h.apart;
      first = session_at-other c.first.row.id (Whole (with_coarse c.second)) t.begun (λ e. h.apart (sym e)) ∙ h.first;
      second = session_at-own c.second.row.id (Whole (with_coarse c.second)) t.begun refl;
      moment = (let le = h.moment in omega (arith, le));
      under_way = or-false t.is_under_way ∙ h.under_way;
      new = λ e. ((h.new e).0, coarse_new o c.second (h.new e).1);
    },
  )

  by : (line line' : Line) (d d' : Chained) (printed printed' : List Event) → line ≡ line' → d ≡ d' → printed ≡ printed' → Next line' d' printed' → Next line d printed
  by line line' d d' printed printed' a b e n = subst (λ (x : Line × Chained × List Event). Next x.0 x.1 x.2) (λ i. (sym a i, sym b i, sym e i)) n

  leads_by : (line : Line) (share : Share) → Reads c.first.row.id c.second.row.id line share → (d : Chained) (printed : List Event) → LeadsBy c share d printed → Next line d printed
  leads_by line Skipped is d printed (e, f) = by line lines.Skip d c printed [] is e f (t, (refl, refl), h)
  leads_by line OfNone is d printed leads = absurd leads
  leads_by line MakesFirst is d printed (way, fine, e, f) = by line (lines.Coarse c.first.row.id) d _ printed [] is e f (first_coarsens way fine)
  leads_by line MakesSecond is d printed (way, fine, e, f) = by line (lines.Coarse c.second.row.id) d _ printed [] is e f (second_coarsens way fine)
  leads_by line (OfFirst own) (same, is, later) d printed (order, (q, goes, e)) =
      by line line d (first_led c q) printed printed refl e refl
      (first_moves line q printed is later (subst (λ (x : Line). is_in_order c x ≡ true) same order) (subst (λ (x : Line). Goes c.first x q printed) same goes))
  leads_by line (OfSecond own) (same, is, later) d printed (order, (q, goes, e)) =
      by line line d (second_led c line printed q) printed printed refl (e ∙ ap (λ (x : Line). second_led c x printed q) same) refl
      (second_moves line q printed is later (subst (λ (x : Line). is_in_order c x ≡ true) same order) (subst (λ (x : Line). Goes c.second x q printed) same goes))

  -- a line of the chain, as its look
  pub line_leads : (line : Line) (d : Chained) (printed : List Event) → ChainLeads c line d printed → Next (as_look (added c) line) d printed
  line_leads line d printed leads =
      leads_by (as_look (added c) line) (share c line) (share_reads c.first.row.id c.second.row.id (added c) line) d printed leads

-- all lines
pub script_leads : (o : Openings) (c : Chained) (t : Sessions) → Matches o c t → (script : List Line) (d : Chained) (printed : List Event) (leads : ChainLeadsTo c script d printed)
    → (u : Sessions) × ScriptLeadsTo o t (looks_of c script d printed leads) u printed × Matches o d u
script_leads o c t h [] d printed (e, f) = (t, (refl, f), subst (λ (x : Chained). Matches o x t) (sym e) h)
script_leads o c t h (line ∷ later) d printed (mid, first, second, leads, rest, e) =
    let (u, one, k) = line_leads o c t h line mid first leads in
    let (v, more, l) = script_leads o mid u k later d second rest in
    (v, (u, first, second, one, more, e), l)

-- ---- from the beginning ----

abbrev begun_first : Openings → SessionRow → Begun
begun_first o row = Whole (record { row = row; past = first_past row (o row.id) })

abbrev after_one : Openings → SessionRow → Sessions
after_one o one = led_to no_sessions (lines.Session one) (begun_first o one)

abbrev after_both : Openings → SessionRow → SessionRow → Sessions
after_both o one two = led_to (after_one o one) (lines.Session two) (begun_first o two)

module _ (o : Openings) (one two : SessionRow) (can : CanChain o one two) where
  none_yet : session_at two.id (after_one o one).begun ≡ None
  none_yet = session_at-other two.id (begun_first o one) [] can.apart

  one_begins : ScriptLeads o no_sessions (lines.Session one) (after_one o one) []
  one_begins = (refl, (begun_first o one, ((can.first, can.first_opens, refl), refl), refl))

  two_begins : ScriptLeads o (after_one o one) (lines.Session two) (after_both o one two) []
  two_begins = (
    refl,
    (
      begun_first o two,
      subst (λ (r : Option Begun). Leads o r (lines.Session two) (Some (begun_first o two)) []) (sym none_yet) ((can.second, can.second_opens, refl), refl),
      refl,
    ),
  )

  both_match : Matches o (chain_of o one two) (after_both o one two)
  both_match = record {
    apart = can.apart;
    first = session_at-other one.id (begun_first o two) (after_one o one).begun (λ e. can.apart (sym e)) ∙ session_at-own one.id (begun_first o one) [] refl;
    second = session_at-own two.id (begun_first o two) (after_one o one).begun refl;
    moment = omega arith;
    under_way = refl;
    new = λ e. ((can.first, can.first_opens, refl), (can.second, can.second_opens, refl));
  }

  pub chain_leads : (script : List Line) (d : Chained) (printed : List Event) (leads : ChainLeadsTo (chain_of o one two) script d printed)
      → LeadsBoth o (lines.Session one ∷ lines.Session two ∷ looks_of (chain_of o one two) script d printed leads) d printed
  chain_leads script d printed leads =
      let (u, rest, k) = script_leads o (chain_of o one two) (after_both o one two) both_match script d printed leads in
      (u, (after_one o one, [], printed, one_begins, (after_both o one two, [], printed, two_begins, rest, refl), refl), k.first, k.second)

-- ---- the lines of one session ----

-- the rows keep their numbers
numbers_by : (c : Chained) (share : Share) (d : Chained) (printed : List Event) → LeadsBy c share d printed → (d.first.row.id ≡ c.first.row.id) × (d.second.row.id ≡ c.second.row.id)
numbers_by c Skipped d printed (e, f) = (ap (λ (x : Chained). x.first.row.id) e, ap (λ (x : Chained). x.second.row.id) e)
numbers_by c OfNone d printed leads = absurd leads
numbers_by c MakesFirst d printed (way, fine, e, f) = (ap (λ (x : Chained). x.first.row.id) e, ap (λ (x : Chained). x.second.row.id) e)
numbers_by c MakesSecond d printed (way, fine, e, f) = (ap (λ (x : Chained). x.first.row.id) e, ap (λ (x : Chained). x.second.row.id) e)
numbers_by c (OfFirst own) d printed (order, (q, goes, e)) = (ap (λ (x : Chained). x.first.row.id) e, ap (λ (x : Chained). x.second.row.id) e)
numbers_by c (OfSecond own) d printed (order, (q, goes, e)) = (ap (λ (x : Chained). x.first.row.id) e, ap (λ (x : Chained). x.second.row.id) e)

pub numbers_stay : (c : Chained) (script : List Line) (d : Chained) (printed : List Event) → ChainLeadsTo c script d printed → (d.first.row.id ≡ c.first.row.id) × (d.second.row.id ≡ c.second.row.id)
numbers_stay c [] d printed (e, f) = (ap (λ (x : Chained). x.first.row.id) e, ap (λ (x : Chained). x.second.row.id) e)
numbers_stay c (line ∷ later) d printed (mid, first, second, leads, rest, e) =
    let a = numbers_by c (share c line) mid first leads in
    let b = numbers_stay mid later d second rest in
    (b.0 ∙ a.0, b.1 ∙ a.1)

-- a step is none of the first session's lines
step_other : (c : Chained) (session m w : ℕ) (d : Chained) (printed : List Event) → (c.first.row.id ≡ c.second.row.id → ⊥) → ChainLeads c (lines.Step session m w) d printed → is_number c.first.row.id (Some session) ≡ false
step_other c session m w d printed apart leads = by_test (session == c.second.row.id) refl leads
  where
    by_test : (b : Bool) → (session == c.second.row.id) ≡ b → LeadsBy c (if b then OfSecond (lines.Look session m w (added c)) else OfNone) d printed → (session == c.first.row.id) ≡ false
    by_test true e h = ne_eqb session c.first.row.id (λ same. apart (sym same ∙ eqb-true session c.second.row.id e))
    by_test false e h = absurd h

-- each line of the first session is its own look
first_line : (c : Chained) (line : Line) (d : Chained) (printed : List Event) (later : List Line) → (c.first.row.id ≡ c.second.row.id → ⊥) → ChainLeads c line d printed
    → lines_of c.first.row.id (as_look (added c) line ∷ later) ≡ lines_of c.first.row.id (line ∷ later)
first_line c (lines.Step session m w) d printed later apart leads =
    let e = step_other c session m w d printed apart leads in
    other_line c.first.row.id (lines.Look session m w (added c)) later e ∙ sym (other_line c.first.row.id (lines.Step session m w) later e)
first_line c lines.Skip d printed later apart leads = refl
first_line c (lines.Session row) d printed later apart leads = refl
first_line c (lines.LowSession row next held) d printed later apart leads = refl
first_line c (lines.Coarse session) d printed later apart leads = refl
first_line c (lines.Told session m w fault told a) d printed later apart leads = refl
first_line c (lines.Look session m w a) d printed later apart leads = refl
first_line c (lines.Gone session m) d printed later apart leads = refl
first_line c (lines.High session m) d printed later apart leads = refl
first_line c (lines.Carry session back) d printed later apart leads = refl
first_line c (lines.Return session m back) d printed later apart leads = refl
first_line c (lines.Done session m t) d printed later apart leads = refl
first_line c (lines.Restart session m) d printed later apart leads = refl
first_line c (lines.ReceiverRestart session m) d printed later apart leads = refl

-- what is at the head of the list is so whatever follows
headed : (number : ℕ) (line other : Line) (xs ys : List Line) → lines_of number (line ∷ ys) ≡ lines_of number (other ∷ ys) → lines_of number xs ≡ lines_of number ys → lines_of number (line ∷ xs) ≡ lines_of number (other ∷ ys)
headed number line other xs ys same e = ap (λ (l : List Line). if is_number number (session_in line) then line ∷ l else l) e ∙ same

pub first_lines : (c : Chained) (script : List Line) (d : Chained) (printed : List Event) (leads : ChainLeadsTo c script d printed) → (c.first.row.id ≡ c.second.row.id → ⊥)
    → lines_of c.first.row.id (looks_of c script d printed leads) ≡ lines_of c.first.row.id script
first_lines c [] d printed leads apart = refl
first_lines c (line ∷ later) d printed (mid, first, second, leads, rest, e) apart =
    let same = numbers_by c (share c line) mid first leads in
    headed c.first.row.id (as_look (added c) line) line (looks_of mid later d second rest) later (first_line c line mid first later apart leads)
    (subst (λ (n : ℕ). lines_of n (looks_of mid later d second rest) ≡ lines_of n later) same.0 (first_lines mid later d second rest (λ x. apart (sym same.0 ∙ x ∙ same.1))))

-- a chain begins no session
begins_none : (o p : Openings) (c : Chained) (line : Line) (d : Chained) (printed : List Event) → ChainLeads c line d printed → OpensAlike o p line
begins_none o p c lines.Skip d printed h = tt
begins_none o p c (lines.Session row) d printed h = absurd h
begins_none o p c (lines.LowSession row next held) d printed h = tt
begins_none o p c (lines.Coarse session) d printed h = tt
begins_none o p c (lines.Told session m w fault told a) d printed h = tt
begins_none o p c (lines.Step session m w) d printed h = tt
begins_none o p c (lines.Look session m w a) d printed h = tt
begins_none o p c (lines.Gone session m) d printed h = tt
begins_none o p c (lines.High session m) d printed h = tt
begins_none o p c (lines.Carry session back) d printed h = tt
begins_none o p c (lines.Return session m back) d printed h = tt
begins_none o p c (lines.Done session m t) d printed h = tt
begins_none o p c (lines.Restart session m) d printed h = tt
begins_none o p c (lines.ReceiverRestart session m) d printed h = tt

pub none_begins : (o p : Openings) (c : Chained) (script : List Line) (d : Chained) (printed : List Event) → ChainLeadsTo c script d printed → All (OpensAlike o p) script
none_begins o p c [] d printed leads = All-nil (OpensAlike o p)
none_begins o p c (line ∷ later) d printed (mid, first, second, leads, rest, e) = All-cons (OpensAlike o p) line later (begins_none o p c line mid first leads) (none_begins o p mid later d second rest)
