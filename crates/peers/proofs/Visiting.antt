-- What a sender of a stream does on one connection.
use Rattle.std.proofs.Common.{◌≡◌, ◌≤◌, ◌<◌, inl, inr, ℕ, ◌+◌, ◌^◌, Bool, true, false, List, [], ◌∷◌, ◌++◌, length, Option, Some, None, refl, sym, ap, ◌∙◌, subst, append-nil, append_assoc, arith, length-append}
use Rattle.std.specs.Io.KnownBytes.{Appends, Consumes}
use Rattle.std.proofs.KnownBytes.{Appends-nil, Appends-trans, Consumes-nil}
use Rattle.pump_frame.specs.declared.frame.Frame.{Frame}
use Rattle.pump_frame.specs.declared.row.SessionRow.{SessionRow}
use Rattle.pump_frame.specs.Spellings.{spelling}
use Rattle.pump_link.specs.Tells.{Draws, Grows}
use Rattle.pump_link.specs.declared.link.Looked.{Looked}
use Rattle.pump_link.proofs.Grown.{Draws-then, Grows-then}
use Rattle.peers.specs.declared.append.AppendEnd.{AppendEnd}
use Rattle.peers.specs.declared.append.AppendEnd.TheVariants.{Done, Read, Write, Script, Refused, Unfinished, Elsewhere}
use Rattle.peers.specs.declared.append.Appender.{Appender}
use Rattle.peers.specs.declared.asking.Wanted.TheVariants as wanted
use Rattle.peers.specs.Appender.{IsReady, flight, flight_of, next_number, TakesWelcome, coming, Behind, Visits}
use Rattle.peers.specs.Appending.{payloads, texts, Flight, flying, acks, Prints, messages, looks_of, sendings, Ask, AskEnds, LinesEnd, IsCounted, IsElsewhere, AreTurns, Visit, Ungreeted, Greeted, looks_in, sent_in}
use Rattle.peers.specs.Payloads.{TakesAtMost}
use Rattle.peers.specs.Sending.{Wait, Answers, hello_frame}
use Rattle.peers.proofs.Appending.{prints_append, messages_length}
use Rattle.peers.proofs.SendingLines.{unfinished_earlier}
use Rattle.peers.proofs.Streaming.{Told, no_flight}

-- what a call told of a connection
abbrev pub Visited : (row : SessionRow) (old new : Appender) (g g' : List Looked → Type 0) (s s' : List ℕ → Type 0) (all after w w' : Option (List ℕ)) (before now : ℕ) → Option AppendEnd → Type 0
Visited row old new g g' s s' all after w w' before now end = (visit : Visit) × (printed : List ℕ) × Visits row old new visit all after before now end printed
    × Draws g g' (looks_in visit) × Grows s s' (sent_in row visit) × Appends w w' printed

-- no WELCOME came
pub ungreeted : (row : SessionRow) (old : Appender) (g g1 : List Looked → Type 0) (s s1 : List ℕ → Type 0) (src w : Option (List ℕ)) (hello : Frame) (a : Ask) (before now : ℕ) (end : Option AppendEnd) → hello ≡ hello_frame row
    → AskEnds hello.session hello wanted.Welcome a before now end → old.left ≡ a.left + length a.wait.looks → Draws g g1 a.wait.looks → Grows s s1 a.sent
    → ((rest : Option (List ℕ)) → Behind end rest rest) → ((first : ℕ) → Prints end first [] []) → Visited row old (record old { left = a.left }) g g1 s s1 (coming old src) (coming old src) w w before now end
ungreeted row old g g1 s s1 src w hello a before now end is ends used gave sends behind prints = (
  Ungreeted a,
  [],
  record {
    rest = coming old src;
    is = subst (λ (f : Frame). AskEnds f.session f wanted.Welcome a before now end) is ends;
    flight_is = refl;
    used = used;
    left = refl;
    reads = Consumes-nil (coming old src);
    behind = behind (coming old src);
    prints = prints (next_number (flight_of old) 0);
    count = omega arith;
    number = refl;
  },
  gave,
  sends,
  Appends-nil w,
)

counted_number : (before : Option Flight) (number : ℕ) (counted : List (List ℕ)) → IsCounted before number counted → next_number before number + length counted ≡ number
counted_number None number counted none = omega (arith, ap (λ (l : List (List ℕ)). length l) none)
counted_number (Some f) number [] is = omega (arith, is)
counted_number (Some f) number (m ∷ []) is = omega (arith, is.0)
counted_number (Some f) number (m ∷ more ∷ rest) is = absurd is

counted_one : (before : Option Flight) (number : ℕ) (counted : List (List ℕ)) → IsCounted before number counted → length counted ≤ 1
counted_one None number counted none = omega (arith, ap (λ (l : List (List ℕ)). length l) none)
counted_one (Some f) number [] is = omega arith
counted_one (Some f) number (m ∷ []) is = omega arith
counted_one (Some f) number (m ∷ more ∷ rest) is = absurd is

was_held : (b now : Bool) (f f' : Frame) (counted : List (List ℕ)) → flying (flight b f) ≡ flying (flight now f') ++ counted → now ≡ true → b ≡ true
was_held true now f f' counted e held = refl
was_held false true f f' counted e held = let l = ap (λ (xs : List (List ℕ)). length xs) e in absurd (omega (arith, l))
was_held false false f f' counted e held = held

is_held_elsewhere : (b : Bool) (f : Frame) (number : ℕ) → IsElsewhere (flight b f) number → b ≡ true
is_held_elsewhere true f number e = refl
is_held_elsewhere false f number e = absurd e

held_number : (b : Bool) (f : Frame) (number : ℕ) → b ≡ true → next_number (flight b f) number ≡ f.number
held_number true f number e = refl
held_number false f number e = cc

-- an appender after a WELCOME
pub ready_for : (old new : Appender) (left number n : ℕ) (counted : List (List ℕ)) → IsReady old → TakesWelcome (record old { left = left }) number new counted None → old.left ≡ left + n → 0 < n → IsReady new
ready_for old new left number n counted ready (is, m, number_is, same) used some = record {
  kind = m.kind ∙ ready.kind;
  session = subst (λ n. n < 2 ^ 32) (sym m.session) ready.session;
  short = λ held. subst (λ (l : List ℕ). length l ≤ 1024) (sym m.payload) (ready.short (was_held old.is_held new.is_held old.frame new.frame counted m.order held));
  below = λ held. (let low = ready.below (was_held old.is_held new.is_held old.frame new.frame counted m.order held) in let e = same held in omega (arith, low, e, number_is));
  ahead = subst (λ (l : List ℕ). length l ≤ 4096) (sym m.ahead) ready.ahead;
  few = omega (arith, ready.few, m.lines, m.left, used, some, counted_one (flight_of old) number counted is);
}

-- .. which ended the call
pub ready_ended : (old new : Appender) (left number n : ℕ) (counted : List (List ℕ)) (end : AppendEnd) → IsReady old → TakesWelcome (record old { left = left }) number new counted (Some end) → old.left ≡ left + n → 0 < n → IsReady new
ready_ended old new left number n counted Write ready (is, m, none, at) used some = record {
  kind = m.kind ∙ ready.kind;
  session = subst (λ n. n < 2 ^ 32) (sym m.session) ready.session;
  short = λ held. (let e : false ≡ true = sym none ∙ held in cc);
  below = λ held. (let e : false ≡ true = sym none ∙ held in cc);
  ahead = subst (λ (l : List ℕ). length l ≤ 4096) (sym m.ahead) ready.ahead;
  few = omega (arith, ready.few, m.lines, m.left, used, some, counted_one (flight_of old) number counted is);
}
ready_ended old new left number n counted (Elsewhere of) ready (is, of_is, none, same) used some = subst IsReady (sym same) record { kind = ready.kind; session = ready.session; short = ready.short; below = ready.below; ahead = ready.ahead; few = omega (arith, ready.few, used) }
ready_ended old new left number n counted Done ready e used some = absurd e
ready_ended old new left number n counted Read ready e used some = absurd e
ready_ended old new left number n counted Script ready e used some = absurd e
ready_ended old new left number n counted (Refused code of) ready e used some = absurd e
ready_ended old new left number n counted Unfinished ready e used some = absurd e

lines_earlier : (session number : ℕ) (f : Option Flight) (a : Ask) (rest : Option (List ℕ)) (before mid now : ℕ) (end : Option AppendEnd) → before ≤ mid → LinesEnd session number f a rest mid now end → LinesEnd session number f a rest before now end
lines_earlier session number f a rest before mid now None low e = record { below = e.below; payload = e.payload; is = e.is; ends = unfinished_earlier session _ _ a.wait a.left a.sent before mid now low e.ends }
lines_earlier session number f a rest before mid now (Some (Refused code of)) low e = record { below = e.below; payload = e.payload; is = e.is; ends = e.ends }
lines_earlier session number f a rest before mid now (Some Done) low e = e
lines_earlier session number f a rest before mid now (Some Read) low e = e
lines_earlier session number f a rest before mid now (Some Write) low e = e
lines_earlier session number f a rest before mid now (Some Script) low e = e
lines_earlier session number f a rest before mid now (Some Unfinished) low e = e
lines_earlier session number f a rest before mid now (Some (Elsewhere of)) low e = e

-- a WELCOME came
module _ (row : SessionRow) (old : Appender) (left : ℕ) (g g1 : List Looked → Type 0) (s s1 : List ℕ → Type 0) (src w w1 : Option (List ℕ)) (hello welcome : Frame) (wait : Wait) (number : ℕ) (sent : List ℕ) (before last : ℕ)
    (hello_is : hello ≡ hello_frame row) (answer : Answers hello.session wanted.Welcome wait welcome) (number_is : number ≡ welcome.number) (sent_is : sent ≡ spelling hello) (used : old.left ≡ left + length wait.looks) (gave : Draws g g1 wait.looks) (sends : Grows s s1 sent) where
  abbrev asked_none : Ask
  asked_none = record { wait = record { looks = []; passed = [] }; left = left; sent = [] }

  answers : Answers row.id wanted.Welcome wait welcome
  answers = subst (λ (f : Frame). Answers f.session wanted.Welcome wait welcome) hello_is answer

  greeted : Grows s s1 (spelling (hello_frame row))
  greeted = subst (Grows s s1) (sent_is ∙ ap spelling hello_is) sends

  same_script : (new : Appender) → new.script_lines ≡ old.script_lines → TakesAtMost 2049 (coming old src) (coming new src)
  same_script new is = ([], subst (λ (l : List ℕ). Consumes (coming old src) (coming (record new { script_lines = l }) src) []) (sym is) (Consumes-nil (coming old src)), omega arith)

  -- .. and ended the call
  pub welcome_ends : (new : Appender) (counted : List (List ℕ)) (printed : List ℕ) (end : AppendEnd) → TakesWelcome (record old { left = left }) number new counted (Some end)
      → Prints (Some end) (next_number (flight_of old) number) counted printed → Appends w w1 printed → Visited row old new g g1 s s1 (coming old src) (coming new src) w w1 before last (Some end)
  welcome_ends new counted printed Write (is, m, none, at) prints appends = (
    Greeted wait welcome counted [] [] None asked_none,
    printed,
    record {
      rest = coming old src;
      is = (
        answers,
        tt,
        tt,
        m.order ∙ ap (λ (f : Option Flight). flying f ++ counted) (no_flight new.is_held new.frame none),
        inl (subst (λ n. IsCounted (flight_of old) n counted) number_is is, (refl, record { looks = refl; sent = refl })),
      );
      flight_is = no_flight new.is_held new.frame none;
      used = omega (arith, used, m.left, length-append wait.looks []);
      left = sym m.left;
      reads = Consumes-nil (coming old src);
      behind = same_script new m.ahead;
      prints = subst (λ n. Prints (Some Write) (next_number (flight_of old) n) counted printed) number_is prints;
      count = m.lines;
      number = omega (arith, at, number_is, counted_number (flight_of old) number counted is, ap (λ n. next_number (flight_of old) n) number_is);
    },
    subst (Draws g g1) (sym (append-nil wait.looks)) gave,
    subst (Grows s s1) (sym (append-nil (spelling (hello_frame row)))) greeted,
    appends,
  )
  welcome_ends new counted printed (Elsewhere of) (is, of_is, none, same) prints appends = (
    Greeted wait welcome [] [] [] (flight_of old) asked_none,
    printed,
    record {
      rest = coming old src;
      is = (
        answers,
        tt,
        tt,
        sym (append-nil (flying (flight_of old))),
        inr record {
          elsewhere = subst (λ n. IsElsewhere (flight_of old) n) number_is is;
          none = refl;
          no_turns = refl;
          same = refl;
          idle = record { looks = refl; sent = refl };
          is = ap (λ n. Some (Elsewhere n)) (of_is ∙ number_is);
        },
      );
      flight_is = ap flight_of same;
      used = omega (arith, used, ap (λ (a : Appender). a.left) same, length-append wait.looks []);
      left = sym (ap (λ (a : Appender). a.left) same);
      reads = Consumes-nil (coming old src);
      behind = same_script new (ap (λ (a : Appender). a.script_lines) same);
      prints = prints ∙ ap (acks (next_number (flight_of old) number)) none;
      count = omega (arith, ap (λ (a : Appender). a.lines) same);
      number = omega (arith, ap (λ (a : Appender). a.frame.number) same, held_number old.is_held old.frame welcome.number (is_held_elsewhere old.is_held old.frame number is));
    },
    subst (Draws g g1) (sym (append-nil wait.looks)) gave,
    subst (Grows s s1) (sym (append-nil (spelling (hello_frame row)))) greeted,
    appends,
  )
  welcome_ends new counted printed Done e prints appends = absurd e
  welcome_ends new counted printed Read e prints appends = absurd e
  welcome_ends new counted printed Script e prints appends = absurd e
  welcome_ends new counted printed (Refused code of) e prints appends = absurd e
  welcome_ends new counted printed Unfinished e prints appends = absurd e

  -- .. and lines were sent
  pub lines_sent : (mid new : Appender) (g2 : List Looked → Type 0) (s2 : List ℕ → Type 0) (after w2 : Option (List ℕ)) (counted : List (List ℕ)) (printed : List ℕ) (between : ℕ) (end : Option AppendEnd) → old.frame.session ≡ row.id
      → TakesWelcome (record old { left = left }) number mid counted None → Prints None (next_number (flight_of old) number) counted printed → Appends w w1 printed → before ≤ between
      → Told mid new g1 g2 s1 s2 (coming mid src) after w1 w2 between last end → Visited row old new g g2 s s2 (coming old src) after w w2 before last end
  lines_sent mid new g2 s2 after w2 counted printed between end of_row (is, m, mid_is, same) prints appends low (turns, lines, a, more, x, more_gave, more_sends, more_appends) =
      let session : mid.frame.session ≡ row.id = m.session ∙ of_row in
      let at : mid.frame.number ≡ welcome.number = mid_is ∙ number_is in
      let whole = counted_number (flight_of old) number counted is in
      let first : mid.frame.number ≡ next_number (flight_of old) welcome.number + length counted =
      omega (arith, mid_is, whole, ap (λ n. next_number (flight_of old) n) number_is) in (
        Greeted wait welcome counted turns lines (flight_of new) a,
        printed ++ more,
        record {
          rest = x.rest;
          is = (
            answers,
            subst (λ n. AreTurns row.id n turns) at (subst (λ n. AreTurns n mid.frame.number turns) session x.are),
            x.read,
            ap (λ (l : List (List ℕ)). payloads lines ++ l) m.order
                ∙ sym (append_assoc (payloads lines) (flying (flight_of mid)) counted)
                ∙ ap (λ (l : List (List ℕ)). l ++ counted) x.order
                ∙ append_assoc (flying (flight_of new)) (messages turns) counted,
            inl (
              subst (λ n. IsCounted (flight_of old) n counted) number_is is,
              lines_earlier row.id (welcome.number + length turns) (flight_of new) a x.rest before between last end low
                  (subst (λ n. LinesEnd row.id (n + length turns) (flight_of new) a x.rest between last end) at
                  (subst (λ n. LinesEnd n (mid.frame.number + length turns) (flight_of new) a x.rest between last end) session x.ends)),
            ),
          );
          flight_is = refl;
          used = omega (arith, used, m.left, x.used, length-append wait.looks (looks_of turns ++ a.wait.looks));
          left = x.left;
          reads = subst (λ (l : List ℕ). Consumes (coming (record old { script_lines = l }) src) x.rest (texts lines)) m.ahead x.reads;
          behind = x.behind;
          prints = subst (λ (l : List ℕ). Prints end (next_number (flight_of old) welcome.number) (messages turns ++ counted) (l ++ more)) (sym (prints ∙ ap (λ n. acks (next_number (flight_of old) n) counted) number_is))
              (prints_append end (next_number (flight_of old) welcome.number) (messages turns) counted more (subst (λ n. Prints end n (messages turns) more) first x.prints));
          count = omega (arith, x.count, m.lines, length-append (messages turns) counted, messages_length turns);
          number = omega (arith, x.number, first, length-append (messages turns) counted, messages_length turns);
        },
        Draws-then g g1 g2 wait.looks (looks_of turns ++ a.wait.looks) gave more_gave,
        Grows-then s s1 s2 (spelling (hello_frame row)) (sendings row.id welcome.number turns ++ a.sent) greeted
            (subst (λ n. Grows s1 s2 (sendings row.id n turns ++ a.sent)) at (subst (λ n. Grows s1 s2 (sendings n mid.frame.number turns ++ a.sent)) session more_sends)),
        Appends-trans w w1 w2 printed more appends more_appends,
      )
