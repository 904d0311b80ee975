-- The lines of a sender of a stream on one connection, one after another.
use Rattle.std.proofs.Common.{◌≡◌, ◌≤◌, ◌<◌, ℕ, ◌+◌, ◌^◌, Bool, true, false, List, [], ◌∷◌, ◌++◌, length, Option, Some, None, refl, sym, ap, ◌∙◌, subst, append-nil, arith, length-append}
use Rattle.std.specs.Io.KnownBytes.{Appends, Consumes}
use Rattle.std.proofs.KnownBytes.{Appends-nil, Appends-trans, Consumes-nil, Consumes-trans}
use Rattle.pump_frame.specs.declared.frame.Frame.{Frame}
use Rattle.pump_frame.specs.declared.frame.Kind.TheVariants.{Data}
use Rattle.pump_frame.specs.Frames.{IsLawful, IsForm}
use Rattle.pump_frame.specs.Spellings.{spelling}
use Rattle.pump_link.specs.Tells.{Draws, Grows}
use Rattle.pump_link.specs.declared.link.Looked.{Looked}
use Rattle.pump_link.proofs.Grown.{Draws-nil, Draws-then, Grows-nil, Grows-then}
use Rattle.peers.specs.declared.append.AppendEnd.{AppendEnd}
use Rattle.peers.specs.declared.append.AppendEnd.TheVariants.{Done, Read, Write, Script, Refused, Unfinished, Elsewhere}
use Rattle.peers.specs.declared.append.Appender.{Appender}
use Rattle.peers.specs.declared.asking.Wanted.TheVariants as wanted
use Rattle.peers.specs.Appender.{IsReady, flight, flight_of, acknowledged, Keeps, Holds, IsNone, Behind, SendsLines}
use Rattle.peers.specs.Appending.{Line, AreLines, payloads, texts, Flight, flying, acks, Prints, Turn, AreTurns, messages, looks_of, sendings, Ask, AskEnds, IsFlown, LinesEnd}
use Rattle.peers.specs.Outputs.{PrintsPart}
use Rattle.peers.specs.Payloads.{TakesAtMost}
use Rattle.peers.specs.Sending.{Wait, Answers, ack_line, data_frame}
use Rattle.peers.proofs.Appending.{are_lines, texts_append, order_append, messages_length}
use Rattle.peers.proofs.Outgoing.{whole_printed}

pub no_flight : (b : Bool) (f : Frame) → b ≡ false → flight b f ≡ None
no_flight false f e = refl
no_flight true f e = cc

pub one_flight : (b : Bool) (f : Frame) → b ≡ true → flight b f ≡ Some (record { number = f.number; payload = f.payload })
one_flight true f e = refl
one_flight false f e = cc

-- what was done since a WELCOME, where `rest` is what is to come of the script
pub record SoFar (old now : Appender) (g g1 : List Looked → Type 0) (s s1 : List ℕ → Type 0) (all rest w w1 : Option (List ℕ)) : Type 0 where
  pub turns : List Turn
  pub lines : List Line
  pub are : AreTurns old.frame.session old.frame.number turns
  pub read : AreLines lines
  pub order : payloads lines ++ flying (flight_of old) ≡ flying (flight_of now) ++ messages turns
  pub number : now.frame.number ≡ old.frame.number + length turns
  pub session : now.frame.session ≡ old.frame.session
  pub used : old.left ≡ now.left + length (looks_of turns)
  pub count : now.lines ≡ old.lines + length turns
  pub reads : Consumes all rest (texts lines)
  pub gave : Draws g g1 (looks_of turns)
  pub did_send : Grows s s1 (sendings old.frame.session old.frame.number turns)
  pub did_print : Appends w w1 (acks old.frame.number (messages turns))

pub none_so_far : (old : Appender) (g : List Looked → Type 0) (s : List ℕ → Type 0) (all w : Option (List ℕ)) → SoFar old old g g s s all all w w
none_so_far old g s all w = record {
  turns = [];
  lines = [];
  are = tt;
  read = tt;
  order = sym (append-nil (flying (flight_of old)));
  number = omega arith;
  session = refl;
  used = omega arith;
  count = omega arith;
  reads = Consumes-nil all;
  gave = Draws-nil g;
  did_send = Grows-nil s;
  did_print = Appends-nil w;
}

-- what a call told of the lines
abbrev pub Told : (old new : Appender) (g g' : List Looked → Type 0) (s s' : List ℕ → Type 0) (all after w w' : Option (List ℕ)) (before now : ℕ) → Option AppendEnd → Type 0
Told old new g g' s s' all after w w' before now end = (turns : List Turn) × (lines : List Line) × (a : Ask) × (printed : List ℕ) × SendsLines old new turns lines a all after before now end printed
    × Draws g g' (looks_of turns ++ a.wait.looks) × Grows s s' (sendings old.frame.session old.frame.number turns ++ a.sent) × Appends w w' printed

abbrev idle : ℕ → Ask
idle left = record { wait = record { looks = []; passed = [] }; left = left; sent = [] }

-- no lines were held
none_held : (old new : Appender) (lines : List Line) → IsNone old new lines → AreLines lines × (payloads lines ++ flying (flight_of old) ≡ flying (flight_of new))
none_held old new lines (was, is, none) = (
  subst AreLines (sym none) tt,
  subst (λ (l : List Line). payloads l ++ flying (flight_of old) ≡ flying (flight_of new)) (sym none) (ap flying (no_flight old.is_held old.frame was ∙ sym (no_flight new.is_held new.frame is))),
)

module _ (old now h : Appender) (g g1 : List Looked → Type 0) (s s1 : List ℕ → Type 0) (all mid w w1 : Option (List ℕ)) (was : SoFar old now g g1 s s1 all mid w w1) (keeps : Keeps now h) (lines : List Line) (rest : Option (List ℕ)) (reads : Consumes mid rest (texts lines)) where
  -- a line was read, or one was held already
  more : AreLines lines → payloads lines ++ flying (flight_of now) ≡ flying (flight_of h) → SoFar old h g g1 s s1 all rest w w1
  more are order = record {
    turns = was.turns;
    lines = lines ++ was.lines;
    are = was.are;
    read = are_lines lines was.lines are was.read;
    order = order_append (flight_of old) (flight_of now) (flight_of h) lines was.lines [] (messages was.turns) was.order (order ∙ sym (append-nil (flying (flight_of h))));
    number = keeps.number ∙ was.number;
    session = keeps.session ∙ was.session;
    used = was.used ∙ ap (λ n. n + length (looks_of was.turns)) (sym keeps.left);
    count = keeps.lines ∙ was.count;
    reads = subst (Consumes all rest) (sym (texts_append lines was.lines)) (Consumes-trans all mid rest (texts was.lines) (texts lines) was.reads reads);
    gave = was.gave;
    did_send = was.did_send;
    did_print = was.did_print;
  }

  pub held : (after : Option (List ℕ)) → Holds now h lines rest after None → SoFar old h g g1 s s1 all after w w1
  held after (are, order, is, same) = subst (λ (r : Option (List ℕ)). SoFar old h g g1 s s1 all r w w1) (sym same) (more are order)

  rests : SoFar old h g g1 s s1 all rest w w1 → h.is_held ≡ false → (after : Option (List ℕ)) → TakesAtMost 2049 rest after → (before last : ℕ) (end : AppendEnd)
      → LinesEnd old.frame.session h.frame.number (flight_of h) (idle h.left) rest before last (Some end)
      → ((first : ℕ) (ms : List (List ℕ)) → Prints (Some end) first ms (acks first ms)) → Told old h g g1 s s1 all after w w1 before last (Some end)
  rests so is after ahead before last end ends prints =
      let none : looks_of so.turns ++ [] ≡ looks_of so.turns = append-nil (looks_of so.turns) in (
        so.turns,
        so.lines,
        idle h.left,
        acks old.frame.number (messages so.turns),
        record {
          are = so.are;
          read = so.read;
          order = so.order;
          rest = rest;
          ends = subst (λ n. LinesEnd old.frame.session n (flight_of h) (idle h.left) rest before last (Some end)) so.number ends;
          used = so.used ∙ ap (λ (l : List Looked). h.left + length l) (sym none);
          left = refl;
          reads = so.reads;
          behind = ahead;
          prints = prints old.frame.number (messages so.turns);
          count = so.count;
          number = so.number;
        },
        subst (Draws g g1) (sym none) so.gave,
        subst (Grows s s1) (sym (append-nil (sendings old.frame.session old.frame.number so.turns))) so.did_send,
        so.did_print,
      )

  none_is : IsNone now h lines → SoFar old h g g1 s s1 all rest w w1
  none_is n = let e = none_held now h lines n in more e.0 e.1

  -- the script brought no line
  pub no_line : (after : Option (List ℕ)) (end : AppendEnd) (before last : ℕ) → Holds now h lines rest after (Some end) → TakesAtMost 2049 rest after → Told old h g g1 s s1 all after w w1 before last (Some end)
  no_line after Done before last (n, at_end) ahead = rests (none_is n) n.1 after ahead before last Done ((no_flight h.is_held h.frame n.1, record { looks = refl; sent = refl }), at_end) (λ first ms. refl)
  no_line after Read before last n ahead = rests (none_is n) n.1 after ahead before last Read (no_flight h.is_held h.frame n.1, record { looks = refl; sent = refl }) (λ first ms. refl)
  no_line after Script before last (n, why) ahead = rests (none_is n) n.1 after ahead before last Script ((no_flight h.is_held h.frame n.1, record { looks = refl; sent = refl }), why) (λ first ms. refl)
  no_line after Write before last e ahead = absurd e
  no_line after (Refused code of) before last e ahead = absurd e
  no_line after Unfinished before last e ahead = absurd e
  no_line after (Elsewhere of) before last e ahead = absurd e

-- the message that is under way was sent
module _ (old h : Appender) (left : ℕ) (g g1 g2 : List Looked → Type 0) (s s1 s2 : List ℕ → Type 0) (all after w w1 : Option (List ℕ)) (was : SoFar old h g g1 s s1 all after w w1) (is_held : h.is_held ≡ true) (frame_is : h.frame ≡ data_frame old.frame.session h.frame.number h.frame.payload)
    (wait : Wait) (sent : List ℕ) (used : h.left ≡ left + length wait.looks) (gave : Draws g1 g2 wait.looks) (sends : Grows s1 s2 sent) where
  abbrev asked : Ask
  asked = record { wait = wait; left = left; sent = sent }

  -- .. and not acknowledged
  pub unanswered : (before last : ℕ) (end : Option AppendEnd) → h.frame.number < 2 ^ 48 → AskEnds h.frame.session h.frame (wanted.Ack h.frame.number) asked before last end
      → (IsFlown old.frame.session (old.frame.number + length was.turns) (flight_of h) asked before last end → LinesEnd old.frame.session (old.frame.number + length was.turns) (flight_of h) asked after before last end)
      → Prints end old.frame.number (messages was.turns) (acks old.frame.number (messages was.turns)) → Behind end after after → Told old (record h { left = left }) g g2 s s2 all after w w1 before last end
  unanswered before last end below ends lines_end prints behind = (
    was.turns,
    was.lines,
    asked,
    acks old.frame.number (messages was.turns),
    record {
      are = was.are;
      read = was.read;
      order = was.order;
      rest = after;
      ends = lines_end record {
        below = subst (λ n. n < 2 ^ 48) was.number below;
        payload = h.frame.payload;
        is = one_flight h.is_held h.frame is_held ∙ ap (λ n. Some (record { number = n; payload = h.frame.payload })) was.number;
        ends = subst (λ n. AskEnds old.frame.session (data_frame old.frame.session n h.frame.payload) (wanted.Ack n) asked before last end) was.number
            (subst (λ (f : Frame). AskEnds f.session f (wanted.Ack h.frame.number) asked before last end) frame_is ends);
      };
      used = omega (arith, was.used, used, length-append (looks_of was.turns) wait.looks);
      left = refl;
      reads = was.reads;
      behind = behind;
      prints = prints;
      count = was.count;
      number = was.number;
    },
    Draws-then g g1 g2 (looks_of was.turns) wait.looks was.gave gave,
    Grows-then s s1 s2 (sendings old.frame.session old.frame.number was.turns) sent was.did_send sends,
    was.did_print,
  )

  module _ (ack : Frame) (answer : Answers h.frame.session (wanted.Ack h.frame.number) wait ack) (sent_is : sent ≡ spelling h.frame) where
    abbrev turns : List Turn
    turns = record { payload = h.frame.payload; wait = wait; ack = ack } ∷ was.turns

    answers : AreTurns old.frame.session old.frame.number turns
    answers = (subst (λ n. Answers old.frame.session (wanted.Ack n) wait ack) was.number (subst (λ (f : Frame). Answers f.session (wanted.Ack h.frame.number) wait ack) frame_is answer), was.are)

    in_order : payloads was.lines ++ flying (flight_of old) ≡ messages turns
    in_order = was.order ∙ ap (λ (f : Option Flight). flying f ++ messages was.turns) (one_flight h.is_held h.frame is_held)

    all_sent : Grows s s2 (sendings old.frame.session old.frame.number turns)
    all_sent = Grows-then s s1 s2 (sendings old.frame.session old.frame.number was.turns) (spelling (data_frame old.frame.session (old.frame.number + length was.turns) h.frame.payload)) was.did_send
        (subst (Grows s1 s2) (sent_is ∙ ap spelling (frame_is ∙ ap (λ n. data_frame old.frame.session n h.frame.payload) was.number)) sends)

    number_is : h.frame.number ≡ old.frame.number + length (messages was.turns)
    number_is = was.number ∙ ap (λ n. old.frame.number + n) (sym (messages_length was.turns))

    -- .. and acknowledged
    pub acked : (w2 : Option (List ℕ)) → PrintsPart w1 w2 true (ack_line h.frame.number) → SoFar old (acknowledged (record h { left = left })) g g2 s s2 all after w w2
    acked w2 p = record {
      turns = turns;
      lines = was.lines;
      are = answers;
      read = was.read;
      order = in_order;
      number = omega (arith, was.number);
      session = was.session;
      used = omega (arith, was.used, used, length-append (looks_of was.turns) wait.looks);
      count = omega (arith, was.count);
      reads = was.reads;
      gave = Draws-then g g1 g2 (looks_of was.turns) wait.looks was.gave gave;
      did_send = all_sent;
      did_print = Appends-trans w w1 w2 (acks old.frame.number (messages was.turns)) (ack_line (old.frame.number + length (messages was.turns))) was.did_print
          (subst (λ n. Appends w1 w2 (ack_line n)) number_is (whole_printed w1 w2 true (ack_line h.frame.number) refl p));
    }

    -- .. and that could not be printed
    pub unprinted : (w2 : Option (List ℕ)) (before last : ℕ) → PrintsPart w1 w2 false (ack_line h.frame.number) → TakesAtMost 2049 after after → Told old (acknowledged (record h { left = left })) g g2 s s2 all after w w2 before last (Some Write)
    unprinted w2 before last (prefix, is, whole, appends) none = (
      turns,
      was.lines,
      idle left,
      acks old.frame.number (messages was.turns) ++ prefix,
      record {
        are = answers;
        read = was.read;
        order = in_order;
        rest = after;
        ends = (refl, record { looks = refl; sent = refl });
        used = omega (arith, was.used, used, length-append (looks_of was.turns) wait.looks, ap (λ (l : List Looked). length l) (append-nil (looks_of turns)));
        left = refl;
        reads = was.reads;
        behind = none;
        prints = (prefix, subst (λ n. (rest : List ℕ) × (ack_line n ≡ prefix ++ rest)) number_is is, refl);
        count = omega (arith, was.count);
        number = omega (arith, was.number);
      },
      subst (Draws g g2) (sym (append-nil (looks_of turns))) (Draws-then g g1 g2 (looks_of was.turns) wait.looks was.gave gave),
      subst (Grows s s2) (sym (append-nil (sendings old.frame.session old.frame.number turns))) all_sent,
      Appends-trans w w1 w2 (acks old.frame.number (messages was.turns)) prefix was.did_print appends,
    )

pub lawful_data : (f : Frame) → f.kind ≡ Data → f.session < 2 ^ 32 → f.number < 2 ^ 48 → length f.payload ≤ 1024 → IsLawful f
lawful_data f kind session number payload = record { session = session; form = subst (λ k. IsForm k f.number f.payload) (sym kind) (number, payload) }

pub ready_more : (h : Appender) (left n : ℕ) → IsReady h → h.left ≡ left + n → 0 < n → IsReady (acknowledged (record h { left = left }))
ready_more h left n ready used some = record { kind = ready.kind; session = ready.session; short = λ e. cc; below = λ e. cc; ahead = ready.ahead; few = omega (arith, ready.few, used, some) }
