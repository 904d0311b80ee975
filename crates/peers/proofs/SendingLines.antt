-- The lines of a sender, one after another.
use Rattle.std.proofs.Common.{◌≡◌, ◌≤◌, ◌<◌, ◌⊎◌, inl, inr, min, ℕ, ◌+◌, ◌-◌, ◌^◌, List, [], ◌∷◌, ◌++◌, length, Option, Some, None, IfSome, refl, sym, ap, ◌∙◌, subst, append-nil, arith, length-append}
use Rattle.std.specs.Io.KnownBytes.{prepend_known, Appends, Consumes, IsAtEnd}
use Rattle.script_reader.specs.Lines.{IsSome}
use Rattle.pump_frame.specs.declared.row.SessionRow.{SessionRow}
use Rattle.std.proofs.KnownBytes.{Appends-nil, Appends-trans, Consumes-nil, Consumes-trans}
use Rattle.pump_frame.specs.Counts.{Rose}
use Rattle.pump_frame.specs.declared.frame.Frame.{Frame}
use Rattle.pump_frame.specs.Spellings.{spelling}
use Rattle.pump_link.specs.Tells.{Draws, Grows}
use Rattle.pump_link.specs.declared.link.Looked.{Looked}
use Rattle.pump_link.proofs.Grown.{Draws-then, Grows-then}
use Rattle.peers.specs.declared.asking.Wanted.{Wanted}
use Rattle.peers.specs.declared.asking.Wanted.TheVariants as wanted
use Rattle.peers.specs.declared.send.SendEnd.{SendEnd}
use Rattle.peers.specs.declared.send.SendEnd.TheVariants.{Done, Read, Write, Script, Refused, Unfinished}
use Rattle.peers.specs.Outputs.{Counts, all_counts}
use Rattle.peers.specs.Payloads.{IsPayload, IsFaulty, TakesAtMost}
use Rattle.peers.specs.Replies.{Sends as SendsMessage}
use Rattle.peers.specs.Sending.{Turn, Skipped, Acked, Wait, Last, Answers, IsUnanswered, IsUnfinished, AskEnds, MessageEnds, LineEnds, EndsBy, AreTurns, data_frame, ack_line, lines, looks_of, sendings, printings, hello_frame, Sending, Ungreeted, Greeted, Sends, all_looks, all_sent, all_printed}
use Rattle.peers.proofs.Awaited.{rose_earlier}
use Rattle.peers.proofs.Hearing.{over_earlier}

-- ---- counts that rose since a later moment ----

unanswered_earlier : (session : ℕ) (w : Wanted) (wait : Wait) (left a b now : ℕ) → a ≤ b → IsUnanswered session w wait left b now → IsUnanswered session w wait left a now
unanswered_earlier session w wait left a b now le u = record {
  passed = u.passed;
  ends = elim u.ends [
    | inl over ↦ inl (over_earlier wait.looks wait.passed a b now le over)
    | inr used ↦ inr used
  ];
}

pub unfinished_earlier : (session : ℕ) (ask : Frame) (w : Wanted) (wait : Wait) (left : ℕ) (sent : List ℕ) (a b now : ℕ) → a ≤ b → IsUnfinished session ask w wait left sent b now → IsUnfinished session ask w wait left sent a now
unfinished_earlier session ask w wait left sent a b now le (inl (none, prefix, rose)) = inl (none, prefix, rose_earlier a b now le rose)
unfinished_earlier session ask w wait left sent a b now le (inr (u, whole)) = inr (unanswered_earlier session w wait left a b now le u, whole)

pub message_earlier : (f : Frame) (last : Last) (a b now_link c d now_out x y z w : ℕ) (end : SendEnd) → a ≤ b → c ≤ d → MessageEnds f last (all_counts b now_link d now_out x y) end → MessageEnds f last (all_counts a now_link c now_out z w) end
message_earlier f last a b now_link c d now_out x y z w Write low out_low (ack, answer, sent, prefix, rose) = (ack, answer, sent, prefix, rose_earlier c d now_out out_low rose)
message_earlier f last a b now_link c d now_out x y z w (Refused code of) low out_low ends = ends
message_earlier f last a b now_link c d now_out x y z w (Unfinished of) low out_low (u, none, is) = (unfinished_earlier f.session f (wanted.Ack f.number) last.wait last.left last.sent a b now_link low u, none, is)
message_earlier f last a b now_link c d now_out x y z w Done low out_low ends = absurd ends
message_earlier f last a b now_link c d now_out x y z w Read low out_low ends = absurd ends
message_earlier f last a b now_link c d now_out x y z w (Script line) low out_low ends = absurd ends

pub line_earlier : (session first number : ℕ) (rest : Option (List ℕ)) (last : Last) (a b now_link c now_out x y : ℕ) (end : SendEnd) → a ≤ b
    → EndsBy session first number rest last (all_counts b now_link c now_out x y) end → EndsBy session first number rest last (all_counts a now_link c now_out x y) end
line_earlier session first number rest last a b now_link c now_out x y Done low ends = ends
line_earlier session first number rest last a b now_link c now_out x y Read low ends = ends
line_earlier session first number rest last a b now_link c now_out x y (Script line) low ends = ends
line_earlier session first number rest last a b now_link c now_out x y Write low e = record {
  below = e.below;
  few = e.few;
  payload = e.payload;
  line = e.line;
  is = e.is;
  after = e.after;
  comes = e.comes;
  ends = message_earlier (data_frame session number e.payload) last a b now_link c c now_out x y x y Write low (omega arith) e.ends;
}
line_earlier session first number rest last a b now_link c now_out x y (Refused code of) low e = record {
  below = e.below;
  few = e.few;
  payload = e.payload;
  line = e.line;
  is = e.is;
  after = e.after;
  comes = e.comes;
  ends = message_earlier (data_frame session number e.payload) last a b now_link c c now_out x y x y (Refused code of) low (omega arith) e.ends;
}
line_earlier session first number rest last a b now_link c now_out x y (Unfinished of) low e = record {
  below = e.below;
  few = e.few;
  payload = e.payload;
  line = e.line;
  is = e.is;
  after = e.after;
  comes = e.comes;
  ends = message_earlier (data_frame session number e.payload) last a b now_link c c now_out x y x y (Unfinished of) low (omega arith) e.ends;
}

-- ---- turns ----

pub record SoFar (session first most left number : ℕ) (g g1 : List Looked → Type 0) (s s1 : List ℕ → Type 0) (all rest w w1 : Option (List ℕ)) : Type 0 where
  pub turns : List Turn
  pub count : number ≡ length turns
  pub are : AreTurns session first turns
  pub used : most ≡ left + length (looks_of turns)
  pub gave : Draws g g1 (looks_of turns)
  pub did_send : Grows s s1 (sendings session turns)
  pub read : Consumes all rest (lines turns)
  pub did_print : Appends w w1 (printings turns)

-- what the lines of one call did and told
abbrev pub Told : ℕ → ℕ → ℕ → (List Looked → Type 0) → (List Looked → Type 0) → (List ℕ → Type 0) → (List ℕ → Type 0) → Option (List ℕ) → Option (List ℕ) → Option (List ℕ) → Option (List ℕ) → Counts → SendEnd → Type 0
Told session first most g g' s s' all to w w' n end = (turns : List Turn) × (last : Last) × (rest : Option (List ℕ)) × AreTurns session first turns × (length turns < 2 ^ 32)
    × (most ≡ last.left + length (looks_of turns ++ last.wait.looks)) × Consumes all rest (lines turns) × TakesAtMost 6145 rest to
    × EndsBy session first (length turns) rest last n end
    × Draws g g' (looks_of turns ++ last.wait.looks) × Grows s s' (sendings session turns ++ last.sent) × Appends w w' (printings turns ++ last.printed)

abbrev pub idle : ℕ → Last
idle left = record { wait = record { looks = []; passed = [] }; left = left; sent = []; printed = [] }

module _ (session first most left number : ℕ) (g g1 : List Looked → Type 0) (s s1 : List ℕ → Type 0) (all rest w w1 : Option (List ℕ)) (was : SoFar session first most left number g g1 s s1 all rest w w1) (to : Option (List ℕ)) (fits : number < 2 ^ 32) (ahead : TakesAtMost 6145 rest to) where
  idle_ends : (n : Counts) (end : SendEnd) → EndsBy session first (length was.turns) rest (idle left) n end → Told session first most g g1 s s1 all to w w1 n end
  idle_ends n end ends =
      let none : looks_of was.turns ++ [] ≡ looks_of was.turns = append-nil (looks_of was.turns) in (
        was.turns,
        idle left,
        rest,
        was.are,
        omega (arith, fits, was.count),
        was.used ∙ ap (λ (l : List Looked). left + length l) (sym none),
        was.read,
        ahead,
        ends,
        subst (Draws g g1) (sym none) was.gave,
        subst (Grows s s1) (sym (append-nil (sendings session was.turns))) was.did_send,
        subst (Appends w w1) (sym (append-nil (printings was.turns))) was.did_print,
      )

  pub done_ends : (n : Counts) → IsAtEnd rest → Told session first most g g1 s s1 all to w w1 n Done
  done_ends n at_end = idle_ends n Done (record { looks = refl; sent = refl; printed = refl }, at_end)

  pub read_ends : (n : Counts) → Rose n.other n.now_other → Told session first most g g1 s s1 all to w w1 n Read
  read_ends n rose = idle_ends n Read (record { looks = refl; sent = refl; printed = refl }, rose)

  pub script_ends : (n : Counts) (line : ℕ) → line ≡ min (number + 1) 4294967295 → IfSome rest IsFaulty ⊎ ((number ≡ 4294967295) × IfSome rest IsSome) → Told session first most g g1 s s1 all to w w1 n (Script line)
  script_ends n line is why = idle_ends n (Script line) (
    record { looks = refl; sent = refl; printed = refl },
    is ∙ ap (λ k. min (k + 1) 4294967295) was.count,
    subst (λ k. IfSome rest IsFaulty ⊎ ((k ≡ 4294967295) × IfSome rest IsSome)) was.count why,
  )

  -- a line whose number is below WELCOME's
  pub skip : (payload line : List ℕ) (after : Option (List ℕ)) → length was.turns < first → IsPayload payload line → Consumes rest after (line ++ 10 ∷ []) → SoFar session first most left (number + 1) g g1 s s1 all after w w1
  skip payload line after below is comes = record {
    turns = Skipped payload line ∷ was.turns;
    count = omega (arith, was.count);
    are = ((below, is), was.are);
    used = was.used ∙ ap (λ (l : List Looked). left + length l) (sym (append-nil (looks_of was.turns)));
    gave = subst (Draws g g1) (sym (append-nil (looks_of was.turns))) was.gave;
    did_send = subst (Grows s s1) (sym (append-nil (sendings session was.turns))) was.did_send;
    read = Consumes-trans all rest after (lines was.turns) (line ++ 10 ∷ []) was.read comes;
    did_print = subst (Appends w w1) (sym (append-nil (printings was.turns))) was.did_print;
  }

  module _ (payload line : List ℕ) (after : Option (List ℕ)) (f : Frame) (frame_is : f ≡ data_frame session (length was.turns) payload) (low : first ≤ length was.turns) (few : number < 2 ^ 32 - 1) (is : IsPayload payload line) (comes : Consumes rest after (line ++ 10 ∷ []))
      (left' : ℕ) (g2 : List Looked → Type 0) (s2 : List ℕ → Type 0) (w2 : Option (List ℕ)) (last : Last) (left_is : last.left ≡ left') (used : left ≡ left' + length last.wait.looks)
      (gave : Draws g1 g2 last.wait.looks) (sends : Grows s1 s2 last.sent) (prints : Appends w1 w2 last.printed) where
    -- one that was acknowledged
    pub acked : (n : Counts) → SendsMessage f last n None → SoFar session first most left' (number + 1) g g2 s s2 all after w w2
    acked n (ack, answer, sent, printed) =
        let number_is : f.number ≡ length was.turns = ap (λ (x : Frame). x.number) frame_is in
        let here : Answers session (wanted.Ack (length was.turns)) last.wait ack = subst (λ (x : Frame). Answers x.session (wanted.Ack x.number) last.wait ack) frame_is answer in
        record {
          turns = Acked payload line last.wait ack ∷ was.turns;
          count = omega (arith, was.count);
          are = ((low, is, here), was.are);
          used = omega (arith, was.used, used, length-append (looks_of was.turns) last.wait.looks);
          gave = Draws-then g g1 g2 (looks_of was.turns) last.wait.looks was.gave gave;
          did_send = Grows-then s s1 s2 (sendings session was.turns) (spelling (data_frame session (length was.turns) payload)) was.did_send (subst (Grows s1 s2) (sent ∙ ap spelling frame_is) sends);
          read = Consumes-trans all rest after (lines was.turns) (line ++ 10 ∷ []) was.read comes;
          did_print = Appends-trans w w1 w2 (printings was.turns) (ack_line (length was.turns)) was.did_print (subst (Appends w1 w2) (printed ∙ ap ack_line number_is) prints);
        }

    told : (n : Counts) (end : SendEnd) → EndsBy session first (length was.turns) rest last n end → Told session first most g g2 s s2 all to w w2 n end
    told n end ends = (
      was.turns,
      last,
      rest,
      was.are,
      omega (arith, fits, was.count),
      omega (arith, was.used, used, left_is, length-append (looks_of was.turns) last.wait.looks),
      was.read,
      ahead,
      ends,
      Draws-then g g1 g2 (looks_of was.turns) last.wait.looks was.gave gave,
      Grows-then s s1 s2 (sendings session was.turns) last.sent was.did_send sends,
      Appends-trans w w1 w2 (printings was.turns) last.printed was.did_print prints,
    )

    line_ends : (n : Counts) (end : SendEnd) → MessageEnds f last n end → LineEnds session first (length was.turns) rest last n end
    line_ends n end ends = record { below = low; few = omega (arith, few, was.count); payload = payload; line = line; is = is; after = after; comes = comes; ends = subst (λ (x : Frame). MessageEnds x last n end) frame_is ends }

    -- one that ended the call
    pub message_ends : (n : Counts) (end : SendEnd) → MessageEnds f last n end → Told session first most g g2 s s2 all to w w2 n end
    message_ends n Write ends = told n Write (line_ends n Write ends)
    message_ends n (Refused code of) ends = told n (Refused code of) (line_ends n (Refused code of) ends)
    message_ends n (Unfinished of) ends = told n (Unfinished of) (line_ends n (Unfinished of) ends)
    message_ends n Done ends = absurd ends
    message_ends n Read ends = absurd ends
    message_ends n (Script line) ends = absurd ends

pub consumes_start : (a : Option (List ℕ)) (held : List ℕ) → held ≡ [] → Consumes a (prepend_known held a) []
consumes_start None held none = tt
consumes_start (Some xs) held none = sym (ap (λ (l : List ℕ). l ++ xs) none)

pub comes_some : (rest after : Option (List ℕ)) (line : List ℕ) → Consumes rest after (line ++ 10 ∷ []) → IfSome rest IsSome
comes_some None after line c = tt
comes_some (Some xs) None line c = absurd c
comes_some (Some xs) (Some ys) line c = λ none. let l = ap length (sym none ∙ c) in absurd (omega (arith, l, length-append (line ++ 10 ∷ []) ys, length-append line (10 ∷ [])))

-- ---- the whole call ----

-- what one call did and told
abbrev pub Sent : SessionRow → ℕ → (List Looked → Type 0) → (List Looked → Type 0) → (List ℕ → Type 0) → (List ℕ → Type 0) → Option (List ℕ) → Option (List ℕ) → Option (List ℕ) → Option (List ℕ) → Counts → SendEnd → Type 0
Sent row most g g' s s' all to w w' n end = (x : Sending) × Sends row most all to x n end × Draws g g' (all_looks x) × Grows s s' (all_sent row x) × Appends w w' (all_printed x)

pub ungreeted : (row : SessionRow) (most : ℕ) (g g1 : List Looked → Type 0) (s s1 : List ℕ → Type 0) (all w : Option (List ℕ)) (hello : Frame) (n : Counts) (end : SendEnd) (last : Last) → hello ≡ hello_frame row
    → AskEnds hello.session hello wanted.Welcome 0 last n end → last.printed ≡ [] → most ≡ last.left + length last.wait.looks → Draws g g1 last.wait.looks → Grows s s1 last.sent → Sent row most g g1 s s1 all all w w n end
ungreeted row most g g1 s s1 all w hello n end last is ends none used gave sends = (
  Ungreeted last,
  (subst (λ (f : Frame). AskEnds f.session f wanted.Welcome 0 last n end) is ends, used, ([], Consumes-nil all, omega arith)),
  gave,
  sends,
  subst (Appends w w) (sym none) (Appends-nil w),
)

pub greeted : (row : SessionRow) (most mid : ℕ) (g g1 g2 : List Looked → Type 0) (s s1 s2 : List ℕ → Type 0) (all to w w' : Option (List ℕ)) (hello welcome : Frame) (wait : Wait) (first : ℕ) (sent : List ℕ)
    (a b now_link out now_out other now_other : ℕ) (end : SendEnd) → hello ≡ hello_frame row → Answers hello.session wanted.Welcome wait welcome → first ≡ welcome.number → sent ≡ spelling hello
    → most ≡ mid + length wait.looks → Draws g g1 wait.looks → Grows s s1 sent → a ≤ b → Told row.id first mid g1 g2 s1 s2 all to w w' (all_counts b now_link out now_out other now_other) end
    → Sent row most g g2 s s2 all to w w' (all_counts a now_link out now_out other now_other) end
greeted row most mid g g1 g2 s s1 s2 all to w w' hello welcome wait first sent a b now_link out now_out other now_other end is answers first_is sent_is used gave sends low (turns, last, rest, are, few, more_used, read, ahead, ends, more_gave, more_sends, prints) = (
  Greeted wait welcome turns last,
  (
    subst (λ (f : Frame). Answers f.session wanted.Welcome wait welcome) is answers,
    subst (λ k. AreTurns row.id k turns) first_is are,
    few,
    omega (arith, used, more_used, length-append wait.looks (looks_of turns ++ last.wait.looks)),
    rest,
    read,
    ahead,
    subst (λ k. EndsBy row.id k (length turns) rest last (all_counts a now_link out now_out other now_other) end) first_is (line_earlier row.id first (length turns) rest last a b now_link out now_out other now_other end low ends),
  ),
  Draws-then g g1 g2 wait.looks (looks_of turns ++ last.wait.looks) gave more_gave,
  Grows-then s s1 s2 (spelling (hello_frame row)) (sendings row.id turns ++ last.sent) (subst (Grows s s1) (sent_is ∙ ap spelling is) sends) more_sends,
  prints,
)

takes_all : (a : Option (List ℕ)) (held : List ℕ) → Consumes (prepend_known held a) a held
takes_all None held = tt
takes_all (Some xs) held = refl

-- what was read ahead
pub read_ahead : (rest to : Option (List ℕ)) (held : List ℕ) → TakesAtMost 2049 rest (prepend_known held to) → length held ≤ 4096 → TakesAtMost 6145 rest to
read_ahead rest to held (taken, c, few) short = (taken ++ held, Consumes-trans rest (prepend_known held to) to taken held c (takes_all to held), omega (arith, few, short, length-append taken held))
