-- Looks and a script admit one end of a sender's call.
use Rattle.std.proofs.Common.{◌≡◌, ◌⊎◌, inl, inr, ℕ, zero, suc, ◌+◌, ◌-◌, ◌^◌, ◌<◌, ◌≤◌, Bool, true, false, ◌&&◌, ◌==◌, min, List, [], ◌∷◌, ◌++◌, length, slice_index, Option, Some, None, IfSome, refl, sym, ap, ◌∙◌, subst, append_assoc, append-nil, arith, length-append}
use Rattle.std.specs.Io.KnownBytes.{Consumes, IsAtEnd}
use Rattle.std.proofs.lemmas.List.{append_cancel_left}
use Rattle.pump_frame.specs.declared.frame.Frame.{Frame}
use Rattle.pump_frame.specs.declared.frame.Kind.{Kind}
use Rattle.pump_frame.specs.declared.frame.Kind.TheVariants.{Hello, Welcome, Data, Ack, Refuse, Attach, Taken}
use Rattle.pump_frame.specs.declared.row.SessionRow.{SessionRow}
use Rattle.pump_frame.specs.Spellings.{spelling}
use Rattle.pump_link.specs.declared.link.Looked.{Looked}
use Rattle.script_reader.specs.Grammar.{IsHex}
use Rattle.script_reader.specs.Parsing.{hex}
use Rattle.script_reader.specs.Lines.{IsSome}
use Rattle.script_reader.proofs.FieldLaws.{hex_again}
use Rattle.script_reader.proofs.LineEnds.{one_prefix}
use Rattle.peers.specs.declared.asking.Wanted.{Wanted}
use Rattle.peers.specs.declared.asking.Wanted.TheVariants as wanted
use Rattle.peers.specs.declared.send.SendEnd.{SendEnd}
use Rattle.peers.specs.declared.send.SendEnd.TheVariants.{Done, Read, Write, Script, Refused, Unfinished}
use Rattle.peers.specs.Looks.{HearsJust}
use Rattle.peers.specs.Laws.{IsCalmCall, ArePrefixes}
use Rattle.peers.specs.Outputs.{Counts}
use Rattle.peers.specs.Payloads.{IsPayload, IsFaulty}
use Rattle.peers.specs.Sending.{Turn, Skipped, Acked, Wait, Last as LastPart, Answers, AskEnds, EndsBy, IsTurn, AreTurns, IsPassed, ArePassed, is_wanted, is_refusal, is_welcome, is_ack, is_refuse, data_frame, line_of, sent_in, printed_in, lines, looks_of, sendings, printings, hello_frame, Sending, Ungreeted, Greeted, Sends, all_looks, all_sent, all_printed}
use Rattle.peers.proofs.Hearing.{hears_none, just_join, hears_join, ends_join, bad_join}
use Rattle.peers.proofs.Comparing.{Tail, Used, Ends, Bad, Last, Stop, Heard, all_of, IsStop, Compared, AreSame, FirstStops, SecondStops, compared}

-- ---- one wait ----

-- a frame cannot be awaited and refuse
both_kinds : (k : Kind) → is_welcome k ≡ true → is_refuse k ≡ true → ⊥
both_kinds Refuse a b = cc
both_kinds Hello a b = cc
both_kinds Welcome a b = cc
both_kinds Data a b = cc
both_kinds Ack a b = cc
both_kinds Attach a b = cc
both_kinds Taken a b = cc

both_acks : (k : Kind) → is_ack k ≡ true → is_refuse k ≡ true → ⊥
both_acks Refuse a b = cc
both_acks Hello a b = cc
both_acks Welcome a b = cc
both_acks Data a b = cc
both_acks Ack a b = cc
both_acks Attach a b = cc
both_acks Taken a b = cc

right_of : (a b : Bool) → a && b ≡ true → b ≡ true
right_of true b e = e
right_of false b e = cc

left_of : (a b : Bool) → a && b ≡ true → a ≡ true
left_of true b e = refl
left_of false b e = cc

no_both : (session : ℕ) (w : Wanted) (f : Frame) → is_wanted session w f ≡ true → is_refusal session f ≡ true → ⊥
no_both session wanted.Welcome f a b = both_kinds f.kind (right_of (f.session == session) (is_welcome f.kind) a) (right_of (f.session == session) (is_refuse f.kind) b)
no_both session (wanted.Ack n) f a b =
    both_acks f.kind (left_of (is_ack f.kind) (f.number == n) (right_of (f.session == session) (is_ack f.kind && f.number == n) a)) (right_of (f.session == session) (is_refuse f.kind) b)

-- the frame ends a wait
abbrev pub Halts : ℕ → Wanted → Frame → Type 0
Halts session w f = (is_wanted session w f ≡ true) ⊎ (is_refusal session f ≡ true)

no_pass : (session : ℕ) (w : Wanted) (f : Frame) → Halts session w f → IsPassed session w f → ⊥
no_pass session w f (inl a) (b, c) = cc
no_pass session w f (inr a) (b, c) = cc

wait_one : (session : ℕ) (w : Wanted) (ps qs : List Frame) (f g : Frame) (r s : List Frame) → ArePassed session w ps → ArePassed session w qs → Halts session w f → Halts session w g
    → ps ++ f ∷ r ≡ qs ++ g ∷ s → (ps ≡ qs) × (f ≡ g) × (r ≡ s)
wait_one session w [] [] f g r s a b h k e = (refl, cc, cc)
wait_one session w [] (q ∷ qs) f g r s a b h k e = let same : q ≡ f = cc in absurd (no_pass session w f h (subst (IsPassed session w) same b.0))
wait_one session w (p ∷ ps) [] f g r s a b h k e = let same : p ≡ g = cc in absurd (no_pass session w g k (subst (IsPassed session w) same a.0))
wait_one session w (p ∷ ps) (q ∷ qs) f g r s a b h k e =
    let t = wait_one session w ps qs f g r s a.1 b.1 h k cc in
    (cc, t.1, t.2)

none_halts : (session : ℕ) (w : Wanted) (ps qs : List Frame) (g : Frame) (s : List Frame) → ArePassed session w ps → ArePassed session w qs → Halts session w g → ps ≡ qs ++ g ∷ s → ⊥
none_halts session w [] [] g s a b k e = cc
none_halts session w [] (q ∷ qs) g s a b k e = cc
none_halts session w (p ∷ ps) [] g s a b k e = let same : p ≡ g = cc in no_pass session w g k (subst (IsPassed session w) same a.0)
none_halts session w (p ∷ ps) (q ∷ qs) g s a b k e = none_halts session w ps qs g s a.1 b.1 k cc

-- ---- an ask that was not answered ----

abbrev pub AskSays : ℕ → ℕ → Tail → SendEnd → Type 0
AskSays session number (Last f) end = (is_refusal session f ≡ true) × (end ≡ Refused (slice_index f.payload 0) f.number)
AskSays session number Stop end = ⊥
AskSays session number _ end = end ≡ Unfinished number

pub record AskNormal (session : ℕ) (ask : Frame) (w : Wanted) (number : ℕ) (last : LastPart) (end : SendEnd) : Type 0 where
  pub tail : Tail
  pub passed : ArePassed session w last.wait.passed
  pub heard : (most : ℕ) (xs : List Looked) (fs : List Frame) → HearsJust xs fs → most ≡ last.left + length (xs ++ last.wait.looks) → Heard most (xs ++ last.wait.looks) (fs ++ last.wait.passed) tail
  pub says : AskSays session number tail end
  pub sent : last.sent ≡ spelling ask
  pub printed : last.printed ≡ []

ask_normal : (session : ℕ) (ask : Frame) (w : Wanted) (number : ℕ) (last : LastPart) (n : Counts) (end : SendEnd) → IsCalmCall n → AskEnds session ask w number last n end → AskNormal session ask w number last end
ask_normal session ask w number last n (Refused code of) calm (r, sent, printed) = record {
  tail = Last r.frame;
  passed = r.passed;
  heard = λ most xs fs h used.
      subst (λ (l : List Frame). HearsJust (xs ++ last.wait.looks) l) (sym (append_assoc fs last.wait.passed (r.frame ∷ []))) (just_join xs last.wait.looks fs (last.wait.passed ++ r.frame ∷ []) h r.heard);
  says = (r.refusal, ap (λ k. Refused k of) r.code_is ∙ ap (λ k. Refused (slice_index r.frame.payload 0) k) r.number_is);
  sent = sent;
  printed = printed;
}
ask_normal session ask w number last n (Unfinished of) calm (inl (none, prefix, rose), printed, is) = absurd (calm.link rose)
ask_normal session ask w number last n (Unfinished of) calm (inr (u, sent), printed, is) = elim u.ends [
  | inl (inl bad) ↦ record { tail = Bad; passed = u.passed; heard = λ most xs fs h used. bad_join xs last.wait.looks fs last.wait.passed h bad; says = ap Unfinished is; sent = sent; printed = printed }
  | inl (inr (inl ended)) ↦ record { tail = Ends; passed = u.passed; heard = λ most xs fs h used. ends_join xs last.wait.looks fs last.wait.passed _ h ended; says = ap Unfinished is; sent = sent; printed = printed }
  | inl (inr (inr (at, rose))) ↦ absurd (calm.link rose)
  | inr (hears, none) ↦ record {
    tail = Used;
    passed = u.passed;
    heard = λ most xs fs h used. (hears_join xs last.wait.looks fs last.wait.passed h hears, omega (arith, used, none));
    says = ap Unfinished is;
    sent = sent;
    printed = printed;
  }
]
ask_normal session ask w number last n Done calm e = absurd e
ask_normal session ask w number last n Read calm e = absurd e
ask_normal session ask w number last n Write calm e = absurd e
ask_normal session ask w number last n (Script line) calm e = absurd e

-- two comparisons of frames, without the looks
pub data Agree (fs gs : List Frame) (t u : Tail) : Type 0 where
  Same : fs ≡ gs → t ≡ u → Agree fs gs t u
  FirstEnds : IsStop t → (later : List Frame) → all_of gs u ≡ all_of fs t ++ later → Agree fs gs t u
  SecondEnds : IsStop u → (later : List Frame) → all_of fs t ≡ all_of gs u ++ later → Agree fs gs t u

without_looks : (la lb : List Looked) (fs gs : List Frame) (t u : Tail) → Compared la lb fs gs t u → Agree fs gs t u
without_looks la lb fs gs t u (AreSame a b c) = Same b c
without_looks la lb fs gs t u (FirstStops s l e) = FirstEnds s l e
without_looks la lb fs gs t u (SecondStops s l e) = SecondEnds s l e

back : (fs gs : List Frame) (t u : Tail) → Agree fs gs t u → Agree gs fs u t
back fs gs t u (Same a b) = Same (sym a) (sym b)
back fs gs t u (FirstEnds s l e) = SecondEnds s l e
back fs gs t u (SecondEnds s l e) = FirstEnds s l e

all_behind : (pre fs : List Frame) (t : Tail) → all_of (pre ++ fs) t ≡ pre ++ all_of fs t
all_behind pre fs (Last f) = append_assoc pre fs (f ∷ [])
all_behind pre fs Used = refl
all_behind pre fs Ends = refl
all_behind pre fs Bad = refl
all_behind pre fs Stop = refl

cancel : (pre fs gs : List Frame) (t u : Tail) → Agree (pre ++ fs) (pre ++ gs) t u → Agree fs gs t u
cancel pre fs gs t u (Same a b) = Same (append_cancel_left pre fs gs a) b
cancel pre fs gs t u (FirstEnds s l e) =
    FirstEnds s l (append_cancel_left pre (all_of gs u) (all_of fs t ++ l) (sym (all_behind pre gs u) ∙ e ∙ ap (λ (x : List Frame). x ++ l) (all_behind pre fs t) ∙ append_assoc pre (all_of fs t) l))
cancel pre fs gs t u (SecondEnds s l e) =
    SecondEnds s l (append_cancel_left pre (all_of fs t) (all_of gs u ++ l) (sym (all_behind pre fs t) ∙ e ∙ ap (λ (x : List Frame). x ++ l) (all_behind pre gs u) ∙ append_assoc pre (all_of gs u) l))

-- both are prefixes of one list of frames
meet : (fs gs : List Frame) (t u : Tail) → Agree fs gs t u → (r : List Frame) × (s : List Frame) × (all_of fs t ++ r ≡ all_of gs u ++ s)
meet fs gs t u (Same a b) = ([], [], ap (λ (l : List Frame). l ++ []) (ap (λ (l : List Frame). all_of l t) a ∙ ap (λ (v : Tail). all_of gs v) b))
meet fs gs t u (FirstEnds st l e) = (l, [], sym e ∙ sym (append-nil (all_of gs u)))
meet fs gs t u (SecondEnds st l e) = ([], l, append-nil (all_of fs t) ∙ e)

all_more : (qs : List Frame) (c : Frame) (more : List Frame) (u : Tail) → (rest : List Frame) × (all_of (qs ++ c ∷ more) u ≡ qs ++ c ∷ rest)
all_more qs c more (Last g) = (more ++ g ∷ [], append_assoc qs (c ∷ more) (g ∷ []))
all_more qs c more Used = (more, refl)
all_more qs c more Ends = (more, refl)
all_more qs c more Bad = (more, refl)
all_more qs c more Stop = (more, refl)

-- a wait that was not answered, beside one that was
clash : (session number : ℕ) (w : Wanted) (ps qs : List Frame) (c : Frame) (more : List Frame) (t u : Tail) (end : SendEnd) → ArePassed session w ps → AskSays session number t end → ArePassed session w qs → is_wanted session w c ≡ true
    → Agree ps (qs ++ c ∷ more) t u → ⊥
clash session number w ps qs c more t u end a says b wants (Same e f) = none_halts session w ps qs c more a b (inl wants) e
clash session number w ps qs c more (Last f) u end a says b wants (FirstEnds s l e) =
    let rest = all_more qs c more u in
    let o = wait_one session w ps qs f c l rest.0 a b (inr says.0) (inl wants) (sym (append_assoc ps (f ∷ []) l) ∙ sym e ∙ rest.1) in
    no_both session w c wants (subst (λ (x : Frame). is_refusal session x ≡ true) o.1 says.0)
clash session number w ps qs c more Used u end a says b wants (FirstEnds s l e) = absurd s
clash session number w ps qs c more Ends u end a says b wants (FirstEnds s l e) = absurd s
clash session number w ps qs c more Bad u end a says b wants (FirstEnds s l e) = absurd s
clash session number w ps qs c more Stop u end a says b wants (FirstEnds s l e) = absurd says
clash session number w ps qs c more (Last f) u end a says b wants (SecondEnds s l e) =
    let rest = all_more qs c more u in
    let o = wait_one session w ps qs f c [] (rest.0 ++ l) a b (inr says.0) (inl wants) (e ∙ ap (λ (x : List Frame). x ++ l) rest.1 ∙ append_assoc qs (c ∷ rest.0) l) in
    no_both session w c wants (subst (λ (x : Frame). is_refusal session x ≡ true) o.1 says.0)
clash session number w ps qs c more Stop u end a says b wants (SecondEnds s l e) = absurd says
clash session number w ps qs c more Used u end a says b wants (SecondEnds s l e) = let rest = all_more qs c more u in none_halts session w ps qs c (rest.0 ++ l) a b (inl wants) (e ∙ ap (λ (x : List Frame). x ++ l) rest.1 ∙ append_assoc qs (c ∷ rest.0) l)
clash session number w ps qs c more Ends u end a says b wants (SecondEnds s l e) = let rest = all_more qs c more u in none_halts session w ps qs c (rest.0 ++ l) a b (inl wants) (e ∙ ap (λ (x : List Frame). x ++ l) rest.1 ∙ append_assoc qs (c ∷ rest.0) l)
clash session number w ps qs c more Bad u end a says b wants (SecondEnds s l e) = let rest = all_more qs c more u in none_halts session w ps qs c (rest.0 ++ l) a b (inl wants) (e ∙ ap (λ (x : List Frame). x ++ l) rest.1 ∙ append_assoc qs (c ∷ rest.0) l)

says_same : (session number : ℕ) (t : Tail) (end other : SendEnd) → AskSays session number t end → AskSays session number t other → end ≡ other
says_same session number (Last f) end other a b = a.1 ∙ sym b.1
says_same session number Used end other a b = a ∙ sym b
says_same session number Ends end other a b = a ∙ sym b
says_same session number Bad end other a b = a ∙ sym b
says_same session number Stop end other a b = absurd a

first_asks : (session number : ℕ) (w : Wanted) (ps qs : List Frame) (t u : Tail) (later : List Frame) (end other : SendEnd) → ArePassed session w ps → ArePassed session w qs → IsStop t
    → AskSays session number t end → AskSays session number u other → all_of qs u ≡ all_of ps t ++ later → end ≡ other
first_asks session number w ps qs (Last f) (Last g) later end other a b stops says says' e =
    let o = wait_one session w qs ps g f [] later b a (inr says'.0) (inr says.0) (e ∙ append_assoc ps (f ∷ []) later) in
    says_same session number (Last f) end other says (subst (λ (x : Frame). AskSays session number (Last x) other) o.1 says')
first_asks session number w ps qs (Last f) Used later end other a b stops says says' e = absurd (none_halts session w qs ps f later b a (inr says.0) (e ∙ append_assoc ps (f ∷ []) later))
first_asks session number w ps qs (Last f) Ends later end other a b stops says says' e = absurd (none_halts session w qs ps f later b a (inr says.0) (e ∙ append_assoc ps (f ∷ []) later))
first_asks session number w ps qs (Last f) Bad later end other a b stops says says' e = absurd (none_halts session w qs ps f later b a (inr says.0) (e ∙ append_assoc ps (f ∷ []) later))
first_asks session number w ps qs (Last f) Stop later end other a b stops says says' e = absurd says'
first_asks session number w ps qs Stop u later end other a b stops says says' e = absurd says
first_asks session number w ps qs Used u later end other a b stops says says' e = absurd stops
first_asks session number w ps qs Ends u later end other a b stops says says' e = absurd stops
first_asks session number w ps qs Bad u later end other a b stops says says' e = absurd stops

-- two waits that were not answered end alike
asks_one : (session number : ℕ) (w : Wanted) (ps qs : List Frame) (t u : Tail) (end other : SendEnd) → ArePassed session w ps → ArePassed session w qs → AskSays session number t end → AskSays session number u other
    → Agree ps qs t u → end ≡ other
asks_one session number w ps qs t u end other a b says says' (Same e f) = says_same session number u end other (subst (λ (v : Tail). AskSays session number v end) f says) says'
asks_one session number w ps qs t u end other a b says says' (FirstEnds s l e) = first_asks session number w ps qs t u l end other a b s says says' e
asks_one session number w ps qs t u end other a b says says' (SecondEnds s l e) = sym (first_asks session number w qs ps u t l other end b a s says' says e)

-- ---- turns ----

abbrev pub frames_in : Turn → List Frame
frames_in (Skipped payload line) = []
frames_in (Acked payload line wait ack) = wait.passed ++ ack ∷ []

abbrev pub frames_of : List Turn → List Frame
frames_of [] = []
frames_of (t ∷ past) = frames_of past ++ frames_in t

turns_heard : (session first : ℕ) (turns : List Turn) → AreTurns session first turns → HearsJust (looks_of turns) (frames_of turns)
turns_heard session first [] are = hears_none
turns_heard session first (Skipped payload line ∷ past) are = just_join (looks_of past) [] (frames_of past) [] (turns_heard session first past are.1) hears_none
turns_heard session first (Acked payload line wait ack ∷ past) are = just_join (looks_of past) wait.looks (frames_of past) (wait.passed ++ ack ∷ []) (turns_heard session first past are.1) are.0.2.heard

payload_one : (payload other line line' : List ℕ) → IsPayload payload line → IsPayload other line' → line ≡ line' → payload ≡ other
payload_one payload other line line' a b e =
    let x : hex line ≡ Some payload = hex_again line payload a.hex in
    let y : hex line ≡ Some other = hex_again line other (subst (IsHex other) (sym e) b.hex) in
    let both : Some payload ≡ Some other = sym x ∙ y in cc

pub record SamePair (session n : ℕ) (t u : Turn) (fa fb : List Frame) : Type 0 where
  pub frames : frames_in t ≡ frames_in u
  pub later : fa ≡ fb
  pub sent : sent_in session n t ≡ sent_in session n u
  pub printed : printed_in n t ≡ printed_in n u

one_pair : (session first n : ℕ) (t u : Turn) (fa fb : List Frame) → IsTurn session first n t → IsTurn session first n u → line_of t ≡ line_of u → frames_in t ++ fa ≡ frames_in u ++ fb → SamePair session n t u fa fb
one_pair session first n (Skipped p l) (Skipped q k) fa fb a b same e = record { frames = refl; later = e; sent = refl; printed = refl }
one_pair session first n (Skipped p l) (Acked q k wait ack) fa fb a b same e = absurd (omega (arith, a.0, b.0))
one_pair session first n (Acked p l wait ack) (Skipped q k) fa fb a b same e = absurd (omega (arith, a.0, b.0))
one_pair session first n (Acked p l wait ack) (Acked q k wait' ack') fa fb a b same e =
    let o = wait_one session (wanted.Ack n) wait.passed wait'.passed ack ack' fa fb a.2.passed b.2.passed (inl a.2.is_it) (inl b.2.is_it)
    (sym (append_assoc wait.passed (ack ∷ []) fa) ∙ e ∙ append_assoc wait'.passed (ack' ∷ []) fb) in
    record {
      frames = ap (λ (x : List Frame). x ++ ack ∷ []) o.0 ∙ ap (λ (x : Frame). wait'.passed ++ x ∷ []) o.1;
      later = o.2;
      sent = ap (λ (x : List ℕ). spelling (data_frame session n x)) (payload_one p q l k a.1 b.1 same);
      printed = refl;
    }

pub record SameTurns (session : ℕ) (a b : List Turn) (ra rb : List ℕ) (fa fb : List Frame) : Type 0 where
  pub rest : ra ≡ rb
  pub later : fa ≡ fb
  pub frames : frames_of a ≡ frames_of b
  pub sent : sendings session a ≡ sendings session b
  pub printed : printings a ≡ printings b

line_unended : (session first n : ℕ) (t : Turn) → IsTurn session first n t → (payload : List ℕ) × IsPayload payload (line_of t)
line_unended session first n (Skipped payload line) is = (payload, is.1)
line_unended session first n (Acked payload line wait ack) is = (payload, is.1)

same_turns : (session first : ℕ) (a b : List Turn) (ra rb : List ℕ) (fa fb : List Frame) → AreTurns session first a → AreTurns session first b → length a ≡ length b
    → lines a ++ ra ≡ lines b ++ rb → frames_of a ++ fa ≡ frames_of b ++ fb → SameTurns session a b ra rb fa fb
same_turns session first [] [] ra rb fa fb x y n e f = record { rest = e; later = f; frames = refl; sent = refl; printed = refl }
same_turns session first [] (u ∷ b) ra rb fa fb x y n e f = absurd (omega (arith, n))
same_turns session first (t ∷ a) [] ra rb fa fb x y n e f = absurd (omega (arith, n))
same_turns session first (t ∷ a) (u ∷ b) ra rb fa fb x y n e f =
    let m : length a ≡ length b = omega (arith, n) in
    let past = same_turns session first a b ((line_of t ++ 10 ∷ []) ++ ra) ((line_of u ++ 10 ∷ []) ++ rb) (frames_in t ++ fa) (frames_in u ++ fb) x.1 y.1 m
    (sym (append_assoc (lines a) (line_of t ++ 10 ∷ []) ra) ∙ e ∙ append_assoc (lines b) (line_of u ++ 10 ∷ []) rb)
    (sym (append_assoc (frames_of a) (frames_in t) fa) ∙ f ∙ append_assoc (frames_of b) (frames_in u) fb) in
    let p = line_unended session first (length a) t x.0 in
    let q = line_unended session first (length b) u y.0 in
    let l = one_prefix (line_of t) (line_of u) ra rb p.1.unended q.1.unended (sym (append_assoc (line_of t) (10 ∷ []) ra) ∙ past.rest ∙ append_assoc (line_of u) (10 ∷ []) rb) in
    let here = one_pair session first (length a) t u fa fb x.0 (subst (λ k. IsTurn session first k u) (sym m) y.0) l.0 past.later in
    record {
      rest = l.1;
      later = here.later;
      frames = ap (λ (z : List Frame). z ++ frames_in t) past.frames ∙ ap (λ (z : List Frame). frames_of b ++ z) here.frames;
      sent = ap (λ (z : List ℕ). z ++ sent_in session (length a) t) past.sent ∙ ap (λ (z : List ℕ). sendings session b ++ z) here.sent ∙ ap (λ k. sendings session b ++ sent_in session k u) m;
      printed = ap (λ (z : List ℕ). z ++ printed_in (length a) t) past.printed ∙ ap (λ (z : List ℕ). printings b ++ z) here.printed ∙ ap (λ k. printings b ++ printed_in k u) m;
    }

-- the turn of this number, in a longer list of turns
pub record Beyond (session first : ℕ) (b : List Turn) (n : ℕ) : Type 0 where
  pub past : List Turn
  pub t : Turn
  pub are : AreTurns session first past
  pub is : IsTurn session first n t
  pub count : length past ≡ n
  pub more_lines : List ℕ
  pub lines_are : lines b ≡ lines past ++ ((line_of t ++ 10 ∷ []) ++ more_lines)
  pub more_frames : List Frame
  pub frames_are : frames_of b ≡ frames_of past ++ (frames_in t ++ more_frames)

last_or_before : (n k : ℕ) → n < suc k → (k ≡ n) ⊎ (n < k)
last_or_before zero zero low = inl refl
last_or_before zero (suc k) low = inr (omega arith)
last_or_before (suc n) zero low = absurd (omega (arith, low))
last_or_before (suc n) (suc k) low = elim (last_or_before n k (omega (arith, low))) [
  | inl e ↦ inl (ap suc e)
  | inr lower ↦ inr (omega (arith, lower))
]

extended : {A : Type 0} (all past here more x : List A) → all ≡ past ++ (here ++ more) → all ++ x ≡ past ++ (here ++ (more ++ x))
extended {A = A} all past here more x e =
    ap (λ (l : List A). l ++ x) e ∙ append_assoc past (here ++ more) x ∙ ap (λ (l : List A). past ++ l) (append_assoc here more x)

beyond : (session first : ℕ) (b : List Turn) (n : ℕ) → AreTurns session first b → n < length b → Beyond session first b n
beyond session first [] n are low = absurd (omega (arith, low))
beyond session first (u ∷ b) n are low = elim (last_or_before n (length b) (omega (arith, low))) [
  | inl e ↦ record {
    past = b;
    t = u;
    are = are.1;
    is = subst (λ k. IsTurn session first k u) e are.0;
    count = e;
    more_lines = [];
    lines_are = ap (λ (l : List ℕ). lines b ++ l) (sym (append-nil (line_of u ++ 10 ∷ [])));
    more_frames = [];
    frames_are = ap (λ (l : List Frame). frames_of b ++ l) (sym (append-nil (frames_in u)));
  }
  | inr lower ↦
      let r = beyond session first b n are.1 lower in
      record {
        past = r.past;
        t = r.t;
        are = r.are;
        is = r.is;
        count = r.count;
        more_lines = r.more_lines ++ (line_of u ++ 10 ∷ []);
        lines_are = extended (lines b) (lines r.past) (line_of r.t ++ 10 ∷ []) r.more_lines (line_of u ++ 10 ∷ []) r.lines_are;
        more_frames = r.more_frames ++ frames_in u;
        frames_are = extended (frames_of b) (frames_of r.past) (frames_in r.t) r.more_frames (frames_in u) r.frames_are;
      }
]

-- ---- the last part ----

pub data Why (session first number : ℕ) (rest : Option (List ℕ)) (last : LastPart) (end : SendEnd) : Type 0 where
  IsDone : last.wait.looks ≡ [] → last.sent ≡ [] → last.printed ≡ [] → IsAtEnd rest → end ≡ Done → Why session first number rest last end
  IsScript : last.wait.looks ≡ [] → last.sent ≡ [] → last.printed ≡ [] → IfSome rest IsFaulty ⊎ ((number ≡ 2 ^ 32 - 1) × IfSome rest IsSome) → end ≡ Script (min (number + 1) (2 ^ 32 - 1))
      → Why session first number rest last end
  IsAsked : first ≤ number → number < 2 ^ 32 - 1 → (payload line : List ℕ) → IsPayload payload line → (after : Option (List ℕ)) → Consumes rest after (line ++ 10 ∷ [])
      → AskNormal session (data_frame session number payload) (wanted.Ack number) number last end → Why session first number rest last end

cause_of : (session first number : ℕ) (rest : Option (List ℕ)) (last : LastPart) (n : Counts) (end : SendEnd) → IsCalmCall n → EndsBy session first number rest last n end → Why session first number rest last end
cause_of session first number rest last n Done calm (idle, at_end) = IsDone idle.looks idle.sent idle.printed at_end refl
cause_of session first number rest last n Read calm (idle, rose) = absurd (calm.other rose)
cause_of session first number rest last n (Script line) calm (idle, is, cause) = IsScript idle.looks idle.sent idle.printed cause (ap Script is)
cause_of session first number rest last n Write calm e = absurd (calm.out e.ends.4)
cause_of session first number rest last n (Refused code of) calm e =
    IsAsked e.below e.few e.payload e.line e.is e.after e.comes (ask_normal session (data_frame session number e.payload) (wanted.Ack number) number last n (Refused code of) calm e.ends)
cause_of session first number rest last n (Unfinished of) calm e =
    IsAsked e.below e.few e.payload e.line e.is e.after e.comes (ask_normal session (data_frame session number e.payload) (wanted.Ack number) number last n (Unfinished of) calm e.ends)

abbrev pub tail_of : {session first number : ℕ} {rest : Option (List ℕ)} {last : LastPart} {end : SendEnd} → Why session first number rest last end → Tail
tail_of (IsDone a b c d e) = Stop
tail_of (IsScript a b c d e) = Stop
tail_of (IsAsked a b c d e f g h) = h.tail

abbrev pub passed_of : {session first number : ℕ} {rest : Option (List ℕ)} {last : LastPart} {end : SendEnd} → Why session first number rest last end → List Frame
passed_of (IsDone a b c d e) = []
passed_of (IsScript a b c d e) = []
passed_of {last = last} (IsAsked a b c d e f g h) = last.wait.passed

idle_heard : (most : ℕ) (xs looks : List Looked) (fs : List Frame) → looks ≡ [] → HearsJust xs fs → Heard most (xs ++ looks) (fs ++ []) Stop
idle_heard most xs looks fs none h = subst (λ (l : List Looked). HearsJust (xs ++ l) (fs ++ [])) (sym none) (just_join xs [] fs [] h hears_none)

why_heard : (session first number : ℕ) (rest : Option (List ℕ)) (last : LastPart) (end : SendEnd) (w : Why session first number rest last end) (most : ℕ) (xs : List Looked) (fs : List Frame) → HearsJust xs fs
    → most ≡ last.left + length (xs ++ last.wait.looks) → Heard most (xs ++ last.wait.looks) (fs ++ passed_of w) (tail_of w)
why_heard session first number rest last end (IsDone a b c d e) most xs fs h used = idle_heard most xs last.wait.looks fs a h
why_heard session first number rest last end (IsScript a b c d e) most xs fs h used = idle_heard most xs last.wait.looks fs a h
why_heard session first number rest last end (IsAsked a b c d e f g k) most xs fs h used = k.heard most xs fs h used

begins : (script : List ℕ) (after : Option (List ℕ)) (line : List ℕ) → Consumes (Some script) after (line ++ 10 ∷ []) → (more : List ℕ) × (script ≡ line ++ 10 ∷ more)
begins script None line c = absurd c
begins script (Some ys) line c = (ys, c ∙ append_assoc line (10 ∷ []) ys)

not_none : (script line more : List ℕ) → script ≡ line ++ 10 ∷ more → script ≡ [] → ⊥
not_none script line more e none = let l = ap length (sym none ∙ e) in omega (arith, l, length-append line (10 ∷ more))

abbrev pub LastAlike : LastPart → LastPart → SendEnd → SendEnd → Type 0
LastAlike last other end end' = (end ≡ end') × (last.sent ≡ other.sent) × (last.printed ≡ other.printed)

script_not_asked : (number : ℕ) (script : List ℕ) (payload line more : List ℕ) → IsPayload payload line → number < 2 ^ 32 - 1 → script ≡ line ++ 10 ∷ more
    → IsFaulty script ⊎ ((number ≡ 2 ^ 32 - 1) × IsSome script) → ⊥
script_not_asked number script payload line more is few e (inl faulty) = faulty.bad payload line more is e
script_not_asked number script payload line more is few e (inr (limit, some)) = omega (arith, few, limit)

script_not_done : (number : ℕ) (script : List ℕ) → script ≡ [] → IsFaulty script ⊎ ((number ≡ 2 ^ 32 - 1) × IsSome script) → ⊥
script_not_done number script none (inl faulty) = faulty.some none
script_not_done number script none (inr (limit, some)) = some none

whys_one : (session first first' n m : ℕ) (script script' : List ℕ) (last last' : LastPart) (end other : SendEnd) (a : Why session first n (Some script) last end) (b : Why session first' m (Some script') last' other)
    → n ≡ m → script ≡ script' → Agree (passed_of a) (passed_of b) (tail_of a) (tail_of b) → LastAlike last last' end other
whys_one session first first' n m script script' last last' end other (IsDone a b c d e) (IsDone a' b' c' d' e') k s g = (e ∙ sym e', b ∙ sym b', c ∙ sym c')
whys_one session first first' n m script script' last last' end other (IsDone a b c d e) (IsScript a' b' c' d' e') k s g = absurd (script_not_done m script' (sym s ∙ d) d')
whys_one session first first' n m script script' last last' end other (IsDone a b c d e) (IsAsked lo few p l is after comes h) k s g =
    let at = begins script' after l comes in absurd (not_none script' l at.0 at.1 (sym s ∙ d))
whys_one session first first' n m script script' last last' end other (IsScript a b c d e) (IsDone a' b' c' d' e') k s g = absurd (script_not_done n script (s ∙ d') d)
whys_one session first first' n m script script' last last' end other (IsScript a b c d e) (IsScript a' b' c' d' e') k s g = (e ∙ ap (λ i. Script (min (i + 1) (2 ^ 32 - 1))) k ∙ sym e', b ∙ sym b', c ∙ sym c')
whys_one session first first' n m script script' last last' end other (IsScript a b c d e) (IsAsked lo few p l is after comes h) k s g =
    let at = begins script' after l comes in absurd (script_not_asked n script p l at.0 is (omega (arith, few, k)) (s ∙ at.1) d)
whys_one session first first' n m script script' last last' end other (IsAsked lo few p l is after comes h) (IsDone a' b' c' d' e') k s g =
    let at = begins script after l comes in absurd (not_none script l at.0 at.1 (s ∙ d'))
whys_one session first first' n m script script' last last' end other (IsAsked lo few p l is after comes h) (IsScript a' b' c' d' e') k s g =
    let at = begins script after l comes in absurd (script_not_asked m script' p l at.0 is (omega (arith, few, k)) (sym s ∙ at.1) d')
whys_one session first first' n m script script' last last' end other (IsAsked lo few p l is after comes h) (IsAsked lo' few' p' l' is' after' comes' h') k s g =
    let at = begins script after l comes in
    let at' = begins script' after' l' comes' in
    let same = one_prefix l l' at.0 at'.0 is.unended is'.unended (sym at.1 ∙ s ∙ at'.1) in
    let back_to : m ≡ n = sym k in (
      asks_one session n (wanted.Ack n) last.wait.passed last'.wait.passed h.tail h'.tail end other h.passed (subst (λ i. ArePassed session (wanted.Ack i) last'.wait.passed) back_to h'.passed) h.says
          (subst (λ i. AskSays session i h'.tail other) back_to h'.says) g,
      h.sent ∙ ap (λ i. spelling (data_frame session i p)) k ∙ ap (λ (x : List ℕ). spelling (data_frame session m x)) (payload_one p p' l l' is is' same.0) ∙ sym h'.sent,
      h.printed ∙ sym h'.printed,
    )

-- ---- a call that goes on ----

turn_clash : (session first first' n : ℕ) (ps more : List Frame) (t : Turn) (v u : Tail) (end : SendEnd) → first ≡ first' → first' ≤ n → ArePassed session (wanted.Ack n) ps → AskSays session n v end → IsTurn session first n t
    → Agree ps (frames_in t ++ more) v u → ⊥
turn_clash session first first' n ps more (Skipped payload line) v u end k low a says is g = omega (arith, k, low, is.0)
turn_clash session first first' n ps more (Acked payload line wait ack) v u end k low a says is g =
    clash session n (wanted.Ack n) ps wait.passed ack more v u end a says is.2.passed is.2.is_it (subst (λ (l : List Frame). Agree ps l v u) (append_assoc wait.passed (ack ∷ []) more) g)

-- the frames of both, from those of the turns on
from_turns : (pre pre' fs gs : List Frame) (t u : Tail) → Agree (pre ++ fs) (pre' ++ gs) t u → (r : List Frame) × (s : List Frame) × (pre ++ (all_of fs t ++ r) ≡ pre' ++ (all_of gs u ++ s))
from_turns pre pre' fs gs t u g =
    let m = meet (pre ++ fs) (pre' ++ gs) t u g in (
      m.0,
      m.1,
      sym (ap (λ (l : List Frame). l ++ m.0) (all_behind pre fs t) ∙ append_assoc pre (all_of fs t) m.0) ∙ m.2 ∙ ap (λ (l : List Frame). l ++ m.1) (all_behind pre' gs u) ∙ append_assoc pre' (all_of gs u) m.1,
    )

ends_first : (session first first' n : ℕ) (script : List ℕ) (last : LastPart) (end : SendEnd) (w : Why session first' n (Some script) last end) (t : Turn) (more : List Frame) (behind_line : List ℕ) (u : Tail) → first ≡ first' → n < 2 ^ 32 - 1
    → IsTurn session first n t → script ≡ line_of t ++ 10 ∷ behind_line → Agree (passed_of w) (frames_in t ++ more) (tail_of w) u → ⊥
ends_first session first first' n script last end (IsDone a b c d e) t more rest u k few is next g = not_none script (line_of t) rest next d
ends_first session first first' n script last end (IsScript a b c d e) t more rest u k few is next g =
    let p = line_unended session first n t is in script_not_asked n script p.0 (line_of t) rest p.1 few next d
ends_first session first first' n script last end (IsAsked lo limit p l of after comes h) t more rest u k few is next g =
    turn_clash session first first' n last.wait.passed more t h.tail u end k lo h.passed h.says is g

no_further : (session first first' : ℕ) (a b : List Turn) (script script' : List ℕ) (last : LastPart) (end : SendEnd) (qs : List Frame) (u : Tail) → first ≡ first' → AreTurns session first a → AreTurns session first b → length a < length b → length b < 2 ^ 32
    → lines a ++ script ≡ lines b ++ script' → (w : Why session first' (length a) (Some script) last end) → Agree (frames_of a ++ passed_of w) (frames_of b ++ qs) (tail_of w) u → ⊥
no_further session first first' a b script script' last end qs u k are are' low few same w g =
    let y = beyond session first b (length a) are' low in
    let l = line_of y.t in
    let m = from_turns (frames_of a) (frames_of b) (passed_of w) qs (tail_of w) u g in
    let st = same_turns session first a y.past script (((l ++ 10 ∷ []) ++ y.more_lines) ++ script') (all_of (passed_of w) (tail_of w) ++ m.0) ((frames_in y.t ++ y.more_frames) ++ (all_of qs u ++ m.1)) are y.are (sym y.count)
    (same ∙ ap (λ (x : List ℕ). x ++ script') y.lines_are ∙ append_assoc (lines y.past) ((l ++ 10 ∷ []) ++ y.more_lines) script')
    (m.2 ∙ ap (λ (x : List Frame). x ++ (all_of qs u ++ m.1)) y.frames_are ∙ append_assoc (frames_of y.past) (frames_in y.t ++ y.more_frames) (all_of qs u ++ m.1)) in
    let next : script ≡ l ++ 10 ∷ (y.more_lines ++ script') = st.rest ∙ append_assoc (l ++ 10 ∷ []) y.more_lines script' ∙ append_assoc l (10 ∷ []) (y.more_lines ++ script') in
    let frames_on : frames_of b ++ qs ≡ frames_of a ++ (frames_in y.t ++ (y.more_frames ++ qs)) =
    ap (λ (x : List Frame). x ++ qs) y.frames_are ∙ append_assoc (frames_of y.past) (frames_in y.t ++ y.more_frames) qs ∙ ap (λ (x : List Frame). x ++ ((frames_in y.t ++ y.more_frames) ++ qs)) (sym st.frames)
    ∙ ap (λ (x : List Frame). frames_of a ++ x) (append_assoc (frames_in y.t) y.more_frames qs) in
    ends_first session first first' (length a) script last end w y.t (y.more_frames ++ qs) (y.more_lines ++ script') u k (omega (arith, low, few)) y.is next
    (cancel (frames_of a) (passed_of w) (frames_in y.t ++ (y.more_frames ++ qs)) (tail_of w) u (subst (λ (x : List Frame). Agree (frames_of a ++ passed_of w) x (tail_of w) u) frames_on g))

-- ---- both calls ----

order : (n k : ℕ) → (n ≡ k) ⊎ ((n < k) ⊎ (k < n))
order zero zero = inl refl
order zero (suc k) = inr (inl (omega arith))
order (suc n) zero = inr (inr (omega arith))
order (suc n) (suc k) = elim (order n k) [
  | inl e ↦ inl (ap suc e)
  | inr (inl low) ↦ inr (inl (omega (arith, low)))
  | inr (inr high) ↦ inr (inr (omega (arith, high)))
]

abbrev pub LinesAlike : ℕ → List Turn → List Turn → LastPart → LastPart → SendEnd → SendEnd → Type 0
LinesAlike session a b last last' end other = (end ≡ other) × (sendings session a ++ last.sent ≡ sendings session b ++ last'.sent) × (printings a ++ last.printed ≡ printings b ++ last'.printed)

lines_one : (session first first' : ℕ) (a b : List Turn) (script script' : List ℕ) (last last' : LastPart) (end other : SendEnd) → first ≡ first' → AreTurns session first a → AreTurns session first b
    → length a < 2 ^ 32 → length b < 2 ^ 32 → lines a ++ script ≡ lines b ++ script' → (v : Why session first (length a) (Some script) last end) → (w : Why session first' (length b) (Some script') last' other)
    → Agree (frames_of a ++ passed_of v) (frames_of b ++ passed_of w) (tail_of v) (tail_of w) → LinesAlike session a b last last' end other
lines_one session first first' a b script script' last last' end other k are are' few few' same v w g =
    elim (order (length a) (length b)) [
      | inl e ↦
          let m = from_turns (frames_of a) (frames_of b) (passed_of v) (passed_of w) (tail_of v) (tail_of w) g in
          let st = same_turns session first a b script script' (all_of (passed_of v) (tail_of v) ++ m.0) (all_of (passed_of w) (tail_of w) ++ m.1) are are' e same m.2 in
          let here = cancel (frames_of b) (passed_of v) (passed_of w) (tail_of v) (tail_of w) (subst (λ (x : List Frame). Agree (x ++ passed_of v) (frames_of b ++ passed_of w) (tail_of v) (tail_of w)) st.frames g) in
          let o = whys_one session first first' (length a) (length b) script script' last last' end other v w e st.rest here in (
            o.0,
            ap (λ (x : List ℕ). x ++ last.sent) st.sent ∙ ap (λ (x : List ℕ). sendings session b ++ x) o.1,
            ap (λ (x : List ℕ). x ++ last.printed) st.printed ∙ ap (λ (x : List ℕ). printings b ++ x) o.2,
          )
      | inr (inl low) ↦ absurd (no_further session first first a b script script' last end (passed_of w) (tail_of w) refl are are' low few' same v g)
      | inr (inr high) ↦ absurd (no_further session first first' b a script' script last' other (passed_of v) (tail_of v) k are' are high few (sym same) w (back (frames_of a ++ passed_of v) (frames_of b ++ passed_of w) (tail_of v) (tail_of w) g))
    ]

-- a call that was greeted, whatever came of it
pub record Greeting (row : SessionRow) (most : ℕ) (script : List ℕ) (x : Sending) (end : SendEnd) : Type 0 where
  pub wait : Wait
  pub welcome : Frame
  pub turns : List Turn
  pub last : LastPart
  pub is : x ≡ Greeted wait welcome turns last
  pub answers : Answers row.id wanted.Welcome wait welcome
  pub are : AreTurns row.id welcome.number turns
  pub few : length turns < 2 ^ 32
  pub rest : List ℕ
  pub lines_are : script ≡ lines turns ++ rest
  pub why_is : Why row.id welcome.number (length turns) (Some rest) last end
  pub heard : Heard most (all_looks x) ((wait.passed ++ welcome ∷ []) ++ (frames_of turns ++ passed_of why_is)) (tail_of why_is)

rest_of : (script : List ℕ) (rest : Option (List ℕ)) (read : List ℕ) → Consumes (Some script) rest read → (more : List ℕ) × (rest ≡ Some more) × (script ≡ read ++ more)
rest_of script None read c = absurd c
rest_of script (Some more) read c = (more, refl, c)

greeting_of : (row : SessionRow) (most : ℕ) (script : List ℕ) (left : Option (List ℕ)) (wait : Wait) (welcome : Frame) (turns : List Turn) (last : LastPart) (n : Counts) (end : SendEnd) → IsCalmCall n
    → Sends row most (Some script) left (Greeted wait welcome turns last) n end → Greeting row most script (Greeted wait welcome turns last) end
greeting_of row most script left wait welcome turns last n end calm (answers, are, few, used, rest, read, ahead, ends) =
    let more = rest_of script rest (lines turns) read in
    let w = cause_of row.id welcome.number (length turns) (Some more.0) last n end calm (subst (λ (o : Option (List ℕ)). EndsBy row.id welcome.number (length turns) o last n end) more.1 ends) in
    let here = just_join wait.looks (looks_of turns) (wait.passed ++ welcome ∷ []) (frames_of turns) answers.heard (turns_heard row.id welcome.number turns are) in
    let shift = append_assoc wait.looks (looks_of turns) last.wait.looks in
    let h = why_heard row.id welcome.number (length turns) (Some more.0) last end w most (wait.looks ++ looks_of turns) ((wait.passed ++ welcome ∷ []) ++ frames_of turns) here
    (used ∙ ap (λ (l : List Looked). last.left + length l) (sym shift)) in
    record {
      wait = wait;
      welcome = welcome;
      turns = turns;
      last = last;
      is = refl;
      answers = answers;
      are = are;
      few = few;
      rest = more.0;
      lines_are = more.2;
      why_is = w;
      heard = subst (λ (l : List Looked). Heard most l ((wait.passed ++ welcome ∷ []) ++ (frames_of turns ++ passed_of w)) (tail_of w)) shift
          (subst (λ (l : List Frame). Heard most ((wait.looks ++ looks_of turns) ++ last.wait.looks) l (tail_of w)) (append_assoc (wait.passed ++ welcome ∷ []) (frames_of turns) (passed_of w)) h);
    }

abbrev pub AreOne : SessionRow → Sending → Sending → SendEnd → SendEnd → Type 0
AreOne row x y end other = (end ≡ other) × (all_sent row x ≡ all_sent row y) × (all_printed x ≡ all_printed y)

both_greeted : (row : SessionRow) (most : ℕ) (script : List ℕ) (x y : Sending) (end other : SendEnd) (a : Greeting row most script x end) (b : Greeting row most script y other)
    → Agree ((a.wait.passed ++ a.welcome ∷ []) ++ (frames_of a.turns ++ passed_of a.why_is)) ((b.wait.passed ++ b.welcome ∷ []) ++ (frames_of b.turns ++ passed_of b.why_is)) (tail_of a.why_is) (tail_of b.why_is)
    → AreOne row x y end other
both_greeted row most script x y end other a b g =
    let gx = frames_of a.turns ++ passed_of a.why_is in
    let gy = frames_of b.turns ++ passed_of b.why_is in
    let t = tail_of a.why_is in
    let u = tail_of b.why_is in
    let m = from_turns (a.wait.passed ++ a.welcome ∷ []) (b.wait.passed ++ b.welcome ∷ []) gx gy t u g in
    let o = wait_one row.id wanted.Welcome a.wait.passed b.wait.passed a.welcome b.welcome (all_of gx t ++ m.0) (all_of gy u ++ m.1) a.answers.passed b.answers.passed (inl a.answers.is_it) (inl b.answers.is_it)
    (sym (append_assoc a.wait.passed (a.welcome ∷ []) (all_of gx t ++ m.0)) ∙ m.2 ∙ append_assoc b.wait.passed (b.welcome ∷ []) (all_of gy u ++ m.1)) in
    let heads : a.wait.passed ++ a.welcome ∷ [] ≡ b.wait.passed ++ b.welcome ∷ [] = ap (λ (l : List Frame). l ++ a.welcome ∷ []) o.0 ∙ ap (λ (f : Frame). b.wait.passed ++ f ∷ []) o.1 in
    let first_is : a.welcome.number ≡ b.welcome.number = ap (λ (f : Frame). f.number) o.1 in
    let here = cancel (b.wait.passed ++ b.welcome ∷ []) gx gy t u (subst (λ (l : List Frame). Agree (l ++ gx) ((b.wait.passed ++ b.welcome ∷ []) ++ gy) t u) heads g) in
    let r = lines_one row.id a.welcome.number b.welcome.number a.turns b.turns a.rest b.rest a.last b.last end other first_is a.are (subst (λ k. AreTurns row.id k b.turns) (sym first_is) b.are) a.few b.few
    (sym a.lines_are ∙ b.lines_are) a.why_is b.why_is here in (
      r.0,
      ap (all_sent row) a.is ∙ ap (λ (l : List ℕ). spelling (hello_frame row) ++ l) r.1 ∙ sym (ap (all_sent row) b.is),
      ap all_printed a.is ∙ r.2 ∙ sym (ap all_printed b.is),
    )

not_greeted : (row : SessionRow) (most : ℕ) (script : List ℕ) (last : LastPart) (y : Sending) (end other : SendEnd) (a : AskNormal row.id (hello_frame row) wanted.Welcome 0 last end) (b : Greeting row most script y other)
    → Agree last.wait.passed ((b.wait.passed ++ b.welcome ∷ []) ++ (frames_of b.turns ++ passed_of b.why_is)) a.tail (tail_of b.why_is) → ⊥
not_greeted row most script last y end other a b g =
    let gy = frames_of b.turns ++ passed_of b.why_is in
    clash row.id 0 wanted.Welcome last.wait.passed b.wait.passed b.welcome gy a.tail (tail_of b.why_is) end a.passed a.says b.answers.passed b.answers.is_it
    (subst (λ (l : List Frame). Agree last.wait.passed l a.tail (tail_of b.why_is)) (append_assoc b.wait.passed (b.welcome ∷ []) gy) g)

fits : (most left n : ℕ) → most ≡ left + n → n ≤ most
fits most left n e = omega (arith, e)

pub one_sending : (row : SessionRow) (most : ℕ) (script : List ℕ) (left left' : Option (List ℕ)) (x y : Sending) (n k : Counts) (end other : SendEnd) → IsCalmCall n → IsCalmCall k
    → Sends row most (Some script) left x n end → Sends row most (Some script) left' y k other → ArePrefixes (all_looks x) (all_looks y) → AreOne row x y end other
one_sending row most script left left' (Ungreeted last) (Ungreeted last') n k end other calm calm' (ends, used, none) (ends', used', none') (r, s, e) =
    let a = ask_normal row.id (hello_frame row) wanted.Welcome 0 last n end calm ends in
    let b = ask_normal row.id (hello_frame row) wanted.Welcome 0 last' k other calm' ends' in
    let g = without_looks last.wait.looks last'.wait.looks last.wait.passed last'.wait.passed a.tail b.tail
    (compared most last.wait.looks last'.wait.looks r s last.wait.passed last'.wait.passed a.tail b.tail e (omega (arith, used)) (omega (arith, used')) (a.heard most [] [] hears_none used) (b.heard most [] [] hears_none used')) in (
      asks_one row.id 0 wanted.Welcome last.wait.passed last'.wait.passed a.tail b.tail end other a.passed b.passed a.says b.says g,
      a.sent ∙ sym b.sent,
      a.printed ∙ sym b.printed,
    )
one_sending row most script left left' (Ungreeted last) (Greeted wait welcome turns last') n k end other calm calm' (ends, used, none) sends (r, s, e) =
    let a = ask_normal row.id (hello_frame row) wanted.Welcome 0 last n end calm ends in
    let b = greeting_of row most script left' wait welcome turns last' k other calm' sends in
    absurd (not_greeted row most script last (Greeted wait welcome turns last') end other a b (without_looks last.wait.looks _ last.wait.passed _ a.tail (tail_of b.why_is)
    (compared most last.wait.looks _ r s last.wait.passed _ a.tail (tail_of b.why_is) e (omega (arith, used)) (fits most last'.left _ sends.3) (a.heard most [] [] hears_none used) b.heard)))
one_sending row most script left left' (Greeted wait welcome turns last') (Ungreeted last) n k end other calm calm' sends (ends, used, none) (r, s, e) =
    let a = ask_normal row.id (hello_frame row) wanted.Welcome 0 last k other calm' ends in
    let b = greeting_of row most script left wait welcome turns last' n end calm sends in
    absurd (not_greeted row most script last (Greeted wait welcome turns last') other end a b (back _ last.wait.passed (tail_of b.why_is) a.tail (without_looks _ last.wait.looks _ last.wait.passed (tail_of b.why_is) a.tail
    (compared most _ last.wait.looks r s _ last.wait.passed (tail_of b.why_is) a.tail e (fits most last'.left _ sends.3) (omega (arith, used)) b.heard (a.heard most [] [] hears_none used)))))
one_sending row most script left left' (Greeted wait welcome turns last) (Greeted wait' welcome' turns' last') n k end other calm calm' sends sends' (r, s, e) =
    let a = greeting_of row most script left wait welcome turns last n end calm sends in
    let b = greeting_of row most script left' wait' welcome' turns' last' k other calm' sends' in
    both_greeted row most script (Greeted wait welcome turns last) (Greeted wait' welcome' turns' last') end other a b (without_looks _ _ _ _ (tail_of a.why_is) (tail_of b.why_is)
    (compared most _ _ r s _ _ (tail_of a.why_is) (tail_of b.why_is) e (fits most last.left _ sends.3) (fits most last'.left _ sends'.3) a.heard b.heard))
