-- The lines by which a pump is emptied and a file is sent can be applied, and where they lead.
use Rattle.std.proofs.Common.{◌≡◌, inl, inr, ℕ, zero, suc, ◌+◌, ◌*◌, ◌^◌, ◌<◌, ◌≤◌, false, List, [], ◌∷◌, ◌++◌, length, Option, None, Err, sym, ap, ◌∙◌, subst, arith, append_assoc, append-nil}
use Rattle.std.specs.Prelude.{max}
use Rattle.disk_model.specs.Disk.{Meaning}
use Rattle.pump_frame.specs.declared.payload.Payload.{Payload}
use Rattle.pump_frame.specs.declared.row.SessionRow.{SessionRow}
use Rattle.script_reader.specs.declared.line.Line.{Line}
use Rattle.script_reader.specs.Past.{Past}
use Rattle.script_reader.specs.Steps.{IsRefusedWhole, LineStep}
use Rattle.script_reader.proofs.LineSteps.{LineApplies, greeting_applies, offer_applies, pass_applies, ack_applies, done_applies, turn_applies}
use Rattle.script_reader.proofs.LookSteps.{Stands, at_rest, idle, waiting}
use Rattle.script_reader.proofs.LineSteps.{since_opening}
use Rattle.two_worlds.specs.declared.applied.Stop.TheVariants as stops
use Rattle.two_worlds.specs.declared.pump.Pump.{Pump}
use Rattle.pump_wrapper.specs.Sending.{turn_lines, drain_lines, greeting, pause, message_lines, send_lines, LedBy, Follows}

-- ---- lines that can be applied ----

-- each of the lines can be applied, one after another, and where they lead, this holds
abbrev pub LinesApply : SessionRow → Past → List Line → (Past → Type 0) → Type 0
LinesApply row p [] After = After p
LinesApply row p (line ∷ later) After = LineApplies row p line (λ q. LinesApply row q later After)

pub lines_lead : (row : SessionRow) (p q : Past) (lines : List Line) (After : Past → Type 0) → LinesApply row p lines After → LedBy row p lines q → After q
lines_lead row p q [] After h e = subst After (sym e) h
lines_lead row p q (line ∷ later) After h (mid, printed, step, more) = lines_lead row mid q later After (h.after mid printed step) more

never_refused : (row : SessionRow) (p : Past) (line : Line) (After : Past → Type 0) → LineApplies row p line After → IsRefusedWhole row p line → ⊥
never_refused row p line After h (inl late) = cc (sym h.timely ∙ late)
never_refused row p line After h (inr crowded) = h.few crowded

-- so none of them is refused
pub lines_go : (row : SessionRow) (p mid : Past) (lines before later : List Line) (line : Line) (After : Past → Type 0) → LinesApply row p lines After
    → lines ≡ before ++ line ∷ later → LedBy row p before mid → IsRefusedWhole row mid line → ⊥
lines_go row p mid [] [] later line After h is led refused = absurd (cc is)
lines_go row p mid [] (b ∷ before) later line After h is led refused = absurd (cc is)
lines_go row p mid (x ∷ xs) [] later line After h is e refused =
    let same : x ≡ line = cc is in
    never_refused row p x _ h (subst (λ (l : Line). IsRefusedWhole row p l) (sym same) (subst (λ (y : Past). IsRefusedWhole row y line) e refused))
lines_go row p mid (x ∷ xs) (b ∷ before) later line After h is (next, printed, step, more) refused =
    let same : x ≡ b = cc is in
    let rest : xs ≡ before ++ line ∷ later = cc is in
    lines_go row next mid xs before later line After (h.after next printed (subst (λ (l : Line). LineStep row p l next printed) (sym same) step)) rest more refused

pub never_line : {D : Type 0} {g : _} (m : Meaning D) (t : Pump D g) (row : SessionRow) (p : Past) (lines : List Line) (After : Past → Type 0) → LinesApply row p lines After → Follows m t row p lines (Err stops.Line) → ⊥
never_line m t row p lines After h (before, line, later, mid, is, led, stopped) = lines_go row p mid lines before later line After h is led stopped.0

-- ---- a pump is emptied ----

-- so many messages are accepted and removed, and those accepted are as they were found
abbrev pub Emptying : SessionRow → ℕ → ℕ → ℕ → List Payload → Past → Type 0
Emptying row k r m accepted q = (low : Option ℕ) × Stands row q [] low k r m (since_opening low k) × (q.world.accepted ≡ accepted)

pub turn_empties : (row : SessionRow) (p : Past) (k r m0 m : ℕ) (accepted : List Payload) → Emptying row k r m0 accepted p → m0 ≤ m → r < k → m + 1 ≤ 2 ^ 62
    → LinesApply row p (turn_lines row m) (Emptying row k (r + 1) (m + 1) accepted)
turn_empties row p k r m0 m accepted (low, stands, is) le some end =
    let look = turn_applies row p low k r m0 m 0 stands le some in
    record {
      timely = look.timely;
      few = look.few;
      after = λ q printed step.
          let (mid, at, one, same) = look.after q printed step in
          let done = done_applies row q mid k r m m 1 (since_opening mid k) at (omega arith) one end in
          record {
            timely = done.timely;
            few = done.few;
            after = λ u out taken. (let d = done.after u out taken in (mid, d.0, d.1 ∙ same ∙ is));
          };
    }

-- one turn more
pub drain_more : (row : SessionRow) (n m : ℕ) → drain_lines row (suc n) m ≡ drain_lines row n m ++ turn_lines row (m + 2 * n)
drain_more row zero m = let e : m ≡ m + 2 * 0 = omega arith in ap (turn_lines row) e
drain_more row (suc n) m =
    let e : m + 2 + 2 * n ≡ m + 2 * suc n = omega arith in
    ap (λ (l : List Line). turn_lines row m ++ l) (drain_more row n (m + 2) ∙ ap (λ (k : ℕ). drain_lines row n (m + 2) ++ turn_lines row k) e)

-- ---- a message is sent ----

-- just these messages are accepted, and all are removed; the connection is greeted
abbrev pub Sent : SessionRow → ℕ → ℕ → List Payload → Past → Type 0
Sent row k m accepted q = Stands row q [] None k k m (idle k) × (q.world.accepted ≡ accepted)

pub greeting_sends : (row : SessionRow) (p : Past) (k m0 : ℕ) (accepted : List Payload) → Stands row p [] None k k m0 (at_rest false k) → m0 ≤ 0 → p.world.accepted ≡ accepted
    → LinesApply row p (greeting row ∷ []) (Sent row k 0 accepted)
greeting_sends row p k m0 accepted stands le is =
    let a = greeting_applies row p false k k m0 0 0 stands le in
    record {
      timely = a.timely;
      few = a.few;
      after = λ q printed step. (let d = a.after q printed step in (d.0, d.1.accepted ∙ append-nil p.world.accepted ∙ is));
    }

greater : (a b : ℕ) → b ≤ max a b
greater a b = omega arith

longer : (a b : ℕ) → a ≤ max a b
longer a b = omega arith

pub message_sends : (row : SessionRow) (p : Past) (k m0 m : ℕ) (accepted : List Payload) (message : Payload) → Sent row k m0 accepted p → m0 ≤ m → length message ≤ row.message → k < 2 ^ 48 → m + 1 ≤ 2 ^ 62
    → LinesApply row p (message_lines row k m message) (Sent row (k + 1) (m + pause row) (accepted ++ message ∷ []))
message_sends row p k m0 m accepted message (stands, is) le short few end =
    let stays = stands.rests.calm.stays in
    let offer = offer_applies row p k k m0 m 0 message stands le short few in
    record {
      timely = offer.timely;
      few = offer.few;
      after = λ a printed_a step_a.
          let (stands_a, adds_a) = offer.after a printed_a step_a in
          let pass = pass_applies row a k k m m 0 stands_a (omega arith) (omega (arith, stays.capacity, stays.lawful.bounded.size.0)) in
          record {
            timely = pass.timely;
            few = pass.few;
            after = λ b printed_b step_b.
                let (at, due, (stands_b, adds_b)) = pass.after b printed_b step_b in
                let done = done_applies row b None (k + 1) k m m 1 (waiting k at) stands_b (omega arith) (omega arith) end in
                record {
                  timely = done.timely;
                  few = done.few;
                  after = λ c printed_c step_c.
                      let (stands_c, same_c) = done.after c printed_c step_c in
                      let late = longer row.longest 1 in
                      let later = greater row.longest 1 in
                      let ack = ack_applies row c k (k + 1) (m + 1) (m + pause row) 0 at stands_c (omega (arith, due, late)) (omega (arith, later)) in
                      record {
                        timely = ack.timely;
                        few = ack.few;
                        after = λ q printed step.
                            let d = ack.after q printed step in
                            let all : q.world.accepted ≡ p.world.accepted ++ message ∷ [] =
                            d.1.accepted ∙ append-nil c.world.accepted ∙ same_c ∙ adds_b.accepted ∙ append-nil a.world.accepted ∙ adds_a.accepted in
                            (d.0, all ∙ ap (λ (l : List Payload). l ++ message ∷ []) is);
                      };
                };
          };
    }

-- one message more
pub send_more : (row : SessionRow) (k m : ℕ) (xs : List Payload) (x : Payload)
    → send_lines row k m (xs ++ x ∷ []) ≡ send_lines row k m xs ++ message_lines row (k + length xs) (m + length xs * pause row) x
send_more row k m [] x =
    let e : k ≡ k + 0 = omega arith in
    let f : m ≡ m + 0 * pause row = omega arith in
    append-nil (message_lines row k m x) ∙ (λ i. message_lines row (e i) (f i) x)
send_more row k m (y ∷ ys) x =
    let e : k + 1 + length ys ≡ k + length (y ∷ ys) = omega arith in
    let f : m + pause row + length ys * pause row ≡ m + length (y ∷ ys) * pause row = omega arith in
    ap (λ (l : List Line). message_lines row k m y ++ l) (send_more row (k + 1) (m + pause row) ys x ∙ (λ i. send_lines row (k + 1) (m + pause row) ys ++ message_lines row (e i) (f i) x))
    ∙ sym (append_assoc (message_lines row k m y) (send_lines row (k + 1) (m + pause row) ys) (message_lines row (k + length (y ∷ ys)) (m + length (y ∷ ys) * pause row) x))
