-- However the low life of a session is cut, it ends with as many messages as the session has accepted.
use Rattle.std.proofs.Common.{◌≡◌, ℕ, ◌+◌, Bool, true, false, List, [], ◌∷◌, length, refl, sym, ap, ◌∙◌, subst, length-append, arith}
use Rattle.std.specs.Prelude.{if◌then◌else◌}
use Rattle.pump_frame.specs.declared.frame.Frame.{Frame}
use Rattle.pump_frame.specs.declared.payload.Payload.{Payload}
use Rattle.pump_frame.specs.declared.row.SessionRow.{SessionRow}
use Rattle.pump_core.specs.Exchanges.{is_gone, is_repeat, is_next, is_passed, Waiting, Over, Part, Holding, Release, Empty, Leaving, Answer, Repeated, Offering, Dropped, Delivery, Loss, count_after, greeted_after, is_left, IsCut}
use Rattle.pump_core.specs.History.{Arrival, Look, Opening, History, looked}
use Rattle.pump_core.specs.History.{Nothing, Came, Bad, Gone}
use Rattle.pump_core.specs.Replies.{stores}
use Rattle.pump_core.proofs.Cuts.{begun, begun_held, following, grow, cut_of, is_released, is_the_cut, one_cut}
use Rattle.script_reader.specs.declared.event.Event.{Event as Printed}
use Rattle.script_reader.specs.declared.line.Line.{Line}
use Rattle.script_reader.specs.declared.line.Line.TheVariants as lines
use Rattle.script_reader.specs.Lows.{IsLook}
use Rattle.script_reader.specs.Past.{Past}
use Rattle.script_reader.specs.Steps.{joined, lost, LineStep}
use Rattle.script_reader.proofs.LowAlike.{Half}
use Rattle.script_reader.proofs.LowAside.{step_aside}
use Rattle.two_worlds.proofs.Low.Grows.{look_grows, payloads}
use Rattle.pump_chain.proofs.Linking.{CountsAccepted}

-- ---- a cut that grows by a look ----

module _ (row : SessionRow) (o : Opening) (x : Look) where
  -- the parts have a message more than so many where the look stored one
  abbrev Rises : List Part → Arrival → ℕ → Type 0
  Rises parts a n = count_after o parts ≡ n + length (payloads (stores parts) a)

  by_tests : (f : Frame) (before : List Part) (b c d : Bool) → Rises ((if b then Repeated x (Waiting []) else if c then (if d then Loss x [] else Offering x []) else Answer x) ∷ before) (Came f) (count_after o before)
  by_tests f before true c d = omega arith
  by_tests f before false true true = omega arith
  by_tests f before false true false = omega arith
  by_tests f before false false d = omega arith

  begun_rises : (g : Bool) (a : Arrival) (before : List Part) → Rises (begun row (count_after o before) g x a ∷ before) a (count_after o before)
  begun_rises g Nothing before = omega arith
  begun_rises g Gone before = omega arith
  begun_rises g Bad before = omega arith
  begun_rises g (Came f) before = by_tests f before (is_repeat row (count_after o before) g f) (is_next row (count_after o before) g f) x.is_fault

  held_rises : (b : Bool) (ys : List Look) (a : Arrival) (before : List Part) → Rises ((if b then Release ys x else Holding x ys) ∷ before) a (count_after o before)
  held_rises true ys a before = omega arith
  held_rises false ys a before = omega arith

  either_rises : (b : Bool) (before : List Part) → Rises ((if b then begun_held x else begun row (count_after o before) (greeted_after row before) x x.arrival) ∷ before) x.arrival (count_after o before)
  either_rises true before = held_rises (is_released x.feedback) [] x.arrival before
  either_rises false before = begun_rises (greeted_after row before) x.arrival before

  new_rises : (before : List Part) → Rises (following row o before x) x.arrival (count_after o before)
  new_rises before = either_rises (is_left o before) before

  offered_rises : (first : Look) (full : List Look) (gone passed : Bool) (before : List Part)
      → Rises ((if gone then Dropped first full x else if passed then Delivery first full x (Waiting []) else Offering first (x ∷ full)) ∷ before) x.arrival (count_after o before + 1)
  offered_rises first full true passed before = omega arith
  offered_rises first full false true before = omega arith
  offered_rises first full false false before = omega arith

  grow_rises : (parts : List Part) → Rises (grow row o parts x) x.arrival (count_after o parts)
  grow_rises [] = new_rises []
  grow_rises (Holding y ys ∷ before) = held_rises (is_released x.feedback) (y ∷ ys) x.arrival before
  grow_rises (Release ys last ∷ before) = new_rises (Release ys last ∷ before)
  grow_rises (Empty y ∷ before) = new_rises (Empty y ∷ before)
  grow_rises (Leaving y ∷ before) = new_rises (Leaving y ∷ before)
  grow_rises (Answer y ∷ before) = new_rises (Answer y ∷ before)
  grow_rises (Repeated first (Waiting quiet) ∷ before) = omega arith
  grow_rises (Repeated first (Over quiet last) ∷ before) = new_rises (Repeated first (Over quiet last) ∷ before)
  grow_rises (Offering first full ∷ before) = offered_rises first full (is_gone x.arrival) (is_passed x.feedback) before
  grow_rises (Dropped first full gone ∷ before) = new_rises (Dropped first full gone ∷ before)
  grow_rises (Delivery first full y (Waiting quiet) ∷ before) = omega arith
  grow_rises (Delivery first full y (Over quiet last) ∷ before) = new_rises (Delivery first full y (Over quiet last) ∷ before)
  grow_rises (Loss first rest ∷ before) = omega arith

  -- in any cut of the looks with the new one
  cut_rises : (looks : List Look) (before after : List Part) → IsCut row (record { opening = o; looks = looks }) before → IsCut row (record { opening = o; looks = x ∷ looks }) after → Rises after x.arrival (count_after o before)
  cut_rises looks before after cut cut_with =
      let same : grow row o before x ≡ after =
      ap (λ (c : List Part). grow row o c x) (sym (is_the_cut row o before cut.are_parts) ∙ ap (cut_of row o) (sym cut.looks))
      ∙ ap (cut_of row o) cut_with.looks
      ∙ is_the_cut row o after cut_with.are_parts in
      subst (λ (parts : List Part). Rises parts x.arrival (count_after o before)) same (grow_rises before)

-- ---- a line ----

look_counts : (row : SessionRow) (p : Past) (x : Look) (q : Past) (printed : List Printed) → IsLook row p x q printed → CountsAccepted row p → CountsAccepted row q
look_counts row p x q printed i counts = subst (λ (h : History). (parts : List Part) → IsCut row h.life parts → count_after h.life.opening parts ≡ length q.world.accepted) (sym i.history) by
  where
    by : (parts : List Part) → IsCut row (looked p.history x).life parts → count_after p.history.life.opening parts ≡ length q.world.accepted
    by parts cut =
        let o = p.history.life.opening in
        let same : parts ≡ i.after = one_cut row (looked p.history x).life parts i.after cut i.cut_with in
        let more = length-append p.world.accepted (payloads (stores i.after) x.arrival) in
        let grown = ap (λ (l : List Payload). length l) (look_grows x.feedback (stores i.after) x.arrival i.new p.world q.world i.world).accepted in
        let rises = cut_rises row o x p.history.life.looks i.before i.after i.cut i.cut_with in
        let was = counts i.before i.cut in
        ap (count_after o) same ∙ omega (arith, more, grown, rises, was)

-- a life that is new has but one cut
pub new_counts : (row : SessionRow) (p : Past) → p.history.life.looks ≡ [] → p.history.life.opening.count ≡ length p.world.accepted → CountsAccepted row p
new_counts row p none is parts cut =
    ap (count_after p.history.life.opening) (one_cut row p.history.life parts [] cut (record { are_parts = tt; looks = none })) ∙ is

abbrev Counts : SessionRow → Half → Type 0
Counts row h = (parts : List Part) → IsCut row h.history.life parts → count_after h.history.life.opening parts ≡ h.accepted

pub line_counts : (row : SessionRow) (p : Past) (line : Line) (q : Past) (printed : List Printed) → LineStep row p line q printed → CountsAccepted row p → CountsAccepted row q
line_counts row p lines.Skip q printed h counts = absurd h
line_counts row p (lines.Session other) q printed h counts = absurd h
line_counts row p (lines.LowSession other next held) q printed h counts = absurd h
line_counts row p (lines.Coarse session) q printed h counts = absurd h
line_counts row p (lines.Told session m w fault told a) q printed h counts = absurd h
line_counts row p (lines.Step session m w) q printed h counts = absurd h
line_counts row p (lines.Look session m w a) q printed (c, comes, (few, (f, i))) counts = look_counts row (joined p c) _ q printed i counts
line_counts row p (lines.Gone session m) q printed (f, i) counts = look_counts row (lost p) _ q printed i counts
line_counts row p (lines.Restart session m) q printed (h, e, f) counts = new_counts row q (ap (λ (x : Past). x.history.life.looks) e) (ap (λ (x : Past). x.history.life.opening.count) e)
line_counts row p (lines.High session m) q printed h counts = subst (Counts row) (step_aside row p (lines.High session m) q printed refl h).half counts
line_counts row p (lines.Carry session back) q printed h counts = subst (Counts row) (step_aside row p (lines.Carry session back) q printed refl h).half counts
line_counts row p (lines.Return session m back) q printed h counts = subst (Counts row) (step_aside row p (lines.Return session m back) q printed refl h).half counts
line_counts row p (lines.Done session m t) q printed h counts = subst (Counts row) (step_aside row p (lines.Done session m t) q printed refl h).half counts
line_counts row p (lines.ReceiverRestart session m) q printed h counts = subst (Counts row) (step_aside row p (lines.ReceiverRestart session m) q printed refl h).half counts
