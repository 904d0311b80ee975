-- Where a race acknowledged all its messages, its life stored as many.
use Rattle.std.proofs.Common.{◌≡◌, ℕ, ◌+◌, ◌-◌, ◌^◌, ◌≤◌, Bool, true, false, List, [], ◌∷◌, ◌++◌, length, suc, Option, Some, None, refl, sym, ap, ◌∙◌, subst, append_assoc, append-nil, arith, length-append}
use Rattle.std.specs.Prelude.{if◌then◌else◌, ◌&&◌, ◌||◌, ◌==◌, not, nat_le, nat_lt, is_some, map}
use Rattle.std.proofs.lemmas.Bool.{ltb-true}
use Rattle.std.proofs.lemmas.List.{length-map}
use Rattle.pump_frame.specs.declared.frame.Frame.{Frame}
use Rattle.pump_frame.specs.declared.frame.Item.{Item}
use Rattle.pump_frame.specs.declared.row.SessionRow.{SessionRow}
use Rattle.pump_core.specs.Phases.{Phase}
use Rattle.pump_core.specs.Phases.{Idle, Passing, Waiting as Waits, Down}
use Rattle.pump_core.specs.History.{Arrival, Look}
use Rattle.pump_core.specs.History.{Nothing, Came, Bad, Gone}
use Rattle.pump_core.specs.Exchanges.{is_gone, is_hello, is_data, is_repeat, is_next, permits_frame, due, Part}
use Rattle.pump_core.specs.Replies.{refusal, welcome, acknowledgement, answer}
use Rattle.pump_core.specs.Standing.{State, end_of}
use Rattle.pump_core.specs.Step.{after_in, reply_at, reply_in, is_full, passed}
use Rattle.pump_core.proofs.Cuts.{one_cut}
use Rattle.script_reader.specs.Generated.{generated_row}
use Rattle.relay_threads.specs.Records.{Made, life_made, AreMade, is_recorded, record_of}
use Rattle.relay_threads.proofs.Kept.{thin_of, recorded_at}
use Rattle.race.specs.MadeLooks.{frame_in, frames_of, is_ack, acks_of}
use Rattle.race.specs.Messages.{race_items, race_opening, hello_frame, data_frame, race_frames}
use Rattle.race.specs.Turns.{done_in}
use Rattle.race.proofs.RaceItems.{items_count, next_of_race}
use Rattle.clean_records.proofs.Goes.{state, moves}

-- ---- the frames of a race ----

first_frame : List Frame → Frame
first_frame [] = hello_frame
first_frame (f ∷ fs) = f

rest_of : List Frame → List Frame
rest_of [] = []
rest_of (f ∷ fs) = fs

abbrev Split : List Frame → Frame → List Item → Type 0
Split gs f items = (xs : List Item) × (x : Item) × (ys : List Item) × (items ≡ xs ++ x ∷ ys) × (f ≡ data_frame x) × (length gs ≡ length xs)

split_at : (gs rest : List Frame) (f : Frame) (items : List Item) → gs ++ f ∷ rest ≡ map data_frame items → Split gs f items
unfolding first_frame rest_of
split_at [] rest f [] e = absurd (cc)
split_at [] rest f (x ∷ ys) e = ([], x, ys, refl, ap first_frame e, refl)
split_at (g ∷ gs) rest f [] e = absurd (cc)
split_at (g ∷ gs) rest f (y ∷ items) e =
    let k = split_at gs rest f items (ap rest_of e) in
    (y ∷ k.0, k.1, k.2, ap (λ z. y ∷ z) k.3, k.4, ap suc k.5)

-- a DATA stands behind the HELLO, and its number is how many DATA stand before it
data_at : (seed count : ℕ) (fs rest : List Frame) (f : Frame) → fs ++ f ∷ rest ≡ race_frames seed count → is_data f.kind ≡ true → f.number + 1 ≡ length fs
unfolding first_frame rest_of
data_at seed count [] rest f e is = let k = sym is ∙ ap (λ (g : Frame). is_data g.kind) (ap first_frame e) in absurd (cc)
data_at seed count (g ∷ gs) rest f e is =
    let k = split_at gs rest f (race_items seed count) (ap rest_of e) in
    let n = (next_of_race seed count k.0 k.1 k.2 (sym k.3)).number in
    let m : f.number ≡ k.1.number = ap (λ (h : Frame). h.number) k.4 in
    let l = k.5 in
    omega (arith, n, m, l)

-- ---- one look ----

-- a message that is stored and not yet acknowledged
abbrev owed_in : Phase → ℕ
owed_in Idle = 0
owed_in (Passing None) = 0
owed_in (Passing (Some n)) = 1
owed_in (Waits n at) = 1
owed_in Down = 0

abbrev mark : Bool → ℕ
mark b = if b then 1 else 0

-- so many frames came, and so many messages were acknowledged
pub record Counted (s : State) (frames acks : ℕ) : Type 0 where
  pub few : s.next ≤ frames - 1
  pub acked : acks + owed_in s.phase ≤ s.next

fit_data : (a b c d e : Bool) → (a && b && c && d) && e ≡ true → (a ≡ true) × (e ≡ true)
fit_data false b c d e h = absurd (cc)
fit_data true false c d e h = absurd (cc)
fit_data true true false d e h = absurd (cc)
fit_data true true true false e h = absurd (cc)
fit_data true true true true e h = (refl, h)

next_data : (a b c d e f : Bool) → (a && b && c && d) && e && f ≡ true → a ≡ true
next_data false b c d e f h = absurd (cc)
next_data true b c d e f h = refl

-- the count of what is owed in a phase that is told
owed_at : (s : State) (frames acks : ℕ) (p : Phase) → Counted s frames acks → s.phase ≡ p → acks + owed_in p ≤ s.next
owed_at s frames acks p was e = subst (λ (q : Phase). acks + owed_in q ≤ s.next) e was.acked

module _ (row : SessionRow) (s : State) (frames more acks : ℕ) (was : Counted s frames acks) where
  built : (t : State) (next owed done : ℕ) → t.next ≡ next → owed_in t.phase ≡ owed → next ≤ (frames + more) - 1 → acks + done + owed ≤ next → Counted t (frames + more) (acks + done)
  built t next owed done e f few acked = record {
    few = subst (λ (n : ℕ). n ≤ (frames + more) - 1) (sym e) few;
    acked = subst (λ (z : ℕ × ℕ). acks + done + z.0 ≤ z.1) (λ i. (sym f i, sym e i)) acked;
  }

  no_more : s.next ≤ (frames + more) - 1
  no_more = let a = was.few in omega (arith, a)

  -- nothing is stored or acknowledged, and no more is owed
  same_next : (t : State) (owed : ℕ) → t.next ≡ s.next → owed_in t.phase ≡ owed → acks + owed ≤ s.next → Counted t (frames + more) (acks + 0)
  same_next t owed e f le = built t s.next owed 0 e f no_more (omega (arith, le))

  stays : Counted s (frames + more) (acks + 0)
  stays = same_next s (owed_in s.phase) refl refl was.acked

  lost : (t : State) (owed : ℕ) → t.next ≡ s.next → owed_in t.phase ≡ 0 → acks + owed ≤ s.next → Counted t (frames + more) (acks + 0)
  lost t owed e f le = same_next t 0 e f (omega (arith, le))

  waited : (n at : ℕ) (gone late : Bool) → s.phase ≡ Waits n at
      → Counted (if gone then record { next = s.next; greeted = false; phase = Idle } else (if late then record s { phase = Idle } else s)) (frames + more) (acks + mark (is_ack (if gone then None else (if late then Some (acknowledgement row n) else None))))
  waited n at true late e = lost (record { next = s.next; greeted = false; phase = Idle }) 1 refl refl (owed_at s frames acks (Waits n at) was e)
  waited n at false true e = let k : acks + 1 ≤ s.next = owed_at s frames acks (Waits n at) was e in built (record s { phase = Idle }) s.next 0 1 refl refl no_more (omega (arith, k))
  waited n at false false e = stays

  passes_none : (x : Look) (gone full : Bool) → s.phase ≡ Passing None
      → Counted (if gone then record { next = s.next; greeted = false; phase = Passing None } else (if full then s else record s { phase = passed row x None })) (frames + more) (acks + 0)
  passes_none x true full e = same_next (record { next = s.next; greeted = false; phase = Passing None }) 0 refl refl (owed_at s frames acks (Passing None) was e)
  passes_none x false true e = stays
  passes_none x false false e = same_next (record s { phase = Idle }) 0 refl refl (owed_at s frames acks (Passing None) was e)

  passes_some : (n : ℕ) (x : Look) (gone full : Bool) → s.phase ≡ Passing (Some n)
      → Counted (if gone then record { next = s.next; greeted = false; phase = Passing None } else (if full then s else record s { phase = passed row x (Some n) })) (frames + more) (acks + 0)
  passes_some n x true full e = lost (record { next = s.next; greeted = false; phase = Passing None }) 1 refl refl (owed_at s frames acks (Passing (Some n)) was e)
  passes_some n x false true e = stays
  passes_some n x false false e = same_next (record s { phase = Waits n (due row x) }) 1 refl refl (owed_at s frames acks (Passing (Some n)) was e)

  answers_none : (hello permitted early long ahead : Bool) (n : ℕ) → is_ack (if hello then (if permitted then Some (welcome row n) else Some (refusal row 1 0)) else if early then Some (refusal row 2 0) else if long then Some (refusal row 3 0) else if ahead then Some (refusal row 4 n) else None) ≡ false
  answers_none true true early long ahead n = refl
  answers_none true false early long ahead n = refl
  answers_none false permitted true long ahead n = refl
  answers_none false permitted false true ahead n = refl
  answers_none false permitted false false true n = refl
  answers_none false permitted false false false n = refl

  -- a frame is taken: it is none that comes again, and the next one is a DATA behind the HELLO
  taken : (n at : ℕ) (again next d greeted : Bool) (r : Option Frame) → s.phase ≡ Idle → is_ack r ≡ false → (again ≡ true → ⊥) → (next ≡ true → s.next + 1 ≤ (frames + more) - 1)
      → Counted (if again then record s { phase = Waits n at } else if next then (if d then record s { phase = Down } else record { next = s.next + 1; greeted = s.greeted; phase = Passing (Some n) }) else record s { greeted = greeted }) (frames + more)
      (acks + mark (is_ack (if again then None else if next then (if d then Some (refusal row 5 0) else None) else r)))
  taken n at true next d greeted r e fine once room = absurd (once refl)
  taken n at false true true greeted r e fine once room = same_next (record s { phase = Down }) 0 refl refl (owed_at s frames acks Idle was e)
  taken n at false true false greeted r e fine once room =
      let k : acks + 0 ≤ s.next = owed_at s frames acks Idle was e in
      built (record { next = s.next + 1; greeted = s.greeted; phase = Passing (Some n) }) (s.next + 1) 1 0 refl refl (room refl) (omega (arith, k))
  taken n at false false d greeted r e fine once room =
      subst (λ (b : Bool). Counted (record s { greeted = greeted }) (frames + more) (acks + mark b)) (sym fine) (same_next (record s { greeted = greeted }) (owed_in s.phase) refl refl was.acked)

module _ (seed count : ℕ) (row : SessionRow) (s : State) (x : Look) (fs rest : List Frame) (acks : ℕ) (was : Counted s (length fs) acks) where
  abbrev Then : Arrival → State → Option Frame → Type 0
  Then a t r = Counted t (length fs + length (frame_in a)) (acks + mark (is_ack r))

  idle : (a : Arrival) → s.phase ≡ Idle → fs ++ (frame_in a ++ rest) ≡ race_frames seed count → Then a (Rattle.pump_core.specs.Step.after_idle row s x a) (Rattle.pump_core.specs.Step.reply_idle row s x a)
  idle Nothing e is = stays row s (length fs) 0 acks was
  idle Bad e is = same_next row s (length fs) 0 acks was (record s { greeted = false }) (owed_in s.phase) refl refl was.acked
  idle Gone e is = same_next row s (length fs) 0 acks was (record s { greeted = false }) (owed_in s.phase) refl refl was.acked
  idle (Came f) e is =
      taken row s (length fs) 1 acks was f.number (due row x) (is_repeat row s.next s.greeted f) (is_next row s.next s.greeted f) x.is_fault (if is_hello f.kind then permits_frame row f else s.greeted) (answer row s.next s.greeted (Came f)) e
      (answers_none row s (length fs) 1 acks was (is_hello f.kind) (permits_frame row f) (not (is_data f.kind) || not s.greeted || not (f.session == row.id)) (nat_lt row.message (length f.payload)) (nat_lt s.next f.number) s.next)
      (λ again.
      let p = fit_data (is_data f.kind) s.greeted (f.session == row.id) (nat_le (length f.payload) row.message) (nat_lt f.number s.next) again in
      let n = data_at seed count fs rest f is p.0 in
      let low = ltb-true f.number s.next p.1 in
      let few = was.few in
      omega (arith, n, low, few))
      (λ next.
      let n = data_at seed count fs rest f is (next_data (is_data f.kind) s.greeted (f.session == row.id) (nat_le (length f.payload) row.message) (f.number == s.next) (nat_lt s.next (2 ^ 48)) next) in
      let few = was.few in
      omega (arith, n, few))

  stepped : (p : Phase) → s.phase ≡ p → fs ++ (frame_in x.arrival ++ rest) ≡ race_frames seed count → Then x.arrival (after_in row s x p) (reply_in row s x p)
  stepped Down e is = stays row s (length fs) (length (frame_in x.arrival)) acks was
  stepped (Waits n at) e is = waited row s (length fs) (length (frame_in x.arrival)) acks was n at (is_gone x.arrival) (nat_le at x.moment) e
  stepped (Passing None) e is = passes_none row s (length fs) (length (frame_in x.arrival)) acks was x (is_gone x.arrival) (is_full x.feedback) e
  stepped (Passing (Some n)) e is = passes_some row s (length fs) (length (frame_in x.arrival)) acks was n x (is_gone x.arrival) (is_full x.feedback) e
  stepped Idle e is = idle x.arrival e is

-- ---- all looks ----

done_more : (b : Bool) (before : List Bool) → done_in (b ∷ before) ≡ done_in before + mark b
done_more true before = refl
done_more false before = let h : done_in before ≡ done_in before + 0 = omega arith in h

module _ (seed count : ℕ) where
  abbrev the_state : (made : List Made) → AreMade generated_row race_opening made → State
  the_state made are = state generated_row race_opening made are

  counting : (made : List Made) (are : AreMade generated_row race_opening made) (rest : List Frame) → frames_of made ++ rest ≡ race_frames seed count → Counted (the_state made are) (length (frames_of made)) (done_in (acks_of made))
  counting [] are rest is =
      let t = thin_of generated_row race_opening [] are in
      subst (λ (z : List Part). Counted (end_of generated_row race_opening z) 0 0) (one_cut generated_row (life_made race_opening []) [] t.parts (record { are_parts = tt; looks = refl }) t.cut)
      (record { few = (let a : 0 ≤ 0 - 1 = omega arith in a); acked = (let a : 0 + 0 ≤ 0 = omega arith in a) })
  counting (m ∷ before) are rest is =
      let is' : frames_of before ++ (frame_in m.look.arrival ++ rest) ≡ race_frames seed count = sym (append_assoc (frames_of before) (frame_in m.look.arrival) rest) ∙ is in
      let past = counting before are.1 (frame_in m.look.arrival ++ rest) is' in
      let v = moves generated_row race_opening m before are in
      let s = the_state before are.1 in
      let now = stepped seed count generated_row s m.look (frames_of before) rest (done_in (acks_of before)) past s.phase refl is' in
      let long = length-append (frames_of before) (frame_in m.look.arrival) in
      let acks : done_in (acks_of before) + mark (is_ack (reply_at generated_row s m.look)) ≡ done_in (acks_of (m ∷ before)) =
      ap (λ (r : Option Frame). done_in (acks_of before) + mark (is_ack r)) (sym v.reply) ∙ sym (done_more (is_ack m.reply) (acks_of before)) in
      subst (λ (z : State × ℕ × ℕ). Counted z.0 z.1 z.2) (λ i. (sym v.state_is i, sym long i, acks i)) now

  -- ---- the recorded looks acknowledge what all do ----

  no_reply : (a b c : Bool) → a || (b || c) ≡ false → b ≡ false
  no_reply true b c e = absurd (cc)
  no_reply false true c e = absurd (cc)
  no_reply false false c e = refl

  none_acks : (r : Option Frame) → is_some r ≡ false → is_ack r ≡ false
  none_acks None e = refl
  none_acks (Some f) e = absurd (cc)

  same_acks_by : (m : Made) (before : List Made) (b : Bool) → is_recorded before m ≡ b → done_in (acks_of (record_of before)) ≡ done_in (acks_of before) → done_in (acks_of (record_of (m ∷ before))) ≡ done_in (acks_of (m ∷ before))
  same_acks_by m before true e same =
      ap (λ (z : List Made). done_in (acks_of z)) (recorded_at m before true e) ∙ done_more (is_ack m.reply) (acks_of (record_of before)) ∙ ap (λ n. n + mark (is_ack m.reply)) same ∙ sym (done_more (is_ack m.reply) (acks_of before))
  same_acks_by m before false e same =
      let none : is_ack m.reply ≡ false = none_acks m.reply (no_reply m.taken (is_some m.reply) _ e) in
      ap (λ (z : List Made). done_in (acks_of z)) (recorded_at m before false e) ∙ same ∙ ap (λ (b : Bool). done_in (b ∷ acks_of before)) (sym none)

  same_acks : (made : List Made) → done_in (acks_of (record_of made)) ≡ done_in (acks_of made)
  same_acks [] = refl
  same_acks (m ∷ before) = same_acks_by m before (is_recorded before m) refl (same_acks before)

  -- as many are stored as were acknowledged
  pub all_stored : (made : List Made) (are : AreMade generated_row race_opening (record_of made)) → frames_of (record_of made) ≡ race_frames seed count → done_in (acks_of made) ≡ count → (the_state (record_of made) are).next ≡ count
  all_stored made are frames acked =
      let c = counting (record_of made) are [] (append-nil (frames_of (record_of made)) ∙ frames) in
      let few = c.few in
      let some = c.acked in
      let a = same_acks made in
      let l = ap length frames in
      let n = length-map (race_items seed count) data_frame in
      let k = items_count seed count in
      let h : length (race_frames seed count) ≡ 1 + length (map data_frame (race_items seed count)) = omega arith in
      omega (arith, few, some, a, acked, l, n, k, h)
