-- Looks, and what the receiver has, admit one end of a receiver's call.
use Rattle.std.proofs.Common.{◌≡◌, ◌⊎◌, inl, inr, ℕ, ◌+◌, ◌<◌, true, false, List, [], ◌∷◌, ◌++◌, length, refl, sym, ap, ◌∙◌, subst, append_assoc, append-nil, arith, length-append}
use Rattle.pump_frame.specs.declared.frame.Frame.{Frame}
use Rattle.pump_frame.specs.declared.row.SessionRow.{SessionRow}
use Rattle.peers.specs.declared.receive.ReceiveEnd.{ReceiveEnd}
use Rattle.peers.specs.declared.receive.ReceiveEnd.TheVariants.{Ended, Looks, Write, Device, Ahead, LogFull}
use Rattle.peers.specs.Outputs.{Counts}
use Rattle.peers.specs.Receiving.{Turn, Passed, Took, Again, Place, IsTurn, AreTurns, place_after, frame_in, frames, lines, sendings, is_wanted, Reception, Receives}
use Rattle.peers.specs.Laws.{IsCalmCall, ArePrefixes}
use Rattle.peers.proofs.Hearing.{hears_more, over_more, just_join}
use Rattle.peers.proofs.Comparing.{Tail, Used, Ends, Bad, Last, Stop, Heard, all_of, IsStop, AreSame, FirstStops, SecondStops, compared}

-- ---- turns ----

pub snoc_same : {A : Type 0} (xs ys : List A) (x y : A) → xs ++ x ∷ [] ≡ ys ++ y ∷ [] → (xs ≡ ys) × (x ≡ y)
snoc_same [] [] x y e = (refl, cc)
snoc_same [] (b ∷ []) x y e = cc
snoc_same [] (b ∷ (c ∷ ys)) x y e = cc
snoc_same (a ∷ []) [] x y e = cc
snoc_same (a ∷ (c ∷ xs)) [] x y e = cc
snoc_same (a ∷ xs) (b ∷ ys) x y e =
    let r = snoc_same xs ys x y cc in
    (cc, r.1)

-- a list that goes on has a last element
data Behind {A : Type 0} : List A → Type 0 where
  Nothing : Behind []
  Something : (prefix : List A) (last : A) → Behind (prefix ++ last ∷ [])

behind_one : {A : Type 0} (x : A) (xs : List A) → Behind xs → Behind (x ∷ xs)
behind_one x _ Nothing = Something [] x
behind_one x _ (Something prefix last) = Something (x ∷ prefix) last

behind : {A : Type 0} (xs : List A) → Behind xs
behind [] = Nothing
behind (x ∷ xs) = behind_one x xs (behind xs)

one_turn : (row : SessionRow) (size : ℕ) (p : Place) (t u : Turn) → IsTurn row size p t → IsTurn row size p u → frame_in t ≡ frame_in u → t ≡ u
one_turn row size p (Passed f) (Passed g) a b e = ap Passed e
one_turn row size p (Passed f) (Took g) a b e = let w : is_wanted row g ≡ false = subst (λ (x : Frame). is_wanted row x ≡ false) e a in let y : is_wanted row g ≡ true = b.0 in cc
one_turn row size p (Passed f) (Again g) a b e = let w : is_wanted row g ≡ false = subst (λ (x : Frame). is_wanted row x ≡ false) e a in let y : is_wanted row g ≡ true = b.0 in cc
one_turn row size p (Took f) (Passed g) a b e = let w : is_wanted row g ≡ true = subst (λ (x : Frame). is_wanted row x ≡ true) e a.0 in cc
one_turn row size p (Took f) (Took g) a b e = ap Took e
one_turn row size p (Took f) (Again g) a b e = let n : f.number ≡ g.number = ap (λ (x : Frame). x.number) e in absurd (omega (arith, n, a.1.0, b.1))
one_turn row size p (Again f) (Passed g) a b e = let w : is_wanted row g ≡ true = subst (λ (x : Frame). is_wanted row x ≡ true) e a.0 in cc
one_turn row size p (Again f) (Took g) a b e = let n : f.number ≡ g.number = ap (λ (x : Frame). x.number) e in absurd (omega (arith, n, b.1.0, a.1))
one_turn row size p (Again f) (Again g) a b e = ap Again e

some_frames : (turns : List Turn) (t : Turn) → frames (t ∷ turns) ≡ [] → ⊥
some_frames turns t e = let l = ap length e in omega (arith, l, length-append (frames turns) (frame_in t ∷ []))

pub same_turns : (row : SessionRow) (size : ℕ) (p : Place) (a b : List Turn) → AreTurns row size p a → AreTurns row size p b → frames a ≡ frames b → a ≡ b
same_turns row size p [] [] x y e = refl
same_turns row size p [] (u ∷ b) x y e = absurd (some_frames b u (sym e))
same_turns row size p (t ∷ a) [] x y e = absurd (some_frames a t e)
same_turns row size p (t ∷ a) (u ∷ b) x y e =
    let s = snoc_same (frames a) (frames b) (frame_in t) (frame_in u) e in
    let past = same_turns row size p a b x.1 y.1 s.0 in
    let here = one_turn row size (place_after p b) t u (subst (λ (l : List Turn). IsTurn row size (place_after p l) t) past x.0) y.0 s.1 in
    ap (λ (l : List Turn). t ∷ l) past ∙ ap (λ (v : Turn). v ∷ b) here

-- a prefix of the frames was heard in a prefix of the turns
pub record Earlier (row : SessionRow) (size : ℕ) (p : Place) (fs : List Frame) : Type 0 where
  pub turns : List Turn
  pub are : AreTurns row size p turns
  pub heard : frames turns ≡ fs

nothing : (xs : List Frame) → length xs ≡ 0 → xs ≡ []
nothing [] n = refl
nothing (x ∷ xs) n = absurd (omega (arith, n))

earlier_by : (row : SessionRow) (size : ℕ) (p : Place) (t : Turn) (turns : List Turn) (fs later : List Frame) → Behind later → AreTurns row size p (t ∷ turns) → frames (t ∷ turns) ≡ fs ++ later
    → ((prefix : List Frame) → frames turns ≡ fs ++ prefix → Earlier row size p fs) → Earlier row size p fs
earlier_by row size p t turns fs _ Nothing are e before = record { turns = t ∷ turns; are = are; heard = e ∙ append-nil fs }
earlier_by row size p t turns fs _ (Something prefix last) are e before =
    let s = snoc_same (frames turns) (fs ++ prefix) (frame_in t) last (e ∙ sym (append_assoc fs prefix (last ∷ []))) in
    before prefix s.0

earlier : (row : SessionRow) (size : ℕ) (p : Place) (turns : List Turn) (fs later : List Frame) → AreTurns row size p turns → frames turns ≡ fs ++ later → Earlier row size p fs
earlier row size p [] fs later are e =
    let l = ap length e in
    let none : length fs ≡ 0 = omega (arith, l, length-append fs later) in
    record { turns = []; are = tt; heard = sym (nothing fs none) }
earlier row size p (t ∷ turns) fs later are e = earlier_by row size p t turns fs later (behind later) are e (λ prefix e'. earlier row size p turns fs prefix are.1 e')

-- ---- ends ----

-- what an end says, by how the last wait ended
abbrev pub Says : SessionRow → ℕ → Place → Tail → ReceiveEnd → Type 0
Says row size p Used end = end ≡ Looks
Says row size p Ends end = end ≡ Ended
Says row size p Bad end = end ≡ Ended
Says row size p (Last f) end = (is_wanted row f ≡ true)
    × (((p.count < f.number) × (end ≡ Ahead f.number p.count)) ⊎ ((f.number ≡ p.count) × (size < p.end + 2 + length f.payload) × (end ≡ LogFull p.end (length f.payload) size)))
Says row size p Stop end = ⊥

pub record Normal (row : SessionRow) (size most : ℕ) (start : Place) (x : Reception) (end : ReceiveEnd) : Type 0 where
  pub tail : Tail
  pub heard : Heard most (x.heard ++ x.looks) (frames x.turns) tail
  pub says : Says row size (place_after start x.turns) tail end
  pub sent : x.sent ≡ sendings row.id start.count x.turns
  pub printed : x.printed ≡ lines row.id x.turns

pub normal : (row : SessionRow) (size most : ℕ) (start : Place) (x : Reception) (n : Counts) (end : ReceiveEnd) → IsCalmCall n → Receives row size most start x n end → Normal row size most start x end
normal row size most start x n Looks calm r = record {
  tail = Used;
  heard = (hears_more x.heard x.looks (frames x.turns) r.heard r.ends.1, omega (arith, r.used, r.ends.2));
  says = refl;
  sent = r.ends.0.sent;
  printed = r.ends.0.printed;
}
normal row size most start x n Ended calm r = elim r.ends [
  | inl (waited, over) ↦ elim (over_more x.heard x.looks (frames x.turns) n.link n.link n.now_link (omega arith) r.heard over) [
    | inl bad ↦ record { tail = Bad; heard = bad; says = refl; sent = waited.sent; printed = waited.printed }
    | inr (inl ended) ↦ record { tail = Ends; heard = ended; says = refl; sent = waited.sent; printed = waited.printed }
    | inr (inr (at, rose)) ↦ absurd (calm.link rose)
  ]
  | inr (stops, cut, printed, rose) ↦ absurd (calm.link rose)
]
normal row size most start x n Write calm r = absurd (calm.out r.ends.2)
normal row size most start x n (Device faults) calm r = absurd (calm.other r.ends.3)
normal row size most start x n (Ahead number count) calm r =
    let (f, refuses, high, is, expected) = r.ends in
    let e : Ahead number count ≡ Ahead f.number (place_after start x.turns).count = ap (λ k. Ahead k count) is ∙ ap (λ k. Ahead f.number k) expected in
    record {
      tail = Last f;
      heard = just_join x.heard x.looks (frames x.turns) (f ∷ []) r.heard refuses.heard;
      says = (refuses.wanted, inl (high, e));
      sent = refuses.sent;
      printed = refuses.printed;
    }
normal row size most start x n (LogFull end size_of limit) calm r =
    let (f, refuses, is, long, at, of, most_is) = r.ends in
    let p = place_after start x.turns in
    let e : LogFull end size_of limit ≡ LogFull p.end (length f.payload) size = ap (λ k. LogFull k size_of limit) at ∙ ap (λ k. LogFull p.end k limit) of ∙ ap (λ k. LogFull p.end (length f.payload) k) most_is in
    record {
      tail = Last f;
      heard = just_join x.heard x.looks (frames x.turns) (f ∷ []) r.heard refuses.heard;
      says = (refuses.wanted, inr (is, long, e));
      sent = refuses.sent;
      printed = refuses.printed;
    }

-- one end is said
says_one : (row : SessionRow) (size : ℕ) (p : Place) (t : Tail) (end other : ReceiveEnd) → Says row size p t end → Says row size p t other → end ≡ other
says_one row size p Used end other a b = a ∙ sym b
says_one row size p Ends end other a b = a ∙ sym b
says_one row size p Bad end other a b = a ∙ sym b
says_one row size p (Last f) end other (w, inl (high, e)) (w', inl (high', e')) = e ∙ sym e'
says_one row size p (Last f) end other (w, inl (high, e)) (w', inr (is, long, e')) = absurd (omega (arith, high, is))
says_one row size p (Last f) end other (w, inr (is, long, e)) (w', inl (high, e')) = absurd (omega (arith, high, is))
says_one row size p (Last f) end other (w, inr (is, long, e)) (w', inr (is', long', e')) = e ∙ sym e'
says_one row size p Stop end other a b = absurd a

-- what ends one call is no turn of another
no_turn : (row : SessionRow) (size : ℕ) (p : Place) (f : Frame) (end : ReceiveEnd) (t : Turn) → Says row size p (Last f) end → IsTurn row size p t → frame_in t ≡ f → ⊥
no_turn row size p f end (Passed g) (w, why) a e = let x : is_wanted row f ≡ false = subst (λ (y : Frame). is_wanted row y ≡ false) e a in cc
no_turn row size p f end (Took g) (w, inl (high, is)) a e = let n : g.number ≡ f.number = ap (λ (y : Frame). y.number) e in omega (arith, n, high, a.1.0)
no_turn row size p f end (Took g) (w, inr (at, long, is)) a e = let n : length g.payload ≡ length f.payload = ap (λ (y : Frame). length y.payload) e in omega (arith, n, long, a.1.1)
no_turn row size p f end (Again g) (w, inl (high, is)) a e = let n : g.number ≡ f.number = ap (λ (y : Frame). y.number) e in omega (arith, n, high, a.1)
no_turn row size p f end (Again g) (w, inr (at, long, is)) a e = let n : g.number ≡ f.number = ap (λ (y : Frame). y.number) e in omega (arith, n, at, a.1)

ends_there : (row : SessionRow) (size : ℕ) (p : Place) (a c : List Turn) (f : Frame) (end : ReceiveEnd) → AreTurns row size p a → AreTurns row size p c → Says row size (place_after p a) (Last f) end
    → frames c ≡ frames a ++ f ∷ [] → ⊥
ends_there row size p a [] f end x z says e = let l = ap length e in omega (arith, l, length-append (frames a) (f ∷ []))
ends_there row size p a (t ∷ c) f end x z says e =
    let s = snoc_same (frames c) (frames a) (frame_in t) f e in
    let past : c ≡ a = same_turns row size p c a z.1 x s.0 in
    no_turn row size (place_after p a) f end t says (subst (λ (l : List Turn). IsTurn row size (place_after p l) t) past z.0) s.1

goes_no_further : (row : SessionRow) (size : ℕ) (p : Place) (a b : List Turn) (f : Frame) (end : ReceiveEnd) (later : List Frame) → AreTurns row size p a → AreTurns row size p b
    → Says row size (place_after p a) (Last f) end → frames b ≡ (frames a ++ f ∷ []) ++ later → ⊥
goes_no_further row size p a b f end later x y says e =
    let s = earlier row size p b (frames a ++ f ∷ []) later y e in
    ends_there row size p a s.turns f end x s.are says s.heard

-- ---- both ----

abbrev pub AreOne : Reception → Reception → ReceiveEnd → ReceiveEnd → Type 0
AreOne x y end other = (end ≡ other) × (x.sent ≡ y.sent) × (x.printed ≡ y.printed) × (x.turns ≡ y.turns)

one_by : (row : SessionRow) (size most : ℕ) (start : Place) (x y : Reception) (end other : ReceiveEnd) (t : Tail) → (a : Normal row size most start x end) → (b : Normal row size most start y other) → x.turns ≡ y.turns
    → Says row size (place_after start x.turns) t end → Says row size (place_after start y.turns) t other → AreOne x y end other
one_by row size most start x y end other t a b same says says' = (
  says_one row size (place_after start y.turns) t end other (subst (λ (l : List Turn). Says row size (place_after start l) t end) same says) says',
  a.sent ∙ ap (λ (l : List Turn). sendings row.id start.count l) same ∙ sym b.sent,
  a.printed ∙ ap (λ (l : List Turn). lines row.id l) same ∙ sym b.printed,
  same,
)

module _ (row : SessionRow) (size most : ℕ) (start : Place) (x y : Reception) (end other : ReceiveEnd) (are : AreTurns row size start x.turns) (are' : AreTurns row size start y.turns)
    (a : Normal row size most start x end) (b : Normal row size most start y other) where
  last_both : (f g : Frame) (later : List Frame) → Behind later → Says row size (place_after start x.turns) (Last f) end → Says row size (place_after start y.turns) (Last g) other
      → frames y.turns ++ g ∷ [] ≡ (frames x.turns ++ f ∷ []) ++ later → AreOne x y end other
  last_both f g _ Nothing says says' e =
      let s = snoc_same (frames y.turns) (frames x.turns) g f (e ∙ append-nil (frames x.turns ++ f ∷ [])) in
      let same : x.turns ≡ y.turns = same_turns row size start x.turns y.turns are are' (sym s.0) in
      one_by row size most start x y end other (Last f) a b same says (subst (λ (h : Frame). Says row size (place_after start y.turns) (Last h) other) s.1 says')
  last_both f g _ (Something prefix last) says says' e =
      let s = snoc_same (frames y.turns) ((frames x.turns ++ f ∷ []) ++ prefix) g last (e ∙ sym (append_assoc (frames x.turns ++ f ∷ []) prefix (last ∷ []))) in
      absurd (goes_no_further row size start x.turns y.turns f end prefix are are' says s.0)

  first_stops : (t u : Tail) (later : List Frame) → IsStop t → Says row size (place_after start x.turns) t end → Says row size (place_after start y.turns) u other
      → all_of (frames y.turns) u ≡ all_of (frames x.turns) t ++ later → AreOne x y end other
  first_stops (Last f) (Last g) later stops says says' e = last_both f g later (behind later) says says' e
  first_stops (Last f) Used later stops says says' e = absurd (goes_no_further row size start x.turns y.turns f end later are are' says e)
  first_stops (Last f) Ends later stops says says' e = absurd (goes_no_further row size start x.turns y.turns f end later are are' says e)
  first_stops (Last f) Bad later stops says says' e = absurd (goes_no_further row size start x.turns y.turns f end later are are' says e)
  first_stops (Last f) Stop later stops says says' e = absurd says'
  first_stops Stop u later stops says says' e = absurd says
  first_stops Used u later stops says says' e = absurd stops
  first_stops Ends u later stops says says' e = absurd stops
  first_stops Bad u later stops says says' e = absurd stops

pub one_reception : (row : SessionRow) (size most : ℕ) (start : Place) (x y : Reception) (n k : Counts) (end other : ReceiveEnd) → IsCalmCall n → IsCalmCall k
    → Receives row size most start x n end → Receives row size most start y k other → ArePrefixes (x.heard ++ x.looks) (y.heard ++ y.looks) → AreOne x y end other
one_reception row size most start x y n k end other calm calm' r r' (later, later', e) =
    let a = normal row size most start x n end calm r in
    let b = normal row size most start y k other calm' r' in
    elim (compared most (x.heard ++ x.looks) (y.heard ++ y.looks) later later' (frames x.turns) (frames y.turns) a.tail b.tail e (omega (arith, r.used)) (omega (arith, r'.used)) a.heard b.heard) [
      | AreSame looks fs ends ↦
          one_by row size most start x y end other b.tail a b (same_turns row size start x.turns y.turns r.turns r'.turns fs)
          (subst (λ (t : Tail). Says row size (place_after start x.turns) t end) ends a.says) b.says
      | FirstStops stops more fs ↦ first_stops row size most start x y end other r.turns r'.turns a b a.tail b.tail more stops a.says b.says fs
      | SecondStops stops more fs ↦
          let o = first_stops row size most start y x other end r'.turns r.turns b a b.tail a.tail more stops b.says a.says fs in
          (sym o.0, sym o.1, sym o.2, sym o.3)
    ]
