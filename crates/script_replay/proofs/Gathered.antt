-- What is gathered before it is handed on.
use Rattle.std.proofs.Common.{◌≡◌, ℕ, ◌+◌, ◌<◌, List, [], ◌∷◌, ◌++◌, Option, Result, Ok, Err, OnErr, OnOk, ◌≤◌, le_trans, arith, length, take, drop, slice_index_or, sym, ap, ◌∙◌, append_assoc, append-nil}
use Rattle.std.proofs.lemmas.List.{map-append, take-append-drop, take_more}
use Rattle.std.proofs.lemmas.List.Concat.{flat_map-append}
use Rattle.std.specs.Io.KnownBytes.{Appends}
use Rattle.pump_link.specs.Causes.{AppendsPrefix, HasCause}
use Rattle.pump_link.proofs.Known.{Appends-none, Appends-then}
use Rattle.script_reader.specs.declared.event.Event.{Event}
use Rattle.script_reader.specs.declared.event.EventHead.{EventHead}
use Rattle.script_reader.specs.EventHeads.{event_of}
use Rattle.script_reader.specs.Transcript.{event_line, text}
use Rattle.two_worlds.specs.Printing.{lines_in}
use Rattle.script_replay.specs.Outputs.{Gathers}

pub text-more : (events more : List Event) → text (events ++ more) ≡ text events ++ text more
text-more events more = flat_map-append event_line events more

pub text-one : (event : Event) → text (event ∷ []) ≡ event_line event
text-one event = append-nil (event_line event)

pub gathers_none : (held : List ℕ) (a : Option (List ℕ)) → Gathers held held a a []
gathers_none held a = ([], Appends-none a, append-nil held)

-- what was held and what came after it
whole : (first second third written more x y : List ℕ) → first ++ x ≡ written ++ second → second ++ y ≡ more ++ third → first ++ (x ++ y) ≡ (written ++ more) ++ third
whole first second third written more x y e f =
    sym (append_assoc first x y) ∙ ap (λ z. z ++ y) e ∙ append_assoc written second y ∙ ap (λ z. written ++ z) f ∙ sym (append_assoc written more third)

pub gathers_then : (first second third : List ℕ) (a b c : Option (List ℕ)) (x y : List ℕ) → Gathers first second a b x → Gathers second third b c y → Gathers first third a c (x ++ y)
gathers_then first second third a b c x y p q =
    (p.0 ++ q.0, Appends-then a b c p.0 q.0 p.1 q.1, whole first second third p.0 q.0 x y p.2 q.2)

-- all that is held is written in the end
pub appends_then : (first second : List ℕ) (a b c : Option (List ℕ)) (x y : List ℕ) → Gathers first second a b x → Appends b c (second ++ y) → Appends a c (first ++ (x ++ y))
appends_then first second a b c x y p q =
    let e : first ++ (x ++ y) ≡ p.0 ++ (second ++ y) = sym (append_assoc first x y) ∙ ap (λ z. z ++ y) p.2 ∙ append_assoc p.0 second y in
    rw e (Appends-then a b c p.0 (second ++ y) p.1 q)

-- or a prefix of it
pub prefix_then : (first second : List ℕ) (a b c : Option (List ℕ)) (x y : List ℕ) → Gathers first second a b x → AppendsPrefix b c (second ++ y) → AppendsPrefix a c (first ++ (x ++ y))
prefix_then first second a b c x y p q = (
  p.0 ++ q.0,
  q.1,
  sym (append_assoc first x y) ∙ ap (λ z. z ++ y) p.2 ∙ append_assoc p.0 second y ∙ ap (λ z. p.0 ++ z) q.2 ∙ sym (append_assoc p.0 q.0 q.1),
  Appends-then a b c p.0 q.0 p.1 q.3,
)

pub prefix_more : (a b : Option (List ℕ)) (x y : List ℕ) → AppendsPrefix a b x → AppendsPrefix a b (x ++ y)
prefix_more a b x y p = (p.0, p.1 ++ y, ap (λ z. z ++ y) p.2 ∙ append_assoc p.0 p.1 y, p.3)

-- the lines of these events
abbrev text_of : List EventHead → List ℕ
text_of heads = text (lines_in heads)

text_of-more : (heads more : List EventHead) → text_of (heads ++ more) ≡ text_of heads ++ text_of more
text_of-more heads more = ap text (map-append event_of heads more) ∙ text-more (lines_in heads) (lines_in more)

-- one event more
pub one_more : (held mid later : List ℕ) (a b c : Option (List ℕ)) (heads : List EventHead) (i : ℕ) (none : EventHead) → i < length heads
    → Gathers held mid a b (text_of (take i heads)) → Gathers mid later b c (event_line (event_of (slice_index_or heads i none))) → Gathers held later a c (text_of (take (i + 1) heads))
one_more held mid later a b c heads i none low p q =
    let head = slice_index_or heads i none in
    let e : text_of (take (i + 1) heads) ≡ text_of (take i heads) ++ event_line (event_of head) =
    ap text_of (take_more heads i none low) ∙ text_of-more (take i heads) (head ∷ []) ∙ ap (λ z. text_of (take i heads) ++ z) (text-one (event_of head)) in
    rw e (gathers_then held mid later a b c _ _ p q)

pub cut_off_at : (held mid : List ℕ) (a b c : Option (List ℕ)) (heads : List EventHead) (i : ℕ) → Gathers held mid a b (text (lines_in (take i heads))) → AppendsPrefix b c mid → AppendsPrefix a c (held ++ text (lines_in heads))
cut_off_at held mid a b c heads i p q =
    let e : text_of heads ≡ text_of (take i heads) ++ text_of (drop i heads) = ap text_of (sym (take-append-drop i heads)) ∙ text_of-more (take i heads) (drop i heads) in
    rw e (prefix_then held mid a b c (text_of (take i heads)) (text_of (drop i heads)) p (prefix_more b c mid (text_of (drop i heads)) q))

pub on_err : {T E : Type 0} (r : Result T E) (P : Type 0) → P → OnErr r P
on_err (Ok x) P p = tt
on_err (Err x) P p = p

-- what was held and x, where the last of it could not be written
pub held_prefix : {T E : Type 0} (r : Result T E) (first second : List ℕ) (a b c : Option (List ℕ)) (x y : List ℕ) → x ≡ y → Gathers first second a b x → OnErr r (AppendsPrefix b c second) → OnErr r (AppendsPrefix a c (first ++ y))
held_prefix (Ok t) first second a b c x y e p q = tt
held_prefix (Err t) first second a b c x y e p q =
    let all : first ++ y ≡ first ++ (x ++ []) = ap (λ z. first ++ z) (sym e ∙ sym (append-nil x)) in
    rw all (prefix_then first second a b c x [] p (prefix_more b c second [] q))

-- y came behind what was held, and all of it could not be written
pub prefix_behind : {T E : Type 0} (r : Result T E) (first second later y : List ℕ) (a b c : Option (List ℕ)) → Gathers first second a b [] → later ≡ second ++ y → OnErr r (AppendsPrefix b c later) → OnErr r (AppendsPrefix a c (first ++ y))
prefix_behind (Ok t) first second later y a b c p e q = tt
prefix_behind (Err t) first second later y a b c p e q = prefix_then first second a b c [] y p (rw e at q)

-- y came behind what was held
pub gathers_behind : (first second later y : List ℕ) (a b : Option (List ℕ)) → Gathers first second a b [] → later ≡ second ++ y → Gathers first later a b y
gathers_behind first second later y a b p e =
    (p.0, p.1, ap (λ z. z ++ y) (sym (append-nil first) ∙ p.2) ∙ append_assoc p.0 second y ∙ ap (λ z. p.0 ++ z) (sym e))

-- .. and all of it was written
pub all_behind : {T E : Type 0} (r : Result T E) (first second later y : List ℕ) (a b c : Option (List ℕ)) → Gathers first second a b [] → later ≡ second ++ y → OnOk r (Appends b c later) → OnOk r (Appends a c (first ++ y))
all_behind (Ok t) first second later y a b c p e q = appends_then first second a b c [] y p (rw e at q)
all_behind (Err t) first second later y a b c p e q = tt

-- the cause of the second call, where the first one went well
pub cause_then : {T E : Type 0} (r : Result T E) (a b c : ℕ) → a ≤ b → HasCause b c r → HasCause a c r
cause_then (Ok t) a b c le cause = record { later = le_trans le cause.later; failed = tt }
cause_then (Err t) a b c le cause = record { later = le_trans le cause.later; failed = (let rose = cause.failed in omega (arith, rose, le)) }
