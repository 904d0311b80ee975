-- Turns of Low's party, one after another, and a whole call.
use Rattle.std.proofs.Common.{◌≡◌, ◌≤◌, ℕ, ◌+◌, List, [], ◌∷◌, ◌++◌, length, Option, Some, None, refl, sym, ap, ◌∙◌, subst, append-nil, append_assoc, arith, length-append}
use Rattle.std.specs.Io.KnownBytes.{Appends}
use Rattle.std.proofs.KnownBytes.{Appends-nil, Appends-trans}
use Rattle.pump_link.specs.Tells.{Draws, Grows}
use Rattle.pump_link.specs.declared.link.Looked.{Looked}
use Rattle.pump_link.proofs.Grown.{Draws-nil, Draws-then, Grows-nil, Grows-then}
use Rattle.folders.specs.Outboxes.{Dropping}
use Rattle.file_dropper.specs.Works.{StandsBehind}
use Rattle.file_dropper.specs.declared.dropper.Dropper.{Dropper}
use Rattle.peers.specs.Outputs.{Counts, counts}
use Rattle.file_peers.specs.declared.drop.DropEnd.{DropEnd}
use Rattle.file_peers.specs.Delivering.{Part, MakesTurn, SendsFiles}
use Rattle.file_peers.specs.Dropping.{Turn, Stop, AreTurns, IsTurn, StopsBy, Passes, PassesBy, StopsBehind, dropper_in, message_in, looks_in, sent_in, line_in, reached, messages, looks_of, sendings, lines, looks_at, sent_at, printed_at}
use Rattle.file_peers.proofs.Delivering.{stands_after, stops_earlier}

-- ---- turns ----

pub record SoFar {O F : Type 0} (m : Dropping O) (left : F → Option (List ℕ)) (session most looks_left : ℕ) (g g1 : List Looked → Type 0) (s s1 : List ℕ → Type 0) (w w1 : Option (List ℕ)) (old now : Dropper O F) : Type 0 where
  pub turns : List (Turn O F)
  pub are : AreTurns m session old.message old.number old turns
  pub is : reached old turns ≡ now
  pub number : now.number ≡ old.number + length (messages turns)
  pub message : now.message ≡ old.message
  pub used : most ≡ looks_left + length (looks_of turns)
  pub gave : Draws g g1 (looks_of turns)
  pub did_send : Grows s s1 (sendings session old.number turns)
  pub did_print : Appends w w1 (lines session turns)
  pub behind : m.tells → (start : List (List ℕ)) → StandsBehind m left old start → PassesBy m left start old turns × StandsBehind m left now (start ++ messages turns)

pub so_far_none : {O F : Type 0} (m : Dropping O) (left : F → Option (List ℕ)) (session most : ℕ) (g : List Looked → Type 0) (s : List ℕ → Type 0) (w : Option (List ℕ)) (old : Dropper O F) → SoFar m left session most most g g s s w w old old
so_far_none m left session most g s w old = record {
  turns = [];
  are = tt;
  is = refl;
  number = omega arith;
  message = refl;
  used = omega arith;
  gave = Draws-nil g;
  did_send = Grows-nil s;
  did_print = Appends-nil w;
  behind = λ tells start stands. (stands, subst (λ (ms : List (List ℕ)). StandsBehind m left old ms) (sym (append-nil start)) stands);
}

-- a turn at the same place
same_turn : {O F : Type 0} (m : Dropping O) (session a b c d : ℕ) (p q : Dropper O F) (t : Turn O F) → a ≡ b → c ≡ d → p ≡ q → IsTurn m session a c p t → IsTurn m session b d q t
same_turn {O = O} {F = F} m session a b c d p q t one two three turn =
    subst (λ (y : Dropper O F). IsTurn m session b d y t) three (subst (λ k. IsTurn m session b k p t) two (subst (λ k. IsTurn m session k c p t) one turn))

same_stop : {O F : Type 0} (m : Dropping O) (faults : F → ℕ) (session left a b c d : ℕ) (p q : Dropper O F) (s : Stop O F) (n : Counts) (end : DropEnd) → a ≡ b → c ≡ d → p ≡ q → StopsBy m faults session a c left p s n end → StopsBy m faults session b d left q s n end
same_stop {O = O} {F = F} m faults session left a b c d p q s n end one two three stops =
    subst (λ (y : Dropper O F). StopsBy m faults session b d left y s n end) three (subst (λ k. StopsBy m faults session b k left p s n end) two (subst (λ k. StopsBy m faults session k c left p s n end) one stops))

module _ {O F : Type 0} (m : Dropping O) (left : F → Option (List ℕ)) (faults : F → ℕ) (session most looks_left looks_left' : ℕ) (g g1 g2 : List Looked → Type 0) (s s1 s2 : List ℕ → Type 0) (w w1 w2 : Option (List ℕ)) (old now new : Dropper O F)
    (was : SoFar m left session most looks_left g g1 s s1 w w1 old now) (x : Part) (fewer : looks_left ≡ looks_left' + length x.looks) (gave : Draws g1 g2 x.looks) (sends : Grows s1 s2 x.sent) (prints : Appends w1 w2 x.printed) where
  abbrev number : ℕ
  number = old.number + length (messages was.turns)

  pub turn_more : (n : Counts) → MakesTurn m left faults session now new looks_left' x n None → new.message ≡ now.message → SoFar m left session most looks_left' g g2 s s2 w w2 old new
  turn_more n (t, turn, part, behind, next) kept = record {
    turns = t ∷ was.turns;
    are = (same_turn m session now.message old.message now.number number now (reached old was.turns) t was.message was.number (sym was.is) turn, was.are);
    is = part.dropper;
    number = omega (arith, next, was.number, length-append (messages was.turns) (message_in t));
    message = kept ∙ was.message;
    used = omega (arith, was.used, fewer, ap length part.looks, length-append (looks_of was.turns) (looks_in t));
    gave = Draws-then g g1 g2 (looks_of was.turns) (looks_in t) was.gave (subst (Draws g1 g2) part.looks gave);
    did_send = Grows-then s s1 s2 (sendings session old.number was.turns) (sent_in session number t) was.did_send (subst (Grows s1 s2) (part.sent ∙ ap (λ k. sent_in session k t) was.number) sends);
    did_print = Appends-trans w w1 w2 (lines session was.turns) (line_in session t) was.did_print (subst (Appends w1 w2) part.printed prints);
    behind = λ tells start stands.
        let b = was.behind tells start stands in
        let all = start ++ messages was.turns in
        let p = behind tells all b.1 in
        let more : StandsBehind m left (dropper_in t) (all ++ message_in t) = stands_after m left all now t p in (
          (b.0, subst (λ (y : Dropper O F). Passes m left all y t) (sym was.is) p),
          subst (λ (y : Dropper O F). StandsBehind m left y (start ++ (messages was.turns ++ message_in t))) part.dropper
              (subst (λ (ms : List (List ℕ)). StandsBehind m left (dropper_in t) ms) (append_assoc start (messages was.turns) (message_in t)) more),
        );
  }

  pub turn_ends : (a b now_link c d now_out : ℕ) (end : DropEnd) → a ≤ b → c ≤ d → MakesTurn m left faults session now new looks_left' x (counts b now_link d now_out) (Some end)
      → SendsFiles m left faults session most looks_left' old new (counts a now_link c now_out) end (Draws g g2) (Grows s s2) (Appends w w2)
  turn_ends a b now_link c d now_out end low out_low (stop, stops, part, behind) = (
    was.turns,
    stop,
    was.are,
    same_stop m faults session looks_left' now.message old.message now.number number now (reached old was.turns) stop (counts a now_link c now_out) end was.message was.number (sym was.is)
        (stops_earlier m faults session now.message now.number looks_left' now a b now_link c d now_out low out_low stop end stops),
    omega (arith, was.used, fewer, ap length part.looks, length-append (looks_of was.turns) (looks_at stop)),
    Draws-then g g1 g2 (looks_of was.turns) (looks_at stop) was.gave (subst (Draws g1 g2) part.looks gave),
    Grows-then s s1 s2 (sendings session old.number was.turns) (sent_at session number stop) was.did_send (subst (Grows s1 s2) (part.sent ∙ ap (λ k. sent_at session k stop) was.number) sends),
    Appends-trans w w1 w2 (lines session was.turns) (printed_at session stop) was.did_print (subst (Appends w1 w2) part.printed prints),
    part.dropper,
    λ tells start stands.
        let b = was.behind tells start stands in
        let all = start ++ messages was.turns in
        (b.0, subst (λ (y : Dropper O F). StopsBehind m left all y stop) (sym was.is) (behind tells all b.1)),
  )
