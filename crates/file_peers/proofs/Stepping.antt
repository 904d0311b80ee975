-- Steps of a collector, and what crashes inside of them leave.
use Rattle.std.proofs.Common.{◌≡◌, ℕ, ◌+◌, inl, inr, List, [], ◌∷◌, ◌++◌, Option, take, slice_index_or, append-nil, refl, sym, ap, ◌∙◌, subst, arith, length-append}
use Rattle.std.proofs.lemmas.List.{take-append-le, get_or_append_left}
use Rattle.disk_model.specs.Disk.{Meaning}
use Rattle.file_messages.specs.Files.{Between, Inside, State, given, state_after, files}
use Rattle.file_messages.specs.Messages.{message_of}
use Rattle.folders.specs.Placing.{Placing, Names}
use Rattle.file_collector.specs.Gathering.{ShowsFile}
use Rattle.file_collector.specs.Registers.{RegisterStands}
use Rattle.file_collector.specs.Collecting.{AlwaysFits, Fits, IsAhead, IsHere}
use Rattle.file_collector.specs.declared.collector.Collector.{Collector}
use Rattle.file_collector.specs.declared.values.Placed.{Placed}
use Rattle.file_collector.specs.declared.values.Placed.TheVariants.{Begun, Grown, Shown, Dropped, Odd}
use Rattle.file_peers.specs.Collecting.{CountsOn, Passes, PassesBy, file_in}

-- what fits messages fits more of them
ahead_more : (count : ℕ) (messages more : List (List ℕ)) (names : Names) → IsAhead count messages names → IsAhead count (messages ++ more) names
ahead_more count messages more names a =
    let lt = a.more in
    let same : take count (messages ++ more) ≡ take count messages = take-append-le count messages more (omega (arith, lt)) in
    let next : take (count + 1) (messages ++ more) ≡ take (count + 1) messages = take-append-le (count + 1) messages more (omega (arith, lt)) in
    let here : slice_index_or (messages ++ more) count [] ≡ slice_index_or messages count [] = get_or_append_left messages more [] count lt in
    record {
      more = omega (arith, lt, length-append messages more);
      file = a.file;
      gives = (λ i. given (state_after Between (same i)) (message_of (here i))) ∙ a.gives;
      are_shown = a.are_shown ∙ ap files (sym next);
      gone = a.gone;
    }

fits_more : (messages more : List (List ℕ)) (register : List ℕ) (names : Names) (part : Option (List ℕ)) → Fits messages register names part → Fits (messages ++ more) register names part
fits_more messages more register names part f =
    let le = f.within in
    let same : take f.count messages ≡ take f.count (messages ++ more) = sym (take-append-le f.count messages more le) in
    record {
      count = f.count;
      within = omega (arith, le, length-append messages more);
      stands = subst (λ (ms : List (List ℕ)). RegisterStands f.count (state_after Between ms) register) same f.stands;
      either = elim f.either [
        | inl here ↦ inl (subst (λ (ms : List (List ℕ)). IsHere ms names part) same here)
        | inr ahead ↦ inr (ahead_more f.count messages more names ahead)
      ];
    }

module _ {I D : Type 0} (mi : Placing I) (md : Meaning D) where
  always_more : (messages more : List (List ℕ)) (a b : Collector I D) → AlwaysFits mi md messages a b → AlwaysFits mi md (messages ++ more) a b
  always_more messages more a b fits = λ told tells register names bytes leaves. fits_more messages more register names _ (fits told tells register names bytes leaves)

  more_by : (messages more : List (List ℕ)) (past : List (Collector I D)) (a b : Collector I D) → PassesBy mi md messages past a b → PassesBy mi md (messages ++ more) past a b
  more_by messages more [] a b is = is
  more_by messages more (c ∷ past) a b (before, fits) = (more_by messages more past a c before, always_more messages more c b fits)

  pub passes_more : (messages more : List (List ℕ)) (a b : Collector I D) → Passes mi md messages a b → Passes mi md (messages ++ more) a b
  passes_more messages more a b (past, by) = (past, more_by messages more past a b by)

  pub passes_none : (all : List (List ℕ)) (a : Collector I D) → Passes mi md all a a
  passes_none all a = ([], refl)

  pub passes_step : (all : List (List ℕ)) (a b : Collector I D) → AlwaysFits mi md all a b → Passes mi md all a b
  passes_step all a b fits = (a ∷ [], (refl, fits))

  then_by : (all : List (List ℕ)) (past : List (Collector I D)) (a b c : Collector I D) → Passes mi md all a b → PassesBy mi md all past b c → Passes mi md all a c
  then_by all [] a b c before is = subst (λ (x : Collector I D). Passes mi md all a x) (sym is) before
  then_by all (d ∷ past) a b c before (by, fits) = let was = then_by all past a b d before by in (d ∷ was.0, (was.1, fits))

  pub passes_then : (all : List (List ℕ)) (a b c : Collector I D) → Passes mi md all a b → Passes mi md all b c → Passes mi md all a c
  passes_then all a b c before (past, by) = then_by all past a b c before by

  pub counts_on : (a : Collector I D) → CountsOn mi md a a
  counts_on a = record { inbox = omega arith; register = omega arith }

  pub counts_then : (a b c : Collector I D) → CountsOn mi md a b → CountsOn mi md b c → CountsOn mi md a c
  counts_then a b c one two = record {
    inbox = (let x = one.inbox in let y = two.inbox in omega (arith, x, y));
    register = (let x = one.register in let y = two.register in omega (arith, x, y));
  }

-- the file that is shown
pub shows_in : {I : Type 0} (m : Placing I) (old new : I) (number : ℕ) (state : State) (placed : Placed) → ShowsFile m old new number state placed → m.shown new ≡ m.shown old ++ file_in state placed
shows_in m old new number (Inside name size bytes) (Shown shown) is = is.1
shows_in m old new number (Inside name size bytes) Begun is = is ∙ sym (append-nil (m.shown old))
shows_in m old new number (Inside name size bytes) Grown is = is ∙ sym (append-nil (m.shown old))
shows_in m old new number (Inside name size bytes) (Dropped lost) is = is ∙ sym (append-nil (m.shown old))
shows_in m old new number (Inside name size bytes) Odd is = is ∙ sym (append-nil (m.shown old))
shows_in m old new number Between (Shown shown) is = is ∙ sym (append-nil (m.shown old))
shows_in m old new number Between Begun is = is ∙ sym (append-nil (m.shown old))
shows_in m old new number Between Grown is = is ∙ sym (append-nil (m.shown old))
shows_in m old new number Between (Dropped lost) is = is ∙ sym (append-nil (m.shown old))
shows_in m old new number Between Odd is = is ∙ sym (append-nil (m.shown old))
