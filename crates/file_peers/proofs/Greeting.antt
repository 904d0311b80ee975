-- A whole call of Low's party: the greeting, the settling, and the turns.
use Rattle.std.proofs.Common.{◌≡◌, ◌≤◌, ◌^◌, ◌==◌, ℕ, ◌+◌, true, List, [], ◌∷◌, ◌++◌, length, Option, Some, None, refl, ap, ◌∙◌, subst, arith, length-append}
use Rattle.std.specs.List.{AllByRecursion}
use Rattle.std.specs.Io.KnownBytes.{Appends}
use Rattle.std.proofs.KnownBytes.{Appends-nil, Appends-trans}
use Rattle.std.proofs.lemmas.Bool.{and_parts}
use Rattle.pump_frame.specs.Frames.{IsForm, IsLawful}
use Rattle.pump_frame.specs.Spellings.{spelling}
use Rattle.pump_frame.specs.declared.frame.Frame.{Frame}
use Rattle.pump_frame.specs.declared.frame.Kind.{Kind}
use Rattle.pump_frame.specs.declared.frame.Kind.TheVariants.{Hello, Welcome, Data, Ack, Refuse, Attach, Taken}
use Rattle.pump_frame.specs.declared.row.SessionRow.{SessionRow}
use Rattle.pump_link.specs.Tells.{Draws, Grows}
use Rattle.pump_link.specs.declared.link.Looked.{Looked}
use Rattle.pump_link.proofs.Grown.{Draws-then, Grows-then}
use Rattle.folders.specs.Outboxes.{Dropping, Settled as IsSettled}
use Rattle.file_dropper.specs.Leaving.{Fits}
use Rattle.file_dropper.specs.declared.dropper.Dropper.{Dropper}
use Rattle.peers.specs.declared.asking.Wanted.TheVariants as wanted
use Rattle.peers.specs.Outputs.{Counts, counts}
use Rattle.peers.specs.Sending.{Answers, Wait, hello_frame, is_welcome}
use Rattle.file_peers.specs.declared.drop.DropEnd.{DropEnd}
use Rattle.file_peers.specs.declared.drop.DropEnd.TheVariants.{Ended, Looks, Write, Refused, Unfinished, Failed}
use Rattle.file_peers.specs.Delivering.{SendsFiles, Settles}
use Rattle.file_peers.specs.Dropping.{Turn, Stop, AreTurns, StopsBy, AskFails, Drops, KeepsFolder, Visit, Ungreeted, Unsettled, Untold, Greeted, all_looks, all_sent, all_printed, counted, dropper_behind, lines, looks_at, looks_of, messages, printed_at, reached, sendings, sent_at, settled_line}
use Rattle.file_peers.proofs.Delivering.{line_later, stops_earlier}

-- ---- WELCOME's number ----

last_of : {A : Type 0} (P : A → Type 0) (xs : List A) (x : A) → AllByRecursion P (xs ++ x ∷ []) → P x
last_of P [] x all = all.0
last_of P (y ∷ ys) x all = last_of P ys x all.1

few_by : (kind : Kind) (number : ℕ) (payload : List ℕ) → IsForm kind number payload → is_welcome kind ≡ true → number ≤ 2 ^ 48
few_by Hello number payload form is = cc
few_by Welcome number payload form is = form.0
few_by Data number payload form is = cc
few_by Ack number payload form is = cc
few_by Refuse number payload form is = cc
few_by Attach number payload form is = cc
few_by Taken number payload form is = cc

pub welcome_few : (session : ℕ) (wait : Wait) (f : Frame) → Answers session wanted.Welcome wait f → f.number ≤ 2 ^ 48
welcome_few session wait f a =
    few_by f.kind f.number f.payload (last_of IsLawful wait.passed f a.heard.stream.0).form (and_parts (f.session == session) (is_welcome f.kind) a.is_it).1

-- ---- the whole ----

-- what one call did and told
abbrev pub Dropped : {O F : Type 0} → Dropping O → (F → Option (List ℕ)) → (F → ℕ) → SessionRow → ℕ → (List Looked → Type 0) → (List Looked → Type 0) → (List ℕ → Type 0) → (List ℕ → Type 0) → Option (List ℕ) → Option (List ℕ) → Dropper O F → Dropper O F → Counts → DropEnd → Type 0
Dropped {O} {F} m left faults row most g g' s s' w w' old new n end = (x : Visit O F) × (looks_left : ℕ) × Drops m faults row looks_left old x n end
    × (most ≡ looks_left + length (all_looks x)) × Draws g g' (all_looks x) × Grows s s' (all_sent row x) × Appends w w' (all_printed row.id x) × (dropper_behind old x ≡ new)
    × ((start : List (List ℕ)) → m.tells → counted x ≡ length start → IsSettled m old.outbox → Fits start (m.stands old.outbox) → KeepsFolder m left start old x)

module _ {O F : Type 0} (m : Dropping O) (left : F → Option (List ℕ)) (faults : F → ℕ) (row : SessionRow) (most mid : ℕ) (g g1 : List Looked → Type 0) (s s1 : List ℕ → Type 0) (w : Option (List ℕ)) (old : Dropper O F) (hello : Frame) (hello_is : hello ≡ hello_frame row) (wait : Wait) (sent : List ℕ)
    (used : most ≡ mid + length wait.looks) (gave : Draws g g1 wait.looks) (sends : Grows s s1 sent) where
  pub ungreeted : (n : Counts) (end : DropEnd) → AskFails hello wanted.Welcome 0 mid wait sent n end → Dropped m left faults row most g g1 s s1 w w old old n end
  ungreeted n end fails = (
    Ungreeted wait sent,
    mid,
    subst (λ (f : Frame). AskFails f wanted.Welcome 0 mid wait sent n end) hello_is fails,
    used,
    gave,
    sends,
    Appends-nil w,
    refl,
    λ start tells counts settled fits. tt,
  )

  module _ (welcome : Frame) (answer : Answers hello.session wanted.Welcome wait welcome) (sent_is : sent ≡ spelling hello) (accepted : ℕ) (accepted_is : accepted ≡ welcome.number) (w1 : Option (List ℕ)) (first : Dropper O F) (printed : List ℕ) (prints : Appends w w1 printed) where
    answers : Answers row.id wanted.Welcome wait welcome
    answers = subst (λ (f : Frame). Answers f.session wanted.Welcome wait welcome) hello_is answer

    greets : Grows s s1 (spelling (hello_frame row))
    greets = subst (Grows s s1) (sent_is ∙ ap spelling hello_is) sends

    pub settle_ends : (k : Counts) (a now_link c d now_out : ℕ) (end : DropEnd) → c ≤ d → k.out ≡ d → k.now_out ≡ now_out → Settles m left faults row.id accepted old first printed k (Some end) → Dropped m left faults row most g g1 s s1 w w1 old first (counts a now_link c now_out) end
    settle_ends k a now_link c d now_out Write le is now_is (settled, told, keeps, ready, ends) = (
      Untold wait welcome settled first printed,
      mid,
      (answers, told, (ready.0, ready.1 ∙ accepted_is), line_later printed (settled_line row.id settled) k a now_link c d now_out le is now_is ends),
      used,
      gave,
      greets,
      prints,
      refl,
      λ start tells counts calm fits. (keeps tells start (accepted_is ∙ counts) calm fits).0,
    )
    settle_ends k a now_link c d now_out (Failed fault) le is now_is (cause, none, leaves) = (
      Unsettled wait welcome first,
      mid,
      (answers, cause),
      used,
      gave,
      greets,
      subst (Appends w w1) none prints,
      refl,
      λ start tells counts calm fits. leaves tells start (accepted_is ∙ counts) calm fits,
    )
    settle_ends k a now_link c d now_out Ended le is now_is ends = absurd ends
    settle_ends k a now_link c d now_out Looks le is now_is ends = absurd ends
    settle_ends k a now_link c d now_out (Refused code of) le is now_is ends = absurd ends
    settle_ends k a now_link c d now_out (Unfinished of) le is now_is ends = absurd ends

    module _ (k : Counts) (settles : Settles m left faults row.id accepted old first printed k None) (number_is : first.number ≡ accepted) (message_is : first.message ≡ row.message) (looks_left : ℕ) (g2 : List Looked → Type 0) (s2 : List ℕ → Type 0) (w2 : Option (List ℕ)) (new : Dropper O F) where
      from : first.number ≡ welcome.number
      from = number_is ∙ accepted_is

      are_turns : (turns : List (Turn O F)) → AreTurns m row.id first.message first.number first turns → AreTurns m row.id row.message welcome.number first turns
      are_turns turns are = subst (λ y. AreTurns m row.id row.message y first turns) from (subst (λ y. AreTurns m row.id y first.number first turns) message_is are)

      stops_at : (turns : List (Turn O F)) (stop : Stop O F) (n : Counts) (end : DropEnd) → StopsBy m faults row.id first.message (first.number + length (messages turns)) looks_left (reached first turns) stop n end
          → StopsBy m faults row.id row.message (welcome.number + length (messages turns)) looks_left (reached first turns) stop n end
      stops_at turns stop n end stops =
          subst (λ y. StopsBy m faults row.id row.message (y + length (messages turns)) looks_left (reached first turns) stop n end) from
          (subst (λ y. StopsBy m faults row.id y (first.number + length (messages turns)) looks_left (reached first turns) stop n end) message_is stops)

      pub greeted : (a b now_link c d now_out : ℕ) (end : DropEnd) → a ≤ b → c ≤ d → SendsFiles m left faults row.id mid looks_left first new (counts b now_link d now_out) end (Draws g1 g2) (Grows s1 s2) (Appends w1 w2)
          → Dropped m left faults row most g g2 s s2 w w2 old new (counts a now_link c now_out) end
      greeted a b now_link c d now_out end low out_low (turns, stop, are, stops, more_used, more_gave, more_sends, more_prints, is, behind) = (
        Greeted wait welcome settles.0 first turns stop,
        looks_left,
        (
          answers,
          settles.1,
          (settles.3.0, settles.3.1 ∙ accepted_is),
          are_turns turns are,
          stops_earlier m faults row.id row.message (welcome.number + length (messages turns)) looks_left (reached first turns) a b now_link c d now_out low out_low stop end (stops_at turns stop (counts b now_link d now_out) end stops),
        ),
        omega (arith, used, more_used, length-append wait.looks (looks_of turns ++ looks_at stop)),
        Draws-then g g1 g2 wait.looks (looks_of turns ++ looks_at stop) gave more_gave,
        Grows-then s s1 s2 (spelling (hello_frame row)) (sendings row.id welcome.number turns ++ sent_at row.id (welcome.number + length (messages turns)) stop) greets
            (subst (λ y. Grows s1 s2 (sendings row.id y turns ++ sent_at row.id (y + length (messages turns)) stop)) from more_sends),
        Appends-trans w w1 w2 (settled_line row.id settles.0) (lines row.id turns ++ printed_at row.id stop) (subst (Appends w w1) settles.4 prints) more_prints,
        is,
        λ start tells counts calm fits.
            let kept = settles.2 tells start (accepted_is ∙ counts) calm fits in
            (kept.0, λ unchanged. behind tells start (kept.1 unchanged)),
      )
