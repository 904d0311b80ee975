-- Turns of High's party, one after another.
use Rattle.std.proofs.Common.{◌≡◌, ◌≤◌, inl, inr, ℕ, ◌+◌, Bool, true, false, List, [], ◌∷◌, ◌++◌, length, Option, Some, None, refl, sym, ap, ◌∙◌, subst, append-nil, append_assoc, arith, length-append}
use Rattle.std.specs.Io.KnownBytes.{Appends}
use Rattle.std.proofs.KnownBytes.{Appends-nil, Appends-trans}
use Rattle.disk_model.specs.Disk.{Meaning}
use Rattle.pump_frame.specs.Counts.{Rose}
use Rattle.pump_frame.specs.declared.frame.Frame.{Frame}
use Rattle.pump_frame.specs.declared.frame.Kind.TheVariants.{Attach}
use Rattle.pump_frame.specs.declared.row.SessionRow.{SessionRow}
use Rattle.pump_frame.specs.Spellings.{spelling}
use Rattle.pump_link.specs.Tells.{Draws, Grows}
use Rattle.pump_link.specs.declared.link.Looked.{Looked}
use Rattle.pump_link.proofs.Grown.{Draws-then, Grows-kept, Grows-then}
use Rattle.file_messages.specs.Files.{File}
use Rattle.folders.specs.Placing.{Placing}
use Rattle.file_collector.specs.Collecting.{HasTaken}
use Rattle.file_collector.specs.declared.collector.Collector.{Collector}
use Rattle.peers.specs.Looks.{Hears, HearsJust, IsOver}
use Rattle.peers.specs.Outputs.{Counts, counts, SendsPart, plain_frame}
use Rattle.peers.specs.Receiving.{is_wanted}
use Rattle.peers.proofs.Hearing.{hears_none, just_join, over_earlier}
use Rattle.file_peers.specs.declared.collect.CollectEnd.{CollectEnd}
use Rattle.file_peers.specs.declared.collect.CollectEnd.TheVariants.{Ended, Looks, Write, Folder, NameTaken, Device, Ahead}
use Rattle.file_peers.specs.Collecting.{Turn, AreTurns, Collection, Collects, KeepsCollector, CountsOn, Passes, Refuses, EndsBy, frame_in, frames, messages, message_in, answer_in, line_in, lines, sendings, files_in, all_files, attempted, has_failed}
use Rattle.file_peers.specs.Taking.{Step, TakesFrame, MakesTurn, Fails}
use Rattle.file_peers.proofs.Stepping.{counts_on, counts_then, passes_more, passes_none, passes_then}

-- ---- the collector after some turns ----

pub record Turned {I D : Type 0} (mi : Placing I) (md : Meaning D) (row : SessionRow) (start : List (List ℕ)) (old new : Collector I D) (turns : List Turn) (heard : List Looked) : Type 0 where
  pub are : AreTurns row start turns
  pub taken : HasTaken mi md new (start ++ messages turns)
  pub shown : mi.tells → md.tells → mi.shown new.gatherer.inbox ≡ mi.shown old.gatherer.inbox ++ all_files start turns
  pub later : CountsOn mi md old new
  pub passes : Passes mi md (start ++ messages turns) old new
  pub hears : HearsJust heard (frames turns)

pub turned_none : {I D : Type 0} (mi : Placing I) (md : Meaning D) (row : SessionRow) (start : List (List ℕ)) (old : Collector I D) → HasTaken mi md old start → Turned mi md row start old old [] []
turned_none mi md row start old has = record {
  are = tt;
  taken = subst (λ (ms : List (List ℕ)). HasTaken mi md old ms) (sym (append-nil start)) has;
  shown = λ told tells. sym (append-nil (mi.shown old.gatherer.inbox));
  later = counts_on mi md old;
  passes = passes_none mi md (start ++ []) old;
  hears = hears_none;
}

pub turned_more : {I D : Type 0} (mi : Placing I) (md : Meaning D) (row : SessionRow) (start : List (List ℕ)) (old now new : Collector I D) (turns : List Turn) (heard looks : List Looked) (f : Frame) (t : Turn)
    → Turned mi md row start old now turns heard → HearsJust looks (f ∷ []) → frame_in t ≡ f → MakesTurn mi md row (start ++ messages turns) t now new → Turned mi md row start old new (t ∷ turns) (heard ++ looks)
turned_more {I = I} {D = D} mi md row start old now new turns heard looks f t was hears is made =
    let all = append_assoc start (messages turns) (message_in t) in
    record {
      are = (made.turn, was.are);
      taken = subst (λ (ms : List (List ℕ)). HasTaken mi md new ms) all made.taken;
      shown = λ told tells. made.shown told tells ∙ ap (λ (l : List File). l ++ files_in (start ++ messages turns) t) (was.shown told tells)
          ∙ append_assoc (mi.shown old.gatherer.inbox) (all_files start turns) (files_in (start ++ messages turns) t);
      later = counts_then mi md old now new was.later made.later;
      passes = subst (λ (ms : List (List ℕ)). Passes mi md ms old new) all (passes_then mi md _ old now new (passes_more mi md (start ++ messages turns) (message_in t) old now was.passes) made.passes);
      hears = subst (λ (l : List Frame). HearsJust (heard ++ looks) l) (ap (λ (x : Frame). frames turns ++ x ∷ []) (sym is)) (just_join heard looks (frames turns) (f ∷ []) was.hears hears);
    }

pub keeps : {I D : Type 0} (mi : Placing I) (md : Meaning D) (row : SessionRow) (start : List (List ℕ)) (old new : Collector I D) (heard : List Looked) (x : Collection) (end : CollectEnd) → has_failed end ≡ false
    → attempted x end ≡ messages x.turns → Turned mi md row start old new x.turns heard → KeepsCollector mi md start old new x end
keeps mi md row start old new heard x end well all was = record {
  taken = λ nay. was.taken;
  shown = λ nay. was.shown;
  closed = λ yes. absurd (let no = sym yes ∙ well in cc);
  cause = λ yes. absurd (let no = sym yes ∙ well in cc);
  passes = subst (λ (ms : List (List ℕ)). Passes mi md (start ++ ms) old new) (sym all) was.passes;
}

-- ---- all that was told ----

pub record SoFar {I D : Type 0} (mi : Placing I) (md : Meaning D) (row : SessionRow) (start : List (List ℕ)) (most left : ℕ) (gives now_gives : List Looked → Type 0) (sent now_sent : List ℕ → Type 0) (written now_written : Option (List ℕ)) (old new : Collector I D) : Type 0 where
  pub turns : List Turn
  pub heard : List Looked
  pub turned : Turned mi md row start old new turns heard
  pub used : most ≡ left + length heard
  pub gave : Draws gives now_gives heard
  pub did_send : Grows sent now_sent (sendings row.id (length start) turns)
  pub did_print : Appends written now_written (lines row.id turns)

pub so_far_none : {I D : Type 0} (mi : Placing I) (md : Meaning D) (row : SessionRow) (start : List (List ℕ)) (most : ℕ) (g g1 : List Looked → Type 0) (s s1 : List ℕ → Type 0) (w : Option (List ℕ)) (old : Collector I D) → HasTaken mi md old start
    → Draws g g1 [] → Grows s s1 (spelling (plain_frame Attach row.id (length start))) → SoFar mi md row start most most g g1 s s1 w w old old
so_far_none mi md row start most g g1 s s1 w old has gave sends = record { turns = []; heard = []; turned = turned_none mi md row start old has; used = omega arith; gave = gave; did_send = sends; did_print = Appends-nil w }

-- what one call did and told
abbrev pub Collected : {I D : Type 0} → Placing I → Meaning D → SessionRow → List (List ℕ) → ℕ → (List Looked → Type 0) → (List Looked → Type 0) → (List ℕ → Type 0) → (List ℕ → Type 0) → Option (List ℕ) → Option (List ℕ) → Collector I D → Collector I D → Counts → CollectEnd → Type 0
Collected mi md row start most g g' s s' w w' old new n end = (x : Collection) × Collects row most start x n end
    × Draws g g' (x.heard ++ x.looks) × Grows s s' x.sent × Appends w w' x.printed × KeepsCollector mi md start old new x end

rose_earlier : (a b n : ℕ) → a ≤ b → Rose b n → Rose a n
rose_earlier a b n le r = omega (arith, le, r)

module _ {I D : Type 0} (mi : Placing I) (md : Meaning D) (row : SessionRow) (start : List (List ℕ)) (most left left' : ℕ) (g g1 g2 : List Looked → Type 0) (s s1 s2 : List ℕ → Type 0) (w w1 w2 : Option (List ℕ)) (old now new : Collector I D) (looks : List Looked)
    (was : SoFar mi md row start most left g g1 s s1 w w1 old now) (fewer : left ≡ left' + length looks) (gave : Draws g1 g2 looks) where
  now_used : most ≡ left' + length (was.heard ++ looks)
  now_used = omega (arith, was.used, fewer, length-append was.heard looks)

  now_gave : Draws g g2 (was.heard ++ looks)
  now_gave = Draws-then g g1 g2 was.heard looks was.gave gave

  abbrev count : ℕ
  count = length start

  abbrev before : List (List ℕ)
  before = start ++ messages was.turns

  more_sent : (t : Turn) (sent : List ℕ) → sent ≡ answer_in row.id t → Grows s1 s2 sent → Grows s s2 (sendings row.id count (t ∷ was.turns))
  more_sent t sent e sends = Grows-then s s1 s2 (sendings row.id count was.turns) (answer_in row.id t) was.did_send (subst (Grows s1 s2) e sends)

  more_printed : (t : Turn) (printed : List ℕ) → printed ≡ line_in row.id t → Appends w1 w2 printed → Appends w w2 (lines row.id (t ∷ was.turns))
  more_printed t printed e prints = Appends-trans w w1 w2 (lines row.id was.turns) (line_in row.id t) was.did_print (subst (Appends w1 w2) e prints)

  none_sent : (sent : List ℕ) → sent ≡ [] → Grows s1 s2 sent → Grows s s2 (sendings row.id count was.turns)
  none_sent sent e sends = Grows-kept s s1 s2 (sendings row.id count was.turns) was.did_send (subst (Grows s1 s2) e sends)

  none_printed : (printed : List ℕ) → printed ≡ [] → Appends w1 w2 printed → Appends w w2 (lines row.id was.turns)
  none_printed printed e prints =
      subst (Appends w w2) (append-nil (lines row.id was.turns)) (Appends-trans w w1 w2 (lines row.id was.turns) [] was.did_print (subst (Appends w1 w2) e prints))

  pub turn_more : (f : Frame) (x : Step) (n : Counts) → HearsJust looks (f ∷ []) → TakesFrame mi md row before f now new x n None → Grows s1 s2 x.sent → Appends w1 w2 x.printed → SoFar mi md row start most left' g g2 s s2 w w2 old new
  turn_more f x n hears (t, is, made, sent, printed) sends prints = record {
    turns = t ∷ was.turns;
    heard = was.heard ++ looks;
    turned = turned_more mi md row start old now new was.turns was.heard looks f t was.turned hears is made;
    used = now_used;
    gave = now_gave;
    did_send = more_sent t x.sent sent sends;
    did_print = more_printed t x.printed printed prints;
  }

  -- the last frame was a turn, whose line or answer did not go out
  abbrev last_turn : (t : Turn) (sent printed : List ℕ) → Collection
  last_turn t sent printed = record { turns = t ∷ was.turns; heard = was.heard ++ looks; looks = []; refused = None; left = left'; sent = sent; printed = printed }

  turn_ends : (f : Frame) (t : Turn) (sent printed : List ℕ) (n : Counts) (end : CollectEnd) → HearsJust looks (f ∷ []) → frame_in t ≡ f → MakesTurn mi md row before t now new
      → has_failed end ≡ false → attempted (last_turn t sent printed) end ≡ messages (t ∷ was.turns)
      → EndsBy row count (length (start ++ messages (t ∷ was.turns))) (last_turn t sent printed) n end
      → Grows s s2 sent → Appends w w2 printed → Collected mi md row start most g g2 s s2 w w2 old new n end
  turn_ends f t sent printed n end hears is made nay all ends sends prints =
      let x = last_turn t sent printed in
      let now_turned = turned_more mi md row start old now new was.turns was.heard looks f t was.turned hears is made in
      let none : (was.heard ++ looks) ++ [] ≡ was.heard ++ looks = append-nil (was.heard ++ looks) in (
        x,
        record { turns = now_turned.are; heard = now_turned.hears; used = now_used ∙ ap (λ (l : List Looked). left' + length l) (sym none); ends = ends },
        subst (Draws g g2) (sym none) now_gave,
        sends,
        prints,
        keeps mi md row start old new (was.heard ++ looks) x end nay all now_turned,
      )

  -- the last frame was no turn
  abbrev last_frame : (refused : Option Frame) → Collection
  last_frame refused = record { turns = was.turns; heard = was.heard; looks = looks; refused = refused; left = left'; sent = sendings row.id count was.turns; printed = lines row.id was.turns }

  wait_told : (refused : Option Frame) (n : Counts) (end : CollectEnd) → EndsBy row count (length before) (last_frame refused) n end
      → Collects row most start (last_frame refused) n end
  wait_told refused n end ends = record { turns = was.turned.are; heard = was.turned.hears; used = now_used; ends = ends }

  pub wait_ends : (n : Counts) (end : CollectEnd) → has_failed end ≡ false → attempted (last_frame None) end ≡ messages was.turns
      → EndsBy row count (length before) (last_frame None) n end
      → Grows s1 s2 [] → Collected mi md row start most g g2 s s2 w w1 old now n end
  wait_ends n end nay all ends sends = (
    last_frame None,
    wait_told None n end ends,
    now_gave,
    none_sent [] refl sends,
    was.did_print,
    keeps mi md row start old now was.heard (last_frame None) end nay all was.turned,
  )

  pub over_ends : (b a now_link out now_out : ℕ) → a ≤ b → IsOver looks [] b now_link → Grows s1 s2 []
      → Collected mi md row start most g g2 s s2 w w1 old now (record { link = a; now_link = now_link; out = out; now_out = now_out; other = 0; now_other = 0 }) Ended
  over_ends b a now_link out now_out le over sends =
      wait_ends _ Ended refl refl (inl (record { none = refl; sent = refl; printed = refl }, over_earlier looks [] a b now_link le over)) sends

  pub used_ends : (n : Counts) → Hears looks [] → left' ≡ 0 → Grows s1 s2 [] → Collected mi md row start most g g2 s s2 w w1 old now n Looks
  used_ends n hears none sends = wait_ends n Looks refl refl (record { none = refl; sent = refl; printed = refl }, hears, none) sends

  refuses : (f : Frame) → HearsJust looks (f ∷ []) → is_wanted row f ≡ true → Refuses row count (last_frame (Some f)) f
  refuses f hears wanted = record { is = refl; heard = hears; wanted = wanted; sent = refl; printed = refl }

  ahead_ends : (f : Frame) (n : Counts) (end : CollectEnd) → new ≡ now → has_failed end ≡ false → attempted (last_frame (Some f)) end ≡ messages was.turns
      → EndsBy row count (length before) (last_frame (Some f)) n end
      → (sent printed : List ℕ) → sent ≡ [] → printed ≡ [] → Grows s1 s2 sent → Appends w1 w2 printed → Collected mi md row start most g g2 s s2 w w2 old new n end
  ahead_ends f n end same nay all ends sent printed no_sent no_printed sends prints = (
    last_frame (Some f),
    wait_told (Some f) n end ends,
    now_gave,
    none_sent sent no_sent sends,
    none_printed printed no_printed prints,
    subst (λ (c : Collector I D). KeepsCollector mi md start old c (last_frame (Some f)) end) (sym same) (keeps mi md row start old now was.heard (last_frame (Some f)) end nay all was.turned),
  )

  fail_ends : (f : Frame) (n : Counts) (end : CollectEnd) → Fails mi md row before f now new end → has_failed end ≡ true → attempted (last_frame (Some f)) end ≡ messages was.turns ++ f.payload ∷ []
      → EndsBy row count (length before) (last_frame (Some f)) n end
      → (sent printed : List ℕ) → sent ≡ [] → printed ≡ [] → Grows s1 s2 sent → Appends w1 w2 printed → Collected mi md row start most g g2 s s2 w w2 old new n end
  fail_ends f n end fails failed all ends sent printed no_sent no_printed sends prints = (
    last_frame (Some f),
    wait_told (Some f) n end ends,
    now_gave,
    none_sent sent no_sent sends,
    none_printed printed no_printed prints,
    record {
      taken = λ nay. absurd (let no = sym failed ∙ nay in cc);
      shown = λ nay. absurd (let no = sym failed ∙ nay in cc);
      closed = λ is. fails.closed;
      cause = λ is. (now, was.turned.later, was.turned.taken, fails.cause);
      passes = subst (λ (ms : List (List ℕ)). Passes mi md ms old new) (append_assoc start (messages was.turns) (f.payload ∷ []) ∙ ap (λ (ms : List (List ℕ)). start ++ ms) (sym all))
          (passes_then mi md _ old now new (passes_more mi md before (f.payload ∷ []) old now was.turned.passes) fails.passes);
    },
  )

  pub frame_ends : (f : Frame) (x : Step) (a b now_link c d now_out : ℕ) (end : CollectEnd) → HearsJust looks (f ∷ []) → a ≤ b → c ≤ d
      → TakesFrame mi md row before f now new x (counts b now_link d now_out) (Some end) → Grows s1 s2 x.sent → Appends w1 w2 x.printed
      → Collected mi md row start most g g2 s s2 w w2 old new (counts a now_link c now_out) end
  frame_ends f x a b now_link c d now_out Ended hears low out_low (t, is, made, prefix, printed, rose) sends prints =
      turn_ends f t (sendings row.id count was.turns ++ x.sent) (lines row.id (t ∷ was.turns)) (counts a now_link c now_out) Ended hears is made refl refl
      (inr (record { none = refl; looks = refl }, (x.sent, prefix, refl), refl, rose_earlier a b now_link low rose))
      (Grows-then s s1 s2 (sendings row.id count was.turns) x.sent was.did_send sends) (more_printed t x.printed printed prints)
  frame_ends f x a b now_link c d now_out Write hears low out_low (t, is, made, none, prefix, rose) sends prints =
      turn_ends f t (sendings row.id count was.turns) (lines row.id was.turns ++ x.printed) (counts a now_link c now_out) Write hears is made refl refl
      (record { none = refl; looks = refl }, (x.printed, prefix, refl, refl), rose_earlier c d now_out out_low rose)
      (none_sent x.sent none sends) (Appends-trans w w1 w2 (lines row.id was.turns) x.printed was.did_print prints)
  frame_ends f x a b now_link c d now_out (Folder faults) hears low out_low (fails, (no_sent, no_printed)) sends prints =
      fail_ends f (counts a now_link c now_out) (Folder faults) fails refl refl (f, (refuses f hears fails.wanted, fails.next)) x.sent x.printed no_sent no_printed sends prints
  frame_ends f x a b now_link c d now_out (NameTaken number) hears low out_low (fails, is, (no_sent, no_printed)) sends prints =
      fail_ends f (counts a now_link c now_out) (NameTaken number) fails refl refl (f, (refuses f hears fails.wanted, fails.next), is) x.sent x.printed no_sent no_printed sends prints
  frame_ends f x a b now_link c d now_out (Device faults) hears low out_low (fails, (no_sent, no_printed)) sends prints =
      fail_ends f (counts a now_link c now_out) (Device faults) fails refl refl (f, (refuses f hears fails.wanted, fails.next)) x.sent x.printed no_sent no_printed sends prints
  frame_ends f x a b now_link c d now_out (Ahead number expected) hears low out_low (wanted, same, high, is, of, (no_sent, no_printed)) sends prints =
      ahead_ends f (counts a now_link c now_out) (Ahead number expected) same refl refl (f, refuses f hears wanted, high, is, of) x.sent x.printed no_sent no_printed sends prints
  frame_ends f x a b now_link c d now_out Looks hears low out_low step sends prints = absurd step

-- ATTACH was not sent whole
pub attach_fails : {I D : Type 0} (mi : Placing I) (md : Meaning D) (row : SessionRow) (start : List (List ℕ)) (most : ℕ) (g g1 : List Looked → Type 0) (s s1 : List ℕ → Type 0) (w : Option (List ℕ)) (old : Collector I D) (b : Bool) (n : Counts) → HasTaken mi md old start
    → Draws g g1 [] → SendsPart s s1 b (spelling (plain_frame Attach row.id (length start))) → Rose n.link n.now_link → Collected mi md row start most g g1 s s1 w w old old n Ended
attach_fails mi md row start most g g1 s s1 w old b n has gave (prefix, is_prefix, whole, sends) rose =
    let x : Collection = record { turns = []; heard = []; looks = []; refused = None; left = most; sent = prefix; printed = [] } in (
      x,
      record { turns = tt; heard = hears_none; used = omega arith; ends = inr (record { none = refl; looks = refl }, is_prefix, refl, rose) },
      gave,
      sends,
      Appends-nil w,
      keeps mi md row start old old [] x Ended refl refl (turned_none mi md row start old has),
    )
