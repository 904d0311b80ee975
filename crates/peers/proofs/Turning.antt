-- Turns of a receiver, one after another.
use Rattle.std.proofs.Common.{◌≡◌, ◌≤◌, ◌<◌, inl, inr, ℕ, ◌+◌, Bool, true, false, List, [], ◌∷◌, ◌++◌, length, Option, Some, None, refl, sym, ap, ◌∙◌, subst, append-nil, arith, length-append}
use Rattle.std.specs.Io.KnownBytes.{Appends}
use Rattle.std.proofs.KnownBytes.{Appends-nil, Appends-trans}
use Rattle.disk_model.specs.Disk.{Meaning}
use Rattle.pump_frame.specs.Counts.{Rose}
use Rattle.pump_frame.specs.declared.frame.Frame.{Frame}
use Rattle.pump_frame.specs.declared.frame.Kind.TheVariants.{Attach}
use Rattle.pump_frame.specs.declared.row.SessionRow.{SessionRow}
use Rattle.pump_frame.specs.Spellings.{spelling}
use Rattle.pump_link.specs.Tells.{Draws, Grows}
use Rattle.pump_link.specs.declared.link.Looked.{Looked}
use Rattle.pump_link.proofs.Grown.{Draws-then, Grows-kept, Grows-then}
use Rattle.high_receiver.specs.declared.receiver.Receiver.{Receiver}
use Rattle.high_receiver.specs.Receiving.{IsRecvReady, recv_disk, recv_count, recv_end, recv_row, recv_size, recv_is_open}
use Rattle.peers.specs.declared.receive.ReceiveEnd.{ReceiveEnd}
use Rattle.peers.specs.declared.receive.ReceiveEnd.TheVariants.{Ended, Looks, Write, Device, Ahead, LogFull}
use Rattle.peers.specs.Looks.{Hears, HearsJust, IsOver}
use Rattle.peers.specs.Outputs.{Counts, all_counts, SendsPart, plain_frame}
use Rattle.peers.specs.Receiving.{Turn, Place, IsTurn, AreTurns, place_of, place_by, place_after, frame_in, frames, messages, message_in, answer_in, line_in, lines, sendings, is_wanted, IsNext, Refuses, Reception, Receives, EndsBy, KeepsReceiver, attempted, is_device}
use Rattle.peers.specs.Takes.{Step, TakesFrame, MakesTurn, GrowsBy, GrowsPart}
use Rattle.peers.proofs.Hearing.{hears_none, just_join, over_earlier}
use Rattle.peers.proofs.Taking.{grows_nothing, grows_join, grows_part, whole_part, in_call}

-- ---- the receiver after some turns ----

pub record Turned {D : Type 0} (m : Meaning D) (row : SessionRow) (old new : Receiver D) (turns : List Turn) (heard : List Looked) : Type 0 where
  pub are : AreTurns row (recv_size old) (place_of old) turns
  pub place : place_of new ≡ place_after (place_of old) turns
  pub ready : IsRecvReady m new
  pub same_row : recv_row new ≡ recv_row old
  pub same_size : recv_size new ≡ recv_size old
  pub grows : GrowsBy m row (recv_disk old) (recv_disk new) (messages turns)
  pub hears : HearsJust heard (frames turns)

pub turned_none : {D : Type 0} (m : Meaning D) (row : SessionRow) (old : Receiver D) → IsRecvReady m old → Turned m row old old [] []
turned_none m row old ready = record { are = tt; place = refl; ready = ready; same_row = refl; same_size = refl; grows = grows_nothing m row (recv_disk old); hears = hears_none }

turn_here : (row : SessionRow) (size size' : ℕ) (p q : Place) (t : Turn) → size ≡ size' → p ≡ q → IsTurn row size p t → IsTurn row size' q t
turn_here row size size' p q t e d is = subst (λ (x : Place). IsTurn row size' x t) d (subst (λ n. IsTurn row n p t) e is)

pub turned_more : {D : Type 0} (m : Meaning D) (row : SessionRow) (old now new : Receiver D) (turns : List Turn) (heard looks : List Looked) (f : Frame) (t : Turn)
    → Turned m row old now turns heard → HearsJust looks (f ∷ []) → frame_in t ≡ f → MakesTurn m row t now new → Turned m row old new (t ∷ turns) (heard ++ looks)
turned_more m row old now new turns heard looks f t was hears is made = record {
  are = (turn_here row (recv_size now) (recv_size old) (place_of now) (place_after (place_of old) turns) t was.same_size was.place made.turn, was.are);
  place = made.place ∙ ap (λ (p : Place). place_by p t) was.place;
  ready = made.ready;
  same_row = made.same_row ∙ was.same_row;
  same_size = made.same_size ∙ was.same_size;
  grows = grows_join m row (recv_disk old) (recv_disk now) (recv_disk new) (messages turns) (message_in t) was.grows made.grows;
  hears = subst (λ (l : List Frame). HearsJust (heard ++ looks) l) (ap (λ (x : Frame). frames turns ++ x ∷ []) (sym is)) (just_join heard looks (frames turns) (f ∷ []) was.hears hears);
}

pub keeps : {D : Type 0} (m : Meaning D) (row : SessionRow) (old new : Receiver D) (heard : List Looked) (x : Reception) (end : ReceiveEnd) → IsRecvReady m old
    → is_device end ≡ false → attempted x end ≡ messages x.turns → Turned m row old new x.turns heard → KeepsReceiver m row old new x end
keeps m row old new heard x end ready not_device all was =
    let part = subst (λ (l : List (List ℕ)). GrowsPart m row (recv_disk old) (recv_disk new) l) (sym all) (whole_part m row (recv_disk old) (recv_disk new) (messages x.turns) was.grows) in
    record {
      place = λ nay. was.place;
      ready = λ nay. was.ready;
      closed = λ wanted. cc;
      same_row = was.same_row;
      same_size = was.same_size;
      grown = λ nay told before is. was.grows.stands told before is;
      reads = part.reads;
      during = in_call m row (recv_disk old) (recv_disk new) (attempted x end) ready.settled part;
    }

-- ---- all that was told ----

pub record SoFar {D : Type 0} (m : Meaning D) (row : SessionRow) (most left : ℕ) (gives now_gives : List Looked → Type 0) (sent now_sent : List ℕ → Type 0) (written now_written : Option (List ℕ)) (old new : Receiver D) : Type 0 where
  pub turns : List Turn
  pub heard : List Looked
  pub turned : Turned m row old new turns heard
  pub used : most ≡ left + length heard
  pub gave : Draws gives now_gives heard
  pub did_send : Grows sent now_sent (sendings row.id (recv_count old) turns)
  pub did_print : Appends written now_written (lines row.id turns)

pub so_far_none : {D : Type 0} (m : Meaning D) (row : SessionRow) (most : ℕ) (g g1 : List Looked → Type 0) (s s1 : List ℕ → Type 0) (w : Option (List ℕ)) (old : Receiver D) → IsRecvReady m old
    → Draws g g1 [] → Grows s s1 (spelling (plain_frame Attach row.id (recv_count old))) → SoFar m row most most g g1 s s1 w w old old
so_far_none m row most g g1 s s1 w old ready gave sends = record { turns = []; heard = []; turned = turned_none m row old ready; used = omega arith; gave = gave; did_send = sends; did_print = Appends-nil w }

-- what one call did and told
abbrev pub Received : {D : Type 0} → Meaning D → SessionRow → ℕ → (List Looked → Type 0) → (List Looked → Type 0) → (List ℕ → Type 0) → (List ℕ → Type 0) → Option (List ℕ) → Option (List ℕ) → Receiver D → Receiver D → Counts → ReceiveEnd → Type 0
Received m row most g g' s s' w w' old new n end = (x : Reception) × Receives row (recv_size old) most (place_of old) x n end
    × Draws g g' (x.heard ++ x.looks) × Grows s s' x.sent × Appends w w' x.printed × KeepsReceiver m row old new x end

rose_earlier : (a b n : ℕ) → a ≤ b → Rose b n → Rose a n
rose_earlier a b n le r = omega (arith, le, r)

module _ {D : Type 0} (m : Meaning D) (row : SessionRow) (most left left' : ℕ) (g g1 g2 : List Looked → Type 0) (s s1 s2 : List ℕ → Type 0) (w w1 w2 : Option (List ℕ)) (old now new : Receiver D) (looks : List Looked)
    (was : SoFar m row most left g g1 s s1 w w1 old now) (fewer : left ≡ left' + length looks) (gave : Draws g1 g2 looks) where
  now_used : most ≡ left' + length (was.heard ++ looks)
  now_used = omega (arith, was.used, fewer, length-append was.heard looks)

  now_gave : Draws g g2 (was.heard ++ looks)
  now_gave = Draws-then g g1 g2 was.heard looks was.gave gave

  more_sent : (t : Turn) (sent : List ℕ) → sent ≡ answer_in row.id t → Grows s1 s2 sent → Grows s s2 (sendings row.id (recv_count old) (t ∷ was.turns))
  more_sent t sent e sends = Grows-then s s1 s2 (sendings row.id (recv_count old) was.turns) (answer_in row.id t) was.did_send (subst (Grows s1 s2) e sends)

  more_printed : (t : Turn) (printed : List ℕ) → printed ≡ line_in row.id t → Appends w1 w2 printed → Appends w w2 (lines row.id (t ∷ was.turns))
  more_printed t printed e prints = Appends-trans w w1 w2 (lines row.id was.turns) (line_in row.id t) was.did_print (subst (Appends w1 w2) e prints)

  none_sent : (sent : List ℕ) → sent ≡ [] → Grows s1 s2 sent → Grows s s2 (sendings row.id (recv_count old) was.turns)
  none_sent sent e sends = Grows-kept s s1 s2 (sendings row.id (recv_count old) was.turns) was.did_send (subst (Grows s1 s2) e sends)

  none_printed : (printed : List ℕ) → printed ≡ [] → Appends w1 w2 printed → Appends w w2 (lines row.id was.turns)
  none_printed printed e prints =
      subst (Appends w w2) (append-nil (lines row.id was.turns)) (Appends-trans w w1 w2 (lines row.id was.turns) [] was.did_print (subst (Appends w1 w2) e prints))

  pub turn_more : (f : Frame) (x : Step) (n : Counts) → HearsJust looks (f ∷ []) → TakesFrame m row f now new x n None → Grows s1 s2 x.sent → Appends w1 w2 x.printed → SoFar m row most left' g g2 s s2 w w2 old new
  turn_more f x n hears (t, is, made, sent, printed) sends prints = record {
    turns = t ∷ was.turns;
    heard = was.heard ++ looks;
    turned = turned_more m row old now new was.turns was.heard looks f t was.turned hears is made;
    used = now_used;
    gave = now_gave;
    did_send = more_sent t x.sent sent sends;
    did_print = more_printed t x.printed printed prints;
  }

  -- the last frame was a turn, whose line or answer did not go out
  abbrev last_turn : (t : Turn) (sent printed : List ℕ) → Reception
  last_turn t sent printed = record { turns = t ∷ was.turns; heard = was.heard ++ looks; looks = []; refused = None; left = left'; sent = sent; printed = printed }

  turn_ends : (f : Frame) (t : Turn) (sent printed : List ℕ) (n : Counts) (end : ReceiveEnd) → IsRecvReady m old → HearsJust looks (f ∷ []) → frame_in t ≡ f → MakesTurn m row t now new
      → is_device end ≡ false → attempted (last_turn t sent printed) end ≡ messages (t ∷ was.turns)
      → EndsBy row (recv_size old) (recv_count old) (place_after (place_of old) (t ∷ was.turns)) (last_turn t sent printed) n end
      → Grows s s2 sent → Appends w w2 printed → Received m row most g g2 s s2 w w2 old new n end
  turn_ends f t sent printed n end ready hears is made nay all ends sends prints =
      let x = last_turn t sent printed in
      let now_turned = turned_more m row old now new was.turns was.heard looks f t was.turned hears is made in
      let none : (was.heard ++ looks) ++ [] ≡ was.heard ++ looks = append-nil (was.heard ++ looks) in (
        x,
        record { turns = now_turned.are; heard = now_turned.hears; used = now_used ∙ ap (λ (l : List Looked). left' + length l) (sym none); ends = ends },
        subst (Draws g g2) (sym none) now_gave,
        sends,
        prints,
        keeps m row old new (was.heard ++ looks) x end ready nay all now_turned,
      )

  -- the last frame was no turn
  abbrev last_frame : (refused : Option Frame) → Reception
  last_frame refused = record { turns = was.turns; heard = was.heard; looks = looks; refused = refused; left = left'; sent = sendings row.id (recv_count old) was.turns; printed = lines row.id was.turns }

  wait_told : (refused : Option Frame) (n : Counts) (end : ReceiveEnd) → EndsBy row (recv_size old) (recv_count old) (place_after (place_of old) was.turns) (last_frame refused) n end
      → Receives row (recv_size old) most (place_of old) (last_frame refused) n end
  wait_told refused n end ends = record { turns = was.turned.are; heard = was.turned.hears; used = now_used; ends = ends }

  pub wait_ends : (n : Counts) (end : ReceiveEnd) → IsRecvReady m old → is_device end ≡ false → attempted (last_frame None) end ≡ messages was.turns
      → EndsBy row (recv_size old) (recv_count old) (place_after (place_of old) was.turns) (last_frame None) n end
      → Grows s1 s2 [] → Received m row most g g2 s s2 w w1 old now n end
  wait_ends n end ready nay all ends sends = (
    last_frame None,
    wait_told None n end ends,
    now_gave,
    none_sent [] refl sends,
    was.did_print,
    keeps m row old now was.heard (last_frame None) end ready nay all was.turned,
  )

  pub over_ends : (b a now_link out now_out other now_other : ℕ) → IsRecvReady m old → a ≤ b → IsOver looks [] b now_link → Grows s1 s2 []
      → Received m row most g g2 s s2 w w1 old now (record { link = a; now_link = now_link; out = out; now_out = now_out; other = other; now_other = now_other }) Ended
  over_ends b a now_link out now_out other now_other ready le over sends =
      wait_ends _ Ended ready refl refl (inl (record { none = refl; sent = refl; printed = refl }, over_earlier looks [] a b now_link le over)) sends

  pub used_ends : (n : Counts) → IsRecvReady m old → Hears looks [] → left' ≡ 0 → Grows s1 s2 [] → Received m row most g g2 s s2 w w1 old now n Looks
  used_ends n ready hears none sends = wait_ends n Looks ready refl refl (record { none = refl; sent = refl; printed = refl }, hears, none) sends

  refused_ends : (f : Frame) (n : Counts) (end : ReceiveEnd) → IsRecvReady m old → new ≡ now → is_device end ≡ false → attempted (last_frame (Some f)) end ≡ messages was.turns
      → EndsBy row (recv_size old) (recv_count old) (place_after (place_of old) was.turns) (last_frame (Some f)) n end
      → (sent printed : List ℕ) → sent ≡ [] → printed ≡ [] → Grows s1 s2 sent → Appends w1 w2 printed → Received m row most g g2 s s2 w w2 old new n end
  refused_ends f n end ready same nay all ends sent printed no_sent no_printed sends prints = (
    last_frame (Some f),
    wait_told (Some f) n end ends,
    now_gave,
    none_sent sent no_sent sends,
    none_printed printed no_printed prints,
    subst (λ (r : Receiver D). KeepsReceiver m row old r (last_frame (Some f)) end) (sym same) (keeps m row old now was.heard (last_frame (Some f)) end ready nay all was.turned),
  )

  refuses : (f : Frame) → HearsJust looks (f ∷ []) → is_wanted row f ≡ true → Refuses row (recv_count old) (last_frame (Some f)) f
  refuses f hears wanted = record { is = refl; heard = hears; wanted = wanted; sent = refl; printed = refl }

  here : place_of now ≡ place_after (place_of old) was.turns
  here = was.turned.place

  device_ends : (f : Frame) (n : Counts) (faults : ℕ) → IsRecvReady m old → HearsJust looks (f ∷ []) → is_wanted row f ≡ true → IsNext (recv_size now) (place_of now) f
      → recv_is_open new ≡ false → recv_row new ≡ recv_row now → recv_size new ≡ recv_size now → Rose n.other n.now_other → faults ≡ n.now_other
      → GrowsPart m row (recv_disk now) (recv_disk new) (f.payload ∷ []) → (sent printed : List ℕ) → sent ≡ [] → printed ≡ [] → Grows s1 s2 sent → Appends w1 w2 printed
      → Received m row most g g2 s s2 w w2 old new n (Device faults)
  device_ends f n faults ready hears wanted next closed same_row same_size rose is grows sent printed no_sent no_printed sends prints =
      let part = grows_part m row (recv_disk old) (recv_disk now) (recv_disk new) (messages was.turns) (f.payload ∷ []) was.turned.grows grows in
      let next' : IsNext (recv_size old) (place_after (place_of old) was.turns) f =
      subst (λ (p : Place). IsNext (recv_size old) p f) here (subst (λ k. IsNext k (place_of now) f) was.turned.same_size next) in (
        last_frame (Some f),
        wait_told (Some f) n (Device faults) (f, refuses f hears wanted, next', rose, is),
        now_gave,
        none_sent sent no_sent sends,
        none_printed printed no_printed prints,
        record {
          place = λ nay. cc;
          ready = λ nay. cc;
          closed = λ closes. closed;
          same_row = same_row ∙ was.turned.same_row;
          same_size = same_size ∙ was.turned.same_size;
          grown = λ nay. cc;
          reads = part.reads;
          during = in_call m row (recv_disk old) (recv_disk new) (messages was.turns ++ f.payload ∷ []) ready.settled part;
        },
      )

  -- the counts of the call, after those of its last part
  abbrev counts : ℕ → ℕ → ℕ → ℕ → Receiver D → Counts
  counts link now_link out now_out from = all_counts link now_link out now_out (m.count (recv_disk from)) (m.count (recv_disk new))

  pub frame_ends : (f : Frame) (x : Step) (a b now_link c d now_out : ℕ) (end : ReceiveEnd) → IsRecvReady m old → HearsJust looks (f ∷ []) → a ≤ b → c ≤ d
      → TakesFrame m row f now new x (counts b now_link d now_out now) (Some end) → Grows s1 s2 x.sent → Appends w1 w2 x.printed
      → Received m row most g g2 s s2 w w2 old new (counts a now_link c now_out old) end
  frame_ends f x a b now_link c d now_out Ended ready hears low out_low (t, is, made, prefix, printed, rose) sends prints =
      turn_ends f t (sendings row.id (recv_count old) was.turns ++ x.sent) (lines row.id (t ∷ was.turns)) (counts a now_link c now_out old) Ended ready hears is made refl refl
      (inr (record { none = refl; looks = refl }, (x.sent, prefix, refl), refl, rose_earlier a b now_link low rose))
      (Grows-then s s1 s2 (sendings row.id (recv_count old) was.turns) x.sent was.did_send sends) (more_printed t x.printed printed prints)
  frame_ends f x a b now_link c d now_out Write ready hears low out_low (t, is, made, none, prefix, rose) sends prints =
      turn_ends f t (sendings row.id (recv_count old) was.turns) (lines row.id was.turns ++ x.printed) (counts a now_link c now_out old) Write ready hears is made refl refl
      (record { none = refl; looks = refl }, (x.printed, prefix, refl, refl), rose_earlier c d now_out out_low rose)
      (none_sent x.sent none sends) (Appends-trans w w1 w2 (lines row.id was.turns) x.printed was.did_print prints)
  frame_ends f x a b now_link c d now_out (Device faults) ready hears low out_low (wanted, next, closed, same_row, same_size, rose, is, grows, (no_sent, no_printed)) sends prints =
      device_ends f (counts a now_link c now_out old) faults ready hears wanted next closed same_row same_size
      (rose_earlier (m.count (recv_disk old)) (m.count (recv_disk now)) (m.count (recv_disk new)) was.turned.grows.counts rose) is grows x.sent x.printed no_sent no_printed sends prints
  frame_ends f x a b now_link c d now_out (Ahead number count) ready hears low out_low ((wanted, same), high, is, expected, (no_sent, no_printed)) sends prints =
      refused_ends f (counts a now_link c now_out old) (Ahead number count) ready same refl refl
      (f, refuses f hears wanted, subst (λ (p : Place). p.count < f.number) here high, is, expected ∙ ap (λ (p : Place). p.count) here) x.sent x.printed no_sent no_printed sends prints
  frame_ends f x a b now_link c d now_out (LogFull end size limit) ready hears low out_low ((wanted, same), is, long, at, of, most_is, (no_sent, no_printed)) sends prints =
      refused_ends f (counts a now_link c now_out old) (LogFull end size limit) ready same refl refl (
        f,
        refuses f hears wanted,
        is ∙ ap (λ (p : Place). p.count) here,
        subst (λ (p : Place). recv_size old < p.end + 2 + length f.payload) here (subst (λ k. k < recv_end now + 2 + length f.payload) was.turned.same_size long),
        at ∙ ap (λ (p : Place). p.end) here,
        of,
        most_is ∙ was.turned.same_size,
      ) x.sent x.printed no_sent no_printed sends prints
  frame_ends f x a b now_link c d now_out Looks ready hears low out_low step sends prints = absurd step

-- ATTACH was not sent whole
pub attach_fails : {D : Type 0} (m : Meaning D) (row : SessionRow) (most : ℕ) (g g1 : List Looked → Type 0) (s s1 : List ℕ → Type 0) (w : Option (List ℕ)) (old : Receiver D) (b : Bool) (n : Counts) → IsRecvReady m old
    → Draws g g1 [] → SendsPart s s1 b (spelling (plain_frame Attach row.id (recv_count old))) → Rose n.link n.now_link → Received m row most g g1 s s1 w w old old n Ended
attach_fails m row most g g1 s s1 w old b n ready gave (prefix, is_prefix, whole, sends) rose =
    let x : Reception = record { turns = []; heard = []; looks = []; refused = None; left = most; sent = prefix; printed = [] } in (
      x,
      record { turns = tt; heard = hears_none; used = omega arith; ends = inr (record { none = refl; looks = refl }, is_prefix, refl, rose) },
      gave,
      sends,
      Appends-nil w,
      keeps m row old old [] x Ended ready refl refl (turned_none m row old ready),
    )
