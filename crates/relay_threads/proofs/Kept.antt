-- The recorded looks of a life are a life of their own, with the same state at its end.
use Rattle.std.proofs.Common.{◌≡◌, ℕ, ◌≤◌, Bool, true, false, List, [], ◌∷◌, ◌++◌, length, Option, Some, None, refl, sym, ap, ◌∙◌, subst, append-nil, le_refl, le_trans}
use Rattle.std.specs.Prelude.{if◌then◌else◌, ◌||◌, ◌&&◌, not, is_some}
use Rattle.pump_frame.specs.declared.frame.Frame.{Frame}
use Rattle.pump_frame.specs.declared.row.SessionRow.{SessionRow}
use Rattle.pump_core.specs.History.{Look, Opening, first_life}
use Rattle.pump_core.specs.Exchanges.{Part, IsCut}
use Rattle.pump_core.specs.Replies.{Sent, sent, LowReplies}
use Rattle.pump_core.specs.Step.{after, reply_at, takes_at, is_full}
use Rattle.pump_core.specs.Standing.{State, StandsAt, last_moment, end_of}
use Rattle.pump_core.proofs.Cuts.{one_cut}
use Rattle.pump_core.proofs.Standings.{stands_after, replies_after, newest_after}
use Rattle.relay_threads.specs.Records.{Made, looks_made, replies_made, life_made, history_made, IsMade, AreMade, passes_on, was_full, is_recorded, recorded, made_of, record_of}
use Rattle.relay_threads.proofs.Machine.{Led, led, reply_led, stays}

module _ (row : SessionRow) (o : Opening) where
  -- the looks are cut so, and the recorded ones end in the same state
  pub record Thin (made : List Made) : Type 0 where
    pub parts : List Part
    pub cut : IsCut row (life_made o made) parts
    pub whole : StandsAt row (end_of row o parts) (last_moment (looks_made made)) (history_made o made)
    pub replies : LowReplies row (history_made o made) (replies_made made)
    pub last : ℕ
    pub thin : StandsAt row (end_of row o parts) last (history_made o (record_of made))
    pub le : last ≤ last_moment (looks_made made)
    pub thin_replies : LowReplies row (history_made o (record_of made)) (replies_made (record_of made))
    pub are_made : AreMade row o (record_of made)

  begin : StandsAt row (end_of row o []) 0 (first_life o)
  begin = record { earlier = tt; parts = []; cut = record { are_parts = tt; looks = refl }; state = refl; newest = refl; ordered = tt }

  no_replies : LowReplies row (first_life o) []
  no_replies = ([], [], refl, ([], record { are_parts = tt; looks = refl }, refl), refl)

  all_false : (a b c d : Bool) → a || (b || (c || d)) ≡ false → (a ≡ false) × (b ≡ false) × (c ≡ false)
  all_false true b c d e = absurd (cc)
  all_false false true c d e = absurd (cc)
  all_false false false true d e = absurd (cc)
  all_false false false false d e = (refl, refl, refl)

  module _ (m : Made) (before : List Made) (is : IsMade row o m before) (t : Thin before) where
    abbrev x : Look
    x = m.look

    abbrev s : State
    s = end_of row o t.parts

    step : Led row o t.parts x is.parts
    step = led row o (looks_made before) x t.parts is.parts t.cut is.cut

    reply_is : m.reply ≡ reply_at row s x
    reply_is = reply_led row s (last_moment (looks_made before)) (history_made o before) x m.reply (replies_made before) step.fits t.whole t.replies is.replies

    taken_is : m.taken ≡ takes_at s x
    taken_is = is.taken ∙ step.newest.taken

    whole_now : StandsAt row (end_of row o is.parts) x.moment (history_made o (m ∷ before))
    whole_now = subst (λ (z : State). StandsAt row z x.moment (history_made o (m ∷ before))) (sym step.state) (stands_after row s (last_moment (looks_made before)) (history_made o before) x step.fits t.whole is.order)

    abbrev fewer : List Made
    fewer = record_of before

    thin_now : StandsAt row (after row s x) x.moment (history_made o (m ∷ fewer))
    thin_now = stands_after row s t.last (history_made o fewer) x step.fits t.thin (le_trans t.le is.order)

    replies_now : LowReplies row (history_made o (m ∷ fewer)) (replies_made (m ∷ fewer))
    replies_now = subst (λ (z : Option Frame). LowReplies row (history_made o (m ∷ fewer)) (replies_made fewer ++ sent x z)) (sym reply_is) (replies_after row s t.last (history_made o fewer) x step.fits t.thin (replies_made fewer) t.thin_replies)

    is_made_now : IsMade row o m fewer
    is_made_now = record {
      order = subst (λ (z : ℕ). z ≤ x.moment) t.thin.newest (le_trans t.le is.order);
      parts = thin_now.parts;
      cut = thin_now.cut;
      taken = taken_is ∙ sym (newest_after row s t.last (history_made o fewer) x step.fits t.thin thin_now.parts thin_now.cut).taken;
      replies = replies_now;
    }

    more : (b : Bool) → is_recorded before m ≡ b → Thin (m ∷ before)
    more true e =
        let is_it : made_of (recorded (m ∷ before)) ≡ m ∷ fewer = ap (λ (b : Bool). made_of (if b then record { number = length before; made = m } ∷ recorded before else recorded before)) e in
        record {
          parts = is.parts;
          cut = is.cut;
          whole = whole_now;
          replies = is.replies;
          last = x.moment;
          thin = subst (λ (z : State × List Made). StandsAt row z.0 x.moment (history_made o z.1)) (λ i. (sym step.state i, sym is_it i)) thin_now;
          le = le_refl x.moment;
          thin_replies = subst (λ (z : List Made). LowReplies row (history_made o z) (replies_made z)) (sym is_it) replies_now;
          are_made = subst (AreMade row o) (sym is_it) (is_made_now, t.are_made);
        }
    more false e =
        let is_it : made_of (recorded (m ∷ before)) ≡ fewer = ap (λ (b : Bool). made_of (if b then record { number = length before; made = m } ∷ recorded before else recorded before)) e in
        let no = all_false m.taken (is_some m.reply) (passes_on x.feedback) _ e in
        let same : after row s x ≡ s = stays row s x step.fits (sym taken_is ∙ no.0) (ap is_some (sym reply_is) ∙ no.1) no.2 in
        record {
          parts = is.parts;
          cut = is.cut;
          whole = whole_now;
          replies = is.replies;
          last = t.last;
          thin = subst (λ (z : State × List Made). StandsAt row z.0 t.last (history_made o z.1)) (λ i. (sym (step.state ∙ same) i, sym is_it i)) t.thin;
          le = le_trans t.le is.order;
          thin_replies = subst (λ (z : List Made). LowReplies row (history_made o z) (replies_made z)) (sym is_it) t.thin_replies;
          are_made = subst (AreMade row o) (sym is_it) t.are_made;
        }

  pub thin_of : (made : List Made) → AreMade row o made → Thin made
  thin_of [] are = record {
    parts = [];
    cut = record { are_parts = tt; looks = refl };
    whole = begin;
    replies = no_replies;
    last = 0;
    thin = begin;
    le = le_refl 0;
    thin_replies = no_replies;
    are_made = tt;
  }
  thin_of (m ∷ before) are = more m before are.0 (thin_of before are.1) (is_recorded before m) refl

second_false : (a b c : Bool) → a || (b || c) ≡ false → b ≡ false
second_false true b c e = absurd (cc)
second_false false true c e = absurd (cc)
second_false false false c e = refl

silent : (x : Look) (rs : List Sent) (r : Option Frame) → is_some r ≡ false → rs ++ sent x r ≡ rs
silent x rs None e = append-nil rs
silent x rs (Some f) e = absurd (cc)

pub recorded_at : (m : Made) (before : List Made) (b : Bool) → is_recorded before m ≡ b → record_of (m ∷ before) ≡ made_of (if b then record { number = length before; made = m } ∷ recorded before else recorded before)
recorded_at m before b e = ap (λ (b : Bool). made_of (if b then record { number = length before; made = m } ∷ recorded before else recorded before)) e

same_at : (m : Made) (before : List Made) (b : Bool) → is_recorded before m ≡ b → replies_made (record_of before) ≡ replies_made before → replies_made (record_of (m ∷ before)) ≡ replies_made before ++ sent m.look m.reply
same_at m before true e same = ap replies_made (recorded_at m before true e) ∙ ap (λ (rs : List Sent). rs ++ sent m.look m.reply) same
same_at m before false e same =
    ap replies_made (recorded_at m before false e) ∙ same
    ∙ sym (silent m.look (replies_made before) m.reply (second_false m.taken (is_some m.reply) (passes_on m.look.feedback || (is_full m.look.feedback && not (was_full before))) e))

-- the recorded looks have all the replies
pub same_replies : (made : List Made) → replies_made (record_of made) ≡ replies_made made
same_replies [] = refl
same_replies (m ∷ before) = same_at m before (is_recorded before m) refl (same_replies before)

-- they end where all looks end
pub same_end : (row : SessionRow) (o : Opening) (made : List Made) (parts parts' : List Part) → AreMade row o made → IsCut row (life_made o made) parts → IsCut row (life_made o (record_of made)) parts' → end_of row o parts' ≡ end_of row o parts
same_end row o made parts parts' are c c' =
    let t = thin_of row o made are in
    ap (end_of row o) (one_cut row (life_made o (record_of made)) parts' t.thin.parts c' t.thin.cut) ∙ sym t.thin.state ∙ ap (end_of row o) (one_cut row (life_made o made) t.parts parts t.cut c)
