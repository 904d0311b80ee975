-- What a low process has lived, look by look.
use Rattle.std.proofs.Common.{◌≡◌, ℕ, ◌≤◌, Bool, List, [], ◌∷◌, refl, sym, ap, ◌∙◌, subst}
use Rattle.pump_frame.specs.declared.row.SessionRow.{SessionRow}
use Rattle.pump_core.specs.History.{Arrival, Opening}
use Rattle.pump_core.specs.Exchanges.{Part, IsCut}
use Rattle.pump_core.specs.Comings.{may_take}
use Rattle.pump_core.specs.Replies.{LowReplies}
use Rattle.pump_core.proofs.Cuts.{one_cut}
use Rattle.pump_core.proofs.MayTake.{is_idle as is_idle_phase, may_take_is}
use Rattle.low_process.specs.declared.process.LowProcess.{LowProcess}
use Rattle.low_process.specs.declared.values.LowLook.{LowLook}
use Rattle.low_process.specs.declared.values.Phase.{Phase as LowPhase}
use Rattle.low_process.specs.declared.values.Phase.TheVariants as low
use Rattle.low_process.specs.Looks.{row_of, last_of, is_idle, is_idle_in, phase_of, StandsFor, Looks, look_of}
use Rattle.relay_threads.specs.Records.{Made, replies_made, life_made, history_made, AreMade}
use Rattle.relay_threads.specs.LowServes.{Lives, Leads}

-- ---- it wants what comes just where its next look may take it ----

idle_is : (phase : LowPhase) (hand : ℕ) → is_idle_in phase ≡ is_idle_phase (phase_of phase hand)
idle_is low.Idle hand = refl
idle_is (low.Passing owed) hand = refl
idle_is (low.Waiting number due) hand = refl
idle_is low.Down hand = refl

pub wants_is : (p : LowProcess) (o : Opening) (made : List Made) (parts : List Part) → Lives p o made → IsCut (row_of p) (life_made o made) parts → may_take o parts ≡ is_idle p
wants_is p o made parts lives cut =
    let st = lives.stands.stands in
    let same : parts ≡ st.parts = one_cut p.row (life_made o made) parts st.parts cut st.cut in
    ap (may_take o) same ∙ may_take_is p.row o st.parts ∙ ap (λ s. is_idle_phase s.phase) (sym st.state) ∙ sym (idle_is p.phase p.hand.number)

-- ---- one look more ----

pub replies_so_far : (row : SessionRow) (o : Opening) (made : List Made) → AreMade row o made → LowReplies row (history_made o made) (replies_made made)
replies_so_far row o [] are = ([], [], refl, ([], record { are_parts = tt; looks = refl }, refl), refl)
replies_so_far row o (m ∷ before) are = are.0.replies

module _ (p q : LowProcess) (m w : ℕ) (a : Arrival) (d : Bool) (l : LowLook) where
  abbrev pub look_made : Made
  look_made = record { look = look_of m w a d l.feedback; taken = l.taken; reply = l.reply }

  pub lives_on : row_of q ≡ row_of p → last_of p ≤ m → Looks (StandsFor p) q (row_of p) (look_of m w a d l.feedback) l
      → (o : Opening) (before : List Made) → Lives p o before → Lives q o (look_made ∷ before)
  lives_on row order looks o before lives =
      let h = history_made o before in
      let st = looks.history h lives.stands in
      let cut : IsCut (row_of p) (life_made o (look_made ∷ before)) st.stands.parts = subst (λ (z : SessionRow). IsCut z (life_made o (look_made ∷ before)) st.stands.parts) row st.stands.cut in
      let made : AreMade (row_of p) o (look_made ∷ before) = (
        record {
          order = subst (λ (n : ℕ). n ≤ m) lives.stands.stands.newest order;
          parts = st.stands.parts;
          cut = cut;
          taken = looks.taken h st.stands.parts lives.stands cut;
          replies = looks.replies h (replies_made before) lives.stands (replies_so_far (row_of p) o before lives.are_made);
        },
        lives.are_made,
      ) in
      record { stands = st; are_made = subst (λ (z : SessionRow). AreMade z o (look_made ∷ before)) (sym row) made }

-- ---- one step after another ----

pub leads_none : (p : LowProcess) (Keeps : SessionRow → Opening → List Made → Type 0) → ((row : SessionRow) (o : Opening) (before : List Made) → Keeps row o before) → Leads p p Keeps (λ before. before)
leads_none p Keeps all = record { row = refl; rule = λ o before lives. all (row_of p) o before; lives = λ o before lives. lives }

pub leads_then : (p q r : LowProcess) (One Two Both : SessionRow → Opening → List Made → Type 0) (f g : List Made → List Made)
    → ((row : SessionRow) (o : Opening) (before : List Made) → One row o before → Two row o (f before) → Both row o before)
    → Leads p q One f → Leads q r Two g → Leads p r Both (λ before. g (f before))
leads_then p q r One Two Both f g both one two = record {
  row = two.row ∙ one.row;
  rule = λ o before lives.
      both (row_of p) o before (one.rule o before lives)
      (subst (λ (z : SessionRow). Two z o (f before)) one.row (two.rule o (f before) (one.lives o before lives)));
  lives = λ o before lives. two.lives o (f before) (one.lives o before lives);
}
