-- Where a timed run stands within a high look, and a TAKEN that comes back in it.
use Rattle.std.proofs.Common.{◌≡◌, ℕ, Bool, true, false, cond, List, ◌∷◌, ◌++◌, Option, Some, None, refl, sym, ap, ◌∙◌, subst}
use Rattle.std.specs.Prelude.{◌==◌, ◌&&◌}
use Rattle.pump_frame.specs.declared.row.SessionRow.{SessionRow}
use Rattle.pump_core.specs.declared.event.Event.TheVariants.{ReturnTaken}
use Rattle.pump_core.specs.World.{World}
use Rattle.pump_core.specs.Events.{holds}
use Rattle.pump_core.specs.HighLooks.{Returns}
use Rattle.pump_core.specs.Sendings.{Sending}
use Rattle.pump_core.specs.Timed.{Step, Occurs, HighSide, Point, LeadsTo}
use Rattle.world_laws.specs.Timelines.{IsAtRest, HasSent, come_back}

-- ---- where a run stands within a high look ----

-- the point t with another world and another high side
abbrev pub at : Point → World → HighSide → Point
at t w h = record t { world = w; high = h }

-- nothing is unfinished but a return, which may have to be heeded
pub record IsReady (w : World) : Type 0 where
  pub storing : w.storing ≡ None
  pub removing : w.removing ≡ false
  pub packet : w.packet ≡ None
  pub taking : w.taking ≡ false

ready : (w : World) → IsAtRest w → IsReady w
ready w r = record { storing = r.storing; removing = r.removing; packet = r.packet; taking = r.taking }

pub rests : (w : World) → IsReady w → w.due ≡ false → IsAtRest w
rests w r due = record { storing = r.storing; due = due; removing = r.removing; packet = r.packet; taking = r.taking }

-- the run goes on from t by these steps to this world, where its high side looks at m and has published and sent this
pub record Stands (row : SessionRow) (past : List Step) (t : Point) (m : ℕ) (times : List ℕ) (sends : List Sending) (steps : List Step) (v : World) : Type 0 where
  pub high : HighSide
  pub leads : LeadsTo row (steps ++ past) (at t v high)
  pub looking : high.looking ≡ true
  pub moment : high.moment ≡ m
  pub sent : HasSent times sends high

-- .. and nothing is unfinished
pub record Settled (row : SessionRow) (past : List Step) (t : Point) (m : ℕ) (times : List ℕ) (sends : List Sending) (steps : List Step) (v : World) : Type 0 where
  pub stands : Stands row past t m times sends steps v
  pub rest : IsAtRest v

-- ---- one event within a look ----

-- one event that changes the world alone
pub aside : (row : SessionRow) (past : List Step) (t : Point) (m : ℕ) (times : List ℕ) (sends : List Sending) (steps : List Step) (w v : World)
    (s : Stands row past t m times sends steps w) (step : Step)
    → LeadsTo row ((step ∷ steps) ++ past) (at t v s.high) → Stands row past t m times sends (step ∷ steps) v
aside row past t m times sends steps w v s step leads = record {
  high = s.high;
  leads = leads;
  looking = s.looking;
  moment = s.moment;
  sent = s.sent;
}

either : (b : Bool) (v u : World) (n : ℕ) → v.removed ≡ n → u.removed ≡ n → (cond b v u).removed ≡ n
either true v u n h k = h
either false v u n h k = k

same_rest : (b : Bool) (v u : World) → IsReady v → IsReady u → IsReady (cond b v u)
same_rest true v u h k = h
same_rest false v u h k = k

module _ (row : SessionRow) (past : List Step) (t : Point) (m : ℕ) where
  -- ---- a TAKEN comes back ----

  pub record Returned (times : List ℕ) (sends : List Sending) (steps : List Step) (w v : World) (back : Option ℕ) : Type 0 where
    pub stands : Stands row past t m times sends (come_back back ++ steps) v
    pub rest : IsReady v
    pub removed : v.removed ≡ w.removed
    pub held : v.held ≡ w.held

  same_held : (b : Bool) (v u : World) (l : List ℕ) → v.held ≡ l → u.held ≡ l → (cond b v u).held ≡ l
  same_held true v u l h k = h
  same_held false v u l h k = k

  pub returned : (times : List ℕ) (sends : List Sending) (steps : List Step) (w v : World) (back : Option ℕ) → Stands row past t m times sends steps w → IsAtRest w
      → Returns w back v → Returned times sends steps w v back
  returned times sends steps w v None s r e = record {
    stands = subst (Stands row past t m times sends steps) (sym e) s;
    rest = subst IsReady (sym e) (ready w r);
    removed = ap (λ (u : World). u.removed) e;
    held = ap (λ (u : World). u.held) e;
  }
  returned times sends steps w v (Some k) s r h =
      let heeds = h.0 == w.removed && holds w.high_hand h.0 in
      let same : v.removed ≡ w.removed = ap (λ (u : World). u.removed) h.3 ∙ either heeds _ _ w.removed refl refl in
      record {
        stands = aside row past t m times sends steps w v s (Occurs (ReturnTaken k)) (at t w s.high, s.leads, (v, h, s.looking, refl));
        rest = subst IsReady (sym h.3) (same_rest heeds _ _
            (record { storing = r.storing; removing = r.removing; packet = r.packet; taking = r.taking }) (ready w r));
        removed = same;
        held = ap (λ (u : World). u.held) h.3 ∙ same_held heeds _ _ w.held refl refl;
      }
