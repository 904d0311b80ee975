-- The newest look of a life, read off its part.
use Rattle.std.proofs.Common.{◌≡◌, true, false, List, [], ◌∷◌, ◌++◌, refl, sym, ap, ◌∙◌, subst, append-nil}
use Rattle.std.specs.Prelude.{◌&&◌, not}
use Rattle.pump_frame.specs.declared.row.SessionRow.{SessionRow}
use Rattle.pump_core.specs.History.{Look, Opening}
use Rattle.pump_core.specs.Exchanges.{is_gone, Waiting, Over, Part, Holding, Release, Empty, Leaving, Answer, Repeated, Offering, Dropped, Delivery, Loss, looks_of, is_finished, count_after, greeted_after, is_left_by, AreParts}
use Rattle.pump_core.specs.Replies.{Sent, number_in, replies_in, replies_of, takes, stores}
use Rattle.pump_core.specs.Comings.{may_take, is_nothing}
use Rattle.pump_core.specs.Runs.{payload_in, steps_in}
use Rattle.script_reader.specs.Lows.{stored_events, acks_of}
use Rattle.world_laws.proofs.Timeline.Deeds.{Deed, Rests, Stores, FindsFull, Releases, Passes, Reads, feedback_by, own_events, steps_by, averaged, passed, held, held_told, held_events, held_steps, ended, ended_told, ended_steps, ended_events, store_events, answers_quietly, is_some, is_frame, begins, holds, left_out}

-- ---- the newest look of a cut ----

-- the looks of these parts are x and those before it: the parts of the looks before it, the replies
-- that x adds, whether it takes what it is offered, and what it does
pub record Newest (row : SessionRow) (o : Opening) (past : List Look) (x : Look) (parts : List Part) : Type 0 where
  pub before : List Part
  pub are_parts : AreParts row o before
  pub looks : looks_of before ≡ past
  pub new : List Sent
  pub replies : replies_of row o parts ≡ replies_of row o before ++ new
  pub taken : is_gone x.arrival ≡ false → takes parts ≡ (may_take o before && not (is_nothing x.arrival))
  pub deed : Deed
  pub feedback : x.feedback ≡ feedback_by deed
  pub events : stored_events (stores parts) x.arrival ++ acks_of new ≡ own_events deed
  pub steps : steps_in parts ≡ steps_by deed

-- the newest look of these parts, where its store did not fail
record HasNewest (row : SessionRow) (o : Opening) (parts : List Part) : Type 0 where
  x : Look
  past : List Look
  is : looks_of parts ≡ x ∷ past
  newest : x.is_fault ≡ false → Newest row o past x parts

-- ---- the cases ----

module _ (row : SessionRow) (o : Opening) where
  -- the newest look begins the part
  from_start : (x : Look) (p : Part) (b : List Part) → AreParts row o b
      → (is_gone x.arrival ≡ false → takes (p ∷ b) ≡ (may_take o b && not (is_nothing x.arrival)))
      → (d : Deed) → x.feedback ≡ feedback_by d
      → stored_events (stores (p ∷ b)) x.arrival ++ acks_of (replies_in row (count_after o b) (greeted_after row b) p) ≡ own_events d
      → steps_in (p ∷ b) ≡ steps_by d
      → Newest row o (looks_of b) x (p ∷ b)
  from_start x p b are taken d told events steps = record {
    before = b;
    are_parts = are;
    looks = refl;
    new = replies_in row (count_after o b) (greeted_after row b) p;
    replies = refl;
    taken = taken;
    deed = d;
    feedback = told;
    events = events;
    steps = steps;
  }

  -- it goes on with the part q, which gave no reply yet
  going : (x : Look) (past : List Look) (q p : Part) (b : List Part) → AreParts row o (q ∷ b) → looks_of (q ∷ b) ≡ past
      → is_finished q ≡ false
      → replies_in row (count_after o b) (greeted_after row b) q ≡ []
      → (is_gone x.arrival ≡ false → takes (p ∷ b) ≡ false)
      → (d : Deed) → x.feedback ≡ feedback_by d
      → stored_events (stores (p ∷ b)) x.arrival ++ acks_of (replies_in row (count_after o b) (greeted_after row b) p) ≡ own_events d
      → steps_in (p ∷ b) ≡ steps_by d
      → Newest row o past x (p ∷ b)
  going x past q p b are looks unfinished silent taken d told events steps =
      let new = replies_in row (count_after o b) (greeted_after row b) p in
      record {
        before = q ∷ b;
        are_parts = are;
        looks = looks;
        new = new;
        replies = ap (λ l. l ++ new) (sym (append-nil (replies_of row o b)) ∙ ap (λ l. replies_of row o b ++ l) (sym silent));
        taken = λ g. taken g ∙ sym (ap (λ t. (t && not (is_left_by q)) && not (is_nothing x.arrival)) unfinished);
        deed = d;
        feedback = told;
        events = events;
        steps = steps;
      }

  -- the newest look of a part after those before it
  newest : (p : Part) (b : List Part) → AreParts row o (p ∷ b) → HasNewest row o (p ∷ b)
  newest (Holding x []) b h = record {
    x = x;
    past = looks_of b;
    is = refl;
    newest = λ fine. from_start x (Holding x []) b h.1 (λ g. g ∙ holds o b (is_nothing x.arrival) h.2 h.0.release)
        (held (is_gone x.arrival)) (h.0.part.0 ∙ held_told (is_gone x.arrival)) (held_events (is_gone x.arrival)) (held_steps (is_gone x.arrival));
  }
  newest (Holding x (y ∷ ys)) b h = record {
    x = x;
    past = y ∷ (ys ++ looks_of b);
    is = refl;
    newest = λ fine. going x (y ∷ (ys ++ looks_of b)) (Holding y ys) (Holding x (y ∷ ys)) b (record { part = h.0.part.1; release = h.0.release }, h.1, h.2) refl refl refl (λ g. g)
        (held (is_gone x.arrival)) (h.0.part.0 ∙ held_told (is_gone x.arrival)) (held_events (is_gone x.arrival)) (held_steps (is_gone x.arrival));
  }
  newest (Release [] x) b h = record {
    x = x;
    past = looks_of b;
    is = refl;
    newest = λ fine. from_start x (Release [] x) b h.1 (λ g. holds o b (is_nothing x.arrival) h.2 h.0.release) Releases h.0.part.1 refl refl;
  }
  newest (Release (y ∷ ys) x) b h = record {
    x = x;
    past = y ∷ (ys ++ looks_of b);
    is = refl;
    newest = λ fine. going x (y ∷ (ys ++ looks_of b)) (Holding y ys) (Release (y ∷ ys) x) b (record { part = h.0.part.0; release = h.0.release }, h.1, h.2) refl refl refl (λ g. refl) Releases h.0.part.1 refl refl;
  }
  newest (Empty x) b h = record {
    x = x;
    past = looks_of b;
    is = refl;
    newest = λ fine. from_start x (Empty x) b h.1 (λ g. left_out (may_take o b) ∙ sym (ap (λ a. may_take o b && not (is_nothing a)) h.0.part.0)) Rests h.0.part.1 refl refl;
  }
  newest (Leaving x) b h = record {
    x = x;
    past = looks_of b;
    is = refl;
    newest = λ fine. from_start x (Leaving x) b h.1 (λ g. let no : true ≡ false = sym (ap is_gone h.0.part.0) ∙ g in absurd (cc)) Rests h.0.part.1 refl refl;
  }
  newest (Answer x) b h = record {
    x = x;
    past = looks_of b;
    is = refl;
    newest = λ fine. from_start x (Answer x) b h.1 (λ g. begins o b (is_nothing x.arrival) h.2 h.0.release (is_some row (count_after o b) (greeted_after row b) x.arrival h.0.part.0)) Rests h.0.part.1 (answers_quietly row (count_after o b) (greeted_after row b) x x.arrival) refl;
  }
  newest (Repeated x (Waiting [])) b h =
      let a = averaged x.feedback h.0.part.1 in
      record {
        x = x;
        past = looks_of b;
        is = refl;
        newest = λ fine. from_start x (Repeated x (Waiting [])) b h.1 (λ g. begins o b (is_nothing x.arrival) h.2 h.0.release (is_frame _ x.arrival h.0.part.0)) (Reads a.0) a.1 refl refl;
      }
  newest (Repeated first (Waiting (x ∷ quiet))) b h = record {
    x = x;
    past = quiet ++ (first ∷ looks_of b);
    is = refl;
    newest = λ fine. going x (quiet ++ (first ∷ looks_of b)) (Repeated first (Waiting quiet)) (Repeated first (Waiting (x ∷ quiet))) b (record { part = (h.0.part.0, h.0.part.1, h.0.part.2.1); release = h.0.release }, h.1, h.2) refl refl refl (λ g. refl) Rests h.0.part.2.0.quiet refl refl;
  }
  newest (Repeated first (Over quiet x)) b h =
      let gone = is_gone x.arrival in
      let n = number_in first.arrival in
      record {
        x = x;
        past = quiet ++ (first ∷ looks_of b);
        is = refl;
        newest = λ fine. going x (quiet ++ (first ∷ looks_of b)) (Repeated first (Waiting quiet)) (Repeated first (Over quiet x)) b (record { part = (h.0.part.0, h.0.part.1, h.0.part.2.0); release = h.0.release }, h.1, h.2) refl refl refl (λ g. g)
            (ended gone n) (h.0.part.2.1 ∙ ended_told gone n) (ended_events row x gone n) (ended_steps gone n);
      }
  newest (Offering x []) b h = record {
    x = x;
    past = looks_of b;
    is = refl;
    newest = λ fine. from_start x (Offering x []) b h.1 (λ g. begins o b (is_nothing x.arrival) h.2 h.0.release (is_frame _ x.arrival h.0.part.0.next)) (Stores (payload_in x.arrival)) h.0.part.0.quiet (store_events row (count_after o b) (greeted_after row b) x.arrival h.0.part.0.next) refl;
  }
  newest (Offering first (x ∷ full)) b h = record {
    x = x;
    past = full ++ (first ∷ looks_of b);
    is = refl;
    newest = λ fine. going x (full ++ (first ∷ looks_of b)) (Offering first full) (Offering first (x ∷ full)) b (record { part = (h.0.part.0, h.0.part.1.1); release = h.0.release }, h.1, h.2) refl refl refl (λ g. refl) FindsFull h.0.part.1.0.full refl refl;
  }
  newest (Dropped first full x) b h = record {
    x = x;
    past = full ++ (first ∷ looks_of b);
    is = refl;
    newest = λ fine. going x (full ++ (first ∷ looks_of b)) (Offering first full) (Dropped first full x) b (record { part = (h.0.part.0, h.0.part.1); release = h.0.release }, h.1, h.2) refl refl refl (λ g. let no : true ≡ false = sym (ap is_gone h.0.part.2) ∙ g in absurd (cc)) Rests h.0.part.3 refl refl;
  }
  newest (Delivery first full x (Waiting [])) b h =
      let a = passed x.feedback h.0.part.2.passed in
      record {
        x = x;
        past = full ++ (first ∷ looks_of b);
        is = refl;
        newest = λ fine. going x (full ++ (first ∷ looks_of b)) (Offering first full) (Delivery first full x (Waiting [])) b (record { part = (h.0.part.0, h.0.part.1); release = h.0.release }, h.1, h.2) refl refl refl (λ g. refl) (Passes a.0) a.1 refl refl;
      }
  newest (Delivery first full passing (Waiting (x ∷ quiet))) b h = record {
    x = x;
    past = quiet ++ (passing ∷ (full ++ (first ∷ looks_of b)));
    is = refl;
    newest = λ fine. going x (quiet ++ (passing ∷ (full ++ (first ∷ looks_of b)))) (Delivery first full passing (Waiting quiet)) (Delivery first full passing (Waiting (x ∷ quiet))) b (record { part = (h.0.part.0, h.0.part.1, h.0.part.2, h.0.part.3.1); release = h.0.release }, h.1, h.2) refl refl refl (λ g. refl) Rests h.0.part.3.0.quiet refl refl;
  }
  newest (Delivery first full passing (Over quiet x)) b h =
      let gone = is_gone x.arrival in
      let n = number_in first.arrival in
      record {
        x = x;
        past = quiet ++ (passing ∷ (full ++ (first ∷ looks_of b)));
        is = refl;
        newest = λ fine. going x (quiet ++ (passing ∷ (full ++ (first ∷ looks_of b)))) (Delivery first full passing (Waiting quiet)) (Delivery first full passing (Over quiet x)) b (record { part = (h.0.part.0, h.0.part.1, h.0.part.2, h.0.part.3.0); release = h.0.release }, h.1, h.2) refl refl refl (λ g. g)
            (ended gone n) (h.0.part.3.1 ∙ ended_told gone n) (ended_events row x gone n) (ended_steps gone n);
      }
  newest (Loss x []) b h = record {
    x = x;
    past = looks_of b;
    is = refl;
    newest = λ fine. let no : true ≡ false = sym h.0.part.0.outcome ∙ fine in absurd (cc);
  }
  newest (Loss first (x ∷ rest)) b h = record {
    x = x;
    past = rest ++ (first ∷ looks_of b);
    is = refl;
    newest = λ fine. record {
      before = Loss first rest ∷ b;
      are_parts = (record { part = (h.0.part.0, h.0.part.1.1); release = h.0.release }, h.1, h.2);
      looks = refl;
      new = [];
      replies = sym (append-nil (replies_of row o (Loss first rest ∷ b)));
      taken = λ g. refl;
      deed = Rests;
      feedback = h.0.part.1.0;
      events = refl;
      steps = refl;
    };
  }

  -- the newest look of a cut of looks that end with x
  pub newest_of : (x : Look) (past : List Look) (parts : List Part) → AreParts row o parts → looks_of parts ≡ x ∷ past
      → x.is_fault ≡ false → Newest row o past x parts
  newest_of x past [] h e fine = absurd (cc)
  newest_of x past (p ∷ b) h e fine =
      let n = newest p b h in
      let same : n.x ∷ n.past ≡ x ∷ past = sym n.is ∙ e in
      let is : n.x ≡ x = cc in
      let was : n.past ≡ past = cc in
      subst (λ (t : List Look × Look). Newest row o t.0 t.1 (p ∷ b)) (λ i. (was i, is i)) (n.newest (ap (λ (y : Look). y.is_fault) is ∙ fine))
