-- Which disks a comparison calls.
use Rattle.std.proofs.Common.{◌≡◌, inl, inr, ℕ, List, ◌<◌, ◌≤◌, Bool, true, false, not, Ok, Err, refl, sym, ◌∙◌, ap, subst, arith}
use Rattle.std.proofs.lemmas.Bool.{cases_lt, false≢true}
use Rattle.pump_frame.specs.declared.row.SessionRow.{SessionRow}
use Rattle.disk_model.specs.Disk.{Meaning, Answers}
use Rattle.stable_buffer.specs.Low.{low_disk, low_row}
use Rattle.stable_buffer.specs.declared.low.LowStore.{LowStore}
use Rattle.high_receiver.specs.Receiving.{recv_disk, recv_is_open}
use Rattle.high_receiver.specs.declared.receiver.Receiver.{Receiver}
use Rattle.recovery.specs.Calls.{Calls, CallsReceiver, GivesSlot}

-- what holds at a row and a reading holds at the same ones
pub at_same : (P : SessionRow → List ℕ → Type 0) (old new : SessionRow) (before after : List ℕ) → new ≡ old → after ≡ before → P old before → P new after
at_same P old new before after row reading has = subst (λ (d : List ℕ). P new d) (sym reading) (subst (λ (w : SessionRow). P w before) (sym row) has)

module _ {D : Type 0} (m : Meaning D) where
  pub calls_ok : {T E : Type 0} (fits : Type 0) (old new : D) (value : T) → Answers {T = T} {E = E} m fits old new (Ok value) → (f : Bool) → f ≡ false → Calls m old new f
  calls_ok fits old new value a f fine = record {
    counts = a.counts;
    rose = λ bad. absurd (false≢true (sym fine ∙ bad));
    never = λ plan off. fine;
    always = λ plan on. absurd (false≢true (a.always plan on));
    room = a.room;
    disarmed = a.disarmed;
  }

  pub calls_err : {T E : Type 0} (fits : Type 0) (old new : D) (fault : E) → Answers {T = T} {E = E} m fits old new (Err fault) → (m.tells_plan → fits) → (f : Bool) → f ≡ true → Calls m old new f
  calls_err fits old new fault a whole f bad = record {
    counts = a.counts;
    rose = λ is. a.rose refl;
    never = λ plan off. absurd (false≢true (a.never plan off (whole plan)));
    always = λ plan on. bad;
    room = a.room;
    disarmed = a.disarmed;
  }

  -- no call
  pub calls_none : (d : D) → (m.tells_plan → m.armed d ≡ false) → Calls m d d false
  calls_none d calm = record {
    counts = omega arith;
    rose = λ is. absurd (false≢true is);
    never = λ plan off. refl;
    always = λ plan on. sym (calm plan) ∙ on;
    room = λ plan. refl;
    disarmed = calm;
  }

  -- two calls, of which the first didn't fail
  pub calls_on : (old mid new : D) (f : Bool) → Calls m old mid false → Calls m mid new f → Calls m old new f
  calls_on old mid new f one two = record {
    counts = omega (arith, one.counts, two.counts);
    rose = λ is. let r = two.rose is in omega (arith, one.counts, r);
    never = λ plan off. two.never plan (one.disarmed plan);
    always = λ plan on. absurd (false≢true (one.always plan on));
    room = λ plan. two.room plan ∙ one.room plan;
    disarmed = two.disarmed;
  }

  module _ (removed n : ℕ) (before low : LowStore D) (start receiver : Receiver D) (le : removed ≤ n) (first : n ≡ removed → (low ≡ before) × (receiver ≡ start)) where
    pub low_called : (new : D) (f : Bool) → (removed < n → Calls m (low_disk before) (low_disk low) false) → Calls m (low_disk low) new f → Calls m (low_disk before) new f
    low_called new f so_far calls = elim (cases_lt removed n) [
      | inl later ↦ calls_on (low_disk before) (low_disk low) new f (so_far later) calls
      | inr now ↦ let e : n ≡ removed = omega (arith, le, now) in subst (λ (s : LowStore D). Calls m (low_disk s) new f) (first e).0 calls
    ]

    abbrev Gives : Type 0
    Gives = m.tells_plan → GivesSlot m (low_row before) removed (low_disk before)

    pub goes_on : (new : D) → (removed < n → Calls m (recv_disk start) (recv_disk receiver) false × Gives)
        → Calls m (recv_disk receiver) new false → (m.tells_plan → GivesSlot m (low_row low) n (low_disk low)) → Calls m (recv_disk start) new false × Gives
    goes_on new so_far calls gives = elim (cases_lt removed n) [
      | inl later ↦ (calls_on (recv_disk start) (recv_disk receiver) new false (so_far later).0 calls, (so_far later).1)
      | inr now ↦
          let e : n ≡ removed = omega (arith, le, now) in (
            subst (λ (r : Receiver D). Calls m (recv_disk r) new false) (first e).1 calls,
            (λ plan. subst (λ k. GivesSlot m (low_row before) k (low_disk before)) e (subst (λ (s : LowStore D). GivesSlot m (low_row s) n (low_disk s)) (first e).0 (gives plan))),
          )
    ]

    pub receiver_called : (new : Receiver D) → (removed < n → Calls m (recv_disk start) (recv_disk receiver) false × Gives) → recv_is_open receiver ≡ true
        → CallsReceiver m (low_row low) n (low_disk low) receiver new → CallsReceiver m (low_row before) removed (low_disk before) start new
    receiver_called new so_far is_open calls = elim (cases_lt removed n) [
      | inl later ↦ elim calls [
        | inl called ↦ inl (calls_on (recv_disk start) (recv_disk receiver) (recv_disk new) (not (recv_is_open new)) (so_far later).0 called.0, (so_far later).1)
        | inr left ↦ inl (
          subst (λ (r : Receiver D). Calls m (recv_disk start) (recv_disk r) (not (recv_is_open r))) (sym left.0) (subst (λ f. Calls m (recv_disk start) (recv_disk receiver) f) (sym (ap not is_open)) (so_far later).0),
          (so_far later).1,
        )
      ]
      | inr now ↦
          let e : n ≡ removed = omega (arith, le, now) in
          subst (λ (r : Receiver D). CallsReceiver m (low_row before) removed (low_disk before) r new) (first e).1
          (subst (λ k. CallsReceiver m (low_row before) k (low_disk before) receiver new) e (subst (λ (s : LowStore D). CallsReceiver m (low_row s) n (low_disk s) receiver new) (first e).0 calls))
    ]
