-- What is left of a disk that is made ready: its calls, and what is read of it.
use Rattle.std.proofs.Common.{◌≡◌, ◌≤◌, ℕ, List, [], ◌∷◌, length, Ok, Err, refl, sym, ap, ◌∙◌, subst, arith, le_trans}
use Rattle.disk_model.specs.Disk.{Meaning, Answers}
use Rattle.disk_model.specs.declared.name.Role.{Role}
use Rattle.pump_frame.specs.Counts.{Rose}
use Rattle.pump_frame.specs.declared.row.SessionRow.{SessionRow}
use Rattle.two_worlds.specs.Openings.{readied}

-- ---- what is read ----

-- a disk with a byte stays as it is
pub kept_reading : (row : SessionRow) (role : Role) (bytes now : List ℕ) (size : ℕ) → now ≡ bytes → size ≡ length now → (size ≡ 0 → ⊥) → now ≡ readied row role bytes
kept_reading row role [] now size is counted some = absurd (some (counted ∙ ap length is))
kept_reading row role (b ∷ bytes) now size is counted some = is

pub empty_reading : (bytes now : List ℕ) (size : ℕ) → now ≡ bytes → size ≡ length now → size ≡ 0 → bytes ≡ []
empty_reading [] now size is counted none = refl
empty_reading (b ∷ bytes) now size is counted none =
    let long : length now ≡ length (b ∷ bytes) = ap length is in absurd (omega (arith, long, counted, none))

-- ---- its calls ----

module _ {D T U E F : Type 0} (m : Meaning D) (fits : Type 0) where
  -- its size was told
  pub sized : (old new : D) (n : T) (value : U) → Answers {T = T} {E = E} m (Unit {0}) old new (Ok n) → Answers {T = U} {E = F} m fits old new (Ok value)
  sized old new n value a = record {
    counts = a.counts;
    rose = a.rose;
    never = λ plan unarmed fit. a.never plan unarmed tt;
    always = a.always;
    room = a.room;
    disarmed = a.disarmed;
  }

  -- .. or was not
  pub unsized : (old new : D) (fault : E) (cause : F) → Answers {T = T} {E = E} m (Unit {0}) old new (Err fault) → Answers {T = U} {E = F} m fits old new (Err cause)
  unsized old new fault cause a = record {
    counts = a.counts;
    rose = a.rose;
    never = λ plan unarmed fit. a.never plan unarmed tt;
    always = a.always;
    room = a.room;
    disarmed = a.disarmed;
  }

rose_later : (old mid new : ℕ) → Rose mid new → old ≤ mid → Rose old new
rose_later old mid new rose le = omega (arith, rose, le)

module _ {D T V U E F G : Type 0} (m : Meaning D) (least : ℕ) (old mid new : D) (n : T)
    (a : Answers {T = T} {E = E} m (Unit {0}) old mid (Ok n)) where
  -- it was formatted
  pub formatted : (done : V) (value : U) → Answers {T = V} {E = F} m (least ≤ m.room mid) mid new (Ok done) → Answers {T = U} {E = G} m (least ≤ m.room old) old new (Ok value)
  formatted done value b = record {
    counts = le_trans a.counts b.counts;
    rose = λ failed. rose_later (m.count old) (m.count mid) (m.count new) (b.rose failed) a.counts;
    never = λ plan unarmed fits. b.never plan (a.disarmed plan) (subst (λ (k : ℕ). least ≤ k) (sym (a.room plan)) fits);
    always = λ plan armed. a.always plan armed;
    room = λ plan. b.room plan ∙ a.room plan;
    disarmed = b.disarmed;
  }

  -- .. or was not
  pub unformatted : (fault : F) (cause : G) → Answers {T = V} {E = F} m (least ≤ m.room mid) mid new (Err fault) → Answers {T = U} {E = G} m (least ≤ m.room old) old new (Err cause)
  unformatted fault cause b = record {
    counts = le_trans a.counts b.counts;
    rose = λ failed. rose_later (m.count old) (m.count mid) (m.count new) (b.rose failed) a.counts;
    never = λ plan unarmed fits. b.never plan (a.disarmed plan) (subst (λ (k : ℕ). least ≤ k) (sym (a.room plan)) fits);
    always = λ plan armed. (let failed = a.always plan armed in absurd (cc));
    room = λ plan. b.room plan ∙ a.room plan;
    disarmed = b.disarmed;
  }
