-- A new disk that is no buffer until it is whole.
use Rattle.std.proofs.Common.{◌≡◌, ⊎_elim, ℕ, ◌+◌, ◌<◌, ◌≤◌, List, [], ◌∷◌, ◌++◌, length, take, drop, replicate, sym, ◌∙◌, ap, arith}
use Rattle.std.proofs.lemmas.List.{take-take}
use Rattle.disk_model.specs.Disk.{Meaning, Moves, Torn, IsWritten, Settled, Each}
use Rattle.disk_model.proofs.Run.{goes_on, each_settled}
use Rattle.pump_frame.specs.declared.row.SessionRow.{SessionRow}
use Rattle.stable_buffer.specs.Format.{header_of}
use Rattle.stable_buffer.specs.Making.{mark_bytes, marked, HasZeros, IsNone, KeepsFirst, LeavesFrom}

pub torn_first : (k at n : ℕ) (old new : List ℕ) → k ≤ at → Torn at n old new → KeepsFirst k old new
torn_first k at n old new le torn = record { same = sym (take-take k at new le) ∙ ap (λ (l : List ℕ). take k l) torn.before ∙ take-take k at old le }

pub zeros_none : (c : List ℕ) → HasZeros c → IsNone c
zeros_none c zeros long is = absurd (let e : 0 ∷ 0 ∷ 0 ∷ 0 ∷ [] ≡ mark_bytes = sym zeros ∙ is in cc)

pub zeros_stay : (k : ℕ) (c d : List ℕ) → 4 ≤ k → HasZeros c → KeepsFirst k c d → HasZeros d
zeros_stay k c d le zeros keeps = sym (take-take 4 k d le) ∙ ap (λ (l : List ℕ). take 4 l) keeps.same ∙ take-take 4 k c le ∙ zeros

short_none : (c : List ℕ) → length c < 80 → IsNone c
short_none c short long is = absurd (omega (arith, short, long))

module _ {D : Type 0} (m : Meaning D) where
  pub anything : (d : D) → Each m (λ c. Unit {0}) d
  anything d = record { reading = λ told. tt; images = λ told c is. tt }

  -- one write more, behind the first bytes
  pub kept_first : (k at n : ℕ) (old mid new : D) → k ≤ at → Moves m (KeepsFirst k) old mid → Moves m (Torn at n) mid new → Moves m (KeepsFirst k) old new
  kept_first k at n old mid new le so_far moved =
      goes_on m (λ c. Unit {0}) (KeepsFirst k) (Torn at n) (KeepsFirst k) old mid new (anything old) (λ c d _ keeps. keeps)
      (λ c d e _ keeps torn. record { same = (torn_first k at n d e le torn).same ∙ keeps.same }) so_far moved

  -- a crash from a moment on, after one call more
  pub leaves_on : (P Q : List ℕ → Type 0) (step : List ℕ → List ℕ → Type 0) (moment : ℕ) (old new : D) → moment ≤ m.moment old → LeavesFrom m moment Q old → Each m P old
      → ((c d : List ℕ) → P c → step c d → Q d) → Moves m step old new → LeavesFrom m moment Q new
  leaves_on P Q step moment old new le so_far has next moved told c left =
      ⊎_elim (λ was. so_far told c was) (λ from. next from.0 c (has.images told from.0 from.1) from.2) (moved.each told moment c le left)

  -- ---- a disk is begun ----

  module _ (old : D) (empty : m.tells → m.reading old ≡ []) (short : (c : List ℕ) → m.images old c → length c < 80) where
    short_each : Each m (λ c. length c < 80) old
    short_each = record { reading = λ told. omega (arith, ap length (empty told)); images = λ told c is. short c is }

    pub first_leaves : (moment : ℕ) (new : D) → moment ≤ m.moment old → LeavesFrom m moment IsNone old → Moves m (Torn 0 4) old new → LeavesFrom m moment IsNone new
    first_leaves moment new le so_far moved = leaves_on (λ c. length c < 80) IsNone (Torn 0 4) moment old new le so_far short_each
        (λ c d few torn. short_none d (let a = torn.no_longer in omega (arith, a, few))) moved

  pub cleared : (old new : D) → (m.tells → m.reading old ≡ []) → (m.tells → IsWritten (m.reading old) 0 (0 ∷ 0 ∷ 0 ∷ 0 ∷ []) (m.reading new)) → m.tells → m.reading new ≡ 0 ∷ 0 ∷ 0 ∷ 0 ∷ []
  cleared old new empty wrote told = wrote told ∙ ap (λ (l : List ℕ). (0 ∷ 0 ∷ 0 ∷ 0 ∷ []) ++ drop 4 l) (empty told)

  pub zeros_each : (d : D) → (m.tells → m.reading d ≡ 0 ∷ 0 ∷ 0 ∷ 0 ∷ []) → Settled m d → Each m HasZeros d
  zeros_each d is settled = each_settled m HasZeros d settled (λ told. ap (λ (l : List ℕ). take 4 l) (is told))

  -- behind the zeros nothing makes a buffer
  pub zeros_leave : (k moment : ℕ) (old new : D) → 4 ≤ k → moment ≤ m.moment old → LeavesFrom m moment IsNone old → Each m HasZeros old → Moves m (KeepsFirst k) old new → LeavesFrom m moment IsNone new
  zeros_leave k moment old new le from so_far zeros moved =
      leaves_on HasZeros IsNone (KeepsFirst k) moment old new from so_far zeros (λ c d is keeps. zeros_none d (zeros_stay k c d le is keeps)) moved
  -- ---- a disk is finished ----

-- ---- the bytes of a disk that is begun ----

pub begun_bytes : (row : SessionRow) (role first second k : ℕ) (prefix clear mid new : List ℕ) → prefix ≡ header_of row role first second → clear ≡ 0 ∷ 0 ∷ 0 ∷ 0 ∷ [] → IsWritten clear 4 (take 76 (drop 4 prefix)) mid
    → new ≡ mid ++ replicate k 0 → marked new ≡ header_of row role first second ++ replicate k 0
unfolding header_of
begun_bytes row role first second k prefix clear mid new is zeros wrote filled =
    let there : new ≡ (0 ∷ 0 ∷ 0 ∷ 0 ∷ []) ++ drop 4 (header_of row role first second) ++ replicate k 0 =
    filled ∙ ap (λ (l : List ℕ). l ++ replicate k 0) (wrote ∙ (λ i. take 4 (zeros i) ++ take 76 (drop 4 (is i)) ++ drop (4 + length (take 76 (drop 4 (is i)))) (zeros i))) in
    ap marked there
