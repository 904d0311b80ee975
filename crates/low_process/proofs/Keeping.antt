-- The first half of a look keeps the process and its store in step, whatever a crash leaves.
use Rattle.std.proofs.Common.{◌≡◌, inl, ℕ, ◌+◌, ◌<◌, ◌≤◌, Bool, true, false, List, refl, sym, ap, ◌∙◌, subst, arith}
use Rattle.std.specs.Prelude.{◌||◌, ◌&&◌}
use Rattle.disk_model.specs.Disk.{Meaning, Each, Same, Settled, Leaves}
use Rattle.disk_model.proofs.Run.{started, leaves, each_settled, each_weaker}
use Rattle.stable_buffer.specs.Register.{value_of, Selects}
use Rattle.stable_buffer.specs.Stands.{LowStands, MayGain}
use Rattle.stable_buffer.specs.Low.{IsLowReady, low_disk, low_row, low_count}
use Rattle.stable_buffer.specs.declared.low.LowStore.{LowStore}
use Rattle.pump_frame.specs.declared.row.SessionRow.{SessionRow}
use Rattle.pump_core.specs.History.{Arrival, Nothing, Came, Bad, Gone}
use Rattle.low_process.specs.declared.values.Phase.{Phase}
use Rattle.low_process.specs.declared.values.Phase.TheVariants.{Idle, Passing, Waiting, Down}
use Rattle.low_process.specs.declared.process.LowProcess.{LowProcess}
use Rattle.stable_buffer.proofs.Cells.{value-selects}
use Rattle.low_process.specs.Looks.{is_down, row_of, next_of}
use Rattle.low_process.specs.Storing.{wants, wants_in, wants_idle, message_of, message_in, StoreStep, counted}
use Rattle.low_process.specs.Whole.{IsStoreOf, HasStore, FallsBy, HasOrGains, CountsBeyond}
use Rattle.low_process.proofs.Effects.{Begun}

abbrev IsCame : Arrival → Type 0
IsCame (Came f) = Unit {0}
IsCame _ = ⊥

came_idle : (row : SessionRow) (n : ℕ) (g : Bool) (a : Arrival) → wants_idle row n g a ≡ true → IsCame a
came_idle row n g (Came f) e = tt
came_idle row n g Nothing e = absurd (cc)
came_idle row n g Bad e = absurd (cc)
came_idle row n g Gone e = absurd (cc)

came_in : (row : SessionRow) (n : ℕ) (g : Bool) (ph : Phase) (a : Arrival) → wants_in row n g ph a ≡ true → IsCame a
came_in row n g Idle a e = came_idle row n g a e
came_in row n g Down a e = absurd (cc)
came_in row n g (Waiting k due) a e = absurd (cc)
came_in row n g (Passing owed) a e = absurd (cc)

came : (p : LowProcess) (a : Arrival) → wants p a ≡ true → IsCame a
came p a e = came_in p.row p.next p.greeted p.phase a e

-- what the store did
record Did {D : Type 0} (m : Meaning D) (w d : Bool) (old new : LowStore D) : Type 0 where
  none : w ≡ false → (d ≡ false) × (new ≡ old)
  ready : w ≡ true → d ≡ false → IsLowReady m new
  count : w ≡ true → d ≡ false → low_count new ≡ low_count old + 1
  row : low_row new ≡ low_row old

did : {D : Type 0} (m : Meaning D) (w : Bool) (a : Arrival) (d : Bool) (old new : LowStore D) → (w ≡ true → IsCame a) → StoreStep m (message_of w a) old new d → Did m w d old new
did m false a d old new is s = record { none = λ _. s; ready = λ e. absurd (cc); count = λ e. absurd (cc); row = ap (λ (x : LowStore _). x.row) s.1 }
did m true (Came f) d old new is s = record { none = λ e. absurd (cc); ready = λ _ e. s.ready e; count = λ _ e. s.count e; row = s.row }
did m true Nothing d old new is s = absurd (is refl)
did m true Bad d old new is s = absurd (is refl)
did m true Gone d old new is s = absurd (is refl)

pub neither : (b c : Bool) → (b || c) ≡ false → (b ≡ false) × (c ≡ false)
neither true c e = absurd (cc)
neither false c e = (refl, e)

not_both : (b c : Bool) → b ≡ true → (b && c) ≡ false → c ≡ false
not_both true c e h = h
not_both false c e h = absurd (cc)

-- the process and its store stay in step
pub store_kept : {D : Type 0} (m : Meaning D) (p q : LowProcess) (a : Arrival) (d : Bool) (old new : LowStore D) → Begun p q a d → row_of q ≡ row_of p → StoreStep m (message_in p a) old new d → HasStore m p old → HasStore m q new
store_kept m p q a d old new b row keeps has up =
    let did : Did m (wants p a) d old new = did m (wants p a) a d old new (came p a) keeps in
    let was_up = neither (is_down p) (wants p a && d) (sym b.falls ∙ up) in
    let was : IsStoreOf m p old = has was_up.0 in
    elim (wants p a) as (λ c. wants p a ≡ c → IsStoreOf m q new) [
      | false ↦ λ e. record {
        ready = subst (IsLowReady m) (sym (did.none e).1) was.ready;
        count = ap (λ (x : LowStore _). x.register.first) (did.none e).1 ∙ was.count ∙ sym (b.none e);
        row = did.row ∙ was.row ∙ sym row;
      }
      | true ↦ λ e.
          let fine : d ≡ false = not_both (wants p a) d e was_up.1 in
          record {
            ready = did.ready e fine;
            count = did.count e fine ∙ ap (λ n. n + 1) was.count ∙ sym (b.one e fine);
            row = did.row ∙ was.row ∙ sym row;
          }
    ] refl

-- the process goes down where the store failed
pub falls_by : {D : Type 0} (m : Meaning D) (p q : LowProcess) (a : Arrival) (d : Bool) (old new : LowStore D) → Begun p q a d → StoreStep m (message_in p a) old new d → FallsBy d p q
falls_by m p q a d old new b keeps =
    let did : Did m (wants p a) d old new = did m (wants p a) a d old new (came p a) keeps in
    b.falls ∙ ap (λ c. is_down p || c) (same (wants p a) d (λ e. (did.none e).0))
  where
    same : (w d : Bool) → (w ≡ false → d ≡ false) → (w && d) ≡ d
    same true d h = refl
    same false d h = sym (h refl)

-- ---- what a crash leaves ----

module _ {D : Type 0} (m : Meaning D) (old new : LowStore D) (E b : ℕ) (messages : List (List ℕ)) (free : E + 1 ≤ b + (low_row old).capacity) (settled : Settled m (low_disk old))
    (stands : m.tells → LowStands (low_row old) E b messages (m.reading (low_disk old))) where
  at_start : Each m (LowStands (low_row old) E b messages) (low_disk old)
  at_start = each_settled m (LowStands (low_row old) E b messages) (low_disk old) settled stands

  stays : (a : Arrival) (c : List ℕ) → LowStands (low_row old) E b messages c → HasOrGains (low_row old) E b messages a c
  stays Nothing c is = is
  stays Bad c is = is
  stays Gone c is = is
  stays (Came f) c is = inl is

  images : (wanted : Bool) (a : Arrival) (d : Bool) → (wanted ≡ true → IsCame a) → StoreStep m (message_of wanted a) old new d → Leaves m (low_disk old) (low_disk new) (HasOrGains (low_row old) E b messages a)
  images false a d is s = subst (λ (t : LowStore D). Leaves m (low_disk old) (low_disk t) (HasOrGains (low_row old) E b messages a)) (sym s.1)
      (leaves m (LowStands (low_row old) E b messages) (HasOrGains (low_row old) E b messages a) Same (low_disk old) (low_disk old) at_start
      (λ c is. stays a c is) (λ c d is same. stays a d (subst (LowStands (low_row old) E b messages) (sym same) is)) (started m Same (λ c. refl) (low_disk old)))
  images true (Came f) d is s = leaves m (LowStands (low_row old) E b messages) (HasOrGains (low_row old) E b messages (Came f)) (MayGain (low_row old) f.payload) (low_disk old) (low_disk new) at_start
      (λ c is. inl is) (λ c d is gain. gain.either E b messages free is) s.moves
  images true Nothing d is s = absurd (is refl)
  images true Bad d is s = absurd (is refl)
  images true Gone d is s = absurd (is refl)

pub look_images : {D : Type 0} (m : Meaning D) (p : LowProcess) (old new : LowStore D) (a : Arrival) (d : Bool) → HasStore m p old → StoreStep m (message_in p a) old new d
    → (b : ℕ) (messages : List (List ℕ)) → is_down p ≡ false → next_of p + 1 ≤ b + (low_row old).capacity
    → (m.tells → LowStands (low_row old) (next_of p) b messages (m.reading (low_disk old))) → Leaves m (low_disk old) (low_disk new) (HasOrGains (low_row old) (next_of p) b messages a)
look_images m p old new a d has keeps b messages up free stands =
    images m old new (next_of p) b messages free (has up).ready.settled stands (wants p a) a d (came p a) keeps

-- an image of a store in step has a count above a number that the process counts
pub beyond : {D : Type 0} (m : Meaning D) (q : LowProcess) (new : LowStore D) (j : ℕ) → HasStore m q new → is_down q ≡ false → j < next_of q → Each m (CountsBeyond j) (low_disk new)
beyond m q new j has up lt =
    let of = has up in
    let r = new.register in
    each_weaker m (Selects r.parity r.first r.second) (CountsBeyond j) r.disk
    (λ c is. (r.first, subst (λ k. value_of c ≡ (r.first, k)) of.ready.second (value-selects r.parity r.first r.second c is), omega (arith, lt, of.count))) of.ready.ready.each

-- a process that is up was up before
pub was_up : (d : Bool) (p q : LowProcess) → FallsBy d p q → is_down q ≡ false → is_down p ≡ false
was_up d p q falls up = (neither (is_down p) d (sym falls ∙ up)).0

-- the number of the next message after the first half of a look
pub counts_so : (p q : LowProcess) (a : Arrival) (d : Bool) → Begun p q a d → next_of q ≡ counted (message_in p a) d (next_of p)
counts_so p q a d b = counts (wants p a) a d (came p a) b.none b.one b.lost
  where
    counts : (w : Bool) (a : Arrival) (d : Bool) → (w ≡ true → IsCame a) → (w ≡ false → next_of q ≡ next_of p) → (w ≡ true → d ≡ false → next_of q ≡ next_of p + 1) → (d ≡ true → next_of q ≡ next_of p) → next_of q ≡ counted (message_of w a) d (next_of p)
    counts false a d is none one lost = none refl
    counts true (Came f) true is none one lost = lost refl
    counts true (Came f) false is none one lost = one refl refl
    counts true Nothing d is none one lost = absurd (is refl)
    counts true Bad d is none one lost = absurd (is refl)
    counts true Gone d is none one lost = absurd (is refl)
