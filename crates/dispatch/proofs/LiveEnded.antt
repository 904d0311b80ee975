-- By which cause a call over links or doors ends, and what its status says of that.
use Rattle.std.proofs.Common.{◌≡◌, ◌⊎◌, ◌≤◌, ℕ, List, [], Option, Result, Err, inl, inr, refl, sym, ap, ◌∙◌, subst, arith}
use Rattle.disk_model.specs.declared.name.Role.{Role}
use Rattle.disk_model.specs.declared.shelf.ShelfFault.{ShelfFault}
use Rattle.disk_model.specs.declared.shelf.ShelfFault.TheVariants as shelf_faults
use Rattle.std.specs.Io.KnownBytes.{Appends}
use Rattle.pump_frame.specs.Counts.{Rose}
use Rattle.pump_frame.specs.declared.row.SessionRow.{SessionRow}
use Rattle.command_ends.specs.CommandEnds.{end_status, end_line, Closes, NamesFailed}
use Rattle.command_ends.specs.Tables.{IsTableEnd}
use Rattle.command_ends.specs.declared.command_end.CommandEnd.{CommandEnd}
use Rattle.command_ends.specs.declared.command_end.CommandEnd.TheVariants.{Memory, Unread, NoRow, Failed, Unconnected, Unwritten, Folder, NameTaken}
use Rattle.command_ends.specs.Causes.{Causes, IsCaused, HasStatusCause}

-- ---- an end ----

-- what holds of the causes holds of the end
pub caused : (c d : Causes) (end : CommandEnd) → (c.memory → d.memory) → (c.read → d.read) → (c.unwritten → d.unwritten) → ((role : Role) → c.device role → d.device role) → (c.link → d.link)
    → IsCaused c end → IsCaused d end
caused c d Memory memory read unwritten device link is = memory is
caused c d Unread memory read unwritten device link is = read is
caused c d Unwritten memory read unwritten device link is = unwritten is
caused c d (Failed role) memory read unwritten device link is = device role is
caused c d Unconnected memory read unwritten device link is = link is
caused c d end memory read unwritten device link is = is

pub caused_named : (c : Causes) (fails : ℕ → Role → Type 0) (session : ℕ) (end : CommandEnd) → ((role : Role) → c.device role → fails session role) → IsCaused c end → NamesFailed fails session end
caused_named c fails session (Failed role) device is = device role is
caused_named c fails session end device is = tt

-- a disk could not be taken off the shelf
pub untaken_caused : (c : Causes) (role : Role) (fault : ShelfFault) (end : CommandEnd) → (fault ≡ shelf_faults.Memory → end ≡ Memory) → (fault ≡ shelf_faults.Failed → end ≡ Failed role)
    → c.memory → (fault ≡ shelf_faults.Failed → c.device role) → IsCaused c end
untaken_caused c role shelf_faults.Memory end memory failed m d = subst (IsCaused c) (sym (memory refl)) m
untaken_caused c role shelf_faults.Failed end memory failed m d = subst (IsCaused c) (sym (failed refl)) (d refl)

-- ---- the ends with a status of their own ----

memory_alone : (end : CommandEnd) → end_status end ≡ 1 → end ≡ Memory
memory_alone Memory e = refl
memory_alone other e = absurd (omega (arith, e))

read_alone : (end : CommandEnd) → end_status end ≡ 3 → end ≡ Unread
read_alone Unread e = refl
read_alone other e = absurd (omega (arith, e))

unwritten_alone : (end : CommandEnd) → end_status end ≡ 4 → end ≡ Unwritten
unwritten_alone Unwritten e = refl
unwritten_alone other e = absurd (omega (arith, e))

device_alone : (c : Causes) (end : CommandEnd) → IsCaused c end → end_status end ≡ 7 → (role : Role) × (end ≡ Failed role)
device_alone c (Failed role) is e = (role, refl)
device_alone c Folder is e = absurd is
device_alone c (NameTaken number) is e = absurd is
device_alone c other is e = absurd (omega (arith, e))

link_alone : (end : CommandEnd) → end_status end ≡ 9 → end ≡ Unconnected
link_alone Unconnected e = refl
link_alone other e = absurd (omega (arith, e))

no_words : (end : CommandEnd) → end_status end ≡ 2 → ⊥
no_words Memory e = omega (arith, e)
no_words other e = omega (arith, e)

-- ---- a status that was answered ----

-- The call ended when `mid` was written and the sink had failed so often, and then it wrote its fault.
module _ (old mid new : Option (List ℕ)) (first before now session status : ℕ) (end : CommandEnd) (low : first ≤ before) (high : before ≤ now)
    (closes : Closes mid new session end status) (cause : (status ≡ end_status end) ⊎ ((status ≡ 4) × Rose before now)) where
  its_own : (n : ℕ) → (n ≡ 4 → ⊥) → status ≡ n → end_status end ≡ n
  its_own n other is = elim cause [
    | inl same ↦ sym same ∙ is
    | inr failed ↦ absurd (other (sym is ∙ failed.0))
  ]

  still_nothing : end ≡ Memory → status ≡ 1 → Appends mid new []
  still_nothing same is = elim closes [
    | inl h ↦ subst (λ (e : CommandEnd). Appends mid new (end_line session e)) same h.1
    | inr h ↦ absurd (let four = h.0 in omega (arith, four, is))
  ]

  module _ (c : Causes) (is_caused : IsCaused c end) (Read Link : Type 0) (Device : Role → Type 0) where
    -- the causes of the end are those of the status, where what was written and how often the sink failed is told over the whole call
    pub status_caused : (c.memory → Appends mid new [] → Appends old new []) → (c.read → Read) → (c.unwritten → Rose first before) → ((role : Role) → c.device role → Device role) → (c.link → Link)
        → HasStatusCause (record { memory = Appends old new []; read = Read; unwritten = Rose first now; device = Device; link = Link }) ⊥ status
    status_caused memory read unwritten device link = record {
      memory = λ is.
          let same = memory_alone end (its_own 1 (λ e. omega (arith, e)) is) in
          memory (subst (IsCaused c) same is_caused) (still_nothing same is);
      words = λ is. no_words end (its_own 2 (λ e. omega (arith, e)) is);
      read = λ is. read (subst (IsCaused c) (read_alone end (its_own 3 (λ e. omega (arith, e)) is)) is_caused);
      unwritten = λ is. elim cause [
        | inl same ↦ (let rose = unwritten (subst (IsCaused c) (unwritten_alone end (sym same ∙ is)) is_caused) in omega (arith, rose, high))
        | inr failed ↦ (let rose = failed.1 in omega (arith, low, rose))
      ];
      device = λ is. let named = device_alone c end is_caused (its_own 7 (λ e. omega (arith, e)) is) in (named.0, device named.0 (subst (IsCaused c) named.1 is_caused));
      link = λ is. link (subst (IsCaused c) (link_alone end (its_own 9 (λ e. omega (arith, e)) is)) is_caused);
    }

-- the table gave no row, and nothing was written until then
table_caused : (Read : Type 0) (end : CommandEnd) → IsTableEnd end → (end ≡ Unread → Read) → IsCaused (record { memory = Unit; read = Read; unwritten = ⊥; device = λ role. ⊥; link = ⊥ }) end
table_caused Read Memory only read = tt
table_caused Read Unread only read = read refl
table_caused Read (NoRow why) only read = tt
table_caused Read end only read = absurd only

-- .. and names no disk
pub table_named : (fails : ℕ → Role → Type 0) (session : ℕ) (end : CommandEnd) → IsTableEnd end → NamesFailed fails session end
table_named fails session Memory only = tt
table_named fails session Unread only = tt
table_named fails session (NoRow why) only = tt
table_named fails session end only = absurd only

pub table_status : (old new : Option (List ℕ)) (before now session status : ℕ) (end : CommandEnd) → before ≤ now → Closes old new session end status → (status ≡ end_status end) ⊎ ((status ≡ 4) × Rose before now)
    → (Read Link : Type 0) (Device : Role → Type 0) → IsTableEnd end → (◌≡◌ {A = Result SessionRow CommandEnd} (Err end) (Err Unread) → Read)
    → HasStatusCause (record { memory = Appends old new []; read = Read; unwritten = Rose before now; device = Device; link = Link }) ⊥ status
table_status old new before now session status end high closes cause Read Link Device only read =
    status_caused old old new before before now session status end (omega arith) high closes cause (record { memory = Unit; read = Read; unwritten = ⊥; device = λ role. ⊥; link = ⊥ })
    (table_caused Read end only (λ e. read (ap Err e))) Read Link Device (λ one appends. appends) (λ r. r) (λ none. absurd none) (λ role none. absurd none) (λ none. absurd none)
