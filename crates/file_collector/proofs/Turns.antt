-- How the register's disk moves as it turns.
use Rattle.std.proofs.Common.{◌≡◌, inl, inr, ℕ, suc, ◌+◌, ◌≤◌, List, length, take, drop, Option, Some, Result, Ok, Err, OnOk, refl, sym, ◌∙◌, ap, subst, arith}
use Rattle.std.proofs.lemmas.List.{take-take}
use Rattle.disk_model.specs.Disk.{Meaning, Moves, Torn, IsWritten, Each, Settled}
use Rattle.disk_model.proofs.Run.{started, weaker, goes_on, each_settled, each_both}
use Rattle.stable_buffer.specs.Register.{value_of, SameOutside, KeepsValue, MayTurnTo, Selects}
use Rattle.stable_buffer.specs.Stands.{spelled}
use Rattle.stable_buffer.proofs.Cells.{value-selects}
use Rattle.stable_buffer.proofs.Slots.{value_beside, holds_range}
use Rattle.file_messages.specs.Files.{State, Between, Inside}
use Rattle.file_messages.specs.Messages.{start_message}
use Rattle.file_messages.specs.Assemblies.{progress_of}
use Rattle.file_messages.specs.declared.assembly.Progress.{Progress}
use Rattle.file_collector.specs.Registers.{RegisterStands, HasStart, Follows, StandsOn, MayTurn, Turns, held, register_size}
use Rattle.file_collector.specs.Held.{held_by}

some_is : {X : Type 0} (a b : X) → Some a ≡ Some b → a ≡ b
some_is a b e = cc e

pub held_is : (state : State) → held_by (progress_of state) ≡ held state
held_is Between = refl
held_is (Inside name size bytes) = refl

pub stays : (c : List ℕ) → StandsOn c c
stays c = record { same = λ count state stands. stands }

-- a write behind the register, of a disk whose register holds no bytes
pub start_on : (first n : ℕ) (old new : List ℕ) → n ≤ 140 → value_of old ≡ (first, 0) → Torn 80 n old new → StandsOn old new
start_on first n old new few value torn = record { same = stands }
  where
    prefix : take 32 new ≡ take 32 old
    prefix = sym (take-take 32 80 new (omega arith)) ∙ ap (λ (l : List ℕ). take 32 l) torn.before ∙ take-take 32 80 old (omega arith)

    stands : (count : ℕ) (state : State) → RegisterStands count state old → RegisterStands count state new
    stands count Between is = record {
      size = omega (arith, is.size, torn.no_shorter, torn.no_longer, few);
      header = prefix ∙ is.header;
      value = value_beside 80 n old new torn (omega arith) ∙ is.value;
      start = tt;
    }
    stands count (Inside name size bytes) is =
        let none : 0 ≡ suc (length bytes) = ap (λ (v : ℕ × ℕ). v.1) (sym value ∙ is.value) in absurd (omega (arith, none))

-- what stays outside of the register keeps the start
pub start_stays : (state : State) (old new : List ℕ) → SameOutside old new → HasStart state old → HasStart state new
start_stays Between old new same is = tt
start_stays (Inside name size bytes) old new same is = ap (λ (l : List ℕ). take (2 + length (start_message name size)) l) same.rest ∙ is

pub stage_on : (old new : List ℕ) → KeepsValue old new → StandsOn old new
stage_on old new keeps = record {
  same = λ count state is. record {
    size = keeps.outside.size ∙ is.size;
    header = keeps.outside.prefix ∙ is.header;
    value = keeps.value ∙ is.value;
    start = start_stays state old new keeps.outside is.start;
  };
}

-- the start of the next state is there: it was written, or is that of the file as it was
start_follows : (second : ℕ) (next : State) (disk : List ℕ) → (second ≡ 0 → HasStart next disk) → (state : State) → second ≡ held state → HasStart state disk → Follows state next → HasStart next disk
start_follows second Between disk written state is has follows = tt
start_follows second (Inside name size bytes) disk written Between is has follows = written is
start_follows second (Inside name size bytes) disk written (Inside name' size' bytes') is has (same_name, same_size) =
    rw (same_name, same_size) has

turned : (first second : ℕ) (next : State) (old new : List ℕ) → value_of old ≡ (first, second) → (second ≡ 0 → HasStart next old) → SameOutside old new → value_of new ≡ (first + 1, held next)
    → (count : ℕ) (state : State) → RegisterStands count state old → Follows state next → RegisterStands (count + 1) next new
turned first second next old new value has outside turns count state is follows =
    let both : (first, second) ≡ (count, held state) = sym value ∙ is.value in
    let first_is : first ≡ count = ap (λ (v : ℕ × ℕ). v.0) both in
    let second_is : second ≡ held state = ap (λ (v : ℕ × ℕ). v.1) both in
    record {
      size = outside.size ∙ is.size;
      header = outside.prefix ∙ is.header;
      value = turns ∙ (λ i. (first_is i + 1, held next));
      start = start_stays next old new outside (start_follows second next old has state second_is is.start follows);
    }

pub commit_turns : (first second : ℕ) (next : State) (old new : List ℕ) → value_of old ≡ (first, second) → (second ≡ 0 → HasStart next old) → MayTurnTo (first + 1, held next) old new → MayTurn next old new
commit_turns first second next old new value has turn = record {
  either = λ count state is follows. elim turn.value [
    | inl same ↦ inl (record {
      size = turn.outside.size ∙ is.size;
      header = turn.outside.prefix ∙ is.header;
      value = same ∙ is.value;
      start = start_stays state old new turn.outside is.start;
    })
    | inr turns ↦ inr (turned first second next old new value has turn.outside turns count state is follows)
  ];
}

module _ {D : Type 0} (m : Meaning D) where
  nothing : (d : D) → Each m (λ c. Unit {0}) d
  nothing d = record { reading = λ told. tt; images = λ told c is. tt }

  pub same_disk : (d : D) → Moves m StandsOn d d
  same_disk d = started m StandsOn stays d

  -- the start was written
  pub wrote : (parity first n : ℕ) (old new : D) → n ≤ 140 → Each m (Selects parity first 0) old → Moves m (Torn 80 n) old new → Moves m StandsOn old new
  wrote parity first n old new few selects moved =
      weaker m (Selects parity first 0) (Torn 80 n) StandsOn old new selects (λ a b is torn. start_on first n a b few (value-selects parity first 0 a is) torn) moved

  pub staged : (old mid new : D) → Moves m StandsOn old mid → Moves m KeepsValue mid new → Moves m StandsOn old new
  staged old mid new so_far stage =
      goes_on m (λ c. Unit {0}) StandsOn KeepsValue StandsOn old mid new (nothing old) (λ c d _ on. on)
      (λ c d e _ on keeps. record { same = λ count state stands. let next = stage_on d e keeps in next.same count state (on.same count state stands) })
      so_far stage

  on_turns : (next : State) (c d : List ℕ) → StandsOn c d → MayTurn next c d
  on_turns next c d on = record { either = λ count state stands follows. inl (on.same count state stands) }

  pub so_far_turns : (next : State) (old new : D) → Moves m StandsOn old new → Moves m (MayTurn next) old new
  so_far_turns next old new moved = weaker m (λ c. Unit {0}) StandsOn (MayTurn next) old new (nothing old) (λ c d _ on. on_turns next c d on) moved

  -- the start is on the disk once the cell is
  pub start_settled : (next : State) (held_before : ℕ) (mid new : D) → (held_before ≡ 0 → m.tells → HasStart next (m.reading mid)) → Moves m KeepsValue mid new → Settled m new
      → Each m (λ c. held_before ≡ 0 → HasStart next c) new
  start_settled next held_before mid new has stage settled = each_settled m (λ c. held_before ≡ 0 → HasStart next c) new settled
      (λ told none. start_stays next (m.reading mid) (m.reading new) (let keeps = stage.reads told in keeps.outside) (has none told))

  pub turns : (parity first second : ℕ) (next : State) (mid new : D) → Each m (Selects parity first second) mid → Each m (λ c. second ≡ 0 → HasStart next c) mid
      → Moves m (MayTurnTo (first + 1, held next)) mid new → Moves m (MayTurn next) mid new
  turns parity first second next mid new selects has moved =
      weaker m (λ c. Selects parity first second c × (second ≡ 0 → HasStart next c)) (MayTurnTo (first + 1, held next)) (MayTurn next) mid new
      (each_both m (Selects parity first second) (λ c. second ≡ 0 → HasStart next c) mid selects has)
      (λ a b is turn. commit_turns first second next a b (value-selects parity first second a is.0) is.1 turn) moved

  pub stored : (next : State) (old mid new : D) → Moves m StandsOn old mid → Moves m (MayTurn next) mid new → Moves m (MayTurn next) old new
  stored next old mid new first second =
      goes_on m (λ c. Unit {0}) StandsOn (MayTurn next) (MayTurn next) old mid new (nothing old) (λ c d _ on. on_turns next c d on)
      (λ c d e _ on may. record { either = λ count state stands follows. may.either count state (on.same count state stands) follows }) first second

-- the reading once the register is turned
pub all_turned : (parity first second : ℕ) (next : State) (old mid new : List ℕ) → Selects parity first second mid → (second ≡ 0 → HasStart next mid) → StandsOn old mid
    → SameOutside mid new → value_of new ≡ (first + 1, held next) → Turns next old new
all_turned parity first second next old mid new selects has on outside value = record {
  more = λ count state stands follows.
      turned first second next mid new (value-selects parity first second mid selects) has outside value count state (on.same count state stands) follows;
}

spelled_length : (message : List ℕ) → length (spelled message) ≡ 2 + length message
spelled_length message = omega arith

written : (message old new : List ℕ) → length old ≡ register_size → IsWritten old 80 (spelled message) new → take (2 + length message) (drop 80 new) ≡ spelled message
written message old new whole is =
    subst (λ (n : ℕ). take n (drop 80 new) ≡ spelled message) (spelled_length message) (holds_range old 80 (spelled message) new (omega (arith, whole)) is)

-- the start that was written
start_written : (next : State) (p : Progress) (old new : List ℕ) → p ≡ p → Some p ≡ progress_of next → length old ≡ register_size
    → IsWritten old 80 (spelled (start_message p.name p.size)) new → HasStart next new
start_written Between p old new _ is whole wrote = tt
start_written (Inside name size bytes) p old new _ is whole wrote =
    let same : p ≡ record { name = name; size = size; bytes = length bytes } = some_is _ _ is in
    subst (λ (q : Progress). take (2 + length (start_message q.name q.size)) (drop 80 new) ≡ spelled (start_message q.name q.size)) same
    (written (start_message p.name p.size) old new whole wrote)

pub started_by : {T E : Type 0} (tells : Type 0) (second : ℕ) (result : Result T E) (p : Progress) (old new : List ℕ) (progress : Option Progress) → progress ≡ Some p → (tells → length old ≡ register_size)
    → OnOk result (tells → IsWritten old 80 (spelled (start_message p.name p.size)) new)
    → OnOk result ((next : State) → progress ≡ progress_of next → second ≡ 0 → tells → HasStart next new)
started_by tells second (Err e) p old new progress is whole wrote = tt
started_by tells second (Ok t) p old new progress is whole wrote = λ next of none told. start_written next p old new refl (sym is ∙ of) (whole told) (wrote told)
