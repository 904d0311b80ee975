-- Why a collector does not open.
use Rattle.std.proofs.Common.{◌≡◌, ◌⊎◌, inl, inr, ⊎_elim, ◌^◌, ◌-◌, ℕ, suc, ◌<◌, ◌≤◌, List, [], length, take, Option, Some, Result, Ok, Err, IfErr, sym, ◌∙◌, ap, subst, arith}
use Rattle.pump_frame.specs.Counts.{Rose}
use Rattle.disk_model.specs.Disk.{Meaning, Moves, Same, Settled}
use Rattle.disk_model.proofs.Run.{goes_on_same}
use Rattle.stable_buffer.specs.Register.{IsReady, register_disk, register_value, value_of, cell_at, place_of}
use Rattle.stable_buffer.specs.declared.register.Register.{Register}
use Rattle.file_messages.specs.Files.{State, Between, Inside, state_after}
use Rattle.file_messages.specs.Assemblies.{StandsFor, progress_of}
use Rattle.file_messages.specs.declared.assembly.Assembly.{Assembly}
use Rattle.file_messages.specs.declared.assembly.Progress.{Progress}
use Rattle.folders.specs.Placing.{Placing}
use Rattle.file_collector.specs.Registers.{RegisterStands, HasStart, IsKept}
use Rattle.file_collector.specs.Gathering.{IsWellBegun}
use Rattle.file_collector.specs.Making.{IsRegister, IsOther, IsMadeOf, MayBeMade}
use Rattle.file_collector.specs.Parts.{IsDevice}
use Rattle.file_collector.specs.Closed.{IsOwn, RegisterReads, CallFailed, MayBeCounted, IsSound, IsDamaged, HasNoStart, IsOpenedOn, IsTaken, IsRegisterFault, IsFindFault, IsWhyClosed}
use Rattle.file_collector.specs.declared.values.CollectFault.{CollectFault}
use Rattle.file_collector.specs.declared.values.CollectFault.TheVariants.{Folder, Register as OfRegister, Other, Damaged}
use Rattle.file_collector.proofs.Found.{progress_size}
use Rattle.file_collector.specs.Reopening.{OpensOn}
use Rattle.file_collector.proofs.Made.{new_stands}
use Rattle.file_collector.proofs.Opens.{begun_all}
use Rattle.file_collector.proofs.Crashes.{gave_by, gave_on, made_opens, part_by}

pub if_err : {T E : Type 0} (r : Result T E) (P Q : E → Type 0) → ((e : E) → P e → Q e) → IfErr r P → IfErr r Q
if_err (Ok t) P Q f p = tt
if_err (Err e) P Q f p = f e p

pub rose_later : (a b c : ℕ) → a ≤ b → Rose b c → Rose a c
rose_later a b c le rose = omega (arith, le, rose)

may_count : (count : ℕ) (state : State) → MayBeCounted count state → count ≤ 2 ^ 48
may_count count Between h = h
may_count count (Inside n z b) h = omega (arith, h.0)

-- a register that counts more than there are numbers is unsound
pub above_limit : (disk : List ℕ) (v : ℕ × ℕ) → value_of disk ≡ v → 2 ^ 48 < v.0 → IsSound disk → ⊥
above_limit disk v is above sound =
    let same : v.0 ≡ sound.count = ap (λ (w : ℕ × ℕ). w.0) (sym is ∙ sound.stands.value) in
    let le = may_count sound.count sound.state sound.may in
    absurd (omega (arith, above, same, le))

-- a sound disk that tells of a file that has begun
record Begun (disk : List ℕ) (v : ℕ × ℕ) : Type 0 where
  name : List ℕ
  size : ℕ
  bytes : List ℕ
  lawful : IsWellBegun (Inside name size bytes)
  few : v.0 < 2 ^ 48
  holds : v.1 ≡ suc (length bytes)
  start : HasStart (Inside name size bytes) disk

begun_of : (disk : List ℕ) (v : ℕ × ℕ) → value_of disk ≡ v → 0 < v.1 → (count : ℕ) (state : State) → MayBeCounted count state → RegisterStands count state disk → Begun disk v
begun_of disk v is some count Between may stands = absurd (omega (arith, some, ap (λ (w : ℕ × ℕ). w.1) (sym is ∙ stands.value)))
begun_of disk v is some count (Inside n z b) may stands = record {
  name = n;
  size = z;
  bytes = b;
  lawful = may.1;
  few = omega (arith, may.0, ap (λ (w : ℕ × ℕ). w.0) (sym is ∙ stands.value));
  holds = ap (λ (w : ℕ × ℕ). w.1) (sym is ∙ stands.value);
  start = stands.start;
}

-- a register that tells of a file, of which no start stands there
pub without_start : (disk : List ℕ) (v : ℕ × ℕ) → value_of disk ≡ v → 0 < v.1 → HasNoStart disk → IsSound disk → ⊥
without_start disk v is some none sound =
    let b = begun_of disk v is some sound.count sound.state sound.may sound.stands in
    none b.name b.size (b.lawful.0, b.lawful.1, omega arith) b.start

-- .. or of a file with more bytes than it is to have, or behind the last number
pub past_end : (disk : List ℕ) (v : ℕ × ℕ) → value_of disk ≡ v → 0 < v.1 → (assembly : Assembly) (progress : Progress) (of : Option Progress) → of ≡ Some progress
    → ((state : State) → StandsFor assembly state → of ≡ progress_of state)
    → ((name : List ℕ) (size : ℕ) (bytes : List ℕ) → IsWellBegun (Inside name size bytes) → HasStart (Inside name size bytes) disk → StandsFor assembly (Inside name size []))
    → (v.0 < 2 ^ 48 → v.1 - 1 ≤ progress.size → ⊥) → IsSound disk → ⊥
past_end disk v is some assembly progress of found tells stands past sound =
    let b = begun_of disk v is some sound.count sound.state sound.may sound.stands in
    let sized : progress.size ≡ b.size = progress_size progress b.name b.size [] of found (tells (Inside b.name b.size []) (stands b.name b.size b.bytes b.lawful b.start)) in
    let few = b.lawful.2 in
    past b.few (omega (arith, few, sized, b.holds))

-- what stands for messages is sound, and no other's
may_of : (count : ℕ) (state : State) → count < 2 ^ 48 → IsWellBegun state → MayBeCounted count state
may_of count Between lt begun = omega (arith, lt)
may_of count (Inside n z b) lt begun = (lt, begun)

not_other : (count : ℕ) (state : State) (disk : List ℕ) → RegisterStands count state disk → IsOther disk → ⊥
not_other count state disk stands other = ⊎_elim (λ (h : 220 < length disk). absurd (omega (arith, h, stands.size))) (λ h. h.1 stands.header) other

some_one : (a b : List ℕ) → Some a ≡ Some b → a ≡ b
some_one a b e = cc e

module _ {D : Type 0} (m : Meaning D) where
  pub value_read : (register : Register D) → IsReady m register → m.tells → value_of (m.reading (register_disk register)) ≡ register_value register
  value_read register ready told =
      let s = ready.each.reading told in
      ap (λ p. cell_at (m.reading register.disk) (place_of p)) s.selector ∙ s.cell

  pub device_later : (a b c : D) (faults : ℕ) → m.count a ≤ m.count b → IsDevice m b c faults → IsDevice m a c faults
  device_later a b c faults le d = (d.0, rose_later (m.count a) (m.count b) (m.count c) le d.1)

  pub opened_on : (given made : D) (register : Register D) → m.count given ≤ m.count made → m.count made ≤ m.count (register_disk register) → Moves m Same made (register_disk register)
      → (m.tells → IsMadeOf (m.reading given) (m.reading made)) → Moves m MayBeMade given made → IsOpenedOn m given register
  opened_on given made register first second moves of so_far = record {
    later = omega (arith, first, second);
    made = λ told. ⊎_elim
        (λ h. inl (h.0, moves.reads told ∙ h.1))
        (λ h. inr (h.0, moves.reads told ∙ h.1))
        (of told);
    moves = goes_on_same m MayBeMade given made (register_disk register) so_far moves;
  }

  -- an unsound disk under a register that tells of a file is a register's, and damaged
  pub damaged_by : (given : D) (register : Register D) → m.tells → IsOpenedOn m given register → value_of (m.reading (register_disk register)) ≡ register_value register → (0 < register.second) ⊎ (2 ^ 48 < register.first)
      → (IsSound (m.reading (register_disk register)) → ⊥) → IsDamaged (m.reading given)
  damaged_by given register told opened value some unsound = ⊎_elim
      (λ same. record { register = same.0; unsound = λ sound. unsound (subst IsSound (sym same.1) sound) })
      (λ new.
      let none : register_value register ≡ (0, 0) = sym value ∙ ap value_of new.1 ∙ new_stands.value in
      let first = ap (λ (v : ℕ × ℕ). v.0) none in
      let second = ap (λ (v : ℕ × ℕ). v.1) none in
      absurd (⊎_elim (λ (h : 0 < register.second). omega (arith, h, second)) (λ (h : 2 ^ 48 < register.first). omega (arith, h, first)) some))
      (opened.made told)

module _ {I D : Type 0} (mi : Placing I) (md : Meaning D) where
  -- no register was opened on the disk that the inbox gave
  pub closed_at : (old new : I) (given : D) (fault : CollectFault) → (mi.tells → mi.register old ≡ Some (md.reading given)) → Settled md given → IsRegisterFault md given fault → IsWhyClosed mi md old new fault
  closed_at old new given (Folder faults) reads settled fault = absurd fault
  closed_at old new given (OfRegister faults) reads settled fault = record {
    left = fault.left;
    gave = gave_by mi md old given fault.left reads settled (made_opens md mi.tells (mi.part old) given fault.left fault.moves);
    device = fault.device;
  }
  closed_at old new given Other reads settled fault = λ told tells. record { bytes = md.reading given; reads = reads told; holds = fault tells }
  closed_at old new given Damaged reads settled fault = λ told tells. record { bytes = md.reading given; reads = reads told; holds = fault tells }

  -- what was found behind a register that was taken tells why a collector does not open
  pub closed_by : (old taken new : I) (register : Register D) (fault : CollectFault) → IsTaken mi md old register → IsReady md register → Settled md (register_disk register) → 0 < register.second → mi.count old ≤ mi.count taken → mi.part taken ≡ mi.part old
      → (mi.tells → md.tells → (count : ℕ) (state : State) (bytes : List ℕ) → mi.register old ≡ Some bytes → RegisterStands count state bytes → IsKept md register count state)
      → IsFindFault mi md taken new register fault → IsWhyClosed mi md old new fault
  closed_by old taken new register (Folder faults) is ready settled some le same found fault = ⊎_elim
      (λ f. inl (f.0, rose_later (mi.count old) (mi.count taken) (mi.count new) le f.1))
      (λ f. inr (record { left = f.left; gave = part_by mi md old taken register f.left same found f.taken; device = f.device }))
      fault
  closed_by old taken new register (OfRegister faults) is ready settled some le same found fault = record {
    left = fault.left;
    gave = gave_on mi md old taken register fault.left is settled same fault.moves;
    device = device_later md is.given (register_disk register) fault.left faults is.opened.later fault.device;
  }
  closed_by old taken new register Other is ready settled some le same found fault = absurd fault
  closed_by old taken new register Damaged is ready settled some le same found fault = λ told tells. record {
    bytes = md.reading is.given;
    reads = is.reads told;
    holds = damaged_by md is.given register tells is.opened (value_read md register ready tells) (inl some) (fault tells);
  }

  -- a folder whose register was taken is none of another's
  pub own_by : (old : I) (register : Register D) → IsTaken mi md old register → (md.tells → IsRegister (md.reading (register_disk register)) → IsSound (md.reading (register_disk register))) → mi.tells → md.tells → RegisterReads mi old IsOwn
  own_by old register is sound told tells = record {
    bytes = md.reading is.given;
    reads = is.reads told;
    holds = ⊎_elim (λ h. inl (subst IsSound h.1 (sound tells (subst IsRegister (sym h.1) h.0)))) (λ h. inr h.0) (is.opened.made tells);
  }

  -- what fits messages is closed only where a call failed
  pub called_by : (old new : I) (fault : CollectFault) → IsWhyClosed mi md old new fault → mi.tells → md.tells → (messages : List (List ℕ)) → (on : OpensOn mi old messages) → on.fits.count < 2 ^ 48 → CallFailed mi md old new fault
  called_by old new (Folder faults) why told tells messages on lt = why
  called_by old new (OfRegister faults) why told tells messages on lt = why
  called_by old new Other why told tells messages on lt =
      let r = why told tells in
      not_other on.fits.count (state_after Between (take on.fits.count messages)) on.bytes on.fits.stands (subst IsOther (some_one r.bytes on.bytes (sym r.reads ∙ on.register)) r.holds)
  called_by old new Damaged why told tells messages on lt =
      let r = why told tells in
      let state = state_after Between (take on.fits.count messages) in
      let sound : IsSound on.bytes = record {
        count = on.fits.count;
        state = state;
        may = may_of on.fits.count state lt (begun_all Between (take on.fits.count messages) tt);
        stands = on.fits.stands;
      } in
      let damaged : IsDamaged r.bytes = r.holds in
      damaged.unsound (subst IsSound (some_one on.bytes r.bytes (sym on.register ∙ r.reads)) sound)
