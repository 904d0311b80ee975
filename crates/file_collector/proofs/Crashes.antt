-- What a crash leaves of the register's disk and of the part while a collector opens.
use Rattle.std.proofs.Common.{◌≡◌, ◌⊎◌, inl, inr, ⊎_elim, ℕ, suc, ◌+◌, ◌-◌, ◌<◌, ◌≤◌, List, [], length, take, get_or, Option, None, Some, IfSome, refl, sym, ◌∙◌, ap, subst, arith}
use Rattle.std.proofs.lemmas.List.{take_all}
use Rattle.disk_model.specs.Disk.{Meaning, Moves, Same, Each, Settled}
use Rattle.disk_model.proofs.Run.{weaker, goes_on, each_settled, leaves}
use Rattle.stable_buffer.specs.Register.{value_of, KeepsValue, MayTurnTo, Selects, register_disk}
use Rattle.stable_buffer.specs.declared.register.Register.{Register}
use Rattle.stable_buffer.proofs.Cells.{value-selects}
use Rattle.file_messages.specs.Files.{State, Between, Inside, after, state_after}
use Rattle.file_messages.specs.Messages.{message_of}
use Rattle.file_messages.specs.Assemblies.{StandsFor, progress_of}
use Rattle.file_messages.specs.declared.assembly.Assembly.{Assembly}
use Rattle.file_messages.specs.declared.assembly.Progress.{Progress}
use Rattle.file_messages.proofs.Taking.{whole_given}
use Rattle.folders.specs.Placing.{Placing, Part, is_there, first_of}
use Rattle.file_collector.specs.Registers.{RegisterStands, HasStart, IsKept, MayTurn, MayLeaveFile, held}
use Rattle.file_collector.specs.Gathering.{IsWellBegun, PartStands}
use Rattle.file_collector.specs.Collecting.{Fits}
use Rattle.file_collector.specs.Opening.{lying_part}
use Rattle.file_collector.specs.Reopening.{OpensOn}
use Rattle.file_collector.specs.Making.{new_register, IsRegister, IsUnmade, IsOther, MayBeMade}
use Rattle.file_collector.specs.Closed.{IsSound, IsDamaged, IsPassed, MayPass, MayOpen, MaySkip, IsCallFault, IsTurnFault, IsOpenedOn, IsTaken, IsFindFault, KeepsBytes, counted_state, GaveRegister, GavePart, LyingTaken}
use Rattle.file_collector.specs.declared.values.CollectFault.{CollectFault}
use Rattle.file_collector.specs.declared.values.CollectFault.TheVariants.{Folder, Register as OfRegister, Other, Damaged}
use Rattle.file_collector.proofs.Turns.{start_stays, stage_on}
use Rattle.file_collector.proofs.Steps.{completes}
use Rattle.file_collector.proofs.Collects.{state_next}
use Rattle.file_collector.proofs.Made.{new_stands, unmade_not}
use Rattle.file_collector.proofs.Found.{progress_size, part_found, some_held}
use Rattle.file_collector.proofs.Opens.{begun_all, take_next, missing}

-- ---- what each step of it leaves ----

leaves_file : (first second : ℕ) (old new : List ℕ) → value_of old ≡ (first, second) → MayTurnTo (first, 0) old new → MayLeaveFile old new
leaves_file first second old new value turn = record {
  either = λ count state is. elim turn.value [
    | inl same ↦ inl (record {
      size = turn.outside.size ∙ is.size;
      header = turn.outside.prefix ∙ is.header;
      value = same ∙ is.value;
      start = start_stays state old new turn.outside is.start;
    })
    | inr turns ↦
        let first_is : first ≡ count = ap (λ (v : ℕ × ℕ). v.0) (sym value ∙ is.value) in
        inr (record {
          size = turn.outside.size ∙ is.size;
          header = turn.outside.prefix ∙ is.header;
          value = turns ∙ (λ i. (first_is i, 0));
          start = tt;
        })
  ];
}

skips_turn : (whole : Type 0) → whole → (old new : List ℕ) → MayTurn Between old new → MaySkip whole old new
skips_turn whole is old new may = record { either = λ count state stands. ⊎_elim (λ same. inl same) (λ more. inr (inl (is, more))) (may.either count state stands tt) }

skips_leave : (whole : Type 0) → (whole → ⊥) → (old new : List ℕ) → MayLeaveFile old new → MaySkip whole old new
skips_leave whole not old new may = record { either = λ count state stands. ⊎_elim (λ same. inl same) (λ between. inr (inr (not, between))) (may.either count state stands) }

-- a file has begun, whose part has too few bytes or is missing; and whether all had come
pub record Passing (part : Part) (whole : Type 0) (state : State) : Type 0 where
  pub name : List ℕ
  pub size : ℕ
  pub bytes : List ℕ
  pub is : state ≡ Inside name size bytes
  pub few : first_of (length bytes) part ≡ None
  pub all : whole → length bytes ≡ size
  pub some : length bytes ≡ size → whole

-- what is known of a disk before it is passed on
pub record Known (told : Type 0) (part : Part) (whole : Type 0) (disk : List ℕ) : Type 0 where
  pub passing : told → (count : ℕ) (state : State) → IsWellBegun state → RegisterStands count state disk → Passing part whole state
  pub sound : IsRegister disk → IsSound disk

passed : (part : Part) (whole : Type 0) (count : ℕ) (state : State) (disk : List ℕ) → Passing part whole state → (whole × RegisterStands (count + 1) Between disk) ⊎ ((whole → ⊥) × RegisterStands count Between disk) → IsPassed part count state disk
passed part whole count state disk p either =
    subst (λ (s : State). IsPassed part count s disk) (sym p.is)
    (p.few, ⊎_elim (λ more. inl (p.all more.0, more.1)) (λ none. inr ((λ same. none.0 (p.some same)), none.1)) either)

passes : (told : Type 0) (part : Part) (whole : Type 0) (old new : List ℕ) → Known told part whole old → MaySkip whole old new → MayPass told part old new
passes told part whole old new known skip = record {
  either = λ yes count state begun stands.
      ⊎_elim (λ same. inl same) (λ on. inr (passed part whole count state new (known.passing yes count state begun stands) on)) (skip.either count state stands);
  damaged = λ is. absurd (is.unsound (known.sound is.register));
}

-- what a register tells of the file that has begun is known of its disk
pub known_by : (told : Type 0) (disk : List ℕ) (v : ℕ × ℕ) → value_of disk ≡ v → 0 < v.1 → (assembly : Assembly) (progress : Progress) (of : Option Progress) → of ≡ Some progress
    → ((state : State) → StandsFor assembly state → of ≡ progress_of state)
    → ((name : List ℕ) (size : ℕ) (bytes : List ℕ) → IsWellBegun (Inside name size bytes) → HasStart (Inside name size bytes) disk → StandsFor assembly (Inside name size []))
    → (part : Part) → (told → None ≡ first_of (v.1 - 1) part) → (IsRegister disk → IsSound disk) → Known told part (v.1 - 1 ≡ progress.size) disk
known_by told disk v is some assembly progress of found tells stands part none sound = record {
  passing = λ yes count state begun on.
      let second : v.1 ≡ held state = ap (λ (w : ℕ × ℕ). w.1) (sym is ∙ on.value) in
      let (name, size, bytes, inside) = some_held state (λ zero. absurd (omega (arith, some, second, zero))) in
      let long : v.1 ≡ suc (length bytes) = second ∙ ap held inside in
      let number : v.1 - 1 ≡ length bytes = omega (arith, long) in
      let has : HasStart (Inside name size bytes) disk = subst (λ (s : State). HasStart s disk) inside on.start in
      let sized : progress.size ≡ size = progress_size progress name size [] of found (tells (Inside name size []) (stands name size bytes (subst IsWellBegun inside begun) has)) in
      record {
        name = name;
        size = size;
        bytes = bytes;
        is = inside;
        few = ap (λ k. first_of k part) (sym number) ∙ sym (none yes);
        all = λ whole. sym number ∙ whole ∙ sized;
        some = λ same. number ∙ same ∙ sym sized;
      };
  sound = sound;
}

stands_register : (count : ℕ) (state : State) (disk : List ℕ) → RegisterStands count state disk → IsRegister disk
stands_register count state disk stands = record { size = stands.size; begins = stands.header }

not_other : (disk : List ℕ) → IsOther disk → IsRegister disk → ⊥
not_other disk other is = ⊎_elim (λ (h : 220 < length disk). absurd (omega (arith, h, is.size))) (λ h. h.1 is.begins) other

other_not : (disk : List ℕ) → IsUnmade disk → IsOther disk → ⊥
other_not disk unmade other = ⊎_elim
    (λ (short : length disk < 220). ⊎_elim (λ (long : 220 < length disk). absurd (omega (arith, short, long))) (λ h. let size : length disk ≡ 220 = h.0 in absurd (omega (arith, short, size))) other)
    (λ whole. ⊎_elim (λ (long : 220 < length disk). let size : length disk ≡ 220 = whole.0 in absurd (omega (arith, long, size))) (λ h. h.2 whole.1) other)
    unmade

foreign_not : (disk : List ℕ) → IsUnmade disk → IsOther disk ⊎ IsDamaged disk → ⊥
foreign_not disk unmade foreign = ⊎_elim (λ other. other_not disk unmade other) (λ damaged. unmade_not disk unmade damaged.register) foreign

made_open : (told : Type 0) (part : Part) (c d : List ℕ) → MayBeMade c d → MayOpen told part c d
made_open told part c d made = record {
  either = λ yes count state begun stands. ⊎_elim
      (λ same. inl (subst (λ (l : List ℕ). RegisterStands count state l) (sym same) stands))
      (λ new. absurd (unmade_not c new.0 (stands_register count state c stands)))
      made;
  unmade = λ yes unmade. ⊎_elim
      (λ same. inl (subst IsUnmade (sym same) unmade))
      (λ new. ⊎_elim (λ still. inl still) (λ is. inr (subst (λ (l : List ℕ). RegisterStands 0 Between l) (sym is) new_stands)) new.1)
      made;
  foreign = λ foreign. ⊎_elim (λ same. same) (λ new. absurd (foreign_not c new.0 foreign)) made;
}

made_pass : (told : Type 0) (part : Part) (c d e : List ℕ) → MayBeMade c d → IsRegister d × MayPass told part d e → MayOpen told part c e
made_pass told part c d e made (is, pass) = record {
  either = λ yes count state begun stands. ⊎_elim
      (λ same. pass.either yes count state begun (subst (λ (l : List ℕ). RegisterStands count state l) (sym same) stands))
      (λ new. absurd (unmade_not c new.0 (stands_register count state c stands)))
      made;
  unmade = λ yes unmade. ⊎_elim
      (λ same. absurd (unmade_not d (subst IsUnmade (sym same) unmade) is))
      (λ new. ⊎_elim
      (λ still. absurd (unmade_not d still is))
      (λ one. ⊎_elim (λ stands. inr stands) (λ no. absurd no) (pass.either yes 0 Between tt (subst (λ (l : List ℕ). RegisterStands 0 Between l) (sym one) new_stands)))
      new.1)
      made;
  foreign = λ foreign. ⊎_elim
      (λ same. ⊎_elim (λ other. absurd (not_other d (subst IsOther (sym same) other) is)) (λ damaged. pass.damaged (subst IsDamaged (sym same) damaged) ∙ same) foreign)
      (λ new. absurd (foreign_not c new.0 foreign))
      made;
}

new_is : IsRegister new_register
new_is = record { size = refl; begins = refl }

-- ---- of a disk ----

module _ {D : Type 0} (m : Meaning D) where
  anything : (d : D) → Each m (λ c. Unit {0}) d
  anything d = record { reading = λ told. tt; images = λ told c is. tt }

  -- the file that had begun is left: the cell is staged, and selected
  pub staged_leave : (old mid : D) → Moves m KeepsValue old mid → Moves m MayLeaveFile old mid
  staged_leave old mid moved = weaker m (λ c. Unit {0}) KeepsValue MayLeaveFile old mid (anything old)
      (λ c d _ keeps. record { either = λ count state stands. inl (let on = stage_on c d keeps in on.same count state stands) }) moved

  pub left_file : (parity first second : ℕ) (old mid new : D) → Each m (Selects parity first second) mid → Moves m KeepsValue old mid → Moves m (MayTurnTo (first, 0)) mid new → Moves m MayLeaveFile old new
  left_file parity first second old mid new selects stage commit =
      goes_on m (λ c. Unit {0}) KeepsValue MayLeaveFile MayLeaveFile old mid new (anything old)
      (λ c d _ keeps. record { either = λ count state stands. inl (let on = stage_on c d keeps in on.same count state stands) })
      (λ c d e _ keeps may. record { either = λ count state stands. may.either count state (let on = stage_on c d keeps in on.same count state stands) })
      stage
      (weaker m (Selects parity first second) (MayTurnTo (first, 0)) MayLeaveFile mid new selects (λ c d is turn. leaves_file first second c d (value-selects parity first second c is) turn) commit)

  pub turn_skips : (whole : Type 0) → whole → (old new : D) → Moves m (MayTurn Between) old new → Moves m (MaySkip whole) old new
  turn_skips whole is old new moved = weaker m (λ c. Unit {0}) (MayTurn Between) (MaySkip whole) old new (anything old) (λ c d _ may. skips_turn whole is c d may) moved

  pub leave_skips : (whole : Type 0) → (whole → ⊥) → (old new : D) → Moves m MayLeaveFile old new → Moves m (MaySkip whole) old new
  leave_skips whole not old new moved = weaker m (λ c. Unit {0}) MayLeaveFile (MaySkip whole) old new (anything old) (λ c d _ may. skips_leave whole not c d may) moved

  pub turn_fault : (may : List ℕ → List ℕ → Type 0) (old new : D) (fault : CollectFault) → Moves m may old new → IsCallFault m old new fault → IsTurnFault m may old fault
  turn_fault may old new (Folder faults) moved fault = absurd fault
  turn_fault may old new (OfRegister faults) moved fault = record { left = new; device = fault; moves = moved }
  turn_fault may old new Other moved fault = absurd fault
  turn_fault may old new Damaged moved fault = absurd fault

  pub same_passes : (told : Type 0) (part : Part) (old new : D) → Moves m Same old new → Moves m (MayPass told part) old new
  same_passes told part old new moved = weaker m (λ c. Unit {0}) Same (MayPass told part) old new (anything old)
      (λ c d _ same. record { either = λ yes count state begun stands. inl (subst (λ (l : List ℕ). RegisterStands count state l) (sym same) stands); damaged = λ is. same }) moved

  pub skips_pass : (told : Type 0) (part : Part) (whole : Type 0) (old mid new : D) → Settled m old → (m.tells → Known told part whole (m.reading old)) → Moves m Same old mid → Moves m (MaySkip whole) mid new → Moves m (MayPass told part) old new
  skips_pass told part whole old mid new settled known first second =
      goes_on m (Known told part whole) Same (MaySkip whole) (MayPass told part) old mid new (each_settled m (Known told part whole) old settled known)
      (λ c d _ same. record { either = λ yes count state begun stands. inl (subst (λ (l : List ℕ). RegisterStands count state l) (sym same) stands); damaged = λ is. same })
      (λ c d e is same skip. passes told part whole c e is (subst (λ (l : List ℕ). MaySkip whole l e) same skip))
      first second

  pub made_opens : (told : Type 0) (part : Part) (given left : D) → Moves m MayBeMade given left → Moves m (MayOpen told part) given left
  made_opens told part given left moved = weaker m (λ c. Unit {0}) MayBeMade (MayOpen told part) given left (anything given) (λ c d _ made. made_open told part c d made) moved

  pub opens_by : (told : Type 0) (part : Part) (given left : D) (register : Register D) → IsOpenedOn m given register → Settled m (register_disk register) → Moves m (MayPass told part) (register_disk register) left → Moves m (MayOpen told part) given left
  opens_by told part given left register opened settled moved =
      let is : m.tells → IsRegister (m.reading (register_disk register)) = λ tells. ⊎_elim (λ h. subst IsRegister (sym h.1) h.0) (λ h. subst IsRegister (sym h.1) new_is) (opened.made tells) in
      goes_on m (λ c. Unit {0}) MayBeMade (λ d e. IsRegister d × MayPass told part d e) (MayOpen told part) given (register_disk register) left (anything given)
      (λ c d _ made. made_open told part c d made)
      (λ c d e _ made pass. made_pass told part c d e made pass)
      opened.moves
      (weaker m IsRegister (MayPass told part) (λ d e. IsRegister d × MayPass told part d e) (register_disk register) left (each_settled m IsRegister (register_disk register) settled is) (λ d e here pass. (here, pass)) moved)

-- ---- what fits messages fits them still ----

pub some_one : (a b : List ℕ) → Some a ≡ Some b → a ≡ b
some_one a b e = cc e

none_some : {A : Type 0} (x : A) (o : Option A) → o ≡ Some x → o ≡ None → ⊥
none_some x o is none = absurd (cc (is, none))

inside_bytes : (n n' : List ℕ) (z z' : ℕ) (b b' : List ℕ) → Inside n z b ≡ Inside n' z' b' → b ≡ b'
inside_bytes n n' z z' b b' e = cc e

inside_size : (n n' : List ℕ) (z z' : ℕ) (b b' : List ℕ) → Inside n z b ≡ Inside n' z' b' → z ≡ z'
inside_size n n' z z' b b' e = cc e

module _ {I D : Type 0} (mi : Placing I) (md : Meaning D) (inbox : I) where
  pub here_fits : (messages : List (List ℕ)) (on : OpensOn mi inbox messages) (register : List ℕ) (part : Option (List ℕ)) → KeepsBytes (counted_state on) (lying_part (mi.part inbox)) part
      → RegisterStands on.fits.count (counted_state on) register → Fits messages register (record { shown = mi.shown inbox; has_part = is_there (mi.part inbox) }) part
  here_fits messages on register part keeps stands = record {
    count = on.fits.count;
    within = on.fits.within;
    stands = stands;
    either = ⊎_elim (λ here. inl (record { are_shown = here.are_shown; has_bytes = keeps here.has_bytes })) (λ ahead. inr ahead) on.fits.either;
  }

  pub passed_fits : (messages : List (List ℕ)) (on : OpensOn mi inbox messages) (register : List ℕ) (part : Option (List ℕ)) (state : State) → counted_state on ≡ state → IsPassed (mi.part inbox) on.fits.count state register
      → Fits messages register (record { shown = mi.shown inbox; has_part = is_there (mi.part inbox) }) part
  passed_fits messages on register part Between same passed = absurd passed
  passed_fits messages on register part (Inside name size bytes) same passed = ⊎_elim
      (λ here.
      let stands : PartStands (Inside name size bytes) (lying_part (mi.part inbox)) = subst (λ (s : State). PartStands s (lying_part (mi.part inbox))) same here.has_bytes in
      absurd (none_some bytes (first_of (length bytes) (mi.part inbox)) (part_found (mi.part inbox) name size bytes stands) passed.0))
      (λ ahead.
      let count = on.fits.count in
      let message = get_or messages count [] in
      let w = completes (counted_state on) (message_of message) ((whole_given (counted_state on) (message_of message)).1 (ahead.file, ahead.gives)) in
      let both : Inside name size bytes ≡ Inside w.name w.size w.bytes = sym same ∙ w.was in
      let all : length bytes ≡ size = ap (λ (l : List ℕ). length l) (inside_bytes name w.name size w.size bytes w.bytes both) ∙ w.all ∙ sym (inside_size name w.name size w.size bytes w.bytes both) in
      let next : state_after Between (take (count + 1) messages) ≡ Between =
      ap (λ (l : List (List ℕ)). state_after Between l) (take_next messages count ahead.more) ∙ state_next (take count messages) message ∙ (λ i. after (w.was i) (w.message i)) in
      ⊎_elim
      (λ more. record {
        count = count + 1;
        within = omega (arith, ahead.more);
        stands = subst (λ (s : State). RegisterStands (count + 1) s register) (sym next) more.1;
        either = inl (record { are_shown = ahead.are_shown; has_bytes = subst (λ (s : State). PartStands s part) (sym next) tt });
      })
      (λ none. absurd (none.0 all))
      passed.1)
      on.fits.either

  -- a disk that an inbox gave, and what is left of it
  abbrev pub gave_by : (given left : D) → (mi.tells → mi.register inbox ≡ Some (md.reading given)) → Settled md given → Moves md (MayOpen mi.tells (mi.part inbox)) given left → GaveRegister mi md inbox left
  gave_by given left reads settled moved = record {
    given = given;
    reads = reads;
    settled = settled;
    moves = moved;
    fits = λ told tells messages on.
        leaves md (λ c. c ≡ on.bytes) (λ register. (part : Option (List ℕ)) → KeepsBytes (counted_state on) (lying_part (mi.part inbox)) part
        → Fits messages register (record { shown = mi.shown inbox; has_part = is_there (mi.part inbox) }) part)
        (MayOpen mi.tells (mi.part inbox)) given left
        (each_settled md (λ c. c ≡ on.bytes) given settled (λ _. some_one (md.reading given) on.bytes (sym (reads told) ∙ on.register)))
        (λ c is part keeps. here_fits messages on c part keeps (subst (λ (l : List ℕ). RegisterStands on.fits.count (counted_state on) l) (sym is) on.fits.stands))
        (λ c d is may part keeps. ⊎_elim
        (λ stands. here_fits messages on d part keeps stands)
        (λ passed. passed_fits messages on d part (counted_state on) refl passed)
        (may.either told on.fits.count (counted_state on) (begun_all Between (take on.fits.count messages) tt) (subst (λ (l : List ℕ). RegisterStands on.fits.count (counted_state on) l) (sym is) on.fits.stands)))
        moved;
  }

  -- .. on which a register was opened
  abbrev pub gave_on : (taken : I) (register : Register D) (left : D) → IsTaken mi md inbox register → Settled md (register_disk register) → mi.part taken ≡ mi.part inbox
      → Moves md (MayPass mi.tells (mi.part taken)) (register_disk register) left → GaveRegister mi md inbox left
  gave_on taken register left is settled same moved =
      gave_by is.given left is.reads is.settled (opens_by md mi.tells (mi.part inbox) is.given left register is.opened settled
      (subst (λ (p : Part). Moves md (MayPass mi.tells p) (register_disk register) left) same moved))

  -- a part that was found, of just so many bytes
  pub part_stands : (messages : List (List ℕ)) (on : OpensOn mi inbox messages) (state : State) → counted_state on ≡ state → (n : ℕ) (bytes : List ℕ) → (held state - 1 ≡ n) → first_of n (mi.part inbox) ≡ Some bytes → PartStands state (Some bytes)
  part_stands messages on Between same n bytes number reads = tt
  part_stands messages on (Inside name size held_bytes) same n bytes number reads = ⊎_elim
      (λ here.
      let long : length held_bytes ≡ n = omega (arith, number) in
      let stands : PartStands (Inside name size held_bytes) (lying_part (mi.part inbox)) = subst (λ (s : State). PartStands s (lying_part (mi.part inbox))) same here.has_bytes in
      let is : held_bytes ≡ bytes = some_one held_bytes bytes (sym (part_found (mi.part inbox) name size held_bytes stands) ∙ ap (λ k. first_of k (mi.part inbox)) long ∙ reads) in
      subst (λ (l : List ℕ). take (length held_bytes) l ≡ held_bytes) is (take_all (length held_bytes) held_bytes (omega arith)))
      (λ ahead. absurd (none_some bytes (first_of n (mi.part inbox)) reads (ap (first_of n) (missing (mi.part inbox) ahead.gone))))
      on.fits.either

  abbrev pub part_by : (taken : I) (register : Register D) (left : D) → mi.part taken ≡ mi.part inbox
      → (mi.tells → md.tells → (count : ℕ) (state : State) (bytes : List ℕ) → mi.register inbox ≡ Some bytes → RegisterStands count state bytes → IsKept md register count state)
      → LyingTaken mi md taken (register.second - 1) left → GavePart mi md inbox left
  part_by taken register left same kept is =
      let reads : mi.tells → first_of (register.second - 1) (mi.part inbox) ≡ Some (md.reading is.given) = λ told. ap (first_of (register.second - 1)) (sym same) ∙ is.reads told in
      record {
        given = is.given;
        count = register.second - 1;
        reads = reads;
        settled = is.settled;
        moves = is.moves;
        fits = λ told tells messages on.
            let now = kept told tells on.fits.count (counted_state on) on.bytes on.register on.fits.stands in
            let second : held (counted_state on) ≡ register.second = ap (λ (v : ℕ × ℕ). v.1) (sym now.value) in
            let has : PartStands (counted_state on) (Some (md.reading is.given)) = part_stands messages on (counted_state on) refl (register.second - 1) (md.reading is.given) (ap (λ k. k - 1) second) (reads told) in
            leaves md (λ c. c ≡ md.reading is.given) (λ bytes. PartStands (counted_state on) (Some bytes)) Same is.given left
            (each_settled md (λ c. c ≡ md.reading is.given) is.given is.settled (λ _. refl))
            (λ c here. subst (λ (l : List ℕ). PartStands (counted_state on) (Some l)) (sym here) has)
            (λ c d here same. subst (λ (l : List ℕ). PartStands (counted_state on) (Some l)) (sym (same ∙ here)) has)
            is.moves;
      }

pub if_some_by : {X : Type 0} (o : Option X) (P Q : X → Type 0) → ((x : X) → P x → Q x) → IfSome o P → IfSome o Q
if_some_by None P Q f p = tt
if_some_by (Some x) P Q f p = f x p

-- .. why no file was found
pub find_fault : {I D : Type 0} (mi : Placing I) (md : Meaning D) (old new : I) (register mid : Register D) (whole : Type 0) → Settled md (register_disk register) → (md.tells → Known mi.tells (mi.part old) whole (md.reading (register_disk register)))
    → Moves md Same (register_disk register) (register_disk mid) → md.count (register_disk register) ≤ md.count (register_disk mid) → (fault : CollectFault) → IsTurnFault md (MaySkip whole) (register_disk mid) fault → IsFindFault mi md old new register fault
find_fault mi md old new register mid whole settled known same later (Folder faults) fault = absurd fault
find_fault mi md old new register mid whole settled known same later (OfRegister faults) fault = record {
  left = fault.left;
  device = (fault.device.0, omega (arith, later, fault.device.1));
  moves = skips_pass md mi.tells (mi.part old) whole (register_disk register) (register_disk mid) fault.left settled known same fault.moves;
}
find_fault mi md old new register mid whole settled known same later Other fault = absurd fault
find_fault mi md old new register mid whole settled known same later Damaged fault = absurd fault
