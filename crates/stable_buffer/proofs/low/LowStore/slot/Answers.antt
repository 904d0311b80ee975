-- Each return by hand: a search at each of its clauses takes far longer.
use Rattle.std.proofs.lemmas.Grind.{common_steps}
use Rattle.std.proofs.Common.{◌≡◌, ℕ, ◌≤◌, Err, length, replicate, take, drop, refl, ◌∙◌, ap, subst, sym, arith}
use Rattle.std.proofs.lemmas.Bool.{false≢true}
use Rattle.std.proofs.lemmas.List.{length-take-le, length-replicate}
use Rattle.std.proofs.lemmas.Result.{err_from_is_err_and}
use Rattle.byteorder.specs.Endian.{big_bytes}
use Rattle.disk_model.specs.Disk.{Meaning, Moves, Same}
use Rattle.disk_model.proofs.Run.{goes_on_same, settled_same}
use Rattle.stable_buffer.specs.Low.{IsLowReady, StandsForCount}
use Rattle.stable_buffer.specs.Numbers.{length_at, message_at}
use Rattle.stable_buffer.specs.Register.{IsReady, register_value}
use Rattle.stable_buffer.specs.Stands.{slot_of}
use Rattle.stable_buffer.specs.declared.low.LowStore.{LowStore}
use Rattle.stable_buffer.specs.declared.register.Register.{Register}
use Rattle.stable_buffer.proofs.Logs.{taken_message, taken_length, in_slot}
use Rattle.stable_buffer.proofs.Slots.{slot_within_low}
use Rattle.stable_buffer.proofs.low.LowStore.slot.Goals as goal

-- a store whose disk was read is as ready as before
still_ready : {D : Type 0} (m : Meaning D) (store : LowStore D) (register : Register D) → IsLowReady m store → IsReady m register → register_value register ≡ register_value store.register → Moves m Same store.register.disk register.disk
    → IsLowReady m (record { register = register; row = store.row })
still_ready m store register was ready value moves =
    let first : register.first ≡ store.register.first = ap (λ (v : ℕ × ℕ). v.0) value in
    let second : register.second ≡ store.register.second = ap (λ (v : ℕ × ℕ). v.1) value in
    record {
      ready = ready;
      count = omega (arith, first, was.count);
      second = second ∙ was.second;
      lawful = was.lawful;
      ranges = was.ranges;
      settled = settled_same m store.register.disk register.disk was.settled moves;
      stands = λ told. subst (λ n. StandsForCount store.row n (m.reading register.disk)) (sym first) (subst (λ z. StandsForCount store.row store.register.first z) (sym (moves.reads told)) (was.stands told));
    }

pub returns-in_err-length : goal.returns-in_err-length
returns-in_err-length g c =
    let s = c.args.self.now in
    let e = c.in_err-length.ensures in
    let a = e.answers in
    let (device, was, same) = err_from_is_err_and c.from_residual.result c.from_residual.ensures.1 in
    let is = was ∙ ap (λ d. Err d) same in
    record {
      read = rw (is) tt;
      ready = rw (is) tt;
      keeps = record { count = ap (λ (v : ℕ × ℕ). v.0) e.value; row = refl; moves = e.moves };
      closed = rw (is) e.closed;
      answers = record {
        counts = a.counts;
        rose = λ _. a.rose refl;
        never = λ plan off fits. elim (false≢true (a.never plan off (omega (arith, fits, c.slot_place-at.ensures.place, slot_within_low s.row c.args.n c.requires.ready.ranges.some)))) [ ];
        always = λ plan on. rw (is) refl;
        room = a.room;
        disarmed = a.disarmed;
      };
      device = rw (is) e.device;
    }

pub returns-then-length-self : goal.returns-then-length-self
returns-then-length-self g c =
    let m = g.D.Disk.told in
    let s = c.args.self.now in
    let e = c.in_ok-length.ensures in
    let a = e.answers in
    record {
      read = record {
        small = e.small;
        is = λ told. e.length told ∙ ap (λ p. length_at (m.reading s.register.disk) p) c.slot_place-at.ensures.place;
        message = λ le. absurd (omega (arith, le, c.if-length-self.true));
        stands = λ le. absurd (omega (arith, le, c.if-length-self.true));
        fits = λ le. absurd (omega (arith, le, c.if-length-self.true));
        left = λ _. refl;
      };
      ready = still_ready m s c.read_length.new.self c.requires.ready e.ready e.value e.moves;
      keeps = record { count = ap (λ (v : ℕ × ℕ). v.0) e.value; row = refl; moves = e.moves };
      closed = tt;
      answers = record {
        counts = a.counts;
        rose = λ is. elim (false≢true is) [ ];
        never = λ plan off fits. refl;
        always = a.always;
        room = a.room;
        disarmed = a.disarmed;
      };
      device = tt;
    }

pub returns-in_err-read_beside : goal.returns-in_err-read_beside
returns-in_err-read_beside g c =
    let m = g.D.Disk.told in
    let s = c.args.self.now in
    let l = c.in_ok-length.length in
    let e = c.in_ok-length.ensures in
    let b = e.answers in
    let k = c.in_err-read_beside.ensures in
    let a = k.answers in
    let (device, was, same) = err_from_is_err_and c.from_residual-in_err-read_beside.result c.from_residual-in_err-read_beside.ensures.1 in
    let is = was ∙ ap (λ d. Err d) same in
    record {
      read = rw (is) tt;
      ready = rw (is) tt;
      keeps = record {
        count = ap (λ (v : ℕ × ℕ). v.0) (k.value ∙ e.value);
        row = refl;
        moves = goes_on_same m Same _ _ _ e.moves k.moves;
      };
      closed = rw (is) k.closed;
      answers = record {
        counts = omega (arith, b.counts, a.counts);
        rose = λ _. let rise = a.rose refl in omega (arith, b.counts, rise);
        never = λ plan off fits.
            let told = m.plan_tells plan in
            let small : l ≤ length {A = ℕ} (replicate 1024 0) = omega (arith, c.if-length-self.false, c.requires.ready.ranges.short, length-replicate {A = ℕ} 1024 0) in
            let size : length {A = ℕ} (take l (replicate 1024 0)) ≡ l = length-take-le l (replicate 1024 0) small in
            let within = slot_within_low s.row c.args.n c.requires.ready.ranges.some in
            elim (false≢true (a.never plan (b.disarmed plan) (omega (arith, fits, size, within, c.slot_place-at.ensures.place, c.if-length-self.false, ap length (e.moves.reads told))))) [ ];
        always = λ plan on. rw (is) refl;
        room = λ plan. a.room plan ∙ b.room plan;
        disarmed = a.disarmed;
      };
      device = rw (is) k.device;
    }

pub returns : goal.returns
returns g c =
    let m = g.D.Disk.told in
    let s = c.args.self.now in
    let reading = m.reading s.register.disk in
    let at = c.slot_place-at.result in
    let l = c.in_ok-length.length in
    let e = c.in_ok-length.ensures in
    let b = e.answers in
    let k = c.in_ok-read_beside.ensures in
    let a = k.answers in
    let small : l ≤ length {A = ℕ} (replicate 1024 0) = omega (arith, c.if-length-self.false, c.requires.ready.ranges.short, length-replicate {A = ℕ} 1024 0) in
    let size : length {A = ℕ} (take l (replicate 1024 0)) ≡ l = length-take-le l (replicate 1024 0) small in
    let found : m.tells → l ≡ length_at reading at = e.length in
    let placed : m.tells → l ≡ length_at reading (slot_of s.row c.args.n) = λ told. found told ∙ ap (λ p. length_at reading p) c.slot_place-at.ensures.place in
    let whole : length c.set.new.self ≡ l = taken_length l _ c.read_beside.new.into _ c.set.new.self c.set.ensures.value c.read_beside.ensures.size size in
    let message : m.tells → c.set.new.self ≡ message_at reading (slot_of s.row c.args.n) = λ told.
    taken_message l _ c.read_beside.new.into _ c.set.new.self (m.reading c.read_length.new.self.disk) reading at c.set.ensures.value c.read_beside.ensures.size size (k.bytes told) (e.moves.reads told) (found told)
    ∙ ap (λ p. message_at reading p) c.slot_place-at.ensures.place in
    record {
      read = record {
        small = e.small;
        is = placed;
        message = λ le. message;
        stands = λ le told. in_slot s.row c.args.n l c.set.new.self reading le whole (placed told) (subst (λ p. big_bytes 2 l ≡ take 2 (drop p reading)) c.slot_place-at.ensures.place (e.spells told)) (message told);
        fits = λ le. whole;
        left = λ more. absurd (omega (arith, more, c.if-length-self.false));
      };
      ready = still_ready m s c.read_beside.new.self c.requires.ready k.ready (k.value ∙ e.value) (goes_on_same m Same _ _ _ e.moves k.moves);
      keeps = record {
        count = ap (λ (v : ℕ × ℕ). v.0) (k.value ∙ e.value);
        row = refl;
        moves = goes_on_same m Same _ _ _ e.moves k.moves;
      };
      closed = tt;
      answers = record {
        counts = omega (arith, b.counts, a.counts);
        rose = λ is. elim (false≢true is) [ ];
        never = λ plan off fits. refl;
        always = b.always;
        room = λ plan. a.room plan ∙ b.room plan;
        disarmed = a.disarmed;
      };
      device = tt;
    }

pub read_beside-requires : goal.read_beside-requires
read_beside-requires g c = grind (arith, common_steps)

pub read_length-requires : goal.read_length-requires
read_length-requires g c = grind (arith, common_steps)

pub set-requires : goal.set-requires
set-requires g c = grind (arith, common_steps)

pub overflow_add-at : goal.overflow_add-at
overflow_add-at g c = grind (arith, common_steps)

pub slice_bounds-set-end : goal.slice_bounds-set-end
slice_bounds-set-end g c = grind (arith, common_steps)

pub slice_bounds-read_beside-end : goal.slice_bounds-read_beside-end
slice_bounds-read_beside-end g c = grind (arith, common_steps)

pub slice_bounds-bytes-end-2 : goal.slice_bounds-bytes-end-2
slice_bounds-bytes-end-2 g c = grind (arith, common_steps)
