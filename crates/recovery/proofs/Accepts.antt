-- What stands for something isn't refused.
use Rattle.std.proofs.Common.{◌≡◌, ℕ, zero, suc, ◌+◌, ◌^◌, ◌<◌, ◌≤◌, ◌==◌, ◌&&◌, nat_le, nat_lt, if◌then◌else◌, true, false, Bool, List, [], ◌∷◌, ◌++◌, length, get_or, take, drop, Option, Some, None, refl, sym, ◌∙◌, ap, subst, arith}
use Rattle.std.proofs.lemmas.List.{get_or-drop, get_or-take}
use Rattle.byteorder.specs.Endian.{big_bytes}
use Rattle.stable_buffer.specs.Numbers.{length_at}
use Rattle.stable_buffer.specs.Register.{value_of}
use Rattle.stable_buffer.specs.Stands.{HasHeader, InSlot, LowStands, HighStands, slot_of, newest_version, is_version}
use Rattle.stable_buffer.specs.Format.{role_byte}
use Rattle.stable_buffer.specs.Log.{RecvStands, is_log, log_of}
use Rattle.pump_frame.specs.declared.row.SessionRow.{SessionRow}
use Rattle.disk_model.specs.declared.name.Role.{Role}
use Rattle.disk_model.specs.declared.name.Role.TheVariants.{Low, High, Recv}
use Rattle.stable_buffer.proofs.Logs.{finds}
use Rattle.recovery.specs.Refusals.{word_at, fields, version_of, other_field, other_size, refused_shape, or_else, refused_count, refused_disk, refused_log, refused_receiver, bad_slot}
use Rattle.recovery.specs.declared.why.Why.{Why}
use Rattle.recovery.proofs.Words.{word_at-agree, word_at-spelled}
use Rattle.recovery.proofs.Slots.{slot_length}

pub record FitsRow (row : SessionRow) : Type 0 where
  pub session : row.id < 2 ^ 32
  pub capacity : row.capacity < 2 ^ 32
  pub message : row.message ≤ 1024

other_none : (a b c d e a' c' d' e' : ℕ) → a ≡ a' → b ≡ newest_version → c ≡ c' → d ≡ d' → e ≡ e' → other_field 1 (a ∷ b ∷ c ∷ d ∷ e ∷ []) (a' ∷ newest_version ∷ c' ∷ d' ∷ e' ∷ []) ≡ None
other_none a b c d e a' c' d' e' p q r s t = grind (arith, p, q, r, s, t)

is_newest : (row : SessionRow) (found version : ℕ) → found ≡ version → is_version row version ≡ true → version_of row found ≡ newest_version
is_newest row found version is known = subst (λ v. version_of row v ≡ newest_version) (sym is) (rw (known) refl)

marked_none : (b : Bool) (x y : Option Why) (w : Why) → b ≡ true → x ≡ None → y ≡ None → (if b then or_else x y else Some w) ≡ None
marked_none true None y w is first second = second
marked_none true (Some z) y w is first second = absurd (cc)
marked_none false x y w is first second = absurd (cc)

module _ (row : SessionRow) (fits : FitsRow row) (letter : ℕ) (disk : List ℕ) (has : HasHeader row letter (take 32 disk)) where
  abbrev S : List ℕ
  S = big_bytes 4 row.id ++ (big_bytes 4 row.capacity ++ big_bytes 4 row.message)

  abbrev area : List ℕ
  area = take 80 disk

  abbrev prefix : List ℕ
  prefix = 78 ∷ 80 ∷ 68 ∷ 49 ∷ letter ∷ has.version ∷ []

  byte : (i : ℕ) → i < 6 → get_or area i 0 ≡ get_or prefix i 0
  byte i lt = get_or-take 80 disk i 0 (omega (arith, lt)) ∙ sym (get_or-take 32 disk i 0 (omega (arith, lt))) ∙ sym (get_or-take 6 (take 32 disk) i 0 lt) ∙ ap (λ (l : List ℕ). get_or l i 0) has.mark

  number : (i : ℕ) → i < 12 → get_or area (8 + i) 0 ≡ get_or S i 0
  number i lt =
      get_or-take 80 disk (8 + i) 0 (omega (arith, lt)) ∙ sym (get_or-take 32 disk (8 + i) 0 (omega (arith, lt))) ∙ sym (get_or-drop 8 (take 32 disk) i 0) ∙ sym (get_or-take 12 (drop 8 (take 32 disk)) i 0 lt)
      ∙ ap (λ (l : List ℕ). get_or l i 0) has.numbers

  mark_of : word_at prefix 0 ≡ 1313883185
  unfolding word_at
  mark_of = refl

  mark : word_at area 0 ≡ 1313883185
  mark = word_at-agree area 0 prefix 0 (λ i lt. let e : i ≡ 0 + i = omega arith in subst (λ j. get_or area j 0 ≡ get_or prefix j 0) e (byte i (omega (arith, lt)))) ∙ mark_of

  word : (p : ℕ) (n : ℕ) → p + 4 ≤ 12 → n < 2 ^ 32 → big_bytes 4 n ≡ take 4 (drop p S) → word_at area (8 + p) ≡ n
  word p n le small is =
      word_at-agree area (8 + p) S p (λ i lt. let e : 8 + (p + i) ≡ 8 + p + i = omega arith in subst (λ j. get_or area j 0 ≡ get_or S (p + i) 0) e (number (p + i) (omega (arith, le, lt)))) ∙ word_at-spelled S p n small is

  no_other : other_field 1 (fields row area) (letter ∷ newest_version ∷ row.id ∷ row.capacity ∷ row.message ∷ []) ≡ None
  no_other = other_none _ _ _ _ _ _ _ _ _ (byte 4 (omega arith)) (is_newest row _ has.version (byte 5 (omega arith)) has.known) (word 0 row.id (omega arith) fits.session refl) (word 4 row.capacity (omega arith) fits.capacity refl)
      (word 8 row.message (omega arith) (omega (arith, fits.message)) refl)

  pub shape_none : (role : Role) → role_byte role ≡ letter → 80 ≤ length disk → other_size row role (length disk) ≡ None → refused_shape row role disk ≡ None
  unfolding word_at
  shape_none role is size exact =
      let yes : nat_le 80 (length disk) ≡ true = grind (arith, size) in
      let also : (word_at area 0 == 1313883185) ≡ true = grind (arith, mark) in
      let both : (nat_le 80 (length disk) && (word_at area 0 == 1313883185)) ≡ true = rw (yes) also in
      marked_none _ _ _ _ both (subst (λ k. other_field 1 (fields row area) (k ∷ newest_version ∷ row.id ∷ row.capacity ∷ row.message ∷ []) ≡ None) (sym is) no_other) exact

then_none : (x y : Option Why) → x ≡ None → y ≡ None → or_else x y ≡ None
then_none None y p q = q
then_none (Some z) y p q = absurd (cc)

count_none : (v : ℕ × ℕ) (n : ℕ) → v ≡ (n, 0) → n ≤ 2 ^ 48 → refused_count v ≡ None
count_none v n is le = subst (λ (z : ℕ × ℕ). refused_count z ≡ None) (sym is) (let yes : nat_le n (2 ^ 48) ≡ true = grind (arith, le) in rw (yes) refl)

pub low_none : (row : SessionRow) → FitsRow row → (E b : ℕ) (ms : List (List ℕ)) (disk : List ℕ) → E ≤ 2 ^ 48 → LowStands row E b ms disk → refused_disk row Low disk ≡ None
low_none row fits E b ms disk small s =
    let size : other_size row Low (length disk) ≡ None = let e = s.size in grind (arith, e) in
    then_none _ _ (shape_none row fits 76 disk s.header Low refl (omega (arith, s.size)) size) (count_none (value_of disk) E s.value small)

pub high_none : (row : SessionRow) → FitsRow row → (B : ℕ) (disk : List ℕ) → B ≤ 2 ^ 48 → HighStands row B disk → refused_disk row High disk ≡ None
high_none row fits B disk small s =
    let size : other_size row High (length disk) ≡ None = let e = s.size in grind (arith, e) in
    then_none _ _ (shape_none row fits 72 disk s.header High refl (omega (arith, s.size)) size) (count_none (value_of disk) B s.value small)

pub recv_none : (row : SessionRow) → FitsRow row → (size : ℕ) (ms : List (List ℕ)) (disk : List ℕ) → length ms ≤ 2 ^ 48 → (value_of disk).1 ≤ size → RecvStands row ms disk → refused_receiver row size disk ≡ None
recv_none row fits size ms disk small room s =
    let one : nat_le (length ms) (2 ^ 48) ≡ true = grind (arith, small) in
    let two : nat_le 80 s.end ≡ true = let e = s.from in grind (arith, e) in
    let three : nat_le s.end (length disk) ≡ true = let e = s.within in grind (arith, e) in
    let four : nat_le s.end size ≡ true = let e = ap (λ (v : ℕ × ℕ). v.1) s.value in grind (arith, e, room) in
    let five : is_log row.message (length ms) (log_of s.end disk) ≡ true = finds row.message ms (log_of s.end disk) s.records in
    then_none _ _ (shape_none row fits 82 disk s.header Recv refl (omega (arith, s.from, s.within)) refl)
    (subst (λ (z : ℕ × ℕ). refused_log row size disk z ≡ None) (sym s.value) (rw (one, two, three, four, five) refl))

pub slots_none : (row : SessionRow) → row.message ≤ 1024 → (disk : List ℕ) (n k : ℕ) → ((i : ℕ) → n ≤ i → i < n + k → (m : List ℕ) × InSlot row i m disk) → bad_slot row disk n k ≡ None
slots_none row small disk n zero all = refl
slots_none row small disk n (suc k) all =
    let (m, s) = all n (omega arith) (omega arith) in
    let l = slot_length row small n m disk s in
    let fits = s.fits in
    let no : nat_lt row.message (length_at disk (slot_of row n)) ≡ false = grind (arith, l, fits) in
    rw (no) (slots_none row small disk (n + 1) k (λ i from to. all i (omega (arith, from)) (omega (arith, to))))
