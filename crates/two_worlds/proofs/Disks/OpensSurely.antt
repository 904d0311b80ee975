-- Disks that open tell by their bytes what they stand for.
use Rattle.std.proofs.Common.{◌≡◌, ℕ, suc, ◌+◌, ◌-◌, ◌^◌, ◌≤◌, ◌<◌, List, [], ◌∷◌, ◌++◌, length, map, take, drop, refl, sym, ap, ◌∙◌, subst, arith, length-drop}
use Rattle.std.specs.Prelude.{slice_index_or}
use Rattle.std.proofs.lemmas.List.{drop-drop, drop_at, take_at, take-append-drop}
use Rattle.std.specs.List.{range_with_len}
use Rattle.std.proofs.Math.Logic.{∥∥₁_elim, ∥∥₁_map}
use Rattle.std.specs.Coded.{le_prop}
use Rattle.disk_model.specs.Disk.{Meaning}
use Rattle.pump_frame.specs.declared.row.SessionRow.{SessionRow}
use Rattle.stable_buffer.specs.Stands.{LowStands, HighStands, InSlot, slot_of, spelled}
use Rattle.stable_buffer.specs.Log.{RecvStands, Records, log_of}
use Rattle.stable_buffer.specs.Numbers.{length_at}
use Rattle.stable_buffer.specs.Register.{value_of}
use Rattle.high_receiver.proofs.Appends.{records_push, length_prefix}
use Rattle.pump_core.specs.World.{opened, Agree}
use Rattle.pump_core.specs.Events.{Opened}
use Rattle.pump_core.proofs.Laws.{begins_lawful}
use Rattle.world_laws.specs.Disks.{DisksOpen, Hold, CrashesOpen}
use Rattle.two_worlds.proofs.Disks.Crashes.{crashes_open, readings_open}
use Rattle.two_worlds.proofs.Opening.Headers.{low_stands_is, high_stands_is}
use Rattle.two_worlds.proofs.Opening.Ready.{disk_stands}

-- ---- a log tells its messages ----

one_log : (most : ℕ) (xs ys : List (List ℕ)) (bytes : List ℕ) → length xs ≡ length ys → Records most xs bytes → Records most ys bytes → xs ≡ ys
one_log most [] [] bytes same r s = refl
one_log most [] (y ∷ ys) bytes same r s = absurd (omega (arith, same))
one_log most (x ∷ xs) [] bytes same r s = absurd (omega (arith, same))
one_log most (x ∷ xs) (y ∷ ys) bytes same (_, ex, _, tx, rx) (_, ey, _, ty, ry) =
    let size : length x ≡ length y = sym ex ∙ ey in
    let first : x ≡ y = sym tx ∙ ap (λ k. take k (drop 2 bytes)) size ∙ ty in
    let later : xs ≡ ys = one_log most xs ys (drop (2 + length x) bytes) (omega (arith, same)) rx (subst (λ k. Records most ys (drop (2 + k) bytes)) (sym size) ry) in
    (λ i. first i ∷ later i)

-- a receiver's disk stands for one list
pub one_received : (row : SessionRow) (xs ys : List (List ℕ)) (disk : List ℕ) → RecvStands row xs disk → RecvStands row ys disk → xs ≡ ys
one_received row xs ys disk r s =
    let value : (length xs, r.end) ≡ (length ys, s.end) = sym r.value ∙ s.value in
    one_log row.message xs ys (log_of r.end disk) (ap (λ (v : ℕ × ℕ). v.0) value) r.records
    (subst (λ (n : ℕ). Records row.message ys (log_of n disk)) (sym (ap (λ (v : ℕ × ℕ). v.1) value)) s.records)

-- ---- a slot tells its message ----

-- the message in the slot of a number
abbrev slotted : SessionRow → List ℕ → ℕ → List ℕ
slotted row disk n = take (length_at disk (slot_of row n)) (drop 2 (drop (slot_of row n) disk))

-- the length of a spelled message
length_spelled : (x : List ℕ) → length x < 2 ^ 16 → length_at (spelled x) 0 ≡ length x
length_spelled x small = (records_push (length x) [] x [] (omega arith) small refl).1

length_behind : (disk : List ℕ) (at : ℕ) → length_at disk at ≡ length_at (drop at disk) 0
unfolding length_at
length_behind disk at = refl

slot_tells : (row : SessionRow) (n : ℕ) (x disk : List ℕ) → length x < 2 ^ 16 → InSlot row n x disk → x ≡ slotted row disk n
slot_tells row n x disk small s =
    let l = length x in
    let at = slot_of row n in
    let rest = drop (2 + l) (drop at disk) in
    let whole : drop at disk ≡ spelled x ++ rest = sym (take-append-drop (2 + l) (drop at disk)) ∙ ap (λ (f : List ℕ). f ++ rest) s.bytes in
    let number : length_at disk at ≡ l =
    length_behind disk at ∙ ap (λ (f : List ℕ). length_at f 0) whole ∙ length_prefix (spelled x) rest (omega arith) ∙ length_spelled x small in
    let behind : drop 2 (drop at disk) ≡ x ++ rest = ap (drop 2) whole in
    sym (take_at x rest l refl) ∙ (λ i. take (sym number i) (sym behind i))

tail_tells : (row : SessionRow) (disk : List ℕ) (n : ℕ) (xs : List (List ℕ)) → row.message < 2 ^ 16
    → ((i : ℕ) → i < length xs → InSlot row (n + i) (slice_index_or xs i []) disk) → xs ≡ map (slotted row disk) (range_with_len n (length xs))
tail_tells row disk n [] small slots = refl
tail_tells row disk n (x ∷ xs) small slots =
    let e : n + 0 ≡ n = omega arith in
    let here : InSlot row n x disk = subst (λ k. InSlot row k x disk) e (slots 0 (omega arith)) in
    let first = slot_tells row n x disk (omega (arith, small, here.fits)) here in
    let later = tail_tells row disk (n + 1) xs small (λ i lt. let f : n + suc i ≡ n + 1 + i = omega arith in subst (λ k. InSlot row k (slice_index_or xs i []) disk) f (slots (suc i) (omega (arith, lt)))) in
    (λ i. first i ∷ later i)

-- ---- three disks that open ----

module _ (row : SessionRow) (a b c : List ℕ) (small : row.message < 2 ^ 16) where
  abbrev E : ℕ
  E = (value_of a).0

  abbrev B : ℕ
  B = (value_of b).0

  -- the messages that are not removed
  abbrev live : List (List ℕ)
  live = map (slotted row a) (range_with_len B (E - B))

  -- those of them that the receiver has not
  abbrev later : ℕ → List (List ℕ)
  later received = drop (received - B) live

  module _ (o : DisksOpen row a b c) where
    removed_is : o.world.removed ≡ B
    removed_is = ap (λ (v : ℕ × ℕ). v.0) (sym o.high_is.value)

    accepted_count : length o.world.accepted ≡ E
    accepted_count = ap (λ (v : ℕ × ℕ). v.0) (sym o.low_is.value)

    live_is : drop B o.world.accepted ≡ live
    live_is =
        let count : length (drop o.world.removed o.world.accepted) ≡ E - B = omega (arith, length-drop o.world.removed o.world.accepted, removed_is, accepted_count) in
        ap (λ (n : ℕ). drop n o.world.accepted) (sym removed_is)
        ∙ tail_tells row a o.world.removed (drop o.world.removed o.world.accepted) small o.low_is.slots
        ∙ (λ i. map (slotted row a) (range_with_len (removed_is i) (count i)))

    has_removed : B ≤ length o.world.received
    has_removed = let d = o.lawful.delivered.removed in omega (arith, d, removed_is)

    rest_is : o.lawful.delivered.prefix.0 ≡ later (length o.world.received)
    rest_is =
        let R = length o.world.received in
        let prefix = o.lawful.delivered.prefix in
        let e : B + (R - B) ≡ R = omega (arith, has_removed) in
        let e' : R - B + B ≡ R = omega (arith, has_removed) in
        sym (drop_at o.world.received prefix.0 R refl) ∙ ap (drop R) prefix.1 ∙ ap (λ (n : ℕ). drop n o.world.accepted) (sym e)
        ∙ sym (drop-drop (R - B) B o.world.accepted) ∙ ap (drop (R - B)) live_is

    accepted_is : (received : List (List ℕ)) → o.world.received ≡ received → o.world.accepted ≡ received ++ later (length received)
    accepted_is received same = sym o.lawful.delivered.prefix.1 ∙ ap (λ (l : List (List ℕ)). o.world.received ++ l) rest_is ∙ ap (λ (l : List (List ℕ)). l ++ later (length l)) same

  module _ (received : List (List ℕ)) (stands : RecvStands row received c) (some : ∥ DisksOpen row a b c ∥₁) where
    same : (o : DisksOpen row a b c) → o.world.accepted ≡ received ++ later (length received)
    same o = accepted_is o received (one_received row o.world.received received c o.recv_is stands)

    agree : Agree 256 B received (later (length received))
    agree = record {
      taken = ∥∥₁_elim some le_prop (λ o. subst (λ (l : List (List ℕ)). B ≤ length l) (one_received row o.world.received received c o.recv_is stands) (has_removed o));
      fits = ∥∥₁_elim some le_prop (λ o. (let w = o.lawful.bounded in let l = ap length (same o) in let r = removed_is o in omega (arith, w.within.above, w.size, l, r)));
    }

    opens_by : DisksOpen row a b c
    opens_by = record {
      world = opened 256 B received (later (length received));
      lawful = begins_lawful _ (Opened 256 B received (later (length received)) (omega arith) (omega arith) agree);
      low_is = low_stands_is row _ _ _ a (∥∥₁_map some (λ o.
          subst (λ (t : List (List ℕ) × ℕ). LowStands row (length t.0) t.1 (drop t.1 t.0) a) (λ i. (same o i, removed_is o i)) o.low_is));
      high_is = high_stands_is row B b (∥∥₁_map some (λ o. subst (λ n. HighStands row n b) (removed_is o) o.high_is));
      recv_is = stands;
    }

  -- disks that open in some way open in one way
  pub opens_surely : ∥ DisksOpen row a b c ∥₁ → DisksOpen row a b c
  opens_surely some =
      let r = disk_stands row c (∥∥₁_map some (λ o. (o.world.received, o.recv_is))) in
      opens_by r.0 r.1 some

-- whatever the lawful world is that the disks hold
module _ {D : Type 0} (m : Meaning D) (row : SessionRow) (small : row.message < 2 ^ 16) (low high recv : D) (h : m.tells → ∥ Hold m row low high recv ∥₁) where
  pub crashes_surely_open : CrashesOpen m row low high recv
  crashes_surely_open told a b c ia ib ic = opens_surely row a b c small (∥∥₁_map (h (m.images_tell told)) (λ t. crashes_open m row low high recv t told a b c ia ib ic))

  pub readings_surely_open : m.tells → DisksOpen row (m.reading low) (m.reading high) (m.reading recv)
  readings_surely_open told = opens_surely row _ _ _ small (∥∥₁_map (h told) (λ t. readings_open m row low high recv t told))
