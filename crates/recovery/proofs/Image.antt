-- Images of a disk whose last call may be unfinished.
use Rattle.std.proofs.Common.{◌≡◌, inl, inr, ℕ, zero, suc, ◌+◌, ◌-◌, ◌≤◌, true, false, if◌then◌else◌, ◌&&◌, List, [], ◌∷◌, ◌++◌, length, drop, Option, Some, None, refl, sym, ap, subst, arith, length-append}
use Rattle.pump_core.specs.Lawful.{StoresWithPlace}
use Rattle.stable_buffer.specs.Stands.{LowStands, HighStands}
use Rattle.stable_buffer.specs.Log.{RecvStands}
use Rattle.recovery.specs.Joint.{kept_with, accepted_if, removed_if, received_if}
use Rattle.recovery.specs.Images.{StoredImages, RemovedImages, TakenImages}

drop_more : (n : ℕ) (ps : List (List ℕ)) (p : List ℕ) → n ≤ length ps → drop n (ps ++ p ∷ []) ≡ drop n ps ++ p ∷ []
drop_more zero ps p le = refl
drop_more (suc n) [] p le = absurd (omega (arith, le))
drop_more (suc n) (q ∷ ps) p le = drop_more n ps p (omega (arith, le))

place_of_store : (capacity removed accepted : ℕ) (hand : Option ℕ) (x : Option (List ℕ)) (p : List ℕ) → x ≡ Some p → StoresWithPlace capacity removed accepted hand x → accepted - removed ≤ capacity - 1
place_of_store capacity removed accepted hand None p is store = absurd (cc)
place_of_store capacity removed accepted hand (Some q) p is store = store.place

pub stored : StoredImages
stored row w p old image lawful capacity storing stands gain =
    let b = lawful.bounded in
    let below = b.within.below in
    let some = b.size.0 in
    let place = place_of_store w.capacity w.removed (length w.accepted) w.low_hand w.storing p storing b.store in
    let free : length w.accepted + 1 ≤ w.removed + row.capacity = omega (arith, place, some, capacity, below) in
    let P : List (List ℕ) → Type 0 = λ acc. LowStands row (length acc) w.removed (drop w.removed acc) image in
    elim (gain.either (length w.accepted) w.removed (drop w.removed w.accepted) free stands) [
      | inl stays ↦ (false, stays)
      | inr gains ↦
          let more : accepted_if w true ≡ w.accepted ++ p ∷ [] = ap (λ x. kept_with true x w.accepted) storing in
          let size : length w.accepted + 1 ≡ length (w.accepted ++ p ∷ []) = omega (arith, length-append w.accepted (p ∷ [])) in
          let there : LowStands row (length (w.accepted ++ p ∷ [])) w.removed (drop w.removed (w.accepted ++ p ∷ [])) image =
          subst (λ k. LowStands row k w.removed (drop w.removed (w.accepted ++ p ∷ [])) image) size
          (subst (λ (ms : List (List ℕ)). LowStands row (length w.accepted + 1) w.removed ms image) (sym (drop_more w.removed w.accepted p below)) gains) in
          (true, subst P (sym more) there)
    ]

pub removed : RemovedImages
removed row w old image removing stands may = elim (may.either row w.removed stands) [
  | inl stays ↦ (false, stays)
  | inr turns ↦ (true, let e : removed_if w true ≡ w.removed + 1 = ap (λ b. if true && b then w.removed + 1 else w.removed) removing in subst (λ k. HighStands row k image) (sym e) turns)
]

pub taken : TakenImages
taken row w p old image taking packet stands may = elim (may.either w.received stands) [
  | inl stays ↦ (false, stays)
  | inr takes ↦
      let more : received_if w true ≡ w.received ++ p ∷ [] = λ i. kept_with true (if taking i then packet i else None) w.received in
      (true, subst (λ (ms : List (List ℕ)). RecvStands row ms image) (sym more) takes)
]
