-- A file that was read into a room.
use Rattle.std.proofs.Common.{◌≡◌, ℕ, List, ◌++◌, length, take, drop, Option, None, Some, Result, Ok, Err, IfOk, IfSome, refl, sym, ap, ◌∙◌, subst, arith}
use Rattle.std.specs.Prelude.{min}
use Rattle.std.proofs.lemmas.List.{length-take, take_at}
use Rattle.std.specs.Option.{ok_or}
use Rattle.disk_model.specs.Plain.{Plain}
use Rattle.disk_model.specs.Shelf.{ReadsFile}
use Rattle.commands.specs.ReadDisks.{Holds, IsReadOf}
use Rattle.command_ends.specs.declared.command_end.CommandEnd.{CommandEnd}

-- the part of the room that the file fills is what was read of it
pub read_of : (file : Option (List ℕ)) (old new slice : List ℕ) (n count : ℕ) → ReadsFile file old new n → length old ≡ 16777216 → count ≡ min n 16777216 → slice ≡ take count new → IsReadOf file slice
read_of None old new slice n count reads size is cut = absurd reads
read_of (Some bytes) old new slice n count reads size is cut =
    let prefix = take (length old) bytes in
    let rest = drop (length bytes) old in
    let whole : length prefix ≡ min (length old) (length bytes) = length-take (length old) bytes in
    let has : count ≡ length prefix = omega (arith, is, reads.0, size, whole) in
    (bytes, refl, cut ∙ ap (take count) reads.1 ∙ ap (λ k. take k (prefix ++ rest)) has ∙ take_at prefix rest (length prefix) refl ∙ ap (λ k. take k bytes) size)

-- what the disk in memory has that was made of it
pub read_so : (file : Option (List ℕ)) (told : Type 0) (made : Option Plain) (slice : List ℕ) (end : CommandEnd) (answer : Result Plain CommandEnd) → answer ≡ ok_or made end → IfSome made (Holds slice) → (told → IsReadOf file slice)
    → IfOk answer (λ disk. told → IsReadOf file disk.bytes)
read_so file told None slice end answer is holds read = subst (λ (r : Result Plain CommandEnd). IfOk r (λ disk. told → IsReadOf file disk.bytes)) (sym is) tt
read_so file told (Some disk) slice end answer is holds read =
    subst (λ (r : Result Plain CommandEnd). IfOk r (λ disk. told → IsReadOf file disk.bytes)) (sym is) (λ t. subst (IsReadOf file) (sym holds.same) (read t))
