-- Where the disks of a MemShelf are, after one was taken or put back.
use Rattle.std.proofs.Common.{◌≡◌, ◌∙◌, sym, refl, ap, ℕ, ◌<◌, List, [], ◌∷◌, ◌++◌, length, Option, None, Some, is_some, if◌then◌else◌}
use Rattle.disk_model.specs.Disk.{Meaning}
use Rattle.disk_model.specs.Shelf.{OnShelf, Out, IsOut}
use Rattle.disk_model.specs.MemShelf.{MemoryShelf, under, without, without_first, home_of, whereabouts}
use Rattle.disk_model.specs.declared.name.DiskName.{DiskName}
use Rattle.disk_model.proofs.Entries.{under_without_first, under_without, under_pushed, under_before, none_without, found_pushed, found_before, shorter_without}

module _ {D : Type 0} (m : Meaning D) (s : MemoryShelf D) (name : DiskName) where
  -- a disk that is on the shelf is not out, and is the first of its name
  pub at_home : (disk : D) → home_of s name ≡ Some disk → (under name s.outs ≡ None) × (under name s.disks ≡ Some disk)
  at_home disk home = go (under name s.outs) refl
    where
      go : (out : Option ℕ) → under name s.outs ≡ out → (under name s.outs ≡ None) × (under name s.disks ≡ Some disk)
      go None none = (none, (let shown : home_of s name ≡ under name s.disks = rw none refl in sym shown ∙ home))
      go (Some given) some = let shown : home_of s name ≡ None = rw some refl in let bad : None ≡ Some disk = sym shown ∙ home in cc

  module _ (outs : List (DiskName × ℕ)) (disks : List (DiskName × D)) where
    pub taken : (given : ℕ) → under name s.outs ≡ None → outs ≡ s.outs ++ (name, given) ∷ [] → whereabouts m (under name outs) (under name disks) ≡ Out given
    taken given none pushed = ap (λ out. whereabouts m out (under name disks)) (ap (under name) pushed ∙ found_pushed name s.outs given none)

    pub others_taken : (given : ℕ) → outs ≡ s.outs ++ (name, given) ∷ [] → disks ≡ without_first name s.disks
        → (other : DiskName) → (other ≡ name → ⊥) → whereabouts m (under other outs) (under other disks) ≡ whereabouts m (under other s.outs) (under other s.disks)
    others_taken given pushed left other apart = λ i. whereabouts m (out i) (disk i)
      where
        out : under other outs ≡ under other s.outs
        out = ap (under other) pushed ∙ under_pushed name other apart s.outs given

        disk : under other disks ≡ under other s.disks
        disk = ap (under other) left ∙ under_without_first name other apart s.disks

    module _ (kept : D) (forgot : outs ≡ without name s.outs) (put : disks ≡ (name, kept) ∷ s.disks) where
      no_out : under name outs ≡ None
      no_out = ap (under name) forgot ∙ none_without name s.outs

      first : under name disks ≡ Some kept
      first = ap (under name) put ∙ found_before name s.disks kept

      pub back : whereabouts m (under name outs) (under name disks) ≡ OnShelf (m.reading kept)
      back = λ i. whereabouts m (no_out i) (first i)

      pub home_back : (if is_some (under name outs) then None else under name disks) ≡ Some kept
      home_back = λ i. if is_some (no_out i) then None else first i

      pub others_back : (other : DiskName) → (other ≡ name → ⊥) → whereabouts m (under other outs) (under other disks) ≡ whereabouts m (under other s.outs) (under other s.disks)
      others_back other apart = λ i. whereabouts m (out i) (disk i)
        where
          out : under other outs ≡ under other s.outs
          out = ap (under other) forgot ∙ under_without name other apart s.outs

          disk : under other disks ≡ under other s.disks
          disk = ap (under other) put ∙ under_before name other apart s.disks kept

  -- one fewer is out
  pub fewer_out : IsOut (whereabouts m (under name s.outs) (under name s.disks)) → length (without name s.outs) < length s.outs
  fewer_out is = go (under name s.outs) refl (under name s.disks) is
    where
      go : (out : Option ℕ) → under name s.outs ≡ out → (disk : Option D) → IsOut (whereabouts m out disk) → length (without name s.outs) < length s.outs
      go (Some given) found disk is = shorter_without name s.outs given found
      go None none None is = absurd is
      go None none (Some disk) is = absurd is
