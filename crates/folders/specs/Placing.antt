-- What the folder tells that files come into, and how its calls move that.
use Rattle.std.specs.Prelude.{◌≡◌, ◌⊎◌, ℕ, ◌≤◌, nat_le, Bool, true, false, if◌then◌else◌, List, length}
use Rattle.std.specs.Prelude.{take, Option, None, Some, Result, IsErr}
use Rattle.file_messages.specs.Files.{File}
use Rattle.pump_frame.specs.Counts.{Rose}

-- Where the part is, the file that has not come whole yet: nowhere; in the folder with these bytes; or given, so that
-- its disk tells its bytes.
pub data Part : Type 0 where
  Missing : Part
  Lying : (bytes : List ℕ) → Part
  Given : Part

abbrev pub is_there : Part → Bool
is_there Missing = false
is_there (Lying bytes) = true
is_there Given = true

-- What a crash leaves of the names in a folder: the files that were shown so far, under the names that they were given,
-- also those that readers took away; and whether there is a part.
pub record Names : Type 0 where
  pub shown : List File
  pub has_part : Bool

-- What a type of inbox tells. Where `tells` has no proof it tells nothing but its count, and so for images.
pub record Placing (I : Type 0) : Type 1 where
  pub tells : Type 0
  pub shown : I → List File
  pub part : I → Part
  -- no file has this name, neither one that was shown nor another
  pub free : I → List ℕ → Bool
  -- what the register's disk reads, where it is not given
  pub register : I → Option (List ℕ)
  -- what a crash now may leave, and what a crash at some moment from a given one on may have left
  pub tells_images : Type 0
  pub images : I → Names → Type 0
  pub moment : I → ℕ
  pub since : I → ℕ → Names → Type 0
  -- the failed calls, counted up to the greatest u64
  pub count : I → ℕ
  -- laws
  pub images_tell : tells_images → tells
  pub names_are_image : tells_images → (i : I) → images i (record { shown = shown i; has_part = is_there (part i) })
  pub counts_now : tells_images → (i : I) (t : ℕ) (x : Names) → t ≤ moment i → images i x → since i t x
  pub only_now : tells_images → (i : I) (x : Names) → since i (moment i) x → images i x

-- Each image at any moment from old to new is one at old, or has this; and no image is lost.
pub record Turns {I : Type 0} (m : Placing I) (may : Names → Type 0) (old new : I) : Type 0 where
  pub later : m.moment old ≤ m.moment new
  pub each : m.tells_images → (t : ℕ) (x : Names) → t ≤ m.moment old → m.since new t x → m.since old t x ⊎ may x
  pub keeps : m.tells_images → (t : ℕ) (x : Names) → t ≤ m.moment old → m.since old t x → m.since new t x

-- a crash leaves the names as they are
abbrev pub IsDurable : {I : Type 0} → Placing I → I → Type 0
IsDurable m i = m.tells_images → (x : Names) → m.images i x
    → x ≡ record { shown = m.shown i; has_part = is_there (m.part i) }

-- the files, the part, the free names and the images are as they were
pub record Stays {I : Type 0} (m : Placing I) (old new : I) : Type 0 where
  pub shown : m.shown new ≡ m.shown old
  pub part : m.part new ≡ m.part old
  pub free : m.free new ≡ m.free old
  pub turns : Turns m (λ x. ⊥) old new

-- a call failed only where the count rose, which did not fall
pub record Counted {I T E : Type 0} (m : Placing I) (old new : I) (result : Result T E) : Type 0 where
  pub later : m.count old ≤ m.count new
  pub rose : IsErr result → Rose (m.count old) (m.count new)

-- the first so many bytes of a part that lies in the folder, where it has them
abbrev pub first_of : ℕ → Part → Option (List ℕ)
first_of n Missing = None
first_of n (Lying bytes) = if nat_le n (length bytes) then Some (take n bytes) else None
first_of n Given = None

-- every other name is as free as it was
abbrev pub FreesNoOther : {I : Type 0} → Placing I → List ℕ → I → I → Type 0
FreesNoOther m name old new = (other : List ℕ) → (other ≡ name → ⊥) → m.free new other ≡ m.free old other
