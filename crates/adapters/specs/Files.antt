-- What a disk and a shelf over the machine's files tell: how often they failed, and nothing of what they hold.
use Rattle.std.specs.Prelude.{ℕ, false, [], None}
use Rattle.disk_model.specs.Disk.{Meaning}
use Rattle.disk_model.specs.Shelf.{Holdings, Out}

-- a disk that tells its count alone
abbrev pub count_alone : {D : Type 0} → (D → ℕ) → Meaning D
count_alone count = record {
  tells = ⊥;
  reading = λ d. [];
  tells_images = ⊥;
  images = λ d c. ⊥;
  moment = λ d. 0;
  since = λ d t c. ⊥;
  tells_plan = ⊥;
  room = λ d. 0;
  armed = λ d. false;
  count = count;
  images_tell = λ no. no;
  plan_tells = λ no. no;
  reads_image = λ no d. absurd no;
  counts_now = λ no d t c le now. absurd no;
  only_now = λ no d c left. absurd no;
}

-- A shelf that tells its counts alone. Any of its disks may be out, and each had not failed yet when it was given.
abbrev pub counts_alone : {S : Type 0} → (S → ℕ) → (S → ℕ) → Holdings S
counts_alone faults disk_faults = record {
  tells = ⊥;
  disk = λ s name. Out 0;
  file = λ s name. None;
  faults = faults;
  disk_faults = disk_faults;
}
