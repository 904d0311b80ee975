-- What a PlainDisk tells: its readings and its plan.
use Rattle.std.specs.Prelude.{ℕ, Bool, List}
use Rattle.disk_model.specs.Disk.{Meaning}

-- the bytes, the room that they may grow to, whether the next call fails, and the count of the failed calls
pub record Plain : Type 0 where
  pub bytes : List ℕ
  pub room : ℕ
  pub armed : Bool
  pub faults : ℕ

abbrev pub plain_meaning : Meaning Plain
plain_meaning = record {
  tells = Unit {0};
  reading = λ d. d.bytes;
  tells_images = ⊥;
  images = λ d c. ⊥;
  moment = λ d. 0;
  since = λ d t c. ⊥;
  tells_plan = Unit {0};
  room = λ d. d.room;
  armed = λ d. d.armed;
  count = λ d. d.faults;
  images_tell = λ no. tt;
  plan_tells = λ yes. tt;
  reads_image = λ no d. no;
  counts_now = λ no d t c le now. no;
  only_now = λ no d c left. no;
}
