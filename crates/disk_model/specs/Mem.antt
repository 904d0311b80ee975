-- What a MemDisk tells: its readings and its images.
use Rattle.std.specs.Prelude.{◌≡◌, ℕ, ◌-◌, false, Bool, ◌&&◌, nat_lt, nat_le, if◌then◌else◌, List, ◌∷◌, length, Result}
use Rattle.pump_frame.specs.Counts.{raised, CountsFailure}
use Rattle.disk_model.specs.Contents.{Held}
use Rattle.disk_model.specs.Disk.{Meaning}
use Rattle.disk_model.specs.Record.{replay, IsImage, WasImage}
use Rattle.disk_model.specs.RecordLaws.{replay_image, counts_now, only_now}
use Rattle.disk_model.specs.declared.record.Entry.{Entry}

-- What a contract sees of a MemDisk: what it held when its record began, and its room; what happened
-- since, the newest first; how many writes and syncs the record still takes; the number of the next
-- call, the numbers of the calls that fail, and the count of the failed ones.
pub record Memory : Type 0 where
  pub start : Held
  pub log : List Entry
  pub left : ℕ
  pub number : ℕ
  pub fails : List ℕ
  pub faults : ℕ

-- what a read gives
abbrev pub mem_reading : Memory → List ℕ
mem_reading d = replay d.start d.log

abbrev pub mem_meaning : Meaning Memory
mem_meaning = record {
  tells = Unit {0};
  reading = mem_reading;
  tells_images = Unit {0};
  images = λ d c. IsImage d.start d.log c;
  moment = λ d. length d.log;
  since = λ d t c. WasImage d.start d.log t c;
  tells_plan = ⊥;
  room = λ d. d.start.room;
  armed = λ d. false;
  count = λ d. d.faults;
  images_tell = λ yes. tt;
  plan_tells = λ no. tt;
  reads_image = λ yes d. replay_image d.start d.log;
  counts_now = λ yes d t c le is. counts_now d.start d.log t c is;
  only_now = λ yes d c left. only_now d.start d.log c left;
}

-- the record takes a write up to this end
abbrev pub takes : Memory → ℕ → Bool
takes d end = nat_lt 0 d.left && nat_le end d.start.room

-- One call was made: the next number is one more, the count is one more where it failed, and what
-- the disk began with and the numbers of the failing calls stay.
pub record Called {T E : Type 0} (old new : Memory) (result : Result T E) : Type 0 where
  pub start : new.start ≡ old.start
  pub fails : new.fails ≡ old.fails
  pub number : new.number ≡ raised old.number
  pub faults : CountsFailure old.faults new.faults result

-- the record has this entry more where it took one, and else is as it was
pub record Logs (took : Bool) (entry : Entry) (old new : Memory) : Type 0 where
  pub log : new.log ≡ (if took then entry ∷ old.log else old.log)
  pub left : new.left ≡ (if took then old.left - 1 else old.left)

-- the record is as it was
pub record LogsNothing (old new : Memory) : Type 0 where
  pub log : new.log ≡ old.log
  pub left : new.left ≡ old.left
