-- What a survey says of the three disks of a session.
use Rattle.std.specs.Prelude.{◌≡◌, ◌≤◌, Bool, true, length, drop}
use Rattle.disk_model.specs.Disk.{Meaning, Moves, Same}
use Rattle.pump_frame.specs.Counts.{Rose}
use Rattle.script_reader.specs.Openings.{Found, accepted_in}
use Rattle.two_worlds.specs.declared.pump.surveying.Survey.{Survey}

-- its counts and its messages are those that were found
pub record Surveys {D : Type 0} (f : Found) (s : Survey D) : Type 0 where
  pub accepted_is : s.accepted ≡ length (accepted_in f)
  pub removed_is : s.removed ≡ f.removed
  pub received_is : s.received ≡ length f.received
  pub live_is : s.live.items ≡ drop f.removed (accepted_in f)

-- no byte of the disk was changed, and it failed only where its count rose
pub record IsRead {D : Type 0} (m : Meaning D) (old new : D) (is_fault : Bool) : Type 0 where
  pub same : Moves m Same old new
  pub counts : m.count old ≤ m.count new
  pub rose : is_fault ≡ true → Rose (m.count old) (m.count new)
