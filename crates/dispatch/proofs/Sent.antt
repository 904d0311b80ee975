-- By which cause a sender ends, and a receiver.
use Rattle.std.proofs.Common.{◌≡◌, ℕ, true, List, Option, Some, refl, sym, subst}
use Rattle.disk_model.specs.declared.name.Role.{Role}
use Rattle.disk_model.specs.declared.name.Role.TheVariants as roles
use Rattle.pump_frame.specs.Counts.{Rose}
use Rattle.pump_frame.specs.declared.row.SessionRow.{SessionRow}
use Rattle.recovery.specs.Calls.{is_device}
use Rattle.recovery.specs.declared.why.Why.{Why}
use Rattle.recovery.specs.declared.why.Why.TheVariants as whys
use Rattle.peers.specs.Outputs.{Counts}
use Rattle.peers.specs.Receiving.{Place, Reception, Receives}
use Rattle.peers.specs.Sending.{Sending, Ungreeted, Greeted, Sends}
use Rattle.peers.specs.declared.receive.ReceiveEnd.{ReceiveEnd}
use Rattle.peers.specs.declared.receive.ReceiveEnd.TheVariants as receiver
use Rattle.peers.specs.declared.send.SendEnd.{SendEnd}
use Rattle.peers.specs.declared.send.SendEnd.TheVariants as sender
use Rattle.command_ends.specs.Causes.{Causes, IsCaused}
use Rattle.dispatch.specs.Receptions.{end_of_receiver}
use Rattle.dispatch.specs.Sendings.{end_of_sender}
use Rattle.commands.specs.Showing.{end_at}
use Rattle.command_ends.specs.declared.command_end.CommandEnd.{CommandEnd}

-- ---- the sender ----

module _ (row : SessionRow) (most : ℕ) (all left : Option (List ℕ)) (n : Counts) (c : Causes) (read : Rose n.other n.now_other → c.read) (unwritten : Rose n.out n.now_out → c.unwritten) where
  sends_caused : (x : Sending) (end : SendEnd) → Sends row most all left x n end → IsCaused c (end_of_sender end)
  sends_caused (Ungreeted last) sender.Read s = absurd s.0
  sends_caused (Greeted wait welcome turns last) sender.Read s = read s.7.1
  sends_caused (Ungreeted last) sender.Write s = absurd s.0
  sends_caused (Greeted wait welcome turns last) sender.Write s = unwritten s.7.ends.4
  sends_caused x sender.Done s = tt
  sends_caused x (sender.Script line) s = tt
  sends_caused x (sender.Refused code number) s = tt
  sends_caused x (sender.Unfinished number) s = tt

  pub sent_caused : (x : Sending) (end : SendEnd) (result : CommandEnd) → result ≡ end_of_sender end → Sends row most all left x n end → IsCaused c result
  sent_caused x end result is s = subst (IsCaused c) (sym is) (sends_caused x end s)

-- ---- the receiver ----

module _ (row : SessionRow) (size most : ℕ) (start : Place) (x : Reception) (n : Counts) (c : Causes) (device : Rose n.other n.now_other → c.device roles.Recv) (unwritten : Rose n.out n.now_out → c.unwritten) where
  receives_caused : (end : ReceiveEnd) → Receives row size most start x n end → IsCaused c (end_of_receiver end)
  receives_caused (receiver.Device faults) r = device r.ends.3
  receives_caused receiver.Write r = unwritten r.ends.2
  receives_caused receiver.Ended r = tt
  receives_caused receiver.Looks r = tt
  receives_caused (receiver.Ahead number count) r = tt
  receives_caused (receiver.LogFull end length size) r = tt

  pub received_caused : (end : ReceiveEnd) (result : CommandEnd) → result ≡ end_of_receiver end → Receives row size most start x n end → IsCaused c result
  received_caused end result is r = subst (IsCaused c) (sym is) (receives_caused end r)

-- ---- a disk that is refused ----

pub refused_caused : (c : Causes) (role : Role) (why : Why) → (is_device why ≡ true → c.device role) → IsCaused c (end_at role (Some why))
refused_caused c role (whys.Device faults) device = device refl
refused_caused c role (whys.NotABuffer size bytes) device = tt
refused_caused c role (whys.WrongShape field at wanted) device = tt
refused_caused c role (whys.BadRegister first second) device = tt
refused_caused c role (whys.Mismatch removed accepted) device = tt
refused_caused c role (whys.BadSlot number length) device = tt
refused_caused c role (whys.Apart count bound) device = tt
refused_caused c role (whys.Differs number) device = tt
refused_caused c role (whys.NotEmpty size) device = tt
refused_caused c role (whys.Small held capacity) device = tt
refused_caused c role (whys.TooLong number size) device = tt
