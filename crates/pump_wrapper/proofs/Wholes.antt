-- The whole file is at the receiver.
use Rattle.std.proofs.Common.{◌≡◌, ℕ, List, ◌++◌, length, Option, None, Some, Result, Ok, Err, sym, ap, ◌∙◌, subst}
use Rattle.std.specs.Prelude.{IfErr, OnOk}
use Rattle.std.specs.Io.KnownBytes.{Consumes}
use Rattle.disk_model.specs.Disk.{Meaning}
use Rattle.pump_frame.specs.declared.row.SessionRow.{SessionRow}
use Rattle.recovery.specs.declared.trio.Trio.{Trio}
use Rattle.script_reader.specs.Past.{Past}
use Rattle.two_worlds.specs.declared.pump.Pump.{Pump}
use Rattle.two_worlds.specs.Pumps.{StandsFor}
use Rattle.pump_wrapper.specs.Comparing.{Compares, SameBytes}
use Rattle.pump_wrapper.specs.Cutting.{IsTotal, bytes_in_all, cut_bytes, to_come}
use Rattle.pump_wrapper.specs.Wrapped.{wrapped}
use Rattle.pump_wrapper.specs.Wraps.{IsFailure, IsSent, IsWhole, DisksHoldAll, HasAll, HasPassed, Sends, end_of_sending}
use Rattle.pump_wrapper.specs.declared.cutter.Cutter.{Cutter}
use Rattle.pump_wrapper.specs.declared.file_sender.WrapEnd.{WrapEnd}
use Rattle.pump_wrapper.specs.declared.file_sender.WrapEnd.TheVariants as ends

module _ {D : Type 0} (m : Meaning D) (row : SessionRow) where
  pub failed_sent : (messages : List (List ℕ)) (cutter : Cutter) (left : Option (List ℕ)) (end : WrapEnd) (disks : Trio D) → IsFailure end → IsSent m row messages cutter left end disks
  failed_sent messages cutter left (ends.Done bytes count) disks h = absurd h
  failed_sent messages cutter left ends.Memory disks h = tt
  failed_sent messages cutter left ends.Read disks h = tt
  failed_sent messages cutter left ends.TooLong disks h = tt
  failed_sent messages cutter left (ends.Differs number) disks h = tt
  failed_sent messages cutter left (ends.Refused role why) disks h = tt
  failed_sent messages cutter left (ends.Stopped stop) disks h = tt

  -- the receiver's messages and all further ones are the file's
  pub sent_whole : (file : List ℕ) (messages : List (List ℕ)) (start now : Cutter) (rest : Option (List ℕ)) (taken : List ℕ) (end : WrapEnd) (disks : Trio D) → to_come start file ≡ wrapped row.message file
      → bytes_in_all start file ≡ length file → Consumes (Some file) rest taken → Compares messages start now (Some file) rest (Ok tt) → SameBytes start now (Some file) rest → IsSent m row messages now rest end disks
      → IsWhole m row file end disks
  sent_whole file messages start now None taken (ends.Done bytes count) disks first size c compares same sent = absurd c
  sent_whole file messages start now (Some rest) taken (ends.Done bytes count) disks first size c compares same (more, come, is, hold, total) =
      let all : messages ++ more ≡ wrapped row.message file = ap (λ (ms : List (List ℕ)). messages ++ ms) (sym come) ∙ sym compares ∙ first in
      (total ∙ same ∙ size, is ∙ ap length all, subst (λ (ms : List (List ℕ)). DisksHoldAll m row ms disks) all hold)
  sent_whole file messages start now rest taken ends.Memory disks first size c compares same sent = tt
  sent_whole file messages start now rest taken ends.Read disks first size c compares same sent = tt
  sent_whole file messages start now rest taken ends.TooLong disks first size c compares same sent = tt
  sent_whole file messages start now rest taken (ends.Differs number) disks first size c compares same sent = tt
  sent_whole file messages start now rest taken (ends.Refused role why) disks first size c compares same sent = tt
  sent_whole file messages start now rest taken (ends.Stopped stop) disks first size c compares same sent = tt

-- what the disks hold of a pump over which all was sent
pub sent_disks : {D : Type 0} {g : _} (m : Meaning D) (t : Pump D g) (row : SessionRow) (messages : List (List ℕ)) (cutter now : Cutter) (left : Option (List ℕ)) (sent : Result ℕ WrapEnd) (bytes : ℕ) (end : WrapEnd) (disks : Trio D)
    → Sends m t row messages cutter left sent → bytes ≡ cut_bytes now → end ≡ end_of_sending bytes sent → OnOk sent (IsTotal cutter left (cut_bytes now)) → IfErr sent IsFailure
    → ((all : List (List ℕ)) (q : Past) → StandsFor m t q → HasPassed all q.world → HasAll m row all disks) → IsSent m row messages cutter left end disks
sent_disks m t row messages cutter now left (Ok n) bytes end disks (more, q, led, stands, passed, count, come) same is total fails holds =
    subst (λ (e : WrapEnd). IsSent m row messages cutter left e disks) (sym is) (more, come, count, (holds (messages ++ more) q stands passed).hold, subst (IsTotal cutter left) (sym same) total)
sent_disks m t row messages cutter now left (Err e) bytes end disks sends same is total fails holds =
    subst (λ (x : WrapEnd). IsSent m row messages cutter left x disks) (sym is) (failed_sent m row messages cutter left e disks fails)
