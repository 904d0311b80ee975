-- Lines that were written whole or in part, and ends by their causes.
use Rattle.std.proofs.Common.{◌≡◌, ◌⊎◌, ℕ, ◌+◌, ◌≤◌, Bool, true, List, [], length, Option, inl, inr, arith, refl, sym, ◌∙◌, subst}
use Rattle.std.proofs.KnownBytes.{Appends-trans}
use Rattle.disk_model.specs.declared.name.Role.TheVariants.{Recv}
use Rattle.std.specs.Io.KnownBytes.{Appends}
use Rattle.pump_frame.specs.Counts.{Rose}
use Rattle.pump_link.specs.Causes.{AppendsPrefix}
use Rattle.file_peers.specs.declared.collect.CollectEnd.{CollectEnd}
use Rattle.file_peers.specs.declared.collect.CollectEnd.TheVariants as party
use Rattle.pump_frame.specs.declared.row.SessionRow.{SessionRow}
use Rattle.peers.specs.Outputs.{Counts, PrintsPart}
use Rattle.folders.specs.Outboxes.{Dropping}
use Rattle.file_dropper.specs.declared.dropper.Dropper.{Dropper}
use Rattle.file_peers.specs.Dropping.{Drops, Stop, StopsBy, Resting, Giving, Telling, Asking, Taking, Ending}
use Rattle.file_peers.specs.Dropping.{Visit, Ungreeted, Unsettled, Untold, Greeted, messages, reached}
use Rattle.file_peers.specs.declared.drop.DropEnd.{DropEnd}
use Rattle.file_peers.specs.declared.drop.DropEnd.TheVariants as low
use Rattle.file_dropper.specs.declared.answers.DropFault.TheVariants as faults
use Rattle.command_ends.specs.Causes.{Causes, HasStatusCause, IsTransferCaused}
use Rattle.command_ends.specs.CommandEnds.{Closes, end_line, end_status}
use Rattle.command_ends.specs.declared.command_end.CommandEnd.{CommandEnd}
use Rattle.command_ends.specs.declared.command_end.CommandEnd.TheVariants.{Memory, Unread, Unwritten, Unconnected}
use Rattle.transfer.specs.Collecting.{end_of_collector}
use Rattle.transfer.specs.Dropping.{end_of_dropper}
use Rattle.transfer.specs.Ends.{causes}

pub told_in_part : (old new : Option (List ℕ)) (whole : Bool) (line : List ℕ) → PrintsPart old new whole line → AppendsPrefix old new line
told_in_part old new whole line p = (p.0, p.1.0, p.1.1, p.3)

pub told_whole : (old new : Option (List ℕ)) (whole : Bool) (line : List ℕ) → PrintsPart old new whole line → whole ≡ true → Appends old new line
told_whole old new whole line p is = subst (Appends old new) (p.2 is) p.3

pub rose_before : (a b c : ℕ) → a ≤ b → Rose b c → Rose a c
rose_before a b c low rose = omega (arith, low, rose)

pub collector_caused : (c : Causes) (end : CollectEnd) → (end ≡ party.Write → c.unwritten) → IsTransferCaused c (end_of_collector end)
collector_caused c party.Ended h = tt
collector_caused c party.Looks h = tt
collector_caused c party.Write h = h refl
collector_caused c (party.Folder faults) h = tt
collector_caused c (party.NameTaken number) h = tt
collector_caused c (party.Device faults) h = tt
collector_caused c (party.Ahead number count) h = tt

pub dropper_caused : (c : Causes) (end : DropEnd) → (end ≡ low.Write → c.unwritten) → IsTransferCaused c (end_of_dropper end)
dropper_caused c low.Ended h = tt
dropper_caused c low.Looks h = tt
dropper_caused c low.Write h = h refl
dropper_caused c (low.Refused code number) h = tt
dropper_caused c (low.Unfinished number) h = tt
dropper_caused c (low.Failed faults.Folder) h = tt
dropper_caused c (low.Failed faults.Marks) h = tt
dropper_caused c (low.Failed (faults.Step start accepted)) h = tt
dropper_caused c (low.Failed faults.TooLong) h = tt
dropper_caused c (low.Failed faults.Full) h = tt

-- a party that could not write a line tells that the sink failed
module _ {O F : Type 0} (m : Dropping O) (faults : F → ℕ) (n : Counts) where
  stop_unwritten : (session message number left : ℕ) (old : Dropper O F) (stop : Stop O F) → StopsBy m faults session message number left old stop n low.Write → Rose n.out n.now_out
  stop_unwritten session message number left old (Resting looks passed dropper) h = absurd h.1
  stop_unwritten session message number left old (Giving dropper) h = absurd h
  stop_unwritten session message number left old (Telling given printed) h = h.1.1
  stop_unwritten session message number left old (Asking given wait sent) h = absurd h.1
  stop_unwritten session message number left old (Taking given wait ack dropper) h = absurd h.1
  stop_unwritten session message number left old (Ending given wait ack dropper printed) h = h.2.1

  pub visit_unwritten : (row : SessionRow) (left : ℕ) (old : Dropper O F) (x : Visit O F) → Drops m faults row left old x n low.Write → Rose n.out n.now_out
  visit_unwritten row left old (Ungreeted wait sent) h = absurd h
  visit_unwritten row left old (Unsettled wait welcome dropper) h = absurd h.1
  visit_unwritten row left old (Untold wait welcome settled dropper printed) h = h.3.1
  visit_unwritten row left old (Greeted wait welcome settled first turns stop) h = stop_unwritten row.id row.message (welcome.number + length (messages turns)) left (reached first turns) stop h.4

-- ---- a status that was answered ----

no_words : (end : CommandEnd) → end_status end ≡ 2 → ⊥
no_words Memory e = omega (arith, e)
no_words other e = omega (arith, e)

module _ (c : Causes) where
  memory_caused : (end : CommandEnd) → IsTransferCaused c end → end_status end ≡ 1 → (end ≡ Memory) × c.memory
  memory_caused Memory is e = (refl, is)
  memory_caused other is e = absurd (omega (arith, e))

  read_caused : (end : CommandEnd) → IsTransferCaused c end → end_status end ≡ 3 → c.read
  read_caused Unread is e = is
  read_caused other is e = absurd (omega (arith, e))

  unwritten_caused : (end : CommandEnd) → IsTransferCaused c end → end_status end ≡ 4 → c.unwritten
  unwritten_caused Unwritten is e = is
  unwritten_caused other is e = absurd (omega (arith, e))

  link_caused : (end : CommandEnd) → IsTransferCaused c end → end_status end ≡ 9 → c.link
  link_caused Unconnected is e = is
  link_caused other is e = absurd (omega (arith, e))

-- The call ended when `mid` was written and the sink had failed so often, and then it wrote its fault.
module _ (Read : Type 0) (old mid new : Option (List ℕ)) (first before now link now_link session status : ℕ) (end : CommandEnd) (low : first ≤ before) (high : before ≤ now)
    (closes : Closes mid new session end status) (cause : (status ≡ end_status end) ⊎ ((status ≡ 4) × Rose before now)) (is_caused : IsTransferCaused (causes Read old mid first before link now_link) end) where
  its_own : (n : ℕ) → (n ≡ 4 → ⊥) → status ≡ n → end_status end ≡ n
  its_own n other is = elim cause [
    | inl same ↦ sym same ∙ is
    | inr failed ↦ absurd (other (sym is ∙ failed.0))
  ]

  nothing_more : end ≡ Memory → status ≡ 1 → Appends mid new []
  nothing_more same is = elim closes [
    | inl h ↦ subst (λ (e : CommandEnd). Appends mid new (end_line session e)) same h.1
    | inr h ↦ absurd (let four = h.0 in omega (arith, four, is))
  ]

  pub status_caused : HasStatusCause (causes Read old new first now link now_link) ⊥ status
  status_caused =
      let c = causes Read old mid first before link now_link in
      record {
        memory = λ is.
            let m = memory_caused c end is_caused (its_own 1 (λ e. omega (arith, e)) is) in
            Appends-trans old mid new [] [] m.1 (nothing_more m.0 is);
        words = λ is. no_words end (its_own 2 (λ e. omega (arith, e)) is);
        read = λ is. read_caused c end is_caused (its_own 3 (λ e. omega (arith, e)) is);
        unwritten = λ is. elim cause [
          | inl same ↦ (let rose = unwritten_caused c end is_caused (sym same ∙ is) in omega (arith, rose, high))
          | inr failed ↦ (let rose = failed.1 in omega (arith, low, rose))
        ];
        device = λ is. (Recv, tt);
        link = λ is. link_caused c end is_caused (its_own 9 (λ e. omega (arith, e)) is);
      }
