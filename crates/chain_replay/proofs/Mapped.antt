-- What is known of the disks while a chain runs says what is read of them at the return.
use Rattle.std.proofs.Common.{◌≤◌, ℕ, List, inl, inr, length, Option}
use Rattle.disk_model.specs.declared.name.Role.{Role}
use Rattle.pump_chain.specs.Chained.{Chained}
use Rattle.pump_frame.specs.declared.row.SessionRow.{SessionRow}
use Rattle.script_reader.specs.declared.event.Event.{Event}
use Rattle.script_reader.specs.declared.fault.Fault.{Fault}
use Rattle.script_reader.specs.declared.fault.Fault.TheVariants as faults
use Rattle.script_reader.specs.Openings.{Openings}
use Rattle.script_replay.specs.declared.ended.Ended.{Ended}
use Rattle.script_replay.specs.declared.ended.Ended.TheVariants as ended
use Rattle.chain_replay.specs.Ends.{EndsChain}
use Rattle.chain_replay.specs.Faults.{NamesWhatFailed}
use Rattle.chain_replay.specs.Opened.{Shelved}
use Rattle.chain_replay.specs.Replays.{Replayed, IsKept, IsFinished, IsCutShort, IsUnbegun, IsWanting, IsStopped, EndsWith, IsOutput}
use Rattle.chain_replay.specs.Scripts.{Begun, NoPump, OnePump, BothPumps}
use Rattle.chain_replay.proofs.Reading.{halted_since}

module _ (k l : Shelved) (waits : k.waits → l.waits) (keeps : (o : Openings) (one two : SessionRow) (c : Chained) → k.keeps o one two c → l.keeps o one two c)
    (outlives : (one two : SessionRow) (c : Chained) (printed : List Event) → k.outlives one two c printed → l.outlives one two c printed) (readies : (one two : SessionRow) → k.readies one two → l.readies one two) (refuses : (one two : SessionRow) (fault : Fault) → k.refuses one two fault → l.refuses one two fault)
    (fails : (session : ℕ) (role : Role) → k.fails session role → l.fails session role) where
  named : (fault : Fault) → NamesWhatFailed k.fails fault → NamesWhatFailed l.fails fault
  named (faults.Device session role) h = fails session role h
  named fault h = tt

  kept : (o : Openings) (b : Begun) (printed : List Event) → IsKept k o b printed → IsKept l o b printed
  kept o NoPump printed h = waits h
  kept o (OnePump one) printed h = waits h
  kept o (BothPumps one two c) printed h = (keeps o one two c h.0, outlives one two c printed h.1)

  module _ (all left : Option (List ℕ)) (first was now : ℕ) (low : first ≤ was) (r : Replayed all) (output : List ℕ) where
    finished : IsFinished k r output → IsFinished l r output
    finished h = record { ended = h.ended; one = h.one; two = h.two; chain = h.chain; begun_is = h.begun_is; own = h.own; output_is = h.output_is; disks = keeps r.openings h.one h.two h.chain h.disks; outlives = outlives h.one h.two h.chain r.events h.outlives }

    cut_short : (fault : Fault) → IsCutShort k left was now fault r output → IsCutShort l left first now fault r output
    cut_short fault h = record { halted = halted_since r.rest left (length r.lines) first was now r.begun fault low h.halted; output_is = h.output_is; disks = kept r.openings r.begun r.events h.disks }

    unbegun : (fault : Fault) → IsUnbegun k left fault r output → IsUnbegun l left fault r output
    unbegun fault h = record { one = h.one; two = h.two; begun_is = h.begun_is; next = h.next; follows = h.follows; output_is = h.output_is; disks = refuses h.one h.two fault h.disks }

    wanting : IsWanting k left r output → IsWanting l left r output
    wanting h = record { one = h.one; two = h.two; begun_is = h.begun_is; next = h.next; follows = h.follows; output_is = h.output_is; disks = readies h.one h.two h.disks }

    stopped : (fault : Fault) → IsStopped k left fault r output → IsStopped l left fault r output
    stopped fault h = record {
      one = h.one;
      two = h.two;
      chain = h.chain;
      begun_is = h.begun_is;
      line = h.line;
      next = h.next;
      led = h.led;
      printed = h.printed;
      stops = h.stops;
      named = named fault h.named;
      output_is = h.output_is;
      disks = keeps r.openings h.one h.two h.led h.disks;
    }

    ends_with : (fault : Fault) → EndsWith k left was now fault r output → EndsWith l left first now fault r output
    ends_with fault (inl h) = inl (cut_short fault h)
    ends_with fault (inr (inl h)) = inr (inl (unbegun fault h))
    ends_with fault (inr (inr h)) = inr (inr (stopped fault h))

    is_output : IsOutput k left was now r output → IsOutput l left first now r output
    is_output (inl (is, near, disks)) = inl (is, near, kept r.openings r.begun r.events disks)
    is_output (inr (inl h)) = inr (inl (finished h))
    is_output (inr (inr (fault, h))) = inr (inr (fault, ends_with fault h))

  -- .. also where reads are counted from earlier on
  pub mapped : (all left old new : Option (List ℕ)) (first was now : ℕ) → first ≤ was → (result : Ended) → EndsChain k all left old new was now result → EndsChain l all left old new first now result
  mapped all left old new first was now low ended.Done (r, output, e, w) = (r, output, finished all left first was now low r output e, w)
  mapped all left old new first was now low ended.Memory (r, output, e, w) = (r, output, wanting all left first was now low r output e, w)
  mapped all left old new first was now low ended.Write (r, output, e, w) = (r, output, is_output all left first was now low r output e, w)
  mapped all left old new first was now low (ended.Stopped fault) (r, output, e, w) = (r, output, ends_with all left first was now low r output fault e, w)
