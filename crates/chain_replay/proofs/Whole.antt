-- A whole script, by what became of its first lines.
use Rattle.std.proofs.Common.{◌≡◌, ℕ, ◌^◌, ◌<◌, List, [], Option, inl, inr, refl, sym, ◌∙◌, subst, arith}
use Rattle.std.specs.Io.KnownBytes.{Appends}
use Rattle.pump_chain.specs.Scripted.{chain_of}
use Rattle.pump_frame.specs.Counts.{Rose}
use Rattle.pump_frame.specs.declared.row.SessionRow.{SessionRow}
use Rattle.pump_link.proofs.Known.{Appends-none}
use Rattle.script_reader.specs.declared.event.Event.{Event}
use Rattle.script_reader.specs.declared.fault.Fault.{Fault}
use Rattle.script_reader.specs.declared.fault.Fault.TheVariants as faults
use Rattle.script_reader.specs.Lines.{LineReading, to_come}
use Rattle.script_reader.specs.Openings.{Openings}
use Rattle.script_reader.specs.Transcript.{fault_line}
use Rattle.script_replay.specs.Runners.{Closes}
use Rattle.script_replay.specs.declared.ended.Ended.{Ended}
use Rattle.script_replay.specs.declared.ended.Ended.TheVariants as ended
use Rattle.chain_replay.specs.Ends.{EndsChain}
use Rattle.chain_replay.specs.Faults.{IsHalted}
use Rattle.chain_replay.specs.Opened.{Shelved}
use Rattle.chain_replay.specs.Private.{HasRead, ReadsRow, ReadsNoFurther}
use Rattle.chain_replay.specs.Replays.{IsKept}
use Rattle.chain_replay.specs.Scripts.{Begun, NoPump, OnePump, BothPumps, MayFollow, AreLinked, LacksPump}
use Rattle.script_replay.proofs.Gathered.{gathers_none}
use Rattle.chain_replay.proofs.Ending.{stops}
use Rattle.chain_replay.proofs.Reading.{row_begins}

no_chain : (shelf : Shelved) (o : Openings) (begun : Begun) → (printed : List Event) → LacksPump begun → shelf.waits → IsKept shelf o begun printed
no_chain shelf o NoPump printed lacks h = h
no_chain shelf o (OnePump one) printed lacks h = h
no_chain shelf o (BothPumps one two c) printed lacks h = absurd lacks

-- there are not two rows
pub no_rows : (shelf : Shelved) (o : Openings) (all left old new : Option (List ℕ)) (was now : ℕ) (begun : Begun) (fault : Fault) (result : Ended) (rose risen : ℕ) → LacksPump begun → shelf.waits → ReadsNoFurther o all left was now begun fault
    → Closes old new rose risen (fault_line fault) (ended.Stopped fault) result → EndsChain shelf all left old new was now result
no_rows shelf o all left old new was now begun fault result rose risen lacks waits r c =
    stops shelf all left old old new was now (record { openings = o; lines = r.lines; events = []; begun = begun; rest = r.rest; so_far = r.so_far }) [] [] (gathers_none [] old) fault result rose risen
    (inl (record { halted = r.halted; output_is = refl; disks = no_chain shelf o begun [] lacks waits })) c

-- .. and the two make no chain
pub no_pumps : (shelf : Shelved) (o : Openings) (all left old new : Option (List ℕ)) (was now : ℕ) (reading : LineReading) (one two : SessionRow) (fault : Fault) (result : Ended) (rose risen : ℕ) → MayFollow one two
    → shelf.refuses one two fault → ReadsRow o all left reading (OnePump one) two → reading.number < 2 ^ 32
    → Closes old new rose risen (fault_line fault) (ended.Stopped fault) result → EndsChain shelf all left old new was now result
no_pumps shelf o all left old new was now reading one two fault result rose risen follows refuses r few c =
    stops shelf all left old old new was now (record { openings = o; lines = r.lines; events = []; begun = OnePump one; rest = r.rest; so_far = r.so_far }) [] [] (gathers_none [] old) fault result rose risen
    (inr (inl (record {
      one = one;
      two = two;
      begun_is = refl;
      next = record { few = (let n = r.number in omega (arith, n, few)); later = to_come reading left; spelled = r.spelled; taken = r.near };
      follows = follows;
      output_is = refl;
      disks = refuses;
    }))) c

-- .. or memory was wanting for it
pub no_memory : (shelf : Shelved) (o : Openings) (all left old new : Option (List ℕ)) (was now : ℕ) (reading : LineReading) (one two : SessionRow) → MayFollow one two → shelf.readies one two
    → ReadsRow o all left reading (OnePump one) two → reading.number < 2 ^ 32 → Appends old new [] → EndsChain shelf all left old new was now ended.Memory
no_memory shelf o all left old new was now reading one two follows readies r few w = (
  record { openings = o; lines = r.lines; events = []; begun = OnePump one; rest = r.rest; so_far = r.so_far },
  [],
  record {
    one = one;
    two = two;
    begun_is = refl;
    next = record { few = (let n = r.number in omega (arith, n, few)); later = to_come reading left; spelled = r.spelled; taken = r.near };
    follows = follows;
    output_is = refl;
    disks = readies;
  },
  w,
)

-- both have begun
pub both_begin : (o : Openings) (all left : Option (List ℕ)) (reading : LineReading) (one two : SessionRow) → MayFollow one two → AreLinked o one two → ReadsRow o all left reading (OnePump one) two → reading.number < 2 ^ 32
    → HasRead o all (to_come reading left) reading.number (BothPumps one two (chain_of o one two)) []
both_begin o all left reading one two follows linked r few =
    row_begins o all left reading (OnePump one) two r few (BothPumps one two (chain_of o one two)) (follows, linked, refl, refl)

-- ---- the faults ----

-- no fault of the first lines is that of the words; and a failed read is one
pub not_words : (rest left : Option (List ℕ)) (number was now : ℕ) (begun : Begun) (fault : Fault) → IsHalted rest left number was now begun fault → fault ≡ faults.Words → ⊥
not_words rest left number was now begun faults.Words h e = h
not_words rest left number was now begun faults.Read h e = cc e
not_words rest left number was now begun (faults.Script line) h e = cc e
not_words rest left number was now begun (faults.Device session role) h e = cc e
not_words rest left number was now begun (faults.Disk session role n x y) h e = cc e
not_words rest left number was now begun (faults.Full session end n size) h e = cc e

pub read_rose : (rest left : Option (List ℕ)) (number was now : ℕ) (begun : Begun) (fault : Fault) → IsHalted rest left number was now begun fault → fault ≡ faults.Read → Rose was now
read_rose rest left number was now begun fault h e = (subst (IsHalted rest left number was now begun) e h).0

pub stopped_same : (old new : Option (List ℕ)) (before now : ℕ) (bytes : List ℕ) (fault other : Fault) (result : Ended) → Closes old new before now bytes (ended.Stopped fault) result → result ≡ ended.Stopped other → fault ≡ other
stopped_same old new before now bytes fault other result c e = elim c [ inl is ↦ same fault other (sym is.0 ∙ e) | inr is ↦ cc (sym is.0 ∙ e) ]
  where
    same : (a b : Fault) → ended.Stopped a ≡ ended.Stopped b → a ≡ b
    same a b e = cc
