use Rattle.std.proofs.Common.{◌≡◌, Bool, true, List}
use Rattle.script_reader.specs.declared.event.Event.{Event}
use Rattle.script_reader.specs.Alone.{PastAlone, is_apt_alone, IsRefusedAlone, StepAlone}
use Rattle.two_worlds.specs.LowPumps.{low_row_of}
use Rattle.script_reader.specs.Heads.{line_with}
use Rattle.two_worlds.proofs.Told.PumpLines.{applies_low, down_after, still_holds}
use Rattle.two_worlds.specs.Printing.{lines_in}
use Rattle.two_worlds.proofs.low_pump.LowPump.apply_head.Goals as goal

pub invariant_of-self : goal.invariant_of-self
invariant_of-self c =
    let s = c.args.self.now in
    let line = (line_with c.args.bytes.now c.args.line.now) in
    record {
      stands = still_holds s.parts c.apply.new.self (λ p. IsRefusedAlone (low_row_of s) p line)
          (λ (p : PastAlone) (is_fault : Bool) (q : PastAlone) (printed : List Event). (is_apt_alone (low_row_of s) p line ≡ true) × StepAlone (low_row_of s) p line is_fault q printed)
          (lines_in c.apply.new.out.items) c.apply.result (s.stands c.requires.up) c.apply.ensures.ends;
    }

pub returns-clause-applies : goal.returns-clause-applies
returns-clause-applies c = λ p was.
    applies_low c.args.self.now _ (line_with c.args.bytes.now c.args.line.now) p (lines_in c.apply.new.out.items) c.apply.result (c.apply.ensures.ends p was)

pub returns-clause-down : goal.returns-clause-down
returns-clause-down c =
    let s = c.args.self.now in
    let line = (line_with c.args.bytes.now c.args.line.now) in
    down_after s.parts c.apply.new.self (λ p. IsRefusedAlone (low_row_of s) p line)
    (λ (p : PastAlone) (is_fault : Bool) (q : PastAlone) (printed : List Event). (is_apt_alone (low_row_of s) p line ≡ true) × StepAlone (low_row_of s) p line is_fault q printed)
    (lines_in c.apply.new.out.items) c.apply.result (s.stands c.requires.up) c.apply.ensures.ends
