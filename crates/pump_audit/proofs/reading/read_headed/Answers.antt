use Rattle.script_reader.specs.Heads.{line_with}
use Rattle.pump_audit.proofs.EntryLaws.{found_entry, only_script, small_entry, skip_head}
use Rattle.pump_audit.proofs.reading.read_headed.Goals as goal

pub returns-in_default : goal.returns-in_default
returns-in_default c =
    let line = line_with c.args.bytes.now c.args.head.now in
    let text = c.args.text.now in
    let read = c.read_script.ensures in
    record {
      found = found_entry c.read_script.result line text read.found c.requires.line;
      only = only_script line text c.read_script.result c.requires.only (λ e. c.in_default.not-Skip (skip_head c.args.bytes.now c.args.head.now e)) read.only;
      small = small_entry c.read_script.result line read.found c.requires.lawful;
    }
