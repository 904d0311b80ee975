use Rattle.std.proofs.Common.{sym, ap, ◌∙◌}
use Rattle.std.proofs.lemmas.List.{take_rest}
use Rattle.byteorder.specs.Endian.{big_number}
use Rattle.pump_frame.specs.Places.{IsFrameOf}
use Rattle.pump_frame.proofs.reader.decode.Goals as goal

fields : (c : goal.After-set) → IsFrameOf c.args.bytes.now (record { kind = c.unwrap-into.result; session = c.read_u32-into.result; number = c.read_u64-into.result; payload = c.set.new.self })
fields c = record {
  kind = sym c.kind_of.ensures ∙ c.unwrap-into.ensures;
  session = c.read_u32-into.ensures ∙ ap (big_number 4) (take_rest c.args.bytes.now 4);
  number = c.read_u64-into.ensures ∙ ap (big_number 8) (take_rest c.args.bytes.now 8);
  payload = c.set.ensures.value ∙ take_rest c.args.bytes.now 18;
}

pub returns-clause-lawful : goal.returns-clause-lawful
returns-clause-lawful c = c.requires.lawful _ (fields c)

pub returns-clause-bytes : goal.returns-clause-bytes
returns-clause-bytes c = c.requires.spelled _ (fields c)
