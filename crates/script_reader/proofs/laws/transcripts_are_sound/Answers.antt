use Rattle.script_reader.proofs.Soundness.{sound_lead, sound_so, prefixes_so}
use Rattle.script_reader.proofs.laws.transcripts_are_sound.Goals as goal

pub returns-clause-end : goal.returns-clause-end
returns-clause-end c = sound_so

pub returns-clause-each : goal.returns-clause-each
returns-clause-each c = λ o before line later after printed h.
    let f = prefixes_so o before line later after printed h in
    (f.0, f.1, f.2, f.3, f.4, sound_lead o before f.0 f.1 f.3)
