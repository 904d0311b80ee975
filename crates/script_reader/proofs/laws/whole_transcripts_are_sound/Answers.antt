use Rattle.script_reader.proofs.SoundSessions.{sessions_sound_lead, sessions_sound_so, script_prefixes_so}
use Rattle.script_reader.proofs.laws.whole_transcripts_are_sound.Goals as goal

pub returns-clause-end : goal.returns-clause-end
returns-clause-end c = sessions_sound_so

pub returns-clause-each : goal.returns-clause-each
returns-clause-each c = λ o before line later t printed h.
    let f = script_prefixes_so o before line later t printed h in
    (f.0, f.1, f.2, f.3, f.4, sessions_sound_lead o before f.0 f.1 f.3)
