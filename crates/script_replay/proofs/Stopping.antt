-- A line that stops a script can be applied.
use Rattle.std.proofs.Common.{inl, inr, ℕ, true, List, Option, Some, None, ap, arith, length, refl}
use Rattle.std.proofs.lemmas.Bool.{both_ways}
use Rattle.pump_frame.specs.declared.row.SessionRow.{SessionRow}
use Rattle.script_reader.specs.declared.line.Line.{Line}
use Rattle.script_reader.specs.declared.line.Line.TheVariants as lines
use Rattle.script_reader.specs.declared.event.Event.{Event}
use Rattle.script_reader.specs.declared.fault.Fault.{Fault}
use Rattle.script_reader.specs.Past.{Past}
use Rattle.script_reader.specs.Steps.{LineComing, IsCrowded, IsRefusedWhole, Overfills}
use Rattle.script_reader.specs.Alone.{PastAlone, joined_alone, IsCrowdedAlone, IsRefusedAlone, StepAlone}
use Rattle.script_reader.specs.Scripts.{Running, RunningAlone, Begun, Whole, Alone, IsRefused, Stops}
use Rattle.script_reader.specs.Sessions.{Sessions, session_in, session_at, is_in_turn, RefusesOne, ScriptRefuses, StopsOne, ScriptStops}
use Rattle.script_reader.proofs.One.{arrives_one}

crowded_overfills : (s : SessionRow) (p : Past) (line : Line) (q : Past) (printed : List Event) (end n size : ℕ) → IsCrowded p line → Overfills s p line q printed end n size → ⊥
crowded_overfills s p lines.Skip q printed end n size h k = k
crowded_overfills s p (lines.Session row) q printed end n size h k = k
crowded_overfills s p (lines.LowSession row next held) q printed end n size h k = k
crowded_overfills s p (lines.Coarse session) q printed end n size h k = k
crowded_overfills s p (lines.Look session moment word arrival) q printed end n size h k = k
crowded_overfills s p (lines.Told session moment word fault feedback arrival) q printed end n size h k = k
crowded_overfills s p (lines.Step session moment word) q printed end n size h k = k
crowded_overfills s p (lines.Gone session moment) q printed end n size h k = k
crowded_overfills s p (lines.High session moment) q printed end n size h k = k
crowded_overfills s p (lines.Carry session back) q printed end n size h k = h
crowded_overfills s p (lines.Return session moment back) q printed end n size h k = k
crowded_overfills s p (lines.Done session moment time) q printed end n size h k = h
crowded_overfills s p (lines.Restart session moment) q printed end n size h k = k
crowded_overfills s p (lines.ReceiverRestart session moment) q printed end n size h k = k

crowded_stores : (s : SessionRow) (p : PastAlone) (line : Line) (q : PastAlone) (printed : List Event) → IsCrowdedAlone p line → StepAlone s p line true q printed → ⊥
crowded_stores s p lines.Skip q printed h k = h
crowded_stores s p (lines.Session row) q printed h k = h
crowded_stores s p (lines.LowSession row next held) q printed h k = h
crowded_stores s p (lines.Coarse session) q printed h k = h
crowded_stores s p (lines.Look session moment word arrival) q printed h k = h
crowded_stores s p (lines.Told session moment word fault feedback arrival) q printed (c, comes, many) (d, comes', (few, look)) =
    let same = ap (λ (t : LineComing). length (joined_alone p fault t).waits) (arrives_one session p.reading arrival c d comes comes') in
    absurd (omega (arith, many, few, same))
crowded_stores s p (lines.Gone session moment) q printed h k = h
crowded_stores s p (lines.High session moment) q printed h k = h
crowded_stores s p (lines.Carry session back) q printed h k = h
crowded_stores s p (lines.Return session moment back) q printed h k = h
crowded_stores s p (lines.Done session moment time) q printed h k = h
crowded_stores s p (lines.Restart session moment) q printed h k = h
crowded_stores s p (lines.ReceiverRestart session moment) q printed h k = h
crowded_stores s p (lines.Step session moment w) q printed h k = h

whole_refuses : (s : Running) (line : Line) → IsRefused (Some (Whole s)) line → IsRefusedWhole s.row s.past line
whole_refuses s lines.Skip h = absurd h
whole_refuses s (lines.Session row) h = h
whole_refuses s (lines.LowSession row next held) h = h
whole_refuses s (lines.Coarse session) h = inl refl
whole_refuses s (lines.Look session moment word arrival) h = h
whole_refuses s (lines.Told session moment word fault feedback arrival) h = h
whole_refuses s (lines.Step session moment word) h = h
whole_refuses s (lines.Gone session moment) h = h
whole_refuses s (lines.High session moment) h = h
whole_refuses s (lines.Carry session back) h = h
whole_refuses s (lines.Return session moment back) h = h
whole_refuses s (lines.Done session moment time) h = h
whole_refuses s (lines.Restart session moment) h = h
whole_refuses s (lines.ReceiverRestart session moment) h = h

alone_refuses : (s : RunningAlone) (line : Line) → IsRefused (Some (Alone s)) line → IsRefusedAlone s.row s.past line
alone_refuses s lines.Skip h = absurd h
alone_refuses s (lines.Session row) h = h
alone_refuses s (lines.LowSession row next held) h = h
alone_refuses s (lines.Coarse session) h = inl refl
alone_refuses s (lines.Look session moment word arrival) h = h
alone_refuses s (lines.Told session moment word fault feedback arrival) h = h
alone_refuses s (lines.Step session moment word) h = h
alone_refuses s (lines.Gone session moment) h = h
alone_refuses s (lines.High session moment) h = h
alone_refuses s (lines.Carry session back) h = h
alone_refuses s (lines.Return session moment back) h = h
alone_refuses s (lines.Done session moment time) h = h
alone_refuses s (lines.Restart session moment) h = h
alone_refuses s (lines.ReceiverRestart session moment) h = h

stops_refused : (running : Option Begun) (line : Line) (after : Option Begun) (printed : List Event) (fault : Fault) → Stops running line after printed fault → IsRefused running line → ⊥
stops_refused None line after printed fault h r = h
stops_refused (Some (Whole s)) line after printed fault (timely, (q, end, n, size, over, e, f)) r =
    elim (whole_refuses s line r) [ inl late ↦ both_ways _ late timely | inr crowded ↦ crowded_overfills s.row s.past line q printed end n size crowded over ]
stops_refused (Some (Alone s)) line after printed fault (timely, (q, step, e, f)) r =
    elim (alone_refuses s line r) [ inl late ↦ both_ways _ late timely | inr crowded ↦ crowded_stores s.row s.past line q printed crowded step ]

stops_refused_by : (t : Sessions) (line : Line) (at : Option ℕ) (u : Sessions) (printed : List Event) (fault : Fault) → StopsOne t line at u printed fault → RefusesOne t line at → ⊥
stops_refused_by t line None u printed fault h r = h
stops_refused_by t line (Some n) u printed fault (turn, (s, h, e)) (inl late) = both_ways (is_in_turn t line) late turn
stops_refused_by t line (Some n) u printed fault (turn, (s, h, e)) (inr r) = stops_refused (session_at n t.begun) line (Some s) printed fault h r

-- so in a whole script
pub script_stops_refused : (t : Sessions) (line : Line) (u : Sessions) (printed : List Event) (fault : Fault) → ScriptStops t line u printed fault → ScriptRefuses t line → ⊥
script_stops_refused t line u printed fault h r = stops_refused_by t line (session_in line) u printed fault h r
