-- How a line leads: it is skipped, it begins a session, it is one of the session that runs, or it makes this one coarse.
use Rattle.std.proofs.Common.{◌≡◌, ℕ, List, [], Option, Some, None, refl}
use Rattle.script_reader.specs.declared.line.Line.{Line}
use Rattle.script_reader.specs.declared.line.Line.TheVariants as lines
use Rattle.script_reader.specs.declared.event.Event.{Event}
use Rattle.script_reader.specs.Openings.{Openings, first_past}
use Rattle.script_reader.specs.Alone.{fresh_alone}
use Rattle.script_reader.specs.Scripts.{Begun, Whole, Alone, GoesOn, made_coarse, Leads}
pub use Rattle.script_reader.specs.Scripts.{IsNew}

-- a new session that is made coarse is new
new_coarse : (o : Openings) (s : Begun) → IsNew o s → IsNew o (made_coarse s)
new_coarse o (Whole s) (lawful, can, e) = (lawful, record { agree = can.agree; count = can.count; end = can.end; short = can.short }, e)
new_coarse o (Alone s) new = new

pub led : {P : Type 0} (o : Openings) (running : Option Begun) (line : Line) (after : Option Begun) (printed : List Event) → Leads o running line after printed
    → (line ≡ lines.Skip → after ≡ running → printed ≡ [] → P)
    → ((s : Begun) → running ≡ None → IsNew o s → after ≡ Some s → printed ≡ [] → P)
    → ((s : Begun) → running ≡ Some s → GoesOn s line after printed → P)
    → ((s : Begun) (session : ℕ) → running ≡ Some s → line ≡ lines.Coarse session → IsNew o s → IsNew o (made_coarse s) → after ≡ Some (made_coarse s) → printed ≡ [] → P) → P
led o None lines.Skip after printed h skips begins goes coarse = skips refl h.0 h.1
led o (Some s) lines.Skip after printed h skips begins goes coarse = skips refl h.0 h.1
led o None (lines.Session row) after printed h skips begins goes coarse =
    begins (Whole (record { row = row; past = first_past row (o row.id) })) refl (h.0.0, h.0.1, refl) h.0.2 h.1
led o None (lines.LowSession row next held) after printed h skips begins goes coarse =
    begins (Alone (record { row = row; past = fresh_alone next held })) refl (next, held, refl) h.0.1 h.1
led o None (lines.Coarse session) after printed h skips begins goes coarse = absurd h
led o None (lines.Look session m w z) after printed h skips begins goes coarse = absurd h
led o None (lines.Told session m w fault told z) after printed h skips begins goes coarse = absurd h
led o None (lines.Step session m w) after printed h skips begins goes coarse = absurd h
led o None (lines.Gone session m) after printed h skips begins goes coarse = absurd h
led o None (lines.High session m) after printed h skips begins goes coarse = absurd h
led o None (lines.Carry session back) after printed h skips begins goes coarse = absurd h
led o None (lines.Return session m back) after printed h skips begins goes coarse = absurd h
led o None (lines.Done session m t) after printed h skips begins goes coarse = absurd h
led o None (lines.Restart session m) after printed h skips begins goes coarse = absurd h
led o None (lines.ReceiverRestart session m) after printed h skips begins goes coarse = absurd h
led o (Some s) (lines.Session row) after printed h skips begins goes coarse = goes s refl h
led o (Some s) (lines.LowSession row next held) after printed h skips begins goes coarse = goes s refl h
led o (Some s) (lines.Coarse session) after printed h skips begins goes coarse = coarse s session refl refl h.0.1 (new_coarse o s h.0.1) h.0.2 h.1
led o (Some s) (lines.Look session m w z) after printed h skips begins goes coarse = goes s refl h
led o (Some s) (lines.Told session m w fault told z) after printed h skips begins goes coarse = goes s refl h
led o (Some s) (lines.Step session m w) after printed h skips begins goes coarse = goes s refl h
led o (Some s) (lines.Gone session m) after printed h skips begins goes coarse = goes s refl h
led o (Some s) (lines.High session m) after printed h skips begins goes coarse = goes s refl h
led o (Some s) (lines.Carry session back) after printed h skips begins goes coarse = goes s refl h
led o (Some s) (lines.Return session m back) after printed h skips begins goes coarse = goes s refl h
led o (Some s) (lines.Done session m t) after printed h skips begins goes coarse = goes s refl h
led o (Some s) (lines.Restart session m) after printed h skips begins goes coarse = goes s refl h
led o (Some s) (lines.ReceiverRestart session m) after printed h skips begins goes coarse = goes s refl h
